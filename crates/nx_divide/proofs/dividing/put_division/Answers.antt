use Rattle.std.proofs.Common.{ℕ, sym, subst}
use Rattle.std.specs.Prelude.{Option, IfErr, IfOk}
use Rattle.std.specs.Vec.Iter.{into_iter_items}
use Rattle.nx_parts.specs.Marks.{holder_by_marks}
use Rattle.nx_records.specs.declared.error.StoreError.{StoreError}
use Rattle.nx_piece.specs.Items.{gapped_of}
use Rattle.nx_hold.specs.Changes.{place_of}
use Rattle.nx_drafts.specs.Draft.{Draft, draft_needs}
use Rattle.nx_divide.specs.declared.dividing.Row.{Row}
use Rattle.nx_divide.specs.Marked.{HasMarkedDivision, IsMarkedDivision}
use Rattle.nx_divide.specs.Dividing.{NotPutAt, PutsRowAt}
use Rattle.nx_divide.proofs.dividing.put_division.Goals as goal

pub put_roots-requires-clause-marked : goal.put_roots-requires-clause-marked
put_roots-requires-clause-marked g c =
    subst (λ (o : Option ℕ). HasMarkedDivision o (holder_by_marks c.args.marks.now) (gapped_of c.args.roots.items) (into_iter_items c.args.olds.now)) c.in-None.is c.requires.marked

pub raise_root-requires-clause-marked : goal.raise_root-requires-clause-marked
raise_root-requires-clause-marked g c =
    subst (λ (o : Option ℕ). HasMarkedDivision o (holder_by_marks c.args.marks.now) (gapped_of c.args.roots.items) (into_iter_items c.args.olds.now)) c.in-Some.is c.requires.marked

pub returns-in-None-clause-ok : goal.returns-in-None-clause-ok
returns-in-None-clause-ok g c =
    subst (λ (o : Option ℕ). IfOk c.put_roots.result (λ (row : Row). (drawn : Draft (Unit {0})) → IsMarkedDivision o (holder_by_marks c.args.marks.now) (gapped_of c.args.roots.items) (into_iter_items c.args.olds.now) drawn → PutsRowAt g.D.Disk (place_of c.args.rid) c.args.records.now c.put_roots.new.records c.args.disk.now c.put_roots.new.disk drawn row))
    (sym c.in-None.is) c.put_roots.ensures.ok

pub returns-in-None-clause-refused : goal.returns-in-None-clause-refused
returns-in-None-clause-refused g c =
    subst (λ (o : Option ℕ). IfErr c.put_roots.result (λ (e : StoreError). (drawn : Draft (Unit {0})) → IsMarkedDivision o (holder_by_marks c.args.marks.now) (gapped_of c.args.roots.items) (into_iter_items c.args.olds.now) drawn → NotPutAt g.D.Disk (place_of c.args.rid) (draft_needs drawn) e c.args.records.now c.put_roots.new.records c.args.disk.now c.put_roots.new.disk))
    (sym c.in-None.is) c.put_roots.ensures.refused

pub returns-in-Some-clause-ok : goal.returns-in-Some-clause-ok
returns-in-Some-clause-ok g c =
    subst (λ (o : Option ℕ). IfOk c.raise_root.result (λ (row : Row). (drawn : Draft (Unit {0})) → IsMarkedDivision o (holder_by_marks c.args.marks.now) (gapped_of c.args.roots.items) (into_iter_items c.args.olds.now) drawn → PutsRowAt g.D.Disk (place_of c.args.rid) c.args.records.now c.raise_root.new.records c.args.disk.now c.raise_root.new.disk drawn row))
    (sym c.in-Some.is) c.raise_root.ensures.ok

pub returns-in-Some-clause-refused : goal.returns-in-Some-clause-refused
returns-in-Some-clause-refused g c =
    subst (λ (o : Option ℕ). IfErr c.raise_root.result (λ (e : StoreError). (drawn : Draft (Unit {0})) → IsMarkedDivision o (holder_by_marks c.args.marks.now) (gapped_of c.args.roots.items) (into_iter_items c.args.olds.now) drawn → NotPutAt g.D.Disk (place_of c.args.rid) (draft_needs drawn) e c.args.records.now c.raise_root.new.records c.args.disk.now c.raise_root.new.disk))
    (sym c.in-Some.is) c.raise_root.ensures.refused
