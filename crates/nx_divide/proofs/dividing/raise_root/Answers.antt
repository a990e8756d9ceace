use Rattle.std.proofs.Common.{List, None, refl, ap, subst}
use Rattle.std.specs.Option.{is_some}
use Rattle.std.specs.Vec.Iter.{into_iter_items}
use Rattle.std.proofs.lemmas.Result.{err_from_is_err_and}
use Rattle.nx_parts.specs.Marks.{holder_by_marks}
use Rattle.nx_records.specs.declared.error.StoreError.{StoreError}
use Rattle.nx_records.proofs.RefusalLemmas.{err_passed}
use Rattle.nx_piece.specs.declared.piece.Proxy.{Proxy}
use Rattle.nx_piece.specs.Items.{gapped_of}
use Rattle.nx_hold.specs.Changes.{place_of}
use Rattle.nx_drafts.specs.Draft.{Draft, draft_needs}
use Rattle.nx_divide.specs.Marked.{IsMarkedDraft}
use Rattle.nx_divide.specs.Putting.{PutsRow}
use Rattle.nx_divide.specs.Dividing.{NotPutAt}
use Rattle.nx_divide.proofs.CallLemmas.{put_read}
use Rattle.nx_divide.proofs.PlaceLemmas.{not_read}
use Rattle.nx_divide.proofs.RaisedLemmas.{raised_put, remove_not, walk_not}
use Rattle.nx_divide.proofs.dividing.raise_root.Goals as goal

pub returns-in_err-read-clause-refused : goal.returns-in_err-read-clause-refused
returns-in_err-read-clause-refused g c =
    err_passed c.from_residual.result
    (λ (e : StoreError). (drawn : Draft (Unit {0})) → IsMarkedDraft None (holder_by_marks c.args.marks.now) 0 (gapped_of c.args.roots.items) (into_iter_items c.args.olds.now) drawn → NotPutAt g.D.Disk (place_of c.args.rid) (draft_needs drawn) e c.args.records.now c.read.new.self c.args.disk.now c.read.new.disk)
    c.in_err-read.field-0.0 (err_from_is_err_and c.from_residual.result c.from_residual.ensures.1)
    (λ drawn m. not_read g.D.Disk c.args.records.now c.read.new.self c.args.disk.now c.read.new.disk (place_of c.args.rid) c.args.rid.page (draft_needs drawn) c.read.ensures.still c.in_err-read.field-0.0 c.in_err-read.ensures.refused)

pub returns-in_err-items-clause-refused : goal.returns-in_err-items-clause-refused
returns-in_err-items-clause-refused g c =
    err_passed c.from_residual-in_err-items.result
    (λ (e : StoreError). (drawn : Draft (Unit {0})) → IsMarkedDraft None (holder_by_marks c.args.marks.now) 0 (gapped_of c.args.roots.items) (into_iter_items c.args.olds.now) drawn → NotPutAt g.D.Disk (place_of c.args.rid) (draft_needs drawn) e c.args.records.now c.items_of.new.records c.args.disk.now c.items_of.new.disk)
    c.in_err-items.field-0.0 (err_from_is_err_and c.from_residual-in_err-items.result c.from_residual-in_err-items.ensures.1)
    (λ drawn m. walk_not {d = g.D.Disk} (place_of c.args.rid) (holder_by_marks c.args.marks.now) (gapped_of c.args.roots.items) (into_iter_items c.args.olds.now) drawn m (put_read {d = g.D.Disk} c.in_ok-read.ensures.ok.0 c.in_ok-read.ensures.ok.1 c.read.ensures.still) c.items_of.new.records c.items_of.new.disk c.in_err-items.field-0.0 (c.in_err-items.ensures.refused drawn m))

pub returns-in_err-remove_piece-clause-refused : goal.returns-in_err-remove_piece-clause-refused
returns-in_err-remove_piece-clause-refused g c =
    err_passed c.from_residual-in_err-remove_piece.result
    (λ (e : StoreError). (drawn : Draft (Unit {0})) → IsMarkedDraft None (holder_by_marks c.args.marks.now) 0 (gapped_of c.args.roots.items) (into_iter_items c.args.olds.now) drawn → NotPutAt g.D.Disk (place_of c.args.rid) (draft_needs drawn) e c.args.records.now c.remove_piece.new.records c.args.disk.now c.remove_piece.new.disk)
    c.in_err-remove_piece.field-0.0 (err_from_is_err_and c.from_residual-in_err-remove_piece.result c.from_residual-in_err-remove_piece.ensures.1)
    (λ drawn m. remove_not {d = g.D.Disk} (place_of c.args.rid) (holder_by_marks c.args.marks.now) (gapped_of c.args.roots.items) (into_iter_items c.args.olds.now) drawn m (put_read {d = g.D.Disk} c.in_ok-read.ensures.ok.0 c.in_ok-read.ensures.ok.1 c.read.ensures.still) c.in_ok-items.items c.items_of.new.proxies
    (subst (λ (l : List Proxy). PutsRow g.D.Disk c.read.new.self c.items_of.new.records c.read.new.disk c.items_of.new.disk drawn c.in_ok-items.items l c.items_of.new.proxies) c.new-proxies.ensures (c.in_ok-items.ensures.ok drawn m))
    c.remove_piece.new.records c.remove_piece.new.disk c.args.rid.page c.remove_piece.ensures.still c.in_err-remove_piece.field-0.0 c.in_err-remove_piece.ensures.refused)

pub returns-clause-ok : goal.returns-clause-ok
returns-clause-ok g c = λ drawn m. raised_put {d = g.D.Disk} (place_of c.args.rid) (holder_by_marks c.args.marks.now) (gapped_of c.args.roots.items) (into_iter_items c.args.olds.now) drawn m (put_read {d = g.D.Disk} c.in_ok-read.ensures.ok.0 c.in_ok-read.ensures.ok.1 c.read.ensures.still) c.in_ok-items.items c.items_of.new.proxies
    (subst (λ (l : List Proxy). PutsRow g.D.Disk c.read.new.self c.items_of.new.records c.read.new.disk c.items_of.new.disk drawn c.in_ok-items.items l c.items_of.new.proxies) c.new-proxies.ensures (c.in_ok-items.ensures.ok drawn m))
    (record { items = c.in_ok-items.items; proxies = c.items_of.new.proxies }) refl refl (λ saved now stands. ap is_some (c.in_ok-read.ensures.ok.2 saved now stands)) c.in_ok-remove_piece.ensures.keeps.0 c.in_ok-remove_piece.ensures.keeps.1 c.in_ok-remove_piece.ensures.keeps.2 c.in_ok-remove_piece.ensures.ok
