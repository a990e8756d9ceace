use Rattle.std.proofs.Common.{◌≡◌, ap, ◌∙◌, arith}
use Rattle.std.specs.Vec.Iter.{into_iter_items}
use Rattle.std.proofs.lemmas.Result.{IfOk-weaker, IfErr-weaker}
use Rattle.nx_parts.specs.Partitioning.{holder}
use Rattle.nx_parts.specs.Marks.{holder_by_marks}
use Rattle.nx_records.specs.declared.error.StoreError.{StoreError}
use Rattle.nx_records.specs.Records.{settings_of}
use Rattle.nx_piece.specs.Gapped.{item_count}
use Rattle.nx_piece.specs.Items.{gapped_of}
use Rattle.nx_hold.specs.Changes.{place_of}
use Rattle.nx_drafts.specs.Draft.{Draft, draft_needs}
use Rattle.nx_divide.specs.Marked.{IsMarkedDivision}
use Rattle.nx_divide.specs.Dividing.{PutsRowAt, NotPutAt}
use Rattle.nx_divide.proofs.TopLemmas.{some_draft, some_row, few_parts, division_marked, some_roots, items_few, parts_come, parts_keep, parts_cause}
use Rattle.nx_divide.proofs.dividing.put_parts.Goals as goal

pub mark_members-requires : goal.mark_members-requires
mark_members-requires g c = few_parts (settings_of c.args.records.now) c.args.records.now.head_range.settings.k.1 c.args.piece c.args.parts.now c.args.raised c.requires.division c.requires.piece c.requires.near c.requires.few

pub put_division-requires-clause-some : goal.put_division-requires-clause-some
put_division-requires-clause-some g c = some_roots c.in-Ok-items_from.roots.items c.args.piece.body.roots (c.in-Ok-items_from.ensures ∙ c.into_vec-2.ensures) c.requires.piece.body.some

pub put_division-requires-clause-small : goal.put_division-requires-clause-small
put_division-requires-clause-small g c =
    let same : gapped_of c.in-Ok-items_from.roots.items ≡ c.args.piece.body.roots = c.in-Ok-items_from.ensures ∙ c.into_vec-2.ensures in
    let e : item_count (gapped_of c.in-Ok-items_from.roots.items) ≡ item_count c.args.piece.body.roots = ap item_count same in
    omega (arith, e, items_few c.args.piece c.requires.piece)

pub put_division-requires-clause-marked : goal.put_division-requires-clause-marked
put_division-requires-clause-marked g c = (
  (some_draft (settings_of c.args.records.now) c.args.records.now.head_range.settings.k.1 c.args.piece c.args.parts.now c.args.raised c.requires.division c.requires.piece c.requires.near).draft,
  division_marked c.args.raised c.in-Ok.mark c.below.result.now c.args.parts.now c.args.piece.body.roots (gapped_of c.in-Ok-items_from.roots.items) c.args.piece.proxies (into_iter_items c.into_iter-olds.result) (some_draft (settings_of c.args.records.now) c.args.records.now.head_range.settings.k.1 c.args.piece c.args.parts.now c.args.raised c.requires.division c.requires.piece c.requires.near).draft c.in-Ok.ensures.marked c.below.ensures
      (c.in-Ok-items_from.ensures ∙ c.into_vec-2.ensures) (c.into_iter-olds.ensures.rest ∙ c.into_vec.ensures) (some_row (settings_of c.args.records.now) c.args.records.now.head_range.settings.k.1 c.args.piece c.args.parts.now c.args.raised c.requires.division c.requires.piece c.requires.near),
)

pub returns-clause-ok : goal.returns-clause-ok
returns-clause-ok g c =
    IfOk-weaker c.put_division.result
    (λ row. (drawn : Draft (Unit {0})) → IsMarkedDivision c.args.raised (holder_by_marks c.below.result.now) (gapped_of c.in-Ok-items_from.roots.items) (into_iter_items c.into_iter-olds.result) drawn → PutsRowAt g.D.Disk (place_of c.args.rid) c.args.records.now c.put_division.new.records c.args.disk.now c.put_division.new.disk drawn row)
    (λ row. (drawn : Draft (Unit {0})) → IsMarkedDivision c.args.raised (holder c.args.parts.now) c.args.piece.body.roots c.args.piece.proxies drawn → PutsRowAt g.D.Disk (place_of c.args.rid) c.args.records.now c.put_division.new.records c.args.disk.now c.put_division.new.disk drawn row)
    (λ row puts drawn marked. puts drawn
    (division_marked c.args.raised c.in-Ok.mark c.below.result.now c.args.parts.now c.args.piece.body.roots (gapped_of c.in-Ok-items_from.roots.items) c.args.piece.proxies (into_iter_items c.into_iter-olds.result) drawn c.in-Ok.ensures.marked c.below.ensures
    (c.in-Ok-items_from.ensures ∙ c.into_vec-2.ensures) (c.into_iter-olds.ensures.rest ∙ c.into_vec.ensures) marked))
    c.put_division.ensures.ok

pub returns-clause-refused : goal.returns-clause-refused
returns-clause-refused g c =
    IfErr-weaker c.put_division.result
    (λ (e : StoreError). (drawn : Draft (Unit {0})) → IsMarkedDivision c.args.raised (holder_by_marks c.below.result.now) (gapped_of c.in-Ok-items_from.roots.items) (into_iter_items c.into_iter-olds.result) drawn → NotPutAt g.D.Disk (place_of c.args.rid) (draft_needs drawn) e c.args.records.now c.put_division.new.records c.args.disk.now c.put_division.new.disk)
    (λ (e : StoreError). (drawn : Draft (Unit {0})) → IsMarkedDivision c.args.raised (holder c.args.parts.now) c.args.piece.body.roots c.args.piece.proxies drawn → NotPutAt g.D.Disk (place_of c.args.rid) (draft_needs drawn) e c.args.records.now c.put_division.new.records c.args.disk.now c.put_division.new.disk)
    (λ e refused drawn marked. refused drawn
    (division_marked c.args.raised c.in-Ok.mark c.below.result.now c.args.parts.now c.args.piece.body.roots (gapped_of c.in-Ok-items_from.roots.items) c.args.piece.proxies (into_iter_items c.into_iter-olds.result) drawn c.in-Ok.ensures.marked c.below.ensures
    (c.in-Ok-items_from.ensures ∙ c.into_vec-2.ensures) (c.into_iter-olds.ensures.rest ∙ c.into_vec.ensures) marked))
    c.put_division.ensures.refused

pub returns-clause-comes : goal.returns-clause-comes
returns-clause-comes g c =
    parts_come g.D.Disk (settings_of c.args.records.now) c.args.records.now.head_range.settings.k.1 c.args.piece c.args.parts.now c.args.raised c.requires.division c.requires.piece c.requires.near (place_of c.args.rid) c.args.records.now c.put_division.new.records c.args.disk.now c.put_division.new.disk c.put_division.result (returns-clause-ok g c)

pub returns-clause-keeps : goal.returns-clause-keeps
returns-clause-keeps g c =
    parts_keep g.D.Disk (settings_of c.args.records.now) c.args.records.now.head_range.settings.k.1 c.args.piece c.args.parts.now c.args.raised c.requires.division c.requires.piece c.requires.near (place_of c.args.rid) c.args.records.now c.put_division.new.records c.args.disk.now c.put_division.new.disk c.put_division.result (returns-clause-ok g c)

pub returns-clause-cause : goal.returns-clause-cause
returns-clause-cause g c =
    parts_cause g.D.Disk (settings_of c.args.records.now) c.args.records.now.head_range.settings.k.1 c.args.piece c.args.parts.now c.args.raised c.requires.division c.requires.piece c.requires.near (place_of c.args.rid) c.args.records.now c.put_division.new.records c.args.disk.now c.put_division.new.disk c.put_division.result (returns-clause-refused g c)
