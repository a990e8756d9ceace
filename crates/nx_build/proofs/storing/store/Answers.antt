use Rattle.std.proofs.Common.{◌≡◌, ◌<◌, ◌^◌, [], ◌∷◌, ◌++◌, List, length, refl, sym, ap, subst, ◌∙◌, arith}
use Rattle.std.specs.Vec.Iter.{into_iter_items}
use Rattle.nx_tree.specs.Forest.{OrderedTree}
use Rattle.nx_parts.specs.declared.interval.Interval.{Interval}
use Rattle.nx_parts.specs.Partitioning.{holder}
use Rattle.nx_records.specs.Records.{settings_of}
use Rattle.nx_build.proofs.StoreLemmas.{root, parts_few, one_few, one_short, root_held, root_one, root_stored, root_keeps, root_refused}
use Rattle.nx_build.proofs.storing.store.Goals as goal

pub mark_members-requires : goal.mark_members-requires
mark_members-requires g c =
    subst (λ (l : List Interval). length l < 2 ^ 32) (sym c.as_slice.ensures)
    (parts_few (settings_of c.args.records.now).k c.args.tree c.args.parts.now c.args.records.now.head_range.settings.k.1 c.requires.feasible c.requires.document)

pub put_members-requires-clause-few : goal.put_members-requires-clause-few
put_members-requires-clause-few g c =
    let alone : (into_iter_items c.into_iter-trees.result) ≡ c.args.tree ∷ [] = c.into_iter-trees.ensures.rest ∙ c.in-Ok-push.ensures.items ∙ ap (λ (l : List OrderedTree). l ++ c.args.tree ∷ []) c.new-trees.ensures.items in
    one_few c.args.tree (into_iter_items c.into_iter-trees.result) alone c.requires.document

pub put_members-requires-clause-short : goal.put_members-requires-clause-short
put_members-requires-clause-short g c =
    let alone : (into_iter_items c.into_iter-trees.result) ≡ c.args.tree ∷ [] = c.into_iter-trees.ensures.rest ∙ c.in-Ok-push.ensures.items ∙ ap (λ (l : List OrderedTree). l ++ c.args.tree ∷ []) c.new-trees.ensures.items in
    one_short c.args.tree (into_iter_items c.into_iter-trees.result) alone c.requires.document

pub put_members-requires-clause-within : goal.put_members-requires-clause-within
put_members-requires-clause-within g c =
    let alone : (into_iter_items c.into_iter-trees.result) ≡ c.args.tree ∷ [] = c.into_iter-trees.ensures.rest ∙ c.in-Ok-push.ensures.items ∙ ap (λ (l : List OrderedTree). l ++ c.args.tree ∷ []) c.new-trees.ensures.items in
    let one : length (into_iter_items c.into_iter-trees.result) ≡ 1 = ap length alone in
    omega (arith, one)

pub put_members-requires-clause-marked : goal.put_members-requires-clause-marked
put_members-requires-clause-marked g c =
    let alone : (into_iter_items c.into_iter-trees.result) ≡ c.args.tree ∷ [] = c.into_iter-trees.ensures.rest ∙ c.in-Ok-push.ensures.items ∙ ap (λ (l : List OrderedTree). l ++ c.args.tree ∷ []) c.new-trees.ensures.items in (
      root (settings_of c.args.records.now).k c.args.tree c.args.parts.now c.args.records.now.head_range.settings.k.1 c.requires.feasible,
      (root_held (settings_of c.args.records.now).k c.args.tree c.args.parts.now c.args.records.now.head_range.settings.k.1 c.requires.feasible c.in-Ok.mark c.from_ref.result.now (into_iter_items c.into_iter-trees.result)
          (λ path. c.in-Ok.ensures.marked path ∙ ap (λ (l : List Interval). holder l path) c.as_slice.ensures) c.from_ref.ensures.value alone),
    )

pub returns-clause-roots : goal.returns-clause-roots
returns-clause-roots g c =
    let alone : (into_iter_items c.into_iter-trees.result) ≡ c.args.tree ∷ [] = c.into_iter-trees.ensures.rest ∙ c.in-Ok-push.ensures.items ∙ ap (λ (l : List OrderedTree). l ++ c.args.tree ∷ []) c.new-trees.ensures.items in
    root_one (settings_of c.args.records.now).k c.args.tree c.args.parts.now c.args.records.now.head_range.settings.k.1 c.requires.feasible g.D.Disk c.args.records.now c.put_members.new.records c.args.disk.now c.put_members.new.disk c.from_ref.result.now (into_iter_items c.into_iter-trees.result)
    (root_held (settings_of c.args.records.now).k c.args.tree c.args.parts.now c.args.records.now.head_range.settings.k.1 c.requires.feasible c.in-Ok.mark c.from_ref.result.now (into_iter_items c.into_iter-trees.result)
    (λ path. c.in-Ok.ensures.marked path ∙ ap (λ (l : List Interval). holder l path) c.as_slice.ensures) c.from_ref.ensures.value alone)
    c.put_members.result c.put_members.ensures.ok

pub returns-clause-ok : goal.returns-clause-ok
returns-clause-ok g c =
    let alone : (into_iter_items c.into_iter-trees.result) ≡ c.args.tree ∷ [] = c.into_iter-trees.ensures.rest ∙ c.in-Ok-push.ensures.items ∙ ap (λ (l : List OrderedTree). l ++ c.args.tree ∷ []) c.new-trees.ensures.items in
    root_stored (settings_of c.args.records.now).k c.args.tree c.args.parts.now c.args.records.now.head_range.settings.k.1 c.requires.feasible g.D.Disk c.args.records.now c.put_members.new.records c.args.disk.now c.put_members.new.disk c.from_ref.result.now (into_iter_items c.into_iter-trees.result)
    (root_held (settings_of c.args.records.now).k c.args.tree c.args.parts.now c.args.records.now.head_range.settings.k.1 c.requires.feasible c.in-Ok.mark c.from_ref.result.now (into_iter_items c.into_iter-trees.result)
    (λ path. c.in-Ok.ensures.marked path ∙ ap (λ (l : List Interval). holder l path) c.as_slice.ensures) c.from_ref.ensures.value alone)
    refl c.requires.document c.put_members.result c.put_members.ensures.ok

pub returns-clause-keeps : goal.returns-clause-keeps
returns-clause-keeps g c =
    let alone : (into_iter_items c.into_iter-trees.result) ≡ c.args.tree ∷ [] = c.into_iter-trees.ensures.rest ∙ c.in-Ok-push.ensures.items ∙ ap (λ (l : List OrderedTree). l ++ c.args.tree ∷ []) c.new-trees.ensures.items in
    root_keeps (settings_of c.args.records.now).k c.args.tree c.args.parts.now c.args.records.now.head_range.settings.k.1 c.requires.feasible g.D.Disk c.args.records.now c.put_members.new.records c.args.disk.now c.put_members.new.disk c.from_ref.result.now (into_iter_items c.into_iter-trees.result)
    (root_held (settings_of c.args.records.now).k c.args.tree c.args.parts.now c.args.records.now.head_range.settings.k.1 c.requires.feasible c.in-Ok.mark c.from_ref.result.now (into_iter_items c.into_iter-trees.result)
    (λ path. c.in-Ok.ensures.marked path ∙ ap (λ (l : List Interval). holder l path) c.as_slice.ensures) c.from_ref.ensures.value alone)
    c.put_members.result c.put_members.ensures.ok c.put_members.ensures.changes

pub returns-clause-refused : goal.returns-clause-refused
returns-clause-refused g c =
    let alone : (into_iter_items c.into_iter-trees.result) ≡ c.args.tree ∷ [] = c.into_iter-trees.ensures.rest ∙ c.in-Ok-push.ensures.items ∙ ap (λ (l : List OrderedTree). l ++ c.args.tree ∷ []) c.new-trees.ensures.items in
    root_refused (settings_of c.args.records.now).k c.args.tree c.args.parts.now c.args.records.now.head_range.settings.k.1 c.requires.feasible g.D.Disk c.args.records.now c.put_members.new.records c.args.disk.now c.put_members.new.disk c.from_ref.result.now (into_iter_items c.into_iter-trees.result)
    (root_held (settings_of c.args.records.now).k c.args.tree c.args.parts.now c.args.records.now.head_range.settings.k.1 c.requires.feasible c.in-Ok.mark c.from_ref.result.now (into_iter_items c.into_iter-trees.result)
    (λ path. c.in-Ok.ensures.marked path ∙ ap (λ (l : List Interval). holder l path) c.as_slice.ensures) c.from_ref.ensures.value alone)
    c.put_members.result c.put_members.ensures.refused
