use Rattle.std.proofs.Common.{arith, ℕ, List, ap, ◌∙◌}
use Rattle.std.specs.List.{insert}
use Rattle.nx_piece.specs.Gapped.{Gapped, GappedTree, gapped_width, grown_of}
use Rattle.nx_piece_edits.proofs.SetLemmas.{pair}
use Rattle.nx_piece_edits.proofs.DivideLemmas.{grown_width, root_is}
use Rattle.nx_piece_edits.proofs.roots.plant_root.Goals as goal

pub insert-requires : goal.insert-requires
insert-requires c =
    let wide = ap gapped_width c.into_vec-roots.ensures in
    let count = grown_width c.into_vec-roots.result.items in
    let index = c.from.ensures in
    let within = c.requires in
    omega (arith, wide, count, index, within)

pub returns : goal.returns
returns c =
    let roots : List GappedTree = c.into_vec-roots.result.items in
    root_is c.args.piece c.args.member (record { node = c.args.node; far = c.args.far }) roots c.from_vec.result c.into_vec-roots.ensures c.requires
    (c.from_vec.ensures ∙ ap grown_of c.in_ok-insert.ensures.items
    ∙ ap (λ (i : ℕ). grown_of (insert roots i (pair (record { node = c.args.node; far = c.args.far }) c.new-children.result))) c.from.ensures
    ∙ ap (λ (b : Gapped). grown_of (insert roots c.args.member (pair (record { node = c.args.node; far = c.args.far }) b))) c.new-children.ensures)
