-- The parts of a document that records hold.
use Rattle.std.proofs.Common.{◌≡◌, ap, subst, arith}
use Rattle.nx_cuts.specs.Cut.{CutTree, part_weight, AreParts}
use Rattle.nx_layouts.specs.Layout.{RecordPlace, Layout, Stock, without_places, IsLaidOutAs}
use Rattle.nx_drawn.specs.Splits.{whole_document}

-- a document that records hold has parts that aren't too heavy
pub laid_parts : (stock : Stock) (root : RecordPlace) (document : CutTree) (layout : Layout) → IsLaidOutAs stock root document layout → AreParts stock.most (whole_document document)
laid_parts stock root document layout h =
    let l = h.light in
    let below : AreParts stock.most document.below = subst (AreParts stock.most) h.same l.3.0 in
    let same : part_weight (without_places layout) ≡ part_weight document.below = ap part_weight h.same in
    let x = l.2 in (omega arith, tt, omega (arith, same, x), (below, tt), tt)
