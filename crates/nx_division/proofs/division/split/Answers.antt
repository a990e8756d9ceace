use Rattle.std.proofs.Common.{◌≡◌, ◌++◌, [], List, sym, subst, ◌∙◌}
use Rattle.nx_sketch.specs.Sketch.{placed}
use Rattle.nx_sketch.specs.Separator.{point}
use Rattle.nx_sketch.specs.Split.{IsDivision}
use Rattle.nx_division.specs.declared.cut.Cut.{Cut}
use Rattle.nx_division.specs.Drawn.{drawn, drawn_intervals}
use Rattle.nx_division.specs.Divided.{IsDrawnDivision}
use Rattle.nx_division.proofs.SpotLemmas.{bare-drawn, take-front}
use Rattle.nx_division.proofs.SplitLemmas.{drawn_division, flat_of}
use Rattle.nx_division.proofs.division.split.Goals as goal

pub point-t-requires : goal.point-t-requires
point-t-requires c = flat_of c.args.k c.args.spots.now c.requires.sketch

pub returns : goal.returns
returns c = λ s is sketch light.
    let cuts = c.deref.result.now in
    let raised = c.in_ok-raised.raised in
    let same : cuts ≡ c.draw.new.cuts = c.deref.ensures.value ∙ take-front c.draw.new.cuts _ c.in_ok-cuts.cuts.len (c.draw.auto.cuts ∙ c.deref_mut.ensures.len) in
    let t = c.point-t.result in
    let t_is : t ≡ point (placed s) c.args.target = c.point-t.ensures s is in
    let divided : IsDrawnDivision c.args.k c.args.room (point (placed s) c.args.target) c.args.tolerance s (drawn s cuts) raised =
    subst (λ n. IsDrawnDivision c.args.k c.args.room n c.args.tolerance s (drawn s cuts) raised) t_is
    (subst (λ (q : List Cut). IsDrawnDivision c.args.k c.args.room t c.args.tolerance s (drawn s q) raised) (sym same) (c.in_ok-raised.ensures s is sketch light)) in
    let found : c.write.new.found ≡ drawn_intervals [] (drawn s cuts) = c.in_ok-write.ensures.found s is ∙ (λ i. c.new-parts.ensures i ++ drawn_intervals (c.new-path.ensures.items i) (drawn s cuts)) in
    subst (λ parts. IsDivision c.args.k (placed s) c.args.room c.args.target c.args.tolerance parts raised) (sym found)
    (drawn_division c.args.k c.args.target c.args.tolerance s sketch c.args.room (drawn s cuts) raised (bare-drawn s cuts) divided)
