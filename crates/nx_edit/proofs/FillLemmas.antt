-- What is left of an interval has no tree outside of one.
use Rattle.std.proofs.Common.{◌≡◌, ℕ, ◌-◌, ◌<◌, [], ◌∷◌, sym, ap, ◌∙◌, subst, refl}
use Rattle.nx_cuts.specs.Cut.{CutForest, Bare, Grown, Kept, width, part_weight}
use Rattle.nx_cuts.specs.Rows.{changed_row}
use Rattle.nx_layouts.specs.Layout.{without_places}
use Rattle.nx_layouts.proofs.DrawnLemmas.{drawn_wide}
use Rattle.nx_drawn.specs.Edits.{kept, removed_row, deleted}
use Rattle.nx_edit.specs.Cutting.{LeftIsInterval}
use Rattle.nx_edit.proofs.CutLemmas.{if_less}

kept_weight : (c : CutForest) → part_weight (kept tt c Bare) ≡ 0
kept_weight Bare = refl
kept_weight (Grown n b s) = refl
kept_weight (Kept m c s) = refl

pub left_is_interval : LeftIsInterval
left_is_interval position [] members left less e =
    ap (λ (c : CutForest). part_weight c) e
    ∙ ap (λ (c : CutForest). part_weight c)
    (if_less position (width (without_places members)) (kept tt (removed_row position (without_places members)) Bare) (Kept tt (without_places members) (removed_row (position - width (without_places members)) Bare))
    (subst (λ (w : ℕ). position < w) (sym (drawn_wide members)) less))
    ∙ kept_weight (removed_row position (without_places members))
left_is_interval position (q ∷ path) members left less e =
    ap (λ (c : CutForest). part_weight c) e
    ∙ ap (λ (c : CutForest). part_weight c)
    (if_less position (width (without_places members)) (Kept tt (changed_row position (deleted (q ∷ path)) (without_places members)) Bare) (Kept tt (without_places members) (changed_row (position - width (without_places members)) (deleted (q ∷ path)) Bare))
    (subst (λ (w : ℕ). position < w) (sym (drawn_wide members)) less))
