-- A layout's row changes as what is drawn, whatever the places are.
use Rattle.std.proofs.Common.{◌≡◌, ℕ, zero, suc, ◌-◌, nat_lt, if◌then◌else◌, Bool, true, false, refl, sym, ap, ◌∙◌}
use Rattle.nx_matrix.specs.declared.rule.Entry.{Entry}
use Rattle.nx_matrix.specs.declared.rule.Entry.TheVariants.{Standalone, Cluster, Free}
use Rattle.nx_cuts.specs.Cut.{CutForest, Bare, Grown, Kept, width}
use Rattle.nx_cuts.specs.Rows.{joined_row, first, behind}
use Rattle.nx_layouts.specs.Layout.{RecordPlace, LaidNode, Layout, without_places}
use Rattle.nx_drawn.specs.Edits.{placed_beside, placed_among, planted_row, kept, removed_row}
use Rattle.nx_drawn.specs.Laws.{MarksAreLeft}
use Rattle.nx_layouts.proofs.DrawnLemmas.{drawn_wide}

pub bare_joined : (a b : Layout) → without_places (joined_row a b) ≡ joined_row (without_places a) (without_places b)
bare_joined Bare b = refl
bare_joined (Grown n d s) b = ap (Grown n.node (without_places d)) (bare_joined s b)
bare_joined (Kept p m s) b = ap (Kept tt (without_places m)) (bare_joined s b)

pub bare_first : (i : ℕ) (a : Layout) → without_places (first i a) ≡ first i (without_places a)
bare_first zero a = refl
bare_first (suc i) Bare = refl
bare_first (suc i) (Grown n d s) = ap (Grown n.node (without_places d)) (bare_first i s)
bare_first (suc i) (Kept p m s) = refl

pub bare_behind : (i : ℕ) (a : Layout) → without_places (behind i a) ≡ behind i (without_places a)
bare_behind zero a = refl
bare_behind (suc i) Bare = refl
bare_behind (suc i) (Grown n d s) = bare_behind i s
bare_behind (suc i) (Kept p m s) = refl

bare_beside : (alone : RecordPlace) (entry : Entry) (node : LaidNode) (s : Layout) → without_places (placed_beside alone entry node s) ≡ placed_beside tt entry node.node (without_places s)
bare_beside alone Standalone node s = refl
bare_beside alone Cluster node s = refl
bare_beside alone Free node s = refl

bare_among : (alone second mark : RecordPlace) (entry : Entry) (node : LaidNode) (i : ℕ) (m s : Layout)
    → without_places (placed_among alone second mark entry node i m s) ≡ placed_among tt tt tt entry node.node i (without_places m) (without_places s)
bare_among alone second mark Free node i m s =
    ap (λ (c : CutForest). Kept tt c (without_places s))
    (bare_joined (first i m) (Grown node Bare (behind i m)) ∙ ap (λ (c : CutForest). joined_row c (Grown node.node Bare (without_places (behind i m)))) (bare_first i m)
    ∙ ap (λ (c : CutForest). joined_row (first i (without_places m)) (Grown node.node Bare c)) (bare_behind i m))
bare_among alone second mark Standalone node i m s =
    ap (λ (c : CutForest). Kept tt c (Kept tt (Grown node.node Bare Bare) (Kept tt (without_places (behind i m)) (without_places s)))) (bare_first i m)
    ∙ ap (λ (c : CutForest). Kept tt (first i (without_places m)) (Kept tt (Grown node.node Bare Bare) (Kept tt c (without_places s)))) (bare_behind i m)
bare_among alone second mark Cluster node i m s =
    ap (λ (c : CutForest). Kept tt c (Grown node.node Bare (Kept tt (without_places (behind i m)) (without_places s)))) (bare_first i m)
    ∙ ap (λ (c : CutForest). Kept tt (first i (without_places m)) (Grown node.node Bare (Kept tt c (without_places s)))) (bare_behind i m)

-- the same test, and the same on both sides of it
both_ways : (t : Bool) (x y : Layout) (a b : CutForest) → without_places x ≡ a → without_places y ≡ b → without_places (if t then x else y) ≡ (if t then a else b)
both_ways true x y a b e f = e
both_ways false x y a b e f = f

pub bare_planted : (alone second : RecordPlace) (entry : Entry) (node : LaidNode) (i : ℕ) (a : Layout) → without_places (planted_row alone second entry node i a) ≡ planted_row tt tt entry node.node i (without_places a)
bare_planted alone second entry node zero a = bare_beside alone entry node a
bare_planted alone second entry node (suc i) Bare = refl
bare_planted alone second entry node (suc i) (Grown n d s) = ap (Grown n.node (without_places d)) (bare_planted alone second entry node i s)
bare_planted alone second entry node (suc i) (Kept p m s) =
    both_ways (nat_lt (suc i) (width m)) (placed_among alone second p entry node (suc i) m s) (Kept p m (planted_row alone second entry node (suc i - width m) s))
    (placed_among tt tt tt entry node.node (suc i) (without_places m) (without_places s)) (Kept tt (without_places m) (planted_row tt tt entry node.node (suc i - width m) (without_places s)))
    (bare_among alone second p entry node (suc i) m s) (ap (Kept tt (without_places m)) (bare_planted alone second entry node (suc i - width m) s))
    ∙ ap (λ (w : ℕ). if nat_lt (suc i) w then placed_among tt tt tt entry node.node (suc i) (without_places m) (without_places s) else Kept tt (without_places m) (planted_row tt tt entry node.node (suc i - w) (without_places s)))
    (sym (drawn_wide m))

bare_kept : (p : RecordPlace) (m s : Layout) → without_places (kept p m s) ≡ kept tt (without_places m) (without_places s)
bare_kept p Bare s = refl
bare_kept p (Grown n d r) s = refl
bare_kept p (Kept q m r) s = refl

pub bare_removed : (i : ℕ) (a : Layout) → without_places (removed_row i a) ≡ removed_row i (without_places a)
bare_removed i Bare = refl
bare_removed zero (Grown n d s) = refl
bare_removed (suc i) (Grown n d s) = ap (Grown n.node (without_places d)) (bare_removed i s)
bare_removed i (Kept p m s) =
    both_ways (nat_lt i (width m)) (kept p (removed_row i m) s) (Kept p m (removed_row (i - width m) s))
    (kept tt (removed_row i (without_places m)) (without_places s)) (Kept tt (without_places m) (removed_row (i - width m) (without_places s)))
    (bare_kept p (removed_row i m) s ∙ ap (λ (c : CutForest). kept tt c (without_places s)) (bare_removed i m)) (ap (Kept tt (without_places m)) (bare_removed (i - width m) s))
    ∙ ap (λ (w : ℕ). if nat_lt i w then kept tt (removed_row i (without_places m)) (without_places s) else Kept tt (without_places m) (removed_row (i - w) (without_places s))) (sym (drawn_wide m))

pub marks_left : MarksAreLeft
marks_left row = record { joined = bare_joined row; planted = λ alone second entry node i. bare_planted alone second entry node i row; removed = λ i. bare_removed i row }
