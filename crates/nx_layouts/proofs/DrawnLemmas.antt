-- What is drawn of rows.
use Rattle.std.proofs.Common.{◌≡◌, ℕ, zero, suc, ◌+◌, refl, ap, ap₂}
use Rattle.nx_cuts.specs.Cut.{Bare, Grown, Kept, width, AreFree, CutForest}
use Rattle.nx_cuts.specs.Rows.{joined_row, first, behind}
use Rattle.nx_layouts.specs.Layout.{Layout, without_places}
use Rattle.nx_layouts.specs.Replace.{joined_layout}
use Rattle.nx_layouts.specs.Drawn.{RowsAreDrawnAlike}

pub drawn_wide : (row : Layout) → width (without_places row) ≡ width row
drawn_wide Bare = refl
drawn_wide (Grown n b s) = ap (λ (w : ℕ). 1 + w) (drawn_wide s)
drawn_wide (Kept p m s) = ap₂ (λ (v w : ℕ). v + w) (drawn_wide m) (drawn_wide s)

pub drawn_free : (row : Layout) → AreFree (without_places row) → AreFree row
drawn_free Bare h = tt
drawn_free (Grown n b s) h = drawn_free s h
drawn_free (Kept p m s) h = absurd h

pub free_drawn : (row : Layout) → AreFree row → AreFree (without_places row)
free_drawn Bare h = tt
free_drawn (Grown n b s) h = free_drawn s h
free_drawn (Kept p m s) h = absurd h

-- Rows that are joined and cut in two:

drawn_joined : (row last : Layout) → without_places (joined_layout row last) ≡ joined_row (without_places row) (without_places last)
drawn_joined Bare last = refl
drawn_joined (Grown n b s) last = ap (λ (c : CutForest). Grown n.node (without_places b) c) (drawn_joined s last)
drawn_joined (Kept p m s) last = ap (λ (c : CutForest). Kept tt (without_places m) c) (drawn_joined s last)

drawn_front : (row : Layout) (n : ℕ) → without_places (first n row) ≡ first n (without_places row)
drawn_front row zero = refl
drawn_front Bare (suc n) = refl
drawn_front (Grown m b s) (suc n) = ap (λ (c : CutForest). Grown m.node (without_places b) c) (drawn_front s n)
drawn_front (Kept p m s) (suc n) = refl

drawn_back : (row : Layout) (n : ℕ) → without_places (behind n row) ≡ behind n (without_places row)
drawn_back row zero = refl
drawn_back Bare (suc n) = refl
drawn_back (Grown m b s) (suc n) = drawn_back s n
drawn_back (Kept p m s) (suc n) = refl

pub rows_are_drawn_alike : RowsAreDrawnAlike
rows_are_drawn_alike row = record { joined = drawn_joined row; front = drawn_front row; back = drawn_back row }
