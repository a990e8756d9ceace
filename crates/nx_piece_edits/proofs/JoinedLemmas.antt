-- Trees and gaps put beside each other.
use Rattle.std.proofs.Common.{◌≡◌, ℕ, zero, suc, ◌+◌, List, [], ◌∷◌, length, take, drop, refl, sym, ap, ap₂, ◌∙◌, arith}
use Rattle.std.proofs.lemmas.List.{drop_all, take_all}
use Rattle.nx_piece.specs.PieceNode.{PieceNode}
use Rattle.nx_piece.specs.declared.piece.Item.{Item}
use Rattle.nx_piece.specs.declared.piece.Item.TheVariants.{Tree, Run}
use Rattle.nx_piece.specs.Gapped.{Gapped, End, Grow, Gap, proxies_in, with_gap}
use Rattle.nx_piece.specs.Items.{gapped_of, with_items}
use Rattle.nx_piece.specs.Valid.{AreApart, AreFar, BeginsNoGap}
use Rattle.nx_piece_edits.specs.Cutting.{gap_before, joined_items}
use Rattle.nx_piece_edits.specs.Shortening.{items_before}
use Rattle.nx_piece.proofs.SizeLemmas.{gapped_sum}
use Rattle.nx_piece_edits.proofs.TakeLemmas.{gap_apart}
use Rattle.nx_piece_edits.proofs.LeftLemmas.{sum_gap, proxies_gap, apart_gap, far_gap}

-- One behind the other:

pub gap_twice : (count more : ℕ) (f : Gapped) → with_gap count (with_gap more f) ≡ with_gap (count + more) f
gap_twice count more End = refl
gap_twice count more (Grow n b s) = refl
gap_twice count more (Gap c s) = ap (λ (m : ℕ). Gap m s) (let e : count + (more + c) ≡ count + more + c = omega arith in e)

pub gap_joined : (count : ℕ) (f last : Gapped) → joined_items (with_gap count f) last ≡ with_gap count (joined_items f last)
gap_joined count End last = refl
gap_joined count (Grow n b s) last = refl
gap_joined count (Gap c s) last = sym (gap_twice count c (joined_items s last))

before_joined : (count : ℕ) (f last : Gapped) → joined_items (gap_before count f) last ≡ gap_before count (joined_items f last)
before_joined zero f last = refl
before_joined (suc count) f last = gap_joined (suc count) f last

joined_twice : (f g last : Gapped) → joined_items (joined_items f g) last ≡ joined_items f (joined_items g last)
joined_twice End g last = refl
joined_twice (Grow n b s) g last = ap (Grow n b) (joined_twice s g last)
joined_twice (Gap c s) g last = gap_joined c (joined_items s g) last ∙ ap (with_gap c) (joined_twice s g last)

-- items with gaps around them, and others beside these
pub closed_joined : (before behind : ℕ) (row beside : Gapped) → joined_items (gap_before before (joined_items row (gap_before behind End))) beside ≡ gap_before before (joined_items row (gap_before behind beside))
closed_joined before behind row beside =
    before_joined before (joined_items row (gap_before behind End)) beside
    ∙ ap (gap_before before) (joined_twice row (gap_before behind End) beside ∙ ap (joined_items row) (before_joined behind End beside))

pub with_items_joined : (items : List Item) (f : Gapped) → with_items items f ≡ joined_items (gapped_of items) f
with_items_joined [] f = refl
with_items_joined (Tree t ∷ items) f = ap (Grow t.node t.below) (with_items_joined items f)
with_items_joined (Run c ∷ items) f = ap (with_gap c) (with_items_joined items f)

-- proxies put behind items
pub put_behind_all : (items new : List Item) (end count : ℕ) → end ≡ length items → gapped_of new ≡ with_items (take end items) (gap_before count (gapped_of (drop end items)))
    → gapped_of new ≡ joined_items (gapped_of items) (gap_before count End)
put_behind_all items new end count all is =
    is
    ∙ ap₂ (λ (xs ys : List Item). with_items xs (gap_before count (gapped_of ys))) (take_all end items (omega (arith, all))) (drop_all end items (omega (arith, all)))
    ∙ with_items_joined items (gap_before count End)

begins_joined : (f last : Gapped) → BeginsNoGap f → BeginsNoGap last → BeginsNoGap (joined_items f last)
begins_joined End last h k = k
begins_joined (Grow n b s) last h k = tt
begins_joined (Gap c s) last h k = absurd h

-- items that stay apart from those behind them
pub apart_joined : (items : List Item) (f : Gapped) → AreApart (gapped_of items) → BeginsNoGap f → items_before items f ≡ joined_items (gapped_of items) f
apart_joined [] f h k = refl
apart_joined (Tree t ∷ items) f h k = ap (Grow t.node t.below) (apart_joined items f h.1 k)
apart_joined (Run c ∷ items) f h k = ap (Gap c) (apart_joined items f h.2 k) ∙ sym (gap_apart c (joined_items (gapped_of items) f) (begins_joined (gapped_of items) f h.1 k))

-- What they are together:

pub sum_before : (measure : PieceNode → ℕ) (count : ℕ) (f : Gapped) → gapped_sum measure (gap_before count f) ≡ gapped_sum measure f
sum_before measure zero f = refl
sum_before measure (suc count) f = sum_gap measure (suc count) f

pub sum_joined : (measure : PieceNode → ℕ) (f last : Gapped) → gapped_sum measure (joined_items f last) ≡ gapped_sum measure f + gapped_sum measure last
sum_joined measure End last = omega arith
sum_joined measure (Grow n b s) last = let e = sum_joined measure s last in omega (arith, e)
sum_joined measure (Gap c s) last = sum_gap measure c (joined_items s last) ∙ sum_joined measure s last

pub proxies_before : (count : ℕ) (f : Gapped) → proxies_in (gap_before count f) ≡ count + proxies_in f
proxies_before zero f = omega arith
proxies_before (suc count) f = proxies_gap (suc count) f

pub proxies_joined : (f last : Gapped) → proxies_in (joined_items f last) ≡ proxies_in f + proxies_in last
proxies_joined End last = omega arith
proxies_joined (Grow n b s) last = let e = proxies_joined s last in omega (arith, e)
proxies_joined (Gap c s) last = let g = proxies_gap c (joined_items s last) in let e = proxies_joined s last in omega (arith, g, e)

pub apart_before : (count : ℕ) (f : Gapped) → AreApart f → AreApart (gap_before count f)
apart_before zero f h = h
apart_before (suc count) f h = apart_gap (suc count) f (omega arith) h

pub both_apart : (f last : Gapped) → AreApart f → AreApart last → AreApart (joined_items f last)
both_apart End last h k = k
both_apart (Grow n b s) last h k = (h.0, both_apart s last h.1 k)
both_apart (Gap c s) last h k = apart_gap c (joined_items s last) h.0 (both_apart s last h.2 k)

pub far_before : (count : ℕ) (f : Gapped) → AreFar f → AreFar (gap_before count f)
far_before zero f h = h
far_before (suc count) f h = far_gap (suc count) f h

pub both_far : (f last : Gapped) → AreFar f → AreFar last → AreFar (joined_items f last)
both_far End last h k = k
both_far (Grow n b s) last h k = (h.0, h.1, both_far s last h.2 k)
both_far (Gap c s) last h k = far_gap c (joined_items s last) (both_far s last h k)
