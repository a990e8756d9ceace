-- The gap at the end of what stands in a piece.
use Rattle.std.proofs.Common.{◌≡◌, ℕ, ◌+◌, ◌≤◌, ◌<◌, ◌-◌, List, [], ◌∷◌, ◌++◌, length, take, Option, None, Some, refl, sym, ap, ◌∙◌, arith}
use Rattle.std.specs.Prelude.{slice_get}
use Rattle.std.specs.Option.{option_to_list}
use Rattle.std.proofs.lemmas.List.{take_all, take_more}
use Rattle.std.proofs.lemmas.Option.{get_or_from_slice_get, none-some}
use Rattle.nx_piece.specs.declared.piece.Item.{Item}
use Rattle.nx_piece.specs.declared.piece.Item.TheVariants.{Tree, Run}
use Rattle.nx_piece.specs.Gapped.{Gapped, GappedTree, End, Grow, Gap, proxies_in}
use Rattle.nx_piece.specs.Items.{gapped_of, with_last}
use Rattle.nx_piece.proofs.GappedLemmas.{gapped_of-push}
use Rattle.nx_hold.proofs.PieceLemmas.{some_same, no_value}
use Rattle.nx_build.specs.Rows.{with_proxy, last_gap}

last_gap-run : (g : Gapped) (count : ℕ) → last_gap (with_last g (Run count)) ≡ Some count
last_gap-run End count = refl
last_gap-run (Grow node below beside) count = last_gap-run beside count
last_gap-run (Gap more End) count = refl
last_gap-run (Gap more (Grow node below beside)) count = last_gap-run beside count
last_gap-run (Gap more (Gap again beside)) count = last_gap-run (Gap again beside) count

last_gap-tree : (g : Gapped) (t : GappedTree) → last_gap (with_last g (Tree t)) ≡ None
last_gap-tree End t = refl
last_gap-tree (Grow node below beside) t = last_gap-tree beside t
last_gap-tree (Gap more End) t = refl
last_gap-tree (Gap more (Grow node below beside)) t = last_gap-tree beside t
last_gap-tree (Gap more (Gap again beside)) t = last_gap-tree (Gap again beside) t

-- one proxy more in the gap at the end, or in one of its own
with_proxy-run : (g : Gapped) (count : ℕ) → with_proxy (with_last g (Run count)) ≡ with_last g (Run (count + 1))
with_proxy-run End count = refl
with_proxy-run (Grow node below beside) count = ap (Grow node below) (with_proxy-run beside count)
with_proxy-run (Gap more End) count = refl
with_proxy-run (Gap more (Grow node below beside)) count = ap (λ (s : Gapped). Gap more (Grow node below s)) (with_proxy-run beside count)
with_proxy-run (Gap more (Gap again beside)) count = ap (Gap more) (with_proxy-run (Gap again beside) count)

pub with_proxy-new : (g : Gapped) → last_gap g ≡ None → with_last g (Run 1) ≡ with_proxy g
with_proxy-new End e = refl
with_proxy-new (Grow node below beside) e = ap (Grow node below) (with_proxy-new beside e)
with_proxy-new (Gap count End) e = absurd (no_value e)
with_proxy-new (Gap count (Grow node below beside)) e = ap (λ (s : Gapped). Gap count (Grow node below s)) (with_proxy-new beside e)
with_proxy-new (Gap count (Gap again beside)) e = ap (Gap count) (with_proxy-new (Gap again beside) e)

pub last_few : (g : Gapped) (count : ℕ) → last_gap g ≡ Some count → count ≤ proxies_in g
last_few End count e = absurd (none-some count e)
last_few (Grow node below beside) count e = omega (arith, last_few beside count e)
last_few (Gap more End) count e = let same : more ≡ count = some_same e in omega (arith, same)
last_few (Gap more (Grow node below beside)) count e = omega (arith, last_few beside count e)
last_few (Gap more (Gap again beside)) count e = omega (arith, last_few (Gap again beside) count e)

-- the run that was taken off the end, with one proxy more
pub taken : (old new : List Item) (popped : Option Item) (count : ℕ) → old ≡ new ++ option_to_list popped → (0 < length old → (item : Item) × (popped ≡ Some item)) → last_gap (gapped_of old) ≡ Some count
    → with_last (gapped_of new) (Run (count + 1)) ≡ with_proxy (gapped_of old)
taken [] new None count are some last = absurd (none-some count last)
taken (item ∷ old) new None count are some last = let one = some (omega arith) in absurd (none-some one.0 one.1)
taken old new (Some (Tree t)) count are some last = absurd (none-some count (sym (last_gap-tree (gapped_of new) t) ∙ ap last_gap (sym (gapped_of-push new (Tree t))) ∙ ap (λ (xs : List Item). last_gap (gapped_of xs)) (sym are) ∙ last))
taken old new (Some (Run run)) count are some last =
    let whole : gapped_of old ≡ with_last (gapped_of new) (Run run) = ap gapped_of are ∙ gapped_of-push new (Run run) in
    let same : run ≡ count = some_same (sym (last_gap-run (gapped_of new) run) ∙ ap last_gap (sym whole) ∙ last) in
    ap (λ (n : ℕ). with_last (gapped_of new) (Run (n + 1))) (sym same) ∙ sym (with_proxy-run (gapped_of new) run) ∙ ap with_proxy (sym whole)

-- the last of some items, and those before it
last_item : (items : List Item) (item : Item) → slice_get items (length items - 1) ≡ Some item → gapped_of items ≡ with_last (gapped_of (take (length items - 1) items)) item
last_item [] item e = absurd (none-some item e)
last_item (first ∷ rest) item e =
    let i = length (first ∷ rest) - 1 in
    let one : i + 1 ≡ length (first ∷ rest) = omega arith in
    let all : first ∷ rest ≡ take i (first ∷ rest) ++ item ∷ [] =
    sym (take_all (i + 1) (first ∷ rest) (omega arith)) ∙ take_more (first ∷ rest) i item (omega arith) ∙ ap (λ (x : Item). take i (first ∷ rest) ++ x ∷ []) (get_or_from_slice_get (first ∷ rest) i item item e) in
    ap gapped_of all ∙ gapped_of-push (take i (first ∷ rest)) item

pub last_is_run : (items : List Item) (item : Item) (count : ℕ) → slice_get items (length items - 1) ≡ Some item → item ≡ Run count → last_gap (gapped_of items) ≡ Some count
last_is_run items item count e is =
    ap last_gap (last_item items item e) ∙ ap (λ (x : Item). last_gap (with_last (gapped_of (take (length items - 1) items)) x)) is ∙ last_gap-run (gapped_of (take (length items - 1) items)) count

pub last_is_tree : (items : List Item) (item : Item) (t : GappedTree) → slice_get items (length items - 1) ≡ Some item → item ≡ Tree t → last_gap (gapped_of items) ≡ None
last_is_tree items item t e is =
    ap last_gap (last_item items item e) ∙ ap (λ (x : Item). last_gap (with_last (gapped_of (take (length items - 1) items)) x)) is ∙ last_gap-tree (gapped_of (take (length items - 1) items)) t
