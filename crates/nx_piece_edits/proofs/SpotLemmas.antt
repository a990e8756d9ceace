-- Where among items something is put, and the items with it.
use Rattle.std.proofs.Common.{inl, inr, ◌≡◌, ℕ, zero, suc, ◌+◌, ◌-◌, ◌<◌, ◌≤◌, List, [], ◌∷◌, ◌++◌, Option, None, Some, MatchOption, length, take, drop, set, refl, sym, ap, ap₂, ◌∙◌, subst, arith, append_assoc}
use Rattle.std.specs.List.{slice_get, insert}
use Rattle.std.proofs.lemmas.Bool.{cases_lt}
use Rattle.std.proofs.lemmas.List.{drop-drop, drop_all, length-append, length-drop, take-append-drop, take_all, length-take-le, set_split}
use Rattle.nx_piece.specs.declared.piece.Item.{Item}
use Rattle.nx_piece.specs.declared.piece.Item.TheVariants.{Tree, Run}
use Rattle.nx_piece.specs.declared.piece.Proxy.{Proxy}
use Rattle.nx_piece.specs.Gapped.{Gapped, GappedTree, Grow, Gap, proxies_in, with_gap}
use Rattle.nx_piece.specs.Items.{gapped_of, with_items}
use Rattle.nx_piece.specs.Valid.{AreApart, BeginsNoGap, HaveRoots}
use Rattle.nx_piece.specs.Locate.{Kept, kept_from, children_of}
use Rattle.nx_piece.specs.Found.{children_in}
use Rattle.nx_piece.proofs.LocateLemmas.{IsReached, is_kept, kept_length, ranged_drop}
use Rattle.nx_piece.proofs.FoundLemmas.{IsPassing, proxies_of_items, take_next}
use Rattle.nx_piece_edits.specs.Cutting.{gap_before}
use Rattle.nx_piece_edits.specs.Planting.{passed, put_in_gap, put_at, FallsApart}
use Rattle.nx_piece_edits.specs.Editing.{IsSpot}
use Rattle.nx_piece_edits.proofs.TakeLemmas.{EndsApart, gap_apart, gapped_parts, proxies_there, there_within, tree_behind, with_items_apart, with_items_join, apart_front, apart_behind}
use Rattle.nx_piece_edits.proofs.PassedLemmas.{all_are_passed, kept_at, passes_one, put_behind, put_inside, children_count, index_at}

-- what is put at the position is put behind the items that were passed
pub put_passed : (put : Gapped → Gapped) {items : List Item} {proxies : List Proxy} {first position before left index : ℕ} → IsPassing items proxies first position before left index → first + proxies_in (gapped_of items) ≤ length proxies
    → AreApart (gapped_of items) → HaveRoots proxies
    → put_at put position (gapped_of items) (drop first proxies) ≡ with_items (take index items) (put_at put left (gapped_of (drop index items)) (drop before proxies))
put_passed put {items} {proxies} {first} {position} {before} {left} {index} h fits apart ranged =
    let parts = gapped_parts items index in
    let sum = ap (λ (xs : List Item). proxies_in (gapped_of xs)) (sym (take-append-drop index items)) in
    let add = proxies_of_items (take index items) (drop index items) in
    let long = length-drop first proxies in
    ap₂ (λ (n : ℕ) (f : Gapped). put_at put n f (drop first proxies)) (sym h.counted) parts
    ∙ put_behind put (take index items) (gapped_of (drop index items)) (drop first proxies) left (subst AreApart parts apart) (ranged_drop first proxies ranged) (omega (arith, fits, sum, add, long))
    ∙ ap (λ (ps : List Proxy). with_items (take index items) (put_at put left (gapped_of (drop index items)) ps))
    (drop-drop (proxies_in (gapped_of (take index items))) first proxies ∙ ap (λ (n : ℕ). drop n proxies) (sym h.behind))

-- nothing is left of the position: it leads to this index
pub spot_here : {items : List Item} {proxies : List Proxy} {first position before left index : ℕ} → IsPassing items proxies first position before left index → first + proxies_in (gapped_of items) ≤ length proxies
    → AreApart (gapped_of items) → HaveRoots proxies → index ≤ length items → left ≡ 0 → IsSpot items (drop first proxies) position index 0
spot_here {items} {proxies} {first} {position} {before} {left} {index} h fits apart ranged within none = record {
  within = within;
  longer = λ some. absurd (omega (arith, some));
  front = λ is put. put_passed put h fits apart ranged ∙ ap (λ (n : ℕ). with_items (take index items) (put_at put n (gapped_of (drop index items)) (drop before proxies))) none;
  inside = λ count some. absurd (omega (arith, some));
}

-- all items are passed: nothing is left of a position among their children
pub spot_last : {items : List Item} {proxies : List Proxy} {first position before left index : ℕ} → IsPassing items proxies first position before left index → first + proxies_in (gapped_of items) ≤ length proxies
    → AreApart (gapped_of items) → HaveRoots proxies → position ≤ length (children_of proxies first (gapped_of items)) → index ≡ length items → IsSpot items (drop first proxies) position index 0
spot_last {items} {proxies} {first} {position} {before} {left} {index} h fits apart ranged within end =
    let counted = h.counted in
    let all : take index items ≡ items = take_all index items (omega (arith, end)) in
    let count = children_count proxies first items in
    let same = ap (λ (xs : List Item). children_in xs (drop first proxies)) all in
    spot_here h fits apart ranged (omega (arith, end)) (omega (arith, counted, within, count, same))

pub some_within : {A : Type 0} (xs : List A) (n : ℕ) (x : A) → slice_get xs n ≡ Some x → n < length xs
some_within [] n x e = absurd (cc)
some_within (y ∷ xs) zero x e = omega arith
some_within (y ∷ xs) (suc n) x e = let h = some_within xs n x e in omega (arith, h)

-- a root of a proxy is one of the first proxy that its position does not pass
pub kept_place : (index n : ℕ) (ps : List Proxy) (k m : ℕ) → slice_get (kept_from index ps) n ≡ Some (Kept k m) → (passed n ps < length ps) × (k ≡ index + passed n ps)
kept_place index n ps k m found =
    let count = kept_length index ps in
    let within = some_within (kept_from index ps) n (Kept k m) found in
    let less : passed n ps < length ps = elim (cases_lt (passed n ps) (length ps)) [
      | inl some ↦ some
      | inr none ↦ let all = all_are_passed n ps none in absurd (omega (arith, all, within, count))
    ] in
    let at = kept_at index n ps less in
    (less, ap (index_at 0) (sym found ∙ at.1))

same_run : {items rest others : List Item} {a b : ℕ} → items ≡ Run a ∷ rest → items ≡ Run b ∷ others → a ≡ b
same_run {items} {rest} {others} {a} {b} d e = ap first_count (sym d ∙ e)
  where
    first_count : List Item → ℕ
    first_count [] = 0
    first_count (Tree t ∷ xs) = 0
    first_count (Run c ∷ xs) = c

-- the position leads into the run at this index, behind some of its proxies
pub spot_inside : {items : List Item} {proxies : List Proxy} {first position before left index c k m : ℕ} → IsPassing items proxies first position before left index
    → IsReached proxies first position (gapped_of items) before left (gapped_of (drop index items)) → first + proxies_in (gapped_of items) ≤ length proxies → AreApart (gapped_of items) → HaveRoots proxies
    → FallsApart (children_of proxies first (gapped_of items)) position → 1 ≤ left → drop index items ≡ Run c ∷ drop (index + 1) items
    → slice_get (kept_from before (take c (drop before proxies))) left ≡ Some (Kept k m) → IsSpot items (drop first proxies) position index (k - before)
spot_inside {items} {proxies} {first} {position} {before} {left} {index} {c} {k} {m} h r fits apart ranged between some d found =
    let own : List Proxy = take c (drop before proxies) in
    let rest : List Item = drop (index + 1) items in
    let gap : gapped_of (drop index items) ≡ Gap c (gapped_of rest) = ap gapped_of d in
    let there = r.fits in
    let more = ap proxies_in gap in
    let long = length-drop before proxies in
    let taken = length-take-le c (drop before proxies) (omega (arith, there, more, fits, long)) in
    let at = kept_place before left own k m found in
    let less : passed left own < length own = at.0 in
    let place : k ≡ before + passed left own = at.1 in
    let one = passes_one before left own some (omega (arith, less)) (λ i j e. between.apart i j (is_kept r gap e)) in
    let same : passed left own ≡ k - before = omega (arith, place) in
    let inside : k - before < c = omega (arith, same, less, taken) in
    record {
      within = let w = there_within items index (Run c) d in omega (arith, w);
      longer = λ _. (c, d, inside);
      front = λ none. absurd (omega (arith, none, same, one));
      inside = λ n _ e put.
          put_passed put h fits apart ranged
          ∙ ap (λ (xs : List Item). with_items (take index items) (put_at put left (gapped_of xs) (drop before proxies))) d
          ∙ ap (with_items (take index items)) (put_inside put left c (gapped_of rest) (drop before proxies) some (omega (arith, less, taken)))
          ∙ ap₂ (λ (a b : ℕ). with_items (take index items) (put_in_gap put a b (gapped_of rest))) same (same_run d e);
    }

-- The items with something put there:

-- in front of a run gaps stay apart
apart_ends : (items : List Item) (c : ℕ) (more : List Item) (f : Gapped) → AreApart (gapped_of (items ++ Run c ∷ more)) → EndsApart items f
apart_ends [] c more f h = tt
apart_ends (Tree t ∷ items) c more f h = apart_ends items c more f h.1
apart_ends (Run a ∷ []) c more f h = absurd (h.1)
apart_ends (Run a ∷ x ∷ items) c more f h = apart_ends (x ∷ items) c more f h.2

apart_take : (items : List Item) (i : ℕ) → AreApart (gapped_of items) → AreApart (gapped_of (take i items))
apart_take items i h = apart_front (take i items) (drop i items) (subst (λ xs. AreApart (gapped_of xs)) (sym (take-append-drop i items)) h)

apart_drop : (items : List Item) (i : ℕ) → AreApart (gapped_of items) → AreApart (gapped_of (drop i items))
apart_drop items i h = apart_behind (take i items) (drop i items) (subst (λ xs. AreApart (gapped_of xs)) (sym (take-append-drop i items)) h)

run_apart : (items : List Item) (i c : ℕ) (f : Gapped) → AreApart (gapped_of items) → drop i items ≡ Run c ∷ drop (i + 1) items → EndsApart (take i items) f
run_apart items i c f h d = apart_ends (take i items) c (drop (i + 1) items) f (subst (λ xs. AreApart (gapped_of xs)) (sym (take-append-drop i items) ∙ ap (λ xs. take i items ++ xs) d) h)

pub leaf_there : {items : List Item} {proxies : List Proxy} {position index : ℕ} (before : ℕ) (leaf : GappedTree) (new : List Item) → IsSpot items proxies position index before → AreApart (gapped_of items)
    → (before ≡ 0 → new ≡ insert items index (Tree leaf))
    → ((count : ℕ) → 1 ≤ before → drop index items ≡ Run count ∷ drop (index + 1) items → new ≡ take index items ++ Run before ∷ Tree leaf ∷ Run (count - before) ∷ drop (index + 1) items)
    → gapped_of new ≡ put_at (λ f. Grow leaf.node leaf.below f) position (gapped_of items) proxies
leaf_there {items} {proxies} {position} {index} zero leaf new spot apart front inside =
    ap gapped_of (front refl)
    ∙ sym (with_items_apart (take index items) (Tree leaf ∷ drop index items) (apart_take items index apart) (tree_behind (take index items) (gapped_of (Tree leaf ∷ drop index items)) tt))
    ∙ sym (spot.front refl (λ f. Grow leaf.node leaf.below f))
leaf_there {items} {proxies} {position} {index} (suc before) leaf new spot apart front inside =
    let some : 1 ≤ suc before = omega arith in
    let run = spot.longer some in
    let there : List Item = Run (suc before) ∷ Tree leaf ∷ Run (run.0 - suc before) ∷ drop (index + 1) items in
    ap gapped_of (inside run.0 some run.1)
    ∙ sym (with_items_apart (take index items) there (apart_take items index apart) (run_apart items index run.0 (gapped_of there) apart run.1))
    ∙ sym (spot.inside run.0 some run.1 (λ f. Grow leaf.node leaf.below f))

-- a proxy comes into a run
pub proxy_there : {items : List Item} {proxies : List Proxy} {position index : ℕ} (before : ℕ) (new : List Item) → IsSpot items proxies position index before
    → gapped_of new ≡ with_items (take index items) (with_gap 1 (gapped_of (drop index items))) → gapped_of new ≡ put_at (λ f. with_gap 1 f) position (gapped_of items) proxies
proxy_there {items} {proxies} {position} {index} zero new spot is = is ∙ sym (spot.front refl (λ f. with_gap 1 f))
proxy_there {items} {proxies} {position} {index} (suc before) new spot is =
    let some : 1 ≤ suc before = omega arith in
    let run = spot.longer some in
    let less : suc before < run.0 = run.2 in
    let sum : 1 + run.0 ≡ suc before + (1 + (run.0 - suc before)) = omega (arith, less) in
    is
    ∙ ap (λ (xs : List Item). with_items (take index items) (with_gap 1 (gapped_of xs))) run.1
    ∙ ap (λ (n : ℕ). with_items (take index items) (Gap n (gapped_of (drop (index + 1) items)))) sum
    ∙ sym (spot.inside run.0 some run.1 (λ f. with_gap 1 f))

gap_some : (count : ℕ) (f : Gapped) → 1 ≤ count → gap_before count f ≡ with_gap count f
gap_some zero f some = absurd (omega (arith, some))
gap_some (suc count) f some = refl

pub run_before_grows : (items : List Item) (index a more : ℕ) → 1 ≤ more → AreApart (gapped_of items) → 1 ≤ index → drop (index - 1) items ≡ Run a ∷ drop index items
    → gapped_of (set items (index - 1) (Run (a + more))) ≡ with_items (take index items) (gap_before more (gapped_of (drop index items)))
run_before_grows items zero a more many apart some d = absurd (omega (arith, some))
run_before_grows items (suc i) a more many apart some d =
    let place : suc i - 1 ≡ i = omega arith in
    let next : suc i ≡ i + 1 = omega arith in
    let e : drop i items ≡ Run a ∷ drop (suc i) items = ap (λ (n : ℕ). drop n items) (sym place) ∙ d in
    let there : drop i items ≡ Run a ∷ drop (i + 1) items = e ∙ ap (λ (n : ℕ). Run a ∷ drop n items) next in
    let last : take (suc i) items ≡ take i items ++ Run a ∷ [] = ap (λ (n : ℕ). take n items) next ∙ take_next items i (Run a) there in
    let rest : Gapped = gapped_of (drop (suc i) items) in
    let behind : BeginsNoGap rest = (subst (λ xs. AreApart (gapped_of xs)) e (apart_drop items i apart)).1 in
    ap (λ (n : ℕ). gapped_of (set items n (Run (a + more)))) place
    ∙ ap gapped_of (set_split items i (Run (a + more)) (there_within items i (Run a) there))
    ∙ sym (with_items_join (take i items) (drop (suc i) items) a more (subst (λ xs. AreApart (gapped_of xs)) last (apart_take items (suc i) apart)))
    ∙ ap₂ (λ (xs : List Item) (f : Gapped). with_items xs f) (sym last) (sym (gap_some more rest many ∙ gap_apart more rest behind))

pub run_at_grows : (items : List Item) (index c more : ℕ) → 1 ≤ more → AreApart (gapped_of items) → drop index items ≡ Run c ∷ drop (index + 1) items
    → gapped_of (set items index (Run (c + more))) ≡ with_items (take index items) (gap_before more (gapped_of (drop index items)))
run_at_grows items index c more many apart d =
    let next : suc index ≡ index + 1 = omega arith in
    let sum : c + more ≡ more + c = omega arith in
    let there : List Item = Run (c + more) ∷ drop (index + 1) items in
    ap gapped_of (set_split items index (Run (c + more)) (there_within items index (Run c) d) ∙ ap (λ (n : ℕ). take index items ++ Run (c + more) ∷ drop n items) next)
    ∙ sym (with_items_apart (take index items) there (apart_take items index apart) (run_apart items index c (gapped_of there) apart d))
    ∙ ap (λ (n : ℕ). with_items (take index items) (Gap n (gapped_of (drop (index + 1) items)))) sum
    ∙ ap (λ (xs : List Item). with_items (take index items) (with_gap more (gapped_of xs))) (sym d)
    ∙ ap (with_items (take index items)) (sym (gap_some more (gapped_of (drop index items)) many))

pub run_begins : (items : List Item) (index more : ℕ) → 1 ≤ more → ((others : List Item) → with_items (take index items) (gapped_of others) ≡ gapped_of (take index items ++ others)) → BeginsNoGap (gapped_of (drop index items))
    → gapped_of (insert items index (Run more)) ≡ with_items (take index items) (gap_before more (gapped_of (drop index items)))
run_begins items index more many front behind =
    let rest : Gapped = gapped_of (drop index items) in
    sym (front (Run more ∷ drop index items)) ∙ ap (with_items (take index items)) (sym (gap_some more rest many ∙ gap_apart more rest behind))

-- no proxies come
pub none_come : (items : List Item) (index count : ℕ) → count ≡ 0 → AreApart (gapped_of items) → gapped_of items ≡ with_items (take index items) (gap_before count (gapped_of (drop index items)))
none_come items index count none apart =
    ap gapped_of (sym (take-append-drop index items))
    ∙ sym (with_items_apart (take index items) (drop index items) (apart_take items index apart) (ends_apart (take index items) (drop index items) (subst (λ xs. AreApart (gapped_of xs)) (sym (take-append-drop index items)) apart)))
    ∙ ap (λ (n : ℕ). with_items (take index items) (gap_before n (gapped_of (drop index items)))) (sym none)
  where
    ends_apart : (items more : List Item) → AreApart (gapped_of (items ++ more)) → EndsApart items (gapped_of more)
    ends_apart [] more h = tt
    ends_apart (Tree t ∷ items) more h = ends_apart items more h.1
    ends_apart (Run c ∷ []) more h = h.1
    ends_apart (Run c ∷ x ∷ items) more h = ends_apart (x ∷ items) more h.2

-- no run stands before the index
pub none_joins : (items : List Item) (index : ℕ) → AreApart (gapped_of items) → 1 ≤ index → index ≤ length items → BeginsNoGap (gapped_of (drop (index - 1) items)) → (more : List Item)
    → with_items (take index items) (gapped_of more) ≡ gapped_of (take index items ++ more)
none_joins items zero apart some within begins more = absurd (omega (arith, some))
none_joins items (suc i) apart some within begins more =
    let place : suc i - 1 ≡ i = omega arith in
    with_items_apart (take (suc i) items) more (apart_take items (suc i) apart) (no_run items i more (omega (arith, within)) (subst (λ (n : ℕ). BeginsNoGap (gapped_of (drop n items))) place begins))
  where
    no_run : (items : List Item) (i : ℕ) (more : List Item) → i < length items → BeginsNoGap (gapped_of (drop i items)) → EndsApart (take (suc i) items) (gapped_of more)
    no_run [] i more within begins = absurd (omega (arith, within))
    no_run (Tree t ∷ items) zero more within begins = tt
    no_run (Run c ∷ items) zero more within begins = absurd begins
    no_run (Tree t ∷ items) (suc i) more within begins = no_run items i more (omega (arith, within)) begins
    no_run (Run c ∷ []) (suc i) more within begins = absurd (omega (arith, within))
    no_run (Run c ∷ x ∷ items) (suc i) more within begins = no_run (x ∷ items) i more (omega (arith, within)) begins

pub run_is_before : (items : List Item) (index : ℕ) (found : Option ℕ) → AreApart (gapped_of items) → 1 ≤ index → index ≤ length items
    → MatchOption found (BeginsNoGap (gapped_of (drop (index - 1) items))) (λ count. drop (index - 1) items ≡ Run count ∷ drop (index - 1 + 1) items)
    → MatchOption found ((more : List Item) → with_items (take index items) (gapped_of more) ≡ gapped_of (take index items ++ more)) (λ count. (1 ≤ index) × (drop (index - 1) items ≡ Run count ∷ drop index items))
run_is_before items index None apart some within h = none_joins items index apart some within h
run_is_before items index (Some count) apart some within h = (some, h ∙ ap (λ (n : ℕ). Run count ∷ drop n items) (let e : index - 1 + 1 ≡ index = omega (arith, some) in e))

pub run_few : (items : List Item) (index count : ℕ) → drop index items ≡ Run count ∷ drop (index + 1) items → count ≤ proxies_in (gapped_of items)
run_few items index count d = let sum = proxies_there items index (Run count) d in omega (arith, sum)

pub run_before_few : (items : List Item) (index count : ℕ) → 1 ≤ index → drop (index - 1) items ≡ Run count ∷ drop index items → count ≤ proxies_in (gapped_of items)
run_before_few items index count some d =
    run_few items (index - 1) count (d ∙ ap (λ (n : ℕ). Run count ∷ drop n items) (let e : index ≡ index - 1 + 1 = omega (arith, some) in e))

pub none_first : (items : List Item) (index : ℕ) → index ≡ 0 → (more : List Item) → with_items (take index items) (gapped_of more) ≡ gapped_of (take index items ++ more)
none_first items index e more = subst (λ (n : ℕ). with_items (take n items) (gapped_of more) ≡ gapped_of (take n items ++ more)) (sym e) refl

pub none_at_end : (items : List Item) (index : ℕ) → length items ≤ index → BeginsNoGap (gapped_of (drop index items))
none_at_end items index end = subst (λ xs. BeginsNoGap (gapped_of xs)) (sym (drop_all index items end)) tt

pub tree_at_begins : (items : List Item) (index : ℕ) (t : GappedTree) → drop index items ≡ Tree t ∷ drop (index + 1) items → BeginsNoGap (gapped_of (drop index items))
tree_at_begins items index t d = subst (λ xs. BeginsNoGap (gapped_of xs)) (sym d) tt

-- an item put into a run
pub run_divided : (items : List Item) (index count before : ℕ) (x : Item) → drop index items ≡ Run count ∷ drop (index + 1) items
    → insert (insert (set items index (Run before)) (index + 1) (Run (count - before))) (index + 1) x ≡ take index items ++ Run before ∷ x ∷ Run (count - before) ∷ drop (index + 1) items
run_divided items index count before x d =
    let next : suc index ≡ index + 1 = omega arith in
    let within = there_within items index (Run count) d in
    let now : set items index (Run before) ≡ take index items ++ Run before ∷ drop (index + 1) items = set_split items index (Run before) within ∙ ap (λ (n : ℕ). take index items ++ Run before ∷ drop n items) next in
    let front = length-take-le index items (omega (arith, within)) in
    let long : length (take index items ++ Run before ∷ []) ≡ index + 1 = let a = length-append (take index items) (Run before ∷ []) in omega (arith, a, front) in
    let first : insert (set items index (Run before)) (index + 1) (Run (count - before)) ≡ (take index items ++ Run before ∷ []) ++ Run (count - before) ∷ drop (index + 1) items =
    ap (λ (xs : List Item). insert xs (index + 1) (Run (count - before))) (now ∙ sym (append_assoc (take index items) (Run before ∷ []) (drop (index + 1) items)))
    ∙ insert_behind (take index items ++ Run before ∷ []) (drop (index + 1) items) (index + 1) (Run (count - before)) long in
    ap (λ (xs : List Item). insert xs (index + 1) x) first
    ∙ insert_behind (take index items ++ Run before ∷ []) (Run (count - before) ∷ drop (index + 1) items) (index + 1) x long
    ∙ append_assoc (take index items) (Run before ∷ []) (x ∷ Run (count - before) ∷ drop (index + 1) items)
  where
    insert_behind : (front back : List Item) (n : ℕ) (y : Item) → length front ≡ n → insert (front ++ back) n y ≡ front ++ y ∷ back
    insert_behind [] back zero y e = refl
    insert_behind [] back (suc n) y e = absurd (omega (arith, e))
    insert_behind (z ∷ front) back zero y e = absurd (omega (arith, e))
    insert_behind (z ∷ front) back (suc n) y e = ap (λ ys. z ∷ ys) (insert_behind front back n y (omega (arith, e)))
