-- A piece with items in the place of a proxy may be stored.
use Rattle.std.proofs.Common.{◌≡◌, ℕ, zero, suc, ◌+◌, ◌-◌, ◌<◌, ◌≤◌, List, ◌++◌, length, take, drop, refl, sym, ap, ◌∙◌, subst, arith, inl, inr, length-append}
use Rattle.std.proofs.lemmas.Bool.{cases_lt}
use Rattle.std.proofs.lemmas.List.{length-drop, length-take-le}
use Rattle.nx_piece.specs.PieceNode.{PieceNode, node_weight, item_slots}
use Rattle.nx_piece.specs.declared.piece.Piece.{Piece}
use Rattle.nx_piece.specs.declared.piece.Proxy.{Proxy}
use Rattle.nx_piece.specs.Gapped.{Gapped, End, Grow, Gap, gapped_width, gapped_size, proxies_in, with_gap}
use Rattle.nx_piece.specs.Valid.{AreApart, AreFar, AreTrees, BeginsNoGap, HaveRoots, IsBodyWithin, IsPiece}
use Rattle.nx_piece_edits.specs.Cutting.{gap_before, joined_items, with_items_at, with_row, IsWithItems, IsWithRow}
use Rattle.nx_piece.proofs.SizeLemmas.{gapped_sum, sum_is_size, sum_is_weight}
use Rattle.nx_piece.proofs.LocateLemmas.{ranged_take, ranged_drop}
use Rattle.nx_piece_edits.proofs.TakeLemmas.{gap_apart}
use Rattle.nx_piece_edits.proofs.LeftLemmas.{less_is, not_less, ranged_append}
use Rattle.nx_piece_edits.proofs.JoinedLemmas.{sum_before, sum_joined, proxies_before, proxies_joined, apart_before, both_apart, far_before, both_far}

-- what stays, and what comes with the items
pub record KeepsWider (index : ℕ) (items f g : Gapped) : Type 0 where
  pub trees : AreTrees f → AreTrees g
  pub width : AreTrees f → gapped_width g ≡ gapped_width f
  pub sums : (measure : PieceNode → ℕ) → index < proxies_in f → gapped_sum measure g ≡ gapped_sum measure f + gapped_sum measure items
  pub begins : BeginsNoGap f → BeginsNoGap g
  pub apart : AreApart items → AreApart f → AreApart g
  pub far : AreFar items → AreFar f → AreFar g
  pub counted : index < proxies_in f → proxies_in g + 1 ≡ proxies_in f + proxies_in items

-- in the gap of the proxy
around_keeps : (index had : ℕ) (items s : Gapped) → index < had → KeepsWider index items (Gap had s) (gap_before index (joined_items items (gap_before (had - 1 - index) s)))
around_keeps index had items s here =
    let rest : Gapped = gap_before (had - 1 - index) s in
    record {
      trees = λ h. absurd h;
      width = λ h. absurd h;
      sums = λ measure less.
          let a = sum_before measure index (joined_items items rest) in
          let b = sum_joined measure items rest in
          let c = sum_before measure (had - 1 - index) s in
          omega (arith, a, b, c);
      begins = λ h. absurd h;
      apart = λ own h. apart_before index (joined_items items rest) (both_apart items rest own (apart_before (had - 1 - index) s h.2));
      far = λ own h. far_before index (joined_items items rest) (both_far items rest own (far_before (had - 1 - index) s h));
      counted = λ less.
          let a = proxies_before index (joined_items items rest) in
          let b = proxies_joined items rest in
          let c = proxies_before (had - 1 - index) s in
          omega (arith, a, b, c, here);
    }

pub wider_keeps : (index : ℕ) (items f : Gapped) → KeepsWider index items f (with_items_at index items f)
wider_keeps index items End = record {
  trees = λ h. h;
  width = λ h. refl;
  sums = λ measure less. absurd (omega (arith, less));
  begins = λ h. h;
  apart = λ own h. h;
  far = λ own h. h;
  counted = λ less. absurd (omega (arith, less));
}
wider_keeps index items (Grow n b s) =
    elim (cases_lt index (proxies_in b)) [
      | inl here ↦
          let r = wider_keeps index items b in
          subst (KeepsWider index items (Grow n b s)) (sym (less_is index (proxies_in b) (Grow n (with_items_at index items b) s) (Grow n b (with_items_at (index - proxies_in b) items s)) here)) (record {
            trees = λ h. h;
            width = λ h. refl;
            sums = λ measure less. let w = r.sums measure here in omega (arith, w);
            begins = λ h. tt;
            apart = λ own h. (r.apart own h.0, h.1);
            far = λ own h. (h.0, r.far own h.1, h.2);
            counted = λ less. let c = r.counted here in omega (arith, c);
          })
      | inr behind ↦
          let r = wider_keeps (index - proxies_in b) items s in
          subst (KeepsWider index items (Grow n b s)) (sym (not_less index (proxies_in b) (Grow n (with_items_at index items b) s) (Grow n b (with_items_at (index - proxies_in b) items s)) behind)) (record {
            trees = λ h. r.trees h;
            width = λ h. ap (λ (w : ℕ). 1 + w) (r.width h);
            sums = λ measure less. let w = r.sums measure (omega (arith, less, behind)) in omega (arith, w);
            begins = λ h. tt;
            apart = λ own h. (h.0, r.apart own h.1);
            far = λ own h. (h.0, h.1, r.far own h.2);
            counted = λ less. let c = r.counted (omega (arith, less, behind)) in omega (arith, c);
          })
    ]
wider_keeps index items (Gap had s) =
    elim (cases_lt index had) [
      | inl here ↦
          subst (KeepsWider index items (Gap had s)) (sym (less_is index had (gap_before index (joined_items items (gap_before (had - 1 - index) s))) (Gap had (with_items_at (index - had) items s)) here)) (around_keeps index had items s here)
      | inr behind ↦
          let r = wider_keeps (index - had) items s in
          subst (KeepsWider index items (Gap had s)) (sym (not_less index had (gap_before index (joined_items items (gap_before (had - 1 - index) s))) (Gap had (with_items_at (index - had) items s)) behind)) (record {
            trees = λ h. absurd h;
            width = λ h. absurd h;
            sums = λ measure less. r.sums measure (omega (arith, less, behind));
            begins = λ h. absurd h;
            apart = λ own h. (h.0, r.begins h.1, r.apart own h.2);
            far = r.far;
            counted = λ less. let c = r.counted (omega (arith, less, behind)) in omega (arith, c);
          })
    ]

-- the nodes of a piece with items in the place of a proxy
body_wider : {roots slots : ℕ} (index : ℕ) (items f g : Gapped) (n m : ℕ) → IsBodyWithin roots 256 f n → 256 ≤ slots → KeepsWider index items f g → index < n → AreApart items → AreFar items → gapped_size g ≤ slots
    → m + 1 ≡ n + proxies_in items → m ≤ 524288 → IsBodyWithin roots slots g m
body_wider index items f g n m body more k within apart far small sum few =
    let width = k.width body.trees in
    let one = body.some in
    let most = body.few in
    let all = body.counted in
    let counted = k.counted (omega (arith, all, within)) in
    record {
      trees = k.trees body.trees;
      some = omega (arith, width, one);
      few = omega (arith, width, most);
      small = small;
      apart = k.apart apart body.apart;
      far = k.far far body.far;
      counted = omega (arith, counted, all, sum);
      few_proxies = few;
    }

pub items_put : (piece : Piece) (index : ℕ) (items : Gapped) (own : List Proxy) (roots : Gapped) (proxies : List Proxy) → IsPiece piece → index < length piece.proxies → AreApart items → proxies_in items ≡ length own
    → roots ≡ with_items_at index items piece.body.roots → proxies ≡ take index piece.proxies ++ own ++ drop (index + 1) piece.proxies → IsWithItems piece index items own (record { body = record { roots = roots }; proxies = proxies })
items_put piece index items own roots proxies may within apart count body is =
    let k : KeepsWider index items piece.body.roots roots = subst (KeepsWider index items piece.body.roots) (sym body) (wider_keeps index items piece.body.roots) in
    let all = may.body.counted in
    let there : index < proxies_in piece.body.roots = omega (arith, within, all) in
    let weight = k.sums node_weight there in
    let size = k.sums item_slots there in
    let weight_is = sum_is_weight roots in
    let weight_was = sum_is_weight piece.body.roots in
    let weight_came = sum_is_weight items in
    let size_is = sum_is_size roots in
    let size_was = sum_is_size piece.body.roots in
    let size_came = sum_is_size items in
    let sized : gapped_size roots ≡ gapped_size piece.body.roots + gapped_size items = omega (arith, size, size_is, size_was, size_came) in
    let a = length-append (take index piece.proxies ++ own) (drop (index + 1) piece.proxies) in
    let b = length-append (take index piece.proxies) own in
    let c = length-take-le index piece.proxies (omega (arith, within)) in
    let d = length-drop (index + 1) piece.proxies in
    let e = ap length is in
    let sum : length proxies + 1 ≡ length piece.proxies + proxies_in items = omega (arith, a, b, c, d, e, within, count) in
    let ranged : HaveRoots piece.proxies → HaveRoots own → HaveRoots proxies =
    λ old new. subst HaveRoots (sym is) (ranged_append (take index piece.proxies ++ own) (drop (index + 1) piece.proxies) (ranged_append (take index piece.proxies) own (ranged_take index piece.proxies old) new) (ranged_drop (index + 1) piece.proxies old)) in
    record {
      body = body;
      proxies_are = is;
      weighs = omega (arith, weight, weight_is, weight_was, weight_came);
      sized = sized;
      width = k.width may.body.trees;
      large = λ v far rooted room small.
          let had = v.body.small in
          let wide : IsBodyWithin 256 512 roots (length proxies) =
          body_wider index items piece.body.roots roots (length piece.proxies) (length proxies) v.body (omega arith) k within apart far (omega (arith, sized, had, small)) sum (omega (arith, sum, room, count)) in
          let few = wide.few in
          record {
            body = record {
              trees = wide.trees;
              some = wide.some;
              few = omega (arith, few);
              small = wide.small;
              apart = wide.apart;
              far = wide.far;
              counted = wide.counted;
              few_proxies = wide.few_proxies;
            };
            ranged = ranged v.ranged rooted;
          };
      valid = λ v far rooted room small. record {
        body = body_wider index items piece.body.roots roots (length piece.proxies) (length proxies) v.body (omega arith) k within apart far small sum (omega (arith, sum, room, count));
        ranged = ranged v.ranged rooted;
      };
    }

-- A row of proxies alone:

-- gaps around others are one with them
gap_around : (before count behind : ℕ) (s : Gapped) → BeginsNoGap s → 1 ≤ count → gap_before before (with_gap count (gap_before behind s)) ≡ Gap (before + count + behind) s
gap_around before count behind s begins some = ap (gap_before before) (inner behind) ∙ outer before
  where
    inner : (behind : ℕ) → with_gap count (gap_before behind s) ≡ Gap (count + behind) s
    inner zero = gap_apart count s begins ∙ ap (λ (n : ℕ). Gap n s) (let e : count ≡ count + 0 = omega arith in e)
    inner (suc behind) = ap (with_gap count) (gap_apart (suc behind) s begins)

    outer : (before : ℕ) → gap_before before (Gap (count + behind) s) ≡ Gap (before + count + behind) s
    outer zero = ap (λ (n : ℕ). Gap n s) (let e : count + behind ≡ 0 + count + behind = omega arith in e)
    outer (suc before) = ap (λ (n : ℕ). Gap n s) (let e : suc before + (count + behind) ≡ suc before + count + behind = omega arith in e)

pub row_is_items : (index count : ℕ) (f : Gapped) → AreApart f → 1 ≤ count → with_row index count f ≡ with_items_at index (Gap count End) f
row_is_items index count End h some = refl
row_is_items index count (Grow n b s) h some =
    elim (cases_lt index (proxies_in b)) [
      | inl here ↦
          less_is index (proxies_in b) (Grow n (with_row index count b) s) (Grow n b (with_row (index - proxies_in b) count s)) here
          ∙ ap (λ (f : Gapped). Grow n f s) (row_is_items index count b h.0 some)
          ∙ sym (less_is index (proxies_in b) (Grow n (with_items_at index (Gap count End) b) s) (Grow n b (with_items_at (index - proxies_in b) (Gap count End) s)) here)
      | inr behind ↦
          not_less index (proxies_in b) (Grow n (with_row index count b) s) (Grow n b (with_row (index - proxies_in b) count s)) behind
          ∙ ap (Grow n b) (row_is_items (index - proxies_in b) count s h.1 some)
          ∙ sym (not_less index (proxies_in b) (Grow n (with_items_at index (Gap count End) b) s) (Grow n b (with_items_at (index - proxies_in b) (Gap count End) s)) behind)
    ]
row_is_items index count (Gap had s) h some =
    elim (cases_lt index had) [
      | inl here ↦
          less_is index had (Gap (had - 1 + count) s) (Gap had (with_row (index - had) count s)) here
          ∙ ap (λ (n : ℕ). Gap n s) (let e : had - 1 + count ≡ index + count + (had - 1 - index) = omega (arith, here) in e)
          ∙ sym (gap_around index count (had - 1 - index) s h.1 some)
          ∙ sym (less_is index had (gap_before index (with_gap count (gap_before (had - 1 - index) s))) (Gap had (with_items_at (index - had) (Gap count End) s)) here)
      | inr behind ↦
          not_less index had (Gap (had - 1 + count) s) (Gap had (with_row (index - had) count s)) behind
          ∙ ap (Gap had) (row_is_items (index - had) count s h.2 some)
          ∙ sym (not_less index had (gap_before index (with_gap count (gap_before (had - 1 - index) s))) (Gap had (with_items_at (index - had) (Gap count End) s)) behind)
    ]

row_of_one : (index : ℕ) (f : Gapped) → with_row index 1 f ≡ f
row_of_one index End = refl
row_of_one index (Grow n b s) =
    elim (cases_lt index (proxies_in b)) [
      | inl here ↦ less_is index (proxies_in b) (Grow n (with_row index 1 b) s) (Grow n b (with_row (index - proxies_in b) 1 s)) here ∙ ap (λ (f : Gapped). Grow n f s) (row_of_one index b)
      | inr behind ↦ not_less index (proxies_in b) (Grow n (with_row index 1 b) s) (Grow n b (with_row (index - proxies_in b) 1 s)) behind ∙ ap (Grow n b) (row_of_one (index - proxies_in b) s)
    ]
row_of_one index (Gap had s) =
    elim (cases_lt index had) [
      | inl here ↦ less_is index had (Gap (had - 1 + 1) s) (Gap had (with_row (index - had) 1 s)) here ∙ ap (λ (n : ℕ). Gap n s) (let e : had - 1 + 1 ≡ had = omega (arith, here) in e)
      | inr behind ↦ not_less index had (Gap (had - 1 + 1) s) (Gap had (with_row (index - had) 1 s)) behind ∙ ap (Gap had) (row_of_one (index - had) s)
    ]

-- one proxy in the place of one
pub one_stays : (index : ℕ) (f : Gapped) → AreApart f → with_items_at index (Gap 1 End) f ≡ f
one_stays index f h = sym (row_is_items index 1 f h (omega arith)) ∙ row_of_one index f

pub row_put : (piece : Piece) (index : ℕ) (row : List Proxy) (changed : Piece) → IsPiece piece → 1 ≤ length row → IsWithItems piece index (Gap (length row) End) row changed → IsWithRow piece index row changed
row_put piece index row changed may some w = record {
  body = w.body ∙ sym (row_is_items index (length row) piece.body.roots may.body.apart some);
  proxies = w.proxies_are;
  valid = λ v rooted room. let sized = w.sized in let small = v.body.small in w.valid v tt rooted room (omega (arith, sized, small));
}
