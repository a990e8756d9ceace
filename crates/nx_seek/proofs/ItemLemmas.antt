-- Items one after another: what the first one is, and what is left behind it.
use Rattle.std.proofs.Common.{◌≡◌, ℕ, ◌+◌, ◌<◌, ◌≤◌, List, ◌++◌, sym, ap, ◌∙◌, arith, append_assoc}
use Rattle.nx_piece.specs.PieceNode.{PieceNode, item_slots, MayBeFar, HasFarPage}
use Rattle.nx_piece.specs.Gapped.{Gapped, End, Grow, Gap, item_count, gapped_width, proxies_in}
use Rattle.nx_piece.specs.Encoding.{node_bytes, run_bytes, items_bytes}
use Rattle.nx_piece.specs.Reading.{BeginsNoRunItem, BeginsNoNode}
use Rattle.nx_piece.proofs.ApartLemmas.{node_unique, run_unique, node_no_run, grow_bytes, row, width_row, IsStorable, storable_node, storable_gap}
use Rattle.nx_piece.proofs.ReadLemmas.{row_bytes, row_item_count, row_size, row_proxies}
use Rattle.nx_seek.specs.Items.{AreReadable, ItemsStandIn, HasNoItem, BeginsWithRun, BeginsWithNode, IsItemPassed}

-- what a piece has can be read
pub readable : (f : Gapped) → IsStorable f → AreReadable f
readable End h = tt
readable (Grow n b s) h =
    let p = storable_node n b s h in (record { small = p.0; far = h.far.0; page = h.pages.0 }, p.1, readable b p.2, readable s p.3)
readable (Gap c s) h = let p = storable_gap c s h in (p.0, readable s p.1)

row_readable : (f g : Gapped) → AreReadable f → AreReadable g → AreReadable (row f g)
row_readable End g h k = k
row_readable (Grow n b s) g h k = (h.0, h.1, h.2, row_readable s g h.3 k)
row_readable (Gap c s) g h k = (h.0, row_readable s g h.1 k)

-- where neither a run nor a node begins there is no item
pub no_first : (bytes : List ℕ) (f : Gapped) (tail : List ℕ) → ItemsStandIn bytes f tail → BeginsNoRunItem bytes → BeginsNoNode bytes 256 → HasNoItem f
no_first bytes End tail h runs nodes = tt
no_first bytes (Grow n b s) tail h runs nodes =
    let own = h.readable.0 in
    nodes n (gapped_width b) (items_bytes b ++ (items_bytes s ++ tail)) own.small own.far h.readable.1 (h.same ∙ sym (grow_bytes n b s tail))
no_first bytes (Gap c s) tail h runs nodes = runs c (items_bytes s ++ tail) (h.same ∙ append_assoc (run_bytes c) (items_bytes s) tail)

pub first_run : (bytes behind : List ℕ) (count : ℕ) → bytes ≡ run_bytes count ++ behind → count < 4294967296 → (f : Gapped) (tail : List ℕ) → ItemsStandIn bytes f tail → BeginsWithRun f tail count behind
first_run bytes behind count is fits End tail h = tt
first_run bytes behind count is fits (Grow n b s) tail h =
    node_no_run n (gapped_width b) count (items_bytes b ++ (items_bytes s ++ tail)) behind (grow_bytes n b s tail ∙ sym h.same ∙ is)
first_run bytes behind count is fits (Gap c s) tail h =
    run_unique count c behind (items_bytes s ++ tail) fits h.readable.0 (sym is ∙ h.same ∙ append_assoc (run_bytes c) (items_bytes s) tail)

pub first_node : (bytes behind : List ℕ) (node : PieceNode) (items : ℕ) → bytes ≡ node_bytes node items ++ behind → item_slots node ≤ 256 → MayBeFar node → HasFarPage node.far → items < 65536
    → BeginsNoRunItem bytes → (f : Gapped) (tail : List ℕ) → ItemsStandIn bytes f tail → BeginsWithNode f tail node items behind
first_node bytes behind node items is small far page fits runs End tail h = tt
first_node bytes behind node items is small far page fits runs (Grow n b s) tail h =
    let own = h.readable.0 in
    node_unique small own.small far own.far page own.page fits h.readable.1 (sym is ∙ h.same ∙ sym (grow_bytes n b s tail))
first_node bytes behind node items is small far page fits runs (Gap c s) tail h =
    runs c (items_bytes s ++ tail) (h.same ∙ append_assoc (run_bytes c) (items_bytes s) tail)

-- behind a run
pub run_passed : (bytes behind : List ℕ) (count : ℕ) (f : Gapped) (tail : List ℕ) → ItemsStandIn bytes f tail → 1 ≤ gapped_width f → BeginsWithRun f tail count behind → IsItemPassed f tail count 0 behind
run_passed bytes behind count End tail h some first = absurd (omega arith)
run_passed bytes behind count (Grow n b s) tail h some first = absurd first
run_passed bytes behind count (Gap c s) tail h some first =
    let is : count ≡ c = first.0 in let few = h.few in let sum = h.few_proxies in
    record {
      left = s;
      stands = record { same = first.1; readable = h.readable.1; few = omega arith; small = h.small; few_proxies = omega arith };
      wide = omega arith;
      sum = omega arith;
    }

-- behind a node's own item its child items come first
pub node_passed : (bytes behind : List ℕ) (node : PieceNode) (items : ℕ) (f : Gapped) (tail : List ℕ) → ItemsStandIn bytes f tail → 1 ≤ gapped_width f → BeginsWithNode f tail node items behind → IsItemPassed f tail 0 items behind
node_passed bytes behind node items End tail h some first = absurd (omega arith)
node_passed bytes behind node items (Gap c s) tail h some first = absurd first
node_passed bytes behind node items (Grow n b s) tail h some first =
    let is : items ≡ gapped_width b = first.1 in
    let few = h.few in let small = h.small in let sum = h.few_proxies in
    let wide = width_row b s in let many = row_item_count b s in let size = row_size b s in let proxies = row_proxies b s in
    record {
      left = row b s;
      stands = record {
        same = first.2 ∙ sym (append_assoc (items_bytes b) (items_bytes s) tail) ∙ ap (λ (r : List ℕ). r ++ tail) (sym (row_bytes b s));
        readable = row_readable b s h.readable.2 h.readable.3;
        few = omega arith;
        small = omega arith;
        few_proxies = omega arith;
      };
      wide = omega arith;
      sum = omega arith;
    }

-- so many items are left to be passed, those below others among them
pub record IsPassing (f : Gapped) (tail : List ℕ) (proxies left : ℕ) (rest : List ℕ) : Type 0 where
  pub last : Gapped
  pub stands : ItemsStandIn rest last tail
  pub wide : gapped_width last ≡ left
  pub sum : proxies_in last + proxies ≡ proxies_in f

pub passing_begins : (bytes : List ℕ) (f : Gapped) (tail : List ℕ) (items : ℕ) → ItemsStandIn bytes f tail → gapped_width f ≡ items → IsPassing f tail 0 items bytes
passing_begins bytes f tail items h wide = record { last = f; stands = h; wide = wide; sum = omega arith }

few_wide : (f : Gapped) → gapped_width f ≤ item_count f
few_wide End = omega arith
few_wide (Grow n b s) = omega (arith, few_wide s)
few_wide (Gap c s) = omega (arith, few_wide s)

-- one item further, whose numbers are small
pub record PassesOn (f : Gapped) (tail : List ℕ) (proxies left below count : ℕ) (behind : List ℕ) : Type 0 where
  pub more_fits : left + below ≤ 4294967295
  pub sum_fits : proxies + count ≤ 4294967295
  pub on : IsPassing f tail (proxies + count) (left + below) behind

pub passes_on : {f : Gapped} {tail rest : List ℕ} {proxies left : ℕ} (behind : List ℕ) (count below : ℕ) → IsPassing f tail proxies left rest → 1 ≤ left → proxies_in f ≤ 524288
    → ((g : Gapped) → ItemsStandIn rest g tail → 1 ≤ gapped_width g → IsItemPassed g tail count below behind) → (now : ℕ) → left ≡ now + 1 → PassesOn f tail proxies now below count behind
passes_on {f} {tail} {rest} {proxies} {left} behind count below h some most step now is =
    let w = h.wide in let s = h.sum in
    let one = step h.last h.stands (omega arith) in
    let ow = one.wide in let os = one.sum in
    let few = one.stands.few in let wide = few_wide one.left in
    let few_proxies = one.stands.few_proxies in
    record {
      more_fits = omega arith;
      sum_fits = omega arith;
      on = record { last = one.left; stands = one.stands; wide = omega arith; sum = omega arith };
    }

-- all is passed
pub all_passed : {f : Gapped} {tail rest : List ℕ} {proxies : ℕ} → IsPassing f tail proxies 0 rest → (rest ≡ tail) × (proxies ≡ proxies_in f)
all_passed {f} {tail} {rest} {proxies} h = go h.last h.wide h.stands h.sum
  where
    go : (last : Gapped) → gapped_width last ≡ 0 → ItemsStandIn rest last tail → proxies_in last + proxies ≡ proxies_in f → (rest ≡ tail) × (proxies ≡ proxies_in f)
    go End w st s = (st.same, omega arith)
    go (Grow n b t) w st s = absurd (omega arith)
    go (Gap c t) w st s = absurd (omega arith)
