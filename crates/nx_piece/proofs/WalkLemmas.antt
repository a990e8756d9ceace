-- The items that a loop has left: how many there are, how much room they take, and their bytes.
use Rattle.std.proofs.Common.{◌≡◌, ℕ, zero, suc, ◌+◌, ◌*◌, ◌<◌, ◌≤◌, List, [], ◌∷◌, ◌++◌, length, drop, get_or, refl, sym, ap, ◌∙◌, subst, arith, append_assoc}
use Rattle.std.proofs.lemmas.List.{append-nil, drop_all}
use Rattle.std.proofs.Math.Seq.{drop-cons}
use Rattle.nx_piece.specs.declared.piece.Item.{Item}
use Rattle.nx_piece.specs.declared.piece.Item.TheVariants.{Tree, Run}
use Rattle.nx_piece.specs.declared.piece.Proxy.{Proxy}
use Rattle.nx_piece.specs.PieceNode.{item_slots, HasFarPage}
use Rattle.nx_piece.specs.Gapped.{Gapped, GappedTree, End, Grow, Gap, item_count, grown_of, gapped_width, gapped_size, gapped_nodes, slots_in}
use Rattle.nx_piece.specs.Items.{gapped_of}
use Rattle.nx_piece.specs.Encoding.{node_bytes, run_bytes, tree_bytes, items_bytes, proxy_bytes, proxies_bytes, head_bytes, body_bytes}
use Rattle.nx_piece.specs.Valid.{HaveNumbers, HavePages, AreApart, BeginsNoGap, IsSmall, IsSmallTree}

-- what a loop looks at is the first of what is left
pub next_left : {A : Type 0} (xs : List A) (i : ℕ) (x : A) → i < length xs → x ≡ get_or xs i x → drop i xs ≡ x ∷ drop (i + 1) xs
next_left xs i x within is =
    drop-cons xs i x within ∙ ap (λ y. y ∷ drop (suc i) xs) (sym is) ∙ ap (λ (j : ℕ). x ∷ drop j xs) (let q : suc i ≡ i + 1 = omega arith in q)

pub width_most : (f : Gapped) → gapped_width f ≤ item_count f
width_most End = omega arith
width_most (Grow n b s) = omega (arith, width_most s)
width_most (Gap c s) = omega (arith, width_most s)

mutual_bound : (f : Gapped) → AreApart f → (item_count f ≤ 3 * gapped_size f + 1) × (BeginsNoGap f → item_count f ≤ 3 * gapped_size f)
mutual_bound End h = (omega arith, λ _. omega arith)
mutual_bound (Grow n b s) h =
    let p = mutual_bound b h.0 in let q = mutual_bound s h.1 in
    let x : item_count b ≤ 3 * gapped_size b + 1 = p.0 in let y : item_count s ≤ 3 * gapped_size s + 1 = q.0 in
    (omega arith, λ _. omega arith)
mutual_bound (Gap c s) h =
    let q = mutual_bound s h.2 in
    let y : item_count s ≤ 3 * gapped_size s = q.1 h.1 in
    (omega arith, λ bad. absurd bad)

-- between the nodes of a piece stand few gaps
pub item_count_most : (f : Gapped) → AreApart f → item_count f ≤ 3 * gapped_size f + 1
item_count_most f h = (mutual_bound f h).0

pub slots_in_most : (f : Gapped) → slots_in f ≤ gapped_size f + item_count f
slots_in_most End = omega arith
slots_in_most (Grow n b s) = omega (arith, slots_in_most b, slots_in_most s)
slots_in_most (Gap c s) = omega (arith, slots_in_most s)

mutual_slots : (f : Gapped) → AreApart f → (slots_in f ≤ 3 * gapped_size f + 1) × (BeginsNoGap f → slots_in f ≤ 3 * gapped_size f)
mutual_slots End h = (omega arith, λ _. omega arith)
mutual_slots (Grow n b s) h =
    let p = mutual_slots b h.0 in let q = mutual_slots s h.1 in
    let x : slots_in b ≤ 3 * gapped_size b + 1 = p.0 in let y : slots_in s ≤ 3 * gapped_size s + 1 = q.0 in
    (omega arith, λ _. omega arith)
mutual_slots (Gap c s) h =
    let q = mutual_slots s h.2 in
    let y : slots_in s ≤ 3 * gapped_size s = q.1 h.1 in
    (omega arith, λ bad. absurd bad)

-- nor do these take many slots
pub slots_few : (f : Gapped) → AreApart f → slots_in f ≤ 3 * gapped_size f + 1
slots_few f h = (mutual_slots f h).0

-- each node weighs something
pub nodes_most : (f : Gapped) → gapped_nodes f ≤ gapped_size f
nodes_most End = omega arith
nodes_most (Grow n b s) = omega (arith, nodes_most b, nodes_most s)
nodes_most (Gap c s) = nodes_most s

-- what is left of a list has no more slots than all of it
pub item_count_drop : (i : ℕ) (items : List Item) → item_count (gapped_of (drop i items)) ≤ item_count (gapped_of items)
item_count_drop zero items = omega arith
item_count_drop (suc i) [] = omega arith
item_count_drop (suc i) (Tree t ∷ items) = omega (arith, item_count_drop i items)
item_count_drop (suc i) (Run c ∷ items) = omega (arith, item_count_drop i items)

-- a tree that comes next has fewer slots than what it stands in
pub next_falls : (f : Gapped) (items : List Item) (i : ℕ) (t : GappedTree) → gapped_of items ≡ f → drop i items ≡ Tree t ∷ drop (i + 1) items → suc (item_count t.below) ≤ item_count f
next_falls f items i t e d =
    let a = item_count_drop i items in let b = ap (λ (xs : List Item). item_count (gapped_of xs)) d in let c = ap item_count e in omega arith

width_length : (items : List Item) → gapped_width (gapped_of items) ≡ length items
width_length [] = refl
width_length (Tree t ∷ items) = let h = width_length items in omega (arith, h)
width_length (Run c ∷ items) = let h = width_length items in omega (arith, h)

-- the items of a tree as a list
pub width_items : (f : Gapped) (items : List Item) → gapped_of items ≡ f → length items ≡ gapped_width f
width_items f items e = sym (width_length items) ∙ ap gapped_width e

width_length_trees : (trees : List GappedTree) → gapped_width (grown_of trees) ≡ length trees
width_length_trees [] = refl
width_length_trees (t ∷ trees) = let h = width_length_trees trees in omega (arith, h)

pub width_trees : (f : Gapped) (trees : List GappedTree) → grown_of trees ≡ f → length trees ≡ gapped_width f
width_trees f trees e = sym (width_length_trees trees) ∙ ap gapped_width e

-- a piece's trees and gaps are few
pub small_width : (t : GappedTree) → IsSmallTree t → gapped_width t.below < 65536
small_width t h = let l = h.small in let s = item_count_most t.below h.apart in omega (arith, width_most t.below)

-- what is left of the trees and gaps is as small
pub next_small : (f g : Gapped) → f ≡ g → IsSmall f → IsSmall g
next_small f g e h = subst IsSmall e h

pub first_small : (t : GappedTree) (beside : Gapped) → IsSmall (Grow t.node t.below beside) → IsSmallTree t
first_small t beside h = let l = h.small in record { small = omega arith; apart = h.apart.0 }

pub behind_small : (t : GappedTree) (beside : Gapped) → IsSmall (Grow t.node t.below beside) → IsSmall beside
behind_small t beside h = let l = h.small in record { small = omega arith; apart = h.apart.1 }

pub behind_gap_small : (c : ℕ) (beside : Gapped) → IsSmall (Gap c beside) → IsSmall beside
behind_gap_small c beside h = record { small = h.small; apart = h.apart.2 }

-- so many items and slots are counted, and the rest is left
pub record IsMeasured (items slots : ℕ) (rest : Gapped) (all_items all_slots : ℕ) : Type 0 where
  pub item_sum : items + item_count rest ≡ all_items
  pub slot_sum : slots + slots_in rest ≡ all_slots
  pub small : IsSmall rest

-- so many bytes are written, and those of the rest are left
pub record IsWritten (now : List ℕ) (rest : Gapped) (all : List ℕ) (whole : Gapped) : Type 0 where
  pub bytes : now ++ items_bytes rest ≡ all
  pub pages : HavePages rest → HavePages whole
  pub small : IsSmall rest

pub tree_most : (t : GappedTree) → IsSmallTree t → (1 + item_count t.below ≤ 1000) × (item_slots t.node + slots_in t.below ≤ 2000)
tree_most t h = let l = h.small in let s = item_count_most t.below h.apart in let w = slots_in_most t.below in (omega arith, omega arith)

pub all_most : (f : Gapped) → IsSmall f → (item_count f ≤ 1000) × (slots_in f ≤ 2000)
all_most f h = let l = h.small in let s = item_count_most f h.apart in let w = slots_in_most f in (omega arith, omega arith)

pub measured_start : (w : ℕ) (f : Gapped) (t : GappedTree) → w ≡ item_slots t.node → f ≡ t.below → IsSmallTree t → IsMeasured 1 w f (1 + item_count t.below) (item_slots t.node + slots_in t.below)
measured_start w f t is e h = record {
  item_sum = ap (λ (g : Gapped). 1 + item_count g) e;
  slot_sum = let p = ap slots_in e in omega arith;
  small = let l = h.small in next_small t.below f (sym e) (record { small = omega arith; apart = h.apart });
}

pub measured_tree : {items slots more_items more_slots n w : ℕ} {rest beside : Gapped} {t : GappedTree} → IsMeasured items slots rest n w → rest ≡ Grow t.node t.below beside → more_items ≡ 1 + item_count t.below → more_slots ≡ item_slots t.node + slots_in t.below
    → IsMeasured (items + more_items) (slots + more_slots) beside n w
measured_tree {items} {slots} {more_items} {more_slots} {n} {w} {rest} {beside} {t} h e i k =
    let a = h.item_sum in let b = h.slot_sum in let p = ap item_count e in let q = ap slots_in e in
    record { item_sum = omega arith; slot_sum = omega arith; small = behind_small t beside (next_small _ _ e h.small) }

pub measured_gap : {items slots n w c : ℕ} {rest beside : Gapped} → IsMeasured items slots rest n w → rest ≡ Gap c beside → IsMeasured (items + 1) (slots + 1) beside n w
measured_gap {items} {slots} {n} {w} {c} {rest} {beside} h e =
    let a = h.item_sum in let b = h.slot_sum in let p = ap item_count e in let q = ap slots_in e in
    record { item_sum = omega arith; slot_sum = omega arith; small = behind_gap_small c beside (next_small _ _ e h.small) }

pub measured_end : (items slots n w : ℕ) (rest : Gapped) → IsMeasured items slots rest n w → rest ≡ End → (items ≡ n) × (slots ≡ w)
measured_end items slots n w rest h e =
    let a = h.item_sum in let b = h.slot_sum in let p = ap item_count e in let q = ap slots_in e in (omega arith, omega arith)

pub written_start : (now old : List ℕ) (f : Gapped) (t : GappedTree) → now ≡ old ++ node_bytes t.node (gapped_width t.below) → f ≡ t.below → IsSmallTree t → IsWritten now f (old ++ tree_bytes t) t.below
written_start now old f t is e h = record {
  bytes = ap (λ (r : List ℕ). r ++ items_bytes f) is ∙ append_assoc old (node_bytes t.node (gapped_width t.below)) (items_bytes f) ∙ ap (λ (g : Gapped). old ++ (node_bytes t.node (gapped_width t.below) ++ items_bytes g)) e;
  pages = subst HavePages e;
  small = let l = h.small in next_small t.below f (sym e) (record { small = omega arith; apart = h.apart });
}

pub written_tree : {now next all : List ℕ} {rest beside whole : Gapped} {t : GappedTree} → IsWritten now rest all whole → rest ≡ Grow t.node t.below beside → next ≡ now ++ tree_bytes t → HasFarPage t.node.far → HavePages t.below → IsWritten next beside all whole
written_tree {now} {next} {all} {rest} {beside} {whole} {t} h e is page pages = record {
  bytes = ap (λ (r : List ℕ). r ++ items_bytes beside) is
      ∙ append_assoc now (tree_bytes t) (items_bytes beside)
      ∙ sym (ap (λ (f : Gapped). now ++ items_bytes f) e)
      ∙ h.bytes;
  pages = λ k. h.pages (subst HavePages (sym e) (page, pages, k));
  small = behind_small t beside (next_small _ _ e h.small);
}

pub written_gap : {now next all : List ℕ} {c : ℕ} {rest beside whole : Gapped} → IsWritten now rest all whole → rest ≡ Gap c beside → next ≡ now ++ run_bytes c → IsWritten next beside all whole
written_gap {now} {next} {all} {c} {rest} {beside} {whole} h e is = record {
  bytes = ap (λ (r : List ℕ). r ++ items_bytes beside) is
      ∙ append_assoc now (run_bytes c) (items_bytes beside)
      ∙ sym (ap (λ (f : Gapped). now ++ items_bytes f) e)
      ∙ h.bytes;
  pages = λ k. h.pages (subst HavePages (sym e) k);
  small = behind_gap_small c beside (next_small _ _ e h.small);
}

pub written_end : (now all : List ℕ) (rest whole : Gapped) → IsWritten now rest all whole → rest ≡ End → (now ≡ all) × HavePages whole
written_end now all rest whole h e = (sym (append-nil now) ∙ sym (ap (λ (f : Gapped). now ++ items_bytes f) e) ∙ h.bytes, h.pages (subst HavePages (sym e) tt))

-- what is counted with the next is still little
pub fits_tree : {items slots more_items more_slots n w : ℕ} {rest beside : Gapped} {t : GappedTree} → IsMeasured items slots rest n w → rest ≡ Grow t.node t.below beside → more_items ≡ 1 + item_count t.below → more_slots ≡ item_slots t.node + slots_in t.below
    → (n ≤ 1000) × (w ≤ 2000) → (items + more_items ≤ 1000) × (slots + more_slots ≤ 2000)
fits_tree {items} {slots} {more_items} {more_slots} {n} {w} {rest} {beside} {t} h e i k most =
    let m = measured_tree h e i k in
    let a = m.item_sum in let b = m.slot_sum in (omega arith, omega arith)

pub fits_gap : {items slots n w c : ℕ} {rest beside : Gapped} → IsMeasured items slots rest n w → rest ≡ Gap c beside
    → (n ≤ 1000) × (w ≤ 2000) → (items + 1 ≤ 1000) × (slots + 1 ≤ 2000)
fits_gap {items} {slots} {n} {w} {c} {rest} {beside} h e most =
    let m = measured_gap h e in
    let a = m.item_sum in let b = m.slot_sum in (omega arith, omega arith)

-- the next item of a list, as what it adds to a forest
pub next_tree : (items : List Item) (i : ℕ) (item : Item) (t : GappedTree) → i < length items → item ≡ get_or items i item → item ≡ Tree t → drop i items ≡ Tree t ∷ drop (i + 1) items
next_tree items i item t within is e = next_left items i item within is ∙ ap (λ (x : Item). x ∷ drop (i + 1) items) e

pub next_run : (items : List Item) (i : ℕ) (item : Item) (c : ℕ) → i < length items → item ≡ get_or items i item → item ≡ Run c → gapped_of (drop i items) ≡ Gap c (gapped_of (drop (i + 1) items))
next_run items i item c within is e = ap gapped_of (next_left items i item within is ∙ ap (λ (x : Item). x ∷ drop (i + 1) items) e)

pub next_root : (trees : List GappedTree) (i : ℕ) (t : GappedTree) → i < length trees → t ≡ get_or trees i t → grown_of (drop i trees) ≡ Grow t.node t.below (grown_of (drop (i + 1) trees))
next_root trees i t within is = ap grown_of (next_left trees i t within is)

-- what stands at a place, before what stands behind it
pub next_at : {A : Type 0} (xs : List A) (i : ℕ) (other : A) → i < length xs → drop i xs ≡ get_or xs i other ∷ drop (i + 1) xs
next_at xs i other within = drop-cons xs i other within ∙ ap (λ (j : ℕ). get_or xs i other ∷ drop j xs) (let q : suc i ≡ i + 1 = omega arith in q)

-- a head and the items of its roots
pub whole_body : {now first start : List ℕ} {form n items : ℕ} {f roots : Gapped} (proxies chain : ℕ) → now ≡ first ++ items_bytes f → first ≡ start ++ head_bytes form n items proxies chain → start ≡ [] → f ≡ roots → n ≡ gapped_width roots → items ≡ item_count roots
    → now ≡ body_bytes form roots proxies chain
whole_body {now} {first} {start} {form} {n} {items} {f} {roots} proxies chain all head none same w s =
    all
    ∙ ap (λ (r : List ℕ). r ++ items_bytes f) (head ∙ ap (λ (r : List ℕ). r ++ head_bytes form n items proxies chain) none)
    ∙ ap (λ (g : Gapped). head_bytes form n items proxies chain ++ items_bytes g) same
    ∙ ap (λ (k : ℕ). head_bytes form k items proxies chain ++ items_bytes roots) w
    ∙ ap (λ (k : ℕ). head_bytes form (gapped_width roots) k proxies chain ++ items_bytes roots) s

-- the first proxies are written, and the bytes of the others are left
pub record ProxiesWritten (now old : List ℕ) (i : ℕ) (all : List Proxy) : Type 0 where
  pub bytes : now ++ proxies_bytes (drop i all) ≡ old ++ proxies_bytes all
  pub numbers : HaveNumbers (drop i all) → HaveNumbers all

pub proxies_start : (old : List ℕ) (all : List Proxy) → ProxiesWritten old old 0 all
proxies_start old all = record { bytes = refl; numbers = λ h. h }

pub proxies_more : {now next old : List ℕ} {i : ℕ} {all : List Proxy} (other : Proxy) → ProxiesWritten now old i all → i < length all → next ≡ now ++ proxy_bytes (get_or all i other)
    → ((get_or all i other).page < 4294967296) × ((get_or all i other).slot < 65536) → ProxiesWritten next old (i + 1) all
proxies_more {now} {next} {old} {i} {all} other h within is fits =
    let d = next_at all i other within in
    record {
      bytes = ap (λ (r : List ℕ). r ++ proxies_bytes (drop (i + 1) all)) is
          ∙ append_assoc now (proxy_bytes (get_or all i other)) (proxies_bytes (drop (i + 1) all))
          ∙ sym (ap (λ (ps : List Proxy). now ++ proxies_bytes ps) d)
          ∙ h.bytes;
      numbers = λ n. h.numbers (subst HaveNumbers (sym d) (fits.0, fits.1, n));
    }

pub proxies_end : (now old : List ℕ) (i : ℕ) (all : List Proxy) → ProxiesWritten now old i all → length all ≤ i → (now ≡ old ++ proxies_bytes all) × HaveNumbers all
proxies_end now old i all h end =
    let d = drop_all i all end in
    (sym (append-nil now) ∙ sym (ap (λ (ps : List Proxy). now ++ proxies_bytes ps) d) ∙ h.bytes, h.numbers (subst HaveNumbers (sym d) tt))
