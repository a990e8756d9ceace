-- A piece in which something is planted.
use Rattle.std.proofs.Common.{◌≡◌, ℕ, zero, suc, ◌+◌, ◌-◌, ◌≤◌, List, [], ◌∷◌, ◌++◌, length, take, drop, refl, sym, ap, ap₂, ◌∙◌, subst, arith, inl, inr}
use Rattle.std.specs.List.{slice_get, insert}
use Rattle.std.proofs.lemmas.Bool.{cases_lt}
use Rattle.std.proofs.lemmas.List.{drop-drop, length-append, length-drop, length-take-le}
use Rattle.nx_piece.specs.PieceNode.{MayBeFar, PieceNode, node_weight, item_slots}
use Rattle.nx_piece.specs.declared.piece.Piece.{Piece}
use Rattle.nx_piece.specs.declared.piece.Proxy.{Proxy}
use Rattle.nx_piece.specs.Gapped.{Gapped, GappedTree, End, Grow, Gap, gapped_width, gapped_size, proxies_in, with_gap}
use Rattle.nx_piece.specs.Valid.{AreApart, AreFar, AreTrees, HaveRoots, IsBodyWithin, IsPiece}
use Rattle.nx_piece.specs.Locate.{PieceChild, Kept, Inside, roots_of, kept_from, children_of, reached, reached_in}
use Rattle.nx_piece.proofs.SizeLemmas.{gapped_sum, sum_is_weight, sum_is_size}
use Rattle.nx_piece.proofs.LocateLemmas.{get_in_front, get_behind, kept_length, ranged_drop, ranged_take}
use Rattle.nx_piece_edits.specs.Taking.{led}
use Rattle.nx_piece_edits.specs.Setting.{with_tree}
use Rattle.nx_piece_edits.specs.Planting.{passed, put_at, put_below, FallsApart, IsWithNode, IsWithProxyAt}
use Rattle.nx_piece_edits.specs.declared.setting.NodeEdit.{NodeEdit}
use Rattle.nx_piece_edits.specs.Editing.{node_edited}
use Rattle.nx_piece_edits.proofs.TakeLemmas.{led_nowhere}
use Rattle.nx_piece_edits.proofs.LeftLemmas.{all_kept, passes_kept, tree_reached, first_reached, apart_gap, proxies_gap, sum_gap, far_gap, ranged_append}
use Rattle.nx_piece_edits.proofs.SetLemmas.{KeepsForm, set_keeps, within_more}
use Rattle.nx_piece_edits.proofs.PassedLemmas.{all_are_passed, passes_one, put_inside, put_beyond}

-- what is put adds so much by each measure of nodes, and so many proxies, and leaves gaps apart
pub record PutsMore (put : Gapped → Gapped) (added : (PieceNode → ℕ) → ℕ) (more : ℕ) (May : Type 0) : Type 0 where
  pub sums : (measure : PieceNode → ℕ) (f : Gapped) → gapped_sum measure (put f) ≡ gapped_sum measure f + added measure
  pub counted : (f : Gapped) → proxies_in (put f) ≡ proxies_in f + more
  pub apart : (f : Gapped) → AreApart f → AreApart (put f)
  pub far : May → (f : Gapped) → AreFar f → AreFar (put f)

-- what a node and a proxy add
abbrev leaf : PieceNode → (PieceNode → ℕ) → ℕ
leaf node measure = measure node

abbrev nothing : (PieceNode → ℕ) → ℕ
nothing measure = 0

leaf_more : (node : PieceNode) → PutsMore (λ f. Grow node End f) (leaf node) 0 (MayBeFar node)
leaf_more node = record { sums = λ measure f. omega arith; counted = λ f. omega arith; apart = λ f h. (tt, h); far = λ m f h. (m, tt, h) }

proxy_more : PutsMore (λ f. with_gap 1 f) nothing 1 (Unit {0})
proxy_more = record {
  sums = λ measure f. let w = sum_gap measure 1 f in omega (arith, w);
  counted = λ f. let c = proxies_gap 1 f in omega (arith, c);
  apart = λ f h. apart_gap 1 f (omega arith) h;
  far = λ m f h. far_gap 1 f h;
}

-- how trees and gaps change
pub record IsMore (f g : Gapped) (added : (PieceNode → ℕ) → ℕ) (more : ℕ) (May : Type 0) : Type 0 where
  pub sums : (measure : PieceNode → ℕ) → gapped_sum measure g ≡ gapped_sum measure f + added measure
  pub counted : proxies_in g ≡ proxies_in f + more
  pub apart : AreApart g
  pub far : May → AreFar f → AreFar g

pub put_keeps : {put : Gapped → Gapped} {added : (PieceNode → ℕ) → ℕ} {more : ℕ} {May : Type 0} → PutsMore put added more May → (ps : List Proxy) (first : ℕ) (f : Gapped) (n : ℕ) → FallsApart (children_of ps first f) n → AreApart f → HaveRoots ps → first + proxies_in f ≤ length ps
    → IsMore f (put_at put n f (drop first ps)) added more May
put_keeps m ps first f zero between apart ranged fits = record { sums = λ measure. m.sums measure f; counted = m.counted f; apart = m.apart f apart; far = λ y h. m.far y f h }
put_keeps m ps first End (suc n) between apart ranged fits = let w = between.within in absurd (omega (arith, w))
put_keeps {put} {added} {more} {May} m ps first (Grow node b s) (suc n) between apart ranged fits =
    let within = between.within in
    let rest : FallsApart (children_of ps (first + proxies_in b) s) n = record { within = omega (arith, within); apart = λ k i e. between.apart k i e } in
    let h : IsMore s (put_at put n s (drop (proxies_in b) (drop first ps))) added more May =
    subst (λ qs. IsMore s (put_at put n s qs) added more May) (sym (drop-drop (proxies_in b) first ps)) (put_keeps m ps (first + proxies_in b) s n rest apart.1 ranged (omega (arith, fits))) in
    let c = h.counted in
    record { sums = λ measure. let w = h.sums measure in omega (arith, w); counted = omega (arith, c); apart = (apart.0, h.apart); far = λ y k. (k.0, k.1, h.far y k.2) }
put_keeps {put} {added} {more} {May} m ps first (Gap c s) (suc n) between apart ranged fits =
    let own : List Proxy = take c (drop first ps) in
    let others : List PieceChild = children_of ps (first + c) s in
    let some : 1 ≤ c = apart.0 in
    let long = length-drop first ps in
    let taken = length-take-le c (drop first ps) (omega (arith, fits, long)) in
    let within = between.within in
    elim (cases_lt (passed (suc n) own) c) [
      | inl inside ↦
          let q : ℕ = passed (suc n) own in
          let one = passes_one first (suc n) own (omega arith) (omega (arith, some, taken)) (λ k i e. between.apart k i (get_in_front (kept_from first own) others (suc n) (Kept k i) e)) in
          let rest : Gapped = Gap (c - q) s in
          let p = m.counted rest in
          let y = proxies_gap q (put rest) in
          subst (λ g. IsMore (Gap c s) g added more May) (sym (put_inside put (suc n) c s (drop first ps) (omega arith) inside)) (record {
            sums = λ measure. let w = m.sums measure rest in let x = sum_gap measure q (put rest) in omega (arith, w, x);
            counted = omega (arith, p, y, inside);
            apart = apart_gap q (put rest) one (m.apart rest ((omega (arith, inside)), apart.1, apart.2));
            far = λ y k. far_gap q (put rest) (m.far y rest k);
          })
      | inr beyond ↦
          let roots = all_are_passed (suc n) own (omega (arith, beyond, taken)) in
          let count = kept_length first own in
          let left : ℕ = suc n - roots_of own in
          let place : suc n ≡ length (kept_from first own) + left = omega (arith, roots, count) in
          let sum = length-append (kept_from first own) others in
          let there = ap (slice_get (kept_from first own ++ others)) place ∙ get_behind (kept_from first own) others left in
          let rest : FallsApart others left = record { within = omega (arith, within, sum, place); apart = λ k i e. between.apart k i (there ∙ e) } in
          let g : Gapped = put_at put left s (drop c (drop first ps)) in
          let h : IsMore s g added more May =
          subst (λ qs. IsMore s (put_at put left s qs) added more May) (sym (drop-drop c first ps)) (put_keeps m ps (first + c) s left rest apart.2 ranged (omega (arith, fits))) in
          let p = h.counted in
          let y = proxies_gap c g in
          subst (λ f. IsMore (Gap c s) f added more May) (sym (put_beyond put (suc n) c s (drop first ps) (omega arith) beyond)) (record {
            sums = λ measure. let w = h.sums measure in let x = sum_gap measure c g in omega (arith, w, x);
            counted = omega (arith, p, y);
            apart = apart_gap c g some h.apart;
            far = λ y k. far_gap c g (h.far y k);
          })
    ]

-- a tree that a path leads to has its proxies among those of the whole, and its gaps apart
pub led_part : (ps : List Proxy) (first used position : ℕ) (path : List ℕ) (f : Gapped) (t : GappedTree) (before : ℕ) → led ps first f used position path ≡ Inside t before
    → (before + proxies_in t.below ≤ first + proxies_in f) × (AreApart f → AreApart t.below) × (AreFar f → MayBeFar t.node × AreFar t.below)
led_part ps first used position path End t before e = absurd (led_nowhere ps used path t before e)
led_part ps first used zero [] (Grow n b s) t before e =
    let own : GappedTree = record { node = n; below = b } in
    let same : own ≡ t = ap (tree_reached own) e in
    let place : first ≡ before = ap first_reached e in
    let below = ap (λ (u : GappedTree). proxies_in u.below) same in
    (omega (arith, place, below), λ h. subst (λ (u : GappedTree). AreApart u.below) same h.0, λ h. subst (λ (u : GappedTree). MayBeFar u.node × AreFar u.below) same (h.0, h.1))
led_part ps first used zero (next ∷ path) (Grow n b s) t before e =
    let h = led_part ps first (used + 1) next path b t before e in
    let fits : before + proxies_in t.below ≤ first + proxies_in b = h.0 in
    (omega (arith, fits), λ a. h.1 a.0, λ a. h.2 a.1)
led_part ps first used (suc position) path (Grow n b s) t before e =
    let h = led_part ps (first + proxies_in b) used position path s t before e in
    let fits : before + proxies_in t.below ≤ first + proxies_in b + proxies_in s = h.0 in
    (omega (arith, fits), λ a. h.1 a.1, λ a. h.2 a.2)
led_part ps first used position path (Gap c s) t before e =
    let kept : List PieceChild = kept_from first (take c (drop first ps)) in
    let p = passes_kept ps used path kept (children_of ps (first + c) s) position t before (all_kept first (take c (drop first ps))) e in
    let h = led_part ps (first + c) used p.0 path s t before p.2 in
    let fits : before + proxies_in t.below ≤ first + c + proxies_in s = h.0 in
    (omega (arith, fits), λ a. h.1 a.2, λ a. h.2 a)

-- trees and gaps in which something is put below a node
pub record IsGrown (f g : Gapped) (added : (PieceNode → ℕ) → ℕ) (more : ℕ) (May : Type 0) : Type 0 where
  pub sums : (measure : PieceNode → ℕ) → gapped_sum measure g ≡ gapped_sum measure f + added measure
  pub counted : proxies_in g ≡ proxies_in f + more
  pub apart : AreApart g
  pub far : May → AreFar g
  pub width : gapped_width g ≡ gapped_width f
  pub trees : AreTrees f → AreTrees g

below_grown : {put : Gapped → Gapped} {added : (PieceNode → ℕ) → ℕ} {more : ℕ} {May : Type 0} → PutsMore put added more May → (piece : Piece) (member : ℕ) (path : List ℕ) (position : ℕ) (tree : GappedTree) (first : ℕ) → IsPiece piece → reached_in piece member path ≡ Inside tree first
    → FallsApart (children_of piece.proxies first tree.below) position
    → IsGrown piece.body.roots (with_tree member path (put_below put position tree (drop first piece.proxies)) piece.body.roots piece.proxies) added more May
below_grown {put} {added} {more} {May} m piece member path position tree first h leads between =
    let new : GappedTree = put_below put position tree (drop first piece.proxies) in
    let part = led_part piece.proxies 0 0 member path piece.body.roots tree first leads in
    let within : first + proxies_in tree.below ≤ 0 + proxies_in piece.body.roots = part.0 in
    let all = h.body.counted in
    let own = put_keeps m piece.proxies first tree.below position between (part.1 h.body.apart) h.ranged (omega (arith, within, all)) in
    let k : KeepsForm piece.body.roots (with_tree member path new piece.body.roots piece.proxies) tree new = set_keeps piece.proxies 0 0 member path piece.body.roots tree first new leads in
    let c = k.counted in
    let y = own.counted in
    record {
      sums = λ measure. let w = k.sums measure in let x = own.sums measure in omega (arith, w, x);
      counted = omega (arith, c, y);
      apart = k.apart h.body.apart (λ _. own.apart);
      far = λ y. k.far h.body.far (part.2 h.body.far).0 (λ _. own.far y (part.2 h.body.far).1);
      width = k.width;
      trees = k.trees;
    }

grown_within : {most_roots slots more_slots n more : ℕ} {added : (PieceNode → ℕ) → ℕ} {May : Type 0} {f g : Gapped} → IsBodyWithin most_roots slots f n → IsGrown f g added more May → May → gapped_size g ≤ more_slots → n + more ≤ 524288 → IsBodyWithin most_roots more_slots g (n + more)
grown_within {most_roots} {slots} {more_slots} {n} {more} {added} {May} {f} {g} h k may small room =
    let width = k.width in
    let counts = k.counted in
    let some = h.some in
    let few = h.few in
    let counted = h.counted in
    record {
      trees = k.trees h.trees;
      some = omega (arith, width, some);
      few = omega (arith, width, few);
      small = small;
      apart = k.apart;
      far = k.far may;
      counted = omega (arith, counts, counted);
      few_proxies = room;
    }

no_more : {most_roots slots n : ℕ} {f : Gapped} → IsBodyWithin most_roots slots f (n + 0) → IsBodyWithin most_roots slots f n
no_more {most_roots} {slots} {n} {f} h = subst (λ (k : ℕ). IsBodyWithin most_roots slots f k) (let e : n + 0 ≡ n = omega arith in e) h

pub node_is : (piece : Piece) (member : ℕ) (path : List ℕ) (position : ℕ) (node : PieceNode) (roots : Gapped) (tree : GappedTree) (first : ℕ) → IsPiece piece → reached_in piece member path ≡ Inside tree first
    → FallsApart (children_of piece.proxies first tree.below) position → roots ≡ with_tree member path (put_below (λ f. Grow node End f) position tree (drop first piece.proxies)) piece.body.roots piece.proxies
    → IsWithNode piece member path position node (record { body = record { roots = roots }; proxies = piece.proxies })
node_is piece member path position node roots tree first h leads between is =
    let k : IsGrown piece.body.roots roots (leaf node) 0 (MayBeFar node) = subst (λ g. IsGrown piece.body.roots g (leaf node) 0 (MayBeFar node)) (sym is) (below_grown (leaf_more node) piece member path position tree first h leads between) in
    let weights = k.sums node_weight in
    let sizes = k.sums item_slots in
    let sized : gapped_size roots ≡ gapped_size piece.body.roots + item_slots node = omega (arith, sizes, sum_is_size roots, sum_is_size piece.body.roots) in
    record {
      tree = tree;
      first = first;
      leads = leads;
      body = is;
      proxies = refl;
      weighs = omega (arith, weights, sum_is_weight roots, sum_is_weight piece.body.roots);
      sized = sized;
      large = λ v may most.
          let small = v.body.small in
          let few = v.body.few_proxies in
          record { body = within_more (no_more (grown_within {more_slots = 512} v.body k may (omega (arith, sized, small, most)) (omega (arith, few)))) (omega arith) (omega arith); ranged = v.ranged };
      valid = λ v may most. let few = v.body.few_proxies in record { body = no_more (grown_within v.body k may most (omega (arith, few))); ranged = v.ranged };
    }

one_longer : (ps : List Proxy) (index : ℕ) (proxy : Proxy) → index ≤ length ps → length (insert ps index proxy) ≡ length ps + 1
one_longer ps index proxy within =
    let a = length-append (take index ps) (proxy ∷ drop index ps) in
    let b = length-take-le index ps within in
    let c = length-drop index ps in
    omega (arith, a, b, c, within)

pub proxy_is : (piece : Piece) (member : ℕ) (path : List ℕ) (position index : ℕ) (proxy : Proxy) (roots : Gapped) (proxies : List Proxy) (tree : GappedTree) (first : ℕ) → IsPiece piece → reached_in piece member path ≡ Inside tree first
    → FallsApart (children_of piece.proxies first tree.below) position → index ≤ length piece.proxies
    → roots ≡ with_tree member path (put_below (λ f. with_gap 1 f) position tree (drop first piece.proxies)) piece.body.roots piece.proxies → proxies ≡ insert piece.proxies index proxy
    → IsWithProxyAt piece member path position index proxy (record { body = record { roots = roots }; proxies = proxies })
proxy_is piece member path position index proxy roots proxies tree first h leads between within is now =
    let k : IsGrown piece.body.roots roots nothing 1 (Unit {0}) = subst (λ g. IsGrown piece.body.roots g nothing 1 (Unit {0})) (sym is) (below_grown proxy_more piece member path position tree first h leads between) in
    let weights = k.sums node_weight in
    let sizes = k.sums item_slots in
    let long : length piece.proxies + 1 ≡ length proxies = sym (ap length now ∙ one_longer piece.proxies index proxy within) in
    let ranged : 1 ≤ proxy.roots → proxy.roots ≤ 256 → HaveRoots proxies = λ some most.
    subst HaveRoots (sym now) (ranged_append (take index piece.proxies) (proxy ∷ drop index piece.proxies) (ranged_take index piece.proxies h.ranged) (some, most, ranged_drop index piece.proxies h.ranged)) in
    let same : gapped_size roots ≡ gapped_size piece.body.roots = omega (arith, sizes, sum_is_size roots, sum_is_size piece.body.roots) in
    record {
      tree = tree;
      first = first;
      leads = leads;
      body = is;
      proxies = now;
      weighs = omega (arith, weights, sum_is_weight roots, sum_is_weight piece.body.roots);
      sized = same;
      stays = λ some most room.
          let small = h.body.small in
          record { body = subst (λ (n : ℕ). IsBodyWithin 257 512 roots n) long (grown_within h.body k tt (omega (arith, same, small)) (omega (arith, room))); ranged = ranged some most };
      valid = λ v some most room.
          let small = v.body.small in
          record { body = subst (λ (n : ℕ). IsBodyWithin 256 256 roots n) long (grown_within v.body k tt (omega (arith, same, small)) (omega (arith, room))); ranged = ranged some most };
    }

-- roots in which the node that a path leads to was edited
pub root_edited : (piece : Piece) (member : ℕ) (path : List ℕ) (proxies : List Proxy) (old new : Gapped) (edit : NodeEdit) (tree : GappedTree) (first : ℕ) → proxies ≡ piece.proxies → old ≡ piece.body.roots → reached_in piece member path ≡ Inside tree first
    → ((target : GappedTree) (before used : ℕ) → reached proxies used path (slice_get (children_of proxies 0 old) member) ≡ Inside target before → new ≡ with_tree member path (node_edited edit target (drop before proxies)) old proxies)
    → new ≡ with_tree member path (node_edited edit tree (drop first piece.proxies)) piece.body.roots piece.proxies
root_edited piece member path proxies old new edit tree first same all leads done =
    done tree first 0 (ap₂ (λ (ps : List Proxy) (f : Gapped). reached ps 0 path (slice_get (children_of ps 0 f) member)) same all ∙ leads)
    ∙ ap₂ (λ (ps : List Proxy) (f : Gapped). with_tree member path (node_edited edit tree (drop first ps)) f ps) same all
