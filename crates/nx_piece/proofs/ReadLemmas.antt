-- Items read one after another.
use Rattle.std.proofs.Common.{◌≡◌, ℕ, ◌+◌, ◌<◌, ◌≤◌, Bool, true, false, List, ◌++◌, refl, sym, ap, ◌∙◌, subst, arith, append_assoc}
use Rattle.nx_piece.specs.declared.reading.Left.{Left}
use Rattle.nx_piece.specs.PieceNode.{PieceNode, item_slots, MayBeFar}
use Rattle.nx_piece.specs.Gapped.{Gapped, GappedTree, End, Grow, Gap, item_count, gapped_width, gapped_size, proxies_in}
use Rattle.nx_piece.specs.Encoding.{node_bytes, run_bytes, items_bytes}
use Rattle.nx_piece.specs.Valid.{AreApart, AreFar, BeginsNoGap, HavePages}
use Rattle.nx_piece.specs.Reading.{alone, HasReadItems, BeginsWithItems, BeginsNoTree, BeginsNoRun, BeginsNoItems, HasTakenNode, IsLeft}
use Rattle.nx_piece.proofs.WalkLemmas.{item_count_most, width_most}
use Rattle.nx_piece.proofs.ApartLemmas.{row, width_row, IsStorable, node_unique, grow_bytes, goes_on}

-- the last one is a gap
abbrev pub ends_in_gap : Gapped → Bool
ends_in_gap End = false
ends_in_gap (Grow n b End) = false
ends_in_gap (Grow n b (Grow m c s)) = ends_in_gap (Grow m c s)
ends_in_gap (Grow n b (Gap c s)) = ends_in_gap (Gap c s)
ends_in_gap (Gap d End) = true
ends_in_gap (Gap d (Grow m c s)) = ends_in_gap (Grow m c s)
ends_in_gap (Gap d (Gap c s)) = ends_in_gap (Gap c s)

pub row_bytes : (f g : Gapped) → items_bytes (row f g) ≡ items_bytes f ++ items_bytes g
row_bytes End g = refl
row_bytes (Grow n b s) g =
    ap (λ (r : List ℕ). (node_bytes n (gapped_width b) ++ items_bytes b) ++ r) (row_bytes s g)
    ∙ sym (append_assoc (node_bytes n (gapped_width b) ++ items_bytes b) (items_bytes s) (items_bytes g))
row_bytes (Gap c s) g = ap (λ (r : List ℕ). run_bytes c ++ r) (row_bytes s g)

pub row_size : (f g : Gapped) → gapped_size (row f g) ≡ gapped_size f + gapped_size g
row_size End g = omega arith
row_size (Grow n b s) g = let h = row_size s g in omega (arith, h)
row_size (Gap c s) g = row_size s g

pub row_proxies : (f g : Gapped) → proxies_in (row f g) ≡ proxies_in f + proxies_in g
row_proxies End g = omega arith
row_proxies (Grow n b s) g = let h = row_proxies s g in omega (arith, h)
row_proxies (Gap c s) g = let h = row_proxies s g in omega (arith, h)

pub row_item_count : (f g : Gapped) → item_count (row f g) ≡ item_count f + item_count g
row_item_count End g = omega arith
row_item_count (Grow n b s) g = let h = row_item_count s g in omega (arith, h)
row_item_count (Gap c s) g = let h = row_item_count s g in omega (arith, h)

pub row_apart : (f g : Gapped) → AreApart f → AreApart g → (ends_in_gap f ≡ true → BeginsNoGap g) → AreApart (row f g)
row_apart End g hf hg h = hg
row_apart (Grow n b End) g hf hg h = (hf.0, hg)
row_apart (Grow n b (Grow m c s)) g hf hg h = (hf.0, row_apart (Grow m c s) g hf.1 hg h)
row_apart (Grow n b (Gap c s)) g hf hg h = (hf.0, row_apart (Gap c s) g hf.1 hg h)
row_apart (Gap d End) g hf hg h = (hf.0, h refl, hg)
row_apart (Gap d (Grow m c s)) g hf hg h = (hf.0, tt, row_apart (Grow m c s) g hf.2 hg h)
row_apart (Gap d (Gap c s)) g hf hg h = absurd hf.1

pub apart_row : (f g : Gapped) → AreApart (row f g) → AreApart g × (ends_in_gap f ≡ true → BeginsNoGap g)
apart_row End g h = (h, λ e. absurd (cc))
apart_row (Grow n b End) g h = (h.1, λ e. absurd (cc))
apart_row (Grow n b (Grow m c s)) g h = apart_row (Grow m c s) g h.1
apart_row (Grow n b (Gap c s)) g h = apart_row (Gap c s) g h.1
apart_row (Gap d End) g h = (h.2, λ e. h.1)
apart_row (Gap d (Grow m c s)) g h = apart_row (Grow m c s) g h.2
apart_row (Gap d (Gap c s)) g h = absurd h.1

row_far : (f g : Gapped) → AreFar f → AreFar g → AreFar (row f g)
row_far End g h k = k
row_far (Grow n b s) g h k = (h.0, h.1, row_far s g h.2 k)
row_far (Gap c s) g h k = row_far s g h k

row_pages : (f g : Gapped) → HavePages f → HavePages g → HavePages (row f g)
row_pages End g h k = k
row_pages (Grow n b s) g h k = (h.0, h.1, row_pages s g h.2 k)
row_pages (Gap c s) g h k = row_pages s g h k

far_row : (f g : Gapped) → AreFar (row f g) → AreFar g
far_row End g h = h
far_row (Grow n b s) g h = far_row s g h.2
far_row (Gap c s) g h = far_row s g h

pages_row : (f g : Gapped) → HavePages (row f g) → HavePages g
pages_row End g h = h
pages_row (Grow n b s) g h = pages_row s g h.2
pages_row (Gap c s) g h = pages_row s g h

-- more is read behind what is read
pub read_more : {bytes rest behind : List ℕ} {before between after : Left} {f g : Gapped} → HasReadItems bytes before f rest between → HasReadItems rest between g behind after → (ends_in_gap f ≡ true → BeginsNoGap g) → HasReadItems bytes before (row f g) behind after
read_more {bytes} {rest} {behind} {before} {between} {after} {f} {g} h k next = record {
  same = h.same ∙ ap (λ (r : List ℕ). items_bytes f ++ r) k.same ∙ sym (ap (λ (r : List ℕ). r ++ behind) (row_bytes f g) ∙ append_assoc (items_bytes f) (items_bytes g) behind);
  room = let a = h.room in let b = k.room in let c = row_size f g in omega arith;
  proxies = let a = h.proxies in let b = k.proxies in let c = row_proxies f g in omega arith;
  items = let a = h.items in let b = k.items in let c = row_item_count f g in omega arith;
  apart = row_apart f g h.apart k.apart next;
  far = row_far f g h.far k.far;
  pages = row_pages f g h.pages k.pages;
}

-- nothing is read yet
pub read_none : (bytes : List ℕ) (left : Left) → HasReadItems bytes left End bytes left
read_none bytes left = record { same = refl; room = omega arith; proxies = omega arith; items = omega arith; apart = tt; far = tt; pages = tt }

pub read_storable : (bytes behind : List ℕ) (before after : Left) (f : Gapped) → HasReadItems bytes before f behind after → IsLeft before → IsStorable f
read_storable bytes behind before after f h l =
    let a = h.room in let b = h.proxies in let r = l.room in let p = l.proxies in
    record { small = omega arith; few = omega arith; apart = h.apart; far = h.far; pages = h.pages }

pub begins_storable : (bytes behind : List ℕ) (left : Left) (f : Gapped) → BeginsWithItems bytes left f behind → IsLeft left → IsStorable f
begins_storable bytes behind left f h l =
    let a = h.room in let b = h.proxies in let r = l.room in let p = l.proxies in
    record { small = omega arith; few = omega arith; apart = h.apart; far = h.far; pages = h.pages }

-- what the bytes begin with goes on behind what is read of it
pub record Remains (rest : List ℕ) (left : Left) (f g : Gapped) (behind : List ℕ) : Type 0 where
  pub last : Gapped
  pub is : g ≡ row f last
  pub begins : BeginsWithItems rest left last behind
  pub next : ends_in_gap f ≡ true → BeginsNoGap last

pub remains : {bytes rest behind : List ℕ} {before left : Left} {f g : Gapped} → HasReadItems bytes before f rest left → BeginsWithItems bytes before g behind → IsLeft before → gapped_width f ≤ gapped_width g → Remains rest left f g behind
remains {bytes} {rest} {behind} {before} {left} {f} {g} h k l w =
    let on = goes_on f g rest behind (read_storable _ _ _ _ f h l) (begins_storable _ _ _ g k l) w (sym h.same ∙ k.same) in
    let parts = apart_row f on.rest (subst AreApart on.is k.apart) in
    let a = h.room in let b = h.proxies in let c = h.items in
    let d = k.room in let e = k.proxies in let i = k.items in
    let x = ap gapped_size on.is ∙ row_size f on.rest in
    let y = ap proxies_in on.is ∙ row_proxies f on.rest in
    let z = ap item_count on.is ∙ row_item_count f on.rest in
    record {
      last = on.rest;
      is = on.is;
      begins = record {
        same = on.bytes;
        room = omega arith;
        proxies = omega arith;
        items = omega arith;
        apart = parts.0;
        far = far_row f on.rest (subst AreFar on.is k.far);
        pages = pages_row f on.rest (subst HavePages on.is k.pages);
      };
      next = parts.1;
    }

-- where neither a tree nor a run begins nothing does
pub nothing_begins : {rest behind : List ℕ} {left : Left} {last : Gapped} {after_run : Bool} → BeginsWithItems rest left last behind → 0 < gapped_width last → BeginsNoTree rest left → BeginsNoRun rest left after_run → (after_run ≡ true → BeginsNoGap last) → ⊥
nothing_begins {rest} {behind} {left} {last = End} {after_run} h w trees runs next = omega arith
nothing_begins {rest} {behind} {left} {last = (Grow n b s)} {after_run} h w trees runs next =
    let r = h.room in let p = h.proxies in let i = h.items in
    trees (record { node = n; below = b }) (items_bytes s ++ behind) (record {
      same = h.same ∙ sym (grow_bytes n b s behind) ∙ grow_bytes n b End (items_bytes s ++ behind);
      room = omega arith;
      proxies = omega arith;
      items = omega arith;
      apart = (h.apart.0, tt);
      far = (h.far.0, h.far.1, tt);
      pages = (h.pages.0, h.pages.1, tt);
    })
nothing_begins {rest} {behind} {left} {last = (Gap c s)} {after_run = true} h w trees runs next = next refl
nothing_begins {rest} {behind} {left} {last = (Gap c s)} {after_run = false} h w trees runs next =
    let r = h.room in let p = h.proxies in let i = h.items in
    runs c (items_bytes s ++ behind) refl (record {
      same = h.same;
      room = omega arith;
      proxies = omega arith;
      items = omega arith;
      apart = (h.apart.0, tt, tt);
      far = tt;
      pages = tt;
    })

-- what a loop has read, and whether a run was the last
pub record ItemsRead (bytes : List ℕ) (before : Left) (f : Gapped) (rest : List ℕ) (left : Left) (i : ℕ) (after_run : Bool) : Type 0 where
  pub read : HasReadItems bytes before f rest left
  pub counted : gapped_width f ≡ i
  pub run : ends_in_gap f ≡ after_run

ends_one : (f : Gapped) (n : PieceNode) (b : Gapped) → ends_in_gap (row f (Grow n b End)) ≡ false
ends_one End n b = refl
ends_one (Grow m c End) n b = refl
ends_one (Grow m c (Grow k d s)) n b = ends_one (Grow k d s) n b
ends_one (Grow m c (Gap k s)) n b = ends_one (Gap k s) n b
ends_one (Gap m End) n b = refl
ends_one (Gap m (Grow k d s)) n b = ends_one (Grow k d s) n b
ends_one (Gap m (Gap k s)) n b = ends_one (Gap k s) n b

ends_gap : (f : Gapped) (c : ℕ) → ends_in_gap (row f (Gap c End)) ≡ true
ends_gap End c = refl
ends_gap (Grow m k End) c = refl
ends_gap (Grow m k (Grow n d s)) c = ends_gap (Grow n d s) c
ends_gap (Grow m k (Gap n s)) c = ends_gap (Gap n s) c
ends_gap (Gap m End) c = refl
ends_gap (Gap m (Grow n d s)) c = ends_gap (Grow n d s) c
ends_gap (Gap m (Gap n s)) c = ends_gap (Gap n s) c

pub no_item_read : (bytes : List ℕ) (left : Left) → ItemsRead bytes left End bytes left 0 false
no_item_read bytes left = record { read = read_none bytes left; counted = refl; run = refl }

pub tree_read : {bytes rest behind : List ℕ} {before between after : Left} {f : Gapped} {t : GappedTree} {i : ℕ} {after_run : Bool} → ItemsRead bytes before f rest between i after_run → HasReadItems rest between (alone t) behind after
    → ItemsRead bytes before (row f (alone t)) behind after (i + 1) false
tree_read {bytes} {rest} {behind} {before} {between} {after} {f} {t} {i} {after_run} h k =
    let w = width_row f (alone t) in let c = h.counted in
    record { read = read_more h.read k (λ _. tt); counted = omega arith; run = ends_one f t.node t.below }

pub run_read : {bytes rest behind : List ℕ} {before between after : Left} {f : Gapped} {c i : ℕ} {after_run : Bool} → ItemsRead bytes before f rest between i after_run → (after_run ≡ false) × HasReadItems rest between (Gap c End) behind after
    → ItemsRead bytes before (row f (Gap c End)) behind after (i + 1) true
run_read {bytes} {rest} {behind} {before} {between} {after} {f} {c} {i} {after_run} h k =
    let w = width_row f (Gap c End) in let n = h.counted in
    let none : ends_in_gap f ≡ false = h.run ∙ k.0 in
    record { read = read_more h.read k.1 (λ y. absurd (cc)); counted = omega arith; run = ends_gap f c }

pub head_left : (bytes behind : List ℕ) (before left : Left) (node : PieceNode) (count : ℕ) → HasTakenNode bytes before node count behind left → IsLeft before → IsLeft left
head_left bytes behind before left node count h l =
    let a = h.room in let b = h.proxies in let r = l.room in let p = l.proxies in record { room = omega arith; proxies = omega arith }

-- a head and all its items are a tree
pub whole_tree : {bytes behind rest : List ℕ} {before left after : Left} {node : PieceNode} {count i : ℕ} {f : Gapped} {after_run : Bool} → HasTakenNode bytes before node count behind left → ItemsRead behind left f rest after i after_run → i ≡ count
    → HasReadItems bytes before (Grow node f End) rest after
whole_tree {bytes} {behind} {rest} {before} {left} {after} {node} {count} {i} {f} {after_run} h k e =
    let w : count ≡ gapped_width f = sym e ∙ sym k.counted in
    record {
      same = h.same ∙ ap (λ (n : ℕ). node_bytes node n ++ behind) w ∙ ap (λ (r : List ℕ). node_bytes node (gapped_width f) ++ r) k.read.same ∙ grow_bytes node f End rest;
      room = let a = h.room in let b = k.read.room in omega arith;
      proxies = let a = h.proxies in let b = k.read.proxies in omega arith;
      items = let a = h.items in let b = k.read.items in omega arith;
      apart = (k.read.apart, tt);
      far = (h.far, k.read.far, tt);
      pages = (h.page, k.read.pages, tt);
    }

pub lone_node : {bytes behind : List ℕ} {before left : Left} {node : PieceNode} {count : ℕ} → HasTakenNode bytes before node count behind left → count ≡ 0 → HasReadItems bytes before (Grow node End End) behind left
lone_node {bytes} {behind} {before} {left} {node} {count} h none = whole_tree h (no_item_read behind left) (sym none)

-- where the items of a tree don't begin there is no tree
pub no_tree : {bytes behind : List ℕ} {before left : Left} {node : PieceNode} {count : ℕ} → HasTakenNode bytes before node count behind left → IsLeft before → count < 65536 → BeginsNoItems behind left count false → BeginsNoTree bytes before
no_tree {bytes} {behind} {before} {left} {node} {count} h l fits none t last b =
    let own : item_slots t.node ≤ 256 = let r = b.room in let q = l.room in omega arith in
    let mine : item_slots node ≤ 256 = let r = h.room in let q = l.room in omega arith in
    let few : gapped_width t.below < 65536 = let r = b.room in let q = l.room in let s = item_count_most t.below b.apart.0 in let w = width_most t.below in omega arith in
    let told = node_unique mine own h.far b.far.0 h.page b.pages.0 fits few (sym h.same ∙ b.same ∙ sym (grow_bytes t.node t.below End last)) in
    let same_size : item_slots node ≡ item_slots t.node = ap item_slots told.0 in
    none t.below last (λ e. absurd (cc)) (sym told.1)
    (record {
      same = told.2;
      room = let x = b.room in let y = h.room in omega arith;
      proxies = let x = b.proxies in let y = h.proxies in omega arith;
      items = let x = b.items in let y = h.items in omega arith;
      apart = b.apart.0;
      far = b.far.1;
      pages = b.pages.1;
    })

-- where no node begins there is no tree
pub no_head : (bytes : List ℕ) (left : Left) → IsLeft left → ((node : PieceNode) (items : ℕ) (behind : List ℕ) → item_slots node ≤ left.room → MayBeFar node → items < 65536 → bytes ≡ node_bytes node items ++ behind → ⊥) → BeginsNoTree bytes left
no_head bytes left l none t behind b =
    let r = b.room in let q = l.room in let s = item_count_most t.below b.apart.0 in let w = width_most t.below in
    none t.node (gapped_width t.below) (items_bytes t.below ++ behind) (omega arith) b.far.0 (omega arith) (b.same ∙ sym (grow_bytes t.node t.below End behind))
