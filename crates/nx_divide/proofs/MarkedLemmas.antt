-- What marks tell of the next items.
use Rattle.std.proofs.Common.{◌≡◌, ℕ, zero, suc, ◌+◌, ◌≤◌, ◌<◌, List, [], ◌∷◌, ◌++◌, length, take, drop, length-drop, Option, None, Some, inl, inr, refl, sym, ap, ◌∙◌, arith, append_assoc}
use Rattle.nx_piece.specs.declared.piece.Item.{Item}
use Rattle.nx_piece.specs.declared.piece.Item.TheVariants.{Tree, Run}
use Rattle.nx_piece.specs.declared.piece.Proxy.{Proxy}
use Rattle.nx_piece.specs.PieceNode.{PieceNode}
use Rattle.nx_piece.specs.Gapped.{Gapped, GappedTree, End, Grow, Gap, proxies_in}
use Rattle.nx_piece.specs.Items.{gapped_of}
use Rattle.nx_piece.specs.Valid.{AreApart}
use Rattle.nx_cuts.specs.Cut.{Bare, Grown, Kept, width, AreFree, AreParts}
use Rattle.nx_cuts.proofs.FeasibleLemmas.{le_or}
use Rattle.nx_layouts.specs.Layout.{RecordPlace, LaidNode, Layout, in_record, gap_more, piece_body, proxies_of}
use Rattle.nx_layouts.specs.Replace.{joined_layout}
use Rattle.nx_layouts.proofs.ReplaceLemmas.{proxies-joined_layout}
use Rattle.nx_layouts.proofs.ValidLemmas.{body_apart}
use Rattle.nx_hold.proofs.PieceLemmas.{some_same, no_value}
use Rattle.nx_drafts.specs.Draft.{Draft, Ends, Grows, Stands, Comes, drawn_forest, layout_before}
use Rattle.nx_divide.specs.Marked.{BeginsApart, IsHeldAs, AreWritten, IsMarkedDraft, AreMarkedMembers}
use Rattle.nx_divide.proofs.WrittenLemmas.{written-take, written-drop}

abbrev Plan : Type 0
Plan = Draft (Unit {0})

other_same : (index : ℕ) (g h : List ℕ → Option ℕ) (position : ℕ) (c : Plan) → ((p : ℕ) (path : List ℕ) → g (p ∷ path) ≡ h (p ∷ path)) → BeginsApart index g position c → BeginsApart index h position c
other_same index g h position Ends same a = tt
other_same index g h position (Grows n b s) same a = λ held. a (same position [] ∙ held)
other_same index g h position (Stands r m s) same a = λ held. a (same position [] ∙ held)
other_same index g h position (Comes u m s) same a = λ held. a (same position [] ∙ held)

-- what holds the nodes below may be told otherwise
pub agrees_same : (own : Option ℕ) (g h : List ℕ → Option ℕ) (position : ℕ) (c : Plan) → ((p : ℕ) (path : List ℕ) → g (p ∷ path) ≡ h (p ∷ path)) → IsHeldAs own g position c → IsHeldAs own h position c
agrees_same own g h position Ends same a = tt
agrees_same own g h position (Grows n b s) same a = (
  sym (same position []) ∙ a.0,
  agrees_same None (λ path. g (position ∷ path)) (λ path. h (position ∷ path)) 0 b (λ p path. same position (p ∷ path)) a.1,
  agrees_same own g h (position + 1) s same a.2,
)
agrees_same own g h position (Stands r m s) same a = (sym (same position []) ∙ a.0, agrees_same own g h (position + width m) s same a.1)
agrees_same own g h position (Comes u m s) same a = (
  a.0,
  other_same a.0 g h (position + width (drawn_forest m)) s same a.1,
  agrees_same (Some a.0) g h position m same a.2,
  agrees_same own g h (position + width (drawn_forest m)) s same a.3,
)

pub marked_same : (own : Option ℕ) (g h : List ℕ → Option ℕ) (position : ℕ) (items : Gapped) (olds others : List Proxy) (c : Plan) → ((p : ℕ) (path : List ℕ) → g (p ∷ path) ≡ h (p ∷ path)) → olds ≡ others → IsMarkedDraft own g position items olds c → IsMarkedDraft own h position items others c
marked_same own g h position items olds others c same are m = record { items_are = m.items_are; written = m.written; behind = m.behind; olds_are = sym are ∙ m.olds_are; light = m.light; agrees = agrees_same own g h position c same m.agrees }

-- a member is held by its interval
pub member_held : (index : ℕ) (h : List ℕ → Option ℕ) (position : ℕ) (m : Plan) (j : ℕ) → AreFree (drawn_forest m) → IsHeldAs (Some index) h position m → position ≤ j → j < position + width (drawn_forest m) → h (j ∷ []) ≡ Some index
member_held index h position Ends j free a low high = absurd (omega (arith, low, high))
member_held index h position (Grows n b s) j free a low high =
    elim (le_or position j) [
      | inl less ↦ member_held index h (position + 1) s j free a.2 (omega (arith, less)) (omega (arith, high))
      | inr more ↦ let same : j ≡ position = omega (arith, low, more) in ap (λ (i : ℕ). h (i ∷ [])) same ∙ a.0
    ]
member_held index h position (Stands r m s) j free a low high = absurd free
member_held index h position (Comes u m s) j free a low high = absurd free

no_gap : (g : Gapped) (n : PieceNode) (b s : Gapped) → gap_more g ≡ Grow n b s → ⊥
no_gap End n b s e = cc
no_gap (Grow m c t) n b s e = cc
no_gap (Gap count t) n b s e = cc

gap_ends : (g : Gapped) → gap_more g ≡ End → ⊥
gap_ends End e = cc
gap_ends (Grow m c t) e = cc
gap_ends (Gap count t) e = cc

-- The first of some items, which is a tree of no interval, and the others.
pub record BeginsGrown (own : Option ℕ) (holder : List ℕ → Option ℕ) (position : ℕ) (tree : GappedTree) (others : Gapped) (olds : List Proxy) (drawn : Plan) : Type 0 where
  pub node : LaidNode
  pub shown : in_record node ≡ tree.node
  pub below : Plan
  pub beside : Plan
  pub is : drawn ≡ Grows node below beside
  pub inside : IsMarkedDraft None (λ path. holder (position ∷ path)) 0 tree.below olds below
  pub along : IsMarkedDraft own holder (position + 1) others (drop (proxies_in tree.below) olds) beside

-- no interval that comes is the first
abbrev pub BeginsFree : Plan → Type 0
BeginsFree Ends = Unit {0}
BeginsFree (Grows n b s) = Unit {0}
BeginsFree (Stands r m s) = Unit {0}
BeginsFree (Comes u m s) = ⊥

pub free_begins : (c : Plan) → AreFree (drawn_forest c) → BeginsFree c
free_begins Ends free = tt
free_begins (Grows n b s) free = tt
free_begins (Stands r m s) free = tt
free_begins (Comes u m s) free = free

-- where nothing holds the first tree, it is in no interval that comes
pub none_begins : (h : List ℕ → Option ℕ) (position : ℕ) (c : Plan) → AreParts 256 (drawn_forest c) → IsHeldAs None h position c → h (position ∷ []) ≡ None → BeginsFree c
none_begins h position Ends parts a none = tt
none_begins h position (Grows n b s) parts a none = tt
none_begins h position (Stands r m s) parts a none = tt
none_begins h position (Comes u m s) parts a none =
    let some : 1 ≤ width (drawn_forest m) = parts.0 in
    no_value (sym (member_held a.0 h position m position parts.1 a.2 (omega arith) (omega (arith, some))) ∙ none)

-- how many proxies the piece of a layout has
proxies-gap_more : (g : Gapped) → proxies_in (gap_more g) ≡ 1 + proxies_in g
proxies-gap_more End = refl
proxies-gap_more (Grow n b s) = refl
proxies-gap_more (Gap count s) = omega arith

pub length-layout_before : (a : Layout) → length (proxies_of a) ≡ proxies_in (piece_body a)
length-layout_before Bare = refl
length-layout_before (Grown n b s) = omega (arith, length-layout_before b, length-layout_before s, length-both (proxies_of b) (proxies_of s))
  where
    length-both : (xs ys : List Proxy) → length (xs ++ ys) ≡ length xs + length ys
    length-both [] ys = omega arith
    length-both (x ∷ xs) ys = omega (arith, length-both xs ys)
length-layout_before (Kept r m s) = let e = proxies-gap_more (piece_body s) in omega (arith, e, length-layout_before s)

drop-front : {A : Type 0} (xs ys : List A) → drop (length xs) (xs ++ ys) ≡ ys
drop-front [] ys = refl
drop-front (x ∷ xs) ys = drop-front xs ys

pub take-front : {A : Type 0} (xs ys : List A) → take (length xs) (xs ++ ys) ≡ xs
take-front [] ys = refl
take-front (x ∷ xs) ys = ap (λ l. x ∷ l) (take-front xs ys)

-- the proxies behind those of some of the items
pub olds_behind : (a : Layout) (g : Gapped) (olds behind : List Proxy) → piece_body a ≡ g → olds ≡ proxies_of a ++ behind → drop (proxies_in g) olds ≡ behind
olds_behind a g olds behind is are =
    ap (λ (n : ℕ). drop n olds) (sym (ap proxies_in is) ∙ sym (length-layout_before a)) ∙ ap (drop (length (proxies_of a))) are ∙ drop-front (proxies_of a) behind

pub begins_grown : (own : Option ℕ) (h : List ℕ → Option ℕ) (position : ℕ) (t : GappedTree) (others : Gapped) (olds : List Proxy) (c : Plan) → BeginsFree c → IsMarkedDraft own h position (Grow t.node t.below others) olds c → BeginsGrown own h position t others olds c
begins_grown own h position t others olds Ends free m = let e = m.items_are in cc
begins_grown own h position t others olds (Grows n b s) free m =
    let e : Grow (in_record n) (piece_body (layout_before b)) (piece_body (layout_before s)) ≡ Grow t.node t.below others = m.items_are in
    let node : in_record n ≡ t.node = cc in
    let down : piece_body (layout_before b) ≡ t.below = cc in
    let side : piece_body (layout_before s) ≡ others = cc in
    let olds_are : olds ≡ proxies_of (layout_before b) ++ (proxies_of (layout_before s) ++ m.behind) = m.olds_are ∙ append_assoc (proxies_of (layout_before b)) (proxies_of (layout_before s)) m.behind in
    record {
      node = n;
      shown = node;
      below = b;
      beside = s;
      is = refl;
      inside = record { items_are = down; written = (m.written).1; behind = proxies_of (layout_before s) ++ m.behind; olds_are = olds_are; light = (m.light).0; agrees = (m.agrees).1 };
      along = record {
        items_are = side;
        written = (m.written).2;
        behind = m.behind;
        olds_are = olds_behind (layout_before b) t.below olds (proxies_of (layout_before s) ++ m.behind) down olds_are;
        light = (m.light).1;
        agrees = (m.agrees).2;
      };
    }
begins_grown own h position t others olds (Stands r i s) free m = absurd (no_gap (piece_body (layout_before s)) t.node t.below others m.items_are)
begins_grown own h position t others olds (Comes u i s) free m = absurd free

-- The first of some items, which is a proxy of an interval that stands, and the others.
pub record BeginsStanding (own : Option ℕ) (holder : List ℕ → Option ℕ) (position : ℕ) (others : Gapped) (olds : List Proxy) (drawn : Plan) : Type 0 where
  pub place : RecordPlace
  pub members : Layout
  pub beside : Plan
  pub is : drawn ≡ Stands place members beside
  pub first : Proxy
  pub left : List Proxy
  pub first_is : first ≡ record { page = place.page; slot = place.slot; roots = width members }
  pub olds_are : olds ≡ first ∷ left
  pub along : IsMarkedDraft own holder (position + width members) others left beside

-- so many proxies before some items
abbrev pub gap_before : ℕ → Gapped → Gapped
gap_before zero g = g
gap_before (suc count) g = Gap (suc count) g

less_gap : (g others : Gapped) (count : ℕ) → AreApart g → gap_more g ≡ Gap (suc count) others → g ≡ gap_before count others
less_gap End others zero a e = cc
less_gap End others (suc count) a e = let x : 1 ≡ suc (suc count) = cc in absurd (omega (arith, x))
less_gap (Grow n c s) others zero a e = cc
less_gap (Grow n c s) others (suc count) a e = let x : 1 ≡ suc (suc count) = cc in absurd (omega (arith, x))
less_gap (Gap more s) others zero a e = let x : more + 1 ≡ suc zero = cc in let some : 1 ≤ more = a.0 in absurd (omega (arith, x, some))
less_gap (Gap more s) others (suc count) a e =
    let x : more + 1 ≡ suc (suc count) = cc in
    let y : s ≡ others = cc in
    ap (λ (n : ℕ). Gap n s) (let z : more ≡ suc count = omega (arith, x) in z) ∙ ap (Gap (suc count)) y

gap_written : (count : ℕ) (g : Gapped) → AreWritten g → AreWritten (gap_before count g)
gap_written zero g w = w
gap_written (suc count) g w = w

-- an interval that comes begins with a tree
comes_gap : (i : Plan) (b : Layout) (count : ℕ) (others : Gapped) → AreFree (drawn_forest i) → 1 ≤ width (drawn_forest i) → piece_body (joined_layout (layout_before i) b) ≡ Gap count others → ⊥
comes_gap Ends b count others free some e = absurd (omega (arith, some))
comes_gap (Grows n d s) b count others free some e = cc
comes_gap (Stands r m s) b count others free some e = free
comes_gap (Comes u m s) b count others free some e = free

pub comes_end : (i : Plan) (b : Layout) → AreFree (drawn_forest i) → 1 ≤ width (drawn_forest i) → piece_body (joined_layout (layout_before i) b) ≡ End → ⊥
comes_end Ends b free some e = absurd (omega (arith, some))
comes_end (Grows n d s) b free some e = cc
comes_end (Stands r m s) b free some e = free
comes_end (Comes u m s) b free some e = free

pub begins_standing : (own : Option ℕ) (h : List ℕ → Option ℕ) (position count : ℕ) (others : Gapped) (olds : List Proxy) (c : Plan) → IsMarkedDraft own h position (Gap (suc count) others) olds c → BeginsStanding own h position (gap_before count others) olds c
begins_standing own h position count others olds Ends m = let e = m.items_are in cc
begins_standing own h position count others olds (Grows n b s) m = let e = m.items_are in cc
begins_standing own h position count others olds (Stands r i s) m = record {
  place = r;
  members = i;
  beside = s;
  is = refl;
  first = record { page = r.page; slot = r.slot; roots = width i };
  left = proxies_of (layout_before s) ++ m.behind;
  first_is = refl;
  olds_are = m.olds_are;
  along = record { items_are = less_gap (piece_body (layout_before s)) others count (body_apart (layout_before s)) m.items_are; written = gap_written count others m.written; behind = m.behind; olds_are = refl; light = (m.light).4; agrees = (m.agrees).1 };
}
begins_standing own h position count others olds (Comes u i s) m = absurd (comes_gap i (layout_before s) (suc count) others (m.light).1 (m.light).0 m.items_are)

-- the first items of a row, and those behind them
split_row : (m : Plan) (last : Layout) (items : List Item) → AreFree (drawn_forest m) → piece_body (joined_layout (layout_before m) last) ≡ gapped_of items
    → (piece_body (layout_before m) ≡ gapped_of (take (width (drawn_forest m)) items)) × (piece_body last ≡ gapped_of (drop (width (drawn_forest m)) items)) × (width (drawn_forest m) ≤ length items)
split_row Ends last items free e = (refl, e, omega arith)
split_row (Grows n b s) last [] free e = cc
split_row (Grows n b s) last (Tree t ∷ items) free e =
    let e : Grow (in_record n) (piece_body (layout_before b)) (piece_body (joined_layout (layout_before s) last)) ≡ Grow t.node t.below (gapped_of items) = e in
    let node : in_record n ≡ t.node = cc in
    let down : piece_body (layout_before b) ≡ t.below = cc in
    let side : piece_body (joined_layout (layout_before s) last) ≡ gapped_of items = cc in
    let rest = split_row s last items free side in
    let one : suc (width (drawn_forest s)) ≡ 1 + width (drawn_forest s) = omega arith in
    let fits : width (drawn_forest s) ≤ length items = rest.2 in (
      ap (λ (x : PieceNode). Grow x (piece_body (layout_before b)) (piece_body (layout_before s))) node ∙ ap (λ (g : Gapped). Grow t.node g (piece_body (layout_before s))) down ∙ ap (Grow t.node t.below) rest.0
          ∙ ap (λ (k : ℕ). gapped_of (take k (Tree t ∷ items))) one,
      rest.1 ∙ ap (λ (k : ℕ). gapped_of (drop k (Tree t ∷ items))) one,
      omega (arith, fits),
    )
split_row (Grows n b s) last (Run count ∷ items) free e = cc
split_row (Stands r i s) last items free e = absurd free
split_row (Comes u i s) last items free e = absurd free

-- The first interval that comes of some items, whose members are the first of them, and the items behind it.
pub record BeginsKept (holder : List ℕ → Option ℕ) (position : ℕ) (items : List Item) (olds : List Proxy) (drawn : Plan) : Type 0 where
  pub members : Plan
  pub beside : Plan
  pub is : drawn ≡ Comes tt members beside
  pub inside : AreMarkedMembers holder position (gapped_of (take (width (drawn_forest members)) items)) olds members
  pub along : IsMarkedDraft None holder (position + width (drawn_forest members)) (gapped_of (drop (width (drawn_forest members)) items)) (drop (proxies_in (gapped_of (take (width (drawn_forest members)) items))) olds) beside
  pub fits : width (drawn_forest members) ≤ length items
  pub ends : BeginsApart inside.index holder (position + width (drawn_forest members)) beside

pub no_items : (items : List Item) → End ≡ gapped_of items → 1 ≤ length items → ⊥
no_items [] e some = absurd (omega (arith, some))
no_items (Tree t ∷ items) e some = cc
no_items (Run count ∷ items) e some = cc

-- The members of an interval that comes first of some items, and what is behind it.
pub record FirstKept (holder : List ℕ → Option ℕ) (position : ℕ) (items : List Item) (olds : List Proxy) (members beside : Plan) : Type 0 where
  pub inside : AreMarkedMembers holder position (gapped_of (take (width (drawn_forest members)) items)) olds members
  pub along : IsMarkedDraft None holder (position + width (drawn_forest members)) (gapped_of (drop (width (drawn_forest members)) items)) (drop (proxies_in (gapped_of (take (width (drawn_forest members)) items))) olds) beside
  pub fits : width (drawn_forest members) ≤ length items
  pub ends : BeginsApart inside.index holder (position + width (drawn_forest members)) beside

pub first_kept : (h : List ℕ → Option ℕ) (position : ℕ) (items : List Item) (olds : List Proxy) (u : Unit {0}) (i s : Plan) → IsMarkedDraft None h position (gapped_of items) olds (Comes u i s) → FirstKept h position items olds i s
first_kept h position items olds u i s m =
    let rows = split_row i (layout_before s) items (m.light).1 m.items_are in
    let olds_are : olds ≡ proxies_of (layout_before i) ++ (proxies_of (layout_before s) ++ m.behind) =
    m.olds_are ∙ ap (λ (l : List Proxy). l ++ m.behind) (proxies-joined_layout (layout_before i) (layout_before s)) ∙ append_assoc (proxies_of (layout_before i)) (proxies_of (layout_before s)) m.behind in
    record {
      inside = record {
        index = (m.agrees).0;
        marked = record { items_are = rows.0; written = written-take (width (drawn_forest i)) items m.written; behind = proxies_of (layout_before s) ++ m.behind; olds_are = olds_are; light = (m.light).3; agrees = (m.agrees).2 };
        some = (m.light).0;
        free = (m.light).1;
        weighs = (m.light).2;
      };
      along = record {
        items_are = rows.1;
        written = written-drop (width (drawn_forest i)) items m.written;
        behind = m.behind;
        olds_are = olds_behind (layout_before i) (gapped_of (take (width (drawn_forest i)) items)) olds (proxies_of (layout_before s) ++ m.behind) rows.0 olds_are;
        light = (m.light).4;
        agrees = (m.agrees).3;
      };
      fits = rows.2;
      ends = (m.agrees).1;
    }

-- where an interval holds the first tree, it is the first member
pub begins_kept : (h : List ℕ → Option ℕ) (position index : ℕ) (items : List Item) (olds : List Proxy) (c : Plan) → IsMarkedDraft None h position (gapped_of items) olds c → 1 ≤ length items → h (position ∷ []) ≡ Some index → BeginsKept h position items olds c
begins_kept h position index items olds Ends m some held = absurd (no_items items m.items_are some)
begins_kept h position index items olds (Grows n b s) m some held = absurd (no_value (sym held ∙ (m.agrees).0))
begins_kept h position index items olds (Stands r i s) m some held = absurd (no_value (sym held ∙ (m.agrees).0))
begins_kept h position index items olds (Comes u i s) m some held =
    let first = first_kept h position items olds u i s m in
    record { members = i; beside = s; is = refl; inside = first.inside; along = first.along; fits = first.fits; ends = first.ends }

other_first : (index : ℕ) (h : List ℕ → Option ℕ) (position : ℕ) (c : Plan) (items : List Item) → BeginsApart index h position c → piece_body (layout_before c) ≡ gapped_of items → 1 ≤ length items → h (position ∷ []) ≡ Some index → ⊥
other_first index h position Ends items other e some held = no_items items e some
other_first index h position (Grows n b s) items other e some held = other held
other_first index h position (Stands r i s) items other e some held = other held
other_first index h position (Comes u i s) items other e some held = other held

-- the members of an interval end where it holds the next tree no more
pub members_end_is : (h : List ℕ → Option ℕ) (position index end : ℕ) (items : List Item) (olds : List Proxy) (c : Plan) (first : BeginsKept h position items olds c) → h (position ∷ []) ≡ Some index → position < end → end ≤ position + length items
    → ((j : ℕ) → position < j → j < end → h (j ∷ []) ≡ Some index) → (end < position + length items → h (end ∷ []) ≡ Some index → ⊥) → end ≡ position + width (drawn_forest first.members)
members_end_is h position index end items olds c first held low high run ends =
    elim (le_or end (position + width (drawn_forest first.members))) [
      | inl less ↦ absurd (ends (omega (arith, less, fits)) (inside end (omega (arith, low)) less ∙ ap Some (sym same)))
      | inr more ↦ elim (le_or (position + width (drawn_forest first.members)) end) [
        | inl less ↦ absurd (other_first (first.inside).index h (position + width (drawn_forest first.members)) first.beside (drop (width (drawn_forest first.members)) items) first.ends (first.along).items_are
            (omega (arith, less, high, length-drop (width (drawn_forest first.members)) items)) (run (position + width (drawn_forest first.members)) (omega (arith, some)) less ∙ ap Some same))
        | inr equal ↦ omega (arith, more, equal)
      ]
    ]
  where
    fits : width (drawn_forest first.members) ≤ length items
    fits = first.fits

    some : 1 ≤ width (drawn_forest first.members)
    some = (first.inside).some

    inside : (j : ℕ) → position ≤ j → j < position + width (drawn_forest first.members) → h (j ∷ []) ≡ Some (first.inside).index
    inside j from to = member_held (first.inside).index h position first.members j (first.inside).free ((first.inside).marked).agrees from to

    same : index ≡ (first.inside).index
    same = some_same (sym held ∙ inside position (omega arith) (omega (arith, some)))

-- a draft of nothing
pub nothing_left : (own : Option ℕ) (h : List ℕ → Option ℕ) (position : ℕ) (olds : List Proxy) (c : Plan) → IsMarkedDraft own h position End olds c → c ≡ Ends
nothing_left own h position olds Ends m = refl
nothing_left own h position olds (Grows n b s) m = let e = m.items_are in cc
nothing_left own h position olds (Stands r i s) m = absurd (gap_ends (piece_body (layout_before s)) m.items_are)
nothing_left own h position olds (Comes u i s) m = absurd (comes_end i (layout_before s) (m.light).1 (m.light).0 m.items_are)
