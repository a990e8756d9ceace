-- The lists that the records of documents name, and how many chain pages they take.
use Rattle.std.proofs.Common.{◌≡◌, ℕ, ◌+◌, ◌*◌, ◌<◌, ◌≤◌, List, [], ◌∷◌, ◌++◌, length, Option, inl, inr, sym, ap, ◌∙◌, subst, arith, length-append}
use Rattle.std.specs.Prelude.{All, Contains}
use Rattle.std.proofs.lemmas.List.Elements.{All-head, All-tail, Contains-append_cases}
use Rattle.nx_holdings.specs.Holdings.{Held, chain_count}
use Rattle.nx_holdings.specs.Laws.{IsAmong, pages_of_list, pages_of_lists}
use Rattle.nx_piece.specs.declared.piece.Piece.{Piece}
use Rattle.nx_piece.specs.declared.piece.Stored.TheVariants.{Inline, Chained}
use Rattle.nx_piece.specs.Gapped.{Gapped, End, Grow, Gap, gapped_size, slots_in}
use Rattle.nx_piece.specs.Gapped as gapped
use Rattle.nx_piece.specs.Valid.{AreApart, AreTrees, BeginsNoGap, IsValidChained}
use Rattle.nx_piece.proofs.BodyLemmas.{proxies_length}
use Rattle.nx_cuts.specs.Cut.{Bare, Grown, Kept}
use Rattle.nx_layouts.specs.Layout.{RecordPlace, Layout, piece_of, proxies_of, AreHeld, places_of}
use Rattle.nx_hold.specs.Pieces.{HoldsPiece, NamesList, PieceMap, held_by}
use Rattle.nx_hold.proofs.PieceLemmas.{one_at, no_both, chain_same}
use Rattle.nx_hold.proofs.MapLemmas.{held_at}
use Rattle.nx_layouts.proofs.PlaceLemmas.{one_place}
use Rattle.nx_state.specs.Stands.{StoredDocument, IsStoredIn, record_places, all_places}
use Rattle.nx_state.proofs.StayLemmas.{record_row}

-- the items of a piece: each gap stands before a node, behind one, or below one
slots_few : (f : Gapped) → AreApart f → (slots_in f ≤ 3 * gapped_size f + 1) × (BeginsNoGap f → slots_in f ≤ 3 * gapped_size f)
slots_few End h = (omega arith, λ _. omega arith)
slots_few (Grow n b s) h =
    let below : slots_in b ≤ 3 * gapped_size b + 1 = (slots_few b h.0).0 in
    let beside : slots_in s ≤ 3 * gapped_size s + 1 = (slots_few s h.1).0 in
    (omega (arith, below, beside), λ _. omega (arith, below, beside))
slots_few (Gap c s) h =
    let beside : slots_in s ≤ 3 * gapped_size s = (slots_few s h.2).1 h.1 in
    (omega (arith, beside), λ gap. absurd gap)

-- no gap stands behind the last root
root_slots : (f : Gapped) → AreApart f → AreTrees f → 1 ≤ gapped.gapped_width f → slots_in f + 1 ≤ 3 * gapped_size f
root_slots End h trees some = absurd (omega (arith, some))
root_slots (Grow n b End) h trees some = let below : slots_in b ≤ 3 * gapped_size b + 1 = (slots_few b h.0).0 in omega (arith, below)
root_slots (Grow n b (Grow m d s)) h trees some =
    let below : slots_in b ≤ 3 * gapped_size b + 1 = (slots_few b h.0).0 in
    let beside = root_slots (Grow m d s) h.1 trees (omega arith) in
    omega (arith, below, beside)
root_slots (Grow n b (Gap c s)) h trees some = absurd trees
root_slots (Gap c s) h trees some = absurd trees

chained_many : (roots : Gapped) (proxies : ℕ) → IsValidChained roots proxies → 254 ≤ proxies
chained_many roots proxies h =
    let slots = root_slots roots (h.body).apart (h.body).trees (h.body).some in
    let small = (h.body).small in
    let long = h.long in
    omega (arith, slots, small, long)

few_pages : (proxies : ℕ) → 254 ≤ proxies → 254 * chain_count (8 * proxies) ≤ proxies
few_pages proxies many = omega (arith, many)

pub among_left : {T : Type 0} (x : T) (a b : List T) → IsAmong x a → IsAmong x (a ++ b)
among_left x [] b h = absurd h
among_left x (y ∷ a) b (inl e) = inl e
among_left x (y ∷ a) b (inr h) = inr (among_left x a b h)

pub among_right : {T : Type 0} (x : T) (a b : List T) → IsAmong x b → IsAmong x (a ++ b)
among_right x [] b h = h
among_right x (y ∷ a) b h = inr (among_right x a b h)

pub pages-append : (lists : ℕ → Option (List ℕ)) (a b : List ℕ) → pages_of_lists lists (a ++ b) ≡ pages_of_lists lists a + pages_of_lists lists b
pages-append lists [] b = omega arith
pages-append lists (x ∷ a) b = let rest = pages-append lists a b in omega (arith, rest)

-- The first pages of the lists that the record at a place names. They take one page for each 254 of its proxies at most.
record OwnList (held : Held) (place : RecordPlace) (proxies : ℕ) : Type 0 where
  firsts : List ℕ
  few : 254 * pages_of_lists held.lists firsts ≤ proxies
  all : (count chain : ℕ) → NamesList held place count chain → IsAmong chain firsts

own_list : (held : Held) (place : RecordPlace) (piece : Piece) → HoldsPiece held place piece → OwnList held place (length piece.proxies)
own_list held place piece (inl h) = record {
  firsts = [];
  few = omega arith;
  all = λ count chain names. absurd (no_both piece names.0 count chain (one_at held place (Inline piece) (Chained names.0 count chain) h names.1));
}
own_list held place piece (inr h) = record {
  firsts = h.chain ∷ [];
  few =
      let pages : pages_of_list (held.lists h.chain) ≡ chain_count (8 * length piece.proxies) = ap pages_of_list h.list ∙ ap chain_count (proxies_length piece.proxies) in
      let few = few_pages (length piece.proxies) (chained_many piece.body.roots (length piece.proxies) (h.stored).valid) in
      omega (arith, pages, few);
  all = λ count chain names. inl (chain_same names.0 piece.body count (length piece.proxies) chain h.chain (one_at held place (Chained names.0 count chain) (Chained piece.body (length piece.proxies) h.chain) names.1 h.stored));
}

-- The first pages of the lists that the records at these places name. They take one page for each 254 proxies of these records at most, and each record is
-- named by one proxy, but for so many.
pub record ListsAt (held : Held) (places : List RecordPlace) (unnamed : ℕ) : Type 0 where
  pub firsts : List ℕ
  pub few : 254 * pages_of_lists held.lists firsts + unnamed ≤ length places
  pub all : (place : RecordPlace) (count chain : ℕ) → Contains places place → NamesList held place count chain → IsAmong chain firsts

no_lists : (held : Held) → ListsAt held [] 0
no_lists held = record { firsts = []; few = omega arith; all = λ place count chain among names. let low : among.0 < 0 = among.1 in absurd (omega (arith, low)) }

lists_join : (held : Held) (a b : List RecordPlace) (m n : ℕ) → ListsAt held a m → ListsAt held b n → ListsAt held (a ++ b) (m + n)
lists_join held a b m n h k = record {
  firsts = h.firsts ++ k.firsts;
  few =
      let pages = pages-append held.lists h.firsts k.firsts in
      let places = length-append a b in
      let one = h.few in
      let other = k.few in
      omega (arith, pages, places, one, other);
  all = λ place count chain among names.
      elim (Contains-append_cases a b place among) [
        | inl here ↦ among_left chain h.firsts k.firsts (h.all place count chain here names)
        | inr there ↦ among_right chain h.firsts k.firsts (k.all place count chain there names)
      ];
}

-- a record before those that its proxies name
lists_below : (held : Held) (place : RecordPlace) (below : List RecordPlace) (proxies : ℕ) → OwnList held place proxies → ListsAt held below proxies → ListsAt held (place ∷ below) 1
lists_below held place below proxies own h = record {
  firsts = own.firsts ++ h.firsts;
  few =
      let pages = pages-append held.lists own.firsts h.firsts in
      let one = own.few in
      let other = h.few in
      omega (arith, pages, one, other);
  all = λ at count chain among names.
      elim (Contains-append_cases (place ∷ []) below at among) [
        | inl here ↦ among_left chain own.firsts h.firsts (own.all count chain (subst (λ (p : RecordPlace). NamesList held p count chain) (one_place place at here) names))
        | inr there ↦ among_right chain own.firsts h.firsts (h.all at count chain there names)
      ];
}

layout_lists : (held : Held) (pieces : PieceMap held) (a : Layout) → AreHeld (held_by pieces) a → ListsAt held (places_of a) (length (proxies_of a))
layout_lists held pieces Bare h = no_lists held
layout_lists held pieces (Grown node below beside) h =
    subst (λ (n : ℕ). ListsAt held (places_of below ++ places_of beside) n) (sym (length-append (proxies_of below) (proxies_of beside)))
    (lists_join held (places_of below) (places_of beside) (length (proxies_of below)) (length (proxies_of beside)) (layout_lists held pieces below h.1) (layout_lists held pieces beside h.2))
layout_lists held pieces (Kept place members beside) h =
    let own = own_list held place (piece_of members) (held_at held pieces place (piece_of members) (h.0).there) in
    let here = lists_below held place (places_of members) (length (proxies_of members)) own (layout_lists held pieces members h.1) in
    subst (λ (n : ℕ). ListsAt held (place ∷ places_of members ++ places_of beside) n) (omega arith)
    (lists_join held (place ∷ places_of members) (places_of beside) 1 (length (proxies_of beside)) here (layout_lists held pieces beside h.2))

pub all_lists : (held : Held) (pieces : PieceMap held) (stored : List StoredDocument) → All (IsStoredIn (held_by pieces)) stored → ListsAt held (all_places stored) (length stored)
all_lists held pieces [] each = no_lists held
all_lists held pieces (s ∷ stored) each =
    let one = layout_lists held pieces (record_row s) (((All-head (IsStoredIn (held_by pieces)) s stored each).laid).held) in
    subst (λ (n : ℕ). ListsAt held (record_places s ++ all_places stored) n) (omega arith)
    (lists_join held (record_places s) (all_places stored) 1 (length stored) one (all_lists held pieces stored (All-tail (IsStoredIn (held_by pieces)) s stored each)))
