-- How many pages the records of documents leave free.
use Rattle.std.proofs.Common.{ℕ, ◌<◌, List, [], ◌∷◌, ◌++◌, length, map, inl, inr, ap, arith}
use Rattle.std.specs.Prelude.{Contains, IsSome}
use Rattle.std.specs.Option.{is_some}
use Rattle.std.proofs.lemmas.List.{length-map}
use Rattle.std.proofs.lemmas.List.Elements.{Contains-append_cases}
use Rattle.nx_holdings.specs.Holdings.{Held}
use Rattle.nx_holdings.specs.Laws.{IsAmong, pages_of_lists}
use Rattle.nx_holdings.proofs.CountLemmas.{have_free}
use Rattle.nx_layouts.specs.Layout.{RecordPlace}
use Rattle.nx_hold.specs.Pieces.{held_by}
use Rattle.nx_layouts.proofs.PlaceLemmas.{one_place}
use Rattle.nx_state.specs.Stands.{StoredDocument, all_places, all_contents}
use Rattle.nx_state.specs.Laws.{DocumentsLeaveFree}
use Rattle.nx_state.proofs.ListLemmas.{ListsAt, all_lists, among_left, among_right, pages-append}
use Rattle.nx_state.proofs.ContentLemmas.{contents_few, contains_among}
use Rattle.nx_state.proofs.NodeLemmas.{all_few, all_two}

numbers_of : RecordPlace → ℕ × ℕ
numbers_of place = (place.page, place.slot)

numbers_among : (places : List RecordPlace) (place : RecordPlace) → Contains places place → IsAmong (place.page, place.slot) (map numbers_of places)
unfolding numbers_of
numbers_among [] place among = let low : among.0 < 0 = among.1 in absurd (omega (arith, low))
numbers_among (first ∷ rest) place among =
    elim (Contains-append_cases (first ∷ []) rest place among) [
      | inl here ↦ inl (ap (λ (p : RecordPlace). (p.page, p.slot)) (one_place first place here))
      | inr later ↦ inr (numbers_among rest place later)
    ]

pub documents_leave_free : DocumentsLeaveFree
documents_leave_free pages held stored holds h = record {
  records = length (all_places stored);
  chains = pages_of_lists held.lists lists.firsts;
  contents = pages_of_lists held.lists (all_contents stored);
  few_records = all_few (held_by h.pieces) stored h.each;
  few_chains = let few = lists.few in omega (arith, few);
  few_contents = contents_few held h.pieces stored h.each;
  few_documents = all_two (held_by h.pieces) stored h.each;
  free =
      let free = have_free pages held (map numbers_of (all_places stored)) (lists.firsts ++ all_contents stored) holds records_among lists_among in
      let places = length-map (all_places stored) numbers_of in
      let both = pages-append held.lists lists.firsts (all_contents stored) in
      omega (arith, free, places, both);
}
  where
    lists : ListsAt held (all_places stored) (length stored)
    lists = all_lists held h.pieces stored h.each

    records_among : (page slot : ℕ) → IsSome (held.records page slot) → IsAmong (page, slot) (map numbers_of (all_places stored))
    records_among page slot there = numbers_among (all_places stored) (record { page = page; slot = slot }) (h.no_others (record { page = page; slot = slot }) there)

    lists_among : (first : ℕ) → IsSome (held.lists first) → IsAmong first (lists.firsts ++ all_contents stored)
    lists_among first there =
        elim (h.no_other_lists first there) [
          | inl named ↦ among_left first lists.firsts (all_contents stored) (lists.all named.0 named.1 first (h.no_others named.0 (ap is_some ((named.2).1).bytes)) named.2)
          | inr content ↦ among_right first lists.firsts (all_contents stored) (contains_among (all_contents stored) first content)
        ]
