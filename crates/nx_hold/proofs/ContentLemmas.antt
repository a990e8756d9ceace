-- Lists of contents that come and go, and those that the records of a layout name.
use Rattle.std.proofs.Common.{◌≡◌, ℕ, ◌+◌, ◌≤◌, List, [], ◌∷◌, Option, None, Some, inl, inr, refl, sym, ap, ◌∙◌, subst, arith}
use Rattle.std.specs.Prelude.{Contains}
use Rattle.std.proofs.lemmas.Bool.Decides.{eqb_tells}
use Rattle.nx_holdings.specs.Holdings.{Held}
use Rattle.nx_holdings.specs.Laws.{pages_of_list}
use Rattle.nx_records.specs.Changes.{WritesList, FreesList}
use Rattle.nx_piece.specs.declared.piece.Far.{Far}
use Rattle.nx_piece.specs.declared.piece.Piece.{Piece}
use Rattle.nx_piece.specs.Gapped.{Gapped}
use Rattle.nx_piece.specs.Contents.{fars_in}
use Rattle.nx_layouts.specs.Layout.{RecordPlace, nodes_in}
use Rattle.nx_layouts.proofs.PlaceLemmas.{no_place, one_place, first_among}
use Rattle.nx_layouts.proofs.NodeLemmas.{list_among}
use Rattle.nx_layouts.proofs.BodyLemmas.{record_named}
use Rattle.nx_hold.specs.Pieces.{record_at, NamesList, NamesContent, NamesAny, IsNamedNowhere, IsTidy, ContentComesTidy, ContentGoesTidy, held_by}
use Rattle.nx_hold.specs.Documents.{NamesAmong, ContentMoves, ContentLeaves, NamedInLayout}
use Rattle.nx_hold.proofs.PieceLemmas.{no_value}
use Rattle.nx_hold.proofs.MapLemmas.{held_at}
use Rattle.nx_hold.proofs.TidyLemmas.{content_along, roots_are}
use Rattle.nx_hold.proofs.PutLemmas.{list_here, list_other, records_at}
use Rattle.nx_hold.proofs.RecordsLemmas.{names_along, any_along, any_listed, none_named}

-- Lists in order, where all records stay with the lists that they name:

module _ (was now : Held) (same : (place : RecordPlace) → record_at now place ≡ record_at was place) where
  names_back : (place : RecordPlace) (count chain : ℕ) → NamesList now place count chain → NamesList was place count chain
  names_back place count chain names = names_along now was place count chain (sym (same place)) names

  content_back : (place : RecordPlace) (far : Far) → NamesContent now place far → NamesContent was place far
  content_back place far names = content_along now was place far (sym (same place)) names

  tidy_along : IsTidy was → ((place : RecordPlace) (chain : ℕ) → NamesAny was place chain → now.lists chain ≡ was.lists chain) → IsTidy now
  tidy_along tidy lists = record {
    there = λ place count chain names.
        let named = names_back place count chain names in
        let list = tidy.there place count chain named in
        (list.0, lists place chain (inl (count, named)) ∙ list.1, list.2);
    once = λ place other count more chain one two. tidy.once place other count more chain (names_back place count chain one) (names_back other more chain two);
    contents = λ place far names.
        let named = content_back place far names in
        let list = tidy.contents place far named in
        (list.0, lists place far.first (inr (far, refl, named)) ∙ list.1, list.2);
    apart = λ place far names other count named. tidy.apart place far (content_back place far names) other count (names_back other count far.first named);
  }

module _ (first : ℕ) (bytes : List ℕ) (was now : Held) (writes : WritesList first bytes was now) where
  written_records : (place : RecordPlace) → record_at now place ≡ record_at was place
  written_records place = records_at was now (writes.changes).records place

  written_here : now.lists first ≡ Some bytes
  written_here = ap (λ (f : ℕ → Option (List ℕ)). f first) (writes.changes).lists ∙ list_here was.lists first (Some bytes)

  -- a list that was there isn't the one that came
  written_other : (chain : ℕ) (list : List ℕ) → was.lists chain ≡ Some list → now.lists chain ≡ was.lists chain
  written_other chain list there =
      ap (λ (f : ℕ → Option (List ℕ)). f chain) (writes.changes).lists ∙ list_other was.lists first chain (Some bytes) (λ e. no_value (sym there ∙ ap was.lists (sym e) ∙ writes.was_none))

  written_unnamed : IsTidy was → IsNamedNowhere now first
  written_unnamed tidy place names = let list = any_listed was tidy place first (any_along now was place first (sym (written_records place)) names) in no_value (sym list.1 ∙ writes.was_none)

pub content_comes_tidy : ContentComesTidy
content_comes_tidy first bytes was now tidy writes = (
  tidy_along was now (written_records first bytes was now writes) tidy (λ place chain names. let list = any_listed was tidy place chain names in written_other first bytes was now writes chain list.0 list.1),
  written_unnamed first bytes was now writes tidy,
)

module _ (first : ℕ) (was now : Held) (frees : FreesList first was now) where
  freed_records : (place : RecordPlace) → record_at now place ≡ record_at was place
  freed_records place = records_at was now (frees.changes).records place

  freed_here : now.lists first ≡ None
  freed_here = ap (λ (f : ℕ → Option (List ℕ)). f first) (frees.changes).lists ∙ list_here was.lists first None

  freed_other : (chain : ℕ) → (first ≡ chain → ⊥) → now.lists chain ≡ was.lists chain
  freed_other chain apart = ap (λ (f : ℕ → Option (List ℕ)). f chain) (frees.changes).lists ∙ list_other was.lists first chain None apart

  -- a list that is there still was there
  freed_back : (chain : ℕ) (bytes : List ℕ) → now.lists chain ≡ Some bytes → (first ≡ chain → ⊥) × (was.lists chain ≡ Some bytes)
  freed_back chain bytes there =
      let apart : first ≡ chain → ⊥ = λ e. no_value (sym there ∙ ap now.lists (sym e) ∙ freed_here) in
      (apart, sym (freed_other chain apart) ∙ there)

pub content_goes_tidy : ContentGoesTidy
content_goes_tidy first was now tidy unnamed frees =
    tidy_along was now (freed_records first was now frees) tidy
    (λ place chain names. freed_other first was now frees chain (λ e. unnamed place (subst (λ (c : ℕ). NamesAny was place c) (sym e) names)))

-- Records that move, where a list comes or goes:

pub content_moves : ContentMoves
content_moves first bytes was now writes = record {
  fresh = λ place among apart. absurd (no_place place among);
  came = λ place among. absurd (no_place place among);
  went = λ place among apart. absurd (no_place place among);
  kept = λ place one two. written_records first bytes was now writes place;
  lists_stay = λ chain list there not. written_other first bytes was now writes chain list there ∙ there;
  lists_come = λ chain list there. elim (eqb_tells first chain) [
    | inl here ↦ inr (inr (subst (λ (c : ℕ). Contains (first ∷ []) c) here.1 (first_among first [])))
    | inr apart ↦ inl (sym (ap (λ (f : ℕ → Option (List ℕ)). f chain) (writes.changes).lists ∙ list_other was.lists first chain (Some bytes) apart.1) ∙ there)
  ];
  lists_go = λ chain list there named. absurd (none_named was chain named);
  lists_fresh = fresh;
  lost_alone = λ chain among. absurd (no_place chain among);
  settings = (writes.changes).settings;
  catalog = (writes.changes).catalog;
  free = writes.free;
}
  where
    fresh : (chain : ℕ) → NamesAmong now [] (first ∷ []) chain → (NamesAmong was [] [] chain → ⊥) → was.lists chain ≡ None
    fresh chain (inl named) not = absurd (no_place named.0 named.2)
    fresh chain (inr among) not = ap was.lists (one_place first chain among) ∙ writes.was_none

pub content_leaves : ContentLeaves
content_leaves first was now unnamed frees = record {
  fresh = λ place among apart. absurd (no_place place among);
  came = λ place among. absurd (no_place place among);
  went = λ place among apart. absurd (no_place place among);
  kept = λ place one two. freed_records first was now frees place;
  lists_stay = λ chain list there not. freed_other first was now frees chain (λ e. not (inr (subst (λ (c : ℕ). Contains (first ∷ []) c) e (first_among first [])))) ∙ there;
  lists_come = λ chain list there. inl (freed_back first was now frees chain list there).1;
  lists_go = gone;
  lists_fresh = λ chain named not. absurd (none_named now chain named);
  lost_alone = λ chain among place not names. unnamed place (subst (λ (c : ℕ). NamesAny was place c) (one_place first chain among) names);
  settings = (frees.changes).settings;
  catalog = (frees.changes).catalog;
  free = let more : was.free + pages_of_list (was.lists first) ≤ now.free = frees.free in omega (arith, more);
}
  where
    gone : (chain : ℕ) (list : List ℕ) → now.lists chain ≡ Some list → NamesAmong was [] (first ∷ []) chain → NamesAmong now [] [] chain
    gone chain list there (inl named) = absurd (no_place named.0 named.2)
    gone chain list there (inr among) = absurd ((freed_back first was now frees chain list there).0 (sym (one_place first chain among)))

-- Layouts:

pub named_in_layout : NamedInLayout
named_in_layout held pieces row held_row place far among names =
    let named = record_named (held_by pieces) row place held_row among in
    let piece : Piece = named.0 in
    let roots = roots_are held place piece names.0 (held_at held pieces place piece named.1) names.1 in
    let has = named.2 far (subst (λ (g : Gapped). Contains (fars_in g) far) (sym roots) names.2) in
    list_among (nodes_in row) has.0 far.first has.1 has.2
