-- What a store holds that was just made.
use Rattle.std.proofs.Common.{◌≡◌, [], refl, sym, ◌∙◌}
use Rattle.std.proofs.lemmas.List.{nil_from_length}
use Rattle.std.specs.FinMap.{empty, entries, len-entries, len-empty}
use Rattle.std.proofs.lemmas.List.Elements.{All-nil}
use Rattle.nx_holdings.specs.declared.header.Settings.{Settings}
use Rattle.nx_records.specs.Changes.{nothing_held}
use Rattle.nx_pyx.specs.DocumentName.{name_order}
use Rattle.nx_hold.specs.Pieces.{IsTidy, held_by}
use Rattle.nx_hold.proofs.PieceLemmas.{no_value}
use Rattle.nx_hold.proofs.MapLemmas.{piece_map}
use Rattle.nx_state.specs.State.{new_state}
use Rattle.nx_catalog.proofs.CatalogLemmas.{first_is}
use Rattle.nx_state.specs.Stands.{IsStoredIn, HoldsDocuments, HoldsState}

no_entries : (X : Type 0) → entries (empty {X = X} {R = name_order}) ≡ []
no_entries X = nil_from_length (entries (empty {X = X} {R = name_order})) (sym (len-entries (empty {X = X} {R = name_order})) ∙ len-empty name_order X)

nothing_tidy : (settings : Settings) → IsTidy (nothing_held settings)
nothing_tidy settings = record {
  there = λ place count chain names. absurd (no_value (sym (names.1).bytes));
  once = λ place other count more chain names others. absurd (no_value (sym (names.1).bytes));
  contents = λ place far names. absurd (no_value (sym (names.1).bytes));
  apart = λ place far names. absurd (no_value (sym (names.1).bytes));
}

no_documents : (settings : Settings) → HoldsDocuments (nothing_held settings) []
no_documents settings = record {
  tidy = nothing_tidy settings;
  pieces = piece_map (nothing_held settings);
  each = All-nil (IsStoredIn (held_by (piece_map (nothing_held settings))));
  once = tt;
  contents_once = tt;
  no_others = λ place there. cc;
  no_other_lists = λ chain there. cc;
}

pub new_is_held : (settings : Settings) → HoldsState (nothing_held settings) (new_state settings)
new_is_held settings = record {
  settings = refl;
  stored = [];
  holds = no_documents settings;
  contents = record { documents = empty; rules = [] };
  catalog = first_is;
  names = no_entries _;
  documents = no_entries _;
  rules = refl;
}
