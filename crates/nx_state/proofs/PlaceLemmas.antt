-- The places of the records of documents, and their contents.
use Rattle.std.proofs.Common.{◌≡◌, ℕ, List, [], ◌∷◌, ◌++◌, refl, sym, ap, ◌∙◌, append_assoc}
use Rattle.nx_layouts.specs.Layout.{RecordPlace, contents_of}
use Rattle.nx_state.specs.Stands.{StoredDocument, record_places, all_places, all_contents}

pub all_places-append : (before after : List StoredDocument) → all_places (before ++ after) ≡ all_places before ++ all_places after
all_places-append [] after = refl
all_places-append (s ∷ before) after = ap (λ (ps : List RecordPlace). record_places s ++ ps) (all_places-append before after) ∙ sym (append_assoc (record_places s) (all_places before) (all_places after))

pub all_contents-append : (before after : List StoredDocument) → all_contents (before ++ after) ≡ all_contents before ++ all_contents after
all_contents-append [] after = refl
all_contents-append (s ∷ before) after = ap (λ (ls : List ℕ). contents_of s.layout ++ ls) (all_contents-append before after) ∙ sym (append_assoc (contents_of s.layout) (all_contents before) (all_contents after))
