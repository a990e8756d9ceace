-- Each state that pages stand for is sound.
use Rattle.std.proofs.Common.{Ordering, ◌≡◌, ℕ, cond, true, false, List, [], ◌∷◌, map, Some, refl, sym, ap, subst, ◌∙◌, Less, Equal, Greater}
use Rattle.std.specs.Prelude.{All, IsTrue}
use Rattle.std.specs.List.{AllByRecursion}
use Rattle.std.specs.Ordering.{is_eq, eq_by_cmp}
use Rattle.std.specs.FinMap.{find, entries, get-entries, slice_cmp-IsAntisymmetric, nat_cmp-IsAntisymmetric}
use Rattle.std.proofs.lemmas.List.Elements.{recursion_from_All}
use Rattle.nx_tree.specs.Document.{IsDocument}
use Rattle.nx_matrix.specs.Rules.{AreRules}
use Rattle.nx_cuts.specs.Cut.{CutTree, AreParts, tree_of}
use Rattle.nx_hold.specs.Changes.{place_of}
use Rattle.nx_hold.specs.Pieces.{held_by}
use Rattle.nx_layouts.specs.Layout.{Stock}
use Rattle.nx_catalog.specs.Catalog.{CanBeKept}
use Rattle.nx_holdings.specs.declared.header.Settings.{Settings}
use Rattle.nx_pyx.specs.DocumentName.{name_order, is_document_name}
use Rattle.nx_matrix.specs.RuleLabels.{HasLabels}
use Rattle.nx_state.specs.State.{State}
use Rattle.nx_state.specs.Stands.{StoredDocument, IsStoredIn}
use Rattle.nx_drawn.specs.Splits.{whole_document}
use Rattle.nx_drawn.proofs.BareLemmas.{laid_parts}
use Rattle.nx_steps.specs.Sound.{OfEachDocument}
use Rattle.nx_steps.specs.Laws.{StoredIsSound}

same_some : (a b : CutTree) → Some a ≡ Some b → a ≡ b
same_some a b e = cc

tied : (o : Ordering) → is_eq o ≡ true → o ≡ Equal
tied Less e = absurd (cc)
tied Equal e = refl
tied Greater e = absurd (cc)

-- names that tie are one name
pub one_name : (a b : List ℕ) → eq_by_cmp name_order a b ≡ true → a ≡ b
one_name a b e = slice_cmp-IsAntisymmetric nat_cmp-IsAntisymmetric a b (tied (name_order a b) e)

-- what holds of each stored document holds of the one that is found
found_has : (P : List ℕ → CutTree → Type 0) (name : List ℕ) (stored : List StoredDocument) → AllByRecursion (λ (s : StoredDocument). P s.name s.document) stored
    → (document : CutTree) → find name_order name (map (λ (s : StoredDocument). (s.name, s.document)) stored) ≡ Some document → P name document
found_has P name [] all document e = cc
found_has P name (s ∷ stored) all document e =
    (elim (eq_by_cmp name_order name s.name) as (λ t. eq_by_cmp name_order name s.name ≡ t → cond t (Some s.document) (find name_order name (map (λ (x : StoredDocument). (x.name, x.document)) stored)) ≡ Some document → P name document) [
      | true ↦ λ tie is. subst (λ (q : List ℕ). P q document) (sym (one_name name s.name tie)) (subst (λ (d : CutTree). P s.name d) (same_some s.document document is) all.0)
      | false ↦ λ tie is. found_has P name stored all.1 document is
    ]) refl e

each_has : (P : List ℕ → CutTree → Type 0) (held_state : State) (stored : List StoredDocument) → entries held_state.documents ≡ map (λ (s : StoredDocument). (s.name, s.document)) stored
    → AllByRecursion (λ (s : StoredDocument). P s.name s.document) stored → OfEachDocument P held_state
each_has P state stored documents all = λ name document there. found_has P name stored all document (ap (find name_order name) (sym documents) ∙ sym (get-entries state.documents name) ∙ there)

each_light : (stock : Stock) (stored : List StoredDocument) → AllByRecursion (IsStoredIn stock) stored → AllByRecursion (λ (s : StoredDocument). AreParts stock.most (whole_document s.document)) stored
each_light stock [] all = tt
each_light stock (s ∷ stored) all = (laid_parts stock (place_of s.entry.root) s.document s.layout all.0.laid, each_light stock stored all.1)

each_document : (stock : Stock) (stored : List StoredDocument) → AllByRecursion (IsStoredIn stock) stored → AllByRecursion (λ (s : StoredDocument). IsDocument (tree_of s.document)) stored
each_document stock [] all = tt
each_document stock (s ∷ stored) all = (((all.0).laid).is_document, each_document stock stored all.1)

each_named : (stored : List StoredDocument) → AllByRecursion CanBeKept (map (λ (s : StoredDocument). (s.name, s.entry)) stored) → AllByRecursion (λ (s : StoredDocument). IsTrue (is_document_name s.name)) stored
each_named [] all = tt
each_named (s ∷ stored) all = ((all.0).named, each_named stored all.1)

pub stored_sound : StoredIsSound
stored_sound held state h =
    let stock : Stock = held_by (h.holds).pieces in
    let each = recursion_from_All (IsStoredIn stock) h.stored (h.holds).each in
    let kept = recursion_from_All CanBeKept (entries (h.contents).documents) (h.catalog).kept in record {
      named = each_has (λ name document. IsTrue (is_document_name name)) state h.stored h.documents (each_named h.stored (subst (AllByRecursion CanBeKept) h.names kept));
      documents = each_has (λ name document. IsDocument (tree_of document)) state h.stored h.documents (each_document stock h.stored each);
      drawn = subst (λ (t : Settings). OfEachDocument (λ name document. AreParts t.k (whole_document document)) state) h.settings
          (each_has (λ name document. AreParts (held.settings).k (whole_document document)) state h.stored h.documents (each_light stock h.stored each));
      rules = subst AreRules h.rules (h.catalog).rules;
      labels = subst (All HasLabels) h.rules (h.catalog).labels;
    }
