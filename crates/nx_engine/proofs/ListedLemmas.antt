-- The list of documents, as it is made entry by entry.
use Rattle.std.proofs.Common.{◌≡◌, ℕ, ◌+◌, List, [], ◌∷◌, ◌++◌, map, refl, sym, ap, ◌∙◌}
use Rattle.std.proofs.lemmas.List.{map-append}
use Rattle.std.specs.Borrow.{Bor}
use Rattle.std.specs.Global.{Vec}
use Rattle.std.specs.BTreeMap.{BTreeMap}
use Rattle.std.specs.Map.Iter.{deref_pair}
use Rattle.std.specs.FinMap.{entries}
use Rattle.nx_tree.specs.Forest.{OrderedTree, nodes}
use Rattle.nx_script.specs.declared.reply.DocLine.{DocLine}
use Rattle.nx_engine.specs.Documents.{Documents}
use Rattle.nx_engine.specs.Step.{document_line}
use Rattle.nx_pyx.specs.DocumentName.{by_bytes}
use Rattle.nx_engine.proofs.MapLemmas.{Shows, entries-documents_in}

-- an entry of the map
abbrev pub Entry : Type 0
Entry = Bor (Vec ℕ) × Bor OrderedTree

-- the lines of these entries
abbrev pub lines_of : List Entry → List DocLine
lines_of es = map (λ e. document_line (e.0.now.items, e.1.now)) es

pub lines_more : (es : List Entry) (e : Entry) (lines new : List DocLine) (name : List ℕ) (n : ℕ) → lines ≡ lines_of es → new ≡ lines ++ record { name = name; nodes = n } ∷ [] →
    name ≡ e.0.now.items → n ≡ 1 + nodes e.1.now.below → new ≡ lines_of (es ++ e ∷ [])
lines_more es e lines new name n made is named counted =
    is ∙ ap (λ ls. ls ++ record { name = name; nodes = n } ∷ []) made ∙ ap (λ x. lines_of es ++ record { name = x; nodes = n } ∷ []) named
    ∙ ap (λ x. lines_of es ++ record { name = e.0.now.items; nodes = x } ∷ []) counted ∙ sym (map-append (λ (x : Entry). document_line (x.0.now.items, x.1.now)) es (e ∷ []))

lines_by_bytes : (es : List Entry) → lines_of es ≡ map document_line (by_bytes (map deref_pair es))
lines_by_bytes [] = refl
lines_by_bytes (e ∷ es) = ap (λ r. document_line (e.0.now.items, e.1.now) ∷ r) (lines_by_bytes es)

pub lines_whole : (documents : Documents) (trees : BTreeMap (Vec ℕ) OrderedTree) (es : List Entry) → Shows documents trees → map deref_pair es ≡ trees.entries → lines_of es ≡ map document_line (entries documents)
lines_whole documents trees es s e =
    lines_by_bytes es ∙ ap (λ x. map document_line (by_bytes x)) e ∙ ap (map document_line) (sym (entries-documents_in trees s.are.ordered) ∙ ap entries s.view)
