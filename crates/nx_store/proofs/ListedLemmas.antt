-- The list of documents, as it is made entry by entry.
use Rattle.std.proofs.Common.{◌≡◌, ℕ, List, [], ◌∷◌, ◌++◌, map, refl, sym, ap, ◌∙◌}
use Rattle.std.proofs.lemmas.List.{map-append}
use Rattle.std.specs.Borrow.{Bor}
use Rattle.std.specs.Global.{Vec}
use Rattle.std.specs.Map.Iter.{deref_pair}
use Rattle.nx_hold.specs.declared.entry.DocEntry.{DocEntry}
use Rattle.nx_script.specs.declared.reply.DocLine.{DocLine}
use Rattle.nx_pyx.specs.DocumentName.{by_bytes}
use Rattle.nx_store.specs.Told.{line_of}

-- an entry of the catalog
abbrev pub Entry : Type 0
Entry = Bor (Vec ℕ) × Bor DocEntry

-- the lines of these entries
abbrev pub lines_of : List Entry → List DocLine
lines_of es = map (λ (e : Entry). line_of (e.0.now.items, e.1.now)) es

pub lines_more : (es : List Entry) (e : Entry) (lines new : List DocLine) (name : List ℕ) → lines ≡ lines_of es → new ≡ lines ++ record { name = name; nodes = e.1.now.nodes } ∷ []
    → name ≡ e.0.now.items → new ≡ lines_of (es ++ e ∷ [])
lines_more es e lines new name made is named =
    is ∙ ap (λ ls. ls ++ record { name = name; nodes = e.1.now.nodes } ∷ []) made ∙ ap (λ x. lines_of es ++ record { name = x; nodes = e.1.now.nodes } ∷ []) named
    ∙ sym (map-append (λ (x : Entry). line_of (x.0.now.items, x.1.now)) es (e ∷ []))

pub lines_whole : (es : List Entry) → lines_of es ≡ map line_of (by_bytes (map deref_pair es))
lines_whole [] = refl
lines_whole (e ∷ es) = ap (λ r. line_of (e.0.now.items, e.1.now) ∷ r) (lines_whole es)
