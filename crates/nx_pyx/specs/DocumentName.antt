-- The names of documents.
use Rattle.std.specs.declared.cmp.Ordering.{Ordering}
use Rattle.std.specs.Cmp.Lexicographic.{slice_cmp}
use Rattle.std.specs.Ordering.{nat_cmp}
use Rattle.std.specs.Prelude.{ℕ, Bool, not, ◌&&◌, nat_le, List, length, map}
use Rattle.std.specs.Global.{Vec}
use Rattle.std.specs.List.{list_all}
use Rattle.nx_tree.specs.Document.{is_empty}
use Rattle.nx_pyx.specs.Field.{begins_with}

-- from ! to ~
abbrev pub is_visible : ℕ → Bool
is_visible b = nat_le 33 b && nat_le b 126

-- a document's name: 1 to 255 visible bytes, the first not a hyphen
abbrev pub is_document_name : List ℕ → Bool
is_document_name name = not (is_empty name) && nat_le (length name) 255 && list_all is_visible name && not (begins_with 45 name)

-- the order of names: that of their bytes
abbrev pub name_order : List ℕ → List ℕ → Ordering
name_order = slice_cmp nat_cmp

-- the order of names that are vectors
abbrev pub vector_order : Vec ℕ → Vec ℕ → Ordering
vector_order x y = name_order x.items y.items

-- the entries, by the names' bytes
abbrev pub by_bytes : {X : Type 0} → List (Vec ℕ × X) → List (List ℕ × X)
by_bytes es = map (λ e. (e.0.items, e.1)) es
