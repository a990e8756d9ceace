-- Documents read one after another, into a map.
use Rattle.std.proofs.Common.{Ordering, ◌≡◌, ℕ, ◌<◌, ◌+◌, ◌-◌, true, cond, List, [], ◌∷◌, ◌++◌, Option, Some, None, refl, sym, ap, subst, ◌∙◌, append_assoc, arith}
use Rattle.std.specs.Global.{Vec}
use Rattle.std.specs.List.{AllByRecursion}
use Rattle.std.specs.Ordering.{match_ordering, ordering_reverse}
use Rattle.std.specs.declared.cmp.Ordering.TheVariants.{Less, Greater}
use Rattle.std.specs.Cmp.Lexicographic.{nat_list_cmp_total}
use Rattle.std.specs.BTreeMap.{insert_entry}
use Rattle.nx_pyx.specs.DocumentName.{name_order, is_document_name, vector_order, by_bytes}
use Rattle.nx_hold.specs.declared.entry.DocEntry.{DocEntry}
use Rattle.nx_catalog.specs.Catalog.{Document, with_length, place_bytes, document_bytes, CanBeKept}
use Rattle.nx_catalog.specs.Reading.{◌>>=◌, counted_at, place_at, document_at, documents_at}
use Rattle.nx_catalog.proofs.FieldLemmas.{IsBytes, Takes, takes_then, bind_some, if_some, some_is, counted_takes, counted_again, place_takes, place_again}
use Rattle.nx_catalog.proofs.NameLemmas.{name_short}
use Rattle.nx_catalog.proofs.InsideLemmas.{Kept}
use Rattle.nx_catalog.proofs.RisingLemmas.{EndAt, end_more}
use Rattle.nx_catalog.proofs.ListedLemmas.{with_front, goes_on}

pub document_takes : (bytes : List ℕ) (x : Document × List ℕ) → IsBytes bytes → document_at bytes ≡ Some x → Takes bytes (document_bytes x.0) x.1 × CanBeKept x.0
unfolding document_at
document_takes bytes x fits e =
    let a = bind_some (counted_at bytes) (λ name. place_at name.1 >>= λ place. cond (is_document_name name.0) (Some ((name.0, place.0), place.1)) None) x e in
    let b = bind_some (place_at a.0.1) (λ place. cond (is_document_name a.0.0) (Some ((a.0.0, place.0), place.1)) None) x a.2 in
    let g = if_some (is_document_name a.0.0) (Some ((a.0.0, b.0.0), b.0.1)) x b.2 in
    let name = counted_takes bytes a.0 fits a.1 in
    let place = place_takes a.0.1 b.0 name.rest_fits b.1 in
    subst (λ (y : Document × List ℕ). Takes bytes (document_bytes y.0) y.1 × CanBeKept y.0) (some_is _ x g.1)
    (takes_then (with_length a.0.0) (place_bytes b.0.0) name place.0, record { named = g.0; page = (place.1).0; slot = (place.1).1; nodes = (place.1).2 })

pub document_again : (d : Document) (rest : List ℕ) → CanBeKept d → document_at (document_bytes d ++ rest) ≡ Some (d, rest)
unfolding document_at
document_again d rest kept =
    let short = name_short d.0 kept.named in
    let named : is_document_name d.0 ≡ true = kept.named in
    ap document_at (append_assoc (with_length d.0) (place_bytes d.1) rest)
    ∙ rw (counted_again d.0 (place_bytes d.1 ++ rest) (omega (arith, short)), place_again d.1 rest (kept.page, kept.slot, kept.nodes), named) refl

greater : (x y : List ℕ) → name_order x y ≡ Less → name_order y x ≡ Greater
greater x y lt = nat_list_cmp_total.antisymm y x ∙ ap ordering_reverse lt

-- an entry behind all others comes at the end
put_last : (es : List Kept) (key : Vec ℕ) (entry : DocEntry) → AllByRecursion (λ (e : Kept). name_order e.0.items key.items ≡ Less) es → insert_entry vector_order es key entry ≡ es ++ (key, entry) ∷ []
put_last [] key entry h = refl
put_last (e ∷ es) key entry h =
    ap (λ (o : Ordering). match_ordering o ((key, entry) ∷ e ∷ es) ((e.0, entry) ∷ es) (e ∷ insert_entry vector_order es key entry)) (greater e.0.items key.items h.0)
    ∙ ap (λ (r : List Kept). e ∷ r) (put_last es key entry h.1)

with_last : (es : List Kept) (key : Vec ℕ) (entry : DocEntry) → by_bytes (es ++ (key, entry) ∷ []) ≡ by_bytes es ++ (key.items, entry) ∷ []
with_last [] key entry = refl
with_last (e ∷ es) key entry = ap (λ (r : List Document). (e.0.items, e.1) ∷ r) (with_last es key entry)

abbrev pub name_of : Kept → List ℕ
name_of e = e.0.items

-- what was read of the documents, and is in the map
pub record HasRead (count i : ℕ) (last bytes : List ℕ) (es : List Kept) (total : Option (List Document × List ℕ)) : Type 0 where
  pub end : EndAt name_order name_of nat_list_cmp_total es last
  pub so_far : with_front (by_bytes es) (documents_at (count - i) last bytes) ≡ total

pub read_more : {count i : ℕ} {last bytes : List ℕ} {es : List Kept} {total : Option (List Document × List ℕ)} (new : List Kept) (key : Vec ℕ) (name : List ℕ) (entry : DocEntry) (after : List ℕ) → HasRead count i last bytes es total
    → i < count → document_at bytes ≡ Some ((name, entry), after) → name_order last name ≡ Less → key.items ≡ name → new ≡ insert_entry vector_order es key entry → HasRead count (i + 1) name after new total
read_more {count} {i} {last} {bytes} {es} {total} new key name entry after h lt found behind same is =
    let next : name_order last key.items ≡ Less = subst (λ (n : List ℕ). name_order last n ≡ Less) (sym same) behind in
    let put : new ≡ es ++ (key, entry) ∷ [] = is ∙ put_last es key entry (h.end key.items next) in
    let shown : by_bytes new ≡ by_bytes es ++ (name, entry) ∷ [] = ap by_bytes put ∙ with_last es key entry ∙ ap (λ (n : List ℕ). by_bytes es ++ (n, entry) ∷ []) same in
    record {
      end = subst (λ (n : List ℕ). EndAt name_order name_of nat_list_cmp_total new n) same
          (subst (λ (r : List Kept). EndAt name_order name_of nat_list_cmp_total r key.items) (sym put) (end_more name_order name_of nat_list_cmp_total es (key, entry) last h.end next));
      so_far =
          ap (λ (front : List Document). with_front front (documents_at (count - (i + 1)) name after)) shown
          ∙ goes_on document_at name_order (λ (d : Document). d.0) (by_bytes es) count i last bytes (name, entry) after total lt found behind h.so_far;
    }
