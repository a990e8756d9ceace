-- The bytes of pages in a stream.
use Rattle.std.proofs.Common.{◌≡◌, ℕ, zero, suc, ◌+◌, List, [], ◌∷◌, ◌++◌, length, refl, sym, ap, ◌∙◌, arith, append_assoc, append-nil}
use Rattle.byteorder.specs.Endian.{big_bytes}
use Rattle.nx_replay.specs.Log.{Pages, Entry, Group, entry_bytes, group_bytes}
use Rattle.nx_ship.specs.Shipped.{bytes_of, pages_from}

pub entry_bytes-append : (es fs : List Entry) → entry_bytes (es ++ fs) ≡ entry_bytes es ++ entry_bytes fs
entry_bytes-append [] fs = refl
entry_bytes-append (e ∷ es) fs =
    ap (λ (l : List ℕ). big_bytes 4 e.page ++ (e.bytes ++ l)) (entry_bytes-append es fs)
    ∙ ap (λ (l : List ℕ). big_bytes 4 e.page ++ l) (sym (append_assoc e.bytes (entry_bytes es) (entry_bytes fs)))
    ∙ sym (append_assoc (big_bytes 4 e.page) (e.bytes ++ entry_bytes es) (entry_bytes fs))

-- one page's
pub one_entry : (page : ℕ) (bytes : List ℕ) → entry_bytes (record { page = page; bytes = bytes } ∷ []) ≡ big_bytes 4 page ++ bytes
one_entry page bytes = ap (λ (l : List ℕ). big_bytes 4 page ++ l) (append-nil bytes)

-- a group's head, and its pages
pub group_parts : (g : Group) (count : List ℕ) → count ≡ big_bytes 4 (length g.entries) → (big_bytes 8 g.number ++ count) ++ entry_bytes g.entries ≡ group_bytes g
unfolding group_bytes
group_parts g count is =
    ap (λ (l : List ℕ). (big_bytes 8 g.number ++ l) ++ entry_bytes g.entries) is
    ∙ append_assoc (big_bytes 8 g.number) (big_bytes 4 (length g.entries)) (entry_bytes g.entries)

-- all pages from a number on, and one more
pub from_next : (pages : Pages) (at n : ℕ) → pages_from pages at (n + 1) ≡ pages_from pages at n ++ record { page = at + n; bytes = bytes_of pages (at + n) } ∷ []
from_next pages at zero =
    ap (λ (k : ℕ). record { page = k; bytes = bytes_of pages k } ∷ []) (let h : at ≡ at + 0 = omega arith in h)
from_next pages at (suc n) =
    let count : suc n + 1 ≡ suc (n + 1) = omega arith in
    let here : (at + 1) + n ≡ at + suc n = omega arith in
    ap (λ (k : ℕ). pages_from pages at k) count
    ∙ ap (λ (l : List Entry). record { page = at; bytes = bytes_of pages at } ∷ l) (from_next pages (at + 1) n ∙ ap (λ (k : ℕ). pages_from pages (at + 1) n ++ record { page = k; bytes = bytes_of pages k } ∷ []) here)

-- the first of all pages, and the others
pub from_split : (pages : Pages) (at n m : ℕ) → pages_from pages at (n + m) ≡ pages_from pages at n ++ pages_from pages (at + n) m
from_split pages at zero m =
    let a : zero + m ≡ m = omega arith in
    let b : at ≡ at + zero = omega arith in
    ap (λ (k : ℕ). pages_from pages at k) a ∙ ap (λ (k : ℕ). pages_from pages k m) b
from_split pages at (suc n) m =
    let count : suc n + m ≡ suc (n + m) = omega arith in
    let here : (at + 1) + n ≡ at + suc n = omega arith in
    ap (λ (k : ℕ). pages_from pages at k) count
    ∙ ap (λ (l : List Entry). record { page = at; bytes = bytes_of pages at } ∷ l) (from_split pages (at + 1) n m ∙ ap (λ (k : ℕ). pages_from pages (at + 1) n ++ pages_from pages k m) here)
