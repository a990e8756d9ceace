-- The fault that a line shows before it has ended, as the code finds it.
use Rattle.std.proofs.Common.{if◌then◌else◌, ◌≡◌, ℕ, ◌≤◌, Bool, true, false, List, [], ◌∷◌, length, Option, None, Some, refl, ap, ◌∙◌, ⊎_elim, arith, cond}
use Rattle.std.specs.Prelude.{◌==◌}
use Rattle.std.specs.Option.{option_map_or, is_some}
use Rattle.std.proofs.lemmas.Bool.{cases_Bool, le-ltb}
use Rattle.nx_tree.specs.Document.{longest_node}
use Rattle.nx_pyx.specs.declared.error.PyxFault.{PyxFault}
use Rattle.nx_pyx.specs.declared.error.PyxFault.TheVariants.{BadCode, LongLine}
use Rattle.nx_pyx.specs.Lines.{without_cr}
use Rattle.nx_pyx.specs.Event.{Event, is_space, event_by, event_of}
use Rattle.nx_pyx.specs.Fault.{event_size, is_long, early_fault}
use Rattle.nx_pyx.proofs.Sizes.{size_of, named_size, size_at_space, size_in_name, event_by_tests}
use Rattle.nx_pyx.proofs.UnescapeLemmas.{length-unescape}

-- the fault by what the code says alone, and what the line says
by_code : Option Event → Option Event → Option PyxFault
by_code code line = option_map_or (λ _. option_map_or (λ e. if is_long e then Some LongLine else None) line None) code (Some BadCode)

pub early_coded : (code : ℕ) (bytes : List ℕ) → is_some (event_by code []) ≡ true →
    early_fault (code ∷ bytes) ≡ option_map_or (λ e. if is_long e then Some LongLine else None) (event_of (without_cr (code ∷ bytes))) None
unfolding by_code
early_coded code bytes coded = at (event_by code []) (event_of (without_cr (code ∷ bytes))) coded
  where
    at : (o line : Option Event) → is_some o ≡ true → by_code o line ≡ option_map_or (λ e. if is_long e then Some LongLine else None) line None
    at None line coded = cc
    at (Some e) line coded = refl

-- name and content have no more bytes than stand for them
pub named_size-within : (rest : List ℕ) → named_size rest ≤ length rest
named_size-within [] = omega arith
named_size-within (b ∷ rest) =
    ⊎_elim
    (λ (is : is_space b ≡ true). omega (arith, size_at_space b rest is, length-unescape rest))
    (λ (is : is_space b ≡ false). omega (arith, size_in_name b rest is, named_size-within rest))
    (cases_Bool (is_space b))

size_by_tests : (start end attribute text instruction : Bool) (rest : List ℕ) → size_of (event_by_tests start end attribute text instruction rest) ≤ length rest
size_by_tests true end attribute text instruction rest = omega arith
size_by_tests false true attribute text instruction rest = omega arith
size_by_tests false false true text instruction rest = named_size-within rest
size_by_tests false false false true instruction rest = omega (arith, length-unescape rest)
size_by_tests false false false false true rest = named_size-within rest
size_by_tests false false false false false rest = omega arith

-- an event has fewer bytes than its line
size_within : (line : List ℕ) → size_of (event_of line) ≤ length line
size_within [] = omega arith
size_within (code ∷ rest) =
    let h : size_of (event_by code rest) ≤ length rest = size_by_tests (code == 40) (code == 41) (code == 65) (code == 45) (code == 63) rest in omega arith

-- CR at the end may be dropped
pub length-without_cr : (line : List ℕ) → length (without_cr line) ≤ length line
length-without_cr [] = omega arith
length-without_cr (b ∷ []) = one (b == 13)
  where
    one : (t : Bool) → length (cond t [] (b ∷ [])) ≤ 1
    one true = omega arith
    one false = omega arith
length-without_cr (b ∷ c ∷ bytes) = let h : length (without_cr (c ∷ bytes)) ≤ length (c ∷ bytes) = length-without_cr (c ∷ bytes) in omega arith

-- what has at most as many bytes as are allowed isn't too long
pub none_from_size : (o : Option Event) → size_of o ≤ longest_node → option_map_or (λ e. if is_long e then Some LongLine else None) o None ≡ None
none_from_size None h = refl
none_from_size (Some e) h = ap (λ (t : Bool). if t then Some LongLine else None) (le-ltb longest_node (event_size e) h)

-- a line of few bytes isn't too long
pub early_short : (code : ℕ) (bytes : List ℕ) → is_some (event_by code []) ≡ true → length (code ∷ bytes) ≤ longest_node → early_fault (code ∷ bytes) ≡ None
early_short code bytes coded few =
    let line : List ℕ = without_cr (code ∷ bytes) in
    let size : size_of (event_of line) ≤ length line = size_within line in
    let shorter : length line ≤ length (code ∷ bytes) = length-without_cr (code ∷ bytes) in
    early_coded code bytes coded ∙ none_from_size (event_of line) (omega arith)
