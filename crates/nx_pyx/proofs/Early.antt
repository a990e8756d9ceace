-- The fault that a line shows before it has ended, and that it keeps.
use Rattle.std.proofs.Common.{◌≡◌, ℕ, ◌≤◌, ◌<◌, Bool, true, false, List, [], ◌∷◌, ◌++◌, Option, None, Some, refl, ap, sym, ◌∙◌, subst, inl, inr, ◌⊎◌, ⊎_elim, arith, append-nil}
use Rattle.std.specs.Prelude.{◌==◌, if◌then◌else◌, ◌↔◌}
use Rattle.std.specs.Option.{option_map_or, is_some}
use Rattle.std.proofs.lemmas.Bool.{cases_Bool, ltb-true, lt-ltb}
use Rattle.nx_tree.specs.Document.{longest_node}
use Rattle.nx_pyx.specs.declared.error.PyxFault.{PyxFault}
use Rattle.nx_pyx.specs.declared.error.PyxFault.TheVariants.{BadCode, LongLine}
use Rattle.nx_pyx.specs.Lines.{without_cr, has_lf}
use Rattle.nx_pyx.specs.Event.{Event, event_by, event_of}
use Rattle.nx_pyx.specs.Fault.{Standing, standing, events_of, event_size, is_long, fault_at_standing, line_fault, early_fault}
use Rattle.nx_pyx.proofs.Sizes.{size_of, event_grows, event_coded, no_cr, cr_kept, code_kept, last_byte}

-- where nothing is said
none_from : (o : Option Event) → is_some o ≡ false → o ≡ None
none_from None h = refl
none_from (Some e) h = absurd (cc)

-- without a code in front a line says nothing
pub uncoded_line : (code : ℕ) (bytes : List ℕ) → is_some (event_by code []) ≡ false → event_of (without_cr (code ∷ bytes)) ≡ None
uncoded_line code [] h = either_none (code == 13)
  where
    either_none : (is_cr : Bool) → event_of (last_byte is_cr code) ≡ None
    either_none true = refl
    either_none false = none_from (event_by code []) h
uncoded_line code (b ∷ bytes) h = none_from (event_by code (without_cr (b ∷ bytes))) (event_coded code (without_cr (b ∷ bytes)) [] ∙ h)

-- what a line says, CR at its end dropped, gets no shorter by bytes behind it
pub line_grows : (bytes more : List ℕ) → size_of (event_of (without_cr bytes)) ≤ size_of (event_of (without_cr (bytes ++ more)))
line_grows [] more = omega arith
line_grows (code ∷ bytes) more =
    ⊎_elim
    (λ (is : is_some (event_by code []) ≡ true).
    let k = code_kept code bytes (no_cr code is) in
    let c = cr_kept (code ∷ bytes) more in
    let short : size_of (event_of (without_cr (code ∷ bytes))) ≡ size_of (event_by code k.0) = ap (λ (line : List ℕ). size_of (event_of line)) k.1 in
    let long : size_of (event_of (without_cr (code ∷ bytes ++ more))) ≡ size_of (event_by code (k.0 ++ c.0)) =
    ap (λ (line : List ℕ). size_of (event_of line)) (c.1 ∙ ap (λ (line : List ℕ). line ++ c.0) k.1) in
    let grows = event_grows code k.0 c.0 in
    omega arith)
    (λ (is : is_some (event_by code []) ≡ false).
    let none : size_of (event_of (without_cr (code ∷ bytes))) ≡ 0 = ap size_of (uncoded_line code bytes is) in
    omega arith)
    (cases_Bool (is_some (event_by code [])))

-- what is said has more bytes than are allowed
abbrev pub is_long_answer : Option Event → Bool
is_long_answer o = option_map_or is_long o false

-- a line says more bytes than are allowed
abbrev pub says_long : List ℕ → Bool
says_long line = is_long_answer (event_of line)

-- what is too long has more bytes than are allowed
size_from_long : (o : Option Event) → is_long_answer o ≡ true → longest_node < size_of o
size_from_long None h = absurd (cc)
size_from_long (Some e) h = ltb-true longest_node (event_size e) h

-- what has more bytes than are allowed is too long
long_from_size : (o : Option Event) → longest_node < size_of o → is_long_answer o ≡ true
long_from_size None h = absurd (omega arith)
long_from_size (Some e) h = lt-ltb longest_node (event_size e) h

-- a line that is too long stays so
pub long_stays : (bytes more : List ℕ) → says_long (without_cr bytes) ≡ true → says_long (without_cr (bytes ++ more)) ≡ true
long_stays bytes more h =
    let size = size_from_long (event_of (without_cr bytes)) h in
    let grows = line_grows bytes more in
    long_from_size (event_of (without_cr (bytes ++ more))) (omega arith)

-- a line that is too long has that fault wherever it stands
pub long_fault : (before : List (List ℕ)) (line : List ℕ) → says_long line ≡ true → line_fault before line ≡ Some LongLine
long_fault before line h = refused (standing (events_of before)) (event_of line) h
  where
    refused : (s : Standing) (o : Option Event) → is_long_answer o ≡ true → option_map_or (fault_at_standing s) o (Some BadCode) ≡ Some LongLine
    refused s None k = absurd (cc)
    refused s (Some e) k = rw k refl

-- a line without a code has that fault wherever it stands
pub uncoded_fault : (before : List (List ℕ)) (code : ℕ) (bytes : List ℕ) → is_some (event_by code []) ≡ false → line_fault before (without_cr (code ∷ bytes)) ≡ Some BadCode
uncoded_fault before code bytes h = ap (λ (o : Option Event). option_map_or (fault_at_standing (standing (events_of before))) o (Some BadCode)) (uncoded_line code bytes h)

-- the early fault by what the code alone says and what the line says so far
abbrev early_by : Option Event → Option Event → Option PyxFault
early_by o so_far = option_map_or (λ _. option_map_or (λ e. if is_long e then Some LongLine else None) so_far None) o (Some BadCode)

-- no code in front
early_uncoded : (o so_far : Option Event) → is_some o ≡ false → early_by o so_far ≡ Some BadCode
early_uncoded None so_far h = refl
early_uncoded (Some e) so_far h = absurd (cc)

-- too long so far
early_long : (o so_far : Option Event) → is_some o ≡ true → is_long_answer so_far ≡ true → early_by o so_far ≡ Some LongLine
early_long None so_far h k = absurd (cc)
early_long (Some e) None h k = absurd (cc)
early_long (Some e) (Some g) h k = ap (λ (b : Bool). if b then Some LongLine else None) k

-- a fault that depends on one test
long_parts : (b : Bool) (fault : PyxFault) → (if b then Some LongLine else None) ≡ Some fault → (b ≡ true) × (fault ≡ LongLine)
long_parts true fault h = (refl, cc)
long_parts false fault h = absurd (cc)

-- an early fault is one of two
early_parts : (o so_far : Option Event) (fault : PyxFault) → early_by o so_far ≡ Some fault
    → ((is_some o ≡ false) × (fault ≡ BadCode)) ⊎ ((is_some o ≡ true) × (is_long_answer so_far ≡ true) × (fault ≡ LongLine))
early_parts None so_far fault h = inl (refl, cc)
early_parts (Some e) None fault h = absurd (cc)
early_parts (Some e) (Some g) fault h = let p = long_parts (is_long g) fault h in inr (refl, p.0, p.1)

-- an early fault stays, and is that of the line wherever it stands
pub early_stays : (bytes more : List ℕ) (fault : PyxFault) → early_fault bytes ≡ Some fault
    → (early_fault (bytes ++ more) ≡ Some fault) × ((before : List (List ℕ)) → line_fault before (without_cr (bytes ++ more)) ≡ Some fault)
early_stays [] more fault h = absurd (cc)
early_stays (code ∷ bytes) more fault h =
    ⊎_elim
    (λ (p : (is_some (event_by code []) ≡ false) × (fault ≡ BadCode)).
    let same : Some BadCode ≡ Some fault = ap (λ (f : PyxFault). Some f) (sym p.1) in (
      early_uncoded (event_by code []) (event_of (without_cr (code ∷ bytes ++ more))) p.0 ∙ same,
      λ before. uncoded_fault before code (bytes ++ more) p.0 ∙ same,
    ))
    (λ (p : (is_some (event_by code []) ≡ true) × (says_long (without_cr (code ∷ bytes)) ≡ true) × (fault ≡ LongLine)).
    let same : Some LongLine ≡ Some fault = ap (λ (f : PyxFault). Some f) (sym p.2) in
    let long = long_stays (code ∷ bytes) more p.1 in (
      early_long (event_by code []) (event_of (without_cr (code ∷ bytes ++ more))) p.0 long ∙ same,
      λ before. long_fault before (without_cr (code ∷ bytes ++ more)) long ∙ same,
    ))
    (early_parts (event_by code []) (event_of (without_cr (code ∷ bytes))) fault h)

-- a line with a code shows early that it is too long exactly where each line that it can become is
pub long_early : (code : ℕ) (bytes : List ℕ) → is_some (event_by code []) ≡ true
    → (early_fault (code ∷ bytes) ≡ Some LongLine) ↔ ((more : List ℕ) → has_lf more ≡ false → says_long (without_cr (code ∷ bytes ++ more)) ≡ true)
long_early code bytes some = (
  λ h more _. long_stays (code ∷ bytes) more (by_parts h),
  λ each. early_long (event_by code []) (event_of (without_cr (code ∷ bytes))) some
      (subst (λ (line : List ℕ). says_long (without_cr (code ∷ line)) ≡ true) (append-nil bytes) (each [] refl)),
)
  where
    by_parts : early_fault (code ∷ bytes) ≡ Some LongLine → says_long (without_cr (code ∷ bytes)) ≡ true
    by_parts h =
        ⊎_elim
        (λ (p : (is_some (event_by code []) ≡ false) × (LongLine ≡ BadCode)). absurd (let no : false ≡ true = sym p.0 ∙ some in cc))
        (λ (p : (is_some (event_by code []) ≡ true) × (says_long (without_cr (code ∷ bytes)) ≡ true) × (LongLine ≡ LongLine)). p.1)
        (early_parts (event_by code []) (event_of (without_cr (code ∷ bytes))) LongLine h)
