-- How many bytes may come behind a line before it could show a fault.
use Rattle.std.proofs.Common.{if◌then◌else◌, ◌≡◌, ℕ, ◌+◌, ◌-◌, ◌≤◌, Bool, true, false, List, [], ◌∷◌, ◌++◌, length, Option, None, Some, ap, ◌∙◌, subst, ⊎_elim, arith, append-nil, append_assoc, length-append}
use Rattle.std.specs.Prelude.{◌==◌}
use Rattle.std.specs.Option.{option_map_or, is_some}
use Rattle.std.proofs.lemmas.Bool.{cases_Bool}
use Rattle.nx_tree.specs.Document.{longest_node}
use Rattle.nx_pyx.specs.declared.error.PyxFault.TheVariants.{LongLine}
use Rattle.nx_pyx.specs.Lines.{without_cr}
use Rattle.nx_pyx.specs.Event.{Event, is_space, unescape, unescaped_byte, event_by, event_of}
use Rattle.nx_pyx.specs.Fault.{event_size, is_long, early_fault}
use Rattle.nx_pyx.specs.Reader.{MayGrowBy}
use Rattle.nx_pyx.proofs.Sizes.{size_of, named_size, size_at_space, size_in_name, event_by_tests, no_cr, cr_kept, code_kept}
use Rattle.nx_pyx.proofs.Early.{uncoded_line}
use Rattle.nx_pyx.proofs.UnescapeLemmas.{length-unescape}
use Rattle.nx_pyx.proofs.EarlyLemmas.{early_coded, early_short, none_from_size, named_size-within, length-without_cr}

-- a pair in front of what has grown by at most so many bytes has grown by no more
pair_grows_at_most : (a n : ℕ) (is_escape : Bool) (byte : Option ℕ) (p q r s : List ℕ) → length r ≤ length p + n → length s ≤ length q + n
    → length (if is_escape then option_map_or (λ b. b ∷ r) byte (a ∷ s) else a ∷ s) ≤ length (if is_escape then option_map_or (λ b. b ∷ p) byte (a ∷ q) else a ∷ q) + n
pair_grows_at_most a n false byte p q r s h k = omega arith
pair_grows_at_most a n true None p q r s h k = omega arith
pair_grows_at_most a n true (Some b) p q r s h k = omega arith

-- what bytes say grows by at most as many bytes as come behind them
unescape_grows_by : (bytes more : List ℕ) → length (unescape (bytes ++ more)) ≤ length (unescape bytes) + length more
unescape_grows_by [] more = omega (arith, length-unescape more)
unescape_grows_by (a ∷ []) more = omega (arith, length-unescape (a ∷ more))
unescape_grows_by (a ∷ b ∷ bytes) more =
    pair_grows_at_most a (length more) (a == 92) (unescaped_byte b) (unescape bytes) (unescape (b ∷ bytes)) (unescape (bytes ++ more)) (unescape (b ∷ (bytes ++ more)))
    (unescape_grows_by bytes more) (unescape_grows_by (b ∷ bytes) more)

-- so do a name and a content
named_size_grows_by : (rest more : List ℕ) → named_size (rest ++ more) ≤ named_size rest + length more
named_size_grows_by [] more = omega (arith, named_size-within more)
named_size_grows_by (b ∷ rest) more =
    ⊎_elim
    (λ (is : is_space b ≡ true).
    omega (arith, size_at_space b rest is, size_at_space b (rest ++ more) is, unescape_grows_by rest more))
    (λ (is : is_space b ≡ false).
    omega (arith, size_in_name b rest is, size_in_name b (rest ++ more) is, named_size_grows_by rest more))
    (cases_Bool (is_space b))

tests_grow_by : (start end attribute text instruction : Bool) (rest more : List ℕ)
    → size_of (event_by_tests start end attribute text instruction (rest ++ more)) ≤ size_of (event_by_tests start end attribute text instruction rest) + length more
tests_grow_by true end attribute text instruction rest more = omega (arith, length-append rest more)
tests_grow_by false true attribute text instruction rest more = omega (arith, length-append rest more)
tests_grow_by false false true text instruction rest more = named_size_grows_by rest more
tests_grow_by false false false true instruction rest more = omega (arith, unescape_grows_by rest more)
tests_grow_by false false false false true rest more = named_size_grows_by rest more
tests_grow_by false false false false false rest more = omega arith

-- and an event
event_grows_by : (code : ℕ) (rest more : List ℕ) → size_of (event_by code (rest ++ more)) ≤ size_of (event_by code rest) + length more
event_grows_by code rest more = tests_grow_by (code == 40) (code == 41) (code == 65) (code == 45) (code == 63) rest more

-- at most one byte is dropped
pub one_dropped : (line : List ℕ) → length line ≤ length (without_cr line) + 1
one_dropped [] = omega arith
one_dropped (b ∷ []) = omega arith
one_dropped (b ∷ c ∷ line) = let h : length (c ∷ line) ≤ length (without_cr (c ∷ line)) + 1 = one_dropped (c ∷ line) in omega arith

-- what a line says, CR at its end dropped, grows by at most as many bytes as come behind it, and by one for a CR that was dropped
line_grows_by : (code : ℕ) (bytes more : List ℕ) → is_some (event_by code []) ≡ true
    → size_of (event_of (without_cr (code ∷ bytes ++ more))) ≤ size_of (event_of (without_cr (code ∷ bytes))) + length more + 1
line_grows_by code bytes more is =
    let k = code_kept code bytes (no_cr code is) in
    let c = cr_kept (code ∷ bytes) more in
    let whole : without_cr (code ∷ bytes ++ more) ≡ code ∷ (k.0 ++ c.0) = c.1 ∙ ap (λ (line : List ℕ). line ++ c.0) k.1 in
    let short : size_of (event_of (without_cr (code ∷ bytes))) ≡ size_of (event_by code k.0) = ap (λ (line : List ℕ). size_of (event_of line)) k.1 in
    let long : size_of (event_of (without_cr (code ∷ bytes ++ more))) ≡ size_of (event_by code (k.0 ++ c.0)) = ap (λ (line : List ℕ). size_of (event_of line)) whole in
    let grows = event_grows_by code k.0 c.0 in
    let dropped : length (code ∷ bytes) ≤ length (code ∷ k.0) + 1 = subst (λ (line : List ℕ). length (code ∷ bytes) ≤ length line + 1) k.1 (one_dropped (code ∷ bytes)) in
    let kept : length (code ∷ (k.0 ++ c.0)) ≤ length (code ∷ bytes ++ more) = subst (λ (line : List ℕ). length line ≤ length (code ∷ bytes ++ more)) whole (length-without_cr (code ∷ bytes ++ more)) in
    omega (arith, length-append k.0 c.0, length-append bytes more)

-- a line that says something has a code
has_code : (code : ℕ) (rest : List ℕ) (e : Event) → event_of (without_cr (code ∷ rest)) ≡ Some e → is_some (event_by code []) ≡ true
has_code code rest e says =
    ⊎_elim
    (λ (is : is_some (event_by code []) ≡ true). is)
    (λ (is : is_some (event_by code []) ≡ false). absurd (let none = uncoded_line code rest is in cc))
    (cases_Bool (is_some (event_by code [])))

-- before its first byte a line has no room
pub room_empty : (bytes : List ℕ) → bytes ≡ [] → MayGrowBy bytes 0
room_empty bytes is [] h = ap (λ (line : List ℕ). early_fault (line ++ [])) is
room_empty bytes is (b ∷ more) h = absurd (omega arith)

-- few bytes may become as many as are allowed
pub room_few : (bytes : List ℕ) (e : Event) → event_of (without_cr bytes) ≡ Some e → length bytes ≤ longest_node → MayGrowBy bytes (longest_node - length bytes)
room_few [] e says few more h = absurd (cc)
room_few (code ∷ rest) e says few more h = early_short code (rest ++ more) (has_code code rest e says) (omega (arith, length-append rest more))

-- a line may say as many bytes more as are left, but for a CR that was dropped
pub room_left : (bytes : List ℕ) (e : Event) (left : ℕ) → event_of (without_cr bytes) ≡ Some e → event_size e + left ≡ longest_node → MayGrowBy bytes (left - 1)
room_left [] e left says is more h = absurd (cc)
room_left (code ∷ rest) e left says is more h =
    early_coded code (rest ++ more) (has_code code rest e says)
    ∙ none_from_size (event_of (without_cr (code ∷ rest ++ more))) (fits more h)
  where
    size : size_of (event_of (without_cr (code ∷ rest))) ≡ event_size e
    size = ap size_of says

    fits : (more : List ℕ) → length more ≤ left - 1 → size_of (event_of (without_cr (code ∷ rest ++ more))) ≤ longest_node
    fits [] h = omega (arith, size, ap (λ (line : List ℕ). size_of (event_of (without_cr (code ∷ line)))) (append-nil rest))
    fits (b ∷ more) h = omega (arith, size, line_grows_by code rest (b ∷ more) (has_code code rest e says))

-- a line that says too much
pub too_long : (bytes : List ℕ) (e : Event) → event_of (without_cr bytes) ≡ Some e → is_long e ≡ true → early_fault bytes ≡ Some LongLine
too_long [] e says long = absurd (cc)
too_long (code ∷ rest) e says long =
    early_coded code rest (has_code code rest e says)
    ∙ ap (λ (o : Option Event). option_map_or (λ e. if is_long e then Some LongLine else None) o None) says
    ∙ ap (λ (t : Bool). if t then Some LongLine else None) long

-- what has come is taken from the room
pub room_less : (held bytes new : List ℕ) (room left : ℕ) → new ≡ held ++ bytes → length bytes + left ≤ room → MayGrowBy held room → MayGrowBy new left
room_less held bytes new room left is fits has more h =
    ap (λ (line : List ℕ). early_fault (line ++ more)) is
    ∙ ap early_fault (append_assoc held bytes more)
    ∙ has (bytes ++ more) (omega (arith, length-append bytes more))
