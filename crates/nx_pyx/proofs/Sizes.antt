-- What bytes say, and how much of it, where more bytes come behind them.
use Rattle.std.proofs.Common.{◌≡◌, ℕ, ◌+◌, ◌≤◌, Bool, true, false, List, [], ◌∷◌, ◌++◌, length, Option, None, Some, refl, ap, sym, ◌∙◌, subst, ⊎_elim, arith, append-nil, take, drop, zero-add, suc, length-append}
use Rattle.std.specs.Prelude.{◌==◌, not, cond, if◌then◌else◌}
use Rattle.std.specs.List.{position_or_len, before_first, after_first}
use Rattle.std.specs.Option.{option_map_or, is_some}
use Rattle.std.proofs.lemmas.Bool.{cases_Bool, eqb-true}
use Rattle.nx_tree.specs.declared.node.Kind.TheVariants.{Attribute, Instruction}
use Rattle.nx_pyx.specs.Lines.{without_cr}
use Rattle.nx_pyx.specs.Event.{Event, Start, End, Single, unescaped_byte, unescape, is_space, text_node, named_node, event_by}
use Rattle.nx_pyx.specs.Fault.{event_size}

-- one byte more in front of each
one_more : (a : ℕ) (p q : List ℕ) → length p ≤ length q → length (a ∷ p) ≤ length (a ∷ q)
one_more a p q h = omega arith

-- a pair in front of what has grown has grown
pair_grows_by : (a : ℕ) (is_escape : Bool) (byte : Option ℕ) (p q r s : List ℕ) → length p ≤ length r → length q ≤ length s
    → length (if is_escape then option_map_or (λ b. b ∷ p) byte (a ∷ q) else a ∷ q) ≤ length (if is_escape then option_map_or (λ b. b ∷ r) byte (a ∷ s) else a ∷ s)
pair_grows_by a false byte p q r s h k = one_more a q s k
pair_grows_by a true None p q r s h k = one_more a q s k
pair_grows_by a true (Some b) p q r s h k = one_more b p r h

-- a byte, or the one that a pair stands for, is at least one
pair_some : (a : ℕ) (is_escape : Bool) (byte : Option ℕ) (p q : List ℕ) → 1 ≤ length (if is_escape then option_map_or (λ b. b ∷ p) byte (a ∷ q) else a ∷ q)
pair_some a false byte p q = omega arith
pair_some a true None p q = omega arith
pair_some a true (Some b) p q = omega arith

-- what begins with one byte says at least one
begun_some : (a : ℕ) (more : List ℕ) → 1 ≤ length (unescape (a ∷ more))
begun_some a [] = omega arith
begun_some a (b ∷ more) = pair_some a (a == 92) (unescaped_byte b) (unescape more) (unescape (b ∷ more))

-- what bytes say gets no shorter by bytes behind them
pub unescape_grows : (bytes more : List ℕ) → length (unescape bytes) ≤ length (unescape (bytes ++ more))
unescape_grows [] more = omega arith
unescape_grows (a ∷ []) more = begun_some a more
unescape_grows (a ∷ b ∷ bytes) more =
    pair_grows_by a (a == 92) (unescaped_byte b) (unescape bytes) (unescape (b ∷ bytes)) (unescape (bytes ++ more)) (unescape (b ∷ (bytes ++ more)))
    (unescape_grows bytes more) (unescape_grows (b ∷ bytes) more)

-- the bytes of name and content that bytes behind a code say
abbrev pub named_size : List ℕ → ℕ
named_size rest = length (before_first is_space rest) + length (unescape (after_first is_space rest))

-- the same, where the name has this many bytes
abbrev size_split : ℕ → List ℕ → ℕ
size_split n rest = length (take n rest) + length (unescape (drop (n + 1) rest))

-- one byte more of the name
size_split_next : (b n : ℕ) (rest : List ℕ) → size_split (1 + n) (b ∷ rest) ≡ 1 + size_split n rest
size_split_next b n rest =
    let s : 1 + n ≡ suc n = omega arith in
    let t : 1 + n + 1 ≡ suc (n + 1) = omega arith in
    let name : length (take (1 + n) (b ∷ rest)) ≡ length (b ∷ take n rest) = ap (λ (k : ℕ). length (take k (b ∷ rest))) s in
    let content : length (unescape (drop (1 + n + 1) (b ∷ rest))) ≡ length (unescape (drop (n + 1) rest)) = ap (λ (k : ℕ). length (unescape (drop k (b ∷ rest)))) t in
    omega arith

-- a space in front: no name
pub size_at_space : (b : ℕ) (rest : List ℕ) → is_space b ≡ true → named_size (b ∷ rest) ≡ length (unescape rest)
size_at_space b rest is =
    ap (λ (t : Bool). size_split (cond (not t) (1 + position_or_len is_space rest) 0) (b ∷ rest)) is
    ∙ zero-add (length (unescape rest))

-- another byte in front: one of the name
pub size_in_name : (b : ℕ) (rest : List ℕ) → is_space b ≡ false → named_size (b ∷ rest) ≡ 1 + named_size rest
size_in_name b rest is =
    ap (λ (t : Bool). size_split (cond (not t) (1 + position_or_len is_space rest) 0) (b ∷ rest)) is
    ∙ size_split_next b (position_or_len is_space rest) rest

-- name and content get no shorter by bytes behind them
pub named_size_grows : (rest more : List ℕ) → named_size rest ≤ named_size (rest ++ more)
named_size_grows [] more = omega arith
named_size_grows (b ∷ rest) more =
    ⊎_elim
    (λ (is : is_space b ≡ true).
    omega (arith, size_at_space b rest is, size_at_space b (rest ++ more) is, unescape_grows rest more))
    (λ (is : is_space b ≡ false).
    omega (arith, size_in_name b rest is, size_in_name b (rest ++ more) is, named_size_grows rest more))
    (cases_Bool (is_space b))

-- the bytes that an event has, where there is one
abbrev pub size_of : Option Event → ℕ
size_of o = option_map_or event_size o 0

-- the event by the tests of the code
abbrev pub event_by_tests : Bool → Bool → Bool → Bool → Bool → List ℕ → Option Event
event_by_tests start end attribute text instruction rest =
    if start then Some (Start rest)
    else if end then Some (End rest)
    else if attribute then Some (Single (named_node Attribute rest))
    else if text then Some (Single (text_node (unescape rest)))
    else if instruction then Some (Single (named_node Instruction rest))
    else None

-- what is said gets no shorter by bytes behind it
grows_by_tests : (start end attribute text instruction : Bool) (rest more : List ℕ)
    → size_of (event_by_tests start end attribute text instruction rest) ≤ size_of (event_by_tests start end attribute text instruction (rest ++ more))
grows_by_tests true end attribute text instruction rest more = omega (arith, length-append rest more)
grows_by_tests false true attribute text instruction rest more = omega (arith, length-append rest more)
grows_by_tests false false true text instruction rest more = named_size_grows rest more
grows_by_tests false false false true instruction rest more = omega (arith, unescape_grows rest more)
grows_by_tests false false false false true rest more = named_size_grows rest more
grows_by_tests false false false false false rest more = omega arith

-- what a line says gets no shorter by bytes behind it
pub event_grows : (code : ℕ) (rest more : List ℕ) → size_of (event_by code rest) ≤ size_of (event_by code (rest ++ more))
event_grows code rest more = grows_by_tests (code == 40) (code == 41) (code == 65) (code == 45) (code == 63) rest more

-- whether anything is said depends on the tests alone
coded_by_tests : (start end attribute text instruction : Bool) (rest more : List ℕ)
    → is_some (event_by_tests start end attribute text instruction rest) ≡ is_some (event_by_tests start end attribute text instruction more)
coded_by_tests true end attribute text instruction rest more = refl
coded_by_tests false true attribute text instruction rest more = refl
coded_by_tests false false true text instruction rest more = refl
coded_by_tests false false false true instruction rest more = refl
coded_by_tests false false false false true rest more = refl
coded_by_tests false false false false false rest more = refl

-- whether a line says anything depends on its code alone
pub event_coded : (code : ℕ) (rest more : List ℕ) → is_some (event_by code rest) ≡ is_some (event_by code more)
event_coded code rest more = coded_by_tests (code == 40) (code == 41) (code == 65) (code == 45) (code == 63) rest more

-- CR is no code
pub no_cr : (code : ℕ) → is_some (event_by code []) ≡ true → (code == 13) ≡ false
no_cr code is =
    ⊎_elim
    (λ (cr : (code == 13) ≡ true). absurd (let no : false ≡ true = subst (λ (b : ℕ). is_some (event_by b []) ≡ true) (eqb-true code 13 cr) is in cc))
    (λ (other : (code == 13) ≡ false). other)
    (cases_Bool (code == 13))

-- one byte, or nothing where it is CR
abbrev pub last_byte : Bool → ℕ → List ℕ
last_byte is_cr b = if is_cr then [] else b ∷ []

-- a byte at the end, kept or dropped, is a prefix of what it becomes with others behind it
byte_kept : (b : ℕ) (is_cr : Bool) (more : List ℕ) → (kept : List ℕ) × (b ∷ more ≡ last_byte is_cr b ++ kept)
byte_kept b true more = (b ∷ more, refl)
byte_kept b false more = (more, refl)

-- more bytes behind a line leave what it has without CR as a prefix
pub cr_kept : (line more : List ℕ) → (kept : List ℕ) × (without_cr (line ++ more) ≡ without_cr line ++ kept)
cr_kept [] more = (without_cr more, refl)
cr_kept (b ∷ []) [] = ([], sym (append-nil (without_cr (b ∷ []))))
cr_kept (b ∷ []) (c ∷ more) = byte_kept b (b == 13) (without_cr (c ∷ more))
cr_kept (b ∷ c ∷ line) more = let r = cr_kept (c ∷ line) more in (r.0, ap (λ (bs : List ℕ). b ∷ bs) r.1)

-- the first byte of a line stays, where it is no CR
pub code_kept : (code : ℕ) (rest : List ℕ) → (code == 13) ≡ false → (kept : List ℕ) × (without_cr (code ∷ rest) ≡ code ∷ kept)
code_kept code [] is = ([], ap (λ (t : Bool). last_byte t code) is)
code_kept code (b ∷ rest) is = (without_cr (b ∷ rest), refl)
