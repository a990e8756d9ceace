-- Lines that a parser gives, whatever they say.
use Rattle.std.proofs.Common.{◌≡◌, ℕ, ◌+◌, ◌<◌, ◌≤◌, ⊎_elim, true, false, List, [], ◌∷◌, ◌++◌, length, take, min, map, refl, sym, ap, ◌∙◌, subst, arith, take_all}
use Rattle.std.specs.Prelude.{◌==◌}
use Rattle.std.proofs.lemmas.Bool.{cases_lt, lt-ltb, le-ltb}
use Rattle.std.proofs.lemmas.List.{length-take}
use Rattle.std.proofs.lemmas.List.{map-append}
use Rattle.nx_pyx.specs.Lines.{cut, without_cr, last_line, ended_lines, has_lf, EndsLine}
use Rattle.nx_pyx.proofs.HasRoomLemmas.{one_dropped}
use Rattle.nx_pyx.proofs.StreamLemmas.{ended_lines-held, ended_lines-ended, nothing_held}
use Rattle.nx_script.specs.declared.whole.Line.{Line}
use Rattle.nx_script.specs.declared.whole.Line.TheVariants.{Bytes, TooLong}
use Rattle.nx_script.specs.declared.parser.Parser.{Parser}
use Rattle.nx_script.specs.Line.{longest_line}
use Rattle.nx_script.specs.Parser.{most_held}
use Rattle.nx_script.specs.Whole.{as_line, AreLines, HasHeld}
use Rattle.nx_script.proofs.LinesLemmas.{rest-held, rest-ended, lines-whole}
use Rattle.nx_script.proofs.DocumentLines.{line_taken}
use Rattle.nx_script.proofs.ParserLemmas.{none_held}

long_line : (line : List ℕ) → longest_line < length line → as_line line ≡ TooLong
long_line line long = rw (lt-ltb longest_line (length line) long) refl

short_line : (line : List ℕ) → length line ≤ longest_line → as_line line ≡ Bytes line
short_line line short = rw (le-ltb longest_line (length line) short) refl

-- so many bytes of a line give the same as all
held_same : (n : ℕ) (whole : List ℕ) → longest_line + 2 ≤ n → as_line (without_cr (take n whole)) ≡ as_line (without_cr whole)
held_same n whole enough =
    ⊎_elim
    (λ (more : n < length whole).
    let size : length (take n whole) ≡ n = (let e : length (take n whole) ≡ min n (length whole) = length-take n whole in omega arith) in
    let first : length (take n whole) ≤ length (without_cr (take n whole)) + 1 = one_dropped (take n whole) in
    let second : length whole ≤ length (without_cr whole) + 1 = one_dropped whole in
    long_line (without_cr (take n whole)) (omega arith) ∙ sym (long_line (without_cr whole) (omega arith)))
    (λ (all : length whole ≤ n). ap (λ (l : List ℕ). as_line (without_cr l)) (take_all n whole all))
    (cases_lt n (length whole))

pub holds_line : (whole bytes : List ℕ) → bytes ≡ take most_held whole → as_line (without_cr bytes) ≡ as_line (without_cr whole)
holds_line whole bytes is = ap (λ (l : List ℕ). as_line (without_cr l)) is ∙ held_same most_held whole (omega arith)

pub gives_long : (bytes line : List ℕ) → line ≡ without_cr bytes → longest_line < length line → (whole : List ℕ) → bytes ≡ take most_held whole → TooLong ≡ as_line (without_cr whole)
gives_long bytes line is long whole held = sym (long_line line long) ∙ ap as_line is ∙ holds_line whole bytes held

pub gives_short : (bytes line given : List ℕ) → line ≡ without_cr bytes → length line ≤ longest_line → given ≡ line → (whole : List ℕ) → bytes ≡ take most_held whole →
    Bytes given ≡ as_line (without_cr whole)
gives_short bytes line given is short same whole held = ap (λ (l : List ℕ). Bytes l) same ∙ sym (short_line line short) ∙ ap as_line is ∙ holds_line whole bytes held

-- more of a line is held
pub holds_more : (old new : Parser) (bytes : List ℕ) → has_lf bytes ≡ false →
    ((line : List ℕ) → old.held ≡ take most_held line → new.held ≡ take most_held (line ++ bytes)) →
    (seen : List ℕ) (given : List Line) → HasHeld old seen given → HasHeld new (seen ++ bytes) given
holds_more old new bytes unbroken holds seen given held = record {
  gives = held.gives ∙ ap (map as_line) (sym (ended_lines-held seen bytes unbroken));
  keeps = holds (cut seen).rest held.keeps ∙ ap (take most_held) (sym (rest-held seen bytes unbroken));
}

-- a line ends
pub ends_line : (old new : Parser) (bytes : List ℕ) (line : Line) → has_lf bytes ≡ false → new.held ≡ [] →
    ((rest : List ℕ) → old.held ≡ take most_held rest → line ≡ as_line (without_cr (rest ++ bytes))) →
    (seen : List ℕ) (given : List Line) → HasHeld old seen given → HasHeld new (seen ++ (bytes ++ 10 ∷ [])) (given ++ line ∷ [])
ends_line old new bytes line unbroken none is seen given held =
    let whole : List ℕ = without_cr ((cut seen).rest ++ bytes) in
    record {
      gives = ap (λ (l : Line). given ++ l ∷ []) (is (cut seen).rest held.keeps) ∙ ap (λ (ls : List Line). ls ++ as_line whole ∷ []) held.gives
          ∙ sym (map-append as_line (ended_lines seen) (whole ∷ [])) ∙ ap (map as_line) (sym (ended_lines-ended seen bytes unbroken));
      keeps = none ∙ ap (take most_held) (sym (rest-ended seen bytes unbroken));
    }

pub takes_all : (old new : Parser) (bytes : List ℕ) →
    ((seen : List ℕ) (given : List Line) → HasHeld old seen given → HasHeld new (seen ++ bytes) given) →
    (seen : List ℕ) (given : List Line) → HasHeld old seen given → HasHeld new (seen ++ take (length bytes) bytes) given
takes_all old new bytes parses seen given held =
    subst (λ (l : List ℕ). HasHeld new (seen ++ l) given) (sym (take_all (length bytes) bytes (omega arith))) (parses seen given held)

pub takes_to_end : {old new : Parser} {bytes : List ℕ} (end : ℕ) (line : Line) → EndsLine bytes end →
    ((seen : List ℕ) (given : List Line) → HasHeld old seen given → HasHeld new (seen ++ (take end bytes ++ 10 ∷ [])) (given ++ line ∷ [])) →
    (seen : List ℕ) (given : List Line) → HasHeld old seen given → HasHeld new (seen ++ take (end + 1) bytes) (given ++ line ∷ [])
takes_to_end {old = old} {new = new} {bytes = bytes} end line ends parses seen given held =
    subst (λ (l : List ℕ). HasHeld new (seen ++ l) (given ++ line ∷ [])) (sym (line_taken bytes end ends)) (parses seen given held)

-- nothing is held, so no line is left
pub last_none : (parser : Parser) → (length parser.held == 0) ≡ true → (seen : List ℕ) (given : List Line) → HasHeld parser seen given → AreLines seen given
last_none parser empty seen given held =
    let none : (cut seen).rest ≡ [] = none_held most_held parser.held (cut seen).rest (omega arith) held.keeps (nothing_held parser.held parser.held refl empty) in
    held.gives ∙ ap (map as_line) (sym (lines-whole seen none))

-- bytes are held, so there is a last line
last_there : (held rest : List ℕ) → held ≡ take most_held rest → (length held == 0) ≡ false → last_line rest ≡ without_cr rest ∷ []
last_there held [] is some = absurd (let none : true ≡ false = sym (ap (λ (l : List ℕ). length l == 0) is) ∙ some in cc)
last_there held (b ∷ rest) is some = refl

pub last_some : (parser : Parser) (line : Line) → (length parser.held == 0) ≡ false →
    ((whole : List ℕ) → parser.held ≡ take most_held whole → line ≡ as_line (without_cr whole)) →
    (seen : List ℕ) (given : List Line) → HasHeld parser seen given → AreLines seen (given ++ line ∷ [])
last_some parser line some is seen given held =
    let rest : List ℕ = (cut seen).rest in
    ap (λ (l : Line). given ++ l ∷ []) (is rest held.keeps) ∙ ap (λ (ls : List Line). ls ++ as_line (without_cr rest) ∷ []) held.gives
    ∙ sym (map-append as_line (ended_lines seen) (without_cr rest ∷ []))
    ∙ ap (λ (ls : List (List ℕ)). map as_line (ended_lines seen ++ ls)) (sym (last_there parser.held rest held.keeps some))
