-- The bytes before and behind the first line that is a dot.
use Rattle.std.proofs.Common.{◌≡◌, ℕ, Bool, true, false, List, [], ◌∷◌, ◌++◌, map, Some, inl, inr, refl, sym, ap, ◌∙◌, subst, append_assoc}
use Rattle.std.specs.Prelude.{◌==◌, if◌then◌else◌}
use Rattle.std.proofs.lemmas.Bool.{or_parts, eqb-true, false_from_ne_true}
use Rattle.nx_pyx.specs.declared.error.PyxError.{PyxError}
use Rattle.nx_pyx.specs.Lines.{Pieces, prepend_to, prepend, cut, without_cr, has_lf}
use Rattle.nx_pyx.specs.Fault.{fault_of}
use Rattle.nx_pyx.proofs.ShownFaultLemmas.{onto, begun, cut-append, cut-rest, cut-begun, fault_shown}
use Rattle.nx_pyx.proofs.StreamLemmas.{cut-held, cut-ended}
use Rattle.nx_script.specs.Commands.{is_dot, has_dot}
use Rattle.nx_script.specs.BeforeDot.{joined_lines, before_in, after_in, before_dot, after_dot, shown_before_dot}
use Rattle.nx_script.proofs.Prefixes.{dot_before}

-- What is cut is joined again.

joined_lines-prepend : (b : ℕ) (pieces : List (List ℕ)) (rest : List ℕ) → joined_lines (prepend_to b pieces rest).ended (prepend_to b pieces rest).rest ≡ b ∷ joined_lines pieces rest
joined_lines-prepend b [] rest = refl
joined_lines-prepend b (piece ∷ pieces) rest = refl

joined_more : (b : ℕ) (s : List ℕ) (p : Pieces) (t : Bool) → (b == 10) ≡ t → joined_lines p.ended p.rest ≡ s →
    joined_lines (if b == 10 then (let q : Pieces = record { ended = [] ∷ p.ended; rest = p.rest } in q) else prepend b p).ended
    (if b == 10 then (let q : Pieces = record { ended = [] ∷ p.ended; rest = p.rest } in q) else prepend b p).rest ≡ b ∷ s
joined_more b s p true is whole =
    ap (λ (t : Bool). joined_lines (if t then (let q : Pieces = record { ended = [] ∷ p.ended; rest = p.rest } in q) else prepend b p).ended
    (if t then (let q : Pieces = record { ended = [] ∷ p.ended; rest = p.rest } in q) else prepend b p).rest) is
    ∙ ap (λ (l : List ℕ). 10 ∷ l) whole ∙ ap (λ (x : ℕ). x ∷ s) (sym (eqb-true b 10 is))
joined_more b s p false is whole =
    ap (λ (t : Bool). joined_lines (if t then (let q : Pieces = record { ended = [] ∷ p.ended; rest = p.rest } in q) else prepend b p).ended
    (if t then (let q : Pieces = record { ended = [] ∷ p.ended; rest = p.rest } in q) else prepend b p).rest) is
    ∙ joined_lines-prepend b p.ended p.rest ∙ ap (λ (l : List ℕ). b ∷ l) whole

pub joined_lines-cut : (s : List ℕ) → joined_lines (cut s).ended (cut s).rest ≡ s
joined_lines-cut [] = refl
joined_lines-cut (b ∷ s) = joined_more b s (cut s) (b == 10) refl (joined_lines-cut s)

-- the whole lines of a stream are its beginning before the last line
pub joined_lines-prefix : (prefix s : List ℕ) → s ≡ prefix ++ (cut s).rest → (cut prefix).rest ≡ [] → joined_lines (cut s).ended [] ≡ prefix
joined_lines-prefix prefix s parts ended =
    ap (λ (l : List ℕ). joined_lines (cut l).ended []) parts
    ∙ ap (λ (p : Pieces). joined_lines p.ended []) (cut-held prefix (cut s).rest (cut-rest s))
    ∙ ap (joined_lines (cut prefix).ended) (sym ended)
    ∙ joined_lines-cut prefix

-- Where no line is a dot, or which is the first.

pub before_in-none : (pieces : List (List ℕ)) (rest : List ℕ) → has_dot (map without_cr pieces) ≡ false → is_dot (without_cr rest) ≡ false → before_in pieces rest ≡ joined_lines pieces rest
before_in-none [] rest none other = ap (λ (t : Bool). if t then [] else rest) other
before_in-none (piece ∷ pieces) rest none other =
    let p = or_parts (is_dot (without_cr piece)) (has_dot (map without_cr pieces)) none in
    ap (λ (t : Bool). if t then [] else (piece ++ 10 ∷ before_in pieces rest)) p.0 ∙ ap (λ (l : List ℕ). piece ++ 10 ∷ l) (before_in-none pieces rest p.1 other)

pub before_in-last : (pieces : List (List ℕ)) (rest : List ℕ) → has_dot (map without_cr pieces) ≡ false → is_dot (without_cr rest) ≡ true → before_in pieces rest ≡ joined_lines pieces []
before_in-last [] rest none dot = ap (λ (t : Bool). if t then [] else rest) dot
before_in-last (piece ∷ pieces) rest none dot =
    let p = or_parts (is_dot (without_cr piece)) (has_dot (map without_cr pieces)) none in
    ap (λ (t : Bool). if t then [] else (piece ++ 10 ∷ before_in pieces rest)) p.0 ∙ ap (λ (l : List ℕ). piece ++ 10 ∷ l) (before_in-last pieces rest p.1 dot)

before_in-dot : (pieces others : List (List ℕ)) (dot rest : List ℕ) → has_dot (map without_cr pieces) ≡ false → is_dot (without_cr dot) ≡ true →
    before_in (pieces ++ dot ∷ others) rest ≡ joined_lines pieces []
before_in-dot [] others dot rest none is = ap (λ (t : Bool). if t then [] else (dot ++ 10 ∷ before_in others rest)) is
before_in-dot (piece ∷ pieces) others dot rest none is =
    let p = or_parts (is_dot (without_cr piece)) (has_dot (map without_cr pieces)) none in
    ap (λ (t : Bool). if t then [] else (piece ++ 10 ∷ before_in (pieces ++ dot ∷ others) rest)) p.0 ∙ ap (λ (l : List ℕ). piece ++ 10 ∷ l) (before_in-dot pieces others dot rest p.1 is)

after_in-dot : (pieces others : List (List ℕ)) (dot rest : List ℕ) → has_dot (map without_cr pieces) ≡ false → is_dot (without_cr dot) ≡ true →
    after_in (pieces ++ dot ∷ others) rest ≡ joined_lines others rest
after_in-dot [] others dot rest none is = ap (λ (t : Bool). if t then joined_lines others rest else after_in others rest) is
after_in-dot (piece ∷ pieces) others dot rest none is =
    let p = or_parts (is_dot (without_cr piece)) (has_dot (map without_cr pieces)) none in
    ap (λ (t : Bool). if t then joined_lines (pieces ++ dot ∷ others) rest else after_in (pieces ++ dot ∷ others) rest) p.0 ∙ after_in-dot pieces others dot rest p.1 is

-- nothing stands behind a dot that hasn't come
pub after_in-none : (pieces : List (List ℕ)) (rest : List ℕ) → has_dot (map without_cr pieces) ≡ false → after_in pieces rest ≡ []
after_in-none [] rest none = refl
after_in-none (piece ∷ pieces) rest none =
    let p = or_parts (is_dot (without_cr piece)) (has_dot (map without_cr pieces)) none in
    ap (λ (t : Bool). if t then joined_lines pieces rest else after_in pieces rest) p.0 ∙ after_in-none pieces rest p.1

-- a stream with one line more, and others behind it
cut-more : (s bytes more : List ℕ) → has_lf bytes ≡ false →
    cut ((s ++ (bytes ++ 10 ∷ [])) ++ more) ≡ (let p : Pieces = record { ended = (cut s).ended ++ ((cut s).rest ++ bytes) ∷ (cut more).ended; rest = (cut more).rest } in p)
cut-more s bytes more unbroken =
    cut-append (s ++ (bytes ++ 10 ∷ [])) more
    ∙ ap (λ (p : Pieces). onto p.ended (cut (p.rest ++ more))) (cut-ended s bytes unbroken)
    ∙ ap (λ (ls : List (List ℕ)). let p : Pieces = record { ended = ls; rest = (cut more).rest } in p) (append_assoc (cut s).ended (((cut s).rest ++ bytes) ∷ []) (cut more).ended)

pub before_dot-ended : (s bytes more : List ℕ) → has_lf bytes ≡ false → has_dot (map without_cr (cut s).ended) ≡ false → is_dot (without_cr ((cut s).rest ++ bytes)) ≡ true →
    before_dot ((s ++ (bytes ++ 10 ∷ [])) ++ more) ≡ joined_lines (cut s).ended []
before_dot-ended s bytes more unbroken none dot =
    ap (λ (p : Pieces). before_in p.ended p.rest) (cut-more s bytes more unbroken) ∙ before_in-dot (cut s).ended (cut more).ended ((cut s).rest ++ bytes) (cut more).rest none dot

pub after_dot-ended : (s bytes more : List ℕ) → has_lf bytes ≡ false → has_dot (map without_cr (cut s).ended) ≡ false → is_dot (without_cr ((cut s).rest ++ bytes)) ≡ true →
    after_dot ((s ++ (bytes ++ 10 ∷ [])) ++ more) ≡ more
after_dot-ended s bytes more unbroken none dot =
    ap (λ (p : Pieces). after_in p.ended p.rest) (cut-more s bytes more unbroken)
    ∙ after_in-dot (cut s).ended (cut more).ended ((cut s).rest ++ bytes) (cut more).rest none dot ∙ joined_lines-cut more

-- As bytes come, what stands before the dot only grows.

-- These bytes begin with those.
abbrev Grows : List ℕ → List ℕ → Type 0
Grows whole prefix = (z : List ℕ) × (whole ≡ prefix ++ z)

grows_by : (t : Bool) (piece whole prefix : List ℕ) → Grows whole prefix → Grows (if t then [] else (piece ++ 10 ∷ whole)) (if t then [] else (piece ++ 10 ∷ prefix))
grows_by true piece whole prefix grows = ([], refl)
grows_by false piece whole prefix (z, is) = (z, ap (λ (l : List ℕ). piece ++ 10 ∷ l) is ∙ sym (append_assoc piece (10 ∷ prefix) z))

grows_in : (pieces others : List (List ℕ)) (rest last : List ℕ) → Grows (before_in others last) (before_in [] rest) → Grows (before_in (pieces ++ others) last) (before_in pieces rest)
grows_in [] others rest last grows = grows
grows_in (piece ∷ pieces) others rest last grows =
    grows_by (is_dot (without_cr piece)) piece (before_in (pieces ++ others) last) (before_in pieces rest) (grows_in pieces others rest last grows)

-- a line that can't be the dot goes on
goes_on : (rest more : List ℕ) → is_dot (without_cr (rest ++ more)) ≡ false → Grows (before_in [] (rest ++ more)) rest
goes_on rest more other = (more, ap (λ (t : Bool). if t then [] else (rest ++ more)) other)

ends_then : (rest piece : List ℕ) (pieces : List (List ℕ)) (last : List ℕ) → is_dot (without_cr (rest ++ piece)) ≡ false → Grows (before_in ((rest ++ piece) ∷ pieces) last) rest
ends_then rest piece pieces last other = (
  piece ++ 10 ∷ before_in pieces last,
  ap (λ (t : Bool). if t then [] else ((rest ++ piece) ++ 10 ∷ before_in pieces last)) other ∙ append_assoc rest piece (10 ∷ before_in pieces last),
)

grows_from : (rest : List ℕ) (p : Pieces) → ((more : List ℕ) → is_dot (without_cr (rest ++ more)) ≡ false) → Grows (before_in (begun rest p).ended (begun rest p).rest) rest
grows_from rest p others = by_pieces p.ended
  where
    by_pieces : (pieces : List (List ℕ)) →
        Grows (before_in (begun rest (record { ended = pieces; rest = p.rest })).ended (begun rest (record { ended = pieces; rest = p.rest })).rest) rest
    by_pieces [] = goes_on rest p.rest (others p.rest)
    by_pieces (piece ∷ pieces) = ends_then rest piece pieces p.rest (others piece)

grows_last : (rest more : List ℕ) → has_lf rest ≡ false → Grows (before_in (cut (rest ++ more)).ended (cut (rest ++ more)).rest) (before_in [] rest)
grows_last [] more unbroken = (before_dot more, refl)
grows_last (b ∷ rest) more unbroken = by_dot (is_dot (without_cr (b ∷ rest))) refl
  where
    others : is_dot (without_cr (b ∷ rest)) ≡ false → (l : List ℕ) → is_dot (without_cr ((b ∷ rest) ++ l)) ≡ false
    others other l =
        false_from_ne_true (is_dot (without_cr ((b ∷ rest) ++ l)))
        (λ is. elim (dot_before (b ∷ rest) l is) [
          | inl none ↦ cc
          | inr dot ↦ let no_dot : true ≡ false = sym dot ∙ other in absurd (cc)
        ])

    by_dot : (t : Bool) → is_dot (without_cr (b ∷ rest)) ≡ t → Grows (before_dot ((b ∷ rest) ++ more)) (before_in [] (b ∷ rest))
    by_dot true is = (before_dot ((b ∷ rest) ++ more), ap (λ (t : Bool). (if t then [] else (b ∷ rest)) ++ before_dot ((b ∷ rest) ++ more)) (sym is))
    by_dot false other =
        subst (Grows (before_dot ((b ∷ rest) ++ more))) (ap (λ (t : Bool). if t then [] else (b ∷ rest)) (sym other))
        (subst (λ (p : Pieces). Grows (before_in p.ended p.rest) (b ∷ rest)) (sym (cut-begun (b ∷ rest) more unbroken)) (grows_from (b ∷ rest) (cut more) (others other)))

pub before_dot-grows : (s more : List ℕ) → (z : List ℕ) × (before_dot (s ++ more) ≡ before_dot s ++ z)
before_dot-grows s more =
    subst (λ (p : Pieces). Grows (before_in p.ended p.rest) (before_dot s)) (sym (cut-append s more))
    (grows_in (cut s).ended (cut ((cut s).rest ++ more)).ended (cut s).rest (cut ((cut s).rest ++ more)).rest (grows_last (cut s).rest more (cut-rest s)))

-- a fault that is shown before the dot is that of all lines before it
pub shown_before : (taken more : List ℕ) (error : PyxError) → shown_before_dot taken ≡ Some error → fault_of (before_dot (taken ++ more)) ≡ Some error
shown_before taken more error shown =
    let (z, is) = before_dot-grows taken more in ap fault_of is ∙ fault_shown (before_dot taken) z error shown
