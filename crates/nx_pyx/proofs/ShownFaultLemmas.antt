-- A stream with more bytes behind it, and the fault that it shows.
use Rattle.std.proofs.Common.{◌≡◌, ℕ, ◌+◌, Bool, true, false, List, [], ◌∷◌, ◌++◌, length, Option, None, Some, map, refl, ap, sym, ◌∙◌, inl, inr, ◌⊎◌, ⊎_elim, append_assoc, append-nil}
use Rattle.std.specs.Prelude.{◌==◌, if◌then◌else◌}
use Rattle.std.specs.Option.{option_map_or, option_map}
use Rattle.std.proofs.lemmas.Bool.{cases_Bool, or_parts, or_from}
use Rattle.std.proofs.lemmas.List.{map-append}
use Rattle.nx_pyx.specs.declared.error.PyxFault.{PyxFault}
use Rattle.nx_pyx.specs.declared.error.PyxError.{PyxError}
use Rattle.nx_pyx.specs.Lines.{Pieces, prepend_to, prepend, cut, without_cr, last_line, ended_lines, lines, has_lf}
use Rattle.nx_pyx.specs.Fault.{line_fault, fault_at, first_fault, early_fault, shown_fault, fault_at_end, fault_of}
use Rattle.nx_pyx.proofs.Early.{early_stays}

-- these pieces before those of a stream
abbrev pub onto : List (List ℕ) → Pieces → Pieces
onto ended p = record { ended = ended ++ p.ended; rest = p.rest }

-- the lines of pieces
abbrev lines_of : Pieces → List (List ℕ)
lines_of p = map without_cr p.ended ++ last_line p.rest

-- these pieces
abbrev pieces_of : List (List ℕ) → List ℕ → Pieces
pieces_of ended rest = record { ended = ended; rest = rest }

-- an LF in front
at_break : (x : ℕ) (bytes : List ℕ) → (x == 10) ≡ true → cut (x ∷ bytes) ≡ onto ([] ∷ []) (cut bytes)
at_break x bytes is = ap (λ (b : Bool). if b then onto ([] ∷ []) (cut bytes) else prepend x (cut bytes)) is

-- another byte in front
no_break : (x : ℕ) (bytes : List ℕ) → (x == 10) ≡ false → cut (x ∷ bytes) ≡ prepend x (cut bytes)
no_break x bytes is = ap (λ (b : Bool). if b then onto ([] ∷ []) (cut bytes) else prepend x (cut bytes)) is

-- one byte more in front of pieces that are cut further
prepend-onto : (x : ℕ) (ended : List (List ℕ)) (rest more : List ℕ) → (x == 10) ≡ false
    → prepend x (onto ended (cut (rest ++ more))) ≡ onto (prepend_to x ended rest).ended (cut ((prepend_to x ended rest).rest ++ more))
prepend-onto x [] rest more is = sym (no_break x (rest ++ more) is)
prepend-onto x (piece ∷ pieces) rest more is = refl

-- a longer stream has the pieces of its prefix, and then those of what the prefix leaves with the bytes behind it
pub cut-append : (bytes more : List ℕ) → cut (bytes ++ more) ≡ onto (cut bytes).ended (cut ((cut bytes).rest ++ more))
cut-append [] more = refl
cut-append (x ∷ bytes) more =
    ⊎_elim
    (λ (is : (x == 10) ≡ true).
    at_break x (bytes ++ more) is ∙ ap (onto ([] ∷ [])) (cut-append bytes more)
    ∙ ap (λ (p : Pieces). onto p.ended (cut (p.rest ++ more))) (sym (at_break x bytes is)))
    (λ (is : (x == 10) ≡ false).
    no_break x (bytes ++ more) is ∙ ap (prepend x) (cut-append bytes more)
    ∙ prepend-onto x (cut bytes).ended (cut bytes).rest more is
    ∙ ap (λ (p : Pieces). onto p.ended (cut (p.rest ++ more))) (sym (no_break x bytes is)))
    (cases_Bool (x == 10))

-- a longer stream has the ended lines of its prefix first
pub ended_lines-append : (bytes more : List ℕ) → ended_lines (bytes ++ more) ≡ ended_lines bytes ++ ended_lines ((cut bytes).rest ++ more)
ended_lines-append bytes more =
    ap (λ (p : Pieces). map without_cr p.ended) (cut-append bytes more)
    ∙ map-append without_cr (cut bytes).ended (cut ((cut bytes).rest ++ more)).ended

-- the same of all lines
pub lines-append : (bytes more : List ℕ) → lines (bytes ++ more) ≡ ended_lines bytes ++ lines ((cut bytes).rest ++ more)
lines-append bytes more =
    ap (λ (p : Pieces). map without_cr p.ended ++ last_line p.rest) (cut-append bytes more)
    ∙ ap (λ (ls : List (List ℕ)). ls ++ last_line (cut ((cut bytes).rest ++ more)).rest) (map-append without_cr (cut bytes).ended (cut ((cut bytes).rest ++ more)).ended)
    ∙ append_assoc (ended_lines bytes) (ended_lines ((cut bytes).rest ++ more)) (last_line (cut ((cut bytes).rest ++ more)).rest)

-- a fault of the first of two lists or else one of the second
either_fault : (n : ℕ) (o : Option PyxFault) (d x : Option PyxError)
    → option_map_or (λ fault. Some (fault_at n fault)) o (option_map_or (λ e. Some e) d x) ≡ option_map_or (λ e. Some e) (option_map_or (λ fault. Some (fault_at n fault)) o d) x
either_fault n None d x = refl
either_fault n (Some fault) d x = refl

-- the first fault of lines in two parts
pub first_fault-append : (before ls more : List (List ℕ)) → first_fault before (ls ++ more) ≡ option_map_or (λ e. Some e) (first_fault before ls) (first_fault (before ++ ls) more)
first_fault-append before [] more = ap (λ (b : List (List ℕ)). first_fault b more) (sym (append-nil before))
first_fault-append before (line ∷ ls) more =
    ap (option_map_or (λ fault. Some (fault_at (length before + 1) fault)) (line_fault before line))
    (first_fault-append (before ++ line ∷ []) ls more
    ∙ ap (λ (b : List (List ℕ)). option_map_or (λ e. Some e) (first_fault (before ++ line ∷ []) ls) (first_fault b more)) (append_assoc before (line ∷ []) ls))
    ∙ either_fault (length before + 1) (line_fault before line) (first_fault (before ++ line ∷ []) ls) (first_fault (before ++ line ∷ ls) more)

-- a fault of the first lines is that of all
pub first_fault_kept : (before ls more : List (List ℕ)) (e : PyxError) → first_fault before ls ≡ Some e → first_fault before (ls ++ more) ≡ Some e
first_fault_kept before ls more e h =
    first_fault-append before ls more ∙ ap (λ (o : Option PyxError). option_map_or (λ x. Some x) o (first_fault (before ++ ls) more)) h

-- behind lines without a fault comes that of the others
pub first_fault_behind : (before ls more : List (List ℕ)) → first_fault before ls ≡ None → first_fault before (ls ++ more) ≡ first_fault (before ++ ls) more
first_fault_behind before ls more h =
    first_fault-append before ls more ∙ ap (λ (o : Option PyxError). option_map_or (λ x. Some x) o (first_fault (before ++ ls) more)) h

-- bytes without an LF in front of the first piece
abbrev pub begun_by : List ℕ → List (List ℕ) → List ℕ → Pieces
begun_by prefix [] rest = record { ended = []; rest = prefix ++ rest }
begun_by prefix (piece ∷ pieces) rest = record { ended = (prefix ++ piece) ∷ pieces; rest = rest }

-- the same, in front of pieces
abbrev pub begun : List ℕ → Pieces → Pieces
begun prefix p = begun_by prefix p.ended p.rest

-- nothing in front
begun_none : (ended : List (List ℕ)) (rest : List ℕ) → pieces_of ended rest ≡ begun [] (pieces_of ended rest)
begun_none [] rest = refl
begun_none (piece ∷ pieces) rest = refl

-- one byte more in front
prepend-begun : (x : ℕ) (prefix : List ℕ) (ended : List (List ℕ)) (rest : List ℕ) → prepend x (begun prefix (pieces_of ended rest)) ≡ begun (x ∷ prefix) (pieces_of ended rest)
prepend-begun x prefix [] rest = refl
prepend-begun x prefix (piece ∷ pieces) rest = refl

-- bytes without an LF stand before the first piece of the others
pub cut-begun : (prefix more : List ℕ) → has_lf prefix ≡ false → cut (prefix ++ more) ≡ begun prefix (cut more)
cut-begun [] more h = begun_none (cut more).ended (cut more).rest
cut-begun (x ∷ prefix) more h =
    let p = or_parts (x == 10) (has_lf prefix) h in
    no_break x (prefix ++ more) p.0 ∙ ap (prepend x) (cut-begun prefix more p.1) ∙ prepend-begun x prefix (cut more).ended (cut more).rest

-- one byte more in front of pieces brings no LF, where it is none
unbroken : (x : ℕ) (ended : List (List ℕ)) (rest : List ℕ) → (x == 10) ≡ false → has_lf rest ≡ false → has_lf (prepend_to x ended rest).rest ≡ false
unbroken x [] rest is h = or_from (x == 10) (has_lf rest) is h
unbroken x (piece ∷ pieces) rest is h = h

-- what stands behind the last LF has none
pub cut-rest : (bytes : List ℕ) → has_lf (cut bytes).rest ≡ false
cut-rest [] = refl
cut-rest (x ∷ bytes) =
    ⊎_elim
    (λ (is : (x == 10) ≡ true). ap (λ (p : Pieces). has_lf p.rest) (at_break x bytes is) ∙ cut-rest bytes)
    (λ (is : (x == 10) ≡ false).
    ap (λ (p : Pieces). has_lf p.rest) (no_break x bytes is) ∙ unbroken x (cut bytes).ended (cut bytes).rest is (cut-rest bytes))
    (cases_Bool (x == 10))

-- the fault that these pieces show behind lines without a fault
abbrev shown_behind : List (List ℕ) → Pieces → Option PyxError
shown_behind before p =
    option_map_or (λ e. Some e) (first_fault before (map without_cr p.ended)) (option_map (fault_at (length (before ++ map without_cr p.ended) + 1)) (early_fault p.rest))

-- pieces without a fault in front
shown_onto : (ended : List (List ℕ)) (p : Pieces) → first_fault [] (map without_cr ended) ≡ None → shown_behind [] (onto ended p) ≡ shown_behind (map without_cr ended) p
shown_onto ended p h =
    ap (λ (ls : List (List ℕ)). option_map_or (λ e. Some e) (first_fault [] ls) (option_map (fault_at (length ls + 1)) (early_fault p.rest))) (map-append without_cr ended p.ended)
    ∙ ap (λ (o : Option PyxError). option_map_or (λ e. Some e) o (option_map (fault_at (length (map without_cr ended ++ map without_cr p.ended) + 1)) (early_fault p.rest)))
    (first_fault_behind [] (map without_cr ended) (map without_cr p.ended) h)

-- the early fault of bytes without an LF is shown, whatever comes behind them
early_shows : (before : List (List ℕ)) (prefix : List ℕ) (ended : List (List ℕ)) (rest : List ℕ) (fault : PyxFault) → early_fault prefix ≡ Some fault
    → shown_behind before (begun prefix (pieces_of ended rest)) ≡ Some (fault_at (length before + 1) fault)
early_shows before prefix [] rest fault h =
    ap (λ (o : Option PyxFault). option_map (fault_at (length (before ++ []) + 1)) o) (early_stays prefix rest fault h).0
    ∙ ap (λ (ls : List (List ℕ)). Some (fault_at (length ls + 1) fault)) (append-nil before)
early_shows before prefix (piece ∷ pieces) rest fault h =
    ap (λ (o : Option PyxFault).
    option_map_or (λ e. Some e)
    (option_map_or (λ f. Some (fault_at (length before + 1) f)) o (first_fault (before ++ without_cr (prefix ++ piece) ∷ []) (map without_cr pieces)))
    (option_map (fault_at (length (before ++ (without_cr (prefix ++ piece) ∷ map without_cr pieces)) + 1)) (early_fault rest)))
    ((early_stays prefix piece fault h).1 before)

-- the last line is there
last_begun : (prefix rest : List ℕ) (fault : PyxFault) → early_fault prefix ≡ Some fault → last_line (prefix ++ rest) ≡ without_cr (prefix ++ rest) ∷ []
last_begun [] rest fault h = absurd (cc)
last_begun (b ∷ prefix) rest fault h = refl

-- the fault of the line that hasn't ended is that of the first line behind
early_comes : (before : List (List ℕ)) (prefix : List ℕ) (ended : List (List ℕ)) (rest : List ℕ) (fault : PyxFault) → early_fault prefix ≡ Some fault
    → first_fault before (lines_of (begun prefix (pieces_of ended rest))) ≡ Some (fault_at (length before + 1) fault)
early_comes before prefix [] rest fault h =
    ap (first_fault before) (last_begun prefix rest fault h)
    ∙ ap (λ (o : Option PyxFault). option_map_or (λ f. Some (fault_at (length before + 1) f)) o None) ((early_stays prefix rest fault h).1 before)
early_comes before prefix (piece ∷ pieces) rest fault h =
    ap (λ (o : Option PyxFault). option_map_or (λ f. Some (fault_at (length before + 1) f)) o (first_fault (before ++ without_cr (prefix ++ piece) ∷ []) (map without_cr pieces ++ last_line rest)))
    ((early_stays prefix piece fault h).1 before)

-- a fault that is shown is that of an ended line, or else of the line that hasn't ended
shown_parts : (o : Option PyxError) (n : ℕ) (p : Option PyxFault) (e : PyxError) → option_map_or (λ x. Some x) o (option_map (fault_at n) p) ≡ Some e
    → (o ≡ Some e) ⊎ ((o ≡ None) × ((fault : PyxFault) × (p ≡ Some fault) × (e ≡ fault_at n fault)))
shown_parts None n None e h = absurd (cc)
shown_parts None n (Some fault) e h = inr (refl, (fault, refl, cc))
shown_parts (Some x) n p e h = inl h

-- a fault that is shown stays
pub fault_shows : (bytes more : List ℕ) (e : PyxError) → shown_fault bytes ≡ Some e → shown_fault (bytes ++ more) ≡ Some e
fault_shows bytes more e h =
    ⊎_elim
    (λ (k : first_fault [] (ended_lines bytes) ≡ Some e).
    ap (λ (o : Option PyxError). option_map_or (λ x. Some x) o (option_map (fault_at (length (ended_lines (bytes ++ more)) + 1)) (early_fault (cut (bytes ++ more)).rest)))
    (ap (first_fault []) (ended_lines-append bytes more) ∙ first_fault_kept [] (ended_lines bytes) (ended_lines ((cut bytes).rest ++ more)) e k))
    (λ (k : (first_fault [] (ended_lines bytes) ≡ None) × ((fault : PyxFault) × (early_fault (cut bytes).rest ≡ Some fault) × (e ≡ fault_at (length (ended_lines bytes) + 1) fault))).
    ap (shown_behind []) (cut-append bytes more)
    ∙ shown_onto (cut bytes).ended (cut ((cut bytes).rest ++ more)) k.0
    ∙ ap (λ (p : Pieces). shown_behind (ended_lines bytes) p) (cut-begun (cut bytes).rest more (cut-rest bytes))
    ∙ early_shows (ended_lines bytes) (cut bytes).rest (cut more).ended (cut more).rest k.1.0 k.1.1
    ∙ ap (λ (x : PyxError). Some x) (sym k.1.2))
    (shown_parts (first_fault [] (ended_lines bytes)) (length (ended_lines bytes) + 1) (early_fault (cut bytes).rest) e h)

-- a fault that is shown is that of the whole stream
pub fault_shown : (bytes more : List ℕ) (e : PyxError) → shown_fault bytes ≡ Some e → fault_of (bytes ++ more) ≡ Some e
fault_shown bytes more e h =
    ap (λ (o : Option PyxError). option_map_or (λ x. Some x) o (fault_at_end (lines (bytes ++ more))))
    (ap (first_fault []) (lines-append bytes more)
    ∙ ⊎_elim
    (λ (k : first_fault [] (ended_lines bytes) ≡ Some e). first_fault_kept [] (ended_lines bytes) (lines ((cut bytes).rest ++ more)) e k)
    (λ (k : (first_fault [] (ended_lines bytes) ≡ None) × ((fault : PyxFault) × (early_fault (cut bytes).rest ≡ Some fault) × (e ≡ fault_at (length (ended_lines bytes) + 1) fault))).
    first_fault_behind [] (ended_lines bytes) (lines ((cut bytes).rest ++ more)) k.0
    ∙ ap (λ (p : Pieces). first_fault (ended_lines bytes) (lines_of p)) (cut-begun (cut bytes).rest more (cut-rest bytes))
    ∙ early_comes (ended_lines bytes) (cut bytes).rest (cut more).ended (cut more).rest k.1.0 k.1.1
    ∙ ap (λ (x : PyxError). Some x) (sym k.1.2))
    (shown_parts (first_fault [] (ended_lines bytes)) (length (ended_lines bytes) + 1) (early_fault (cut bytes).rest) e h))
