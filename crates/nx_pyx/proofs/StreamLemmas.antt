-- What a reader holds of a stream, and what it has taken of it.
use Rattle.std.proofs.Common.{if◌then◌else◌, Result, Ok, Err, IfOk, IfErr, MatchResult, take_all, ◌≡◌, ℕ, ◌+◌, ◌-◌, ◌==◌, ◌||◌, Bool, true, false, List, [], ◌∷◌, ◌++◌, length, take, drop, Option, None, Some, refl, ap, sym, ◌∙◌, subst, arith, append_assoc, append-nil, map}
use Rattle.std.specs.Option.{option_map_or, option_map}
use Rattle.std.proofs.lemmas.Bool.{eqb-true}
use Rattle.std.proofs.lemmas.List.{length-drop, map-append}
use Rattle.nx_pyx.specs.declared.error.ReadError.{ReadError}
use Rattle.nx_pyx.specs.declared.error.ReadError.TheVariants.{Pyx, Memory}
use Rattle.nx_pyx.specs.declared.error.PyxFault.{PyxFault}
use Rattle.nx_pyx.specs.declared.builder.Builder.{Builder}
use Rattle.nx_pyx.specs.declared.reader.Reader.{Reader}
use Rattle.nx_pyx.specs.Fault.{first_fault, shown_fault, early_fault, fault_at, fault_at_end, fault_of}
use Rattle.nx_pyx.specs.Builder.{HasBuilt, Fails}
use Rattle.nx_pyx.specs.Reader.{HasRead, MayGrowBy}
use Rattle.nx_pyx.specs.Lines.{Pieces, prepend, cut, without_cr, last_line, ended_lines, lines, has_lf, EndsLine}
use Rattle.nx_pyx.proofs.ShownFaultLemmas.{onto, cut-append, cut-rest, first_fault-append, fault_shows}
use Rattle.nx_pyx.proofs.DocumentLemmas.{no_fault}
use Rattle.nx_pyx.proofs.Reading.{one_reading}
use Rattle.nx_pyx.specs.Reading.{Reads}
use Rattle.nx_tree.specs.Forest.{OrderedTree}
use Rattle.nx_pyx.specs.declared.error.PyxError.{PyxError}

-- a byte and others without an LF
pub no_lf : (x : ℕ) (xs : List ℕ) → has_lf (x ∷ xs) ≡ false → ((x == 10) ≡ false) × (has_lf xs ≡ false)
no_lf x xs h = both (x == 10) (has_lf xs) h
  where
    both : (a b : Bool) → (a || b) ≡ false → (a ≡ false) × (b ≡ false)
    both true b h = cc
    both false b h = (refl, h)

pub has_lf-append : (xs ys : List ℕ) → has_lf xs ≡ false → has_lf ys ≡ false → has_lf (xs ++ ys) ≡ false
has_lf-append [] ys h k = k
has_lf-append (x ∷ xs) ys h k =
    let p = no_lf x xs h in ap (λ t. t || has_lf (xs ++ ys)) p.0 ∙ has_lf-append xs ys p.1 k

-- bytes without an LF are no whole piece
pub cut-none : (xs : List ℕ) → has_lf xs ≡ false → cut xs ≡ record { ended = []; rest = xs }
cut-none [] h = refl
cut-none (x ∷ xs) h =
    let p = no_lf x xs h in
    ap (λ (t : Bool). if t then (let q : Pieces = record { ended = [] ∷ (cut xs).ended; rest = (cut xs).rest } in q) else prepend x (cut xs)) p.0
    ∙ ap (prepend x) (cut-none xs p.1)

-- bytes without an LF, and one behind them
pub cut-line : (xs : List ℕ) → has_lf xs ≡ false → cut (xs ++ 10 ∷ []) ≡ record { ended = xs ∷ []; rest = [] }
cut-line xs h =
    cut-append xs (10 ∷ []) ∙ ap (λ (p : Pieces). onto p.ended (cut (p.rest ++ 10 ∷ []))) (cut-none xs h) ∙ alone xs h
  where
    alone : (ys : List ℕ) → has_lf ys ≡ false → onto [] (cut (ys ++ 10 ∷ [])) ≡ record { ended = ys ∷ []; rest = [] }
    alone [] h = refl
    alone (y ∷ ys) h =
        let p = no_lf y ys h in
        ap (λ (t : Bool). if t then (let q : Pieces = record { ended = [] ∷ (cut (ys ++ 10 ∷ [])).ended; rest = (cut (ys ++ 10 ∷ [])).rest } in q) else prepend y (cut (ys ++ 10 ∷ []))) p.0
        ∙ ap (prepend y) (alone ys p.1)

-- a stream that goes on with bytes without an LF
pub cut-held : (s bytes : List ℕ) → has_lf bytes ≡ false → cut (s ++ bytes) ≡ record { ended = (cut s).ended; rest = (cut s).rest ++ bytes }
cut-held s bytes h =
    cut-append s bytes ∙ ap (onto (cut s).ended) (cut-none ((cut s).rest ++ bytes) (has_lf-append (cut s).rest bytes (cut-rest s) h))
    ∙ ap (λ (e : List (List ℕ)). let q : Pieces = record { ended = e; rest = (cut s).rest ++ bytes } in q) (append-nil (cut s).ended)

-- a stream that goes on with such bytes and an LF
pub cut-ended : (s bytes : List ℕ) → has_lf bytes ≡ false →
    cut (s ++ (bytes ++ 10 ∷ [])) ≡ record { ended = (cut s).ended ++ ((cut s).rest ++ bytes) ∷ []; rest = [] }
cut-ended s bytes h =
    cut-append s (bytes ++ 10 ∷ [])
    ∙ ap (onto (cut s).ended) (ap cut (sym (append_assoc (cut s).rest bytes (10 ∷ []))) ∙ cut-line ((cut s).rest ++ bytes) (has_lf-append (cut s).rest bytes (cut-rest s) h))

-- What a reader does, from what its calls say.

-- what a stream shows, where no line that has ended is faulty
pub shown_early : (s : List ℕ) → first_fault [] (ended_lines s) ≡ None → shown_fault s ≡ option_map (fault_at (length (ended_lines s) + 1)) (early_fault (cut s).rest)
shown_early s sound = ap (λ o. option_map_or (λ e. Some e) o (option_map (fault_at (length (ended_lines s) + 1)) (early_fault (cut s).rest))) sound

-- a line that has ended is faulty
pub fails_first : (s : List ℕ) (error : ReadError) → Fails error (first_fault [] (ended_lines s)) → Fails error (shown_fault s)
fails_first s (Pyx e) fails = ap (λ o. option_map_or (λ e. Some e) o (option_map (fault_at (length (ended_lines s) + 1)) (early_fault (cut s).rest))) fails
fails_first s Memory fails = tt

-- no line goes on
pub ended_shows_none : (s : List ℕ) → first_fault [] (ended_lines s) ≡ None → (cut s).rest ≡ [] → shown_fault s ≡ None
ended_shows_none s sound none = shown_early s sound ∙ ap (λ r. option_map (fault_at (length (ended_lines s) + 1)) (early_fault r)) none

-- the lines that have ended, where bytes without an LF come
pub ended_lines-held : (s bytes : List ℕ) → has_lf bytes ≡ false → ended_lines (s ++ bytes) ≡ ended_lines s
ended_lines-held s bytes none = ap (λ (p : Pieces). map without_cr p.ended) (cut-held s bytes none)

-- a reader holds more of a line
pub holds : (old new : Reader) (bytes : List ℕ) → has_lf bytes ≡ false → new.builder ≡ old.builder → new.failed ≡ old.failed →
    new.held ≡ old.held ++ bytes → (MayGrowBy old.held old.room → MayGrowBy new.held new.room) →
    (s : List ℕ) → HasRead old s → HasRead new (s ++ bytes)
holds old new bytes none builder failed held room s read =
    let rest : new.held ≡ (cut (s ++ bytes)).rest = held ∙ ap (λ h. h ++ bytes) read.held ∙ ap (λ (p : Pieces). p.rest) (sym (cut-held s bytes none)) in
    let same : ended_lines (s ++ bytes) ≡ ended_lines s = ended_lines-held s bytes none in
    let has : MayGrowBy new.held new.room = room read.room in
    record {
      works = failed ∙ read.works;
      taken = rw (builder, same) read.taken;
      held = rest;
      room = has;
      shows_none = shown_early (s ++ bytes) (ap (first_fault []) same ∙ read.taken.sound)
          ∙ ap (option_map (fault_at (length (ended_lines (s ++ bytes)) + 1))) (ap early_fault (sym rest ∙ sym (append-nil new.held)) ∙ has [] (omega arith));
    }

-- the line that comes shows a fault
pub shows : (old : Reader) (bytes held : List ℕ) (fault : PyxFault) (error : ReadError) → has_lf bytes ≡ false → held ≡ old.held ++ bytes → early_fault held ≡ Some fault →
    ((ls : List (List ℕ)) → HasBuilt old.builder ls → error ≡ Pyx (fault_at (length ls + 1) fault)) →
    (s : List ℕ) → HasRead old s → Fails error (shown_fault (s ++ bytes))
shows old bytes held fault error none is early says s read =
    let rest : held ≡ (cut (s ++ bytes)).rest = is ∙ ap (λ h. h ++ bytes) read.held ∙ ap (λ (p : Pieces). p.rest) (sym (cut-held s bytes none)) in
    let same : ended_lines (s ++ bytes) ≡ ended_lines s = ended_lines-held s bytes none in
    subst (λ (e : ReadError). Fails e (shown_fault (s ++ bytes))) (sym (says (ended_lines s) read.taken))
    (shown_early (s ++ bytes) (ap (first_fault []) same ∙ read.taken.sound)
    ∙ ap (option_map (fault_at (length (ended_lines (s ++ bytes)) + 1))) (ap early_fault (sym rest) ∙ early)
    ∙ ap (λ ls. Some (fault_at (length ls + 1) fault)) same)

-- the lines of a stream that goes on with bytes without an LF, and an LF
pub ended_lines-ended : (s bytes : List ℕ) → has_lf bytes ≡ false → ended_lines (s ++ (bytes ++ 10 ∷ [])) ≡ ended_lines s ++ without_cr ((cut s).rest ++ bytes) ∷ []
ended_lines-ended s bytes none =
    ap (λ (p : Pieces). map without_cr p.ended) (cut-ended s bytes none) ∙ map-append without_cr (cut s).ended (((cut s).rest ++ bytes) ∷ [])

-- nothing is held: nothing stands behind the last LF
pub nothing_held : (rest held : List ℕ) → held ≡ rest → (length held == 0) ≡ true → rest ≡ []
nothing_held rest [] is none = sym is
nothing_held rest (x ∷ held) is none = absurd (let e : length (x ∷ held) ≡ 0 = eqb-true (length (x ∷ held)) 0 none in omega arith)

-- a fault that is shown stays
pub fails_shows : (bytes more : List ℕ) (error : ReadError) → Fails error (shown_fault bytes) → Fails error (shown_fault (bytes ++ more))
fails_shows bytes more (Pyx e) fails = fault_shows bytes more e fails
fails_shows bytes more Memory fails = tt

-- the fault of one line more that has ended
pub ended_fault : (s bytes line : List ℕ) → first_fault [] (ended_lines s) ≡ None → has_lf bytes ≡ false → line ≡ (cut s).rest ++ bytes →
    first_fault [] (ended_lines (s ++ (bytes ++ 10 ∷ []))) ≡ first_fault (ended_lines s) (without_cr line ∷ [])
ended_fault s bytes line sound none is =
    ap (first_fault []) (ended_lines-ended s bytes none)
    ∙ first_fault-append [] (ended_lines s) (without_cr ((cut s).rest ++ bytes) ∷ [])
    ∙ ap (λ o. option_map_or (λ e. Some e) o (first_fault (ended_lines s) (without_cr ((cut s).rest ++ bytes) ∷ []))) sound
    ∙ ap (λ (l : List ℕ). first_fault (ended_lines s) (without_cr l ∷ [])) (sym is)

-- an LF ends the line that these bytes are
pub takes_line : (old new : Reader) (bytes line : List ℕ) → has_lf bytes ≡ false → new.held ≡ [] → (MayGrowBy old.held old.room → MayGrowBy new.held new.room) → new.failed ≡ old.failed →
    ((ls : List (List ℕ)) → HasBuilt old.builder ls → HasBuilt new.builder (ls ++ without_cr line ∷ [])) →
    (s : List ℕ) → line ≡ (cut s).rest ++ bytes → HasRead old s → HasRead new (s ++ (bytes ++ 10 ∷ []))
takes_line old new bytes line none held room failed takes s is read =
    let taken : HasBuilt new.builder (ended_lines (s ++ (bytes ++ 10 ∷ []))) =
    rw (ended_lines-ended s bytes none ∙ ap (λ (l : List ℕ). ended_lines s ++ without_cr l ∷ []) (sym is)) (takes (ended_lines s) read.taken) in
    let rest : (cut (s ++ (bytes ++ 10 ∷ []))).rest ≡ [] = ap (λ (p : Pieces). p.rest) (cut-ended s bytes none) in
    record {
      works = failed ∙ read.works;
      taken = taken;
      held = held ∙ sym rest;
      room = room read.room;
      shows_none = ended_shows_none (s ++ (bytes ++ 10 ∷ [])) taken.sound rest;
    }

pub fails_line : (old : Reader) (bytes line : List ℕ) (error : ReadError) → has_lf bytes ≡ false →
    ((ls : List (List ℕ)) → HasBuilt old.builder ls → Fails error (first_fault ls (without_cr line ∷ []))) →
    (s : List ℕ) → line ≡ (cut s).rest ++ bytes → HasRead old s → Fails error (shown_fault (s ++ (bytes ++ 10 ∷ [])))
fails_line old bytes line error none fails s is read =
    fails_first (s ++ (bytes ++ 10 ∷ [])) error
    (subst (Fails error) (sym (ended_fault s bytes line read.taken.sound none is)) (fails (ended_lines s) read.taken))

-- nothing was held: the bytes are the line
pub line_alone : (old : Reader) (bytes : List ℕ) (s : List ℕ) → (length old.held == 0) ≡ true → HasRead old s → bytes ≡ (cut s).rest ++ bytes
line_alone old bytes s empty read = ap (λ (r : List ℕ). r ++ bytes) (sym (nothing_held (cut s).rest old.held read.held empty))

-- nothing is held still
pub still_none : (old new : List ℕ) → (length old == 0) ≡ true → new ≡ old → new ≡ []
still_none old new none same = same ∙ nothing_held old old refl none

-- no line is left
pub takes_none : (old : Reader) (s : List ℕ) → (length old.held == 0) ≡ true → HasRead old s → HasBuilt old.builder (lines s)
takes_none old s empty read =
    let rest : (cut s).rest ≡ [] = nothing_held (cut s).rest old.held read.held empty in
    rw (ap (λ (r : List ℕ). ended_lines s ++ last_line r) rest ∙ append-nil (ended_lines s)) read.taken

-- a line is left
last_line-some : (rest held : List ℕ) → held ≡ rest → (length held == 0) ≡ false → last_line rest ≡ without_cr held ∷ []
last_line-some rest [] is some = absurd (let h : true ≡ false = some in cc h)
last_line-some rest (x ∷ held) is some = ap last_line (sym is)

pub takes_last : (old : Reader) (builder : Builder) (held : List ℕ) (s : List ℕ) → (length old.held == 0) ≡ false → held ≡ old.held → HasRead old s →
    ((ls : List (List ℕ)) → HasBuilt old.builder ls → HasBuilt builder (ls ++ without_cr held ∷ [])) → HasBuilt builder (lines s)
takes_last old builder held s some is read takes =
    rw (ap (λ (ls : List (List ℕ)). ended_lines s ++ ls) (last_line-some (cut s).rest old.held read.held some ∙ ap (λ (l : List ℕ). without_cr l ∷ []) (sym is)))
    (takes (ended_lines s) read.taken)

pub fails_last : (old : Reader) (held : List ℕ) (error : ReadError) (s : List ℕ) → (length old.held == 0) ≡ false → held ≡ old.held → HasRead old s →
    ((ls : List (List ℕ)) → HasBuilt old.builder ls → Fails error (first_fault ls (without_cr held ∷ []))) → Fails error (fault_of s)
fails_last old held error s some is read fails =
    fails_whole_stream (first_fault [] (lines s)) (fault_at_end (lines s)) error
    (subst (Fails error)
    (ap (λ o. option_map_or (λ e. Some e) o (first_fault (ended_lines s) (without_cr held ∷ []))) (sym read.taken.sound)
    ∙ sym (first_fault-append [] (ended_lines s) (without_cr held ∷ []))
    ∙ ap (λ (ls : List (List ℕ)). first_fault [] (ended_lines s ++ ls)) (sym (last_line-some (cut s).rest old.held read.held some ∙ ap (λ (l : List ℕ). without_cr l ∷ []) (sym is))))
    (fails (ended_lines s) read.taken))
  where
    fails_whole_stream : (found at_end : Option PyxError) (error : ReadError) → Fails error found → Fails error (option_map_or (λ e. Some e) found at_end)
    fails_whole_stream found at_end (Pyx e) h = ap (λ o. option_map_or (λ e. Some e) o at_end) h
    fails_whole_stream found at_end Memory h = tt

-- the fault of the end, where no line is faulty
pub fails_at_end : (builder : Builder) (error : ReadError) (s : List ℕ) → HasBuilt builder (lines s) → Fails error (fault_at_end (lines s)) → Fails error (fault_of s)
fails_at_end builder error s taken fails =
    subst (Fails error) (ap (λ o. option_map_or (λ e. Some e) o (fault_at_end (lines s))) (sym taken.sound)) fails

-- a stream with a reading gives it, unless memory runs out
pub only_reading : (result : Result OrderedTree ReadError) (s : List ℕ) (tree : OrderedTree) → IfOk result (λ t. Reads s t) → IfErr result (λ e. Fails e (fault_of s)) →
    Reads s tree → MatchResult result (λ t. t ≡ tree) (λ e. e ≡ Memory)
only_reading (Ok t) s tree found fails reads = one_reading s t tree found reads
only_reading (Err (Pyx e)) s tree found fails reads = let h : None ≡ Some e = sym (no_fault s tree reads) ∙ fails in cc
only_reading (Err Memory) s tree found fails reads = refl

-- one line more of a piece is done
goes_on : (done rest piece : List ℕ) (end : ℕ) → done ++ rest ≡ piece → rest ≡ take end rest ++ (10 ∷ drop (end + 1) rest) →
    (done ++ (take end rest ++ 10 ∷ [])) ++ drop (end + 1) rest ≡ piece
goes_on done rest piece end is parts =
    append_assoc done (take end rest ++ 10 ∷ []) (drop (end + 1) rest)
    ∙ ap (λ (r : List ℕ). done ++ r) (append_assoc (take end rest) (10 ∷ []) (drop (end + 1) rest) ∙ sym parts)
    ∙ is

-- a piece behind a stream is what is done of it there, and its rest
pub piece_whole : (s done rest piece : List ℕ) → done ++ rest ≡ piece → (s ++ done) ++ rest ≡ s ++ piece
piece_whole s done rest piece is = append_assoc s done rest ∙ ap (λ (r : List ℕ). s ++ r) is

-- what is done of a piece after one line more
pub line_done : (old mid new : Reader) (rest piece : List ℕ) (end : ℕ) → EndsLine rest end →
    (done : List ℕ) × (done ++ rest ≡ piece) × ((s : List ℕ) → HasRead old s → HasRead mid (s ++ done)) →
    ((s : List ℕ) → HasRead mid s → HasRead new (s ++ (take end rest ++ 10 ∷ []))) →
    (done : List ℕ) × (done ++ take (length rest - (end + 1)) (drop (end + 1) rest) ≡ piece) × ((s : List ℕ) → HasRead old s → HasRead new (s ++ done))
line_done old mid new rest piece end ends (done, is, read) reads = (
  done ++ (take end rest ++ 10 ∷ []),
  ap (λ (r : List ℕ). (done ++ (take end rest ++ 10 ∷ [])) ++ r)
      (take_all (length rest - (end + 1)) (drop (end + 1) rest) (let e : length (drop (end + 1) rest) ≡ length rest - (end + 1) = length-drop (end + 1) rest in omega arith))
      ∙ goes_on done rest piece end is ends.parts,
  λ s h. rw (sym (append_assoc s done (take end rest ++ 10 ∷ []))) (reads (s ++ done) (read s h)),
)

-- the fault of a line is that of the piece that it stands in
pub line_fails : (old mid : Reader) (rest piece : List ℕ) (end : ℕ) (error : ReadError) → EndsLine rest end →
    (done : List ℕ) × (done ++ rest ≡ piece) × ((s : List ℕ) → HasRead old s → HasRead mid (s ++ done)) →
    ((s : List ℕ) → HasRead mid s → Fails error (shown_fault (s ++ (take end rest ++ 10 ∷ [])))) →
    (s : List ℕ) → HasRead old s → Fails error (shown_fault (s ++ piece))
line_fails old mid rest piece end error ends (done, is, read) fails s h =
    let line : List ℕ = take end rest ++ 10 ∷ [] in
    subst (λ (b : List ℕ). Fails error (shown_fault b))
    (append_assoc (s ++ done) line (drop (end + 1) rest) ∙ append_assoc s done (line ++ drop (end + 1) rest)
    ∙ ap (λ (r : List ℕ). s ++ r) (sym (append_assoc done line (drop (end + 1) rest)) ∙ goes_on done rest piece end is ends.parts))
    (fails_shows ((s ++ done) ++ line) (drop (end + 1) rest) error (fails (s ++ done) (read s h)))
