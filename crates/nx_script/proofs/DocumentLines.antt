-- What has been read of a document's lines as bytes come.
use Rattle.std.proofs.Common.{◌≡◌, ℕ, zero, suc, ◌+◌, ◌-◌, ◌<◌, ◌≤◌, Bool, true, false, List, [], ◌∷◌, ◌++◌, length, map, take, drop, get_or, Some, Result, Ok, Err, refl, sym, ap, ◌∙◌, subst, ◌⊎◌, inl, inr, arith, append_assoc, append-nil, take_all, drop-cons, length-append}
use Rattle.std.specs.Prelude.{codes, if◌then◌else◌}
use Rattle.std.specs.List.{list_any}
use Rattle.std.specs.Option.{option_map_or}
use Rattle.std.proofs.Math.Seq.{take-add}
use Rattle.std.proofs.lemmas.Bool.{MatchBool-at_true, MatchBool-at_false, or_from, or_parts, ne_eqb, eq-eqb}
use Rattle.std.proofs.lemmas.List.{length-drop, length-take, take-append-drop, take_at, map-append}
use Rattle.std.proofs.lemmas.List.Folds.{list_any-append}
use Rattle.std.proofs.lemmas.Slice.Eq.{bytes_eq-Decides}
use Rattle.nx_tree.specs.Forest.{OrderedTree}
use Rattle.nx_pyx.specs.declared.error.PyxError.{PyxError}
use Rattle.nx_pyx.specs.declared.error.ReadError.{ReadError}
use Rattle.nx_pyx.specs.declared.error.ReadError.TheVariants.{Pyx}
use Rattle.nx_pyx.specs.declared.reader.Reader.{Reader}
use Rattle.nx_pyx.specs.Event.{event_of}
use Rattle.nx_pyx.specs.Fault.{shown_fault, fault_of, first_fault, fault_at_end}
use Rattle.nx_pyx.specs.Reading.{Reads}
use Rattle.nx_pyx.specs.Lines.{Pieces, cut, without_cr, ended_lines, has_lf, EndsLine}
use Rattle.nx_pyx.specs.Builder.{Fails}
use Rattle.nx_pyx.specs.Reader.{HasRead, HasFailed}
use Rattle.nx_pyx.proofs.ShownFaultLemmas.{onto, cut-append, cut-rest, fault_shows, fault_shown}
use Rattle.nx_pyx.proofs.StreamLemmas.{cut-held, cut-ended, ended_lines-held, ended_lines-ended}
use Rattle.nx_script.specs.declared.body.Body.{Body}
use Rattle.nx_pyx.specs.Field.{begins_with}
use Rattle.nx_script.specs.declared.command.LoadBody.{LoadBody}
use Rattle.nx_script.specs.declared.command.LoadBody.TheVariants.{Read, Wrong}
use Rattle.nx_script.specs.Commands.{is_dot, has_dot, SaysBody}
use Rattle.nx_script.specs.BeforeDot.{before_dot}
use Rattle.nx_script.specs.Body.{HasReadOrFailed, HasReadLines, HasReadUpToDot, AwaitsDot, AwaitsOrHasDot, IsBeforeDot, Says, fault_in, unread}
use Rattle.nx_lists.proofs.CaseLemmas.{match_true, match_false}
use Rattle.nx_script.proofs.Prefixes.{dot_prefix, dot_before, dot_short, undotted_prefix, undotted_line}
use Rattle.nx_script.proofs.LinesLemmas.{rest-held, rest-ended, lines-whole}
use Rattle.nx_script.proofs.BeforeDot.{joined_lines-cut, joined_lines-prefix, before_in-none, before_in-last, before_dot-ended, after_dot-ended}

-- The lines before the first that begins with a dot.

-- Among the first n bytes each line has ended, and none begins with a dot.
pub record AreUndotted (bytes : List ℕ) (n : ℕ) : Type 0 where
  pub within : n ≤ length bytes
  pub undotted : list_any (begins_with 46) (cut (take n bytes)).ended ≡ false
  pub rest : (cut (take n bytes)).rest ≡ []

-- before the first line
pub undotted_none : (bytes : List ℕ) → AreUndotted bytes 0
undotted_none bytes = record { within = omega arith; undotted = refl; rest = refl }

-- a line with its LF is a prefix
pub line_taken : (bytes : List ℕ) (end : ℕ) → EndsLine bytes end → take (end + 1) bytes ≡ take end bytes ++ 10 ∷ []
line_taken bytes end ends =
    let inside : end < length bytes = ends.inside in
    let size : length (take end bytes ++ 10 ∷ []) ≡ end + 1 = omega (arith, length-append (take end bytes) (10 ∷ []), length-take end bytes) in
    ap (take (end + 1)) (ends.parts ∙ sym (append_assoc (take end bytes) (10 ∷ []) (drop (end + 1) bytes)))
    ∙ take_at (take end bytes ++ 10 ∷ []) (drop (end + 1) bytes) (end + 1) size

-- all that is left
all_left : (bytes : List ℕ) (n : ℕ) → take (length bytes - n) (drop n bytes) ≡ drop n bytes
all_left bytes n = take_all (length bytes - n) (drop n bytes) (let size : length (drop n bytes) ≡ length bytes - n = length-drop n bytes in omega arith)

-- what begins with another byte
other_first : (bytes : List ℕ) (n : ℕ) → n < length bytes → (get_or bytes n 0 ≡ 46 → ⊥) → begins_with 46 (drop n bytes) ≡ false
other_first bytes n inside other = ap (begins_with 46) (drop-cons bytes n 0 inside) ∙ ne_eqb (get_or bytes n 0) 46 other

-- one line more, which begins with another byte
pub undotted_more : (bytes : List ℕ) (n end : ℕ) → AreUndotted bytes n → n < length bytes → (get_or bytes n 0 ≡ 46 → ⊥) → EndsLine (take (length bytes - n) (drop n bytes)) end →
    AreUndotted bytes (n + (end + 1))
undotted_more bytes n end undotted inside other ends' =
    let ends : EndsLine (drop n bytes) end = subst (λ (l : List ℕ). EndsLine l end) (all_left bytes n) ends' in
    let line : List ℕ = take end (drop n bytes) in
    let prefix : take (end + 1) (drop n bytes) ≡ line ++ 10 ∷ [] = line_taken (drop n bytes) end ends in
    let is : cut (take (n + (end + 1)) bytes) ≡ record { ended = (cut (take n bytes)).ended ++ ((cut (take n bytes)).rest ++ line) ∷ []; rest = [] } =
    ap cut (take-add n (end + 1) bytes ∙ ap (λ (l : List ℕ). take n bytes ++ l) prefix) ∙ cut-ended (take n bytes) line ends.none_before in
    let long : end < length (drop n bytes) = ends.inside in
    let size : length (drop n bytes) ≡ length bytes - n = length-drop n bytes in
    record {
      within = omega arith;
      undotted = ap (λ (p : Pieces). list_any (begins_with 46) p.ended) is
          ∙ list_any-append (begins_with 46) (cut (take n bytes)).ended (((cut (take n bytes)).rest ++ line) ∷ [])
          ∙ or_from _ _ undotted.undotted
          (or_from _ _
          (ap (λ (r : List ℕ). begins_with 46 (r ++ line)) undotted.rest ∙ undotted_prefix end (drop n bytes) (other_first bytes n inside other))
          refl);
      rest = ap (λ (p : Pieces). p.rest) is;
    }

-- none is left that begins with another byte
pub before_dot_here : (bytes : List ℕ) (n : ℕ) → AreUndotted bytes n → (n < length bytes → get_or bytes n 0 ≡ 46) → IsBeforeDot bytes n n
before_dot_here bytes n undotted dot =
    let none : take (n - n) (drop n bytes) ≡ [] = ap (λ (k : ℕ). take k (drop n bytes)) (let e : n - n ≡ 0 = omega arith in e) in
    record {
      within = undotted.within;
      here = omega arith;
      undotted = undotted.undotted;
      rest = undotted.rest ∙ sym none;
      rest_undotted = ap (begins_with 46) none;
      some = λ other some. some_byte bytes n other some dot;
    }
  where
    some_byte : (bs : List ℕ) (m : ℕ) → begins_with 46 bs ≡ false → 0 < length bs → (m < length bs → get_or bs m 0 ≡ 46) → 0 < m
    some_byte [] m other some dot = absurd (omega arith)
    some_byte (b ∷ bs) zero other some dot = absurd (let is : b ≡ 46 = dot some in let e : true ≡ false = sym (eq-eqb b 46 is) ∙ other in cc)
    some_byte (b ∷ bs) (suc m) other some dot = omega arith

-- the last line hasn't ended
pub before_dot_none : (bytes : List ℕ) (n : ℕ) → AreUndotted bytes n → n < length bytes → (get_or bytes n 0 ≡ 46 → ⊥) → has_lf (take (length bytes - n) (drop n bytes)) ≡ false →
    IsBeforeDot bytes (length bytes) n
before_dot_none bytes n undotted inside other unbroken' =
    let all : take (length bytes - n) (drop n bytes) ≡ drop n bytes = all_left bytes n in
    let unbroken : has_lf (drop n bytes) ≡ false = sym (ap has_lf all) ∙ unbroken' in
    let is : cut (take (length bytes) bytes) ≡ record { ended = (cut (take n bytes)).ended; rest = (cut (take n bytes)).rest ++ drop n bytes } =
    ap cut (take_all (length bytes) bytes (omega arith) ∙ sym (take-append-drop n bytes)) ∙ cut-held (take n bytes) (drop n bytes) unbroken in
    record {
      within = omega arith;
      here = undotted.within;
      undotted = ap (λ (p : Pieces). list_any (begins_with 46) p.ended) is ∙ undotted.undotted;
      rest = ap (λ (p : Pieces). p.rest) is ∙ ap (λ (r : List ℕ). r ++ drop n bytes) undotted.rest ∙ sym all;
      rest_undotted = ap (begins_with 46) all ∙ other_first bytes n inside other;
      some = λ first some. some;
    }

-- What the reader has read.

-- What has been read where the line that comes may be the dot: all before it.
abbrev UpToDot : Reader → List ℕ → Type 0
UpToDot reader stream = (prefix : List ℕ) × (stream ≡ prefix ++ (cut stream).rest) × HasReadLines reader prefix

-- the line that comes can't be the dot
pub up_to_none : (reader : Reader) (stream : List ℕ) → is_dot (without_cr (cut stream).rest) ≡ false → HasReadOrFailed reader stream → HasReadUpToDot reader stream
up_to_none reader stream other read = match_false (UpToDot reader stream) (HasReadOrFailed reader stream) (is_dot (without_cr (cut stream).rest)) other read

pub from_none : (reader : Reader) (stream : List ℕ) → is_dot (without_cr (cut stream).rest) ≡ false → HasReadUpToDot reader stream → HasReadOrFailed reader stream
from_none reader stream other read = MatchBool-at_false (UpToDot reader stream) (HasReadOrFailed reader stream) other read

-- The lines before one that may be the dot have been read.
pub record HasReadPrefix (reader : Reader) (stream : List ℕ) : Type 0 where
  pub prefix : List ℕ
  pub parts : stream ≡ prefix ++ (cut stream).rest
  pub read : HasReadLines reader prefix

-- where the line that comes goes on to be the dot
pub read_prefix : (reader : Reader) (stream bytes : List ℕ) → is_dot (without_cr ((cut stream).rest ++ bytes)) ≡ true → HasReadUpToDot reader stream → HasReadPrefix reader stream
read_prefix reader stream bytes dot read = by_rest (dot_before (cut stream).rest bytes dot)
  where
    by_rest : ((cut stream).rest ≡ []) ⊎ (is_dot (without_cr (cut stream).rest) ≡ true) → HasReadPrefix reader stream
    by_rest (inl none) = record {
      prefix = stream;
      parts = sym (append-nil stream) ∙ ap (λ (r : List ℕ). stream ++ r) (sym none);
      read = record { read = from_none reader stream (ap (λ (r : List ℕ). is_dot (without_cr r)) none) read; ended = none };
    }
    by_rest (inr is) =
        let (prefix, parts, lines_read) = MatchBool-at_true (UpToDot reader stream) (HasReadOrFailed reader stream) is read in
        record { prefix = prefix; parts = parts; read = lines_read }

up_to_dot : (reader : Reader) (stream prefix : List ℕ) → is_dot (without_cr (cut stream).rest) ≡ true → stream ≡ prefix ++ (cut stream).rest → HasReadLines reader prefix →
    HasReadUpToDot reader stream
up_to_dot reader stream prefix dot parts read =
    match_true (UpToDot reader stream) (HasReadOrFailed reader stream) (is_dot (without_cr (cut stream).rest)) dot (prefix, parts, read)

-- the reader stays the same
same_reader : (old new : Reader) (stream : List ℕ) → new ≡ old → HasReadLines old stream → HasReadLines new stream
same_reader old new stream is read = subst (λ (r : Reader). HasReadLines r stream) (sym is) read

-- As bytes come.

-- nothing is held: no line goes on
none_held : (held rest : List ℕ) → held ≡ take 3 rest → held ≡ [] → rest ≡ []
none_held held [] is none = refl
none_held held (b ∷ rest) is none = absurd (let no_byte : [] ≡ b ∷ take 2 rest = sym none ∙ is in cc)

-- pieces none of which begins with a dot are no dot as lines
undotted_lines : (pieces : List (List ℕ)) → list_any (begins_with 46) pieces ≡ false → has_dot (map without_cr pieces) ≡ false
undotted_lines [] h = refl
undotted_lines (piece ∷ pieces) h =
    let p = or_parts (begins_with 46 piece) (list_any (begins_with 46) pieces) h in
    or_from (is_dot (without_cr piece)) (has_dot (map without_cr pieces)) (undotted_line piece p.0) (undotted_lines pieces p.1)

-- before the first byte
pub within_none : (body : Body) → body.held ≡ [] → HasRead body.reader [] → AwaitsDot body []
within_none body none read = record { undotted = refl; held = none; read = inl read }

-- the bytes before the first line that begins with a dot are taken, where a line begins
pub takes_lines : {old new : Body} {mid : Reader} {bytes : List ℕ} {n last : ℕ} → old.held ≡ [] → IsBeforeDot bytes n last →
    ((s : List ℕ) → HasReadOrFailed old.reader s → HasReadOrFailed mid (s ++ take n bytes)) → new.reader ≡ mid →
    new.held ≡ take 3 (take (n - last) (drop last bytes)) → (s : List ℕ) → AwaitsDot old s → AwaitsDot new (s ++ take n bytes)
takes_lines {old = old} {new = new} {mid = mid} {bytes = bytes} {n = n} {last = last} none before reads same held s within =
    let rest : (cut s).rest ≡ [] = none_held old.held (cut s).rest within.held none in
    let prefix : List ℕ = take n bytes in
    let is : cut (s ++ prefix) ≡ onto (cut s).ended (cut prefix) = cut-append s prefix ∙ ap (λ (r : List ℕ). onto (cut s).ended (cut (r ++ prefix))) rest in
    let behind : (cut (s ++ prefix)).rest ≡ take (n - last) (drop last bytes) = ap (λ (p : Pieces). p.rest) is ∙ before.rest in
    record {
      undotted = ap (λ (p : Pieces). has_dot (map without_cr p.ended)) is
          ∙ ap has_dot (map-append without_cr (cut s).ended (cut prefix).ended)
          ∙ list_any-append is_dot (ended_lines s) (ended_lines prefix)
          ∙ or_from _ _ within.undotted (undotted_lines (cut prefix).ended before.undotted);
      held = held ∙ ap (take 3) (sym behind);
      read = up_to_none new.reader (s ++ prefix) (ap (λ (l : List ℕ). is_dot (without_cr l)) behind ∙ undotted_line (take (n - last) (drop last bytes)) before.rest_undotted)
          (subst (λ (r : Reader). HasReadOrFailed r (s ++ prefix)) (sym same) (reads s (from_none old.reader s (ap (λ (l : List ℕ). is_dot (without_cr l)) rest) within.read)));
    }

-- what isn't read of the bytes that are held stands in their prefix, as they go on
unread_kept : (line more : List ℕ) → take (length (unread (take 3 line))) (take 3 (line ++ more)) ≡ unread (take 3 line)
unread_kept line more = by_dot (is_dot (without_cr (take 3 line)))
  where
    prefix_kept : (l : List ℕ) → take (length (take 3 l)) (take 3 (l ++ more)) ≡ take 3 l
    prefix_kept [] = refl
    prefix_kept (a ∷ []) = refl
    prefix_kept (a ∷ b ∷ []) = refl
    prefix_kept (a ∷ b ∷ c ∷ l) = refl

    by_dot : (t : Bool) → take (length (if t then take 3 line else [])) (take 3 (line ++ more)) ≡ (if t then take 3 line else [])
    by_dot true = prefix_kept line
    by_dot false = refl

-- where the line may be the dot nothing of it is read, and else all
unread_dot : (line : List ℕ) → is_dot (without_cr line) ≡ true → unread (take 3 line) ≡ line
unread_dot line is = ap (λ (t : Bool). if t then take 3 line else []) (dot_prefix line ∙ is) ∙ dot_short line is

unread_other : (line : List ℕ) → is_dot (without_cr line) ≡ false → unread (take 3 line) ≡ []
unread_other line other = ap (λ (t : Bool). if t then take 3 line else []) (dot_prefix line ∙ other)

-- A body has held these bytes more, in which is no LF, and has read none.
pub record HoldsMore (old new : Body) (bytes : List ℕ) : Type 0 where
  pub unbroken : has_lf bytes ≡ false
  pub holds : (line : List ℕ) → old.held ≡ take 3 line → new.held ≡ take 3 (line ++ bytes)
  pub reader_stays : new.reader ≡ old.reader

module _ {old mid : Body} {bytes : List ℕ} (held_more : HoldsMore old mid bytes) where
  -- what begins a line, with these bytes behind it
  held_line : (s : List ℕ) → AwaitsDot old s → mid.held ≡ take 3 ((cut s).rest ++ bytes)
  held_line s within = held_more.holds (cut s).rest within.held

  held_is_dot : (s : List ℕ) (b : Bool) → AwaitsDot old s → b ≡ is_dot (without_cr mid.held) → is_dot (without_cr ((cut s).rest ++ bytes)) ≡ b
  held_is_dot s b within is = sym (is ∙ ap (λ (l : List ℕ). is_dot (without_cr l)) (held_line s within) ∙ dot_prefix ((cut s).rest ++ bytes))

  -- bytes that go on are read, behind those that were held alone
  reads_all : {reader : Reader} (n : ℕ) (more : List ℕ) → n ≡ length (unread old.held) →
      ((s : List ℕ) → HasReadOrFailed mid.reader s → HasReadOrFailed reader (s ++ (take n mid.held ++ more))) →
      (s : List ℕ) → AwaitsDot old s → HasReadOrFailed reader (s ++ more)
  reads_all {reader = reader} n more count reads s within = by_dot (is_dot (without_cr (cut s).rest)) refl
    where
      kept : take n mid.held ≡ unread (take 3 (cut s).rest)
      kept =
          ap (λ (k : ℕ). take k mid.held) (count ∙ ap (λ (l : List ℕ). length (unread l)) within.held)
          ∙ ap (take (length (unread (take 3 (cut s).rest)))) (held_line s within)
          ∙ unread_kept (cut s).rest bytes

      by_dot : (t : Bool) → is_dot (without_cr (cut s).rest) ≡ t → HasReadOrFailed reader (s ++ more)
      by_dot true is =
          let f = read_prefix old.reader s [] (ap (λ (l : List ℕ). is_dot (without_cr l)) (append-nil (cut s).rest) ∙ is) within.read in
          subst (HasReadOrFailed reader)
          (ap (λ (l : List ℕ). f.prefix ++ (l ++ more)) (kept ∙ unread_dot (cut s).rest is)
          ∙ sym (append_assoc f.prefix (cut s).rest more)
          ∙ ap (λ (l : List ℕ). l ++ more) (sym f.parts))
          (reads f.prefix (same_reader old.reader mid.reader f.prefix held_more.reader_stays f.read).read)
      by_dot false other =
          subst (HasReadOrFailed reader) (ap (λ (l : List ℕ). s ++ (l ++ more)) (kept ∙ unread_other (cut s).rest other))
          (reads s (subst (λ (r : Reader). HasReadOrFailed r s) (sym held_more.reader_stays) (from_none old.reader s other within.read)))

  -- a line goes on that can't be the dot
  pub goes_on_read : {new : Body} {dot : Bool} → new.held ≡ mid.held → dot ≡ is_dot (without_cr mid.held) → dot ≡ false → (n : ℕ) → n ≡ length (unread old.held) →
      ((s : List ℕ) → HasReadOrFailed mid.reader s → HasReadOrFailed new.reader (s ++ (take n mid.held ++ bytes))) → (s : List ℕ) → AwaitsDot old s → AwaitsDot new (s ++ bytes)
  goes_on_read {new = new} {dot = dot} held is none n count reads s within =
      let rest : (cut (s ++ bytes)).rest ≡ (cut s).rest ++ bytes = rest-held s bytes held_more.unbroken in
      record {
        undotted = ap has_dot (ended_lines-held s bytes held_more.unbroken) ∙ within.undotted;
        held = held ∙ held_line s within ∙ ap (take 3) (sym rest);
        read = up_to_none new.reader (s ++ bytes) (ap (λ (l : List ℕ). is_dot (without_cr l)) rest ∙ held_is_dot s dot within is ∙ none) (reads_all n bytes count reads s within);
      }

  -- a line goes on that may be the dot
  pub goes_on_dotted : {dot : Bool} → dot ≡ is_dot (without_cr mid.held) → dot ≡ true → (s : List ℕ) → AwaitsDot old s → AwaitsDot mid (s ++ bytes)
  goes_on_dotted {dot = dot} is some s within =
      let rest : (cut (s ++ bytes)).rest ≡ (cut s).rest ++ bytes = rest-held s bytes held_more.unbroken in
      let may : is_dot (without_cr ((cut s).rest ++ bytes)) ≡ true = held_is_dot s dot within is ∙ some in
      let f = read_prefix old.reader s bytes may within.read in
      record {
        undotted = ap has_dot (ended_lines-held s bytes held_more.unbroken) ∙ within.undotted;
        held = held_line s within ∙ ap (take 3) (sym rest);
        read = up_to_dot mid.reader (s ++ bytes) f.prefix (ap (λ (l : List ℕ). is_dot (without_cr l)) rest ∙ may)
            (ap (λ (l : List ℕ). l ++ bytes) f.parts ∙ append_assoc f.prefix (cut s).rest bytes ∙ ap (λ (l : List ℕ). f.prefix ++ l) (sym rest))
            (same_reader old.reader mid.reader f.prefix held_more.reader_stays f.read);
      }

  -- an LF ends a line that isn't the dot
  pub ends_read : {new : Body} {ended : Bool} → new.held ≡ [] → ended ≡ is_dot (without_cr mid.held) → ended ≡ false → (n : ℕ) → n ≡ length (unread old.held) →
      ((s : List ℕ) → HasReadOrFailed mid.reader s → HasReadOrFailed new.reader (s ++ (take n mid.held ++ (bytes ++ 10 ∷ [])))) →
      (s : List ℕ) → AwaitsDot old s → AwaitsOrHasDot ended new (s ++ (bytes ++ 10 ∷ []))
  ends_read {new = new} {ended = ended} held is none n count reads s within =
      let other : is_dot (without_cr ((cut s).rest ++ bytes)) ≡ false = held_is_dot s ended within is ∙ none in
      let rest : (cut (s ++ (bytes ++ 10 ∷ []))).rest ≡ [] = rest-ended s bytes held_more.unbroken in
      subst (λ (b : Bool). AwaitsOrHasDot b new (s ++ (bytes ++ 10 ∷ []))) (sym none)
      (record {
        undotted = ap has_dot (ended_lines-ended s bytes held_more.unbroken)
            ∙ list_any-append is_dot (ended_lines s) (without_cr ((cut s).rest ++ bytes) ∷ [])
            ∙ or_from _ _ within.undotted (or_from _ _ other refl);
        held = held ∙ ap (take 3) (sym rest);
        read = up_to_none new.reader (s ++ (bytes ++ 10 ∷ [])) (ap (λ (l : List ℕ). is_dot (without_cr l)) rest) (reads_all n (bytes ++ 10 ∷ []) count reads s within);
      })

  -- an LF ends the dot
  pub ends_dot : (new : Body) {ended : Bool} → new.reader ≡ mid.reader → ended ≡ is_dot (without_cr mid.held) → ended ≡ true →
      (s : List ℕ) → AwaitsDot old s → AwaitsOrHasDot ended new (s ++ (bytes ++ 10 ∷ []))
  ends_dot new {ended = ended} same is dot s within =
      let last : is_dot (without_cr ((cut s).rest ++ bytes)) ≡ true = held_is_dot s ended within is ∙ dot in
      let f = read_prefix old.reader s bytes last within.read in
      let before : ended_lines s ≡ ended_lines f.prefix = ap ended_lines f.parts ∙ ended_lines-held f.prefix (cut s).rest (cut-rest s) in
      subst (λ (b : Bool). AwaitsOrHasDot b new (s ++ (bytes ++ 10 ∷ []))) (sym dot)
      (record {
        prefix = f.prefix;
        before = λ more. before_dot-ended s bytes more held_more.unbroken within.undotted last ∙ joined_lines-prefix f.prefix s f.parts f.read.ended;
        after = λ more. after_dot-ended s bytes more held_more.unbroken within.undotted last;
        lines_are = ended_lines-ended s bytes held_more.unbroken
            ∙ ap (λ (l : List ℕ). ended_lines s ++ l ∷ []) ((bytes_eq-Decides (without_cr ((cut s).rest ++ bytes)) (codes ".")).0 last)
            ∙ ap (λ (ls : List (List ℕ)). ls ++ codes "." ∷ []) before;
        undotted = ap has_dot (sym before) ∙ within.undotted;
        read = same_reader mid.reader new.reader f.prefix same (same_reader old.reader mid.reader f.prefix held_more.reader_stays f.read);
        ended = rest-ended s bytes held_more.unbroken;
      })

-- What the lines say before the dot.

-- what the reader has read is what stands before the dot, as far as it has come
pub read_before : (body : Body) (s : List ℕ) → AwaitsDot body s → HasReadOrFailed body.reader (before_dot s)
read_before body s within = by_dot (is_dot (without_cr (cut s).rest)) refl
  where
    by_dot : (t : Bool) → is_dot (without_cr (cut s).rest) ≡ t → HasReadOrFailed body.reader (before_dot s)
    by_dot true is =
        let f = read_prefix body.reader s [] (ap (λ (l : List ℕ). is_dot (without_cr l)) (append-nil (cut s).rest) ∙ is) within.read in
        subst (HasReadOrFailed body.reader) (sym (before_in-last (cut s).ended (cut s).rest within.undotted is ∙ joined_lines-prefix f.prefix s f.parts f.read.ended)) f.read.read
    by_dot false other =
        subst (HasReadOrFailed body.reader) (sym (before_in-none (cut s).ended (cut s).rest within.undotted other ∙ joined_lines-cut s)) (from_none body.reader s other within.read)

-- the fault that the reader has is told
pub told : (reader : Reader) (s : List ℕ) → HasReadOrFailed reader s → fault_in reader.failed ≡ shown_fault s
told reader s (inl read) = ap fault_in read.works ∙ sym read.shows_none
told reader s (inr (error, failed, shown)) = ap fault_in failed ∙ sym shown

-- a reader gives the document that it has read
pub said_read : (reader : Reader) (tree : OrderedTree) (result : Result OrderedTree ReadError) → result ≡ Ok tree → ((s : List ℕ) → HasRead reader s → Reads s tree) →
    ((e : ReadError) → HasFailed reader e → result ≡ Err e) → (s : List ℕ) → HasReadOrFailed reader s → Reads s tree
said_read reader tree result is ok again s (inl read) = ok s read
said_read reader tree result is ok again s (inr (error, failed, shown)) = absurd (let no_error : Ok tree ≡ Err (Pyx error) = sym is ∙ again (Pyx error) failed in cc)

-- or its fault
pub said_wrong : {reader : Reader} {e : PyxError} {fault : ReadError} {result : Result OrderedTree ReadError} → result ≡ Err fault → fault ≡ Pyx e →
    ((s : List ℕ) → HasRead reader s → Fails fault (fault_of s)) → ((e : ReadError) → HasFailed reader e → result ≡ Err e) → (s : List ℕ) → HasReadOrFailed reader s → fault_of s ≡ Some e
said_wrong {reader = reader} {e = e} {fault = fault} {result = result} is fault_is fails again s (inl read) = subst (λ (f : ReadError). Fails f (fault_of s)) fault_is (fails s read)
said_wrong {reader = reader} {e = e} {fault = fault} {result = result} is fault_is fails again s (inr (error, failed, shown)) =
    let same : ◌≡◌ {A = Result OrderedTree ReadError} (Err (Pyx e)) (Err (Pyx error)) = ap (λ f. Err f) (sym fault_is) ∙ sym is ∙ again (Pyx error) failed in
    let same_error : e ≡ error = cc in
    ap fault_of (sym (append-nil s)) ∙ fault_shown s [] error shown ∙ ap (λ (x : PyxError). Some x) (sym same_error)

-- a reader that has read whole lines
pub says_lines : (s : List ℕ) (said : LoadBody) → (cut s).rest ≡ [] → Says s said → SaysBody (ended_lines s) said
says_lines s (Read tree) ended reads = (reads.document, ap (map event_of) (sym (lines-whole s ended)) ∙ reads.lines_say)
says_lines s (Wrong error) ended fault =
    ap (λ (ls : List (List ℕ)). option_map_or (λ e. Some e) (first_fault [] ls) (fault_at_end ls)) (sym (lines-whole s ended)) ∙ fault

-- a piece that the reader takes
pub feeds : {old new : Reader} {bytes : List ℕ} {result : Result (Unit {0}) ReadError} → result ≡ Ok tt →
    ((s : List ℕ) → HasRead old s → HasRead new (s ++ bytes)) →
    ((e : ReadError) → HasFailed old e → (result ≡ Err e) × HasFailed new e) →
    (s : List ℕ) → HasReadOrFailed old s → HasReadOrFailed new (s ++ bytes)
feeds {old = old} {new = new} {bytes = bytes} {result = result} is ok again s (inl read) = inl (ok s read)
feeds {old = old} {new = new} {bytes = bytes} {result = result} is ok again s (inr (error, failed, shown)) = absurd (let no_error : Ok tt ≡ Err (Pyx error) = sym is ∙ (again (Pyx error) failed).0 in cc)

-- a piece with which the stream shows a fault
pub feeds_fault : {old new : Reader} (bytes : List ℕ) {result : Result (Unit {0}) ReadError} {fault : ReadError} {e : PyxError} → fault ≡ Pyx e → HasFailed new fault →
    ((s : List ℕ) → HasRead old s → Fails fault (shown_fault (s ++ bytes))) →
    ((e : ReadError) → HasFailed old e → (result ≡ Err e) × HasFailed new e) →
    (s : List ℕ) → HasReadOrFailed old s → HasReadOrFailed new (s ++ bytes)
feeds_fault {old = old} {new = new} bytes {result = result} {fault = fault} {e = e} is now fails again s (inl read) =
    inr (e, now ∙ ap (λ (f : ReadError). Some f) is, subst (λ (f : ReadError). Fails f (shown_fault (s ++ bytes))) is (fails s read))
feeds_fault {old = old} {new = new} bytes {result = result} {fault = fault} {e = e} is now fails again s (inr (error, failed, shown)) = inr (error, (again (Pyx error) failed).1, fault_shows s bytes error shown)

-- a line without its LF
pub without_last : (line rest : List ℕ) → rest ≡ line ++ 10 ∷ [] → take (length rest - 1) rest ≡ line
without_last line rest is =
    let size : length line ≡ length rest - 1 = omega (arith, ap length is, length-append line (10 ∷ [])) in
    ap (take (length rest - 1)) is ∙ take_at line (10 ∷ []) (length rest - 1) size

-- bytes of which a line and its LF consist
pub stands_ended : {old : Body} (new : Body) (ended : Bool) (line : List ℕ) {rest : List ℕ} → rest ≡ line ++ 10 ∷ [] → ((s : List ℕ) → AwaitsDot old s → AwaitsOrHasDot ended new (s ++ (line ++ 10 ∷ []))) →
    (s : List ℕ) → AwaitsDot old s → AwaitsOrHasDot ended new (s ++ rest)
stands_ended {old = old} new ended line {rest = rest} is stands s within = subst (λ (l : List ℕ). AwaitsOrHasDot ended new (s ++ l)) (sym is) (stands s within)

pub reads_ended : {old : Reader} {mid new : Body} (unread line : List ℕ) {rest : List ℕ} → new ≡ mid → rest ≡ line ++ 10 ∷ [] →
    ((s : List ℕ) → HasReadOrFailed old s → HasReadOrFailed mid.reader (s ++ (unread ++ rest))) →
    (s : List ℕ) → HasReadOrFailed old s → HasReadOrFailed new.reader (s ++ (unread ++ (line ++ 10 ∷ [])))
reads_ended {old = old} {mid = mid} {new = new} unread line {rest = rest} same is reads s read =
    subst (λ (b : Body). HasReadOrFailed b.reader (s ++ (unread ++ (line ++ 10 ∷ [])))) (sym same)
    (subst (λ (l : List ℕ). HasReadOrFailed mid.reader (s ++ (unread ++ l))) is (reads s read))

-- bytes behind those that were held
pub reads_both : {old mid new : Reader} (held : List ℕ) {unread bytes : List ℕ} (n : ℕ) → unread ≡ take n held →
    ((s : List ℕ) → HasReadOrFailed old s → HasReadOrFailed mid (s ++ unread)) →
    ((s : List ℕ) → HasReadOrFailed mid s → HasReadOrFailed new (s ++ bytes)) →
    (s : List ℕ) → HasReadOrFailed old s → HasReadOrFailed new (s ++ (take n held ++ bytes))
reads_both {old = old} {mid = mid} {new = new} held {unread = unread} {bytes = bytes} n is first second s read =
    subst (HasReadOrFailed new) (append_assoc s unread bytes ∙ ap (λ (l : List ℕ). s ++ (l ++ bytes)) is) (second (s ++ unread) (first s read))

-- a line that goes on with what stands before an LF
pub holds_ended : {old new : List ℕ} (line : List ℕ) {rest : List ℕ} {n : ℕ} → n ≡ length rest - 1 → rest ≡ line ++ 10 ∷ [] →
    ((prefix : List ℕ) → old ≡ take 3 prefix → new ≡ take 3 (prefix ++ take n rest)) → (prefix : List ℕ) → old ≡ take 3 prefix → new ≡ take 3 (prefix ++ line)
holds_ended {old = old} {new = new} line {rest = rest} {n = n} size is holds prefix held =
    holds prefix held ∙ ap (λ (l : List ℕ). take 3 (prefix ++ l)) (ap (λ (k : ℕ). take k rest) size ∙ without_last line rest is)

-- all bytes are taken
pub takes_whole : (old new : Body) (bytes : List ℕ) → ((s : List ℕ) → AwaitsDot old s → AwaitsDot new (s ++ bytes)) →
    (s : List ℕ) → AwaitsDot old s → AwaitsDot new (s ++ take (length bytes) bytes)
takes_whole old new bytes within s h = subst (λ (l : List ℕ). AwaitsDot new (s ++ l)) (sym (take_all (length bytes) bytes (omega arith))) (within s h)
