-- What lines a script has given as its bytes are looked at, and as more come.
use Rattle.std.proofs.Common.{◌≡◌, ◌⊎◌, ⊎_elim, ℕ, ◌+◌, ◌-◌, ◌<◌, ◌≤◌, true, false, List, [], ◌∷◌, ◌++◌, length, take, drop, Option, None, Some, IfSome, Result, Ok, Err, refl, sym, ap, ◌∙◌, subst, arith, append_assoc, append-nil}
use Rattle.std.specs.Prelude.{◌↔◌}
use Rattle.std.specs.Bool.{MatchBool}
use Rattle.std.specs.Option.{is_some}
use Rattle.std.proofs.Math.Seq.{drop-drop}
use Rattle.std.proofs.lemmas.Bool.{MatchBool-at_true, MatchBool-at_false, false_from_ne_true}
use Rattle.std.proofs.lemmas.List.{length-drop, take-append-drop}
use Rattle.nx_host.specs.Input.{block_of, most_input}
use Rattle.nx_script.specs.declared.whole.Line.{Line}
use Rattle.nx_script.specs.declared.error.ScriptError.{ScriptError}
use Rattle.nx_script.specs.declared.error.ScriptError.TheVariants.{Read, TooMuch, Memory}
use Rattle.nx_script.specs.declared.parser.Parser.{Parser}
use Rattle.nx_script.specs.declared.script.Script.{Script}
use Rattle.nx_script.specs.Script.{unread, IsDrained}
use Rattle.nx_script.specs.Whole.{AreLines, AreEnded, with_line, HasHeld, HasCut, HasCutIn, StopsCut, StopsCutting}
use Rattle.nx_lists.proofs.CaseLemmas.{match_true, match_false}

-- Bytes that are looked at.

-- a script that isn't finished has looked at these bytes
abbrev pub HasSeen : Script → List ℕ → List Line → Type 0
HasSeen script taken lines = (seen : List ℕ) × (taken ≡ seen ++ unread script) × HasHeld script.parser seen lines

pub looked : (script : Script) (taken : List ℕ) (lines : List Line) → script.finished ≡ false → HasCut script taken lines → HasSeen script taken lines
looked script taken lines unfinished given = MatchBool-at_false (AreLines taken lines) (HasSeen script taken lines) unfinished given.given

-- they are all bytes, where none is left
looked_at_all : (script : Script) (taken : List ℕ) (lines : List Line) → IsDrained script → script.finished ≡ false → HasCut script taken lines →
    HasHeld script.parser taken lines
looked_at_all script taken lines drained unfinished given =
    let (seen, parts, parsed) = looked script taken lines unfinished given in
    subst (λ (l : List ℕ). HasHeld script.parser l lines) (sym (parts ∙ ap (λ (l : List ℕ). seen ++ l) drained ∙ append-nil seen)) parsed

-- bytes are left, so it isn't finished
unfinished_by_bytes : (script : Script) (taken : List ℕ) (lines : List Line) → script.start < length (block_of script.input) → HasCut script taken lines →
    script.finished ≡ false
unfinished_by_bytes script taken lines some given =
    false_from_ne_true script.finished (λ is.
    let none : length (unread script) ≡ 0 = ap length (given.drained is) in
    let left : length (unread script) ≡ length (block_of script.input) - script.start = length-drop script.start (block_of script.input) in
    omega arith)

-- the first of the bytes that are left are looked at
pub looks_at : {old : Script} {parser : Parser} {bytes : List ℕ} (n : ℕ) (line : Option Line) → old.start < length (block_of old.input) → bytes ≡ unread old →
    ((seen : List ℕ) (lines : List Line) → HasHeld old.parser seen lines → HasHeld parser (seen ++ take n bytes) (with_line lines line)) →
    (taken : List ℕ) (lines : List Line) → HasCut old taken lines →
    HasCut (record old { parser = parser; start = old.start + n }) taken (with_line lines line)
looks_at {old = old} {parser = parser} {bytes = bytes} n line some is parses taken lines given =
    let new = record old { parser = parser; start = old.start + n } in
    let unfinished : old.finished ≡ false = unfinished_by_bytes old taken lines some given in
    let (seen, parts, parsed) = looked old taken lines unfinished given in
    let left : drop n bytes ≡ unread new = ap (drop n) is ∙ drop-drop n old.start (block_of old.input) in
    record {
      counted = given.counted;
      ended = λ now. absurd (let no_end : true ≡ false = sym now ∙ unfinished in cc);
      drained = λ now. absurd (let no_end : true ≡ false = sym now ∙ unfinished in cc);
      given = match_false (AreLines taken (with_line lines line)) (HasSeen new taken (with_line lines line)) old.finished unfinished (
        seen ++ take n bytes,
        parts
            ∙ ap (λ (l : List ℕ). seen ++ l) (sym is ∙ sym (take-append-drop n bytes) ∙ ap (λ (l : List ℕ). take n bytes ++ l) left)
            ∙ sym (append_assoc seen (take n bytes) (unread new)),
        parses seen lines parsed,
      );
    }

-- The end of the input.

-- a parser's lines are those that an LF ended
pub parsed_whole : (parser : Parser) (seen : List ℕ) (lines : List Line) → HasHeld parser seen lines → AreEnded seen lines
parsed_whole parser seen lines held = held.gives

-- the last line is given, if there is one
pub ends_by : {old : Script} {parser : Parser} (last : Option Line) → IsDrained old → old.finished ≡ false → old.ended ≡ true →
    ((seen : List ℕ) (lines : List Line) → HasHeld old.parser seen lines → AreLines seen (with_line lines last)) →
    (taken : List ℕ) (lines : List Line) → HasCut old taken lines → HasCut (record old { parser = parser; finished = true }) taken (with_line lines last)
ends_by {old = old} {parser = parser} last drained unfinished ended parses taken lines given = record {
  counted = given.counted;
  ended = λ _. ended;
  drained = λ _. drained;
  given = parses taken lines (looked_at_all old taken lines drained unfinished given);
}

-- What holds where no line is left of the bytes.
abbrev pub HasNoLine : Script → List ℕ → List Line → Type 0
HasNoLine script taken lines = HasCut script taken lines × MatchBool script.ended (AreLines taken lines) (AreEnded taken lines)

-- a finished script
pub none_finished : (script : Script) → script.finished ≡ true → (taken : List ℕ) (lines : List Line) → HasCut script taken lines →
    HasNoLine script taken lines
none_finished script finished taken lines given = (
  given,
  match_true (AreLines taken lines) (AreEnded taken lines) script.ended (given.ended finished)
      (MatchBool-at_true (AreLines taken lines) (HasSeen script taken lines) finished given.given),
)

-- a script whose input goes on, where every byte was looked at
pub none_unended : (script : Script) → script.ended ≡ false → IsDrained script → (taken : List ℕ) (lines : List Line) → HasCut script taken lines → HasNoLine script taken lines
none_unended script unended drained taken lines given =
    let unfinished : script.finished ≡ false = false_from_ne_true script.finished (λ is. let no_end : true ≡ false = sym (given.ended is) ∙ unended in cc) in
    (given, match_false (AreLines taken lines) (AreEnded taken lines) script.ended unended (looked_at_all script taken lines drained unfinished given).gives)

-- the script has finished, and no line was left
pub ends_none : {old new : Script} (last : Option Line) → ◌≡◌ {A = Result (Option Line) ScriptError} (Ok last) (Ok None) → new.finished ≡ true →
    ((taken : List ℕ) (lines : List Line) → HasCut old taken lines → HasCut new taken (with_line lines last)) →
    (taken : List ℕ) (lines : List Line) → HasCut old taken lines → HasNoLine new taken lines
ends_none {old = old} {new = new} None is finished gives taken lines given = none_finished new finished taken lines (gives taken lines given)
ends_none {old = old} {new = new} (Some line) is finished gives taken lines given = absurd (cc)

-- a line that was given
pub gives_some : (old new : Script) (line : Option Line) →
    ((taken : List ℕ) (lines : List Line) → HasCut old taken lines → HasCut new taken (with_line lines line)) →
    IfSome line (λ c. (taken : List ℕ) (lines : List Line) → HasCut old taken lines → HasCut new taken (lines ++ c ∷ []))
gives_some old new None gives = tt
gives_some old new (Some line) gives = gives

-- no line was given yet
pub gives_none : (old new : Script) (line : Option Line) → is_some line ≡ false →
    ((taken : List ℕ) (lines : List Line) → HasCut old taken lines → HasCut new taken (with_line lines line)) →
    (taken : List ℕ) (lines : List Line) → HasCut old taken lines → HasCut new taken lines
gives_none old new None is gives = gives
gives_none old new (Some line) is gives = absurd (let some : true ≡ false = is in cc)

-- What was given of an input.

pub in_input : {old new : Script} {taken : List ℕ} {lines now_commands : List Line} {first now : Option (List ℕ)} → new.ended ≡ old.ended →
    HasCutIn old taken lines first now → HasCut new taken now_commands → HasCutIn new taken now_commands first now
in_input {old = old} {new = new} {taken = taken} {lines = lines} {now_commands = now_commands} {first = first} {now = now} same given gives = record {
  given = gives;
  takes = given.takes;
  end = λ is. given.end (sym same ∙ is);
}

-- no line was left
pub no_line : (line : Option Line) → is_some line ≡ false → ◌≡◌ {A = Result (Option Line) ScriptError} (Ok line) (Ok None)
no_line None is = refl
no_line (Some line) is = absurd (let some : true ≡ false = is in cc)

-- the input gives no more
pub stops : {mid new : Script} {error : ScriptError} {first was now : Option (List ℕ)} (taken more : List ℕ) {lines : List Line} → (error ≡ Read) ⊎ (error ≡ TooMuch) →
    ◌≡◌ {A = Result (Unit {0}) ScriptError} (Err error) (Err TooMuch) ↔ (mid.input.taken ≡ most_input) → mid.ended ≡ false →
    HasCutIn mid (taken ++ more) lines first was → HasNoLine mid (taken ++ more) lines → HasCutIn new (taken ++ more) lines first now →
    StopsCutting error new taken lines first now
stops {mid = mid} {new = new} {error = error} {first = first} {was = was} {now = now} taken more {lines = lines} is too_much unended given (gives, all) after =
    let few : mid.input.taken ≤ most_input = mid.input.few in
    let stopped : StopsCut (taken ++ more) lines first now =
    record { takes = after.takes; whole = MatchBool-at_false (AreLines (taken ++ more) lines) (AreEnded (taken ++ more) lines) unended all } in
    let counted : mid.input.taken ≡ length (taken ++ more) = gives.counted in
    ⊎_elim
    (λ (read : error ≡ Read).
    let below : mid.input.taken ≡ most_input → ⊥ = λ all_taken. let no_read : ◌≡◌ {A = Result (Unit {0}) ScriptError} (Err Read) (Err TooMuch) = ap (λ e. Err e) (sym read) ∙ too_much.1 all_taken in cc in
    subst (λ (e : ScriptError). StopsCutting e new taken lines first now) (sym read) (more, after, (let e : length (taken ++ more) < most_input = omega arith in e), stopped))
    (λ (much : error ≡ TooMuch).
    let all_taken : mid.input.taken ≡ most_input = too_much.0 (ap (λ e. Err e) much) in
    subst (λ (e : ScriptError). StopsCutting e new taken lines first now) (sym much) (more, after, sym counted ∙ all_taken, stopped))
    is

-- memory runs out, and no further byte was taken
pub stops_memory : {old : Script} (new : Script) {error : ScriptError} {first now : Option (List ℕ)} (taken more : List ℕ) {lines : List Line} → error ≡ Memory →
    new.input.taken ≡ old.input.taken → HasCutIn old (taken ++ more) lines first now → StopsCutting error new taken lines first now
stops_memory {old = old} new {first = first} {now = now} taken more {lines = lines} is same given =
    let counted : old.input.taken ≡ length (taken ++ more) = given.given.counted in
    let few : old.input.taken ≤ most_input = old.input.few in
    subst (λ (e : ScriptError). StopsCutting e new taken lines first now) (sym is)
    (more, record { counted = same ∙ counted; takes = given.takes }, (let e : length (taken ++ more) ≤ most_input = omega (arith, counted, few) in e))
