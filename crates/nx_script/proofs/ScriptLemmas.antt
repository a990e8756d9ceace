-- What a script has given as its bytes are looked at, and as more come.
use Rattle.std.proofs.Common.{◌≡◌, ◌⊎◌, inl, inr, ⊎_elim, ℕ, ◌+◌, ◌-◌, ◌<◌, ◌≤◌, Bool, true, false, List, [], ◌∷◌, ◌++◌, length, take, drop, Option, None, Some, IfSome, Result, Ok, Err, sym, ap, ◌∙◌, subst, arith, append_assoc, append-nil}
use Rattle.std.specs.Prelude.{◌↔◌, if◌then◌else◌}
use Rattle.std.specs.Bool.{MatchBool}
use Rattle.std.specs.Option.{is_some}
use Rattle.std.proofs.Math.Seq.{drop-drop}
use Rattle.std.proofs.lemmas.Bool.{MatchBool-at_true, MatchBool-at_false, false_from_ne_true}
use Rattle.std.proofs.lemmas.List.{length-drop, take-append-drop}
use Rattle.nx_host.specs.Input.{block_of, most_input}
use Rattle.nx_script.specs.declared.command.Command.{Command}
use Rattle.nx_script.specs.declared.error.ScriptError.{ScriptError}
use Rattle.nx_script.specs.declared.error.ScriptError.TheVariants.{Read, TooMuch, Memory}
use Rattle.nx_script.specs.declared.parser.Load.{Load}
use Rattle.nx_script.specs.declared.parser.Parser.{Parser}
use Rattle.nx_script.specs.declared.script.Script.{Script}
use Rattle.nx_script.specs.Commands.{has_dot, IsUnended, AreWhole, AreCommands}
use Rattle.nx_script.specs.Parser.{with_command, HoldsRest, HasParsed}
use Rattle.nx_script.specs.Script.{unread, IsDrained, HasGiven, HasGivenIn, StopsIn, Stops}
use Rattle.nx_lists.proofs.CaseLemmas.{match_true, match_false}

-- Bytes that are looked at.

-- a script that isn't finished has looked at these bytes
abbrev pub HasLooked : Script → List ℕ → List Command → Type 0
HasLooked script taken commands = (seen : List ℕ) × (taken ≡ seen ++ unread script) × HasParsed script.parser seen commands

pub looked : (script : Script) (taken : List ℕ) (commands : List Command) → script.finished ≡ false → HasGiven script taken commands → HasLooked script taken commands
looked script taken commands unfinished given = MatchBool-at_false (AreCommands taken commands) (HasLooked script taken commands) unfinished given.given

-- they are all bytes, where none is left
looked_at_all : (script : Script) (taken : List ℕ) (commands : List Command) → IsDrained script → script.finished ≡ false → HasGiven script taken commands →
    HasParsed script.parser taken commands
looked_at_all script taken commands drained unfinished given =
    let (seen, parts, parsed) = looked script taken commands unfinished given in
    subst (λ (l : List ℕ). HasParsed script.parser l commands) (sym (parts ∙ ap (λ (l : List ℕ). seen ++ l) drained ∙ append-nil seen)) parsed

-- bytes are left, so it isn't finished
unfinished_by_bytes : (script : Script) (taken : List ℕ) (commands : List Command) → script.start < length (block_of script.input) → HasGiven script taken commands →
    script.finished ≡ false
unfinished_by_bytes script taken commands some given =
    false_from_ne_true script.finished (λ is.
    let none : length (unread script) ≡ 0 = ap length (given.drained is) in
    let left : length (unread script) ≡ length (block_of script.input) - script.start = length-drop script.start (block_of script.input) in
    omega arith)

-- the first of the bytes that are left are looked at
pub looks_at : {old : Script} {parser : Parser} {bytes : List ℕ} (n : ℕ) (command : Option Command) → old.start < length (block_of old.input) → bytes ≡ unread old →
    ((seen : List ℕ) (commands : List Command) → HasParsed old.parser seen commands → HasParsed parser (seen ++ take n bytes) (with_command commands command)) →
    (taken : List ℕ) (commands : List Command) → HasGiven old taken commands →
    HasGiven (record old { parser = parser; start = old.start + n }) taken (with_command commands command)
looks_at {old = old} {parser = parser} {bytes = bytes} n command some is parses taken commands given =
    let new = record old { parser = parser; start = old.start + n } in
    let unfinished : old.finished ≡ false = unfinished_by_bytes old taken commands some given in
    let (seen, parts, parsed) = looked old taken commands unfinished given in
    let left : drop n bytes ≡ unread new = ap (drop n) is ∙ drop-drop n old.start (block_of old.input) in
    record {
      counted = given.counted;
      ended = λ now. absurd (let no_end : true ≡ false = sym now ∙ unfinished in cc);
      drained = λ now. absurd (let no_end : true ≡ false = sym now ∙ unfinished in cc);
      given = match_false (AreCommands taken (with_command commands command)) (HasLooked new taken (with_command commands command)) old.finished unfinished (
        seen ++ take n bytes,
        parts
            ∙ ap (λ (l : List ℕ). seen ++ l) (sym is ∙ sym (take-append-drop n bytes) ∙ ap (λ (l : List ℕ). take n bytes ++ l) left)
            ∙ sym (append_assoc seen (take n bytes) (unread new)),
        parses seen commands parsed,
      );
    }

-- The end of the input.

-- the commands of a parser's bytes are whole
pub parsed_whole : (parser : Parser) (seen : List ℕ) (commands : List Command) → HasParsed parser seen commands → AreWhole seen commands
parsed_whole parser seen commands parsed = (parsed.rest, parsed.gives, unended parser.load parsed.rest parsed.keeps)
  where
    unended : (load : Option Load) (rest : List (List ℕ)) → HoldsRest load parser.held seen rest → IsUnended rest
    unended None rest (none, held) = subst IsUnended (sym none) tt
    unended (Some load) [] keeps = absurd keeps
    unended (Some load) (head ∷ ls) (none, loading) = (loading.begins, ap has_dot (sym loading.lines_are) ∙ loading.within.undotted)

-- the last command is given, if there is one
pub ends_by : {old : Script} {parser : Parser} (last : Option Command) → IsDrained old → old.finished ≡ false → old.ended ≡ true →
    ((seen : List ℕ) (commands : List Command) → HasParsed old.parser seen commands → AreCommands seen (with_command commands last)) →
    (taken : List ℕ) (commands : List Command) → HasGiven old taken commands → HasGiven (record old { parser = parser; finished = true }) taken (with_command commands last)
ends_by {old = old} {parser = parser} last drained unfinished ended parses taken commands given = record {
  counted = given.counted;
  ended = λ _. ended;
  drained = λ _. drained;
  given = parses taken commands (looked_at_all old taken commands drained unfinished given);
}

-- What holds where no command is left of the bytes.
abbrev pub HasNone : Script → List ℕ → List Command → Type 0
HasNone script taken commands = HasGiven script taken commands × MatchBool script.ended (AreCommands taken commands) (AreWhole taken commands)

-- a finished script
pub none_finished : (script : Script) → script.finished ≡ true → (taken : List ℕ) (commands : List Command) → HasGiven script taken commands →
    HasNone script taken commands
none_finished script finished taken commands given = (
  given,
  match_true (AreCommands taken commands) (AreWhole taken commands) script.ended (given.ended finished)
      (MatchBool-at_true (AreCommands taken commands) (HasLooked script taken commands) finished given.given),
)

-- the script has finished, and no command was left
pub ends_none : {old new : Script} (last : Option Command) → ◌≡◌ {A = Result (Option Command) ScriptError} (Ok last) (Ok None) → new.finished ≡ true →
    ((taken : List ℕ) (commands : List Command) → HasGiven old taken commands → HasGiven new taken (with_command commands last)) →
    (taken : List ℕ) (commands : List Command) → HasGiven old taken commands → HasNone new taken commands
ends_none {old = old} {new = new} None is finished gives taken commands given = none_finished new finished taken commands (gives taken commands given)
ends_none {old = old} {new = new} (Some command) is finished gives taken commands given = absurd (cc)

-- a command that was given
pub gives_some : (old new : Script) (command : Option Command) →
    ((taken : List ℕ) (commands : List Command) → HasGiven old taken commands → HasGiven new taken (with_command commands command)) →
    IfSome command (λ c. (taken : List ℕ) (commands : List Command) → HasGiven old taken commands → HasGiven new taken (commands ++ c ∷ []))
gives_some old new None gives = tt
gives_some old new (Some command) gives = gives

-- no command was given yet
pub gives_none : (old new : Script) (command : Option Command) → is_some command ≡ false →
    ((taken : List ℕ) (commands : List Command) → HasGiven old taken commands → HasGiven new taken (with_command commands command)) →
    (taken : List ℕ) (commands : List Command) → HasGiven old taken commands → HasGiven new taken commands
gives_none old new None is gives = gives
gives_none old new (Some command) is gives = absurd (let some : true ≡ false = is in cc)

-- What was given of an input.

pub in_input : {old new : Script} {taken : List ℕ} {commands now_commands : List Command} {first now : Option (List ℕ)} → new.ended ≡ old.ended →
    HasGivenIn old taken commands first now → HasGiven new taken now_commands → HasGivenIn new taken now_commands first now
in_input {old = old} {new = new} {taken = taken} {commands = commands} {now_commands = now_commands} {first = first} {now = now} same given gives = record {
  given = gives;
  takes = given.takes;
  end = λ is. given.end (sym same ∙ is);
}

-- the input goes on
pub smaller : {was mid now : ℕ} {was_ended mid_ended : Bool} (now_ended : Bool) → mid ≡ was → mid_ended ≡ was_ended → mid_ended ≡ false → mid ≤ now → now ≤ most_input →
    (mid < now) ⊎ (now_ended ≡ true) → (most_input - now) + (if now_ended then 0 else 1) < (most_input - was) + (if was_ended then 0 else 1)
smaller {was = was} {mid = mid} {now = now} {was_ended = was_ended} {mid_ended = mid_ended} true same same_end unended le few more = by_end was_ended (sym same_end ∙ unended)
  where
    by_end : (ended : Bool) → ended ≡ false → (most_input - now) + 0 < (most_input - was) + (if ended then 0 else 1)
    by_end true is = absurd (let no_end : true ≡ false = is in cc)
    by_end false is = omega arith
smaller {was = was} {mid = mid} {now = now} {was_ended = was_ended} {mid_ended = mid_ended} false same same_end unended le few (inl more) = by_end was_ended (sym same_end ∙ unended)
  where
    by_end : (ended : Bool) → ended ≡ false → (most_input - now) + 1 < (most_input - was) + (if ended then 0 else 1)
    by_end true is = absurd (let no_end : true ≡ false = is in cc)
    by_end false is = omega arith
smaller {was = was} {mid = mid} {now = now} {was_ended = was_ended} {mid_ended = mid_ended} false same same_end unended le few (inr ended) = absurd (let no_end : false ≡ true = ended in cc)

-- the input gives no more
pub stops : {mid new : Script} {error : ScriptError} {first was now : Option (List ℕ)} (taken more : List ℕ) {commands : List Command} → (error ≡ Read) ⊎ (error ≡ TooMuch) →
    ◌≡◌ {A = Result (Unit {0}) ScriptError} (Err error) (Err TooMuch) ↔ (mid.input.taken ≡ most_input) → mid.ended ≡ false →
    HasGivenIn mid (taken ++ more) commands first was → HasNone mid (taken ++ more) commands → HasGivenIn new (taken ++ more) commands first now →
    Stops error new taken commands first now
stops {mid = mid} {new = new} {error = error} {first = first} {was = was} {now = now} taken more {commands = commands} is too_much unended given (gives, all) after =
    let few : mid.input.taken ≤ most_input = mid.input.few in
    let stopped : StopsIn (taken ++ more) commands first now =
    record { takes = after.takes; whole = MatchBool-at_false (AreCommands (taken ++ more) commands) (AreWhole (taken ++ more) commands) unended all } in
    let counted : mid.input.taken ≡ length (taken ++ more) = gives.counted in
    ⊎_elim
    (λ (read : error ≡ Read).
    let below : mid.input.taken ≡ most_input → ⊥ = λ all_taken. let no_read : ◌≡◌ {A = Result (Unit {0}) ScriptError} (Err Read) (Err TooMuch) = ap (λ e. Err e) (sym read) ∙ too_much.1 all_taken in cc in
    subst (λ (e : ScriptError). Stops e new taken commands first now) (sym read) (more, after, (let e : length (taken ++ more) < most_input = omega arith in e), stopped))
    (λ (much : error ≡ TooMuch).
    let all_taken : mid.input.taken ≡ most_input = too_much.0 (ap (λ e. Err e) much) in
    subst (λ (e : ScriptError). Stops e new taken commands first now) (sym much) (more, after, sym counted ∙ all_taken, stopped))
    is

-- memory runs out, and no further byte was taken
pub stops_memory : {old : Script} (new : Script) {error : ScriptError} {first now : Option (List ℕ)} (taken more : List ℕ) {commands : List Command} → error ≡ Memory →
    new.input.taken ≡ old.input.taken → HasGivenIn old (taken ++ more) commands first now → Stops error new taken commands first now
stops_memory {old = old} new {first = first} {now = now} taken more {commands = commands} is same given =
    let counted : old.input.taken ≡ length (taken ++ more) = given.given.counted in
    let few : old.input.taken ≤ most_input = old.input.few in
    subst (λ (e : ScriptError). Stops e new taken commands first now) (sym is)
    (more, record { counted = same ∙ counted; takes = given.takes }, (let e : length (taken ++ more) ≤ most_input = omega (arith, counted, few) in e))
