-- What a parser has made of bytes as more come, and at their end.
use Rattle.std.proofs.Common.{◌≡◌, ℕ, zero, suc, ◌+◌, ◌<◌, Bool, true, false, List, [], ◌∷◌, ◌++◌, length, take, Option, None, Some, refl, sym, ap, ◌∙◌, subst, arith, append-nil, take_all}
use Rattle.std.specs.Prelude.{codes, ◌==◌}
use Rattle.std.proofs.lemmas.Bool.{or_from}
use Rattle.std.proofs.lemmas.List.Folds.{list_any-append}
use Rattle.std.proofs.lemmas.Slice.Eq.{bytes_eq-Decides}
use Rattle.nx_pyx.specs.Lines.{cut, without_cr, last_line, ended_lines, lines, has_lf, EndsLine}
use Rattle.nx_pyx.proofs.ShownFaultLemmas.{cut-rest, ended_lines-append}
use Rattle.nx_pyx.proofs.StreamLemmas.{ended_lines-held, ended_lines-ended, nothing_held}
use Rattle.nx_script.specs.declared.body.Body.{Body}
use Rattle.nx_script.specs.declared.command.Command.{Command}
use Rattle.nx_script.specs.declared.command.Command.TheVariants.{Bad}
use Rattle.nx_script.specs.declared.parser.Load.{Load}
use Rattle.nx_script.specs.declared.parser.Parser.{Parser}
use Rattle.nx_script.specs.Line.{command_of}
use Rattle.nx_script.specs.Commands.{begins_load, is_dot, has_dot, loaded_name, IsLoadCommand, IsWholeCommand, SplitsInto, AreCommands}
use Rattle.nx_script.specs.Body.{HasReadLines, AwaitsDot, IsEndedBy}
use Rattle.nx_script.specs.Parser.{most_held, with_command, IsLoading, HoldsRest, HasParsed, AddsLine, MeansSame}
use Rattle.nx_script.proofs.Prefixes.{means_same, dot_prefix}
use Rattle.nx_script.proofs.SplitsIntoLemmas.{gives_longer, gives_then, whole_line, whole_load}
use Rattle.nx_script.proofs.LinesLemmas.{rest-held, rest-ended, rest-append, lines-whole}
use Rattle.nx_script.proofs.DocumentLines.{read_prefix, line_taken}

-- nothing is held: there was nothing
pub none_held : (n : ℕ) (held rest : List ℕ) → 0 < n → held ≡ take n rest → held ≡ [] → rest ≡ []
none_held n held [] some is none = refl
none_held zero held (b ∷ rest) some is none = absurd (omega arith)
none_held (suc n) held (b ∷ rest) some is none = absurd (let no_byte : [] ≡ b ∷ take n rest = sym none ∙ is in cc)

-- what is kept outside a document
kept_outside : (parser : Parser) (seen : List ℕ) (commands : List Command) → parser.load ≡ None → HasParsed parser seen commands →
    SplitsInto (ended_lines seen) commands [] × (parser.held ≡ take most_held (cut seen).rest)
kept_outside parser seen commands outside parsed =
    let (none, held) = subst (λ (l : Option Load). HoldsRest l parser.held seen parsed.rest) outside parsed.keeps in
    (subst (λ (ls : List (List ℕ)). SplitsInto (ended_lines seen) commands ls) none parsed.gives, held)

-- a parser outside a document that has parsed these bytes
parsed_outside : (parser : Parser) (seen : List ℕ) (commands : List Command) → parser.load ≡ None → SplitsInto (ended_lines seen) commands [] →
    parser.held ≡ take most_held (cut seen).rest → HasParsed parser seen commands
parsed_outside parser seen commands outside gives held =
    record { rest = []; gives = gives; keeps = subst (λ (l : Option Load). HoldsRest l parser.held seen []) (sym outside) (refl, held) }

-- more of a line is held
pub holds_line : {old new : Parser} {bytes : List ℕ} → has_lf bytes ≡ false → old.load ≡ None → new.load ≡ old.load →
    ((line : List ℕ) → old.held ≡ take most_held line → new.held ≡ take most_held (line ++ bytes)) →
    (seen : List ℕ) (commands : List Command) → HasParsed old seen commands → HasParsed new (seen ++ bytes) commands
holds_line {old = old} {new = new} {bytes = bytes} unbroken outside same holds seen commands parsed =
    let (gives, held) = kept_outside old seen commands outside parsed in
    parsed_outside new (seen ++ bytes) commands (same ∙ outside)
    (subst (λ (ls : List (List ℕ)). SplitsInto ls commands []) (sym (ended_lines-held seen bytes unbroken)) gives)
    (holds (cut seen).rest held ∙ ap (take most_held) (sym (rest-held seen bytes unbroken)))

-- a line ends
pub adds_line : {old new : Parser} {bytes line : List ℕ} (command : Option Command) → has_lf bytes ≡ false → (old.load ≡ None) × (new.held ≡ []) →
    ((rest : List ℕ) → old.held ≡ take most_held rest → MeansSame line (without_cr (rest ++ bytes))) → AddsLine line new command →
    (seen : List ℕ) (commands : List Command) → HasParsed old seen commands → HasParsed new (seen ++ (bytes ++ 10 ∷ [])) (with_command commands command)
adds_line {old = old} {new = new} {bytes = bytes} {line = line} command unbroken (outside, none) means adds seen commands parsed =
    let (gives, held) = kept_outside old seen commands outside parsed in
    let whole : List ℕ = without_cr ((cut seen).rest ++ bytes) in
    by_command command (means (cut seen).rest held) adds
    (subst (λ (ls : List (List ℕ)). SplitsInto ls commands (whole ∷ [])) (sym (ended_lines-ended seen bytes unbroken))
    (gives_longer (ended_lines seen) commands [] (whole ∷ []) gives))
  where
    by_command : (c : Option Command) → MeansSame line (without_cr ((cut seen).rest ++ bytes)) → AddsLine line new c →
        SplitsInto (ended_lines (seen ++ (bytes ++ 10 ∷ []))) commands (without_cr ((cut seen).rest ++ bytes) ∷ []) →
        HasParsed new (seen ++ (bytes ++ 10 ∷ [])) (with_command commands c)
    by_command (Some c) same (begins, is, after) gives =
        let whole : List ℕ = without_cr ((cut seen).rest ++ bytes) in
        parsed_outside new (seen ++ (bytes ++ 10 ∷ [])) (commands ++ c ∷ []) after
        (gives_then (ended_lines (seen ++ (bytes ++ 10 ∷ []))) commands (whole ∷ []) [] c gives (whole_line whole c (sym same.begins ∙ begins) (is ∙ same.command)))
        (none ∙ ap (take most_held) (sym (rest-ended seen bytes unbroken)))
    by_command None same (begins, load, is, named, within) gives =
        let whole : List ℕ = without_cr ((cut seen).rest ++ bytes) in
        record {
          rest = whole ∷ [];
          gives = gives;
          keeps = subst (λ (l : Option Load). HoldsRest l new.held (seen ++ (bytes ++ 10 ∷ [])) (whole ∷ [])) (sym is) (
            none,
            record {
              begins = sym same.begins ∙ begins;
              named = named ∙ same.name;
              stream = [];
              lines_are = refl;
              same_rest = sym (rest-ended seen bytes unbroken);
              within = within;
            },
          );
        }

-- nothing was held: the line is whole
pub means_whole : (line bytes held : List ℕ) → line ≡ without_cr bytes → (length held == 0) ≡ true → (rest : List ℕ) → held ≡ take most_held rest →
    MeansSame line (without_cr (rest ++ bytes))
means_whole line bytes held is empty rest held_is =
    subst (λ (l : List ℕ). MeansSame line l)
    (is ∙ ap (λ (r : List ℕ). without_cr (r ++ bytes)) (sym (none_held most_held held rest (omega arith) held_is (nothing_held held held refl empty))))
    (record { begins = refl; name = refl; command = refl })

-- as much of the line is held as is needed
pub means_held : (line held whole : List ℕ) → line ≡ without_cr held → held ≡ take most_held whole → MeansSame line (without_cr whole)
means_held line held whole is held_is =
    subst (λ (l : List ℕ). MeansSame l (without_cr whole)) (sym (is ∙ ap without_cr held_is)) (means_same most_held whole (omega arith))

-- A document's lines.

-- the lines behind the `load` as bytes come
behind_more : (load : Load) (seen bytes head : List ℕ) (ls : List (List ℕ)) (commands : List Command) (loading : IsLoading load seen head ls) →
    SplitsInto (ended_lines seen) commands (head ∷ ls) → SplitsInto (ended_lines (seen ++ bytes)) commands (head ∷ ended_lines (loading.stream ++ bytes))
behind_more load seen bytes head ls commands loading gives =
    let more : ended_lines (loading.stream ++ bytes) ≡ ls ++ ended_lines ((cut seen).rest ++ bytes) =
    ended_lines-append loading.stream bytes
    ∙ ap (λ (l : List (List ℕ)). l ++ ended_lines ((cut loading.stream).rest ++ bytes)) loading.lines_are
    ∙ ap (λ (rest : List ℕ). ls ++ ended_lines (rest ++ bytes)) loading.same_rest in
    subst (λ (l : List (List ℕ)). SplitsInto (ended_lines (seen ++ bytes)) commands (head ∷ l)) (sym more)
    (subst (λ (l : List (List ℕ)). SplitsInto l commands (head ∷ (ls ++ ended_lines ((cut seen).rest ++ bytes)))) (sym (ended_lines-append seen bytes))
    (gives_longer (ended_lines seen) commands (head ∷ ls) (ended_lines ((cut seen).rest ++ bytes)) gives))

same_rest-more : (load : Load) (seen bytes head : List ℕ) (ls : List (List ℕ)) (loading : IsLoading load seen head ls) →
    (cut (loading.stream ++ bytes)).rest ≡ (cut (seen ++ bytes)).rest
same_rest-more load seen bytes head ls loading =
    rest-append loading.stream bytes ∙ ap (λ (rest : List ℕ). (cut (rest ++ bytes)).rest) loading.same_rest ∙ sym (rest-append seen bytes)

module _ (old : Parser) {new : Parser} {load : Load} {body : Body} {bytes : List ℕ} where
  -- no dot has come
  pub body_goes_on : new.load ≡ Some (record { name = load.name; body = body }) → new.held ≡ old.held →
      ((s : List ℕ) → AwaitsDot load.body s → AwaitsDot body (s ++ bytes)) →
      (seen : List ℕ) (commands : List Command) → HasParsed (record old { load = Some load }) seen commands → HasParsed new (seen ++ bytes) commands
  body_goes_on is same within seen commands parsed = by_rest parsed.rest parsed.gives parsed.keeps
    where
      by_rest : (rest : List (List ℕ)) → SplitsInto (ended_lines seen) commands rest → HoldsRest (Some load) old.held seen rest → HasParsed new (seen ++ bytes) commands
      by_rest [] gives keeps = absurd keeps
      by_rest (head ∷ ls) gives (none, loading) = record {
        rest = head ∷ ended_lines (loading.stream ++ bytes);
        gives = behind_more load seen bytes head ls commands loading gives;
        keeps = subst (λ (l : Option Load). HoldsRest l new.held (seen ++ bytes) (head ∷ ended_lines (loading.stream ++ bytes))) (sym is) (
          same ∙ none,
          record {
            begins = loading.begins;
            named = loading.named;
            stream = loading.stream ++ bytes;
            lines_are = refl;
            same_rest = same_rest-more load seen bytes head ls loading;
            within = within loading.stream loading.within;
          },
        );
      }

  -- a dot has come
  pub body_ends : (command : Command) → (new.load ≡ None) × (new.held ≡ old.held) →
      ((s : List ℕ) → AwaitsDot load.body s → IsEndedBy body (s ++ bytes)) →
      ((line s : List ℕ) → load.name ≡ loaded_name line → HasReadLines body.reader s → IsLoadCommand line (ended_lines s) command) →
      (seen : List ℕ) (commands : List Command) → HasParsed (record old { load = Some load }) seen commands → HasParsed new (seen ++ bytes) (commands ++ command ∷ [])
  body_ends command (outside, same) ends loads seen commands parsed = by_rest parsed.rest parsed.gives parsed.keeps
    where
      by_rest : (rest : List (List ℕ)) → SplitsInto (ended_lines seen) commands rest → HoldsRest (Some load) old.held seen rest → HasParsed new (seen ++ bytes) (commands ++ command ∷ [])
      by_rest [] gives keeps = absurd keeps
      by_rest (head ∷ ls) gives (none, loading) =
          let end = ends loading.stream loading.within in
          let own : List (List ℕ) = head ∷ (ended_lines end.prefix ++ codes "." ∷ []) in
          let left : (cut (seen ++ bytes)).rest ≡ [] = sym (same_rest-more load seen bytes head ls loading) ∙ end.ended in
          parsed_outside new (seen ++ bytes) (commands ++ command ∷ []) outside
          (gives_then (ended_lines (seen ++ bytes)) commands own [] command
          (subst (λ (l : List (List ℕ)). SplitsInto (ended_lines (seen ++ bytes)) commands l) (ap (λ (l : List (List ℕ)). head ∷ l) end.lines_are ∙ sym (append-nil own))
          (behind_more load seen bytes head ls commands loading gives))
          (whole_load head (ended_lines end.prefix) command loading.begins end.undotted (loads head end.prefix loading.named end.read)))
          (same ∙ none ∙ ap (take most_held) (sym left))

-- The end of all bytes.

-- all that is left of the bytes is in the lines
gives_lines : (seen : List ℕ) (commands : List Command) (rest : List (List ℕ)) → SplitsInto (ended_lines seen) commands rest →
    SplitsInto (lines seen) commands (rest ++ last_line (cut seen).rest)
gives_lines seen commands rest gives = gives_longer (ended_lines seen) commands rest (last_line (cut seen).rest) gives

-- the whole script is one command more than what was whole
one_more : (seen : List ℕ) (commands : List Command) (own : List (List ℕ)) (command : Command) → SplitsInto (lines seen) commands own → IsWholeCommand own command →
    AreCommands seen (commands ++ command ∷ [])
one_more seen commands own command gives whole = (
  commands ++ command ∷ [],
  [],
  gives_then (lines seen) commands own [] command (subst (λ (l : List (List ℕ)). SplitsInto (lines seen) commands l) (sym (append-nil own)) gives) whole,
  tt,
  sym (append-nil (commands ++ command ∷ [])),
)

-- no byte is held
pub last_none : (parser : Parser) → parser.load ≡ None → (length parser.held == 0) ≡ true → (seen : List ℕ) (commands : List Command) → HasParsed parser seen commands →
    AreCommands seen commands
last_none parser outside empty seen commands parsed =
    let (gives, held) = kept_outside parser seen commands outside parsed in
    let none : (cut seen).rest ≡ [] = none_held most_held parser.held (cut seen).rest (omega arith) held (nothing_held parser.held parser.held refl empty) in
    (commands, [], subst (λ (ls : List (List ℕ)). SplitsInto ls commands []) (sym (lines-whole seen none)) gives, tt, sym (append-nil commands))

-- bytes are held, so there is a last line
last_some : (held rest : List ℕ) → held ≡ take most_held rest → (length held == 0) ≡ false → last_line rest ≡ without_cr rest ∷ []
last_some held [] is some = absurd (let none : true ≡ false = sym (ap (λ (l : List ℕ). length l == 0) is) ∙ some in cc)
last_some held (b ∷ rest) is some = refl

module _ (parser : Parser) (line : List ℕ) (outside : parser.load ≡ None) (some : (length parser.held == 0) ≡ false) (is : line ≡ without_cr parser.held) where
  gives_last : (seen : List ℕ) (commands : List Command) → HasParsed parser seen commands → SplitsInto (lines seen) commands (without_cr (cut seen).rest ∷ [])
  gives_last seen commands parsed =
      let (gives, held) = kept_outside parser seen commands outside parsed in
      subst (λ (l : List (List ℕ)). SplitsInto (lines seen) commands l) (last_some parser.held (cut seen).rest held some) (gives_lines seen commands [] gives)

  means_last : (seen : List ℕ) (commands : List Command) → HasParsed parser seen commands → MeansSame line (without_cr (cut seen).rest)
  means_last seen commands parsed =
      let (gives, held) = kept_outside parser seen commands outside parsed in
      means_held line parser.held (cut seen).rest is held

  -- the last line says a command
  pub last_says : (command : Command) → begins_load line ≡ false → command ≡ command_of line → (seen : List ℕ) (commands : List Command) → HasParsed parser seen commands →
      AreCommands seen (commands ++ command ∷ [])
  last_says command begins says seen commands parsed =
      let same = means_last seen commands parsed in
      let whole : List ℕ = without_cr (cut seen).rest in
      one_more seen commands (whole ∷ []) command (gives_last seen commands parsed) (whole_line whole command (sym same.begins ∙ begins) (says ∙ same.command))

  -- the last line begins a document
  pub last_begins : begins_load line ≡ true → (seen : List ℕ) (commands : List Command) → HasParsed parser seen commands → AreCommands seen (commands ++ Bad ∷ [])
  last_begins begins seen commands parsed =
      let same = means_last seen commands parsed in
      (commands, without_cr (cut seen).rest ∷ [], gives_last seen commands parsed, (sym same.begins ∙ begins, refl), refl)

-- the dot without an LF
last_dot : (rest : List ℕ) → is_dot (without_cr rest) ≡ true → last_line rest ≡ codes "." ∷ []
last_dot [] dot = absurd (let no_byte : false ≡ true = dot in cc)
last_dot (b ∷ rest) dot = ap (λ (l : List ℕ). l ∷ []) ((bytes_eq-Decides (without_cr (b ∷ rest)) (codes ".")).0 dot)

-- another last line
last_other : (rest : List ℕ) → is_dot (without_cr rest) ≡ false → has_dot (last_line rest) ≡ false
last_other [] other = refl
last_other (b ∷ rest) other = or_from (is_dot (without_cr (b ∷ rest))) false other refl

module _ (parser : Parser) (load : Load) (inside : parser.load ≡ Some load) (ended : Bool) (is : ended ≡ is_dot (without_cr load.body.held)) where
  kept_inside : (seen : List ℕ) (commands : List Command) (parsed : HasParsed parser seen commands) → HoldsRest (Some load) parser.held seen parsed.rest
  kept_inside seen commands parsed = subst (λ (l : Option Load). HoldsRest l parser.held seen parsed.rest) inside parsed.keeps

  last_is : (seen head : List ℕ) (ls : List (List ℕ)) (loading : IsLoading load seen head ls) → is_dot (without_cr (cut loading.stream).rest) ≡ ended
  last_is seen head ls loading =
      sym (is ∙ ap (λ (l : List ℕ). is_dot (without_cr l)) loading.within.held ∙ dot_prefix (cut loading.stream).rest)

  -- a dot ends the document's lines at the end of all bytes
  pub last_ends : (command : Command) → ended ≡ true →
      ((line s : List ℕ) → load.name ≡ loaded_name line → HasReadLines load.body.reader s → IsLoadCommand line (ended_lines s) command) →
      (seen : List ℕ) (commands : List Command) → HasParsed parser seen commands → AreCommands seen (commands ++ command ∷ [])
  last_ends command dot loads seen commands parsed = by_rest parsed.rest parsed.gives (kept_inside seen commands parsed)
    where
      by_rest : (rest : List (List ℕ)) → SplitsInto (ended_lines seen) commands rest → HoldsRest (Some load) parser.held seen rest → AreCommands seen (commands ++ command ∷ [])
      by_rest [] gives keeps = absurd keeps
      by_rest (head ∷ ls) gives (none, loading) =
          let last : List ℕ = (cut loading.stream).rest in
          let is_last : is_dot (without_cr last) ≡ true = last_is seen head ls loading ∙ dot in
          let f = read_prefix load.body.reader loading.stream [] (ap (λ (l : List ℕ). is_dot (without_cr l)) (append-nil last) ∙ is_last) loading.within.read in
          let before : ls ≡ ended_lines f.prefix = sym loading.lines_are ∙ ap ended_lines f.parts ∙ ended_lines-held f.prefix last (cut-rest loading.stream) in
          let own : (head ∷ ls) ++ last_line (cut seen).rest ≡ head ∷ (ended_lines f.prefix ++ codes "." ∷ []) =
          ap (λ (r : List ℕ). head ∷ (ls ++ last_line r)) (sym loading.same_rest)
          ∙ ap (λ (l : List (List ℕ)). head ∷ (ls ++ l)) (last_dot last is_last)
          ∙ ap (λ (l : List (List ℕ)). head ∷ (l ++ codes "." ∷ [])) before in
          one_more seen commands (head ∷ (ended_lines f.prefix ++ codes "." ∷ [])) command
          (subst (λ (l : List (List ℕ)). SplitsInto (lines seen) commands l) own (gives_lines seen commands (head ∷ ls) gives))
          (whole_load head (ended_lines f.prefix) command loading.begins (ap has_dot (sym before ∙ sym loading.lines_are) ∙ loading.within.undotted)
          (loads head f.prefix loading.named f.read))

  -- the document's lines are cut off
  pub last_cut : ended ≡ false → (seen : List ℕ) (commands : List Command) → HasParsed parser seen commands → AreCommands seen (commands ++ Bad ∷ [])
  last_cut other seen commands parsed = by_rest parsed.rest parsed.gives (kept_inside seen commands parsed)
    where
      by_rest : (rest : List (List ℕ)) → SplitsInto (ended_lines seen) commands rest → HoldsRest (Some load) parser.held seen rest → AreCommands seen (commands ++ Bad ∷ [])
      by_rest [] gives keeps = absurd keeps
      by_rest (head ∷ ls) gives (none, loading) =
          let last : List ℕ = (cut loading.stream).rest in
          let undotted : has_dot (ls ++ last_line (cut seen).rest) ≡ false =
          list_any-append is_dot ls (last_line (cut seen).rest)
          ∙ or_from _ _ (ap has_dot (sym loading.lines_are) ∙ loading.within.undotted)
          (ap (λ (r : List ℕ). has_dot (last_line r)) (sym loading.same_rest) ∙ last_other last (last_is seen head ls loading ∙ other)) in
          (commands, head ∷ (ls ++ last_line (cut seen).rest), gives_lines seen commands (head ∷ ls) gives, (loading.begins, undotted), refl)

-- all bytes are taken
pub takes_all : (old new : Parser) (bytes : List ℕ) →
    ((seen : List ℕ) (commands : List Command) → HasParsed old seen commands → HasParsed new (seen ++ bytes) commands) →
    (seen : List ℕ) (commands : List Command) → HasParsed old seen commands → HasParsed new (seen ++ take (length bytes) bytes) commands
takes_all old new bytes parses seen commands parsed =
    subst (λ (l : List ℕ). HasParsed new (seen ++ l) commands) (sym (take_all (length bytes) bytes (omega arith))) (parses seen commands parsed)

-- a line and its LF are taken
pub takes_to_end : {old new : Parser} {bytes : List ℕ} (end : ℕ) (command : Option Command) → EndsLine bytes end →
    ((seen : List ℕ) (commands : List Command) → HasParsed old seen commands → HasParsed new (seen ++ (take end bytes ++ 10 ∷ [])) (with_command commands command)) →
    (seen : List ℕ) (commands : List Command) → HasParsed old seen commands → HasParsed new (seen ++ take (end + 1) bytes) (with_command commands command)
takes_to_end {old = old} {new = new} {bytes = bytes} end command ends parses seen commands parsed =
    subst (λ (l : List ℕ). HasParsed new (seen ++ l) (with_command commands command)) (sym (line_taken bytes end ends)) (parses seen commands parsed)
