-- Each list of bytes is one list of commands.
use Rattle.std.proofs.Common.{◌≡◌, ◌⊎◌, inl, inr, ⊎_elim, ℕ, zero, suc, ◌+◌, ◌≤◌, true, false, List, [], ◌∷◌, ◌++◌, length, map, Option, None, Some, refl, sym, ap, ◌∙◌, subst, arith, append_assoc, append-nil, length-append}
use Rattle.std.specs.Prelude.{codes}
use Rattle.std.specs.Option.{option_map, option_map_or}
use Rattle.std.proofs.lemmas.Bool.{MatchBool-at_true, MatchBool-at_false, cases_Bool, or_from, or_parts, or_right}
use Rattle.std.proofs.lemmas.List.Folds.{list_any-append}
use Rattle.std.proofs.lemmas.Slice.Eq.{bytes_eq-Decides}
use Rattle.nx_tree.specs.Forest.{OrderedTree}
use Rattle.nx_tree.specs.Document.{IsDocument}
use Rattle.nx_pyx.specs.declared.error.PyxError.{PyxError}
use Rattle.nx_pyx.specs.Event.{event_of, events}
use Rattle.nx_pyx.specs.Fault.{first_fault, fault_at, fault_at_end, standing, end_fault, events_of}
use Rattle.nx_pyx.specs.Lines.{cut, ended_lines, lines}
use Rattle.nx_pyx.proofs.Outcome.{document_of, neither}
use Rattle.nx_pyx.proofs.Reading.{one_document}
use Rattle.nx_pyx.proofs.DocumentLemmas.{document_goes}
use Rattle.nx_pyx.proofs.ShownFaultLemmas.{lines-append, ended_lines-append}
use Rattle.nx_script.specs.declared.command.Command.{Command}
use Rattle.nx_script.specs.declared.command.Command.TheVariants.{Load, Bad}
use Rattle.nx_script.specs.declared.command.LoadBody.{LoadBody}
use Rattle.nx_script.specs.declared.command.LoadBody.TheVariants.{Read, Wrong}
use Rattle.nx_script.specs.declared.script.Script.{Script}
use Rattle.nx_script.specs.Line.{command_of}
use Rattle.nx_script.specs.Commands.{begins_load, is_dot, has_dot, loaded_name, SaysBody, IsLoadCommand, IsWholeCommand, SplitsInto, IsUnended, cut_off, AreWhole, AreCommands}
use Rattle.nx_script.specs.Law.{HasOneList}
use Rattle.nx_script.specs.Script.{unread, HasGivenIn}
use Rattle.nx_script.proofs.SplitsIntoLemmas.{gives_longer, whole_line, whole_load}
use Rattle.nx_script.proofs.ScriptLemmas.{HasLooked, looked, parsed_whole}

-- A document's lines.

-- the fault of lines, that of the first faulty one or that of their end
abbrev fault_in : List (List ℕ) → Option PyxError
fault_in ls = option_map_or (λ e. Some e) (first_fault [] ls) (fault_at_end ls)

-- lines say something
some_body : (ls : List (List ℕ)) → (said : LoadBody) × SaysBody ls said
some_body ls = by_fault (fault_in ls) refl
  where
    by_fault : (found : Option PyxError) → fault_in ls ≡ found → (said : LoadBody) × SaysBody ls said
    by_fault None is =
        let parts = neither (first_fault [] ls) (length ls) (end_fault (standing (events_of ls))) is in
        let (tree, document, says) = document_of ls parts.0 parts.1 in
        (Read tree, (document, says))
    by_fault (Some error) is = (Wrong error, is)

-- lines that say a document have no fault
no_fault_in : (ls : List (List ℕ)) (tree : OrderedTree) → IsDocument tree → map event_of ls ≡ map (λ e. Some e) (events tree.below) → fault_in ls ≡ None
no_fault_in ls tree document says =
    let r = document_goes ls tree document says in
    ap (λ (o : Option PyxError). option_map_or (λ e. Some e) o (fault_at_end ls)) r.0 ∙ ap (option_map (fault_at (length ls))) r.1

-- lines say one thing
one_body : (ls : List (List ℕ)) (a b : LoadBody) → SaysBody ls a → SaysBody ls b → a ≡ b
one_body ls (Read t) (Read u) p q = ap (λ (tree : OrderedTree). Read tree) (one_document t u p.0 q.0 (sym p.1 ∙ q.1))
one_body ls (Read t) (Wrong e) p q = absurd (let none : None ≡ Some e = sym (no_fault_in ls t p.0 p.1) ∙ q in cc)
one_body ls (Wrong e) (Read t) p q = absurd (let none : None ≡ Some e = sym (no_fault_in ls t q.0 q.1) ∙ p in cc)
one_body ls (Wrong e) (Wrong f) p q = let same : Some e ≡ Some f = sym p ∙ q in cc

-- A `load` line and its document's lines.

-- they are a command
some_load : (line : List ℕ) (body : List (List ℕ)) → (command : Command) × IsLoadCommand line body command
some_load line body = by_name (loaded_name line) refl
  where
    by_name : (name : Option (List ℕ)) → loaded_name line ≡ name → (command : Command) × IsLoadCommand line body command
    by_name None is = (Bad, is)
    by_name (Some name) is = let (said, says) = some_body body in (Load name said, (is, says))

-- they are one
one_load : (line : List ℕ) (body : List (List ℕ)) (c d : Command) → IsLoadCommand line body c → IsLoadCommand line body d → c ≡ d
one_load line body (Load n said) (Load m other) p q =
    let names : n ≡ m = (let e : Some n ≡ Some m = sym p.0 ∙ q.0 in cc) in
    let bodies : said ≡ other = one_body body said other p.1 q.1 in
    ap (λ (name : List ℕ). Load name said) names ∙ ap (λ (b : LoadBody). Load m b) bodies
one_load line body (Load n said) Bad p q = absurd (let no_name : Some n ≡ None = sym p.0 ∙ q in cc)
one_load line body Bad (Load m other) p q = absurd (let no_name : Some m ≡ None = sym q.0 ∙ p in cc)
one_load line body Bad Bad p q = refl
one_load line body (Load n said) d p q = absurd q
one_load line body Bad d p q = absurd q
one_load line body c d p q = absurd p

-- The first group of lines.

-- no line is the dot, or there is a first one
first_dot : (ls : List (List ℕ)) → (has_dot ls ≡ false) ⊎ ((body : List (List ℕ)) × (others : List (List ℕ)) × (ls ≡ body ++ codes "." ∷ others) × (has_dot body ≡ false))
first_dot [] = inl refl
first_dot (line ∷ ls) =
    ⊎_elim
    (λ (dot : is_dot line ≡ true). inr ([], ls, ap (λ (l : List ℕ). l ∷ ls) ((bytes_eq-Decides line (codes ".")).0 dot), refl))
    (λ (other : is_dot line ≡ false).
    ⊎_elim
    (λ (none : has_dot ls ≡ false). inl (or_from (is_dot line) (has_dot ls) other none))
    (λ (some : (body : List (List ℕ)) × (others : List (List ℕ)) × (ls ≡ body ++ codes "." ∷ others) × (has_dot body ≡ false)).
    inr (line ∷ some.0, some.1, ap (λ (l : List (List ℕ)). line ∷ l) some.2, or_from (is_dot line) (has_dot some.0) other some.3))
    (first_dot ls))
    (cases_Bool (is_dot line))

-- a dot is among these lines
dot_among : (body others : List (List ℕ)) → has_dot (body ++ codes "." ∷ others) ≡ true
dot_among body others = list_any-append is_dot body (codes "." ∷ others) ∙ or_right (has_dot body) true refl

-- the first dot is one
one_dot : (a b x y : List (List ℕ)) → has_dot a ≡ false → has_dot b ≡ false → a ++ codes "." ∷ x ≡ b ++ codes "." ∷ y → (a ≡ b) × (x ≡ y)
one_dot [] [] x y p q is = let same : x ≡ y = cc in (refl, same)
one_dot [] (line ∷ b) x y p q is =
    absurd (let first : codes "." ≡ line = cc in let no_dot : true ≡ false = ap (λ (l : List ℕ). has_dot (l ∷ b)) first ∙ q in cc)
one_dot (line ∷ a) [] x y p q is =
    absurd (let first : line ≡ codes "." = cc in let no_dot : true ≡ false = sym (ap (λ (l : List ℕ). has_dot (l ∷ a)) first) ∙ p in cc)
one_dot (line ∷ a) (other ∷ b) x y p q is =
    let first : line ≡ other = cc in
    let rest : a ++ codes "." ∷ x ≡ b ++ codes "." ∷ y = cc in
    let (prefix, behind) = one_dot a b x y (or_parts (is_dot line) (has_dot a) p).1 (or_parts (is_dot other) (has_dot b) q).1 rest in
    (ap (λ (l : List ℕ). l ∷ a) first ∙ ap (λ (l : List (List ℕ)). other ∷ l) prefix, behind)

-- a group is no document that isn't ended
unended_whole : (own others : List (List ℕ)) (command : Command) → IsWholeCommand own command → IsUnended (own ++ others) → ⊥
unended_whole [] others command whole unended = whole
unended_whole (line ∷ ls) others command whole (begins, undotted) =
    let (body, is, none, loads) =
    MatchBool-at_true ((body : List (List ℕ)) × (ls ≡ body ++ codes "." ∷ []) × (has_dot body ≡ false) × IsLoadCommand line body command) ((ls ≡ []) × (command ≡ command_of line)) begins whole in
    let no_dot : true ≡ false =
    sym (dot_among body others) ∙ ap has_dot (sym (append_assoc body (codes "." ∷ []) others) ∙ ap (λ (l : List (List ℕ)). l ++ others) (sym is)) ∙ undotted in
    absurd (cc)

-- the first group is one, and its command
one_group : (own other : List (List ℕ)) {more behind : List (List ℕ)} {c d : Command} → IsWholeCommand own c → IsWholeCommand other d → own ++ more ≡ other ++ behind → (more ≡ behind) × (c ≡ d)
one_group [] other {more = more} {behind = behind} {c = c} {d = d} p q is = absurd p
one_group (line ∷ a) [] {more = more} {behind = behind} {c = c} {d = d} p q is = absurd q
one_group (line ∷ a) (second ∷ b) {more = more} {behind = behind} {c = c} {d = d} p q is =
    let first : line ≡ second = cc in
    let rest : a ++ more ≡ b ++ behind = cc in
    let again : IsWholeCommand (line ∷ b) d = subst (λ (l : List ℕ). IsWholeCommand (l ∷ b) d) (sym first) q in
    ⊎_elim
    (λ (begins : begins_load line ≡ true).
    let (x, x_is, x_none, x_loads) =
    MatchBool-at_true ((body : List (List ℕ)) × (a ≡ body ++ codes "." ∷ []) × (has_dot body ≡ false) × IsLoadCommand line body c) ((a ≡ []) × (c ≡ command_of line)) begins p in
    let (y, y_is, y_none, y_loads) =
    MatchBool-at_true ((body : List (List ℕ)) × (b ≡ body ++ codes "." ∷ []) × (has_dot body ≡ false) × IsLoadCommand line body d) ((b ≡ []) × (d ≡ command_of line)) begins again in
    let both : x ++ codes "." ∷ more ≡ y ++ codes "." ∷ behind =
    sym (append_assoc x (codes "." ∷ []) more) ∙ ap (λ (l : List (List ℕ)). l ++ more) (sym x_is) ∙ rest
    ∙ ap (λ (l : List (List ℕ)). l ++ behind) y_is ∙ append_assoc y (codes "." ∷ []) behind in
    let (bodies, left) = one_dot x y more behind x_none y_none both in
    (left, one_load line y c d (subst (λ (l : List (List ℕ)). IsLoadCommand line l c) bodies x_loads) y_loads))
    (λ (other : begins_load line ≡ false).
    let x =
    MatchBool-at_false ((body : List (List ℕ)) × (a ≡ body ++ codes "." ∷ []) × (has_dot body ≡ false) × IsLoadCommand line body c) ((a ≡ []) × (c ≡ command_of line)) other p in
    let y =
    MatchBool-at_false ((body : List (List ℕ)) × (b ≡ body ++ codes "." ∷ []) × (has_dot body ≡ false) × IsLoadCommand line body d) ((b ≡ []) × (d ≡ command_of line)) other again in
    (ap (λ (l : List (List ℕ)). l ++ more) (sym x.0) ∙ rest ∙ ap (λ (l : List (List ℕ)). l ++ behind) y.0, x.1 ∙ sym y.1))
    (cases_Bool (begins_load line))

-- All groups.

-- lines give one list of whole commands, and leave one list of lines
one_giving : (ls : List (List ℕ)) (c d : List Command) {x y : List (List ℕ)} → SplitsInto ls c x → SplitsInto ls d y → IsUnended x → IsUnended y → (c ≡ d) × (x ≡ y)
one_giving ls [] [] {x = x} {y = y} p q u v = (refl, sym p ∙ q)
one_giving ls [] (d ∷ ds) {x = x} {y = y} p (own, others, is, whole, gives) u v = absurd (unended_whole own others d whole (subst IsUnended (sym p ∙ is) u))
one_giving ls (c ∷ cs) [] {x = x} {y = y} (own, others, is, whole, gives) q u v = absurd (unended_whole own others c whole (subst IsUnended (sym q ∙ is) v))
one_giving ls (c ∷ cs) (d ∷ ds) {x = x} {y = y} (own, others, is, whole, gives) (own', others', is', whole', gives') u v =
    let (left, first) = one_group own own' whole whole' (sym is ∙ is') in
    let (rest, ends) = one_giving others cs ds gives (subst (λ (l : List (List ℕ)). SplitsInto l ds y) (sym left) gives') u v in
    (ap (λ (h : Command). h ∷ cs) first ∙ ap (λ (t : List Command). d ∷ t) rest, ends)

-- lines give whole commands, and then no line or a document that isn't ended
some_giving : (n : ℕ) (ls : List (List ℕ)) → length ls ≤ n → (commands : List Command) × (rest : List (List ℕ)) × SplitsInto ls commands rest × IsUnended rest
some_giving n [] few = ([], [], refl, tt)
some_giving zero (line ∷ ls) few = absurd (omega arith)
some_giving (suc n) (line ∷ ls) few =
    ⊎_elim
    (λ (begins : begins_load line ≡ true).
    ⊎_elim
    (λ (none : has_dot ls ≡ false). ([], line ∷ ls, refl, (begins, none)))
    (λ (some : (body : List (List ℕ)) × (others : List (List ℕ)) × (ls ≡ body ++ codes "." ∷ others) × (has_dot body ≡ false)).
    let (command, loads) = some_load line some.0 in
    let size : length ls ≡ length some.0 + length (codes "." ∷ some.1) = ap length some.2 ∙ length-append some.0 (codes "." ∷ some.1) in
    let (commands, rest, gives, unended) = some_giving n some.1 (omega arith) in (
      command ∷ commands,
      rest,
      (
        line ∷ (some.0 ++ codes "." ∷ []),
        some.1,
        ap (λ (l : List (List ℕ)). line ∷ l) (some.2 ∙ sym (append_assoc some.0 (codes "." ∷ []) some.1)),
        whole_load line some.0 command begins some.3 loads,
        gives,
      ),
      unended,
    ))
    (first_dot ls))
    (λ (other : begins_load line ≡ false).
    let (commands, rest, gives, unended) = some_giving n ls (omega arith) in
    (command_of line ∷ commands, rest, (line ∷ [], ls, refl, whole_line line (command_of line) other refl, gives), unended))
    (cases_Bool (begins_load line))

-- some commands, and more behind them
gives_append : (ls : List (List ℕ)) (commands others : List Command) (mid rest : List (List ℕ)) → SplitsInto ls commands mid → SplitsInto mid others rest → SplitsInto ls (commands ++ others) rest
gives_append ls [] others mid rest is gives = subst (λ (l : List (List ℕ)). SplitsInto l others rest) (sym is) gives
gives_append ls (command ∷ commands) others mid rest (own, left, is, whole, first) gives = (own, left, is, whole, gives_append left commands others mid rest first gives)

-- each list of bytes is one list of commands
pub one_list : (bytes : List ℕ) → HasOneList bytes
one_list bytes =
    let (commands, rest, gives, unended) = some_giving (length (lines bytes)) (lines bytes) (omega arith) in
    record {
      commands = commands ++ cut_off rest;
      are = (commands, rest, gives, unended, refl);
      only = λ others (whole, left, gives', unended', is).
          let (same, ends) = one_giving (lines bytes) whole commands gives' gives unended' unended in
          is ∙ ap (λ (l : List Command). l ++ cut_off left) same ∙ ap (λ (l : List (List ℕ)). commands ++ cut_off l) ends;
    }

-- what is whole in the bytes so far begins the commands of all bytes
pub whole_prefix : (taken more : List ℕ) (commands : List Command) → AreWhole taken commands → (rest : List Command) × AreCommands (taken ++ more) (commands ++ rest)
whole_prefix taken more commands (left, gives, _) =
    let all : List (List ℕ) = left ++ lines ((cut taken).rest ++ more) in
    let (others, rest, gives', unended) = some_giving (length all) all (omega arith) in (
      others ++ cut_off rest,
      (
        commands ++ others,
        rest,
        gives_append (lines (taken ++ more)) commands others all rest
            (subst (λ (l : List (List ℕ)). SplitsInto l commands all) (sym (lines-append taken more)) (gives_longer (ended_lines taken) commands left (lines ((cut taken).rest ++ more)) gives))
            gives',
        unended,
        sym (append_assoc commands others (cut_off rest)),
      ),
    )

-- the commands that a script has given of an input begin those of the whole input
pub given_prefix : (script : Script) (taken left : List ℕ) (commands : List Command) (first : Option (List ℕ)) → HasGivenIn script taken commands first (Some left) →
    (rest : List Command) × AreCommands (taken ++ left) (commands ++ rest)
given_prefix script taken left commands first given =
    ⊎_elim
    (λ (finished : script.finished ≡ true).
    let end : left ≡ [] = (given.end (given.given.ended finished)).0 in (
      [],
      subst (λ (l : List ℕ). AreCommands (taken ++ l) (commands ++ [])) (sym end)
          (subst (λ (l : List ℕ). AreCommands l (commands ++ [])) (sym (append-nil taken))
          (subst (λ (l : List Command). AreCommands taken l) (sym (append-nil commands))
          (MatchBool-at_true (AreCommands taken commands) (HasLooked script taken commands) finished given.given.given))),
    ))
    (λ (unfinished : script.finished ≡ false).
    let (seen, parts, parsed) = looked script taken commands unfinished given.given in
    let (rest, are) = whole_prefix seen (unread script ++ left) commands (parsed_whole script.parser seen commands parsed) in
    (rest, subst (λ (l : List ℕ). AreCommands l (commands ++ rest)) (sym (append_assoc seen (unread script) left) ∙ ap (λ (l : List ℕ). l ++ left) (sym parts)) are))
    (cases_Bool script.finished)

-- what is whole in the bytes so far begins what is whole in more bytes
pub whole_more : (taken more : List ℕ) (commands : List Command) → AreWhole taken commands → (rest : List Command) × AreWhole (taken ++ more) (commands ++ rest)
whole_more taken more commands (left, gives, _) =
    let all : List (List ℕ) = left ++ ended_lines ((cut taken).rest ++ more) in
    let (others, rest, gives', unended) = some_giving (length all) all (omega arith) in (
      others,
      (
        rest,
        gives_append (ended_lines (taken ++ more)) commands others all rest
            (subst (λ (l : List (List ℕ)). SplitsInto l commands all) (sym (ended_lines-append taken more)) (gives_longer (ended_lines taken) commands left (ended_lines ((cut taken).rest ++ more)) gives))
            gives',
        unended,
      ),
    )
