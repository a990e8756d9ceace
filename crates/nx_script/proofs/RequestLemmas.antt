-- Commands in groups, each of which is one whole request, and what has been given of them.
use Rattle.std.proofs.Common.{◌≡◌, ◌⊎◌, inl, inr, ⊎_elim, ℕ, ◌+◌, ◌<◌, ◌≤◌, Bool, true, false, List, [], ◌∷◌, ◌++◌, length, Option, None, Some, IfSome, OnOk, OnErr, Result, Ok, Err, refl, sym, ap, subst, ◌∙◌, append_assoc, append-nil, arith}
use Rattle.std.specs.Prelude.{◌↔◌, if◌then◌else◌, MatchOption}
use Rattle.std.specs.Bool.{MatchBool}
use Rattle.std.specs.Option.{is_some, option_map}
use Rattle.std.proofs.lemmas.Bool.{or_from, MatchBool-at_true, MatchBool-at_false}
use Rattle.std.proofs.lemmas.List.Folds.{list_any-append}
use Rattle.nx_host.specs.Input.{most_input}
use Rattle.nx_script.specs.declared.command.Command.{Command}
use Rattle.nx_script.specs.declared.command.Command.TheVariants.{Begin, Commit, Bad}
use Rattle.nx_script.specs.declared.request.Request.{Request}
use Rattle.nx_script.specs.declared.request.Request.TheVariants.{Single}
use Rattle.nx_script.specs.declared.requests.Begun.{Begun}
use Rattle.nx_script.specs.declared.requests.Requests.{Requests}
use Rattle.nx_script.specs.declared.script.Script.{Script}
use Rattle.nx_script.specs.declared.error.ScriptError.{ScriptError}
use Rattle.nx_script.specs.declared.error.ScriptError.TheVariants.{Read, TooMuch, Memory}
use Rattle.nx_script.specs.Commands.{AreWhole, AreCommands}
use Rattle.nx_script.specs.Script.{HasGiven, HasGivenIn, work_left}
use Rattle.nx_script.specs.Requests.{beginning, is_commit, has_commit, closed, IsWholeRequest, SplitsIntoRequests, IsUncommitted, cut_off_request, AreWholeRequests, AreRequests, HoldsBegun, with_request, HasGrouped, HasGivenRequests, HasGivenRequestsIn, StopsInRequests, StopsRequests}

-- Groups.

-- more commands behind
pub requests_longer : (commands : List Command) (requests : List Request) (rest more : List Command) → SplitsIntoRequests commands requests rest → SplitsIntoRequests (commands ++ more) requests (rest ++ more)
requests_longer commands [] rest more is = ap (λ (l : List Command). l ++ more) is
requests_longer commands (request ∷ requests) rest more (own, others, is, whole, gives) = (
  own,
  others ++ more,
  ap (λ (l : List Command). l ++ more) is ∙ append_assoc own others more,
  whole,
  requests_longer others requests rest more gives,
)

-- one whole request more at the end
pub requests_then : (commands : List Command) (requests : List Request) (own more : List Command) (request : Request) → SplitsIntoRequests commands requests (own ++ more) → IsWholeRequest own request →
    SplitsIntoRequests commands (requests ++ request ∷ []) more
requests_then commands [] own more request is whole = (own, more, is, whole, refl)
requests_then commands (first ∷ requests) own more request (prefix, others, is, begun, gives) whole =
    (prefix, others, is, begun, requests_then others requests own more request gives whole)

-- ... where it is all that is left
ends_request : (commands : List Command) (requests : List Request) (own : List Command) (request : Request) → SplitsIntoRequests commands requests own → IsWholeRequest own request →
    SplitsIntoRequests commands (requests ++ request ∷ []) []
ends_request commands requests own request gives whole =
    requests_then commands requests own [] request (subst (λ (l : List Command). SplitsIntoRequests commands requests l) (sym (append-nil own)) gives) whole

-- what a request is, by whether its first command begins a transaction
abbrev pub IsRequestBy : Option Bool → Command → List Command → Request → Type 0
IsRequestBy begins command commands request =
    MatchOption begins ((commands ≡ []) × (request ≡ Single command))
    (λ bare. (body : List Command) × (commands ≡ body ++ Commit ∷ []) × (has_commit body ≡ false) × (request ≡ closed bare body))

-- a command of its own
pub single_request : (command : Command) → beginning command ≡ None → IsWholeRequest (command ∷ []) (Single command)
single_request command is = subst (λ (o : Option Bool). IsRequestBy o command [] (Single command)) (sym is) (refl, refl)

-- a transaction that its `commit` has ended
pub transaction_request : (bare : Bool) (body : List Command) → has_commit body ≡ false → IsWholeRequest (Begin bare ∷ (body ++ Commit ∷ [])) (closed bare body)
transaction_request bare body none = (body, refl, none, refl)

-- A command that comes.

-- outside a transaction
pub groups_single : (command : Command) → beginning command ≡ None → (commands : List Command) (given : List Request) → HasGrouped None commands given →
    HasGrouped None (commands ++ command ∷ []) (given ++ Single command ∷ [])
groups_single command is commands given grouped = record {
  rest = [];
  gives = ends_request (commands ++ command ∷ []) given (command ∷ []) (Single command)
      (subst (λ (l : List Command). SplitsIntoRequests (commands ++ command ∷ []) given (l ++ command ∷ [])) grouped.keeps (requests_longer commands given grouped.rest (command ∷ []) grouped.gives))
      (single_request command is);
  keeps = refl;
}

-- a transaction begins
pub groups_begin : (begun : Begun) → begun.commands ≡ [] → (commands : List Command) (given : List Request) → HasGrouped None commands given →
    HasGrouped (Some begun) (commands ++ Begin begun.bare ∷ []) given
groups_begin begun none commands given grouped = record {
  rest = Begin begun.bare ∷ [];
  gives = subst (λ (l : List Command). SplitsIntoRequests (commands ++ Begin begun.bare ∷ []) given (l ++ Begin begun.bare ∷ [])) grouped.keeps
      (requests_longer commands given grouped.rest (Begin begun.bare ∷ []) grouped.gives);
  keeps = (ap (λ (l : List Command). Begin begun.bare ∷ l) (sym none), ap has_commit none);
}

-- what is kept of a transaction, with a command behind it
kept_longer : (begun : Begun) (command : Command) (commands : List Command) (given : List Request) → HasGrouped (Some begun) commands given →
    SplitsIntoRequests (commands ++ command ∷ []) given (Begin begun.bare ∷ (begun.commands ++ command ∷ []))
kept_longer begun command commands given grouped =
    subst (λ (l : List Command). SplitsIntoRequests (commands ++ command ∷ []) given (l ++ command ∷ [])) grouped.keeps.0
    (requests_longer commands given grouped.rest (command ∷ []) grouped.gives)

-- its `commit` comes
pub groups_commit : (begun : Begun) (commands : List Command) (given : List Request) → HasGrouped (Some begun) commands given →
    HasGrouped None (commands ++ Commit ∷ []) (given ++ closed begun.bare begun.commands ∷ [])
groups_commit begun commands given grouped = record {
  rest = [];
  gives = ends_request (commands ++ Commit ∷ []) given (Begin begun.bare ∷ (begun.commands ++ Commit ∷ [])) (closed begun.bare begun.commands)
      (kept_longer begun Commit commands given grouped) (transaction_request begun.bare begun.commands grouped.keeps.1);
  keeps = refl;
}

-- a command within it comes
pub groups_part : (begun new : Begun) (command : Command) → is_commit command ≡ false → new.bare ≡ begun.bare → new.commands ≡ begun.commands ++ command ∷ [] →
    (commands : List Command) (given : List Request) → HasGrouped (Some begun) commands given → HasGrouped (Some new) (commands ++ command ∷ []) given
groups_part begun new command other bare are commands given grouped = record {
  rest = Begin begun.bare ∷ (begun.commands ++ command ∷ []);
  gives = kept_longer begun command commands given grouped;
  keeps = (
    ap (λ (b : Bool). Begin b ∷ (begun.commands ++ command ∷ [])) (sym bare) ∙ ap (λ (l : List Command). Begin new.bare ∷ l) (sym are),
    ap has_commit are ∙ list_any-append is_commit begun.commands (command ∷ []) ∙ or_from (has_commit begun.commands) (has_commit (command ∷ [])) grouped.keeps.1 (or_from (is_commit command) false other refl),
  );
}

-- which commands begin and end a transaction
pub not_begin : (command : Command) → ((bare : Bool) → command ≡ Begin bare → ⊥) → beginning command ≡ None
not_begin (Begin bare) other = absurd (other bare refl)
not_begin command other = refl

pub not_commit : (command : Command) → (command ≡ Commit → ⊥) → is_commit command ≡ false
not_commit Commit other = absurd (other refl)
not_commit command other = refl

-- What is left is no command, or a transaction that no `commit` has ended.
pub kept_uncommitted : (begun : Option Begun) (rest : List Command) → HoldsBegun begun rest → IsUncommitted rest
kept_uncommitted None rest none = subst IsUncommitted (sym none) tt
kept_uncommitted (Some begun) rest (is, none) = subst IsUncommitted (sym is) (refl, none)

-- Requests that are given.

-- nothing is left to do where the input has ended and all was given
finished_work : (script : Script) (taken : List ℕ) (commands : List Command) → HasGiven script taken commands → script.finished ≡ true → work_left script ≡ 0
finished_work script taken commands given finished =
    ap (λ (l : List ℕ). length l + (if script.finished then 0 else 1)) (given.drained finished) ∙ ap (λ (b : Bool). 0 + (if b then 0 else 1)) finished

-- the script gives a command, which may end a request
pub takes_command : (old new : Requests) (command : Command) (next : Option Request) →
    ((taken : List ℕ) (commands : List Command) → HasGiven old.script taken commands → HasGiven new.script taken (commands ++ command ∷ [])) →
    work_left new.script < work_left old.script →
    ((commands : List Command) (given : List Request) → HasGrouped old.begun commands given → HasGrouped new.begun (commands ++ command ∷ []) (with_request given next)) →
    (taken : List ℕ) (told : List Request) → HasGivenRequests old taken told → HasGivenRequests new taken (with_request told next)
takes_command old new command next gives less groups taken told given = record {
  commands = given.commands ++ command ∷ [];
  script = gives taken given.commands given.script;
  grouped = elim given.grouped [
    | inl grouped ↦ inl (groups given.commands told grouped)
    | inr all ↦ let none : work_left old.script ≡ 0 = finished_work old.script taken given.commands given.script all.finished in absurd (omega arith)
  ];
}

-- a request that was given
pub gives_request : (old new : Requests) (next : Option Request) →
    ((taken : List ℕ) (told : List Request) → HasGivenRequests old taken told → HasGivenRequests new taken (with_request told next)) →
    IfSome next (λ request. (taken : List ℕ) (told : List Request) → HasGivenRequests old taken told → HasGivenRequests new taken (told ++ request ∷ []))
gives_request old new None gives = tt
gives_request old new (Some request) gives = gives

-- no request was given yet
pub gives_no_request : (old new : Requests) (next : Option Request) → is_some next ≡ false →
    ((taken : List ℕ) (told : List Request) → HasGivenRequests old taken told → HasGivenRequests new taken (with_request told next)) →
    (taken : List ℕ) (told : List Request) → HasGivenRequests old taken told → HasGivenRequests new taken told
gives_no_request old new None is gives = gives
gives_no_request old new (Some request) is gives = absurd (let some : true ≡ false = is in cc)

-- What is given where no command is left.

-- The script has given no command, and what was kept is let go where the input has ended.
pub record IsStopped (old new : Requests) : Type 0 where
  pub none : (taken : List ℕ) (commands : List Command) → HasGiven old.script taken commands →
      HasGiven new.script taken commands × MatchBool (new.script).ended (AreCommands taken commands) (AreWhole taken commands)
  pub finished : (new.script).ended ≡ true → (new.script).finished ≡ true
  pub same_end : (new.script).ended ≡ (old.script).ended
  pub begun_is : new.begun ≡ (if (new.script).ended then None else old.begun)

-- the request of a transaction that the input's end cuts off
abbrev pub last_request : Bool → Option Begun → Option Request
last_request ended begun = if ended then option_map (λ b. Single Bad) begun else None

-- a transaction is kept as before
same_kept : {a b : Option Begun} {commands : List Command} {given : List Request} → b ≡ a → HasGrouped a commands given → HasGrouped b commands given
same_kept {commands = commands} {given = given} is grouped = subst (λ (o : Option Begun). HasGrouped o commands given) (sym is) grouped

module _ {old new : Requests} (stopped : IsStopped old new) where
  -- at the end of the input all requests are given
  end_requests : (begun : Option Begun) → old.begun ≡ begun → (new.script).ended ≡ true → (taken : List ℕ) (told : List Request) → HasGivenRequests old taken told →
      AreRequests taken (with_request told (option_map (λ b. Single Bad) begun))
  end_requests begun is ended taken told given = elim given.grouped [
    | inl grouped ↦ by_kept begun grouped.rest (subst (λ (o : Option Begun). HoldsBegun o grouped.rest) is grouped.keeps) grouped.gives
    | inr all ↦ subst (λ (o : Option Begun). AreRequests taken (with_request told (option_map (λ b. Single Bad) o))) (sym all.none ∙ is) all.all
  ]
    where
      are : AreCommands taken given.commands
      are = MatchBool-at_true (AreCommands taken given.commands) (AreWhole taken given.commands) ended (stopped.none taken given.commands given.script).1

      by_kept : (begun : Option Begun) (rest : List Command) → HoldsBegun begun rest → SplitsIntoRequests given.commands told rest →
          AreRequests taken (with_request told (option_map (λ b. Single Bad) begun))
      by_kept None rest keeps gives =
          (given.commands, told, rest, are, gives, kept_uncommitted None rest keeps, sym (append-nil told) ∙ ap (λ (l : List Command). told ++ cut_off_request l) (sym keeps))
      by_kept (Some begun) rest keeps gives =
          (given.commands, told, rest, are, gives, kept_uncommitted (Some begun) rest keeps, ap (λ (l : List Command). told ++ cut_off_request l) (sym keeps.0))

  -- before it what is left is kept
  stays_kept : (new.script).ended ≡ false → (taken : List ℕ) (told : List Request) → (given : HasGivenRequests old taken told) → HasGrouped new.begun given.commands told
  stays_kept unended taken told given = elim given.grouped [
    | inl grouped ↦ same_kept (stopped.begun_is ∙ ap (λ (b : Bool). if b then None else old.begun) unended) grouped
    | inr all ↦ let ended : true ≡ false = sym (given.script.ended all.finished) ∙ sym stopped.same_end ∙ unended in absurd (cc)
  ]

  gives_by : (ended : Bool) → (new.script).ended ≡ ended → (taken : List ℕ) (told : List Request) → HasGivenRequests old taken told →
      HasGivenRequests new taken (with_request told (last_request ended old.begun))
  gives_by true ended taken told given = record {
    commands = given.commands;
    script = (stopped.none taken given.commands given.script).0;
    grouped = inr (record {
      finished = stopped.finished ended;
      none = stopped.begun_is ∙ ap (λ (b : Bool). if b then None else old.begun) ended;
      all = end_requests old.begun refl ended taken told given;
    });
  }
  gives_by false unended taken told given =
      record { commands = given.commands; script = (stopped.none taken given.commands given.script).0; grouped = inl (stays_kept unended taken told given) }

  pub gives_last : (taken : List ℕ) (told : List Request) → HasGivenRequests old taken told → HasGivenRequests new taken (with_request told (last_request (new.script).ended old.begun))
  gives_last = gives_by (new.script).ended refl

  all_by : (ended : Bool) → (new.script).ended ≡ ended → last_request ended old.begun ≡ None → (taken : List ℕ) (told : List Request) → HasGivenRequests old taken told →
      MatchBool ended (AreRequests taken told) (AreWholeRequests taken told)
  all_by true ended none taken told given = subst (λ (o : Option Request). AreRequests taken (with_request told o)) none (end_requests old.begun refl ended taken told given)
  all_by false unended none taken told given =
      let kept = stays_kept unended taken told given in
      let whole = MatchBool-at_false (AreCommands taken given.commands) (AreWhole taken given.commands) unended (stopped.none taken given.commands given.script).1 in
      (given.commands, kept.rest, whole, kept.gives, kept_uncommitted new.begun kept.rest kept.keeps)

  -- where no request is left all were given
  pub none_left : last_request (new.script).ended old.begun ≡ None → (taken : List ℕ) (told : List Request) → HasGivenRequests old taken told →
      MatchBool (new.script).ended (AreRequests taken told) (AreWholeRequests taken told)
  none_left = all_by (new.script).ended refl

-- What was given of an input.

pub in_requests : (old new : Requests) {taken : List ℕ} {told now_told : List Request} {first now : Option (List ℕ)} → (new.script).ended ≡ (old.script).ended →
    HasGivenRequestsIn old taken told first now → HasGivenRequests new taken now_told → HasGivenRequestsIn new taken now_told first now
in_requests old new {taken = taken} {told = told} {now_told = now_told} {first = first} {now = now} same given gives = record {
  given = gives;
  takes = given.takes;
  end = λ is. given.end (sym same ∙ is);
}

-- What holds where no request is left of the bytes.
abbrev pub HasNoRequest : Requests → List ℕ → List Request → Type 0
HasNoRequest requests taken told = HasGivenRequests requests taken told × MatchBool (requests.script).ended (AreRequests taken told) (AreWholeRequests taken told)

-- the input gives no more
pub requests_stop : (mid new : Requests) {error : ScriptError} {first was now : Option (List ℕ)} (taken more : List ℕ) {told : List Request} → (error ≡ Read) ⊎ (error ≡ TooMuch) →
    ◌≡◌ {A = Result (Unit {0}) ScriptError} (Err error) (Err TooMuch) ↔ (((mid.script).input).taken ≡ most_input) → (mid.script).ended ≡ false →
    HasGivenRequestsIn mid (taken ++ more) told first was → HasNoRequest mid (taken ++ more) told → HasGivenRequestsIn new (taken ++ more) told first now →
    StopsRequests error new taken told first now
requests_stop mid new {error = error} {first = first} {was = was} {now = now} taken more {told = told} is too_much unended given (gives, all) after =
    let few : ((mid.script).input).taken ≤ most_input = ((mid.script).input).few in
    let stopped : StopsInRequests (taken ++ more) told first now =
    record { takes = after.takes; whole = MatchBool-at_false (AreRequests (taken ++ more) told) (AreWholeRequests (taken ++ more) told) unended all } in
    let counted : ((mid.script).input).taken ≡ length (taken ++ more) = (gives.script).counted in
    ⊎_elim
    (λ (read : error ≡ Read).
    let below : ((mid.script).input).taken ≡ most_input → ⊥ = λ all_taken. let no_read : ◌≡◌ {A = Result (Unit {0}) ScriptError} (Err Read) (Err TooMuch) = ap (λ e. Err e) (sym read) ∙ too_much.1 all_taken in cc in
    subst (λ (e : ScriptError). StopsRequests e new taken told first now) (sym read) (more, after, (let e : length (taken ++ more) < most_input = omega arith in e), stopped))
    (λ (much : error ≡ TooMuch).
    let all_taken : ((mid.script).input).taken ≡ most_input = too_much.0 (ap (λ e. Err e) much) in
    subst (λ (e : ScriptError). StopsRequests e new taken told first now) (sym much) (more, after, sym counted ∙ all_taken, stopped))
    is

-- memory runs out, and no further byte was taken
pub requests_stop_memory : (old new : Requests) {error : ScriptError} {first now : Option (List ℕ)} (taken more : List ℕ) {told : List Request} → error ≡ Memory →
    ((new.script).input).taken ≡ ((old.script).input).taken → HasGivenRequestsIn old (taken ++ more) told first now → StopsRequests error new taken told first now
requests_stop_memory old new {first = first} {now = now} taken more {told = told} is same given =
    let counted : ((old.script).input).taken ≡ length (taken ++ more) = ((given.given).script).counted in
    let few : ((old.script).input).taken ≤ most_input = ((old.script).input).few in
    subst (λ (e : ScriptError). StopsRequests e new taken told first now) (sym is)
    (more, record { counted = same ∙ counted; takes = given.takes }, (let e : length (taken ++ more) ≤ most_input = omega (arith, counted, few) in e))

-- more bytes are taken, or none
pub fills_requests : (old new : Requests) (taken bytes : List ℕ) (told : List Request) (first now next : Option (List ℕ)) → (old.script).ended ≡ false → new.begun ≡ old.begun →
    (given : HasGivenRequestsIn old taken told first now) → HasGivenIn new.script bytes ((given.given).commands) first next → HasGivenRequestsIn new bytes told first next
fills_requests old new taken bytes told first now next unended same given gives = record {
  given = record {
    commands = (given.given).commands;
    script = gives.given;
    grouped = elim (given.given).grouped [
      | inl grouped ↦ inl (same_kept same grouped)
      | inr all ↦ let ended : true ≡ false = sym ((given.given).script.ended all.finished) ∙ unended in absurd (cc)
    ];
  };
  takes = gives.takes;
  end = gives.end;
}

-- ... of the script that requests are made of
pub script_given : {requests : Requests} {taken : List ℕ} {told : List Request} {first now : Option (List ℕ)} → (given : HasGivenRequestsIn requests taken told first now) →
    HasGivenIn requests.script taken ((given.given).commands) first now
script_given given = record { given = (given.given).script; takes = given.takes; end = given.end }

pub fills_well : (old new : Requests) (result : Result (Unit {0}) ScriptError) (now next : Option (List ℕ)) → (old.script).ended ≡ false → new.begun ≡ old.begun →
    OnOk result ((first : Option (List ℕ)) (taken : List ℕ) (commands : List Command) → HasGivenIn old.script taken commands first now → (more : List ℕ) × HasGivenIn new.script (taken ++ more) commands first next) →
    OnOk result ((first : Option (List ℕ)) (taken : List ℕ) (given : List Request) → HasGivenRequestsIn old taken given first now → (more : List ℕ) × HasGivenRequestsIn new (taken ++ more) given first next)
fills_well old new (Ok done) now next unended same fills = λ first taken told given.
    let (more, gives) = fills first taken ((given.given).commands) (script_given given) in (more, fills_requests old new taken (taken ++ more) told first now next unended same given gives)
fills_well old new (Err error) now next unended same fills = fills

pub fills_none : (old new : Requests) (result : Result (Unit {0}) ScriptError) (now next : Option (List ℕ)) → (old.script).ended ≡ false → new.begun ≡ old.begun →
    OnErr result ((first : Option (List ℕ)) (taken : List ℕ) (commands : List Command) → HasGivenIn old.script taken commands first now → HasGivenIn new.script taken commands first next) →
    OnErr result ((first : Option (List ℕ)) (taken : List ℕ) (given : List Request) → HasGivenRequestsIn old taken given first now → HasGivenRequestsIn new taken given first next)
fills_none old new (Ok done) now next unended same fills = fills
fills_none old new (Err error) now next unended same fills = λ first taken told given.
    fills_requests old new taken taken told first now next unended same given (fills first taken ((given.given).commands) (script_given given))
