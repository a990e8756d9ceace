-- Requests are answered as over trees in memory.
use Rattle.std.proofs.Common.{◌≡◌, inl, inr, Bool, true, false, if◌then◌else◌, List, [], ◌∷◌, ◌++◌, ℕ, refl, sym, ap, subst, ◌∙◌}
use Rattle.std.specs.Prelude.{map}
use Rattle.std.specs.Bool.{MatchBool}
use Rattle.std.specs.List.{AllByRecursion}
use Rattle.std.proofs.lemmas.Bool.{false≢true}
use Rattle.std.proofs.lemmas.List.Elements.{recursion_from_All, All-from_recursion}
use Rattle.nx_script.specs.declared.command.Command.{Command}
use Rattle.nx_script.specs.declared.command.Command.TheVariants.{Load, Discard, Rename, Names, Export, Insert, Delete, Retext, Get, Layout, SetRule, Rules, Checkpoint, Begin, Commit, Bad}
use Rattle.nx_script.specs.declared.reply.Reply.{Reply}
use Rattle.nx_script.specs.declared.reply.Reply.TheVariants as reply
use Rattle.nx_script.specs.declared.reply.ReplyError.{ReplyError}
use Rattle.nx_script.specs.declared.reply.ReplyError.TheVariants.{Syntax}
use Rattle.nx_script.specs.declared.request.Request.TheVariants.{Single, Transaction}
use Rattle.nx_script.specs.declared.request.Answer.TheVariants.{One, All, RefusedAt}
use Rattle.nx_engine.specs.Documents.{Documents}
use Rattle.nx_engine.specs.Step.{reply_to}
use Rattle.nx_state.specs.State.{State}
use Rattle.nx_steps.specs.Step.{trees, may_change, Step}
use Rattle.nx_steps.specs.Requests.{is_refused, PartStep, GoThrough, IsRefusedAt}
use Rattle.nx_steps.specs.Sound.{AreFeasible}
use Rattle.nx_steps.specs.Plain.{is_plain, plain_reply, is_limit, IsPlainStep}
use Rattle.nx_steps.specs.PlainAnswers.{is_plain_part, part_reply, part_replies, IsPlainlyRefusedAt}
use Rattle.nx_steps.specs.RequestLaws.{RequestsReplyPlainly}
use Rattle.nx_steps.proofs.PlainLemmas.{step_plain}
use Rattle.nx_steps.proofs.RequestLemmas.{part_cases, part_feasible, part_trees, kept_unlimited, through_feasible, transactions_edit_trees}

-- a command that may change what is stored, but for a rule, is carried out over trees in memory
changes_plainly : (command : Command) → may_change command ≡ true → is_plain_part command ≡ true → is_plain command ≡ true
changes_plainly (Load name body) may plain = refl
changes_plainly (Discard name) may plain = refl
changes_plainly (Rename old new) may plain = refl
changes_plainly (Insert name path said) may plain = refl
changes_plainly (Delete name path) may plain = refl
changes_plainly (Retext name path said) may plain = refl
changes_plainly (SetRule rule) may plain = absurd (false≢true plain)
changes_plainly Names may plain = absurd (false≢true may)
changes_plainly (Export name) may plain = absurd (false≢true may)
changes_plainly (Get name path) may plain = absurd (false≢true may)
changes_plainly (Layout name) may plain = absurd (false≢true may)
changes_plainly Rules may plain = absurd (false≢true may)
changes_plainly Checkpoint may plain = absurd (false≢true may)
changes_plainly (Begin bare) may plain = absurd (false≢true may)
changes_plainly Commit may plain = absurd (false≢true may)
changes_plainly Bad may plain = absurd (false≢true may)

-- a step that isn't refused for a limit is a plain one
unlimited_plain : (state : State) (command : Command) (r : Reply) (next : State) → AreFeasible state → is_limit r ≡ false
    → Step state command r next → IsPlainStep (trees state) command r next
unlimited_plain state command r next feasible free step = of_plain (is_limit r) free (step_plain state command r next feasible step)
  where
    of_plain : (b : Bool) → b ≡ false → MatchBool b (next ≡ state) (IsPlainStep (trees state) command r next)
        → IsPlainStep (trees state) command r next
    of_plain true is step = absurd (cc)
    of_plain false is step = step

part_plain : (state : State) (command : Command) (r : Reply) (next : State) → AreFeasible state → is_plain_part command ≡ true
    → is_limit r ≡ false → PartStep state command r next → plain_reply r ≡ part_reply (trees state) command
part_plain state command r next feasible plain free part = elim (part_cases state command r next part) [
  | inl step ↦
      (unlimited_plain state command r next feasible free step.1).reply_is (changes_plainly command step.0 plain)
      ∙ ap (λ b. if b then reply_to (trees state) command else reply.Refused Syntax) (sym step.0)
  | inr refuses ↦
      ap plain_reply refuses.1.0
      ∙ ap (λ b. if b then reply_to (trees state) command else reply.Refused Syntax) (sym refuses.0)
]

abbrev ArePlainParts : List Command → Type 0
ArePlainParts commands = AllByRecursion (λ (command : Command). is_plain_part command ≡ true) commands

-- the replies of commands that go through
through_plain : (state : State) (commands : List Command) (replies : List Reply) (last : State) → AreFeasible state
    → ArePlainParts commands → GoThrough state commands replies last → map plain_reply replies ≡ part_replies (trees state) commands
through_plain state [] [] last feasible plain through = refl
through_plain state [] (r ∷ rs) last feasible plain through = absurd through
through_plain state (command ∷ commands) [] last feasible plain through = absurd through
through_plain state (command ∷ commands) (r ∷ rs) last feasible plain through =
    let next = through.0 in
    let rest = through_plain next commands rs last (part_feasible state command r next feasible through.1) plain.1 through.3 in
    ap (λ (q : Reply). q ∷ map plain_reply rs) (part_plain state command r next feasible plain.0 (kept_unlimited r through.2) through.1)
    ∙ ap (λ (qs : List Reply). part_reply (trees state) command ∷ qs)
    (rest ∙ ap (λ (d : Documents). part_replies d commands) (part_trees state command r next feasible through.2 through.1))

-- ... are no refusals
through_taken : (state : State) (commands : List Command) (replies : List Reply) (last : State) → GoThrough state commands replies last
    → AllByRecursion (λ (r : Reply). is_refused r ≡ false) replies
through_taken state [] [] last through = tt
through_taken state [] (r ∷ rs) last through = absurd through
through_taken state (command ∷ commands) [] last through = absurd through
through_taken state (command ∷ commands) (r ∷ rs) last through = (through.2, through_taken through.0 commands rs last through.3)

refused_alike : (r : Reply) → is_refused r ≡ false → is_refused (plain_reply r) ≡ false
refused_alike (reply.Loaded nodes intervals) taken = refl
refused_alike r taken = taken

-- ... nor are those of trees in memory
taken_plainly : (replies : List Reply) → AllByRecursion (λ (r : Reply). is_refused r ≡ false) replies
    → AllByRecursion (λ (r : Reply). is_refused r ≡ false) (map plain_reply replies)
taken_plainly [] all = tt
taken_plainly (r ∷ rs) all = (refused_alike r all.0, taken_plainly rs all.1)

-- one of some commands
one_of : (before : List Command) (command : Command) (after : List Command) → ArePlainParts (before ++ command ∷ after)
    → ArePlainParts before × (is_plain_part command ≡ true)
one_of [] command after all = (tt, all.0)
one_of (first ∷ before) command after all = let rest = one_of before command after all.1 in ((all.0, rest.0), rest.1)

refused_plainly : (state : State) (commands : List Command) (number : ℕ) (error : ReplyError) → AreFeasible state → ArePlainParts commands
    → is_limit (reply.Refused error) ≡ false → IsRefusedAt state commands number error → IsPlainlyRefusedAt (trees state) commands number error
refused_plainly state commands number error feasible plain free at =
    let all = one_of at.before at.command at.after (subst ArePlainParts at.commands_are plain) in
    let same = transactions_edit_trees state at.before at.replies at.reached feasible at.through in
    let reached = through_feasible state at.before at.replies at.reached feasible at.through in
    record {
      before = at.before;
      command = at.command;
      after = at.after;
      commands_are = at.commands_are;
      number_is = at.number_is;
      taken = All-from_recursion (λ (r : Reply). is_refused r ≡ false) (part_replies (trees state) at.before) (
          subst (λ (rs : List Reply). AllByRecursion (λ (r : Reply). is_refused r ≡ false) rs)
          (through_plain state at.before at.replies at.reached feasible all.0 at.through)
          (taken_plainly at.replies (through_taken state at.before at.replies at.reached at.through))
          );
      refused =
          ap (λ (d : Documents). part_reply d at.command) (sym same)
          ∙ sym (part_plain at.reached at.command (reply.Refused error) at.reached reached all.1 free at.refused);
    }

pub requests_reply_plainly : RequestsReplyPlainly
requests_reply_plainly state (Single command) (One r) next feasible plain free step =
    (unlimited_plain state command r next feasible free step).reply_is plain
requests_reply_plainly state (Single command) (All replies) next feasible plain free step = absurd step
requests_reply_plainly state (Single command) (RefusedAt number error) next feasible plain free step = absurd step
requests_reply_plainly state (Transaction commands) (One r) next feasible plain free step = absurd step
requests_reply_plainly state (Transaction commands) (All replies) next feasible plain free step = (
  through_plain state commands replies next feasible (recursion_from_All (λ (command : Command). is_plain_part command ≡ true) commands plain) step,
  All-from_recursion (λ (r : Reply). is_refused r ≡ false) replies (through_taken state commands replies next step),
)
requests_reply_plainly state (Transaction commands) (RefusedAt number error) next feasible plain free step =
    refused_plainly state commands number error feasible (recursion_from_All (λ (command : Command). is_plain_part command ≡ true) commands plain) free step.0
