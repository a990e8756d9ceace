-- Laws of single steps, over requests.
use Rattle.std.proofs.Common.{◌≡◌, ◌⊎◌, inl, inr, Bool, true, false, if◌then◌else◌, List, [], ◌∷◌, refl, sym, ap, subst, ◌∙◌}
use Rattle.std.specs.Bool.{MatchBool}
use Rattle.std.specs.List.{AllByRecursion}
use Rattle.std.proofs.lemmas.List.Elements.{recursion_from_All}
use Rattle.std.proofs.lemmas.List.Sums.{fold-append}
use Rattle.nx_script.specs.declared.command.Command.{Command}
use Rattle.nx_script.specs.declared.reply.Reply.{Reply}
use Rattle.nx_script.specs.declared.reply.ReplyError.TheVariants.{Syntax}
use Rattle.nx_script.specs.declared.reply.Reply.TheVariants as reply
use Rattle.nx_script.specs.declared.request.Request.{Request}
use Rattle.nx_script.specs.declared.request.Request.TheVariants.{Single, Transaction}
use Rattle.nx_script.specs.declared.request.Answer.{Answer}
use Rattle.nx_script.specs.declared.request.Answer.TheVariants.{One, All, RefusedAt}
use Rattle.nx_script.specs.Commands.{CanCome}
use Rattle.nx_script.specs.Requests.{CanComeRequest}
use Rattle.nx_engine.specs.Documents.{Documents}
use Rattle.nx_engine.specs.Step.{documents_after, after_all}
use Rattle.nx_state.specs.State.{State}
use Rattle.nx_steps.specs.Answers.{Refuses}
use Rattle.nx_steps.specs.Step.{trees, may_change, Step}
use Rattle.nx_steps.specs.Requests.{is_refused, PartStep, GoThrough, RequestStep, RequestsRunTo}
use Rattle.nx_steps.specs.Sound.{AreFeasible, IsSound}
use Rattle.nx_steps.specs.Plain.{is_limit, IsPlainStep}
use Rattle.nx_steps.specs.RequestLaws.{RequestsKeepSound, RequestRunsKeepSound, RequestsStayFeasible, RequestsStayPartitioned, RequestsStay, TransactionsEditTrees, carried_out, RequestRunsEditTrees}
use Rattle.nx_steps.proofs.FeasibleLemmas.{step_feasible, feasible_partitioned}
use Rattle.nx_steps.proofs.PlainLemmas.{step_plain}
use Rattle.nx_steps.proofs.SoundLemmas.{step_sound}
use Rattle.nx_steps.proofs.RunLemmas.{others_stay}

-- ---- commands of a transaction

-- one steps as it does, or it is refused as no command
pub part_cases : (state : State) (command : Command) (r : Reply) (next : State) → PartStep state command r next
    → ((may_change command ≡ true) × Step state command r next) ⊎ ((may_change command ≡ false) × Refuses state Syntax r next)
part_cases state command r next part = go (may_change command) refl part
  where
    go : (b : Bool) → may_change command ≡ b → MatchBool b (Step state command r next) (Refuses state Syntax r next)
        → ((may_change command ≡ true) × Step state command r next) ⊎ ((may_change command ≡ false) × Refuses state Syntax r next)
    go true is step = inl (is, step)
    go false is refuses = inr (is, refuses)

pub part_feasible : (state : State) (command : Command) (r : Reply) (next : State) → AreFeasible state → PartStep state command r next → AreFeasible next
part_feasible state command r next feasible part =
    elim (part_cases state command r next part) [ inl step ↦ step_feasible state command r next feasible step.1 | inr refuses ↦ subst AreFeasible (sym refuses.1.1) feasible ]

part_sound : (state : State) (command : Command) (r : Reply) (next : State) → CanCome command → IsSound state → PartStep state command r next → IsSound next
part_sound state command r next comes sound part =
    elim (part_cases state command r next part) [ inl step ↦ step_sound state command r next comes sound step.1 | inr refuses ↦ subst IsSound (sym refuses.1.1) sound ]

-- one that isn't refused is none that is refused for a limit
pub kept_unlimited : (r : Reply) → is_refused r ≡ false → is_limit r ≡ false
kept_unlimited (reply.Refused error) kept = absurd (let no : true ≡ false = kept in cc)
kept_unlimited r kept = refl

pub part_trees : (state : State) (command : Command) (r : Reply) (next : State) → AreFeasible state → is_refused r ≡ false → PartStep state command r next → trees next ≡ documents_after (trees state) command
part_trees state command r next feasible kept part = elim (part_cases state command r next part) [
  | inl step ↦ of_plain (is_limit r) (kept_unlimited r kept) (step_plain state command r next feasible step.1)
  | inr refuses ↦ let no : true ≡ false = sym (ap is_refused refuses.1.0) ∙ kept in absurd (cc)
]
  where
    of_plain : (b : Bool) → b ≡ false → MatchBool b (next ≡ state) (IsPlainStep (trees state) command r next) → trees next ≡ documents_after (trees state) command
    of_plain true is step = absurd (cc)
    of_plain false is step = step.trees_are

-- ---- transactions that are carried out

pub through_feasible : (state : State) (commands : List Command) (replies : List Reply) (last : State) → AreFeasible state → GoThrough state commands replies last → AreFeasible last
through_feasible state [] [] last feasible through = subst AreFeasible (sym through) feasible
through_feasible state [] (r ∷ rs) last feasible through = absurd through
through_feasible state (command ∷ commands) [] last feasible through = absurd through
through_feasible state (command ∷ commands) (r ∷ rs) last feasible through =
    through_feasible through.0 commands rs last (part_feasible state command r through.0 feasible through.1) through.3

through_sound : (state : State) (commands : List Command) (replies : List Reply) (last : State) → AllByRecursion CanCome commands → IsSound state → GoThrough state commands replies last → IsSound last
through_sound state [] [] last all sound through = subst IsSound (sym through) sound
through_sound state [] (r ∷ rs) last all sound through = absurd through
through_sound state (command ∷ commands) [] last all sound through = absurd through
through_sound state (command ∷ commands) (r ∷ rs) last all sound through =
    through_sound through.0 commands rs last all.1 (part_sound state command r through.0 all.0 sound through.1) through.3

pub transactions_edit_trees : TransactionsEditTrees
transactions_edit_trees state [] [] last feasible through = ap trees through
transactions_edit_trees state [] (r ∷ rs) last feasible through = absurd through
transactions_edit_trees state (command ∷ commands) [] last feasible through = absurd through
transactions_edit_trees state (command ∷ commands) (r ∷ rs) last feasible through =
    transactions_edit_trees through.0 commands rs last (part_feasible state command r through.0 feasible through.1) through.3
    ∙ ap (λ (d : Documents). after_all d commands) (part_trees state command r through.0 feasible through.2 through.1)

-- ---- requests

pub requests_stay_feasible : RequestsStayFeasible
requests_stay_feasible state (Single command) (One r) next feasible step = step_feasible state command r next feasible step
requests_stay_feasible state (Single command) (All replies) next feasible step = absurd step
requests_stay_feasible state (Single command) (RefusedAt number error) next feasible step = absurd step
requests_stay_feasible state (Transaction commands) (One r) next feasible step = absurd step
requests_stay_feasible state (Transaction commands) (All replies) next feasible step = through_feasible state commands replies next feasible step
requests_stay_feasible state (Transaction commands) (RefusedAt number error) next feasible step = subst AreFeasible (sym step.1) feasible

pub requests_stay_partitioned : RequestsStayPartitioned
requests_stay_partitioned state request answer next feasible step = feasible_partitioned next (requests_stay_feasible state request answer next feasible step)

pub requests_keep_sound : RequestsKeepSound
requests_keep_sound state (Single command) (One r) next comes sound step = step_sound state command r next comes sound step
requests_keep_sound state (Single command) (All replies) next comes sound step = absurd step
requests_keep_sound state (Single command) (RefusedAt number error) next comes sound step = absurd step
requests_keep_sound state (Transaction commands) (One r) next comes sound step = absurd step
requests_keep_sound state (Transaction commands) (All replies) next comes sound step = through_sound state commands replies next (recursion_from_All CanCome commands comes) sound step
requests_keep_sound state (Transaction commands) (RefusedAt number error) next comes sound step = subst IsSound (sym step.1) sound

pub other_requests_stay : RequestsStay
other_requests_stay state (Single command) (One r) next still step = others_stay state command r next still step
other_requests_stay state (Single command) (All replies) next still step = absurd step
other_requests_stay state (Single command) (RefusedAt number error) next still step = absurd step
other_requests_stay state (Transaction commands) (One r) next still step = absurd step
other_requests_stay state (Transaction []) (All []) next still step = step
other_requests_stay state (Transaction []) (All (r ∷ replies)) next still step = absurd step
other_requests_stay state (Transaction (command ∷ commands)) (All replies) next still step = absurd (let no : true ≡ false = still in cc)
other_requests_stay state (Transaction commands) (RefusedAt number error) next still step = step.1

-- ---- runs

request_runs_sound : (state : State) (requests : List Request) (answers : List Answer) (last : State) → AllByRecursion CanComeRequest requests → IsSound state → RequestsRunTo state requests answers last → IsSound last
request_runs_sound state [] [] last all sound run = subst IsSound (sym run) sound
request_runs_sound state [] (a ∷ answers) last all sound run = absurd run
request_runs_sound state (request ∷ requests) [] last all sound run = absurd run
request_runs_sound state (request ∷ requests) (a ∷ answers) last all sound run =
    request_runs_sound run.0 requests answers last all.1 (requests_keep_sound state request a run.0 all.0 sound run.1) run.2

pub request_runs_keep_sound : RequestRunsKeepSound
request_runs_keep_sound state requests answers last all sound run = request_runs_sound state requests answers last (recursion_from_All CanComeRequest requests all) sound run

-- a request, and those behind it
edit_trees : (state : State) (request : Request) (answer : Answer) (next : State) (requests : List Request) (answers : List Answer) → AreFeasible state → RequestStep state request answer next
    → after_all (trees next) (carried_out requests answers) ≡ after_all (trees state) (carried_out (request ∷ requests) (answer ∷ answers))
edit_trees state (Single command) (One r) next requests answers feasible step = by_limit (is_limit r) (step_plain state command r next feasible step)
  where
    by_limit : (b : Bool) → MatchBool b (next ≡ state) (IsPlainStep (trees state) command r next)
        → after_all (trees next) (carried_out requests answers) ≡ after_all (trees state) (if b then carried_out requests answers else command ∷ carried_out requests answers)
    by_limit true same = ap (λ (s : State). after_all (trees s) (carried_out requests answers)) same
    by_limit false is = ap (λ (d : Documents). after_all d (carried_out requests answers)) is.trees_are
edit_trees state (Single command) (All replies) next requests answers feasible step = absurd step
edit_trees state (Single command) (RefusedAt number error) next requests answers feasible step = absurd step
edit_trees state (Transaction commands) (One r) next requests answers feasible step = absurd step
edit_trees state (Transaction commands) (All replies) next requests answers feasible step =
    ap (λ (d : Documents). after_all d (carried_out requests answers)) (transactions_edit_trees state commands replies next feasible step)
    ∙ sym (fold-append documents_after (trees state) commands (carried_out requests answers))
edit_trees state (Transaction commands) (RefusedAt number error) next requests answers feasible step = ap (λ (s : State). after_all (trees s) (carried_out requests answers)) step.1

pub request_runs_edit_trees : RequestRunsEditTrees
request_runs_edit_trees state [] [] last feasible run = ap trees run
request_runs_edit_trees state [] (a ∷ answers) last feasible run = absurd run
request_runs_edit_trees state (request ∷ requests) [] last feasible run = absurd run
request_runs_edit_trees state (request ∷ requests) (a ∷ answers) last feasible run =
    request_runs_edit_trees run.0 requests answers last (requests_stay_feasible state request a run.0 feasible run.1) run.2
    ∙ edit_trees state request a run.0 requests answers feasible run.1
