-- Laws of single steps, over runs.
use Rattle.std.proofs.Common.{◌≡◌, if◌then◌else◌, true, false, List, [], ◌∷◌, refl, sym, ap, subst, ◌∙◌}
use Rattle.std.specs.Bool.{MatchBool}
use Rattle.std.specs.List.{AllByRecursion}
use Rattle.std.proofs.lemmas.List.Elements.{recursion_from_All}
use Rattle.nx_script.specs.declared.command.Command.{Command}
use Rattle.nx_script.specs.declared.command.Command.TheVariants.{Load, Discard, Rename, Names, Export, Insert, Delete, Retext, Get, Layout, SetRule, Rules, Checkpoint, Begin, Commit, Bad}
use Rattle.nx_script.specs.declared.reply.Reply.{Reply}
use Rattle.nx_script.specs.Commands.{CanCome}
use Rattle.nx_engine.specs.Documents.{Documents}
use Rattle.nx_engine.specs.Step.{reply_to, after_all, replies as replies_to}
use Rattle.nx_state.specs.State.{State}
use Rattle.nx_steps.specs.Step.{trees, Effect, may_change, RunsTo}
use Rattle.nx_steps.specs.Refusal.{refusal}
use Rattle.nx_steps.specs.Sound.{AreFeasible, IsSound}
use Rattle.nx_steps.specs.Plain.{is_plain, plain_reply, is_limit, IsPlainStep, taken, plain_replies}
use Rattle.nx_steps.specs.Laws.{StateStays, RunsEditTrees, RunsReplyPlainly, RunsKeepSound}
use Rattle.nx_steps.proofs.FeasibleLemmas.{by_step, step_feasible}
use Rattle.nx_steps.proofs.PlainLemmas.{step_plain}
use Rattle.nx_steps.proofs.SoundLemmas.{step_sound}

-- an effect of a command that may not change what is stored
effect_stays : (state : State) (command : Command) (r : Reply) (next : State) → may_change command ≡ false → Effect state command r next → next ≡ state
effect_stays state (Load name body) r next still effect = cc
effect_stays state (Discard name) r next still effect = cc
effect_stays state (Rename old new) r next still effect = cc
effect_stays state Names r next still effect = effect.1
effect_stays state (Export name) r next still effect = effect.1
effect_stays state (Insert name path said) r next still effect = cc
effect_stays state (Delete name path) r next still effect = cc
effect_stays state (Retext name path said) r next still effect = cc
effect_stays state (Get name path) r next still effect = effect.1
effect_stays state (Layout name) r next still effect = effect.1
effect_stays state (SetRule rule) r next still effect = cc
effect_stays state Rules r next still effect = effect.1
effect_stays state Checkpoint r next still effect = effect.1
effect_stays state (Begin bare) r next still effect = absurd effect
effect_stays state Commit r next still effect = absurd effect
effect_stays state Bad r next still effect = absurd effect

pub others_stay : StateStays
others_stay state command r next still step = by_step state command r next (λ s. s ≡ state) refl (λ none effect. effect_stays state command r next still effect) (refusal state command) refl step

pub runs_edit_trees : RunsEditTrees
runs_edit_trees state [] [] last feasible run = ap trees run
runs_edit_trees state [] (r ∷ rs) last feasible run = absurd run
runs_edit_trees state (command ∷ commands) [] last feasible run = absurd run
runs_edit_trees state (command ∷ commands) (r ∷ rs) last feasible run =
    let rest = runs_edit_trees run.0 commands rs last (step_feasible state command r run.0 feasible run.1) run.2 in
    (elim (is_limit r) as (λ t. MatchBool t (run.0 ≡ state) (IsPlainStep (trees state) command r run.0) → trees last ≡ after_all (trees state) (if t then taken commands rs else command ∷ taken commands rs)) [
      | true ↦ λ same. rest ∙ ap (λ (s : State). after_all (trees s) (taken commands rs)) same
      | false ↦ λ is. rest ∙ ap (λ (d : Documents). after_all d (taken commands rs)) is.trees_are
    ]) (step_plain state command r run.0 feasible run.1)

reply_plainly : (state : State) (commands : List Command) (rs : List Reply) (last : State) → AreFeasible state → AllByRecursion (λ (command : Command). is_plain command ≡ true) commands
    → RunsTo state commands rs last → plain_replies rs ≡ replies_to (trees state) (taken commands rs)
reply_plainly state [] [] last feasible all run = refl
reply_plainly state [] (r ∷ rs) last feasible all run = absurd run
reply_plainly state (command ∷ commands) [] last feasible all run = absurd run
reply_plainly state (command ∷ commands) (r ∷ rs) last feasible all run =
    let rest = reply_plainly run.0 commands rs last (step_feasible state command r run.0 feasible run.1) all.1 run.2 in
    (elim (is_limit r) as (λ t. MatchBool t (run.0 ≡ state) (IsPlainStep (trees state) command r run.0)
    → (if t then plain_replies rs else plain_reply r ∷ plain_replies rs) ≡ replies_to (trees state) (if t then taken commands rs else command ∷ taken commands rs)) [
      | true ↦ λ same. rest ∙ ap (λ (s : State). replies_to (trees s) (taken commands rs)) same
      | false ↦ λ is.
          ap (λ (x : Reply). x ∷ plain_replies rs) (is.reply_is all.0)
          ∙ ap (λ (xs : List Reply). reply_to (trees state) command ∷ xs) (rest ∙ ap (λ (d : Documents). replies_to d (taken commands rs)) is.trees_are)
    ]) (step_plain state command r run.0 feasible run.1)

pub runs_reply_plainly : RunsReplyPlainly
runs_reply_plainly state commands rs last feasible all run = reply_plainly state commands rs last feasible (recursion_from_All (λ (command : Command). is_plain command ≡ true) commands all) run

keep_sound : (state : State) (commands : List Command) (rs : List Reply) (last : State) → AllByRecursion CanCome commands → IsSound state → RunsTo state commands rs last → IsSound last
keep_sound state [] [] last all sound run = subst IsSound (sym run) sound
keep_sound state [] (r ∷ rs) last all sound run = absurd run
keep_sound state (command ∷ commands) [] last all sound run = absurd run
keep_sound state (command ∷ commands) (r ∷ rs) last all sound run = keep_sound run.0 commands rs last all.1 (step_sound state command r run.0 all.0 sound run.1) run.2

pub runs_keep_sound : RunsKeepSound
runs_keep_sound state commands rs last all sound run = keep_sound state commands rs last (recursion_from_All CanCome commands all) sound run
