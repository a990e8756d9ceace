-- Behind each step no part is too heavy.
use Rattle.std.proofs.Common.{◌≡◌, ◌⊎◌, inl, inr, ℕ, cond, true, false, List, Option, None, Some, refl, sym, subst, ◌∙◌, arith}
use Rattle.std.specs.Prelude.{MatchOption}
use Rattle.std.specs.Ordering.{eq_by_cmp}
use Rattle.std.specs.Cmp.Lexicographic.{nat_list_cmp_total}
use Rattle.std.specs.FinMap.{get, remove, get-insert, get-remove}
use Rattle.nx_parts.specs.Partitioning.{IsFeasible}
use Rattle.nx_cuts.specs.Cut.{CutTree, AreParts, tree_of, parts_of}
use Rattle.nx_cuts.proofs.PartitionLemmas.{drawn_feasible}
use Rattle.nx_pyx.specs.DocumentName.{name_order}
use Rattle.nx_script.specs.declared.command.LoadBody.TheVariants as load
use Rattle.nx_script.specs.declared.command.LineBody.TheVariants as line
use Rattle.nx_script.specs.declared.command.TextBody.TheVariants as content
use Rattle.nx_script.specs.declared.command.Command.TheVariants.{Load, Discard, Rename, Names, Export, Insert, Delete, Retext, Get, Layout, SetRule, Rules, Checkpoint, Begin, Commit, Bad}
use Rattle.nx_script.specs.declared.command.Command.{Command}
use Rattle.nx_script.specs.declared.reply.Reply.{Reply}
use Rattle.nx_script.specs.declared.reply.ReplyError.{ReplyError}
use Rattle.nx_state.specs.State.{State}
use Rattle.nx_drawn.specs.Edits.{inserted, deleted, retexted}
use Rattle.nx_drawn.specs.Splits.{Splits, whole_document}
use Rattle.nx_drawn.proofs.EditLaws.{edits_stay_light}
use Rattle.nx_steps.specs.Answers.{Refuses, with_document}
use Rattle.nx_steps.specs.Step.{Edits, Effect, FindsNoRoom}
use Rattle.nx_steps.specs.Refusal.{refusal}
use Rattle.nx_steps.specs.Sound.{OfEachDocument, AreFeasible}
use Rattle.nx_steps.specs.Laws.{ArePartitioned, StepsStayFeasible, StepsStayPartitioned}
use Rattle.nx_steps.proofs.StoredLemmas.{one_name}

same_document : (a b : CutTree) → Some a ≡ Some b → a ≡ b
same_document a b e = cc

-- with one document more, or another one of that name
pub each_with : (P : List ℕ → CutTree → Type 0) (state : State) (name : List ℕ) (new : CutTree) → OfEachDocument P state → P name new → OfEachDocument P (with_document state name new)
each_with P state name new each new_has = λ q document there.
    (elim (eq_by_cmp name_order q name) as (λ t. eq_by_cmp name_order q name ≡ t → cond t (Some new) (get state.documents q) ≡ Some document → P q document) [
      | true ↦ λ tie is. subst (λ (n : List ℕ). P n document) (sym (one_name q name tie)) (subst (λ (d : CutTree). P name d) (same_document new document is) new_has)
      | false ↦ λ tie is. each q document is
    ]) refl (sym (get-insert nat_list_cmp_total state.documents name new q) ∙ there)

-- with one document fewer
pub each_without : (P : List ℕ → CutTree → Type 0) (state : State) (name : List ℕ) → OfEachDocument P state → OfEachDocument P (record state { documents = remove state.documents name })
each_without P state name each = λ q document there.
    (elim (eq_by_cmp name_order q name) as (λ t. cond t None (get state.documents q) ≡ Some document → P q document) [
      | true ↦ λ is. cc
      | false ↦ λ is. each q document is
    ]) (sym (get-remove nat_list_cmp_total state.documents name q) ∙ there)

-- one document is another
edited_feasible : (state next : State) (name : List ℕ) (Becomes : CutTree → CutTree → Type 0) → AreFeasible state
    → ((old new : CutTree) → get state.documents name ≡ Some old → Becomes old new → AreParts (state.settings).k (whole_document new)) → Edits state name Becomes next → AreFeasible next
edited_feasible state next name Becomes feasible light e =
    subst AreFeasible (sym e.next_is) (each_with (λ q document. AreParts (state.settings).k (whole_document document)) state name e.new feasible (light e.old e.new e.there e.becomes))

effect_feasible : (state : State) (command : Command) (r : Reply) (next : State) → AreFeasible state → Effect state command r next → AreFeasible next
effect_feasible state (Load name (load.Wrong error)) r next feasible effect = absurd effect
effect_feasible state (Load name (load.Read tree)) r next feasible effect =
    subst AreFeasible (sym effect.next_is) (each_with (λ q document. AreParts (state.settings).k (whole_document document)) state name effect.document feasible effect.drawn)
effect_feasible state (Discard name) r next feasible effect =
    subst AreFeasible (sym effect.1) (each_without (λ q document. AreParts (state.settings).k (whole_document document)) state name feasible)
effect_feasible state (Rename old new) r next feasible effect =
    let P : List ℕ → CutTree → Type 0 = λ q document. AreParts (state.settings).k (whole_document document) in
    let without : State = record state { documents = remove state.documents old } in
    subst AreFeasible (sym effect.1.next_is) (each_with P without new effect.1.document (each_without P state old feasible) (feasible old effect.1.document effect.1.there))
effect_feasible state Names r next feasible effect = subst AreFeasible (sym effect.1) feasible
effect_feasible state (Export name) r next feasible effect = subst AreFeasible (sym effect.1) feasible
effect_feasible state (Insert name path (line.Wrong error)) r next feasible effect = absurd effect
effect_feasible state (Insert name path (line.Read node)) r next feasible effect =
    edited_feasible state next name (λ old. Splits state.settings state.rules (inserted state.rules node path old)) feasible
    (λ old new there splits. (edits_stay_light state.settings old (feasible name old there)).insert state.rules node path new splits) effect.1
effect_feasible state (Delete name path) r next feasible effect =
    edited_feasible state next name (λ old new. new ≡ deleted path old) feasible
    (λ old new there is. subst (λ (d : CutTree). AreParts (state.settings).k (whole_document d)) (sym is) ((edits_stay_light state.settings old (feasible name old there)).delete path)) effect.1
effect_feasible state (Retext name path (content.Wrong error)) r next feasible effect = absurd effect
effect_feasible state (Retext name path (content.Read bytes)) r next feasible effect =
    edited_feasible state next name (λ old. Splits state.settings state.rules (retexted bytes path old)) feasible
    (λ old new there splits. (edits_stay_light state.settings old (feasible name old there)).retext state.rules bytes path new splits) effect.1
effect_feasible state (Get name path) r next feasible effect = subst AreFeasible (sym effect.1) feasible
effect_feasible state (Layout name) r next feasible effect = subst AreFeasible (sym effect.1) feasible
effect_feasible state (SetRule rule) r next feasible effect = subst AreFeasible (sym effect.1.next_is) feasible
effect_feasible state Rules r next feasible effect = subst AreFeasible (sym effect.1) feasible
effect_feasible state Checkpoint r next feasible effect = subst AreFeasible (sym effect.1) feasible
effect_feasible state (Begin bare) r next feasible effect = absurd effect
effect_feasible state Commit r next feasible effect = absurd effect
effect_feasible state Bad r next feasible effect = absurd effect

-- a command has its effect, or changes nothing
pub by_step : (state : State) (command : Command) (r : Reply) (next : State) (P : State → Type 0) → P state → (refusal state command ≡ None → Effect state command r next → P next)
    → (o : Option ReplyError) → refusal state command ≡ o → MatchOption o (Effect state command r next ⊎ FindsNoRoom state command r next) (λ error. Refuses state error r next) → P next
by_step state command r next P still changed None none step = elim step [ inl effect ↦ changed none effect | inr full ↦ subst P (sym full.refused.1) still ]
by_step state command r next P still changed (Some error) is step = subst P (sym step.1) still

pub step_feasible : StepsStayFeasible
step_feasible state command r next feasible step =
    by_step state command r next AreFeasible feasible (λ none effect. effect_feasible state command r next feasible effect) (refusal state command) refl step

-- parts that are drawn light enough are a feasible partitioning
drawn_partitioned : (k : ℕ) (document : CutTree) → AreParts k (whole_document document) → IsFeasible k (tree_of document) (parts_of document)
drawn_partitioned k document h = drawn_feasible k document (let x = h.2 in omega arith) h.3.0

pub feasible_partitioned : (state : State) → AreFeasible state → ArePartitioned state
feasible_partitioned state feasible = λ q document there. drawn_partitioned (state.settings).k document (feasible q document there)

pub step_partitioned : StepsStayPartitioned
step_partitioned state command r next feasible step = feasible_partitioned next (step_feasible state command r next feasible step)
