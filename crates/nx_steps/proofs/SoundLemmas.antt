-- Each step leaves a sound state sound.
use Rattle.std.proofs.Common.{◌≡◌, ◌≢◌, ℕ, zero, suc, ◌+◌, ◌<◌, ◌≤◌, nat_lt, if◌then◌else◌, Bool, true, false, ◌&&◌, cond, List, [], ◌∷◌, length, get_or, Option, None, Some, IfSome, refl, sym, ap, subst, ◌∙◌, arith}
use Rattle.std.specs.Prelude.{All, IsTrue, option_and_then}
use Rattle.std.specs.List.{AllByRecursion, find}
use Rattle.std.specs.Option.{option_map_or, option_or, is_some}
use Rattle.std.specs.Str.{bytes_eq}
use Rattle.std.specs.FinMap.{get, remove}
use Rattle.std.proofs.lemmas.Bool.Decides.{nat_tests}
use Rattle.std.proofs.lemmas.List.Elements.{recursion_from_All}
use Rattle.nx_tree.specs.declared.node.Node.{Node}
use Rattle.nx_tree.specs.declared.error.TreeError.{TreeError}
use Rattle.nx_tree.specs.declared.error.TreeError.TheVariants as tree_error
use Rattle.nx_tree.specs.Forest.{OrderedTree}
use Rattle.nx_tree.specs.Document.{IsDocument, longest_node}
use Rattle.nx_tree.specs.Edit.{at, place_refusal, limit_refusal, insert_refusal, cut_refusal, delete_refusal, retext_refusal, is_misplaced, is_repeated, is_root_element, last_position, parent_path, has_children}
use Rattle.nx_tree.proofs.KeptLemmas.{document_retext, document_cut}
use Rattle.nx_tree.proofs.PutLemmas.{document_put}
use Rattle.nx_matrix.specs.declared.rule.Entry.TheVariants.{Free}
use Rattle.nx_matrix.specs.declared.rule.Rule.{Rule}
use Rattle.nx_matrix.specs.Rules.{pair_of, is_for, entry_of, AreRules, SetsEntry, IsRuleAt}
use Rattle.nx_matrix.proofs.EntryLemmas.{is_for_pair, entry_at, at_before}
use Rattle.nx_cuts.specs.Cut.{CutTree, tree_of}
use Rattle.nx_drawn.specs.Edits.{inserted, deleted, retexted}
use Rattle.nx_drawn.specs.Splits.{Splits}
use Rattle.nx_drawn.proofs.EditLaws.{edits_are_edits, splits_leave_trees}
use Rattle.nx_pyx.specs.declared.error.PyxFault.TheVariants.{LongLine}
use Rattle.nx_pyx.specs.Fault.{fault_at}
use Rattle.nx_script.specs.declared.command.LoadBody.TheVariants as load
use Rattle.nx_script.specs.declared.command.LineBody.TheVariants as line
use Rattle.nx_script.specs.declared.command.TextBody.TheVariants as content
use Rattle.nx_script.specs.declared.command.Command.{Command}
use Rattle.nx_script.specs.declared.command.Command.TheVariants.{Load, Discard, Rename, Names, Export, Insert, Delete, Retext, Get, Layout, SetRule, Rules, Checkpoint, Begin, Commit, Bad}
use Rattle.nx_script.specs.declared.reply.Reply.{Reply}
use Rattle.nx_script.specs.declared.reply.ReplyError.{ReplyError}
use Rattle.nx_script.specs.declared.reply.ReplyError.TheVariants.{Pyx}
use Rattle.nx_script.specs.Commands.{CanCome}
use Rattle.nx_pyx.specs.DocumentName.{is_document_name}
use Rattle.nx_matrix.specs.RuleLabels.{HasLabels}
use Rattle.nx_engine.specs.Step.{worded, name_at, long_fault, insert_fault, delete_fault, retext_fault}
use Rattle.nx_state.specs.State.{State}
use Rattle.nx_steps.specs.Refusal.{refusal, inserted_fault, retexted_fault}
use Rattle.nx_steps.specs.Step.{Edits, Effect}
use Rattle.nx_steps.specs.Sound.{OfEachDocument, AreFeasible, IsSound}
use Rattle.nx_steps.specs.Laws.{StepsKeepSound}
use Rattle.nx_steps.proofs.TreesLaw.{first_none, none_of, first_of_two}
use Rattle.nx_steps.proofs.FeasibleLemmas.{each_with, each_without, by_step, step_feasible}

-- ---- a tree's refusal is worded, so where no fault is told there is no refusal

pub unworded : (o : Option TreeError) → (o ≡ Some tree_error.Memory → ⊥) → option_and_then worded o ≡ None → o ≡ None
unworded None never e = refl
unworded (Some tree_error.NoNode) never e = cc
unworded (Some tree_error.BadPlace) never e = cc
unworded (Some tree_error.Twice) never e = cc
unworded (Some tree_error.NoContent) never e = cc
unworded (Some tree_error.TooDeep) never e = cc
unworded (Some tree_error.TooMany) never e = cc
unworded (Some tree_error.Memory) never e = absurd (never refl)

-- one of two is want of memory, or the other is
named_or : (a b : Option TreeError) → (a ≡ Some tree_error.Memory → ⊥) → (b ≡ Some tree_error.Memory → ⊥) → option_or a b ≡ Some tree_error.Memory → ⊥
named_or None b f g e = g e
named_or (Some x) b f g e = f e

two_named : (a b : Bool) (x y : TreeError) → (Some x ≡ Some tree_error.Memory → ⊥) → (Some y ≡ Some tree_error.Memory → ⊥) → (if a then Some x else if b then Some y else None) ≡ Some tree_error.Memory → ⊥
two_named true b x y f g e = f e
two_named false true x y f g e = g e
two_named false false x y f g e = cc

pub insert_named : (node : Node) (path : List ℕ) (tree : OrderedTree) → insert_refusal node path tree ≡ Some tree_error.Memory → ⊥
insert_named node [] tree e = cc
insert_named node (p ∷ path) tree e = go (at tree (parent_path (p ∷ path))) e
  where
    go : (o : Option OrderedTree) → option_map_or (λ (parent : OrderedTree). option_or (place_refusal node (last_position (p ∷ path)) parent) (limit_refusal (p ∷ path) tree)) o (Some tree_error.NoNode) ≡ Some tree_error.Memory → ⊥
    go None f = cc
    go (Some parent) f =
        named_or (place_refusal node (last_position (p ∷ path)) parent) (limit_refusal (p ∷ path) tree)
        (two_named (is_misplaced node (last_position (p ∷ path)) parent) (is_repeated node parent) tree_error.BadPlace tree_error.Twice (λ x. cc) (λ x. cc))
        (two_named _ _ tree_error.TooDeep tree_error.TooMany (λ x. cc) (λ x. cc)) f

one_named : (b : Bool) (x : TreeError) → (Some x ≡ Some tree_error.Memory → ⊥) → (if b then Some x else None) ≡ Some tree_error.Memory → ⊥
one_named true x f e = f e
one_named false x f e = cc

cut_named : (path : List ℕ) (tree : OrderedTree) → cut_refusal path tree ≡ Some tree_error.Memory → ⊥
cut_named [] tree e = cc
cut_named (p ∷ path) tree e = go (is_some (at tree (p ∷ path))) e
  where
    go : (b : Bool) → (if b then None else Some tree_error.NoNode) ≡ Some tree_error.Memory → ⊥
    go true f = cc
    go false f = cc

delete_named : (path : List ℕ) (tree : OrderedTree) → delete_refusal path tree ≡ Some tree_error.Memory → ⊥
delete_named path tree e =
    named_or (cut_refusal path tree) (if is_root_element path tree then Some tree_error.BadPlace else None) (cut_named path tree) (one_named (is_root_element path tree) tree_error.BadPlace (λ x. cc)) e

retext_named : (path : List ℕ) (tree : OrderedTree) → retext_refusal path tree ≡ Some tree_error.Memory → ⊥
retext_named path tree e = go (at tree path) e
  where
    go : (o : Option OrderedTree) → option_map_or (λ (t : OrderedTree). if has_children t.node.kind then Some tree_error.NoContent else None) o (Some tree_error.NoNode) ≡ Some tree_error.Memory → ⊥
    go None f = cc
    go (Some t) f = one_named (has_children t.node.kind) tree_error.NoContent (λ x. cc) f

second_none : {X : Type 0} (a b : Option X) → option_or a b ≡ None → b ≡ None
second_none None b e = e
second_none (Some x) b e = cc

not_long : (b : Bool) (error : ReplyError) → (if b then Some error else None) ≡ None → b ≡ false
not_long true error e = cc
not_long false error e = refl

short_there : (path bytes : List ℕ) (tree : OrderedTree) → long_fault path bytes tree ≡ None → IfSome (at tree path) (λ x. length x.node.name + length bytes ≤ longest_node)
short_there path bytes tree none = go (at tree path) (not_long (nat_lt longest_node (length (name_at path tree) + length bytes)) (Pyx (fault_at 1 LongLine)) none)
  where
    go : (o : Option OrderedTree) → nat_lt longest_node (length (option_map_or (λ (t : OrderedTree). t.node.name) o []) + length bytes) ≡ false → IfSome o (λ x. length x.node.name + length bytes ≤ longest_node)
    go None e = tt
    go (Some t) e = grind (arith, nat_tests)

-- ---- documents

-- the name may be one, and the tree is a document
abbrev IsGood : List ℕ → CutTree → Type 0
IsGood name document = IsTrue (is_document_name name) × IsDocument (tree_of document)

edited_good : (state next : State) (name : List ℕ) (Becomes : CutTree → CutTree → Type 0) → OfEachDocument IsGood state
    → ((old new : CutTree) → get state.documents name ≡ Some old → Becomes old new → IsDocument (tree_of new)) → Edits state name Becomes next → OfEachDocument IsGood next
edited_good state next name Becomes good kept e =
    subst (OfEachDocument IsGood) (sym e.next_is) (each_with IsGood state name e.new good ((good name e.old e.there).0, kept e.old e.new e.there e.becomes))

effect_good : (state : State) (command : Command) (r : Reply) (next : State) → CanCome command → AreFeasible state → OfEachDocument IsGood state → refusal state command ≡ None → Effect state command r next → OfEachDocument IsGood next
effect_good state (Load name (load.Wrong error)) r next comes feasible good none effect = absurd effect
effect_good state (Load name (load.Read tree)) r next comes feasible good none effect =
    subst (OfEachDocument IsGood) (sym effect.next_is) (each_with IsGood state name effect.document good (comes.0, subst IsDocument (sym effect.tree_is) comes.1))
effect_good state (Discard name) r next comes feasible good none effect = subst (OfEachDocument IsGood) (sym effect.1) (each_without IsGood state name good)
effect_good state (Rename old new) r next comes feasible good none effect =
    let without : State = record state { documents = remove state.documents old } in
    subst (OfEachDocument IsGood) (sym effect.1.next_is)
    (each_with IsGood without new effect.1.document (each_without IsGood state old good) (comes, (good old effect.1.document effect.1.there).1))
effect_good state Names r next comes feasible good none effect = subst (OfEachDocument IsGood) (sym effect.1) good
effect_good state (Export name) r next comes feasible good none effect = subst (OfEachDocument IsGood) (sym effect.1) good
effect_good state (Insert name path (line.Wrong error)) r next comes feasible good none effect = absurd effect
effect_good state (Insert name path (line.Read node)) r next comes feasible good none effect =
    edited_good state next name (λ old. Splits state.settings state.rules (inserted state.rules node path old)) good
    (λ old new there splits.
    let fault = none_of state name old (insert_fault path (line.Read node)) there
    (first_of_two state name (insert_fault path (line.Read node)) (λ tree. inserted_fault (state.settings).k path (line.Read node)) old there none) in
    let same = splits_leave_trees state.settings state.rules (inserted state.rules node path old) new splits ∙ (edits_are_edits (state.settings).k old (feasible name old there)).insert state.rules node path in
    subst IsDocument (sym same) (document_put node path (tree_of old) comes (good name old there).1 (unworded (insert_refusal node path (tree_of old)) (insert_named node path (tree_of old)) fault))) effect.1
effect_good state (Delete name path) r next comes feasible good none effect =
    edited_good state next name (λ old new. new ≡ deleted path old) good
    (λ old new there is.
    let fault = none_of state name old (delete_fault path) there none in
    let same = ap tree_of is ∙ (edits_are_edits (state.settings).k old (feasible name old there)).delete path in
    subst IsDocument (sym same) (document_cut path (tree_of old) (good name old there).1 (unworded (delete_refusal path (tree_of old)) (delete_named path (tree_of old)) fault))) effect.1
effect_good state (Retext name path (content.Wrong error)) r next comes feasible good none effect = absurd effect
effect_good state (Retext name path (content.Read bytes)) r next comes feasible good none effect =
    edited_good state next name (λ old. Splits state.settings state.rules (retexted bytes path old)) good
    (λ old new there splits.
    let fault = none_of state name old (retext_fault path (content.Read bytes)) there
    (first_of_two state name (retext_fault path (content.Read bytes)) (retexted_fault (state.settings).k path (content.Read bytes)) old there none) in
    let same = splits_leave_trees state.settings state.rules (retexted bytes path old) new splits ∙ (edits_are_edits (state.settings).k old (feasible name old there)).retext bytes path in
    let short = short_there path bytes (tree_of old) (first_none (long_fault path bytes (tree_of old)) (option_and_then worded (retext_refusal path (tree_of old))) fault) in
    let free = unworded (retext_refusal path (tree_of old)) (retext_named path (tree_of old)) (second_none (long_fault path bytes (tree_of old)) (option_and_then worded (retext_refusal path (tree_of old))) fault) in
    subst IsDocument (sym same) (document_retext bytes path (tree_of old) short (good name old there).1 free)) effect.1
effect_good state (Get name path) r next comes feasible good none effect = subst (OfEachDocument IsGood) (sym effect.1) good
effect_good state (Layout name) r next comes feasible good none effect = subst (OfEachDocument IsGood) (sym effect.1) good
effect_good state (SetRule rule) r next comes feasible good none effect = subst (OfEachDocument IsGood) (sym effect.1.next_is) good
effect_good state Rules r next comes feasible good none effect = subst (OfEachDocument IsGood) (sym effect.1) good
effect_good state Checkpoint r next comes feasible good none effect = subst (OfEachDocument IsGood) (sym effect.1) good
effect_good state (Begin bare) r next comes feasible good none effect = absurd effect
effect_good state Commit r next comes feasible good none effect = absurd effect
effect_good state Bad r next comes feasible good none effect = absurd effect

-- ---- rules

-- a pair that the rules say something of has labels
abbrev Labelled : List ℕ → List ℕ → Type 0
Labelled parent child = HasLabels (record { parent = parent; child = child; entry = Free })

-- what is said of a pair comes from a rule for it
said_labelled : (rules : List Rule) (p c : List ℕ) → AllByRecursion HasLabels rules → entry_of rules p c ≢ Free → Labelled p c
said_labelled [] p c all said = absurd (said refl)
said_labelled (rule ∷ rules) p c all said =
    (elim (is_for p c rule) as (λ t. is_for p c rule ≡ t → option_map_or (λ (x : Rule). x.entry) (cond t (Some rule) (find (is_for p c) rules)) Free ≢ Free → Labelled p c) [
      | true ↦ λ e s.
          let pair = is_for_pair p c rule e in
          subst (λ (l : List ℕ). Labelled l c) (ap (λ (x : List ℕ × List ℕ). x.0) pair) (subst (λ (l : List ℕ). Labelled rule.parent l) (ap (λ (x : List ℕ × List ℕ). x.1) pair) all.0)
      | false ↦ λ e s. said_labelled rules p c all.1 s
    ]) refl said

set_labelled : (rules : List Rule) (rule : Rule) (p c : List ℕ) → HasLabels rule → AllByRecursion HasLabels rules
    → (if bytes_eq rule.parent p && bytes_eq rule.child c then rule.entry else entry_of rules p c) ≢ Free → Labelled p c
set_labelled rules rule p c labels all said =
    (elim (is_for p c rule) as (λ t. is_for p c rule ≡ t → (if t then rule.entry else entry_of rules p c) ≢ Free → Labelled p c) [
      | true ↦ λ e s.
          let pair = is_for_pair p c rule e in
          subst (λ (l : List ℕ). Labelled l c) (ap (λ (x : List ℕ × List ℕ). x.0) pair) (subst (λ (l : List ℕ). Labelled rule.parent l) (ap (λ (x : List ℕ × List ℕ). x.1) pair) labels)
      | false ↦ λ e s. said_labelled rules p c all s
    ]) refl said

same_default : (rules : List Rule) (k : ℕ) (d e : Rule) → k < length rules → get_or rules k d ≡ get_or rules k e
same_default [] k d e lt = absurd (omega arith)
same_default (r ∷ rules) zero d e lt = refl
same_default (r ∷ rules) (suc k) d e lt = same_default rules k d e (omega arith)

-- the rules behind a set entry have labels
rules_labelled : (old new : List Rule) (rule : Rule) → AreRules new → SetsEntry old new rule.parent rule.child rule.entry → HasLabels rule → AllByRecursion HasLabels old → All HasLabels new
rules_labelled old new rule are sets labels all = λ k d lt.
    let x = get_or new k d in
    let is_at : IsRuleAt new (x.parent, x.child) k = record { within = lt; same = λ e. ap pair_of (same_default new k e d lt) } in
    let said = entry_at new x.parent x.child k d is_at (at_before new (x.parent, x.child) k are is_at) in
    set_labelled old rule x.parent x.child labels all (λ free. are.bound k d lt (sym said ∙ sets x.parent x.child ∙ free))

-- ---- states

-- the rules of a state, and what they are for
abbrev HasRules : State → Type 0
HasRules state = AreRules state.rules × All HasLabels state.rules

effect_rules : (state : State) (command : Command) (r : Reply) (next : State) → CanCome command → HasRules state → Effect state command r next → HasRules next
effect_rules state (Load name (load.Wrong error)) r next comes has effect = absurd effect
effect_rules state (Load name (load.Read tree)) r next comes has effect = subst HasRules (sym effect.next_is) has
effect_rules state (Discard name) r next comes has effect = subst HasRules (sym effect.1) has
effect_rules state (Rename old new) r next comes has effect = subst HasRules (sym effect.1.next_is) has
effect_rules state Names r next comes has effect = subst HasRules (sym effect.1) has
effect_rules state (Export name) r next comes has effect = subst HasRules (sym effect.1) has
effect_rules state (Insert name path (line.Wrong error)) r next comes has effect = absurd effect
effect_rules state (Insert name path (line.Read node)) r next comes has effect = subst HasRules (sym effect.1.next_is) has
effect_rules state (Delete name path) r next comes has effect = subst HasRules (sym effect.1.next_is) has
effect_rules state (Retext name path (content.Wrong error)) r next comes has effect = absurd effect
effect_rules state (Retext name path (content.Read bytes)) r next comes has effect = subst HasRules (sym effect.1.next_is) has
effect_rules state (Get name path) r next comes has effect = subst HasRules (sym effect.1) has
effect_rules state (Layout name) r next comes has effect = subst HasRules (sym effect.1) has
effect_rules state (SetRule rule) r next comes has effect =
    subst HasRules (sym effect.1.next_is)
    (effect.1.are_rules, rules_labelled state.rules effect.1.rules rule effect.1.are_rules effect.1.sets comes (recursion_from_All HasLabels state.rules has.1))
effect_rules state Rules r next comes has effect = subst HasRules (sym effect.1) has
effect_rules state Checkpoint r next comes has effect = subst HasRules (sym effect.1) has
effect_rules state (Begin bare) r next comes has effect = absurd effect
effect_rules state Commit r next comes has effect = absurd effect
effect_rules state Bad r next comes has effect = absurd effect

effect_sound : (state : State) (command : Command) (r : Reply) (next : State) → CanCome command → IsSound state → AreFeasible next → refusal state command ≡ None → Effect state command r next → IsSound next
effect_sound state command r next comes sound drawn none effect =
    let good = effect_good state command r next comes sound.drawn (λ name document there. (sound.named name document there, sound.documents name document there)) none effect in
    let rules = effect_rules state command r next comes (sound.rules, sound.labels) effect in record {
      named = λ name document there. (good name document there).0;
      documents = λ name document there. (good name document there).1;
      drawn = drawn;
      rules = rules.0;
      labels = rules.1;
    }

pub step_sound : StepsKeepSound
step_sound state command r next comes sound step =
    by_step state command r next IsSound sound (λ none effect. effect_sound state command r next comes sound (step_feasible state command r next sound.drawn step) none effect) (refusal state command) refl step
