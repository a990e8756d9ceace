-- Two steps of one command in one state leave the same but for intervals.
use Rattle.std.proofs.Common.{◌≡◌, ◌≢◌, ◌⊎◌, ℕ, ◌+◌, Bool, true, if◌then◌else◌, List, length, Option, None, Some, refl, sym, ap, subst, ◌∙◌, arith, inl, inr}
use Rattle.std.specs.Prelude.{MatchOption}
use Rattle.std.specs.Option.{option_map_or, option_or}
use Rattle.std.specs.FinMap.{FinMap, get, contains_key}
use Rattle.nx_tree.specs.Forest.{OrderedTree, nodes}
use Rattle.nx_parts.specs.declared.interval.Interval.{Interval}
use Rattle.nx_parts.specs.Minima.{IsLeanOptimal}
use Rattle.nx_matrix.specs.declared.rule.Rule.{Rule}
use Rattle.nx_matrix.specs.Rules.{SetsEntry}
use Rattle.nx_cuts.specs.Cut.{CutTree, parts_of}
use Rattle.nx_holdings.specs.declared.header.Settings.{Settings}
use Rattle.nx_catalog.proofs.RuleLemmas.{one_matrix}
use Rattle.nx_pyx.specs.DocumentName.{name_order}
use Rattle.nx_script.specs.declared.command.LoadBody.TheVariants as load
use Rattle.nx_script.specs.declared.command.LineBody.TheVariants as line
use Rattle.nx_script.specs.declared.command.TextBody.TheVariants as content
use Rattle.nx_script.specs.declared.command.Command.{Command}
use Rattle.nx_script.specs.declared.command.Command.TheVariants.{Load, Discard, Rename, Names, Export, Insert, Delete, Retext, Get, Layout, SetRule, Rules, Checkpoint, Begin, Commit, Bad}
use Rattle.nx_script.specs.declared.reply.Reply.{Reply}
use Rattle.nx_script.specs.declared.reply.Reply.TheVariants as reply
use Rattle.nx_script.specs.declared.reply.ReplyError.{ReplyError}
use Rattle.nx_script.specs.declared.reply.ReplyError.TheVariants.{NoDocument, Exists, Full}
use Rattle.nx_engine.specs.Documents.{Documents}
use Rattle.nx_engine.specs.Step.{documents_after, insert_fault, delete_fault, retext_fault}
use Rattle.nx_state.specs.State.{State}
use Rattle.nx_steps.specs.Answers.{Answers, Refuses}
use Rattle.nx_steps.specs.Refusal.{refusal, document_fault, load_fault, inserted_fault, retexted_fault, rule_fault}
use Rattle.nx_steps.specs.Step.{trees, Effect, may_change, FindsNoRoom, Step}
use Rattle.nx_steps.specs.Sound.{AreFeasible}
use Rattle.nx_steps.specs.Laws.{AreAlike, StepsAgree}
use Rattle.nx_steps.proofs.TreesLemmas.{contains-trees}
use Rattle.nx_steps.proofs.TreesLaw.{effect_trees}
use Rattle.nx_steps.proofs.PlainLemmas.{fault-trees}

-- optimal partitionings have as many intervals
as_many : (k : ℕ) (tree : OrderedTree) (a b : List Interval) → IsLeanOptimal k tree a → IsLeanOptimal k tree b → length a ≡ length b
as_many k tree a b p q = let x = (p.optimal).fewest b (q.optimal).feasible in let y = (q.optimal).fewest a (p.optimal).feasible in omega arith

-- the replies and the rules
abbrev HaveAnswered : Reply → Reply → State → State → Type 0
HaveAnswered r other_r next other = (r ≡ other_r) × (next.rules ≡ other.rules)

answered : {answer : Reply} {state : State} (r other_r : Reply) (next other : State) → Answers state answer r next → Answers state answer other_r other → HaveAnswered r other_r next other
answered r other_r next other a b = (a.0 ∙ sym b.0, ap (λ (s : State). s.rules) (a.1 ∙ sym b.1))

-- The states have the same trees, the same rules and the same settings.
pub record LookAlike (a b : State) : Type 0 where
  pub trees_are : trees a ≡ trees b
  pub rules_are : a.rules ≡ b.rules
  pub settings_are : a.settings ≡ b.settings

pub alike : (state : State) → LookAlike state state
alike state = record { trees_are = refl; rules_are = refl; settings_are = refl }

-- what a change leaves beside the trees
abbrev LeavesRest : Reply → Reply → State → State → Type 0
LeavesRest r other_r next other = (r ≡ other_r) × (next.rules ≡ other.rules) × (next.settings ≡ other.settings)

-- the replies are the same, and only the documents are others
both_left : {answer : Reply} {x y : FinMap name_order CutTree} (a b : State) (r other_r : Reply) (next other : State) → LookAlike a b → r ≡ answer → other_r ≡ answer
    → next ≡ record a { documents = x } → other ≡ record b { documents = y } → LeavesRest r other_r next other
both_left a b r other_r next other same u v p q = (
  u ∙ sym v,
  ap (λ (s : State). s.rules) p ∙ same.rules_are ∙ sym (ap (λ (s : State). s.rules) q),
  ap (λ (s : State). s.settings) p ∙ same.settings_are ∙ sym (ap (λ (s : State). s.settings) q),
)

-- effects of a command that may change what is stored, in states that look alike
changes_agree : (a b : State) (command : Command) (r other_r : Reply) (next other : State) → LookAlike a b → may_change command ≡ true → Effect a command r next → Effect b command other_r other
    → LeavesRest r other_r next other
changes_agree a b (Load name (load.Wrong error)) r other_r next other same may x y = absurd x
changes_agree a b (Load name (load.Read tree)) r other_r next other same may x y =
    let lean : IsLeanOptimal (a.settings).k tree (parts_of y.document) = subst (λ (s : Settings). IsLeanOptimal s.k tree (parts_of y.document)) (sym same.settings_are) y.lean in
    both_left a b r other_r next other same x.answered
    (y.answered ∙ ap (λ (n : ℕ). reply.Loaded (1 + nodes tree.below) n) (as_many (a.settings).k tree (parts_of y.document) (parts_of x.document) lean x.lean)) x.next_is y.next_is
changes_agree a b (Discard name) r other_r next other same may x y = both_left a b r other_r next other same x.0 y.0 x.1 y.1
changes_agree a b (Rename old new) r other_r next other same may x y = both_left a b r other_r next other same x.0 y.0 x.1.next_is y.1.next_is
changes_agree a b (Insert name path (line.Wrong error)) r other_r next other same may x y = absurd x
changes_agree a b (Insert name path (line.Read node)) r other_r next other same may x y = both_left a b r other_r next other same x.0 y.0 x.1.next_is y.1.next_is
changes_agree a b (Delete name path) r other_r next other same may x y = both_left a b r other_r next other same x.0 y.0 x.1.next_is y.1.next_is
changes_agree a b (Retext name path (content.Wrong error)) r other_r next other same may x y = absurd x
changes_agree a b (Retext name path (content.Read bytes)) r other_r next other same may x y = both_left a b r other_r next other same x.0 y.0 x.1.next_is y.1.next_is
changes_agree a b (SetRule rule) r other_r next other same may x y =
    let set : SetsEntry a.rules y.1.rules rule.parent rule.child rule.entry = subst (λ (l : List Rule). SetsEntry l y.1.rules rule.parent rule.child rule.entry) (sym same.rules_are) y.1.sets in (
      x.0 ∙ sym y.0,
      ap (λ (s : State). s.rules) x.1.next_is ∙ one_matrix x.1.rules y.1.rules x.1.are_rules y.1.are_rules (λ p c. x.1.sets p c ∙ sym (set p c)) ∙ sym (ap (λ (s : State). s.rules) y.1.next_is),
      ap (λ (s : State). s.settings) x.1.next_is ∙ same.settings_are ∙ sym (ap (λ (s : State). s.settings) y.1.next_is),
    )
changes_agree a b Names r other_r next other same may x y = cc
changes_agree a b (Export name) r other_r next other same may x y = cc
changes_agree a b (Get name path) r other_r next other same may x y = cc
changes_agree a b (Layout name) r other_r next other same may x y = cc
changes_agree a b Rules r other_r next other same may x y = cc
changes_agree a b Checkpoint r other_r next other same may x y = cc
changes_agree a b (Begin bare) r other_r next other same may x y = cc
changes_agree a b Commit r other_r next other same may x y = cc
changes_agree a b Bad r other_r next other same may x y = cc

changed : (r other_r : Reply) (next other : State) → LeavesRest r other_r next other → HaveAnswered r other_r next other
changed r other_r next other both = (both.0, both.1)

-- effects of any command in one state
effects_agree : (state : State) (command : Command) (r other_r : Reply) (next other : State) → Effect state command r next → Effect state command other_r other → HaveAnswered r other_r next other
effects_agree state Names r other_r next other a b = answered r other_r next other a b
effects_agree state (Export name) r other_r next other a b = answered r other_r next other a b
effects_agree state (Get name path) r other_r next other a b = answered r other_r next other a b
effects_agree state (Layout name) r other_r next other a b = answered r other_r next other a b
effects_agree state Rules r other_r next other a b = answered r other_r next other a b
effects_agree state Checkpoint r other_r next other a b = answered r other_r next other a b
effects_agree state (Begin bare) r other_r next other a b = absurd a
effects_agree state Commit r other_r next other a b = absurd a
effects_agree state Bad r other_r next other a b = absurd a
effects_agree state (Load name body) r other_r next other a b = changed r other_r next other (changes_agree state state (Load name body) r other_r next other (alike state) refl a b)
effects_agree state (Discard name) r other_r next other a b = changed r other_r next other (changes_agree state state (Discard name) r other_r next other (alike state) refl a b)
effects_agree state (Rename old new) r other_r next other a b = changed r other_r next other (changes_agree state state (Rename old new) r other_r next other (alike state) refl a b)
effects_agree state (Insert name path said) r other_r next other a b = changed r other_r next other (changes_agree state state (Insert name path said) r other_r next other (alike state) refl a b)
effects_agree state (Delete name path) r other_r next other a b = changed r other_r next other (changes_agree state state (Delete name path) r other_r next other (alike state) refl a b)
effects_agree state (Retext name path said) r other_r next other a b = changed r other_r next other (changes_agree state state (Retext name path said) r other_r next other (alike state) refl a b)
effects_agree state (SetRule rule) r other_r next other a b = changed r other_r next other (changes_agree state state (SetRule rule) r other_r next other (alike state) refl a b)

pub steps_agree : StepsAgree
steps_agree state command r other_r next other feasible step other_step room other_room =
    (elim (refusal state command) as (λ o. refusal state command ≡ o → MatchOption o (Effect state command r next ⊎ FindsNoRoom state command r next) (λ error. Refuses state error r next)
    → MatchOption o (Effect state command other_r other ⊎ FindsNoRoom state command other_r other) (λ error. Refuses state error other_r other) → AreAlike r other_r next other) [
      | None ↦ λ none s t. elim s [
        | inl a ↦ elim t [
          | inl b ↦ let both = effects_agree state command r other_r next other a b in record {
            reply_is = both.0;
            trees_are = effect_trees state command r next feasible none a ∙ sym (effect_trees state command other_r other feasible none b);
            rules_are = both.1;
          }
          | inr b ↦ absurd (other_room b.refused.0)
        ]
        | inr a ↦ absurd (room a.refused.0)
      ]
      | Some error ↦ λ is s t. record {
        reply_is = s.0 ∙ sym t.0;
        trees_are = ap trees (s.1 ∙ sym t.1);
        rules_are = ap (λ (x : State). x.rules) (s.1 ∙ sym t.1);
      }
    ]) refl step other_step

-- Steps of a command that may change what is stored, in states that look alike.

same_fault : (a b : State) (name : List ℕ) (fault : OrderedTree → Option ReplyError) → LookAlike a b → document_fault a name fault ≡ document_fault b name fault
same_fault a b name fault same = fault-trees a name fault ∙ ap (λ (t : Documents). option_map_or fault (get t name) (Some NoDocument)) same.trees_are ∙ sym (fault-trees b name fault)

same_key : (a b : State) (name : List ℕ) → LookAlike a b → contains_key a.documents name ≡ contains_key b.documents name
same_key a b name same = sym (contains-trees a name) ∙ ap (λ (t : Documents). contains_key t name) same.trees_are ∙ contains-trees b name

-- they are refused for the same reason
refusals_agree : (a b : State) (command : Command) → LookAlike a b → may_change command ≡ true → refusal a command ≡ refusal b command
refusals_agree a b (Load name body) same may =
    ap (λ (t : Bool). if t then Some Exists else load_fault (a.settings).k body) (same_key a b name same)
    ∙ ap (λ (s : Settings). if contains_key b.documents name then Some Exists else load_fault s.k body) same.settings_are
refusals_agree a b (Discard name) same may = same_fault a b name (λ tree. None) same
refusals_agree a b (Rename old new) same may =
    ap (λ (t : Bool). document_fault a old (λ tree. if t then Some Exists else None)) (same_key a b new same) ∙ same_fault a b old (λ tree. if contains_key b.documents new then Some Exists else None) same
refusals_agree a b (Insert name path said) same may =
    ap (λ (s : Settings). document_fault a name (λ tree. option_or (insert_fault path said tree) (inserted_fault s.k path said))) same.settings_are
    ∙ same_fault a b name (λ tree. option_or (insert_fault path said tree) (inserted_fault (b.settings).k path said)) same
refusals_agree a b (Delete name path) same may = same_fault a b name (delete_fault path) same
refusals_agree a b (Retext name path said) same may =
    ap (λ (s : Settings). document_fault a name (λ tree. option_or (retext_fault path said tree) (retexted_fault s.k path said tree))) same.settings_are
    ∙ same_fault a b name (λ tree. option_or (retext_fault path said tree) (retexted_fault (b.settings).k path said tree)) same
refusals_agree a b (SetRule rule) same may = ap (λ (rules : List Rule). rule_fault rules rule) same.rules_are
refusals_agree a b Names same may = refl
refusals_agree a b (Export name) same may = same_fault a b name (λ tree. None) same
refusals_agree a b (Get name path) same may = cc
refusals_agree a b (Layout name) same may = cc
refusals_agree a b Rules same may = refl
refusals_agree a b Checkpoint same may = refl
refusals_agree a b (Begin bare) same may = refl
refusals_agree a b Commit same may = refl
refusals_agree a b Bad same may = refl

pub changing_steps_agree : (a b : State) (command : Command) (r other_r : Reply) (next other : State) → LookAlike a b → AreFeasible a → AreFeasible b → may_change command ≡ true
    → Step a command r next → Step b command other_r other → r ≢ reply.Refused Full → other_r ≢ reply.Refused Full → (r ≡ other_r) × LookAlike next other
changing_steps_agree a b command r other_r next other same fa fb may step other_step room other_room = by_refusal (refusal a command) refl (sym (refusals_agree a b command same may)) step other_step
  where
    by_refusal : (o : Option ReplyError) → refusal a command ≡ o → refusal b command ≡ refusal a command
        → MatchOption o (Effect a command r next ⊎ FindsNoRoom a command r next) (λ error. Refuses a error r next)
        → Step b command other_r other → (r ≡ other_r) × LookAlike next other
    by_refusal None none reasons s t =
        elim s [
          | inl x ↦ elim (subst (λ (p : Option ReplyError). MatchOption p (Effect b command other_r other ⊎ FindsNoRoom b command other_r other) (λ error. Refuses b error other_r other)) (reasons ∙ none) t) [
            | inl y ↦
                let both = changes_agree a b command r other_r next other same may x y in
                let trees_agree : trees next ≡ trees other =
                effect_trees a command r next fa none x ∙ ap (λ (d : Documents). documents_after d command) same.trees_are ∙ sym (effect_trees b command other_r other fb (reasons ∙ none) y) in
                (both.0, record { trees_are = trees_agree; rules_are = both.1; settings_are = both.2 })
            | inr y ↦ absurd (other_room y.refused.0)
          ]
          | inr x ↦ absurd (room x.refused.0)
        ]
    by_refusal (Some error) is reasons s t =
        let u = subst (λ (p : Option ReplyError). MatchOption p (Effect b command other_r other ⊎ FindsNoRoom b command other_r other) (λ e. Refuses b e other_r other)) (reasons ∙ is) t in
        (s.0 ∙ sym u.0, same_left s.1 u.1)
      where
        same_left : next ≡ a → other ≡ b → LookAlike next other
        same_left p q = record {
          trees_are = ap trees p ∙ same.trees_are ∙ sym (ap trees q);
          rules_are = ap (λ (x : State). x.rules) p ∙ same.rules_are ∙ sym (ap (λ (x : State). x.rules) q);
          settings_are = ap (λ (x : State). x.settings) p ∙ same.settings_are ∙ sym (ap (λ (x : State). x.settings) q);
        }
