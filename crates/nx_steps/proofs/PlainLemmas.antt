-- A step is that of the same command over trees in memory, or it was refused for weight or for want of room.
use Rattle.std.proofs.Common.{◌≡◌, ◌⊎◌, inl, inr, ℕ, nat_lt, if◌then◌else◌, Bool, true, false, List, [], ◌∷◌, map, refl, sym, ap, subst, ◌∙◌, Option, None, Some}
use Rattle.std.specs.Prelude.{option_map, MatchOption}
use Rattle.std.specs.Bool.{MatchBool}
use Rattle.std.specs.Option.{option_map_or, option_or, is_some}
use Rattle.std.specs.FinMap.{get, contains_key, entries}
use Rattle.nx_tree.specs.declared.node.Node.{Node}
use Rattle.nx_tree.specs.Forest.{OrderedTree}
use Rattle.nx_tree.specs.Edit.{at}
use Rattle.nx_pyx.specs.Text.{text}
use Rattle.nx_weights.specs.Weight.{weight, first_heavy, weighed}
use Rattle.nx_cuts.specs.Cut.{CutTree, tree_of}
use Rattle.nx_script.specs.declared.command.LoadBody.{LoadBody}
use Rattle.nx_script.specs.declared.command.LoadBody.TheVariants as load
use Rattle.nx_script.specs.declared.command.LineBody.{LineBody}
use Rattle.nx_script.specs.declared.command.LineBody.TheVariants as line
use Rattle.nx_script.specs.declared.command.TextBody.{TextBody}
use Rattle.nx_script.specs.declared.command.TextBody.TheVariants as content
use Rattle.nx_script.specs.declared.command.Command.{Command}
use Rattle.nx_script.specs.declared.command.Command.TheVariants.{Load, Discard, Rename, Names, Export, Insert, Delete, Retext, Get, Layout, SetRule, Rules, Checkpoint, Begin, Commit, Bad}
use Rattle.nx_script.specs.declared.reply.Reply.{Reply}
use Rattle.nx_script.specs.declared.reply.Reply.TheVariants as reply
use Rattle.nx_script.specs.declared.reply.ReplyError.{ReplyError}
use Rattle.nx_script.specs.declared.reply.ReplyError.TheVariants.{Syntax, NoDocument, Exists, Pyx, NoNode, TooHeavy}
use Rattle.nx_engine.specs.Documents.{Documents}
use Rattle.nx_engine.specs.Step as plain
use Rattle.nx_engine.specs.Step.{done_unless, loaded, shown, reply_to, documents_after, insert_fault, delete_fault, retext_fault}
use Rattle.nx_engine.proofs.StepLemmas.{refused_after}
use Rattle.nx_state.specs.State.{State}
use Rattle.nx_steps.specs.Answers.{Refuses, cut_document_line, heavy_fault}
use Rattle.nx_steps.specs.Refusal.{refusal, document_fault, load_fault, weight_fault, inserted_fault, retexted_fault, node_fault}
use Rattle.nx_steps.specs.Step.{trees, Effect, FindsNoRoom}
use Rattle.nx_steps.specs.Plain.{is_plain, plain_reply, is_limit, IsPlainStep}
use Rattle.nx_steps.specs.Laws.{StepsArePlain}
use Rattle.nx_steps.proofs.TreesLemmas.{bare, get-trees, contains-trees, entries-trees}
use Rattle.nx_steps.proofs.TreesLaw.{first_none, new_name, effect_trees}

same_error : (a b : ReplyError) → Some a ≡ Some b → a ≡ b
same_error a b e = cc

-- the refusal is for weight or for want of room
abbrev IsLimit : ReplyError → Type 0
IsLimit error = is_limit (reply.Refused error) ≡ true

heavy_limit : (k : ℕ) (tree : OrderedTree) (error : ReplyError) → heavy_fault k tree ≡ Some error → IsLimit error
heavy_limit k tree error = go (option_map weighed (first_heavy k tree))
  where
    go : (o : Option (List ℕ × ℕ)) → option_map (λ (h : List ℕ × ℕ). TooHeavy h.0 h.1) o ≡ Some error → is_limit (reply.Refused error) ≡ true
    go None e = cc
    go (Some h) e = sym (ap (λ (x : ReplyError). is_limit (reply.Refused x)) (same_error (TooHeavy h.0 h.1) error e))

weight_limit : (k : ℕ) (path : List ℕ) (node : Node) (error : ReplyError) → weight_fault k path node ≡ Some error → IsLimit error
weight_limit k path node error = go (nat_lt k (weight node))
  where
    go : (b : Bool) → (if b then Some (TooHeavy path (weight node)) else None) ≡ Some error → is_limit (reply.Refused error) ≡ true
    go true e = sym (ap (λ (x : ReplyError). is_limit (reply.Refused x)) (same_error (TooHeavy path (weight node)) error e))
    go false e = cc

inserted_limit : (k : ℕ) (path : List ℕ) (said : LineBody) (error : ReplyError) → inserted_fault k path said ≡ Some error → IsLimit error
inserted_limit k path (line.Wrong w) error e = cc
inserted_limit k path (line.Read node) error e = weight_limit k path node error e

retexted_limit : (k : ℕ) (path : List ℕ) (said : TextBody) (tree : OrderedTree) (error : ReplyError) → retexted_fault k path said tree ≡ Some error → IsLimit error
retexted_limit k path (content.Wrong w) tree error e = cc
retexted_limit k path (content.Read bytes) tree error e = go (at tree path) e
  where
    go : (o : Option OrderedTree) → option_map_or (λ (t : OrderedTree). weight_fault k path (record t.node { content = bytes })) o None ≡ Some error → is_limit (reply.Refused error) ≡ true
    go None f = cc
    go (Some t) f = weight_limit k path (record t.node { content = bytes }) error f

-- the same faults, of the trees
mapped : {Y : Type 0} (f : OrderedTree → Y) (o : Option CutTree) (d : Y) → option_map_or (λ (c : CutTree). f (tree_of c)) o d ≡ option_map_or f (option_map tree_of o) d
mapped f None d = refl
mapped f (Some c) d = refl

pub fault-trees : (state : State) (name : List ℕ) (fault : OrderedTree → Option ReplyError) → document_fault state name fault ≡ option_map_or fault (get (trees state) name) (Some NoDocument)
fault-trees state name fault = mapped fault (get state.documents name) (Some NoDocument) ∙ ap (λ o. option_map_or fault o (Some NoDocument)) (sym (get-trees state name))

-- a document's command is refused so
document_refused : (o : Option OrderedTree) (fault : OrderedTree → Option ReplyError) (answer : OrderedTree → Reply) (error : ReplyError)
    → ((tree : OrderedTree) → fault tree ≡ Some error → (answer tree ≡ reply.Refused error) ⊎ IsLimit error)
    → option_map_or fault o (Some NoDocument) ≡ Some error → (option_map_or answer o (reply.Refused NoDocument) ≡ reply.Refused error) ⊎ IsLimit error
document_refused None fault answer error each e = inl (ap reply.Refused (same_error NoDocument error e))
document_refused (Some tree) fault answer error each e = each tree e

by_fault : (state : State) (name : List ℕ) (fault : OrderedTree → Option ReplyError) (answer : OrderedTree → Reply) (error : ReplyError)
    → ((tree : OrderedTree) → fault tree ≡ Some error → (answer tree ≡ reply.Refused error) ⊎ IsLimit error)
    → document_fault state name fault ≡ Some error → (plain.by_document (trees state) name answer ≡ reply.Refused error) ⊎ IsLimit error
by_fault state name fault answer error each e = document_refused (get (trees state) name) fault answer error each (sym (fault-trees state name fault) ∙ e)

-- the first of two faults is the tree's, and the other one of weight
either : (a b : Option ReplyError) (error : ReplyError) → (b ≡ Some error → IsLimit error) → option_or a b ≡ Some error → (done_unless a ≡ reply.Refused error) ⊎ IsLimit error
either None b error heavy e = inr (heavy e)
either (Some x) b error heavy e = inl (ap reply.Refused (same_error x error e))

load_refused : (b : Bool) (k : ℕ) (body : LoadBody) (error : ReplyError) → (if b then Some Exists else load_fault k body) ≡ Some error
    → ((if b then reply.Refused Exists else loaded body) ≡ reply.Refused error) ⊎ IsLimit error
load_refused true k body error e = inl (ap reply.Refused (same_error Exists error e))
load_refused false k (load.Wrong w) error e = inl (ap reply.Refused (same_error (Pyx w) error e))
load_refused false k (load.Read tree) error e = inr (heavy_limit k tree error e)

named_already : (b : Bool) (error : ReplyError) → (if b then Some Exists else None) ≡ Some error → (if b then reply.Refused Exists else reply.Done) ≡ reply.Refused error
named_already true error e = ap reply.Refused (same_error Exists error e)
named_already false error e = cc

nowhere : (o : Option OrderedTree) (error : ReplyError) → (if is_some o then None else Some NoNode) ≡ Some error → option_map_or shown o (reply.Refused NoNode) ≡ reply.Refused error
nowhere None error e = ap reply.Refused (same_error NoNode error e)
nowhere (Some t) error e = cc

no_fault : (error : ReplyError) → None ≡ Some error → ⊥
no_fault error e = cc

refused_reply : (state : State) (command : Command) (error : ReplyError) → is_plain command ≡ true → refusal state command ≡ Some error → (reply_to (trees state) command ≡ reply.Refused error) ⊎ IsLimit error
refused_reply state (Load name body) error p e =
    subst (λ (b : Bool). ((if b then reply.Refused Exists else loaded body) ≡ reply.Refused error) ⊎ IsLimit error) (sym (contains-trees state name))
    (load_refused (contains_key state.documents name) (state.settings).k body error e)
refused_reply state (Discard name) error p e = by_fault state name (λ tree. None) (λ tree. reply.Done) error (λ tree f. absurd (no_fault error f)) e
refused_reply state (Rename old new) error p e =
    subst (λ (b : Bool). (plain.by_document (trees state) old (λ tree. if b then reply.Refused Exists else reply.Done) ≡ reply.Refused error) ⊎ IsLimit error) (sym (contains-trees state new))
    (by_fault state old (λ tree. if contains_key state.documents new then Some Exists else None) (λ tree. if contains_key state.documents new then reply.Refused Exists else reply.Done) error
    (λ tree f. inl (named_already (contains_key state.documents new) error f)) e)
refused_reply state Names error p e = absurd (no_fault error e)
refused_reply state (Export name) error p e = by_fault state name (λ tree. None) (λ tree. reply.Exported (text tree)) error (λ tree f. absurd (no_fault error f)) e
refused_reply state (Insert name path said) error p e =
    by_fault state name (λ tree. option_or (insert_fault path said tree) (inserted_fault (state.settings).k path said)) (λ tree. done_unless (insert_fault path said tree)) error
    (λ tree f. either (insert_fault path said tree) (inserted_fault (state.settings).k path said) error (inserted_limit (state.settings).k path said error) f) e
refused_reply state (Delete name path) error p e = by_fault state name (delete_fault path) (λ tree. done_unless (delete_fault path tree)) error (λ tree f. inl (ap done_unless f)) e
refused_reply state (Retext name path said) error p e =
    by_fault state name (λ tree. option_or (retext_fault path said tree) (retexted_fault (state.settings).k path said tree)) (λ tree. done_unless (retext_fault path said tree)) error
    (λ tree f. either (retext_fault path said tree) (retexted_fault (state.settings).k path said tree) error (retexted_limit (state.settings).k path said tree error) f) e
refused_reply state (Get name path) error p e =
    by_fault state name (node_fault path) (λ tree. option_map_or shown (at tree path) (reply.Refused NoNode)) error (λ tree f. inl (nowhere (at tree path) error f)) e
refused_reply state (Layout name) error p e = cc
refused_reply state (SetRule rule) error p e = cc
refused_reply state Rules error p e = cc
refused_reply state Checkpoint error p e = cc
refused_reply state (Begin bare) error p e = inl (ap reply.Refused (same_error Syntax error e))
refused_reply state Commit error p e = inl (ap reply.Refused (same_error Syntax error e))
refused_reply state Bad error p e = inl (ap reply.Refused (same_error Syntax error e))

-- what is refused so leaves the trees
after_left : (documents : Documents) (command : Command) (error : ReplyError) → (is_plain command ≡ true → reply_to documents command ≡ reply.Refused error) → documents_after documents command ≡ documents
after_left documents (Load name body) error h = refused_after documents (Load name body) error (h refl)
after_left documents (Discard name) error h = refused_after documents (Discard name) error (h refl)
after_left documents (Rename old new) error h = refused_after documents (Rename old new) error (h refl)
after_left documents Names error h = refl
after_left documents (Export name) error h = refl
after_left documents (Insert name path said) error h = refused_after documents (Insert name path said) error (h refl)
after_left documents (Delete name path) error h = refused_after documents (Delete name path) error (h refl)
after_left documents (Retext name path said) error h = refused_after documents (Retext name path said) error (h refl)
after_left documents (Get name path) error h = refl
after_left documents (Layout name) error h = refl
after_left documents (SetRule rule) error h = refl
after_left documents Rules error h = refl
after_left documents Checkpoint error h = refl
after_left documents (Begin bare) error h = refl
after_left documents Commit error h = refl
after_left documents Bad error h = refl

-- a document's command is answered so, where it has no fault
document_there : (o : Option OrderedTree) (fault : OrderedTree → Option ReplyError) (answer : OrderedTree → Reply) (r : Reply)
    → ((tree : OrderedTree) → fault tree ≡ None → r ≡ answer tree) → option_map_or fault o (Some NoDocument) ≡ None → r ≡ option_map_or answer o (reply.Refused NoDocument)
document_there None fault answer r each e = cc
document_there (Some tree) fault answer r each e = each tree e

by_none : (state : State) (name : List ℕ) (fault : OrderedTree → Option ReplyError) (answer : OrderedTree → Reply) (r : Reply)
    → ((tree : OrderedTree) → fault tree ≡ None → r ≡ answer tree) → document_fault state name fault ≡ None → r ≡ plain.by_document (trees state) name answer
by_none state name fault answer r each e = document_there (get (trees state) name) fault answer r each (sym (fault-trees state name fault) ∙ e)

-- a document's answer, of its tree
answered : (state : State) (name : List ℕ) (answer : OrderedTree → Reply) → ((tree : OrderedTree) → plain_reply (answer tree) ≡ answer tree)
    → plain_reply (option_map_or (λ (d : CutTree). answer (tree_of d)) (get state.documents name) (reply.Refused NoDocument)) ≡ plain.by_document (trees state) name answer
answered state name answer same = go (get state.documents name) ∙ ap (λ o. option_map_or answer o (reply.Refused NoDocument)) (sym (get-trees state name))
  where
    go : (o : Option CutTree) → plain_reply (option_map_or (λ (d : CutTree). answer (tree_of d)) o (reply.Refused NoDocument)) ≡ option_map_or answer (option_map tree_of o) (reply.Refused NoDocument)
    go None = refl
    go (Some d) = same (tree_of d)

shown_plain : (o : Option OrderedTree) → plain_reply (option_map_or shown o (reply.Refused NoNode)) ≡ option_map_or shown o (reply.Refused NoNode)
shown_plain None = refl
shown_plain (Some t) = refl

listed_bare : (es : List (List ℕ × CutTree)) → map cut_document_line es ≡ map plain.document_line (map bare es)
listed_bare [] = refl
listed_bare (e ∷ es) = ap (λ xs. cut_document_line e ∷ xs) (listed_bare es)

effect_reply : (state : State) (command : Command) (r : Reply) (next : State) → is_plain command ≡ true → refusal state command ≡ None → Effect state command r next → plain_reply r ≡ reply_to (trees state) command
effect_reply state (Load name (load.Wrong error)) r next p none effect = absurd effect
effect_reply state (Load name (load.Read tree)) r next p none effect =
    ap plain_reply effect.answered
    ∙ ap (λ b. if b then reply.Refused Exists else loaded (load.Read tree)) (sym (contains-trees state name ∙ new_name (contains_key state.documents name) (load_fault (state.settings).k (load.Read tree)) none))
effect_reply state (Discard name) r next p none effect = ap plain_reply effect.0 ∙ by_none state name (λ tree. None) (λ tree. reply.Done) reply.Done (λ tree f. refl) none
effect_reply state (Rename old new) r next p none effect =
    ap plain_reply effect.0
    ∙ by_none state old (λ tree. if contains_key state.documents new then Some Exists else None) (λ tree. if contains_key (trees state) new then reply.Refused Exists else reply.Done) reply.Done
    (λ tree f. sym (ap (λ b. if b then reply.Refused Exists else reply.Done) (contains-trees state new ∙ new_name (contains_key state.documents new) None f))) none
effect_reply state Names r next p none effect = ap plain_reply effect.0 ∙ ap reply.Names (listed_bare (entries state.documents) ∙ ap (map plain.document_line) (sym (entries-trees state)))
effect_reply state (Export name) r next p none effect = ap plain_reply effect.0 ∙ answered state name (λ tree. reply.Exported (text tree)) (λ tree. refl)
effect_reply state (Insert name path (line.Wrong error)) r next p none effect = absurd effect
effect_reply state (Insert name path (line.Read node)) r next p none effect =
    ap plain_reply effect.0
    ∙ by_none state name (λ tree. option_or (insert_fault path (line.Read node) tree) (inserted_fault (state.settings).k path (line.Read node))) (λ tree. done_unless (insert_fault path (line.Read node) tree)) reply.Done
    (λ tree f. sym (ap done_unless (first_none (insert_fault path (line.Read node) tree) (inserted_fault (state.settings).k path (line.Read node)) f))) none
effect_reply state (Delete name path) r next p none effect =
    ap plain_reply effect.0 ∙ by_none state name (delete_fault path) (λ tree. done_unless (delete_fault path tree)) reply.Done (λ tree f. sym (ap done_unless f)) none
effect_reply state (Retext name path (content.Wrong error)) r next p none effect = absurd effect
effect_reply state (Retext name path (content.Read bytes)) r next p none effect =
    ap plain_reply effect.0
    ∙ by_none state name (λ tree. option_or (retext_fault path (content.Read bytes) tree) (retexted_fault (state.settings).k path (content.Read bytes) tree)) (λ tree. done_unless (retext_fault path (content.Read bytes) tree)) reply.Done
    (λ tree f. sym (ap done_unless (first_none (retext_fault path (content.Read bytes) tree) (retexted_fault (state.settings).k path (content.Read bytes) tree) f))) none
effect_reply state (Get name path) r next p none effect = ap plain_reply effect.0 ∙ answered state name (λ tree. option_map_or shown (at tree path) (reply.Refused NoNode)) (λ tree. shown_plain (at tree path))
effect_reply state (Layout name) r next p none effect = cc
effect_reply state (SetRule rule) r next p none effect = cc
effect_reply state Rules r next p none effect = cc
effect_reply state Checkpoint r next p none effect = cc
effect_reply state (Begin bare) r next p none effect = absurd effect
effect_reply state Commit r next p none effect = absurd effect
effect_reply state Bad r next p none effect = absurd effect

-- no effect is answered by such a limit
no_limit : {X : Type 0} (answer : X → Reply) (o : Option X) → ((x : X) → is_limit (answer x) ≡ false) → is_limit (option_map_or answer o (reply.Refused NoDocument)) ≡ false
no_limit answer None h = refl
no_limit answer (Some x) h = h x

shown_unlimited : (o : Option OrderedTree) → is_limit (option_map_or shown o (reply.Refused NoNode)) ≡ false
shown_unlimited None = refl
shown_unlimited (Some t) = refl

effect_unlimited : (state : State) (command : Command) (r : Reply) (next : State) → Effect state command r next → is_limit r ≡ false
effect_unlimited state (Load name (load.Wrong error)) r next effect = absurd effect
effect_unlimited state (Load name (load.Read tree)) r next effect = ap is_limit effect.answered
effect_unlimited state (Discard name) r next effect = ap is_limit effect.0
effect_unlimited state (Rename old new) r next effect = ap is_limit effect.0
effect_unlimited state Names r next effect = ap is_limit effect.0
effect_unlimited state (Export name) r next effect = ap is_limit effect.0 ∙ no_limit (λ (d : CutTree). reply.Exported (text (tree_of d))) (get state.documents name) (λ d. refl)
effect_unlimited state (Insert name path (line.Wrong error)) r next effect = absurd effect
effect_unlimited state (Insert name path (line.Read node)) r next effect = ap is_limit effect.0
effect_unlimited state (Delete name path) r next effect = ap is_limit effect.0
effect_unlimited state (Retext name path (content.Wrong error)) r next effect = absurd effect
effect_unlimited state (Retext name path (content.Read bytes)) r next effect = ap is_limit effect.0
effect_unlimited state (Get name path) r next effect =
    ap is_limit effect.0 ∙ no_limit (λ (d : CutTree). option_map_or shown (at (tree_of d) path) (reply.Refused NoNode)) (get state.documents name) (λ d. shown_unlimited (at (tree_of d) path))
effect_unlimited state (Layout name) r next effect = ap is_limit effect.0 ∙ no_limit _ (get state.documents name) (λ d. refl)
effect_unlimited state (SetRule rule) r next effect = ap is_limit effect.0
effect_unlimited state Rules r next effect = ap is_limit effect.0
effect_unlimited state Checkpoint r next effect = ap is_limit effect.0
effect_unlimited state (Begin bare) r next effect = absurd effect
effect_unlimited state Commit r next effect = absurd effect
effect_unlimited state Bad r next effect = absurd effect

limited : (A B : Type 0) (b : Bool) → b ≡ true → A → MatchBool b A B
limited A B true e a = a
limited A B false e a = cc

unlimited : (A B : Type 0) (b : Bool) → b ≡ false → B → MatchBool b A B
unlimited A B true e x = cc
unlimited A B false e x = x

clash : (b : Bool) → b ≡ true → b ≡ false → ⊥
clash true e f = cc
clash false e f = cc

refused_step : (state : State) (command : Command) (r : Reply) (next : State) (error : ReplyError) → refusal state command ≡ Some error → Refuses state error r next
    → MatchBool (is_limit r) (next ≡ state) (IsPlainStep (trees state) command r next)
refused_step state command r next error is s = go (is_limit r) refl
  where
    go : (b : Bool) → is_limit r ≡ b → MatchBool b (next ≡ state) (IsPlainStep (trees state) command r next)
    go true e = s.1
    go false e =
        let said : is_plain command ≡ true → reply_to (trees state) command ≡ reply.Refused error =
        (λ p. elim (refused_reply state command error p is) [ inl same ↦ same | inr limit ↦ absurd (clash (is_limit r) (ap is_limit s.0 ∙ limit) e) ]) in record {
          reply_is = λ p. ap plain_reply s.0 ∙ sym (said p);
          trees_are = ap trees s.1 ∙ sym (after_left (trees state) command error said);
        }

pub step_plain : StepsArePlain
step_plain state command r next feasible step =
    (elim (refusal state command) as (λ o. refusal state command ≡ o → MatchOption o (Effect state command r next ⊎ FindsNoRoom state command r next) (λ error. Refuses state error r next)
    → MatchBool (is_limit r) (next ≡ state) (IsPlainStep (trees state) command r next)) [
      | None ↦ λ none s. elim s [
        | inl effect ↦ unlimited (next ≡ state) (IsPlainStep (trees state) command r next) (is_limit r) (effect_unlimited state command r next effect) (record {
          reply_is = λ p. effect_reply state command r next p none effect;
          trees_are = effect_trees state command r next feasible none effect;
        })
        | inr full ↦ limited (next ≡ state) (IsPlainStep (trees state) command r next) (is_limit r) (ap is_limit full.refused.0) full.refused.1
      ]
      | Some error ↦ λ is s. refused_step state command r next error is s
    ]) refl step
