-- An edit of one document, through what the map lends.
use Rattle.std.proofs.Common.{◌≡◌, ℕ, cond, List, refl, sym, ap, ◌∙◌, Option, None, Some}
use Rattle.std.specs.Prelude.{option_and_then, Result, Ok, Err, IfOk, OnOk, OnErr, IsErr, ◌↔◌}
use Rattle.std.specs.Global.{Vec}
use Rattle.std.specs.Option.{option_map_or, is_none}
use Rattle.std.specs.Result.{result_err}
use Rattle.std.specs.BTreeMap.{BTreeMap, WritesThrough}
use Rattle.std.specs.FinMap.{get, insert}
use Rattle.std.proofs.lemmas.Result.{IfOk-weaker, MatchResult-at_err}
use Rattle.nx_lists.specs.declared.memory.NoMemory.{NoMemory}
use Rattle.nx_tree.specs.declared.error.TreeError.{TreeError}
use Rattle.nx_tree.specs.declared.error.TreeError.TheVariants as tree_error
use Rattle.nx_tree.specs.Forest.{OrderedTree}
use Rattle.nx_tree.specs.Document.{IsDocument}
use Rattle.nx_script.specs.declared.command.LineBody.{LineBody}
use Rattle.nx_script.specs.declared.command.LineBody.TheVariants as line
use Rattle.nx_script.specs.declared.command.TextBody.{TextBody}
use Rattle.nx_script.specs.declared.command.TextBody.TheVariants as content
use Rattle.nx_script.specs.declared.command.Command.TheVariants.{Insert, Retext}
use Rattle.nx_script.specs.declared.reply.Reply.{Reply}
use Rattle.nx_script.specs.declared.reply.ReplyError.{ReplyError}
use Rattle.nx_script.specs.declared.reply.ReplyError.TheVariants.{NoNode, BadPlace, Twice, NoContent, TooDeep, TooMany}
use Rattle.nx_pyx.specs.DocumentName.{name_order, vector_order}
use Rattle.nx_engine.specs.Documents.{Documents}
use Rattle.nx_engine.specs.Step.{worded, done_unless, by_document, documents_edited, documents_after}
use Rattle.nx_engine.specs.Plain.{documents_in, AreDocuments}
use Rattle.nx_engine.proofs.MapLemmas.{Shows, tree_of, get_shown, insert_shown, insert_same, written_documents, found_document}
use Rattle.nx_engine.proofs.StepLemmas.{by_found}

-- the map stands for the documents, and has this tree under the name, which the key is
pub record Lent (documents : Documents) (trees : BTreeMap (Vec ℕ) OrderedTree) (name key : List ℕ) (tree : OrderedTree) : Type 0 where
  pub shows : Shows documents trees
  pub same : key ≡ name
  pub found : tree_of key trees ≡ Some tree

-- the tree under the key is another one now
abbrev pub Writes : BTreeMap (Vec ℕ) OrderedTree → BTreeMap (Vec ℕ) OrderedTree → List ℕ → OrderedTree → Type 0
Writes trees written key new = WritesThrough vector_order (λ k. name_order key k.items) trees new written

module _ {documents : Documents} {trees : BTreeMap (Vec ℕ) OrderedTree} {name key : List ℕ} {tree : OrderedTree} (l : Lent documents trees name key tree) where
  pub lent_found : get documents name ≡ Some tree
  lent_found = get_shown l.shows l.same ∙ l.found

  pub lent_document : IsDocument tree
  lent_document = found_document trees key tree l.shows.are l.found

  module _ (written : BTreeMap (Vec ℕ) OrderedTree) (new : OrderedTree) (w : Writes trees written key new) where
    pub written_are : IsDocument new → AreDocuments written
    written_are d = written_documents trees written new _ l.shows.are d w

    pub written_shows : documents_in written ≡ insert documents name new
    written_shows = insert_shown written name key new l.shows l.same (w.3 (rw l.found refl)) w.4

    pub unwritten : new ≡ tree → documents_in written ≡ documents
    unwritten e = written_shows ∙ ap (insert documents name) e ∙ insert_same documents name tree lent_found

pub edited_at : (documents : Documents) (name : List ℕ) (tree : OrderedTree) (fault : OrderedTree → Option ReplyError) (change : OrderedTree → OrderedTree) (f : Option ReplyError) →
    get documents name ≡ Some tree → fault tree ≡ f → documents_edited documents name fault change ≡ cond (is_none f) (insert documents name (change tree)) documents
edited_at documents name tree fault change f g e =
    ap (λ o. option_map_or (λ t. cond (is_none (fault t)) (insert documents name (change t)) documents) o documents) g
    ∙ ap (λ o. cond (is_none o) (insert documents name (change tree)) documents) e

-- no document of that name, so none is edited
pub edited_absent : (documents : Documents) (name : List ℕ) (fault : OrderedTree → Option ReplyError) (change : OrderedTree → OrderedTree) → get documents name ≡ None → documents_edited documents name fault change ≡ documents
edited_absent documents name fault change g = ap (λ o. option_map_or (λ t. cond (is_none (fault t)) (insert documents name (change t)) documents) o documents) g

-- a document that is as it was, put there again
kept : (documents : Documents) (name : List ℕ) (tree new : OrderedTree) (fault : OrderedTree → Option ReplyError) (change : OrderedTree → OrderedTree) (x : ReplyError) →
    get documents name ≡ Some tree → fault tree ≡ Some x → new ≡ tree → insert documents name new ≡ documents_edited documents name fault change
kept documents name tree new fault change x g why e = ap (insert documents name) e ∙ insert_same documents name tree g ∙ sym (edited_at documents name tree fault change (Some x) g why)

-- an edit that wasn't stopped by want of memory leaves what it says
edit_leaves : (documents : Documents) (name : List ℕ) (tree new : OrderedTree) (fault : OrderedTree → Option ReplyError) (change : OrderedTree → OrderedTree) (r : Result (Unit {0}) TreeError) →
    get documents name ≡ Some tree → fault tree ≡ option_and_then worded (result_err r) → OnOk r (new ≡ change tree) → OnErr r (new ≡ tree) → ¬ (r ≡ Err tree_error.Memory) →
    insert documents name new ≡ documents_edited documents name fault change
edit_leaves documents name tree new fault change (Ok u) g why ok err other = ap (insert documents name) ok ∙ sym (edited_at documents name tree fault change None g why)
edit_leaves documents name tree new fault change (Err tree_error.NoNode) g why ok err other = kept documents name tree new fault change NoNode g why err
edit_leaves documents name tree new fault change (Err tree_error.BadPlace) g why ok err other = kept documents name tree new fault change BadPlace g why err
edit_leaves documents name tree new fault change (Err tree_error.Twice) g why ok err other = kept documents name tree new fault change Twice g why err
edit_leaves documents name tree new fault change (Err tree_error.NoContent) g why ok err other = kept documents name tree new fault change NoContent g why err
edit_leaves documents name tree new fault change (Err tree_error.TooDeep) g why ok err other = kept documents name tree new fault change TooDeep g why err
edit_leaves documents name tree new fault change (Err tree_error.TooMany) g why ok err other = kept documents name tree new fault change TooMany g why err
edit_leaves documents name tree new fault change (Err tree_error.Memory) g why ok err other = absurd (other refl)

pub edit_reply : {documents : Documents} {trees : BTreeMap (Vec ℕ) OrderedTree} {name key : List ℕ} {tree : OrderedTree} → Lent documents trees name key tree →
    (fault : OrderedTree → Option ReplyError) (r : Result (Unit {0}) TreeError) (a : Result Reply NoMemory) → fault tree ≡ option_and_then worded (result_err r) →
    IfOk a (λ reply. reply ≡ done_unless (option_and_then worded (result_err r))) → IfOk a (λ reply. reply ≡ by_document documents name (λ t. done_unless (fault t)))
edit_reply {documents} {name = name} {tree = tree} l fault r a why h = IfOk-weaker a _ _ (λ x p. p ∙ sym (by_found documents name tree _ (lent_found l) ∙ ap done_unless why)) h

-- a reply is an error where the edit had no memory, and there alone
abbrev pub FailsAlike : Result Reply NoMemory → Result (Unit {0}) TreeError → Type 0
FailsAlike a r = IsErr a ↔ (r ≡ Err tree_error.Memory)

module _ {documents : Documents} {trees : BTreeMap (Vec ℕ) OrderedTree} {name key : List ℕ} {tree : OrderedTree} (l : Lent documents trees name key tree) (written : BTreeMap (Vec ℕ) OrderedTree) (new : OrderedTree)
    (w : Writes trees written key new) (r : Result (Unit {0}) TreeError) (err : OnErr r (new ≡ tree)) (a : Result Reply NoMemory) (alike : FailsAlike a r) where
  pub edit_done : (fault : OrderedTree → Option ReplyError) (change : OrderedTree → OrderedTree) → fault tree ≡ option_and_then worded (result_err r) → OnOk r (new ≡ change tree) →
      OnOk a (documents_in written ≡ documents_edited documents name fault change)
  edit_done fault change why ok = by_reply a alike
    where
      by_reply : (b : Result Reply NoMemory) → FailsAlike b r → OnOk b (documents_in written ≡ documents_edited documents name fault change)
      by_reply (Ok reply) h = written_shows l written new w ∙ edit_leaves documents name tree new fault change r (lent_found l) why ok err (λ e. let f = h.1 e in cc)
      by_reply (Err e) h = tt

  pub edit_failed : OnErr a (documents_in written ≡ documents)
  edit_failed = by_reply a alike
    where
      by_reply : (b : Result Reply NoMemory) → FailsAlike b r → OnErr b (documents_in written ≡ documents)
      by_reply (Ok reply) h = tt
      by_reply (Err e) h = unwritten l written new w (MatchResult-at_err _ _ tree_error.Memory (h.0 refl) err)

-- a node put into no document, whatever its line says
pub insert_absent : (documents : Documents) (name path : List ℕ) (said : LineBody) → get documents name ≡ None → documents_after documents (Insert name path said) ≡ documents
insert_absent documents name path (line.Read node) g = edited_absent documents name _ _ g
insert_absent documents name path (line.Wrong error) g = refl

pub retext_absent : (documents : Documents) (name path : List ℕ) (said : TextBody) → get documents name ≡ None → documents_after documents (Retext name path said) ≡ documents
retext_absent documents name path (content.Read bytes) g = edited_absent documents name _ _ g
retext_absent documents name path (content.Wrong error) g = refl
