-- What holds of replies to questions, apart from the code; and how a run of questions ends where all is well.
use Rattle.std.proofs.Common.{◌≡◌, ℕ, List, [], ◌∷◌, ◌++◌, refl, sym, ap, ap₂, ◌∙◌, subst}
use Rattle.std.specs.FinMap.{get}
use Rattle.nx_host.specs.declared.disk.Disk.{Ghosts}
use Rattle.nx_host.proofs.DiskLemmas.{untold}
use Rattle.nx_pyx.specs.Field.{field, behind_space}
use Rattle.nx_cuts.specs.Cut.{CutTree, tree_of}
use Rattle.nx_script.specs.declared.whole.Line.{Line}
use Rattle.nx_script.specs.declared.whole.Line.TheVariants.{Bytes}
use Rattle.nx_state.specs.State.{State}
use Rattle.nx_reach.specs.declared.step.Step.{Step}
use Rattle.nx_reach.specs.Reach.{Found}
use Rattle.nx_reach.proofs.ReadLemmas.{one_reading}
use Rattle.nx_reach.proofs.FoundLemmas.{one_list}
use Rattle.nx_store.proofs.FoundLemmas.{same_some}
use Rattle.nx_filters.specs.declared.status.Status.{Status}
use Rattle.nx_front.specs.Serving.{CompletesServing}
use Rattle.nx_front.specs.Finding.{AsksFor, IsReply, NoQuestion, NoSuchDocument, Reached, EndsFinding, Finds, HasOneAnswer, found_text}
use Rattle.nx_front.proofs.ServingLaws.{ends_well, finds_none}

-- Lines have one text of replies:

same_bytes : (one other : List ℕ) → ◌≡◌ {A = Line} (Bytes one) (Bytes other) → one ≡ other
same_bytes one other is = cc is

-- a line asks for one thing at most
pub one_question : (line : Line) (name other : List ℕ) (steps others : List Step) → AsksFor line name steps → AsksFor line other others → (name ≡ other) × (steps ≡ others)
one_question line name other steps others one two =
    let text : one.text ≡ two.text = same_bytes one.text two.text (sym one.is ∙ two.is) in
    let rest : one.rest ≡ two.rest = same_some (sym one.behind_word ∙ ap behind_space text ∙ two.behind_word) in
    let said : one.said ≡ two.said = same_some (sym one.behind_name ∙ ap behind_space rest ∙ two.behind_name) in (
      sym one.name_is ∙ ap field rest ∙ two.name_is,
      one_reading steps others (one.says).labels (two.says).labels (sym (one.says).is ∙ said ∙ (two.says).is),
    )

one_found : (document other : CutTree) (steps others : List Step) (paths found : List (List ℕ)) → document ≡ other → steps ≡ others → Found (tree_of document) steps paths → Found (tree_of other) others found →
    paths ≡ found
one_found document other steps others paths found same alike one two =
    let list = one_list (tree_of document) steps in
    let here : Found (tree_of document) steps found = subst (λ (t : CutTree). Found (tree_of t) steps found) (sym same) (subst (λ (s : List Step). Found (tree_of other) s found) (sym alike) two) in
    list.2 paths one ∙ sym (list.2 found here)

one_reply : (state : State) (line : Line) (one other : List ℕ) → IsReply state line one → IsReply state line other → one ≡ other
one_reply state line one other (NoQuestion none) (NoQuestion none') = refl
one_reply state line one other (NoQuestion none) (NoSuchDocument name steps asks lacks) = absurd (none name steps asks)
one_reply state line one other (NoQuestion none) (Reached name steps document paths asks there found) = absurd (none name steps asks)
one_reply state line one other (NoSuchDocument name steps asks lacks) (NoQuestion none) = absurd (none name steps asks)
one_reply state line one other (NoSuchDocument name steps asks lacks) (NoSuchDocument name' steps' asks' lacks') = refl
one_reply state line one other (NoSuchDocument name steps asks lacks) (Reached name' steps' document paths asks' there found) =
    let (same, alike) = one_question line name name' steps steps' asks asks' in
    untold document (sym lacks ∙ ap (get state.documents) same ∙ there)
one_reply state line one other (Reached name steps document paths asks there found) (NoQuestion none) = absurd (none name steps asks)
one_reply state line one other (Reached name steps document paths asks there found) (NoSuchDocument name' steps' asks' lacks) =
    let (same, alike) = one_question line name' name steps' steps asks' asks in
    untold document (sym lacks ∙ ap (get state.documents) same ∙ there)
one_reply state line one other (Reached name steps document paths asks there found) (Reached name' steps' document' paths' asks' there' found') =
    let (same, alike) = one_question line name name' steps steps' asks asks' in
    let tree : document ≡ document' = same_some (sym there ∙ ap (get state.documents) same ∙ there') in
    ap found_text (one_found document document' steps steps' paths paths' tree alike found found')

pub one_answer : HasOneAnswer
one_answer state [] one other are are' = are ∙ sym are'
one_answer state (line ∷ lines) one other (first, rest, is, are, parts) (first', rest', is', are', parts') =
    parts ∙ ap₂ (λ (a b : List ℕ). a ++ b) (one_reply state line first first' is is') (one_answer state lines rest rest' are are') ∙ sym parts'

module _ {D : Type 0} {d : Ghosts D} {a b : D} where
  -- how such a run ends where all is well
  pub finding_completes : (status : Status) → Finds d status a b → CompletesServing d status a b
  finding_completes status finds = record {
    store = λ was input state calm recovers.
        let from = finds.from was state calm.settled calm.disk_told recovers in
        ends_well status was input calm finds.cause (
          λ is. subst (λ (s : Status). EndsFinding from.lines from.text from.taken s (d.beside a) (d.beside b)) is from.ends,
          λ page is. subst (λ (s : Status). EndsFinding from.lines from.text from.taken s (d.beside a) (d.beside b)) is from.ends,
        );
    no_store = λ was input calm none. finds_none status was input calm finds.cause (finds.no_header was calm.settled none).0;
  }
