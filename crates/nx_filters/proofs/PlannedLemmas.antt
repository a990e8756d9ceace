-- The lines of a document, and the text behind their dot.
use Rattle.std.proofs.Common.{Bool, true, false, MatchBool, ◌≡◌, inl, inr, ℕ, ◌+◌, ◌-◌, ◌≤◌, ◌<◌, List, [], ◌++◌, length, take, drop, Option, None, Some, Ok, refl, sym, ap, ◌∙◌, subst, arith, append-nil, append_assoc}
use Rattle.std.proofs.lemmas.List.{take_all, length-drop}
use Rattle.std.proofs.Math.Seq.{take-add}
use Rattle.nx_host.specs.Disk.{Beside}
use Rattle.nx_host.specs.Host.{Takes, IsAtEnd}
use Rattle.nx_host.specs.Input.{HasTaken, most_input}
use Rattle.nx_host.specs.declared.input.Input.{Input}
use Rattle.nx_tree.specs.Forest.{OrderedTree}
use Rattle.nx_pyx.specs.declared.error.PyxError.{PyxError}
use Rattle.nx_pyx.specs.Fault.{shown_fault, fault_of}
use Rattle.nx_pyx.specs.Lines.{cut}
use Rattle.nx_pyx.specs.Reading.{Reads}
use Rattle.nx_pyx.proofs.DocumentLemmas.{no_fault}
use Rattle.nx_pyx.proofs.ShownFaultLemmas.{fault_shown}
use Rattle.nx_script.specs.declared.body.Body.{Body}
use Rattle.nx_script.specs.BeforeDot.{before_dot, after_dot, shown_before_dot}
use Rattle.nx_script.specs.Body.{AwaitsDot, IsEndedBy}
use Rattle.nx_script.proofs.BeforeDot.{after_in-none, shown_before}
use Rattle.nx_filters.specs.declared.refusal.Refusal.TheVariants.{Pyx, TooHeavy, Bounds}
use Rattle.nx_filters.specs.declared.take_error.TakeError.{TakeError}
use Rattle.nx_filters.specs.declared.take_error.TakeError.TheVariants.{Refused, ReadFault, TooMuch, NoMemory}
use Rattle.nx_filters.specs.Outcome.{EndsWhole, StopsBy}
use Rattle.nx_filters.specs.Planned.{IsPlanned, HasLines, HasDot, HasDocumentBeforeDot, StopsWhole}
use Rattle.nx_filters.specs.Consumer.{StopsAt}
use Rattle.nx_filters.specs.Verify.{ShowsClaim, verify}
use Rattle.nx_filters.proofs.ConsumerLemmas.{few_had}

-- Of any bytes:

-- those behind a place
pub rest_is : (n : ℕ) (bytes : List ℕ) → take (length bytes - n) (drop n bytes) ≡ drop n bytes
rest_is n bytes = let e : length (drop n bytes) ≡ length bytes - n = length-drop n bytes in take_all (length bytes - n) (drop n bytes) (omega arith)

-- the first of them, and those that were taken behind them
pub take_on : (s bytes : List ℕ) (n m : ℕ) → (s ++ take n bytes) ++ take m (take (length bytes - n) (drop n bytes)) ≡ s ++ take (n + m) bytes
take_on s bytes n m =
    ap (λ (l : List ℕ). (s ++ take n bytes) ++ take m l) (rest_is n bytes)
    ∙ append_assoc s (take n bytes) (take m (drop n bytes)) ∙ ap (λ (l : List ℕ). s ++ l) (sym (take-add n m bytes))

pub taken_within : (n m : ℕ) (bytes : List ℕ) → n ≤ length bytes → m ≤ length (take (length bytes - n) (drop n bytes)) → n + m ≤ length bytes
taken_within n m bytes here within =
    let e : length (take (length bytes - n) (drop n bytes)) ≡ length (drop n bytes) = ap length (rest_is n bytes) in
    let d : length (drop n bytes) ≡ length bytes - n = length-drop n bytes in
    omega arith

-- The lines of a document, up to the dot:

-- lines without a dot show no fault
lines_show : (body : Body) (taken : List ℕ) → AwaitsDot body taken → None ≡ shown_before_dot taken → ShowsClaim taken (Ok [])
lines_show body taken within none = (refl, sym none, λ dotted. absurd (let no_end : true ≡ false = sym dotted ∙ within.undotted in cc))

pub lines_none : (body : Body) (behind : List ℕ) → AwaitsDot body [] → behind ≡ [] → HasLines body behind []
lines_none body behind within none = record { within = within; shows = lines_show body [] within refl; none = none }

-- they show a fault
pub lines_faulty : (s : List ℕ) (error : PyxError) → Some error ≡ shown_before_dot s → StopsAt ShowsClaim (Refused (Pyx error)) s
lines_faulty s error shown = λ more. shown_before s more error (sym shown)

-- The document that lines say:

-- a document shows no fault
sound_reads : (s : List ℕ) (tree : OrderedTree) → Reads s tree → shown_fault s ≡ None
sound_reads s tree reads = by_case (shown_fault s) refl
  where
    by_case : (o : Option PyxError) → shown_fault s ≡ o → shown_fault s ≡ None
    by_case None is = is
    by_case (Some error) is =
        absurd (let none : None ≡ Some error = sym (no_fault s tree reads) ∙ ap fault_of (sym (append-nil s)) ∙ fault_shown s [] error is in cc)

document_shows : (tree : OrderedTree) (taken : List ℕ) → ((more : List ℕ) → Reads (before_dot (taken ++ more)) tree) → ShowsClaim taken (Ok [])
document_shows tree taken before =
    let reads : Reads (before_dot taken) tree = subst (λ (l : List ℕ). Reads (before_dot l) tree) (append-nil taken) (before []) in
    (refl, sound_reads (before_dot taken) tree reads, λ _. no_fault (before_dot taken) tree reads)

-- before a dot
pub document_dotted : (body : Body) (behind s : List ℕ) (tree : OrderedTree) → HasDot body behind s → ((t : List ℕ) → IsEndedBy body t → (more : List ℕ) → Reads (before_dot (t ++ more)) tree) →
    HasDocumentBeforeDot tree behind s
document_dotted body behind s tree dot reads =
    let before : (more : List ℕ) → Reads (before_dot (s ++ more)) tree =
    λ more. subst (λ (l : List ℕ). Reads (before_dot l) tree) (sym (parts more)) (reads dot.prefix dot.ended (behind ++ more)) in
    record { before = before; after = λ more. ap after_dot (parts more) ∙ dot.ended.after (behind ++ more); shows = document_shows tree s before }
  where
    parts : (more : List ℕ) → s ++ more ≡ dot.prefix ++ (behind ++ more)
    parts more = ap (λ (l : List ℕ). l ++ more) dot.parts ∙ append_assoc dot.prefix behind more

-- or a fault
pub faulty_dotted : (body : Body) (behind s : List ℕ) (stop : TakeError) → HasDot body behind s → ((t : List ℕ) → IsEndedBy body t → (more : List ℕ) → StopsWhole stop (t ++ more)) → StopsAt ShowsClaim stop s
faulty_dotted body behind s (Refused (Pyx error)) dot faulty = λ more.
    ap (λ (l : List ℕ). fault_of (before_dot l)) (ap (λ (l : List ℕ). l ++ more) dot.parts ∙ append_assoc dot.prefix behind more) ∙ faulty dot.prefix dot.ended (behind ++ more)
faulty_dotted body behind s (Refused (TooHeavy path slots)) dot faulty = absurd (faulty dot.prefix dot.ended [])
faulty_dotted body behind s (Refused (Bounds error)) dot faulty = absurd (faulty dot.prefix dot.ended [])
faulty_dotted body behind s ReadFault dot faulty = absurd (faulty dot.prefix dot.ended [])
faulty_dotted body behind s TooMuch dot faulty = absurd (faulty dot.prefix dot.ended [])
faulty_dotted body behind s NoMemory dot faulty = tt

-- without a dot
pub document_whole : (body : Body) (behind s : List ℕ) (tree : OrderedTree) → HasLines body behind s → Reads (before_dot s) tree → IsPlanned tree behind s
document_whole body behind s tree lines reads = record { reads = reads; behind = lines.none ∙ sym (after_in-none (cut s).ended (cut s).rest lines.within.undotted) }

-- more of the text behind the dot
pub document_more : (tree : OrderedTree) (plan plan' block s : List ℕ) → HasDocumentBeforeDot tree plan s → plan' ≡ plan ++ block → HasDocumentBeforeDot tree plan' (s ++ block)
document_more tree plan plan' block s document adds =
    let before : (more : List ℕ) → Reads (before_dot ((s ++ block) ++ more)) tree =
    λ more. subst (λ (l : List ℕ). Reads (before_dot l) tree) (sym (append_assoc s block more)) (document.before (block ++ more)) in
    record {
      before = before;
      after = λ more. ap after_dot (append_assoc s block more) ∙ document.after (block ++ more) ∙ sym (append_assoc plan block more) ∙ ap (λ (l : List ℕ). l ++ more) (sym adds);
      shows = document_shows tree (s ++ block) before;
    }

-- all of it
pub document_planned : (tree : OrderedTree) (plan s : List ℕ) → HasDocumentBeforeDot tree plan s → IsPlanned tree plan s
document_planned tree plan s document = record {
  reads = subst (λ (l : List ℕ). Reads (before_dot l) tree) (append-nil s) (document.before []);
  behind = sym (append-nil plan) ∙ sym (document.after []) ∙ ap after_dot (append-nil s);
}

-- Where the reading stops:

-- the whole input's lines have a fault
pub whole_stops : (k : ℕ) (stop : TakeError) (taken : List ℕ) (old new : Beside) → EndsWhole taken old.input new.input → StopsWhole stop taken → StopsBy (verify k) stop old new
whole_stops k (Refused (Pyx error)) taken old new whole is =
    (taken, record { takes = whole.takes; few = (let few : length taken < most_input = whole.few in omega arith); refused = inr (whole.end, whole.few, is) })
whole_stops k (Refused (TooHeavy path slots)) taken old new whole is = absurd is
whole_stops k (Refused (Bounds error)) taken old new whole is = absurd is
whole_stops k ReadFault taken old new whole is = absurd is
whole_stops k TooMuch taken old new whole is = absurd is
whole_stops k NoMemory taken old new whole is = tt

-- so do those before a dot
dotted_stops : (k : ℕ) (stop : TakeError) (taken : List ℕ) (old new : Beside) → Takes taken old.input new.input → length taken ≤ most_input → StopsAt ShowsClaim stop taken →
    StopsBy (verify k) stop old new
dotted_stops k (Refused refusal) taken old new takes few shows = (taken, record { takes = takes; few = few; refused = inl shows })
dotted_stops k ReadFault taken old new takes few shows = absurd shows
dotted_stops k TooMuch taken old new takes few shows = absurd shows
dotted_stops k NoMemory taken old new takes few shows = tt

-- Lines were read to the input's end, or up to a dot.
pub record HasLinesOr (ended : Bool) (body : Body) (behind taken : List ℕ) (now : Option (List ℕ)) : Type 0 where
  pub known : MatchBool ended (IsAtEnd now × (length taken < most_input) × HasLines body behind taken) (HasDot body behind taken)

-- why they say no document
abbrev pub StopsWholeOr : TakeError → Body → List ℕ → Type 0
StopsWholeOr stop body behind = ((s : List ℕ) → HasLines body behind s → StopsWhole stop s) × ((s : List ℕ) → HasDot body behind s → StopsAt ShowsClaim stop s)

pub planned_stops : {i : Input} {ended : Bool} {body : Body} {behind taken : List ℕ} (k : ℕ) (stop : TakeError) (old new : Beside) → HasTaken i taken old.input new.input →
    HasLinesOr ended body behind taken new.input → StopsWholeOr stop body behind → StopsBy (verify k) stop old new
planned_stops {ended = ended} {body = body} {behind = behind} {taken = taken} k stop old new had lines stops = by_end ended lines.known
  where
    by_end : (e : Bool) → MatchBool e (IsAtEnd new.input × (length taken < most_input) × HasLines body behind taken) (HasDot body behind taken) → StopsBy (verify k) stop old new
    by_end true (end, short, here) = whole_stops k stop taken old new (record { takes = had.takes; end = end; few = short }) (stops.0 taken here)
    by_end false dot = dotted_stops k stop taken old new had.takes (few_had had) (stops.1 taken dot)
