-- What is said of an input's plan.
use Rattle.std.proofs.Common.{◌≡◌, ◌≢◌, ◌⊎◌, inl, inr, ℕ, ◌+◌, ◌≤◌, ◌<◌, ◌^◌, Bool, true, false, if◌then◌else◌, List, [], ◌∷◌, ◌++◌, length, map, None, Some, Result, Ok, Err, IfOk, refl, sym, ap, ◌∙◌, subst, arith, length-append}
use Rattle.std.proofs.lemmas.List.{length-map}
use Rattle.std.specs.List.{zip}
use Rattle.nx_host.specs.Input.{most_input}
use Rattle.nx_tree.specs.Forest.{OrderedTree}
use Rattle.nx_pyx.specs.declared.error.PyxError.{PyxError}
use Rattle.nx_pyx.specs.Lines.{cut, without_cr, last_line, lines}
use Rattle.nx_pyx.proofs.DocumentLemmas.{no_fault}
use Rattle.nx_pyx.proofs.Reading.{one_reading}
use Rattle.nx_script.specs.Commands.{is_dot}
use Rattle.nx_script.specs.BeforeDot.{joined_lines, after_in, before_dot, after_dot}
use Rattle.nx_script.proofs.BeforeDot.{joined_lines-cut}
use Rattle.nx_parts.specs.declared.interval.Interval.{Interval}
use Rattle.nx_parts.specs.declared.bounds.Bound.{Bound}
use Rattle.nx_parts.specs.declared.plan.Plan.{Plan}
use Rattle.nx_bounds.specs.declared.error.BoundsError.{BoundsError}
use Rattle.nx_bounds.specs.declared.error.BoundsError.TheVariants.{Parts, WrongWeight, Length, Unsupported, Count, BadPlanLine, Memory}
use Rattle.nx_bounds.specs.Refusal.{IsSoundPlan, IsNotCertified}
use Rattle.nx_bounds.specs.PlanText.{plan_line, part_line, bound_lines, lines_of, bad_line, ReadsAs}
use Rattle.nx_bounds.proofs.OnePlan.{same_plan, sound}
use Rattle.nx_bounds.proofs.VerdictLemmas.{spared, one_refusal}
use Rattle.nx_filters.specs.declared.refusal.Refusal.{Refusal}
use Rattle.nx_filters.specs.declared.refusal.Refusal.TheVariants.{Pyx, TooHeavy, Bounds}
use Rattle.nx_filters.specs.Planned.{IsPlanned}
use Rattle.nx_filters.specs.TakeError.{take_error_of_bounds}
use Rattle.nx_filters.specs.Outcome.{HoldsTogether, HasOneText, EndsWhole, EndsRefused, StopsBy, ReadsTo}
use Rattle.nx_host.specs.Disk.{Beside}
use Rattle.nx_filters.specs.Verify.{certified_line, IsCertifiedText, IsRefusedText, IsCertifiedInput, IsSoundInput, IsRefusedInput, JudgesText, AreFew, verify}

-- The lists of a plan are no longer than its text:

few_joined : (pieces : List (List ℕ)) (rest : List ℕ) → length pieces + length rest ≤ length (joined_lines pieces rest)
few_joined [] rest = omega arith
few_joined (piece ∷ pieces) rest =
    let e : length (piece ++ 10 ∷ joined_lines pieces rest) ≡ length piece + length (10 ∷ joined_lines pieces rest) = length-append piece (10 ∷ joined_lines pieces rest) in
    omega (arith, few_joined pieces rest)

one_line : (rest : List ℕ) → length (last_line rest) ≤ length rest
one_line [] = omega arith
one_line (b ∷ rest) = omega arith

lines_few : (text : List ℕ) → length (lines text) ≤ length text
lines_few text =
    let all : length (joined_lines (cut text).ended (cut text).rest) ≡ length text = ap length (joined_lines-cut text) in
    let split : length (lines text) ≡ length (map without_cr (cut text).ended) + length (last_line (cut text).rest) = length-append (map without_cr (cut text).ended) (last_line (cut text).rest) in
    let same : length (map without_cr (cut text).ended) ≡ length (cut text).ended = length-map (cut text).ended without_cr in
    omega (arith, few_joined (cut text).ended (cut text).rest, one_line (cut text).rest)

length-zip : (parts : List Interval) (weights : List ℕ) → length weights ≡ length parts → length (zip parts weights) ≡ length parts
length-zip [] weights same = refl
length-zip (part ∷ parts) [] same = absurd (omega (arith, same))
length-zip (part ∷ parts) (weight ∷ weights) same = let e : length weights ≡ length parts = omega (arith, same) in omega (arith, length-zip parts weights e)

length-bounds : (node : ℕ) (bounds : List Bound) → length (bound_lines node bounds) ≡ length bounds
length-bounds node [] = refl
length-bounds node (bound ∷ bounds) = omega (arith, length-bounds (node + 1) bounds)

are_few : (text : List ℕ) (plan : Plan) → length text < 2 ^ 32 → ReadsAs text plan → AreFew plan
are_few text plan short reads =
    let said : length (map plan_line (lines text)) ≡ length (map (λ line. Some line) (lines_of plan)) = ap length reads.said in
    let left : length (map plan_line (lines text)) ≡ length (lines text) = length-map (lines text) plan_line in
    let right : length (map (λ line. Some line) (lines_of plan)) ≡ length (lines_of plan) = length-map (lines_of plan) (λ line. Some line) in
    let split : length (lines_of plan) ≡ length (map part_line (zip plan.parts plan.weights)) + length (bound_lines 0 plan.bounds) =
    length-append (map part_line (zip plan.parts plan.weights)) (bound_lines 0 plan.bounds) in
    let parts : length (map part_line (zip plan.parts plan.weights)) ≡ length (zip plan.parts plan.weights) = length-map (zip plan.parts plan.weights) part_line in
    let zipped : length (zip plan.parts plan.weights) ≡ length plan.parts = length-zip plan.parts plan.weights reads.one_each in
    let bounds : length (bound_lines 0 plan.bounds) ≡ length plan.bounds = length-bounds 0 plan.bounds in
    let few : length (lines text) ≤ length text = lines_few text in
    let each : length plan.weights ≡ length plan.parts = reads.one_each in
    let size : length text < 2 ^ 32 = short in
    record { parts = omega arith; weights = omega arith; bounds = omega arith }

pub read_few : (text : List ℕ) (result : Result Plan BoundsError) → length text < 2 ^ 32 → IfOk result (λ plan. ReadsAs text plan) → IfOk result (λ plan. AreFew plan)
read_few text (Ok plan) short reads = are_few text plan short reads
read_few text (Err error) short reads = tt

-- The text behind the dot is no longer than the input:

after_short : (pieces : List (List ℕ)) (rest : List ℕ) → length (after_in pieces rest) ≤ length (joined_lines pieces rest)
after_short [] rest = omega arith
after_short (piece ∷ pieces) rest = by_dot (is_dot (without_cr piece)) refl (after_short pieces rest)
  where
    longer : length (joined_lines (piece ∷ pieces) rest) ≡ length piece + (1 + length (joined_lines pieces rest))
    longer = let e : length (piece ++ 10 ∷ joined_lines pieces rest) ≡ length piece + length (10 ∷ joined_lines pieces rest) = length-append piece (10 ∷ joined_lines pieces rest) in omega arith

    by_dot : (t : Bool) → is_dot (without_cr piece) ≡ t → length (after_in pieces rest) ≤ length (joined_lines pieces rest) →
        length (after_in (piece ∷ pieces) rest) ≤ length (joined_lines (piece ∷ pieces) rest)
    by_dot true is less =
        let e : length (after_in (piece ∷ pieces) rest) ≡ length (joined_lines pieces rest) = ap (λ (t : Bool). length (if t then joined_lines pieces rest else after_in pieces rest)) is in
        let more : length (joined_lines (piece ∷ pieces) rest) ≡ length piece + (1 + length (joined_lines pieces rest)) = longer in
        omega arith
    by_dot false is less =
        let e : length (after_in (piece ∷ pieces) rest) ≡ length (after_in pieces rest) = ap (λ (t : Bool). length (if t then joined_lines pieces rest else after_in pieces rest)) is in
        let more : length (joined_lines (piece ∷ pieces) rest) ≡ length piece + (1 + length (joined_lines pieces rest)) = longer in
        omega arith

pub text_short : (tree : OrderedTree) (plan taken : List ℕ) → length taken < most_input → IsPlanned tree plan taken → length plan < 2 ^ 32
text_short tree plan taken short planned =
    let is : length plan ≡ length (after_dot taken) = ap length planned.behind in
    let all : length (joined_lines (cut taken).ended (cut taken).rest) ≡ length taken = ap length (joined_lines-cut taken) in
    omega (arith, after_short (cut taken).ended (cut taken).rest)

-- One verdict on an input:

refuses_not : (k : ℕ) (tree : OrderedTree) (text : List ℕ) (plan : Plan) (error : BoundsError) → error ≢ Memory → ReadsAs text plan → IsSoundPlan k tree plan →
    (other : Plan) × ReadsAs text other × IsNotCertified k tree other error → ⊥
refuses_not k tree text plan error some says sound_plan (other, says_other, refused) =
    some (spared k tree plan error sound_plan (subst (λ (p : Plan). IsNotCertified k tree p error) (same_plan (lines text) other plan says_other says) refused))

text_excludes : (k : ℕ) (tree : OrderedTree) (text : List ℕ) (plan : Plan) (error : BoundsError) → ReadsAs text plan → IsSoundPlan k tree plan → IsRefusedText k tree text error → ⊥
text_excludes k tree text plan (BadPlanLine line) says sound_plan refused = let none : None ≡ Some line = sym (sound (lines text) plan says) ∙ refused in cc
text_excludes k tree text plan Memory says sound_plan refused = refused
text_excludes k tree text plan (Parts error) says sound_plan refused = refuses_not k tree text plan (Parts error) (λ h. cc h) says sound_plan refused
text_excludes k tree text plan (WrongWeight a b c) says sound_plan refused = refuses_not k tree text plan (WrongWeight a b c) (λ h. cc h) says sound_plan refused
text_excludes k tree text plan (Length a b) says sound_plan refused = refuses_not k tree text plan (Length a b) (λ h. cc h) says sound_plan refused
text_excludes k tree text plan (Unsupported a b c d) says sound_plan refused = refuses_not k tree text plan (Unsupported a b c d) (λ h. cc h) says sound_plan refused
text_excludes k tree text plan (Count a b) says sound_plan refused = refuses_not k tree text plan (Count a b) (λ h. cc h) says sound_plan refused

pub excludes : (k : ℕ) (input : List ℕ) (refusal : Refusal) → IsSoundInput k input → IsRefusedInput k input refusal → ⊥
excludes k input (Pyx error) sound_input is = let none : None ≡ Some error = sym (no_fault (before_dot input) sound_input.tree sound_input.reads) ∙ is in cc
excludes k input (TooHeavy path slots) sound_input refused = refused
excludes k input (Bounds error) sound_input (tree, reads, refused) =
    text_excludes k sound_input.tree (after_dot input) sound_input.plan error sound_input.says sound_input.sound
    (subst (λ (t : OrderedTree). IsRefusedText k t (after_dot input) error) (one_reading (before_dot input) tree sound_input.tree reads sound_input.reads) refused)

sound_input : (k : ℕ) (input : List ℕ) (intervals : ℕ) → IsCertifiedInput k input intervals → IsSoundInput k input
sound_input k input intervals certified = record {
  tree = certified.tree;
  reads = certified.reads;
  plan = certified.certified.plan;
  says = certified.certified.says;
  sound = certified.certified.certified.sound;
}

-- an input has one number of intervals that is certified
one_certified : (k : ℕ) (input : List ℕ) (first second : ℕ) → IsCertifiedInput k input first → IsCertifiedInput k input second → first ≡ second
one_certified k input first second c d =
    c.certified.count ∙ ap (λ (p : Plan). length p.parts) (same_plan (lines (after_dot input)) c.certified.plan d.certified.plan c.certified.says d.certified.says) ∙ sym d.certified.count

-- the plan and the reason of a refusal that isn't want of memory and no bad line
abbrev IsRefusedPlan : ℕ → OrderedTree → List ℕ → BoundsError → Type 0
IsRefusedPlan k tree text error = (plan : Plan) × ReadsAs text plan × IsNotCertified k tree plan error

two_plans : {first second : BoundsError} (k : ℕ) (tree : OrderedTree) (text : List ℕ) → first ≢ Memory → second ≢ Memory → IsRefusedPlan k tree text first →
    IsRefusedPlan k tree text second → first ≡ second
two_plans {first = first} {second = second} k tree text some some' (plan, says, refused) (other, says', refused') =
    one_refusal k tree plan first second refused (subst (λ (p : Plan). IsNotCertified k tree p second) (same_plan (lines text) other plan says' says) refused') some some'

-- what a refusal of a text is: a line that is none of a plan, or what a plan lacks
abbrev Sorted : ℕ → OrderedTree → List ℕ → BoundsError → Type 0
Sorted k tree text error = ((line : ℕ) × (error ≡ BadPlanLine line) × (bad_line [] (lines text) ≡ Some line)) ⊎ ((error ≢ Memory) × IsRefusedPlan k tree text error)

sorted : (k : ℕ) (tree : OrderedTree) (text : List ℕ) (error : BoundsError) → IsRefusedText k tree text error → Sorted k tree text error
sorted k tree text (BadPlanLine line) refused = inl (line, refl, refused)
sorted k tree text Memory refused = absurd refused
sorted k tree text (Parts e) refused = inr (λ h. cc h, refused)
sorted k tree text (WrongWeight a b c) refused = inr (λ h. cc h, refused)
sorted k tree text (Length a b) refused = inr (λ h. cc h, refused)
sorted k tree text (Unsupported a b c d) refused = inr (λ h. cc h, refused)
sorted k tree text (Count a b) refused = inr (λ h. cc h, refused)

one_text : (k : ℕ) (tree : OrderedTree) (text : List ℕ) (first second : BoundsError) → Sorted k tree text first → Sorted k tree text second → first ≡ second
one_text k tree text first second (inl (line, is, bad)) (inl (other, is', bad')) =
    let same : Some line ≡ Some other = sym bad ∙ bad' in
    let one : line ≡ other = cc same in
    is ∙ ap (λ (n : ℕ). BadPlanLine n) one ∙ sym is'
one_text k tree text first second (inl (line, is, bad)) (inr (some, (plan, says, refused))) = absurd (let none : None ≡ Some line = sym (sound (lines text) plan says) ∙ bad in cc)
one_text k tree text first second (inr (some, (plan, says, refused))) (inl (line, is, bad)) = absurd (let none : None ≡ Some line = sym (sound (lines text) plan says) ∙ bad in cc)
one_text k tree text first second (inr (some, refused)) (inr (some', refused')) = two_plans k tree text some some' refused refused'

-- an input has one refusal
one_refused : (k : ℕ) (input : List ℕ) (first second : Refusal) → IsRefusedInput k input first → IsRefusedInput k input second → first ≡ second
one_refused k input (Pyx e) (Pyx f) is is' = let same : Some e ≡ Some f = sym is ∙ is' in ap (λ (x : PyxError). Pyx x) (cc same)
one_refused k input (TooHeavy path slots) second refused refused' = absurd refused
one_refused k input (Pyx e) (TooHeavy path slots) is refused = absurd refused
one_refused k input (Bounds e) (TooHeavy path slots) is refused = absurd refused
one_refused k input (Pyx e) (Bounds f) is (tree, reads, refused) = absurd (let none : None ≡ Some e = sym (no_fault (before_dot input) tree reads) ∙ is in cc)
one_refused k input (Bounds e) (Pyx f) (tree, reads, refused) is = absurd (let none : None ≡ Some f = sym (no_fault (before_dot input) tree reads) ∙ is in cc)
one_refused k input (Bounds e) (Bounds f) (tree, reads, refused) (other, reads', refused') =
    let same : IsRefusedText k tree (after_dot input) f =
    subst (λ (t : OrderedTree). IsRefusedText k t (after_dot input) f) (one_reading (before_dot input) other tree reads' reads) refused' in
    ap (λ (x : BoundsError). Bounds x) (one_text k tree (after_dot input) e f (sorted k tree (after_dot input) e refused) (sorted k tree (after_dot input) f same))

shown_stays : (k : ℕ) (taken more : List ℕ) (refusal : Refusal) → (verify k).shows taken (Err refusal) → (verify k).refuses (taken ++ more) refusal
shown_stays k taken more (Pyx error) shows = shows more
shown_stays k taken more (TooHeavy path slots) shows = absurd shows
shown_stays k taken more (Bounds error) shows = absurd shows

pub verify_together : (k : ℕ) → HoldsTogether (verify k)
verify_together k = record {
  stays = shown_stays k;
  one_refusal = one_refused k;
  one_outcome = λ input answer refusal says refused. excludes k input refusal (sound_input k input answer says) refused;
}

pub verify_once : (k : ℕ) → HasOneText (verify k)
verify_once k input first second says says' = ap certified_line (one_certified k input first second says says')

-- What is read of an input:

error_reads : {tree : OrderedTree} {plan taken : List ℕ} (k : ℕ) (error : BoundsError) (old new : Beside) → EndsWhole taken old.input new.input → IsPlanned tree plan taken →
    IsRefusedText k tree plan error → (all : List ℕ) × EndsRefused (verify k) (Bounds error) all old.input new.input
error_reads {tree = tree} {taken = taken} k error old new whole planned refused = (
  taken,
  record {
    takes = whole.takes;
    few = (let few : length taken < most_input = whole.few in omega arith);
    refused = inr (whole.end, whole.few, (tree, planned.reads, subst (λ (t : List ℕ). IsRefusedText k tree t error) planned.behind refused));
  },
)

-- how the reading ended, where this is the verdict
abbrev pub JudgedReads : ℕ → Result ℕ BoundsError → Beside → Beside → Type 0
JudgedReads k (Ok intervals) old new = ReadsTo (verify k) (Ok intervals) old new
JudgedReads k (Err error) old new = StopsBy (verify k) (take_error_of_bounds error) old new

-- the verdict on what was planned is that on the input
pub judged_reads : {tree : OrderedTree} {plan taken : List ℕ} (k : ℕ) (verdict : Result ℕ BoundsError) (old new : Beside) → EndsWhole taken old.input new.input → IsPlanned tree plan taken →
    JudgesText k tree plan verdict → JudgedReads k verdict old new
judged_reads {tree = tree} {taken = taken} k (Ok intervals) old new whole planned judged =
    (taken, whole, record { tree = tree; reads = planned.reads; certified = subst (λ (t : List ℕ). IsCertifiedText k tree t intervals) planned.behind judged })
judged_reads k (Err Memory) old new whole planned judged = tt
judged_reads k (Err (Parts e)) old new whole planned judged = error_reads k (Parts e) old new whole planned judged
judged_reads k (Err (WrongWeight a b c)) old new whole planned judged = error_reads k (WrongWeight a b c) old new whole planned judged
judged_reads k (Err (Length a b)) old new whole planned judged = error_reads k (Length a b) old new whole planned judged
judged_reads k (Err (Unsupported a b c d)) old new whole planned judged = error_reads k (Unsupported a b c d) old new whole planned judged
judged_reads k (Err (Count a b)) old new whole planned judged = error_reads k (Count a b) old new whole planned judged
judged_reads k (Err (BadPlanLine line)) old new whole planned judged = error_reads k (BadPlanLine line) old new whole planned judged
