-- Whole runs, from what was read and what was given.
use Rattle.std.proofs.Common.{◌≡◌, ◌⊎◌, inl, inr, ℕ, ◌+◌, ◌<◌, ◌≤◌, List, [], ◌∷◌, ◌++◌, length, Option, None, Some, IfSome, IsSome, Result, Ok, Err, refl, sym, ap, ◌∙◌, subst, arith, append_assoc, append-nil, length-append}
use Rattle.std.proofs.lemmas.List.{take_all}
use Rattle.nx_host.specs.declared.disk.Disk.{Ghosts}
use Rattle.nx_host.specs.Disk.{Beside, Keeps, Rose}
use Rattle.nx_host.specs.Host.{Takes, IsAtEnd, Appends, AppendsPrefix}
use Rattle.nx_host.specs.Input.{most_input}
use Rattle.nx_host.specs.Phase.{TakesAlone, GivesAlone, TalksAlone}
use Rattle.nx_host.proofs.DiskLemmas.{told_same}
use Rattle.nx_host.proofs.OutputLemmas.{appends_nothing, appends_then, prefix_more, prefix_then, keeps_prefix}
use Rattle.nx_host.proofs.PhaseLemmas.{takes_talks, left_then}
use Rattle.nx_filters.specs.declared.status.Status.{Status}
use Rattle.nx_filters.specs.declared.status.Status.TheVariants.{Done, Usage, Refused, DiskFault, ReadFault, WriteFault, NoMemory, NotAStore, Damaged, TooMuch}
use Rattle.nx_filters.specs.declared.take_error.TakeError.{TakeError}
use Rattle.nx_filters.specs.declared.take_error.TakeError.TheVariants as take_error
use Rattle.nx_filters.specs.declared.give.GiveError.{GiveError}
use Rattle.nx_filters.specs.declared.give.GiveError.TheVariants as give_error
use Rattle.nx_filters.specs.declared.refusal.Refusal.{Refusal}
use Rattle.nx_filters.specs.Refusal.{refusal_line}
use Rattle.nx_filters.specs.Outcome.{Meaning, TakesFew, EndsWhole, EndsRefused, StopsBy, ReadsTo, Gives, FailsGiving, Given, status_after, line_after, EndsAfter, outcome_output, HasToldOutcome, Ends, RunsBeside, IsUndisturbed, Completes, HoldsTogether}

-- a count that has risen since a later moment has risen since an earlier one
pub rose_since : (a b c : ℕ) → a ≤ b → Rose b c → Rose a c
rose_since a b c earlier rose = omega (arith, rose, earlier)

-- what is told now was told
pub told_at_first : {T : Type 0} (a b : Option T) → Keeps a b → IsSome b → IsSome a
told_at_first {T = T} a b kept told = subst (λ (o : Option T). IsSome o) (told_same a b kept told) told

-- an output that stays has grown by nothing
pub kept_appends : (a b : Option (List ℕ)) → Keeps a b → Appends [] a b
kept_appends a None kept = tt
kept_appends a (Some was) kept = (was, kept, sym (append-nil was))

-- What was given:

pub gives_appends : (bytes : List ℕ) (old new : Option (List ℕ)) → Gives bytes old new → Appends bytes old new
gives_appends [] old new same = subst (λ (o : Option (List ℕ)). Appends [] old o) (sym same) (appends_nothing old)
gives_appends (b ∷ bytes) old new gives = gives

-- bytes more
pub gives_more : (x y : List ℕ) (a b c : Option (List ℕ)) → Gives x a b → Gives y b c → Gives (x ++ y) a c
gives_more [] y a b c first second = subst (λ (o : Option (List ℕ)). Gives y o c) first second
gives_more (x ∷ xs) [] a b c first second =
    subst (λ (o : Option (List ℕ)). Gives ((x ∷ xs) ++ []) a o) (sym second) (subst (λ (t : List ℕ). Gives t a b) (sym (append-nil (x ∷ xs))) first)
gives_more (x ∷ xs) (y ∷ ys) a b c first second = appends_then (x ∷ xs) (y ∷ ys) a b c first second

-- all bytes are a prefix of them
pub gives_all_prefix : (bytes : List ℕ) (old new : Option (List ℕ)) → Gives bytes old new → AppendsPrefix bytes old new
gives_all_prefix bytes old new gives = prefix (new) (gives_appends bytes old new gives)
  where
    prefix : (now : Option (List ℕ)) → Appends bytes old now → AppendsPrefix bytes old now
    prefix None appends = tt
    prefix (Some now) (was, is, grew) = (was, length bytes, is, grew ∙ ap (λ (t : List ℕ). was ++ t) (sym (take_all (length bytes) bytes (omega arith))))

-- bytes that weren't all given are a prefix
pub fails_prefix : (bytes : List ℕ) (old new : Beside) → FailsGiving bytes old new → AppendsPrefix bytes old.output new.output
fails_prefix bytes old new fails =
    subst (λ (t : List ℕ). AppendsPrefix t old.output new.output) fails.parts (prefix_then fails.done fails.others old.output fails.middle new.output fails.appends fails.prefix)

-- they weren't behind others that were
pub fails_then : (x y : List ℕ) (a b c : Beside) → a.out_faults ≤ b.out_faults → Appends x a.output b.output → FailsGiving y b c → FailsGiving (x ++ y) a c
fails_then x y a b c earlier appends fails = record {
  rose = rose_since a.out_faults b.out_faults c.out_faults earlier fails.rose;
  done = x ++ fails.done;
  others = fails.others;
  parts = append_assoc x fails.done fails.others ∙ ap (λ (t : List ℕ). x ++ t) fails.parts;
  some = fails.some;
  middle = fails.middle;
  appends = appends_then x fails.done a.output b.output fails.middle appends fails.appends;
  prefix = fails.prefix;
}

-- nor are more bytes
pub fails_more : (bytes more : List ℕ) (old new : Beside) → FailsGiving bytes old new → FailsGiving (bytes ++ more) old new
fails_more bytes more old new fails = record {
  rose = fails.rose;
  done = fails.done;
  others = fails.others ++ more;
  parts = sym (append_assoc fails.done fails.others more) ∙ ap (λ (t : List ℕ). t ++ more) fails.parts;
  some = let long : length (fails.others ++ more) ≡ length fails.others + length more = length-append fails.others more in let here : 0 < length fails.others = fails.some in omega arith;
  middle = fails.middle;
  appends = fails.appends;
  prefix = prefix_more fails.others more fails.middle new.output fails.prefix;
}

-- however the giving ended, a prefix was given
pub given_prefix : (bytes : List ℕ) (given : Result (Unit {0}) GiveError) (old new : Beside) → Given bytes given old new → AppendsPrefix bytes old.output new.output
given_prefix bytes (Ok _) old new gave = gives_all_prefix bytes old.output new.output gave
given_prefix bytes (Err give_error.WriteFault) old new gave = fails_prefix bytes old new gave
given_prefix bytes (Err give_error.NoMemory) old new gave = gave

-- Bytes were given, and the count of faults didn't fall.
pub record HasGone (bytes : List ℕ) (old new : Beside) : Type 0 where
  pub later : old.out_faults ≤ new.out_faults
  pub gives : Gives bytes old.output new.output

-- the same behind bytes that were given
pub given_then : {x : List ℕ} {a b : Beside} (y : List ℕ) (given : Result (Unit {0}) GiveError) (c : Beside) → HasGone x a b → Given y given b c → Given (x ++ y) given a c
given_then {x = x} {a = a} {b = b} y (Ok _) c gone gave = gives_more x y a.output b.output c.output gone.gives gave
given_then {x = x} {a = a} {b = b} y (Err give_error.WriteFault) c gone gave = fails_then x y a b c gone.later (gives_appends x a.output b.output gone.gives) gave
given_then {x = x} {a = a} {b = b} y (Err give_error.NoMemory) c gone gave = prefix_then x y a.output b.output c.output (gives_appends x a.output b.output gone.gives) gave

-- where it stopped, of more bytes
pub given_more : (x y : List ℕ) (stop : GiveError) (a b : Beside) → Given x (Err stop) a b → Given (x ++ y) (Err stop) a b
given_more x y give_error.WriteFault a b gave = fails_more x y a b gave
given_more x y give_error.NoMemory a b gave = prefix_more x y a.output b.output gave

-- What was taken:

-- all that was taken of an input that is told to the end is that input
pub whole_is : (input taken : List ℕ) (old new : Option (List ℕ)) → old ≡ Some input → IsSome new → EndsWhole taken old new → input ≡ taken
whole_is input taken old None told still whole = cc still
whole_is input taken old (Some left) told still whole =
    let same : Some input ≡ Some (taken ++ left) = sym told ∙ whole.takes in
    let is : input ≡ taken ++ left = cc same in
    is ∙ ap (λ (l : List ℕ). taken ++ l) whole.end ∙ append-nil taken

-- the bytes that were taken of an input that is told to the end
pub taken_of : (input taken : List ℕ) (old new : Option (List ℕ)) → old ≡ Some input → IsSome new → Takes taken old new → (left : List ℕ) × (new ≡ Some left) × (input ≡ taken ++ left)
taken_of input taken old None told still takes = cc still
taken_of input taken old (Some left) told still takes = (left, refl, let same : Some input ≡ Some (taken ++ left) = sym told ∙ takes in cc same)

-- fewer bytes than a run takes aren't as many
pub not_too_much : (input taken : List ℕ) (old new : Option (List ℕ)) → old ≡ Some input → IsSome new → length input < most_input → length taken ≡ most_input → Takes taken old new → ⊥
not_too_much input taken old new told still few long takes =
    let (left, now, is) = taken_of input taken old new told still takes in
    let all : length input ≡ length taken + length left = ap length is ∙ length-append taken left in
    let short : length input < most_input = few in
    let full : length taken ≡ most_input = long in
    omega arith

-- what an input says of which all was taken
pub told_answer : (m : Meaning) (answer : m.Answer) (taken : List ℕ) (old new : Option (List ℕ)) → EndsWhole taken old new → m.says taken answer → HasToldOutcome m (Some (Ok answer)) old new
told_answer m answer taken old None whole says = tt
told_answer m answer taken old (Some left) whole says =
    let is : old ≡ Some taken = whole.takes ∙ ap (λ (l : List ℕ). Some (taken ++ l)) whole.end ∙ ap (λ (l : List ℕ). Some l) (append-nil taken) in
    subst (λ (o : Option (List ℕ)). IfSome o (λ input. m.says input answer)) (sym is) says

-- the refusal of the bytes that were taken is that of all bytes
refuses_all : (m : Meaning) → HoldsTogether m → (refusal : Refusal) (taken left : List ℕ) →
    m.shows taken (Err refusal) ⊎ ((left ≡ []) × (length taken < most_input) × m.refuses taken refusal) → m.refuses (taken ++ left) refusal
refuses_all m together refusal taken left (inl shown) = together.stays taken left refusal shown
refuses_all m together refusal taken left (inr (none, few, refused)) =
    subst (λ (l : List ℕ). m.refuses l refusal) (sym (append-nil taken) ∙ ap (λ (l : List ℕ). taken ++ l) (sym none)) refused

told_refusal : (m : Meaning) → HoldsTogether m → (refusal : Refusal) (taken : List ℕ) (old new : Option (List ℕ)) → EndsRefused m refusal taken old new →
    HasToldOutcome m (Some (Err refusal)) old new
told_refusal m together refusal taken old None ends = tt
told_refusal m together refusal taken old (Some left) ends =
    subst (λ (o : Option (List ℕ)). IfSome o (λ input. m.refuses input refusal)) (sym ends.takes) (refuses_all m together refusal taken left ends.refused)

-- where no outcome is known
pub told_nothing : (m : Meaning) (old new : Option (List ℕ)) → HasToldOutcome m None old new
told_nothing m old None = tt
told_nothing m None (Some left) = tt
told_nothing m (Some input) (Some left) = tt

-- What an undisturbed run ends with:

pub completes : {m : Meaning} → HoldsTogether m → (outcome : Option (Result m.Answer Refusal)) (status : Status) (input : List ℕ) (old new : Beside) →
    Ends m outcome status old new → IsUndisturbed input old new → Completes m input status
completes {m = m} together outcome Done input old new (answer, taken, is, whole, says, gives) calm =
    let here : m.says input answer = subst (λ (l : List ℕ). m.says l answer) (sym (whole_is input taken old.input new.input calm.told calm.still_told whole)) says in
    ((answer, here), λ refusal refused. together.one_outcome input answer refusal here refused)
completes {m = m} together outcome Refused input old new (refusal, taken, is, ends, gives) calm =
    let (left, now, all) = taken_of input taken old.input new.input calm.told calm.still_told ends.takes in
    let here : m.refuses input refusal = subst (λ (l : List ℕ). m.refuses l refusal) (sym all)
    (refuses_all m together refusal taken left (subst (λ (o : Option (List ℕ)). m.shows taken (Err refusal) ⊎ (IsAtEnd o × (length taken < most_input) × m.refuses taken refusal)) now ends.refused)) in
    ((refusal, here), λ answer says. together.one_outcome input answer refusal says here)
completes {m = m} together outcome ReadFault input old new ends calm = calm.read ends.0
completes {m = m} together outcome WriteFault input old new (due, taken, is_due, fails) calm = calm.written fails.rose
completes {m = m} together outcome TooMuch input old new (shown, taken, long, ends, gives) calm =
    not_too_much input taken old.input new.input calm.told calm.still_told calm.few long ends.takes
completes {m = m} together outcome NoMemory input old new ends calm = tt
completes {m = m} together outcome Usage input old new ends calm = ends
completes {m = m} together outcome DiskFault input old new ends calm = ends
completes {m = m} together outcome NotAStore input old new ends calm = ends
completes {m = m} together outcome (Damaged page) input old new ends calm = ends

-- A run that reads its whole input before it gives anything:

few_then : (first was now : Option (List ℕ)) → TakesFew first was → now ≡ was → TakesFew first now
few_then first was now few same = subst (λ (i : Option (List ℕ)). TakesFew first i) (sym same) few

pub keeps_of : (x y : Option (List ℕ)) → y ≡ x → Keeps x y
keeps_of x None same = tt
keeps_of x (Some now) same = sym same

module _ {D : Type 0} {d : Ghosts D} where
  -- what was taken, and then bytes that are given
  takes_gives : {a b c : D} (bytes : List ℕ) → TakesAlone d a b → GivesAlone d bytes b c → TalksAlone d bytes a c
  takes_gives bytes took gave =
      left_then (takes_talks bytes took) gave.areas (λ output h. subst (λ (o : Option (List ℕ)). AppendsPrefix bytes o output) took.output_stays h)

  prefix_after : {a b : D} (c : D) (bytes : List ℕ) (given : Result (Unit {0}) GiveError) → TakesAlone d a b → Given bytes given (d.beside b) (d.beside c) →
      AppendsPrefix bytes (d.beside a).output (d.beside c).output
  prefix_after {b = b} c bytes given took gave =
      subst (λ (o : Option (List ℕ)). AppendsPrefix bytes o (d.beside c).output) took.output_stays (given_prefix bytes given (d.beside b) (d.beside c) gave)

  -- nothing was given before
  fails_after : {a b : D} (c : D) (bytes : List ℕ) → TakesAlone d a b → FailsGiving bytes (d.beside b) (d.beside c) → FailsGiving bytes (d.beside a) (d.beside c)
  fails_after {a = a} {b = b} c bytes took fails =
      fails_then [] bytes (d.beside a) (d.beside b) (d.beside c) took.areas.out_faults_later (gives_appends [] (d.beside a).output (d.beside b).output took.output_stays) fails

  -- the answer was read, and its text given
  answer_ends : (m : Meaning) {a b : D} (c : D) (answer : m.Answer) (given : Result (Unit {0}) GiveError) →
      (taken : List ℕ) × EndsWhole taken (d.beside a).input (d.beside c).input × m.says taken answer → TakesAlone d a b → Given (m.text_of answer) given (d.beside b) (d.beside c) →
      Ends m (Some (Ok answer)) (status_after Done given) (d.beside a) (d.beside c)
  answer_ends m c answer (Ok _) (taken, whole, says) took gave =
      (answer, taken, refl, whole, says, subst (λ (o : Option (List ℕ)). Gives (m.text_of answer) o (d.beside c).output) took.output_stays gave)
  answer_ends m c answer (Err give_error.WriteFault) (taken, whole, says) took gave =
      (m.text_of answer, taken, inl (answer, whole, says, refl), fails_after c (m.text_of answer) took gave)
  answer_ends m c answer (Err give_error.NoMemory) (taken, whole, says) took gave = tt

  -- it was refused, and the line was given that says so
  refusal_ends : (m : Meaning) {a b : D} (c : D) (refusal : Refusal) (taken : List ℕ) (given : Result (Unit {0}) GiveError) →
      EndsRefused m refusal taken (d.beside a).input (d.beside c).input → TakesAlone d a b → Given (refusal_line refusal) given (d.beside b) (d.beside c) →
      Ends m (Some (Err refusal)) (status_after Refused given) (d.beside a) (d.beside c)
  refusal_ends m c refusal taken (Ok _) ends took gave =
      (refusal, taken, refl, ends, subst (λ (o : Option (List ℕ)). Gives (refusal_line refusal) o (d.beside c).output) took.output_stays gave)
  refusal_ends m c refusal taken (Err give_error.WriteFault) ends took gave =
      (refusal_line refusal, taken, inr (inl (refusal, ends, refl)), fails_after c (refusal_line refusal) took gave)
  refusal_ends m c refusal taken (Err give_error.NoMemory) ends took gave = tt

  module _ {m : Meaning} where
    -- a run by what it left and what it gave
    pub runs_by : {a b : D} (outcome : Option (Result m.Answer Refusal)) (status : Status) → HasToldOutcome m outcome (d.beside a).input (d.beside b).input →
        Ends m outcome status (d.beside a) (d.beside b) → AppendsPrefix (outcome_output m outcome) (d.beside a).output (d.beside b).output →
        TakesFew (d.beside a).input (d.beside b).input → TalksAlone d (outcome_output m outcome) a b → RunsBeside d m status a b
    runs_by outcome status told ends prefix few talks = record {
      run = record {
        outcome = outcome;
        told = told;
        ends = ends;
        prefix = prefix;
        time = talks.time;
        bounded = few;
        counts = record { read = talks.in_faults_later; written = talks.out_faults_later };
      };
      disk = record { contents_stay = talks.contents_stay; images_stay = talks.images_stay; faults_stay = talks.faults_stay; reads_stay = talks.reads_stay };
    }

    pub runs_answer : {a b c : D} (answer : m.Answer) (given : Result (Unit {0}) GiveError) → ReadsTo m (Ok answer) (d.beside a) (d.beside b) →
        TakesFew (d.beside a).input (d.beside b).input → TakesAlone d a b → Given (m.text_of answer) given (d.beside b) (d.beside c) → GivesAlone d (m.text_of answer) b c →
        RunsBeside d m (status_after Done given) a c
    runs_answer {a = a} {b = b} {c = c} answer given (taken, whole, says) few took gave gives =
        let ends : EndsWhole taken (d.beside a).input (d.beside c).input = subst (λ (i : Option (List ℕ)). EndsWhole taken (d.beside a).input i) (sym gives.input_stays) whole in
        runs_by (Some (Ok answer)) (status_after Done given) (told_answer m answer taken (d.beside a).input (d.beside c).input ends says)
        (answer_ends m c answer given (taken, ends, says) took gave) (prefix_after c (m.text_of answer) given took gave)
        (few_then (d.beside a).input (d.beside b).input (d.beside c).input few gives.input_stays) (takes_gives (m.text_of answer) took gives)

    -- nothing was given
    runs_nothing : {a b c : D} (status : Status) → TakesFew (d.beside a).input (d.beside b).input → TakesAlone d a b → GivesAlone d [] b c → d.beside c ≡ d.beside b →
        Ends m None status (d.beside a) (d.beside b) → RunsBeside d m status a c
    runs_nothing {a = a} {b = b} {c = c} status few took gives same ends =
        let Prefix : Beside → Type 0 = λ x. AppendsPrefix [] (d.beside a).output x.output in
        runs_by None status (told_nothing m (d.beside a).input (d.beside c).input) (subst (λ (x : Beside). Ends m None status (d.beside a) x) (sym same) ends)
        (subst Prefix (sym same) (keeps_prefix [] (d.beside a).output (d.beside b).output (keeps_of (d.beside a).output (d.beside b).output took.output_stays)))
        (few_then (d.beside a).input (d.beside b).input (d.beside c).input few gives.input_stays) (takes_gives [] took gives)

    pub runs_stopped : {a b c : D} (stopped : TakeError) (status : Status) → HoldsTogether m → StopsBy m stopped (d.beside a) (d.beside b) →
        TakesFew (d.beside a).input (d.beside b).input → TakesAlone d a b → EndsAfter stopped status (d.beside b) (d.beside c) → GivesAlone d (line_after stopped) b c →
        RunsBeside d m status a c
    runs_stopped {a = a} {b = b} {c = c} (take_error.Refused refusal) status together (taken, stops) few took (given, is, gave) gives =
        let ends : EndsRefused m refusal taken (d.beside a).input (d.beside c).input =
        subst (λ (i : Option (List ℕ)). EndsRefused m refusal taken (d.beside a).input i) (sym gives.input_stays) stops
        in
        subst (λ (s : Status). RunsBeside d m s a c) (sym is)
        (runs_by (Some (Err refusal)) (status_after Refused given) (told_refusal m together refusal taken (d.beside a).input (d.beside c).input ends)
        (refusal_ends m c refusal taken given ends took gave) (prefix_after c (refusal_line refusal) given took gave)
        (few_then (d.beside a).input (d.beside b).input (d.beside c).input few gives.input_stays) (takes_gives (refusal_line refusal) took gives))
    runs_stopped {a = a} {c = c} take_error.ReadFault status together (rose, taken, short, early) few took (is, same) gives =
        subst (λ (s : Status). RunsBeside d m s a c) (sym is) (runs_nothing ReadFault few took gives same (rose, [], taken, short, early, took.output_stays))
    runs_stopped {a = a} {c = c} take_error.TooMuch status together (taken, long, early) few took (is, same) gives =
        subst (λ (s : Status). RunsBeside d m s a c) (sym is) (runs_nothing TooMuch few took gives same ([], taken, long, early, took.output_stays))
    runs_stopped {a = a} {c = c} take_error.NoMemory status together stops few took (is, same) gives =
        subst (λ (s : Status). RunsBeside d m s a c) (sym is) (runs_nothing NoMemory few took gives same tt)
