-- A run of questions over a store: lines that came, what is answered of them, and how it ends.
use Rattle.std.proofs.Common.{◌≡◌, ◌⊎◌, inl, inr, ⊎_elim, ℕ, suc, ◌+◌, ◌<◌, ◌≤◌, true, false, List, [], ◌∷◌, ◌++◌, length, take, drop, map, Option, None, Some, Ok, Err, refl, sym, ap, ap₂, ◌∙◌, subst, arith, append_assoc, append-nil}
use Rattle.std.specs.Prelude.{IsSome, Contains, codes, get_or}
use Rattle.std.specs.List.{flat_map}
use Rattle.std.proofs.Math.Seq.{drop-cons}
use Rattle.std.proofs.lemmas.Bool.{cases_Bool, MatchBool-at_true, false≢true}
use Rattle.std.proofs.lemmas.List.{map-append, take-append-drop, drop_all, get_or_default}
use Rattle.std.proofs.lemmas.List.Elements.{Contains-append_left, Contains-append_right, Contains-append_cases, Contains-push}
use Rattle.nx_host.specs.declared.disk.Disk.{Ghosts}
use Rattle.nx_host.specs.Disk.{Image, Beside, Keeps, Rose}
use Rattle.nx_host.specs.Host.{Takes, Appends, AppendsPrefix}
use Rattle.nx_host.specs.Phase.{LeavesAreas, TakesAlone, GivesAlone}
use Rattle.nx_host.specs.Input.{most_input, HasTaken}
use Rattle.nx_host.specs.Still.{IsStill, IsSettled}
use Rattle.nx_host.specs.Time.{Stood, elapsed_then, elapsed_weaker, none_elapsed}
use Rattle.nx_host.proofs.DiskLemmas.{keeps_self, none_still, settled_still, untold}
use Rattle.nx_host.proofs.OutputLemmas.{takes_nothing, appends_then, prefix_then}
use Rattle.nx_records.specs.Words.{Held}
use Rattle.nx_records.specs.Records.{HasHeader}
use Rattle.nx_pyx.specs.Lines.{cut, ended_lines, lines as lines_of}
use Rattle.nx_pyx.proofs.ShownFaultLemmas.{lines-append}
use Rattle.nx_script.specs.declared.script.Script.{Script}
use Rattle.nx_script.specs.declared.whole.Line.{Line}
use Rattle.nx_script.specs.Script.{unread}
use Rattle.nx_script.specs.Whole.{as_line, AreLines, HasCutIn, EndsCut, StopsCutting}
use Rattle.nx_script.specs.declared.error.ScriptError.{ScriptError}
use Rattle.nx_script.specs.declared.error.ScriptError.TheVariants as scripts
use Rattle.nx_script.proofs.CutLemmas.{HasSeen, looked}
use Rattle.nx_layouts.specs.Layout.{AreOnce}
use Rattle.nx_state.specs.State.{State}
use Rattle.nx_reach.specs.declared.step.Step.{Step}
use Rattle.nx_find.specs.declared.names.Names.{Names}
use Rattle.nx_state.specs.Stands.{Recovers}
use Rattle.nx_store.specs.declared.store.Store.{Store}
use Rattle.nx_store.specs.declared.error.EngineError.{EngineError}
use Rattle.nx_store.specs.Store.{IsAt, NotOpened}
use Rattle.nx_store.specs.Reads.{opening_reads, ReadsOpening}
use Rattle.nx_store.proofs.AtLemmas.{at_beside}
use Rattle.nx_filters.specs.declared.status.Status.{Status}
use Rattle.nx_filters.specs.declared.status.Status.TheVariants.{Done, Usage, Refused, DiskFault, ReadFault, WriteFault, NoMemory, NotAStore, Damaged, TooMuch}
use Rattle.nx_filters.proofs.OutcomeLemmas.{kept_appends, gives_appends, rose_since}
use Rattle.nx_filters.specs.Outcome.{Given, TakesFew, EndsWhole}
use Rattle.nx_front.specs.Serving.{BeginsWith, IsCaused}
use Rattle.nx_front.specs.Conversation.{StopsShort, IsUnanswered, IsEnded, status_of_engine}
use Rattle.nx_front.specs.declared.gathered.Gathered.{Gathered}
use Rattle.nx_front.specs.Gathered.{labels_in, KnowsLabels}
use Rattle.nx_front.specs.declared.find.Answer.{Answer}
use Rattle.nx_front.specs.Finding.{AsksFor, IsAskedBy, IsReply, AreReplies, ReadForNames, ReadForLine, ReadForLines, AreFirstLines, EndsFinding, ShowsPart, FindsFrom, ReadsQuestions, Finds, found_line, found_text}
use Rattle.nx_front.specs.Questions.{answer_text, ReadsLine, LooksUp, LooksUpOf, StopsLooking, LeavesImages, HasFound, IsFinding, FindsAll}
use Rattle.nx_filters.specs.declared.give.GiveError.{GiveError}
use Rattle.nx_filters.specs.TakeError.{status_of_script, status_of_give_error}
use Rattle.nx_store.proofs.FoundLemmas.{same_some}
use Rattle.nx_front.proofs.ServeLemmas.{stops_giving, block_stopped}
use Rattle.nx_front.proofs.ConversationLemmas.{appends_after, whole_after, opened_held, stopped_ends, takes_kept, end_kept, none_goes, goes_then, leaves_goes, still_goes, takes_after, few_nothing, counts_still, unopened_short, unopened_cause, unopened_header}

-- The first lines of the input:

lines_ahead : (seen unread left : List ℕ) (taken : List ℕ) (told : List Line) → taken ≡ seen ++ unread → told ≡ map as_line (ended_lines seen) →
    told ++ map as_line (lines_of ((cut seen).rest ++ (unread ++ left))) ≡ map as_line (lines_of (taken ++ left))
lines_ahead seen unread left taken told parts gives =
    ap (λ (ls : List Line). ls ++ map as_line (lines_of ((cut seen).rest ++ (unread ++ left)))) gives
    ∙ sym (map-append as_line (ended_lines seen) (lines_of ((cut seen).rest ++ (unread ++ left))))
    ∙ ap (map as_line) (sym (lines-append seen (unread ++ left)))
    ∙ ap (λ (l : List ℕ). map as_line (lines_of l)) (sym (append_assoc seen unread left) ∙ ap (λ (l : List ℕ). l ++ left) (sym parts))

-- the lines that a script gave are the first ones
pub first_lines : (script : Script) (taken : List ℕ) (told : List Line) (first now : Option (List ℕ)) → HasCutIn script taken told first now → AreFirstLines taken told now
first_lines script taken told first None cuts = tt
first_lines script taken told first (Some left) cuts =
    ⊎_elim
    (λ (finished : script.finished ≡ true).
    let end : left ≡ [] = (cuts.end (cuts.given.ended finished)).0 in
    let all : AreLines taken told = MatchBool-at_true (AreLines taken told) (HasSeen script taken told) finished cuts.given.given in (
      [],
      subst (λ (l : List ℕ). AreLines (taken ++ l) (told ++ [])) (sym end) (append-nil told ∙ all ∙ ap (λ (l : List ℕ). map as_line (lines_of l)) (sym (append-nil taken))),
    ))
    (λ (unfinished : script.finished ≡ false).
    let (seen, parts, held) = looked script taken told unfinished cuts.given in
    (map as_line (lines_of ((cut seen).rest ++ (unread script ++ left))), lines_ahead seen (unread script) left taken told parts held.gives))
    (cases_Bool script.finished)

none_there : {A : Type 0} (x : A) → Contains [] x → ⊥
none_there x h = let low : h.0 < 0 = h.1 in omega (arith, low)

pub keeps_same : {T : Type 0} (old new : Option T) → new ≡ old → Keeps old new
keeps_same old None same = tt
keeps_same old (Some now) same = sym same

keeps_then : {T : Type 0} (a b c : Option T) → Keeps a b → Keeps b c → Keeps a c
keeps_then a b None first second = tt
keeps_then a b (Some now) first second = subst (λ o. Keeps a o) second first

-- lines of which none was given
first_of_none : (now : Option (List ℕ)) → AreFirstLines [] [] now
first_of_none None = tt
first_of_none (Some left) = (map as_line (lines_of left), refl)

-- a run ends so that stops short, whatever it answered
pub ends_short : (status : Status) (told : List Line) (text taken : List ℕ) (a b : Beside) → StopsShort status → EndsFinding told text taken status a b
ends_short DiskFault told text taken a b short = tt
ends_short WriteFault told text taken a b short = tt
ends_short NoMemory told text taken a b short = tt
ends_short Done told text taken a b short = absurd short
ends_short Usage told text taken a b short = absurd short
ends_short Refused told text taken a b short = absurd short
ends_short ReadFault told text taken a b short = absurd short
ends_short NotAStore told text taken a b short = absurd short
ends_short (Damaged page) told text taken a b short = absurd short
ends_short TooMuch told text taken a b short = absurd short

module _ {D : Type 0} {d : Ghosts D} where
  -- Nothing was taken, and the disk was asked alone:

  pub finds_nothing : {state : State} {a b : D} (status : Status) → IsStill d a b → StopsShort status → FindsFrom d state status a b
  finds_nothing {a = a} {b = b} status still short = record {
    taken = [];
    takes = takes_after [] (d.beside a).input (d.beside b).input (d.beside b).input still.beside_stays.input (takes_nothing (d.beside b).input);
    lines = [];
    first = first_of_none (d.beside b).input;
    text = [];
    replies = refl;
    time = elapsed_weaker still.time (λ s h. ([], ([], refl), kept_appends (d.beside a).output s.output h.0));
    ends = ends_short status [] [] [] (d.beside a) (d.beside b) short;
  }

  pub asks_nothing : {held : Held} {state : State} {a b : D} (pages : ℕ) → Keeps (d.beside a).input (d.beside b).input → d.reads b ≤ d.reads a + pages → ReadsQuestions d pages held state a b
  asks_nothing {a = a} {b = b} pages kept few = record {
    taken = [];
    takes = takes_after [] (d.beside a).input (d.beside b).input (d.beside b).input kept (takes_nothing (d.beside b).input);
    lines = [];
    first = first_of_none (d.beside b).input;
    names = [];
    once = tt;
    asked = λ name there. absurd (none_there name there);
    sought = [];
    among = ([], refl);
    for_names = 0;
    of_names = refl;
    for_lines = 0;
    of_lines = refl;
    few = omega (arith, few);
  }

module _ {D : Type 0} (d : Ghosts D) (a b : D) where
  -- A store wasn't opened:

  pub finds_unopened : (e : EngineError) → IsStill d a b → NotOpened d e a b → ((was : Image) → IsSettled d a was → ReadsOpening was (d.reads a) (d.reads b)) → Finds d (status_of_engine e) a b
  finds_unopened e still why opening = record {
    from = λ was state settled told recovers. finds_nothing (status_of_engine e) still (unopened_short d a b was state e why settled recovers);
    cause = unopened_cause d a b e why;
    no_header = λ was settled none. (unopened_header d a b was e why settled none, still);
    contents_stay = keeps_same (d.contents a) (d.contents b) still.contents_stay;
    images_stay = still.images_stay;
    time = elapsed_weaker still.time (λ s h. h.1);
    reads = λ was held state settled told holds is. asks_nothing (opening_reads was held.catalog.bytes) still.beside_stays.input ((opening was settled).sound held holds);
    unopened_reads = λ was settled none. (opening was settled).no_header none;
    bounded = few_nothing (d.beside a).input (d.beside b).input still.beside_stays.input;
    counts = counts_still still;
    faults_later = still.faults_later;
  }

-- Sums of what is read:

pub names_more : (held : Held) (state : State) (names more : List (List ℕ)) (pages others : ℕ) → ReadForNames held state names pages → ReadForNames held state more others →
    ReadForNames held state (names ++ more) (pages + others)
names_more held state [] more pages others none are = subst (λ (n : ℕ). ReadForNames held state more n) (let e : others ≡ pages + others = omega (arith, none) in e) are
names_more held state (name ∷ names) more pages others (own, rest, of_it, of_rest, sum) are =
    (own, rest + others, of_it, names_more held state names more rest others of_rest are, (let e : pages + others ≡ own + (rest + others) = omega (arith, sum) in e))

pub lines_more : (held : Held) (state : State) (told : List Line) (line : Line) (pages own : ℕ) → ReadForLines held state told pages → ReadForLine held state line own →
    ReadForLines held state (told ++ line ∷ []) (pages + own)
lines_more held state [] line pages own none of_it = (own, 0, of_it, refl, (let e : pages + own ≡ own + 0 = omega (arith, none) in e))
lines_more held state (first ∷ told) line pages own (one, rest, of_first, of_rest, sum) of_it =
    (one, rest + own, of_first, lines_more held state told line rest own of_rest of_it, (let e : pages + own ≡ one + (rest + own) = omega (arith, sum) in e))

-- The lines for paths:

-- the line for the next one, and the others
found_next : (paths : List (List ℕ)) (i : ℕ) (path : List ℕ) → i < length paths → path ≡ get_or paths i path → found_text (drop i paths) ≡ found_line path ++ found_text (drop (i + 1) paths)
found_next paths i path within is =
    let number : suc i ≡ i + 1 = omega arith in
    ap found_text (drop-cons paths i path within ∙ ap₂ (λ (p : List ℕ) (j : ℕ). p ∷ drop j paths) (sym is) number) ∙ append_assoc (found_line path) (flat_map found_line (drop (i + 1) paths)) (codes ".\n")

-- a path by its number
pub path_at : (paths : List (List ℕ)) (i : ℕ) {path : List ℕ} → path ≡ get_or paths i [] → i < length paths → path ≡ get_or paths i path
path_at paths i {path} is within = is ∙ get_or_default paths i [] path within

pub found_filled : (paths : List (List ℕ)) (i : ℕ) (path block filled : List ℕ) → i < length paths → path ≡ get_or paths i path → filled ≡ block ++ found_line path →
    block ++ found_text (drop i paths) ≡ filled ++ found_text (drop (i + 1) paths)
found_filled paths i path block filled within is added =
    ap (λ (l : List ℕ). block ++ l) (found_next paths i path within is) ∙ sym (append_assoc block (found_line path) (found_text (drop (i + 1) paths)))
    ∙ ap (λ (l : List ℕ). l ++ found_text (drop (i + 1) paths)) (sym added)

-- no path is left
pub found_last : (paths : List (List ℕ)) (i : ℕ) (block filled : List ℕ) → length paths ≤ i → filled ≡ block ++ codes ".\n" → block ++ found_text (drop i paths) ≡ filled
found_last paths i block filled over added = ap (λ (ps : List (List ℕ)). block ++ found_text ps) (drop_all i paths over) ∙ sym added

-- Replies, and parts of their text:

pub replies_more : (state : State) (told : List Line) (line : Line) (text more : List ℕ) → AreReplies state told text → IsReply state line more → AreReplies state (told ++ line ∷ []) (text ++ more)
replies_more state [] line text more none is = (more, [], is, refl, ap (λ (l : List ℕ). l ++ more) none ∙ sym (append-nil more))
replies_more state (first ∷ told) line text more (one, rest, is_first, are, parts) is =
    (one, rest ++ more, is_first, replies_more state told line rest more are is, ap (λ (l : List ℕ). l ++ more) parts ∙ append_assoc one rest more)

-- a part of a text is one of a longer text
pub part_longer : (output : Option (List ℕ)) (text more : List ℕ) (s : Stood) → ShowsPart output text s → ShowsPart output (text ++ more) s
part_longer output text more s (out, (rest, is), gave) = (out, (rest ++ more, ap (λ (l : List ℕ). l ++ more) is ∙ append_assoc out rest more), gave)

-- what is out is a part where a prefix of the text is
part_of : (output now : Option (List ℕ)) (text : List ℕ) → AppendsPrefix text output now → (out : List ℕ) × BeginsWith out text × Appends out output now
part_of output None text gave = ([], (text, refl), tt)
part_of output (Some now) text (was, n, before, after) = (take n text, (drop n text, sym (take-append-drop n text)), (was, before, after))

-- ... behind what was out before
pub part_behind : (first now : Option (List ℕ)) (text more : List ℕ) (s : Stood) → Appends text first now → AppendsPrefix more now s.output → ShowsPart first (text ++ more) s
part_behind first now text more s gave prefix = part_of first s.output (text ++ more) (prefix_then text more first now s.output gave prefix)

-- the output stayed
appends_kept : (bytes : List ℕ) (a b c : Option (List ℕ)) → Appends bytes a b → Keeps b c → Appends bytes a c
appends_kept bytes a b None gave kept = tt
appends_kept bytes a b (Some now) gave kept = subst (λ (o : Option (List ℕ)). Appends bytes a o) kept gave

pub part_kept : (first now : Option (List ℕ)) (text : List ℕ) (s : Stood) → Appends text first now → Keeps now s.output → ShowsPart first text s
part_kept first now text s gave kept = (text, ([], sym (append-nil text)), appends_kept text first now s.output gave kept)

module _ {D : Type 0} {d : Ghosts D} where
  -- while the disk is left, as much is known
  pub knows_beside : {held : Held} {state : State} {store : Store} {gathered : Gathered} {a b : D} {P : Option (List ℕ) → Type 0} → LeavesAreas d a b P → IsSome (d.contents b) →
      KnowsLabels d held state store gathered a → KnowsLabels d held state store gathered b
  knows_beside leaves told knows = record { at = at_beside leaves told knows.at; same = knows.same; names = knows.names }

  -- Both areas stay:

  pub images_none : {a : D} → LeavesImages d a a
  images_none {a = a} = record { contents_stay = keeps_self (d.contents a); images_stay = λ i. (λ left. left, λ left. left); time = none_elapsed }

  pub images_still : {a b : D} → IsStill d a b → LeavesImages d a b
  images_still {a = a} {b = b} still = record { contents_stay = keeps_same (d.contents a) (d.contents b) still.contents_stay; images_stay = still.images_stay; time = elapsed_weaker still.time (λ s h. h.1) }

  pub images_beside : {a b : D} {P : Option (List ℕ) → Type 0} → LeavesAreas d a b P → LeavesImages d a b
  images_beside leaves = record { contents_stay = leaves.contents_stay; images_stay = leaves.images_stay; time = elapsed_weaker leaves.time (λ s h. h.1) }

  pub images_then : {a b c : D} → LeavesImages d a b → LeavesImages d b c → LeavesImages d a c
  images_then {a = a} {b = b} {c = c} first second = record {
    contents_stay = keeps_then (d.contents a) (d.contents b) (d.contents c) first.contents_stay second.contents_stay;
    images_stay = λ i. (λ left. (first.images_stay i).0 ((second.images_stay i).0 left), λ left. (second.images_stay i).1 ((first.images_stay i).1 left));
    time = elapsed_then {P = λ s. d.may_leave a s.image} first.time second.time (λ s left. (first.images_stay s.image).0 left);
  }

  -- Nothing is answered yet.
  pub found_none : {store : Store} {gathered : Gathered} {state : State} {a : D} (at : IsAt d store a state) → ((name : List ℕ) → labels_in gathered name ≡ None) →
      HasFound d at.held state [] store gathered a a
  found_none {a = a} at none = record {
    knows = record { at = at; same = refl; names = λ name names there. untold names (sym (none name) ∙ there) };
    text = [];
    replies = refl;
    gave = kept_appends (d.beside a).output (d.beside a).output (keeps_self (d.beside a).output);
    time = none_elapsed;
    names = [];
    once = tt;
    kept = λ name there. absurd (none_there name there);
    asked = λ name there. absurd (none_there name there);
    for_names = 0;
    of_names = refl;
    for_lines = 0;
    of_lines = refl;
    few = omega arith;
  }

read_then : (a b c e names told more line : ℕ) → b ≤ a + (names + told) → c ≤ b + (more + line) → e ≡ c → e ≤ a + ((names + more) + (told + line))
read_then a b c e names told more line first then same = omega (arith, first, then, same)

-- a sum that begins with nothing
plain_sum : (e a more : ℕ) → e ≤ a + more → e ≤ a + (0 + more)
plain_sum e a more few = omega (arith, few)

-- Lists of names:

once_append : {T : Type 0} (xs ys : List T) → AreOnce xs → AreOnce ys → ((x : T) → Contains xs x → Contains ys x → ⊥) → AreOnce (xs ++ ys)
once_append [] ys one two apart = two
once_append (x ∷ xs) ys one two apart = (
  λ there. elim (Contains-append_cases xs ys x there) [
    | inl among ↦ one.0 among
    | inr behind ↦ apart x (Contains-append_left (x ∷ []) xs x (Contains-push [] x)) behind
  ],
  once_append xs ys one.1 two (λ y among behind. apart y (Contains-append_right (x ∷ []) xs y among) behind),
)

-- names that were kept are none that weren't gathered
kept_apart : (gathered : Gathered) (name : List ℕ) → IsSome (labels_in gathered name) → labels_in gathered name ≡ None → ⊥
kept_apart gathered name there none = false≢true (subst (λ (o : Option Names). IsSome o) none there)

-- one of the first lines asks for it still, and so does the last one
asked_still : (told : List Line) (line : Line) (name : List ℕ) → IsAskedBy told name → IsAskedBy (told ++ line ∷ []) name
asked_still told line name (asking, steps, there, asks) = (asking, steps, Contains-append_left told (line ∷ []) asking there, asks)

asked_last : (told : List Line) (line : Line) (name : List ℕ) → (steps : List Step) × AsksFor line name steps → IsAskedBy (told ++ line ∷ []) name
asked_last told line name (steps, asks) = (line, steps, Contains-push told line, asks)

module _ {D : Type 0} {d : Ghosts D} {held : Held} {state : State} {told : List Line} {store store' : Store} {gathered gathered' : Gathered} {first now mid next : D} (line : Line) where
  -- One line more is answered: that is looked up, and its text given.
  pub found_more : (answer : Answer) → HasFound d held state told store gathered first now → LooksUp d held state line answer store' gathered gathered' now mid → IsStill d now mid →
      Given (answer_text answer) (Ok tt) (d.beside mid) (d.beside next) → GivesAlone d (answer_text answer) mid next → IsSome (d.contents next) → HasFound d held state (told ++ line ∷ []) store' gathered' first next
  found_more answer found looks still given gives known =
      let text = answer_text answer in
      let reads = looks.reads in
      let before = appends_kept found.text (d.beside first).output (d.beside now).output (d.beside mid).output found.gave still.beside_stays.output in
      record {
        knows = knows_beside gives.areas known looks.knows;
        text = found.text ++ text;
        replies = replies_more state told line found.text text found.replies looks.is;
        gave = appends_then found.text text (d.beside first).output (d.beside mid).output (d.beside next).output before (gives_appends text (d.beside mid).output (d.beside next).output given);
        time = elapsed_then {P = ShowsPart (d.beside first).output (found.text ++ text)}
            (elapsed_then {P = ShowsPart (d.beside first).output (found.text ++ text)}
            (elapsed_weaker found.time (λ s h. part_longer (d.beside first).output found.text text s h))
            still.time
            (λ s h. part_longer (d.beside first).output found.text text s (part_kept (d.beside first).output (d.beside now).output found.text s found.gave h.0)))
            gives.areas.time
            (λ s h. part_behind (d.beside first).output (d.beside mid).output found.text text s before h.0);
        names = found.names ++ reads.names;
        once = once_append found.names reads.names found.once (reads.fresh).once (λ name among behind. kept_apart gathered name (found.kept name among) ((reads.fresh).none name behind));
        kept = λ name there. elim (Contains-append_cases found.names reads.names name there) [
          | inl among ↦ looks.keeps name (found.kept name among)
          | inr behind ↦ reads.kept name behind
        ];
        asked = λ name there. elim (Contains-append_cases found.names reads.names name there) [
          | inl among ↦ asked_still told line name (found.asked name among)
          | inr behind ↦ asked_last told line name ((reads.fresh).asked name behind)
        ];
        for_names = found.for_names + reads.for_names;
        of_names = names_more held state found.names reads.names found.for_names reads.for_names found.of_names reads.of_names;
        for_lines = found.for_lines + reads.for_line;
        of_lines = lines_more held state told line found.for_lines reads.for_line found.of_lines reads.of_line;
        few = read_then (d.reads first) (d.reads now) (d.reads mid) (d.reads next) found.for_names found.for_lines reads.for_names reads.for_line found.few reads.few gives.areas.reads_stay;
      }

-- What was taken:

cut_kept : {script : Script} {taken : List ℕ} {told : List Line} {first now : Option (List ℕ)} (next : Option (List ℕ)) → HasCutIn script taken told first now → Keeps now next → HasCutIn script taken told first next
cut_kept {taken = taken} {first = first} {now = now} next cuts kept = record {
  given = cuts.given;
  takes = takes_kept taken first now next cuts.takes kept;
  end = λ ended. let (end, few) = cuts.end ended in (end_kept now next end kept, few);
}

few_cut : (script : Script) (taken : List ℕ) (told : List Line) (first now : Option (List ℕ)) → HasCutIn script taken told first now → TakesFew first now
few_cut script taken told first now cuts =
    let counted : script.input.taken ≡ length taken = cuts.given.counted in
    let few : script.input.taken ≤ most_input = script.input.few in
    record { taken = taken; few = (let e : length taken ≤ most_input = omega (arith, counted, few) in e); takes = cuts.takes }

module _ {D : Type 0} {d : Ghosts D} where
  -- More was taken of the input.
  pub found_taken : {held : Held} {state : State} {told : List Line} {store : Store} {gathered : Gathered} {first now mid : D} → HasFound d held state told store gathered first now → TakesAlone d now mid →
      IsSome (d.contents mid) → HasFound d held state told store gathered first mid
  found_taken {first = first} {now = now} {mid = mid} found takes known = record {
    knows = knows_beside takes.areas known found.knows;
    text = found.text;
    replies = found.replies;
    gave = subst (λ (o : Option (List ℕ)). Appends found.text (d.beside first).output o) (sym takes.output_stays) found.gave;
    time = elapsed_then {P = ShowsPart (d.beside first).output found.text} found.time takes.areas.time (λ s h. part_kept (d.beside first).output (d.beside now).output found.text s found.gave h.0);
    names = found.names;
    once = found.once;
    kept = found.kept;
    asked = found.asked;
    for_names = found.for_names;
    of_names = found.of_names;
    for_lines = found.for_lines;
    of_lines = found.of_lines;
    few = subst (λ (n : ℕ). n ≤ d.reads first + (found.for_names + found.for_lines)) (sym takes.areas.reads_stay) found.few;
  }

  -- how such a run ends, from a state, by what was answered
  pub finds_from : {held : Held} {state : State} {told : List Line} {store : Store} {gathered : Gathered} {first now : D} (status : Status) (taken : List ℕ) → HasFound d held state told store gathered first now →
      Takes taken (d.beside first).input (d.beside now).input → AreFirstLines taken told (d.beside now).input → ((text : List ℕ) → Appends text (d.beside first).output (d.beside now).output →
      EndsFinding told text taken status (d.beside first) (d.beside now)) → FindsFrom d state status first now
  finds_from {told = told} status taken found takes are ends =
      record { taken = taken; takes = takes; lines = told; first = are; text = found.text; replies = found.replies; time = found.time; ends = ends found.text found.gave }

  -- what was read for it
  pub questions_from : {held : Held} {state : State} {told : List Line} {store : Store} {gathered : Gathered} {first now : D} (taken : List ℕ) → HasFound d held state told store gathered first now →
      Takes taken (d.beside first).input (d.beside now).input → AreFirstLines taken told (d.beside now).input → ReadsQuestions d 0 held state first now
  questions_from {told = told} {first = first} {now = now} taken found takes are = record {
    taken = taken;
    takes = takes;
    lines = told;
    first = are;
    names = found.names;
    once = found.once;
    asked = found.asked;
    sought = told;
    among = ([], sym (append-nil told));
    for_names = found.for_names;
    of_names = found.of_names;
    for_lines = found.for_lines;
    of_lines = found.of_lines;
    few = plain_sum (d.reads now) (d.reads first) (found.for_names + found.for_lines) found.few;
  }

  -- Before the first line.
  pub finding_none : {a : D} {script : Script} {store : Store} {gathered : Gathered} → HasCutIn script [] [] (d.beside a).input (d.beside a).input → ((name : List ℕ) → labels_in gathered name ≡ None) →
      IsFinding d store [] [] script store gathered a a
  finding_none cuts none = record { given = cuts; goes = none_goes; areas = images_none; found = λ state at told. found_none at none }

  still_input : {a b : D} → IsStill d a b → Keeps (d.beside a).input (d.beside b).input
  still_input still = still.beside_stays.input

  -- A line more came, and is answered.
  pub finding_more : {begun : Store} {taken more : List ℕ} {told : List Line} {old new : Script} {store store' : Store} {gathered gathered' : Gathered} {first now mid looked next : D} (line : Line) (answer : Answer) →
      IsFinding d begun taken told old store gathered first now → TakesAlone d now mid → HasCutIn new more (told ++ line ∷ []) (d.beside first).input (d.beside mid).input → IsStill d mid looked →
      LooksUpOf d line answer store store' gathered gathered' mid looked → Given (answer_text answer) (Ok tt) (d.beside looked) (d.beside next) → GivesAlone d (answer_text answer) looked next →
      IsFinding d begun more (told ++ line ∷ []) new store' gathered' first next
  finding_more {more = more} {told = told} {new = new} {first = first} {mid = mid} {looked = looked} {next = next} line answer finding takes cuts still looks given gives = record {
    given = subst (λ (o : Option (List ℕ)). HasCutIn new more (told ++ line ∷ []) (d.beside first).input o) (sym gives.input_stays) (cut_kept (d.beside looked).input cuts (still_input still));
    goes = goes_then (goes_then (goes_then finding.goes (leaves_goes takes.areas)) (still_goes still)) (leaves_goes gives.areas);
    areas = images_then (images_then (images_then finding.areas (images_beside takes.areas)) (images_still still)) (images_beside gives.areas);
    found = λ state at known.
        let there = (leaves_goes gives.areas).told known in
        let before = (still_goes still).told there in
        let found = found_taken (finding.found state at ((leaves_goes takes.areas).told before)) takes before in
        found_more line answer found (looks at.held state found.knows) still given gives known;
  }

  -- No line was left.
  pub finds_done : {begun : Store} {taken more : List ℕ} {told : List Line} {old new : Script} {store : Store} {gathered : Gathered} {first now mid : D} →
      IsFinding d begun taken told old store gathered first now → TakesAlone d now mid → HasCutIn new more told (d.beside first).input (d.beside mid).input → EndsCut more told (d.beside first).input (d.beside mid).input →
      FindsAll d begun Done first mid
  finds_done {begun = begun} {more = more} {told = told} {new = new} {first = first} {mid = mid} finding takes cuts ends =
      let whole : EndsWhole more (d.beside first).input (d.beside mid).input = record { takes = ends.takes; end = ends.end; few = ends.few } in
      let are = first_lines new more told (d.beside first).input (d.beside mid).input cuts in
      let found = λ (state : State) (at : IsAt d begun first state) (known : IsSome (d.contents mid)). found_taken (finding.found state at ((leaves_goes takes.areas).told known)) takes known in
      record {
        from = λ state at known. finds_from Done more (found state at known) ends.takes are (λ text gave. (whole, ends.lines_are, gave));
        cause = (more, whole);
        bounded = few_cut new more told (d.beside first).input (d.beside mid).input cuts;
        goes = goes_then finding.goes (leaves_goes takes.areas);
        areas = images_then finding.areas (images_beside takes.areas);
        reads = λ state at known. questions_from more (found state at known) ends.takes are;
      }

-- The first of the first lines.
first_fewer : (taken : List ℕ) (told more : List Line) (now : Option (List ℕ)) → AreFirstLines taken (told ++ more) now → AreFirstLines taken told now
first_fewer taken told more None are = tt
first_fewer taken told more (Some left) (rest, are) = (more ++ rest, subst (λ (ls : List Line). AreLines (taken ++ left) ls) (append_assoc told more rest) are)

first_kept : (taken : List ℕ) (told : List Line) (now next : Option (List ℕ)) → AreFirstLines taken told now → Keeps now next → AreFirstLines taken told next
first_kept taken told now None are kept = tt
first_kept taken told now (Some left) are kept = subst (λ (o : Option (List ℕ)). AreFirstLines taken told o) kept are

-- What is told when memory ran out was told before, so no line is another one then.
pub starved_first : (old new : Script) (taken more : List ℕ) (told : List Line) (first now mid : Option (List ℕ)) → HasCutIn old taken told first now → Takes (taken ++ more) first mid →
    ((f : Option (List ℕ)) → HasCutIn old taken told f now → (m : List ℕ) × HasTaken new.input (taken ++ m) f mid × (length (taken ++ m) ≤ most_input)) → AreFirstLines (taken ++ more) told mid
starved_first old new taken more told first now None cuts takes stops = tt
starved_first old new taken more told first None (Some left) cuts takes stops =
    let unknown : HasCutIn old taken told None None = record { given = cuts.given; takes = tt; end = λ ended. (tt, (cuts.end ended).1) } in
    let (m, has, few) = stops None unknown in
    untold ((taken ++ m) ++ left) has.takes
starved_first old new taken more told first (Some was) (Some left) cuts takes stops =
    let same : taken ++ was ≡ (taken ++ more) ++ left = same_some (sym cuts.takes ∙ takes) in
    let (rest, are) = first_lines old taken told first (Some was) cuts in
    (rest, subst (λ (l : List ℕ). AreLines l (told ++ rest)) same are)

-- what a line read that came to nothing
line_sought : (held : Held) (state : State) (told : List Line) (line : Line) (pages own : ℕ) → ReadForLines held state told pages → (own ≡ 0) ⊎ ReadForLine held state line own →
    (sought : List Line) × ((rest : List Line) × (told ++ line ∷ [] ≡ sought ++ rest)) × ReadForLines held state sought (pages + own)
line_sought held state told line pages own are (inl none) =
    (told, (line ∷ [], refl), subst (λ (n : ℕ). ReadForLines held state told n) (let e : pages ≡ pages + own = omega (arith, none) in e) are)
line_sought held state told line pages own are (inr of_it) = (told ++ line ∷ [], ([], sym (append-nil (told ++ line ∷ []))), lines_more held state told line pages own are of_it)

module _ {D : Type 0} {d : Ghosts D} where
  -- what was read where a line was begun
  questions_begun : {held : Held} {state : State} {told : List Line} {store : Store} {gathered : Gathered} {first now next : D} (line : Line) (taken : List ℕ) → HasFound d held state told store gathered first now →
      ReadsLine d held state line gathered now next → Takes taken (d.beside first).input (d.beside next).input → AreFirstLines taken (told ++ line ∷ []) (d.beside next).input → ReadsQuestions d 0 held state first next
  questions_begun {held = held} {state = state} {told = told} {gathered = gathered} {first = first} {now = now} {next = next} line taken found reads takes are =
      let (sought, among, of_lines) = line_sought held state told line found.for_lines reads.for_line found.of_lines reads.of_line in
      record {
        taken = taken;
        takes = takes;
        lines = told ++ line ∷ [];
        first = are;
        names = found.names ++ reads.names;
        once = once_append found.names reads.names found.once (reads.new).once (λ name among behind. kept_apart gathered name (found.kept name among) ((reads.new).none name behind));
        asked = λ name there. elim (Contains-append_cases found.names reads.names name there) [
          | inl among ↦ asked_still told line name (found.asked name among)
          | inr behind ↦ asked_last told line name ((reads.new).asked name behind)
        ];
        sought = sought;
        among = among;
        for_names = found.for_names + reads.for_names;
        of_names = names_more held state found.names reads.names found.for_names reads.for_names found.of_names reads.of_names;
        for_lines = found.for_lines + reads.for_line;
        of_lines = of_lines;
        few = plain_sum (d.reads next) (d.reads first) ((found.for_names + reads.for_names) + (found.for_lines + reads.for_line))
            (read_then (d.reads first) (d.reads now) (d.reads next) (d.reads next) found.for_names found.for_lines reads.for_names reads.for_line found.few reads.few refl);
      }

  -- A line isn't looked up.
  pub finds_unlooked : {begun : Store} {taken more : List ℕ} {told : List Line} {old new : Script} {store : Store} {gathered : Gathered} {first now mid seen : D} (line : Line) (status : Status) →
      IsFinding d begun taken told old store gathered first now → TakesAlone d now mid → HasCutIn new more (told ++ line ∷ []) (d.beside first).input (d.beside mid).input → IsStill d mid seen →
      StopsLooking d line status store gathered mid seen → IsUnanswered d status mid seen → FindsAll d begun status first seen
  finds_unlooked {begun = begun} {more = more} {told = told} {new = new} {first = first} {mid = mid} {seen = seen} line status finding takes cuts still stops stopped =
      let came = cut_kept (d.beside seen).input cuts (still_input still) in
      let all = first_lines new more (told ++ line ∷ []) (d.beside first).input (d.beside seen).input came in
      let goes = goes_then finding.goes (leaves_goes takes.areas) in
      let found = λ (state : State) (at : IsAt d begun first state) (known : IsSome (d.contents seen)).
      found_taken (finding.found state at ((leaves_goes takes.areas).told ((still_goes still).told known))) takes ((still_goes still).told known) in
      record {
        from = λ state at known.
            let one = found state at known in
            record {
              taken = more;
              takes = came.takes;
              lines = told;
              first = first_fewer more told (line ∷ []) (d.beside seen).input all;
              text = one.text;
              replies = one.replies;
              time = elapsed_then {P = ShowsPart (d.beside first).output one.text} one.time still.time (λ s h. part_kept (d.beside first).output (d.beside mid).output one.text s one.gave h.0);
              ends = ends_short status told one.text more (d.beside first) (d.beside seen) (stops at.held state one.knows).0;
            };
        cause = stopped_ends status seen goes stopped;
        bounded = few_cut new more (told ++ line ∷ []) (d.beside first).input (d.beside seen).input came;
        goes = goes_then goes (still_goes still);
        areas = images_then (images_then finding.areas (images_beside takes.areas)) (images_still still);
        reads = λ state at known. let one = found state at known in questions_begun line more one (stops at.held state one.knows).1 came.takes all;
      }

  -- A line is looked up, and its text isn't given.
  pub finds_ungiven : {begun : Store} {taken more : List ℕ} {told : List Line} {old new : Script} {store store' : Store} {gathered gathered' : Gathered} {first now mid seen next : D} (line : Line) (answer : Answer)
      (stop : GiveError) → IsFinding d begun taken told old store gathered first now → TakesAlone d now mid → HasCutIn new more (told ++ line ∷ []) (d.beside first).input (d.beside mid).input → IsStill d mid seen →
      LooksUpOf d line answer store store' gathered gathered' mid seen → Given (answer_text answer) (Err stop) (d.beside seen) (d.beside next) → GivesAlone d (answer_text answer) seen next →
      FindsAll d begun (status_of_give_error stop) first next
  finds_ungiven {begun = begun} {more = more} {told = told} {new = new} {first = first} {mid = mid} {seen = seen} {next = next} line answer stop finding takes cuts still looks given gives =
      let text = answer_text answer in
      let status = status_of_give_error stop in
      let came : HasCutIn new more (told ++ line ∷ []) (d.beside first).input (d.beside next).input =
      subst (λ (o : Option (List ℕ)). HasCutIn new more (told ++ line ∷ []) (d.beside first).input o) (sym gives.input_stays) (cut_kept (d.beside seen).input cuts (still_input still)) in
      let all = first_lines new more (told ++ line ∷ []) (d.beside first).input (d.beside next).input came in
      let goes = goes_then (goes_then finding.goes (leaves_goes takes.areas)) (still_goes still) in
      let found = λ (state : State) (at : IsAt d begun first state) (known : IsSome (d.contents next)).
      let there = (still_goes still).told ((leaves_goes gives.areas).told known) in found_taken (finding.found state at ((leaves_goes takes.areas).told there)) takes there in
      record {
        from = λ state at known.
            let one = found state at known in
            let up = looks at.held state one.knows in
            let before = appends_kept one.text (d.beside first).output (d.beside mid).output (d.beside seen).output one.gave still.beside_stays.output in
            record {
              taken = more;
              takes = came.takes;
              lines = told ++ line ∷ [];
              first = all;
              text = one.text ++ text;
              replies = replies_more state told line one.text text one.replies up.is;
              time = elapsed_then {P = ShowsPart (d.beside first).output (one.text ++ text)}
                  (elapsed_then {P = ShowsPart (d.beside first).output (one.text ++ text)}
                  (elapsed_weaker one.time (λ s h. part_longer (d.beside first).output one.text text s h))
                  still.time
                  (λ s h. part_longer (d.beside first).output one.text text s (part_kept (d.beside first).output (d.beside mid).output one.text s one.gave h.0)))
                  gives.areas.time
                  (λ s h. part_behind (d.beside first).output (d.beside seen).output one.text text s before h.0);
              ends = ends_short status (told ++ line ∷ []) (one.text ++ text) more (d.beside first) (d.beside next) (stops_giving stop);
            };
        cause = stopped_ends status next goes (block_stopped d seen next text stop given);
        bounded = few_cut new more (told ++ line ∷ []) (d.beside first).input (d.beside next).input came;
        goes = goes_then goes (leaves_goes gives.areas);
        areas = images_then (images_then (images_then finding.areas (images_beside takes.areas)) (images_still still)) (images_beside gives.areas);
        reads = λ state at known.
            let one = found state at known in
            let reads = (looks at.held state one.knows).reads in
            questions_begun line more one
            (record {
              names = reads.names;
              new = reads.fresh;
              for_names = reads.for_names;
              of_names = reads.of_names;
              for_line = reads.for_line;
              of_line = inr reads.of_line;
              few = subst (λ (n : ℕ). n ≤ d.reads mid + (reads.for_names + reads.for_line)) (sym gives.areas.reads_stay) reads.few;
            })
            came.takes all;
      }

finding_after : (status : Status) (told : List Line) (text taken : List ℕ) (a b c : Beside) → Keeps a.input b.input → Keeps a.output b.output → EndsFinding told text taken status b c → EndsFinding told text taken status a c
finding_after Done told text taken a b c input output (whole, are, gave) = (whole_after c.input input whole, are, appends_after text a.output b.output c.output output gave)
finding_after ReadFault told text taken a b c input output (few, are, gave) = (few, are, appends_after text a.output b.output c.output output gave)
finding_after TooMuch told text taken a b c input output (long, are, gave) = (long, are, appends_after text a.output b.output c.output output gave)
finding_after DiskFault told text taken a b c input output ends = tt
finding_after WriteFault told text taken a b c input output ends = tt
finding_after NoMemory told text taken a b c input output ends = tt
finding_after NotAStore told text taken a b c input output ends = absurd ends
finding_after (Damaged page) told text taken a b c input output ends = absurd ends
finding_after Usage told text taken a b c input output ends = absurd ends
finding_after Refused told text taken a b c input output ends = absurd ends

module _ {D : Type 0} {d : Ghosts D} where
  -- The input gave no more.
  pub finds_cut_off : {begun : Store} {taken : List ℕ} {told : List Line} {old : Script} {store : Store} {gathered : Gathered} {first now mid : D} (new : Script) (error : ScriptError) →
      IsFinding d begun taken told old store gathered first now → TakesAlone d now mid → (error ≡ scripts.Read → Rose (d.beside now).in_faults (d.beside mid).in_faults) →
      ((f : Option (List ℕ)) → HasCutIn old taken told f (d.beside now).input → StopsCutting error new taken told f (d.beside mid).input) → FindsAll d begun (status_of_script error) first mid
  finds_cut_off {begun = begun} {taken = taken} {told = told} {first = first} {now = now} {mid = mid} new scripts.Read finding takes rose stops =
      let (more, cuts, short, all) = stops (d.beside first).input finding.given in
      let are = first_lines new (taken ++ more) told (d.beside first).input (d.beside mid).input cuts in
      let found = λ (state : State) (at : IsAt d begun first state) (known : IsSome (d.contents mid)). found_taken (finding.found state at ((leaves_goes takes.areas).told known)) takes known in
      record {
        from = λ state at known. finds_from ReadFault (taken ++ more) (found state at known) cuts.takes are (λ text gave. (short, all.whole, gave));
        cause = (rose_since (d.beside first).in_faults (d.beside now).in_faults (d.beside mid).in_faults finding.goes.counts.read (rose refl), taken ++ more, short, cuts.takes);
        bounded = few_cut new (taken ++ more) told (d.beside first).input (d.beside mid).input cuts;
        goes = goes_then finding.goes (leaves_goes takes.areas);
        areas = images_then finding.areas (images_beside takes.areas);
        reads = λ state at known. questions_from (taken ++ more) (found state at known) cuts.takes are;
      }
  finds_cut_off {begun = begun} {taken = taken} {told = told} {first = first} {now = now} {mid = mid} new scripts.TooMuch finding takes rose stops =
      let (more, cuts, long, all) = stops (d.beside first).input finding.given in
      let are = first_lines new (taken ++ more) told (d.beside first).input (d.beside mid).input cuts in
      let found = λ (state : State) (at : IsAt d begun first state) (known : IsSome (d.contents mid)). found_taken (finding.found state at ((leaves_goes takes.areas).told known)) takes known in
      record {
        from = λ state at known. finds_from TooMuch (taken ++ more) (found state at known) cuts.takes are (λ text gave. (long, all.whole, gave));
        cause = (taken ++ more, long, cuts.takes);
        bounded = few_cut new (taken ++ more) told (d.beside first).input (d.beside mid).input cuts;
        goes = goes_then finding.goes (leaves_goes takes.areas);
        areas = images_then finding.areas (images_beside takes.areas);
        reads = λ state at known. questions_from (taken ++ more) (found state at known) cuts.takes are;
      }
  finds_cut_off {begun = begun} {taken = taken} {told = told} {old = old} {first = first} {now = now} {mid = mid} new scripts.Memory finding takes rose stops =
      let (more, has, few) = stops (d.beside first).input finding.given in
      let are = starved_first old new taken more told (d.beside first).input (d.beside now).input (d.beside mid).input finding.given has.takes stops in
      let found = λ (state : State) (at : IsAt d begun first state) (known : IsSome (d.contents mid)). found_taken (finding.found state at ((leaves_goes takes.areas).told known)) takes known in
      record {
        from = λ state at known. finds_from NoMemory (taken ++ more) (found state at known) has.takes are (λ text gave. tt);
        cause = tt;
        bounded = record { taken = taken ++ more; few = few; takes = has.takes };
        goes = goes_then finding.goes (leaves_goes takes.areas);
        areas = images_then finding.areas (images_beside takes.areas);
        reads = λ state at known. questions_from (taken ++ more) (found state at known) has.takes are;
      }

  -- It ends between two lines, by itself.
  pub finds_given_up : {begun : Store} {taken : List ℕ} {told : List Line} {script : Script} {store : Store} {gathered : Gathered} {first now : D} → IsFinding d begun taken told script store gathered first now →
      FindsAll d begun NoMemory first now
  finds_given_up {taken = taken} {told = told} {script = script} {first = first} {now = now} finding =
      let are = first_lines script taken told (d.beside first).input (d.beside now).input finding.given in
      record {
        from = λ state at known. finds_from NoMemory taken (finding.found state at known) finding.given.takes are (λ text gave. tt);
        cause = tt;
        bounded = few_cut script taken told (d.beside first).input (d.beside now).input finding.given;
        goes = finding.goes;
        areas = finding.areas;
        reads = λ state at known. questions_from taken (finding.found state at known) finding.given.takes are;
      }

  -- It doesn't begin.
  pub finds_unbegun : {begun : Store} {a : D} → FindsAll d begun NoMemory a a
  finds_unbegun {a = a} = record {
    from = λ state at known. finds_nothing NoMemory none_still tt;
    cause = tt;
    bounded = few_nothing (d.beside a).input (d.beside a).input (keeps_self (d.beside a).input);
    goes = none_goes;
    areas = images_none;
    reads = λ state at known. asks_nothing 0 (keeps_self (d.beside a).input) (omega arith);
  }

  -- A run over the store that was opened:

  opened_finding : {a b c : D} {state : State} (status : Status) → IsStill d a b → FindsFrom d state status b c → FindsFrom d state status a c
  opened_finding {a = a} {b = b} {c = c} status still from =
      let output = still.beside_stays.output in
      record {
        taken = from.taken;
        takes = takes_after from.taken (d.beside a).input (d.beside b).input (d.beside c).input still.beside_stays.input from.takes;
        lines = from.lines;
        first = from.first;
        text = from.text;
        replies = from.replies;
        time = elapsed_then {P = ShowsPart (d.beside a).output from.text} (elapsed_weaker still.time (λ s h. ([], (from.text, refl), kept_appends (d.beside a).output s.output h.0)))
            from.time (λ s h. (h.0, h.1, appends_after h.0 (d.beside a).output (d.beside b).output s.output output h.2));
        ends = finding_after status from.lines from.text from.taken (d.beside a) (d.beside b) (d.beside c) still.beside_stays.input output from.ends;
      }

  finding_cause : {a b c : D} {begun : Store} (status : Status) → IsStill d a b → ((was : Image) (state : State) → IsSettled d a was → Recovers was (Some state) → IsAt d begun b state) →
      FindsAll d begun status b c → IsEnded d status b c → IsCaused d status a c
  finding_cause {c = c} Done still opens all (taken, whole) = (taken, whole_after (d.beside c).input still.beside_stays.input whole)
  finding_cause {a = a} {b = b} {c = c} DiskFault still opens all rose = rose_since (d.faults a) (d.faults b) (d.faults c) still.faults_later rose
  finding_cause {a = a} {b = b} {c = c} ReadFault still opens all (rose, taken, short, takes) = (
    rose_since (d.beside a).in_faults (d.beside b).in_faults (d.beside c).in_faults (counts_still still).read rose,
    taken,
    short,
    takes_after taken (d.beside a).input (d.beside b).input (d.beside c).input still.beside_stays.input takes,
  )
  finding_cause {a = a} {b = b} {c = c} WriteFault still opens all rose = rose_since (d.beside a).out_faults (d.beside b).out_faults (d.beside c).out_faults (counts_still still).written rose
  finding_cause NoMemory still opens all cause = tt
  finding_cause (Damaged page) still opens all cause = λ was state settled told recovers. (all.from state (opens was state settled recovers) told).ends
  finding_cause {a = a} {b = b} {c = c} TooMuch still opens all (taken, long, takes) =
      (taken, long, takes_after taken (d.beside a).input (d.beside b).input (d.beside c).input still.beside_stays.input takes)
  finding_cause NotAStore still opens all cause = absurd cause
  finding_cause Usage still opens all cause = absurd cause
  finding_cause Refused still opens all cause = absurd cause

  opened_questions : {a b c : D} {held held' : Held} {state : State} (pages : ℕ) → IsStill d a b → held' ≡ held → d.reads b ≤ d.reads a + pages → ReadsQuestions d 0 held' state b c → ReadsQuestions d pages held state a c
  opened_questions {a = a} {b = b} {c = c} {state = state} pages still same first from = record {
    taken = from.taken;
    takes = takes_after from.taken (d.beside a).input (d.beside b).input (d.beside c).input still.beside_stays.input from.takes;
    lines = from.lines;
    first = from.first;
    names = from.names;
    once = from.once;
    asked = from.asked;
    sought = from.sought;
    among = from.among;
    for_names = from.for_names;
    of_names = subst (λ (h : Held). ReadForNames h state from.names from.for_names) same from.of_names;
    for_lines = from.for_lines;
    of_lines = subst (λ (h : Held). ReadForLines h state from.sought from.for_lines) same from.of_lines;
    few = let then : d.reads c ≤ d.reads b + (0 + (from.for_names + from.for_lines)) = from.few in omega (arith, first, then);
  }

  pub finds_opened : {a b c : D} {begun : Store} (status : Status) → IsStill d a b → ((was : Image) (state : State) → IsSettled d a was → Recovers was (Some state) → IsAt d begun b state) →
      ((was : Image) → IsSettled d a was → HasHeader was) → ((was : Image) → IsSettled d a was → ReadsOpening was (d.reads a) (d.reads b)) → FindsAll d begun status b c → Finds d status a c
  finds_opened {a = a} {b = b} {c = c} status still opens marked opening all =
      let goes = goes_then (still_goes still) all.goes in
      let areas = images_then (images_still still) all.areas in
      record {
        from = λ was state settled told recovers. opened_finding status still (all.from state (opens was state settled recovers) told);
        cause = finding_cause status still opens all all.cause;
        no_header = λ was settled none. absurd (none (marked was settled));
        contents_stay = areas.contents_stay;
        images_stay = areas.images_stay;
        time = areas.time;
        reads = λ was held state settled told holds is.
            let at = opens was state settled (held, holds, is) in
            opened_questions (opening_reads was held.catalog.bytes) still (opened_held at (settled_still still settled) holds) ((opening was settled).sound held holds) (all.reads state at told);
        unopened_reads = λ was settled none. absurd (none (marked was settled));
        bounded = record {
          taken = all.bounded.taken;
          few = all.bounded.few;
          takes = takes_after all.bounded.taken (d.beside a).input (d.beside b).input (d.beside c).input still.beside_stays.input all.bounded.takes;
        };
        counts = goes.counts;
        faults_later = goes.faults_later;
      }
