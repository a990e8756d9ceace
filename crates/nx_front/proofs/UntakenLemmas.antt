-- What comes of the bytes that were taken, and that a disk is left while none is.
use Rattle.std.proofs.Common.{◌≡◌, inl, inr, ℕ, ◌+◌, true, false, Bool, List, [], ◌∷◌, ◌++◌, length, Option, None, Some, IsSome, Result, refl, sym, ap, ◌∙◌, subst, arith, append_assoc, append-nil, length-append}
use Rattle.std.proofs.lemmas.Bool.{MatchBool-at_true, false≢true}
use Rattle.std.proofs.lemmas.List.{take_all}
use Rattle.nx_host.specs.declared.disk.Disk.{Ghosts}
use Rattle.nx_host.specs.Disk.{Keeps}
use Rattle.nx_host.specs.Host.{Takes, AppendsPrefix}
use Rattle.nx_host.specs.Phase.{TakesAlone, GivesAlone}
use Rattle.nx_host.specs.Still.{IsStill}
use Rattle.nx_host.specs.Time.{none_elapsed, elapsed_then, elapsed_weaker}
use Rattle.nx_host.proofs.DiskLemmas.{keeps_self, keeps_then}
use Rattle.nx_script.specs.declared.command.Command.{Command}
use Rattle.nx_script.specs.Commands.{AreCommands}
use Rattle.nx_script.specs.Script.{unread}
use Rattle.nx_script.proofs.ScriptLemmas.{HasLooked, looked, parsed_whole}
use Rattle.nx_script.specs.declared.request.Request.{Request}
use Rattle.nx_script.specs.declared.requests.Requests.{Requests}
use Rattle.nx_script.specs.Requests.{AreRequests, AreWholeRequests, cut_off_request, HasGrouped, HasGivenRequestsIn}
use Rattle.nx_script.proofs.OneRequestList.{requests_prefix, requests_more}
use Rattle.nx_script.proofs.RequestLemmas.{kept_uncommitted}
use Rattle.nx_filters.specs.declared.give.GiveError.{GiveError}
use Rattle.nx_filters.specs.Outcome.{Given}
use Rattle.nx_front.specs.Serving.{AreOfTaken, LeavesAll}
use Rattle.nx_filters.proofs.OutcomeLemmas.{given_prefix}
use Rattle.nx_front.proofs.ServingLaws.{one_script}

-- The requests of the bytes:

-- a script gives those that are whole in the bytes, or all of them at their end
pub of_taken : (script : Requests) (taken : List ℕ) (requests : List Request) (first now : Option (List ℕ)) → HasGivenRequestsIn script taken requests first now → AreOfTaken taken requests first now
of_taken script taken requests first now given = elim given.given.grouped [ inl grouped ↦ by script.script.finished refl grouped | inr all ↦ ended_so (all.finished) [] (subst (λ (rs : List Request). AreRequests taken rs) (sym (append-nil requests)) all.all) ]
  where
    came : List Command
    came = given.given.commands

    ended_so : script.script.finished ≡ true → (rest : List Request) → AreRequests taken (requests ++ rest) → AreOfTaken taken requests first now
    ended_so finished rest are = let (end, few) = given.end (given.given.script.ended finished) in (rest, inr (record { takes = given.takes; end = end; few = few }, are))

    by : (f : Bool) → script.script.finished ≡ f → HasGrouped script.begun came requests → AreOfTaken taken requests first now
    by true is grouped =
        let all = MatchBool-at_true (AreCommands taken came) (HasLooked script.script taken came) is given.given.script.given in
        ended_so is (cut_off_request grouped.rest) (came, requests, grouped.rest, all, grouped.gives, kept_uncommitted script.begun grouped.rest grouped.keeps, refl)
    by false is grouped =
        let (seen, parts, parsed) = looked script.script taken came is given.given.script in
        let (rest, whole) = requests_more seen (unread script.script) requests (came, grouped.rest, parsed_whole script.script.parser seen came parsed, grouped.gives, kept_uncommitted script.begun grouped.rest grouped.keeps) in
        (rest, inl (subst (λ (l : List ℕ). AreWholeRequests l (requests ++ rest)) (sym parts) whole))

-- the first of them
pub first_of_taken : (taken : List ℕ) (requests rest all : List Request) {first now : Option (List ℕ)} → requests ++ rest ≡ all → AreOfTaken taken all first now → AreOfTaken taken requests first now
first_of_taken taken requests rest all is (others, inl whole) =
    (rest ++ others, inl (subst (λ (rs : List Request). AreWholeRequests taken rs) (ap (λ (rs : List Request). rs ++ others) (sym is) ∙ append_assoc requests rest others) whole))
first_of_taken taken requests rest all is (others, inr (ends, are)) =
    (rest ++ others, inr (ends, subst (λ (rs : List Request). AreRequests taken rs) (ap (λ (rs : List Request). rs ++ others) (sym is) ∙ append_assoc requests rest others) are))

-- none of no bytes
pub none_of_taken : (first now : Option (List ℕ)) → AreOfTaken [] [] first now
none_of_taken first now = ([], inl ([], [], ([], refl, tt), refl, tt))

none_are : AreRequests [] []
none_are = ([], [], [], ([], [], refl, tt, refl), refl, tt, refl)

all_none : (requests rest : List Request) → requests ++ rest ≡ [] → requests ≡ []
all_none [] rest none = refl
all_none (c ∷ requests) rest none = absurd (cc none)

no_commands : (requests : List Request) {first now : Option (List ℕ)} → AreOfTaken [] requests first now → requests ≡ []
no_commands requests (rest, inl whole) =
    let (more, are) = requests_prefix [] [] (requests ++ rest) whole in
    all_none requests rest (all_none (requests ++ rest) more (one_script [] ((requests ++ rest) ++ more) [] are none_are))
no_commands requests (rest, inr (ends, are)) = all_none requests rest (one_script [] (requests ++ rest) [] are none_are)

no_bytes_before : (taken left : List ℕ) → left ≡ taken ++ left → taken ≡ []
no_bytes_before [] left is = refl
no_bytes_before (b ∷ bytes) left is =
    let long : length left ≡ length ((b ∷ bytes) ++ left) = ap length is in
    let sum : length ((b ∷ bytes) ++ left) ≡ length (b ∷ bytes) + length left = length-append (b ∷ bytes) left in
    absurd (omega (arith, long, sum))

nothing_taken : (taken : List ℕ) (first now : Option (List ℕ)) → Takes taken first now → IsSome now → now ≡ first → taken ≡ []
nothing_taken taken first None takes told same = absurd (false≢true told)
nothing_taken taken first (Some left) takes told same =
    let all : Some left ≡ Some (taken ++ left) = same ∙ takes in
    no_bytes_before taken left (let e : left ≡ taken ++ left = cc all in e)

-- a script from which no byte was taken gave no request
pub none_came : {script : Requests} {taken : List ℕ} {requests : List Request} {first now : Option (List ℕ)} → HasGivenRequestsIn script taken requests first now → IsSome now × (now ≡ first) → requests ≡ []
none_came {script = script} {taken = taken} {requests = requests} {first = first} {now = now} given (told, same) =
    no_commands requests
    (subst (λ (l : List ℕ). AreOfTaken l requests first now) (nothing_taken taken first now given.takes told same) (of_taken script taken requests first now given))

pub not_none : (requests : List Request) (request : Request) → requests ++ request ∷ [] ≡ [] → ⊥
not_none [] request none = cc none
not_none (c ∷ requests) request none = cc none

-- where nothing is given the output stays
prefix_nothing : (old now : Option (List ℕ)) → AppendsPrefix [] old now → Keeps old now
prefix_nothing old None prefix = tt
prefix_nothing old (Some now) (was, n, is, grew) = is ∙ ap (λ (l : List ℕ). Some l) (sym (grew ∙ ap (λ (l : List ℕ). was ++ l) (take_all n [] (omega arith)) ∙ append-nil was))

-- what is the same is kept
keeps_same : {T : Type 0} (a b : Option T) → b ≡ a → Keeps a b
keeps_same a None same = tt
keeps_same a (Some x) same = sym same

-- The disk is left:

module _ {D : Type 0} {d : Ghosts D} where
  pub none_left : {a : D} → LeavesAll d a a
  none_left {a = a} = record {
    contents_stay = keeps_self (d.contents a);
    images_stay = λ i. (λ left. left, λ left. left);
    output_stays = keeps_self (d.beside a).output;
    time = none_elapsed;
  }

  pub left_then : {a b c : D} → LeavesAll d a b → LeavesAll d b c → LeavesAll d a c
  left_then {a = a} {b = b} {c = c} first second = record {
    contents_stay = keeps_then (d.contents a) (d.contents b) (d.contents c) first.contents_stay second.contents_stay;
    images_stay = λ i. (λ left. (first.images_stay i).0 ((second.images_stay i).0 left), λ left. (second.images_stay i).1 ((first.images_stay i).1 left));
    output_stays = keeps_then (d.beside a).output (d.beside b).output (d.beside c).output first.output_stays second.output_stays;
    time = elapsed_then first.time second.time (λ s h. (keeps_then (d.beside a).output (d.beside b).output s.output first.output_stays h.0, (first.images_stay s.image).0 h.1));
  }

  -- it was asked alone
  pub left_still : {a b : D} → IsStill d a b → LeavesAll d a b
  left_still {a = a} {b = b} still = record {
    contents_stay = keeps_same (d.contents a) (d.contents b) still.contents_stay;
    images_stay = still.images_stay;
    output_stays = still.beside_stays.output;
    time = still.time;
  }

  -- input was taken
  pub left_taken : {a b : D} → TakesAlone d a b → LeavesAll d a b
  left_taken {a = a} {b = b} takes = record {
    contents_stay = takes.areas.contents_stay;
    images_stay = takes.areas.images_stay;
    output_stays = keeps_same (d.beside a).output (d.beside b).output takes.output_stays;
    time = takes.areas.time;
  }

  -- nothing was given
  pub left_given : {a b : D} {block : List ℕ} (given : Result (Unit {0}) GiveError) → block ≡ [] → Given block given (d.beside a) (d.beside b) → GivesAlone d block a b → LeavesAll d a b
  left_given {a = a} {b = b} {block = block} given none gave alone = record {
    contents_stay = alone.areas.contents_stay;
    images_stay = alone.areas.images_stay;
    output_stays = prefix_nothing (d.beside a).output (d.beside b).output
        (subst (λ (l : List ℕ). AppendsPrefix l (d.beside a).output (d.beside b).output) none (given_prefix block given (d.beside a) (d.beside b) gave));
    time = elapsed_weaker alone.areas.time (λ s h. (
      prefix_nothing (d.beside a).output s.output (subst (λ (l : List ℕ). AppendsPrefix l (d.beside a).output s.output) none h.0),
      h.1,
    ));
  }
