-- A session over a host that never fails, from what `run` promises.
use Rattle.std.proofs.Common.{◌≡◌, ◌⊎◌, inl, inr, ℕ, ◌+◌, ◌<◌, ◌≤◌, ◌*◌, ◌^◌, true, false, Bool, List, [], ◌∷◌, ◌++◌, length, take, drop, Option, None, Some, IsSome, refl, sym, ap, ◌∙◌, subst, arith}
use Rattle.std.specs.Prelude.{nat_lt, nat_le, ◌&&◌, if◌then◌else◌, codes}
use Rattle.std.proofs.lemmas.List.{take_all}
use Rattle.nx_host.specs.declared.disk.Disk.{Ghosts}
use Rattle.nx_host.specs.Disk.{Image, no_bytes, Rose}
use Rattle.nx_host.specs.Host.{Appends}
use Rattle.nx_host.specs.Still.{IsSettled}
use Rattle.nx_replay.specs.Log.{groups_behind, groups, logged, pages_of, replay}
use Rattle.nx_holdings.specs.declared.header.Settings.{Settings}
use Rattle.nx_script.specs.Requests.{AreRequests}
use Rattle.nx_state.specs.State.{State, new_state}
use Rattle.nx_state.specs.Stands.{Recovers}
use Rattle.nx_memory.specs.declared.quiet.QuietHost.{QuietHost}
use Rattle.nx_memory.specs.Memory.{areas_of, output_of}
use Rattle.nx_memory.specs.Source.{bytes_left}
use Rattle.nx_memory.specs.Quiet.{told_of}
use Rattle.nx_memory.specs.QuietHost.{QuietMayLeave}
use Rattle.nx_filters.specs.declared.status.Status.{Status}
use Rattle.nx_filters.specs.declared.status.Status.TheVariants.{Done, Usage, Refused, DiskFault, ReadFault, WriteFault, NoMemory, NotAStore, Damaged, TooMuch}
use Rattle.nx_filters.proofs.OutcomeLemmas.{whole_is}
use Rattle.nx_front.specs.declared.words.CommandLine.TheVariants.{Run}
use Rattle.nx_front.specs.CommandLine.{command_line}
use Rattle.nx_front.specs.Init.{made_line, HasNoPage, Initializes, IsUntroubled, CompletesInit}
use Rattle.nx_front.specs.Serving.{Turn, IsRun, state_after, requests_of, texts_of, Serves, IsCalm, CompletesServing, EndsWell}
use Rattle.nx_front.proofs.InitLemmas.{init_together, holds_nothing}
use Rattle.nx_memory_session.specs.Session.{IsUntouched, HasNewStore, EndsMaking, AnswersScript, EndsSession}

-- A disk of no bytes has no page:

no_groups : groups [] ≡ []
unfolding groups_behind
no_groups = ap (λ (l : List ℕ). groups_behind 0 l) (take_all (2 ^ 63) [] (omega arith))

none_logged : (p : ℕ) → logged [] p ≡ None
unfolding logged
none_logged p = refl

not_whole : (low whole : Bool) (page : Option (List ℕ)) → whole ≡ false → (if low && whole then page else None) ≡ None
not_whole true whole page is = rw is refl
not_whole false whole page is = refl

none_in_area : (p : ℕ) → pages_of [] p ≡ None
none_in_area p = not_whole (nat_lt p 16777216) (nat_le (8192 * p + 8192) 0) (Some (take 8192 (drop (8192 * p) []))) (grind arith)

no_page : HasNoPage no_bytes
no_page p = rw (no_groups, none_logged p, none_in_area p) refl

-- What `init` leaves:

-- a crash leaves one image, which is that of the new state, and `ok` is out
abbrev pub Made : Settings → (was now : Option (List ℕ)) → (Image → Type 0) → Image → Status → Type 0
Made settings was now may image Done = ((i : Image) → may i → i ≡ image) × Recovers image (Some (new_state settings)) × Appends made_line was now
Made settings was now may image NoMemory = Unit {0}
Made settings was now may image _ = ⊥

-- the requests of the input are answered
abbrev pub Answered : State → List ℕ → (was now : Option (List ℕ)) → (Image → Type 0) → Status → Type 0
Answered state script was now may Done =
    (turns : List Turn) × IsRun state turns × AreRequests script (requests_of turns) × Appends (texts_of turns) was now × ((i : Image) → may i → Recovers i (Some (state_after state turns)))
Answered state script was now may NoMemory = Unit {0}
Answered state script was now may _ = ⊥

module _ {D : Type 0} (d : Ghosts D) (a b : D) where
  made_store : {settings : Settings} → Initializes d settings Done a b → IsSettled d a no_bytes → (now : Image) → d.contents b ≡ Some now →
      Made settings (d.beside a).output (d.beside b).output (d.may_leave b) now Done
  made_store {settings = settings} init settled now here =
      elim init.ends [
        | inl makes ↦
            let (alone, created) = makes.made no_bytes now settled here in
            elim makes.says [
              | inl said ↦ (alone.only, (holds_nothing settings).recovers no_bytes now created, said.1)
              | inr fails ↦ absurd (let e : Done ≡ WriteFault = fails.0 in cc e)
            ]
        | inr other ↦ elim other [
          | inl finds ↦ elim finds.says [
            | inl said ↦ absurd (let e : Done ≡ Refused = said.0 in cc e)
            | inr fails ↦ absurd (let e : Done ≡ WriteFault = fails.0 in cc e)
          ]
          | inr gives ↦ absurd gives
        ]
      ]

  pub makes : (settings : Settings) (status : Status) (now : Image) → Initializes d settings status a b → ((was : Image) → IsUntroubled d was a b → CompletesInit was status) →
      IsUntroubled d no_bytes a b → d.contents b ≡ Some now → Made settings (d.beside a).output (d.beside b).output (d.may_leave b) now status
  makes settings Done now init ends calm here = made_store init calm.settled now here
  makes settings NoMemory now init ends calm here = tt
  makes settings Refused now init ends calm here = (init_together settings).one_outcome no_bytes no_page (ends no_bytes calm)
  makes settings Usage now init ends calm here = ends no_bytes calm
  makes settings DiskFault now init ends calm here = ends no_bytes calm
  makes settings ReadFault now init ends calm here = ends no_bytes calm
  makes settings WriteFault now init ends calm here = ends no_bytes calm
  makes settings NotAStore now init ends calm here = ends no_bytes calm
  makes settings (Damaged page) now init ends calm here = ends no_bytes calm
  makes settings TooMuch now init ends calm here = ends no_bytes calm

  all_answered : {was : Image} {state : State} {script : List ℕ} → Serves d Done a b → IsCalm d was script a b → Recovers was (Some state) →
      Answered state script (d.beside a).output (d.beside b).output (d.may_leave b) Done
  all_answered {was = was} {state = state} {script = script} serves calm recovers =
      let from = serves.from was state calm.settled calm.disk_told recovers in
      let (whole, are, gave) = from.ends in
      let all : script ≡ from.taken = whole_is script from.taken (d.beside a).input (d.beside b).input calm.input_is calm.input_told whole in
      (from.turns, from.run, subst (λ (l : List ℕ). AreRequests l (requests_of from.turns)) (sym all) are, gave, from.last refl)

  pub answers : (status : Status) (was : Image) (state : State) (script : List ℕ) → Serves d status a b → CompletesServing d status a b → IsCalm d was script a b → Recovers was (Some state) →
      Answered state script (d.beside a).output (d.beside b).output (d.may_leave b) status
  answers status was state script serves completes calm recovers = by status serves (completes.store was script state calm recovers)
    where
      by : (s : Status) → Serves d s a b → EndsWell s → Answered state script (d.beside a).output (d.beside b).output (d.may_leave b) s
      by Done serves well = all_answered serves calm recovers
      by NoMemory serves well = tt
      by Usage serves well = absurd well
      by Refused serves well = absurd well
      by DiskFault serves well = absurd well
      by ReadFault serves well = absurd well
      by WriteFault serves well = absurd well
      by NotAStore serves well = absurd well
      by (Damaged page) serves well = absurd well
      by TooMuch serves well = absurd well

-- The host that never fails:

pub told_is : {T : Type 0} (full : Bool) (x : T) → full ≡ false → told_of full x ≡ Some x
told_is true x is = absurd (let e : true ≡ false = is in cc e)
told_is false x is = refl

pub is_told : {T : Type 0} (full : Bool) (x : T) → full ≡ false → IsSome (told_of full x)
is_told true x is = absurd (let e : true ≡ false = is in cc e)
is_told false x is = refl

pub none_rose : ¬ Rose 0 0
none_rose rose = omega (arith, rose)

-- bytes are added to an output that is told
added : (bytes was now : List ℕ) (old new : Bool) → old ≡ false → new ≡ false → Appends bytes (told_of old was) (told_of new now) → now ≡ was ++ bytes
added bytes was now true new told still gave = absurd (let e : true ≡ false = told in cc e)
added bytes was now false true told still gave = absurd (let e : true ≡ false = still in cc e)
added bytes was now false false told still (w, is, grew) = let same : was ≡ w = cc is in grew ∙ ap (λ (l : List ℕ). l ++ bytes) (sym same)

pub made_in : (settings : Settings) (script : List ℕ) (status : Status) (old new : QuietHost) → old.full ≡ false → new.full ≡ false → output_of old.memory ≡ [] → bytes_left new.memory.source ≡ script →
    Made settings (told_of old.full (output_of old.memory)) (told_of new.full (output_of new.memory)) (QuietMayLeave new) (areas_of new.memory) status → EndsMaking settings script status new
made_in settings script Done old new told still none input (only, recovers, gave) = record {
  only = only;
  recovers = recovers;
  output_is = added made_line (output_of old.memory) (output_of new.memory) old.full new.full told still gave ∙ ap (λ (l : List ℕ). l ++ made_line) none;
  input_is = input;
}
made_in settings script NoMemory old new told still none input made = tt
made_in settings script Usage old new told still none input made = absurd made
made_in settings script Refused old new told still none input made = absurd made
made_in settings script DiskFault old new told still none input made = absurd made
made_in settings script ReadFault old new told still none input made = absurd made
made_in settings script WriteFault old new told still none input made = absurd made
made_in settings script NotAStore old new told still none input made = absurd made
made_in settings script (Damaged page) old new told still none input made = absurd made
made_in settings script TooMuch old new told still none input made = absurd made

pub answered_in : (settings : Settings) (script : List ℕ) (status : Status) (old new : QuietHost) → old.full ≡ false → new.full ≡ false → output_of old.memory ≡ made_line →
    Answered (new_state settings) script (told_of old.full (output_of old.memory)) (told_of new.full (output_of new.memory)) (QuietMayLeave new) status → EndsSession settings script status new
answered_in settings script Done old new told still made (turns, run, are, gave, images) = record {
  turns = turns;
  run = run;
  requests = are;
  output = added (texts_of turns) (output_of old.memory) (output_of new.memory) old.full new.full told still gave ∙ ap (λ (l : List ℕ). l ++ texts_of turns) made;
  images = images;
}
answered_in settings script NoMemory old new told still made answered = tt
answered_in settings script Usage old new told still made answered = absurd answered
answered_in settings script Refused old new told still made answered = absurd answered
answered_in settings script DiskFault old new told still made answered = absurd answered
answered_in settings script ReadFault old new told still made answered = absurd answered
answered_in settings script WriteFault old new told still made answered = absurd answered
answered_in settings script NotAStore old new told still made answered = absurd answered
answered_in settings script (Damaged page) old new told still made answered = absurd answered
answered_in settings script TooMuch old new told still made answered = absurd answered

-- no store was made
pub unmade : (settings : Settings) (script : List ℕ) (status : Status) (host : QuietHost) → (status ≡ Done → ⊥) → EndsMaking settings script status host → EndsSession settings script status host
unmade settings script Done host other made = absurd (other refl)
unmade settings script NoMemory host other made = tt
unmade settings script Usage host other made = absurd made
unmade settings script Refused host other made = absurd made
unmade settings script DiskFault host other made = absurd made
unmade settings script ReadFault host other made = absurd made
unmade settings script WriteFault host other made = absurd made
unmade settings script NotAStore host other made = absurd made
unmade settings script (Damaged page) host other made = absurd made
unmade settings script TooMuch host other made = absurd made

pub is_run : command_line (codes "store" ∷ codes "run" ∷ []) ≡ Some Run
is_run = refl
