-- How a store is made, from what was made of the disk and what was given then.
use Rattle.std.proofs.Common.{◌≡◌, ◌⊎◌, inl, inr, ℕ, ◌≤◌, List, [], length, Option, None, Some, IsSome, refl, sym, ap, ◌∙◌, subst, arith}
use Rattle.nx_host.specs.declared.disk.Disk.{Ghosts}
use Rattle.nx_host.specs.Disk.{Image, Beside, Keeps, LeavesBeside, Rose}
use Rattle.nx_host.specs.Host.{AppendsPrefix}
use Rattle.nx_host.specs.Time.{elapsed_then, elapsed_weaker}
use Rattle.nx_host.specs.Still.{IsStill, WritesAlone, IsSettled}
use Rattle.nx_host.specs.Phase.{GivesAlone}
use Rattle.nx_host.proofs.DiskLemmas.{told_same, settled_kept}
use Rattle.nx_host.proofs.OutputLemmas.{appends_nothing, appends_then, prefix_then, keeps_prefix}
use Rattle.nx_replay.specs.Log.{replay}
use Rattle.nx_replay.proofs.ReplayLemmas.{replay-same}
use Rattle.nx_replay.proofs.SettledLemmas.{some_of, is_some}
use Rattle.nx_holdings.specs.declared.header.Settings.{Settings}
use Rattle.nx_holdings.specs.Holdings.{Held, Holds}
use Rattle.nx_holdings.proofs.OneLemmas.{hold_one}
use Rattle.nx_records.specs.Changes.{nothing_held}
use Rattle.nx_records.specs.Refusals.{IsNewStore}
use Rattle.nx_state.proofs.FirstLemmas.{new_is_held}
use Rattle.nx_filters.specs.declared.status.Status.{Status}
use Rattle.nx_filters.specs.declared.status.Status.TheVariants.{Done, Usage, Refused, DiskFault, ReadFault, WriteFault, NoMemory, NotAStore, Damaged, TooMuch}
use Rattle.nx_filters.specs.Outcome.{FailsGiving}
use Rattle.nx_front.specs.Init.{made_line, exists_line, HasNoPage, HasPage, IsOldOrNew, SaysLine, IsMaking, IsStoreMade, MakesStore, TellsLine, FindsPages, GivesUp, Initializes, IsUntroubled, CompletesInit, InitHoldsTogether, HoldsNothing}
use Rattle.nx_filters.proofs.OutcomeLemmas.{told_at_first, kept_appends, fails_then}

-- a line behind an output that stayed
pub says_after : (line : List ℕ) (whole status : Status) (old middle new : Beside) → LeavesBeside old middle → SaysLine line whole status middle new → SaysLine line whole status old new
says_after line whole status old middle new stays (inl (is, appends)) =
    inl (is, appends_then [] line old.output middle.output new.output (kept_appends old.output middle.output stays.output) appends)
says_after line whole status old middle new stays (inr (is, fails)) =
    inr (is, fails_then [] line old middle new (let same : middle.out_faults ≡ old.out_faults = stays.out_faults in omega (arith, same)) (kept_appends old.output middle.output stays.output) fails)

-- where writing didn't fail, the line was given
pub said : (line : List ℕ) (whole status : Status) (old new : Beside) → ¬ Rose old.out_faults new.out_faults → SaysLine line whole status old new → status ≡ whole
said line whole status old new calm (inl (is, gave)) = is
said line whole status old new calm (inr (is, fails)) = absurd (calm fails.rose)

-- what tells a line isn't answered so
pub no_usage : (line : List ℕ) (whole : Status) (old new : Beside) → (Usage ≡ whole → ⊥) → SaysLine line whole Usage old new → ⊥
no_usage line whole old new other (inl (is, gave)) = other is
no_usage line whole old new other (inr (is, fails)) = cc is

-- the one call that gives a line failed
pub fails_once : (line : List ℕ) (old new : Beside) → 1 ≤ length line → Rose old.out_faults new.out_faults → AppendsPrefix line old.output new.output → FailsGiving line old new
fails_once line old new some rose prefix = record {
  rose = rose;
  done = [];
  others = line;
  parts = refl;
  some = omega (arith, some);
  middle = old.output;
  appends = appends_nothing old.output;
  prefix = prefix;
}

module _ {D : Type 0} {d : Ghosts D} {a b c : D} where
  -- the input stays, and no count falls
  initializes : (settings : Settings) (status : Status) (line : List ℕ) → LeavesBeside (d.beside a) (d.beside b) → d.faults a ≤ d.faults b → GivesAlone d line b c →
      MakesStore d settings status a c ⊎ FindsPages d status a c ⊎ GivesUp d settings status a c → Initializes d settings status a c
  initializes settings status line stays later gives ends = record {
    ends = ends;
    input_stays = subst (λ (o : Option (List ℕ)). Keeps (d.beside a).input o) (sym gives.input_stays) stays.input;
    in_faults_stay = gives.in_faults_stay ∙ stays.in_faults;
    out_faults_later =
        let same : (d.beside b).out_faults ≡ (d.beside a).out_faults = stays.out_faults in
        let more : (d.beside b).out_faults ≤ (d.beside c).out_faults = gives.areas.out_faults_later in
        omega (arith, same, more);
    faults_later = let same : d.faults c ≡ d.faults b = gives.areas.faults_stay in omega (arith, same, later);
  }

  -- the store was made, and `ok` is given
  pub makes : (settings : Settings) (status : Status) → WritesAlone d a b (λ i. (was : Image) → IsSettled d a was → IsOldOrNew settings was i) →
      ((was now : Image) → IsSettled d a was → d.contents b ≡ Some now → IsSettled d b now × IsNewStore settings was now) →
      SaysLine made_line Done status (d.beside b) (d.beside c) → GivesAlone d made_line b c → Initializes d settings status a c
  makes settings status goes made says gives =
      let told_there : IsSome (d.contents c) → IsSome (d.contents b) = told_at_first (d.contents b) (d.contents c) gives.areas.contents_stay in
      initializes settings status made_line goes.beside_stays goes.faults_later gives
      (inl (record {
        says = says_after made_line Done status (d.beside a) (d.beside b) (d.beside c) goes.beside_stays says;
        time = elapsed_then {P = λ s. IsMaking d settings a c s ⊎ IsStoreMade d settings a c s}
            (elapsed_weaker goes.time (λ s h. inl (h.0, λ was settled told. h.1 (told_there told) was settled)))
            gives.areas.time
            (λ s h. inr (
              prefix_then [] made_line (d.beside a).output (d.beside b).output s.output (kept_appends (d.beside a).output (d.beside b).output goes.beside_stays.output) h.0,
              λ was settled told.
                  let (now, is) = some_of (d.contents b) (told_there told) in
                  let (alone, created) = made was now settled is in
                  subst (λ (i : Image). IsNewStore settings was i) (sym (alone.only s.image h.1)) created,
            ));
        made = λ was now settled is.
            let told : IsSome (d.contents c) = is_some (d.contents c) is in
            let same : d.contents b ≡ Some now = sym (told_same (d.contents b) (d.contents c) gives.areas.contents_stay told) ∙ is in
            let (alone, created) = made was now settled same in
            (settled_kept gives.areas.contents_stay told (λ i left. (gives.areas.images_stay i).0 left) alone, created);
      }))

  -- a line is given behind what only looked at the disk
  pub line_told : (line : List ℕ) → IsStill d a b → GivesAlone d line b c → TellsLine d line a c
  line_told line still gives = record {
    time = elapsed_then {P = λ s. AppendsPrefix line (d.beside a).output s.output × d.may_leave a s.image}
        (elapsed_weaker still.time (λ s h. (keeps_prefix line (d.beside a).output s.output h.0, h.1)))
        gives.areas.time
        (λ s h. (
          prefix_then [] line (d.beside a).output (d.beside b).output s.output (kept_appends (d.beside a).output (d.beside b).output still.beside_stays.output) h.0,
          (still.images_stay s.image).0 h.1,
        ));
    contents_stay = subst (λ (o : Option Image). Keeps o (d.contents c)) still.contents_stay gives.areas.contents_stay;
    images_stay = λ i. (λ left. (still.images_stay i).0 ((gives.areas.images_stay i).0 left), λ left. (gives.areas.images_stay i).1 ((still.images_stay i).1 left));
  }

  -- there were pages, and that is given
  pub finds_pages : (settings : Settings) (status : Status) → IsStill d a b → ((was : Image) → IsSettled d a was → HasPage was) →
      SaysLine exists_line Refused status (d.beside b) (d.beside c) → GivesAlone d exists_line b c → Initializes d settings status a c
  finds_pages settings status still pages says gives =
      initializes settings status exists_line still.beside_stays still.faults_later gives
      (inr (inl (record {
        says = says_after exists_line Refused status (d.beside a) (d.beside b) (d.beside c) still.beside_stays says;
        tells = line_told exists_line still gives;
        pages = pages;
      })))

module _ {D : Type 0} {d : Ghosts D} {a b : D} where
  -- nothing is given
  gives_up : (settings : Settings) (status : Status) → LeavesBeside (d.beside a) (d.beside b) → d.faults a ≤ d.faults b → GivesUp d settings status a b → Initializes d settings status a b
  gives_up settings status stays later ends = record {
    ends = inr (inr ends);
    input_stays = stays.input;
    in_faults_stay = stays.in_faults;
    out_faults_later = let same : (d.beside b).out_faults ≡ (d.beside a).out_faults = stays.out_faults in omega (arith, same);
    faults_later = later;
  }

  -- a call of the disk failed
  pub disk_fails : (settings : Settings) → WritesAlone d a b (λ i. (was : Image) → IsSettled d a was → IsOldOrNew settings was i) → Rose (d.faults a) (d.faults b) →
      ((was : Image) → IsSettled d a was → HasPage was → IsStill d a b) → Initializes d settings DiskFault a b
  disk_fails settings goes rose still = gives_up settings DiskFault goes.beside_stays goes.faults_later (rose, goes, still)

  -- memory ran out
  pub finds_no_memory : (settings : Settings) → IsStill d a b → Initializes d settings NoMemory a b
  finds_no_memory settings still = gives_up settings NoMemory still.beside_stays still.faults_later still

  given_up : (settings : Settings) (was : Image) (status : Status) → IsUntroubled d was a b → GivesUp d settings status a b → CompletesInit was status
  given_up settings was DiskFault calm ends = absurd (calm.disk ends.0)
  given_up settings was NoMemory calm ends = tt
  given_up settings was Done calm ends = absurd ends
  given_up settings was Usage calm ends = absurd ends
  given_up settings was Refused calm ends = absurd ends
  given_up settings was ReadFault calm ends = absurd ends
  given_up settings was WriteFault calm ends = absurd ends
  given_up settings was NotAStore calm ends = absurd ends
  given_up settings was (Damaged page) calm ends = absurd ends
  given_up settings was TooMuch calm ends = absurd ends

  ends_completely : (settings : Settings) (was : Image) (status : Status) → IsUntroubled d was a b → MakesStore d settings status a b ⊎ FindsPages d status a b ⊎ GivesUp d settings status a b →
      CompletesInit was status
  ends_completely settings was status calm (inl made) =
      let (now, here) = some_of (d.contents b) calm.still_told in
      let (alone, created) = made.made was now calm.settled here in
      subst (λ (s : Status). CompletesInit was s) (sym (said made_line Done status (d.beside a) (d.beside b) calm.written made.says)) created.none_before
  ends_completely settings was status calm (inr (inl found)) =
      subst (λ (s : Status). CompletesInit was s) (sym (said exists_line Refused status (d.beside a) (d.beside b) calm.written found.says)) (found.pages was calm.settled)
  ends_completely settings was status calm (inr (inr ends)) = given_up settings was status calm ends

  -- how such a run ends where nothing fails
  pub init_completes : (settings : Settings) (status : Status) (was : Image) → Initializes d settings status a b → IsUntroubled d was a b → CompletesInit was status
  init_completes settings status was carried calm = ends_completely settings was status calm carried.ends

  ends_without : (settings : Settings) → MakesStore d settings Usage a b ⊎ FindsPages d Usage a b ⊎ GivesUp d settings Usage a b → ⊥
  ends_without settings (inl made) = no_usage made_line Done (d.beside a) (d.beside b) (λ is. cc is) made.says
  ends_without settings (inr (inl found)) = no_usage exists_line Refused (d.beside a) (d.beside b) (λ is. cc is) found.says
  ends_without settings (inr (inr ends)) = ends

  -- it isn't answered by how command lines are to be written
  pub init_not_usage : (settings : Settings) → Initializes d settings Usage a b → ⊥
  init_not_usage settings carried = ends_without settings carried.ends

-- What is said of the disk:

holds_page : (image : Image) (held : Held) → Holds (replay image) held → HasPage image
holds_page image held (head, holds) = (0, is_some (replay image 0) holds.here)

none_and_some : (image : Image) → HasNoPage image → HasPage image → ⊥
none_and_some image none (p, some) =
    let (bytes, is) = some_of (replay image p) some in
    let no_page : None ≡ Some bytes = sym (none p) ∙ is in
    cc

pub init_together : (settings : Settings) → InitHoldsTogether settings
init_together settings = record {
  one_outcome = none_and_some;
  one_disk = λ was i same created.
      let none : HasNoPage i = λ p. ap (λ (pages : ℕ → Option (List ℕ)). pages p) (replay-same was i same) ∙ created.none_before p in
      none_and_some i none (holds_page i (nothing_held settings) created.holds);
}

pub holds_nothing : (settings : Settings) → HoldsNothing settings
holds_nothing settings = record {
  absent = λ was i none same p. ap (λ (pages : ℕ → Option (List ℕ)). pages p) (replay-same was i same) ∙ none p;
  recovers = λ was now created. (nothing_held settings, created.holds, new_is_held settings);
  alone = λ was now held created holds. hold_one (replay now) held (nothing_held settings) holds created.holds;
}
