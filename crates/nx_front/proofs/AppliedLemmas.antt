-- How groups are applied, from what was received and what was said then.
use Rattle.std.proofs.Common.{◌≡◌, ◌⊎◌, inl, inr, ℕ, ◌<◌, ◌≤◌, List, [], ◌∷◌, ◌++◌, take, length, Option, None, Some, IsSome, Result, Ok, Err, refl, sym, ap, ap₂, ◌∙◌, subst, arith, length-append}
use Rattle.nx_host.specs.declared.disk.Disk.{Ghosts}
use Rattle.nx_host.specs.Disk.{Image}
use Rattle.nx_host.specs.Host.{Takes, Appends, AppendsPrefix}
use Rattle.nx_host.specs.Input.{most_input}
use Rattle.nx_host.specs.Time.{Stood, elapsed_then, elapsed_weaker}
use Rattle.nx_host.specs.Still.{IsStill}
use Rattle.nx_host.specs.Phase.{GivesAlone}
use Rattle.nx_host.proofs.DiskLemmas.{settled_kept}
use Rattle.nx_host.proofs.OutputLemmas.{appends_then}
use Rattle.nx_replay.specs.Log.{Pages, Group, over, entry_pages, replay, IsDense}
use Rattle.nx_replay.specs.Laws.{over_all}
use Rattle.nx_replay.proofs.SettledLemmas.{some_of}
use Rattle.nx_holdings.proofs.DenseLemmas.{dense}
use Rattle.nx_holdings.specs.declared.header.Header.{Header}
use Rattle.nx_ship.specs.Stream.{IsGood, Begins, IsStream}
use Rattle.nx_ship.specs.Next.{IsAtNumber, AreNone, IsOpenFor, ComeInTurn, StayDense}
use Rattle.nx_ship.specs.Applying.{applied_text, AreIn, IsOutOfTurn, IsNoGroup, EndsApplying, UnlessCut, ShowsEnd, IsUnapplied, IsApplyCause, TakesAtMost, ReceivesStream}
use Rattle.nx_ship.specs.declared.error.ShipError.{ShipError}
use Rattle.nx_ship.specs.declared.error.ShipError.TheVariants as error
use Rattle.nx_ship.specs.Moments.{RefusesNothing}
use Rattle.nx_ship.proofs.ReadingLemmas.{good-append}
use Rattle.nx_ship.proofs.MomentLemmas.{groups_in_turn_pass}
use Rattle.nx_ship.proofs.RecoveryLemmas.{states_are_whole}
use Rattle.nx_ship.proofs.EntryLemmas.{one_head, none_headed}
use Rattle.nx_records.specs.Records.{HasHeader}
use Rattle.nx_state.specs.State.{State}
use Rattle.nx_state.specs.Stands.{Recovers}
use Rattle.nx_filters.specs.declared.status.Status.{Status}
use Rattle.nx_filters.specs.declared.status.Status.TheVariants.{Done, Usage, Refused, DiskFault, ReadFault, WriteFault, NoMemory, NotAStore, Damaged, TooMuch}
use Rattle.nx_filters.specs.Outcome.{TakesFew}
use Rattle.nx_filters.proofs.OutcomeLemmas.{rose_since, told_at_first}
use Rattle.nx_front.specs.Init.{HasPage, IsUntroubled, SaysLine}
use Rattle.nx_front.specs.Serving.{IsCalm, EndsWell}
use Rattle.nx_front.specs.Applied.{repeat_line, gap_line, base_line, stream_line, IsTurnedAway, Repeated, Early, NoBase, NoGroup, ShowsTaken, TurnsAway, EndsTaking, EndsApplied, ShowsGroups, IsUntaken, IsApplyingCaused, ReceivesGroups, StandBehindEach, CompletesApplying, ApplyHoldsTogether}
use Rattle.nx_front.specs.Endings.{applying_status, turned_away_line}
use Rattle.nx_front.proofs.GeneratingLemmas.{still_takes}

-- What came of the call, as a status:

taken_few : {first now : Option (List ℕ)} → TakesAtMost first now → TakesFew first now
taken_few few = record { taken = few.taken; few = few.few; takes = few.takes }

-- a first part is so many bytes of it
so_many : (line : List ℕ) (old now : Option (List ℕ)) → AppendsPrefix line old now → (n : ℕ) × Appends (take n line) old now
so_many line old None prefix = (0, tt)
so_many line old (Some bytes) (was, n, is, grown) = (n, (was, is, grown))

untaken : (was : Image) (result : Result (Unit {0}) ShipError) → IsUnapplied was result → IsUntaken was (applying_status result)
untaken was (Err error.NotAStore) why = why
untaken was (Err (error.Damaged page)) why = why
untaken was (Err error.Disk) why = tt
untaken was (Err error.Memory) why = tt
untaken was (Ok done) why = absurd why
untaken was (Err error.Write) why = absurd why
untaken was (Err error.Read) why = absurd why
untaken was (Err error.TooMuch) why = absurd why
untaken was (Err (error.NoGroup from last)) why = absurd why
untaken was (Err (error.Repeat number last)) why = absurd why
untaken was (Err (error.Gap number last)) why = absurd why
untaken was (Err (error.Base number)) why = absurd why
untaken was (Err (error.Stream offset)) why = absurd why

ends_taking : (start : Pages) (taken : List ℕ) (groups : List Group) (rest : List ℕ) (left : Option (List ℕ)) (result : Result (Unit {0}) ShipError) → turned_away_line result ≡ None →
    EndsApplying start taken groups rest left result → EndsTaking start taken groups rest left (applying_status result)
ends_taking start taken groups rest left (Ok done) none ends = ends
ends_taking start taken groups rest left (Err error.Read) none ends = ends
ends_taking start taken groups rest left (Err error.TooMuch) none ends = ends
ends_taking start taken groups rest left (Err error.NotAStore) none ends = ends
ends_taking start taken groups rest left (Err (error.Damaged page)) none ends = ends
ends_taking start taken groups rest left (Err error.Disk) none ends = tt
ends_taking start taken groups rest left (Err error.Write) none ends = tt
ends_taking start taken groups rest left (Err error.Memory) none ends = tt
ends_taking start taken groups rest left (Err (error.NoGroup from last)) none ends = tt
ends_taking start taken groups rest left (Err (error.Repeat number last)) none ends = tt
ends_taking start taken groups rest left (Err (error.Gap number last)) none ends = tt
ends_taking start taken groups rest left (Err (error.Base number)) none ends = tt
ends_taking start taken groups rest left (Err (error.Stream offset)) none ends = tt

module _ {D : Type 0} (d : Ghosts D) (a b : D) where
  ends_in : (start : Pages) (groups : List Group) (rest : List ℕ) (taken : List ℕ) (left : Option (List ℕ)) (result : Result (Unit {0}) ShipError) → EndsApplying start taken groups rest left result →
      UnlessCut result (AreIn d start groups a b) → EndsApplied d start groups rest (applying_status result) a b
  ends_in start groups rest taken left (Ok done) why all = all
  ends_in start groups rest taken left (Err error.Read) why all = all
  ends_in start groups rest taken left (Err error.TooMuch) why all = all
  ends_in start groups rest taken left (Err error.NotAStore) why all = absurd why
  ends_in start groups rest taken left (Err (error.Damaged page)) why all = absurd why
  ends_in start groups rest taken left (Err error.Disk) why all = tt
  ends_in start groups rest taken left (Err error.Write) why all = tt
  ends_in start groups rest taken left (Err error.Memory) why all = tt
  ends_in start groups rest taken left (Err (error.NoGroup from last)) why all = tt
  ends_in start groups rest taken left (Err (error.Repeat number last)) why all = tt
  ends_in start groups rest taken left (Err (error.Gap number last)) why all = tt
  ends_in start groups rest taken left (Err (error.Base number)) why all = tt
  ends_in start groups rest taken left (Err (error.Stream offset)) why all = tt

  applying_raised : (result : Result (Unit {0}) ShipError) → IsApplyCause d result a b → IsApplyingCaused d (applying_status result) a b
  applying_raised (Ok done) cause = cause
  applying_raised (Err error.NotAStore) cause = cause
  applying_raised (Err (error.Damaged page)) cause = cause
  applying_raised (Err error.Disk) cause = cause
  applying_raised (Err error.Read) cause = cause
  applying_raised (Err error.Write) cause = cause
  applying_raised (Err error.Memory) cause = tt
  applying_raised (Err error.TooMuch) cause = cause
  applying_raised (Err (error.NoGroup from last)) cause = tt
  applying_raised (Err (error.Repeat number last)) cause = tt
  applying_raised (Err (error.Gap number last)) cause = tt
  applying_raised (Err (error.Base number)) cause = tt
  applying_raised (Err (error.Stream offset)) cause = tt

-- why a group is turned away
turned : (start : Pages) (taken : List ℕ) (groups : List Group) (rest : List ℕ) (left : Option (List ℕ)) (result : Result (Unit {0}) ShipError) (line : List ℕ) → turned_away_line result ≡ Some line →
    EndsApplying start taken groups rest left result → IsTurnedAway start groups rest left line
turned start taken groups rest left (Err (error.Repeat number last)) line is (out, low) =
    subst (λ (l : List ℕ). IsTurnedAway start groups rest left l) (let same : repeat_line number last ≡ line = cc is in same) (Repeated number last out low)
turned start taken groups rest left (Err (error.Gap number last)) line is (out, high) =
    subst (λ (l : List ℕ). IsTurnedAway start groups rest left l) (let same : gap_line number last ≡ line = cc is in same) (Early number last out high)
turned start taken groups rest left (Err (error.Base number)) line is lack =
    subst (λ (l : List ℕ). IsTurnedAway start groups rest left l) (let same : base_line number ≡ line = cc is in same) (NoBase number lack)
turned start taken groups rest left (Err (error.Stream offset)) line is lack =
    subst (λ (l : List ℕ). IsTurnedAway start groups rest left l) (let same : stream_line offset ≡ line = cc is in same) (NoGroup offset lack)
turned start taken groups rest left (Ok done) line is ends = absurd (cc is)
turned start taken groups rest left (Err error.NotAStore) line is ends = absurd (cc is)
turned start taken groups rest left (Err (error.Damaged page)) line is ends = absurd (cc is)
turned start taken groups rest left (Err error.Disk) line is ends = absurd (cc is)
turned start taken groups rest left (Err error.Read) line is ends = absurd (cc is)
turned start taken groups rest left (Err error.Write) line is ends = absurd (cc is)
turned start taken groups rest left (Err error.Memory) line is ends = absurd (cc is)
turned start taken groups rest left (Err error.TooMuch) line is ends = absurd (cc is)
turned start taken groups rest left (Err (error.NoGroup from last)) line is ends = absurd (cc is)

-- ... and all groups before it are in
turned_in : (result : Result (Unit {0}) ShipError) (line : List ℕ) (In : Type 0) → turned_away_line result ≡ Some line → UnlessCut result In → In
turned_in (Err (error.Repeat number last)) line In is all = all
turned_in (Err (error.Gap number last)) line In is all = all
turned_in (Err (error.Base number)) line In is all = all
turned_in (Err (error.Stream offset)) line In is all = all
turned_in (Ok done) line In is all = absurd (cc is)
turned_in (Err error.NotAStore) line In is all = absurd (cc is)
turned_in (Err (error.Damaged page)) line In is all = absurd (cc is)
turned_in (Err error.Disk) line In is all = absurd (cc is)
turned_in (Err error.Read) line In is all = absurd (cc is)
turned_in (Err error.Write) line In is all = absurd (cc is)
turned_in (Err error.Memory) line In is all = absurd (cc is)
turned_in (Err error.TooMuch) line In is all = absurd (cc is)
turned_in (Err (error.NoGroup from last)) line In is all = absurd (cc is)

-- then something was taken
not_untaken : (was : Image) (result : Result (Unit {0}) ShipError) (line : List ℕ) → turned_away_line result ≡ Some line → IsUnapplied was result → ⊥
not_untaken was (Err error.NotAStore) line is why = cc is
not_untaken was (Err (error.Damaged page)) line is why = cc is
not_untaken was (Err error.Disk) line is why = cc is
not_untaken was (Err error.Memory) line is why = cc is
not_untaken was (Ok done) line is why = why
not_untaken was (Err error.Write) line is why = why
not_untaken was (Err error.Read) line is why = why
not_untaken was (Err error.TooMuch) line is why = why
not_untaken was (Err (error.NoGroup from last)) line is why = why
not_untaken was (Err (error.Repeat number last)) line is why = why
not_untaken was (Err (error.Gap number last)) line is why = why
not_untaken was (Err (error.Base number)) line is why = why
not_untaken was (Err (error.Stream offset)) line is why = why

module _ {D : Type 0} {d : Ghosts D} {a b : D} where
  -- what came of the call is this status
  receives_by : (result : Result (Unit {0}) ShipError) (status : Status) →
      ((start : Pages) (taken : List ℕ) (groups : List Group) (rest : List ℕ) → EndsApplying start taken groups rest (d.beside b).input result → EndsTaking start taken groups rest (d.beside b).input status) →
      ((start : Pages) (taken : List ℕ) (groups : List Group) (rest : List ℕ) → EndsApplying start taken groups rest (d.beside b).input result → UnlessCut result (AreIn d start groups a b) →
      EndsApplied d start groups rest status a b) →
      ((was : Image) → IsUnapplied was result → IsUntaken was status) → (IsApplyCause d result a b → IsApplyingCaused d status a b) → ReceivesStream d result a b → ReceivesGroups d status a b
  receives_by result status ends_as in_as untaken_as raised_as receives = record {
    from = λ was settled told. elim (receives.from was settled told) [
      | inl from ↦ inl (record {
        opened = from.opened;
        whole = from.whole;
        taken = from.taken;
        takes = from.takes;
        few = from.few;
        groups = (from.applies).groups;
        rest = (from.applies).rest;
        begins = (from.applies).begins;
        in_turn = (from.applies).in_turn;
        why = ends_as (replay was) from.taken (from.applies).groups (from.applies).rest (from.applies).why;
        shows = λ whole.
            let shows = (from.applies).shows whole told in
            record {
              time = elapsed_weaker shows.time (λ s h. inl h);
              all_in = in_as (replay was) from.taken (from.applies).groups (from.applies).rest (from.applies).why shows.all_in;
            };
      })
      | inr (why, still) ↦ inr (untaken_as was why, still)
    ];
    cause = raised_as receives.cause;
    told = receives.told;
    bounded = taken_few receives.bounded;
    counts = record { read = receives.in_faults_later; written = receives.out_faults_later };
    faults_later = receives.faults_later;
  }

  -- groups were received
  pub receives_as : (result : Result (Unit {0}) ShipError) → turned_away_line result ≡ None → ReceivesStream d result a b → ReceivesGroups d (applying_status result) a b
  receives_as result none receives =
      receives_by result (applying_status result) (λ start taken groups rest ends. ends_taking start taken groups rest (d.beside b).input result none ends)
      (λ start taken groups rest ends all. ends_in d a b start groups rest taken (d.beside b).input result ends all) (λ was why. untaken was result why) (applying_raised d a b result) receives

  -- ... and there was no memory to say why one wasn't applied
  pub receives_starved : (result : Result (Unit {0}) ShipError) → ReceivesStream d result a b → ReceivesGroups d NoMemory a b
  receives_starved result receives = receives_by result NoMemory (λ start taken groups rest ends. tt) (λ start taken groups rest ends all. tt) (λ was why. tt) (λ cause. tt) receives

  -- nothing is done
  pub receives_nothing : IsStill d a b → ReceivesGroups d NoMemory a b
  receives_nothing still =
      let takes = still_takes still in
      record {
        from = λ was settled told. inr (tt, still);
        cause = tt;
        told = takes.told;
        bounded = record { taken = []; few = (let e : 0 ≤ most_input = omega arith in e); takes = takes.input_stays };
        counts = record {
          read = (let same : (d.beside b).in_faults ≡ (d.beside a).in_faults = takes.in_faults_stay in omega (arith, same));
          written = takes.out_faults_later;
        };
        faults_later = takes.faults_later;
      }

  -- it isn't answered by how command lines are to be written
  pub apply_not_usage : ReceivesGroups d Usage a b → ⊥
  apply_not_usage receives = receives.cause

module _ {D : Type 0} {d : Ghosts D} {b c : D} (result : Result (Unit {0}) ShipError) (line : List ℕ) (is : turned_away_line result ≡ Some line) (gives : GivesAlone d line b c) where
  why_away : (start : Pages) (taken : List ℕ) (groups : List Group) (rest : List ℕ) → EndsApplying start taken groups rest (d.beside b).input result → IsTurnedAway start groups rest (d.beside c).input line
  why_away start taken groups rest ends =
      subst (λ (left : Option (List ℕ)). IsTurnedAway start groups rest left line) (sym gives.input_stays) (turned start taken groups rest (d.beside b).input result line is ends)

  ends_away : (start : Pages) (taken : List ℕ) (groups : List Group) (rest : List ℕ) → EndsApplying start taken groups rest (d.beside b).input result → (status : Status) →
      SaysLine line Refused status (d.beside b) (d.beside c) → EndsTaking start taken groups rest (d.beside c).input status
  ends_away start taken groups rest ends status (inl (same, out)) = subst (λ (s : Status). EndsTaking start taken groups rest (d.beside c).input s) (sym same) (line, why_away start taken groups rest ends)
  ends_away start taken groups rest ends status (inr (same, fails)) = subst (λ (s : Status). EndsTaking start taken groups rest (d.beside c).input s) (sym same) tt

module _ {D : Type 0} {d : Ghosts D} {a b c : D} (result : Result (Unit {0}) ShipError) (line : List ℕ) (is : turned_away_line result ≡ Some line) (gives : GivesAlone d line b c) where
  -- behind the groups the line was given
  module _ (start : Pages) (groups : List Group) (rest : List ℕ) (away : IsTurnedAway start groups rest (d.beside c).input line) (shows : ShowsEnd d start groups result a b) where
    all_in : AreIn d start groups a b
    all_in = turned_in result line (AreIn d start groups a b) is shows.all_in

    line_shown : (s : Stood) → AppendsPrefix line (d.beside b).output s.output × d.may_leave b s.image → ShowsTaken (d.beside a).output start groups rest (d.beside c).input s
    line_shown s (prefix, left) =
        let (n, out) = so_many line (d.beside b).output s.output prefix in
        let image : replay s.image ≡ over_all start groups = ap replay ((all_in.settled).only s.image left) ∙ all_in.is in
        inr (line, away, ((n, appends_then (applied_text groups) (take n line) (d.beside a).output (d.beside b).output s.output all_in.out out), image))

    turns_away : IsSome (d.contents c) → Appends line (d.beside b).output (d.beside c).output → TurnsAway d start groups rest a c
    turns_away told out = record {
      line = line;
      why = away;
      out = appends_then (applied_text groups) line (d.beside a).output (d.beside b).output (d.beside c).output all_in.out out;
      image = all_in.image;
      settled = settled_kept gives.areas.contents_stay told (λ i left. (gives.areas.images_stay i).0 left) all_in.settled;
      is = all_in.is;
      logged = all_in.logged;
    }

    in_away : IsSome (d.contents c) → (status : Status) → SaysLine line Refused status (d.beside b) (d.beside c) → EndsApplied d start groups rest status a c
    in_away told status (inl (same, out)) = subst (λ (s : Status). EndsApplied d start groups rest s a c) (sym same) (turns_away told out)
    in_away told status (inr (same, fails)) = subst (λ (s : Status). EndsApplied d start groups rest s a c) (sym same) tt

    shows_away : IsSome (d.contents c) → (status : Status) → SaysLine line Refused status (d.beside b) (d.beside c) → ShowsGroups d start groups rest status a c
    shows_away told status says = record {
      time = elapsed_then {P = ShowsTaken (d.beside a).output start groups rest (d.beside c).input} (elapsed_weaker shows.time (λ s h. inl h)) gives.areas.time line_shown;
      all_in = in_away told status says;
    }

  away_cause : ReceivesStream d result a b → (status : Status) → SaysLine line Refused status (d.beside b) (d.beside c) → IsApplyingCaused d status a c
  away_cause receives status (inl (is, out)) = subst (λ (s : Status). IsApplyingCaused d s a c) (sym is) tt
  away_cause receives status (inr (is, fails)) =
      subst (λ (s : Status). IsApplyingCaused d s a c) (sym is)
      (rose_since (d.beside a).out_faults (d.beside b).out_faults (d.beside c).out_faults receives.out_faults_later fails.rose)

  still_takes_few : TakesAtMost (d.beside a).input (d.beside b).input → TakesFew (d.beside a).input (d.beside c).input
  still_takes_few few = record {
    taken = few.taken;
    few = few.few;
    takes = subst (λ (left : Option (List ℕ)). Takes few.taken (d.beside a).input left) (sym gives.input_stays) few.takes;
  }

  -- a group was turned away, and that was said
  pub receives_refused : ReceivesStream d result a b → (status : Status) → SaysLine line Refused status (d.beside b) (d.beside c) → ReceivesGroups d status a c
  receives_refused receives status says =
      let told_there : IsSome (d.contents c) → IsSome (d.contents b) = told_at_first (d.contents b) (d.contents c) gives.areas.contents_stay in
      record {
        from = λ was settled told. elim (receives.from was settled (told_there told)) [
          | inl from ↦ inl (record {
            opened = from.opened;
            whole = from.whole;
            taken = from.taken;
            takes = subst (λ (left : Option (List ℕ)). Takes from.taken (d.beside a).input left) (sym gives.input_stays) from.takes;
            few = from.few;
            groups = (from.applies).groups;
            rest = (from.applies).rest;
            begins = (from.applies).begins;
            in_turn = (from.applies).in_turn;
            why = ends_away result line is gives (replay was) from.taken (from.applies).groups (from.applies).rest (from.applies).why status says;
            shows = λ whole.
                shows_away (replay was) (from.applies).groups (from.applies).rest (why_away result line is gives (replay was) from.taken (from.applies).groups (from.applies).rest (from.applies).why)
                ((from.applies).shows whole (told_there told)) told status says;
          })
          | inr (why, still) ↦ absurd (not_untaken was result line is why)
        ];
        cause = away_cause receives status says;
        told = λ told. receives.told (told_there told);
        bounded = still_takes_few receives.bounded;
        counts = record {
          read = (let first : (d.beside a).in_faults ≤ (d.beside b).in_faults = receives.in_faults_later in
              let same : (d.beside c).in_faults ≡ (d.beside b).in_faults = gives.in_faults_stay in omega (arith, first, same));
          written = (let first : (d.beside a).out_faults ≤ (d.beside b).out_faults = receives.out_faults_later in
              let later : (d.beside b).out_faults ≤ (d.beside c).out_faults = gives.areas.out_faults_later in omega (arith, first, later));
        };
        faults_later = let first : d.faults a ≤ d.faults b = receives.faults_later in let same : d.faults c ≡ d.faults b = gives.areas.faults_stay in omega (arith, first, same);
      }

-- Streams that are applied to the end:

-- pages in a state stay dense, and no pages are
pub stay_dense : (start : Pages) (groups : List Group) → IsDense start → StandBehindEach start groups → StayDense start groups
stay_dense start [] whole stand = whole
stay_dense start (g ∷ gs) whole ((state, stands), more) =
    let after = over (entry_pages g.entries) start in
    (whole, stay_dense after gs (dense after (stands.0) stands.1) more)

-- the number of the last group is one, and there is none where no page is
one_last : (pages : Pages) (one other : ℕ) → IsAtNumber pages one → IsAtNumber pages other → one ≡ other
one_last pages one other (head, headed, is) (head_too, headed_too, is_too) = sym is ∙ ap (λ (h : Header). h.number) (one_head headed headed_too) ∙ is_too

none_at : (pages : Pages) (last : ℕ) → AreNone pages → IsAtNumber pages last → ⊥
none_at pages last none (head, headed, is) = none_headed pages head (none 0) headed

-- what is refused nowhere isn't turned away
not_away : (start : Pages) (groups : List Group) (rest left line : List ℕ) → RefusesNothing start groups rest left → IsTurnedAway start groups rest (Some left) line → ⊥
not_away start groups rest left _ passes (Repeated number last out low) = passes.turn number last out
not_away start groups rest left _ passes (Early number last out high) = passes.turn number last out
not_away start groups rest left _ passes (NoBase number lack) = passes.base number lack
not_away start groups rest left _ passes (NoGroup offset lack) = passes.stream offset lack

none_good : IsGood [] → ⊥
none_good good = let whole = good.whole in omega (arith, whole)

module _ {D : Type 0} {d : Ghosts D} {a b : D} (was : Image) (input : List ℕ) (groups : List Group) (calm : IsCalm d was input a b) (whole : Begins groups input [])
    (turns : ComeInTurn (replay was) groups) where
  -- so many bytes aren't too many
  too_many : (taken left : List ℕ) → input ≡ taken ++ left → length taken ≡ most_input → ⊥
  too_many taken left same long =
      let parts : length input ≡ length (taken ++ left) = ap length same in
      let few : length input < most_input = calm.few in
      omega (arith, parts, few, long, length-append taken left)

  module _ (taken left rest : List ℕ) (mine : List Group) (same : input ≡ taken ++ left) (is_left : (d.beside b).input ≡ Some left) (begins : Begins mine taken rest) where
    taken_ends : (status : Status) → EndsTaking (replay was) taken mine rest (d.beside b).input status → IsApplyingCaused d status a b → EndsWell status
    taken_ends Done shows cause = tt
    taken_ends NoMemory shows cause = tt
    taken_ends DiskFault shows cause = absurd (calm.disk cause)
    taken_ends ReadFault shows cause = absurd (calm.read cause.0)
    taken_ends WriteFault shows cause = absurd (calm.written cause)
    taken_ends TooMuch shows cause = absurd (too_many taken left same shows.1)
    taken_ends NotAStore shows cause = absurd shows
    taken_ends (Damaged page) shows cause = absurd shows
    taken_ends Usage shows cause = absurd cause
    taken_ends Refused (line, away) cause =
        let stream : IsStream (taken ++ left) groups [] = record { begins = subst (λ (bytes : List ℕ). Begins groups bytes []) same whole; ends = none_good } in
        absurd (
        not_away (replay was) mine rest left line (groups_in_turn_pass (replay was) taken left groups mine rest stream turns begins)
        (subst (λ (o : Option (List ℕ)). IsTurnedAway (replay was) mine rest o line) is_left away)
        )

  untaken_ends : (held : Option State) → Recovers was held → (status : Status) → IsUntaken was status → IsApplyingCaused d status a b → EndsWell status
  untaken_ends None none NotAStore (no_header, (p, some)) cause = absurd (let gone : IsSome {T = List ℕ} None = subst (λ (o : Option (List ℕ)). IsSome o) (none p) some in cc gone)
  untaken_ends (Some state) stands NotAStore (no_header, page) cause = absurd (no_header (states_are_whole.mark was state stands))
  untaken_ends None none (Damaged page) ((bytes, there, begins), shows) cause = absurd (let gone : None ≡ Some bytes = sym (none 0) ∙ there in cc gone)
  untaken_ends (Some state) stands (Damaged page) (mark, shows) cause = absurd (elim shows [
    | inl wrong ↦ states_are_whole.header was state page stands wrong
    | inr lost ↦ states_are_whole.lost was state page stands lost
  ])
  untaken_ends held recovers DiskFault why cause = absurd (calm.disk cause)
  untaken_ends held recovers NoMemory why cause = tt
  untaken_ends held recovers Done why cause = absurd why
  untaken_ends held recovers Usage why cause = absurd why
  untaken_ends held recovers Refused why cause = absurd why
  untaken_ends held recovers ReadFault why cause = absurd why
  untaken_ends held recovers WriteFault why cause = absurd why
  untaken_ends held recovers TooMuch why cause = absurd why

  received_ends : (held : Option State) → Recovers was held → (status : Status) → ReceivesGroups d status a b → EndsWell status
  received_ends held recovers status receives = elim (receives.from was calm.settled calm.disk_told) [
    | inl takes ↦
        let (left, is_left) = some_of (d.beside b).input calm.input_told in
        let had : (d.beside a).input ≡ Some (takes.taken ++ left) = subst (λ (o : Option (List ℕ)). Takes takes.taken (d.beside a).input o) is_left takes.takes in
        let same : input ≡ takes.taken ++ left = some_same (sym calm.input_is ∙ had) in
        taken_ends takes.taken left takes.rest takes.groups same is_left takes.begins status takes.why receives.cause
    | inr (why, still) ↦ untaken_ends held recovers status why receives.cause
  ]
    where
      some_same : {x y : List ℕ} → ◌≡◌ {A = Option (List ℕ)} (Some x) (Some y) → x ≡ y
      some_same is = cc

-- a disk with pages and without a store
module _ {D : Type 0} {d : Ghosts D} {a b : D} (was : Image) (calm : IsUntroubled d was a b) (none : HasHeader was → ⊥) (page : HasPage was) where
  not_open : IsOpenFor (replay was) → ⊥
  not_open (inl (last, (header, headed, is))) = none (states_are_whole.headed (replay was) header headed)
  not_open (inr nothing) = let (p, some) = page in let gone : IsSome {T = List ℕ} None = subst (λ (o : Option (List ℕ)). IsSome o) (nothing p) some in cc gone

  untaken_without : (status : Status) → IsUntaken was status → IsApplyingCaused d status a b → (status ≡ NotAStore) ⊎ (status ≡ NoMemory)
  untaken_without NotAStore why cause = inl refl
  untaken_without NoMemory why cause = inr refl
  untaken_without (Damaged page) why cause = absurd (none why.0)
  untaken_without DiskFault why cause = absurd (calm.disk cause)
  untaken_without Done why cause = absurd why
  untaken_without Usage why cause = absurd why
  untaken_without Refused why cause = absurd why
  untaken_without ReadFault why cause = absurd why
  untaken_without WriteFault why cause = absurd why
  untaken_without TooMuch why cause = absurd why

  received_without : (status : Status) → ReceivesGroups d status a b → (status ≡ NotAStore) ⊎ (status ≡ NoMemory)
  received_without status receives = elim (receives.from was calm.settled calm.still_told) [
    | inl takes ↦ absurd (not_open takes.opened)
    | inr (why, still) ↦ untaken_without status why receives.cause
  ]

-- how such a run ends where all is well
pub apply_completes : {D : Type 0} {d : Ghosts D} {a b : D} (status : Status) → ReceivesGroups d status a b → CompletesApplying d status a b
apply_completes status receives = record {
  store = λ was held input groups calm recovers whole turns stand. received_ends was input groups calm whole turns held recovers status receives;
  no_store = λ was calm none page. received_without was calm none page status receives;
}

-- What isn't applied is turned away for one reason:

-- out of turn, by one number and one last number
same_turn : (pages : Pages) (rest : List ℕ) (number last number_too last_too : ℕ) → IsOutOfTurn pages rest number last → IsOutOfTurn pages rest number_too last_too →
    (number ≡ number_too) × (last ≡ last_too)
same_turn pages rest number last number_too last_too out out_too = (out.is ∙ sym out_too.is, one_last pages last last_too out.at out_too.at)

no_group_good : (groups : List Group) (rest left : List ℕ) (offset : ℕ) → IsNoGroup groups rest offset (Some left) → IsGood rest → ⊥
no_group_good groups rest left offset lack good = lack.none (good-append rest left good).good

pub apply_together : ApplyHoldsTogether
apply_together start groups rest left _ _ (Repeated n l a low) (Repeated m k b low_too) = let same = same_turn (over_all start groups) rest n l m k a b in ap₂ repeat_line same.0 same.1
apply_together start groups rest left _ _ (Early n l a high) (Early m k b high_too) = let same = same_turn (over_all start groups) rest n l m k a b in ap₂ gap_line same.0 same.1
apply_together start groups rest left _ _ (NoBase n a) (NoBase m b) = ap base_line (a.is ∙ sym b.is)
apply_together start groups rest left _ _ (NoGroup n a) (NoGroup m b) = ap stream_line (a.is ∙ sym b.is)
apply_together start groups rest left _ _ (Repeated n l a low) (Early m k b high) =
    let (number, last) = same_turn (over_all start groups) rest n l m k a b in absurd (omega (arith, low, high, number, last))
apply_together start groups rest left _ _ (Early n l a high) (Repeated m k b low) =
    let (number, last) = same_turn (over_all start groups) rest n l m k a b in absurd (omega (arith, low, high, number, last))
apply_together start groups rest left _ _ (Repeated n l a low) (NoBase m b) = absurd (none_at (over_all start groups) l b.none a.at)
apply_together start groups rest left _ _ (Early n l a high) (NoBase m b) = absurd (none_at (over_all start groups) l b.none a.at)
apply_together start groups rest left _ _ (NoBase m b) (Repeated n l a low) = absurd (none_at (over_all start groups) l b.none a.at)
apply_together start groups rest left _ _ (NoBase m b) (Early n l a high) = absurd (none_at (over_all start groups) l b.none a.at)
apply_together start groups rest left _ _ (NoGroup m b) (Repeated n l a low) = absurd (no_group_good groups rest left m b a.good)
apply_together start groups rest left _ _ (NoGroup m b) (Early n l a high) = absurd (no_group_good groups rest left m b a.good)
apply_together start groups rest left _ _ (NoGroup m b) (NoBase n a) = absurd (no_group_good groups rest left m b a.good)
apply_together start groups rest left _ _ (Repeated n l a low) (NoGroup m b) = absurd (no_group_good groups rest left m b a.good)
apply_together start groups rest left _ _ (Early n l a high) (NoGroup m b) = absurd (no_group_good groups rest left m b a.good)
apply_together start groups rest left _ _ (NoBase n a) (NoGroup m b) = absurd (no_group_good groups rest left m b a.good)
