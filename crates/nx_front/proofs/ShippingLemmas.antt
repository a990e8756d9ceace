-- How groups are given, from what was sent of the store and what was said then.
use Rattle.std.proofs.Common.{◌≡◌, ◌≢◌, ◌⊎◌, inl, inr, ℕ, zero, suc, ◌≤◌, Bool, true, false, not, List, [], ◌∷◌, ◌++◌, take, Option, None, Some, IsSome, Result, Ok, Err, refl, sym, ap, ◌∙◌, subst, arith}
use Rattle.std.specs.Prelude.{◌==◌, ◌&&◌, ◌||◌, if◌then◌else◌, Contains}
use Rattle.std.specs.List.{list_any}
use Rattle.std.proofs.lemmas.Bool.{eq-eqb, ne_eqb}
use Rattle.nx_host.specs.declared.disk.Disk.{Ghosts}
use Rattle.nx_host.specs.Disk.{Image, Keeps, Rose}
use Rattle.nx_host.specs.Host.{Appends, AppendsPrefix}
use Rattle.nx_host.specs.Time.{elapsed_then, elapsed_weaker}
use Rattle.nx_host.specs.Still.{IsStill}
use Rattle.nx_host.specs.Phase.{GivesAlone}
use Rattle.nx_host.proofs.DiskLemmas.{keeps_self, keeps_then}
use Rattle.nx_replay.specs.Log.{Group, groups, replay}
use Rattle.nx_holdings.specs.declared.header.Header.{Header}
use Rattle.nx_ship.specs.Stream.{stream_of}
use Rattle.nx_ship.specs.Next.{number_following, IsHeadedBy}
use Rattle.nx_ship.specs.Sending.{from_number, shipment, Sends, EndsShipping, ShipsFrom, IsUnshipped, IsShipCause, Ships}
use Rattle.nx_ship.specs.declared.error.Start.{Start}
use Rattle.nx_ship.specs.declared.error.Start.TheVariants.{All, Number}
use Rattle.nx_ship.specs.declared.error.ShipError.{ShipError}
use Rattle.nx_ship.specs.declared.error.ShipError.TheVariants as error
use Rattle.nx_ship.proofs.RecoveryLemmas.{states_are_whole}
use Rattle.nx_ship.proofs.EntryLemmas.{one_head}
use Rattle.nx_records.specs.Records.{HasHeader}
use Rattle.nx_state.specs.State.{State}
use Rattle.nx_state.specs.Stands.{Recovers}
use Rattle.nx_store.specs.Store.{TakesNone}
use Rattle.nx_filters.specs.declared.status.Status.{Status}
use Rattle.nx_filters.specs.declared.status.Status.TheVariants.{Done, Usage, Refused, DiskFault, ReadFault, WriteFault, NoMemory, NotAStore, Damaged, TooMuch}
use Rattle.nx_filters.proofs.OutcomeLemmas.{rose_since, told_at_first}
use Rattle.nx_front.specs.Init.{SaysLine, IsUntroubled}
use Rattle.nx_front.specs.Serving.{EndsWell}
use Rattle.nx_front.specs.Generating.{EndsRefusing}
use Rattle.nx_front.specs.Shipping.{no_group_line, has_group, lacks_group, lacking_line, shipment_text, EndsGivingGroups, GivesGroups, IsUngiven, IsShippingCaused, ShipsGroups, CanShip, CompletesShipping, HasOneShipment}
use Rattle.nx_front.specs.Endings.{shipping_status, said_lacking}
use Rattle.nx_front.proofs.GeneratingLemmas.{takes_then, still_takes, gives_takes}
use Rattle.nx_front.proofs.InitLemmas.{says_after, line_told}

-- The groups of a log:

-- none has the number where there are none from it on
none_from : (number : ℕ) (gs : List Group) → from_number number gs ≡ [] → list_any (λ g. g.number == number) gs ≡ false
none_from number [] none = refl
none_from number (g ∷ gs) none = go (g.number == number) (none_from number gs) none
  where
    go : (t : Bool) → (from_number number gs ≡ [] → list_any (λ h. h.number == number) gs ≡ false) → (if t then g ∷ gs else from_number number gs) ≡ [] →
        (t || list_any (λ h. h.number == number) gs) ≡ false
    go true more is = absurd (cc is)
    go false more is = more is

-- ... and there are none where none has it
from_none : (number : ℕ) (gs : List Group) → list_any (λ g. g.number == number) gs ≡ false → from_number number gs ≡ []
from_none number [] none = refl
from_none number (g ∷ gs) none = go (g.number == number) (from_none number gs) none
  where
    go : (t : Bool) → (list_any (λ h. h.number == number) gs ≡ false → from_number number gs ≡ []) → (t || list_any (λ h. h.number == number) gs) ≡ false →
        (if t then g ∷ gs else from_number number gs) ≡ []
    go true more is = absurd (let wrong : true ≡ false = is in cc wrong)
    go false more is = more is

-- a group of them with the number is one
one_has : (number : ℕ) (gs : List Group) (g : Group) → Contains gs g → g.number ≡ number → list_any (λ h. h.number == number) gs ≡ true
one_has number [] g (k, low, is) same = absurd (omega (arith, low))
one_has number (h ∷ gs) g (zero, low, is) same =
    let first : (h.number == number) ≡ true = eq-eqb h.number number (ap (λ (x : Group). x.number) is ∙ same) in
    ap (λ (t : Bool). t || list_any (λ (x : Group). x.number == number) gs) first
one_has number (h ∷ gs) g (suc k, low, is) same = go (h.number == number) (one_has number gs g (k, omega (arith, low), is) same)
  where
    go : (t : Bool) → list_any (λ x. x.number == number) gs ≡ true → (t || list_any (λ x. x.number == number) gs) ≡ true
    go true some = refl
    go false some = some

-- Whether there is nothing to ship:

module _ (was : Image) (header : Header) where
  -- then nothing is shipped
  none_shipped : (start : Start) → lacks_group was header start ≡ true → shipment was header start ≡ []
  none_shipped All lacks = absurd (let wrong : false ≡ true = lacks in cc wrong)
  none_shipped (Number number) lacks = go (has_group was number) refl lacks
    where
      go : (t : Bool) → has_group was number ≡ t → (not t && not (number == number_following header.number)) ≡ true → shipment was header (Number number) ≡ []
      go true is lack = absurd (let wrong : false ≡ true = lack in cc wrong)
      go false is lack = from_none number (groups was.log) is

  -- where nothing is shipped, and the number isn't the next
  lacks_one : (number : ℕ) → shipment was header (Number number) ≡ [] → number ≢ number_following header.number → lacks_group was header (Number number) ≡ true
  lacks_one number none other =
      let lack : has_group was number ≡ false = none_from number (groups was.log) none in
      let differs : (number == number_following header.number) ≡ false = ne_eqb number (number_following header.number) other in
      ap (λ (t : Bool). not t && not (number == number_following header.number)) lack ∙ ap (λ (t : Bool). true && not t) differs

  next_is : (number : ℕ) → number ≡ number_following header.number → (t : Bool) → (not t && not (number == number_following header.number)) ≡ false
  next_is number next true = refl
  next_is number next false = ap (λ (t : Bool). true && not t) (eq-eqb number (number_following header.number) next)

  -- something is, or the number is the next
  lacks_none : (start : Start) → ((number : ℕ) → start ≡ Number number → shipment was header start ≡ [] → number ≡ number_following header.number) → lacks_group was header start ≡ false
  lacks_none All next = refl
  lacks_none (Number number) next = go (has_group was number) refl
    where
      go : (t : Bool) → has_group was number ≡ t → (not t && not (number == number_following header.number)) ≡ false
      go true is = refl
      go false is = next_is number (next number refl (from_none number (groups was.log) is)) false

  -- what can be shipped isn't lacking
  can_ship : (start : Start) → CanShip was header start → lacks_group was header start ≡ false
  can_ship All can = refl
  can_ship (Number number) (inl (g, among, is)) = ap (λ (t : Bool). not t && not (number == number_following header.number)) (one_has number (groups was.log) g among is)
  can_ship (Number number) (inr next) = next_is number next (has_group was number)

  -- the text, with and without a group
  text_some : (start : Start) → lacks_group was header start ≡ false → shipment_text was header start ≡ stream_of (shipment was header start)
  text_some start lacks = ap (λ (t : Bool). if t then lacking_line header start else stream_of (shipment was header start)) lacks

  text_none : (start : Start) → lacks_group was header start ≡ true → shipment_text was header start ≡ lacking_line header start
  text_none start lacks = ap (λ (t : Bool). if t then lacking_line header start else stream_of (shipment was header start)) lacks

-- nothing is a first part of any text
none_prefix : (text : List ℕ) (old now : Option (List ℕ)) → AppendsPrefix [] old now → AppendsPrefix text old now
none_prefix text old None prefix = tt
none_prefix text old (Some bytes) (was, n, is, grown) = (was, 0, is, grown ∙ ap (λ (x : List ℕ). was ++ x) (none n))
  where
    none : (n : ℕ) → ◌≡◌ {A = List ℕ} (take n []) []
    none zero = refl
    none (suc n) = refl

-- a first part of the stream is one of the text
stream_prefix : (was : Image) (header : Header) (start : Start) (old now : Option (List ℕ)) → AppendsPrefix (stream_of (shipment was header start)) old now →
    AppendsPrefix (shipment_text was header start) old now
stream_prefix was header start old now prefix = go (lacks_group was header start) refl
  where
    go : (t : Bool) → lacks_group was header start ≡ t → AppendsPrefix (shipment_text was header start) old now
    go true lacks =
        none_prefix (shipment_text was header start) old now
        (subst (λ (gs : List Group). AppendsPrefix (stream_of gs) old now) (none_shipped was header start lacks) prefix)
    go false lacks = subst (λ (text : List ℕ). AppendsPrefix text old now) (sym (text_some was header start lacks)) prefix

ungiven : (was : Image) (result : Result (Unit {0}) ShipError) → IsUnshipped was result → IsUngiven was (shipping_status result)
ungiven was (Err error.NotAStore) why = why
ungiven was (Err (error.Damaged page)) why = why
ungiven was (Err error.Disk) why = tt
ungiven was (Err error.Memory) why = tt
ungiven was (Ok done) why = absurd why
ungiven was (Err error.Write) why = absurd why
ungiven was (Err error.Read) why = absurd why
ungiven was (Err error.TooMuch) why = absurd why
ungiven was (Err (error.NoGroup from last)) why = absurd why
ungiven was (Err (error.Repeat number last)) why = absurd why
ungiven was (Err (error.Gap number last)) why = absurd why
ungiven was (Err (error.Base number)) why = absurd why
ungiven was (Err (error.Stream offset)) why = absurd why

module _ {D : Type 0} (d : Ghosts D) (a b : D) where
  ends_giving : (was : Image) (header : Header) (start : Start) (result : Result (Unit {0}) ShipError) → EndsShipping d was header start result a b →
      EndsGivingGroups d was header start (shipping_status result) a b
  ends_giving was header start (Ok done) ends =
      let lacks : lacks_group was header start ≡ false = lacks_none was header start ends.1 in (
        lacks,
        subst (λ (text : List ℕ). Appends text (d.beside a).output (d.beside b).output) (sym (text_some was header start lacks)) ends.0,
        ends.2,
      )
  ends_giving was header start (Err (error.Damaged page)) ends = ends
  ends_giving was header start (Err error.NotAStore) ends = ends
  ends_giving was header start (Err error.Disk) ends = tt
  ends_giving was header start (Err error.Write) ends = tt
  ends_giving was header start (Err error.Memory) ends = tt
  ends_giving was header start (Err error.Read) ends = tt
  ends_giving was header start (Err error.TooMuch) ends = tt
  ends_giving was header start (Err (error.NoGroup from last)) ends = tt
  ends_giving was header start (Err (error.Repeat number last)) ends = tt
  ends_giving was header start (Err (error.Gap number last)) ends = tt
  ends_giving was header start (Err (error.Base number)) ends = tt
  ends_giving was header start (Err (error.Stream offset)) ends = tt

  raised : (result : Result (Unit {0}) ShipError) → IsShipCause d result a b → IsShippingCaused d (shipping_status result) a b
  raised (Ok done) cause = tt
  raised (Err error.NotAStore) cause = cause
  raised (Err (error.Damaged page)) cause = tt
  raised (Err error.Disk) cause = cause
  raised (Err error.Write) cause = cause
  raised (Err error.Memory) cause = tt
  raised (Err error.Read) cause = tt
  raised (Err error.TooMuch) cause = tt
  raised (Err (error.NoGroup from last)) cause = tt
  raised (Err (error.Repeat number last)) cause = tt
  raised (Err (error.Gap number last)) cause = tt
  raised (Err (error.Base number)) cause = tt
  raised (Err (error.Stream offset)) cause = tt

module _ {D : Type 0} {d : Ghosts D} {a b : D} where
  sends_takes : {bytes : List ℕ} → Sends d bytes a b → TakesNone d a b
  sends_takes sends = record {
    told = told_at_first (d.contents a) (d.contents b) sends.contents_stay;
    input_stays = sends.input_stays;
    in_faults_stay = sends.in_faults_stay;
    out_faults_later = sends.out_faults_later;
    faults_later = sends.faults_later;
  }

  -- what came of the call is this status
  ships_by : (start : Start) (result : Result (Unit {0}) ShipError) (status : Status) →
      ((was : Image) (header : Header) → EndsShipping d was header start result a b → EndsGivingGroups d was header start status a b) →
      ((was : Image) → IsUnshipped was result → IsUngiven was status) → (IsShipCause d result a b → IsShippingCaused d status a b) → Ships d start result a b → ShipsGroups d start status a b
  ships_by start result status ends_as ungiven_as raised_as ships =
      let (bytes, sends) = ships.sends in
      record {
        from = λ was settled told. elim (ships.from was settled told) [
          | inl from ↦ inl (record {
            header = from.header;
            headed = from.headed;
            time = elapsed_weaker (from.sends).time (λ s h. (stream_prefix was from.header start (d.beside a).output s.output h.0, h.1));
            ends = ends_as was from.header from.ends;
          })
          | inr (why, still) ↦ inr (ungiven_as was why, still)
        ];
        cause = raised_as ships.cause;
        contents_stay = sends.contents_stay;
        images_stay = sends.images_stay;
        time = elapsed_weaker sends.time (λ s h. h.1);
        takes = sends_takes sends;
      }

  -- groups were given
  pub ships_as : (start : Start) (result : Result (Unit {0}) ShipError) → Ships d start result a b → ShipsGroups d start (shipping_status result) a b
  ships_as start result ships =
      ships_by start result (shipping_status result) (λ was header ends. ends_giving d a b was header start result ends) (λ was why. ungiven was result why) (raised d a b result) ships

  -- ... and there was no memory to say that there is no such group
  pub ships_starved : (start : Start) (result : Result (Unit {0}) ShipError) → Ships d start result a b → ShipsGroups d start NoMemory a b
  ships_starved start result ships = ships_by start result NoMemory (λ was header ends. tt) (λ was why. tt) (λ cause. tt) ships

  -- nothing is given
  pub ships_nothing : (start : Start) → IsStill d a b → ShipsGroups d start NoMemory a b
  ships_nothing start still = record {
    from = λ was settled told. inr (tt, still);
    cause = tt;
    contents_stay = subst (λ (o : Option Image). Keeps (d.contents a) o) (sym still.contents_stay) (keeps_self (d.contents a));
    images_stay = still.images_stay;
    time = elapsed_weaker still.time (λ s h. h.1);
    takes = still_takes still;
  }

  -- it isn't answered by how command lines are to be written
  pub ship_not_usage : (start : Start) → ShipsGroups d start Usage a b → ⊥
  ship_not_usage start ships = ships.cause

module _ {D : Type 0} {d : Ghosts D} {a b c : D} (start : Start) (from last : ℕ) (ships : Ships d start (Err (error.NoGroup from last)) a b)
    (gives : GivesAlone d (no_group_line from last) b c) where
  -- there was no such group, and that was said
  refused_from : (was : Image) (sent : ShipsFrom d was start (Err (error.NoGroup from last)) a b) (status : Status) →
      SaysLine (no_group_line from last) Refused status (d.beside b) (d.beside c) → GivesGroups d was start status a c
  refused_from was sent status says =
      let (begins, none, other, is_last, still) = sent.ends in
      let lacks : lacks_group was sent.header start ≡ true =
      subst (λ (s : Start). lacks_group was sent.header s ≡ true) (sym begins)
      (lacks_one was sent.header from (subst (λ (s : Start). shipment was sent.header s ≡ []) begins none) other) in
      let line : lacking_line sent.header start ≡ no_group_line from last =
      ap (λ (s : Start). lacking_line sent.header s) begins ∙ ap (λ (n : ℕ). no_group_line from n) (sym is_last) in
      let text : shipment_text was sent.header start ≡ no_group_line from last = text_none was sent.header start lacks ∙ line in
      record {
        header = sent.header;
        headed = sent.headed;
        time = elapsed_weaker (line_told (no_group_line from last) still gives).time
            (λ s h. (subst (λ (x : List ℕ). AppendsPrefix x (d.beside a).output s.output) (sym text) h.0, h.1));
        ends = elim (says_after (no_group_line from last) Refused status (d.beside a) (d.beside b) (d.beside c) still.beside_stays says) [
          | inl (is, out) ↦
              subst (λ (s : Status). EndsGivingGroups d was sent.header start s a c) (sym is)
              (lacks, subst (λ (x : List ℕ). Appends x (d.beside a).output (d.beside c).output) (sym text) out)
          | inr (is, fails) ↦ subst (λ (s : Status). EndsGivingGroups d was sent.header start s a c) (sym is) tt
        ];
      }

  said_cause : (status : Status) → SaysLine (no_group_line from last) Refused status (d.beside b) (d.beside c) → IsShippingCaused d status a c
  said_cause status (inl (is, out)) = subst (λ (s : Status). IsShippingCaused d s a c) (sym is) tt
  said_cause status (inr (is, fails)) =
      let (bytes, sends) = ships.sends in
      let earlier : (d.beside a).out_faults ≤ (d.beside b).out_faults = sends.out_faults_later in
      let rose : Rose (d.beside b).out_faults (d.beside c).out_faults = fails.rose in
      subst (λ (s : Status). IsShippingCaused d s a c) (sym is) (rose_since (d.beside a).out_faults (d.beside b).out_faults (d.beside c).out_faults earlier rose)

  refused_as : (status : Status) → SaysLine (no_group_line from last) Refused status (d.beside b) (d.beside c) → ShipsGroups d start status a c
  refused_as status says =
      let (bytes, sends) = ships.sends in
      let told_there : IsSome (d.contents c) → IsSome (d.contents b) = told_at_first (d.contents b) (d.contents c) gives.areas.contents_stay in
      record {
        from = λ was settled told. elim (ships.from was settled (told_there told)) [
          | inl sent ↦ inl (refused_from was sent status says)
          | inr (why, still) ↦ absurd why
        ];
        cause = said_cause status says;
        contents_stay = keeps_then (d.contents a) (d.contents b) (d.contents c) sends.contents_stay gives.areas.contents_stay;
        images_stay = λ i. (
          λ left. (sends.images_stay i).0 ((gives.areas.images_stay i).0 left),
          λ left. (gives.areas.images_stay i).1 ((sends.images_stay i).1 left),
        );
        time = elapsed_then {P = λ s. d.may_leave a s.image} (elapsed_weaker sends.time (λ s h. h.1)) gives.areas.time (λ s h. (sends.images_stay s.image).0 h.1);
        takes = takes_then (sends_takes sends) (gives_takes gives);
      }

pub ships_refused : {D : Type 0} {d : Ghosts D} {a b c : D} (start : Start) (result : Result (Unit {0}) ShipError) (line : List ℕ) → said_lacking result ≡ Some line → GivesAlone d line b c →
    Ships d start result a b → (status : Status) → SaysLine line Refused status (d.beside b) (d.beside c) → ShipsGroups d start status a c
ships_refused {d = d} {a = a} {b = b} {c = c} start (Err (error.NoGroup from last)) line is gives ships status says =
    let same : line ≡ no_group_line from last = sym (said_same is) in
    refused_as start from last ships (subst (λ (l : List ℕ). GivesAlone d l b c) same gives) status
    (subst (λ (l : List ℕ). SaysLine l Refused status (d.beside b) (d.beside c)) same says)
  where
    said_same : {x y : List ℕ} → ◌≡◌ {A = Option (List ℕ)} (Some x) (Some y) → x ≡ y
    said_same same = cc
ships_refused start (Ok done) line is gives ships status says = absurd (cc is)
ships_refused start (Err error.NotAStore) line is gives ships status says = absurd (cc is)
ships_refused start (Err (error.Damaged page)) line is gives ships status says = absurd (cc is)
ships_refused start (Err error.Disk) line is gives ships status says = absurd (cc is)
ships_refused start (Err error.Read) line is gives ships status says = absurd (cc is)
ships_refused start (Err error.Write) line is gives ships status says = absurd (cc is)
ships_refused start (Err error.Memory) line is gives ships status says = absurd (cc is)
ships_refused start (Err error.TooMuch) line is gives ships status says = absurd (cc is)
ships_refused start (Err (error.Repeat number last)) line is gives ships status says = absurd (cc is)
ships_refused start (Err (error.Gap number last)) line is gives ships status says = absurd (cc is)
ships_refused start (Err (error.Base number)) line is gives ships status says = absurd (cc is)
ships_refused start (Err (error.Stream offset)) line is gives ships status says = absurd (cc is)

-- Where nothing fails:

module _ {D : Type 0} {d : Ghosts D} {a b : D} (start : Start) (was : Image) (state : State) (calm : IsUntroubled d was a b) (recovers : Recovers was (Some state))
    (header : Header) (headed : IsHeadedBy (replay was) header) where
  ungiven_ends : (status : Status) → IsUngiven was status → IsShippingCaused d status a b → EndsWell status × EndsRefusing status
  ungiven_ends NotAStore why cause = absurd (why (states_are_whole.mark was state recovers))
  ungiven_ends (Damaged page) why cause = absurd (states_are_whole.header was state page recovers why.1)
  ungiven_ends DiskFault why cause = absurd (calm.disk cause)
  ungiven_ends NoMemory why cause = (tt, tt)
  ungiven_ends Done why cause = absurd why
  ungiven_ends Usage why cause = absurd why
  ungiven_ends Refused why cause = absurd why
  ungiven_ends ReadFault why cause = absurd why
  ungiven_ends WriteFault why cause = absurd why
  ungiven_ends TooMuch why cause = absurd why

  -- whether there is nothing to ship tells how it ends
  abbrev EndsAs : Bool → Status → Type 0
  EndsAs true status = EndsRefusing status
  EndsAs false status = EndsWell status

  given_ends : (t : Bool) → lacks_group was header start ≡ t → (status : Status) → EndsGivingGroups d was header start status a b → IsShippingCaused d status a b → EndsAs t status
  given_ends true lacks Done ends cause = absurd (let wrong : true ≡ false = sym lacks ∙ ends.0 in cc wrong)
  given_ends false lacks Done ends cause = tt
  given_ends true lacks Refused ends cause = tt
  given_ends false lacks Refused ends cause = absurd (let wrong : false ≡ true = sym lacks ∙ ends.0 in cc wrong)
  given_ends true lacks NoMemory ends cause = tt
  given_ends false lacks NoMemory ends cause = tt
  given_ends t lacks DiskFault ends cause = absurd (calm.disk cause)
  given_ends t lacks WriteFault ends cause = absurd (calm.written cause)
  given_ends t lacks (Damaged page) ends cause = absurd (states_are_whole.page was state header page recovers headed ends.1)
  given_ends t lacks NotAStore ends cause = absurd ends
  given_ends t lacks ReadFault ends cause = absurd ends
  given_ends t lacks TooMuch ends cause = absurd ends
  given_ends t lacks Usage ends cause = absurd ends

  both_ends : (t : Bool) (status : Status) → EndsWell status × EndsRefusing status → EndsAs t status
  both_ends true status ends = ends.1
  both_ends false status ends = ends.0

  ship_ends : (t : Bool) → lacks_group was header start ≡ t → (status : Status) → ShipsGroups d start status a b → EndsAs t status
  ship_ends t lacks status ships = elim (ships.from was calm.settled calm.still_told) [
    | inl gives ↦
        let same : gives.header ≡ header = one_head gives.headed headed in
        given_ends t lacks status (subst (λ (h : Header). EndsGivingGroups d was h start status a b) same gives.ends) ships.cause
    | inr (why, still) ↦ both_ends t status (ungiven_ends status why ships.cause)
  ]

-- a disk without a store
module _ {D : Type 0} {d : Ghosts D} {a b : D} (was : Image) (calm : IsUntroubled d was a b) (none : HasHeader was → ⊥) where
  ungiven_without : (status : Status) → IsUngiven was status → IsShippingCaused d status a b → (status ≡ NotAStore) ⊎ (status ≡ NoMemory)
  ungiven_without NotAStore why cause = inl refl
  ungiven_without NoMemory why cause = inr refl
  ungiven_without (Damaged page) why cause = absurd (none why.0)
  ungiven_without DiskFault why cause = absurd (calm.disk cause)
  ungiven_without Done why cause = absurd why
  ungiven_without Usage why cause = absurd why
  ungiven_without Refused why cause = absurd why
  ungiven_without ReadFault why cause = absurd why
  ungiven_without WriteFault why cause = absurd why
  ungiven_without TooMuch why cause = absurd why

  ship_without : (start : Start) (status : Status) → ShipsGroups d start status a b → (status ≡ NotAStore) ⊎ (status ≡ NoMemory)
  ship_without start status ships = elim (ships.from was calm.settled calm.still_told) [
    | inl gives ↦ absurd (none (states_are_whole.headed (replay was) gives.header gives.headed))
    | inr (why, still) ↦ ungiven_without status why ships.cause
  ]

-- how such a run ends where nothing fails
pub ship_completes : {D : Type 0} {d : Ghosts D} {a b : D} (start : Start) (status : Status) → ShipsGroups d start status a b → CompletesShipping d start status a b
ship_completes start status ships = record {
  store = λ was state header calm recovers headed can. ship_ends start was state calm recovers header headed false (can_ship was header start can) status ships;
  lacking = λ was state header calm recovers headed lacks. ship_ends start was state calm recovers header headed true lacks status ships;
  no_store = λ was calm none. ship_without was calm none start status ships;
}

pub one_shipment : (start : Start) → HasOneShipment start
one_shipment start was one other headed headed_too = ap (λ (h : Header). shipment_text was h start) (one_head headed headed_too)
