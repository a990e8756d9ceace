-- What `ship` does: it gives groups of a store as a stream, or says that there is no such group. It takes no input, and leaves both areas.
use Rattle.std.specs.Prelude.{◌≡◌, ◌⊎◌, ◌↔◌, ◌&&◌, ◌==◌, not, if◌then◌else◌, ℕ, ◌<◌, Bool, true, false, List, [], ◌∷◌, Some, IsSome, codes, decimal, Contains}
use Rattle.std.specs.List.{list_any}
use Rattle.nx_host.specs.declared.disk.Disk.{Ghosts}
use Rattle.nx_host.specs.Disk.{Image, Keeps, Rose}
use Rattle.nx_host.specs.Host.{Appends, AppendsPrefix}
use Rattle.nx_host.specs.Time.{Elapses}
use Rattle.nx_host.specs.Still.{IsStill, IsSettled}
use Rattle.nx_holdings.specs.declared.header.Header.{Header}
use Rattle.nx_records.specs.Words.{replay}
use Rattle.nx_records.specs.Records.{HasHeader}
use Rattle.nx_ship.specs.Words.{Group, groups}
use Rattle.nx_ship.specs.Stream.{stream_of}
use Rattle.nx_ship.specs.Next.{number_following, IsHeadedBy}
use Rattle.nx_ship.specs.Sending.{shipment, IsMissing, HasWrongHeader}
use Rattle.nx_ship.specs.declared.error.Start.{Start}
use Rattle.nx_ship.specs.declared.error.Start.TheVariants.{All, Number}
use Rattle.nx_state.specs.State.{State}
use Rattle.nx_state.specs.Stands.{Recovers}
use Rattle.nx_store.specs.Store.{TakesNone}
use Rattle.nx_filters.specs.declared.status.Status.{Status}
use Rattle.nx_filters.specs.declared.status.Status.TheVariants.{Done, Refused, DiskFault, WriteFault, NoMemory, NotAStore, Damaged}
use Rattle.nx_filters.specs.Refusal.{line_of_fields}
use Rattle.nx_front.specs.Init.{IsUntroubled}
use Rattle.nx_front.specs.Serving.{EndsWell}
use Rattle.nx_front.specs.Generating.{EndsRefusing}

-- the line for a number that no group has, beside that of the last one
abbrev pub no_group_line : ℕ → ℕ → List ℕ
no_group_line from last = line_of_fields (codes "refused" ∷ codes "no-group" ∷ decimal from ∷ decimal last ∷ [])

-- a group of the image's log has this number
abbrev pub has_group : Image → ℕ → Bool
has_group was number = list_any (λ g. g.number == number) (groups was.log)

-- no group of the log has the number with which shipping begins, and it isn't the next one
abbrev pub lacks_group : Image → Header → Start → Bool
lacks_group was header All = false
lacks_group was header (Number number) = not (has_group was number) && not (number == number_following header.number)

-- the line that says so
abbrev pub lacking_line : Header → Start → List ℕ
lacking_line header All = no_group_line header.number header.number
lacking_line header (Number number) = no_group_line number header.number

-- the whole output over an image with this header: the line where there is no such group, and else the stream of what is shipped
abbrev pub shipment_text : Image → Header → Start → List ℕ
shipment_text was header start = if lacks_group was header start then lacking_line header start else stream_of (shipment was header start)

-- how such a run ends: with `Refused` where there is no such group, and else with `Done`, and that text is out; or all pages are to be shipped, and one is missing; or it was cut short
abbrev pub EndsGivingGroups : {D : Type 0} → Ghosts D → Image → Header → Start → Status → D → D → Type 0
EndsGivingGroups d was header start Done old new =
    (lacks_group was header start ≡ false) × Appends (shipment_text was header start) (d.beside old).output (d.beside new).output
    × (start ≡ All → (p : ℕ) → p < header.pages → IsSome (replay was p))
EndsGivingGroups d was header start Refused old new =
    (lacks_group was header start ≡ true) × Appends (shipment_text was header start) (d.beside old).output (d.beside new).output
EndsGivingGroups d was header start (Damaged page) old new = (start ≡ All) × IsMissing (replay was) header page
EndsGivingGroups d was header start DiskFault old new = Unit {0}
EndsGivingGroups d was header start WriteFault old new = Unit {0}
EndsGivingGroups d was header start NoMemory old new = Unit {0}
EndsGivingGroups d was header start _ old new = ⊥

-- The image has a header. At every moment a first part of the text was out.
pub record GivesGroups {D : Type 0} (d : Ghosts D) (was : Image) (start : Start) (status : Status) (old new : D) : Type 0 where
  pub header : Header
  pub headed : IsHeadedBy (replay was) header
  pub time : Elapses d.moment d.stood_since old new (λ s. AppendsPrefix (shipment_text was header start) (d.beside old).output s.output × d.may_leave old s.image)
  pub ends : EndsGivingGroups d was header start status old new

-- why nothing was given of an image: it has no header; or page 0, which begins as one, is none; or a call of the disk failed, or there was no memory
abbrev pub IsUngiven : Image → Status → Type 0
IsUngiven was NotAStore = HasHeader was → ⊥
IsUngiven was (Damaged page) = HasHeader was × HasWrongHeader (replay was) page
IsUngiven was DiskFault = Unit {0}
IsUngiven was NoMemory = Unit {0}
IsUngiven was _ = ⊥

-- why it ends so, whatever the disk holds
abbrev pub IsShippingCaused : {D : Type 0} → Ghosts D → Status → D → D → Type 0
IsShippingCaused d DiskFault old new = Rose (d.faults old) (d.faults new)
IsShippingCaused d WriteFault old new = Rose (d.beside old).out_faults (d.beside new).out_faults
IsShippingCaused d Done old new = Unit {0}
IsShippingCaused d Refused old new = Unit {0}
IsShippingCaused d NoMemory old new = Unit {0}
IsShippingCaused d NotAStore old new = (was : Image) → IsSettled d old was → HasHeader was → ⊥
IsShippingCaused d (Damaged page) old new = Unit {0}
IsShippingCaused d _ old new = ⊥

-- How `ship` is carried out: over a disk with one image, that is told; and why it ends so in any case. It takes no input. Both areas are left as they were, and were so at every moment.
pub record ShipsGroups {D : Type 0} (d : Ghosts D) (start : Start) (status : Status) (old new : D) : Type 0 where
  pub from : (was : Image) → IsSettled d old was → IsSome (d.contents new) → GivesGroups d was start status old new ⊎ (IsUngiven was status × IsStill d old new)
  pub cause : IsShippingCaused d status old new
  pub contents_stay : Keeps (d.contents old) (d.contents new)
  pub images_stay : (i : Image) → d.may_leave new i ↔ d.may_leave old i
  pub time : Elapses d.moment d.stood_since old new (λ s. d.may_leave old s.image)
  pub takes : TakesNone d old new

-- the number is that of a group of the log, or the next one
abbrev pub CanShip : Image → Header → Start → Type 0
CanShip was header All = Unit {0}
CanShip was header (Number number) = ((g : Group) × Contains (groups was.log) g × (g.number ≡ number)) ⊎ (number ≡ number_following header.number)

-- Where nothing fails, over a store in some state the groups are given, or it is said that there is none; and a disk without a store is refused; unless memory runs out.
pub record CompletesShipping {D : Type 0} (d : Ghosts D) (start : Start) (status : Status) (old new : D) : Type 0 where
  pub store : (was : Image) (state : State) (header : Header) → IsUntroubled d was old new → Recovers was (Some state) → IsHeadedBy (replay was) header → CanShip was header start → EndsWell status
  pub lacking : (was : Image) (state : State) (header : Header) → IsUntroubled d was old new → Recovers was (Some state) → IsHeadedBy (replay was) header → lacks_group was header start ≡ true → EndsRefusing status
  pub no_store : (was : Image) → IsUntroubled d was old new → (HasHeader was → ⊥) → (status ≡ NotAStore) ⊎ (status ≡ NoMemory)

-- an image has one header, and so one text of what is shipped
abbrev pub HasOneShipment : Start → Type 0
HasOneShipment start = (was : Image) (one other : Header) → IsHeadedBy (replay was) one → IsHeadedBy (replay was) other → shipment_text was one start ≡ shipment_text was other start
