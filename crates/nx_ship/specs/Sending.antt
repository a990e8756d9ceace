-- What `ship` does: it gives groups of a store as a stream. It takes no input, and leaves both areas.
use Rattle.std.specs.Prelude.{◌≡◌, ◌≢◌, ◌⊎◌, ◌↔◌, ◌==◌, if◌then◌else◌, ℕ, ◌<◌, ◌≤◌, List, [], ◌∷◌, None, Some, IsSome, Result, Ok, Err}
use Rattle.nx_host.specs.declared.disk.Disk.{Ghosts}
use Rattle.nx_host.specs.Disk.{Image, Keeps, Rose}
use Rattle.nx_host.specs.Host.{Appends, AppendsPrefix}
use Rattle.nx_host.specs.Time.{Elapses}
use Rattle.nx_host.specs.Still.{IsStill, IsSettled}
use Rattle.nx_replay.specs.Log.{Pages, Group, groups, replay, HasMark}
use Rattle.nx_holdings.specs.declared.header.Header.{Header}
use Rattle.nx_holdings.specs.Header.{IsNoHeader}
use Rattle.nx_ship.specs.Stream.{stream_of}
use Rattle.nx_ship.specs.Shipped.{all_pages_group}
use Rattle.nx_ship.specs.Next.{number_following, IsHeadedBy}
use Rattle.nx_ship.specs.declared.error.Start.{Start}
use Rattle.nx_ship.specs.declared.error.Start.TheVariants.{All, Number}
use Rattle.nx_ship.specs.declared.error.ShipError.{ShipError}
use Rattle.nx_ship.specs.declared.error.ShipError.TheVariants as error

-- the groups from the first one with this number on
abbrev pub from_number : ℕ → List Group → List Group
from_number number [] = []
from_number number (g ∷ gs) = if g.number == number then g ∷ gs else from_number number gs

-- what is shipped of an image with this header: all its pages as one group, with the header's number; or the groups of its log from the first one with a number on
abbrev pub shipment : Image → Header → Start → List Group
shipment image header All = all_pages_group header.number (replay image) header.pages ∷ []
shipment image header (Number number) = from_number number (groups image.log)

-- From old to new the disk was asked and output given alone: at every moment a prefix of these bytes. Both areas are left.
pub record Sends {D : Type 0} (d : Ghosts D) (bytes : List ℕ) (old new : D) : Type 0 where
  pub contents_stay : Keeps (d.contents old) (d.contents new)
  pub images_stay : (i : Image) → d.may_leave new i ↔ d.may_leave old i
  pub input_stays : Keeps (d.beside old).input (d.beside new).input
  pub in_faults_stay : (d.beside new).in_faults ≡ (d.beside old).in_faults
  pub out_faults_later : (d.beside old).out_faults ≤ (d.beside new).out_faults
  pub faults_later : d.faults old ≤ d.faults new
  pub time : Elapses d.moment d.stood_since old new (λ s. AppendsPrefix bytes (d.beside old).output s.output × d.may_leave old s.image)

-- the page isn't there, and is below the number of pages that the header says
pub record IsMissing (pages : Pages) (header : Header) (page : ℕ) : Type 0 where
  pub low : page < header.pages
  pub none : pages page ≡ None

-- page 0 is there, and no header
pub record HasWrongHeader (pages : Pages) (page : ℕ) : Type 0 where
  pub first : page ≡ 0
  pub bytes : List ℕ
  pub there : pages 0 ≡ Some bytes
  pub wrong : IsNoHeader bytes

-- how the shipping of these groups of an image ended that has this header: all of their stream was given; or there was no group to give; or a page is missing; or it was cut short
abbrev pub EndsShipping : {D : Type 0} → Ghosts D → Image → Header → Start → Result (Unit {0}) ShipError → D → D → Type 0
EndsShipping d was header start (Ok _) old new =
    Appends (stream_of (shipment was header start)) (d.beside old).output (d.beside new).output
    × ((number : ℕ) → start ≡ Number number → shipment was header start ≡ [] → number ≡ number_following header.number)
    × (start ≡ All → (p : ℕ) → p < header.pages → IsSome (replay was p))
EndsShipping d was header start (Err (error.NoGroup from last)) old new =
    (start ≡ Number from) × (shipment was header start ≡ []) × (from ≢ number_following header.number) × (last ≡ header.number) × IsStill d old new
EndsShipping d was header start (Err (error.Damaged page)) old new = (start ≡ All) × IsMissing (replay was) header page
EndsShipping d was header start (Err error.Disk) old new = Unit {0}
EndsShipping d was header start (Err error.Write) old new = Unit {0}
EndsShipping d was header start (Err error.Memory) old new = Unit {0}
EndsShipping d was header start (Err error.NotAStore) old new = ⊥
EndsShipping d was header start (Err error.Read) old new = ⊥
EndsShipping d was header start (Err error.TooMuch) old new = ⊥
EndsShipping d was header start (Err (error.Repeat number last)) old new = ⊥
EndsShipping d was header start (Err (error.Gap number last)) old new = ⊥
EndsShipping d was header start (Err (error.Base number)) old new = ⊥
EndsShipping d was header start (Err (error.Stream offset)) old new = ⊥

-- The image has a header. At every moment a prefix of the stream of what is shipped of it was out.
pub record ShipsFrom {D : Type 0} (d : Ghosts D) (was : Image) (start : Start) (result : Result (Unit {0}) ShipError) (old new : D) : Type 0 where
  pub header : Header
  pub headed : IsHeadedBy (replay was) header
  pub sends : Sends d (stream_of (shipment was header start)) old new
  pub ends : EndsShipping d was header start result old new

-- why nothing was given of an image: it has no header; or page 0, which begins as one, is none; or a call of the disk failed, or there was no memory
abbrev pub IsUnshipped : Image → Result (Unit {0}) ShipError → Type 0
IsUnshipped was (Err error.NotAStore) = HasMark (replay was) → ⊥
IsUnshipped was (Err (error.Damaged page)) = HasMark (replay was) × HasWrongHeader (replay was) page
IsUnshipped was (Err error.Disk) = Unit {0}
IsUnshipped was (Err error.Memory) = Unit {0}
IsUnshipped was _ = ⊥

-- why it ended so, whatever the disk tells
abbrev pub IsShipCause : {D : Type 0} → Ghosts D → Result (Unit {0}) ShipError → D → D → Type 0
IsShipCause d (Ok _) old new = Unit {0}
IsShipCause d (Err error.Disk) old new = Rose (d.faults old) (d.faults new)
IsShipCause d (Err error.Write) old new = Rose (d.beside old).out_faults (d.beside new).out_faults
IsShipCause d (Err error.Memory) old new = Unit {0}
IsShipCause d (Err error.NotAStore) old new = (was : Image) → IsSettled d old was → HasMark (replay was) → ⊥
IsShipCause d (Err (error.Damaged page)) old new = Unit {0}
IsShipCause d (Err (error.NoGroup from last)) old new = Unit {0}
IsShipCause d (Err _) old new = ⊥

-- How `ship` is carried out: over a disk with one image; and what it leaves in any case.
pub record Ships {D : Type 0} (d : Ghosts D) (start : Start) (result : Result (Unit {0}) ShipError) (old new : D) : Type 0 where
  pub from : (was : Image) → IsSettled d old was → IsSome (d.contents new) → ShipsFrom d was start result old new ⊎ (IsUnshipped was result × IsStill d old new)
  pub cause : IsShipCause d result old new
  pub sends : (bytes : List ℕ) × Sends d bytes old new
