-- What is sent of a store: its bytes, a part behind another, as they are given in blocks.
use Rattle.std.specs.Prelude.{◌≡◌, ◌≢◌, ◌⊎◌, ◌↔◌, ◌==◌, ℕ, ◌+◌, ◌<◌, ◌≤◌, Bool, true, false, List, [], ◌∷◌, ◌++◌, length, take, drop, slice_get, Option, None, Some, IsSome, Result, Ok, Err}
use Rattle.nx_host.specs.declared.disk.Disk.{Ghosts}
use Rattle.nx_host.specs.Disk.{Image, Rose}
use Rattle.nx_host.specs.Host.{Appends}
use Rattle.nx_host.specs.Still.{IsStill}
use Rattle.nx_replay.specs.Log.{Pages, Entry, Group, entry_bytes, group_bytes, groups, replay, HasMark}
use Rattle.nx_wal.specs.Wal.{IsInStep, pending}
use Rattle.nx_wal.specs.Reading.{IsHeadFor}
use Rattle.nx_wal.specs.declared.reading.GroupHead.{GroupHead}
use Rattle.nx_wal.specs.declared.wal.Wal.{Wal}
use Rattle.nx_holdings.specs.declared.header.Header.{Header}
use Rattle.nx_ship.specs.Stream.{stream_of}
use Rattle.nx_ship.specs.Shipped.{bytes_of, pages_from, all_pages_group}
use Rattle.nx_ship.specs.Next.{number_following}
use Rattle.nx_ship.specs.declared.error.Start.{Start}
use Rattle.nx_ship.specs.declared.error.ShipError.{ShipError}
use Rattle.nx_ship.specs.declared.error.ShipError.TheVariants as error
use Rattle.nx_ship.specs.Sending.{from_number, shipment, Sends, HasWrongHeader, EndsShipping}

-- why the header of a store wasn't read
abbrev pub IsHeadless : Pages → ShipError → Type 0
IsHeadless pages error.NotAStore = pages 0 ≡ None
IsHeadless pages (error.Damaged page) = HasWrongHeader pages page
IsHeadless pages error.Disk = Unit {0}
IsHeadless pages error.Memory = Unit {0}
IsHeadless pages _ = ⊥

-- why a store isn't opened: a call of the disk failed, or there was no memory, or it has no header
abbrev pub IsFault : {D : Type 0} → Ghosts D → ShipError → D → D → Type 0
IsFault d error.Disk old new = Rose (d.faults old) (d.faults new)
IsFault d error.Memory old new = Unit {0}
IsFault d error.NotAStore old new = Unit {0}
IsFault d (error.Damaged page) old new = Unit {0}
IsFault d _ old new = ⊥

-- why sending stops: a call of the disk or of the output failed, or there was no memory, or no such group or page
abbrev pub IsSendFault : {D : Type 0} → Ghosts D → ShipError → D → D → Type 0
IsSendFault d error.Disk old new = Rose (d.faults old) (d.faults new)
IsSendFault d error.Write old new = Rose (d.beside old).out_faults (d.beside new).out_faults
IsSendFault d error.Memory old new = Unit {0}
IsSendFault d (error.Damaged page) old new = Unit {0}
IsSendFault d (error.NoGroup from last) old new = Unit {0}
IsSendFault d _ old new = ⊥

-- Since the first state these bytes were sent, but for the last of them, which wait in a block.
pub record HasSent {D : Type 0} (d : Ghosts D) (bytes block : List ℕ) (first now : D) : Type 0 where
  pub laid : List ℕ
  pub split : laid ++ block ≡ bytes
  pub out : Appends laid (d.beside first).output (d.beside now).output
  pub sends : Sends d bytes first now

-- Whatever was sent before, these bytes are sent behind it.
abbrev pub SendsMore : {D : Type 0} → Ghosts D → List ℕ → List ℕ → List ℕ → D → D → Type 0
SendsMore {D} d bytes before after old new = (so_far : List ℕ) (first : D) → HasSent d so_far before first old → HasSent d (so_far ++ bytes) after first new

-- ... or a first part of them.
abbrev pub SendsSome : {D : Type 0} → Ghosts D → List ℕ → List ℕ → D → D → Type 0
SendsSome {D} d bytes before old new = (so_far : List ℕ) (first : D) → HasSent d so_far before first old → Sends d (so_far ++ bytes) first new

-- Of a store whose log is in step with the disk and has nothing that waits, this is said of the image.
abbrev pub OfStore : {D : Type 0} → Ghosts D → Wal → D → (Image → Type 0) → Type 0
OfStore d wal disk Said = (was : Image) → IsInStep d wal disk was → pending wal ≡ [] → Said was

-- Bytes were sent, and they are this of the image.
pub record SendsOf {D : Type 0} (d : Ghosts D) (wal : Wal) (before after : List ℕ) (old new : D) (Are : List ℕ → Image → Type 0) : Type 0 where
  pub bytes : List ℕ
  pub sends : SendsMore d bytes before after old new
  pub are : OfStore d wal old (λ was. IsSome (d.contents new) → Are bytes was)

-- ... or some of them were.
pub record SendsPartOf {D : Type 0} (d : Ghosts D) (wal : Wal) (before : List ℕ) (old new : D) (Are : List ℕ → Image → Type 0) : Type 0 where
  pub bytes : List ℕ
  pub sends : SendsSome d bytes before old new
  pub are : OfStore d wal old (λ was. IsSome (d.contents new) → Are bytes was)

-- the bytes of a page of an image in a stream
abbrev pub page_entry : Image → ℕ → Entry
page_entry was page = record { page = page; bytes = bytes_of (replay was) page }

abbrev pub IsPrefix : List ℕ → List ℕ → Type 0
IsPrefix bytes all = (more : List ℕ) × (bytes ++ more ≡ all)

-- a page is missing, where that is said
abbrev pub IsLacking : ShipError → Image → ℕ → Type 0
IsLacking (error.Damaged page) was count = (page < count) × (replay was page ≡ None)
IsLacking error.Disk was count = Unit {0}
IsLacking error.Write was count = Unit {0}
IsLacking error.Memory was count = Unit {0}
IsLacking _ was count = ⊥

abbrev pub SendsPage : {D : Type 0} → Ghosts D → ℕ → Wal → List ℕ → List ℕ → D → D → Type 0
SendsPage d page wal before after old new =
    SendsOf d wal before after old new (λ bytes was. (bytes ≡ entry_bytes (page_entry was page ∷ [])) × IsSome (replay was page))

abbrev pub StopsAtPage : {D : Type 0} → Ghosts D → ℕ → Wal → ShipError → List ℕ → D → D → Type 0
StopsAtPage d page wal e before old new =
    SendsPartOf d wal before old new (λ bytes was. IsPrefix bytes (entry_bytes (page_entry was page ∷ [])) × IsLacking e was (page + 1))

abbrev pub SendsPages : {D : Type 0} → Ghosts D → ℕ → Wal → List ℕ → List ℕ → D → D → Type 0
SendsPages d count wal before after old new =
    SendsOf d wal before after old new (λ bytes was. (bytes ≡ entry_bytes (pages_from (replay was) 0 count)) × ((p : ℕ) → p < count → IsSome (replay was p)))

abbrev pub StopsAtPages : {D : Type 0} → Ghosts D → ℕ → Wal → ShipError → List ℕ → D → D → Type 0
StopsAtPages d count wal e before old new =
    SendsPartOf d wal before old new (λ bytes was. IsPrefix bytes (entry_bytes (pages_from (replay was) 0 count)) × IsLacking e was count)

-- how the sending of all pages ended
abbrev pub HasSentAll : {D : Type 0} → Ghosts D → ℕ → ℕ → Result (Unit {0}) ShipError → List ℕ → Image → D → D → Type 0
HasSentAll d number count (Ok _) bytes was old new =
    (bytes ≡ stream_of (all_pages_group number (replay was) count ∷ [])) × Appends bytes (d.beside old).output (d.beside new).output × ((p : ℕ) → p < count → IsSome (replay was p))
HasSentAll d number count (Err e) bytes was old new = IsPrefix bytes (stream_of (all_pages_group number (replay was) count ∷ [])) × IsLacking e was count

pub record EndsSendingAll {D : Type 0} (d : Ghosts D) (number count : ℕ) (wal : Wal) (result : Result (Unit {0}) ShipError) (old new : D) : Type 0 where
  pub bytes : List ℕ
  pub sends : Sends d bytes old new
  pub are : OfStore d wal old (λ was. IsSome (d.contents new) → HasSentAll d number count result bytes was old new)

-- This is said of the group of the log with this index, if there is one.
abbrev pub OfGroup : ℕ → Image → (Group → Type 0) → Type 0
OfGroup index was Said = (g : Group) → slice_get (groups was.log) index ≡ Some g → Said g

-- So many pages of a group were sent, from one of them on, where it has as many;
abbrev pub SendsPart : {D : Type 0} → Ghosts D → ℕ → ℕ → ℕ → Wal → List ℕ → List ℕ → D → D → Type 0
SendsPart d index first count wal before after old new =
    SendsOf d wal before after old new (λ bytes was. OfGroup index was (λ g. first + count ≤ length g.entries → bytes ≡ entry_bytes (take count (drop first g.entries))))

abbrev pub StopsAtPart : {D : Type 0} → Ghosts D → ℕ → ℕ → ℕ → Wal → List ℕ → D → D → Type 0
StopsAtPart d index first count wal before old new =
    SendsPartOf d wal before old new (λ bytes was. OfGroup index was (λ g. first + count ≤ length g.entries → IsPrefix bytes (entry_bytes (take count (drop first g.entries)))))

-- ... or all of it was, where this is its head.
abbrev pub SendsGroup : {D : Type 0} → Ghosts D → ℕ → GroupHead → Wal → List ℕ → List ℕ → D → D → Type 0
SendsGroup d index head wal before after old new =
    SendsOf d wal before after old new (λ bytes was. OfGroup index was (λ g. IsHeadFor g head → bytes ≡ group_bytes g))

abbrev pub StopsAtGroup : {D : Type 0} → Ghosts D → ℕ → GroupHead → Wal → List ℕ → D → D → Type 0
StopsAtGroup d index head wal before old new =
    SendsPartOf d wal before old new (λ bytes was. OfGroup index was (λ g. IsHeadFor g head → IsPrefix bytes (group_bytes g)))

-- The group is the first one with this number, or comes behind it, where that was found before.
abbrev pub IsWanted : ℕ → Bool → Group → Type 0
IsWanted number found g = (found ≡ true) ⊎ ((g.number == number) ≡ true)

-- The group with this index was sent, which is wanted; or it comes before the first one with this number, and nothing was sent.
abbrev pub SendsWanted : {D : Type 0} → Ghosts D → ℕ → ℕ → Wal → Bool → Bool → List ℕ → List ℕ → D → D → Type 0
SendsWanted d number index wal found true before after old new =
    SendsOf d wal before after old new (λ bytes was. OfGroup index was (λ g. IsWanted number found g × (bytes ≡ group_bytes g)))
SendsWanted d number index wal found false before after old new =
    (found ≡ false) × (after ≡ before) × IsStill d old new × OfStore d wal old (λ was. OfGroup index was (λ g. (g.number == number) ≡ false))

abbrev pub StopsAtWanted : {D : Type 0} → Ghosts D → ℕ → ℕ → Wal → Bool → List ℕ → D → D → Type 0
StopsAtWanted d number index wal found before old new =
    SendsPartOf d wal before old new (λ bytes was. OfGroup index was (λ g. (bytes ≡ []) ⊎ (IsWanted number found g × IsPrefix bytes (group_bytes g))))

-- The groups of the log from the first one with this number on were sent, if there is one; where there is none, nothing changed.
pub record SendsGroups {D : Type 0} (d : Ghosts D) (number : ℕ) (wal : Wal) (found : Bool) (before after : List ℕ) (old new : D) : Type 0 where
  pub sent : SendsOf d wal before after old new (λ bytes was. (bytes ≡ stream_of (from_number number (groups was.log))) × ((found ≡ false) ↔ (from_number number (groups was.log) ≡ [])))
  pub none : found ≡ false → IsStill d old new

-- no reason but these
abbrev pub IsCutShort : ShipError → Type 0
IsCutShort error.Disk = Unit {0}
IsCutShort error.Write = Unit {0}
IsCutShort error.Memory = Unit {0}
IsCutShort _ = ⊥

pub record StopsAtGroups {D : Type 0} (d : Ghosts D) (number : ℕ) (wal : Wal) (e : ShipError) (before : List ℕ) (old new : D) : Type 0 where
  pub sent : SendsPartOf d wal before old new (λ bytes was. IsPrefix bytes (stream_of (from_number number (groups was.log))))
  pub cut : IsCutShort e

-- how the sending of groups from a number on ended
abbrev pub HasSentFrom : {D : Type 0} → Ghosts D → ℕ → ℕ → Result (Unit {0}) ShipError → List ℕ → Image → D → D → Type 0
HasSentFrom d number last (Ok _) bytes was old new =
    (bytes ≡ stream_of (from_number number (groups was.log))) × Appends bytes (d.beside old).output (d.beside new).output × (from_number number (groups was.log) ≡ [] → number ≡ number_following last)
HasSentFrom d number last (Err (error.NoGroup from at)) bytes was old new =
    (bytes ≡ []) × (from ≡ number) × (at ≡ last) × (from_number number (groups was.log) ≡ []) × (number ≢ number_following last) × IsStill d old new
HasSentFrom d number last (Err e) bytes was old new = IsPrefix bytes (stream_of (from_number number (groups was.log))) × IsCutShort e

pub record EndsSendingFrom {D : Type 0} (d : Ghosts D) (number last : ℕ) (wal : Wal) (result : Result (Unit {0}) ShipError) (old new : D) : Type 0 where
  pub bytes : List ℕ
  pub sends : Sends d bytes old new
  pub are : OfStore d wal old (λ was. IsSome (d.contents new) → HasSentFrom d number last result bytes was old new)

-- how the sending of what is shipped ended
pub record EndsSending {D : Type 0} (d : Ghosts D) (header : Header) (start : Start) (wal : Wal) (result : Result (Unit {0}) ShipError) (old new : D) : Type 0 where
  pub bytes : List ℕ
  pub sends : Sends d bytes old new
  pub are : OfStore d wal old (λ was. IsSome (d.contents new) → IsPrefix bytes (stream_of (shipment was header start)) × EndsShipping d was header start result old new)

-- why a log wasn't opened
abbrev pub IsNoStoreOpened : Pages → ShipError → Type 0
IsNoStoreOpened pages error.NotAStore = HasMark pages → ⊥
IsNoStoreOpened pages error.Disk = Unit {0}
IsNoStoreOpened pages error.Memory = Unit {0}
IsNoStoreOpened pages _ = ⊥

-- The log of the store follows its image, which has a header; or there is none.
abbrev pub FindsStore : {D : Type 0} → Ghosts D → Image → Option Wal → D → Type 0
FindsStore d was (Some wal) disk = IsInStep d wal disk was × HasMark (replay was)
FindsStore d was None disk = HasMark (replay was) → ⊥

-- a call of the disk failed, or there was no memory
abbrev pub IsBarred : ShipError → Type 0
IsBarred error.Disk = Unit {0}
IsBarred error.Memory = Unit {0}
IsBarred _ = ⊥
