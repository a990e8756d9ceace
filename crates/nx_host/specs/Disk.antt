-- What a disk holds, and what its calls do to it.
use Rattle.std.specs.Prelude.{◌≡◌, ℕ, ◌+◌, ◌-◌, ◌^◌, ◌<◌, ◌≤◌, List, [], ◌∷◌, ◌++◌, length, take, drop, get_or, min, max, Option, IfSome, Some}
use Rattle.nx_host.specs.declared.disk.Area.{Area}
use Rattle.nx_host.specs.declared.disk.Area.TheVariants.{Pages, Log}

-- the bytes of both areas
pub record Image : Type 0 where
  pub pages : List ℕ
  pub log : List ℕ

-- each is a byte
abbrev pub AreBytes : List ℕ → Type 0
AreBytes bytes = (i : ℕ) → get_or bytes i 0 < 256

-- both areas hold bytes
pub record HoldsBytes (image : Image) : Type 0 where
  pub pages : AreBytes image.pages
  pub log : AreBytes image.log

-- both areas are empty
abbrev pub no_bytes : Image
no_bytes = record { pages = []; log = [] }

abbrev pub area_of : Area → Image → List ℕ
area_of Pages image = image.pages
area_of Log image = image.log

abbrev pub other_area_of : Area → Image → List ℕ
other_area_of Pages image = image.log
other_area_of Log image = image.pages

-- what stands beside a disk: the input that is left and the output so far, where they are told, and how often each of the two failed
pub record Beside : Type 0 where
  pub input : Option (List ℕ)
  pub output : Option (List ℕ)
  pub in_faults : ℕ
  pub out_faults : ℕ

-- the count rose, or stands at its type's end
abbrev pub Rose : ℕ → ℕ → Type 0
Rose before now = min (before + 1) (2 ^ 64 - 1) ≤ now

-- what is told now was told before, and is the same
abbrev pub Keeps : {T : Type 0} → Option T → Option T → Type 0
Keeps old new = IfSome new (λ now. old ≡ Some now)

-- a byte of a disk: its area and its offset
pub record Place : Type 0 where
  pub area : Area
  pub at : ℕ

-- Where it is still told which bytes were renewed, this one was besides, last.
abbrev pub Renews : Area → ℕ → Option (List Place) → Option (List Place) → Type 0
Renews area at old new =
    IfSome new (λ now. (was : List Place) × (old ≡ Some was)
    × (now ≡ was ++ record { area = area; at = at } ∷ []))

-- Where it is told which bytes were renewed, this one is the last of them.
abbrev pub IsRenewedLast : Area → ℕ → Option (List Place) → Type 0
IsRenewedLast area at told =
    IfSome told (λ now. (earlier : List Place) × (now ≡ earlier ++ record { area = area; at = at } ∷ []))

-- What stands beside the disk is left as it was. Input and output may be told no longer.
pub record LeavesBeside (old new : Beside) : Type 0 where
  pub input : Keeps old.input new.input
  pub output : Keeps old.output new.output
  pub in_faults : new.in_faults ≡ old.in_faults
  pub out_faults : new.out_faults ≡ old.out_faults

-- new is old with these bytes at this offset; what lies between the old end and the offset may be anything
pub record Written (at : ℕ) (bytes old new : List ℕ) : Type 0 where
  pub before : take (min at (length old)) new ≡ take at old
  pub here : take (length bytes) (drop at new) ≡ bytes
  pub after : drop (at + length bytes) new ≡ drop (at + length bytes) old
  pub long : length new ≡ max (length old) (at + length bytes)

-- old after a write of n bytes that a crash cuts short: any bytes in the range and past the old end, the same elsewhere
pub record Torn (at n : ℕ) (old new : List ℕ) : Type 0 where
  pub before : take (min at (length old)) new ≡ take at old
  pub after : drop (at + n) (take (length old) new) ≡ drop (at + n) old
  pub no_shorter : length old ≤ length new
  pub no_longer : length new ≤ max (length old) (at + n)

-- an image after a write of these bytes to one area: the other area is left
pub record WritesTo (area : Area) (at : ℕ) (bytes : List ℕ) (old new : Image) : Type 0 where
  pub here : Written at bytes (area_of area old) (area_of area new)
  pub there : other_area_of area new ≡ other_area_of area old

-- an image that a crash leaves within or after a write of n bytes to one area: the other area is left
pub record TearsIn (area : Area) (at n : ℕ) (old new : Image) : Type 0 where
  pub here : Torn at n (area_of area old) (area_of area new)
  pub there : other_area_of area new ≡ other_area_of area old

-- an image that comes from one of these by such a torn write
abbrev pub ComesTorn : Area → ℕ → ℕ → (Image → Type 0) → Image → Type 0
ComesTorn area at n before image = (old : Image) × before old × TearsIn area at n old image

-- every one of these images has the area as the contents have it
abbrev pub IsDurable : Area → (Image → Type 0) → Image → Type 0
IsDurable area images contents = (image : Image) → images image → area_of area image ≡ area_of area contents

-- what a read from this offset gives: as many bytes as the slice takes and the area has
abbrev pub given_at : ℕ → ℕ → List ℕ → List ℕ
given_at at room bytes = take room (drop at bytes)
