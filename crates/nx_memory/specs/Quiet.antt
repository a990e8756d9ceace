-- What a host tells that stops telling once its room is used up.
use Rattle.std.specs.Prelude.{◌≡◌, ◌⊎◌, ℕ, ◌+◌, ◌≤◌, Bool, true, false, List, length, Option, None, Some, IsSome}
use Rattle.std.proofs.Common.{inl, inr, refl, arith}
use Rattle.std.proofs.lemmas.Bool.{false≢true}
use Rattle.nx_host.specs.Disk.{Image, HoldsBytes}
use Rattle.nx_host.specs.Time.{Stood}
use Rattle.nx_memory.specs.declared.history.Change.{Change}
use Rattle.nx_memory.specs.History.{Present, MayLeave, StoodSince, IsHistory}
use Rattle.nx_memory.specs.Laws.{contents_stay, told, stood, only_stood, stood_earlier, image_holds_bytes, stood_holds_bytes}

-- what is told of it, where the room isn't used up
abbrev pub told_of : {T : Type 0} → Bool → T → Option T
told_of true x = None
told_of false x = Some x

-- the moment: that at which the room was used up is one more
abbrev pub moment_at : Bool → List Change → ℕ
moment_at true changes = length changes + 1
moment_at false changes = length changes

-- What stood at some moment from t on. Since the room was used up no output is told.
abbrev pub QuietSince : Bool → List Change → Present → ℕ → Stood → Type 0
QuietSince true changes now t s = ((s.output ≡ None) × MayLeave changes now s.image) ⊎ ((t ≤ length changes) × StoodSince changes now t s)
QuietSince false changes now t s = StoodSince changes now t s

-- Its laws.
module _ (changes : List Change) (now : Present) where
  pub quiet_contents : (full : Bool) → IsHistory changes now → (image : Image) → told_of full now.areas ≡ Some image → MayLeave changes now image
  quiet_contents true history image is = absurd (cc)
  quiet_contents false history image is = contents_stay changes now history image is

  pub quiet_told : (full : Bool) (t : ℕ) (s : Stood) → QuietSince full changes now t s → IsSome (told_of full now.output) → IsSome s.output
  quiet_told true t s since is_told = absurd (false≢true is_told)
  quiet_told false t s since is_told = told changes now t s since

  pub quiet_stood : (full : Bool) (t : ℕ) (image : Image) → MayLeave changes now image → QuietSince full changes now t (record { output = told_of full now.output; image = image })
  quiet_stood true t image left = inl (refl, left)
  quiet_stood false t image left = stood changes now t image left

  pub quiet_only : (full : Bool) (s : Stood) → QuietSince full changes now (moment_at full changes) s → (s.output ≡ told_of full now.output) × MayLeave changes now s.image
  quiet_only true s (inl here) = here
  quiet_only true s (inr there) = absurd (let low : length changes + 1 ≤ length changes = there.0 in omega arith)
  quiet_only false s since = only_stood changes now s since

  pub quiet_earlier : (full : Bool) (t u : ℕ) (s : Stood) → t ≤ u → QuietSince full changes now u s → QuietSince full changes now t s
  quiet_earlier true t u s le (inl here) = inl here
  quiet_earlier true t u s le (inr there) = inr (let low : u ≤ length changes = there.0 in omega arith, stood_earlier changes now t u s le there.1)
  quiet_earlier false t u s le since = stood_earlier changes now t u s le since

  pub quiet_holds_bytes : (full : Bool) (t : ℕ) (s : Stood) → IsHistory changes now → QuietSince full changes now t s → HoldsBytes s.image
  quiet_holds_bytes true t s history (inl here) = image_holds_bytes changes now s.image history here.1
  quiet_holds_bytes true t s history (inr there) = stood_holds_bytes changes now t s history there.1
  quiet_holds_bytes false t s history since = stood_holds_bytes changes now t s history since
