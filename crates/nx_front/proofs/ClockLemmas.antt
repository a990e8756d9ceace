-- What stands when calls have ended, by the clock.
use Rattle.std.proofs.Common.{◌≡◌, ◌⊎◌, inl, inr, ℕ, ◌≤◌, arith}
use Rattle.nx_host.specs.declared.disk.Disk.{Ghosts}
use Rattle.nx_host.specs.Disk.{Image}
use Rattle.nx_host.specs.Time.{Stood, Elapses}

-- What stands now has stood since any moment up to now, and nothing else has since this one.
pub record HasClock {D : Type 0} (d : Ghosts D) : Type 0 where
  pub stands_now : (disk : D) (t : ℕ) (i : Image) → t ≤ d.moment disk → d.may_leave disk i → d.stood_since disk t (record { output = (d.beside disk).output; image = i })
  pub only_now : (disk : D) (s : Stood) → d.stood_since disk (d.moment disk) s → (s.output ≡ (d.beside disk).output) × d.may_leave disk s.image

-- An image that may be left now might have been left before the calls, beside the same output; or it is one of their moments.
pub at_end : {D : Type 0} {d : Ghosts D} {old new : D} {P : Stood → Type 0} → HasClock d → Elapses d.moment d.stood_since old new P → (i : Image) → d.may_leave new i →
    (((d.beside new).output ≡ (d.beside old).output) × d.may_leave old i) ⊎ P (record { output = (d.beside new).output; image = i })
at_end {d = d} {old = old} {new = new} clock time i left =
    let s : Stood = record { output = (d.beside new).output; image = i } in
    elim (time.nothing_else (d.moment old) s (omega arith) (clock.stands_now new (d.moment old) i time.later left)) [
      | inl earlier ↦ inl (clock.only_now old s earlier)
      | inr added ↦ inr added
    ]
