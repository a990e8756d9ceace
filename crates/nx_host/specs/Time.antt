-- One clock for the output and the images: what stood at its moments.
use Rattle.std.specs.Prelude.{◌⊎◌, ℕ, ◌≤◌, List, Option}
use Rattle.std.proofs.Common.{inl, inr, arith}
use Rattle.nx_host.specs.Disk.{Image}

-- a moment: the output so far, where it is told, and an image that a crash could leave then
pub record Stood : Type 0 where
  pub output : Option (List ℕ)
  pub image : Image

-- From old, time goes on to new, and each pair that is added has P.
pub record Elapses {D : Type 0} (moment : D → ℕ) (stood_since : D → ℕ → Stood → Type 0) (old new : D) (P : Stood → Type 0) : Type 0 where
  pub later : moment old ≤ moment new
  pub nothing_else : (t : ℕ) (s : Stood) → t ≤ moment old → stood_since new t s → stood_since old t s ⊎ P s
  pub keeps : (t : ℕ) (s : Stood) → t ≤ moment old → stood_since old t s → stood_since new t s

-- before the first call
pub none_elapsed : {D : Type 0} {moment : D → ℕ} {stood_since : D → ℕ → Stood → Type 0} {d : D} {P : Stood → Type 0} → Elapses moment stood_since d d P
none_elapsed = record {
  later = omega arith;
  nothing_else = λ t s le since. inl since;
  keeps = λ t s le since. since;
}

-- one call more, whose pairs have Q
pub elapsed_then : {D : Type 0} {moment : D → ℕ} {stood_since : D → ℕ → Stood → Type 0} {P Q : Stood → Type 0} {a b c : D} →
    Elapses moment stood_since a b P → Elapses moment stood_since b c Q → ((s : Stood) → Q s → P s) → Elapses moment stood_since a c P
elapsed_then {moment = moment} {a = a} {b = b} {c = c} first second weaker = record {
  later = let x : moment a ≤ moment b = first.later in let y : moment b ≤ moment c = second.later in omega arith;
  nothing_else = λ t s le since.
      let x : moment a ≤ moment b = first.later in
      elim (second.nothing_else t s (omega arith) since) [
        | inl earlier ↦ first.nothing_else t s le earlier
        | inr added ↦ inr (weaker s added)
      ];
  keeps = λ t s le since.
      let x : moment a ≤ moment b = first.later in
      second.keeps t s (omega arith) (first.keeps t s le since);
}

-- what the added pairs have may be weakened
pub elapsed_weaker : {D : Type 0} {moment : D → ℕ} {stood_since : D → ℕ → Stood → Type 0} {P Q : Stood → Type 0} {a b : D} →
    Elapses moment stood_since a b Q → ((s : Stood) → Q s → P s) → Elapses moment stood_since a b P
elapsed_weaker first weaker = record {
  later = first.later;
  nothing_else = λ t s le since. elim (first.nothing_else t s le since) [ inl earlier ↦ inl earlier | inr added ↦ inr (weaker s added) ];
  keeps = first.keeps;
}
