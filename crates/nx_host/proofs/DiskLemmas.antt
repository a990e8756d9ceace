-- How calls over a disk compose.
use Rattle.std.proofs.Common.{◌≡◌, ◌≤◌, ℕ, List, Option, None, Some, refl, sym, subst, ◌∙◌, arith}
use Rattle.std.specs.Prelude.{IsSome}
use Rattle.std.proofs.lemmas.Bool.{false≢true}
use Rattle.nx_host.specs.declared.disk.Area.{Area}
use Rattle.nx_host.specs.Disk.{Image, HoldsBytes, no_bytes, Beside, Place, Keeps, Renews, IsRenewedLast, LeavesBeside}
use Rattle.nx_host.specs.Time.{none_elapsed, elapsed_then, elapsed_weaker}
use Rattle.nx_host.specs.Still.{IsStill, WritesAlone, IsSettled}
use Rattle.nx_host.specs.declared.disk.Disk.{Ghosts}

-- what isn't told is nothing
pub untold : {T P : Type 0} (x : T) → ◌≡◌ {A = Option T} None (Some x) → P
untold x is = absurd (cc)

pub no_bytes_hold_bytes : HoldsBytes no_bytes
no_bytes_hold_bytes = record { pages = λ i. omega arith; log = λ i. omega arith }

pub keeps_self : {T : Type 0} (a : Option T) → Keeps a a
keeps_self None = tt
keeps_self (Some x) = refl

pub keeps_then : {T : Type 0} (a b c : Option T) → Keeps a b → Keeps b c → Keeps a c
keeps_then a b None first second = tt
keeps_then a b (Some x) first second = subst (λ y. Keeps a y) second first

-- what is still told is the same
pub told_same : {T : Type 0} (a b : Option T) → Keeps a b → IsSome b → b ≡ a
told_same a None kept told = absurd (false≢true told)
told_same a (Some x) kept told = sym kept

pub beside_self : {a : Beside} → LeavesBeside a a
beside_self {a = a} = record { input = keeps_self a.input; output = keeps_self a.output; in_faults = refl; out_faults = refl }

pub beside_then : {a b c : Beside} → LeavesBeside a b → LeavesBeside b c → LeavesBeside a c
beside_then {a = a} {b = b} {c = c} first second = record {
  input = keeps_then a.input b.input c.input first.input second.input;
  output = keeps_then a.output b.output c.output first.output second.output;
  in_faults = second.in_faults ∙ first.in_faults;
  out_faults = second.out_faults ∙ first.out_faults;
}

-- a byte that was renewed is the last one
pub renews_last : (area : Area) (at : ℕ) (a b : Option (List Place)) → Renews area at a b → IsRenewedLast area at b
renews_last area at a None renews = tt
renews_last area at a (Some now) (was, told, grown) = (was, grown)

module _ {D : Type 0} {d : Ghosts D} where
  -- before the first call
  pub none_still : {a : D} → IsStill d a a
  none_still = record {
    contents_stay = refl;
    images_stay = λ i. (λ h. h, λ h. h);
    beside_stays = beside_self;
    faults_later = omega arith;
    reads_later = omega arith;
    time = none_elapsed;
  }

  -- one call more that asks the disk alone
  pub still_then : {a b c : D} → IsStill d a b → IsStill d b c → IsStill d a c
  still_then {a = a} {b = b} {c = c} first second = record {
    contents_stay = second.contents_stay ∙ first.contents_stay;
    images_stay = λ i. (λ h. (first.images_stay i).0 ((second.images_stay i).0 h), λ h. (second.images_stay i).1 ((first.images_stay i).1 h));
    beside_stays = beside_then first.beside_stays second.beside_stays;
    faults_later = let x : d.faults a ≤ d.faults b = first.faults_later in let y : d.faults b ≤ d.faults c = second.faults_later in omega (arith, x, y);
    reads_later = let x : d.reads a ≤ d.reads b = first.reads_later in let y : d.reads b ≤ d.reads c = second.reads_later in omega (arith, x, y);
    time = elapsed_then first.time second.time
        (λ s h. (keeps_then (d.beside a).output (d.beside b).output s.output (first.beside_stays).output h.0, (first.images_stay s.image).0 h.1));
  }

  -- before the first call
  pub none_written : {a : D} {P : Image → Type 0} → WritesAlone d a a P
  none_written = record {
    told = λ h. h;
    beside_stays = beside_self;
    faults_later = omega arith;
    reads_later = omega arith;
    time = none_elapsed;
  }

  -- one call more, whose images have Q
  pub written_alone_then : {a b c : D} {P Q : Image → Type 0} → WritesAlone d a b P → WritesAlone d b c Q → (IsSome (d.contents c) → (i : Image) → Q i → P i) → WritesAlone d a c P
  written_alone_then {a = a} {b = b} {c = c} {P = P} first second weaker = record {
    told = λ h. first.told (second.told h);
    beside_stays = beside_then first.beside_stays second.beside_stays;
    faults_later = let x : d.faults a ≤ d.faults b = first.faults_later in let y : d.faults b ≤ d.faults c = second.faults_later in omega (arith, x, y);
    reads_later = let x : d.reads a ≤ d.reads b = first.reads_later in let y : d.reads b ≤ d.reads c = second.reads_later in omega (arith, x, y);
    time = elapsed_then {P = λ s. Keeps (d.beside a).output s.output × (IsSome (d.contents c) → P s.image)}
        (elapsed_weaker first.time (λ s h. (h.0, λ told. h.1 (second.told told))))
        second.time
        (λ s h. (keeps_then (d.beside a).output (d.beside b).output s.output (first.beside_stays).output h.0, λ told. weaker told s.image (h.1 told)));
  }

  -- what the images have may be weakened
  pub written_alone_weaker : {a b : D} {P Q : Image → Type 0} → WritesAlone d a b Q → (IsSome (d.contents b) → (i : Image) → Q i → P i) → WritesAlone d a b P
  written_alone_weaker first weaker = record {
    told = first.told;
    beside_stays = first.beside_stays;
    faults_later = first.faults_later;
    reads_later = first.reads_later;
    time = elapsed_weaker first.time (λ s h. (h.0, λ told. weaker told s.image (h.1 told)));
  }

  -- a disk that was asked alone has the images that it had
  pub still_goes : {a b : D} → IsStill d a b → WritesAlone d a b (d.may_leave a)
  still_goes {a = a} {b = b} still = record {
    told = subst (λ o. IsSome o → IsSome (d.contents a)) (sym still.contents_stay) (λ told. told);
    beside_stays = still.beside_stays;
    faults_later = still.faults_later;
    reads_later = still.reads_later;
    time = elapsed_weaker still.time (λ s h. (h.0, λ told. h.1));
  }

  -- what leaves the contents where they are told, and brings no image, leaves the one image
  pub settled_kept : {a b : D} {image : Image} → Keeps (d.contents a) (d.contents b) → IsSome (d.contents b) → ((i : Image) → d.may_leave b i → d.may_leave a i) →
      IsSettled d a image → IsSettled d b image
  settled_kept {a = a} {b = b} kept told fewer settled = record {
    here = told_same (d.contents a) (d.contents b) kept told ∙ settled.here;
    only = λ i left. settled.only i (fewer i left);
  }

  -- one image alone stays so
  pub settled_still : {a b : D} {image : Image} → IsStill d a b → IsSettled d a image → IsSettled d b image
  settled_still still settled = record {
    here = still.contents_stay ∙ settled.here;
    only = λ i left. settled.only i ((still.images_stay i).0 left);
  }
