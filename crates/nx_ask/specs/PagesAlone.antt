-- The disk that a worker has of its own: a snapshot's pages, and no log.
use Rattle.std.specs.Prelude.{◌≡◌, ℕ, List, [], Option, Some, IsSome}
use Rattle.std.proofs.Common.{refl, sym, subst, arith}
use Rattle.nx_host.specs.Disk.{Image, AreBytes, HoldsBytes, Beside}
use Rattle.nx_host.specs.Time.{Stood}

-- the image of these pages, with no log
abbrev pub pages_alone : List ℕ → Image
pages_alone bytes = record { pages = bytes; log = [] }

-- nothing is taken or given beside it
abbrev pub nothing_beside : Beside
nothing_beside = record { input = Some []; output = Some []; in_faults = 0; out_faults = 0 }

-- it stood so at every moment
abbrev pub AlwaysStood : Image → Stood → Type 0
AlwaysStood image s = (s.output ≡ Some []) × (s.image ≡ image)

-- Its laws.

pub seen_contents : (image i : Image) → Some image ≡ Some i → i ≡ image
seen_contents image i is = cc

pub seen_told : (image : Image) (s : Stood) → AlwaysStood image s → IsSome s.output
seen_told image s stood = subst (λ (o : Option (List ℕ)). IsSome o) (sym stood.0) refl

pub seen_bytes : (image i : Image) → HoldsBytes image → i ≡ image → HoldsBytes i
seen_bytes image i holds is = subst HoldsBytes (sym is) holds

pub none_are_bytes : AreBytes []
none_are_bytes i = omega arith

pub no_bytes_seen : (input : List ℕ) → Some [] ≡ Some input → AreBytes input
no_bytes_seen input is = let none : [] ≡ input = cc in subst AreBytes none none_are_bytes
