-- What opening finds of pages that were lost.
use Rattle.std.proofs.Common.{◌≡◌, ℕ, ◌<◌, List, sym, ap, subst, arith, true, false}
use Rattle.std.specs.Prelude.{Option, Some, None}
use Rattle.std.specs.Option.{is_some}
use Rattle.nx_host.specs.Disk.{Image}
use Rattle.nx_host.specs.declared.disk.Disk.{Ghosts}
use Rattle.nx_host.specs.Still.{IsStill}
use Rattle.nx_host.proofs.DiskLemmas.{settled_still}
use Rattle.nx_replay.specs.Log.{replay}
use Rattle.nx_wal.specs.declared.wal.Wal.{Wal}
use Rattle.nx_wal.specs.Wal.{Follows, IsInStep}
use Rattle.nx_wal.specs.Lost.{LosesNone, Loses}
use Rattle.nx_holdings.specs.declared.header.Header.{Header}
use Rattle.nx_holdings.specs.Header.{header_bytes, IsInRange, IsNoHeader}
use Rattle.nx_holdings.specs.Holdings.{Held, Holds}
use Rattle.nx_holdings.proofs.OneLemmas.{one_header}
use Rattle.nx_holdings.proofs.DenseLemmas.{below_there}
use Rattle.nx_records.specs.Refusals.{LacksHeader, HasLost, HasLostNone}

-- over a disk that was asked alone the log is followed on
pub step_after : {D : Type 0} {d : Ghosts D} {before after : D} {was : Image} (old new : Wal) → IsStill d before after → new ≡ old → IsInStep d old before was → IsInStep d new after was
step_after {was = was} old new still same step = record {
  settled = settled_still still step.settled;
  follows = subst (λ (w : Wal). Follows w was.log) (sym same) step.follows;
}

one_page : (x y : List ℕ) (o : Option (List ℕ)) → o ≡ Some x → o ≡ Some y → x ≡ y
one_page x y o one other = cc

-- page 0 has one header
header_is : (was : Image) (one other : Header) → replay was 0 ≡ Some (header_bytes one) → IsInRange one → replay was 0 ≡ Some (header_bytes other) → IsInRange other → one ≡ other
header_is was one other here range there ranged = one_header one other range ranged (one_page (header_bytes one) (header_bytes other) (replay was 0) here there)

-- where a page is lost the pages aren't sound
pub lost_unsound : (was : Image) (page : ℕ) → HasLost page was → (held : Held) → Holds (replay was) held → ⊥
lost_unsound was page has held holds =
    let same : (holds.0).pages ≡ (has.head).pages = ap (λ (h : Header). h.pages) (header_is was holds.0 has.head (holds.1).here (holds.1).range has.here has.range) in
    let low : page < (has.head).pages = (has.lost).low in
    let some : is_some (replay was page) ≡ true = below_there holds.1 page (omega (arith, low, same)) in
    let none : is_some (replay was page) ≡ false = ap is_some (has.lost).lacks in
    cc

-- ... nor where page 0 is no header
pub headless_unsound : (was : Image) → LacksHeader was → (held : Held) → Holds (replay was) held → ⊥
headless_unsound was lacks held holds = lacks holds.0 (holds.1).here (holds.1).range

pub no_header : (was : Image) (bytes : List ℕ) → replay was 0 ≡ Some bytes → IsNoHeader bytes → LacksHeader was
no_header was bytes here none head there range = none head (record { are = one_page bytes (header_bytes head) (replay was 0) here there; range = range })

-- of the pages below the number that the header says none is lost
pub has_lost_none : (was : Image) (header : Header) → replay was 0 ≡ Some (header_bytes header) → IsInRange header → (lost : Option ℕ) → lost ≡ None → Loses lost header.pages was → HasLostNone was
has_lost_none was header here range lost none loses head there ranged =
    let same = header_is was header head here range there ranged in
    subst (λ (h : Header). LosesNone h.pages was) same (subst (λ (o : Option ℕ). Loses o header.pages was) none loses)

-- ... or this is the first
pub has_lost : (was : Image) (header : Header) → replay was 0 ≡ Some (header_bytes header) → IsInRange header → (lost : Option ℕ) (page : ℕ) → lost ≡ Some page → Loses lost header.pages was → HasLost page was
has_lost was header here range lost page some loses =
    record { head = header; here = here; range = range; lost = subst (λ (o : Option ℕ). Loses o header.pages was) some loses }
