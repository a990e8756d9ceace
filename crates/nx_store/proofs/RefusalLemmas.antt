-- How refusals of the crates below are handed on.
use Rattle.std.proofs.Common.{◌≡◌, ◌≤◌, ℕ, true, false, refl, sym, ◌∙◌, arith}
use Rattle.std.proofs.lemmas.Bool.{false≢true}
use Rattle.std.specs.Option.{IsSomeAnd}
use Rattle.nx_host.specs.Disk.{Image, Rose}
use Rattle.nx_host.specs.declared.disk.Disk.{Ghosts}
use Rattle.nx_host.specs.Still.{IsStill, IsSettled}
use Rattle.nx_replay.specs.Log.{replay}
use Rattle.nx_holdings.specs.Holdings.{Held, Holds}
use Rattle.nx_records.specs.declared.records.Records.{Records}
use Rattle.nx_records.specs.declared.error.StoreError.{StoreError}
use Rattle.nx_records.specs.declared.error.StoreError.TheVariants as below
use Rattle.nx_records.specs.Records.{StandsFor, has_ended, IsInStepWith, HasHeader, LeavesRecords}
use Rattle.nx_records.specs.Refusals as records
use Rattle.nx_records.specs.Refusals.{NotRead}
use Rattle.nx_catalog.specs.Catalog.{Contents, IsCatalog}
use Rattle.nx_nav.specs.declared.error.NavError.{NavError}
use Rattle.nx_nav.specs.declared.error.NavError.TheVariants as nav
use Rattle.nx_nav.specs.Refusals.{IsRefused}
use Rattle.nx_store.specs.Told.{told_error, told_by, is_no_node}
use Rattle.nx_store.specs.Store.{IsNowhere, NotApplied, NotOpened}
use Rattle.nx_store.specs.declared.store.Store.{Store}

-- a count that rose later rose
pub rose_later : (n m k : ℕ) → n ≤ m → Rose m k → Rose n k
rose_later n m k le rose = omega (arith, le, rose)

module _ {D : Type 0} (d : Ghosts D) where
  pub open_refused : (x0 x1 : D) (e : StoreError) → records.NoRecordsOpened d e x0 x1 → IsSomeAnd (told_error e) (λ told. NotOpened d told x0 x1)
  open_refused x0 x1 below.Disk h = h
  open_refused x0 x1 below.NotAStore h = h
  open_refused x0 x1 (below.Damaged page) h = λ was settled. ((h.1 was settled).0, λ state recovers. (h.1 was settled).1 recovers.0 recovers.1)
  open_refused x0 x1 below.Memory h = tt
  open_refused x0 x1 below.Ended h = absurd h
  open_refused x0 x1 below.Exists h = absurd h
  open_refused x0 x1 below.Full h = absurd h

  pub catalog_refused : (r1 r2 : Records) (x0 x1 x2 : D) (e : StoreError) → IsStill d x0 x1 → has_ended r1 ≡ false
      → ((was : Image) (held : Held) → IsSettled d x0 was → Holds (replay was) held → StandsFor d r1 x1 held held)
      → ((was : Image) → IsSettled d x0 was → IsInStepWith d r1 x1 was × HasHeader was)
      → NotRead d (λ now. (contents : Contents) → IsCatalog now.catalog.bytes contents → ⊥) 0 e r1 r2 x1 x2 → IsSomeAnd (told_error e) (λ told. NotOpened d told x0 x2)
  catalog_refused r1 r2 x0 x1 x2 below.Disk still runs stands step h = rose_later (d.faults x0) (d.faults x1) (d.faults x2) still.faults_later h.0
  catalog_refused r1 r2 x0 x1 x2 (below.Damaged page) still runs stands step h =
      λ was settled. ((step was settled).1, λ state recovers. h.lacks recovers.0 recovers.0 (stands was recovers.0 settled recovers.1) (recovers.2).contents (recovers.2).catalog)
  catalog_refused r1 r2 x0 x1 x2 below.Memory still runs stands step h = tt
  catalog_refused r1 r2 x0 x1 x2 below.Ended still runs stands step h = absurd (false≢true (sym runs ∙ h.0))
  catalog_refused r1 r2 x0 x1 x2 below.Exists still runs stands step h = absurd h
  catalog_refused r1 r2 x0 x1 x2 below.NotAStore still runs stands step h = absurd h
  catalog_refused r1 r2 x0 x1 x2 below.Full still runs stands step h = absurd h

  -- why a look at a document gave up, but that there is no node
  pub look_refused : (s0 s1 : Store) {x0 x1 : D} (Nowhere : Type 0) {Lacks : Type 0} (e : NavError) → (is_no_node e ≡ true → Nowhere → ⊥) → (Lacks → IsNowhere d s0 x0) → IsStill d x0 x1
      → s1.catalog ≡ s0.catalog → IsRefused d Nowhere ⊥ Lacks e s0.records s1.records x0 x1 → IsSomeAnd (told_by e) (λ told. NotApplied d told s0 s1 x0 x1)
  look_refused s0 s1 Nowhere nav.NoNode other lacks still catalog h = absurd (other refl h.0)
  look_refused s0 s1 Nowhere nav.Disk other lacks still catalog h = (h.0, (h.1.before, h.1.after))
  look_refused s0 s1 Nowhere nav.Write other lacks still catalog h = absurd h.0
  look_refused s0 s1 Nowhere (nav.Damaged page) other lacks still catalog h = ((h.1.before, h.1.after), λ told. lacks h.0)
  look_refused s0 s1 Nowhere nav.Ended other lacks still catalog h = (h.0, record { records = h.1; catalog = catalog }, h.2)
  look_refused s0 s1 Nowhere nav.Memory other lacks still catalog h = (h.0, (h.1).ended_stays ∙ h.0)

  -- records that run on are left
  pub look_same : (Nowhere Lacks : Type 0) (r0 r1 : Records) (x0 x1 : D) (e : NavError) → IsRefused d Nowhere ⊥ Lacks e r0 r1 x0 x1 → has_ended r1 ≡ false → LeavesRecords r0 r1
  look_same Nowhere Lacks r0 r1 x0 x1 nav.NoNode h runs = h.2
  look_same Nowhere Lacks r0 r1 x0 x1 nav.Disk h runs = absurd (false≢true (sym runs ∙ h.1.after))
  look_same Nowhere Lacks r0 r1 x0 x1 nav.Write h runs = absurd h.0
  look_same Nowhere Lacks r0 r1 x0 x1 (nav.Damaged page) h runs = absurd (false≢true (sym runs ∙ h.1.after))
  look_same Nowhere Lacks r0 r1 x0 x1 nav.Ended h runs = h.1
  look_same Nowhere Lacks r0 r1 x0 x1 nav.Memory h runs = h.1

  -- the path leads nowhere
  pub is_nowhere : (Nowhere Unwritten Lacks : Type 0) (r0 r1 : Records) (x0 x1 : D) (e : NavError) → is_no_node e ≡ true → IsRefused d Nowhere Unwritten Lacks e r0 r1 x0 x1
      → Nowhere × (has_ended r0 ≡ false) × LeavesRecords r0 r1
  is_nowhere Nowhere Unwritten Lacks r0 r1 x0 x1 nav.NoNode is refused = refused
  is_nowhere Nowhere Unwritten Lacks r0 r1 x0 x1 nav.Disk is refused = absurd (false≢true is)
  is_nowhere Nowhere Unwritten Lacks r0 r1 x0 x1 nav.Write is refused = absurd (false≢true is)
  is_nowhere Nowhere Unwritten Lacks r0 r1 x0 x1 (nav.Damaged page) is refused = absurd (false≢true is)
  is_nowhere Nowhere Unwritten Lacks r0 r1 x0 x1 nav.Ended is refused = absurd (false≢true is)
  is_nowhere Nowhere Unwritten Lacks r0 r1 x0 x1 nav.Memory is refused = absurd (false≢true is)
