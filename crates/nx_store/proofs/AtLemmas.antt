-- A store at a state, over a disk that is asked alone.
use Rattle.std.proofs.Common.{◌≡◌, ℕ, List, refl, sym, subst, ◌∙◌, false}
use Rattle.std.specs.Prelude.{Option, Some, IsSome}
use Rattle.nx_host.specs.Disk.{Image}
use Rattle.nx_host.specs.declared.disk.Disk.{Ghosts}
use Rattle.nx_host.specs.Phase.{LeavesAreas}
use Rattle.nx_host.specs.Still.{IsStill}
use Rattle.nx_host.specs.Time.{elapsed_weaker}
use Rattle.nx_host.proofs.DiskLemmas.{settled_kept, settled_still}
use Rattle.nx_holdings.specs.Holdings.{Held}
use Rattle.nx_records.specs.declared.records.Records.{Records}
use Rattle.nx_records.specs.Records.{StandsFor, HasNoChanges}
use Rattle.nx_records.proofs.LeaveLemmas.{leaves_same, leaves_stand}
use Rattle.nx_catalog.specs.Catalog.{Contents, IsCatalog}
use Rattle.nx_state.specs.State.{State}
use Rattle.nx_state.specs.Stands.{Recovers}
use Rattle.nx_store.specs.Store.{is_ended, LeavesStore, IsAt, IsNow, Shows, IsOf}
use Rattle.nx_store.specs.declared.store.Store.{Store}

-- nothing was asked of it
pub leaves_self : (s : Store) → LeavesStore s s
leaves_self s = record { records = leaves_same {r0 = s.records} {r1 = s.records} refl; catalog = refl }

module _ {D : Type 0} {d : Ghosts D} where
  -- over a disk that was asked alone records stand for the same
  pub stands_still : {r : Records} {x0 x1 : D} {saved now : Held} → IsStill d x0 x1 → StandsFor d r x0 saved now → StandsFor d r x1 saved now
  stands_still still stands = record {
    keeps = record {
      runs = (stands.keeps).runs;
      image = (stands.keeps).image;
      step = record { settled = settled_still still ((stands.keeps).step).settled; follows = ((stands.keeps).step).follows };
      holds = (stands.keeps).holds;
    };
    holds = stands.holds;
    known = stands.known;
  }

  -- a store that was looked at is at the same state
  pub at_kept : {s0 s1 : Store} {x0 x1 : D} {state : State} → LeavesStore s0 s1 → IsStill d x0 x1 → IsAt d s0 x0 state → IsAt d s1 x1 state
  at_kept {s0} {s1} leaves still at = record {
    held = at.held;
    stands = leaves_stand {r0 = s0.records} {r1 = s1.records} leaves.records still at.stands;
    none_waits = (leaves.records).changes_stay ∙ at.none_waits;
    state_is = at.state_is;
    catalog = subst (λ (c : Contents). IsCatalog (at.held).catalog.bytes c) (sym leaves.catalog) at.catalog;
  }

  -- whatever waits, where nothing does
  abbrev pub now_at : {s : Store} {x : D} {state : State} (at : IsAt d s x state) → IsNow d s x at.held state
  now_at at = record { held = at.held; stands = at.stands; state_is = at.state_is; catalog = at.catalog }

  -- a store whose changes were committed is at what was held
  abbrev pub committed_at : (s1 s2 : Store) (x1 x2 : D) (saved : Held) (next : State) (now : IsNow d s1 x1 saved next) (image : Image) → d.contents x2 ≡ Some image
      → ((saved now : Held) (image : Image) → StandsFor d s1.records x1 saved now → d.contents x2 ≡ Some image → StandsFor d s2.records x2 now now) → HasNoChanges s2.records → s2.catalog ≡ s1.catalog → IsAt d s2 x2 next
  committed_at s1 s2 x1 x2 saved next now image told stands none catalog = record {
    held = now.held;
    stands = stands saved now.held image now.stands told;
    none_waits = none;
    state_is = now.state_is;
    catalog = subst (λ (c : Contents). IsCatalog (now.held).catalog.bytes c) (sym catalog) now.catalog;
  }

  -- a store at a state runs
  pub at_runs : {s : Store} {x : D} {state : State} → IsAt d s x state → is_ended s ≡ false
  at_runs at = ((at.stands).keeps).runs

  -- each image that a crash may leave is one of its state
  pub at_image : {s : Store} {x : D} {state : State} {i : Image} → IsAt d s x state → d.may_leave x i → Recovers i (Some state)
  at_image {s = s} {state = state} {i = i} at may =
      let keeps = (at.stands).keeps in
      subst (λ (j : Image). Recovers j (Some state)) (sym (((keeps.step).settled).only i may)) (at.held, ((s.records).saved, keeps.holds), at.state_is)

  -- ... over a disk whose areas stay as they are, whatever is taken and given beside it
  abbrev pub at_beside : {s : Store} {x0 x1 : D} {P : Option (List ℕ) → Type 0} {state : State} → LeavesAreas d x0 x1 P → IsSome (d.contents x1) → IsAt d s x0 state → IsAt d s x1 state
  at_beside leaves told at = record {
    held = at.held;
    stands = record {
      keeps = record {
        runs = ((at.stands).keeps).runs;
        image = ((at.stands).keeps).image;
        step = record {
          settled = settled_kept leaves.contents_stay told (λ i left. (leaves.images_stay i).0 left) (((at.stands).keeps).step).settled;
          follows = (((at.stands).keeps).step).follows;
        };
        holds = ((at.stands).keeps).holds;
      };
      holds = (at.stands).holds;
      known = (at.stands).known;
    };
    none_waits = at.none_waits;
    state_is = at.state_is;
    catalog = at.catalog;
  }

  -- at each moment of a call that asks the disk alone each image is that of the state
  pub shows_still : {s : Store} {x0 x1 : D} {state : State} → IsStill d x0 x1 → IsAt d s x0 state → Shows d (IsOf state) x0 x1
  shows_still still at = elapsed_weaker still.time (λ t h. (h.0, at_image at h.1))
