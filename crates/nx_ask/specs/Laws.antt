-- The law of snapshots.
use Rattle.std.specs.Prelude.{Some}
use Rattle.nx_host.specs.Disk.{Image}
use Rattle.nx_state.specs.State.{State}
use Rattle.nx_state.specs.Stands.{Recovers}
use Rattle.nx_ask.specs.declared.snapshot.Snapshot.{Snapshot}
use Rattle.nx_ask.specs.Asked.{IsSnapshotOf}
use Rattle.nx_ask.specs.Snapshot.{HasPagesOf}

-- a snapshot of an image that stands for a state stands for it
abbrev pub KeepsState : Type 0
KeepsState = (snapshot : Snapshot) (was : Image) (state : State) → HasPagesOf snapshot was → Recovers was (Some state) → IsSnapshotOf snapshot state
