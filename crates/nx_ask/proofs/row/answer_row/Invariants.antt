use Rattle.std.proofs.Common.{◌≡◌, ◌≤◌, length, take}
use Rattle.std.specs.Prelude.{Some, IsSome}
use Rattle.std.specs.List.{AllZip}
use Rattle.nx_host.specs.Disk.{Image}
use Rattle.nx_host.specs.Still.{IsSettled}
use Rattle.nx_state.specs.State.{State}
use Rattle.nx_state.specs.Stands.{Recovers}
use Rattle.nx_store.specs.Store.{IsAt}
use Rattle.nx_ask.specs.Asked.{Asked}
use Rattle.nx_ask.proofs.row.answer_row.Given as goal

abbrev pub invariant-loop-place : goal.invariant-loop-place
invariant-loop-place g l =
    record {
      within : l.place ≤ length l.questions;
      many : length l.replies.items ≡ l.place;
      so_far : IsSome (g.D.Disk.contents l.disk) → (was : Image) → IsSettled g.D.Disk l.fn.disk was → (state : State) → Recovers was (Some state)
          → IsAt g.D.Disk l.store l.disk state × AllZip (Asked state) (take l.place l.questions) l.replies.items;
    }
