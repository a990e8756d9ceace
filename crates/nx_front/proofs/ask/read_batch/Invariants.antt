use Rattle.std.proofs.Common.{◌≡◌, ◌-◌, ◌≤◌, List, map, length}
use Rattle.nx_host.specs.Phase.{TakesAlone}
use Rattle.nx_script.specs.declared.request.Request.{Request}
use Rattle.nx_front.specs.Asking.{as_question, batch_size}
use Rattle.nx_front.specs.Batches.{GivesBesides}
use Rattle.nx_front.proofs.ask.read_batch.Given as goal

-- the batch has what the requests ask that came
abbrev pub invariant-loop-script : goal.invariant-loop-script
invariant-loop-script g l =
    let h = g.H.Disk in
    (requests : List Request) × record {
      asks : map as_question requests ≡ l.batch.items;
      gives : GivesBesides requests l.initial.script l.script (h.beside l.initial.host).input (h.beside l.host).input;
      alone : TakesAlone h l.initial.host l.host;
      most : length l.batch.items ≤ batch_size;
    }

abbrev pub decreases-loop-script : goal.decreases-loop-script
decreases-loop-script g l = batch_size - length l.batch.items
