use Rattle.std.proofs.Common.{ℕ, List}
use Rattle.nx_script.specs.declared.request.Request.{Request}
use Rattle.nx_front.specs.Batches.{IsAsking}
use Rattle.nx_front.proofs.ask.answer_input.Given as goal

-- every request that was given is answered
abbrev pub invariant-loop : goal.invariant-loop
invariant-loop g l = (taken : List ℕ) × (requests : List Request) × IsAsking g.H.Disk l.snapshot taken requests l.script l.initial.host l.host
