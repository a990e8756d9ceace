use Rattle.std.proofs.Common.{ℕ, ◌+◌, ◌-◌, if◌then◌else◌, List}
use Rattle.nx_host.specs.Input.{most_input}
use Rattle.nx_script.specs.declared.request.Request.{Request}
use Rattle.nx_front.specs.Conversation.{IsConversing}
use Rattle.nx_front.proofs.serve.converse.Given as goal

-- every request of the bytes that were taken is answered
abbrev pub invariant-loop-block : goal.invariant-loop-block
invariant-loop-block g l = (taken : List ℕ) × (requests : List Request) × IsConversing g.H.Disk l.initial.store taken requests l.script l.store l.block l.initial.host l.host

-- as many bytes as may still come, and the input's end
abbrev pub decreases-loop-block : goal.decreases-loop-block
decreases-loop-block g l = (most_input - ((l.script.script).input).taken) + (if (l.script.script).ended then 0 else 1)
