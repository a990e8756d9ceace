use Rattle.std.proofs.Common.{◌≡◌, ◌++◌, take}
use Rattle.std.specs.List.{flat_map}
use Rattle.nx_script.specs.Reply.{doc_line}
use Rattle.nx_script.proofs.write.push_docs.Given as goal

abbrev pub invariant-loop-line : goal.invariant-loop-line
invariant-loop-line l = l.block ≡ l.initial.block ++ flat_map doc_line (take l.line-index l.line-items)
