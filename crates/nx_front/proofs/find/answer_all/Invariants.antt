use Rattle.std.proofs.Common.{ℕ, List}
use Rattle.nx_script.specs.declared.whole.Line.{Line}
use Rattle.nx_front.specs.Questions.{IsFinding}
use Rattle.nx_front.proofs.find.answer_all.Given as goal

-- every line that was given is answered
abbrev pub invariant-loop : goal.invariant-loop
invariant-loop g l = (taken : List ℕ) × (told : List Line) × IsFinding g.H.Disk l.initial.store taken told l.script l.store l.gathered l.initial.host l.host
