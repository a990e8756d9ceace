use Rattle.nx_edit.proofs.FreeLemmas.{IsFreeing}
use Rattle.nx_edit.proofs.freeing.free_all.Given as goal

abbrev pub invariant-loop-far : goal.invariant-loop-far
invariant-loop-far g l = IsFreeing g.D.Disk l.gone l.far-index l.initial.records l.records l.initial.disk l.disk
