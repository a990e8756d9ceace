use Rattle.std.proofs.Common.{ℕ, List, subst}
use Rattle.std.specs.Prelude.{All}
use Rattle.std.specs.Map.{values_of}
use Rattle.std.proofs.lemmas.List.Elements.{All-tail}
use Rattle.nx_wal.specs.Places.{Kept, IsWholePage}
use Rattle.nx_wal.proofs.waiting.Waiting.clear.Goals as goal

pub invariant_of-self-clause-whole : goal.invariant_of-self-clause-whole
invariant_of-self-clause-whole c =
    All-tail IsWholePage c.in-Some.kept (values_of c.pop_first.new.self.entries)
    (subst (λ (es : List (ℕ × Kept)). All IsWholePage (values_of es)) c.in-Some.ensures.removal c.loop-kept.self.whole)
