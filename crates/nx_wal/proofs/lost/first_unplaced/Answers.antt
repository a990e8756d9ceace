use Rattle.std.proofs.Common.{ℕ, subst, sym, inl, inr}
use Rattle.nx_wal.specs.Lost.{IsPlaced}
use Rattle.nx_wal.proofs.LostLemmas.{below_or_last}
use Rattle.nx_wal.proofs.lost.first_unplaced.Goals as goal

pub loop-page-preserved : goal.loop-page-preserved
loop-page-preserved c p low = elim (below_or_last p c.loop-page.page low) [
  | inl before ↦ c.loop-page.invariant p before
  | inr last ↦ subst (λ (q : ℕ). IsPlaced c.args.places.now q) (sym last) (record { at = c.in-Some._at; there = c.in-Some.ensures.some })
]
