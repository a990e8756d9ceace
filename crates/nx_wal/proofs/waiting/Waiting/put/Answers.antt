use Rattle.std.proofs.Common.{ℕ, List, sym, subst}
use Rattle.std.specs.Prelude.{All}
use Rattle.std.specs.Map.{values_of}
use Rattle.std.specs.Ordering.{nat_cmp}
use Rattle.std.proofs.lemmas.Map.Views.{All-values-insert_entry}
use Rattle.nx_wal.specs.Places.{Kept, IsWholePage}
use Rattle.nx_wal.proofs.waiting.Waiting.put.Goals as goal

pub invariant_of-self-clause-whole : goal.invariant_of-self-clause-whole
invariant_of-self-clause-whole c =
    subst (λ (es : List (ℕ × Kept)). All IsWholePage (values_of es)) (sym c.in-Ok-None.ensures.entries)
    (All-values-insert_entry nat_cmp c.args.page c.in_ok-kept.kept IsWholePage c.keep.new.self.pages.entries c.keep.new.self.whole c.in_ok-kept.ensures.kept.1)

pub invariant_of-self-in-Ok-Some-clause-whole : goal.invariant_of-self-in-Ok-Some-clause-whole
invariant_of-self-in-Ok-Some-clause-whole c =
    subst (λ (es : List (ℕ × Kept)). All IsWholePage (values_of es)) (sym c.in-Ok-Some.ensures.entries)
    (All-values-insert_entry nat_cmp c.args.page c.in_ok-kept.kept IsWholePage c.keep.new.self.pages.entries c.keep.new.self.whole c.in_ok-kept.ensures.kept.1)

pub invariant_of-self-in-Err-clause-whole : goal.invariant_of-self-in-Err-clause-whole
invariant_of-self-in-Err-clause-whole c = subst (λ (es : List (ℕ × Kept)). All IsWholePage (values_of es)) (sym c.in-Err.ensures.err) c.keep.new.self.whole
