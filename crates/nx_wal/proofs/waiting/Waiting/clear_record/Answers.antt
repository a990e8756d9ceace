use Rattle.std.proofs.Common.{ℕ, List, sym, subst}
use Rattle.std.specs.Box.{with_value}
use Rattle.std.specs.Prelude.{All}
use Rattle.std.specs.BTreeMap.{is_at}
use Rattle.std.specs.Map.{values_of}
use Rattle.std.specs.Ordering.{nat_cmp}
use Rattle.std.proofs.lemmas.Map.Views.{All-values-set_value}
use Rattle.nx_wal.specs.Places.{Kept, IsWholePage}
use Rattle.nx_wal.proofs.waiting.Waiting.clear_record.Goals as goal

pub invariant_of-self-clause-whole : goal.invariant_of-self-clause-whole
invariant_of-self-clause-whole c =
    let now = with_value c.in-Some.kept.now c.clear_in.new.page in
    subst (λ (es : List (ℕ × Kept)). All IsWholePage (values_of es)) (sym (c.get_mut.follows.holds now).0)
    (All-values-set_value (is_at (nat_cmp c.args.page)) IsWholePage c.args.self.now.pages.entries now c.args.self.now.whole c.clear_in.ensures.slotted.headed.long)
