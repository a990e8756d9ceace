use Rattle.std.proofs.Common.{ℕ, List, Some, inr, refl, sym, subst, nat_cmp, arith}
use Rattle.std.specs.Cmp.Lexicographic.{slice_cmp}
use Rattle.std.specs.BTreeMap.{UpdatesBy}
use Rattle.nx_names.proofs.SerialLemmas.{number_here, number_apart}
use Rattle.nx_names.proofs.serials.Serials.number_of.Goals as goal

pub returns : goal.returns
returns c =
    let old = c.args.self.now.numbers in
    let label = c.args.label.now in
    let own = c.in_ok-key.ensures.items in
    let updates = subst (λ (l : List ℕ). UpdatesBy (λ a b. slice_cmp nat_cmp a.items b.items) (λ k. slice_cmp nat_cmp l k.items) old c.insert.new.self (Some c.in-Ok.number)) own c.in_ok-insert.ensures.updates in
    record {
      has = number_here label old c.insert.new.self c.in-Ok.number updates;
      others = number_apart label old c.insert.new.self c.in-Ok.number updates;
      lists = refl;
      origin = inr (sym c.in_default.ensures.value, grind (arith, c.in-Ok.ensures, c.len.ensures, c.args.self.now.lists.ok));
    }
