use Rattle.std.proofs.Common.{List, ℕ, ◌++◌, drop, refl, ap, ◌∙◌, arith}
use Rattle.std.proofs.lemmas.List.{drop-replicate}
use Rattle.nx_replay.specs.Log.{mark}
use Rattle.nx_holdings.proofs.header.marked.Goals as goal

pub returns : goal.returns
returns c = record {
  here = refl;
  low = omega arith;
  are = c.set_mark.ensures ∙ ap (λ (r : List ℕ). mark ++ drop 8 r) c.blank-page.ensures ∙ ap (λ (r : List ℕ). mark ++ r) (drop-replicate 8 8192 0);
}
