use Rattle.std.proofs.Common.{◌≡◌, ◌≤◌, take}
use Rattle.nx_choices.specs.declared.reach.Form.TheVariants.{Plain}
use Rattle.nx_choices.specs.Profile.{weigh}
use Rattle.nx_choices.proofs.walk.total.Given as goal

abbrev pub invariant-loop-child : goal.invariant-loop-child
invariant-loop-child l = record {
  sum : l.sum ≡ weigh Plain (take l.child-index l.children);
  most : l.sum ≤ l.most;
}
