use Rattle.nx_layouts.proofs.ChildLemmas.{children_are_changed}
use Rattle.nx_layouts.proofs.laws.children_are_changed.Goals as goal

pub returns : goal.returns
returns c = children_are_changed
