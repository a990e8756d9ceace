use Rattle.nx_layouts.proofs.LayoutLemmas.{one_document}
use Rattle.nx_layouts.proofs.laws.one_document.Goals as goal

pub returns : goal.returns
returns c = one_document
