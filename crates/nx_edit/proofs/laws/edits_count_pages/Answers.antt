use Rattle.nx_edit.proofs.PageLemmas.{edits_count_pages}
use Rattle.nx_edit.proofs.laws.edits_count_pages.Goals as goal

pub returns : goal.returns
returns c = edits_count_pages
