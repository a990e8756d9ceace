use Rattle.nx_piece_edits.proofs.ContentsLemmas.{edits_keep_contents}
use Rattle.nx_piece_edits.proofs.laws.edits_keep_contents.Goals as goal

pub returns : goal.returns
returns c = edits_keep_contents
