use Rattle.nx_piece_edits.proofs.ContentsLemmas.{edits_bring_content}
use Rattle.nx_piece_edits.proofs.laws.edits_bring_content.Goals as goal

pub returns : goal.returns
returns c = edits_bring_content
