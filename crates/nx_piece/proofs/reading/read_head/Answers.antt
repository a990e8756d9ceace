use Rattle.nx_piece.proofs.BodyLemmas.{no_chain}
use Rattle.nx_piece.proofs.reading.read_head.Goals as goal

pub returns-in_default-read_chain : goal.returns-in_default-read_chain
returns-in_default-read_chain c =
    no_chain c.in-Some.roots c.in-Some.items c.in-Some.ensures.0 c.in_default-read_chain.ensures
