use Rattle.std.proofs.Common.{refl, ◌∙◌}
use Rattle.nx_piece.proofs.ContentLemmas.{content_read}
use Rattle.nx_piece.proofs.reading.read_content.Goals as goal

pub returns : goal.returns
returns c =
    let r = content_read c.div_ceil-size.ensures c.if-bytes-size.false
    refl refl c.if-not-is_zero.ensures in
    (r.0, r.1 ∙ c.from-name.ensures, r.2 ∙ c.from.ensures)
