use Rattle.std.proofs.Common.{◌≡◌, ◌+◌, ◌*◌, ℕ, drop, arith, subst, ◌∙◌}
use Rattle.nx_wal.specs.Reading.{FillsPrefix}
use Rattle.nx_wal.proofs.ReadingLemmas.{reads_at, part_read}
use Rattle.nx_wal.proofs.reading.read_part.Goals as goal

pub returns-clause-part : goal.returns-clause-part
returns-clause-part g c was told stands count room fits =
    let r = reads_at c.args.at was.log stands in
    let here : c.saturating_add-begin.result ≡ c.args.at + (13 + 8196 * c.args.first) =
    (let low = r.low in let long = r.long in omega (arith, c.saturating_add-begin.ensures, low, long, fits)) in
    part_read c.args.first count was.log stands here (subst (λ (n : ℕ). FillsPrefix c.in_ok-_given._given n c.read_from.new.into (drop c.saturating_add-begin.result was.log)) room (c.in_ok-_given.ensures.gives was told)) (c.read_from.auto.into ∙ room) c.are_bytes.ensures fits
