use Rattle.std.proofs.Common.{◌≡◌, drop, take, arith, ◌∙◌, length-drop}
use Rattle.byteorder.specs.Numbers.{big_from-take}
use Rattle.nx_wal.proofs.ReadingLemmas.{given_all, head_numbers}
use Rattle.nx_wal.proofs.reading.read_numbers_of.Goals as goal

pub returns-clause-head : goal.returns-clause-head
returns-clause-head g c was told fits =
    let head = c.read_from.new.into in
    let bytes = drop c.args.at was.log in
    let same : take 13 head ≡ take 13 bytes = given_all c.in_ok-_given._given 13 head bytes (c.in_ok-_given.ensures.gives was told) (omega (arith, fits, length-drop c.args.at was.log)) in
    let said = head_numbers head bytes same in (
      c.read_u64.ensures ∙ big_from-take 0 8 12 (drop 1 head) (omega arith) ∙ said.0,
      c.read_u32.ensures ∙ big_from-take 0 4 4 (drop 9 head) (omega arith) ∙ said.1,
    )
