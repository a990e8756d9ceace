use Rattle.std.proofs.Common.{◌≡◌, drop, take, arith, ◌∙◌, length-drop}
use Rattle.byteorder.specs.Endian.{big_number}
use Rattle.nx_wal.proofs.ReadingLemmas.{given_all, unit_page}
use Rattle.nx_wal.proofs.reading.read_numbered.Goals as goal

pub returns-clause-page : goal.returns-clause-page
returns-clause-page g c was told fits =
    let unit = c.read_from.new.into in
    let bytes = drop c.args.at was.log in
    let same : take 8196 unit ≡ take 8196 bytes = given_all c.in_ok-_given._given 8196 unit bytes (c.in_ok-_given.ensures.gives was told) (omega (arith, fits, length-drop c.args.at was.log)) in
    let said = unit_page unit bytes same in
    let page : c.read_u32.result ≡ big_number 4 bytes = c.read_u32.ensures ∙ said.0 in
    let rest : c.copy_from_slice.new.self ≡ take 8192 (drop 4 bytes) = c.copy_from_slice.ensures.after ∙ said.1 in
    λ i. record { page = page i; bytes = rest i }
