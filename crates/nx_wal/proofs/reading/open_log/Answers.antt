use Rattle.std.proofs.Common.{sym, ◌∙◌}
use Rattle.std.proofs.lemmas.Bool.{false≢true}
use Rattle.nx_replay.proofs.SettledLemmas.{told_still}
use Rattle.std.proofs.Common.{List, ℕ, arith, length}
use Rattle.nx_wal.specs.declared.reading.End.{End}
use Rattle.nx_wal.specs.Reading.{IsRead}
use Rattle.nx_wal.specs.Places.{Places, AreWithin}
use Rattle.nx_wal.proofs.WritingLemmas.{end_fits}
use Rattle.nx_wal.proofs.reading.open_log.Goals as goal

within_log : {places : Places} {starts : List ℕ} {end : End} {log : List ℕ} → IsRead places starts end log → AreWithin (length log) places
within_log {end = end} {log = log} read p at is = let fits = end_fits end.at end.shut log read.at in let low = read.within p at is in omega (arith, fits, low)

pub returns-then-not-is-clause-refused : goal.returns-then-not-is-clause-refused
returns-then-not-is-clause-refused g c was told has =
    let told_limit = told_still was c.log_limit.ensures.still told in
    let told_log = told_still was c.read_log.ensures.still told_limit in
    let read = c.in_ok-end.ensures.read was told_limit (c.in-Ok.ensures.limit was told) in
    let said = c.in-Ok-has_mark.ensures.mark was told_log read.leads (within_log read) in
    false≢true (sym c.if-not-is.true ∙ said.1 has)

pub returns-clause-read : goal.returns-clause-read
returns-clause-read g c was told =
    let told_limit = told_still was c.log_limit.ensures.still told in
    let told_log = told_still was c.read_log.ensures.still told_limit in
    let read = c.in_ok-end.ensures.read was told_limit (c.in-Ok.ensures.limit was told) in
    let said = c.in-Ok-has_mark.ensures.mark was told_log read.leads (within_log read) in
    (read, said.0 c.if-not-is.false)
