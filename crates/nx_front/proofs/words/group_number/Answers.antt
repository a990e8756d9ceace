use Rattle.std.proofs.Common.{◌≡◌, true, sym, ap, ◌∙◌}
use Rattle.nx_front.specs.CommandLine.{has_plain_start}
use Rattle.nx_front.proofs.CommandLineLemmas.{number_read, number_unread}
use Rattle.nx_front.proofs.words.group_number.Goals as goal

pub returns-in-Ok : goal.returns-in-Ok
returns-in-Ok c =
    let plain : has_plain_start c.args.word.now ≡ true = ap has_plain_start (sym c.as_bytes.ensures.value) ∙ sym c.has_plain_start.ensures ∙ c.if-not-has_plain_start.false in
    number_read c.args.word.now c.parse.result c.in-Ok.number c.in-Ok.is plain c.parse.ensures.value.0

pub returns-in-Err : goal.returns-in-Err
returns-in-Err c =
    let plain : has_plain_start c.args.word.now ≡ true = ap has_plain_start (sym c.as_bytes.ensures.value) ∙ sym c.has_plain_start.ensures ∙ c.if-not-has_plain_start.false in
    number_unread c.args.word.now c.in-Err.field-0 plain (rw c.in-Err.is at c.parse.ensures.value.0)
