use Rattle.std.proofs.Common.{List, ℕ, ◌∙◌, subst}
use Rattle.nx_replay.proofs.SettledLemmas.{on_ok}
use Rattle.nx_ship.specs.Sent.{SendsMore, SendsSome}
use Rattle.nx_ship.proofs.SendLemmas.{on_err}
use Rattle.nx_ship.proofs.PartLemmas.{part_sent, part_cut, part_unread, room_of, first_read}
use Rattle.nx_ship.proofs.sender.send_part.Goals as goal

pub returns-in-Err-clause-err : goal.returns-in-Err-clause-err
returns-in-Err-clause-err g c = part_unread {d = g.H.Disk} c.args.index c.args.first c.args.count c.group_part.ensures.still

pub returns-clause-ok : goal.returns-clause-ok
returns-clause-ok g c =
    let d = g.H.Disk in
    let n = c.args.count in
    let into = c.group_part.new.into in
    let ok = c.in-Ok.ensures.ok in
    let room = room_of n c.args.part.now c.requires.few c.requires.room in
    let same = first_read n c.args.part.now into c.requires.few c.requires.room c.group_part.auto.into in
    on_ok c.send_bytes.result c.send_bytes.ensures.ok (λ more. (
      ok.0,
      part_sent c.args.index c.args.first n into c.group_part.ensures.still
          (λ was step h here count is. ok.2 was step h here count (room ∙ is))
          (subst (λ (l : List ℕ). SendsMore d l c.args.block.now.items c.send_bytes.new.block.items c.group_part.new.disk c.send_bytes.new.host) same more),
    ))

pub returns-clause-err : goal.returns-clause-err
returns-clause-err g c =
    let d = g.H.Disk in
    let n = c.args.count in
    let into = c.group_part.new.into in
    let ok = c.in-Ok.ensures.ok in
    let room = room_of n c.args.part.now c.requires.few c.requires.room in
    let same = first_read n c.args.part.now into c.requires.few c.requires.room c.group_part.auto.into in
    on_err c.send_bytes.result c.send_bytes.ensures.err (λ some.
    part_cut c.args.index c.args.first n into c.group_part.ensures.still
    (λ was step h here count is. ok.2 was step h here count (room ∙ is))
    (subst (λ (l : List ℕ). SendsSome d l c.args.block.now.items c.group_part.new.disk c.send_bytes.new.host) same some))
