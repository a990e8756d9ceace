use Rattle.std.proofs.Common.{[], List, ℕ, subst}
use Rattle.nx_replay.proofs.SettledLemmas.{on_ok}
use Rattle.nx_ship.specs.Sent.{SendsMore, SendsSome}
use Rattle.nx_ship.proofs.SendLemmas.{some_nothing, on_err, any_err}
use Rattle.nx_ship.proofs.PartLemmas.{bytes_added, bytes_unadded}
use Rattle.nx_ship.proofs.sender.send_bytes.Goals as goal

pub returns-in_err-extend_from_slice-clause-err : goal.returns-in_err-extend_from_slice-clause-err
returns-in_err-extend_from_slice-clause-err g c = any_err c.from_residual.result (some_nothing {d = g.H.Disk} c.args.bytes.now c.args.block.now.items c.args.host.now)

pub returns-clause-ok : goal.returns-clause-ok
returns-clause-ok g c =
    on_ok c.give_full.result c.give_full.ensures.ok (λ more.
    bytes_added c.args.bytes.now
    (subst (λ (l : List ℕ). SendsMore g.H.Disk [] l c.give_full.new.block.items c.args.host.now c.give_full.new.host) c.in_ok-extend_from_slice.ensures.items more))

pub returns-clause-err : goal.returns-clause-err
returns-clause-err g c =
    on_err c.give_full.result c.give_full.ensures.err (λ some.
    bytes_unadded c.args.bytes.now (subst (λ (l : List ℕ). SendsSome g.H.Disk [] l c.args.host.now c.give_full.new.host) c.in_ok-extend_from_slice.ensures.items some))
