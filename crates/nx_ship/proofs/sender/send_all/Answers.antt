use Rattle.std.proofs.Common.{◌≡◌, ◌++◌, [], List, ℕ, ap, subst, ◌∙◌}
use Rattle.std.proofs.lemmas.Result.{err_from_is_err_and}
use Rattle.byteorder.specs.Endian.{big_bytes}
use Rattle.nx_ship.specs.Sent.{SendsPages, StopsAtPages, SendsMore}
use Rattle.nx_ship.specs.declared.error.ShipError.TheVariants.{Memory}
use Rattle.nx_ship.proofs.SendLemmas.{more_now, fault_since}
use Rattle.nx_ship.proofs.SendingLemmas.{all_sent, all_uncounted, all_stopped, all_ungiven}
use Rattle.nx_ship.proofs.sender.send_all.Goals as goal

pub returns-in_err-add_head-clause-ends : goal.returns-in_err-add_head-clause-ends
returns-in_err-add_head-clause-ends g c =
    let p = err_from_is_err_and c.from_residual.result c.from_residual.ensures.1 in
    rw (p.1, p.2) (all_uncounted {d = g.H.Disk} c.args.number c.args.count Memory tt)

pub returns-in_err-send_pages-clause-ends : goal.returns-in_err-send_pages-clause-ends
returns-in_err-send_pages-clause-ends g c =
    let d = g.H.Disk in
    let head = big_bytes 8 c.args.number ++ big_bytes 4 c.args.count in
    let block : c.add_head.new.block.items ≡ head = c.in_ok-add_head.ensures ∙ ap (λ (l : List ℕ). l ++ head) c.requires in
    let p = err_from_is_err_and c.from_residual-in_err-send_pages.result c.from_residual-in_err-send_pages.ensures.1 in
    let e = c.in_err-send_pages.field-0.0 in
    rw (p.1, p.2)
    (all_stopped c.args.number c.args.count e
    (subst (λ (l : List ℕ). StopsAtPages d c.args.count c.args.wal.now e l c.args.host.now c.send_pages.new.host) block c.in_err-send_pages.ensures.err))

pub returns-in_err-give-clause-ends : goal.returns-in_err-give-clause-ends
returns-in_err-give-clause-ends g c =
    let d = g.H.Disk in
    let head = big_bytes 8 c.args.number ++ big_bytes 4 c.args.count in
    let block : c.add_head.new.block.items ≡ head = c.in_ok-add_head.ensures ∙ ap (λ (l : List ℕ). l ++ head) c.requires in
    let p = err_from_is_err_and c.from_residual-in_err-give.result c.from_residual-in_err-give.ensures.1 in
    let e = c.in_err-give.field-0.0 in
    rw (p.1, p.2)
    (all_ungiven c.args.number c.args.count e c.in_err-give.ensures.cut
    (subst (λ (l : List ℕ). SendsPages d c.args.count c.args.wal.now l c.send_pages.new.block.items c.args.host.now c.send_pages.new.host) block c.in_ok-send_pages.ensures.ok)
    c.in_err-give.ensures.err)

pub returns-in_err-give-clause-cause : goal.returns-in_err-give-clause-cause
returns-in_err-give-clause-cause g c =
    let p = err_from_is_err_and c.from_residual-in_err-give.result c.from_residual-in_err-give.ensures.1 in
    let sent = c.in_ok-send_pages.ensures.ok in
    rw (p.1, p.2) (fault_since _ c.args.host.now c.send_pages.new.host c.give.new.host c.in_err-give.field-0.0 (more_now sent.bytes sent.sends) c.in_err-give.ensures.cause)

pub returns-clause-ends : goal.returns-clause-ends
returns-clause-ends g c =
    let d = g.H.Disk in
    let head = big_bytes 8 c.args.number ++ big_bytes 4 c.args.count in
    let block : c.add_head.new.block.items ≡ head = c.in_ok-add_head.ensures ∙ ap (λ (l : List ℕ). l ++ head) c.requires in
    let gave = c.in_ok-give.ensures.ok in
    all_sent c.args.number c.args.count
    (subst (λ (l : List ℕ). SendsPages d c.args.count c.args.wal.now l c.send_pages.new.block.items c.args.host.now c.send_pages.new.host) block c.in_ok-send_pages.ensures.ok)
    (subst (λ (l : List ℕ). SendsMore d [] c.send_pages.new.block.items l c.send_pages.new.host c.give.new.host) gave.1 gave.0)
