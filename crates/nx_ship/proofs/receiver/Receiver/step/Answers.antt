use Rattle.std.proofs.Common.{◌∷◌, ◌++◌, [], List, ℕ, take, drop, refl, subst}
use Rattle.std.specs.Prelude.{Err}
use Rattle.std.proofs.lemmas.Result.{err_from_is_err_and}
use Rattle.nx_ship.specs.Applying.{AppliesTo}
use Rattle.nx_ship.specs.Reading.{Feeds, page_of}
use Rattle.nx_ship.specs.declared.reader.Fed.{Fed}
use Rattle.nx_ship.specs.declared.error.ShipError.TheVariants.{Memory}
use Rattle.nx_ship.proofs.ReceivingLemmas.{leaves_none}
use Rattle.nx_ship.proofs.TakingLemmas.{fed_more, fed_page, fed_applying, fed_stopped, fed_spoilt, unfed, few_part, parts}
use Rattle.nx_ship.proofs.receiver.Receiver.step.Goals as goal

pub returns-in_err-fed-clause-err : goal.returns-in_err-fed-clause-err
returns-in_err-fed-clause-err g c =
    let p = err_from_is_err_and c.from_residual.result c.from_residual.ensures.1 in
    rw (p.1, p.2) (λ start first taken few some. unfed c.args.piece.now Memory tt some)

pub returns-in_err-fed-clause-leaves : goal.returns-in_err-fed-clause-leaves
returns-in_err-fed-clause-leaves g c = leaves_none c.args.host.now

pub returns-in-More-clause-within : goal.returns-in-More-clause-within
returns-in-More-clause-within g c = (subst (λ (f : Fed). Feeds f c.args.piece.now c.args.self.now.reader c.feed.new.self) c.in-More.is c.in_ok-fed.ensures).0

pub returns-in-More-clause-ok : goal.returns-in-More-clause-ok
returns-in-More-clause-ok g c start first taken few (gs, es, received) =
    let fact = subst (λ (f : Fed). Feeds f c.args.piece.now c.args.self.now.reader c.feed.new.self) c.in-More.is c.in_ok-fed.ensures in
    (gs, es, fed_more taken c.args.piece.now c.in-More.taken refl refl refl few (fact.1 taken gs es received.read) received)

pub returns-in-More-clause-some : goal.returns-in-More-clause-some
returns-in-More-clause-some g c start first taken (gs, es, received) some =
    let fact = subst (λ (f : Fed). Feeds f c.args.piece.now c.args.self.now.reader c.feed.new.self) c.in-More.is c.in_ok-fed.ensures in
    (fact.1 taken gs es received.read).some some

pub returns-in-More-clause-leaves : goal.returns-in-More-clause-leaves
returns-in-More-clause-leaves g c = leaves_none c.args.host.now

pub put-requires : goal.put-requires
put-requires g c = (subst (λ (f : Fed). Feeds f c.args.piece.now c.args.self.now.reader c.feed.new.self) c.in-Page.is c.in_ok-fed.ensures).1

pub returns-in_err-put-in-Page-clause-err : goal.returns-in_err-put-in-Page-clause-err
returns-in_err-put-in-Page-clause-err g c =
    let fact = subst (λ (f : Fed). Feeds f c.args.piece.now c.args.self.now.reader c.feed.new.self) c.in-Page.is c.in_ok-fed.ensures in
    let p = err_from_is_err_and c.from_residual-in_err-put-in-Page.result c.from_residual-in_err-put-in-Page.ensures.1 in
    rw (p.1, p.2) (λ start first taken few (gs, es, received).
    let takes = fact.2 taken gs es received.read in
    fed_stopped taken c.args.piece.now c.in-Page.taken c.in_err-put-in-Page.field-0.0 c.in_err-put-in-Page.ensures.cut takes.read (fed_applying refl refl (λ some. takes.number_stays) received.applying) c.put.ensures.moves)

pub returns-in_err-put-in-Page-clause-cause : goal.returns-in_err-put-in-Page-clause-cause
returns-in_err-put-in-Page-clause-cause g c =
    let p = err_from_is_err_and c.from_residual-in_err-put-in-Page.result c.from_residual-in_err-put-in-Page.ensures.1 in
    rw (p.1, p.2) c.in_err-put-in-Page.ensures.cause

pub returns-in_ok-put-in-Page-clause-within : goal.returns-in_ok-put-in-Page-clause-within
returns-in_ok-put-in-Page-clause-within g c = (subst (λ (f : Fed). Feeds f c.args.piece.now c.args.self.now.reader c.feed.new.self) c.in-Page.is c.in_ok-fed.ensures).0

pub returns-in_ok-put-in-Page-clause-ok : goal.returns-in_ok-put-in-Page-clause-ok
returns-in_ok-put-in-Page-clause-ok g c start first taken few (gs, es, received) =
    let fact = subst (λ (f : Fed). Feeds f c.args.piece.now c.args.self.now.reader c.feed.new.self) c.in-Page.is c.in_ok-fed.ensures in
    let takes = fact.2 taken gs es received.read in (
      gs,
      es ++ page_of c.in-Page.page c.feed.new.self ∷ [],
      fed_page (page_of c.in-Page.page c.feed.new.self) (taken ++ take c.in-Page.taken c.args.piece.now) es c.put.ensures.stays c.in_ok-put-in-Page.ensures.ok takes.read takes.under_way received.offset few
          (fed_applying refl refl (λ some. takes.number_stays) received.applying),
    )

pub returns-in_ok-put-in-Page-clause-some : goal.returns-in_ok-put-in-Page-clause-some
returns-in_ok-put-in-Page-clause-some g c start first taken (gs, es, received) some =
    let fact = subst (λ (f : Fed). Feeds f c.args.piece.now c.args.self.now.reader c.feed.new.self) c.in-Page.is c.in_ok-fed.ensures in
    (fact.2 taken gs es received.read).some some

pub take_last-requires : goal.take_last-requires
take_last-requires g c = (subst (λ (f : Fed). Feeds f c.args.piece.now c.args.self.now.reader c.feed.new.self) c.in-Last.is c.in_ok-fed.ensures).1

pub returns-in_err-take_last-in-Last-clause-err : goal.returns-in_err-take_last-in-Last-clause-err
returns-in_err-take_last-in-Last-clause-err g c =
    let d = g.H.Disk in
    let fact = subst (λ (f : Fed). Feeds f c.args.piece.now c.args.self.now.reader c.feed.new.self) c.in-Last.is c.in_ok-fed.ensures in
    let p = err_from_is_err_and c.from_residual-in_err-take_last-in-Last.result c.from_residual-in_err-take_last-in-Last.ensures.1 in
    let e = c.in_err-take_last-in-Last.field-0.0 in
    let piece = c.args.piece.now in
    let n = c.in-Last.taken in
    rw (p.1, p.2) (λ start first taken few (gs, es, received).
    let takes = fact.2 taken gs es received.read in
    subst (λ (l : List ℕ). AppliesTo d start l (Err e) first c.take_last.new.host) (parts taken piece n)
    (c.in_err-take_last-in-Last.ensures.err start first (taken ++ take n piece) gs es
    (record {
      read = takes.read;
      under_way = takes.under_way;
      many = takes.many;
      offset = received.offset;
      few = few_part taken piece n few;
      applying = fed_applying refl refl (λ some. takes.number_stays) received.applying;
    })
    (drop n piece)))

pub returns-in_err-take_last-in-Last-clause-cause : goal.returns-in_err-take_last-in-Last-clause-cause
returns-in_err-take_last-in-Last-clause-cause g c =
    let p = err_from_is_err_and c.from_residual-in_err-take_last-in-Last.result c.from_residual-in_err-take_last-in-Last.ensures.1 in
    rw (p.1, p.2) c.in_err-take_last-in-Last.ensures.cause

pub returns-in_ok-take_last-in-Last-clause-within : goal.returns-in_ok-take_last-in-Last-clause-within
returns-in_ok-take_last-in-Last-clause-within g c = (subst (λ (f : Fed). Feeds f c.args.piece.now c.args.self.now.reader c.feed.new.self) c.in-Last.is c.in_ok-fed.ensures).0

pub returns-in_ok-take_last-in-Last-clause-ok : goal.returns-in_ok-take_last-in-Last-clause-ok
returns-in_ok-take_last-in-Last-clause-ok g c start first taken few (gs, es, received) =
    let fact = subst (λ (f : Fed). Feeds f c.args.piece.now c.args.self.now.reader c.feed.new.self) c.in-Last.is c.in_ok-fed.ensures in
    let piece = c.args.piece.now in
    let n = c.in-Last.taken in
    let takes = fact.2 taken gs es received.read in (
      gs ++ record { number = c.feed.new.self.number; entries = es ++ page_of c.in-Last.page c.feed.new.self ∷ [] } ∷ [],
      [],
      c.in_ok-take_last-in-Last.ensures.ok start first (taken ++ take n piece) gs es
          (record {
            read = takes.read;
            under_way = takes.under_way;
            many = takes.many;
            offset = received.offset;
            few = few;
            applying = fed_applying refl refl (λ some. takes.number_stays) received.applying;
          }),
    )

pub returns-in_ok-take_last-in-Last-clause-some : goal.returns-in_ok-take_last-in-Last-clause-some
returns-in_ok-take_last-in-Last-clause-some g c start first taken (gs, es, received) some =
    let fact = subst (λ (f : Fed). Feeds f c.args.piece.now c.args.self.now.reader c.feed.new.self) c.in-Last.is c.in_ok-fed.ensures in
    (fact.2 taken gs es received.read).some some

pub returns-in-NotGood-clause-err : goal.returns-in-NotGood-clause-err
returns-in-NotGood-clause-err g c start first taken few (gs, es, received) =
    let fact = subst (λ (f : Fed). Feeds f c.args.piece.now c.args.self.now.reader c.feed.new.self) c.in-NotGood.is c.in_ok-fed.ensures in
    fed_spoilt taken c.args.piece.now c.in-NotGood.field-0 (fact.1 taken gs es received.read) received

pub returns-in-NotGood-clause-leaves : goal.returns-in-NotGood-clause-leaves
returns-in-NotGood-clause-leaves g c = leaves_none c.args.host.now
