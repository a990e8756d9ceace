use Rattle.std.proofs.Common.{arith, refl, sym}
use Rattle.nx_piece.proofs.BodyLemmas.{bad_roots, bad_sums, body_read}
use Rattle.nx_piece.proofs.checking.check_body.Goals as goal

pub returns-in_default-check_items : goal.returns-in_default-check_items
returns-in_default-check_items c = bad_roots c.in-Some.ensures c.in_default-check_items.ensures

pub returns-then-left-ne0 : goal.returns-then-left-ne0
returns-then-left-ne0 c =
    let read = c.in-Some-check_items.ensures in
    bad_sums c.in-Some.ensures (read.1, read.2 refl, read.3) c.if-proxies-gt524288.false (λ z. let a = z.0 in omega arith)

pub returns-then-left-ne0-2 : goal.returns-then-left-ne0-2
returns-then-left-ne0-2 c =
    let read = c.in-Some-check_items.ensures in
    bad_sums c.in-Some.ensures (read.1, read.2 refl, read.3) c.if-proxies-gt524288.false (λ z. let a = z.1 in omega arith)

pub returns : goal.returns
returns c =
    let read = c.in-Some-check_items.ensures in
    let room = read.1.room in (
      read.0,
      body_read c.in-Some.ensures (read.1, read.2 refl, read.3) (omega arith) c.if-roots-gt256.false c.if-proxies-gt524288.false (omega arith) (omega arith) refl,
      sym read.3,
      read.4,
      omega arith,
    )
