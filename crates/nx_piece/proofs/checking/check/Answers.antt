use Rattle.std.proofs.Common.{arith, refl, sym, ap, ◌≡◌, ◌<◌, length}
use Rattle.std.proofs.lemmas.Bool.Decides.{nat_tests}
use Rattle.nx_piece.specs.declared.piece.Stored.TheVariants.{Inline, Chained}
use Rattle.nx_piece.proofs.BodyLemmas.{no_body, no_stored, inline_read, chained_read}
use Rattle.nx_piece.proofs.checking.check.Goals as goal

pub returns-in_default : goal.returns-in_default
returns-in_default c = no_body c.args.bytes.now c.in_default.ensures

pub returns-then-length-gt-LONGEST_INLINE : goal.returns-then-length-gt-LONGEST_INLINE
returns-then-length-gt-LONGEST_INLINE c = no_stored c.in-Some.ensures.1 (λ ps one none fits n ranged is. omega arith) (λ two long is. omega arith)

pub returns-then-not-check_proxies : goal.returns-then-not-check_proxies
returns-then-not-check_proxies c = no_stored c.in-Some.ensures.1 (λ ps one none fits n ranged is. c.if-not-check_proxies.ensures ps n ranged is) (λ two long is. omega arith)

pub returns-then-length-le-LONGEST_INLINE : goal.returns-then-length-le-LONGEST_INLINE
returns-then-length-le-LONGEST_INLINE c = no_stored c.in-Some.ensures.1 (λ ps one none fits n ranged is. omega arith) (λ two long is. omega arith)

pub returns-then-not-is_empty : goal.returns-then-not-is_empty
returns-then-not-is_empty c =
    let some : 0 < length c.in-Some.rest.now = grind (arith, nat_tests, c.if-not-is_empty.ensures) in
    no_stored c.in-Some.ensures.1 (λ ps one none fits n ranged is. omega arith) (λ two long is. let l = ap length is in omega arith)

pub returns-else-not-check_proxies : goal.returns-else-not-check_proxies
returns-else-not-check_proxies c =
    let b = c.in-Some.ensures in
    let ps = c.if-not-check_proxies.ensures in
    let r = inline_read {ps = ps.0} b.1 (omega arith) (omega arith) (omega arith) (ps.1, ps.2, ps.3) in (
      Inline (record { body = record { roots = b.0 }; proxies = ps.0 }),
      (r.0, (ps.4, (b.1).pages), r.1),
      (record { wide = b.2; weighs = b.3; takes = b.4 }, sym ps.3, refl),
    )

pub returns-else-not-is_empty : goal.returns-else-not-is_empty
returns-else-not-is_empty c =
    let b = c.in-Some.ensures in
    let none : length c.in-Some.rest.now ≡ 0 = grind (arith, nat_tests, c.if-not-is_empty.ensures) in
    let r = chained_read b.1 (omega arith) (omega arith) none in (
      Chained (record { roots = b.0 }) c.in-Some.head.proxies c.in-Some.head.chain,
      (r.0, ((b.1).chain_fits, (b.1).pages), r.1),
      (record { wide = b.2; weighs = b.3; takes = b.4 }, refl, refl),
    )
