use Rattle.std.proofs.Common.{arith, ap, ◌<◌, length}
use Rattle.std.proofs.lemmas.Bool.Decides.{nat_tests}
use Rattle.nx_piece.proofs.BodyLemmas.{no_body, no_stored}
use Rattle.nx_piece.proofs.reading.view.Goals as goal

pub returns-in_default : goal.returns-in_default
returns-in_default c = no_body c.args.bytes.now (rw c.in_default.is at c.in_ok-head.ensures)

pub returns-then-length-gt-LONGEST_INLINE : goal.returns-then-length-gt-LONGEST_INLINE
returns-then-length-gt-LONGEST_INLINE c =
    no_stored (rw c.in-Some.is at c.in_ok-head.ensures)
    (λ ps one none fits n ranged is. omega arith) (λ two long is. omega arith)

pub returns-in_default-2 : goal.returns-in_default-2
returns-in_default-2 c =
    no_stored (rw c.in-Some.is at c.in_ok-head.ensures)
    (λ ps one none fits n ranged is. (rw c.in_default-2.is at c.in_ok-proxies-in-1.ensures) ps n ranged is) (λ two long is. omega arith)

pub returns-then-length-le-LONGEST_INLINE : goal.returns-then-length-le-LONGEST_INLINE
returns-then-length-le-LONGEST_INLINE c =
    no_stored (rw c.in-Some.is at c.in_ok-head.ensures)
    (λ ps one none fits n ranged is. omega arith) (λ two long is. omega arith)

pub returns-then-not-is_empty : goal.returns-then-not-is_empty
returns-then-not-is_empty c =
    let some : 0 < length c.in-Some.rest.now = grind (arith, nat_tests, c.if-not-is_empty.ensures) in
    no_stored (rw c.in-Some.is at c.in_ok-head.ensures)
    (λ ps one none fits n ranged is. omega arith) (λ two long is. let l = ap length is in omega arith)
