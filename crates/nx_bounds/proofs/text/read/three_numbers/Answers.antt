use Rattle.std.proofs.Common.{ℕ, Option, Some, sym, ap, ◌∙◌}
use Rattle.nx_pyx.specs.Field.{field, value_of}
use Rattle.nx_bounds.specs.declared.text.read.Three.{Three}
use Rattle.nx_bounds.proofs.PlanFields.{three-not_first, three-not_second, three-not_third, three-all}
use Rattle.nx_bounds.proofs.text.read.three_numbers.Goals as goal

pub returns-in_err-first : goal.returns-in_err-first
returns-in_err-first c = rw c.from_residual.ensures (sym (three-not_first c.args.others.now c.in_err-first.ensures))

pub returns-in_err-second : goal.returns-in_err-second
returns-in_err-second c =
    rw c.from_residual-in_err-second.ensures (sym (three-not_second c.args.others.now c.in_ok-first.others.now c.in_ok-first.ensures.0 c.in_err-second.ensures))

pub returns-in_err-third : goal.returns-in_err-third
returns-in_err-third c =
    rw c.from_residual-in_err-third.ensures (
    sym (three-not_third c.args.others.now c.in_ok-first.others.now c.in_ok-second.others.now c.in_ok-first.ensures.0 c.in_ok-second.ensures.0 c.in_err-third.ensures)
    )

pub returns : goal.returns
returns c =
    let bytes = c.args.others.now in
    let rest = c.in_ok-first.others.now in
    let last = c.in_ok-second.others.now in
    let three : ℕ → ℕ → ℕ → Option Three = λ x y z. Some (record { first = x; second = y; third = z }) in
    ap (λ x. three x c.in_ok-second.second c.in_ok-third.third) c.in_ok-first.ensures.2
    ∙ ap (λ y. three (value_of (field bytes)) y c.in_ok-third.third) c.in_ok-second.ensures.2
    ∙ ap (three (value_of (field bytes)) (value_of (field rest))) c.in_ok-third.ensures.1
    ∙ sym (three-all bytes rest last c.in_ok-first.ensures.0 c.in_ok-second.ensures.0 c.in_ok-first.ensures.1 c.in_ok-second.ensures.1 c.in_ok-third.ensures.0)
