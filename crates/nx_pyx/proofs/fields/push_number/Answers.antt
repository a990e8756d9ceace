use Rattle.std.proofs.Common.{◌≡◌, ◌++◌, decimal, ap, ◌∙◌, rules}
use Rattle.nx_pyx.proofs.PrefixLemmas.{prefix-none, prefix-all, prefix-rest}
use Rattle.nx_pyx.proofs.fields.push_number.Goals as goal

pub returns-in_err-extend_from_slice-2-clause-prefix : goal.returns-in_err-extend_from_slice-2-clause-prefix
returns-in_err-extend_from_slice-2-clause-prefix c =
    prefix-rest _ _ _ c.args.before.now _ c.in_ok-extend_from_slice.ensures.ok (prefix-none _ _ _ c.in_err-extend_from_slice-2.ensures.err)

pub returns-clause-prefix : goal.returns-clause-prefix
returns-clause-prefix c =
    let digits : c.as_bytes.result.now ≡ decimal c.args.number = search rules in
    let mid = c.extend_from_slice.new.self in
    prefix-rest _ _ _ c.args.before.now _ c.in_ok-extend_from_slice.ensures.ok
    (prefix-all mid _ (decimal c.args.number) (c.in_ok-extend_from_slice-2.ensures.ok ∙ ap (λ d. mid ++ d) digits))
