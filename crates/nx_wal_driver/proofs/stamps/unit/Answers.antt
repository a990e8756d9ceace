use Rattle.std.proofs.Common.{◌∙◌, ℕ, List, ap, refl, codes}
use Rattle.nx_numbers.specs.Numbers.{with_number}
use Rattle.nx_wal_driver.proofs.StampLemmas.{unit_made}
use Rattle.nx_wal_driver.proofs.stamps.unit.Goals as goal

pub returns : goal.returns
returns c =
    let s = c.args.stamp in
    c.set_u32_at-2.ensures
    ∙ ap (λ (r : List ℕ). with_number 4 r 28 c.args.i) (c.set_u32_at.ensures
    ∙ ap (λ (r : List ℕ). with_number 4 r 24 s.page) (c.set_u64_at-2.ensures
    ∙ ap (λ (r : List ℕ). with_number 8 r 16 s.group) c.set_u64_at.ensures))
    ∙ unit_made (codes "NATIXST1                        ") s c.args.i refl refl
