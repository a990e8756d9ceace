use Rattle.std.proofs.Common.{List, ℕ, ap, ◌∙◌}
use Rattle.nx_numbers.specs.Numbers.{with_number}
use Rattle.nx_holdings.proofs.FreeLemmas.{free_made}
use Rattle.nx_holdings.proofs.free.free_page.Goals as goal

pub returns : goal.returns
returns c = c.set_u32_at.ensures ∙ ap (λ (r : List ℕ). with_number 4 r 4 c.args.next) c.blank-page.ensures ∙ free_made c.args.next
