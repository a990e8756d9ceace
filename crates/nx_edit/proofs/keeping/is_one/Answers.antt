use Rattle.std.proofs.Common.{List, length, slice_index_or, ap}
use Rattle.std.proofs.lemmas.Bool.{eqb-true}
use Rattle.nx_piece.specs.declared.piece.Proxy.{Proxy}
use Rattle.nx_edit.proofs.StayLemmas.{one_proxy}
use Rattle.nx_edit.proofs.keeping.is_one.Goals as goal

abbrev none : Proxy
none = record { page = 0; slot = 0; roots = 0 }

pub returns-then-proxies-eq1 : goal.returns-then-proxies-eq1
returns-then-proxies-eq1 c = (
  λ stays. one_proxy c.args.proxies.now c.args.proxy none c.if-proxies-eq1.true (c.is_same.ensures.0 stays),
  λ alone. c.is_same.ensures.1 (ap (λ (row : List Proxy). slice_index_or row 0 none) alone),
)

pub returns-else-proxies-eq1 : goal.returns-else-proxies-eq1
returns-else-proxies-eq1 c = (λ stays. absurd (c.if-proxies-eq1.false (eqb-true (length c.args.proxies.now) 1 stays)), λ alone. absurd (c.if-proxies-eq1.false (ap (λ (row : List Proxy). length row) alone)))
