-- What of a piece stands below a node, as far as it has come.
use Rattle.std.specs.Prelude.{ℕ, zero, suc}
use Rattle.nx_piece.specs.Gapped.{Gapped}
use Rattle.nx_build.specs.Rows.{with_proxy}

-- with so many proxies more at its end
abbrev pub with_proxies : ℕ → Gapped → Gapped
with_proxies zero row = row
with_proxies (suc count) row = with_proxies count (with_proxy row)
