-- What of a piece stands below a node, as far as it has come.
use Rattle.std.specs.Prelude.{ℕ, ◌+◌, Option, None, Some}
use Rattle.nx_piece.specs.Gapped.{Gapped, End, Grow, Gap}

-- with one proxy more at its end
abbrev pub with_proxy : Gapped → Gapped
with_proxy End = Gap 1 End
with_proxy (Grow node below beside) = Grow node below (with_proxy beside)
with_proxy (Gap count End) = Gap (count + 1) End
with_proxy (Gap count beside) = Gap count (with_proxy beside)

-- for how many proxies the gap at its end stands, where one is there
abbrev pub last_gap : Gapped → Option ℕ
last_gap End = None
last_gap (Grow node below beside) = last_gap beside
last_gap (Gap count End) = Some count
last_gap (Gap count beside) = last_gap beside
