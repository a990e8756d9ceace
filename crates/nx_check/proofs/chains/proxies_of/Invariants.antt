use Rattle.std.specs.Prelude.{◌≡◌, ◌+◌, ◌*◌, ◌++◌, length}
use Rattle.nx_piece.specs.Encoding.{proxies_bytes}
use Rattle.nx_piece.specs.Valid.{HaveNumbers}
use Rattle.nx_rules.specs.Walked.{HaveRootNumbers}
use Rattle.nx_check.proofs.chains.proxies_of.Given as goal

abbrev pub invariant-loop-proxy : goal.invariant-loop-proxy
invariant-loop-proxy l = record {
  seen : l.fn.bytes ≡ proxies_bytes l.proxies ++ l.rest;
  left : 8 * length l.proxies + length l.rest ≡ 8 * l.count;
  numbers : HaveNumbers l.proxies;
  rooted : HaveRootNumbers l.proxies;
}

abbrev pub decreases-loop-proxy : goal.decreases-loop-proxy
decreases-loop-proxy l = length l.rest
