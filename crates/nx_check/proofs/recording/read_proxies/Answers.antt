use Rattle.std.proofs.Common.{◌≡◌, ◌*◌, ◌++◌, ℕ, List, sym, ap, ◌∙◌, subst}
use Rattle.nx_replay.specs.Log.{replay}
use Rattle.nx_rules.specs.Listed.{IsListOf}
use Rattle.std.proofs.lemmas.Result.{err_from_is_err_and}
use Rattle.nx_holdings.specs.Holdings.{content_of}
use Rattle.nx_check.specs.declared.error.Stop.{Stop}
use Rattle.nx_check.specs.Come.{StopsSo}
use Rattle.nx_check.proofs.ChainLemmas.{SaysList}
use Rattle.nx_check.proofs.ComeLemmas.{err_passed}
use Rattle.nx_check.proofs.recording.read_proxies.Goals as goal

pub returns-in_err-walk_list-clause-refused : goal.returns-in_err-walk_list-clause-refused
returns-in_err-walk_list-clause-refused g c =
    err_passed c.from_residual.result (λ (e : Stop). StopsSo g.D.Disk c.args.disk.now c.walk_list.new.disk (SaysList g.D.Disk c.args.walk.now c.args.disk.now c.args.page c.args.chain (8 * c.args.count)) e) c.in_err-walk_list.field-0.0
    (err_from_is_err_and c.from_residual.result c.from_residual.ensures.1)
    (subst (λ (n : ℕ). StopsSo g.D.Disk c.args.disk.now c.walk_list.new.disk (SaysList g.D.Disk c.args.walk.now c.args.disk.now c.args.page c.args.chain (8 * n)) c.in_err-walk_list.field-0.0) c.from.ensures c.in_err-walk_list.ensures.refused)

pub returns-clause-ok : goal.returns-clause-ok
returns-clause-ok g c = λ was base free used reached come.
    let h = c.in_ok-walk_list.ensures.ok was base free used reached come in
    let says : content_of h.0 ≡ c.as_slice.result.now = ap (λ (l : List ℕ). l ++ content_of h.0) (sym c.new-bytes.ensures) ∙ sym h.2 ∙ sym c.as_slice.ensures in
    (h.0, subst (λ (n : ℕ). IsListOf (replay was) used c.args.chain (8 * n) h.0) c.from.ensures h.1, says ∙ c.in_ok-proxies_of.ensures.are, h.3)
