use Rattle.std.proofs.Common.{◌≡◌, ℕ, List, ◌∷◌, [], rules}
use Rattle.nx_pyx.specs.LineStart.{line_start}
use Rattle.nx_pyx.proofs.PrefixLemmas.{prefix-of}
use Rattle.nx_pyx.proofs.StartLemmas.{prefix-added}
use Rattle.nx_pyx.proofs.writer.push_line_start.Goals as goal

pub returns-in-Doc-clause-prefix : goal.returns-in-Doc-clause-prefix
returns-in-Doc-clause-prefix c =
    let line : ◌≡◌ {A = List ℕ} (35 ∷ 100 ∷ 111 ∷ 99 ∷ []) (line_start c.args.kind c.args.name.now) = search rules in
    prefix-of _ _ _ _ line (prefix-added c.extend_from_slice.result _ _ _ c.extend_from_slice.ensures.ok c.extend_from_slice.ensures.err)
