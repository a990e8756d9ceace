use Rattle.std.proofs.Common.{ℕ, List, [], ◌∷◌, ◌+◌, ◌-◌, length, drop, sym, ap, ◌∙◌, arith, length-drop, take_all}
use Rattle.nx_pyx.specs.Lines.{lines}
use Rattle.nx_bounds.proofs.PlanLines.{lines-none, lines-more}
use Rattle.nx_bounds.proofs.text.read.split_line.Goals as goal

pub returns-in-Some-clause-lines : goal.returns-in-Some-clause-lines
returns-in-Some-clause-lines c =
    let text = c.args.text.now in
    let end = c.in-Some.end in
    lines-more text end c.in-Some.ensures
    ∙ ap (λ (l : List ℕ). l ∷ lines (drop (end + 1) text)) (sym c.without_cr.ensures)
    ∙ ap (λ (rest : List ℕ). c.without_cr.result.now ∷ lines rest)
    (sym (take_all (length text - (end + 1)) (drop (end + 1) text) (omega (arith, length-drop (end + 1) text))))

pub returns-in-None-clause-lines : goal.returns-in-None-clause-lines
returns-in-None-clause-lines c =
    lines-none c.args.text.now c.in-None.ensures c.requires ∙ ap (λ (l : List ℕ). l ∷ []) (sym c.without_cr-in-None.ensures)
