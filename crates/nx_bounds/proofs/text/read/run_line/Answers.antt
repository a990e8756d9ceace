use Rattle.std.proofs.Common.{ℕ, List, Some, sym, ap, ◌∙◌}
use Rattle.nx_pyx.specs.Field.{is_path, positions_of}
use Rattle.nx_parts.specs.declared.interval.Interval.TheVariants.{Run}
use Rattle.nx_bounds.specs.declared.text.PlanLine.TheVariants.{Part}
use Rattle.nx_bounds.proofs.PlanFields.{behind_some, behind_none, path_some, path_none, run-alone, run-not_three, run-not_path, run-all}
use Rattle.nx_bounds.proofs.text.read.run_line.Goals as goal

pub returns-in_default : goal.returns-in_default
returns-in_default c = sym (run-alone c.args.others.now (behind_none c.args.others.now c.split_field.result.1 c.in_default.is c.split_field.ensures.behind))

pub returns-in_default-three_numbers : goal.returns-in_default-three_numbers
returns-in_default-three_numbers c =
    let bytes = c.args.others.now in
    let more = behind_some bytes c.split_field.result.1 c.in-Some.numbers c.in-Some.is c.split_field.ensures.behind in
    sym (run-not_three bytes c.in-Some.numbers.now more (sym c.in_default-three_numbers.ensures))

pub returns-in_default-2 : goal.returns-in_default-2
returns-in_default-2 c =
    let bytes = c.args.others.now in
    let text = c.split_field.result.0.now in
    let more = behind_some bytes c.split_field.result.1 c.in-Some.numbers c.in-Some.is c.split_field.ensures.behind in
    let no_path = path_none text c.in_ok-parent.field-0 c.in_default-2.is c.in_ok-parent.ensures in
    sym (run-not_path bytes c.in-Some.numbers.now more (ap is_path (sym c.split_field.ensures.field) ∙ no_path))

pub returns : goal.returns
returns c =
    let bytes = c.args.others.now in
    let text = c.split_field.result.0.now in
    let n = c.in-Some-three_numbers.numbers in
    let more = behind_some bytes c.split_field.result.1 c.in-Some.numbers c.in-Some.is c.split_field.ensures.behind in
    let path = path_some text c.in_ok-parent.field-0 c.in-Some-2.parent c.in-Some-2.is c.in_ok-parent.ensures in
    ap (λ (p : List ℕ). Some (Part (Run p n.first n.second) n.third)) (path.1 ∙ ap positions_of c.split_field.ensures.field)
    ∙ sym (run-all bytes c.in-Some.numbers.now n more (ap is_path (sym c.split_field.ensures.field) ∙ path.0) (sym c.in-Some-three_numbers.ensures))
