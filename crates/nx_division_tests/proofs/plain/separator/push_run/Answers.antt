use Rattle.std.proofs.Common.{[], ◌∷◌, ◌++◌, length, refl, sym, ap, ◌∙◌, inl, inr}
use Rattle.nx_parts.specs.declared.interval.Interval.TheVariants.{Run}
use Rattle.nx_division_tests.proofs.RunLemmas.{no_start, no_start_at_helper, starts}
use Rattle.nx_division_tests.proofs.plain.separator.push_run.Goals as goal

pub run_end-requires : goal.run_end-requires
run_end-requires c = record { few = c.requires.few; path = c.in-Some.ensures.cases.0; order = c.requires.order }

pub returns-in_default : goal.returns-in_default
returns-in_default c = inl (no_start_at_helper c.args.nodes.now c.args.t c.args.tolerance c.args.node.now.path (sym (ap length c.path-path.ensures) ∙ c.in_default.ensures.cases), refl)

pub returns-in_default-run_end : goal.returns-in_default-run_end
returns-in_default-run_end c =
    inl (no_start {nodes = c.args.nodes.now} {t = c.args.t} {tolerance = c.args.tolerance} c.args.node.now.path c.in-Some.parent.now c.in-Some.first.now (sym c.path-path.ensures ∙ c.in-Some.ensures.cases.0) c.in_default-run_end.ensures, refl)

pub returns : goal.returns
returns c =
    inr (
      Run c.in-Some.parent.now c.in-Some.first.now c.in-Some-run_end.last,
      starts {nodes = c.args.nodes.now} {t = c.args.t} {tolerance = c.args.tolerance} c.args.node.now.path c.in-Some.parent.now c.in-Some.first.now c.in-Some-run_end.last (sym c.path-path.ensures ∙ c.in-Some.ensures.cases.0) c.in-Some-run_end.ensures,
      c.in_ok-push.ensures.ok ∙ ap (λ q. c.args.found.now ++ Run q c.in-Some.first.now c.in-Some-run_end.last ∷ []) c.in_ok-from_slice.ensures,
    )
