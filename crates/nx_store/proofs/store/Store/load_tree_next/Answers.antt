use Rattle.std.proofs.Common.{ℕ, ap, ◌∙◌, subst}
use Rattle.nx_holdings.specs.declared.header.Settings.{Settings}
use Rattle.nx_partition.specs.Bounding.{IsPlanRefused}
use Rattle.nx_partition.specs.declared.error.PlanError.{PlanError}
use Rattle.nx_partition.specs.declared.error.PlanError.TheVariants.{TooHeavy}
use Rattle.nx_store.proofs.LoadNextLemmas.{heavy_next}
use Rattle.nx_store.proofs.store.Store.load_tree_next.Goals as goal

pub returns-in-Err-TooHeavy-clause-ok : goal.returns-in-Err-TooHeavy-clause-ok
returns-in-Err-TooHeavy-clause-ok g c =
    heavy_next g.D.Disk c.args.self.now c.args.disk.now c.requires.runs c.args.name.now c.requires.new c.args.tree c.in-Err-TooHeavy.path c.in-Err-TooHeavy.weight
    (subst (λ (k : ℕ). IsPlanRefused k c.args.tree (TooHeavy c.in-Err-TooHeavy.path c.in-Err-TooHeavy.weight)) (c.from-k.ensures ∙ ap (λ (t : Settings). t.k) c.settings.ensures)
    (subst (λ (e : PlanError). IsPlanRefused c.from-k.result c.args.tree e) c.in-Err-TooHeavy.field-0-is c.in-Err-TooHeavy.ensures.err))
