use Rattle.std.proofs.Common.{ℕ, List, Some, refl, sym, ap, ◌∙◌}
use Rattle.nx_script.proofs.parser.Parser.add.Goals as goal
use Rattle.nx_script.proofs.parser.Parser.add.Goals.{in-Some+in_ok-from_slice-in-Some, in-None}

pub returns-clause-added : goal.returns-clause-added
returns-clause-added c = (
  sym c.if-not-begins_load.ensures,
  record { name = c.match-loaded_name.name; body = c.in_ok-body.body },
  refl,
  elim c.match-loaded_name.branch [ in-Some+in_ok-from_slice-in-Some w ↦ w.name-is ∙ ap (λ (n : List ℕ). Some n) w.in_ok-from_slice-in-Some.ensures ∙ sym w.in-Some.ensures | in-None w ↦ w.name-is ∙ sym w.in-None.ensures ],
  c.in_ok-body.ensures,
)
