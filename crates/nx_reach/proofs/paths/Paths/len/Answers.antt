use Rattle.std.proofs.Common.{length, sym, ap, ◌∙◌}
use Rattle.nx_reach.proofs.PartLemmas.{parts-length}
use Rattle.nx_reach.proofs.paths.Paths.len.Goals as goal

pub returns : goal.returns
returns c = let inside = c.self.inside in c.len.ensures ∙ inside.ends.ok.0 ∙ sym (parts-length 0 inside.ends.items inside.positions.items) ∙ ap length c.self.view_is
