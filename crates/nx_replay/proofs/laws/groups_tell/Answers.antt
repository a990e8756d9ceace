use Rattle.std.proofs.Common.{◌≡◌, List, [], ◌∷◌, ◌∙◌}
use Rattle.nx_replay.specs.Log.{Pages, Group, over, entry_pages, groups, pages_of, logged}
use Rattle.nx_replay.specs.Laws.{over_all}
use Rattle.nx_replay.proofs.ReplayLemmas.{over-over}
use Rattle.nx_replay.proofs.laws.groups_tell.Goals as goal

laid : (gs : List Group) (base : Pages) → over (logged gs) base ≡ over_all base gs
unfolding logged
laid [] base = λ i p. base p
laid (g ∷ gs) base = over-over (logged gs) (entry_pages g.entries) base ∙ laid gs (over (entry_pages g.entries) base)

pub returns : goal.returns
returns c image = laid (groups image.log) (pages_of image.pages)
