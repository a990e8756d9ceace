-- What is shown to the two lookers.
use Rattle.std.specs.Prelude.{List, ◌++◌}
use Rattle.std.proofs.Common.{sym, subst}
use Rattle.nx_reach.specs.Seen.{Seen, Goes}
use Rattle.nx_reach.proofs.SeenLemmas.{goes_on}
use Rattle.nx_names.specs.Look.{Look, seen_of}
use Rattle.nx_names.proofs.LookLemmas.{seen_of-append}
use Rattle.nx_names.specs.Gathered.{GathersLabels}
use Rattle.nx_find.specs.declared.gathering.Gathering.{Gathering}
use Rattle.nx_find.specs.declared.finding.Looking.{Looking}

-- so much was shown to one that gathers labels, or to one that looks for steps
abbrev pub GathersLooks : Gathering → List Look → Gathering → Type 0
GathersLooks old looks new = GathersLabels old.gatherer looks new.gatherer

abbrev pub FindsLooks : Looking → List Look → Looking → Type 0
FindsLooks old looks new = Goes old.finder (seen_of looks) new.finder

-- More was shown behind what was shown.
pub finds_on : (old mid new : Looking) (looks more : List Look) → FindsLooks old looks mid → FindsLooks mid more new → FindsLooks old (looks ++ more) new
finds_on old mid new looks more first second = subst (λ (seen : List Seen). Goes old.finder seen new.finder) (sym (seen_of-append looks more)) (goes_on old.finder mid.finder new.finder (seen_of looks) (seen_of more) first second)
