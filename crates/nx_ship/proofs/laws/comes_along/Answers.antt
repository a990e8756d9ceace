use Rattle.nx_ship.proofs.ShippedLemmas.{comes_along, catches_up, stays_along}
use Rattle.nx_ship.proofs.laws.comes_along.Goals as goal

pub returns-clause-pages : goal.returns-clause-pages
returns-clause-pages c = comes_along

pub returns-clause-all : goal.returns-clause-all
returns-clause-all c = catches_up

pub returns-clause-grown : goal.returns-clause-grown
returns-clause-grown c = stays_along
