-- The laws of logs: from the groups of a log to the pages that an image stands for.
use Rattle.std.specs.Prelude.{◌≡◌, List, [], ◌∷◌}
use Rattle.nx_host.specs.Disk.{Image}
use Rattle.nx_replay.specs.Log.{Pages, Group, over, entry_pages, groups, pages_of, replay, HasGroup, HasSame}

-- the groups' pages laid over others, in order
abbrev pub over_all : Pages → List Group → Pages
over_all pages [] = pages
over_all pages (g ∷ gs) = over_all (over (entry_pages g.entries) pages) gs

-- An image stands for the groups of its log, laid over the pages of its pages area.
abbrev pub GroupsTell : Type 0
GroupsTell = (image : Image) → replay image ≡ over_all (pages_of image.pages) (groups image.log)

-- A group more lays its pages over all that the image stood for.
abbrev pub GroupLaysOver : Type 0
GroupLaysOver = (g : Group) (was now : Image) → HasGroup g was now → replay now ≡ over (entry_pages g.entries) (replay was)

-- With the same groups over the same pages area it stands for the same.
abbrev pub SameGroupsTellSame : Type 0
SameGroupsTellSame = (was now : Image) → HasSame was now → replay now ≡ replay was
