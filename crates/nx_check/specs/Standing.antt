-- Where a walk stands in a document.
use Rattle.std.specs.Prelude.{◌≡◌, ◌+◌, ◌++◌, ℕ, min, List, [], ◌∷◌, take, drop, Some, All}
use Rattle.nx_host.specs.Disk.{Image}
use Rattle.nx_host.specs.declared.disk.Disk.{Ghosts}
use Rattle.nx_replay.specs.Log.{replay}
use Rattle.nx_tree.specs.declared.node.Kind.TheVariants.{Element}
use Rattle.nx_tree.specs.Forest.{Empty, nodes}
use Rattle.nx_piece.specs.declared.piece.Piece.{Piece}
use Rattle.nx_piece.specs.declared.piece.Proxy.{Proxy}
use Rattle.nx_piece.specs.Gapped.{Gapped, GappedTree, End, Grow, Gap, proxies_in}
use Rattle.nx_cuts.specs.Cut.{Bare, Grown, Kept, joined}
use Rattle.nx_layouts.specs.Layout.{LaidNode, in_record}
use Rattle.nx_rules.specs.Walked.{Waits, Walked, walked_forest, ByCatalog, ByRecord}
use Rattle.nx_rules.specs.Tour.{Visit, IsDone, all_reached, top_elements, Tour, used_in, IsTour}
use Rattle.nx_rules.specs.Places.{Around, filled_around, IsCome, namer_at, before_there, behind_there, kind_above, level_of}
use Rattle.nx_check.specs.declared.reading.Walk.{Walk}
use Rattle.nx_check.specs.declared.siblings.Siblings.{Siblings}
use Rattle.nx_check.specs.declared.walking.Tally.{Tally}
use Rattle.nx_check.specs.Heads.{heads, one_if}
use Rattle.nx_check.specs.Siblings.{AreAroundGap}
use Rattle.nx_check.specs.Come.{HasCome}
use Rattle.nx_check.specs.Between.{IsUnbegun}

-- What a walk has come to besides the document that it is in: the documents before that, and those after it.
pub record Stage : Type 0 where
  pub tour : Tour
  pub before : List Visit
  pub visit : Visit
  pub after : List Visit

-- all of it, where so much of the document was reached
abbrev pub tour_at : Stage → Walked → Tour
tour_at stage walked = record stage.tour { visits = stage.before ++ record stage.visit { walked = walked } ∷ stage.after }

-- The documents before are done, those after are not begun, and no record may weigh more than k slots.
pub record IsStage (k : ℕ) (stage : Stage) : Type 0 where
  pub done : All IsDone stage.before
  pub unbegun : All IsUnbegun stage.after
  pub most : stage.tour.head.settings.k ≡ k

-- A walk has come to a place in a record of this page, where so many levels of nodes may stand.
pub record IsPlace (stage : Stage) (around : Around) (page levels k : ℕ) : Type 0 where
  pub among : IsStage k stage
  pub come : IsCome around
  pub namer : namer_at ByCatalog around ≡ ByRecord page
  pub level : level_of around + levels ≡ 257

-- So much of the document was reached, and all of it keeps the rules; its nodes are counted, and so are the elements right below its root.
pub record HasWalked {D : Type 0} (d : Ghosts D) (walk : Walk) (tally : Tally) (disk : D) (was : Image) (base : ℕ) (stage : Stage) (walked : Walked) : Type 0 where
  pub come : HasCome d walk disk was base stage.tour.free (used_in (tour_at stage walked)) (all_reached (tour_at stage walked).visits)
  pub kept : IsTour (replay was) (tour_at stage walked)
  pub counted : tally.nodes ≡ min (nodes (walked_forest walked)) 4294967295
  pub found : one_if tally.element ≡ top_elements (walked_forest walked)

-- A walk stands at a place where this row is laid, and what is said of it there holds.
pub record StandsThere {D : Type 0} (d : Ghosts D) (walk : Walk) (tally : Tally) (disk : D) (page levels k : ℕ) (laid : Walked → Walked) (Begins : Around → Walked → Type 0) (was : Image) : Type 0 where
  pub base : ℕ
  pub stage : Stage
  pub around : Around
  pub row : Walked
  pub place : IsPlace stage around page levels k
  pub begins : Begins around row
  pub walked : HasWalked d walk tally disk was base stage (filled_around around (laid row))

-- records that wait, which these proxies name, before others
abbrev pub waiting_row : List Proxy → Walked → Walked
waiting_row [] beside = beside
waiting_row (p ∷ ps) beside = Kept (Waits p) Bare (waiting_row ps beside)

-- The row has these trees of a record, and for its gaps the first of these proxies, whose records wait.
abbrev pub IsLaidRow : Gapped → List Proxy → Walked → Type 0
IsLaidRow End ps row = row ≡ Bare
IsLaidRow (Grow item below beside) ps row =
    (node : LaidNode) × (inner : Walked) × (outer : Walked) × (row ≡ Grown node inner outer) × (in_record node ≡ item) × IsLaidRow below ps inner × IsLaidRow beside (drop (proxies_in below) ps) outer
IsLaidRow (Gap count beside) ps row = (outer : Walked) × (row ≡ waiting_row (take count ps) outer) × IsLaidRow beside (drop count ps) outer

-- the row of a piece's roots
abbrev pub IsPieceRow : Piece → Around → Walked → Type 0
IsPieceRow piece around row = IsLaidRow piece.body.roots piece.proxies row

-- the row of what stands below a tree's root
abbrev pub IsBelow : GappedTree → List Proxy → Around → Walked → Type 0
IsBelow tree proxies around row = (kind_above around ≡ Some tree.node.node.kind) × (before_there around ≡ Empty) × (behind_there around ≡ Empty) × IsLaidRow tree.below proxies row

-- What is known of the trees below the node is so, where this row stands behind the place.
abbrev pub HasSiblings : Siblings → Around → Walked → Type 0
HasSiblings s around beside =
    (kind_above around ≡ Some s.kind) × (s.kind ≡ Element → AreAroundGap s (heads (before_there around)) (heads (joined (walked_forest beside) (behind_there around))))
