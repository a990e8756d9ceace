-- Where a walk stands between two documents.
use Rattle.std.specs.Prelude.{◌≡◌, ◌+◌, ◌≤◌, ℕ, [], List, ◌++◌, length, All}
use Rattle.nx_host.specs.Disk.{Image}
use Rattle.nx_host.specs.declared.disk.Disk.{Ghosts}
use Rattle.nx_replay.specs.Log.{replay}
use Rattle.nx_holdings.specs.declared.header.Header.{Header}
use Rattle.nx_cuts.specs.Cut.{Bare, Kept}
use Rattle.nx_layouts.specs.Layout.{proxy_of}
use Rattle.nx_hold.specs.Changes.{place_of}
use Rattle.nx_rules.specs.Listed.{HasHeaderPage, IsFreeTo}
use Rattle.nx_rules.specs.Walked.{Waits}
use Rattle.nx_rules.specs.Tour.{Visit, IsDone, all_reached, Tour, used_in, IsTour, IsWholeTour}
use Rattle.nx_check.specs.declared.reading.Walk.{Walk}
use Rattle.nx_check.specs.Come.{HasCome}

-- The header and the free list were read.
pub record HasBegunWalk {D : Type 0} (d : Ghosts D) (walk : Walk) (disk : D) (was : Image) (base : ℕ) (head : Header) : Type 0 where
  pub free : List ℕ
  pub come : HasCome d walk disk was base free [] []
  pub header : HasHeaderPage (replay was) head
  pub whole : IsFreeTo (replay was) head free 0

-- nothing of the document was reached
abbrev pub IsUnbegun : Visit → Type 0
IsUnbegun visit = visit.walked ≡ Kept (Waits (proxy_of (place_of visit.entry.root) 1)) Bare Bare

-- All before is done, and nothing was reached of the documents after it.
pub record IsBetweenDocuments {D : Type 0} (d : Ghosts D) (walk : Walk) (disk : D) (was : Image) (base : ℕ) (tour : Tour) (before after : List Visit) : Type 0 where
  pub come : HasCome d walk disk was base tour.free (used_in tour) (all_reached tour.visits)
  pub kept : IsTour (replay was) tour
  pub are : tour.visits ≡ before ++ after
  pub done : All IsDone before
  pub unbegun : All IsUnbegun after

-- The walk has come to its end. Behind so many reads it took two for the header, and one at most for each page of a list and each record.
pub record HasComeToEnd {D : Type 0} (d : Ghosts D) (disk : D) (was : Image) (base : ℕ) (tour : Tour) : Type 0 where
  pub whole : IsWholeTour (replay was) tour
  pub reads : d.reads disk ≤ base + length tour.free + length (used_in tour) + length (all_reached tour.visits)
