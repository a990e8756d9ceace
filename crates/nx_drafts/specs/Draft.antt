-- A layout some of whose intervals are to come: their records aren't there yet, or have just come.
use Rattle.std.specs.Prelude.{◌≡◌, ℕ, ◌+◌, ◌*◌, if◌then◌else◌, nat_le, List, [], ◌∷◌, ◌++◌, Option, Some}
use Rattle.nx_holdings.specs.Holdings.{chain_count}
use Rattle.nx_piece.specs.Gapped.{Gapped, End, Grow}
use Rattle.nx_piece.specs.Valid.{inline_length, longest_inline}
use Rattle.nx_cuts.specs.Cut.{CutForest, Bare, Grown, Kept, width}
use Rattle.nx_layouts.specs.Layout.{RecordPlace, LaidNode, Layout, without_places, in_record, gap_more}
use Rattle.nx_layouts.specs.Replace.{joined_layout}

-- Trees beside each other, some of them members of intervals: of one that stands, with the place of its record, or of one that comes, which is marked.
pub data Draft (P : Type 0) : Type 0 where
  Ends : Draft P
  Grows : (node : LaidNode) (below beside : Draft P) → Draft P
  Stands : (place : RecordPlace) (members : Layout) (beside : Draft P) → Draft P
  Comes : (mark : P) (members beside : Draft P) → Draft P

-- all of its intervals, drawn in
abbrev pub drawn_forest : {P : Type 0} → Draft P → CutForest
drawn_forest Ends = Bare
drawn_forest (Grows node below beside) = Grown node.node (drawn_forest below) (drawn_forest beside)
drawn_forest (Stands place members beside) = Kept tt (without_places members) (drawn_forest beside)
drawn_forest (Comes mark members beside) = Kept tt (drawn_forest members) (drawn_forest beside)

-- what stood before: without the intervals that come, whose members are those of the part above
abbrev pub layout_before : {P : Type 0} → Draft P → Layout
layout_before Ends = Bare
layout_before (Grows node below beside) = Grown node (layout_before below) (layout_before beside)
layout_before (Stands place members beside) = Kept place members (layout_before beside)
layout_before (Comes mark members beside) = joined_layout (layout_before members) (layout_before beside)

-- the whole layout, once all records are there
abbrev pub layout_after : Draft RecordPlace → Layout
layout_after Ends = Bare
layout_after (Grows node below beside) = Grown node (layout_after below) (layout_after beside)
layout_after (Stands place members beside) = Kept place members (layout_after beside)
layout_after (Comes place members beside) = Kept place (layout_after members) (layout_after beside)

-- the places at which records came, in document order
abbrev pub came : Draft RecordPlace → List RecordPlace
came Ends = []
came (Grows node below beside) = came below ++ came beside
came (Stands place members beside) = came beside
came (Comes place members beside) = place ∷ came members ++ came beside

-- without the places of the records that came
abbrev pub unmarked : {P : Type 0} → Draft P → Draft (Unit {0})
unmarked Ends = Ends
unmarked (Grows node below beside) = Grows node (unmarked below) (unmarked beside)
unmarked (Stands place members beside) = Stands place members (unmarked beside)
unmarked (Comes mark members beside) = Comes tt (unmarked members) (unmarked beside)

-- what one record has of it: intervals beside each other are one gap
abbrev pub draft_body : {P : Type 0} → Draft P → Gapped
draft_body Ends = End
draft_body (Grows node below beside) = Grow (in_record node) (draft_body below) (draft_body beside)
draft_body (Stands place members beside) = gap_more (draft_body beside)
draft_body (Comes mark members beside) = gap_more (draft_body beside)

-- how many proxies it has
abbrev pub draft_count : {P : Type 0} → Draft P → ℕ
draft_count Ends = 0
draft_count (Grows node below beside) = draft_count below + draft_count beside
draft_count (Stands place members beside) = 1 + draft_count beside
draft_count (Comes mark members beside) = 1 + draft_count beside

-- how many pages a record of these nodes and of so many proxies may take: one, and those of the chain
abbrev pub record_pages : Gapped → ℕ → ℕ
record_pages roots proxies = 1 + (if nat_le (inline_length roots proxies) longest_inline then 0 else chain_count (8 * proxies))

-- how many pages the records that come may take
abbrev pub draft_needs : {P : Type 0} → Draft P → ℕ
draft_needs Ends = 0
draft_needs (Grows node below beside) = draft_needs below + draft_needs beside
draft_needs (Stands place members beside) = draft_needs beside
draft_needs (Comes mark members beside) = record_pages (draft_body members) (draft_count members) + draft_needs members + draft_needs beside

-- Each of these trees is a member of an interval, but the one at a position, where one is named. The first of them has this position.
abbrev pub AreHeldBut : {P : Type 0} → Option ℕ → (position : ℕ) → Draft P → Type 0
AreHeldBut raised position Ends = Unit {0}
AreHeldBut raised position (Grows node below beside) = (raised ≡ Some position) × AreHeldBut raised (position + 1) beside
AreHeldBut raised position (Stands place members beside) = AreHeldBut raised (position + width members) beside
AreHeldBut raised position (Comes mark members beside) = AreHeldBut raised (position + width (drawn_forest members)) beside
