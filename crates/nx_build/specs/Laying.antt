-- What storing trees beside each other makes of records.
use Rattle.std.specs.Prelude.{◌≡◌, ℕ, ◌+◌, ◌≤◌, List, ◌++◌, Contains}
use Rattle.nx_host.specs.declared.disk.Disk.{Ghosts}
use Rattle.nx_host.specs.Still.{IsStill}
use Rattle.nx_records.specs.Words.{Held}
use Rattle.nx_records.specs.declared.records.Records.{Records}
use Rattle.nx_records.specs.Records.{KeepsSaved, ComesTo}
use Rattle.nx_records.specs.Refusals.{RunsOn}
use Rattle.nx_piece.specs.declared.piece.Proxy.{Proxy}
use Rattle.nx_piece.specs.Gapped.{Gapped}
use Rattle.nx_piece.specs.Valid.{AreNear, AreFar}
use Rattle.nx_cuts.specs.Cut.{Cut, CutForest, Bare, Grown, Kept, width}
use Rattle.nx_layouts.specs.Layout.{LaidNode, Layout, without_places, piece_body, proxies_of, places_of, nodes_in, contents_of, IsReadIn, AreHeld, AreLaidParts, AreOnce, ArePlacedOnce}
use Rattle.nx_hold.specs.Pieces.{IsNoProxies, PieceMap, held_by}
use Rattle.nx_hold.specs.Contents.{content_pages}
use Rattle.nx_hold.specs.Changes.{place_named, ComesTidy}
use Rattle.nx_hold.specs.Documents.{AddsRecords}

-- how many proxies the record of these trees has
abbrev pub proxy_count : {N P : Type 0} → Cut N P → ℕ
proxy_count Bare = 0
proxy_count (Grown node below beside) = proxy_count below + proxy_count beside
proxy_count (Kept mark members beside) = 1 + proxy_count beside

-- how many pages the records of the intervals may take, and what the nodes keep beside them: one for each record, one for each proxy in it, and so many for each node
abbrev pub page_needs : {N P : Type 0} → (pages : N → ℕ) → Cut N P → ℕ
page_needs pages Bare = 0
page_needs pages (Grown node below beside) = pages node + page_needs pages below + page_needs pages beside
page_needs pages (Kept mark members beside) = 1 + proxy_count members + page_needs pages members + page_needs pages beside

-- ... with the contents that are too long for their items
abbrev pub laid_needs : Layout → ℕ
laid_needs layout = page_needs (λ (n : LaidNode). content_pages n.node) layout

abbrev pub drawn_needs : CutForest → ℕ
drawn_needs drawn = page_needs content_pages drawn

-- For each interval a record came, at a place of its own, with the piece of its members; and a list for each content that is too long for its item, which holds no record's proxies.
-- All is held where no part weighs more than a record's nodes may: of the nodes in no interval no record says anything yet, but their contents are read.
pub record PutsLayout (layout : Layout) (was now : Held) : Type 0 where
  pub adds : AddsRecords (places_of layout) (contents_of layout) (laid_needs layout) was now
  pub read : (n : LaidNode) → Contains (nodes_in layout) n → IsReadIn now.lists n
  pub held : (pieces : PieceMap now) → AreLaidParts (now.settings).k layout → AreHeld (held_by pieces) layout
  pub once : ArePlacedOnce (places_of layout)
  pub contents_once : AreOnce (contents_of layout)
  pub apart : (first : ℕ) → Contains (contents_of layout) first → IsNoProxies now first

-- The records of these intervals were put, and the contents of these nodes. Whatever lists records name, at most so many fewer pages are free.
pub record HasPutLayout {D : Type 0} (d : Ghosts D) (old new : Records) (before after : D) (layout : Layout) : Type 0 where
  pub runs : RunsOn old new
  pub keeps : KeepsSaved d old new before after
  pub still : IsStill d before after
  pub takes : ComesTo d old new before after (λ was now. was.free ≤ now.free + laid_needs layout)
  pub puts : ComesTidy d old new before after (λ was now. PutsLayout layout was now)

-- Trees were laid out so: this is what the piece that they stand in has of them, with its contents near and far as they may be stored, and these proxies came behind those that it
-- had.
pub record LaysTrees {D : Type 0} (d : Ghosts D) (old new : Records) (before after : D) (drawn : CutForest) (body : Gapped) (had has : List Proxy) : Type 0 where
  pub layout : Layout
  pub same : without_places layout ≡ drawn
  pub body_is : body ≡ piece_body layout
  pub near : AreNear body
  pub far : AreFar body
  pub proxies_are : has ≡ had ++ proxies_of layout
  pub laid : HasPutLayout d old new before after layout

-- The members of an interval were laid out so, in the record of this proxy.
pub record LaysMembers {D : Type 0} (d : Ghosts D) (old new : Records) (before after : D) (members : CutForest) (proxy : Proxy) : Type 0 where
  pub layout : Layout
  pub same : without_places layout ≡ members
  pub far : AreFar (piece_body layout)
  pub roots : proxy.roots ≡ width members
  pub laid : HasPutLayout d old new before after (Kept (place_named proxy) layout Bare)
