-- The way to a node through records whose bytes are read along the path alone: what is found there holds of each document.
use Rattle.std.proofs.Common.{◌≡◌, false, ℕ, ◌+◌, ◌≤◌, List, Contains, None, Some, length, drop, sym, ap, ◌∙◌, subst}
use Rattle.std.specs.List.{slice_get}
use Rattle.nx_host.specs.declared.disk.Disk.{Ghosts}
use Rattle.nx_host.specs.Still.{IsStill}
use Rattle.nx_holdings.specs.Holdings.{Held}
use Rattle.nx_records.specs.declared.records.Records.{Records}
use Rattle.nx_records.specs.Records.{StandsFor, has_ended, LeavesRecords}
use Rattle.nx_tree.specs.Document.{deepest}
use Rattle.nx_tree.specs.Edit.{at}
use Rattle.nx_piece.specs.declared.piece.Far.{Far}
use Rattle.nx_piece.specs.declared.piece.Piece.{Piece}
use Rattle.nx_piece.specs.declared.piece.Proxy.{Proxy}
use Rattle.nx_piece.specs.PieceNode.{PieceNode}
use Rattle.nx_piece.specs.Gapped.{GappedTree}
use Rattle.nx_piece.specs.Locate.{Inside, Outside, Missing, reached_in, children_of}
use Rattle.nx_cuts.specs.Cut.{CutTree, tree_of}
use Rattle.nx_layouts.specs.Layout.{RecordPlace, piece_of}
use Rattle.nx_seek.specs.Written.{IsWrittenAs}
use Rattle.nx_seek.proofs.WrittenLemmas.{one_written}
use Rattle.nx_hold.specs.Pieces.{HoldsPiece, NamesContent}
use Rattle.nx_hold.specs.Changes.{TakesPages, place_named}
use Rattle.nx_hold.specs.Documents.{HasDocument}
use Rattle.nx_nav.specs.declared.finding.Found.{Found}
use Rattle.nx_nav.specs.Along.{ReadsAlong}
use Rattle.nx_nav.specs.Parts.{IsPieceAt}
use Rattle.nx_nav.specs.Refusals.{OfEach, HoldsNoDocument}
use Rattle.nx_nav.specs.Shows.{FindsNode, CanBeFound, found_node}
use Rattle.nx_nav.proofs.PartLemmas.{interval_held}
use Rattle.nx_nav.proofs.SeekLemmas.{IsSeeking, seek_leads_on, seek_reads_at, finds_there, finds_none_such, finds_none, names_there}

-- of each piece that a record's place holds these are the bytes
abbrev pub AreBytesAt : {D : Type 0} → Ghosts D → Records → D → RecordPlace → (bytes list : List ℕ) → Type 0
AreBytesAt d records disk place bytes list = (saved now : Held) (held : Piece) → StandsFor d records disk saved now → HoldsPiece now place held → IsWrittenAs held bytes list

-- no more pages were read than such a piece stands on
abbrev pub ReadsWritten : {D : Type 0} → Ghosts D → Records → D → D → RecordPlace → Type 0
ReadsWritten d records old new place = (pages : ℕ) × (d.reads new ≤ d.reads old + pages) × ((saved now : Held) (held : Piece) → StandsFor d records old saved now → HoldsPiece now place held → TakesPages now place pages)

-- the bytes tell of a node with so many children
abbrev pub TellsNode : (bytes list : List ℕ) (member : ℕ) (rest : List ℕ) → PieceNode → (children : ℕ) → Type 0
TellsNode bytes list member rest node children =
    (piece : Piece) → IsWrittenAs piece bytes list → (tree : GappedTree) × (first : ℕ) × (reached_in piece member rest ≡ Inside tree first) × (node ≡ tree.node) × (children ≡ length (children_of piece.proxies first tree.below))

module _ {D : Type 0} {d : Ghosts D} {r0 : Records} {x0 : D} {root : RecordPlace} {path : List ℕ} where
  module _ {r1 : Records} {x1 : D} {place : RecordPlace} {roots member : ℕ} {rest : List ℕ} (seeking : IsSeeking d r0 r1 x0 x1 root path place roots member rest) where
    -- the pages of the next piece, of each document
    pages_written : {x2 : D} (own : ReadsWritten d r1 x1 x2 place) (document : CutTree) (h : HasDocument d r0 x0 root document) → TakesPages h.now place own.0
    pages_written own document h =
        let on = seeking.on document h in
        subst (λ (now : Held). TakesPages now place own.0) on.of (own.2 on.there.saved on.there.now (piece_of on.members) on.there.stands (interval_held on.there))

    pub written_reads_there : (x2 : D) → seeking.levels ≤ deepest → ReadsWritten d r1 x1 x2 place → (document : CutTree) (h : HasDocument d r0 x0 root document) → (along : ReadsAlong h.now root path (d.reads x0) (d.reads x2)) × Contains along.places place
    written_reads_there x2 short own document h = seek_reads_at x2 seeking short own.0 own.1 document h (pages_written own document h)

    module _ (bytes list : List ℕ) (are : AreBytesAt d r1 x1 place bytes list) where
      -- the piece that a document has there
      piece_written : (document : CutTree) (h : HasDocument d r0 x0 root document) → IsWrittenAs (piece_of (seeking.on document h).members) bytes list
      piece_written document h =
          let on = seeking.on document h in
          are on.there.saved on.there.now (piece_of on.members) on.there.stands (interval_held on.there)

      piece_there : (document : CutTree) (h : HasDocument d r0 x0 root document) → IsPieceAt d r1 x1 place roots (piece_of (seeking.on document h).members)
      piece_there document h = λ members there as_many.
          one_written (piece_of (seeking.on document h).members) (piece_of members) bytes list (piece_written document h) (are there.saved there.now (piece_of members) there.stands (interval_held there))

      -- where the bytes are those of no piece there is no document
      pub none_written : ((piece : Piece) → IsWrittenAs piece bytes list → ⊥) → HoldsNoDocument d r0 x0 root
      none_written none document h = none (piece_of (seeking.on document h).members) (piece_written document h)

      -- the path ends at a node
      module _ (found : Found) (tells : TellsNode bytes list member rest (found_node found) found.children) where
        pub written_finds : (document : CutTree) (h : HasDocument d r0 x0 root document) → FindsNode h.now (tree_of document) path found
        written_finds document h =
            let told = tells (piece_of (seeking.on document h).members) (piece_written document h) in
            finds_there seeking (piece_of (seeking.on document h).members) (piece_there document h) told.0 told.1 told.2 found told.3 told.4 document h

        pub written_none_such : (CanBeFound (length path) found → ⊥) → HoldsNoDocument d r0 x0 root
        written_none_such cannot document h =
            let told = tells (piece_of (seeking.on document h).members) (piece_written document h) in
            finds_none_such seeking (piece_of (seeking.on document h).members) (piece_there document h) told.0 told.1 told.2 found told.3 told.4 cannot document h

        pub written_names : (document : CutTree) (h : HasDocument d r0 x0 root document) → (far : Far) → found.far ≡ Some far → NamesContent h.now place far
        written_names document h far named =
            let told = tells (piece_of (seeking.on document h).members) (piece_written document h) in
            names_there seeking (piece_of (seeking.on document h).members) (piece_there document h) told.0 told.1 told.2 document h far (sym (ap (λ (p : PieceNode). p.far) told.3) ∙ named)

      -- it leads nowhere
      pub written_nowhere : ((piece : Piece) → IsWrittenAs piece bytes list → reached_in piece member rest ≡ Missing) → OfEach d r0 x0 root (λ document. at (tree_of document) path ≡ None)
      written_nowhere missing document h =
          finds_none seeking (piece_of (seeking.on document h).members) (piece_there document h) (missing (piece_of (seeking.on document h).members) (piece_written document h)) document h

      -- it leads on
      pub written_leads_on : {r2 : Records} {x2 : D} → has_ended r1 ≡ false → LeavesRecords r1 r2 → IsStill d x1 x2 → ReadsWritten d r1 x1 x2 place → (proxy : Proxy) (index next used : ℕ) → 1 ≤ used → used ≤ length rest
          → ((piece : Piece) → IsWrittenAs piece bytes list → (reached_in piece member rest ≡ Outside index next used) × (slice_get piece.proxies index ≡ Some proxy))
          → IsSeeking d r0 r2 x0 x2 root path (place_named proxy) proxy.roots next (drop used rest)
      written_leads_on runs stays still own proxy index next used some most leads =
          seek_leads_on seeking runs stays still own.0 own.1 (pages_written own) proxy index next used some most
          (λ document h. let e = leads (piece_of (seeking.on document h).members) (piece_written document h) in (piece_of (seeking.on document h).members, piece_there document h, e.0, e.1))

-- the same bytes, where they were borrowed
pub written_as : {bytes seen list named : List ℕ} (piece : Piece) → seen ≡ bytes → named ≡ list → IsWrittenAs piece bytes list → IsWrittenAs piece seen named
written_as {bytes} {seen} {list} {named} piece same other written = subst (λ (b : List ℕ). IsWrittenAs piece b named) (sym same) (subst (λ (l : List ℕ). IsWrittenAs piece bytes l) (sym other) written)
