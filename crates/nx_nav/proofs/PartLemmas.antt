-- What a call knows that has read one record: its piece is that of the interval, or there is no such interval.
use Rattle.std.proofs.Common.{◌≡◌, ◌+◌, ◌*◌, ◌<◌, ◌≤◌, ℕ, length, false, Option, refl, sym, ap, ◌∙◌, subst, arith, inl, inr}
use Rattle.std.proofs.lemmas.Bool.Decides.{nat_tests}
use Rattle.std.specs.Prelude.{nat_le}
use Rattle.std.specs.Prelude.{IsSome}
use Rattle.std.specs.Option.{MatchOption}
use Rattle.nx_host.specs.Disk.{Image, Keeps}
use Rattle.nx_host.specs.declared.disk.Disk.{Ghosts}
use Rattle.nx_host.specs.Still.{IsStill}
use Rattle.nx_host.proofs.DiskLemmas.{none_still, settled_kept}
use Rattle.nx_holdings.specs.declared.header.Settings.{Settings}
use Rattle.nx_holdings.specs.Holdings.{Held, chain_count}
use Rattle.nx_records.specs.declared.records.Records.{Records}
use Rattle.nx_records.specs.declared.error.StoreError.{StoreError}
use Rattle.nx_records.specs.declared.error.StoreError.TheVariants as store
use Rattle.nx_records.specs.Records.{StandsFor, LeavesRecords, settings_of}
use Rattle.nx_records.specs.Refusals.{NotRead}
use Rattle.nx_records.proofs.LeaveLemmas.{leaves_stand}
use Rattle.nx_piece.specs.Gapped as gapped
use Rattle.nx_piece.specs.Gapped.{Gapped}
use Rattle.nx_piece.specs.declared.piece.Piece.{Piece}
use Rattle.nx_piece.specs.declared.piece.Stored.TheVariants.{Inline, Chained}
use Rattle.nx_piece.specs.Valid.{inline_length, longest_inline}
use Rattle.nx_cuts.specs.Cut.{CutForest, CutTree, Bare, Grown, Kept, forest, width, AreFree, tree_of}
use Rattle.nx_layouts.specs.Layout.{RecordPlace, Layout, laid_near, laid_forest, piece_body, piece_of, AreHeld, AreLaidParts}
use Rattle.nx_layouts.proofs.DrawnLemmas.{drawn_free}
use Rattle.nx_hold.specs.Documents.{HasDocument}
use Rattle.nx_hold.specs.Changes.{TakesPages, chain_pages}
use Rattle.nx_hold.proofs.PieceLemmas.{one_at, no_both, count_same}
use Rattle.nx_hold.proofs.PutLemmas.{pages_chained}
use Rattle.nx_hold.specs.Pieces.{HoldsPiece, HoldsNone, held_by}
use Rattle.nx_nav.specs.Along.{ReadsPiece}
use Rattle.nx_nav.specs.Parts.{HasLayout, HasInterval, HasNoInterval}
use Rattle.nx_nav.specs.declared.error.NavError.{NavError}
use Rattle.nx_nav.specs.Refusals.{IsRefused, StopsReading, IsPassedOn}

-- trees none of which is a member of an interval are as many in their piece
members_wide : (a : Layout) → AreFree a → gapped.gapped_width (piece_body a) ≡ width a
members_wide Bare h = refl
members_wide (Grown node below beside) h = let p = members_wide beside h in omega arith
members_wide (Kept place members beside) h = absurd h

module _ {D : Type 0} {d : Ghosts D} {records : Records} {disk : D} {place : RecordPlace} {members : Layout} where
  -- the record of an interval holds the piece of its members
  pub interval_held : (h : HasInterval d records disk place members) → HoldsPiece h.now place (piece_of members)
  interval_held h =
      let P : Option Piece → Type 0 = λ o. MatchOption o (HoldsNone h.now place) (λ piece. HoldsPiece h.now place piece) in
      subst P h.held.0.there (h.pieces.are place)

  pub interval_piece : (h : HasInterval d records disk place members) (piece : Piece) → ((saved now : Held) (held : Piece) → StandsFor d records disk saved now → HoldsPiece now place held → piece ≡ held) → piece ≡ piece_of members
  interval_piece h piece is = is h.saved h.now (piece_of members) h.stands (interval_held h)

  -- as many roots as members
  pub interval_width : HasInterval d records disk place members → gapped.gapped_width (piece_body members) ≡ width members
  interval_width h = members_wide members (drawn_free members h.light.1)

-- where its piece has another number of roots there is no such interval
pub no_interval : {D : Type 0} {d : Ghosts D} {records : Records} {disk : D} {place : RecordPlace} (roots : ℕ) (piece : Piece) → ((saved now : Held) (held : Piece) → StandsFor d records disk saved now → HoldsPiece now place held → piece ≡ held)
    → (gapped.gapped_width piece.body.roots ≡ roots → ⊥) → HasNoInterval d records disk place roots
no_interval roots piece holds other members h as_many =
    let same = ap (λ (p : Piece). gapped.gapped_width p.body.roots) (interval_piece h piece holds) in
    other (same ∙ interval_width h ∙ as_many)

-- ... and where the items of its piece take more slots than the settings let them
pub no_light_interval : {D : Type 0} {d : Ghosts D} {records : Records} {disk : D} {place : RecordPlace} (roots : ℕ) (piece : Piece) → ((saved now : Held) (held : Piece) → StandsFor d records disk saved now → HoldsPiece now place held → piece ≡ held)
    → (settings_of records).k < gapped.gapped_size piece.body.roots → HasNoInterval d records disk place roots
no_light_interval roots piece holds heavy members h as_many =
    let takes = ap (λ (p : Piece). gapped.gapped_size p.body.roots) (interval_piece h piece holds) in
    let most = ap (λ (t : Settings). t.k) (((h.stands).holds).behind).settings in
    let fits : gapped.gapped_size (piece_body members) ≤ (h.now.settings).k = h.held.0.fits in
    omega arith

-- the refusal of a call that reads one record
module _ {D : Type 0} (d : Ghosts D) (place : RecordPlace) (roots named : ℕ) (r0 r1 : Records) (x0 x1 : D) where
  pub read_stops : (e : StoreError) → NotRead d (λ now. HoldsNone now place) named e r0 r1 x0 x1 → StopsReading e
  read_stops store.Disk refused = tt
  read_stops (store.Damaged page) refused = tt
  read_stops store.Ended refused = tt
  read_stops store.Memory refused = tt
  read_stops store.Exists refused = absurd refused
  read_stops store.NotAStore refused = absurd refused
  read_stops store.Full refused = absurd refused

  abbrev Passed : NavError → Type 0
  Passed e = IsRefused d ⊥ ⊥ (HasNoInterval d r0 x0 place roots) e r0 r1 x0 x1

  pub read_refused : (e : StoreError) (out : NavError) → IsPassedOn e out → NotRead d (λ now. HoldsNone now place) named e r0 r1 x0 x1 → IsRefused d ⊥ ⊥ (HasNoInterval d r0 x0 place roots) out r0 r1 x0 x1
  read_refused store.Disk out is refused = subst Passed (sym is) refused
  read_refused (store.Damaged page) out is refused = subst Passed (sym is) (λ members h as_many. refused.lacks h.saved h.now h.stands (piece_of members) (interval_held h), refused.ends)
  read_refused store.Ended out is refused = subst Passed (sym is) refused
  read_refused store.Memory out is refused = subst Passed (sym is) refused
  read_refused store.Exists out is refused = absurd refused
  read_refused store.NotAStore out is refused = absurd refused
  read_refused store.Full out is refused = absurd refused

-- what is held stays so while the disk is asked alone
pub layout_later : {D : Type 0} {d : Ghosts D} {r0 r1 : Records} {x0 x1 : D} {layout : Layout} → LeavesRecords r0 r1 → IsStill d x0 x1 → HasLayout d r0 x0 layout → HasLayout d r1 x1 layout
layout_later {r0 = r0} {r1 = r1} same still h = record {
  saved = h.saved;
  now = h.now;
  stands = leaves_stand {r0 = r0} {r1 = r1} same still h.stands;
  pieces = h.pieces;
  held = h.held;
  light = h.light;
}

-- ... by the same that is held
pub later_same : {D : Type 0} {d : Ghosts D} {r0 r1 : Records} {x0 x1 : D} {layout : Layout} (same : LeavesRecords r0 r1) (still : IsStill d x0 x1) (h : HasLayout d r0 x0 layout) → (layout_later {r0 = r0} {r1 = r1} same still h).now ≡ h.now
unfolding layout_later
later_same same still h = refl

-- the same pieces hold another layout
pub layout_of : {D : Type 0} {d : Ghosts D} {records : Records} {disk : D} {layout : Layout} (h : HasLayout d records disk layout) (part : Layout) → AreHeld (held_by h.pieces) part → AreLaidParts (h.now.settings).k part → HasLayout d records disk part
layout_of h part held light = record {
  saved = h.saved;
  now = h.now;
  stands = h.stands;
  pieces = h.pieces;
  held = held;
  light = light;
}

pub part_same : {D : Type 0} {d : Ghosts D} {records : Records} {disk : D} {layout : Layout} (h : HasLayout d records disk layout) (part : Layout) (held : AreHeld (held_by h.pieces) part) (light : AreLaidParts (h.now.settings).k part) → (layout_of h part held light).now ≡ h.now
unfolding layout_of
part_same h part held light = refl

-- a document is the one member of its root's interval
pub document_held : {D : Type 0} {d : Ghosts D} {records : Records} {disk : D} {root : RecordPlace} {document : CutTree} (h : HasDocument d records disk root document) → HasInterval d records disk root (Grown (laid_near document.node) h.laid.layout Bare)
document_held h = record {
  saved = h.saved;
  now = h.now;
  stands = h.stands;
  pieces = h.pieces;
  held = h.laid.laid.held;
  light = h.laid.laid.light;
}

pub document_same : {D : Type 0} {d : Ghosts D} {records : Records} {disk : D} {root : RecordPlace} {document : CutTree} (h : HasDocument d records disk root document) → (document_held h).now ≡ h.now
unfolding document_held
document_same h = refl

pub document_forest : {D : Type 0} {d : Ghosts D} {records : Records} {disk : D} {root : RecordPlace} {document : CutTree} (h : HasDocument d records disk root document) → laid_forest h.laid.layout ≡ (tree_of document).below
document_forest h = ap (λ (c : CutForest). forest c) h.laid.laid.same

-- what records and disk stand for stays while the areas are left
pub stands_kept : {D : Type 0} {d : Ghosts D} {r : Records} {x0 x1 : D} {saved now : Held} → Keeps (d.contents x0) (d.contents x1) → IsSome (d.contents x1) → ((i : Image) → d.may_leave x1 i → d.may_leave x0 i)
    → StandsFor d r x0 saved now → StandsFor d r x1 saved now
stands_kept kept told fewer stands =
    let keeps = stands.keeps in
    record {
      keeps = record { runs = keeps.runs; image = keeps.image; step = record { settled = settled_kept kept told fewer (keeps.step).settled; follows = (keeps.step).follows }; holds = keeps.holds };
      holds = stands.holds;
      known = stands.known;
    }

-- ... and so does what is held
pub layout_goes : {D : Type 0} {d : Ghosts D} {r0 r1 : Records} {x0 x1 : D} → LeavesRecords r0 r1 → ((saved now : Held) → StandsFor d r0 x0 saved now → StandsFor d r0 x1 saved now) → (layout : Layout) → HasLayout d r0 x0 layout → HasLayout d r1 x1 layout
layout_goes {r0 = r0} {r1 = r1} same stands layout h = record {
  saved = h.saved;
  now = h.now;
  stands = leaves_stand {r0 = r0} {r1 = r1} same none_still (stands h.saved h.now h.stands);
  pieces = h.pieces;
  held = h.held;
  light = h.light;
}

over_most : (n most : ℕ) → most < n → nat_le n most ≡ false
over_most n most over = grind (arith, nat_tests)

-- so many pages are read for a piece that a record holds, and no more
takes_few : (now : Held) (place : RecordPlace) (piece : Piece) (pages : ℕ) → HoldsPiece now place piece → TakesPages now place pages → pages ≤ 1 + chain_pages piece
takes_few now place piece pages holds (inl one) = omega (arith, one)
takes_few now place piece pages (inl inline) (inr (count, chain, names, are)) = absurd (no_both piece names.0 count chain (one_at now place (Inline piece) (Chained names.0 count chain) inline names.1))
takes_few now place piece pages (inr chained) (inr (count, chain, names, are)) =
    let e = one_at now place (Chained piece.body (length piece.proxies) chained.chain) (Chained names.0 count chain) chained.stored names.1 in
    let n : length piece.proxies ≡ count = count_same piece.body names.0 (length piece.proxies) count chained.chain chain e in
    let long : longest_inline < inline_length piece.body.roots (length piece.proxies) = (chained.stored).valid.long in
    let own = pages_chained piece (over_most (inline_length piece.body.roots (length piece.proxies)) longest_inline long) in
    let same = ap (λ (k : ℕ). chain_count (8 * k)) n in
    omega (arith, are, own, same)

pub piece_few : {D : Type 0} {d : Ghosts D} {r : Records} {x y : D} {place : RecordPlace} {members : Layout} (own : ReadsPiece d r x y place) → HasInterval d r x place members → d.reads y ≤ d.reads x + (1 + chain_pages (piece_of members))
piece_few {place = place} {members = members} own h =
    let few = own.1 in
    let takes = takes_few h.now place (piece_of members) own.0 (interval_held h) (own.2 h.saved h.now h.stands) in
    omega (arith, few, takes)
