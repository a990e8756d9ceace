use Rattle.std.proofs.Common.{◌≡◌, ◌≤◌, ◌-◌, ℕ, List, [], None, Some, length, take, drop, refl, sym, ap, ◌∙◌, subst, arith}
use Rattle.std.specs.Prelude.{IsSome}
use Rattle.std.proofs.lemmas.List.{length-drop}
use Rattle.std.proofs.lemmas.Result.{err_from_is_err_and}
use Rattle.nx_host.proofs.DiskLemmas.{none_still, still_then}
use Rattle.nx_records.proofs.LeaveLemmas.{leaves_add_up, leaves_same, had_ended}
use Rattle.nx_tree.specs.Document.{deepest}
use Rattle.nx_tree.specs.Edit.{at}
use Rattle.nx_piece.specs.Viewing.{seen_tree}
use Rattle.nx_cuts.specs.Cut.{Bare, Grown, CutTree, tree_of}
use Rattle.nx_layouts.specs.Layout.{RecordPlace}
use Rattle.nx_hold.specs.Changes.{place_of, place_named}
use Rattle.nx_hold.specs.Documents.{HasDocument}
use Rattle.nx_nav.specs.Below.{TellsBelow, StopsBelow}
use Rattle.nx_nav.specs.Refusals.{OfEach, HoldsNoneWithin}
use Rattle.nx_nav.specs.Visited.{HasVisited}
use Rattle.nx_nav.specs.declared.visited.Visited.{Visited}
use Rattle.nx_nav.proofs.BelowLemmas.{IsLaidThere, below_untold, below_unread, below_told, below_stops, found_layout, found_none, found_reads, found_pages, reads_alone, not_nowhere}
use Rattle.nx_nav.proofs.BesideLemmas.{IsSeekingBelow, below_begins, below_goes_on, below_reads}
use Rattle.nx_nav.proofs.ChildLemmas.{tree_stands}
use Rattle.nx_nav.proofs.EarlyLemmas.{IsNearing, last_left}
use Rattle.nx_nav.proofs.NodeLemmas.{too_deep}
use Rattle.nx_nav.proofs.RefusalLemmas.{refused_later, still_runs}
use Rattle.nx_nav.proofs.SeekLemmas.{part_left, finds_none, seek_falls, seek_reads, none_read}
use Rattle.nx_nav.proofs.WayLemmas.{IsTeller}
use Rattle.nx_nav.proofs.walking.tell_below.Given.{Over}
use Rattle.nx_nav.proofs.walking.tell_below.Goals as goal

teller : (g : Over) → IsTeller g.D.Disk g.T.Tells.Told g.T.Tells.Unwritten
teller g = record {
  asked = g.met.T.Tells.asked;
  join = g.met.T.Tells.then;
  keeps = g.met.T.Tells.keeps;
  fewer = g.met.T.Tells.fewer_images;
  faults = g.met.T.Tells.faults_later;
  unwritten = g.met.T.Tells.unwritten_later;
}

nearing : (g : Over) → IsNearing g.D.Disk g.T.Tells.Told g.T.Tells.Near
nearing g = record { grows = g.met.T.Tells.output_grows; nearer = g.met.T.Tells.near_later }

pub loop-bytes-init : goal.loop-bytes-init
loop-bytes-init g c = record { seeking = below_begins; teller = refl; left = refl; visited = refl }

pub returns-then-is_ended-clause-stops : goal.returns-then-is_ended-clause-stops
returns-then-is_ended-clause-stops g c = below_untold (teller g) g.T.Tells.Contents none_still

pub returns-then-is_ended-clause-refused : goal.returns-then-is_ended-clause-refused
returns-then-is_ended-clause-refused g c = had_ended (sym c.is_ended.ensures ∙ c.if-is_ended.true)

pub returns-then-path-gt-DEEPEST-clause-stops : goal.returns-then-path-gt-DEEPEST-clause-stops
returns-then-path-gt-DEEPEST-clause-stops g c = below_untold (teller g) g.T.Tells.Contents none_still

pub returns-then-path-gt-DEEPEST-clause-refused : goal.returns-then-path-gt-DEEPEST-clause-refused
returns-then-path-gt-DEEPEST-clause-refused g c = (
  λ document h. too_deep c.args.path.now (tree_of document) h.laid.laid.is_document (let deep = c.if-path-gt-DEEPEST.true in omega (arith, deep)),
  sym c.is_ended.ensures ∙ c.if-is_ended.false,
  leaves_same refl,
)

-- the next record wasn't read
pub returns-in_err-piece-clause-stops : goal.returns-in_err-piece-clause-stops
returns-in_err-piece-clause-stops g c =
    let p = err_from_is_err_and c.from_residual.result c.from_residual.ensures.1 in
    let own = (c.loop-bytes.invariant.seeking).own in
    rw p.1 (below_untold (teller g) g.T.Tells.Contents (still_then own.still c.piece_at.ensures.still))

pub returns-in_err-piece-clause-untold : goal.returns-in_err-piece-clause-untold
returns-in_err-piece-clause-untold g c = λ nowhere.
    let p = err_from_is_err_and c.from_residual.result c.from_residual.ensures.1 in
    absurd (not_nowhere g.D.Disk _ _ _ _ _ _ c.in_err-piece.field-0.0 c.in_err-piece.ensures.refused (let is = sym p.1 ∙ nowhere in let same = p.2 in cc))

pub returns-in_err-piece-clause-first : goal.returns-in_err-piece-clause-first
returns-in_err-piece-clause-first g c = λ left begins. below_reads c.piece_at.new.disk c.loop-bytes.invariant.seeking c.piece_at.ensures.reads (Some 0) (let few = c.if-path-gt-DEEPEST.false in omega (arith, few))

pub returns-in_err-piece-clause-refused : goal.returns-in_err-piece-clause-refused
returns-in_err-piece-clause-refused g c =
    let p = err_from_is_err_and c.from_residual.result c.from_residual.ensures.1 in
    rw (p.1, p.2)
    (below_unread (c.loop-bytes.invariant.seeking).own c.piece_at.new.records c.piece_at.new.disk (OfEach g.D.Disk c.args.records.now c.args.disk.now (place_of c.args.root) (λ document. at (tree_of document) c.args.path.now ≡ None))
    (g.T.Tells.Unwritten c.args.disk.now c.piece_at.new.disk) c.args.walk.now.left c.in_err-piece.field-0.0 c.in_err-piece.ensures.refused)

-- the path ends in its piece
pub tell_found-requires-clause-stands : goal.tell_found-requires-clause-stands
tell_found-requires-clause-stands g c = tree_stands c.in_ok-piece.piece c.loop-bytes.member c.loop-bytes.rest.now (seen_tree c.in-Here.tree) c.in-Here.first c.in_ok-piece.ensures.valid c.in-Here.ensures.0

pub returns-in_err-tell_found-in-Here-clause-stops : goal.returns-in_err-tell_found-in-Here-clause-stops
returns-in_err-tell_found-in-Here-clause-stops g c =
    let p = err_from_is_err_and c.from_residual-in_err-tell_found-in-Here.result c.from_residual-in_err-tell_found-in-Here.ensures.1 in
    let own = (c.loop-bytes.invariant.seeking).own in
    let piece = c.in_ok-piece.piece in
    let tree = seen_tree c.in-Here.tree in
    let there : (document : CutTree) (h : HasDocument g.D.Disk c.args.records.now c.args.disk.now (place_of c.args.root) document) → IsLaidThere h c.args.path.now c.piece_at.new.records c.piece_at.new.disk tree (drop c.in-Here.first piece.proxies) =
    λ document h. found_layout own piece c.in_ok-piece.ensures.ok c.in_ok-piece.ensures.stays.1 c.piece_at.ensures.still tree c.in-Here.first c.in-Here.ensures.0 document h in
    rw p.1
    (subst (λ a. StopsBelow g.D.Disk g.T.Tells.Contents g.T.Tells.Told c.args.records.now c.args.disk.now (place_of c.args.root) c.args.path.now a c.tell_found.new.disk) c.loop-bytes.invariant.teller
    (below_stops (teller g) g.T.Tells.Contents (still_then own.still c.piece_at.ensures.still) piece tree (drop c.in-Here.first piece.proxies) there c.tell_found.new.disk c.in_err-tell_found-in-Here.ensures.stops))

pub returns-in_err-tell_found-in-Here-clause-untold : goal.returns-in_err-tell_found-in-Here-clause-untold
returns-in_err-tell_found-in-Here-clause-untold g c = λ nowhere.
    let p = err_from_is_err_and c.from_residual-in_err-tell_found-in-Here.result c.from_residual-in_err-tell_found-in-Here.ensures.1 in
    absurd (not_nowhere g.D.Disk _ _ _ _ _ _ c.in_err-tell_found-in-Here.field-0.0 c.in_err-tell_found-in-Here.ensures.refused (let is = sym p.1 ∙ nowhere in let same = p.2 in cc))

pub returns-in_err-tell_found-in-Here-clause-first : goal.returns-in_err-tell_found-in-Here-clause-first
returns-in_err-tell_found-in-Here-clause-first g c = λ left begins.
    let own = (c.loop-bytes.invariant.seeking).own in
    let still = still_then own.still c.piece_at.ensures.still in
    let back = last_left (teller g) (nearing g) ((teller g).asked c.loop-bytes.walk.teller c.args.disk.now c.piece_at.new.disk still) (c.in_err-tell_found-in-Here.ensures.stops).goes left in
    let near : 1 ≤ g.T.Tells.Near c.loop-bytes.walk.teller = subst (λ a. 1 ≤ g.T.Tells.Near a) (sym c.loop-bytes.invariant.teller) begins in
    found_reads c.loop-bytes.invariant.seeking c.in_ok-piece.piece c.in_ok-piece.ensures.ok c.in_ok-piece.ensures.stays.0 c.in_ok-piece.ensures.stays.1 c.piece_at.ensures.still c.piece_at.ensures.reads c.in_ok-piece.ensures.valid
    (seen_tree c.in-Here.tree) c.in-Here.first c.in-Here.ensures.0 c.tell_found.new.disk (let few = c.if-path-gt-DEEPEST.false in omega (arith, few)) (c.tell_found.ensures.first back near)

pub returns-in_err-tell_found-in-Here-clause-refused : goal.returns-in_err-tell_found-in-Here-clause-refused
returns-in_err-tell_found-in-Here-clause-refused g c =
    let p = err_from_is_err_and c.from_residual-in_err-tell_found-in-Here.result c.from_residual-in_err-tell_found-in-Here.ensures.1 in
    let inv = c.loop-bytes.invariant in
    let own = (inv.seeking).own in
    let piece = c.in_ok-piece.piece in
    let tree = seen_tree c.in-Here.tree in
    let still = still_then own.still c.piece_at.ensures.still in
    let short : length c.args.path.now ≤ deepest = let few = c.if-path-gt-DEEPEST.false in omega (arith, few) in
    let there : (document : CutTree) (h : HasDocument g.D.Disk c.args.records.now c.args.disk.now (place_of c.args.root) document) → IsLaidThere h c.args.path.now c.piece_at.new.records c.piece_at.new.disk tree (drop c.in-Here.first piece.proxies) =
    λ document h. found_layout own piece c.in_ok-piece.ensures.ok c.in_ok-piece.ensures.stays.1 c.piece_at.ensures.still tree c.in-Here.first c.in-Here.ensures.0 document h in
    let fresh : HasVisited c.loop-bytes.walk.visited [] = subst (λ (v : Visited). HasVisited v []) (sym inv.visited) c.requires.fresh in
    rw (p.1, p.2)
    (refused_later g.D.Disk (OfEach g.D.Disk c.args.records.now c.args.disk.now (place_of c.args.root) (λ document. at (tree_of document) c.args.path.now ≡ None)) (g.T.Tells.Unwritten c.args.disk.now c.tell_found.new.disk)
    (IsSome (g.D.Disk.contents c.tell_found.new.disk) → HoldsNoneWithin g.D.Disk c.args.records.now c.args.disk.now (place_of c.args.root) c.args.walk.now.left)
    c.args.records.now c.piece_at.new.records c.tell_found.new.records c.args.disk.now c.piece_at.new.disk c.tell_found.new.disk (leaves_add_up own.stays c.in_ok-piece.ensures.stays.1)
    (still_runs c.args.records.now (sym (own.stays).ended_stays ∙ c.in_ok-piece.ensures.stays.0)) still.faults_later absurd
    (λ unwritten. (teller g).unwritten c.loop-bytes.walk.teller c.loop-bytes.walk.teller c.args.disk.now c.piece_at.new.disk c.tell_found.new.disk [] ((teller g).asked c.loop-bytes.walk.teller c.args.disk.now c.piece_at.new.disk still) unwritten)
    (λ none. subst (λ (n : ℕ). IsSome (g.D.Disk.contents c.tell_found.new.disk) → HoldsNoneWithin g.D.Disk c.args.records.now c.args.disk.now (place_of c.args.root) n) inv.left
    (found_none c.tell_found.new.disk c.loop-bytes.walk.left c.loop-bytes.walk.visited short fresh there none))
    c.in_err-tell_found-in-Here.field-0.0 c.in_err-tell_found-in-Here.ensures.refused)

pub returns-in-Here-clause-stays : goal.returns-in-Here-clause-stays
returns-in-Here-clause-stays g c = (
  sym ((c.loop-bytes.invariant.seeking).own.stays).ended_stays ∙ c.in_ok-piece.ensures.stays.0,
  leaves_add_up (c.loop-bytes.invariant.seeking).own.stays (leaves_add_up c.in_ok-piece.ensures.stays.1 c.in_ok-tell_found-in-Here.ensures.stays),
)

pub returns-in-Here-clause-told : goal.returns-in-Here-clause-told
returns-in-Here-clause-told g c =
    let own = (c.loop-bytes.invariant.seeking).own in
    let piece = c.in_ok-piece.piece in
    let tree = seen_tree c.in-Here.tree in
    let there : (document : CutTree) (h : HasDocument g.D.Disk c.args.records.now c.args.disk.now (place_of c.args.root) document) → IsLaidThere h c.args.path.now c.piece_at.new.records c.piece_at.new.disk tree (drop c.in-Here.first piece.proxies) =
    λ document h. found_layout own piece c.in_ok-piece.ensures.ok c.in_ok-piece.ensures.stays.1 c.piece_at.ensures.still tree c.in-Here.first c.in-Here.ensures.0 document h in
    subst (λ a. TellsBelow g.D.Disk g.T.Tells.Contents g.T.Tells.Told c.args.records.now c.args.disk.now (place_of c.args.root) c.args.path.now a c.tell_found.new.walk.teller c.tell_found.new.disk) c.loop-bytes.invariant.teller
    (below_told (teller g) g.T.Tells.Contents (still_then own.still c.piece_at.ensures.still) piece tree (drop c.in-Here.first piece.proxies) there c.tell_found.new.walk.teller c.tell_found.new.disk c.in_ok-tell_found-in-Here.ensures.told)

pub returns-in-Here-clause-first : goal.returns-in-Here-clause-first
returns-in-Here-clause-first g c = λ left begins.
    let own = (c.loop-bytes.invariant.seeking).own in
    let still = still_then own.still c.piece_at.ensures.still in
    let back = last_left (teller g) (nearing g) ((teller g).asked c.loop-bytes.walk.teller c.args.disk.now c.piece_at.new.disk still) (c.in_ok-tell_found-in-Here.ensures.told).goes left in
    let near : 1 ≤ g.T.Tells.Near c.loop-bytes.walk.teller = subst (λ a. 1 ≤ g.T.Tells.Near a) (sym c.loop-bytes.invariant.teller) begins in
    found_reads c.loop-bytes.invariant.seeking c.in_ok-piece.piece c.in_ok-piece.ensures.ok c.in_ok-piece.ensures.stays.0 c.in_ok-piece.ensures.stays.1 c.piece_at.ensures.still c.piece_at.ensures.reads c.in_ok-piece.ensures.valid
    (seen_tree c.in-Here.tree) c.in-Here.first c.in-Here.ensures.0 c.tell_found.new.disk (let few = c.if-path-gt-DEEPEST.false in omega (arith, few)) (c.tell_found.ensures.first back near)

-- it leads nowhere
pub returns-in-Nowhere-clause-stops : goal.returns-in-Nowhere-clause-stops
returns-in-Nowhere-clause-stops g c =
    subst (λ a. StopsBelow g.D.Disk g.T.Tells.Contents g.T.Tells.Told c.args.records.now c.args.disk.now (place_of c.args.root) c.args.path.now a c.piece_at.new.disk) c.loop-bytes.invariant.teller
    (below_untold (teller g) g.T.Tells.Contents (still_then (c.loop-bytes.invariant.seeking).own.still c.piece_at.ensures.still))

pub returns-in-Nowhere-clause-untold : goal.returns-in-Nowhere-clause-untold
returns-in-Nowhere-clause-untold g c = λ nowhere. (c.loop-bytes.invariant.teller, still_then (c.loop-bytes.invariant.seeking).own.still c.piece_at.ensures.still)

pub returns-in-Nowhere-clause-first : goal.returns-in-Nowhere-clause-first
returns-in-Nowhere-clause-first g c = λ left begins. below_reads c.piece_at.new.disk c.loop-bytes.invariant.seeking c.piece_at.ensures.reads (Some 0) (let few = c.if-path-gt-DEEPEST.false in omega (arith, few))

pub returns-in-Nowhere-clause-refused : goal.returns-in-Nowhere-clause-refused
returns-in-Nowhere-clause-refused g c = (
  finds_none (c.loop-bytes.invariant.seeking).own c.in_ok-piece.piece c.in_ok-piece.ensures.ok c.in-Nowhere.ensures,
  sym ((c.loop-bytes.invariant.seeking).own.stays).ended_stays ∙ c.in_ok-piece.ensures.stays.0,
  leaves_add_up (c.loop-bytes.invariant.seeking).own.stays c.in_ok-piece.ensures.stays.1,
)

-- it leads on
pub slice_bounds-rest-count : goal.slice_bounds-rest-count
slice_bounds-rest-count g c = (seek_falls (c.loop-bytes.invariant.seeking).own c.in_ok-piece.piece c.in_ok-piece.ensures.ok c.in-Away.index c.in-Away.next c.in-Away.used c.in_ok-piece.ensures.valid c.in-Away.ensures.0).1

pub slice_bounds-rest-start : goal.slice_bounds-rest-start
slice_bounds-rest-start g c = (seek_falls (c.loop-bytes.invariant.seeking).own c.in_ok-piece.piece c.in_ok-piece.ensures.ok c.in-Away.index c.in-Away.next c.in-Away.used c.in_ok-piece.ensures.valid c.in-Away.ensures.0).1

pub loop-bytes-smaller : goal.loop-bytes-smaller
loop-bytes-smaller g c =
    let falls = seek_falls (c.loop-bytes.invariant.seeking).own c.in_ok-piece.piece c.in_ok-piece.ensures.ok c.in-Away.index c.in-Away.next c.in-Away.used c.in_ok-piece.ensures.valid c.in-Away.ensures.0 in
    let some : 1 ≤ c.in-Away.used = falls.0 in
    let few : c.in-Away.used ≤ length c.loop-bytes.rest.now = falls.1 in
    let left = ap length (part_left c.loop-bytes.rest.now c.in-Away.used) in
    let long = length-drop c.in-Away.used c.loop-bytes.rest.now in
    omega arith

pub loop-bytes-preserved : goal.loop-bytes-preserved
loop-bytes-preserved g c =
    let left = part_left c.loop-bytes.rest.now c.in-Away.used in
    record {
      seeking = subst (λ (place : RecordPlace). IsSeekingBelow g.D.Disk c.args.records.now c.piece_at.new.records c.args.disk.now c.piece_at.new.disk (place_of c.args.root) c.args.path.now place c.in-Away.proxy.roots c.in-Away.next (take (length c.loop-bytes.rest.now - c.in-Away.used) (drop c.in-Away.used c.loop-bytes.rest.now)))
          (sym c.rid_of-rid.ensures)
          (subst (λ (rest : List ℕ). IsSeekingBelow g.D.Disk c.args.records.now c.piece_at.new.records c.args.disk.now c.piece_at.new.disk (place_of c.args.root) c.args.path.now (place_named c.in-Away.proxy) c.in-Away.proxy.roots c.in-Away.next rest) (sym left)
          (below_goes_on c.loop-bytes.invariant.seeking c.in_ok-piece.piece c.in_ok-piece.ensures.ok c.in_ok-piece.ensures.stays.0 c.in_ok-piece.ensures.stays.1 c.piece_at.ensures.still c.piece_at.ensures.reads c.in_ok-piece.ensures.valid c.in-Away.proxy c.in-Away.index c.in-Away.next c.in-Away.used c.in-Away.ensures.0 c.in-Away.ensures.1));
      teller = c.loop-bytes.invariant.teller;
      left = c.loop-bytes.invariant.left;
      visited = c.loop-bytes.invariant.visited;
    }

-- how much is read
pub returns-then-is_ended-clause-reads : goal.returns-then-is_ended-clause-reads
returns-then-is_ended-clause-reads g c = λ seen document h. reads_alone (none_read h.now (place_of c.args.root) c.args.path.now (g.D.Disk.reads c.args.disk.now))

pub returns-then-path-gt-DEEPEST-clause-reads : goal.returns-then-path-gt-DEEPEST-clause-reads
returns-then-path-gt-DEEPEST-clause-reads g c = λ seen document h. reads_alone (none_read h.now (place_of c.args.root) c.args.path.now (g.D.Disk.reads c.args.disk.now))

pub returns-in_err-piece-clause-reads : goal.returns-in_err-piece-clause-reads
returns-in_err-piece-clause-reads g c = λ seen document h.
    reads_alone (seek_reads c.piece_at.new.disk (c.loop-bytes.invariant.seeking).own (let few = c.if-path-gt-DEEPEST.false in omega (arith, few)) c.piece_at.ensures.reads document h)

pub returns-in-Nowhere-clause-reads : goal.returns-in-Nowhere-clause-reads
returns-in-Nowhere-clause-reads g c = λ seen document h.
    reads_alone (seek_reads c.piece_at.new.disk (c.loop-bytes.invariant.seeking).own (let few = c.if-path-gt-DEEPEST.false in omega (arith, few)) c.piece_at.ensures.reads document h)

pub returns-in_err-tell_found-in-Here-clause-reads : goal.returns-in_err-tell_found-in-Here-clause-reads
returns-in_err-tell_found-in-Here-clause-reads g c = λ seen document h.
    let own = (c.loop-bytes.invariant.seeking).own in
    let piece = c.in_ok-piece.piece in
    let tree = seen_tree c.in-Here.tree in
    let there = found_layout own piece c.in_ok-piece.ensures.ok c.in_ok-piece.ensures.stays.1 c.piece_at.ensures.still tree c.in-Here.first c.in-Here.ensures.0 document h in
    found_pages there c.piece_at.new.disk c.tell_found.new.disk (seek_reads c.piece_at.new.disk own (let few = c.if-path-gt-DEEPEST.false in omega (arith, few)) c.piece_at.ensures.reads document h) (c.tell_found.ensures.reads seen (Grown there.node there.below Bare) there.stands_for)

pub returns-in-Here-clause-reads : goal.returns-in-Here-clause-reads
returns-in-Here-clause-reads g c = λ seen document h.
    let own = (c.loop-bytes.invariant.seeking).own in
    let piece = c.in_ok-piece.piece in
    let tree = seen_tree c.in-Here.tree in
    let there = found_layout own piece c.in_ok-piece.ensures.ok c.in_ok-piece.ensures.stays.1 c.piece_at.ensures.still tree c.in-Here.first c.in-Here.ensures.0 document h in
    found_pages there c.piece_at.new.disk c.tell_found.new.disk (seek_reads c.piece_at.new.disk own (let few = c.if-path-gt-DEEPEST.false in omega (arith, few)) c.piece_at.ensures.reads document h) (c.tell_found.ensures.reads seen (Grown there.node there.below Bare) there.stands_for)
