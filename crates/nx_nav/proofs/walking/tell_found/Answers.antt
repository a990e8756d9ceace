use Rattle.std.proofs.Common.{◌≡◌, List, drop, sym, ap, ◌∙◌, subst, arith}
use Rattle.std.proofs.lemmas.Result.{err_from_is_err_and}
use Rattle.nx_piece.specs.declared.piece.Piece.{Piece}
use Rattle.nx_piece.specs.declared.piece.Proxy.{Proxy}
use Rattle.nx_piece.specs.Valid.{HaveRoots}
use Rattle.nx_piece.specs.Viewing.{seen_items, seen_tree}
use Rattle.nx_piece.proofs.LocateLemmas.{ranged_drop}
use Rattle.nx_nav.specs.Early.{ReadsAtMost, ReadsGap}
use Rattle.nx_nav.specs.Refusals.{IsRefused}
use Rattle.nx_nav.specs.Walk.{HasTold, HasStopped, ReadsNoMore, IsNone, IsTreeOf}
use Rattle.nx_nav.proofs.BelowLemmas.{begun_of, not_begun, found_stops, found_told, found_not_written}
use Rattle.nx_nav.proofs.EarlyLemmas.{IsNearing, first_left, gap_stays}
use Rattle.nx_nav.proofs.RefusalLemmas.{is_unwritten}
use Rattle.nx_nav.proofs.WayLemmas.{IsTeller, told_earlier}
use Rattle.nx_nav.proofs.walking.tell_found.Given.{Over}
use Rattle.nx_nav.proofs.walking.tell_found.Goals as goal

teller : (g : Over) → IsTeller g.D.Disk g.T.Tells.Told g.T.Tells.Unwritten
teller g = record {
  asked = g.met.T.Tells.asked;
  join = g.met.T.Tells.then;
  keeps = g.met.T.Tells.keeps;
  fewer = g.met.T.Tells.fewer_images;
  faults = g.met.T.Tells.faults_later;
  unwritten = g.met.T.Tells.unwritten_later;
}

nearing : (g : Over) → IsNearing g.D.Disk g.T.Tells.Told g.T.Tells.Near
nearing g = record { grows = g.met.T.Tells.output_grows; nearer = g.met.T.Tells.near_later }

pub returns-in_err-begin-clause-stops : goal.returns-in_err-begin-clause-stops
returns-in_err-begin-clause-stops g c =
    let p = err_from_is_err_and c.from_residual.result c.from_residual.ensures.1 in
    rw p.1 (not_begun (teller g) g.T.Tells.Contents c.args.piece.now)

pub tell_tree-requires-clause-rooted : goal.tell_tree-requires-clause-rooted
tell_tree-requires-clause-rooted g c = subst HaveRoots (sym (c.split_at.ensures.back ∙ ap (drop c.args.first) (c.as_slice.ensures ∙ ap (λ (p : Piece). p.proxies) c.piece.view_is))) (ranged_drop c.args.first c.args.piece.now.proxies (c.requires.piece).ranged)

pub returns-in_err-tell_tree-clause-stops : goal.returns-in_err-tell_tree-clause-stops
returns-in_err-tell_tree-clause-stops g c =
    let p = err_from_is_err_and c.from_residual-in_err-tell_tree.result c.from_residual-in_err-tell_tree.ensures.1 in
    let behind : c.split_at.result.1.now ≡ drop c.args.first c.args.piece.now.proxies = c.split_at.ensures.back ∙ ap (drop c.args.first) (c.as_slice.ensures ∙ ap (λ (p : Piece). p.proxies) c.piece.view_is) in
    let begun = begun_of g.T.Tells.Told c.args.piece.now c.piece.inside.body.roots (ap (λ (p : Piece). p.body.roots) c.piece.view_is) c.root_count.result c.root_count.ensures (c.in_ok-begin.ensures.told c.args.disk.now) in
    let has = subst (λ (ps : List Proxy). HasStopped g.D.Disk g.T.Tells.Contents g.T.Tells.Told (IsTreeOf g.D.Disk c.args.records.now c.args.disk.now (seen_tree c.args.tree) ps) c.begin.new.self c.args.disk.now c.tell_tree.new.disk) behind c.in_err-tell_tree.ensures.stops in
    rw p.1 (found_stops (teller g) g.T.Tells.Contents c.args.piece.now begun c.tell_tree.new.disk has)

pub returns-in_err-tell_tree-clause-refused : goal.returns-in_err-tell_tree-clause-refused
returns-in_err-tell_tree-clause-refused g c =
    let behind : c.split_at.result.1.now ≡ drop c.args.first c.args.piece.now.proxies = c.split_at.ensures.back ∙ ap (drop c.args.first) (c.as_slice.ensures ∙ ap (λ (p : Piece). p.proxies) c.piece.view_is) in
    let p = err_from_is_err_and c.from_residual-in_err-tell_tree.result c.from_residual-in_err-tell_tree.ensures.1 in
    rw (p.1, p.2)
    (subst (λ (ps : List Proxy). IsRefused g.D.Disk ⊥ (g.T.Tells.Unwritten c.args.disk.now c.tell_tree.new.disk) (IsNone g.D.Disk c.tell_tree.new.disk (IsTreeOf g.D.Disk c.args.records.now c.args.disk.now (seen_tree c.args.tree) ps) c.args.spot.depth c.args.walk.now.left c.args.walk.now.visited) c.in_err-tell_tree.field-0.0
    c.args.records.now c.tell_tree.new.records c.args.disk.now c.tell_tree.new.disk) behind c.in_err-tell_tree.ensures.refused)

pub returns-in_err-finish-clause-stops : goal.returns-in_err-finish-clause-stops
returns-in_err-finish-clause-stops g c =
    let p = err_from_is_err_and c.from_residual-in_err-finish.result c.from_residual-in_err-finish.ensures.1 in
    let behind : c.split_at.result.1.now ≡ drop c.args.first c.args.piece.now.proxies = c.split_at.ensures.back ∙ ap (drop c.args.first) (c.as_slice.ensures ∙ ap (λ (p : Piece). p.proxies) c.piece.view_is) in
    let begun = begun_of g.T.Tells.Told c.args.piece.now c.piece.inside.body.roots (ap (λ (p : Piece). p.body.roots) c.piece.view_is) c.root_count.result c.root_count.ensures (c.in_ok-begin.ensures.told c.args.disk.now) in
    let has = subst (λ (ps : List Proxy). HasTold g.D.Disk g.T.Tells.Contents g.T.Tells.Told (IsTreeOf g.D.Disk c.args.records.now c.args.disk.now (seen_tree c.args.tree) ps) c.begin.new.self c.args.disk.now c.args.walk.now.left c.args.walk.now.visited c.tell_tree.new.walk.teller c.tell_tree.new.disk
    c.tell_tree.new.walk.left c.tell_tree.new.walk.visited) behind c.in_ok-tell_tree.ensures.told in
    let last = c.in_err-finish.ensures.err.2 in
    rw p.1 (found_not_written (teller g) g.T.Tells.Contents c.args.piece.now begun c.tell_tree.new.walk.teller last.0 c.tell_tree.new.disk c.finish.new.disk has last.1)

pub returns-in_err-finish-clause-refused : goal.returns-in_err-finish-clause-refused
returns-in_err-finish-clause-refused g c =
    let p = err_from_is_err_and c.from_residual-in_err-finish.result c.from_residual-in_err-finish.ensures.1 in
    let told = c.in_ok-tell_tree.ensures.told in
    rw (p.1, p.2)
    (is_unwritten g.D.Disk ⊥ (g.T.Tells.Unwritten c.args.disk.now c.finish.new.disk)
    (IsNone g.D.Disk c.finish.new.disk (IsTreeOf g.D.Disk c.args.records.now c.args.disk.now (seen_tree c.args.tree) (drop c.args.first c.args.piece.now.proxies)) c.args.spot.depth c.args.walk.now.left c.args.walk.now.visited)
    c.args.disk.now c.finish.new.disk c.in_err-finish.field-0.0 c.in_err-finish.ensures.err.0
    ((teller g).unwritten c.begin.new.self c.tell_tree.new.walk.teller c.args.disk.now c.tell_tree.new.disk c.finish.new.disk told.told told.goes c.in_err-finish.ensures.err.1)
    c.requires.runs c.in_ok-tell_tree.ensures.stays)

pub returns-in_err-finish-clause-first : goal.returns-in_err-finish-clause-first
returns-in_err-finish-clause-first g c = λ left begins.
    let last = c.in_err-finish.ensures.err.2 in
    let behind : c.split_at.result.1.now ≡ drop c.args.first c.args.piece.now.proxies = c.split_at.ensures.back ∙ ap (drop c.args.first) (c.as_slice.ensures ∙ ap (λ (p : Piece). p.proxies) c.piece.view_is) in
    let output = first_left (teller g) (nearing g) (c.in_ok-tell_tree.ensures.told).goes last.1 left in
    let same = c.finish.ensures.unread in
    gap_stays c.args.disk.now c.tell_tree.new.disk c.finish.new.disk (seen_items c.args.tree.children) (drop c.args.first c.args.piece.now.proxies) (omega (arith, same))
    (subst (λ (ps : List Proxy). ReadsAtMost (g.T.Tells.Near c.begin.new.self) (g.D.Disk.reads c.args.disk.now) (g.D.Disk.reads c.tell_tree.new.disk) ((c.args.spot.depth ≡ 257) × ReadsGap g.D.Disk c.args.records.now c.args.disk.now c.tell_tree.new.disk (seen_items c.args.tree.children) ps)) behind
    (c.tell_tree.ensures.first output (c.in_ok-begin.ensures.near begins)))

pub returns-clause-told : goal.returns-clause-told
returns-clause-told g c =
    let behind : c.split_at.result.1.now ≡ drop c.args.first c.args.piece.now.proxies = c.split_at.ensures.back ∙ ap (drop c.args.first) (c.as_slice.ensures ∙ ap (λ (p : Piece). p.proxies) c.piece.view_is) in
    let begun = begun_of g.T.Tells.Told c.args.piece.now c.piece.inside.body.roots (ap (λ (p : Piece). p.body.roots) c.piece.view_is) c.root_count.result c.root_count.ensures (c.in_ok-begin.ensures.told c.args.disk.now) in
    let has = subst (λ (ps : List Proxy). HasTold g.D.Disk g.T.Tells.Contents g.T.Tells.Told (IsTreeOf g.D.Disk c.args.records.now c.args.disk.now (seen_tree c.args.tree) ps) c.begin.new.self c.args.disk.now c.args.walk.now.left c.args.walk.now.visited c.tell_tree.new.walk.teller c.tell_tree.new.disk
    c.tell_tree.new.walk.left c.tell_tree.new.walk.visited) behind c.in_ok-tell_tree.ensures.told in
    found_told (teller g) g.T.Tells.Contents c.args.piece.now begun c.tell_tree.new.walk.teller c.finish.new.self c.tell_tree.new.disk c.finish.new.disk has c.in_ok-finish.ensures.ok

pub returns-clause-first : goal.returns-clause-first
returns-clause-first g c = λ left begins.
    let behind : c.split_at.result.1.now ≡ drop c.args.first c.args.piece.now.proxies = c.split_at.ensures.back ∙ ap (drop c.args.first) (c.as_slice.ensures ∙ ap (λ (p : Piece). p.proxies) c.piece.view_is) in
    let output = first_left (teller g) (nearing g) (c.in_ok-tell_tree.ensures.told).goes c.in_ok-finish.ensures.ok left in
    let same = c.finish.ensures.unread in
    gap_stays c.args.disk.now c.tell_tree.new.disk c.finish.new.disk (seen_items c.args.tree.children) (drop c.args.first c.args.piece.now.proxies) (omega (arith, same))
    (subst (λ (ps : List Proxy). ReadsAtMost (g.T.Tells.Near c.begin.new.self) (g.D.Disk.reads c.args.disk.now) (g.D.Disk.reads c.tell_tree.new.disk) ((c.args.spot.depth ≡ 257) × ReadsGap g.D.Disk c.args.records.now c.args.disk.now c.tell_tree.new.disk (seen_items c.args.tree.children) ps)) behind
    (c.tell_tree.ensures.first output (c.in_ok-begin.ensures.near begins)))

pub returns-in_err-begin-clause-reads : goal.returns-in_err-begin-clause-reads
returns-in_err-begin-clause-reads g c = λ seen l is. omega arith

pub returns-in_err-tell_tree-clause-reads : goal.returns-in_err-tell_tree-clause-reads
returns-in_err-tell_tree-clause-reads g c =
    let behind : c.split_at.result.1.now ≡ drop c.args.first c.args.piece.now.proxies = c.split_at.ensures.back ∙ ap (drop c.args.first) (c.as_slice.ensures ∙ ap (λ (p : Piece). p.proxies) c.piece.view_is) in
    subst (λ (ps : List Proxy). ReadsNoMore g.D.Disk (IsTreeOf g.D.Disk c.args.records.now c.args.disk.now (seen_tree c.args.tree) ps) c.args.disk.now c.tell_tree.new.disk) behind (c.in_err-tell_tree.ensures.stops).reads

pub returns-in_err-finish-clause-reads : goal.returns-in_err-finish-clause-reads
returns-in_err-finish-clause-reads g c = λ seen l is.
    let last = c.in_err-finish.ensures.err.2 in
    let behind : c.split_at.result.1.now ≡ drop c.args.first c.args.piece.now.proxies = c.split_at.ensures.back ∙ ap (drop c.args.first) (c.as_slice.ensures ∙ ap (λ (p : Piece). p.proxies) c.piece.view_is) in
    let same = c.finish.ensures.unread in
    let read = subst (λ (ps : List Proxy). ReadsNoMore g.D.Disk (IsTreeOf g.D.Disk c.args.records.now c.args.disk.now (seen_tree c.args.tree) ps) c.args.disk.now c.tell_tree.new.disk) behind (c.in_ok-tell_tree.ensures.told).reads
    (told_earlier (teller g) last.1 seen) l is in
    omega (arith, same, read)

pub returns-clause-reads : goal.returns-clause-reads
returns-clause-reads g c = λ seen l is.
    let behind : c.split_at.result.1.now ≡ drop c.args.first c.args.piece.now.proxies = c.split_at.ensures.back ∙ ap (drop c.args.first) (c.as_slice.ensures ∙ ap (λ (p : Piece). p.proxies) c.piece.view_is) in
    let same = c.finish.ensures.unread in
    let read = subst (λ (ps : List Proxy). ReadsNoMore g.D.Disk (IsTreeOf g.D.Disk c.args.records.now c.args.disk.now (seen_tree c.args.tree) ps) c.args.disk.now c.tell_tree.new.disk) behind (c.in_ok-tell_tree.ensures.told).reads
    (told_earlier (teller g) c.in_ok-finish.ensures.ok seen) l is in
    omega (arith, same, read)
