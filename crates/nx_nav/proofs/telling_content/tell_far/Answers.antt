use Rattle.std.proofs.Common.{◌≡◌, ℕ, List, [], ◌∷◌, refl, sym, ◌∙◌, subst, arith}
use Rattle.std.proofs.lemmas.Result.{err_from_is_err_and}
use Rattle.nx_records.specs.Changes.{LacksList}
use Rattle.nx_records.specs.Reading.{Opens}
use Rattle.nx_records.specs.Refusals.{NotRead}
use Rattle.nx_records.proofs.LeaveLemmas.{leaves_same, leaves_add_up}
use Rattle.nx_nav.specs.Steps.{Block}
use Rattle.nx_nav.proofs.EarlyLemmas.{IsNearing, first_left, waits_no_more}
use Rattle.nx_nav.proofs.WayLemmas.{IsTeller}
use Rattle.nx_nav.proofs.ContentLemmas.{one_page_more, full_page_more, list_refused, node_stops_at_once, telling_begins, telling_pauses, telling_later, telling_goes_on, telling_ends, telling_stops, block_refused, not_written}
use Rattle.nx_nav.proofs.telling_content.tell_far.Given.{Over}
use Rattle.nx_nav.proofs.telling_content.tell_far.Goals as goal

teller : (g : Over) → IsTeller g.D.Disk g.T.Tells.Told g.T.Tells.Unwritten
teller g = record {
  asked = g.met.T.Tells.asked;
  join = g.met.T.Tells.then;
  keeps = g.met.T.Tells.keeps;
  fewer = g.met.T.Tells.fewer_images;
  faults = g.met.T.Tells.faults_later;
  unwritten = g.met.T.Tells.unwritten_later;
}

nearing : (g : Over) → IsNearing g.D.Disk g.T.Tells.Told g.T.Tells.Near
nearing g = record { grows = g.met.T.Tells.output_grows; nearer = g.met.T.Tells.near_later }

pub returns-in_err-pause-clause-unread : goal.returns-in_err-pause-clause-unread
returns-in_err-pause-clause-unread g c = λ left waits.
    let last = c.in_err-pause.ensures.err.2 in
    let same = c.pause.ensures.unread in
    let few = c.loop-alloc.invariant.unread (first_left (teller g) (nearing g) (c.loop-alloc.invariant.telling).goes last.1 left) waits in
    omega (arith, same, few)

pub returns-in_err-block-clause-unread : goal.returns-in_err-block-clause-unread
returns-in_err-block-clause-unread g c = λ left waits.
    absurd (waits_no_more (teller g) (nearing g) (c.loop-alloc.invariant.telling).goes c.in_ok-pause.ensures.ok c.in_ok-pause.ensures.gives ((teller g).asked c.pause.new.self c.pause.new.disk c.block_behind.new.disk c.block_behind.ensures.still) left waits)

pub returns-in_err-content-clause-unread : goal.returns-in_err-content-clause-unread
returns-in_err-content-clause-unread g c = λ left waits.
    absurd (waits_no_more (teller g) (nearing g) (c.loop-alloc.invariant.telling).goes c.in_ok-pause.ensures.ok c.in_ok-pause.ensures.gives ((teller g).asked c.pause.new.self c.pause.new.disk c.block_behind.new.disk c.block_behind.ensures.still) left waits)

pub returns-in-Err-clause-stops : goal.returns-in-Err-clause-stops
returns-in-Err-clause-stops g c = node_stops_at_once (teller g)

pub returns-in-Err-clause-refused : goal.returns-in-Err-clause-refused
returns-in-Err-clause-refused g c =
    list_refused g.D.Disk c.args.far c.args.far.first c.args.records.now c.open_list.new.self c.args.disk.now c.args.disk.now (g.T.Tells.Unwritten c.args.disk.now c.args.disk.now) c.args.disk.now c.in-Err.error c.passed_on.result c.passed_on.ensures
    (subst (λ (n : ℕ). NotRead g.D.Disk (λ now. LacksList now c.args.far.first n) c.args.far.first c.in-Err.error c.args.records.now c.open_list.new.self c.args.disk.now c.args.disk.now) c.from.ensures c.in-Err.ensures.refused)

pub loop-alloc-init : goal.loop-alloc-init
loop-alloc-init g c =
    let ok = c.in-Ok.ensures.ok in
    record { stays = leaves_same ok.1; telling = telling_begins (teller g) c.in-Ok.reader ok.1 (subst (λ (n : ℕ). Opens c.in-Ok.reader c.args.far.first n) c.from.ensures ok.2); few = omega arith; full = λ some. (let opens = subst (λ (n : ℕ). Opens c.in-Ok.reader c.args.far.first n) c.from.ensures ok.2 in let left = opens.left in omega (arith, left)); unread = λ left waits. omega arith }

pub returns-in_err-pause-clause-stops : goal.returns-in_err-pause-clause-stops
returns-in_err-pause-clause-stops g c =
    let last = c.in_err-pause.ensures.err.2 in
    let p = err_from_is_err_and c.from_residual.result c.from_residual.ensures.1 in
    rw p.1 (telling_stops (teller g) (telling_pauses (teller g) c.loop-alloc.invariant.telling last.1))

pub returns-in_err-pause-clause-refused : goal.returns-in_err-pause-clause-refused
returns-in_err-pause-clause-refused g c =
    let err = c.in_err-pause.ensures.err in
    let p = err_from_is_err_and c.from_residual.result c.from_residual.ensures.1 in
    rw (p.1, p.2) (not_written (teller g) c.loop-alloc.invariant.telling c.pause.new.disk c.requires.runs c.loop-alloc.invariant.stays c.in_err-pause.field-0.0 err.0 err.1)

pub block_behind-requires-clause-runs : goal.block_behind-requires-clause-runs
block_behind-requires-clause-runs g c = (c.loop-alloc.invariant.stays).ended_stays ∙ c.requires.runs

pub returns-in_err-block-clause-stops : goal.returns-in_err-block-clause-stops
returns-in_err-block-clause-stops g c =
    let paused = telling_pauses (teller g) c.loop-alloc.invariant.telling c.in_ok-pause.ensures.ok in
    let p = err_from_is_err_and c.from_residual-in_err-block.result c.from_residual-in_err-block.ensures.1 in
    rw p.1 (telling_stops (teller g) (telling_later (teller g) paused {r2 = c.loop-alloc.records} (leaves_same refl) c.block_behind.ensures.still))

pub returns-in_err-block-clause-refused : goal.returns-in_err-block-clause-refused
returns-in_err-block-clause-refused g c =
    let paused = telling_pauses (teller g) c.loop-alloc.invariant.telling c.in_ok-pause.ensures.ok in
    let p = err_from_is_err_and c.from_residual-in_err-block.result c.from_residual-in_err-block.ensures.1 in
    rw (p.1, p.2)
    (block_refused (teller g) paused c.block_behind.new.records c.block_behind.new.disk c.requires.runs c.loop-alloc.invariant.stays c.block_behind.ensures.still c.in_err-block.field-0.0 c.in_err-block.ensures.refused)

pub returns-in_err-content-clause-stops : goal.returns-in_err-content-clause-stops
returns-in_err-content-clause-stops g c =
    let paused = telling_pauses (teller g) c.loop-alloc.invariant.telling c.in_ok-pause.ensures.ok in
    let p = err_from_is_err_and c.from_residual-in_err-content.result c.from_residual-in_err-content.ensures.1 in
    rw p.1 (telling_stops (teller g) (telling_later (teller g) paused {r2 = c.loop-alloc.records} (leaves_same refl) c.block_behind.ensures.still))

pub returns-in_err-content-clause-refused : goal.returns-in_err-content-clause-refused
returns-in_err-content-clause-refused g c =
    let p = err_from_is_err_and c.from_residual-in_err-content.result c.from_residual-in_err-content.ensures.1 in
    rw (p.1, p.2) (c.requires.runs, leaves_add_up c.loop-alloc.invariant.stays c.in_ok-block.ensures.stays)

pub loop-alloc-preserved : goal.loop-alloc-preserved
loop-alloc-preserved g c =
    let some : c.loop-alloc.reader.left ≡ 0 → ⊥ = λ none. c.loop-alloc-test.true (c.left.ensures ∙ none) in
    let paused = telling_pauses (teller g) c.loop-alloc.invariant.telling c.in_ok-pause.ensures.ok in
    record {
      stays = leaves_add_up c.loop-alloc.invariant.stays c.in_ok-block.ensures.stays;
      telling = telling_goes_on (teller g) paused c.in_ok-block.block (λ none. c.loop-alloc-test.true (c.left.ensures ∙ none)) c.in_ok-block.ensures.stays c.block_behind.ensures.still c.in_ok-block.ensures.block c.in_ok-block.ensures.stood
          (subst (λ (bytes : List ℕ). g.T.Tells.Told c.pause.new.self c.block_behind.new.disk (Block bytes ∷ []) c.content.new.self c.block_behind.new.disk) c.as_slice.ensures (c.in_ok-content.ensures c.block_behind.new.disk));
      few = one_page_more (g.D.Disk.reads c.args.disk.now) (g.D.Disk.reads c.loop-alloc.disk) (g.D.Disk.reads c.block_behind.new.disk) c.args.far.length c.loop-alloc.reader.left (c.loop-alloc.invariant.full some) some
          (let same = c.pause.ensures.unread in let one = c.block_behind.ensures.reads in omega (arith, same, one));
      full = λ more. full_page_more (g.D.Disk.reads c.args.disk.now) (g.D.Disk.reads c.loop-alloc.disk) (g.D.Disk.reads c.block_behind.new.disk) c.args.far.length c.loop-alloc.reader.left c.block_behind.new.reader.left (c.loop-alloc.invariant.full some)
          (let same = c.pause.ensures.unread in let one = c.block_behind.ensures.reads in omega (arith, same, one))
          (let whole = c.in_ok-block.ensures.block.full more in let left = c.in_ok-block.ensures.block.left in omega (arith, whole, left));
      unread = λ left waits. absurd (waits_no_more (teller g) (nearing g) (c.loop-alloc.invariant.telling).goes c.in_ok-pause.ensures.ok c.in_ok-pause.ensures.gives
          ((teller g).join c.pause.new.self c.pause.new.self c.content.new.self c.pause.new.disk c.block_behind.new.disk c.block_behind.new.disk [] (Block c.as_slice.result.now ∷ []) ((teller g).asked c.pause.new.self c.pause.new.disk c.block_behind.new.disk c.block_behind.ensures.still) (c.in_ok-content.ensures c.block_behind.new.disk)) left waits);
    }

pub returns-in_err-pause-clause-reads : goal.returns-in_err-pause-clause-reads
returns-in_err-pause-clause-reads g c = let same = c.pause.ensures.unread in let few = c.loop-alloc.invariant.few in omega (arith, same, few)

pub returns-in_err-block-clause-reads : goal.returns-in_err-block-clause-reads
returns-in_err-block-clause-reads g c =
    let some : c.loop-alloc.reader.left ≡ 0 → ⊥ = λ none. c.loop-alloc-test.true (c.left.ensures ∙ none) in
    one_page_more (g.D.Disk.reads c.args.disk.now) (g.D.Disk.reads c.loop-alloc.disk) (g.D.Disk.reads c.block_behind.new.disk) c.args.far.length c.loop-alloc.reader.left (c.loop-alloc.invariant.full some) some
    (let same = c.pause.ensures.unread in let one = c.block_behind.ensures.reads in omega (arith, same, one))

pub returns-in_err-content-clause-reads : goal.returns-in_err-content-clause-reads
returns-in_err-content-clause-reads g c =
    let some : c.loop-alloc.reader.left ≡ 0 → ⊥ = λ none. c.loop-alloc-test.true (c.left.ensures ∙ none) in
    one_page_more (g.D.Disk.reads c.args.disk.now) (g.D.Disk.reads c.loop-alloc.disk) (g.D.Disk.reads c.block_behind.new.disk) c.args.far.length c.loop-alloc.reader.left (c.loop-alloc.invariant.full some) some
    (let same = c.pause.ensures.unread in let one = c.block_behind.ensures.reads in omega (arith, same, one))

pub returns-clause-reads : goal.returns-clause-reads
returns-clause-reads g c = c.loop-alloc.invariant.few

pub returns-clause-stays : goal.returns-clause-stays
returns-clause-stays g c = c.loop-alloc.invariant.stays

pub returns-clause-told : goal.returns-clause-told
returns-clause-told g c = telling_ends (teller g) c.loop-alloc.invariant.telling (sym c.left.ensures ∙ c.loop-alloc-test.false)
