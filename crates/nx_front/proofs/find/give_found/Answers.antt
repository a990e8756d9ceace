use Rattle.std.proofs.Common.{◌+◌, ◌<◌, ◌≤◌, ◌++◌, ℕ, List, Err, length, drop, ap, sym, subst}
use Rattle.std.proofs.lemmas.Result.{err_from_is_err_and}
use Rattle.nx_filters.specs.declared.give.GiveError.TheVariants.{NoMemory}
use Rattle.nx_filters.proofs.GiveLemmas.{given_nothing, gave_rest, left_is, giving_more, giving_stops, giving_alone, alone_rest}
use Rattle.nx_front.specs.Finding.{found_text}
use Rattle.nx_front.proofs.FindingLemmas.{path_at, found_filled, found_last}
use Rattle.nx_front.proofs.find.give_found.Goals as goal
use Rattle.nx_front.proofs.find.give_found.Goals.{then-len-ge-BLOCK+in_ok-give_block, else-len-ge-BLOCK}

pub returns-in_err-push_found-clause-given : goal.returns-in_err-push_found-clause-given
returns-in_err-push_found-clause-given g c =
    let h = g.H.Disk in
    let here = h.beside c.loop-index.host in
    let p = err_from_is_err_and c.from_residual.result c.from_residual.ensures.1 in
    rw (p.1, p.2)
    (gave_rest (Err NoMemory) here c.loop-index.invariant.alone.areas.out_faults_later c.loop-index.invariant.gave
    (given_nothing (c.loop-index.block ++ found_text (drop c.loop-index.index c.args.paths.now)) here))

pub returns-in_err-give_block-clause-given : goal.returns-in_err-give_block-clause-given
returns-in_err-give_block-clause-given g c =
    let h = g.H.Disk in
    let paths = c.args.paths.now in
    let low : c.loop-index.index < length paths = subst (λ (n : ℕ). c.loop-index.index < n) c.len-index-end.ensures c.loop-index-test.true in
    let rest = found_text (drop (c.loop-index.index + 1) paths) in
    let filled = left_is (c.push_found.new.block ++ rest) c.loop-index.invariant.gave
    (found_filled paths c.loop-index.index c.path.result.now c.loop-index.block c.push_found.new.block low (path_at paths c.loop-index.index c.path.ensures low) c.in_ok-push_found.ensures) in
    let p = err_from_is_err_and c.from_residual-in_err-give_block.result c.from_residual-in_err-give_block.ensures.1 in
    let stop = c.in_err-give_block.field-0.0 in
    rw (p.1, p.2)
    (giving_stops c.push_found.new.block rest stop (h.beside c.give_block.new.host) c.loop-index.invariant.alone.areas.out_faults_later filled c.in_err-give_block.ensures.given)

pub returns-in_err-give_block-clause-alone : goal.returns-in_err-give_block-clause-alone
returns-in_err-give_block-clause-alone g c =
    let paths = c.args.paths.now in
    let low : c.loop-index.index < length paths = subst (λ (n : ℕ). c.loop-index.index < n) c.len-index-end.ensures c.loop-index-test.true in
    let rest = found_text (drop (c.loop-index.index + 1) paths) in
    let filled = left_is (c.push_found.new.block ++ rest) c.loop-index.invariant.gave
    (found_filled paths c.loop-index.index c.path.result.now c.loop-index.block c.push_found.new.block low (path_at paths c.loop-index.index c.path.ensures low) c.in_ok-push_found.ensures) in
    (giving_alone c.push_found.new.block rest filled c.loop-index.invariant.alone c.give_block.ensures.alone)

pub loop-index-preserved : goal.loop-index-preserved
loop-index-preserved g c =
    let paths = c.args.paths.now in
    let low : c.loop-index.index < length paths = subst (λ (n : ℕ). c.loop-index.index < n) c.len-index-end.ensures c.loop-index-test.true in
    let rest = found_text (drop (c.loop-index.index + 1) paths) in
    let filled = left_is (c.push_found.new.block ++ rest) c.loop-index.invariant.gave
    (found_filled paths c.loop-index.index c.path.result.now c.loop-index.block c.push_found.new.block low (path_at paths c.loop-index.index c.path.ensures low) c.in_ok-push_found.ensures) in
    elim c.if-len-ge-BLOCK.branch [
      | then-len-ge-BLOCK+in_ok-give_block w ↦
          rw (w.host-is, w.block-is)
          (record {
            gave = left_is (w.give_block.new.block ++ rest) (giving_more c.push_found.new.block rest (g.H.Disk.beside w.give_block.new.host) filled w.in_ok-give_block.ensures.given)
                (ap (λ (b : List ℕ). b ++ rest) (sym w.in_ok-give_block.ensures.empty));
            alone = giving_alone c.push_found.new.block rest filled c.loop-index.invariant.alone w.give_block.ensures.alone;
          })
      | else-len-ge-BLOCK w ↦ rw (w.host-is, w.block-is) (record { gave = filled; alone = c.loop-index.invariant.alone })
    ]

pub returns-in_err-extend_from_slice-clause-given : goal.returns-in_err-extend_from_slice-clause-given
returns-in_err-extend_from_slice-clause-given g c =
    let h = g.H.Disk in
    let here = h.beside c.loop-index.host in
    let p = err_from_is_err_and c.from_residual-in_err-extend_from_slice.result c.from_residual-in_err-extend_from_slice.ensures.1 in
    rw (p.1, p.2)
    (gave_rest (Err NoMemory) here c.loop-index.invariant.alone.areas.out_faults_later c.loop-index.invariant.gave
    (given_nothing (c.loop-index.block ++ found_text (drop c.loop-index.index c.args.paths.now)) here))

pub returns-clause-given : goal.returns-clause-given
returns-clause-given g c =
    let h = g.H.Disk in
    let last = left_is c.extend_from_slice.new.self c.loop-index.invariant.gave
    (found_last c.args.paths.now c.loop-index.index c.loop-index.block c.extend_from_slice.new.self (subst (λ (n : ℕ). n ≤ c.loop-index.index) c.len-index-end.ensures c.loop-index-test.false) c.in_ok-extend_from_slice.ensures.ok) in
    (gave_rest c.give_block-2.result (h.beside c.give_block-2.new.host) c.loop-index.invariant.alone.areas.out_faults_later last c.give_block-2.ensures.given)

pub returns-clause-alone : goal.returns-clause-alone
returns-clause-alone g c =
    let last = left_is c.extend_from_slice.new.self c.loop-index.invariant.gave
    (found_last c.args.paths.now c.loop-index.index c.loop-index.block c.extend_from_slice.new.self (subst (λ (n : ℕ). n ≤ c.loop-index.index) c.len-index-end.ensures c.loop-index-test.false) c.in_ok-extend_from_slice.ensures.ok) in
    (alone_rest last c.loop-index.invariant.alone c.give_block-2.ensures.alone)
