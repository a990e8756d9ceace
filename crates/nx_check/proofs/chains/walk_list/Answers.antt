use Rattle.std.proofs.Common.{◌≡◌, ◌+◌, ℕ, ◌++◌, ◌∷◌, List, [], length, length-append, take, drop, sym, ap, ◌∙◌, subst, arith}
use Rattle.std.proofs.lemmas.Result.{err_from_is_err_and}
use Rattle.nx_host.proofs.DiskLemmas.{still_then}
use Rattle.nx_replay.specs.Log.{replay}
use Rattle.nx_holdings.specs.Holdings.{pages_of_links}
use Rattle.nx_check.specs.declared.error.Stop.{Stop}
use Rattle.nx_check.specs.Come.{HasCome, StopsSo}
use Rattle.nx_check.proofs.ComeLemmas.{stops_later, same_then, err_passed}
use Rattle.nx_check.proofs.ChainLemmas.{StepsList, SaysList, SaysNext, next_says, go_on_list, end_list, links_more, into_more, room_min, left_min}
use Rattle.nx_check.proofs.chains.walk_list.Goals as goal

pub returns-in_err-next-clause-refused : goal.returns-in_err-next-clause-refused
returns-in_err-next-clause-refused g c =
    err_passed c.from_residual.result (λ (e : Stop). StopsSo g.D.Disk c.args.disk.now c.step_list.new.disk (SaysList g.D.Disk c.args.walk.now c.args.disk.now c.args.by c.args.first c.args.size) e) c.in_err-next.field-0.0
    (err_from_is_err_and c.from_residual.result c.from_residual.ensures.1)
    (stops_later g.D.Disk c.args.disk.now c.loop-left.disk c.step_list.new.disk (SaysNext g.D.Disk c.loop-left.walk c.loop-left.disk c.loop-left.by c.loop-left.page c.loop-left.left)
    (SaysList g.D.Disk c.args.walk.now c.args.disk.now c.args.by c.args.first c.args.size) c.in_err-next.field-0.0 c.loop-left.invariant.still.faults_later
    (next_says g.D.Disk c.args.walk.now c.loop-left.walk c.args.disk.now c.loop-left.disk c.args.by c.args.first c.args.size c.loop-left.by c.loop-left.page c.loop-left.left (λ was base free used reached come. let so_far = c.loop-left.invariant.walked was base free used reached come in (so_far.0, so_far.1, so_far.3))) c.in_err-next.ensures.refused)

pub returns-in_err-step_list-clause-refused : goal.returns-in_err-step_list-clause-refused
returns-in_err-step_list-clause-refused g c =
    err_passed c.from_residual-in_err-step_list.result (λ (e : Stop). StopsSo g.D.Disk c.args.disk.now c.step_list-2.new.disk (SaysList g.D.Disk c.args.walk.now c.args.disk.now c.args.by c.args.first c.args.size) e) c.in_err-step_list.field-0.0
    (err_from_is_err_and c.from_residual-in_err-step_list.result c.from_residual-in_err-step_list.ensures.1)
    (stops_later g.D.Disk c.args.disk.now c.loop-left.disk c.step_list-2.new.disk (SaysNext g.D.Disk c.loop-left.walk c.loop-left.disk c.loop-left.by c.loop-left.page c.loop-left.left)
    (SaysList g.D.Disk c.args.walk.now c.args.disk.now c.args.by c.args.first c.args.size) c.in_err-step_list.field-0.0 c.loop-left.invariant.still.faults_later
    (next_says g.D.Disk c.args.walk.now c.loop-left.walk c.args.disk.now c.loop-left.disk c.args.by c.args.first c.args.size c.loop-left.by c.loop-left.page c.loop-left.left (λ was base free used reached come. let so_far = c.loop-left.invariant.walked was base free used reached come in (so_far.0, so_far.1, so_far.3))) c.in_err-step_list.ensures.refused)

pub loop-left-preserved : goal.loop-left-preserved
loop-left-preserved g c = record {
  still = still_then c.loop-left.invariant.still c.step_list.ensures.still;
  same = same_then c.args.walk.now c.loop-left.walk c.step_list.new.walk c.loop-left.invariant.same c.in_ok-next.ensures.same;
  some = (let more = c.loop-left-test.true in omega (arith, more));
  long = (
      let so_far = c.loop-left.invariant.long in
      let piece = c.content_in.ensures.long in
      let grown : length c.extend_from_slice.new.self ≡ length c.loop-left.into + length c.content_in.result.now = ap length c.in_ok-extend_from_slice.ensures.ok ∙ length-append c.loop-left.into c.content_in.result.now in
      let more = c.loop-left-test.true in
      omega (arith, so_far, piece, grown, more));
  walked = λ was base free used reached come.
      let so_far = c.loop-left.invariant.walked was base free used reached come in
      let next = c.in_ok-next.ensures.ok was base free (used ++ pages_of_links so_far.0) reached so_far.3 in
      let step : StepsList (replay was) (used ++ pages_of_links so_far.0) c.loop-left.page c.loop-left.left c.in_ok-next.next next.0 = record { here = next.1; at = next.2; fresh = next.3; fits = next.4 } in (
        so_far.0 ++ next.0 ∷ [],
        go_on_list (replay was) used c.args.by c.args.first c.args.size so_far.0 c.loop-left.by c.loop-left.page c.loop-left.left c.in_ok-next.next next.0 so_far.1 step c.loop-left-test.true,
        into_more c.args.into.now c.loop-left.into c.extend_from_slice.new.self c.content_in.result.now so_far.0 next.0 so_far.2 c.in_ok-extend_from_slice.ensures.ok
            (c.content_in.ensures.are ∙ sym (next.5 ∙ ap (λ (n : ℕ). take n (drop 8 c.step_list.new.walk.page.bytes)) (room_min c.loop-left.left (let more = c.loop-left-test.true in omega (arith, more))))),
        subst (λ (l : List ℕ). HasCome g.D.Disk c.step_list.new.walk c.step_list.new.disk was base free l reached) (links_more used so_far.0 next.0 c.loop-left.page next.1) next.6,
      );
}

pub returns-clause-ok : goal.returns-clause-ok
returns-clause-ok g c = λ was base free used reached come.
    let so_far = c.loop-left.invariant.walked was base free used reached come in
    let next = c.in_ok-step_list.ensures.ok was base free (used ++ pages_of_links so_far.0) reached so_far.3 in
    let step : StepsList (replay was) (used ++ pages_of_links so_far.0) c.loop-left.page c.loop-left.left c.in_ok-step_list.field-0 next.0 = record { here = next.1; at = next.2; fresh = next.3; fits = next.4 } in (
      so_far.0 ++ next.0 ∷ [],
      end_list (replay was) used c.args.by c.args.first c.args.size so_far.0 c.loop-left.by c.loop-left.page c.loop-left.left c.in_ok-step_list.field-0 next.0 so_far.1 step c.loop-left-test.false,
      into_more c.args.into.now c.loop-left.into c.extend_from_slice-2.new.self c.content_in-2.result.now so_far.0 next.0 so_far.2 c.in_ok-extend_from_slice-2.ensures.ok
          (c.content_in-2.ensures.are ∙ sym (next.5 ∙ ap (λ (n : ℕ). take n (drop 8 c.step_list-2.new.walk.page.bytes)) (left_min c.loop-left.left c.loop-left-test.false))),
      subst (λ (l : List ℕ). HasCome g.D.Disk c.step_list-2.new.walk c.step_list-2.new.disk was base free l reached) (links_more used so_far.0 next.0 c.loop-left.page next.1) next.6,
    )

pub returns-clause-long : goal.returns-clause-long
returns-clause-long g c =
    let so_far = c.loop-left.invariant.long in
    let piece = c.content_in-2.ensures.long in
    let grown : length c.extend_from_slice-2.new.self ≡ length c.loop-left.into + length c.content_in-2.result.now = ap length c.in_ok-extend_from_slice-2.ensures.ok ∙ length-append c.loop-left.into c.content_in-2.result.now in
    omega (arith, so_far, piece, grown)
