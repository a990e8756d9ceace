use Rattle.std.proofs.Common.{◌≡◌, ◌≤◌, ℕ, [], None, sym, subst, arith, inr}
use Rattle.std.specs.Prelude.{IsSome}
use Rattle.std.proofs.lemmas.List.{append-nil}
use Rattle.std.proofs.lemmas.Result.{err_from_is_err_and}
use Rattle.nx_host.specs.Disk.{Rose}
use Rattle.nx_tree.specs.Edit.{at}
use Rattle.nx_cuts.specs.Cut.{tree_of}
use Rattle.nx_hold.specs.Changes.{place_of}
use Rattle.nx_nav.specs.Early.{near_giving}
use Rattle.nx_nav.specs.Refusals.{OfEach, HoldsNoneWithin, IsRefused}
use Rattle.nx_nav.specs.declared.exporting.Stage.{Stage}
use Rattle.nx_nav.proofs.GivenLemmas.{tree_gives, tree_within}
use Rattle.nx_nav.proofs.exporting.show.Goals as goal

pub returns-clause-ok : goal.returns-clause-ok
returns-clause-ok g c = λ seen document h.
    let told = c.in_ok-told.ensures.told in
    let all = told.all seen document h in (
      all.0,
      all.1,
      tree_gives g.H.Disk h c.export_walk-walk.result.teller.block c.args.block.now c.export_walk-walk.ensures.block c.args.path.now told.told c.tell_below-told.new.walk.teller.block (g.H.Disk.beside c.args.host.now).output (g.H.Disk.beside c.tell_below-told.new.disk).output
          all.0 all.1 all.2 (told.goes.0).gives,
    )

pub returns-clause-time : goal.returns-clause-time
returns-clause-time g c = λ seen document h.
    let told = c.in_ok-told.ensures.told in
    let all = told.all seen document h in
    tree_within g.H.Disk h c.export_walk-walk.result.teller.block c.args.block.now c.export_walk-walk.ensures.block c.args.path.now told.told c.args.host.now c.tell_below-told.new.disk
    (inr (all.0, all.1, (told.told, [], all.2, sym (append-nil told.told)))) (told.goes.0).time

pub returns-in_err-told-clause-time : goal.returns-in_err-told-clause-time
returns-in_err-told-clause-time g c = λ seen document h.
    let stops = c.in_err-told.ensures.stops in
    tree_within g.H.Disk h c.export_walk-walk.result.teller.block c.args.block.now c.export_walk-walk.ensures.block c.args.path.now stops.told c.args.host.now c.tell_below-told.new.disk (stops.first seen document h) (stops.goes.0).time

pub returns-clause-early : goal.returns-clause-early
returns-clause-early g c = λ left document h.
    c.tell_below-told.ensures.first left (subst (λ (s : Stage). 1 ≤ near_giving s c.export_walk-walk.result.teller.block) (sym c.export_walk-walk.ensures.unread) (omega arith)) document h

pub returns-in_err-told-clause-early : goal.returns-in_err-told-clause-early
returns-in_err-told-clause-early g c = λ left document h.
    c.tell_below-told.ensures.first left (subst (λ (s : Stage). 1 ≤ near_giving s c.export_walk-walk.result.teller.block) (sym c.export_walk-walk.ensures.unread) (omega arith)) document h

pub returns-in_err-told-clause-refused : goal.returns-in_err-told-clause-refused
returns-in_err-told-clause-refused g c =
    let p = err_from_is_err_and c.from_residual.result c.from_residual.ensures.1 in
    rw (p.1, p.2)
    (subst (λ (n : ℕ). IsRefused g.H.Disk (OfEach g.H.Disk c.args.records.now c.args.host.now (place_of c.args.root) (λ document. at (tree_of document) c.args.path.now ≡ None))
    (Rose (g.H.Disk.beside c.args.host.now).out_faults (g.H.Disk.beside c.tell_below-told.new.disk).out_faults) (IsSome (g.H.Disk.contents c.tell_below-told.new.disk) → HoldsNoneWithin g.H.Disk c.args.records.now c.args.host.now (place_of c.args.root) n)
    c.in_err-told.field-0.0 c.args.records.now c.tell_below-told.new.records c.args.host.now c.tell_below-told.new.disk) c.export_walk-walk.ensures.left c.in_err-told.ensures.refused)
