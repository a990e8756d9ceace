use Rattle.std.proofs.Common.{◌≡◌, ℕ, Bool, List, refl, sym, ap, ◌∙◌, subst, arith}
use Rattle.std.specs.Prelude.{IfErr}
use Rattle.std.proofs.lemmas.Result.{err_from_is_err_and}
use Rattle.nx_host.proofs.DiskLemmas.{none_still, still_then}
use Rattle.nx_replay.specs.Log.{replay}
use Rattle.nx_wal.specs.Reading.{page_found}
use Rattle.nx_rules.specs.Listed.{HasHeaderPage}
use Rattle.nx_check.specs.On.{IsOn, StopsWalk}
use Rattle.nx_check.specs.Uses.{unseen_in}
use Rattle.nx_check.specs.declared.error.Stop.{Stop}
use Rattle.nx_check.specs.declared.error.Stop.TheVariants.{Memory}
use Rattle.nx_check.specs.declared.reading.Walk.{Walk}
use Rattle.nx_check.specs.declared.uses.Uses.{Uses}
use Rattle.nx_check.proofs.FreeLemmas.{IsFreeWalk, begin_free, unseen_less, go_on_free, missing_free, no_free, bad_free}
use Rattle.nx_check.proofs.listing.walk_free.Goals as goal

pub returns-then-not-branch-clause-refused : goal.returns-then-not-branch-clause-refused
returns-then-not-branch-clause-refused g c =
    subst (λ (e : Stop). StopsWalk g.D.Disk c.args.disk.now c.load.new.disk (λ was. IsOn g.D.Disk c.args.walk.now c.args.disk.now was × HasHeaderPage (replay was) c.args.head.now) e) (sym c.broken.ensures)
    (λ was h.
    let on = c.loop-page.invariant.on was h.0 in
    let none = (c.in_ok-load.ensures.ok was on).1 ∙ ap (λ (b : Bool). page_found b c.load.new.walk.page.bytes) c.if-not-branch.true in
    missing_free (replay was) c.args.head.now c.loop-page.walk.uses c.loop-page.by c.loop-page.page (g.D.Disk.reads c.args.disk.now) (g.D.Disk.reads c.loop-page.disk) h.1 (c.loop-page.invariant.walked was h.0) c.loop-page-test.true none)

pub returns-in-None-clause-refused : goal.returns-in-None-clause-refused
returns-in-None-clause-refused g c =
    subst (λ (e : Stop). StopsWalk g.D.Disk c.args.disk.now c.load.new.disk (λ was. IsOn g.D.Disk c.args.walk.now c.args.disk.now was × HasHeaderPage (replay was) c.args.head.now) e) (sym c.broken-in-None.ensures)
    (λ was h.
    let bytes : List ℕ = c.load.new.walk.page.bytes in
    let on = c.loop-page.invariant.on was h.0 in
    let there = (c.in_ok-load.ensures.ok was on).1 ∙ ap (λ (b : Bool). page_found b bytes) c.if-not-branch.false in
    no_free (replay was) c.args.head.now c.loop-page.walk.uses c.loop-page.by c.loop-page.page (g.D.Disk.reads c.args.disk.now) (g.D.Disk.reads c.loop-page.disk) bytes h.1 (c.loop-page.invariant.walked was h.0) c.loop-page-test.true there c.in-None.ensures)

pub returns-then-not-may_be_free-clause-refused : goal.returns-then-not-may_be_free-clause-refused
returns-then-not-may_be_free-clause-refused g c =
    subst (λ (e : Stop). StopsWalk g.D.Disk c.args.disk.now c.load.new.disk (λ was. IsOn g.D.Disk c.args.walk.now c.args.disk.now was × HasHeaderPage (replay was) c.args.head.now) e) (sym c.broken-then-not-may_be_free.ensures)
    (λ was h.
    let bytes : List ℕ = c.load.new.walk.page.bytes in
    let on = c.loop-page.invariant.on was h.0 in
    let there = (c.in_ok-load.ensures.ok was on).1 ∙ ap (λ (b : Bool). page_found b bytes) c.if-not-branch.false in
    let uses : c.load.new.walk.uses ≡ c.loop-page.walk.uses = ap (λ (w : Walk). w.uses) c.in_ok-load.ensures.same in
    let so_far = subst (λ (u : Uses). IsFreeWalk (replay was) c.args.head.now u c.loop-page.by c.loop-page.page (g.D.Disk.reads c.args.disk.now) (g.D.Disk.reads c.loop-page.disk)) (sym uses) (c.loop-page.invariant.walked was h.0) in
    bad_free (replay was) c.args.head.now c.load.new.walk.uses c.loop-page.by c.loop-page.page (g.D.Disk.reads c.args.disk.now) (g.D.Disk.reads c.loop-page.disk) bytes h.1 so_far c.loop-page-test.true there (c.may_be_free.ensures.no c.if-not-may_be_free.true))

pub returns-in_err-set_use-clause-refused : goal.returns-in_err-set_use-clause-refused
returns-in_err-set_use-clause-refused g c =
    let IsRefused : Stop → Type 0 = λ (e : Stop). StopsWalk g.D.Disk c.args.disk.now c.load.new.disk (λ was. IsOn g.D.Disk c.args.walk.now c.args.disk.now was × HasHeaderPage (replay was) c.args.head.now) e in
    let found = err_from_is_err_and c.from_residual-in_err-set_use.result c.from_residual-in_err-set_use.ensures.1 in
    subst (λ r. IfErr r IsRefused) (sym found.1) (subst IsRefused {x = Memory} (sym found.2) (tt {0}))

pub loop-page-smaller : goal.loop-page-smaller
loop-page-smaller g c =
    let may = c.may_be_free.ensures.yes c.if-not-may_be_free.false in
    let uses : unseen_in c.load.new.walk.uses c.args.head.now.pages ≡ unseen_in c.loop-page.walk.uses c.args.head.now.pages = ap (λ (w : Walk). unseen_in w.uses c.args.head.now.pages) c.in_ok-load.ensures.same in
    let less = unseen_less c.load.new.walk.uses c.set_use.new.self c.loop-page.page c.args.head.now.pages c.in_ok-set_use.ensures may.1 may.0 in
    omega (arith, uses, less)

pub loop-page-preserved : goal.loop-page-preserved
loop-page-preserved g c =
    let bytes : List ℕ = c.load.new.walk.page.bytes in
    let may = c.may_be_free.ensures.yes c.if-not-may_be_free.false in
    let uses : c.load.new.walk.uses ≡ c.loop-page.walk.uses = ap (λ (w : Walk). w.uses) c.in_ok-load.ensures.same in
    record {
      still = still_then c.loop-page.invariant.still c.load.ensures.still;
      same = ap (λ (w : Walk). record w { uses = c.set_use.new.self }) c.in_ok-load.ensures.same ∙ ap (λ (w : Walk). record w { uses = c.set_use.new.self; page = c.load.new.walk.page; at = c.load.new.walk.at }) c.loop-page.invariant.same;
      on = λ was h. let on = (c.in_ok-load.ensures.ok was (c.loop-page.invariant.on was h)).0 in record { step = on.step; none = on.none; page = on.page };
      walked = λ was h.
          let there = (c.in_ok-load.ensures.ok was (c.loop-page.invariant.on was h)).1 ∙ ap (λ (b : Bool). page_found b bytes) c.if-not-branch.false in
          let so_far = subst (λ (u : Uses). IsFreeWalk (replay was) c.args.head.now u c.loop-page.by c.loop-page.page (g.D.Disk.reads c.args.disk.now) (g.D.Disk.reads c.loop-page.disk)) (sym uses) (c.loop-page.invariant.walked was h) in
          go_on_free (replay was) c.args.head.now c.load.new.walk.uses c.set_use.new.self c.loop-page.by c.loop-page.page c.in-Some.next (g.D.Disk.reads c.args.disk.now) (g.D.Disk.reads c.loop-page.disk) (g.D.Disk.reads c.load.new.disk) bytes so_far c.load.ensures.reads c.loop-page-test.true there c.in-Some.ensures may.0 may.1 c.in_ok-set_use.ensures;
    }

pub loop-page-init : goal.loop-page-init
loop-page-init g c = record {
  still = none_still;
  same = refl;
  on = λ was on. on;
  walked = λ was on. begin_free (replay was) c.args.head.now c.args.walk.now.uses (g.D.Disk.reads c.args.disk.now) c.requires.clear;
}
