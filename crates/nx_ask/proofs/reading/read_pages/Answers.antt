use Rattle.std.proofs.Common.{◌≡◌, ◌+◌, ◌≤◌, ℕ, refl, sym, subst, ◌∙◌, arith}
use Rattle.std.proofs.lemmas.Result.{err_from_is_err_and}
use Rattle.nx_host.proofs.DiskLemmas.{none_still, still_then}
use Rattle.nx_replay.specs.Log.{replay}
use Rattle.nx_ask.specs.declared.error.AskError.{AskError}
use Rattle.nx_ask.specs.Reading.{AreFirstPages, NotCopied}
use Rattle.nx_ask.proofs.PageLemmas.{no_pages, first_page, one_page_more, in_step_on, not_copied_on, err_passed}
use Rattle.nx_ask.proofs.reading.read_pages.Goals as goal

pub loop-page-init : goal.loop-page-init
loop-page-init g c = record {
  same = refl;
  still = none_still;
  reads = omega arith;
  pages = λ was step. first_page _ _ _ (replay was) c.in-Ok.ensures.items (c.in_ok-push_page.ensures.ok) (c.requires.here was step);
}

pub loop-page-preserved : goal.loop-page-preserved
loop-page-preserved g c = record {
  same = c.in_ok-add_page.ensures.same ∙ c.loop-page.invariant.same;
  still = still_then c.loop-page.invariant.still c.add_page.ensures.still;
  reads = let so_far = c.loop-page.invariant.reads in omega (arith, so_far, c.add_page.ensures.reads);
  pages = λ was step. one_page_more _ _ c.loop-page.page (replay was) (c.loop-page.invariant.pages was step)
      (c.in_ok-add_page.ensures.ok was (in_step_on c.loop-page.invariant.still c.loop-page.invariant.same step));
}

pub returns-in_err-add_page-clause-refused : goal.returns-in_err-add_page-clause-refused
returns-in_err-add_page-clause-refused g c =
    let below : c.loop-page.page + 1 ≤ c.args.count = omega arith in
    err_passed c.from_residual-in_err-add_page.result (λ (e : AskError). NotCopied g.D.Disk e c.args.wal.now c.args.count c.args.disk.now c.add_page.new.disk) c.in_err-add_page.field-0.0
    (err_from_is_err_and c.from_residual-in_err-add_page.result c.from_residual-in_err-add_page.ensures.1)
    (not_copied_on g.D.Disk c.in_err-add_page.field-0.0 c.args.wal.now c.loop-page.wal (c.loop-page.page + 1) c.args.count c.args.disk.now c.loop-page.disk c.add_page.new.disk
    c.loop-page.invariant.still c.loop-page.invariant.same below c.in_err-add_page.ensures.refused)

pub returns-clause-ok : goal.returns-clause-ok
returns-clause-ok g c was step =
    let all : c.loop-page.page ≡ c.args.count = omega arith in
    subst (λ (n : ℕ). AreFirstPages c.loop-page.bytes.items n (replay was)) all (c.loop-page.invariant.pages was step)

pub returns-then-count-eq0-clause-ok : goal.returns-then-count-eq0-clause-ok
returns-then-count-eq0-clause-ok g c was step =
    subst (λ (n : ℕ). AreFirstPages c.in-Ok.bytes.items n (replay was)) (sym c.if-count-eq0.true) (no_pages c.in-Ok.bytes.items (replay was) c.in-Ok.ensures.items)
