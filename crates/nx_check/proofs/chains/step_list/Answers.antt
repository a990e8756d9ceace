use Rattle.std.proofs.Common.{◌≡◌, ℕ, Bool, List, take, drop, refl, sym, ap, ◌∙◌, subst, inl, inr}
use Rattle.std.specs.Prelude.{min}
use Rattle.nx_host.specs.Disk.{Image}
use Rattle.nx_numbers.specs.Sizes.{page_room}
use Rattle.nx_chain.proofs.Chain.{says_content}
use Rattle.nx_replay.specs.Log.{replay}
use Rattle.nx_wal.specs.Reading.{page_found}
use Rattle.nx_layouts.specs.Layout.{RecordPlace}
use Rattle.nx_rules.specs.declared.verdict.PageRule.TheVariants as rule
use Rattle.nx_rules.specs.Broken.{Blames, IsNoLink}
use Rattle.nx_check.specs.declared.error.Stop.{Stop}
use Rattle.nx_check.specs.declared.reading.Walk.{Walk}
use Rattle.nx_check.specs.Marks.{AreMarked}
use Rattle.nx_check.specs.Come.{HasCome, StopsSo}
use Rattle.nx_check.proofs.ChainLemmas.{link_at, not_next, come_next}
use Rattle.nx_check.proofs.chains.step_list.Goals as goal

pub returns-then-not-branch-clause-refused : goal.returns-then-not-branch-clause-refused
returns-then-not-branch-clause-refused g c =
    subst (λ (e : Stop). StopsSo g.D.Disk c.args.disk.now c.load.new.disk (λ broken blamed. (broken ≡ rule.Chain) × ((was : Image) (base : ℕ) (free used : List ℕ) (reached : List RecordPlace)
    → HasCome g.D.Disk c.args.walk.now c.args.disk.now was base free used reached → Blames (replay was) c.args.by c.args.page (IsNoLink used c.args.left c.args.page) blamed)) e) (sym c.broken.ensures)
    (refl, λ was base free used reached come. inl (refl, (c.in_ok-load.ensures.ok was come.on).1 ∙ ap (λ (b : Bool). page_found b c.load.new.walk.page.bytes) c.if-not-branch.true))

pub returns-in-None-clause-refused : goal.returns-in-None-clause-refused
returns-in-None-clause-refused g c =
    subst (λ (e : Stop). StopsSo g.D.Disk c.args.disk.now c.load.new.disk (λ broken blamed. (broken ≡ rule.Chain) × ((was : Image) (base : ℕ) (free used : List ℕ) (reached : List RecordPlace)
    → HasCome g.D.Disk c.args.walk.now c.args.disk.now was base free used reached → Blames (replay was) c.args.by c.args.page (IsNoLink used c.args.left c.args.page) blamed)) e) (sym c.broken-in-None.ensures) (
      refl,
      λ was base free used reached come.
          let bytes : List ℕ = c.load.new.walk.page.bytes in
          let there = (c.in_ok-load.ensures.ok was come.on).1 ∙ ap (λ (b : Bool). page_found b bytes) c.if-not-branch.false in
          inr (refl, (bytes, there, λ next content is fresh fits. c.in-None.ensures next content is)),
    )

pub returns-then-not-may_be_next-clause-refused : goal.returns-then-not-may_be_next-clause-refused
returns-then-not-may_be_next-clause-refused g c =
    subst (λ (e : Stop). StopsSo g.D.Disk c.args.disk.now c.load.new.disk (λ broken blamed. (broken ≡ rule.Chain) × ((was : Image) (base : ℕ) (free used : List ℕ) (reached : List RecordPlace)
    → HasCome g.D.Disk c.args.walk.now c.args.disk.now was base free used reached → Blames (replay was) c.args.by c.args.page (IsNoLink used c.args.left c.args.page) blamed)) e) (sym c.broken-then-not-may_be_next.ensures) (
      refl,
      λ was base free used reached come.
          let bytes : List ℕ = c.load.new.walk.page.bytes in
          let there = (c.in_ok-load.ensures.ok was come.on).1 ∙ ap (λ (b : Bool). page_found b bytes) c.if-not-branch.false in
          let marked : AreMarked c.load.new.walk.uses c.load.new.walk.left (replay was) free used reached = subst (λ (w : Walk). AreMarked w.uses w.left (replay was) free used reached) (sym c.in_ok-load.ensures.same) come.marked in
          inr (refl, (bytes, there, not_next c.load.new.walk.uses c.load.new.walk.left (replay was) free used reached c.args.page c.args.left c.in-Some.found.0 bytes c.in-Some.found.1.now marked there c.in-Some.ensures (c.may_be_next.ensures.no c.if-not-may_be_next.true))),
    )

pub returns-clause-ok : goal.returns-clause-ok
returns-clause-ok g c = λ was base free used reached come.
    let bytes : List ℕ = c.load.new.walk.page.bytes in
    let read = c.in_ok-load.ensures.ok was come.on in
    let there = read.1 ∙ ap (λ (b : Bool). page_found b bytes) c.if-not-branch.false in
    let next : ℕ = c.in-Some.found.0 in
    let content : List ℕ = c.in-Some.found.1.now in
    let may = c.may_be_next.ensures.yes c.if-not-may_be_next.false in
    let says : content ≡ take (min c.args.left page_room) (drop 8 bytes) = sym (says_content bytes next content c.in-Some.ensures) ∙ ap (λ (n : ℕ). take n (drop 8 bytes)) may.1.holds in
    let goes = come_next g.D.Disk c.args.walk.now c.load.new.walk c.set_use.new.self c.args.disk.now c.load.new.disk was base free used reached c.args.page next bytes content come read.0 c.in_ok-load.ensures.same c.load.ensures.reads there c.in-Some.ensures may.0 c.in_ok-set_use.ensures in
    (record { page = c.args.page; content = content }, refl, link_at (replay was) c.args.page next bytes content there c.in-Some.ensures, goes.0, may.1, says, goes.1)
