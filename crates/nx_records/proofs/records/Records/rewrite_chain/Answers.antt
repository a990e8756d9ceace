use Rattle.std.proofs.Common.{◌≡◌, ◌∙◌, ◌<◌, ◌≤◌, List, [], ◌++◌, ℕ, length, refl, sym, subst, arith, length-append}
use Rattle.std.proofs.lemmas.Result.{err_from_is_err_and}
use Rattle.nx_host.proofs.DiskLemmas.{none_still, still_then}
use Rattle.nx_holdings.specs.Holdings.{Link, next_of, content_of}
use Rattle.nx_wal.specs.Wal.{current}
use Rattle.nx_links.specs.Lists.{IsReadTo}
use Rattle.nx_links.proofs.ListLemmas.{read_none, read_whole}
use Rattle.nx_links.proofs.BesideLemmas.{chain_from, chain_count_of}
use Rattle.nx_records.specs.declared.error.StoreError.{StoreError}
use Rattle.nx_records.specs.Chains.{MayChange, IsChainOf, IsPassed, IsOver, Nowhere, NotGivenBack}
use Rattle.nx_records.proofs.StandLemmas.{keeps_then, step_kept}
use Rattle.nx_records.proofs.RefusalLemmas.{err_passed, ended_now, keeps_self}
use Rattle.nx_records.proofs.ChainLemmas.{no_list_past, few_pages, read_link}
use Rattle.nx_records.proofs.InPlaceLemmas.{takes_none_then, set_takes_none, kept_then, set_keeps_links}
use Rattle.nx_records.proofs.WritingLemmas.{led_later, given_damaged, ended_behind}
use Rattle.nx_records.proofs.RewritingLemmas.{links_none, over_none, over_steps, over_all, over_none_left, over_passed, over_past, over_short, passed_may}
use Rattle.nx_records.proofs.records.Records.rewrite_chain.Goals as goal

pub loop-page-init : goal.loop-page-init
loop-page-init g c = record {
  keeps = keeps_self c.args.self.now c.args.self.now c.requires.runs refl;
  still = none_still;
  within = omega arith;
  full = λ goes_on. omega arith;
  few = omega arith;
  reads = omega arith;
  in_place = (refl, refl);
  links = λ goes_on was step page next content has. (content, has, refl);
  read = λ was step. ([], omega arith, read_none c.args.self.now.head.pages (current c.args.self.now.wal was) c.args.first);
  steps = links_none c.args.self.now (λ links. next_of links ≡ c.args.first) (λ was links more. IsOver c.args.self.now c.args.self.now was c.args.bytes.now 0 c.args.first c.args.len c.args.len links more)
      (λ was links starts. over_none c.args.self.now was c.args.bytes.now c.args.first c.args.len links starts);
}

pub returns-then-not-may_have-clause-refused : goal.returns-then-not-may_have-clause-refused
returns-then-not-may_have-clause-refused g c =
    given_damaged g.D.Disk c.args.self.now c.damaged.new.self c.args.disk.now c.args.disk.now c.args.named (IsChainOf c.args.first c.args.len)
    c.damaged.result c.damaged.ensures.result (ended_now {r0 = c.args.self.now} {r1 = c.args.self.now} {r2 = c.damaged.new.self} c.requires.runs refl c.damaged.ensures.ended)
    (λ was links held step holds starts.
    no_list_past c.args.self.now.head c.args.self.now.head_range (next_of links) c.args.len (c.may_have.ensures.no c.if-not-may_have.true) (content_of links) (chain_from holds) starts.long)

pub returns-then-left-eq0-clause-refused : goal.returns-then-left-eq0-clause-refused
returns-then-left-eq0-clause-refused g c =
    let one = c.loop-page.invariant in
    given_damaged g.D.Disk c.args.self.now c.damaged-then-left-eq0.new.self c.args.disk.now c.loop-page.disk c.args.named (IsChainOf c.args.first c.args.len)
    c.damaged-then-left-eq0.result c.damaged-then-left-eq0.ensures.result
    (ended_behind {r0 = c.args.self.now} {r1 = c.loop-page.self} {r2 = c.damaged-then-left-eq0.new.self} c.requires.runs one.keeps c.damaged-then-left-eq0.ensures.ended)
    (λ was links held step holds starts.
    let mid = one.steps was links held step holds starts.begins in
    over_none_left links mid.more (mid.comes).passed starts mid.holds c.loop-page-test.true c.if-left-eq0.true)

pub content_at-content-requires : goal.content_at-content-requires
content_at-content-requires g c =
    let full = c.loop-page.invariant.full c.loop-page-test.true in
    let some = c.if-left-eq0.false in
    let pages = c.requires.pages in
    omega (arith, full, some, pages)

pub returns-in_err-next-clause-refused : goal.returns-in_err-next-clause-refused
returns-in_err-next-clause-refused g c =
    let one = c.loop-page.invariant in
    err_passed c.from_residual.result (λ (e : StoreError). NotGivenBack g.D.Disk (IsChainOf c.args.first c.args.len) c.args.named e c.args.self.now c.set_link.new.self c.args.disk.now c.set_link.new.disk)
    c.in_err-next.field-0.0 (err_from_is_err_and c.from_residual.result c.from_residual.ensures.1) (
      led_later g.D.Disk c.args.self.now c.loop-page.self c.set_link.new.self c.args.disk.now c.loop-page.disk c.set_link.new.disk c.args.named (IsChainOf c.args.first c.args.len)
          (λ (links more : List Link). IsPassed c.args.bytes.now c.loop-page.index c.loop-page.page c.loop-page.left c.args.len links more) (MayChange c.loop-page.page c.content_at-content.result.now) Nowhere Nowhere c.in_err-next.field-0.0
          c.requires.runs (one.keeps, one.still, over_passed g.D.Disk c.args.self.now c.loop-page.self c.args.disk.now c.args.bytes.now c.loop-page.index c.loop-page.page c.loop-page.left c.args.first c.args.len one.steps)
          (λ links mid starts comes. passed_may links mid c.requires.pages c.content_at-content.ensures starts comes, λ links mid held next starts comes keeps none. none) c.in_err-next.ensures.refused.0,
      c.in_err-next.ensures.refused.1,
    )

pub returns-in_err-next-clause-still : goal.returns-in_err-next-clause-still
returns-in_err-next-clause-still g c = still_then c.loop-page.invariant.still c.set_link.ensures.still

pub loop-page-preserved : goal.loop-page-preserved
loop-page-preserved g c =
    let one = c.loop-page.invariant in
    let low : length c.in_ok-next.had.now ≤ c.loop-page.left = let low = c.if-taken-left.false in omega (arith, low) in
    let some = c.if-left-eq0.false in
    let so_far = one.full c.loop-page-test.true in
    let once = c.set_link.ensures.reads in
    record {
      keeps = keeps_then {r0 = c.args.self.now} {r1 = c.loop-page.self} {r2 = c.set_link.new.self} one.keeps c.in_ok-next.ensures.keeps.0;
      still = still_then one.still c.set_link.ensures.still;
      within = let within = one.within in omega (arith, within);
      full = λ goes_on. let whole = (c.in_ok-next.ensures.full goes_on).0 in omega (arith, so_far, whole, low);
      few = omega (arith, so_far, some);
      reads = let reads = one.reads in omega (arith, reads, once);
      in_place = takes_none_then c.args.self.now c.loop-page.self c.set_link.new.self one.in_place (set_takes_none c.in_ok-next.next c.in_ok-next.ensures.ok.1);
      links = λ goes_on was step.
          let has = c.in_ok-next.ensures.ok.0 was (step_kept {r0 = c.args.self.now} {r1 = c.loop-page.self} one.keeps one.still step) in
          let full = c.in_ok-next.ensures.full goes_on in
          kept_then (one.links c.loop-page-test.true was step)
          (set_keeps_links {r1 = c.loop-page.self} {r2 = c.set_link.new.self} was has c.in_ok-next.ensures.ok.1 c.content_at-content.ensures.some c.content_at-content.ensures.few (full.0 ∙ sym full.1));
      read = λ was step.
          let has = c.in_ok-next.ensures.ok.0 was (step_kept {r0 = c.args.self.now} {r1 = c.loop-page.self} one.keeps one.still step) in
          let stood = one.links c.loop-page-test.true was step c.loop-page.page c.in_ok-next.next c.in_ok-next.had.now has in
          let so_far_is = one.read was step in
          let counted = so_far_is.1 in
          let long = length-append so_far_is.0 stood.0 in
          let same = stood.2 in
          let under = c.in_ok-next.ensures.low in
          let pages = one.in_place.1 in (
            so_far_is.0 ++ stood.0,
            omega (arith, long, counted, same, low),
            read_link (few_pages c.args.self.now.head c.args.self.now.head_range) c.loop-page-test.true so_far_is.2 (omega (arith, under, pages)) stood.1,
          );
      steps = over_steps g.D.Disk c.args.self.now c.loop-page.self c.set_link.new.self c.args.disk.now c.loop-page.disk one.keeps one.still one.steps c.in_ok-next.ensures.ok.0 c.in_ok-next.ensures.ok.1
          c.loop-page-test.true (λ more. (c.in_ok-next.ensures.full more).1) low c.content_at-content.ensures;
    }

pub returns-then-taken-left-clause-refused : goal.returns-then-taken-left-clause-refused
returns-then-taken-left-clause-refused g c =
    let one = c.loop-page.invariant in
    let keeps = keeps_then {r0 = c.args.self.now} {r1 = c.loop-page.self} {r2 = c.set_link.new.self} one.keeps c.in_ok-next.ensures.keeps.0 in
    let past : c.loop-page.left < length c.in_ok-next.had.now = let more = c.if-taken-left.true in omega (arith, more) in
    given_damaged g.D.Disk c.args.self.now c.damaged-then-taken-left.new.self c.args.disk.now c.set_link.new.disk c.args.named (IsChainOf c.args.first c.args.len)
    c.damaged-then-taken-left.result c.damaged-then-taken-left.ensures.result (ended_behind {r0 = c.args.self.now} {r1 = c.set_link.new.self} {r2 = c.damaged-then-taken-left.new.self} c.requires.runs keeps c.damaged-then-taken-left.ensures.ended)
    (λ was links held step holds starts.
    let mid = one.steps was links held step holds starts.begins in
    over_past links mid.more (mid.comes).passed starts mid.holds (few_pages c.loop-page.self.head c.loop-page.self.head_range) c.loop-page-test.true
    (c.in_ok-next.ensures.ok.0 was (step_kept {r0 = c.args.self.now} {r1 = c.loop-page.self} one.keeps one.still step)) past)

pub returns-then-taken-left-clause-still : goal.returns-then-taken-left-clause-still
returns-then-taken-left-clause-still g c = still_then c.loop-page.invariant.still c.set_link.ensures.still

pub returns-then-left-ne0-clause-refused : goal.returns-then-left-ne0-clause-refused
returns-then-left-ne0-clause-refused g c =
    let one = c.loop-page.invariant in
    given_damaged g.D.Disk c.args.self.now c.damaged-then-left-ne0.new.self c.args.disk.now c.loop-page.disk c.args.named (IsChainOf c.args.first c.args.len)
    c.damaged-then-left-ne0.result c.damaged-then-left-ne0.ensures.result
    (ended_behind {r0 = c.args.self.now} {r1 = c.loop-page.self} {r2 = c.damaged-then-left-ne0.new.self} c.requires.runs one.keeps c.damaged-then-left-ne0.ensures.ended)
    (λ was links held step holds starts.
    let mid = one.steps was links held step holds starts.begins in
    over_short links mid.more (mid.comes).passed starts mid.holds c.loop-page-test.false c.if-left-ne0.true)

pub returns-clause-ok : goal.returns-clause-ok
returns-clause-ok g c was links held step holds starts =
    let one = c.loop-page.invariant.steps was links held step holds starts in
    record {
      more = one.more;
      next = one.next;
      holds = one.holds;
      catalog = one.catalog;
      keeps = one.keeps;
      comes = over_all links one.more one.holds (chain_count_of holds) starts c.requires.pages c.loop-page-test.false c.if-left-ne0.false one.comes;
    }

pub returns-clause-list : goal.returns-clause-list
returns-clause-list g c was step =
    let read = c.loop-page.invariant.read was step in
    let counted = read.1 in
    let none = c.if-left-ne0.false in (
      read.0,
      omega (arith, counted, none),
      read_whole (subst (λ (p : ℕ). IsReadTo c.args.self.now.head.pages (current c.args.self.now.wal was) c.args.first read.0 p) c.loop-page-test.false read.2),
    )

pub returns-clause-in_place : goal.returns-clause-in_place
returns-clause-in_place g c = c.loop-page.invariant.in_place
