use Rattle.std.proofs.Common.{◌≡◌, ◌∙◌, ◌-◌, ◌<◌, ◌≤◌, List, [], ◌++◌, ℕ, length, refl, sym, ap, subst, arith, length-append}
use Rattle.std.proofs.lemmas.Result.{err_from_is_err_and}
use Rattle.nx_host.proofs.DiskLemmas.{none_still, still_then}
use Rattle.nx_holdings.specs.Holdings.{Link, next_of, content_of}
use Rattle.nx_wal.specs.Wal.{current}
use Rattle.nx_links.specs.Lists.{IsReadTo}
use Rattle.nx_links.proofs.ListLemmas.{read_none, read_whole}
use Rattle.nx_links.proofs.BesideLemmas.{chain_from, no_first}
use Rattle.nx_records.specs.declared.error.StoreError.{StoreError}
use Rattle.nx_records.specs.Chains.{IsChainLeft, Nowhere, NotGivenBack, link_before}
use Rattle.nx_records.proofs.StandLemmas.{keeps_then, step_kept}
use Rattle.nx_records.proofs.RefusalLemmas.{err_passed, ended_now, keeps_self}
use Rattle.nx_records.proofs.ChainLemmas.{reads_within, no_list_past, read_link, few_pages}
use Rattle.nx_records.proofs.FreedLemmas.{links_then}
use Rattle.nx_records.proofs.WritingLemmas.{steps_none, steps_on, steps_weaker, led_later, left_none, left_ends, left_past, given_damaged, ended_behind}
use Rattle.nx_records.proofs.records.Records.give_chain.Goals as goal

pub loop-page-init : goal.loop-page-init
loop-page-init g c = record {
  keeps = keeps_self c.args.self.now c.args.self.now c.requires refl;
  still = none_still;
  within = omega arith;
  full = λ goes_on. omega arith;
  reads = omega arith;
  fewer = (refl, λ was page next content has. has);
  read = λ was step. ([], omega arith, read_none c.args.self.now.head.pages (current c.args.self.now.wal was) c.args.first);
  steps = steps_none c.args.self.now (λ (links : List Link). next_of links ≡ c.args.first) (λ (links more : List Link). IsChainLeft c.args.first c.args.len c.args.len links more) (λ links starts. record { first = starts; count = omega arith });
}

pub returns-then-not-may_have-clause-refused : goal.returns-then-not-may_have-clause-refused
returns-then-not-may_have-clause-refused g c =
    given_damaged g.D.Disk c.args.self.now c.damaged.new.self c.args.disk.now c.args.disk.now c.args.named (λ (links : List Link). (next_of links ≡ c.args.first) × (length (content_of links) ≡ c.args.len))
    c.damaged.result c.damaged.ensures.result (ended_now {r0 = c.args.self.now} {r1 = c.args.self.now} {r2 = c.damaged.new.self} c.requires refl c.damaged.ensures.ended)
    (λ was links held step holds starts.
    no_list_past c.args.self.now.head c.args.self.now.head_range (next_of links) c.args.len (c.may_have.ensures.no c.if-not-may_have.true) (content_of links) (chain_from holds) starts.1)

pub returns-then-left-eq0-clause-refused : goal.returns-then-left-eq0-clause-refused
returns-then-left-eq0-clause-refused g c =
    let one = c.loop-page.invariant in
    given_damaged g.D.Disk c.args.self.now c.damaged-then-left-eq0.new.self c.args.disk.now c.loop-page.disk c.args.named
    (λ (links : List Link). (next_of links ≡ c.args.first) × (length (content_of links) ≡ c.args.len)) c.damaged-then-left-eq0.result c.damaged-then-left-eq0.ensures.result
    (ended_behind {r0 = c.args.self.now} {r1 = c.loop-page.self} {r2 = c.damaged-then-left-eq0.new.self} c.requires one.keeps c.damaged-then-left-eq0.ensures.ended)
    (λ was links held step holds starts.
    let mid = one.steps was links held step holds starts.0 in
    left_none mid.more mid.holds (λ zero. c.loop-page-test.true (sym (mid.comes).first ∙ zero)) mid.comes c.if-left-eq0.true starts.1)

pub returns-in_err-link-clause-refused : goal.returns-in_err-link-clause-refused
returns-in_err-link-clause-refused g c =
    let one = c.loop-page.invariant in
    err_passed c.from_residual.result (λ (e : StoreError). NotGivenBack g.D.Disk (λ links. (next_of links ≡ c.args.first) × (length (content_of links) ≡ c.args.len)) c.args.named e c.args.self.now c.give_link.new.self c.args.disk.now c.give_link.new.disk)
    c.in_err-link.field-0.0 (err_from_is_err_and c.from_residual.result c.from_residual.ensures.1) (
      led_later g.D.Disk c.args.self.now c.loop-page.self c.give_link.new.self c.args.disk.now c.loop-page.disk c.give_link.new.disk c.args.named (λ (links : List Link). (next_of links ≡ c.args.first) × (length (content_of links) ≡ c.args.len))
          (λ (links more : List Link). IsChainLeft c.loop-page.page c.loop-page.left c.args.len links more) (λ (links : List Link). next_of links ≡ c.loop-page.page) Nowhere Nowhere c.in_err-link.field-0.0
          c.requires (one.keeps, one.still, λ was links held step holds starts. one.steps was links held step holds starts.0)
          (λ links mid starts comes. comes.first, λ links mid held next starts comes keeps none. none) c.in_err-link.ensures.refused.0,
      c.in_err-link.ensures.refused.1,
    )

pub returns-in_err-link-clause-still : goal.returns-in_err-link-clause-still
returns-in_err-link-clause-still g c = still_then c.loop-page.invariant.still c.give_link.ensures.still

pub loop-page-preserved : goal.loop-page-preserved
loop-page-preserved g c =
    let one = c.loop-page.invariant in
    let taken = c.len-taken.ensures in
    let low : length c.in_ok-link.link.content ≤ c.loop-page.left = let low = c.if-taken-left.false in omega (arith, low, taken) in
    let some : 1 ≤ c.loop-page.left = let more = c.if-left-eq0.false in omega (arith, more) in
    let so_far = one.full c.loop-page-test.true in
    let once = c.give_link.ensures.reads in
    record {
      keeps = keeps_then {r0 = c.args.self.now} {r1 = c.loop-page.self} {r2 = c.give_link.new.self} one.keeps c.in_ok-link.ensures.keeps.0;
      still = still_then one.still c.give_link.ensures.still;
      within = let within = one.within in omega (arith, within);
      full = λ goes_on. let whole = c.in_ok-link.ensures.full goes_on in omega (arith, so_far, once, whole, taken, low);
      reads = reads_within _ _ (c.args.len - c.loop-page.left) c.args.len (let within = one.within in omega (arith, so_far, within)) (let within = one.within in omega (arith, within, some)) _ once;
      fewer = (c.in_ok-link.ensures.fewer.0 ∙ one.fewer.0, λ was. links_then (one.fewer.1 was) (c.in_ok-link.ensures.fewer.1 was));
      read = λ was step.
          let so_far = one.read was step in
          let here = c.in_ok-link.ensures.link in
          let counted = so_far.1 in
          let long = length-append so_far.0 c.in_ok-link.link.content in
          let under = here.0 in
          let pages = one.fewer.0 in (
            so_far.0 ++ c.in_ok-link.link.content,
            omega (arith, long, counted, taken, low),
            read_link (few_pages c.args.self.now.head c.args.self.now.head_range) c.loop-page-test.true so_far.2 (omega (arith, under, pages))
                (one.fewer.1 was c.loop-page.page c.in_ok-link.link.next c.in_ok-link.link.content (here.1 was (step_kept {r0 = c.args.self.now} {r1 = c.loop-page.self} one.keeps one.still step))),
          );
      steps = steps_on g.D.Disk c.args.self.now c.loop-page.self c.give_link.new.self c.args.disk.now c.loop-page.disk (λ (links : List Link). next_of links ≡ c.args.first)
          (λ (links more : List Link). IsChainLeft c.loop-page.page c.loop-page.left c.args.len links more) (λ (links : List Link). next_of links ≡ c.loop-page.page)
          (λ (links more : List Link). (links ≡ link_before c.loop-page.page c.in_ok-link.link.content more) × (next_of more ≡ c.in_ok-link.link.next))
          (λ (links more : List Link). IsChainLeft c.in_ok-link.link.next (c.loop-page.left - c.len-taken.result) c.args.len links more)
          one.keeps one.still one.steps c.in_ok-link.ensures.ok (λ links mid comes. comes.first)
          (λ links mid more comes goes.
          subst (λ (n : ℕ). IsChainLeft c.in_ok-link.link.next (c.loop-page.left - n) c.args.len links more) (sym taken)
          (left_ends c.in_ok-link.link.next c.in_ok-link.link.content more low comes goes));
    }

pub returns-then-taken-left-clause-refused : goal.returns-then-taken-left-clause-refused
returns-then-taken-left-clause-refused g c =
    let one = c.loop-page.invariant in
    let keeps = keeps_then {r0 = c.args.self.now} {r1 = c.loop-page.self} {r2 = c.give_link.new.self} one.keeps c.in_ok-link.ensures.keeps.0 in
    let past : c.loop-page.left < length c.in_ok-link.link.content = let more = c.if-taken-left.true in let taken = c.len-taken.ensures in omega (arith, more, taken) in
    given_damaged g.D.Disk c.args.self.now c.damaged-then-taken-left.new.self c.args.disk.now c.give_link.new.disk c.args.named (λ (links : List Link). (next_of links ≡ c.args.first) × (length (content_of links) ≡ c.args.len))
    c.damaged-then-taken-left.result c.damaged-then-taken-left.ensures.result (ended_behind {r0 = c.args.self.now} {r1 = c.give_link.new.self} {r2 = c.damaged-then-taken-left.new.self} c.requires keeps c.damaged-then-taken-left.ensures.ended)
    (λ was links held step holds starts.
    let mid = one.steps was links held step holds starts.0 in
    let more = c.in_ok-link.ensures.ok was mid.more mid.next (step_kept {r0 = c.args.self.now} {r1 = c.loop-page.self} one.keeps one.still step) mid.holds (mid.comes).first in
    left_past c.in_ok-link.link.next c.in_ok-link.link.content more.more past mid.comes more.comes starts.1)

pub returns-then-taken-left-clause-still : goal.returns-then-taken-left-clause-still
returns-then-taken-left-clause-still g c = still_then c.loop-page.invariant.still c.give_link.ensures.still

pub returns-then-left-ne0-clause-refused : goal.returns-then-left-ne0-clause-refused
returns-then-left-ne0-clause-refused g c =
    let one = c.loop-page.invariant in
    given_damaged g.D.Disk c.args.self.now c.damaged-then-left-ne0.new.self c.args.disk.now c.loop-page.disk c.args.named
    (λ (links : List Link). (next_of links ≡ c.args.first) × (length (content_of links) ≡ c.args.len)) c.damaged-then-left-ne0.result c.damaged-then-left-ne0.ensures.result
    (ended_behind {r0 = c.args.self.now} {r1 = c.loop-page.self} {r2 = c.damaged-then-left-ne0.new.self} c.requires one.keeps c.damaged-then-left-ne0.ensures.ended)
    (λ was links held step holds starts.
    let mid = one.steps was links held step holds starts.0 in
    let none = ap (λ (ls : List Link). length (content_of ls)) (no_first mid.more mid.holds ((mid.comes).first ∙ c.loop-page-test.false)) in
    let count = (mid.comes).count in
    let long = starts.1 in
    c.if-left-ne0.true (omega (arith, none, count, long)))

pub returns-clause-ok : goal.returns-clause-ok
returns-clause-ok g c =
    steps_weaker c.args.self.now c.loop-page.self (λ (links : List Link). next_of links ≡ c.args.first) (λ (links more : List Link). IsChainLeft c.loop-page.page c.loop-page.left c.args.len links more)
    (λ (links more : List Link). (more ≡ []) × (length (content_of links) ≡ c.args.len)) c.loop-page.invariant.steps
    (λ pages next links more holds starts comes.
    let none = no_first more holds (comes.first ∙ c.loop-page-test.false) in
    let empty = ap (λ (ls : List Link). length (content_of ls)) none in
    let count = comes.count in
    let left = c.if-left-ne0.false in
    (none, omega (arith, empty, count, left)))

pub returns-clause-list : goal.returns-clause-list
returns-clause-list g c was step =
    let read = c.loop-page.invariant.read was step in
    let counted = read.1 in
    let none = c.if-left-ne0.false in (
      read.0,
      omega (arith, counted, none),
      read_whole (subst (λ (p : ℕ). IsReadTo c.args.self.now.head.pages (current c.args.self.now.wal was) c.args.first read.0 p) c.loop-page-test.false read.2),
    )
