use Rattle.std.proofs.Common.{◌≡◌, ◌<◌, ◌≤◌, ◌∙◌, ℕ, Bool, refl, ap, arith}
use Rattle.std.specs.Prelude.{None}
use Rattle.nx_wal.specs.Reading.{page_found}
use Rattle.nx_records.proofs.RefusalLemmas.{ended_now, found_damaged}
use Rattle.nx_records.proofs.records.Records.load_used.Goals as goal

past : (page count : ℕ) → count ≤ page → page < count → ⊥
past page count high low = omega arith

pub returns-then-page-self-clause-refused : goal.returns-then-page-self-clause-refused
returns-then-page-self-clause-refused g c =
    found_damaged g.D.Disk c.args.self.now c.damaged.new.self c.args.disk.now c.args.disk.now c.args.named (λ pages. c.args.page < c.args.self.now.head.pages → pages c.args.page ≡ None) c.damaged.result
    c.damaged.ensures.result (ended_now {r0 = c.args.self.now} {r1 = c.args.self.now} {r2 = c.damaged.new.self} c.requires refl c.damaged.ensures.ended)
    (λ was step low. absurd (past c.args.page c.args.self.now.head.pages c.if-page-self.true low))

pub returns-then-not-branch-clause-refused : goal.returns-then-not-branch-clause-refused
returns-then-not-branch-clause-refused g c =
    found_damaged g.D.Disk c.args.self.now c.damaged-then-not-branch.new.self c.args.disk.now c.load.new.disk c.args.named (λ pages. c.args.page < c.args.self.now.head.pages → pages c.args.page ≡ None)
    c.damaged-then-not-branch.result c.damaged-then-not-branch.ensures.result
    (ended_now {r0 = c.args.self.now} {r1 = c.load.new.self} {r2 = c.damaged-then-not-branch.new.self} c.requires c.in_ok-load.ensures.ok.0 c.damaged-then-not-branch.ensures.ended)
    (λ was step low. c.in_ok-load.ensures.ok.1 was step ∙ ap (λ (found : Bool). page_found found c.load.new.into.bytes) c.if-not-branch.true)
