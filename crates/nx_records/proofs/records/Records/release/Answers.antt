use Rattle.std.proofs.Common.{List, ℕ, refl, ap, ◌∙◌, arith}
use Rattle.nx_wal.specs.Wal.{current}
use Rattle.nx_holdings.specs.Holdings.{with_page}
use Rattle.nx_records.specs.Records.{next_number}
use Rattle.nx_records.proofs.StandLemmas.{keeps_under, range_moved, released_room, released_other}
use Rattle.nx_records.proofs.records.Records.release.Goals as goal

pub invariant_of-self : goal.invariant_of-self
invariant_of-self c =
    let low = c.requires.low in record {
      saved_range = c.store.new.self.saved_range;
      head_range = range_moved c.args.page 0 c.store.new.self.head_range (omega (arith, low)) (omega arith);
      numbered = c.store.new.self.numbered;
      header_waits = c.store.new.self.header_waits;
      runs = c.store.new.self.runs;
    }

pub invariant_of-self-else-self-page : goal.invariant_of-self-else-self-page
invariant_of-self-else-self-page c =
    let low = c.requires.low in record {
      saved_range = c.store.new.self.saved_range;
      head_range = range_moved c.args.page c.store.new.self.head.room c.store.new.self.head_range (omega (arith, low)) c.store.new.self.head_range.pointers.1;
      numbered = c.store.new.self.numbered;
      header_waits = c.store.new.self.header_waits;
      runs = c.store.new.self.runs;
    }

pub returns-then-self-page-clause-keeps : goal.returns-then-self-page-clause-keeps
returns-then-self-page-clause-keeps c = keeps_under c.store.ensures.keeps refl refl refl refl refl c.store.ensures.keeps.settings_stay c.store.ensures.keeps.known

pub returns-else-self-page-clause-keeps : goal.returns-else-self-page-clause-keeps
returns-else-self-page-clause-keeps c = keeps_under c.store.ensures.keeps refl refl refl refl refl c.store.ensures.keeps.settings_stay c.store.ensures.keeps.known

pub returns-then-self-page-clause-ok : goal.returns-then-self-page-clause-ok
returns-then-self-page-clause-ok c =
    let ok = c.in_ok-store.ensures.ok in (
      released_room c.args.self.now.head (next_number c.args.self.now) c.args.page ok.0 c.if-self-page.true,
      ok.1,
      λ was. ok.2 was ∙ ap (λ (b : List ℕ). with_page (current c.args.self.now.wal was) c.args.page b) c.free_page-free.ensures,
    )

pub returns-else-self-page-clause-ok : goal.returns-else-self-page-clause-ok
returns-else-self-page-clause-ok c =
    let ok = c.in_ok-store.ensures.ok in (
      released_other c.args.self.now.head (next_number c.args.self.now) c.args.page ok.0 c.if-self-page.false,
      ok.1,
      λ was. ok.2 was ∙ ap (λ (b : List ℕ). with_page (current c.args.self.now.wal was) c.args.page b) c.free_page-free.ensures,
    )
