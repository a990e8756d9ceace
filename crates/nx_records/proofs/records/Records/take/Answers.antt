use Rattle.std.proofs.Common.{◌∙◌, inl, refl, ap, Bool, ℕ}
use Rattle.std.specs.Prelude.{Some}
use Rattle.nx_wal.specs.Reading.{page_found}
use Rattle.nx_holdings.specs.declared.header.Header.{Header}
use Rattle.nx_records.specs.declared.records.Records.{Records}
use Rattle.nx_records.proofs.RoomLemmas.{first_is_free}
use Rattle.nx_records.proofs.records.Records.take.Goals as goal

abbrev with_free : ℕ → Header → Header
with_free next h = record h { free = next }

pub returns-clause-ok : goal.returns-clause-ok
returns-clause-ok g c = λ was step.
    inl (record {
      some = c.if-page-eq0.false;
      here = refl;
      low = c.if-page-self.false;
      next = c.in-Some.next;
      free = record {
        there = c.in_ok-load.ensures.ok.1 was step ∙ ap (λ (found : Bool). page_found found c.load.new.into.bytes) c.if-not-branch.false ∙ ap Some c.in-Some.ensures.are;
        low = c.in-Some.ensures.low;
      };
      head = ap (λ (r : Records). with_free c.in-Some.next r.head) c.in_ok-load.ensures.ok.0;
    })

pub returns-clause-free : goal.returns-clause-free
returns-clause-free g c = first_is_free c.args.self.now.head c.if-page-eq0.false
