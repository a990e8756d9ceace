use Rattle.std.proofs.Common.{◌≡◌, refl, ap, subst, ◌∙◌}
use Rattle.std.specs.Prelude.{Option, Some, IfSome}
use Rattle.nx_replay.specs.Log.{entry_pages}
use Rattle.nx_wal.specs.Wal.{pending}
use Rattle.nx_holdings.specs.declared.header.Header.{Header}
use Rattle.nx_holdings.specs.Header.{header_bytes}
use Rattle.nx_records.proofs.StandLemmas.{current_same, keeps_under, on_ok_then, some_pending}
use Rattle.nx_records.proofs.records.Records.store_header.Goals as goal

pub returns-then-is_header-clause-ok : goal.returns-then-is_header-clause-ok
returns-then-is_header-clause-ok c =
    let head = c.begin.new.header in
    let waits : entry_pages (pending c.args.self.now.wal) 0 ≡ Some (header_bytes head) =
    subst (λ (o : Option Header). IfSome o (λ h. entry_pages (pending c.args.self.now.wal) 0 ≡ Some (header_bytes h))) (c.is_header.ensures c.if-is_header.true) c.args.self.now.header_waits in (
      c.begin.ensures,
      some_pending c.args.self.now.wal 0 (header_bytes head) waits,
      current_same c.args.self.now.wal 0 (header_bytes head) waits,
    )

pub returns-clause-keeps : goal.returns-clause-keeps
returns-clause-keeps c = keeps_under {q0 = c.args.self.now} c.put_header.ensures.keeps refl refl refl refl refl
    (c.put_header.ensures.keeps.settings_stay ∙ ap (λ (h : Header). h.settings) c.begin.ensures) c.put_header.ensures.keeps.known

pub returns-clause-ok : goal.returns-clause-ok
returns-clause-ok c = on_ok_then c.put_header.result c.put_header.ensures.ok (λ ok.
    (ok.0 ∙ c.begin.ensures, ok.1, ok.2))

pub returns-clause-beside : goal.returns-clause-beside
returns-clause-beside c = on_ok_then c.put_header.result c.put_header.ensures.beside (λ beside. beside)
