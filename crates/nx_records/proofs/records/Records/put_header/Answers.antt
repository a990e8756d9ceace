use Rattle.std.proofs.Common.{◌≡◌, List, ℕ, refl, ap, sym, ◌∙◌}
use Rattle.std.specs.Prelude.{Some}
use Rattle.nx_wal.specs.Wal.{current}
use Rattle.nx_holdings.specs.declared.header.Header.{Header}
use Rattle.nx_holdings.specs.Holdings.{with_page}
use Rattle.nx_holdings.specs.Header.{header_bytes}
use Rattle.nx_holdings.proofs.TimesLemmas.{with_page-other}
use Rattle.nx_records.specs.Records.{waiting}
use Rattle.nx_records.proofs.StandLemmas.{keeps_under, numbered_already}
use Rattle.nx_records.proofs.records.Records.put_header.Goals as goal

-- the header has the number already
head_stays : (c : goal.After-self-1) → c.store.new.self.head ≡ c.args.self.now.head
head_stays c = c.in_ok-store.ensures.ok.0 ∙ numbered_already c.args.self.now.saved c.args.self.now.head c.requires.next

pub invariant_of-self-clause-header_waits : goal.invariant_of-self-clause-header_waits
invariant_of-self-clause-header_waits c =
    c.in_ok-store.ensures.waits ∙ ap (λ (b : List ℕ). Some b) c.header_page-page.ensures ∙ ap (λ (h : Header). Some (header_bytes h)) (sym (head_stays c))

pub returns-clause-keeps : goal.returns-clause-keeps
returns-clause-keeps c = keeps_under c.store.ensures.keeps refl refl refl refl refl c.store.ensures.keeps.settings_stay c.store.ensures.keeps.known

pub returns-clause-ok : goal.returns-clause-ok
returns-clause-ok c =
    let ok = c.in_ok-store.ensures.ok in
    let same : c.store.new.self.head ≡ c.args.self.now.head = ok.0 ∙ numbered_already c.args.self.now.saved c.args.self.now.head c.requires.next in
    (same, ok.1, λ was. ok.2 was ∙ ap (λ (b : List ℕ). with_page (current c.args.self.now.wal was) 0 b) (c.header_page-page.ensures ∙ ap header_bytes (sym same)))

pub returns-clause-beside : goal.returns-clause-beside
returns-clause-beside c p other = c.in_ok-store.ensures.puts.waits p ∙ with_page-other (waiting c.args.self.now) 0 c.header_page-page.result.bytes p other
