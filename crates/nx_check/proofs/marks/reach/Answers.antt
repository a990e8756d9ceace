use Rattle.std.proofs.Common.{◌≡◌, ℕ, List, Some, sym, ◌∙◌, subst}
use Rattle.std.specs.Prelude.{false}
use Rattle.std.proofs.lemmas.Bool.{false≢true}
use Rattle.nx_holdings.specs.Holdings.{record_in}
use Rattle.nx_holdings.proofs.ChainLemmas.{same_bytes}
use Rattle.nx_check.specs.Marks.{is_reached}
use Rattle.nx_check.proofs.MarkLemmas.{left_new, mark_reached, reached_contains, contains_reached, not_true, not_false, there_some}
use Rattle.nx_check.proofs.marks.reach.Goals as goal

pub returns-clause-new : goal.returns-clause-new
returns-clause-new c = λ is_new pages free used reached own marked there found.
    let bytes : List ℕ = c.args.bytes.now.bytes in
    let same = same_bytes found.page bytes (pages c.args.page) found.slotted.there there in
    let here : record_in (Some bytes) c.args.slot ≡ Some own = subst (λ (b : List ℕ). record_in (Some b) c.args.slot ≡ Some own) same found.there in
    let begun = c.in_ok-first.ensures pages free used reached marked there (there_some bytes own c.args.slot c.requires here) in
    let known = left_new c.words_of.new.uses c.words_of.new.left pages free used reached c.args.page c.args.slot c.in_ok-first.first begun.1.0 bytes own begun.0 begun.1.1 there here in
    let none : is_reached c.args.page c.args.slot reached ≡ false = not_true (is_reached c.args.page c.args.slot reached) (sym known.1 ∙ sym c.take.ensures.was ∙ is_new) in (
      λ among. false≢true (sym none ∙ contains_reached c.args.page c.args.slot reached among),
      mark_reached c.words_of.new.uses c.words_of.new.left c.take.new.self pages free used reached c.args.page c.args.slot c.in_ok-first.first begun.1.0 begun.0 begun.1.1 known.0 c.take.ensures.length c.take.ensures.now,
    )

pub returns-clause-again : goal.returns-clause-again
returns-clause-again c = λ is_old pages free used reached own marked there found.
    let bytes : List ℕ = c.args.bytes.now.bytes in
    let same = same_bytes found.page bytes (pages c.args.page) found.slotted.there there in
    let here : record_in (Some bytes) c.args.slot ≡ Some own = subst (λ (b : List ℕ). record_in (Some b) c.args.slot ≡ Some own) same found.there in
    let begun = c.in_ok-first.ensures pages free used reached marked there (there_some bytes own c.args.slot c.requires here) in
    let known = left_new c.words_of.new.uses c.words_of.new.left pages free used reached c.args.page c.args.slot c.in_ok-first.first begun.1.0 bytes own begun.0 begun.1.1 there here in
    reached_contains c.args.page c.args.slot reached (not_false (is_reached c.args.page c.args.slot reached) (sym known.1 ∙ sym c.take.ensures.was ∙ is_old))
