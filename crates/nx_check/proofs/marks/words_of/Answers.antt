use Rattle.std.proofs.Common.{◌≡◌, ℕ, refl, ◌∙◌, subst}
use Rattle.nx_check.proofs.MarkLemmas.{MarksPage, AddsPage, mark_slotted, marked_here}
use Rattle.nx_check.specs.declared.uses.PageUse.TheVariants.{Slotted}
use Rattle.nx_slots.specs.Slots.{count_of}
use Rattle.std.proofs.lemmas.Bool.{eq-eqb}
use Rattle.nx_check.specs.Uses.{use_of}
use Rattle.nx_check.proofs.marks.words_of.Goals as goal

pub returns : goal.returns
returns c = λ pages free used reached marked there some.
    let first : ℕ = c.in_ok-first.first in
    let bytes = c.args.bytes.now.bytes in
    let adds : AddsPage c.args.left.now c.add_page.new.self bytes first = record {
      first_is = c.in_ok-first.ensures.first.0;
      long = c.in_ok-first.ensures.first.1;
      stay = c.in_ok-first.ensures.stay;
      here = c.in_ok-first.ensures.here;
    } in
    let none : (f n : ℕ) → use_of c.args.uses.now c.args.page ≡ Slotted n f → ⊥ = λ f n is. c.in_default.not-Slotted n f (c.page_use.ensures ∙ is) in
    let now : MarksPage c.args.uses.now c.set_use.new.self c.args.page (Slotted (count_of bytes) first) = subst (λ (n : ℕ). MarksPage c.args.uses.now c.set_use.new.self c.args.page (Slotted n first)) c.slot_count-count.ensures c.in_ok-set_use.ensures in (
      mark_slotted c.args.uses.now c.set_use.new.self c.args.left.now c.add_page.new.self pages free used reached c.args.page first bytes marked (record { there = there; slotted = c.requires }) some none adds now,
      (count_of bytes, marked_here c.args.uses.now c.set_use.new.self c.args.page (Slotted (count_of bytes) first) now c.args.page (eq-eqb c.args.page c.args.page refl)),
    )
