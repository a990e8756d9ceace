use Rattle.std.proofs.Common.{ℕ, Bool, List, ap, ◌∙◌, subst}
use Rattle.nx_slots.specs.Slots.{IsSlotted}
use Rattle.nx_replay.specs.Log.{replay}
use Rattle.nx_wal.specs.Reading.{page_found}
use Rattle.nx_check.proofs.HeadLemmas.{is_there}
use Rattle.nx_check.proofs.listing.is_slotted_at.Goals as goal

pub returns-clause-yes : goal.returns-clause-yes
returns-clause-yes g c = λ was on yes.
    let bytes : List ℕ = c.load.new.walk.page.bytes in
    let there = (c.in_ok-load.ensures.ok was on).1 ∙ ap (λ (b : Bool). page_found b bytes) c.if-not-branch.false in
    (bytes, record { there = there; slotted = c.is_page.ensures.yes yes })

pub returns-clause-no : goal.returns-clause-no
returns-clause-no g c = λ was on no bytes slotted.
    let mine : List ℕ = c.load.new.walk.page.bytes in
    let there = (c.in_ok-load.ensures.ok was on).1 ∙ ap (λ (b : Bool). page_found b mine) c.if-not-branch.false in
    c.is_page.ensures.no no (subst (λ (b : List ℕ). IsSlotted b) (is_there (replay was) c.args.page mine bytes there slotted) slotted.slotted)
