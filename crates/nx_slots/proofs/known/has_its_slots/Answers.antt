use Rattle.std.proofs.Common.{◌≡◌, ◌+◌, ◌*◌, ℕ, take, subst}
use Rattle.nx_slots.proofs.KnownLemmas.{same_slots}
use Rattle.nx_slots.proofs.known.has_its_slots.Goals as goal

-- src/known.rt:26:1
pub returns : goal.returns
returns c = λ is. same_slots c.args.known.now c.args.page.now c.requires.slotted c.requires.long
    (subst (λ (n : ℕ). take (8 + 4 * n) c.args.known.now ≡ take (8 + 4 * n) c.args.page.now) c.count_at.ensures (c.are_same.ensures is))
