use Rattle.std.proofs.Common.{ℕ, ◌+◌, sym, ap, arith, ◌∙◌}
use Rattle.std.specs.Prelude.{◌==◌, if◌then◌else◌}
use Rattle.std.proofs.lemmas.Bool.{leb-true, le-leb}
use Rattle.nx_slots.specs.Slots.{slots_of}
use Rattle.nx_slots.proofs.ReadLemmas.{length-slots_of}
use Rattle.nx_slots.proofs.ChangeLemmas.{needed_is}
use Rattle.nx_slots.proofs.room.Room.takes.Goals as goal

pub returns : goal.returns
returns c page bytes has long =
    let needed = needed_is (slots_of page) bytes c.args.self.now.slot c.args.self.now.count c.needed_at.result
    (c.needed_at.ensures ∙ ap (λ (n : ℕ). if c.args.self.now.slot == c.args.self.now.count then n + 4 else n) (sym long)) has.slot (has.count ∙ sym (length-slots_of page)) in
    let free = has.free in
    (λ yes. let low = leb-true c.needed_at.result c.args.self.now.free yes in omega arith, λ fits. le-leb c.needed_at.result c.args.self.now.free (omega arith))
