use Rattle.std.proofs.Common.{◌<◌, ℕ, List, sym, subst}
use Rattle.nx_slots.specs.Slots.{count_of}
use Rattle.nx_slots.proofs.packing.change.Goals as goal

pub pack-requires-clause-there : goal.pack-requires-clause-there
pack-requires-clause-there c i low other = subst (λ (page : List ℕ). i < count_of page) (sym c.copy_from_slice.ensures.after) (c.requires.there i low other)
