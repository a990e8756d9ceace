use Rattle.std.proofs.Common.{refl}
use Rattle.nx_slots.proofs.CoverLemmas.{cover_none}
use Rattle.nx_slots.proofs.form.has_slots.Goals as goal

pub are_slots-requires-clause-covers : goal.are_slots-requires-clause-covers
are_slots-requires-clause-covers c = cover_none c.args.page.now _ 8192 refl refl
