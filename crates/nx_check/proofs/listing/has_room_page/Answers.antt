use Rattle.std.proofs.lemmas.Result.{IfOk-weaker}
use Rattle.nx_check.proofs.listing.has_room_page.Goals as goal

pub returns-clause-yes : goal.returns-clause-yes
returns-clause-yes g c = IfOk-weaker c.is_slotted_at.result _ _ (λ found h. λ was on yes some. h was on yes) c.is_slotted_at.ensures.yes

pub returns-clause-no : goal.returns-clause-no
returns-clause-no g c = IfOk-weaker c.is_slotted_at.result _ _ (λ found h. λ was on no. (c.if-room-eq0.false, h was on no)) c.is_slotted_at.ensures.no
