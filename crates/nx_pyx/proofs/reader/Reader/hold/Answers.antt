use Rattle.std.proofs.Common.{refl, ◌∙◌, subst, arith}
use Rattle.nx_pyx.specs.Reader.{MayGrowBy}
use Rattle.nx_pyx.proofs.StreamLemmas.{holds, shows}
use Rattle.nx_pyx.proofs.HasRoomLemmas.{room_less}
use Rattle.nx_pyx.proofs.reader.Reader.hold.Goals as goal

pub returns-then-bytes-self-clause-ok : goal.returns-then-bytes-self-clause-ok
returns-then-bytes-self-clause-ok c =
    holds c.args.self.now _ c.args.bytes.now c.requires refl refl c.in_ok-extend_from_slice.ensures.ok
    (room_less c.args.self.now.held c.args.bytes.now _ c.args.self.now.room _ c.in_ok-extend_from_slice.ensures.ok (omega arith))

pub returns-in-Ok-clause-ok : goal.returns-in-Ok-clause-ok
returns-in-Ok-clause-ok c =
    holds c.args.self.now _ c.args.bytes.now c.requires refl refl c.in_ok-extend_from_slice.ensures.ok
    (λ _. subst (λ held. MayGrowBy held c.in-Ok.room) c.as_slice.ensures c.in-Ok.ensures.ok)

pub returns-in-Err-clause-err : goal.returns-in-Err-clause-err
returns-in-Err-clause-err c =
    shows c.args.self.now c.args.bytes.now c.as_slice.result.now c.in-Err.fault c.next_fault.result c.requires (c.as_slice.ensures ∙ c.in_ok-extend_from_slice.ensures.ok)
    c.in-Err.ensures.fault c.next_fault.ensures
