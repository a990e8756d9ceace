use Rattle.std.proofs.Common.{[], ◌∷◌, refl}
use Rattle.nx_chain.proofs.Chain.{head_alone}
use Rattle.nx_chain.proofs.chain_head.Goals as goal

pub returns : goal.returns
returns c = head_alone (2 ∷ 0 ∷ 0 ∷ 0 ∷ 0 ∷ 0 ∷ 0 ∷ 0 ∷ []) c.set_u16_at.new.bytes c.set_u32_at.new.bytes c.args.len c.args.next refl refl c.set_u16_at.ensures c.set_u32_at.ensures
