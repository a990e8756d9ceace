use Rattle.std.proofs.Common.{◌≡◌, ap, length, refl, arith}
use Rattle.nx_host.proofs.InputLemmas.{fills, buffer_is}
use Rattle.nx_host.proofs.input.Input.fill.Goals as goal

pub returns-clause-ok : goal.returns-clause-ok
returns-clause-ok g c =
    let s = c.args.self.now in
    fills {old = s}
    (buffer_is s.buffer.len s.buffer.items c.take_block.new.buffer
    (let a : s.buffer.len ≡ length s.buffer.items = s.buffer.ok.0 in
    let b : length c.take_block.new.buffer ≡ length c.deref_mut.result.now = c.take_block.auto.buffer in
    let d : length c.deref_mut.result.now ≡ length s.buffer.items = ap length c.deref_mut.ensures.value in
    omega arith))
    refl refl c.in-Ok.ensures.within c.in-Ok.ensures.taken
