use Rattle.std.proofs.Common.{arith, refl, sym, ◌∙◌, ap, subst}
use Rattle.nx_piece.specs.Valid.{AreFar}
use Rattle.nx_piece.specs.Gapped.{gapped_width, gapped_size}
use Rattle.nx_piece.proofs.BodyLemmas.{bad_roots, bad_items, bad_sums, body_read}
use Rattle.nx_piece.proofs.PushLemmas.{all_pushed}
use Rattle.nx_piece.proofs.reading.read_body.Goals as goal

pub returns-then-room-behind : goal.returns-then-room-behind
returns-then-room-behind c = bad_items c.in-Some.ensures (let more = c.if-room-behind.true in omega arith)

pub returns-in_default-read_items : goal.returns-in_default-read_items
returns-in_default-read_items c = bad_roots c.in-Some.ensures c.in_default-read_items.ensures.items

pub returns-then-left-ne0 : goal.returns-then-left-ne0
returns-then-left-ne0 c =
    let read = c.in-Some-read_items.ensures.items in
    bad_sums c.in-Some.ensures (read.2, read.3 refl, read.4) c.if-proxies-gt524288.false (λ z. let a = z.0 in omega arith)

pub returns-then-left-ne0-2 : goal.returns-then-left-ne0-2
returns-then-left-ne0-2 c =
    let read = c.in-Some-read_items.ensures.items in
    bad_sums c.in-Some.ensures (read.2, read.3 refl, read.4) c.if-proxies-gt524288.false (λ z. let a = z.1 in omega arith)

pub new-body-requires-clause-roots : goal.new-body-requires-clause-roots
new-body-requires-clause-roots c =
    let read = c.in-Some-read_items.ensures.items in
    let wide = read.4 in let same = ap gapped_width (all_pushed c.in_ok-flat.ensures.items read.1) in omega arith

pub new-body-requires-clause-size : goal.new-body-requires-clause-size
new-body-requires-clause-size c =
    let read = c.in-Some-read_items.ensures.items in
    let small = read.2.room in let same = ap gapped_size (all_pushed c.in_ok-flat.ensures.items read.1) in omega arith

pub new-body-requires-clause-far : goal.new-body-requires-clause-far
new-body-requires-clause-far c =
    let read = c.in-Some-read_items.ensures.items in
    subst AreFar (sym (all_pushed c.in_ok-flat.ensures.items read.1)) read.2.far

pub returns : goal.returns
returns c =
    let read = c.in-Some-read_items.ensures.items in
    rw (c.new-body.ensures ∙ all_pushed c.in_ok-flat.ensures.items read.1)
    (body_read
    c.in-Some.ensures (read.2, read.3 refl, read.4) (omega arith) c.if-roots-gt256.false c.if-proxies-gt524288.false (omega arith) (omega arith) refl)
