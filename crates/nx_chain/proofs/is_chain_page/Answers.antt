use Rattle.std.proofs.Common.{◌≡◌, ◌+◌, ◌≤◌, ℕ, List, inl, inr, sym, ap, subst, ◌∙◌, arith, length, take}
use Rattle.std.proofs.Math.ListN.{replicate}
use Rattle.std.proofs.lemmas.Slice.Eq.{slice_eq-Decides}
use Rattle.std.proofs.lemmas.Bool.Decides.{Decides-eqb, not_from_Decides}
use Rattle.nx_numbers.specs.Numbers.{number_at}
use Rattle.nx_chain.specs.Chain.{chain_head}
use Rattle.nx_chain.proofs.Chain.{has_head, has_zeros, is_made, says_length, tail_is}
use Rattle.nx_chain.proofs.is_chain_page.Goals as goal

pub returns-then-len-lt1-clause-no : goal.returns-then-len-lt1-clause-no
returns-then-len-lt1-clause-no c false_is next content is =
    let len : c.args.len ≡ length content = c.requires ∙ says_length c.args.bytes.now.bytes next content is in
    let some = is.some in
    let few = is.few in
    elim c.then-len-lt1.either [ inl low ↦ omega arith | inr high ↦ let above = high.1 in omega arith ]

pub returns-then-eq-clause-yes : goal.returns-then-eq-clause-yes
returns-then-eq-clause-yes c zero =
    let bytes = c.args.bytes.now.bytes in
    let len = c.args.len in
    let long : length bytes ≡ 8192 = omega arith in
    let few : len ≤ 8184 = omega (arith, c.if-len-gt-PAGE_ROOM.false) in
    let low = c.u32_at.type_inv in
    let next = c.u32_at.ensures in
    let some : 1 ≤ len = omega (arith, c.if-len-lt1.false) in
    let head : take 8 bytes ≡ chain_head (number_at 4 bytes 4) len =
    (slice_eq-Decides Decides-eqb (take 8 bytes) c.chain_head-head.result c.eq.result c.eq.ensures).0 c.if-eq.true ∙ c.chain_head-head.ensures ∙ ap (λ (n : ℕ). chain_head n len) c.u32_at.ensures in
    let made = is_made bytes len (number_at 4 bytes 4) long few head (subst (λ (r : List ℕ). r ≡ replicate (length r) 0) (tail_is bytes (8 + len) long) (c.are_zero.ensures.yes zero)) in
    let size = made.0 in
    record { are = made.1; low = omega (arith, low, next); some = omega (arith, size, some); few = omega (arith, size, few) }

pub returns-then-eq-clause-no : goal.returns-then-eq-clause-no
returns-then-eq-clause-no c not_zero next content is =
    let bytes = c.args.bytes.now.bytes in
    let len = c.args.len in
    let long : length bytes ≡ 8192 = omega arith in
    c.are_zero.ensures.no not_zero (subst (λ (r : List ℕ). r ≡ replicate (length r) 0) (sym (tail_is bytes (8 + len) long)) (has_zeros bytes len next content is c.requires))

pub returns-else-eq-clause-no : goal.returns-else-eq-clause-no
returns-else-eq-clause-no c unequal next content is =
    let bytes = c.args.bytes.now.bytes in
    let len = c.args.len in
    not_from_Decides c.eq.result (slice_eq-Decides Decides-eqb (take 8 bytes) c.chain_head-head.result c.eq.result c.eq.ensures) unequal
    (has_head bytes len next content is c.requires ∙ sym (c.chain_head-head.ensures ∙ ap (λ (n : ℕ). chain_head n len) c.u32_at.ensures))
