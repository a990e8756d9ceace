use Rattle.std.proofs.Common.{◌≡◌, ◌+◌, ◌-◌, ℕ, List, ◌++◌, length, take, drop, ap, ◌∙◌, arith}
use Rattle.nx_numbers.specs.Numbers.{with_number}
use Rattle.nx_chain.proofs.Chain.{page_made}
use Rattle.nx_chain.proofs.chain_page.Goals as goal

pub returns : goal.returns
returns c =
    let page = c.begun-page.result.bytes in
    let content = c.args.content.now in
    let two = c.set_u32_at.new.bytes in
    let is_two : two ≡ with_number 4 (with_number 2 page 2 (length content)) 4 c.args.next =
    c.set_u32_at.ensures ∙ ap (λ (r : List ℕ). with_number 4 r 4 c.args.next) c.set_u16_at.ensures in
    let room : 8 + length content - 8 ≡ length content = omega arith in
    ap (λ (n : ℕ). take 8 two ++ (c.copy_from_slice.new.self ++ drop n (drop 8 two))) room
    ∙ page_made page two c.copy_from_slice.new.self content c.args.next c.begun-page.ensures is_two c.copy_from_slice.ensures.after
