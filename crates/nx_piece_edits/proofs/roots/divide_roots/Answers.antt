use Rattle.std.proofs.Common.{arith, ◌≡◌, ◌<◌, ℕ, List, [], length, take, drop, ap, ◌∙◌}
use Rattle.nx_piece.specs.declared.piece.Proxy.{Proxy}
use Rattle.nx_piece.specs.Gapped.{Gapped, GappedTree, gapped_width, grown_of, proxies_in}
use Rattle.nx_piece_edits.specs.Dividing.{first_roots, roots_behind}
use Rattle.nx_piece_edits.proofs.DivideLemmas.{back_is, divided_is, first_is, front_is, grown_width, in_two, root_is_there}
use Rattle.nx_piece_edits.proofs.roots.divide_roots.Goals as goal

pub unreachable-requires : goal.unreachable-requires
unreachable-requires c =
    let wide = ap gapped_width c.into_vec-roots.ensures in
    let count = grown_width c.into_vec-roots.result.items in
    let long = ap length c.as_slice.ensures.value in
    let more = c.requires.more in
    let within : c.args.member < length c.as_slice.result.now = omega (arith, wide, count, long, more) in
    root_is_there [] 0 c.as_slice.result.now c.args.member within (c.in_default.ensures [])

pub split_off-requires : goal.split_off-requires
split_off-requires c =
    let wide = ap gapped_width c.into_vec-roots.ensures in
    let count = grown_width c.into_vec-roots.result.items in
    let index = c.from.ensures in
    let more = c.requires.more in
    omega (arith, wide, count, index, more)

pub split_off-requires-2 : goal.split_off-requires-2
split_off-requires-2 c =
    let old : Gapped = c.args.piece.body.roots in
    let same : grown_of c.as_slice.result.now ≡ old = ap grown_of c.as_slice.ensures.value ∙ c.into_vec-roots.ensures in
    let first = first_is [] 0 c.as_slice.result.now c.args.member c.in-Some.field-0-0.now c.in-Some.first (c.in-Some.ensures []) in
    let front = ap (λ (f : Gapped). proxies_in (first_roots c.args.member f)) same in
    let more = c.requires.more in
    let sum = (in_two old c.args.member c.requires.piece.body.trees (omega (arith, more))).counted in
    let all = c.requires.piece.body.counted in
    let long = ap length c.into_vec-proxies.ensures in
    omega (arith, first, front, sum, all, long)

pub returns : goal.returns
returns c =
    let old : Gapped = c.args.piece.body.roots in
    let roots : List GappedTree = c.into_vec-roots.result.items in
    let same : grown_of c.as_slice.result.now ≡ old = ap grown_of c.as_slice.ensures.value ∙ c.into_vec-roots.ensures in
    let first = first_is [] 0 c.as_slice.result.now c.args.member c.in-Some.field-0-0.now c.in-Some.first (c.in-Some.ensures []) in
    let front = ap (λ (f : Gapped). proxies_in (first_roots c.args.member f)) same in
    let place : c.in-Some.first ≡ proxies_in (first_roots c.args.member old) = omega (arith, first, front) in
    divided_is c.args.piece c.args.member c.from_vec.result c.from_vec-3.result c.from_vec-2.result c.from_vec-4.result c.requires.piece.body.counted c.requires.piece.body.trees c.requires.some c.requires.more
    (c.from_vec.ensures ∙ ap grown_of c.in_ok-behind.ensures.items ∙ ap (λ (i : ℕ). grown_of (take i roots)) c.from.ensures ∙ front_is roots c.args.member ∙ ap (λ (f : Gapped). first_roots c.args.member f) c.into_vec-roots.ensures)
    (c.from_vec-3.ensures ∙ ap grown_of c.in_ok-behind.ensures.tail ∙ ap (λ (i : ℕ). grown_of (drop i roots)) c.from.ensures ∙ back_is roots c.args.member ∙ ap (λ (f : Gapped). roots_behind c.args.member f) c.into_vec-roots.ensures)
    (c.from_vec-2.ensures ∙ c.in_ok-others.ensures.items ∙ ap (λ (ps : List Proxy). take c.in-Some.first ps) c.into_vec-proxies.ensures ∙ ap (λ (n : ℕ). take n c.args.piece.proxies) place)
    (c.from_vec-4.ensures ∙ c.in_ok-others.ensures.tail ∙ ap (λ (ps : List Proxy). drop c.in-Some.first ps) c.into_vec-proxies.ensures ∙ ap (λ (n : ℕ). drop n c.args.piece.proxies) place)
