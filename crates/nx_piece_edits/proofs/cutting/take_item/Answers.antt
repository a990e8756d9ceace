use Rattle.std.proofs.Common.{arith, ◌+◌, ◌≤◌, List, length, take, drop, sym, ap, ◌∙◌, subst}
use Rattle.std.proofs.lemmas.List.{take_at, length-take-le, take-append-drop}
use Rattle.nx_piece.specs.declared.piece.Item.{Item}
use Rattle.nx_piece.specs.Gapped.{proxies_in}
use Rattle.nx_piece.specs.Items.{gapped_of}
use Rattle.nx_piece.specs.Valid.{AreApart}
use Rattle.nx_piece_edits.proofs.TakeLemmas.{fewer_without, apart_front}
use Rattle.nx_piece_edits.proofs.cutting.take_item.Goals as goal

pub join_runs-requires-clause-few : goal.join_runs-requires-clause-few
join_runs-requires-clause-few c =
    let is = ap (λ (xs : List Item). proxies_in (gapped_of xs)) c.remove-item.ensures.by_index.2 in
    let less = fewer_without c.args.items.now.items c.args.index in
    let few = c.requires.few in
    omega arith

pub join_runs-requires-clause-apart : goal.join_runs-requires-clause-apart
join_runs-requires-clause-apart c =
    let items : List Item = c.args.items.now.items in
    let within : c.args.index ≤ length items = omega arith in
    let front = length-take-le c.args.index items within in
    let same = ap (λ (xs : List Item). take c.args.index xs) c.remove-item.ensures.by_index.2 ∙ take_at (take c.args.index items) (drop (c.args.index + 1) items) c.args.index front in
    let apart = apart_front (take c.args.index items) (drop c.args.index items) (subst (λ xs. AreApart (gapped_of xs)) (sym (take-append-drop c.args.index items)) c.requires.apart) in
    subst (λ xs. AreApart (gapped_of xs)) (sym same) apart
