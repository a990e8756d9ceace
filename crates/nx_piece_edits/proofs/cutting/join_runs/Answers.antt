use Rattle.std.proofs.Common.{arith, ◌≡◌, ◌+◌, ◌-◌, ◌<◌, ◌∷◌, ℕ, List, length, drop, ap, ◌∙◌}
use Rattle.nx_piece.specs.declared.piece.Item.{Item}
use Rattle.nx_piece.specs.declared.piece.Item.TheVariants.{Run}
use Rattle.nx_piece.specs.Gapped.{proxies_in}
use Rattle.nx_piece.specs.Items.{gapped_of}
use Rattle.nx_piece.proofs.WalkLemmas.{next_left}
use Rattle.nx_piece_edits.proofs.TakeLemmas.{none_before, none_after, tree_before, tree_after, run_joined, proxies_there}
use Rattle.nx_piece_edits.proofs.cutting.join_runs.Goals as goal
use Rattle.nx_piece_edits.proofs.cutting.join_runs.Goals.{then-index-eq0-via-then-index-eq0, then-index-eq0-via-else-index-eq0+then-index-len}

pub returns-then-index-eq0 : goal.returns-then-index-eq0
returns-then-index-eq0 c =
    elim c.then-index-eq0.branch [
      | then-index-eq0-via-then-index-eq0 w ↦ none_before c.args.items.now.items c.args.index (omega arith)
      | then-index-eq0-via-else-index-eq0+then-index-len w ↦ none_after c.args.items.now.items c.args.index (omega arith) c.requires.apart
    ]

pub returns-in_default : goal.returns-in_default
returns-in_default c =
    let items : List Item = c.args.items.now.items in
    let i : ℕ = c.args.index - 1 in
    let within : i < length items = omega arith in
    tree_before items i c.args.index c.in_default.field-0 (omega arith) (next_left items i c.index.result.now within c.index.ensures ∙ ap (λ (x : Item). x ∷ drop (i + 1) items) c.in_default.is) c.requires.apart

pub returns-in_default-index : goal.returns-in_default-index
returns-in_default-index c =
    let items : List Item = c.args.items.now.items in
    let within : c.args.index < length items = omega arith in
    tree_after items c.args.index c.in_default-index.field-0
    (next_left items c.args.index c.index-2.result.now within c.index-2.ensures ∙ ap (λ (x : Item). x ∷ drop (c.args.index + 1) items) c.in_default-index.is) c.requires.apart

pub overflow_add-count : goal.overflow_add-count
overflow_add-count c =
    let items : List Item = c.args.items.now.items in
    let i : ℕ = c.args.index - 1 in
    let back : i + 1 ≡ c.args.index = omega arith in
    let within : i < length items = omega arith in
    let here : c.args.index < length items = omega arith in
    let d : drop i items ≡ Run c.in-Run.count ∷ drop (i + 1) items = next_left items i c.index.result.now within c.index.ensures ∙ ap (λ (x : Item). x ∷ drop (i + 1) items) c.in-Run.is in
    let e : drop c.args.index items ≡ Run c.in-Run-index.more ∷ drop (c.args.index + 1) items =
    next_left items c.args.index c.index-2.result.now here c.index-2.ensures ∙ ap (λ (x : Item). x ∷ drop (c.args.index + 1) items) c.in-Run-index.is in
    let sum = proxies_there items i (Run c.in-Run.count) d in
    let rest = ap (λ (xs : List Item). proxies_in (gapped_of xs)) (ap (λ (n : ℕ). drop n items) back ∙ e) in
    let few = c.requires.few in
    omega arith

pub returns : goal.returns
returns c =
    let items : List Item = c.args.items.now.items in
    let i : ℕ = c.args.index - 1 in
    let within : i < length items = omega arith in
    let here : c.args.index < length items = omega arith in
    ap gapped_of c.remove.ensures.by_index.2
    ∙ run_joined items i c.args.index c.in-Run.count c.in-Run-index.more (omega arith)
    (next_left items i c.index.result.now within c.index.ensures ∙ ap (λ (x : Item). x ∷ drop (i + 1) items) c.in-Run.is)
    (next_left items c.args.index c.index-2.result.now here c.index-2.ensures ∙ ap (λ (x : Item). x ∷ drop (c.args.index + 1) items) c.in-Run-index.is) c.requires.apart
