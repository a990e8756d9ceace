use Rattle.std.proofs.Common.{arith, ◌≡◌, ◌+◌, ◌-◌, ◌∷◌, List, drop, subst}
use Rattle.nx_piece.specs.declared.piece.Item.{Item}
use Rattle.nx_piece.specs.declared.piece.Item.TheVariants.{Run}
use Rattle.nx_piece_edits.proofs.SpotLemmas.{run_few, run_before_few, run_at_grows, run_before_grows, none_come}
use Rattle.nx_piece_edits.proofs.planting.insert_run.Goals as goal

pub overflow_add-had : goal.overflow_add-had
overflow_add-had c =
    let items : List Item = c.args.items.now.items in
    let there : drop (c.args.index - 1) items ≡ Run c.in-Some.had ∷ drop c.args.index items = subst (λ xs. drop (c.args.index - 1) xs ≡ Run c.in-Some.had ∷ drop c.args.index xs) c.as_slice.ensures.value c.in-Some.ensures.1 in
    let few = run_before_few items c.args.index c.in-Some.had c.in-Some.ensures.0 there in
    let fits = c.requires.fits in
    omega (arith, few, fits)

pub returns-in-Some : goal.returns-in-Some
returns-in-Some c =
    let items : List Item = c.args.items.now.items in
    let there : drop (c.args.index - 1) items ≡ Run c.in-Some.had ∷ drop c.args.index items = subst (λ xs. drop (c.args.index - 1) xs ≡ Run c.in-Some.had ∷ drop c.args.index xs) c.as_slice.ensures.value c.in-Some.ensures.1 in
    run_before_grows items c.args.index c.in-Some.had c.args.count (omega arith) c.requires.apart c.in-Some.ensures.0 there

pub overflow_add-had-in-Some-run_at : goal.overflow_add-had-in-Some-run_at
overflow_add-had-in-Some-run_at c =
    let items : List Item = c.args.items.now.items in
    let there : drop c.args.index items ≡ Run c.in-Some-run_at.had ∷ drop (c.args.index + 1) items =
    subst (λ xs. drop c.args.index xs ≡ Run c.in-Some-run_at.had ∷ drop (c.args.index + 1) xs) c.as_slice-2.ensures.value c.in-Some-run_at.ensures in
    let few = run_few items c.args.index c.in-Some-run_at.had there in
    let fits = c.requires.fits in
    omega (arith, few, fits)

pub returns-in-Some-run_at : goal.returns-in-Some-run_at
returns-in-Some-run_at c =
    let items : List Item = c.args.items.now.items in
    let there : drop c.args.index items ≡ Run c.in-Some-run_at.had ∷ drop (c.args.index + 1) items =
    subst (λ xs. drop c.args.index xs ≡ Run c.in-Some-run_at.had ∷ drop (c.args.index + 1) xs) c.as_slice-2.ensures.value c.in-Some-run_at.ensures in
    run_at_grows items c.args.index c.in-Some-run_at.had c.args.count (omega arith) c.requires.apart there

pub returns-then-count-eq0 : goal.returns-then-count-eq0
returns-then-count-eq0 c = none_come c.args.items.now.items c.args.index c.args.count (omega arith) c.requires.apart
