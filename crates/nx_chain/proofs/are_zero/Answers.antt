use Rattle.std.proofs.Common.{◌≡◌, ℕ, ◌+◌, ◌<◌, ◌≤◌, inl, inr, ap, sym, subst, ◌∙◌, arith, bit_or}
use Rattle.std.proofs.lemmas.Bool.{cases_lt, eqb-true}
use Rattle.std.proofs.lemmas.Nat.{le_or_l, le_or_r}
use Rattle.std.specs.Int.Bits.{or_zero_l}
use Rattle.std.specs.Prelude.{slice_index}
use Rattle.nx_chain.proofs.Chain.{zeros_are}
use Rattle.nx_chain.proofs.are_zero.Goals as goal

last : (i j : ℕ) → j < i + 1 → i ≤ j → j ≡ i
last i j low high = omega arith

below : (i j : ℕ) → j < i → j < i + 1
below i j low = omega arith

here : (i : ℕ) → i < i + 1
here i = omega arith

pub loop-i-preserved : goal.loop-i-preserved
loop-i-preserved c =
    let found = c.loop-i.found in
    let i = c.loop-i.i in
    let byte = slice_index c.args.bytes.now i in
    let known = c.loop-i.invariant in
    record {
      zero = λ none j low.
          let left = le_or_l found byte in
          let right = le_or_r found byte in
          elim (cases_lt j i) [
            | inl before ↦ known.zero (omega (arith, left, none)) j before
            | inr past ↦ subst (λ (k : ℕ). slice_index c.args.bytes.now k ≡ 0) (sym (last i j low past)) (omega (arith, right, none))
          ];
      none = λ all. ap (λ (n : ℕ). bit_or n byte) (known.none (λ j low. all j (below i j low))) ∙ or_zero_l byte ∙ all i (here i);
    }

pub returns-clause-yes : goal.returns-clause-yes
returns-clause-yes c is_none =
    let past = c.loop-i-test.false in
    zeros_are c.args.bytes.now (λ j low. c.loop-i.invariant.zero (eqb-true c.loop-i.found 0 is_none) j (omega (arith, past, low)))
