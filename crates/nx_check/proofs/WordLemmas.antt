-- One bit more or less among words.
use Rattle.std.proofs.Common.{◌≡◌, ◌≢◌, ℕ, zero, ◌-◌, ◌<◌, ◌≤◌, ◌/◌, ◌%◌, Bool, false, List, ◌++◌, length, get_or, sym, ap, ◌∙◌, subst, arith, inl, inr}
use Rattle.std.specs.Prelude.{◌==◌, if◌then◌else◌}
use Rattle.std.proofs.lemmas.Bool.{false≢true, eq-eqb, eqb-true, cases_Bool, cases_lt}
use Rattle.std.proofs.lemmas.List.{get_or-set_same, get_or-set_other, get_or-replicate, get_or_past, length-replicate, get_or_append_left}
use Rattle.std.proofs.Math.ListN.{set, replicate}
use Rattle.std.proofs.Math.Nat.{div-add-mod}
use Rattle.std.proofs.Math.Seq.{get_or-append_right}
use Rattle.std.proofs.lemmas.Nat.Bits.{bit_at-zero}
use Rattle.nx_check.specs.Words.{has_bit, is_bit_set}

-- A word that differs in one bit alone, which is b then: so do all words.
pub word_set : (words : List ℕ) (k word bit : ℕ) (b : Bool) → k ≡ bit / 8 → k < length words → has_bit word (bit % 8) ≡ b → ((i : ℕ) → i < 8 → i ≢ bit % 8 → has_bit word i ≡ has_bit (get_or words k 0) i)
    → (i : ℕ) → is_bit_set (set words k word) i ≡ (if i == bit then b else is_bit_set words i)
word_set words k word bit b at low here other i =
    elim (cases_Bool (i == bit)) [
      | inl same ↦
          let is : i ≡ bit = eqb-true i bit same in
          let there : i / 8 ≡ k = ap (λ (x : ℕ). x / 8) is ∙ sym at in
          ap (λ (j : ℕ). has_bit (get_or (set words k word) j 0) (i % 8)) there ∙ ap (λ (x : ℕ). has_bit x (i % 8)) (get_or-set_same words k word 0 low) ∙ ap (λ (j : ℕ). has_bit word (j % 8)) is ∙ here
          ∙ sym (ap (λ (t : Bool). if t then b else is_bit_set words i) same)
      | inr apart ↦
          let no : i ≡ bit → ⊥ = λ e. false≢true (sym apart ∙ eq-eqb i bit e) in
          elim (cases_Bool (i / 8 == k)) [
            | inl same ↦
                let there : i / 8 ≡ k = eqb-true (i / 8) k same in
                let differs : i % 8 ≢ bit % 8 = λ e. no (let x = div-add-mod i 8 in let y = div-add-mod bit 8 in omega (arith, x, y, e, there, at)) in
                let low_bit : i % 8 < 8 = omega arith in
                ap (λ (j : ℕ). has_bit (get_or (set words k word) j 0) (i % 8)) there ∙ ap (λ (x : ℕ). has_bit x (i % 8)) (get_or-set_same words k word 0 low) ∙ other (i % 8) low_bit differs
                ∙ ap (λ (j : ℕ). has_bit (get_or words j 0) (i % 8)) (sym there) ∙ sym (ap (λ (t : Bool). if t then b else is_bit_set words i) apart)
            | inr else_where ↦
                let away : i / 8 ≢ k = λ e. false≢true (sym else_where ∙ eq-eqb (i / 8) k e) in
                ap (λ (x : ℕ). has_bit x (i % 8)) (get_or-set_other words k (i / 8) word 0 away) ∙ sym (ap (λ (t : Bool). if t then b else is_bit_set words i) apart)
          ]
    ]

no_bit : (j : ℕ) → has_bit 0 j ≡ false
no_bit j = ap (λ (x : ℕ). x == 1) (bit_at-zero j)

-- Where no word is there, no bit is set.
pub none_past : (words : List ℕ) (i : ℕ) → length words ≤ i / 8 → is_bit_set words i ≡ false
none_past words i past = ap (λ (x : ℕ). has_bit x (i % 8)) (get_or_past words (i / 8) 0 past) ∙ no_bit (i % 8)

more_zeros : (n i : ℕ) → get_or (replicate n 0) i 0 ≡ zero
more_zeros n i = elim (cases_lt i n) [ inl low ↦ get_or-replicate n i 0 0 low | inr past ↦ get_or_past (replicate n 0) i 0 (subst (λ (x : ℕ). x ≤ i) (sym (length-replicate n 0)) past) ]

-- Words of no bits behind others.
pub more_words : (words : List ℕ) (n i : ℕ) → is_bit_set (words ++ replicate n 0) i ≡ is_bit_set words i
more_words words n i = ap (λ (x : ℕ). has_bit x (i % 8)) (same (i / 8))
  where
    same : (k : ℕ) → get_or (words ++ replicate n 0) k 0 ≡ get_or words k 0
    same k =
        elim (cases_lt k (length words)) [
          | inl low ↦ get_or_append_left words (replicate n 0) 0 k low
          | inr past ↦ get_or-append_right words (replicate n 0) k 0 past ∙ more_zeros n (k - length words) ∙ sym (get_or_past words k 0 past)
        ]
