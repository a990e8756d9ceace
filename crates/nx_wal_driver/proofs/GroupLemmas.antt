-- The pages of a group, while they are put.
use Rattle.std.proofs.Common.{◌≡◌, ◌≢◌, ◌⊎◌, ℕ, ◌+◌, ◌-◌, ◌*◌, ◌^◌, ◌%◌, [], ◌∷◌, Bool, true, refl, sym, ap, subst, ◌∙◌, arith, inl, inr}
use Rattle.std.specs.Prelude.{Some, ◌==◌, if◌then◌else◌}
use Rattle.std.specs.Option.{option_or}
use Rattle.std.proofs.Math.Dec.{T, eqb_refl}
use Rattle.std.proofs.lemmas.Bool.{cases_Bool, ne_eqb}
use Rattle.std.proofs.lemmas.Map.Views.{exact_unsigned_eq}
use Rattle.nx_replay.specs.Log.{Entry, Pages, entry_pages, over}
use Rattle.nx_wal_driver.specs.Group.{page_on_ring, AreThere, IsThere}
use Rattle.nx_wal_driver.specs.declared.commands.Filling.{Filling}

same_number : (n : ℕ) → (n == n) ≡ true
same_number n = elim (cases_Bool (n == n)) [ inl holds ↦ holds | inr fails ↦ absurd (subst T fails (eqb_refl n)) ]

same_or_not : (a b : ℕ) → (a ≡ b) ⊎ (a ≢ b)
same_or_not a b = elim (cases_Bool (a == b)) [
  | inl holds ↦ inl (exact_unsigned_eq a b holds)
  | inr fails ↦ inr (λ same. subst T fails (subst (λ (x : ℕ). T (a == x)) same (eqb_refl a)))
]

-- the page that was put
pub put_there : (e : Entry) (old new : Pages) → new ≡ over (entry_pages (e ∷ [])) old → new e.page ≡ Some e.bytes
put_there e old new is =
    ap (λ (f : Pages). f e.page) is ∙ ap (λ (b : Bool). option_or (if b then Some e.bytes else entry_pages [] e.page) (old e.page)) (same_number e.page)

-- the others
pub put_others : (e : Entry) (old new : Pages) → new ≡ over (entry_pages (e ∷ [])) old → (p : ℕ) → p ≢ e.page → new p ≡ old p
put_others e old new is p other =
    ap (λ (f : Pages). f p) is ∙ ap (λ (b : Bool). option_or (if b then Some e.bytes else entry_pages [] p) (old p)) (ne_eqb p e.page other)

-- one page more of the group waits
pub one_more : (filling : Filling) (group count i page : ℕ) (old new : Pages) → page ≡ page_on_ring filling.seed group count i
    → IsThere (record { seed = filling.seed; group = group; page = page }) new → ((p : ℕ) → p ≢ page → new p ≡ old p)
    → AreThere filling group count i old → AreThere filling group count (i + 1) new
one_more filling group count i page old new is here others before j below =
    let q = page_on_ring filling.seed group count j in
    elim (same_or_not q page) [
      | inl same ↦ subst (λ (r : ℕ). IsThere (record { seed = filling.seed; group = group; page = r }) new) (sym same) here
      | inr other ↦
          elim (same_or_not j i) [
            | inl last ↦ absurd (other (ap (λ (k : ℕ). page_on_ring filling.seed group count k) last ∙ sym is))
            | inr earlier ↦ others q other ∙ before j (omega arith)
          ]
    ]

pub first_page : (seed group count i : ℕ) → i ≡ 0 → 0 ≡ page_on_ring seed group count i
unfolding page_on_ring
first_page seed group count i is = subst (λ (k : ℕ). 0 ≡ page_on_ring seed group count k) (sym is) refl

pub later_page : (seed group count i first : ℕ) → i ≢ 0 → first ≡ (group * 7919 % 2 ^ 64 + seed) % 2 ^ 64 % (count - 1) → 1 + (first + i) % (count - 1) ≡ page_on_ring seed group count i
unfolding page_on_ring
later_page seed group count i first some is =
    ap (λ (n : ℕ). 1 + (n + i) % (count - 1)) is
    ∙ sym (ap (λ (b : Bool). if b then 0 else 1 + ((group * 7919 % 2 ^ 64 + seed) % 2 ^ 64 % (count - 1) + i) % (count - 1)) (ne_eqb i 0 some))
