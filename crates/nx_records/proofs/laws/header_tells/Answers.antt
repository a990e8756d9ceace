use Rattle.std.proofs.Common.{◌≡◌, ℕ, ◌+◌, ◌-◌, ◌≤◌, List, [], ◌∷◌, length, sym, ap, ◌∙◌, arith, Bool, true, inl, inr}
use Rattle.std.specs.Prelude.{◌==◌, nat_lt, if◌then◌else◌}
use Rattle.std.proofs.lemmas.Bool.{cases_Bool, eq-eqb, false≢true, lt-ltb, ltb-true}
use Rattle.nx_replay.specs.Log.{Pages}
use Rattle.nx_holdings.specs.declared.header.Header.{Header}
use Rattle.nx_holdings.specs.Holdings.{Held, HoldsBy, IsFreeList}
use Rattle.nx_records.specs.Records.{has_free_by}
use Rattle.nx_records.proofs.StepLemmas.{none_free}
use Rattle.nx_records.proofs.laws.header_tells.Goals as goal

some_free : {pages : Pages} {head : Header} {held : Held} → HoldsBy pages head held → has_free_by head ≡ true → 1 ≤ held.free
some_free {pages = pages} {head = head} {held = held} by holds = elim (cases_Bool (head.free == 0)) [
  | inl zero ↦
      let low = ltb-true head.pages head.settings.limit (sym (ap (λ (b : Bool). if b then nat_lt head.pages head.settings.limit else true) zero) ∙ holds) in
      omega (arith, low, count)
  | inr fails ↦
      let some = go (by.behind.shares).free by.behind.shared.free (λ same. false≢true (sym fails ∙ eq-eqb head.free 0 same)) in
      omega (arith, some, count)
]
  where
    count : held.free ≡ length (by.behind.shares).free + (head.settings.limit - head.pages)
    count = by.behind.free

    go : (ps : List ℕ) → IsFreeList pages head.free ps → (head.free ≡ 0 → ⊥) → 1 ≤ length ps
    go [] list apart = absurd (apart list)
    go (p ∷ ps) list apart = omega arith

pub returns : goal.returns
returns c pages head held by = elim (cases_Bool (has_free_by head)) [
  | inl holds ↦ holds ∙ sym (lt-ltb 0 held.free (some_free by holds))
  | inr fails ↦ fails ∙ sym (ap (λ (n : ℕ). nat_lt 0 n) (none_free by.behind.shared by.behind.free fails))
]
