-- How loops over a history from its end, or over a part of it, go on.
use Rattle.std.proofs.Common.{◌≡◌, ℕ, suc, ◌+◌, ◌-◌, ◌<◌, ◌≤◌, Bool, true, false, cond, List, [], ◌∷◌, ◌++◌, length, take, drop, get_or, min, reverse, refl, sym, ap, ◌∙◌, subst, arith, append_assoc, append-nil, drop-cons}
use Rattle.std.proofs.lemmas.List.{reverse-append, take_more, take-take, length-take}
use Rattle.nx_host.specs.declared.disk.Area.{Area}
use Rattle.nx_host.specs.declared.disk.Area.TheVariants.{Pages}
use Rattle.nx_memory.specs.declared.history.Change.{Change}
use Rattle.nx_memory.specs.declared.history.Change.TheVariants.{Write, Sync, Emit}
use Rattle.nx_memory.specs.Undo.{syncs, since, kept_by, undone, undone_all, filled, filled_all}
use Rattle.nx_memory.proofs.MemoryLemmas.{one_more}

abbrev pub change_at : List Change → ℕ → Change
change_at changes i = get_or changes i (Write Pages 0 0 0)

next_first : (changes : List Change) (i : ℕ) → i < length changes → reverse (take (i + 1) changes) ≡ change_at changes i ∷ reverse (take i changes)
next_first changes i within = one_more (take i changes) (take (i + 1) changes) (change_at changes i) (take_more changes i (Write Pages 0 0 0) within)

module _ (changes : List Change) (left : ℕ) (some : 0 < left) (within : left ≤ length changes) where
  last_first : reverse (take left changes) ≡ change_at changes (left - 1) ∷ reverse (take (left - 1) changes)
  last_first =
      ap (λ (n : ℕ). reverse (take n changes)) (let h : left ≡ left - 1 + 1 = omega (arith, some) in h)
      ∙ next_first changes (left - 1) (omega (arith, some, within))

  rest_last : reverse (drop (left - 1) changes) ≡ reverse (drop left changes) ++ change_at changes (left - 1) ∷ []
  rest_last =
      ap reverse (drop-cons changes (left - 1) (Write Pages 0 0 0) (omega (arith, some, within)))
      ∙ ap (λ (n : ℕ). reverse (change_at changes (left - 1) ∷ drop n changes)) (let h : suc (left - 1) ≡ left = omega (arith, some) in h)
      ∙ reverse-append (change_at changes (left - 1) ∷ []) (drop left changes)

  module _ (area : Area) (behind : since area (reverse changes) ≡ reverse (drop left changes) ++ since area (reverse (take left changes))) where
    pub since_found : syncs area (change_at changes (left - 1)) ≡ true → reverse (drop left changes) ≡ since area (reverse changes)
    unfolding since
    since_found is =
        let none : since area (change_at changes (left - 1) ∷ reverse (take (left - 1) changes)) ≡ [] =
        ap (λ (b : Bool). cond b [] (change_at changes (left - 1) ∷ since area (reverse (take (left - 1) changes)))) is in
        sym (behind ∙ ap (λ (l : List Change). reverse (drop left changes) ++ since area l) last_first ∙ ap (λ (l : List Change). reverse (drop left changes) ++ l) none ∙ append-nil (reverse (drop left changes)))

    pub since_more : syncs area (change_at changes (left - 1)) ≡ false → since area (reverse changes) ≡ reverse (drop (left - 1) changes) ++ since area (reverse (take (left - 1) changes))
    unfolding since
    since_more is =
        let rest = since area (reverse (take (left - 1) changes)) in
        let one : since area (change_at changes (left - 1) ∷ reverse (take (left - 1) changes)) ≡ change_at changes (left - 1) ∷ rest =
        ap (λ (b : Bool). cond b [] (change_at changes (left - 1) ∷ rest)) is in
        behind
        ∙ ap (λ (l : List Change). reverse (drop left changes) ++ since area l) last_first
        ∙ ap (λ (l : List Change). reverse (drop left changes) ++ l) one
        ∙ sym (append_assoc (reverse (drop left changes)) (change_at changes (left - 1) ∷ []) rest)
        ∙ ap (λ (l : List Change). l ++ rest) (sym rest_last)

  pub undone_more : (area : Area) (bytes covered : List ℕ) (kept : ℕ) →
      undone_all area (reverse (take left changes)) bytes (take kept covered)
      ≡ undone_all area (reverse (take (left - 1) changes)) (undone area (change_at changes (left - 1)) bytes (take kept covered))
      (take (kept_by (change_at changes (left - 1)) (length (take kept covered))) covered)
  unfolding undone_all
  undone_more area bytes covered kept =
      let change = change_at changes (left - 1) in
      let rest = reverse (take (left - 1) changes) in
      ap (λ (l : List Change). undone_all area l bytes (take kept covered)) last_first
      ∙ ap (undone_all area rest (undone area change bytes (take kept covered))) (shorter change)
    where
      fewer : (change : Change) (n : ℕ) → kept_by change n ≤ n
      fewer (Write a at count was) n = omega arith
      fewer (Sync a) n = omega arith
      fewer (Emit was) n = omega arith

      shorter : (change : Change) → take (kept_by change (length (take kept covered))) (take kept covered) ≡ take (kept_by change (length (take kept covered))) covered
      shorter change =
          let cut : length (take kept covered) ≡ min kept (length covered) = length-take kept covered in
          let few : kept_by change (length (take kept covered)) ≤ length (take kept covered) = fewer change (length (take kept covered)) in
          take-take (kept_by change (length (take kept covered))) kept covered (omega (arith, cut, few))

pub kept_fewer : (change : Change) (n : ℕ) → kept_by change n ≤ n
kept_fewer (Write a at count was) n = omega arith
kept_fewer (Sync a) n = omega arith
kept_fewer (Emit was) n = omega arith

pub since_whole : (area : Area) (changes : List Change) (left : ℕ) → left ≤ 0 → since area (reverse changes) ≡ reverse (drop left changes) ++ since area (reverse (take left changes)) →
    reverse changes ≡ since area (reverse changes)
unfolding since
since_whole area changes left none behind =
    let zero : left ≡ 0 = omega (arith, none) in
    sym (subst (λ (n : ℕ). since area (reverse changes) ≡ reverse (drop n changes) ++ since area (reverse (take n changes))) zero behind ∙ append-nil (reverse changes))

pub undone_whole : (area : Area) (changes : List Change) (left : ℕ) (bytes covered : List ℕ) → left ≤ 0 → undone_all area (reverse (take left changes)) bytes covered ≡ bytes
unfolding undone_all
undone_whole area changes left bytes covered none =
    let zero : left ≡ 0 = omega (arith, none) in ap (λ (n : ℕ). undone_all area (reverse (take n changes)) bytes covered) zero

pub filled_none : (area : Area) (bytes : List ℕ) → bytes ≡ filled_all area [] bytes
unfolding filled_all
filled_none area bytes = refl

pub filled_more : (area : Area) (changes : List Change) (i : ℕ) (bytes : List ℕ) → i < length changes →
    filled area (change_at changes i) (filled_all area (reverse (take i changes)) bytes) ≡ filled_all area (reverse (take (i + 1) changes)) bytes
unfolding filled_all
filled_more area changes i bytes within = sym (ap (λ (l : List Change). filled_all area l bytes) (next_first changes i within))
