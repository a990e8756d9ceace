-- All pages as one group.
use Rattle.std.proofs.Common.{◌≡◌, ◌⊎◌, ℕ, zero, suc, ◌+◌, ◌<◌, ◌≤◌, true, false, List, [], length, refl, sym, ap, subst, ◌∙◌, arith, inl, inr, eq-eqb}
use Rattle.std.proofs.lemmas.Bool.{false≢true, and_from, le-leb, lt-ltb, eqb-true, cases_Bool}
use Rattle.std.specs.Prelude.{Bool, Option, Some, None, IsSome, ◌==◌, if◌then◌else◌}
use Rattle.std.specs.Option.{unwrap_or}
use Rattle.std.specs.List.{AllByRecursion}
use Rattle.nx_host.specs.Disk.{Image}
use Rattle.nx_replay.specs.Log.{Pages, IsEntry, over, entry_pages, rise, replay}
use Rattle.nx_replay.proofs.ReplayLemmas.{nothing-over}
use Rattle.nx_replay.proofs.KnownLemmas.{replay-known}
use Rattle.nx_replay.proofs.StepLemmas.{less_or_not}
use Rattle.nx_ship.specs.Shipped.{bytes_of, pages_from, AreAllBelow, StartsAlong, IsAllWhole}

not_equal : (p q : ℕ) → (p == q) ≡ false → p ≡ q → ⊥
not_equal p q fails same = false≢true (sym fails ∙ subst (λ (n : ℕ). (p == n) ≡ true) same (let h : (p == p) ≡ true = eq-eqb p p refl in h))

some_bytes : (o : Option (List ℕ)) → IsSome o → Some (unwrap_or o []) ≡ o
some_bytes (Some x) some = refl
some_bytes None some = absurd (false≢true some)

all_in : (pages : Pages) (at n p : ℕ) → at ≤ p → p < at + n → IsSome (pages p) → entry_pages (pages_from pages at n) p ≡ pages p
all_in pages at zero p from below some = absurd (omega (arith, from, below))
all_in pages at (suc n) p from below some =
    let by = λ (b : Bool). (if b then Some (bytes_of pages at) else entry_pages (pages_from pages (at + 1) n) p) in
    elim (cases_Bool (p == at)) [
      | inl holds ↦ ap by holds ∙ ap (λ (q : ℕ). Some (bytes_of pages q)) (sym (eqb-true p at holds)) ∙ some_bytes (pages p) some
      | inr fails ↦ ap by fails ∙ all_in pages (at + 1) n p (let ne = not_equal p at fails in omega (arith, from, ne)) (omega (arith, below)) some
    ]

all_out : (pages : Pages) (at n p : ℕ) → (p < at) ⊎ (at + n ≤ p) → entry_pages (pages_from pages at n) p ≡ None
all_out pages at zero p out = refl
all_out pages at (suc n) p out =
    let by = λ (b : Bool). (if b then Some (bytes_of pages at) else entry_pages (pages_from pages (at + 1) n) p) in
    elim (cases_Bool (p == at)) [
      | inl holds ↦ absurd (let same = eqb-true p at holds in elim out [ inl below ↦ omega (arith, same, below) | inr above ↦ omega (arith, same, above) ])
      | inr fails ↦ ap by fails ∙ all_out pages (at + 1) n p (elim out [ inl below ↦ inl (omega (arith, below)) | inr above ↦ inr (omega (arith, above)) ])
    ]

all_same : (pages : Pages) (count p : ℕ) → AreAllBelow pages count → entry_pages (pages_from pages 0 count) p ≡ pages p
all_same pages count p all =
    elim (less_or_not p count) [
      | inl below ↦ all_in pages 0 count p (omega arith) (omega (arith, below)) (all.there p below)
      | inr above ↦ all_out pages 0 count p (inr (omega (arith, above))) ∙ sym (all.none_from p above)
    ]

pub starts_along : StartsAlong
starts_along sender was now number count all none applies =
    let pages = replay sender in
    let empty : replay was ≡ (λ p. None) = λ i p. none p i in
    let same : entry_pages (pages_from pages 0 count) ≡ pages = λ i p. all_same pages count p all i in
    applies ∙ ap (λ (base : Pages). over (entry_pages (pages_from pages 0 count)) base) empty ∙ nothing-over (entry_pages (pages_from pages 0 count)) ∙ same

all_rise : (pages : Pages) (least at n : ℕ) → least ≤ at → at + n ≤ 16777216 → rise least (pages_from pages at n) ≡ true
all_rise pages least at zero from few = refl
all_rise pages least at (suc n) from few =
    and_from _ _ (and_from _ _ (le-leb least at from) (lt-ltb at 16777216 (omega (arith, few)))) (all_rise pages (at + 1) (at + 1) n (omega arith) (omega (arith, few)))

pub all_long : (pages : Pages) (at n : ℕ) → length (pages_from pages at n) ≡ n
all_long pages at zero = refl
all_long pages at (suc n) = ap suc (all_long pages (at + 1) n)

known_there : (sender : Image) (p : ℕ) (o : Option (List ℕ)) → replay sender p ≡ o → IsSome o → IsEntry (record { page = p; bytes = unwrap_or o [] })
known_there sender p (Some x) is some = replay-known sender p x is
known_there sender p None is some = absurd (false≢true some)

all_entries : (sender : Image) (at n : ℕ) → ((p : ℕ) → p < at + n → IsSome (replay sender p)) → AllByRecursion IsEntry (pages_from (replay sender) at n)
all_entries sender at zero there = tt
all_entries sender at (suc n) there = (
  known_there sender at (replay sender at) refl (there at (omega arith)),
  all_entries sender (at + 1) n (λ p below. there p (omega (arith, below))),
)

pub all_whole : IsAllWhole
all_whole sender number count all fits some few =
    let long = all_long (replay sender) 0 count in
    record {
      number = fits;
      some = omega (arith, long, some);
      few = omega (arith, long, few);
      rises = all_rise (replay sender) 0 0 count (omega arith) (omega (arith, few));
      entries = all_entries sender 0 count (λ p below. all.there p (omega (arith, below)));
    }
