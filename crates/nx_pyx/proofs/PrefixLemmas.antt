-- Lists that begin with another.
use Rattle.std.proofs.Common.{◌≡◌, ℕ, ◌+◌, ◌<◌, ◌≤◌, List, ◌++◌, length, take, min, refl, sym, ap, ◌∙◌, append_assoc, length-append, arith}
use Rattle.std.proofs.Math.Seq.{take-append-add}
use Rattle.std.proofs.Math.Nat.{min-le_right}
use Rattle.std.proofs.lemmas.List.{append_cancel_left, append-nil, take_at, take_all, take_min, take-append-le}

-- a list goes on behind what it began with
pub prefix-more : (old mid new more : List ℕ) → (bytes : List ℕ) × (mid ≡ old ++ bytes) → new ≡ mid ++ more → (bytes : List ℕ) × (new ≡ old ++ bytes)
prefix-more old mid new more h e = (h.0 ++ more, e ∙ ap (λ r. r ++ more) h.1 ∙ append_assoc old h.0 more)

-- what a list begins with is a prefix of it
pub prefix-take : (old all block left : List ℕ) → (bytes : List ℕ) × (block ≡ old ++ bytes) → block ++ left ≡ old ++ all → (n : ℕ) × (block ≡ old ++ take n all)
prefix-take old all block left h e =
    let same : h.0 ++ left ≡ all = append_cancel_left old _ _ (sym (append_assoc old h.0 left) ∙ ap (λ r. r ++ left) (sym h.1) ∙ e) in
    (length h.0, h.1 ∙ ap (λ r. old ++ r) (sym (take_at h.0 left _ refl) ∙ ap (take (length h.0)) same))

-- where the first of two lists grows, the second one has shrunk
pub less-left : (old all block left : List ℕ) → block ++ left ≡ old ++ all → length old < length block → length left < length all
less-left old all block left e h = omega (arith, length-append block left, length-append old all, ap length e)

-- A prefix of a text stands behind what there was: none of it,
pub prefix-none : (old new all : List ℕ) → new ≡ old → (n : ℕ) × (new ≡ old ++ take n all)
prefix-none old new all e = (0, e ∙ sym (append-nil old))

-- all of it,
pub prefix-all : (old new all : List ℕ) → new ≡ old ++ all → (n : ℕ) × (new ≡ old ++ take n all)
prefix-all old new all e = (length all, e ∙ ap (λ r. old ++ r) (sym (take_all (length all) all (omega arith))))

-- a prefix of its first part,
pub prefix-first : (old new first rest : List ℕ) → (n : ℕ) × (new ≡ old ++ take n first) → (n : ℕ) × (new ≡ old ++ take n (first ++ rest))
prefix-first old new first rest h =
    let m : ℕ = min h.0 (length first) in
    let within : m ≤ length first = min-le_right h.0 (length first) in
    (m, h.1 ∙ ap (λ r. old ++ r) (sym (take_min h.0 first) ∙ sym (take-append-le m first rest within)))

-- or its first part and a prefix of the rest.
pub prefix-rest : (old mid new first rest : List ℕ) → mid ≡ old ++ first → (n : ℕ) × (new ≡ mid ++ take n rest) → (n : ℕ) × (new ≡ old ++ take n (first ++ rest))
prefix-rest old mid new first rest e h = (
  length first + h.0,
  h.1 ∙ ap (λ r. r ++ take h.0 rest) e ∙ append_assoc old first (take h.0 rest) ∙ ap (λ r. old ++ r) (sym (take-append-add first rest h.0)),
)

-- A text may be written in another way.
pub prefix-of : (old new text all : List ℕ) → text ≡ all → (n : ℕ) × (new ≡ old ++ take n text) → (n : ℕ) × (new ≡ old ++ take n all)
prefix-of old new text all e h = (h.0, h.1 ∙ ap (λ t. old ++ take h.0 t) e)
