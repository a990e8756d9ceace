-- What the host of tests tells of its moments: a disk that stays empty, and an output that only grows.
use Rattle.std.specs.Prelude.{◌≡◌, ◌⊎◌, ◌≤◌, ◌<◌, ◌+◌, ◌-◌, ℕ, zero, suc, List, [], ◌∷◌, length, take, drop, Option, Some, IsSome, refl}
use Rattle.std.specs.Option.{unwrap_or, is_some}
use Rattle.std.proofs.Common.{inl, inr, sym, ap, subst, ◌∙◌, arith}
use Rattle.std.proofs.lemmas.List.{get_or-drop, drop-drop}
use Rattle.nx_host.specs.Disk.{Image, AreBytes, no_bytes}
use Rattle.nx_host.specs.Time.{Stood}

-- What is told is a prefix of the output, of one of these lengths.
abbrev pub WasPrefix : List ℕ → List ℕ → Option (List ℕ) → Type 0
WasPrefix [] output seen = ⊥
WasPrefix (n ∷ past) output seen = (seen ≡ Some (take n output)) ⊎ WasPrefix past output seen

-- At some moment from t on this stood: an empty disk, and the output or a prefix of it. `past` has the output's length at each moment before now.
pub record EmptyStoodSince (past output : List ℕ) (t : ℕ) (s : Stood) : Type 0 where
  pub empty : s.image ≡ no_bytes
  pub prefix : (s.output ≡ Some output) ⊎ WasPrefix (drop t past) output s.output

pub only_nothing : (image : Image) → Some no_bytes ≡ Some image → image ≡ no_bytes
only_nothing image is = sym (ap (λ (o : Option Image). unwrap_or o no_bytes) is)

told_prefix : (past output : List ℕ) (seen : Option (List ℕ)) → WasPrefix past output seen → IsSome seen
told_prefix [] output seen was = absurd was
told_prefix (n ∷ past) output seen (inl here) = ap is_some here
told_prefix (n ∷ past) output seen (inr there) = told_prefix past output seen there

told_either : (past output : List ℕ) (seen : Option (List ℕ)) → (seen ≡ Some output) ⊎ WasPrefix past output seen → IsSome seen
told_either past output seen (inl now) = ap is_some now
told_either past output seen (inr was) = told_prefix past output seen was

-- each of its moments is told
pub told_since : (past output : List ℕ) (t : ℕ) (s : Stood) → EmptyStoodSince past output t s → IsSome s.output
told_since past output t s since = told_either (drop t past) output s.output since.prefix

-- what is there now stands since any of them
pub stands_since : (past output : List ℕ) (t : ℕ) (image : Image) → image ≡ no_bytes → EmptyStoodSince past output t (record { output = Some output; image = image })
stands_since past output t image is = record { empty = is; prefix = inl refl }

none_left : (past output : List ℕ) (seen : Option (List ℕ)) → WasPrefix (drop (length past) past) output seen → ⊥
none_left [] output seen was = was
none_left (n ∷ past) output seen was = none_left past output seen was

only_prefix : (past output : List ℕ) (seen : Option (List ℕ)) → (seen ≡ Some output) ⊎ WasPrefix (drop (length past) past) output seen → seen ≡ Some output
only_prefix past output seen (inl now) = now
only_prefix past output seen (inr was) = absurd (none_left past output seen was)

-- and nothing else since this one
pub only_whole : (past output : List ℕ) (s : Stood) → EmptyStoodSince past output (length past) s → (s.output ≡ Some output) × (s.image ≡ no_bytes)
only_whole past output s since = (only_prefix past output s.output since.prefix, since.empty)

-- what stood since a later moment
pub stood_since_earlier : (past output : List ℕ) (t u : ℕ) (s : Stood) → t ≤ u → EmptyStoodSince past output u s → EmptyStoodSince past output t s
stood_since_earlier past output t u s le since = record { empty = since.empty; prefix = before since.prefix }
  where
    longer : (n : ℕ) (lengths : List ℕ) → WasPrefix (drop n lengths) output s.output → WasPrefix lengths output s.output
    longer zero lengths was = was
    longer (suc n) [] was = was
    longer (suc n) (x ∷ lengths) was = inr (longer n lengths was)

    cut : drop (u - t) (drop t past) ≡ drop u past
    cut = drop-drop (u - t) t past ∙ ap (λ (k : ℕ). drop k past) (let e : t + (u - t) ≡ u = omega (arith, le) in e)

    before : (s.output ≡ Some output) ⊎ WasPrefix (drop u past) output s.output → (s.output ≡ Some output) ⊎ WasPrefix (drop t past) output s.output
    before (inl now) = inl now
    before (inr was) = inr (longer (u - t) (drop t past) (subst (λ (l : List ℕ). WasPrefix l output s.output) (sym cut) was))

-- the input that is left
pub input_left_is_bytes : (given : ℕ) (input left : List ℕ) → AreBytes input → Some (drop given input) ≡ Some left → AreBytes left
input_left_is_bytes given input left bytes is =
    let same : drop given input ≡ left = cc in
    subst AreBytes same (λ i. subst (λ (b : ℕ). b < 256) (sym (get_or-drop given input i 0)) (bytes (given + i)))
