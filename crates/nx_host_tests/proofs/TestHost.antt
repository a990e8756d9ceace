-- What the calls of the host of tests do to its input and to its moments.
use Rattle.std.proofs.Common.{◌≡◌, ◌⊎◌, inl, inr, ⊎_elim, ℕ, zero, suc, ◌+◌, ◌-◌, ◌≤◌, List, [], ◌∷◌, ◌++◌, length, take, drop, Option, Some, refl, sym, ◌∙◌, ap, subst, arith, length-append, length-drop, take-append-drop}
use Rattle.std.proofs.lemmas.List.{take_at, take_all, drop-drop, length-take-le}
use Rattle.nx_host.specs.Host.{AppendsPrefix}
use Rattle.nx_host.specs.Time.{Stood, Elapses}
use Rattle.nx_host_tests.specs.TestHost.{WasPrefix, EmptyStoodSince}
use Rattle.nx_host.specs.Disk.{no_bytes}

-- A piece that was copied to the beginning of a slice was the first of the input that was left.
pub piece_taken : (input shown piece rest : List ℕ) (given n : ℕ) → shown ≡ input → piece ≡ take (given + n - given) (drop given shown) → n ≤ length input - given →
    drop given input ≡ take n (piece ++ rest) ++ drop (given + n) input
piece_taken input shown piece rest given n same copied fits =
    let count : given + n - given ≡ n = omega arith in
    let is : piece ≡ take n (drop given input) = copied ∙ ap (λ (k : ℕ). take k (drop given shown)) count ∙ ap (λ (l : List ℕ). take n (drop given l)) same in
    let long : length piece ≡ n = ap length is ∙ length-take-le n (drop given input) (omega (arith, length-drop given input)) in
    sym (take-append-drop n (drop given input))
    ∙ ap (λ (l : List ℕ). take n (drop given input) ++ l) (drop-drop n given input)
    ∙ ap (λ (l : List ℕ). l ++ drop (given + n) input) (sym is ∙ sym (take_at piece rest n long))

-- a prefix of two lists is one of the first, or it is the first and a prefix of the second
PrefixOf : ℕ → List ℕ → List ℕ → Type 0
PrefixOf n xs ys = (take n (xs ++ ys) ≡ take n xs) ⊎ ((m : ℕ) × (take n xs ≡ xs) × (take n (xs ++ ys) ≡ xs ++ take m ys))

prefix_of : (n : ℕ) (xs ys : List ℕ) → PrefixOf n xs ys
unfolding PrefixOf
prefix_of zero xs ys = inl refl
prefix_of (suc n) [] ys = inr (suc n, refl, refl)
prefix_of (suc n) (x ∷ xs) ys =
    ⊎_elim
    (λ e. inl (ap (λ (l : List ℕ). x ∷ l) e))
    (λ e. inr (e.0, ap (λ (l : List ℕ). x ∷ l) e.1, ap (λ (l : List ℕ). x ∷ l) e.2))
    (prefix_of n xs ys)

drop_push : (t : ℕ) (past : List ℕ) (n : ℕ) → t ≤ length past → drop t (past ++ n ∷ []) ≡ drop t past ++ n ∷ []
drop_push zero past n le = refl
drop_push (suc t) [] n le = absurd (omega arith)
drop_push (suc t) (p ∷ past) n le = drop_push t past n (omega arith)

-- An output grows by some bytes, and the length that it had is kept.
module _ (output bytes : List ℕ) where
  abbrev Grows : Option (List ℕ) → Type 0
  Grows seen = AppendsPrefix bytes (Some output) seen

  before_here : (n : ℕ) (seen : Option (List ℕ)) → seen ≡ Some (take n (output ++ bytes)) → (seen ≡ Some (take n output)) ⊎ Grows seen
  unfolding PrefixOf
  before_here n seen is =
      ⊎_elim
      (λ e. inl (is ∙ ap Some e))
      (λ e. inr (subst Grows (sym is) (output, e.0, refl, e.2)))
      (prefix_of n output bytes)

  before : (past : List ℕ) (seen : Option (List ℕ)) → WasPrefix past (output ++ bytes) seen → WasPrefix past output seen ⊎ Grows seen
  before [] seen was = absurd was
  before (n ∷ past) seen (inl here) = ⊎_elim (λ e. inl (inl e)) (λ e. inr e) (before_here n seen here)
  before (n ∷ past) seen (inr there) = ⊎_elim (λ e. inl (inr e)) (λ e. inr e) (before past seen there)

  -- at the moment that is added the output was what it was before the call
  whole : Some (take (length output) (output ++ bytes)) ≡ Some output
  whole = ap Some (take_at output bytes (length output) refl)

  pushed : (past : List ℕ) (seen : Option (List ℕ)) → WasPrefix (past ++ length output ∷ []) (output ++ bytes) seen → WasPrefix past (output ++ bytes) seen ⊎ (seen ≡ Some output)
  pushed [] seen (inl here) = inr (here ∙ whole)
  pushed [] seen (inr none) = absurd none
  pushed (n ∷ past) seen (inl here) = inl (inl here)
  pushed (n ∷ past) seen (inr there) = ⊎_elim (λ e. inl (inr e)) (λ e. inr e) (pushed past seen there)

  newest : (past : List ℕ) (seen : Option (List ℕ)) → seen ≡ Some output → WasPrefix (past ++ length output ∷ []) (output ++ bytes) seen
  newest [] seen is = inl (is ∙ sym whole)
  newest (n ∷ past) seen is = inr (newest past seen is)

  kept : (past : List ℕ) (seen : Option (List ℕ)) → WasPrefix past output seen → WasPrefix (past ++ length output ∷ []) (output ++ bytes) seen
  unfolding PrefixOf
  kept [] seen was = absurd was
  kept (n ∷ past) seen (inl here) =
      ⊎_elim
      (λ e. inl (here ∙ ap Some (sym e)))
      (λ e. inr (newest past seen (here ∙ ap Some e.1)))
      (prefix_of n output bytes)
  kept (n ∷ past) seen (inr there) = inr (kept past seen there)

  -- what stands in the past afterwards stood there before, or was the output, or has grown
  back : (past : List ℕ) (seen : Option (List ℕ)) → WasPrefix (past ++ length output ∷ []) (output ++ bytes) seen → ((seen ≡ Some output) ⊎ WasPrefix past output seen) ⊎ Grows seen
  back past seen was =
      ⊎_elim
      (λ e. ⊎_elim (λ had. inl (inr had)) (λ grown. inr grown) (before past seen e))
      (λ e. inl (inl e))
      (pushed past seen was)

  grown : (seen : Option (List ℕ)) → seen ≡ Some (output ++ bytes) → Grows seen
  grown seen is = subst Grows (sym is) (output, length bytes, refl, ap (λ (l : List ℕ). output ++ l) (sym (take_all (length bytes) bytes (omega arith))))

-- The moments of a host: the lengths at the earlier ones, and the output.
abbrev Moments : Type 0
Moments = List ℕ × List ℕ

abbrev moment_of : Moments → ℕ
moment_of d = length d.0

abbrev since_of : Moments → ℕ → Stood → Type 0
since_of d = EmptyStoodSince d.0 d.1

added : (past output bytes : List ℕ) → Elapses moment_of since_of (past, output) (past ++ length output ∷ [], output ++ bytes) (λ s. AppendsPrefix bytes (Some output) s.output × (s.image ≡ no_bytes))
added past output bytes = record {
  later = omega (arith, length-append past (length output ∷ []));
  nothing_else = λ t s le since.
      ⊎_elim
      (λ now. inr (grown output bytes s.output now, since.empty))
      (λ was.
      ⊎_elim
      (λ earlier. inl (record { empty = since.empty; prefix = earlier }))
      (λ has_grown. inr (has_grown, since.empty))
      (back output bytes (drop t past) s.output (subst (λ (l : List ℕ). WasPrefix l (output ++ bytes) s.output) (drop_push t past (length output) le) was)))
      since.prefix;
  keeps = λ t s le since. record {
    empty = since.empty;
    prefix = inr (
        subst
        (λ (l : List ℕ). WasPrefix l (output ++ bytes) s.output)
        (sym (drop_push t past (length output) le))
        (⊎_elim (newest output bytes (drop t past) s.output) (kept output bytes (drop t past) s.output) since.prefix)
        );
  };
}

-- An `emit` that is done adds nothing but the longer output, with the disk empty.
pub output_grows : (past output later longer bytes : List ℕ) → later ≡ past ++ length output ∷ [] → longer ≡ output ++ bytes →
    Elapses moment_of since_of (past, output) (later, longer) (λ s. AppendsPrefix bytes (Some output) s.output × (s.image ≡ no_bytes))
output_grows past output later longer bytes one_more appended =
    let P : Stood → Type 0 = λ s. AppendsPrefix bytes (Some output) s.output × (s.image ≡ no_bytes) in
    let after : Elapses moment_of since_of (past, output) (later, output ++ bytes) P =
    subst (λ (l : List ℕ). Elapses moment_of since_of (past, output) (l, output ++ bytes) P) (sym one_more) (added past output bytes) in
    subst (λ (l : List ℕ). Elapses moment_of since_of (past, output) (later, l) P) (sym appended) after
