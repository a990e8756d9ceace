-- An output that grows, and what is told of it.
use Rattle.std.proofs.Common.{◌≡◌, ℕ, ◌+◌, List, [], ◌++◌, take, length, min, Option, None, Some, refl, sym, ap, ◌∙◌, arith, append_assoc, append-nil}
use Rattle.std.proofs.lemmas.List.{take_min, take-append-le}
use Rattle.std.proofs.Math.Seq.{take-append-add}
use Rattle.nx_host.specs.Disk.{Keeps}
use Rattle.nx_host.specs.Host.{Appends, AppendsPrefix, Takes}

-- nothing is given
pub appends_nothing : (output : Option (List ℕ)) → Appends [] output output
appends_nothing None = tt
appends_nothing (Some was) = (was, refl, sym (append-nil was))

pub appends_then : (x y : List ℕ) (a b c : Option (List ℕ)) → Appends x a b → Appends y b c → Appends (x ++ y) a c
appends_then x y a b None first second = tt
appends_then x y a None (Some now) first (was, is, grew) = cc
appends_then x y a (Some mid) (Some now) (was, is, grew) (was', is', grew') =
    let same : mid ≡ was' = cc is' in
    (was, is, grew' ∙ ap (λ (w : List ℕ). w ++ y) (sym same ∙ grew) ∙ append_assoc was x y)

take-within : (n : ℕ) (x y : List ℕ) → take n x ≡ take (min n (length x)) (x ++ y)
take-within n x y = sym (take_min n x) ∙ sym (take-append-le (min n (length x)) x y (omega arith))

-- a prefix of a prefix
pub prefix_more : (x y : List ℕ) (a b : Option (List ℕ)) → AppendsPrefix x a b → AppendsPrefix (x ++ y) a b
prefix_more x y a None prefix = tt
prefix_more x y a (Some now) (was, n, is, grew) = (was, min n (length x), is, grew ∙ ap (λ (t : List ℕ). was ++ t) (take-within n x y))

-- a prefix behind what was given
pub prefix_then : (x y : List ℕ) (a b c : Option (List ℕ)) → Appends x a b → AppendsPrefix y b c → AppendsPrefix (x ++ y) a c
prefix_then x y a b None first second = tt
prefix_then x y a None (Some now) first (was, n, is, grew) = cc
prefix_then x y a (Some mid) (Some now) (was, is, grew) (was', n, is', grew') =
    let same : mid ≡ was' = cc is' in (
      was,
      length x + n,
      is,
      grew' ∙ ap (λ (w : List ℕ). w ++ take n y) (sym same ∙ grew) ∙ append_assoc was x (take n y)
          ∙ ap (λ (t : List ℕ). was ++ t) (sym (take-append-add x y n)),
    )

-- nothing more is a prefix of anything
pub keeps_prefix : (bytes : List ℕ) (old now : Option (List ℕ)) → Keeps old now → AppendsPrefix bytes old now
keeps_prefix bytes old None keeps = tt
keeps_prefix bytes old (Some was) keeps = (was, 0, keeps, sym (append-nil was))

-- nothing was taken
pub takes_nothing : (input : Option (List ℕ)) → Takes [] input input
takes_nothing None = tt
takes_nothing (Some left) = refl
