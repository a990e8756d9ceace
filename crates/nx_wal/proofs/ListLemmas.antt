-- Lists of the entries of a map.
use Rattle.std.proofs.Common.{◌≡◌, ℕ, List, [], ◌∷◌, ◌++◌, sym, ap, subst, ◌∙◌, Bool, inl, inr, cond}
use Rattle.std.proofs.lemmas.Bool.{cases_Bool, eqb-true}
use Rattle.std.proofs.lemmas.List.{append-nil}
use Rattle.std.proofs.lemmas.List.Elements.{All-head, All-tail}
use Rattle.std.specs.Prelude.{Some, None, All, Result, Ok, Err, OnOk, OnErr}
use Rattle.std.specs.List.{AllByRecursion}
use Rattle.std.specs.Map.{lookup, keys_of, values_of}
use Rattle.std.specs.BTreeMap.{is_at}
use Rattle.std.specs.Ordering.{nat_cmp}
use Rattle.nx_wal.proofs.ReadingLemmas.{at_number, some_same}

pub all_push : {T : Type 0} (P : T → Type 0) (es : List T) (e : T) → AllByRecursion P es → P e → AllByRecursion P (es ++ e ∷ [])
all_push P [] e all last = (last, tt)
all_push P (x ∷ es) e all last = (all.0, all_push P es e all.1 last)

pub all_weaker : {T : Type 0} (P Q : T → Type 0) (es : List T) → ((e : T) → P e → Q e) → AllByRecursion P es → AllByRecursion Q es
all_weaker P Q [] f all = tt
all_weaker P Q (e ∷ es) f all = (f e all.0, all_weaker P Q es f all.1)

pub all_middle : {T : Type 0} (P : T → Type 0) (xs ys : List T) (y : T) → AllByRecursion P (xs ++ y ∷ ys) → P y
all_middle P [] ys y all = all.0
all_middle P (x ∷ xs) ys y all = all_middle P xs ys y all.1

pub all_prefix : {T : Type 0} (P : T → Type 0) (xs ys : List T) → AllByRecursion P (xs ++ ys) → AllByRecursion P xs
all_prefix P [] ys all = tt
all_prefix P (x ∷ xs) ys all = (all.0, all_prefix P xs ys all.1)

-- what holds of each key, and of each value
pub all_keys : {T : Type 0} (P : ℕ → Type 0) (es : List (ℕ × T)) → All P (keys_of es) → AllByRecursion (λ (e : ℕ × T). P e.0) es
all_keys P [] all = tt
all_keys P (e ∷ es) all = (All-head P e.0 (keys_of es) all, all_keys P es (All-tail P e.0 (keys_of es) all))

pub all_values : {T : Type 0} (P : T → Type 0) (es : List (ℕ × T)) → All P (values_of es) → AllByRecursion (λ (e : ℕ × T). P e.1) es
all_values P [] all = tt
all_values P (e ∷ es) all = (All-head P e.1 (values_of es) all, all_values P es (All-tail P e.1 (values_of es) all))

-- what holds of each entry holds of one that is found
pub all_at : {T : Type 0} (P : ℕ × T → Type 0) (es : List (ℕ × T)) (p : ℕ) (x : T) → AllByRecursion P es → lookup (is_at (nat_cmp p)) es ≡ Some x → P (p, x)
all_at P [] p x all found = absurd (let lost : None ≡ Some x = found in cc)
all_at {T = T} P (e ∷ es) p x all found =
    elim (cases_Bool (is_at (nat_cmp p) e.0)) [
      | inl holds ↦
          let key : e.0 ≡ p = eqb-true e.0 p (sym (at_number p e.0) ∙ holds) in
          let value : e.1 ≡ x = some_same (sym (ap (λ (b : Bool). cond b (Some e.1) (lookup (is_at (nat_cmp p)) es)) holds) ∙ found) in
          subst (λ (k : ℕ). P (k, x)) key (subst (λ (y : T). P (e.0, y)) value all.0)
      | inr fails ↦ all_at P es p x all.1 (sym (ap (λ (b : Bool). cond b (Some e.1) (lookup (is_at (nat_cmp p)) es)) fails) ∙ found)
    ]

-- at the end of a loop
pub all_gone : {T : Type 0} (gone left all : List T) → left ≡ [] → gone ++ left ≡ all → gone ≡ all
all_gone gone left all none split = sym (append-nil gone) ∙ ap (λ xs. gone ++ xs) (sym none) ∙ split

-- whether a call went well or not
pub either_way : {T E A B C : Type 0} (r : Result T E) → OnOk r A → OnErr r B → (A → C) → (B → C) → C
either_way (Ok x) a b f g = f a
either_way (Err e) a b f g = g b
