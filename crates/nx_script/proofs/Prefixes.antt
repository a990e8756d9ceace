-- The first bytes of a line, which tell as much as the whole line.
use Rattle.std.proofs.Common.{◌≡◌, ℕ, zero, suc, ◌+◌, ◌-◌, ◌<◌, ◌≤◌, ◌||◌, Bool, true, false, List, [], ◌∷◌, ◌++◌, length, take, min, refl, sym, ap, ◌∙◌, subst, ◌⊎◌, inl, inr, ⊎_elim, arith, append-nil, take_all}
use Rattle.std.specs.Prelude.{codes, ◌==◌, if◌then◌else◌, None}
use Rattle.std.specs.Str.{bytes_eq}
use Rattle.std.proofs.Math.Seq.{take-take, take-append-add}
use Rattle.std.proofs.lemmas.Bool.{cases_lt, and_parts, eqb-true, lt-ltb, false_from_ne_true}
use Rattle.std.proofs.lemmas.List.{length-take, take-append-le, take_min}
use Rattle.std.proofs.lemmas.Slice.Eq.{bytes_eq-Decides}
use Rattle.nx_pyx.specs.Lines.{without_cr}
use Rattle.nx_script.specs.declared.command.Command.TheVariants.{Begin, Bad}
use Rattle.nx_pyx.specs.Field.{begins_with}
use Rattle.nx_pyx.proofs.HasRoomLemmas.{one_dropped}
use Rattle.nx_script.specs.Line.{longest_line, said_at_length, command_of}
use Rattle.nx_script.specs.Commands.{begins_load, loaded_name, is_dot}
use Rattle.nx_script.specs.Parser.{MeansSame}

-- a prefix of two lists
pub take-append : (n : ℕ) (xs ys : List ℕ) → take n (xs ++ ys) ≡ take n xs ++ take (n - length xs) ys
take-append n xs ys =
    ⊎_elim
    (λ (few : n < length xs).
    let none : n - length xs ≡ 0 = omega arith in
    take-append-le n xs ys (omega arith) ∙ sym (ap (λ (k : ℕ). take n xs ++ take k ys) none ∙ append-nil (take n xs)))
    (λ (all : length xs ≤ n).
    let parts : n ≡ length xs + (n - length xs) = omega arith in
    ap (λ (k : ℕ). take k (xs ++ ys)) parts ∙ take-append-add xs ys (n - length xs)
    ∙ ap (λ (l : List ℕ). l ++ take (n - length xs) ys) (sym (take_all n xs all)))
    (cases_lt n (length xs))

-- where the first n bytes of a line are held, and it goes on
pub held_more : (n : ℕ) (line bytes held new : List ℕ) → held ≡ take n line → new ≡ held ++ take (min (n - length held) (length bytes)) bytes →
    new ≡ take n (line ++ bytes)
held_more n line bytes held new is more =
    let room : n - length (take n line) ≡ n - length line = omega (arith, length-take n line) in
    more
    ∙ ap (λ (t : List ℕ). held ++ t) (take_min (n - length held) bytes)
    ∙ ap (λ (h : List ℕ). h ++ take (n - length h) bytes) is
    ∙ ap (λ (k : ℕ). take n line ++ take k bytes) room
    ∙ sym (take-append n line bytes)

-- three bytes tell whether a line is the dot
pub dot_prefix : (line : List ℕ) → is_dot (without_cr (take 3 line)) ≡ is_dot (without_cr line)
dot_prefix [] = refl
dot_prefix (a ∷ []) = refl
dot_prefix (a ∷ b ∷ []) = refl
dot_prefix (a ∷ b ∷ c ∷ []) = refl
dot_prefix (a ∷ b ∷ c ∷ d ∷ line) = refl

-- and one whether it begins with one
pub begins_prefix : (line : List ℕ) → begins_with 46 (take 3 line) ≡ begins_with 46 line
begins_prefix [] = refl
begins_prefix (a ∷ line) = refl

-- the dot begins with a dot
pub dot_begins : (line : List ℕ) → is_dot (without_cr line) ≡ true → begins_with 46 line ≡ true
dot_begins [] h = absurd (let no_byte : false ≡ true = h in cc)
dot_begins (a ∷ []) h = one (a == 13) h
  where
    one : (t : Bool) → is_dot (if t then [] else a ∷ []) ≡ true → (a == 46) ≡ true
    one true k = absurd (let no_byte : false ≡ true = k in cc)
    one false k = (and_parts (a == 46) true k).0
dot_begins (a ∷ b ∷ line) h = (and_parts (a == 46) (bytes_eq (without_cr (b ∷ line)) []) h).0

-- a prefix of what doesn't begin with a dot doesn't either
pub undotted_prefix : (n : ℕ) (line : List ℕ) → begins_with 46 line ≡ false → begins_with 46 (take n line) ≡ false
undotted_prefix zero line h = refl
undotted_prefix (suc n) [] h = refl
undotted_prefix (suc n) (a ∷ line) h = h

-- nor does what it goes on from
pub undotted_before : (line more : List ℕ) → begins_with 46 (line ++ more) ≡ false → begins_with 46 line ≡ false
undotted_before [] more h = refl
undotted_before (a ∷ line) more h = h

-- a line that doesn't begin with a dot isn't the dot
pub undotted_line : (line : List ℕ) → begins_with 46 line ≡ false → is_dot (without_cr line) ≡ false
undotted_line line h = false_from_ne_true (is_dot (without_cr line)) (λ is. let no_dot : false ≡ true = sym h ∙ dot_begins line is in absurd (cc))

-- the first bytes stay where the CR at the end is left out
take-without_cr : (k : ℕ) (line : List ℕ) → k < length line → take k (without_cr line) ≡ take k line
take-without_cr zero line h = refl
take-without_cr (suc k) [] h = absurd (omega arith)
take-without_cr (suc k) (b ∷ []) h = absurd (omega arith)
take-without_cr (suc k) (b ∷ c ∷ bytes) h = ap (λ (l : List ℕ). b ∷ l) (take-without_cr k (c ∷ bytes) (omega arith))

-- a line that is too long for a command says little
long_load : (a : List ℕ) → longest_line < length a → begins_load a ≡ bytes_eq (take 5 a) (codes "load ")
long_load a long =
    ap (λ (t : Bool). t || bytes_eq (take 5 a) (codes "load "))
    (false_from_ne_true (bytes_eq a (codes "load"))
    (λ is. let e : length a ≡ 4 = ap length ((bytes_eq-Decides a (codes "load")).0 is) in absurd (omega arith)))

long_name : (a : List ℕ) → longest_line < length a → loaded_name a ≡ None
long_name a long = rw (lt-ltb longest_line (length a) long) refl

long_command : (a : List ℕ) → longest_line < length a → command_of a ≡ said_at_length a
long_command a long = rw (lt-ltb longest_line (length a) long) refl

-- lines that are too long and begin alike mean the same
long_same : (a b : List ℕ) → longest_line < length a → longest_line < length b → take 6 a ≡ take 6 b → MeansSame a b
long_same a b long also same =
    let five : take 5 a ≡ take 5 b = sym (take-take 5 6 a (omega arith)) ∙ ap (take 5) same ∙ take-take 5 6 b (omega arith) in
    record {
      begins = long_load a long ∙ ap (λ (l : List ℕ). bytes_eq l (codes "load ")) five ∙ sym (long_load b also);
      name = long_name a long ∙ sym (long_name b also);
      command =
          long_command a long ∙ ap (λ (l : List ℕ). if bytes_eq l (codes "begin ") then Begin false else Bad) same
          ∙ sym (long_command b also);
    }

-- so many bytes of a line mean the same as all
pub means_same : (n : ℕ) (line : List ℕ) → longest_line + 2 ≤ n → MeansSame (without_cr (take n line)) (without_cr line)
means_same n line enough =
    ⊎_elim
    (λ (more : n < length line).
    let size : length (take n line) ≡ n = (let e : length (take n line) ≡ min n (length line) = length-take n line in omega arith) in
    let first : length (take n line) ≤ length (without_cr (take n line)) + 1 = one_dropped (take n line) in
    let second : length line ≤ length (without_cr line) + 1 = one_dropped line in
    long_same (without_cr (take n line)) (without_cr line) (omega arith) (omega arith)
    (take-without_cr 6 (take n line) (omega arith) ∙ take-take 6 n line (omega arith) ∙ sym (take-without_cr 6 line (omega arith))))
    (λ (all : length line ≤ n).
    subst (λ (l : List ℕ). MeansSame (without_cr l) (without_cr line)) (sym (take_all n line all))
    (record { begins = refl; name = refl; command = refl }))
    (cases_lt n (length line))

-- where a line that goes on is the dot, it was before, or hadn't begun
pub dot_before : (line more : List ℕ) → is_dot (without_cr (line ++ more)) ≡ true → (line ≡ []) ⊎ (is_dot (without_cr line) ≡ true)
dot_before [] more h = inl refl
dot_before (a ∷ []) [] h = inr h
dot_before (a ∷ []) (b ∷ more) h = inr (alone a ((and_parts (a == 46) (bytes_eq (without_cr (b ∷ more)) []) h).0))
  where
    alone : (x : ℕ) → (x == 46) ≡ true → is_dot (without_cr (x ∷ [])) ≡ true
    alone x is = ap (λ (y : ℕ). is_dot (without_cr (y ∷ []))) (eqb-true x 46 is)
dot_before (a ∷ b ∷ []) [] h = inr h
dot_before (a ∷ b ∷ []) (c ∷ more) h = absurd (let no_end : false ≡ true = (and_parts (a == 46) (bytes_eq (without_cr (b ∷ c ∷ more)) []) h).1 in cc)
dot_before (a ∷ b ∷ c ∷ line) more h = absurd (let no_end : false ≡ true = (and_parts (a == 46) (bytes_eq (without_cr (b ∷ c ∷ line ++ more)) []) h).1 in cc)

-- the dot is short
pub dot_short : (line : List ℕ) → is_dot (without_cr line) ≡ true → take 3 line ≡ line
dot_short [] h = refl
dot_short (a ∷ []) h = refl
dot_short (a ∷ b ∷ []) h = refl
dot_short (a ∷ b ∷ c ∷ line) h = absurd (let no_end : false ≡ true = (and_parts (a == 46) (bytes_eq (without_cr (b ∷ c ∷ line)) []) h).1 in cc)
