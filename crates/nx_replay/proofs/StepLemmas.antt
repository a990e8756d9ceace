-- What a commit's writes leave of a log's groups, whole or cut short.
use Rattle.std.proofs.Common.{◌≡◌, ◌⊎◌, ℕ, zero, suc, ◌+◌, ◌-◌, ◌*◌, ◌<◌, ◌≤◌, List, [], ◌∷◌, ◌++◌, length, take, drop, refl, sym, ap, ◌∙◌, arith, true, false, inl, inr, get_or}
use Rattle.std.proofs.Common.{get_or-take, take-append-drop, length-drop, length-take}
use Rattle.std.proofs.lemmas.List.{drop-take, take-take, drop-drop, take_all, take_more_same, drop_more, append-nil}
use Rattle.std.proofs.lemmas.Bool.{eqb-true, ltb-true, ltb-false}
use Rattle.std.proofs.Math.Dec.{ltb}
use Rattle.std.specs.Prelude.{◌==◌, min}
use Rattle.nx_host.specs.Disk.{Torn}
use Rattle.nx_replay.specs.Log.{Group, is_group, group_size, groups_behind, groups_to, end_of, group_bytes, IsWhole}
use Rattle.nx_replay.proofs.GroupLemmas.{zero_or_more, group_says, groups-none, groups-prefix, groups-ended, end-within, groups-written, prefix-less, length-group_bytes}

-- where they end
abbrev pub end_to : ℕ → List ℕ → ℕ
end_to limit log = end_of (groups_to limit log)

is_group-closed : (b : ℕ) (bytes : List ℕ) → (b == 1) ≡ false → is_group (b ∷ bytes) ≡ false
is_group-closed b bytes closed = rw closed refl

-- behind a gate that isn't open stands no group
pub closed : (b : ℕ) (bytes : List ℕ) → (b == 1) ≡ false → groups_behind 0 (b ∷ bytes) ≡ []
closed b bytes shut = groups-none (b ∷ bytes) (is_group-closed b bytes shut)

pub less_or_not : (m n : ℕ) → (m < n) ⊎ (n ≤ m)
less_or_not m n = elim (ltb m n) as (λ b. ltb m n ≡ b → (m < n) ⊎ (n ≤ m)) [ true ↦ λ is. inl (ltb-true m n is) | false ↦ λ is. inr (ltb-false m n is) ] refl

-- so few bytes hold no group
pub short_none : (bytes : List ℕ) → length bytes ≤ 13 → groups_behind 0 bytes ≡ []
short_none bytes short =
    elim (is_group bytes) as (λ b. is_group bytes ≡ b → groups_behind 0 bytes ≡ []) [
      | false ↦ λ none. groups-none bytes none
      | true ↦ λ some. absurd (let whole = (group_says bytes some).whole in omega (arith, whole, short))
    ] refl

-- a write of one byte that a stop cuts short, and that left it as it was, changed nothing
pub same_but : (e : ℕ) (c l : List ℕ) → e < length l → Torn e 1 l c → take e c ≡ take e l → get_or c e 0 ≡ get_or l e 0 → c ≡ l
same_but e c l here torn prefix byte =
    let long : length c ≤ length l = omega (arith, here, torn.no_longer) in
    let rest : drop (e + 1) c ≡ drop (e + 1) l = sym (ap (λ (x : List ℕ). drop (e + 1) x) (take_all (length l) c long)) ∙ torn.after in
    sym (take-append-drop (e + 1) c) ∙ ap (λ (x : List ℕ). x ++ drop (e + 1) c) (take_more_same c l e 0 (omega (arith, here, torn.no_shorter)) here prefix byte)
    ∙ ap (λ (x : List ℕ). take (e + 1) l ++ x) rest ∙ take-append-drop (e + 1) l

take-append-more : (xs ys : List ℕ) (n : ℕ) → take (length xs + n) (xs ++ ys) ≡ xs ++ take n ys
take-append-more [] ys n = ap (λ (m : ℕ). take m ys) (let m : 0 + n ≡ n = omega arith in m)
take-append-more (x ∷ xs) ys n =
    ap (λ (m : ℕ). take m (x ∷ (xs ++ ys))) (let m : suc (length xs) + n ≡ suc (length xs + n) = omega arith in m) ∙ ap (λ (l : List ℕ). x ∷ l) (take-append-more xs ys n)

take-one-more : (n x : ℕ) (xs : List ℕ) → take (1 + n) (x ∷ xs) ≡ x ∷ take n xs
take-one-more n x xs = ap (λ (m : ℕ). take m (x ∷ xs)) (let m : 1 + n ≡ suc n = omega arith in m)

module _ (limit : ℕ) where
  -- the same prefix leaves the groups, and what stands at their end comes behind them
  pub continues : (c l : List ℕ) → end_to limit l < limit → take (end_to limit l) c ≡ take (end_to limit l) l → (0 < end_to limit l → end_to limit l < length c)
      → groups_to limit c ≡ groups_to limit l ++ groups_behind 0 (drop (end_to limit l) (take limit c))
  continues c l low same long = groups-prefix (length (take limit l)) (take limit c) (take limit l) (omega arith) (record {
    same = take-take (end_to limit l) limit c (omega (arith, low)) ∙ same ∙ sym (take-take (end_to limit l) limit l (omega (arith, low)));
    long = λ h. let more = long h in omega (arith, more, low, length-take limit c);
  })

  -- the byte at the end, and what stands behind it
  pub at_end : (c : List ℕ) (e : ℕ) → e < limit → e < length c → drop e (take limit c) ≡ get_or c e 0 ∷ drop (e + 1) (take limit c)
  at_end c e low long =
      drop_more (take limit c) e 0 (omega (arith, low, long, length-take limit c)) ∙ ap (λ (b : ℕ). b ∷ drop (e + 1) (take limit c)) (get_or-take limit c e 0 low)

  -- Step 2: nothing that is written behind a closed gate counts.
  pub written_behind : (n : ℕ) (l c : List ℕ) → end_to limit l < limit → end_to limit l < length l → (get_or l (end_to limit l) 0 == 1) ≡ false
      → Torn (end_to limit l + 1) n l c → groups_to limit c ≡ groups_to limit l
  written_behind n l c low here shut torn =
      let e = end_to limit l in
      let least : min (e + 1) (length l) ≡ e + 1 = omega (arith, here) in
      let prefix : take (e + 1) c ≡ take (e + 1) l = rw least at torn.before in
      let long : e < length c = omega (arith, here, torn.no_shorter) in
      let gate : get_or c e 0 ≡ get_or l e 0 = sym (get_or-take (e + 1) c e 0 (omega arith)) ∙ ap (λ (x : List ℕ). get_or x e 0) prefix ∙ get_or-take (e + 1) l e 0 (omega arith) in
      let none : groups_behind 0 (drop e (take limit c)) ≡ [] = ap (λ (x : List ℕ). groups_behind 0 x) (at_end c e low long) ∙ closed (get_or c e 0) (drop (e + 1) (take limit c)) (rw gate shut) in
      continues c l low (prefix-less e (e + 1) c l (omega arith) prefix) (λ h. long) ∙ rw none (append-nil (groups_to limit l))

  ends-within : (l : List ℕ) → 0 < end_to limit l → end_to limit l < length l
  ends-within l h = let less = end-within (length (take limit l)) (take limit l) (omega arith) h in omega (arith, less, length-take limit l)

  -- Step 1: a byte that is written at the end, where none stands or an open gate with no group behind it, makes no group.
  pub written_at_end : (l c : List ℕ) → end_to limit l < limit → (end_to limit l < length l → get_or l (end_to limit l) 0 ≡ 1)
      → Torn (end_to limit l) 1 l c → groups_to limit c ≡ groups_to limit l
  written_at_end l c low was_open torn =
      let e = end_to limit l in
      let fits : e ≤ length l = elim (zero_or_more e) [ inl none ↦ omega (arith, none) | inr more ↦ let less = ends-within l more in omega (arith, less) ] in
      let least : min e (length l) ≡ e = omega (arith, fits) in
      let prefix : take e c ≡ take e l = rw least at torn.before in
      let none : groups_behind 0 (drop e (take limit c)) ≡ [] =
      elim (less_or_not e (length c)) [
        | inr short ↦ short_none (drop e (take limit c)) (omega (arith, short, length-drop e (take limit c), length-take limit c))
        | inl long ↦
            elim (less_or_not e (length l)) [
              | inr empty ↦ short_none (drop e (take limit c)) (omega (arith, empty, torn.no_longer, length-drop e (take limit c), length-take limit c))
              | inl here ↦
                  elim (get_or c e 0 == 1) as (λ b. (get_or c e 0 == 1) ≡ b → groups_behind 0 (drop e (take limit c)) ≡ []) [
                    | false ↦ λ shut. ap (λ (x : List ℕ). groups_behind 0 x) (at_end c e low long) ∙ closed (get_or c e 0) (drop (e + 1) (take limit c)) shut
                    | true ↦ λ stays.
                        let same : c ≡ l = same_but e c l here torn prefix (eqb-true _ _ stays ∙ sym (was_open here)) in
                        rw same (groups-ended (length (take limit l)) (take limit l) (omega arith))
                  ] refl
            ]
      ] in
      continues c l low prefix (λ h. let less = ends-within l h in omega (arith, less, torn.no_shorter)) ∙ rw none (append-nil (groups_to limit l))

  -- A closed gate stands at the end, a group behind it and a gate behind that.
  pub record IsStaged (g : Group) (l rest : List ℕ) : Type 0 where
    pub gate : ℕ
    pub bytes : drop (end_to limit l) l ≡ gate ∷ (group_bytes g ++ 0 ∷ rest)
    pub shut : (gate == 1) ≡ false
    pub low : end_to limit l + group_size (length g.entries) < limit

  -- Step 3: once its gate is written, the group is there whole or not at all.
  pub gate_written : (g : Group) (rest l c : List ℕ) → IsWhole g → IsStaged g l rest → Torn (end_to limit l) 1 l c
      → (((get_or c (end_to limit l) 0 == 1) ≡ false) × (groups_to limit c ≡ groups_to limit l)) ⊎ (groups_to limit c ≡ groups_to limit l ++ g ∷ [])
  gate_written g rest l c whole staged torn =
      let e = end_to limit l in
      let behind = group_bytes g ++ 0 ∷ rest in
      let size : length (group_bytes g) ≡ 12 + 8196 * length g.entries = length-group_bytes g whole in
      let here : e < length l = omega (arith, length-drop e l, ap length staged.bytes) in
      let least : min e (length l) ≡ e = omega (arith, here) in
      let prefix : take e c ≡ take e l = rw least at torn.before in
      let long : length c ≤ length l = omega (arith, here, torn.no_longer) in
      let same_long : length c ≡ length l = omega (arith, long, torn.no_shorter) in
      let rest_l : drop (e + 1) l ≡ behind = sym (drop-drop 1 e l) ∙ ap (λ (x : List ℕ). drop 1 x) staged.bytes in
      let rest_c : drop (e + 1) c ≡ behind = sym (ap (λ (x : List ℕ). drop (e + 1) x) (take_all (length l) c long)) ∙ torn.after ∙ rest_l in
      let room : e + 1 + (limit - (e + 1)) ≡ limit = omega (arith, staged.low) in
      let rest_taken : drop (e + 1) (take limit c) ≡ take (limit - (e + 1)) behind =
      ap (λ (n : ℕ). drop (e + 1) (take n c)) (sym room) ∙ drop-take (e + 1) (limit - (e + 1)) c ∙ ap (λ (x : List ℕ). take (limit - (e + 1)) x) rest_c in
      let left = limit - (e + 1) - length (group_bytes g) - 1 in
      let whole_taken : take (limit - (e + 1)) behind ≡ group_bytes g ++ 0 ∷ take left rest =
      ap (λ (n : ℕ). take n behind) (let low : e + group_size (length g.entries) < limit = staged.low in (let m : limit - (e + 1) ≡ length (group_bytes g) + (1 + left) = omega (arith, low, size) in m))
      ∙ take-append-more (group_bytes g) (0 ∷ rest) (1 + left) ∙ ap (λ (x : List ℕ). group_bytes g ++ x) (take-one-more left 0 rest) in
      let at_gate : drop e (take limit c) ≡ get_or c e 0 ∷ (group_bytes g ++ 0 ∷ take left rest) =
      at_end c e (let low : e + group_size (length g.entries) < limit = staged.low in omega (arith, low)) (omega (arith, here, same_long)) ∙ ap (λ (x : List ℕ). get_or c e 0 ∷ x) (rest_taken ∙ whole_taken) in
      let first = continues c l (let low : e + group_size (length g.entries) < limit = staged.low in omega (arith, low)) prefix (λ h. omega (arith, here, same_long)) in
      elim (get_or c e 0 == 1) as (λ b. (get_or c e 0 == 1) ≡ b → (((get_or c e 0 == 1) ≡ false) × (groups_to limit c ≡ groups_to limit l)) ⊎ (groups_to limit c ≡ groups_to limit l ++ g ∷ [])) [
        | false ↦ λ shut. inl (
            let none : groups_behind 0 (drop e (take limit c)) ≡ [] = ap (λ (x : List ℕ). groups_behind 0 x) at_gate ∙ closed (get_or c e 0) (group_bytes g ++ 0 ∷ take left rest) shut in
            (shut, first ∙ rw none (append-nil (groups_to limit l)))
            )
        | true ↦ λ opened. inr (
            let one : groups_behind 0 (drop e (take limit c)) ≡ g ∷ [] =
            ap (λ (x : List ℕ). groups_behind 0 x) at_gate ∙ ap (λ (b : ℕ). groups_behind 0 (b ∷ (group_bytes g ++ 0 ∷ take left rest))) (eqb-true _ _ opened)
            ∙ groups-written g 0 (take left rest) whole ∙ ap (λ (x : List Group). g ∷ x) (closed 0 (take left rest) refl) in
            first ∙ rw one refl
            )
      ] refl

nothing_taken : (n : ℕ) → take {A = ℕ} n [] ≡ []
nothing_taken zero = refl
nothing_taken (suc n) = refl

pub drop_taken : (n m : ℕ) (xs : List ℕ) → drop n (take m xs) ≡ take (m - n) (drop n xs)
drop_taken zero m xs = ap (λ (k : ℕ). take k xs) (let h : m ≡ m - 0 = omega arith in h)
drop_taken (suc n) zero xs = sym (ap (λ (k : ℕ). take k (drop (suc n) xs)) (let h : 0 - suc n ≡ 0 = omega arith in h)) ∙ refl
drop_taken (suc n) (suc m) [] = sym (nothing_taken (suc m - suc n))
drop_taken (suc n) (suc m) (x ∷ xs) = drop_taken n m xs ∙ ap (λ (k : ℕ). take k (drop n xs)) (let h : m - n ≡ suc m - suc n = omega arith in h)

pub end_more : (gs : List Group) (g : Group) → end_of (gs ++ g ∷ []) ≡ end_of gs + group_size (length g.entries)
end_more [] g = omega arith
end_more (x ∷ gs) g = let ih = end_more gs g in omega (arith, ih)

-- how the log goes on behind a group that stands at its end
module _ (limit : ℕ) where
  pub end_then : (g : Group) (l c : List ℕ) → groups_to limit c ≡ groups_to limit l ++ g ∷ [] → end_to limit c ≡ end_to limit l + group_size (length g.entries)
  end_then g l c more = ap end_of more ∙ end_more (groups_to limit l) g
