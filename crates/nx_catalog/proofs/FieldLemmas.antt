-- A field that is read is the field that was written, and what was written is read again.
use Rattle.std.proofs.Common.{◌≡◌, ℕ, zero, suc, ◌+◌, ◌<◌, ◌≤◌, Bool, true, false, cond, ltb, List, [], ◌∷◌, ◌++◌, length, get_or, take, drop, Option, Some, None, refl, sym, ap, subst, ◌∙◌, append_assoc, arith, inl, inr}
use Rattle.std.specs.Prelude.{◌≢◌}
use Rattle.std.specs.Int.{Width, w16, w32, byte_len, from_be_bytes, to_be_bytes}
use Rattle.std.proofs.lemmas.Bool.{cases_lt, ltb-false, le-ltb}
use Rattle.std.proofs.lemmas.List.{take_at, drop_at, take-append-drop, length-append, length-take, get_or-drop, get_or-take, get_or_past}
use Rattle.std.proofs.lemmas.Nat.{be_bytes_2, be_bytes_4, from_be_bytes-to_be_bytes_2, from_be_bytes-to_be_bytes_4}
use Rattle.nx_hold.specs.declared.entry.DocEntry.{DocEntry}
use Rattle.nx_matrix.specs.declared.rule.Entry.{Entry}
use Rattle.nx_matrix.specs.declared.rule.Entry.TheVariants.{Standalone, Cluster, Free}
use Rattle.nx_catalog.specs.Catalog.{with_length, place_bytes, entry_byte}
use Rattle.nx_catalog.specs.Reading.{◌>>=◌, leading_number, counted_at, place_at, entry_at}

abbrev pub IsBytes : List ℕ → Type 0
IsBytes bytes = (i : ℕ) → get_or bytes i 0 < 256

IsBytes-drop : (n : ℕ) (bytes : List ℕ) → IsBytes bytes → IsBytes (drop n bytes)
IsBytes-drop n bytes h i = rw get_or-drop (h (n + i))

IsBytes-take : (n : ℕ) (bytes : List ℕ) → IsBytes bytes → IsBytes (take n bytes)
IsBytes-take n bytes h i =
    elim (cases_lt i n) [
      | inl lt ↦ rw (get_or-take n bytes i 0 lt) (h i)
      | inr le ↦ rw (get_or_past (take n bytes) i 0 (omega (arith, length-take n bytes))) (omega arith)
    ]

-- the value of a step that gave one
pub bind_some : {A B : Type 0} (r : Option A) (f : A → Option B) (y : B) → (r >>= f) ≡ Some y → (x : A) × (r ≡ Some x) × (f x ≡ Some y)
bind_some (Some x) f y e = (x, refl, e)
bind_some None f y e = absurd (cc)

-- a test that let the value through
pub if_some : {A : Type 0} (b : Bool) (r : Option A) (y : A) → cond b r None ≡ Some y → (b ≡ true) × (r ≡ Some y)
if_some true r y e = (refl, e)
if_some false r y e = absurd (cc)

pub unless_some : {A : Type 0} (b : Bool) (r : Option A) (y : A) → cond b None r ≡ Some y → (b ≡ false) × (r ≡ Some y)
unless_some true r y e = absurd (cc)
unless_some false r y e = (refl, e)

abbrev given : {A : Type 0} → A → Option A
given x = Some x

pub some_is : {A : Type 0} (x y : A) → given x ≡ given y → x ≡ y
some_is x y e = cc

-- what a reader took from the front
pub record Takes (bytes text rest : List ℕ) : Type 0 where
  pub parts : bytes ≡ text ++ rest
  pub rest_fits : IsBytes rest

pub takes_then : {a b c : List ℕ} (x y : List ℕ) → Takes a x b → Takes b y c → Takes a (x ++ y) c
takes_then {a} {b} {c} x y p q = record { parts = p.parts ∙ ap (λ (t : List ℕ). x ++ t) q.parts ∙ sym (append_assoc x y c); rest_fits = q.rest_fits }

pub record IsWide (w : Width) (limit : ℕ) : Type 0 where
  pub len : (n : ℕ) → length (to_be_bytes w n) ≡ byte_len w
  pub back : (bytes : List ℕ) → length bytes ≡ byte_len w → IsBytes bytes → to_be_bytes w (from_be_bytes w bytes) ≡ bytes
  pub again : (n : ℕ) → n < limit → from_be_bytes w (to_be_bytes w n) ≡ n
  pub below : (bytes : List ℕ) → IsBytes bytes → from_be_bytes w bytes < limit

pub wide_two : IsWide w16 65536
wide_two = record {
  len = λ n. refl;
  back = λ bytes len fits. be_bytes_2 bytes _ len fits refl;
  again = λ n lt. from_be_bytes-to_be_bytes_2 n lt;
  below = λ bytes fits. omega (arith, fits 0, fits 1);
}

pub wide_four : IsWide w32 4294967296
wide_four = record {
  len = λ n. refl;
  back = λ bytes len fits. be_bytes_4 bytes _ len fits refl;
  again = λ n lt. from_be_bytes-to_be_bytes_4 n lt;
  below = λ bytes fits. omega (arith, fits 0, fits 1, fits 2, fits 3);
}

pub number_takes : (w : Width) (limit : ℕ) (wide : IsWide w limit) (bytes : List ℕ) (x : ℕ × List ℕ) → IsBytes bytes → leading_number w bytes ≡ Some x → Takes bytes (to_be_bytes w x.0) x.1 × (x.0 < limit)
number_takes w limit wide bytes x fits e =
    let g = unless_some (ltb (length bytes) (byte_len w)) (Some (from_be_bytes w (take (byte_len w) bytes), drop (byte_len w) bytes)) x e in
    let is : (from_be_bytes w (take (byte_len w) bytes), drop (byte_len w) bytes) ≡ x = some_is _ x g.1 in
    let long : byte_len w ≤ length bytes = ltb-false _ _ g.0 in
    let front = IsBytes-take (byte_len w) bytes fits in
    let number : to_be_bytes w (from_be_bytes w (take (byte_len w) bytes)) ≡ take (byte_len w) bytes = wide.back (take (byte_len w) bytes) (omega (arith, length-take (byte_len w) bytes)) front in
    subst (λ (y : ℕ × List ℕ). Takes bytes (to_be_bytes w y.0) y.1 × (y.0 < limit)) is
    (record { parts = sym (take-append-drop (byte_len w) bytes) ∙ ap (λ (t : List ℕ). t ++ drop (byte_len w) bytes) (sym number); rest_fits = IsBytes-drop (byte_len w) bytes fits }, wide.below (take (byte_len w) bytes) front)

pub number_again : (w : Width) (limit : ℕ) (wide : IsWide w limit) (n : ℕ) (rest : List ℕ) → n < limit → leading_number w (to_be_bytes w n ++ rest) ≡ Some (n, rest)
number_again w limit wide n rest lt =
    let len = wide.len n in
    let long : ltb (length (to_be_bytes w n ++ rest)) (byte_len w) ≡ false = le-ltb _ _ (omega (arith, length-append (to_be_bytes w n) rest)) in
    rw (long, take_at (to_be_bytes w n) rest (byte_len w) len, drop_at (to_be_bytes w n) rest (byte_len w) len, wide.again n lt) refl

pub counted_takes : (bytes : List ℕ) (x : List ℕ × List ℕ) → IsBytes bytes → counted_at bytes ≡ Some x → Takes bytes (with_length x.0) x.1
unfolding counted_at
counted_takes bytes x fits e =
    let b = bind_some (leading_number w16 bytes) (λ n. cond (ltb (length n.1) n.0) None (Some (take n.0 n.1, drop n.0 n.1))) x e in
    let n = b.0 in
    let t = number_takes w16 65536 wide_two bytes n fits b.1 in
    let g = unless_some (ltb (length n.1) n.0) (Some (take n.0 n.1, drop n.0 n.1)) x b.2 in
    let long : n.0 ≤ length n.1 = ltb-false _ _ g.0 in
    let len : length (take n.0 n.1) ≡ n.0 = omega (arith, length-take n.0 n.1) in
    let second : Takes n.1 (take n.0 n.1) (drop n.0 n.1) = record { parts = sym (take-append-drop n.0 n.1); rest_fits = IsBytes-drop n.0 n.1 (t.0).rest_fits } in
    let both = takes_then (to_be_bytes w16 n.0) (take n.0 n.1) t.0 second in
    let whole : Takes bytes (with_length (take n.0 n.1)) (drop n.0 n.1) = subst (λ (k : ℕ). Takes bytes (to_be_bytes w16 k ++ take n.0 n.1) (drop n.0 n.1)) (sym len) both in
    subst (λ (p : List ℕ × List ℕ). Takes bytes (with_length p.0) p.1) (some_is _ x g.1) whole

pub counted_again : (text rest : List ℕ) → length text < 65536 → counted_at (with_length text ++ rest) ≡ Some (text, rest)
unfolding counted_at
counted_again text rest lt =
    let long : ltb (length (text ++ rest)) (length text) ≡ false = le-ltb _ _ (omega (arith, length-append text rest)) in
    rw (number_again w16 65536 wide_two (length text) (text ++ rest) lt, long, take_at text rest (length text) refl, drop_at text rest (length text) refl) refl

-- the numbers of an entry fit their fields
abbrev pub Fit : DocEntry → Type 0
Fit entry = (entry.root.page < 4294967296) × (entry.root.slot < 65536) × (entry.nodes < 4294967296)

pub place_takes : (bytes : List ℕ) (x : DocEntry × List ℕ) → IsBytes bytes → place_at bytes ≡ Some x → Takes bytes (place_bytes x.0) x.1 × Fit x.0
unfolding place_at
place_takes bytes x fits e =
    let a = bind_some (leading_number w32 bytes) (λ page. leading_number w16 page.1 >>= λ slot. leading_number w32 slot.1 >>= λ nodes. Some (record { root = record { page = page.0; slot = slot.0 }; nodes = nodes.0 }, nodes.1)) x e in
    let b = bind_some (leading_number w16 a.0.1) (λ slot. leading_number w32 slot.1 >>= λ nodes. Some (record { root = record { page = a.0.0; slot = slot.0 }; nodes = nodes.0 }, nodes.1)) x a.2 in
    let c = bind_some (leading_number w32 b.0.1) (λ nodes. Some (record { root = record { page = a.0.0; slot = b.0.0 }; nodes = nodes.0 }, nodes.1)) x b.2 in
    let t0 = number_takes w32 4294967296 wide_four bytes a.0 fits a.1 in
    let t1 = number_takes w16 65536 wide_two a.0.1 b.0 (t0.0).rest_fits b.1 in
    let t2 = number_takes w32 4294967296 wide_four b.0.1 c.0 (t1.0).rest_fits c.1 in
    let t01 = takes_then (to_be_bytes w32 a.0.0) (to_be_bytes w16 b.0.0) t0.0 t1.0 in
    let t = takes_then (to_be_bytes w32 a.0.0 ++ to_be_bytes w16 b.0.0) (to_be_bytes w32 c.0.0) t01 t2.0 in
    subst (λ (y : DocEntry × List ℕ). Takes bytes (place_bytes y.0) y.1 × Fit y.0) (some_is _ x c.2) (t, (t0.1, t1.1, t2.1))

pub place_again : (entry : DocEntry) (rest : List ℕ) → Fit entry → place_at (place_bytes entry ++ rest) ≡ Some (entry, rest)
unfolding place_at
place_again entry rest fit =
    let regrouped : place_bytes entry ++ rest ≡ to_be_bytes w32 entry.root.page ++ (to_be_bytes w16 entry.root.slot ++ (to_be_bytes w32 entry.nodes ++ rest)) = refl in
    ap place_at regrouped
    ∙ rw (
      number_again w32 4294967296 wide_four entry.root.page (to_be_bytes w16 entry.root.slot ++ (to_be_bytes w32 entry.nodes ++ rest)) fit.0,
      number_again w16 65536 wide_two entry.root.slot (to_be_bytes w32 entry.nodes ++ rest) fit.1,
      number_again w32 4294967296 wide_four entry.nodes rest fit.2,
    ) refl

IsBytes-rest : (b : ℕ) (bytes : List ℕ) → IsBytes (b ∷ bytes) → IsBytes bytes
IsBytes-rest b bytes h i = h (suc i)

pub entry_takes : (bytes : List ℕ) (x : Entry × List ℕ) → IsBytes bytes → entry_at bytes ≡ Some x → Takes bytes (entry_byte x.0 ∷ []) x.1 × (x.0 ≢ Free)
unfolding entry_at
entry_takes [] x fits e = absurd (cc)
entry_takes (zero ∷ rest) x fits e = absurd (cc)
entry_takes (suc zero ∷ rest) x fits e =
    subst (λ (y : Entry × List ℕ). Takes (1 ∷ rest) (entry_byte y.0 ∷ []) y.1 × (y.0 ≢ Free)) (some_is _ x e) (record { parts = refl; rest_fits = IsBytes-rest 1 rest fits }, λ same. cc)
entry_takes (suc (suc zero) ∷ rest) x fits e =
    subst (λ (y : Entry × List ℕ). Takes (2 ∷ rest) (entry_byte y.0 ∷ []) y.1 × (y.0 ≢ Free)) (some_is _ x e) (record { parts = refl; rest_fits = IsBytes-rest 2 rest fits }, λ same. cc)
entry_takes (suc (suc (suc b)) ∷ rest) x fits e = absurd (cc)

pub entry_again : (entry : Entry) (rest : List ℕ) → entry ≢ Free → entry_at (entry_byte entry ∷ rest) ≡ Some (entry, rest)
unfolding entry_at
entry_again Standalone rest bound = refl
entry_again Cluster rest bound = refl
entry_again Free rest bound = absurd (bound refl)
