-- Whether bytes begin with a good group can be told.
use Rattle.std.proofs.Common.{◌≡◌, ◌⊎◌, ℕ, ◌<◌, ◌≤◌, ◌^◌, Bool, true, List, [], ◌∷◌, drop, length, refl, sym, ap, subst, ◌∙◌, arith, inl, inr, eq-eqb}
use Rattle.std.proofs.lemmas.Bool.{false≢true, eqb-true, cases_Bool}
use Rattle.std.specs.Prelude.{◌==◌}
use Rattle.byteorder.specs.Endian.{big_number}
use Rattle.nx_numbers.specs.Numbers.{number_at}
use Rattle.nx_replay.specs.Log.{Entry, entries_in, rise}
use Rattle.nx_replay.proofs.StepLemmas.{less_or_not}
use Rattle.nx_holdings.specs.declared.header.Header.{Header}
use Rattle.nx_holdings.specs.declared.header.Settings.{Settings}
use Rattle.nx_holdings.specs.Header.{header_bytes, AreSettings, IsInRange, IsHeader}
use Rattle.nx_holdings.proofs.HeaderLemmas.{says_settings, says_fields}
use Rattle.nx_ship.specs.Stream.{count_in, size_with, BeginsWithHeader, IsGood}

-- it holds or it doesn't
abbrev pub Told : Type 0 → Type 0
Told A = A ⊎ (A → ⊥)

both : {A B : Type 0} → A ⊎ (A → ⊥) → B ⊎ (B → ⊥) → (A × B) ⊎ ((A × B) → ⊥)
both (inl a) (inl b) = inl (a, b)
both (inl a) (inr not_b) = inr (λ p. not_b p.1)
both (inr not_a) b = inr (λ p. not_a p.0)

by : {A B : Type 0} → (A → B) → (B → A) → A ⊎ (A → ⊥) → B ⊎ (B → ⊥)
by there back (inl a) = inl (there a)
by there back (inr not_a) = inr (λ b. not_a (back b))

less : (m n : ℕ) → Told (m < n)
less m n = elim (less_or_not m n) [ inl below ↦ inl below | inr above ↦ inr (λ below. omega (arith, above, below)) ]

most : (m n : ℕ) → Told (m ≤ n)
most m n = elim (less_or_not n m) [ inl above ↦ inr (λ below. omega (arith, above, below)) | inr below ↦ inl below ]

same : (m n : ℕ) → Told (m ≡ n)
same m n =
    elim (cases_Bool (m == n)) [
      | inl holds ↦ inl (eqb-true m n holds)
      | inr fails ↦ inr (λ is. false≢true (sym fails ∙ eq-eqb m n is))
    ]

same_list : (xs ys : List ℕ) → Told (xs ≡ ys)
same_list [] [] = inl refl
same_list [] (y ∷ ys) = inr (λ is. let lost : [] ≡ y ∷ ys = is in cc)
same_list (x ∷ xs) [] = inr (λ is. let lost : x ∷ xs ≡ [] = is in cc)
same_list (x ∷ xs) (y ∷ ys) =
    by (λ (p : (x ≡ y) × (xs ≡ ys)). let a : x ≡ y = p.0 in let b : xs ≡ ys = p.1 in cc) (λ (is : x ∷ xs ≡ y ∷ ys). (let a : x ≡ y = cc in a, let b : xs ≡ ys = cc in b)) (both (same x y) (same_list xs ys))

is_true : (b : Bool) → Told (b ≡ true)
is_true b = elim (cases_Bool b) [ inl holds ↦ inl holds | inr fails ↦ inr (λ is. false≢true (sym fails ∙ is)) ]

-- Headers.

settings_told : (s : Settings) → Told (AreSettings s)
settings_told s =
    by (λ p. record { k = p.0; target = p.1.0; tolerance = p.1.1.0; limit = p.1.1.1 }) (λ (are : AreSettings s). (are.k, (are.target, (are.tolerance, are.limit))))
    (both (both (most 1 s.k) (most s.k 256)) (both (most s.target 100) (both (most s.tolerance 256) (both (most 64 s.limit) (most s.limit 16777216)))))

range_told : (h : Header) → Told (IsInRange h)
range_told h =
    by (λ p. record { format = p.0; settings = p.1.0; pages = p.1.1.0; catalog_length = p.1.1.1.0; pointers = (p.1.1.1.1.0.0, p.1.1.1.1.0.1.0, p.1.1.1.1.0.1.1); number = p.1.1.1.1.1 })
    (λ (is : IsInRange h). (is.format, (is.settings, (is.pages, (is.catalog_length, ((is.pointers.0, (is.pointers.1, is.pointers.2)), is.number))))))
    (both (both (most 1 h.format) (most h.format 2)) (both (settings_told h.settings) (both (both (most 2 h.pages) (most h.pages h.settings.limit)) (both (both (most 8 h.catalog_length) (less h.catalog_length (2 ^ 64))) (both (both (less h.free (2 ^ 32)) (both (less h.room (2 ^ 32)) (less h.catalog (2 ^ 32)))) (less h.number (2 ^ 64)))))))

abbrev settings_at : List ℕ → Settings
settings_at bytes = record { k = number_at 2 bytes 10; target = number_at 2 bytes 12; tolerance = number_at 2 bytes 14; limit = number_at 4 bytes 16 }

abbrev header_at : List ℕ → Header
header_at bytes = record {
  format = number_at 2 bytes 8;
  settings = settings_at bytes;
  pages = number_at 4 bytes 20;
  free = number_at 4 bytes 24;
  room = number_at 4 bytes 28;
  number = number_at 8 bytes 32;
  catalog = number_at 4 bytes 40;
  catalog_length = number_at 8 bytes 44;
}

header_is : (bytes : List ℕ) (h : Header) → IsHeader bytes h → header_at bytes ≡ h
header_is bytes h is = says_fields h bytes is (settings_at bytes) (says_settings h bytes is)

head_told : (bytes : List ℕ) (number : ℕ) → Told ((h : Header) × IsHeader bytes h × (h.number ≡ number))
head_told bytes number =
    let h = header_at bytes in
    by (λ p. (h, record { are = p.0; range = p.1.0 }, p.1.1))
    (λ (t : (h : Header) × IsHeader bytes h × (h.number ≡ number)).
    let e : h ≡ t.0 = header_is bytes t.0 t.1 in
    ((t.1).are ∙ ap (λ (x : Header). header_bytes x) (sym e), (subst IsInRange (sym e) (t.1).range, ap (λ (x : Header). x.number) e ∙ t.2)))
    (both (same_list bytes (header_bytes h)) (both (range_told h) (same h.number number)))

first_told : (number : ℕ) (es : List Entry) → Told (BeginsWithHeader number es)
first_told number [] = inr (λ has. has)
first_told number (e ∷ es) = both (same e.page 0) (head_told e.bytes number)

pub good_told : (bytes : List ℕ) → IsGood bytes ⊎ (IsGood bytes → ⊥)
good_told bytes =
    let n = count_in bytes in
    let es = entries_in n (drop 12 bytes) in
    by (λ p. record { some = p.0; few = p.1.0; whole = p.1.1.0; rises = p.1.1.1.0; header = p.1.1.1.1 }) (λ (is : IsGood bytes). (is.some, (is.few, (is.whole, (is.rises, is.header)))))
    (both (most 1 n) (both (most n 16777216) (both (most (size_with n) (length bytes)) (both (is_true (rise 0 es)) (first_told (big_number 8 bytes) es)))))
