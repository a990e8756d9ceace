-- What writes do to an area, byte by byte.
use Rattle.std.proofs.Common.{◌≡◌, ◌⊎◌, inl, inr, ℕ, ◌+◌, ◌-◌, ◌<◌, ◌≤◌, List, length, take, drop, get_or, min, max, refl, sym, ap, ◌∙◌, arith}
use Rattle.std.proofs.lemmas.Bool.{cases_lt}
use Rattle.std.proofs.lemmas.List.{length-take, length-drop, get_or-take, get_or-drop, ext_get_or}
use Rattle.nx_host.specs.declared.disk.Area.{Area}
use Rattle.nx_host.specs.declared.disk.Area.TheVariants.{Pages, Log}
use Rattle.nx_host.specs.Disk.{Image, Written, Torn, WritesTo, TearsIn, ComesTorn, area_of, other_area_of}

get_or-dropped : (k i : ℕ) (bytes : List ℕ) → k ≤ i → get_or (drop k bytes) (i - k) 0 ≡ get_or bytes i 0
get_or-dropped k i bytes le = get_or-drop k bytes (i - k) 0 ∙ ap (λ (j : ℕ). get_or bytes j 0) (let h : k + (i - k) ≡ i = omega (arith, le) in h)

-- Two lists of one prefix, or of one rest.

same_before : (n i : ℕ) (old new : List ℕ) → take (min n (length old)) new ≡ take n old → i < n → i < length old → get_or new i 0 ≡ get_or old i 0
same_before n i old new same below within =
    sym (get_or-take (min n (length old)) new i 0 (omega (arith, below, within))) ∙ ap (λ (l : List ℕ). get_or l i 0) same ∙ get_or-take n old i 0 below

before_by : (n : ℕ) (old new : List ℕ) → length old ≤ length new → ((i : ℕ) → i < n → i < length old → get_or new i 0 ≡ get_or old i 0) →
    take (min n (length old)) new ≡ take n old
before_by n old new longer same =
    let k = min n (length old) in
    let long : length (take k new) ≡ min k (length new) = length-take k new in
    let was_long : length (take n old) ≡ min n (length old) = length-take n old in
    ext_get_or 0 (take k new) (take n old) (omega (arith, long, was_long, longer))
    (λ i within.
    let low : i < k = omega (arith, within, long) in
    get_or-take k new i 0 low ∙ same i (omega (arith, low)) (omega (arith, low)) ∙ sym (get_or-take n old i 0 (omega (arith, low))))

after_by : (k : ℕ) (old new : List ℕ) → length new ≡ length old → ((i : ℕ) → k ≤ i → i < length old → get_or new i 0 ≡ get_or old i 0) → drop k new ≡ drop k old
after_by k old new long same =
    let now_long : length (drop k new) ≡ length new - k = length-drop k new in
    let was_long : length (drop k old) ≡ length old - k = length-drop k old in
    ext_get_or 0 (drop k new) (drop k old) (omega (arith, now_long, was_long, long))
    (λ i within. get_or-drop k new i 0 ∙ same (k + i) (omega arith) (omega (arith, within, now_long, long)) ∙ sym (get_or-drop k old i 0))

-- Writes that a crash cuts short.

-- outside the range each byte below the old end is left
pub torn_at : {at n : ℕ} {old new : List ℕ} → Torn at n old new → (i : ℕ) → i < length old → (i < at) ⊎ (at + n ≤ i) → get_or new i 0 ≡ get_or old i 0
torn_at {at = at} {n = n} {old = old} {new = new} torn i within (inl below) = same_before at i old new torn.before below within
torn_at {at = at} {n = n} {old = old} {new = new} torn i within (inr above) =
    sym (get_or-take (length old) new i 0 within)
    ∙ sym (get_or-dropped (at + n) i (take (length old) new) above)
    ∙ ap (λ (l : List ℕ). get_or l (i - (at + n)) 0) torn.after
    ∙ get_or-dropped (at + n) i old above

-- and that is all that a torn write says of them
pub torn_by : (at n : ℕ) (old new : List ℕ) → length old ≤ length new → length new ≤ max (length old) (at + n) →
    ((i : ℕ) → i < length old → (i < at) ⊎ (at + n ≤ i) → get_or new i 0 ≡ get_or old i 0) → Torn at n old new
torn_by at n old new longer bounded same =
    let cut : length (take (length old) new) ≡ min (length old) (length new) = length-take (length old) new in
    record {
      before = before_by at old new longer (λ i below within. same i within (inl below));
      after = after_by (at + n) old (take (length old) new) (omega (arith, cut, longer)) (λ i above within. get_or-take (length old) new i 0 within ∙ same i within (inr above));
      no_shorter = longer;
      no_longer = bounded;
    }

-- an area is torn from itself
pub torn_self : (at n : ℕ) (bytes : List ℕ) → Torn at n bytes bytes
torn_self at n bytes = torn_by at n bytes bytes (omega arith) (omega arith) (λ i within outside. refl)

-- and from nothing but itself by a write of no bytes
pub torn_nothing : {at : ℕ} {old new : List ℕ} → at ≤ length old → Torn at 0 old new → new ≡ old
torn_nothing {at = at} {old = old} {new = new} here torn =
    let longer : length old ≤ length new = torn.no_shorter in
    let bounded : length new ≤ max (length old) (at + 0) = torn.no_longer in
    let long : length new ≡ length old = omega (arith, longer, bounded, here) in
    ext_get_or 0 new old long
    (λ i within. torn_at torn i (omega (arith, within, long)) (either i at))
  where
    either : (i at : ℕ) → (i < at) ⊎ (at + 0 ≤ i)
    either i at = elim (cases_lt i at) [ inl below ↦ inl below | inr above ↦ inr (omega (arith, above)) ]

image_is : (area : Area) (old new : Image) → area_of area new ≡ area_of area old → other_area_of area new ≡ other_area_of area old → new ≡ old
image_is Pages old new here there = ap (λ (p : List ℕ). record { pages = p; log = new.log }) here ∙ ap (λ (l : List ℕ). record { pages = old.pages; log = l }) there
image_is Log old new here there = ap (λ (p : List ℕ). record { pages = p; log = new.log }) there ∙ ap (λ (l : List ℕ). record { pages = old.pages; log = l }) here

-- and so is an image
pub tears_self : (area : Area) (at n : ℕ) (image : Image) → TearsIn area at n image image
tears_self area at n image = record { here = torn_self at n (area_of area image); there = refl }

pub tears_nothing : {area : Area} {at : ℕ} {old new : Image} → at ≤ length (area_of area old) → TearsIn area at 0 old new → new ≡ old
tears_nothing {area = area} {old = old} {new = new} here tears = image_is area old new (torn_nothing here tears.here) tears.there

-- a crash may leave an image that it might have left before the write
pub comes_self : (area : Area) (at n : ℕ) (images : Image → Type 0) (image : Image) → images image → ComesTorn area at n images image
comes_self area at n images image left = (image, left, tears_self area at n image)

-- Writes that are done.

-- outside the range each byte is left
pub written_at : {at : ℕ} {bytes old new : List ℕ} → Written at bytes old new → (i : ℕ) → ((i < at) × (i < length old)) ⊎ (at + length bytes ≤ i) → get_or new i 0 ≡ get_or old i 0
written_at {at = at} {old = old} {new = new} written i (inl before) = same_before at i old new written.before before.0 before.1
written_at {at = at} {bytes = bytes} {old = old} {new = new} written i (inr above) =
    sym (get_or-dropped (at + length bytes) i new above) ∙ ap (λ (l : List ℕ). get_or l (i - (at + length bytes)) 0) written.after ∙ get_or-dropped (at + length bytes) i old above

-- in the range stand the bytes
pub written_here : {at : ℕ} {bytes old new : List ℕ} → Written at bytes old new → (i : ℕ) → i < length bytes → get_or new (at + i) 0 ≡ get_or bytes i 0
written_here {at = at} {bytes = bytes} {new = new} written i within =
    sym (get_or-drop at new i 0) ∙ sym (get_or-take (length bytes) (drop at new) i 0 within) ∙ ap (λ (l : List ℕ). get_or l i 0) written.here

-- and that is all that a write says of them
pub written_by : (at : ℕ) (bytes old new : List ℕ) → length new ≡ max (length old) (at + length bytes) →
    ((i : ℕ) → i < length old → (i < at) ⊎ (at + length bytes ≤ i) → get_or new i 0 ≡ get_or old i 0) →
    ((i : ℕ) → i < length bytes → get_or new (at + i) 0 ≡ get_or bytes i 0) → Written at bytes old new
written_by at bytes old new long same here =
    let dropped : length (drop at new) ≡ length new - at = length-drop at new in
    let cut : length (take (length bytes) (drop at new)) ≡ min (length bytes) (length (drop at new)) = length-take (length bytes) (drop at new) in
    let now_long : length (drop (at + length bytes) new) ≡ length new - (at + length bytes) = length-drop (at + length bytes) new in
    let was_long : length (drop (at + length bytes) old) ≡ length old - (at + length bytes) = length-drop (at + length bytes) old in
    record {
      before = before_by at old new (omega (arith, long)) (λ i below within. same i within (inl below));
      here = ext_get_or 0 (take (length bytes) (drop at new)) bytes (omega (arith, cut, dropped, long))
          (λ i within.
          let low : i < length bytes = omega (arith, within, cut) in
          get_or-take (length bytes) (drop at new) i 0 low ∙ get_or-drop at new i 0 ∙ here i low);
      after = ext_get_or 0 (drop (at + length bytes) new) (drop (at + length bytes) old) (omega (arith, now_long, was_long, long))
          (λ i within.
          get_or-drop (at + length bytes) new i 0
          ∙ same (at + length bytes + i) (omega (arith, within, now_long, long)) (inr (omega arith))
          ∙ sym (get_or-drop (at + length bytes) old i 0));
      long = long;
    }

-- what is written is torn
pub written_torn : {at : ℕ} {bytes old new : List ℕ} → Written at bytes old new → Torn at (length bytes) old new
written_torn {at = at} {bytes = bytes} {old = old} {new = new} written =
    let long : length new ≡ max (length old) (at + length bytes) = written.long in
    torn_by at (length bytes) old new (omega (arith, long)) (omega (arith, long)) outside
  where
    outside : (i : ℕ) → i < length old → (i < at) ⊎ (at + length bytes ≤ i) → get_or new i 0 ≡ get_or old i 0
    outside i within (inl below) = written_at written i (inl (below, within))
    outside i within (inr above) = written_at written i (inr above)

-- and so is an image
pub writes_tear : {area : Area} {at : ℕ} {bytes : List ℕ} {old new : Image} → WritesTo area at bytes old new → TearsIn area at (length bytes) old new
writes_tear writes = record { here = written_torn writes.here; there = writes.there }
