-- A header is made of its fields, and says them.
use Rattle.std.proofs.Common.{◌≡◌, ℕ, ◌+◌, ◌-◌, ◌<◌, ◌≤◌, ◌^◌, List, [], ◌∷◌, ◌++◌, length, take, drop, refl, sym, ap, ◌∙◌, arith, length-append}
use Rattle.std.proofs.Math.ListN.{replicate}
use Rattle.std.proofs.lemmas.List.{append_assoc, append-nil, drop-drop, drop-replicate, drop_at, take_at}
use Rattle.nx_numbers.specs.Numbers.{number_at, number_bytes, with_number}
use Rattle.nx_numbers.proofs.Numbers.{length-number_bytes, number_at-number_bytes}
use Rattle.nx_replay.specs.Log.{mark}
use Rattle.nx_holdings.specs.declared.header.Header.{Header}
use Rattle.nx_holdings.specs.declared.header.Settings.{Settings}
use Rattle.nx_holdings.specs.Header.{fields_bytes, fields_of, header_bytes, IsHeader, IsHeaderLaid}

fields_bytes-append : (fs gs : List (ℕ × ℕ)) → fields_bytes (fs ++ gs) ≡ fields_bytes fs ++ fields_bytes gs
fields_bytes-append [] gs = refl
fields_bytes-append (f ∷ fs) gs =
    ap (λ (r : List ℕ). number_bytes f.0 f.1 ++ r) (fields_bytes-append fs gs) ∙ sym (append_assoc (number_bytes f.0 f.1) (fields_bytes fs) (fields_bytes gs))

abbrev sizes : List (ℕ × ℕ) → ℕ
sizes [] = 0
sizes (f ∷ fs) = f.0 + sizes fs

length-fields : (fs : List (ℕ × ℕ)) → length (fields_bytes fs) ≡ sizes fs
length-fields [] = refl
length-fields (f ∷ fs) =
    let head = length-number_bytes f.0 f.1 in
    let rest = length-fields fs in
    length-append (number_bytes f.0 f.1) (fields_bytes fs) ∙ omega arith

-- the next field is written
pub laid_more : (size at number : ℕ) (page : List ℕ) (fields : List (ℕ × ℕ)) → at + size ≤ 8192 → IsHeaderLaid page at fields
    → IsHeaderLaid (with_number size page at number) (at + size) (fields ++ (size, number) ∷ [])
laid_more size at number page fields room laid =
    let front = mark ++ fields_bytes fields in
    let zeros = replicate (8192 - at) 0 in
    let here : length front ≡ at = laid.here in
    let nb = number_bytes size number in
    let before : take at page ≡ front = ap (λ (r : List ℕ). take at r) laid.are ∙ take_at front zeros at here in
    let behind : drop (at + size) page ≡ replicate (8192 - (at + size)) 0 =
    sym (drop-drop size at page) ∙ ap (λ (r : List ℕ). drop size (drop at r)) laid.are ∙ ap (λ (r : List ℕ). drop size r) (drop_at front zeros at here)
    ∙ drop-replicate size (8192 - at) 0 ∙ ap (λ (n : ℕ). replicate n 0) (let e : 8192 - at - size ≡ 8192 - (at + size) = omega arith in e) in
    let joined : mark ++ fields_bytes (fields ++ (size, number) ∷ []) ≡ front ++ nb =
    ap (λ (r : List ℕ). mark ++ r) (fields_bytes-append fields ((size, number) ∷ []) ∙ ap (λ (r : List ℕ). fields_bytes fields ++ r) (append-nil nb))
    ∙ sym (append_assoc mark (fields_bytes fields) nb) in
    record {
      here = ap length joined ∙ length-append front nb ∙ (let long = length-number_bytes size number in omega arith);
      low = room;
      are =
          ap (λ (r : List ℕ). r ++ (nb ++ drop (at + size) page)) before ∙ ap (λ (r : List ℕ). front ++ (nb ++ r)) behind
          ∙ sym (append_assoc front nb (replicate (8192 - (at + size)) 0)) ∙ ap (λ (r : List ℕ). r ++ replicate (8192 - (at + size)) 0) (sym joined);
    }

-- with all fields written it is the header
pub laid_whole : (h : Header) (page : List ℕ) → IsHeaderLaid page 52 (fields_of h) → page ≡ header_bytes h
unfolding header_bytes
laid_whole h page laid = laid.are ∙ append_assoc mark (fields_bytes (fields_of h)) (replicate 8140 0)

-- a field is read where it was written
field_at : (size number at : ℕ) (before after : List (ℕ × ℕ)) (rest : List ℕ) → 8 + sizes before ≡ at → number < 256 ^ size
    → number_at size (mark ++ (fields_bytes (before ++ (size, number) ∷ after) ++ rest)) at ≡ number
field_at size number at before after rest here low =
    let nb = number_bytes size number in
    let front = mark ++ fields_bytes before in
    let long : length front ≡ at = length-append mark (fields_bytes before) ∙ (let count = length-fields before in omega arith) in
    let split : mark ++ (fields_bytes (before ++ (size, number) ∷ after) ++ rest) ≡ front ++ (nb ++ (fields_bytes after ++ rest)) =
    ap (λ (r : List ℕ). mark ++ (r ++ rest)) (fields_bytes-append before ((size, number) ∷ after))
    ∙ ap (λ (r : List ℕ). mark ++ r) (append_assoc (fields_bytes before) (nb ++ fields_bytes after) rest ∙ ap (λ (r : List ℕ). fields_bytes before ++ r) (append_assoc nb (fields_bytes after) rest))
    ∙ sym (append_assoc mark (fields_bytes before) (nb ++ (fields_bytes after ++ rest))) in
    ap (λ (r : List ℕ). number_at size r at) split ∙ number_at-number_bytes size number at front (fields_bytes after ++ rest) long low

module _ (h : Header) (bytes : List ℕ) (is : IsHeader bytes h) where
  field : (size number at : ℕ) (before after : List (ℕ × ℕ)) → fields_of h ≡ before ++ (size, number) ∷ after → 8 + sizes before ≡ at → number < 256 ^ size → number_at size bytes at ≡ number
  unfolding header_bytes
  field size number at before after split here low =
      ap (λ (r : List ℕ). number_at size r at) is.are ∙ ap (λ (fs : List (ℕ × ℕ)). number_at size (mark ++ (fields_bytes fs ++ replicate 8140 0)) at) split
      ∙ field_at size number at before after (replicate 8140 0) here low

  abbrev s : Settings
  s = h.settings

  -- the bytes of a header say its fields
  pub says_settings : record { k = number_at 2 bytes 10; target = number_at 2 bytes 12; tolerance = number_at 2 bytes 14; limit = number_at 4 bytes 16 } ≡ s
  says_settings =
      let set = is.range.settings in
      let k : s.k ≤ 256 = set.k.1 in
      let target : s.target ≤ 100 = set.target in
      let tolerance : s.tolerance ≤ 256 = set.tolerance in
      let limit : s.limit ≤ 16777216 = set.limit.1 in
      let ek : number_at 2 bytes 10 ≡ s.k = field 2 s.k 10 ((2, h.format) ∷ []) _ refl refl (omega arith) in
      let et : number_at 2 bytes 12 ≡ s.target = field 2 s.target 12 ((2, h.format) ∷ (2, s.k) ∷ []) _ refl refl (omega arith) in
      let eo : number_at 2 bytes 14 ≡ s.tolerance = field 2 s.tolerance 14 ((2, h.format) ∷ (2, s.k) ∷ (2, s.target) ∷ []) _ refl refl (omega arith) in
      let el : number_at 4 bytes 16 ≡ s.limit = field 4 s.limit 16 ((2, h.format) ∷ (2, s.k) ∷ (2, s.target) ∷ (2, s.tolerance) ∷ []) _ refl refl (omega arith) in
      rw (ek, et, eo, el) refl

  abbrev front : List (ℕ × ℕ)
  front = (2, h.format) ∷ (2, s.k) ∷ (2, s.target) ∷ (2, s.tolerance) ∷ (4, s.limit) ∷ []

  pub says_fields : (settings : Settings) → settings ≡ s → record {
    format = number_at 2 bytes 8;
    settings = settings;
    pages = number_at 4 bytes 20;
    free = number_at 4 bytes 24;
    room = number_at 4 bytes 28;
    number = number_at 8 bytes 32;
    catalog = number_at 4 bytes 40;
    catalog_length = number_at 8 bytes 44;
  } ≡ h
  says_fields settings same =
      let r = is.range in
      let format : h.format ≤ 2 = r.format.1 in
      let limit : s.limit ≤ 16777216 = r.settings.limit.1 in
      let pages : h.pages ≤ s.limit = r.pages.1 in
      let free : h.free < 2 ^ 32 = r.pointers.0 in
      let room : h.room < 2 ^ 32 = r.pointers.1 in
      let catalog : h.catalog < 2 ^ 32 = r.pointers.2 in
      let number : h.number < 2 ^ 64 = r.number in
      let long : h.catalog_length < 2 ^ 64 = r.catalog_length.1 in
      let ef : number_at 2 bytes 8 ≡ h.format = field 2 h.format 8 [] _ refl refl (omega arith) in
      let ep : number_at 4 bytes 20 ≡ h.pages = field 4 h.pages 20 front _ refl refl (omega arith) in
      let er : number_at 4 bytes 24 ≡ h.free = field 4 h.free 24 (front ++ (4, h.pages) ∷ []) _ refl refl (omega arith) in
      let eo : number_at 4 bytes 28 ≡ h.room = field 4 h.room 28 (front ++ (4, h.pages) ∷ (4, h.free) ∷ []) _ refl refl (omega arith) in
      let en : number_at 8 bytes 32 ≡ h.number = field 8 h.number 32 (front ++ (4, h.pages) ∷ (4, h.free) ∷ (4, h.room) ∷ []) _ refl refl (omega arith) in
      let ec : number_at 4 bytes 40 ≡ h.catalog = field 4 h.catalog 40 (front ++ (4, h.pages) ∷ (4, h.free) ∷ (4, h.room) ∷ (8, h.number) ∷ []) _ refl refl (omega arith) in
      let el : number_at 8 bytes 44 ≡ h.catalog_length = field 8 h.catalog_length 44 (front ++ (4, h.pages) ∷ (4, h.free) ∷ (4, h.room) ∷ (8, h.number) ∷ (4, h.catalog) ∷ []) _ refl refl (omega arith) in
      rw (ef, ep, er, eo, en, ec, el, same) refl
