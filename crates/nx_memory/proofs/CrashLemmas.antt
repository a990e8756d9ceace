-- What a crash leaves, and how it is come by.
use Rattle.std.proofs.Common.{◌≡◌, ◌⊎◌, inl, inr, ℕ, ◌+◌, ◌-◌, ◌<◌, ◌≤◌, List, [], ◌∷◌, ◌++◌, length, take, drop, get_or, min, max, replicate, refl, sym, ap, ◌∙◌, subst, arith, length-append}
use Rattle.std.proofs.lemmas.Bool.{cases_lt}
use Rattle.std.proofs.lemmas.List.{length-take, length-drop, length-replicate, get_or-take, get_or-drop, get_or_append_left, get_or-append_right, get_or-replicate, take_all}
use Rattle.nx_host.specs.Disk.{Image, AreBytes, Torn, area_of}
use Rattle.nx_host.proofs.TornLemmas.{torn_by, torn_self}
use Rattle.nx_host.specs.declared.disk.Area.{Area}
use Rattle.nx_host.specs.declared.disk.Area.TheVariants.{Pages, Log}
use Rattle.nx_memory.specs.declared.history.Change.{Change}
use Rattle.nx_memory.specs.declared.history.Change.TheVariants.{Write, Sync, Emit}
use Rattle.nx_memory.specs.declared.image.Choice.{Choice}
use Rattle.nx_memory.specs.declared.image.Choice.TheVariants.{Kept, Lost, Ones}
use Rattle.nx_memory.specs.History.{Present, before, with_area, MayLeave, IsHistory}
use Rattle.nx_memory.specs.Laws.{image_holds_bytes, contents_left}
use Rattle.nx_memory.specs.Crash.{ones_over, nothing_over, crashed, crash_image}
use Rattle.nx_memory.specs.Undo.{since, undone_all, filled_all, area_by}
use Rattle.nx_memory.proofs.HistoryLemmas.{same_image, left_apart}

-- How it is come by.

whole : (covered : List ℕ) → covered ≡ take (length covered) covered
whole covered = sym (take_all (length covered) covered (omega arith))

pub crashed_undone : (area : Area) (changes : List Change) (now : Present) → crashed nothing_over area changes now ≡ undone_all area (since area changes) (area_of area now.areas) now.covered
unfolding crashed since undone_all
crashed_undone area [] now = refl
crashed_undone Pages (Write Pages at count was ∷ earlier) now = crashed_undone Pages earlier (before (Write Pages at count was) now)
crashed_undone Pages (Write Log at count was ∷ earlier) now = crashed_undone Pages earlier (before (Write Log at count was) now)
crashed_undone Log (Write Pages at count was ∷ earlier) now = crashed_undone Log earlier (before (Write Pages at count was) now)
crashed_undone Log (Write Log at count was ∷ earlier) now = crashed_undone Log earlier (before (Write Log at count was) now)
crashed_undone Pages (Sync Pages ∷ earlier) now = refl
crashed_undone Pages (Sync Log ∷ earlier) now = crashed_undone Pages earlier now ∙ ap (undone_all Pages (since Pages earlier) now.areas.pages) (whole now.covered)
crashed_undone Log (Sync Pages ∷ earlier) now = crashed_undone Log earlier now ∙ ap (undone_all Log (since Log earlier) now.areas.log) (whole now.covered)
crashed_undone Log (Sync Log ∷ earlier) now = refl
crashed_undone area (Emit was ∷ earlier) now = crashed_undone area earlier (before (Emit was) now) ∙ ap (undone_all area (since area earlier) (area_of area now.areas)) (whole now.covered)

pub crashed_filled : (area : Area) (changes : List Change) (now : Present) → crashed ones_over area changes now ≡ filled_all area (since area changes) (crashed nothing_over area changes now)
unfolding crashed since filled_all
crashed_filled area [] now = refl
crashed_filled Pages (Write Pages at count was ∷ earlier) now = ap (ones_over at count) (crashed_filled Pages earlier (before (Write Pages at count was) now))
crashed_filled Pages (Write Log at count was ∷ earlier) now = crashed_filled Pages earlier (before (Write Log at count was) now)
crashed_filled Log (Write Pages at count was ∷ earlier) now = crashed_filled Log earlier (before (Write Pages at count was) now)
crashed_filled Log (Write Log at count was ∷ earlier) now = ap (ones_over at count) (crashed_filled Log earlier (before (Write Log at count was) now))
crashed_filled Pages (Sync Pages ∷ earlier) now = refl
crashed_filled Pages (Sync Log ∷ earlier) now = crashed_filled Pages earlier now
crashed_filled Log (Sync Pages ∷ earlier) now = crashed_filled Log earlier now
crashed_filled Log (Sync Log ∷ earlier) now = refl
crashed_filled area (Emit was ∷ earlier) now = crashed_filled area earlier (before (Emit was) now)

-- an image whose areas were come by so
pub left_is : (choice : Choice) (changes : List Change) (now : Present) (image : Image) → image.pages ≡ area_by choice Pages changes now.areas.pages now.covered →
    image.log ≡ area_by choice Log changes now.areas.log now.covered → image ≡ crash_image choice changes now
left_is Kept changes now image pages log = same_image image now.areas pages log
left_is Lost changes now image pages log =
    same_image image (crash_image Lost changes now) (pages ∙ sym (crashed_undone Pages changes now)) (log ∙ sym (crashed_undone Log changes now))
left_is Ones changes now image pages log =
    same_image image (crash_image Ones changes now)
    (pages ∙ sym (crashed_filled Pages changes now ∙ ap (filled_all Pages (since Pages changes)) (crashed_undone Pages changes now)))
    (log ∙ sym (crashed_filled Log changes now ∙ ap (filled_all Log (since Log changes)) (crashed_undone Log changes now)))

-- It is one of the images.

-- what comes of a write: bytes, torn from what was there
pub record Tears (f : ℕ → ℕ → List ℕ → List ℕ) : Type 0 where
  pub torn : (at count : ℕ) (bytes : List ℕ) → Torn at count bytes (f at count bytes)
  pub bytes : (at count : ℕ) (bytes : List ℕ) → AreBytes bytes → AreBytes (f at count bytes)

pub nothing_tears : Tears nothing_over
nothing_tears = record { torn = λ at count bytes. torn_self at count bytes; bytes = λ at count bytes held. held }

module _ (f : ℕ → ℕ → List ℕ → List ℕ) (tears : Tears f) where
  pub crash_left : (area : Area) (changes : List Change) (now : Present) → IsHistory changes now → MayLeave changes now (with_area area (crashed f area changes now) now.areas)
  unfolding MayLeave crashed IsHistory
  crash_left Pages [] now history = refl
  crash_left Log [] now history = refl
  crash_left Pages (Write Pages at count was ∷ earlier) now history =
      let then = before (Write Pages at count was) now in
      let rest = crashed f Pages earlier then in
      let left = crash_left Pages earlier then history.2 in
      let held = image_holds_bytes earlier then (with_area Pages rest then.areas) history.2 left in (
        record { pages = tears.bytes at count rest held.pages; log = history.0.log },
        (with_area Pages rest then.areas, left, record { here = tears.torn at count rest; there = refl }),
      )
  crash_left Pages (Write Log at count was ∷ earlier) now history =
      let then = before (Write Log at count was) now in
      let rest = crashed f Pages earlier then in
      let left = crash_left Pages earlier then history.2 in
      let held = image_holds_bytes earlier then (with_area Pages rest then.areas) history.2 left in (
        record { pages = held.pages; log = history.0.log },
        (with_area Pages rest then.areas, left, record { here = history.1.here; there = refl }),
      )
  crash_left Log (Write Pages at count was ∷ earlier) now history =
      let then = before (Write Pages at count was) now in
      let rest = crashed f Log earlier then in
      let left = crash_left Log earlier then history.2 in
      let held = image_holds_bytes earlier then (with_area Log rest then.areas) history.2 left in (
        record { pages = history.0.pages; log = held.log },
        (with_area Log rest then.areas, left, record { here = history.1.here; there = refl }),
      )
  crash_left Log (Write Log at count was ∷ earlier) now history =
      let then = before (Write Log at count was) now in
      let rest = crashed f Log earlier then in
      let left = crash_left Log earlier then history.2 in
      let held = image_holds_bytes earlier then (with_area Log rest then.areas) history.2 left in (
        record { pages = history.0.pages; log = tears.bytes at count rest held.log },
        (with_area Log rest then.areas, left, record { here = tears.torn at count rest; there = refl }),
      )
  crash_left Pages (Sync Pages ∷ earlier) now history = (contents_left earlier now history.2, refl)
  crash_left Pages (Sync Log ∷ earlier) now history = (crash_left Pages earlier now history.2, refl)
  crash_left Log (Sync Pages ∷ earlier) now history = (crash_left Log earlier now history.2, refl)
  crash_left Log (Sync Log ∷ earlier) now history = (contents_left earlier now history.2, refl)
  crash_left Pages (Emit was ∷ earlier) now history = crash_left Pages earlier (before (Emit was) now) history.2
  crash_left Log (Emit was ∷ earlier) now history = crash_left Log earlier (before (Emit was) now) history.2

  crashes_left : (changes : List Change) (now : Present) → IsHistory changes now → MayLeave changes now (record { pages = crashed f Pages changes now; log = crashed f Log changes now })
  crashes_left changes now history =
      left_apart changes now Log (with_area Log (crashed f Log changes now) now.areas) (with_area Pages (crashed f Pages changes now) now.areas)
      (crash_left Log changes now history) (crash_left Pages changes now history)

-- A write of ones.
module _ (at count : ℕ) (bytes : List ℕ) where
  abbrev from : ℕ
  from = min at (length bytes)

  abbrev n : ℕ
  n = at + count - from

  abbrev ones : List ℕ
  ones = replicate n 1

  front_long : length (take from bytes) ≡ from
  front_long = let h : length (take from bytes) ≡ min from (length bytes) = length-take from bytes in omega arith

  ones_long : length (ones_over at count bytes) ≡ max (length bytes) (at + count)
  ones_long =
      let outer : length (ones_over at count bytes) ≡ length (take from bytes) + length (ones ++ drop (at + count) bytes) = length-append (take from bytes) (ones ++ drop (at + count) bytes) in
      let inner : length (ones ++ drop (at + count) bytes) ≡ length (ones) + length (drop (at + count) bytes) = length-append (ones) (drop (at + count) bytes) in
      let all : length ones ≡ n = length-replicate n 1 in
      let rest : length (drop (at + count) bytes) ≡ length bytes - (at + count) = length-drop (at + count) bytes in
      omega (arith, outer, inner, all, rest, front_long)

  behind : (i : ℕ) → from ≤ i → get_or (ones_over at count bytes) i 0 ≡ get_or (ones ++ drop (at + count) bytes) (i - from) 0
  behind i above = get_or-append_right (take from bytes) (ones ++ drop (at + count) bytes) from i 0 front_long above

  ones_front : (i : ℕ) → i < from → get_or (ones_over at count bytes) i 0 ≡ get_or bytes i 0
  ones_front i below = get_or_append_left (take from bytes) (ones ++ drop (at + count) bytes) 0 i (omega (arith, front_long, below)) ∙ get_or-take from bytes i 0 below

  ones_here : (i : ℕ) → from ≤ i → i < at + count → get_or (ones_over at count bytes) i 0 ≡ 1
  ones_here i above below =
      let all : length ones ≡ n = length-replicate n 1 in
      behind i above
      ∙ get_or_append_left (ones) (drop (at + count) bytes) 0 (i - from) (omega (arith, all, above, below))
      ∙ get_or-replicate n (i - from) 1 0 (omega (arith, above, below))

  ones_rest : (i : ℕ) → at + count ≤ i → from ≤ i → get_or (ones_over at count bytes) i 0 ≡ get_or bytes i 0
  ones_rest i above late =
      behind i late
      ∙ get_or-append_right (ones) (drop (at + count) bytes) n (i - from) 0 (length-replicate n 1) (omega (arith, above, late))
      ∙ get_or-drop (at + count) bytes (i - from - n) 0
      ∙ ap (λ (j : ℕ). get_or bytes j 0) (let h : at + count + (i - from - n) ≡ i = omega (arith, above, late) in h)

  ones_torn : Torn at count bytes (ones_over at count bytes)
  ones_torn = torn_by at count bytes (ones_over at count bytes) (omega (arith, ones_long)) (omega (arith, ones_long)) outside
    where
      outside : (i : ℕ) → i < length bytes → (i < at) ⊎ (at + count ≤ i) → get_or (ones_over at count bytes) i 0 ≡ get_or bytes i 0
      outside i within (inl below) = ones_front i (omega (arith, within, below))
      outside i within (inr above) = ones_rest i above (omega (arith, above))

  ones_are_bytes : AreBytes bytes → AreBytes (ones_over at count bytes)
  ones_are_bytes held i = elim (cases_lt i from) [
    | inl below ↦ subst (λ (b : ℕ). b < 256) (sym (ones_front i below)) (held i)
    | inr above ↦ elim (cases_lt i (at + count)) [
      | inl here ↦ subst (λ (b : ℕ). b < 256) (sym (ones_here i above here)) (omega arith)
      | inr there ↦ subst (λ (b : ℕ). b < 256) (sym (ones_rest i there above)) (held i)
    ]
  ]

ones_tear : Tears ones_over
ones_tear = record { torn = λ at count bytes. ones_torn at count bytes; bytes = λ at count bytes held. ones_are_bytes at count bytes held }

-- each choice leaves an image that a crash may leave
pub choice_left : (choice : Choice) (changes : List Change) (now : Present) → IsHistory changes now → MayLeave changes now (crash_image choice changes now)
choice_left Kept changes now history = contents_left changes now history
choice_left Lost changes now history = crashes_left nothing_over nothing_tears changes now history
choice_left Ones changes now history = crashes_left ones_over ones_tear changes now history
