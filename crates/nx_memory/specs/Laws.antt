-- The laws of a history: what a host in memory states as the laws of a disk.
use Rattle.std.proofs.Common.{◌≡◌, inl, inr, ℕ, ◌+◌, ◌<◌, ◌≤◌, List, [], ◌∷◌, length, Some, IsSome, refl, sym, ap, subst, arith}
use Rattle.std.specs.Option.{is_some}
use Rattle.std.proofs.lemmas.List.{get_or-drop}
use Rattle.nx_memory.specs.declared.source.Source.{Source}
use Rattle.nx_memory.specs.Source.{bytes_left}
use Rattle.std.proofs.Props.{props}
use Rattle.nx_host.specs.Disk.{Image, AreBytes, HoldsBytes}
use Rattle.nx_host.specs.Time.{Stood}
use Rattle.nx_memory.specs.declared.history.Change.{Change}
use Rattle.nx_memory.specs.declared.history.Change.TheVariants.{Write, Sync, Emit}
use Rattle.nx_memory.specs.History.{Present, before, MayLeave, StandsNow, StoodSince, IsTear, IsHistory}

-- Each image holds bytes.
pub image_holds_bytes : (changes : List Change) (now : Present) (image : Image) → IsHistory changes now → MayLeave changes now image → HoldsBytes image
unfolding MayLeave IsHistory
image_holds_bytes [] now image history is = subst HoldsBytes (sym is) history
image_holds_bytes (Write area at count was ∷ earlier) now image history left = left.0
image_holds_bytes (Sync area ∷ earlier) now image history left = image_holds_bytes earlier now image history.2 left.0
image_holds_bytes (Emit was ∷ earlier) now image history left = image_holds_bytes earlier (before (Emit was) now) image history.2 left

-- The contents are one of them.
pub contents_left : (changes : List Change) (now : Present) → IsHistory changes now → MayLeave changes now now.areas
unfolding MayLeave IsHistory
contents_left [] now history = refl
contents_left (Write area at count was ∷ earlier) now history =
    let then = before (Write area at count was) now in (history.0, (then.areas, contents_left earlier then history.2, history.1))
contents_left (Sync area ∷ earlier) now history = (contents_left earlier now history.2, refl)
contents_left (Emit was ∷ earlier) now history = contents_left earlier (before (Emit was) now) history.2

-- Each moment is told.
pub told : (changes : List Change) (now : Present) (t : ℕ) (s : Stood) → StoodSince changes now t s → IsSome s.output
unfolding StoodSince
told [] now t s since = ap is_some since.output
told (change ∷ earlier) now t s (inl here) = ap is_some here.output
told (change ∷ earlier) now t s (inr there) = told earlier (before change now) t s there.1

-- What stands now has stood since any moment.
pub stood : (changes : List Change) (now : Present) (t : ℕ) (image : Image) → MayLeave changes now image → StoodSince changes now t (record { output = Some now.output; image = image })
unfolding StoodSince
stood [] now t image left = record { output = refl; image = left }
stood (change ∷ earlier) now t image left = inl (record { output = refl; image = left })

-- Since this one nothing else has.
pub only_stands : (changes : List Change) (now : Present) (s : Stood) → StoodSince changes now (length changes) s → StandsNow changes now s
unfolding StoodSince
only_stands [] now s since = since
only_stands (change ∷ earlier) now s (inl here) = here
only_stands (change ∷ earlier) now s (inr there) = absurd (let low : length (change ∷ earlier) ≤ length earlier = there.0 in omega arith)

pub stood_earlier : (changes : List Change) (now : Present) (t u : ℕ) (s : Stood) → t ≤ u → StoodSince changes now u s → StoodSince changes now t s
unfolding StoodSince
stood_earlier [] now t u s le since = since
stood_earlier (change ∷ earlier) now t u s le (inl here) = inl here
stood_earlier (change ∷ earlier) now t u s le (inr there) =
    let low : u ≤ length earlier = there.0 in inr (omega arith, stood_earlier earlier (before change now) t u s le there.1)

pub stood_holds_bytes : (changes : List Change) (now : Present) (t : ℕ) (s : Stood) → IsHistory changes now → StoodSince changes now t s → HoldsBytes s.image
unfolding StoodSince IsHistory
stood_holds_bytes [] now t s history since = image_holds_bytes [] now s.image history since.image
stood_holds_bytes (change ∷ earlier) now t s history (inl here) = image_holds_bytes (change ∷ earlier) now s.image history here.image
stood_holds_bytes (change ∷ earlier) now t s history (inr there) = stood_holds_bytes earlier (before change now) t s history.2 there.1

-- That it is a history has one proof at most.

tear_is_prop : (change : Change) (now : Present) → IsProp (IsTear change now)
tear_is_prop (Write area at count was) now = hlevel props
tear_is_prop (Sync area) now = hlevel props
tear_is_prop (Emit was) now = hlevel props

pub history_is_prop : (changes : List Change) (now : Present) → IsProp (IsHistory changes now)
unfolding IsHistory
history_is_prop [] now = hlevel props
history_is_prop (change ∷ earlier) now =
    let tear : IsProp (IsTear change now) = tear_is_prop change now in
    let rest : IsProp (IsHistory earlier (before change now)) = history_is_prop earlier (before change now) in
    hlevel (props, tear, rest)

pub contents_stay : (changes : List Change) (now : Present) → IsHistory changes now → (image : Image) → Some now.areas ≡ Some image → MayLeave changes now image
contents_stay changes now history image is = let same : now.areas ≡ image = cc in subst (λ (i : Image). MayLeave changes now i) same (contents_left changes now history)

pub only_stood : (changes : List Change) (now : Present) (s : Stood) → StoodSince changes now (length changes) s → (s.output ≡ Some now.output) × MayLeave changes now s.image
only_stood changes now s since = let here = only_stands changes now s since in (here.output, here.image)

-- The input that is left is bytes.
pub left_are_bytes : (source : Source) (input : List ℕ) → Some (bytes_left source) ≡ Some input → AreBytes input
left_are_bytes source input is =
    let same : bytes_left source ≡ input = cc in
    subst AreBytes same (λ i. subst (λ (b : ℕ). b < 256) (sym (get_or-drop source.given source.bytes.items i 0)) (source.are_bytes (source.given + i)))
