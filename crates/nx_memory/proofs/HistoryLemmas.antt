-- What a history tells.
use Rattle.std.proofs.Common.{◌≡◌, ◌↔◌, inl, inr, ℕ, List, [], ◌∷◌, ◌++◌, length, Option, Some, refl, sym, ap, ◌∙◌, subst, arith}
use Rattle.std.proofs.lemmas.List.{take_all}
use Rattle.nx_host.specs.Host.{AppendsPrefix}
use Rattle.nx_host.specs.Disk.{Image, HoldsBytes, Keeps, TearsIn, ComesTorn, area_of}
use Rattle.nx_host.specs.Time.{Stood, Elapses}
use Rattle.nx_host.specs.declared.disk.Area.{Area}
use Rattle.nx_host.specs.declared.disk.Area.TheVariants.{Pages, Log}
use Rattle.nx_memory.specs.declared.history.Change.{Change}
use Rattle.nx_memory.specs.declared.history.Change.TheVariants.{Write, Sync, Emit}
use Rattle.nx_memory.specs.History.{Present, before, with_area, MayLeave, StandsNow, StoodSince}

-- Areas are torn apart from each other.

pub same_image : (x y : Image) → x.pages ≡ y.pages → x.log ≡ y.log → x ≡ y
same_image x y pages log = ap (λ (p : List ℕ). record { pages = p; log = x.log }) pages ∙ ap (λ (l : List ℕ). record { pages = y.pages; log = l }) log

apart_is : (area : Area) (a b image : Image) → a ≡ image → b ≡ image → with_area area (area_of area a) b ≡ image
apart_is Pages a b image is_a is_b = same_image (record { pages = a.pages; log = b.log }) image (ap (λ (i : Image). i.pages) is_a) (ap (λ (i : Image). i.log) is_b)
apart_is Log a b image is_a is_b = same_image (record { pages = b.pages; log = a.log }) image (ap (λ (i : Image). i.pages) is_b) (ap (λ (i : Image). i.log) is_a)

apart_bytes : (area : Area) (a b : Image) → HoldsBytes a → HoldsBytes b → HoldsBytes (with_area area (area_of area a) b)
apart_bytes Pages a b bytes_a bytes_b = record { pages = bytes_a.pages; log = bytes_b.log }
apart_bytes Log a b bytes_a bytes_b = record { pages = bytes_b.pages; log = bytes_a.log }

module _ {at count : ℕ} (old_a old_b new_a new_b : Image) where
  apart_tears : (area written : Area) → TearsIn written at count old_a new_a → TearsIn written at count old_b new_b →
      TearsIn written at count (with_area area (area_of area old_a) old_b) (with_area area (area_of area new_a) new_b)
  apart_tears Pages Pages a b = record { here = a.here; there = b.there }
  apart_tears Pages Log a b = record { here = b.here; there = a.there }
  apart_tears Log Pages a b = record { here = b.here; there = a.there }
  apart_tears Log Log a b = record { here = a.here; there = b.there }

apart_same : (area synced : Area) (a b image : Image) → area_of synced a ≡ area_of synced image → area_of synced b ≡ area_of synced image →
    area_of synced (with_area area (area_of area a) b) ≡ area_of synced image
apart_same Pages Pages a b image is_a is_b = is_a
apart_same Pages Log a b image is_a is_b = is_b
apart_same Log Pages a b image is_a is_b = is_b
apart_same Log Log a b image is_a is_b = is_a

pub left_apart : (changes : List Change) (now : Present) (area : Area) (a b : Image) → MayLeave changes now a → MayLeave changes now b → MayLeave changes now (with_area area (area_of area a) b)
unfolding MayLeave
left_apart [] now area a b left_a left_b = apart_is area a b now.areas left_a left_b
left_apart (Write written at count was ∷ earlier) now area a b (bytes_a, (old_a, earlier_a, tears_a)) (bytes_b, (old_b, earlier_b, tears_b)) = (
  apart_bytes area a b bytes_a bytes_b,
  (
    with_area area (area_of area old_a) old_b,
    left_apart earlier (before (Write written at count was) now) area old_a old_b earlier_a earlier_b,
    apart_tears old_a old_b a b area written tears_a tears_b,
  ),
)
left_apart (Sync synced ∷ earlier) now area a b (left_a, is_a) (left_b, is_b) =
    (left_apart earlier now area a b left_a left_b, apart_same area synced a b now.areas is_a is_b)
left_apart (Emit was ∷ earlier) now area a b left_a left_b = left_apart earlier (before (Emit was) now) area a b left_a left_b

-- The moments of a history and what is there now.
abbrev pub Moments : Type 0
Moments = List Change × Present

abbrev pub moment_of : Moments → ℕ
moment_of d = length d.0

abbrev pub since_of : Moments → ℕ → Stood → Type 0
since_of d = StoodSince d.0 d.1

added : {P : Stood → Type 0} (change : Change) (earlier : List Change) (now : Present) → ((s : Stood) → StandsNow (change ∷ earlier) now s → P s) →
    Elapses moment_of since_of (earlier, before change now) (change ∷ earlier, now) P
unfolding StoodSince
added change earlier now adds = record {
  later = omega arith;
  nothing_else = λ t s le since. elim since [ inl here ↦ inr (adds s here) | inr there ↦ inl there.1 ];
  keeps = λ t s le since. inr (le, since);
}

-- One change more adds what stands after it.
pub changed : {P : Stood → Type 0} (change : Change) {earlier later : List Change} {was now : Present} → later ≡ change ∷ earlier → before change now ≡ was →
    ((s : Stood) → StandsNow later now s → P s) → Elapses moment_of since_of (earlier, was) (later, now) P
changed {P = P} change {earlier = earlier} {later = later} {was = was} {now = now} one_more undone adds =
    let P' = λ (l : List Change). Elapses moment_of since_of (earlier, was) (l, now) P in
    let from = λ (w : Present). Elapses moment_of since_of (earlier, w) (change ∷ earlier, now) P in
    subst P' (sym one_more) (subst from undone (added change earlier now (λ s here. adds s (subst (λ (l : List Change). StandsNow l now s) (sym one_more) here))))

-- What one change more does to the images.

module _ (now : Present) {then : Present} {earlier later : List Change} where
  pub write_left : {area : Area} {at count was : ℕ} → later ≡ Write area at count was ∷ earlier → before (Write area at count was) now ≡ then →
      (image : Image) → MayLeave later now image → ComesTorn area at count (MayLeave earlier then) image
  unfolding MayLeave
  write_left {area} {at} {count} one_more undone image left =
      let here = subst (λ (l : List Change). MayLeave l now image) one_more left in
      subst (λ (p : Present). ComesTorn area at count (MayLeave earlier p) image) undone here.1

  pub sync_left : {area : Area} → later ≡ Sync area ∷ earlier → now ≡ then → (image : Image) → MayLeave later now image → MayLeave earlier then image
  unfolding MayLeave
  sync_left one_more undone image left =
      let here = subst (λ (l : List Change). MayLeave l now image) one_more left in
      subst (λ (p : Present). MayLeave earlier p image) undone here.0

  pub emit_left : {was : ℕ} → later ≡ Emit was ∷ earlier → before (Emit was) now ≡ then → (image : Image) → MayLeave later now image ↔ MayLeave earlier then image
  unfolding MayLeave
  emit_left one_more undone image = (
    λ left. subst (λ (p : Present). MayLeave earlier p image) undone (subst (λ (l : List Change). MayLeave l now image) one_more left),
    λ left. subst (λ (l : List Change). MayLeave l now image) (sym one_more) (subst (λ (p : Present). MayLeave earlier p image) (sym undone) left),
  )

pub sync_durable : (now : Present) {area : Area} {earlier later : List Change} → later ≡ Sync area ∷ earlier → (image : Image) → MayLeave later now image → area_of area image ≡ area_of area now.areas
unfolding MayLeave
sync_durable now one_more image left = let here = subst (λ (l : List Change). MayLeave l now image) one_more left in here.1

-- Where nothing changed, a crash leaves what is there.
pub unchanged_left : (changes : List Change) (now : Present) → changes ≡ [] → (image : Image) → MayLeave changes now image → image ≡ now.areas
unfolding MayLeave
unchanged_left changes now none image left = subst (λ (l : List Change). MayLeave l now image) none left

-- What is told of the output after one change more.

pub same_output : (old new : List ℕ) (seen : Option (List ℕ)) → seen ≡ Some new → new ≡ old → Keeps (Some old) seen
same_output old new seen is same = subst (λ (o : Option (List ℕ)). Keeps (Some old) o) (sym (is ∙ ap Some same)) refl

pub longer_output : (old new bytes : List ℕ) (seen : Option (List ℕ)) → seen ≡ Some new → new ≡ old ++ bytes → AppendsPrefix bytes (Some old) seen
longer_output old new bytes seen is grew =
    subst (λ (o : Option (List ℕ)). AppendsPrefix bytes (Some old) o) (sym (is ∙ ap Some grew))
    (old, length bytes, refl, ap (λ (l : List ℕ). old ++ l) (sym (take_all (length bytes) bytes (omega arith))))
