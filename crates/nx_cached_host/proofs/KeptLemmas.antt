-- Pages that are kept, over what a disk's calls do to its contents.
use Rattle.std.proofs.Common.{◌≡◌, ◌⊎◌, inl, inr, ℕ, ◌+◌, ◌-◌, ◌≤◌, List, [], ◌∷◌, length, take, drop, min, Option, None, Some, IsSome, IfSome, IfOk, Result, Ok, Err, OnOk, OnErr, refl, sym, ap, subst, ◌∙◌, arith}
use Rattle.std.proofs.lemmas.List.{drop-take, length-drop, length-take, take-take, take_all}
use Rattle.nx_numbers.specs.Sizes.{page_size}
use Rattle.nx_host.specs.declared.disk.Area.{Area}
use Rattle.nx_host.specs.declared.disk.Area.TheVariants.{Pages, Log}
use Rattle.nx_host.specs.Disk.{Image, Keeps, WritesTo, TearsIn, area_of, given_at, other_area_of}
use Rattle.nx_slots.specs.declared.page.PageBytes.{PageBytes}
use Rattle.nx_cache.specs.declared.address.Address.{Address}
use Rattle.nx_cache.specs.declared.address.Address.TheVariants.{InPages, InLog}
use Rattle.nx_cache.specs.Cached.{EachListed, bytes_listed, page_with, without_page}
use Rattle.nx_cache.proofs.CallerLemmas.{each_none, each_put}
use Rattle.nx_cached_host.specs.Kept.{KeptStand, EndsBy, GivesPage, LiesBefore, StandsWhole, address_in, end_in}

-- a page that ends there in its area ends by the ends
pub ends_there : (area : Area) (at end pages log : ℕ) (page : PageBytes) → at + page_size ≤ end → end ≤ end_in pages log area → EndsBy pages log (address_in area at) page
ends_there Pages at end pages log page here within = omega (arith, here, within)
ends_there Log at end pages log page here within = omega (arith, here, within)

-- after a page was put, or wasn't for want of memory
pub kept_put : {T E : Type 0} (P : Address → PageBytes → Type 0) (r : Result T E) (n : ℕ) (address : Address) (page : PageBytes) (old new : List (Address × PageBytes))
    → P address page → EachListed P old → OnOk r (new ≡ take n ((address, page) ∷ without_page address old)) → OnErr r (new ≡ old) → EachListed P new
kept_put P (Ok x) n address page old new here each ok err = subst (EachListed P) (sym ok) (each_put P n address page old here each)
kept_put P (Err e) n address page old new here each ok err = subst (EachListed P) (sym err) each

some_image : {a b : Image} → ◌≡◌ {A = Option Image} (Some a) (Some b) → a ≡ b
some_image same = cc

some_count : {E : Type 0} {a b : ℕ} → ◌≡◌ {A = Result ℕ E} (Ok a) (Ok b) → a ≡ b
some_count same = cc

-- what is told has this
pub if_told : (contents : Option Image) (P : Image → Type 0) → ((image : Image) → contents ≡ Some image → P image) → IfSome contents P
if_told None P has = tt
if_told (Some image) P has = has image refl

given_whole : (at : ℕ) (bytes : List ℕ) → at + page_size ≤ length bytes → length (given_at at page_size bytes) ≡ page_size
given_whole at bytes within = let long : length (given_at at page_size bytes) ≡ min page_size (length bytes - at) = length-take page_size (drop at bytes) ∙ ap (min page_size) (length-drop at bytes) in omega (arith, long, within)

whole_given : (at : ℕ) (bytes : List ℕ) → length (given_at at page_size bytes) ≡ page_size → at + page_size ≤ length bytes
whole_given at bytes whole = let long : length (given_at at page_size bytes) ≡ min page_size (length bytes - at) = length-take page_size (drop at bytes) ∙ ap (min page_size) (length-drop at bytes) in omega (arith, long, whole)

-- a page that stands there is given whole
pub page_given : (area : Area) (at : ℕ) (image : Image) (page : PageBytes) → StandsWhole image (address_in area at) page → GivesPage area at page.bytes image
page_given Pages at image page stands = record { whole = given_whole at image.pages stands.0; bytes = sym stands.1 }
page_given Log at image page stands = record { whole = given_whole at image.log stands.0; bytes = sym stands.1 }

-- a copy of a page that is kept
pub copied_page : (contents : Option Image) (pages : List (Address × PageBytes)) (area : Area) (at : ℕ) (new : List ℕ)
    → KeptStand contents pages → bytes_listed (address_in area at) pages ≡ Some (page_with new) → (image : Image) → contents ≡ Some image → GivesPage area at new image
copied_page contents pages area at new each listed image is = page_given area at image (page_with new) (each image is (address_in area at) (page_with new) listed)

-- it is what a read of a page gives
pub page_read : (area : Area) (at : ℕ) (into new : List ℕ) (image : Image) → length into ≡ page_size → GivesPage area at new image
    → (page_size ≡ length (given_at at (length into) (area_of area image))) × (take page_size new ≡ given_at at (length into) (area_of area image))
page_read area at into new image room page =
    let long : length new ≡ page_size = ap length page.bytes ∙ page.whole in (
      sym page.whole ∙ ap (λ (n : ℕ). length (given_at at n (area_of area image))) (sym room),
      take_all page_size new (omega (arith, long)) ∙ page.bytes ∙ ap (λ (n : ℕ). given_at at n (area_of area image)) (sym room),
    )

-- a read of a page that gives a whole one
pub whole_read : {E : Type 0} (r : Result ℕ E) (n : ℕ) (contents : Option Image) (area : Area) (at : ℕ) (into new : List ℕ) → r ≡ Ok n → n ≡ page_size → length into ≡ page_size → length new ≡ page_size
    → IfOk r (λ n. IfSome contents (λ now. take n new ≡ given_at at (length into) (area_of area now))) → (image : Image) → contents ≡ Some image → new ≡ given_at at page_size (area_of area image)
whole_read (Err e) n contents area at into new is_ok whole room long given image is = cc
whole_read (Ok m) n None area at into new is_ok whole room long given image is = cc
whole_read (Ok m) n (Some now) area at into new is_ok whole room long given image is =
    let count : m ≡ page_size = some_count is_ok ∙ whole in
    sym (take_all m new (omega (arith, long, count))) ∙ given ∙ ap (λ (n : ℕ). given_at at n (area_of area now)) room ∙ ap (λ (i : Image). given_at at page_size (area_of area i)) (some_image is)

-- and one that was given whole stands there
pub page_stands : (area : Area) (at : ℕ) (image : Image) (page : PageBytes) → page.bytes ≡ given_at at page_size (area_of area image) → length page.bytes ≡ page_size → StandsWhole image (address_in area at) page
page_stands Pages at image page same long = (whole_given at image.pages (sym (ap length same) ∙ long), sym same)
page_stands Log at image page same long = (whole_given at image.log (sym (ap length same) ∙ long), sym same)

-- contents that are the same, or are told no longer
pub same_kept : (old new : Option Image) (pages : List (Address × PageBytes)) → new ≡ old → KeptStand old pages → KeptStand new pages
same_kept old new pages same each image is = each image (sym same ∙ is)

pub keeps_kept : (old new : Option Image) (pages : List (Address × PageBytes)) → Keeps old new → KeptStand old pages → KeptStand new pages
keeps_kept old None pages keeps each image is = cc
keeps_kept old (Some now) pages keeps each image is = each image (keeps ∙ is)

-- no page is kept
pub none_kept : (contents : Option Image) (pages : List (Address × PageBytes)) → pages ≡ [] → KeptStand contents pages
none_kept contents pages none image is = subst (EachListed (StandsWhole image)) (sym none) (each_none (StandsWhole image))

-- Writes behind the pages that are kept of an area.

-- what ends before a write is left
left_before : (at k n : ℕ) (old new : List ℕ) → take (min at (length old)) new ≡ take at old → k + n ≤ at → k + n ≤ length old → (k + n ≤ length new) × (take n (drop k new) ≡ take n (drop k old))
left_before at k n old new same before within =
    let m = min at (length old) in
    let long : length (take m new) ≡ min m (length new) = length-take m new in
    let was_long : length (take at old) ≡ min at (length old) = length-take at old in
    let as_long : length (take m new) ≡ length (take at old) = ap length same in (
      omega (arith, long, was_long, as_long, before, within),
      sym (drop-take k n new)
          ∙ ap (drop k) (sym (take-take (k + n) m new (omega (arith, before, within))) ∙ ap (take (k + n)) same ∙ take-take (k + n) at old before)
          ∙ drop-take k n old,
    )

stands_before : (area : Area) (at : ℕ) (old new : Image) (address : Address) (page : PageBytes) → take (min at (length (area_of area old))) (area_of area new) ≡ take at (area_of area old)
    → other_area_of area new ≡ other_area_of area old → LiesBefore area at address page → StandsWhole old address page → StandsWhole new address page
stands_before Pages at old new (InPages k) page same there before stands = let left = left_before at k page_size old.pages new.pages same (before refl) stands.0 in (left.0, left.1 ∙ stands.1)
stands_before Log at old new (InLog k) page same there before stands = let left = left_before at k page_size old.log new.log same (before refl) stands.0 in (left.0, left.1 ∙ stands.1)
stands_before Pages at old new (InLog k) page same there before stands = let P : List ℕ → Type 0 = λ bytes. (k + page_size ≤ length bytes) × (take page_size (drop k bytes) ≡ page.bytes) in subst P (sym there) stands
stands_before Log at old new (InPages k) page same there before stands = let P : List ℕ → Type 0 = λ bytes. (k + page_size ≤ length bytes) × (take page_size (drop k bytes) ≡ page.bytes) in subst P (sym there) stands

stood_kept : (area : Area) (at : ℕ) (was now : Image) (pages : List (Address × PageBytes)) → take (min at (length (area_of area was))) (area_of area now) ≡ take at (area_of area was)
    → other_area_of area now ≡ other_area_of area was → EachListed (LiesBefore area at) pages → EachListed (StandsWhole was) pages → KeptStand (Some now) pages
stood_kept area at was now pages same there before each image is address page listed =
    subst (λ (i : Image). StandsWhole i address page) (some_image is) (stands_before area at was now address page same there (before address page listed) (each address page listed))

-- the pages that are kept after all that had to made way
pub way_made : (contents : Option Image) (old new : List (Address × PageBytes)) → (new ≡ old) ⊎ (new ≡ []) → KeptStand contents old → KeptStand contents new
way_made contents old new (inl same) each image is = subst (EachListed (StandsWhole image)) (sym same) (each image is)
way_made contents old new (inr none) each image is = none_kept contents new none image is

none_told : IsSome {T = Image} None → ⊥
none_told is = cc

-- after a write, whole or not
pub written_kept : {T E : Type 0} (r : Result T E) (area : Area) (at : ℕ) (bytes : List ℕ) (old new : Option Image) (pages : List (Address × PageBytes))
    → (IsSome new → IsSome old)
    → OnOk r (IfSome new (λ now. IfSome old (λ was. WritesTo area at bytes was now)))
    → OnErr r (IfSome new (λ now. IfSome old (λ was. TearsIn area at (length bytes) was now)))
    → EachListed (LiesBefore area at) pages → KeptStand old pages → KeptStand new pages
written_kept r area at bytes old None pages told written failed before each = λ image is. cc
written_kept r area at bytes None (Some now) pages told written failed before each = absurd (none_told (told refl))
written_kept (Ok x) area at bytes (Some was) (Some now) pages told written failed before each = stood_kept area at was now pages written.here.before written.there before (each was refl)
written_kept (Err e) area at bytes (Some was) (Some now) pages told written failed before each = stood_kept area at was now pages failed.here.before failed.there before (each was refl)
