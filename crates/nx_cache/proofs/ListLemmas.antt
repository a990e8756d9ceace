-- The list of a cache in the words of `lru`, which finds and removes the first of a page's entries.
use Rattle.std.proofs.Common.{◌≡◌, ℕ, zero, suc, ◌-◌, ◌<◌, ◌≤◌, true, false, List, [], ◌∷◌, length, take, Option, None, Some, refl, sym, ap, subst, ◌∙◌, arith}
use Rattle.std.proofs.lemmas.List.{take_all}
use Rattle.std.specs.List.{IsDistinct, AllByRecursion}
use Rattle.std.specs.Option.{option_map_or}
use Rattle.std.specs.Map.{keys_of, lookup_entry, remove_entry}
use Rattle.lru.specs.LruCache.{LruCache, IsValid, promoted, put_entries}
use Rattle.nx_slots.specs.declared.page.PageBytes.{PageBytes}
use Rattle.nx_cache.specs.declared.address.Address.{Address}
use Rattle.nx_cache.specs.Addresses.{same_address}
use Rattle.nx_cache.proofs.AddressLemmas.{are_one}
use Rattle.nx_cache.specs.Cached.{brought_to_front, bytes_listed, without_page}

-- a page that isn't listed isn't removed
none_without : (address : Address) (es : List (Address × PageBytes)) → AllByRecursion (λ k. same_address address k ≡ false) (keys_of es) → without_page address es ≡ es
none_without address [] h = refl
none_without address (e ∷ es) h = rw h.0 (ap (λ l. e ∷ l) (none_without address es h.1))

pub absent_without : (address : Address) (es : List (Address × PageBytes)) → bytes_listed address es ≡ None → without_page address es ≡ es
absent_without address [] h = refl
absent_without address (e ∷ es) h = (elim (same_address address e.0) as (λ b. same_address address e.0 ≡ b → without_page address (e ∷ es) ≡ e ∷ es) [
  | true ↦ λ t. let found = rw t at h in cc
  | false ↦ λ t. rw t (ap (λ l. e ∷ l) (absent_without address es (rw t at h)))
]) refl

-- where no page is listed twice, the first entry of a page is the only one
pub remove_without : (address : Address) (es : List (Address × PageBytes)) → IsDistinct same_address (keys_of es) → remove_entry (same_address address) es ≡ without_page address es
unfolding IsDistinct
remove_without address [] h = refl
remove_without address (e ∷ es) h = (elim (same_address address e.0) as (λ b. same_address address e.0 ≡ b → remove_entry (same_address address) (e ∷ es) ≡ without_page address (e ∷ es)) [
  | true ↦ λ t. let same : address ≡ e.0 = are_one address e.0 t in
      rw t (sym (none_without address es (subst (λ k. AllByRecursion (λ j. same_address k j ≡ false) (keys_of es)) (sym same) h.0)))
  | false ↦ λ t. rw t (ap (λ l. e ∷ l) (remove_without address es h.1))
]) refl

-- the entry that is found has the page and its bytes
entry_of : (address : Address) (es : List (Address × PageBytes)) → lookup_entry (same_address address) es ≡ option_map_or (λ bytes. Some (address, bytes)) (bytes_listed address es) None
entry_of address [] = refl
entry_of address (e ∷ es) = (elim (same_address address e.0) as (λ b. same_address address e.0 ≡ b → lookup_entry (same_address address) (e ∷ es) ≡ option_map_or (λ bytes. Some (address, bytes)) (bytes_listed address (e ∷ es)) None) [
  | true ↦ λ t. let same : address ≡ e.0 = are_one address e.0 t in rw t (ap (λ k. Some (k, e.1)) (sym same))
  | false ↦ λ t. rw t (entry_of address es)
]) refl

fronted : (address : Address) (es : List (Address × PageBytes)) (o : Option PageBytes) → remove_entry (same_address address) es ≡ without_page address es
    → option_map_or (λ e. e ∷ remove_entry (same_address address) es) (option_map_or (λ bytes. Some (address, bytes)) o None) es ≡ option_map_or (λ bytes. (address, bytes) ∷ without_page address es) o es
fronted address es None h = refl
fronted address es (Some bytes) h = ap (λ l. (address, bytes) ∷ l) h

pub promoted_front : (address : Address) (es : List (Address × PageBytes)) → IsDistinct same_address (keys_of es) → promoted (same_address address) es ≡ brought_to_front address es
promoted_front address es h =
    ap (λ o. option_map_or (λ e. e ∷ remove_entry (same_address address) es) o es) (entry_of address es) ∙ fronted address es (bytes_listed address es) (remove_without address es h)

-- a page that is listed makes frame by going
shorter : (address : Address) (es : List (Address × PageBytes)) (bytes : PageBytes) → bytes_listed address es ≡ Some bytes → length (without_page address es) < length es
shorter address [] bytes h = cc
shorter address (e ∷ es) bytes h = (elim (same_address address e.0) as (λ b. same_address address e.0 ≡ b → length (without_page address (e ∷ es)) < length (e ∷ es)) [
  | true ↦ λ t. rw t (let n = most address es in omega arith)
  | false ↦ λ t. rw t (let n = shorter address es bytes (rw t at h) in omega arith)
]) refl
  where
    most : (address : Address) (es : List (Address × PageBytes)) → length (without_page address es) ≤ length es
    most address [] = omega arith
    most address (e ∷ es) = (elim (same_address address e.0) as (λ b. same_address address e.0 ≡ b → length (without_page address (e ∷ es)) ≤ length (e ∷ es)) [
      | true ↦ λ t. rw t (let n = most address es in omega arith)
      | false ↦ λ t. rw t (let n = most address es in omega arith)
    ]) refl

take_first : {X : Type 0} (n : ℕ) (x : X) (xs : List X) → 0 < n → x ∷ take (n - 1) xs ≡ take n (x ∷ xs)
take_first zero x xs h = absurd (omega arith)
take_first (suc n) x xs h = let e : suc n - 1 ≡ n = omega arith in ap (λ m. x ∷ take m xs) e

put_by : (cache : LruCache Address PageBytes) (address : Address) (bytes : PageBytes) → IsValid same_address cache → (o : Option PageBytes) → bytes_listed address cache.entries ≡ o
    → option_map_or (λ (e : Address × PageBytes). (e.0, bytes) ∷ remove_entry (same_address address) cache.entries) (option_map_or (λ was. Some (address, was)) o None) ((address, bytes) ∷ take (cache.cap - 1) cache.entries) ≡ take cache.cap ((address, bytes) ∷ without_page address cache.entries)
put_by cache address bytes valid None h =
    take_first cache.cap (address, bytes) cache.entries valid.2 ∙ ap (λ l. take cache.cap ((address, bytes) ∷ l)) (sym (absent_without address cache.entries h))
put_by cache address bytes valid (Some was) h =
    let n = shorter address cache.entries was h in
    let fits : length ((address, bytes) ∷ without_page address cache.entries) ≤ cache.cap = omega (arith, valid.1) in
    ap (λ l. (address, bytes) ∷ l) (remove_without address cache.entries valid.0) ∙ sym (take_all cache.cap ((address, bytes) ∷ without_page address cache.entries) fits)

pub put_kept : (cache : LruCache Address PageBytes) (address : Address) (bytes : PageBytes) → IsValid same_address cache → put_entries same_address cache address bytes ≡ take cache.cap ((address, bytes) ∷ without_page address cache.entries)
put_kept cache address bytes valid =
    ap (λ o. option_map_or (λ (e : Address × PageBytes). (e.0, bytes) ∷ remove_entry (same_address address) cache.entries) o ((address, bytes) ∷ take (cache.cap - 1) cache.entries)) (entry_of address cache.entries)
    ∙ put_by cache address bytes valid (bytes_listed address cache.entries) refl
