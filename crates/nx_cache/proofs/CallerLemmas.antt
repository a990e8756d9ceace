-- What callers know of each page that is listed.
use Rattle.std.proofs.Common.{◌≡◌, ℕ, zero, suc, true, false, List, [], ◌∷◌, take, Option, None, Some, refl, sym, subst}
use Rattle.std.specs.Option.{option_map_or}
use Rattle.nx_slots.specs.declared.page.PageBytes.{PageBytes}
use Rattle.nx_cache.specs.declared.address.Address.{Address}
use Rattle.nx_cache.specs.Addresses.{same_address}
use Rattle.nx_cache.proofs.AddressLemmas.{are_one}
use Rattle.nx_cache.specs.Cached.{EachListed, brought_to_front, bytes_listed, without_page}

-- what is listed of a page where another was taken away
other_listed : (address other : Address) (es : List (Address × PageBytes)) (bytes : PageBytes) → same_address other address ≡ false → bytes_listed other (without_page address es) ≡ Some bytes → bytes_listed other es ≡ Some bytes
other_listed address other [] bytes differs is = is
other_listed address other (e ∷ es) bytes differs is = (elim (same_address address e.0) as (λ b. same_address address e.0 ≡ b → bytes_listed other (e ∷ es) ≡ Some bytes) [
  | true ↦ λ t.
      let passed : same_address other e.0 ≡ false = subst (λ k. same_address other k ≡ false) (are_one address e.0 t) differs in
      rw passed (other_listed address other es bytes differs (rw t at is))
  | false ↦ λ t.
      let kept = rw t at is in
      (elim (same_address other e.0) as (λ b. same_address other e.0 ≡ b → bytes_listed other (e ∷ es) ≡ Some bytes) [
        | true ↦ λ u. rw u (rw u at kept)
        | false ↦ λ u. rw u (other_listed address other es bytes differs (rw u at kept))
      ]) refl
]) refl

-- ... and where the list was cut
cut_listed : (n : ℕ) (address : Address) (es : List (Address × PageBytes)) (bytes : PageBytes) → bytes_listed address (take n es) ≡ Some bytes → bytes_listed address es ≡ Some bytes
cut_listed zero address es bytes is = cc
cut_listed (suc n) address [] bytes is = is
cut_listed (suc n) address (e ∷ es) bytes is = (elim (same_address address e.0) as (λ b. same_address address e.0 ≡ b → bytes_listed address (e ∷ es) ≡ Some bytes) [
  | true ↦ λ t. rw t (rw t at is)
  | false ↦ λ t. rw t (cut_listed n address es bytes (rw t at is))
]) refl

some_bytes : {x y : PageBytes} → ◌≡◌ {A = Option PageBytes} (Some x) (Some y) → x ≡ y
some_bytes same = cc

module _ (P : Address → PageBytes → Type 0) where
  pub each_none : EachListed P []
  each_none address bytes is = cc

  -- a page goes first, in place of what was listed of it
  first_listed : (address : Address) (bytes : PageBytes) (es : List (Address × PageBytes)) → P address bytes → EachListed P es → EachListed P ((address, bytes) ∷ without_page address es)
  first_listed address bytes es here each other is_bytes is = (elim (same_address other address) as (λ b. same_address other address ≡ b → P other is_bytes) [
    | true ↦ λ t. subst (λ (n : Address). P n is_bytes) (sym (are_one other address t)) (subst (P address) (some_bytes (rw t at is)) here)
    | false ↦ λ t. each other is_bytes (other_listed address other es is_bytes t (rw t at is))
  ]) refl

  pub each_put : (n : ℕ) (address : Address) (bytes : PageBytes) (es : List (Address × PageBytes)) → P address bytes → EachListed P es → EachListed P (take n ((address, bytes) ∷ without_page address es))
  each_put n address bytes es here each other is_bytes is = first_listed address bytes es here each other is_bytes (cut_listed n other ((address, bytes) ∷ without_page address es) is_bytes is)

  pub each_front : (address : Address) (es : List (Address × PageBytes)) → EachListed P es → EachListed P (brought_to_front address es)
  each_front address es each = by_found (bytes_listed address es) refl
    where
      by_found : (o : Option PageBytes) → bytes_listed address es ≡ o → EachListed P (option_map_or (λ bytes. (address, bytes) ∷ without_page address es) o es)
      by_found None is = each
      by_found (Some bytes) is = first_listed address bytes es (each address bytes is) each
