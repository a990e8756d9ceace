-- The list of a cache out of the frames in which its pages stand.
use Rattle.std.proofs.Common.{◌≡◌, ℕ, zero, suc, ◌-◌, true, false, List, [], ◌∷◌, length, take, Option, None, Some, Result, Ok, Err, OnErr, refl, sym, ap, subst, ◌∙◌, arith}
use Rattle.std.specs.List.{IsDistinct}
use Rattle.std.specs.Option.{option_map, option_map_or}
use Rattle.lru.proofs.CallerLemmas.{Contains-lookup_entry}
use Rattle.std.specs.Map.{keys_of, lookup, lookup_entry, remove_entry, set_value}
use Rattle.lru.specs.LruCache.{LruCache, IsValid, lru_cache, promoted, put_entries}
use Rattle.nx_slots.specs.declared.page.PageBytes.{PageBytes}
use Rattle.nx_cache.specs.declared.address.Address.{Address}
use Rattle.nx_cache.specs.Addresses.{same_address}
use Rattle.nx_cache.specs.Cached.{Frame, brought_to_front, bytes_listed, in_frames, without_page}
use Rattle.nx_cache.proofs.ListLemmas.{promoted_front, put_kept}

abbrev pub framed_entry : Address × Frame → Address × PageBytes
framed_entry e = (e.0, e.1.value)

pub same_keys : (es : List (Address × Frame)) → keys_of (in_frames es) ≡ keys_of es
same_keys [] = refl
same_keys (e ∷ es) = ap (λ l. e.0 ∷ l) (same_keys es)

pub same_length : (es : List (Address × Frame)) → length (in_frames es) ≡ length es
same_length [] = refl
same_length (e ∷ es) = ap suc (same_length es)

pub framed_bytes : (address : Address) (es : List (Address × Frame)) → bytes_listed address (in_frames es) ≡ option_map (λ (r : Frame). r.value) (lookup (same_address address) es)
framed_bytes address [] = refl
framed_bytes address (e ∷ es) = (elim (same_address address e.0) as (λ b. same_address address e.0 ≡ b → bytes_listed address (in_frames (e ∷ es)) ≡ option_map (λ (r : Frame). r.value) (lookup (same_address address) (e ∷ es))) [
  | true ↦ λ t. rw t refl
  | false ↦ λ t. rw t (framed_bytes address es)
]) refl

framed_found : (address : Address) (es : List (Address × Frame)) → lookup_entry (same_address address) (in_frames es) ≡ option_map framed_entry (lookup_entry (same_address address) es)
framed_found address [] = refl
framed_found address (e ∷ es) = (elim (same_address address e.0) as (λ b. same_address address e.0 ≡ b → lookup_entry (same_address address) (in_frames (e ∷ es)) ≡ option_map framed_entry (lookup_entry (same_address address) (e ∷ es))) [
  | true ↦ λ t. rw t refl
  | false ↦ λ t. rw t (framed_found address es)
]) refl

framed_removed : (address : Address) (es : List (Address × Frame)) → remove_entry (same_address address) (in_frames es) ≡ in_frames (remove_entry (same_address address) es)
framed_removed address [] = refl
framed_removed address (e ∷ es) = (elim (same_address address e.0) as (λ b. same_address address e.0 ≡ b → remove_entry (same_address address) (in_frames (e ∷ es)) ≡ in_frames (remove_entry (same_address address) (e ∷ es))) [
  | true ↦ λ t. rw t refl
  | false ↦ λ t. rw t (ap (λ l. framed_entry e ∷ l) (framed_removed address es))
]) refl

framed_take : (n : ℕ) (es : List (Address × Frame)) → take n (in_frames es) ≡ in_frames (take n es)
framed_take zero es = refl
framed_take (suc n) [] = refl
framed_take (suc n) (e ∷ es) = ap (λ l. framed_entry e ∷ l) (framed_take n es)

front_of : (address : Address) (es : List (Address × Frame)) (o : Option (Address × Frame)) → in_frames (option_map_or (λ (e : Address × Frame). e ∷ remove_entry (same_address address) es) o es)
    ≡ option_map_or (λ (e : Address × PageBytes). e ∷ remove_entry (same_address address) (in_frames es)) (option_map framed_entry o) (in_frames es)
front_of address es None = refl
front_of address es (Some e) = ap (λ l. framed_entry e ∷ l) (sym (framed_removed address es))

-- a page that is brought to the front
pub framed_front : (address : Address) (es : List (Address × Frame)) → IsDistinct same_address (keys_of es) → in_frames (promoted (same_address address) es) ≡ brought_to_front address (in_frames es)
framed_front address es h =
    front_of address es (lookup_entry (same_address address) es)
    ∙ ap (λ o. option_map_or (λ (e : Address × PageBytes). e ∷ remove_entry (same_address address) (in_frames es)) o (in_frames es)) (sym (framed_found address es))
    ∙ promoted_front address (in_frames es) (subst (IsDistinct same_address) (sym (same_keys es)) h)

put_of : (cache : LruCache Address Frame) (address : Address) (frame : Frame) (o : Option (Address × Frame)) → in_frames (option_map_or (λ (e : Address × Frame). (e.0, frame) ∷ remove_entry (same_address address) cache.entries) o ((address, frame) ∷ take (cache.cap - 1) cache.entries))
    ≡ option_map_or (λ (e : Address × PageBytes). (e.0, frame.value) ∷ remove_entry (same_address address) (in_frames cache.entries)) (option_map framed_entry o) ((address, frame.value) ∷ take (cache.cap - 1) (in_frames cache.entries))
put_of cache address frame None = ap (λ l. (address, frame.value) ∷ l) (sym (framed_take (cache.cap - 1) cache.entries))
put_of cache address frame (Some e) = ap (λ l. (e.0, frame.value) ∷ l) (sym (framed_removed address cache.entries))

valid_shown : (cache : LruCache Address Frame) → IsValid same_address cache → IsValid same_address (lru_cache (in_frames cache.entries) cache.cap)
valid_shown cache v = (subst (IsDistinct same_address) (sym (same_keys cache.entries)) v.0, (let n = same_length cache.entries in omega (arith, v.1)), v.2)

-- a page that is put
pub framed_put : (cache : LruCache Address Frame) (address : Address) (frame : Frame) → IsValid same_address cache → in_frames (put_entries same_address cache address frame) ≡ take cache.cap ((address, frame.value) ∷ without_page address (in_frames cache.entries))
framed_put cache address frame v =
    put_of cache address frame (lookup_entry (same_address address) cache.entries)
    ∙ ap (λ o. option_map_or (λ (e : Address × PageBytes). (e.0, frame.value) ∷ remove_entry (same_address address) (in_frames cache.entries)) o ((address, frame.value) ∷ take (cache.cap - 1) (in_frames cache.entries))) (sym (framed_found address cache.entries))
    ∙ put_kept (lru_cache (in_frames cache.entries) cache.cap) address frame.value (valid_shown cache v)

none_found : (address : Address) (es : List (Address × Frame)) → lookup_entry (same_address address) es ≡ None → lookup (same_address address) es ≡ None
none_found address [] h = refl
none_found address (e ∷ es) h = (elim (same_address address e.0) as (λ b. same_address address e.0 ≡ b → lookup (same_address address) (e ∷ es) ≡ None) [
  | true ↦ λ t. let found = rw t at h in cc
  | false ↦ λ t. rw t (none_found address es (rw t at h))
]) refl

written : (cache : LruCache Address Frame) (address : Address) (frame new : Frame) (o : Option (Address × Frame)) → lookup_entry (same_address address) cache.entries ≡ o → Some frame ≡ lookup (same_address address) cache.entries
    → set_value (same_address address) (option_map_or (λ (e : Address × Frame). e ∷ remove_entry (same_address address) cache.entries) o cache.entries) new
    ≡ option_map_or (λ (e : Address × Frame). (e.0, new) ∷ remove_entry (same_address address) cache.entries) o ((address, new) ∷ take (cache.cap - 1) cache.entries)
written cache address frame new None h is = let none = none_found address cache.entries h in cc
written cache address frame new (Some e) h is = rw (Contains-lookup_entry (same_address address) cache.entries e h).1 refl

-- a page that is overwritten in its frame
pub framed_written : (cache : LruCache Address Frame) (address : Address) (frame new : Frame) → IsValid same_address cache → Some frame ≡ lookup (same_address address) cache.entries
    → in_frames (set_value (same_address address) (promoted (same_address address) cache.entries) new) ≡ take cache.cap ((address, new.value) ∷ without_page address (in_frames cache.entries))
framed_written cache address frame new v is = ap in_frames (written cache address frame new (lookup_entry (same_address address) cache.entries) refl is) ∙ framed_put cache address new v

pub on_err : {T E : Type 0} (r : Result T E) (P : Type 0) → P → OnErr r P
on_err (Ok x) P h = tt
on_err (Err e) P h = h
