-- What was taken of an input, as blocks come.
use Rattle.std.proofs.Common.{◌≡◌, ℕ, ◌+◌, ◌≤◌, List, ◌++◌, length, take, drop, min, Option, None, Some, sym, ap, ◌∙◌, subst, arith, append_assoc, length-append}
use Rattle.std.proofs.lemmas.List.{length-take, take_at}
use Rattle.nx_host.specs.declared.input.Input.{Input}
use Rattle.nx_host.specs.Host.{Takes}
use Rattle.nx_host.specs.Input.{HasTaken, block_of}

-- one block behind another
pub block_behind : (x y : List ℕ) (a b c : Option (List ℕ)) → Takes x a b → Takes y b c → Takes (x ++ y) a c
block_behind x y a b None first second = tt
block_behind x y a None (Some left) first second = absurd (cc)
block_behind x y a (Some mid) (Some left) first second =
    let is : mid ≡ y ++ left = cc in first ∙ ap (λ (l : List ℕ). Some (x ++ l)) is ∙ ap (λ (l : List ℕ). Some l) (sym (append_assoc x y left))

-- a buffer that was written over
pub buffer_is : (n : ℕ) (buffer bytes : List ℕ) → n ≡ length bytes → take n (bytes ++ drop (length bytes) buffer) ≡ bytes
buffer_is n buffer bytes is = take_at bytes (drop (length bytes) buffer) n (sym is)

-- one block more
pub fills : {old new : Input} {buffer : List ℕ} {count : ℕ} {was now : Option (List ℕ)} → new.buffer.items ≡ buffer → new.len ≡ count → new.taken ≡ old.taken + count →
    count ≤ length buffer → Takes (take count buffer) was now → (taken : List ℕ) (first : Option (List ℕ)) → HasTaken old taken first was →
    HasTaken new (taken ++ block_of new) first now
fills {old = old} {new = new} {buffer = buffer} {count = count} {was = was} {now = now} items len count_is within takes taken first had =
    let block : block_of new ≡ take count buffer = ap (λ (k : ℕ). take k new.buffer.items) len ∙ ap (take count) items in
    subst (λ (l : List ℕ). HasTaken new (taken ++ l) first now) (sym block)
    (record {
      counted =
          let long : length (take count buffer) ≡ min count (length buffer) = length-take count buffer in
          let size : length (taken ++ take count buffer) ≡ length taken + length (take count buffer) = length-append taken (take count buffer) in
          let counted : old.taken ≡ length taken = had.counted in
          omega arith;
      takes = block_behind taken (take count buffer) first was now had.takes takes;
    })
