-- What it changes to write a byte again that stands in a file: nothing.
use Rattle.std.proofs.Common.{◌≡◌, ◌≤◌, ◌+◌, ◌-◌, ℕ, List, ◌++◌, Option, None, Some, min, length, take, drop, sym, ap, ◌∙◌, subst, refl, arith}
use Rattle.std.specs.Prelude.{◌≢◌, IfSome, IsSome}
use Rattle.std.proofs.Math.Seq.{take-length}
use Rattle.std.proofs.Math.Nat.{min-eq_left}
use Rattle.std.proofs.lemmas.Bool.{false≢true}
use Rattle.std.proofs.lemmas.List.{length-take, length-drop, drop-drop, take-append-drop}
use Rattle.nx_host.specs.Disk.{Keeps, Written, given_at}

around : (at : ℕ) (bytes : List ℕ) → take at bytes ++ (take 1 (drop at bytes) ++ drop (at + 1) bytes) ≡ bytes
around at bytes =
    ap (λ l. take at bytes ++ (take 1 (drop at bytes) ++ l)) (sym (drop-drop 1 at bytes)) ∙ ap (λ l. take at bytes ++ l) (take-append-drop 1 (drop at bytes)) ∙ take-append-drop at bytes

within : (at : ℕ) (was : List ℕ) → length (take 1 (drop at was)) ≡ 1 → at ≤ length was
within at was one =
    let some : min 1 (length (drop at was)) ≡ 1 = sym (length-take 1 (drop at was)) ∙ one in
    let left : length (drop at was) ≡ length was - at = length-drop at was in
    omega arith

pub same_again : (at : ℕ) (byte was now : List ℕ) → length byte ≡ 1 → byte ≡ take 1 (drop at was) → Written at byte was now → was ≡ now
same_again at byte was now one stood written =
    let inside : at ≤ length was = within at was (ap length (sym stood) ∙ one) in
    let before : take at now ≡ take at was = subst (λ n. take n now ≡ take at was) (min-eq_left inside) written.before in
    let here : take 1 (drop at now) ≡ take 1 (drop at was) = subst (λ n. take n (drop at now) ≡ byte) one written.here ∙ stood in
    let after : drop (at + 1) now ≡ drop (at + 1) was = subst (λ n. drop (at + n) now ≡ drop (at + n) was) one written.after in
    sym (sym (around at now) ∙ ap (λ l. l ++ (take 1 (drop at now) ++ drop (at + 1) now)) before ∙ ap (λ l. take at was ++ (l ++ drop (at + 1) now)) here ∙ ap (λ l. take at was ++ (take 1 (drop at was) ++ l)) after ∙ around at was)

-- The byte was read of the file, where it tells its bytes, and written there again.
pub renewed_keeps : (at n : ℕ) (byte : List ℕ) (was now : Option (List ℕ)) → length byte ≡ 1 → n ≢ 0 → n ≤ 1
    → IfSome was (λ was. take n byte ≡ given_at at 1 was)
    → (IsSome now → IsSome was) → IfSome now (λ now. IfSome was (λ was. Written at byte was now)) → Keeps was now
renewed_keeps at n byte was None one some few given told written = tt
renewed_keeps at n byte None (Some now) one some few given told written = absurd (false≢true (told refl))
renewed_keeps at n byte (Some was) (Some now) one some few given told written =
    let count : n ≡ 1 = omega arith in
    let whole : take 1 byte ≡ byte = subst (λ k. take k byte ≡ byte) one (take-length byte) in
    let stood : byte ≡ take 1 (drop at was) = sym whole ∙ subst (λ k. take k byte ≡ take 1 (drop at was)) count given in
    ap Some (same_again at byte was now one stood written)
