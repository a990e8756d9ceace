-- The content that bytes of a line stand for: its stretches without a backslash, and its pairs.
use Rattle.std.proofs.Common.{◌≡◌, ℕ, ◌<◌, ◌≤◌, ◌==◌, Bool, true, false, cond, List, [], ◌∷◌, ◌++◌, length, take, drop, get_or, Option, None, Some, refl, sym, ap, ◌∙◌, arith, append_assoc, length-drop, drop-cons}
use Rattle.std.specs.List.{list_any}
use Rattle.std.specs.Option.{option_map_or}
use Rattle.std.proofs.lemmas.Bool.{or_parts}
use Rattle.std.proofs.lemmas.List.{append-nil, nil_from_length, take-append-drop}
use Rattle.nx_pyx.specs.Event.{unescape, unescaped_byte}
use Rattle.nx_pyx.specs.Line.{is_backslash}

unescape-other : (a : ℕ) (bs : List ℕ) → is_backslash a ≡ false → unescape (a ∷ bs) ≡ a ∷ unescape bs
unescape-other a [] h = refl
unescape-other a (b ∷ bs) h = rw h

-- bytes without a backslash stand for themselves
unescape-plain : (stretch others : List ℕ) → list_any is_backslash stretch ≡ false → unescape (stretch ++ others) ≡ stretch ++ unescape others
unescape-plain [] others h = refl
unescape-plain (a ∷ stretch) others h =
    let parts = or_parts (is_backslash a) (list_any is_backslash stretch) h in
    unescape-other a (stretch ++ others) parts.0 ∙ ap (λ r. a ∷ r) (unescape-plain stretch others parts.1)

-- a content that is cut behind such bytes
pub unescape-stretch : (bs stretch others : List ℕ) (n : ℕ) → list_any is_backslash (take n bs) ≡ false → stretch ≡ take n bs → others ≡ drop n bs → unescape bs ≡ stretch ++ unescape others
unescape-stretch bs stretch others n p f g = rw (f, g) (ap unescape (sym (take-append-drop n bs)) ∙ unescape-plain (take n bs) (drop n bs) p)

-- the byte behind them is a backslash
pub backslash_at : (bs others after : List ℕ) (n first : ℕ) → (n < length bs → get_or bs n 0 ≡ 92) → others ≡ drop n bs → others ≡ first ∷ after → first ≡ 92
backslash_at bs others after n first at f g =
    let e : drop n bs ≡ first ∷ after = sym f ∙ g in
    let inside : n < length bs = omega (arith, sym (length-drop n bs) ∙ ap length e) in
    let head = drop-cons bs n 0 inside in
    let here = at inside in
    cc

-- no content has more bytes than stand for it
pub length-unescape : (bs : List ℕ) → length (unescape bs) ≤ length bs
length-unescape [] = omega arith
length-unescape (a ∷ []) = omega arith
length-unescape (a ∷ b ∷ bs) = pair (a == 92) (unescaped_byte b) (length-unescape bs) (length-unescape (b ∷ bs))
  where
    pair : (t : Bool) (o : Option ℕ) → length (unescape bs) ≤ length bs → length (unescape (b ∷ bs)) ≤ length (b ∷ bs) → length (cond t (option_map_or (λ byte. byte ∷ unescape bs) o (a ∷ unescape (b ∷ bs))) (a ∷ unescape (b ∷ bs))) ≤ length (a ∷ b ∷ bs)
    pair true (Some byte) h k = omega arith
    pair true None h k = omega arith
    pair false o h k = omega arith

-- the content after a stretch at its end
pub unescaped-last : (all bytes stretch others rest : List ℕ) → bytes ++ unescape rest ≡ all → unescape rest ≡ stretch ++ unescape others → length others ≡ 0 → bytes ++ stretch ≡ all
unescaped-last all bytes stretch others rest h e l =
    let nil : others ≡ [] = nil_from_length others l in
    ap (λ r. bytes ++ r) (sym (append-nil stretch) ∙ ap (λ r. stretch ++ unescape r) (sym nil) ∙ sym e) ∙ h

-- what follows a stretch: the byte that the backslash stands for, and the rest
pub unescape-more : (stretch others rest after left : List ℕ) (first byte : ℕ) → unescape rest ≡ stretch ++ unescape others → others ≡ first ∷ after → first ≡ 92 → unescape (92 ∷ after) ≡ byte ∷ unescape left → unescape rest ≡ stretch ++ (byte ∷ unescape left)
unescape-more stretch others rest after left first byte e s at p =
    e ∙ ap (λ r. stretch ++ unescape r) (s ∙ ap (λ b. b ∷ after) at) ∙ ap (λ r. stretch ++ r) p

-- the content after a stretch and the byte behind it
pub unescaped-more : (all bytes stretch rest left : List ℕ) (byte : ℕ) → bytes ++ unescape rest ≡ all → unescape rest ≡ stretch ++ (byte ∷ unescape left) → ((bytes ++ stretch) ++ byte ∷ []) ++ unescape left ≡ all
unescaped-more all bytes stretch rest left byte h e =
    append_assoc (bytes ++ stretch) (byte ∷ []) (unescape left)
    ∙ append_assoc bytes stretch (byte ∷ unescape left)
    ∙ ap (λ r. bytes ++ r) (sym e)
    ∙ h
