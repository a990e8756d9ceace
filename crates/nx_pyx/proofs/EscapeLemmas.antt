-- A content, and the bytes of it that are written as they are.
use Rattle.std.proofs.Common.{◌≡◌, ℕ, false, List, [], ◌∷◌, ◌++◌, length, take, drop, refl, sym, ap, ◌∙◌, arith, append_assoc}
use Rattle.std.specs.List.{list_any}
use Rattle.std.proofs.lemmas.Bool.{or_parts}
use Rattle.std.proofs.lemmas.List.{append-nil, nil_from_length, take-append-drop}
use Rattle.std.proofs.lemmas.Bool.Decides.{nat_tests}
use Rattle.nx_pyx.specs.Text.{escape, escaped}
use Rattle.nx_pyx.specs.Escape.{needs_escape}

escape-plain : (b : ℕ) → needs_escape b ≡ false → escape b ≡ b ∷ []
escape-plain b h = grind (arith, nat_tests)

-- bytes that need no escape stand for themselves
escaped-plain : (stretch others : List ℕ) → list_any needs_escape stretch ≡ false → escaped (stretch ++ others) ≡ stretch ++ escaped others
escaped-plain [] others h = refl
escaped-plain (b ∷ stretch) others h =
    let parts = or_parts (needs_escape b) (list_any needs_escape stretch) h in
    rw (escape-plain b parts.0) (ap (λ r. b ∷ r) (escaped-plain stretch others parts.1))

-- a content that is cut behind such bytes
pub escaped-stretch : (bs stretch others : List ℕ) (n : ℕ) → list_any needs_escape (take n bs) ≡ false → stretch ≡ take n bs → others ≡ drop n bs → escaped bs ≡ stretch ++ escaped others
escaped-stretch bs stretch others n p f g = rw (f, g) (ap escaped (sym (take-append-drop n bs)) ∙ escaped-plain (take n bs) (drop n bs) p)

-- what is written after a stretch without an escape at the end of the content
pub written-last : (all block stretch others rest : List ℕ) → block ++ escaped rest ≡ all → escaped rest ≡ stretch ++ escaped others → length others ≡ 0 → block ++ stretch ≡ all
written-last all block stretch others rest h e l =
    let nil : others ≡ [] = nil_from_length others l in
    ap (λ r. block ++ r) (sym (append-nil stretch) ∙ ap (λ r. stretch ++ escaped r) (sym nil) ∙ sym e) ∙ h

-- what is written after a stretch and the byte behind it
pub written-more : (all block stretch others rest : List ℕ) (first : ℕ) (after : List ℕ) → block ++ escaped rest ≡ all → escaped rest ≡ stretch ++ escaped others → others ≡ first ∷ after → ((block ++ stretch) ++ escape first) ++ escaped after ≡ all
written-more all block stretch others rest first after h e s =
    append_assoc (block ++ stretch) (escape first) (escaped after)
    ∙ append_assoc block stretch (escape first ++ escaped after)
    ∙ ap (λ r. block ++ r) (ap (λ r. stretch ++ escaped r) (sym s) ∙ sym e)
    ∙ h

-- what is written after a stretch, where the byte behind it couldn't be
pub written-stretch : (all block stretch others rest : List ℕ) → block ++ escaped rest ≡ all → escaped rest ≡ stretch ++ escaped others → (block ++ stretch) ++ escaped others ≡ all
written-stretch all block stretch others rest h e = append_assoc block stretch (escaped others) ∙ ap (λ r. block ++ r) (sym e) ∙ h
