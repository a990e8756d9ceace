use Rattle.std.proofs.Common.{◌≡◌, ℕ, Bool, true, [], ◌∷◌, ◌++◌, List, length, sym, ap, ◌∙◌, subst, length-append, arith, cond}
use Rattle.nx_reach.specs.Parts.{AreEnds, parts_from}
use Rattle.nx_reach.proofs.PartLemmas.{ends_on, parts_on}
use Rattle.nx_reach.proofs.paths.Paths.push.Goals as goal

-- the ends behind one more, where it was kept
added : (old new : List ℕ) (end : ℕ) (ok : Bool) → new ≡ cond ok (old ++ end ∷ []) old → ok ≡ true → new ≡ old ++ end ∷ []
added old new end ok is kept = is ∙ ap (λ (b : Bool). cond b (old ++ end ∷ []) old) kept

pub invariant_of-self-else-is_err : goal.invariant_of-self-else-is_err
invariant_of-self-else-is_err c =
    let inside = c.self.inside in
    let xs = inside.positions.items in
    let ys = c.args.path.now in
    let all : c.extend_from_slice.new.self.items ≡ xs ++ ys = c.in_ok-extend_from_slice.ensures.items in
    let end : c.len-end.result ≡ length (xs ++ ys) = c.len-end.ensures ∙ c.extend_from_slice.new.self.ok.0 ∙ ap length all in
    let n = length-append xs ys in
    let ends = ends_on 0 inside.ends.items (length xs) (length (xs ++ ys)) c.self.invariant (omega arith) in
    let is : c.push.new.self.items ≡ inside.ends.items ++ length (xs ++ ys) ∷ [] =
    added inside.ends.items c.push.new.self.items c.len-end.result _ c.push.ensures.items c.if-is_err.ensures.negation ∙ ap (λ (e : ℕ). inside.ends.items ++ e ∷ []) end in
    subst (λ (zs : List ℕ). AreEnds 0 c.push.new.self.items (length zs)) (sym all) (subst (λ (es : List ℕ). AreEnds 0 es (length (xs ++ ys))) (sym is) ends)

pub returns-clause-ok : goal.returns-clause-ok
returns-clause-ok c =
    let inside = c.self.inside in
    let xs = inside.positions.items in
    let ys = c.args.path.now in
    let all : c.extend_from_slice.new.self.items ≡ xs ++ ys = c.in_ok-extend_from_slice.ensures.items in
    let end : c.len-end.result ≡ length (xs ++ ys) = c.len-end.ensures ∙ c.extend_from_slice.new.self.ok.0 ∙ ap length all in
    let is : c.push.new.self.items ≡ inside.ends.items ++ length (xs ++ ys) ∷ [] =
    added inside.ends.items c.push.new.self.items c.len-end.result _ c.push.ensures.items c.if-is_err.ensures.negation ∙ ap (λ (e : ℕ). inside.ends.items ++ e ∷ []) end in
    ap (λ (es : List ℕ). parts_from 0 es c.extend_from_slice.new.self.items) is ∙ ap (λ (zs : List ℕ). parts_from 0 (inside.ends.items ++ length (xs ++ ys) ∷ []) zs) all
    ∙ parts_on 0 inside.ends.items xs ys c.self.invariant ∙ ap (λ (ps : List (List ℕ)). ps ++ ys ∷ []) c.self.view_is
