-- The elements that are made one after the other.
use Rattle.std.proofs.Common.{◌≡◌, ℕ, suc, ◌+◌, ◌-◌, ◌<◌, List, [], ◌∷◌, ◌++◌, sym, ap, ◌∙◌, arith, append_assoc}
use Rattle.std.proofs.lemmas.List.{append-nil}
use Rattle.nx_tree.specs.Forest.{OrderedTree, Forest, Empty, forest_of, planted}
use Rattle.nx_tree.proofs.ForestLemmas.{forest_of-planted}
use Rattle.nx_gen.specs.Draws.{after_text}
use Rattle.nx_gen.specs.Commands.{after_texts, numbered_element, elements_from}

-- the elements up to a number are made, and where those that are left are made all are
pub record IsMade (n seed number state : ℕ) (made : Forest) : Type 0 where
  pub trees : List OrderedTree
  pub is : made ≡ forest_of trees
  pub all : trees ++ elements_from number (n - number) state ≡ elements_from 0 n seed
  pub ends : after_texts (n - number) state ≡ after_texts n seed

pub made_none : (n seed : ℕ) (made : Forest) → made ≡ Empty → IsMade n seed 0 seed made
made_none n seed made e = record { trees = []; is = e; all = ap (λ m. elements_from 0 m seed) (let z : n - 0 ≡ n = omega arith in z); ends = ap (λ m. after_texts m seed) (let z : n - 0 ≡ n = omega arith in z) }

pub made_more : (n seed number state next : ℕ) (made more : Forest) (t : OrderedTree) → number < n → IsMade n seed number state made → t ≡ numbered_element number state → next ≡ after_text state → more ≡ planted made t → IsMade n seed (number + 1) next more
made_more n seed number state next made more t lt m e f g =
    let left : n - number ≡ suc (n - (number + 1)) = omega arith in
    record {
      trees = m.trees ++ t ∷ [];
      is = g ∙ ap (λ l. planted l t) m.is ∙ sym (forest_of-planted m.trees t);
      all =
          append_assoc m.trees (t ∷ []) (elements_from (number + 1) (n - (number + 1)) next)
          ∙ ap (λ u. m.trees ++ u ∷ elements_from (number + 1) (n - (number + 1)) next) e
          ∙ ap (λ s. m.trees ++ numbered_element number state ∷ elements_from (number + 1) (n - (number + 1)) s) f
          ∙ sym (ap (λ many. m.trees ++ elements_from number many state) left)
          ∙ m.all;
      ends = ap (λ s. after_texts (n - (number + 1)) s) f ∙ sym (ap (λ many. after_texts many state) left) ∙ m.ends;
    }

pub made_all : (n seed number state : ℕ) (made : Forest) → n ≡ number → IsMade n seed number state made → made ≡ forest_of (elements_from 0 n seed)
made_all n seed number state made e m =
    let none : n - number ≡ 0 = omega arith in
    m.is ∙ ap forest_of (sym (append-nil m.trees) ∙ sym (ap (λ many. m.trees ++ elements_from number many state) none) ∙ m.all)

pub made_state : (n seed number state : ℕ) (made : Forest) → n ≡ number → IsMade n seed number state made → state ≡ after_texts n seed
made_state n seed number state made e m =
    let none : n - number ≡ 0 = omega arith in
    sym (ap (λ many. after_texts many state) none) ∙ m.ends
