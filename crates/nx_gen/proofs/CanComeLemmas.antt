-- Each command can come: the document is one, and so are the nodes and contents.
use Rattle.std.proofs.Common.{◌≡◌, ℕ, zero, suc, ◌+◌, ◌*◌, ◌<◌, ◌≤◌, List, [], ◌∷◌, length, refl, sym, subst, arith, decimal, codes}
use Rattle.std.proofs.lemmas.List.{length-replicate}
use Rattle.std.proofs.lemmas.Fmt.{length-decimal-le}
use Rattle.std.proofs.lemmas.Nat.{mod_below}
use Rattle.nx_tree.specs.Forest.{forest_of, nodes}
use Rattle.nx_tree.specs.Document.{IsDocument, IsForest, IsNode, HasNoAttribute, AttributesComeFirst, AreDistinct, depth}
use Rattle.nx_tree.proofs.ForestLemmas.{no_names}
use Rattle.nx_gen.specs.Draws.{next_state, after_text, draw_from, drawn_below, drawn_text}
use Rattle.nx_pyx.specs.Event.{text_node}
use Rattle.nx_gen.specs.Commands.{document, id_node, instruction_node, elements_from}

pub text_short : (state : ℕ) → length (drawn_text state) ≤ 32
text_short state =
    let m : drawn_below 33 state < 33 = mod_below (draw_from state) 33 (omega arith) in
    let n = length-replicate (drawn_below 33 state) (97 + drawn_below 26 (next_state state)) in
    omega arith

pub is_text : (text : List ℕ) → length text ≤ 32 → IsNode (text_node text)
is_text text h = record { parts = refl; short = omega arith }

pub is_instruction : (text : List ℕ) → length text ≤ 32 → IsNode (instruction_node text)
is_instruction text h = record { parts = refl; short = omega arith }

is_id : (number : ℕ) → number < 100000 → IsNode (id_node number)
is_id number h =
    let n : length (decimal number) ≤ 5 = length-decimal-le 5 number (omega arith) (omega arith) (omega arith) in
    record { parts = refl; short = omega arith }

one_name : (name : List ℕ) → AreDistinct (name ∷ [])
one_name name = ((λ c. absurd (omega (arith, c.1))), tt)

-- the elements are a forest of a document, and none of them is an attribute
all_forest : (number many state : ℕ) → number + many ≤ 100000 → IsForest (forest_of (elements_from number many state))
all_forest number zero state h = tt
all_forest number (suc many) state h = (
  record { parts = (refl, refl); short = omega arith },
  (tt, one_name (codes "id")),
  (is_id number (omega arith), refl, tt, (is_text (drawn_text state) (text_short state), refl, tt, tt)),
  all_forest (number + 1) many (after_text state) (omega arith),
)

no_attribute : (number many state : ℕ) → HasNoAttribute (forest_of (elements_from number many state))
no_attribute number zero state = tt
no_attribute number (suc many) state = (refl, no_attribute (number + 1) many (after_text state))

elements_first : (number many state : ℕ) → AttributesComeFirst (forest_of (elements_from number many state))
elements_first number zero state = tt
elements_first number (suc many) state = no_attribute (number + 1) many (after_text state)

all_nodes : (number many state : ℕ) → nodes (forest_of (elements_from number many state)) ≡ 3 * many
all_nodes number zero state = refl
all_nodes number (suc many) state = omega (arith, all_nodes (number + 1) many (after_text state))

all_shallow : (number many state : ℕ) → depth (forest_of (elements_from number many state)) ≤ 2
all_shallow number zero state = omega arith
all_shallow number (suc many) state = omega (arith, all_shallow (number + 1) many (after_text state))

pub document_is : (n state : ℕ) → n ≤ 100000 → IsDocument (document n state)
document_is n state h =
    record {
      root = refl;
      unnamed = refl;
      bare = refl;
      top = (refl, tt);
      one = refl;
      forest = (record { parts = (refl, refl); short = omega arith }, (elements_first 0 n state, subst AreDistinct (sym (no_names (forest_of (elements_from 0 n state)) (no_attribute 0 n state))) tt), all_forest 0 n state (omega arith), tt);
      shallow = omega (arith, all_shallow 0 n state);
      small = omega (arith, all_nodes 0 n state);
    }
