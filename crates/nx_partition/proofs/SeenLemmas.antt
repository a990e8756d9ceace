-- The minima of the children of a node, picked out of those of all nodes below it.
use Rattle.std.proofs.Common.{◌≡◌, ℕ, ◌+◌, List, [], ◌∷◌, ◌++◌, drop, sym, ap, ◌∙◌, arith, append_assoc}
use Rattle.std.proofs.lemmas.List.{append-nil, drop-drop}
use Rattle.nx_tree.specs.Forest.{OrderedTree, Forest, Empty, Plant, nodes}
use Rattle.nx_parts.specs.declared.bounds.Bound.{Bound}
use Rattle.nx_choices.specs.declared.child.Child.{Child}
use Rattle.nx_minima.specs.Seen.{as_child, seen, tops}

-- The list has the minima of a forest's first trees; `rest` are the others.
pub record IsSeen (forest rest : Forest) (below : List Bound) (next : ℕ) (list : List Child) : Type 0 where
  pub all : list ++ seen (tops rest (drop next below)) ≡ seen (tops forest below)
  pub left : next + nodes rest ≡ nodes forest

pub seen_start : (forest : Forest) (below : List Bound) (list : List Child) → list ≡ [] → IsSeen forest forest below 0 list
seen_start forest below list none = record { all = ap (λ l. l ++ seen (tops forest below)) none; left = omega arith }

pub seen_more : {forest rest : Forest} {below : List Bound} {next : ℕ} {list more : List Child} (t : OrderedTree) (n : ℕ) (bound : Bound) → IsSeen forest (Plant t.node t.below rest) below next list
    → drop next below ≡ bound ∷ drop (next + 1) below → n ≡ 1 + nodes t.below → more ≡ list ++ as_child bound ∷ [] → IsSeen forest rest below (next + n) more
seen_more {forest} {rest} {below} {next} {list} {more} t n bound w prefix is push =
    let jump : drop (nodes t.below) (drop (next + 1) below) ≡ drop (next + n) below =
    drop-drop (nodes t.below) (next + 1) below ∙ ap (λ m. drop m below) (let e : next + 1 + nodes t.below ≡ next + n = omega (arith, is) in e) in
    record {
      all =
          ap (λ l. l ++ seen (tops rest (drop (next + n) below))) push
          ∙ append_assoc list (as_child bound ∷ []) (seen (tops rest (drop (next + n) below)))
          ∙ sym (ap (λ bs. list ++ as_child bound ∷ seen (tops rest bs)) jump)
          ∙ sym (ap (λ bs. list ++ seen (tops (Plant t.node t.below rest) bs)) prefix)
          ∙ w.all;
      left = omega (arith, w.left, is);
    }

pub seen_end : {forest : Forest} {below : List Bound} {next : ℕ} {list : List Child} → IsSeen forest Empty below next list → list ≡ seen (tops forest below)
seen_end {list = list} w = sym (append-nil list) ∙ w.all
