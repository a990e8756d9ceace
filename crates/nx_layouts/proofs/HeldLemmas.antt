-- Which records hold a layout.
use Rattle.std.proofs.Common.{◌≡◌, ℕ, ◌≤◌, List, [], ◌∷◌, ◌++◌, Some, inl, inr, sym, ap, ◌∙◌, subst}
use Rattle.std.specs.Prelude.{Contains}
use Rattle.std.proofs.lemmas.List.Elements.{Contains-append_left, Contains-append_right, Contains-append_cases}
use Rattle.nx_piece.specs.declared.piece.Piece.{Piece}
use Rattle.nx_piece.specs.Gapped.{gapped_size}
use Rattle.nx_cuts.specs.Cut.{Bare, Grown, Kept, CutTree}
use Rattle.nx_layouts.specs.Layout.{RecordPlace, LaidNode, Layout, Stock, piece_body, piece_of, IsReadIn, AreHeld, AreLaidParts, places_of, nodes_in, whole, IsLaidOutAs}
use Rattle.nx_layouts.specs.Nodes.{StayAt, HeldStays}
use Rattle.nx_layouts.proofs.PlaceLemmas.{no_place, one_place, first_among, later_among}

-- what stays of a row stays of the rows in it
stay_below : {was now : Stock} (n : LaidNode) (b s : Layout) → StayAt was now (Grown n b s) → StayAt was now b
stay_below n b s stay = record {
  pieces = λ place piece among. stay.pieces place piece (Contains-append_left (places_of b) (places_of s) place among);
  lists = λ m among. stay.lists m (later_among n (nodes_in b ++ nodes_in s) m (Contains-append_left (nodes_in b) (nodes_in s) m among));
  most = stay.most;
}

stay_beside : {was now : Stock} (n : LaidNode) (b s : Layout) → StayAt was now (Grown n b s) → StayAt was now s
stay_beside n b s stay = record {
  pieces = λ place piece among. stay.pieces place piece (Contains-append_right (places_of b) (places_of s) place among);
  lists = λ m among. stay.lists m (later_among n (nodes_in b ++ nodes_in s) m (Contains-append_right (nodes_in b) (nodes_in s) m among));
  most = stay.most;
}

stay_members : {was now : Stock} (p : RecordPlace) (m s : Layout) → StayAt was now (Kept p m s) → StayAt was now m
stay_members p m s stay = record {
  pieces = λ place piece among. stay.pieces place piece (later_among p (places_of m ++ places_of s) place (Contains-append_left (places_of m) (places_of s) place among));
  lists = λ n among. stay.lists n (Contains-append_left (nodes_in m) (nodes_in s) n among);
  most = stay.most;
}

stay_behind : {was now : Stock} (p : RecordPlace) (m s : Layout) → StayAt was now (Kept p m s) → StayAt was now s
stay_behind p m s stay = record {
  pieces = λ place piece among. stay.pieces place piece (later_among p (places_of m ++ places_of s) place (Contains-append_right (places_of m) (places_of s) place among));
  lists = λ n among. stay.lists n (Contains-append_right (nodes_in m) (nodes_in s) n among);
  most = stay.most;
}

-- a layout is held still where its pieces and its contents stay
pub held_stays : HeldStays
held_stays was now Bare stay h = tt
held_stays was now (Grown n b s) stay h = (
  stay.lists n (first_among n (nodes_in b ++ nodes_in s)) h.0,
  held_stays was now b (stay_below n b s stay) h.1,
  held_stays was now s (stay_beside n b s stay) h.2,
)
held_stays was now (Kept p m s) stay h = (
  record {
    there = stay.pieces p (piece_of m) (first_among p (places_of m ++ places_of s)) (h.0).there;
    fits = subst (λ (most : ℕ). gapped_size (piece_body m) ≤ most) (sym stay.most) (h.0).fits;
  },
  held_stays was now m (stay_members p m s stay) h.1,
  held_stays was now s (stay_behind p m s stay) h.2,
)

-- ... as where all of one is in the other
pub record HasAll (one other : Stock) : Type 0 where
  pub pieces : (place : RecordPlace) (piece : Piece) → one.piece_at place ≡ Some piece → other.piece_at place ≡ Some piece
  pub lists : (first : ℕ) (bytes : List ℕ) → one.list_at first ≡ Some bytes → other.list_at first ≡ Some bytes
  pub most : other.most ≡ one.most

pub held_along : (one other : Stock) (a : Layout) → HasAll one other → AreHeld one a → AreHeld other a
held_along one other a all h =
    held_stays one other a (record {
      pieces = λ place piece among. all.pieces place piece;
      lists = λ n among read first far. all.lists first n.node.content (read first far);
      most = all.most;
    }) h

-- a piece is held where a record of a layout stands
pub layout_held : (stock : Stock) (a : Layout) (place : RecordPlace) → AreHeld stock a → Contains (places_of a) place → (piece : Piece) × (stock.piece_at place ≡ Some piece)
layout_held stock Bare place h among = absurd (no_place place among)
layout_held stock (Grown node below beside) place h among =
    elim (Contains-append_cases (places_of below) (places_of beside) place among) [
      | inl one ↦ layout_held stock below place h.1 one
      | inr other ↦ layout_held stock beside place h.2 other
    ]
layout_held stock (Kept at members beside) place h among =
    elim (Contains-append_cases (at ∷ []) (places_of members ++ places_of beside) place among) [
      | inl here ↦ (piece_of members, ap stock.piece_at (one_place at place here) ∙ (h.0).there)
      | inr deeper ↦ elim (Contains-append_cases (places_of members) (places_of beside) place deeper) [
        | inl one ↦ layout_held stock members place h.1 one
        | inr other ↦ layout_held stock beside place h.2 other
      ]
    ]

-- each content of a layout that is held is read in its list
pub node_read : (stock : Stock) (a : Layout) (n : LaidNode) → AreHeld stock a → Contains (nodes_in a) n → IsReadIn stock.list_at n
node_read stock Bare n h among = absurd (no_place n among)
node_read stock (Grown node below beside) n h among =
    elim (Contains-append_cases (node ∷ []) (nodes_in below ++ nodes_in beside) n among) [
      | inl here ↦ subst (λ (m : LaidNode). IsReadIn stock.list_at m) (sym (one_place node n here)) h.0
      | inr deeper ↦ elim (Contains-append_cases (nodes_in below) (nodes_in beside) n deeper) [
        | inl one ↦ node_read stock below n h.1 one
        | inr other ↦ node_read stock beside n h.2 other
      ]
    ]
node_read stock (Kept at members beside) n h among =
    elim (Contains-append_cases (nodes_in members) (nodes_in beside) n among) [
      | inl one ↦ node_read stock members n h.1 one
      | inr other ↦ node_read stock beside n h.2 other
    ]

-- a document is laid out still where the pieces of its records and its contents stay
pub laid_there : (one other : Stock) (root : RecordPlace) (document : CutTree) (layout : Layout) → StayAt one other (whole root document.node layout)
    → IsLaidOutAs one root document layout → IsLaidOutAs other root document layout
laid_there one other root document layout stay laid = record {
  same = laid.same;
  held = held_stays one other (whole root document.node layout) stay laid.held;
  once = laid.once;
  light = subst (λ (most : ℕ). AreLaidParts most (whole root document.node layout)) (sym stay.most) laid.light;
  is_document = laid.is_document;
}
