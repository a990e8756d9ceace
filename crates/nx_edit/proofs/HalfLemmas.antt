-- A record in two, made far first: what moved, and what its pieces and those above name.
use Rattle.std.proofs.Common.{◌≡◌, ℕ, ◌+◌, ◌≤◌, nat_le, if◌then◌else◌, Bool, true, List, [], ◌∷◌, ◌++◌, length, Option, None, Some, inl, inr, refl, sym, ap, subst, arith}
use Rattle.std.specs.Prelude.{Contains, IsSome}
use Rattle.std.specs.Option.{option_map_or, option_to_list}
use Rattle.std.proofs.lemmas.Bool.Decides.{nat_tests}
use Rattle.nx_tree.specs.declared.node.Node.{Node}
use Rattle.nx_weights.specs.Weight.{longest_near}
use Rattle.nx_holdings.specs.Holdings.{Held, chain_count}
use Rattle.nx_piece.specs.declared.piece.Far.{Far}
use Rattle.nx_piece.specs.declared.piece.Piece.{Piece}
use Rattle.nx_piece.specs.declared.piece.Proxy.{Proxy}
use Rattle.nx_piece.specs.Gapped.{End, Grow}
use Rattle.nx_piece.specs.PieceNode.{PieceNode}
use Rattle.nx_piece.specs.Valid.{AreNear, HaveRoots, IsValidPiece}
use Rattle.nx_piece_edits.proofs.ContentsLemmas.{edits_bring_content, edits_keep_contents}
use Rattle.nx_matrix.specs.declared.rule.Entry.{Entry}
use Rattle.nx_matrix.specs.declared.rule.Entry.TheVariants.{Standalone, Cluster, Free}
use Rattle.nx_layouts.specs.Layout.{RecordPlace, LaidNode, in_record, shown_with}
use Rattle.nx_layouts.proofs.PlaceLemmas.{first_among, no_place, one_place}
use Rattle.nx_hold.specs.Changes.{place_named, piece_needs}
use Rattle.nx_hold.specs.Contents.{content_pages, near_in}
use Rattle.nx_hold.specs.Documents.{MovesRecords, AddsRecords}
use Rattle.nx_hold.specs.Pieces.{record_at, HasContent, HoldsPiece, IsNoProxies, IsTidy, MayName}
use Rattle.nx_hold.proofs.MoveLemmas.{contents_stay_around, may_name_still, moves_beside, update_moves, piece_adds_record}
use Rattle.nx_hold.proofs.RecordsLemmas.{record_there}
use Rattle.nx_drafts.proofs.SomeLemmas.{piece_has_members}
use Rattle.nx_edit.specs.Changing.{Put, Child, IsWrittenNode, MayPut, put_content}
use Rattle.nx_edit.specs.Making.{IsMadeFar, IsRowMadeFar, MakesFar}
use Rattle.nx_edit.specs.Parting.{IsNodePlaced, IsPlacedBetween, IsRecordParted, alone_piece}
use Rattle.nx_edit.proofs.ApartLemmas.{adds_behind, moves_then}
use Rattle.nx_edit.proofs.RowCalls.{valid_piece}

-- a piece that a record holds may be stored
pub held_valid : (held : Held) (place : RecordPlace) (piece : Piece) → HoldsPiece held place piece → IsValidPiece piece
held_valid held place piece (inl h) = record { body = h.valid.body; ranged = h.valid.ranged }
held_valid held place piece (inr h) = record { body = h.stored.valid.body; ranged = h.rooted }

-- and so may what is made of it
pub made_valid : (piece made : Piece) → IsMadeFar piece made → IsValidPiece piece → IsValidPiece made
made_valid piece made far valid = record { body = far.within 256 256 valid.body; ranged = subst HaveRoots (sym far.proxies) valid.ranged }

-- Lists came for the long contents of a piece, for no more pages than these take:
pub record HaveListsCome (piece : Piece) (was now : Held) : Type 0 where
  pub brought : List ℕ
  pub needs : ℕ
  pub moves : MovesRecords [] [] [] brought needs was now
  pub few : needs ≤ near_in piece.body.roots

pub lists_come : (piece made : Piece) (was now : Held) → IsValidPiece piece → MakesFar piece made was now → HaveListsCome piece was now
lists_come piece made was now valid makes =
    let some = piece_has_members piece (valid_piece piece valid) in
    let r : IsRowMadeFar some.members made was now = makes.rows some.members some.is in
    let few = r.few in
    let same = ap (λ (p : Piece). near_in p.body.roots) some.is in
    record { brought = r.brought; needs = r.needs; moves = r.moves; few = omega (arith, few, same) }

-- a record that is there may be counted among those that moved
pub one_beside : (place : RecordPlace) (brought : List ℕ) (needs : ℕ) (was now : Held) → IsSome (record_at was place) → MovesRecords [] [] [] brought needs was now → MovesRecords (place ∷ []) (place ∷ []) [] brought needs was now
one_beside place brought needs was now there m =
    moves_beside (place ∷ []) [] [] [] brought needs was now (λ other here. subst (λ (p : RecordPlace). IsSome (record_at was p)) (sym (one_place place other here)) there) (λ other none here. no_place other none) m

-- What a node that is put names, and whether it is long:

pub put_still : {gone come : List RecordPlace} {brought : List ℕ} {needs : ℕ} {was now : Held} (put : Put) → IsTidy was → MovesRecords gone come [] brought needs was now → MayPut was put → MayPut now put
put_still {gone} {come} {brought} {needs} {was} {now} put tidy moves may first e = let m = may first e in contents_stay_around gone come [] brought needs was now tidy moves first (put_content put) m.0 m.1 (no_place first)

may_shown : (held : Held) (position : ℕ) (node : Node) (list : Option ℕ) → MayPut held (Child position (record { node = node; list = list })) → MayName held (Grow (shown_with node list) End End)
may_shown held position node None may far among = absurd (no_place far among)
may_shown held position node (Some first) may far among =
    let same : far ≡ record { first = first; length = length node.content } = one_place (record { first = first; length = length node.content }) far among in
    subst (λ (f : Far). HasContent held f × IsNoProxies held f.first) (sym same) (let m = may first refl in ((node.content, m.0, refl), m.1))

pub may_leaf : (held : Held) (position : ℕ) (node : LaidNode) (leaf : PieceNode) → leaf ≡ in_record node → MayPut held (Child position node) → MayName held (Grow leaf End End)
may_leaf held position node leaf is may = subst (λ (n : PieceNode). MayName held (Grow n End End)) (sym is) (may_shown held position node.node node.list may)

short_shown : (node : Node) (list : Option ℕ) → IsWrittenNode (shown_with node list) → option_map_or (λ first. 0) list (content_pages node) ≡ 0
short_shown node None written =
    let short : length node.content ≤ longest_near = written.0 in
    let e : nat_le (length node.content) longest_near ≡ true = grind (arith, nat_tests) in
    subst (λ (t : Bool). (if t then 0 else chain_count (length node.content)) ≡ 0) (sym e) refl
short_shown node (Some first) written = refl

pub short_node : (node : LaidNode) → IsWrittenNode (in_record node) → option_map_or (λ first. 0) node.list (content_pages node.node) ≡ 0
short_node node written = short_shown node.node node.list written

-- The piece above, with the node between the halves:

above_still : {gone come : List RecordPlace} {brought : List ℕ} {needs : ℕ} {was now : Held} (piece : Piece) → IsTidy was → MovesRecords gone come [] brought needs was now → MayName was piece.body.roots → MayName now piece.body.roots
above_still piece tidy moves may = may_name_still piece.body.roots tidy moves may

placed_between : (held : Held) (piece : Piece) (member : ℕ) (path : List ℕ) (position index : ℕ) (front back : Proxy) (leaf : PieceNode) (placed : Piece) → MayName held piece.body.roots → MayName held (Grow leaf End End) → IsPlacedBetween piece member path position index front back leaf placed
    → MayName held placed.body.roots
placed_between held piece member path position index front back leaf placed may may_own b far among =
    elim ((edits_bring_content.node_comes b.0 member path position leaf placed b.2).fars far among) [
      | inl own ↦ may_own far (subst (λ (o : Option Far). Contains (option_to_list o ++ []) far) (sym own) (first_among far []))
      | inr old ↦ may far ((edits_keep_contents.row_comes piece index (front ∷ back ∷ []) b.0 b.1).fars far old)
    ]

-- what it names may be named, as it was before and as the node may be
pub placed_may : {cut mid : Held} (entry : Entry) (piece : Piece) (member : ℕ) (path : List ℕ) (position index : ℕ) (front back : Proxy) (leaf : PieceNode) (placed : Piece) → IsTidy cut → MayName cut piece.body.roots → MayName cut (Grow leaf End End)
    → IsNodePlaced entry piece member path position index front back leaf placed cut mid → MayName mid placed.body.roots
placed_may {cut} {mid} Standalone piece member path position index front back leaf placed tidy may may_own made = λ far among.
    above_still piece tidy (piece_adds_record (place_named made.0) (alone_piece leaf) cut mid made.2) may far
    ((edits_keep_contents.row_comes piece index (front ∷ made.0 ∷ back ∷ []) placed made.3).fars far among)
placed_may {cut} {mid} Cluster piece member path position index front back leaf placed tidy may may_own made =
    subst (λ (h : Held). MayName h placed.body.roots) (sym made.0) (placed_between cut piece member path position index front back leaf placed may may_own made.1)
placed_may {cut} {mid} Free piece member path position index front back leaf placed tidy may may_own made =
    subst (λ (h : Held). MayName h placed.body.roots) (sym made.0) (placed_between cut piece member path position index front back leaf placed may may_own made.1)

module _ {was now : Held} (place : RecordPlace) (before : ℕ) (front back : Proxy) (p : IsRecordParted place before front back was now) where
  abbrev pub front_place : RecordPlace
  front_place = place_named front

  abbrev pub back_place : RecordPlace
  back_place = place_named back

  abbrev pub half_needs : ℕ
  half_needs = piece_needs p.parts.0 + piece_needs p.parts.1

  pub near_halves : AreNear p.parts.0.body.roots × AreNear p.parts.1.body.roots
  near_halves =
      let keeps = edits_keep_contents.divided p.made before p.parts p.divided in
      (keeps.0.near (p.far).near, keeps.1.near (p.far).near)

  pub adds_two : AddsRecords (back_place ∷ []) [] (piece_needs p.parts.1) p.mid now
  adds_two = piece_adds_record back_place p.parts.1 p.mid now p.adds

  pub moves_one : MovesRecords (place ∷ []) (front_place ∷ []) [] [] (piece_needs p.parts.0) p.start p.mid
  moves_one = update_moves place front_place p.parts.0 p.start p.mid p.updates

  -- the record came to be two
  pub moves_half : MovesRecords (place ∷ []) (front_place ∷ back_place ∷ []) [] [] half_needs p.start now
  moves_half = adds_behind (place ∷ []) (front_place ∷ []) back_place [] (piece_needs p.parts.0) (piece_needs p.parts.1) p.start p.mid now moves_one adds_two

  was_there : IsSome (record_at was place)
  was_there = record_there was place p.inner p.there

  pub moves_lists : (brought : List ℕ) (needs : ℕ) → MovesRecords [] [] [] brought needs was p.start → MovesRecords (place ∷ []) (place ∷ []) [] brought needs was p.start
  moves_lists brought needs m = one_beside place brought needs was p.start was_there m

  pub come : HaveListsCome p.inner was p.start
  come = lists_come p.inner p.made was p.start (held_valid was place p.inner p.there) p.makes

  -- all that moved, however many lists came
  pub moves_all : MovesRecords (place ∷ []) (front_place ∷ back_place ∷ []) [] come.brought (come.needs + half_needs) was now
  moves_all = moves_then (place ∷ []) (place ∷ []) (front_place ∷ back_place ∷ []) come.brought come.needs half_needs was p.start now (moves_lists come.brought come.needs come.moves) moves_half
