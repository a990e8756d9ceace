-- Records that were put for some trees, and then for others.
use Rattle.std.proofs.Common.{◌≡◌, ℕ, ◌+◌, ◌≤◌, ◌<◌, List, [], ◌∷◌, ◌++◌, length, Option, None, Some, inl, inr, refl, sym, ap, ◌∙◌, subst, arith, append-nil}
use Rattle.std.specs.Prelude.{◌⊎◌, Contains}
use Rattle.std.proofs.lemmas.Option.{none-some}
use Rattle.std.proofs.lemmas.List.Elements.{Contains-append_left, Contains-append_right, Contains-append_cases}
use Rattle.nx_tree.specs.declared.node.Node.{Node}
use Rattle.nx_holdings.specs.declared.header.Settings.{Settings}
use Rattle.nx_holdings.specs.Holdings.{Held, chain_count}
use Rattle.nx_records.specs.Changes.{WritesList}
use Rattle.nx_piece.specs.declared.piece.Far.{Far}
use Rattle.nx_weights.specs.Weight.{longest_near}
use Rattle.nx_piece.specs.PieceNode.{PieceNode}
use Rattle.nx_piece.specs.Gapped.{gapped_size}
use Rattle.nx_piece.specs.Valid.{AreFar, AreNear}
use Rattle.nx_piece.proofs.SizeLemmas.{size_is_weight}
use Rattle.nx_cuts.specs.Cut.{Bare, Grown, Kept}
use Rattle.nx_layouts.specs.Layout.{RecordPlace, LaidNode, Layout, Stock, laid_weight, laid_near, shown_with, in_record, lists_of, nodes_in, contents_of, places_of, piece_body, piece_of, IsReadIn, AreHeld, AreLaidParts, AreOnce, ArePlacedOnce}
use Rattle.nx_layouts.specs.Replace.{joined_layout}
use Rattle.nx_layouts.proofs.PlaceLemmas.{no_place, one_place, once-append}
use Rattle.nx_layouts.proofs.NodeLemmas.{lists-append, list_among, node_of_list}
use Rattle.nx_layouts.proofs.SizeLemmas.{body_weight}
use Rattle.nx_layouts.proofs.BodyLemmas.{bodies_are_of_rows}
use Rattle.nx_layouts.proofs.HeldLemmas.{HasAll, held_along}
use Rattle.nx_layouts.proofs.ReplaceLemmas.{held-joined_layout, nodes-joined_layout}
use Rattle.nx_hold.specs.Pieces.{record_at, NamesList, IsNoProxies, IsTidy, MayName, PieceMap, held_by}
use Rattle.nx_hold.specs.Contents.{content_pages, IsNodeHeld}
use Rattle.nx_hold.specs.Changes.{piece_needs, AddsPiece}
use Rattle.nx_hold.specs.Documents.{HaveSame, MovesRecords, AddsRecords}
use Rattle.nx_hold.proofs.PieceLemmas.{some_same, no_value}
use Rattle.nx_hold.proofs.MapLemmas.{piece_map, told_some}
use Rattle.nx_hold.proofs.PutLemmas.{list_here}
use Rattle.nx_hold.proofs.RecordsLemmas.{not_none, none_named}
use Rattle.nx_hold.proofs.MoveLemmas.{moves_none, moves_same, moves_more, same_self, piece_adds_record, records_add_up, pieces_stay_beside, contents_stay_around}
use Rattle.nx_hold.proofs.ContentLemmas.{content_comes_tidy, content_moves}
use Rattle.nx_hold.proofs.NodeLemmas.{pages_long}
use Rattle.nx_build.specs.Laying.{proxy_count, laid_needs, PutsLayout}
use Rattle.nx_build.proofs.RowLemmas.{places-joined, needs-joined, length-proxies, piece_few}

-- What was put stands:

module _ (layout : Layout) (was now : Held) (puts : PutsLayout layout was now) where
  put_record : (place : RecordPlace) → Contains (places_of layout) place → record_at now place ≡ None → ⊥
  put_record place among none = not_none (record_at now place) ((puts.adds).came place among) none

  put_list : (first : ℕ) → Contains (contents_of layout) first → (bytes : List ℕ) × (now.lists first ≡ Some bytes)
  put_list first among =
      let n = node_of_list (nodes_in layout) first among in
      ((n.0).node.content, puts.read n.0 n.1 first n.2)

  -- the contents may be named
  pub may_name : MayName now (piece_body layout)
  may_name far names =
      let n = (bodies_are_of_rows layout).named far names in
      (((n.0).node.content, puts.read n.0 n.1 far.first n.2, n.3), puts.apart far.first (list_among (nodes_in layout) n.0 far.first n.1 n.2))

-- ... and stays where records come
module _ {places : List RecordPlace} {brought : List ℕ} {needs : ℕ} {was now : Held} (adds : AddsRecords places brought needs was now) where
  read_later : (n : LaidNode) → IsReadIn was.lists n → IsReadIn now.lists n
  read_later n read first far = adds.lists_stay first n.node.content (read first far) (none_named was first)

  same_limit : (now.settings).k ≡ (was.settings).k
  same_limit = ap (λ (s : Settings). s.k) adds.settings

  all_later : (pieces : PieceMap now) → HasAll (held_by (piece_map was)) (held_by pieces)
  all_later pieces = record {
    pieces = pieces_stay_beside places brought needs was now (piece_map was) pieces adds;
    lists = λ first bytes there. adds.lists_stay first bytes there (none_named was first);
    most = same_limit;
  }

  light_earlier : (a : Layout) → AreLaidParts (now.settings).k a → AreLaidParts (was.settings).k a
  light_earlier a light = subst (λ (k : ℕ). AreLaidParts k a) same_limit light

  apart_later : IsTidy was → (first : ℕ) (bytes : List ℕ) → was.lists first ≡ Some bytes → IsNoProxies was first → IsNoProxies now first
  apart_later tidy first bytes there none = (contents_stay_around [] places [] brought needs was now tidy adds first bytes there none (no_place first)).1

pub puts_none : (held : Held) → PutsLayout Bare held held
puts_none held = record {
  adds = moves_none held;
  read = λ n among. absurd (no_place n among);
  held = λ pieces light. tt;
  once = tt;
  contents_once = tt;
  apart = λ first among. absurd (no_place first among);
}

-- A row that has what two others have, one behind the other:

pub record IsBothOf (a b whole : Layout) : Type 0 where
  pub places : places_of whole ≡ places_of a ++ places_of b
  pub nodes : nodes_in whole ≡ nodes_in a ++ nodes_in b
  pub needs : laid_needs whole ≡ laid_needs a + laid_needs b
  pub held : (stock : Stock) → AreHeld stock a → AreHeld stock b → AreHeld stock whole
  pub light : (k : ℕ) → AreLaidParts k whole → AreLaidParts k a × AreLaidParts k b

light_apart : (k : ℕ) (a b : Layout) → AreLaidParts k (joined_layout a b) → AreLaidParts k a × AreLaidParts k b
light_apart k Bare b h = (tt, h)
light_apart k (Grown n d s) b h = let rest = light_apart k s b h.1 in ((h.0, rest.0), rest.1)
light_apart k (Kept p m s) b h = let rest = light_apart k s b h.4 in ((h.0, h.1, h.2, h.3, rest.0), rest.1)

pub joined_both : (a b : Layout) → IsBothOf a b (joined_layout a b)
joined_both a b = record {
  places = places-joined a b;
  nodes = nodes-joined_layout a b;
  needs = needs-joined (λ (n : LaidNode). content_pages n.node) a b;
  held = λ stock h g. held-joined_layout stock a b h g;
  light = λ k h. light_apart k a b h;
}

needs_below : (own below : ℕ) → own + below + 0 ≡ own + 0 + 0 + below
needs_below own below = omega arith

-- a tree is its node with what is below
pub grown_both : (n : LaidNode) (below : Layout) → IsBothOf (Grown n Bare Bare) below (Grown n below Bare)
grown_both n below = record {
  places = append-nil (places_of below);
  nodes = ap (λ (ns : List LaidNode). n ∷ ns) (append-nil (nodes_in below));
  needs = needs_below (content_pages n.node) (laid_needs below);
  held = λ stock h g. (h.0, g, tt);
  light = λ k h. ((tt, tt), h.0);
}

module _ {a b whole : Layout} (s : IsBothOf a b whole) (was mid now : Held) (tidy : IsTidy mid) (one : PutsLayout a was mid) (two : PutsLayout b mid now) where
  both_contents : contents_of whole ≡ contents_of a ++ contents_of b
  both_contents = ap lists_of s.nodes ∙ lists-append (nodes_in a) (nodes_in b)

  both_added : AddsRecords (places_of whole) (contents_of whole) (laid_needs whole) was now
  both_added =
      subst (λ (n : ℕ). AddsRecords (places_of whole) (contents_of whole) n was now) (sym s.needs)
      (subst (λ (l : List ℕ). AddsRecords (places_of whole) l (laid_needs a + laid_needs b) was now) (sym both_contents)
      (subst (λ (l : List RecordPlace). AddsRecords l (contents_of a ++ contents_of b) (laid_needs a + laid_needs b) was now) (sym s.places)
      (records_add_up (places_of a) (places_of b) (contents_of a) (contents_of b) (laid_needs a) (laid_needs b) was mid now one.adds two.adds)))

  both_read : (n : LaidNode) → Contains (nodes_in whole) n → IsReadIn now.lists n
  both_read n among =
      elim (Contains-append_cases (nodes_in a) (nodes_in b) n (subst (λ (ns : List LaidNode). Contains ns n) s.nodes among)) [
        | inl early ↦ read_later two.adds n (one.read n early)
        | inr late ↦ two.read n late
      ]

  both_apart : (first : ℕ) → Contains (contents_of whole) first → IsNoProxies now first
  both_apart first among =
      elim (Contains-append_cases (contents_of a) (contents_of b) first (subst (λ (l : List ℕ). Contains l first) both_contents among)) [
        | inl early ↦ let list = put_list a was mid one first early in apart_later two.adds tidy first list.0 list.1 (one.apart first early)
        | inr late ↦ two.apart first late
      ]

  pub puts_both : PutsLayout whole was now
  puts_both = record {
    adds = both_added;
    read = both_read;
    held = λ pieces light.
        let parts = s.light (now.settings).k light in
        s.held (held_by pieces) (held_along (held_by (piece_map mid)) (held_by pieces) a (all_later two.adds pieces) (one.held (piece_map mid) (light_earlier two.adds a parts.0))) (two.held pieces parts.1);
    once = subst ArePlacedOnce (sym s.places)
        (once-append (places_of a) (places_of b) one.once two.once (λ place early late. put_record a was mid one place early ((two.adds).fresh place late (no_place place))));
    contents_once = subst AreOnce (sym both_contents)
        (once-append (contents_of a) (contents_of b) one.contents_once two.contents_once
        (λ first early late. no_value (sym (put_list a was mid one first early).1 ∙ (two.adds).lists_fresh first (inr late) (none_named mid first))));
    apart = both_apart;
  }

-- A node whose content is held:

-- the one node of a row
abbrev pub alone : Node → Option ℕ → Layout
alone node list = Grown (record { node = node; list = list }) Bare Bare

abbrev far_of : PieceNode → Option Far
far_of n = n.far

-- the item tells the list
one_list : (node : Node) (list other : Option ℕ) → shown_with node list ≡ shown_with node other → list ≡ other
one_list node None None e = refl
one_list node None (Some other) e = absurd (no_value (sym (ap far_of e)))
one_list node (Some first) None e = absurd (no_value (ap far_of e))
one_list node (Some first) (Some other) e = ap Some (ap (λ (f : Far). f.first) (some_same (ap far_of e)))

-- each node of the row is this one
only_node : (n : LaidNode) (lists : ℕ → Option (List ℕ)) → IsReadIn lists n → (m : LaidNode) → Contains (nodes_in (Grown n Bare Bare)) m → IsReadIn lists m
only_node n lists read m among = subst (λ (x : LaidNode). IsReadIn lists x) (sym (one_place n m among)) read

puts_near : (node : Node) (held : Held) → PutsLayout (alone node None) held held
puts_near node held = record {
  adds = moves_more [] [] [] [] 0 (laid_needs (alone node None)) held held (omega arith) (moves_none held);
  read = only_node (laid_near node) held.lists none;
  held = λ pieces light. (none, tt, tt);
  once = tt;
  contents_once = tt;
  apart = λ first among. absurd (no_place first among);
}
  where
    none : IsReadIn held.lists (laid_near node)
    none first e = absurd (none-some first e)

only_needs : (own : ℕ) → own ≤ own + 0 + 0
only_needs own = omega arith

module _ (node : Node) (first : ℕ) (was now : Held) (tidy : IsTidy was) (over : longest_near < length node.content) (writes : WritesList first node.content was now) where
  written_there : now.lists first ≡ Some node.content
  written_there = ap (λ (f : ℕ → Option (List ℕ)). f first) (writes.changes).lists ∙ list_here was.lists first (Some node.content)

  written_read : IsReadIn now.lists (record { node = node; list = Some first })
  written_read other e = ap now.lists (sym (some_same e)) ∙ written_there

  written_needs : chain_count (length node.content) ≤ laid_needs (alone node (Some first))
  written_needs = subst (λ (n : ℕ). n ≤ laid_needs (alone node (Some first))) (pages_long node over) (only_needs (content_pages node))

  puts_written : PutsLayout (alone node (Some first)) was now
  puts_written = record {
    adds = moves_more [] [] [] (first ∷ []) (chain_count (length node.content)) (laid_needs (alone node (Some first))) was now written_needs (content_moves first node.content was now writes);
    read = only_node (record { node = node; list = Some first }) now.lists written_read;
    held = λ pieces light. (written_read, tt, tt);
    once = tt;
    contents_once = (no_place first, tt);
    apart = λ other among place count names.
        (content_comes_tidy first node.content was now tidy writes).1 place (inl (count, subst (λ (c : ℕ). NamesList now place count c) (one_place first other among) names));
  }

-- ... was put, and lists are in order still
pub puts_node : (node : Node) (made : PieceNode) (list : Option ℕ) (was now : Held) → made ≡ in_record (record { node = node; list = list }) → IsTidy was → IsNodeHeld node made was now
    → IsTidy now × PutsLayout (alone node list) was now
puts_node node made list was now is tidy h = by_list list (one_list node h.list list (sym h.made_is ∙ is))
  where
    by_list : (own : Option ℕ) → h.list ≡ own → IsTidy now × PutsLayout (alone node own) was now
    by_list None e = subst (λ (x : Held). IsTidy x × PutsLayout (alone node None) was x) (sym (h.near e).1) (tidy, puts_near node was)
    by_list (Some first) e =
        let far = h.far first e in
        ((content_comes_tidy first node.content was now tidy far.1).0, puts_written node first was now tidy far.0 far.1)

more_free : (free pages : ℕ) → free ≤ free + pages
more_free free pages = omega arith

-- ... and no more pages were taken
pub node_takes : (node : Node) (made : PieceNode) (was now : Held) → IsNodeHeld node made was now → was.free ≤ now.free + content_pages node
node_takes node made was now h = by_list h.list refl
  where
    by_list : (own : Option ℕ) → h.list ≡ own → was.free ≤ now.free + content_pages node
    by_list None e = subst (λ (x : Held). was.free ≤ x.free + content_pages node) (sym (h.near e).1) (more_free was.free (content_pages node))
    by_list (Some first) e = let far = h.far first e in subst (λ (n : ℕ). was.free ≤ now.free + n) (sym (pages_long node far.0)) (far.1).free

-- The record of an interval, behind those of all below it:

kept_fits : (needs piece count proxies : ℕ) → piece ≤ 1 + count → count ≡ proxies → needs + piece ≤ 1 + proxies + needs + 0
kept_fits needs piece count proxies most same = omega (arith, most, same)

-- the record of a piece takes a page, and one for each proxy
pub needs_kept : (place : RecordPlace) (members : Layout) → laid_needs members + piece_needs (piece_of members) ≤ laid_needs (Kept place members Bare)
needs_kept place members =
    kept_fits (laid_needs members) (piece_needs (piece_of members)) (length (piece_of members).proxies) (proxy_count members) (piece_few (piece_of members)) (length-proxies members)

front : (place : RecordPlace) (rest : List RecordPlace) (other : RecordPlace) → Contains (rest ++ place ∷ []) other → Contains (place ∷ rest ++ []) other
front place rest other among =
    elim (Contains-append_cases rest (place ∷ []) other among) [
      | inl inside ↦ Contains-append_left (place ∷ rest) [] other (Contains-append_right (place ∷ []) rest other inside)
      | inr one ↦ Contains-append_left (place ∷ rest) [] other (Contains-append_left (place ∷ []) rest other one)
    ]

back : (place : RecordPlace) (rest : List RecordPlace) (other : RecordPlace) → Contains (place ∷ rest ++ []) other → Contains (rest ++ place ∷ []) other
back place rest other among =
    elim (Contains-append_cases (place ∷ rest) [] other among) [
      | inl first ↦ elim (Contains-append_cases (place ∷ []) rest other first) [
        | inl one ↦ Contains-append_right rest (place ∷ []) other one
        | inr inside ↦ Contains-append_left rest (place ∷ []) other inside
      ]
      | inr none ↦ absurd (no_place other none)
    ]

same_lists : (one other : List ℕ) → one ≡ other → HaveSame one other
same_lists one other e = subst (λ (l : List ℕ). HaveSame one l) e (same_self one)

module _ (place : RecordPlace) (members : Layout) (was mid now : Held) (tidy : IsTidy mid) (near : AreNear (piece_body members)) (far : AreFar (piece_body members)) (puts : PutsLayout members was mid) (adds : AddsPiece place (piece_of members) mid now) where
  kept_record : AddsRecords (place ∷ []) [] (piece_needs (piece_of members)) mid now
  kept_record = piece_adds_record place (piece_of members) mid now adds

  kept_nodes : nodes_in (Kept place members Bare) ≡ nodes_in members
  kept_nodes = append-nil (nodes_in members)

  kept_contents : contents_of (Kept place members Bare) ≡ contents_of members
  kept_contents = ap lists_of kept_nodes

  kept_added : AddsRecords (places_of (Kept place members Bare)) (contents_of (Kept place members Bare)) (laid_needs (Kept place members Bare)) was now
  kept_added =
      moves_same [] [] (places_of members ++ place ∷ []) (place ∷ places_of members ++ []) [] [] (contents_of members ++ []) (contents_of (Kept place members Bare))
      (laid_needs members + piece_needs (piece_of members)) (laid_needs (Kept place members Bare)) was now
      (same_self []) (λ other. (front place (places_of members) other, back place (places_of members) other)) (same_self []) (same_lists (contents_of members ++ []) (contents_of (Kept place members Bare)) (append-nil (contents_of members) ∙ sym kept_contents))
      (needs_kept place members)
      (records_add_up (places_of members) (place ∷ []) (contents_of members) [] (laid_needs members) (piece_needs (piece_of members)) was mid now puts.adds kept_record)

  kept_fit : (k : ℕ) → laid_weight members ≤ k → gapped_size (piece_body members) ≤ k
  kept_fit k light = omega (arith, size_is_weight (piece_body members) near far, body_weight members, light)

  kept_held : (pieces : PieceMap now) → AreLaidParts (now.settings).k (Kept place members Bare) → AreHeld (held_by pieces) (Kept place members Bare)
  kept_held pieces light = (
    record { there = told_some now place (piece_of members) (pieces.piece_at place) (pieces.are place) adds.holds; fits = kept_fit (now.settings).k light.2 },
    held_along (held_by (piece_map mid)) (held_by pieces) members (all_later kept_record pieces) (puts.held (piece_map mid) (light_earlier kept_record members light.3)),
    tt,
  )

  kept_apart : (first : ℕ) → Contains (contents_of (Kept place members Bare)) first → IsNoProxies now first
  kept_apart first among =
      let early = subst (λ (l : List ℕ). Contains l first) kept_contents among in
      let list = put_list members was mid puts first early in
      apart_later kept_record tidy first list.0 list.1 (puts.apart first early)

  pub puts_kept : PutsLayout (Kept place members Bare) was now
  puts_kept = record {
    adds = kept_added;
    read = λ n among. read_later kept_record n (puts.read n (subst (λ (ns : List LaidNode). Contains ns n) kept_nodes among));
    held = kept_held;
    once = (
      λ among. put_record members was mid puts place (subst (λ (l : List RecordPlace). Contains l place) (append-nil (places_of members)) among) adds.was_free,
      subst ArePlacedOnce (sym (append-nil (places_of members))) puts.once,
    );
    contents_once = subst AreOnce (sym kept_contents) puts.contents_once;
    apart = kept_apart;
  }
