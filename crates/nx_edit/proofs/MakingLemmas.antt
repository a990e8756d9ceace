-- Contents that are too long for their items, put into lists: in rows, and in what records hold.
use Rattle.std.proofs.Common.{◌≡◌, ℕ, ◌+◌, ◌≤◌, ◌<◌, Bool, true, false, if◌then◌else◌, List, [], ◌∷◌, ◌++◌, length, Option, None, Some, inl, inr, refl, sym, ap, ap₂, ◌∙◌, subst, arith, append-nil, append_assoc, IsPermutation}
use Rattle.std.specs.Prelude.{Contains}
use Rattle.std.specs.Option.{option_map_or, option_or, option_to_list}
use Rattle.std.proofs.lemmas.Bool.{false≢true}
use Rattle.std.proofs.lemmas.List.Sums.{sum_by-append, sum_by-cons}
use Rattle.std.proofs.lemmas.List.Sorted.{IsPermutation-refl, IsPermutation-trans, IsPermutation-append_comm, IsPermutation-append_left, IsPermutation-append_right}
use Rattle.nx_tree.specs.declared.node.Node.{Node}
use Rattle.nx_tree.specs.Document.{longest_node}
use Rattle.nx_weights.specs.Weight.{longest_near}
use Rattle.nx_holdings.specs.declared.header.Settings.{Settings}
use Rattle.nx_holdings.specs.Holdings.{Held, chain_count}
use Rattle.nx_records.specs.Changes.{WritesList}
use Rattle.nx_piece.specs.declared.piece.Far.{Far}
use Rattle.nx_piece.specs.declared.piece.Piece.{Piece}
use Rattle.nx_piece.specs.declared.piece.Proxy.{Proxy}
use Rattle.nx_piece.specs.Gapped.{Gapped, End, Grow, Gap, gapped_size}
use Rattle.nx_piece.specs.Valid.{AreNear, IsPiece}
use Rattle.nx_piece_edits.specs.Setting.{node_with_content}
use Rattle.nx_cuts.specs.Cut.{Bare, Grown, Kept, CutForest, width}
use Rattle.nx_layouts.specs.Layout.{RecordPlace, LaidNode, Layout, Stock, AreHeld, contents_of, gap_more, in_record, lists_of, nodes_in, piece_body, piece_of, places_of, proxies_of, proxy_of, shown_with, without_places}
use Rattle.nx_layouts.specs.Nodes.{NodesChange}
use Rattle.nx_layouts.proofs.NodeLemmas.{change_behind, change_below}
use Rattle.nx_layouts.proofs.HeldLemmas.{HasAll, held_along}
use Rattle.nx_hold.specs.Contents.{near_in, near_pages, content_pages}
use Rattle.nx_hold.specs.Documents.{MovesRecords}
use Rattle.nx_hold.specs.Pieces.{HasContent, IsNamedNowhere, IsNoProxies, IsTidy, MayName, PieceMap, held_by}
use Rattle.nx_hold.proofs.ContentLemmas.{content_comes_tidy, content_moves}
use Rattle.nx_hold.proofs.MapLemmas.{piece_map}
use Rattle.nx_hold.proofs.MoveLemmas.{moves_add_up, moves_none, may_name_still, pieces_stay_beside}
use Rattle.nx_hold.proofs.RecordsLemmas.{none_named}
use Rattle.nx_hold.proofs.NodeLemmas.{pages_long}
use Rattle.nx_hold.proofs.PieceLemmas.{some_same, no_value}
use Rattle.nx_hold.proofs.PutLemmas.{list_here}
use Rattle.nx_edit.specs.Making.{IsMadeFar, IsRowMadeFar, MakesFar, first_long, needs_list, with_far}
use Rattle.nx_edit.proofs.LongLemmas.{FarStays, far_stays, far_within}

-- ---- rows

first_gap : (f : Gapped) → first_long (gap_more f) ≡ first_long f
first_gap End = refl
first_gap (Grow n b s) = refl
first_gap (Gap count s) = refl

far_gap : (far : Far) (f : Gapped) → with_far far (gap_more f) ≡ gap_more (with_far far f)
far_gap far End = refl
far_gap far (Gap count s) = refl
far_gap far (Grow n b s) =
    elim (needs_list n) as (λ (t : Bool). Gap 1 (if t then Grow (node_with_content [] (Some far) n) b s else option_map_or (λ there. Grow n (with_far far b) s) (first_long b) (Grow n b (with_far far s)))
    ≡ gap_more (if t then Grow (node_with_content [] (Some far) n) b s else option_map_or (λ there. Grow n (with_far far b) s) (first_long b) (Grow n b (with_far far s)))) [
      | true ↦ refl
      | false ↦
          elim (first_long b) as (λ (o : Option (List ℕ)). Gap 1 (option_map_or (λ there. Grow n (with_far far b) s) o (Grow n b (with_far far s))) ≡ gap_more (option_map_or (λ there. Grow n (with_far far b) s) o (Grow n b (with_far far s)))) [
            | None ↦ refl
            | Some c ↦ refl
          ]
    ]

abbrev far_at : ℕ → List ℕ → Far
far_at first content = record { first = first; length = length content }

-- A row in which the first content that is too long for its item is in the list at a first page.
pub record IsLaidFar (first : ℕ) (content : List ℕ) (row : Layout) : Type 0 where
  pub new : Layout
  pub body : piece_body new ≡ with_far (far_at first content) (piece_body row)
  pub same : without_places new ≡ without_places row
  pub wide : width new ≡ width row
  pub proxies : proxies_of new ≡ proxies_of row
  pub places : places_of new ≡ places_of row
  pub node : LaidNode
  pub near : node.list ≡ None
  pub holds : node.node.content ≡ content
  pub changes : NodesChange (nodes_in row) (nodes_in new) (node ∷ []) (record { node = node.node; list = Some first } ∷ [])
  pub held : (stock : Stock) → stock.list_at first ≡ Some content → AreHeld stock row → AreHeld stock new

laid_here : (first : ℕ) (node : Node) (list : Option ℕ) (b s : Layout) → needs_list (shown_with node list) ≡ true
    → (r : IsLaidFar first node.content (Grown (record { node = node; list = list }) b s)) × (piece_body r.new ≡ Grow (node_with_content [] (Some (far_at first node.content)) (shown_with node list)) (piece_body b) (piece_body s))
laid_here first node (Some other) b s long = absurd (false≢true long)
laid_here first node None b s long = (
  record {
    new = Grown (record { node = node; list = Some first }) b s;
    body = sym (ap (λ (t : Bool). if t then Grow (node_with_content [] (Some (far_at first node.content)) (shown_with node None)) (piece_body b) (piece_body s)
        else option_map_or (λ there. Grow (shown_with node None) (with_far (far_at first node.content) (piece_body b)) (piece_body s)) (first_long (piece_body b)) (Grow (shown_with node None) (piece_body b) (with_far (far_at first node.content) (piece_body s)))) long);
    same = refl;
    wide = refl;
    proxies = refl;
    places = refl;
    node = record { node = node; list = None };
    near = refl;
    holds = refl;
    changes = record { before = []; behind = nodes_in b ++ nodes_in s; were = refl; are = refl };
    held = λ stock there h. (λ other e. ap stock.list_at (sym (some_same e)) ∙ there, h.1, h.2);
  },
  refl,
)

far_row_of : (first : ℕ) (content : List ℕ) (row : Layout) → first_long (piece_body row) ≡ Some content → IsLaidFar first content row
far_row_of first content Bare e = absurd (no_value (sym e))
far_row_of first content (Kept p m s) e =
    let r = far_row_of first content s (sym (first_gap (piece_body s)) ∙ e) in
    record {
      new = Kept p m r.new;
      body = ap gap_more r.body ∙ sym (far_gap (far_at first content) (piece_body s));
      same = ap (λ (c : CutForest). Kept tt (without_places m) c) r.same;
      wide = ap (λ (n : ℕ). width m + n) r.wide;
      proxies = ap (λ (ps : List Proxy). proxy_of p (width m) ∷ ps) r.proxies;
      places = ap (λ (ps : List RecordPlace). p ∷ places_of m ++ ps) r.places;
      node = r.node;
      near = r.near;
      holds = r.holds;
      changes = change_behind r.changes (nodes_in m);
      held = λ stock there h. (h.0, h.1, r.held stock there h.2);
    }
far_row_of first content (Grown n b s) e =
    (elim (needs_list (in_record n)) as (λ (t : Bool). needs_list (in_record n) ≡ t → (if t then Some (in_record n).node.content else option_or (first_long (piece_body b)) (first_long (piece_body s))) ≡ Some content → IsLaidFar first content (Grown n b s)) [
      | true ↦ λ long there. here long there
      | false ↦ λ short there.
          (elim (first_long (piece_body b)) as (λ (o : Option (List ℕ)). first_long (piece_body b) ≡ o → option_or o (first_long (piece_body s)) ≡ Some content → IsLaidFar first content (Grown n b s)) [
            | None ↦ λ none later. beside short none (far_row_of first content s later)
            | Some c ↦ λ here found. below short c here (far_row_of first content b (here ∙ found))
          ]) refl there
    ]) refl e
  where
    own_content : (node : Node) (list : Option ℕ) → needs_list (shown_with node list) ≡ true → (shown_with node list).node.content ≡ node.content
    own_content node None long = refl
    own_content node (Some other) long = absurd (false≢true long)

    here : needs_list (in_record n) ≡ true → Some (in_record n).node.content ≡ Some content → IsLaidFar first content (Grown n b s)
    here long there = subst (λ (c : List ℕ). IsLaidFar first c (Grown n b s)) (sym (own_content n.node n.list long) ∙ some_same there) (laid_here first n.node n.list b s long).0

    below : needs_list (in_record n) ≡ false → (c : List ℕ) → first_long (piece_body b) ≡ Some c → IsLaidFar first content b → IsLaidFar first content (Grown n b s)
    below short c found r = record {
      new = Grown n r.new s;
      body = ap (λ (f : Gapped). Grow (in_record n) f (piece_body s)) r.body
          ∙ sym (ap (λ (t : Bool). if t then Grow (node_with_content [] (Some (far_at first content)) (in_record n)) (piece_body b) (piece_body s)
          else option_map_or (λ there. Grow (in_record n) (with_far (far_at first content) (piece_body b)) (piece_body s)) (first_long (piece_body b)) (Grow (in_record n) (piece_body b) (with_far (far_at first content) (piece_body s)))) short
          ∙ ap (λ (o : Option (List ℕ)). option_map_or (λ there. Grow (in_record n) (with_far (far_at first content) (piece_body b)) (piece_body s)) o (Grow (in_record n) (piece_body b) (with_far (far_at first content) (piece_body s)))) found);
      same = ap (λ (x : CutForest). Grown n.node x (without_places s)) r.same;
      wide = refl;
      proxies = ap (λ (ps : List Proxy). ps ++ proxies_of s) r.proxies;
      places = ap (λ (ps : List RecordPlace). ps ++ places_of s) r.places;
      node = r.node;
      near = r.near;
      holds = r.holds;
      changes = change_below r.changes n (nodes_in s);
      held = λ stock there h. (h.0, r.held stock there h.1, h.2);
    }

    beside : needs_list (in_record n) ≡ false → first_long (piece_body b) ≡ None → IsLaidFar first content s → IsLaidFar first content (Grown n b s)
    beside short none r = record {
      new = Grown n b r.new;
      body = ap (λ (f : Gapped). Grow (in_record n) (piece_body b) f) r.body
          ∙ sym (ap (λ (t : Bool). if t then Grow (node_with_content [] (Some (far_at first content)) (in_record n)) (piece_body b) (piece_body s)
          else option_map_or (λ there. Grow (in_record n) (with_far (far_at first content) (piece_body b)) (piece_body s)) (first_long (piece_body b)) (Grow (in_record n) (piece_body b) (with_far (far_at first content) (piece_body s)))) short
          ∙ ap (λ (o : Option (List ℕ)). option_map_or (λ there. Grow (in_record n) (with_far (far_at first content) (piece_body b)) (piece_body s)) o (Grow (in_record n) (piece_body b) (with_far (far_at first content) (piece_body s)))) none);
      same = ap (λ (x : CutForest). Grown n.node (without_places b) x) r.same;
      wide = ap (λ (x : ℕ). 1 + x) r.wide;
      proxies = ap (λ (ps : List Proxy). proxies_of b ++ ps) r.proxies;
      places = ap (λ (ps : List RecordPlace). places_of b ++ ps) r.places;
      node = r.node;
      near = r.near;
      holds = r.holds;
      changes = change_behind r.changes (n ∷ nodes_in b);
      held = λ stock there h. (h.0, h.1, r.held stock there h.2);
    }

-- ---- what is held

pub same_piece : (a b : Piece) → a.body.roots ≡ b.body.roots → a.proxies ≡ b.proxies → a ≡ b
same_piece a b e f = ap₂ (λ (g : Gapped) (ps : List Proxy). let z : Piece = record { body = record { roots = g }; proxies = ps } in z) e f

-- all that is held is so still where lists came alone
pub stock_stays : {brought : List ℕ} {needs : ℕ} {was now : Held} → MovesRecords [] [] [] brought needs was now → (before : PieceMap was) (after : PieceMap now) → HasAll (held_by before) (held_by after)
stock_stays {brought} {needs} {was} {now} moves before after = record {
  pieces = pieces_stay_beside [] brought needs was now before after moves;
  lists = λ first bytes there. moves.lists_stay first bytes there (none_named was first);
  most = ap (λ (s : Settings). s.k) moves.settings;
}

pub made_none : (piece : Piece) → AreNear piece.body.roots → IsMadeFar piece piece
made_none piece near = record { near = near; proxies = refl; wide = refl; weighs = refl; within = λ most_roots most_slots is. is }

pub makes_none : (piece : Piece) (was : Held) → MayName was piece.body.roots → MakesFar piece piece was was
makes_none piece was may = record {
  may = may;
  rows = λ members is. record {
    row = members;
    is = is;
    same = refl;
    places = refl;
    brought = [];
    needs = 0;
    moves = moves_none was;
    few = omega arith;
    pages = omega arith;
    came = subst (λ (l : List ℕ). IsPermutation (contents_of members) l) (sym (append-nil (contents_of members))) (IsPermutation-refl (contents_of members));
    once = tt;
    held = λ before after h. held_along (held_by before) (held_by after) members (stock_stays (moves_none was) before after) h;
  };
}

-- how many pages the contents of nodes take that have no list, where nodes change
pages_of : (ns ms : List LaidNode) → near_pages (ns ++ ms) ≡ near_pages ns + near_pages ms
pages_of ns ms = sum_by-append (λ (n : LaidNode). option_map_or (λ first. 0) n.list (content_pages n.node)) ns ms

lists_append : (ns ms : List LaidNode) → lists_of (ns ++ ms) ≡ lists_of ns ++ lists_of ms
lists_append [] ms = refl
lists_append (n ∷ ns) ms = ap (λ (l : List ℕ). option_to_list n.list ++ l) (lists_append ns ms) ∙ sym (append_assoc (option_to_list n.list) (lists_of ns) (lists_of ms))

around : (before behind : List LaidNode) (n : LaidNode) → near_pages (before ++ (n ∷ behind)) ≡ near_pages before + (option_map_or (λ first. 0) n.list (content_pages n.node) + near_pages behind)
around before behind n =
    let all = pages_of before (n ∷ behind) in
    let first = sum_by-cons (λ (m : LaidNode). option_map_or (λ first. 0) m.list (content_pages m.node)) n behind in
    omega (arith, all, first)

-- a list that comes behind the others
one_more : (before : List ℕ) (first : ℕ) (behind : List ℕ) → IsPermutation (before ++ (first ∷ behind)) ((before ++ behind) ++ (first ∷ []))
one_more before first behind =
    subst (λ (l : List ℕ). IsPermutation (before ++ (first ∷ behind)) l) (sym (append_assoc before behind (first ∷ [])))
    (IsPermutation-append_right before (first ∷ behind) (behind ++ (first ∷ [])) (IsPermutation-append_comm (first ∷ []) behind))

near_one : (node : Node) (list : Option ℕ) → list ≡ None → longest_near < length node.content → option_map_or (λ first. 0) list (content_pages node) ≡ chain_count (length node.content)
near_one node list none over = ap (λ (o : Option ℕ). option_map_or (λ first. 0) o (content_pages node)) none ∙ pages_long node over

-- the first content that is too long for its item was written as a list
module _ (piece : Piece) (content : List ℕ) (far : Far) (long : first_long piece.body.roots ≡ Some content) (length_is : far.length ≡ length content) (fits : far.length ≤ longest_node) where
  abbrev pub put : Piece
  put = record { body = record { roots = with_far far piece.body.roots }; proxies = piece.proxies }

  stays : FarStays far content piece.body.roots (with_far far piece.body.roots)
  stays = far_stays far content piece.body.roots long length_is

  far_is : far ≡ far_at far.first content
  far_is = ap (λ (n : ℕ). record { first = far.first; length = n }) length_is

  pub made_more : (made : Piece) → IsMadeFar put made → IsMadeFar piece made
  made_more made m = record {
    near = m.near;
    proxies = m.proxies;
    wide = m.wide ∙ stays.wide;
    weighs = m.weighs ∙ stays.weighs;
    within = λ most_roots most_slots is. m.within most_roots most_slots (far_within far content piece.body.roots (with_far far piece.body.roots) most_roots most_slots (length piece.proxies) stays fits is);
  }

  -- how many pages both take
  pub pages_more : near_in piece.body.roots ≡ chain_count (length content) + near_in (with_far far piece.body.roots)
  pages_more = stays.pages

  pub size_less : gapped_size (with_far far piece.body.roots) < gapped_size piece.body.roots
  size_less = stays.size

  pub put_is_piece : IsPiece piece → IsPiece put
  put_is_piece is = record { body = far_within far content piece.body.roots (with_far far piece.body.roots) 257 512 (length piece.proxies) stays fits is.body; ranged = is.ranged }

  module _ (was mid : Held) (tidy : IsTidy was) (writes : WritesList far.first content was mid) where
    moves_one : MovesRecords [] [] [] (far.first ∷ []) (chain_count (length content)) was mid
    moves_one = content_moves far.first content was mid writes

    written : mid.lists far.first ≡ Some content
    written = ap (λ (f : ℕ → Option (List ℕ)). f far.first) (writes.changes).lists ∙ list_here was.lists far.first (Some content)

    pub mid_tidy : IsTidy mid
    mid_tidy = (content_comes_tidy far.first content was mid tidy writes).0

    mid_unnamed : IsNamedNowhere mid far.first
    mid_unnamed = (content_comes_tidy far.first content was mid tidy writes).1

    pub mid_may : MayName was piece.body.roots → MayName mid (with_far far piece.body.roots)
    mid_may may other among =
        elim (stays.named other among) [
          | inl new ↦ subst (λ (f : Far). HasContent mid f × IsNoProxies mid f.first) (sym new) ((content, written, sym length_is), λ place count names. mid_unnamed place (inl (count, names)))
          | inr old ↦ may_name_still piece.body.roots tidy moves_one may other old
        ]

    module _ {now : Held} (made : Piece) (m : MakesFar put made mid now) (members : Layout) (is : piece_of members ≡ piece) where
      laid : IsLaidFar far.first content members
      laid = far_row_of far.first content members (ap (λ (p : Piece). first_long p.body.roots) is ∙ long)

      put_is : piece_of laid.new ≡ put
      put_is =
          same_piece (piece_of laid.new) put (laid.body ∙ ap (λ (f : Far). with_far f (piece_body members)) (sym far_is) ∙ ap (λ (p : Piece). with_far far p.body.roots) is)
          (laid.proxies ∙ ap (λ (p : Piece). p.proxies) is)

      rest : IsRowMadeFar laid.new made mid now
      rest = m.rows laid.new put_is

      over : longest_near < length content
      over = stays.long

      pages_then : chain_count (length content) + near_pages (nodes_in laid.new) ≡ near_pages (nodes_in members)
      pages_then =
          let c = laid.changes in
          let were = ap near_pages c.were ∙ around c.before c.behind laid.node in
          let are = ap near_pages c.are ∙ around c.before c.behind (record { node = (laid.node).node; list = Some far.first }) in
          let one = near_one (laid.node).node (laid.node).list laid.near (subst (λ (l : List ℕ). longest_near < length l) (sym laid.holds) over) ∙ ap (λ (l : List ℕ). chain_count (length l)) laid.holds in
          omega (arith, were, are, one)

      near_then : near_in (piece_body members) ≡ chain_count (length content) + near_in (piece_body laid.new)
      near_then = ap (λ (p : Piece). near_in p.body.roots) is ∙ stays.pages ∙ ap (λ (p : Piece). chain_count (length content) + near_in p.body.roots) (sym put_is)

      none_were : (c : NodesChange (nodes_in members) (nodes_in laid.new) (laid.node ∷ []) (record { node = (laid.node).node; list = Some far.first } ∷ [])) → contents_of members ≡ lists_of c.before ++ lists_of c.behind
      none_were c =
          ap lists_of c.were ∙ lists_append c.before (laid.node ∷ c.behind)
          ∙ ap (λ (o : Option ℕ). lists_of c.before ++ (option_to_list o ++ lists_of c.behind)) laid.near

      one_came : (c : NodesChange (nodes_in members) (nodes_in laid.new) (laid.node ∷ []) (record { node = (laid.node).node; list = Some far.first } ∷ [])) → contents_of laid.new ≡ lists_of c.before ++ (far.first ∷ lists_of c.behind)
      one_came c = ap lists_of c.are ∙ lists_append c.before (record { node = (laid.node).node; list = Some far.first } ∷ c.behind)

      came_then : IsPermutation (contents_of laid.new) (contents_of members ++ (far.first ∷ []))
      came_then =
          subst (λ (l : List ℕ). IsPermutation l (contents_of members ++ (far.first ∷ []))) (sym (one_came laid.changes))
          (subst (λ (l : List ℕ). IsPermutation (lists_of (laid.changes).before ++ (far.first ∷ lists_of (laid.changes).behind)) (l ++ (far.first ∷ []))) (sym (none_were laid.changes))
          (one_more (lists_of (laid.changes).before) far.first (lists_of (laid.changes).behind)))

      -- the list that came first isn't among those that came later
      first_once : Contains rest.brought far.first → ⊥
      first_once among = no_value (sym written ∙ (rest.moves).lists_fresh far.first (inr among) (none_named mid far.first))

      pub row_more : IsRowMadeFar members made was now
      row_more =
          let few = rest.few in
          let pages = rest.pages in
          let near = near_then in
          let all = pages_then in
          record {
            row = rest.row;
            is = rest.is;
            same = rest.same ∙ laid.same;
            places = rest.places ∙ laid.places;
            brought = far.first ∷ rest.brought;
            needs = chain_count (length content) + rest.needs;
            moves = moves_add_up [] [] [] [] [] (far.first ∷ []) rest.brought (chain_count (length content)) rest.needs was mid now moves_one rest.moves;
            few = omega (arith, few, near);
            pages = omega (arith, pages, all);
            came = IsPermutation-trans (contents_of rest.row) (contents_of laid.new ++ rest.brought) (contents_of members ++ (far.first ∷ rest.brought)) rest.came
                (subst (λ (l : List ℕ). IsPermutation (contents_of laid.new ++ rest.brought) l) (append_assoc (contents_of members) (far.first ∷ []) rest.brought)
                (IsPermutation-append_left rest.brought (contents_of laid.new) (contents_of members ++ (far.first ∷ [])) came_then));
            once = (first_once, rest.once);
            held = λ before after h.
                let between = piece_map mid in
                rest.held between after (laid.held (held_by between) written (held_along (held_by before) (held_by between) members (stock_stays moves_one before between) h));
          }

    pub makes_more : {now : Held} (made : Piece) → MakesFar put made mid now → MakesFar piece made was now
    makes_more made m = record { may = m.may; rows = λ members is. row_more made m members is }
