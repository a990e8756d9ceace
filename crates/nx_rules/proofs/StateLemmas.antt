-- Pages that keep all rules hold the pieces of the records that were reached, and the contents of their nodes.
use Rattle.std.proofs.Common.{◌≡◌, ℕ, ◌+◌, ◌*◌, ◌≤◌, List, [], ◌∷◌, ◌++◌, length, map, refl, sym, ap, ◌∙◌, subst, arith, inl, inr}
use Rattle.std.specs.Prelude.{Option, Some, None}
use Rattle.std.specs.Option.{option_to_list}
use Rattle.nx_tree.specs.declared.node.Node.{Node}
use Rattle.nx_replay.specs.Log.{Pages}
use Rattle.nx_holdings.specs.Holdings.{times, Link, content_of}
use Rattle.nx_holdings.proofs.SharedLemmas.{equal_or}
use Rattle.nx_holdings.proofs.TimesLemmas.{times-append, times_one, times_other}
use Rattle.nx_piece.specs.declared.piece.Body.{Body}
use Rattle.nx_piece.specs.declared.piece.Far.{Far}
use Rattle.nx_piece.specs.declared.piece.Piece.{Piece}
use Rattle.nx_piece.specs.declared.piece.Proxy.{Proxy}
use Rattle.nx_piece.specs.declared.piece.Stored.{Stored}
use Rattle.nx_piece.specs.declared.piece.Stored.TheVariants.{Inline, Chained}
use Rattle.nx_piece.specs.Contents.{fars_in}
use Rattle.nx_piece.specs.Encoding.{proxies_bytes}
use Rattle.nx_piece.specs.Gapped.{Gapped, gapped_size, gapped_width as body_width, proxies_in}
use Rattle.nx_piece.specs.Valid.{IsValid, HaveRoots, HaveNumbers}
use Rattle.nx_cuts.specs.Cut.{Bare, Grown, Kept, width}
use Rattle.nx_layouts.specs.Layout.{RecordPlace, shown_with, in_record, piece_body, proxies_of, piece_of, nodes_in, lists_of, contents_of, IsReadIn, AreHeld}
use Rattle.nx_layouts.proofs.LayoutLemmas.{proxies_counted}
use Rattle.nx_layouts.proofs.FillLemmas.{fars-gap_more}
use Rattle.nx_hold.specs.Pieces.{roots_stored, IsStored, HoldsPiece, held_by}
use Rattle.nx_hold.proofs.MapLemmas.{piece_map, told_some}
use Rattle.nx_rules.specs.Walked.{Reached, Waits, Walked, layout_of, marks_of, links_behind, links_in, walked_body, walked_proxies, content_in, contents_apart, lists_named, StandOn, SaysPiece, HoldsRecord, AreRead, AreAllLight}
use Rattle.nx_rules.specs.Tour.{Tour, IsWholeTour}
use Rattle.nx_rules.proofs.ContentLemmas.{one_apart, contents_counted}
use Rattle.nx_rules.proofs.MeetLemmas.{NoneWait, none_left, none_right}
use Rattle.nx_rules.proofs.RuleLemmas.{width_trees}
use Rattle.nx_rules.proofs.VisitLemmas.{has_trees}
use Rattle.nx_rules.proofs.SoundLemmas.{held_of}
use Rattle.nx_rules.proofs.LaidLemmas.{layout_proxies, Has, HasIn, in_read, often, often_in, two_more, some_trees}
use Rattle.nx_rules.proofs.ListsLemmas.{IsOneOf}
use Rattle.nx_rules.proofs.DeepLemmas.{firsts_of, firsts_in, firsts_grown, nodes_times}
use Rattle.nx_rules.proofs.TidyLemmas.{list_begins, named_held, stored_at}

-- a record has at most 256 roots
stored_few : (stored : Stored) → IsValid stored → body_width (roots_stored stored) ≤ 256
stored_few (Inline piece) valid = valid.body.few
stored_few (Chained body count chain) valid = valid.body.few

roots_append : (ps qs : List Proxy) → HaveRoots ps → HaveRoots qs → HaveRoots (ps ++ qs)
roots_append [] qs h g = g
roots_append (p ∷ ps) qs h g = (h.0, h.1, roots_append ps qs h.2 g)

have_roots : (pages : Pages) (w : Walked) → NoneWait (marks_of w) → AreRead pages w → HaveRoots (walked_proxies w)
have_roots pages Bare n r = tt
have_roots pages (Grown x b s) n r =
    roots_append (walked_proxies b) (walked_proxies s) (have_roots pages b (none_left (marks_of b) (marks_of s) n) r.0) (have_roots pages s (none_right (marks_of b) (marks_of s) n) r.1)
have_roots pages (Kept (Reached p ls) b s) n r =
    let trees = has_trees r.0 in
    let some : 1 ≤ width b = some_trees b trees in
    let wide : width b ≡ body_width (walked_body b) = width_trees b trees.trees in
    let few : body_width (walked_body b) ≤ 256 = subst (λ (g : Gapped). body_width g ≤ 256) r.0.roots (stored_few r.0.stored r.0.there.valid) in
    (some, omega (arith, wide, few), have_roots pages s (none_right (marks_of b) (marks_of s) n) r.2)
have_roots pages (Kept (Waits x) b s) n r = absurd n

-- The contents of the nodes of one record.

-- the lists hold these bytes, one each
abbrev pub Hold : (ℕ → Option (List ℕ)) → List Far → List (List ℕ) → Type 0
Hold lists [] [] = Unit {0}
Hold lists (far ∷ fars) (bytes ∷ held) = (lists far.first ≡ Some bytes) × Hold lists fars held
Hold lists _ _ = ⊥

hold_split : (lists : ℕ → Option (List ℕ)) (xs ys : List Far) (cs bs : List (List ℕ)) → length xs ≡ length cs → Hold lists (xs ++ ys) (cs ++ bs) → Hold lists xs cs × Hold lists ys bs
hold_split lists [] ys [] bs e h = (tt, h)
hold_split lists [] ys (a ∷ cs) bs e h = absurd (omega (arith, e))
hold_split lists (x ∷ xs) ys [] bs e h = absurd (omega (arith, e))
hold_split lists (x ∷ xs) ys (a ∷ cs) bs e h = let r = hold_split lists xs ys cs bs (omega (arith, e)) h.1 in ((h.0, r.0), r.1)

-- each node that the record has itself is read, where its content is far
abbrev pub AreOwnRead : (ℕ → Option (List ℕ)) → Walked → Type 0
AreOwnRead lists Bare = Unit {0}
AreOwnRead lists (Grown node below beside) = IsReadIn lists node × AreOwnRead lists below × AreOwnRead lists beside
AreOwnRead lists (Kept mark members beside) = AreOwnRead lists beside

one_read : (lists : ℕ → Option (List ℕ)) (node : Node) (list : Option ℕ) → Hold lists (option_to_list (shown_with node list).far) (content_in node.content list) → (first : ℕ) → list ≡ Some first → lists first ≡ Some node.content
one_read lists node None h first e = absurd (cc)
one_read lists node (Some other) h first e = let same : other ≡ first = cc in subst (λ (f : ℕ). lists f ≡ Some node.content) same h.0

pub own_read : (lists : ℕ → Option (List ℕ)) (w : Walked) → Hold lists (fars_in (walked_body w)) (contents_apart w) → AreOwnRead lists w
own_read lists Bare h = tt
own_read lists (Grown n b s) h =
    let own : List Far = option_to_list (in_record n).far in
    let one = hold_split lists own (fars_in (walked_body b) ++ fars_in (walked_body s)) (content_in n.node.content n.list) (contents_apart b ++ contents_apart s) (sym (one_apart n.node n.list)) h in
    let two = hold_split lists (fars_in (walked_body b)) (fars_in (walked_body s)) (contents_apart b) (contents_apart s) (sym (contents_counted b)) one.1 in
    (one_read lists n.node n.list one.0, own_read lists b two.0, own_read lists s two.1)
own_read lists (Kept mark m s) h = own_read lists s (subst (λ (fs : List Far). Hold lists fs (contents_apart s)) (fars-gap_more (walked_body s)) h)

-- What the contents of a walk have of its chain pages.

abbrev contents_times : ℕ → Walked → ℕ
contents_times x w = times x (contents_of (layout_of w))

stand_often : (pages : Pages) (x : ℕ) (lists : List Far) (chains : List (List Link)) → StandOn pages lists chains → times x (firsts_of lists) ≤ often_in x chains
stand_often pages x [] [] h = omega arith
stand_often pages x [] (c ∷ chains) h = absurd h
stand_often pages x (far ∷ lists) [] h = absurd h
stand_often pages x (far ∷ lists) (c ∷ chains) h =
    let rest = stand_often pages x lists chains h.1 in
    let e = two_more x c (links_behind chains) in
    let here : times x (far.first ∷ []) ≤ often x c = first_often x far.first c (list_begins pages [] far.first far.length c h.0) in
    let split : times x (far.first ∷ firsts_of lists) ≡ times x (far.first ∷ []) + times x (firsts_of lists) = times-append x (far.first ∷ []) (firsts_of lists) in
    omega (arith, rest, e, here, split)
  where
    first_often : (x f : ℕ) (c : List Link) → 1 ≤ often f c → times x (f ∷ []) ≤ often x c
    first_often x f c some =
        elim (equal_or x f) [
          | inl same ↦ (let one : times x (f ∷ []) ≡ 1 = subst (λ (g : ℕ). times x (g ∷ []) ≡ 1) same (times_one x []) in let there : 1 ≤ often x c = subst (λ (g : ℕ). 1 ≤ often g c) (sym same) some in omega (arith, one, there))
          | inr apart ↦ (let none : times x (f ∷ []) ≡ 0 = times_other x f [] apart in omega (arith, none))
        ]

lists_more : (stored : Stored) (x : ℕ) → times x (firsts_of (fars_in (roots_stored stored))) ≤ times x (firsts_of (lists_named stored))
lists_more (Inline piece) x = omega arith
lists_more (Chained body count chain) x = let e = times-append x (chain ∷ []) (firsts_of (fars_in body.roots)) in omega (arith, e)

-- a record's contents begin on its chain pages
record_often : {pages : Pages} {place : RecordPlace} {members : Walked} {chains : List (List Link)} (x : ℕ) → HoldsRecord pages place members chains → firsts_in x (walked_body members) ≤ often_in x chains
record_often {pages} {members = members} {chains = chains} x h =
    let more = lists_more h.stored x in
    let all = stand_often pages x (lists_named h.stored) chains h.stand in
    let same : times x (firsts_of (fars_in (roots_stored h.stored))) ≡ firsts_in x (walked_body members) = ap (λ (g : Gapped). times x (firsts_of (fars_in g))) h.roots in
    omega (arith, more, all, same)

pub contents_often : (pages : Pages) (x : ℕ) (w : Walked) → AreRead pages w → contents_times x w ≤ firsts_in x (walked_body w) + often x (links_in w)
contents_often pages x Bare r = omega arith
contents_often pages x (Grown n b s) r =
    let below = contents_often pages x b r.0 in
    let beside = contents_often pages x s r.1 in
    let f = firsts_grown x n (layout_of b) (layout_of s) in
    let e = two_more x (links_in b) (links_in s) in
    let a : contents_times x (Grown n b s) ≡ times x (option_to_list n.list) + times x (lists_of (nodes_in (layout_of b) ++ nodes_in (layout_of s))) = times-append x (option_to_list n.list) (lists_of (nodes_in (layout_of b) ++ nodes_in (layout_of s))) in
    let c = nodes_times x (nodes_in (layout_of b)) (nodes_in (layout_of s)) in
    omega (arith, below, beside, f, e, a, c)
contents_often pages x (Kept (Reached p ls) b s) r =
    let below = contents_often pages x b r.1 in
    let beside = contents_often pages x s r.2 in
    let own = record_often x r.0 in
    let c = nodes_times x (nodes_in (layout_of b)) (nodes_in (layout_of s)) in
    let e = two_more x (links_behind ls ++ links_in b) (links_in s) in
    let f = two_more x (links_behind ls) (links_in b) in
    let g : firsts_in x (walked_body (Kept (Reached p ls) b s)) ≡ firsts_in x (walked_body s) = ap (λ (l : List Far). times x (firsts_of l)) (fars-gap_more (walked_body s)) in
    omega (arith, below, beside, own, c, e, f, g)
contents_often pages x (Kept (Waits y) b s) r =
    let beside = contents_often pages x s r.1 in
    let none : contents_times x b ≡ 0 = ap (contents_times x) r.0 in
    let c = nodes_times x (nodes_in (layout_of b)) (nodes_in (layout_of s)) in
    let e = two_more x (links_in b) (links_in s) in
    let g : firsts_in x (walked_body (Kept (Waits y) b s)) ≡ firsts_in x (walked_body s) = ap (λ (l : List Far). times x (firsts_of l)) (fars-gap_more (walked_body s)) in
    omega (arith, beside, none, c, e, g)

module _ {pages : Pages} {tour : Tour} (whole : IsWholeTour pages tour) where
  -- The piece of a record that was reached.
  module _ (p : RecordPlace) (cs : List (List Link)) (m : Walked) (has : HasIn p cs m tour.visits) (none : NoneWait (marks_of m)) (read : AreRead pages m) where
    -- what its lists hold
    hold_all : (lists : List Far) (chains : List (List Link)) → StandOn pages lists chains → ((c : List Link) → IsOneOf c chains → IsOneOf c cs) → Hold (held_of whole).lists lists (map content_of chains)
    hold_all [] [] stand all = tt
    hold_all [] (c ∷ chains) stand all = absurd stand
    hold_all (far ∷ lists) [] stand all = absurd stand
    hold_all (far ∷ lists) (c ∷ chains) stand all = ((named_held whole p cs m far c has (all c (inl refl)) stand.0).0, hold_all lists chains stand.1 (λ d one. all d (inr one)))

    proxies_same : proxies_of (layout_of m) ≡ walked_proxies m
    proxies_same = layout_proxies m none

    piece_by : (stored : Stored) → IsStored (held_of whole) p stored → IsValid stored → roots_stored stored ≡ walked_body m → (held : List (List ℕ)) → Hold (held_of whole).lists (lists_named stored) held
        → SaysPiece stored (walked_proxies m) (contents_apart m) held → HoldsPiece (held_of whole) p (piece_of (layout_of m)) × Hold (held_of whole).lists (fars_in (walked_body m)) (contents_apart m)
    piece_by (Inline one) is valid roots held hold says =
        let body : one.body.roots ≡ piece_body (layout_of m) = roots in
        let proxies : one.proxies ≡ proxies_of (layout_of m) = says.0 ∙ sym proxies_same in
        let same : one ≡ piece_of (layout_of m) = λ i. record { body = record { roots = body i }; proxies = proxies i } in
        let there : Hold (held_of whole).lists (fars_in one.body.roots) (contents_apart m) = subst (λ (h : List (List ℕ)). Hold (held_of whole).lists (fars_in one.body.roots) h) says.1 hold in (
          inl (subst (λ (x : Piece). IsStored (held_of whole) p (Inline x)) same is),
          subst (λ (g : Gapped). Hold (held_of whole).lists (fars_in g) (contents_apart m)) roots there,
        )
    piece_by (Chained body count chain) is valid roots held hold says =
        let first : Far = record { first = chain; length = 8 * count } in
        let all : Hold (held_of whole).lists (first ∷ fars_in body.roots) (proxies_bytes (walked_proxies m) ∷ contents_apart m) = subst (λ (h : List (List ℕ)). Hold (held_of whole).lists (first ∷ fars_in body.roots) h) says.0 hold in
        let bytes : proxies_bytes (walked_proxies m) ≡ proxies_bytes (proxies_of (layout_of m)) = ap proxies_bytes (sym proxies_same) in
        let same_body : ◌≡◌ {A = Body} body (record { roots = piece_body (layout_of m) }) = λ i. record { roots = roots i } in
        let inside : proxies_in body.roots ≡ count = valid.body.counted in
        let number : length (proxies_of (layout_of m)) ≡ proxies_in (piece_body (layout_of m)) = proxies_counted (layout_of m) in
        let counted : count ≡ length (proxies_of (layout_of m)) = sym inside ∙ ap proxies_in roots ∙ sym number in (
          inr (record {
            chain = chain;
            stored = subst (λ (x : Body). IsStored (held_of whole) p (Chained x (length (proxies_of (layout_of m))) chain)) same_body (subst (λ (n : ℕ). IsStored (held_of whole) p (Chained body n chain)) counted is);
            list = all.0 ∙ ap Some bytes;
            rooted = subst (λ (l : List Proxy). HaveRoots l) (sym proxies_same) (have_roots pages m none read);
            numbers = subst (λ (l : List Proxy). HaveNumbers l) (sym proxies_same) says.1;
          }),
          subst (λ (g : Gapped). Hold (held_of whole).lists (fars_in g) (contents_apart m)) roots all.1,
        )

    pub holds_piece : HoldsPiece (held_of whole) p (piece_of (layout_of m)) × Hold (held_of whole).lists (fars_in (walked_body m)) (contents_apart m)
    holds_piece =
        let h = in_read pages tour.head.settings.k p cs m tour.visits whole.kept.each has in
        piece_by h.stored (stored_at whole h) h.there.valid h.roots (map content_of cs) (hold_all (lists_named h.stored) cs h.stand (λ c one. one)) h.says

  fits_k : (b : Walked) → gapped_size (walked_body b) ≤ tour.head.settings.k → gapped_size (piece_body (layout_of b)) ≤ ((held_of whole).settings).k
  unfolding held_of
  fits_k b few = few

  pub pieces_held : (w : Walked) → NoneWait (marks_of w) → AreRead pages w → AreAllLight tour.head.settings.k w → ((p : RecordPlace) (ls : List (List Link)) (m : Walked) → Has p ls m w → HasIn p ls m tour.visits)
      → AreOwnRead (held_of whole).lists w → AreHeld (held_by (piece_map (held_of whole))) (layout_of w)
  pieces_held Bare none read light all own = tt
  pieces_held (Grown n b s) none read light all own = (
    own.0,
    pieces_held b (none_left (marks_of b) (marks_of s) none) read.0 light.0 (λ p ls m h. all p ls m (inl h)) own.1,
    pieces_held s (none_right (marks_of b) (marks_of s) none) read.1 light.1 (λ p ls m h. all p ls m (inr h)) own.2,
  )
  pieces_held (Kept (Reached p ls) b s) none read light all own =
      let under = none_left (marks_of b) (marks_of s) none in
      let map_is = piece_map (held_of whole) in
      let here = holds_piece p ls b (all p ls b (inl (refl, refl, refl))) under read.1 in (
        record { there = told_some (held_of whole) p (piece_of (layout_of b)) (map_is.piece_at p) (map_is.are p) here.0; fits = fits_k b light.0 },
        pieces_held b under read.1 light.1 (λ q ks m h. all q ks m (inr (inl h))) (own_read (held_of whole).lists b here.1),
        pieces_held s (none_right (marks_of b) (marks_of s) none) read.2 light.2 (λ q ks m h. all q ks m (inr (inr h))) own,
      )
  pieces_held (Kept (Waits x) b s) none read light all own = absurd none
