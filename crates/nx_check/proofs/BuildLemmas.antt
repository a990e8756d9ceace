-- The trees of a record whose lists were read: its nodes with their contents, and its proxies, all of whose records wait.
use Rattle.std.proofs.Common.{◌≡◌, ℕ, zero, suc, ◌+◌, List, [], ◌∷◌, ◌++◌, length, map, Option, Some, None, refl, sym, ap, ◌∙◌, subst, arith}
use Rattle.std.specs.Option.{option_to_list}
use Rattle.nx_tree.specs.declared.node.Node.{Node}
use Rattle.nx_replay.specs.Log.{Pages}
use Rattle.nx_holdings.specs.Holdings.{Link, content_of}
use Rattle.nx_piece.specs.declared.piece.Far.{Far}
use Rattle.nx_piece.specs.declared.piece.Proxy.{Proxy}
use Rattle.nx_piece.specs.PieceNode.{PieceNode, IsFarWith}
use Rattle.nx_piece.specs.Gapped.{Gapped, End, Grow, Gap, proxies_in}
use Rattle.nx_piece.specs.Contents.{fars_in}
use Rattle.nx_piece.specs.Valid.{BeginsNoGap, AreApart, AreFar}
use Rattle.nx_cuts.specs.Cut.{Bare, Grown, Kept}
use Rattle.nx_layouts.specs.Layout.{LaidNode, in_record, gap_more}
use Rattle.nx_rules.specs.Walked.{Mark, Reached, Waits, Walked, marks_of, WaitAll, walked_body, walked_proxies, content_in, contents_apart, StandOn, AreRead}
use Rattle.nx_rules.proofs.SoundLemmas.{is_chain}

-- each content is as long as its list is
abbrev pub AreLong : List (List ℕ) → List Far → Type 0
AreLong [] [] = Unit {0}
AreLong (c ∷ cs) (f ∷ fs) = (length c ≡ f.length) × AreLong cs fs
AreLong _ _ = ⊥

-- lists that stand on chain pages hold contents of their lengths
pub stand_long : (pages : Pages) (fars : List Far) (chains : List (List Link)) → StandOn pages fars chains → AreLong (map content_of chains) fars
stand_long pages [] [] h = tt
stand_long pages [] (c ∷ chains) h = absurd h
stand_long pages (f ∷ fars) [] h = absurd h
stand_long pages (f ∷ fars) (c ∷ chains) h = ((is_chain pages [] f.first f.length c h.0).sized, stand_long pages fars chains h.1)

-- proxies cut in two
record Cuts (m n : ℕ) (ps : List Proxy) : Type 0 where
  front : List Proxy
  back : List Proxy
  are : front ++ back ≡ ps
  few : length front ≡ m
  rest : length back ≡ n

cut_proxies : (m n : ℕ) (ps : List Proxy) → length ps ≡ m + n → Cuts m n ps
cut_proxies zero n ps e = record { front = []; back = ps; are = refl; few = refl; rest = omega (arith, e) }
cut_proxies (suc m) n [] e = absurd (omega (arith, e))
cut_proxies (suc m) n (p ∷ ps) e =
    let r = cut_proxies m n ps (omega (arith, e)) in
    let few : length r.front ≡ m = r.few in
    record { front = p ∷ r.front; back = r.back; are = ap (λ (l : List Proxy). p ∷ l) r.are; few = omega (arith, few); rest = r.rest }

-- contents cut in two
record CutsLong (xs ys : List Far) (cs : List (List ℕ)) : Type 0 where
  front : List (List ℕ)
  back : List (List ℕ)
  are : front ++ back ≡ cs
  long : AreLong front xs
  rest : AreLong back ys

cut_contents : (xs ys : List Far) (cs : List (List ℕ)) → AreLong cs (xs ++ ys) → CutsLong xs ys cs
cut_contents [] ys cs h = record { front = []; back = cs; are = refl; long = tt; rest = h }
cut_contents (x ∷ xs) ys [] h = absurd h
cut_contents (x ∷ xs) ys (c ∷ cs) h =
    let r = cut_contents xs ys cs h.1 in
    record { front = c ∷ r.front; back = r.back; are = ap (λ (l : List (List ℕ)). c ∷ l) r.are; long = (h.0, r.long); rest = r.rest }

-- a node with its content
record HasNode (node : PieceNode) (cs : List (List ℕ)) : Type 0 where
  laid : LaidNode
  is : in_record laid ≡ node
  content : content_in laid.node.content laid.list ≡ cs

far_node : (node : Node) (far : Option Far) (cs : List (List ℕ)) → IsFarWith node.content far → AreLong cs (option_to_list far) → HasNode (record { node = node; far = far }) cs
far_node node None [] own h = record { laid = record { node = node; list = None }; is = refl; content = refl }
far_node node None (c ∷ cs) own h = absurd h
far_node node (Some far) [] own h = absurd h
far_node node (Some far) (c ∷ d ∷ cs) own h = absurd h.1
far_node node (Some far) (c ∷ []) own h = record {
  laid = record { node = record node { content = c }; list = Some far.first };
  is = λ i. record {
    node = record node { content = sym own.0 i };
    far = Some (record { first = far.first; length = h.0 i });
  };
  content = refl;
}

-- the trees of a row of items with these proxies and contents
pub record Builds (f : Gapped) (ps : List Proxy) (cs : List (List ℕ)) : Type 0 where
  pub row : Walked
  pub body : walked_body row ≡ f
  pub proxies : walked_proxies row ≡ ps
  pub contents : contents_apart row ≡ cs
  pub wait : WaitAll (marks_of row)
  pub read : (pages : Pages) → AreRead pages row

wait_both : (xs ys : Walked) → WaitAll (marks_of xs) → WaitAll (marks_of ys) → WaitAll (marks_of xs ++ marks_of ys)
wait_both xs ys h g = go (marks_of xs) (marks_of ys) h g
  where
    go : (ms ns : List Mark) → WaitAll ms → WaitAll ns → WaitAll (ms ++ ns)
    go [] ns h g = g
    go (Reached place chains ∷ ms) ns h g = absurd h
    go (Waits p ∷ ms) ns h g = go ms ns h g

-- so many proxies in front
build_gap : (count : ℕ) (s : Gapped) (ps qs : List Proxy) (cs : List (List ℕ)) → length ps ≡ suc count → BeginsNoGap s → Builds s qs cs → Builds (Gap (suc count) s) (ps ++ qs) cs
build_gap count s [] qs cs e apart h = absurd (omega (arith, e))
build_gap zero s (p ∷ []) qs cs e apart h = record {
  row = Kept (Waits p) Bare h.row;
  body = ap gap_more h.body ∙ one_gap s apart;
  proxies = ap (λ (l : List Proxy). p ∷ l) h.proxies;
  contents = h.contents;
  wait = h.wait;
  read = λ pages. (refl, h.read pages);
}
  where
    one_gap : (t : Gapped) → BeginsNoGap t → gap_more t ≡ Gap 1 t
    one_gap End b = refl
    one_gap (Grow n b s) h = refl
    one_gap (Gap c s) h = absurd h
build_gap zero s (p ∷ q ∷ ps) qs cs e apart h = absurd (omega (arith, e))
build_gap (suc count) s (p ∷ ps) qs cs e apart h =
    let r = build_gap count s ps qs cs (omega (arith, e)) apart h in
    record {
      row = Kept (Waits p) Bare r.row;
      body = ap gap_more r.body ∙ ap (λ (n : ℕ). Gap n s) (omega arith);
      proxies = ap (λ (l : List Proxy). p ∷ l) r.proxies;
      contents = r.contents;
      wait = r.wait;
      read = λ pages. (refl, r.read pages);
    }

pub build : (f : Gapped) (ps : List Proxy) (cs : List (List ℕ)) → AreApart f → AreFar f → length ps ≡ proxies_in f → AreLong cs (fars_in f) → Builds f ps cs
build End [] [] apart far e h = record { row = Bare; body = refl; proxies = refl; contents = refl; wait = tt; read = λ pages. tt }
build End [] (c ∷ cs) apart far e h = absurd h
build End (p ∷ ps) cs apart far e h = absurd (omega (arith, e))
build (Grow n b s) ps cs apart far e h =
    let cut = cut_proxies (proxies_in b) (proxies_in s) ps e in
    let own = cut_contents (option_to_list n.far) (fars_in b ++ fars_in s) cs h in
    let rest = cut_contents (fars_in b) (fars_in s) own.back own.rest in
    let node = far_node n.node n.far own.front far.0 own.long in
    let below = build b cut.front rest.front apart.0 far.1 cut.few rest.long in
    let beside = build s cut.back rest.back apart.1 far.2 cut.rest rest.rest in
    record {
      row = Grown node.laid below.row beside.row;
      body = (let x : in_record node.laid ≡ n = node.is in λ i. Grow (x i) (below.body i) (beside.body i));
      proxies = ap (λ (l : List Proxy). l ++ walked_proxies beside.row) below.proxies ∙ ap (λ (l : List Proxy). cut.front ++ l) beside.proxies ∙ cut.are;
      contents = ap (λ (l : List (List ℕ)). l ++ (contents_apart below.row ++ contents_apart beside.row)) node.content ∙ ap (λ (l : List (List ℕ)). own.front ++ (l ++ contents_apart beside.row)) below.contents
          ∙ ap (λ (l : List (List ℕ)). own.front ++ (rest.front ++ l)) beside.contents ∙ ap (λ (l : List (List ℕ)). own.front ++ l) rest.are ∙ own.are;
      wait = wait_both below.row beside.row below.wait beside.wait;
      read = λ pages. (below.read pages, beside.read pages);
    }
build (Gap zero s) ps cs apart far e h = absurd (let some = apart.0 in omega (arith, some))
build (Gap (suc count) s) ps cs apart far e h =
    let cut = cut_proxies (suc count) (proxies_in s) ps e in
    let beside = build s cut.back cs apart.2 far cut.rest h in
    let r = build_gap count s cut.front cut.back cs cut.few apart.1 beside in
    subst (λ (l : List Proxy). Builds (Gap (suc count) s) l cs) cut.are r
