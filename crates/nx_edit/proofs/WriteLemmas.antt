-- A node whose content was written, where that is too long for an item: what is put may name the list.
use Rattle.std.proofs.Common.{◌≡◌, ℕ, ◌<◌, List, [], ◌∷◌, length, Option, None, Some, inl, refl, sym, ap, ◌∙◌, subst, arith}
use Rattle.std.specs.Option.{option_map, option_to_list}
use Rattle.nx_host.specs.declared.disk.Disk.{Ghosts}
use Rattle.nx_tree.specs.declared.node.Node.{Node}
use Rattle.nx_weights.specs.Weight.{longest_near}
use Rattle.nx_holdings.specs.Holdings.{Held}
use Rattle.nx_records.specs.Changes.{WritesList}
use Rattle.nx_records.specs.Records.{ComesTo, StandsFor}
use Rattle.nx_records.specs.declared.records.Records.{Records}
use Rattle.nx_piece.specs.declared.piece.Far.{Far}
use Rattle.nx_piece.specs.PieceNode.{PieceNode}
use Rattle.nx_layouts.specs.Layout.{in_record}
use Rattle.nx_layouts.specs.Setting.{near_part, far_part}
use Rattle.nx_hold.specs.Contents.{content_pages, IsNodeHeld}
use Rattle.nx_hold.specs.Documents.{MovesRecords}
use Rattle.nx_hold.specs.Pieces.{IsNamedNowhere, IsNoProxies, IsTidy}
use Rattle.nx_hold.proofs.ContentLemmas.{content_comes_tidy, content_moves}
use Rattle.nx_hold.proofs.MoveLemmas.{moves_none, moves_more}
use Rattle.nx_hold.proofs.NodeLemmas.{pages_long}
use Rattle.nx_hold.proofs.PieceLemmas.{some_same, no_value}
use Rattle.nx_hold.proofs.PutLemmas.{list_here}
use Rattle.nx_edit.specs.Changing.{Put, put_list, put_lists, put_content}
use Rattle.nx_edit.proofs.DocumentLemmas.{WritesPut}

-- the list that a node's item names
abbrev list_in : PieceNode → Option ℕ
list_in n = option_map (λ (far : Far). far.first) n.far

its_list : (node : Node) (list : Option ℕ) → list_in (in_record (record { node = node; list = list })) ≡ list
its_list node None = refl
its_list node (Some first) = refl

-- what of the content stands in the item
pub near_own : (node : Node) (list : Option ℕ) → (in_record (record { node = node; list = list })).node.content ≡ near_part node.content list
near_own node None = refl
near_own node (Some first) = refl

pub far_own : (node : Node) (list : Option ℕ) → (in_record (record { node = node; list = list })).far ≡ far_part node.content list
far_own node None = refl
far_own node (Some first) = refl

module _ (node : Node) (made : PieceNode) (list : Option ℕ) (is : made ≡ in_record (record { node = node; list = list })) where
  same_list : (was now : Held) (h : IsNodeHeld node made was now) → h.list ≡ list
  same_list was now h = sym (its_list node h.list) ∙ ap list_in (sym h.made_is ∙ is) ∙ its_list node list

  module _ (put : Put) (lists : put_lists put ≡ option_to_list list) (named : put_list put ≡ list) (content : put_content put ≡ node.content) where
    writes_none : list ≡ None → (held : Held) → IsTidy held → WritesPut put (content_pages node) held held
    writes_none none held tidy = record {
      tidy = tidy;
      moves = subst (λ (l : List ℕ). MovesRecords [] [] [] l (content_pages node) held held) (sym (lists ∙ ap option_to_list none)) (moves_more [] [] [] [] 0 (content_pages node) held held (omega arith) (moves_none held));
      may = λ first e. absurd (no_value (sym e ∙ (named ∙ none)));
    }

    writes_one : (first : ℕ) → list ≡ Some first → (was now : Held) → IsTidy was → longest_near < length node.content → WritesList first node.content was now → WritesPut put (content_pages node) was now
    writes_one first one was now tidy over writes = record {
      tidy = tidier.0;
      moves = subst (λ (l : List ℕ). MovesRecords [] [] [] l (content_pages node) was now) (sym (lists ∙ ap option_to_list one))
          (subst (λ (n : ℕ). MovesRecords [] [] [] (first ∷ []) n was now) (sym (pages_long node over)) (content_moves first node.content was now writes));
      may = λ other e. subst (λ (x : ℕ). (now.lists x ≡ Some (put_content put)) × IsNoProxies now x) (some_same (sym one ∙ (sym named ∙ e)))
          (there ∙ ap Some (sym content), λ place count names. tidier.1 place (inl (count, names)));
    }
      where
        tidier : IsTidy now × IsNamedNowhere now first
        tidier = content_comes_tidy first node.content was now tidy writes

        there : now.lists first ≡ Some node.content
        there = ap (λ (f : ℕ → Option (List ℕ)). f first) (writes.changes).lists ∙ list_here was.lists first (Some node.content)

    pub writes_put : (was now : Held) → IsTidy was → IsNodeHeld node made was now → WritesPut put (content_pages node) was now
    writes_put was now tidy h = by_list list refl
      where
        by_list : (o : Option ℕ) → list ≡ o → WritesPut put (content_pages node) was now
        by_list None e = subst (λ (x : Held). WritesPut put (content_pages node) was x) (sym (h.near (same_list was now h ∙ e)).1) (writes_none e was tidy)
        by_list (Some first) e = let far = h.far first (same_list was now h ∙ e) in writes_one first e was now tidy far.0 far.1

    pub writes_held : {D : Type 0} (d : Ghosts D) (r1 r2 : Records) (x1 x2 : D) → ComesTo d r1 r2 x1 x2 (λ was now. IsNodeHeld node made was now)
        → (saved was : Held) → StandsFor d r1 x1 saved was → IsTidy was → (now : Held) × StandsFor d r2 x2 saved now × WritesPut put (content_pages node) was now
    writes_held d r1 r2 x1 x2 comes saved was stands tidy = let next = comes saved was stands in (next.0, next.1, writes_put was next.0 tidy next.2)
