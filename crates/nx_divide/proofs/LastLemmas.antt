-- The calls that put a row of records in the place of one: those before the last, the piece of the last, and its record.
use Rattle.std.proofs.Common.{◌≡◌, ℕ, ◌+◌, ◌-◌, ◌≤◌, ◌<◌, List, [], ◌∷◌, ◌++◌, length, take, drop, length-drop, None, sym, ap, subst, ◌∙◌, arith}
use Rattle.std.specs.Prelude.{IsSome}
use Rattle.std.proofs.lemmas.List.{take_all}
use Rattle.nx_host.specs.declared.disk.Disk.{Ghosts}
use Rattle.nx_parts.specs.declared.marks.Mark.{Mark}
use Rattle.nx_parts.specs.Marks.{marked_in, holder_by_marks}
use Rattle.nx_records.specs.Words.{Held}
use Rattle.nx_records.specs.declared.records.Records.{Records}
use Rattle.nx_records.specs.declared.error.StoreError.{StoreError}
use Rattle.nx_records.specs.declared.error.StoreError.TheVariants as error
use Rattle.nx_records.specs.Records.{HasChanges, KeepsSaved, StandsFor}
use Rattle.nx_records.specs.Refusals.{RunsOn, NotStored}
use Rattle.nx_piece.specs.declared.piece.Item.{Item}
use Rattle.nx_piece.specs.declared.piece.Piece.{Piece}
use Rattle.nx_piece.specs.declared.piece.Proxy.{Proxy}
use Rattle.nx_piece.specs.Gapped as gapped
use Rattle.nx_piece.specs.Gapped.{Gapped, proxies_in}
use Rattle.nx_divide.specs.declared.dividing.Row.{Row}
use Rattle.nx_piece.specs.Items.{gapped_of}
use Rattle.nx_cuts.specs.Cut.{width, AreFree}
use Rattle.nx_layouts.specs.Layout.{RecordPlace, piece_body, proxies_of}
use Rattle.nx_build.specs.Rows.{with_proxy}
use Rattle.nx_hold.specs.Pieces.{record_at, HoldsNone, MayName}
use Rattle.nx_hold.specs.Changes.{place_named, piece_needs, UpdatesPiece, ComesTidyWhere}
use Rattle.nx_drafts.specs.Draft.{Draft, Ends, Comes, drawn_forest, layout_before, layout_after, unmarked, draft_count, draft_needs}
use Rattle.nx_drafts.proofs.PlacesLemmas.{body-layout_after}
use Rattle.nx_divide.specs.Marked.{IsMarkedDraft, IsMarkedRow, AreMarkedMembers, HasMarkedDraft, HasMarkedMembers, many}
use Rattle.nx_divide.specs.Putting.{ArePut, PutsRow, GathersPiece}
use Rattle.nx_divide.specs.Dividing.{ArePutAt, PutsRowAt, NotPutAt}
use Rattle.nx_divide.proofs.RowLemmas.{joined_draft, unmarked-joined, proxies-joined, needs-joined, needs-unmarked, count-joined, count-unmarked, count_few, body-comes, proxies-body, width-layout_after, drawn_forest-unmarked}
use Rattle.nx_divide.proofs.CallLemmas.{put_both, put_refused}
use Rattle.nx_divide.proofs.WalkLemmas.{proxy_is, free_width, members_written}
use Rattle.nx_divide.proofs.StepLemmas.{gathered_needs}
use Rattle.nx_divide.proofs.PartedLemmas.{IsParted, last_parted}
use Rattle.nx_divide.proofs.PlaceLemmas.{put_at, not_put, not_updated}

abbrev Plan : Type 0
Plan = Draft (Unit {0})

-- the last interval begins with the first of these trees
module _ (marks : List Mark) (roots : List Item) (olds : List Proxy) (len first : ℕ) (whole : len ≡ length roots) (low : first < len)
    (held : (j : ℕ) → first ≤ j → j < len → marked_in marks j [] ≡ marked_in marks (len - 1) []) (begins : (j : ℕ) → j + 1 ≡ first → marked_in marks j [] ≡ marked_in marks (len - 1) [] → ⊥)
    (drawn : Plan) (m : IsMarkedRow (holder_by_marks marks) (gapped_of roots) olds drawn) where
  parted : IsParted (holder_by_marks marks) 0 first roots olds drawn
  parted =
      last_parted (holder_by_marks marks) (marked_in marks (len - 1) []) 0 first roots olds drawn m.marked m.come (omega (arith, low, whole))
      (λ j from to. held j (omega (arith, from)) (omega (arith, to, whole)), λ j next from same. begins j (omega (arith, next)) same)

  front_marked : (fronts : List Item) → fronts ≡ take first roots → IsMarkedDraft None (holder_by_marks marks) 0 (gapped_of fronts) olds parted.front
  front_marked fronts are = subst (λ (l : List Item). IsMarkedDraft None (holder_by_marks marks) 0 (gapped_of l) olds parted.front) (sym are) parted.first

  pub front_can : (fronts : List Item) → fronts ≡ take first roots → HasMarkedDraft (holder_by_marks marks) 0 (gapped_of fronts) olds
  front_can fronts are = (parted.front, front_marked fronts are)

  last_marked : (fronts lasts : List Item) (left : List Proxy) → fronts ≡ take first roots → lasts ≡ drop first roots → left ≡ drop (proxies_in (gapped_of fronts)) olds
      → AreMarkedMembers (holder_by_marks marks) first (gapped_of (take (len - first) lasts)) left parted.members
  last_marked fronts lasts left fronts_are lasts_are left_is =
      subst (λ (l : List Proxy). AreMarkedMembers (holder_by_marks marks) first (gapped_of (take (len - first) lasts)) l parted.members) (sym (left_is ∙ ap (λ (l : List Item). drop (proxies_in (gapped_of l)) olds) fronts_are))
      (subst (λ (l : List Item). AreMarkedMembers (holder_by_marks marks) first (gapped_of l) (drop (proxies_in (gapped_of (take first roots))) olds) parted.members) (sym all ∙ ap (take (len - first)) (sym lasts_are))
      (subst (λ (n : ℕ). AreMarkedMembers (holder_by_marks marks) n (gapped_of (drop first roots)) (drop (proxies_in (gapped_of (take first roots))) olds) parted.members) (let e : 0 + first ≡ first = omega arith in e) parted.last))
    where
      all : take (len - first) (drop first roots) ≡ drop first roots
      all = take_all (len - first) (drop first roots) (let long = length-drop first roots in omega (arith, long, whole))

  pub last_can : (fronts lasts : List Item) (left : List Proxy) → fronts ≡ take first roots → lasts ≡ drop first roots → left ≡ drop (proxies_in (gapped_of fronts)) olds
      → HasMarkedMembers (holder_by_marks marks) first (gapped_of (take (len - first) lasts)) left
  last_can fronts lasts left fronts_are lasts_are left_is = (parted.members, last_marked fronts lasts left fronts_are lasts_are left_is)

  needs_parted : draft_needs parted.front + draft_needs (Comes tt parted.members Ends) ≡ draft_needs drawn
  needs_parted = sym (needs-joined parted.front (Comes tt parted.members Ends)) ∙ ap draft_needs parted.is

  -- the records before the last
  module _ {D : Type 0} {d : Ghosts D} {r0 r1 : Records} {x0 x1 : D} (place : RecordPlace) (read : ArePut d r0 r1 x0 x1 Ends) (fronts : List Item) (fronts_are : fronts ≡ take first roots) where
    pub front_not : (r2 : Records) (x2 : D) (e : StoreError) → ((c : Plan) → IsMarkedDraft None (holder_by_marks marks) 0 (gapped_of fronts) olds c → NotStored d (λ was. draft_needs c) (λ was. ⊥) 0 e r1 r2 x1 x2)
        → NotPutAt d place (draft_needs drawn) e r0 r2 x0 x2
    front_not r2 x2 e refused =
        let fits : 0 + draft_needs parted.front ≤ draft_needs drawn = omega (arith, needs_parted) in
        not_put d r0 r2 x0 x2 place 0 (draft_needs drawn) (draft_needs drawn) (omega arith) e
        (put_refused {d = d} {r0 = r0} {r1 = r1} {x0 = x0} {x1 = x1} Ends r2 x2 (draft_needs parted.front) (draft_needs drawn) read fits e (refused parted.front (front_marked fronts fronts_are)))

    module _ {r2 : Records} {x2 : D} (made : Gapped) (row : List Proxy) (puts : (c : Plan) → IsMarkedDraft None (holder_by_marks marks) 0 (gapped_of fronts) olds c → PutsRow d r1 r2 x1 x2 c made [] row)
        (lasts : List Item) (left : List Proxy) (lasts_are : lasts ≡ drop first roots) (left_is : left ≡ drop (proxies_in (gapped_of fronts)) olds) where
      put : PutsRow d r1 r2 x1 x2 parted.front made [] row
      put = puts parted.front (front_marked fronts fronts_are)

      front_put : ArePut d r0 r2 x0 x2 put.draft
      front_put = put_both {d = d} {r0 = r0} {r1 = r1} {r2 = r2} {x0 = x0} {x1 = x1} {x2 = x2} Ends put.draft read put.put

      front_needs : draft_needs put.draft ≡ draft_needs parted.front
      front_needs = sym (needs-unmarked put.draft) ∙ ap draft_needs put.same

      -- the last proxy can be counted with them
      pub front_room : many (gapped_of roots) ≤ 524288 → proxies_in made < 524288
      front_room most =
          let own : proxies_in made ≡ draft_count put.draft = ap proxies_in put.body_is ∙ proxies-body put.draft in
          let same : draft_count parted.front ≡ draft_count put.draft = ap draft_count (sym put.same) ∙ count-unmarked put.draft in
          let both : draft_count drawn ≡ draft_count parted.front + draft_count (Comes tt parted.members Ends) = ap draft_count (sym parted.is) ∙ count-joined parted.front (Comes tt parted.members Ends) in
          let few = count_few 256 drawn (m.marked).light in
          let items : many (piece_body (layout_before drawn)) ≡ many (gapped_of roots) = ap many (m.marked).items_are in
          omega (arith, own, same, both, few, items, most)

      members : AreMarkedMembers (holder_by_marks marks) first (gapped_of (take (len - first) lasts)) left parted.members
      members = last_marked fronts lasts left fronts_are lasts_are left_is

      pub last_not : (r3 : Records) (x3 : D) (e : StoreError)
          → ((c : Plan) → AreMarkedMembers (holder_by_marks marks) first (gapped_of (take (len - first) lasts)) left c → NotStored d (λ was. draft_needs c) (λ was. ⊥) 0 e r2 r3 x2 x3) → NotPutAt d place (draft_needs drawn) e r0 r3 x0 x3
      last_not r3 x3 e refused =
          let most : draft_needs parted.members ≤ draft_needs (Comes tt parted.members Ends) = omega arith in
          let fits : draft_needs put.draft + draft_needs parted.members ≤ draft_needs drawn = omega (arith, needs_parted, front_needs, most) in
          not_put d r0 r3 x0 x3 place 0 (draft_needs drawn) (draft_needs drawn) (omega arith) e
          (put_refused {d = d} {r0 = r0} {r1 = r2} {x0 = x0} {x1 = x2} put.draft r3 x3 (draft_needs parted.members) (draft_needs drawn) front_put fits e (refused parted.members members))

      -- the last record
      module _ {r3 : Records} {x3 : D} (piece : Piece) (gathers : (c : Plan) → AreMarkedMembers (holder_by_marks marks) first (gapped_of (take (len - first) lasts)) left c → GathersPiece d r2 r3 x2 x3 c piece) where
        gathered : GathersPiece d r2 r3 x2 x3 parted.members piece
        gathered = gathers parted.members members

        all_put : ArePut d r0 r3 x0 x3 (joined_draft put.draft gathered.draft)
        all_put = put_both {d = d} {r0 = r0} {r1 = r2} {r2 = r3} {x0 = x0} {x1 = x2} {x2 = x3} put.draft gathered.draft front_put gathered.put

        pub update_not : (r4 : Records) (x4 : D) (page : ℕ) (e : StoreError) → NotStored d (λ was. piece_needs piece) (λ was. HoldsNone was place) page e r3 r4 x3 x4 → NotPutAt d place (draft_needs drawn) e r0 r4 x0 x4
        update_not r4 x4 page e refused =
            let both = needs-joined put.draft gathered.draft in
            let own = gathered_needs gathered in
            let fits : draft_needs (joined_draft put.draft gathered.draft) + piece_needs piece ≤ draft_needs drawn = omega (arith, both, own, needs_parted, front_needs) in
            not_updated {d = d} {r0 = r0} {r1 = r3} {x0 = x0} {x1 = x3} r4 x4 place page (piece_needs piece) (draft_needs drawn) (joined_draft put.draft gathered.draft) all_put fits e refused

        module _ {r4 : Records} {x4 : D} (proxy : Proxy) (there : (saved now : Held) → StandsFor d r0 x0 saved now → IsSome (record_at now place)) (wide : proxy.roots ≡ gapped.gapped_width piece.body.roots) (runs : RunsOn r3 r4) (keeps : KeepsSaved d r3 r4 x3 x4) (changes : HasChanges r4)
            (updates : ComesTidyWhere d r3 r4 x3 x4 (λ was. MayName was piece.body.roots) (λ was now. UpdatesPiece place (place_named proxy) piece was now)) where
          free : AreFree (drawn_forest gathered.draft)
          free = subst AreFree (sym (sym (drawn_forest-unmarked gathered.draft) ∙ ap drawn_forest gathered.same)) members.free

          roots_are : proxy.roots ≡ width (layout_after gathered.draft)
          roots_are = wide ∙ ap (λ (p : Piece). gapped.gapped_width p.body.roots) gathered.piece_is ∙ ap gapped.gapped_width (body-layout_after gathered.draft) ∙ free_width gathered.draft free ∙ sym (width-layout_after gathered.draft)

          at : ArePutAt d place r0 r4 x0 x4 (joined_draft put.draft (Comes (place_named proxy) gathered.draft Ends))
          at = put_at {d = d} {r0 = r0} {r1 = r3} {r2 = r4} {x0 = x0} {x1 = x3} {x2 = x4} place (place_named proxy) put.draft gathered.draft there
              (members_written (holder_by_marks marks) first (gapped_of (take (len - first) lasts)) left parted.members gathered.draft members gathered.same) all_put runs keeps changes
              (subst (λ (p : Piece). ComesTidyWhere d r3 r4 x3 x4 (λ was. MayName was p.body.roots) (λ was now. UpdatesPiece place (place_named proxy) p was now)) gathered.piece_is updates)

          pub row_memory : NotPutAt d place (draft_needs drawn) error.Memory r0 r4 x0 x4
          row_memory = (0, (at.runs, at.keeps))

          abbrev last_draft : Draft RecordPlace
          last_draft = joined_draft put.draft (Comes (place_named proxy) gathered.draft Ends)

          last_same : unmarked last_draft ≡ drawn
          last_same = unmarked-joined put.draft (Comes (place_named proxy) gathered.draft Ends) ∙ ap (λ (c : Plan). joined_draft c (Comes tt (unmarked gathered.draft) Ends)) put.same
              ∙ ap (λ (c : Plan). joined_draft parted.front (Comes tt c Ends)) gathered.same ∙ parted.is

          last_proxies : (all : List Proxy) → all ≡ row ++ proxy ∷ [] → all ≡ proxies_of (layout_after last_draft)
          last_proxies all are = are ∙ ap (λ (l : List Proxy). l ++ proxy ∷ []) put.proxies_are ∙ ap (λ (p : Proxy). proxies_of (layout_after put.draft) ++ p ∷ []) (proxy_is proxy (width (layout_after gathered.draft)) roots_are)
              ∙ sym (proxies-joined put.draft (Comes (place_named proxy) gathered.draft Ends))

          pub row_put : (all : Row) → all.items ≡ with_proxy made → all.proxies ≡ row ++ proxy ∷ [] → PutsRowAt d place r0 r4 x0 x4 drawn all
          row_put all items_is are = record {
            draft = last_draft;
            same = last_same;
            items_are = items_is ∙ ap with_proxy put.body_is ∙ sym (body-comes put.draft (place_named proxy) gathered.draft) ∙ sym (body-layout_after last_draft);
            proxies_are = last_proxies all.proxies are;
            put = at;
          }
