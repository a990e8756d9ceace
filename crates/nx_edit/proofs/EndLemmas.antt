-- The end of an edit: the lists of what it dropped go. Records of a document became those of another, whose contents are those that were kept, some that were put, and some that came.
use Rattle.std.proofs.Common.{◌≡◌, ℕ, ◌+◌, List, [], ◌∷◌, ◌++◌, length, Option, None, Some, inl, inr, sym, ap, ◌∙◌, subst, arith, append-nil, IsPermutation}
use Rattle.std.specs.Prelude.{Contains}
use Rattle.std.specs.Option.{option_to_list}
use Rattle.std.specs.List.{sum_by}
use Rattle.std.proofs.lemmas.List.Elements.{Contains-append_left, Contains-append_right, Contains-append_cases}
use Rattle.std.proofs.lemmas.List.Sums.{sum_by-append}
use Rattle.std.proofs.lemmas.List.Sorted.{Contains-permutation, sum_by-IsPermutation}
use Rattle.nx_holdings.specs.Holdings.{Held}
use Rattle.nx_tree.specs.declared.node.Node.{Node}
use Rattle.nx_piece.specs.declared.piece.Far.{Far}
use Rattle.nx_layouts.specs.Layout.{RecordPlace, LaidNode, Layout, AreHeld, AreOnce, in_record, shown_with, piece_body, places_of, nodes_in, lists_of, contents_of}
use Rattle.nx_layouts.proofs.PlaceLemmas.{no_place, one_place, is_among, first_among, once-append, once-disjoint, once-left, once-right}
use Rattle.nx_layouts.proofs.HeldLemmas.{held_stays, node_read}
use Rattle.nx_layouts.proofs.NodeLemmas.{list_among}
use Rattle.nx_hold.specs.Pieces.{record_at, NamesList, NamesAny, HasContent, IsNamedNowhere, IsNoProxies, IsTidy, MayName, PieceMap, held_by}
use Rattle.nx_hold.specs.Contents.{AreOwn}
use Rattle.nx_hold.specs.Documents.{NamesAmong, MovesRecords}
use Rattle.nx_hold.proofs.ContentLemmas.{named_in_layout}
use Rattle.nx_hold.proofs.MapLemmas.{piece_map, held_at, told_some}
use Rattle.nx_hold.proofs.MoveLemmas.{moves_add_up, moves_beside, moves_same, same_self, pieces_stay_around, contents_stay_around}
use Rattle.nx_hold.proofs.RecordsLemmas.{any_along, any_there}
use Rattle.nx_holdings.specs.declared.header.Settings.{Settings}
use Rattle.nx_edit.specs.Removing.{fars_of, AreUnnamed}
use Rattle.nx_edit.proofs.OrderLemmas.{same_number, once_in_order, lists_by_sums}
use Rattle.nx_edit.proofs.FarLemmas.{firsts_of, sum_firsts}
use Rattle.nx_edit.proofs.FreeLemmas.{firsts}
use Rattle.nx_edit.proofs.HeldLemmas.{row_apart, row_there}

no_value : {A : Type 0} {x : A} {B : Type 0} → Some x ≡ None → B
no_value e = absurd (cc)

-- a far content is that of one of these nodes
far_node : (ns : List LaidNode) (far : Far) → Contains (fars_of ns) far → (n : LaidNode) × Contains ns n × ((in_record n).far ≡ Some far)
far_node [] far among = absurd (no_place far among)
far_node (m ∷ ns) far among =
    elim (Contains-append_cases (option_to_list (in_record m).far) (fars_of ns) far among) [
      | inl own ↦ (m, first_among m ns, named (in_record m).far own)
      | inr later ↦ let r = far_node ns far later in (r.0, Contains-append_right (m ∷ []) ns r.0 r.1, r.2)
    ]
  where
    named : (o : Option Far) → Contains (option_to_list o) far → o ≡ Some far
    named None own = absurd (no_place far own)
    named (Some other) own = ap Some (sym (one_place other far own))

-- that node's list holds it
far_shown : (node : Node) (list : Option ℕ) (far : Far) → (shown_with node list).far ≡ Some far → (list ≡ Some far.first) × (length node.content ≡ far.length)
far_shown node None far e = absurd (cc)
far_shown node (Some first) far e = let same : record { first = first; length = length node.content } ≡ far = in_option far e in (ap Some (ap (λ (f : Far). f.first) same), ap (λ (f : Far). f.length) same)
  where
    value : Far → Option Far → Far
    value other None = other
    value other (Some f) = f

    in_option : (f : Far) → Some (record { first = first; length = length node.content }) ≡ Some f → record { first = first; length = length node.content } ≡ f
    in_option f is = ap (value f) is

-- By the lists alone:

pub lists_went : (kept all : List LaidNode) (gone : List Far) → IsPermutation (fars_of kept ++ gone) (fars_of all) → IsPermutation (lists_of kept ++ firsts gone) (lists_of all)
lists_went kept all gone same =
    lists_by_sums (lists_of kept ++ firsts gone) (lists_of all) (λ f.
    let g : Far → ℕ = λ far. f far.first in
    let both = sum_by-append f (lists_of kept) (firsts gone) in
    let far = sum_by-append g (fars_of kept) gone in
    let one = ap (λ (l : List ℕ). sum_by f l) (sym (firsts_of kept)) ∙ sum_firsts f (fars_of kept) in
    let whole = ap (λ (l : List ℕ). sum_by f l) (sym (firsts_of all)) ∙ sum_firsts f (fars_of all) in
    let last = sum_firsts f gone in
    let alike = sum_by-IsPermutation g (fars_of kept ++ gone) (fars_of all) same in
    omega (arith, both, far, one, whole, last, alike))

module _ (was mid : Held) (tidy : IsTidy was) (tidier : IsTidy mid) (pieces : PieceMap was) (old new : Layout) (held : AreHeld (held_by pieces) old) (own : AreOwn was (places_of old) (contents_of old)) {brought : List ℕ} {needs : ℕ}
    (moves : MovesRecords (places_of old) (places_of new) [] brought needs was mid) (stands : (after : PieceMap mid) → AreHeld (held_by after) new) (kept : List LaidNode) (put : List ℕ) (gone : List Far)
    (went : IsPermutation (fars_of kept ++ gone) (fars_of (nodes_in old))) (came : IsPermutation (contents_of new) (lists_of kept ++ (put ++ brought))) (brought_once : AreOnce brought) (put_once : AreOnce put)
    (put_there : (first : ℕ) → Contains put first → (bytes : List ℕ) × (was.lists first ≡ Some bytes)) (put_apart : (first : ℕ) → Contains put first → IsNoProxies was first)
    (put_new : (first : ℕ) → Contains put first → Contains (contents_of old) first → ⊥) where
  pub lists_are : IsPermutation (lists_of kept ++ firsts gone) (contents_of old)
  lists_are = lists_went kept (nodes_in old) gone went

  all_once : AreOnce (lists_of kept ++ firsts gone)
  all_once = once_in_order same_number (lists_of kept ++ firsts gone) (contents_of old) lists_are own.once

  was_old : (first : ℕ) → Contains (lists_of kept ++ firsts gone) first → Contains (contents_of old) first
  was_old first among = Contains-permutation (lists_of kept ++ firsts gone) (contents_of old) first lists_are among

  kept_old : (first : ℕ) → Contains (lists_of kept) first → Contains (contents_of old) first
  kept_old first among = was_old first (Contains-append_left (lists_of kept) (firsts gone) first among)

  pub gone_old : (first : ℕ) → Contains (firsts gone) first → Contains (contents_of old) first
  gone_old first among = was_old first (Contains-append_right (lists_of kept) (firsts gone) first among)

  -- what came wasn't there, or held proxies
  brought_new : (first : ℕ) → Contains brought first → (bytes : List ℕ) → was.lists first ≡ Some bytes → IsNoProxies was first → ⊥
  brought_new first among bytes there none = no_value (sym there ∙ moves.lists_fresh first (inr among) not)
    where
      not : NamesAmong was (places_of old) [] first → ⊥
      not (inl named) = none named.0 named.1 named.3
      not (inr lost) = no_place first lost

  old_not_brought : (first : ℕ) → Contains (contents_of old) first → Contains brought first → ⊥
  old_not_brought first among come = let there = row_there was pieces old held first among in brought_new first come there.0 there.1 (own.apart first among)

  -- no content of what came is one of those that are dropped
  pub new_not_gone : (first : ℕ) → Contains (contents_of new) first → Contains (firsts gone) first → ⊥
  new_not_gone first among drops =
      elim (Contains-append_cases (lists_of kept) (put ++ brought) first (Contains-permutation (contents_of new) (lists_of kept ++ (put ++ brought)) first came among)) [
        | inl stays ↦ once-disjoint (lists_of kept) (firsts gone) all_once first stays drops
        | inr more ↦ elim (Contains-append_cases put brought first more) [ inl here ↦ put_new first here (gone_old first drops) | inr come ↦ old_not_brought first (gone_old first drops) come ]
      ]

  -- none of them comes twice
  pub new_once : AreOnce (contents_of new)
  new_once =
      once_in_order same_number (contents_of new) (lists_of kept ++ (put ++ brought)) came
      (once-append (lists_of kept) (put ++ brought) (once-left (lists_of kept) (firsts gone) all_once)
      (once-append put brought put_once brought_once (λ first one other. let there = put_there first one in brought_new first other there.0 there.1 (put_apart first one)))
      (λ first one more. elim (Contains-append_cases put brought first more) [ inl here ↦ put_new first here (kept_old first one) | inr come ↦ old_not_brought first (kept_old first one) come ]))

  gone_far : (far : Far) → Contains gone far → Contains (fars_of (nodes_in old)) far
  gone_far far among = Contains-permutation (fars_of kept ++ gone) (fars_of (nodes_in old)) far went (Contains-append_right (fars_of kept) gone far among)

  gone_first : (far : Far) → Contains gone far → Contains (contents_of old) far.first
  gone_first far among = let node = far_node (nodes_in old) far (gone_far far among) in list_among (nodes_in old) node.0 far.first node.1 (far_shown node.0.node node.0.list far node.2).0

  gone_there : (far : Far) → Contains gone far → HasContent was far
  gone_there far among =
      let node = far_node (nodes_in old) far (gone_far far among) in
      let shown = far_shown node.0.node node.0.list far node.2 in
      (node.0.node.content, node_read (held_by pieces) old node.0 held node.1 far.first shown.0, shown.1)

  gone_stays : (far : Far) → Contains gone far → HasContent mid far × IsNoProxies mid far.first
  gone_stays far among =
      let there = gone_there far among in
      let stays = contents_stay_around (places_of old) (places_of new) [] brought needs was mid tidy moves far.first there.0 there.1 (own.apart far.first (gone_first far among)) (no_place far.first) in
      ((there.0, stays.0, there.2), stays.1)

  -- in between no record names one of those that are dropped
  pub unnamed : AreUnnamed mid gone
  unnamed = record {
    there = λ far among. (gone_stays far among).0;
    nowhere = nowhere;
    once = once-right (lists_of kept) (firsts gone) all_once;
  }
    where
      first_of : (fars : List Far) (far : Far) → Contains fars far → Contains (firsts fars) far.first
      first_of [] far among = absurd (no_place far among)
      first_of (x ∷ fars) far among =
          elim (Contains-append_cases (x ∷ []) fars far among) [
            | inl here ↦ subst (λ (y : Far). Contains (firsts (x ∷ fars)) y.first) (sym (one_place x far here)) (first_among x.first (firsts fars))
            | inr later ↦ Contains-append_right (x.first ∷ []) (firsts fars) far.first (first_of fars far later)
          ]

      by_content : (far : Far) → Contains gone far → (place : RecordPlace) → NamesAny mid place far.first → Contains (places_of new) place → ⊥
      by_content far among place (inl names) here = (gone_stays far among).1 place names.0 names.1
      by_content far among place (inr names) here =
          new_not_gone far.first (subst (λ (f : ℕ). Contains (contents_of new) f) names.1 (named_in_layout mid (piece_map mid) new (stands (piece_map mid)) place names.0 here names.2)) (first_of gone far among)

      nowhere : (far : Far) → Contains gone far → IsNamedNowhere mid far.first
      nowhere far among place names =
          elim (is_among (places_of new) place) [
            | inl here ↦ by_content far among place names here
            | inr other ↦ elim (is_among (places_of old) place) [
              | inl was_here ↦ any_there mid place far.first names (moves.went place was_here other)
              | inr not ↦ not (own.alone far.first (gone_first far among) place (any_along mid was place far.first (sym (moves.kept place not other)) names))
            ]
          ]

  -- their lists went then
  module _ {now : Held} (frees : MovesRecords [] [] (firsts gone) [] 0 mid now) where
    pub all_moves : MovesRecords (places_of old) (places_of new) (firsts gone) brought needs was now
    all_moves =
        let places : List RecordPlace = places_of new in
        let beside : MovesRecords (places ++ []) (places ++ []) (firsts gone) [] 0 mid now = moves_beside places [] [] (firsts gone) [] 0 mid now moves.came (λ place none among. no_place place none) frees in
        let then : MovesRecords places places (firsts gone) [] 0 mid now = subst (λ (ps : List RecordPlace). MovesRecords ps ps (firsts gone) [] 0 mid now) (append-nil places) beside in
        moves_same (places_of old) (places_of old) places places (firsts gone) (firsts gone) (brought ++ []) brought (needs + 0) needs was now (same_self (places_of old)) (same_self places) (same_self (firsts gone))
        (λ first. (λ h. subst (λ (l : List ℕ). Contains l first) (append-nil brought) h, λ h. subst (λ (l : List ℕ). Contains l first) (sym (append-nil brought)) h)) (omega arith)
        (moves_add_up (places_of old) places places [] (firsts gone) brought [] needs 0 was mid now moves then)

    -- what came is held still
    pub new_held : MayName mid (piece_body new) → (after : PieceMap now) → AreHeld (held_by after) new
    new_held may after =
        held_stays (held_by (piece_map mid)) (held_by after) new (record {
          pieces = λ place piece among e.
              told_some now place piece (after.piece_at place) (after.are place)
              (pieces_stay_around [] [] (firsts gone) [] 0 mid now tidier frees place piece (held_at mid (piece_map mid) place piece e) (no_place place)).1;
          lists = λ n among read first far.
              let list = list_among (nodes_in new) n first among far in
              (contents_stay_around [] [] (firsts gone) [] 0 mid now tidier frees first n.node.content (read first far) (row_apart mid (piece_map mid) new tidier (stands (piece_map mid)) may first list) (new_not_gone first list)).0;
          most = ap (λ (s : Settings). s.k) frees.settings;
        }) (stands (piece_map mid))

    pub record_end : (place : RecordPlace) → record_at now place ≡ record_at mid place
    record_end place = frees.kept place (no_place place) (no_place place)

    -- a list of proxies stays
    pub list_end : (place : RecordPlace) (count chain : ℕ) → NamesList mid place count chain → now.lists chain ≡ mid.lists chain
    list_end place count chain names =
        let list = tidier.there place count chain names in
        frees.lists_stay chain list.0 list.1 not ∙ sym list.1
      where
        by_far : (fars : List Far) → Contains (firsts fars) chain → (far : Far) × Contains fars far × (far.first ≡ chain)
        by_far [] among = absurd (no_place chain among)
        by_far (x ∷ fars) among =
            elim (Contains-append_cases (x.first ∷ []) (firsts fars) chain among) [
              | inl here ↦ (x, first_among x fars, sym (one_place x.first chain here))
              | inr later ↦ let r = by_far fars later in (r.0, Contains-append_right (x ∷ []) fars r.0 r.1, r.2)
            ]

        not : NamesAmong mid [] (firsts gone) chain → ⊥
        not (inl named) = no_place named.0 named.2
        not (inr among) = let far = by_far gone among in (gone_stays far.0 far.1).1 place count (subst (λ (c : ℕ). NamesList mid place count c) (sym far.2) names)
