-- Records that move, one after the other.
use Rattle.std.proofs.Common.{◌≡◌, ℕ, ◌+◌, ◌≤◌, List, [], ◌∷◌, ◌++◌, length, Option, None, Some, inl, inr, refl, sym, ap, ◌∙◌, subst, arith, append-nil}
use Rattle.std.specs.Prelude.{◌⊎◌, IsSome, Contains}
use Rattle.std.proofs.lemmas.List.Elements.{Contains-append_left, Contains-append_right, Contains-append_cases}
use Rattle.nx_holdings.specs.Holdings.{Held}
use Rattle.nx_piece.specs.declared.piece.Piece.{Piece}
use Rattle.nx_piece.specs.declared.piece.Stored.TheVariants.{Inline, Chained}
use Rattle.nx_piece.specs.Gapped.{Gapped}
use Rattle.nx_piece.specs.Encoding.{proxies_bytes}
use Rattle.nx_layouts.specs.Layout.{RecordPlace}
use Rattle.nx_layouts.proofs.PlaceLemmas.{no_place, one_place, first_among, is_among}
use Rattle.nx_hold.specs.Changes.{piece_needs, AddsPiece, UpdatesPiece, RemovesPiece}
use Rattle.nx_hold.specs.Pieces.{record_at, HoldsPiece, NamesList, NamesAny, NamesNot, IsNoProxies, MayName, IsTidy, ChangesOneRecord}
use Rattle.nx_hold.specs.Documents.{NamesAmong, MovesRecords, AddsRecords, HaveSame, MovesSame, MovesAddUp, MovesBeside, UpdateMoves, RemoveMoves, OneWentSeveralCame, PiecesStayAround, ContentsStayAround, PieceAddsRecord, RecordsAddUp, PiecesStayBeside}
use Rattle.nx_hold.proofs.PieceLemmas.{some_same, no_value, stays_stored, pieces_stay}
use Rattle.nx_hold.proofs.MapLemmas.{held_at, told_some}
use Rattle.nx_hold.proofs.RecordsLemmas.{not_none, piece_record, record_there, names_along, any_along, any_there, any_listed, names_or_not, not_at, named_at, none_names, none_named}

-- nothing moved
pub moves_none : (held : Held) → MovesRecords [] [] [] [] 0 held held
moves_none held = record {
  fresh = λ place among apart. absurd (no_place place among);
  came = λ place among. absurd (no_place place among);
  went = λ place among apart. absurd (no_place place among);
  kept = λ place first last. refl;
  lists_stay = λ chain bytes there not. there;
  lists_come = λ chain bytes there. inl there;
  lists_go = λ chain bytes there named. absurd (none_named held chain named);
  lists_fresh = λ chain named not. absurd (none_named held chain named);
  lost_alone = λ chain among. absurd (no_place chain among);
  settings = refl;
  catalog = refl;
  free = omega arith;
}

among_same : (one other : List RecordPlace) (lists others : List ℕ) (held : Held) (chain : ℕ) → ((place : RecordPlace) → Contains one place → Contains other place) → ((first : ℕ) → Contains lists first → Contains others first)
    → NamesAmong held one lists chain → NamesAmong held other others chain
among_same one other lists others held chain goes keeps (inl named) = inl (named.0, named.1, goes named.0 named.2, named.3)
among_same one other lists others held chain goes keeps (inr among) = inr (keeps chain among)

free_more : (was now needs more : ℕ) → was ≤ now + needs → needs ≤ more → was ≤ now + more
free_more was now needs more free most = omega (arith, free, most)

pub moves_same : MovesSame
moves_same gone other_gone come other_come lost other_lost brought other_brought needs more was now first last left came most moves = record {
  fresh = λ place among apart. moves.fresh place ((last place).1 among) (λ went. apart ((first place).0 went));
  came = λ place among. moves.came place ((last place).1 among);
  went = λ place among apart. moves.went place ((first place).1 among) (λ among. apart ((last place).0 among));
  kept = λ place one two. moves.kept place (λ went. one ((first place).0 went)) (λ among. two ((last place).0 among));
  lists_stay = λ chain bytes there not. moves.lists_stay chain bytes there (λ named. not (gone_same chain named));
  lists_come = λ chain bytes there. elim (moves.lists_come chain bytes there) [ inl earlier ↦ inl earlier | inr named ↦ inr (come_same chain named) ];
  lists_go = λ chain bytes there named. come_same chain (moves.lists_go chain bytes there (gone_back chain named));
  lists_fresh = λ chain named not. moves.lists_fresh chain (come_back chain named) (λ went. not (gone_same chain went));
  lost_alone = λ chain among place not. moves.lost_alone chain ((left chain).1 among) place (λ went. not ((first place).0 went));
  settings = moves.settings;
  catalog = moves.catalog;
  free = free_more was.free now.free needs more moves.free most;
}
  where
    gone_same : (chain : ℕ) → NamesAmong was gone lost chain → NamesAmong was other_gone other_lost chain
    gone_same chain named = among_same gone other_gone lost other_lost was chain (λ place. (first place).0) (λ list. (left list).0) named

    gone_back : (chain : ℕ) → NamesAmong was other_gone other_lost chain → NamesAmong was gone lost chain
    gone_back chain named = among_same other_gone gone other_lost lost was chain (λ place. (first place).1) (λ list. (left list).1) named

    come_same : (chain : ℕ) → NamesAmong now come brought chain → NamesAmong now other_come other_brought chain
    come_same chain named = among_same come other_come brought other_brought now chain (λ place. (last place).0) (λ list. (came list).0) named

    come_back : (chain : ℕ) → NamesAmong now other_come other_brought chain → NamesAmong now come brought chain
    come_back chain named = among_same other_come come other_brought brought now chain (λ place. (last place).1) (λ list. (came list).1) named

pub same_self : {T : Type 0} (xs : List T) → HaveSame xs xs
same_self xs x = (λ h. h, λ h. h)

-- the same with more pages
pub moves_more : (gone come : List RecordPlace) (lost brought : List ℕ) (needs more : ℕ) (was now : Held) → needs ≤ more → MovesRecords gone come lost brought needs was now → MovesRecords gone come lost brought more was now
moves_more gone come lost brought needs more was now most moves =
    moves_same gone gone come come lost lost brought brought needs more was now (same_self gone) (same_self come) (same_self lost) (same_self brought) most moves

-- nothing, or something
none_or : {A : Type 0} (o : Option A) → (o ≡ None) ⊎ ((x : A) × (o ≡ Some x))
none_or None = inl refl
none_or (Some x) = inr (x, refl)

module _ (gone between come : List RecordPlace) (lost left brought more : List ℕ) (needs then : ℕ) (was mid now : Held) (one : MovesRecords gone between lost brought needs was mid) (two : MovesRecords between come left more then mid now) where
  fresh_both : (place : RecordPlace) → Contains come place → (Contains gone place → ⊥) → record_at was place ≡ None
  fresh_both place among apart = elim (is_among between place) [
    | inl through ↦ one.fresh place through apart
    | inr beside ↦ sym (one.kept place apart beside) ∙ two.fresh place among beside
  ]

  went_both : (place : RecordPlace) → Contains gone place → (Contains come place → ⊥) → record_at now place ≡ None
  went_both place among apart = elim (is_among between place) [
    | inl through ↦ two.went place through apart
    | inr beside ↦ two.kept place beside apart ∙ one.went place among beside
  ]

  kept_both : (place : RecordPlace) → (Contains gone place → ⊥) → (Contains come place → ⊥) → record_at now place ≡ record_at was place
  kept_both place first last = elim (is_among between place) [
    | inl through ↦ two.went place through last ∙ sym (one.fresh place through first)
    | inr beside ↦ two.kept place beside last ∙ one.kept place first beside
  ]

  come_more : (chain : ℕ) → NamesAmong now come more chain → NamesAmong now come (brought ++ more) chain
  come_more chain (inl h) = inl h
  come_more chain (inr h) = inr (Contains-append_right brought more chain h)

  gone_more : (chain : ℕ) → NamesAmong was gone lost chain → NamesAmong was gone (lost ++ left) chain
  gone_more chain (inl h) = inl h
  gone_more chain (inr h) = inr (Contains-append_left lost left chain h)

  -- what was there and nothing that went named is named by nothing in between
  unnamed : (chain : ℕ) (bytes : List ℕ) → was.lists chain ≡ Some bytes → (NamesAmong was gone (lost ++ left) chain → ⊥) → NamesAmong mid between left chain → ⊥
  unnamed chain bytes there not (inl named) = no_value (sym there ∙ one.lists_fresh chain (inl named) (λ went. not (gone_more chain went)))
  unnamed chain bytes there not (inr here) = not (inr (Contains-append_right lost left chain here))

  stay_list : (chain : ℕ) (bytes : List ℕ) → was.lists chain ≡ Some bytes → (NamesAmong was gone (lost ++ left) chain → ⊥) → now.lists chain ≡ Some bytes
  stay_list chain bytes there not = two.lists_stay chain bytes (one.lists_stay chain bytes there (λ went. not (gone_more chain went))) (unnamed chain bytes there not)

  -- what was named or came in between is named or came at the end, if it is there
  through_list : (chain : ℕ) (bytes : List ℕ) → now.lists chain ≡ Some bytes → NamesAmong mid between brought chain → NamesAmong now come (brought ++ more) chain
  through_list chain bytes there (inl named) = come_more chain (two.lists_go chain bytes there (inl named))
  through_list chain bytes there (inr here) = inr (Contains-append_left brought more chain here)

  come_list : (chain : ℕ) (bytes : List ℕ) → now.lists chain ≡ Some bytes → (was.lists chain ≡ Some bytes) ⊎ NamesAmong now come (brought ++ more) chain
  come_list chain bytes there = elim (two.lists_come chain bytes there) [
    | inr named ↦ inr (come_more chain named)
    | inl earlier ↦ elim (one.lists_come chain bytes earlier) [
      | inl first ↦ inl first
      | inr named ↦ inr (through_list chain bytes there named)
    ]
  ]

  go_first : (chain : ℕ) (bytes : List ℕ) → now.lists chain ≡ Some bytes → NamesAmong was gone lost chain → NamesAmong now come (brought ++ more) chain
  go_first chain bytes there named = elim (two.lists_come chain bytes there) [
    | inr came ↦ come_more chain came
    | inl earlier ↦ through_list chain bytes there (one.lists_go chain bytes earlier named)
  ]

  go_list : (chain : ℕ) (bytes : List ℕ) → now.lists chain ≡ Some bytes → NamesAmong was gone (lost ++ left) chain → NamesAmong now come (brought ++ more) chain
  go_list chain bytes there (inl named) = go_first chain bytes there (inl named)
  go_list chain bytes there (inr here) = elim (Contains-append_cases lost left chain here) [
    | inl first ↦ go_first chain bytes there (inr first)
    | inr last ↦ come_more chain (two.lists_go chain bytes there (inr last))
  ]

  fresh_at_end : (chain : ℕ) (bytes : List ℕ) → was.lists chain ≡ Some bytes → NamesAmong now come more chain → (NamesAmong was gone (lost ++ left) chain → ⊥) → ⊥
  fresh_at_end chain bytes there named not =
      no_value (sym (one.lists_stay chain bytes there (λ went. not (gone_more chain went))) ∙ two.lists_fresh chain named (unnamed chain bytes there not))

  not_fresh : (chain : ℕ) (bytes : List ℕ) → was.lists chain ≡ Some bytes → NamesAmong now come (brought ++ more) chain → (NamesAmong was gone (lost ++ left) chain → ⊥) → ⊥
  not_fresh chain bytes there (inl named) not = fresh_at_end chain bytes there (inl named) not
  not_fresh chain bytes there (inr here) not = elim (Contains-append_cases brought more chain here) [
    | inl first ↦ no_value (sym there ∙ one.lists_fresh chain (inr first) (λ went. not (gone_more chain went)))
    | inr last ↦ fresh_at_end chain bytes there (inr last) not
  ]

  fresh_list : (chain : ℕ) → NamesAmong now come (brought ++ more) chain → (NamesAmong was gone (lost ++ left) chain → ⊥) → was.lists chain ≡ None
  fresh_list chain named not = elim (none_or (was.lists chain)) [ inl none ↦ none | inr some ↦ absurd (not_fresh chain some.0 some.1 named not) ]

  alone_both : (chain : ℕ) → Contains (lost ++ left) chain → (place : RecordPlace) → (Contains gone place → ⊥) → NamesAny was place chain → ⊥
  alone_both chain here place stays names = elim (Contains-append_cases lost left chain here) [
    | inl first ↦ one.lost_alone chain first place stays names
    | inr last ↦ elim (is_among between place) [
      | inl through ↦ any_there was place chain names (one.fresh place through stays)
      | inr beside ↦ two.lost_alone chain last place beside (any_along was mid place chain (one.kept place stays beside) names)
    ]
  ]

  free_both : was.free ≤ now.free + (needs + then)
  free_both =
      let first : was.free ≤ mid.free + needs = one.free in
      let last : mid.free ≤ now.free + then = two.free in
      omega (arith, first, last)

pub moves_add_up : MovesAddUp
moves_add_up gone between come lost left brought more needs then was mid now one two = record {
  fresh = fresh_both gone between come lost left brought more needs then was mid now one two;
  came = two.came;
  went = went_both gone between come lost left brought more needs then was mid now one two;
  kept = kept_both gone between come lost left brought more needs then was mid now one two;
  lists_stay = stay_list gone between come lost left brought more needs then was mid now one two;
  lists_come = come_list gone between come lost left brought more needs then was mid now one two;
  lists_go = go_list gone between come lost left brought more needs then was mid now one two;
  lists_fresh = fresh_list gone between come lost left brought more needs then was mid now one two;
  lost_alone = alone_both gone between come lost left brought more needs then was mid now one two;
  settings = two.settings ∙ one.settings;
  catalog = two.catalog ∙ one.catalog;
  free = free_both gone between come lost left brought more needs then was mid now one two;
}

module _ (rest gone come : List RecordPlace) (lost brought : List ℕ) (needs : ℕ) (was now : Held) (there : (place : RecordPlace) → Contains rest place → IsSome (record_at was place)) (apart : (place : RecordPlace) → Contains gone place → Contains rest place → ⊥)
    (moves : MovesRecords gone come lost brought needs was now) where
  rest_stays : (place : RecordPlace) → Contains rest place → record_at now place ≡ record_at was place
  rest_stays place among =
      moves.kept place (λ went. apart place went among) (λ came. not_none (record_at was place) (there place among) (moves.fresh place came (λ went. apart place went among)))

  right : (xs : List RecordPlace) (lists : List ℕ) (chain : ℕ) (held : Held) → NamesAmong held xs lists chain → NamesAmong held (rest ++ xs) lists chain
  right xs lists chain held (inl named) = inl (named.0, named.1, Contains-append_right rest xs named.0 named.2, named.3)
  right xs lists chain held (inr among) = inr among

  go_beside : (chain : ℕ) (bytes : List ℕ) → now.lists chain ≡ Some bytes → NamesAmong was (rest ++ gone) lost chain → NamesAmong now (rest ++ come) brought chain
  go_beside chain bytes is (inl named) = elim (Contains-append_cases rest gone named.0 named.2) [
    | inl stays ↦ inl (named.0, named.1, Contains-append_left rest come named.0 stays, names_along was now named.0 named.1 chain (rest_stays named.0 stays) named.3)
    | inr went ↦ right come brought chain now (moves.lists_go chain bytes is (inl (named.0, named.1, went, named.3)))
  ]
  go_beside chain bytes is (inr among) = right come brought chain now (moves.lists_go chain bytes is (inr among))

  fresh_beside : (chain : ℕ) → NamesAmong now (rest ++ come) brought chain → (NamesAmong was (rest ++ gone) lost chain → ⊥) → was.lists chain ≡ None
  fresh_beside chain (inl named) not = elim (Contains-append_cases rest come named.0 named.2) [
    | inl stays ↦ absurd (not (inl (named.0, named.1, Contains-append_left rest gone named.0 stays, names_along now was named.0 named.1 chain (sym (rest_stays named.0 stays)) named.3)))
    | inr came ↦ moves.lists_fresh chain (inl (named.0, named.1, came, named.3)) (λ went. not (right gone lost chain was went))
  ]
  fresh_beside chain (inr among) not = moves.lists_fresh chain (inr among) (λ went. not (right gone lost chain was went))

pub moves_beside : MovesBeside
moves_beside rest gone come lost brought needs was now there apart moves = record {
  fresh = λ place among not. elim (Contains-append_cases rest come place among) [
    | inl stays ↦ absurd (not (Contains-append_left rest gone place stays))
    | inr came ↦ moves.fresh place came (λ went. not (Contains-append_right rest gone place went))
  ];
  came = λ place among. elim (Contains-append_cases rest come place among) [
    | inl stays ↦ subst IsSome (sym (rest_stays rest gone come lost brought needs was now there apart moves place stays)) (there place stays)
    | inr came ↦ moves.came place came
  ];
  went = λ place among not. elim (Contains-append_cases rest gone place among) [
    | inl stays ↦ absurd (not (Contains-append_left rest come place stays))
    | inr went ↦ moves.went place went (λ came. not (Contains-append_right rest come place came))
  ];
  kept = λ place first last. moves.kept place (λ went. first (Contains-append_right rest gone place went)) (λ came. last (Contains-append_right rest come place came));
  lists_stay = λ chain bytes is not. moves.lists_stay chain bytes is (λ named. not (right rest gone come lost brought needs was now there apart moves gone lost chain was named));
  lists_come = λ chain bytes is. elim (moves.lists_come chain bytes is) [
    | inl earlier ↦ inl earlier
    | inr named ↦ inr (right rest gone come lost brought needs was now there apart moves come brought chain now named)
  ];
  lists_go = go_beside rest gone come lost brought needs was now there apart moves;
  lists_fresh = fresh_beside rest gone come lost brought needs was now there apart moves;
  lost_alone = λ chain among place not. moves.lost_alone chain among place (λ went. not (Contains-append_right rest gone place went));
  settings = moves.settings;
  catalog = moves.catalog;
  free = moves.free;
}

-- from a place to the only one
to_one : (place other : RecordPlace) → Some other ≡ Some place → Contains (place ∷ []) other
to_one place other e = subst (λ (p : RecordPlace). Contains (place ∷ []) p) (sym (some_same e)) (first_among place [])

at_one : (P : RecordPlace → Type 0) (place other : RecordPlace) → Contains (place ∷ []) other → P place → P other
at_one P place other among h = subst P (sym (one_place place other among)) h

module _ (old new : RecordPlace) (piece : Piece) (was now : Held) (updates : UpdatesPiece old new piece was now) where
  abbrev alone : ChangesOneRecord (Some old) (Some new) (piece_needs piece) was now
  alone = updates.alone

  new_names : (chain : ℕ) → NamesNot now (Some new) chain ⊎ NamesAmong now (new ∷ []) [] chain
  new_names chain = let found = piece_record now new piece updates.holds in names_or_not now new found.0 chain found.1

  old_names : (chain : ℕ) → NamesNot was (Some old) chain ⊎ NamesAmong was (old ∷ []) [] chain
  old_names chain = names_or_not was old (updates.was_there).0 chain (updates.was_there).1

  update_stays : (chain : ℕ) (bytes : List ℕ) → was.lists chain ≡ Some bytes → (NamesAmong was (old ∷ []) [] chain → ⊥) → now.lists chain ≡ Some bytes
  update_stays chain bytes there not = elim (new_names chain) [
    | inl none ↦ alone.lists chain (not_at was old chain not) none ∙ there
    | inr named ↦ let came = named_at now new chain named in absurd (no_value (sym there ∙ alone.fresh new came.0 chain refl came.1 (not_at was old chain not)))
  ]

  update_comes : (chain : ℕ) (bytes : List ℕ) → now.lists chain ≡ Some bytes → (was.lists chain ≡ Some bytes) ⊎ NamesAmong now (new ∷ []) [] chain
  update_comes chain bytes there = elim (new_names chain) [
    | inr named ↦ inr named
    | inl none ↦ elim (old_names chain) [
      | inl before ↦ inl (sym (alone.lists chain before none) ∙ there)
      | inr named ↦ let went = named_at was old chain named in absurd (no_value (sym there ∙ alone.freed old went.0 chain refl went.1 none))
    ]
  ]

  update_goes : (chain : ℕ) (bytes : List ℕ) → now.lists chain ≡ Some bytes → NamesAmong was (old ∷ []) [] chain → NamesAmong now (new ∷ []) [] chain
  update_goes chain bytes there named = elim (new_names chain) [
    | inr came ↦ came
    | inl none ↦ let went = named_at was old chain named in absurd (no_value (sym there ∙ alone.freed old went.0 chain refl went.1 none))
  ]

pub update_moves : UpdateMoves
update_moves old new piece was now updates = record {
  fresh = λ place among apart.
      at_one (λ (p : RecordPlace). record_at was p ≡ None) new place among (updates.was_free (λ same. apart (to_one old place (ap Some (one_place new place among ∙ sym same)))));
  came = λ place among. at_one (λ (p : RecordPlace). IsSome (record_at now p)) new place among (record_there now new piece updates.holds);
  went = λ place among apart.
      at_one (λ (p : RecordPlace). record_at now p ≡ None) old place among
      ((updates.alone).went old refl (λ same. apart (to_one new place (ap Some (one_place old place among) ∙ same))));
  kept = λ place first last. (updates.alone).beside place (λ e. first (to_one old place e)) (λ e. last (to_one new place e));
  lists_stay = update_stays old new piece was now updates;
  lists_come = update_comes old new piece was now updates;
  lists_go = update_goes old new piece was now updates;
  lists_fresh = λ chain named not. let came = named_at now new chain named in (updates.alone).fresh new came.0 chain refl came.1 (not_at was old chain not);
  lost_alone = λ chain among. absurd (no_place chain among);
  settings = (updates.alone).settings;
  catalog = (updates.alone).catalog;
  free = (updates.alone).free;
}

module _ (place : RecordPlace) (was now : Held) (removes : RemovesPiece place was now) where
  remove_before : (chain : ℕ) (bytes : List ℕ) → now.lists chain ≡ Some bytes → (was.lists chain ≡ Some bytes) × (NamesAmong was (place ∷ []) [] chain → ⊥)
  remove_before chain bytes there = elim (names_or_not was place (removes.was_there).0 chain (removes.was_there).1) [
    | inl not ↦ (sym ((removes.alone).lists chain not (none_names now chain)) ∙ there, λ named. let went = named_at was place chain named in not place went.0 refl went.1)
    | inr named ↦ let went = named_at was place chain named in absurd (no_value (sym there ∙ (removes.alone).freed place went.0 chain refl went.1 (none_names now chain)))
  ]

pub remove_moves : RemoveMoves
remove_moves place was now removes = record {
  fresh = λ other among apart. absurd (no_place other among);
  came = λ other among. absurd (no_place other among);
  went = λ other among apart. at_one (λ (p : RecordPlace). record_at now p ≡ None) place other among ((removes.alone).went place refl (λ e. no_value e));
  kept = λ other first last. (removes.alone).beside other (λ e. first (to_one place other e)) (λ e. no_value e);
  lists_stay = λ chain bytes there not. (removes.alone).lists chain (not_at was place chain not) (none_names now chain) ∙ there;
  lists_come = λ chain bytes there. inl (remove_before place was now removes chain bytes there).0;
  lists_go = λ chain bytes there named. absurd ((remove_before place was now removes chain bytes there).1 named);
  lists_fresh = λ chain named not. absurd (none_named now chain named);
  lost_alone = λ chain among. absurd (no_place chain among);
  settings = (removes.alone).settings;
  catalog = (removes.alone).catalog;
  free = (removes.alone).free;
}

module _ (place : RecordPlace) (piece : Piece) (was now : Held) (adds : AddsPiece place piece was now) where
  names_new : (chain : ℕ) → NamesNot now (Some place) chain ⊎ NamesAmong now (place ∷ []) [] chain
  names_new chain = let found = piece_record now place piece adds.holds in names_or_not now place found.0 chain found.1

  add_stays : (chain : ℕ) (bytes : List ℕ) → was.lists chain ≡ Some bytes → now.lists chain ≡ Some bytes
  add_stays chain bytes there = elim (names_new chain) [
    | inl none ↦ (adds.alone).lists chain (none_names was chain) none ∙ there
    | inr named ↦ let came = named_at now place chain named in absurd (no_value (sym there ∙ (adds.alone).fresh place came.0 chain refl came.1 (none_names was chain)))
  ]

  add_comes : (chain : ℕ) (bytes : List ℕ) → now.lists chain ≡ Some bytes → (was.lists chain ≡ Some bytes) ⊎ NamesAmong now (place ∷ []) [] chain
  add_comes chain bytes there = elim (names_new chain) [
    | inl none ↦ inl (sym ((adds.alone).lists chain (none_names was chain) none) ∙ there)
    | inr named ↦ inr named
  ]

pub piece_adds_record : PieceAddsRecord
piece_adds_record place piece was now adds = record {
  fresh = λ other among apart. at_one (λ (p : RecordPlace). record_at was p ≡ None) place other among adds.was_free;
  came = λ other among. at_one (λ (p : RecordPlace). IsSome (record_at now p)) place other among (record_there now place piece adds.holds);
  went = λ other among apart. absurd (no_place other among);
  kept = λ other first last. (adds.alone).beside other (λ e. no_value e) (λ e. last (to_one place other e));
  lists_stay = λ chain bytes there not. add_stays place piece was now adds chain bytes there;
  lists_come = add_comes place piece was now adds;
  lists_go = λ chain bytes there named. absurd (none_named was chain named);
  lists_fresh = λ chain named not. let came = named_at now place chain named in (adds.alone).fresh place came.0 chain refl came.1 (none_names was chain);
  lost_alone = λ chain among. absurd (no_place chain among);
  settings = (adds.alone).settings;
  catalog = (adds.alone).catalog;
  free = (adds.alone).free;
}

pub records_add_up : RecordsAddUp
records_add_up places more brought then_brought needs then was mid now one two =
    let later : MovesRecords (places ++ []) (places ++ more) [] then_brought then mid now = moves_beside places [] more [] then_brought then mid now one.came (λ place gone among. no_place place gone) two in
    moves_add_up [] places (places ++ more) [] [] brought then_brought needs then was mid now one (subst (λ (ps : List RecordPlace). MovesRecords ps (places ++ more) [] then_brought then mid now) (append-nil places) later)

pub one_went_several_came : OneWentSeveralCame
one_went_several_came place places brought needs was mid now removes adds =
    moves_more (place ∷ []) places [] brought (0 + needs) needs was now (omega arith) (moves_add_up (place ∷ []) [] places [] [] [] brought 0 needs was mid now (remove_moves place was mid removes) adds)

-- a record that is none of those that went or changed stays
pub record_stays : {gone come : List RecordPlace} {lost brought : List ℕ} {needs : ℕ} {was now : Held} (place : RecordPlace) → MovesRecords gone come lost brought needs was now → IsSome (record_at was place) → (Contains gone place → ⊥)
    → record_at now place ≡ record_at was place
record_stays {was = was} place moves there not = moves.kept place not (λ come. not_none (record_at was place) there (moves.fresh place come not))

-- a list that another record names is no list of those that went
not_gone : (gone : List RecordPlace) (lost : List ℕ) (was : Held) → IsTidy was → ((chain : ℕ) → Contains lost chain → (place : RecordPlace) → (Contains gone place → ⊥) → NamesAny was place chain → ⊥)
    → (place : RecordPlace) → (Contains gone place → ⊥) → (chain : ℕ) → NamesAny was place chain → NamesAmong was gone lost chain → ⊥
not_gone gone lost was tidy alone place not chain (inl names) (inl named) =
    not (subst (λ (p : RecordPlace). Contains gone p) (sym (tidy.once place named.0 names.0 named.1 chain names.1 named.3)) named.2)
not_gone gone lost was tidy alone place not chain (inr names) (inl named) =
    tidy.apart place names.0 names.2 named.0 named.1 (subst (λ (c : ℕ). NamesList was named.0 named.1 c) (sym names.1) named.3)
not_gone gone lost was tidy alone place not chain names (inr among) = alone chain among place not names

pub pieces_stay_around : PiecesStayAround
pieces_stay_around gone come lost brought needs was now tidy moves place piece holds not =
    let same : record_at now place ≡ record_at was place = record_stays place moves (record_there was place piece holds) not in
    let lists : (chain : ℕ) → NamesAny was place chain → now.lists chain ≡ was.lists chain =
    λ chain names.
    let list = any_listed was tidy place chain names in
    moves.lists_stay chain list.0 list.1 (not_gone gone lost was tidy moves.lost_alone place not chain names) ∙ sym list.1 in
    (same, pieces_stay was now place piece same (λ count chain names. lists chain (inl (count, names))) holds, lists)

module _ (gone come : List RecordPlace) (lost brought : List ℕ) (needs : ℕ) (was now : Held) (moves : MovesRecords gone come lost brought needs was now) (first : ℕ) (bytes : List ℕ)
    (there : was.lists first ≡ Some bytes) (none : IsNoProxies was first) (stays : Contains lost first → ⊥) where
  content_not_gone : NamesAmong was gone lost first → ⊥
  content_not_gone (inl named) = none named.0 named.1 named.3
  content_not_gone (inr among) = stays among

  no_proxies_around : IsNoProxies now first
  no_proxies_around place count names = elim (is_among come place) [
    | inl came ↦ no_value (sym there ∙ moves.lists_fresh first (inl (place, count, came, names)) content_not_gone)
    | inr beside ↦ elim (is_among gone place) [
      | inl went ↦ no_value (sym (names.1).bytes ∙ moves.went place went beside)
      | inr other ↦ none place count (names_along now was place count first (sym (moves.kept place other beside)) names)
    ]
  ]

pub contents_stay_around : ContentsStayAround
contents_stay_around gone come lost brought needs was now tidy moves first bytes there none stays = (
  moves.lists_stay first bytes there (content_not_gone gone come lost brought needs was now moves first bytes there none stays),
  no_proxies_around gone come lost brought needs was now moves first bytes there none stays,
)

-- contents that might be named may be named still, where no list of a content went
pub may_name_still : {gone come : List RecordPlace} {brought : List ℕ} {needs : ℕ} {was now : Held} (roots : Gapped) → IsTidy was → MovesRecords gone come [] brought needs was now → MayName was roots → MayName now roots
may_name_still {gone} {come} {brought} {needs} {was} {now} roots tidy moves may far among =
    let m = may far among in
    let there = m.0 in
    let stays = contents_stay_around gone come [] brought needs was now tidy moves far.first there.0 there.1 m.1 (no_place far.first) in
    ((there.0, stays.0, there.2), stays.1)

pub piece_stays : {places : List RecordPlace} {brought : List ℕ} {needs : ℕ} {was now : Held} (place : RecordPlace) (piece : Piece) → AddsRecords places brought needs was now → HoldsPiece was place piece → HoldsPiece now place piece
piece_stays {places} {brought} {needs} {was} {now} place piece adds holds = by_form holds
  where
    same : record_at now place ≡ record_at was place
    same = record_stays place adds (record_there was place piece holds) (no_place place)

    by_form : HoldsPiece was place piece → HoldsPiece now place piece
    by_form (inl h) = inl (stays_stored was now place (Inline piece) same h)
    by_form (inr h) = inr (record {
      chain = h.chain;
      stored = stays_stored was now place (Chained piece.body (length piece.proxies) h.chain) same h.stored;
      list = adds.lists_stay h.chain (proxies_bytes piece.proxies) h.list (none_named was h.chain);
      rooted = h.rooted;
      numbers = h.numbers;
    })

pub pieces_stay_beside : PiecesStayBeside
pieces_stay_beside places brought needs was now before after adds place piece e =
    told_some now place piece (after.piece_at place) (after.are place) (piece_stays place piece adds (held_at was before place piece e))
