-- What putting and taking away records and lists makes of pieces.
use Rattle.std.proofs.Common.{◌≡◌, ℕ, ◌+◌, ◌*◌, ◌≤◌, ◌<◌, Bool, true, false, List, [], length, Option, None, Some, inl, inr, refl, sym, ap, ◌∙◌, subst, arith}
use Rattle.std.specs.Prelude.{◌⊎◌, if◌then◌else◌, nat_lt, IsSome}
use Rattle.std.proofs.lemmas.Bool.{false≢true}
use Rattle.std.proofs.lemmas.Bool.Decides.{eqb_tells, leb_tells, nat_tests}
use Rattle.nx_holdings.specs.Holdings.{Held, chain_count}
use Rattle.nx_holdings.specs.Laws.{pages_of_list}
use Rattle.nx_records.specs.Changes.{records_with, lists_with, AddsRecord, UpdatesRecord, RemovesRecord, WritesList, FreesList, ChangesList, update_needs, needs_than}
use Rattle.nx_piece.specs.declared.piece.Body.{Body}
use Rattle.nx_piece.specs.declared.piece.Piece.{Piece}
use Rattle.nx_piece.specs.declared.piece.Proxy.{Proxy}
use Rattle.nx_piece.specs.declared.piece.Stored.{Stored}
use Rattle.nx_piece.specs.declared.piece.Stored.TheVariants.{Inline, Chained}
use Rattle.nx_piece.specs.Encoding.{encoding, proxies_bytes}
use Rattle.nx_piece.specs.Gapped.{slots_in}
use Rattle.nx_piece.specs.Valid.{IsValid, IsValidBody, IsValidPiece, is_inline, inline_length, longest_inline, HaveRoots, HaveNumbers, HasNumbers}
use Rattle.nx_piece.proofs.BodyLemmas.{proxies_length}
use Rattle.nx_piece.proofs.Laws.{inline_bytes, chained_bytes, body_fits}
use Rattle.nx_layouts.specs.Layout.{RecordPlace}
use Rattle.nx_layouts.proofs.PlaceLemmas.{place_is}
use Rattle.nx_hold.specs.Pieces.{record_at, IsStored, HoldsPiece, HoldsNone, NamesList, NamesNot, HasNamedList, HasItsList, SameBeside, ChangesOneRecord}
use Rattle.nx_hold.specs.Changes.{piece_needs, chain_pages, AddsPiece, UpdatesPiece, RemovesPiece}
use Rattle.nx_hold.specs.Putting.{LacksProxies, chain_of, HasList, without_list, with_list, FreesChain, IsFormOf, PutsProxies}
use Rattle.nx_hold.proofs.PieceLemmas.{some_same, no_value, one_at, no_both, chain_same, count_same}
use Rattle.nx_hold.proofs.TidyLemmas.{listed}

-- what a map has at a place that was changed, and at others

pub list_here : (lists : ℕ → Option (List ℕ)) (chain : ℕ) (o : Option (List ℕ)) → lists_with lists chain o chain ≡ o
list_here lists chain o = elim (eqb_tells chain chain) [ inl h ↦ rw h.0 refl | inr h ↦ absurd (h.1 refl) ]

pub list_other : (lists : ℕ → Option (List ℕ)) (chain other : ℕ) (o : Option (List ℕ)) → (chain ≡ other → ⊥) → lists_with lists chain o other ≡ lists other
list_other lists chain other o apart = elim (eqb_tells other chain) [ inl h ↦ absurd (apart (sym h.1)) | inr h ↦ rw h.0 refl ]

without_here : (lists : ℕ → Option (List ℕ)) (gone : Option ℕ) (chain : ℕ) → gone ≡ Some chain → without_list lists gone chain ≡ None
without_here lists None chain e = absurd (no_value (sym e))
without_here lists (Some c) chain e = subst (λ (n : ℕ). lists_with lists c None n ≡ None) (some_same e) (list_here lists c None)

without_other : (lists : ℕ → Option (List ℕ)) (gone : Option ℕ) (chain : ℕ) → (gone ≡ Some chain → ⊥) → without_list lists gone chain ≡ lists chain
without_other lists None chain apart = refl
without_other lists (Some c) chain apart = list_other lists c chain None (λ e. apart (ap Some e))

with_here : (lists : ℕ → Option (List ℕ)) (come : Option ℕ) (bytes : List ℕ) (chain : ℕ) → come ≡ Some chain → with_list lists come bytes chain ≡ Some bytes
with_here lists None bytes chain e = absurd (no_value (sym e))
with_here lists (Some c) bytes chain e = subst (λ (n : ℕ). lists_with lists c (Some bytes) n ≡ Some bytes) (some_same e) (list_here lists c (Some bytes))

with_other : (lists : ℕ → Option (List ℕ)) (come : Option ℕ) (bytes : List ℕ) (chain : ℕ) → (come ≡ Some chain → ⊥) → with_list lists come bytes chain ≡ lists chain
with_other lists None bytes chain apart = refl
with_other lists (Some c) bytes chain apart = list_other lists c chain (Some bytes) (λ e. apart (ap Some e))

record_here : (records : ℕ → ℕ → Option (List ℕ)) (p : RecordPlace) (o : Option (List ℕ)) → records_with records p.page p.slot o p.page p.slot ≡ o
record_here records p o =
    elim (eqb_tells p.page p.page) [ inl h ↦ elim (eqb_tells p.slot p.slot) [ inl k ↦ rw h.0 (rw k.0 refl) | inr k ↦ absurd (k.1 refl) ] | inr h ↦ absurd (h.1 refl) ]

record_other : (records : ℕ → ℕ → Option (List ℕ)) (p q : RecordPlace) (o : Option (List ℕ)) → (q ≡ p → ⊥) → records_with records p.page p.slot o q.page q.slot ≡ records q.page q.slot
record_other records p q o apart =
    elim (eqb_tells q.page p.page) [
      | inl h ↦ elim (eqb_tells q.slot p.slot) [ inl k ↦ absurd (apart (place_is q p h.1 k.1)) | inr k ↦ rw h.0 (rw k.0 refl) ]
      | inr h ↦ rw h.0 refl
    ]

-- a record that is a form of the piece holds it, where the list that it names has its proxies
form_holds : (held : Held) (place : RecordPlace) (piece : Piece) (stored : Stored) → IsFormOf piece stored → HaveRoots piece.proxies → HaveNumbers piece.proxies → IsStored held place stored
    → ((chain : ℕ) → chain_of stored ≡ Some chain → held.lists chain ≡ Some (proxies_bytes piece.proxies)) → HoldsPiece held place piece
form_holds held place piece (Inline other) form roots numbers is list = inl (subst (λ (p : Piece). IsStored held place (Inline p)) form is)
form_holds held place piece (Chained body count chain) form roots numbers is list = inr (record {
  chain = chain;
  stored = subst (λ (b : Body). IsStored held place (Chained b (length piece.proxies) chain)) form.0 (subst (λ (n : ℕ). IsStored held place (Chained body n chain)) form.1 is);
  list = list chain refl;
  rooted = roots;
  numbers = numbers;
})

-- the record at the place, where there is one, names this list or none
NamesOne : Held → Option RecordPlace → Option ℕ → Type 0
NamesOne held None named = named ≡ None
NamesOne held (Some place) named = (stored : Stored) × IsStored held place stored × (chain_of stored ≡ named)

one_named : (held : Held) (place : RecordPlace) (stored : Stored) → IsStored held place stored → NamesOne held (Some place) (chain_of stored)
unfolding NamesOne
one_named held place stored is = (stored, is, refl)

none_named : (held : Held) → NamesOne held None None
unfolding NamesOne
none_named held = refl

names_it : (held : Held) (o : Option RecordPlace) (named : Option ℕ) → NamesOne held o named → (at : RecordPlace) (count chain : ℕ) → Some at ≡ o → NamesList held at count chain → named ≡ Some chain
unfolding NamesOne
names_it held None named h at count chain e names = absurd (no_value e)
names_it held (Some place) named h at count chain e names =
    let here : NamesList held place count chain = subst (λ (q : RecordPlace). NamesList held q count chain) (some_same e) names in
    sym h.2 ∙ ap chain_of (one_at held place h.0 (Chained here.0 count chain) h.1 here.1)

stored_names_not : (held : Held) (place : RecordPlace) (stored : Stored) (chain : ℕ) → IsStored held place stored → NamesNot held (Some place) chain → chain_of stored ≡ Some chain → ⊥
stored_names_not held place (Inline piece) chain is not e = no_value (sym e)
stored_names_not held place (Chained body count c) chain is not e = not place count refl (body, subst (λ (n : ℕ). IsStored held place (Chained body count n)) (some_same e) is)

names_not : (held : Held) (o : Option RecordPlace) (named : Option ℕ) → NamesOne held o named → (chain : ℕ) → NamesNot held o chain → named ≡ Some chain → ⊥
unfolding NamesOne
names_not held None named h chain not e = no_value (sym e ∙ h)
names_not held (Some place) named h chain not e = stored_names_not held place h.0 chain h.1 not (h.2 ∙ e)

-- one list goes, and one comes, where there are such
record ListsChange (gone come : Option ℕ) (was now : Held) : Type 0 where
  pub stay : (chain : ℕ) → (gone ≡ Some chain → ⊥) → (come ≡ Some chain → ⊥) → now.lists chain ≡ was.lists chain
  pub freed : (chain : ℕ) → gone ≡ Some chain → now.lists chain ≡ None
  pub fresh : (chain : ℕ) → come ≡ Some chain → was.lists chain ≡ None

lists_change : (gone come : Option ℕ) (bytes : List ℕ) (was now : Held) → now.lists ≡ without_list (with_list was.lists come bytes) gone
    → ((chain : ℕ) → come ≡ Some chain → was.lists chain ≡ None) → ListsChange gone come was now
lists_change gone come bytes was now are fresh = record {
  stay = λ chain not_gone not_come. at chain ∙ without_other (with_list was.lists come bytes) gone chain not_gone ∙ with_other was.lists come bytes chain not_come;
  freed = λ chain e. at chain ∙ without_here (with_list was.lists come bytes) gone chain e;
  fresh = fresh;
}
  where
    at : (chain : ℕ) → now.lists chain ≡ without_list (with_list was.lists come bytes) gone chain
    at chain = ap (λ (f : ℕ → Option (List ℕ)). f chain) are

module _ {old new : Option RecordPlace} {gone come : Option ℕ} {was now : Held} (names : NamesOne was old gone) (named : NamesOne now new come) (lists : ListsChange gone come was now) where
  change_one : (needs : ℕ) → SameBeside old new was now → ((place : RecordPlace) → Some place ≡ old → (Some place ≡ new → ⊥) → record_at now place ≡ None)
      → now.settings ≡ was.settings → now.catalog ≡ was.catalog → was.free ≤ now.free + needs → ChangesOneRecord old new needs was now
  change_one needs beside went settings catalog free = record {
    beside = beside;
    went = went;
    lists = λ chain not_old not_new. lists.stay chain (names_not was old gone names chain not_old) (names_not now new come named chain not_new);
    freed = λ place count chain e has not_new. lists.freed chain (names_it was old gone names place count chain e has);
    fresh = λ place count chain e has not_old. lists.fresh chain (names_it now new come named place count chain e has);
    settings = settings;
    catalog = catalog;
    free = free;
  }

pub free_of_add : (was mid now pages : ℕ) → was ≤ mid + pages → mid ≤ now + 1 → was ≤ now + (1 + pages)
free_of_add was mid now pages one two = omega (arith, one, two)

free_of_update : (was mid next now pages needs : ℕ) → was ≤ mid + pages → mid ≤ next + needs → needs ≤ 1 → next ≤ now → was ≤ now + (1 + pages)
free_of_update was mid next now pages needs one two few three = omega (arith, one, two, few, three)

free_on_list : (was mid now had has needs pages : ℕ) → was ≤ mid + needs → needs ≤ 1 → mid + had ≤ now + has → had ≡ has → was ≤ now + (1 + pages)
free_on_list was mid now had has needs pages one few two same = omega (arith, one, few, two, same)

pub records_at : (was now : Held) → now.records ≡ was.records → (place : RecordPlace) → record_at now place ≡ record_at was place
records_at was now same place = ap (λ (f : ℕ → ℕ → Option (List ℕ)). f place.page place.slot) same

pub adds_piece : (place : RecordPlace) (piece : Piece) (bytes : List ℕ) (was mid now : Held) → IsValidPiece piece → PutsProxies piece bytes was mid → AddsRecord place.page place.slot bytes mid now → AddsPiece place piece was now
adds_piece place piece bytes was mid now valid puts adds = record {
  was_free = sym (records_at was mid (puts.changes).records place) ∙ adds.was_none;
  holds = form_holds now place piece puts.stored puts.form valid.ranged puts.proxies_fit is
      (λ chain e. ap (λ (f : ℕ → Option (List ℕ)). f chain) lists ∙ with_here was.lists (chain_of puts.stored) (proxies_bytes piece.proxies) chain e);
  alone = change_one {old = None} {new = Some place} {gone = None} {come = chain_of puts.stored} {was = was} {now = now} (none_named was) (one_named now place puts.stored is)
      (lists_change None (chain_of puts.stored) (proxies_bytes piece.proxies) was now lists puts.was_none) (piece_needs piece)
      (λ p not_old not_new. at p ∙ record_other mid.records place p (Some bytes) (λ e. not_new (ap Some e)) ∙ records_at was mid (puts.changes).records p)
      (λ p e. absurd (no_value e))
      ((adds.changes).settings ∙ (puts.changes).settings) ((adds.changes).catalog ∙ (puts.changes).catalog)
      (free_of_add was.free mid.free now.free (chain_pages piece) puts.free adds.free);
}
  where
    lists : now.lists ≡ with_list was.lists (chain_of puts.stored) (proxies_bytes piece.proxies)
    lists = (adds.changes).lists ∙ (puts.changes).lists

    at : (p : RecordPlace) → record_at now p ≡ records_with mid.records place.page place.slot (Some bytes) p.page p.slot
    at p = ap (λ (f : ℕ → ℕ → Option (List ℕ)). f p.page p.slot) (adds.changes).records

    is : IsStored now place puts.stored
    is = record { bytes = at place ∙ record_here mid.records place (Some bytes) ∙ ap Some puts.are; valid = puts.valid; numbers = puts.numbers }

-- the list of a record that is in order
pub has_list : (was : Held) (place : RecordPlace) (stored : Stored) → HasItsList was place → IsStored was place stored → HasList was stored
has_list was place (Inline piece) has is = tt
has_list was place (Chained body count chain) has is = has count chain (body, is)

list_of_one : (was : Held) (stored : Stored) → HasList was stored → (chain : ℕ) → chain_of stored ≡ Some chain → (list : List ℕ) × (was.lists chain ≡ Some list)
list_of_one was (Inline piece) has chain e = absurd (no_value (sym e))
list_of_one was (Chained body count c) has chain e = (has.0, ap was.lists (sym (some_same e)) ∙ has.1)

list_stays : (was now : Held) (stored : Stored) → ((chain : ℕ) → chain_of stored ≡ Some chain → now.lists chain ≡ was.lists chain) → HasList was stored → HasList now stored
list_stays was now (Inline piece) same has = tt
list_stays was now (Chained body count chain) same has = (has.0, same chain refl ∙ has.1, has.2)

not_come : (was : Held) (stored : Stored) (come : Option ℕ) → HasList was stored → ((chain : ℕ) → come ≡ Some chain → was.lists chain ≡ None) → (chain : ℕ) → chain_of stored ≡ Some chain → come ≡ Some chain → ⊥
not_come was stored come has fresh chain e comes = no_value (sym (list_of_one was stored has chain e).1 ∙ fresh chain comes)

-- the list of the old record is there still, once the new one's was put and records were changed
pub list_kept : (was mid next : Held) (piece : Piece) (bytes : List ℕ) (stored : Stored) → PutsProxies piece bytes was mid → next.lists ≡ mid.lists → HasList was stored → HasList next stored
list_kept was mid next piece bytes stored puts same has =
    list_stays was next stored
    (λ chain e.
    ap (λ (f : ℕ → Option (List ℕ)). f chain) (same ∙ (puts.changes).lists)
    ∙ with_other was.lists (chain_of puts.stored) (proxies_bytes piece.proxies) chain (not_come was stored (chain_of puts.stored) has puts.was_none chain e))
    has

pub list_kept_alone : (was next : Held) (stored : Stored) → next.lists ≡ was.lists → HasList was stored → HasList next stored
list_kept_alone was next stored same has = list_stays was next stored (λ chain e. ap (λ (f : ℕ → Option (List ℕ)). f chain) same) has

pub few_needs : (o : Option (List ℕ)) (bytes : List ℕ) → needs_than o bytes ≤ 1
few_needs None bytes = omega arith
few_needs (Some old) bytes = by_cases (nat_lt (length old) (length bytes))
  where
    by_cases : (b : Bool) → (if b then 1 else 0) ≤ 1
    by_cases true = omega arith
    by_cases false = omega arith

no_more : (a b : ℕ) → b ≤ a → ◌≡◌ {A = ℕ} (if nat_lt a b then 1 else 0) 0
no_more a b most = grind (arith, nat_tests)

-- bytes that are no longer need no page
none_needed : (o : Option (List ℕ)) (bytes before : List ℕ) → o ≡ Some before → length bytes ≤ length before → needs_than o bytes ≡ 0
none_needed o bytes before e most = ap (λ (x : Option (List ℕ)). needs_than x bytes) e ∙ no_more (length before) (length bytes) most

module _ (old new : RecordPlace) (piece : Piece) (bytes : List ℕ) (stored : Stored) (was mid next now : Held) where
  pub updates_piece : IsValidPiece piece → IsStored was old stored → HasList was stored → PutsProxies piece bytes was mid → UpdatesRecord old.page old.slot bytes new.page new.slot mid next → FreesChain stored next now
      → UpdatesPiece old new piece was now
  updates_piece valid was_is has puts updates frees = record {
    was_there = (stored, was_is);
    was_free = λ apart. sym (record_other mid.records old new None (λ e. apart (sym e)) ∙ records_at was mid (puts.changes).records new) ∙ updates.was_none;
    holds = form_holds now new piece puts.stored puts.form valid.ranged puts.proxies_fit is
        (λ chain e.
        ap (λ (f : ℕ → Option (List ℕ)). f chain) lists
        ∙ without_other (with_list was.lists (chain_of puts.stored) (proxies_bytes piece.proxies)) (chain_of stored) chain
        (λ gone. not_come was stored (chain_of puts.stored) has puts.was_none chain gone e)
        ∙ with_here was.lists (chain_of puts.stored) (proxies_bytes piece.proxies) chain e);
    stays = λ before after was_bytes now_bytes fewer.
        let same : after ≡ bytes = some_same (sym now_bytes ∙ is.bytes) ∙ sym puts.are in
        let fits : length bytes ≤ length before = subst (λ (l : List ℕ). length l ≤ length before) same fewer in
        let at_old = updates.stays (none_needed (mid.records old.page old.slot) bytes before (records_at was mid (puts.changes).records old ∙ was_bytes) fits) in
        place_is new old at_old.0 at_old.1;
    alone = change_one {old = Some old} {new = Some new} {gone = chain_of stored} {come = chain_of puts.stored} {was = was} {now = now} (one_named was old stored was_is) (one_named now new puts.stored is)
        (lists_change (chain_of stored) (chain_of puts.stored) (proxies_bytes piece.proxies) was now lists puts.was_none) (piece_needs piece)
        (λ p not_old not_new.
        other p (λ e. not_new (ap Some e))
        ∙ record_other mid.records old p None (λ e. not_old (ap Some e)) ∙ records_at was mid (puts.changes).records p)
        (λ p e not_new. other p (λ same. not_new (ap Some same)) ∙ ap (λ (q : RecordPlace). records_with mid.records old.page old.slot None q.page q.slot) (some_same e) ∙ record_here mid.records old None)
        ((frees.changes).settings ∙ (updates.changes).settings ∙ (puts.changes).settings) ((frees.changes).catalog ∙ (updates.changes).catalog ∙ (puts.changes).catalog)
        (free_of_update was.free mid.free next.free now.free (chain_pages piece) (update_needs old.page old.slot bytes mid) puts.free updates.free (few_needs (mid.records old.page old.slot) bytes) frees.free);
  }
    where
      lists : now.lists ≡ without_list (with_list was.lists (chain_of puts.stored) (proxies_bytes piece.proxies)) (chain_of stored)
      lists = (frees.changes).lists ∙ ap (λ (f : ℕ → Option (List ℕ)). without_list f (chain_of stored)) ((updates.changes).lists ∙ (puts.changes).lists)

      at : (p : RecordPlace) → record_at now p ≡ records_with (records_with mid.records old.page old.slot None) new.page new.slot (Some bytes) p.page p.slot
      at p = ap (λ (f : ℕ → ℕ → Option (List ℕ)). f p.page p.slot) ((frees.changes).records ∙ (updates.changes).records)

      other : (p : RecordPlace) → (p ≡ new → ⊥) → record_at now p ≡ records_with mid.records old.page old.slot None p.page p.slot
      other p apart = at p ∙ record_other (records_with mid.records old.page old.slot None) new p (Some bytes) apart

      is : IsStored now new puts.stored
      is = record { bytes = at new ∙ record_here (records_with mid.records old.page old.slot None) new (Some bytes) ∙ ap Some puts.are; valid = puts.valid; numbers = puts.numbers }

inline_cases : (piece : Piece) → ((is_inline piece ≡ true) × (inline_length piece.body.roots (length piece.proxies) ≤ longest_inline)) ⊎ ((is_inline piece ≡ false) × (longest_inline < inline_length piece.body.roots (length piece.proxies)))
inline_cases piece = leb_tells (inline_length piece.body.roots (length piece.proxies)) longest_inline

pub inline_valid : (piece : Piece) → IsValidPiece piece → is_inline piece ≡ true → IsValid (Inline piece)
inline_valid piece valid is = elim (inline_cases piece) [ inl h ↦ record { body = valid.body; ranged = valid.ranged; fits = h.1 } | inr h ↦ absurd (false≢true (sym h.0 ∙ is)) ]

pub chained_valid : (piece : Piece) (chain : ℕ) → IsValidPiece piece → is_inline piece ≡ false → IsValid (Chained piece.body (length piece.proxies) chain)
chained_valid piece chain valid is = elim (inline_cases piece) [ inl h ↦ absurd (false≢true (sym is ∙ h.0)) | inr h ↦ record { body = valid.body; long = h.1 } ]

-- The list of the old record has the new one's proxies, on as many pages.
module _ (old new : RecordPlace) (piece : Piece) (bytes : List ℕ) (count chain : ℕ) (was mid now : Held) where
  pub updates_on_list : IsValidPiece piece → is_inline piece ≡ false → HaveNumbers piece.proxies → HasNumbers (Chained piece.body (length piece.proxies) chain) → bytes ≡ encoding (Chained piece.body (length piece.proxies) chain)
      → chain_count (8 * length piece.proxies) ≡ chain_count (8 * count) → NamesList was old count chain → HasItsList was old
      → UpdatesRecord old.page old.slot bytes new.page new.slot was mid → ChangesList chain (proxies_bytes piece.proxies) mid now → UpdatesPiece old new piece was now
  updates_on_list valid long fit number are pages names its updates changes = record {
    was_there = (Chained names.0 count chain, names.1);
    was_free = λ apart. sym (record_other was.records old new None (λ e. apart (sym e))) ∙ updates.was_none;
    holds = inr (record { chain = chain; stored = is; list = list_at chain ∙ list_here mid.lists chain (Some (proxies_bytes piece.proxies)); rooted = valid.ranged; numbers = fit });
    stays = λ before after was_bytes now_bytes fewer.
        let same : after ≡ bytes = some_same (sym now_bytes ∙ is.bytes) ∙ sym are in
        let fits : length bytes ≤ length before = subst (λ (l : List ℕ). length l ≤ length before) same fewer in
        let at_old = updates.stays (none_needed (was.records old.page old.slot) bytes before was_bytes fits) in
        place_is new old at_old.0 at_old.1;
    alone = record {
      beside = λ p not_old not_new. other p (λ e. not_new (ap Some e)) ∙ record_other was.records old p None (λ e. not_old (ap Some e));
      went = λ p e not_new. other p (λ same. not_new (ap Some same)) ∙ ap (λ (q : RecordPlace). records_with was.records old.page old.slot None q.page q.slot) (some_same e) ∙ record_here was.records old None;
      lists = λ c not_old not_new.
          list_at c ∙ list_other mid.lists chain c (Some (proxies_bytes piece.proxies)) (λ same. not_new new (length piece.proxies) refl (subst (λ (n : ℕ). NamesList now new (length piece.proxies) n) same (piece.body, is)))
          ∙ ap (λ (f : ℕ → Option (List ℕ)). f c) (updates.changes).lists;
      freed = λ p n c e named not_new.
          let here : NamesList was old n c = subst (λ (q : RecordPlace). NamesList was q n c) (some_same e) named in
          let one = one_at was old (Chained here.0 n c) (Chained names.0 count chain) here.1 names.1 in
          let same = chain_same here.0 names.0 n count c chain one in
          absurd (not_new new (length piece.proxies) refl (subst (λ (n : ℕ). NamesList now new (length piece.proxies) n) (sym same) (piece.body, is)));
      fresh = λ p n c e named not_old.
          let here : NamesList now new n c = subst (λ (q : RecordPlace). NamesList now q n c) (some_same e) named in
          let one = one_at now new (Chained here.0 n c) (Chained piece.body (length piece.proxies) chain) here.1 is in
          let same = chain_same here.0 piece.body n (length piece.proxies) c chain one in
          absurd (not_old old count refl (subst (λ (n : ℕ). NamesList was old count n) (sym same) names));
      settings = (changes.changes).settings ∙ (updates.changes).settings;
      catalog = (changes.changes).catalog ∙ (updates.changes).catalog;
      free =
          let there = its count chain names in
          let had : pages_of_list (mid.lists chain) ≡ chain_count (8 * count) =
          ap (λ (f : ℕ → Option (List ℕ)). pages_of_list (f chain)) (updates.changes).lists ∙ ap pages_of_list there.1 ∙ ap chain_count there.2 in
          let has : chain_count (length (proxies_bytes piece.proxies)) ≡ chain_count (8 * length piece.proxies) = ap chain_count (proxies_length piece.proxies) in
          free_on_list was.free mid.free now.free (pages_of_list (mid.lists chain)) (chain_count (length (proxies_bytes piece.proxies))) (update_needs old.page old.slot bytes was) (chain_pages piece)
          updates.free (few_needs (was.records old.page old.slot) bytes) changes.free (had ∙ sym pages ∙ sym has);
    };
  }
    where
      at : (p : RecordPlace) → record_at now p ≡ records_with (records_with was.records old.page old.slot None) new.page new.slot (Some bytes) p.page p.slot
      at p = ap (λ (f : ℕ → ℕ → Option (List ℕ)). f p.page p.slot) ((changes.changes).records ∙ (updates.changes).records)

      other : (p : RecordPlace) → (p ≡ new → ⊥) → record_at now p ≡ records_with was.records old.page old.slot None p.page p.slot
      other p apart = at p ∙ record_other (records_with was.records old.page old.slot None) new p (Some bytes) apart

      list_at : (c : ℕ) → now.lists c ≡ lists_with mid.lists chain (Some (proxies_bytes piece.proxies)) c
      list_at c = ap (λ (f : ℕ → Option (List ℕ)). f c) (changes.changes).lists

      is : IsStored now new (Chained piece.body (length piece.proxies) chain)
      is = record { bytes = at new ∙ record_here (records_with was.records old.page old.slot None) new (Some bytes) ∙ ap Some are; valid = chained_valid piece chain valid long; numbers = number }

pub removes_piece : (old : RecordPlace) (stored : Stored) (was next now : Held) → IsStored was old stored → RemovesRecord old.page old.slot was next → FreesChain stored next now → RemovesPiece old was now
removes_piece old stored was next now was_is removes frees = record {
  was_there = (stored, was_is);
  alone = change_one {old = Some old} {new = None} {gone = chain_of stored} {come = None} {was = was} {now = now} (one_named was old stored was_is) (none_named now)
      (lists_change (chain_of stored) None [] was now lists (λ chain e. absurd (no_value (sym e)))) 0
      (λ p not_old not_new. at p ∙ record_other was.records old p None (λ e. not_old (ap Some e)))
      (λ p e not_new. at p ∙ ap (λ (q : RecordPlace). records_with was.records old.page old.slot None q.page q.slot) (some_same e) ∙ record_here was.records old None)
      ((frees.changes).settings ∙ (removes.changes).settings) ((frees.changes).catalog ∙ (removes.changes).catalog)
      (let one : was.free ≤ next.free = removes.free in let two : next.free ≤ now.free = frees.free in omega (arith, one, two));
}
  where
    lists : now.lists ≡ without_list was.lists (chain_of stored)
    lists = (frees.changes).lists ∙ ap (λ (f : ℕ → Option (List ℕ)). without_list f (chain_of stored)) (removes.changes).lists

    at : (p : RecordPlace) → record_at now p ≡ records_with was.records old.page old.slot None p.page p.slot
    at p = ap (λ (f : ℕ → ℕ → Option (List ℕ)). f p.page p.slot) ((frees.changes).records ∙ (removes.changes).records)

-- an inline record of the piece, and no list
pub puts_inline : (piece : Piece) (bytes : List ℕ) (held : Held) → IsValid (Inline piece) → HasNumbers (Inline piece) → bytes ≡ encoding (Inline piece) → PutsProxies piece bytes held held
puts_inline piece bytes held valid numbers are = record {
  stored = Inline piece;
  form = refl;
  are = are;
  valid = valid;
  numbers = numbers;
  proxies_fit = numbers.0;
  was_none = λ chain e. absurd (no_value (sym e));
  changes = record { lists = refl; records = refl; catalog = refl; settings = refl };
  free = omega arith;
}

pub pages_chained : (piece : Piece) → is_inline piece ≡ false → chain_pages piece ≡ chain_count (8 * length piece.proxies)
pages_chained piece e = rw e refl

-- a chained record of the piece, and the list of its proxies
pub puts_chained : (piece : Piece) (bytes : List ℕ) (chain : ℕ) (was now : Held) → IsValid (Chained piece.body (length piece.proxies) chain) → is_inline piece ≡ false → HaveNumbers piece.proxies
    → HasNumbers (Chained piece.body (length piece.proxies) chain) → bytes ≡ encoding (Chained piece.body (length piece.proxies) chain) → WritesList chain (proxies_bytes piece.proxies) was now → PutsProxies piece bytes was now
puts_chained piece bytes chain was now valid long numbers fits are writes = record {
  stored = Chained piece.body (length piece.proxies) chain;
  form = (refl, refl);
  are = are;
  valid = valid;
  numbers = fits;
  proxies_fit = numbers;
  was_none = λ c e. subst (λ (n : ℕ). was.lists n ≡ None) (some_same e) writes.was_none;
  changes = writes.changes;
  free = subst (λ (n : ℕ). was.free ≤ now.free + n) (ap chain_count (proxies_length piece.proxies) ∙ sym (pages_chained piece long)) writes.free;
}

-- Where its list lacks what the record says, the place holds no piece.
pub lacking_none : (held : Held) (place : RecordPlace) (body : Body) (count chain : ℕ) → IsStored held place (Chained body count chain) → LacksProxies held count chain → HoldsNone held place
lacking_none held place body count chain is lacks piece (inl h) = no_both piece body count chain (one_at held place (Inline piece) (Chained body count chain) h is)
lacking_none held place body count chain is lacks piece (inr h) =
    let e = one_at held place (Chained piece.body (length piece.proxies) h.chain) (Chained body count chain) h.stored is in
    let c : h.chain ≡ chain = chain_same piece.body body (length piece.proxies) count h.chain chain e in
    let n : length piece.proxies ≡ count = count_same piece.body body (length piece.proxies) count h.chain chain e in
    lacks piece.proxies n h.rooted (ap held.lists (sym c) ∙ h.list)

pub no_list_none : (held : Held) (place : RecordPlace) (stored : Stored) → IsStored held place stored → (HasList held stored → ⊥) → HoldsNone held place
no_list_none held place (Inline piece) is apart = absurd (apart tt)
no_list_none held place (Chained body count chain) is apart = λ piece h. apart (listed held place piece count chain h (body, is))

pub inline_few : (piece : Piece) (bytes : List ℕ) → IsValid (Inline piece) → bytes ≡ encoding (Inline piece) → length bytes ≤ 8176
inline_few piece bytes valid are =
    let fits : inline_length piece.body.roots (length piece.proxies) ≤ 8176 = valid.fits in
    subst (λ (n : ℕ). n ≤ 8176) (sym (ap length are ∙ inline_bytes piece)) fits

pub chained_few : (body : Body) (count chain : ℕ) (bytes : List ℕ) → IsValidBody body.roots count → bytes ≡ encoding (Chained body count chain) → length bytes ≤ 8176
chained_few body count chain bytes valid are =
    let fits : 16 + 8 * slots_in body.roots ≤ 6160 = body_fits body.roots count valid in
    let len : length bytes ≡ 16 + 8 * slots_in body.roots = ap length are ∙ chained_bytes body count chain in
    omega (arith, fits, len)

-- what doesn't fit inline has proxies
pub chained_some : (piece : Piece) → IsValidPiece piece → is_inline piece ≡ false → 1 ≤ length (proxies_bytes piece.proxies)
chained_some piece valid is = elim (inline_cases piece) [ inl h ↦ absurd (false≢true (sym is ∙ h.0)) | inr h ↦ some h.1 ]
  where
    some : longest_inline < inline_length piece.body.roots (length piece.proxies) → 1 ≤ length (proxies_bytes piece.proxies)
    some long =
        let fits : 16 + 8 * slots_in piece.body.roots ≤ 6160 = body_fits piece.body.roots (length piece.proxies) valid.body in
        let long : 8176 < 16 + 8 * slots_in piece.body.roots + 8 * length piece.proxies = long in
        let len : length (proxies_bytes piece.proxies) ≡ 8 * length piece.proxies = proxies_length piece.proxies in
        omega (arith, fits, long, len)

pub frees_chain : (body : Body) (count chain : ℕ) (was now : Held) → FreesList chain was now → FreesChain (Chained body count chain) was now
frees_chain body count chain was now frees = record {
  changes = frees.changes;
  free = let more : was.free + pages_of_list (was.lists chain) ≤ now.free = frees.free in omega (arith, more);
}

-- a record that names a list holds the proxies that were read where the list is there
pub chained_holds : (held : Held) (place : RecordPlace) (body : Body) (count chain : ℕ) (proxies : List Proxy) → IsStored held place (Chained body count chain) → length proxies ≡ count → HaveRoots proxies → HaveNumbers proxies
    → ((list : List ℕ) → held.lists chain ≡ Some list → list ≡ proxies_bytes proxies) → HasNamedList held place → HoldsPiece held place (record { body = body; proxies = proxies })
chained_holds held place body count chain proxies is counted rooted numbers read named = by_list (held.lists chain) refl (named count chain (body, is))
  where
    by_list : (o : Option (List ℕ)) → held.lists chain ≡ o → IsSome o → HoldsPiece held place (record { body = body; proxies = proxies })
    by_list None e some = absurd (not_some some)
      where
        not_some : IsSome {T = List ℕ} None → ⊥
        not_some h = cc
    by_list (Some list) e some = inr (record {
      chain = chain;
      stored = subst (λ (n : ℕ). IsStored held place (Chained body n chain)) (sym counted) is;
      list = e ∙ ap Some (read list e);
      rooted = rooted;
      numbers = numbers;
    })

-- its page was read, and the chain pages of its list
pub chained_pages : (reads mid all pages : ℕ) → mid ≤ reads + 1 → all ≤ mid + pages → all ≤ reads + (1 + pages)
chained_pages reads mid all pages one more = omega (arith, one, more)
