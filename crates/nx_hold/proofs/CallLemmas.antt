-- What the steps of a call on a piece come to.
use Rattle.std.proofs.Common.{◌≡◌, ℕ, ◌+◌, ◌<◌, ◌≤◌, false, List, Option, None, Some, sym, ap, ◌∙◌, subst, arith}
use Rattle.std.specs.Prelude.{◌*◌, length, MatchOption, IsSome}
use Rattle.nx_host.specs.declared.disk.Disk.{Ghosts}
use Rattle.nx_holdings.specs.Holdings.{Held, chain_count}
use Rattle.nx_records.specs.declared.records.Records.{Records}
use Rattle.nx_records.specs.declared.error.StoreError.{StoreError}
use Rattle.nx_records.specs.Records.{StandsFor, ComesTo}
use Rattle.nx_records.specs.Changes.{LacksList, AddsRecord, UpdatesRecord, RemovesRecord, ChangesList, update_needs}
use Rattle.nx_records.specs.Refusals.{NotChanged, NotStored}
use Rattle.nx_piece.specs.declared.piece.Body.{Body}
use Rattle.nx_piece.specs.declared.piece.Piece.{Piece}
use Rattle.nx_piece.specs.declared.piece.Stored.{Stored}
use Rattle.nx_piece.specs.declared.piece.Stored.TheVariants.{Chained}
use Rattle.nx_piece.specs.Encoding.{encoding, proxies_bytes}
use Rattle.nx_piece.specs.Valid.{IsValidPiece, is_inline, HaveNumbers, HasNumbers}
use Rattle.nx_layouts.specs.Layout.{RecordPlace}
use Rattle.nx_hold.specs.Pieces.{record_at, IsStored, NamesList, HasItsList, HoldsNone, MayName}
use Rattle.nx_hold.specs.Changes.{piece_needs, chain_pages, AddsPiece, UpdatesPiece, RemovesPiece, ComesOwn, ComesTidy, ComesTidyWhere}
use Rattle.nx_hold.specs.Putting.{HasList, FreesChain, PutsProxies}
use Rattle.nx_hold.proofs.PieceLemmas.{no_value}
use Rattle.nx_hold.proofs.TidyLemmas.{tidy_still, comes_at, may_come, listed}
use Rattle.nx_hold.proofs.PutLemmas.{adds_piece, free_of_add, updates_piece, updates_on_list, removes_piece, has_list, list_kept, list_kept_alone, no_list_none, records_at, few_needs}
use Rattle.nx_hold.proofs.RefusalLemmas.{GoesOn, goes_then, comes_then, later_changed, later_stored, store_more}

-- a list that was read is the one that is there
pub list_read : (A : Type 0) (o : Option (List ℕ)) (bytes list : List ℕ) → MatchOption o A (λ there. bytes ≡ there) → o ≡ Some list → bytes ≡ list
list_read A o bytes list read there = let are : MatchOption (Some list) A (λ there. bytes ≡ there) = subst (λ (x : Option (List ℕ)). MatchOption x A (λ there. bytes ≡ there)) there read in are

-- what update_piece has done before the old list goes
pub record IsUpdating (old new : RecordPlace) (piece : Piece) (bytes : List ℕ) (stored : Stored) (was now : Held) : Type 0 where
  pub was_is : IsStored was old stored
  pub mid : Held
  pub puts : PutsProxies piece bytes was mid
  pub updates : UpdatesRecord old.page old.slot bytes new.page new.slot mid now

-- ... and before the new record comes
pub record IsPutting (old : RecordPlace) (piece : Piece) (bytes : List ℕ) (stored : Stored) (was now : Held) : Type 0 where
  pub was_is : IsStored was old stored
  pub puts : PutsProxies piece bytes was now

-- what remove_piece has done before the old list goes
pub record IsRemoving (old : RecordPlace) (stored : Stored) (was now : Held) : Type 0 where
  pub was_is : IsStored was old stored
  pub removes : RemovesRecord old.page old.slot was now

-- nothing but that a record was read
abbrev pub IsReading : RecordPlace → Stored → Held → Held → Type 0
IsReading old stored was now = (now ≡ was) × IsStored was old stored

names_of : (held : Held) (place : RecordPlace) (stored : Stored) (count chain : ℕ) → ((body : Body) × (stored ≡ Chained body count chain)) → IsStored held place stored → NamesList held place count chain
names_of held place stored count chain names is = (names.0, subst (λ (s : Stored). IsStored held place s) names.1 is)

few_first : (was mid pages : ℕ) → mid ≡ was → mid < pages → was < 1 + pages
few_first was mid pages same few = omega (arith, same, few)

few_then : (was mid pages needs : ℕ) → was ≤ mid + pages → needs ≤ 1 → mid < needs → was < 1 + pages
few_then was mid pages needs free one few = omega (arith, free, one, few)

-- the record wasn't put
pub put_refused : {D : Type 0} (d : Ghosts D) (r0 r1 : Records) (x0 x1 : D) (old : RecordPlace) (piece : Piece) (bytes : List ℕ) (Before : Held → Type 0) (e : StoreError) → ((was : Held) → Before was → IsSome (record_at was old))
    → NotStored d (update_needs old.page old.slot bytes) (λ was. was.records old.page old.slot ≡ None) old.page e r0 r1 x0 x1 → NotStored d (λ was. piece_needs piece) (λ was. Before was → HoldsNone was old) old.page e r0 r1 x0 x1
put_refused d r0 r1 x0 x1 old piece bytes Before e there refused =
    store_more d old.page r0 r1 x0 x1 (λ was. was.records old.page old.slot ≡ None) (λ was. Before was → HoldsNone was old) (update_needs old.page old.slot bytes) (λ was. piece_needs piece)
    (λ was none before. absurd (not_some (subst IsSome none (there was before))))
    (λ was few. let one = few_needs (was.records old.page old.slot) bytes in omega (arith, one, few)) e refused
  where
    not_some : IsSome {T = List ℕ} None → ⊥
    not_some h = cc

module _ {D : Type 0} {d : Ghosts D} where
  -- a record came with the piece, whatever lists records name
  pub added_alone : {r0 r1 r2 : Records} {x0 x1 x2 : D} (piece : Piece) (bytes : List ℕ) (place : RecordPlace) → IsValidPiece piece → ComesTo d r0 r1 x0 x1 (λ was now. PutsProxies piece bytes was now)
      → ComesTo d r1 r2 x1 x2 (λ was now. AddsRecord place.page place.slot bytes was now) → ComesTo d r0 r2 x0 x2 (λ was now. AddsPiece place piece was now)
  added_alone {r0} {r1} {r2} piece bytes place valid puts adds =
      comes_then {r0 = r0} {r1 = r1} {r2 = r2} (λ was now. AddsPiece place piece was now) puts adds (λ was mid now one two. adds_piece place piece bytes was mid now valid one two)

  -- ... and where all lists are in order, they stay so
  pub added : {r0 r1 r2 : Records} {x0 x1 x2 : D} (piece : Piece) (bytes : List ℕ) (place : RecordPlace) → IsValidPiece piece → ComesTo d r0 r1 x0 x1 (λ was now. PutsProxies piece bytes was now)
      → ComesTo d r1 r2 x1 x2 (λ was now. AddsRecord place.page place.slot bytes was now)
      → ComesTidyWhere d r0 r2 x0 x2 (λ was. MayName was piece.body.roots) (λ was now. AddsPiece place piece was now)
  added {r0} {r1} {r2} piece bytes place valid puts adds saved was stands tidy may =
      let now = added_alone {r0 = r0} {r1 = r1} {r2 = r2} piece bytes place valid puts adds saved was stands in
      let add : AddsPiece place piece was now.0 = now.2 in
      (now.0, now.1, tidy_still tidy add.alone (comes_at now.0 place piece add.holds) (may_come was now.0 place piece add.holds may), add)

  -- so many fewer pages are free, whatever lists records name
  pub added_free : {r0 r1 r2 : Records} {x0 x1 x2 : D} (piece : Piece) (bytes : List ℕ) (place : RecordPlace) → ComesTo d r0 r1 x0 x1 (λ was now. PutsProxies piece bytes was now)
      → ComesTo d r1 r2 x1 x2 (λ was now. AddsRecord place.page place.slot bytes was now) → ComesTo d r0 r2 x0 x2 (λ was now. was.free ≤ now.free + piece_needs piece)
  added_free {r0} {r1} {r2} piece bytes place puts adds =
      comes_then {r0 = r0} {r1 = r1} {r2 = r2} (λ was now. was.free ≤ now.free + piece_needs piece) puts adds (λ was mid now one two. free_of_add was.free mid.free now.free (chain_pages piece) one.free two.free)

  -- no record was added behind the list of its proxies
  pub add_refused : {r0 r1 : Records} {x0 x1 : D} (r2 : Records) (x2 : D) (piece : Piece) (bytes : List ℕ) → GoesOn d r0 r1 x0 x1 (λ was now. PutsProxies piece bytes was now) → (e : StoreError) → NotStored d (λ was. 1) (λ was. ⊥) 0 e r1 r2 x1 x2
      → NotStored d (λ was. piece_needs piece) (λ was. ⊥) 0 e r0 r2 x0 x2
  add_refused {r0} {r1} {x0} {x1} r2 x2 piece bytes goes e refused =
      later_stored {d = d} {r0 = r0} {r1 = r1} {x0 = x0} {x1 = x1} goes (λ was. ⊥) (λ was. ⊥) 0 (λ was mid puts bad. bad) r2 x2 (λ was. 1) (λ was. piece_needs piece)
      (λ was mid puts few. few_then was.free mid.free (chain_pages piece) 1 puts.free (omega arith) few) e refused

  -- the list of proxies wasn't put, nor the record made
  pub bytes_refused : {r0 r1 : Records} {x0 x1 : D} {Told : Held → Type 0} (r2 : Records) (x2 : D) (piece : Piece) (named : ℕ) (Fewer : Held → Type 0) → GoesOn d r0 r1 x0 x1 (λ was now. (now ≡ was) × Told was) → (e : StoreError)
      → NotStored d (λ was. chain_pages piece) (λ was. ⊥) named e r1 r2 x1 x2 → NotStored d (λ was. piece_needs piece) Fewer named e r0 r2 x0 x2
  bytes_refused {r0} {r1} {x0} {x1} r2 x2 piece named Fewer goes e refused =
      later_stored {d = d} {r0 = r0} {r1 = r1} {x0 = x0} {x1 = x1} goes (λ was. ⊥) Fewer named (λ was mid same bad. absurd bad) r2 x2 (λ was. chain_pages piece) (λ was. piece_needs piece)
      (λ was mid same few. few_first was.free mid.free (chain_pages piece) (ap (λ (h : Held). h.free) same.0) few) e refused

  pub putting : {r0 r1 r2 : Records} {x0 x1 x2 : D} (old : RecordPlace) (piece : Piece) (bytes : List ℕ) (stored : Stored) → GoesOn d r0 r1 x0 x1 (IsReading old stored) → GoesOn d r1 r2 x1 x2 (λ was now. PutsProxies piece bytes was now)
      → GoesOn d r0 r2 x0 x2 (IsPutting old piece bytes stored)
  putting {r0} {r1} {r2} old piece bytes stored one two =
      goes_then {r0 = r0} {r1 = r1} {r2 = r2} (IsPutting old piece bytes stored) one two (λ was mid now read puts. record { was_is = read.1; puts = subst (λ (h : Held). PutsProxies piece bytes h now) read.0 puts })

  pub updating : {r0 r1 r2 : Records} {x0 x1 x2 : D} (old new : RecordPlace) (piece : Piece) (bytes : List ℕ) (stored : Stored) → GoesOn d r0 r1 x0 x1 (IsPutting old piece bytes stored)
      → GoesOn d r1 r2 x1 x2 (λ was now. UpdatesRecord old.page old.slot bytes new.page new.slot was now) → GoesOn d r0 r2 x0 x2 (IsUpdating old new piece bytes stored)
  updating {r0} {r1} {r2} old new piece bytes stored one two =
      goes_then {r0 = r0} {r1 = r1} {r2 = r2} (IsUpdating old new piece bytes stored) one two (λ was mid now puts updates. record { was_is = puts.was_is; mid = mid; puts = puts.puts; updates = updates })

  -- the record wasn't replaced
  pub update_refused : {r0 r1 : Records} {x0 x1 : D} (r2 : Records) (x2 : D) (old : RecordPlace) (piece : Piece) (bytes : List ℕ) (stored : Stored) → GoesOn d r0 r1 x0 x1 (IsPutting old piece bytes stored) → (e : StoreError)
      → NotStored d (update_needs old.page old.slot bytes) (λ was. was.records old.page old.slot ≡ None) old.page e r1 r2 x1 x2 → NotStored d (λ was. piece_needs piece) (λ was. HoldsNone was old) old.page e r0 r2 x0 x2
  update_refused {r0} {r1} {x0} {x1} r2 x2 old piece bytes stored goes e refused =
      later_stored {d = d} {r0 = r0} {r1 = r1} {x0 = x0} {x1 = x1} goes (λ was. was.records old.page old.slot ≡ None) (λ was. HoldsNone was old) old.page
      (λ was mid puts none. absurd (no_value (sym ((puts.was_is).bytes) ∙ sym (records_at was mid (((puts.puts).changes).records) old) ∙ none)))
      r2 x2 (update_needs old.page old.slot bytes) (λ was. piece_needs piece)
      (λ was mid puts few. few_then was.free mid.free (chain_pages piece) (update_needs old.page old.slot bytes mid) (puts.puts).free (few_needs (mid.records old.page old.slot) bytes) few) e refused

  -- the old list wasn't taken away
  pub free_refused : {r0 r1 : Records} {x0 x1 : D} (r2 : Records) (x2 : D) (old new : RecordPlace) (piece : Piece) (bytes : List ℕ) (stored : Stored) → GoesOn d r0 r1 x0 x1 (IsUpdating old new piece bytes stored) → (e : StoreError)
      → NotChanged d (λ was. HasList was stored → ⊥) old.page e r1 r2 x1 x2 → NotChanged d (λ was. HoldsNone was old) old.page e r0 r2 x0 x2
  free_refused {r0} {r1} {x0} {x1} r2 x2 old new piece bytes stored goes e refused =
      later_changed {d = d} {r0 = r0} {r1 = r1} {x0 = x0} {x1 = x1} goes (λ was. HasList was stored → ⊥) (λ was. HoldsNone was old) old.page
      (λ was next done no. no_list_none was old stored done.was_is (λ has. no (list_kept was done.mid next piece bytes stored done.puts ((done.updates).changes).lists has))) r2 x2 e refused

  pub updated : {r0 r1 r2 : Records} {x0 x1 x2 : D} (old new : RecordPlace) (piece : Piece) (bytes : List ℕ) (stored : Stored) → IsValidPiece piece → ComesTo d r0 r1 x0 x1 (IsUpdating old new piece bytes stored)
      → ((saved next : Held) → StandsFor d r1 x1 saved next → HasList next stored → (now : Held) × StandsFor d r2 x2 saved now × FreesChain stored next now) → ComesOwn d r0 r2 x0 x2 old (λ was now. UpdatesPiece old new piece was now)
  updated old new piece bytes stored valid comes frees saved was stands its =
      let next = comes saved was stands in
      let done : IsUpdating old new piece bytes stored was next.0 = next.2 in
      let has = has_list was old stored its done.was_is in
      let now = frees saved next.0 next.1 (list_kept was done.mid next.0 piece bytes stored done.puts ((done.updates).changes).lists has) in
      (now.0, now.1, updates_piece old new piece bytes stored was done.mid next.0 now.0 valid done.was_is has done.puts done.updates now.2)

  -- where all lists are in order, they stay so
  pub updated_tidy : {r0 r2 : Records} {x0 x2 : D} (old new : RecordPlace) (piece : Piece) → ComesOwn d r0 r2 x0 x2 old (λ was now. UpdatesPiece old new piece was now)
      → ComesTidyWhere d r0 r2 x0 x2 (λ was. MayName was piece.body.roots) (λ was now. UpdatesPiece old new piece was now)
  updated_tidy old new piece comes saved was stands tidy may =
      let now = comes saved was stands (tidy.there old) in
      (now.0, now.1, tidy_still tidy (now.2).alone (comes_at now.0 new piece (now.2).holds) (may_come was now.0 new piece (now.2).holds may), now.2)

  -- the record was put, and then the old record's list has its proxies
  pub updated_on_list : {r0 r1 r2 : Records} {x0 x1 x2 : D} (old new : RecordPlace) (piece : Piece) (bytes : List ℕ) (count chain : ℕ) → IsValidPiece piece → is_inline piece ≡ false → HaveNumbers piece.proxies
      → HasNumbers (Chained piece.body (length piece.proxies) chain)
      → bytes ≡ encoding (Chained piece.body (length piece.proxies) chain) → chain_count (8 * length piece.proxies) ≡ chain_count (8 * count)
      → ComesTo d r0 r1 x0 x1 (λ was now. UpdatesRecord old.page old.slot bytes new.page new.slot was now)
      → ((saved mid : Held) (list : List ℕ) → StandsFor d r1 x1 saved mid → mid.lists chain ≡ Some list → (now : Held) × StandsFor d r2 x2 saved now × ChangesList chain (proxies_bytes piece.proxies) mid now)
      → (saved was : Held) → StandsFor d r0 x0 saved was → NamesList was old count chain → HasItsList was old → (now : Held) × StandsFor d r2 x2 saved now × UpdatesPiece old new piece was now
  updated_on_list old new piece bytes count chain valid long fit number are pages comes changes saved was stands names its =
      let mid = comes saved was stands in
      let there = its count chain names in
      let now = changes saved mid.0 there.0 mid.1 (ap (λ (f : ℕ → Option (List ℕ)). f chain) ((mid.2).changes).lists ∙ there.1) in
      (now.0, now.1, updates_on_list old new piece bytes count chain was mid.0 now.0 valid long fit number are pages names its mid.2 now.2)

  -- the old record's list lacks its proxies
  pub on_list_refused : {r0 r1 : Records} {x0 x1 : D} (r2 : Records) (x2 : D) (old new : RecordPlace) (bytes : List ℕ) (count chain : ℕ) → GoesOn d r0 r1 x0 x1 (λ was now. UpdatesRecord old.page old.slot bytes new.page new.slot was now)
      → (e : StoreError) → NotChanged d (λ was. LacksList was chain (8 * count)) old.page e r1 r2 x1 x2 → NotChanged d (λ was. NamesList was old count chain → HoldsNone was old) old.page e r0 r2 x0 x2
  on_list_refused {r0} {r1} {x0} {x1} r2 x2 old new bytes count chain goes e refused =
      later_changed {d = d} {r0 = r0} {r1 = r1} {x0 = x0} {x1 = x1} goes (λ was. LacksList was chain (8 * count)) (λ was. NamesList was old count chain → HoldsNone was old) old.page
      (λ was mid updates lacks names piece holds.
      let there = listed was old piece count chain holds names in
      lacks there.0 (ap (λ (f : ℕ → Option (List ℕ)). f chain) (updates.changes).lists ∙ there.1) there.2) r2 x2 e refused

  -- a record that was read names a list, which was kept
  pub kept_own : {r0 r1 r2 : Records} {x0 x1 x2 : D} (old new : RecordPlace) (piece : Piece) (stored : Stored) (count chain : ℕ) → ((body : Body) × (stored ≡ Chained body count chain)) → GoesOn d r0 r1 x0 x1 (IsReading old stored)
      → ((saved now : Held) → StandsFor d r1 x1 saved now → NamesList now old count chain → HasItsList now old → (next : Held) × StandsFor d r2 x2 saved next × UpdatesPiece old new piece now next)
      → ComesOwn d r0 r2 x0 x2 old (λ was now. UpdatesPiece old new piece was now)
  kept_own old new piece stored count chain names reads updates saved was stands its =
      let mid = reads.comes saved was stands in
      let same : mid.0 ≡ was = mid.2.0 in
      let now = updates saved mid.0 mid.1 (subst (λ (h : Held). NamesList h old count chain) (sym same) (names_of was old stored count chain names mid.2.1)) (subst (λ (h : Held). HasItsList h old) (sym same) its) in
      (now.0, now.1, subst (λ (h : Held). UpdatesPiece old new piece h now.0) same now.2)

  pub kept_refused : {r0 r1 : Records} {x0 x1 : D} (r2 : Records) (x2 : D) (old : RecordPlace) (piece : Piece) (stored : Stored) (count chain : ℕ) → ((body : Body) × (stored ≡ Chained body count chain))
      → GoesOn d r0 r1 x0 x1 (IsReading old stored) → (e : StoreError) → NotStored d (λ was. piece_needs piece) (λ was. NamesList was old count chain → HoldsNone was old) old.page e r1 r2 x1 x2
      → NotStored d (λ was. piece_needs piece) (λ was. HoldsNone was old) old.page e r0 r2 x0 x2
  kept_refused {r0} {r1} {x0} {x1} r2 x2 old piece stored count chain names goes e refused =
      later_stored {d = d} {r0 = r0} {r1 = r1} {x0 = x0} {x1 = x1} goes (λ was. NamesList was old count chain → HoldsNone was old) (λ was. HoldsNone was old) old.page
      (λ was mid read lacks. subst (λ (h : Held). HoldsNone h old) read.0 (lacks (subst (λ (h : Held). NamesList h old count chain) (sym read.0) (names_of was old stored count chain names read.1))))
      r2 x2 (λ was. piece_needs piece) (λ was. piece_needs piece) (λ was mid read few. subst (λ (h : Held). h.free < piece_needs piece) read.0 few) e refused

  pub removing : {r0 r1 r2 : Records} {x0 x1 x2 : D} (old : RecordPlace) (stored : Stored) → GoesOn d r0 r1 x0 x1 (IsReading old stored) → GoesOn d r1 r2 x1 x2 (λ was now. RemovesRecord old.page old.slot was now)
      → GoesOn d r0 r2 x0 x2 (IsRemoving old stored)
  removing {r0} {r1} {r2} old stored one two =
      goes_then {r0 = r0} {r1 = r1} {r2 = r2} (IsRemoving old stored) one two (λ was mid now read removes. record { was_is = read.1; removes = subst (λ (h : Held). RemovesRecord old.page old.slot h now) read.0 removes })

  -- the record wasn't taken away
  pub remove_refused : {r0 r1 : Records} {x0 x1 : D} (r2 : Records) (x2 : D) (old : RecordPlace) (stored : Stored) → GoesOn d r0 r1 x0 x1 (IsReading old stored) → (e : StoreError)
      → NotChanged d (λ was. was.records old.page old.slot ≡ None) old.page e r1 r2 x1 x2 → NotChanged d (λ was. HoldsNone was old) old.page e r0 r2 x0 x2
  remove_refused {r0} {r1} {x0} {x1} r2 x2 old stored goes e refused =
      later_changed {d = d} {r0 = r0} {r1 = r1} {x0 = x0} {x1 = x1} goes (λ was. was.records old.page old.slot ≡ None) (λ was. HoldsNone was old) old.page
      (λ was mid read none. absurd (no_value (sym ((read.1).bytes) ∙ ap (λ (h : Held). record_at h old) (sym read.0) ∙ none))) r2 x2 e refused

  -- ... or its list
  pub list_refused : {r0 r1 : Records} {x0 x1 : D} (r2 : Records) (x2 : D) (old : RecordPlace) (stored : Stored) → GoesOn d r0 r1 x0 x1 (IsRemoving old stored) → (e : StoreError)
      → NotChanged d (λ was. HasList was stored → ⊥) old.page e r1 r2 x1 x2 → NotChanged d (λ was. HoldsNone was old) old.page e r0 r2 x0 x2
  list_refused {r0} {r1} {x0} {x1} r2 x2 old stored goes e refused =
      later_changed {d = d} {r0 = r0} {r1 = r1} {x0 = x0} {x1 = x1} goes (λ was. HasList was stored → ⊥) (λ was. HoldsNone was old) old.page
      (λ was next done no. no_list_none was old stored done.was_is (λ has. no (list_kept_alone was next stored ((done.removes).changes).lists has))) r2 x2 e refused

  pub removed : {r0 r1 r2 : Records} {x0 x1 x2 : D} (old : RecordPlace) (stored : Stored) → ComesTo d r0 r1 x0 x1 (IsRemoving old stored)
      → ((saved next : Held) → StandsFor d r1 x1 saved next → HasList next stored → (now : Held) × StandsFor d r2 x2 saved now × FreesChain stored next now) → ComesOwn d r0 r2 x0 x2 old (λ was now. RemovesPiece old was now)
  removed old stored comes frees saved was stands its =
      let next = comes saved was stands in
      let done : IsRemoving old stored was next.0 = next.2 in
      let has = has_list was old stored its done.was_is in
      let now = frees saved next.0 next.1 (list_kept_alone was next.0 stored ((done.removes).changes).lists has) in
      (now.0, now.1, removes_piece old stored was next.0 now.0 done.was_is done.removes now.2)

  pub removed_tidy : {r0 r2 : Records} {x0 x2 : D} (old : RecordPlace) → ComesOwn d r0 r2 x0 x2 old (λ was now. RemovesPiece old was now) → ComesTidy d r0 r2 x0 x2 (λ was now. RemovesPiece old was now)
  removed_tidy old comes saved was stands tidy =
      let now = comes saved was stands (tidy.there old) in
      (now.0, now.1, tidy_still tidy (now.2).alone (λ place e. absurd (no_value e)) (λ place e. absurd (no_value e)), now.2)
