-- A record breaks one rule first, and none where a further walk has reached it.
use Rattle.std.proofs.Common.{◌≡◌, ◌⊎◌, ℕ, ◌+◌, ◌<◌, ◌≤◌, List, [], ◌∷◌, ◌++◌, refl, sym, ap, ◌∙◌, subst, arith, inl, inr, append_assoc}
use Rattle.std.specs.Prelude.{Option, Some, None, Contains}
use Rattle.std.proofs.lemmas.List.Elements.{Contains-push, Contains-append_left, Contains-append_right, Contains-append_cases, Contains-push_cases}
use Rattle.nx_slots.specs.Slots.{IsSlotted}
use Rattle.nx_replay.specs.Log.{Pages}
use Rattle.nx_holdings.specs.Holdings.{record_in, Link, pages_of_links}
use Rattle.nx_holdings.proofs.ChainLemmas.{same_bytes}
use Rattle.nx_piece.specs.declared.piece.Far.{Far}
use Rattle.nx_piece.specs.declared.piece.Stored.{Stored}
use Rattle.nx_piece.specs.Decoded.{IsDecoded}
use Rattle.nx_piece.specs.Encoding.{encoding}
use Rattle.nx_piece.specs.Gapped.{gapped_size, gapped_width as body_width}
use Rattle.nx_piece.specs.Valid.{AreTrees}
use Rattle.nx_piece.proofs.Laws.{one_decoded}
use Rattle.nx_cuts.specs.Cut.{Bare, Grown, Kept, width}
use Rattle.nx_layouts.specs.Layout.{RecordPlace, ArePlacedOnce}
use Rattle.nx_rules.specs.declared.verdict.PageRule.{PageRule}
use Rattle.nx_rules.specs.declared.verdict.PageRule.TheVariants as rule
use Rattle.nx_rules.specs.Listed.{AreUsedOnce, IsSlottedPage, IsListOf}
use Rattle.nx_rules.specs.Walked.{Walked, walked_body, links_behind, Named, named_place, naming_page, IsRecordAt, lists_named, StandOn, HoldsRecord, AreRead}
use Rattle.nx_rules.specs.Tour.{Visit, all_reached, all_links, Tour, used_in, IsTour}
use Rattle.nx_rules.specs.Broken.{IsNewRecord, IsReadFirst, BreaksList, BreaksNamed, HasRoots, MayStand, BreaksMissing, BreaksSlotted, BreaksTwice, BreaksForm, BreaksChain, BreaksRoots, BreaksDocument, BreaksWeight}
use Rattle.nx_rules.proofs.FirstLemmas.{not_there, pages_append, front_once, list_kept, list_one_blame}
use Rattle.nx_rules.proofs.RecordLemmas.{stand_one, record_one, found_one}
use Rattle.nx_rules.proofs.MeetLemmas.{UpTo, IsSame, same_back, same_walk, waits_upto}
use Rattle.nx_rules.proofs.VisitLemmas.{HasTrees, has_trees, no_trees, VisitsAhead}

-- which rule a record breaks, and the page
abbrev pub Breaks : Pages → Tour → Visit → Named → PageRule → ℕ → Type 0
Breaks pages tour visit named rule.Missing page = BreaksMissing pages tour visit named page
Breaks pages tour visit named rule.Slotted page = BreaksSlotted pages tour visit named page
Breaks pages tour visit named rule.Twice page = BreaksTwice pages tour visit named page
Breaks pages tour visit named rule.Form page = BreaksForm pages tour visit named page
Breaks pages tour visit named rule.Chain page = BreaksChain pages tour visit named page
Breaks pages tour visit named rule.Roots page = BreaksRoots pages tour visit named page
Breaks pages tour visit named rule.Document page = BreaksDocument pages tour visit named page
Breaks pages tour visit named rule.Weight page = BreaksWeight pages tour visit named page
Breaks pages tour visit named _ page = ⊥

-- the record isn't found, it was reached, it is no piece, its chain breaks, or it was read
abbrev pub Lacks : Pages → Named → PageRule → ℕ → Type 0
Lacks pages named r page =
    ((r ≡ rule.Missing) × (page ≡ naming_page named.by) × ((pages named.proxy.page ≡ None) ⊎ ((bytes : List ℕ) × IsSlottedPage pages named.proxy.page bytes × (record_in (Some bytes) named.proxy.slot ≡ None))))
    ⊎ ((r ≡ rule.Slotted) × (page ≡ named.proxy.page) × ((bytes : List ℕ) × (pages named.proxy.page ≡ Some bytes) × (IsSlotted bytes → ⊥)))

abbrev pub IsTwice : Pages → Tour → Named → PageRule → ℕ → Type 0
IsTwice pages tour named r page = (r ≡ rule.Twice) × (page ≡ named.proxy.page) × ((bytes : List ℕ) × IsRecordAt pages (named_place named) bytes × Contains (all_reached tour.visits) (named_place named))

abbrev pub HasNoForm : Pages → Tour → Named → PageRule → ℕ → Type 0
HasNoForm pages tour named r page = (r ≡ rule.Form) × (page ≡ named.proxy.page) × ((bytes : List ℕ) × IsNewRecord pages tour named bytes × IsDecoded bytes None)

abbrev pub HasNoChain : Pages → Tour → Named → PageRule → ℕ → Type 0
HasNoChain pages tour named r page =
    (r ≡ rule.Chain) × ((bytes : List ℕ) × (stored : Stored) × IsNewRecord pages tour named bytes × IsDecoded bytes (Some stored) × BreaksNamed pages (used_in tour) named.proxy.page (lists_named stored) page)

abbrev pub IsMisread : Pages → Tour → Visit → Named → PageRule → Walked → List (List Link) → Type 0
IsMisread pages tour visit named r new links =
    ((r ≡ rule.Roots) × (HasRoots named new → ⊥)) ⊎ (((r ≡ rule.Document) × HasRoots named new × (MayStand named visit links new → ⊥))
    ⊎ ((r ≡ rule.Weight) × HasRoots named new × MayStand named visit links new × (tour.head.settings.k < gapped_size (walked_body new))))

abbrev pub WasRead : Pages → Tour → Visit → Named → PageRule → ℕ → Type 0
WasRead pages tour visit named r page = (page ≡ named.proxy.page) × ((links : List (List Link)) × (new : Walked) × IsReadFirst pages tour named links new × IsMisread pages tour visit named r new links)

abbrev pub Ladder : Pages → Tour → Visit → Named → PageRule → ℕ → Type 0
Ladder pages tour visit named r page =
    Lacks pages named r page ⊎ (IsTwice pages tour named r page ⊎ (HasNoForm pages tour named r page ⊎ (HasNoChain pages tour named r page ⊎ WasRead pages tour visit named r page)))

pub on_ladder : (pages : Pages) (tour : Tour) (visit : Visit) (named : Named) (r : PageRule) (page : ℕ) → Breaks pages tour visit named r page → Ladder pages tour visit named r page
on_ladder pages tour visit named rule.Missing page h = inl (inl (refl, h.0, h.1))
on_ladder pages tour visit named rule.Slotted page h = inl (inr (refl, h.0, h.1))
on_ladder pages tour visit named rule.Twice page h = inr (inl (refl, h.0, h.1))
on_ladder pages tour visit named rule.Form page h = inr (inr (inl (refl, h.0, h.1)))
on_ladder pages tour visit named rule.Chain page h = inr (inr (inr (inl (refl, h))))
on_ladder pages tour visit named rule.Roots page h = inr (inr (inr (inr (h.0, (h.1.0, h.1.1, h.1.2, inl (refl, h.1.3))))))
on_ladder pages tour visit named rule.Document page h = inr (inr (inr (inr (h.0, (h.1.0, h.1.1, h.1.2, inr (inl (refl, h.1.3, h.1.4)))))))
on_ladder pages tour visit named rule.Weight page h = inr (inr (inr (inr (h.0, (h.1.0, h.1.1, h.1.2, inr (inr (refl, h.1.3, h.1.4, h.1.5)))))))
on_ladder pages tour visit named rule.Header page h = absurd h
on_ladder pages tour visit named rule.Free page h = absurd h
on_ladder pages tour visit named rule.Catalog page h = absurd h
on_ladder pages tour visit named rule.Nodes page h = absurd h
on_ladder pages tour visit named rule.Unused page h = absurd h

some_value : {A : Type 0} {x : A} {o : Option A} → o ≡ Some x → o ≡ None → ⊥
some_value {o = o} e f = let same = sym e ∙ f in absurd (cc same)

-- a record that is found isn't lacking
pub lacks_found : (pages : Pages) (named : Named) (r : PageRule) (page : ℕ) (bytes : List ℕ) → Lacks pages named r page → IsRecordAt pages (named_place named) bytes → ⊥
lacks_found pages named r page bytes (inl a) h =
    elim a.2 [
      | inl none ↦ not_there (pages named.proxy.page) h.slotted.there none
      | inr x ↦
          let same : x.0 ≡ h.page = same_bytes x.0 h.page (pages named.proxy.page) x.1.there h.slotted.there in
          some_value h.there (ap (λ (b : List ℕ). record_in (Some b) named.proxy.slot) (sym same) ∙ x.2)
    ]
lacks_found pages named r page bytes (inr a) h =
    let same : a.2.0 ≡ h.page = same_bytes a.2.0 h.page (pages named.proxy.page) a.2.1 h.slotted.there in
    a.2.2 (subst (λ (b : List ℕ). IsSlotted b) (sym same) h.slotted.slotted)

-- ... and one that lacks lacks in one way
lacks_one : (pages : Pages) (named : Named) (r s : PageRule) (page other : ℕ) → Lacks pages named r page → Lacks pages named s other → (r ≡ s) × (page ≡ other)
lacks_one pages named r s page other (inl a) (inl b) = (a.0 ∙ sym b.0, a.1 ∙ sym b.1)
lacks_one pages named r s page other (inl a) (inr b) =
    absurd (elim a.2 [
      | inl none ↦ not_there (pages named.proxy.page) b.2.1 none
      | inr x ↦ b.2.2 (subst (λ (l : List ℕ). IsSlotted l) (same_bytes x.0 b.2.0 (pages named.proxy.page) x.1.there b.2.1) x.1.slotted)
    ])
lacks_one pages named r s page other (inr a) (inl b) =
    absurd (elim b.2 [
      | inl none ↦ not_there (pages named.proxy.page) a.2.1 none
      | inr x ↦ a.2.2 (subst (λ (l : List ℕ). IsSlotted l) (same_bytes x.0 a.2.0 (pages named.proxy.page) x.1.there a.2.1) x.1.slotted)
    ])
lacks_one pages named r s page other (inr a) (inr b) = (a.0 ∙ sym b.0, a.1 ∙ sym b.1)

-- a record that is decoded, which those are that hold something
holds_decoded : {pages : Pages} {place : RecordPlace} {members : Walked} {chains : List (List Link)} (h : HoldsRecord pages place members chains) → IsDecoded (encoding h.stored) (Some h.stored)
holds_decoded h = (h.there.valid, h.there.numbers, refl)

pub holds_form : {pages : Pages} {place : RecordPlace} {members : Walked} {chains : List (List Link)} {bytes : List ℕ} → IsRecordAt pages place bytes → IsDecoded bytes None → HoldsRecord pages place members chains → ⊥
holds_form {bytes = bytes} found none h = none h.stored h.there.valid (found_one found h.there.found)

-- Lists that a record names.

pub behind_append : (cs ds : List (List Link)) → links_behind (cs ++ ds) ≡ links_behind cs ++ links_behind ds
behind_append [] ds = refl
behind_append (c ∷ cs) ds = ap (λ l. c ++ l) (behind_append cs ds) ∙ sym (append_assoc c (links_behind cs) (links_behind ds))

-- the chain pages of one list among those of others
record IsAmongLists (pages : Pages) (before : List Far) (far : Far) (chains : List (List Link)) : Type 0 where
  front : List (List Link)
  here : List Link
  rest : List (List Link)
  are : chains ≡ front ++ here ∷ rest
  stand : StandOn pages before front
  list : IsListOf pages [] far.first far.length here

stand_split : (pages : Pages) (before : List Far) (far : Far) (after : List Far) (chains : List (List Link)) → StandOn pages (before ++ far ∷ after) chains → IsAmongLists pages before far chains
stand_split pages [] far after [] h = absurd h
stand_split pages [] far after (c ∷ cs) h = record { front = []; here = c; rest = cs; are = refl; stand = tt; list = h.0 }
stand_split pages (f ∷ before) far after [] h = absurd h
stand_split pages (f ∷ before) far after (c ∷ cs) h =
    let r = stand_split pages before far after cs h.1 in
    record { front = c ∷ r.front; here = r.here; rest = r.rest; are = ap (λ (l : List (List Link)). c ∷ l) r.are; stand = (h.0, r.stand); list = r.list }

-- lists that stand on chain pages that nothing else uses aren't broken
pub named_kept : (pages : Pages) (used : List ℕ) (by : ℕ) (lists : List Far) (page : ℕ) (chains : List (List Link)) → StandOn pages lists chains → AreUsedOnce (used ++ pages_of_links (links_behind chains)) → BreaksNamed pages used by lists page → ⊥
named_kept pages used by lists page chains stand once b =
    let r = stand_split pages b.before b.far b.after chains (subst (λ (l : List Far). StandOn pages l chains) b.are stand) in
    let same : r.front ≡ b.chains = stand_one pages b.before r.front b.chains r.stand b.stand in
    let front = links_behind r.front in
    let split : links_behind chains ≡ (front ++ r.here) ++ links_behind r.rest = ap links_behind r.are ∙ behind_append r.front (r.here ∷ r.rest) ∙ sym (append_assoc front r.here (links_behind r.rest)) in
    let part : AreUsedOnce (used ++ pages_of_links (front ++ r.here)) = front_once used (front ++ r.here) (links_behind r.rest) (subst (λ (l : List Link). AreUsedOnce (used ++ pages_of_links l)) split once) in
    let apart : used ++ pages_of_links (front ++ r.here) ≡ (used ++ pages_of_links front) ++ pages_of_links r.here =
    ap (λ (l : List ℕ). used ++ l) (pages_append front r.here) ∙ sym (append_assoc used (pages_of_links front) (pages_of_links r.here)) in
    let alone : AreUsedOnce ((used ++ pages_of_links front) ++ pages_of_links r.here) = subst (λ (l : List ℕ). AreUsedOnce l) apart part in
    let there : AreUsedOnce ((used ++ pages_of_links (links_behind b.chains)) ++ pages_of_links r.here) = subst (λ (cs : List (List Link)). AreUsedOnce ((used ++ pages_of_links (links_behind cs)) ++ pages_of_links r.here)) same alone in
    list_kept pages [] (used ++ pages_of_links (links_behind b.chains)) by b.far.first b.far.length page r.here r.list there b.breaks

-- one list split in two ways: at one place, or at one before the other
two_splits : {A : Type 0} (xs ys : List A) (x y : A) (r s : List A) → xs ++ x ∷ r ≡ ys ++ y ∷ s
    → ((xs ≡ ys) × (x ≡ y)) ⊎ (((z : List A) × (ys ≡ xs ++ x ∷ z)) ⊎ ((z : List A) × (xs ≡ ys ++ y ∷ z)))
two_splits [] [] x y r s e = inl (refl, cc)
two_splits [] (w ∷ ys) x y r s e = let same : w ≡ x = cc in inr (inl (ys, ap (λ v. v ∷ ys) same))
two_splits (v ∷ xs) [] x y r s e = let same : v ≡ y = cc in inr (inr (xs, ap (λ w. w ∷ xs) same))
two_splits (v ∷ xs) (w ∷ ys) x y r s e =
    let rest : xs ++ x ∷ r ≡ ys ++ y ∷ s = cc in
    let first : v ≡ w = cc in
    elim (two_splits xs ys x y r s rest) [
      | inl same ↦ inl ((let more : xs ≡ ys = same.0 in cc), same.1)
      | inr longer ↦ elim longer [
        | inl on ↦ inr (inl (on.0, (let more : ys ≡ xs ++ x ∷ on.0 = on.1 in cc)))
        | inr on ↦ inr (inr (on.0, (let more : xs ≡ ys ++ y ∷ on.0 = on.1 in cc)))
      ]
    ]

-- of some lists one breaks first, at one page
pub named_one : (pages : Pages) (used : List ℕ) (by : ℕ) (lists : List Far) (page other : ℕ) → BreaksNamed pages used by lists page → BreaksNamed pages used by lists other → page ≡ other
named_one pages used by lists page other a b =
    elim (two_splits a.before b.before a.far b.far a.after b.after (sym a.are ∙ b.are)) [
      | inl same ↦
          let stand : StandOn pages b.before a.chains = subst (λ (l : List Far). StandOn pages l a.chains) same.0 a.stand in
          let chains : a.chains ≡ b.chains = stand_one pages b.before a.chains b.chains stand b.stand in
          let mine = subst (λ (f : Far). BreaksList pages (used ++ pages_of_links (links_behind a.chains)) by f.first f.length page) same.1 a.breaks in
          let here = subst (λ (cs : List (List Link)). BreaksList pages (used ++ pages_of_links (links_behind cs)) by b.far.first b.far.length page) chains mine in
          list_one_blame pages (used ++ pages_of_links (links_behind b.chains)) by b.far.first b.far.length page other here b.breaks
      | inr longer ↦ elim longer [
        | inl on ↦ absurd (named_kept pages used by b.before page b.chains b.stand b.once (record { before = a.before; far = a.far; after = on.0; are = on.1; chains = a.chains; stand = a.stand; once = a.once; breaks = a.breaks }))
        | inr on ↦ absurd (named_kept pages used by a.before other a.chains a.stand a.once (record { before = b.before; far = b.far; after = on.0; are = on.1; chains = b.chains; stand = b.stand; once = b.once; breaks = b.breaks }))
      ]
    ]

-- where a record names a list that breaks, it holds nothing over chain pages that no other list uses
pub holds_chain : {pages : Pages} {place : RecordPlace} {members : Walked} {chains : List (List Link)} (used bytes : List ℕ) (stored : Stored) (by page : ℕ) → IsRecordAt pages place bytes → IsDecoded bytes (Some stored)
    → BreaksNamed pages used by (lists_named stored) page → HoldsRecord pages place members chains → AreUsedOnce (used ++ pages_of_links (links_behind chains)) → ⊥
holds_chain {pages} {chains = chains} used bytes stored by page found decoded breaks h once =
    let same : encoding h.stored ≡ bytes = found_one h.there.found found in
    let also : IsDecoded bytes (Some h.stored) = subst (λ (b : List ℕ). IsDecoded b (Some h.stored)) same (holds_decoded h) in
    let one : Some h.stored ≡ Some stored = one_decoded bytes (Some h.stored) (Some stored) also decoded in
    let e : h.stored ≡ stored = cc one in
    named_kept pages used by (lists_named stored) page chains (subst (λ (s : Stored). StandOn pages (lists_named s) chains) e h.stand) once breaks

-- trees of a record stand beside each other as they do in its bytes
pub width_trees : (w : Walked) → AreTrees (walked_body w) → width w ≡ body_width (walked_body w)
width_trees Bare h = refl
width_trees (Grown n b s) h = ap (λ k. 1 + k) (width_trees s h)
width_trees (Kept x b s) h = absurd (no_trees (walked_body s) h)

same_width : (a b : Walked) → HasTrees (walked_body a) → HasTrees (walked_body b) → walked_body a ≡ walked_body b → width a ≡ width b
same_width a b h g e = width_trees a h.trees ∙ ap body_width e ∙ sym (width_trees b g.trees)

-- what was read of a record is one thing
read_one : {pages : Pages} {tour : Tour} {named : Named} {ls ms : List (List Link)} {a b : Walked} → IsReadFirst pages tour named ls a → IsReadFirst pages tour named ms b → (ls ≡ ms) × (a ≡ b)
read_one {pages} {tour} {named} {ls} {ms} {a} {b} h g =
    let one = record_one a b ls ms h.holds g.holds in
    let there : IsSame a b = record { body = one.roots; proxies = one.proxies; contents = one.contents } in
    let back : IsSame b a = same_back there in
    (one.chains, same_walk a b (waits_upto pages a b there h.read g.read h.wait) (waits_upto pages b a back g.read h.read g.wait))

misread_one : (pages : Pages) (tour : Tour) (visit : Visit) (named : Named) (r s : PageRule) (links : List (List Link)) (new : Walked) → IsMisread pages tour visit named r new links → IsMisread pages tour visit named s new links → r ≡ s
misread_one pages tour visit named r s links new (inl a) (inl b) = a.0 ∙ sym b.0
misread_one pages tour visit named r s links new (inl a) (inr (inl b)) = absurd (a.1 b.1)
misread_one pages tour visit named r s links new (inl a) (inr (inr b)) = absurd (a.1 b.1)
misread_one pages tour visit named r s links new (inr (inl a)) (inl b) = absurd (b.1 a.1)
misread_one pages tour visit named r s links new (inr (inl a)) (inr (inl b)) = a.0 ∙ sym b.0
misread_one pages tour visit named r s links new (inr (inl a)) (inr (inr b)) = absurd (a.2 b.2)
misread_one pages tour visit named r s links new (inr (inr a)) (inl b) = absurd (b.1 a.1)
misread_one pages tour visit named r s links new (inr (inr a)) (inr (inl b)) = absurd (b.2 a.2)
misread_one pages tour visit named r s links new (inr (inr a)) (inr (inr b)) = a.0 ∙ sym b.0

module _ (pages : Pages) (tour : Tour) (visit : Visit) (named : Named) where
  -- a later rung of the ladder finds the record, and finds it new
  abbrev Third : PageRule → ℕ → Type 0
  Third r page = HasNoChain pages tour named r page ⊎ WasRead pages tour visit named r page

  abbrev Second : PageRule → ℕ → Type 0
  Second r page = HasNoForm pages tour named r page ⊎ Third r page

  abbrev First : PageRule → ℕ → Type 0
  First r page = IsTwice pages tour named r page ⊎ Second r page

  third_new : (r : PageRule) (page : ℕ) → Third r page → (bytes : List ℕ) × IsNewRecord pages tour named bytes
  third_new r page (inl a) = (a.1.0, a.1.2)
  third_new r page (inr a) = (encoding a.1.2.holds.stored, record { found = a.1.2.holds.there.found; fresh = a.1.2.fresh })

  second_new : (r : PageRule) (page : ℕ) → Second r page → (bytes : List ℕ) × IsNewRecord pages tour named bytes
  second_new r page (inl a) = (a.2.0, a.2.1)
  second_new r page (inr a) = third_new r page a

  first_found : (r : PageRule) (page : ℕ) → First r page → (bytes : List ℕ) × IsRecordAt pages (named_place named) bytes
  first_found r page (inl a) = (a.2.0, a.2.1)
  first_found r page (inr a) = let x = second_new r page a in (x.0, x.1.found)

  same_chain : (r s : PageRule) (page other : ℕ) → HasNoChain pages tour named r page → HasNoChain pages tour named s other → (r ≡ s) × (page ≡ other)
  same_chain r s page other a b =
      let bytes : a.1.0 ≡ b.1.0 = found_one a.1.2.found b.1.2.found in
      let also = subst (λ (x : List ℕ). IsDecoded x (Some a.1.1)) bytes a.1.3 in
      let one = one_decoded b.1.0 (Some a.1.1) (Some b.1.1) also b.1.3 in
      let same : a.1.1 ≡ b.1.1 = cc one in
      let breaks : BreaksNamed pages (used_in tour) named.proxy.page (lists_named b.1.1) page = subst (λ (x : Stored). BreaksNamed pages (used_in tour) named.proxy.page (lists_named x) page) same a.1.4 in
      (a.0 ∙ sym b.0, named_one pages (used_in tour) named.proxy.page (lists_named b.1.1) page other breaks b.1.4)

  chain_read : (r s : PageRule) (page other : ℕ) → HasNoChain pages tour named r page → WasRead pages tour visit named s other → ⊥
  chain_read r s page other a b = holds_chain (used_in tour) a.1.0 a.1.1 named.proxy.page page a.1.2.found a.1.3 a.1.4 b.1.2.holds b.1.2.unused

  same_read : (r s : PageRule) (page other : ℕ) → WasRead pages tour visit named r page → WasRead pages tour visit named s other → (r ≡ s) × (page ≡ other)
  same_read r s page other a b =
      let one = read_one a.1.2 b.1.2 in
      let mine = subst (λ (w : Walked). IsMisread pages tour visit named r w b.1.0) one.1 (subst (λ (l : List (List Link)). IsMisread pages tour visit named r a.1.1 l) one.0 a.1.3) in
      (misread_one pages tour visit named r s b.1.0 b.1.1 mine b.1.3, a.0 ∙ sym b.0)

  same_third : (r s : PageRule) (page other : ℕ) → Third r page → Third s other → (r ≡ s) × (page ≡ other)
  same_third r s page other (inl a) (inl b) = same_chain r s page other a b
  same_third r s page other (inl a) (inr b) = absurd (chain_read r s page other a b)
  same_third r s page other (inr a) (inl b) = absurd (chain_read s r other page b a)
  same_third r s page other (inr a) (inr b) = same_read r s page other a b

  form_third : (r s : PageRule) (page other : ℕ) → HasNoForm pages tour named r page → Third s other → ⊥
  form_third r s page other a (inl b) =
      let bytes : b.1.0 ≡ a.2.0 = found_one b.1.2.found a.2.1.found in
      let no = one_decoded a.2.0 None (Some b.1.1) a.2.2 (subst (λ (x : List ℕ). IsDecoded x (Some b.1.1)) bytes b.1.3) in
      absurd (cc no)
  form_third r s page other a (inr b) = holds_form a.2.1.found a.2.2 b.1.2.holds

  same_second : (r s : PageRule) (page other : ℕ) → Second r page → Second s other → (r ≡ s) × (page ≡ other)
  same_second r s page other (inl a) (inl b) = (a.0 ∙ sym b.0, a.1 ∙ sym b.1)
  same_second r s page other (inl a) (inr b) = absurd (form_third r s page other a b)
  same_second r s page other (inr a) (inl b) = absurd (form_third s r other page b a)
  same_second r s page other (inr a) (inr b) = same_third r s page other a b

  same_first : (r s : PageRule) (page other : ℕ) → First r page → First s other → (r ≡ s) × (page ≡ other)
  same_first r s page other (inl a) (inl b) = (a.0 ∙ sym b.0, a.1 ∙ sym b.1)
  same_first r s page other (inl a) (inr b) = absurd ((second_new s other b).1.fresh a.2.2)
  same_first r s page other (inr a) (inl b) = absurd ((second_new r page a).1.fresh b.2.2)
  same_first r s page other (inr a) (inr b) = same_second r s page other a b

  same_ladder : (r s : PageRule) (page other : ℕ) → Ladder pages tour visit named r page → Ladder pages tour visit named s other → (r ≡ s) × (page ≡ other)
  same_ladder r s page other (inl a) (inl b) = lacks_one pages named r s page other a b
  same_ladder r s page other (inl a) (inr b) = let x = first_found s other b in absurd (lacks_found pages named r page x.0 a x.1)
  same_ladder r s page other (inr a) (inl b) = let x = first_found r page a in absurd (lacks_found pages named s other x.0 b x.1)
  same_ladder r s page other (inr a) (inr b) = same_first r s page other a b

  -- a record breaks one rule first, and one page is to blame
  pub one_break : (r s : PageRule) (page other : ℕ) → Breaks pages tour visit named r page → Breaks pages tour visit named s other → (r ≡ s) × (page ≡ other)
  one_break r s page other a b = same_ladder r s page other (on_ladder pages tour visit named r page a) (on_ladder pages tour visit named s other b)

placed_apart : (xs ys : List RecordPlace) (x : RecordPlace) → ArePlacedOnce (xs ++ x ∷ ys) → Contains xs x → ⊥
placed_apart [] ys x once h = absurd (let n : h.0 < 0 = h.1 in omega (arith, n))
placed_apart (y ∷ xs) ys x once h =
    elim (Contains-append_cases (y ∷ []) xs x h) [
      | inl first ↦ elim (Contains-push_cases [] y x first) [
        | inl none ↦ absurd (let n : none.0 < 0 = none.1 in omega (arith, n))
        | inr same ↦ once.0 (subst (λ (z : RecordPlace). Contains (xs ++ x ∷ ys) z) (sym same) (Contains-append_right xs (x ∷ ys) x (Contains-append_left (x ∷ []) ys x (Contains-push [] x))))
      ]
      | inr rest ↦ placed_apart xs ys x once.1 rest
    ]

chains_once : (pages : Pages) (tour later : Tour) → IsTour pages later → (links others : List Link) → later.catalog ≡ tour.catalog → all_links later.visits ≡ all_links tour.visits ++ (links ++ others)
    → AreUsedOnce (used_in tour ++ pages_of_links links)
chains_once pages tour later kept links others catalog e =
    let c = tour.catalog in
    let l = all_links tour.visits in
    let all : later.catalog ++ all_links later.visits ≡ ((c ++ l) ++ links) ++ others =
    ap (λ x. x ++ all_links later.visits) catalog ∙ ap (λ x. c ++ x) e ∙ sym (append_assoc c l (links ++ others)) ∙ sym (append_assoc (c ++ l) links others) in
    let once : AreUsedOnce ([] ++ pages_of_links (((c ++ l) ++ links) ++ others)) = subst (λ x. AreUsedOnce (pages_of_links x)) all kept.lists_once in
    subst (λ x. AreUsedOnce x) (pages_append (c ++ l) links) (front_once [] ((c ++ l) ++ links) others once)

read_kept : (pages : Pages) (tour : Tour) (visit : Visit) (named : Named) (r : PageRule) (links : List (List Link)) (members : Walked) → HoldsRecord pages (named_place named) members links
    → AreRead pages members → gapped_size (walked_body members) ≤ tour.head.settings.k → width members ≡ named.proxy.roots
    → ((new : Walked) → UpTo new members → MayStand named visit links new) → (ls : List (List Link)) (new : Walked) → IsReadFirst pages tour named ls new → IsMisread pages tour visit named r new ls → ⊥
read_kept pages tour visit named r links members holds read light roots stands ls new is broken =
    let one = record_one new members ls links is.holds holds in
    let same : IsSame new members = record { body = one.roots; proxies = one.proxies; contents = one.contents } in
    let wide : width new ≡ named.proxy.roots = same_width new members (has_trees is.holds) (has_trees holds) one.roots ∙ roots in
    let may : MayStand named visit ls new = subst (λ (l : List (List Link)). MayStand named visit l new) (sym one.chains) (stands new (waits_upto pages new members same is.read read is.wait)) in
    let size : gapped_size (walked_body new) ≡ gapped_size (walked_body members) = ap gapped_size one.roots in
    elim broken [
      | inl a ↦ a.1 (inr wide)
      | inr x ↦ elim x [
        | inl a ↦ a.2 may
        | inr a ↦ let heavy : tour.head.settings.k < gapped_size (walked_body new) = a.3 in omega (arith, heavy, size, light)
      ]
    ]

-- A further walk has reached the record, so it breaks no rule.
pub record_kept : (pages : Pages) (tour later : Tour) (visit : Visit) (named : Named) (r : PageRule) (page : ℕ) → IsTour pages later → later.catalog ≡ tour.catalog → later.head ≡ tour.head
    → VisitsAhead pages tour.head.settings.k tour.visits later.visits visit named → Breaks pages tour visit named r page → ⊥
record_kept pages tour later visit named r page kept catalog head h broken =
    let once : ArePlacedOnce (all_reached tour.visits ++ named_place named ∷ h.places) = subst (λ l. ArePlacedOnce l) h.reached kept.once in
    let chains : AreUsedOnce (used_in tour ++ pages_of_links (links_behind h.links)) = chains_once pages tour later kept (links_behind h.links) h.others catalog h.chains in
    elim (on_ladder pages tour visit named r page broken) [
      | inl a ↦ lacks_found pages named r page (encoding h.holds.stored) a h.holds.there.found
      | inr x ↦ elim x [
        | inl a ↦ placed_apart (all_reached tour.visits) h.places (named_place named) once a.2.2
        | inr y ↦ elim y [
          | inl a ↦ holds_form a.2.1.found a.2.2 h.holds
          | inr z ↦ elim z [
            | inl a ↦ holds_chain (used_in tour) a.1.0 a.1.1 named.proxy.page page a.1.2.found a.1.3 a.1.4 h.holds chains
            | inr a ↦ read_kept pages tour visit named r h.links h.members h.holds h.read h.light h.roots h.stands a.1.0 a.1.1 a.1.2 a.1.3
          ]
        ]
      ]
    ]
