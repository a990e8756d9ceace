-- Pages that keep all rules are sound.
use Rattle.std.proofs.Common.{◌≡◌, ◌⊎◌, ℕ, ◌+◌, ◌-◌, ◌*◌, ◌<◌, ◌≤◌, true, false, List, [], ◌∷◌, ◌++◌, length, length-append, Option, Some, None, refl, sym, ap, ◌∙◌, subst, arith, inl, inr, append_assoc, append-nil}
use Rattle.std.specs.Prelude.{◌==◌, if◌then◌else◌, slice_index, Bool}
use Rattle.std.proofs.lemmas.Bool.{false≢true, eq-eqb, cases_Bool, cases_lt, eqb-true}
use Rattle.nx_numbers.specs.Sizes.{page_room}
use Rattle.nx_chain.specs.Chain.{chain_bytes}
use Rattle.nx_replay.specs.Log.{Pages}
use Rattle.nx_holdings.specs.declared.header.Header.{Header}
use Rattle.nx_holdings.specs.Header.{header_bytes}
use Rattle.nx_holdings.specs.Holdings.{times, free_bytes, record_in, IsFreeList, Link, IsLink, next_of, AreLinked, Chain, links_of, content_of, pages_of_links, pages_of_chains, list_at, pages_at, IsUsed, Shares, IsShared, Held, HoldsBy}
use Rattle.nx_holdings.proofs.DenseLemmas.{AreChains}
use Rattle.nx_holdings.proofs.ChainLemmas.{same_bytes}
use Rattle.nx_holdings.proofs.HeldLemmas.{header_kind, free_kind, chain_kind}
use Rattle.nx_holdings.proofs.TimesLemmas.{times-cons, times-append, times_one, times_other, same_page, free_there, chain_there}
use Rattle.nx_links.specs.Beside.{chains_with}
use Rattle.nx_piece.specs.declared.piece.Far.{Far}
use Rattle.std.specs.Prelude.{All}
use Rattle.std.proofs.lemmas.List.Elements.{All-head, All-tail}
use Rattle.nx_cuts.specs.Cut.{Bare, Grown, Kept}
use Rattle.nx_rules.specs.Listed.{IsSlottedPage, AreFreeFrom, IsLinkTo, AreFullFrom, IsListOf}
use Rattle.nx_rules.specs.Walked.{Reached, Waits, Walked, links_behind, links_in, lists_named, StandOn, AreRead}
use Rattle.nx_rules.specs.Tour.{Visit, IsVisit, all_links, Tour, used_in, IsInUse, IsWholeTour}
use Rattle.nx_rules.proofs.FirstLemmas.{not_there, pages_append}

-- the free list

pub free_list : (pages : Pages) (first : ℕ) (ps : List ℕ) → AreFreeFrom pages first ps 0 → IsFreeList pages first ps
free_list pages first [] h = h
free_list pages first (p ∷ ps) h = (h.0, (h.2.0, h.2.1.there, free_list pages h.2.0 ps h.2.2))

no_free_zero : (pages : Pages) (first : ℕ) (ps : List ℕ) (n : ℕ) → AreFreeFrom pages first ps n → times 0 ps ≡ 0
no_free_zero pages first [] n h = refl
no_free_zero pages first (p ∷ ps) n h = times_other 0 p ps (λ e. h.1 (sym e)) ∙ no_free_zero pages h.2.0 ps n h.2.2

-- the chain of a list

next_is : (pages : Pages) (first : ℕ) (ls : List Link) (last : Link) → AreFullFrom pages first ls last.page → next_of (ls ++ last ∷ []) ≡ first
next_is pages first [] last h = sym h
next_is pages first (l ∷ ls) last h = sym h.0

linked_from : (pages : Pages) (first : ℕ) (ls : List Link) (last : Link) → AreFullFrom pages first ls last.page → IsLinkTo pages last 0 → AreLinked pages (ls ++ last ∷ [])
linked_from pages first [] last h end = (end.is, (λ n. absurd (omega (arith, n))), tt)
linked_from pages first (l ∷ ls) last h end =
    let next : next_of (ls ++ last ∷ []) ≡ h.2.0 = next_is pages h.2.0 ls last h.2.3 in
    let link : IsLink pages l h.2.0 = h.2.2.is in
    (subst (λ n. IsLink pages l n) (sym next) link, (λ n. h.1), linked_from pages h.2.0 ls last h.2.3 end)

pub full_length : (pages : Pages) (first : ℕ) (ls : List Link) (n : ℕ) → AreFullFrom pages first ls n → length (content_of ls) ≡ page_room * length ls
full_length pages first [] n h = refl
full_length pages first (l ∷ ls) n h =
    let here : length l.content ≡ page_room = h.1 in
    let rest : length (content_of ls) ≡ page_room * length ls = full_length pages h.2.0 ls n h.2.3 in
    let both : length (l.content ++ content_of ls) ≡ length l.content + length (content_of ls) = length-append l.content (content_of ls) in
    omega (arith, here, rest, both)

pub content_append : (ls ms : List Link) → content_of (ls ++ ms) ≡ content_of ls ++ content_of ms
content_append [] ms = refl
content_append (l ∷ ls) ms = ap (λ r. l.content ++ r) (content_append ls ms) ∙ sym (append_assoc l.content (content_of ls) (content_of ms))

-- a whole list is a chain
pub record IsChain (pages : Pages) (first size : ℕ) (links : List Link) : Type 0 where
  pub linked : AreLinked pages links
  pub first_is : next_of links ≡ first
  pub sized : length (content_of links) ≡ size
  pub head : Link
  pub tail : List Link
  pub are : links ≡ head ∷ tail

some_link : (front : List Link) (last : Link) → (l : Link) × (ls : List Link) × (front ++ last ∷ [] ≡ l ∷ ls)
some_link [] last = (last, [], refl)
some_link (l ∷ ls) last = (l, ls ++ last ∷ [], refl)

pub is_chain : (pages : Pages) (own : List ℕ) (first size : ℕ) (links : List Link) → IsListOf pages own first size links → IsChain pages first size links
is_chain pages own first size links h =
    let some = some_link h.front h.last in
    let a : length (content_of h.front) ≡ page_room * length h.front = full_length pages first h.front h.last.page h.to.linked in
    let b : content_of links ≡ content_of h.front ++ (h.last.content ++ []) = ap content_of h.are ∙ content_append h.front (h.last ∷ []) in
    let c : length (content_of links) ≡ length (content_of h.front) + length (h.last.content ++ []) = ap length b ∙ length-append (content_of h.front) (h.last.content ++ []) in
    let d : length (h.last.content ++ []) ≡ length h.last.content = ap length (append-nil h.last.content) in
    let e : page_room * length h.front + length h.last.content ≡ size = h.left in
    record {
      linked = subst (λ l. AreLinked pages l) (sym h.are) (linked_from pages first h.front h.last h.to.linked h.end);
      first_is = ap next_of h.are ∙ next_is pages first h.front h.last h.to.linked;
      sized = omega (arith, a, c, d, e);
      head = some.0;
      tail = some.1;
      are = h.are ∙ some.2;
    }

-- the chains of the documents

-- the chains of some lists, before others
unfoldable pub chains_before : List (List Link) → List Chain → List Chain
chains_before [] cs = cs
chains_before (links ∷ chains) cs = chains_with links (chains_before chains cs)

unfoldable pub chains_in : Walked → List Chain
chains_in Bare = []
chains_in (Grown node below beside) = chains_in below ++ chains_in beside
chains_in (Kept (Reached place chains) members beside) = chains_before chains (chains_in members ++ chains_in beside)
chains_in (Kept (Waits proxy) members beside) = chains_in members ++ chains_in beside

unfoldable pub visit_chains : List Visit → List Chain
visit_chains [] = []
visit_chains (v ∷ visits) = chains_in v.walked ++ visit_chains visits

chain_pages_append : (cs ds : List Chain) → pages_of_chains (cs ++ ds) ≡ pages_of_chains cs ++ pages_of_chains ds
chain_pages_append [] ds = refl
chain_pages_append (c ∷ cs) ds =
    ap (λ r. pages_of_links (links_of c) ++ r) (chain_pages_append cs ds) ∙ sym (append_assoc (pages_of_links (links_of c)) (pages_of_chains cs) (pages_of_chains ds))

chain_pages_with : (ls : List Link) (cs : List Chain) → pages_of_chains (chains_with ls cs) ≡ pages_of_links ls ++ pages_of_chains cs
chain_pages_with [] cs = refl
chain_pages_with (l ∷ ls) cs = refl

chains_append : (pages : Pages) (cs ds : List Chain) → AreChains pages cs → AreChains pages ds → AreChains pages (cs ++ ds)
chains_append pages [] ds h g = g
chains_append pages (c ∷ cs) ds h g = (h.0, chains_append pages cs ds h.1 g)

chains_begin : (pages : Pages) (ls : List Link) (cs : List Chain) → AreLinked pages ls → AreChains pages cs → AreChains pages (chains_with ls cs)
chains_begin pages [] cs h g = g
chains_begin pages (l ∷ ls) cs h g = (h, g)

two_pages : (cs ds : List Chain) (ls ms : List Link) → pages_of_chains cs ≡ pages_of_links ls → pages_of_chains ds ≡ pages_of_links ms → pages_of_chains (cs ++ ds) ≡ pages_of_links (ls ++ ms)
two_pages cs ds ls ms e f = chain_pages_append cs ds ∙ ap (λ x. x ++ pages_of_chains ds) e ∙ ap (λ x. pages_of_links ls ++ x) f ∙ sym (pages_append ls ms)

pub before_pages : (chains : List (List Link)) (cs : List Chain) → pages_of_chains (chains_before chains cs) ≡ pages_of_links (links_behind chains) ++ pages_of_chains cs
unfolding chains_before
before_pages [] cs = refl
before_pages (links ∷ chains) cs =
    chain_pages_with links (chains_before chains cs) ∙ ap (λ x. pages_of_links links ++ x) (before_pages chains cs) ∙ sym (append_assoc (pages_of_links links) (pages_of_links (links_behind chains)) (pages_of_chains cs))
    ∙ ap (λ x. x ++ pages_of_chains cs) (sym (pages_append links (links_behind chains)))

pub walked_pages : (w : Walked) → pages_of_chains (chains_in w) ≡ pages_of_links (links_in w)
unfolding chains_in
walked_pages Bare = refl
walked_pages (Grown n b s) = two_pages (chains_in b) (chains_in s) (links_in b) (links_in s) (walked_pages b) (walked_pages s)
walked_pages (Kept (Reached p ls) b s) =
    before_pages ls (chains_in b ++ chains_in s) ∙ ap (λ x. pages_of_links (links_behind ls) ++ x) (two_pages (chains_in b) (chains_in s) (links_in b) (links_in s) (walked_pages b) (walked_pages s))
    ∙ sym (pages_append (links_behind ls) (links_in b ++ links_in s)) ∙ ap pages_of_links (sym (append_assoc (links_behind ls) (links_in b) (links_in s)))
walked_pages (Kept (Waits p) b s) = two_pages (chains_in b) (chains_in s) (links_in b) (links_in s) (walked_pages b) (walked_pages s)

pub visits_pages : (vs : List Visit) → pages_of_chains (visit_chains vs) ≡ pages_of_links (all_links vs)
unfolding visit_chains
visits_pages [] = refl
visits_pages (v ∷ vs) = two_pages (chains_in v.walked) (visit_chains vs) (links_in v.walked) (all_links vs) (walked_pages v.walked) (visits_pages vs)

-- what each page of a tour is, by its first byte

apart_kinds : (n m : ℕ) (content : List ℕ) → slice_index (free_bytes n) 0 ≡ slice_index (chain_bytes m content) 0 → ⊥
unfolding free_bytes chain_bytes
apart_kinds n m content e = let x : 0 ≡ 2 = e in omega (arith, x)

header_kinds : (h : Header) (m : ℕ) (content : List ℕ) → slice_index (header_bytes h) 0 ≡ slice_index (chain_bytes m content) 0 → ⊥
unfolding header_bytes chain_bytes
header_kinds h m content e = let x : 78 ≡ 2 = e in omega (arith, x)

-- the chains of a record's lists
stand_chains : (pages : Pages) (lists : List Far) (chains : List (List Link)) (cs : List Chain) → StandOn pages lists chains → AreChains pages cs → AreChains pages (chains_before chains cs)
unfolding chains_before
stand_chains pages [] [] cs h g = g
stand_chains pages [] (c ∷ chains) cs h g = absurd h
stand_chains pages (far ∷ lists) [] cs h g = absurd h
stand_chains pages (far ∷ lists) (c ∷ chains) cs h g = chains_begin pages c (chains_before chains cs) (is_chain pages [] far.first far.length c h.0).linked (stand_chains pages lists chains cs h.1 g)

unfoldable pub tour_chains : Tour → List Chain
tour_chains tour = chains_with tour.catalog (visit_chains tour.visits)

walked_chains : (pages : Pages) (w : Walked) → AreRead pages w → AreChains pages (chains_in w)
unfolding chains_in
walked_chains pages Bare r = tt
walked_chains pages (Grown n b s) r = chains_append pages (chains_in b) (chains_in s) (walked_chains pages b r.0) (walked_chains pages s r.1)
walked_chains pages (Kept (Reached p ls) b s) r =
    stand_chains pages (lists_named r.0.stored) ls (chains_in b ++ chains_in s) r.0.stand (chains_append pages (chains_in b) (chains_in s) (walked_chains pages b r.1) (walked_chains pages s r.2))
walked_chains pages (Kept (Waits p) b s) r =
    chains_append pages (chains_in b) (chains_in s) (subst (λ w. AreChains pages (chains_in w)) (sym r.0) tt) (walked_chains pages s r.1)

visits_chains : (pages : Pages) (k : ℕ) (vs : List Visit) → All (IsVisit pages k) vs → AreChains pages (visit_chains vs)
unfolding visit_chains
visits_chains pages k [] h = tt
visits_chains pages k (v ∷ vs) h =
    chains_append pages (chains_in v.walked) (visit_chains vs) (walked_chains pages v.walked (All-head (IsVisit pages k) v vs h).read) (visits_chains pages k vs (All-tail (IsVisit pages k) v vs h))

pub pair_small : (a b : ℕ) → a ≤ 1 → b ≤ 1 → (1 ≤ a → 1 ≤ b → ⊥) → a + b ≤ 1
pair_small a b f g apart =
    elim (cases_lt 0 a) [
      | inl some ↦ elim (cases_lt 0 b) [ inl more ↦ absurd (apart some more) | inr none ↦ omega (arith, f, none) ]
      | inr none ↦ omega (arith, g, none)
    ]

module _ {pages : Pages} {tour : Tour} (whole : IsWholeTour pages tour) where
  pub chains_are : AreChains pages (tour_chains tour)
  unfolding tour_chains
  chains_are = chains_begin pages tour.catalog (visit_chains tour.visits) (is_chain pages [] tour.head.catalog tour.head.catalog_length tour.catalog whole.kept.list).linked
      (visits_chains pages tour.head.settings.k tour.visits whole.kept.each)

  pub chain_pages_are : pages_of_chains (tour_chains tour) ≡ used_in tour
  unfolding tour_chains
  chain_pages_are = chain_pages_with tour.catalog (visit_chains tour.visits) ∙ ap (λ x. pages_of_links tour.catalog ++ x) (visits_pages tour.visits) ∙ sym (pages_append tour.catalog (all_links tour.visits))

  pub chain_page : (p : ℕ) → 1 ≤ times p (used_in tour) → (next : ℕ) × ((content : List ℕ) × (pages p ≡ Some (chain_bytes next content)))
  chain_page p some = chain_there pages (tour_chains tour) p chains_are (subst (λ x. 1 ≤ times p x) (sym chain_pages_are) some)

  pub free_page : (p : ℕ) → 1 ≤ times p tour.free → (next : ℕ) × (pages p ≡ Some (free_bytes next))
  free_page p some = free_there pages tour.head.free tour.free p (free_list pages tour.head.free tour.free whole.kept.free.linked) some

  pub there_below : (p : ℕ) (bytes : List ℕ) → pages p ≡ Some bytes → p < tour.head.pages
  there_below p bytes there = elim (cases_lt p tour.head.pages) [ inl low ↦ low | inr high ↦ absurd (not_there (pages p) there (whole.none_past p high)) ]

  not_both : (p : ℕ) → 1 ≤ times p tour.free → 1 ≤ times p (used_in tour) → ⊥
  not_both p a b =
      let x = free_page p a in
      let y = chain_page p b in
      apart_kinds x.0 y.0 y.1.0 (ap (λ l. slice_index l 0) (same_bytes (free_bytes x.0) (chain_bytes y.0 y.1.0) (pages p) x.1 y.1.1))

  no_zero_chain : 1 ≤ times 0 (used_in tour) → ⊥
  no_zero_chain some =
      let y = chain_page 0 some in
      header_kinds tour.head y.0 y.1.0 (ap (λ l. slice_index l 0) (same_bytes (header_bytes tour.head) (chain_bytes y.0 y.1.0) (pages 0) whole.kept.header.here y.1.1))

  shares : Shares
  shares = record { free = tour.free; chains = tour_chains tour }

  pub named_times : (p : ℕ) → times p (0 ∷ (tour.free ++ (pages_of_chains (tour_chains tour) ++ []))) ≡ times p (0 ∷ []) + (times p tour.free + times p (used_in tour))
  named_times p =
      let chains : pages_of_chains (tour_chains tour) ++ [] ≡ used_in tour = append-nil (pages_of_chains (tour_chains tour)) ∙ chain_pages_are in
      times-cons p 0 (tour.free ++ (pages_of_chains (tour_chains tour) ++ []))
      ∙ ap (λ n. times p (0 ∷ []) + n) (times-append p tour.free (pages_of_chains (tour_chains tour) ++ []) ∙ ap (λ l. times p tour.free + times p l) chains)

  -- a page is named at most once: as the header, a free page or a chain page
  once_named : (p : ℕ) → times p (0 ∷ []) + (times p tour.free + times p (used_in tour)) ≤ 1
  once_named p =
      let free : times p tour.free ≤ 1 = whole.kept.free.once p in
      let chain : times p (used_in tour) ≤ 1 = whole.kept.lists_once p in
      let apart : 1 ≤ times p tour.free → 1 ≤ times p (used_in tour) → ⊥ = not_both p in
      elim (cases_Bool (p == 0)) [
        | inl zero_page ↦
            let same : p ≡ 0 = eqb-true p 0 zero_page in
            let none : times p tour.free ≡ 0 = subst (λ (q : ℕ). times q tour.free ≡ 0) (sym same) (no_free_zero pages tour.head.free tour.free 0 whole.kept.free.linked) in
            let no_chain : 1 ≤ times p (used_in tour) → ⊥ = λ h. no_zero_chain (subst (λ (q : ℕ). 1 ≤ times q (used_in tour)) same h) in
            let one : times p (0 ∷ []) ≡ 1 = subst (λ (q : ℕ). times q (0 ∷ []) ≡ 1) (sym same) (times_one 0 []) in
            omega (arith, none, no_chain, one)
        | inr other ↦
            let none : times p (0 ∷ []) ≡ 0 = times_other p 0 [] (λ e. false≢true (sym other ∙ eq-eqb p 0 e)) in
            let few : times p tour.free + times p (used_in tour) ≤ 1 = pair_small (times p tour.free) (times p (used_in tour)) free chain apart in
            omega (arith, none, few)
      ]

  below_named : (p : ℕ) → 1 ≤ times p (0 ∷ []) + (times p tour.free + times p (used_in tour)) → p < tour.head.pages
  below_named p some =
      elim (cases_lt 0 (times p tour.free)) [
        | inl free ↦ whole.kept.free.below p free
        | inr no_free ↦ elim (cases_lt 0 (times p (used_in tour))) [
          | inl chain ↦ let y = chain_page p chain in there_below p (chain_bytes y.0 y.1.0) y.1.1
          | inr no_chain ↦ elim (cases_Bool (p == 0)) [
            | inl zero_page ↦ let same : p ≡ 0 = eqb-true p 0 zero_page in let many : 2 ≤ tour.head.pages = whole.kept.header.range.pages.0 in omega (arith, same, many)
            | inr other ↦ absurd (let none : times p (0 ∷ []) ≡ 0 = times_other p 0 [] (λ e. false≢true (sym other ∙ eq-eqb p 0 e)) in omega (arith, none, no_free, no_chain, some))
          ]
        ]
      ]

  used_slotted : (p : ℕ) → p < tour.head.pages → times p (0 ∷ []) + (times p tour.free + times p (used_in tour)) ≡ 0 → IsUsed pages p
  used_slotted p low none = by_use (whole.used p low) where
    by_use : IsInUse pages tour p → IsUsed pages p
    by_use (inl same) = absurd (let one : times p (0 ∷ []) ≡ 1 = subst (λ (q : ℕ). times q (0 ∷ []) ≡ 1) (sym same) (times_one 0 []) in omega (arith, one, none))
    by_use (inr (inl free)) = absurd (omega (arith, free, none))
    by_use (inr (inr (inl chain))) = absurd (omega (arith, chain, none))
    by_use (inr (inr (inr h))) = record { bytes = h.0; there = h.1.there; slotted = h.1.slotted; some = h.2 }

  -- a slotted page isn't named
  pub slotted_apart : (p : ℕ) (bytes : List ℕ) → IsSlottedPage pages p bytes → times p (0 ∷ []) + (times p tour.free + times p (used_in tour)) ≡ 0
  slotted_apart p bytes h =
      let kind : (slice_index bytes 0 == 1) ≡ true = eq-eqb (slice_index bytes 0) 1 h.slotted.headed.kind in
      let other_kind : (other : List ℕ) → pages p ≡ Some other → (slice_index other 0 == 1) ≡ false → ⊥ =
      λ other there is. false≢true (sym is ∙ ap (λ (b : List ℕ). slice_index b 0 == 1) (same_bytes other bytes (pages p) there h.there) ∙ kind) in
      let zero_page : p ≡ 0 → ⊥ = λ e. other_kind (header_bytes tour.head) (ap pages e ∙ whole.kept.header.here) (header_kind tour.head) in
      let free : 1 ≤ times p tour.free → ⊥ = λ m. (let x = free_page p m in other_kind (free_bytes x.0) x.1 (free_kind x.0)) in
      let chain : 1 ≤ times p (used_in tour) → ⊥ = λ m. (let y = chain_page p m in other_kind (chain_bytes y.0 y.1.0) y.1.1 (chain_kind y.0 y.1.0)) in
      let none : times p (0 ∷ []) ≡ 0 = times_other p 0 [] zero_page in
      omega (arith, none, free, chain)

  shared : IsShared pages tour.head shares []
  unfolding shares
  shared = record {
    free = free_list pages tour.head.free tour.free whole.kept.free.linked;
    chains = chains_are;
    once = λ p. subst (λ (n : ℕ). n ≤ 1) (sym (named_times p)) (once_named p);
    below = λ p h. below_named p (subst (λ (n : ℕ). 1 ≤ n) (named_times p) h);
    slotted = λ p low none. used_slotted p low (sym (named_times p) ∙ none);
    room = λ some. (let h = whole.kept.header.room some in (there_below tour.head.room h.0 h.1.there, named_times tour.head.room ∙ slotted_apart tour.head.room h.0 h.1));
    none_past = whole.none_past;
  }

  -- what the pages hold
  unfoldable pub held_of : Held
  held_of = record {
    settings = tour.head.settings;
    records = λ page slot. record_in (pages page) slot;
    lists = λ page. if page == tour.head.catalog then None else list_at (tour_chains tour) page;
    catalog = record { bytes = content_of tour.catalog; pages = pages_of_links tour.catalog };
    free = length tour.free + (tour.head.settings.limit - tour.head.pages);
  }

  pub catalog_chain : list_at (tour_chains tour) tour.head.catalog ≡ Some (content_of tour.catalog)
  unfolding tour_chains
  catalog_chain =
      let c = is_chain pages [] tour.head.catalog tour.head.catalog_length tour.catalog whole.kept.list in
      let first : c.head.page ≡ tour.head.catalog = sym (ap next_of c.are) ∙ c.first_is in
      subst (λ l. list_at (chains_with l (visit_chains tour.visits)) tour.head.catalog ≡ Some (content_of l)) (sym c.are)
      (ap (λ b. if b then Some (content_of (c.head ∷ c.tail)) else list_at (visit_chains tour.visits) tour.head.catalog) (eq-eqb tour.head.catalog c.head.page (sym first)))

  pub catalog_places : pages_at (tour_chains tour) tour.head.catalog ≡ pages_of_links tour.catalog
  unfolding tour_chains
  catalog_places =
      let c = is_chain pages [] tour.head.catalog tour.head.catalog_length tour.catalog whole.kept.list in
      let first : c.head.page ≡ tour.head.catalog = sym (ap next_of c.are) ∙ c.first_is in
      subst (λ l. pages_at (chains_with l (visit_chains tour.visits)) tour.head.catalog ≡ pages_of_links l) (sym c.are)
      (ap (λ b. if b then pages_of_links (c.head ∷ c.tail) else pages_at (visit_chains tour.visits) tour.head.catalog) (eq-eqb tour.head.catalog c.head.page (sym first)))

  -- Pages that keep all rules are sound.
  pub sound_pages : HoldsBy pages tour.head held_of
  unfolding held_of shares
  sound_pages = record {
    here = whole.kept.header.here;
    range = whole.kept.header.range;
    behind = record {
      shares = shares;
      header = (tour.head, whole.kept.header.here);
      shared = shared;
      settings = refl;
      records = λ page slot. refl;
      lists = λ page. refl;
      catalog = catalog_chain;
      catalog_pages = catalog_places;
      catalog_length = (is_chain pages [] tour.head.catalog tour.head.catalog_length tour.catalog whole.kept.list).sized;
      free = refl;
    };
  }

-- Which byte lists are held.

pub list_append : (cs ds : List Chain) (page : ℕ) → times page (pages_of_chains cs) ≡ 0 → list_at (cs ++ ds) page ≡ list_at ds page
list_append [] ds page none = refl
list_append (c ∷ cs) ds page none =
    let both = times-append page (pages_of_links (links_of c)) (pages_of_chains cs) in
    let first : times page (pages_of_links (links_of c)) ≡ 0 = omega (arith, both, none) in
    let rest : times page (pages_of_chains cs) ≡ 0 = omega (arith, both, none) in
    let other : (page == (c.first).page) ≡ false = not_first page (c.first).page (pages_of_links c.rest) first in
    ap (λ b. if b then Some (content_of (links_of c)) else list_at (cs ++ ds) page) other ∙ list_append cs ds page rest
  where
    not_first : (p q : ℕ) (qs : List ℕ) → times p (q ∷ qs) ≡ 0 → (p == q) ≡ false
    not_first p q qs none =
        elim (cases_Bool (p == q)) [
          | inl same ↦ absurd (let e : p ≡ q = eqb-true p q same in let one : times p (q ∷ qs) ≡ 1 + times p qs = subst (λ (r : ℕ). times p (r ∷ qs) ≡ 1 + times p qs) e (times_one p qs) in omega (arith, one, none))
          | inr other ↦ other
        ]

-- a list that a first part holds is held
front_by : (b : Bool) (here : List ℕ) (one other : Option (List ℕ)) (bytes : List ℕ) → (one ≡ Some bytes → other ≡ Some bytes) → (if b then Some here else one) ≡ Some bytes → (if b then Some here else other) ≡ Some bytes
front_by true here one other bytes rest h = h
front_by false here one other bytes rest h = rest h

pub list_front : (cs ds : List Chain) (page : ℕ) (bytes : List ℕ) → list_at cs page ≡ Some bytes → list_at (cs ++ ds) page ≡ Some bytes
list_front [] ds page bytes e = absurd (cc)
list_front (c ∷ cs) ds page bytes e =
    front_by (page == (c.first).page) (content_of (links_of c)) (list_at cs page) (list_at (cs ++ ds) page) bytes (λ h. list_front cs ds page bytes h) e

-- a list that two parts hold is held by one
either_by : (b : Bool) (here : List ℕ) (one two both : Option (List ℕ)) (bytes : List ℕ) → (both ≡ Some bytes → (one ≡ Some bytes) ⊎ (two ≡ Some bytes)) → (if b then Some here else both) ≡ Some bytes
    → ((if b then Some here else one) ≡ Some bytes) ⊎ (two ≡ Some bytes)
either_by true here one two both bytes rest h = inl h
either_by false here one two both bytes rest h = rest h

pub list_either : (cs ds : List Chain) (page : ℕ) (bytes : List ℕ) → list_at (cs ++ ds) page ≡ Some bytes → (list_at cs page ≡ Some bytes) ⊎ (list_at ds page ≡ Some bytes)
list_either [] ds page bytes e = inr e
list_either (c ∷ cs) ds page bytes e =
    either_by (page == (c.first).page) (content_of (links_of c)) (list_at cs page) (list_at ds page) (list_at (cs ++ ds) page) bytes (λ h. list_either cs ds page bytes h) e

-- a chain in front
pub record Begins (ks : List Link) (page : ℕ) : Type 0 where
  pub first : Link
  pub rest : List Link
  pub are : ks ≡ first ∷ rest
  pub here : first.page ≡ page

with_by : (page : ℕ) (l : Link) (ls : List Link) (b : Bool) (one : Option (List ℕ)) (bytes here : List ℕ) → (page == l.page) ≡ b → (if b then Some here else one) ≡ Some bytes → Begins (l ∷ ls) page ⊎ (one ≡ Some bytes)
with_by page l ls true one bytes here test h = inl (record { first = l; rest = ls; are = refl; here = sym (eqb-true page l.page test) })
with_by page l ls false one bytes here test h = inr h

pub list_with : (ks : List Link) (cs : List Chain) (page : ℕ) (bytes : List ℕ) → list_at (chains_with ks cs) page ≡ Some bytes → Begins ks page ⊎ (list_at cs page ≡ Some bytes)
list_with [] cs page bytes e = inr e
list_with (l ∷ ls) cs page bytes e = with_by page l ls (page == l.page) (list_at cs page) bytes (content_of (l ∷ ls)) refl e

pub list_past : (ks : List Link) (cs : List Chain) (page : ℕ) → times page (pages_of_links ks) ≡ 0 → list_at (chains_with ks cs) page ≡ list_at cs page
list_past [] cs page none = refl
list_past (l ∷ ls) cs page none =
    list_append (record { first = l; rest = ls } ∷ []) cs page (let e = times-append page (l.page ∷ pages_of_links ls) [] in omega (arith, e, none))

pub list_here : (l : Link) (ls : List Link) (cs : List Chain) → list_at (chains_with (l ∷ ls) cs) l.page ≡ Some (content_of (l ∷ ls))
list_here l ls cs = ap (λ b. if b then Some (content_of (l ∷ ls)) else list_at cs l.page) (same_page l.page)
