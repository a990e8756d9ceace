-- The header, the free list and byte lists: a walk over them goes one way.
use Rattle.std.proofs.Common.{◌≡◌, ◌≢◌, ◌⊎◌, ℕ, ◌+◌, ◌-◌, ◌*◌, ◌<◌, ◌≤◌, true, false, List, [], ◌∷◌, ◌++◌, length, length-append, Option, Some, None, refl, sym, ap, ◌∙◌, subst, arith, inl, inr}
use Rattle.std.specs.Prelude.{◌==◌, if◌then◌else◌, Bool}
use Rattle.std.proofs.lemmas.Bool.{eqb-true}
use Rattle.nx_numbers.specs.Sizes.{page_room}
use Rattle.nx_chain.specs.Chain.{chain_bytes}
use Rattle.nx_replay.specs.Log.{Pages}
use Rattle.nx_holdings.specs.declared.header.Header.{Header}
use Rattle.nx_holdings.specs.Header.{header_bytes}
use Rattle.nx_holdings.specs.Holdings.{times, free_bytes, Link, pages_of_links}
use Rattle.nx_holdings.proofs.OneLemmas.{one_header}
use Rattle.nx_holdings.proofs.FreeLemmas.{free_one}
use Rattle.nx_holdings.proofs.TimesLemmas.{times-append, times_one}
use Rattle.nx_holdings.proofs.ChainLemmas.{Names, one_next, one_content, same_bytes}
use Rattle.nx_rules.specs.Listed.{AreUsedOnce, HasHeaderPage, last_page, IsFreePageAt, AreFreeFrom, IsFreeTo, IsLinkTo, AreFullFrom, IsListOf}
use Rattle.nx_rules.specs.Broken.{Blames, IsNoFree, BreaksFree, IsBegunWith, FitsThere, IsNoLink, BreaksList}

pub one_head : (pages : Pages) (a b : Header) → HasHeaderPage pages a → HasHeaderPage pages b → a ≡ b
one_head pages a b h g = one_header a b h.range g.range (same_bytes (header_bytes a) (header_bytes b) (pages 0) h.here g.here)

pub not_there : {bytes : List ℕ} (o : Option (List ℕ)) → o ≡ Some bytes → o ≡ None → ⊥
not_there o some none = let same = sym some ∙ none in absurd (cc same)

-- the free list

-- one walk goes on past where the other stops: that page is a free one
pub record FreeGoesOn (pages : Pages) (ps qs : List ℕ) (n : ℕ) : Type 0 where
  pub rest : List ℕ
  pub are : qs ≡ ps ++ n ∷ rest
  pub next : ℕ
  pub there : IsFreePageAt pages n next

free_longer : {pages : Pages} {ps qs : List ℕ} {n : ℕ} (p : ℕ) → FreeGoesOn pages ps qs n → FreeGoesOn pages (p ∷ ps) (p ∷ qs) n
free_longer p goes = record { rest = goes.rest; are = ap (λ r. p ∷ r) goes.are; next = goes.next; there = goes.there }

pub free_meets : (pages : Pages) (first : ℕ) (ps qs : List ℕ) (n m : ℕ) → AreFreeFrom pages first ps n → AreFreeFrom pages first qs m
    → ((ps ≡ qs) × (n ≡ m)) ⊎ (FreeGoesOn pages ps qs n ⊎ FreeGoesOn pages qs ps m)
free_meets pages first [] [] n m a b = inl (refl, sym a ∙ b)
free_meets pages first [] (q ∷ qs) n m a b =
    let same : q ≡ n = sym b.0 ∙ a in
    inr (inl (record { rest = qs; are = ap (λ x. x ∷ qs) same; next = b.2.0; there = subst (λ x. IsFreePageAt pages x b.2.0) same b.2.1 }))
free_meets pages first (p ∷ ps) [] n m a b =
    let same : p ≡ m = sym a.0 ∙ b in
    inr (inr (record { rest = ps; are = ap (λ x. x ∷ ps) same; next = a.2.0; there = subst (λ x. IsFreePageAt pages x a.2.0) same a.2.1 }))
free_meets pages first (p ∷ ps) (q ∷ qs) n m a b =
    let here : p ≡ q = sym a.0 ∙ b.0 in
    let bytes : free_bytes a.2.0 ≡ free_bytes b.2.0 = same_bytes (free_bytes a.2.0) (free_bytes b.2.0) (pages p) a.2.1.there (ap pages here ∙ b.2.1.there) in
    let next : b.2.0 ≡ a.2.0 = free_one b.2.0 a.2.0 b.2.1.low a.2.1.low (sym bytes) in
    let other : AreFreeFrom pages a.2.0 qs m = subst (λ x. AreFreeFrom pages x qs m) next b.2.2 in
    elim (free_meets pages a.2.0 ps qs n m a.2.2 other) [
      | inl same ↦ inl ((let rest : ps ≡ qs = same.0 in cc), same.1)
      | inr longer ↦ elim longer [
        | inl on ↦ inr (inl (subst (λ x. FreeGoesOn pages (p ∷ ps) (x ∷ qs) n) here (free_longer p on)))
        | inr on ↦ inr (inr (subst (λ x. FreeGoesOn pages (q ∷ qs) (x ∷ ps) m) (sym here) (free_longer q on)))
      ]
    ]

-- a page that a longer walk has is none to blame
free_not_bad : {pages : Pages} {head : Header} {ps qs : List ℕ} {n m page by : ℕ} → FreeGoesOn pages ps qs n → IsFreeTo pages head qs m → Blames pages by n (IsNoFree head ps n) page → ⊥
free_not_bad {pages} {head} {ps} {qs} {n} goes to (inl missing) = not_there (pages n) goes.there.there missing.1
free_not_bad {pages} {head} {ps} {qs} {n} {m} goes to (inr bad) =
    let are : bad.1.0 ≡ free_bytes goes.next = same_bytes bad.1.0 (free_bytes goes.next) (pages n) bad.1.1 goes.there.there in
    let all : times n qs ≡ times n ps + (1 + times n goes.rest) = ap (times n) goes.are ∙ times-append n ps (n ∷ goes.rest) ∙ ap (λ k. times n ps + k) (times_one n goes.rest) in
    let once : times n qs ≤ 1 = to.once n in
    let below : n < head.pages = to.below n (omega (arith, all)) in
    bad.1.2 goes.next (record { are = are; low = goes.there.low }) below (omega (arith, all, once))

pub same_blame : (pages : Pages) (by named page other : ℕ) (Bad : List ℕ → Type 0) → Blames pages by named Bad page → Blames pages by named Bad other → page ≡ other
same_blame pages by named page other Bad (inl a) (inl b) = a.0 ∙ sym b.0
same_blame pages by named page other Bad (inl a) (inr b) = absurd (not_there (pages named) b.1.1 a.1)
same_blame pages by named page other Bad (inr a) (inl b) = absurd (not_there (pages named) a.1.1 b.1)
same_blame pages by named page other Bad (inr a) (inr b) = a.0 ∙ sym b.0

no_zero : (pages : Pages) (first : ℕ) (ps rest : List ℕ) (n : ℕ) → AreFreeFrom pages first (ps ++ 0 ∷ rest) n → ⊥
no_zero pages first [] rest n from = from.1 refl
no_zero pages first (p ∷ ps) rest n from = no_zero pages from.2.0 ps rest n from.2.2

pub free_kept : (pages : Pages) (page : ℕ) → BreaksFree pages page → (head : Header) → IsBegunWith pages head → ⊥
free_kept pages page b head begun =
    let same : b.head ≡ head = one_head pages b.head head b.header begun.header in
    let whole : IsFreeTo pages b.head begun.free 0 = subst (λ h. IsFreeTo pages h begun.free 0) (sym same) begun.whole in
    elim (free_meets pages b.head.free b.free begun.free b.next 0 b.to.linked whole.linked) [
      | inl are ↦ b.goes_on are.1
      | inr longer ↦ elim longer [
        | inl on ↦ free_not_bad on whole b.blamed
        | inr on ↦ no_zero pages b.head.free begun.free on.rest b.next (subst (λ ps. AreFreeFrom pages b.head.free ps b.next) on.are b.to.linked)
      ]
    ]

pub free_one_blame : (pages : Pages) (page other : ℕ) → BreaksFree pages page → BreaksFree pages other → page ≡ other
free_one_blame pages page other a b =
    let same : b.head ≡ a.head = one_head pages b.head a.head b.header a.header in
    let to : IsFreeTo pages a.head b.free b.next = subst (λ h. IsFreeTo pages h b.free b.next) same b.to in
    let blamed : Blames pages (last_page 0 b.free) b.next (IsNoFree a.head b.free b.next) other = subst (λ h. Blames pages (last_page 0 b.free) b.next (IsNoFree h b.free b.next) other) same b.blamed in
    elim (free_meets pages a.head.free a.free b.free a.next b.next a.to.linked to.linked) [
      | inl are ↦
          let mine : Blames pages (last_page 0 b.free) a.next (IsNoFree a.head b.free a.next) page = subst (λ ps. Blames pages (last_page 0 ps) a.next (IsNoFree a.head ps a.next) page) are.0 a.blamed in
          let here : Blames pages (last_page 0 b.free) b.next (IsNoFree a.head b.free b.next) page = subst (λ n. Blames pages (last_page 0 b.free) n (IsNoFree a.head b.free n) page) are.1 mine in
          same_blame pages (last_page 0 b.free) b.next page other (IsNoFree a.head b.free b.next) here blamed
      | inr longer ↦ elim longer [
        | inl on ↦ absurd (free_not_bad on to a.blamed)
        | inr on ↦ absurd (free_not_bad on a.to blamed)
      ]
    ]

pub one_free_list : (pages : Pages) (head : Header) (ps qs : List ℕ) → IsFreeTo pages head ps 0 → IsFreeTo pages head qs 0 → ps ≡ qs
one_free_list pages head ps qs a b =
    elim (free_meets pages head.free ps qs 0 0 a.linked b.linked) [
      | inl are ↦ are.0
      | inr longer ↦ elim longer [
        | inl on ↦ absurd (no_zero pages head.free ps on.rest 0 (subst (λ xs. AreFreeFrom pages head.free xs 0) on.are b.linked))
        | inr on ↦ absurd (no_zero pages head.free qs on.rest 0 (subst (λ xs. AreFreeFrom pages head.free xs 0) on.are a.linked))
      ]
    ]

-- byte lists

pub pages_append : (ls ms : List Link) → pages_of_links (ls ++ ms) ≡ pages_of_links ls ++ pages_of_links ms
pages_append [] ms = refl
pages_append (l ∷ ls) ms = ap (λ r. l.page ∷ r) (pages_append ls ms)

pub link_names : {pages : Pages} {link : Link} {next : ℕ} → IsLinkTo pages link next → Names pages link.page next link.content
link_names h = record { there = h.is.there; low = h.low; some = h.is.some; few = h.is.few }

-- links that stand on one page are one
one_link : {pages : Pages} {l m : Link} {a b : ℕ} → l.page ≡ m.page → IsLinkTo pages l a → IsLinkTo pages m b → (l ≡ m) × (a ≡ b)
one_link {pages} {l} {m} {a} {b} here h g =
    let one = link_names h in
    let other : Names pages l.page b m.content = subst (λ (p : ℕ). Names pages p b m.content) (sym here) (link_names g) in
    let content : l.content ≡ m.content = one_content one other in
    ((λ i. record { page = here i; content = content i }), one_next one other)

-- one walk goes on past where the other stops: a full chain page stands there, that names another
pub record ListGoesOn (pages : Pages) (ls ms : List Link) (n : ℕ) : Type 0 where
  pub rest : List Link
  pub link : Link
  pub are : ms ≡ ls ++ link ∷ rest
  pub here : link.page ≡ n
  pub full : length link.content ≡ page_room
  pub next : ℕ
  pub some : next ≢ 0
  pub there : IsLinkTo pages link next

list_longer : {pages : Pages} {ls ms : List Link} {n : ℕ} (l : Link) → ListGoesOn pages ls ms n → ListGoesOn pages (l ∷ ls) (l ∷ ms) n
list_longer l goes =
    record { rest = goes.rest; link = goes.link; are = ap (λ r. l ∷ r) goes.are; here = goes.here; full = goes.full; next = goes.next; some = goes.some; there = goes.there }

pub list_meets : (pages : Pages) (first : ℕ) (ls ms : List Link) (n m : ℕ) → AreFullFrom pages first ls n → AreFullFrom pages first ms m
    → ((ls ≡ ms) × (n ≡ m)) ⊎ (ListGoesOn pages ls ms n ⊎ ListGoesOn pages ms ls m)
list_meets pages first [] [] n m a b = inl (refl, sym a ∙ b)
list_meets pages first [] (l ∷ ms) n m a b = inr (inl (record { rest = ms; link = l; are = refl; here = sym b.0 ∙ a; full = b.1; next = b.2.0; some = b.2.1; there = b.2.2 }))
list_meets pages first (l ∷ ls) [] n m a b = inr (inr (record { rest = ls; link = l; are = refl; here = sym a.0 ∙ b; full = a.1; next = a.2.0; some = a.2.1; there = a.2.2 }))
list_meets pages first (l ∷ ls) (k ∷ ms) n m a b =
    let both = one_link (sym a.0 ∙ b.0) a.2.2 b.2.2 in
    let other : AreFullFrom pages a.2.0 ms m = subst (λ x. AreFullFrom pages x ms m) (sym both.1) b.2.3 in
    elim (list_meets pages a.2.0 ls ms n m a.2.3 other) [
      | inl same ↦ inl ((let rest : ls ≡ ms = same.0 in let first_too : l ≡ k = both.0 in cc), same.1)
      | inr longer ↦ elim longer [
        | inl on ↦ inr (inl (subst (λ x. ListGoesOn pages (l ∷ ls) (x ∷ ms) n) both.0 (list_longer l on)))
        | inr on ↦ inr (inr (subst (λ x. ListGoesOn pages (k ∷ ms) (x ∷ ls) m) (sym both.0) (list_longer k on)))
      ]
    ]

-- a link that stands at a page that nothing else uses, and fits there, is none to blame
link_not_bad : (pages : Pages) (used : List ℕ) (left by n next page : ℕ) (link : Link) → link.page ≡ n → IsLinkTo pages link next → times n used ≡ 0 → FitsThere left next link.content
    → Blames pages by n (IsNoLink used left n) page → ⊥
link_not_bad pages used left by n next page link here there fresh fits (inl missing) = not_there (pages n) (ap pages (sym here) ∙ there.is.there) missing.1
link_not_bad pages used left by n next page link here there fresh fits (inr bad) =
    let are : bad.1.0 ≡ chain_bytes next link.content = same_bytes bad.1.0 (chain_bytes next link.content) (pages n) bad.1.1 (ap pages (sym here) ∙ there.is.there) in
    bad.1.2 next link.content (record { are = are; low = there.low; some = there.is.some; few = there.is.few }) fresh fits

apart : (used : List ℕ) (ls rest : List Link) (link : Link) → AreUsedOnce (used ++ pages_of_links (ls ++ link ∷ rest)) → times link.page (used ++ pages_of_links ls) ≡ 0
apart used ls rest link once =
    let p = link.page in
    let all : times p (used ++ pages_of_links (ls ++ link ∷ rest)) ≤ 1 = once p in
    let a : times p (used ++ pages_of_links (ls ++ link ∷ rest)) ≡ times p used + times p (pages_of_links (ls ++ link ∷ rest)) = times-append p used (pages_of_links (ls ++ link ∷ rest)) in
    let b : times p (pages_of_links (ls ++ link ∷ rest)) ≡ times p (pages_of_links ls) + times p (p ∷ pages_of_links rest) =
    ap (times p) (pages_append ls (link ∷ rest)) ∙ times-append p (pages_of_links ls) (p ∷ pages_of_links rest) in
    let c : times p (p ∷ pages_of_links rest) ≡ 1 + times p (pages_of_links rest) = times_one p (pages_of_links rest) in
    let d : times p (used ++ pages_of_links ls) ≡ times p used + times p (pages_of_links ls) = times-append p used (pages_of_links ls) in
    omega (arith, all, a, b, c, d)

pub front_once : (used : List ℕ) (ls ms : List Link) → AreUsedOnce (used ++ pages_of_links (ls ++ ms)) → AreUsedOnce (used ++ pages_of_links ls)
front_once used ls ms once p =
    let all : times p (used ++ pages_of_links (ls ++ ms)) ≤ 1 = once p in
    let a : times p (used ++ pages_of_links (ls ++ ms)) ≡ times p used + times p (pages_of_links (ls ++ ms)) = times-append p used (pages_of_links (ls ++ ms)) in
    let b : times p (pages_of_links (ls ++ ms)) ≡ times p (pages_of_links ls) + times p (pages_of_links ms) = ap (times p) (pages_append ls ms) ∙ times-append p (pages_of_links ls) (pages_of_links ms) in
    let d : times p (used ++ pages_of_links ls) ≡ times p used + times p (pages_of_links ls) = times-append p used (pages_of_links ls) in
    omega (arith, all, a, b, d)

list_not_bad : (pages : Pages) (used : List ℕ) (ls ms : List Link) (size by n page : ℕ) → ListGoesOn pages ls ms n → page_room * length ms < size → AreUsedOnce (used ++ pages_of_links ms)
    → Blames pages by n (IsNoLink (used ++ pages_of_links ls) (size - page_room * length ls) n) page → ⊥
list_not_bad pages used ls ms size by n page goes more once blamed =
    let long : length ms ≡ length ls + length (goes.link ∷ goes.rest) = ap length goes.are ∙ length-append ls (goes.link ∷ goes.rest) in
    let full : length goes.link.content ≡ page_room = goes.full in
    let unused : times goes.link.page (used ++ pages_of_links ls) ≡ 0 = apart used ls goes.rest goes.link (subst (λ ks. AreUsedOnce (used ++ pages_of_links ks)) goes.are once) in
    let fits : FitsThere (size - page_room * length ls) goes.next goes.link.content = record {
      holds = omega (arith, long, full, more);
      ends = λ small. absurd (omega (arith, long, more, small));
      goes_on = λ large. goes.some;
    } in
    link_not_bad pages (used ++ pages_of_links ls) (size - page_room * length ls) by n goes.next page goes.link goes.here goes.there (subst (λ p. times p (used ++ pages_of_links ls) ≡ 0) goes.here unused) fits blamed

-- a whole list isn't broken, where no other list uses its pages
pub list_kept : (pages : Pages) (own used : List ℕ) (by first size page : ℕ) (links : List Link) → IsListOf pages own first size links → AreUsedOnce (used ++ pages_of_links links) → BreaksList pages used by first size page → ⊥
list_kept pages own used by first size page links h once b =
    let all : AreUsedOnce (used ++ pages_of_links (h.front ++ h.last ∷ [])) = subst (λ ks. AreUsedOnce (used ++ pages_of_links ks)) h.are once in
    let left : page_room * length h.front + length h.last.content ≡ size = h.left in
    let some : 1 ≤ length h.last.content = h.end.is.some in
    let few : length h.last.content ≤ page_room = h.end.is.few in
    elim (list_meets pages first b.links h.front b.next h.last.page b.to.linked h.to.linked) [
      | inl same ↦
          let fits : FitsThere (size - page_room * length b.links) 0 h.last.content = record {
            holds = let e : length b.links ≡ length h.front = ap length same.0 in omega (arith, left, some, few, e);
            ends = λ small. refl;
            goes_on = λ large. absurd (let e : length b.links ≡ length h.front = ap length same.0 in omega (arith, left, some, few, e, large));
          } in
          let unused : times b.next (used ++ pages_of_links b.links) ≡ 0 =
          subst (λ (n : ℕ). times n (used ++ pages_of_links b.links) ≡ 0) (sym same.1) (subst (λ ks. times h.last.page (used ++ pages_of_links ks) ≡ 0) (sym same.0) (apart used h.front [] h.last all)) in
          link_not_bad pages (used ++ pages_of_links b.links) (size - page_room * length b.links) (last_page by (pages_of_links b.links)) b.next 0 page h.last (sym same.1) h.end unused fits b.blamed
      | inr longer ↦ elim longer [
        | inl on ↦
            let front : AreUsedOnce (used ++ pages_of_links h.front) = front_once used h.front (h.last ∷ []) all in
            list_not_bad pages used b.links h.front size (last_page by (pages_of_links b.links)) b.next page on h.to.more front b.blamed
        | inr on ↦ on.some (one_link on.here on.there h.end).1
      ]
    ]

-- a list breaks at one page
pub list_one_blame : (pages : Pages) (used : List ℕ) (by first size page other : ℕ) → BreaksList pages used by first size page → BreaksList pages used by first size other → page ≡ other
list_one_blame pages used by first size page other a b =
    elim (list_meets pages first a.links b.links a.next b.next a.to.linked b.to.linked) [
      | inl are ↦
          let Bad : List Link → ℕ → List ℕ → Type 0 = λ ls n. IsNoLink (used ++ pages_of_links ls) (size - page_room * length ls) n in
          let mine : Blames pages (last_page by (pages_of_links b.links)) a.next (Bad b.links a.next) page =
          subst (λ ls. Blames pages (last_page by (pages_of_links ls)) a.next (Bad ls a.next) page) are.0 a.blamed in
          let here : Blames pages (last_page by (pages_of_links b.links)) b.next (Bad b.links b.next) page =
          subst (λ n. Blames pages (last_page by (pages_of_links b.links)) n (Bad b.links n) page) are.1 mine in
          same_blame pages (last_page by (pages_of_links b.links)) b.next page other (Bad b.links b.next) here b.blamed
      | inr longer ↦ elim longer [
        | inl on ↦ absurd (list_not_bad pages used a.links b.links size (last_page by (pages_of_links a.links)) a.next page on b.to.more b.to.once a.blamed)
        | inr on ↦ absurd (list_not_bad pages used b.links a.links size (last_page by (pages_of_links b.links)) b.next other on a.to.more a.to.once b.blamed)
      ]
    ]

-- from one page on there is one list of a size
pub one_list : (pages : Pages) (own used : List ℕ) (first size : ℕ) (ls ms : List Link) → IsListOf pages own first size ls → IsListOf pages used first size ms → ls ≡ ms
one_list pages own used first size ls ms a b =
    elim (list_meets pages first a.front b.front a.last.page b.last.page a.to.linked b.to.linked) [
      | inl same ↦
          let last : a.last ≡ b.last = (one_link same.1 a.end b.end).0 in
          let front : a.front ≡ b.front = same.0 in
          let one : ls ≡ a.front ++ a.last ∷ [] = a.are in
          let other : ms ≡ b.front ++ b.last ∷ [] = b.are in
          cc
      | inr longer ↦ elim longer [
        | inl on ↦ absurd (on.some (one_link on.here on.there a.end).1)
        | inr on ↦ absurd (on.some (one_link on.here on.there b.end).1)
      ]
    ]

once_more : (p q n : ℕ) (b : Bool) → (p == q) ≡ b → n ≤ 1 → (p ≡ q → n ≡ 0) → n + ((if b then 1 else 0) + 0) ≤ 1
once_more p q n true e few none = let zero_here : n ≡ 0 = none (eqb-true p q e) in omega (arith, zero_here)
once_more p q n false e few none = omega (arith, few)

-- no page comes twice in a list
pub list_once : (pages : Pages) (first size : ℕ) (links : List Link) → IsListOf pages [] first size links → AreUsedOnce (pages_of_links links)
list_once pages first size links h p =
    let front = pages_of_links h.front in
    let q = h.last.page in
    let split : pages_of_links links ≡ front ++ q ∷ [] = ap pages_of_links h.are ∙ pages_append h.front (h.last ∷ []) in
    let both : times p (pages_of_links links) ≡ times p front + times p (q ∷ []) = ap (times p) split ∙ times-append p front (q ∷ []) in
    let once : times p front + ((if p == q then 1 else 0) + 0) ≤ 1 = once_more p q (times p front) (p == q) refl (h.to.once p) (λ same. subst (λ (r : ℕ). times r front ≡ 0) (sym same) h.fresh) in
    subst (λ (n : ℕ). n ≤ 1) (sym both) once
