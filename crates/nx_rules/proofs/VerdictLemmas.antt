-- Pages have one verdict at most.
use Rattle.std.proofs.Common.{◌≡◌, ◌⊎◌, ℕ, ◌<◌, ◌≤◌, List, [], ◌∷◌, ◌++◌, map, refl, sym, ap, ◌∙◌, subst, arith, inl, inr}
use Rattle.std.specs.Prelude.{Option, Some, None, IsSome, All}
use Rattle.std.specs.FinMap.{entries}
use Rattle.std.proofs.lemmas.List.Elements.{All-head, All-tail}
use Rattle.nx_replay.specs.Log.{Pages}
use Rattle.nx_holdings.specs.declared.header.Header.{Header}
use Rattle.nx_holdings.specs.Holdings.{Link, content_of}
use Rattle.nx_hold.specs.declared.entry.DocEntry.{DocEntry}
use Rattle.nx_catalog.specs.Catalog.{Contents, IsCatalog}
use Rattle.nx_catalog.proofs.CatalogLemmas.{one_contents}
use Rattle.nx_rules.specs.declared.verdict.PageRule.{PageRule}
use Rattle.nx_rules.specs.declared.verdict.PageRule.TheVariants as rule
use Rattle.nx_rules.specs.declared.verdict.Verdict.{Verdict}
use Rattle.nx_rules.specs.declared.verdict.Verdict.TheVariants.{Sound, Wrong}
use Rattle.nx_rules.specs.Listed.{HasHeaderPage, IsFreeTo, IsListOf}
use Rattle.nx_rules.specs.Walked.{ByCatalog, Named, waiting_in, AreWalkedInOrder}
use Rattle.nx_rules.specs.Tour.{Visit, HasItsNodes, IsDone, IsVisit, all_marks, Tour, IsTour, IsInUse}
use Rattle.nx_rules.specs.Broken.{BreaksHeader, BreaksFree, IsBegunWith, BreaksList, BreaksCatalogChain, BreaksCatalog, ComesNext, AtRecord, IsUnused}
use Rattle.nx_rules.specs.Verdict.{IsVerdict}
use Rattle.nx_rules.proofs.FirstLemmas.{one_head, free_kept, free_one_blame, one_free_list, list_kept, list_one_blame, one_list, list_once}
use Rattle.nx_rules.proofs.MeetLemmas.{UpTo, full, same_walk}
use Rattle.nx_rules.proofs.AheadLemmas.{none_waits}
use Rattle.nx_rules.proofs.VisitLemmas.{entered, AllUpTo, VisitsAhead, meet_visits, visits_ahead}
use Rattle.nx_rules.proofs.RuleLemmas.{Breaks, one_break, record_kept}

-- where the walk over documents and pages ends: at a record, behind a document, at a page, or nowhere
record EndsAtRecord (pages : Pages) (tour : Tour) (verdict : Verdict) : Type 0 where
  visit : Visit
  named : Named
  rule_broken : PageRule
  page : ℕ
  comes : ComesNext tour visit named
  breaks : Breaks pages tour visit named rule_broken page
  is : verdict ≡ Wrong page rule_broken

record EndsAtNodes (tour : Tour) (verdict : Verdict) : Type 0 where
  before : List Visit
  visit : Visit
  after : List Visit
  are : tour.visits ≡ before ++ visit ∷ after
  done : All IsDone before
  whole : waiting_in ByCatalog visit.walked ≡ []
  wrong : HasItsNodes visit → ⊥
  is : verdict ≡ Wrong visit.entry.root.page rule.Nodes

abbrev AreUsed : Pages → Tour → Type 0
AreUsed pages tour = ((p : ℕ) → p < tour.head.pages → IsInUse pages tour p) × ((p : ℕ) → tour.head.pages ≤ p → pages p ≡ None)

record EndsAtPages (pages : Pages) (tour : Tour) (verdict : Verdict) : Type 0 where
  done : All IsDone tour.visits
  rest : ((page : ℕ) × (verdict ≡ Wrong page rule.Unused) × IsUnused pages tour page) ⊎ ((verdict ≡ Sound) × AreUsed pages tour)

abbrev Ends : Pages → Tour → Verdict → Type 0
Ends pages tour verdict = EndsAtRecord pages tour verdict ⊎ (EndsAtNodes tour verdict ⊎ EndsAtPages pages tour verdict)

-- lists of documents, of which the first that isn't done is looked for

undone_one : (xs ys : List Visit) (x y : Visit) (r s : List Visit) → xs ++ x ∷ r ≡ ys ++ y ∷ s → All IsDone xs → All IsDone ys → (IsDone x → ⊥) → (IsDone y → ⊥) → x ≡ y
undone_one [] [] x y r s e a b f g = cc
undone_one [] (z ∷ ys) x y r s e a b f g = let same : x ≡ z = cc in absurd (f (subst (λ v. IsDone v) (sym same) (All-head IsDone z ys b)))
undone_one (z ∷ xs) [] x y r s e a b f g = let same : z ≡ y = cc in absurd (g (subst (λ v. IsDone v) same (All-head IsDone z xs a)))
undone_one (w ∷ xs) (z ∷ ys) x y r s e a b f g = let rest : xs ++ x ∷ r ≡ ys ++ y ∷ s = cc in undone_one xs ys x y r s rest (All-tail IsDone w xs a) (All-tail IsDone z ys b) f g

one_done : (xs : List Visit) (x : Visit) (r : List Visit) → All IsDone (xs ++ x ∷ r) → IsDone x
one_done [] x r a = All-head IsDone x r a
one_done (z ∷ xs) x r a = one_done xs x r (All-tail IsDone z (xs ++ x ∷ r) a)

visit_is : (v u : Visit) → entered v ≡ entered u → v.walked ≡ u.walked → v ≡ u
visit_is v u e w =
    let name : v.name ≡ u.name = ap (λ (p : List ℕ × DocEntry). p.0) e in
    let entry : v.entry ≡ u.entry = ap (λ (p : List ℕ × DocEntry). p.1) e in
    λ i. record { name = name i; entry = entry i; walked = w i }

same_visits : (vs us : List Visit) → AllUpTo vs us → AllUpTo us vs → vs ≡ us
same_visits [] [] a b = refl
same_visits [] (u ∷ us) a b = absurd a
same_visits (v ∷ vs) [] a b = absurd a
same_visits (v ∷ vs) (u ∷ us) a b =
    let first : v ≡ u = visit_is v u a.0 (same_walk v.walked u.walked a.1 b.1) in
    let rest : vs ≡ us = same_visits vs us a.2 b.2 in
    cc

whole_visit : (v u : Visit) → entered v ≡ entered u → waiting_in ByCatalog v.walked ≡ [] → UpTo v.walked u.walked → v ≡ u
whole_visit v u e none up = visit_is v u e (same_walk v.walked u.walked up (full v.walked u.walked (none_waits ByCatalog v.walked none) up))

done_visits : (vs us : List Visit) → All IsDone vs → AllUpTo vs us → vs ≡ us
done_visits [] [] d a = refl
done_visits [] (u ∷ us) d a = absurd a
done_visits (v ∷ vs) [] d a = absurd a
done_visits (v ∷ vs) (u ∷ us) d a =
    let first : v ≡ u = whole_visit v u a.0 (All-head IsDone v vs d).whole a.1 in
    let rest : vs ≡ us = done_visits vs us (All-tail IsDone v vs d) a.2 in
    cc

split_done : (before : List Visit) (v : Visit) (after us : List Visit) → All IsDone before → waiting_in ByCatalog v.walked ≡ [] → AllUpTo (before ++ v ∷ after) us → (rest : List Visit) × (us ≡ before ++ v ∷ rest)
split_done [] v after [] d none a = absurd a
split_done [] v after (u ∷ us) d none a = (us, ap (λ x. x ∷ us) (sym (whole_visit v u a.0 none a.1)))
split_done (w ∷ before) v after [] d none a = absurd a
split_done (w ∷ before) v after (u ∷ us) d none a =
    let h = split_done before v after us (All-tail IsDone w before d) none a.2 in
    let first : w ≡ u = whole_visit w u a.0 (All-head IsDone w before d).whole a.1 in
    let rest : us ≡ before ++ v ∷ h.0 = h.1 in
    (h.0, cc)

not_done : {tour : Tour} {visit : Visit} {named : Named} → ComesNext tour visit named → IsDone visit → ⊥
not_done comes done = let x = sym comes.next ∙ done.whole in absurd (cc x)

wrong_not_done : {tour : Tour} {verdict : Verdict} (e : EndsAtNodes tour verdict) → IsDone e.visit → ⊥
wrong_not_done e done = e.wrong done.nodes

first_named : (a b : Named) (x y : List Named) → a ∷ x ≡ b ∷ y → a ≡ b
first_named a b x y e = cc

no_some : (o : Option (List ℕ)) → IsSome o → o ≡ None → ⊥
no_some None s e = absurd (cc s)
no_some (Some x) s e = absurd (cc e)

same_unused : (pages : Pages) (tour : Tour) (p q : ℕ) → IsUnused pages tour p → IsUnused pages tour q → p ≡ q
same_unused pages tour p q (inl a) (inl b) =
    let f : p < q → ⊥ = λ l. a.1 (b.2 p l) in
    let g : q < p → ⊥ = λ l. b.1 (a.2 q l) in
    omega (arith, f, g)
same_unused pages tour p q (inl a) (inr b) = absurd (a.1 (b.0 p a.0))
same_unused pages tour p q (inr a) (inl b) = absurd (b.1 (a.0 q b.0))
same_unused pages tour p q (inr a) (inr b) =
    let f : p < q → ⊥ = λ l. no_some (pages q) b.2 (a.3 q l) in
    let g : q < p → ⊥ = λ l. no_some (pages p) a.2 (b.3 p l) in
    omega (arith, f, g)

used_unused : (pages : Pages) (tour : Tour) (p : ℕ) → IsUnused pages tour p → AreUsed pages tour → ⊥
used_unused pages tour p (inl a) u = a.1 (u.0 p a.0)
used_unused pages tour p (inr a) u = no_some (pages p) a.2 (u.1 p a.1)

-- one walk ends in one way
same_pages : (pages : Pages) (tour : Tour) (v w : Verdict) → EndsAtPages pages tour v → EndsAtPages pages tour w → v ≡ w
same_pages pages tour v w a b =
    elim a.rest [
      | inl x ↦ elim b.rest [
        | inl y ↦ x.1 ∙ ap (λ p. Wrong p rule.Unused) (same_unused pages tour x.0 y.0 x.2 y.2) ∙ sym y.1
        | inr y ↦ absurd (used_unused pages tour x.0 x.2 y.1)
      ]
      | inr x ↦ elim b.rest [
        | inl y ↦ absurd (used_unused pages tour y.0 y.2 x.1)
        | inr y ↦ x.0 ∙ sym y.0
      ]
    ]

same_record : (pages : Pages) (tour : Tour) (v w : Verdict) → EndsAtRecord pages tour v → EndsAtRecord pages tour w → v ≡ w
same_record pages tour v w a b =
    let visit : a.visit ≡ b.visit = undone_one a.comes.before b.comes.before a.visit b.visit a.comes.after b.comes.after (sym a.comes.are ∙ b.comes.are) a.comes.done b.comes.done (not_done a.comes) (not_done b.comes) in
    let named : a.named ≡ b.named = first_named a.named b.named a.comes.others b.comes.others (sym a.comes.next ∙ ap (λ (x : Visit). waiting_in ByCatalog x.walked) visit ∙ b.comes.next) in
    let mine : Breaks pages tour b.visit b.named a.rule_broken a.page =
    subst (λ (n : Named). Breaks pages tour b.visit n a.rule_broken a.page) named (subst (λ (x : Visit). Breaks pages tour x a.named a.rule_broken a.page) visit a.breaks) in
    let one = one_break pages tour b.visit b.named a.rule_broken b.rule_broken a.page b.page mine b.breaks in
    a.is ∙ ap (λ p. Wrong p a.rule_broken) one.1 ∙ ap (λ r. Wrong b.page r) one.0 ∙ sym b.is

-- a walk that ends at a record ends there alone
at_record : (pages : Pages) (tour : Tour) (v w : Verdict) → EndsAtRecord pages tour v → Ends pages tour w → v ≡ w
at_record pages tour v w a (inl b) = same_record pages tour v w a b
at_record pages tour v w a (inr (inl b)) =
    let visit : a.visit ≡ b.visit = undone_one a.comes.before b.before a.visit b.visit a.comes.after b.after (sym a.comes.are ∙ b.are) a.comes.done b.done (not_done a.comes) (wrong_not_done b) in
    absurd (let x = sym a.comes.next ∙ ap (λ (x : Visit). waiting_in ByCatalog x.walked) visit ∙ b.whole in cc x)
at_record pages tour v w a (inr (inr b)) = absurd (not_done a.comes (one_done a.comes.before a.visit a.comes.after (subst (λ l. All IsDone l) a.comes.are b.done)))

-- the same of tours that have come to the same
same_tour : (t u : Tour) → t.head ≡ u.head → t.free ≡ u.free → t.catalog ≡ u.catalog → t.contents ≡ u.contents → t.visits ≡ u.visits → t ≡ u
same_tour t u a b c d e = λ i. record { head = a i; free = b i; catalog = c i; contents = d i; visits = e i }

record IsBase (t u : Tour) : Type 0 where
  head : t.head ≡ u.head
  free : t.free ≡ u.free
  catalog : t.catalog ≡ u.catalog
  contents : t.contents ≡ u.contents

same_base : (pages : Pages) (t u : Tour) → IsTour pages t → IsTour pages u → IsBase t u
same_base pages t u a b =
    let head : t.head ≡ u.head = one_head pages t.head u.head a.header b.header in
    let free : t.free ≡ u.free = one_free_list pages u.head t.free u.free (subst (λ h. IsFreeTo pages h t.free 0) head a.free) b.free in
    let list : IsListOf pages [] u.head.catalog u.head.catalog_length t.catalog = subst (λ (h : Header). IsListOf pages [] h.catalog h.catalog_length t.catalog) head a.list in
    let catalog : t.catalog ≡ u.catalog = one_list pages [] [] u.head.catalog u.head.catalog_length t.catalog u.catalog list b.list in
    let says : IsCatalog (content_of u.catalog) t.contents = subst (λ (l : List Link). IsCatalog (content_of l) t.contents) catalog a.catalog in
    record { head = head; free = free; catalog = catalog; contents = one_contents (content_of u.catalog) t.contents u.contents says b.catalog }

base_back : (t u : Tour) → IsBase t u → IsBase u t
base_back t u b = record { head = sym b.head; free = sym b.free; catalog = sym b.catalog; contents = sym b.contents }

-- a walk and one that has come at least as far end in one way
one_end : (pages : Pages) (t u : Tour) (v w : Verdict) → IsTour pages t → IsTour pages u → IsBase t u → AllUpTo t.visits u.visits → Ends pages t v → Ends pages u w → v ≡ w
one_end pages t u v w kept later base up (inl a) b =
    let are = a.comes.are in
    let P = IsVisit pages t.head.settings.k in
    let each : All P u.visits = subst (λ (h : Header). All (IsVisit pages h.settings.k) u.visits) (sym base.head) later.each in
    let before = a.comes.before in
    let after = a.comes.after in
    elim (visits_ahead pages t.head.settings.k before a.visit after u.visits a.named a.comes.others (subst (λ l. AllUpTo l u.visits) are up) each
    (subst (λ l. AreWalkedInOrder (all_marks l)) are kept.order) later.order a.comes.done a.comes.next) [
      | inl back ↦
          let visits : t.visits ≡ u.visits = same_visits t.visits u.visits up (subst (λ l. AllUpTo u.visits l) (sym are) back) in
          let tour : t ≡ u = same_tour t u base.head base.free base.catalog base.contents visits in
          at_record pages u v w (subst (λ x. EndsAtRecord pages x v) tour a) b
      | inr ahead ↦
          let there : VisitsAhead pages t.head.settings.k t.visits u.visits a.visit a.named = subst (λ l. VisitsAhead pages t.head.settings.k l u.visits a.visit a.named) (sym are) ahead in
          absurd (record_kept pages t u a.visit a.named a.rule_broken a.page later (sym base.catalog) (sym base.head) there a.breaks)
    ]
one_end pages t u v w kept later base up (inr (inl a)) b =
    let split = split_done a.before a.visit a.after u.visits a.done a.whole (subst (λ l. AllUpTo l u.visits) a.are up) in
    elim b [
      | inl r ↦
          let visit : r.visit ≡ a.visit = undone_one r.comes.before a.before r.visit a.visit r.comes.after split.0 (sym r.comes.are ∙ split.1) r.comes.done a.done (not_done r.comes) (wrong_not_done a) in
          absurd (let x = sym r.comes.next ∙ ap (λ (x : Visit). waiting_in ByCatalog x.walked) visit ∙ a.whole in cc x)
      | inr x ↦ elim x [
        | inl n ↦
            let visit : a.visit ≡ n.visit = undone_one a.before n.before a.visit n.visit split.0 n.after (sym split.1 ∙ n.are) a.done n.done (wrong_not_done a) (wrong_not_done n) in
            a.is ∙ ap (λ (x : Visit). Wrong x.entry.root.page rule.Nodes) visit ∙ sym n.is
        | inr p ↦ absurd (wrong_not_done a (one_done a.before a.visit split.0 (subst (λ l. All IsDone l) split.1 p.done)))
      ]
    ]
one_end pages t u v w kept later base up (inr (inr a)) b =
    let visits : t.visits ≡ u.visits = done_visits t.visits u.visits a.done up in
    let tour : t ≡ u = same_tour t u base.head base.free base.catalog base.contents visits in
    let mine : EndsAtPages pages u v = subst (λ x. EndsAtPages pages x v) tour a in
    elim b [
      | inl r ↦ sym (at_record pages u w v r (inr (inr mine)))
      | inr x ↦ elim x [
        | inl n ↦ absurd (wrong_not_done n (one_done n.before n.visit n.after (subst (λ l. All IsDone l) n.are mine.done)))
        | inr p ↦ same_pages pages u v w mine p
      ]
    ]

-- the walk over the documents ends in one way
one_tour : (pages : Pages) (t u : Tour) (v w : Verdict) → IsTour pages t → IsTour pages u → Ends pages t v → Ends pages u w → v ≡ w
one_tour pages t u v w kept later a b =
    let base = same_base pages t u kept later in
    let names : map entered t.visits ≡ map entered u.visits = kept.named ∙ ap (λ (c : Contents). entries c.documents) base.contents ∙ sym later.named in
    let each : All (IsVisit pages t.head.settings.k) u.visits = subst (λ (h : Header). All (IsVisit pages h.settings.k) u.visits) (sym base.head) later.each in
    elim (meet_visits pages t.head.settings.k t.visits u.visits names kept.each each kept.order later.order) [
      | inl up ↦ one_end pages t u v w kept later base up a b
      | inr down ↦ sym (one_end pages u t w v later kept (base_back t u base) down b a)
    ]

-- the stages of a whole walk

record AtTour (pages : Pages) (verdict : Verdict) : Type 0 where
  tour : Tour
  kept : IsTour pages tour
  ends : Ends pages tour verdict

abbrev AtPage : (ℕ → Type 0) → PageRule → Verdict → Type 0
AtPage Breaks r verdict = (page : ℕ) × (verdict ≡ Wrong page r) × Breaks page

abbrev Fourth : Pages → Verdict → Type 0
Fourth pages verdict = AtPage (BreaksCatalog pages) rule.Catalog verdict ⊎ AtTour pages verdict

abbrev Third : Pages → Verdict → Type 0
Third pages verdict = AtPage (BreaksCatalogChain pages) rule.Chain verdict ⊎ Fourth pages verdict

abbrev Second : Pages → Verdict → Type 0
Second pages verdict = AtPage (BreaksFree pages) rule.Free verdict ⊎ Third pages verdict

abbrev Stage : Pages → Verdict → Type 0
Stage pages verdict = ((verdict ≡ Wrong 0 rule.Header) × BreaksHeader pages) ⊎ Second pages verdict

broken_at : (pages : Pages) (r : PageRule) (page : ℕ) → AtRecord pages (λ tour visit named. Breaks pages tour visit named r page) → AtTour pages (Wrong page r)
broken_at pages r page h = record { tour = h.tour; kept = h.kept; ends = inl (record { visit = h.visit; named = h.named; rule_broken = r; page = page; comes = h.comes; breaks = h.breaks; is = refl }) }

staged : (pages : Pages) (verdict : Verdict) → IsVerdict pages verdict → Stage pages verdict
staged pages Sound h =
    inr (inr (inr (inr (record { tour = h.0; kept = h.1.kept; ends = inr (inr (record { done = h.1.done; rest = inr (refl, (h.1.used, h.1.none_past)) })) }))))
staged pages (Wrong page rule.Header) h = inl (ap (λ p. Wrong p rule.Header) h.0, h.1)
staged pages (Wrong page rule.Free) h = inr (inl (page, refl, h))
staged pages (Wrong page rule.Catalog) h = inr (inr (inr (inl (page, refl, h))))
staged pages (Wrong page rule.Slotted) h = inr (inr (inr (inr (broken_at pages rule.Slotted page h))))
staged pages (Wrong page rule.Missing) h = inr (inr (inr (inr (broken_at pages rule.Missing page h))))
staged pages (Wrong page rule.Form) h = inr (inr (inr (inr (broken_at pages rule.Form page h))))
staged pages (Wrong page rule.Chain) (inl h) = inr (inr (inl (page, refl, h)))
staged pages (Wrong page rule.Chain) (inr h) = inr (inr (inr (inr (broken_at pages rule.Chain page h))))
staged pages (Wrong page rule.Roots) h = inr (inr (inr (inr (broken_at pages rule.Roots page h))))
staged pages (Wrong page rule.Twice) h = inr (inr (inr (inr (broken_at pages rule.Twice page h))))
staged pages (Wrong page rule.Document) h = inr (inr (inr (inr (broken_at pages rule.Document page h))))
staged pages (Wrong page rule.Weight) h = inr (inr (inr (inr (broken_at pages rule.Weight page h))))
staged pages (Wrong page rule.Nodes) h =
    inr (inr (inr (inr (record {
      tour = h.tour;
      kept = h.kept;
      ends = inr (inl (record { before = h.before; visit = h.visit; after = h.after; are = h.are; done = h.done; whole = h.whole; wrong = h.wrong; is = ap (λ p. Wrong p rule.Nodes) h.blamed }));
    }))))
staged pages (Wrong page rule.Unused) h =
    inr (inr (inr (inr (record { tour = h.tour; kept = h.kept; ends = inr (inr (record { done = h.done; rest = inl (page, refl, h.blamed) })) }))))

-- what a later stage knows of earlier ones
fourth_list : (pages : Pages) (v : Verdict) → Fourth pages v → (head : Header) × IsBegunWith pages head × (links : List Link) × IsListOf pages [] head.catalog head.catalog_length links
fourth_list pages v (inl a) = (a.2.head, a.2.begun, a.2.links, a.2.list)
fourth_list pages v (inr a) = (a.tour.head, record { header = a.kept.header; free = a.tour.free; whole = a.kept.free }, a.tour.catalog, a.kept.list)

third_begun : (pages : Pages) (v : Verdict) → Third pages v → (head : Header) × IsBegunWith pages head
third_begun pages v (inl a) = (a.2.head, a.2.begun)
third_begun pages v (inr a) = let x = fourth_list pages v a in (x.0, x.1)

second_head : (pages : Pages) (v : Verdict) → Second pages v → (head : Header) × HasHeaderPage pages head
second_head pages v (inl a) = (a.2.head, a.2.header)
second_head pages v (inr a) = let x = third_begun pages v a in (x.0, x.1.header)

catalog_tour : (pages : Pages) (page : ℕ) → BreaksCatalog pages page → (tour : Tour) → IsTour pages tour → ⊥
catalog_tour pages page b tour kept =
    let head : b.head ≡ tour.head = one_head pages b.head tour.head b.begun.header kept.header in
    let list : IsListOf pages [] tour.head.catalog tour.head.catalog_length b.links = subst (λ (h : Header). IsListOf pages [] h.catalog h.catalog_length b.links) head b.list in
    let links : tour.catalog ≡ b.links = one_list pages [] [] tour.head.catalog tour.head.catalog_length tour.catalog b.links kept.list list in
    b.none tour.contents (subst (λ (l : List Link). IsCatalog (content_of l) tour.contents) links kept.catalog)

same_fourth : (pages : Pages) (v w : Verdict) → Fourth pages v → Fourth pages w → v ≡ w
same_fourth pages v w (inl a) (inl b) =
    let head : a.2.head ≡ b.2.head = one_head pages a.2.head b.2.head a.2.begun.header b.2.begun.header in
    let page : a.0 ≡ b.0 = a.2.blamed ∙ ap (λ (h : Header). h.catalog) head ∙ sym b.2.blamed in
    a.1 ∙ ap (λ p. Wrong p rule.Catalog) page ∙ sym b.1
same_fourth pages v w (inl a) (inr b) = absurd (catalog_tour pages a.0 a.2 b.tour b.kept)
same_fourth pages v w (inr a) (inl b) = absurd (catalog_tour pages b.0 b.2 a.tour a.kept)
same_fourth pages v w (inr a) (inr b) = one_tour pages a.tour b.tour v w a.kept b.kept a.ends b.ends

chain_fourth : (pages : Pages) (page : ℕ) (w : Verdict) → BreaksCatalogChain pages page → Fourth pages w → ⊥
chain_fourth pages page w a b =
    let x = fourth_list pages w b in
    let head : a.head ≡ x.0 = one_head pages a.head x.0 a.begun.header x.1.header in
    let breaks : BreaksList pages [] 0 x.0.catalog x.0.catalog_length page = subst (λ (h : Header). BreaksList pages [] 0 h.catalog h.catalog_length page) head a.breaks in
    list_kept pages [] [] 0 x.0.catalog x.0.catalog_length page x.2 x.3 (list_once pages x.0.catalog x.0.catalog_length x.2 x.3) breaks

same_third : (pages : Pages) (v w : Verdict) → Third pages v → Third pages w → v ≡ w
same_third pages v w (inl a) (inl b) =
    let head : a.2.head ≡ b.2.head = one_head pages a.2.head b.2.head a.2.begun.header b.2.begun.header in
    let breaks : BreaksList pages [] 0 b.2.head.catalog b.2.head.catalog_length a.0 = subst (λ (h : Header). BreaksList pages [] 0 h.catalog h.catalog_length a.0) head a.2.breaks in
    a.1 ∙ ap (λ p. Wrong p rule.Chain) (list_one_blame pages [] 0 b.2.head.catalog b.2.head.catalog_length a.0 b.0 breaks b.2.breaks) ∙ sym b.1
same_third pages v w (inl a) (inr b) = absurd (chain_fourth pages a.0 w a.2 b)
same_third pages v w (inr a) (inl b) = absurd (chain_fourth pages b.0 v b.2 a)
same_third pages v w (inr a) (inr b) = same_fourth pages v w a b

same_second : (pages : Pages) (v w : Verdict) → Second pages v → Second pages w → v ≡ w
same_second pages v w (inl a) (inl b) = a.1 ∙ ap (λ p. Wrong p rule.Free) (free_one_blame pages a.0 b.0 a.2 b.2) ∙ sym b.1
same_second pages v w (inl a) (inr b) = let x = third_begun pages w b in absurd (free_kept pages a.0 a.2 x.0 x.1)
same_second pages v w (inr a) (inl b) = let x = third_begun pages v a in absurd (free_kept pages b.0 b.2 x.0 x.1)
same_second pages v w (inr a) (inr b) = same_third pages v w a b

same_stage : (pages : Pages) (v w : Verdict) → Stage pages v → Stage pages w → v ≡ w
same_stage pages v w (inl a) (inl b) = a.0 ∙ sym b.0
same_stage pages v w (inl a) (inr b) = let x = second_head pages w b in absurd (a.1.1 x.0 x.1)
same_stage pages v w (inr a) (inl b) = let x = second_head pages v a in absurd (b.1.1 x.0 x.1)
same_stage pages v w (inr a) (inr b) = same_second pages v w a b

-- pages have one verdict at most
pub one_verdict : (pages : Pages) (one other : Verdict) → IsVerdict pages one → IsVerdict pages other → one ≡ other
one_verdict pages one other a b = same_stage pages one other (staged pages one a) (staged pages other b)
