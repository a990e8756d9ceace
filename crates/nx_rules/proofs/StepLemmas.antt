-- A record that keeps the rules leads the walk on.
use Rattle.std.proofs.Common.{◌≡◌, ◌⊎◌, ℕ, ◌≤◌, Bool, true, false, List, [], ◌∷◌, ◌++◌, map, refl, sym, ap, ◌∙◌, subst, inl, inr, append_assoc, append-nil}
use Rattle.std.specs.Prelude.{if◌then◌else◌, Contains, All}
use Rattle.std.proofs.lemmas.List.Elements.{All-head, All-tail, All-cons}
use Rattle.nx_replay.specs.Log.{Pages}
use Rattle.nx_holdings.specs.Holdings.{Link, content_of, pages_of_links}
use Rattle.nx_piece.specs.declared.piece.Proxy.{Proxy}
use Rattle.nx_piece.specs.Gapped.{Gapped, Grow, gapped_size, gapped_width}
use Rattle.nx_cuts.specs.Cut.{Bare, Grown, Kept, width}
use Rattle.nx_layouts.specs.Layout.{RecordPlace, LaidNode, in_record, gap_more, proxy_of, ArePlacedOnce}
use Rattle.nx_layouts.proofs.PlaceLemmas.{no_place, one_place, once-append}
use Rattle.nx_hold.specs.declared.entry.DocEntry.{DocEntry}
use Rattle.nx_hold.specs.Changes.{place_of}
use Rattle.nx_rules.specs.Listed.{AreUsedOnce}
use Rattle.nx_rules.specs.Walked.{Mark, Reached, Waits, Walked, marks_of, records_reached, links_behind, links_in, Namer, ByCatalog, ByRecord, Named, named_place, waiting_in, WaitAll, AreWalkedInOrder, walked_body, walked_proxies, content_in, contents_apart, SaysPiece, HoldsRecord, AreRead, AreAllLight}
use Rattle.nx_rules.specs.Tour.{Visit, IsFromRoot, IsVisit, IsDone, all_marks, all_reached, all_links, Tour, used_in, IsTour}
use Rattle.nx_rules.specs.Broken.{waits, reached_first, ComesNext, IsReadFirst, HasRoots}
use Rattle.nx_rules.specs.Laws.{RecordComes}
use Rattle.nx_rules.proofs.FirstLemmas.{pages_append}
use Rattle.nx_rules.proofs.MeetLemmas.{NoneWait, wait_left, wait_right, order_left, order_right, order_split}
use Rattle.nx_rules.proofs.AheadLemmas.{none_reached, none_waits, waits_none, first_of_two, waits_true, waits_false}
use Rattle.nx_rules.proofs.RuleLemmas.{width_trees}
use Rattle.nx_rules.proofs.VisitLemmas.{has_trees, entered}

order_front : (xs ys : List Mark) → AreWalkedInOrder xs → WaitAll ys → AreWalkedInOrder (xs ++ ys)
order_front [] ys o w = wait_order ys w where
  wait_order : (ys : List Mark) → WaitAll ys → AreWalkedInOrder ys
  wait_order [] w = tt
  wait_order (Reached p cs ∷ ys) w = absurd w
  wait_order (Waits x ∷ ys) w = w
order_front (Reached p cs ∷ xs) ys o w = order_front xs ys o w
order_front (Waits x ∷ xs) ys o w = wait_both xs ys o w where
  wait_both : (xs ys : List Mark) → WaitAll xs → WaitAll ys → WaitAll (xs ++ ys)
  wait_both [] ys v w = w
  wait_both (Reached p cs ∷ xs) ys v w = absurd v
  wait_both (Waits x ∷ xs) ys v w = wait_both xs ys v w

order_behind : (xs ys : List Mark) → NoneWait xs → AreWalkedInOrder ys → AreWalkedInOrder (xs ++ ys)
order_behind [] ys n o = o
order_behind (Reached p cs ∷ xs) ys n o = order_behind xs ys n o
order_behind (Waits x ∷ xs) ys n o = absurd n

-- The first record that waits was reached.
record Reaches (pages : Pages) (k : ℕ) (named : Named) (chains : List (List Link)) (new w v : Walked) : Type 0 where
  body : walked_body v ≡ walked_body w
  contents : contents_apart v ≡ contents_apart w
  proxies : width new ≡ named.proxy.roots → walked_proxies v ≡ walked_proxies w
  read : AreRead pages v
  light : AreAllLight k v
  order : AreWalkedInOrder (marks_of v)
  reached : records_reached v ≡ records_reached w ++ named_place named ∷ []
  links : links_in v ≡ links_in w ++ links_behind chains

-- ... in the first of two parts, or in the second
record FirstReaches (pages : Pages) (k : ℕ) (named : Named) (chains : List (List Link)) (new b s : Walked) : Type 0 where
  waits_here : waits b ≡ true
  goes : Reaches pages k named chains new b (reached_first (named_place named) chains new b)
  wait : WaitAll (marks_of s)

record SecondReaches (pages : Pages) (k : ℕ) (named : Named) (chains : List (List Link)) (new b s : Walked) : Type 0 where
  waits_not : waits b ≡ false
  goes : Reaches pages k named chains new s (reached_first (named_place named) chains new s)
  none : NoneWait (marks_of b)

two_reach : (pages : Pages) (k : ℕ) (named : Named) (chains : List (List Link)) (new b s : Walked) (by other : Namer) (others : List Named) → AreWalkedInOrder (marks_of b ++ marks_of s) → waiting_in by b ++ waiting_in other s ≡ named ∷ others
    → ((more : List Named) → waiting_in by b ≡ named ∷ more → Reaches pages k named chains new b (reached_first (named_place named) chains new b))
    → (waiting_in other s ≡ named ∷ others → Reaches pages k named chains new s (reached_first (named_place named) chains new s))
    → FirstReaches pages k named chains new b s ⊎ SecondReaches pages k named chains new b s
two_reach pages k named chains new b s by other others o e first second =
    elim (first_of_two (waiting_in by b) (waiting_in other s) named others e) [
      | inl h ↦
          let wait : WaitAll (marks_of s) = elim (order_split (marks_of b) (marks_of s) o) [ inl w ↦ w | inr none ↦ absurd (let x = sym (waits_none by b none) ∙ h.1 in cc x) ] in
          inl (record { waits_here = waits_true by b named h.0 h.1; goes = first h.0 h.1; wait = wait })
      | inr h ↦ inr (record { waits_not = waits_false by b h.0; goes = second h.1; none = none_waits by b h.0 })
    ]

more_front : {A : Type 0} (b s more : List A) → s ≡ [] → (b ++ more) ++ s ≡ (b ++ s) ++ more
more_front b s more none = ap (λ l. (b ++ more) ++ l) none ∙ append-nil (b ++ more) ∙ ap (λ l. l ++ more) (sym (append-nil b) ∙ ap (λ l. b ++ l) (sym none))

module _ (pages : Pages) (k : ℕ) (named : Named) (chains : List (List Link)) (new : Walked) (holds : HoldsRecord pages (named_place named) new chains) (read_new : AreRead pages new) (wait_new : WaitAll (marks_of new))
    (light_new : gapped_size (walked_body new) ≤ k) where
  abbrev place : RecordPlace
  place = named_place named

  light_waits : (w : Walked) → WaitAll (marks_of w) → AreRead pages w → AreAllLight k w
  light_waits Bare w r = tt
  light_waits (Grown n b s) w r = (light_waits b (wait_left (marks_of b) (marks_of s) w) r.0, light_waits s (wait_right (marks_of b) (marks_of s) w) r.1)
  light_waits (Kept (Reached p cs) b s) w r = absurd w
  light_waits (Kept (Waits x) b s) w r = light_waits s (wait_right (marks_of b) (marks_of s) w) r.1

  -- a row of a node and what is beside it
  grown_first : (n : LaidNode) (b s : Walked) → AreRead pages s → AreAllLight k s → FirstReaches pages k named chains new b s → Reaches pages k named chains new (Grown n b s) (Grown n (reached_first place chains new b) s)
  grown_first n b s rs ls h =
      let v = reached_first place chains new b in
      let none = none_reached s h.wait in
      record {
        body = ap (λ (g : Gapped). Grow (in_record n) g (walked_body s)) h.goes.body;
        contents = ap (λ (l : List (List ℕ)). content_in n.node.content n.list ++ (l ++ contents_apart s)) h.goes.contents;
        proxies = λ wide. ap (λ (l : List Proxy). l ++ walked_proxies s) (h.goes.proxies wide);
        read = (h.goes.read, rs);
        light = (h.goes.light, ls);
        order = order_front (marks_of v) (marks_of s) h.goes.order h.wait;
        reached = ap (λ (l : List RecordPlace). l ++ records_reached s) h.goes.reached ∙ more_front (records_reached b) (records_reached s) (place ∷ []) none.0;
        links = ap (λ (l : List Link). l ++ links_in s) h.goes.links ∙ more_front (links_in b) (links_in s) (links_behind chains) none.1;
      }

  grown_second : (n : LaidNode) (b s : Walked) → AreRead pages b → AreAllLight k b → SecondReaches pages k named chains new b s → Reaches pages k named chains new (Grown n b s) (Grown n b (reached_first place chains new s))
  grown_second n b s rb lb h =
      let v = reached_first place chains new s in
      record {
        body = ap (λ (g : Gapped). Grow (in_record n) (walked_body b) g) h.goes.body;
        contents = ap (λ (l : List (List ℕ)). content_in n.node.content n.list ++ (contents_apart b ++ l)) h.goes.contents;
        proxies = λ wide. ap (λ (l : List Proxy). walked_proxies b ++ l) (h.goes.proxies wide);
        read = (rb, h.goes.read);
        light = (lb, h.goes.light);
        order = order_behind (marks_of b) (marks_of v) h.none h.goes.order;
        reached = ap (λ (l : List RecordPlace). records_reached b ++ l) h.goes.reached ∙ sym (append_assoc (records_reached b) (records_reached s) (place ∷ []));
        links = ap (λ (l : List Link). links_in b ++ l) h.goes.links ∙ sym (append_assoc (links_in b) (links_in s) (links_behind chains));
      }

  -- a record that was reached holds the same where one below it was reached
  holds_same : (p : RecordPlace) (cs : List (List Link)) (m v : Walked) → walked_body v ≡ walked_body m → contents_apart v ≡ contents_apart m → walked_proxies v ≡ walked_proxies m → HoldsRecord pages p m cs → HoldsRecord pages p v cs
  holds_same p cs m v body contents proxies h = record {
    stored = h.stored;
    there = h.there;
    roots = h.roots ∙ sym body;
    stand = h.stand;
    says = subst (λ (l : List Proxy). SaysPiece h.stored l (contents_apart v) (map content_of cs)) (sym proxies) (subst (λ (l : List (List ℕ)). SaysPiece h.stored (walked_proxies m) l (map content_of cs)) (sym contents) h.says);
  }

  kept_first : (p : RecordPlace) (cs : List (List Link)) (m s : Walked) → width new ≡ named.proxy.roots → HoldsRecord pages p m cs → gapped_size (walked_body m) ≤ k → AreRead pages s → AreAllLight k s → FirstReaches pages k named chains new m s
      → Reaches pages k named chains new (Kept (Reached p cs) m s) (Kept (Reached p cs) (reached_first place chains new m) s)
  kept_first p cs m s wide hm lm rs ls h =
      let v = reached_first place chains new m in
      let none = none_reached s h.wait in
      let body : walked_body v ≡ walked_body m = h.goes.body in
      let mine = holds_same p cs m v body h.goes.contents (h.goes.proxies wide) hm in
      let same : width v ≡ width m = width_trees v (has_trees mine).trees ∙ ap gapped_width body ∙ sym (width_trees m (has_trees hm).trees) in
      record {
        body = refl;
        contents = refl;
        proxies = λ wide. ap (λ (n : ℕ). proxy_of p n ∷ walked_proxies s) same;
        read = (mine, h.goes.read, rs);
        light = (subst (λ (g : Gapped). gapped_size g ≤ k) (sym body) lm, h.goes.light, ls);
        order = order_front (marks_of v) (marks_of s) h.goes.order h.wait;
        reached = ap (λ (l : List RecordPlace). p ∷ l ++ records_reached s) h.goes.reached ∙ ap (λ (l : List RecordPlace). p ∷ l) (more_front (records_reached m) (records_reached s) (place ∷ []) none.0);
        links = ap (λ (l : List Link). (links_behind cs ++ l) ++ links_in s) h.goes.links ∙ ap (λ (l : List Link). l ++ links_in s) (sym (append_assoc (links_behind cs) (links_in m) (links_behind chains)))
            ∙ more_front (links_behind cs ++ links_in m) (links_in s) (links_behind chains) none.1;
      }

  kept_second : (p : RecordPlace) (cs : List (List Link)) (m s : Walked) → HoldsRecord pages p m cs → gapped_size (walked_body m) ≤ k → AreRead pages m → AreAllLight k m → SecondReaches pages k named chains new m s
      → Reaches pages k named chains new (Kept (Reached p cs) m s) (Kept (Reached p cs) m (reached_first place chains new s))
  kept_second p cs m s hm lm rm ls h =
      let v = reached_first place chains new s in
      record {
        body = ap gap_more h.goes.body;
        contents = h.goes.contents;
        proxies = λ wide. ap (λ (l : List Proxy). proxy_of p (width m) ∷ l) (h.goes.proxies wide);
        read = (hm, rm, h.goes.read);
        light = (lm, ls, h.goes.light);
        order = order_behind (marks_of m) (marks_of v) h.none h.goes.order;
        reached = ap (λ (l : List RecordPlace). p ∷ records_reached m ++ l) h.goes.reached ∙ ap (λ (l : List RecordPlace). p ∷ l) (sym (append_assoc (records_reached m) (records_reached s) (place ∷ [])));
        links = ap (λ (l : List Link). (links_behind cs ++ links_in m) ++ l) h.goes.links ∙ sym (append_assoc (links_behind cs ++ links_in m) (links_in s) (links_behind chains));
      }

  -- the record that waits itself
  proxy_is : (x : Proxy) (n : ℕ) → n ≡ x.roots → proxy_of (record { page = x.page; slot = x.slot }) n ≡ x
  proxy_is x n e = λ i. record { page = x.page; slot = x.slot; roots = e i }

  kept_here : (by : Namer) (x : Proxy) (s : Walked) → named ≡ record { by = by; proxy = x } → WaitAll (marks_of s) → AreRead pages s → AreAllLight k s → Reaches pages k named chains new (Kept (Waits x) Bare s) (Kept (Reached place chains) new s)
  kept_here by x s is wait rs ls =
      let none = none_reached s wait in
      let own = none_reached new wait_new in
      let proxy : named.proxy ≡ x = ap (λ (n : Named). n.proxy) is in
      record {
        body = refl;
        contents = refl;
        proxies = λ wide. ap (λ (y : Proxy). y ∷ walked_proxies s) (proxy_is named.proxy (width new) wide ∙ proxy);
        read = (holds, read_new, rs);
        light = (light_new, light_waits new wait_new read_new, ls);
        order = order_front (marks_of new) (marks_of s) (order_front [] (marks_of new) tt wait_new) wait;
        reached = ap (λ (l : List RecordPlace). place ∷ l ++ records_reached s) own.0 ∙ ap (λ (l : List RecordPlace). place ∷ l) none.0 ∙ ap (λ (l : List RecordPlace). l ++ place ∷ []) (sym none.0);
        links = ap (λ (l : List Link). (links_behind chains ++ l) ++ links_in s) own.1 ∙ ap (λ (l : List Link). (links_behind chains ++ []) ++ l) none.1 ∙ append-nil (links_behind chains ++ []) ∙ append-nil (links_behind chains)
            ∙ ap (λ (l : List Link). l ++ links_behind chains) (sym none.1);
      }

  reaches : (w : Walked) → width new ≡ named.proxy.roots → AreRead pages w → AreAllLight k w → AreWalkedInOrder (marks_of w) → (by : Namer) (others : List Named) → waiting_in by w ≡ named ∷ others
      → Reaches pages k named chains new w (reached_first place chains new w)
  reaches Bare wide r l o by others e = absurd (cc)
  reaches (Grown n b s) wide r l o by others e =
      let P : Bool → Type 0 = λ w. Reaches pages k named chains new (Grown n b s) (if w then Grown n (reached_first place chains new b) s else Grown n b (reached_first place chains new s)) in
      elim (two_reach pages k named chains new b s by by others o e
      (λ more f. reaches b wide r.0 l.0 (order_left (marks_of b) (marks_of s) o) by more f) (λ f. reaches s wide r.1 l.1 (order_right (marks_of b) (marks_of s) o) by others f)) [
        | inl h ↦ subst P (sym h.waits_here) (grown_first n b s r.1 l.1 h)
        | inr h ↦ subst P (sym h.waits_not) (grown_second n b s r.0 l.0 h)
      ]
  reaches (Kept (Reached p cs) m s) wide r l o by others e =
      let P : Bool → Type 0 = λ w. Reaches pages k named chains new (Kept (Reached p cs) m s) (if w then Kept (Reached p cs) (reached_first place chains new m) s else Kept (Reached p cs) m (reached_first place chains new s)) in
      elim (two_reach pages k named chains new m s (ByRecord p.page) by others o e
      (λ more f. reaches m wide r.1 l.1 (order_left (marks_of m) (marks_of s) o) (ByRecord p.page) more f) (λ f. reaches s wide r.2 l.2 (order_right (marks_of m) (marks_of s) o) by others f)) [
        | inl h ↦ subst P (sym h.waits_here) (kept_first p cs m s wide r.0 l.0 r.2 l.2 h)
        | inr h ↦ subst P (sym h.waits_not) (kept_second p cs m s r.0 l.0 r.1 l.1 h)
      ]
  reaches (Kept (Waits x) b s) wide r l o by others e =
      let is : named ≡ record { by = by; proxy = x } = cc in
      subst (λ (m : Walked). Reaches pages k named chains new (Kept (Waits x) m s) (Kept (Reached place chains) new s)) (sym r.0) (kept_here by x s is (wait_right (marks_of b) (marks_of s) o) r.1 l)

  -- the record that the catalog names, whatever number of roots it has
  root_reaches : (x : Proxy) → named ≡ record { by = ByCatalog; proxy = x } → Reaches pages k named chains new (Kept (Waits x) Bare Bare) (Kept (Reached place chains) new Bare)
  root_reaches x is = kept_here ByCatalog x Bare is tt tt tt

-- a record that one names isn't named by the catalog
by_record : (p : ℕ) (w : Walked) (named : Named) (others : List Named) → waiting_in (ByRecord p) w ≡ named ∷ others → named.by ≡ ByCatalog → ⊥
by_record p Bare named others e is = cc
by_record p (Grown n b s) named others e is =
    elim (first_of_two (waiting_in (ByRecord p) b) (waiting_in (ByRecord p) s) named others e) [
      | inl h ↦ by_record p b named h.0 h.1 is
      | inr h ↦ by_record p s named others h.1 is
    ]
by_record p (Kept (Reached q cs) m s) named others e is =
    elim (first_of_two (waiting_in (ByRecord q.page) m) (waiting_in (ByRecord p) s) named others e) [
      | inl h ↦ by_record q.page m named h.0 h.1 is
      | inr h ↦ by_record p s named others h.1 is
    ]
by_record p (Kept (Waits x) m s) named others e is =
    let first : record { by = ByRecord p; proxy = x } ≡ named = cc in
    let same : ByRecord p ≡ ByCatalog = ap (λ (n : Named). n.by) first ∙ is in
    cc

-- The documents with that of the record gone on.
pub record StepOn (named : Named) (chains : List (List Link)) (vs us : List Visit) : Type 0 where
  pub order : AreWalkedInOrder (all_marks us)
  pub reached : all_reached us ≡ all_reached vs ++ named_place named ∷ []
  pub links : all_links us ≡ all_links vs ++ links_behind chains

none_visited : (vs : List Visit) → WaitAll (all_marks vs) → (all_reached vs ≡ []) × (all_links vs ≡ [])
none_visited [] w = (refl, refl)
none_visited (v ∷ vs) w =
    let x = none_reached v.walked (wait_left (marks_of v.walked) (all_marks vs) w) in
    let y = none_visited vs (wait_right (marks_of v.walked) (all_marks vs) w) in
    (ap (λ l. l ++ all_reached vs) x.0 ∙ y.0, ap (λ l. l ++ all_links vs) x.1 ∙ y.1)

step_here : (pages : Pages) (k : ℕ) (named : Named) (chains : List (List Link)) (new : Walked) (v u : Visit) (after : List Visit) → Reaches pages k named chains new v.walked u.walked → WaitAll (all_marks after) → StepOn named chains (v ∷ after) (u ∷ after)
step_here pages k named chains new v u after h wait =
    let none = none_visited after wait in
    record {
      order = order_front (marks_of u.walked) (all_marks after) h.order wait;
      reached = ap (λ (l : List RecordPlace). l ++ all_reached after) h.reached ∙ more_front (records_reached v.walked) (all_reached after) (named_place named ∷ []) none.0;
      links = ap (λ (l : List Link). l ++ all_links after) h.links ∙ more_front (links_in v.walked) (all_links after) (links_behind chains) none.1;
    }

step_later : (named : Named) (chains : List (List Link)) (v : Visit) (vs us : List Visit) → NoneWait (marks_of v.walked) → StepOn named chains vs us → StepOn named chains (v ∷ vs) (v ∷ us)
step_later named chains v vs us none h = record {
  order = order_behind (marks_of v.walked) (all_marks us) none h.order;
  reached = ap (λ (l : List RecordPlace). records_reached v.walked ++ l) h.reached ∙ sym (append_assoc (records_reached v.walked) (all_reached vs) (named_place named ∷ []));
  links = ap (λ (l : List Link). links_in v.walked ++ l) h.links ∙ sym (append_assoc (links_in v.walked) (all_links vs) (links_behind chains));
}

steps_on : (pages : Pages) (k : ℕ) (named : Named) (chains : List (List Link)) (new : Walked) (before : List Visit) (v u : Visit) (after : List Visit) → All IsDone before → AreWalkedInOrder (all_marks (before ++ v ∷ after))
    → (AreWalkedInOrder (marks_of v.walked) → Reaches pages k named chains new v.walked u.walked) → (NoneWait (marks_of v.walked) → ⊥) → StepOn named chains (before ++ v ∷ after) (before ++ u ∷ after)
steps_on pages k named chains new [] v u after done o h waits_some =
    let wait : WaitAll (all_marks after) = elim (order_split (marks_of v.walked) (all_marks after) o) [ inl w ↦ w | inr none ↦ absurd (waits_some none) ] in
    step_here pages k named chains new v u after (h (order_left (marks_of v.walked) (all_marks after) o)) wait
steps_on pages k named chains new (b ∷ before) v u after done o h waits_some =
    step_later named chains b (before ++ v ∷ after) (before ++ u ∷ after) (none_waits ByCatalog b.walked (All-head IsDone b before done).whole)
    (steps_on pages k named chains new before v u after (All-tail IsDone b before done) (order_right (marks_of b.walked) (all_marks (before ++ v ∷ after)) o) h waits_some)

all_with : (P : Visit → Type 0) (before : List Visit) (v u : Visit) (after : List Visit) → All P (before ++ v ∷ after) → P u → All P (before ++ u ∷ after)
all_with P [] v u after all is = All-cons P u after is (All-tail P v after all)
all_with P (b ∷ before) v u after all is = All-cons P b (before ++ u ∷ after) (All-head P b (before ++ v ∷ after) all) (all_with P before v u after (All-tail P b (before ++ v ∷ after) all) is)

pub one_of : (P : Visit → Type 0) (before : List Visit) (v : Visit) (after : List Visit) → All P (before ++ v ∷ after) → P v
one_of P [] v after all = All-head P v after all
one_of P (b ∷ before) v after all = one_of P before v after (All-tail P b (before ++ v ∷ after) all)

entered_same : (before : List Visit) (v u : Visit) (after : List Visit) → entered u ≡ entered v → map entered (before ++ u ∷ after) ≡ map entered (before ++ v ∷ after)
entered_same [] v u after e = ap (λ (p : List ℕ × DocEntry). p ∷ map entered after) e
entered_same (b ∷ before) v u after e = ap (λ (l : List (List ℕ × DocEntry)). entered b ∷ l) (entered_same before v u after e)

-- what is known of the document where the record came
record VisitReaches (pages : Pages) (k : ℕ) (named : Named) (chains : List (List Link)) (new : Walked) (visit : Visit) : Type 0 where
  root : IsFromRoot visit.entry (reached_first (named_place named) chains new visit.walked)
  goes : AreWalkedInOrder (marks_of visit.walked) → Reaches pages k named chains new visit.walked (reached_first (named_place named) chains new visit.walked)

visit_reaches : (pages : Pages) (k : ℕ) (named : Named) (chains : List (List Link)) (new : Walked) (visit : Visit) (others : List Named) → HoldsRecord pages (named_place named) new chains → AreRead pages new → WaitAll (marks_of new)
    → gapped_size (walked_body new) ≤ k → IsVisit pages k visit → HasRoots named new → waiting_in ByCatalog visit.walked ≡ named ∷ others → VisitReaches pages k named chains new visit
visit_reaches pages k named chains new visit others holds read wait light is roots e = by_root is.root where
  first_named : (a b : Named) (xs ys : List Named) → a ∷ xs ≡ b ∷ ys → b ≡ a
  first_named a b xs ys e = cc

  by_root : IsFromRoot visit.entry visit.walked → VisitReaches pages k named chains new visit
  by_root (inl h) =
      let x : Proxy = proxy_of (place_of visit.entry.root) 1 in
      let named_is : named ≡ record { by = ByCatalog; proxy = x } = first_named (record { by = ByCatalog; proxy = x }) named [] others (ap (waiting_in ByCatalog) (sym h) ∙ e) in
      let here : named_place named ≡ place_of visit.entry.root = ap named_place named_is in
      record {
        root = subst (λ (w : Walked). IsFromRoot visit.entry (reached_first (named_place named) chains new w)) (sym h)
            (inr (chains, new, ap (λ (p : RecordPlace). Kept (Reached p chains) new Bare) here));
        goes = λ o. subst (λ (w : Walked). Reaches pages k named chains new w (reached_first (named_place named) chains new w)) (sym h) (root_reaches pages k named chains new holds read wait light x named_is);
      }
  by_root (inr h) =
      let root = place_of visit.entry.root in
      let w = Kept (Reached root h.0) h.1 Bare in
      let inside : waiting_in (ByRecord root.page) h.1 ≡ named ∷ others = sym (append-nil (waiting_in (ByRecord root.page) h.1)) ∙ ap (waiting_in ByCatalog) (sym h.2) ∙ e in
      let wide : width new ≡ named.proxy.roots = elim roots [ inl cat ↦ absurd (by_record root.page h.1 named others inside cat) | inr wide ↦ wide ] in
      let read_w : AreRead pages w = subst (λ (x : Walked). AreRead pages x) h.2 is.read in
      let light_w : AreAllLight k w = subst (λ (x : Walked). AreAllLight k x) h.2 is.light in
      let e_w : waiting_in ByCatalog w ≡ named ∷ others = ap (waiting_in ByCatalog) (sym h.2) ∙ e in
      let inner = reached_first (named_place named) chains new h.1 in
      record {
        root = subst (λ (x : Walked). IsFromRoot visit.entry (reached_first (named_place named) chains new x)) (sym h.2) (inr (either (waits h.1) root h.0 inner h.1));
        goes = λ o. subst (λ (x : Walked). Reaches pages k named chains new x (reached_first (named_place named) chains new x)) (sym h.2)
            (reaches pages k named chains new holds read wait light w wide read_w light_w (subst (λ (x : Walked). AreWalkedInOrder (marks_of x)) h.2 o) ByCatalog others e_w);
      }
    where
      either : (b : Bool) (root : RecordPlace) (cs : List (List Link)) (x y : Walked) → (links : List (List Link)) × (members : Walked) × ((if b then Kept (Reached root cs) x Bare else Kept (Reached root cs) y Bare) ≡ Kept (Reached root links) members Bare)
      either true root cs x y = (cs, x, refl)
      either false root cs x y = (cs, y, refl)

once_more : (xs : List RecordPlace) (x : RecordPlace) → ArePlacedOnce xs → (Contains xs x → ⊥) → ArePlacedOnce (xs ++ x ∷ [])
once_more xs x once fresh = once-append xs (x ∷ []) once ((λ h. no_place x h), tt) (λ y among one. fresh (subst (λ (z : RecordPlace). Contains xs z) (one_place x y one) among))

-- What was reached is this record more, and its lists are used.
pub step_on : (pages : Pages) (tour : Tour) (visit : Visit) (named : Named) (chains : List (List Link)) (new : Walked) → IsTour pages tour → (comes : ComesNext tour visit named) → IsReadFirst pages tour named chains new → HasRoots named new
    → gapped_size (walked_body new) ≤ tour.head.settings.k → StepOn named chains (comes.before ++ visit ∷ comes.after) (comes.before ++ record visit { walked = reached_first (named_place named) chains new visit.walked } ∷ comes.after)
step_on pages tour visit named chains new kept comes read roots light =
    let k = tour.head.settings.k in
    let u : Visit = record visit { walked = reached_first (named_place named) chains new visit.walked } in
    let before = comes.before in
    let after = comes.after in
    let is = one_of (IsVisit pages k) before visit after (subst (λ (l : List Visit). All (IsVisit pages k) l) comes.are kept.each) in
    let v = visit_reaches pages k named chains new visit comes.others read.holds read.read read.wait light is roots comes.next in
    let order : AreWalkedInOrder (all_marks (before ++ visit ∷ after)) = subst (λ (l : List Visit). AreWalkedInOrder (all_marks l)) comes.are kept.order in
    let some : NoneWait (marks_of visit.walked) → ⊥ = λ none. (let x = sym (waits_none ByCatalog visit.walked none) ∙ comes.next in cc x) in
    steps_on pages k named chains new before visit u after comes.done order v.goes some

pub record_comes : RecordComes
record_comes pages tour visit named chains new kept comes read roots stands light =
    let k = tour.head.settings.k in
    let place = named_place named in
    let u : Visit = record visit { walked = reached_first place chains new visit.walked } in
    let before = comes.before in
    let after = comes.after in
    let all : All (IsVisit pages k) (before ++ visit ∷ after) = subst (λ (l : List Visit). All (IsVisit pages k) l) comes.are kept.each in
    let is = one_of (IsVisit pages k) before visit after all in
    let v = visit_reaches pages k named chains new visit comes.others read.holds read.read read.wait light is roots comes.next in
    let order : AreWalkedInOrder (all_marks (before ++ visit ∷ after)) = subst (λ (l : List Visit). AreWalkedInOrder (all_marks l)) comes.are kept.order in
    let step = step_on pages tour visit named chains new kept comes read roots light in
    let reached : all_reached (before ++ u ∷ after) ≡ all_reached tour.visits ++ place ∷ [] = step.reached ∙ ap (λ (l : List Visit). all_reached l ++ place ∷ []) (sym comes.are) in
    let links : all_links (before ++ u ∷ after) ≡ all_links tour.visits ++ links_behind chains = step.links ∙ ap (λ (l : List Visit). all_links l ++ links_behind chains) (sym comes.are) in
    let used : pages_of_links (tour.catalog ++ all_links (before ++ u ∷ after)) ≡ used_in tour ++ pages_of_links (links_behind chains) =
    ap (λ (l : List Link). pages_of_links (tour.catalog ++ l)) links ∙ ap pages_of_links (sym (append_assoc tour.catalog (all_links tour.visits) (links_behind chains)))
    ∙ pages_append (tour.catalog ++ all_links tour.visits) (links_behind chains) in
    let was : AreWalkedInOrder (marks_of visit.walked) = one_order before visit after comes.done order in
    record {
      header = kept.header;
      free = kept.free;
      list = kept.list;
      catalog = kept.catalog;
      named = entered_same before visit u after refl ∙ ap (map entered) (sym comes.are) ∙ kept.named;
      each = all_with (IsVisit pages k) before visit u after all (record { root = v.root; read = (v.goes was).read; document = stands; light = (v.goes was).light });
      order = step.order;
      once = subst (λ (l : List RecordPlace). ArePlacedOnce l) (sym reached) (once_more (all_reached tour.visits) place kept.once read.fresh);
      lists_once = subst (λ (l : List ℕ). AreUsedOnce l) (sym used) read.unused;
    }
  where
    one_order : (before : List Visit) (v : Visit) (after : List Visit) → All IsDone before → AreWalkedInOrder (all_marks (before ++ v ∷ after)) → AreWalkedInOrder (marks_of v.walked)
    one_order [] v after done o = order_left (marks_of v.walked) (all_marks after) o
    one_order (b ∷ before) v after done o = one_order before v after (All-tail IsDone b before done) (order_right (marks_of b.walked) (all_marks (before ++ v ∷ after)) o)
