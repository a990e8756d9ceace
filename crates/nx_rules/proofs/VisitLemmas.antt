-- Of two walks over the documents of one catalog, one has come as far as the other.
use Rattle.std.proofs.Common.{◌≡◌, ◌⊎◌, ℕ, ◌≤◌, List, [], ◌∷◌, ◌++◌, map, refl, sym, ap, ◌∙◌, subst, arith, inl, inr, append_assoc}
use Rattle.std.specs.Prelude.{All}
use Rattle.std.proofs.lemmas.List.Elements.{All-head, All-tail}
use Rattle.nx_tree.specs.Forest.{Empty, Plant}
use Rattle.nx_replay.specs.Log.{Pages}
use Rattle.nx_holdings.specs.Holdings.{Link}
use Rattle.nx_piece.specs.declared.piece.Stored.{Stored}
use Rattle.nx_piece.specs.declared.piece.Stored.TheVariants.{Inline, Chained}
use Rattle.nx_piece.specs.Gapped.{Gapped, End, Grow, Gap, gapped_size, gapped_width as body_width}
use Rattle.nx_piece.specs.Valid.{IsValid, AreTrees}
use Rattle.nx_cuts.specs.Cut.{Bare, Grown, Kept, width, joined}
use Rattle.nx_layouts.specs.Layout.{RecordPlace, proxy_of, gap_more}
use Rattle.nx_hold.specs.declared.entry.DocEntry.{DocEntry}
use Rattle.nx_hold.specs.Changes.{place_of}
use Rattle.nx_hold.specs.Pieces.{roots_stored}
use Rattle.nx_rules.specs.Walked.{Reached, Waits, Walked, walked_forest, marks_of, records_reached, links_in, links_behind, ByCatalog, Named, named_place, waiting_in, WaitAll, AreWalkedInOrder, walked_body, HoldsRecord, AreRead, IsSoFar}
use Rattle.nx_rules.specs.Tour.{Visit, IsFromRoot, IsVisit, IsDone, all_marks, all_reached, all_links}
use Rattle.nx_rules.specs.Broken.{reached_first}
use Rattle.nx_rules.proofs.MeetLemmas.{UpTo, IsSame, NoneWait, wait_left, wait_right, order_left, order_right, order_split, full, back_all, same_walk, waits_upto, meet, upto_within}
use Rattle.nx_rules.proofs.WithinLemmas.{within_so_far}
use Rattle.nx_rules.proofs.AheadLemmas.{IsAhead, ahead, none_reached, none_waits, waits_none, grow_first, grow_second}

-- a record has trees, and one at least
pub record HasTrees (roots : Gapped) : Type 0 where
  pub trees : AreTrees roots
  pub some : 1 ≤ body_width roots

stored_trees : (stored : Stored) → IsValid stored → HasTrees (roots_stored stored)
stored_trees (Inline piece) valid = record { trees = valid.body.trees; some = valid.body.some }
stored_trees (Chained body count chain) valid = record { trees = valid.body.trees; some = valid.body.some }

pub has_trees : {pages : Pages} {place : RecordPlace} {members : Walked} {chains : List (List Link)} → HoldsRecord pages place members chains → HasTrees (walked_body members)
has_trees h = subst (λ (g : Gapped). HasTrees g) h.roots (stored_trees h.stored h.there.valid)

pub no_trees : (g : Gapped) → AreTrees (gap_more g) → ⊥
no_trees End h = h
no_trees (Grow node below beside) h = h
no_trees (Gap count beside) h = h

-- a document so far has one root
one_root : (members : Walked) → HasTrees (walked_body members) → IsSoFar (joined (walked_forest members) Empty) → width members ≡ 1
one_root Bare h is = absurd (let some : 1 ≤ 0 = h.some in omega arith)
one_root (Grown n b Bare) h is = refl
one_root (Grown n b (Grown m d t)) h is = absurd (let x : Plant m.node (walked_forest d) (joined (walked_forest t) Empty) ≡ Empty = is.3 in cc)
one_root (Grown n b (Kept x d t)) h is = absurd (no_trees (walked_body t) h.trees)
one_root (Kept x d t) h is = absurd (no_trees (walked_body t) h.trees)

-- the catalog's place alone, which a walk knows of a document
abbrev stub : DocEntry → Walked
stub entry = Kept (Waits (proxy_of (place_of entry.root) 1)) Bare Bare

from_stub : (pages : Pages) (entry : DocEntry) (w : Walked) → IsFromRoot entry w → AreRead pages w → IsSoFar (walked_forest w) → IsSame (stub entry) w
from_stub pages entry w (inl e) read is = subst (λ x. IsSame (stub entry) x) (sym e) (record { body = refl; proxies = refl; contents = refl })
from_stub pages entry w (inr h) read is =
    let members = h.1 in
    let there : AreRead pages (Kept (Reached (place_of entry.root) h.0) members Bare) = subst (λ x. AreRead pages x) h.2 read in
    let doc : IsSoFar (joined (walked_forest members) Empty) = subst (λ x. IsSoFar (walked_forest x)) h.2 is in
    let one : width members ≡ 1 = one_root members (has_trees there.0) doc in
    subst (λ x. IsSame (stub entry) x) (sym h.2) (record { body = refl; proxies = ap (λ n. proxy_of (place_of entry.root) n ∷ []) (sym one); contents = refl })

abbrev pub entered : Visit → List ℕ × DocEntry
entered v = (v.name, v.entry)

visit_same : (pages : Pages) (k : ℕ) (v u : Visit) → entered v ≡ entered u → IsVisit pages k v → IsVisit pages k u → IsSame v.walked u.walked
visit_same pages k v u e h g =
    let entry : v.entry ≡ u.entry = ap (λ (p : List ℕ × DocEntry). p.1) e in
    let a = from_stub pages v.entry v.walked h.root h.read h.document in
    let b = subst (λ (x : DocEntry). IsSame (stub x) u.walked) (sym entry) (from_stub pages u.entry u.walked g.root g.read g.document) in
    record { body = sym a.body ∙ b.body; proxies = sym a.proxies ∙ b.proxies; contents = sym a.contents ∙ b.contents }

-- each document of the second walk has come as far as that of the first
abbrev pub AllUpTo : List Visit → List Visit → Type 0
AllUpTo [] [] = Unit {0}
AllUpTo [] (u ∷ us) = ⊥
AllUpTo (v ∷ vs) [] = ⊥
AllUpTo (v ∷ vs) (u ∷ us) = (entered v ≡ entered u) × UpTo v.walked u.walked × AllUpTo vs us

cons_same : {A : Type 0} (x y : A) (xs ys : List A) → x ∷ xs ≡ y ∷ ys → (x ≡ y) × (xs ≡ ys)
cons_same x y xs ys e = (cc, cc)

back_visits : (vs us : List Visit) → WaitAll (all_marks us) → AllUpTo vs us → AllUpTo us vs
back_visits [] [] w h = tt
back_visits [] (u ∷ us) w h = absurd h
back_visits (v ∷ vs) [] w h = absurd h
back_visits (v ∷ vs) (u ∷ us) w h =
    (sym h.0, back_all v.walked u.walked (wait_left (marks_of u.walked) (all_marks us) w) h.1, back_visits vs us (wait_right (marks_of u.walked) (all_marks us) w) h.2)

module _ (pages : Pages) (k : ℕ) where
  visits_wait : (vs us : List Visit) → map entered vs ≡ map entered us → All (IsVisit pages k) vs → All (IsVisit pages k) us → WaitAll (all_marks vs) → AllUpTo vs us
  visits_wait [] [] e h g w = tt
  visits_wait [] (u ∷ us) e h g w = cc
  visits_wait (v ∷ vs) [] e h g w = cc
  visits_wait (v ∷ vs) (u ∷ us) e h g w =
      let P = IsVisit pages k in
      let same = cons_same (entered v) (entered u) (map entered vs) (map entered us) e in
      let x = All-head P v vs h in
      let y = All-head P u us g in (
        same.0,
        waits_upto pages v.walked u.walked (visit_same pages k v u same.0 x y) x.read y.read (wait_left (marks_of v.walked) (all_marks vs) w),
        visits_wait vs us same.1 (All-tail P v vs h) (All-tail P u us g) (wait_right (marks_of v.walked) (all_marks vs) w),
      )

  visits_ways : (v u : Visit) (vs us : List Visit) → entered v ≡ entered u → UpTo v.walked u.walked ⊎ UpTo u.walked v.walked → AllUpTo vs us ⊎ AllUpTo us vs
      → WaitAll (all_marks vs) ⊎ NoneWait (marks_of v.walked) → WaitAll (all_marks us) ⊎ NoneWait (marks_of u.walked)
      → (WaitAll (all_marks vs) → AllUpTo vs us) → (WaitAll (all_marks us) → AllUpTo us vs) → AllUpTo (v ∷ vs) (u ∷ us) ⊎ AllUpTo (u ∷ us) (v ∷ vs)
  visits_ways v u vs us e (inl x) (inl y) one other all all_too = inl (e, x, y)
  visits_ways v u vs us e (inl x) (inr y) (inl wait) other all all_too = inl (e, x, all wait)
  visits_ways v u vs us e (inl x) (inr y) (inr none) other all all_too = inr (sym e, full v.walked u.walked none x, y)
  visits_ways v u vs us e (inr x) (inl y) one (inl wait) all all_too = inr (sym e, x, all_too wait)
  visits_ways v u vs us e (inr x) (inl y) one (inr none) all all_too = inl (e, full u.walked v.walked none x, y)
  visits_ways v u vs us e (inr x) (inr y) one other all all_too = inr (sym e, x, y)

  pub meet_visits : (vs us : List Visit) → map entered vs ≡ map entered us → All (IsVisit pages k) vs → All (IsVisit pages k) us → AreWalkedInOrder (all_marks vs) → AreWalkedInOrder (all_marks us)
      → AllUpTo vs us ⊎ AllUpTo us vs
  meet_visits [] [] e h g o r = inl tt
  meet_visits [] (u ∷ us) e h g o r = cc
  meet_visits (v ∷ vs) [] e h g o r = cc
  meet_visits (v ∷ vs) (u ∷ us) e h g o r =
      let P = IsVisit pages k in
      let same = cons_same (entered v) (entered u) (map entered vs) (map entered us) e in
      let x = All-head P v vs h in
      let y = All-head P u us g in
      let xs = All-tail P v vs h in
      let ys = All-tail P u us g in
      visits_ways v u vs us same.0
      (meet pages v.walked u.walked (visit_same pages k v u same.0 x y) x.read y.read (order_left (marks_of v.walked) (all_marks vs) o) (order_left (marks_of u.walked) (all_marks us) r))
      (meet_visits vs us same.1 xs ys (order_right (marks_of v.walked) (all_marks vs) o) (order_right (marks_of u.walked) (all_marks us) r))
      (order_split (marks_of v.walked) (all_marks vs) o) (order_split (marks_of u.walked) (all_marks us) r)
      (visits_wait vs us same.1 xs ys) (visits_wait us vs (sym same.1) ys xs)

-- The second walk has reached the record that the first comes to next, in this document.
pub record VisitsAhead (pages : Pages) (k : ℕ) (vs us : List Visit) (visit : Visit) (named : Named) : Type 0 where
  pub links : List (List Link)
  pub members : Walked
  pub holds : HoldsRecord pages (named_place named) members links
  pub read : AreRead pages members
  pub light : gapped_size (walked_body members) ≤ k
  pub roots : width members ≡ named.proxy.roots
  pub places : List RecordPlace
  pub reached : all_reached us ≡ all_reached vs ++ named_place named ∷ places
  pub others : List Link
  pub chains : all_links us ≡ all_links vs ++ (links_behind links ++ others)
  pub stands : (new : Walked) → UpTo new members → IsSoFar (walked_forest (reached_first (named_place named) links new visit.walked))

none_visited : (vs : List Visit) → WaitAll (all_marks vs) → (all_reached vs ≡ []) × (all_links vs ≡ [])
none_visited [] w = (refl, refl)
none_visited (v ∷ vs) w =
    let x = none_reached v.walked (wait_left (marks_of v.walked) (all_marks vs) w) in
    let y = none_visited vs (wait_right (marks_of v.walked) (all_marks vs) w) in
    (ap (λ l. l ++ all_reached vs) x.0 ∙ y.0, ap (λ l. l ++ all_links vs) x.1 ∙ y.1)

module _ (pages : Pages) (k : ℕ) where
  here_ahead : (v u : Visit) (vs us : List Visit) (named : Named) → IsVisit pages k u → WaitAll (all_marks vs) → IsAhead pages k v.walked u.walked named → VisitsAhead pages k (v ∷ vs) (u ∷ us) v named
  here_ahead v u vs us named is wait h =
      let none = none_visited vs wait in
      record {
        links = h.links;
        members = h.members;
        holds = h.holds;
        read = h.read;
        light = h.light;
        roots = h.roots;
        places = h.places ++ all_reached us;
        reached = grow_first (records_reached u.walked) (records_reached v.walked) (all_reached vs) (named_place named ∷ h.places) (all_reached us) h.reached none.0;
        others = h.others ++ all_links us;
        chains = grow_first (links_in u.walked) (links_in v.walked) (all_links vs) (links_behind h.links ++ h.others) (all_links us) h.chains none.1
            ∙ ap (λ l. (links_in v.walked ++ all_links vs) ++ l) (append_assoc (links_behind h.links) h.others (all_links us));
        stands = λ new x. within_so_far _ (walked_forest u.walked) (upto_within _ u.walked (h.goes new x)) is.document;
      }

  later_ahead : (v u visit : Visit) (vs us : List Visit) (named : Named) → v.walked ≡ u.walked → VisitsAhead pages k vs us visit named → VisitsAhead pages k (v ∷ vs) (u ∷ us) visit named
  later_ahead v u visit vs us named same h = record {
    links = h.links;
    members = h.members;
    holds = h.holds;
    read = h.read;
    light = h.light;
    roots = h.roots;
    places = h.places;
    reached = grow_second (records_reached u.walked) (records_reached v.walked) (all_reached us) (all_reached vs) (named_place named ∷ h.places) (ap records_reached (sym same)) h.reached;
    others = h.others;
    chains = grow_second (links_in u.walked) (links_in v.walked) (all_links us) (all_links vs) (links_behind h.links ++ h.others) (ap links_in (sym same)) h.chains;
    stands = h.stands;
  }

  pub visits_ahead : (before : List Visit) (visit : Visit) (after us : List Visit) (named : Named) (others : List Named) → AllUpTo (before ++ visit ∷ after) us → All (IsVisit pages k) us
      → AreWalkedInOrder (all_marks (before ++ visit ∷ after)) → AreWalkedInOrder (all_marks us) → All IsDone before → waiting_in ByCatalog visit.walked ≡ named ∷ others
      → AllUpTo us (before ++ visit ∷ after) ⊎ VisitsAhead pages k (before ++ visit ∷ after) us visit named
  visits_ahead [] visit after [] named others up g o r done e = absurd up
  visits_ahead [] visit after (u ∷ us) named others up g o r done e =
      let y = All-head (IsVisit pages k) u us g in
      let wait : WaitAll (all_marks after) = elim (order_split (marks_of visit.walked) (all_marks after) o) [ inl w ↦ w | inr none ↦ absurd (let x = sym (waits_none ByCatalog visit.walked none) ∙ e in cc x) ] in
      elim (ahead pages k visit.walked u.walked up.1 y.read y.light (order_left (marks_of visit.walked) (all_marks after) o) (order_left (marks_of u.walked) (all_marks us) r) ByCatalog named others e) [
        | inl back ↦
            let same : visit.walked ≡ u.walked = same_walk visit.walked u.walked up.1 back in
            let behind : WaitAll (all_marks us) =
            elim (order_split (marks_of u.walked) (all_marks us) r) [ inl w ↦ w | inr none ↦ absurd (let x = sym (waits_none ByCatalog u.walked none) ∙ ap (waiting_in ByCatalog) (sym same) ∙ e in cc x) ] in
            inl (sym up.0, back, back_visits after us behind up.2)
        | inr h ↦ inr (here_ahead visit u after us named y wait h)
      ]
  visits_ahead (v ∷ before) visit after [] named others up g o r done e = absurd up
  visits_ahead (v ∷ before) visit after (u ∷ us) named others up g o r done e =
      let vs = before ++ visit ∷ after in
      let whole : NoneWait (marks_of v.walked) = none_waits ByCatalog v.walked (All-head IsDone v before done).whole in
      let back : UpTo u.walked v.walked = full v.walked u.walked whole up.1 in
      elim (visits_ahead before visit after us named others up.2 (All-tail (IsVisit pages k) u us g) (order_right (marks_of v.walked) (all_marks vs) o) (order_right (marks_of u.walked) (all_marks us) r)
      (All-tail IsDone v before done) e) [
        | inl rest ↦ inl (sym up.0, back, rest)
        | inr h ↦ inr (later_ahead v u visit vs us named (same_walk v.walked u.walked up.1 back) h)
      ]
