-- A walk before its documents, between them, and behind them.
use Rattle.std.proofs.Common.{◌≡◌, ◌⊎◌, ℕ, zero, suc, ◌+◌, ◌-◌, ◌<◌, ◌≤◌, List, [], ◌∷◌, ◌++◌, length, map, refl, sym, ap, ◌∙◌, subst, arith, inl, inr, append-nil}
use Rattle.std.specs.Prelude.{All, IfOk, IfErr}
use Rattle.std.specs.FinMap.{entries}
use Rattle.std.proofs.lemmas.List.Elements.{All-cons, All-nil}
use Rattle.nx_host.specs.Disk.{Image}
use Rattle.nx_host.specs.declared.disk.Disk.{Ghosts}
use Rattle.nx_replay.specs.Log.{Pages, replay}
use Rattle.nx_wal.specs.Wal.{IsPageCount, NoLogOpened}
use Rattle.nx_wal.specs.declared.error.WalError.{WalError}
use Rattle.nx_wal.specs.declared.error.WalError.TheVariants as wal
use Rattle.nx_holdings.specs.declared.header.Header.{Header}
use Rattle.nx_holdings.specs.Holdings.{times, Link, content_of, pages_of_links}
use Rattle.nx_holdings.proofs.TimesLemmas.{first_or}
use Rattle.nx_cuts.specs.Cut.{Bare, Kept}
use Rattle.nx_layouts.specs.Layout.{RecordPlace, proxy_of, ArePlacedOnce}
use Rattle.nx_hold.specs.declared.entry.DocEntry.{DocEntry}
use Rattle.nx_hold.specs.Changes.{place_of}
use Rattle.nx_catalog.specs.Catalog.{Contents, IsCatalog}
use Rattle.nx_rules.specs.declared.verdict.PageRule.{PageRule}
use Rattle.nx_rules.specs.declared.verdict.PageRule.TheVariants as rule
use Rattle.nx_rules.specs.declared.verdict.Verdict.TheVariants.{Sound}
use Rattle.nx_rules.specs.Verdict.{IsVerdict}
use Rattle.nx_rules.specs.Listed.{AreUsedOnce, HasHeaderPage, IsFreePageAt, AreFreeFrom, IsFreeTo, IsListOf}
use Rattle.nx_rules.specs.Walked.{Waits, WaitAll, AreWalkedInOrder}
use Rattle.nx_rules.specs.Tour.{Visit, IsVisit, IsDone, all_marks, all_reached, all_links, Tour, used_in, IsInUse}
use Rattle.nx_rules.specs.Broken.{IsFirstBroken}
use Rattle.nx_check.specs.declared.error.Stop.{Stop}
use Rattle.nx_check.specs.declared.error.Stop.TheVariants as stop
use Rattle.nx_check.specs.declared.reading.Walk.{Walk}
use Rattle.nx_check.specs.Marks.{IsUsedSo, AreMarked, HasUse}
use Rattle.nx_check.specs.On.{IsOn, StopsWalk}
use Rattle.nx_check.specs.Refusals.{NotChecked, HasNoVerdict, refusal_of, told_of_stop}
use Rattle.nx_check.specs.declared.error.CheckError.{CheckError}
use Rattle.nx_check.specs.declared.error.CheckError.TheVariants as error
use Rattle.nx_check.specs.Come.{HasCome, StopsSo}
use Rattle.nx_check.specs.Uses.{use_of, free_use, MarksFree}
use Rattle.nx_check.specs.declared.left.Left.{Left}
use Rattle.nx_check.specs.declared.uses.PageUse.{PageUse}
use Rattle.nx_check.specs.declared.uses.PageUse.TheVariants.{Unseen, Free, Slotted}
use Rattle.nx_check.specs.declared.uses.Uses.{Uses}
use Rattle.nx_check.specs.Between.{HasBegunWalk, IsUnbegun, IsBetweenDocuments, HasComeToEnd}
use Rattle.nx_check.proofs.ComeLemmas.{rose_later}
use Rattle.nx_check.proofs.ChainLemmas.{SaysList}

-- a stop by a rule that is broken first, and one since an earlier moment
pub stops_by : {D : Type 0} (d : Ghosts D) (start before after : D) (Says : PageRule → ℕ → Type 0) (Is : Image → Type 0) (e : Stop) → d.faults start ≤ d.faults before
    → ((rule : PageRule) (page : ℕ) → Says rule page → (was : Image) → Is was → IsFirstBroken (replay was) rule page) → StopsSo d before after Says e → StopsWalk d start after Is e
stops_by d start before after Says Is (stop.Broken page rule) later go h = go rule page h
stops_by d start before after Says Is stop.Disk later go h = rose_later (d.faults start) (d.faults before) (d.faults after) later h
stops_by d start before after Says Is stop.Memory later go h = tt

pub stops_on : {D : Type 0} (d : Ghosts D) (start before after : D) (Is Was : Image → Type 0) (e : Stop) → d.faults start ≤ d.faults before → ((was : Image) → Was was → Is was) → StopsWalk d before after Is e → StopsWalk d start after Was e
stops_on d start before after Is Was (stop.Broken page rule) later go h = λ was g. h was (go was g)
stops_on d start before after Is Was stop.Disk later go h = rose_later (d.faults start) (d.faults before) (d.faults after) later h
stops_on d start before after Is Was stop.Memory later go h = tt

-- Behind the free list.

-- the free pages have free pages' bytes
free_at : (pages : Pages) (first : ℕ) (ps : List ℕ) (last p : ℕ) → AreFreeFrom pages first ps last → 1 ≤ times p ps → (next : ℕ) × IsFreePageAt pages p next
free_at pages first [] last p h some = absurd (omega (arith, some))
free_at pages first (q ∷ ps) last p h some = elim (first_or p q ps some) [
  | inl same ↦ (h.2.0, subst (λ (x : ℕ). IsFreePageAt pages x h.2.0) (sym same) h.2.1)
  | inr later ↦ free_at pages h.2.0 ps last p h.2.2 later
]

free_mark : (u : PageUse) (n : ℕ) → u ≡ free_use n → ((n ≡ 0) × (u ≡ Unseen)) ⊎ ((1 ≤ n) × (u ≡ Free))
free_mark u zero e = inl (refl, e)
free_mark u (suc n) e = inr (omega arith, e)

marks_begun : (pages : Pages) (head : Header) (uses : Uses) (left : Left) (free : List ℕ) → IsFreeTo pages head free 0 → MarksFree uses free → AreMarked uses left pages free [] []
marks_begun pages head uses left free whole marks = record {
  owner = λ i. 0;
  words = λ p first count is. elim (free_mark (use_of uses p) (times p free) (marks p)) [
    | inl none ↦ absurd (let x : Slotted count first ≡ Unseen = sym is ∙ none.1 in cc x)
    | inr some ↦ absurd (let x : Slotted count first ≡ Free = sym is ∙ some.1 in cc x)
  ];
  each = λ p. elim (free_mark (use_of uses p) (times p free) (marks p)) [
    | inl none ↦ subst (λ (u : PageUse). IsUsedSo left pages free [] [] p u) (sym none.1) (none.0, refl, λ slot. refl)
    | inr some ↦ subst (λ (u : PageUse). IsUsedSo left pages free [] [] p u) (sym some.1) (some.0, free_at pages head.free free 0 p whole.linked some.0)
  ];
}

pub begun : {D : Type 0} (d : Ghosts D) (walk : Walk) (start read disk : D) (was : Image) (head : Header) (free : List ℕ) → IsOn d walk disk was → HasHeaderPage (replay was) head → IsFreeTo (replay was) head free 0 → MarksFree walk.uses free
    → d.reads read ≤ d.reads start + 2 → d.reads disk ≤ d.reads read + length free → HasBegunWalk d walk disk was (d.reads start + 2) head
begun d walk start read disk was head free on header whole marks first later = record {
  free = free;
  come = record {
    on = on;
    marked = marks_begun (replay was) head walk.uses walk.left free whole marks;
    once = λ p. omega arith;
    reads = omega (arith, first, later);
  };
  header = header;
  whole = whole;
}

-- The catalog.

pub catalog_chain : {D : Type 0} (d : Ghosts D) (walk : Walk) (disk : D) (head : Header) (broken : PageRule) (page : ℕ) → SaysList d walk disk 0 head.catalog head.catalog_length broken page → (was : Image) → ((base : ℕ) × HasBegunWalk d walk disk was base head)
    → IsFirstBroken (replay was) broken page
catalog_chain d walk disk head broken page h was is =
    subst (λ (r : PageRule). IsFirstBroken (replay was) r page) (sym h.0)
    (inl (record { head = head; begun = record { header = is.1.header; free = is.1.free; whole = is.1.whole }; breaks = h.1 was is.0 is.1.free [] [] is.1.come }))

pub no_catalog : (pages : Pages) (head : Header) (free : List ℕ) (links : List Link) (bytes : List ℕ) → HasHeaderPage pages head → IsFreeTo pages head free 0 → IsListOf pages [] head.catalog head.catalog_length links → bytes ≡ content_of links
    → ((contents : Contents) → IsCatalog bytes contents → ⊥) → IsFirstBroken pages rule.Catalog head.catalog
no_catalog pages head free links bytes header whole list same none = record {
  head = head;
  begun = record { header = header; free = free; whole = whole };
  links = links;
  list = list;
  none = λ contents is. none contents (subst (λ (b : List ℕ). IsCatalog b contents) (sym same) is);
  blamed = refl;
}

-- Before the documents.

-- a document of the catalog, of which nothing was reached
abbrev pub unbegun : List ℕ × DocEntry → Visit
unbegun e = record { name = e.0; entry = e.1; walked = Kept (Waits (proxy_of (place_of e.1.root) 1)) Bare Bare }

abbrev entered : Visit → List ℕ × DocEntry
entered v = (v.name, v.entry)

enters : (es : List (List ℕ × DocEntry)) → map entered (map unbegun es) ≡ es
enters [] = refl
enters (e ∷ es) = ap (λ (l : List (List ℕ × DocEntry)). e ∷ l) (enters es)

all_unbegun : (es : List (List ℕ × DocEntry)) → All IsUnbegun (map unbegun es)
all_unbegun [] = All-nil IsUnbegun
all_unbegun (e ∷ es) = All-cons IsUnbegun (unbegun e) (map unbegun es) refl (all_unbegun es)

all_visits : (pages : Pages) (k : ℕ) (es : List (List ℕ × DocEntry)) → All (IsVisit pages k) (map unbegun es)
all_visits pages k [] = All-nil (IsVisit pages k)
all_visits pages k (e ∷ es) = All-cons (IsVisit pages k) (unbegun e) (map unbegun es) (record { root = inl refl; read = (refl, tt); document = tt; light = tt }) (all_visits pages k es)

-- nothing was reached
record NoneReached (vs : List Visit) : Type 0 where
  reached : all_reached vs ≡ []
  links : all_links vs ≡ []

none_reached : (es : List (List ℕ × DocEntry)) → NoneReached (map unbegun es)
none_reached [] = record { reached = refl; links = refl }
none_reached (e ∷ es) = let r = none_reached es in record { reached = r.reached; links = r.links }

all_wait : (es : List (List ℕ × DocEntry)) → WaitAll (all_marks (map unbegun es))
all_wait [] = tt
all_wait (e ∷ es) = all_wait es

in_order : (es : List (List ℕ × DocEntry)) → AreWalkedInOrder (all_marks (map unbegun es))
in_order [] = tt
in_order (e ∷ es) = all_wait es

pub begin_tour : {D : Type 0} (d : Ghosts D) (walk : Walk) (disk : D) (was : Image) (base : ℕ) (head : Header) (free : List ℕ) (links : List Link) (contents : Contents) → HasHeaderPage (replay was) head → IsFreeTo (replay was) head free 0
    → IsListOf (replay was) [] head.catalog head.catalog_length links → IsCatalog (content_of links) contents → HasCome d walk disk was base free (pages_of_links links) []
    → (tour : Tour) × (tour.head ≡ head) × (tour.contents ≡ contents) × IsBetweenDocuments d walk disk was base tour [] tour.visits
begin_tour d walk disk was base head free links contents header whole list is come =
    let es = entries contents.documents in
    let none = none_reached es in
    let tour : Tour = record { head = head; free = free; catalog = links; contents = contents; visits = map unbegun es } in
    let used : used_in tour ≡ pages_of_links links = ap (λ (l : List Link). pages_of_links (links ++ l)) none.links ∙ ap pages_of_links (append-nil links) in (
      tour,
      refl,
      refl,
      record {
        come = subst (λ (l : List RecordPlace). HasCome d walk disk was base free (used_in tour) l) (sym none.reached) (subst (λ (l : List ℕ). HasCome d walk disk was base free l []) (sym used) come);
        kept = record {
          header = header;
          free = whole;
          list = list;
          catalog = is;
          named = enters es;
          each = all_visits (replay was) head.settings.k es;
          order = in_order es;
          once = subst (λ (l : List RecordPlace). ArePlacedOnce l) (sym none.reached) tt;
          lists_once = subst (λ (l : List ℕ). AreUsedOnce l) (sym used) come.once;
        };
        are = refl;
        done = All-nil IsDone;
        unbegun = all_unbegun es;
      },
    )

-- Behind them.

-- all pages below a number have a use
abbrev pub AreInUse : Pages → Tour → ℕ → Type 0
AreInUse pages tour n = (p : ℕ) → p < n → IsInUse pages tour p

pub all_in_use : (pages : Pages) (tour : Tour) (n : ℕ) → ((p : ℕ) → 1 ≤ p → p < n → HasUse pages tour.free (used_in tour) (all_reached tour.visits) p) → AreInUse pages tour n
all_in_use pages tour n all zero low = inl refl
all_in_use pages tour n all (suc p) low = inr (all (suc p) (omega arith) low)

pub unused_below : {D : Type 0} (d : Ghosts D) (walk : Walk) (disk : D) (was : Image) (base : ℕ) (tour : Tour) (page : ℕ) → IsBetweenDocuments d walk disk was base tour tour.visits [] → page < tour.head.pages → 1 ≤ page → AreInUse (replay was) tour page
    → (HasUse (replay was) tour.free (used_in tour) (all_reached tour.visits) page → ⊥) → IsFirstBroken (replay was) rule.Unused page
unused_below d walk disk was base tour page at low some below none = record {
  tour = tour;
  kept = at.kept;
  done = at.done;
  blamed = inl (low, (λ in_use. elim in_use [ inl zero_page ↦ omega (arith, zero_page, some) | inr other ↦ none other ]), below);
}

pub unused_past : {D : Type 0} (d : Ghosts D) (walk : Walk) (disk : D) (was : Image) (base : ℕ) (tour : Tour) (count : ℕ) → IsBetweenDocuments d walk disk was base tour tour.visits [] → tour.head.pages < count → AreInUse (replay was) tour tour.head.pages → IsPageCount count (replay was)
    → IsFirstBroken (replay was) rule.Unused (count - 1)
unused_past d walk disk was base tour count at past all is = record {
  tour = tour;
  kept = at.kept;
  done = at.done;
  blamed = inr (all, omega (arith, past), is.last (omega (arith, past)), λ p above. is.none_from p (omega (arith, above)));
}

pub at_end : {D : Type 0} (d : Ghosts D) (walk : Walk) (disk after : D) (was : Image) (base : ℕ) (tour : Tour) (count : ℕ) → IsBetweenDocuments d walk disk was base tour tour.visits [] → count ≤ tour.head.pages → AreInUse (replay was) tour tour.head.pages → IsPageCount count (replay was)
    → d.reads after ≡ d.reads disk → HasComeToEnd d after was base tour
at_end d walk disk after was base tour count at few all is same = record {
  whole = record { kept = at.kept; done = at.done; used = all; none_past = λ p past. is.none_from p (omega (arith, few, past)) };
  reads = (let reads = at.come.reads in omega (arith, reads, same));
}

-- Between them.

-- what is left of the documents begins with this one
pub record BeginsWith (after : List Visit) (entry : DocEntry) (rest : List (List ℕ × DocEntry)) : Type 0 where
  pub visit : Visit
  pub others : List Visit
  pub are : after ≡ visit ∷ others
  pub is : visit.entry ≡ entry
  pub left : map (λ (v : Visit). (v.name, v.entry)) others ≡ rest

pub begins_with : (after : List Visit) (name : List ℕ) (entry : DocEntry) (rest : List (List ℕ × DocEntry)) → map (λ (v : Visit). (v.name, v.entry)) after ≡ (name, entry) ∷ rest → BeginsWith after entry rest
begins_with [] name entry rest e = absurd (cc)
begins_with (v ∷ after) name entry rest e =
    let both = two_same (v.name, v.entry) (name, entry) (map (λ (u : Visit). (u.name, u.entry)) after) rest e in
    record { visit = v; others = after; are = refl; is = ap (λ (p : List ℕ × DocEntry). p.1) both.0; left = both.1 }
  where
    two_same : (x y : List ℕ × DocEntry) (xs ys : List (List ℕ × DocEntry)) → x ∷ xs ≡ y ∷ ys → (x ≡ y) × (xs ≡ ys)
    two_same x y xs ys e = (cc e, cc e)

pub no_more : (after : List Visit) (rest : List (List ℕ × DocEntry)) → map (λ (v : Visit). (v.name, v.entry)) after ≡ rest → rest ≡ [] → after ≡ []
no_more [] rest e none = refl
no_more (v ∷ after) rest e none = absurd (let x = e ∙ none in cc x)

-- What is told.

pub not_opened : {D : Type 0} (d : Ghosts D) (e : WalError) (before after : D) → NoLogOpened d e before after → NotChecked d (refusal_of e) before after
not_opened d wal.Disk before after h = h
not_opened d wal.Exists before after h = absurd h
not_opened d wal.NotAStore before after h = h
not_opened d wal.Ended before after h = absurd h
not_opened d wal.Memory before after h = tt

-- a walk that stops tells the verdict, or why there is none
pub told_verdict : {D : Type 0} (d : Ghosts D) (before after : D) (Is : Image → Type 0) (e : Stop) → StopsWalk d before after Is e → IfOk (told_of_stop e) (λ v. (was : Image) → Is was → IsVerdict (replay was) v)
told_verdict d before after Is (stop.Broken page rule) h = λ was is. h was is
told_verdict d before after Is stop.Disk h = tt
told_verdict d before after Is stop.Memory h = tt

pub told_refusal : {D : Type 0} (d : Ghosts D) (before after : D) (Is : Image → Type 0) (e : Stop) → StopsWalk d before after Is e → IfErr (told_of_stop e) (λ x. HasNoVerdict d x before after)
told_refusal d before after Is (stop.Broken page rule) h = tt
told_refusal d before after Is stop.Disk h = h
told_refusal d before after Is stop.Memory h = tt

pub gives_up : {D : Type 0} (d : Ghosts D) (start before after : D) (e : CheckError) → d.faults start ≤ d.faults before → HasNoVerdict d e before after → NotChecked d e start after
gives_up d start before after error.NotAStore later h = absurd h
gives_up d start before after error.Disk later h = rose_later (d.faults start) (d.faults before) (d.faults after) later h
gives_up d start before after error.Memory later h = tt

pub told_wrong : (e : Stop) → IfOk (told_of_stop e) (λ v. v ≡ Sound → ⊥)
told_wrong (stop.Broken page rule) = λ same. cc same
told_wrong stop.Disk = tt
told_wrong stop.Memory = tt

-- the end behind a later beginning
pub end_later : {D : Type 0} (d : Ghosts D) (disk : D) (was : Image) (base more : ℕ) (tour : Tour) → base ≤ more → HasComeToEnd d disk was base tour → HasComeToEnd d disk was more tour
end_later d disk was base more tour later at = record { whole = at.whole; reads = (let reads = at.reads in omega (arith, reads, later)) }
