-- Pages stand for one state at most.
use Rattle.std.proofs.Common.{◌≡◌, ℕ, List, [], ◌∷◌, map, Option, None, Some, refl, sym, ap, ◌∙◌, subst}
use Rattle.std.specs.Prelude.{All}
use Rattle.std.specs.FinMap.{entries, same_entries_map}
use Rattle.std.proofs.lemmas.List.Elements.{All-head, All-tail, All-weaker}
use Rattle.nx_host.specs.Disk.{Image}
use Rattle.nx_replay.specs.Log.{Pages, replay}
use Rattle.nx_holdings.specs.Holdings.{Held}
use Rattle.nx_holdings.proofs.OneLemmas.{hold_one}
use Rattle.nx_cuts.specs.Cut.{CutTree}
use Rattle.nx_layouts.specs.Layout.{Stock, IsLaidOut}
use Rattle.nx_layouts.proofs.LayoutLemmas.{one_document}
use Rattle.nx_hold.specs.declared.entry.DocEntry.{DocEntry}
use Rattle.nx_layouts.proofs.HeldLemmas.{HasAll}
use Rattle.nx_hold.specs.Changes.{place_of}
use Rattle.nx_hold.specs.Pieces.{held_by}
use Rattle.nx_hold.proofs.PieceLemmas.{no_value}
use Rattle.nx_catalog.specs.Catalog.{Contents}
use Rattle.nx_state.specs.State.{State}
use Rattle.nx_state.specs.Stands.{StoredDocument, IsStoredIn, HoldsState, Stands, Recovers}
use Rattle.nx_catalog.proofs.CatalogLemmas.{one_contents}
use Rattle.nx_state.proofs.StayLemmas.{one_map, stored_along}

first_same : {A : Type 0} (x y : A) (xs ys : List A) → x ∷ xs ≡ y ∷ ys → x ≡ y
first_same x y xs ys e = cc

rest_same : {A : Type 0} (x y : A) (xs ys : List A) → x ∷ xs ≡ y ∷ ys → xs ≡ ys
rest_same x y xs ys e = cc

abbrev entered : StoredDocument → List ℕ × DocEntry
entered s = (s.name, s.entry)

abbrev shown : StoredDocument → List ℕ × CutTree
shown s = (s.name, s.document)

pair_same : {A B : Type 0} (a c : A) (b d : B) → a ≡ c → b ≡ d → ◌≡◌ {A = A × B} (a, b) (c, d)
pair_same a c b d e f = cc

laid_out : (stock : Stock) (s : StoredDocument) → IsStoredIn stock s → IsLaidOut stock (place_of s.entry.root) s.document
laid_out stock s h = record { layout = s.layout; laid = h.laid }

-- documents that stand at one place are one
same_shown : (stock : Stock) (s t : StoredDocument) → IsStoredIn stock s → IsStoredIn stock t → entered s ≡ entered t → shown s ≡ shown t
same_shown stock s t h g e =
    let name : s.name ≡ t.name = ap (λ (p : List ℕ × DocEntry). p.0) e in
    let entry : s.entry ≡ t.entry = ap (λ (p : List ℕ × DocEntry). p.1) e in
    let there = subst (λ (d : DocEntry). IsLaidOut stock (place_of d.root) s.document) entry (laid_out stock s h) in
    pair_same s.name t.name s.document t.document name (one_document stock (place_of t.entry.root) s.document t.document there (laid_out stock t g))

all_shown : (stock : Stock) (one other : List StoredDocument) → All (IsStoredIn stock) one → All (IsStoredIn stock) other → map entered one ≡ map entered other
    → map shown one ≡ map shown other
all_shown stock [] [] h g e = refl
all_shown stock [] (t ∷ other) h g e = cc
all_shown stock (s ∷ one) [] h g e = cc
all_shown stock (s ∷ one) (t ∷ other) h g e =
    let P = IsStoredIn stock in
    let first : shown s ≡ shown t = same_shown stock s t (All-head P s one h) (All-head P t other g) (first_same (entered s) (entered t) (map entered one) (map entered other) e) in
    let rest : map shown one ≡ map shown other = all_shown stock one other (All-tail P s one h) (All-tail P t other g) (rest_same (entered s) (entered t) (map entered one) (map entered other) e) in
    cc

module _ {held : Held} {state other : State} (h : HoldsState held state) (g : HoldsState held other) where
  contents_same : h.contents ≡ g.contents
  contents_same = one_contents held.catalog.bytes h.contents g.contents h.catalog g.catalog

  entered_same : map entered h.stored ≡ map entered g.stored
  entered_same = sym h.names ∙ ap (λ (c : Contents). entries c.documents) contents_same ∙ g.names

  abbrev stock : Stock
  stock = held_by (h.holds).pieces

  abbrev other_stock : Stock
  other_stock = held_by (g.holds).pieces

  same_stock : HasAll other_stock stock
  same_stock = record { pieces = λ place piece e. one_map held (h.holds).pieces (g.holds).pieces place ∙ e; lists = λ first bytes e. e; most = refl }

  other_stored : All (IsStoredIn stock) g.stored
  other_stored = All-weaker (IsStoredIn other_stock) (IsStoredIn stock) (λ s stored. stored_along other_stock stock s same_stock stored) g.stored (g.holds).each

  shown_same : entries state.documents ≡ entries other.documents
  shown_same = h.documents ∙ all_shown stock h.stored g.stored (h.holds).each other_stored entered_same ∙ sym g.documents

  one_held_state : state ≡ other
  one_held_state =
      let settings : state.settings ≡ other.settings = sym h.settings ∙ g.settings in
      let rules : state.rules ≡ other.rules = sym h.rules ∙ ap (λ (c : Contents). c.rules) contents_same ∙ g.rules in
      let documents : state.documents ≡ other.documents = same_entries_map state.documents other.documents shown_same in
      λ i. record { settings = settings i; rules = rules i; documents = documents i }

stand_one : (pages : Pages) (state other : State) → Stands pages state → Stands pages other → state ≡ other
stand_one pages state other a b =
    let same : b.0 ≡ a.0 = hold_one pages b.0 a.0 b.1 a.1 in
    one_held_state a.2 (subst (λ (held : Held). HoldsState held other) same b.2)

-- pages that stand for a state have a first one
some_page : (pages : Pages) (state : State) → Stands pages state → ((p : ℕ) → pages p ≡ None) → ⊥
some_page pages state a none = no_value (sym ((a.1).1).here ∙ none 0)

pub one_state : (image : Image) (state other : Option State) → Recovers image state → Recovers image other → state ≡ other
one_state image None None a b = refl
one_state image None (Some other) a b = absurd (some_page (replay image) other b a)
one_state image (Some state) None a b = absurd (some_page (replay image) state a b)
one_state image (Some state) (Some other) a b = ap Some (stand_one (replay image) state other a b)
