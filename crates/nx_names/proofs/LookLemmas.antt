-- What is shown of a layout, one part after another.
use Rattle.std.proofs.Common.{◌≡◌, ◌≤◌, ℕ, ◌+◌, Bool, true, false, true≢false, List, [], ◌∷◌, ◌++◌, refl, sym, ap, ◌∙◌, append_assoc, arith}
use Rattle.std.specs.Prelude.{if◌then◌else◌, filter, ◌||◌}
use Rattle.std.specs.Str.{bytes_eq}
use Rattle.std.proofs.lemmas.List.{append-nil}
use Rattle.std.proofs.lemmas.List.Elements.{filter-append}
use Rattle.nx_tree.specs.declared.node.Kind.{Kind}
use Rattle.nx_tree.specs.declared.node.Kind.TheVariants.{Doc, Element, Attribute, Text, Instruction}
use Rattle.nx_tree.specs.declared.node.Node.{Node}
use Rattle.nx_tree.specs.Forest.{Forest, Empty, Plant, nodes}
use Rattle.nx_tree.specs.Document.{is_doc, HasParts, IsNode, IsForest}
use Rattle.nx_matrix.specs.Label.{label, label_by}
use Rattle.nx_cuts.specs.Cut.{Bare, Grown, Kept, joined, width}
use Rattle.nx_layouts.specs.Layout.{RecordPlace, Layout, laid_near, laid_forest, places_of}
use Rattle.nx_layouts.specs.Replace.{joined_layout}
use Rattle.nx_reach.specs.Reach.{has_label}
use Rattle.nx_reach.specs.Seen.{Opened, Closed, Skipped}
use Rattle.nx_names.specs.Shown.{shown_wanted}
use Rattle.nx_names.specs.Labels.{HoldsLabels, entered_places}
use Rattle.nx_names.specs.Look.{Look, RecordBegins, NodeBegins, NodeEnds, RecordEnds, RecordPassed, looks_of, looks_into, begun_nodes, begun_places, seen_of}

-- what is shown of an interval
abbrev shown_of : (RecordPlace → Bool) → RecordPlace → Layout → List Look
shown_of wanted place members = if wanted place then RecordBegins place ∷ (looks_of wanted members ++ RecordEnds ∷ []) else RecordPassed (width members) ∷ []

-- trees beside others are shown one after the other
pub looks-joined_layout : (wanted : RecordPlace → Bool) (a b : Layout) → looks_of wanted (joined_layout a b) ≡ looks_of wanted a ++ looks_of wanted b
looks-joined_layout wanted Bare b = refl
looks-joined_layout wanted (Grown n d s) b =
    let first = NodeBegins n.node.kind n.node.name in
    let last = NodeEnds n.node.kind in
    ap (λ xs. first ∷ (looks_of wanted d ++ last ∷ xs)) (looks-joined_layout wanted s b)
    ∙ ap (λ xs. first ∷ xs) (sym (append_assoc (looks_of wanted d) (last ∷ looks_of wanted s) (looks_of wanted b)))
looks-joined_layout wanted (Kept p m s) b =
    ap (λ xs. shown_of wanted p m ++ xs) (looks-joined_layout wanted s b) ∙ sym (append_assoc (shown_of wanted p m) (looks_of wanted s) (looks_of wanted b))

-- an interval that is wanted
pub looks_wanted : (wanted : RecordPlace → Bool) (place : RecordPlace) (members : Layout) → wanted place ≡ true → looks_of wanted (Kept place members Bare) ≡ looks_into wanted place members
looks_wanted wanted place members is =
    append-nil (shown_of wanted place members) ∙ ap (λ (b : Bool). if b then looks_into wanted place members else RecordPassed (width members) ∷ []) is

pub looks_unwanted : (wanted : RecordPlace → Bool) (place : RecordPlace) (members : Layout) → wanted place ≡ false → looks_of wanted (Kept place members Bare) ≡ RecordPassed (width members) ∷ []
looks_unwanted wanted place members is =
    append-nil (shown_of wanted place members) ∙ ap (λ (b : Bool). if b then looks_into wanted place members else RecordPassed (width members) ∷ []) is

pub begun_nodes-append : (xs ys : List Look) → begun_nodes (xs ++ ys) ≡ begun_nodes xs + begun_nodes ys
begun_nodes-append [] ys = omega arith
begun_nodes-append (RecordBegins place ∷ xs) ys = begun_nodes-append xs ys
begun_nodes-append (NodeBegins kind name ∷ xs) ys = omega (arith, begun_nodes-append xs ys)
begun_nodes-append (NodeEnds kind ∷ xs) ys = begun_nodes-append xs ys
begun_nodes-append (RecordEnds ∷ xs) ys = begun_nodes-append xs ys
begun_nodes-append (RecordPassed count ∷ xs) ys = begun_nodes-append xs ys

pub begun_places-append : (xs ys : List Look) → begun_places (xs ++ ys) ≡ begun_places xs ++ begun_places ys
begun_places-append [] ys = refl
begun_places-append (RecordBegins place ∷ xs) ys = ap (λ ps. place ∷ ps) (begun_places-append xs ys)
begun_places-append (NodeBegins kind name ∷ xs) ys = begun_places-append xs ys
begun_places-append (NodeEnds kind ∷ xs) ys = begun_places-append xs ys
begun_places-append (RecordEnds ∷ xs) ys = begun_places-append xs ys
begun_places-append (RecordPassed count ∷ xs) ys = begun_places-append xs ys

nodes-joined : (f g : Forest) → nodes (joined f g) ≡ nodes f + nodes g
nodes-joined Empty g = omega arith
nodes-joined (Plant n b s) g = omega (arith, nodes-joined s g)

-- no more nodes begin than there are
pub begins_few : (wanted : RecordPlace → Bool) (layout : Layout) → begun_nodes (looks_of wanted layout) ≤ nodes (laid_forest layout)
begins_few wanted Bare = omega arith
begins_few wanted (Grown n d s) =
    omega (arith, begun_nodes-append (looks_of wanted d) (NodeEnds n.node.kind ∷ looks_of wanted s), begins_few wanted d, begins_few wanted s)
begins_few wanted (Kept p m s) =
    omega (arith, begun_nodes-append (shown_of wanted p m) (looks_of wanted s), own (wanted p) (begins_few wanted m), begins_few wanted s, nodes-joined (laid_forest m) (laid_forest s))
  where
    own : (b : Bool) → begun_nodes (looks_of wanted m) ≤ nodes (laid_forest m) → begun_nodes (if b then RecordBegins p ∷ (looks_of wanted m ++ RecordEnds ∷ []) else RecordPassed (width m) ∷ []) ≤ nodes (laid_forest m)
    own true few = omega (arith, begun_nodes-append (looks_of wanted m) (RecordEnds ∷ []))
    own false few = omega arith

abbrev pub all_wanted : RecordPlace → Bool
all_wanted place = true

-- where all intervals are wanted all do
pub begins_all : (layout : Layout) → begun_nodes (looks_of all_wanted layout) ≡ nodes (laid_forest layout)
begins_all Bare = refl
begins_all (Grown n d s) = omega (arith, begun_nodes-append (looks_of all_wanted d) (NodeEnds n.node.kind ∷ looks_of all_wanted s), begins_all d, begins_all s)
begins_all (Kept p m s) =
    omega (
      arith,
      begun_nodes-append (RecordBegins p ∷ (looks_of all_wanted m ++ RecordEnds ∷ [])) (looks_of all_wanted s),
      begun_nodes-append (looks_of all_wanted m) (RecordEnds ∷ []),
      begins_all m,
      begins_all s,
      nodes-joined (laid_forest m) (laid_forest s),
    )

-- the records that a walk comes to
pub begins_entered : (wanted : RecordPlace → Bool) (layout : Layout) → begun_places (looks_of wanted layout) ≡ entered_places wanted layout
begins_entered wanted Bare = refl
begins_entered wanted (Grown n d s) =
    begun_places-append (looks_of wanted d) (NodeEnds n.node.kind ∷ looks_of wanted s) ∙ ap (λ ps. ps ++ begun_places (looks_of wanted s)) (begins_entered wanted d) ∙ ap (λ ps. entered_places wanted d ++ ps) (begins_entered wanted s)
begins_entered wanted (Kept p m s) =
    begun_places-append (shown_of wanted p m) (looks_of wanted s) ∙ ap (λ ps. ps ++ begun_places (looks_of wanted s)) (own (wanted p) (begins_entered wanted m))
    ∙ ap (λ ps. (if wanted p then p ∷ entered_places wanted m else []) ++ ps) (begins_entered wanted s)
  where
    own : (b : Bool) → begun_places (looks_of wanted m) ≡ entered_places wanted m → begun_places (if b then RecordBegins p ∷ (looks_of wanted m ++ RecordEnds ∷ []) else RecordPassed (width m) ∷ []) ≡ (if b then p ∷ entered_places wanted m else [])
    own true same = ap (λ ps. p ∷ ps) (begun_places-append (looks_of wanted m) (RecordEnds ∷ []) ∙ append-nil (begun_places (looks_of wanted m)) ∙ same)
    own false same = refl

-- ... which are all, where all are wanted
pub all_entered : (layout : Layout) → entered_places all_wanted layout ≡ places_of layout
all_entered Bare = refl
all_entered (Grown n d s) = ap (λ ps. ps ++ entered_places all_wanted s) (all_entered d) ∙ ap (λ ps. places_of d ++ ps) (all_entered s)
all_entered (Kept p m s) = ap (λ ps. p ∷ (ps ++ entered_places all_wanted s)) (all_entered m) ∙ ap (λ ps. p ∷ (places_of m ++ ps)) (all_entered s)

or_parts : (a b : Bool) → (a || b) ≡ false → (a ≡ false) × (b ≡ false)
or_parts false b e = (refl, e)
or_parts true b e = absurd (true≢false e)

or_assoc : (a b c : Bool) → (a || (b || c)) ≡ ((a || b) || c)
or_assoc true b c = refl
or_assoc false b c = refl

pub has_label-joined : (name : List ℕ) (f g : Forest) → has_label name (joined f g) ≡ (has_label name f || has_label name g)
has_label-joined name Empty g = refl
has_label-joined name (Plant n b s) g =
    let own = bytes_eq name (label n) in
    let below = has_label name b in
    let beside = has_label name s in
    let other = has_label name g in
    ap (λ (x : Bool). own || (below || x)) (has_label-joined name s g) ∙ ap (λ (x : Bool). own || x) (or_assoc below beside other) ∙ or_assoc own (below || beside) other

kept_or_not : (place : RecordPlace) (rest : List RecordPlace) (test : RecordPlace → Bool) (b : Bool) → test place ≡ b → filter test (place ∷ rest) ≡ (if b then place ∷ filter test rest else filter test rest)
kept_or_not place rest test true e = grind (arith, e)
kept_or_not place rest test false e = grind (arith, e)

-- where a label stands nowhere no record holds it
pub none_holds : (holds : RecordPlace → List ℕ → Bool) (name : List ℕ) (layout : Layout) → HoldsLabels holds layout → has_label name (laid_forest layout) ≡ false → filter (λ place. holds place name) (places_of layout) ≡ []
none_holds holds name Bare h none = refl
none_holds holds name (Grown n d s) h none =
    let test : RecordPlace → Bool = λ place. holds place name in
    let parts = or_parts (has_label name (laid_forest d)) (has_label name (laid_forest s)) (or_parts (bytes_eq name (label n.node)) (has_label name (laid_forest d) || has_label name (laid_forest s)) none).1 in
    filter-append test (places_of d) (places_of s) ∙ ap (λ ps. ps ++ filter test (places_of s)) (none_holds holds name d h.0 parts.0) ∙ none_holds holds name s h.1 parts.1
none_holds holds name (Kept p m s) h none =
    let test : RecordPlace → Bool = λ place. holds place name in
    let parts = or_parts (has_label name (laid_forest m)) (has_label name (laid_forest s)) (sym (has_label-joined name (laid_forest m) (laid_forest s)) ∙ none) in
    kept_or_not p (places_of m ++ places_of s) test false (h.0 name ∙ parts.0)
    ∙ filter-append test (places_of m) (places_of s) ∙ ap (λ ps. ps ++ filter test (places_of s)) (none_holds holds name m h.1 parts.0) ∙ none_holds holds name s h.2 parts.1

-- By a map of the labels a walk that passes over those that don't hold one comes to those that do.
pub holders_entered : (holds : RecordPlace → List ℕ → Bool) (name : List ℕ) (layout : Layout) → HoldsLabels holds layout → entered_places (λ place. holds place name) layout ≡ filter (λ place. holds place name) (places_of layout)
holders_entered holds name Bare h = refl
holders_entered holds name (Grown n d s) h =
    let test : RecordPlace → Bool = λ place. holds place name in
    ap (λ ps. ps ++ entered_places test s) (holders_entered holds name d h.0) ∙ ap (λ ps. filter test (places_of d) ++ ps) (holders_entered holds name s h.1) ∙ sym (filter-append test (places_of d) (places_of s))
holders_entered holds name (Kept p m s) h =
    let test : RecordPlace → Bool = λ place. holds place name in
    ap (λ ps. (if test p then p ∷ entered_places test m else []) ++ ps) (holders_entered holds name s h.2) ∙ own (test p) refl (holders_entered holds name m h.1)
  where
    own : (b : Bool) → holds p name ≡ b → entered_places (λ place. holds place name) m ≡ filter (λ place. holds place name) (places_of m) → (if b then p ∷ entered_places (λ place. holds place name) m else []) ++ filter (λ place. holds place name) (places_of s) ≡ filter (λ place. holds place name) (p ∷ (places_of m ++ places_of s))
    own true e same =
        let test : RecordPlace → Bool = λ place. holds place name in
        ap (λ ps. p ∷ (ps ++ filter test (places_of s))) same ∙ ap (λ ps. p ∷ ps) (sym (filter-append test (places_of m) (places_of s))) ∙ sym (kept_or_not p (places_of m ++ places_of s) test true e)
    own false e same =
        let test : RecordPlace → Bool = λ place. holds place name in
        sym (kept_or_not p (places_of m ++ places_of s) test false e ∙ filter-append test (places_of m) (places_of s)
        ∙ ap (λ ps. ps ++ filter test (places_of s)) (none_holds holds name m h.1 (sym (h.0 name) ∙ e)))

pub seen_of-append : (xs ys : List Look) → seen_of (xs ++ ys) ≡ seen_of xs ++ seen_of ys
seen_of-append [] ys = refl
seen_of-append (RecordBegins place ∷ xs) ys = seen_of-append xs ys
seen_of-append (NodeBegins kind name ∷ xs) ys = own (is_doc kind) (seen_of-append xs ys)
  where
    own : (b : Bool) → seen_of (xs ++ ys) ≡ seen_of xs ++ seen_of ys → (if b then seen_of (xs ++ ys) else Opened (label_by kind name) ∷ seen_of (xs ++ ys)) ≡ (if b then seen_of xs else Opened (label_by kind name) ∷ seen_of xs) ++ seen_of ys
    own true same = same
    own false same = ap (λ seen. Opened (label_by kind name) ∷ seen) same
seen_of-append (NodeEnds kind ∷ xs) ys = own (is_doc kind) (seen_of-append xs ys)
  where
    own : (b : Bool) → seen_of (xs ++ ys) ≡ seen_of xs ++ seen_of ys → (if b then seen_of (xs ++ ys) else Closed ∷ seen_of (xs ++ ys)) ≡ (if b then seen_of xs else Closed ∷ seen_of xs) ++ seen_of ys
    own true same = same
    own false same = ap (λ seen. Closed ∷ seen) same
seen_of-append (RecordEnds ∷ xs) ys = seen_of-append xs ys
seen_of-append (RecordPassed count ∷ xs) ys = ap (λ seen. Skipped count ∷ seen) (seen_of-append xs ys)

-- no root of a document
abbrev HasNoRoot : Forest → Type 0
HasNoRoot Empty = Unit {0}
HasNoRoot (Plant node below beside) = (is_doc node.kind ≡ false) × HasNoRoot below × HasNoRoot beside

has_no_root : (f : Forest) → IsForest f → HasNoRoot f
has_no_root Empty h = tt
has_no_root (Plant node below beside) h = (other node h.0, has_no_root below h.2, has_no_root beside h.3)
  where
    other : (node : Node) → IsNode node → is_doc node.kind ≡ false
    other node is = by_kind node.kind is.parts
      where
        by_kind : (kind : Kind) → HasParts kind node.name node.content → is_doc kind ≡ false
        by_kind Doc h = absurd h
        by_kind Element h = refl
        by_kind Attribute h = refl
        by_kind Text h = refl
        by_kind Instruction h = refl

no_root-joined : (f g : Forest) → HasNoRoot (joined f g) → HasNoRoot f × HasNoRoot g
no_root-joined Empty g h = (tt, h)
no_root-joined (Plant n b s) g h = let r = no_root-joined s g h.2 in ((h.0, h.1, r.0), r.1)

seen_nodes : (wanted : RecordPlace → Bool) (layout : Layout) → HasNoRoot (laid_forest layout) → seen_of (looks_of wanted layout) ≡ shown_wanted wanted layout
seen_nodes wanted Bare h = refl
seen_nodes wanted (Grown n d s) h =
    let first = Opened (label_by n.node.kind n.node.name) in
    let rest = looks_of wanted d ++ NodeEnds n.node.kind ∷ looks_of wanted s in
    let opens : seen_of (NodeBegins n.node.kind n.node.name ∷ rest) ≡ first ∷ seen_of rest = ap (λ (b : Bool). if b then seen_of rest else first ∷ seen_of rest) h.0 in
    let closes : seen_of (NodeEnds n.node.kind ∷ looks_of wanted s) ≡ Closed ∷ seen_of (looks_of wanted s) = ap (λ (b : Bool). if b then seen_of (looks_of wanted s) else Closed ∷ seen_of (looks_of wanted s)) h.0 in
    opens ∙ ap (λ seen. first ∷ seen) (seen_of-append (looks_of wanted d) (NodeEnds n.node.kind ∷ looks_of wanted s) ∙ ap (λ seen. seen_of (looks_of wanted d) ++ seen) closes)
    ∙ ap (λ seen. first ∷ (seen ++ Closed ∷ seen_of (looks_of wanted s))) (seen_nodes wanted d h.1) ∙ ap (λ seen. first ∷ (shown_wanted wanted d ++ Closed ∷ seen)) (seen_nodes wanted s h.2)
seen_nodes wanted (Kept p m s) h =
    let parts = no_root-joined (laid_forest m) (laid_forest s) h in
    seen_of-append (shown_of wanted p m) (looks_of wanted s) ∙ ap (λ seen. seen ++ seen_of (looks_of wanted s)) (own (wanted p) (seen_nodes wanted m parts.0))
    ∙ ap (λ seen. (if wanted p then shown_wanted wanted m else Skipped (width m) ∷ []) ++ seen) (seen_nodes wanted s parts.1)
  where
    own : (b : Bool) → seen_of (looks_of wanted m) ≡ shown_wanted wanted m → seen_of (if b then RecordBegins p ∷ (looks_of wanted m ++ RecordEnds ∷ []) else RecordPassed (width m) ∷ []) ≡ (if b then shown_wanted wanted m else Skipped (width m) ∷ [])
    own true same = seen_of-append (looks_of wanted m) (RecordEnds ∷ []) ∙ append-nil (seen_of (looks_of wanted m)) ∙ same
    own false same = refl

-- Of a document a finder is shown what is shown below its root.
pub seen_below : (wanted : RecordPlace → Bool) (root : RecordPlace) (node : Node) (layout : Layout) → is_doc node.kind ≡ true → IsForest (laid_forest layout)
    → seen_of (looks_into wanted root (Grown (laid_near node) layout Bare)) ≡ shown_wanted wanted layout
seen_below wanted root node layout doc is =
    let rest = looks_of wanted layout ++ NodeEnds node.kind ∷ [] in
    let opens : seen_of (NodeBegins node.kind node.name ∷ (rest ++ RecordEnds ∷ [])) ≡ seen_of (rest ++ RecordEnds ∷ []) =
    ap (λ (b : Bool). if b then seen_of (rest ++ RecordEnds ∷ []) else Opened (label_by node.kind node.name) ∷ seen_of (rest ++ RecordEnds ∷ [])) doc in
    let closes : seen_of (NodeEnds node.kind ∷ []) ≡ [] = ap (λ (b : Bool). if b then [] else Closed ∷ []) doc in
    opens ∙ seen_of-append rest (RecordEnds ∷ []) ∙ append-nil (seen_of rest) ∙ seen_of-append (looks_of wanted layout) (NodeEnds node.kind ∷ []) ∙ ap (λ seen. seen_of (looks_of wanted layout) ++ seen) closes
    ∙ append-nil (seen_of (looks_of wanted layout)) ∙ seen_nodes wanted layout (has_no_root (laid_forest layout) is)
