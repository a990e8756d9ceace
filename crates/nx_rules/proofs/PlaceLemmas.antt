-- Places in a document: what waits there, and what may stand there.
use Rattle.std.proofs.Common.{◌≡◌, ℕ, ◌+◌, ◌-◌, ◌≤◌, Bool, true, false, List, [], ◌∷◌, ◌++◌, Option, None, Some, refl, sym, ap, ◌∙◌, subst, arith, append_assoc}
use Rattle.std.specs.Prelude.{if◌then◌else◌, ◌||◌}
use Rattle.std.specs.Bool.{MatchBool}
use Rattle.nx_tree.specs.declared.node.Kind.{Kind}
use Rattle.nx_tree.specs.declared.node.Kind.TheVariants.{Doc, Element, Attribute, Text, Instruction}
use Rattle.nx_tree.specs.declared.node.Node.{Node}
use Rattle.nx_tree.specs.Forest.{Forest, Empty, Plant}
use Rattle.nx_tree.specs.Document.{is_attribute, is_element, is_instruction, attribute_names, HasNoAttribute, AttributesComeFirst, AreDistinct, HasParts, MayHave, IsForest, IsTop, element_count, depth, deepest}
use Rattle.nx_holdings.specs.Holdings.{Link}
use Rattle.nx_cuts.specs.Cut.{Bare, Grown, Kept, joined}
use Rattle.nx_cuts.specs.Rows.{joined_row}
use Rattle.nx_cuts.proofs.RowLemmas.{joined_assoc, joined_nothing}
use Rattle.nx_layouts.specs.Layout.{RecordPlace}
use Rattle.nx_rules.specs.Walked.{Reached, Waits, Walked, walked_forest, Namer, ByRecord, Named, waiting_in, IsSoFar}
use Rattle.nx_rules.specs.Broken.{waits, reached_first}
use Rattle.nx_rules.specs.Places.{Around, Top, Below, Behind, Inside, filled_around, IsCome, namer_at, waiting_behind, before_there, behind_there, siblings_with, kind_above, level_of, MayBeBelow, MayBeThere}
use Rattle.nx_rules.specs.Laws.{PlacesFit, WaitsThere}

-- What waits:

or_assoc : (a b c : Bool) → (a || (b || c)) ≡ ((a || b) || c)
or_assoc true b c = refl
or_assoc false b c = refl

neither : (a b : Bool) → (a || b) ≡ false → (a ≡ false) × (b ≡ false)
neither true b e = absurd (cc)
neither false b e = (refl, e)

pub waits_joined : (a b : Walked) → waits (joined_row a b) ≡ (waits a || waits b)
waits_joined Bare b = refl
waits_joined (Grown n d s) b = ap (λ w. waits d || w) (waits_joined s b) ∙ or_assoc (waits d) (waits s) (waits b)
waits_joined (Kept (Reached p cs) m s) b = ap (λ w. waits m || w) (waits_joined s b) ∙ or_assoc (waits m) (waits s) (waits b)
waits_joined (Kept (Waits x) m s) b = refl

pub none_waiting : (by : Namer) (a : Walked) → waits a ≡ false → waiting_in by a ≡ []
none_waiting by Bare e = refl
none_waiting by (Grown n b s) e =
    let both = neither (waits b) (waits s) e in ap (λ l. l ++ waiting_in by s) (none_waiting by b both.0) ∙ none_waiting by s both.1
none_waiting by (Kept (Reached p cs) m s) e =
    let both = neither (waits m) (waits s) e in ap (λ l. l ++ waiting_in by s) (none_waiting (ByRecord p.page) m both.0) ∙ none_waiting by s both.1
none_waiting by (Kept (Waits x) m s) e = absurd (cc)

pub waiting_joined : (by : Namer) (a b : Walked) → waiting_in by (joined_row a b) ≡ waiting_in by a ++ waiting_in by b
waiting_joined by Bare b = refl
waiting_joined by (Grown n d s) b = ap (λ l. waiting_in by d ++ l) (waiting_joined by s b) ∙ sym (append_assoc (waiting_in by d) (waiting_in by s) (waiting_in by b))
waiting_joined by (Kept (Reached p cs) m s) b =
    ap (λ l. waiting_in (ByRecord p.page) m ++ l) (waiting_joined by s b) ∙ sym (append_assoc (waiting_in (ByRecord p.page) m) (waiting_in by s) (waiting_in by b))
waiting_joined by (Kept (Waits x) m s) b = ap (λ l. record { by = by; proxy = x } ∷ l) (waiting_joined by s b)

waits_by : (around : Around) → IsCome around → (by : Namer) (row : Walked) → waiting_in by (filled_around around row) ≡ waiting_in (namer_at by around) row ++ waiting_behind by around
waits_by Top come by row = sym (append-none (waiting_in by row)) where
  append-none : (xs : List Named) → xs ++ [] ≡ xs
  append-none [] = refl
  append-none (x ∷ xs) = ap (λ l. x ∷ l) (append-none xs)
waits_by (Below n s outer) come by row =
    waits_by outer come by (Grown n row s) ∙ append_assoc (waiting_in (namer_at by outer) row) (waiting_in (namer_at by outer) s) (waiting_behind by outer)
waits_by (Behind done outer) come by row =
    waits_by outer come.1 by (joined_row done row)
    ∙ ap (λ l. l ++ waiting_behind by outer) (waiting_joined (namer_at by outer) done row ∙ ap (λ l. l ++ waiting_in (namer_at by outer) row) (none_waiting (namer_at by outer) done come.0))
waits_by (Inside p cs s outer) come by row =
    waits_by outer come by (Kept (Reached p cs) row s) ∙ append_assoc (waiting_in (ByRecord p.page) row) (waiting_in (namer_at by outer) s) (waiting_behind by outer)

pub waits_there : WaitsThere
waits_there around come by row = waits_by around come by row

-- The first that waits is reached:

module _ (place : RecordPlace) (chains : List (List Link)) (new : Walked) where
  abbrev goes : Walked → Walked
  goes w = reached_first place chains new w

  goes_joined : (done row : Walked) → waits done ≡ false → goes (joined_row done row) ≡ joined_row done (goes row)
  goes_joined Bare row e = refl
  goes_joined (Grown n b s) row e =
      let both = neither (waits b) (waits s) e in
      let x = joined_row s row in
      ap (λ (w : Bool). if w then Grown n (goes b) x else Grown n b (goes x)) both.0 ∙ ap (λ (r : Walked). Grown n b r) (goes_joined s row both.1)
  goes_joined (Kept (Reached p cs) m s) row e =
      let both = neither (waits m) (waits s) e in
      let x = joined_row s row in
      ap (λ (w : Bool). if w then Kept (Reached p cs) (goes m) x else Kept (Reached p cs) m (goes x)) both.0 ∙ ap (λ (r : Walked). Kept (Reached p cs) m r) (goes_joined s row both.1)
  goes_joined (Kept (Waits x) m s) row e = absurd (cc)

  goes_there : (around : Around) → IsCome around → (row : Walked) → waits row ≡ true → goes (filled_around around row) ≡ filled_around around (goes row)
  goes_there Top come row e = refl
  goes_there (Below n s outer) come row e =
      goes_there outer come (Grown n row s) (ap (λ (w : Bool). w || waits s) e)
      ∙ ap (filled_around outer) (ap (λ (w : Bool). if w then Grown n (goes row) s else Grown n row (goes s)) e)
  goes_there (Behind done outer) come row e =
      goes_there outer come.1 (joined_row done row) (waits_joined done row ∙ ap (λ (w : Bool). w || waits row) come.0 ∙ e)
      ∙ ap (filled_around outer) (goes_joined done row come.0)
  goes_there (Inside p cs s outer) come row e =
      goes_there outer come (Kept (Reached p cs) row s) (ap (λ (w : Bool). w || waits s) e)
      ∙ ap (filled_around outer) (ap (λ (w : Bool). if w then Kept (Reached p cs) (goes row) s else Kept (Reached p cs) row (goes s)) e)

-- What may stand there:

pub forest_parts : (f g : Forest) → IsForest (joined f g) → IsForest f × IsForest g
forest_parts Empty g h = (tt, h)
forest_parts (Plant n b s) g h = let r = forest_parts s g h.3 in ((h.0, h.1, h.2, r.0), r.1)

pub forest_join : (f g : Forest) → IsForest f → IsForest g → IsForest (joined f g)
forest_join Empty g h k = k
forest_join (Plant n b s) g h k = (h.0, h.1, h.2, forest_join s g h.3 k)

depth_left : (f g : Forest) → depth f ≤ depth (joined f g)
depth_left Empty g = omega arith
depth_left (Plant n b s) g = let r = depth_left s g in omega (arith, r)

depth_right : (f g : Forest) → depth g ≤ depth (joined f g)
depth_right Empty g = omega arith
depth_right (Plant n b s) g = let r = depth_right s g in omega (arith, r)

depth_most : (m : ℕ) (f g : Forest) → depth f ≤ m → depth g ≤ m → depth (joined f g) ≤ m
depth_most m Empty g h k = k
depth_most m (Plant n b s) g h k = let r = depth_most m s g (omega (arith, h)) k in omega (arith, h, r)

-- the same row of nodes, whatever is below them
abbrev pub SameRow : Forest → Forest → Type 0
SameRow Empty Empty = Unit {0}
SameRow (Plant n b s) (Plant m d t) = (n ≡ m) × SameRow s t
SameRow _ _ = ⊥

same_self : (f : Forest) → SameRow f f
same_self Empty = tt
same_self (Plant n b s) = (refl, same_self s)

pub same_below : (b : Forest) (n : Node) (x y s : Forest) → SameRow (joined b (Plant n x s)) (joined b (Plant n y s))
same_below Empty n x y s = (refl, same_self s)
same_below (Plant m d t) n x y s = (refl, same_below t n x y s)

same_top : (f g : Forest) → SameRow f g → IsTop f → IsTop g
same_top Empty Empty e h = tt
same_top Empty (Plant m d t) e h = absurd e
same_top (Plant n b s) Empty e h = absurd e
same_top (Plant n b s) (Plant m d t) e h = (subst (λ (x : Node). (is_element x.kind || is_instruction x.kind) ≡ true) e.0 h.0, same_top s t e.1 h.1)

pub same_elements : (f g : Forest) → SameRow f g → element_count f ≡ element_count g
same_elements Empty Empty e = refl
same_elements Empty (Plant m d t) e = absurd e
same_elements (Plant n b s) Empty e = absurd e
same_elements (Plant n b s) (Plant m d t) e =
    ap (λ (x : Node). (if is_element x.kind then 1 else 0) + element_count s) e.0 ∙ ap (λ (c : ℕ). (if is_element m.kind then 1 else 0) + c) (same_elements s t e.1)

same_none : (f g : Forest) → SameRow f g → HasNoAttribute f → HasNoAttribute g
same_none Empty Empty e h = tt
same_none Empty (Plant m d t) e h = absurd e
same_none (Plant n b s) Empty e h = absurd e
same_none (Plant n b s) (Plant m d t) e h = (subst (λ (x : Node). is_attribute x.kind ≡ false) e.0 h.0, same_none s t e.1 h.1)

match_along : (b : Bool) {A B C D : Type 0} → (A → C) → (B → D) → MatchBool b A B → MatchBool b C D
match_along true f g h = f h
match_along false f g h = g h

same_first : (f g : Forest) → SameRow f g → AttributesComeFirst f → AttributesComeFirst g
same_first Empty Empty e h = tt
same_first Empty (Plant m d t) e h = absurd e
same_first (Plant n b s) Empty e h = absurd e
same_first (Plant n b s) (Plant m d t) e h =
    subst (λ (x : Node). MatchBool (is_attribute x.kind) (AttributesComeFirst t) (HasNoAttribute t)) e.0 (match_along (is_attribute n.kind) (same_first s t e.1) (same_none s t e.1) h)

same_names : (f g : Forest) → SameRow f g → attribute_names f ≡ attribute_names g
same_names Empty Empty e = refl
same_names Empty (Plant m d t) e = absurd e
same_names (Plant n b s) Empty e = absurd e
same_names (Plant n b s) (Plant m d t) e =
    ap (λ (x : Node). if is_attribute x.kind then x.name ∷ attribute_names s else attribute_names s) e.0
    ∙ ap (λ (l : List (List ℕ)). if is_attribute m.kind then m.name ∷ l else l) (same_names s t e.1)

same_empty : (f g : Forest) → SameRow f g → f ≡ Empty → g ≡ Empty
same_empty Empty Empty e h = refl
same_empty Empty (Plant m d t) e h = absurd e
same_empty (Plant n b s) Empty e h = refl
same_empty (Plant n b s) (Plant m d t) e h = absurd (cc)

same_may : (kind : Kind) (f g : Forest) → SameRow f g → MayHave kind f → MayHave kind g
same_may Element f g e h = (same_first f g e h.0, subst (λ (l : List (List ℕ)). AreDistinct l) (same_names f g e) h.1)
same_may Doc f g e h = same_empty f g e h
same_may Attribute f g e h = same_empty f g e h
same_may Text f g e h = same_empty f g e h
same_may Instruction f g e h = same_empty f g e h

-- what each kind of node asks
pub below_forest : (kind : Kind) (level : ℕ) (f : Forest) → MayBeBelow kind level f → IsForest f × (level + depth f ≤ 1 + deepest)
below_forest Doc level f h = (h.2, h.3)
below_forest Element level f h = (h.1, h.2)
below_forest Attribute level f h = (h.1, h.2)
below_forest Text level f h = (h.1, h.2)
below_forest Instruction level f h = (h.1, h.2)

make_below : (kind : Kind) (name content : List ℕ) (level : ℕ) (f : Forest) → HasParts kind name content → MayHave kind f → IsForest f → level + depth f ≤ 1 + deepest → MayBeBelow kind level f
make_below Doc name content level f parts may is deep = absurd parts
make_below Element name content level f parts may is deep = (may, is, deep)
make_below Attribute name content level f parts may is deep = (may, is, deep)
make_below Text name content level f parts may is deep = (may, is, deep)
make_below Instruction name content level f parts may is deep = (may, is, deep)

below_may : (kind : Kind) (name content : List ℕ) (level : ℕ) (f : Forest) → HasParts kind name content → MayBeBelow kind level f → MayHave kind f
below_may Doc name content level f parts h = absurd parts
below_may Element name content level f parts h = h.0
below_may Attribute name content level f parts h = h.0
below_may Text name content level f parts h = h.0
below_may Instruction name content level f parts h = h.0

pub joined_some : (f : Forest) (n : Node) (x s : Forest) → joined f (Plant n x s) ≡ Empty → ⊥
joined_some Empty n x s e = cc
joined_some (Plant m d t) n x s e = cc

-- of a row that may be there, what is below one of its nodes
inner_of : (above : Option Kind) (level : ℕ) (b : Forest) (n : Node) (x s : Forest) → (above ≡ None → level ≡ 0) → MayBeThere above level (joined b (Plant n x s)) → MayBeBelow n.kind (1 + level) x
inner_of None level Empty n x s top h =
    let zero_level : level ≡ 0 = top refl in
    let deep : depth x ≤ 256 = h.7 in
    subst (λ (k : Kind). MayBeBelow k (1 + level) x) (sym h.0) (h.4, h.5, h.6, omega (arith, zero_level, deep))
inner_of None level (Plant m d t) n x s top h = absurd (joined_some t n x s h.3)
inner_of (Some kind) level b n x s top h =
    let is = below_forest kind level (joined b (Plant n x s)) h in
    let parts = forest_parts b (Plant n x s) is.0 in
    let there = parts.1 in
    let low : level + depth (joined b (Plant n x s)) ≤ 257 = is.1 in
    let under : depth (Plant n x s) ≤ depth (joined b (Plant n x s)) = depth_right b (Plant n x s) in
    make_below n.kind n.name n.content (1 + level) x there.0.parts there.1 there.2 (omega (arith, low, under))

-- ... and with other trees below that node
outer_of : (above : Option Kind) (level : ℕ) (b : Forest) (n : Node) (x y s : Forest) → MayBeThere above level (joined b (Plant n x s)) → MayBeBelow n.kind (1 + level) y → MayBeThere above level (joined b (Plant n y s))
outer_of None level Empty n x y s h g =
    let is : MayBeBelow Doc (1 + level) y = subst (λ (k : Kind). MayBeBelow k (1 + level) y) h.0 g in
    let low : 1 + level + depth y ≤ 257 = is.3 in
    (h.0, h.1, h.2, h.3, is.0, is.1, is.2, omega (arith, low))
outer_of None level (Plant m d t) n x y s h g = absurd (joined_some t n x s h.3)
outer_of (Some kind) level b n x y s h g = by_kind kind h where
  row : Forest
  row = joined b (Plant n y s)

  same : SameRow (joined b (Plant n x s)) (joined b (Plant n y s))
  same = same_below b n x y s

  new_forest : IsForest (joined b (Plant n x s)) → IsForest (joined b (Plant n y s))
  new_forest is =
      let parts = forest_parts b (Plant n x s) is in
      let there = parts.1 in
      forest_join b (Plant n y s) parts.0 (there.0, below_may n.kind n.name n.content (1 + level) y there.0.parts g, (below_forest n.kind (1 + level) y g).0, there.3)

  new_depth : level + depth (joined b (Plant n x s)) ≤ 1 + deepest → level + depth (joined b (Plant n y s)) ≤ 1 + deepest
  new_depth low =
      let old : level + depth (joined b (Plant n x s)) ≤ 257 = low in
      let left = depth_left b (Plant n x s) in
      let right : depth (Plant n x s) ≤ depth (joined b (Plant n x s)) = depth_right b (Plant n x s) in
      let under : 1 + level + depth y ≤ 257 = (below_forest n.kind (1 + level) y g).1 in
      let most : depth (joined b (Plant n y s)) ≤ 257 - level = depth_most (257 - level) b (Plant n y s) (omega (arith, old, left)) (omega (arith, old, right, under)) in
      omega (arith, most, old)

  by_kind : (k : Kind) → MayBeBelow k level (joined b (Plant n x s)) → MayBeBelow k level (joined b (Plant n y s))
  by_kind Doc h =
      let few : element_count (joined b (Plant n x s)) ≤ 1 = h.1 in
      let equal : element_count (joined b (Plant n x s)) ≡ element_count (joined b (Plant n y s)) = same_elements _ _ same in
      (same_top (joined b (Plant n x s)) (joined b (Plant n y s)) same h.0, omega (arith, few, equal), new_forest h.2, new_depth h.3)
  by_kind Element h = (same_may Element (joined b (Plant n x s)) (joined b (Plant n y s)) same h.0, new_forest h.1, new_depth h.2)
  by_kind Attribute h = (same_may Attribute (joined b (Plant n x s)) (joined b (Plant n y s)) same h.0, new_forest h.1, new_depth h.2)
  by_kind Text h = (same_may Text (joined b (Plant n x s)) (joined b (Plant n y s)) same h.0, new_forest h.1, new_depth h.2)
  by_kind Instruction h = (same_may Instruction (joined b (Plant n x s)) (joined b (Plant n y s)) same h.0, new_forest h.1, new_depth h.2)

-- how far above the top is
top_level : (around : Around) → kind_above around ≡ None → level_of around ≡ 0
top_level Top e = refl
top_level (Below n s outer) e = absurd (cc)
top_level (Behind done outer) e = top_level outer e
top_level (Inside p cs s outer) e = top_level outer e

pub forest_row : (a b : Walked) → walked_forest (joined_row a b) ≡ joined (walked_forest a) (walked_forest b)
forest_row Bare b = refl
forest_row (Grown n d s) b = ap (λ (f : Forest). Plant n.node (walked_forest d) f) (forest_row s b)
forest_row (Kept mark m s) b = ap (λ (f : Forest). joined (walked_forest m) f) (forest_row s b) ∙ sym (joined_assoc (walked_forest m) (walked_forest s) (walked_forest b))

pub behind_same : (done : Walked) (outer : Around) (row : Walked) → siblings_with outer (walked_forest (joined_row done row)) ≡ siblings_with (Behind done outer) (walked_forest row)
behind_same done outer row =
    let a = before_there outer in
    let c = behind_there outer in
    ap (λ (f : Forest). joined a (joined f c)) (forest_row done row) ∙ ap (joined a) (joined_assoc (walked_forest done) (walked_forest row) c)
    ∙ sym (joined_assoc a (walked_forest done) (joined (walked_forest row) c))

pub inside_same : (p : RecordPlace) (cs : List (List Link)) (s : Walked) (outer : Around) (row : Walked) → siblings_with outer (walked_forest (Kept (Reached p cs) row s)) ≡ siblings_with (Inside p cs s outer) (walked_forest row)
inside_same p cs s outer row = ap (joined (before_there outer)) (joined_assoc (walked_forest row) (walked_forest s) (behind_there outer))

pub may_be_there : (around : Around) (row : Walked) → IsSoFar (walked_forest (filled_around around row)) → MayBeThere (kind_above around) (level_of around) (siblings_with around (walked_forest row))
may_be_there Top row h = subst (λ (f : Forest). IsSoFar f) (sym (joined_nothing (walked_forest row))) h
may_be_there (Below n s outer) row h =
    let there = may_be_there outer (Grown n row s) h in
    let x = inner_of (kind_above outer) (level_of outer) (before_there outer) n.node (walked_forest row) (joined (walked_forest s) (behind_there outer)) (top_level outer) there in
    subst (λ (f : Forest). MayBeBelow n.node.kind (1 + level_of outer) f) (sym (joined_nothing (walked_forest row))) x
may_be_there (Behind done outer) row h =
    subst (λ (f : Forest). MayBeThere (kind_above outer) (level_of outer) f) (behind_same done outer row) (may_be_there outer (joined_row done row) h)
may_be_there (Inside p cs s outer) row h =
    subst (λ (f : Forest). MayBeThere (kind_above outer) (level_of outer) f) (inside_same p cs s outer row) (may_be_there outer (Kept (Reached p cs) row s) h)

there_stands : (around : Around) (row other : Walked) → IsSoFar (walked_forest (filled_around around row)) → MayBeThere (kind_above around) (level_of around) (siblings_with around (walked_forest other)) → IsSoFar (walked_forest (filled_around around other))
there_stands Top row other h g = subst (λ (f : Forest). IsSoFar f) (joined_nothing (walked_forest other)) g
there_stands (Below n s outer) row other h g =
    let is : MayBeBelow n.node.kind (1 + level_of outer) (walked_forest other) = subst (λ (f : Forest). MayBeBelow n.node.kind (1 + level_of outer) f) (joined_nothing (walked_forest other)) g in
    there_stands outer (Grown n row s) (Grown n other s) h
    (outer_of (kind_above outer) (level_of outer) (before_there outer) n.node (walked_forest row) (walked_forest other) (joined (walked_forest s) (behind_there outer)) (may_be_there outer (Grown n row s) h) is)
there_stands (Behind done outer) row other h g =
    there_stands outer (joined_row done row) (joined_row done other) h (subst (λ (f : Forest). MayBeThere (kind_above outer) (level_of outer) f) (sym (behind_same done outer other)) g)
there_stands (Inside p cs s outer) row other h g =
    there_stands outer (Kept (Reached p cs) row s) (Kept (Reached p cs) other s) h (subst (λ (f : Forest). MayBeThere (kind_above outer) (level_of outer) f) (sym (inside_same p cs s outer other)) g)

pub places_fit : PlacesFit
places_fit around come proxy beside place chains new so_far =
    let was = Kept (Waits proxy) Bare beside in
    let now = Kept (Reached place chains) new beside in (
      goes_there place chains new around come was refl,
      (λ h. may_be_there around now h, λ h. there_stands around was now so_far h),
    )
