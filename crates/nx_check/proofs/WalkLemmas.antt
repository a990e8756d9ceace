-- A walk goes on along a row: what is done stands before what is to come.
use Rattle.std.proofs.Common.{◌≡◌, ℕ, ◌+◌, ◌≤◌, Bool, false, ◌||◌, List, [], ◌∷◌, ◌++◌, length, take, drop, Some, refl, sym, ap, ◌∙◌, subst, arith}
use Rattle.std.proofs.lemmas.List.{length-drop, drop-drop}
use Rattle.nx_host.specs.Disk.{Image}
use Rattle.nx_host.specs.declared.disk.Disk.{Ghosts}
use Rattle.nx_holdings.specs.Holdings.{Link}
use Rattle.nx_tree.specs.declared.node.Kind.TheVariants.{Element}
use Rattle.nx_tree.specs.Forest.{Forest, Empty}
use Rattle.nx_piece.specs.declared.piece.Proxy.{Proxy}
use Rattle.nx_piece.specs.PieceNode.{PieceNode}
use Rattle.nx_piece.specs.Gapped.{Gapped, Grow, Gap, proxies_in}
use Rattle.nx_cuts.specs.Cut.{Bare, Grown, Kept, joined}
use Rattle.nx_cuts.specs.Rows.{joined_row}
use Rattle.nx_cuts.proofs.RowLemmas.{joined_row-assoc, joined_assoc, joined_nothing}
use Rattle.nx_layouts.specs.Layout.{RecordPlace, LaidNode}
use Rattle.nx_rules.specs.Walked.{Reached, Waits, Walked, walked_forest, ByRecord}
use Rattle.nx_rules.specs.Broken.{waits}
use Rattle.nx_rules.specs.Places.{Around, Below, Behind, filled_around, before_there, behind_there, kind_above, level_of}
use Rattle.nx_rules.proofs.PlaceLemmas.{waits_joined, forest_row}
use Rattle.nx_check.specs.declared.reading.Walk.{Walk}
use Rattle.nx_check.specs.declared.siblings.Siblings.{Siblings}
use Rattle.nx_check.specs.declared.walking.Tally.{Tally}
use Rattle.nx_check.specs.Heads.{Head, heads, item_heads}
use Rattle.nx_check.specs.Shown.{IsShownBy}
use Rattle.nx_check.specs.Siblings.{AreAround, AreAroundGap}
use Rattle.nx_check.specs.Standing.{Stage, IsStage, IsPlace, HasWalked, StandsThere, waiting_row, IsLaidRow, IsBelow, HasSiblings}
use Rattle.nx_check.proofs.ShownLemmas.{shown_heads}
use Rattle.nx_check.proofs.FitLemmas.{heads-joined}
use Rattle.nx_check.proofs.LaidLemmas.{node_shown, laid_shown, waiting_forest}

pub done_more : (done now : Walked) → waits done ≡ false → waits now ≡ false → waits (joined_row done now) ≡ false
done_more done now e f = waits_joined done now ∙ ap (λ (b : Bool). b || waits now) e ∙ f

-- a tree more is done
abbrev pub with_tree : Walked → LaidNode → Walked → Walked
with_tree done n inner = joined_row done (Grown n inner Bare)

pub tree_done : (done : Walked) (n : LaidNode) (inner outer : Walked) → joined_row done (Grown n inner outer) ≡ joined_row (with_tree done n inner) outer
tree_done done n inner outer = sym (joined_row-assoc done (Grown n inner Bare) outer)

pub tree_waits : (n : LaidNode) (inner : Walked) → waits inner ≡ false → waits (Grown n inner Bare) ≡ false
tree_waits n inner e = ap (λ (b : Bool). b || false) e

-- Siblings:

behind_same : (s : Siblings) (around : Around) (a b : Walked) → walked_forest a ≡ walked_forest b → HasSiblings s around a → HasSiblings s around b
behind_same s around a b e h = (h.0, λ k. subst (λ (f : Forest). AreAroundGap s (heads (before_there around)) (heads (joined f (behind_there around)))) e (h.1 k))

pub siblings_waiting : (s : Siblings) (around : Around) (ps : List Proxy) (row : Walked) → HasSiblings s around row → HasSiblings s around (waiting_row ps row)
siblings_waiting s around ps row h = behind_same s around row (waiting_row ps row) (sym (waiting_forest ps row)) h

-- none is done
pub siblings_begin : (s : Siblings) (around : Around) (row : Walked) → HasSiblings s around row → HasSiblings s (Behind Bare around) row
siblings_begin s around row h = (h.0, λ k. subst (λ (f : Forest). AreAroundGap s (heads f) (heads (joined (walked_forest row) (behind_there around)))) (sym (joined_nothing (before_there around))) (h.1 k))

-- more are done
pub siblings_more : (s : Siblings) (around : Around) (done now row other : Walked) → walked_forest other ≡ walked_forest row → HasSiblings s (Behind now (Behind done around)) other → HasSiblings s (Behind (joined_row done now) around) row
siblings_more s around done now row other e h = (
  h.0,
  λ k.
      let moved : joined (joined (before_there around) (walked_forest done)) (walked_forest now) ≡ joined (before_there around) (walked_forest (joined_row done now)) =
      joined_assoc (before_there around) (walked_forest done) (walked_forest now) ∙ ap (joined (before_there around)) (sym (forest_row done now)) in
      subst (λ (f : Forest). AreAroundGap s (heads f) (heads (joined (walked_forest row) (behind_there around)))) moved
      (subst (λ (f : Forest). AreAroundGap s (heads (joined (joined (before_there around) (walked_forest done)) (walked_forest now))) (heads (joined f (behind_there around)))) e (h.1 k)),
)

-- the records below those of an interval are reached too
pub siblings_below : (s : Siblings) (around : Around) (place : RecordPlace) (chains : List (List Link)) (new now row : Walked) → heads (walked_forest now) ≡ heads (walked_forest new) → HasSiblings s (Behind (Kept (Reached place chains) new Bare) around) row
    → HasSiblings s (Behind (Kept (Reached place chains) now Bare) around) row
siblings_below s around place chains new now row e h = (
  h.0,
  λ k.
      let before = before_there around in
      let one : (w : Walked) → heads (joined before (walked_forest (Kept (Reached place chains) w Bare))) ≡ heads before ++ heads (walked_forest w) =
      (λ (w : Walked). ap (λ (f : Forest). heads (joined before f)) (joined_nothing (walked_forest w)) ∙ heads-joined before (walked_forest w)) in
      subst (λ (l : List Head). AreAroundGap s l (heads (joined (walked_forest row) (behind_there around)))) (one new ∙ ap (λ (l : List Head). heads before ++ l) (sym e) ∙ sym (one now)) (h.1 k),
)

module _ {D : Type 0} (d : Ghosts D) where
  -- Of a row this is done, and what is to come of it is laid by these items and proxies.
  pub record HasPassed (walk : Walk) (tally : Tally) (disk : D) (was : Image) (base : ℕ) (stage : Stage) (around : Around) (left : Gapped) (ps : List Proxy) : Type 0 where
    pub done : Walked
    pub todo : Walked
    pub none : waits done ≡ false
    pub laid : IsLaidRow left ps todo
    pub walked : HasWalked d walk tally disk was base stage (filled_around around (joined_row done todo))

  module _ (walk : Walk) (tally : Tally) (disk : D) (was : Image) (base : ℕ) (stage : Stage) (around : Around) (node : PieceNode) (below beside : Gapped) (ps : List Proxy) (h : HasPassed walk tally disk was base stage around (Grow node below beside) ps) where
    -- what is below the next tree
    abbrev pub tree_node : LaidNode
    tree_node = h.laid.0

    abbrev pub tree_beside : Walked
    tree_beside = h.laid.2

    abbrev pub below_tree : Around
    below_tree = Below tree_node tree_beside (Behind h.done around)

    pub kind_same : kind_above below_tree ≡ Some node.node.kind
    kind_same = ap Some (node_shown tree_node node h.laid.4).kind

    abbrev pub tree_stands : (page levels k page_ levels_ k_ : ℕ) → page_ ≡ page → levels_ + 1 ≡ levels → k_ ≡ k → IsPlace stage around page levels k → StandsThere d walk tally disk page_ levels_ k_ (λ row. row) (IsBelow (record { node = node; below = below }) ps) was
    tree_stands page levels k page_ levels_ k_ same_page deeper same_k place = record {
      base = base;
      stage = stage;
      around = below_tree;
      row = h.laid.1;
      place = record {
        among = subst (λ (n : ℕ). IsStage n stage) (sym same_k) place.among;
        come = (h.none, place.come);
        namer = place.namer ∙ ap ByRecord (sym same_page);
        level = (let l : level_of around + levels ≡ 257 = place.level in omega (arith, l, deeper));
      };
      begins = (kind_same, refl, refl, h.laid.5);
      walked = subst (λ (w : Walked). HasWalked d walk tally disk was base stage (filled_around around (joined_row h.done w))) h.laid.3 h.walked;
    }

    -- it is passed
    abbrev pub tree_passed : (walk_ : Walk) (tally_ : Tally) (disk_ : D) (now : Walked) → waits now ≡ false → HasWalked d walk_ tally_ disk_ was base stage (filled_around below_tree now)
        → HasPassed walk_ tally_ disk_ was base stage around beside (drop (proxies_in below) ps)
    tree_passed walk_ tally_ disk_ now none walked = record {
      done = with_tree h.done tree_node now;
      todo = tree_beside;
      none = done_more h.done (Grown tree_node now Bare) h.none (tree_waits tree_node now none);
      laid = h.laid.6;
      walked = subst (λ (w : Walked). HasWalked d walk_ tally_ disk_ was base stage (filled_around around w)) (tree_done h.done tree_node now tree_beside) walked;
    }

  -- The roots of a piece:

  heads_tree : (done : Walked) (n : LaidNode) (inner outer : Walked) → heads (walked_forest (joined_row done (Grown n inner outer))) ≡ heads (walked_forest done) ++ record { kind = n.node.kind; name = n.node.name } ∷ heads (walked_forest outer)
  heads_tree done n inner outer = ap heads (forest_row done (Grown n inner outer)) ∙ heads-joined (walked_forest done) (walked_forest (Grown n inner outer))

  -- what is below a tree changes no head of its row
  pub heads_kept : (done : Walked) (n : LaidNode) (inner now outer row : Walked) → heads (walked_forest (joined_row done (Grown n inner outer))) ≡ heads (walked_forest row) → heads (walked_forest (joined_row (with_tree done n now) outer)) ≡ heads (walked_forest row)
  heads_kept done n inner now outer row e =
      ap (λ (w : Walked). heads (walked_forest w)) (sym (tree_done done n now outer)) ∙ heads_tree done n now outer ∙ sym (heads_tree done n inner outer) ∙ e

  -- What is below a node:

  -- one tree of the own record more is before the place
  pub tree_before : (done : Walked) (n : LaidNode) (now : Walked) (node : PieceNode) → IsShownBy node n.node → heads (walked_forest (with_tree done n now)) ≡ heads (walked_forest done) ++ record { kind = node.node.kind; name = node.node.name } ∷ []
  tree_before done n now node shown =
      let kind : n.node.kind ≡ node.node.kind = shown.kind in
      let name : n.node.name ≡ node.node.name = shown.name in
      let head : record { kind = n.node.kind; name = n.node.name } ≡ record { kind = node.node.kind; name = node.node.name } = (λ i. record { kind = kind i; name = name i }) in
      heads_tree done n now Bare ∙ ap (λ (h : Head). heads (walked_forest done) ++ h ∷ []) head

  module _ (s : Siblings) (walk : Walk) (tally : Tally) (disk : D) (was : Image) (base : ℕ) (stage : Stage) (around : Around) (count : ℕ) (beside : Gapped) (ps : List Proxy) (h : HasPassed walk tally disk was base stage around (Gap count beside) ps)
      (above : kind_above around ≡ Some s.kind) (none_before : before_there around ≡ Empty) (none_behind : behind_there around ≡ Empty) where
    heads_beside : heads (joined (walked_forest h.laid.0) (behind_there around)) ≡ item_heads beside
    heads_beside =
        ap (λ (f : Forest). heads (joined (walked_forest h.laid.0) f)) none_behind ∙ ap heads (joined_nothing (walked_forest h.laid.0))
        ∙ shown_heads beside (walked_forest h.laid.0) (laid_shown beside (drop count ps) h.laid.0 h.laid.2)

    pub gap_siblings : (s.kind ≡ Element → AreAroundGap s (heads (walked_forest h.done)) (item_heads beside)) → HasSiblings s (Behind h.done around) h.laid.0
    gap_siblings gap = (
      above,
      λ e.
          subst (λ (l : List Head). AreAroundGap s (heads (joined (before_there around) (walked_forest h.done))) l) (sym heads_beside)
          (subst (λ (f : Forest). AreAroundGap s (heads (joined f (walked_forest h.done))) (item_heads beside)) (sym none_before) (gap e)),
    )

    -- records of the gap come next
    abbrev pub gap_stands : (here : List Proxy) (page levels k : ℕ) → here ≡ take count ps → IsPlace stage around page levels k → (s.kind ≡ Element → AreAroundGap s (heads (walked_forest h.done)) (item_heads beside))
        → StandsThere d walk tally disk page levels k (waiting_row here) (HasSiblings s) was
    gap_stands here page levels k first place gap = record {
      base = base;
      stage = stage;
      around = Behind h.done around;
      row = h.laid.0;
      place = record { among = place.among; come = (h.none, place.come); namer = place.namer; level = place.level };
      begins = gap_siblings gap;
      walked = subst (λ (w : Walked). HasWalked d walk tally disk was base stage (filled_around around (joined_row h.done w))) (h.laid.1 ∙ ap (λ (l : List Proxy). waiting_row l h.laid.0) (sym first)) h.walked;
    }

    -- they are passed
    abbrev pub gap_passed : (walk_ : Walk) (tally_ : Tally) (disk_ : D) (now : Walked) → waits now ≡ false → HasWalked d walk_ tally_ disk_ was base stage (filled_around (Behind h.done around) (joined_row now h.laid.0))
        → HasPassed walk_ tally_ disk_ was base stage around beside (drop count ps)
    gap_passed walk_ tally_ disk_ now none walked = record {
      done = joined_row h.done now;
      todo = h.laid.0;
      none = done_more h.done now h.none none;
      laid = h.laid.2;
      walked = subst (λ (w : Walked). HasWalked d walk_ tally_ disk_ was base stage (filled_around around w)) (sym (joined_row-assoc h.done now h.laid.0)) walked;
    }

    pub gap_before : (t : Siblings) (now : Walked) → HasSiblings t (Behind now (Behind h.done around)) h.laid.0 → t.kind ≡ Element → AreAround t (heads (walked_forest (joined_row h.done now))) (item_heads beside)
    gap_before t now has e =
        let gap = has.1 e in
        let moved : joined (joined (before_there around) (walked_forest h.done)) (walked_forest now) ≡ walked_forest (joined_row h.done now) =
        ap (λ (f : Forest). joined (joined f (walked_forest h.done)) (walked_forest now)) none_before ∙ sym (forest_row h.done now) in
        (subst (λ (f : Forest). AreAroundGap t (heads f) (item_heads beside)) moved (subst (λ (l : List Head). AreAroundGap t (heads (joined (joined (before_there around) (walked_forest h.done)) (walked_forest now))) l) heads_beside gap)).around

  -- A row of records:

  -- So much of the row was walked.
  pub record HasRun (s : Siblings) (walk : Walk) (tally : Tally) (disk : D) (was : Image) (base : ℕ) (stage : Stage) (around : Around) (row : Walked) (ps : List Proxy) : Type 0 where
    pub done : Walked
    pub none : waits done ≡ false
    pub has : HasSiblings s (Behind done around) row
    pub walked : HasWalked d walk tally disk was base stage (filled_around around (joined_row done (waiting_row ps row)))

  module _ (s : Siblings) (walk : Walk) (tally : Tally) (disk : D) (was : Image) (base : ℕ) (stage : Stage) (around : Around) (row : Walked) (p : Proxy) (ps : List Proxy) (h : HasRun s walk tally disk was base stage around row (p ∷ ps)) where
    abbrev pub proxy_stands : (page levels k : ℕ) → IsPlace stage around page levels k → StandsThere d walk tally disk page levels k (λ beside. Kept (Waits p) Bare beside) (HasSiblings s) was
    proxy_stands page levels k place = record {
      base = base;
      stage = stage;
      around = Behind h.done around;
      row = waiting_row ps row;
      place = record { among = place.among; come = (h.none, place.come); namer = place.namer; level = place.level };
      begins = siblings_waiting s (Behind h.done around) ps row h.has;
      walked = h.walked;
    }

    pub proxy_run : (t : Siblings) (walk_ : Walk) (tally_ : Tally) (disk_ : D) (now : Walked) → waits now ≡ false → HasSiblings t (Behind now (Behind h.done around)) (waiting_row ps row)
        → HasWalked d walk_ tally_ disk_ was base stage (filled_around (Behind h.done around) (joined_row now (waiting_row ps row))) → HasRun t walk_ tally_ disk_ was base stage around row ps
    proxy_run t walk_ tally_ disk_ now none has walked = record {
      done = joined_row h.done now;
      none = done_more h.done now h.none none;
      has = siblings_more t around h.done now row (waiting_row ps row) (waiting_forest ps row) has;
      walked = subst (λ (w : Walked). HasWalked d walk_ tally_ disk_ was base stage (filled_around around w)) (sym (joined_row-assoc h.done now (waiting_row ps row))) walked;
    }

-- What is left of proxies:

pub enough_left : (proxies rest : List Proxy) (passed more all : ℕ) → rest ≡ drop passed proxies → passed + more ≡ all → all ≤ length proxies → more ≤ length rest
enough_left proxies rest passed more all e sum fits = let l = length-drop passed proxies in let r = ap length e in omega (arith, l, r, sum, fits)

pub dropped_twice : (proxies rest : List Proxy) (passed more : ℕ) → rest ≡ drop passed proxies → drop more rest ≡ drop (passed + more) proxies
dropped_twice proxies rest passed more e = ap (drop more) e ∙ drop-drop more passed proxies
