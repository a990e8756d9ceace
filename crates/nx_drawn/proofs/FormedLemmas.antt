-- Edits leave intervals with members of their own, and splits of them leave no part that is too heavy.
use Rattle.std.proofs.Common.{◌≡◌, ℕ, zero, suc, ◌+◌, ◌-◌, ◌<◌, ◌≤◌, nat_lt, if◌then◌else◌, Bool, true, false, List, [], ◌∷◌, Option, None, Some, refl, sym, ap, subst, ◌∙◌, arith}
use Rattle.std.specs.Bool.{MatchBool}
use Rattle.std.proofs.lemmas.Bool.Decides.{nat_tests}
use Rattle.nx_tree.specs.declared.node.Node.{Node}
use Rattle.nx_tree.specs.Forest.{Forest, Empty, Plant}
use Rattle.nx_weights.specs.Weight.{weight, total}
use Rattle.nx_matrix.specs.declared.rule.Entry.{Entry}
use Rattle.nx_matrix.specs.declared.rule.Entry.TheVariants.{Standalone, Cluster, Free}
use Rattle.nx_matrix.specs.declared.rule.Rule.{Rule}
use Rattle.nx_cuts.specs.Cut.{Cut, CutForest, Bare, Grown, Kept, CutTree, joined, forest, width, part_weight, AreFree, AreParts}
use Rattle.nx_cuts.specs.Rows.{joined_row, first, behind, changed_row}
use Rattle.nx_cuts.proofs.RowLemmas.{width-joined_row, free-joined_row, parts-joined_row}
use Rattle.nx_cuts.proofs.DeepLemmas.{width-changed}
use Rattle.nx_cuts.proofs.FoldLemmas.{part-total}
use Rattle.nx_cuts.proofs.FeasibleLemmas.{trees, trees-forest}
use Rattle.nx_holdings.specs.declared.header.Settings.{Settings}
use Rattle.nx_split.specs.Piece.{asked}
use Rattle.nx_drawn.specs.Edits.{placed_beside, placed_among, planted_row, inserted, retexted}
use Rattle.nx_drawn.specs.Splits.{Divides, SplitsRow, Splits, whole_document}
use Rattle.nx_drawn.proofs.SplitLemmas.{same_row}
use Rattle.nx_drawn.proofs.DividedLemmas.{heavier_parts, divided_parts}

-- intervals with members of their own, whatever their parts weigh
abbrev pub AreFormed : CutForest → Type 0
AreFormed Bare = Unit {0}
AreFormed (Grown node below beside) = AreFormed below × AreFormed beside
AreFormed (Kept mark members beside) = (1 ≤ width members) × AreFree members × AreFormed members × AreFormed beside

pub formed : (k : ℕ) (c : CutForest) → AreParts k c → AreFormed c
formed k Bare h = tt
formed k (Grown n b s) h = (formed k b h.0, formed k s h.1)
formed k (Kept u m s) h = (h.0, h.1, formed k m h.3, formed k s h.4)

total-joined : (f g : Forest) → total (joined f g) ≡ total f + total g
total-joined Empty g = omega arith
total-joined (Plant n b s) g = omega (arith, total-joined s g)

-- no part weighs more than all trees
pub some_limit : (c : CutForest) → AreFormed c → AreParts (total (forest c)) c
some_limit Bare h = tt
some_limit (Grown n b s) h = (
  heavier_parts (total (forest b)) (weight n + total (forest b) + total (forest s)) b (omega arith) (some_limit b h.0),
  heavier_parts (total (forest s)) (weight n + total (forest b) + total (forest s)) s (omega arith) (some_limit s h.1),
)
some_limit (Kept u m s) h =
    let j = total-joined (forest m) (forest s) in
    let p = part-total m in (
      h.0,
      h.1,
      omega arith,
      heavier_parts (total (forest m)) (total (joined (forest m) (forest s))) m (omega arith) (some_limit m h.2),
      heavier_parts (total (forest s)) (total (joined (forest m) (forest s))) s (omega arith) (some_limit s h.3),
    )

-- the first trees of a row of free ones, and those behind them
pub width_first : {N P : Type 0} (p : ℕ) (m : Cut N P) → AreFree m → p ≤ width m → width (first p m) ≡ p
width_first zero m f h = refl
width_first (suc p) Bare f h = absurd (omega arith)
width_first (suc p) (Grown n b s) f h = omega (arith, width_first p s f (omega arith))
width_first (suc p) (Kept u m s) f h = absurd f

pub width_behind : {N P : Type 0} (p : ℕ) (m : Cut N P) → AreFree m → p ≤ width m → width (behind p m) + p ≡ width m
width_behind zero m f h = omega arith
width_behind (suc p) Bare f h = absurd (omega arith)
width_behind (suc p) (Grown n b s) f h = omega (arith, width_behind p s f (omega arith))
width_behind (suc p) (Kept u m s) f h = absurd f

pub free_first : {N P : Type 0} (p : ℕ) (m : Cut N P) → AreFree m → AreFree (first p m)
free_first zero m f = tt
free_first (suc p) Bare f = tt
free_first (suc p) (Grown n b s) f = free_first p s f
free_first (suc p) (Kept u m s) f = absurd f

pub free_behind : {N P : Type 0} (p : ℕ) (m : Cut N P) → AreFree m → AreFree (behind p m)
free_behind zero m f = f
free_behind (suc p) Bare f = tt
free_behind (suc p) (Grown n b s) f = free_behind p s f
free_behind (suc p) (Kept u m s) f = absurd f

formed_first : (p : ℕ) (m : CutForest) → AreFormed m → AreFormed (first p m)
formed_first zero m h = tt
formed_first (suc p) Bare h = tt
formed_first (suc p) (Grown n b s) h = (h.0, formed_first p s h.1)
formed_first (suc p) (Kept u m s) h = tt

formed_behind : (p : ℕ) (m : CutForest) → AreFormed m → AreFormed (behind p m)
formed_behind zero m h = h
formed_behind (suc p) Bare h = tt
formed_behind (suc p) (Grown n b s) h = formed_behind p s h.1
formed_behind (suc p) (Kept u m s) h = tt

-- rows beside each other
formed_joined : (a b : CutForest) → AreFormed a → AreFormed b → AreFormed (joined_row a b)
formed_joined Bare b f g = g
formed_joined (Grown n d s) b f g = (f.0, formed_joined s b f.1 g)
formed_joined (Kept u m s) b f g = (f.0, f.1, f.2, formed_joined s b f.3 g)

-- a new node leaves intervals with members of their own
formed_beside : (entry : Entry) (node : Node) (s : CutForest) → AreFormed s → AreFormed (placed_beside tt entry node s)
formed_beside Standalone node s h = (omega arith, tt, (tt, tt), h)
formed_beside Cluster node s h = (tt, h)
formed_beside Free node s h = (tt, h)

formed_among : (entry : Entry) (node : Node) (p : ℕ) (m s : CutForest) → 1 ≤ p → p < width m → AreFree m → AreFormed m → AreFormed s → AreFormed (placed_among tt tt tt entry node p m s)
formed_among Free node p m s low high f h g = (
  let w = width-joined_row (first p m) (Grown node Bare (behind p m)) in omega (arith, w),
  free-joined_row (first p m) (Grown node Bare (behind p m)) (free_first p m f) (free_behind p m f),
  formed_joined (first p m) (Grown node Bare (behind p m)) (formed_first p m h) (tt, formed_behind p m h),
  g,
)
formed_among Standalone node p m s low high f h g =
    let w = width_first p m f (omega arith) in let v = width_behind p m f (omega arith) in (
      omega arith,
      free_first p m f,
      formed_first p m h,
      (omega arith, tt, (tt, tt), (omega arith, free_behind p m f, formed_behind p m h, g)),
    )
formed_among Cluster node p m s low high f h g =
    let w = width_first p m f (omega arith) in let v = width_behind p m f (omega arith) in (
      omega arith,
      free_first p m f,
      formed_first p m h,
      (tt, (omega arith, free_behind p m f, formed_behind p m h, g)),
    )

formed_there : (entry : Entry) (node : Node) (p : ℕ) (u : Unit {0}) (m s : CutForest) (t : Bool) → nat_lt (suc p) (width m) ≡ t → AreFormed (Kept u m s) → ((q : ℕ) → AreFormed (planted_row tt tt entry node q s))
    → AreFormed (if t then placed_among tt tt tt entry node (suc p) m s else Kept u m (planted_row tt tt entry node (suc p - width m) s))
formed_there entry node p u m s true e h ih = formed_among entry node (suc p) m s (omega arith) (grind (arith, nat_tests)) h.1 h.2 h.3
formed_there entry node p u m s false e h ih = (h.0, h.1, h.2, ih (suc p - width m))

formed_planted : (entry : Entry) (node : Node) (p : ℕ) (c : CutForest) → AreFormed c → AreFormed (planted_row tt tt entry node p c)
formed_planted entry node zero c h = formed_beside entry node c h
formed_planted entry node (suc p) Bare h = tt
formed_planted entry node (suc p) (Grown n b s) h = (h.0, formed_planted entry node p s h.1)
formed_planted entry node (suc p) (Kept u m s) h = formed_there entry node p u m s (nat_lt (suc p) (width m)) refl h (λ q. formed_planted entry node q s h.3)

pub free_changed : (change : CutTree → CutTree) (p : ℕ) (c : CutForest) → AreFree c → AreFree (changed_row p change c)
free_changed change p Bare f = tt
free_changed change zero (Grown n b s) f = f
free_changed change (suc p) (Grown n b s) f = free_changed change p s f
free_changed change p (Kept u m s) f = absurd f

module _ (change : CutTree → CutTree) (keeps : (t : CutTree) → AreFormed t.below → AreFormed (change t).below) where
  formed_changed : (p : ℕ) (c : CutForest) → AreFormed c → AreFormed (changed_row p change c)
  formed_changed p Bare h = tt
  formed_changed zero (Grown n b s) h = (keeps (record { node = n; below = b }) h.0, h.1)
  formed_changed (suc p) (Grown n b s) h = (h.0, formed_changed p s h.1)
  formed_changed p (Kept u m s) h =
      elim (nat_lt p (width m)) as (λ t. AreFormed (if t then Kept u (changed_row p change m) s else Kept u m (changed_row (p - width m) change s))) [
        | true ↦ (let w = width-changed p change m in let x = h.0 in omega arith, free_changed change p m h.1, formed_changed p m h.2, h.3)
        | false ↦ (h.0, h.1, h.2, formed_changed (p - width m) s h.3)
      ]

pub formed_inserted : (rules : List Rule) (node : Node) (path : List ℕ) (t : CutTree) → AreFormed t.below → AreFormed (inserted rules node path t).below
formed_inserted rules node [] t h = h
formed_inserted rules node (p ∷ []) t h = formed_planted (asked rules t.node node) node p t.below h
formed_inserted rules node (p ∷ q ∷ path) t h = formed_changed (inserted rules node (q ∷ path)) (λ u g. formed_inserted rules node (q ∷ path) u g) p t.below h

pub formed_retexted : (bytes path : List ℕ) (t : CutTree) → AreFormed t.below → AreFormed (retexted bytes path t).below
formed_retexted bytes [] t h = h
formed_retexted bytes (p ∷ path) t h = formed_changed (retexted bytes path) (λ u g. formed_retexted bytes path u g) p t.below h

module _ (settings : Settings) (rules : List Rule) where
  free_split : (room : ℕ) (above : Option Node) (old new : CutForest) → AreFree old → SplitsRow settings rules room above old new → AreFree new
  free_split room above Bare new f h = subst AreFree (sym h) tt
  free_split room above (Grown n b s) new f h = subst AreFree (sym h.4) (free_split room above s h.1 f h.3)
  free_split room above (Kept u m s) new f h = absurd f

  interval_light : (room : ℕ) (above : Option Node) (m now : CutForest) (t : Bool) → nat_lt settings.k (part_weight m) ≡ t → 1 ≤ width m → AreFree m → AreParts settings.k m
      → MatchBool t (Divides settings rules room above m now) (now ≡ Kept tt m Bare) → AreParts settings.k now
  interval_light room above m now true e w f a h = divided_parts settings rules above m now settings.k a room h (omega arith)
  interval_light room above m now false e w f a h = subst (AreParts settings.k) (sym h) (w, f, (let l : part_weight m ≤ settings.k = grind (arith, nat_tests) in l), a, tt)

  row_light : (room : ℕ) (above : Option Node) (old new : CutForest) → AreFormed old → SplitsRow settings rules room above old new → AreParts settings.k new
  row_light room above Bare new f h = subst (AreParts settings.k) (sym h) tt
  row_light room above (Grown n b s) new f h = subst (AreParts settings.k) (sym h.4) (row_light room (Some n) b h.0 f.0 h.2, row_light room above s h.1 f.1 h.3)
  row_light room above (Kept u m s) new f h =
      let a = row_light (settings.k - part_weight m) above m h.0 f.2 h.3 in
      let w : width h.0 ≡ width m = sym (trees-forest h.0) ∙ ap trees (same_row settings rules (settings.k - part_weight m) above m h.0 h.3) ∙ trees-forest m in
      let x = f.0 in
      let r = interval_light room above h.0 h.1 (nat_lt settings.k (part_weight h.0)) refl (omega arith) (free_split (settings.k - part_weight m) above m h.0 f.1 h.3) a h.4 in
      subst (AreParts settings.k) (sym h.6) (parts-joined_row settings.k h.1 h.2 r (row_light room above s h.2 f.3 h.5))

  pub splits_light : (old new : CutTree) → AreFormed old.below → Splits settings rules old new → AreParts settings.k (whole_document new)
  splits_light old new f h = row_light 0 None (whole_document old) (whole_document new) (omega arith, tt, (f, tt), tt) h
