-- Splits leave the tree as it is.
use Rattle.std.proofs.Common.{◌≡◌, ℕ, ◌-◌, ◌<◌, ◌≤◌, nat_lt, Bool, true, false, List, Option, None, Some, refl, sym, ap, subst, ◌∙◌, arith}
use Rattle.std.specs.Bool.{MatchBool}
use Rattle.std.proofs.lemmas.Bool.Decides.{nat_tests}
use Rattle.nx_tree.specs.declared.node.Node.{Node}
use Rattle.nx_tree.specs.Forest.{Forest, Empty, Plant, OrderedTree}
use Rattle.nx_cuts.specs.Cut.{CutForest, Bare, Grown, Kept, CutTree, joined, forest, part_weight, AreParts, tree_of}
use Rattle.nx_matrix.specs.declared.rule.Rule.{Rule}
use Rattle.nx_holdings.specs.declared.header.Settings.{Settings}
use Rattle.nx_drawn.specs.Splits.{Divides, SplitsRow, Splits, whole_document}
use Rattle.nx_cuts.specs.Rows.{joined_row}
use Rattle.nx_cuts.proofs.RowLemmas.{joined_nothing, forest-joined_row}
use Rattle.nx_drawn.specs.Laws.{LightStays}

module _ (settings : Settings) (rules : List Rule) where
  same_interval : (room : ℕ) (above : Option Node) (m now : CutForest) (t : Bool) → MatchBool t (Divides settings rules room above m now) (now ≡ Kept tt m Bare) → forest now ≡ forest m
  same_interval room above m now true h = h.same
  same_interval room above m now false h = ap forest h ∙ joined_nothing (forest m)

  pub same_row : (room : ℕ) (above : Option Node) (old new : CutForest) → SplitsRow settings rules room above old new → forest new ≡ forest old
  same_row room above Bare new h = ap forest h
  same_row room above (Grown node below beside) new h =
      ap forest h.4 ∙ ap (λ f. Plant node f (forest h.1)) (same_row room (Some node) below h.0 h.2) ∙ ap (Plant node (forest below)) (same_row room above beside h.1 h.3)
  same_row room above (Kept mark members beside) new h =
      ap forest h.6 ∙ forest-joined_row h.1 h.2
      ∙ ap (λ f. joined f (forest h.2)) (same_interval room above h.0 h.1 (nat_lt settings.k (part_weight h.0)) h.4 ∙ same_row (settings.k - part_weight members) above members h.0 h.3)
      ∙ ap (joined (forest members)) (same_row room above beside h.2 h.5)

  -- the one tree of a forest
  abbrev only : Forest → OrderedTree → OrderedTree
  only Empty other = other
  only (Plant node below beside) other = record { node = node; below = below }

  pub same_tree : (old new : CutTree) → Splits settings rules old new → tree_of new ≡ tree_of old
  same_tree old new h = ap (λ f. only f (tree_of old)) (same_row 0 None (whole_document old) (whole_document new) h)

  light_interval : (room : ℕ) (m now : CutForest) (above : Option Node) (t : Bool) → nat_lt settings.k (part_weight m) ≡ t → part_weight m ≤ settings.k → MatchBool t (Divides settings rules room above m now) (now ≡ Kept tt m Bare) → now ≡ Kept tt m Bare
  light_interval room m now above true e le h = absurd (let l : settings.k < part_weight m = grind (arith, nat_tests) in omega arith)
  light_interval room m now above false e le h = h

  -- where no part is too heavy, all stays
  pub light_row : (room : ℕ) (above : Option Node) (old new : CutForest) → AreParts settings.k old → SplitsRow settings rules room above old new → new ≡ old
  light_row room above Bare new a h = h
  light_row room above (Grown node below beside) new a h = h.4 ∙ ap (λ b. Grown node b h.1) (light_row room (Some node) below h.0 a.0 h.2) ∙ ap (Grown node below) (light_row room above beside h.1 a.1 h.3)
  light_row room above (Kept mark members beside) new a h =
      let same = light_row (settings.k - part_weight members) above members h.0 a.3 h.3 in
      let weighs : part_weight h.0 ≡ part_weight members = ap part_weight same in
      let le = a.2 in
      let stays = light_interval room h.0 h.1 above (nat_lt settings.k (part_weight h.0)) refl (omega arith) h.4 in
      h.6 ∙ ap (λ r. joined_row r h.2) stays ∙ ap (λ m. Kept tt m h.2) same ∙ ap (Kept tt members) (light_row room above beside h.2 a.4 h.5)

  stays_interval : (room : ℕ) (m : CutForest) (above : Option Node) (t : Bool) → nat_lt settings.k (part_weight m) ≡ t → part_weight m ≤ settings.k → MatchBool t (Divides settings rules room above m (Kept tt m Bare)) (Kept tt m Bare ≡ Kept tt m Bare)
  stays_interval room m above true e le = absurd (let l : settings.k < part_weight m = grind (arith, nat_tests) in omega arith)
  stays_interval room m above false e le = refl

  row_stays : (room : ℕ) (above : Option Node) (old : CutForest) → AreParts settings.k old → SplitsRow settings rules room above old old
  row_stays room above Bare a = refl
  row_stays room above (Grown node below beside) a = (below, beside, row_stays room (Some node) below a.0, row_stays room above beside a.1, refl)
  row_stays room above (Kept mark members beside) a =
      (members, Kept tt members Bare, beside, row_stays (settings.k - part_weight members) above members a.3, stays_interval room members above (nat_lt settings.k (part_weight members)) refl a.2, row_stays room above beside a.4, refl)

  -- the one tree of a row that is kept in an interval
  abbrev inner : CutForest → CutTree → CutTree
  inner (Kept mark (Grown node below rest) beside) other = record { node = node; below = below }
  inner c other = other

pub light_stays : LightStays
light_stays settings rules old new a =
    (λ splits. ap (λ c. inner settings rules c old) (light_row settings rules 0 None (whole_document old) (whole_document new) a splits), λ same. subst (Splits settings rules old) (sym same) (row_stays settings rules 0 None (whole_document old) a))
