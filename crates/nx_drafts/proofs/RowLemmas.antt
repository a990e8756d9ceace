-- One interval of a row that is replaced by a split of it.
use Rattle.std.proofs.Common.{◌≡◌, ℕ, zero, suc, ◌-◌, ◌<◌, ◌≤◌, nat_lt, if◌then◌else◌, Bool, true, false, length, List, Option, None, Some, refl, sym, ap, ◌∙◌, subst, arith}
use Rattle.std.specs.Bool.{MatchBool}
use Rattle.std.proofs.lemmas.Bool.Decides.{nat_tests}
use Rattle.nx_tree.specs.declared.node.Node.{Node}
use Rattle.nx_cuts.specs.Cut.{CutForest, Bare, Grown, Kept, part_weight, AreParts}
use Rattle.nx_matrix.specs.declared.rule.Rule.{Rule}
use Rattle.nx_holdings.specs.declared.header.Settings.{Settings}
use Rattle.nx_layouts.specs.Layout.{RecordPlace, Layout, without_places, laid_weight, AreLaidParts, proxies_of}
use Rattle.nx_layouts.specs.Replace.{replaced_at, kept_at, above_at}
use Rattle.nx_layouts.proofs.DrawnLemmas.{rows_are_drawn_alike}
use Rattle.nx_cuts.specs.Rows.{joined_row}
use Rattle.nx_cuts.proofs.RowLemmas.{joined_row-none}
use Rattle.nx_drawn.specs.Splits.{Divides, SplitsInterval, SplitsRow, whole_document}
use Rattle.nx_drafts.specs.Rows.{OneIsSplit, SplitStaysAbove, RowSplitsAbove, LightRowStays, RootIsSplit}

module _ (settings : Settings) (rules : List Rule) where
  stays_interval : (room : ℕ) (m : CutForest) (above : Option Node) (t : Bool) → nat_lt settings.k (part_weight m) ≡ t → part_weight m ≤ settings.k → MatchBool t (Divides settings rules room above m (Kept tt m Bare)) (Kept tt m Bare ≡ Kept tt m Bare)
  stays_interval room m above true e le = absurd (let l : settings.k < part_weight m = grind (arith, nat_tests) in omega arith)
  stays_interval room m above false e le = refl

  -- where no part is too heavy, all stays
  pub row_stays : (room : ℕ) (above : Option Node) (old : CutForest) → AreParts settings.k old → SplitsRow settings rules room above old old
  row_stays room above Bare a = refl
  row_stays room above (Grown node below beside) a = (below, beside, row_stays room (Some node) below a.0, row_stays room above beside a.1, refl)
  row_stays room above (Kept mark members beside) a =
      (members, Kept tt members Bare, beside, row_stays (settings.k - part_weight members) above members a.3, stays_interval room members above (nat_lt settings.k (part_weight members)) refl a.2, row_stays room above beside a.4, refl)

  one_split : (room : ℕ) (above : Option Node) (index : ℕ) (old members row : Layout) → kept_at index old ≡ Some members → AreLaidParts settings.k (replaced_at index Bare old) → AreLaidParts settings.k members
      → SplitsInterval settings rules room (above_at index above old) (without_places members) (without_places row) → SplitsRow settings rules room above (without_places old) (without_places (replaced_at index row old))
  one_split room above index Bare members row e a parts splits = cc
  one_split room above index (Grown n b s) members row e a parts splits =
      (elim (nat_lt index (length (proxies_of b))) as (λ t.
      (if t then kept_at index b else kept_at (index - length (proxies_of b)) s) ≡ Some members
      → AreLaidParts settings.k (if t then Grown n (replaced_at index Bare b) s else Grown n b (replaced_at (index - length (proxies_of b)) Bare s))
      → SplitsInterval settings rules room (if t then above_at index (Some n.node) b else above_at (index - length (proxies_of b)) above s) (without_places members) (without_places row)
      → SplitsRow settings rules room above (Grown n.node (without_places b) (without_places s)) (without_places (if t then Grown n (replaced_at index row b) s else Grown n b (replaced_at (index - length (proxies_of b)) row s)))) [
        | true ↦ λ f h w. (without_places (replaced_at index row b), without_places s, one_split room (Some n.node) index b members row f h.0 parts w, row_stays room above (without_places s) h.1, refl)
        | false ↦ λ f h w. (
          without_places b,
          without_places (replaced_at (index - length (proxies_of b)) row s),
          row_stays room (Some n.node) (without_places b) h.0,
          one_split room above (index - length (proxies_of b)) s members row f h.1 parts w,
          refl,
        )
      ]) e a splits
  one_split room above zero (Kept r m s) members row e a parts splits =
      let same : m ≡ members = cc in (
        without_places members,
        without_places row,
        without_places s,
        subst (λ (l : Layout). SplitsRow settings rules (settings.k - laid_weight l) above (without_places l) (without_places members)) (sym same) (row_stays (settings.k - laid_weight members) above (without_places members) parts),
        splits,
        row_stays room above (without_places s) a,
        (rows_are_drawn_alike row).joined s,
      )
  one_split room above (suc index) (Kept r m s) members row e a parts splits = (
    without_places m,
    Kept tt (without_places m) Bare,
    without_places (replaced_at index row s),
    row_stays (settings.k - laid_weight m) above (without_places m) a.3,
    stays_interval room (without_places m) above (nat_lt settings.k (part_weight (without_places m))) refl a.2,
    one_split room above index s members row e a.4 parts splits,
    refl,
  )

  stays_above : (room : ℕ) (above : Option Node) (index : ℕ) (place : RecordPlace) (old members now : Layout) → kept_at index old ≡ Some members → AreLaidParts settings.k (replaced_at index Bare old) → laid_weight now ≤ settings.k
      → SplitsRow settings rules (settings.k - laid_weight members) (above_at index above old) (without_places members) (without_places now) → SplitsRow settings rules room above (without_places old) (without_places (replaced_at index (Kept place now Bare) old))
  stays_above room above index place Bare members now e a light splits = cc
  stays_above room above index place (Grown n b s) members now e a light splits =
      let row : Layout = Kept place now Bare in
      (elim (nat_lt index (length (proxies_of b))) as (λ t.
      (if t then kept_at index b else kept_at (index - length (proxies_of b)) s) ≡ Some members
      → AreLaidParts settings.k (if t then Grown n (replaced_at index Bare b) s else Grown n b (replaced_at (index - length (proxies_of b)) Bare s))
      → SplitsRow settings rules (settings.k - laid_weight members) (if t then above_at index (Some n.node) b else above_at (index - length (proxies_of b)) above s) (without_places members) (without_places now)
      → SplitsRow settings rules room above (Grown n.node (without_places b) (without_places s)) (without_places (if t then Grown n (replaced_at index row b) s else Grown n b (replaced_at (index - length (proxies_of b)) row s)))) [
        | true ↦ λ f h w. (without_places (replaced_at index row b), without_places s, stays_above room (Some n.node) index place b members now f h.0 light w, row_stays room above (without_places s) h.1, refl)
        | false ↦ λ f h w. (
          without_places b,
          without_places (replaced_at (index - length (proxies_of b)) row s),
          row_stays room (Some n.node) (without_places b) h.0,
          stays_above room above (index - length (proxies_of b)) place s members now f h.1 light w,
          refl,
        )
      ]) e a splits
  stays_above room above zero place (Kept r m s) members now e a light splits =
      let same : m ≡ members = cc in (
        without_places now,
        Kept tt (without_places now) Bare,
        without_places s,
        subst (λ (l : Layout). SplitsRow settings rules (settings.k - laid_weight l) above (without_places l) (without_places now)) (sym same) splits,
        stays_interval room (without_places now) above (nat_lt settings.k (part_weight (without_places now))) refl light,
        row_stays room above (without_places s) a,
        refl,
      )
  stays_above room above (suc index) place (Kept r m s) members now e a light splits = (
    without_places m,
    Kept tt (without_places m) Bare,
    without_places (replaced_at index (Kept place now Bare) s),
    row_stays (settings.k - laid_weight m) above (without_places m) a.3,
    stays_interval room (without_places m) above (nat_lt settings.k (part_weight (without_places m))) refl a.2,
    stays_above room above index place s members now e a.4 light splits,
    refl,
  )

  row_above : (room : ℕ) (above : Option Node) (index : ℕ) (old members row : Layout) → kept_at index old ≡ Some members → AreLaidParts settings.k (replaced_at index Bare old)
      → SplitsRow settings rules room (above_at index above old) (Kept tt (without_places members) Bare) (without_places row) → SplitsRow settings rules room above (without_places old) (without_places (replaced_at index row old))
  row_above room above index Bare members row e a splits = cc
  row_above room above index (Grown n b s) members row e a splits =
      (elim (nat_lt index (length (proxies_of b))) as (λ t.
      (if t then kept_at index b else kept_at (index - length (proxies_of b)) s) ≡ Some members
      → AreLaidParts settings.k (if t then Grown n (replaced_at index Bare b) s else Grown n b (replaced_at (index - length (proxies_of b)) Bare s))
      → SplitsRow settings rules room (if t then above_at index (Some n.node) b else above_at (index - length (proxies_of b)) above s) (Kept tt (without_places members) Bare) (without_places row)
      → SplitsRow settings rules room above (Grown n.node (without_places b) (without_places s)) (without_places (if t then Grown n (replaced_at index row b) s else Grown n b (replaced_at (index - length (proxies_of b)) row s)))) [
        | true ↦ λ f h w. (without_places (replaced_at index row b), without_places s, row_above room (Some n.node) index b members row f h.0 w, row_stays room above (without_places s) h.1, refl)
        | false ↦ λ f h w. (
          without_places b,
          without_places (replaced_at (index - length (proxies_of b)) row s),
          row_stays room (Some n.node) (without_places b) h.0,
          row_above room above (index - length (proxies_of b)) s members row f h.1 w,
          refl,
        )
      ]) e a splits
  row_above room above zero (Kept r m s) members row e a splits =
      let same : m ≡ members = cc in
      let is : without_places row ≡ splits.1 = splits.6 ∙ ap (joined_row splits.1) splits.5 ∙ joined_row-none splits.1 in (
        splits.0,
        splits.1,
        without_places s,
        subst (λ (l : Layout). SplitsRow settings rules (settings.k - laid_weight l) above (without_places l) splits.0) (sym same) splits.3,
        splits.4,
        row_stays room above (without_places s) a,
        (rows_are_drawn_alike row).joined s ∙ ap (λ (c : CutForest). joined_row c (without_places s)) is,
      )
  row_above room above (suc index) (Kept r m s) members row e a splits = (
    without_places m,
    Kept tt (without_places m) Bare,
    without_places (replaced_at index row s),
    row_stays (settings.k - laid_weight m) above (without_places m) a.3,
    stays_interval room (without_places m) above (nat_lt settings.k (part_weight (without_places m))) refl a.2,
    row_above room above index s members row e a.4 splits,
    refl,
  )

  interval_above : (room : ℕ) (above : Option Node) (index : ℕ) (old members row : Layout) → kept_at index old ≡ Some members → AreLaidParts settings.k (replaced_at index Bare old) → laid_weight (replaced_at index row old) ≤ settings.k
      → SplitsRow settings rules (settings.k - laid_weight old) (above_at index above old) (Kept tt (without_places members) Bare) (without_places row)
      → SplitsRow settings rules room above (Kept tt (without_places old) Bare) (Kept tt (without_places (replaced_at index row old)) Bare)
  interval_above room above index old members row e a light splits =
      let now : CutForest = without_places (replaced_at index row old) in (
        now,
        Kept tt now Bare,
        Bare,
        row_above (settings.k - laid_weight old) above index old members row e a splits,
        stays_interval room now above (nat_lt settings.k (part_weight now)) refl light,
        refl,
        refl,
      )

pub one_is_split : OneIsSplit
one_is_split settings rules room above index old members row e a parts splits = one_split settings rules room above index old members row e a parts splits

pub split_stays_above : SplitStaysAbove
split_stays_above settings rules room above index place old members now e a light splits = stays_above settings rules room above index place old members now e a light splits

pub root_is_split : RootIsSplit
root_is_split settings rules root place old new before after one other splits =
    subst (λ (b : CutForest). SplitsRow settings rules 0 None (Kept tt (Grown old.node b Bare) Bare) (whole_document new)) one
    (subst (λ (b : CutForest). SplitsRow settings rules 0 None (Kept tt (Grown old.node (without_places before) Bare) Bare) (Kept tt (Grown new.node b Bare) Bare)) other splits)

pub row_splits_above : RowSplitsAbove
row_splits_above settings rules room above index old members row e a light splits = interval_above settings rules room above index old members row e a light splits

pub light_row_stays : LightRowStays
light_row_stays settings rules room above row a = row_stays settings rules room above row a
