-- A split asks of the node above nothing but its label.
use Rattle.std.proofs.Common.{◌≡◌, ℕ, ◌-◌, nat_lt, Bool, true, false, List, Some, ap, subst}
use Rattle.std.specs.Bool.{MatchBool}
use Rattle.nx_tree.specs.declared.node.Node.{Node}
use Rattle.nx_cuts.specs.Cut.{CutForest, Bare, Grown, Kept, part_weight}
use Rattle.nx_matrix.specs.declared.rule.Rule.{Rule}
use Rattle.nx_matrix.specs.Label.{label}
use Rattle.nx_matrix.specs.Rules.{entry_of}
use Rattle.nx_holdings.specs.declared.header.Settings.{Settings}
use Rattle.nx_sketch.specs.Sketch.{Placed, placed}
use Rattle.nx_sketch.specs.Split.{IsDivision}
use Rattle.nx_split.specs.Piece.{freed}
use Rattle.nx_drawn.specs.Splits.{part_sketch, part_nodes, Divides, SplitsInterval, SplitsRow}
use Rattle.nx_drafts.specs.Rows.{RowSplitsByLabel}

part_by_label : (rules : List Rule) (one other : Node) (members : CutForest) → label one ≡ label other → part_nodes rules (Some one) members ≡ part_nodes rules (Some other) members
part_by_label rules one other members same = ap (λ (l : List ℕ). placed (part_sketch rules (λ root. freed (entry_of rules l (label root))) 0 members)) same

where_true : (A B C : Type 0) (t : Bool) → (A → B) → MatchBool t A C → MatchBool t B C
where_true A B C true more h = more h
where_true A B C false more h = h

module _ (settings : Settings) (rules : List Rule) (one other : Node) (same : label one ≡ label other) where
  divides_by_label : (room : ℕ) (members now : CutForest) → Divides settings rules room (Some one) members now → Divides settings rules room (Some other) members now
  divides_by_label room members now d = record {
    parts = d.parts;
    raised = d.raised;
    division = subst (λ (ns : List Placed). IsDivision settings.k ns room settings.target settings.tolerance d.parts d.raised) (part_by_label rules one other members same) d.division;
    same = d.same;
    drawn = d.drawn;
    limit = d.limit;
    formed = d.formed;
  }

  pub interval_by_label : (room : ℕ) (members now : CutForest) → SplitsInterval settings rules room (Some one) members now → SplitsInterval settings rules room (Some other) members now
  interval_by_label room members now h =
      where_true (Divides settings rules room (Some one) members now) (Divides settings rules room (Some other) members now) (now ≡ Kept tt members Bare) (nat_lt settings.k (part_weight members)) (divides_by_label room members now) h

  row_by_label : (room : ℕ) (old new : CutForest) → SplitsRow settings rules room (Some one) old new → SplitsRow settings rules room (Some other) old new
  row_by_label room Bare new h = h
  row_by_label room (Grown node below beside) new h = (h.0, h.1, h.2, row_by_label room beside h.1 h.3, h.4)
  row_by_label room (Kept mark members beside) new h = (h.0, h.1, h.2, row_by_label (settings.k - part_weight members) members h.0 h.3, interval_by_label room h.0 h.1 h.4, row_by_label room beside h.2 h.5, h.6)

pub row_splits_by_label : RowSplitsByLabel
row_splits_by_label settings rules room one other old new same h = row_by_label settings rules one other same room old new h
