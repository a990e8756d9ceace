-- The laws of edits, from their lemmas.
use Rattle.nx_drawn.specs.Edits.{inserted, retexted}
use Rattle.nx_drawn.specs.Laws.{DrawnEditsAreEdits, DrawnEditsStayLight, SplitsLeaveTrees}
use Rattle.nx_drawn.proofs.EditLemmas.{tree-inserted, tree-deleted, tree-retexted}
use Rattle.nx_drawn.proofs.SplitLemmas.{same_tree}
use Rattle.nx_drawn.proofs.DeleteLemmas.{deleted_feasible}
use Rattle.nx_drawn.proofs.FormedLemmas.{formed, formed_inserted, formed_retexted, splits_light}

pub edits_are_edits : DrawnEditsAreEdits
edits_are_edits k document h = record {
  insert = λ rules node path. tree-inserted k rules node path document h.3.0;
  delete = λ path. tree-deleted k path document h.3.0;
  retext = λ content path. tree-retexted k content path document h.3.0;
}

pub edits_stay_light : DrawnEditsStayLight
edits_stay_light settings document h = record {
  insert = λ rules node path new splits. splits_light settings rules (inserted rules node path document) new (formed_inserted rules node path document (formed settings.k document.below h.3.0)) splits;
  delete = λ path. deleted_feasible settings.k path document h;
  retext = λ rules content path new splits. splits_light settings rules (retexted content path document) new (formed_retexted content path document (formed settings.k document.below h.3.0)) splits;
}

pub splits_leave_trees : SplitsLeaveTrees
splits_leave_trees settings rules old new splits = same_tree settings rules old new splits
