use Rattle.std.proofs.Common.{arith, ap, ◌∙◌, ◌≤◌, subst}
use Rattle.nx_piece.specs.Valid.{HavePages}
use Rattle.nx_piece.specs.Gapped.{item_count, gapped_width}
use Rattle.nx_piece.proofs.WalkLemmas.{width_trees, whole_body}
use Rattle.nx_piece.proofs.writing.encode_body.Goals as goal

pub overflow_cast-roots : goal.overflow_cast-roots
overflow_cast-roots c =
    let w = width_trees c.args.body.now.roots c.as_slice-roots.result.now c.as_slice-roots.ensures in
    let f : gapped_width c.args.body.now.roots ≤ 256 = c.requires.valid.few in
    omega arith

pub returns : goal.returns
returns c = record {
  bytes = whole_body c.args.proxies c.args.chain
      c.in_ok-push_trees.ensures.bytes c.in_ok-push_head.ensures c.in_ok-out.ensures c.as_slice-roots.ensures
      (width_trees c.args.body.now.roots c.as_slice-roots.result.now c.as_slice-roots.ensures)
      (c.measure_all-extent.ensures.items ∙ ap item_count c.as_slice-roots.ensures);
  pages = subst HavePages c.as_slice-roots.ensures c.in_ok-push_trees.ensures.pages;
}
