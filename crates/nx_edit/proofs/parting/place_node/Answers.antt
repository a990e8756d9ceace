use Rattle.std.proofs.Common.{inl, inr, refl, sym, subst}
use Rattle.std.specs.Prelude.{IfOk}
use Rattle.nx_host.proofs.DiskLemmas.{none_still}
use Rattle.nx_matrix.specs.declared.rule.Entry.{Entry}
use Rattle.nx_piece.specs.Gapped.{End, Grow}
use Rattle.nx_hold.specs.Changes.{ComesTidyWhere}
use Rattle.nx_hold.specs.Pieces.{MayName}
use Rattle.nx_edit.specs.Parting.{IsNodePlaced}
use Rattle.nx_edit.proofs.parting.place_node.Goals as goal

pub returns-in-Standalone-clause-ok : goal.returns-in-Standalone-clause-ok
returns-in-Standalone-clause-ok g c =
    subst (λ (e : Entry). IfOk c.place_alone.result (λ placed. ComesTidyWhere g.D.Disk c.args.records.now c.place_alone.new.records c.args.disk.now c.place_alone.new.disk (λ was. MayName was (Grow c.args.leaf.node End End)) (IsNodePlaced e c.args.piece c.args.member c.args.path.now c.args.position c.args.index c.args.front c.args.back c.args.leaf.node placed)))
    (sym c.in-Standalone.is) c.place_alone.ensures.ok

pub returns-in-Ok : goal.returns-in-Ok
returns-in-Ok g c = record {
  still = none_still;
  piece = c.in-Ok.ensures.piece;
  ok = λ saved now stands tidy may. (
    now,
    stands,
    tidy,
    elim (c.in-Cluster.is) [
      | inl is ↦ subst (λ (e : Entry). IsNodePlaced e c.args.piece c.args.member c.args.path.now c.args.position c.args.index c.args.front c.args.back c.args.leaf.node c.in-Ok.placed now now) (sym is) (refl, c.in-Ok.ensures.ok)
      | inr is ↦ subst (λ (e : Entry). IsNodePlaced e c.args.piece c.args.member c.args.path.now c.args.position c.args.index c.args.front c.args.back c.args.leaf.node c.in-Ok.placed now now) (sym is) (refl, c.in-Ok.ensures.ok)
    ],
  );
  keeps = (record { before = c.requires.runs; after = c.requires.runs; length_stays = refl; settings_stay = refl }, λ saved has. has);
  refused = tt;
}
