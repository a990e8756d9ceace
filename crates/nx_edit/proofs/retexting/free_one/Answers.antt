use Rattle.std.proofs.Common.{Option, [], map, sym, subst}
use Rattle.std.specs.Option.{option_to_list}
use Rattle.std.specs.Result.{OnOk}
use Rattle.nx_piece.specs.declared.piece.Far.{Far}
use Rattle.nx_hold.specs.Changes.{ComesTidyWhere}
use Rattle.nx_hold.specs.Documents.{MovesRecords}
use Rattle.nx_edit.specs.Removing.{AreUnnamed}
use Rattle.nx_edit.proofs.retexting.free_one.Goals as goal

pub returns-in-Some-clause-ok : goal.returns-in-Some-clause-ok
returns-in-Some-clause-ok g c =
    subst (λ (o : Option Far). OnOk c.free_all.result (ComesTidyWhere g.D.Disk c.args.records.now c.free_all.new.records c.args.disk.now c.free_all.new.disk (λ was. AreUnnamed was (option_to_list o)) (λ was now. MovesRecords [] [] (map (λ (far : Far). far.first) (option_to_list o)) [] 0 was now)))
    (sym c.in-Some.is) c.free_all.ensures.ok

pub returns-in-None-clause-ok : goal.returns-in-None-clause-ok
returns-in-None-clause-ok g c =
    subst (λ (o : Option Far). OnOk c.free_all-in-None.result (ComesTidyWhere g.D.Disk c.args.records.now c.free_all-in-None.new.records c.args.disk.now c.free_all-in-None.new.disk (λ was. AreUnnamed was (option_to_list o)) (λ was now. MovesRecords [] [] (map (λ (far : Far). far.first) (option_to_list o)) [] 0 was now)))
    (sym c.in-None.is) c.free_all-in-None.ensures.ok
