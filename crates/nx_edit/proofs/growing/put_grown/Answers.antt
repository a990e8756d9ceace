use Rattle.std.proofs.Common.{ap, arith}
use Rattle.std.proofs.lemmas.Result.{err_from_is_err_and}
use Rattle.std.specs.Option.{option_copied}
use Rattle.nx_records.specs.Words.{Settings}
use Rattle.nx_records.specs.declared.error.StoreError.{StoreError}
use Rattle.nx_records.proofs.RefusalLemmas.{err_passed}
use Rattle.nx_records.proofs.StandLemmas.{on_ok_then}
use Rattle.nx_piece.proofs.Laws.{are_short, little_weight}
use Rattle.nx_hold.specs.Changes.{place_of}
use Rattle.nx_hold.proofs.RefusalLemmas.{runs_then, saved_then}
use Rattle.nx_edit.specs.Growing.{NotGrown}
use Rattle.nx_edit.proofs.RowCalls.{ok_map, err_map}
use Rattle.nx_edit.proofs.GrownFarLemmas.{grown_then, grown_not, making_refused}
use Rattle.nx_edit.proofs.growing.put_grown.Goals as goal

pub weight-requires-clause-short : goal.weight-requires-clause-short
weight-requires-clause-short g c = are_short c.in_ok-piece.piece.body.roots ((c.in_ok-piece.ensures.piece).body).small ((c.in_ok-piece.ensures.piece).body).far

pub weight-requires-clause-few : goal.weight-requires-clause-few
weight-requires-clause-few g c = little_weight c.in_ok-piece.piece.body.roots ((c.in_ok-piece.ensures.piece).body).small ((c.in_ok-piece.ensures.piece).body).far

pub returns-in_err-piece-clause-refused : goal.returns-in_err-piece-clause-refused
returns-in_err-piece-clause-refused g c =
    err_passed c.from_residual.result (λ (e : StoreError). NotGrown g.D.Disk c.args.piece (place_of c.args.rid) e c.args.records.now c.make_far.new.records c.args.disk.now c.make_far.new.disk)
    c.in_err-piece.field-0.0 (err_from_is_err_and c.from_residual.result c.from_residual.ensures.1)
    (making_refused g.D.Disk c.args.piece (place_of c.args.rid) c.args.records.now c.make_far.new.records c.args.disk.now c.make_far.new.disk c.in_err-piece.field-0.0 c.requires.runs c.in_err-piece.ensures.refused)

pub put_heavy-requires-clause-near : goal.put_heavy-requires-clause-near
put_heavy-requires-clause-near g c = (c.in_ok-piece.ensures.far).near

pub put_heavy-requires-clause-heavy : goal.put_heavy-requires-clause-heavy
put_heavy-requires-clause-heavy g c = let more = c.if-weight-settings.true in let weighs = c.weight.ensures in let k = ap (λ (s : Settings). s.k) c.settings.ensures in omega (arith, more, weighs, k)

pub put_light-requires-clause-near : goal.put_light-requires-clause-near
put_light-requires-clause-near g c = (c.in_ok-piece.ensures.far).near

pub put_light-requires-clause-light : goal.put_light-requires-clause-light
put_light-requires-clause-light g c = let less = c.if-weight-settings.false in let weighs = c.weight.ensures in let k = ap (λ (s : Settings). s.k) c.settings.ensures in omega (arith, less, weighs, k)

pub returns-then-weight-settings-clause-ok : goal.returns-then-weight-settings-clause-ok
returns-then-weight-settings-clause-ok g c =
    ok_map c.put_heavy.result (λ row puts. grown_then {d = g.D.Disk} c.args.piece c.in_ok-piece.piece (place_of c.args.rid) {r0 = c.args.records.now} {r1 = c.make_far.new.records} {x0 = c.args.disk.now} {x1 = c.make_far.new.disk} c.in_ok-piece.ensures.ok
    {r2 = c.put_heavy.new.records} {x2 = c.put_heavy.new.disk} c.args.matrix.now c.args.room (option_copied c.args.above) row puts) c.put_heavy.ensures.ok

pub returns-then-weight-settings-clause-keeps : goal.returns-then-weight-settings-clause-keeps
returns-then-weight-settings-clause-keeps g c =
    on_ok_then c.put_heavy.result c.put_heavy.ensures.keeps (λ keeps. (
      runs_then {r0 = c.args.records.now} {r1 = c.make_far.new.records} {r2 = c.put_heavy.new.records} c.in_ok-piece.ensures.keeps.0 keeps.0,
      saved_then {d = g.D.Disk} {r0 = c.args.records.now} {r1 = c.make_far.new.records} {r2 = c.put_heavy.new.records} {x0 = c.args.disk.now} {x1 = c.make_far.new.disk} {x2 = c.put_heavy.new.disk} c.in_ok-piece.ensures.keeps.1 keeps.1,
      keeps.2,
    ))

pub returns-then-weight-settings-clause-refused : goal.returns-then-weight-settings-clause-refused
returns-then-weight-settings-clause-refused g c =
    err_map c.put_heavy.result (λ e refused. grown_not {d = g.D.Disk} c.args.piece c.in_ok-piece.piece (place_of c.args.rid) {r0 = c.args.records.now} {r1 = c.make_far.new.records} {x0 = c.args.disk.now} {x1 = c.make_far.new.disk} c.in_ok-piece.ensures.ok
    c.put_heavy.new.records c.put_heavy.new.disk c.in_ok-piece.ensures.keeps.0 c.in_ok-piece.ensures.keeps.1 c.make_far.ensures.still e refused) c.put_heavy.ensures.refused

pub returns-else-weight-settings-clause-ok : goal.returns-else-weight-settings-clause-ok
returns-else-weight-settings-clause-ok g c =
    ok_map c.put_light.result (λ row all. grown_then {d = g.D.Disk} c.args.piece c.in_ok-piece.piece (place_of c.args.rid) {r0 = c.args.records.now} {r1 = c.make_far.new.records} {x0 = c.args.disk.now} {x1 = c.make_far.new.disk} c.in_ok-piece.ensures.ok
    {r2 = c.put_light.new.records} {x2 = c.put_light.new.disk} c.args.matrix.now c.args.room (option_copied c.args.above) row (all c.args.matrix.now c.args.room (option_copied c.args.above))) c.put_light.ensures.ok

pub returns-else-weight-settings-clause-keeps : goal.returns-else-weight-settings-clause-keeps
returns-else-weight-settings-clause-keeps g c =
    on_ok_then c.put_light.result c.put_light.ensures.keeps (λ keeps. (
      runs_then {r0 = c.args.records.now} {r1 = c.make_far.new.records} {r2 = c.put_light.new.records} c.in_ok-piece.ensures.keeps.0 keeps.0,
      saved_then {d = g.D.Disk} {r0 = c.args.records.now} {r1 = c.make_far.new.records} {r2 = c.put_light.new.records} {x0 = c.args.disk.now} {x1 = c.make_far.new.disk} {x2 = c.put_light.new.disk} c.in_ok-piece.ensures.keeps.1 keeps.1,
      keeps.2,
    ))

pub returns-else-weight-settings-clause-refused : goal.returns-else-weight-settings-clause-refused
returns-else-weight-settings-clause-refused g c =
    err_map c.put_light.result (λ e refused. grown_not {d = g.D.Disk} c.args.piece c.in_ok-piece.piece (place_of c.args.rid) {r0 = c.args.records.now} {r1 = c.make_far.new.records} {x0 = c.args.disk.now} {x1 = c.make_far.new.disk} c.in_ok-piece.ensures.ok
    c.put_light.new.records c.put_light.new.disk c.in_ok-piece.ensures.keeps.0 c.in_ok-piece.ensures.keeps.1 c.make_far.ensures.still e refused) c.put_light.ensures.refused
