use Rattle.std.proofs.Common.{◌∙◌, sym, subst}
use Rattle.std.proofs.lemmas.Bool.{false≢true}
use Rattle.std.specs.Option.{option_copied}
use Rattle.nx_records.specs.Words.{Settings}
use Rattle.nx_records.specs.declared.error.StoreError.{StoreError}
use Rattle.nx_hold.specs.Changes.{place_of}
use Rattle.nx_divide.specs.Heavy.{MayBeDivided}
use Rattle.nx_edit.specs.Growing.{NotGrown}
use Rattle.nx_edit.proofs.RowCalls.{ok_map, err_map}
use Rattle.nx_edit.proofs.GrownLemmas.{row_is_more}
use Rattle.nx_edit.proofs.DividedLemmas.{heavy_ok, heavy_refused, undivided}
use Rattle.nx_edit.proofs.growing.put_heavy.Goals as goal

pub returns-then-not-may_be_divided-clause-refused : goal.returns-then-not-may_be_divided-clause-refused
returns-then-not-may_be_divided-clause-refused g c =
    subst (λ (e : StoreError). NotGrown g.D.Disk c.args.piece (place_of c.args.rid) e c.args.records.now c.damaged.new.records c.args.disk.now c.args.disk.now) (sym c.damaged.ensures.result)
    (undivided g.D.Disk c.args.matrix.now c.args.room (option_copied c.args.above) c.args.piece (place_of c.args.rid) c.args.records.now c.damaged.new.records c.args.disk.now c.args.disk.now c.requires.near c.requires.piece.body.far c.args.records.now.head_range.settings.k.1
    (λ may. false≢true (sym c.if-not-may_be_divided.true ∙ c.may_be_divided.ensures.1 (subst (λ (s : Settings). MayBeDivided s.k c.args.piece) (sym c.settings.ensures) may)))
    (c.damaged.ensures.ends c.requires.runs))

pub returns-clause-row : goal.returns-clause-row
returns-clause-row g c = ok_map c.divide_at.result (λ row is. row_is_more row is c.requires.room) c.divide_at.ensures.row

pub returns-clause-ok : goal.returns-clause-ok
returns-clause-ok g c =
    heavy_ok g.D.Disk c.args.matrix.now c.args.room (option_copied c.args.above) c.args.piece (place_of c.args.rid) c.args.records.now c.divide_at.new.records c.args.disk.now c.divide_at.new.disk c.divide_at.result c.divide_at.ensures.comes c.divide_at.ensures.splits

pub returns-clause-refused : goal.returns-clause-refused
returns-clause-refused g c =
    err_map c.divide_at.result (λ e refused. heavy_refused g.D.Disk c.args.matrix.now c.args.room (option_copied c.args.above) c.args.piece (place_of c.args.rid) c.args.records.now c.divide_at.new.records c.args.disk.now c.divide_at.new.disk e c.requires.runs refused) c.divide_at.ensures.refused
