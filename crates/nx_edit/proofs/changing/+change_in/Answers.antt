use Rattle.std.proofs.Common.{◌≡◌, ℕ, ◌+◌, ◌-◌, List, [], None, Some, length, sym, ap, ◌∙◌, subst, arith}
use Rattle.std.proofs.lemmas.Result.{err_from_is_err_and}
use Rattle.std.specs.Option.{option_copied, option_to_list}
use Rattle.nx_host.proofs.DiskLemmas.{still_then}
use Rattle.nx_holdings.specs.declared.header.Settings.{Settings}
use Rattle.nx_records.specs.declared.error.StoreError.{StoreError}
use Rattle.nx_records.proofs.RefusalLemmas.{err_passed}
use Rattle.nx_hold.specs.Changes.{place_of, place_named, ComesTidyWhere}
use Rattle.nx_nav.specs.declared.routing.PassedRecord.{PassedRecord}
use Rattle.nx_nav.specs.Route.{EndsInside}
use Rattle.nx_nav.proofs.SeekLemmas.{part_left}
use Rattle.nx_edit.specs.Changing.{Put, IsLaidPut, MayChangeAlong, ChangesKnown, NotChangedAlong}
use Rattle.nx_edit.proofs.RowCalls.{ok_map, err_map, none_passed}
use Rattle.nx_edit.proofs.ChangeCalls.{keeps_after, end_unchanged, end_changed, unchanged_below, pass_refused, changed_away}
use Rattle.nx_edit.proofs.changing.+change_in.Goals as goal

pub change_own-requires-clause-valid : goal.change_own-requires-clause-valid
change_own-requires-clause-valid g t c = (subst (λ (ps : List PassedRecord). EndsInside c.args.member c.args.path.now ps c.args.last) (none_passed c.args.passed.now c.in_default.ensures.cases) c.requires.ends).0

pub change_own-requires-clause-here : goal.change_own-requires-clause-here
change_own-requires-clause-here g t c = (subst (λ (ps : List PassedRecord). EndsInside c.args.member c.args.path.now ps c.args.last) (none_passed c.args.passed.now c.in_default.ensures.cases) c.requires.ends).1

pub returns-in_default-clause-ok : goal.returns-in_default-clause-ok
returns-in_default-clause-ok g t c =
    let none : c.args.passed.now ≡ [] = none_passed c.args.passed.now c.in_default.ensures.cases in
    ok_map c.change_own.result (λ changed ok put laid.
    subst (λ (ps : List PassedRecord). ComesTidyWhere g.D.Disk c.args.records.now c.change_own.new.records c.args.disk.now c.change_own.new.disk (λ was. MayChangeAlong was put (place_of c.args.rid) c.args.member c.args.path.now ps c.args.last) (ChangesKnown c.args.matrix.now None c.args.room (option_copied c.args.above) put (place_of c.args.rid) c.args.member c.args.path.now changed.row (option_to_list changed.gone))) (sym none)
    (end_changed g.D.Disk c.args.matrix.now put (place_of c.args.rid) c.args.member c.args.path.now c.args.last c.args.records.now c.change_own.new.records c.args.disk.now c.change_own.new.disk c.args.room (option_copied c.args.above) changed.row (option_to_list changed.gone) (ok put laid))) c.change_own.ensures.ok

pub returns-in_default-clause-refused : goal.returns-in_default-clause-refused
returns-in_default-clause-refused g t c =
    let none : c.args.passed.now ≡ [] = none_passed c.args.passed.now c.in_default.ensures.cases in
    err_map c.change_own.result (λ e refused put laid.
    subst (λ (ps : List PassedRecord). NotChangedAlong g.D.Disk ps c.args.last c.args.matrix.now put (place_of c.args.rid) c.args.member c.args.path.now e c.args.records.now c.change_own.new.records c.args.disk.now c.change_own.new.disk) (sym none)
    (end_unchanged g.D.Disk c.args.matrix.now put (place_of c.args.rid) c.args.member c.args.path.now c.args.last c.args.records.now c.change_own.new.records c.args.disk.now c.change_own.new.disk e (refused put laid))) c.change_own.ensures.refused

pub slice_bounds-change_in-start : goal.slice_bounds-change_in-start
slice_bounds-change_in-start g t c = (subst (λ (ps : List PassedRecord). EndsInside c.args.member c.args.path.now ps c.args.last) c.in-Some.ensures.cases.0 c.requires.ends).2

pub slice_bounds-change_in-count : goal.slice_bounds-change_in-count
slice_bounds-change_in-count g t c = (subst (λ (ps : List PassedRecord). EndsInside c.args.member c.args.path.now ps c.args.last) c.in-Some.ensures.cases.0 c.requires.ends).2

pub change_in-requires : goal.change_in-requires
change_in-requires g t c κs within =
    let fewer : length c.in-Some.more.now + 1 ≡ length c.args.passed.now = c.in-Some.ensures.cases.1 in
    let ends = (subst (λ (ps : List PassedRecord). EndsInside c.args.member c.args.path.now ps c.args.last) c.in-Some.ensures.cases.0 c.requires.ends) in (
      omega (arith, fewer),
      (
        within,
        (
          c.requires.runs,
          (
            subst (λ (rest : List ℕ). EndsInside c.in-Some.first.now.member rest c.in-Some.more.now c.args.last) (sym (part_left c.args.path.now c.in-Some.first.now.used)) ends.3,
            (c.requires.written, let left = c.saturating_sub-left.ensures in let k = ap (λ (s : Settings). s.k) c.settings.ensures in let most = c.args.records.now.head_range.settings.k.1 in omega (arith, left, k, most)),
          ),
        ),
      ),
    )

pub returns-in_err-changed-clause-refused : goal.returns-in_err-changed-clause-refused
returns-in_err-changed-clause-refused g t c =
    err_passed c.from_residual.result (λ (e : StoreError). (put : Put) → IsLaidPut c.args.change put → NotChangedAlong g.D.Disk c.args.passed.now c.args.last c.args.matrix.now put (place_of c.args.rid) c.args.member c.args.path.now e c.args.records.now c.change_in.new.records c.args.disk.now c.change_in.new.disk)
    c.in_err-changed.field-0.0 (err_from_is_err_and c.from_residual.result c.from_residual.ensures.1)
    (λ put laid.
    subst (λ (ps : List PassedRecord). NotChangedAlong g.D.Disk ps c.args.last c.args.matrix.now put (place_of c.args.rid) c.args.member c.args.path.now c.in_err-changed.field-0.0 c.args.records.now c.change_in.new.records c.args.disk.now c.change_in.new.disk) (sym c.in-Some.ensures.cases.0)
    (unchanged_below g.D.Disk c.args.matrix.now put (place_of c.args.rid) c.args.member c.args.path.now c.in-Some.first.now c.in-Some.more.now c.args.last c.args.records.now c.change_in.new.records c.args.disk.now c.change_in.new.disk c.in_err-changed.field-0.0
    (subst (λ (rest : List ℕ). NotChangedAlong g.D.Disk c.in-Some.more.now c.args.last c.args.matrix.now put (place_named c.in-Some.first.now.proxy) c.in-Some.first.now.member rest c.in_err-changed.field-0.0 c.args.records.now c.change_in.new.records c.args.disk.now c.change_in.new.disk)
    (part_left c.args.path.now c.in-Some.first.now.used) (c.in_err-changed.ensures.refused put laid))))

pub pass_row-requires : goal.pass_row-requires
pass_row-requires g t c =
    let ends = (subst (λ (ps : List PassedRecord). EndsInside c.args.member c.args.path.now ps c.args.last) c.in-Some.ensures.cases.0 c.requires.ends) in
    record { runs = (c.in_ok-changed.ensures.keeps.0).after; roots = (ends.0, ends.1); row = c.in_ok-changed.ensures.row }

pub returns-in_err-row-clause-still : goal.returns-in_err-row-clause-still
returns-in_err-row-clause-still g t c = still_then c.change_in.ensures.still c.pass_row.ensures.still

pub returns-in_err-row-clause-refused : goal.returns-in_err-row-clause-refused
returns-in_err-row-clause-refused g t c =
    err_passed c.from_residual-in_err-row.result (λ (e : StoreError). (put : Put) → IsLaidPut c.args.change put → NotChangedAlong g.D.Disk c.args.passed.now c.args.last c.args.matrix.now put (place_of c.args.rid) c.args.member c.args.path.now e c.args.records.now c.pass_row.new.records c.args.disk.now c.pass_row.new.disk)
    c.in_err-row.field-0.0 (err_from_is_err_and c.from_residual-in_err-row.result c.from_residual-in_err-row.ensures.1)
    (λ put laid.
    subst (λ (ps : List PassedRecord). NotChangedAlong g.D.Disk ps c.args.last c.args.matrix.now put (place_of c.args.rid) c.args.member c.args.path.now c.in_err-row.field-0.0 c.args.records.now c.pass_row.new.records c.args.disk.now c.pass_row.new.disk) (sym c.in-Some.ensures.cases.0)
    (pass_refused g.D.Disk c.args.matrix.now put (place_of c.args.rid) c.args.member c.args.path.now c.in-Some.first.now c.in-Some.more.now c.args.last c.args.records.now c.change_in.new.records c.args.disk.now c.change_in.new.disk
    c.change_in.ensures.still c.in_ok-changed.ensures.keeps.0 c.in_ok-changed.ensures.keeps.1 c.saturating_sub-left.result (c.saturating_sub-left.ensures ∙ ap (λ (s : Settings). s.k - c.in-Some.first.now.weight) c.settings.ensures) c.in_ok-changed.changed.row
    (c.in_ok-changed.ensures.row).near (option_to_list c.in_ok-changed.changed.gone)
    (subst (λ (rest : List ℕ). ComesTidyWhere g.D.Disk c.args.records.now c.change_in.new.records c.args.disk.now c.change_in.new.disk (λ was. MayChangeAlong was put (place_named c.in-Some.first.now.proxy) c.in-Some.first.now.member rest c.in-Some.more.now c.args.last) (ChangesKnown c.args.matrix.now None c.saturating_sub-left.result (Some c.in-Some.first.now.above) put (place_named c.in-Some.first.now.proxy) c.in-Some.first.now.member rest c.in_ok-changed.changed.row (option_to_list c.in_ok-changed.changed.gone)))
    (part_left c.args.path.now c.in-Some.first.now.used) (c.in_ok-changed.ensures.ok put laid))
    c.pass_row.new.records c.pass_row.new.disk c.in_err-row.field-0.0 c.in_err-row.ensures.refused))

pub returns-clause-still : goal.returns-clause-still
returns-clause-still g t c = still_then c.change_in.ensures.still c.pass_row.ensures.still

pub returns-clause-ok : goal.returns-clause-ok
returns-clause-ok g t c = λ put laid.
    subst (λ (ps : List PassedRecord). ComesTidyWhere g.D.Disk c.args.records.now c.pass_row.new.records c.args.disk.now c.pass_row.new.disk (λ was. MayChangeAlong was put (place_of c.args.rid) c.args.member c.args.path.now ps c.args.last) (ChangesKnown c.args.matrix.now None c.args.room (option_copied c.args.above) put (place_of c.args.rid) c.args.member c.args.path.now c.in_ok-row.row (option_to_list c.in_ok-changed.changed.gone)))
    (sym c.in-Some.ensures.cases.0)
    (changed_away g.D.Disk c.args.matrix.now put (place_of c.args.rid) c.args.member c.args.path.now c.in-Some.first.now c.in-Some.more.now c.args.last c.args.records.now c.change_in.new.records c.args.disk.now c.change_in.new.disk
    c.change_in.ensures.still c.in_ok-changed.ensures.keeps.0 c.in_ok-changed.ensures.keeps.1 c.saturating_sub-left.result (c.saturating_sub-left.ensures ∙ ap (λ (s : Settings). s.k - c.in-Some.first.now.weight) c.settings.ensures) c.in_ok-changed.changed.row
    (c.in_ok-changed.ensures.row).near (option_to_list c.in_ok-changed.changed.gone)
    (subst (λ (rest : List ℕ). ComesTidyWhere g.D.Disk c.args.records.now c.change_in.new.records c.args.disk.now c.change_in.new.disk (λ was. MayChangeAlong was put (place_named c.in-Some.first.now.proxy) c.in-Some.first.now.member rest c.in-Some.more.now c.args.last) (ChangesKnown c.args.matrix.now None c.saturating_sub-left.result (Some c.in-Some.first.now.above) put (place_named c.in-Some.first.now.proxy) c.in-Some.first.now.member rest c.in_ok-changed.changed.row (option_to_list c.in_ok-changed.changed.gone)))
    (part_left c.args.path.now c.in-Some.first.now.used) (c.in_ok-changed.ensures.ok put laid))
    c.pass_row.new.records c.pass_row.new.disk c.args.room (option_copied c.args.above) c.in_ok-row.row c.in_ok-row.ensures.alone.0 c.in_ok-row.ensures.ok)

pub returns-clause-keeps : goal.returns-clause-keeps
returns-clause-keeps g t c =
    let on = keeps_after g.D.Disk c.args.records.now c.change_in.new.records c.pass_row.new.records c.args.disk.now c.change_in.new.disk c.pass_row.new.disk c.in_ok-changed.ensures.keeps.0 c.in_ok-changed.ensures.keeps.1 c.in_ok-row.ensures.keeps.0 c.in_ok-row.ensures.keeps.1 in
    (on.0, on.1, c.in_ok-row.ensures.keeps.2 c.in_ok-changed.ensures.keeps.2)
