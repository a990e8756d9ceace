use Rattle.std.proofs.Common.{◌≡◌, ℕ, ◌+◌, List, [], Some, length, sym, subst, arith}
use Rattle.std.specs.Option.{option_to_list}
use Rattle.std.proofs.lemmas.Result.{err_from_is_err_and}
use Rattle.nx_host.proofs.DiskLemmas.{still_then}
use Rattle.nx_records.specs.declared.error.StoreError.{StoreError}
use Rattle.nx_records.proofs.RefusalLemmas.{err_passed}
use Rattle.nx_hold.specs.Changes.{place_of, place_named}
use Rattle.nx_nav.specs.declared.routing.PassedRecord.{PassedRecord}
use Rattle.nx_nav.specs.Route.{EndsInside}
use Rattle.nx_nav.proofs.SeekLemmas.{part_left}
use Rattle.nx_edit.specs.Rows.{DeletesAlong, NotDeletedAlong}
use Rattle.nx_edit.proofs.RowCalls.{ok_map, err_map, none_passed, end_refused, end_done, below_refused, left_refused, away_done, left_keeps}
use Rattle.nx_edit.proofs.rows.+delete_in.Goals as goal

pub delete_own-requires-clause-valid : goal.delete_own-requires-clause-valid
delete_own-requires-clause-valid g t c = (subst (λ (ps : List PassedRecord). EndsInside c.args.member c.args.path.now ps c.args.last) (none_passed c.args.passed.now c.in_default.ensures.cases) c.requires.ends).0

pub delete_own-requires-clause-here : goal.delete_own-requires-clause-here
delete_own-requires-clause-here g t c = (subst (λ (ps : List PassedRecord). EndsInside c.args.member c.args.path.now ps c.args.last) (none_passed c.args.passed.now c.in_default.ensures.cases) c.requires.ends).1

pub returns-in_default-clause-ok : goal.returns-in_default-clause-ok
returns-in_default-clause-ok g t c =
    let none : c.args.passed.now ≡ [] = none_passed c.args.passed.now c.in_default.ensures.cases in
    ok_map c.delete_own.result (λ taken ok. (
      ok.0,
      ok.1,
      subst (λ (ps : List PassedRecord). DeletesAlong g.D.Disk c.args.records.now c.delete_own.new.records c.args.disk.now c.delete_own.new.disk ps c.args.last (place_of c.args.rid) c.args.member c.args.path.now c.args.limit taken.gone (option_to_list taken.left) ok.0) (sym none)
          (end_done g.D.Disk (place_of c.args.rid) c.args.member c.args.path.now c.args.limit c.args.last c.args.records.now c.delete_own.new.records c.args.disk.now c.delete_own.new.disk taken.gone (option_to_list taken.left) ok.0 ok.2),
    )) c.delete_own.ensures.ok

pub returns-in_default-clause-refused : goal.returns-in_default-clause-refused
returns-in_default-clause-refused g t c =
    let none : c.args.passed.now ≡ [] = none_passed c.args.passed.now c.in_default.ensures.cases in
    err_map c.delete_own.result (λ e refused.
    subst (λ (ps : List PassedRecord). NotDeletedAlong g.D.Disk ps c.args.last (place_of c.args.rid) c.args.member c.args.path.now c.args.limit e c.args.records.now c.delete_own.new.records c.args.disk.now c.delete_own.new.disk) (sym none)
    (end_refused g.D.Disk (place_of c.args.rid) c.args.member c.args.path.now c.args.limit c.args.last c.args.records.now c.delete_own.new.records c.args.disk.now c.delete_own.new.disk e refused)) c.delete_own.ensures.refused

pub slice_bounds-delete_in-count : goal.slice_bounds-delete_in-count
slice_bounds-delete_in-count g t c = (subst (λ (ps : List PassedRecord). EndsInside c.args.member c.args.path.now ps c.args.last) c.in-Some.ensures.cases.0 c.requires.ends).2

pub slice_bounds-delete_in-start : goal.slice_bounds-delete_in-start
slice_bounds-delete_in-start g t c = (subst (λ (ps : List PassedRecord). EndsInside c.args.member c.args.path.now ps c.args.last) c.in-Some.ensures.cases.0 c.requires.ends).2

pub delete_in-requires : goal.delete_in-requires
delete_in-requires g t c κs within =
    let fewer : length c.in-Some.more.now + 1 ≡ length c.args.passed.now = c.in-Some.ensures.cases.1 in
    let ends = (subst (λ (ps : List PassedRecord). EndsInside c.args.member c.args.path.now ps c.args.last) c.in-Some.ensures.cases.0 c.requires.ends) in (
      omega (arith, fewer),
      (within, (c.requires.runs, subst (λ (rest : List ℕ). EndsInside c.in-Some.first.now.member rest c.in-Some.more.now c.args.last) (sym (part_left c.args.path.now c.in-Some.first.now.used)) ends.3)),
    )

pub returns-in_err-taken-clause-refused : goal.returns-in_err-taken-clause-refused
returns-in_err-taken-clause-refused g t c =
    err_passed c.from_residual.result (λ (e : StoreError). NotDeletedAlong g.D.Disk c.args.passed.now c.args.last (place_of c.args.rid) c.args.member c.args.path.now c.args.limit e c.args.records.now c.delete_in.new.records c.args.disk.now c.delete_in.new.disk)
    c.in_err-taken.field-0.0 (err_from_is_err_and c.from_residual.result c.from_residual.ensures.1)
    (subst (λ (ps : List PassedRecord). NotDeletedAlong g.D.Disk ps c.args.last (place_of c.args.rid) c.args.member c.args.path.now c.args.limit c.in_err-taken.field-0.0 c.args.records.now c.delete_in.new.records c.args.disk.now c.delete_in.new.disk) (sym c.in-Some.ensures.cases.0)
    (below_refused g.D.Disk (place_of c.args.rid) c.args.member c.args.path.now c.args.limit c.in-Some.first.now c.in-Some.more.now c.args.last c.args.records.now c.delete_in.new.records c.args.disk.now c.delete_in.new.disk c.in_err-taken.field-0.0
    (subst (λ (rest : List ℕ). NotDeletedAlong g.D.Disk c.in-Some.more.now c.args.last (place_named c.in-Some.first.now.proxy) c.in-Some.first.now.member rest c.args.limit c.in_err-taken.field-0.0 c.args.records.now c.delete_in.new.records c.args.disk.now c.delete_in.new.disk)
    (part_left c.args.path.now c.in-Some.first.now.used) c.in_err-taken.ensures.refused)))

pub pass_left-requires-clause-runs : goal.pass_left-requires-clause-runs
pass_left-requires-clause-runs g t c = (c.in_ok-taken.ensures.keeps.0).after

pub pass_left-requires-clause-rooted : goal.pass_left-requires-clause-rooted
pass_left-requires-clause-rooted g t c = let ends = (subst (λ (ps : List PassedRecord). EndsInside c.args.member c.args.path.now ps c.args.last) c.in-Some.ensures.cases.0 c.requires.ends) in (ends.0, ends.1)

pub pass_left-requires-clause-ranged : goal.pass_left-requires-clause-ranged
pass_left-requires-clause-ranged g t c = c.in_ok-taken.ensures.ranged

pub returns-in_err-left-clause-refused : goal.returns-in_err-left-clause-refused
returns-in_err-left-clause-refused g t c =
    err_passed c.from_residual-in_err-left.result (λ (e : StoreError). NotDeletedAlong g.D.Disk c.args.passed.now c.args.last (place_of c.args.rid) c.args.member c.args.path.now c.args.limit e c.args.records.now c.pass_left.new.records c.args.disk.now c.pass_left.new.disk)
    c.in_err-left.field-0.0 (err_from_is_err_and c.from_residual-in_err-left.result c.from_residual-in_err-left.ensures.1)
    (subst (λ (ps : List PassedRecord). NotDeletedAlong g.D.Disk ps c.args.last (place_of c.args.rid) c.args.member c.args.path.now c.args.limit c.in_err-left.field-0.0 c.args.records.now c.pass_left.new.records c.args.disk.now c.pass_left.new.disk) (sym c.in-Some.ensures.cases.0)
    (left_refused g.D.Disk (place_of c.args.rid) c.args.member c.args.path.now c.args.limit c.in-Some.first.now c.in-Some.more.now c.args.last c.args.records.now c.delete_in.new.records c.args.disk.now c.delete_in.new.disk c.delete_in.ensures.still c.in_ok-taken.ensures.keeps.0 c.in_ok-taken.ensures.keeps.1 c.in_ok-taken.taken.gone c.in_ok-taken.taken.left c.in_ok-taken.ensures.ok.0
    (subst (λ (rest : List ℕ). DeletesAlong g.D.Disk c.args.records.now c.delete_in.new.records c.args.disk.now c.delete_in.new.disk c.in-Some.more.now c.args.last (place_named c.in-Some.first.now.proxy) c.in-Some.first.now.member rest c.args.limit c.in_ok-taken.taken.gone (option_to_list c.in_ok-taken.taken.left) c.in_ok-taken.ensures.ok.0)
    (part_left c.args.path.now c.in-Some.first.now.used) c.in_ok-taken.ensures.ok.2)
    c.pass_left.new.records c.pass_left.new.disk c.in_err-left.field-0.0 c.in_err-left.ensures.refused))

pub returns-clause-ranged : goal.returns-clause-ranged
returns-clause-ranged g t c = c.in_ok-left.ensures.ranged

pub returns-clause-ok : goal.returns-clause-ok
returns-clause-ok g t c = (
  c.in_ok-taken.ensures.ok.0,
  c.in_ok-taken.ensures.ok.1,
  subst (λ (ps : List PassedRecord). DeletesAlong g.D.Disk c.args.records.now c.pass_left.new.records c.args.disk.now c.pass_left.new.disk ps c.args.last (place_of c.args.rid) c.args.member c.args.path.now c.args.limit c.in_ok-taken.taken.gone (option_to_list (Some c.in_ok-left.left)) c.in_ok-taken.ensures.ok.0) (sym c.in-Some.ensures.cases.0)
      (away_done g.D.Disk (place_of c.args.rid) c.args.member c.args.path.now c.args.limit c.in-Some.first.now c.in-Some.more.now c.args.last c.args.records.now c.delete_in.new.records c.args.disk.now c.delete_in.new.disk c.delete_in.ensures.still c.in_ok-taken.ensures.keeps.0 c.in_ok-taken.ensures.keeps.1 c.in_ok-taken.taken.gone c.in_ok-taken.taken.left c.in_ok-taken.ensures.ok.0
      (subst (λ (rest : List ℕ). DeletesAlong g.D.Disk c.args.records.now c.delete_in.new.records c.args.disk.now c.delete_in.new.disk c.in-Some.more.now c.args.last (place_named c.in-Some.first.now.proxy) c.in-Some.first.now.member rest c.args.limit c.in_ok-taken.taken.gone (option_to_list c.in_ok-taken.taken.left) c.in_ok-taken.ensures.ok.0)
      (part_left c.args.path.now c.in-Some.first.now.used) c.in_ok-taken.ensures.ok.2)
      c.pass_left.new.records c.pass_left.new.disk c.in_ok-left.left c.in_ok-left.ensures.ok),
)

pub returns-clause-keeps : goal.returns-clause-keeps
returns-clause-keeps g t c =
    let on = left_keeps g.D.Disk (place_of c.args.rid) c.args.member c.args.path.now c.args.limit c.in-Some.first.now c.in-Some.more.now c.args.last c.args.records.now c.delete_in.new.records c.args.disk.now c.delete_in.new.disk c.delete_in.ensures.still c.in_ok-taken.ensures.keeps.0 c.in_ok-taken.ensures.keeps.1 c.in_ok-taken.taken.gone c.in_ok-taken.taken.left c.in_ok-taken.ensures.ok.0
    (subst (λ (rest : List ℕ). DeletesAlong g.D.Disk c.args.records.now c.delete_in.new.records c.args.disk.now c.delete_in.new.disk c.in-Some.more.now c.args.last (place_named c.in-Some.first.now.proxy) c.in-Some.first.now.member rest c.args.limit c.in_ok-taken.taken.gone (option_to_list c.in_ok-taken.taken.left) c.in_ok-taken.ensures.ok.0)
    (part_left c.args.path.now c.in-Some.first.now.used) c.in_ok-taken.ensures.ok.2)
    c.pass_left.new.records c.pass_left.new.disk c.in_ok-left.ensures.keeps.0 c.in_ok-left.ensures.keeps.1 in
    (on.0, on.1, c.in_ok-left.ensures.keeps.2 c.in_ok-taken.ensures.keeps.2)

pub returns-in_err-left-clause-still : goal.returns-in_err-left-clause-still
returns-in_err-left-clause-still g t c = still_then c.delete_in.ensures.still c.pass_left.ensures.still

pub returns-clause-still : goal.returns-clause-still
returns-clause-still g t c = still_then c.delete_in.ensures.still c.pass_left.ensures.still
