use Rattle.std.proofs.Common.{◌≡◌, ◌<◌, ap, ◌∙◌, arith}
use Rattle.nx_piece.specs.declared.piece.Piece.{Piece}
use Rattle.nx_holdings.specs.declared.header.Settings.{Settings}
use Rattle.nx_holdings.specs.declared.header.Header.{Header}
use Rattle.nx_records.specs.Records.{LeavesRecords, settings_of}
use Rattle.nx_piece.specs.Gapped.{gapped_width, gapped_size}
use Rattle.nx_hold.specs.Changes.{place_of}
use Rattle.nx_nav.specs.Parts.{HasNoInterval}
use Rattle.nx_nav.proofs.RefusalLemmas.{is_damaged}
use Rattle.nx_nav.proofs.PartLemmas.{interval_piece, no_interval, no_light_interval, read_stops, read_refused}
use Rattle.nx_nav.proofs.reading.piece_at.Goals as goal

pub passed_on-requires : goal.passed_on-requires
passed_on-requires g c = read_stops g.D.Disk (place_of c.args.rid) c.args.roots c.args.rid.page c.args.records.now c.view_piece.new.records c.args.disk.now c.view_piece.new.disk c.in-Err.error c.in-Err.ensures.refused

pub returns-in-Err-clause-refused : goal.returns-in-Err-clause-refused
returns-in-Err-clause-refused g c =
    read_refused g.D.Disk (place_of c.args.rid) c.args.roots c.args.rid.page c.args.records.now c.view_piece.new.records c.args.disk.now c.view_piece.new.disk c.in-Err.error c.passed_on.result c.passed_on.ensures c.in-Err.ensures.refused

pub returns-then-root_count-roots-clause-refused : goal.returns-then-root_count-roots-clause-refused
returns-then-root_count-roots-clause-refused g c =
    is_damaged g.D.Disk ⊥ ⊥ (HasNoInterval g.D.Disk c.args.records.now c.args.disk.now (place_of c.args.rid) c.args.roots) {r0 = c.args.records.now} {r1 = c.view_piece.new.records} {r2 = c.damaged.new.records} c.args.disk.now c.view_piece.new.disk
    c.damaged.result c.damaged.ensures.result c.in-Ok.ensures.ok.0 c.in-Ok.ensures.ok.1 c.damaged.ensures.ends
    (no_interval c.args.roots c.in-Ok.piece c.in-Ok.ensures.ok.2 (λ same. c.if-root_count-roots.true (c.root_count.ensures ∙ ap (λ (p : Piece). gapped_width p.body.roots) c.piece.view_is ∙ same)))

pub returns-clause-ok : goal.returns-clause-ok
returns-clause-ok g c = λ members h as_many. interval_piece h c.in-Ok.piece c.in-Ok.ensures.ok.2

pub returns-then-size-settings-clause-refused : goal.returns-then-size-settings-clause-refused
returns-then-size-settings-clause-refused g c =
    let same : LeavesRecords c.args.records.now c.view_piece.new.records = c.in-Ok.ensures.ok.1 in
    let most : c.settings.result.k ≡ (settings_of c.args.records.now).k = ap (λ (t : Settings). t.k) (c.settings.ensures ∙ ap (λ (h : Header). h.settings) same.head_stays) in
    let takes : c.size.result ≡ gapped_size c.in-Ok.piece.body.roots = c.size.ensures ∙ ap (λ (p : Piece). gapped_size p.body.roots) c.piece.view_is in
    let heavy : (settings_of c.args.records.now).k < gapped_size c.in-Ok.piece.body.roots = let more = c.if-size-settings.true in omega arith in
    is_damaged g.D.Disk ⊥ ⊥ (HasNoInterval g.D.Disk c.args.records.now c.args.disk.now (place_of c.args.rid) c.args.roots) {r0 = c.args.records.now} {r1 = c.view_piece.new.records} {r2 = c.damaged-then-size-settings.new.records}
    c.args.disk.now c.view_piece.new.disk c.damaged-then-size-settings.result c.damaged-then-size-settings.ensures.result c.in-Ok.ensures.ok.0 same c.damaged-then-size-settings.ensures.ends
    (no_light_interval c.args.roots c.in-Ok.piece c.in-Ok.ensures.ok.2 heavy)
