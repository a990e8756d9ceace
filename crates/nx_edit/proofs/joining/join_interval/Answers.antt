use Rattle.std.proofs.Common.{◌≡◌, ◌≤◌, Some, refl, sym, ap, ◌∙◌, subst, arith}
use Rattle.std.proofs.lemmas.Result.{err_from_is_err_and, on_ok_weaker}
use Rattle.std.specs.Option.{option_copied}
use Rattle.nx_host.proofs.DiskLemmas.{still_then}
use Rattle.nx_tree.specs.declared.node.Node.{Node}
use Rattle.nx_piece.specs.declared.piece.Piece.{Piece}
use Rattle.nx_piece.specs.Gapped.{GappedTree, gapped_weight, gapped_width}
use Rattle.nx_piece.specs.PieceNode.{PieceNode, node_weight}
use Rattle.nx_piece.proofs.Laws.{are_short, little_weight}
use Rattle.nx_piece_edits.specs.Planting.{IsWithRoot}
use Rattle.nx_records.specs.Words.{Settings}
use Rattle.nx_records.specs.declared.error.StoreError.{StoreError}
use Rattle.nx_records.specs.Records.{settings_of}
use Rattle.nx_records.specs.declared.error.StoreError.TheVariants as store
use Rattle.nx_records.proofs.LeaveLemmas.{leaves_runs, leaves_saved}
use Rattle.nx_records.proofs.RefusalLemmas.{err_passed}
use Rattle.nx_layouts.specs.Layout.{LaidNode, in_record}
use Rattle.nx_hold.specs.Changes.{place_named, place_of, ComesTidyWhere}
use Rattle.nx_hold.specs.Pieces.{MayName}
use Rattle.nx_hold.proofs.RefusalLemmas.{runs_then, saved_then}
use Rattle.nx_matrix.specs.declared.rule.Entry.TheVariants.{Free}
use Rattle.nx_edit.specs.Changing as put
use Rattle.nx_edit.specs.Changing.{IsWrittenNode, NotChangedKnown}
use Rattle.nx_edit.specs.Growing.{PutsGrown}
use Rattle.nx_edit.specs.Planting.{IsAskedThere}
use Rattle.nx_edit.specs.RowPut.{IsPutAlone, MayHaveRow, piece_with_row}
use Rattle.nx_edit.proofs.PassCalls.{more_passed, keeps_passed, short_passed, unread_passed, unstored_passed}
use Rattle.nx_edit.proofs.RowCalls.{ok_map, ok_both, err_map}
use Rattle.nx_edit.proofs.SizeLemmas.{light_node}
use Rattle.nx_edit.proofs.JoinCalls.{room_left, inner_unread, inner_short, inner_memory, inner_refused, upper_refused, joined_changed}
use Rattle.nx_edit.proofs.joining.join_interval.Goals as goal

pub returns-in_err-inner-clause-refused : goal.returns-in_err-inner-clause-refused
returns-in_err-inner-clause-refused g c =
    err_passed c.from_residual.result (λ (e : StoreError). (node : LaidNode) → c.args.leaf.node ≡ in_record node → NotChangedKnown g.D.Disk c.args.matrix.now (Some c.args.piece) (put.Child c.args.position node) (place_of c.args.rid) c.args.member c.args.path.now e c.args.records.now c.read_piece.new.records c.args.disk.now c.read_piece.new.disk)
    c.in_err-inner.field-0.0 (err_from_is_err_and c.from_residual.result c.from_residual.ensures.1)
    (λ node is. inner_unread g.D.Disk c.args.matrix.now node c.args.piece (place_of c.args.rid) c.args.member c.args.path.now c.args.position c.args.proxy c.args.index c.args.before c.requires.within c.args.records.now c.read_piece.new.records c.args.disk.now c.read_piece.new.disk c.requires.runs c.read_piece.ensures.still c.args.proxy.page c.in_err-inner.field-0.0 c.in_err-inner.ensures.refused)

pub returns-then-len-from-clause-refused : goal.returns-then-len-from-clause-refused
returns-then-len-from-clause-refused g c =
    subst (λ (e : StoreError). (node : LaidNode) → c.args.leaf.node ≡ in_record node → NotChangedKnown g.D.Disk c.args.matrix.now (Some c.args.piece) (put.Child c.args.position node) (place_of c.args.rid) c.args.member c.args.path.now e c.args.records.now c.damaged.new.records c.args.disk.now c.read_piece.new.disk) (sym c.damaged.ensures.result)
    (λ node is. inner_short g.D.Disk c.args.matrix.now node c.args.piece (place_of c.args.rid) c.args.member c.args.path.now c.args.position c.args.proxy c.args.index c.args.before c.requires.within c.args.records.now c.read_piece.new.records c.args.disk.now c.read_piece.new.disk c.requires.runs c.read_piece.ensures.still
    c.in_ok-inner.ensures.ok.1 c.in_ok-inner.inner c.in_ok-inner.ensures.ok.2 c.args.proxy.page c.damaged.new.records
    (let long = c.len.ensures in let from = c.from.ensures in let short = c.if-len-from.true in omega (arith, long, from, short)) (c.damaged.ensures.ends ((c.in_ok-inner.ensures.ok.1).ended_stays ∙ c.requires.runs)))

pub returns-in_default-clause-refused : goal.returns-in_default-clause-refused
returns-in_default-clause-refused g c = λ node is. inner_memory g.D.Disk c.args.matrix.now node c.args.piece (place_of c.args.rid) c.args.member c.args.path.now c.args.position c.args.proxy c.args.index c.args.before c.requires.within c.args.records.now c.read_piece.new.records c.args.disk.now c.read_piece.new.disk c.requires.runs c.read_piece.ensures.still
    c.in_ok-inner.ensures.ok.1 c.in_ok-inner.inner c.in_ok-inner.ensures.ok.2

pub put_grown-requires-clause-piece : goal.put_grown-requires-clause-piece
put_grown-requires-clause-piece g c =
    let node : PieceNode = record { node = c.leaf.inside.node; far = c.leaf.inside.far } in
    let same : c.args.leaf.node ≡ node = sym (ap (λ (t : GappedTree). t.node) c.leaf.view_is) in
    let written : IsWrittenNode node = subst IsWrittenNode same c.requires.written in
    let light : node_weight node ≤ (settings_of c.args.records.now).k = subst (λ (n : PieceNode). node_weight n ≤ (settings_of c.args.records.now).k) same c.requires.light in
    (c.in-Ok.ensures).large c.in_ok-inner.ensures.valid.0 written.1 (light_node (settings_of c.args.records.now).k node written light c.args.records.now.head_range.settings.k.1)

pub weight-requires-clause-short : goal.weight-requires-clause-short
weight-requires-clause-short g c = let small = ((c.requires.valid).body).small in are_short c.args.piece.body.roots (omega (arith, small)) ((c.requires.valid).body).far

pub weight-requires-clause-few : goal.weight-requires-clause-few
weight-requires-clause-few g c = let small = ((c.requires.valid).body).small in little_weight c.args.piece.body.roots (omega (arith, small)) ((c.requires.valid).body).far

pub put_grown-requires-clause-room : goal.put_grown-requires-clause-room
put_grown-requires-clause-room g c = let room = c.saturating_sub-left.ensures in let k = ap (λ (s : Settings). s.k) c.settings.ensures in let most = c.read_piece.new.records.head_range.settings.k.1 in omega (arith, room, k, most)

pub returns-in_err-row-clause-refused : goal.returns-in_err-row-clause-refused
returns-in_err-row-clause-refused g c =
    err_passed c.from_residual-in_err-row.result (λ (e : StoreError). (node : LaidNode) → c.args.leaf.node ≡ in_record node → NotChangedKnown g.D.Disk c.args.matrix.now (Some c.args.piece) (put.Child c.args.position node) (place_of c.args.rid) c.args.member c.args.path.now e c.args.records.now c.put_grown.new.records c.args.disk.now c.put_grown.new.disk)
    c.in_err-row.field-0.0 (err_from_is_err_and c.from_residual-in_err-row.result c.from_residual-in_err-row.ensures.1)
    (λ node is. inner_refused g.D.Disk c.args.matrix.now node c.args.piece (place_of c.args.rid) c.args.member c.args.path.now c.args.position c.args.proxy c.args.index c.args.before c.requires.within c.args.records.now c.read_piece.new.records c.args.disk.now c.read_piece.new.disk c.requires.runs c.read_piece.ensures.still
    c.in_ok-inner.ensures.ok.1 c.in_ok-inner.inner c.in_ok-inner.ensures.ok.2 c.in_ok-inner.ensures.holds c.in-Ok.inner
    (subst (λ (x : PieceNode). IsWithRoot c.in_ok-inner.inner c.args.before x c.in-Ok.inner) (ap (λ (t : GappedTree). t.node) c.leaf.view_is ∙ is) c.in-Ok.ensures) c.tree_at.result.now c.tree_at.ensures
    (subst (λ (x : PieceNode). IsAskedThere c.args.matrix.now c.args.piece c.args.member c.args.path.now x.node Free) is c.requires.asked) (subst IsWrittenNode is c.requires.written)
    (subst (λ (x : PieceNode). node_weight x ≤ (settings_of c.args.records.now).k) is c.requires.light) c.put_grown.new.records c.put_grown.new.disk c.in_err-row.field-0.0 c.in_err-row.ensures.refused)

pub returns-in_err-upper-clause-refused : goal.returns-in_err-upper-clause-refused
returns-in_err-upper-clause-refused g c =
    err_passed c.from_residual-in_err-upper.result (λ (e : StoreError). (node : LaidNode) → c.args.leaf.node ≡ in_record node → NotChangedKnown g.D.Disk c.args.matrix.now (Some c.args.piece) (put.Child c.args.position node) (place_of c.args.rid) c.args.member c.args.path.now e c.args.records.now c.read_piece-2.new.records c.args.disk.now c.read_piece-2.new.disk)
    c.in_err-upper.field-0.0 (err_from_is_err_and c.from_residual-in_err-upper.result c.from_residual-in_err-upper.ensures.1)
    (λ node is. upper_refused g.D.Disk c.args.matrix.now node c.args.piece (place_of c.args.rid) c.args.member c.args.path.now c.args.position c.args.proxy c.args.index c.args.before c.requires.within c.args.records.now c.read_piece.new.records c.args.disk.now c.read_piece.new.disk c.requires.runs c.read_piece.ensures.still
    c.in_ok-inner.ensures.ok.1 c.in_ok-inner.inner c.in_ok-inner.ensures.ok.2 c.in_ok-inner.ensures.holds c.in-Ok.inner
    (subst (λ (x : PieceNode). IsWithRoot c.in_ok-inner.inner c.args.before x c.in-Ok.inner) (ap (λ (t : GappedTree). t.node) c.leaf.view_is ∙ is) c.in-Ok.ensures) c.tree_at.result.now c.tree_at.ensures
    (subst (λ (x : PieceNode). IsAskedThere c.args.matrix.now c.args.piece c.args.member c.args.path.now x.node Free) is c.requires.asked) (subst IsWrittenNode is c.requires.written)
    (subst (λ (x : PieceNode). node_weight x ≤ (settings_of c.args.records.now).k) is c.requires.light) c.put_grown.new.records c.put_grown.new.disk
    c.saturating_sub-left.result (room_left c.saturating_sub-left.ensures c.settings.ensures c.weight.ensures) c.put_grown.ensures.still c.in_ok-row.ensures.keeps.0 c.in_ok-row.ensures.keeps.1 c.in_ok-row.row (c.in_ok-row.ensures.row).near
    (subst
    (λ (n : Node). ComesTidyWhere g.D.Disk c.read_piece.new.records c.put_grown.new.records c.read_piece.new.disk c.put_grown.new.disk (λ was. MayName was c.in-Ok.inner.body.roots) (PutsGrown c.args.matrix.now c.saturating_sub-left.result (Some n) c.in-Ok.inner (place_named c.args.proxy) c.in_ok-row.row))
    (ap (λ (t : GappedTree). t.node.node) c.behind-piece.view_is) c.in_ok-row.ensures.ok) c.read_piece-2.new.records c.read_piece-2.new.disk (settings_of c.put_grown.new.records).k refl c.in_err-upper.field-0.0
    (unread_passed g.D.Disk (place_of c.args.rid) (record { roots = gapped_width c.args.piece.body.roots; weight = gapped_weight c.args.piece.body.roots; index = c.args.index; proxy = c.args.proxy; member = 0; used = 0; above = (c.tree_at.result.now).node.node }) (piece_with_row c.args.index c.in_ok-row.row)
    (λ (above : Piece). MayHaveRow (settings_of c.put_grown.new.records).k above c.in_ok-row.row) c.put_grown.new.records c.read_piece-2.new.records c.put_grown.new.disk c.read_piece-2.new.disk (c.in_ok-row.ensures.keeps.0).after c.read_piece-2.ensures.still c.args.rid.page c.in_err-upper.field-0.0 c.in_err-upper.ensures.refused))

pub returns-then-len-index-clause-still : goal.returns-then-len-index-clause-still
returns-then-len-index-clause-still g c = still_then (still_then c.read_piece.ensures.still c.put_grown.ensures.still) c.read_piece-2.ensures.still

pub returns-then-len-index-clause-refused : goal.returns-then-len-index-clause-refused
returns-then-len-index-clause-refused g c =
    subst (λ (e : StoreError). (node : LaidNode) → c.args.leaf.node ≡ in_record node → NotChangedKnown g.D.Disk c.args.matrix.now (Some c.args.piece) (put.Child c.args.position node) (place_of c.args.rid) c.args.member c.args.path.now e c.args.records.now c.damaged-then-len-index.new.records c.args.disk.now c.read_piece-2.new.disk) (sym c.damaged-then-len-index.ensures.result)
    (λ node is. upper_refused g.D.Disk c.args.matrix.now node c.args.piece (place_of c.args.rid) c.args.member c.args.path.now c.args.position c.args.proxy c.args.index c.args.before c.requires.within c.args.records.now c.read_piece.new.records c.args.disk.now c.read_piece.new.disk c.requires.runs c.read_piece.ensures.still
    c.in_ok-inner.ensures.ok.1 c.in_ok-inner.inner c.in_ok-inner.ensures.ok.2 c.in_ok-inner.ensures.holds c.in-Ok.inner
    (subst (λ (x : PieceNode). IsWithRoot c.in_ok-inner.inner c.args.before x c.in-Ok.inner) (ap (λ (t : GappedTree). t.node) c.leaf.view_is ∙ is) c.in-Ok.ensures) c.tree_at.result.now c.tree_at.ensures
    (subst (λ (x : PieceNode). IsAskedThere c.args.matrix.now c.args.piece c.args.member c.args.path.now x.node Free) is c.requires.asked) (subst IsWrittenNode is c.requires.written)
    (subst (λ (x : PieceNode). node_weight x ≤ (settings_of c.args.records.now).k) is c.requires.light) c.put_grown.new.records c.put_grown.new.disk
    c.saturating_sub-left.result (room_left c.saturating_sub-left.ensures c.settings.ensures c.weight.ensures) c.put_grown.ensures.still c.in_ok-row.ensures.keeps.0 c.in_ok-row.ensures.keeps.1 c.in_ok-row.row (c.in_ok-row.ensures.row).near
    (subst
    (λ (n : Node). ComesTidyWhere g.D.Disk c.read_piece.new.records c.put_grown.new.records c.read_piece.new.disk c.put_grown.new.disk (λ was. MayName was c.in-Ok.inner.body.roots) (PutsGrown c.args.matrix.now c.saturating_sub-left.result (Some n) c.in-Ok.inner (place_named c.args.proxy) c.in_ok-row.row))
    (ap (λ (t : GappedTree). t.node.node) c.behind-piece.view_is) c.in_ok-row.ensures.ok) c.damaged-then-len-index.new.records c.read_piece-2.new.disk (settings_of c.put_grown.new.records).k refl (store.Damaged c.args.rid.page)
    (short_passed g.D.Disk (place_of c.args.rid) (record { roots = gapped_width c.args.piece.body.roots; weight = gapped_weight c.args.piece.body.roots; index = c.args.index; proxy = c.args.proxy; member = 0; used = 0; above = (c.tree_at.result.now).node.node }) (piece_with_row c.args.index c.in_ok-row.row)
    (λ (above : Piece). MayHaveRow (settings_of c.put_grown.new.records).k above c.in_ok-row.row) c.put_grown.new.records c.read_piece-2.new.records c.put_grown.new.disk c.read_piece-2.new.disk (c.in_ok-row.ensures.keeps.0).after c.read_piece-2.ensures.still c.in_ok-upper.upper c.in_ok-upper.ensures.ok.1 c.in_ok-upper.ensures.ok.2 c.damaged-then-len-index.new.records
    (let short = c.if-len-index.true in let len = c.len-2.ensures in omega (arith, short, len)) (c.damaged-then-len-index.ensures.ends ((c.in_ok-upper.ensures.ok.1).ended_stays ∙ (c.in_ok-row.ensures.keeps.0).after))))

pub returns-clause-row : goal.returns-clause-row
returns-clause-row g c = ok_map c.put_row.result (λ put alone. alone.1) c.put_row.ensures.alone

pub returns-clause-ok : goal.returns-clause-ok
returns-clause-ok g c =
    ok_map c.put_row.result (λ put comes. λ node is.
    joined_changed g.D.Disk c.args.matrix.now node c.args.piece (place_of c.args.rid) c.args.member c.args.path.now c.args.position c.args.proxy c.args.index c.args.before c.requires.within c.args.records.now c.read_piece.new.records c.args.disk.now c.read_piece.new.disk c.requires.runs c.read_piece.ensures.still
    c.in_ok-inner.ensures.ok.1 c.in_ok-inner.inner c.in_ok-inner.ensures.ok.2 c.in_ok-inner.ensures.holds c.in-Ok.inner
    (subst (λ (x : PieceNode). IsWithRoot c.in_ok-inner.inner c.args.before x c.in-Ok.inner) (ap (λ (t : GappedTree). t.node) c.leaf.view_is ∙ is) c.in-Ok.ensures) c.tree_at.result.now c.tree_at.ensures
    (subst (λ (x : PieceNode). IsAskedThere c.args.matrix.now c.args.piece c.args.member c.args.path.now x.node Free) is c.requires.asked) (subst IsWrittenNode is c.requires.written)
    (subst (λ (x : PieceNode). node_weight x ≤ (settings_of c.args.records.now).k) is c.requires.light) c.put_grown.new.records c.put_grown.new.disk
    c.saturating_sub-left.result (room_left c.saturating_sub-left.ensures c.settings.ensures c.weight.ensures) c.put_grown.ensures.still c.in_ok-row.ensures.keeps.0 c.in_ok-row.ensures.keeps.1 c.in_ok-row.row (c.in_ok-row.ensures.row).near
    (subst
    (λ (n : Node). ComesTidyWhere g.D.Disk c.read_piece.new.records c.put_grown.new.records c.read_piece.new.disk c.put_grown.new.disk (λ was. MayName was c.in-Ok.inner.body.roots) (PutsGrown c.args.matrix.now c.saturating_sub-left.result (Some n) c.in-Ok.inner (place_named c.args.proxy) c.in_ok-row.row))
    (ap (λ (t : GappedTree). t.node.node) c.behind-piece.view_is) c.in_ok-row.ensures.ok) c.put_row.new.records c.put_row.new.disk c.args.room (option_copied c.args.above) put comes.0.0
    (more_passed g.D.Disk (place_of c.args.rid) (record { roots = gapped_width c.args.piece.body.roots; weight = gapped_weight c.args.piece.body.roots; index = c.args.index; proxy = c.args.proxy; member = 0; used = 0; above = (c.tree_at.result.now).node.node }) (λ (above : Piece). above)
    (λ (above : Piece). MayHaveRow (settings_of c.put_grown.new.records).k above c.in_ok-row.row) c.put_grown.new.records c.read_piece-2.new.records c.put_grown.new.disk c.read_piece-2.new.disk (c.in_ok-row.ensures.keeps.0).after c.read_piece-2.ensures.still c.in_ok-upper.upper c.in_ok-upper.ensures.ok.1 c.in_ok-upper.ensures.ok.2 c.put_row.new.records c.put_row.new.disk
    (λ was. MayName was c.in_ok-row.row.items) (λ (above : Piece). IsPutAlone (place_of c.args.rid) (piece_with_row c.args.index c.in_ok-row.row above) put) c.in_ok-upper.ensures.holds comes.1.1)) (ok_both _ _ c.put_row.result c.put_row.ensures.alone c.put_row.ensures.ok)

pub returns-clause-keeps : goal.returns-clause-keeps
returns-clause-keeps g c =
    on_ok_weaker c.put_row.result (λ keeps.
    let first = leaves_runs c.requires.runs c.in_ok-inner.ensures.ok.1 in
    let first_saved = leaves_saved {d = g.D.Disk} c.in_ok-inner.ensures.ok.1 c.read_piece.ensures.still in
    let below = runs_then {r0 = c.args.records.now} {r1 = c.read_piece.new.records} {r2 = c.put_grown.new.records} first c.in_ok-row.ensures.keeps.0 in
    let below_saved = saved_then {d = g.D.Disk} {r0 = c.args.records.now} {r1 = c.read_piece.new.records} {r2 = c.put_grown.new.records} {x0 = c.args.disk.now} {x1 = c.read_piece.new.disk} {x2 = c.put_grown.new.disk} first_saved c.in_ok-row.ensures.keeps.1 in
    let upper = keeps_passed g.D.Disk (place_of c.args.rid) (record { roots = gapped_width c.args.piece.body.roots; weight = gapped_weight c.args.piece.body.roots; index = c.args.index; proxy = c.args.proxy; member = 0; used = 0; above = (c.tree_at.result.now).node.node }) (piece_with_row c.args.index c.in_ok-row.row)
    (λ (above : Piece). MayHaveRow (settings_of c.put_grown.new.records).k above c.in_ok-row.row) c.put_grown.new.records c.read_piece-2.new.records c.put_grown.new.disk c.read_piece-2.new.disk (c.in_ok-row.ensures.keeps.0).after c.read_piece-2.ensures.still c.in_ok-upper.upper c.in_ok-upper.ensures.ok.1 c.in_ok-upper.ensures.ok.2 c.put_row.new.records c.put_row.new.disk keeps.0 keeps.1 in (
      runs_then {r0 = c.args.records.now} {r1 = c.put_grown.new.records} {r2 = c.put_row.new.records} below upper.0,
      saved_then {d = g.D.Disk} {r0 = c.args.records.now} {r1 = c.put_grown.new.records} {r2 = c.put_row.new.records} {x0 = c.args.disk.now} {x1 = c.put_grown.new.disk} {x2 = c.put_row.new.disk} below_saved upper.1,
      keeps.2,
    )) c.put_row.ensures.keeps

pub returns-clause-refused : goal.returns-clause-refused
returns-clause-refused g c =
    err_map c.put_row.result (λ e refused. λ node is.
    upper_refused g.D.Disk c.args.matrix.now node c.args.piece (place_of c.args.rid) c.args.member c.args.path.now c.args.position c.args.proxy c.args.index c.args.before c.requires.within c.args.records.now c.read_piece.new.records c.args.disk.now c.read_piece.new.disk c.requires.runs c.read_piece.ensures.still
    c.in_ok-inner.ensures.ok.1 c.in_ok-inner.inner c.in_ok-inner.ensures.ok.2 c.in_ok-inner.ensures.holds c.in-Ok.inner
    (subst (λ (x : PieceNode). IsWithRoot c.in_ok-inner.inner c.args.before x c.in-Ok.inner) (ap (λ (t : GappedTree). t.node) c.leaf.view_is ∙ is) c.in-Ok.ensures) c.tree_at.result.now c.tree_at.ensures
    (subst (λ (x : PieceNode). IsAskedThere c.args.matrix.now c.args.piece c.args.member c.args.path.now x.node Free) is c.requires.asked) (subst IsWrittenNode is c.requires.written)
    (subst (λ (x : PieceNode). node_weight x ≤ (settings_of c.args.records.now).k) is c.requires.light) c.put_grown.new.records c.put_grown.new.disk
    c.saturating_sub-left.result (room_left c.saturating_sub-left.ensures c.settings.ensures c.weight.ensures) c.put_grown.ensures.still c.in_ok-row.ensures.keeps.0 c.in_ok-row.ensures.keeps.1 c.in_ok-row.row (c.in_ok-row.ensures.row).near
    (subst
    (λ (n : Node). ComesTidyWhere g.D.Disk c.read_piece.new.records c.put_grown.new.records c.read_piece.new.disk c.put_grown.new.disk (λ was. MayName was c.in-Ok.inner.body.roots) (PutsGrown c.args.matrix.now c.saturating_sub-left.result (Some n) c.in-Ok.inner (place_named c.args.proxy) c.in_ok-row.row))
    (ap (λ (t : GappedTree). t.node.node) c.behind-piece.view_is) c.in_ok-row.ensures.ok) c.put_row.new.records c.put_row.new.disk (settings_of c.read_piece-2.new.records).k
    (ap (λ (s : Settings). s.k) (leaves_runs {r0 = c.put_grown.new.records} {r1 = c.read_piece-2.new.records} (c.in_ok-row.ensures.keeps.0).after c.in_ok-upper.ensures.ok.1).settings_stay) e
    (unstored_passed g.D.Disk (place_of c.args.rid) (record { roots = gapped_width c.args.piece.body.roots; weight = gapped_weight c.args.piece.body.roots; index = c.args.index; proxy = c.args.proxy; member = 0; used = 0; above = (c.tree_at.result.now).node.node }) (piece_with_row c.args.index c.in_ok-row.row)
    (λ (above : Piece). MayHaveRow (settings_of c.read_piece-2.new.records).k above c.in_ok-row.row) c.put_grown.new.records c.read_piece-2.new.records c.put_grown.new.disk c.read_piece-2.new.disk (c.in_ok-row.ensures.keeps.0).after c.read_piece-2.ensures.still c.in_ok-upper.upper c.in_ok-upper.ensures.ok.1 c.in_ok-upper.ensures.ok.2 c.put_row.new.records c.put_row.new.disk refused.0 e refused.1)) c.put_row.ensures.refused
