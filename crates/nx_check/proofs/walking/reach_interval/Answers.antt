use Rattle.std.proofs.Common.{◌≡◌, ◌<◌, ◌≤◌, sym, ap, ◌∙◌, subst, arith}
use Rattle.std.proofs.lemmas.Result.{err_from_is_err_and}
use Rattle.nx_host.proofs.DiskLemmas.{none_still}
use Rattle.nx_piece.specs.declared.piece.Piece.{Piece}
use Rattle.nx_piece.specs.Gapped.{gapped_width, gapped_size, gapped_nodes}
use Rattle.nx_piece.specs.Viewing.{seen_items}
use Rattle.nx_cuts.specs.Cut.{Bare, Kept}
use Rattle.nx_rules.specs.Walked.{Waits}
use Rattle.nx_rules.specs.Tour.{all_reached, used_in}
use Rattle.nx_check.specs.declared.error.Stop.{Stop}
use Rattle.nx_check.specs.declared.walking.Tally.{Tally}
use Rattle.nx_check.specs.On.{StopsWalk}
use Rattle.nx_check.specs.Standing.{tour_at, StandsThere, HasSiblings}
use Rattle.nx_check.proofs.ReachLemmas.{stops_as, here_waits}
use Rattle.nx_check.proofs.IntervalLemmas.{record_breaks, piece_breaks, interval_read, roots_break, joins, document_breaks, weight_breaks, interval_reached}
use Rattle.nx_check.proofs.walking.reach_interval.Goals as goal

pub returns-in_err-bytes-clause-refused : goal.returns-in_err-bytes-clause-refused
returns-in_err-bytes-clause-refused g c =
    let p = err_from_is_err_and c.from_residual.result c.from_residual.ensures.1 in
    rw (p.1, p.2)
    (stops_as g.D.Disk c.args.disk.now c.args.disk.now c.read_record.new.disk _ _ c.in_err-bytes.field-0.0 none_still c.in_err-bytes.ensures.refused
    (λ r page was says s. record_breaks g.D.Disk c.args.walk.now c.args.tally.now c.args.disk.now c.args.spot.page c.args.spot.levels c.args.spot.k c.args.proxy c.args.siblings.now was s r page (says was)))

pub returns-in_err-piece-clause-refused : goal.returns-in_err-piece-clause-refused
returns-in_err-piece-clause-refused g c =
    let p = err_from_is_err_and c.from_residual-in_err-piece.result c.from_residual-in_err-piece.ensures.1 in
    rw (p.1, p.2)
    (stops_as g.D.Disk c.args.disk.now c.read_record.new.disk c.read_piece.new.disk _ _ c.in_err-piece.field-0.0 c.read_record.ensures.still c.in_err-piece.ensures.refused
    (λ r page was says s.
    let tour = tour_at s.stage (here_waits s.around c.args.proxy s.row) in
    piece_breaks g.D.Disk c.args.walk.now c.args.tally.now c.args.disk.now c.args.spot.page c.args.spot.levels c.args.spot.k c.args.proxy c.args.siblings.now was s c.read_record.new.walk c.read_record.new.disk c.in_ok-bytes.field-0 c.as_slice.result.now r page c.as_slice.ensures
    (c.in_ok-bytes.ensures.ok was s.base s.stage.tour.free (used_in tour) (all_reached tour.visits) s.walked.come) (says was)))

pub returns-then-root_count-proxy-clause-refused : goal.returns-then-root_count-proxy-clause-refused
returns-then-root_count-proxy-clause-refused g c =
    subst (λ (e : Stop). StopsWalk g.D.Disk c.args.disk.now c.read_piece.new.disk (StandsThere g.D.Disk c.args.walk.now c.args.tally.now c.args.disk.now c.args.spot.page c.args.spot.levels c.args.spot.k (λ beside. Kept (Waits c.args.proxy) Bare beside) (HasSiblings c.args.siblings.now)) e) (sym c.broken.ensures)
    (λ was s.
    let tour = tour_at s.stage (here_waits s.around c.args.proxy s.row) in
    let piece = c.in_ok-piece.piece in
    let read = interval_read g.D.Disk c.args.walk.now c.args.tally.now c.args.disk.now c.args.spot.page c.args.spot.levels c.args.spot.k c.args.proxy c.args.siblings.now was s c.read_record.new.walk c.read_piece.new.walk c.read_record.new.disk c.read_piece.new.disk c.in_ok-bytes.field-0 c.as_slice.result.now piece c.as_slice.ensures
    (c.in_ok-bytes.ensures.ok was s.base s.stage.tour.free (used_in tour) (all_reached tour.visits) s.walked.come) (c.in_ok-piece.ensures.ok was) in
    roots_break g.D.Disk c.args.walk.now c.args.tally.now c.args.disk.now c.args.spot.page c.args.spot.levels c.args.spot.k c.args.proxy c.args.siblings.now was s c.read_piece.new.walk c.read_piece.new.disk piece c.in_ok-piece.ensures.body.trees read
    (λ wide. c.if-root_count-proxy.true (c.root_count.ensures ∙ ap (λ (p : Piece). gapped_width p.body.roots) c.piece.view_is ∙ wide)))

pub returns-then-not-branch-clause-refused : goal.returns-then-not-branch-clause-refused
returns-then-not-branch-clause-refused g c =
    subst (λ (e : Stop). StopsWalk g.D.Disk c.args.disk.now c.read_piece.new.disk (StandsThere g.D.Disk c.args.walk.now c.args.tally.now c.args.disk.now c.args.spot.page c.args.spot.levels c.args.spot.k (λ beside. Kept (Waits c.args.proxy) Bare beside) (HasSiblings c.args.siblings.now)) e) (sym c.broken-then-not-branch.ensures)
    (λ was s.
    let tour = tour_at s.stage (here_waits s.around c.args.proxy s.row) in
    let piece = c.in_ok-piece.piece in
    let read = interval_read g.D.Disk c.args.walk.now c.args.tally.now c.args.disk.now c.args.spot.page c.args.spot.levels c.args.spot.k c.args.proxy c.args.siblings.now was s c.read_record.new.walk c.read_piece.new.walk c.read_record.new.disk c.read_piece.new.disk c.in_ok-bytes.field-0 c.as_slice.result.now piece c.as_slice.ensures
    (c.in_ok-bytes.ensures.ok was s.base s.stage.tour.free (used_in tour) (all_reached tour.visits) s.walked.come) (c.in_ok-piece.ensures.ok was) in
    let trees = c.in_ok-piece.ensures.body.trees in
    let roots : seen_items c.roots.result ≡ piece.body.roots = c.roots.ensures ∙ ap (λ (p : Piece). p.body.roots) c.piece.view_is in
    let wide : gapped_width piece.body.roots ≡ c.args.proxy.roots = sym (c.root_count.ensures ∙ ap (λ (p : Piece). gapped_width p.body.roots) c.piece.view_is) ∙ c.if-root_count-proxy.false in
    let joined = joins g.D.Disk c.args.walk.now c.args.tally.now c.args.disk.now c.args.spot.page c.args.spot.levels c.args.spot.k c.args.proxy c.args.siblings.now was s c.read_piece.new.walk c.read_piece.new.disk piece trees read c.may_join.new.siblings c.may_join.new.element c.in_ok-may_join.field-0 (seen_items c.roots.result) roots c.in_ok-may_join.ensures.ok in
    document_breaks g.D.Disk c.args.walk.now c.args.tally.now c.args.disk.now c.args.spot.page c.args.spot.levels c.args.spot.k c.args.proxy c.args.siblings.now was s c.read_piece.new.walk c.read_piece.new.disk piece trees read c.may_join.new.siblings c.may_join.new.element c.in_ok-may_join.field-0 wide c.if-not-branch.true joined)

pub returns-then-size-spot-clause-refused : goal.returns-then-size-spot-clause-refused
returns-then-size-spot-clause-refused g c =
    subst (λ (e : Stop). StopsWalk g.D.Disk c.args.disk.now c.read_piece.new.disk (StandsThere g.D.Disk c.args.walk.now c.args.tally.now c.args.disk.now c.args.spot.page c.args.spot.levels c.args.spot.k (λ beside. Kept (Waits c.args.proxy) Bare beside) (HasSiblings c.args.siblings.now)) e) (sym c.broken-then-size-spot.ensures)
    (λ was s.
    let tour = tour_at s.stage (here_waits s.around c.args.proxy s.row) in
    let piece = c.in_ok-piece.piece in
    let read = interval_read g.D.Disk c.args.walk.now c.args.tally.now c.args.disk.now c.args.spot.page c.args.spot.levels c.args.spot.k c.args.proxy c.args.siblings.now was s c.read_record.new.walk c.read_piece.new.walk c.read_record.new.disk c.read_piece.new.disk c.in_ok-bytes.field-0 c.as_slice.result.now piece c.as_slice.ensures
    (c.in_ok-bytes.ensures.ok was s.base s.stage.tour.free (used_in tour) (all_reached tour.visits) s.walked.come) (c.in_ok-piece.ensures.ok was) in
    let trees = c.in_ok-piece.ensures.body.trees in
    let roots : seen_items c.roots.result ≡ piece.body.roots = c.roots.ensures ∙ ap (λ (p : Piece). p.body.roots) c.piece.view_is in
    let wide : gapped_width piece.body.roots ≡ c.args.proxy.roots = sym (c.root_count.ensures ∙ ap (λ (p : Piece). gapped_width p.body.roots) c.piece.view_is) ∙ c.if-root_count-proxy.false in
    let takes : c.size.result ≡ gapped_size piece.body.roots = c.size.ensures ∙ ap (λ (p : Piece). gapped_size p.body.roots) c.piece.view_is in
    let heavy : c.args.spot.k < gapped_size piece.body.roots = let more = c.if-size-spot.true in omega (arith, takes, more) in
    let joined = joins g.D.Disk c.args.walk.now c.args.tally.now c.args.disk.now c.args.spot.page c.args.spot.levels c.args.spot.k c.args.proxy c.args.siblings.now was s c.read_piece.new.walk c.read_piece.new.disk piece trees read c.may_join.new.siblings c.may_join.new.element c.in_ok-may_join.field-0 (seen_items c.roots.result) roots c.in_ok-may_join.ensures.ok in
    weight_breaks g.D.Disk c.args.walk.now c.args.tally.now c.args.disk.now c.args.spot.page c.args.spot.levels c.args.spot.k c.args.proxy c.args.siblings.now was s c.read_piece.new.walk c.read_piece.new.disk piece trees read c.may_join.new.siblings c.may_join.new.element c.in_ok-may_join.field-0 wide c.if-not-branch.false joined heavy)

pub returns-clause-ok : goal.returns-clause-ok
returns-clause-ok g c = λ was s.
    let tour = tour_at s.stage (here_waits s.around c.args.proxy s.row) in
    let piece = c.in_ok-piece.piece in
    let read = interval_read g.D.Disk c.args.walk.now c.args.tally.now c.args.disk.now c.args.spot.page c.args.spot.levels c.args.spot.k c.args.proxy c.args.siblings.now was s c.read_record.new.walk c.read_piece.new.walk c.read_record.new.disk c.read_piece.new.disk c.in_ok-bytes.field-0 c.as_slice.result.now piece c.as_slice.ensures
    (c.in_ok-bytes.ensures.ok was s.base s.stage.tour.free (used_in tour) (all_reached tour.visits) s.walked.come) (c.in_ok-piece.ensures.ok was) in
    let trees = c.in_ok-piece.ensures.body.trees in
    let roots : seen_items c.roots.result ≡ piece.body.roots = c.roots.ensures ∙ ap (λ (p : Piece). p.body.roots) c.piece.view_is in
    let wide : gapped_width piece.body.roots ≡ c.args.proxy.roots = sym (c.root_count.ensures ∙ ap (λ (p : Piece). gapped_width p.body.roots) c.piece.view_is) ∙ c.if-root_count-proxy.false in
    let takes : c.size.result ≡ gapped_size piece.body.roots = c.size.ensures ∙ ap (λ (p : Piece). gapped_size p.body.roots) c.piece.view_is in
    let light : gapped_size piece.body.roots ≤ c.args.spot.k = let few = c.if-size-spot.false in omega (arith, takes, few) in
    let nodes : c.nodes.result ≡ gapped_nodes piece.body.roots = c.nodes.ensures ∙ ap (λ (p : Piece). gapped_nodes p.body.roots) c.piece.view_is in
    let now : Tally = record { nodes = c.saturating_add-tally.result; element = c.may_join.new.element } in
    let joined = joins g.D.Disk c.args.walk.now c.args.tally.now c.args.disk.now c.args.spot.page c.args.spot.levels c.args.spot.k c.args.proxy c.args.siblings.now was s c.read_piece.new.walk c.read_piece.new.disk piece trees read c.may_join.new.siblings c.may_join.new.element c.in_ok-may_join.field-0 (seen_items c.roots.result) roots c.in_ok-may_join.ensures.ok in
    interval_reached g.D.Disk c.args.walk.now c.args.tally.now c.args.disk.now c.args.spot.page c.args.spot.levels c.args.spot.k c.args.proxy c.args.siblings.now was s c.read_piece.new.walk c.read_piece.new.disk piece trees read c.may_join.new.siblings now c.in_ok-may_join.field-0 wide c.if-not-branch.false c.in_ok-may_join.ensures.same c.in_ok-may_join.ensures.other joined light
    (let sum = c.saturating_add-tally.ensures in omega (arith, sum, nodes))
