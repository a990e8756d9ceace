use Rattle.std.proofs.Common.{◌≡◌, ◌<◌, ◌≤◌, ℕ, List, ◌∷◌, sym, ap, ◌∙◌, subst, arith}
use Rattle.std.proofs.lemmas.Result.{err_from_is_err_and}
use Rattle.nx_host.specs.Disk.{Image}
use Rattle.nx_host.proofs.DiskLemmas.{none_still}
use Rattle.nx_piece.specs.declared.piece.Piece.{Piece}
use Rattle.nx_piece.specs.Gapped.{Gapped, gapped_size, gapped_nodes}
use Rattle.nx_piece.specs.Viewing.{seen_items}
use Rattle.nx_piece.proofs.WalkLemmas.{nodes_most}
use Rattle.nx_rules.specs.Walked.{walked_forest}
use Rattle.nx_rules.specs.Tour.{Visit, all_reached, Tour, used_in}
use Rattle.nx_check.specs.declared.error.Stop.{Stop}
use Rattle.nx_check.specs.declared.walking.Tally.{Tally}
use Rattle.nx_check.specs.Shown.{AreShownBy}
use Rattle.nx_check.specs.On.{StopsWalk}
use Rattle.nx_check.specs.Between.{IsBetweenDocuments}
use Rattle.nx_check.specs.Standing.{tour_at}
use Rattle.nx_check.proofs.FitLemmas.{match_true, match_false}
use Rattle.nx_check.proofs.ReachLemmas.{stops_as}
use Rattle.nx_check.proofs.DocumentLemmas.{root_waits, stage_of}
use Rattle.nx_check.proofs.RootLemmas.{root_record_breaks, root_come, root_read, root_piece_breaks, root_shown_by, root_document_breaks, root_weight_breaks, root_is_reached}
use Rattle.nx_check.proofs.walking.reach_root.Goals as goal

pub returns-in_err-bytes-clause-refused : goal.returns-in_err-bytes-clause-refused
returns-in_err-bytes-clause-refused g c =
    let p = err_from_is_err_and c.from_residual.result c.from_residual.ensures.1 in
    rw (p.1, p.2)
    (stops_as g.D.Disk c.args.disk.now c.args.disk.now c.read_record.new.disk _ _ c.in_err-bytes.field-0.0 none_still c.in_err-bytes.ensures.refused
    (λ r page was says s. root_record_breaks g.D.Disk c.args.walk.now c.args.disk.now was s.0 s.1 s.2 s.3 s.4 c.args.k c.args.entry s.5 s.6 s.7 r page (says was)))

pub returns-in_err-piece-clause-refused : goal.returns-in_err-piece-clause-refused
returns-in_err-piece-clause-refused g c =
    let p = err_from_is_err_and c.from_residual-in_err-piece.result c.from_residual-in_err-piece.ensures.1 in
    rw (p.1, p.2)
    (stops_as g.D.Disk c.args.disk.now c.read_record.new.disk c.read_piece.new.disk _ _ c.in_err-piece.field-0.0 c.read_record.ensures.still c.in_err-piece.ensures.refused
    (λ r page was says s.
    let tour = tour_at (stage_of s.1 s.2 s.3 s.4) (root_waits c.args.entry) in
    root_piece_breaks g.D.Disk c.args.walk.now c.args.disk.now was s.0 s.1 s.2 s.3 s.4 c.args.k c.args.entry s.5 s.6 s.7 c.read_record.new.walk c.read_record.new.disk c.in_ok-bytes.field-0 c.as_slice.result.now r page c.as_slice.ensures
    (c.in_ok-bytes.ensures.ok was s.0 s.1.free (used_in tour) (all_reached tour.visits) (root_come g.D.Disk c.args.walk.now c.args.disk.now was s.0 s.1 s.2 s.3 s.4 c.args.k c.args.entry s.5 s.6 s.7)) (says was)))

pub returns-then-not-may_be_root-clause-refused : goal.returns-then-not-may_be_root-clause-refused
returns-then-not-may_be_root-clause-refused g c =
    subst (λ (e : Stop). StopsWalk g.D.Disk c.args.disk.now c.read_piece.new.disk (λ (was : Image). (base : ℕ) × (tour : Tour) × (before : List Visit) × (visit : Visit) × (after : List Visit)
    × IsBetweenDocuments g.D.Disk c.args.walk.now c.args.disk.now was base tour before (visit ∷ after) × (visit.entry ≡ c.args.entry) × (c.args.k ≡ tour.head.settings.k)) e) (sym c.broken.ensures)
    (λ was s.
    let tour = tour_at (stage_of s.1 s.2 s.3 s.4) (root_waits c.args.entry) in
    let piece = c.in_ok-piece.piece in
    let read = root_read g.D.Disk c.args.walk.now c.args.disk.now was s.0 s.1 s.2 s.3 s.4 c.args.k c.args.entry s.5 s.6 s.7 c.read_record.new.walk c.read_piece.new.walk c.read_record.new.disk c.read_piece.new.disk c.in_ok-bytes.field-0 c.as_slice.result.now piece c.as_slice.ensures
    (c.in_ok-bytes.ensures.ok was s.0 s.1.free (used_in tour) (all_reached tour.visits) (root_come g.D.Disk c.args.walk.now c.args.disk.now was s.0 s.1 s.2 s.3 s.4 c.args.k c.args.entry s.5 s.6 s.7)) (c.in_ok-piece.ensures.ok was) in
    let roots : seen_items c.roots.result ≡ piece.body.roots = c.roots.ensures ∙ ap (λ (p : Piece). p.body.roots) c.piece.view_is in
    let shown = subst (λ (f : Gapped). AreShownBy f (walked_forest read.new)) (sym roots) (root_shown_by g.D.Disk c.args.walk.now c.args.disk.now was s.0 s.1 s.2 s.3 s.4 c.args.k c.args.entry s.5 s.6 s.7 c.read_piece.new.walk c.read_piece.new.disk piece read) in
    root_document_breaks g.D.Disk c.args.walk.now c.args.disk.now was s.0 s.1 s.2 s.3 s.4 c.args.k c.args.entry s.5 s.6 s.7 c.read_piece.new.walk c.read_piece.new.disk piece read
    (match_false _ _ c.may_be_root.result c.if-not-may_be_root.true (c.may_be_root.ensures.ok (walked_forest read.new) shown)))

pub returns-then-size-k-clause-refused : goal.returns-then-size-k-clause-refused
returns-then-size-k-clause-refused g c =
    subst (λ (e : Stop). StopsWalk g.D.Disk c.args.disk.now c.read_piece.new.disk (λ (was : Image). (base : ℕ) × (tour : Tour) × (before : List Visit) × (visit : Visit) × (after : List Visit)
    × IsBetweenDocuments g.D.Disk c.args.walk.now c.args.disk.now was base tour before (visit ∷ after) × (visit.entry ≡ c.args.entry) × (c.args.k ≡ tour.head.settings.k)) e) (sym c.broken-then-size-k.ensures)
    (λ was s.
    let tour = tour_at (stage_of s.1 s.2 s.3 s.4) (root_waits c.args.entry) in
    let piece = c.in_ok-piece.piece in
    let read = root_read g.D.Disk c.args.walk.now c.args.disk.now was s.0 s.1 s.2 s.3 s.4 c.args.k c.args.entry s.5 s.6 s.7 c.read_record.new.walk c.read_piece.new.walk c.read_record.new.disk c.read_piece.new.disk c.in_ok-bytes.field-0 c.as_slice.result.now piece c.as_slice.ensures
    (c.in_ok-bytes.ensures.ok was s.0 s.1.free (used_in tour) (all_reached tour.visits) (root_come g.D.Disk c.args.walk.now c.args.disk.now was s.0 s.1 s.2 s.3 s.4 c.args.k c.args.entry s.5 s.6 s.7)) (c.in_ok-piece.ensures.ok was) in
    let roots : seen_items c.roots.result ≡ piece.body.roots = c.roots.ensures ∙ ap (λ (p : Piece). p.body.roots) c.piece.view_is in
    let takes : c.size.result ≡ gapped_size piece.body.roots = c.size.ensures ∙ ap (λ (p : Piece). gapped_size p.body.roots) c.piece.view_is in
    let heavy : c.args.k < gapped_size piece.body.roots = let more = c.if-size-k.true in omega (arith, takes, more) in
    let shown = subst (λ (f : Gapped). AreShownBy f (walked_forest read.new)) (sym roots) (root_shown_by g.D.Disk c.args.walk.now c.args.disk.now was s.0 s.1 s.2 s.3 s.4 c.args.k c.args.entry s.5 s.6 s.7 c.read_piece.new.walk c.read_piece.new.disk piece read) in
    root_weight_breaks g.D.Disk c.args.walk.now c.args.disk.now was s.0 s.1 s.2 s.3 s.4 c.args.k c.args.entry s.5 s.6 s.7 c.read_piece.new.walk c.read_piece.new.disk piece read
    (match_true _ _ c.may_be_root.result c.if-not-may_be_root.false (c.may_be_root.ensures.ok (walked_forest read.new) shown)).0 heavy)

pub returns-clause-ok : goal.returns-clause-ok
returns-clause-ok g c = λ was base now before visit after h is most.
    let tour = tour_at (stage_of now before visit after) (root_waits c.args.entry) in
    let piece = c.in_ok-piece.piece in
    let read = root_read g.D.Disk c.args.walk.now c.args.disk.now was base now before visit after c.args.k c.args.entry h is most c.read_record.new.walk c.read_piece.new.walk c.read_record.new.disk c.read_piece.new.disk c.in_ok-bytes.field-0 c.as_slice.result.now piece c.as_slice.ensures
    (c.in_ok-bytes.ensures.ok was base now.free (used_in tour) (all_reached tour.visits) (root_come g.D.Disk c.args.walk.now c.args.disk.now was base now before visit after c.args.k c.args.entry h is most)) (c.in_ok-piece.ensures.ok was) in
    let roots : seen_items c.roots.result ≡ piece.body.roots = c.roots.ensures ∙ ap (λ (p : Piece). p.body.roots) c.piece.view_is in
    let takes : c.size.result ≡ gapped_size piece.body.roots = c.size.ensures ∙ ap (λ (p : Piece). gapped_size p.body.roots) c.piece.view_is in
    let light : gapped_size piece.body.roots ≤ c.args.k = let few = c.if-size-k.false in omega (arith, takes, few) in
    let nodes : c.nodes-tally.result ≡ gapped_nodes piece.body.roots = c.nodes-tally.ensures ∙ ap (λ (p : Piece). gapped_nodes p.body.roots) c.piece.view_is in
    let shown = subst (λ (f : Gapped). AreShownBy f (walked_forest read.new)) (sym roots) (root_shown_by g.D.Disk c.args.walk.now c.args.disk.now was base now before visit after c.args.k c.args.entry h is most c.read_piece.new.walk c.read_piece.new.disk piece read) in
    let judged = match_true _ _ c.may_be_root.result c.if-not-may_be_root.false (c.may_be_root.ensures.ok (walked_forest read.new) shown) in
    let tally : Tally = record { nodes = c.nodes-tally.result; element = c.may_be_root.new.element } in
    let few : gapped_nodes piece.body.roots ≤ 256 = let small = c.in_ok-piece.ensures.body.small in let most = nodes_most piece.body.roots in omega (arith, small, most) in
    root_is_reached g.D.Disk c.args.walk.now c.args.disk.now was base now before visit after c.args.k c.args.entry h is most c.read_piece.new.walk c.read_piece.new.disk piece read tally judged.0 judged.1 light nodes (omega (arith, few, nodes))
