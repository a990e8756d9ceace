use Rattle.std.proofs.Common.{◌≡◌, ℕ, List, ◌∷◌, refl, sym, subst}
use Rattle.std.proofs.lemmas.Result.{err_from_is_err_and}
use Rattle.nx_host.specs.Disk.{Image}
use Rattle.nx_rules.specs.Tour.{Visit, Tour}
use Rattle.nx_check.specs.declared.error.Stop.{Stop}
use Rattle.nx_check.specs.On.{StopsWalk}
use Rattle.nx_check.specs.Between.{IsBetweenDocuments}
use Rattle.nx_check.specs.Standing.{tour_at}
use Rattle.nx_check.proofs.ReachLemmas.{stops_later}
use Rattle.nx_check.proofs.DocumentLemmas.{root_reached, stage_of, begins_stage, has_nodes, ends_between, breaks_nodes, piece_stands}
use Rattle.nx_check.proofs.walking.walk_document.Goals as goal

pub returns-in_err-walk_piece-clause-refused : goal.returns-in_err-walk_piece-clause-refused
returns-in_err-walk_piece-clause-refused g c =
    let p = err_from_is_err_and c.from_residual-in_err-walk_piece.result c.from_residual-in_err-walk_piece.ensures.1 in
    rw (p.1, p.2)
    (stops_later g.D.Disk c.args.disk.now c.reach_root.new.disk c.walk_piece.new.disk _ _ c.in_err-walk_piece.field-0.0 c.reach_root.ensures.still c.in_err-walk_piece.ensures.refused
    (λ was s.
    let r = c.in_ok-piece.ensures.ok was s.0 s.1 s.2 s.3 s.4 s.5 s.6 s.7 in
    piece_stands g.D.Disk c.reach_root.new.walk c.reach_root.new.tally c.reach_root.new.disk was s.0 (stage_of s.1 s.2 s.3 s.4) c.args.k c.args.entry c.in_ok-piece.piece r.0 r.1 (begins_stage g.D.Disk c.args.walk.now c.args.disk.now was s.0 s.1 s.2 s.3 s.4 c.args.k c.args.entry s.5 s.6 s.7) r.2 r.3))

pub returns-then-not-has_its_nodes-clause-refused : goal.returns-then-not-has_its_nodes-clause-refused
returns-then-not-has_its_nodes-clause-refused g c =
    subst (λ (e : Stop). StopsWalk g.D.Disk c.args.disk.now c.walk_piece.new.disk (λ (was : Image). (base : ℕ) × (tour : Tour) × (before : List Visit) × (visit : Visit) × (after : List Visit)
    × IsBetweenDocuments g.D.Disk c.args.walk.now c.args.disk.now was base tour before (visit ∷ after) × (visit.entry ≡ c.args.entry) × (c.args.k ≡ tour.head.settings.k)) e) (sym c.broken.ensures)
    (λ was s.
    let stage = stage_of s.1 s.2 s.3 s.4 in
    let r = c.in_ok-piece.ensures.ok was s.0 s.1 s.2 s.3 s.4 s.5 s.6 s.7 in
    let stands = begins_stage g.D.Disk c.args.walk.now c.args.disk.now was s.0 s.1 s.2 s.3 s.4 c.args.k c.args.entry s.5 s.6 s.7 in
    let w = c.in_ok-walk_piece.ensures.ok was (piece_stands g.D.Disk c.reach_root.new.walk c.reach_root.new.tally c.reach_root.new.disk was s.0 stage c.args.k c.args.entry c.in_ok-piece.piece r.0 r.1 stands r.2 r.3) in
    breaks_nodes g.D.Disk c.walk_piece.new.walk c.walk_piece.new.tally c.walk_piece.new.disk was s.0 stage c.args.k c.args.entry r.0 w.0 stands s.6 w.1 w.3
    (λ has. let yes = c.has_its_nodes.ensures.1 ((has_nodes c.walk_piece.new.tally c.args.entry s.3 (root_reached c.args.entry r.0 w.0) s.6 w.3.counted w.3.found).0 has) in let none = c.if-not-has_its_nodes.true in cc (yes, none)))

pub returns-clause-ok : goal.returns-clause-ok
returns-clause-ok g c = λ was base tour before visit after h is most.
    let stage = stage_of tour before visit after in
    let r = c.in_ok-piece.ensures.ok was base tour before visit after h is most in
    let stands = begins_stage g.D.Disk c.args.walk.now c.args.disk.now was base tour before visit after c.args.k c.args.entry h is most in
    let w = c.in_ok-walk_piece.ensures.ok was (piece_stands g.D.Disk c.reach_root.new.walk c.reach_root.new.tally c.reach_root.new.disk was base stage c.args.k c.args.entry c.in_ok-piece.piece r.0 r.1 stands r.2 r.3) in
    let done : Visit = record visit { walked = root_reached c.args.entry r.0 w.0 } in
    let has = (has_nodes c.walk_piece.new.tally c.args.entry visit (root_reached c.args.entry r.0 w.0) is w.3.counted w.3.found).1 (c.has_its_nodes.ensures.0 c.if-not-has_its_nodes.false) in
    (tour_at stage (root_reached c.args.entry r.0 w.0), done, refl, refl, ends_between g.D.Disk c.walk_piece.new.walk c.walk_piece.new.tally c.walk_piece.new.disk was base stage c.args.k c.args.entry r.0 w.0 stands is w.1 w.3 has)
