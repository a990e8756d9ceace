use Rattle.std.proofs.Common.{ℕ, [], ◌∷◌, refl, sym, ◌∙◌, subst}
use Rattle.std.specs.Prelude.{IsSome}
use Rattle.std.proofs.lemmas.Result.{err_from_is_err_and}
use Rattle.nx_host.proofs.DiskLemmas.{none_still}
use Rattle.nx_records.proofs.LeaveLemmas.{had_ended}
use Rattle.nx_hold.specs.Changes.{place_of}
use Rattle.nx_nav.specs.Along.{ReadsAlong}
use Rattle.nx_nav.specs.Refusals.{HoldsNoneWith}
use Rattle.nx_nav.specs.Steps.{steps_of}
use Rattle.nx_nav.proofs.RefusalLemmas.{is_damaged, is_unwritten}
use Rattle.nx_nav.proofs.DocumentLemmas.{document_told, document_stops, document_all_told, document_stops_paused, none_so_large, document_refused}
use Rattle.nx_nav.proofs.EarlyLemmas.{IsNearing, first_left, first_along}
use Rattle.nx_nav.proofs.WayLemmas.{IsTeller}
use Rattle.nx_nav.proofs.walking.tell_document.Given.{Over}
use Rattle.nx_nav.proofs.walking.tell_document.Goals as goal

teller : (g : Over) → IsTeller g.D.Disk g.T.Tells.Told g.T.Tells.Unwritten
teller g = record {
  asked = g.met.T.Tells.asked;
  join = g.met.T.Tells.then;
  keeps = g.met.T.Tells.keeps;
  fewer = g.met.T.Tells.fewer_images;
  faults = g.met.T.Tells.faults_later;
  unwritten = g.met.T.Tells.unwritten_later;
}

nearing : (g : Over) → IsNearing g.D.Disk g.T.Tells.Told g.T.Tells.Near
nearing g = record { grows = g.met.T.Tells.output_grows; nearer = g.met.T.Tells.near_later }

pub returns-then-is_ended-clause-stops : goal.returns-then-is_ended-clause-stops
returns-then-is_ended-clause-stops g c = record {
  told = [];
  last = c.args.walk.now.teller;
  goes = g.met.T.Tells.asked c.args.walk.now.teller c.args.disk.now c.args.disk.now none_still;
  first = λ seen document h. (steps_of g.T.Tells.Contents document, refl);
}

pub returns-in_err-tell_interval-clause-stops : goal.returns-in_err-tell_interval-clause-stops
returns-in_err-tell_interval-clause-stops g c =
    let p = err_from_is_err_and c.from_residual.result c.from_residual.ensures.1 in
    rw p.1 (document_stops c.tell_interval.new.disk c.in_err-tell_interval.ensures.stops)

pub returns-in_err-tell_interval-clause-refused : goal.returns-in_err-tell_interval-clause-refused
returns-in_err-tell_interval-clause-refused g c =
    let p = err_from_is_err_and c.from_residual.result c.from_residual.ensures.1 in
    rw (p.1, p.2) (document_refused g.D.Disk (g.T.Tells.Unwritten c.args.disk.now c.tell_interval.new.disk) c.args.records.now c.tell_interval.new.records c.args.disk.now c.tell_interval.new.disk (place_of c.args.root) c.args.walk.now.left c.args.walk.now.visited c.requires.fresh c.in_err-tell_interval.field-0.0 c.in_err-tell_interval.ensures.refused)

pub returns-then-walk-ne0-clause-stops : goal.returns-then-walk-ne0-clause-stops
returns-then-walk-ne0-clause-stops g c = document_all_told c.args.walk.now.left c.tell_interval.new.walk.left c.tell_interval.new.walk.teller c.tell_interval.new.disk c.args.walk.now.visited c.tell_interval.new.walk.visited c.in_ok-tell_interval.ensures.told

pub returns-then-walk-ne0-clause-refused : goal.returns-then-walk-ne0-clause-refused
returns-then-walk-ne0-clause-refused g c =
    is_damaged g.D.Disk ⊥ (g.T.Tells.Unwritten c.args.disk.now c.tell_interval.new.disk) (IsSome (g.D.Disk.contents c.tell_interval.new.disk) → HoldsNoneWith g.D.Disk c.args.records.now c.args.disk.now (place_of c.args.root) c.args.walk.now.left)
    {r0 = c.args.records.now} {r1 = c.tell_interval.new.records} {r2 = c.damaged.new.records} c.args.disk.now c.tell_interval.new.disk c.damaged.result c.damaged.ensures.result (sym c.is_ended.ensures ∙ c.if-is_ended.false) c.in_ok-tell_interval.ensures.stays
    c.damaged.ensures.ends
    (none_so_large c.args.walk.now.left c.tell_interval.new.walk.left c.tell_interval.new.walk.teller c.tell_interval.new.disk c.args.walk.now.visited c.tell_interval.new.walk.visited c.in_ok-tell_interval.ensures.told c.if-walk-ne0.true)

pub returns-clause-told : goal.returns-clause-told
returns-clause-told g c =
    document_told (teller g) c.args.walk.now.left c.tell_interval.new.walk.left c.tell_interval.new.walk.teller c.finish.new.self c.tell_interval.new.disk c.finish.new.disk c.args.walk.now.visited c.tell_interval.new.walk.visited c.in_ok-tell_interval.ensures.told c.if-walk-ne0.false c.in_ok-finish.ensures.ok

pub returns-then-is_ended-clause-refused : goal.returns-then-is_ended-clause-refused
returns-then-is_ended-clause-refused g c = had_ended (sym c.is_ended.ensures ∙ c.if-is_ended.true)

pub returns-in_err-finish-clause-stops : goal.returns-in_err-finish-clause-stops
returns-in_err-finish-clause-stops g c =
    let p = err_from_is_err_and c.from_residual-in_err-finish.result c.from_residual-in_err-finish.ensures.1 in
    let last = c.in_err-finish.ensures.err.2 in
    rw p.1 (document_stops_paused (teller g) c.args.walk.now.left c.tell_interval.new.walk.left c.tell_interval.new.walk.teller last.0 c.tell_interval.new.disk c.finish.new.disk c.args.walk.now.visited c.tell_interval.new.walk.visited c.in_ok-tell_interval.ensures.told last.1)

pub returns-in_err-finish-clause-refused : goal.returns-in_err-finish-clause-refused
returns-in_err-finish-clause-refused g c =
    let p = err_from_is_err_and c.from_residual-in_err-finish.result c.from_residual-in_err-finish.ensures.1 in
    let told = c.in_ok-tell_interval.ensures.told in
    rw (p.1, p.2)
    (is_unwritten g.D.Disk ⊥ (g.T.Tells.Unwritten c.args.disk.now c.finish.new.disk) (IsSome (g.D.Disk.contents c.finish.new.disk) → HoldsNoneWith g.D.Disk c.args.records.now c.args.disk.now (place_of c.args.root) c.args.walk.now.left)
    c.args.disk.now c.finish.new.disk c.in_err-finish.field-0.0 c.in_err-finish.ensures.err.0
    ((teller g).unwritten c.args.walk.now.teller c.tell_interval.new.walk.teller c.args.disk.now c.tell_interval.new.disk c.finish.new.disk told.told told.goes c.in_err-finish.ensures.err.1)
    (sym c.is_ended.ensures ∙ c.if-is_ended.false) c.in_ok-tell_interval.ensures.stays)

pub returns-in_err-tell_interval-clause-first : goal.returns-in_err-tell_interval-clause-first
returns-in_err-tell_interval-clause-first g c = λ left begins document h. first_along document h (g.T.Tells.Near c.args.walk.now.teller) 257 (c.tell_interval.ensures.first left begins)

pub returns-then-walk-ne0-clause-first : goal.returns-then-walk-ne0-clause-first
returns-then-walk-ne0-clause-first g c = λ left begins document h. first_along document h (g.T.Tells.Near c.args.walk.now.teller) 257 (c.tell_interval.ensures.first left begins)

pub returns-in_err-finish-clause-first : goal.returns-in_err-finish-clause-first
returns-in_err-finish-clause-first g c = λ left begins document h.
    let last = c.in_err-finish.ensures.err.2 in
    let output = first_left (teller g) (nearing g) (c.in_ok-tell_interval.ensures.told).goes last.1 left in
    subst (λ (n : ℕ). ReadsAlong h.now (place_of c.args.root) (0 ∷ []) (g.D.Disk.reads c.args.disk.now) n) (sym c.finish.ensures.unread)
    (first_along document h (g.T.Tells.Near c.args.walk.now.teller) 257 (c.tell_interval.ensures.first output begins))

pub returns-clause-first : goal.returns-clause-first
returns-clause-first g c = λ left begins document h.
    let output = first_left (teller g) (nearing g) (c.in_ok-tell_interval.ensures.told).goes c.in_ok-finish.ensures.ok left in
    subst (λ (n : ℕ). ReadsAlong h.now (place_of c.args.root) (0 ∷ []) (g.D.Disk.reads c.args.disk.now) n) (sym c.finish.ensures.unread)
    (first_along document h (g.T.Tells.Near c.args.walk.now.teller) 257 (c.tell_interval.ensures.first output begins))
