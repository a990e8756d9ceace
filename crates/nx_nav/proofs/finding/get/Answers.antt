use Rattle.std.proofs.Common.{◌≡◌, None, refl}
use Rattle.nx_records.proofs.LeaveLemmas.{leaves_add_up, leaves_stand}
use Rattle.nx_tree.specs.Edit.{at}
use Rattle.nx_cuts.specs.Cut.{tree_of}
use Rattle.nx_hold.specs.Changes.{place_of}
use Rattle.nx_nav.specs.Refusals.{OfEach}
use Rattle.nx_nav.proofs.SeekLemmas.{shows_content, shows_no_more}
use Rattle.nx_nav.proofs.ShowLemmas.{shows_near, shows_far, content_refused}
use Rattle.nx_nav.proofs.finding.get.Goals as goal

pub returns-in_err-found-clause-reads : goal.returns-in_err-found-clause-reads
returns-in_err-found-clause-reads g c = λ document h. shows_no_more (at (tree_of document) c.args.path.now) (c.seek_at.ensures.reads document h)

pub returns-in_default-clause-ok : goal.returns-in_default-clause-ok
returns-in_default-clause-ok g c = (
  c.in_ok-found.ensures.stays.0,
  c.in_ok-found.ensures.stays.1,
  λ document h.
      shows_near h.now (tree_of document) c.args.path.now c.in_ok-found.found (c.in_ok-found.ensures.finds document h) (record { node = c.in_ok-found.found.node; children = c.in_ok-found.found.children }) c.in_default.is refl refl,
)

pub returns-in_default-clause-reads : goal.returns-in_default-clause-reads
returns-in_default-clause-reads g c = λ document h. shows_no_more (at (tree_of document) c.args.path.now) (c.seek_at.ensures.reads document h)

pub returns-in-Ok-clause-ok : goal.returns-in-Ok-clause-ok
returns-in-Ok-clause-ok g c = (
  c.in_ok-found.ensures.stays.0,
  leaves_add_up c.in_ok-found.ensures.stays.1 c.in-Ok.ensures.ok.1,
  λ document h.
      shows_far h.now (tree_of document) c.args.path.now c.in_ok-found.found (c.in_ok-found.ensures.finds document h)
      (record { node = record { kind = c.in_ok-found.found.node.kind; name = c.in_ok-found.found.node.name; content = c.in-Ok.content }; children = c.in_ok-found.found.children }) c.in-Some.far c.in-Ok.content c.in-Some.is
      (λ held there. c.in-Ok.ensures.ok.2 h.saved h.now (leaves_stand {r0 = c.args.records.now} {r1 = c.seek_at.new.records} c.in_ok-found.ensures.stays.1 c.seek_at.ensures.still h.stands) held there) refl refl,
)

pub returns-in-Ok-clause-reads : goal.returns-in-Ok-clause-reads
returns-in-Ok-clause-reads g c = λ document h.
    let along = c.in_ok-found.ensures.named document h in
    shows_content (g.D.Disk.reads c.far_content.new.disk) (tree_of document) c.in_ok-found.found c.in-Some.far along.0 along.1 (c.in_ok-found.ensures.finds document h) c.in-Some.is c.far_content.ensures.reads

pub returns-in-Err-clause-reads : goal.returns-in-Err-clause-reads
returns-in-Err-clause-reads g c = λ document h.
    let along = c.in_ok-found.ensures.named document h in
    shows_content (g.D.Disk.reads c.far_content.new.disk) (tree_of document) c.in_ok-found.found c.in-Some.far along.0 along.1 (c.in_ok-found.ensures.finds document h) c.in-Some.is c.far_content.ensures.reads

pub returns-in-Err-clause-refused : goal.returns-in-Err-clause-refused
returns-in-Err-clause-refused g c =
    content_refused g.D.Disk (place_of c.args.root) c.args.path.now c.in_ok-found.found c.in-Some.far c.in-Some.is c.far_content.new.records c.far_content.new.disk c.in_ok-found.ensures.stays.0 c.in_ok-found.ensures.stays.1 c.seek_at.ensures.still c.in_ok-found.ensures.finds
    (OfEach g.D.Disk c.args.records.now c.args.disk.now (place_of c.args.root) (λ document. at (tree_of document) c.args.path.now ≡ None)) c.in-Err.error c.passed_on.result c.passed_on.ensures c.in-Err.ensures.refused
