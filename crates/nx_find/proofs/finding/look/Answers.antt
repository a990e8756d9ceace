use Rattle.std.proofs.Common.{◌≡◌, ℕ, List, Bool, sym, ap, ◌∙◌, subst}
use Rattle.std.proofs.Math.Path.{fun_ext}
use Rattle.std.proofs.lemmas.Result.{err_from_is_err_and}
use Rattle.nx_layouts.specs.Layout.{RecordPlace}
use Rattle.nx_cuts.specs.Cut.{tree_of}
use Rattle.nx_hold.specs.Changes.{place_of}
use Rattle.nx_reach.specs.Reach.{Found}
use Rattle.nx_nav.specs.Walk.{IsIntervalAt}
use Rattle.nx_names.specs.declared.holders.Holders.{Holders}
use Rattle.nx_names.specs.Holders.{is_holder}
use Rattle.nx_find.specs.declared.names.Names.{Names}
use Rattle.nx_find.specs.Over.{OfEachMapped, holds_of, last_label}
use Rattle.nx_find.specs.Walked.{looks_entering, ShowsWhole, StopsShowing}
use Rattle.nx_find.specs.Looking.{FindsLooks}
use Rattle.nx_records.proofs.LeaveLemmas.{had_ended}
use Rattle.nx_find.proofs.WalkLemmas.{stops_at_once, stops_behind}
use Rattle.nx_find.proofs.OverLemmas.{laid_interval, no_document, reads_those, finds_document, lacks_more}
use Rattle.nx_find.proofs.finding.look.Goals as goal

-- what the holders of the last step's label are
those : (holders : Holders) (names : Names) (label last : List ℕ) → ((place : RecordPlace) → is_holder holders place ≡ holds_of names place label) → label ≡ last
    → ◌≡◌ {A = RecordPlace → Bool} (λ place. is_holder holders place) (λ place. holds_of names place last)
those holders names label last are same = fun_ext (λ place. are place ∙ ap (holds_of names place) same)

pub returns-then-is_ended-clause-reads : goal.returns-then-is_ended-clause-reads
returns-then-is_ended-clause-reads g c = λ saved now stands pieces document layout laid count map.
    let wanted : RecordPlace → Bool = λ place. holds_of c.args.names.now place (last_label c.args.steps.now) in
    reads_those stands pieces document layout laid (holds_of c.args.names.now) (last_label c.args.steps.now) map
    (stops_at_once g.D.Disk wanted (IsIntervalAt g.D.Disk c.args.records.now c.args.disk.now (place_of c.args.entry.root) 1) (looks_entering wanted) c.args.records.now c.args.disk.now)

pub returns-then-is_ended-clause-refused : goal.returns-then-is_ended-clause-refused
returns-then-is_ended-clause-refused g c = had_ended (sym c.is_ended.ensures ∙ c.if-is_ended.true)

pub returns-in_err-holders-clause-reads : goal.returns-in_err-holders-clause-reads
returns-in_err-holders-clause-reads g c = λ saved now stands pieces document layout laid count map.
    let wanted : RecordPlace → Bool = λ place. holds_of c.args.names.now place (last_label c.args.steps.now) in
    reads_those stands pieces document layout laid (holds_of c.args.names.now) (last_label c.args.steps.now) map
    (stops_at_once g.D.Disk wanted (IsIntervalAt g.D.Disk c.args.records.now c.args.disk.now (place_of c.args.entry.root) 1) (looks_entering wanted) c.args.records.now c.args.disk.now)

pub returns-in_err-show_document-clause-reads : goal.returns-in_err-show_document-clause-reads
returns-in_err-show_document-clause-reads g c = λ saved now stands pieces document layout laid count map.
    let same = those c.in_ok-holders.holders c.args.names.now c.last_label.result.now (last_label c.args.steps.now) c.in_ok-holders.ensures (c.last_label.ensures ∙ ap last_label c.as_slice.ensures.steps) in
    reads_those stands pieces document layout laid (holds_of c.args.names.now) (last_label c.args.steps.now) map
    (subst (λ (w : RecordPlace → Bool). StopsShowing g.D.Disk (IsIntervalAt g.D.Disk c.args.records.now c.args.disk.now (place_of c.args.entry.root) 1) (looks_entering w) c.args.records.now c.args.disk.now c.show_document.new.disk) same c.in_err-show_document.ensures.stops)

pub returns-in_err-show_document-clause-refused : goal.returns-in_err-show_document-clause-refused
returns-in_err-show_document-clause-refused g c =
    let p = err_from_is_err_and c.from_residual-in_err-show_document.result c.from_residual-in_err-show_document.ensures.1 in
    let Lacks = OfEachMapped g.D.Disk c.args.records.now c.args.disk.now (place_of c.args.entry.root) c.args.entry.nodes (holds_of c.args.names.now) (λ now document layout. ⊥) in
    rw (p.1, p.2)
    (lacks_more g.D.Disk _ c.args.records.now c.show_document.new.records c.args.disk.now c.show_document.new.disk Lacks
    (λ none. λ saved now stands pieces document layout laid count map. no_document stands pieces document layout laid _ c.args.entry.nodes none count) c.in_err-show_document.field-0.0 c.in_err-show_document.ensures.refused)

pub returns-clause-reads : goal.returns-clause-reads
returns-clause-reads g c = λ saved now stands pieces document layout laid count map.
    let same = those c.in_ok-holders.holders c.args.names.now c.last_label.result.now (last_label c.args.steps.now) c.in_ok-holders.ensures (c.last_label.ensures ∙ ap last_label c.as_slice.ensures.steps) in
    reads_those stands pieces document layout laid (holds_of c.args.names.now) (last_label c.args.steps.now) map
    (subst (λ (w : RecordPlace → Bool). StopsShowing g.D.Disk (IsIntervalAt g.D.Disk c.args.records.now c.args.disk.now (place_of c.args.entry.root) 1) (looks_entering w) c.args.records.now c.args.disk.now c.show_document.new.disk) same (stops_behind c.in_ok-show_document.ensures.shown))

pub returns-clause-ok : goal.returns-clause-ok
returns-clause-ok g c =
    let stays = c.in_ok-show_document.ensures.stays in
    let steps = c.args.steps.now in
    let names = c.args.names.now in
    let same = those c.in_ok-holders.holders names c.last_label.result.now (last_label steps) c.in_ok-holders.ensures (c.last_label.ensures ∙ ap last_label c.as_slice.ensures.steps) in
    let start = c.new.result in
    let end = c.show_document.new.walk.looks.finder in
    let has = subst (λ (w : RecordPlace → Bool). ShowsWhole g.D.Disk FindsLooks (IsIntervalAt g.D.Disk c.args.records.now c.args.disk.now (place_of c.args.entry.root) 1) (looks_entering w) c.args.records.now (record { finder = start }) c.args.disk.now c.args.entry.nodes c.show_document.new.walk.looks c.show_document.new.disk c.show_document.new.walk.left)
    same c.in_ok-show_document.ensures.shown in (
      stays.0,
      stays.1,
      λ saved now stands pieces document layout laid count map.
          subst (Found (tree_of document) steps) (sym c.into_found.ensures)
          (finds_document stands pieces document layout laid (holds_of names) steps start end has.told c.as_slice.ensures.some c.new.ensures.steps c.new.ensures.at has.goes map (has.all _ (laid_interval stands pieces document layout laid))),
    )
