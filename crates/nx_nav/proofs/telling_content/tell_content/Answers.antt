use Rattle.std.proofs.Common.{refl, sym, ◌∙◌, arith}
use Rattle.std.proofs.lemmas.Result.{err_from_is_err_and, on_ok_weaker, on_err_weaker, IfErr-weaker}
use Rattle.nx_records.proofs.LeaveLemmas.{leaves_same}
use Rattle.nx_piece.specs.Flat.{seen_node}
use Rattle.nx_nav.specs.Parts.{HasNode}
use Rattle.nx_nav.specs.Walk.{LacksEach}
use Rattle.nx_nav.proofs.RefusalLemmas.{refused_later, still_runs}
use Rattle.nx_nav.proofs.WayLemmas.{IsTeller}
use Rattle.nx_nav.proofs.ContentLemmas.{node_stops_at_once, unasked_told, near_told, far_told, far_stops, far_lacks}
use Rattle.nx_nav.proofs.telling_content.tell_content.Given.{Over}
use Rattle.nx_nav.proofs.telling_content.tell_content.Goals as goal

teller : (g : Over) → IsTeller g.D.Disk g.T.Tells.Told g.T.Tells.Unwritten
teller g = record {
  asked = g.met.T.Tells.asked;
  join = g.met.T.Tells.then;
  keeps = g.met.T.Tells.keeps;
  fewer = g.met.T.Tells.fewer_images;
  faults = g.met.T.Tells.faults_later;
  unwritten = g.met.T.Tells.unwritten_later;
}

pub returns-then-not-wants_contents-clause-told : goal.returns-then-not-wants_contents-clause-told
returns-then-not-wants_contents-clause-told g c = unasked_told g.T.Tells.Contents (teller g) (sym c.wants_contents.ensures ∙ c.if-not-wants_contents.true)

pub returns-in_err-content-in-None-clause-stops : goal.returns-in_err-content-in-None-clause-stops
returns-in_err-content-in-None-clause-stops g c =
    let p = err_from_is_err_and c.from_residual.result c.from_residual.ensures.1 in
    rw p.1 (node_stops_at_once (teller g))

pub returns-in_ok-content-in-None-clause-told : goal.returns-in_ok-content-in-None-clause-told
returns-in_ok-content-in-None-clause-told g c =
    near_told g.T.Tells.Contents (teller g) (sym c.wants_contents.ensures ∙ c.if-not-wants_contents.false) c.in-None.is c.requires.some c.requires.short (c.in_ok-content-in-None.ensures c.args.disk.now)

pub returns-in-Some-clause-told : goal.returns-in-Some-clause-told
returns-in-Some-clause-told g c =
    on_ok_weaker c.tell_far.result (far_told g.T.Tells.Contents (teller g) (sym c.wants_contents.ensures ∙ c.if-not-wants_contents.false) c.in-Some.is) c.tell_far.ensures.told

pub returns-in-Some-clause-stops : goal.returns-in-Some-clause-stops
returns-in-Some-clause-stops g c =
    on_err_weaker c.tell_far.result (far_stops g.T.Tells.Contents (teller g) (sym c.wants_contents.ensures ∙ c.if-not-wants_contents.false) c.in-Some.is) c.tell_far.ensures.stops

pub returns-in-Some-clause-refused : goal.returns-in-Some-clause-refused
returns-in-Some-clause-refused g c =
    IfErr-weaker c.tell_far.result _ _
    (λ e refused. refused_later g.D.Disk ⊥ _ (LacksEach g.D.Disk c.tell_far.new.disk (HasNode g.D.Disk c.args.records.now c.args.disk.now (seen_node c.args.node))) c.args.records.now c.args.records.now c.tell_far.new.records c.args.disk.now c.args.disk.now c.tell_far.new.disk
    (leaves_same refl) (still_runs c.args.records.now c.requires.runs) (omega arith) (λ bad. bad) (λ u. u) (far_lacks c.tell_far.new.disk c.in-Some.is) e refused)
    c.tell_far.ensures.refused
