use Rattle.std.proofs.Common.{◌≡◌, [], ◌∷◌, ◌++◌, Err, Option, sym, ap, ◌∙◌, subst}
use Rattle.std.proofs.lemmas.Result.{err_from_is_err_and}
use Rattle.nx_script.specs.declared.whole.Line.{Line}
use Rattle.nx_script.specs.Whole.{CutsNext}
use Rattle.nx_filters.specs.declared.status.Status.{Status}
use Rattle.nx_filters.specs.declared.status.Status.TheVariants.{NoMemory}
use Rattle.nx_filters.specs.TakeError.{status_of_script, status_of_give_error}
use Rattle.nx_front.specs.Conversation.{conversation_status}
use Rattle.nx_front.specs.Questions.{FindsAll}
use Rattle.nx_front.proofs.FindingLemmas.{finding_none, finding_more, finds_done, finds_unlooked, finds_ungiven, finds_cut_off, finds_given_up, finds_unbegun}
use Rattle.nx_front.proofs.find.answer_all.Goals as goal

pub returns-in_err-script : goal.returns-in_err-script
returns-in_err-script g c =
    let p = err_from_is_err_and c.from_residual.result c.from_residual.ensures.1 in
    let is : conversation_status c.from_residual.result ≡ NoMemory = ap conversation_status p.1 ∙ p.2 ∙ ap status_of_script c.in_err-script.ensures.err in
    subst (λ (s : Status). FindsAll g.H.Disk c.args.store.now s c.args.host.now c.args.host.now) (sym is) finds_unbegun

pub loop-init : goal.loop-init
loop-init g c = ([], [], finding_none (c.in_ok-script.ensures.lines (g.H.Disk.beside c.args.host.now).input) c.new-gathered.ensures)

pub returns-in_err-line : goal.returns-in_err-line
returns-in_err-line g c =
    let p = err_from_is_err_and c.from_residual-in_err-line.result c.from_residual-in_err-line.ensures.1 in
    let error = c.in_err-line.field-0.0 in
    let is : conversation_status c.from_residual-in_err-line.result ≡ status_of_script error = ap conversation_status p.1 ∙ p.2 in
    let (taken, told, finding) = c.loop.invariant in
    subst (λ (s : Status). FindsAll g.H.Disk c.args.store.now s c.args.host.now c.next_line.new.host) (sym is)
    (finds_cut_off c.next_line.new.self error finding c.next_line.ensures.alone (λ e. c.in_err-line.ensures.cause (ap (λ v. Err v) e)) (λ first cuts. c.in_err-line.ensures.err first taken told cuts))

pub returns-in_default : goal.returns-in_default
returns-in_default g c =
    let (taken, told, finding) = c.loop.invariant in
    let here = g.H.Disk.beside c.args.host.now in
    let came = subst (λ (o : Option Line). CutsNext o c.next_line.new.self taken told here.input (g.H.Disk.beside c.next_line.new.host).input) c.in_default.is
    (c.in_ok-line.ensures.given here.input taken told finding.given) in
    finds_done finding c.next_line.ensures.alone came.1 came.2

pub returns-in_err-answer : goal.returns-in_err-answer
returns-in_err-answer g c =
    let p = err_from_is_err_and c.from_residual-in_err-answer.result c.from_residual-in_err-answer.ensures.1 in
    let status = c.in_err-answer.field-0.0 in
    let is : conversation_status c.from_residual-in_err-answer.result ≡ status = ap conversation_status p.1 ∙ p.2 in
    let (taken, told, finding) = c.loop.invariant in
    let here = g.H.Disk.beside c.args.host.now in
    let came = subst (λ (o : Option Line). CutsNext o c.next_line.new.self taken told here.input (g.H.Disk.beside c.next_line.new.host).input) c.in-Some.is
    (c.in_ok-line.ensures.given here.input taken told finding.given) in
    subst (λ (s : Status). FindsAll g.H.Disk c.args.store.now s c.args.host.now c.look_up.new.disk) (sym is)
    (finds_unlooked c.in-Some.line status finding c.next_line.ensures.alone came.1 c.look_up.ensures.still c.in_err-answer.ensures.err c.in_err-answer.ensures.cause)

pub returns-in_err-give_answer : goal.returns-in_err-give_answer
returns-in_err-give_answer g c =
    let p = err_from_is_err_and c.from_residual-in_err-give_answer.result c.from_residual-in_err-give_answer.ensures.1 in
    let stop = c.in_err-give_answer.field-0.0 in
    let is : conversation_status c.from_residual-in_err-give_answer.result ≡ status_of_give_error stop = ap conversation_status p.1 ∙ p.2 in
    let (taken, told, finding) = c.loop.invariant in
    let here = g.H.Disk.beside c.args.host.now in
    let came = subst (λ (o : Option Line). CutsNext o c.next_line.new.self taken told here.input (g.H.Disk.beside c.next_line.new.host).input) c.in-Some.is
    (c.in_ok-line.ensures.given here.input taken told finding.given) in
    subst (λ (s : Status). FindsAll g.H.Disk c.args.store.now s c.args.host.now c.give_answer.new.host) (sym is)
    (finds_ungiven c.in-Some.line c.in_ok-answer.answer stop finding c.next_line.ensures.alone came.1 c.look_up.ensures.still c.in_ok-answer.ensures.ok c.in_err-give_answer.ensures.given c.give_answer.ensures.alone)

pub loop-preserved : goal.loop-preserved
loop-preserved g c =
    let (taken, told, finding) = c.loop.invariant in
    let here = g.H.Disk.beside c.args.host.now in
    let came = subst (λ (o : Option Line). CutsNext o c.next_line.new.self taken told here.input (g.H.Disk.beside c.next_line.new.host).input) c.in-Some.is
    (c.in_ok-line.ensures.given here.input taken told finding.given) in (
      taken ++ came.0,
      told ++ c.in-Some.line ∷ [],
      finding_more c.in-Some.line c.in_ok-answer.answer finding c.next_line.ensures.alone came.1 c.look_up.ensures.still c.in_ok-answer.ensures.ok c.in_ok-give_answer.ensures.given c.give_answer.ensures.alone,
    )

pub returns : goal.returns
returns g c = let (taken, told, finding) = c.loop.invariant in finds_given_up finding
