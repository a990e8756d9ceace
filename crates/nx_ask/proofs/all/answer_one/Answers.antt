use Rattle.std.proofs.Common.{ℕ, List, refl, ap, ◌∙◌}
use Rattle.std.specs.Prelude.{Some}
use Rattle.std.proofs.lemmas.Result.{IfOk-weaker, IfErr-weaker}
use Rattle.nx_ask.specs.PagesAlone.{pages_alone}
use Rattle.nx_ask.specs.Snapshot.{snapshot_image}
use Rattle.nx_ask.proofs.all.answer_one.Goals as goal

pub returns-clause-ok : goal.returns-clause-ok
returns-clause-ok g c =
    let same = c.new-disk.ensures ∙ c.as_slice.ensures.value in
    IfOk-weaker c.answer_over.result _ _
    (λ reply h. h refl (snapshot_image c.args.snapshot.now) (record { here = ap (λ (l : List ℕ). Some (pages_alone l)) same; only = λ i left. left ∙ ap pages_alone same }))
    c.answer_over.ensures.ok

pub returns-clause-refused : goal.returns-clause-refused
returns-clause-refused g c =
    let same = c.new-disk.ensures ∙ c.as_slice.ensures.value in
    IfErr-weaker c.answer_over.result _ _
    (λ e h. h refl (snapshot_image c.args.snapshot.now) (record { here = ap (λ (l : List ℕ). Some (pages_alone l)) same; only = λ i left. left ∙ ap pages_alone same }))
    c.answer_over.ensures.refused
