use Rattle.std.proofs.Common.{ℕ, ◌+◌, ◌≤◌, subst, arith}
use Rattle.nx_holdings.specs.Laws.{pages_of_list}
use Rattle.nx_records.specs.declared.error.StoreError.{StoreError}
use Rattle.nx_records.specs.Changes.{LacksList}
use Rattle.nx_records.specs.Refusals.{NotChanged}
use Rattle.nx_records.proofs.StandLemmas.{on_ok_then, if_err_then}
use Rattle.nx_hold.proofs.ContentLemmas.{content_goes_tidy}
use Rattle.nx_hold.proofs.contents.free_far.Goals as goal

pub returns-clause-ok : goal.returns-clause-ok
returns-clause-ok g c =
    on_ok_then c.free_list.result c.free_list.ensures.ok
    (λ frees saved now stands tidy is.
    let next = (frees saved now is.0.0 stands is.0.1).1 in
    (next.0, next.1, content_goes_tidy c.args.far.first now next.0 tidy is.1 next.2, next.2))

pub returns-clause-own : goal.returns-clause-own
returns-clause-own g c =
    on_ok_then c.free_list.result c.free_list.ensures.ok
    (λ frees saved now stands is.
    let next = (frees saved now is.0 stands is.1).1 in
    let more : now.free + pages_of_list (now.lists c.args.far.first) ≤ next.0.free = next.2.free in
    (next.0, next.1, (next.2, omega (arith, more))))

pub returns-clause-refused : goal.returns-clause-refused
returns-clause-refused g c =
    if_err_then c.free_list.result c.free_list.ensures.refused
    (λ (e : StoreError) refused. subst (λ (n : ℕ). NotChanged g.D.Disk (λ was. LacksList was c.args.far.first n) c.args.far.first e c.args.records.now c.free_list.new.self c.args.disk.now c.free_list.new.disk) c.from.ensures refused)
