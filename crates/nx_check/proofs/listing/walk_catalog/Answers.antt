use Rattle.std.proofs.Common.{◌≡◌, ℕ, ◌++◌, List, [], sym, ap, ◌∙◌, subst, arith}
use Rattle.std.specs.Prelude.{Option}
use Rattle.std.specs.Option.{MatchOption}
use Rattle.std.proofs.lemmas.Result.{err_from_is_err_and}
use Rattle.nx_replay.specs.Log.{replay}
use Rattle.nx_holdings.specs.Holdings.{content_of}
use Rattle.nx_catalog.specs.Catalog.{Contents, IsCatalog}
use Rattle.nx_check.specs.declared.error.Stop.{Stop}
use Rattle.nx_check.specs.On.{StopsWalk}
use Rattle.nx_check.specs.Between.{HasBegunWalk}
use Rattle.nx_check.proofs.ChainLemmas.{SaysList}
use Rattle.nx_check.proofs.ComeLemmas.{err_passed}
use Rattle.nx_check.proofs.BetweenLemmas.{stops_by, catalog_chain, no_catalog, begin_tour}
use Rattle.nx_check.proofs.listing.walk_catalog.Goals as goal

pub returns-in_err-walk_list-clause-refused : goal.returns-in_err-walk_list-clause-refused
returns-in_err-walk_list-clause-refused g c =
    err_passed c.from_residual.result (λ (e : Stop). StopsWalk g.D.Disk c.args.disk.now c.walk_list.new.disk (λ was. (base : ℕ) × HasBegunWalk g.D.Disk c.args.walk.now c.args.disk.now was base c.args.head.now) e) c.in_err-walk_list.field-0.0
    (err_from_is_err_and c.from_residual.result c.from_residual.ensures.1)
    (stops_by g.D.Disk c.args.disk.now c.args.disk.now c.walk_list.new.disk (SaysList g.D.Disk c.args.walk.now c.args.disk.now 0 c.args.head.now.catalog c.args.head.now.catalog_length)
    (λ was. (base : ℕ) × HasBegunWalk g.D.Disk c.args.walk.now c.args.disk.now was base c.args.head.now) c.in_err-walk_list.field-0.0 (omega arith) (catalog_chain g.D.Disk c.args.walk.now c.args.disk.now c.args.head.now) c.in_err-walk_list.ensures.refused)

pub returns-clause-refused : goal.returns-clause-refused
returns-clause-refused g c =
    subst (λ (e : Stop). StopsWalk g.D.Disk c.args.disk.now c.walk_list.new.disk (λ was. (base : ℕ) × HasBegunWalk g.D.Disk c.args.walk.now c.args.disk.now was base c.args.head.now) e) (sym c.broken.ensures)
    (λ was is.
    let h = c.in_ok-walk_list.ensures.ok was is.0 is.1.free [] [] is.1.come in
    no_catalog (replay was) c.args.head.now is.1.free h.0 c.as_slice.result.now is.1.header is.1.whole h.1 (c.as_slice.ensures ∙ h.2 ∙ ap (λ (l : List ℕ). l ++ content_of h.0) c.new-bytes.ensures) (subst (λ (o : Option Contents). MatchOption o ((x : Contents) → IsCatalog c.as_slice.result.now x → ⊥) (λ x. IsCatalog c.as_slice.result.now x)) c.in-None.is c.in_ok-found.ensures))

pub returns-in-Some-clause-ok : goal.returns-in-Some-clause-ok
returns-in-Some-clause-ok g c = λ was base is.
    let h = c.in_ok-walk_list.ensures.ok was base is.free [] [] is.come in
    let same : c.as_slice.result.now ≡ content_of h.0 = c.as_slice.ensures ∙ h.2 ∙ ap (λ (l : List ℕ). l ++ content_of h.0) c.new-bytes.ensures in
    begin_tour g.D.Disk c.walk_list.new.walk c.walk_list.new.disk was base c.args.head.now is.free h.0 c.in-Some.catalog is.header is.whole h.1 (subst (λ (b : List ℕ). IsCatalog b c.in-Some.catalog) same (subst (λ (o : Option Contents). MatchOption o ((x : Contents) → IsCatalog c.as_slice.result.now x → ⊥) (λ x. IsCatalog c.as_slice.result.now x)) c.in-Some.is c.in_ok-found.ensures)) h.3
