use Rattle.nx_wal.proofs.ReadingLemmas.{if_ok_both}
use Rattle.nx_wal.proofs.PageLemmas.{page_held, page_lacking, page_in_log, page_in_area}
use Rattle.nx_wal.proofs.pages.read_page.Goals as goal

pub returns-in-Some-clause-found : goal.returns-in-Some-clause-found
returns-in-Some-clause-found g c = if_ok_both c.read_whole.result c.read_whole.ensures.whole c.read_whole.ensures.missing (λ found whole missing was told leads within.
    let place = c.in-Some.ensures.some in
    page_in_log was c.args.page c.in-Some.at found c.read_whole.new.into.bytes (page_held was c.args.places.now c.args.page c.in-Some.at leads place) (within c.args.page c.in-Some.at place)
    (λ is. whole is was told, λ is. missing is was told))

pub returns-clause-found : goal.returns-clause-found
returns-clause-found g c = if_ok_both c.read_whole-2.result c.read_whole-2.ensures.whole c.read_whole-2.ensures.missing (λ found whole missing was told leads within.
    page_in_area was c.args.page found c.read_whole-2.new.into.bytes (page_lacking was c.args.places.now c.args.page leads c.in_default.ensures.none) c.if-page-ge-MOST_PAGES.false
    (λ is. whole is was told, λ is. missing is was told))
