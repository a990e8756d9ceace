use Rattle.std.proofs.Common.{◌≡◌, ◌≤◌, ℕ, List, length, arith, ap}
use Rattle.std.specs.Map.Iter.{deref_pair}
use Rattle.std.proofs.lemmas.Map.Views.{All-turn}
use Rattle.nx_catalog.specs.Catalog.{CanBeKept}
use Rattle.nx_catalog.proofs.InsideLemmas.{Kept, each_kept}
use Rattle.nx_catalog.proofs.NameLemmas.{name_short}
use Rattle.nx_catalog.proofs.writing.push_documents.Goals as goal

pub push_document-requires : goal.push_document-requires
push_document-requires c =
    let kept = All-turn deref_pair (λ (e : Kept). CanBeKept (e.0.items, e.1)) c.args.documents.now.entries c.loop-name.yielded c.into_iter-name-iterator.result c.loop-name.name-iterator c.next.new.self c.next.result
    (c.in-Some.name, c.in-Some.entry) (each_kept c.args.documents.now.entries c.requires.kept) c.into_iter-name-iterator.ensures.into_iter_gives.0 c.loop-name.yielded_by c.in-Some.is c.next.ensures.steps in
    let short : length c.in-Some.name.now.items ≤ 255 = name_short c.in-Some.name.now.items kept.named in
    let same : length c.as_slice.result.now ≡ length c.in-Some.name.now.items = ap (λ (l : List ℕ). length l) c.as_slice.ensures.value in
    omega (arith, short, same)
