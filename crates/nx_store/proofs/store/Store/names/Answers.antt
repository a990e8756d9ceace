use Rattle.std.proofs.Common.{◌≡◌, ◌∙◌, map, ap, rules}
use Rattle.std.specs.Map.Iter.{deref_pair}
use Rattle.std.proofs.lemmas.Map.Iter.{iter_end}
use Rattle.nx_script.specs.declared.reply.Reply.TheVariants.{Names}
use Rattle.nx_pyx.specs.DocumentName.{by_bytes}
use Rattle.nx_store.specs.Told.{line_of}
use Rattle.nx_store.proofs.ListedLemmas.{lines_more, lines_whole}
use Rattle.nx_store.proofs.store.Store.names.Goals as goal

pub loop-name-preserved : goal.loop-name-preserved
loop-name-preserved c =
    lines_more c.loop-name.yielded (c.in-Some.name, c.in-Some.entry) c.loop-name.lines c.push.new.self _ c.loop-name.invariant c.in_ok-push.ensures.ok (c.in_ok-from_slice.ensures ∙ c.as_slice.ensures.value)

pub returns-clause-ok : goal.returns-clause-ok
returns-clause-ok c =
    let whole : map deref_pair c.loop-name.yielded ≡ c.iter-name-items.result = search (rules, iter_end) in
    ap Names (c.loop-name.invariant ∙ lines_whole c.loop-name.yielded ∙ ap (λ es. map line_of (by_bytes es)) whole ∙ ap (map line_of) c.iter-name-items.ensures)
