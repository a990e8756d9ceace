use Rattle.std.proofs.Common.{◌≡◌, ◌∙◌, map, ap, rules}
use Rattle.std.specs.Map.Iter.{deref_pair}
use Rattle.std.proofs.lemmas.Map.Iter.{iter_end}
use Rattle.nx_script.specs.declared.reply.Reply.TheVariants.{Names}
use Rattle.nx_engine.proofs.ListedLemmas.{lines_more, lines_whole}
use Rattle.nx_engine.proofs.plain.Plain.names.Goals as goal

pub loop-name-preserved : goal.loop-name-preserved
loop-name-preserved c =
    lines_more c.loop-name.yielded (c.in-Some.name, c.in-Some.tree) c.loop-name.lines c.push.new.self _ _ c.loop-name.invariant c.in_ok-push.ensures.ok (c.in_ok-from_slice.ensures ∙ c.as_slice.ensures.value) c.count.ensures

pub returns : goal.returns
returns c =
    let whole : map deref_pair c.loop-name.yielded ≡ c.self.inside.documents.entries = search (rules, iter_end) in
    ap Names (c.loop-name.invariant ∙ lines_whole _ c.self.inside.documents c.loop-name.yielded (record { view = c.self.view_is; are = c.self.invariant }) whole)
