use Rattle.std.proofs.Common.{sym, ◌-◌, ◌≤◌, length, arith}
use Rattle.std.proofs.lemmas.List.{length-take-le}
use Rattle.nx_nav.proofs.ChildLemmas.{path_falls}
use Rattle.nx_nav.proofs.RouteLemmas.{leads_above, located_away}
use Rattle.nx_nav.proofs.routing.pass_record.Goals as goal

pub slice_bounds-node_at-count : goal.slice_bounds-node_at-count
slice_bounds-node_at-count c = (path_falls c.args.piece.now c.args.from c.args.path.now c.in-Away.index c.in-Away.member c.in-Away.used c.requires.valid (located_away c.args.piece.now _ c.in-Away.is c.requires.leads).0).0

pub slice_bounds-node_at-length : goal.slice_bounds-node_at-length
slice_bounds-node_at-length c =
    let falls = path_falls c.args.piece.now c.args.from c.args.path.now c.in-Away.index c.in-Away.member c.in-Away.used c.requires.valid (located_away c.args.piece.now _ c.in-Away.is c.requires.leads).0 in
    let few : c.in-Away.used ≤ length c.args.path.now = falls.1 in
    sym (length-take-le (c.in-Away.used - 1) c.args.path.now (omega (arith, few)))

pub node_at-requires-clause-leads : goal.node_at-requires-clause-leads
node_at-requires-clause-leads c = leads_above c.args.piece.now c.args.from c.args.path.now c.in-Away.index c.in-Away.member c.in-Away.used c.requires.valid (located_away c.args.piece.now _ c.in-Away.is c.requires.leads).0
