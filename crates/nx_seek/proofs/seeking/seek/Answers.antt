use Rattle.std.proofs.Common.{arith}
use Rattle.nx_piece.proofs.LocateLemmas.{leads_out, no_child, way_ends}
use Rattle.nx_piece.proofs.WalkLemmas.{next_at}
use Rattle.nx_piece.specs.Locate.{children_of}
use Rattle.nx_seek.proofs.WayLemmas.{written_body, no_head, roots_stand, spot_begins, spot_goes_on, spot_fits, beyond, no_root_there}
use Rattle.nx_seek.proofs.seeking.seek.Goals as goal

pub returns-in_default-clause-found : goal.returns-in_default-clause-found
returns-in_default-clause-found c piece written = no_head piece c.args.nodes.now c.args.list.now written c.in_default.ensures

pub returns-in_default-child_at-clause-found : goal.returns-in_default-child_at-clause-found
returns-in_default-child_at-clause-found c piece written =
    let st = roots_stand piece c.args.nodes.now c.args.list.now c.in-Some.head c.in-Some.behind.now written c.in-Some.ensures in
    let are = c.in-Some-proxies_of.ensures piece c.args.nodes.now written c.in-Some.ensures in
    c.in_default-child_at.ensures piece.body.roots st.tail piece.proxies st.stands st.wide are st.fits

pub returns-in_default-root : goal.returns-in_default-root
returns-in_default-root c = record {
  found = λ piece written.
      let st = roots_stand piece c.args.nodes.now c.args.list.now c.in-Some.head c.in-Some.behind.now written c.in-Some.ensures in
      let are = c.in-Some-proxies_of.ensures piece c.args.nodes.now written c.in-Some.ensures in
      let body = written_body piece c.args.nodes.now c.args.list.now written in
      no_root_there piece c.args.member c.args.path.now c.in-Some-child_at.root body.valid.trees
      ((rw c.from.ensures at c.in-Some-child_at.ensures) piece.body.roots st.tail piece.proxies st.stands st.wide are st.fits) c.in_default-root.not-Tree;
  used = tt;
}

pub loop-used-init : goal.loop-used-init
loop-used-init c piece written =
    let st = roots_stand piece c.args.nodes.now c.args.list.now c.in-Some.head c.in-Some.behind.now written c.in-Some.ensures in
    let are = c.in-Some-proxies_of.ensures piece c.args.nodes.now written c.in-Some.ensures in
    let body = written_body piece c.args.nodes.now c.args.list.now written in
    spot_begins piece c.args.member c.args.path.now c.in-Some-proxies_of.proxies.now c.in-Tree.spot body.is are
    ((rw (c.from.ensures, c.in-Tree.is) at c.in-Some-child_at.ensures) piece.body.roots st.tail piece.proxies st.stands st.wide are st.fits)

pub returns-in-Some-Root-clause-found : goal.returns-in-Some-Root-clause-found
returns-in-Some-Root-clause-found c piece written =
    let at = c.loop-used.invariant piece written in
    let found = (rw c.in-Some-Root.field-0-is at c.in-Some-Root.ensures) at.tree.below (at.is).tail piece.proxies (at.is).stands (at.is).wide at.are (spot_fits at) in
    (leads_out _ c.in-Some-Root.index c.in-Some-Root.member at.way (next_at c.args.path.now c.loop-used.used 0 c.loop-used-test.true) found.0, found.1)

pub returns-in-Some-Behind-clause-found : goal.returns-in-Some-Behind-clause-found
returns-in-Some-Behind-clause-found c piece written =
    let at = c.loop-used.invariant piece written in
    let found = (rw c.in-Some-Behind.field-0-is at c.in-Some-Behind.ensures) at.tree.below (at.is).tail piece.proxies (at.is).stands (at.is).wide at.are (spot_fits at) in
    no_child _ at.way (next_at c.args.path.now c.loop-used.used 0 c.loop-used-test.true) (beyond (children_of piece.proxies c.loop-used.spot.first at.tree.below) _ c.in-Some-Behind.field-0-0 found)

pub loop-used-preserved : goal.loop-used-preserved
loop-used-preserved c piece written =
    let at = c.loop-used.invariant piece written in
    let found = (rw c.in-Some-Tree.field-0-is at c.in-Some-Tree.ensures) at.tree.below (at.is).tail piece.proxies (at.is).stands (at.is).wide at.are (spot_fits at) in
    spot_goes_on _ c.in-Some-Tree.child at (next_at c.args.path.now c.loop-used.used 0 c.loop-used-test.true) found

pub returns-clause-found : goal.returns-clause-found
returns-clause-found c piece written =
    let at = c.loop-used.invariant piece written in (
      at.tree,
      c.loop-used.spot.first,
      way_ends at.way (let end = c.loop-used-test.false in omega arith),
      (at.is).node,
      c.in-Some-children_at.ensures at.tree piece.proxies at.is at.are (spot_fits at),
    )
