use Rattle.std.proofs.Common.{◌<◌, arith}
use Rattle.std.proofs.lemmas.Result.{err_from_is_err_and}
use Rattle.nx_weights.specs.Weight.{longest_near}
use Rattle.nx_piece.specs.PieceNode.{content_length}
use Rattle.nx_piece.specs.Flat.{seen_node}
use Rattle.nx_nav.proofs.EarlyLemmas.{IsNearing, later_near, left_still}
use Rattle.nx_nav.proofs.WayLemmas.{IsTeller}
use Rattle.nx_nav.proofs.ContentLemmas.{node_stops_at_once, short_told, long_told, long_stops, long_not_ended}
use Rattle.nx_nav.proofs.telling_content.begin_node.Given.{Over}
use Rattle.nx_nav.proofs.telling_content.begin_node.Goals as goal

teller : (g : Over) → IsTeller g.D.Disk g.T.Tells.Told g.T.Tells.Unwritten
teller g = record {
  asked = g.met.T.Tells.asked;
  join = g.met.T.Tells.then;
  keeps = g.met.T.Tells.keeps;
  fewer = g.met.T.Tells.fewer_images;
  faults = g.met.T.Tells.faults_later;
  unwritten = g.met.T.Tells.unwritten_later;
}

nearing : (g : Over) → IsNearing g.D.Disk g.T.Tells.Told g.T.Tells.Near
nearing g = record { grows = g.met.T.Tells.output_grows; nearer = g.met.T.Tells.near_later }

pub returns-in_err-open-clause-stops : goal.returns-in_err-open-clause-stops
returns-in_err-open-clause-stops g c =
    let p = err_from_is_err_and c.from_residual.result c.from_residual.ensures.1 in
    rw p.1 (node_stops_at_once (teller g))

pub returns-then-content_len-clause-told : goal.returns-then-content_len-clause-told
returns-then-content_len-clause-told g c =
    let len = c.content_len.ensures in
    let few = c.if-content_len.true in
    short_told g.T.Tells.Contents (teller g) c.requires.far (omega (arith, len, few)) (c.in_ok-open.ensures.told c.args.disk.now)

pub returns-in_err-head-clause-stops : goal.returns-in_err-head-clause-stops
returns-in_err-head-clause-stops g c =
    let p = err_from_is_err_and c.from_residual-in_err-head.result c.from_residual-in_err-head.ensures.1 in
    rw p.1 (node_stops_at_once (teller g))

pub returns-in_err-tell_content-clause-stops : goal.returns-in_err-tell_content-clause-stops
returns-in_err-tell_content-clause-stops g c =
    let len = c.content_len.ensures in
    let many = c.if-content_len.false in
    let long : longest_near < content_length (seen_node c.args.node) = omega (arith, len, many) in
    let p = err_from_is_err_and c.from_residual-in_err-tell_content.result c.from_residual-in_err-tell_content.ensures.1 in
    rw p.1 (long_stops g.T.Tells.Contents (teller g) long (c.in_ok-head.ensures.told c.args.disk.now) c.in_err-tell_content.ensures.stops)

pub returns-in_err-tail-clause-stops : goal.returns-in_err-tail-clause-stops
returns-in_err-tail-clause-stops g c =
    let len = c.content_len.ensures in
    let many = c.if-content_len.false in
    let long : longest_near < content_length (seen_node c.args.node) = omega (arith, len, many) in
    let p = err_from_is_err_and c.from_residual-in_err-tail.result c.from_residual-in_err-tail.ensures.1 in
    rw p.1 (long_not_ended g.T.Tells.Contents (teller g) long (c.in_ok-head.ensures.told c.args.disk.now) c.in_ok-tell_content.ensures.told)

pub returns-clause-told : goal.returns-clause-told
returns-clause-told g c =
    let len = c.content_len.ensures in
    let many = c.if-content_len.false in
    let long : longest_near < content_length (seen_node c.args.node) = omega (arith, len, many) in
    long_told g.T.Tells.Contents (teller g) long (c.in_ok-head.ensures.told c.args.disk.now) c.in_ok-tell_content.ensures.told (c.in_ok-tail.ensures c.tell_content.new.disk)

pub returns-clause-near : goal.returns-clause-near
returns-clause-near g c = λ left below begins.
    let three = c.in_ok-head.ensures.near begins in
    let content = later_near (teller g) (nearing g) (c.in_ok-tell_content.ensures.told).goes left in
    let tail = later_near (teller g) (nearing g) (c.in_ok-tail.ensures c.tell_content.new.disk) (left_still left) in
    omega (arith, three, content, tail)
