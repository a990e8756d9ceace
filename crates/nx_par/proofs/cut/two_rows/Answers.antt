use Rattle.std.proofs.Common.{refl, arith}
use Rattle.nx_par.proofs.AddLemmas.{nodes_from, nodes_any}
use Rattle.nx_par.proofs.cut.two_rows.Goals as goal

pub overflow_sub-before : goal.overflow_sub-before
overflow_sub-before c =
    let is = c.last_row-at.ensures.behind in
    omega (arith, is, c.requires.nodes, nodes_from c.args.trees.now c.last_row-at.result.0)

pub workers_of-front-requires-clause-behind : goal.workers_of-front-requires-clause-behind
workers_of-front-requires-clause-behind c =
    let is = c.last_row-at.ensures.behind in
    omega (arith, is, c.requires.nodes, c.requires.few, nodes_from c.args.trees.now c.last_row-at.result.0)

pub workers_of-front-requires-clause-any : goal.workers_of-front-requires-clause-any
workers_of-front-requires-clause-any c =
    let is = c.last_row-at.ensures.behind in
    omega (arith, is, nodes_any c.args.trees.now c.last_row-at.result.0 c.last_row-at.ensures.more)

pub returns : goal.returns
returns c =
    let is = c.last_row-at.ensures.behind in
    record {
      some = c.last_row-at.ensures.some;
      more = c.last_row-at.ensures.more;
      back_nodes = is;
      all_nodes = omega (arith, is, c.requires.nodes, nodes_from c.args.trees.now c.last_row-at.result.0);
      front_workers = c.workers_of-front.ensures.front;
      back_workers = c.workers_of-front.ensures.back;
      front_first = refl;
      back_first = c.number_at.ensures;
    }
