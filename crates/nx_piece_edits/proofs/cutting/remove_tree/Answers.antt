use Rattle.std.proofs.Common.{◌+◌, ◌-◌, ◌++◌, List, take, drop, Some, sym, ap, ◌∙◌, subst}
use Rattle.nx_piece.specs.declared.piece.Proxy.{Proxy}
use Rattle.nx_piece.specs.Gapped.{Gapped, grown_of}
use Rattle.nx_piece_edits.specs.Taking.{IsTakenOut}
use Rattle.nx_piece_edits.proofs.LeftLemmas.{removed_is}
use Rattle.nx_piece_edits.proofs.cutting.remove_tree.Goals as goal

pub returns : goal.returns
returns c =
    let taken : IsTakenOut c.args.piece.proxies 0 c.args.member c.args.path.now c.args.piece.body.roots (Some c.in-Some.tree) c.from_vec.result =
    subst (λ (ps : List Proxy). IsTakenOut ps 0 c.args.member c.args.path.now c.args.piece.body.roots (Some c.in-Some.tree) c.from_vec.result) c.as_slice-3.ensures
    (subst (λ (f : Gapped). IsTakenOut c.as_slice-3.result.now 0 c.args.member c.args.path.now f (Some c.in-Some.tree) c.from_vec.result) c.into_vec-roots.ensures
    (subst (λ (f : Gapped). IsTakenOut c.as_slice-3.result.now 0 c.args.member c.args.path.now (grown_of c.into_vec-roots.result.items) (Some c.in-Some.tree) f) (sym c.from_vec.ensures) c.in-Some.ensures)) in
    removed_is c.args.piece c.args.member c.args.path.now c.from_vec.result c.in_ok-own.own c.in_ok-left.left c.in-Here.tree.now c.in-Some.tree c.in-Here.first c.proxies_below.result c.in-Here.ensures.0 c.in-Here.ensures.1 taken
    c.proxies_below.ensures (c.in_ok-own.ensures ∙ ap (λ (ps : List Proxy). take (c.in-Here.first + c.proxies_below.result - c.in-Here.first) (drop c.in-Here.first ps)) c.as_slice.ensures)
    (c.in_ok-left.ensures ∙ ap (λ (ps : List Proxy). take c.in-Here.first ps ++ drop (c.in-Here.first + c.proxies_below.result) ps) c.as_slice-2.ensures)
