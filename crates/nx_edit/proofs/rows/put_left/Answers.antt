use Rattle.std.proofs.Common.{◌≡◌, Option, None, Some, sym, ap, subst}
use Rattle.std.specs.Option.{option_to_list}
use Rattle.nx_piece.specs.declared.piece.Body.{Body}
use Rattle.nx_piece.specs.declared.piece.Proxy.{Proxy}
use Rattle.nx_piece.specs.Valid.{HaveRoots}
use Rattle.nx_edit.specs.Rows.{with_left}
use Rattle.nx_edit.proofs.PassedLemmas.{piece_same}
use Rattle.nx_edit.proofs.RowCalls.{valid_piece}
use Rattle.nx_edit.proofs.rows.put_left.Goals as goal

pub remove_proxy-requires-clause-piece : goal.remove_proxy-requires-clause-piece
remove_proxy-requires-clause-piece c = valid_piece c.args.piece c.requires.valid

pub returns-in-Some-clause-same : goal.returns-in-Some-clause-same
returns-in-Some-clause-same c =
    subst (λ (o : Option Proxy). c.replace_proxy.result ≡ with_left c.args.index o c.args.piece) (sym c.in-Some.is)
    (piece_same c.replace_proxy.result (with_left c.args.index (Some c.in-Some.proxy) c.args.piece) (ap (λ (b : Body). b.roots) (c.replace_proxy.ensures).body) (c.replace_proxy.ensures).proxies)

pub returns-in-Some-clause-valid : goal.returns-in-Some-clause-valid
returns-in-Some-clause-valid c =
    let ranged : HaveRoots (option_to_list (Some c.in-Some.proxy)) = subst (λ (o : Option Proxy). HaveRoots (option_to_list o)) c.in-Some.is c.requires.ranged in
    (c.replace_proxy.ensures).valid c.requires.valid ranged.0 ranged.1

pub returns-in-None-clause-same : goal.returns-in-None-clause-same
returns-in-None-clause-same c =
    subst (λ (o : Option Proxy). c.remove_proxy.result ≡ with_left c.args.index o c.args.piece) (sym c.in-None.is)
    (piece_same c.remove_proxy.result (with_left c.args.index None c.args.piece) (c.remove_proxy.ensures).body (c.remove_proxy.ensures).proxies)

pub returns-in-None-clause-valid : goal.returns-in-None-clause-valid
returns-in-None-clause-valid c = (c.remove_proxy.ensures).valid c.requires.valid
