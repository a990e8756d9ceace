use Rattle.std.proofs.Common.{refl, sym, ◌∙◌}
use Rattle.std.proofs.lemmas.Result.{on_ok_weaker, err_from_is_err_and}
use Rattle.nx_tree.specs.declared.node.Kind.TheVariants as kind
use Rattle.nx_pyx.specs.Event.{Single}
use Rattle.nx_pyx.specs.Line.{node_in}
use Rattle.nx_pyx.proofs.MakeLemmas.{roomless, attribute_fit, adds_attribute}
use Rattle.nx_pyx.proofs.builder.Builder.attribute.Goals as goal

pub returns-in_err-has_room-clause-err : goal.returns-in_err-has_room-clause-err
returns-in_err-has_room-clause-err c =
    let p = err_from_is_err_and c.from_residual-in_err-has_room.result c.from_residual-in_err-has_room.ensures.1 in
    let short = c.requires in
    let inserts = c.in_ok-insert.ensures in
    rw (p.1, p.2)
    (roomless c.args.self.now _ (Single (node_in kind.Attribute c.args.name.now c.args.content.now)) c.in_err-has_room.field-0.0 refl refl refl
    (λ a known. attribute_fit c.args.self.now c.insert.new.self a c.args.name.now c.args.content.now short (sym c.is_name.ensures ∙ c.if-not-is_name.false)
    c.if-not-self.false c.in_ok-insert.field-0 c.if-not-branch.false inserts known) refl
    c.in_err-has_room.ensures.err)

pub returns-clause-ok : goal.returns-clause-ok
returns-clause-ok c =
    on_ok_weaker c.push.result
    (λ pushed. adds_attribute c.args.self.now _ c.push.new.self c.args.name.now c.args.content.now c.requires (sym c.is_name.ensures ∙ c.if-not-is_name.false)
    c.if-not-self.false c.in_ok-insert.field-0 c.if-not-branch.false c.in_ok-insert.ensures
    c.in_ok-has_room.ensures.ok pushed refl refl refl refl refl refl)
    c.push.ensures.ok
