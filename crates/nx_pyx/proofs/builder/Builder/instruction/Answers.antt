use Rattle.std.proofs.Common.{refl, sym, ◌∙◌}
use Rattle.std.proofs.lemmas.Result.{on_ok_weaker, err_from_is_err_and}
use Rattle.nx_tree.specs.declared.node.Kind.TheVariants as kind
use Rattle.nx_pyx.specs.Event.{Single}
use Rattle.nx_pyx.specs.Line.{node_in}
use Rattle.nx_pyx.proofs.MakeLemmas.{roomless, instruction_fit, adds_instruction}
use Rattle.nx_pyx.proofs.builder.Builder.instruction.Goals as goal

pub returns-in_err-has_room-clause-err : goal.returns-in_err-has_room-clause-err
returns-in_err-has_room-clause-err c =
    let p = err_from_is_err_and c.from_residual.result c.from_residual.ensures.1 in
    let short = c.requires in
    rw (p.1, p.2)
    (roomless c.args.self.now c.args.self.now (Single (node_in kind.Instruction c.args.name.now c.args.content.now)) c.in_err-has_room.field-0.0 refl refl refl
    (λ a known. instruction_fit c.args.self.now a c.args.name.now c.args.content.now short (sym c.is_name.ensures ∙ c.if-not-is_name.false)) refl
    c.in_err-has_room.ensures.err)

pub returns-clause-ok : goal.returns-clause-ok
returns-clause-ok c =
    on_ok_weaker c.push.result
    (λ pushed. adds_instruction c.args.self.now _ c.push.new.self c.args.name.now c.args.content.now c.requires (sym c.is_name.ensures ∙ c.if-not-is_name.false)
    c.in_ok-has_room.ensures.ok pushed refl refl refl refl refl refl)
    c.push.ensures.ok
