use Rattle.std.proofs.Common.{◌+◌, ◌-◌, Some, length, drop, arith, sym, ap, ◌∙◌, length-drop, take_all}
use Rattle.nx_pyx.proofs.FieldLemmas.{behind_space-Some, behind_space-None}
use Rattle.nx_pyx.proofs.fields.split_field.Goals as goal

pub returns-in-Some-clause-behind : goal.returns-in-Some-clause-behind
returns-in-Some-clause-behind c =
    let bytes = c.args.bytes.now in
    let end = c.in-Some.end in
    behind_space-Some bytes end (sym c.in-Some.ensures.at)
    ∙ ap Some (sym (take_all (length bytes - (end + 1)) (drop (end + 1) bytes) (omega (arith, length-drop (end + 1) bytes))))

pub returns-in-None-clause-behind : goal.returns-in-None-clause-behind
returns-in-None-clause-behind c = behind_space-None c.args.bytes.now (sym c.in-None.ensures.at)
