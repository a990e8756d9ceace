use Rattle.std.proofs.Common.{◌≡◌, ◌∷◌, [], ◌++◌, if◌then◌else◌, rules}
use Rattle.nx_tree.specs.Document.{is_empty}
use Rattle.nx_pyx.specs.Text.{escaped, node_line}
use Rattle.nx_pyx.proofs.PrefixLemmas.{prefix-all, prefix-first, prefix-of, prefix-rest}
use Rattle.nx_pyx.proofs.writer.push_parts_line.Goals as goal

pub returns-in_err-push_name-in-Attribute-clause-prefix : goal.returns-in_err-push_name-in-Attribute-clause-prefix
returns-in_err-push_name-in-Attribute-clause-prefix c =
    let name = c.args.name.now in
    let content = c.args.content.now in
    let line : (65 ∷ name) ++ (32 ∷ escaped content) ≡ node_line c.args.kind c.args.name.now c.args.content.now = search rules in
    prefix-of _ _ _ _ line (prefix-first _ _ (65 ∷ name) (32 ∷ escaped content) c.push_name-in-Attribute.ensures.prefix)

pub returns-in_err-push_content-in-Attribute-clause-prefix : goal.returns-in_err-push_content-in-Attribute-clause-prefix
returns-in_err-push_content-in-Attribute-clause-prefix c =
    let name = c.args.name.now in
    let content = c.args.content.now in
    let line : (65 ∷ name) ++ (32 ∷ escaped content) ≡ node_line c.args.kind c.args.name.now c.args.content.now = search rules in
    prefix-of _ _ _ _ line (prefix-rest _ _ _ (65 ∷ name) (32 ∷ escaped content) c.in_ok-push_name-in-Attribute.ensures.ok c.push_content.ensures.prefix)

pub returns-in_ok-push_content-in-Attribute-clause-prefix : goal.returns-in_ok-push_content-in-Attribute-clause-prefix
returns-in_ok-push_content-in-Attribute-clause-prefix c =
    let name = c.args.name.now in
    let content = c.args.content.now in
    let line : (65 ∷ name) ++ (32 ∷ escaped content) ≡ node_line c.args.kind c.args.name.now c.args.content.now = search rules in
    prefix-of _ _ _ _ line
    (prefix-rest _ _ _ (65 ∷ name) (32 ∷ escaped content) c.in_ok-push_name-in-Attribute.ensures.ok (prefix-all _ _ _ c.in_ok-push_content-in-Attribute.ensures.ok))

pub returns-in_err-push_name-in-Instruction-clause-prefix : goal.returns-in_err-push_name-in-Instruction-clause-prefix
returns-in_err-push_name-in-Instruction-clause-prefix c =
    let name = c.args.name.now in
    let content = c.args.content.now in
    let rest = if is_empty content then [] else 32 ∷ escaped content in
    let line : (63 ∷ name) ++ rest ≡ node_line c.args.kind c.args.name.now c.args.content.now = search rules in
    prefix-of _ _ _ _ line (prefix-first _ _ (63 ∷ name) rest c.push_name-in-Instruction.ensures.prefix)

pub returns-in_err-push_content-in-Instruction-clause-prefix : goal.returns-in_err-push_content-in-Instruction-clause-prefix
returns-in_err-push_content-in-Instruction-clause-prefix c =
    let name = c.args.name.now in
    let content = c.args.content.now in
    let line : (63 ∷ name) ++ (32 ∷ escaped content) ≡ node_line c.args.kind c.args.name.now c.args.content.now = search rules in
    prefix-of _ _ _ _ line (prefix-rest _ _ _ (63 ∷ name) (32 ∷ escaped content) c.in_ok-push_name-in-Instruction.ensures.ok c.push_content-then-not-is_empty.ensures.prefix)

pub returns-in_ok-push_content-in-Instruction-clause-prefix : goal.returns-in_ok-push_content-in-Instruction-clause-prefix
returns-in_ok-push_content-in-Instruction-clause-prefix c =
    let name = c.args.name.now in
    let content = c.args.content.now in
    let line : (63 ∷ name) ++ (32 ∷ escaped content) ≡ node_line c.args.kind c.args.name.now c.args.content.now = search rules in
    prefix-of _ _ _ _ line
    (prefix-rest _ _ _ (63 ∷ name) (32 ∷ escaped content) c.in_ok-push_name-in-Instruction.ensures.ok (prefix-all _ _ _ c.in_ok-push_content-in-Instruction.ensures.ok))

pub returns-in_ok-extend_from_slice-in-Doc-clause-prefix : goal.returns-in_ok-extend_from_slice-in-Doc-clause-prefix
returns-in_ok-extend_from_slice-in-Doc-clause-prefix c =
    let all : c.extend_from_slice.new.self ≡ c.args.block.now ++ node_line c.args.kind c.args.name.now c.args.content.now = search rules in
    prefix-all _ _ _ all
