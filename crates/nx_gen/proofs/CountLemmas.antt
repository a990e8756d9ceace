-- How many commands there are, and the last of them.
use Rattle.std.proofs.Common.{ℕ, zero, suc, ◌+◌, ◌*◌, ◌≤◌, ◌≡◌, ◌==◌, Bool, true, false, if◌then◌else◌, List, [], ◌∷◌, ◌++◌, length, refl, arith, length-append}
use Rattle.nx_script.specs.declared.command.Command.{Command}
use Rattle.nx_script.specs.declared.command.Command.TheVariants.{Load, Export, Insert, Delete, Retext, Get}
use Rattle.nx_script.specs.declared.command.LoadBody.TheVariants as load
use Rattle.nx_script.specs.declared.command.LineBody.TheVariants as line
use Rattle.nx_script.specs.declared.command.TextBody.TheVariants as content
use Rattle.nx_pyx.specs.Event.{text_node}
use Rattle.nx_gen.specs.Draws.{drawn_below, drawn_text, next_state}
use Rattle.nx_gen.specs.Commands.{after_commands, after_texts, all_drawn, commands, document, drawn_commands, gen_name, instruction_node, kind_commands, second_in}

one_or_two : (b : Bool) (x y : List Command) → length x ≤ 2 → length y ≤ 2 → length (if b then x else y) ≤ 2
one_or_two true x y few also = few
one_or_two false x y few also = also

kind_few : (element kind : ℕ) (text : List ℕ) → length (kind_commands element kind text) ≤ 2
kind_few element kind text =
    let path = second_in element in
    let insert : List Command = Insert gen_name path (line.Read (instruction_node text)) ∷ Delete gen_name path ∷ [] in
    let get : List Command = Get gen_name (0 ∷ element ∷ []) ∷ [] in
    let add : List Command = Insert gen_name path (line.Read (text_node text)) ∷ [] in
    let other : List Command = if kind == 2 then get else insert in
    one_or_two (kind == 0) (Retext gen_name path (content.Read text) ∷ []) (if kind == 1 then add else other) (omega arith)
    (one_or_two (kind == 1) add other (omega arith) (one_or_two (kind == 2) get insert (omega arith) (omega arith)))

all_few : (n many state : ℕ) → length (all_drawn n many state) ≤ 2 * many
all_few n zero state = omega arith
all_few n (suc many) state =
    let both : length (drawn_commands n state ++ all_drawn n many (after_commands state)) ≡ length (drawn_commands n state) + length (all_drawn n many (after_commands state)) =
    length-append (drawn_commands n state) (all_drawn n many (after_commands state))
    in
    let few : length (drawn_commands n state) ≤ 2 = kind_few (drawn_below n state) (drawn_below 4 (next_state state)) (drawn_text (next_state (next_state state))) in
    let others : length (all_drawn n many (after_commands state)) ≤ 2 * many = all_few n many (after_commands state) in
    omega (arith, both, few, others)

-- a load, one or two for each element, and an export
pub few_commands : (seed n : ℕ) → length (commands seed n) ≤ 2 * n + 2
few_commands seed n =
    let both : length (all_drawn n n (after_texts n seed) ++ Export gen_name ∷ []) ≡ length (all_drawn n n (after_texts n seed)) + 1 = length-append (all_drawn n n (after_texts n seed)) (Export gen_name ∷ []) in
    let few : length (all_drawn n n (after_texts n seed)) ≤ 2 * n = all_few n n (after_texts n seed) in
    omega (arith, both, few)

-- the last one is an export
pub export_last : (seed n : ℕ) → (before : List Command) × (commands seed n ≡ before ++ Export gen_name ∷ [])
export_last seed n = (Load gen_name (load.Read (document n seed)) ∷ all_drawn n n (after_texts n seed), refl)
