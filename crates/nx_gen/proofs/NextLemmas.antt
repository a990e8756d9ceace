-- What is left once a command has come.
use Rattle.std.proofs.Common.{◌≡◌, ℕ, zero, suc, ◌-◌, ◌<◌, [], ◌∷◌, ◌++◌, refl, sym, ap, ◌∙◌, arith, append_assoc, eq-eqb, ne_eqb}
use Rattle.nx_script.specs.declared.command.Command.{Command}
use Rattle.nx_script.specs.declared.command.Command.TheVariants.{Export}
use Rattle.nx_gen.specs.declared.generator.Stage.TheVariants.{Draws, Deletes}
use Rattle.nx_gen.specs.Draws.{next_state, drawn_below, drawn_text}
use Rattle.nx_gen.specs.Commands.{after_commands, after_kind, all_drawn, kind_commands, drawn_commands, gen_name}
use Rattle.nx_gen.specs.Remaining.{follow_up, remaining_at}

-- An element, a kind and a text were drawn, and this is the first command and the state.
pub record IsDrawn (n state element kind : ℕ) (command : Command) (next : ℕ) : Type 0 where
  pub commands : drawn_commands n state ≡ command ∷ follow_up element kind
  pub ends : next ≡ after_commands state

pub drawn_is : (n state element kind first second next : ℕ) (command : Command) → element ≡ drawn_below n state → first ≡ next_state state → kind ≡ drawn_below 4 first → second ≡ next_state first
    → kind_commands element kind (drawn_text second) ≡ command ∷ follow_up element kind → next ≡ after_kind kind second → IsDrawn n state element kind command next
drawn_is n state element kind first second next command e s k r c f =
    let same_kind : drawn_below 4 (next_state state) ≡ kind = ap (drawn_below 4) (sym s) ∙ sym k in
    let same_state : next_state (next_state state) ≡ second = ap next_state (sym s) ∙ sym r in
    record {
      commands =
          ap (λ x. kind_commands x (drawn_below 4 (next_state state)) (drawn_text (next_state (next_state state)))) (sym e)
          ∙ ap (λ x. kind_commands element x (drawn_text (next_state (next_state state)))) same_kind
          ∙ ap (λ x. kind_commands element kind (drawn_text x)) same_state
          ∙ c;
      ends = f ∙ ap (after_kind kind) (sym same_state) ∙ ap (λ x. after_kind x (next_state (next_state state))) (sym same_kind);
    }

-- the commands that are left begin with those that were drawn
left_after : (n many state element kind next : ℕ) (command : Command) → 0 < many → IsDrawn n state element kind command next
    → remaining_at (Draws many) n state ≡ command ∷ follow_up element kind ++ (all_drawn n (many - 1) next ++ Export gen_name ∷ [])
left_after n zero state element kind next command some d = absurd (omega arith)
left_after n (suc m) state element kind next command some d =
    let less : m ≡ suc m - 1 = omega arith in
    append_assoc (drawn_commands n state) (all_drawn n m (after_commands state)) (Export gen_name ∷ [])
    ∙ ap (λ l. l ++ (all_drawn n m (after_commands state) ++ Export gen_name ∷ [])) d.commands
    ∙ ap (λ s. command ∷ follow_up element kind ++ (all_drawn n m s ++ Export gen_name ∷ [])) (sym d.ends)
    ∙ ap (λ j. command ∷ follow_up element kind ++ (all_drawn n j next ++ Export gen_name ∷ [])) less

pub left_to_delete : (n many state element kind next : ℕ) (command : Command) → 0 < many → IsDrawn n state element kind command next → kind ≡ 3
    → remaining_at (Draws many) n state ≡ command ∷ remaining_at (Deletes element (many - 1)) n next
left_to_delete n many state element kind next command some d three =
    let t = eq-eqb kind 3 three in
    let l = left_after n many state element kind next command some d in
    rw t at l

pub left_to_draw : (n many state element kind next : ℕ) (command : Command) → 0 < many → IsDrawn n state element kind command next → (kind ≡ 3 → ⊥)
    → remaining_at (Draws many) n state ≡ command ∷ remaining_at (Draws (many - 1)) n next
left_to_draw n many state element kind next command some d other =
    let t = ne_eqb kind 3 other in
    let l = left_after n many state element kind next command some d in
    rw t at l

pub positive : (m : ℕ) → (m ≡ 0 → ⊥) → 0 < m
positive zero h = absurd (h refl)
positive (suc m) h = omega arith
