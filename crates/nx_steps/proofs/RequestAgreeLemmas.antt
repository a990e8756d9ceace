-- Two steps of one request in one state leave the same but for intervals.
use Rattle.std.proofs.Common.{◌≡◌, ◌≢◌, inl, inr, ℕ, ◌+◌, Bool, true, false, List, [], ◌∷◌, ◌++◌, length, refl, sym, ap, subst, ◌∙◌, arith}
use Rattle.nx_script.specs.declared.command.Command.{Command}
use Rattle.nx_script.specs.declared.reply.Reply.{Reply}
use Rattle.nx_script.specs.declared.reply.Reply.TheVariants.{Refused}
use Rattle.nx_script.specs.declared.reply.ReplyError.{ReplyError}
use Rattle.nx_script.specs.declared.reply.ReplyError.TheVariants.{Full}
use Rattle.nx_script.specs.declared.request.Request.TheVariants.{Single, Transaction}
use Rattle.nx_script.specs.declared.request.Answer.TheVariants.{One, All, RefusedAt}
use Rattle.nx_state.specs.State.{State}
use Rattle.nx_steps.specs.Step.{trees, may_change}
use Rattle.nx_steps.specs.Requests.{is_refused, PartStep, GoThrough}
use Rattle.nx_steps.specs.Sound.{AreFeasible}
use Rattle.nx_steps.specs.RequestLaws.{RequestsAgree}
use Rattle.nx_steps.proofs.AgreeLemmas.{LookAlike, alike, steps_agree, changing_steps_agree}
use Rattle.nx_steps.proofs.RequestLemmas.{part_cases, part_feasible}

clash : (b : Bool) → b ≡ true → b ≡ false → ⊥
clash true e f = cc
clash false e f = cc

-- a reply that refuses nothing
kept_room : (r : Reply) → is_refused r ≡ false → r ≢ Refused Full
kept_room r kept full = let no : true ≡ false = sym (ap is_refused full) ∙ kept in cc

error_room : (error : ReplyError) → error ≢ Full → Refused error ≢ Refused Full
error_room error room same = room (let e : error ≡ Full = cc in e)

same_error : (a b : ReplyError) → Refused a ≡ Refused b → a ≡ b
same_error a b e = cc

-- a command of a transaction, in states that look alike
parts_agree : (a b : State) (command : Command) (r other_r : Reply) (next other : State) → LookAlike a b → AreFeasible a → AreFeasible b → PartStep a command r next → PartStep b command other_r other
    → r ≢ Refused Full → other_r ≢ Refused Full → (r ≡ other_r) × LookAlike next other
parts_agree a b command r other_r next other same fa fb part other_part room other_room =
    elim (part_cases a command r next part) [
      | inl x ↦ elim (part_cases b command other_r other other_part) [
        | inl y ↦ changing_steps_agree a b command r other_r next other same fa fb x.0 x.1 y.1 room other_room
        | inr y ↦ absurd (clash (may_change command) x.0 y.0)
      ]
      | inr x ↦ elim (part_cases b command other_r other other_part) [
        | inl y ↦ absurd (clash (may_change command) y.0 x.0)
        | inr y ↦ (
          x.1.0 ∙ sym y.1.0,
          record {
            trees_are = ap trees x.1.1 ∙ same.trees_are ∙ sym (ap trees y.1.1);
            rules_are = ap (λ (s : State). s.rules) x.1.1 ∙ same.rules_are ∙ sym (ap (λ (s : State). s.rules) y.1.1);
            settings_are = ap (λ (s : State). s.settings) x.1.1 ∙ same.settings_are ∙ sym (ap (λ (s : State). s.settings) y.1.1);
          },
        )
      ]
    ]

-- both are carried out
through_agree : (a b : State) (commands : List Command) (rs other_rs : List Reply) (last other : State) → LookAlike a b → AreFeasible a → AreFeasible b → GoThrough a commands rs last → GoThrough b commands other_rs other
    → (rs ≡ other_rs) × LookAlike last other
through_agree a b [] [] [] last other same fa fb x y = (refl, subst (λ (s : State). LookAlike s other) (sym x) (subst (LookAlike a) (sym y) same))
through_agree a b [] [] (r ∷ rs) last other same fa fb x y = absurd y
through_agree a b [] (r ∷ rs) other_rs last other same fa fb x y = absurd x
through_agree a b (command ∷ commands) [] other_rs last other same fa fb x y = absurd x
through_agree a b (command ∷ commands) (r ∷ rs) [] last other same fa fb x y = absurd y
through_agree a b (command ∷ commands) (r ∷ rs) (s ∷ other_rs) last other same fa fb x y =
    let first = parts_agree a b command r s x.0 y.0 same fa fb x.1 y.1 (kept_room r x.2) (kept_room s y.2) in
    let rest = through_agree x.0 y.0 commands rs other_rs last other first.1 (part_feasible a command r x.0 fa x.1) (part_feasible b command s y.0 fb y.1) x.3 y.3 in
    (ap (λ (h : Reply). h ∷ rs) first.0 ∙ ap (λ (t : List Reply). s ∷ t) rest.0, rest.1)

-- a command that is refused in the one isn't carried out in the other
never_refused : (a b : State) (command : Command) (r : Reply) (error : ReplyError) (next : State) → LookAlike a b → AreFeasible a → AreFeasible b → PartStep a command r next → is_refused r ≡ false
    → PartStep b command (Refused error) b → error ≢ Full → ⊥
never_refused a b command r error next same fa fb part kept refused room =
    let both = parts_agree a b command r (Refused error) next b same fa fb part refused (kept_room r kept) (error_room error room) in
    clash (is_refused r) (ap is_refused both.0) kept

-- one is carried out, and the other refused
through_refused : (before after : List Command) (command : Command) (a b : State) (rs before_rs : List Reply) (last reached : State) (error : ReplyError) → LookAlike a b → AreFeasible a → AreFeasible b
    → GoThrough a (before ++ command ∷ after) rs last → GoThrough b before before_rs reached → PartStep reached command (Refused error) reached → error ≢ Full → ⊥
through_refused [] after command a b [] before_rs last reached error same fa fb x y refused room = x
through_refused [] after command a b (r ∷ rs) [] last reached error same fa fb x y refused room =
    never_refused a b command r error x.0 same fa fb x.1 x.2 (subst (λ (s : State). PartStep s command (Refused error) s) y refused) room
through_refused [] after command a b (r ∷ rs) (s ∷ before_rs) last reached error same fa fb x y refused room = y
through_refused (c ∷ before) after command a b [] before_rs last reached error same fa fb x y refused room = x
through_refused (c ∷ before) after command a b (r ∷ rs) [] last reached error same fa fb x y refused room = y
through_refused (c ∷ before) after command a b (r ∷ rs) (s ∷ before_rs) last reached error same fa fb x y refused room =
    let first = parts_agree a b c r s x.0 y.0 same fa fb x.1 y.1 (kept_room r x.2) (kept_room s y.2) in
    through_refused before after command x.0 y.0 rs before_rs last reached error first.1 (part_feasible a c r x.0 fa x.1) (part_feasible b c s y.0 fb y.1) x.3 y.3 refused room

-- both are refused
refused_agree : (before other_before after other_after : List Command) (command other_command : Command) (a b : State) (rs other_rs : List Reply) (reached other : State) (error other_error : ReplyError)
    → LookAlike a b → AreFeasible a → AreFeasible b → before ++ command ∷ after ≡ other_before ++ other_command ∷ other_after
    → GoThrough a before rs reached → GoThrough b other_before other_rs other → PartStep reached command (Refused error) reached → PartStep other other_command (Refused other_error) other
    → error ≢ Full → other_error ≢ Full → (length before ≡ length other_before) × (error ≡ other_error)
refused_agree [] [] after other_after command other_command a b [] [] reached other error other_error same fa fb is x y p q room other_room =
    let one : command ≡ other_command = cc in
    let p' = subst (λ (s : State). PartStep s command (Refused error) s) x p in
    let q' = subst (λ (c : Command). PartStep b c (Refused other_error) b) (sym one) (subst (λ (s : State). PartStep s other_command (Refused other_error) s) y q) in
    let both = parts_agree a b command (Refused error) (Refused other_error) a b same fa fb p' q' (error_room error room) (error_room other_error other_room) in
    (refl, same_error error other_error both.0)
refused_agree [] other_before after other_after command other_command a b (r ∷ rs) other_rs reached other error other_error same fa fb is x y p q room other_room = absurd x
refused_agree [] [] after other_after command other_command a b [] (s ∷ other_rs) reached other error other_error same fa fb is x y p q room other_room = absurd y
refused_agree [] (d ∷ other_before) after other_after command other_command a b [] [] reached other error other_error same fa fb is x y p q room other_room = absurd y
refused_agree [] (d ∷ other_before) after other_after command other_command a b [] (s ∷ other_rs) reached other error other_error same fa fb is x y p q room other_room =
    let one : d ≡ command = cc in
    let p' = subst (λ (t : State). PartStep t command (Refused error) t) x p in
    absurd (never_refused b a command s error y.0 (turned same) fb fa (subst (λ (c : Command). PartStep b c s y.0) one y.1) y.2 p' room)
  where
    turned : LookAlike a b → LookAlike b a
    turned l = record { trees_are = sym l.trees_are; rules_are = sym l.rules_are; settings_are = sym l.settings_are }
refused_agree (c ∷ before) other_before after other_after command other_command a b [] other_rs reached other error other_error same fa fb is x y p q room other_room = absurd x
refused_agree (c ∷ before) [] after other_after command other_command a b (r ∷ rs) [] reached other error other_error same fa fb is x y p q room other_room =
    let one : c ≡ other_command = cc in
    let q' = subst (λ (t : State). PartStep t other_command (Refused other_error) t) y q in
    absurd (never_refused a b other_command r other_error x.0 same fa fb (subst (λ (k : Command). PartStep a k r x.0) one x.1) x.2 q' other_room)
refused_agree (c ∷ before) [] after other_after command other_command a b (r ∷ rs) (s ∷ other_rs) reached other error other_error same fa fb is x y p q room other_room = absurd y
refused_agree (c ∷ before) (d ∷ other_before) after other_after command other_command a b (r ∷ rs) [] reached other error other_error same fa fb is x y p q room other_room = absurd y
refused_agree (c ∷ before) (d ∷ other_before) after other_after command other_command a b (r ∷ rs) (s ∷ other_rs) reached other error other_error same fa fb is x y p q room other_room =
    let one : d ≡ c = cc in
    let rest : before ++ command ∷ after ≡ other_before ++ other_command ∷ other_after = cc in
    let step = subst (λ (k : Command). PartStep b k s y.0) one y.1 in
    let first = parts_agree a b c r s x.0 y.0 same fa fb x.1 step (kept_room r x.2) (kept_room s y.2) in
    let (as_long, one_error) = refused_agree before other_before after other_after command other_command x.0 y.0 rs other_rs reached other error other_error
    first.1 (part_feasible a c r x.0 fa x.1) (part_feasible b c s y.0 fb step) rest x.3 y.3 p q room other_room in
    (omega (arith, as_long), one_error)

pub requests_agree : RequestsAgree
requests_agree state (Single command) (One r) (One s) next other feasible x y room other_room =
    let both = steps_agree state command r s next other feasible x y room other_room in
    record { answer_is = ap (λ (q : Reply). One q) both.reply_is; trees_are = both.trees_are; rules_are = both.rules_are }
requests_agree state (Single command) (One r) (All rs) next other feasible x y room other_room = absurd y
requests_agree state (Single command) (One r) (RefusedAt m e) next other feasible x y room other_room = absurd y
requests_agree state (Single command) (All rs) answer next other feasible x y room other_room = absurd x
requests_agree state (Single command) (RefusedAt n error) answer next other feasible x y room other_room = absurd x
requests_agree state (Transaction commands) (One r) answer next other feasible x y room other_room = absurd x
requests_agree state (Transaction commands) (All rs) (One s) next other feasible x y room other_room = absurd y
requests_agree state (Transaction commands) (All rs) (All other_rs) next other feasible x y room other_room =
    let both = through_agree state state commands rs other_rs next other (alike state) feasible feasible x y in
    record { answer_is = ap (λ (l : List Reply). All l) both.0; trees_are = (both.1).trees_are; rules_are = (both.1).rules_are }
requests_agree state (Transaction commands) (All rs) (RefusedAt m e) next other feasible x y room other_room =
    let at = y.0 in
    absurd (through_refused at.before at.after at.command state state rs at.replies next at.reached e (alike state) feasible feasible
    (subst (λ (l : List Command). GoThrough state l rs next) at.commands_are x) at.through at.refused other_room)
requests_agree state (Transaction commands) (RefusedAt n error) (One s) next other feasible x y room other_room = absurd y
requests_agree state (Transaction commands) (RefusedAt n error) (All other_rs) next other feasible x y room other_room =
    let at = x.0 in
    absurd (through_refused at.before at.after at.command state state other_rs at.replies other at.reached error (alike state) feasible feasible
    (subst (λ (l : List Command). GoThrough state l other_rs other) at.commands_are y) at.through at.refused room)
requests_agree state (Transaction commands) (RefusedAt n error) (RefusedAt m e) next other feasible x y room other_room =
    let at = x.0 in
    let there = y.0 in
    let (as_long, one_error) = refused_agree at.before there.before at.after there.after at.command there.command state state at.replies there.replies at.reached there.reached error e
    (alike state) feasible feasible (sym at.commands_are ∙ there.commands_are) at.through there.through at.refused there.refused room other_room in
    let numbers : n ≡ m = at.number_is ∙ ap (λ (k : ℕ). k + 1) as_long ∙ sym there.number_is in
    record {
      answer_is = ap (λ (k : ℕ). RefusedAt k error) numbers ∙ ap (λ (q : ReplyError). RefusedAt m q) one_error;
      trees_are = ap trees (x.1 ∙ sym y.1);
      rules_are = ap (λ (s : State). s.rules) (x.1 ∙ sym y.1);
    }
