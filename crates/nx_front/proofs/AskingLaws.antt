-- What holds of replies to questions of a script, apart from the code; and how a run of them ends where all is well.
use Rattle.std.proofs.Common.{◌≡◌, ◌⊎◌, inl, inr, false, List, [], ◌∷◌, map, Option, None, Some, refl, sym, ap, ap₂, ◌∙◌, subst}
use Rattle.std.specs.Option.{MatchOption}
use Rattle.std.specs.List.{AllZip, flat_map}
use Rattle.std.proofs.lemmas.Bool.{false≢true}
use Rattle.nx_host.specs.declared.disk.Disk.{Ghosts}
use Rattle.nx_script.specs.declared.command.Command.{Command}
use Rattle.nx_script.specs.declared.command.Command.TheVariants.{Load, Discard, Rename, Names, Export, Insert, Delete, Retext, Get, Layout, SetRule, Rules, Checkpoint, Begin, Commit, Bad}
use Rattle.nx_script.specs.declared.reply.Reply.{Reply}
use Rattle.nx_script.specs.declared.reply.ReplyError.{ReplyError}
use Rattle.nx_script.specs.Reply.{reply_text}
use Rattle.nx_state.specs.State.{State}
use Rattle.nx_steps.specs.Answers.{Refuses}
use Rattle.nx_steps.specs.Step.{may_need_room, FindsNoRoom}
use Rattle.nx_steps.specs.Refusal.{refusal}
use Rattle.nx_ask.specs.Asked.{Asked}
use Rattle.nx_filters.specs.declared.status.Status.{Status}
use Rattle.nx_front.specs.Serving.{CompletesServing}
use Rattle.nx_front.specs.Asking.{as_question, EndsAsking, Asks, HasOneAskedText}
use Rattle.nx_front.proofs.ServingLaws.{ends_well, finds_none}

-- a refusal, or an effect, is one reply
by_one : {E F E' F' : Type 0} (state next next' : State) (r r' : Reply) (refused : Option ReplyError) → (F → ⊥) → (F' → ⊥) → (E → E' → r ≡ r') →
    MatchOption refused (E ⊎ F) (λ error. Refuses state error r next) → MatchOption refused (E' ⊎ F') (λ error. Refuses state error r' next') → r ≡ r'
by_one state next next' r r' None none none' same (inl one) (inl other) = same one other
by_one state next next' r r' None none none' same (inl one) (inr full) = absurd (none' full)
by_one state next next' r r' None none none' same (inr full) other = absurd (none full)
by_one state next next' r r' (Some error) none none' same one other = one.0 ∙ sym other.0

-- what needs no room isn't refused for want of it
has_room : (state next : State) (command : Command) (r : Reply) → may_need_room command ≡ false → FindsNoRoom state command r next → ⊥
has_room state next command r unneeded full = false≢true (sym unneeded ∙ full.needs)

-- a question has one reply
one_reply : (state : State) (command : Command) (r r' : Reply) → Asked state command r → Asked state command r' → r ≡ r'
one_reply state Names r r' one other =
    by_one state state state r r' (refusal state Names) (has_room state state Names r refl) (has_room state state Names r' refl) (λ a b. a.0 ∙ sym b.0) one other
one_reply state (Export name) r r' one other =
    by_one state state state r r' (refusal state (Export name)) (has_room state state (Export name) r refl) (has_room state state (Export name) r' refl) (λ a b. a.0 ∙ sym b.0) one other
one_reply state (Get name path) r r' one other =
    by_one state state state r r' (refusal state (Get name path)) (has_room state state (Get name path) r refl) (has_room state state (Get name path) r' refl) (λ a b. a.0 ∙ sym b.0) one other
one_reply state (Layout name) r r' one other =
    by_one state state state r r' (refusal state (Layout name)) (has_room state state (Layout name) r refl) (has_room state state (Layout name) r' refl) (λ a b. a.0 ∙ sym b.0) one other
one_reply state Rules r r' one other =
    by_one state state state r r' (refusal state Rules) (has_room state state Rules r refl) (has_room state state Rules r' refl) (λ a b. a.0 ∙ sym b.0) one other
one_reply state Bad r r' one other = one.0 ∙ sym other.0
one_reply state (Load name body) r r' one other = one ∙ sym other
one_reply state (Discard name) r r' one other = one ∙ sym other
one_reply state (Rename old new) r r' one other = one ∙ sym other
one_reply state (Insert name path said) r r' one other = one ∙ sym other
one_reply state (Delete name path) r r' one other = one ∙ sym other
one_reply state (Retext name path said) r r' one other = one ∙ sym other
one_reply state (SetRule rule) r r' one other = one ∙ sym other
one_reply state Checkpoint r r' one other = one ∙ sym other
one_reply state (Begin bare) r r' one other = one ∙ sym other
one_reply state Commit r r' one other = one ∙ sym other

same_replies : (state : State) (commands : List Command) (rs rs' : List Reply) → AllZip (Asked state) commands rs → AllZip (Asked state) commands rs' → rs ≡ rs'
same_replies state [] [] [] one other = refl
same_replies state [] [] (r' ∷ rs') one other = absurd other
same_replies state [] (r ∷ rs) rs' one other = absurd one
same_replies state (command ∷ commands) [] rs' one other = absurd one
same_replies state (command ∷ commands) (r ∷ rs) [] one other = absurd other
same_replies state (command ∷ commands) (r ∷ rs) (r' ∷ rs') one other =
    ap₂ (λ (x : Reply) (xs : List Reply). x ∷ xs) (one_reply state command r r' one.0 other.0) (same_replies state commands rs rs' one.1 other.1)

pub one_asked_text : HasOneAskedText
one_asked_text state requests one other asked asked' =
    asked.text_is ∙ ap (flat_map reply_text) (same_replies state (map as_question requests) asked.replies asked'.replies asked.asked asked'.asked) ∙ sym asked'.text_is

module _ {D : Type 0} {d : Ghosts D} {a b : D} where
  -- how such a run ends where all is well
  pub asking_completes : (status : Status) → Asks d status a b → CompletesServing d status a b
  asking_completes status asks = record {
    store = λ was input state calm recovers.
        let from = asks.from was state calm.settled recovers in
        ends_well status was input calm asks.cause (
          λ is. subst (λ (s : Status). EndsAsking from.requests from.text from.taken s (d.beside a) (d.beside b)) is from.ends,
          λ page is. subst (λ (s : Status). EndsAsking from.requests from.text from.taken s (d.beside a) (d.beside b)) is from.ends,
        );
    no_store = λ was input calm none. finds_none status was input calm asks.cause (asks.no_header was calm.settled none).0;
  }
