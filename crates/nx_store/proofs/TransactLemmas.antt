-- The commands of a request, prepared one after the other.
use Rattle.std.proofs.Common.{◌≡◌, ℕ, ◌+◌, ◌<◌, List, [], ◌∷◌, ◌++◌, length, Option, None, Some, Bool, true, false, inl, inr, refl, sym, ap, ◌∙◌, subst, arith, append-nil, append_assoc}
use Rattle.std.specs.Prelude.{◌≢◌, ◌==◌, All, Contains, IsSome, Result, Ok, Err, IfOk, IfErr, codes}
use Rattle.std.specs.Bool.{MatchBool}
use Rattle.std.specs.List.{flat_map}
use Rattle.std.proofs.lemmas.Bool.{false≢true}
use Rattle.std.proofs.lemmas.Bool.Decides.{eqb_tells}
use Rattle.std.proofs.lemmas.List.{flat_map_more}
use Rattle.std.proofs.lemmas.List.Elements.{All-head, All-tail, Contains-append_left, Contains-append_right, Contains-push}
use Rattle.nx_host.specs.declared.disk.Disk.{Ghosts}
use Rattle.nx_host.specs.Still.{IsStill}
use Rattle.nx_host.proofs.DiskLemmas.{none_still, still_then}
use Rattle.nx_holdings.specs.Holdings.{Held}
use Rattle.nx_records.specs.Records.{HasChanges}
use Rattle.nx_records.specs.Refusals.{RunsOn}
use Rattle.nx_layouts.specs.Layout.{RecordPlace}
use Rattle.nx_hold.proofs.RefusalLemmas.{runs_then}
use Rattle.nx_hold.proofs.RecordsLemmas.{names_along}
use Rattle.nx_script.specs.Commands.{CanCome}
use Rattle.nx_script.specs.Reply.{reply_text}
use Rattle.nx_script.specs.declared.command.Command.{Command}
use Rattle.nx_script.specs.declared.reply.Reply.{Reply}
use Rattle.nx_script.specs.declared.reply.Reply.TheVariants.{Refused}
use Rattle.nx_script.specs.declared.reply.ReplyError.{ReplyError}
use Rattle.nx_script.specs.declared.reply.ReplyError.TheVariants.{Syntax}
use Rattle.nx_state.specs.State.{State}
use Rattle.nx_state.specs.Stands.{StoredDocument}
use Rattle.nx_steps.specs.Answers.{Refuses}
use Rattle.nx_steps.specs.Step.{may_change, Step}
use Rattle.nx_script.specs.Reply.{answered_text}
use Rattle.nx_steps.specs.Requests.{is_refused, PartStep, GoThrough, IsRefusedAt}
use Rattle.nx_store.specs.Store.{is_ended, GoesOn, HoldsOn, NotApplied, IsAt, IsNow}
use Rattle.nx_store.specs.Staying.{RecordStays}
use Rattle.nx_store.specs.Changing.{IsCarriedWithText, IsPrepared, PreparesNext, PreparesPart, NotPrepared, MakesSteps, ArePrepared, LeavesSaved, PreparesAll, NotAllPrepared}
use Rattle.nx_script.specs.declared.request.Request.TheVariants.{Single, Transaction}
use Rattle.nx_script.specs.declared.request.Answer.TheVariants.{One, All as Each, RefusedAt}
use Rattle.nx_store.specs.declared.store.Store.{Store}
use Rattle.nx_store.specs.declared.error.EngineError.{EngineError}
use Rattle.nx_store.specs.declared.error.EngineError.TheVariants as error
use Rattle.nx_store.specs.declared.transacting.Refusal.{Refusal}
use Rattle.nx_store.proofs.AtLemmas.{now_at, shows_still}
use Rattle.nx_store.proofs.CommitLemmas.{IsReady, left_saved, held_done}
use Rattle.nx_store.proofs.LogLemmas.{still_keeps, kept_spares}
use Rattle.nx_store.proofs.ReadLemmas.{unasked_holds}
use Rattle.nx_store.proofs.StayingLemmas.{held_on}
use Rattle.nx_store.proofs.KeepLemmas.{later_rose}

-- ---- steps one after the other

-- a command that may change a store steps as by itself, and any other is refused
part_step : (state : State) (k : Command) (r : Reply) (next : State) → may_change k ≡ true → Step state k r next → PartStep state k r next
part_step state k r next may step = subst (λ b. MatchBool b (Step state k r next) (Refuses state Syntax r next)) (sym may) step

pub other_part : (state : State) (k : Command) → may_change k ≡ false → PartStep state k (Refused Syntax) state
other_part state k quiet = subst (λ b. MatchBool b (Step state k (Refused Syntax) state) (Refuses state Syntax (Refused Syntax) state)) (sym quiet) (refl, refl)

-- a command of its own, as one of a transaction
module _ {D : Type 0} (d : Ghosts D) (k : Command) (may : may_change k ≡ true) (text longer : List ℕ) (s0 s1 : Store) (x0 x1 : D) where
  prepares_part : (made : Result Reply ReplyError) → PreparesNext d k made text longer s0 s1 x0 x1 → PreparesPart d k made text longer s0 s1 x0 x1
  prepares_part (Ok r) p = (may, p)
  prepares_part (Err e) p = (p.0, λ saved state at. part_step state k (Refused e) state may (p.1 saved state at))

  pub next_part : (r : Result (Result Reply ReplyError) EngineError) → IfOk r (λ made. PreparesNext d k made text longer s0 s1 x0 x1) → IfOk r (λ made. PreparesPart d k made text longer s0 s1 x0 x1)
  next_part (Ok made) p = prepares_part made p
  next_part (Err e) p = tt

-- one more
along : (done : List Command) (replies : List Reply) (state mid next : State) (k : Command) (r : Reply) → GoThrough state done replies mid → PartStep mid k r next → is_refused r ≡ false → GoThrough state (done ++ k ∷ []) (replies ++ r ∷ []) next
along [] [] state mid next k r through step taken = (next, subst (λ (s : State). PartStep s k r next) through step, taken, refl)
along (f ∷ done) (q ∷ replies) state mid next k r through step taken = (through.0, through.1, through.2, along done replies through.0 mid next k r through.3 step taken)
along [] (q ∷ replies) state mid next k r through step taken = absurd through
along (f ∷ done) [] state mid next k r through step taken = absurd through

pub one_comes : (before : List Command) (k : Command) (after : List Command) → All CanCome (before ++ k ∷ after) → CanCome k
one_comes [] k after come = All-head CanCome k after come
one_comes (f ∷ before) k after come = one_comes before k after (All-tail CanCome f (before ++ k ∷ after) come)

-- a record that stays twice stays
stays_then : (was mid now : Held) (place : RecordPlace) → RecordStays was mid place → RecordStays mid now place → RecordStays was now place
stays_then was mid now place one two = record {
  itself = two.itself ∙ one.itself;
  list = λ count chain names. two.list count chain (names_along was mid place count chain one.itself names) ∙ one.list count chain names;
}

-- ---- one after the other

-- These were prepared, behind whatever waited, and their replies are behind the text.
pub record IsPreparing {D : Type 0} (d : Ghosts D) (done : List Command) (text longer : List ℕ) (s0 s1 : Store) (x0 x1 : D) : Type 0 where
  pub still : IsStill d x0 x1
  pub runs : RunsOn s0.records s1.records
  pub changes : done ≢ [] → HasChanges s1.records
  pub replies : List Reply
  pub told : longer ≡ text ++ flat_map reply_text replies
  pub makes : (saved : Held) (state : State) (at : IsNow d s0 x0 saved state) → MakesSteps done replies at s1 x1

module _ {D : Type 0} {d : Ghosts D} where
  pub preparing_first : (s : Store) (x : D) (text : List ℕ) → is_ended s ≡ false → IsPreparing d [] text text s s x x
  preparing_first s x text running = record {
    still = none_still;
    runs = record { before = running; after = running; length_stays = refl; settings_stay = refl };
    changes = λ some. absurd (some refl);
    replies = [];
    told = sym (append-nil text);
    makes = λ saved state at. record {
      next = state;
      through = refl;
      now = at;
      beside = λ s there beside. (there, λ place among. record { itself = refl; list = λ count chain names. refl });
    };
  }

  module _ {done : List Command} {text longer : List ℕ} {s0 s1 : Store} {x0 x1 : D} (p : IsPreparing d done text longer s0 s1 x0 x1) where
    saved_on : (s2 : Store) (x2 : D) → LeavesSaved d s1 s2 x1 x2 → LeavesSaved d s0 s2 x0 x2
    saved_on s2 x2 left = record {
      runs = runs_then {r0 = s0.records} {r1 = s1.records} {r2 = s2.records} p.runs left.runs;
      saved = λ saved state at. let mid = p.makes saved state at in left.saved saved mid.next mid.now;
    }

    module _ (k : Command) (s2 : Store) (x2 : D) where
      pub preparing_then : (r : Reply) (longest : List ℕ) → IsStill d x1 x2 → PreparesPart d k (Ok r) longer longest s1 s2 x1 x2 → IsPreparing d (done ++ k ∷ []) text longest s0 s2 x0 x2
      preparing_then r longest still (may, made) = record {
        still = still_then p.still still;
        runs = runs_then {r0 = s0.records} {r1 = s1.records} {r2 = s2.records} p.runs made.runs;
        changes = λ some. made.changes;
        replies = p.replies ++ r ∷ [];
        told = made.told ∙ ap (λ (l : List ℕ). l ++ reply_text r) p.told ∙ flat_map_more reply_text text p.replies r;
        makes = λ saved state at.
            let mid = p.makes saved state at in
            let then = made.makes saved mid.next mid.now in
            record {
              next = then.next;
              through = along done p.replies state mid.next then.next k r mid.through (part_step mid.next k r then.next may then.step) made.taken;
              now = then.now;
              beside = λ s there beside.
                  let one = mid.beside s there (λ j among. beside j (Contains-append_left done (k ∷ []) j among)) in
                  let two = then.beside s one.0 (beside k (Contains-append_right done (k ∷ []) k (Contains-push [] k))) in
                  (two.0, λ place among. stays_then at.held (mid.now).held (then.now).held place (one.1 place among) (two.1 place among));
            };
      }

      -- the next one is refused
      pub preparing_refused : (commands rest : List Command) (count : ℕ) (e : ReplyError) (longest : List ℕ) → commands ≡ done ++ k ∷ rest → length done ≡ count → PreparesPart d k (Err e) longer longest s1 s2 x1 x2
          → PreparesAll d commands (Some (record { number = count + 1; error = e })) text longest s0 s2 x0 x2
      preparing_refused commands rest count e longest are counted refused = (
        saved_on s2 x2 (left_saved d s1 s2 x1 x2 refused.0),
        λ saved state at.
            let mid = p.makes saved state at in
            record {
              before = done;
              command = k;
              after = rest;
              replies = p.replies;
              reached = mid.next;
              commands_are = are;
              number_is = ap (λ n. n + 1) (sym counted);
              through = mid.through;
              refused = refused.1 saved mid.next mid.now;
            },
      )

    pub preparing_failed : (s2 : Store) (x2 : D) (e : EngineError) → NotPrepared d e s1 s2 x1 x2 → NotAllPrepared d e s0 s2 x0 x2
    preparing_failed s2 x2 error.Disk why = (later_rose (d.faults x0) (d.faults x1) (d.faults x2) (p.still).faults_later why.0, ((p.runs).before, (why.1).1))
    preparing_failed s2 x2 (error.Damaged page) why = (((p.runs).before, (why.0).1), λ saved state at. let mid = p.makes saved state at in why.1 saved mid.next mid.now)
    preparing_failed s2 x2 error.Memory why = saved_on s2 x2 (left_saved d s1 s2 x1 x2 why)
    preparing_failed s2 x2 error.Write why = absurd why
    preparing_failed s2 x2 error.Ended why = absurd why
    preparing_failed s2 x2 error.Exists why = absurd why
    preparing_failed s2 x2 error.NotAStore why = absurd why

    -- ... nor was there memory for the dot
    pub preparing_undotted : NotAllPrepared d error.Memory s0 s1 x0 x1
    preparing_undotted = record { runs = p.runs; saved = λ saved state at. let mid = p.makes saved state at in ((mid.now).stands).keeps }

    pub preparing_done : (commands : List Command) (longest : List ℕ) → commands ≡ done → longest ≡ longer ++ codes ".\n" → PreparesAll d commands None text longest s0 s1 x0 x1
    preparing_done commands longest all dot = subst (λ (ks : List Command). PreparesAll d ks None text longest s0 s1 x0 x1) (sym all) (record {
      runs = p.runs;
      changes = p.changes;
      replies = p.replies;
      told = dot ∙ ap (λ (l : List ℕ). l ++ codes ".\n") p.told ∙ append_assoc text (flat_map reply_text p.replies) (codes ".\n");
      makes = p.makes;
    })

-- ---- of which only the commit is left

module _ {D : Type 0} (d : Ghosts D) (s0 s1 : Store) (x0 x1 : D) (text longer : List ℕ) where
  pub command_ready : (k : Command) (r : Reply) → IsPrepared d k r text longer s0 s1 x0 x1 → IsReady d (Single k) (One r) s0 s1 x0 x1
  command_ready k r p = record { runs = p.runs; makes = λ state at. let made = p.makes at.held state (now_at at) in (made.next, made.step, made.now, made.stay) }

  pub all_ready : (commands : List Command) (p : ArePrepared d commands text longer s0 s1 x0 x1) → IsReady d (Transaction commands) (Each p.replies) s0 s1 x0 x1
  all_ready commands p = record {
    runs = p.runs;
    makes = λ state at.
        let made = p.makes at.held state (now_at at) in
        (made.next, made.through, made.now, λ s place there left. (made.beside s there left.0).1 place left.1);
  }

-- a list that is told to be empty has no item
pub none_long : (b : Bool) (n : ℕ) → b ≡ (n == 0) → b ≡ true → n ≡ 0
none_long b n is told = elim (eqb_tells n 0) [ inl s ↦ s.1 | inr a ↦ absurd (false≢true (sym a.0 ∙ sym is ∙ told)) ]

-- ... and one that is told to have some isn't empty
pub some_long : (commands : List Command) (b : Bool) → b ≡ (length commands == 0) → b ≡ false → commands ≢ []
some_long commands b is told none = false≢true (sym told ∙ is ∙ ap (λ (ks : List Command). length ks == 0) none)

-- a transaction without commands
module _ {D : Type 0} (d : Ghosts D) (s : Store) (x : D) where
  pub nothing_done : (commands : List Command) → commands ≡ [] → (text : List ℕ) → text ≡ codes ".\n" → (state : State) → IsAt d s x state → IsSome (d.contents x) → IsCarriedWithText d (Ok text) state (Transaction commands) s s x x
  nothing_done commands none text is state at told =
      subst (λ (ks : List Command). IsCarriedWithText d (Ok text) state (Transaction ks) s s x x) (sym none)
      (Each [], is, held_done d s s x x none_still (Transaction []) (Each []) (unasked_holds d s x) (λ same. cc) (λ goes. goes refl) state at told refl, λ refused. absurd (false≢true refused))

-- a transaction of which one command is refused, whose answer is told, or there was no memory for it
module _ {D : Type 0} (d : Ghosts D) (s0 s2 : Store) (x0 x1 : D) (still : IsStill d x0 x1) (commands : List Command) (number : ℕ) (e : ReplyError) (holds : HoldsOn d s0 s2 x0 x1) where
  pub refused_done : (r : Result (List ℕ) EngineError) → IfOk r (λ text. text ≡ answered_text (RefusedAt number e)) → IfErr r (λ x. x ≡ error.Memory) → (state : State) → IsAt d s0 x0 state → IsSome (d.contents x1) → IsRefusedAt state commands number e
      → IsCarriedWithText d r state (Transaction commands) s0 s2 x0 x1
  refused_done (Ok text) is none state at told refused =
      (RefusedAt number e, is, held_done d s0 s2 x0 x1 still (Transaction commands) (RefusedAt number e) holds (λ same. cc) (λ goes. goes) state at told (refused, refl), λ again. holds)
  refused_done (Err x) is none state at told refused =
      subst (λ (y : EngineError). IsCarriedWithText d (Err y) state (Transaction commands) s0 s2 x0 x1) (sym none) ((held_on d s0 s2 x0 x1 holds state at told, shows_still still at, kept_spares d (Transaction commands) x0 x1 (still_keeps d x0 x1 still)), λ same. holds)

  pub refused_given_up : (r : Result (List ℕ) EngineError) → GoesOn s0 s2 → IfErr r (λ x. x ≡ error.Memory) → IfErr r (λ x. NotApplied d x s0 s2 x0 x1)
  refused_given_up (Ok text) on none = tt
  refused_given_up (Err x) on none = subst (λ (y : EngineError). NotApplied d y s0 s2 x0 x1) (sym none) on
