-- What a store that has ended does.
use Rattle.std.proofs.Common.{◌≡◌, true, false, Ok, Err, refl, sym, ◌∙◌}
use Rattle.std.proofs.lemmas.Bool.{false≢true}
use Rattle.nx_host.specs.declared.disk.Disk.{Ghosts}
use Rattle.nx_store.specs.declared.store.Store.{Store}
use Rattle.nx_store.specs.declared.error.EngineError.{EngineError}
use Rattle.nx_store.specs.declared.error.EngineError.TheVariants as error
use Rattle.nx_store.specs.Store.{is_ended, NotApplied, NotAnswered}
use Rattle.nx_store.specs.Laws.{EndsByFault, SaysEnded, AppliesEnded, AnswersEnded}

-- it didn't run
not_both : {A : Type 0} (store : Store) → is_ended store ≡ true → is_ended store ≡ false → A
not_both store ended runs = absurd (false≢true (sym runs ∙ ended))

module _ {D : Type 0} (d : Ghosts D) where
  pub ends_by_fault : EndsByFault d
  ends_by_fault = record { disk = λ old new before after refused. refused.1.1; damaged = λ page old new before after refused. refused.0.1 }

  refused_ended : {T : Type 0} (e : EngineError) (old new : Store) (before after : D) → NotApplied d e old new before after → is_ended old ≡ true → SaysEnded {T = T} (Err e) new before after
  refused_ended error.Disk old new before after refused ended = not_both old ended refused.1.0
  refused_ended (error.Damaged page) old new before after refused ended = not_both old ended refused.0.0
  refused_ended error.Ended old new before after (had, leaves, same) ended = (refl, (leaves.records).ended_stays ∙ had, same)
  refused_ended error.Memory old new before after refused ended = not_both old ended refused.0
  refused_ended error.Exists old new before after refused ended = absurd refused
  refused_ended error.NotAStore old new before after refused ended = absurd refused
  refused_ended error.Write old new before after refused ended = absurd refused

  pub applies_ended : AppliesEnded d
  applies_ended (Ok reply) old new before after runs refused ended = not_both old ended runs.0
  applies_ended (Err e) old new before after runs refused ended = refused_ended e old new before after refused ended

  unanswered_ended : (e : EngineError) (old new : Store) (before after : D) → NotAnswered d e old new before after → is_ended old ≡ true →
      SaysEnded {T = Unit {0}} (Err e) new before after
  unanswered_ended error.Write old new before after refused ended = not_both old ended refused.1.0
  unanswered_ended error.Disk old new before after refused ended = refused_ended error.Disk old new before after refused ended
  unanswered_ended (error.Damaged page) old new before after refused ended = refused_ended (error.Damaged page) old new before after refused ended
  unanswered_ended error.Ended old new before after refused ended = refused_ended error.Ended old new before after refused ended
  unanswered_ended error.Memory old new before after refused ended = refused_ended error.Memory old new before after refused ended
  unanswered_ended error.Exists old new before after refused ended = absurd refused
  unanswered_ended error.NotAStore old new before after refused ended = absurd refused

  pub answers_ended : AnswersEnded d
  answers_ended (Ok done) old new before after runs refused ended = not_both old ended runs.0
  answers_ended (Err e) old new before after runs refused ended = unanswered_ended e old new before after refused ended
