-- How time goes on for a host that stops telling once its room is used up.
use Rattle.std.proofs.Common.{◌≡◌, inl, inr, ℕ, Bool, true, false, List, ◌∷◌, Option, None, Some, sym, subst, arith}
use Rattle.std.specs.Prelude.{IfSome}
use Rattle.nx_host.specs.Disk.{Keeps}
use Rattle.nx_host.specs.Host.{AppendsPrefix}
use Rattle.nx_host.specs.Time.{Stood, Elapses}
use Rattle.nx_memory.specs.declared.history.Change.{Change}
use Rattle.nx_memory.specs.History.{Present, before, MayLeave, StandsNow}
use Rattle.nx_memory.specs.Quiet.{told_of, moment_at, QuietSince}
use Rattle.nx_memory.proofs.HistoryLemmas.{Moments, changed}

-- Whether the room is used up, and the moments.
abbrev pub QuietMoments : Type 0
QuietMoments = Bool × Moments

abbrev pub moment_in : QuietMoments → ℕ
moment_in d = moment_at d.0 d.1.0

abbrev pub since_in : QuietMoments → ℕ → Stood → Type 0
since_in d = QuietSince d.0 d.1.0 d.1.1

-- one change more
pub quiet_changed : {P : Stood → Type 0} (change : Change) {full : Bool} {earlier later : List Change} {was now : Present} → full ≡ false →
    later ≡ change ∷ earlier → before change now ≡ was → ((s : Stood) → StandsNow later now s → P s) → Elapses moment_in since_in (full, (earlier, was)) (full, (later, now)) P
quiet_changed {P = P} change {earlier = earlier} {later = later} {was = was} {now = now} is one_more undone adds =
    let time = changed change one_more undone adds in
    let here : Elapses moment_in since_in (false, (earlier, was)) (false, (later, now)) P = record { later = time.later; nothing_else = time.nothing_else; keeps = time.keeps } in
    subst (λ (b : Bool). Elapses moment_in since_in (b, (earlier, was)) (b, (later, now)) P) (sym is) here

-- the room is used up
pub used_up : {P : Stood → Type 0} {full : Bool} {earlier later : List Change} {was now : Present} → full ≡ false → later ≡ earlier → now ≡ was →
    ((s : Stood) → s.output ≡ None → MayLeave earlier was s.image → P s) → Elapses moment_in since_in (full, (earlier, was)) (true, (later, now)) P
used_up {P = P} {full = full} {earlier = earlier} {later = later} {was = was} {now = now} is same_changes same adds =
    let here : Elapses moment_in since_in (false, (earlier, was)) (true, (earlier, was)) P =
    record {
      later = omega arith;
      nothing_else = λ t s le since. elim since [ inl none ↦ inr (adds s none.0 none.1) | inr there ↦ inl there.1 ];
      keeps = λ t s le since. inr (le, since);
    } in
    let from = subst (λ (b : Bool). Elapses moment_in since_in (b, (earlier, was)) (true, (earlier, was)) P) (sym is) here in
    let longer = subst (λ (l : List Change). Elapses moment_in since_in (full, (earlier, was)) (true, (l, was)) P) (sym same_changes) from in
    subst (λ (p : Present). Elapses moment_in since_in (full, (earlier, was)) (true, (later, p)) P) (sym same) longer

-- What is told of what.

pub if_told : {T : Type 0} (Q : T → Type 0) (full : Bool) (x : T) → Q x → IfSome (told_of full x) Q
if_told Q true x here = tt
if_told Q false x here = here

pub still_told : {full : Bool} (x : List ℕ) (seen : Option (List ℕ)) → full ≡ false → Keeps (Some x) seen → Keeps (told_of full x) seen
still_told x seen is keeps = subst (λ (b : Bool). Keeps (told_of b x) seen) (sym is) keeps

pub still_longer : {full : Bool} (x bytes : List ℕ) (seen : Option (List ℕ)) → full ≡ false → AppendsPrefix bytes (Some x) seen → AppendsPrefix bytes (told_of full x) seen
still_longer x bytes seen is appends = subst (λ (b : Bool). AppendsPrefix bytes (told_of b x) seen) (sym is) appends

pub none_told : (was seen : Option (List ℕ)) → seen ≡ None → Keeps was seen
none_told was seen none = subst (λ (o : Option (List ℕ)). Keeps was o) (sym none) tt
