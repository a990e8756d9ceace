-- Phases of a run, one after another.
use Rattle.std.proofs.Common.{ℕ, ◌≤◌, List, [], ◌++◌, Option, refl, ◌∙◌, subst, arith, append-nil}
use Rattle.nx_host.specs.Disk.{Keeps}
use Rattle.nx_host.specs.Host.{Appends, AppendsPrefix}
use Rattle.nx_host.specs.Time.{none_elapsed, elapsed_then, elapsed_weaker}
use Rattle.nx_host.specs.Phase.{LeavesAreas, TakesAlone, GivesAlone, TalksAlone}
use Rattle.nx_host.specs.declared.disk.Disk.{Ghosts}
use Rattle.nx_host.proofs.DiskLemmas.{keeps_self, keeps_then}
use Rattle.nx_host.proofs.OutputLemmas.{prefix_more, prefix_then, keeps_prefix}

module _ {D : Type 0} {d : Ghosts D} where
  -- before the first call
  pub none_left : {a : D} {P : Option (List ℕ) → Type 0} → LeavesAreas d a a P
  none_left {a = a} = record {
    contents_stay = keeps_self (d.contents a);
    images_stay = λ i. (λ h. h, λ h. h);
    faults_stay = refl;
    reads_stay = refl;
    in_faults_later = omega arith;
    out_faults_later = omega arith;
    time = none_elapsed;
  }

  -- one phase more, whose outputs have Q
  pub left_then : {a b c : D} {P Q : Option (List ℕ) → Type 0} → LeavesAreas d a b P → LeavesAreas d b c Q → ((output : Option (List ℕ)) → Q output → P output) →
      LeavesAreas d a c P
  left_then {a = a} {b = b} {c = c} first second weaker = record {
    contents_stay = keeps_then (d.contents a) (d.contents b) (d.contents c) first.contents_stay second.contents_stay;
    images_stay = λ i. (λ h. (first.images_stay i).0 ((second.images_stay i).0 h), λ h. (second.images_stay i).1 ((first.images_stay i).1 h));
    faults_stay = second.faults_stay ∙ first.faults_stay;
    reads_stay = second.reads_stay ∙ first.reads_stay;
    in_faults_later = let x : (d.beside a).in_faults ≤ (d.beside b).in_faults = first.in_faults_later in let y : (d.beside b).in_faults ≤ (d.beside c).in_faults = second.in_faults_later in omega (arith, x, y);
    out_faults_later = let x : (d.beside a).out_faults ≤ (d.beside b).out_faults = first.out_faults_later in let y : (d.beside b).out_faults ≤ (d.beside c).out_faults = second.out_faults_later in omega (arith, x, y);
    time = elapsed_then first.time second.time (λ s h. (weaker s.output h.0, (first.images_stay s.image).0 h.1));
  }

  -- what the outputs have may be weakened
  pub left_weaker : {a b : D} {P Q : Option (List ℕ) → Type 0} → LeavesAreas d a b Q → ((output : Option (List ℕ)) → Q output → P output) → LeavesAreas d a b P
  left_weaker first weaker = record {
    contents_stay = first.contents_stay;
    images_stay = first.images_stay;
    faults_stay = first.faults_stay;
    reads_stay = first.reads_stay;
    in_faults_later = first.in_faults_later;
    out_faults_later = first.out_faults_later;
    time = elapsed_weaker first.time (λ s h. (weaker s.output h.0, h.1));
  }

  -- before the first call for input
  pub none_taken : {a : D} → TakesAlone d a a
  none_taken = record { areas = none_left; contents_stay = refl; output_stays = refl; out_faults_stay = refl }

  -- one call for input more
  pub takes_then : {a b c : D} → TakesAlone d a b → TakesAlone d b c → TakesAlone d a c
  takes_then first second = record {
    areas = left_then first.areas second.areas (λ output h. subst (λ o. Keeps o output) first.output_stays h);
    contents_stay = second.contents_stay ∙ first.contents_stay;
    output_stays = second.output_stays ∙ first.output_stays;
    out_faults_stay = second.out_faults_stay ∙ first.out_faults_stay;
  }

  -- before the first call
  pub none_talked : {a : D} (bytes : List ℕ) → TalksAlone d bytes a a
  none_talked bytes = none_left

  -- who takes alone gives a prefix of anything
  pub takes_talks : {a b : D} (bytes : List ℕ) → TakesAlone d a b → TalksAlone d bytes a b
  takes_talks {a = a} bytes takes = left_weaker takes.areas (λ output h. keeps_prefix bytes (d.beside a).output output h)

  -- a prefix of these bytes is one of more bytes
  pub talks_prefix : {a b : D} (bytes more : List ℕ) → TalksAlone d bytes a b → TalksAlone d (bytes ++ more) a b
  talks_prefix {a = a} bytes more talks = left_weaker talks (λ output h. prefix_more bytes more (d.beside a).output output h)

  -- first some of the bytes, and then a prefix of the others
  pub talks_then : {a b c : D} (done rest : List ℕ) → Appends done (d.beside a).output (d.beside b).output → TalksAlone d (done ++ rest) a b → TalksAlone d rest b c →
      TalksAlone d (done ++ rest) a c
  talks_then {a = a} {b = b} done rest appends first second =
      left_then first second (λ output h. prefix_then done rest (d.beside a).output (d.beside b).output output appends h)

  -- before the first bytes are given
  pub none_given : {a : D} (bytes : List ℕ) → GivesAlone d bytes a a
  none_given bytes = record { areas = none_left; input_stays = refl; in_faults_stay = refl }

  -- a prefix of these bytes is one of more bytes
  pub gives_prefix : {a b : D} (bytes more : List ℕ) → GivesAlone d bytes a b → GivesAlone d (bytes ++ more) a b
  gives_prefix bytes more gives = record { areas = talks_prefix bytes more gives.areas; input_stays = gives.input_stays; in_faults_stay = gives.in_faults_stay }

  -- first some of the bytes, and then a prefix of the others
  pub gives_then : {a b c : D} (done rest : List ℕ) → Appends done (d.beside a).output (d.beside b).output → GivesAlone d (done ++ rest) a b → GivesAlone d rest b c →
      GivesAlone d (done ++ rest) a c
  gives_then done rest appends first second = record {
    areas = talks_then done rest appends first.areas second.areas;
    input_stays = second.input_stays ∙ first.input_stays;
    in_faults_stay = second.in_faults_stay ∙ first.in_faults_stay;
  }

  -- the bytes were given, and then input is asked for
  pub talks_takes : {a b c : D} (bytes : List ℕ) → Appends bytes (d.beside a).output (d.beside b).output → TalksAlone d bytes a b → TakesAlone d b c → TalksAlone d bytes a c
  talks_takes {a = a} {b = b} bytes appends first second =
      left_then first second.areas
      (λ output h. subst (λ (l : List ℕ). AppendsPrefix l (d.beside a).output output) (append-nil bytes)
      (prefix_then bytes [] (d.beside a).output (d.beside b).output output appends (keeps_prefix [] (d.beside b).output output h)))

  -- the bytes were given, and then more are
  pub talks_gives : {a b c : D} (bytes more : List ℕ) → Appends bytes (d.beside a).output (d.beside b).output → TalksAlone d bytes a b → GivesAlone d more b c →
      TalksAlone d (bytes ++ more) a c
  talks_gives bytes more appends first second = talks_then bytes more appends (talks_prefix bytes more first) second.areas
