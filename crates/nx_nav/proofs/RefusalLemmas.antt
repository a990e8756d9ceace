-- How refusals are handed on.
use Rattle.std.proofs.Common.{◌≡◌, ◌+◌, ◌-◌, ◌≤◌, ℕ, true, false, sym, ◌∙◌, subst, arith}
use Rattle.std.specs.Prelude.{◌^◌, min}
use Rattle.nx_host.specs.Disk.{Rose}
use Rattle.nx_host.specs.declared.disk.Disk.{Ghosts}
use Rattle.nx_records.specs.declared.records.Records.{Records}
use Rattle.nx_records.specs.Records.{has_ended, LeavesRecords}
use Rattle.nx_records.specs.Refusals.{EndNow}
use Rattle.nx_records.proofs.LeaveLemmas.{leaves_add_up, leaves_ends}
use Rattle.nx_nav.specs.declared.error.NavError.{NavError}
use Rattle.nx_nav.specs.declared.error.NavError.TheVariants as error
use Rattle.nx_nav.specs.Refusals.{IsRefused}

-- the records ended, and a page is damaged
pub is_damaged : {D : Type 0} (d : Ghosts D) (Nowhere Unwritten Lacks : Type 0) {page : ℕ} {r0 r1 r2 : Records} (x0 x1 : D) (e : NavError) → e ≡ error.Damaged page → has_ended r0 ≡ false → LeavesRecords r0 r1 → (has_ended r1 ≡ false → EndNow r1 r2) → Lacks
    → IsRefused d Nowhere Unwritten Lacks e r0 r2 x0 x1
is_damaged d Nowhere Unwritten Lacks {page} {r0} {r1} {r2} x0 x1 e is runs same ends lacks =
    subst (λ (x : NavError). IsRefused d Nowhere Unwritten Lacks x r0 r2 x0 x1) (sym is)
    (lacks, leaves_ends same (ends (same.ended_stays ∙ runs)))

-- the output wasn't written
pub is_unwritten : {D : Type 0} (d : Ghosts D) (Nowhere Unwritten Lacks : Type 0) {r0 r1 : Records} (x0 x1 : D) (e : NavError) → e ≡ error.Write → Unwritten → has_ended r0 ≡ false → LeavesRecords r0 r1
    → IsRefused d Nowhere Unwritten Lacks e r0 r1 x0 x1
is_unwritten d Nowhere Unwritten Lacks {r0} {r1} x0 x1 e is unwritten runs leaves = subst (λ (x : NavError). IsRefused d Nowhere Unwritten Lacks x r0 r1 x0 x1) (sym is) (unwritten, runs, leaves)

-- A call gave up behind others that only read. Where the records had ended before them, they left the disk alone.
module _ {D : Type 0} (d : Ghosts D) {Nowhere Unwritten Lacks : Type 0} (Nowhere' Unwritten' Lacks' : Type 0) (r0 r1 r2 : Records) (x0 x1 x2 : D) (same : LeavesRecords r0 r1) (alone : has_ended r0 ≡ true → x1 ≡ x0) (later : d.faults x0 ≤ d.faults x1)
    (nowhere : Nowhere → Nowhere') (unwritten : Unwritten → Unwritten') (lacks : Lacks → Lacks') where
  runs : has_ended r1 ≡ false → has_ended r0 ≡ false
  runs h = sym same.ended_stays ∙ h

  rose : Rose (d.faults x1) (d.faults x2) → Rose (d.faults x0) (d.faults x2)
  rose h = let h : min (d.faults x1 + 1) (2 ^ 64 - 1) ≤ d.faults x2 = h in omega (arith, h, later)

  pub refused_later : (e : NavError) → IsRefused d Nowhere Unwritten Lacks e r1 r2 x1 x2 → IsRefused d Nowhere' Unwritten' Lacks' e r0 r2 x0 x2
  refused_later error.NoNode refused = (nowhere refused.0, runs refused.1, leaves_add_up same refused.2)
  refused_later error.Disk refused = (rose refused.0, leaves_ends same refused.1)
  refused_later error.Write refused = (unwritten refused.0, runs refused.1, leaves_add_up same refused.2)
  refused_later (error.Damaged page) refused = (lacks refused.0, leaves_ends same refused.1)
  refused_later error.Ended refused =
      let had : has_ended r0 ≡ true = sym same.ended_stays ∙ refused.0 in
      (had, leaves_add_up same refused.1, refused.2 ∙ alone had)
  refused_later error.Memory refused = (runs refused.0, leaves_add_up same refused.1)

-- records that run haven't ended
pub still_runs : {A : Type 0} (r : Records) → has_ended r ≡ false → has_ended r ≡ true → A
still_runs r goes ended = absurd (cc)
