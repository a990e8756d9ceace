-- Calls that put records, one after the other.
use Rattle.std.proofs.Common.{◌≡◌, ℕ, ◌+◌, ◌≤◌, ◌<◌, false, refl, arith}
use Rattle.nx_host.specs.declared.disk.Disk.{Ghosts}
use Rattle.nx_host.specs.Still.{IsStill}
use Rattle.nx_host.proofs.DiskLemmas.{none_still, still_then}
use Rattle.nx_records.specs.declared.records.Records.{Records}
use Rattle.nx_records.specs.declared.error.StoreError.{StoreError}
use Rattle.nx_records.specs.Records.{has_ended, LeavesRecords, KeepsSaved, ComesTo}
use Rattle.nx_records.specs.Refusals.{RunsOn, NotStored}
use Rattle.nx_layouts.specs.Layout.{RecordPlace, LaidNode, Layout, piece_body, piece_of}
use Rattle.nx_hold.specs.Changes.{AddsPiece}
use Rattle.nx_records.proofs.LeaveLemmas.{leaves_same, leaves_runs, leaves_saved, leaves_stand}
use Rattle.nx_hold.proofs.RefusalLemmas.{GoesOn, runs_then, saved_then, comes_then, later_stored}
use Rattle.nx_drafts.specs.Draft.{Draft, Ends, Grows, Stands, Comes, layout_after, draft_needs}
use Rattle.nx_divide.specs.Marked.{AreWritten}
use Rattle.nx_divide.specs.Putting.{PutsDraft, ArePut}
use Rattle.nx_divide.proofs.RowLemmas.{joined_draft}
use Rattle.nx_divide.proofs.PutLemmas.{puts_none, puts_stands, puts_both, puts_grows, puts_comes}

pub few_then : (was mid a more needs : ℕ) → was ≤ mid + a → mid < more → a + more ≤ needs → was < needs
few_then was mid a more needs free few most = omega (arith, free, few, most)

module _ {D : Type 0} {d : Ghosts D} where
  -- a call that only read put nothing
  pub put_read : {r0 r1 : Records} {x0 x1 : D} → has_ended r0 ≡ false → LeavesRecords r0 r1 → IsStill d x0 x1 → ArePut d r0 r1 x0 x1 Ends
  put_read runs leaves still = record {
    runs = leaves_runs runs leaves;
    keeps = leaves_saved {d = d} leaves still;
    still = still;
    puts = λ saved now stands. (now, leaves_stand {d = d} leaves still stands, puts_none now);
  }

  pub put_none : (r : Records) (x : D) → has_ended r ≡ false → ArePut d r r x x Ends
  put_none r x runs = put_read runs (leaves_same {r0 = r} {r1 = r} refl) none_still

  pub put_stands : (place : RecordPlace) (members : Layout) (r : Records) (x : D) → has_ended r ≡ false → ArePut d r r x x (Stands place members Ends)
  put_stands place members r x runs = record {
    runs = leaves_runs runs (leaves_same {r0 = r} {r1 = r} refl);
    keeps = leaves_saved {d = d} (leaves_same {r0 = r} {r1 = r} refl) none_still;
    still = none_still;
    puts = λ saved now stands. (now, stands, puts_stands place members now);
  }

  pub put_both : {r0 r1 r2 : Records} {x0 x1 x2 : D} (a b : Draft RecordPlace) → ArePut d r0 r1 x0 x1 a → ArePut d r1 r2 x1 x2 b → ArePut d r0 r2 x0 x2 (joined_draft a b)
  put_both {r0} {r1} {r2} {x0} {x1} {x2} a b one two = record {
    runs = runs_then {r0 = r0} {r1 = r1} {r2 = r2} one.runs two.runs;
    keeps = saved_then {d = d} {r0 = r0} {r1 = r1} {r2 = r2} one.keeps two.keeps;
    still = still_then one.still two.still;
    puts = comes_then {r0 = r0} {r1 = r1} {r2 = r2} (PutsDraft (joined_draft a b)) one.puts two.puts (λ was mid now first later. puts_both a b was mid now first later);
  }

  pub put_grows : {r0 r1 : Records} {x0 x1 : D} (node : LaidNode) (below : Draft RecordPlace) → ArePut d r0 r1 x0 x1 below → ArePut d r0 r1 x0 x1 (Grows node below Ends)
  put_grows node below put = record {
    runs = put.runs;
    keeps = put.keeps;
    still = put.still;
    puts = λ saved was stands. let now = put.puts saved was stands in (now.0, now.1, puts_grows node below was now.0 now.2);
  }

  pub put_comes : {r0 r1 r2 : Records} {x0 x1 x2 : D} (place : RecordPlace) (members : Draft RecordPlace) → AreWritten (piece_body (layout_after members)) → ArePut d r0 r1 x0 x1 members → RunsOn r1 r2 → KeepsSaved d r1 r2 x1 x2 → IsStill d x1 x2
      → ComesTo d r1 r2 x1 x2 (λ was now. AddsPiece place (piece_of (layout_after members)) was now) → ArePut d r0 r2 x0 x2 (Comes place members Ends)
  put_comes {r0} {r1} {r2} {x0} {x1} {x2} place members written one runs keeps still adds = record {
    runs = runs_then {r0 = r0} {r1 = r1} {r2 = r2} one.runs runs;
    keeps = saved_then {d = d} {r0 = r0} {r1 = r1} {r2 = r2} one.keeps keeps;
    still = still_then one.still still;
    puts = comes_then {r0 = r0} {r1 = r1} {r2 = r2} (PutsDraft (Comes place members Ends)) one.puts adds (λ was mid now first later. puts_comes place members was mid now written first later);
  }

  -- a call that may need so many pages gave up behind those that put records
  pub put_refused : {r0 r1 : Records} {x0 x1 : D} (a : Draft RecordPlace) (r2 : Records) (x2 : D) (more needs : ℕ) → ArePut d r0 r1 x0 x1 a → draft_needs a + more ≤ needs → (e : StoreError) → NotStored d (λ was. more) (λ was. ⊥) 0 e r1 r2 x1 x2
      → NotStored d (λ was. needs) (λ was. ⊥) 0 e r0 r2 x0 x2
  put_refused {r0} {r1} {x0} {x1} a r2 x2 more needs put most e refused =
      let goes : GoesOn d r0 r1 x0 x1 (λ was now. was.free ≤ now.free + draft_needs a) = record { runs = put.runs; keeps = put.keeps; still = put.still; comes = λ saved was stands. let now = put.puts saved was stands in (now.0, now.1, ((now.2).adds).free) } in
      later_stored {d = d} {r0 = r0} {r1 = r1} {x0 = x0} {x1 = x1} goes (λ was. ⊥) (λ was. ⊥) 0 (λ was mid free bad. bad) r2 x2 (λ was. more) (λ was. needs)
      (λ was mid free few. few_then was.free mid.free (draft_needs a) more needs free few most) e refused
