-- What a call leaves that only reads.
use Rattle.std.proofs.Common.{◌≡◌, ℕ, List, refl, sym, ap, subst, ◌∙◌, true, false}
use Rattle.nx_host.specs.Disk.{Image}
use Rattle.nx_host.specs.declared.disk.Disk.{Ghosts}
use Rattle.nx_host.specs.Still.{IsStill}
use Rattle.nx_host.proofs.DiskLemmas.{settled_still}
use Rattle.nx_replay.specs.Log.{Entry, over, entry_pages, replay}
use Rattle.nx_wal.specs.Wal.{current}
use Rattle.nx_holdings.specs.declared.header.Header.{Header}
use Rattle.nx_holdings.specs.Holdings.{Held, HoldsBy}
use Rattle.nx_records.specs.declared.records.Records.{Records}
use Rattle.nx_records.specs.Records.{has_ended, AreKnown, LeavesRecords, IsInStepWith, StandsFor, KeepsSaved}
use Rattle.nx_records.specs.Refusals.{RunsOn, EndNow, HadEnded}

pub leaves_same : {r0 r1 : Records} → r1 ≡ r0 → LeavesRecords r0 r1
leaves_same {r0 = r0} same =
    subst (λ (r : Records). LeavesRecords r0 r) (sym same)
    (record { follows = λ log follows. follows; changes_stay = refl; saved_stays = refl; head_stays = refl; known_stay = refl; ended_stays = refl; length_stays = refl })

-- one call after the other
pub leaves_add_up : {r0 r1 r2 : Records} → LeavesRecords r0 r1 → LeavesRecords r1 r2 → LeavesRecords r0 r2
leaves_add_up one two = record {
  follows = λ log follows. two.follows log (one.follows log follows);
  changes_stay = two.changes_stay ∙ one.changes_stay;
  saved_stays = two.saved_stays ∙ one.saved_stays;
  head_stays = two.head_stays ∙ one.head_stays;
  known_stay = two.known_stay ∙ one.known_stay;
  ended_stays = two.ended_stays ∙ one.ended_stays;
  length_stays = two.length_stays ∙ one.length_stays;
}

-- Records that ran run on.
pub leaves_runs : {r0 r1 : Records} → has_ended r0 ≡ false → LeavesRecords r0 r1 → RunsOn r0 r1
leaves_runs runs leaves = record {
  before = runs;
  after = leaves.ended_stays ∙ runs;
  length_stays = leaves.length_stays;
  settings_stay = ap (λ (h : Header). h.settings) leaves.head_stays;
}

-- Records that end in a later call end in both.
pub leaves_ends : {r0 r1 r2 : Records} → LeavesRecords r0 r1 → EndNow r1 r2 → EndNow r0 r2
leaves_ends leaves ends = record {
  before = sym leaves.ended_stays ∙ ends.before;
  after = ends.after;
  length_stays = ends.length_stays ∙ leaves.length_stays;
  settings_stay = ends.settings_stay ∙ ap (λ (h : Header). h.settings) leaves.head_stays;
}

pub had_ended : {D : Type 0} {r : Records} {x : D} → has_ended r ≡ true → HadEnded r r x x
had_ended ended = (ended, leaves_same refl, refl)

module _ {D : Type 0} {d : Ghosts D} {r0 r1 : Records} {x0 x1 : D} where
  -- the disk stands in step with them as before
  pub leaves_step : {was : Image} → LeavesRecords r0 r1 → IsStill d x0 x1 → IsInStepWith d r0 x0 was → IsInStepWith d r1 x1 was
  leaves_step {was = was} leaves still step = record { settled = settled_still still step.settled; follows = leaves.follows was.log step.follows }

  -- the last commit holds what it held
  pub leaves_saved : LeavesRecords r0 r1 → IsStill d x0 x1 → KeepsSaved d r0 r1 x0 x1
  leaves_saved leaves still saved has = record {
    runs = leaves.ended_stays ∙ has.runs;
    image = has.image;
    step = leaves_step leaves still has.step;
    holds = subst (λ (h : Header). HoldsBy (replay has.image) h saved) (sym leaves.saved_stays) has.holds;
  }

  -- and the records stand for what they stood for
  pub leaves_stand : {saved now : Held} → LeavesRecords r0 r1 → IsStill d x0 x1 → StandsFor d r0 x0 saved now → StandsFor d r1 x1 saved now
  unfolding leaves_saved
  leaves_stand {saved = saved} {now = now} leaves still stands =
      let image = (stands.keeps).image in
      record {
        keeps = leaves_saved leaves still saved stands.keeps;
        holds = subst (λ (es : List Entry). HoldsBy (over (entry_pages es) (replay image)) r1.head now) (sym leaves.changes_stay)
            (subst (λ (h : Header). HoldsBy (current r0.wal image) h now) (sym leaves.head_stays) stands.holds);
        known = subst (λ (ps : List ℕ). AreKnown ps now.catalog.pages) (sym leaves.known_stay) stands.known;
      }
