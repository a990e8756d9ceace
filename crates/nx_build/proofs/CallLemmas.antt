-- Calls that put records, one after the other.
use Rattle.std.proofs.Common.{◌≡◌, ℕ, ◌+◌, ◌≤◌, ◌<◌, false, Option, refl, arith}
use Rattle.nx_host.specs.declared.disk.Disk.{Ghosts}
use Rattle.nx_host.specs.Still.{IsStill}
use Rattle.nx_host.proofs.DiskLemmas.{none_still, still_then}
use Rattle.nx_tree.specs.declared.node.Node.{Node}
use Rattle.nx_records.specs.declared.records.Records.{Records}
use Rattle.nx_records.specs.declared.error.StoreError.{StoreError}
use Rattle.nx_records.specs.declared.error.StoreError.TheVariants as error
use Rattle.nx_records.specs.Records.{has_ended, KeepsSaved, ComesTo}
use Rattle.nx_records.specs.Refusals.{RunsOn, NotStored}
use Rattle.nx_piece.specs.PieceNode.{PieceNode}
use Rattle.nx_piece.specs.Valid.{AreFar, AreNear}
use Rattle.nx_cuts.specs.Cut.{Bare, Kept}
use Rattle.nx_layouts.specs.Layout.{RecordPlace, Layout, in_record, piece_body, piece_of}
use Rattle.nx_hold.specs.Pieces.{MayName}
use Rattle.nx_hold.specs.Contents.{content_pages, IsNodeHeld}
use Rattle.nx_hold.specs.Changes.{piece_needs, AddsPiece, ComesTidyWhere}
use Rattle.nx_records.proofs.LeaveLemmas.{leaves_same, leaves_runs, leaves_saved}
use Rattle.nx_hold.proofs.RefusalLemmas.{GoesOn, runs_then, saved_then, comes_then, later_stored}
use Rattle.nx_build.specs.Laying.{laid_needs, HasPutLayout}
use Rattle.nx_build.proofs.LayingLemmas.{IsBothOf, alone, may_name, puts_none, puts_both, puts_node, node_takes, needs_kept, puts_kept}

free_both : (was mid now a b all : ℕ) → was ≤ mid + a → mid ≤ now + b → a + b ≤ all → was ≤ now + all
free_both was mid now a b all one two most = omega (arith, one, two, most)

few_then : (was mid a more needs : ℕ) → was ≤ mid + a → mid < more → a + more ≤ needs → was < needs
few_then was mid a more needs free few most = omega (arith, free, few, most)

both_most : (a b all : ℕ) → all ≡ a + b → a + b ≤ all
both_most a b all e = omega (arith, e)

more_pages : (was now pages : ℕ) → was ≤ now + pages → was ≤ now + (pages + 0 + 0)
more_pages was now pages h = omega (arith, h)

module _ {D : Type 0} {d : Ghosts D} where
  pub laid_none : (r : Records) (x : D) → has_ended r ≡ false → HasPutLayout d r r x x Bare
  laid_none r x runs = record {
    runs = leaves_runs runs (leaves_same {r0 = r} {r1 = r} refl);
    keeps = leaves_saved {d = d} (leaves_same {r0 = r} {r1 = r} refl) none_still;
    still = none_still;
    takes = λ saved now stands. (now, stands, omega arith);
    puts = λ saved now stands tidy. (now, stands, tidy, puts_none now);
  }

  -- the records of two rows, one behind the other
  pub laid_both : {r0 r1 r2 : Records} {x0 x1 x2 : D} {a b whole : Layout} → IsBothOf a b whole → HasPutLayout d r0 r1 x0 x1 a → HasPutLayout d r1 r2 x1 x2 b → HasPutLayout d r0 r2 x0 x2 whole
  laid_both {r0} {r1} {r2} {x0} {x1} {x2} {a} {b} {whole} s one two = record {
    runs = runs_then {r0 = r0} {r1 = r1} {r2 = r2} one.runs two.runs;
    keeps = saved_then {d = d} {r0 = r0} {r1 = r1} {r2 = r2} one.keeps two.keeps;
    still = still_then one.still two.still;
    takes = comes_then {r0 = r0} {r1 = r1} {r2 = r2} (λ was now. was.free ≤ now.free + laid_needs whole) one.takes two.takes
        (λ was mid now first later. free_both was.free mid.free now.free (laid_needs a) (laid_needs b) (laid_needs whole) first later (both_most (laid_needs a) (laid_needs b) (laid_needs whole) s.needs));
    puts = λ saved was stands tidy.
        let mid = one.puts saved was stands tidy in
        let now = two.puts saved mid.0 mid.1 mid.2 in
        (now.0, now.1, now.2, puts_both s was mid.0 now.0 mid.2 mid.3 now.3);
  }

  -- a node whose content is held
  pub laid_node : {r0 r1 : Records} {x0 x1 : D} (node : Node) (made : PieceNode) (list : Option ℕ) → made ≡ in_record (record { node = node; list = list }) → RunsOn r0 r1 → KeepsSaved d r0 r1 x0 x1 → IsStill d x0 x1
      → ComesTo d r0 r1 x0 x1 (λ was now. IsNodeHeld node made was now) → HasPutLayout d r0 r1 x0 x1 (alone node list)
  laid_node node made list is runs keeps still comes = record {
    runs = runs;
    keeps = keeps;
    still = still;
    takes = λ saved was stands.
        let now = comes saved was stands in
        (now.0, now.1, more_pages was.free (now.0).free (content_pages node) (node_takes node made was now.0 now.2));
    puts = λ saved was stands tidy.
        let now = comes saved was stands in
        let puts = puts_node node made list was now.0 is tidy now.2 in
        (now.0, now.1, puts.0, puts.1);
  }

  -- the record of an interval, behind those of all below it
  pub laid_kept : {r0 r1 r2 : Records} {x0 x1 x2 : D} (place : RecordPlace) (members : Layout) → AreNear (piece_body members) → AreFar (piece_body members) → HasPutLayout d r0 r1 x0 x1 members → RunsOn r1 r2 → KeepsSaved d r1 r2 x1 x2 → IsStill d x1 x2
      → ComesTo d r1 r2 x1 x2 (λ was now. was.free ≤ now.free + piece_needs (piece_of members))
      → ComesTidyWhere d r1 r2 x1 x2 (λ was. MayName was (piece_body members)) (λ was now. AddsPiece place (piece_of members) was now) → HasPutLayout d r0 r2 x0 x2 (Kept place members Bare)
  laid_kept {r0} {r1} {r2} {x0} {x1} {x2} place members near far one runs keeps still takes adds = record {
    runs = runs_then {r0 = r0} {r1 = r1} {r2 = r2} one.runs runs;
    keeps = saved_then {d = d} {r0 = r0} {r1 = r1} {r2 = r2} one.keeps keeps;
    still = still_then one.still still;
    takes = comes_then {r0 = r0} {r1 = r1} {r2 = r2} (λ was now. was.free ≤ now.free + laid_needs (Kept place members Bare)) one.takes takes
        (λ was mid now first later. free_both was.free mid.free now.free (laid_needs members) (piece_needs (piece_of members)) (laid_needs (Kept place members Bare)) first later (needs_kept place members));
    puts = λ saved was stands tidy.
        let mid = one.puts saved was stands tidy in
        let now = adds saved mid.0 mid.1 mid.2 (may_name members was mid.0 mid.3) in
        (now.0, now.1, now.2, puts_kept place members was mid.0 now.0 mid.2 near far mid.3 now.3);
  }

  -- a call that may need so many pages gave up behind those that put records
  pub laid_refused : {r0 r1 : Records} {x0 x1 : D} (a : Layout) (r2 : Records) (x2 : D) (more needs : ℕ) → HasPutLayout d r0 r1 x0 x1 a → laid_needs a + more ≤ needs → (e : StoreError) → NotStored d (λ was. more) (λ was. ⊥) 0 e r1 r2 x1 x2
      → NotStored d (λ was. needs) (λ was. ⊥) 0 e r0 r2 x0 x2
  laid_refused {r0} {r1} {x0} {x1} a r2 x2 more needs laid most e refused =
      let goes : GoesOn d r0 r1 x0 x1 (λ was now. was.free ≤ now.free + laid_needs a) = record { runs = laid.runs; keeps = laid.keeps; still = laid.still; comes = laid.takes } in
      later_stored {d = d} {r0 = r0} {r1 = r1} {x0 = x0} {x1 = x1} goes (λ was. ⊥) (λ was. ⊥) 0 (λ was mid free bad. bad) r2 x2 (λ was. more) (λ was. needs)
      (λ was mid free few. few_then was.free mid.free (laid_needs a) more needs free few most) e refused
