use Rattle.std.proofs.Common.{◌≡◌, ◌+◌, ◌-◌, ◌*◌, ◌<◌, ◌≤◌, arith, ap, ◌∙◌, drop, length, get_or, List, ℕ}
use Rattle.std.proofs.lemmas.List.{drop-drop}
use Rattle.byteorder.specs.Endian.{big_number}
use Rattle.nx_wal.proofs.ReadingLemmas.{note_before, within_more, number_in}
use Rattle.nx_wal.proofs.reading.note_pages.Goals as goal

pub loop-left-preserved : goal.loop-left-preserved
loop-left-preserved c =
    let so_far = c.loop-left.invariant in
    let more : 0 < c.loop-left.left = c.loop-left-test.true in
    let few : c.loop-left.left ≤ length c.args.numbers.now = so_far.few in
    let updates = c.in-Ok.ensures.updates in
    let number = get_or c.args.numbers.now (c.loop-left.left - 1) 0 in
    record {
      few = omega (arith, few);
      notes = λ log same.
          let is : number ≡ big_number 4 (drop (c.args.at + 8196 * (c.loop-left.left - 1)) log) =
          ap (λ (xs : List ℕ). get_or xs (c.loop-left.left - 1) 0) same ∙ number_in (length c.args.numbers.now) (c.loop-left.left - 1) (drop c.args.at log) (omega (arith, more, few))
          ∙ ap (λ (x : List ℕ). big_number 4 x) (drop-drop (8196 * (c.loop-left.left - 1)) c.args.at log) in
          note_before c.args.at (length c.args.numbers.now) c.loop-left.left number log c.args.places.now c.loop-left.places c.insert.new.self more few is updates.0 (so_far.notes log same);
      within = λ limit fits first.
          within_more limit number (c.args.at + 8196 * (c.loop-left.left - 1) + 4) c.loop-left.places c.insert.new.self (omega (arith, more, few, fits)) updates.0 (so_far.within limit fits first);
    }
