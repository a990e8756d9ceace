use Rattle.std.proofs.Common.{◌≡◌, ◌⊎◌, ◌+◌, ◌-◌, ◌*◌, ◌<◌, ◌≤◌, ◌++◌, ◌∷◌, [], arith, sym, ap, ◌∙◌, inl, inr, drop, length, length-append, List, ℕ}
use Rattle.byteorder.specs.Endian.{big_number}
use Rattle.nx_replay.specs.Log.{entries_in}
use Rattle.nx_host.proofs.DiskLemmas.{still_then}
use Rattle.nx_replay.proofs.SettledLemmas.{told_still}
use Rattle.nx_wal.specs.Reading.{page_numbers}
use Rattle.nx_wal.proofs.ReadingLemmas.{rise_more, rise_ends, numbers_more, some_same}
use Rattle.nx_wal.proofs.reading.read_numbers.Goals as goal
use Rattle.nx_wal.proofs.reading.read_numbers.Goals.{then-number-least-via-then-number-least, then-number-least-via-else-number-least+then-number-ge-MOST_PAGES}

pub returns-then-number-least-clause-rise : goal.returns-then-number-least-clause-rise
returns-then-number-least-clause-rise g c was told fits =
    let so_far = c.loop-i.invariant in
    let more : c.loop-i.i < c.args.count = c.loop-i-test.true in
    let number : c.in-Some.number ≡ big_number 4 (drop (c.args.at + 8196 * c.loop-i.i) was.log) =
    some_same (sym c.in-Some.is ∙ c.in-Ok.ensures.number was (told_still was so_far.still told) (omega (arith, more, fits))) in
    let bad : (c.in-Some.number < c.loop-i.least) ⊎ (16777216 ≤ c.in-Some.number) =
    elim c.then-number-least.branch [ then-number-least-via-then-number-least w ↦ inl w.if-number-least.true | then-number-least-via-else-number-least+then-number-ge-MOST_PAGES w ↦ inr w.if-number-ge-MOST_PAGES.true ] in
    rise_ends c.args.at c.args.count c.loop-i.i was.log more c.loop-i.least c.in-Some.number number bad ∙ sym (so_far.rest was told fits)

pub loop-i-preserved : goal.loop-i-preserved
loop-i-preserved g c =
    let so_far = c.loop-i.invariant in
    let more : c.loop-i.i < c.args.count = c.loop-i-test.true in
    let pushed = c.in-Ok-push.ensures.items in
    record {
      still = still_then so_far.still c.read_number.ensures.still;
      reads = omega (arith, so_far.reads, c.read_number.ensures.reads);
      low = omega arith;
      long = ap length pushed ∙ length-append c.loop-i.numbers.items (c.in-Some.number ∷ []) ∙ omega (arith, so_far.long);
      rest = λ was told fits.
          let number : c.in-Some.number ≡ big_number 4 (drop (c.args.at + 8196 * c.loop-i.i) was.log) =
          some_same (sym c.in-Some.is ∙ c.in-Ok.ensures.number was (told_still was so_far.still told) (omega (arith, more, fits))) in
          so_far.rest was told fits ∙ rise_more c.args.at c.args.count c.loop-i.i was.log more c.loop-i.least c.in-Some.number number c.if-number-least.false c.if-number-ge-MOST_PAGES.false;
      numbers = λ was told fits.
          let number : c.in-Some.number ≡ big_number 4 (drop (c.args.at + 8196 * c.loop-i.i) was.log) =
          some_same (sym c.in-Some.is ∙ c.in-Ok.ensures.number was (told_still was so_far.still told) (omega (arith, more, fits))) in
          so_far.numbers was told fits ∙ numbers_more c.args.at c.args.count c.loop-i.i c.in-Some.number was.log c.loop-i.numbers.items more number
          ∙ ap (λ (xs : List ℕ). xs ++ page_numbers (entries_in (c.args.count - (c.loop-i.i + 1)) (drop (c.args.at + 8196 * (c.loop-i.i + 1)) was.log))) (sym pushed);
    }
