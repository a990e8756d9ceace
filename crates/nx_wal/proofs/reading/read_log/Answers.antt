use Rattle.std.proofs.Common.{◌≡◌, ℕ, ◌+◌, ◌*◌, ◌^◌, ◌<◌, ◌≤◌, length, drop, arith, sym, ap, subst, ◌∙◌}
use Rattle.nx_replay.specs.Log.{entries_in}
use Rattle.nx_wal.specs.Reading.{page_numbers}
use Rattle.nx_wal.specs.Places.{Notes}
use Rattle.nx_host.proofs.DiskLemmas.{none_still, still_then}
use Rattle.nx_replay.proofs.SettledLemmas.{told_still}
use Rattle.nx_wal.proofs.ReadingLemmas.{none_within, nothing_read, no_rise, group_there, read_more, read_whole}
use Rattle.nx_wal.proofs.reading.read_log.Goals as goal

pub loop-head-init : goal.loop-head-init
loop-head-init g c = record {
  low = omega arith;
  still = none_still;
  reads = (0, omega arith, omega arith);
  so_far = λ was told limit_is. nothing_read c.args.places.now c.args.starts.now.items was.log c.requires.none c.requires.none_begun;
  within = none_within 0 c.args.places.now c.requires.none;
}

pub returns-then-head-eq0-clause-read : goal.returns-then-head-eq0-clause-read
returns-then-head-eq0-clause-read g c was told limit_is =
    let so_far = c.loop-head.invariant in
    let head = c.in-Ok.ensures.head was (told_still was so_far.still told) limit_is in
    read_whole c.loop-head.places c.loop-head.starts.items c.loop-head.at c.in-Ok.head was.log (so_far.so_far was told limit_is) (head.none c.if-head-eq0.true) head so_far.within

pub returns-then-not-rises-clause-read : goal.returns-then-not-rises-clause-read
returns-then-not-rises-clause-read g c was told limit_is =
    let so_far = c.loop-head.invariant in
    let count = c.in-Ok.head.count in
    let some : 0 < count = omega (arith, c.if-head-eq0.false) in
    let room : c.loop-head.at + 13 + 8196 * count < c.args.limit = c.in-Ok.ensures.room some in
    let told_here = told_still was so_far.still told in
    let head = c.in-Ok.ensures.head was told_here limit_is in
    let falls = c.in_ok-rises.ensures.rise was (told_still was c.read_head.ensures.still told_here) (omega (arith, room, limit_is)) in
    read_whole c.loop-head.places c.loop-head.starts.items c.loop-head.at c.in-Ok.head was.log (so_far.so_far was told limit_is)
    (no_rise c.loop-head.at count was.log (head.some some) (omega (arith, room, c.requires.limit)) (sym c.if-not-rises.true ∙ falls)) head so_far.within

pub note_pages-requires : goal.note_pages-requires
note_pages-requires g c =
    let count = c.in-Ok.head.count in
    let some : 0 < count = omega (arith, c.if-head-eq0.false) in
    let room : c.loop-head.at + 13 + 8196 * count < c.args.limit = c.in-Ok.ensures.room some in
    let long : length c.deref.result.now ≡ count = ap length c.deref.ensures.value ∙ c.in_ok-rises.ensures.long c.if-not-rises.false in
    omega (arith, room, long, c.requires.limit)

pub loop-head-preserved : goal.loop-head-preserved
loop-head-preserved g c =
    let so_far = c.loop-head.invariant in
    let count = c.in-Ok.head.count in
    let some : 0 < count = omega (arith, c.if-head-eq0.false) in
    let room : c.loop-head.at + 13 + 8196 * count < c.args.limit = c.in-Ok.ensures.room some in
    let reads = so_far.reads in
    let numbers = c.deref.result.now in
    let long : length numbers ≡ count = ap length c.deref.ensures.value ∙ c.in_ok-rises.ensures.long c.if-not-rises.false in
    record {
      low = omega (arith, room);
      still = still_then (still_then so_far.still c.read_head.ensures.still) c.read_numbers.ensures.still;
      reads = (reads.0 + count, omega (arith, reads.1), omega (arith, some, reads.2, c.read_head.ensures.reads, c.read_numbers.ensures.reads));
      so_far = λ was told limit_is.
          let told_here = told_still was so_far.still told in
          let told_head = told_still was c.read_head.ensures.still told_here in
          let head = c.in-Ok.ensures.head was told_here limit_is in
          let fits : c.loop-head.at + 13 + 8196 * count ≤ length was.log = omega (arith, room, limit_is) in
          let rises = c.in_ok-rises.ensures.rise was told_head fits in
          let bytes = drop (c.loop-head.at + 13) was.log in
          let same : numbers ≡ page_numbers (entries_in count bytes) = c.deref.ensures.value ∙ c.in_ok-rises.ensures.numbers c.if-not-rises.false was told_head fits in
          let notes = c.in_ok-note_pages.ensures.notes was.log (same ∙ ap (λ (n : ℕ). page_numbers (entries_in n bytes)) (sym long)) in
          let low : c.loop-head.at + 13 + 8196 * count < 2 ^ 63 = omega (arith, room, c.requires.limit) in
          read_more c.loop-head.at count was.log (head.some some) low (group_there c.loop-head.at count was.log (head.some some) low some (sym c.if-not-rises.false ∙ rises))
          (so_far.so_far was told limit_is) (subst (λ (n : ℕ). Notes (entries_in n bytes) was.log c.loop-head.places c.note_pages.new.places) long notes) c.in-Ok-push.ensures.items;
      within = c.in_ok-note_pages.ensures.within (c.loop-head.at + (13 + 8196 * count)) (omega (arith, long)) (λ p at is. let low = so_far.within p at is in omega (arith, low));
    }
