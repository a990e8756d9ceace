use Rattle.std.proofs.Common.{◌≡◌, ℕ, ◌+◌, drop, arith, ap, ◌∙◌}
use Rattle.nx_replay.specs.Log.{entries_in, group_page_count, group_of}
use Rattle.nx_replay.proofs.SettledLemmas.{told_still}
use Rattle.nx_groups.specs.Groups.{entries}
use Rattle.nx_wal.specs.Reading.{usable}
use Rattle.nx_wal.proofs.ReadingLemmas.{reads_at}
use Rattle.nx_wal.proofs.reading.read_group.Goals as goal

pub returns-in_err-pages-clause-reads : goal.returns-in_err-pages-clause-reads
returns-in_err-pages-clause-reads g c was told stands =
    let r = reads_at c.args.at was.log stands in
    let head = c.in-Ok.ensures.head was told (let f = r.fits in omega (arith, f)) in
    let count : c.in-Ok.count ≡ group_page_count (drop c.args.at (usable was.log)) = head.1 ∙ r.count in
    let long = r.long in
    omega (arith, count, long, c.read_numbers_of.ensures.reads, c.read_pages.ensures.reads)

pub returns-clause-reads : goal.returns-clause-reads
returns-clause-reads g c was told stands =
    let r = reads_at c.args.at was.log stands in
    let head = c.in-Ok.ensures.head was told (let f = r.fits in omega (arith, f)) in
    let count : c.in-Ok.count ≡ group_page_count (drop c.args.at (usable was.log)) = head.1 ∙ r.count in
    let long = r.long in
    omega (arith, count, long, c.read_numbers_of.ensures.reads, c.read_pages.ensures.reads)

pub returns-clause-group : goal.returns-clause-group
returns-clause-group g c was told stands =
    let r = reads_at c.args.at was.log stands in
    let fits = r.fits in
    let low = r.low in
    let some = r.some in
    let head = c.in-Ok.ensures.head was told (omega (arith, fits)) in
    let count : c.in-Ok.count ≡ group_page_count (drop c.args.at (usable was.log)) = head.1 ∙ r.count in
    let at : c.min.result + 13 ≡ c.args.at + 13 = omega (arith, c.min.ensures, low, some) in
    let read = c.in_ok-pages.ensures.pages was (told_still was c.read_numbers_of.ensures.still told) (omega (arith, at, count, fits)) in
    let number : c.in-Ok.number ≡ (group_of (drop c.args.at (usable was.log))).number = head.0 ∙ r.number in
    let same : entries c.in_ok-pages.pages ≡ (group_of (drop c.args.at (usable was.log))).entries =
    read ∙ ap (λ (n : ℕ). entries_in n (drop (c.min.result + 13) was.log)) count
    ∙ ap (λ (n : ℕ). entries_in (group_page_count (drop c.args.at (usable was.log))) (drop n was.log)) at ∙ r.entries in
    λ i. record { number = number i; entries = same i }
