use Rattle.std.proofs.Common.{◌+◌, ◌*◌, ◌<◌, arith, length, subst, Bool}
use Rattle.nx_replay.specs.Log.{IsLogEnd}
use Rattle.nx_replay.proofs.SettledLemmas.{told_still}
use Rattle.nx_wal.proofs.ReadingLemmas.{some_same}
use Rattle.nx_wal.proofs.CountLemmas.{group_page, area_page, none_there, no_page, no_area, prefix_end}
use Rattle.nx_wal.proofs.reading.shut_of_none.Goals as goal

pub returns-then-branch-clause-none : goal.returns-then-branch-clause-none
returns-then-branch-clause-none g c is was told =
    let told_limit = told_still was c.log_limit.ensures.still told in
    let told_head = told_still was c.read_head.ensures.still told_limit in
    let limit_is = c.in-Ok.ensures.limit was told in
    let head = c.in-Ok-read_head.ensures.head was told_limit limit_is in
    let has = c.in_ok-has_group.ensures.some c.if-branch.true in
    let count = c.in-Ok-read_head.head.count in
    let room : 0 + 13 + 8196 * count < c.in-Ok.limit = c.in-Ok-read_head.ensures.room has.0 in
    group_page count was (head.some has.0) (omega (arith, room, c.in-Ok.ensures.low)) has.0 (has.1 was told_head (omega (arith, room, limit_is)))

pub returns-then-count-gt0-clause-none : goal.returns-then-count-gt0-clause-none
returns-then-count-gt0-clause-none g c is was told =
    let told_limit = told_still was c.log_limit.ensures.still told in
    let told_head = told_still was c.read_head.ensures.still told_limit in
    let told_group = told_still was c.has_group.ensures.still told_head in
    let there = (c.in-Ok-area_count.ensures.count was told_group 0).0 c.if-count-gt0.true in
    (0, area_page was 0 there.0 there.1)

pub returns-clause-some : goal.returns-clause-some
returns-clause-some g c shut is was told =
    let told_limit = told_still was c.log_limit.ensures.still told in
    let told_head = told_still was c.read_head.ensures.still told_limit in
    let told_group = told_still was c.has_group.ensures.still told_head in
    let limit_is = c.in-Ok.ensures.limit was told in
    let head = c.in-Ok-read_head.ensures.head was told_limit limit_is in
    let count = c.in-Ok-read_head.head.count in
    let none = none_there c.in-Ok-read_head.head was head
    (λ some. let room : 0 + 13 + 8196 * count < c.in-Ok.limit = c.in-Ok-read_head.ensures.room some in omega (arith, room, c.in-Ok.ensures.low))
    (λ some. let room : 0 + 13 + 8196 * count < c.in-Ok.limit = c.in-Ok-read_head.ensures.room some in
    c.in_ok-has_group.ensures.none c.if-branch.false some was told_head (omega (arith, room, limit_is))) in
    let counted = c.in-Ok-area_count.ensures.count was told_group 0 in (
      subst (λ (s : Bool). IsLogEnd 0 s was.log) (some_same is) (prefix_end c.in-Ok-read_head.head was none head),
      no_page was none (no_area (length was.pages) c.in-Ok-area_count.count c.if-count-gt0.false counted.1),
    )
