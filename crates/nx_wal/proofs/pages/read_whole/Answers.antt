use Rattle.std.proofs.Common.{◌≡◌, ℕ, arith, drop, length, subst}
use Rattle.nx_host.specs.Disk.{area_of}
use Rattle.nx_wal.specs.Reading.{FillsPrefix}
use Rattle.nx_wal.proofs.PageLemmas.{whole_given, none_given}
use Rattle.nx_wal.proofs.pages.read_whole.Goals as goal

pub returns-then-given-lt-PAGE_SIZE-clause-missing : goal.returns-then-given-lt-PAGE_SIZE-clause-missing
returns-then-given-lt-PAGE_SIZE-clause-missing g c is was told fits =
    let room : length c.args.into.now.bytes ≡ 8192 = omega arith in
    none_given c.in_ok-given.given c.args.at c.read_from.new.into (area_of c.args.area was)
    (subst (λ (n : ℕ). FillsPrefix c.in_ok-given.given n c.read_from.new.into (drop c.args.at (area_of c.args.area was))) room (c.in_ok-given.ensures.gives was told)) c.if-given-lt-PAGE_SIZE.true fits

pub returns-clause-whole : goal.returns-clause-whole
returns-clause-whole g c is was told =
    let room : length c.args.into.now.bytes ≡ 8192 = omega arith in
    let long : length c.read_from.new.into ≡ 8192 = omega arith in
    whole_given c.in_ok-given.given c.args.at c.read_from.new.into (area_of c.args.area was)
    (subst (λ (n : ℕ). FillsPrefix c.in_ok-given.given n c.read_from.new.into (drop c.args.at (area_of c.args.area was))) room (c.in_ok-given.ensures.gives was told)) long c.if-given-lt-PAGE_SIZE.false
