use Rattle.std.proofs.Common.{rules, ◌≡◌, ◌≤◌, length, take, IfSome, sym, subst}
use Rattle.std.specs.Prelude.{◌≢◌}
use Rattle.nx_host.specs.Disk.{Keeps, Written, given_at}
use Rattle.nx_files.proofs.Renewed.{renewed_keeps}
use Rattle.nx_files.proofs.settled.SettledFile.renew.Goals as goal

pub returns-clause-held : goal.returns-clause-held
returns-clause-held g c =
    let holds = g.T.StoreFile.holds in
    let byte = c.read_at.new.into in
    let n = c.in_ok-read_at.field-0 in
    let one : length byte ≡ 1 = search rules in
    let some : n ≢ 0 = search rules in
    let few : n ≤ 1 = search rules in
    let given : IfSome (holds c.read_at.new.self.file) (λ was. take n byte ≡ given_at c.args.at 1 was) = search rules in
    let written : IfSome (holds c.write_at.new.self.file) (λ now. IfSome (holds c.read_at.new.self.file) (λ was. Written c.args.at byte was now)) = search rules in
    let kept : Keeps (holds c.read_at.new.self.file) (holds c.write_at.new.self.file) = renewed_keeps c.args.at n byte _ _ one some few given c.write_at.ensures.told written in
    let synced : Keeps (holds c.read_at.new.self.file) (holds c.sync.new.self.file) = subst (λ now. Keeps (holds c.read_at.new.self.file) now) (sym c.sync.ensures.held) kept in
    let whole : Keeps (holds c.args.self.now.file) (holds c.sync.new.self.file) = subst (λ was. Keeps was (holds c.sync.new.self.file)) c.read_at.ensures.held synced in
    search rules
