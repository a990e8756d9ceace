use Rattle.std.proofs.Common.{rules, ◌<◌, ◌≡◌, length, ap}
use Rattle.std.specs.Prelude.{◌≢◌, IfSome, IsErr}
use Rattle.nx_files.specs.declared.store.State.TheVariants.{Unopened}
use Rattle.nx_files.specs.Files.{HasFile, area_bytes, area_end}
use Rattle.nx_files.proofs.CutLemmas.{cut_before}
use Rattle.nx_files.proofs.store.Store.write_at.Goals as goal

pub returns-in-Open-clause-cut : goal.returns-in-Open-clause-cut
returns-in-Open-clause-cut g c =
    let old = c.args.self.now in
    let opened = c.open.new.self in
    let made = c.make.new.self in
    let again : old.state ≢ Unopened → opened.state ≡ old.state = λ tried. ap (λ (store : _). store.state) (c.open.ensures.again tried) in
    let had : HasFile c.args.area opened.state → made.state ≡ opened.state = λ there. ap (λ (store : _). store.state) (c.make.ensures.had there) in
    let cut : IfSome (area_bytes g.T.StoreFile c.args.area made.state) (λ was. length was < area_end c.args.area made.state → IsErr c.write_at.result) = search rules in
    cut_before g.T.StoreFile c.args.area old.state opened.state made.state (IsErr c.write_at.result) again had cut
