use Rattle.std.proofs.Common.{ℕ, List, [], refl, sym, ◌∙◌, subst, arith}
use Rattle.nx_host.specs.Phase.{GivesAlone}
use Rattle.nx_nav.specs.EarlyLaws.{nothing_came, near_kept}
use Rattle.nx_nav.specs.Given.{GivesText}
use Rattle.nx_nav.proofs.GivenLemmas.{gives_prefix}
use Rattle.nx_nav.proofs.exporting.Exporting.give.Goals as goal

pub returns-in-Ok-clause-out : goal.returns-in-Ok-clause-out
returns-in-Ok-clause-out g c = λ some left.
    some (sym c.as_slice.ensures ∙ nothing_came c.as_slice.result.now (g.H.Disk.beside c.args.host.now).output (g.H.Disk.beside c.emit.new.self).output left.output c.in-Ok.ensures.ok left.was left.is)

pub returns-in-Err-clause-err : goal.returns-in-Err-clause-err
returns-in-Err-clause-err g c =
    let e = c.in-Err.ensures in
    let alone : GivesAlone g.H.Disk c.as_slice.result.now c.args.host.now c.emit.new.self = record {
      areas = record {
        contents_stay = e.contents;
        images_stay = e.images;
        faults_stay = e.faults;
        reads_stay = e.reads;
        in_faults_later = let same = e.in_faults in omega arith;
        out_faults_later = e.out_faults;
        time = e.time;
      };
      input_stays = e.input;
      in_faults_stay = e.in_faults;
    } in
    let given = subst (λ (block : List ℕ). (left : List ℕ) × GivesText g.H.Disk block c.args.host.now [] left c.emit.new.self) c.as_slice.ensures (gives_prefix c.as_slice.result.now alone e.prefix) in
    (refl, e.cause, (record { block = given.0; stage = c.args.self.now.stage }, (given.1, λ output. near_kept c.args.self.now.stage given.1 output)))
