use Rattle.std.proofs.Common.{◌≡◌, ℕ, List, Option, Some, Ok, refl, sym, ap, ◌∙◌, subst}
use Rattle.std.specs.Prelude.{IsTrue, option_map}
use Rattle.std.specs.Borrow.{Bor}
use Rattle.nx_files.specs.declared.sight.Streams.{Streams}
use Rattle.nx_front.specs.CommandLine.{named_store}
use Rattle.nx_program.specs.Process.{GivesAt, HasStore}
use Rattle.nx_program.proofs.process.host_of.Goals as goal

pub returns-in_ok-host-in-Some : goal.returns-in_ok-host-in-Some
returns-in_ok-host-in-Some g c =
    let made = c.in_ok-host-in-Some.host in
    let is_named : Some c.in-Some.name.now ≡ named_store c.args.words.now = sym (ap (option_map (λ (name : Bor (List ℕ)). name.now)) c.in-Some.is) ∙ c.named_store.ensures in
    rw c.making_log.ensures (record {
      has = subst (λ (name : Option (List ℕ)). HasStore (λ streams. GivesAt g.L.FnOnce c.args.look c.args.reader c.args.writer (Ok streams)) made.folder.followed name (record made.store { makes_log = c.makes_log.result }))
          is_named (
            subst (λ (s : Streams). GivesAt g.L.FnOnce c.args.look c.args.reader c.args.writer (Ok s)) (sym c.in_ok-host-in-Some.ensures.streams)
                (_, _, rw c.in_ok-streams-in-Some.was at c.look.ensures, refl, refl),
            record {
              pages = c.in_ok-host-in-Some.ensures.named.pages;
              no_log = c.in_ok-host-in-Some.ensures.named.no_log;
              log = c.in_ok-host-in-Some.ensures.named.log;
              state = c.in_ok-host-in-Some.ensures.named.state;
            },
          );
      makes = λ may. subst IsTrue c.makes_log.ensures may;
      reads = c.in_ok-host-in-Some.ensures.over.0;
      writes = c.in_ok-host-in-Some.ensures.over.1;
    })
