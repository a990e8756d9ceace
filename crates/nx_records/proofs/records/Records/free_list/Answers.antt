use Rattle.std.proofs.Common.{◌≡◌, ◌∙◌, List, length, ap, refl}
use Rattle.std.proofs.lemmas.Result.{err_from_is_err_and}
use Rattle.nx_holdings.specs.Holdings.{Link, next_of, content_of}
use Rattle.nx_links.proofs.JoinLemmas.{all_but, places_but, enter}
use Rattle.nx_records.specs.declared.error.StoreError.{StoreError}
use Rattle.nx_records.specs.Changes.{LacksList}
use Rattle.nx_records.specs.Refusals.{NotChanged}
use Rattle.nx_records.proofs.StandLemmas.{known_stays, keeps_then, saved_kept, on_ok_then, if_err_then}
use Rattle.nx_records.proofs.RefusalLemmas.{err_passed, ended_now, memory_changed, runs_on}
use Rattle.nx_records.proofs.ChainLemmas.{lacks_list, change_damaged}
use Rattle.nx_records.proofs.WritingLemmas.{all_there, freed_steps, given_changed, header_stands}
use Rattle.nx_records.proofs.LeaveLemmas.{had_ended}
use Rattle.nx_records.proofs.FreedLemmas.{list_behind}
use Rattle.nx_records.proofs.records.Records.free_list.Goals as goal

pub returns-then-not-begins-clause-refused : goal.returns-then-not-begins-clause-refused
returns-then-not-begins-clause-refused g c =
    change_damaged g.D.Disk c.args.self.now c.damaged.new.self c.args.disk.now c.args.disk.now c.args.first (λ now. LacksList now c.args.first c.args.len) c.damaged.result c.damaged.ensures.result
    (ended_now {r0 = c.args.self.now} {r1 = c.args.self.now} {r2 = c.damaged.new.self} c.if-self.false refl c.damaged.ensures.ended)
    (λ saved now stands. lacks_list stands.holds c.args.first c.args.len (c.may_begin-begins.ensures.no c.if-not-begins.true))

pub returns-in_err-give_chain-clause-refused : goal.returns-in_err-give_chain-clause-refused
returns-in_err-give_chain-clause-refused g c =
    let may = c.may_begin-begins.ensures.yes c.if-not-begins.false in
    err_passed c.from_residual.result (λ (e : StoreError). NotChanged g.D.Disk (λ now. LacksList now c.args.first c.args.len) c.args.first e c.args.self.now c.give_chain.new.self c.args.disk.now c.give_chain.new.disk)
    c.in_err-give_chain.field-0.0 (err_from_is_err_and c.from_residual.result c.from_residual.ensures.1)
    (given_changed g.D.Disk c.args.self.now c.give_chain.new.self c.args.disk.now c.give_chain.new.disk c.args.first (λ (links : List Link). (next_of links ≡ c.args.first) × (length (content_of links) ≡ c.args.len))
    (λ now. LacksList now c.args.first c.args.len) c.in_err-give_chain.field-0.0 c.if-self.false c.give_chain.ensures.still
    (λ saved now stands none list there long.
    let behind = (stands.holds).behind in
    let entered = enter behind c.args.first list (all_there behind c.args.first list may.1 there) in
    none (stands.keeps).image entered.links (record { records = now.records; lists = all_but behind c.args.first; places = places_but behind c.args.first; free = now.free }) (stands.keeps).step entered.holds (entered.here, ap length entered.are ∙ long))
    c.in_err-give_chain.ensures.refused)

pub returns-clause-ok : goal.returns-clause-ok
returns-clause-ok g c =
    let may = c.may_begin-begins.ensures.yes c.if-not-begins.false in
    let keeps = keeps_then {r0 = c.args.self.now} {r1 = c.give_chain.new.self} {r2 = c.store_header.new.self} c.in_ok-give_chain.ensures.keeps c.store_header.ensures.keeps in
    on_ok_then c.store_header.result c.store_header.ensures.ok (λ ok saved now list stands there.
    let freed = freed_steps g.D.Disk c.args.self.now c.give_chain.new.self c.args.disk.now c.args.first c.args.len may.1 c.in_ok-give_chain.ensures.ok (stands.keeps).image now list (stands.keeps).step
    (stands.holds).behind there in
    (freed.0, (freed.1.0, header_stands c.give_chain.new.self keeps c.give_chain.ensures.still c.store_header.new.self.head_range ok.0 ok.2 stands freed.1.1 (known_stays now freed.1.0 keeps.known (freed.1.2.changes).catalog stands.known), freed.1.2)))

pub returns-clause-keeps : goal.returns-clause-keeps
returns-clause-keeps g c =
    let keeps = keeps_then {r0 = c.args.self.now} {r1 = c.give_chain.new.self} {r2 = c.store_header.new.self} c.in_ok-give_chain.ensures.keeps c.store_header.ensures.keeps in
    on_ok_then c.store_header.result c.store_header.ensures.ok (λ ok. (runs_on c.if-self.false keeps, saved_kept keeps c.give_chain.ensures.still, ok.1))

pub returns-clause-refused : goal.returns-clause-refused
returns-clause-refused g c =
    let keeps = keeps_then {r0 = c.args.self.now} {r1 = c.give_chain.new.self} {r2 = c.store_header.new.self} c.in_ok-give_chain.ensures.keeps c.store_header.ensures.keeps in
    if_err_then c.store_header.result c.store_header.ensures.refused (λ e same.
    memory_changed g.D.Disk c.args.self.now c.store_header.new.self c.args.disk.now c.give_chain.new.disk c.args.first (λ now. LacksList now c.args.first c.args.len) e
    same c.if-self.false c.give_chain.ensures.still keeps)

pub returns-then-self-clause-refused : goal.returns-then-self-clause-refused
returns-then-self-clause-refused g c = had_ended c.if-self.true

pub returns-clause-list : goal.returns-clause-list
returns-clause-list g c = on_ok_then c.store_header.result c.store_header.ensures.ok (λ ok was step. c.in_ok-give_chain.ensures.list was step)

pub returns-clause-behind : goal.returns-clause-behind
returns-clause-behind g c =
    let may = c.may_begin-begins.ensures.yes c.if-not-begins.false in
    on_ok_then c.store_header.result c.store_header.ensures.ok (λ ok saved now stands none.
    list_behind stands.holds c.args.first c.args.len may.1 may.0 (c.in_ok-give_chain.ensures.list (stands.keeps).image (stands.keeps).step) none)
