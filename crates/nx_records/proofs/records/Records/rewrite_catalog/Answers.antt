use Rattle.std.proofs.Common.{◌≡◌, ◌∙◌, ◌+◌, ◌<◌, List, [], length, ap, refl, arith}
use Rattle.std.proofs.lemmas.Result.{err_from_is_err_and}
use Rattle.nx_host.proofs.DiskLemmas.{still_then}
use Rattle.nx_holdings.specs.Holdings.{Link, next_of, content_of, chain_count}
use Rattle.nx_links.specs.Beside.{HeldBeside}
use Rattle.nx_records.specs.declared.error.StoreError.{StoreError}
use Rattle.nx_records.specs.Chains.{IsChainOf, NotLed}
use Rattle.nx_records.proofs.StandLemmas.{keeps_then, if_ok_then, if_err_then}
use Rattle.nx_records.proofs.RefusalLemmas.{err_passed}
use Rattle.nx_records.proofs.WritingLemmas.{steps_on, led_later}
use Rattle.nx_records.proofs.RewritingLemmas.{given_led, written_anew}
use Rattle.nx_records.proofs.records.Records.rewrite_catalog.Goals as goal

pub returns-in_err-rewrite_chain-clause-refused : goal.returns-in_err-rewrite_chain-clause-refused
returns-in_err-rewrite_chain-clause-refused g c =
    let head = c.args.self.now.head in
    err_passed c.from_residual.result (λ (e : StoreError). NotLed g.D.Disk (IsChainOf head.catalog head.catalog_length) (λ links held. held.free + length links < chain_count (length c.args.bytes.now)) 0 e
    c.args.self.now c.rewrite_chain.new.self c.args.disk.now c.rewrite_chain.new.disk)
    c.in_err-rewrite_chain.field-0.0 (err_from_is_err_and c.from_residual.result c.from_residual.ensures.1)
    (given_led g.D.Disk c.args.self.now c.rewrite_chain.new.self c.args.disk.now c.rewrite_chain.new.disk 0 (IsChainOf head.catalog head.catalog_length) (IsChainOf head.catalog head.catalog_length)
    (λ (links : List Link) (held : HeldBeside). held.free + length links < chain_count (length c.args.bytes.now)) (λ links chain. chain) c.in_err-rewrite_chain.field-0.0 c.in_err-rewrite_chain.ensures.refused)

pub returns-in_err-give_chain-clause-refused : goal.returns-in_err-give_chain-clause-refused
returns-in_err-give_chain-clause-refused g c =
    let head = c.args.self.now.head in
    err_passed c.from_residual-in_err-give_chain.result (λ (e : StoreError). NotLed g.D.Disk (IsChainOf head.catalog head.catalog_length) (λ links held. held.free + length links < chain_count (length c.args.bytes.now)) 0 e
    c.args.self.now c.give_chain.new.self c.args.disk.now c.give_chain.new.disk)
    c.in_err-give_chain.field-0.0 (err_from_is_err_and c.from_residual-in_err-give_chain.result c.from_residual-in_err-give_chain.ensures.1)
    (given_led g.D.Disk c.args.self.now c.give_chain.new.self c.args.disk.now c.give_chain.new.disk 0 (λ (links : List Link). (next_of links ≡ head.catalog) × (length (content_of links) ≡ head.catalog_length))
    (IsChainOf head.catalog head.catalog_length) (λ (links : List Link) (held : HeldBeside). held.free + length links < chain_count (length c.args.bytes.now)) (λ links chain. (chain.begins, chain.long))
    c.in_err-give_chain.field-0.0 c.in_err-give_chain.ensures.refused)

pub returns-clause-still : goal.returns-clause-still
returns-clause-still g c = still_then c.give_chain.ensures.still c.write_chain.ensures.still

pub returns-clause-keeps : goal.returns-clause-keeps
returns-clause-keeps g c = if_ok_then c.write_chain.result c.write_chain.ensures.keeps (λ first keeps.
    keeps_then {r0 = c.args.self.now} {r1 = c.give_chain.new.self} {r2 = c.write_chain.new.self} c.in_ok-give_chain.ensures.keeps keeps)

pub returns-clause-ok : goal.returns-clause-ok
returns-clause-ok g c =
    let head = c.args.self.now.head in
    if_ok_then c.write_chain.result c.write_chain.ensures.ok (λ first writes.
    written_anew g.D.Disk c.args.self.now c.write_chain.new.self c.args.disk.now first head.catalog_length head.catalog c.args.bytes.now
    (λ same. c.take_same_pages.ensures.no c.if-take_same_pages.false (same ∙ ap chain_count refl))
    (steps_on g.D.Disk c.args.self.now c.give_chain.new.self c.write_chain.new.self c.args.disk.now c.give_chain.new.disk (λ (links : List Link). next_of links ≡ head.catalog)
    (λ (links more : List Link). (more ≡ []) × (length (content_of links) ≡ head.catalog_length)) (λ (links : List Link). links ≡ [])
    (λ (links more : List Link). (next_of more ≡ first) × (content_of more ≡ c.args.bytes.now))
    (λ (links more : List Link). (length (content_of links) ≡ head.catalog_length) × (next_of more ≡ first) × (content_of more ≡ c.args.bytes.now))
    c.in_ok-give_chain.ensures.keeps c.give_chain.ensures.still c.in_ok-give_chain.ensures.ok writes (λ links mid comes. comes.0) (λ links mid more comes goes. (comes.1, goes.0, goes.1))))

pub returns-clause-refused : goal.returns-clause-refused
returns-clause-refused g c =
    let head = c.args.self.now.head in
    if_err_then c.write_chain.result c.write_chain.ensures.refused (λ e refused.
    led_later g.D.Disk c.args.self.now c.give_chain.new.self c.write_chain.new.self c.args.disk.now c.give_chain.new.disk c.write_chain.new.disk 0 (IsChainOf head.catalog head.catalog_length)
    (λ (links more : List Link). (more ≡ []) × (length (content_of links) ≡ head.catalog_length)) (λ (links : List Link). links ≡ [])
    (λ (links : List Link) (held : HeldBeside). held.free + length links < chain_count (length c.args.bytes.now)) (λ (links : List Link) (held : HeldBeside). held.free < chain_count (length c.args.bytes.now))
    e c.requires (c.in_ok-give_chain.ensures.keeps, c.give_chain.ensures.still, λ was links held step holds starts. c.in_ok-give_chain.ensures.ok was links held step holds starts.begins) (
      λ links mid starts comes. comes.0,
      λ links mid held next starts comes keeps less. let none = ap (λ (ls : List Link). length ls) comes.0 in let free = keeps.free in omega (arith, none, free, less),
    ) refused)

pub returns-clause-in_place : goal.returns-clause-in_place
returns-clause-in_place g c = if_ok_then c.write_chain.result c.write_chain.ensures.keeps (λ first keeps same.
    absurd (c.take_same_pages.ensures.no c.if-take_same_pages.false (same ∙ ap chain_count refl)))
