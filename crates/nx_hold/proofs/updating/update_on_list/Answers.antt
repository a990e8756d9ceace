use Rattle.std.proofs.Common.{◌≤◌, ◌*◌, ℕ, List, length, sym, ap, ◌∙◌, subst}
use Rattle.std.specs.Option.{is_some}
use Rattle.std.proofs.lemmas.Result.{err_from_is_err_and}
use Rattle.nx_host.proofs.DiskLemmas.{still_then}
use Rattle.nx_holdings.specs.Holdings.{chain_count}
use Rattle.nx_records.specs.declared.error.StoreError.{StoreError}
use Rattle.nx_records.specs.Changes.{UpdatesRecord, LacksList, ChangesList}
use Rattle.nx_records.specs.Refusals.{NotStored}
use Rattle.nx_records.proofs.RefusalLemmas.{err_passed}
use Rattle.nx_piece.specs.declared.piece.Proxy.{Proxy}
use Rattle.nx_piece.specs.declared.piece.Stored.TheVariants.{Chained}
use Rattle.nx_piece.specs.Encoding.{encoding, proxies_bytes}
use Rattle.nx_piece.specs.Valid.{HaveNumbers, IsValidBody}
use Rattle.nx_piece.proofs.BodyLemmas.{proxies_length}
use Rattle.nx_hold.specs.Pieces.{HoldsNone, NamesList}
use Rattle.nx_hold.specs.Changes.{place_of, piece_needs}
use Rattle.nx_hold.specs.Putting.{told_at}
use Rattle.nx_hold.proofs.PutLemmas.{chained_few, chained_some}
use Rattle.nx_hold.proofs.CallLemmas.{updated_on_list, put_refused, on_list_refused}
use Rattle.nx_hold.proofs.RefusalLemmas.{GoesOn, change_told, change_stored, runs_then, saved_then}
use Rattle.nx_hold.proofs.updating.update_on_list.Goals as goal

pub update-requires-clause-few : goal.update-requires-clause-few
update-requires-clause-few g c =
    subst (λ (l : List ℕ). length l ≤ 8176) (sym c.as_slice-2.ensures)
    (chained_few c.args.piece.now.body c.len.result c.args.list.chain c.in-Ok-encode_chained.bytes (subst (λ (n : ℕ). IsValidBody c.args.piece.now.body.roots n) (sym c.len.ensures) c.requires.valid.body)
    c.in-Ok-encode_chained.ensures.bytes)

pub returns-in_err-place-clause-refused : goal.returns-in_err-place-clause-refused
returns-in_err-place-clause-refused g c =
    err_passed c.from_residual.result (λ (e : StoreError). NotStored g.D.Disk (λ was. piece_needs c.args.piece.now) (λ was. NamesList was (place_of c.args.rid) c.args.list.count c.args.list.chain → HoldsNone was (place_of c.args.rid)) c.args.rid.page e
    c.args.records.now c.update.new.self c.args.disk.now c.update.new.disk) c.in_err-place.field-0.0 (err_from_is_err_and c.from_residual.result c.from_residual.ensures.1)
    (put_refused g.D.Disk c.args.records.now c.update.new.self c.args.disk.now c.update.new.disk (place_of c.args.rid) c.args.piece.now c.as_slice-2.result.now
    (λ was. NamesList was (place_of c.args.rid) c.args.list.count c.args.list.chain) c.in_err-place.field-0.0 (λ was names. ap is_some (names.1).bytes) c.in_err-place.ensures.refused)

pub change_list-requires-clause-some : goal.change_list-requires-clause-some
change_list-requires-clause-some g c =
    subst (λ (l : List ℕ). 1 ≤ length l) (sym (c.as_slice-3.ensures ∙ c.in-Ok.ensures.bytes ∙ ap proxies_bytes c.as_slice.ensures)) (chained_some c.args.piece.now c.requires.valid c.requires.long)

pub change_list-requires-clause-pages : goal.change_list-requires-clause-pages
change_list-requires-clause-pages g c =
    ap (λ (l : List ℕ). chain_count (length l)) (c.as_slice-3.ensures ∙ c.in-Ok.ensures.bytes ∙ ap proxies_bytes c.as_slice.ensures) ∙ ap chain_count (proxies_length c.args.piece.now.proxies) ∙ c.requires.pages
    ∙ ap (λ (n : ℕ). chain_count (8 * n)) (sym c.from-len.ensures)

pub returns-in-Ok-change_list-clause-ok : goal.returns-in-Ok-change_list-clause-ok
returns-in-Ok-change_list-clause-ok g c saved now stands names its =
    updated_on_list {d = g.D.Disk} {r0 = c.args.records.now} {r1 = c.update.new.self} {r2 = c.change_list.new.self} {x0 = c.args.disk.now} {x1 = c.update.new.disk} {x2 = c.change_list.new.disk} (place_of c.args.rid) (place_of c.in_ok-place.place)
    c.args.piece.now c.as_slice-2.result.now c.args.list.count c.args.list.chain c.requires.valid c.requires.long (subst (λ (ps : List Proxy). HaveNumbers ps) c.as_slice.ensures c.in-Ok.ensures.numbers) c.in-Ok-encode_chained.ensures.numbers
    (c.as_slice-2.ensures ∙ c.in-Ok-encode_chained.ensures.bytes ∙ ap (λ (n : ℕ). encoding (Chained c.args.piece.now.body n c.args.list.chain)) c.len.ensures) c.requires.pages c.in_ok-place.ensures.ok
    (λ saved mid list stands there.
    let changed = (c.in-Ok-change_list.ensures.ok saved mid list stands there).1 in
    (changed.0, changed.1, subst (λ (l : List ℕ). ChangesList c.args.list.chain l mid changed.0) (c.as_slice-3.ensures ∙ c.in-Ok.ensures.bytes ∙ ap proxies_bytes c.as_slice.ensures) changed.2))
    saved now stands names its

pub returns-in-Ok-change_list-clause-keeps : goal.returns-in-Ok-change_list-clause-keeps
returns-in-Ok-change_list-clause-keeps g c = (
  runs_then {r0 = c.args.records.now} {r1 = c.update.new.self} {r2 = c.change_list.new.self} c.in_ok-place.ensures.keeps.0 c.in-Ok-change_list.ensures.keeps.0,
  saved_then {d = g.D.Disk} {r0 = c.args.records.now} {r1 = c.update.new.self} {r2 = c.change_list.new.self} {x0 = c.args.disk.now} {x1 = c.update.new.disk} {x2 = c.change_list.new.disk} c.in_ok-place.ensures.keeps.1 c.in-Ok-change_list.ensures.keeps.1,
  c.in-Ok-change_list.ensures.keeps.2,
)

pub returns-clause-refused : goal.returns-clause-refused
returns-clause-refused g c =
    let updates : GoesOn g.D.Disk c.args.records.now c.update.new.self c.args.disk.now c.update.new.disk (λ was now. UpdatesRecord c.args.rid.page c.args.rid.slot c.as_slice-2.result.now c.in_ok-place.place.page c.in_ok-place.place.slot was now) =
    record { runs = c.in_ok-place.ensures.keeps.0; keeps = c.in_ok-place.ensures.keeps.1; still = c.update.ensures.still; comes = c.in_ok-place.ensures.ok } in
    subst (λ (e : StoreError). NotStored g.D.Disk (λ was. piece_needs c.args.piece.now) (λ was. NamesList was (place_of c.args.rid) c.args.list.count c.args.list.chain → HoldsNone was (place_of c.args.rid)) c.args.rid.page e
    c.args.records.now c.change_list.new.self c.args.disk.now c.change_list.new.disk) (sym c.at_page.ensures)
    (change_stored g.D.Disk (λ was. NamesList was (place_of c.args.rid) c.args.list.count c.args.list.chain → HoldsNone was (place_of c.args.rid)) c.args.rid.page c.args.records.now c.change_list.new.self c.args.disk.now c.change_list.new.disk
    (still_then c.update.ensures.still c.change_list.ensures.still) (λ was. piece_needs c.args.piece.now) (told_at c.args.rid.page c.in-Err.error)
    (on_list_refused {d = g.D.Disk} {r0 = c.args.records.now} {r1 = c.update.new.self} {x0 = c.args.disk.now} {x1 = c.update.new.disk} c.change_list.new.self c.change_list.new.disk (place_of c.args.rid) (place_of c.in_ok-place.place) c.as_slice-2.result.now
    c.args.list.count c.args.list.chain updates (told_at c.args.rid.page c.in-Err.error)
    (change_told g.D.Disk (λ was. LacksList was c.args.list.chain (8 * c.from-len.result)) (λ was. LacksList was c.args.list.chain (8 * c.args.list.count)) c.args.list.chain c.args.rid.page c.update.new.self c.change_list.new.self c.update.new.disk c.change_list.new.disk
    (λ held lacks list there long. lacks list there (long ∙ ap (λ (n : ℕ). 8 * n) (sym c.from-len.ensures))) c.in-Err.error c.in-Err.ensures.refused)))
