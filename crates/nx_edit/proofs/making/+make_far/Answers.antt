use Rattle.std.proofs.Common.{◌≡◌, ◌<◌, length, refl, arith}
use Rattle.std.proofs.lemmas.Result.{err_from_is_err_and}
use Rattle.nx_host.proofs.DiskLemmas.{still_then}
use Rattle.nx_records.specs.declared.error.StoreError.{StoreError}
use Rattle.nx_records.specs.Refusals.{NotStored}
use Rattle.nx_records.proofs.RefusalLemmas.{err_passed}
use Rattle.nx_piece.specs.declared.piece.Piece.{Piece}
use Rattle.nx_piece.specs.Gapped.{gapped_size}
use Rattle.nx_hold.specs.Contents.{near_in}
use Rattle.nx_hold.proofs.RefusalLemmas.{runs_then, saved_then}
use Rattle.nx_edit.proofs.RowCalls.{err_map, ok_map}
use Rattle.nx_edit.proofs.LongLemmas.{IsRootLong}
use Rattle.nx_edit.proofs.MakingLemmas.{made_none}
use Rattle.nx_edit.proofs.LongCalls.{IsPieceWritten, comes_none, leaves_none, near_none, next_comes, next_is_piece, next_leaves, next_made, next_refused, next_smaller, piece_refused, piece_written, root_is, root_small, root_some, there_root}
use Rattle.nx_edit.proofs.making.+make_far.Goals as goal

pub returns-in_default-clause-far : goal.returns-in_default-clause-far
returns-in_default-clause-far g t c = made_none c.args.piece (near_none c.args.piece.body.roots c.as_slice.result.now c.as_slice.ensures c.in_default.ensures)

pub returns-in_default-clause-ok : goal.returns-in_default-clause-ok
returns-in_default-clause-ok g t c = comes_none g.D.Disk c.args.records.now c.args.disk.now c.args.piece

pub returns-in_default-clause-leaves : goal.returns-in_default-clause-leaves
returns-in_default-clause-leaves g t c = leaves_none g.D.Disk c.args.records.now c.args.disk.now (near_in c.args.piece.body.roots)

pub returns-in_default-clause-keeps : goal.returns-in_default-clause-keeps
returns-in_default-clause-keeps g t c = (record { before = c.requires.runs; after = c.requires.runs; length_stays = refl; settings_stay = refl }, (λ saved has. has), λ had. had)

pub index_mut-requires : goal.index_mut-requires
index_mut-requires g t c =
    let there : IsRootLong c.into_vec-roots.result.items c.in-Some.index = there_root c.args.piece.body.roots c.as_slice.result.now c.into_vec-roots.result.items c.in-Some.index c.as_slice.ensures c.into_vec-roots.ensures c.in-Some.ensures in
    let within : c.in-Some.index < length c.into_vec-roots.result.items = there.within in
    omega (arith, within)

pub write_long-requires-clause-long : goal.write_long-requires-clause-long
write_long-requires-clause-long g t c =
    let there : IsRootLong c.into_vec-roots.result.items c.in-Some.index = there_root c.args.piece.body.roots c.as_slice.result.now c.into_vec-roots.result.items c.in-Some.index c.as_slice.ensures c.into_vec-roots.ensures c.in-Some.ensures in
    let is : c.index_mut.result.now ≡ there.tree = root_is there c.index_mut.result.now c.index_mut.ensures.value in
    root_some there c.index_mut.result.now is c.args.piece c.into_vec-roots.ensures c.requires.piece

pub write_long-requires-clause-small : goal.write_long-requires-clause-small
write_long-requires-clause-small g t c =
    let there : IsRootLong c.into_vec-roots.result.items c.in-Some.index = there_root c.args.piece.body.roots c.as_slice.result.now c.into_vec-roots.result.items c.in-Some.index c.as_slice.ensures c.into_vec-roots.ensures c.in-Some.ensures in
    let is : c.index_mut.result.now ≡ there.tree = root_is there c.index_mut.result.now c.index_mut.ensures.value in
    root_small there c.index_mut.result.now is c.args.piece c.into_vec-roots.ensures c.requires.piece

pub returns-in_err-write_long-clause-refused : goal.returns-in_err-write_long-clause-refused
returns-in_err-write_long-clause-refused g t c =
    let there : IsRootLong c.into_vec-roots.result.items c.in-Some.index = there_root c.args.piece.body.roots c.as_slice.result.now c.into_vec-roots.result.items c.in-Some.index c.as_slice.ensures c.into_vec-roots.ensures c.in-Some.ensures in
    let is : c.index_mut.result.now ≡ there.tree = root_is there c.index_mut.result.now c.index_mut.ensures.value in
    err_passed c.from_residual.result (λ (e : StoreError). NotStored g.D.Disk (λ was. near_in c.args.piece.body.roots) (λ was. ⊥) 0 e c.args.records.now c.write_long.new.records c.args.disk.now c.write_long.new.disk)
    c.in_err-write_long.field-0.0 (err_from_is_err_and c.from_residual.result c.from_residual.ensures.1)
    (piece_refused there c.index_mut.result.now is c.args.piece c.into_vec-roots.ensures c.requires.piece g.D.Disk c.args.records.now c.write_long.new.records c.args.disk.now c.write_long.new.disk c.in_err-write_long.field-0.0 c.in_err-write_long.ensures.refused)

pub make_far-requires : goal.make_far-requires
make_far-requires g t c κs within =
    let there : IsRootLong c.into_vec-roots.result.items c.in-Some.index = there_root c.args.piece.body.roots c.as_slice.result.now c.into_vec-roots.result.items c.in-Some.index c.as_slice.ensures c.into_vec-roots.ensures c.in-Some.ensures in
    let is : c.index_mut.result.now ≡ there.tree = root_is there c.index_mut.result.now c.index_mut.ensures.value in
    let next : Piece = record { body = record { roots = c.from_vec.result }; proxies = c.args.piece.proxies } in
    let w : IsPieceWritten g.D.Disk c.args.records.now c.write_long.new.records c.args.disk.now c.write_long.new.disk c.args.piece next =
    piece_written there c.index_mut.result.now is c.args.piece c.into_vec-roots.ensures c.requires.piece g.D.Disk c.args.records.now c.write_long.new.records c.args.disk.now c.write_long.new.disk next c.write_long.new.tree c.from_vec.ensures refl c.in_ok-write_long.ensures.ok in
    let falls : gapped_size c.from_vec.result < gapped_size c.args.piece.body.roots = next_smaller w in (
      omega (arith, falls),
      (within, ((c.in_ok-write_long.ensures.keeps.0).after, next_is_piece w c.requires.piece)),
    )

pub returns-clause-far : goal.returns-clause-far
returns-clause-far g t c =
    let there : IsRootLong c.into_vec-roots.result.items c.in-Some.index = there_root c.args.piece.body.roots c.as_slice.result.now c.into_vec-roots.result.items c.in-Some.index c.as_slice.ensures c.into_vec-roots.ensures c.in-Some.ensures in
    let is : c.index_mut.result.now ≡ there.tree = root_is there c.index_mut.result.now c.index_mut.ensures.value in
    let next : Piece = record { body = record { roots = c.from_vec.result }; proxies = c.args.piece.proxies } in
    let w : IsPieceWritten g.D.Disk c.args.records.now c.write_long.new.records c.args.disk.now c.write_long.new.disk c.args.piece next =
    piece_written there c.index_mut.result.now is c.args.piece c.into_vec-roots.ensures c.requires.piece g.D.Disk c.args.records.now c.write_long.new.records c.args.disk.now c.write_long.new.disk next c.write_long.new.tree c.from_vec.ensures refl c.in_ok-write_long.ensures.ok in
    ok_map c.make_far.result (λ made far. next_made w made far) c.make_far.ensures.far

pub returns-clause-ok : goal.returns-clause-ok
returns-clause-ok g t c =
    let there : IsRootLong c.into_vec-roots.result.items c.in-Some.index = there_root c.args.piece.body.roots c.as_slice.result.now c.into_vec-roots.result.items c.in-Some.index c.as_slice.ensures c.into_vec-roots.ensures c.in-Some.ensures in
    let is : c.index_mut.result.now ≡ there.tree = root_is there c.index_mut.result.now c.index_mut.ensures.value in
    let next : Piece = record { body = record { roots = c.from_vec.result }; proxies = c.args.piece.proxies } in
    let w : IsPieceWritten g.D.Disk c.args.records.now c.write_long.new.records c.args.disk.now c.write_long.new.disk c.args.piece next =
    piece_written there c.index_mut.result.now is c.args.piece c.into_vec-roots.ensures c.requires.piece g.D.Disk c.args.records.now c.write_long.new.records c.args.disk.now c.write_long.new.disk next c.write_long.new.tree c.from_vec.ensures refl c.in_ok-write_long.ensures.ok in
    ok_map c.make_far.result (λ made makes. next_comes w c.make_far.new.records c.make_far.new.disk made makes) c.make_far.ensures.ok

pub returns-clause-leaves : goal.returns-clause-leaves
returns-clause-leaves g t c =
    let there : IsRootLong c.into_vec-roots.result.items c.in-Some.index = there_root c.args.piece.body.roots c.as_slice.result.now c.into_vec-roots.result.items c.in-Some.index c.as_slice.ensures c.into_vec-roots.ensures c.in-Some.ensures in
    let is : c.index_mut.result.now ≡ there.tree = root_is there c.index_mut.result.now c.index_mut.ensures.value in
    let next : Piece = record { body = record { roots = c.from_vec.result }; proxies = c.args.piece.proxies } in
    let w : IsPieceWritten g.D.Disk c.args.records.now c.write_long.new.records c.args.disk.now c.write_long.new.disk c.args.piece next =
    piece_written there c.index_mut.result.now is c.args.piece c.into_vec-roots.ensures c.requires.piece g.D.Disk c.args.records.now c.write_long.new.records c.args.disk.now c.write_long.new.disk next c.write_long.new.tree c.from_vec.ensures refl c.in_ok-write_long.ensures.ok in
    ok_map c.make_far.result (λ made leaves. next_leaves w c.make_far.new.records c.make_far.new.disk leaves) c.make_far.ensures.leaves

pub returns-clause-refused : goal.returns-clause-refused
returns-clause-refused g t c =
    let there : IsRootLong c.into_vec-roots.result.items c.in-Some.index = there_root c.args.piece.body.roots c.as_slice.result.now c.into_vec-roots.result.items c.in-Some.index c.as_slice.ensures c.into_vec-roots.ensures c.in-Some.ensures in
    let is : c.index_mut.result.now ≡ there.tree = root_is there c.index_mut.result.now c.index_mut.ensures.value in
    let next : Piece = record { body = record { roots = c.from_vec.result }; proxies = c.args.piece.proxies } in
    let w : IsPieceWritten g.D.Disk c.args.records.now c.write_long.new.records c.args.disk.now c.write_long.new.disk c.args.piece next =
    piece_written there c.index_mut.result.now is c.args.piece c.into_vec-roots.ensures c.requires.piece g.D.Disk c.args.records.now c.write_long.new.records c.args.disk.now c.write_long.new.disk next c.write_long.new.tree c.from_vec.ensures refl c.in_ok-write_long.ensures.ok in
    err_map c.make_far.result (λ e refused. next_refused w c.in_ok-write_long.ensures.keeps.0 c.in_ok-write_long.ensures.keeps.1 c.write_long.ensures.still c.make_far.new.records c.make_far.new.disk e refused) c.make_far.ensures.refused

pub returns-clause-keeps : goal.returns-clause-keeps
returns-clause-keeps g t c =
    ok_map c.make_far.result (λ made keeps. (
      runs_then {r0 = c.args.records.now} {r1 = c.write_long.new.records} {r2 = c.make_far.new.records} c.in_ok-write_long.ensures.keeps.0 keeps.0,
      saved_then {d = g.D.Disk} {r0 = c.args.records.now} {r1 = c.write_long.new.records} {r2 = c.make_far.new.records} {x0 = c.args.disk.now} {x1 = c.write_long.new.disk} {x2 = c.make_far.new.disk} c.in_ok-write_long.ensures.keeps.1 keeps.1,
      λ had. keeps.2 c.in_ok-write_long.ensures.keeps.2,
    )) c.make_far.ensures.keeps

pub returns-clause-still : goal.returns-clause-still
returns-clause-still g t c = still_then c.write_long.ensures.still c.make_far.ensures.still
