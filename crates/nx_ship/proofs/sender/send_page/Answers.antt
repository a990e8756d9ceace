use Rattle.std.proofs.Common.{◌≡◌, ◌+◌, ◌++◌, [], List, ℕ, Some, None, sym, subst, ◌∙◌, arith, append-nil}
use Rattle.std.proofs.lemmas.Result.{err_from_is_err_and}
use Rattle.byteorder.specs.Endian.{big_bytes}
use Rattle.nx_replay.specs.Log.{replay}
use Rattle.nx_replay.proofs.SettledLemmas.{on_ok, is_some}
use Rattle.nx_wal.specs.Wal.{current}
use Rattle.nx_wal.specs.Reading.{page_found}
use Rattle.nx_ship.specs.Sent.{SendsMore, IsCutShort}
use Rattle.nx_ship.specs.declared.error.ShipError.{ShipError}
use Rattle.nx_ship.proofs.SendLemmas.{adds_block, asks_more, asks_some, more_then, some_then, if_err2, log_cut}
use Rattle.nx_ship.proofs.SendingLemmas.{prefix_none, cut_lacks}
use Rattle.nx_ship.proofs.StoreLemmas.{page_read, bytes_read}
use Rattle.nx_ship.proofs.sender.send_page.Goals as goal

pub returns-in-Ok-false-clause-err : goal.returns-in-Ok-false-clause-err
returns-in-Ok-false-clause-err g c =
    record {
      bytes = [];
      sends = asks_some {d = g.H.Disk} [] c.args.block.now.items c.load.ensures.still;
      are = λ was step none told. (
        prefix_none _,
        (
          omega arith,
          page_read c.args.wal.now was c.args.page None none
              (subst (λ b. current c.args.wal.now was c.args.page ≡ page_found b c.load.new.into.bytes) c.in-Ok-false.field-0-test ((c.in-Ok-false.ensures.ok).2 was step)),
        ),
      );
    }

pub returns-in-Err-clause-err : goal.returns-in-Err-clause-err
returns-in-Err-clause-err g c =
    record {
      bytes = [];
      sends = asks_some {d = g.H.Disk} [] c.args.block.now.items c.load.ensures.still;
      are = λ was step none told. (
        prefix_none _,
        cut_lacks c.error_of.result was (c.args.page + 1) (subst (λ (e : ShipError). IsCutShort e) (sym c.error_of.ensures) (log_cut c.in-Err.error)),
      );
    }

pub returns-in_err-add_page-clause-err : goal.returns-in_err-add_page-clause-err
returns-in_err-add_page-clause-err g c =
    let p = err_from_is_err_and c.from_residual.result c.from_residual.ensures.1 in
    rw (p.1, p.2)
    (record {
      bytes = [];
      sends = asks_some {d = g.H.Disk} [] c.args.block.now.items c.load.ensures.still;
      are = λ was step none told. (prefix_none _, tt);
    })

pub returns-clause-ok : goal.returns-clause-ok
returns-clause-ok g c =
    let d = g.H.Disk in
    let x = big_bytes 4 c.args.page ++ c.load.new.into.bytes in
    let added : SendsMore d x c.args.block.now.items c.add_page.new.block.items c.args.host.now c.load.new.disk =
    more_then [] x (asks_more c.args.block.now.items c.load.ensures.still)
    (subst (λ (l : List ℕ). SendsMore d x c.args.block.now.items l c.load.new.disk c.load.new.disk) (sym c.in_ok-add_page.ensures) (adds_block x c.args.block.now.items)) in
    on_ok c.give_full.result c.give_full.ensures.ok (λ more. (
      (c.in-Ok-true.ensures.ok).0,
      record {
        bytes = x ++ [];
        sends = more_then x [] added more;
        are = λ was step none told.
            let is : replay was c.args.page ≡ Some c.load.new.into.bytes =
            page_read c.args.wal.now was c.args.page (Some c.load.new.into.bytes) none
            (subst (λ b. current c.args.wal.now was c.args.page ≡ page_found b c.load.new.into.bytes) c.in-Ok-true.field-0-test ((c.in-Ok-true.ensures.ok).2 was step)) in
            (append-nil x ∙ bytes_read was c.args.page c.load.new.into.bytes is, is_some (replay was c.args.page) is);
      },
    ))

pub returns-clause-err : goal.returns-clause-err
returns-clause-err g c =
    let d = g.H.Disk in
    let x = big_bytes 4 c.args.page ++ c.load.new.into.bytes in
    let added : SendsMore d x c.args.block.now.items c.add_page.new.block.items c.args.host.now c.load.new.disk =
    more_then [] x (asks_more c.args.block.now.items c.load.ensures.still)
    (subst (λ (l : List ℕ). SendsMore d x c.args.block.now.items l c.load.new.disk c.load.new.disk) (sym c.in_ok-add_page.ensures) (adds_block x c.args.block.now.items)) in
    if_err2 c.give_full.result c.give_full.ensures.cut c.give_full.ensures.err (λ e cut some.
    record {
      bytes = x ++ [];
      sends = some_then x [] added some;
      are = λ was step none told.
          let is : replay was c.args.page ≡ Some c.load.new.into.bytes =
          page_read c.args.wal.now was c.args.page (Some c.load.new.into.bytes) none
          (subst (λ b. current c.args.wal.now was c.args.page ≡ page_found b c.load.new.into.bytes) c.in-Ok-true.field-0-test ((c.in-Ok-true.ensures.ok).2 was step)) in
          (([], append-nil (x ++ []) ∙ append-nil x ∙ bytes_read was c.args.page c.load.new.into.bytes is), cut_lacks e was (c.args.page + 1) cut);
    })
