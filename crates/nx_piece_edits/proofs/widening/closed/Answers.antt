use Rattle.std.proofs.Common.{arith, ◌≡◌, List, ap, subst, ◌∙◌, sym}
use Rattle.nx_piece.specs.declared.piece.Item.{Item}
use Rattle.nx_piece.specs.Gapped.{End, proxies_in}
use Rattle.nx_piece.specs.Items.{gapped_of}
use Rattle.nx_piece.specs.Valid.{AreApart}
use Rattle.nx_piece_edits.specs.Cutting.{gap_before, joined_items}
use Rattle.nx_piece_edits.proofs.JoinedLemmas.{put_behind_all, proxies_before, proxies_joined, apart_before, both_apart}
use Rattle.nx_piece_edits.proofs.widening.closed.Goals as goal

pub insert_run-requires-2-clause-fits : goal.insert_run-requires-2-clause-fits
insert_run-requires-2-clause-fits c =
    let row : List Item = c.args.row.items in
    let first : gapped_of c.insert_run.new.items.items ≡ joined_items (gapped_of row) (gap_before c.args.behind End) =
    put_behind_all row c.insert_run.new.items.items c.len-end.result c.args.behind (omega arith) c.in_ok-insert_run.ensures in
    let same = ap proxies_in first in
    let all = proxies_joined (gapped_of row) (gap_before c.args.behind End) in
    let own = proxies_before c.args.behind End in
    let fits = c.requires.fits in
    omega (arith, same, all, own, fits)

pub insert_run-requires-2-clause-apart : goal.insert_run-requires-2-clause-apart
insert_run-requires-2-clause-apart c =
    let row : List Item = c.args.row.items in
    let first : gapped_of c.insert_run.new.items.items ≡ joined_items (gapped_of row) (gap_before c.args.behind End) =
    put_behind_all row c.insert_run.new.items.items c.len-end.result c.args.behind (omega arith) c.in_ok-insert_run.ensures in
    subst AreApart (sym first) (both_apart (gapped_of row) (gap_before c.args.behind End) c.requires.apart (apart_before c.args.behind End tt))

pub returns : goal.returns
returns c =
    let row : List Item = c.args.row.items in
    let first : gapped_of c.insert_run.new.items.items ≡ joined_items (gapped_of row) (gap_before c.args.behind End) =
    put_behind_all row c.insert_run.new.items.items c.len-end.result c.args.behind (omega arith) c.in_ok-insert_run.ensures in
    c.in_ok-insert_run-2.ensures ∙ ap (gap_before c.args.before) first
