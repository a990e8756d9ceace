use Rattle.std.proofs.Common.{◌≡◌, length, ap, ◌∙◌, subst}
use Rattle.std.proofs.lemmas.Result.{IfOk-weaker}
use Rattle.nx_piece.specs.declared.piece.Item.TheVariants.{Run}
use Rattle.nx_piece.specs.Gapped.{Gapped, End, Gap}
use Rattle.nx_piece.specs.Items.{with_last}
use Rattle.nx_piece_edits.specs.Cutting.{IsWithItems, IsWithRow}
use Rattle.nx_piece_edits.proofs.WiderLemmas.{row_put}
use Rattle.nx_piece_edits.proofs.widening.replace_by_row.Goals as goal

pub returns : goal.returns
returns c =
    let same : c.push.new.self ≡ Gap (length c.args.row.now) End = c.in_ok-push.ensures.ok ∙ ap (λ (f : Gapped). with_last f (Run (length c.args.row.now))) c.new-items.ensures in
    IfOk-weaker c.replace_by_items.result (λ changed. IsWithItems c.args.piece c.args.index c.push.new.self c.args.row.now changed) (λ changed. IsWithRow c.args.piece c.args.index c.args.row.now changed)
    (λ changed h. row_put c.args.piece c.args.index c.args.row.now changed c.requires.piece c.requires.some (subst (λ (f : Gapped). IsWithItems c.args.piece c.args.index f c.args.row.now changed) same h)) c.replace_by_items.ensures
