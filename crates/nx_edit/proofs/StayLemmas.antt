-- A record whose piece stays, and a piece in which the same proxy comes in the place of one.
use Rattle.std.proofs.Common.{◌≡◌, ℕ, zero, suc, ◌+◌, ◌≤◌, false, List, [], ◌∷◌, ◌++◌, length, take, drop, slice_index_or, Option, Some, inr, refl, sym, ap, ◌∙◌, subst, arith}
use Rattle.std.proofs.lemmas.List.{append_assoc}
use Rattle.std.specs.List.{slice_get}
use Rattle.nx_host.specs.declared.disk.Disk.{Ghosts}
use Rattle.nx_holdings.specs.Holdings.{Held}
use Rattle.nx_records.specs.declared.records.Records.{Records}
use Rattle.nx_records.specs.Records.{has_ended, KeepsSaved}
use Rattle.nx_records.specs.Refusals.{RunsOn}
use Rattle.nx_piece.specs.declared.piece.Item.{Item}
use Rattle.nx_piece.specs.declared.piece.Item.TheVariants.{Tree, Run}
use Rattle.nx_piece.specs.declared.piece.Piece.{Piece}
use Rattle.nx_piece.specs.declared.piece.Proxy.{Proxy}
use Rattle.nx_piece.specs.Gapped.{Gapped, End, Gap, gapped_width}
use Rattle.nx_piece.specs.Items.{gapped_of}
use Rattle.nx_piece.specs.Valid.{AreApart, HaveRoots, IsValidPiece}
use Rattle.nx_piece_edits.specs.Cutting.{with_items_at}
use Rattle.nx_piece_edits.proofs.WiderLemmas.{one_stays}
use Rattle.nx_layouts.specs.Layout.{RecordPlace}
use Rattle.nx_hold.specs.Pieces.{HoldsPiece}
use Rattle.nx_hold.specs.Changes.{place_named}
use Rattle.nx_divide.specs.declared.dividing.Row.{Row}
use Rattle.nx_nav.specs.declared.routing.PassedRecord.{PassedRecord}
use Rattle.nx_edit.specs.RowPut.{IsOneProxy, PassesRow, piece_with_row}
use Rattle.nx_edit.specs.Rows.{PassesLeft, with_left}
use Rattle.nx_edit.proofs.PassedLemmas.{piece_same}
use Rattle.nx_edit.proofs.HalfLemmas.{held_valid}

-- items that are one run
pub one_run : (items : List Item) → gapped_of items ≡ Gap 1 End → items ≡ Run 1 ∷ []
one_run [] e = absurd (cc)
one_run (Tree t ∷ items) e = absurd (cc)
one_run (Run count ∷ []) e = cc
one_run (Run count ∷ Tree t ∷ items) e = absurd (cc)
one_run (Run count ∷ Run more ∷ items) e = absurd (cc)

back_there : {A : Type 0} (xs : List A) (i : ℕ) (x : A) → slice_get xs i ≡ Some x → take i xs ++ (x ∷ drop (suc i) xs) ≡ xs
back_there [] zero x e = absurd (cc)
back_there [] (suc i) x e = absurd (cc)
back_there (y ∷ xs) zero x e = cc
back_there (y ∷ xs) (suc i) x e = ap (λ (ys : List _). y ∷ ys) (back_there xs i x e)

put_back : (xs : List Proxy) (i : ℕ) (x : Proxy) → slice_get xs i ≡ Some x → take i xs ++ (x ∷ drop (i + 1) xs) ≡ xs
put_back xs i x e = ap (λ (n : ℕ). take i xs ++ (x ∷ drop n xs)) (let s : i + 1 ≡ suc i = omega arith in s) ∙ back_there xs i x e

-- a piece is the same where a proxy comes in its own place
pub row_stays : (piece : Piece) (index : ℕ) (row : Row) (proxy : Proxy) → AreApart piece.body.roots → slice_get piece.proxies index ≡ Some proxy → IsOneProxy row proxy → piece_with_row index row piece ≡ piece
row_stays piece index row proxy apart there is =
    piece_same (piece_with_row index row piece) piece (ap (λ (items : Gapped). with_items_at index items piece.body.roots) is.0 ∙ one_stays index piece.body.roots apart)
    (ap (λ (ps : List Proxy). take index piece.proxies ++ ps ++ drop (index + 1) piece.proxies) is.1
    ∙ append_assoc (take index piece.proxies) (proxy ∷ []) (drop (index + 1) piece.proxies)
    ∙ put_back piece.proxies index proxy there)

pub left_stays : (piece : Piece) (index : ℕ) (proxy : Proxy) → slice_get piece.proxies index ≡ Some proxy → with_left index (Some proxy) piece ≡ piece
left_stays piece index proxy there = piece_same (with_left index (Some proxy) piece) piece refl (put_back piece.proxies index proxy there)

-- a list of one proxy
pub one_proxy : (row : List Proxy) (proxy other : Proxy) → length row ≡ 1 → slice_index_or row 0 other ≡ proxy → row ≡ proxy ∷ []
one_proxy [] proxy other one same = absurd (omega (arith, one))
one_proxy (x ∷ []) proxy other one same = ap (λ (p : Proxy). p ∷ []) same
one_proxy (x ∷ y ∷ row) proxy other one same = absurd (omega (arith, one))

-- the record of a piece that a path leaves by a proxy stays, where the row is this proxy
pub row_kept : (was : Held) (place : RecordPlace) (passed : PassedRecord) (row put : Row) (own : Proxy) → IsOneProxy row passed.proxy → place_named own ≡ place → own.roots ≡ passed.roots → IsOneProxy put own → PassesRow place passed row put was was
row_kept was place passed row put own alone named roots is piece holds at =
    let same : piece ≡ piece_with_row passed.index row piece = sym (row_stays piece passed.index row passed.proxy (held_valid was place piece holds).body.apart at.0 alone) in
    (own, is, roots ∙ at.1 ∙ ap (λ (p : Piece). gapped_width p.body.roots) same, inr (refl, named, subst (λ (p : Piece). HoldsPiece was place p) same holds))

-- so does the record where what is left of an interval has the proxy that it had
pub left_kept : (was : Held) (place : RecordPlace) (passed : PassedRecord) (left : Option Proxy) (own : Proxy) → left ≡ Some passed.proxy → place_named own ≡ place → own.roots ≡ passed.roots → PassesLeft place passed left own was was
left_kept was place passed left own is named roots piece holds at =
    let same : piece ≡ with_left passed.index left piece = sym (ap (λ (o : Option Proxy). with_left passed.index o piece) is ∙ left_stays piece passed.index passed.proxy at.0) in
    (roots ∙ at.1 ∙ ap (λ (p : Piece). gapped_width p.body.roots) same, inr (refl, named, subst (λ (p : Piece). HoldsPiece was place p) same holds))

-- records that nothing was done with run on
pub left_alone : {D : Type 0} (d : Ghosts D) (records : Records) (disk : D) → has_ended records ≡ false → RunsOn records records × KeepsSaved d records records disk disk
left_alone d records disk runs = (record { before = runs; after = runs; length_stays = refl; settings_stay = refl }, λ saved has. has)

-- the roots of a piece that may be stored are 1 to 256
pub own_ranged : (piece : Piece) (own : Proxy) → IsValidPiece piece → own.roots ≡ gapped_width piece.body.roots → HaveRoots (own ∷ [])
own_ranged piece own valid roots =
    let some = valid.body.some in
    let few = valid.body.few in
    let low : 1 ≤ own.roots = omega (arith, some, roots) in
    let high : own.roots ≤ 256 = omega (arith, few, roots) in
    (low, high, tt)

pub roots_ranged : (own : Proxy) (roots : ℕ) → own.roots ≡ roots → 1 ≤ roots → roots ≤ 256 → HaveRoots (own ∷ [])
roots_ranged own roots is some few =
    let low : 1 ≤ own.roots = omega (arith, some, is) in
    let high : own.roots ≤ 256 = omega (arith, few, is) in
    (low, high, tt)
