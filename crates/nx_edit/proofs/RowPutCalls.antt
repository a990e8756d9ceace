-- The calls that put a row in the place of a proxy of a piece, and the piece in the place of its record, one behind the other.
use Rattle.std.proofs.Common.{◌≡◌, ℕ, ◌+◌, ◌<◌, ◌≤◌, length, inl, inr, ap, ◌∙◌, subst, arith}
use Rattle.std.specs.Prelude.{◌⊎◌, Contains}
use Rattle.nx_host.specs.declared.disk.Disk.{Ghosts}
use Rattle.nx_holdings.specs.Holdings.{Held}
use Rattle.nx_records.specs.declared.records.Records.{Records}
use Rattle.nx_records.specs.declared.error.StoreError.{StoreError}
use Rattle.nx_records.specs.Refusals.{NotStored}
use Rattle.nx_piece.specs.declared.piece.Piece.{Piece}
use Rattle.nx_piece.specs.declared.piece.Proxy.{Proxy}
use Rattle.nx_piece.specs.Contents.{fars_in}
use Rattle.nx_piece.specs.Gapped.{gapped_weight, gapped_width}
use Rattle.nx_piece.specs.Valid.{IsPiece, IsValidPiece}
use Rattle.nx_piece.proofs.SizeLemmas.{size_is_weight}
use Rattle.nx_piece_edits.specs.Cutting.{IsWithItems}
use Rattle.nx_piece_edits.proofs.ContentsLemmas.{edits_bring_content}
use Rattle.nx_layouts.specs.Layout.{RecordPlace}
use Rattle.nx_hold.specs.Changes.{ComesTidyWhere, place_named}
use Rattle.nx_hold.specs.Pieces.{HasContent, HoldsNone, IsNoProxies, MayName}
use Rattle.nx_divide.specs.declared.dividing.Row.{Row}
use Rattle.nx_divide.specs.Dividing.{IsRowWithin}
use Rattle.nx_edit.specs.Making.{PutsFar}
use Rattle.nx_edit.specs.Passing.{put_needs}
use Rattle.nx_edit.specs.RowPut.{IsOneProxy, IsPutAlone, MayHaveRow, piece_with_row}
use Rattle.nx_edit.proofs.PassCalls.{lacks_anyway}
use Rattle.nx_edit.proofs.PassedLemmas.{piece_same}

module _ (piece changed : Piece) (index : ℕ) (row : Row) (valid : IsValidPiece piece) (is : IsRowWithin 256 row) (few : length piece.proxies + length row.proxies ≤ 524289) (comes : IsWithItems piece index row.items row.proxies changed) where
  row_in : changed ≡ piece_with_row index row piece
  row_in = piece_same changed (piece_with_row index row piece) comes.body comes.proxies_are

  -- the piece is one as it may be in memory
  pub large_row : IsPiece changed
  large_row = comes.large valid is.far is.ranged few (let size = size_is_weight row.items is.near is.far in let light = is.light in omega (arith, size, light))

  -- what it names may be named, where that of both may
  pub may_both : {was : Held} → MayName was piece.body.roots → MayName was row.items → MayName was changed.body.roots
  may_both {was} own come far among = by_case ((edits_bring_content.items_come piece index row.items row.proxies changed comes).fars far among)
    where
      by_case : Contains (fars_in row.items) far ⊎ Contains (fars_in piece.body.roots) far → HasContent was far × IsNoProxies was far.first
      by_case (inl new) = come far new
      by_case (inr old) = own far old

  -- the row may come in, where the piece weighs no more then
  pub may_come : (k : ℕ) → gapped_weight changed.body.roots ≤ k → MayHaveRow k piece row
  may_come k light = record { few = few; light = let sum = comes.weighs in omega (arith, sum, light) }

  -- ... and may not, where it weighs more
  pub may_not_come : (k : ℕ) → k < gapped_weight changed.body.roots → MayHaveRow k piece row → ⊥
  may_not_come k heavy may = let sum = comes.weighs in let light = may.light in absurd (omega (arith, sum, heavy, light))

  module _ {D : Type 0} (d : Ghosts D) (place : RecordPlace) where
    -- the piece isn't put
    pub row_unput : (k : ℕ) (r0 r1 : Records) (x0 x1 : D) (e : StoreError) → (told : ℕ) × NotStored d (λ was. put_needs changed) (λ was. HoldsNone was place) told e r0 r1 x0 x1
        → (page : ℕ) × NotStored d (λ was. put_needs (piece_with_row index row piece)) (λ was. MayHaveRow k piece row → HoldsNone was place) page e r0 r1 x0 x1
    row_unput k r0 r1 x0 x1 e refused = (
      refused.0,
      lacks_anyway d (λ was. put_needs (piece_with_row index row piece)) (λ was. HoldsNone was place) (MayHaveRow k piece row) refused.0 e r0 r1 x0 x1
          (subst (λ (p : Piece). NotStored d (λ was. put_needs p) (λ was. HoldsNone was place) refused.0 e r0 r1 x0 x1) row_in refused.1),
    )

    -- the piece is put
    pub row_done : (r0 r1 : Records) (x0 x1 : D) (proxy : Proxy) (put : Row) → IsOneProxy put proxy → proxy.roots ≡ gapped_width changed.body.roots
        → ComesTidyWhere d r0 r1 x0 x1 (λ was. MayName was changed.body.roots) (PutsFar place (place_named proxy) changed)
        → ComesTidyWhere d r0 r1 x0 x1 (λ was. MayName was piece.body.roots × MayName was row.items) (IsPutAlone place (piece_with_row index row piece) put)
    row_done r0 r1 x0 x1 proxy put alone roots puts saved was stands tidy may =
        let next = puts saved was stands tidy (may_both may.0 may.1) in (
          next.0,
          next.1,
          next.2,
          (proxy, alone, roots ∙ ap (λ (p : Piece). gapped_width p.body.roots) row_in, inl (subst (λ (p : Piece). PutsFar place (place_named proxy) p was next.0) row_in next.3)),
        )
