-- The calls that make a piece far, one behind the other, and put it in the place of a record.
use Rattle.std.proofs.Common.{◌≡◌, ℕ, ◌+◌, ◌*◌, ◌≤◌, ◌<◌, List, length, Some, ap, arith}
use Rattle.nx_host.specs.declared.disk.Disk.{Ghosts}
use Rattle.nx_host.specs.Still.{IsStill}
use Rattle.nx_tree.specs.Document.{longest_node}
use Rattle.nx_holdings.specs.Holdings.{Held, chain_count}
use Rattle.nx_records.specs.declared.records.Records.{Records}
use Rattle.nx_records.specs.declared.error.StoreError.{StoreError}
use Rattle.nx_records.specs.Records.{ComesTo, KeepsSaved}
use Rattle.nx_records.specs.Changes.{WritesList}
use Rattle.nx_records.specs.Refusals.{NotStored, RunsOn}
use Rattle.nx_piece.specs.declared.piece.Far.{Far}
use Rattle.nx_piece.specs.declared.piece.Piece.{Piece}
use Rattle.nx_layouts.specs.Layout.{RecordPlace}
use Rattle.nx_hold.specs.Contents.{near_in}
use Rattle.nx_hold.specs.Changes.{ComesTidyWhere, piece_needs, UpdatesPiece}
use Rattle.nx_hold.specs.Pieces.{HoldsNone, MayName}
use Rattle.nx_hold.proofs.ContentLemmas.{content_moves}
use Rattle.nx_hold.proofs.MoveLemmas.{piece_stays}
use Rattle.nx_hold.proofs.RefusalLemmas.{GoesOn, comes_then, later_stored, store_more}
use Rattle.nx_edit.specs.Making.{IsMadeFar, LeavesPieces, MakesFar, PutsFar, first_long}
use Rattle.nx_edit.specs.Passing.{put_needs}
use Rattle.nx_edit.proofs.CountLemmas.{pages_few}
use Rattle.nx_edit.proofs.MakingLemmas.{put, makes_more, mid_may, mid_tidy, pages_more}

-- a list that was written leaves each piece
written_leaves : (first : ℕ) (bytes : List ℕ) (was now : Held) → WritesList first bytes was now → LeavesPieces (chain_count (length bytes)) was now
written_leaves first bytes was now writes = (writes.free, λ place piece holds. piece_stays place piece (content_moves first bytes was now writes) holds)

free_then : (was mid now a b all : ℕ) → was ≤ mid + a → mid ≤ now + b → all ≡ a + b → was ≤ now + all
free_then was mid now a b all one two sum = omega (arith, one, two, sum)

few_then : (was mid a more all : ℕ) → was ≤ mid + a → mid < more → all ≡ a + more → was < all
few_then was mid a more all free few sum = omega (arith, free, few, sum)

less_then : (free a b all : ℕ) → free < a → all ≡ a + b → free < all
less_then free a b all few sum = omega (arith, few, sum)

-- The first long content was written, and the rest is made far then:

module _ {D : Type 0} {d : Ghosts D} (piece : Piece) (content : List ℕ) (far : Far) (long : first_long piece.body.roots ≡ Some content) (length_is : far.length ≡ length content) (fits : far.length ≤ longest_node) {r0 r1 : Records} {x0 x1 : D}
    (writes : ComesTo d r0 r1 x0 x1 (λ was now. WritesList far.first content was now)) where
  abbrev rest : Piece
  rest = put piece content far long length_is fits

  sum : near_in piece.body.roots ≡ chain_count (length content) + near_in rest.body.roots
  sum = pages_more piece content far long length_is fits

  pub comes_more : {r2 : Records} {x2 : D} (made : Piece) → ComesTidyWhere d r1 r2 x1 x2 (λ was. MayName was rest.body.roots) (MakesFar rest made) → ComesTidyWhere d r0 r2 x0 x2 (λ was. MayName was piece.body.roots) (MakesFar piece made)
  comes_more made makes saved was stands tidy may =
      let mid = writes saved was stands in
      let now = makes saved mid.0 mid.1 (mid_tidy piece content far long length_is fits was mid.0 tidy mid.2) (mid_may piece content far long length_is fits was mid.0 tidy mid.2 may) in
      (now.0, now.1, now.2, makes_more piece content far long length_is fits was mid.0 tidy mid.2 made now.3)

  pub leaves_more : (r2 : Records) (x2 : D) → ComesTo d r1 r2 x1 x2 (LeavesPieces (near_in rest.body.roots)) → ComesTo d r0 r2 x0 x2 (LeavesPieces (near_in piece.body.roots))
  leaves_more r2 x2 leaves =
      comes_then {d = d} {r0 = r0} {r1 = r1} {r2 = r2} (LeavesPieces (near_in piece.body.roots)) writes leaves
      (λ was mid now first later.
      let one = written_leaves far.first content was mid first in
      (free_then was.free mid.free now.free (chain_count (length content)) (near_in rest.body.roots) (near_in piece.body.roots) one.0 later.0 sum, λ place p holds. later.1 place p (one.1 place p holds)))

  pub later_refused : RunsOn r0 r1 → KeepsSaved d r0 r1 x0 x1 → IsStill d x0 x1 → (r2 : Records) (x2 : D) (e : StoreError) → NotStored d (λ was. near_in rest.body.roots) (λ was. ⊥) 0 e r1 r2 x1 x2 → NotStored d (λ was. near_in piece.body.roots) (λ was. ⊥) 0 e r0 r2 x0 x2
  later_refused runs keeps still r2 x2 e refused =
      let goes : GoesOn d r0 r1 x0 x1 (λ was now. WritesList far.first content was now) = record { runs = runs; keeps = keeps; still = still; comes = writes } in
      later_stored {d = d} {r0 = r0} {r1 = r1} {x0 = x0} {x1 = x1} goes (λ was. ⊥) (λ was. ⊥) 0 (λ was mid first bad. bad) r2 x2 (λ was. near_in rest.body.roots) (λ was. near_in piece.body.roots)
      (λ was mid first few. few_then was.free mid.free (chain_count (length content)) (near_in rest.body.roots) (near_in piece.body.roots) first.free few sum) e refused

-- it couldn't be written
pub first_refused : {D : Type 0} (d : Ghosts D) (piece : Piece) (content : List ℕ) (far : Far) (long : first_long piece.body.roots ≡ Some content) (length_is : far.length ≡ length content) (fits : far.length ≤ longest_node) (r0 r1 : Records) (x0 x1 : D) (e : StoreError)
    → NotStored d (λ was. chain_count (length content)) (λ was. ⊥) 0 e r0 r1 x0 x1 → NotStored d (λ was. near_in piece.body.roots) (λ was. ⊥) 0 e r0 r1 x0 x1
first_refused d piece content far long length_is fits r0 r1 x0 x1 e refused =
    store_more d 0 r0 r1 x0 x1 (λ was. ⊥) (λ was. ⊥) (λ was. chain_count (length content)) (λ was. near_in piece.body.roots) (λ held bad. bad)
    (λ held few. less_then held.free (chain_count (length content)) (near_in (put piece content far long length_is fits).body.roots) (near_in piece.body.roots) few (pages_more piece content far long length_is fits)) e refused

-- A piece that was made far came in the place of a record:

module _ {D : Type 0} {d : Ghosts D} (piece made : Piece) (place : RecordPlace) (is : IsMadeFar piece made) {r0 r1 : Records} {x0 x1 : D} (makes : ComesTidyWhere d r0 r1 x0 x1 (λ was. MayName was piece.body.roots) (MakesFar piece made)) where
  pub far_updated : {r2 : Records} {x2 : D} (new : RecordPlace) → ComesTidyWhere d r1 r2 x1 x2 (λ was. MayName was made.body.roots) (λ was now. UpdatesPiece place new made was now)
      → ComesTidyWhere d r0 r2 x0 x2 (λ was. MayName was piece.body.roots) (PutsFar place new piece)
  far_updated new updates saved was stands tidy may =
      let mid = makes saved was stands tidy may in
      let now = updates saved mid.0 mid.1 mid.2 (mid.3).may in
      (now.0, now.1, now.2, record { made = made; far = is; mid = mid.0; tidy = mid.2; makes = mid.3; updates = now.3 })

  pub update_refused : RunsOn r0 r1 → KeepsSaved d r0 r1 x0 x1 → IsStill d x0 x1 → ComesTo d r0 r1 x0 x1 (LeavesPieces (near_in piece.body.roots)) → (page : ℕ) (r2 : Records) (x2 : D) (e : StoreError)
      → NotStored d (λ was. piece_needs made) (λ was. HoldsNone was place) page e r1 r2 x1 x2 → (told : ℕ) × NotStored d (λ was. put_needs piece) (λ was. HoldsNone was place) told e r0 r2 x0 x2
  update_refused runs keeps still leaves page r2 x2 e refused =
      let goes : GoesOn d r0 r1 x0 x1 (LeavesPieces (near_in piece.body.roots)) = record { runs = runs; keeps = keeps; still = still; comes = leaves } in (
        page,
        later_stored {d = d} {r0 = r0} {r1 = r1} {x0 = x0} {x1 = x1} goes (λ was. HoldsNone was place) (λ was. HoldsNone was place) page (λ was mid left none p holds. none p (left.1 place p holds)) r2 x2 (λ was. piece_needs made) (λ was. put_needs piece)
            (λ was mid left few. enough was.free mid.free left.0 few) e refused,
      )
    where
      enough : (was mid : ℕ) → was ≤ mid + near_in piece.body.roots → mid < piece_needs made → was < put_needs piece
      enough was mid free few =
          let own = pages_few made in
          let same = ap (λ ps. chain_count (8 * length ps)) is.proxies in
          omega (arith, free, few, own, same)

-- it couldn't be made far
pub making_stored : {D : Type 0} (d : Ghosts D) (piece : Piece) (place : RecordPlace) (r0 r1 : Records) (x0 x1 : D) (e : StoreError) → NotStored d (λ was. near_in piece.body.roots) (λ was. ⊥) 0 e r0 r1 x0 x1
    → (told : ℕ) × NotStored d (λ was. put_needs piece) (λ was. HoldsNone was place) told e r0 r1 x0 x1
making_stored d piece place r0 r1 x0 x1 e refused = (
  0,
  store_more d 0 r0 r1 x0 x1 (λ was. ⊥) (λ was. HoldsNone was place) (λ was. near_in piece.body.roots) (λ was. put_needs piece) (λ held bad. absurd bad) (λ held few. more held.free few) e refused,
)
  where
    more : (free : ℕ) → free < near_in piece.body.roots → free < put_needs piece
    more free few = omega (arith, few)
