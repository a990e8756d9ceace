-- The header.
use Rattle.std.proofs.Common.{◌≡◌, ◌≢◌, ℕ, List, Some, None, sym, ap, ◌∙◌, subst}
use Rattle.nx_replay.specs.Log.{Pages, HasMark}
use Rattle.nx_holdings.specs.declared.header.Header.{Header}
use Rattle.nx_holdings.specs.Header.{header_bytes, IsHeader, IsNoHeader}
use Rattle.nx_holdings.proofs.ChainLemmas.{same_bytes}
use Rattle.nx_holdings.proofs.OneLemmas.{one_header}
use Rattle.nx_rules.specs.Listed.{IsSlottedPage, HasHeaderPage}
use Rattle.nx_rules.specs.Broken.{BreaksHeader}
use Rattle.nx_rules.proofs.FirstLemmas.{not_there}

pub no_page : (pages : Pages) → pages 0 ≡ None → HasMark pages → BreaksHeader pages
no_page pages none mark = (mark, λ head has. not_there (pages 0) has.here none)

pub no_form : (pages : Pages) (bytes : List ℕ) → pages 0 ≡ Some bytes → IsNoHeader bytes → HasMark pages → BreaksHeader pages
no_form pages bytes there none mark = (mark, λ head has. none head (record { are = same_bytes bytes (header_bytes head) (pages 0) there has.here; range = has.range }))

pub no_room : (pages : Pages) (bytes : List ℕ) (head : Header) → pages 0 ≡ Some bytes → IsHeader bytes head → (head.room ≢ 0) × ((b : List ℕ) → IsSlottedPage pages head.room b → ⊥) → HasMark pages → BreaksHeader pages
no_room pages bytes head there is none mark = (
  mark,
  λ other has.
      let same : header_bytes other ≡ header_bytes head = same_bytes (header_bytes other) bytes (pages 0) has.here there ∙ is.are in
      let one : other ≡ head = one_header other head has.range is.range same in
      let room = has.room (λ e. none.0 (ap (λ (h : Header). h.room) (sym one) ∙ e)) in
      none.1 room.0 (subst (λ (h : Header). IsSlottedPage pages h.room room.0) one room.1),
)

pub has_header : (pages : Pages) (bytes : List ℕ) (head : Header) → pages 0 ≡ Some bytes → IsHeader bytes head → (head.room ≢ 0 → (b : List ℕ) × IsSlottedPage pages head.room b) → HasHeaderPage pages head
has_header pages bytes head there is room = record { here = there ∙ ap (λ (b : List ℕ). Some b) is.are; range = is.range; room = room }

pub is_there : (pages : Pages) (page : ℕ) (bytes other : List ℕ) → pages page ≡ Some bytes → IsSlottedPage pages page other → other ≡ bytes
is_there pages page bytes other there h = same_bytes other bytes (pages page) h.there there
