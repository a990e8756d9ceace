-- Reading byte lists page by page.
use Rattle.std.proofs.Common.{◌≡◌, ◌⊎◌, ℕ, ◌+◌, ◌≤◌, List, ◌++◌, length, sym, ap, subst, ◌∙◌, arith, inl, inr, length-append}
use Rattle.std.specs.Prelude.{◌≢◌}
use Rattle.nx_replay.specs.Log.{Pages}
use Rattle.nx_holdings.specs.declared.header.Header.{Header}
use Rattle.nx_links.specs.Lists.{IsListFrom, IsListStep, IsReadTo}
use Rattle.nx_links.proofs.ListLemmas.{has_first, read_more, from_none}
use Rattle.nx_records.specs.declared.reading.ListReader.{ListReader}
use Rattle.nx_records.specs.Chains.{NoListFrom}
use Rattle.nx_records.specs.Reading.{IsBlock, AreReadBy}

-- no list of some bytes begins nowhere, and none of no byte at a page
pub no_list_at : {limit : ℕ} {pages : Pages} (first len : ℕ) → (first ≡ 0) × (len ≢ 0) ⊎ (first ≢ 0) × (len ≡ 0) → NoListFrom limit first len pages
no_list_at {limit = limit} {pages = pages} first len other bytes from long = elim other [
  | inl nowhere ↦ nowhere.1 (sym long ∙ ap length (from_none (subst (λ (p : ℕ). IsListFrom limit pages p bytes) nowhere.0 from)))
  | inr empty ↦
      let there = has_first empty.0 from in
      let count = ap length there.are ∙ length-append there.content there.rest in
      let some = there.some in
      let none = empty.1 in
      absurd (omega (arith, count, some, long, none))
]

-- a list doesn't go on behind a page where another page or another number of bytes is left
pub no_list_behind : {limit : ℕ} {pages : Pages} {page next : ℕ} {content : List ℕ} (left : ℕ) → IsListStep limit pages page next content
    → (next ≡ 0) × (length content ≢ left) ⊎ (next ≢ 0) × (left ≤ length content) → NoListFrom limit page left pages
no_list_behind {limit = limit} {pages = pages} {content = content} left step other bytes from long =
    let rest = step.back bytes from in
    let whole = ap length rest.1 ∙ length-append content rest.0 in
    elim other [
      | inl ends ↦
          let none = ap length (from_none (subst (λ (p : ℕ). IsListFrom limit pages p rest.0) ends.0 rest.2)) in
          ends.1 (omega (arith, whole, none, long))
      | inr more ↦
          let there = has_first more.0 rest.2 in
          let count = ap length there.are ∙ length-append there.content there.rest in
          let some = there.some in
          let past = more.1 in
          absurd (omega (arith, whole, count, some, long, past))
    ]

-- where what is left of a list doesn't stand, the list doesn't
pub rest_lacks : {limit : ℕ} {pages : Pages} {first page : ℕ} {so_far : List ℕ} (len left : ℕ) → IsReadTo limit pages first so_far page → length so_far + left ≡ len → NoListFrom limit page left pages
    → NoListFrom limit first len pages
rest_lacks {so_far = so_far} len left read count none bytes from long =
    let rest = read.back bytes from in
    let whole = ap length rest.1 ∙ length-append so_far rest.0 in
    none rest.0 rest.2 (omega (arith, whole, count, long))

-- a block more was read
pub block_read : {head : Header} {pages : Pages} {was now : ListReader} {len : ℕ} {bytes block : List ℕ} → AreReadBy head pages was len bytes → IsBlock was now block
    → IsListStep head.pages pages was.next now.next block → AreReadBy head pages now len (bytes ++ block)
block_read {head = head} {pages = pages} {was = was} {now = now} {bytes = bytes} {block = block} read is step = record {
  begins = (read.begins.0, λ same. read.begins.1 (sym is.first ∙ same));
  to = subst (λ (f : ℕ). IsReadTo head.pages pages f (bytes ++ block) now.next) (sym is.first) (read_more read.to step);
  left = let both = length-append bytes block in let left = is.left in let count = read.left in omega (arith, both, left, count);
}
