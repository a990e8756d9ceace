-- What is told of the list that a record names.
use Rattle.std.proofs.Common.{◌≡◌, ℕ, ◌≤◌, None, Some, Option, refl, ap, sym, ◌∙◌, arith}
use Rattle.nx_records.specs.Words.{Held}
use Rattle.nx_hold.specs.Putting.{FreesChain}
use Rattle.nx_piece.specs.declared.checking.Checked.{Checked}
use Rattle.nx_piece.specs.declared.piece.Body.{Body}
use Rattle.nx_piece.specs.declared.piece.Stored.{Stored}
use Rattle.nx_piece.specs.declared.piece.Stored.TheVariants.{Inline, Chained}
use Rattle.nx_piece.specs.Checked.{IsChecked}
use Rattle.nx_hold.specs.declared.lists.NamedList.{NamedList}
use Rattle.nx_hold.specs.Named.{NamesSo}

pub chained_named : (stored : Stored) {list : Option NamedList} (named : NamedList) → NamesSo stored list → list ≡ Some named → (body : Body) × (stored ≡ Chained body named.count named.chain)
chained_named (Inline piece) named so is = absurd (cc)
chained_named (Chained body count chain) named so is =
    let same : record { count = count; chain = chain } ≡ named = some_named (sym so ∙ is) in
    (body, ap (λ (n : NamedList). Chained body n.count n.chain) same)
  where
    some_named : {a b : NamedList} → Some a ≡ Some b → a ≡ b
    some_named e = cc

-- a check tells it
pub named_none : (stored : Stored) (checked : Checked) → IsChecked stored checked → checked.chain ≡ None → NamesSo stored None
named_none (Inline piece) checked is none = refl
named_none (Chained body count chain) checked is none = absurd (let there = is.2 in cc)

pub named_some : (stored : Stored) (checked : Checked) (first : ℕ) → IsChecked stored checked → checked.chain ≡ Some first → NamesSo stored (Some (record { count = checked.proxies; chain = first }))
named_some (Inline piece) checked first is some = absurd (let none = is.2 in cc)
named_some (Chained body count chain) checked first is some =
    let same : first ≡ chain = some_number (sym some ∙ is.2) in
    ap (λ (n : ℕ). Some (record { count = n; chain = first })) is.1 ∙ ap (λ (n : ℕ). Some (record { count = count; chain = n })) same
  where
    some_number : {a b : ℕ} → Some a ≡ Some b → a ≡ b
    some_number e = cc

-- where none is named none goes
pub frees_none : (stored : Stored) {list : Option NamedList} (now : Held) → NamesSo stored list → list ≡ None → FreesChain stored now now
frees_none (Inline piece) now so is = record { changes = record { lists = refl; records = refl; catalog = refl; settings = refl }; free = omega arith }
frees_none (Chained body count chain) now so is = absurd (cc)
