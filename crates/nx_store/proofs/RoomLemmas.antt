-- Where no page is free for a document, there may not be room for it.
use Rattle.std.proofs.Common.{◌≡◌, ℕ, ◌+◌, ◌-◌, ◌*◌, ◌<◌, ◌≤◌, List, [], ◌∷◌, ◌++◌, length, map, refl, ap, ◌∙◌, arith, length-append}
use Rattle.std.specs.List.{sum}
use Rattle.std.specs.FinMap.{entries, values}
use Rattle.std.proofs.Math.Nat.{mul-div-le}
use Rattle.std.proofs.lemmas.List.Sums.{sum_by-cons}
use Rattle.nx_holdings.specs.Holdings.{chain_count}
use Rattle.nx_cuts.specs.Cut.{CutTree, tree_of}
use Rattle.nx_hold.specs.Contents.{tree_pages}
use Rattle.nx_state.specs.State.{State, document_size, all_nodes, all_pages}
use Rattle.nx_state.specs.Stands.{StoredDocument}

-- so many bytes fill so many chain pages, the last one aside
fills : (bytes : ℕ) → 8184 * chain_count bytes ≤ bytes + 8183
fills bytes = mul-div-le (bytes + 8183) 8184

store_counts : (nodes more pages long records chains contents documents bytes taken rules free limit : ℕ) → limit ≤ free + (1 + records + chains + contents + taken) → records ≤ nodes → 254 * chains ≤ records → contents ≤ pages
    → 2 * documents ≤ nodes → 8184 * taken ≤ bytes + 8183 → bytes ≤ 8 + 267 * documents + 2053 * rules → free < 2 * more + long → limit ≤ 3 * (nodes + (nodes + more)) + (pages + (pages + long)) + rules + 8
store_counts nodes more pages long records chains contents documents bytes taken rules free limit whole few chained listed two filled short none = omega (arith, whole, few, chained, listed, two, filled, short, none)

save_counts : (nodes more pages long records chains contents documents bytes taken was rules free limit : ℕ) → limit ≤ free + (1 + records + chains + contents + was) → records ≤ nodes + more → 254 * chains ≤ records
    → contents ≤ pages + long → 2 * documents ≤ nodes → 8184 * taken ≤ bytes + 8183 → bytes ≤ 8 + 267 * (documents + 1) + 2053 * rules → free < taken - was
    → limit ≤ 3 * (nodes + (nodes + more)) + (pages + (pages + long)) + rules + 8
save_counts nodes more pages long records chains contents documents bytes taken was rules free limit whole few chained listed two filled short none = omega (arith, whole, few, chained, listed, two, filled, short, none)

-- the pages that are free are too few for the records and the contents of a document
pub store_room : (nodes more pages long records chains contents documents bytes rules free limit : ℕ) → limit ≤ free + (1 + records + chains + contents + chain_count bytes) → records ≤ nodes → 254 * chains ≤ records → contents ≤ pages
    → 2 * documents ≤ nodes → bytes ≤ 8 + 267 * documents + 2053 * rules → free < 2 * more + long → limit ≤ 3 * (nodes + (nodes + more)) + (pages + (pages + long)) + rules + 8
store_room nodes more pages long records chains contents documents bytes rules free limit whole few chained listed two short none =
    store_counts nodes more pages long records chains contents documents bytes (chain_count bytes) rules free limit whole few chained listed two (fills bytes) short none

-- ... or, behind these, for a longer catalog
pub save_room : (nodes more pages long records chains contents documents bytes was rules free limit : ℕ) → limit ≤ free + (1 + records + chains + contents + chain_count was) → records ≤ nodes + more → 254 * chains ≤ records
    → contents ≤ pages + long → 2 * documents ≤ nodes → bytes ≤ 8 + 267 * (documents + 1) + 2053 * rules → free < chain_count bytes - chain_count was
    → limit ≤ 3 * (nodes + (nodes + more)) + (pages + (pages + long)) + rules + 8
save_room nodes more pages long records chains contents documents bytes was rules free limit whole few chained listed two short none =
    save_counts nodes more pages long records chains contents documents bytes (chain_count bytes) (chain_count was) rules free limit whole few chained listed two (fills bytes) short none

edit_counts : (all behind old new pages pages_behind had has put records chains contents documents bytes taken rules free limit : ℕ) → limit ≤ free + (1 + records + chains + contents + taken) → records ≤ all → 254 * chains ≤ records
    → contents ≤ pages → 2 * documents ≤ all → 8184 * taken ≤ bytes + 8183 → bytes ≤ 8 + 267 * documents + 2053 * rules → old ≤ all → behind + old ≡ all + new → had ≤ pages → pages_behind + had ≡ pages + has → put ≤ has
    → free < old + 2 * new + put → limit ≤ 3 * (all + behind) + (pages + pages_behind) + rules + 8
edit_counts all behind old new pages pages_behind had has put records chains contents documents bytes taken rules free limit whole few chained listed two filled short one counted part told within none =
    omega (arith, whole, few, chained, listed, two, filled, short, one, counted, part, told, within, none)

-- ... or for an edit of a document
pub edit_room : (all behind old new pages pages_behind had has put records chains contents documents bytes rules free limit : ℕ) → limit ≤ free + (1 + records + chains + contents + chain_count bytes) → records ≤ all → 254 * chains ≤ records
    → contents ≤ pages → 2 * documents ≤ all → bytes ≤ 8 + 267 * documents + 2053 * rules → old ≤ all → behind + old ≡ all + new → had ≤ pages → pages_behind + had ≡ pages + has → put ≤ has
    → free < old + 2 * new + put → limit ≤ 3 * (all + behind) + (pages + pages_behind) + rules + 8
edit_room all behind old new pages pages_behind had has put records chains contents documents bytes rules free limit whole few chained listed two short one counted part told within none =
    edit_counts all behind old new pages pages_behind had has put records chains contents documents bytes (chain_count bytes) rules free limit whole few chained listed two (fills bytes) short one counted part told within none

rule_counts : (all behind pages pages_behind records chains contents documents bytes taken was rules more free limit : ℕ) → limit ≤ free + (1 + records + chains + contents + was) → records ≤ all → 254 * chains ≤ records → contents ≤ pages
    → 2 * documents ≤ all → 8184 * taken ≤ bytes + 8183 → bytes ≤ 8 + 267 * documents + 2053 * more → more ≤ rules + 1 → behind ≡ all → pages_behind ≡ pages → free < taken - was
    → limit ≤ 3 * (all + behind) + (pages + pages_behind) + rules + 8
rule_counts all behind pages pages_behind records chains contents documents bytes taken was rules more free limit whole few chained listed two filled short one same alike none =
    omega (arith, whole, few, chained, listed, two, filled, short, one, same, alike, none)

-- ... or for the catalog with a rule more
pub rule_room : (all behind pages pages_behind records chains contents documents bytes was rules more free limit : ℕ) → limit ≤ free + (1 + records + chains + contents + chain_count was) → records ≤ all → 254 * chains ≤ records
    → contents ≤ pages → 2 * documents ≤ all → bytes ≤ 8 + 267 * documents + 2053 * more → more ≤ rules + 1 → behind ≡ all → pages_behind ≡ pages → free < chain_count bytes - chain_count was
    → limit ≤ 3 * (all + behind) + (pages + pages_behind) + rules + 8
rule_room all behind pages pages_behind records chains contents documents bytes was rules more free limit whole few chained listed two short one same alike none =
    rule_counts all behind pages pages_behind records chains contents documents bytes (chain_count bytes) (chain_count was) rules more free limit whole few chained listed two (fills bytes) short one same alike none

-- there are as many documents as a catalog can have
pub count_room : (nodes more pages long documents rules limit : ℕ) → limit ≤ 16777216 → 2 * documents ≤ nodes → 4294967295 ≤ documents → limit ≤ 3 * (nodes + (nodes + more)) + (pages + (pages + long)) + rules + 8
count_room nodes more pages long documents rules limit low two many = omega (arith, low, two, many)

-- what one document more brings, whatever is counted
pub sum_between : (count : StoredDocument → ℕ) (before : List StoredDocument) (s : StoredDocument) (after : List StoredDocument) → sum (map count (before ++ s ∷ after)) ≡ sum (map count (before ++ after)) + count s
sum_between count [] s after = let sums = sum_by-cons (λ (n : ℕ). n) (count s) (map count after) in omega (arith, sums)
sum_between count (b ∷ before) s after =
    let rest = sum_between count before s after in
    let one = sum_by-cons (λ (n : ℕ). n) (count b) (map count (before ++ s ∷ after)) in
    let other = sum_by-cons (λ (n : ℕ). n) (count b) (map count (before ++ after)) in
    omega (arith, rest, one, other)

pub length_between : (before : List StoredDocument) (s : StoredDocument) (after : List StoredDocument) → length (before ++ s ∷ after) ≡ length (before ++ after) + 1
length_between before s after =
    let one = length-append before (s ∷ after) in
    let other = length-append before after in
    omega (arith, one, other)

same_counts : (count : CutTree → ℕ) (stored : List StoredDocument) → map count (map (λ (e : List ℕ × CutTree). e.1) (map (λ (s : StoredDocument). (s.name, s.document)) stored)) ≡ map (λ (s : StoredDocument). count s.document) stored
same_counts count [] = refl
same_counts count (s ∷ stored) = ap (λ l. count s.document ∷ l) (same_counts count stored)

-- what is counted of all documents of a state is counted of those that are stored
pub sum_stored : (count : CutTree → ℕ) (state : State) (stored : List StoredDocument) → entries state.documents ≡ map (λ (s : StoredDocument). (s.name, s.document)) stored
    → sum (map count (values state.documents)) ≡ sum (map (λ (s : StoredDocument). count s.document) stored)
sum_stored count state stored are = ap (λ (es : List (List ℕ × CutTree)). sum (map count (map (λ (e : List ℕ × CutTree). e.1) es))) are ∙ ap sum (same_counts count stored)

pub nodes_stored : (state : State) (stored : List StoredDocument) → entries state.documents ≡ map (λ (s : StoredDocument). (s.name, s.document)) stored → all_nodes state ≡ sum (map (λ (s : StoredDocument). document_size s.document) stored)
nodes_stored = sum_stored document_size

pub pages_stored : (state : State) (stored : List StoredDocument) → entries state.documents ≡ map (λ (s : StoredDocument). (s.name, s.document)) stored
    → all_pages state ≡ sum (map (λ (s : StoredDocument). tree_pages (tree_of s.document)) stored)
pages_stored = sum_stored (λ (document : CutTree). tree_pages (tree_of document))
