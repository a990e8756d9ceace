-- What is told of a document are its stored intervals and the weights of their parts.
use Rattle.std.proofs.Common.{◌≡◌, ℕ, zero, suc, ◌+◌, ◌-◌, ◌<◌, ◌≤◌, ◌==◌, if◌then◌else◌, List, [], ◌∷◌, ◌++◌, length, take, map, Option, Some, refl, sym, ap, ◌∙◌, subst, arith, append_assoc, length-append}
use Rattle.std.specs.Prelude.{true, false, nat_le, min}
use Rattle.std.specs.List.{slice_get, range_with_len}
use Rattle.std.proofs.lemmas.List.{append-nil, map-append}
use Rattle.std.proofs.lemmas.Bool.Decides.{nat_tests}
use Rattle.nx_host.specs.declared.disk.Disk.{Ghosts}
use Rattle.nx_records.specs.declared.records.Records.{Records}
use Rattle.nx_tree.specs.declared.node.Node.{Node}
use Rattle.nx_tree.specs.Forest.{nodes}
use Rattle.nx_weights.specs.Weight.{weight}
use Rattle.nx_parts.specs.declared.interval.Interval.{Interval}
use Rattle.nx_parts.specs.declared.interval.Interval.TheVariants.{Root, Run}
use Rattle.nx_parts.specs.Partitioning as parts
use Rattle.nx_parts.specs.Partitioning.{part_weights}
use Rattle.nx_cuts.specs.Cut.{Cut, CutForest, Bare, Grown, Kept, CutTree, forest, width, intervals, cuts, part_weight, AreParts, tree_of, parts_of}
use Rattle.nx_cuts.proofs.FeasibleLemmas.{length-intervals, weight_at, weight-below, weight-above, other_if}
use Rattle.nx_cuts.proofs.DrawnLaw.{part_is}
use Rattle.nx_weights.specs.Weight.{longest_near}
use Rattle.nx_layouts.specs.Layout.{RecordPlace}
use Rattle.nx_hold.specs.Documents.{HasDocument}
use Rattle.nx_nav.specs.Laid.{Course, interval_at, position_after, course_into, course_after, course_behind}
use Rattle.nx_nav.specs.Steps.{WalkStep, Begin, Open, Head, Block, Tail, Close, content_steps, begun_steps, walk_steps, steps_of}
use Rattle.nx_piece.proofs.LocateLemmas.{get_behind}
use Rattle.nx_nav.proofs.SplitLemmas.{nodes-joined, take_part}

-- as many weights as intervals
pub pairs_stay : (at : Course) (told : List WalkStep) → length at.weights ≡ length at.parts → length (course_behind at told).weights ≡ length (course_behind at told).parts
pairs_stay at [] e = e
pairs_stay at (Begin roots w ∷ told) e =
    pairs_stay (course_after at (Begin roots w)) told (let a = length-append at.weights (w ∷ []) in let b = length-append at.parts (interval_at at.path at.position roots ∷ []) in omega arith)
pairs_stay at (Open n ∷ told) e = pairs_stay (course_after at (Open n)) told e
pairs_stay at (Head kind name ∷ told) e = pairs_stay (course_after at (Head kind name)) told e
pairs_stay at (Block bytes ∷ told) e = pairs_stay at told e
pairs_stay at (Tail ∷ told) e = pairs_stay at told e
pairs_stay at (Close kind name ∷ told) e = pairs_stay (course_after at (Close kind name)) told e

-- the weights of the parts of the intervals, in their order
abbrev pub weights_below : {P : Type 0} → Cut Node P → List ℕ
weights_below Bare = []
weights_below (Grown n b s) = weights_below b ++ weights_below s
weights_below (Kept p m s) = part_weight m ∷ weights_below m ++ weights_below s

width_few : {P : Type 0} (l : Cut Node P) → width l ≤ nodes (forest l)
width_few Bare = omega arith
width_few (Grown n b s) = let h = width_few s in omega arith
width_few (Kept p m s) = let a = width_few m in let b = width_few s in let c = nodes-joined (forest m) (forest s) in omega arith

-- a course from parts
abbrev at_course : List ℕ → ℕ → List Interval → List ℕ → Course
at_course path position ps ws = record { path = path; position = position; parts = ps; weights = ws }

behind-append : (at : Course) (told more : List WalkStep) → course_behind at (told ++ more) ≡ course_behind (course_behind at told) more
behind-append at [] more = refl
behind-append at (step ∷ told) more = behind-append (course_after at step) told more

last_there : (path : List ℕ) (p : ℕ) → slice_get (path ++ p ∷ []) (length (path ++ p ∷ []) - 1) ≡ Some p
last_there path p =
    let e : length (path ++ p ∷ []) - 1 ≡ length path + 0 = let l = length-append path (p ∷ []) in omega arith in
    ap (slice_get (path ++ p ∷ [])) e ∙ get_behind path (p ∷ []) 0

without_last : (path : List ℕ) (p : ℕ) → take (length (path ++ p ∷ []) - 1) (path ++ p ∷ []) ≡ path
without_last path p = take_part path (p ∷ []) (length (path ++ p ∷ []) - 1) (let l = length-append path (p ∷ []) in omega arith)

same_course : (path : List ℕ) (i j : ℕ) (ps qs : List Interval) (ws vs : List ℕ) → i ≡ j → ps ≡ qs → ws ≡ vs → at_course path i ps ws ≡ at_course path j qs vs
same_course path i j ps qs ws vs e f g = cc

-- a node that ends
closes : (path : List ℕ) (p q : ℕ) (n : Node) (ps : List Interval) (ws : List ℕ) → p + 1 ≤ 4294967295 → course_after (at_course (path ++ p ∷ []) q ps ws) (Close n.kind n.name) ≡ at_course path (p + 1) ps ws
closes path p q n ps ws low =
    ap (λ (xs : List ℕ). at_course xs (position_after (slice_get (path ++ p ∷ []) (length (path ++ p ∷ []) - 1)) q) ps ws) (without_last path p)
    ∙ ap (λ (o : Option ℕ). at_course path (position_after o q) ps ws) (last_there path p)
    ∙ ap (λ (i : ℕ). at_course path i ps ws) (let e : min (p + 1) 4294967295 ≡ p + 1 = omega arith in e)

-- a node that begins, of whose content nothing is told
begins : (at : Course) (n : Node) (told : List WalkStep) → course_behind at (begun_steps false n ++ told) ≡ course_behind (course_into at) told
begins at n told =
    elim (nat_le (length n.content) longest_near) as (λ b. course_behind at ((if b then Open n ∷ [] else Head n.kind n.name ∷ (content_steps false n.content ++ Tail ∷ [])) ++ told) ≡ course_behind (course_into at) told) [
      | true ↦ refl
      | false ↦ refl
    ]

pub trees_laid : {P : Type 0} (k root : ℕ) (path : List ℕ) (position : ℕ) (ps : List Interval) (ws : List ℕ) (l : Cut Node P) → AreParts k l → position + nodes (forest l) ≤ 4294967295
    → course_behind (at_course (root ∷ path) position ps ws) (walk_steps false l) ≡ at_course (root ∷ path) (position + width l) (ps ++ intervals path position l) (ws ++ weights_below l)
trees_laid k root path position ps ws Bare h few = same_course (root ∷ path) position (position + 0) ps (ps ++ []) ws (ws ++ []) (omega arith) (sym (append-nil ps)) (sym (append-nil ws))
trees_laid k root path position ps ws (Grown n b s) h few =
    let inner = path ++ position ∷ [] in
    let ps1 = ps ++ intervals inner 0 b in
    let ws1 = ws ++ weights_below b in
    begins (at_course (root ∷ path) position ps ws) n (walk_steps false b ++ Close n.kind n.name ∷ walk_steps false s)
    ∙ behind-append (at_course (root ∷ inner) 0 ps ws) (walk_steps false b) (Close n.kind n.name ∷ walk_steps false s)
    ∙ ap (λ (at : Course). course_behind at (Close n.kind n.name ∷ walk_steps false s)) (trees_laid k root inner 0 ps ws b h.0 (omega arith))
    ∙ ap (λ (at : Course). course_behind at (walk_steps false s)) (closes (root ∷ path) position (0 + width b) n ps1 ws1 (omega arith))
    ∙ trees_laid k root path (position + 1) ps1 ws1 s h.1 (omega arith)
    ∙ same_course (root ∷ path) (position + 1 + width s) (position + (1 + width s)) (ps1 ++ intervals path (position + 1) s) (ps ++ (intervals inner 0 b ++ intervals path (position + 1) s))
    (ws1 ++ weights_below s) (ws ++ (weights_below b ++ weights_below s)) (omega arith) (append_assoc ps (intervals inner 0 b) (intervals path (position + 1) s)) (append_assoc ws (weights_below b) (weights_below s))
trees_laid k root path position ps ws (Kept p m s) h few =
    let some : 1 ≤ width m = h.0 in
    let wide = width_few m in
    let both = nodes-joined (forest m) (forest s) in
    let end : min (position + (width m - 1)) 4294967295 ≡ position + width m - 1 = omega arith in
    let run = Run path position (position + width m - 1) in
    let ps1 = ps ++ run ∷ [] in
    let ws1 = ws ++ part_weight m ∷ [] in
    let ps2 = ps1 ++ intervals path position m in
    let ws2 = ws1 ++ weights_below m in
    ap (λ (i : ℕ). course_behind (at_course (root ∷ path) position (ps ++ Run path position i ∷ []) ws1) (walk_steps false m ++ walk_steps false s)) end
    ∙ behind-append (at_course (root ∷ path) position ps1 ws1) (walk_steps false m) (walk_steps false s)
    ∙ ap (λ (at : Course). course_behind at (walk_steps false s)) (trees_laid k root path position ps1 ws1 m h.3 (omega arith))
    ∙ trees_laid k root path (position + width m) ps2 ws2 s h.4 (omega arith)
    ∙ same_course (root ∷ path) (position + width m + width s) (position + (width m + width s)) (ps2 ++ intervals path (position + width m) s) (ps ++ run ∷ (intervals path position m ++ intervals path (position + width m) s))
    (ws2 ++ weights_below s) (ws ++ part_weight m ∷ (weights_below m ++ weights_below s)) (omega arith)
    (append_assoc ps1 (intervals path position m) (intervals path (position + width m) s) ∙ append_assoc ps (run ∷ []) (intervals path position m ++ intervals path (position + width m) s))
    (append_assoc ws1 (weights_below m) (weights_below s) ∙ append_assoc ws (part_weight m ∷ []) (weights_below m ++ weights_below s))

-- what is laid of a document
pub laid_document : (k : ℕ) (t : CutTree) → AreParts k t.below → 1 + nodes (forest t.below) ≤ 4294967295
    → course_behind (at_course [] 0 [] []) (steps_of false t) ≡ at_course [] 1 (parts_of t) (part_weight (Grown t.node t.below Bare) ∷ weights_below t.below)
laid_document k t h few =
    let w = part_weight (Grown t.node t.below Bare) in
    let inner = walk_steps false t.below in
    let ps = Root ∷ intervals [] 0 t.below in
    let ws = w ∷ weights_below t.below in
    ap (course_behind (at_course [] 0 (Root ∷ []) (w ∷ []))) (append-nil (begun_steps false t.node ++ (inner ++ Close t.node.kind t.node.name ∷ [])))
    ∙ begins (at_course [] 0 (Root ∷ []) (w ∷ [])) t.node (inner ++ Close t.node.kind t.node.name ∷ [])
    ∙ behind-append (at_course (0 ∷ []) 0 (Root ∷ []) (w ∷ [])) inner (Close t.node.kind t.node.name ∷ [])
    ∙ ap (λ (at : Course). course_behind at (Close t.node.kind t.node.name ∷ [])) (trees_laid k 0 [] 0 (Root ∷ []) (w ∷ []) t.below h (omega arith))
    ∙ closes [] 0 (0 + width t.below) t.node ps ws (omega arith)

range-add : (a m n : ℕ) → range_with_len a (m + n) ≡ range_with_len a m ++ range_with_len (a + m) n
range-add a zero n =
    ap (λ (i : ℕ). range_with_len a i) (let e : 0 + n ≡ n = omega arith in e) ∙ ap (λ (i : ℕ). range_with_len i n) (let e : a ≡ a + 0 = omega arith in e)
range-add a (suc m) n =
    ap (λ (i : ℕ). range_with_len a i) (let e : suc m + n ≡ suc (m + n) = omega arith in e)
    ∙ ap (λ xs. a ∷ xs) (range-add (a + 1) m n)
    ∙ ap (λ (i : ℕ). a ∷ (range_with_len (a + 1) m ++ range_with_len i n)) (let e : a + 1 + m ≡ a + suc m = omega arith in e)

equal_if : (n x : ℕ) → (if n == n then x else 0) ≡ x
equal_if n x = grind (arith, nat_tests)

-- the weights that the intervals have by their numbers, as a list
numbered : (f : ℕ → ℕ) (base : ℕ) (c : CutForest) → ((i : ℕ) → base ≤ i → i < base + cuts c → f i ≡ weight_at i base c) → map f (range_with_len base (cuts c)) ≡ weights_below c
numbered f base Bare h = refl
numbered f base (Grown n b s) h =
    ap (map f) (range-add base (cuts b) (cuts s)) ∙ map-append f (range_with_len base (cuts b)) (range_with_len (base + cuts b) (cuts s))
    ∙ ap (λ xs. xs ++ map f (range_with_len (base + cuts b) (cuts s))) (numbered f base b (λ i low high. let e = h i low (omega arith) in let z = weight-below i (base + cuts b) s high in omega arith))
    ∙ ap (λ xs. weights_below b ++ xs) (numbered f (base + cuts b) s (λ i low high. let e = h i (omega arith) (omega arith) in let z = weight-above i base b low in omega arith))
numbered f base (Kept u m s) h =
    let first : f base ≡ part_weight m =
    let e = h base (omega arith) (omega arith) in let y = weight-below base (base + 1) m (omega arith) in let z = weight-below base (base + 1 + cuts m) s (omega arith) in let x = equal_if base (part_weight m) in omega arith in
    ap (λ (i : ℕ). map f (range_with_len base i)) (let e : 1 + cuts m + cuts s ≡ suc (cuts m + cuts s) = omega arith in e)
    ∙ ap (λ (x : ℕ). x ∷ map f (range_with_len (base + 1) (cuts m + cuts s))) first
    ∙ ap (λ xs. part_weight m ∷ map f xs) (range-add (base + 1) (cuts m) (cuts s))
    ∙ ap (λ xs. part_weight m ∷ xs) (map-append f (range_with_len (base + 1) (cuts m)) (range_with_len (base + 1 + cuts m) (cuts s)))
    ∙ ap (λ xs. part_weight m ∷ (xs ++ map f (range_with_len (base + 1 + cuts m) (cuts s))))
    (numbered f (base + 1) m (λ i low high.
    let e = h i (omega arith) (omega arith) in let x = other_if base i (part_weight m) (λ same. omega arith) in let z = weight-below i (base + 1 + cuts m) s high in omega arith))
    ∙ ap (λ xs. part_weight m ∷ (weights_below m ++ xs))
    (numbered f (base + 1 + cuts m) s (λ i low high.
    let e = h i (omega arith) (omega arith) in let x = other_if base i (part_weight m) (λ same. omega arith) in let z = weight-above i (base + 1) m low in omega arith))

-- the parts of a drawn tree weigh as they are drawn
pub drawn_weights : (k : ℕ) (t : CutTree) → AreParts k t.below → part_weights (tree_of t) (parts_of t) ≡ part_weight (Grown t.node t.below Bare) ∷ weights_below t.below
drawn_weights k t h =
    let f : ℕ → ℕ = λ i. parts.owned_weight (tree_of t) (parts_of t) i in
    let first : f 0 ≡ weight t.node + part_weight t.below + 0 = let e = part_is k t 0 h in let z = weight-below 0 1 t.below (omega arith) in omega arith in
    ap (λ (x : ℕ). x ∷ map f (range_with_len 1 (length (intervals [] 0 t.below)))) first
    ∙ ap (λ (i : ℕ). part_weight (Grown t.node t.below Bare) ∷ map f (range_with_len 1 i)) (length-intervals [] 0 t.below)
    ∙ ap (λ xs. part_weight (Grown t.node t.below Bare) ∷ xs)
    (numbered f 1 t.below (λ i low high.
    let e = part_is k t i h in let x = other_if 0 i (weight t.node) (λ same. omega arith) in let y = other_if 0 i (part_weight t.below) (λ same. omega arith) in omega arith))

module _ {D : Type 0} {d : Ghosts D} {records : Records} {disk : D} {root : RecordPlace} {document : CutTree} (h : HasDocument d records disk root document) where
  document_light : AreParts (h.now.settings).k document.below
  document_light = subst (λ (c : CutForest). AreParts (h.now.settings).k c) h.laid.laid.same h.laid.laid.light.3.0

  laid : course_behind (at_course [] 0 [] []) (steps_of false document) ≡ at_course [] 1 (parts_of document) (part_weight (Grown document.node document.below Bare) ∷ weights_below document.below)
  laid = laid_document (h.now.settings).k document document_light (let few : 1 + nodes (forest document.below) ≤ 524288 = h.laid.laid.is_document.small in omega arith)

  pub has_parts : (course_behind (at_course [] 0 [] []) (steps_of false document)).parts ≡ parts_of document
  has_parts = ap (λ (at : Course). at.parts) laid

  pub has_weights : (course_behind (at_course [] 0 [] []) (steps_of false document)).weights ≡ part_weights (tree_of document) (parts_of document)
  has_weights = ap (λ (at : Course). at.weights) laid ∙ sym (drawn_weights (h.now.settings).k document document_light)
