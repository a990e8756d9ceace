-- No two items have one beginning of bytes in common, and no two rows of items.
use Rattle.std.proofs.Common.{◌≡◌, ℕ, zero, suc, ◌+◌, ◌<◌, ◌≤◌, List, [], ◌∷◌, ◌++◌, length, take, drop, get_or, refl, sym, ap, ◌∙◌, arith, append_assoc}
use Rattle.std.specs.Int.{w16, w32, from_be_bytes}
use Rattle.std.proofs.lemmas.Nat.{from_be_bytes-to_be_bytes_2, from_be_bytes-to_be_bytes_4}
use Rattle.std.proofs.lemmas.List.{length-append, length-replicate}
use Rattle.nx_tree.specs.declared.node.Kind.{Kind}
use Rattle.nx_tree.specs.declared.node.Kind.TheVariants.{Doc, Element, Attribute, Text, Instruction}
use Rattle.nx_tree.specs.declared.node.Node.{Node}
use Rattle.std.specs.Prelude.{Option, None, Some}
use Rattle.nx_piece.specs.declared.piece.Far.{Far}
use Rattle.nx_piece.specs.PieceNode.{PieceNode, item_content, content_with, item_slots, IsFarWith, MayBeFar, HasFarPage}
use Rattle.nx_piece.specs.Gapped.{Gapped, End, Grow, Gap, gapped_width, gapped_size, proxies_in}
use Rattle.nx_piece.specs.Encoding.{two_bytes, four_bytes, kind_byte, far_byte, padding, content_bytes, node_bytes, run_bytes, items_bytes}
use Rattle.nx_piece.specs.Valid.{AreApart, AreFar, HavePages}
use Rattle.nx_piece.proofs.WalkLemmas.{item_count_most, width_most}

pub two_unique : (a b : ℕ) → a < 65536 → b < 65536 → two_bytes a ≡ two_bytes b → a ≡ b
two_unique a b h k e = sym (from_be_bytes-to_be_bytes_2 a h) ∙ ap (from_be_bytes w16) e ∙ from_be_bytes-to_be_bytes_2 b k

pub four_unique : (a b : ℕ) → a < 4294967296 → b < 4294967296 → four_bytes a ≡ four_bytes b → a ≡ b
four_unique a b h k e = sym (from_be_bytes-to_be_bytes_4 a h) ∙ ap (from_be_bytes w32) e ∙ from_be_bytes-to_be_bytes_4 b k

-- the kind of a byte
pub kind_from : ℕ → Kind
kind_from (suc (suc zero)) = Element
kind_from (suc (suc (suc zero))) = Attribute
kind_from (suc (suc (suc (suc zero)))) = Text
kind_from (suc (suc (suc (suc (suc zero))))) = Instruction
kind_from _ = Doc

pub kind_back : (k : Kind) → kind_from (kind_byte k) ≡ k
unfolding kind_from
kind_back Doc = refl
kind_back Element = refl
kind_back Attribute = refl
kind_back Text = refl
kind_back Instruction = refl

kind_unique : (k l : Kind) → kind_byte k ≡ kind_byte l → k ≡ l
kind_unique k l e = sym (kind_back k) ∙ ap kind_from e ∙ kind_back l

pub kind_no_run : (k : Kind) → kind_byte k ≡ 6 → ⊥
kind_no_run Doc e = omega arith
kind_no_run Element e = omega arith
kind_no_run Attribute e = omega arith
kind_no_run Text e = omega arith
kind_no_run Instruction e = omega arith

-- lists of one length are told apart in front of anything
pub append_unique : {A : Type 0} (a b x y : List A) → length a ≡ length b → a ++ x ≡ b ++ y → (a ≡ b) × (x ≡ y)
append_unique [] [] x y n e = (refl, e)
append_unique [] (c ∷ b) x y n e = absurd (omega arith)
append_unique (c ∷ a) [] x y n e = absurd (omega arith)
append_unique (c ∷ a) (d ∷ b) x y n e =
    let i = append_unique a b x y (omega arith) (ap (drop 1) e) in
    let h : c ≡ d = cc in let t : a ≡ b = i.0 in (cc, i.1)

abbrev pub IsSmallNode : PieceNode → Type 0
IsSmallNode node = item_slots node ≤ 256

pub small_lengths : (n : PieceNode) → IsSmallNode n → (length n.node.name < 65536) × (length (item_content n) < 65536)
small_lengths n h = (omega arith, omega arith)

same_node : (n m : Node) → n.kind ≡ m.kind → n.name ≡ m.name → n.content ≡ m.content → n ≡ m
same_node n m k a c =
    ap (λ (x : Kind). record { kind = x; name = n.name; content = n.content }) k
    ∙ ap (λ (x : List ℕ). record { kind = m.kind; name = x; content = n.content }) a
    ∙ ap (λ (x : List ℕ). record { kind = m.kind; name = m.name; content = x }) c

pub length-content : (a b : List ℕ) → length (content_bytes a b) ≡ length a + length b + padding (length a + length b)
length-content a b = simp (length-append, length-replicate)

pub content_unique : (a b c d x y : List ℕ) → length a ≡ length c → length b ≡ length d → content_bytes a b ++ x ≡ content_bytes c d ++ y → (a ≡ c) × (b ≡ d) × (x ≡ y)
content_unique a b c d x y names places e =
    let sum : length a + length b ≡ length c + length d = omega arith in
    let whole = append_unique (content_bytes a b) (content_bytes c d) x y (length-content a b ∙ ap (λ (k : ℕ). k + padding k) sum ∙ sym (length-content c d)) e in
    let front = append_unique (a ++ b) (c ++ d) _ _ (length-append a b ∙ sum ∙ sym (length-append c d)) whole.0 in
    let both = append_unique a c b d names front.0 in
    (both.0, both.1, whole.1)

-- what stands in a content's place tells the content, or where it is
far_unique : (own other : List ℕ) (f g : Option Far) → IsFarWith own f → IsFarWith other g → HasFarPage f → HasFarPage g → far_byte f ≡ far_byte g → content_with own f ≡ content_with other g → (own ≡ other) × (f ≡ g)
far_unique own other None None hf hg pf pg b e = (e, refl)
far_unique own other None (Some g) hf hg pf pg b e = absurd (omega arith)
far_unique own other (Some f) None hf hg pf pg b e = absurd (omega arith)
far_unique own other (Some f) (Some g) hf hg pf pg b e =
    let lf : f.length ≤ 1048576 = hf.2 in
    let lg : g.length ≤ 1048576 = hg.2 in
    let first : f.first ≡ g.first = four_unique f.first g.first pf pg (ap (λ (l : List ℕ). take 4 l) e) in
    let long : f.length ≡ g.length = four_unique f.length g.length (omega arith) (omega arith) (ap (λ (l : List ℕ). take 4 (drop 4 l)) e) in (
      hf.0 ∙ sym hg.0,
      ap (λ (k : ℕ). Some (record { first = k; length = f.length })) first ∙ ap (λ (k : ℕ). Some (record { first = g.first; length = k })) long,
    )

pub node_unique : {n m : PieceNode} {i j : ℕ} {x y : List ℕ} → IsSmallNode n → IsSmallNode m → MayBeFar n → MayBeFar m → HasFarPage n.far → HasFarPage m.far → i < 65536 → j < 65536 → node_bytes n i ++ x ≡ node_bytes m j ++ y
    → (n ≡ m) × (i ≡ j) × (x ≡ y)
node_unique {n} {m} {i} {j} {x} {y} hn hm fn fm pn pm hi hj e =
    let kinds : n.node.kind ≡ m.node.kind = kind_unique n.node.kind m.node.kind (ap (λ (l : List ℕ). get_or l 0 0) e) in
    let byte : far_byte n.far ≡ far_byte m.far = ap (λ (l : List ℕ). get_or l 1 0) e in
    let name : length n.node.name ≡ length m.node.name = two_unique _ _ (small_lengths n hn).0 (small_lengths m hm).0 (ap (λ (l : List ℕ). take 2 (drop 2 l)) e) in
    let place : length (item_content n) ≡ length (item_content m) = two_unique _ _ (small_lengths n hn).1 (small_lengths m hm).1 (ap (λ (l : List ℕ). take 2 (drop 4 l)) e) in
    let items : i ≡ j = two_unique i j hi hj (ap (λ (l : List ℕ). take 2 (drop 6 l)) e) in
    let rest = content_unique n.node.name (item_content n) m.node.name (item_content m) x y name place (ap (drop 8) e) in
    let content = far_unique n.node.content m.node.content n.far m.far fn fm pn pm byte rest.1 in
    let node : n.node ≡ m.node = same_node n.node m.node kinds rest.0 content.0 in
    (ap (λ (k : Node). record { node = k; far = n.far }) node ∙ ap (λ (f : Option Far). record { node = m.node; far = f }) content.1, items, rest.2)

pub run_unique : (c d : ℕ) (x y : List ℕ) → c < 4294967296 → d < 4294967296 → run_bytes c ++ x ≡ run_bytes d ++ y → (c ≡ d) × (x ≡ y)
run_unique c d x y hc hd e = (four_unique c d hc hd (ap (λ (l : List ℕ). take 4 (drop 4 l)) e), ap (drop 8) e)

pub node_no_run : (n : PieceNode) (i c : ℕ) (x y : List ℕ) → node_bytes n i ++ x ≡ run_bytes c ++ y → ⊥
node_no_run n i c x y e = kind_no_run n.node.kind (ap (λ (l : List ℕ). get_or l 0 0) e)

-- one row of trees and gaps before another
abbrev pub row : Gapped → Gapped → Gapped
row End last = last
row (Grow node below beside) last = Grow node below (row beside last)
row (Gap count beside) last = Gap count (row beside last)

-- the trees and gaps of a piece, whose numbers fit their fields
pub record IsStorable (f : Gapped) : Type 0 where
  pub small : gapped_size f ≤ 256
  pub few : proxies_in f ≤ 524288
  pub apart : AreApart f
  pub far : AreFar f
  pub pages : HavePages f

pub storable_node : (n : PieceNode) (b s : Gapped) → IsStorable (Grow n b s) → IsSmallNode n × (gapped_width b < 65536) × IsStorable b × IsStorable s
storable_node n b s h =
    let l = h.small in let p = h.few in
    let k = item_count_most b h.apart.0 in let w = width_most b in
    (omega arith, omega arith, record { small = omega arith; few = omega arith; apart = h.apart.0; far = h.far.1; pages = h.pages.1 }, record { small = omega arith; few = omega arith; apart = h.apart.1; far = h.far.2; pages = h.pages.2 })

pub storable_gap : (c : ℕ) (s : Gapped) → IsStorable (Gap c s) → (c < 4294967296) × IsStorable s
storable_gap c s h = let l = h.small in let p = h.few in (omega arith, record { small = omega arith; few = omega arith; apart = h.apart.2; far = h.far; pages = h.pages })

pub width_row : (f g : Gapped) → gapped_width (row f g) ≡ gapped_width f + gapped_width g
width_row End g = omega arith
width_row (Grow n b s) g = let h = width_row s g in omega (arith, h)
width_row (Gap c s) g = let h = width_row s g in omega (arith, h)

pub row_end : (f : Gapped) → row f End ≡ f
row_end End = refl
row_end (Grow n b s) = ap (Grow n b) (row_end s)
row_end (Gap c s) = ap (Gap c) (row_end s)

no_width : (f : Gapped) → gapped_width f ≡ 0 → f ≡ End
no_width End h = refl
no_width (Grow n b s) h = absurd (omega arith)
no_width (Gap c s) h = absurd (omega arith)

-- g begins with f, and so do the bytes
pub record GoesOn (f g : Gapped) (x y : List ℕ) : Type 0 where
  pub rest : Gapped
  pub is : g ≡ row f rest
  pub bytes : x ≡ items_bytes rest ++ y

-- what goes on to the same width is the same
pub goes_nowhere : (f g : Gapped) (x y : List ℕ) → GoesOn f g x y → gapped_width f ≡ gapped_width g → (g ≡ f) × (x ≡ y)
goes_nowhere f g x y h w =
    let sum = width_row f h.rest in let is = ap gapped_width h.is in
    let none : h.rest ≡ End = no_width h.rest (omega arith) in
    (h.is ∙ ap (row f) none ∙ row_end f, h.bytes ∙ ap (λ (r : Gapped). items_bytes r ++ y) none)

-- the bytes of a tree before others
pub grow_bytes : (n : PieceNode) (b s : Gapped) (x : List ℕ) → node_bytes n (gapped_width b) ++ (items_bytes b ++ (items_bytes s ++ x)) ≡ items_bytes (Grow n b s) ++ x
grow_bytes n b s x =
    sym (append_assoc (node_bytes n (gapped_width b) ++ items_bytes b) (items_bytes s) x ∙ append_assoc (node_bytes n (gapped_width b)) (items_bytes b) (items_bytes s ++ x))

-- of two rows with one beginning of bytes in common the narrower one begins the wider one
pub goes_on : (f g : Gapped) (x y : List ℕ) → IsStorable f → IsStorable g → gapped_width f ≤ gapped_width g → items_bytes f ++ x ≡ items_bytes g ++ y → GoesOn f g x y
goes_on End g x y hf hg w e = record { rest = g; is = refl; bytes = e }
goes_on (Grow n b s) End x y hf hg w e = absurd (omega arith)
goes_on (Gap c s) End x y hf hg w e = absurd (omega arith)
goes_on (Grow n b s) (Gap d t) x y hf hg w e = absurd (node_no_run n (gapped_width b) d (items_bytes b ++ (items_bytes s ++ x)) (items_bytes t ++ y) (grow_bytes n b s x ∙ e))
goes_on (Gap c s) (Grow m d t) x y hf hg w e = absurd (node_no_run m (gapped_width d) c (items_bytes d ++ (items_bytes t ++ y)) (items_bytes s ++ x) (grow_bytes m d t y ∙ sym e))
goes_on (Gap c s) (Gap d t) x y hf hg w e =
    let told = run_unique c d (items_bytes s ++ x) (items_bytes t ++ y) (storable_gap c s hf).0 (storable_gap d t hg).0 e in
    let on = goes_on s t x y (storable_gap c s hf).1 (storable_gap d t hg).1 (omega arith) told.1 in
    record { rest = on.rest; is = ap (λ (k : ℕ). Gap k t) (sym told.0) ∙ ap (Gap c) on.is; bytes = on.bytes }
goes_on (Grow n b s) (Grow m d t) x y hf hg w e =
    let p = storable_node n b s hf in let q = storable_node m d t hg in
    let told : (n ≡ m) × (gapped_width b ≡ gapped_width d) × (items_bytes b ++ (items_bytes s ++ x) ≡ items_bytes d ++ (items_bytes t ++ y)) =
    node_unique p.0 q.0 hf.far.0 hg.far.0 hf.pages.0 hg.pages.0 p.1 q.1 (grow_bytes n b s x ∙ e ∙ sym (grow_bytes m d t y)) in
    let same : gapped_width b ≡ gapped_width d = told.1 in
    let below = goes_nowhere b d _ _ (goes_on b d (items_bytes s ++ x) (items_bytes t ++ y) p.2 q.2 (omega arith) told.2) same in
    let on = goes_on s t x y p.3 q.3 (omega arith) below.1 in
    record {
      rest = on.rest;
      is = ap (λ (k : PieceNode). Grow k d t) (sym told.0) ∙ ap (λ (k : Gapped). Grow n k t) below.0 ∙ ap (Grow n b) on.is;
      bytes = on.bytes;
    }

-- two rows of one width with one beginning of bytes in common are one
pub one_row : (f g : Gapped) (x y : List ℕ) → IsStorable f → IsStorable g → gapped_width f ≡ gapped_width g → items_bytes f ++ x ≡ items_bytes g ++ y → (g ≡ f) × (x ≡ y)
one_row f g x y hf hg w e = goes_nowhere f g x y (goes_on f g x y hf hg (omega arith) e) w
