-- Heads, roots and proxies: how long they are, and that no two begin alike.
use Rattle.std.proofs.Common.{◌≡◌, ℕ, ◌+◌, ◌-◌, ◌*◌, ◌<◌, ◌≤◌, Bool, true, false, ◌&&◌, ◌||◌, List, [], ◌∷◌, ◌++◌, length, take, drop, get_or, refl, sym, ap, ◌∙◌, subst, arith, append_assoc}
use Rattle.std.proofs.lemmas.List.{length-append, append-nil, nil_from_length}
use Rattle.std.proofs.lemmas.Grind.{div_ceil_times}
use Rattle.std.specs.Bool.{MatchBool}
use Rattle.nx_piece.specs.declared.reading.Left.{Left}
use Rattle.std.specs.Prelude.{None}
use Rattle.nx_piece.specs.declared.piece.Proxy.{Proxy}
use Rattle.nx_piece.specs.declared.piece.Stored.TheVariants.{Inline, Chained}
use Rattle.nx_piece.specs.Decoded.{IsDecoded}
use Rattle.nx_piece.specs.PieceNode.{PieceNode, item_content, item_slots}
use Rattle.nx_piece.specs.Gapped.{Gapped, GappedTree, End, Grow, Gap, item_count, gapped_width, gapped_size, proxies_in, slots_in}
use Rattle.nx_piece.specs.Encoding.{four_bytes, node_bytes, items_bytes, proxy_bytes, proxies_bytes, items_head_bytes, head_bytes, body_bytes}
use Rattle.nx_piece.specs.Valid.{AreTrees, BeginsNoGap, HavePages, IsValidBody, IsValidInline, IsValidChained, HaveRoots, HaveNumbers, longest_inline}
use Rattle.nx_piece.specs.Reading.{alone, HasReadItems, BeginsWithItems, BeginsNoTree, BeginsNoRun, BeginsNoItems, BeginsNoBody, BeginsNoHead, BeginsNoProxiesHead, IsReadBody, IsLeft}
use Rattle.nx_piece.proofs.WalkLemmas.{item_count_most}
use Rattle.nx_piece.proofs.ApartLemmas.{two_unique, four_unique, row, width_row, IsStorable, one_row, length-content}
use Rattle.nx_piece.proofs.PageLemmas.{paged, paged_bytes, paged_valid}
use Rattle.nx_piece.proofs.ReadLemmas.{ItemsRead, ends_in_gap, remains, nothing_begins}

node_length : (n : PieceNode) (i : ℕ) → length (node_bytes n i) ≡ 8 * item_slots n
node_length n i =
    let times = div_ceil_times (length n.node.name + length (item_content n)) 8 (omega arith) in
    let c = length-content n.node.name (item_content n) in
    omega arith

-- items take 8 bytes for each word
pub items_length : (f : Gapped) → length (items_bytes f) ≡ 8 * slots_in f
items_length End = refl
items_length (Grow n b s) =
    let h = node_length n (gapped_width b) in let p = items_length b in let q = items_length s in
    let x = length-append (node_bytes n (gapped_width b) ++ items_bytes b) (items_bytes s) in
    let y = length-append (node_bytes n (gapped_width b)) (items_bytes b) in
    omega arith
items_length (Gap c s) = let q = items_length s in omega arith

pub proxies_length : (proxies : List Proxy) → length (proxies_bytes proxies) ≡ 8 * length proxies
proxies_length [] = refl
proxies_length (p ∷ proxies) = let h = proxies_length proxies in omega arith

pub valid_storable : (f : Gapped) (p : ℕ) → IsValidBody f p → HavePages f → IsStorable f
valid_storable f p h k = let c = h.counted in let q = h.few_proxies in record { small = h.small; few = omega arith; apart = h.apart; far = h.far; pages = k }

-- what two bodies with one beginning of bytes in common have in common
pub record IsSameBody (form form' : ℕ) (f g : Gapped) (p q c d : ℕ) (x y : List ℕ) : Type 0 where
  pub form_same : form ≡ form'
  pub roots : g ≡ f
  pub proxies : p ≡ q
  pub chain : four_bytes c ≡ four_bytes d
  pub behind : x ≡ y

pub body_unique : {form form' p q c d : ℕ} {f g : Gapped} {x y : List ℕ} → IsValidBody f p → IsValidBody g q → HavePages f → HavePages g → body_bytes form f p c ++ x ≡ body_bytes form' g q d ++ y → IsSameBody form form' f g p q c d x y
body_unique {form} {form'} {p} {q} {c} {d} {f} {g} {x} {y} hf hg pf pg e =
    let w : gapped_width f ≡ gapped_width g = two_unique (gapped_width f) (gapped_width g) (let a = hf.few in omega arith) (let a = hg.few in omega arith) (ap (λ (l : List ℕ). take 2 (drop 2 l)) e) in
    let n : p ≡ q = four_unique p q (let a = hf.few_proxies in omega arith) (let a = hg.few_proxies in omega arith) (ap (λ (l : List ℕ). take 4 (drop 8 l)) e) in
    let r = one_row f g x y (valid_storable f p hf pf) (valid_storable g q hg pg) w (ap (drop 16) e) in
    record {
      form_same = ap (λ (l : List ℕ). get_or l 0 0) e;
      roots = r.0;
      proxies = n;
      chain = ap (λ (l : List ℕ). take 4 (drop 12 l)) e;
      behind = r.1;
    }

-- trees stand behind trees
pub trees_row : (f : Gapped) (t : GappedTree) → AreTrees f → AreTrees (row f (alone t))
trees_row End t h = tt
trees_row (Grow n b s) t h = trees_row s t h
trees_row (Gap c s) t h = absurd h

row_trees : (f g : Gapped) → AreTrees (row f g) → AreTrees g
row_trees End g h = h
row_trees (Grow n b s) g h = row_trees s g h
row_trees (Gap c s) g h = absurd h

trees_first : (f : Gapped) → AreTrees f → BeginsNoGap f
trees_first End h = tt
trees_first (Grow n b s) h = tt
trees_first (Gap c s) h = h

no_gap_next : (are_roots after_run : Bool) (f last : Gapped) → (are_roots ≡ true → AreTrees (row f last)) → (ends_in_gap f ≡ true → BeginsNoGap last) → ends_in_gap f ≡ after_run → (are_roots || after_run) ≡ true → BeginsNoGap last
no_gap_next true after_run f last trees next run e = trees_first last (row_trees f last (trees refl))
no_gap_next false after_run f last trees next run e = next (run ∙ e)

-- where an item doesn't begin there are not so many
pub no_items : {bytes rest : List ℕ} {before left : Left} {f : Gapped} {i count : ℕ} {after_run are_roots : Bool} → ItemsRead bytes before f rest left i after_run → IsLeft before → i < count
    → BeginsNoTree rest left → BeginsNoRun rest left (are_roots || after_run) → BeginsNoItems bytes before count are_roots
no_items {bytes} {rest} {before} {left} {f} {i} {count} {after_run} {are_roots} h l within none runs g behind trees w b =
    let n = h.counted in
    let r = remains h.read b l (omega arith) in
    let wide : 0 < gapped_width r.last = let x = ap gapped_width r.is ∙ width_row f r.last in omega arith in
    nothing_begins r.begins wide none runs (no_gap_next are_roots after_run f r.last (λ e. subst AreTrees r.is (trees e)) r.next h.run)

-- the first proxies are read, and whether each of them has 1 to 256 roots is known
pub record ProxiesSeen (bytes : List ℕ) (seen : List Proxy) (rest : List ℕ) (fit : Bool) : Type 0 where
  pub same : bytes ≡ proxies_bytes seen ++ rest
  pub numbers : HaveNumbers seen
  pub ranged : fit ≡ true → HaveRoots seen
  pub none : fit ≡ false → (ps : List Proxy) → HaveRoots ps → bytes ≡ proxies_bytes ps → ⊥

pub no_proxy_seen : (bytes : List ℕ) → ProxiesSeen bytes [] bytes true
no_proxy_seen bytes = record { same = refl; numbers = tt; ranged = λ _. tt; none = λ e. absurd (cc) }

proxies_append : (ps qs : List Proxy) → proxies_bytes (ps ++ qs) ≡ proxies_bytes ps ++ proxies_bytes qs
proxies_append [] qs = refl
proxies_append (p ∷ ps) qs = ap (λ (r : List ℕ). proxy_bytes p ++ r) (proxies_append ps qs)

ranged_append : (ps : List Proxy) (p : Proxy) → HaveRoots ps → (1 ≤ p.roots) × (p.roots ≤ 256) → HaveRoots (ps ++ p ∷ [])
ranged_append [] p h k = (k.0, k.1, tt)
ranged_append (q ∷ ps) p h k = (h.0, h.1, ranged_append ps p h.2 k)

numbers_append : (ps : List Proxy) (p : Proxy) → HaveNumbers ps → (p.page < 4294967296) × (p.slot < 65536) → HaveNumbers (ps ++ p ∷ [])
numbers_append [] p h k = (k.0, k.1, tt)
numbers_append (q ∷ ps) p h k = (h.0, h.1, numbers_append ps p h.2 k)

-- behind some proxies stand the others
proxies_left : (read all : List Proxy) (rest : List ℕ) → proxies_bytes read ++ rest ≡ proxies_bytes all → length read ≤ length all → HaveRoots all → (last : List Proxy) × (rest ≡ proxies_bytes last) × (length read + length last ≡ length all) × HaveRoots last
proxies_left [] all rest e w h = (all, e, omega arith, h)
proxies_left (p ∷ read) [] rest e w h = absurd (omega arith)
proxies_left (p ∷ read) (q ∷ all) rest e w h =
    let r = proxies_left read all rest (ap (drop 8) e) (omega arith) h.2 in
    let n : length read + length r.0 ≡ length all = r.2 in
    (r.0, r.1, omega arith, r.3)

-- a proxy without 1 to 256 roots stands behind the first ones
unfit : {bytes rest behind : List ℕ} (read : List Proxy) (p : Proxy) → bytes ≡ proxies_bytes read ++ rest → rest ≡ proxy_bytes p ++ behind → p.roots < 65536 → ((1 ≤ p.roots) × (p.roots ≤ 256) → ⊥)
    → (ps : List Proxy) → HaveRoots ps → bytes ≡ proxies_bytes ps → ⊥
unfit {bytes} {rest} {behind} read p same is fits bad ps ranged e =
    let l = ap length (sym same ∙ e) in let m = ap length is in
    let few : length read < length ps = omega (arith, length-append (proxies_bytes read) rest, proxies_length read, proxies_length ps) in
    let r = proxies_left read ps rest (sym same ∙ e) (omega arith) ranged in
    let sum : length read + length r.0 ≡ length ps = r.2 in
    go r.0 (omega arith) (sym is ∙ r.1) r.3
  where
    go : (last : List Proxy) → 0 < length last → proxy_bytes p ++ behind ≡ proxies_bytes last → HaveRoots last → ⊥
    go [] w is h = omega arith
    go (q ∷ last) w is h =
        let one = h.0 in let most = h.1 in
        let q_is : p.roots ≡ q.roots = two_unique p.roots q.roots fits (omega arith) (ap (λ (l : List ℕ). take 2 (drop 6 l)) is) in
        bad (omega arith, omega arith)

pub proxy_seen : {bytes rest behind : List ℕ} {ps qs : List Proxy} {p : Proxy} {fit : Bool} (has : Bool) → ProxiesSeen bytes ps rest fit → (rest ≡ proxy_bytes p ++ behind) × (p.page < 4294967296) × (p.slot < 65536) × (p.roots < 65536)
    → MatchBool has ((1 ≤ p.roots) × (p.roots ≤ 256)) ((1 ≤ p.roots) × (p.roots ≤ 256) → ⊥) → qs ≡ ps ++ p ∷ [] → ProxiesSeen bytes qs behind (fit && has)
proxy_seen {bytes} {rest} {behind} {ps} {qs} {p} {fit} has h k test e =
    subst (λ (x : List Proxy). ProxiesSeen bytes x behind (fit && has)) (sym e)
    (record {
      same = h.same ∙ ap (λ (r : List ℕ). proxies_bytes ps ++ r) k.0 ∙ sym (ap (λ (r : List ℕ). r ++ behind) (proxies_append ps (p ∷ [])) ∙ append_assoc (proxies_bytes ps) (proxy_bytes p) behind);
      numbers = numbers_append ps p h.numbers (k.1, k.2);
      ranged = fits fit has h.ranged test;
      none = fails fit has h.none test;
    })
  where
    fits : (fit has : Bool) → (fit ≡ true → HaveRoots ps) → MatchBool has ((1 ≤ p.roots) × (p.roots ≤ 256)) ((1 ≤ p.roots) × (p.roots ≤ 256) → ⊥) → fit && has ≡ true → HaveRoots (ps ++ p ∷ [])
    fits true true g t e = ranged_append ps p (g refl) t
    fits true false g t e = absurd (cc)
    fits false has g t e = absurd (cc)

    fails : (fit has : Bool) → (fit ≡ false → (ps : List Proxy) → HaveRoots ps → bytes ≡ proxies_bytes ps → ⊥) → MatchBool has ((1 ≤ p.roots) × (p.roots ≤ 256)) ((1 ≤ p.roots) × (p.roots ≤ 256) → ⊥) → fit && has ≡ false
        → (ps : List Proxy) → HaveRoots ps → bytes ≡ proxies_bytes ps → ⊥
    fails true true g t e = absurd (cc)
    fails true false g t e = unfit ps p h.same k.0 k.3 t
    fails false has g t e = g refl

-- so many proxies are read and nothing is left
pub proxies_seen : {bytes rest : List ℕ} {seen : List Proxy} {fit : Bool} {count : ℕ} → ProxiesSeen bytes seen rest fit → fit ≡ true → length bytes ≡ 8 * count → length rest < 8
    → (bytes ≡ proxies_bytes seen) × HaveRoots seen × (length seen ≡ count) × HaveNumbers seen
proxies_seen {bytes} {rest} {seen} {fit} {count} h is l short =
    let whole = ap length h.same in
    let none : length rest ≡ 0 = omega (arith, length-append (proxies_bytes seen) rest, proxies_length seen) in
    (h.same ∙ ap (λ (r : List ℕ). proxies_bytes seen ++ r) (nil_from_length rest none) ∙ append-nil (proxies_bytes seen), h.ranged is, omega (arith, length-append (proxies_bytes seen) rest, proxies_length seen), h.numbers)

pub no_chain : {bytes behind : List ℕ} {form : ℕ} (roots items : ℕ) → bytes ≡ items_head_bytes form roots items ++ behind → BeginsNoProxiesHead behind → BeginsNoHead bytes
no_chain roots items head none form' roots' items' proxies chain rest is = none proxies chain rest (ap (drop 8) (sym head ∙ is))

-- the numbers of a head are those of the body that the bytes begin with
pub record IsHeadOf (roots items proxies : ℕ) (behind : List ℕ) (f : Gapped) (p : ℕ) (rest : List ℕ) : Type 0 where
  pub wide : roots ≡ gapped_width f
  pub many : items ≡ item_count f
  pub all : proxies ≡ p
  pub same : behind ≡ items_bytes f ++ rest

pub head_unique : {bytes behind : List ℕ} {form roots items proxies chain : ℕ} → (bytes ≡ head_bytes form roots items proxies chain ++ behind) × (roots < 65536) × (items < 4294967296) × (proxies < 4294967296) × (chain < 4294967296)
    → (form' : ℕ) (f : Gapped) (p c : ℕ) (rest : List ℕ) → IsValidBody f p → bytes ≡ body_bytes form' f p c ++ rest → IsHeadOf roots items proxies behind f p rest
head_unique {bytes} {behind} {form} {roots} {items} {proxies} {chain} head form' f p c rest valid is =
    let e = sym head.0 ∙ is in
    record {
      wide = two_unique roots (gapped_width f) head.1 (let a = valid.few in omega arith) (ap (λ (l : List ℕ). take 2 (drop 2 l)) e);
      many = four_unique items (item_count f) head.2 (let s = item_count_most f valid.apart in let l = valid.small in omega arith) (ap (λ (l : List ℕ). take 4 (drop 4 l)) e);
      all = four_unique proxies p head.3 (let a = valid.few_proxies in omega arith) (ap (λ (l : List ℕ). take 4 (drop 8 l)) e);
      same = ap (drop 16) e;
    }

abbrev pub Head : (bytes behind : List ℕ) (form roots items proxies chain : ℕ) → Type 0
Head bytes behind form roots items proxies chain =
    (bytes ≡ head_bytes form roots items proxies chain ++ behind) × (roots < 65536) × (items < 4294967296) × (proxies < 4294967296) × (chain < 4294967296)

-- a head whose numbers are too small or too large begins no body
pub bad_numbers : {bytes behind : List ℕ} {form roots items proxies chain : ℕ} → Head bytes behind form roots items proxies chain → ((1 ≤ roots) × (roots ≤ 256) × (proxies ≤ 524288) → ⊥) → BeginsNoBody bytes
bad_numbers {bytes} {behind} {form} {roots} {items} {proxies} {chain} head bad form' f p c rest valid pages is =
    let t = head_unique head form' f p c rest valid is in
    let w = t.wide in let a = t.all in
    let s = valid.some in let m = valid.few in let q = valid.few_proxies in
    bad (omega arith, omega arith, omega arith)

abbrev pub start : (proxies items : ℕ) → Left
start proxies items = record { room = 256; proxies = proxies; items = items }

-- what is left where a body begins
begins_roots : {behind rest : List ℕ} {roots items proxies p : ℕ} {f : Gapped} → IsHeadOf roots items proxies behind f p rest → IsValidBody f p → HavePages f → BeginsWithItems behind (start proxies items) f rest
begins_roots {behind} {rest} {roots} {items} {proxies} {p} {f} t valid pages =
    record {
      same = t.same;
      room = valid.small;
      proxies = let a = t.all in let k = valid.counted in omega arith;
      items = let a = t.many in omega arith;
      apart = valid.apart;
      far = valid.far;
      pages = pages;
    }

pub bad_roots : {bytes behind : List ℕ} {form roots items proxies chain : ℕ} → Head bytes behind form roots items proxies chain → BeginsNoItems behind (start proxies items) roots true → BeginsNoBody bytes
bad_roots {bytes} {behind} {form} {roots} {items} {proxies} {chain} head bad form' f p c rest valid pages is =
    let t = head_unique head form' f p c rest valid is in
    bad f rest (λ _. valid.trees) (sym t.wide) (begins_roots t valid pages)

-- each item takes 8 bytes at least
items_few : (f : Gapped) → item_count f ≤ slots_in f
items_few End = omega arith
items_few (Grow n b s) = omega (arith, items_few b, items_few s)
items_few (Gap c s) = omega (arith, items_few s)

-- a head with more items than the bytes behind it can hold begins no body
pub bad_items : {bytes behind : List ℕ} {form roots items proxies chain : ℕ} → Head bytes behind form roots items proxies chain → length behind < 8 * items → BeginsNoBody bytes
bad_items {bytes} {behind} {form} {roots} {items} {proxies} {chain} head many form' f p c rest valid pages is =
    let t = head_unique head form' f p c rest valid is in
    let n = t.many in let long = ap length t.same ∙ length-append (items_bytes f) rest in
    omega (arith, items_length f, items_few f)

pub bad_sums : {bytes behind rest : List ℕ} {form roots items proxies chain : ℕ} {g : Gapped} {left : Left} → Head bytes behind form roots items proxies chain → HasReadItems behind (start proxies items) g rest left × AreTrees g × (gapped_width g ≡ roots) → proxies ≤ 524288
    → ((left.proxies ≡ 0) × (left.items ≡ 0) → ⊥) → BeginsNoBody bytes
bad_sums {bytes} {behind} {rest} {form} {roots} {items} {proxies} {chain} {g} {left} head read few bad form' f p c last valid pages is =
    let t = head_unique head form' f p c last valid is in
    let r = one_row g f rest last
    (record { small = let a = read.0.room in omega arith; few = let a = read.0.proxies in omega arith; apart = read.0.apart; far = read.0.far; pages = read.0.pages })
    (valid_storable f p valid pages) (read.2 ∙ t.wide) (sym read.0.same ∙ t.same) in
    let x : proxies ≡ left.proxies + proxies_in g = read.0.proxies in let y : items ≡ left.items + item_count g = read.0.items in
    let a = ap proxies_in r.0 in let b = ap item_count r.0 in
    let m = t.many in let n = t.all in let k = valid.counted in
    bad (omega arith, omega arith)

pub body_read : {bytes behind rest : List ℕ} {form roots items proxies chain size : ℕ} {g : Gapped} {left : Left} → Head bytes behind form roots items proxies chain → HasReadItems behind (start proxies items) g rest left × AreTrees g × (gapped_width g ≡ roots)
    → 1 ≤ roots → roots ≤ 256 → proxies ≤ 524288 → left.proxies ≡ 0 → left.items ≡ 0 → size ≡ 16 + (length behind - length rest) + 8 * proxies → IsReadBody bytes form g proxies chain rest size
body_read {bytes} {behind} {rest} {form} {roots} {items} {proxies} {chain} {size} {g} {left} head read some few fits none all sum =
    let x : proxies ≡ left.proxies + proxies_in g = read.0.proxies in let y : items ≡ left.items + item_count g = read.0.items in
    let z : 256 ≡ left.room + gapped_size g = read.0.room in
    let w : gapped_width g ≡ roots = read.2 in
    let many : items ≡ item_count g = omega arith in
    let long : length behind ≡ length (items_bytes g) + length rest = ap length read.0.same ∙ length-append (items_bytes g) rest in
    let long_slots = items_length g in
    record {
      same = head.0 ∙ ap (λ (r : List ℕ). head_bytes form roots items proxies chain ++ r) read.0.same
          ∙ ap (λ (k : ℕ). head_bytes form k items proxies chain ++ (items_bytes g ++ rest)) (sym w)
          ∙ ap (λ (k : ℕ). head_bytes form (gapped_width g) k proxies chain ++ (items_bytes g ++ rest)) many;
      valid = record { trees = read.1; some = omega arith; few = omega arith; small = omega arith; apart = read.0.apart; far = read.0.far; counted = omega arith; few_proxies = fits };
      pages = read.0.pages;
      chain_fits = head.4;
      inline_size = omega arith;
    }

-- bytes that begin with no body are those of no piece
pub no_body : (bytes : List ℕ) → BeginsNoBody bytes → IsDecoded bytes None
no_body bytes none (Inline piece) valid is =
    let f : Gapped = piece.body.roots in
    none 1 (paged f).now (length piece.proxies) 0 (proxies_bytes piece.proxies) (paged_valid f valid.body) (paged f).pages
    (is ∙ ap (λ (l : List ℕ). l ++ proxies_bytes piece.proxies) (sym (paged_bytes f 1 (length piece.proxies) 0)))
no_body bytes none (Chained body count chain) valid is =
    let f : Gapped = body.roots in
    none 2 (paged f).now count chain [] (paged_valid f valid.body) (paged f).pages (is ∙ sym (append-nil (body_bytes 2 f count chain)) ∙ ap (λ (l : List ℕ). l ++ []) (sym (paged_bytes f 2 count chain)))

-- no piece has these bytes, where neither form's rest follows
pub no_stored : {bytes rest : List ℕ} {form p c size : ℕ} {f : Gapped} → IsReadBody bytes form f p c rest size
    → ((ps : List Proxy) → form ≡ 1 → c ≡ 0 → size ≤ longest_inline → length ps ≡ p → HaveRoots ps → rest ≡ proxies_bytes ps → ⊥)
    → (form ≡ 2 → longest_inline < size → rest ≡ [] → ⊥) → IsDecoded bytes None
no_stored {bytes} {rest} {form} {p} {c} {size} {f} read inline chained (Inline piece) valid is =
    let g : Gapped = piece.body.roots in
    let same = ap (λ (l : List ℕ). l ++ proxies_bytes piece.proxies) (sym (paged_bytes g 1 (length piece.proxies) 0)) in
    let t = body_unique {d = 0} read.valid (paged_valid g valid.body) read.pages (paged g).pages (sym read.same ∙ is ∙ same) in
    let i = read.inline_size in let r = ap slots_in t.roots in let s = (paged g).slots in let n = t.proxies in let k = valid.fits in
    inline piece.proxies t.form_same (four_unique c 0 read.chain_fits (omega arith) t.chain) (omega arith) (sym t.proxies) valid.ranged t.behind
no_stored {bytes} {rest} {form} {p} {c} {size} {f} read inline chained (Chained body count chain) valid is =
    let g : Gapped = body.roots in
    let same = sym (append-nil (body_bytes 2 g count chain)) ∙ ap (λ (l : List ℕ). l ++ []) (sym (paged_bytes g 2 count chain)) in
    let t = body_unique read.valid (paged_valid g valid.body) read.pages (paged g).pages (sym read.same ∙ is ∙ same) in
    let i = read.inline_size in let r = ap slots_in t.roots in let s = (paged g).slots in let n = t.proxies in let k = valid.long in
    chained t.form_same (omega arith) t.behind

pub inline_read : {bytes rest : List ℕ} {form p c size : ℕ} {f : Gapped} {ps : List Proxy} → IsReadBody bytes form f p c rest size → form ≡ 1 → c ≡ 0 → size ≤ longest_inline → (rest ≡ proxies_bytes ps) × HaveRoots ps × (length ps ≡ p)
    → IsValidInline f ps × (bytes ≡ body_bytes 1 f (length ps) 0 ++ proxies_bytes ps)
inline_read {bytes} {rest} {form} {p} {c} {size} {f} {ps} read one none fits got =
    let n : length ps ≡ p = got.2 in
    let i = read.inline_size in (
      record { body = subst (IsValidBody f) (sym n) read.valid; ranged = got.1; fits = omega arith },
      read.same ∙ ap (λ (r : List ℕ). body_bytes form f p c ++ r) got.0
          ∙ ap (λ (k : ℕ). body_bytes k f p c ++ proxies_bytes ps) one
          ∙ ap (λ (k : ℕ). body_bytes 1 f k c ++ proxies_bytes ps) (sym n)
          ∙ ap (λ (k : ℕ). body_bytes 1 f (length ps) k ++ proxies_bytes ps) none,
    )

pub chained_read : {bytes rest : List ℕ} {form p c size : ℕ} {f : Gapped} → IsReadBody bytes form f p c rest size → form ≡ 2 → longest_inline < size → length rest ≡ 0
    → IsValidChained f p × (bytes ≡ body_bytes 2 f p c)
chained_read {bytes} {rest} {form} {p} {c} {size} {f} read two_is long none =
    let i = read.inline_size in (
      record { body = read.valid; long = omega arith },
      read.same ∙ ap (λ (r : List ℕ). body_bytes form f p c ++ r) (empty rest none) ∙ append-nil (body_bytes form f p c) ∙ ap (λ (k : ℕ). body_bytes k f p c) two_is,
    )
  where
    empty : (xs : List ℕ) → length xs ≡ 0 → xs ≡ []
    empty [] h = refl
    empty (x ∷ xs) h = absurd (omega arith)
