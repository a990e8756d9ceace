-- One proxy more of a run, and one tree more among items.
use Rattle.std.proofs.Common.{◌≡◌, ℕ, zero, suc, ◌+◌, List, [], ◌∷◌, ◌++◌, take, drop, refl, sym, ap, ◌∙◌, arith}
use Rattle.std.specs.List.{sum_by}
use Rattle.std.proofs.lemmas.List.{drop-drop}
use Rattle.std.proofs.lemmas.List.Sums.{sum_by-cons, sum_by-append}
use Rattle.nx_piece.specs.declared.piece.Item.{Item}
use Rattle.nx_piece.specs.declared.piece.Item.TheVariants.{Tree}
use Rattle.nx_piece.specs.declared.piece.Proxy.{Proxy}
use Rattle.nx_piece.specs.Gapped.{Gapped, GappedTree, End, Grow, Gap, grown_of, proxies_in}
use Rattle.nx_piece.specs.Items.{gapped_of, with_last}
use Rattle.nx_piece.proofs.GappedLemmas.{gapped_of-push}
use Rattle.nx_build.specs.Rows.{with_proxy}
use Rattle.nx_divide.specs.Rows.{with_proxies}

pub with_proxies-more : (n : ℕ) (g : Gapped) → with_proxies (n + 1) g ≡ with_proxy (with_proxies n g)
with_proxies-more zero g = refl
with_proxies-more (suc n) g = ap (λ (i : ℕ). with_proxies i g) (let e : suc n + 1 ≡ suc (n + 1) = omega arith in e) ∙ with_proxies-more n (with_proxy g)

proxy-in : (g : Gapped) → proxies_in (with_proxy g) ≡ 1 + proxies_in g
proxy-in End = refl
proxy-in (Grow n b s) = omega (arith, proxy-in s)
proxy-in (Gap count End) = omega arith
proxy-in (Gap count (Grow n b s)) = omega (arith, proxy-in (Grow n b s))
proxy-in (Gap count (Gap more s)) = omega (arith, proxy-in (Gap more s))

pub proxies-in : (n : ℕ) (g : Gapped) → proxies_in (with_proxies n g) ≡ n + proxies_in g
proxies-in zero g = omega arith
proxies-in (suc n) g = let e = proxy-in g in let f = proxies-in n (with_proxy g) in omega (arith, e, f)

-- the next of some proxies
pub take_one : {A : Type 0} (n : ℕ) (ps left : List A) (p : A) → drop n ps ≡ p ∷ left → take (n + 1) ps ≡ take n ps ++ p ∷ []
take_one zero [] left p e = cc
take_one zero (q ∷ ps) left p e = let s : q ≡ p = cc in ap (λ x. x ∷ []) s
take_one (suc n) [] left p e = cc
take_one (suc n) (q ∷ ps) left p e = ap (λ (i : ℕ). take i (q ∷ ps)) (let z : suc n + 1 ≡ suc (n + 1) = omega arith in z) ∙ ap (λ l. q ∷ l) (take_one n ps left p e)

pub drop_one : {A : Type 0} (n : ℕ) (ps left : List A) (p : A) → drop n ps ≡ p ∷ left → left ≡ drop (n + 1) ps
drop_one n ps left p e = sym (ap (drop 1) e) ∙ drop-drop 1 n ps

pub sum_one : (n : ℕ) (ps left : List Proxy) (p : Proxy) → drop n ps ≡ p ∷ left → sum_by (λ proxy. proxy.roots) (take (n + 1) ps) ≡ sum_by (λ proxy. proxy.roots) (take n ps) + p.roots
sum_one n ps left p e =
    ap (sum_by (λ proxy. proxy.roots)) (take_one n ps left p e) ∙ sum_by-append (λ (proxy : Proxy). proxy.roots) (take n ps) (p ∷ []) ∙ (let s = sum_by-cons (λ (proxy : Proxy). proxy.roots) p [] in let z : sum_by (λ (proxy : Proxy). proxy.roots) [] ≡ 0 = refl in omega (arith, s, z))

last_grown : (ts : List GappedTree) (t : GappedTree) → with_last (grown_of ts) (Tree t) ≡ grown_of (ts ++ t ∷ [])
last_grown [] t = refl
last_grown (x ∷ ts) t = ap (Grow x.node x.below) (last_grown ts t)

pub grown_pushed : (items new : List Item) (ts : List GappedTree) (t : GappedTree) → gapped_of items ≡ grown_of ts → new ≡ items ++ Tree t ∷ [] → gapped_of new ≡ grown_of (ts ++ t ∷ [])
grown_pushed items new ts t e is = ap gapped_of is ∙ gapped_of-push items (Tree t) ∙ ap (λ (g : Gapped). with_last g (Tree t)) e ∙ last_grown ts t

-- the first trees as items, with the next one
pub grown_next : (n : ℕ) (items new : List Item) (ts left : List GappedTree) (t : GappedTree) → gapped_of items ≡ grown_of (take n ts) → drop n ts ≡ t ∷ left → new ≡ items ++ Tree t ∷ [] → gapped_of new ≡ grown_of (take (n + 1) ts)
grown_next n items new ts left t e next is = grown_pushed items new (take n ts) t e is ∙ sym (ap grown_of (take_one n ts left t next))
