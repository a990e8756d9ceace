-- A record holds one thing.
use Rattle.std.proofs.Common.{◌≡◌, ℕ, ◌<◌, List, [], ◌∷◌, ◌++◌, map, take, drop, refl, sym, ap, ◌∙◌, subst}
use Rattle.std.specs.Prelude.{Some}
use Rattle.nx_replay.specs.Log.{Pages}
use Rattle.nx_holdings.specs.Holdings.{record_in, Link, content_of}
use Rattle.nx_holdings.proofs.ChainLemmas.{same_bytes}
use Rattle.nx_piece.specs.declared.piece.Far.{Far}
use Rattle.nx_piece.specs.declared.piece.Proxy.{Proxy}
use Rattle.nx_piece.specs.declared.piece.Stored.{Stored}
use Rattle.nx_piece.specs.declared.piece.Stored.TheVariants.{Inline, Chained}
use Rattle.nx_piece.specs.Encoding.{proxy_bytes, proxies_bytes}
use Rattle.nx_piece.specs.Valid.{HaveNumbers}
use Rattle.nx_piece.proofs.ApartLemmas.{two_unique, four_unique}
use Rattle.nx_piece.proofs.Laws.{one_stored}
use Rattle.nx_layouts.specs.Layout.{RecordPlace}
use Rattle.nx_hold.specs.Pieces.{roots_stored}
use Rattle.nx_rules.specs.Walked.{Walked, walked_body, walked_proxies, contents_apart, IsRecordAt, IsStoredAt, lists_named, StandOn, HaveRootNumbers, SaysPiece, HoldsRecord}
use Rattle.nx_rules.proofs.FirstLemmas.{one_list}

proxy_one : (p q : Proxy) (x y : List ℕ) → (p.page < 4294967296) × (p.slot < 65536) × (p.roots < 65536) → (q.page < 4294967296) × (q.slot < 65536) × (q.roots < 65536) → proxy_bytes p ++ x ≡ proxy_bytes q ++ y → p ≡ q
proxy_one p q x y hp hq e =
    let a : p.page ≡ q.page = four_unique p.page q.page hp.0 hq.0 (ap (λ (l : List ℕ). take 4 l) e) in
    let b : p.slot ≡ q.slot = two_unique p.slot q.slot hp.1 hq.1 (ap (λ (l : List ℕ). take 2 (drop 4 l)) e) in
    let c : p.roots ≡ q.roots = two_unique p.roots q.roots hp.2 hq.2 (ap (λ (l : List ℕ). take 2 (drop 6 l)) e) in
    λ i. record { page = a i; slot = b i; roots = c i }

pub proxies_one : (ps qs : List Proxy) → HaveRootNumbers ps → HaveRootNumbers qs → HaveNumbers ps → HaveNumbers qs → proxies_bytes ps ≡ proxies_bytes qs → ps ≡ qs
proxies_one [] [] hp hq np nq e = refl
proxies_one [] (q ∷ qs) hp hq np nq e = absurd (cc)
proxies_one (p ∷ ps) [] hp hq np nq e = absurd (cc)
proxies_one (p ∷ ps) (q ∷ qs) hp hq np nq e =
    let first = proxy_one p q (proxies_bytes ps) (proxies_bytes qs) (np.0, np.1, hp.0) (nq.0, nq.1, hq.0) e in
    let rest = proxies_one ps qs hp.1 hq.1 np.2 nq.2 (ap (drop 8) e) in
    ap (λ (x : Proxy). x ∷ ps) first ∙ ap (λ (xs : List Proxy). q ∷ xs) rest

pub found_one : {pages : Pages} {place : RecordPlace} {a b : List ℕ} → IsRecordAt pages place a → IsRecordAt pages place b → a ≡ b
found_one {pages} {place} {a} {b} h g =
    let page : h.page ≡ g.page = same_bytes h.page g.page (pages place.page) h.slotted.there g.slotted.there in
    same_bytes a b (record_in (Some g.page) place.slot) (ap (λ (o : List ℕ). record_in (Some o) place.slot) (sym page) ∙ h.there) g.there

pub stored_one : {pages : Pages} {place : RecordPlace} {a b : Stored} → IsStoredAt pages place a → IsStoredAt pages place b → a ≡ b
stored_one {pages} {place} {a} {b} h g = one_stored a b h.valid g.valid h.numbers g.numbers (found_one h.found g.found)

-- the chain pages of the same lists
pub stand_one : (pages : Pages) (lists : List Far) (cs ds : List (List Link)) → StandOn pages lists cs → StandOn pages lists ds → cs ≡ ds
stand_one pages [] [] [] h g = refl
stand_one pages [] [] (d ∷ ds) h g = absurd g
stand_one pages [] (c ∷ cs) ds h g = absurd h
stand_one pages (far ∷ lists) [] ds h g = absurd h
stand_one pages (far ∷ lists) (c ∷ cs) [] h g = absurd g
stand_one pages (far ∷ lists) (c ∷ cs) (d ∷ ds) h g =
    let first : c ≡ d = one_list pages [] [] far.first far.length c d h.0 g.0 in
    let rest : cs ≡ ds = stand_one pages lists cs ds h.1 g.1 in
    cc

-- the same nodes, proxies, contents and chain pages
pub record IsOne (a b : Walked) (cs ds : List (List Link)) : Type 0 where
  pub roots : walked_body a ≡ walked_body b
  pub proxies : walked_proxies a ≡ walked_proxies b
  pub contents : contents_apart a ≡ contents_apart b
  pub chains : cs ≡ ds

lists_same : (x y : List ℕ) (xs ys : List (List ℕ)) → x ∷ xs ≡ y ∷ ys → (x ≡ y) × (xs ≡ ys)
lists_same x y xs ys e = (cc, cc)

says_one : (stored : Stored) (ps qs : List Proxy) (xs ys held : List (List ℕ)) → SaysPiece stored ps xs held → SaysPiece stored qs ys held → (ps ≡ qs) × (xs ≡ ys)
says_one (Inline piece) ps qs xs ys held a b = (sym a.0 ∙ b.0, sym a.1 ∙ b.1)
says_one (Chained body count chain) ps qs xs ys held a b =
    let same = lists_same (proxies_bytes ps) (proxies_bytes qs) xs ys (sym a.0 ∙ b.0) in
    (proxies_one ps qs a.2 b.2 a.1 b.1 same.0, same.1)

pub record_one : {pages : Pages} {place : RecordPlace} (a b : Walked) (cs ds : List (List Link)) → HoldsRecord pages place a cs → HoldsRecord pages place b ds → IsOne a b cs ds
record_one {pages} {place} a b cs ds h g =
    let same : h.stored ≡ g.stored = stored_one h.there g.there in
    let roots : roots_stored g.stored ≡ walked_body a = subst (λ (x : Stored). roots_stored x ≡ walked_body a) same h.roots in
    let stand : StandOn pages (lists_named g.stored) cs = subst (λ (x : Stored). StandOn pages (lists_named x) cs) same h.stand in
    let chains : cs ≡ ds = stand_one pages (lists_named g.stored) cs ds stand g.stand in
    let mine : SaysPiece g.stored (walked_proxies a) (contents_apart a) (map content_of cs) = subst (λ (x : Stored). SaysPiece x (walked_proxies a) (contents_apart a) (map content_of cs)) same h.says in
    let there : SaysPiece g.stored (walked_proxies a) (contents_apart a) (map content_of ds) = subst (λ (x : List (List Link)). SaysPiece g.stored (walked_proxies a) (contents_apart a) (map content_of x)) chains mine in
    let one = says_one g.stored (walked_proxies a) (walked_proxies b) (contents_apart a) (contents_apart b) (map content_of ds) there g.says in
    record { roots = sym roots ∙ g.roots; proxies = one.0; contents = one.1; chains = chains }
