-- Proxies that are read one after the other.
use Rattle.std.proofs.Common.{◌≡◌, ℕ, ◌+◌, ◌*◌, ◌<◌, List, [], ◌∷◌, ◌++◌, length, refl, sym, ap, ◌∙◌, subst, arith, append_assoc, append-nil}
use Rattle.nx_piece.specs.declared.piece.Proxy.{Proxy}
use Rattle.nx_piece.specs.Encoding.{proxy_bytes, proxies_bytes}
use Rattle.nx_piece.specs.Valid.{HaveNumbers}
use Rattle.nx_rules.specs.Walked.{HaveRootNumbers}

bytes_more : (ps : List Proxy) (p : Proxy) → proxies_bytes (ps ++ p ∷ []) ≡ proxies_bytes ps ++ proxy_bytes p
bytes_more [] p = append-nil (proxy_bytes p)
bytes_more (q ∷ ps) p = ap (λ (l : List ℕ). proxy_bytes q ++ l) (bytes_more ps p) ∙ sym (append_assoc (proxy_bytes q) (proxies_bytes ps) (proxy_bytes p))

pub proxies_more : (bytes rest behind : List ℕ) (ps qs : List Proxy) (p : Proxy) → bytes ≡ proxies_bytes ps ++ rest → rest ≡ proxy_bytes p ++ behind → qs ≡ ps ++ p ∷ [] → bytes ≡ proxies_bytes qs ++ behind
proxies_more bytes rest behind ps qs p so_far read pushed =
    so_far ∙ ap (λ (l : List ℕ). proxies_bytes ps ++ l) read ∙ sym (append_assoc (proxies_bytes ps) (proxy_bytes p) behind)
    ∙ ap (λ (l : List ℕ). l ++ behind) (sym (bytes_more ps p) ∙ ap proxies_bytes (sym pushed))

numbers_last : (ps : List Proxy) (p : Proxy) → HaveNumbers ps → p.page < 4294967296 → p.slot < 65536 → HaveNumbers (ps ++ p ∷ [])
numbers_last [] p h page slot = (page, slot, tt)
numbers_last (q ∷ ps) p h page slot = (h.0, h.1, numbers_last ps p h.2 page slot)

pub numbers_more : (ps qs : List Proxy) (p : Proxy) → HaveNumbers ps → p.page < 4294967296 → p.slot < 65536 → qs ≡ ps ++ p ∷ [] → HaveNumbers qs
numbers_more ps qs p h page slot pushed = subst (λ (l : List Proxy). HaveNumbers l) (sym pushed) (numbers_last ps p h page slot)

rooted_last : (ps : List Proxy) (p : Proxy) → HaveRootNumbers ps → p.roots < 65536 → HaveRootNumbers (ps ++ p ∷ [])
rooted_last [] p h roots = (roots, tt)
rooted_last (q ∷ ps) p h roots = (h.0, rooted_last ps p h.1 roots)

pub rooted_more : (ps qs : List Proxy) (p : Proxy) → HaveRootNumbers ps → p.roots < 65536 → qs ≡ ps ++ p ∷ [] → HaveRootNumbers qs
rooted_more ps qs p h roots pushed = subst (λ (l : List Proxy). HaveRootNumbers l) (sym pushed) (rooted_last ps p h roots)

pub proxy_long : (p : Proxy) → length (proxy_bytes p) ≡ 8
proxy_long p = refl

none_of : (xs : List ℕ) → length xs ≡ 0 → xs ≡ []
none_of [] e = refl
none_of (x ∷ xs) e = absurd (omega (arith, e))

pub all_seen : (bytes rest : List ℕ) (ps : List Proxy) (count : ℕ) → bytes ≡ proxies_bytes ps ++ rest → 8 * length ps + length rest ≡ 8 * count → length rest < 8 → bytes ≡ proxies_bytes ps
all_seen bytes rest ps count seen left few =
    seen ∙ ap (λ (l : List ℕ). proxies_bytes ps ++ l) (none_of rest (omega (arith, left, few))) ∙ append-nil (proxies_bytes ps)
