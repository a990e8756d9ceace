-- Pieces as data that proofs tell apart.
use Rattle.std.specs.Prelude.{ℕ, List, refl}
use Rattle.std.specs.Coded.{Coded, code_by, coded×, coded_ℕ, coded_list}
use Rattle.nx_piece.specs.declared.piece.Proxy.{Proxy}
use Rattle.nx_piece.specs.declared.piece.Body.{Body}
use Rattle.nx_piece.specs.declared.piece.Piece.{Piece}
use Rattle.nx_piece.specs.Gapped.{Gapped, gapped_code}

abbrev pub proxy_code : Coded Proxy
proxy_code = code_by (ℕ × (ℕ × ℕ)) (coded× coded_ℕ (coded× coded_ℕ coded_ℕ)) (λ p. (p.page, (p.slot, p.roots)))
    (λ n. record { page = n.0; slot = n.1.0; roots = n.1.1 }) (λ _. refl)

abbrev pub body_code : Coded Body
body_code = code_by Gapped gapped_code (λ b. b.roots) (λ f. record { roots = f }) (λ _. refl)

abbrev pub piece_code : Coded Piece
piece_code = code_by (Body × List Proxy) (coded× body_code (coded_list proxy_code)) (λ p. (p.body, p.proxies))
    (λ b. record { body = b.0; proxies = b.1 }) (λ _. refl)
