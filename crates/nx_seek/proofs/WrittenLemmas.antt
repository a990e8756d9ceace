-- Bytes are those of one piece at most.
use Rattle.std.proofs.Common.{◌≡◌, ℕ, List, length, inl, inr, sym, ap, ◌∙◌}
use Rattle.nx_piece.specs.declared.piece.Body.{Body}
use Rattle.nx_piece.specs.declared.piece.Piece.{Piece}
use Rattle.nx_piece.specs.declared.piece.Proxy.{Proxy}
use Rattle.nx_piece.specs.declared.piece.Stored.{Stored}
use Rattle.nx_piece.specs.declared.piece.Stored.TheVariants.{Inline, Chained}
use Rattle.nx_piece.specs.Valid.{IsValidPiece}
use Rattle.nx_piece.proofs.Laws.{one_stored, proxies_unique}
use Rattle.nx_seek.specs.Written.{IsRecord, IsWrittenAs}

one_record : (bytes : List ℕ) (s t : Stored) → IsRecord bytes s → IsRecord bytes t → s ≡ t
one_record bytes s t h k = one_stored s t h.valid k.valid h.numbers k.numbers (sym h.same ∙ k.same)

inline_same : (p q : Piece) → Inline p ≡ Inline q → p ≡ q
inline_same p q e = cc

body_same : (a b : Body) (m n c d : ℕ) → Chained a m c ≡ Chained b n d → a ≡ b
body_same a b m n c d e = cc

no_both : (p : Piece) (b : Body) (n c : ℕ) → Inline p ≡ Chained b n c → ⊥
no_both p b n c e = cc

pub one_written : (p q : Piece) (bytes list : List ℕ) → IsWrittenAs p bytes list → IsWrittenAs q bytes list → p ≡ q
one_written p q bytes list (inl h) (inl k) = inline_same p q (one_record bytes (Inline p) (Inline q) h k)
one_written p q bytes list (inl h) (inr k) = absurd (no_both p q.body (length q.proxies) k.chain (one_record bytes (Inline p) (Chained q.body (length q.proxies) k.chain) h k.nodes))
one_written p q bytes list (inr h) (inl k) = absurd (no_both q p.body (length p.proxies) h.chain (one_record bytes (Inline q) (Chained p.body (length p.proxies) h.chain) k h.nodes))
one_written p q bytes list (inr h) (inr k) =
    let b = body_same p.body q.body (length p.proxies) (length q.proxies) h.chain k.chain (one_record bytes (Chained p.body (length p.proxies) h.chain) (Chained q.body (length q.proxies) k.chain) h.nodes k.nodes) in
    let ps = proxies_unique p.proxies q.proxies h.ranged k.ranged h.numbers k.numbers (sym h.same ∙ k.same) in
    ap (λ (x : Body). record { body = x; proxies = p.proxies }) b ∙ ap (λ (xs : List Proxy). record { body = q.body; proxies = xs }) ps

-- a written piece is valid
pub written_valid : (piece : Piece) (bytes list : List ℕ) → IsWrittenAs piece bytes list → IsValidPiece piece
written_valid piece bytes list (inl h) = record { body = h.valid.body; ranged = h.valid.ranged }
written_valid piece bytes list (inr h) = record { body = (h.nodes).valid.body; ranged = h.ranged }
