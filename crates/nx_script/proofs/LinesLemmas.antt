-- The lines of a stream that goes on.
use Rattle.std.proofs.Common.{◌≡◌, ℕ, false, List, [], ◌∷◌, ◌++◌, ap, ◌∙◌, append-nil}
use Rattle.nx_pyx.specs.Lines.{Pieces, cut, last_line, ended_lines, lines, has_lf}
use Rattle.nx_pyx.proofs.ShownFaultLemmas.{cut-append}
use Rattle.nx_pyx.proofs.StreamLemmas.{cut-held, cut-ended}

-- bytes without an LF stand behind the last one
pub rest-held : (s bytes : List ℕ) → has_lf bytes ≡ false → (cut (s ++ bytes)).rest ≡ (cut s).rest ++ bytes
rest-held s bytes unbroken = ap (λ (p : Pieces). p.rest) (cut-held s bytes unbroken)

pub rest-ended : (s bytes : List ℕ) → has_lf bytes ≡ false → (cut (s ++ (bytes ++ 10 ∷ []))).rest ≡ []
rest-ended s bytes unbroken = ap (λ (p : Pieces). p.rest) (cut-ended s bytes unbroken)

-- what stands behind the last LF of a stream that goes on depends on what stood there alone
pub rest-append : (s bytes : List ℕ) → (cut (s ++ bytes)).rest ≡ (cut ((cut s).rest ++ bytes)).rest
rest-append s bytes = ap (λ (p : Pieces). p.rest) (cut-append s bytes)

-- the lines of a stream that ends with an LF
pub lines-whole : (s : List ℕ) → (cut s).rest ≡ [] → lines s ≡ ended_lines s
lines-whole s none = ap (λ (rest : List ℕ). ended_lines s ++ last_line rest) none ∙ append-nil (ended_lines s)
