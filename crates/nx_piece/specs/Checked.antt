-- What is told of a record that was checked.
use Rattle.std.specs.Prelude.{◌≡◌, None, Some, length}
use Rattle.nx_piece.specs.declared.checking.Checked.{Checked}
use Rattle.nx_piece.specs.declared.piece.Stored.{Stored}
use Rattle.nx_piece.specs.declared.piece.Stored.TheVariants.{Inline, Chained}
use Rattle.nx_piece.specs.Gapped.{Gapped, gapped_width, gapped_size, gapped_weight}

-- the roots, and the sums over the nodes
pub record AreCounted (checked : Checked) (roots : Gapped) : Type 0 where
  pub wide : checked.roots ≡ gapped_width roots
  pub weighs : checked.weight ≡ gapped_weight roots
  pub takes : checked.size ≡ gapped_size roots

-- ... and where the proxies stand
abbrev pub IsChecked : Stored → Checked → Type 0
IsChecked (Inline piece) checked = AreCounted checked piece.body.roots × (checked.proxies ≡ length piece.proxies) × (checked.chain ≡ None)
IsChecked (Chained body count chain) checked = AreCounted checked body.roots × (checked.proxies ≡ count) × (checked.chain ≡ Some chain)
