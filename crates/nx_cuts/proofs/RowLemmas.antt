-- Rows beside each other.
use Rattle.std.proofs.Common.{◌≡◌, ℕ, ◌+◌, refl, sym, ap, ◌∙◌, arith}
use Rattle.nx_tree.specs.declared.node.Node.{Node}
use Rattle.nx_tree.specs.Forest.{Forest, Empty, Plant}
use Rattle.nx_cuts.specs.Cut.{Cut, Bare, Grown, Kept, joined, forest, width, part_weight, AreFree, AreParts}
use Rattle.nx_cuts.specs.Rows.{joined_row}

pub joined_row-assoc : {N P : Type 0} (a b c : Cut N P) → joined_row (joined_row a b) c ≡ joined_row a (joined_row b c)
joined_row-assoc Bare b c = refl
joined_row-assoc (Grown n d s) b c = ap (Grown n d) (joined_row-assoc s b c)
joined_row-assoc (Kept u m s) b c = ap (Kept u m) (joined_row-assoc s b c)

pub joined_row-none : {N P : Type 0} (a : Cut N P) → joined_row a Bare ≡ a
joined_row-none Bare = refl
joined_row-none (Grown n d s) = ap (Grown n d) (joined_row-none s)
joined_row-none (Kept u m s) = ap (Kept u m) (joined_row-none s)

pub width-joined_row : {N P : Type 0} (a b : Cut N P) → width (joined_row a b) ≡ width a + width b
width-joined_row Bare b = omega arith
width-joined_row (Grown n d s) b = omega (arith, width-joined_row s b)
width-joined_row (Kept u m s) b = omega (arith, width-joined_row s b)

pub joined_assoc : (a b c : Forest) → joined (joined a b) c ≡ joined a (joined b c)
joined_assoc Empty b c = refl
joined_assoc (Plant n d s) b c = ap (Plant n d) (joined_assoc s b c)

pub joined_nothing : (a : Forest) → joined a Empty ≡ a
joined_nothing Empty = refl
joined_nothing (Plant n d s) = ap (Plant n d) (joined_nothing s)

pub forest-joined_row : {P : Type 0} (a b : Cut Node P) → forest (joined_row a b) ≡ joined (forest a) (forest b)
forest-joined_row Bare b = refl
forest-joined_row (Grown n d s) b = ap (Plant n (forest d)) (forest-joined_row s b)
forest-joined_row (Kept u m s) b = ap (joined (forest m)) (forest-joined_row s b) ∙ sym (joined_assoc (forest m) (forest s) (forest b))

pub weight-joined_row : {P : Type 0} (a b : Cut Node P) → part_weight (joined_row a b) ≡ part_weight a + part_weight b
weight-joined_row Bare b = omega arith
weight-joined_row (Grown n d s) b = omega (arith, weight-joined_row s b)
weight-joined_row (Kept u m s) b = weight-joined_row s b

pub free-joined_row : {N P : Type 0} (a b : Cut N P) → AreFree a → AreFree b → AreFree (joined_row a b)
free-joined_row Bare b f g = g
free-joined_row (Grown n d s) b f g = free-joined_row s b f g
free-joined_row (Kept u m s) b f g = absurd f

pub parts-joined_row : {P : Type 0} (k : ℕ) (a b : Cut Node P) → AreParts k a → AreParts k b → AreParts k (joined_row a b)
parts-joined_row k Bare b f g = g
parts-joined_row k (Grown n d s) b f g = (f.0, parts-joined_row k s b f.1 g)
parts-joined_row k (Kept u m s) b f g = (f.0, f.1, f.2, f.3, parts-joined_row k s b f.4 g)
