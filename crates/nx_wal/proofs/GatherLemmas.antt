-- How what is gathered in a block goes on.
use Rattle.std.proofs.Common.{◌≡◌, ℕ, ◌+◌, ◌≤◌, List, [], ◌++◌, length, sym, ap, subst, ◌∙◌, arith, append_assoc, length-append}
use Rattle.std.proofs.lemmas.List.{append-nil}
use Rattle.nx_host.specs.declared.disk.Disk.{Ghosts}
use Rattle.nx_wal.specs.declared.block.Block.{Block}
use Rattle.nx_wal.specs.Writing.{Writes, Lays}
use Rattle.nx_wal.specs.Gathering.{Gathers, AddsBytes, WritesNoFurther}
use Rattle.nx_wal.proofs.WritingLemmas.{writes_none, writes_wider, writes_more, lays_none, lays_then}

module _ {D : Type 0} {d : Ghosts D} where
  gathers_as : {start : ℕ} {xs ys : List ℕ} {block : Block} {a b : D} → xs ≡ ys → Gathers d start xs block a b → Gathers d start ys block a b
  gathers_as {start = start} {block = block} {a = a} {b = b} same so_far = subst (λ (x : List ℕ). Gathers d start x block a b) same so_far

  -- what waits was written
  pub flushed_reaches : {b c : D} (block : Block) (items : List ℕ) → items ≡ block.bytes.items → Writes d block.at (length items) b c → WritesNoFurther d 0 block b c
  flushed_reaches block items same writes start so_far first gathers =
      let here : block.at ≡ start + length gathers.laid = gathers.here in
      let both : length gathers.laid + length block.bytes.items ≡ length so_far = sym (length-append gathers.laid block.bytes.items) ∙ ap length gathers.split in
      let long : length items ≡ length block.bytes.items = ap length same in
      writes_more (length so_far + 0) gathers.writes writes here (omega (arith, both, long))

  pub flushed_adds : {b c : D} (block after : Block) (items : List ℕ) → items ≡ block.bytes.items → after.bytes.items ≡ [] → after.at ≡ block.at + length items
      → Writes d block.at (length items) b c → Lays d block.at items b c → AddsBytes d [] block after b c
  flushed_adds block after items same none there writes lays start so_far first gathers =
      let here : block.at ≡ start + length gathers.laid = gathers.here in
      let joined : gathers.laid ++ items ≡ so_far = ap (λ (x : List ℕ). gathers.laid ++ x) same ∙ gathers.split in
      let long : length (gathers.laid ++ items) ≡ length gathers.laid + length items = length-append gathers.laid items in
      record {
        laid = gathers.laid ++ items;
        split = ap (λ (x : List ℕ). (gathers.laid ++ items) ++ x) none ∙ append-nil (gathers.laid ++ items) ∙ joined ∙ sym (append-nil so_far);
        here = omega (arith, there, here, long);
        writes = writes_more (length (gathers.laid ++ items)) gathers.writes writes here (sym long);
        lays = lays_then gathers.lays writes lays here;
      }

  pub kept_adds : (block : Block) (a : D) → AddsBytes d [] block block a a
  kept_adds block a start so_far first gathers = gathers_as (sym (append-nil so_far)) gathers

  pub kept_reaches : (n : ℕ) (block : Block) (a : D) → WritesNoFurther d n block a a
  kept_reaches n block a start so_far first gathers =
      let both : length gathers.laid + length block.bytes.items ≡ length so_far = sym (length-append gathers.laid block.bytes.items) ∙ ap length gathers.split in
      writes_wider (length so_far + n) gathers.writes (omega (arith, both))

  pub reaches_wider : (m n : ℕ) (block : Block) (a b : D) → m ≤ n → WritesNoFurther d m block a b → WritesNoFurther d n block a b
  reaches_wider m n block a b wider reaches start so_far first gathers = writes_wider (length so_far + n) (reaches start so_far first gathers) (omega (arith, wider))

  -- bytes were put into the block
  pub filled_adds : (before after : Block) (bytes : List ℕ) (a : D) → after.bytes.items ≡ before.bytes.items ++ bytes → after.at ≡ before.at → AddsBytes d bytes before after a a
  filled_adds before after bytes a filled stays start so_far first gathers = record {
    laid = gathers.laid;
    split = ap (λ (x : List ℕ). gathers.laid ++ x) filled ∙ sym (append_assoc gathers.laid before.bytes.items bytes) ∙ ap (λ (x : List ℕ). x ++ bytes) gathers.split;
    here = stays ∙ gathers.here;
    writes = gathers.writes;
    lays = gathers.lays;
  }

  -- one call more
  pub adds_then : {xs ys : List ℕ} {before mid after : Block} {a b c : D} → AddsBytes d xs before mid a b → AddsBytes d ys mid after b c → AddsBytes d (xs ++ ys) before after a c
  adds_then {xs = xs} {ys = ys} one other start so_far first gathers =
      gathers_as (append_assoc so_far xs ys) (other start (so_far ++ xs) first (one start so_far first gathers))

  pub reaches_then : (xs : List ℕ) (n k : ℕ) {before mid : Block} {a b c : D} → length xs + n ≡ k → AddsBytes d xs before mid a b → WritesNoFurther d n mid b c → WritesNoFurther d k before a c
  reaches_then xs n k {c = c} sum one other start so_far first gathers =
      let both : length (so_far ++ xs) ≡ length so_far + length xs = length-append so_far xs in
      subst (λ (j : ℕ). Writes d start j first c) (omega (arith, both, sum)) (other start (so_far ++ xs) first (one start so_far first gathers))

  -- nothing yet
  pub gathers_none : (block : Block) (at : ℕ) (a : D) → block.at ≡ at → block.bytes.items ≡ [] → Gathers d at [] block a a
  gathers_none block at a here none = record {
    laid = [];
    split = none;
    here = omega (arith, here);
    writes = writes_none at a;
    lays = lays_none at a;
  }

  -- all of it was written
  pub gathered : (start : ℕ) (bytes : List ℕ) (block : Block) (a b : D) → block.bytes.items ≡ [] → Gathers d start bytes block a b → Writes d start (length bytes) a b × Lays d start bytes a b
  gathered start bytes block a b none gathers =
      let same : gathers.laid ≡ bytes = sym (append-nil gathers.laid) ∙ ap (λ (x : List ℕ). gathers.laid ++ x) (sym none) ∙ gathers.split in (
        subst (λ (x : List ℕ). Writes d start (length x) a b) same gathers.writes,
        subst (λ (x : List ℕ). Lays d start x a b) same gathers.lays,
      )

  -- what was begun with nothing
  pub reached : {a b : D} (n k at : ℕ) (block : Block) → (block.at ≡ at) × (block.bytes.items ≡ []) → n ≤ k → WritesNoFurther d n block a b → Writes d at k a b
  reached {a = a} n k at block begun few reaches = writes_wider k (reaches at [] a (gathers_none block at a begun.0 begun.1)) (omega (arith, few))
