-- Laws of an output that is as it was: it was so between, and nothing was given.
use Rattle.std.proofs.Common.{◌≡◌, ◌≤◌, ℕ, List, [], ◌∷◌, ◌++◌, length, Option, None, Some, refl, sym, ap, ◌∙◌, subst, arith, length-append, append-nil}
use Rattle.std.specs.Prelude.{IsSome}
use Rattle.nx_host.specs.Disk.{Image, Keeps}
use Rattle.nx_host.specs.declared.disk.Disk.{Ghosts}
use Rattle.nx_host.specs.Host.{Appends}
use Rattle.nx_host.proofs.DiskLemmas.{told_same}
use Rattle.nx_nav.specs.Given.{GivesText}
use Rattle.nx_nav.specs.declared.exporting.Stage.{Stage}
use Rattle.nx_nav.specs.Early.{LeavesOutput, near_giving}

no_length : (bytes : List ℕ) → length bytes ≡ 0 → bytes ≡ []
no_length [] none = refl
no_length (byte ∷ bytes) none = absurd (omega (arith, none))

-- nothing came to an output that has what it had
pub nothing_came : (done : List ℕ) (old new : Option (List ℕ)) (output : List ℕ) → Appends done old new → old ≡ Some output → new ≡ Some output → done ≡ []
nothing_came done old None output gave was is = absurd (cc)
nothing_came done old (Some now) output (before, are, grew) was is =
    let same : before ≡ output = cc in
    let ends : now ≡ output = cc in
    let long = ap length (sym ends ∙ grew ∙ ap (λ w. w ++ done) same) in
    let sum = length-append output done in
    no_length done (omega (arith, long, sum))

output_between : (first second : List ℕ) (a b c : Option (List ℕ)) (output : List ℕ) → Appends first a b → Appends second b c → a ≡ Some output → c ≡ Some output → b ≡ Some output
output_between first second a b None output gave more was is = absurd (cc)
output_between first second a None (Some now) output gave (before, are, grew) was is = absurd (cc)
output_between first second a (Some mid) (Some now) output (before, are, grew) (later, be, grew_more) was is =
    let start : before ≡ output = cc in
    let ends : now ≡ output = cc in
    let middle : later ≡ mid = cc in
    let long = ap length (sym ends ∙ grew_more ∙ ap (λ w. w ++ second) (middle ∙ grew ∙ ap (λ w. w ++ first) start)) in
    let sum = length-append (output ++ first) second in
    let part = length-append output first in
    let none : first ≡ [] = no_length first (omega (arith, long, sum, part)) in
    ap (λ w. Some w) (grew ∙ ap (λ w. w ++ first) start ∙ ap (λ w. output ++ w) none ∙ append-nil output)

module _ {D : Type 0} {d : Ghosts D} {x y z : D} (first second : List ℕ) where
  -- an output that is as it was at the end was so between
  pub left_front : Appends first (d.beside x).output (d.beside y).output → Appends second (d.beside y).output (d.beside z).output → Keeps (d.contents y) (d.contents z) → LeavesOutput d x z → LeavesOutput d x y
  left_front gave more keeps left = record {
    told = subst (λ (o : Option Image). IsSome o) (told_same (d.contents y) (d.contents z) keeps left.told) left.told;
    output = left.output;
    was = left.was;
    is = output_between first second (d.beside x).output (d.beside y).output (d.beside z).output left.output gave more left.was left.is;
  }

  pub left_behind : Appends first (d.beside x).output (d.beside y).output → Appends second (d.beside y).output (d.beside z).output → LeavesOutput d x z → LeavesOutput d y z
  left_behind gave more left = record {
    told = left.told;
    output = left.output;
    was = output_between first second (d.beside x).output (d.beside y).output (d.beside z).output left.output gave more left.was left.is;
    is = left.is;
  }

module _ {D : Type 0} {d : Ghosts D} {x y : D} where
  -- what a block held that was left is in it still
  pub left_in_block : {block text left : List ℕ} → GivesText d block x text left y → LeavesOutput d x y → left ≡ block ++ text
  left_in_block {block} {text} {left} given output =
      let gives = given.gives in
      let none = nothing_came gives.done (d.beside x).output (d.beside y).output output.output gives.gave output.was output.is in
      sym (ap (λ w. w ++ left) none) ∙ gives.parts

  -- how near something is to being given, step behind step
  pub nothing_between : {z : D} {a b c s t : List ℕ} {near nearer nearest : ℕ} → GivesText d a x s b y → GivesText d b y t c z → LeavesOutput d x z → (LeavesOutput d x y → near ≤ nearer) → (LeavesOutput d y z → nearer ≤ nearest) → near ≤ nearest
  nothing_between first second output one other =
      let front = one (left_front (first.gives).done (second.gives).done (first.gives).gave (second.gives).gave (second.areas).contents_stay output) in
      let behind = other (left_behind (first.gives).done (second.gives).done (first.gives).gave (second.gives).gave output) in
      omega (arith, front, behind)

  -- a block of which nothing was given is as near to being given
  pub near_kept : {block left : List ℕ} (stage : Stage) → GivesText d block x [] left y → LeavesOutput d x y → near_giving stage block ≤ near_giving stage left
  near_kept {block} {left} stage given output =
      subst (λ (bytes : List ℕ). near_giving stage block ≤ near_giving stage bytes) (sym (left_in_block given output ∙ append-nil block)) (omega arith)
