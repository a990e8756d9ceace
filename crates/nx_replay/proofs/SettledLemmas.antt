-- A disk that tells its contents, and one with one image alone.
use Rattle.std.proofs.Common.{◌≡◌, ℕ, sym, subst, ◌∙◌, refl}
use Rattle.std.specs.Prelude.{Option, Some, None, IsSome, Result, Ok, Err, OnOk}
use Rattle.std.proofs.lemmas.Bool.{false≢true}
use Rattle.nx_host.specs.declared.disk.Area.{Area}
use Rattle.nx_host.specs.declared.disk.Disk.{Ghosts}
use Rattle.nx_host.specs.Disk.{Image, ComesTorn, TearsIn}
use Rattle.nx_host.specs.Still.{IsStill, IsSettled}

-- what is told is some image
pub some_of : {T : Type 0} (o : Option T) → IsSome o → (x : T) × (o ≡ Some x)
some_of None h = absurd (false≢true h)
some_of (Some x) h = (x, refl)

pub is_some : {T : Type 0} {x : T} (o : Option T) → o ≡ Some x → IsSome o
is_some o h = subst IsSome (sym h) refl

-- what is told stays, where the disk was asked alone
pub told_still : {D : Type 0} {d : Ghosts D} {a b : D} (was : Image) → IsStill d a b → d.contents a ≡ Some was → d.contents b ≡ Some was
told_still was still told = still.contents_stay ∙ told

-- where one image alone stood, an image that comes torn comes from it
pub from_settled : {D : Type 0} {d : Ghosts D} {disk : D} {was i : Image} (area : Area) (at n : ℕ) → IsSettled d disk was → ComesTorn area at n (d.may_leave disk) i → TearsIn area at n was i
from_settled {i = i} area at n settled torn = subst (λ o. TearsIn area at n o i) (settled.only torn.0 torn.1) torn.2

pub on_ok : {T E : Type 0} {P Q : Type 0} (r : Result T E) → OnOk r P → (P → Q) → OnOk r Q
on_ok (Ok x) h f = f h
on_ok (Err e) h f = tt

pub on_ok2 : {T E : Type 0} {P Q R : Type 0} (r : Result T E) → OnOk r P → OnOk r Q → (P → Q → R) → OnOk r R
on_ok2 (Ok x) p q f = f p q
on_ok2 (Err e) p q f = tt
