-- Groups that are applied, one after the other, and the moments of that.
use Rattle.std.proofs.Common.{◌≡◌, ◌⊎◌, ℕ, zero, List, [], ◌∷◌, ◌++◌, take, Option, None, Some, refl, sym, ap, subst, ◌∙◌, inl, inr, append_assoc, append-nil}
use Rattle.nx_host.specs.Disk.{Image, Keeps}
use Rattle.nx_host.specs.Host.{Appends, AppendsPrefix}
use Rattle.nx_host.specs.Time.{Stood, Elapses, elapsed_then, elapsed_weaker}
use Rattle.nx_host.specs.declared.disk.Disk.{Ghosts}
use Rattle.nx_host.proofs.OutputLemmas.{appends_then}
use Rattle.nx_replay.specs.Log.{Pages, Group, over, entry_pages, replay, IsDense}
use Rattle.nx_replay.specs.Laws.{over_all}
use Rattle.nx_ship.specs.Next.{MayComeTo, ComeInTurn, StayDense}
use Rattle.nx_ship.specs.Applying.{applied_line, applied_text, IsAppliedBy, ShowsApplied}
use Rattle.nx_ship.specs.Receiving.{HasApplied}
use Rattle.nx_ship.proofs.ShippedLemmas.{over_all-append}
use Rattle.nx_ship.proofs.SendLemmas.{appends_kept}

-- Groups in turn:

pub in_turn_more : (pages : Pages) (gs : List Group) (g : Group) → ComeInTurn pages gs → MayComeTo (over_all pages gs) g → ComeInTurn pages (gs ++ g ∷ [])
in_turn_more pages [] g turn comes = (comes, tt)
in_turn_more pages (h ∷ gs) g turn comes = (turn.0, in_turn_more (over (entry_pages h.entries) pages) gs g turn.1 comes)

pub dense_here : (pages : Pages) (gs : List Group) → StayDense pages gs → IsDense pages
dense_here pages [] dense = dense
dense_here pages (g ∷ gs) dense = dense.0

pub dense_before : (pages : Pages) (gs hs : List Group) → StayDense pages (gs ++ hs) → StayDense pages gs
dense_before pages [] hs dense = dense_here pages hs dense
dense_before pages (g ∷ gs) hs dense = (dense.0, dense_before (over (entry_pages g.entries) pages) gs hs dense.1)

pub dense_behind : (pages : Pages) (gs : List Group) → StayDense pages gs → IsDense (over_all pages gs)
dense_behind pages [] dense = dense
dense_behind pages (g ∷ gs) dense = dense_behind (over (entry_pages g.entries) pages) gs dense.1

pub text_more : (gs : List Group) (g : Group) → applied_text (gs ++ g ∷ []) ≡ applied_text gs ++ applied_line g
text_more [] g = append-nil (applied_line g)
text_more (h ∷ gs) g = ap (λ (l : List ℕ). applied_line h ++ l) (text_more gs g) ∙ sym (append_assoc (applied_line h) (applied_text gs) (applied_line g))

pub pages_more : (pages : Pages) (gs : List Group) (g : Group) → over_all pages (gs ++ g ∷ []) ≡ over (entry_pages g.entries) (over_all pages gs)
pages_more pages gs g = over_all-append pages gs (g ∷ [])

-- Moments:

none_applied : (pages : Pages) (gs : List Group) (out : List ℕ) (image : Image) → (out ≡ []) × (replay image ≡ pages) → IsAppliedBy pages gs out image
none_applied pages [] out image is = is
none_applied pages (g ∷ gs) out image is = inl is

longer : (pages : Pages) (gs hs : List Group) (out : List ℕ) (image : Image) → IsAppliedBy pages gs out image → IsAppliedBy pages (gs ++ hs) out image
longer pages [] hs out image is = none_applied pages hs out image is
longer pages (g ∷ gs) hs out image (inl none) = inl none
longer pages (g ∷ gs) hs out image (inr (inl part)) = inr (inl part)
longer pages (g ∷ gs) hs out image (inr (inr (more, is, rest))) = inr (inr (more, is, longer (over (entry_pages g.entries) pages) gs hs more image rest))

behind : (pages : Pages) (gs hs : List Group) (out : List ℕ) (image : Image) → IsAppliedBy (over_all pages gs) hs out image → IsAppliedBy pages (gs ++ hs) (applied_text gs ++ out) image
behind pages [] hs out image is = is
behind pages (g ∷ gs) hs out image is =
    inr (inr (applied_text gs ++ out, append_assoc (applied_line g) (applied_text gs) out, behind (over (entry_pages g.entries) pages) gs hs out image is))

all_applied : (pages : Pages) (gs : List Group) (image : Image) → replay image ≡ over_all pages gs → IsAppliedBy pages gs (applied_text gs) image
all_applied pages [] image is = (refl, is)
all_applied pages (g ∷ gs) image is = inr (inr (applied_text gs, refl, all_applied (over (entry_pages g.entries) pages) gs image is))

pub shows_longer : (output : Option (List ℕ)) (pages : Pages) (gs hs : List Group) (s : Stood) → ShowsApplied output pages gs s → ShowsApplied output pages (gs ++ hs) s
shows_longer output pages gs hs s (out, is, appends) = (out, longer pages gs hs out s.image is, appends)

-- all lines are out
pub shows_all : (first now : Option (List ℕ)) (pages : Pages) (gs : List Group) (s : Stood) → Appends (applied_text gs) first now → Keeps now s.output → replay s.image ≡ over_all pages gs
    → ShowsApplied first pages gs s
shows_all first now pages gs s appends keeps is = (applied_text gs, all_applied pages gs s.image is, appends_kept (applied_text gs) first now s.output appends keeps)

-- a first part of these bytes was given
part_of : (bytes : List ℕ) (a b : Option (List ℕ)) → AppendsPrefix bytes a b → (n : ℕ) × Appends (take n bytes) a b
part_of bytes a None prefix = (zero, tt)
part_of bytes a (Some now) (was, n, is, grew) = (n, (was, is, grew))

-- the next group is in, and a first part of its line is out
pub shows_part : (first now : Option (List ℕ)) (pages : Pages) (gs : List Group) (g : Group) (s : Stood) → Appends (applied_text gs) first now → AppendsPrefix (applied_line g) now s.output
    → replay s.image ≡ over (entry_pages g.entries) (over_all pages gs) → ShowsApplied first pages (gs ++ g ∷ []) s
shows_part first now pages gs g s appends prefix is =
    let (n, part) = part_of (applied_line g) now s.output prefix in (
      applied_text gs ++ take n (applied_line g),
      behind pages gs (g ∷ []) (take n (applied_line g)) s.image (inr (inl (n, refl, is))),
      appends_then (applied_text gs) (take n (applied_line g)) first now s.output appends part,
    )

keeps_part : (bytes : List ℕ) (a b : Option (List ℕ)) → Keeps a b → AppendsPrefix bytes a b
keeps_part bytes a None keeps = tt
keeps_part bytes a (Some was) keeps = (was, 0, keeps, sym (append-nil was))

-- a commit of the next group is under way
pub shows_commit : (first now : Option (List ℕ)) (pages : Pages) (gs : List Group) (g : Group) (was : Image) (s : Stood) → Appends (applied_text gs) first now → Keeps now s.output
    → replay was ≡ over_all pages gs → (replay s.image ≡ replay was) ⊎ (replay s.image ≡ over (entry_pages g.entries) (replay was)) → ShowsApplied first pages (gs ++ g ∷ []) s
shows_commit first now pages gs g was s appends keeps here (inl same) = shows_longer first pages gs (g ∷ []) s (shows_all first now pages gs s appends keeps (same ∙ here))
shows_commit first now pages gs g was s appends keeps here (inr more) =
    shows_part first now pages gs g s appends (keeps_part (applied_line g) now s.output keeps) (more ∙ ap (λ (base : Pages). over (entry_pages g.entries) base) here)

module _ {D : Type 0} {d : Ghosts D} where
  -- calls that change nothing of what the disk stands for, and give nothing
  pub applied_on : {start : Pages} {first a b : D} {gs : List Group} → HasApplied d start first gs a
      → Elapses d.moment d.stood_since a b (λ s. Keeps (d.beside a).output s.output × (replay s.image ≡ over_all start gs)) → Keeps (d.beside a).output (d.beside b).output → HasApplied d start first gs b
  applied_on {start = start} {first = first} {a = a} {b = b} {gs = gs} applied time keeps = record {
    out = appends_kept (applied_text gs) (d.beside first).output (d.beside a).output (d.beside b).output applied.out keeps;
    time = elapsed_then applied.time time (λ s h. shows_all (d.beside first).output (d.beside a).output start gs s applied.out h.0 h.1);
  }

  -- a group more, whose line was given
  pub applied_more : {start : Pages} {first a c : D} {gs : List Group} (g : Group) → HasApplied d start first gs a
      → Elapses d.moment d.stood_since a c (ShowsApplied (d.beside first).output start (gs ++ g ∷ [])) → Appends (applied_line g) (d.beside a).output (d.beside c).output
      → HasApplied d start first (gs ++ g ∷ []) c
  applied_more {start = start} {first = first} {a = a} {c = c} {gs = gs} g applied time appends = record {
    out = subst (λ (l : List ℕ). Appends l (d.beside first).output (d.beside c).output) (sym (text_more gs g))
        (appends_then (applied_text gs) (applied_line g) (d.beside first).output (d.beside a).output (d.beside c).output applied.out appends);
    time = elapsed_then (elapsed_weaker applied.time (λ s h. shows_longer (d.beside first).output start gs (g ∷ []) s h)) time (λ s h. h);
  }
