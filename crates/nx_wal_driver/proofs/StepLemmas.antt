-- A commit, and the line behind it.
use Rattle.std.proofs.Common.{◌≡◌, ◌⊎◌, ℕ, List, sym, ap, subst, ◌∙◌, inl, inr}
use Rattle.std.specs.Prelude.{Option, Some, None, IsSome}
use Rattle.std.specs.Option.{option_or}
use Rattle.nx_host.specs.Disk.{Image, Keeps}
use Rattle.nx_host.specs.Still.{WritesAlone}
use Rattle.nx_host.specs.Time.{Elapses, elapsed_then, elapsed_weaker}
use Rattle.nx_host.specs.declared.disk.Disk.{Ghosts}
use Rattle.nx_host.proofs.DiskLemmas.{told_same}
use Rattle.nx_replay.specs.Log.{Entry, Pages, entry_pages, over, replay, HasGroup}
use Rattle.nx_replay.proofs.ReplayLemmas.{replay-more}
use Rattle.nx_replay.proofs.SettledLemmas.{some_of, is_some}
use Rattle.nx_wal.specs.Wal.{Follows, IsInStep, next_group, pending}
use Rattle.nx_wal.specs.declared.wal.Wal.{Wal}
use Rattle.nx_wal_driver.specs.Group.{page_on_ring, AreThere}
use Rattle.nx_wal_driver.specs.declared.commands.Filling.{Filling}

abbrev inside : {T : Type 0} → T → Option T → T
inside x None = x
inside x (Some y) = y

same_inside : {T : Type 0} {x y : T} → Some x ≡ Some y → x ≡ y
same_inside {x = x} same = ap (inside x) same

-- pages that are laid over others are there
laid : (filling : Filling) (group count many : ℕ) (es : List Entry) (base now : Pages) → now ≡ over (entry_pages es) base
    → AreThere filling group count many (entry_pages es) → AreThere filling group count many now
laid filling group count many es base now is there i below =
    let p = page_on_ring filling.seed group count i in
    ap (λ (f : Pages). f p) is ∙ ap (λ (o : Option (List ℕ)). option_or o (base p)) (there i below)

module _ {D : Type 0} {d : Ghosts D} where
  -- the one image is that of the contents
  pub in_step_now : {wal : Wal} {disk : D} {was now : Image} → IsInStep d wal disk was → d.contents disk ≡ Some now → IsInStep d wal disk now
  in_step_now {wal = wal} {disk = disk} step told = subst (λ i. IsInStep d wal disk i) (same_inside (sym step.settled.here ∙ told)) step

  -- room was made, the pages were put, and the group was committed
  pub committed : {one two three : Wal} {a b : D} {now : Image} (filling : Filling) (group count : ℕ)
      → ((m : Image) → d.contents a ≡ Some m → IsInStep d one a m)
      → ((log : List ℕ) → Follows one log → Follows two log)
      → AreThere filling group count filling.pages (entry_pages (pending two))
      → (IsSome (d.contents b) → IsSome (d.contents a))
      → ((m n : Image) → IsInStep d two a m → d.contents b ≡ Some n → IsInStep d three b n × HasGroup (next_group group two) m n)
      → d.contents b ≡ Some now
      → IsInStep d three b now × AreThere filling group count filling.pages (replay now)
  committed {two = two} {a = a} {b = b} {now = now} filling group count step follows there told commits here =
      let mid = some_of (d.contents a) (told (is_some (d.contents b) here)) in
      let stands = step mid.0 mid.1 in
      let done = commits mid.0 now (record { settled = stands.settled; follows = follows _ stands.follows }) here in
      (done.0, laid filling group count filling.pages (pending two) (replay mid.0) (replay now) (replay-more _ mid.0 now done.1) there)

  -- the line comes behind the commit
  pub line_behind : {two : Wal} {a b e : D} {Q : Image → Type 0}
      → WritesAlone d a b (λ _. Unit {0})
      → ((now : Image) → d.contents b ≡ Some now → IsInStep d two b now × Q now)
      → Keeps (d.contents b) (d.contents e)
      → Elapses d.moment d.stood_since b e (λ s. d.may_leave b s.image)
      → Elapses d.moment d.stood_since a e (λ s. Keeps (d.beside a).output s.output ⊎ (IsSome (d.contents e) → Q s.image))
  line_behind {b = b} {e = e} {Q = Q} alone done kept gives =
      elapsed_then (elapsed_weaker alone.time (λ s h. inl h.0)) gives
      (λ s left. inr (λ told.
      let now = some_of (d.contents e) told in
      let stands = done now.0 (sym (told_same (d.contents b) (d.contents e) kept told) ∙ now.1) in
      subst Q (sym (stands.0.settled.only s.image left)) stands.1))

  -- no line came
  pub no_line : {a b : D} (P : Image → Type 0) → WritesAlone d a b (λ _. Unit {0})
      → Elapses d.moment d.stood_since a b (λ s. Keeps (d.beside a).output s.output ⊎ (IsSome (d.contents b) → P s.image))
  no_line P alone = elapsed_weaker alone.time (λ s h. inl h.0)
