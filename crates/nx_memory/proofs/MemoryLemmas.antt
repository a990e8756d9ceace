-- What one change more does to a memory.
use Rattle.std.proofs.Common.{◌≡◌, Bool, true, false, IsTrue, IsFalse, ℕ, ◌+◌, ◌-◌, List, [], ◌∷◌, ◌++◌, length, take, drop, min, reverse, refl, sym, ap, ◌∙◌, subst, arith, length-append, append-nil}
use Rattle.std.proofs.lemmas.List.{reverse-append, take_at, drop_at, length-take, length-drop}
use Rattle.nx_host.specs.Disk.{Image, HoldsBytes, TearsIn, Written}
use Rattle.nx_host.proofs.TornLemmas.{written_torn}
use Rattle.nx_memory.specs.declared.history.History.{History}
use Rattle.nx_memory.specs.declared.reserved.Reserved.{Reserved}
use Rattle.nx_memory.specs.Writing.{Wrote}
use Rattle.nx_memory.proofs.SpliceLemmas.{put_back}
use Rattle.nx_host.specs.declared.disk.Area.{Area}
use Rattle.nx_host.specs.declared.disk.Area.TheVariants.{Pages, Log}
use Rattle.nx_memory.specs.declared.history.Change.{Change}
use Rattle.nx_memory.specs.declared.history.Change.TheVariants.{Write, Emit}
use Rattle.nx_memory.specs.History.{Present, before, covers, spliced, with_area, IsTear, IsHistory}

-- a change that is pushed is the last one
pub one_more : (earlier later : List Change) (change : Change) → later ≡ earlier ++ change ∷ [] → reverse later ≡ change ∷ reverse earlier
one_more earlier later change pushed = ap reverse pushed ∙ reverse-append earlier (change ∷ [])

pub history_more : {change : Change} {earlier later : List Change} {was : Present} (now : Present) → later ≡ change ∷ earlier → before change now ≡ was →
    HoldsBytes now.areas → IsTear change now → IsHistory earlier was → IsHistory later now
unfolding IsHistory
history_more {earlier = earlier} now pushed undone bytes tear history =
    subst (λ (l : List Change). IsHistory l now) (sym pushed) (bytes, tear, subst (λ (p : Present). IsHistory earlier p) (sym undone) history)

pub history_none : (changes : List Change) (now : Present) → changes ≡ [] → HoldsBytes now.areas → IsHistory (reverse changes) now
unfolding IsHistory
history_none changes now none bytes = subst (λ (l : List Change). IsHistory (reverse l) now) (sym none) bytes

pub sync_undone : (areas : Image) (output covered : List ℕ) → ◌≡◌ {A = Present} (record { areas = areas; output = output; covered = covered ++ [] }) (record { areas = areas; output = output; covered = covered })
sync_undone areas output covered = ap (λ (l : List ℕ). record { areas = areas; output = output; covered = l }) (append-nil covered)

-- the present with one area and the bytes that were written over
abbrev pub present_with : Area → Image → (bytes output covered : List ℕ) → Present
present_with area image bytes output covered = record { areas = with_area area bytes image; output = output; covered = covered }

-- A write and what was there before.
module _ {at : ℕ} {bytes old new : List ℕ} (written : Written at bytes old new) (image : Image) (output covered : List ℕ) where
  abbrev k : ℕ
  k = covers at (length bytes) (length old)

  abbrev had : List ℕ
  had = take k (drop at old)

  kept : length (covered ++ had) - k ≡ length covered
  kept =
      let dropped : length (drop at old) ≡ length old - at = length-drop at old in
      let cut : length had ≡ min k (length (drop at old)) = length-take k (drop at old) in
      let joined : length (covered ++ had) ≡ length covered + length had = length-append covered had in
      omega arith

  drop_kept : drop (length (covered ++ had) - k) (covered ++ had) ≡ had
  drop_kept = ap (λ (n : ℕ). drop n (covered ++ had)) kept ∙ drop_at covered had (length covered) refl

  take_kept : take (length (covered ++ had) - k) (covered ++ had) ≡ covered
  take_kept = ap (λ (n : ℕ). take n (covered ++ had)) kept ∙ take_at covered had (length covered) refl

  area_back : take (length old) (spliced at (drop (length (covered ++ had) - k) (covered ++ had)) new) ≡ old
  area_back = ap (λ (l : List ℕ). take (length old) (spliced at l new)) drop_kept ∙ put_back at bytes old new written

  pub write_undone : (area : Area) → before (Write area at (length bytes) (length old)) (present_with area image new output (covered ++ had)) ≡ present_with area image old output covered
  write_undone Pages = ap (λ (l : List ℕ). present_with Pages image l output (take (length (covered ++ had) - k) (covered ++ had))) area_back ∙ ap (present_with Pages image old output) take_kept
  write_undone Log = ap (λ (l : List ℕ). present_with Log image l output (take (length (covered ++ had) - k) (covered ++ had))) area_back ∙ ap (present_with Log image old output) take_kept

  tears : (area : Area) → TearsIn area at (length bytes) (with_area area old image) (with_area area new image)
  tears Pages = record { here = written_torn written; there = refl }
  tears Log = record { here = written_torn written; there = refl }

  pub write_is_tear : (area : Area) → IsTear (Write area at (length bytes) (length old)) (present_with area image new output (covered ++ had))
  write_is_tear area = subst (λ (p : Present). TearsIn area at (length bytes) p.areas (with_area area new image)) (sym (write_undone area)) (tears area)

pub emit_undone : (areas : Image) (output bytes covered : List ℕ) →
    before (Emit (length output)) (record { areas = areas; output = output ++ bytes; covered = covered ++ [] }) ≡ record { areas = areas; output = output; covered = covered }
emit_undone areas output bytes covered =
    ap (λ (o : List ℕ). record { areas = areas; output = o; covered = covered ++ [] }) (take_at output bytes (length output) refl)
    ∙ ap (λ (l : List ℕ). record { areas = areas; output = output; covered = l }) (append-nil covered)

pub by_cases : {X : Type 0} (b : Bool) → (IsTrue b → X) → (IsFalse b → X) → X
by_cases true is isnt = is refl
by_cases false is isnt = isnt refl

-- What a write to an area adds to a history.
module _ {area : Area} {at : ℕ} {bytes : List ℕ} {old new : Reserved} {was now : History} (wrote : Wrote area at bytes old new was now) where
  pub wrote_change : reverse now.changes.items ≡ Write area at (length bytes) (length old.bytes.items) ∷ reverse was.changes.items
  wrote_change = one_more was.changes.items now.changes.items (Write area at (length bytes) (length old.bytes.items)) wrote.change

  pub wrote_undone : (image : Image) (output : List ℕ) →
      before (Write area at (length bytes) (length old.bytes.items)) (present_with area image new.bytes.items output now.covered.items)
      ≡ present_with area image old.bytes.items output was.covered.items
  wrote_undone image output =
      ap (λ (l : List ℕ). before (Write area at (length bytes) (length old.bytes.items)) (present_with area image new.bytes.items output l)) wrote.covered
      ∙ write_undone wrote.written image output was.covered.items area

  pub wrote_history : (image : Image) (output : List ℕ) → HoldsBytes (with_area area new.bytes.items image) →
      IsHistory (reverse was.changes.items) (present_with area image old.bytes.items output was.covered.items) →
      IsHistory (reverse now.changes.items) (present_with area image new.bytes.items output now.covered.items)
  wrote_history image output held history =
      let change = Write area at (length bytes) (length old.bytes.items) in
      let tear = subst (λ (l : List ℕ). IsTear change (present_with area image new.bytes.items output l)) (sym wrote.covered)
      (write_is_tear wrote.written image output was.covered.items area) in
      history_more {change = change} _ wrote_change (wrote_undone image output) held tear history

-- A write that wasn't done left all as it was.
pub kept_history : (area : Area) {old new : Reserved} {was now : History} (image : Image) (output : List ℕ) → (new ≡ old) × (now ≡ was) →
    IsHistory (reverse was.changes.items) (present_with area image old.bytes.items output was.covered.items) →
    IsHistory (reverse now.changes.items) (present_with area image new.bytes.items output now.covered.items)
kept_history area {old = old} {new = new} {was = was} {now = now} image output same history =
    let P : Reserved → History → Type 0 = λ r h. IsHistory (reverse h.changes.items) (present_with area image r.bytes.items output h.covered.items) in
    subst (λ (r : Reserved). P r now) (sym same.0) (subst (λ (h : History). P old h) (sym same.1) history)
