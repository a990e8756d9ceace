-- The steps of a commit over any disk.
use Rattle.std.proofs.Common.{◌≡◌, ◌⊎◌, ℕ, ◌+◌, ◌^◌, ◌<◌, List, [], ◌∷◌, ◌++◌, length, drop, refl, sym, ap, subst, ◌∙◌, Bool, true, false, inl, inr}
use Rattle.std.specs.Prelude.{Some, IsSome}
use Rattle.nx_host.specs.declared.disk.Area.TheVariants.{Log}
use Rattle.nx_host.specs.Disk.{Image, ComesTorn, WritesTo}
use Rattle.nx_host.specs.declared.disk.Disk.{Ghosts}
use Rattle.nx_host.specs.Still.{WritesAlone, IsSettled}
use Rattle.nx_replay.specs.Log.{Group, group_size, groups, group_bytes, end_of, IsLogEnd, HasGroup, HasSame}
use Rattle.nx_replay.specs.Commit.{IsOpened, IsBody, IsStaged, IsGroupLaid}
use Rattle.nx_host.proofs.DiskLemmas.{written_alone_then, written_alone_weaker}
use Rattle.nx_replay.proofs.SettledLemmas.{some_of, is_some, from_settled}
use Rattle.nx_replay.proofs.CommitLemmas.{shut_torn, shut_written, laid_torn, laid_written, opened_torn, opened_written}
use Rattle.nx_replay.proofs.StepLemmas as steps

pub same_self : (i : Image) → HasSame i i
same_self i = record { area = refl; log = refl }

pub same_then : {a b c : Image} → HasSame a b → HasSame b c → HasSame a c
same_then first second = record { area = second.area ∙ first.area; log = second.log ∙ first.log }

pub same_group : {g : Group} {a b c : Image} → HasSame a b → HasGroup g b c → HasGroup g a c
same_group {g = g} first second = record { area = second.area ∙ first.area; log = second.log ∙ ap (λ (gs : List Group). gs ++ g ∷ []) first.log }

at_end_of : (end : ℕ) (g : Group) (log : List ℕ) → IsLogEnd end true log → (s : IsStaged g end log) → steps.IsStaged (2 ^ 63) g log s.rest
at_end_of end g log at s = record {
  gate = s.gate;
  bytes = subst (λ (e : ℕ). drop e log ≡ s.gate ∷ (group_bytes g ++ 0 ∷ s.rest)) at.here s.bytes;
  shut = s.shut;
  low = subst (λ (e : ℕ). e + group_size (length g.entries) < 2 ^ 63) at.here s.low;
}

module _ {D : Type 0} {d : Ghosts D} {old new : D} (end : ℕ) where
  pub shut_goes : (shut : Bool) → shut ≡ false → WritesAlone d old new (ComesTorn Log end 1 (d.may_leave old))
      → WritesAlone d old new (λ i. (was : Image) → IsOpened d end shut old was → HasSame was i)
  shut_goes shut is goes = written_alone_weaker goes (λ told i torn was opened.
      shut_torn end was i (subst (λ s. IsLogEnd end s was.log) is opened.at) opened.low (from_settled Log end 1 opened.settled torn))

  pub shut_done : {was now : Image} (shut : Bool) → shut ≡ false → IsOpened d end shut old was → WritesTo Log end (0 ∷ []) was now → IsSettled d new now
      → HasSame was now × IsOpened d end true new now
  shut_done {was = was} {now = now} shut is opened writes settled =
      let done = shut_written end was now (subst (λ s. IsLogEnd end s was.log) is opened.at) opened.low writes in
      (done.0, record { settled = settled; at = done.1; low = opened.low })

  pub laid_goes : (n : ℕ) → WritesAlone d old new (ComesTorn Log (end + 1) n (d.may_leave old)) → WritesAlone d old new (λ i. (was : Image) → IsOpened d end true old was → HasSame was i)
  laid_goes n goes = written_alone_weaker goes (λ told i torn was opened. laid_torn end n was i opened.at opened.low (from_settled Log (end + 1) n opened.settled torn))

  pub laid_done : {was now : Image} (g : Group) (body : List ℕ) → IsOpened d end true old was → IsBody g end body → WritesTo Log (end + 1) body was now → IsSettled d new now
      → HasSame was now × IsGroupLaid d g end new now
  laid_done {was = was} {now = now} g body opened is writes settled =
      let done = laid_written g end was now is.whole opened.at is.low (subst (λ b. WritesTo Log (end + 1) b was now) is.bytes writes) in
      let staged = done.1.1 in
      let here : end_of (groups now.log) ≡ end = sym (done.2).here in (
        done.0,
        record {
          opened = record { settled = settled; at = done.2; low = opened.low };
          whole = is.whole;
          staged = record { gate = staged.gate; rest = done.1.0; bytes = subst (λ (e : ℕ). drop e now.log ≡ staged.gate ∷ (group_bytes g ++ 0 ∷ done.1.0)) here staged.bytes; shut = staged.shut; low = is.low };
        },
      )

  pub opened_goes : WritesAlone d old new (ComesTorn Log end 1 (d.may_leave old)) → WritesAlone d old new (λ i. (was : Image) (g : Group) → IsGroupLaid d g end old was → HasSame was i ⊎ HasGroup g was i)
  opened_goes goes = written_alone_weaker goes (λ told i torn was g laid.
      let at = (laid.opened).at in
      opened_torn g end (laid.staged).rest laid.whole at (at_end_of end g was.log at laid.staged) (from_settled Log end 1 (laid.opened).settled torn))

  pub opened_done : {was now : Image} (g : Group) → IsGroupLaid d g end old was → WritesTo Log end (1 ∷ []) was now → IsSettled d new now
      → HasGroup g was now × IsOpened d (end + group_size (length g.entries)) true new now
  opened_done {was = was} g laid writes settled =
      let at = (laid.opened).at in
      let done = opened_written g end (laid.staged).rest laid.whole at (at_end_of end g was.log at laid.staged) writes in
      (done.0, record { settled = settled; at = done.1; low = (laid.staged).low })

-- What the steps of a commit have done where the contents are told: a closed byte stands at the log's end ..
abbrev pub Shuts : {D : Type 0} → Ghosts D → ℕ → Bool → D → D → Type 0
Shuts d end shut a b = (was now : Image) → IsOpened d end shut a was → d.contents b ≡ Some now → HasSame was now × IsOpened d end true b now

-- .. the group stands behind it ..
abbrev pub LaysGroup : {D : Type 0} → Ghosts D → ℕ → List ℕ → D → D → Type 0
LaysGroup d end body b c = (was now : Image) (g : Group) → IsOpened d end true b was → IsBody g end body → d.contents c ≡ Some now → HasSame was now × IsGroupLaid d g end c now

-- .. and its gate is open.
abbrev pub OpensGate : {D : Type 0} → Ghosts D → ℕ → D → D → Type 0
OpensGate d end c e = (was now : Image) (g : Group) → IsGroupLaid d g end c was → d.contents e ≡ Some now → HasGroup g was now × IsOpened d (end + group_size (length g.entries)) true e now

-- all three, and the first two
abbrev pub Commits : {D : Type 0} → Ghosts D → ℕ → Bool → List ℕ → D → D → Type 0
Commits d end shut body a e = (was now : Image) (g : Group) → IsOpened d end shut a was → IsBody g end body → d.contents e ≡ Some now → HasGroup g was now × IsOpened d (end + group_size (length g.entries)) true e now

abbrev Stages : {D : Type 0} → Ghosts D → ℕ → Bool → List ℕ → D → D → Type 0
Stages d end shut body a c = (was : Image) (g : Group) → IsSome (d.contents c) → IsOpened d end shut a was → IsBody g end body → (now : Image) × HasSame was now × IsGroupLaid d g end c now

-- an image that stands while a commit goes on
abbrev pub MayStand : {D : Type 0} → Ghosts D → ℕ → Bool → List ℕ → D → Image → Type 0
MayStand d end shut body a i = (was : Image) (g : Group) → IsOpened d end shut a was → IsBody g end body → HasSame was i ⊎ HasGroup g was i

-- A commit's steps, one after the other.
module _ {D : Type 0} {d : Ghosts D} {a b : D} (end : ℕ) (shut : Bool) (body : List ℕ) where
  pub one_step : WritesAlone d a b (λ i. (was : Image) → IsOpened d end shut a was → HasSame was i) → WritesAlone d a b (MayStand d end shut body a)
  one_step first = written_alone_weaker first (λ told i same was g opened is. inl (same was opened))

  pub two_steps : {c : D} → WritesAlone d a b (λ i. (was : Image) → IsOpened d end shut a was → HasSame was i) → Shuts d end shut a b
      → WritesAlone d b c (λ i. (was : Image) → IsOpened d end true b was → HasSame was i) → WritesAlone d a c (MayStand d end shut body a)
  two_steps first shuts second = written_alone_then (one_step first) second (λ told i same was g opened is.
      let mid = some_of (d.contents b) (second.told told) in
      let done = shuts was mid.0 opened mid.1 in
      inl (same_then done.0 (same mid.0 done.1)))

  stage : {c : D} → Shuts d end shut a b → (IsSome (d.contents c) → IsSome (d.contents b)) → LaysGroup d end body b c → Stages d end shut body a c
  stage {c = c} shuts before lays was g told opened is =
      let mid = some_of (d.contents b) (before told) in
      let far = some_of (d.contents c) told in
      let one = shuts was mid.0 opened mid.1 in
      let two = lays mid.0 far.0 g one.1 is far.1 in
      (far.0, same_then one.0 two.0, two.1)

  pub three_steps : {c e : D} → WritesAlone d a b (λ i. (was : Image) → IsOpened d end shut a was → HasSame was i) → Shuts d end shut a b
      → WritesAlone d b c (λ i. (was : Image) → IsOpened d end true b was → HasSame was i) → LaysGroup d end body b c
      → WritesAlone d c e (λ i. (was : Image) (g : Group) → IsGroupLaid d g end c was → HasSame was i ⊎ HasGroup g was i) → WritesAlone d a e (MayStand d end shut body a)
  three_steps first shuts second lays third = written_alone_then (two_steps first shuts second) third (λ told i outcome was g opened is.
      let laid = stage shuts second.told lays was g (third.told told) opened is in
      elim (outcome laid.0 g laid.2) [ inl same ↦ inl (same_then laid.1 same) | inr more ↦ inr (same_group laid.1 more) ])

  pub steps_done : {c e : D} → Shuts d end shut a b → (IsSome (d.contents c) → IsSome (d.contents b)) → LaysGroup d end body b c
      → (IsSome (d.contents e) → IsSome (d.contents c)) → OpensGate d end c e → Commits d end shut body a e
  steps_done {e = e} shuts second_told lays third_told opens was now g opened is told =
      let laid = stage shuts second_told lays was g (third_told (is_some (d.contents e) told)) opened is in
      let done = opens laid.0 now g laid.2 told in
      (same_group laid.1 done.0, done.1)
