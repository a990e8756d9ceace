-- What groups are in at a moment at which they are applied, and which lines are out then.
use Rattle.std.proofs.Common.{◌≡◌, inl, inr, ℕ, zero, suc, ◌+◌, ◌<◌, ◌≤◌, List, [], ◌∷◌, ◌++◌, take, length, Option, Some, refl, sym, ap, ◌∙◌, arith, append_assoc, length-append}
use Rattle.std.proofs.lemmas.Bool.{cases_lt}
use Rattle.std.proofs.lemmas.List.{length-take}
use Rattle.nx_host.specs.Disk.{Image}
use Rattle.nx_replay.specs.Log.{Pages, Group, over, entry_pages, replay}
use Rattle.nx_replay.specs.Laws.{over_all}
use Rattle.nx_ship.specs.Applying.{applied_line, applied_text, IsAppliedBy}
use Rattle.nx_state.specs.State.{State}
use Rattle.nx_front.specs.Serving.{BeginsWith}
use Rattle.nx_front.specs.Applied.{StandBehindEach}
use Rattle.nx_front.specs.Sessions.{AreOfState}

-- The first of the groups are in, and the image stands for that. The lines of all of them, or of all but the last, are out.
pub record AreReceived (pages : Pages) (gs : List Group) (out : List ℕ) (image : Image) : Type 0 where
  pub done : List Group
  pub rest : List Group
  pub split : gs ≡ done ++ rest
  pub stands : replay image ≡ over_all pages done
  pub count : ℕ
  pub begins : BeginsWith (applied_text (take count done)) out
  pub one_more : length done ≤ count + 1
  pub long : length out ≤ length (applied_text done)

-- none is in
pub none_received : (pages : Pages) (gs : List Group) (out : List ℕ) (image : Image) → out ≡ [] → replay image ≡ pages → AreReceived pages gs out image
none_received pages gs out image none is = record {
  done = [];
  rest = gs;
  split = refl;
  stands = is;
  count = 0;
  begins = (out, refl);
  one_more = omega arith;
  long = let short : length out ≡ 0 = ap length none in omega (arith, short);
}

pub received : (pages : Pages) (gs : List Group) (out : List ℕ) (image : Image) → IsAppliedBy pages gs out image → AreReceived pages gs out image
received pages [] out image (none, is) = none_received pages [] out image none is
received pages (g ∷ gs) out image (inl (none, is)) = none_received pages (g ∷ gs) out image none is
received pages (g ∷ gs) out image (inr (inl (n, is_out, is))) = record {
  done = g ∷ [];
  rest = gs;
  split = refl;
  stands = is;
  count = 0;
  begins = (out, refl);
  one_more = omega arith;
  long =
      let part : length out ≡ length (take n (applied_line g)) = ap length is_out in
      omega (arith, part, length-take n (applied_line g), length-append (applied_line g) []);
}
received pages (g ∷ gs) out image (inr (inr (more, is_out, by))) =
    let r = received (over (entry_pages g.entries) pages) gs more image by in
    let (behind, is_more) = r.begins in
    record {
      done = g ∷ r.done;
      rest = r.rest;
      split = ap (λ (hs : List Group). g ∷ hs) r.split;
      stands = r.stands;
      count = suc r.count;
      begins = (behind, is_out ∙ ap (λ (x : List ℕ). applied_line g ++ x) is_more ∙ sym (append_assoc (applied_line g) (applied_text (take r.count r.done)) behind));
      one_more = let low = r.one_more in omega (arith, low);
      long =
          let whole : length out ≡ length (applied_line g ++ more) = ap length is_out in
          let short : length more ≤ length (applied_text r.done) = r.long in
          omega (arith, whole, short, length-append (applied_line g) more, length-append (applied_line g) (applied_text r.done));
    }

-- more lines are longer
longer : (done rest : List Group) (more : ℕ) → length done < more → more ≤ length (done ++ rest) → length (applied_text done) < length (applied_text (take more (done ++ rest)))
longer [] [] more high low = absurd (omega (arith, high, low))
longer [] (g ∷ rest) zero high low = absurd (omega (arith, high))
longer [] (g ∷ rest) (suc more) high low = omega (arith, length-append (applied_line g) (applied_text (take more rest)))
longer (g ∷ done) rest zero high low = absurd (omega (arith, high))
longer (g ∷ done) rest (suc more) high low =
    let behind = longer done rest more (omega (arith, high)) (omega (arith, low)) in
    omega (arith, behind, length-append (applied_line g) (applied_text done), length-append (applied_line g) (applied_text (take more (done ++ rest))))

-- so no line is whole of a group that isn't in
pub whole_are_in : (done rest : List Group) (out : List ℕ) → length out ≤ length (applied_text done) → (more : ℕ) → more ≤ length (done ++ rest) →
    BeginsWith (applied_text (take more (done ++ rest))) out → more ≤ length done
whole_are_in done rest out short more low (behind, is) = elim (cases_lt (length done) more) [
  | inl high ↦
      let long = longer done rest more high low in
      let parts : length out ≡ length (applied_text (take more (done ++ rest)) ++ behind) = ap length is in
      absurd (omega (arith, long, parts, short, length-append (applied_text (take more (done ++ rest))) behind))
  | inr fits ↦ fits
]

-- the pages behind the groups that are in are those of a state, or as they were
pub state_behind : (pages : Pages) (held : Option State) (done rest : List Group) → AreOfState pages held → StandBehindEach pages (done ++ rest) →
    (next : Option State) × AreOfState (over_all pages done) next
state_behind pages held [] rest are stand = (held, are)
state_behind pages held (g ∷ done) rest are ((state, stands), more) = state_behind (over (entry_pages g.entries) pages) (Some state) done rest stands more
