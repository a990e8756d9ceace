-- The moments while groups are applied, and streams whose groups come in turn.
use Rattle.std.proofs.Common.{◌≡◌, ℕ, ◌<◌, List, [], ◌∷◌, ◌++◌, length, take, drop, Some, refl, sym, ap, subst, ◌∙◌, arith, inl, inr, append_assoc, append-nil, length-append}
use Rattle.std.proofs.lemmas.List.{take_all, length-take-le}
use Rattle.nx_host.specs.Disk.{Image}
use Rattle.nx_replay.specs.Log.{Pages, Group, over, entry_pages, replay}
use Rattle.nx_replay.specs.Laws.{over_all}
use Rattle.nx_replay.proofs.StepLemmas.{less_or_not}
use Rattle.nx_holdings.specs.declared.header.Header.{Header}
use Rattle.nx_ship.specs.Stream.{IsGood, Begins, group_in, size_with, count_in}
use Rattle.nx_ship.specs.Next.{number_following, MayComeTo, ComeInTurn}
use Rattle.nx_ship.specs.Applying.{applied_line, applied_text, IsOutOfTurn, IsNoBase, IsNoGroup}
use Rattle.nx_ship.specs.Moments.{IsShortOf, IsAppliedMoment, EveryAppliedMoment, GroupsInTurnPass}
use Rattle.nx_ship.proofs.EntryLemmas.{one_head, none_headed}
use Rattle.nx_ship.proofs.ReadingLemmas.{good-append, begins-append}

some_line : (g : Group) → 0 < length (applied_line g)
some_line g = omega arith

none_short : (gs : List Group) → IsShortOf [] gs
none_short [] = refl
none_short (g ∷ gs) = some_line g

part_out : (start : Pages) (g : Group) (gs : List Group) (out : List ℕ) (image : Image) (n : ℕ) → out ≡ take n (applied_line g) → replay image ≡ over (entry_pages g.entries) start
    → IsAppliedMoment start (g ∷ gs) out image
part_out start g gs out image n is stands =
    elim (less_or_not n (length (applied_line g))) [
      | inl less ↦ record {
        before = [];
        after = g ∷ gs;
        split = refl;
        part = take n (applied_line g);
        is = is;
        short = let long = length-take-le n (applied_line g) (omega (arith, less)) in omega (arith, long, less);
        stands = inr (g, gs, refl, stands);
      }
      | inr all ↦ record {
        before = g ∷ [];
        after = gs;
        split = refl;
        part = [];
        is = is ∙ take_all n (applied_line g) all ∙ sym (append-nil (applied_line g)) ∙ sym (append-nil (applied_line g ++ []));
        short = none_short gs;
        stands = inl stands;
      }
    ]

pub every_applied_moment : EveryAppliedMoment
every_applied_moment start [] out image (none, stands) = record { before = []; after = []; split = refl; part = []; is = none; short = refl; stands = inl stands }
every_applied_moment start (g ∷ gs) out image (inl (none, stands)) =
    record { before = []; after = g ∷ gs; split = refl; part = []; is = none; short = some_line g; stands = inl stands }
every_applied_moment start (g ∷ gs) out image (inr (inl (n, is, stands))) = part_out start g gs out image n is stands
every_applied_moment start (g ∷ gs) out image (inr (inr (more, is, rest))) =
    let m = every_applied_moment (over (entry_pages g.entries) start) gs more image rest in
    record {
      before = g ∷ m.before;
      after = m.after;
      split = ap (λ (l : List Group). g ∷ l) m.split;
      part = m.part;
      is = is ∙ ap (λ (l : List ℕ). applied_line g ++ l) m.is ∙ sym (append_assoc (applied_line g) (applied_text m.before) m.part);
      short = m.short;
      stands = m.stands;
    }

-- Streams:

-- the first groups of a stream are among its groups
among : (groups all : List Group) (bytes rest : List ℕ) → Begins groups bytes rest → Begins all bytes [] → (IsGood [] → ⊥) → (more : List Group) × (all ≡ groups ++ more) × Begins more rest []
among [] all bytes rest same begins none = (all, refl, subst (λ (l : List ℕ). Begins all l []) (sym same) begins)
among (g ∷ groups) [] bytes rest begins empty none = absurd (none (subst IsGood (sym empty) begins.0))
among (g ∷ groups) (h ∷ all) bytes rest begins wholes none =
    let (more, is, behind) = among groups all (drop (size_with (count_in bytes)) bytes) rest begins.2 wholes.2 none in
    let first : h ≡ g = wholes.1 ∙ sym begins.1 in
    (more, ap (λ (x : Group). x ∷ all) first ∙ ap (λ (l : List Group). g ∷ l) is, behind)

turn_at : (start : Pages) (groups : List Group) (g : Group) (more : List Group) → ComeInTurn start (groups ++ g ∷ more) → MayComeTo (over_all start groups) g
turn_at start [] g more turn = turn.0
turn_at start (h ∷ groups) g more turn = turn_at (over (entry_pages h.entries) start) groups g more turn.1

-- a good group behind the first ones is the next of all
next_of_all : (start : Pages) (groups more : List Group) (rest left : List ℕ) → ComeInTurn start (groups ++ more) → Begins more (rest ++ left) [] → IsGood rest → MayComeTo (over_all start groups) (group_in rest)
next_of_all start groups [] rest left turn empty good =
    absurd (let none : 0 ≡ length (rest ++ left) = ap (λ (l : List ℕ). length l) empty in let whole = good.whole in omega (arith, none, whole, length-append rest left))
next_of_all start groups (g ∷ more) rest left turn begins good =
    let same = good-append rest left good in
    let is : g ≡ group_in rest = begins.1 ∙ same.group in
    subst (λ (x : Group). MayComeTo (over_all start groups) x) is (turn_at start groups g more turn)

not_out : (pages : Pages) (rest : List ℕ) (number last : ℕ) → IsOutOfTurn pages rest number last → MayComeTo pages (group_in rest) → ⊥
not_out pages rest number last out (inl (at, (other, headed, says), next)) =
    let (h, here, is) = out.at in
    let same : h ≡ other = one_head here headed in
    let numbers : last ≡ at = sym is ∙ ap (λ (x : Header). x.number) same ∙ says in
    out.not_next (out.is ∙ next ∙ ap (λ (n : ℕ). number_following n) (sym numbers))
not_out pages rest number last out (inr (none, base)) = let (h, here, is) = out.at in none_headed pages h (none 0) here

not_baseless : (pages : Pages) (rest : List ℕ) (number : ℕ) → IsNoBase pages rest number → MayComeTo pages (group_in rest) → ⊥
not_baseless pages rest number lacks (inl (at, (other, headed, says), next)) = none_headed pages other (lacks.none 0) headed
not_baseless pages rest number lacks (inr (none, base)) = lacks.no_base base

not_spoilt : (groups more : List Group) (rest left : List ℕ) (offset : ℕ) → IsNoGroup groups rest offset (Some left) → Begins more (rest ++ left) [] → ⊥
not_spoilt groups [] rest left offset spoilt empty =
    let none : 0 ≡ length (rest ++ left) = ap (λ (l : List ℕ). length l) empty in
    let some = spoilt.some in
    omega (arith, none, some, length-append rest left)
not_spoilt groups (g ∷ more) rest left offset spoilt begins = spoilt.none begins.0

pub groups_in_turn_pass : GroupsInTurnPass
groups_in_turn_pass start taken left all groups rest stream turn begins =
    let (more, is, behind) = among groups all (taken ++ left) (rest ++ left) (begins-append groups taken rest left begins) stream.begins stream.ends in
    let in_turn : ComeInTurn start (groups ++ more) = subst (λ (l : List Group). ComeInTurn start l) is turn in
    record {
      turn = λ number last out. not_out (over_all start groups) rest number last out (next_of_all start groups more rest left in_turn behind out.good);
      base = λ number lacks. not_baseless (over_all start groups) rest number lacks (next_of_all start groups more rest left in_turn behind lacks.good);
      stream = λ offset spoilt. not_spoilt groups more rest left offset spoilt behind;
    }
