-- What images recover to.
use Rattle.std.proofs.Common.{◌≡◌, ℕ, ◌<◌, List, [], ◌∷◌, ◌++◌, take, Option, Some, None, refl, sym, ap, subst, ◌∙◌, arith, inl, inr}
use Rattle.std.specs.Prelude.{IsSome}
use Rattle.std.proofs.lemmas.Bool.{false≢true}
use Rattle.nx_host.specs.Disk.{Image}
use Rattle.nx_replay.specs.Log.{Pages, Group, over, entry_pages, replay, IsDense, mark}
use Rattle.nx_replay.specs.Laws.{over_all}
use Rattle.nx_holdings.specs.declared.header.Header.{Header}
use Rattle.nx_holdings.specs.Header.{header_bytes}
use Rattle.nx_holdings.specs.Holdings.{Held, Holds, HoldsBy, times, named}
use Rattle.nx_holdings.proofs.DenseLemmas.{dense, Use, use_of}
use Rattle.nx_holdings.proofs.DenseLemmas as uses
use Rattle.nx_holdings.proofs.TimesLemmas.{free_there, chain_there}
use Rattle.nx_holdings.proofs.SharedLemmas.{some_or}
use Rattle.nx_replay.proofs.SettledLemmas.{is_some}
use Rattle.nx_state.specs.State.{State}
use Rattle.nx_state.specs.Stands.{Recovers, Stands}
use Rattle.nx_ship.specs.Shipped.{AreAllBelow}
use Rattle.nx_ship.specs.Next.{IsHeadedBy, IsOpenFor, StayDense}
use Rattle.nx_ship.specs.Recovery.{RecoversAlong, RecoversAfter, RecoversWhole, StatesAreWhole, StatesStayDense}
use Rattle.nx_ship.proofs.EntryLemmas.{one_head}
use Rattle.nx_ship.proofs.ShippedLemmas.{catches_up, comes_up_to}
use Rattle.nx_ship.proofs.WholeLemmas.{starts_along}

-- what an image recovers to is said of its pages
recovers_by : (a b : Image) → replay a ≡ replay b → (state : Option State) → Recovers a state → Recovers b state
recovers_by a b same None is = λ p. ap (λ (pages : Pages). pages p) (sym same) ∙ is p
recovers_by a b same (Some state) is = subst (λ (pages : Pages). Stands pages state) same is

pub recovers_along : RecoversAlong
recovers_along sender earlier was now before next later split area had here applies state is =
    recovers_by earlier now (sym (comes_up_to sender earlier was now before next later split area had here applies)) state is

pub recovers_after : RecoversAfter
recovers_after sender was now before next split here applies state is = recovers_by sender now (sym (catches_up sender was now before next split here applies)) state is

pub recovers_whole : RecoversWhole
recovers_whole sender was now number count all none applies state is = recovers_by sender now (sym (starts_along sender was now number count all none applies)) state is

holds_head : (pages : Pages) (held : Held) (holds : Holds pages held) → IsHeadedBy pages holds.0
holds_head pages held (h, by) = record { bytes = header_bytes h; there = by.here; is = record { are = refl; range = by.range } }

begins_so : (h : Header) → take 8 (header_bytes h) ≡ mark
unfolding header_bytes
begins_so h = refl

lost : (pages : Pages) (p : ℕ) → IsSome (pages p) → pages p ≡ None → ⊥
lost pages p some none = false≢true (subst (λ (o : Option (List ℕ)). IsSome o) none some)

-- a page with a use is there
used_there : (pages : Pages) (h : Header) (held : Held) (by : HoldsBy pages h held) (p : ℕ) → Use ((by.behind).shares) [] p → IsSome (pages p)
used_there pages h held by p (uses.header same) = is_some (pages p) (ap pages same ∙ by.here)
used_there pages h held by p (uses.free among) = let there = (free_there pages h.free ((by.behind).shares).free p ((by.behind).shared).free among).1 in is_some (pages p) there
used_there pages h held by p (uses.chained among) = let there = (chain_there pages ((by.behind).shares).chains p ((by.behind).shared).chains among).1 in is_some (pages p) there.1
used_there pages h held by p (uses.unused among) = absurd (omega (arith, among))

-- each page below the header's number is there
below_there : (pages : Pages) (h : Header) (held : Held) (by : HoldsBy pages h held) (p : ℕ) → p < h.pages → IsSome (pages p)
below_there pages h held by p low = elim (some_or (times p (named ((by.behind).shares) []))) [
  | inr none ↦ is_some (pages p) (((by.behind).shared).slotted p low none).there
  | inl some ↦ used_there pages h held by p (use_of ((by.behind).shares) [] p some)
]

opens : (image : Image) (state : Option State) → Recovers image state → IsOpenFor (replay image)
opens image None none = inr none
opens image (Some state) (held, holds, is) = inl ((holds.0).number, (holds.0, holds_head (replay image) held holds, refl))

denses : (image : Image) (state : Option State) → Recovers image state → IsDense (replay image)
denses image None none = λ p q low some. absurd (lost (replay image) q some (none q))
denses image (Some state) (held, holds, is) = dense (replay image) held holds

all_pages : (image : Image) (state : State) (header : Header) → Recovers image (Some state) → IsHeadedBy (replay image) header → AreAllBelow (replay image) header.pages
all_pages image state header (held, holds, is) headed =
    let same : holds.0 ≡ header = one_head (holds_head (replay image) held holds) headed in
    subst (λ (h : Header). AreAllBelow (replay image) h.pages) same
    (record { there = λ p low. below_there (replay image) holds.0 held holds.1 p low; none_from = λ p from. (((holds.1).behind).shared).none_past p from })

stay_dense : (start : Pages) (gs : List Group) → IsDense start → ((before : List Group) (g : Group) (behind : List Group) → gs ≡ before ++ g ∷ behind → (state : State) × Stands (over_all start (before ++ g ∷ [])) state) → StayDense start gs
stay_dense start [] here states = here
stay_dense start (g ∷ gs) here states =
    let (state, (held, holds, is)) = states [] g gs refl in
    let next = over (entry_pages g.entries) start in
    (here, stay_dense next gs (dense next held holds) (λ before h behind split. states (g ∷ before) h behind (ap (λ (l : List Group). g ∷ l) split)))

pub states_stay_dense : StatesStayDense
states_stay_dense = stay_dense

pub states_are_whole : StatesAreWhole
states_are_whole = record {
  headed = λ pages h headed. (headed.bytes, headed.there, ap (λ (l : List ℕ). take 8 l) (headed.is).are ∙ begins_so h);
  open_for = opens;
  mark = λ image state (held, holds, is). (header_bytes holds.0, (holds.1).here, begins_so holds.0);
  header = λ image state page (held, holds, is) wrong.
      let pages = replay image in
      let a : pages 0 ≡ Some (header_bytes holds.0) = (holds.1).here in
      let b : pages 0 ≡ Some wrong.bytes = wrong.there in
      let same : wrong.bytes ≡ header_bytes holds.0 = cc in
      wrong.wrong holds.0 (record { are = same; range = (holds.1).range });
  lost = λ image state page recovers has. lost (replay image) page ((all_pages image state has.header recovers has.headed).there page (has.lost).low) (has.lost).lacks;
  all = all_pages;
  page = λ image state header page recovers headed missing. lost (replay image) page ((all_pages image state header recovers headed).there page missing.low) missing.none;
  dense = denses;
}
