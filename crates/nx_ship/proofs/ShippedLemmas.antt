-- What a receiver stands for to which groups of a log are applied.
use Rattle.std.proofs.Common.{◌≡◌, ℕ, List, [], ◌∷◌, ◌++◌, refl, sym, ap, ◌∙◌}
use Rattle.std.proofs.lemmas.List.{append-nil}
use Rattle.nx_host.specs.Disk.{Image}
use Rattle.nx_replay.specs.Log.{Pages, Group, over, entry_pages, groups, logged, pages_of, replay}
use Rattle.nx_replay.specs.Laws.{over_all}
use Rattle.nx_replay.proofs.ReplayLemmas.{over-over, replay-more, replay-same}
use Rattle.nx_ship.specs.Shipped.{Applies, AppliesInSteps, sent_to, ComesAlong, CatchesUp, StaysAlong}

pub over_all-append : (pages : Pages) (gs hs : List Group) → over_all pages (gs ++ hs) ≡ over_all (over_all pages gs) hs
over_all-append pages [] hs = refl
over_all-append pages (g ∷ gs) hs = over_all-append (over (entry_pages g.entries) pages) gs hs

over_all-logged : (pages : Pages) (gs : List Group) → over_all pages gs ≡ over (logged gs) pages
unfolding logged
over_all-logged pages [] = refl
over_all-logged pages (g ∷ gs) = over_all-logged (over (entry_pages g.entries) pages) gs ∙ sym (over-over (logged gs) (entry_pages g.entries) pages)

applies_then : (gs hs : List Group) (a b c : Image) → Applies gs a b → Applies hs b c → Applies (gs ++ hs) a c
applies_then gs hs a b c first second =
    second ∙ ap (λ (pages : Pages). over_all pages hs) first ∙ sym (over_all-append (replay a) gs hs)

pub in_steps : AppliesInSteps
in_steps = record {
  none = λ i. refl;
  same = λ was now is. replay-same was now is;
  commit = λ g was now is. replay-more g was now is;
  checkpoint = λ was now whole stays. stays.dense whole;
  «then» = applies_then;
}

pub comes_along : ComesAlong
comes_along sender was now before next later split here applies =
    applies ∙ ap (λ (pages : Pages). over_all pages next) here ∙ sym (over_all-append (pages_of sender.pages) before next)

pub catches_up : CatchesUp
catches_up sender was now before next split here applies =
    let all : groups sender.log ≡ before ++ (next ++ []) = split ∙ ap (λ (gs : List Group). before ++ gs) (sym (append-nil next)) in
    comes_along sender was now before next [] all here applies ∙ ap (λ (gs : List Group). sent_to sender gs) (sym split) ∙ over_all-logged (pages_of sender.pages) (groups sender.log)

-- it stands for what the sender did when its log had these groups
pub comes_up_to : (sender earlier was now : Image) (before next later : List Group) → groups sender.log ≡ before ++ (next ++ later) → earlier.pages ≡ sender.pages → groups earlier.log ≡ before ++ next
    → replay was ≡ sent_to sender before → Applies next was now → replay now ≡ replay earlier
comes_up_to sender earlier was now before next later split area had here applies =
    comes_along sender was now before next later split here applies ∙ ap (λ (gs : List Group). sent_to sender gs) (sym had)
    ∙ ap (λ (bytes : List ℕ). over_all (pages_of bytes) (groups earlier.log)) (sym area) ∙ over_all-logged (pages_of earlier.pages) (groups earlier.log)

pub stays_along : StaysAlong
stays_along sender grown was now next same sent applied = applied ∙ ap (λ (pages : Pages). over_all pages next) same ∙ sym sent
