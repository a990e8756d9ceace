-- Each page below the header's number is there.
use Rattle.std.proofs.Common.{◌≡◌, ◌⊎◌, ℕ, ◌<◌, ◌≤◌, true, false, List, [], ◌∷◌, ◌++◌, ap, ◌∙◌, arith, inl, inr}
use Rattle.std.specs.Prelude.{◌==◌, IsSome}
use Rattle.std.specs.Option.{is_some}
use Rattle.std.specs.List.{AllByRecursion}
use Rattle.std.proofs.lemmas.Bool.{cases_lt, eq-eqb}
use Rattle.nx_replay.specs.Log.{Pages, IsDense}
use Rattle.nx_holdings.specs.declared.header.Header.{Header}
use Rattle.nx_holdings.specs.Holdings.{times, AreLinked, Chain, links_of, pages_of_chains, Shares, named, Held, HoldsBy, Holds}
use Rattle.nx_holdings.proofs.TimesLemmas.{times-append, first_or, free_there, chain_there}
use Rattle.nx_holdings.proofs.SharedLemmas.{some_or}

pub among_here : (p q : ℕ) (qs : List ℕ) → p ≡ q → 1 ≤ times p (q ∷ qs)
among_here p q qs same = let is : (p == q) ≡ true = eq-eqb p q same in rw is (omega arith)

-- a page among two joined lists is in one of them
pub in_one : (p : ℕ) (xs ys : List ℕ) → 1 ≤ times p (xs ++ ys) → (1 ≤ times p xs) ⊎ (1 ≤ times p ys)
in_one p xs ys among = elim (some_or (times p xs)) [
  | inl left ↦ inl left
  | inr none ↦ inr (let both = times-append p xs ys in omega (arith, both, none, among))
]

abbrev pub AreChains : Pages → List Chain → Type 0
AreChains pages cs = AllByRecursion (λ c. AreLinked pages (links_of c)) cs

-- The uses that a named page may have.
pub data Use (s : Shares) (loose : List ℕ) (p : ℕ) : Type 0 where
  header : p ≡ 0 → Use s loose p
  free : 1 ≤ times p s.free → Use s loose p
  chained : 1 ≤ times p (pages_of_chains s.chains) → Use s loose p
  unused : 1 ≤ times p loose → Use s loose p

pub use_of : (s : Shares) (loose : List ℕ) (p : ℕ) → 1 ≤ times p (named s loose) → Use s loose p
use_of s loose p among = elim (first_or p 0 (s.free ++ (pages_of_chains s.chains ++ loose)) among) [
  | inl same ↦ header same
  | inr later ↦ elim (in_one p s.free (pages_of_chains s.chains ++ loose) later) [
    | inl here ↦ free here
    | inr rest ↦ elim (in_one p (pages_of_chains s.chains) loose rest) [
      | inl here ↦ chained here
      | inr here ↦ unused here
    ]
  ]
]

-- a named page is there
named_there : {pages : Pages} {head : Header} {held : Held} (by : HoldsBy pages head held) (p : ℕ) → Use by.behind.shares [] p → IsSome (pages p)
named_there {pages} {head} by p (header same) = ap is_some (ap pages same ∙ by.here)
named_there {pages} {head} by p (free among) = ap is_some ((free_there pages head.free by.behind.shares.free p by.behind.shared.free among).1)
named_there {pages} {head} by p (chained among) = ap is_some ((chain_there pages by.behind.shares.chains p by.behind.shared.chains among).1.1)
named_there {pages} {head} by p (unused among) = absurd (omega (arith, among))

-- so is a page that isn't named
pub below_there : {pages : Pages} {head : Header} {held : Held} (by : HoldsBy pages head held) (p : ℕ) → p < head.pages → IsSome (pages p)
below_there by p low = elim (some_or (times p (named by.behind.shares []))) [
  | inr none ↦ ap is_some (by.behind.shared.slotted p low none).there
  | inl some ↦ named_there by p (use_of by.behind.shares [] p some)
]

pub there_below : {pages : Pages} {head : Header} {held : Held} (by : HoldsBy pages head held) (p : ℕ) → IsSome (pages p) → p < head.pages
there_below {pages} {head} by p some = elim (cases_lt p head.pages) [
  | inl low ↦ low
  | inr high ↦ let none : is_some (pages p) ≡ false = ap is_some (by.behind.shared.none_past p high) in cc
]

-- no page is missing below one that is there
pub dense : (pages : Pages) (held : Held) → Holds pages held → IsDense pages
dense pages held holds p q low some =
    below_there holds.1 p (let below = there_below holds.1 q some in omega arith)
