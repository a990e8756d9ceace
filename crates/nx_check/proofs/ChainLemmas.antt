-- One page more of a byte list: what a loop over it keeps.
use Rattle.std.proofs.Common.{◌≡◌, ◌≢◌, ℕ, ◌+◌, ◌-◌, ◌*◌, ◌<◌, ◌≤◌, List, [], ◌∷◌, ◌++◌, length, length-append, take, drop, Some, refl, sym, ap, ◌∙◌, subst, arith, inl, inr, append_assoc, append-nil}
use Rattle.std.specs.Prelude.{min}
use Rattle.nx_host.specs.Disk.{Image}
use Rattle.nx_host.specs.declared.disk.Disk.{Ghosts}
use Rattle.nx_numbers.specs.Sizes.{page_room}
use Rattle.nx_chain.specs.Chain.{IsChainPage}
use Rattle.nx_chain.proofs.Chain.{says_length, says_next, says_content}
use Rattle.nx_replay.specs.Log.{Pages, replay}
use Rattle.nx_holdings.specs.Holdings.{times, Link, content_of, pages_of_links}
use Rattle.nx_layouts.specs.Layout.{RecordPlace}
use Rattle.nx_rules.specs.Listed.{AreUsedOnce, last_page, IsLinkTo, AreFullFrom, IsListTo, IsListOf}
use Rattle.nx_rules.specs.Broken.{Blames, IsNoLink, FitsThere, BreaksList}
use Rattle.nx_rules.specs.declared.verdict.PageRule.{PageRule}
use Rattle.nx_rules.specs.declared.verdict.PageRule.TheVariants as rule
use Rattle.nx_rules.proofs.FirstLemmas.{pages_append}
use Rattle.nx_rules.proofs.SoundLemmas.{content_append}
use Rattle.nx_check.specs.declared.left.Left.{Left}
use Rattle.nx_check.specs.declared.reading.Walk.{Walk}
use Rattle.nx_check.specs.declared.uses.PageUse.TheVariants.{Unseen, Chain}
use Rattle.nx_check.specs.declared.uses.Uses.{Uses}
use Rattle.nx_check.specs.Marks.{AreMarked}
use Rattle.nx_check.specs.On.{IsOn}
use Rattle.nx_check.specs.Uses.{use_of}
use Rattle.nx_check.specs.Come.{HasCome}
use Rattle.nx_check.proofs.FreeLemmas.{more_times, last_more}
use Rattle.nx_check.proofs.MarkLemmas.{MarksPage, seen_chain, unseen_unused, mark_chain}

-- a page that is new comes once
pub used_more : (used : List ℕ) (page : ℕ) → AreUsedOnce used → times page used ≡ 0 → AreUsedOnce (used ++ page ∷ [])
used_more used page once fresh q = elim (more_times q page used) [
  | inl same ↦ (let e = same.1 in let none : times q used ≡ 0 = subst (λ (x : ℕ). times x used ≡ 0) (sym same.0) fresh in omega (arith, e, none))
  | inr other ↦ (let e = other.1 in let few = once q in omega (arith, e, few))
]

full_on : (pages : Pages) (first : ℕ) (ls : List Link) (l : Link) (next : ℕ) → AreFullFrom pages first ls l.page → length l.content ≡ page_room → next ≢ 0 → IsLinkTo pages l next → AreFullFrom pages first (ls ++ l ∷ []) next
full_on pages first [] l next h full some at = (h, full, (next, some, at, refl))
full_on pages first (k ∷ ls) l next h full some at = (h.0, h.1, (h.2.0, h.2.1, h.2.2, full_on pages h.2.0 ls l next h.2.3 full some at))

pub links_last : (used : List ℕ) (links : List Link) (link : Link) → used ++ pages_of_links (links ++ link ∷ []) ≡ (used ++ pages_of_links links) ++ link.page ∷ []
links_last used links link = ap (λ (x : List ℕ). used ++ x) (pages_append links (link ∷ [])) ∙ sym (append_assoc used (pages_of_links links) (link.page ∷ []))

-- A byte list goes on by a chain page that is new and fits, where more is left than it holds.
list_more : (pages : Pages) (used : List ℕ) (first size : ℕ) (links : List Link) (link : Link) (next : ℕ) → IsListTo pages used first size links link.page → IsLinkTo pages link next
    → times link.page (used ++ pages_of_links links) ≡ 0 → FitsThere (size - page_room * length links) next link.content → page_room < size - page_room * length links → IsListTo pages used first size (links ++ link ∷ []) next
list_more pages used first size links link next h at fresh fits more =
    let long : length (links ++ link ∷ []) ≡ length links + length (link ∷ []) = length-append links (link ∷ []) in
    let holds : length link.content ≡ min (size - page_room * length links) page_room = fits.holds in
    record {
      linked = full_on pages first links link next h.linked (omega (arith, holds, more)) (fits.goes_on more) at;
      more = omega (arith, long, more);
      once = subst (λ (x : List ℕ). AreUsedOnce x) (sym (links_last used links link)) (used_more (used ++ pages_of_links links) link.page h.once fresh);
    }

-- ... and ends by one, where no more is left.
list_ends : (pages : Pages) (used : List ℕ) (first size : ℕ) (links : List Link) (link : Link) (next : ℕ) → IsListTo pages used first size links link.page → IsLinkTo pages link next
    → times link.page (used ++ pages_of_links links) ≡ 0 → FitsThere (size - page_room * length links) next link.content → size - page_room * length links ≤ page_room → IsListOf pages used first size (links ++ link ∷ [])
list_ends pages used first size links link next h at fresh fits last =
    let holds : length link.content ≡ min (size - page_room * length links) page_room = fits.holds in
    let more : page_room * length links < size = h.more in
    record {
      front = links;
      last = link;
      are = refl;
      to = h;
      end = subst (λ (n : ℕ). IsLinkTo pages link n) (fits.ends last) at;
      left = omega (arith, holds, more, last);
      fresh = fresh;
    }

-- how far a walk over a list has come: to a page that the last one names, with so many bytes left
pub record IsListWalk (pages : Pages) (used : List ℕ) (start first size : ℕ) (links : List Link) (by page left : ℕ) : Type 0 where
  pub to : IsListTo pages used first size links page
  pub last : by ≡ last_page start (pages_of_links links)
  pub left_is : left ≡ size - page_room * length links

pub begin_list : (pages : Pages) (used : List ℕ) (by first size : ℕ) → AreUsedOnce used → 1 ≤ size → IsListWalk pages used by first size [] by first size
begin_list pages used by first size once some = record {
  to = record { linked = refl; more = omega (arith, some); once = subst (λ (x : List ℕ). AreUsedOnce x) (sym (append_nil used)) once };
  last = refl;
  left_is = omega arith;
}
  where
    append_nil : (xs : List ℕ) → xs ++ [] ≡ xs
    append_nil [] = refl
    append_nil (x ∷ xs) = ap (λ (l : List ℕ). x ∷ l) (append_nil xs)

-- what one page of a list says
pub record StepsList (pages : Pages) (used : List ℕ) (page left next : ℕ) (link : Link) : Type 0 where
  pub here : link.page ≡ page
  pub at : IsLinkTo pages link next
  pub fresh : times page used ≡ 0
  pub fits : FitsThere left next link.content

pub go_on_list : (pages : Pages) (used : List ℕ) (start first size : ℕ) (links : List Link) (by page left next : ℕ) (link : Link) → IsListWalk pages used start first size links by page left → StepsList pages (used ++ pages_of_links links) page left next link
    → page_room < left → IsListWalk pages used start first size (links ++ link ∷ []) page next (left - page_room)
go_on_list pages used start first size links by page left next link h step more = record {
  to = list_more pages used first size links link next (subst (λ (p : ℕ). IsListTo pages used first size links p) (sym step.here) h.to) step.at (subst (λ (p : ℕ). times p (used ++ pages_of_links links) ≡ 0) (sym step.here) step.fresh)
      (subst (λ (n : ℕ). FitsThere n next link.content) h.left_is step.fits) (let e = h.left_is in omega (arith, e, more));
  last = sym step.here ∙ sym (ap (last_page start) (pages_append links (link ∷ [])) ∙ last_more start (pages_of_links links) link.page);
  left_is = (let e = h.left_is in let long : length (links ++ link ∷ []) ≡ length links + length (link ∷ []) = length-append links (link ∷ []) in omega (arith, e, long));
}

pub end_list : (pages : Pages) (used : List ℕ) (start first size : ℕ) (links : List Link) (by page left next : ℕ) (link : Link) → IsListWalk pages used start first size links by page left → StepsList pages (used ++ pages_of_links links) page left next link
    → left ≤ page_room → IsListOf pages used first size (links ++ link ∷ [])
end_list pages used start first size links by page left next link h step last =
    list_ends pages used first size links link next (subst (λ (p : ℕ). IsListTo pages used first size links p) (sym step.here) h.to) step.at (subst (λ (p : ℕ). times p (used ++ pages_of_links links) ≡ 0) (sym step.here) step.fresh)
    (subst (λ (n : ℕ). FitsThere n next link.content) h.left_is step.fits) (let e = h.left_is in omega (arith, e, last))

pub list_breaks : (pages : Pages) (used : List ℕ) (start first size : ℕ) (links : List Link) (by page left blamed : ℕ) → IsListWalk pages used start first size links by page left
    → Blames pages by page (IsNoLink (used ++ pages_of_links links) left page) blamed → BreaksList pages used start first size blamed
list_breaks pages used start first size links by page left blamed h blames = record {
  links = links;
  next = page;
  to = h.to;
  blamed = subst (λ (b : ℕ). Blames pages b page (IsNoLink (used ++ pages_of_links links) (size - page_room * length links) page) blamed) h.last
      (subst (λ (n : ℕ). Blames pages by page (IsNoLink (used ++ pages_of_links links) n page) blamed) h.left_is blames);
}

-- The page that comes next.

pub link_at : (pages : Pages) (page next : ℕ) (bytes content : List ℕ) → pages page ≡ Some bytes → IsChainPage bytes next content → IsLinkTo pages (record { page = page; content = content }) next
link_at pages page next bytes content there is = record { is = record { there = there ∙ ap (λ (b : List ℕ). Some b) is.are; some = is.some; few = is.few }; low = is.low }

one_chain_page : (bytes : List ℕ) (n m : ℕ) (x y : List ℕ) → IsChainPage bytes n x → IsChainPage bytes m y → (n ≡ m) × (x ≡ y)
one_chain_page bytes n m x y a b =
    let long : length x ≡ length y = sym (says_length bytes n x a) ∙ says_length bytes m y b in
    (sym (says_next bytes n x a) ∙ says_next bytes m y b, sym (says_content bytes n x a) ∙ ap (λ (k : ℕ). take k (drop 8 bytes)) long ∙ says_content bytes m y b)

pub not_next : (uses : Uses) (marks : Left) (pages : Pages) (free used : List ℕ) (reached : List RecordPlace) (page left next : ℕ) (bytes content : List ℕ) → AreMarked uses marks pages free used reached → pages page ≡ Some bytes → IsChainPage bytes next content
    → (FitsThere left next content → use_of uses page ≡ Unseen → ⊥) → IsNoLink used left page bytes
not_next uses marks pages free used reached page left next bytes content marked there found bad n x is fresh fits =
    let same = one_chain_page bytes n next x content is found in
    let fits_found : FitsThere left next content = subst (λ (k : ℕ). FitsThere left k content) same.0 (subst (λ (c : List ℕ). FitsThere left n c) same.1 fits) in
    seen_chain uses marks pages free used reached (record { page = page; content = content }) next marked (link_at pages page next bytes content there found) (λ unseen. bad fits_found unseen) fresh

-- the walk has come to one chain page more
pub come_next : {D : Type 0} (d : Ghosts D) (old loaded : Walk) (uses : Uses) (before after : D) (was : Image) (base : ℕ) (free used : List ℕ) (reached : List RecordPlace) (page next : ℕ) (bytes content : List ℕ)
    → HasCome d old before was base free used reached → IsOn d loaded after was → loaded ≡ record old { page = loaded.page; at = loaded.at } → d.reads after ≤ d.reads before + 1 → replay was page ≡ Some bytes → IsChainPage bytes next content
    → use_of loaded.uses page ≡ Unseen → MarksPage loaded.uses uses page Chain → (times page used ≡ 0) × HasCome d (record loaded { uses = uses }) after was base free (used ++ page ∷ []) reached
come_next d old loaded uses before after was base free used reached page next bytes content come on same soon there is unseen now =
    let marked : AreMarked loaded.uses loaded.left (replay was) free used reached = subst (λ (w : Walk). AreMarked w.uses w.left (replay was) free used reached) (sym same) come.marked in
    let fresh = (unseen_unused loaded.uses loaded.left (replay was) free used reached page marked unseen).1 in
    let long : length (used ++ page ∷ []) ≡ length used + length (page ∷ []) = length-append used (page ∷ []) in
    let so_far : d.reads before ≤ base + length free + length used + length reached = come.reads in (
      fresh,
      record {
        on = record { step = on.step; none = on.none; page = on.page };
        marked = mark_chain loaded.uses uses loaded.left (replay was) free used reached (record { page = page; content = content }) next marked (link_at (replay was) page next bytes content there is) now;
        once = used_more used page come.once fresh;
        reads = omega (arith, long, so_far, soon);
      },
    )

-- What a walk over a list says.

abbrev pub SaysList : {D : Type 0} → Ghosts D → Walk → D → (by first size : ℕ) → PageRule → ℕ → Type 0
SaysList d walk disk by first size broken blamed =
    (broken ≡ rule.Chain) × ((was : Image) (base : ℕ) (free used : List ℕ) (reached : List RecordPlace) → HasCome d walk disk was base free used reached → BreaksList (replay was) used by first size blamed)

abbrev pub SaysNext : {D : Type 0} → Ghosts D → Walk → D → (by page left : ℕ) → PageRule → ℕ → Type 0
SaysNext d walk disk by page left broken blamed =
    (broken ≡ rule.Chain) × ((was : Image) (base : ℕ) (free used : List ℕ) (reached : List RecordPlace) → HasCome d walk disk was base free used reached → Blames (replay was) by page (IsNoLink used left page) blamed)

-- from the start on it has come to a page of the list
abbrev pub WalksList : {D : Type 0} → Ghosts D → Walk → D → Walk → D → (start first size by page left : ℕ) → Type 0
WalksList d old before walk disk start first size by page left =
    (was : Image) (base : ℕ) (free used : List ℕ) (reached : List RecordPlace) → HasCome d old before was base free used reached
    → (links : List Link) × IsListWalk (replay was) used start first size links by page left × HasCome d walk disk was base free (used ++ pages_of_links links) reached

pub next_says : {D : Type 0} (d : Ghosts D) (old walk : Walk) (before disk : D) (start first size by page left : ℕ) → WalksList d old before walk disk start first size by page left → (broken : PageRule) (blamed : ℕ)
    → SaysNext d walk disk by page left broken blamed → SaysList d old before start first size broken blamed
next_says d old walk before disk start first size by page left walked broken blamed h = (
  h.0,
  λ was base free used reached come.
      let so_far = walked was base free used reached come in
      list_breaks (replay was) used start first size so_far.0 by page left blamed so_far.1 (h.1 was base free (used ++ pages_of_links so_far.0) reached so_far.2),
)

pub links_more : (used : List ℕ) (links : List Link) (link : Link) (page : ℕ) → link.page ≡ page → (used ++ pages_of_links links) ++ page ∷ [] ≡ used ++ pages_of_links (links ++ link ∷ [])
links_more used links link page here = ap (λ (p : ℕ). (used ++ pages_of_links links) ++ p ∷ []) (sym here) ∙ sym (links_last used links link)

-- the bytes of one page more
pub into_more : (start into new piece : List ℕ) (links : List Link) (link : Link) → into ≡ start ++ content_of links → new ≡ into ++ piece → piece ≡ link.content → new ≡ start ++ content_of (links ++ link ∷ [])
into_more start into new piece links link so_far more same =
    more ∙ ap (λ (l : List ℕ). l ++ piece) so_far ∙ append_assoc start (content_of links) piece
    ∙ ap (λ (l : List ℕ). start ++ l) (ap (λ (l : List ℕ). content_of links ++ l) (same ∙ sym (append-nil link.content)) ∙ sym (content_append links (link ∷ [])))

pub room_min : (left : ℕ) → page_room ≤ left → min left page_room ≡ page_room
room_min left more = omega (arith, more)

pub left_min : (left : ℕ) → left ≤ page_room → min left page_room ≡ left
left_min left last = omega (arith, last)
