-- Pages laid over pages, and what a checkpoint may leave.
use Rattle.std.proofs.Common.{◌≡◌, ◌⊎◌, ℕ, ◌+◌, ◌-◌, ◌*◌, ◌^◌, ◌<◌, ◌≤◌, get_or, List, [], ◌∷◌, ◌++◌, length, take, drop, refl, sym, ap, subst, ◌∙◌, arith, true, false, inl, inr}
use Rattle.std.proofs.lemmas.List.{drop-take, take-take, drop-drop}
use Rattle.std.proofs.lemmas.Bool.{false≢true, and_parts, and_from, leb-true, le-leb, ltb-true, lt-ltb, eqb-true}
use Rattle.std.specs.Prelude.{Option, Some, None, IsSome, min, nat_lt, nat_le, ◌==◌, ◌&&◌}
use Rattle.nx_host.specs.Disk.{Image, Torn}
use Rattle.nx_replay.proofs.StepLemmas.{less_or_not, same_but, at_end, closed}
use Rattle.std.specs.Option.{option_or}
use Rattle.nx_replay.specs.Log.{Pages, over, Group, entry_pages, logged, groups, groups_behind, pages_of, replay, HasGroup, HasSame, IsDense, Stays, IsPartlyMoved}

option_or-assoc : {T : Type 0} (a b c : Option T) → option_or (option_or a b) c ≡ option_or a (option_or b c)
option_or-assoc (Some x) b c = refl
option_or-assoc None b c = refl

pub over-over : (a b c : Pages) → over (over a b) c ≡ over a (over b c)
over-over a b c = λ i p. option_or-assoc (a p) (b p) (c p) i

option_or-none : {T : Type 0} (a : Option T) → option_or a None ≡ a
option_or-none (Some x) = refl
option_or-none None = refl

pub nothing-over : (a : Pages) → over a (λ p. None) ≡ a
nothing-over a = λ i p. option_or-none (a p) i

-- no group has a page
pub logged_none : (p : ℕ) → logged [] p ≡ None
unfolding logged
logged_none p = refl

-- the groups behind the first have their pages over its own
pub logged_first : (g : Group) (gs : List Group) (p : ℕ) → logged (g ∷ gs) p ≡ option_or (logged gs p) (entry_pages g.entries p)
unfolding logged
logged_first g gs p = refl

-- a group more lays its pages over those of the log
pub logged-more : (gs : List Group) (g : Group) → logged (gs ++ g ∷ []) ≡ over (entry_pages g.entries) (logged gs)
unfolding logged
logged-more [] g = sym (nothing-over (entry_pages g.entries))
logged-more (x ∷ gs) g = ap (λ (top : Pages). over top (entry_pages x.entries)) (logged-more gs g) ∙ over-over (entry_pages g.entries) (logged gs) (entry_pages x.entries)

-- ... and over those that the image stands for
pub replay-more : (g : Group) (was now : Image) → HasGroup g was now → replay now ≡ over (entry_pages g.entries) (replay was)
replay-more g was now more =
    ap (λ (area : List ℕ). over (logged (groups now.log)) (pages_of area)) more.area
    ∙ ap (λ (gs : List Group). over (logged gs) (pages_of was.pages)) more.log
    ∙ ap (λ (top : Pages). over top (pages_of was.pages)) (logged-more (groups was.log) g)
    ∙ over-over (entry_pages g.entries) (logged (groups was.log)) (pages_of was.pages)

-- where no group came, the pages are the same
pub replay-same : (was now : Image) → HasSame was now → replay now ≡ replay was
replay-same was now same =
    ap (λ (area : List ℕ). over (logged (groups now.log)) (pages_of area)) same.area ∙ ap (λ (gs : List Group). over (logged gs) (pages_of was.pages)) same.log

-- a write that a stop cuts short leaves a range that it doesn't touch
pub torn_apart : {at n : ℕ} {old new : List ℕ} (a m : ℕ) → Torn at n old new → a + m ≤ length old → (a + m ≤ at) ⊎ (at + n ≤ a) → take m (drop a new) ≡ take m (drop a old)
torn_apart {at = at} {old = old} {new = new} a m torn fits (inl below) =
    let prefix : take (a + m) new ≡ take (a + m) old =
    sym (take-take (a + m) (min at (length old)) new (omega (arith, below, fits))) ∙ ap (λ (x : List ℕ). take (a + m) x) torn.before ∙ take-take (a + m) at old below in
    sym (drop-take a m new) ∙ ap (λ (x : List ℕ). drop a x) prefix ∙ drop-take a m old
torn_apart {at = at} {n = n} {old = old} {new = new} a m torn fits (inr above) =
    let back : drop a (take (length old) new) ≡ drop a old =
    ap (λ (k : ℕ). drop k (take (length old) new)) (let h : a ≡ at + n + (a - (at + n)) = omega (arith, above) in h)
    ∙ sym (drop-drop (a - (at + n)) (at + n) (take (length old) new)) ∙ ap (λ (x : List ℕ). drop (a - (at + n)) x) torn.after
    ∙ drop-drop (a - (at + n)) (at + n) old ∙ ap (λ (k : ℕ). drop k old) (let h : at + n + (a - (at + n)) ≡ a = omega (arith, above) in h) in
    let cut : take m (drop a (take (length old) new)) ≡ take m (drop a new) =
    ap (λ (k : ℕ). take m (drop a (take k new))) (let h : length old ≡ a + (length old - a) = omega (arith, fits) in h)
    ∙ ap (λ (x : List ℕ). take m x) (drop-take a (length old - a) new) ∙ take-take m (length old - a) (drop a new) (omega (arith, fits)) in
    sym cut ∙ ap (λ (x : List ℕ). take m x) back

-- pages that differ don't overlap
apart : (top : Pages) (p q : ℕ) → top p ≡ None → IsSome (top q) → (8192 * p + 8192 ≤ 8192 * q) ⊎ (8192 * q + 8192 ≤ 8192 * p)
apart top p q none held =
    elim (less_or_not p q) [
      | inl below ↦ inl (omega (arith, below))
      | inr least ↦
          elim (less_or_not q p) [
            | inl above ↦ inr (omega (arith, above))
            | inr most ↦ absurd (let same : q ≡ p = omega (arith, least, most) in let lost : IsSome {T = List ℕ} None = subst IsSome none (subst (λ n. IsSome (top n)) same held) in false≢true lost)
          ]
    ]

-- each page that a checkpoint writes leaves the others
pub moved_more : (q : ℕ) (was old new : Image) → IsPartlyMoved was old → IsSome (logged (groups was.log) q) → new.log ≡ old.log → Torn (8192 * q) 8192 old.pages new.pages → IsPartlyMoved was new
moved_more q was old new so_far held log torn = record {
  log = log ∙ so_far.log;
  no_shorter = let a = so_far.no_shorter in let b = torn.no_shorter in omega (arith, a, b);
  kept = λ p fits none.
      let a = so_far.no_shorter in
      torn_apart (8192 * p) 8192 torn (omega (arith, fits, a)) (apart (logged (groups was.log)) p q none held) ∙ so_far.kept p fits none;
  no_longer = λ p past there.
      elim (less_or_not (length old.pages) (8192 * p + 8192)) [
        | inl added ↦ (q, let c = torn.no_longer in omega (arith, added, there, c), held)
        | inr before ↦ so_far.no_longer p past before
      ];
}

-- a page of the area is there exactly where its number may be and it is whole
pub page-there : (area : List ℕ) (p : ℕ) → p < 16777216 → 8192 * p + 8192 ≤ length area → pages_of area p ≡ Some (take 8192 (drop (8192 * p) area))
page-there area p low fits = let is : (nat_lt p 16777216 && nat_le (8192 * p + 8192) (length area)) ≡ true = and_from _ _ (lt-ltb p 16777216 low) (le-leb (8192 * p + 8192) (length area) fits) in rw is refl

pub page-cases : (area : List ℕ) (p : ℕ) → ((p < 16777216) × (8192 * p + 8192 ≤ length area)) ⊎ (pages_of area p ≡ None)
page-cases area p =
    elim (nat_lt p 16777216 && nat_le (8192 * p + 8192) (length area)) as (λ b. (nat_lt p 16777216 && nat_le (8192 * p + 8192) (length area)) ≡ b → ((p < 16777216) × (8192 * p + 8192 ≤ length area)) ⊎ (pages_of area p ≡ None)) [
      | true ↦ λ is. inl (let both = and_parts _ _ is in (ltb-true _ _ both.0, leb-true _ _ both.1))
      | false ↦ λ is. inr (rw is refl)
    ] refl

pub option_or-right : {T : Type 0} (a b : Option T) → IsSome b → IsSome (option_or a b)
option_or-right (Some x) b h = refl
option_or-right None b h = h

pub option_or-left : {T : Type 0} (a b : Option T) → IsSome a → IsSome (option_or a b)
option_or-left (Some x) b h = refl
option_or-left None b h = absurd (false≢true h)

no_some : {T : Type 0} (o : Option T) → o ≡ None → IsSome o → ⊥
no_some o none some = false≢true (subst IsSome none some)

-- where no page is missing below the greatest, none is added
same_page : (was now : Image) → IsPartlyMoved was now → (p : ℕ) → IsDense (replay was)
    → ((p : ℕ) → logged (groups was.log) p ≡ None → (p < 16777216) × (8192 * p + 8192 ≤ length was.pages) → pages_of now.pages p ≡ pages_of was.pages p)
    → option_or (logged (groups was.log) p) (pages_of now.pages p) ≡ option_or (logged (groups was.log) p) (pages_of was.pages p)
same_page was now moved p all here =
    let top = logged (groups was.log) in
    elim (top p) as (λ o. top p ≡ o → option_or (top p) (pages_of now.pages p) ≡ option_or (top p) (pages_of was.pages p)) [
      | Some x ↦ λ is. rw is refl
      | None ↦ λ none. rw none (
          elim (page-cases was.pages p) [
            | inl there ↦ here p none there
            | inr lost ↦
                elim (page-cases now.pages p) [
                  | inr gone ↦ gone ∙ sym lost
                  | inl added ↦
                      elim (less_or_not (length was.pages) (8192 * p + 8192)) [
                        | inr fits ↦ here p none (added.0, fits)
                        | inl past ↦
                            let held = moved.no_longer p past added.1 in
                            let missing : replay was p ≡ None = rw (none, lost) refl in
                            let q_there : IsSome (replay was held.0) = option_or-left (top held.0) (pages_of was.pages held.0) held.2 in
                            elim (less_or_not p held.0) [
                              | inl below ↦ absurd (no_some (replay was p) missing (all p held.0 below q_there))
                              | inr least ↦ absurd (let same : held.0 ≡ p = let h = held.1 in omega (arith, least, h) in no_some (top p) none (subst (λ n. IsSome (top n)) same held.2))
                            ]
                      ]
                ]
          ]
          )
    ] refl

-- what a checkpoint's writes of pages may leave stands for the same pages
pub moved_stays : (was now : Image) → IsPartlyMoved was now → Stays (replay was) (replay now)
moved_stays was now moved =
    let top = logged (groups was.log) in
    let log : logged (groups now.log) ≡ top = ap (λ (l : List ℕ). logged (groups l)) moved.log in
    let whole : replay now ≡ over top (pages_of now.pages) = ap (λ (t : Pages). over t (pages_of now.pages)) log in
    let here : (p : ℕ) → top p ≡ None → (p < 16777216) × (8192 * p + 8192 ≤ length was.pages) → pages_of now.pages p ≡ pages_of was.pages p =
    λ p none there.
    let more = moved.no_shorter in
    page-there now.pages p there.0 (omega (arith, there.1, more)) ∙ ap (λ (x : List ℕ). Some x) (moved.kept p there.1 none) ∙ sym (page-there was.pages p there.0 there.1) in
    record {
      each = λ p some.
          ap (λ (r : Pages). r p) whole
          ∙ elim (top p) as (λ o. top p ≡ o → option_or (top p) (pages_of now.pages p) ≡ option_or (top p) (pages_of was.pages p)) [
            | Some x ↦ λ is. rw is refl
            | None ↦ λ none. rw none (elim (page-cases was.pages p) [
              | inl there ↦ here p none there
              | inr lost ↦ absurd (no_some (replay was p) (rw (none, lost) refl) some)
            ])
          ] refl;
      dense = λ all. whole ∙ λ i p. same_page was now moved p all here i;
    }

-- the area has each page that the log holds, as the log has it
pub record IsMoved (now : Image) : Type 0 where
  pub opened : get_or now.log 0 0 ≡ 1
  pub some : 0 < length now.log
  pub in_area : (p : ℕ) → IsSome (logged (groups now.log) p) → pages_of now.pages p ≡ logged (groups now.log) p

same_at : (now : Image) → IsMoved now → (p : ℕ) → option_or (logged (groups now.log) p) (pages_of now.pages p) ≡ pages_of now.pages p
same_at now moved p =
    elim (logged (groups now.log) p) as (λ o. logged (groups now.log) p ≡ o → option_or (logged (groups now.log) p) (pages_of now.pages p) ≡ pages_of now.pages p) [
      | Some x ↦ λ is. rw is (sym (moved.in_area p (rw is refl) ∙ is))
      | None ↦ λ none. rw none refl
    ] refl

-- so it stands for the same pages without its log
pub moved_alone : (now : Image) → IsMoved now → replay now ≡ pages_of now.pages
moved_alone now moved = λ i p. same_at now moved p i

-- closing the first gate, whole or cut short, leaves the pages that the image stands for
pub closed_torn : (now i : Image) → IsMoved now → i.pages ≡ now.pages → Torn 0 1 now.log i.log → replay i ≡ replay now
closed_torn now i moved area torn =
    let here : 0 < length now.log = moved.some in
    elim (get_or i.log 0 0 == 1) as (λ b. (get_or i.log 0 0 == 1) ≡ b → replay i ≡ replay now) [
      | true ↦ λ stays.
          let same : i.log ≡ now.log = same_but 0 i.log now.log here torn refl (eqb-true _ _ stays ∙ sym moved.opened) in
          ap (λ (l : List ℕ). over (logged (groups l)) (pages_of i.pages)) same ∙ ap (λ (a : List ℕ). over (logged (groups now.log)) (pages_of a)) area
      | false ↦ λ shut.
          let long : 0 < length i.log = let more = torn.no_shorter in omega (arith, here, more) in
          let first : take (2 ^ 63) i.log ≡ get_or i.log 0 0 ∷ drop 1 (take (2 ^ 63) i.log) = at_end (2 ^ 63) i.log 0 (omega arith) long in
          let none : groups i.log ≡ [] = ap (λ (x : List ℕ). groups_behind 0 x) first ∙ closed (get_or i.log 0 0) (drop 1 (take (2 ^ 63) i.log)) shut in
          ap (λ (gs : List Group). over (logged gs) (pages_of i.pages)) none ∙ ap (λ (t : Pages). over t (pages_of i.pages)) (λ j p. logged_none p j)
          ∙ ap (λ (a : List ℕ). pages_of a) area ∙ sym (moved_alone now moved)
    ] refl
