-- Which interval of a drawn sketch holds a node: its place in the list of intervals.
use Rattle.std.proofs.Common.{◌≡◌, ℕ, suc, ◌+◌, ◌≤◌, eqb, if◌then◌else◌, Bool, true, false, IsTrue, List, [], ◌∷◌, ◌++◌, length, Option, None, Some, refl, sym, ap, subst, ◌∙◌, arith, append_assoc, length-append}
use Rattle.std.specs.List.{AllByRecursion, position_from}
use Rattle.std.proofs.lemmas.Iterator.Adapters.{position_from-zero}
use Rattle.nx_matrix.specs.declared.rule.Entry.{Entry}
use Rattle.nx_matrix.specs.declared.rule.Entry.TheVariants.{Standalone, Cluster, Free}
use Rattle.nx_parts.specs.declared.interval.Interval.{Interval}
use Rattle.nx_parts.specs.declared.interval.Interval.TheVariants.{Run}
use Rattle.nx_parts.specs.Partitioning.{has_member, ShareMember, holder}
use Rattle.nx_cuts.proofs.PairLemmas.{PairsBy}
use Rattle.nx_cuts.proofs.FeasibleLemmas.{reaches_child, no_truth}
use Rattle.nx_division.specs.declared.cut.Cut.{Cut}
use Rattle.nx_division.specs.declared.cut.Cut.TheVariants.{Stays, Begins, GoesOn}
use Rattle.nx_division.specs.Drawn.{Drawn, Bare, Grown, end_position, drawn_intervals, interval_count, Rises, IsSoundDrawing, opened}
use Rattle.nx_division.proofs.LookLemmas.{AreFound, first_by, here_or, open_by, run_at, run_here, run_past, end_ge}

skip_if : (b : Bool) (i : ℕ) (o r : Option ℕ) → (b ≡ true → ⊥) → o ≡ r → (if b then Some i else o) ≡ r
skip_if true i o r n e = absurd (n refl)
skip_if false i o r n e = e

take_if : (b : Bool) (i : ℕ) (o : Option ℕ) → b ≡ true → (if b then Some i else o) ≡ Some i
take_if true i o e = refl
take_if false i o e = absurd (no_truth e)

abbrev pub from : List ℕ → ℕ → List Interval → Option ℕ
from q base xs = position_from (λ x. has_member x q) base xs

none_from : (q : List ℕ) (base : ℕ) (xs : List Interval) → AllByRecursion (λ x. IsTrue (has_member x q) → ⊥) xs → from q base xs ≡ None
none_from q base [] a = refl
none_from q base (x ∷ xs) a = skip_if (has_member x q) base _ None a.0 (none_from q (base + 1) xs a.1)

-- a node that no interval has as a member isn't held
pub unheld : (q : List ℕ) (xs : List Interval) → AllByRecursion (λ x. IsTrue (has_member x q) → ⊥) xs → holder xs q ≡ None
unheld q xs a = position_from-zero (λ x. has_member x q) xs ∙ none_from q 0 xs a

held_from : (q : List ℕ) (base : ℕ) (front : List Interval) (x : Interval) (back : List Interval) → PairsBy (λ a b. ¬ ShareMember a b) (front ++ x ∷ back) → IsTrue (has_member x q) → from q base (front ++ x ∷ back) ≡ Some (base + length front)
held_from q base [] x back p t = take_if (has_member x q) base _ t ∙ ap Some (let e : base ≡ base + 0 = omega arith in e)
held_from q base (y ∷ front) x back p t =
    skip_if (has_member y q) base _ (Some (base + suc (length front))) (λ u. apart_at front p.0 (q, u, t))
    (held_from q (base + 1) front x back p.1 t ∙ ap Some (let e : base + 1 + length front ≡ base + suc (length front) = omega arith in e))
  where
    apart_at : (front : List Interval) → AllByRecursion (λ z. ¬ ShareMember y z) (front ++ x ∷ back) → ¬ ShareMember y x
    apart_at [] a = a.0
    apart_at (z ∷ front) a = apart_at front a.1

-- the one interval that has a node as a member holds it
pub held : (q : List ℕ) (parts front : List Interval) (x : Interval) (back : List Interval) → parts ≡ front ++ x ∷ back → PairsBy (λ a b. ¬ ShareMember a b) parts → IsTrue (has_member x q) → holder parts q ≡ Some (length front)
held q parts front x back e p t =
    position_from-zero (λ x. has_member x q) parts ∙ ap (from q 0) e
    ∙ held_from q 0 front x back (subst (PairsBy (λ a b. ¬ ShareMember a b)) e p) t
    ∙ ap Some (let z : 0 + length front ≡ length front = omega arith in z)

pub some_same : {X : Type 0} {x y : X} → Some x ≡ Some y → x ≡ y
some_same e = cc

pub none_some : {X : Type 0} {x : X} → None ≡ Some x → ⊥
none_some e = cc

-- The places of the holders, counted from a number on; `run` is the place of the interval that may be gone on with.
abbrev pub IsNumbered : (List ℕ → Option ℕ) → ℕ → ℕ → List ℕ → Drawn → Type 0
IsNumbered h run base path Bare = Unit {0}
IsNumbered h run base path (Grown p w e Stays b s) = (h (path ++ p ∷ []) ≡ None) × IsNumbered h 0 base (path ++ p ∷ []) b × IsNumbered h 0 (base + interval_count b) path s
IsNumbered h run base path (Grown p w e Begins b s) = (h (path ++ p ∷ []) ≡ Some base) × IsNumbered h 0 (base + 1) (path ++ p ∷ []) b × IsNumbered h base (base + 1 + interval_count b) path s
IsNumbered h run base path (Grown p w e GoesOn b s) = (h (path ++ p ∷ []) ≡ Some run) × IsNumbered h 0 base (path ++ p ∷ []) b × IsNumbered h run (base + interval_count b) path s

pub length-drawn_intervals : (path : List ℕ) (d : Drawn) → length (drawn_intervals path d) ≡ interval_count d
length-drawn_intervals path Bare = refl
length-drawn_intervals path (Grown p w e Stays b s) = omega (arith, length-append (drawn_intervals (path ++ p ∷ []) b) (drawn_intervals path s), length-drawn_intervals (path ++ p ∷ []) b, length-drawn_intervals path s)
length-drawn_intervals path (Grown p w e Begins b s) = omega (arith, length-append (drawn_intervals (path ++ p ∷ []) b) (drawn_intervals path s), length-drawn_intervals (path ++ p ∷ []) b, length-drawn_intervals path s)
length-drawn_intervals path (Grown p w e GoesOn b s) = omega (arith, length-append (drawn_intervals (path ++ p ∷ []) b) (drawn_intervals path s), length-drawn_intervals (path ++ p ∷ []) b, length-drawn_intervals path s)

-- the interval that may be gone on with, as it stands in the list
pub record IsOpen (parts : List Interval) (path : List ℕ) (run last : ℕ) (d : Drawn) : Type 0 where
  pub first : ℕ
  pub front : List Interval
  pub back : List Interval
  pub some : first ≤ last
  pub place : length front ≡ run
  pub is : parts ≡ front ++ Run path first (end_position last d) ∷ back

-- a node that is drawn as no member isn't held
abbrev pub AreUnheld : ℕ → List Interval → List ℕ → Drawn → Type 0
AreUnheld low parts path d = (first step : ℕ) (way : List ℕ) → low ≤ step → run_at first (step ∷ way) d ≡ None → holder parts (path ++ step ∷ way) ≡ None

first_none : (cut : Cut) (f g p : ℕ) → first_by cut f p ≡ None → first_by cut g p ≡ None
first_none Stays f g p n = refl
first_none Begins f g p n = n
first_none GoesOn f g p n = absurd (none_some (sym n))

here_none : (way : List ℕ) (cut : Cut) (f g p : ℕ) (o : Option ℕ) → here_or way (first_by cut f p) o ≡ None → here_or way (first_by cut g p) o ≡ None
here_none [] cut f g p o n = first_none cut f g p n
here_none (step ∷ way) cut f g p o n = n

if_none : (t : Bool) (a b x y : Option ℕ) → (a ≡ None → b ≡ None) → (x ≡ None → y ≡ None) → (if t then a else x) ≡ None → (if t then b else y) ≡ None
if_none true a b x y h k n = h n
if_none false a b x y h k n = k n

-- whether a node is a member doesn't hang on what is gone on with
none_same : (f g : ℕ) (way : List ℕ) (d : Drawn) → run_at f way d ≡ None → run_at g way d ≡ None
none_same f g [] d n = refl
none_same f g (step ∷ way) Bare n = refl
none_same f g (step ∷ way) (Grown p w e cut b s) n =
    if_none (eqb step p) _ _ _ _ (here_none way cut f g p (run_at 0 way b)) (none_same (open_by cut f p) (open_by cut g p) (step ∷ way) s) n

module _ (parts : List Interval) (path : List ℕ) (p w : ℕ) (e : Entry) (cut : Cut) (b s : Drawn) (low : ℕ) (le : low ≤ p) (u : AreUnheld low parts path (Grown p w e cut b s)) where
  pub unheld_below : AreUnheld 0 parts (path ++ p ∷ []) b
  unheld_below first step way any n =
      ap (holder parts) (append_assoc path (p ∷ []) (step ∷ way))
      ∙ u 0 p (step ∷ way) le (run_here 0 p w e cut b s (step ∷ way) ∙ none_same first 0 (step ∷ way) b n)

  -- the steps of later neighbours are further ones
  pub unheld_beside : AreUnheld (p + 1) parts path s
  unheld_beside first step way far n = u 0 step way (omega arith) (run_past 0 p w e cut b s step way (λ same. omega arith) ∙ none_same first (open_by cut 0 p) (step ∷ way) s n)

  -- the holder of the node itself, where it stays
  unheld_here : cut ≡ Stays → holder parts (path ++ p ∷ []) ≡ None
  unheld_here stays = u 0 p [] le (run_here 0 p w e cut b s [] ∙ ap (λ c. first_by c 0 p) stays)

member_of_run : (path : List ℕ) (first p end : ℕ) → first ≤ p → p ≤ end → IsTrue (has_member (Run path first end) (path ++ p ∷ []))
member_of_run path first p end a b = reaches_child path first end p a b

pub open_end : (e : Entry) (p : ℕ) (s : Drawn) → IsSoundDrawing (opened e p) s → p ≤ end_position p s
open_end Standalone p Bare h = omega arith
open_end Standalone p (Grown q w e Stays b s) h = omega arith
open_end Standalone p (Grown q w e Begins b s) h = omega arith
open_end Standalone p (Grown q w e GoesOn b s) h = absurd (none_some h.1)
open_end Cluster p s h = end_ge p s h
open_end Free p s h = end_ge p s h

opened_some : (e : Entry) (p last : ℕ) → opened e p ≡ Some last → last ≡ p
opened_some Standalone p last h = absurd (none_some h)
opened_some Cluster p last h = sym (some_same h)
opened_some Free p last h = sym (some_same h)

-- the nodes of a drawn sketch are held by the intervals that are drawn
pub numbered : (parts : List Interval) → PairsBy (λ a b. ¬ ShareMember a b) parts → (low : ℕ) (before : Option ℕ) (run : ℕ) (path : List ℕ) (d : Drawn) → Rises low d → IsSoundDrawing before d → AreUnheld low parts path d
    → ((last : ℕ) → before ≡ Some last → IsOpen parts path run last d) → (base : ℕ) (front back : List Interval) → length front ≡ base → parts ≡ front ++ (drawn_intervals path d ++ back) → IsNumbered (holder parts) run base path d
numbered parts pairs low before run path Bare r h u o base front back n is = tt
numbered parts pairs low before run path (Grown p w e Stays b s) r h u o base front back n is =
    let bs = drawn_intervals (path ++ p ∷ []) b in
    let ss = drawn_intervals path s in
    let split : parts ≡ front ++ (bs ++ (ss ++ back)) = is ∙ ap (λ l. front ++ l) (append_assoc bs ss back) in
    let later : parts ≡ (front ++ bs) ++ (ss ++ back) = split ∙ sym (append_assoc front bs (ss ++ back)) in (
      unheld_here parts path p w e Stays b s low r.0 u refl,
      numbered parts pairs 0 None 0 (path ++ p ∷ []) b r.1 h.1 (unheld_below parts path p w e Stays b s low r.0 u) (λ last same. absurd (none_some same)) base front (ss ++ back) n split,
      numbered parts pairs (p + 1) None 0 path s r.2 h.2 (unheld_beside parts path p w e Stays b s low r.0 u) (λ last same. absurd (none_some same)) (base + interval_count b) (front ++ bs) back (omega (arith, length-append front bs, length-drawn_intervals (path ++ p ∷ []) b)) later,
    )
numbered parts pairs low before run path (Grown p w e Begins b s) r h u o base front back n is =
    let bs = drawn_intervals (path ++ p ∷ []) b in
    let ss = drawn_intervals path s in
    let x = Run path p (end_position p s) in
    let whole : parts ≡ front ++ x ∷ (bs ++ (ss ++ back)) = is ∙ ap (λ l. front ++ x ∷ l) (append_assoc bs ss back) in
    let split : parts ≡ (front ++ x ∷ []) ++ (bs ++ (ss ++ back)) = whole ∙ sym (append_assoc front (x ∷ []) (bs ++ (ss ++ back))) in
    let later : parts ≡ ((front ++ x ∷ []) ++ bs) ++ (ss ++ back) = split ∙ sym (append_assoc (front ++ x ∷ []) bs (ss ++ back)) in
    let one : length (front ++ x ∷ []) ≡ base + 1 = omega (arith, length-append front (x ∷ [])) in (
      held (path ++ p ∷ []) parts front x (bs ++ (ss ++ back)) whole pairs (member_of_run path p p (end_position p s) (omega arith) (open_end e p s h.1)) ∙ ap Some n,
      numbered parts pairs 0 None 0 (path ++ p ∷ []) b r.1 h.0 (unheld_below parts path p w e Begins b s low r.0 u) (λ last same. absurd (none_some same)) (base + 1) (front ++ x ∷ []) (ss ++ back) one split,
      numbered parts pairs (p + 1) (opened e p) base path s r.2 h.1 (unheld_beside parts path p w e Begins b s low r.0 u)
          (λ last same. let q = opened_some e p last same in record { first = p; front = front; back = bs ++ (ss ++ back); some = omega arith; place = n; is = subst (λ l. parts ≡ front ++ Run path p (end_position l s) ∷ (bs ++ (ss ++ back))) (sym q) whole })
          (base + 1 + interval_count b) ((front ++ x ∷ []) ++ bs) back (omega (arith, length-append (front ++ x ∷ []) bs, length-drawn_intervals (path ++ p ∷ []) b)) later,
    )
numbered parts pairs low before run path (Grown p w e GoesOn b s) r h u o base front back n is =
    let bs = drawn_intervals (path ++ p ∷ []) b in
    let ss = drawn_intervals path s in
    let split : parts ≡ front ++ (bs ++ (ss ++ back)) = is ∙ ap (λ l. front ++ l) (append_assoc bs ss back) in
    let later : parts ≡ (front ++ bs) ++ (ss ++ back) = split ∙ sym (append_assoc front bs (ss ++ back)) in
    let op = o h.0 h.1 in
    let next = h.2 in
    let some = op.some in (
      held (path ++ p ∷ []) parts op.front (Run path op.first (end_position p s)) op.back op.is pairs (member_of_run path op.first p (end_position p s) (omega arith) (end_ge p s h.5)) ∙ ap Some op.place,
      numbered parts pairs 0 None 0 (path ++ p ∷ []) b r.1 h.4 (unheld_below parts path p w e GoesOn b s low r.0 u) (λ last same. absurd (none_some same)) base front (ss ++ back) n split,
      numbered parts pairs (p + 1) (Some p) run path s r.2 h.5 (unheld_beside parts path p w e GoesOn b s low r.0 u)
          (λ last same. let q = some_same same in record { first = op.first; front = op.front; back = op.back; some = omega arith; place = op.place; is = subst (λ l. parts ≡ op.front ++ Run path op.first (end_position l s) ∷ op.back) q op.is })
          (base + interval_count b) (front ++ bs) back (omega (arith, length-append front bs, length-drawn_intervals (path ++ p ∷ []) b)) later,
    )

-- what isn't found below the helper isn't held
pub all_unheld : (d : Drawn) (parts : List Interval) → AreFound 0 0 [] d parts → AreUnheld 0 parts [] d
all_unheld d parts f first step way low n = unheld (step ∷ way) parts (none parts f)
  where
    none : (xs : List Interval) → AreFound 0 0 [] d xs → AllByRecursion (λ x. IsTrue (has_member x (step ∷ way)) → ⊥) xs
    none [] a = tt
    none (x ∷ xs) a = (
      (λ t. let g = a.0 (step ∷ way) t in none_some (sym (none_same first 0 (step ∷ way) d n) ∙ ap (λ (l : List ℕ). run_at 0 l d) g.leads ∙ g.begins)),
      none xs a.1,
    )
