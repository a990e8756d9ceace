-- The chains of sound pages, as lists that a walk reads.
use Rattle.std.proofs.Common.{◌≡◌, ◌≢◌, ℕ, ◌+◌, ◌*◌, ◌<◌, ◌≤◌, ◌^◌, Bool, true, false, List, [], ◌∷◌, ◌++◌, length, length-append, refl, sym, ap, ◌∙◌, subst, arith, inl, inr, append-nil}
use Rattle.std.specs.Prelude.{◌==◌, if◌then◌else◌, Option, Some, IsSome}
use Rattle.std.proofs.lemmas.Bool.{eq-eqb, eqb-true, cases_Bool, cases_lt}
use Rattle.nx_numbers.specs.Sizes.{page_room}
use Rattle.nx_replay.specs.Log.{Pages}
use Rattle.nx_holdings.specs.Holdings.{times, Link, AreLinked, Chain, links_of, content_of, pages_of_links, pages_of_chains, list_at}
use Rattle.nx_holdings.proofs.DenseLemmas.{AreChains, among_here}
use Rattle.nx_holdings.proofs.TimesLemmas.{times-append, times_one}
use Rattle.nx_rules.specs.Listed.{AreUsedOnce, IsLinkTo, AreFullFrom, IsListOf}
use Rattle.nx_rules.proofs.FirstLemmas.{pages_append, front_once}
use Rattle.nx_rules.proofs.SoundLemmas.{full_length, content_append}

-- the pages have numbers that a page may name
abbrev pub AreLow : List ℕ → Type 0
AreLow ps = (p : ℕ) → 1 ≤ times p ps → (1 ≤ p) × (p < 2 ^ 32)

-- a chain as full pages and a last one
record IsWay (pages : Pages) (first : ℕ) (links : List Link) : Type 0 where
  front : List Link
  last : Link
  are : links ≡ front ++ last ∷ []
  way : AreFullFrom pages first front last.page
  end : IsLinkTo pages last 0

later_low : (q : ℕ) (qs : List ℕ) → AreLow (q ∷ qs) → AreLow qs
later_low q qs all p among = all p (omega (arith, among))

way_of : (pages : Pages) (l : Link) (ls : List Link) → AreLinked pages (l ∷ ls) → AreLow (pages_of_links (l ∷ ls)) → IsWay pages l.page (l ∷ ls)
way_of pages l [] h low = record { front = []; last = l; are = refl; way = refl; end = record { is = h.0; low = omega arith } }
way_of pages l (k ∷ ls) h low =
    let rest = way_of pages k ls h.2 (later_low l.page (pages_of_links (k ∷ ls)) low) in
    let number = low k.page (let one = among_here k.page k.page (pages_of_links ls) refl in omega (arith, one)) in
    let full : length l.content ≡ page_room = h.1 (omega arith) in
    let some : k.page ≢ 0 = λ e. (let n : 1 ≤ k.page = number.0 in omega (arith, n, e)) in
    record {
      front = l ∷ rest.front;
      last = rest.last;
      are = ap (λ r. l ∷ r) rest.are;
      way = (refl, full, (k.page, some, record { is = h.0; low = number.1 }, rest.way));
      end = rest.end;
    }

-- a chain is a list that a walk reads
pub list_of_chain : (pages : Pages) (l : Link) (ls : List Link) (size : ℕ) → AreLinked pages (l ∷ ls) → AreLow (pages_of_links (l ∷ ls)) → AreUsedOnce (pages_of_links (l ∷ ls)) → length (content_of (l ∷ ls)) ≡ size → IsListOf pages [] l.page size (l ∷ ls)
list_of_chain pages l ls size h low once sized =
    let w = way_of pages l ls h low in
    let a : length (content_of w.front) ≡ page_room * length w.front = full_length pages l.page w.front w.last.page w.way in
    let b : content_of (l ∷ ls) ≡ content_of w.front ++ (w.last.content ++ []) = ap content_of w.are ∙ content_append w.front (w.last ∷ []) in
    let c : length (content_of (l ∷ ls)) ≡ length (content_of w.front) + length (w.last.content ++ []) = ap length b ∙ length-append (content_of w.front) (w.last.content ++ []) in
    let d : length (w.last.content ++ []) ≡ length w.last.content = ap length (append-nil w.last.content) in
    let some : 1 ≤ length w.last.content = w.end.is.some in
    let left : page_room * length w.front + length w.last.content ≡ size = omega (arith, a, c, d, sized) in
    let all : AreUsedOnce (pages_of_links (w.front ++ w.last ∷ [])) = subst (λ (x : List Link). AreUsedOnce (pages_of_links x)) w.are once in
    let p = w.last.page in
    let e : times p (pages_of_links (w.front ++ w.last ∷ [])) ≡ times p (pages_of_links w.front) + times p (p ∷ []) = ap (times p) (pages_append w.front (w.last ∷ [])) ∙ times-append p (pages_of_links w.front) (p ∷ []) in
    let one : times p (p ∷ []) ≡ 1 = times_one p [] in
    let most : times p (pages_of_links (w.front ++ w.last ∷ [])) ≤ 1 = all p in
    record {
      front = w.front;
      last = w.last;
      are = w.are;
      to = record { linked = w.way; more = omega (arith, left, some); once = front_once [] w.front (w.last ∷ []) all };
      end = w.end;
      left = left;
      fresh = omega (arith, e, one, most);
    }

-- the links of the chain that begins at a page, none where no chain begins there
abbrev pub links_at : List Chain → ℕ → List Link
links_at [] page = []
links_at (c ∷ cs) page = if page == (c.first).page then links_of c else links_at cs page

few_by : (b : Bool) (p : ℕ) (here rest : List Link) (n m : ℕ) → times p (pages_of_links here) ≤ n → times p (pages_of_links rest) ≤ m → times p (pages_of_links (if b then here else rest)) ≤ n + m
few_by true p here rest n m a b = omega (arith, a)
few_by false p here rest n m a b = omega (arith, b)

pub one_links : (cs : List Chain) (page p : ℕ) → times p (pages_of_links (links_at cs page)) ≤ times p (pages_of_chains cs)
one_links [] page p = omega arith
one_links (c ∷ cs) page p =
    let both = times-append p (pages_of_links (links_of c)) (pages_of_chains cs) in
    let rest = one_links cs page p in
    let sum = few_by (page == (c.first).page) p (links_of c) (links_at cs page) (times p (pages_of_links (links_of c))) (times p (pages_of_chains cs)) (omega arith) rest in
    omega (arith, both, sum)

two_by : (b d : Bool) (p : ℕ) (here one two : List Link) (m : ℕ) → (b ≡ true → d ≡ true → ⊥) → times p (pages_of_links one) ≤ m → times p (pages_of_links two) ≤ m → times p (pages_of_links one) + times p (pages_of_links two) ≤ m
    → times p (pages_of_links (if b then here else one)) + times p (pages_of_links (if d then here else two)) ≤ times p (pages_of_links here) + m
two_by true true p here one two m apart x y z = absurd (apart refl refl)
two_by true false p here one two m apart x y z = omega (arith, y)
two_by false true p here one two m apart x y z = omega (arith, x)
two_by false false p here one two m apart x y z = omega (arith, z)

-- chains that begin at different pages are apart
pub two_links : (cs : List Chain) (page other p : ℕ) → (page ≡ other → ⊥) → times p (pages_of_links (links_at cs page)) + times p (pages_of_links (links_at cs other)) ≤ times p (pages_of_chains cs)
two_links [] page other p apart = omega arith
two_links (c ∷ cs) page other p apart =
    let both = times-append p (pages_of_links (links_of c)) (pages_of_chains cs) in
    let sum = two_by (page == (c.first).page) (other == (c.first).page) p (links_of c) (links_at cs page) (links_at cs other) (times p (pages_of_chains cs))
    (λ a b. apart (eqb-true page (c.first).page a ∙ sym (eqb-true other (c.first).page b))) (one_links cs page p) (one_links cs other p) (two_links cs page other p apart) in
    omega (arith, both, sum)

-- what stands at a first page
pub record IsAt (pages : Pages) (cs : List Chain) (page : ℕ) (bytes : List ℕ) : Type 0 where
  pub first : Link
  pub rest : List Link
  pub are : links_at cs page ≡ first ∷ rest
  pub here : first.page ≡ page
  pub linked : AreLinked pages (first ∷ rest)
  pub content : content_of (first ∷ rest) ≡ bytes

same_some : {x y : List ℕ} → ◌≡◌ {A = Option (List ℕ)} (Some x) (Some y) → x ≡ y
same_some e = cc

at_by : (pages : Pages) (c : Chain) (cs : List Chain) (page : ℕ) (bytes : List ℕ) (b : Bool) → (page == (c.first).page) ≡ b → AreLinked pages (links_of c) → (list_at cs page ≡ Some bytes → IsAt pages cs page bytes)
    → (if b then Some (content_of (links_of c)) else list_at cs page) ≡ Some bytes → IsAt pages (c ∷ cs) page bytes
at_by pages c cs page bytes true test linked rest e =
    record {
      first = c.first;
      rest = c.rest;
      are = ap (λ (b : Bool). if b then links_of c else links_at cs page) test;
      here = sym (eqb-true page (c.first).page test);
      linked = linked;
      content = same_some e;
    }
at_by pages c cs page bytes false test linked rest e =
    let h = rest e in
    record {
      first = h.first;
      rest = h.rest;
      are = ap (λ (b : Bool). if b then links_of c else links_at cs page) test ∙ h.are;
      here = h.here;
      linked = h.linked;
      content = h.content;
    }

pub list_is_at : (pages : Pages) (cs : List Chain) (page : ℕ) (bytes : List ℕ) → AreChains pages cs → list_at cs page ≡ Some bytes → IsAt pages cs page bytes
list_is_at pages [] page bytes all e = absurd (cc)
list_is_at pages (c ∷ cs) page bytes all e = at_by pages c cs page bytes (page == (c.first).page) refl all.0 (λ h. list_is_at pages cs page bytes all.1 h) e

-- a page of the chains is one of a chain that is found by its first page
pub record IsOn (cs : List Chain) (p : ℕ) : Type 0 where
  pub first : ℕ
  pub some : IsSome (list_at cs first)
  pub among : 1 ≤ times p (pages_of_links (links_at cs first))
  pub there : 1 ≤ times first (pages_of_chains cs)

pub page_on : (cs : List Chain) (p : ℕ) → AreUsedOnce (pages_of_chains cs) → 1 ≤ times p (pages_of_chains cs) → IsOn cs p
page_on [] p once some = absurd (omega (arith, some))
page_on (c ∷ cs) p once some =
    let f = (c.first).page in
    let split : (x : ℕ) → times x (pages_of_chains (c ∷ cs)) ≡ times x (pages_of_links (links_of c)) + times x (pages_of_chains cs) = λ x. times-append x (pages_of_links (links_of c)) (pages_of_chains cs) in
    let here : 1 ≤ times f (pages_of_links (links_of c)) = among_here f f (pages_of_links c.rest) refl in
    let same : (f == f) ≡ true = eq-eqb f f refl in
    elim (cases_lt 0 (times p (pages_of_links (links_of c)))) [
      | inl first ↦ record {
        first = f;
        some = subst (λ (b : Bool). IsSome (if b then Some (content_of (links_of c)) else list_at cs f)) (sym same) refl;
        among = subst (λ (b : Bool). 1 ≤ times p (pages_of_links (if b then links_of c else links_at cs f))) (sym same) first;
        there = let e = split f in omega (arith, e, here);
      }
      | inr none ↦
          let e = split p in
          let rest = page_on cs p (λ x. (let a = split x in let b = once x in omega (arith, a, b))) (omega (arith, e, none, some)) in
          let g = rest.first in
          let other : (g == f) ≡ false = not_first g f (λ s. (let a = split g in let b = once g in let d : 1 ≤ times g (pages_of_links (links_of c)) = subst (λ (x : ℕ). 1 ≤ times x (pages_of_links (links_of c))) (sym s) here in let t = rest.there in omega (arith, a, b, d, t))) in
          record {
            first = g;
            some = subst (λ (b : Bool). IsSome (if b then Some (content_of (links_of c)) else list_at cs g)) (sym other) rest.some;
            among = subst (λ (b : Bool). 1 ≤ times p (pages_of_links (if b then links_of c else links_at cs g))) (sym other) rest.among;
            there = let a = split g in let t = rest.there in omega (arith, a, t);
          }
    ]
  where
    not_first : (g f : ℕ) → (g ≡ f → ⊥) → (g == f) ≡ false
    not_first g f apart = elim (cases_Bool (g == f)) [ inl is ↦ absurd (apart (eqb-true g f is)) | inr is ↦ is ]
