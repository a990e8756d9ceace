-- The byte lists that are held are those of the records that were reached.
use Rattle.std.proofs.Common.{◌≡◌, ◌⊎◌, ℕ, ◌≤◌, List, [], ◌∷◌, ◌++◌, refl, sym, ap, ◌∙◌, subst, arith, inl, inr}
use Rattle.std.specs.Prelude.{Some, Contains}
use Rattle.std.proofs.lemmas.List.Elements.{Contains-append_cases}
use Rattle.nx_replay.specs.Log.{Pages}
use Rattle.nx_holdings.specs.Holdings.{times, Link, Chain, content_of, pages_of_links, list_at}
use Rattle.nx_holdings.proofs.DenseLemmas.{among_here}
use Rattle.nx_links.specs.Beside.{chains_with}
use Rattle.nx_piece.specs.declared.piece.Far.{Far}
use Rattle.nx_cuts.specs.Cut.{Bare, Grown, Kept}
use Rattle.nx_layouts.specs.Layout.{RecordPlace}
use Rattle.nx_layouts.proofs.PlaceLemmas.{no_place, one_place, first_among, later_among}
use Rattle.nx_rules.specs.Listed.{IsListOf}
use Rattle.nx_rules.specs.Walked.{Reached, Waits, Walked, links_behind, links_in, StandOn}
use Rattle.nx_rules.specs.Tour.{Visit, all_links}
use Rattle.nx_rules.proofs.SoundLemmas.{chains_before, chains_in, visit_chains, walked_pages, Begins, list_append, list_front, list_either, list_with, list_past, list_here}
use Rattle.nx_rules.proofs.LaidLemmas.{Has, HasIn, often, often_in, two_more, has_often, in_often}

one_here : (l : Link) (ls : List Link) → 1 ≤ often l.page (l ∷ ls)
one_here l ls = among_here l.page l.page (pages_of_links ls) refl

-- One list among those of a record.

-- these are the chain pages of one of the lists
abbrev pub IsOneOf : List Link → List (List Link) → Type 0
IsOneOf links [] = ⊥
IsOneOf links (c ∷ chains) = (links ≡ c) ⊎ IsOneOf links chains

pub one_often : (x : ℕ) (links : List Link) (chains : List (List Link)) → IsOneOf links chains → often x links ≤ often_in x chains
one_often x links [] h = absurd h
one_often x links (c ∷ chains) (inl h) =
    let e = two_more x c (links_behind chains) in let same : often x links ≡ often x c = ap (often x) h in omega (arith, e, same)
one_often x links (c ∷ chains) (inr h) =
    let e = two_more x c (links_behind chains) in let rest = one_often x links chains h in omega (arith, e, rest)

-- a list that a record names is one of those that it has
pub named_list : (pages : Pages) (lists : List Far) (chains : List (List Link)) (far : Far) → StandOn pages lists chains → Contains lists far → (links : List Link) × IsOneOf links chains × IsListOf pages [] far.first far.length links
named_list pages [] chains far h among = absurd (no_place far among)
named_list pages (f ∷ lists) [] far h among = absurd h
named_list pages (f ∷ lists) (c ∷ chains) far h among =
    elim (Contains-append_cases (f ∷ []) lists far among) [
      | inl here ↦ (c, inl refl, subst (λ (g : Far). IsListOf pages [] g.first g.length c) (sym (one_place f far here)) h.0)
      | inr there ↦ (let r = named_list pages lists chains far h.1 there in (r.0, inr r.1, r.2))
    ]

-- ... and the other way round
pub list_named : (pages : Pages) (lists : List Far) (chains : List (List Link)) (links : List Link) → StandOn pages lists chains → IsOneOf links chains → (far : Far) × Contains lists far × IsListOf pages [] far.first far.length links
list_named pages [] [] links h one = absurd one
list_named pages [] (c ∷ chains) links h one = absurd h
list_named pages (f ∷ lists) [] links h one = absurd h
list_named pages (f ∷ lists) (c ∷ chains) links h (inl same) = (f, first_among f lists, subst (λ (l : List Link). IsListOf pages [] f.first f.length l) (sym same) h.0)
list_named pages (f ∷ lists) (c ∷ chains) links h (inr one) = let r = list_named pages lists chains links h.1 one in (r.0, later_among f lists r.0 r.1, r.2)

-- What chains hold, the lists of one record before others.

before_past : (chains : List (List Link)) (cs : List Chain) (page : ℕ) → often_in page chains ≡ 0 → list_at (chains_before chains cs) page ≡ list_at cs page
unfolding chains_before
before_past [] cs page none = refl
before_past (c ∷ chains) cs page none =
    let e = two_more page c (links_behind chains) in
    list_past c (chains_before chains cs) page (omega (arith, e, none)) ∙ before_past chains cs page (omega (arith, e, none))

before_here : (l : Link) (ls : List Link) (chains : List (List Link)) (cs : List Chain) → IsOneOf (l ∷ ls) chains → often_in l.page chains ≤ 1 → list_at (chains_before chains cs) l.page ≡ Some (content_of (l ∷ ls))
unfolding chains_before
before_here l ls [] cs one once = absurd one
before_here l ls (c ∷ chains) cs (inl same) once =
    subst (λ (x : List Link). list_at (chains_with x (chains_before chains cs)) l.page ≡ Some (content_of (l ∷ ls))) same (list_here l ls (chains_before chains cs))
before_here l ls (c ∷ chains) cs (inr one) once =
    let e = two_more l.page c (links_behind chains) in
    let here = one_here l ls in
    let there = one_often l.page (l ∷ ls) chains one in
    list_past c (chains_before chains cs) l.page (omega (arith, e, once, here, there)) ∙ before_here l ls chains cs one (omega (arith, e, once))

before_has : (chains : List (List Link)) (cs : List Chain) (page : ℕ) (bytes : List ℕ) → list_at (chains_before chains cs) page ≡ Some bytes → ((links : List Link) × IsOneOf links chains × Begins links page) ⊎ (list_at cs page ≡ Some bytes)
unfolding chains_before
before_has [] cs page bytes e = inr e
before_has (c ∷ chains) cs page bytes e =
    elim (list_with c (chains_before chains cs) page bytes e) [
      | inl begins ↦ inl (c, inl refl, begins)
      | inr rest ↦ elim (before_has chains cs page bytes rest) [
        | inl h ↦ inl (h.0, inr h.1, h.2)
        | inr h ↦ inr h
      ]
    ]

-- a list of a record that was reached is held
pub has_list : (p : RecordPlace) (l : Link) (ls : List Link) (chains : List (List Link)) (m w : Walked) → IsOneOf (l ∷ ls) chains → often l.page (links_in w) ≤ 1 → Has p chains m w → list_at (chains_in w) l.page ≡ Some (content_of (l ∷ ls))
unfolding chains_in
has_list p l ls chains m Bare one once h = absurd h
has_list p l ls chains m (Grown n b s) one once (inl h) =
    let e = two_more l.page (links_in b) (links_in s) in
    list_front (chains_in b) (chains_in s) l.page (content_of (l ∷ ls)) (has_list p l ls chains m b one (omega (arith, e, once)) h)
has_list p l ls chains m (Grown n b s) one once (inr h) =
    let e = two_more l.page (links_in b) (links_in s) in
    let here = one_here l ls in
    let mine = one_often l.page (l ∷ ls) chains one in
    let there = has_often l.page p chains m s h in
    let none : often l.page (links_in b) ≡ 0 = omega (arith, e, once, here, mine, there) in
    list_append (chains_in b) (chains_in s) l.page (ap (times l.page) (walked_pages b) ∙ none) ∙ has_list p l ls chains m s one (omega (arith, e, once)) h
has_list p l ls chains m (Kept (Reached q ks) b s) one once (inl h) =
    let e = two_more l.page (links_behind ks ++ links_in b) (links_in s) in
    let f = two_more l.page (links_behind ks) (links_in b) in
    before_here l ls ks (chains_in b ++ chains_in s) (subst (λ (x : List (List Link)). IsOneOf (l ∷ ls) x) h.1 one) (omega (arith, e, f, once))
has_list p l ls chains m (Kept (Reached q ks) b s) one once (inr (inl h)) =
    let e = two_more l.page (links_behind ks ++ links_in b) (links_in s) in
    let f = two_more l.page (links_behind ks) (links_in b) in
    let here = one_here l ls in
    let mine = one_often l.page (l ∷ ls) chains one in
    let there = has_often l.page p chains m b h in
    let none : often_in l.page ks ≡ 0 = omega (arith, e, f, once, here, mine, there) in
    before_past ks (chains_in b ++ chains_in s) l.page none ∙ list_front (chains_in b) (chains_in s) l.page (content_of (l ∷ ls)) (has_list p l ls chains m b one (omega (arith, e, f, once)) h)
has_list p l ls chains m (Kept (Reached q ks) b s) one once (inr (inr h)) =
    let e = two_more l.page (links_behind ks ++ links_in b) (links_in s) in
    let f = two_more l.page (links_behind ks) (links_in b) in
    let here = one_here l ls in
    let mine = one_often l.page (l ∷ ls) chains one in
    let there = has_often l.page p chains m s h in
    let none : often_in l.page ks ≡ 0 = omega (arith, e, f, once, here, mine, there) in
    let none_too : often l.page (links_in b) ≡ 0 = omega (arith, e, f, once, here, mine, there) in
    before_past ks (chains_in b ++ chains_in s) l.page none ∙ list_append (chains_in b) (chains_in s) l.page (ap (times l.page) (walked_pages b) ∙ none_too)
    ∙ has_list p l ls chains m s one (omega (arith, e, f, once)) h
has_list p l ls chains m (Kept (Waits y) b s) one once (inl h) =
    let e = two_more l.page (links_in b) (links_in s) in
    list_front (chains_in b) (chains_in s) l.page (content_of (l ∷ ls)) (has_list p l ls chains m b one (omega (arith, e, once)) h)
has_list p l ls chains m (Kept (Waits y) b s) one once (inr h) =
    let e = two_more l.page (links_in b) (links_in s) in
    let here = one_here l ls in
    let mine = one_often l.page (l ∷ ls) chains one in
    let there = has_often l.page p chains m s h in
    let none : often l.page (links_in b) ≡ 0 = omega (arith, e, once, here, mine, there) in
    list_append (chains_in b) (chains_in s) l.page (ap (times l.page) (walked_pages b) ∙ none) ∙ has_list p l ls chains m s one (omega (arith, e, once)) h

pub in_list : (p : RecordPlace) (l : Link) (ls : List Link) (chains : List (List Link)) (m : Walked) (vs : List Visit) → IsOneOf (l ∷ ls) chains → often l.page (all_links vs) ≤ 1 → HasIn p chains m vs
    → list_at (visit_chains vs) l.page ≡ Some (content_of (l ∷ ls))
unfolding visit_chains
in_list p l ls chains m [] one once h = absurd h
in_list p l ls chains m (v ∷ vs) one once (inl h) =
    let e = two_more l.page (links_in v.walked) (all_links vs) in
    list_front (chains_in v.walked) (visit_chains vs) l.page (content_of (l ∷ ls)) (has_list p l ls chains m v.walked one (omega (arith, e, once)) h)
in_list p l ls chains m (v ∷ vs) one once (inr h) =
    let e = two_more l.page (links_in v.walked) (all_links vs) in
    let here = one_here l ls in
    let mine = one_often l.page (l ∷ ls) chains one in
    let there = in_often l.page p chains m vs h in
    let none : often l.page (links_in v.walked) ≡ 0 = omega (arith, e, once, here, mine, there) in
    list_append (chains_in v.walked) (visit_chains vs) l.page (ap (times l.page) (walked_pages v.walked) ∙ none) ∙ in_list p l ls chains m vs one (omega (arith, e, once)) h

-- a list that is held is one of a record that was reached
pub record IsOf (page : ℕ) (Where : RecordPlace → List (List Link) → Walked → Type 0) : Type 0 where
  pub place : RecordPlace
  pub chains : List (List Link)
  pub members : Walked
  pub has : Where place chains members
  pub links : List Link
  pub one : IsOneOf links chains
  pub begins : Begins links page

moved : {page : ℕ} {One Other : RecordPlace → List (List Link) → Walked → Type 0} → ((p : RecordPlace) (cs : List (List Link)) (m : Walked) → One p cs m → Other p cs m) → IsOf page One → IsOf page Other
moved along h = record { place = h.place; chains = h.chains; members = h.members; has = along h.place h.chains h.members h.has; links = h.links; one = h.one; begins = h.begins }

pub list_has : (w : Walked) (page : ℕ) (bytes : List ℕ) → list_at (chains_in w) page ≡ Some bytes → IsOf page (λ p cs m. Has p cs m w)
unfolding chains_in
list_has Bare page bytes e = absurd (cc)
list_has (Grown n b s) page bytes e =
    elim (list_either (chains_in b) (chains_in s) page bytes e) [
      | inl h ↦ moved (λ p cs m x. inl x) (list_has b page bytes h)
      | inr h ↦ moved (λ p cs m x. inr x) (list_has s page bytes h)
    ]
list_has (Kept (Reached q ks) b s) page bytes e =
    elim (before_has ks (chains_in b ++ chains_in s) page bytes e) [
      | inl h ↦ record { place = q; chains = ks; members = b; has = inl (refl, refl, refl); links = h.0; one = h.1; begins = h.2 }
      | inr rest ↦ elim (list_either (chains_in b) (chains_in s) page bytes rest) [
        | inl h ↦ moved (λ p cs m x. inr (inl x)) (list_has b page bytes h)
        | inr h ↦ moved (λ p cs m x. inr (inr x)) (list_has s page bytes h)
      ]
    ]
list_has (Kept (Waits y) b s) page bytes e =
    elim (list_either (chains_in b) (chains_in s) page bytes e) [
      | inl h ↦ moved (λ p cs m x. inl x) (list_has b page bytes h)
      | inr h ↦ moved (λ p cs m x. inr x) (list_has s page bytes h)
    ]

pub list_in : (vs : List Visit) (page : ℕ) (bytes : List ℕ) → list_at (visit_chains vs) page ≡ Some bytes → IsOf page (λ p cs m. HasIn p cs m vs)
unfolding visit_chains
list_in [] page bytes e = absurd (cc)
list_in (v ∷ vs) page bytes e =
    elim (list_either (chains_in v.walked) (visit_chains vs) page bytes e) [
      | inl h ↦ moved (λ p cs m x. inl x) (list_has v.walked page bytes h)
      | inr h ↦ moved (λ p cs m x. inr x) (list_in vs page bytes h)
    ]
