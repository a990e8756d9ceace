-- A run of proxies that stand, moved.
use Rattle.std.proofs.Common.{◌≡◌, ℕ, zero, suc, ◌+◌, ◌≤◌, List, [], ◌∷◌, ◌++◌, length, take, drop, Option, refl, sym, ap, ◌∙◌, subst, arith, append_assoc, append-nil, false}
use Rattle.std.specs.List.{sum_by}
use Rattle.std.proofs.lemmas.List.Sums.{sum_by-cons}
use Rattle.nx_host.specs.declared.disk.Disk.{Ghosts}
use Rattle.nx_records.specs.declared.records.Records.{Records}
use Rattle.nx_records.specs.Records.{has_ended}
use Rattle.nx_piece.specs.declared.piece.Proxy.{Proxy}
use Rattle.nx_piece.specs.Gapped.{Gapped, Gap, proxies_in}
use Rattle.nx_piece.specs.Valid.{AreApart}
use Rattle.nx_cuts.specs.Cut.{width}
use Rattle.nx_layouts.proofs.ValidLemmas.{body_apart}
use Rattle.nx_drafts.specs.Draft.{Draft, layout_before, draft_count}
use Rattle.nx_divide.specs.Marked.{IsMarkedDraft, many}
use Rattle.nx_build.specs.Rows.{with_proxy}
use Rattle.nx_divide.specs.Rows.{with_proxies}
use Rattle.nx_divide.proofs.MarkedLemmas.{BeginsStanding, begins_standing, gap_before}
use Rattle.nx_divide.proofs.WalkLemmas.{WalksOn, walk_standing, room_left}

abbrev pub roots_in : List Proxy → ℕ
roots_in ps = sum_by (λ proxy. proxy.roots) ps

-- a gap stands for one proxy at least
pub gap_some : (own : Option ℕ) (h : List ℕ → Option ℕ) (position count : ℕ) (others : Gapped) (olds : List Proxy) (c : Draft (Unit {0})) → IsMarkedDraft own h position (Gap count others) olds c → gap_before count others ≡ Gap count others
gap_some own h position count others olds c m = some count (subst AreApart m.items_are (body_apart (layout_before c))).0
  where
    some : (n : ℕ) → 1 ≤ n → gap_before n others ≡ Gap n others
    some zero le = absurd (omega (arith, le))
    some (suc n) le = refl

-- there are so many intervals
pub gap_count : (own : Option ℕ) (h : List ℕ → Option ℕ) (position count : ℕ) (others : Gapped) (olds : List Proxy) (c : Draft (Unit {0})) → IsMarkedDraft own h position (gap_before count others) olds c → count ≤ draft_count c
gap_count own h position zero others olds c m = omega arith
gap_count own h position (suc count) others olds c m =
    let f = begins_standing own h position count others olds c m in
    let rest = gap_count own h (position + width f.members) count others f.left f.beside f.along in
    let e : draft_count c ≡ 1 + draft_count f.beside = ap draft_count f.is in
    omega (arith, rest, e)

-- and so many proxies
pub gap_length : (own : Option ℕ) (h : List ℕ → Option ℕ) (position count : ℕ) (others : Gapped) (olds : List Proxy) (c : Draft (Unit {0})) → IsMarkedDraft own h position (gap_before count others) olds c → count ≤ length olds
gap_length own h position zero others olds c m = omega arith
gap_length own h position (suc count) others olds c m =
    let f = begins_standing own h position count others olds c m in
    let rest = gap_length own h (position + width f.members) count others f.left f.beside f.along in
    let e : length olds ≡ suc (length f.left) = ap length f.olds_are in
    omega (arith, rest, e)

module _ {D : Type 0} {d : Ghosts D} where
  pub run_walked : (count : ℕ) {own : Option ℕ} {h : List ℕ → Option ℕ} (position : ℕ) (others : Gapped) (olds : List Proxy) (drawn : Draft (Unit {0})) {r0 r1 : Records} {x0 x1 : D} (body : Gapped) (had has : List Proxy)
      → WalksOn d own h position (gap_before count others) olds drawn r0 r1 x0 x1 body had has → has_ended r1 ≡ false
      → WalksOn d own h (position + roots_in (take count olds)) others (drop count olds) drawn r0 r1 x0 x1 (with_proxies count body) had (has ++ take count olds)
  run_walked zero {own} {h} position others olds drawn {r0} {r1} {x0} {x1} body had has w runs =
      subst (λ (i : ℕ). WalksOn d own h i others olds drawn r0 r1 x0 x1 body had (has ++ [])) (let e : position ≡ position + 0 = omega arith in e)
      (subst (λ (l : List Proxy). WalksOn d own h position others olds drawn r0 r1 x0 x1 body had l) (sym (append-nil has)) w)
  run_walked (suc count) {own} {h} position others olds drawn {r0} {r1} {x0} {x1} body had has w runs =
      let f : BeginsStanding own h position (gap_before count others) olds w.rest = begins_standing own h position count others olds w.rest w.left in
      let next = run_walked count {own = own} {h = h} (position + width f.members) others f.left drawn {r0 = r0} {r1 = r1} {x0 = x0} {x1 = x1} (with_proxy body) had (has ++ f.first ∷ []) (walk_standing w (gap_before count others) f runs) runs in
      let roots : (f.first).roots ≡ width f.members = ap (λ (p : Proxy). p.roots) f.first_is in
      let sum : position + width f.members + roots_in (take count f.left) ≡ position + roots_in (f.first ∷ take count f.left) =
      (let s = sum_by-cons (λ (p : Proxy). p.roots) f.first (take count f.left) in omega (arith, s, roots)) in
      subst (λ (l : List Proxy). WalksOn d own h (position + roots_in (take (suc count) l)) others (drop (suc count) l) drawn r0 r1 x0 x1 (with_proxies (suc count) body) had (has ++ take (suc count) l)) (sym f.olds_are)
      (subst (λ (i : ℕ). WalksOn d own h i others (drop count f.left) drawn r0 r1 x0 x1 (with_proxies count (with_proxy body)) had (has ++ f.first ∷ take count f.left)) sum
      (subst (λ (l : List Proxy). WalksOn d own h (position + width f.members + roots_in (take count f.left)) others (drop count f.left) drawn r0 r1 x0 x1 (with_proxies count (with_proxy body)) had l) (append_assoc has (f.first ∷ []) (take count f.left)) next))

  -- the next run, in the words of the call that moves it
  module _ {own : Option ℕ} {h : List ℕ → Option ℕ} (run position : ℕ) (left others : Gapped) (olds : List Proxy) (drawn : Draft (Unit {0})) {r0 r1 : Records} {x0 x1 : D} (body : Gapped) (had has : List Proxy)
      (w : WalksOn d own h position left olds drawn r0 r1 x0 x1 body had has) (next : left ≡ Gap run others) where
    next_marked : IsMarkedDraft own h position (gap_before run others) olds w.rest
    next_marked =
        let m : IsMarkedDraft own h position (Gap run others) olds w.rest = subst (λ (g : Gapped). IsMarkedDraft own h position g olds w.rest) next w.left in
        subst (λ (g : Gapped). IsMarkedDraft own h position g olds w.rest) (sym (gap_some own h position run others olds w.rest m)) m

    pub run_there : run ≤ length olds
    run_there = gap_length own h position run others olds w.rest next_marked

    pub run_room : (all : Gapped) (whole : List Proxy) (start : ℕ) (other : Option ℕ) (k : List ℕ → Option ℕ) → IsMarkedDraft other k start all whole drawn → many all ≤ 524288 → proxies_in body + run ≤ 524288
    run_room all whole start other k m few =
        let r = room_left w all whole 524288 m.light m.items_are few in
        let n = gap_count own h position run others olds w.rest next_marked in
        omega (arith, r, n)

    pub run_step : (roots : ℕ) (rest : List Proxy) (new : Gapped) (more : List Proxy) → roots ≡ roots_in (take run olds) → rest ≡ drop run olds → new ≡ with_proxies run body → more ≡ has ++ take run olds
        → WalksOn d own h (position + roots) others rest drawn r0 r1 x0 x1 new had more
    run_step roots rest new more roots_are rest_is new_is more_is =
        let m : IsMarkedDraft own h position (Gap run others) olds w.rest = subst (λ (g : Gapped). IsMarkedDraft own h position g olds w.rest) next w.left in
        let start : WalksOn d own h position (gap_before run others) olds drawn r0 r1 x0 x1 body had has =
        subst (λ (g : Gapped). WalksOn d own h position g olds drawn r0 r1 x0 x1 body had has) (next ∙ sym (gap_some own h position run others olds w.rest m)) w in
        subst (λ (n : ℕ). WalksOn d own h (position + n) others rest drawn r0 r1 x0 x1 new had more) (sym roots_are)
        (subst (λ (l : List Proxy). WalksOn d own h (position + roots_in (take run olds)) others l drawn r0 r1 x0 x1 new had more) (sym rest_is)
        (subst (λ (g : Gapped). WalksOn d own h (position + roots_in (take run olds)) others (drop run olds) drawn r0 r1 x0 x1 g had more) (sym new_is)
        (subst (λ (l : List Proxy). WalksOn d own h (position + roots_in (take run olds)) others (drop run olds) drawn r0 r1 x0 x1 (with_proxies run body) had l) (sym more_is)
        (run_walked run {own = own} {h = h} position others olds drawn {r0 = r0} {r1 = r1} {x0 = x0} {x1 = x1} body had has start ((w.put).runs).after))))
