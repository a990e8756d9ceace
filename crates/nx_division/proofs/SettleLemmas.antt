-- One node more in a plan that is drawn node by node.
use Rattle.std.proofs.Common.{◌≡◌, ◌≢◌, ℕ, ◌+◌, ◌-◌, ◌<◌, ◌≤◌, Bool, true, false, ◌&&◌, IsTrue, List, [], ◌∷◌, ◌++◌, length, Option, None, Some, refl, sym, ap, subst, ◌∙◌, arith}
use Rattle.nx_matrix.specs.declared.rule.Entry.{Entry}
use Rattle.nx_matrix.specs.declared.rule.Entry.TheVariants.{Standalone, Cluster, Free}
use Rattle.nx_sketch.specs.declared.spot.Spot.{Spot}
use Rattle.nx_sketch.specs.Sketch.{Sketch, Empty, Plant, spot_count, spots_of}
use Rattle.nx_sketch.specs.Plan.{is_cluster}
use Rattle.nx_division.specs.declared.cut.Cut.{Cut}
use Rattle.nx_division.specs.declared.cut.Cut.TheVariants.{Stays, Begins, GoesOn}
use Rattle.nx_division.specs.declared.settle.Row.{Row}
use Rattle.nx_division.specs.Parts.{IsParted}
use Rattle.nx_division.specs.Drawn.{Drawn, Bare, Grown, drawn, staying_weight, goes, IsSoundDrawing, AreNeighboursHeavy, stands_beside, moved, opened}
use Rattle.nx_division.specs.Settled.{core, AreTopsLight, last_of, row_of, IsStood, whole_row, IsRowLight, StaysLight, IsFinalDrawing}
use Rattle.nx_division.proofs.NumberLemmas.{none_some, some_same}
use Rattle.nx_division.proofs.WeightLemmas.{goes_none}
use Rattle.nx_division.proofs.SpotLemmas.{drawn-parts, length-spots}
use Rattle.nx_division.proofs.CoreLemmas.{no_spots, if_true, if_false}

stop_light : (k : ℕ) (row : Option Row) (d : Drawn) → IsRowLight k row → goes d ≡ 0 → StaysLight k row d
stop_light k None d h e = tt
stop_light k (Some row) d h e = omega arith

not_alone : (keep : Bool) (e : Entry) → keep && is_cluster e ≡ true → e ≢ Standalone
not_alone true Standalone t = absurd (cc)
not_alone true Cluster t = λ e. cc
not_alone true Free t = λ e. cc
not_alone false e t = absurd (cc)

not_kept : (keep : Bool) (e : Entry) → keep && is_cluster e ≡ false → IsTrue keep → e ≡ Cluster → ⊥
not_kept true Standalone t k e = cc
not_kept true Cluster t k e = cc
not_kept true Free t k e = cc
not_kept false e t k same = no k
  where
    no : IsTrue false → ⊥
    no h = cc

last_row : (e : Entry) (p load : ℕ) → last_of (row_of e p load) ≡ opened e p
last_row Standalone p load = refl
last_row Cluster p load = refl
last_row Free p load = refl

whole_stand : (e : Entry) (p load weight : ℕ) (s : Drawn) → load + goes s ≡ weight → whole_row (row_of e p load) s ≡ stands_beside e p weight
whole_stand Standalone p load weight s h = refl
whole_stand Cluster p load weight s h = ap (λ n. Some (p, n)) h
whole_stand Free p load weight s h = ap (λ n. Some (p, n)) h

begun_light : (k : ℕ) (e : Entry) (p load : ℕ) (s : Drawn) → load ≤ k → IsSoundDrawing (last_of (row_of e p load)) s → StaysLight k (row_of e p load) s → load + goes s ≤ k
begun_light k Standalone p load s le sound light = omega (arith, goes_none s sound)
begun_light k Cluster p load s le sound light = light
begun_light k Free p load s le sound light = light

full_begun : (k : ℕ) (row : Option Row) (p w : ℕ) (e : Entry) (b s : Drawn) (load weight : ℕ) → load ≤ weight
    → ((before : Row) → row ≡ Some before → p ≡ before.last + 1 → e ≢ Standalone → k < before.weight + load)
    → (last before : ℕ) → whole_row row (Grown p w e Begins b s) ≡ Some (last, before) → p ≡ last + 1 → e ≢ Standalone → k < before + weight
full_begun k None p w e b s load weight le f last before is next other = absurd (none_some is)
full_begun k (Some row) p w e b s load weight le f last before is next other =
    let pair : (row.last, row.weight + 0) ≡ (last, before) = some_same is in
    let l : row.last ≡ last = ap (λ (x : ℕ × ℕ). x.0) pair in
    let r : row.weight + 0 ≡ before = ap (λ (x : ℕ × ℕ). x.1) pair in
    let g = f row refl (omega arith) other in omega arith

module _ (k : ℕ) (keep : Bool) (row : Option Row) (room : ℕ) (p w : ℕ) (e : Entry) (b s : Sketch) (bd sd : Drawn) (light : IsRowLight k row) where
  kept_step : (r1 r2 : ℕ) → keep && is_cluster e ≡ true → IsFinalDrawing k keep None room b bd r1 → IsFinalDrawing k keep None r1 s sd r2 → IsFinalDrawing k keep row room (Plant p w e b s) (Grown p w e Stays bd sd) r2
  kept_step r1 r2 stays hb hs = record {
    sound = (not_alone keep e stays, hb.sound, hs.sound);
    kept = λ t. ((λ is. refl), hb.kept t, hs.kept t);
    light = omega (arith, hb.light, hs.light);
    stays_light = stop_light k row (Grown p w e Stays bd sd) light refl;
    full = (hb.full, hs.full);
    stayed = omega (arith, hb.stayed, hs.stayed, if_true (keep && is_cluster e) (w + core keep b) 0 stays);
  }

  stood_step : (cut : Cut) (own r1 load rest r2 : ℕ) (next : Option Row) → keep && is_cluster e ≡ false → load ≡ w + staying_weight bd → load ≤ k → IsFinalDrawing k keep None own b bd r1 → IsStood k room row e p load cut rest next → IsFinalDrawing k keep next rest s sd r2
      → IsFinalDrawing k keep row room (Plant p w e b s) (Grown p w e cut bd sd) r2
  stood_step Stays own r1 load rest r2 next goes_own is le hb st hn =
      let hs : IsFinalDrawing k keep None rest s sd r2 = subst (λ n. IsFinalDrawing k keep n rest s sd r2) st.2 hn in
      let room_is = st.1 in
      record {
        sound = (st.0, hb.sound, hs.sound);
        kept = λ t. ((λ same. absurd (not_kept keep e goes_own t same)), hb.kept t, hs.kept t);
        light = omega (arith, hb.light, hs.light);
        stays_light = stop_light k row (Grown p w e Stays bd sd) light refl;
        full = (hb.full, hs.full);
        stayed = omega (arith, hs.stayed, if_false (keep && is_cluster e) (w + core keep b) 0 goes_own);
      }
  stood_step Begins own r1 load rest r2 next goes_own is le hb st hn =
      let hs : IsFinalDrawing k keep (row_of e p load) rest s sd r2 = subst (λ n. IsFinalDrawing k keep n rest s sd r2) st.1 hn in
      let room_is = st.0 in
      let weight : load + goes sd ≡ w + staying_weight bd + goes sd = omega arith in
      let whole = begun_light k e p load sd le hs.sound hs.stays_light in
      record {
        sound = (hb.sound, subst (λ o. IsSoundDrawing o sd) (last_row e p load) hs.sound);
        kept = λ t. ((λ same. absurd (not_kept keep e goes_own t same)), hb.kept t, hs.kept t);
        light = omega (arith, hb.light, hs.light, whole, weight);
        stays_light = stop_light k row (Grown p w e Begins bd sd) light refl;
        full = (full_begun k row p w e bd sd load (w + staying_weight bd + goes sd) (omega arith) st.2, hb.full, subst (λ o. AreNeighboursHeavy k o sd) (whole_stand e p load (w + staying_weight bd + goes sd) sd weight) hs.full);
        stayed = omega (arith, hs.stayed, if_false (keep && is_cluster e) (w + core keep b) 0 goes_own);
      }
  stood_step GoesOn own r1 load rest r2 next goes_own is le hb st hn =
      let before = st.2 in
      let hs : IsFinalDrawing k keep (Some (record { last = p; weight = before.weight + load })) rest s sd r2 = subst (λ n. IsFinalDrawing k keep n rest s sd r2) st.6 hn in
      let room_is = st.0 in
      let weight : before.weight + load + goes sd ≡ before.weight + (w + staying_weight bd + goes sd) = omega arith in
      record {
        sound = (before.last, ap last_of st.3, st.4, st.1, hb.sound, hs.sound);
        kept = λ t. ((λ same. absurd (not_kept keep e goes_own t same)), hb.kept t, hs.kept t);
        light = omega (arith, hb.light, hs.light);
        stays_light = subst (λ o. StaysLight k o (Grown p w e GoesOn bd sd)) (sym st.3) (let l = hs.stays_light in omega arith);
        full = (hb.full, subst (λ o. AreNeighboursHeavy k (moved (whole_row o (Grown p w e GoesOn bd sd)) p) sd) (sym st.3) (subst (λ n. AreNeighboursHeavy k (Some (p, n)) sd) weight hs.full));
        stayed = omega (arith, hs.stayed, if_false (keep && is_cluster e) (w + core keep b) 0 goes_own);
      }

-- what a call made of a list and its cuts
abbrev pub Settles : ℕ → Bool → Option Row → ℕ → List Spot → List Cut → ℕ → Type 0
Settles k keep row room spots cuts rest = (s : Sketch) → spots ≡ spots_of s → AreTopsLight k keep s → IsFinalDrawing k keep row room s (drawn s cuts) rest

pub settle_none : (k : ℕ) (keep : Bool) (row : Option Row) (room : ℕ) (spots : List Spot) (cuts : List Cut) → IsRowLight k row → spots ≡ [] → Settles k keep row room spots cuts room
settle_none k keep row room spots cuts light none Empty is tops = record {
  sound = tt;
  kept = λ t. tt;
  light = omega arith;
  stays_light = stop_light k row Bare light refl;
  full = tt;
  stayed = omega arith;
}
settle_none k keep row room spots cuts light none (Plant p w e b s) is tops = absurd (no_spots spots p w e b s none is)

module _ (k : ℕ) (keep : Bool) (row : Option Row) (room : ℕ) (spot : Spot) (below beside : List Spot) (xs ys cuts : List Cut) (light : IsRowLight k row) (len : length xs ≡ length below) where
  len_nodes : (b : Sketch) → below ≡ spots_of b → length xs ≡ spot_count b
  len_nodes b is = len ∙ ap length is ∙ length-spots b

  pub settle_kept : (r1 r2 : ℕ) → keep && is_cluster spot.entry ≡ true → cuts ≡ Stays ∷ xs ++ ys → Settles k keep None room below xs r1 → Settles k keep None r1 beside ys r2
      → (s : Sketch) → IsParted spot below beside s → AreTopsLight k keep s → IsFinalDrawing k keep row room s (drawn s cuts) r2
  settle_kept r1 r2 stays is hb hs Empty h tops = absurd h
  settle_kept r1 r2 stays is hb hs (Plant p w e b s) h tops =
      let t : keep && is_cluster e ≡ true = ap (λ i. keep && is_cluster i) (sym h.entry) ∙ stays in
      let d : drawn (Plant p w e b s) cuts ≡ Grown p w e Stays (drawn b xs) (drawn s ys) = ap (drawn (Plant p w e b s)) is ∙ drawn-parts p w e b s Stays xs ys (len_nodes b h.below_is) in
      subst (λ x. IsFinalDrawing k keep row room (Plant p w e b s) x r2) (sym d)
      (kept_step k keep row room p w e b s (drawn b xs) (drawn s ys) light r1 r2 t (hb b h.below_is tops.1) (hs s h.beside_is tops.2))

  pub settle_stood : (cut : Cut) (own x r1 load rest r2 : ℕ) (next : Option Row) → keep && is_cluster spot.entry ≡ false → cuts ≡ cut ∷ xs ++ ys → ((b : Sketch) → below ≡ spots_of b → x ≡ core keep b) → spot.weight + x ≤ k → own ≡ k - (spot.weight + x) → load ≡ k - r1
      → Settles k keep None own below xs r1 → IsStood k room row spot.entry spot.position load cut rest next → Settles k keep next rest beside ys r2
      → (s : Sketch) → IsParted spot below beside s → AreTopsLight k keep s → IsFinalDrawing k keep row room s (drawn s cuts) r2
  settle_stood cut own x r1 load rest r2 next goes_own is in_core light_own own_is load_is hb st hs Empty h tops = absurd h
  settle_stood cut own x r1 load rest r2 next goes_own is in_core light_own own_is load_is hb st hs (Plant p w e b s) h tops =
      let t : keep && is_cluster e ≡ false = ap (λ i. keep && is_cluster i) (sym h.entry) ∙ goes_own in
      let d : drawn (Plant p w e b s) cuts ≡ Grown p w e cut (drawn b xs) (drawn s ys) = ap (drawn (Plant p w e b s)) is ∙ drawn-parts p w e b s cut xs ys (len_nodes b h.below_is) in
      let below_settled = hb b h.below_is tops.1 in
      let c = in_core b h.below_is in
      let load_left : load ≡ w + staying_weight (drawn b xs) = omega (arith, below_settled.stayed, h.weight) in
      let stood : IsStood k room row e p load cut rest next = subst (λ i. IsStood k room row i p load cut rest next) h.entry (subst (λ q. IsStood k room row spot.entry q load cut rest next) h.position st) in
      subst (λ z. IsFinalDrawing k keep row room (Plant p w e b s) z r2) (sym d)
      (stood_step k keep row room p w e b s (drawn b xs) (drawn s ys) light cut own r1 load rest r2 next t load_left (omega arith) below_settled stood (hs s h.beside_is tops.2))

-- the row that is open after a node isn't too heavy
pub stood_light : (k room : ℕ) (row : Option Row) (e : Entry) (p load : ℕ) (cut : Cut) (rest : ℕ) (next : Option Row) → load ≤ k → IsStood k room row e p load cut rest next → IsRowLight k next
stood_light k room row e p load Stays rest next le h = subst (IsRowLight k) (sym h.2) tt
stood_light k room row e p load Begins rest next le h = subst (IsRowLight k) (sym h.1) (by e)
  where
    by : (e : Entry) → IsRowLight k (row_of e p load)
    by Standalone = tt
    by Cluster = le
    by Free = le
stood_light k room row e p load GoesOn rest next le h = subst (IsRowLight k) (sym h.6) h.5

-- what is left of the room of a node is at most k
pub left_small : (k : ℕ) (keep : Bool) (spot : Spot) (below beside : List Spot) (xs : List Cut) (x r1 : ℕ) → ((b : Sketch) → below ≡ spots_of b → x ≡ core keep b) → spot.weight + x ≤ k → Settles k keep None (k - (spot.weight + x)) below xs r1 → (s : Sketch) → IsParted spot below beside s → AreTopsLight k keep s → r1 ≤ k
left_small k keep spot below beside xs x r1 in_core light hb Empty h tops = absurd h
left_small k keep spot below beside xs x r1 in_core light hb (Plant p w e b s) h tops =
    let settled = hb b h.below_is tops.1 in
    let c = in_core b h.below_is in
    omega (arith, settled.stayed)
