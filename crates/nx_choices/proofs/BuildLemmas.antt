-- The profile of children, made from those of the children without the first ones.
use Rattle.std.proofs.Common.{◌≡◌, ℕ, suc, zero, ◌+◌, ◌-◌, ◌<◌, ◌≤◌, inl, inr, List, [], ◌∷◌, ◌++◌, length, take, drop, get_or, sym, ap, subst, ◌∙◌, arith}
use Rattle.std.proofs.lemmas.List.{drop-drop, length-drop, length-append, length-take-le, take_rest, take_all, take-append-le, drop-append-le, get_or_append_left}
use Rattle.std.proofs.Math.Seq.{drop-append_seam, get_or-append_seam}
use Rattle.std.proofs.lemmas.Bool.{cases_lt}
use Rattle.nx_choices.specs.declared.profiles.Profiles.{Profiles}
use Rattle.nx_choices.specs.declared.profiles.Row.{Row}
use Rattle.nx_choices.specs.declared.reach.Form.TheVariants.{Plain, Light}
use Rattle.nx_choices.specs.declared.child.Child.{Child}
use Rattle.nx_choices.specs.Choice.{AreWeighed}
use Rattle.nx_choices.specs.Profile.{last, lefts_of, weigh, AreProfiles, IsDraftOf, IsLowered, IsProfile, IsReach, IsRowOf, IsStarted, IsAchievable}
use Rattle.nx_choices.specs.Lightest.{AreLightest}
use Rattle.nx_choices.proofs.ChoiceLemmas.{plain_interval, wider}
use Rattle.nx_choices.proofs.ReachLemmas.{len_weigh}
use Rattle.nx_choices.proofs.LightestLemmas.{fewest_some, fewest_least}
use Rattle.nx_choices.proofs.ProfileLemmas.{drop_further, listed_end, listed_on, lowered_adds, draft_start, draft_lowered, draft_more, draft_done, profile_none}

pub weighed_take : (k : ℕ) (children : List Child) (number : ℕ) → AreWeighed k children → AreWeighed k (take number children)
weighed_take k children zero all = tt
weighed_take k [] (suc number) all = tt
weighed_take k (child ∷ children) (suc number) all = (all.0, weighed_take k children number all.1)

pub weighed_drop : (k : ℕ) (children : List Child) (number : ℕ) → AreWeighed k children → AreWeighed k (drop number children)
weighed_drop k children zero all = all
weighed_drop k [] (suc number) all = tt
weighed_drop k (child ∷ children) (suc number) all = weighed_drop k children number all.1

pub weighed_more : (k most : ℕ) (children : List Child) → k ≤ most → AreWeighed k children → AreWeighed most children
weighed_more k most [] more all = tt
weighed_more k most (child ∷ children) more all =
    let h = all.0 in let least = h.lean_some in let lean = h.lean_most in let some = h.nearly_some in let nearly = h.nearly_most in
    (record { lean_some = least; lean_most = omega arith; nearly_some = some; nearly_most = omega arith }, weighed_more k most children more all.1)

-- an interval has at most k members
pub reach_most : (k : ℕ) (children : List Child) (len sum : ℕ) → AreWeighed k children → IsReach k Light children len sum → len ≤ k
reach_most k children len sum all h =
    let w = h.weighed in let l = h.light in let m = len_weigh k Light children len all h.within in omega arith

light_plain : (children : List Child) → weigh Light children ≤ weigh Plain children
light_plain [] = omega arith
light_plain (child ∷ children) = let ih = light_plain children in omega arith

-- an interval of children in their first form is no longer than the longest
pub plain_most : (k : ℕ) (children : List Child) (len sum light weight : ℕ) → IsReach k Plain children len sum → IsReach k Light children light weight → len ≤ light
plain_most k children len sum light weight h l =
    let w = h.weighed in let s = h.light in l.longest len h.within (let less = light_plain (take len children) in omega arith)

pub draft_ended : (k room : ℕ) (children : List Child) (light sum base : ℕ) (lefts : List ℕ) → IsDraftOf k room children (light + 1) base lefts → IsReach k Light children light sum → IsProfile k room children base lefts
draft_ended k room [] light sum base lefts d reach = absurd d
draft_ended k room (child ∷ children) light sum base lefts d reach = draft_done k room child children light sum base lefts d reach

pub draft_short : (k room : ℕ) (children : List Child) (until base : ℕ) (lefts : List ℕ) → IsDraftOf k room children until base lefts → base + length lefts ≤ length children
draft_short k room [] until base lefts d = absurd d
draft_short k room (child ∷ children) until base lefts d = d.short

-- with so many members in their second form a choice costs as much as to leave nothing
idle : (k room : ℕ) (children : List Child) (number light end last_base : ℕ) (last : List ℕ) (extras extra most w : ℕ) → IsProfile k room (drop light children) last_base last → number ≤ light → end ≤ extras + (last_base + 1) → extras ≤ extra → 1 + extra ≤ most → w ≤ room → IsAchievable k (drop number children) (most - (1 + extra)) w → end ≤ most
idle k room children number light end last_base last extras extra most w p less ends much enough small h =
    let l = (p.tells (most - (1 + extra)) w small).0 (drop_further k children number light (most - (1 + extra)) w less h) in
    let g = l.enough in omega arith

-- an interval of one child more, with as few members in their second form as it needs
pub draft_cut : (k room : ℕ) (children : List Child) (number light base : ℕ) (lefts : List ℕ) (extras : ℕ) (weights : List ℕ) (extra beyond_base : ℕ) (beyond new : List ℕ) (last_base : ℕ) (last : List ℕ) → IsDraftOf k room children number base lefts → 1 ≤ number → number ≤ light → AreLightest k (take number children) extras weights extra → extra < length weights → IsProfile k room (drop number children) beyond_base beyond → IsProfile k room (drop light children) last_base last → base + length lefts ≤ extras + (last_base + 1) → IsLowered (room + 1) base lefts (beyond_base + (1 + extra)) beyond new → IsDraftOf k room children (number + 1) base new
draft_cut k room [] number light base lefts extras weights extra beyond_base beyond new last_base last d some less l f b p ends h = absurd d
draft_cut k room (child ∷ children) number light base lefts extras weights extra beyond_base beyond new last_base last d some less l f b p ends h =
    let i = fewest_some k (take number (child ∷ children)) extras weights extra l f in
    let lowered = draft_lowered k room child children number base lefts number extra beyond_base beyond new d b some i h in
    let len = h.len in
    draft_more k room child children number base new lowered (λ other most w small much interval rest from. elim (cases_lt other extras) [
      | inl within ↦
          let fewest = (fewest_least k (take number (child ∷ children)) extras weights extra other l within interval).1 in
          let wide = wider k (drop number (child ∷ children)) (most - (1 + other)) w (most - (1 + extra)) w (omega arith) (omega arith) rest in
          lowered_adds (room + 1) base lefts (beyond_base + (1 + extra)) beyond new most w h from (listed_on beyond_base (1 + extra) beyond most w (omega arith) ((b.tells (most - (1 + extra)) w small).0 wide))
      | inr many ↦ listed_end base new most w (let e = idle k room (child ∷ children) number light (base + length lefts) last_base last extras other most w p less ends many much small rest in omega arith)
    ])

-- no interval of so many children is light enough and worth its cost
pub draft_uncut : (k room : ℕ) (children : List Child) (number light base : ℕ) (lefts : List ℕ) (extras : ℕ) (weights : List ℕ) (fewest last_base : ℕ) (last : List ℕ) → IsDraftOf k room children number base lefts → number ≤ light → AreLightest k (take number children) extras weights fewest → length weights ≤ fewest → IsProfile k room (drop light children) last_base last → base + length lefts ≤ extras + (last_base + 1) → IsDraftOf k room children (number + 1) base lefts
draft_uncut k room [] number light base lefts extras weights fewest last_base last d less l f p ends = absurd d
draft_uncut k room (child ∷ children) number light base lefts extras weights fewest last_base last d less l f p ends =
    draft_more k room child children number base lefts d (λ other most w small much interval rest from. elim (cases_lt other extras) [
      | inl within ↦ let least = (fewest_least k (take number (child ∷ children)) extras weights fewest other l within interval).0 in absurd (omega arith)
      | inr many ↦ listed_end base lefts most w (idle k room (child ∷ children) number light (base + length lefts) last_base last extras other most w p less ends many much small rest)
    ])

-- what the start makes
pub draft_first : (k room : ℕ) (children : List Child) (plain sum : ℕ) (first : Child) (after_base : ℕ) (after : List ℕ) (beyond_base : ℕ) (beyond : List ℕ) (base : ℕ) (lefts : List ℕ) → IsReach k Plain children plain sum → 1 ≤ plain → IsProfile k room (drop 1 children) after_base after → IsProfile k room (drop plain children) beyond_base beyond → base ≡ after_base → IsStarted room (get_or children 0 first).lean after_base after beyond_base beyond lefts → IsDraftOf k room children (plain + 1) base lefts
draft_first k room [] plain sum first after_base after beyond_base beyond base lefts reach some a b bases h = let within = reach.within in absurd (omega arith)
draft_first k room (child ∷ children) plain sum first after_base after beyond_base beyond base lefts reach some a b bases h =
    let w = reach.weighed in let l = reach.light in
    subst (λ (n : ℕ). IsDraftOf k room (child ∷ children) (plain + 1) n lefts) (sym bases)
    (draft_start k room child children plain after_base after beyond_base beyond lefts h a b some (plain_interval k (take plain (child ∷ children)) (omega arith)))

-- the children from a place on, without the first of them
pub rest_next : (children : List Child) (at : ℕ) → 1 ≤ at → drop 1 (take (length children - (at - 1)) (drop (at - 1) children)) ≡ drop at children
rest_next children at some =
    let sums : at - 1 + 1 ≡ at = omega arith in
    ap (λ cs. drop 1 cs) (take_rest children (at - 1)) ∙ drop-drop 1 (at - 1) children ∙ ap (λ n. drop n children) sums

-- where a choice that begins with a longer interval costs as much as to leave nothing
pub draft_idle : (k room : ℕ) (children : List Child) (until light base : ℕ) (lefts : List ℕ) (last_base : ℕ) (last : List ℕ) → IsDraftOf k room children until base lefts → IsProfile k room (drop light children) last_base last → base + length lefts ≤ last_base + 1 → IsDraftOf k room children (light + 1) base lefts
draft_idle k room [] until light base lefts last_base last d p ends = absurd d
draft_idle k room (child ∷ children) until light base lefts last_base last d p ends = record {
  sound = d.sound;
  uncut = d.uncut;
  taken = λ number extra most w one less small much interval rest. elim (cases_lt number until) [
    | inl before ↦ d.taken number extra most w one before small much interval rest
    | inr later ↦ listed_end base lefts most w (idle k room (child ∷ children) number light (base + length lefts) last_base last 0 extra most w p (omega arith) (omega arith) (omega arith) much small rest)
  ];
  from = d.from;
  short = d.short;
  small = d.small;
}

-- rows

pub lefts_len : (lefts : List ℕ) (row : Row) → row.start + row.len ≤ length lefts → length (lefts_of lefts row) ≡ row.len
lefts_len lefts row inside = let d = length-drop row.start lefts in length-take-le row.len (drop row.start lefts) (omega arith)

-- a row ends where as many are cut as there are children
pub row_fits : (k room : ℕ) (children : List Child) (lefts : List ℕ) (row : Row) → IsRowOf k room children lefts row → row.base + row.len ≤ length children
row_fits k room children lefts row r = let e = lefts_len lefts row r.inside in let s = r.profile.short in omega arith

-- the last children are those without the first ones
pub last_all : (children : List Child) (at : ℕ) → at ≤ length children → last (length children - at) children ≡ drop at children
last_all children at within = let e : length children - (length children - at) ≡ at = omega arith in ap (λ n. drop n children) e

pub last_rest : (children : List Child) (number : ℕ) → 1 ≤ length children → number ≤ length children - 1 → last number (drop 1 children) ≡ last number children
last_rest children number some within =
    let len = length-drop 1 children in
    let e : 1 + (length (drop 1 children) - number) ≡ length children - number = omega arith in
    drop-drop (length (drop 1 children) - number) 1 children ∙ ap (λ n. drop n children) e

-- the row of the children behind an interval
pub row_beyond : (k room : ℕ) (children : List Child) (lefts : List ℕ) (row : Row) (number : ℕ) → 1 ≤ number → number ≤ length children → IsRowOf k room (last (length children - number) (drop 1 children)) lefts row → IsRowOf k room (drop number children) lefts row
row_beyond k room children lefts row number some within r =
    subst (λ cs. IsRowOf k room cs lefts row) (last_rest children (length children - number) (omega arith) (omega arith) ∙ last_all children number within) r

row_kept : (k room : ℕ) (children : List Child) (lefts more : List ℕ) (row : Row) → IsRowOf k room children lefts row → IsRowOf k room children (lefts ++ more) row
row_kept k room children lefts more row r =
    let inside = r.inside in let len = length-append lefts more in let d = length-drop row.start lefts in
    let same : lefts_of (lefts ++ more) row ≡ lefts_of lefts row =
    ap (λ xs. take row.len xs) (drop-append-le row.start lefts more (omega arith)) ∙ take-append-le row.len (drop row.start lefts) more (omega arith) in
    record { inside = omega arith; profile = subst (λ xs. IsProfile k room children row.base xs) (sym same) r.profile }

row_new : (k room : ℕ) (children : List Child) (lefts more : List ℕ) (row : Row) → row.start ≡ length lefts → row.len ≡ length more → IsProfile k room children row.base more → IsRowOf k room children (lefts ++ more) row
row_new k room children lefts more row start len p =
    let sums = length-append lefts more in
    let same : lefts_of (lefts ++ more) row ≡ more =
    ap (λ n. take row.len (drop n (lefts ++ more))) start ∙ ap (λ xs. take row.len xs) (drop-append_seam lefts more) ∙ take_all row.len more (omega arith) in
    record { inside = omega arith; profile = subst (λ xs. IsProfile k room children row.base xs) (sym same) p }

-- one row more
pub profiles_push : (k room : ℕ) (children : List Child) (old new : Profiles) (row : Row) (more : List ℕ) → new.rows.items ≡ old.rows.items ++ row ∷ [] → new.lefts.items ≡ old.lefts.items ++ more → row.start ≡ length old.lefts.items → row.len ≡ length more → length old.rows.items ≡ length children → AreProfiles k room (drop 1 children) old → IsProfile k room children row.base more → AreProfiles k room children new
profiles_push k room children old new row more rows lefts start len many all p =
    let less = all.all in let sums = ap length rows ∙ length-append old.rows.items (row ∷ []) in let dropped = length-drop 1 children in
    record {
      all = omega arith;
      each = λ number other within. elim (cases_lt number (length old.rows.items)) [
        | inl before ↦
            let at : get_or new.rows.items number other ≡ get_or old.rows.items number other = ap (λ rs. get_or rs number other) rows ∙ get_or_append_left old.rows.items (row ∷ []) other number before in
            let was = all.each number other (omega arith) in
            subst (λ r. IsRowOf k room (last number children) new.lefts.items r) (sym at)
            (subst (λ xs. IsRowOf k room (last number children) xs (get_or old.rows.items number other)) (sym lefts)
            (row_kept k room (last number children) old.lefts.items more (get_or old.rows.items number other)
            (subst (λ cs. IsRowOf k room cs old.lefts.items (get_or old.rows.items number other)) (last_rest children number (omega arith) (omega arith)) was)))
        | inr past ↦
            let here : number ≡ length old.rows.items = omega arith in
            let at : get_or new.rows.items number other ≡ row = ap (λ n. get_or new.rows.items n other) here ∙ ap (λ rs. get_or rs (length old.rows.items) other) rows ∙ get_or-append_seam old.rows.items row [] other in
            let none : length children - number ≡ 0 = omega arith in
            let whole : last number children ≡ children = ap (λ n. drop n children) none in
            subst (λ r. IsRowOf k room (last number children) new.lefts.items r) (sym at)
            (subst (λ cs. IsRowOf k room cs new.lefts.items row) (sym whole)
            (subst (λ xs. IsRowOf k room children xs row) (sym lefts) (row_new k room children old.lefts.items more row start len p)))
      ];
    }

-- the profiles of no children
pub profiles_none : (k room : ℕ) (profiles : Profiles) (row : Row) → profiles.rows.items ≡ row ∷ [] → row.start ≡ 0 → row.len ≡ 0 → row.base ≡ 0 → AreProfiles k room [] profiles
profiles_none k room profiles row rows start len base = record {
  all = let n = ap length rows in omega arith;
  each = λ number other within.
      let none : 0 ≡ number = omega arith in
      let at : row ≡ get_or profiles.rows.items number other = ap (λ rs. get_or rs 0 other) (sym rows) ∙ ap (λ n. get_or profiles.rows.items n other) none in
      subst (λ r. IsRowOf k room (last number []) profiles.lefts.items r) at (record {
        inside = omega arith;
        profile = subst (λ cs. IsProfile k room cs row.base (lefts_of profiles.lefts.items row)) (ap (λ n. last n []) none)
            (subst (λ b. IsProfile k room [] b (lefts_of profiles.lefts.items row)) (sym base)
            (subst (λ n. IsProfile k room [] 0 (take n (drop row.start profiles.lefts.items))) (sym len) (profile_none k room)));
      });
}

-- the profiles of all children are those of the last ones
pub profiles_drop : (k room : ℕ) (children : List Child) (profiles : Profiles) (at : ℕ) → at ≤ length children → AreProfiles k room children profiles → AreProfiles k room (drop at children) profiles
profiles_drop k room children profiles at within all =
    let len = length-drop at children in let many = all.all in
    record {
      all = omega arith;
      each = λ number other less.
          let e : at + (length (drop at children) - number) ≡ length children - number = omega arith in
          let same : last number children ≡ last number (drop at children) = sym (drop-drop (length (drop at children) - number) at children ∙ ap (λ n. drop n children) e) in
          subst (λ cs. IsRowOf k room cs profiles.lefts.items (get_or profiles.rows.items number other)) same (all.each number other (omega arith));
    }
