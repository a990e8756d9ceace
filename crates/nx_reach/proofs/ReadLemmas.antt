-- Steps in text: each text says one list of them at most, and reading step by step finds it.
use Rattle.std.proofs.Common.{◌≡◌, ◌≢◌, ℕ, zero, suc, ◌<◌, ◌≤◌, ◌==◌, Bool, true, false, inl, inr, List, [], ◌∷◌, ◌++◌, length, take, drop, get_or, refl, sym, ap, ◌∙◌, subst, append_assoc, length-append, length-drop, take_all, ◌-◌, arith}
use Rattle.std.specs.Prelude.{◌||◌, codes, nat_le}
use Rattle.std.specs.List.{list_all}
use Rattle.std.specs.Str.{bytes_eq}
use Rattle.std.proofs.lemmas.List.{append-nil, take-append-drop}
use Rattle.std.proofs.lemmas.Bool.Decides.{Decides-eqb, nat_tests}
use Rattle.std.proofs.lemmas.Slice.Eq.{bytes_eq-Decides}
use Rattle.nx_tree.specs.Document.{is_name, is_name_byte}
use Rattle.nx_pyx.specs.Field.{begins_with}
use Rattle.nx_matrix.specs.RuleLabels.{is_child_label, is_marked_name}
use Rattle.nx_reach.specs.declared.step.Step.{Step}
use Rattle.nx_reach.specs.declared.step.Step.TheVariants.{Child, Below}
use Rattle.nx_reach.specs.Reach.{label_of}
use Rattle.nx_reach.specs.Text.{name_step_text, name_steps_text, AreLabelled, SaysSteps, is_below, step_of, HasNoSlash, EndsOrSlash, BeginsNoSlash, slashed, SplitsStep, HasReadSteps}
use Rattle.nx_reach.proofs.AlongLemmas.{both_true, or_cases}

pub no_slash : (bytes : List ℕ) (n : ℕ) → ((k : ℕ) → k < n → get_or bytes k 0 ≢ 47) → HasNoSlash (take n bytes)
no_slash [] zero none = tt
no_slash [] (suc n) none = tt
no_slash (b ∷ bytes) zero none = tt
no_slash (b ∷ bytes) (suc n) none = (none 0 (omega arith), no_slash bytes n (λ k h. none (suc k) (omega arith)))

pub slash_next : (bytes : List ℕ) (n : ℕ) → (n < length bytes → get_or bytes n 0 ≡ 47) → EndsOrSlash (drop n bytes)
slash_next [] zero is = tt
slash_next [] (suc n) is = tt
slash_next (b ∷ bytes) zero is = is (omega arith)
slash_next (b ∷ bytes) (suc n) is = slash_next bytes n (λ h. is (omega arith))

pub other_first : (bytes : List ℕ) → begins_with 47 bytes ≡ false → BeginsNoSlash bytes
other_first [] e = tt
other_first (b ∷ bytes) e = λ same. let t : (b == 47) ≡ true = (Decides-eqb b 47).1 same in absurd (cc)

name_byte : (b : ℕ) → is_name_byte b ≡ true → b ≡ 47 → ⊥
name_byte b e same = let h : is_name_byte 47 ≡ true = ap is_name_byte (sym same) ∙ e in cc

name_bytes : (name : List ℕ) → list_all is_name_byte name ≡ true → HasNoSlash name
name_bytes [] e = tt
name_bytes (b ∷ name) e = let h : (is_name_byte b ≡ true) × (list_all is_name_byte name ≡ true) = both_true (is_name_byte b) (list_all is_name_byte name) e in
    (name_byte b h.0, name_bytes name h.1)

-- a name has a byte, and no slash
named : (name : List ℕ) → is_name name ≡ true → (1 ≤ length name) × HasNoSlash name
named [] e = absurd (cc)
named (b ∷ name) e = (omega arith, name_bytes (b ∷ name) e)

marked_named : (name : List ℕ) → is_marked_name name ≡ true → (1 ≤ length name) × HasNoSlash name
marked_named [] e = absurd (cc)
marked_named (mark ∷ name) e = let h : ((mark == 64 || mark == 63) ≡ true) × (is_name name ≡ true) = both_true (mark == 64 || mark == 63) (is_name name) e in
    (omega arith, ((λ same. let f : (47 == 64 || 47 == 63) ≡ true = ap (λ (m : ℕ). m == 64 || m == 63) (sym same) ∙ h.0 in cc), (named name h.1).1))

-- so has each label of a child
pub labelled : (name : List ℕ) → is_child_label name ≡ true → (1 ≤ length name) × HasNoSlash name
labelled name e = elim (or_cases (bytes_eq name (codes "#text") || is_name name) (is_marked_name name) (both_true (nat_le (length name) 1024) (bytes_eq name (codes "#text") || is_name name || is_marked_name name) e).1) [
  | inl o ↦ elim (or_cases (bytes_eq name (codes "#text")) (is_name name) o) [
    | inl t ↦ subst (λ (x : List ℕ). (1 ≤ length x) × HasNoSlash x) (sym ((bytes_eq-Decides name (codes "#text")).0 t)) text_named
    | inr n ↦ named name n
  ]
  | inr m ↦ marked_named name m
]
  where
    text_named : (1 ≤ length (codes "#text")) × HasNoSlash (codes "#text")
    text_named = (omega arith, ((λ e. omega arith), ((λ e. omega arith), ((λ e. omega arith), ((λ e. omega arith), ((λ e. omega arith), tt))))))

-- what stands before the next slash is one thing
pub one_label : (name more name' more' : List ℕ) → HasNoSlash name → EndsOrSlash more → HasNoSlash name' → EndsOrSlash more' → name ++ more ≡ name' ++ more' → (name ≡ name') × (more ≡ more')
one_label [] more [] more' p e p' e' is = (refl, is)
one_label [] [] (b' ∷ name') more' p e p' e' is = absurd (cc)
one_label [] (b ∷ more) (b' ∷ name') more' p e p' e' is = absurd (p'.0 (let h : b ≡ b' = cc in sym h ∙ e))
one_label (b ∷ name) more [] [] p e p' e' is = absurd (cc)
one_label (b ∷ name) more [] (b' ∷ more') p e p' e' is = absurd (p.0 (let h : b ≡ b' = cc in h ∙ e'))
one_label (b ∷ name) more (b' ∷ name') more' p e p' e' is =
    let h : b ≡ b' = cc in
    let t : name ++ more ≡ name' ++ more' = cc in
    let r : (name ≡ name') × (more ≡ more') = one_label name more name' more' p.1 e p'.1 e' t in
    (cc, r.1)

-- ... and so is the first step of a text
pub one_split : (text : List ℕ) (below : Bool) (name more : List ℕ) (below' : Bool) (name' more' : List ℕ) → SplitsStep text below name more → SplitsStep text below' name' more' →
    (below ≡ below') × (name ≡ name') × (more ≡ more')
one_split text true name more true name' more' s t =
    let r : (name ≡ name') × (more ≡ more') = one_label name more name' more' s.plain s.ends t.plain t.ends (let h : slashed true (name ++ more) ≡ slashed true (name' ++ more') = sym s.is ∙ t.is in cc) in
    (refl, r.0, r.1)
one_split text false name more false name' more' s t =
    let r : (name ≡ name') × (more ≡ more') = one_label name more name' more' s.plain s.ends t.plain t.ends (let h : slashed false (name ++ more) ≡ slashed false (name' ++ more') = sym s.is ∙ t.is in cc) in
    (refl, r.0, r.1)
one_split text true name more false name' more' s t =
    let h : 47 ∷ (name ++ more) ≡ name' ++ more' = (let h : slashed true (name ++ more) ≡ slashed false (name' ++ more') = sym s.is ∙ t.is in cc) in
    absurd (let g : BeginsNoSlash (47 ∷ (name ++ more)) = subst BeginsNoSlash (sym h) (t.single refl) in g refl)
one_split text false name more true name' more' s t =
    let h : name ++ more ≡ 47 ∷ (name' ++ more') = (let h : slashed false (name ++ more) ≡ slashed true (name' ++ more') = sym s.is ∙ t.is in cc) in
    absurd (let g : BeginsNoSlash (47 ∷ (name' ++ more')) = subst BeginsNoSlash h (s.single refl) in g refl)

other_begins : (name more : List ℕ) → 1 ≤ length name → HasNoSlash name → BeginsNoSlash (name ++ more)
other_begins [] more some p = absurd (omega arith)
other_begins (b ∷ name) more some p = p.0

text_ends : (steps : List Step) → EndsOrSlash (name_steps_text steps)
text_ends [] = tt
text_ends (Child name ∷ steps) = refl
text_ends (Below name ∷ steps) = refl

-- the text of steps begins with that of the first
pub first_split : (step : Step) (steps : List Step) → is_child_label (label_of step) ≡ true → SplitsStep (name_step_text step ++ name_steps_text steps) (is_below step) (label_of step) (name_steps_text steps)
first_split (Child name) steps e = let l : (1 ≤ length name) × HasNoSlash name = labelled name e in
    record { is = refl; plain = l.1; ends = text_ends steps; single = λ _. other_begins name (name_steps_text steps) l.0 l.1 }
first_split (Below name) steps e = let l : (1 ≤ length name) × HasNoSlash name = labelled name e in
    record { is = refl; plain = l.1; ends = text_ends steps; single = λ no. absurd (cc) }

step_again : (step : Step) → step_of (is_below step) (label_of step) ≡ step
step_again (Child name) = refl
step_again (Below name) = refl

text_again : (below : Bool) (name more : List ℕ) → name_step_text (step_of below name) ++ more ≡ slashed below (name ++ more)
text_again true name more = refl
text_again false name more = refl

label_again : (below : Bool) (name : List ℕ) → label_of (step_of below name) ≡ name
label_again true name = refl
label_again false name = refl

-- the last step of those read, and what is left
text_more : (steps : List Step) (step : Step) (rest : List ℕ) → name_steps_text (steps ++ step ∷ []) ++ rest ≡ name_steps_text steps ++ (name_step_text step ++ rest)
text_more [] step rest = ap (λ (bytes : List ℕ). bytes ++ rest) (append-nil (name_step_text step))
text_more (s ∷ steps) step rest =
    append_assoc (name_step_text s) (name_steps_text (steps ++ step ∷ [])) rest ∙ ap (λ (bytes : List ℕ). name_step_text s ++ bytes) (text_more steps step rest) ∙ sym (append_assoc (name_step_text s) (name_steps_text steps) (name_step_text step ++ rest))

labels_more : (steps : List Step) (step : Step) → AreLabelled steps → is_child_label (label_of step) ≡ true → AreLabelled (steps ++ step ∷ [])
labels_more [] step all one = (one, tt)
labels_more (s ∷ steps) step all one = (all.0, labels_more steps step all.1 one)

labels_behind : (steps more : List Step) → AreLabelled (steps ++ more) → AreLabelled more
labels_behind [] more all = all
labels_behind (s ∷ steps) more all = labels_behind steps more all.1

pub read_start : (text : List ℕ) → HasReadSteps text [] text
read_start text = record { is = refl; labels = tt; few = omega arith; only = λ other says. (other, refl, says.is, says.labels) }

-- where some text is left it begins with the next step
next_step : (rest : List ℕ) (more : List Step) → 1 ≤ length rest → rest ≡ name_steps_text more → AreLabelled more →
    (step : Step) × (behind : List Step) × (more ≡ step ∷ behind) × SplitsStep rest (is_below step) (label_of step) (name_steps_text behind) × (is_child_label (label_of step) ≡ true) × AreLabelled behind
next_step rest [] some is labels = absurd (let e : length rest ≡ 0 = ap length is in omega arith)
next_step rest (step ∷ behind) some is labels = (step, behind, refl, subst (λ (bytes : List ℕ). SplitsStep bytes (is_below step) (label_of step) (name_steps_text behind)) (sym is) (first_split step behind labels.0), labels.0, labels.1)

pub read_more : (text : List ℕ) (steps : List Step) (rest : List ℕ) (below : Bool) (name more : List ℕ) → 1 ≤ length rest → HasReadSteps text steps rest → SplitsStep rest below name more →
    is_child_label name ≡ true → length steps ≢ 64 → HasReadSteps text (steps ++ step_of below name ∷ []) more
read_more text steps rest below name more some read splits is_label room = record {
  is = read.is ∙ ap (λ (bytes : List ℕ). name_steps_text steps ++ bytes) (splits.is ∙ sym (text_again below name more)) ∙ sym (text_more steps (step_of below name) more);
  labels = labels_more steps (step_of below name) read.labels (ap is_child_label (label_again below name) ∙ is_label);
  few = let f : length steps ≤ 64 = read.few in omega (arith, length-append steps (step_of below name ∷ []));
  only = λ other says. go other (read.only other says);
}
  where
    go : (other : List Step) → (ms : List Step) × (other ≡ steps ++ ms) × (rest ≡ name_steps_text ms) × AreLabelled ms →
        (ms : List Step) × (other ≡ (steps ++ step_of below name ∷ []) ++ ms) × (more ≡ name_steps_text ms) × AreLabelled ms
    go other w =
        let n : (step : Step) × (behind : List Step) × (w.0 ≡ step ∷ behind) × SplitsStep rest (is_below step) (label_of step) (name_steps_text behind) × (is_child_label (label_of step) ≡ true) × AreLabelled behind =
        next_step rest w.0 some w.2 w.3 in
        let o : (below ≡ is_below n.0) × (name ≡ label_of n.0) × (more ≡ name_steps_text n.1) = one_split rest below name more (is_below n.0) (label_of n.0) (name_steps_text n.1) splits n.3 in
        let s : step_of below name ≡ n.0 = ap (λ (b : Bool). step_of b name) o.0 ∙ ap (step_of (is_below n.0)) o.1 ∙ step_again n.0 in
        (n.1, w.1 ∙ ap (λ (xs : List Step). steps ++ xs) (n.2 ∙ ap (λ (x : Step). x ∷ n.1) (sym s)) ∙ sym (append_assoc steps (step_of below name ∷ []) n.1), o.2, n.5)

-- why a text says no steps
pub none_unsplit : (text : List ℕ) (steps : List Step) (rest : List ℕ) → 1 ≤ length rest → HasReadSteps text steps rest → begins_with 47 rest ≡ false → (other : List Step) → SaysSteps text other → ⊥
none_unsplit text steps rest some read no_step other says =
    let w : (ms : List Step) × (other ≡ steps ++ ms) × (rest ≡ name_steps_text ms) × AreLabelled ms = read.only other says in
    let n : (step : Step) × (behind : List Step) × (w.0 ≡ step ∷ behind) × SplitsStep rest (is_below step) (label_of step) (name_steps_text behind) × (is_child_label (label_of step) ≡ true) × AreLabelled behind =
    next_step rest w.0 some w.2 w.3 in
    let h : begins_with 47 (slashed (is_below n.0) (label_of n.0 ++ name_steps_text n.1)) ≡ false = ap (begins_with 47) (sym n.3.is) ∙ no_step in
    cc

pub none_unlabelled : (text : List ℕ) (steps : List Step) (rest : List ℕ) (below : Bool) (name more : List ℕ) → 1 ≤ length rest → HasReadSteps text steps rest → SplitsStep rest below name more →
    is_child_label name ≡ false → (other : List Step) → SaysSteps text other → ⊥
none_unlabelled text steps rest below name more some read splits no_label other says =
    let w : (ms : List Step) × (other ≡ steps ++ ms) × (rest ≡ name_steps_text ms) × AreLabelled ms = read.only other says in
    let n : (step : Step) × (behind : List Step) × (w.0 ≡ step ∷ behind) × SplitsStep rest (is_below step) (label_of step) (name_steps_text behind) × (is_child_label (label_of step) ≡ true) × AreLabelled behind =
    next_step rest w.0 some w.2 w.3 in
    let o : (below ≡ is_below n.0) × (name ≡ label_of n.0) × (more ≡ name_steps_text n.1) = one_split rest below name more (is_below n.0) (label_of n.0) (name_steps_text n.1) splits n.3 in
    let h : true ≡ false = sym n.4 ∙ ap is_child_label (sym o.1) ∙ no_label in
    cc

pub none_so_many : (text : List ℕ) (steps : List Step) (rest : List ℕ) → 1 ≤ length rest → HasReadSteps text steps rest → length steps ≡ 64 → (other : List Step) → SaysSteps text other → ⊥
none_so_many text steps rest some read full other says =
    let w : (ms : List Step) × (other ≡ steps ++ ms) × (rest ≡ name_steps_text ms) × AreLabelled ms = read.only other says in
    let n : (step : Step) × (behind : List Step) × (w.0 ≡ step ∷ behind) × SplitsStep rest (is_below step) (label_of step) (name_steps_text behind) × (is_child_label (label_of step) ≡ true) × AreLabelled behind =
    next_step rest w.0 some w.2 w.3 in
    let f : length other ≤ 64 = says.few in
    let l : length other ≡ length (steps ++ (n.0 ∷ n.1)) = ap length (w.1 ∙ ap (λ (xs : List Step). steps ++ xs) n.2) in
    omega (arith, length-append steps (n.0 ∷ n.1))

left_none : (more : List Step) → [] ≡ name_steps_text more → more ≡ []
left_none [] e = refl
left_none (Child name ∷ more) e = absurd (cc)
left_none (Below name ∷ more) e = absurd (cc)

pub none_empty : (text : List ℕ) (steps : List Step) (rest : List ℕ) → length rest ≡ 0 → HasReadSteps text steps rest → length steps ≡ 0 → (other : List Step) → SaysSteps text other → ⊥
none_empty text steps (b ∷ rest) end read no_steps other says = omega arith
none_empty text (s ∷ steps) [] end read no_steps other says = omega arith
none_empty text [] [] end read no_steps other says =
    let w : (ms : List Step) × (other ≡ [] ++ ms) × ([] ≡ name_steps_text ms) × AreLabelled ms = read.only other says in
    let e : length other ≡ 0 = ap length (w.1 ∙ left_none w.0 w.2) in
    let f : 1 ≤ length other = says.some in
    omega arith

pub read_all : (text : List ℕ) (steps : List Step) (rest : List ℕ) → length rest ≡ 0 → HasReadSteps text steps rest → 1 ≤ length steps → SaysSteps text steps
read_all text steps (b ∷ rest) end read some = absurd (omega arith)
read_all text steps [] end read some = record { some = some; few = read.few; labels = read.labels; is = read.is ∙ append-nil (name_steps_text steps) }

-- what is left is shorter
pub shorter : (text : List ℕ) (below : Bool) (name more : List ℕ) → SplitsStep text below name more → length more < length text
shorter text true name more splits = omega (arith, ap length splits.is, length-append name more)
shorter text false name more splits = omega (arith, ap length splits.is, length-append name more)

pub label_splits : (below : Bool) (bytes : List ℕ) (n : ℕ) → ((k : ℕ) → k < n → get_or bytes k 0 ≢ 47) → (n < length bytes → get_or bytes n 0 ≡ 47) →
    (text : List ℕ) → text ≡ slashed below bytes → (below ≡ false → begins_with 47 bytes ≡ false) → SplitsStep text below (take n bytes) (take (length bytes - n) (drop n bytes))
label_splits below bytes n before found text is single =
    let t : take (length bytes - n) (drop n bytes) ≡ drop n bytes = take_all (length bytes - n) (drop n bytes) (omega (arith, length-drop n bytes)) in
    let j : take n bytes ++ drop n bytes ≡ bytes = take-append-drop n bytes in
    subst (λ (more : List ℕ). SplitsStep text below (take n bytes) more) (sym t) (record {
      is = is ∙ ap (slashed below) (sym j);
      plain = no_slash bytes n before;
      ends = slash_next bytes n found;
      single = λ e. subst BeginsNoSlash (sym j) (other_first bytes (single e));
    })

-- a text says one list of steps at most
pub one_reading : (xs ys : List Step) → AreLabelled xs → AreLabelled ys → name_steps_text xs ≡ name_steps_text ys → xs ≡ ys
one_reading [] ys first second is = sym (left_none ys is)
one_reading (x ∷ xs) [] first second is = left_none (x ∷ xs) (sym is)
one_reading (x ∷ xs) (y ∷ ys) first second is =
    let o : (is_below x ≡ is_below y) × (label_of x ≡ label_of y) × (name_steps_text xs ≡ name_steps_text ys) =
    one_split (name_step_text x ++ name_steps_text xs) (is_below x) (label_of x) (name_steps_text xs) (is_below y) (label_of y) (name_steps_text ys) (first_split x xs first.0)
    (subst (λ (t : List ℕ). SplitsStep t (is_below y) (label_of y) (name_steps_text ys)) (sym is) (first_split y ys second.0)) in
    let s : x ≡ y = sym (step_again x) ∙ ap (λ (b : Bool). step_of b (label_of x)) o.0 ∙ ap (step_of (is_below y)) o.1 ∙ step_again y in
    ap (λ (z : Step). z ∷ xs) s ∙ ap (λ (zs : List Step). y ∷ zs) (one_reading xs ys first.1 second.1 o.2)

pub some_left : (n : ℕ) (r : Bool) → r ≡ (n == 0) → r ≡ false → 1 ≤ n
some_left n r e f = grind (arith, nat_tests)

pub none_left : (n : ℕ) (r : Bool) → r ≡ (n == 0) → r ≡ true → n ≡ 0
none_left n r e f = grind (arith, nat_tests)
