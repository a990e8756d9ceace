-- Laws of text that is given from a block: none came, and more came.
use Rattle.std.proofs.Common.{◌≡◌, ◌+◌, ◌-◌, ◌≤◌, ℕ, List, [], ◌++◌, Option, None, Some, sym, ap, ◌∙◌, subst, arith, append_assoc, append-nil}
use Rattle.std.specs.Prelude.{◌^◌, min}
use Rattle.nx_host.specs.Disk.{Image, Keeps, Rose}
use Rattle.nx_host.specs.declared.disk.Disk.{Ghosts}
use Rattle.nx_host.specs.Host.{Appends, AppendsPrefix}
use Rattle.nx_host.specs.Still.{IsStill}
use Rattle.nx_host.specs.Time.{elapsed_then, elapsed_weaker}
use Rattle.nx_host.proofs.DiskLemmas.{keeps_self, keeps_then}
use Rattle.nx_host.proofs.OutputLemmas.{appends_then, prefix_more, prefix_then, keeps_prefix}
use Rattle.nx_nav.specs.Given.{AsksAndGives, GivesWithin, GivesText}

-- an output that stays has grown by nothing
pub appends_kept : (a b : Option (List ℕ)) → Keeps a b → Appends [] a b
appends_kept a None keeps = tt
appends_kept a (Some was) keeps = (was, keeps, sym (append-nil was))

-- what rose later rose
pub unwritten_before : {x y z : ℕ} → x ≤ y → Rose y z → Rose x z
unwritten_before {x} {y} {z} later rose = let rose : min (y + 1) (2 ^ 64 - 1) ≤ z = rose in omega (arith, later, rose)

-- further text may come
pub within_more : {D : Type 0} (d : Ghosts D) (bytes more : List ℕ) (x y : D) → GivesWithin d bytes x y → GivesWithin d (bytes ++ more) x y
within_more d bytes more x y within = elapsed_weaker within (λ s h. (prefix_more bytes more (d.beside x).output s.output h.0, h.1))

module _ {D : Type 0} {d : Ghosts D} where
  pub still_gives : {x y : D} → IsStill d x y → AsksAndGives d x y
  still_gives {x} {y} still = record {
    contents_stay = subst (λ (o : Option Image). Keeps (d.contents x) o) (sym still.contents_stay) (keeps_self (d.contents x));
    images_stay = still.images_stay;
    input_stays = (still.beside_stays).input;
    in_faults_stay = (still.beside_stays).in_faults;
    out_faults_later = let same : (d.beside y).out_faults ≡ (d.beside x).out_faults = (still.beside_stays).out_faults in omega (arith, same);
    faults_later = still.faults_later;
  }

  asks_then : {x y z : D} → AsksAndGives d x y → AsksAndGives d y z → AsksAndGives d x z
  asks_then {x} {y} {z} first second = record {
    contents_stay = keeps_then (d.contents x) (d.contents y) (d.contents z) first.contents_stay second.contents_stay;
    images_stay = λ i. (λ h. (first.images_stay i).0 ((second.images_stay i).0 h), λ h. (second.images_stay i).1 ((first.images_stay i).1 h));
    input_stays = keeps_then (d.beside x).input (d.beside y).input (d.beside z).input first.input_stays second.input_stays;
    in_faults_stay = second.in_faults_stay ∙ first.in_faults_stay;
    out_faults_later = let a : (d.beside x).out_faults ≤ (d.beside y).out_faults = first.out_faults_later in let b : (d.beside y).out_faults ≤ (d.beside z).out_faults = second.out_faults_later in omega (arith, a, b);
    faults_later = let a : d.faults x ≤ d.faults y = first.faults_later in let b : d.faults y ≤ d.faults z = second.faults_later in omega (arith, a, b);
  }

  -- no text came
  pub gives_nothing : (block : List ℕ) {x y : D} → IsStill d x y → GivesText d block x [] block y
  gives_nothing block {x} {y} still = record {
    areas = still_gives still;
    gives = record { done = []; parts = sym (append-nil block); gave = appends_kept (d.beside x).output (d.beside y).output (still.beside_stays).output };
    time = elapsed_weaker still.time (λ s h. (keeps_prefix (block ++ []) (d.beside x).output s.output h.0, h.1));
  }

  -- text behind text
  pub gives_then : (a b c s t whole : List ℕ) {x y z : D} → whole ≡ s ++ t → GivesText d a x s b y → GivesText d b y t c z → GivesText d a x whole c z
  gives_then a b c s t whole {x} {y} {z} is first second =
      let done = (first.gives).done in
      let front : (a ++ s) ++ t ≡ a ++ whole = append_assoc a s t ∙ ap (λ w. a ++ w) (sym is) in
      let all : done ++ (b ++ t) ≡ a ++ whole = sym (append_assoc done b t) ∙ ap (λ w. w ++ t) (first.gives).parts ∙ front in
      record {
        areas = asks_then first.areas second.areas;
        gives = record {
          done = done ++ (second.gives).done;
          parts = append_assoc done (second.gives).done c ∙ ap (λ w. done ++ w) (second.gives).parts ∙ all;
          gave = appends_then done (second.gives).done (d.beside x).output (d.beside y).output (d.beside z).output (first.gives).gave (second.gives).gave;
        };
        time = elapsed_then {P = λ s. AppendsPrefix (a ++ whole) (d.beside x).output s.output × d.may_leave x s.image}
            (subst (λ w. GivesWithin d w x y) front (within_more d (a ++ s) t x y first.time))
            second.time
            (λ m h. (
              subst (λ w. AppendsPrefix w (d.beside x).output m.output) all (prefix_then done (b ++ t) (d.beside x).output (d.beside y).output m.output (first.gives).gave h.0),
              ((first.areas).images_stay m.image).0 h.1,
            ));
      }
