use Rattle.std.proofs.Common.{◌≡◌, ℕ, List, Option, None, Some, [], true≢false, sym, ap, ◌∙◌, subst, arith, nat_cmp}
use Rattle.std.specs.List.Sorted.{IsNonDecreasing}
use Rattle.std.specs.Option.{option_map_or}
use Rattle.std.specs.Map.{lookup}
use Rattle.std.specs.BTreeMap.{is_at}
use Rattle.std.specs.Cmp.Lexicographic.{slice_cmp}
use Rattle.nx_names.specs.Serials.{LabelNumbers, is_in, numbered_list, label_number}
use Rattle.nx_names.proofs.gatherer.Gatherer.new.Goals as goal

-- no label has a number
no_number : (numbers : LabelNumbers) (name : List ℕ) → numbers.entries ≡ [] → label_number numbers name ≡ None
no_number numbers name empty = ap (lookup (is_at (λ key. slice_cmp nat_cmp name key.items))) empty

empty_rises : IsNonDecreasing []
empty_rises i j d le low = absurd (omega arith)

pub returns : goal.returns
returns c =
    let none : (name : List ℕ) → label_number c.new.result name ≡ None = λ name. no_number c.new.result name c.new.ensures.empty in
    let nothing : (name : List ℕ) → option_map_or (numbered_list c.new-2.result.items) (label_number c.new.result name) [] ≡ [] = λ name. ap (λ (o : Option ℕ). option_map_or (numbered_list c.new-2.result.items) o []) (none name) in
    record {
      around = c.new-5.ensures.items;
      noted = c.new-4.ensures.items;
      heard = λ name serial. ap (λ (xs : List ℕ). is_in xs serial) (nothing name);
      small = λ k d low. absurd (omega arith);
      rises = empty_rises;
      came = λ serial among. absurd (true≢false (sym among));
      ascend = λ name. subst IsNonDecreasing (sym (nothing name)) empty_rises;
      known = λ name serial among. absurd (true≢false (sym among ∙ ap (λ (xs : List ℕ). is_in xs serial) (nothing name)));
      before = λ name serial later among has le. absurd (true≢false (sym among));
      numbering = record {
        below = λ name number is. let e : None ≡ Some number = sym (none name) ∙ is in absurd (cc);
        apart = λ name other number is also. let e : None ≡ Some number = sym (none name) ∙ is in absurd (cc);
      };
      right = c.new-3.ensures c.new.result;
    }
