-- Events of forests that grow, standings after one event more, and faults of lines that follow others.
use Rattle.std.proofs.Common.{if◌then◌else◌, ◌≡◌, ℕ, ◌+◌, Bool, true, false, List, [], ◌∷◌, ◌++◌, length, Option, None, Some, refl, ap, sym, ◌∙◌, append_assoc}
use Rattle.std.specs.Prelude.{fold}
use Rattle.std.specs.List.{cons_option}
use Rattle.std.specs.Option.{option_map, option_map_or}
use Rattle.nx_tree.specs.Forest as forest
use Rattle.nx_tree.specs.Forest.{OrderedTree, Forest, Plant, planted}
use Rattle.nx_tree.specs.Document.{is_element}
use Rattle.nx_pyx.specs.declared.error.PyxFault.{PyxFault}
use Rattle.nx_pyx.specs.declared.error.PyxFault.TheVariants.{LongLine, BadName, BadNesting, BadAttribute, Twice, TooDeep, TooMany}
use Rattle.nx_pyx.specs.Event.{Event, Start, End, Single, events, event_of}
use Rattle.nx_pyx.specs.Fault.{Standing, at_first, standing_after, standing, events_of, line_fault, first_fault, fault_at, fault_at_standing, is_long, is_misnamed, is_misplaced_event, is_late, is_repeated_event, is_deep, is_surplus}
use Rattle.nx_pyx.specs.Builder.{IsBuilt}
use Rattle.nx_pyx.proofs.GoesLemmas.{refusal_by}

-- the events of a forest with one more tree
pub events-planted : (f : Forest) (t : OrderedTree) → events (planted f t) ≡ events f ++ events (Plant t.node t.below forest.Empty)
events-planted forest.Empty t = refl
events-planted (Plant node below beside) t =
    let first : List Event = if is_element node.kind then Start node.name ∷ events below ++ End node.name ∷ [] else Single node ∷ [] in
    ap (λ r. first ++ r) (events-planted beside t) ∙ sym (append_assoc first (events beside) (events (Plant t.node t.below forest.Empty)))

pub IsBuilt-planted : (f : Forest) (t : OrderedTree) → IsBuilt f → IsBuilt (Plant t.node t.below forest.Empty) → IsBuilt (planted f t)
IsBuilt-planted forest.Empty t h one = one
IsBuilt-planted (Plant node below beside) t h one = (h.0, h.1, h.2, IsBuilt-planted beside t h.3 one)

fold-standing_after : (s : Standing) (es : List Event) (e : Event) → fold standing_after s (es ++ e ∷ []) ≡ standing_after (fold standing_after s es) e
fold-standing_after s [] e = refl
fold-standing_after s (x ∷ es) e = fold-standing_after (standing_after s x) es e

-- what stands after one event more
pub standing-more : (es : List Event) (e : Event) → standing (es ++ e ∷ []) ≡ standing_after (standing es) e
standing-more es e = fold-standing_after at_first es e

cons_option-append : (o : Option Event) (xs ys : List Event) → cons_option o (xs ++ ys) ≡ cons_option o xs ++ ys
cons_option-append None xs ys = refl
cons_option-append (Some e) xs ys = refl

pub events_of-append : (ls ms : List (List ℕ)) → events_of (ls ++ ms) ≡ events_of ls ++ events_of ms
events_of-append [] ms = refl
events_of-append (l ∷ ls) ms =
    ap (cons_option (event_of l)) (events_of-append ls ms) ∙ cons_option-append (event_of l) (events_of ls) (events_of ms)

-- where a line has no fault, the first one is among those after it
pub first_fault-next : (before : List (List ℕ)) (l : List ℕ) (ls : List (List ℕ)) → line_fault before l ≡ None →
    first_fault before (l ∷ ls) ≡ first_fault (before ++ l ∷ []) ls
first_fault-next before l ls h =
    ap (λ o. option_map_or (λ fault. Some (fault_at (length before + 1) fault)) o (first_fault (before ++ l ∷ []) ls)) h

-- the fault of one line
pub first_fault-one : (before : List (List ℕ)) (l : List ℕ) → first_fault before (l ∷ []) ≡ option_map (fault_at (length before + 1)) (line_fault before l)
first_fault-one before l = one_fault (length before + 1) (line_fault before l)
  where
    one_fault : (n : ℕ) (o : Option PyxFault) → option_map_or (λ fault. Some (fault_at n fault)) o None ≡ option_map (fault_at n) o
    one_fault n None = refl
    one_fault n (Some fault) = refl

module _ (s : Standing) (e : Event) where
  by_chain : (long misnamed misplaced late repeated deep surplus : Bool) → is_long e ≡ long → is_misnamed e ≡ misnamed → is_misplaced_event s e ≡ misplaced → is_late s e ≡ late →
      is_repeated_event s e ≡ repeated → is_deep s e ≡ deep → is_surplus s e ≡ surplus → fault_at_standing s e ≡ refusal_by long misnamed misplaced late repeated deep surplus
  by_chain long misnamed misplaced late repeated deep surplus a b c d f g h =
      ap (λ t. refusal_by t (is_misnamed e) (is_misplaced_event s e) (is_late s e) (is_repeated_event s e) (is_deep s e) (is_surplus s e)) a
      ∙ ap (λ t. refusal_by long t (is_misplaced_event s e) (is_late s e) (is_repeated_event s e) (is_deep s e) (is_surplus s e)) b
      ∙ ap (λ t. refusal_by long misnamed t (is_late s e) (is_repeated_event s e) (is_deep s e) (is_surplus s e)) c
      ∙ ap (λ t. refusal_by long misnamed misplaced t (is_repeated_event s e) (is_deep s e) (is_surplus s e)) d
      ∙ ap (λ t. refusal_by long misnamed misplaced late t (is_deep s e) (is_surplus s e)) f
      ∙ ap (λ t. refusal_by long misnamed misplaced late repeated t (is_surplus s e)) g
      ∙ ap (λ t. refusal_by long misnamed misplaced late repeated deep t) h

  pub refused_long : is_long e ≡ true → fault_at_standing s e ≡ Some LongLine
  refused_long a = by_chain true _ _ _ _ _ _ a refl refl refl refl refl refl

  pub refused_name : is_long e ≡ false → is_misnamed e ≡ true → fault_at_standing s e ≡ Some BadName
  refused_name a b = by_chain false true _ _ _ _ _ a b refl refl refl refl refl

  pub refused_place : is_long e ≡ false → is_misnamed e ≡ false → is_misplaced_event s e ≡ true → fault_at_standing s e ≡ Some BadNesting
  refused_place a b c = by_chain false false true _ _ _ _ a b c refl refl refl refl

  pub refused_late : is_long e ≡ false → is_misnamed e ≡ false → is_misplaced_event s e ≡ false → is_late s e ≡ true → fault_at_standing s e ≡ Some BadAttribute
  refused_late a b c d = by_chain false false false true _ _ _ a b c d refl refl refl

  pub refused_twice : is_long e ≡ false → is_misnamed e ≡ false → is_misplaced_event s e ≡ false → is_late s e ≡ false → is_repeated_event s e ≡ true → fault_at_standing s e ≡ Some Twice
  refused_twice a b c d f = by_chain false false false false true _ _ a b c d f refl refl

  pub refused_room : is_long e ≡ false → is_misnamed e ≡ false → is_misplaced_event s e ≡ false → is_late s e ≡ false → is_repeated_event s e ≡ false →
      fault_at_standing s e ≡ (if is_deep s e then Some TooDeep else if is_surplus s e then Some TooMany else None)
  refused_room a b c d f = by_chain false false false false false _ _ a b c d f refl refl
