-- A load that came to its commit, or was refused, is a step.
use Rattle.std.proofs.Common.{◌≡◌, ◌⊎◌, ℕ, ◌+◌, ◌≤◌, List, [], length, Option, None, Some, inl, inr, false, cond, is_eq, refl, sym, ap, ◌∙◌, subst, arith}
use Rattle.std.specs.Prelude.{IsSome, Ok, MatchOption, option_map}
use Rattle.std.specs.Bool.{MatchBool}
use Rattle.std.specs.Option.{is_some}
use Rattle.std.specs.Cmp.{tied_itself}
use Rattle.std.specs.Cmp.Lexicographic.{nat_list_cmp_total}
use Rattle.std.specs.FinMap.{FinMap, get, insert, get-insert}
use Rattle.std.proofs.lemmas.Bool.{false≢true}
use Rattle.std.proofs.lemmas.List.Sorted.{length_permutation}
use Rattle.nx_host.specs.Disk.{Image}
use Rattle.nx_host.specs.declared.disk.Disk.{Ghosts}
use Rattle.nx_host.specs.Still.{IsStill, WritesAlone}
use Rattle.nx_tree.specs.Forest.{OrderedTree, nodes}
use Rattle.nx_weights.specs.Weight.{first_heavy, weighed}
use Rattle.nx_weights.proofs.AtMostLemmas.{light_none}
use Rattle.nx_parts.specs.declared.interval.Interval.{Interval}
use Rattle.nx_parts.specs.Minima.{IsLeanOptimal}
use Rattle.nx_parts.specs.Partitioning.{IsFeasible}
use Rattle.nx_cuts.specs.Cut.{parts_of, intervals, cuts, forest}
use Rattle.nx_cuts.proofs.AtMostLemmas.{feasible_light}
use Rattle.nx_cuts.proofs.DrawnLaw.{feasible_drawn}
use Rattle.nx_cuts.proofs.FeasibleLemmas.{length-intervals}
use Rattle.nx_minima.proofs.BoundLemmas.{cuts-nodes}
use Rattle.nx_replay.specs.Log.{Group, replay, HasGroup}
use Rattle.nx_holdings.specs.declared.header.Settings.{Settings}
use Rattle.nx_holdings.specs.Holdings.{Held, Holds}
use Rattle.nx_records.specs.Records.{settings_of, log_length_of, IsInStepWith, StandsFor, HasNoChanges}
use Rattle.nx_catalog.specs.Catalog.{Contents, IsCatalog}
use Rattle.nx_pyx.specs.declared.error.PyxError.{PyxError}
use Rattle.nx_script.specs.declared.command.LoadBody.{LoadBody}
use Rattle.nx_script.specs.declared.command.LoadBody.TheVariants.{Read, Wrong}
use Rattle.nx_script.specs.declared.command.Command.TheVariants.{Load}
use Rattle.nx_script.specs.declared.reply.Reply.{Reply}
use Rattle.nx_script.specs.declared.reply.Reply.TheVariants as reply
use Rattle.nx_script.specs.declared.reply.ReplyError.TheVariants.{Exists, Pyx, TooHeavy, Full}
use Rattle.nx_state.specs.State.{State}
use Rattle.nx_steps.specs.Answers.{Refuses, Loads, heavy_fault}
use Rattle.nx_steps.specs.Step.{Step}
use Rattle.nx_pyx.specs.DocumentName.{name_order}
use Rattle.nx_store.proofs.CaseLemmas.{BodyStep, load_case}
use Rattle.nx_store.specs.Loading.{MayNotFit}

-- a feasible partitioning has no more intervals than the tree has nodes
pub few_parts : (k : ℕ) (tree : OrderedTree) (parts : List Interval) → IsFeasible k tree parts → length parts ≤ 1 + nodes tree.below
few_parts k tree parts feasible =
    let drawn = feasible_drawn k tree parts feasible in
    let root : length (parts_of drawn.document) ≡ 1 + length (intervals [] 0 (drawn.document).below) = omega arith in
    let counted : length (intervals [] 0 (drawn.document).below) ≡ cuts (drawn.document).below = length-intervals [] 0 (drawn.document).below in
    let long : length parts ≡ length (parts_of drawn.document) = length_permutation (parts_of drawn.document) parts drawn.parts_are in
    let few : cuts (drawn.document).below ≤ nodes (forest (drawn.document).below) = cuts-nodes k (drawn.document).below drawn.light in
    let same : nodes (forest (drawn.document).below) ≡ nodes tree.below = ap (λ (t : OrderedTree). nodes t.below) drawn.tree_is in
    omega (arith, root, counted, long, few, same)

pub no_heavy : (k : ℕ) (tree : OrderedTree) (parts : List Interval) → IsFeasible k tree parts → heavy_fault k tree ≡ None
no_heavy k tree parts feasible = ap (λ o. option_map (λ heavy. TooHeavy heavy.0 heavy.1) (option_map weighed o)) (light_none k tree (feasible_light k tree parts feasible))

-- what is under a name that was just put there
pub get_there : {X : Type 0} (m : FinMap name_order X) (name : List ℕ) (v : X) → get (insert m name v) name ≡ Some v
get_there m name v = get-insert nat_list_cmp_total m name v name ∙ ap (λ o. cond (is_eq o) (Some v) (get m name)) (tied_itself nat_list_cmp_total name)

-- there is nothing
pub is_nothing : {T : Type 0} (o : Option T) → is_some o ≡ false → o ≡ None
is_nothing None is = refl
is_nothing (Some x) is = absurd (false≢true (sym is))

-- the name is new, so the lines decide
pub new_step : (state : State) (name : List ℕ) (body : LoadBody) (r : Reply) (next : State) → get state.documents name ≡ None → BodyStep state name body r next → Step state (Load name body) r next
new_step state name body r next none step = load_case state name body r next (subst (λ o. MatchBool (is_some o) (Refuses state Exists r next) (BodyStep state name body r next)) (sym none) step)

pub light_step : (state : State) (name : List ℕ) (tree : OrderedTree) (r : Reply) (next : State) → heavy_fault (state.settings).k tree ≡ None
    → Loads state name tree r next ⊎ (MayNotFit state tree × Refuses state Full r next) → BodyStep state name (Read tree) r next
light_step state name tree r next light step =
    subst (λ o. MatchOption o (Loads state name tree r next ⊎ (MayNotFit state tree × Refuses state Full r next)) (λ error. Refuses state error r next)) (sym light) step

pub heavy_step : (state : State) (name : List ℕ) (tree : OrderedTree) (path : List ℕ) (slots : ℕ) → option_map weighed (first_heavy (state.settings).k tree) ≡ Some (path, slots)
    → BodyStep state name (Read tree) (reply.Refused (TooHeavy path slots)) state
heavy_step state name tree path slots heavy =
    let r = reply.Refused (TooHeavy path slots) in
    subst (λ o. MatchOption o (Loads state name tree r state ⊎ (MayNotFit state tree × Refuses state Full r state)) (λ error. Refuses state error r state))
    (sym (ap (option_map (λ (found : List ℕ × ℕ). TooHeavy found.0 found.1)) heavy)) (refl, refl)
