-- What clap makes of operands, by a command with a store, a command and any number of arguments.
use Rattle.std.proofs.Common.{◌≡◌, ◌∙◌, ◌&&◌, refl, sym, ap, ap₂, arith, ℕ, ◌≤◌, Bool, true, false, not, codes, List, [], ◌∷◌, ◌++◌, length, Option, Some, None, drop, fold, map, option_map, unwrap_or, is_some, append_assoc, append-nil}
use Rattle.std.specs.Prelude.{◌==◌, ◌||◌, IsSome, IsSomeAnd, if◌then◌else◌, option_and_then, slice_get}
use Rattle.std.specs.Borrow.{Bor}
use Rattle.std.specs.List.{list_all}
use Rattle.std.specs.Option.{option_map_or}
use Rattle.std.specs.Str.{bytes_eq}
use Rattle.std.proofs.Math.Dec.{leb-zero}
use Rattle.std.proofs.lemmas.Bool.{le-leb}
use Rattle.clap.specs.Lexer.{long_of, long_of_rest, short_of, short_of_rest, strip_byte, usize_max}
use Rattle.clap.specs.Walk.{Held, Row, Rule, Step, Text, Waiting, Walk, after_step, all_of, arg_by_index, finished, first_of, idle, long_or_other, nothing_held, plain_word, positional, rows_of, rule_of, settled, short_or_plain, subcommand_or_other, trailing, walk, walk_from, walked}
use Rattle.clap.specs.declared.builder.command.Command.TheViews.{out-Command as fields_of}
use Rattle.clap.specs.Words.{AddsArg, first_value, matched_of, raw_values}
use Rattle.clap.specs.Simple.{App, Shape, app_of, app_of_fields, built, entered, is_simple, matches_of, new_app, new_rule, new_shape, with_rule}
use Rattle.clap.proofs.WalkLemmas.{first_value-rows, raw_values-rows}
use Rattle.clap.specs.declared.builder.arg.Arg.{Arg}
use Rattle.clap.specs.declared.builder.range.ValueRange.{ValueRange}
use Rattle.clap.specs.declared.builder.command.Command.{Command}
use Rattle.clap.specs.declared.builder.command.Command.TheOpen.{Command-F}
use Rattle.clap.specs.declared.parser.matches.Found.{Found}
use Rattle.clap.specs.Takes.{bundle_passes, default_passes, entered_passes, flag_word_passes, is_valid, other_passes, settle_passes, step_passes, takes, turn_passes, value_passes, values_pass, walk_passes}
use Rattle.nx_words.specs.Operands.{is_operand, are_operands}

-- The command:

abbrev pub store_rule : Rule
store_rule = record (new_rule (codes "STORE")) { required = true }

abbrev pub command_rule : Rule
command_rule = record (new_rule (codes "COMMAND")) { required = true }

abbrev pub any_number : ValueRange
any_number = record { start_inclusive = 0; end_inclusive = usize_max }

abbrev pub argument_rule : Rule
argument_rule = record (new_rule (codes "ARG")) { range = Some any_number }

abbrev pub bare_natix : App
bare_natix = record (new_app (codes "natix")) { top = record (new_shape (codes "natix")) { no_binary_name = true; disable_help_flag = true } }

abbrev pub natix : App
natix = with_rule (with_rule (with_rule bare_natix store_rule) command_rule) argument_rule

pub natix_is_simple : is_simple natix ≡ true
natix_is_simple = refl

-- ... and how it is made
settings_are : (made bare plain : Command) → app_of made ≡ new_app (codes "natix") → fields_of bare ≡ record (fields_of made) { no_binary_name = true }
    → fields_of plain ≡ record (fields_of bare) { disable_help_flag = true } → app_of plain ≡ bare_natix
settings_are made bare plain new first second =
    ap app_of_fields second ∙ ap (λ (f : Command-F Command). app_of_fields (record f { disable_help_flag = true })) first
    ∙ ap (λ (a : App). record a { top = record a.top { no_binary_name = true; disable_help_flag = true } }) new

pub required_rule : (a b : Arg) (id : Text) → b ≡ record a { required = true } → rule_of a ≡ new_rule id → rule_of b ≡ record (new_rule id) { required = true }
required_rule a b id is new = ap rule_of is ∙ ap (λ (r : Rule). record r { required = true }) new

some_is : (o : Option ValueRange) (range : ValueRange) → IsSomeAnd o (λ r. r ≡ range) → o ≡ Some range
some_is None range is = absurd is
some_is (Some r) range is = ap Some is

pub ranged_rule : (a b : Arg) (id : Text) (range : ValueRange) → b ≡ record a { num_vals = b.num_vals } → IsSomeAnd b.num_vals (λ r. r ≡ range) → rule_of a ≡ new_rule id
    → rule_of b ≡ record (new_rule id) { range = Some range }
ranged_rule a b id range is ranged new =
    ap rule_of is ∙ ap₂ (λ (r : Rule) (n : Option ValueRange). record r { range = n }) new (some_is b.num_vals range ranged)

pub made_so : (made bare plain one two three : Command) (store command argument : Arg) → app_of made ≡ new_app (codes "natix")
    → fields_of bare ≡ record (fields_of made) { no_binary_name = true } → fields_of plain ≡ record (fields_of bare) { disable_help_flag = true }
    → (store.global ≡ false) × (rule_of store ≡ store_rule) → (command.global ≡ false) × (rule_of command ≡ command_rule)
    → (argument.global ≡ false) × (rule_of argument ≡ argument_rule)
    → AddsArg plain store one → AddsArg one command two → AddsArg two argument three → app_of three ≡ natix
made_so made bare plain one two three store command argument new first second (store_alone, store_is) (command_alone, command_is) (argument_alone, argument_is) adds_store adds_command adds_argument =
    let first_rule = adds_store.shape store_alone ∙ ap₂ with_rule (settings_are made bare plain new first second) store_is in
    let second_rule = adds_command.shape command_alone ∙ ap₂ with_rule first_rule command_is in
    adds_argument.shape argument_alone ∙ ap₂ with_rule second_rule argument_is

-- as it is built, and its positionals
abbrev top : Shape
top = (built natix).top

abbrev positionals : List Rule
positionals = top.rules

-- The walk over the words:

no_hyphen : (b : ℕ) (bytes : Text) → is_operand (b ∷ bytes) ≡ true → (b == 45) ≡ false
no_hyphen b bytes operand = go (b == 45) operand
  where
    go : (t : Bool) → not t ≡ true → t ≡ false
    go false is = refl
    go true is = sym is

both : (a b : Bool) → (a && b) ≡ true → (a ≡ true) × (b ≡ true)
both true b e = (refl, e)
both false b e = absurd (let wrong : false ≡ true = e in cc)

-- the walk stands behind the store; behind the command; behind these arguments
abbrev at_store : Text → Walk
at_store store = record {
  held = record { rows = []; pending = Some (codes "STORE", store ∷ []); skip = 0 };
  waiting = idle;
  position = 2;
  is_trailing = false;
  stopped = None;
}

abbrev store_rows : Text → List Row
store_rows store = (settled positionals (at_store store).held).rows

abbrev at_command : Text → Text → Walk
at_command store command = record {
  held = record { rows = store_rows store; pending = Some (codes "COMMAND", command ∷ []); skip = 0 };
  waiting = idle;
  position = 3;
  is_trailing = false;
  stopped = None;
}

abbrev command_rows : Text → Text → List Row
command_rows store command = (settled positionals (at_command store command).held).rows

abbrev at_arguments : Text → Text → List Text → Walk
at_arguments store command arguments = record {
  held = record { rows = command_rows store command; pending = Some (codes "ARG", arguments); skip = 0 };
  waiting = positional;
  position = 3;
  is_trailing = false;
  stopped = None;
}

abbrev at_end : Text → Text → List Text → Walk
at_end store command [] = at_command store command
at_end store command (argument ∷ arguments) = at_arguments store command (argument ∷ arguments)

-- an operand is no flag
no_dashes : (word : Text) → is_operand word ≡ true → bytes_eq word (45 ∷ 45 ∷ []) ≡ false
no_dashes [] operand = refl
no_dashes (b ∷ bytes) operand = rw (no_hyphen b bytes operand) refl

no_long : (word : Text) → is_operand word ≡ true → long_of word ≡ None
no_long [] operand = refl
no_long (b ∷ bytes) operand =
    ap (λ t. option_and_then long_of_rest (option_and_then (strip_byte 45) (if t then Some bytes else None))) (no_hyphen b bytes operand)

no_short : (word : Text) → is_operand word ≡ true → short_of word ≡ None
no_short [] operand = refl
no_short (b ∷ bytes) operand = ap (λ t. option_and_then short_of_rest (if t then Some bytes else None)) (no_hyphen b bytes operand)

plain_is : (waiting : Waiting) (position : ℕ) (word : Text) (h : Held) → is_operand word ≡ true
    → subcommand_or_other positionals None waiting position word h ≡ plain_word positionals waiting word h
plain_is waiting position word h operand =
    ap (λ t. if t then (h, trailing position) else long_or_other positionals waiting word (long_of word) h) (no_dashes word operand)
    ∙ ap (λ o. long_or_other positionals waiting word o h) (no_long word operand)
    ∙ ap (λ o. short_or_plain positionals waiting word o h) (no_short word operand)

passes_plain : (word : Text) (h : Held) → is_operand word ≡ true → other_passes top None word h ≡ true
passes_plain word h operand =
    ap (λ t. t || flag_word_passes positionals top.args_override_self (long_of word) word h) (no_dashes word operand)
    ∙ ap (λ o. flag_word_passes positionals top.args_override_self o word h) (no_long word operand)
    ∙ ap (λ o. option_map_or (λ flags. bundle_passes positionals top.args_override_self flags h) o true) (no_short word operand)

to_store : (store : Text) → is_operand store ≡ true → walked positionals [] (walk_from nothing_held) store ≡ at_store store
unfolding walked
to_store store operand = ap (λ (met : Held × Step). after_step positionals store (walk_from nothing_held) met.0 met.1) (plain_is idle 1 store nothing_held operand)

to_command : (store command : Text) → is_operand command ≡ true → walked positionals [] (at_store store) command ≡ at_command store command
unfolding walked
to_command store command operand =
    ap (λ (met : Held × Step). after_step positionals command (at_store store) met.0 met.1) (plain_is idle 2 command (at_store store).held operand)

to_argument : (store command argument : Text) → is_operand argument ≡ true → walked positionals [] (at_command store command) argument ≡ at_arguments store command (argument ∷ [])
unfolding walked
to_argument store command argument operand =
    ap (λ (met : Held × Step). after_step positionals argument (at_command store command) met.0 met.1) (plain_is idle 3 argument (at_command store command).held operand)

to_next : (store command : Text) (seen : List Text) (argument : Text) → is_operand argument ≡ true
    → walked positionals [] (at_arguments store command seen) argument ≡ at_arguments store command (seen ++ argument ∷ [])
unfolding walked
to_next store command seen argument operand =
    ap (λ (met : Held × Step). after_step positionals argument (at_arguments store command seen) met.0 met.1)
    (plain_is positional 3 argument (at_arguments store command seen).held operand)

-- the walk over arguments, where some were seen
along : (store command : Text) (seen arguments : List Text) → list_all is_operand arguments ≡ true
    → fold (walked positionals []) (at_arguments store command seen) arguments ≡ at_arguments store command (seen ++ arguments)
along store command seen [] operands = ap (at_arguments store command) (sym (append-nil seen))
along store command seen (argument ∷ arguments) operands =
    let (first, others) = both (is_operand argument) (list_all is_operand arguments) operands in
    ap (λ (w : Walk). fold (walked positionals []) w arguments) (to_next store command seen argument first)
    ∙ along store command (seen ++ argument ∷ []) arguments others
    ∙ ap (at_arguments store command) (append_assoc seen (argument ∷ []) arguments)

from_command : (store command : Text) (arguments : List Text) → list_all is_operand arguments ≡ true
    → fold (walked positionals []) (at_command store command) arguments ≡ at_end store command arguments
from_command store command [] operands = refl
from_command store command (argument ∷ arguments) operands =
    let (first, others) = both (is_operand argument) (list_all is_operand arguments) operands in
    ap (λ (w : Walk). fold (walked positionals []) w arguments) (to_argument store command argument first) ∙ along store command (argument ∷ []) arguments others

-- the walk over operands
walk_is : (store command : Text) (arguments : List Text) → list_all is_operand (store ∷ command ∷ arguments) ≡ true
    → walk positionals [] nothing_held (store ∷ command ∷ arguments) ≡ at_end store command arguments
walk_is store command arguments operands =
    let (first, behind) = both (is_operand store) (list_all is_operand (command ∷ arguments)) operands in
    let (second, others) = both (is_operand command) (list_all is_operand arguments) behind in
    ap (λ (w : Walk). fold (walked positionals []) (walked positionals [] w command) arguments) (to_store store first)
    ∙ ap (λ (w : Walk). fold (walked positionals []) w arguments) (to_command store command second)
    ∙ from_command store command arguments others

-- Each word passes:

turn_passes_store : (store : Text) → is_operand store ≡ true → turn_passes top [] (walk_from nothing_held) store ≡ true
turn_passes_store store operand =
    ap₂ (λ (p : Bool) (met : Held × Step). p && step_passes top 1 met.0 met.1) (passes_plain store nothing_held operand) (plain_is idle 1 store nothing_held operand)

turn_passes_command : (store command : Text) → is_operand command ≡ true → turn_passes top [] (at_store store) command ≡ true
turn_passes_command store command operand =
    ap₂ (λ (p : Bool) (met : Held × Step). p && step_passes top 2 met.0 met.1) (passes_plain command (at_store store).held operand)
    (plain_is idle 2 command (at_store store).held operand)

turn_passes_argument : (store command argument : Text) → is_operand argument ≡ true → turn_passes top [] (at_command store command) argument ≡ true
turn_passes_argument store command argument operand =
    ap₂ (λ (p : Bool) (met : Held × Step). p && step_passes top 3 met.0 met.1) (passes_plain argument (at_command store command).held operand)
    (plain_is idle 3 argument (at_command store command).held operand)

turn_passes_next : (store command : Text) (seen : List Text) (argument : Text) → is_operand argument ≡ true → turn_passes top [] (at_arguments store command seen) argument ≡ true
turn_passes_next store command seen argument operand =
    ap₂ (λ (p : Bool) (met : Held × Step). p && step_passes top 3 met.0 met.1) (passes_plain argument (at_arguments store command seen).held operand)
    (plain_is positional 3 argument (at_arguments store command seen).held operand)

-- one word passes, and those behind it
one_more : (w next : Walk) (word : Text) (words : List Text) → turn_passes top [] w word ≡ true → walked positionals [] w word ≡ next → walk_passes top [] next words ≡ true
    → walk_passes top [] w (word ∷ words) ≡ true
unfolding walk_passes
one_more w next word words turn is behind = ap₂ (λ (p : Bool) (v : Walk). p && walk_passes top [] v words) turn is ∙ behind

none_left : (w : Walk) → walk_passes top [] w [] ≡ true
unfolding walk_passes
none_left w = refl

along_passes : (store command : Text) (seen arguments : List Text) → list_all is_operand arguments ≡ true → walk_passes top [] (at_arguments store command seen) arguments ≡ true
along_passes store command seen [] operands = none_left (at_arguments store command seen)
along_passes store command seen (argument ∷ arguments) operands =
    let (first, others) = both (is_operand argument) (list_all is_operand arguments) operands in
    one_more (at_arguments store command seen) (at_arguments store command (seen ++ argument ∷ [])) argument arguments
    (turn_passes_next store command seen argument first) (to_next store command seen argument first)
    (along_passes store command (seen ++ argument ∷ []) arguments others)

from_command_passes : (store command : Text) (arguments : List Text) → list_all is_operand arguments ≡ true → walk_passes top [] (at_command store command) arguments ≡ true
from_command_passes store command [] operands = none_left (at_command store command)
from_command_passes store command (argument ∷ arguments) operands =
    let (first, others) = both (is_operand argument) (list_all is_operand arguments) operands in
    one_more (at_command store command) (at_arguments store command (argument ∷ [])) argument arguments
    (turn_passes_argument store command argument first) (to_argument store command argument first)
    (along_passes store command (argument ∷ []) arguments others)

walk_passes_all : (store command : Text) (arguments : List Text) → list_all is_operand (store ∷ command ∷ arguments) ≡ true
    → walk_passes top [] (walk_from nothing_held) (store ∷ command ∷ arguments) ≡ true
walk_passes_all store command arguments operands =
    let (first, behind) = both (is_operand store) (list_all is_operand (command ∷ arguments)) operands in
    let (second, others) = both (is_operand command) (list_all is_operand arguments) behind in
    one_more (walk_from nothing_held) (at_store store) store (command ∷ arguments) (turn_passes_store store first) (to_store store first)
    (one_more (at_store store) (at_command store command) command arguments (turn_passes_command store command second) (to_command store command second)
    (from_command_passes store command arguments others))

-- any text is a value
values_pass_any : (rule : Rule) (values : List Text) → ((value : Text) → value_passes rule value ≡ true) → values_pass rule values ≡ true
values_pass_any rule [] each = refl
values_pass_any rule (value ∷ values) each = rw (each value) (values_pass_any rule values each)

-- the arguments are no more than one use takes
abbrev built_argument : Rule
built_argument = unwrap_or (arg_by_index positionals 3) argument_rule

settle_passes_end : (store command : Text) (arguments : List Text) → length arguments ≤ usize_max
    → settle_passes positionals top.args_override_self (at_end store command arguments).held ≡ true
settle_passes_end store command [] few = refl
settle_passes_end store command (argument ∷ arguments) few =
    rw (leb-zero (length (argument ∷ arguments)), le-leb (length (argument ∷ arguments)) usize_max few, values_pass_any built_argument arguments (λ value. refl)) refl

is_valid_end : (store command : Text) (arguments : List Text) → is_valid top (finished positionals (at_end store command arguments).held) false ≡ true
is_valid_end store command [] = refl
is_valid_end store command (argument ∷ arguments) = refl

stopped_end : (store command : Text) (arguments : List Text) → (at_end store command arguments).stopped ≡ None
stopped_end store command [] = refl
stopped_end store command (argument ∷ arguments) = refl

-- what `takes` asks, at the end of a walk
abbrev ends_well : Walk → Bool → Bool
ends_well w each =
    let stop = w.stopped in
    entered_passes (built natix) stop
    && (each && (settle_passes positionals top.args_override_self w.held
    && (list_all default_passes positionals && is_valid top (finished positionals w.held) (is_some (entered (built natix) stop)))))

ends_well_at : (store command : Text) (arguments : List Text) → length arguments ≤ usize_max → ends_well (at_end store command arguments) true ≡ true
ends_well_at store command arguments few =
    rw (stopped_end store command arguments, settle_passes_end store command arguments few, is_valid_end store command arguments) refl

-- clap takes operands
pub takes_operands : (store command : Text) (arguments : List Text) → list_all is_operand (store ∷ command ∷ arguments) ≡ true → length arguments ≤ usize_max
    → takes natix (store ∷ command ∷ arguments) ≡ true
takes_operands store command arguments operands few =
    ap₂ ends_well (walk_is store command arguments operands) (walk_passes_all store command arguments operands) ∙ ends_well_at store command arguments few

-- and finds the store, the command and the arguments

abbrev found_rows : Walk → List Row
found_rows w = finished positionals w.held

rows_are : (store command : Text) (arguments : List Text) → list_all is_operand (store ∷ command ∷ arguments) ≡ true
    → matches_of natix (store ∷ command ∷ arguments) ≡ found_rows (at_end store command arguments)
rows_are store command arguments operands = ap found_rows (walk_is store command arguments operands)

store_in : (store command : Text) (arguments : List Text) → first_of (codes "STORE") (found_rows (at_end store command arguments)) ≡ Some store
store_in store command [] = refl
store_in store command (argument ∷ arguments) = refl

command_in : (store command : Text) (arguments : List Text) → first_of (codes "COMMAND") (found_rows (at_end store command arguments)) ≡ Some command
command_in store command [] = refl
command_in store command (argument ∷ arguments) = refl

arguments_in : (store command : Text) (arguments : List Text) → unwrap_or (all_of (codes "ARG") (found_rows (at_end store command arguments))) [] ≡ arguments
arguments_in store command [] = refl
arguments_in store command (argument ∷ arguments) = refl

-- what a parse finds
pub record Finds (found : Found) (words : List Text) : Type 0 where
  pub store : first_value found (codes "STORE") ≡ slice_get words 0
  pub command : first_value found (codes "COMMAND") ≡ slice_get words 1
  pub arguments : unwrap_or (option_map raw_values (matched_of found (codes "ARG"))) [] ≡ drop 2 words

pub finds : (found : Found) (words : List Text) → are_operands words ≡ true → rows_of found ≡ matches_of natix words → Finds found words
finds found [] operands is = absurd (let wrong : false ≡ true = operands in cc)
finds found (store ∷ []) operands is = absurd (let wrong : false ≡ true = operands in cc)
finds found (store ∷ command ∷ arguments) operands is =
    let rows = is ∙ rows_are store command arguments (both _ _ operands).1 in
    record {
      store = first_value-rows found (codes "STORE") ∙ ap (first_of (codes "STORE")) rows ∙ store_in store command arguments;
      command = first_value-rows found (codes "COMMAND") ∙ ap (first_of (codes "COMMAND")) rows ∙ command_in store command arguments;
      arguments = ap (λ o. unwrap_or o []) (raw_values-rows found (codes "ARG")) ∙ ap (λ (r : List Row). unwrap_or (all_of (codes "ARG") r) []) rows
          ∙ arguments_in store command arguments;
    }

pub takes_words : (words : List Text) → are_operands words ≡ true → length words ≤ usize_max → takes natix words ≡ true
takes_words [] operands few = absurd (let wrong : false ≡ true = operands in cc)
takes_words (store ∷ []) operands few = absurd (let wrong : false ≡ true = operands in cc)
takes_words (store ∷ command ∷ arguments) operands few = takes_operands store command arguments (both _ _ operands).1 (omega arith)

-- What is made of what a parse finds:

-- there are two words at least
two_of : (words : List Text) → are_operands words ≡ true → (store : Text) × (command : Text) × (arguments : List Text) × (words ≡ store ∷ command ∷ arguments)
two_of [] operands = absurd (let wrong : false ≡ true = operands in cc)
two_of (store ∷ []) operands = absurd (let wrong : false ≡ true = operands in cc)
two_of (store ∷ command ∷ arguments) operands = (store, command, arguments, refl)

is_some_at : (o : Option (Bor Text)) (t : Text) → option_map (λ s. s.now) o ≡ Some t → IsSome o
is_some_at None t is = absurd (let wrong : ◌≡◌ {A = Option Text} None (Some t) = is in cc)
is_some_at (Some s) t is = refl

pub store_found : (words : List Text) (o : Option (Bor Text)) → are_operands words ≡ true → option_map (λ s. s.now) o ≡ slice_get words 0 → IsSome o
store_found words o operands is =
    let (store, command, arguments, same) = two_of words operands in
    is_some_at o store (is ∙ ap (λ (w : List Text). slice_get w 0) same)

pub command_found : (words : List Text) (o : Option (Bor Text)) → are_operands words ≡ true → option_map (λ s. s.now) o ≡ slice_get words 1 → IsSome o
command_found words o operands is =
    let (store, command, arguments, same) = two_of words operands in
    is_some_at o command (is ∙ ap (λ (w : List Text). slice_get w 1) same)

-- the texts of arguments, none where none were found
pub arguments_found : (o : Option (Bor (List (Bor Text)))) (none : Bor (List (Bor Text))) → none.now ≡ []
    → map (λ s. s.now) (unwrap_or o none).now ≡ unwrap_or (option_map (λ s. map (λ v. v.now) s.now) o) []
arguments_found None none is = ap (map (λ s. s.now)) is
arguments_found (Some s) none is = refl

pub words_are : (words : List Text) (store command : Bor Text) (arguments : List (Bor Text)) → are_operands words ≡ true
    → Some store.now ≡ slice_get words 0 → Some command.now ≡ slice_get words 1 → map (λ s. s.now) arguments ≡ drop 2 words
    → words ≡ store.now ∷ command.now ∷ map (λ s. s.now) arguments
words_are [] store command arguments operands first second others = absurd (let wrong : false ≡ true = operands in cc)
words_are (s ∷ []) store command arguments operands first second others = absurd (let wrong : false ≡ true = operands in cc)
words_are (s ∷ c ∷ rest) store command arguments operands first second others =
    let one : Some store.now ≡ Some s = first in
    let two : Some command.now ≡ Some c = second in
    let more : map (λ (a : Bor Text). a.now) arguments ≡ rest = others in
    cc
