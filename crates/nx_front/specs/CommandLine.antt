-- The command line: which words are one, and for what.
use Rattle.std.specs.Prelude.{ℕ, ◌/◌, ◌^◌, ◌<◌, ◌≤◌, Bool, true, false, not, ◌&&◌, ◌||◌, ◌==◌, eqb, nat_le, if◌then◌else◌, List, [], ◌∷◌, length, Option, None, Some, codes}
use Rattle.std.specs.List.{ends_with, list_all}
use Rattle.std.specs.Str.{bytes_eq}
use Rattle.std.specs.Option.{option_map}
use Rattle.nx_tree.specs.Document.{is_empty}
use Rattle.nx_pyx.specs.Field.{begins_with, is_digit, is_position, value_of}
use Rattle.nx_records.specs.Words.{most_pages, Settings, AreSettings}
use Rattle.nx_ship.specs.declared.error.Start.{Start}
use Rattle.nx_ship.specs.declared.error.Start.TheVariants.{All, Number}
use Rattle.nx_front.specs.declared.words.CommandLine.{CommandLine}
use Rattle.nx_front.specs.declared.words.CommandLine.TheVariants.{Tidy, Run, Plan, Verify, Init, Gen, Check, Find, Ship, Apply, Ask}

-- a word that may name a store: it isn't empty, and doesn't begin with a hyphen
abbrev pub is_store : List ℕ → Bool
is_store [] = false
is_store (b ∷ bytes) = not (b == 45)

-- a word that ends as the name of a log does, so that it may be the log of another store
abbrev pub is_log_name : List ℕ → Bool
is_log_name word = ends_with eqb word (codes ".log")

-- a word that names a store that is used: not a low line, which stands for none, and not the name of a log
abbrev pub is_named_store : List ℕ → Bool
is_named_store store = is_store store && not (bytes_eq store (codes "_")) && not (is_log_name store)

-- a decimal in this range, without a leading zero
abbrev pub is_within : ℕ → ℕ → List ℕ → Bool
is_within least most digits = is_position digits && nat_le least (value_of digits) && nat_le (value_of digits) most

-- bytes, at least one, without a plus before them and without a leading zero before others
abbrev pub has_plain_start : List ℕ → Bool
has_plain_start digits = not (is_empty digits) && (not (begins_with 48 digits) || length digits == 1) && not (begins_with 43 digits)

-- a decimal of the number of a group, without a leading zero
abbrev pub is_group_number : List ℕ → Bool
is_group_number digits =
    not (is_empty digits) && (not (begins_with 48 digits) || length digits == 1) && list_all is_digit digits && nat_le (value_of digits) 18446744073709551615

-- a decimal of a weight that parts may have at most
abbrev pub is_weight_limit : List ℕ → Bool
is_weight_limit digits = is_within 1 256 digits

-- a decimal of a seed of generated commands, and one of the number of elements of their document
abbrev pub is_seed : List ℕ → Bool
is_seed digits = is_within 0 2147483647 digits

abbrev pub is_element_count : List ℕ → Bool
is_element_count digits = is_within 1 100000 digits

-- where splits aim, in percent, how far they may miss that, in slots, and how many pages there may be
abbrev pub is_target : List ℕ → Bool
is_target digits = is_within 0 100 digits

abbrev pub is_tolerance : List ℕ → Bool
is_tolerance digits = is_within 0 256 digits

abbrev pub is_page_limit : List ℕ → Bool
is_page_limit digits = is_within 64 most_pages digits

-- the settings where the words say alone what a part weighs at most: the target is in the middle, the tolerance a quarter of that weight, rounded down, and
-- the limit of pages the greatest that there is
abbrev pub usual_settings : ℕ → Settings
usual_settings k = record { k = k; target = 50; tolerance = k / 4; limit = most_pages }

-- the settings that these words say: what a part weighs at most, and then a target, a tolerance and a limit of pages, each of which may be left out with those
-- behind it
abbrev pub settings_said : List (List ℕ) → Option Settings
settings_said (k ∷ []) = if is_weight_limit k then Some (usual_settings (value_of k)) else None
settings_said (k ∷ target ∷ []) =
    if is_weight_limit k && is_target target then Some (record (usual_settings (value_of k)) { target = value_of target }) else None
settings_said (k ∷ target ∷ tolerance ∷ []) =
    if is_weight_limit k && is_target target && is_tolerance tolerance
    then Some (record (usual_settings (value_of k)) { target = value_of target; tolerance = value_of tolerance })
    else None
settings_said (k ∷ target ∷ tolerance ∷ limit ∷ []) =
    if is_weight_limit k && is_target target && is_tolerance tolerance && is_page_limit limit
    then Some (record { k = value_of k; target = value_of target; tolerance = value_of tolerance; limit = value_of limit })
    else None
settings_said _ = None

-- a store and `tidy`, whatever the store, or a store that is used and `run`, `check`, `find` or `apply`
abbrev pub command_of_two : List ℕ → List ℕ → Option CommandLine
command_of_two store command =
    if is_store store && bytes_eq command (codes "tidy") then Some Tidy
    else if is_named_store store && bytes_eq command (codes "run") then Some Run
    else if is_named_store store && bytes_eq command (codes "check") then Some Check
    else if is_named_store store && bytes_eq command (codes "find") then Some Find
    else if is_named_store store && bytes_eq command (codes "apply") then Some Apply
    else None

-- where shipping begins: with all pages, or with a group's number
abbrev pub start_said : List ℕ → Option Start
start_said word = if bytes_eq word (codes "all") then Some All else if is_group_number word then Some (Number (value_of word)) else None

-- a store that is used, `ship`, and where it begins
abbrev pub command_of_ship : List ℕ → List ℕ → Option CommandLine
command_of_ship store word = if is_named_store store then option_map Ship (start_said word) else None

-- a decimal of a number of workers
abbrev pub are_workers : List ℕ → Bool
are_workers digits = is_within 1 64 digits

-- a store that is used, `ask`, and by how many workers
abbrev pub command_of_ask : List ℕ → List ℕ → Option CommandLine
command_of_ask store word = if is_named_store store && are_workers word then Some (Ask (value_of word)) else None

-- a store and `plan` or `verify`, whatever the store, and what a part weighs at most
abbrev pub command_of_limit : List ℕ → List ℕ → List ℕ → Option CommandLine
command_of_limit store command limit =
    if is_store store && bytes_eq command (codes "plan") && is_weight_limit limit then Some (Plan (value_of limit))
    else if is_store store && bytes_eq command (codes "verify") && is_weight_limit limit then Some (Verify (value_of limit))
    else None

-- one of these, of three words
abbrev pub command_of_three : List ℕ → List ℕ → List ℕ → Option CommandLine
command_of_three store command word =
    if bytes_eq command (codes "ship") then command_of_ship store word
    else if bytes_eq command (codes "ask") then command_of_ask store word
    else command_of_limit store command word

-- a store that is used, `gen`, a seed and a number
abbrev pub command_of_four : List ℕ → List ℕ → List ℕ → List ℕ → Option CommandLine
command_of_four store command seed number =
    if is_named_store store && bytes_eq command (codes "gen") && is_seed seed && is_element_count number then Some (Gen (value_of seed) (value_of number)) else None

-- a store that is used, `init`, and the settings that it is made with
abbrev pub command_of_init : List ℕ → List (List ℕ) → Option CommandLine
command_of_init store words = if is_named_store store then option_map Init (settings_said words) else None

-- behind any command but `init`
abbrev pub command_line_of : List ℕ → List ℕ → List (List ℕ) → Option CommandLine
command_line_of store command [] = command_of_two store command
command_line_of store command (limit ∷ []) = command_of_three store command limit
command_line_of store command (seed ∷ number ∷ []) = command_of_four store command seed number
command_line_of store command _ = None

abbrev pub command_line : List (List ℕ) → Option CommandLine
command_line (store ∷ command ∷ words) = if bytes_eq command (codes "init") then command_of_init store words else command_line_of store command words
command_line _ = None

-- a command line that uses the store that it names: all but those that read a document and keep nothing
abbrev pub uses_store : CommandLine → Bool
uses_store Tidy = false
uses_store (Plan k) = false
uses_store (Verify k) = false
uses_store line = true

-- a word, where it is that of the store of a command line that uses one
abbrev pub store_used : List ℕ → Option CommandLine → Option (List ℕ)
store_used store None = None
store_used store (Some line) = if uses_store line then Some store else None

-- the word that names the store, where the words are a command line that uses one
abbrev pub named_store : List (List ℕ) → Option (List ℕ)
named_store [] = None
named_store (store ∷ words) = store_used store (command_line (store ∷ words))

-- the numbers that a command line says are in their ranges
abbrev pub IsLimited : CommandLine → Type 0
IsLimited (Plan k) = (1 ≤ k) × (k ≤ 256)
IsLimited (Verify k) = (1 ≤ k) × (k ≤ 256)
IsLimited (Init settings) = AreSettings settings
IsLimited (Gen seed n) = (seed < 2 ^ 31) × (1 ≤ n) × (n ≤ 100000)
IsLimited (Ask workers) = (1 ≤ workers) × (workers ≤ 64)
IsLimited _ = Unit {0}
