-- What a command line is made of: operands alone.
use Rattle.std.proofs.Common.{◌≡◌, ◌≢◌, ◌&&◌, ℕ, ◌+◌, ◌-◌, ◌*◌, ◌^◌, ◌<◌, ◌≤◌, fold, get_or, Result, Ok, Err, rules, Bool, true, false, not, nat_le, codes, List, [], ◌∷◌, length, map, Option, None, Some, refl, sym, ap, ap₂, ◌∙◌, subst, arith}
use Rattle.std.specs.Prelude.{◌==◌, ◌||◌, if◌then◌else◌}
use Rattle.std.specs.List.{list_all}
use Rattle.std.specs.Option.{option_map}
use Rattle.std.specs.Str.{bytes_eq}
use Rattle.std.proofs.lemmas.Bool.{le-leb, leb-true, ne_eqb, eq-eqb, eqb-true}
use Rattle.std.proofs.lemmas.Slice.Eq.{bytes_eq-Decides}
use Rattle.std.proofs.lemmas.Str.Parse.{IsNumeralModel, numerals_by_fold, parse_plain}
use Rattle.std.specs.Str.Parse.{ParsesUnsigned}
use Rattle.std.specs.Result.{OkIff}
use Rattle.nx_tree.specs.Document.{is_empty}
use Rattle.nx_pyx.specs.Field.{begins_with, greatest_position, is_digit, is_number, is_position, value_of}
use Rattle.nx_records.specs.Words.{Settings, most_pages}
use Rattle.nx_ship.specs.declared.error.Start.{Start}
use Rattle.nx_ship.specs.declared.error.Start.TheVariants.{All, Number}
use Rattle.nx_words.specs.Operands.{is_operand, are_operands}
use Rattle.nx_front.specs.declared.words.CommandLine.{CommandLine}
use Rattle.nx_front.specs.declared.words.CommandLine.TheVariants.{Tidy, Run, Plan, Verify, Init, Gen, Check, Find, Ship, Apply, Ask}
use Rattle.nx_front.specs.CommandLine.{is_store, is_log_name, is_named_store, is_within, is_weight_limit, has_plain_start, is_group_number, start_said, is_target, is_tolerance, is_page_limit, is_seed, is_element_count, settings_said, command_of_two, command_of_ship, are_workers, command_of_ask, command_of_limit, command_of_three, command_of_four, command_of_init, command_line_of, command_line}

both : (a b : Bool) → (a && b) ≡ true → (a ≡ true) × (b ≡ true)
both true b e = (refl, e)
both false b e = absurd (let wrong : false ≡ true = e in cc)

-- a choice that gives something: where its test holds, or what the other one gives
either : {X R : Type 0} (b : Bool) (x rest : Option X) (y : X) → (b ≡ true → R) → (rest ≡ Some y → R) → (if b then x else rest) ≡ Some y → R
either true x rest y first second is = first refl
either false x rest y first second is = second is

nothing : {X R : Type 0} (y : X) → ◌≡◌ {A = Option X} None (Some y) → R
nothing y is = absurd (cc)

-- the word of a store, of a command and of a number is an operand

store_is : (word : List ℕ) → is_store word ≡ true → is_operand word ≡ true
store_is [] is = is
store_is (b ∷ bytes) is = is

named_is : (word : List ℕ) → is_named_store word ≡ true → is_operand word ≡ true
named_is word is =
    let named : (is_store word && not (bytes_eq word (codes "_"))) ≡ true = (both (is_store word && not (bytes_eq word (codes "_"))) (not (is_log_name word)) is).0 in
    store_is word (both (is_store word) (not (bytes_eq word (codes "_"))) named).0

command_is : (word known : List ℕ) → is_operand known ≡ true → bytes_eq word known ≡ true → is_operand word ≡ true
command_is word known operand is = subst (λ (w : List ℕ). is_operand w ≡ true) (sym ((bytes_eq-Decides word known).0 is)) operand

digit_is : (b : ℕ) → is_digit b ≡ true → not (b == 45) ≡ true
digit_is b is =
    let least : 48 ≤ b = leb-true 48 b (both (nat_le 48 b) (nat_le b 57) is).0 in
    ap not (ne_eqb b 45 (λ same. absurd (omega arith)))

position_is : (word : List ℕ) → is_position word ≡ true → is_operand word ≡ true
position_is [] is = absurd (let wrong : false ≡ true = is in cc)
position_is (b ∷ bytes) is =
    let number : is_number (b ∷ bytes) ≡ true = (both (not (begins_with 48 (b ∷ bytes)) || length (b ∷ bytes) == 1) (is_number (b ∷ bytes)) is).1 in
    let digits : list_all is_digit (b ∷ bytes) ≡ true = (both (list_all is_digit (b ∷ bytes)) (nat_le (value_of (b ∷ bytes)) greatest_position) number).0 in
    digit_is b (both (is_digit b) (list_all is_digit bytes) digits).0

within_is : (least most : ℕ) (word : List ℕ) → is_within least most word ≡ true → is_operand word ≡ true
within_is least most word is =
    position_is word
    (both (is_position word) (nat_le least (value_of word)) (both (is_position word && nat_le least (value_of word)) (nat_le (value_of word) most) is).0).0

number_is : (word : List ℕ) → is_group_number word ≡ true → is_operand word ≡ true
number_is [] is = absurd (let wrong : false ≡ true = is in cc)
number_is (b ∷ bytes) is =
    let begins : Bool = not (begins_with 48 (b ∷ bytes)) || length (b ∷ bytes) == 1 in
    let (digits, low) = both (begins && list_all is_digit (b ∷ bytes)) (nat_le (value_of (b ∷ bytes)) 18446744073709551615) is in
    let (begun, all) = both begins (list_all is_digit (b ∷ bytes)) digits in
    digit_is b (both (is_digit b) (list_all is_digit bytes) all).0

-- lists of them

more : (word : List ℕ) (words : List (List ℕ)) → is_operand word ≡ true → list_all is_operand words ≡ true → list_all is_operand (word ∷ words) ≡ true
more word words first others = ap₂ (λ (a b : Bool). a && b) first others

operands : (store command : List ℕ) (arguments : List (List ℕ)) → is_operand store ≡ true → is_operand command ≡ true → list_all is_operand arguments ≡ true
    → are_operands (store ∷ command ∷ arguments) ≡ true
operands store command arguments first second others =
    ap₂ (λ (a b : Bool). a && b) (le-leb 2 (length (store ∷ command ∷ arguments)) (omega arith)) (more store (command ∷ arguments) first (more command arguments second others))

of_two : (store command : List ℕ) (line : CommandLine) → command_of_two store command ≡ Some line → are_operands (store ∷ command ∷ []) ≡ true
of_two store command line is =
    let named : (known : List ℕ) → is_operand known ≡ true → (is_named_store store && bytes_eq command known) ≡ true → are_operands (store ∷ command ∷ []) ≡ true = λ known operand t.
    let (s, c) = both (is_named_store store) (bytes_eq command known) t in
    operands store command [] (named_is store s) (command_is command known operand c) refl in
    either (is_store store && bytes_eq command (codes "tidy")) (Some Tidy)
    (if is_named_store store && bytes_eq command (codes "run") then Some Run else if is_named_store store && bytes_eq command (codes "check") then Some Check
    else if is_named_store store && bytes_eq command (codes "find") then Some Find else if is_named_store store && bytes_eq command (codes "apply") then Some Apply else None) line
    (λ t. let (s, c) = both (is_store store) (bytes_eq command (codes "tidy")) t in operands store command [] (store_is store s) (command_is command (codes "tidy") refl c) refl)
    (either (is_named_store store && bytes_eq command (codes "run")) (Some Run)
    (if is_named_store store && bytes_eq command (codes "check") then Some Check else if is_named_store store && bytes_eq command (codes "find") then Some Find
    else if is_named_store store && bytes_eq command (codes "apply") then Some Apply else None) line
    (named (codes "run") refl)
    (either (is_named_store store && bytes_eq command (codes "check")) (Some Check)
    (if is_named_store store && bytes_eq command (codes "find") then Some Find else if is_named_store store && bytes_eq command (codes "apply") then Some Apply else None) line
    (named (codes "check") refl)
    (either (is_named_store store && bytes_eq command (codes "find")) (Some Find) (if is_named_store store && bytes_eq command (codes "apply") then Some Apply else None) line
    (named (codes "find") refl)
    (either (is_named_store store && bytes_eq command (codes "apply")) (Some Apply) None line (named (codes "apply") refl) (nothing line))))) is

of_start : (word : List ℕ) (start : Start) → start_said word ≡ Some start → is_operand word ≡ true
of_start word start is =
    either (bytes_eq word (codes "all")) (Some All) (if is_group_number word then Some (Number (value_of word)) else None) start
    (λ t. command_is word (codes "all") refl t)
    (either (is_group_number word) (Some (Number (value_of word))) None start (λ t. number_is word t) (nothing start)) is

mapped_start : (o : Option Start) (line : CommandLine) → option_map Ship o ≡ Some line → (start : Start) × (o ≡ Some start)
mapped_start None line is = nothing line is
mapped_start (Some start) line is = (start, refl)

of_ship : (store command word : List ℕ) (line : CommandLine) → bytes_eq command (codes "ship") ≡ true → command_of_ship store word ≡ Some line
    → are_operands (store ∷ command ∷ word ∷ []) ≡ true
of_ship store command word line name is = go (is_named_store store) refl is
  where
    go : (b : Bool) → is_named_store store ≡ b → (if b then option_map Ship (start_said word) else None) ≡ Some line → are_operands (store ∷ command ∷ word ∷ []) ≡ true
    go false named said = nothing line said
    go true named said =
        let (start, are) = mapped_start (start_said word) line said in
        operands store command (word ∷ []) (named_is store named) (command_is command (codes "ship") refl name) (more word [] (of_start word start are) refl)

of_ask : (store command word : List ℕ) (line : CommandLine) → bytes_eq command (codes "ask") ≡ true → command_of_ask store word ≡ Some line
    → are_operands (store ∷ command ∷ word ∷ []) ≡ true
of_ask store command word line name is =
    either (is_named_store store && are_workers word) (Some (Ask (value_of word))) None line
    (λ t.
    let (s, w) = both (is_named_store store) (are_workers word) t in
    operands store command (word ∷ []) (named_is store s) (command_is command (codes "ask") refl name) (more word [] (within_is 1 64 word w) refl))
    (nothing line) is

of_limit : (store command limit : List ℕ) (line : CommandLine) → command_of_limit store command limit ≡ Some line → are_operands (store ∷ command ∷ limit ∷ []) ≡ true
of_limit store command limit line is =
    let said : (known : List ℕ) → is_operand known ≡ true → (is_store store && bytes_eq command known && is_weight_limit limit) ≡ true
    → are_operands (store ∷ command ∷ limit ∷ []) ≡ true = λ known operand t.
    let (two, k) = both (is_store store && bytes_eq command known) (is_weight_limit limit) t in
    let (s, c) = both (is_store store) (bytes_eq command known) two in
    operands store command (limit ∷ []) (store_is store s) (command_is command known operand c) (more limit [] (within_is 1 256 limit k) refl) in
    either (is_store store && bytes_eq command (codes "plan") && is_weight_limit limit) (Some (Plan (value_of limit)))
    (if is_store store && bytes_eq command (codes "verify") && is_weight_limit limit then Some (Verify (value_of limit)) else None) line
    (said (codes "plan") refl)
    (either (is_store store && bytes_eq command (codes "verify") && is_weight_limit limit) (Some (Verify (value_of limit))) None line
    (said (codes "verify") refl) (nothing line)) is

of_three : (store command word : List ℕ) (line : CommandLine) → command_of_three store command word ≡ Some line → are_operands (store ∷ command ∷ word ∷ []) ≡ true
of_three store command word line is = go (bytes_eq command (codes "ship")) (bytes_eq command (codes "ask")) refl refl is
  where
    go : (b c : Bool) → bytes_eq command (codes "ship") ≡ b → bytes_eq command (codes "ask") ≡ c
        → (if b then command_of_ship store word else if c then command_of_ask store word else command_of_limit store command word) ≡ Some line
        → are_operands (store ∷ command ∷ word ∷ []) ≡ true
    go true c name other said = of_ship store command word line name said
    go false true not_name name said = of_ask store command word line name said
    go false false not_name other said = of_limit store command word line said

of_four : (store command seed number : List ℕ) (line : CommandLine) → command_of_four store command seed number ≡ Some line
    → are_operands (store ∷ command ∷ seed ∷ number ∷ []) ≡ true
of_four store command seed number line is =
    either (is_named_store store && bytes_eq command (codes "gen") && is_seed seed && is_element_count number) (Some (Gen (value_of seed) (value_of number))) None line
    (λ t.
    let (three, n) = both (is_named_store store && bytes_eq command (codes "gen") && is_seed seed) (is_element_count number) t in
    let (two, k) = both (is_named_store store && bytes_eq command (codes "gen")) (is_seed seed) three in
    let (s, c) = both (is_named_store store) (bytes_eq command (codes "gen")) two in
    operands store command (seed ∷ number ∷ []) (named_is store s) (command_is command (codes "gen") refl c)
    (more seed (number ∷ []) (within_is 0 2147483647 seed k) (more number [] (within_is 1 100000 number n) refl)))
    (nothing line) is

of_settings : (words : List (List ℕ)) (settings : Settings) → settings_said words ≡ Some settings → list_all is_operand words ≡ true
of_settings [] settings is = nothing settings is
of_settings (k ∷ []) settings is = either (is_weight_limit k) _ None settings (λ t. more k [] (within_is 1 256 k t) refl) (nothing settings) is
of_settings (k ∷ target ∷ []) settings is =
    either (is_weight_limit k && is_target target) _ None settings
    (λ t.
    let (one, two) = both (is_weight_limit k) (is_target target) t in
    more k (target ∷ []) (within_is 1 256 k one) (more target [] (within_is 0 100 target two) refl))
    (nothing settings) is
of_settings (k ∷ target ∷ tolerance ∷ []) settings is =
    either (is_weight_limit k && is_target target && is_tolerance tolerance) _ None settings
    (λ t.
    let (first, three) = both (is_weight_limit k && is_target target) (is_tolerance tolerance) t in
    let (one, two) = both (is_weight_limit k) (is_target target) first in
    more k (target ∷ tolerance ∷ []) (within_is 1 256 k one)
    (more target (tolerance ∷ []) (within_is 0 100 target two) (more tolerance [] (within_is 0 256 tolerance three) refl)))
    (nothing settings) is
of_settings (k ∷ target ∷ tolerance ∷ limit ∷ []) settings is =
    either (is_weight_limit k && is_target target && is_tolerance tolerance && is_page_limit limit) _ None settings
    (λ t.
    let (second, four) = both (is_weight_limit k && is_target target && is_tolerance tolerance) (is_page_limit limit) t in
    let (first, three) = both (is_weight_limit k && is_target target) (is_tolerance tolerance) second in
    let (one, two) = both (is_weight_limit k) (is_target target) first in
    more k (target ∷ tolerance ∷ limit ∷ []) (within_is 1 256 k one)
    (more target (tolerance ∷ limit ∷ []) (within_is 0 100 target two)
    (more tolerance (limit ∷ []) (within_is 0 256 tolerance three) (more limit [] (within_is 64 most_pages limit four) refl))))
    (nothing settings) is
of_settings (k ∷ target ∷ tolerance ∷ limit ∷ word ∷ words) settings is = nothing settings is

mapped : (o : Option Settings) (line : CommandLine) → option_map Init o ≡ Some line → (settings : Settings) × (o ≡ Some settings)
mapped None line is = nothing line is
mapped (Some settings) line is = (settings, refl)

of_init : (store command : List ℕ) (words : List (List ℕ)) (line : CommandLine) → bytes_eq command (codes "init") ≡ true → command_of_init store words ≡ Some line
    → are_operands (store ∷ command ∷ words) ≡ true
of_init store command words line name is = go (is_named_store store) refl is
  where
    go : (b : Bool) → is_named_store store ≡ b → (if b then option_map Init (settings_said words) else None) ≡ Some line → are_operands (store ∷ command ∷ words) ≡ true
    go false named said = nothing line said
    go true named said =
        let (settings, are) = mapped (settings_said words) line said in
        operands store command words (named_is store named) (command_is command (codes "init") refl name) (of_settings words settings are)

of_other : (store command : List ℕ) (words : List (List ℕ)) (line : CommandLine) → command_line_of store command words ≡ Some line → are_operands (store ∷ command ∷ words) ≡ true
of_other store command [] line is = of_two store command line is
of_other store command (limit ∷ []) line is = of_three store command limit line is
of_other store command (seed ∷ number ∷ []) line is = of_four store command seed number line is
of_other store command (a ∷ b ∷ c ∷ words) line is = nothing line is

of_line : (words : List (List ℕ)) (line : CommandLine) → command_line words ≡ Some line → are_operands words ≡ true
of_line [] line is = nothing line is
of_line (store ∷ []) line is = nothing line is
of_line (store ∷ command ∷ words) line is = go (bytes_eq command (codes "init")) refl is
  where
    go : (b : Bool) → bytes_eq command (codes "init") ≡ b → (if b then command_of_init store words else command_line_of store command words) ≡ Some line
        → are_operands (store ∷ command ∷ words) ≡ true
    go true name said = of_init store command words line name said
    go false name said = of_other store command words line said

-- The number of a group:

-- decimal digits are what `parse` reads, and stand for the number that it gives
digits_model : IsNumeralModel (λ ds. list_all is_digit ds ≡ true) value_of
digits_model = numerals_by_fold _ (search rules) (λ n ds. fold (λ m digit. 10 * m + (digit - 48)) n ds) (search rules)

abbrev begun : List ℕ → Bool
begun word = not (is_empty word) && (not (begins_with 48 word) || length word == 1)

abbrev all_digits : List ℕ → Bool
all_digits word = list_all is_digit word

abbrev not_long : List ℕ → Bool
not_long word = nat_le (value_of word) 18446744073709551615

plain_first : (word : List ℕ) → has_plain_start word ≡ true → get_or word 0 0 ≢ 43
plain_first [] plain is = absurd (let wrong : false ≡ true = plain in cc)
plain_first (b ∷ bytes) plain is =
    let no : not (b == 43) ≡ true = (both (begun (b ∷ bytes)) (not (b == 43)) plain).1 in
    absurd (let wrong : false ≡ true = sym (ap not (eq-eqb b 43 is)) ∙ no in cc)

reads_as : {E : Type 0} (word : List ℕ) (parsed : Result ℕ E) → has_plain_start word ≡ true → ParsesUnsigned 64 10 word parsed →
    OkIff parsed ((all_digits word ≡ true) × (0 < length word) × (value_of word < 2 ^ 64)) (value_of word)
reads_as word parsed plain reads = parse_plain digits_model 64 word parsed reads (plain_first word plain)

-- a word that was read says the number of a group
pub number_read : {E : Type 0} (word : List ℕ) (parsed : Result ℕ E) (n : ℕ) → parsed ≡ Ok n → has_plain_start word ≡ true → ParsesUnsigned 64 10 word parsed →
    (is_group_number word ≡ true) × (n ≡ value_of word)
number_read {E = E} word parsed n gave plain reads =
    let ((digits, some, low), is) = reads_as {E = E} word (Ok n) plain (subst (λ (r : Result ℕ E). ParsesUnsigned 64 10 word r) gave reads) in
    let first : begun word ≡ true = (both (begun word) (not (begins_with 43 word)) plain).0 in
    let fits : not_long word ≡ true = le-leb (value_of word) 18446744073709551615 (omega (arith, low)) in
    (ap₂ (λ (x y : Bool). x && y) (ap₂ (λ (x y : Bool). x && y) first digits) fits, is)

-- ... and one that wasn't says none
pub number_unread : {E : Type 0} (word : List ℕ) (e : E) → has_plain_start word ≡ true → ParsesUnsigned 64 10 word (Err e) → is_group_number word ≡ false
number_unread {E = E} word e plain reads = go (all_digits word) (not_long word) refl refl
  where
    some : (word : List ℕ) → has_plain_start word ≡ true → 0 < length word
    some [] plain = absurd (let wrong : false ≡ true = plain in cc)
    some (b ∷ bytes) plain = omega arith

    last : (x : Bool) → (x && false) ≡ false
    last true = refl
    last false = refl

    go : (x y : Bool) → all_digits word ≡ x → not_long word ≡ y → ((begun word && all_digits word) && not_long word) ≡ false
    go x false all fits = ap (λ (t : Bool). (begun word && all_digits word) && t) fits ∙ last (begun word && all_digits word)
    go false true all fits = ap (λ (t : Bool). (begun word && t) && not_long word) all ∙ ap (λ (t : Bool). t && not_long word) (last (begun word))
    go true true all fits =
        let low : value_of word ≤ 18446744073709551615 = leb-true (value_of word) 18446744073709551615 fits in
        absurd (reads_as {E = E} word (Err e) plain reads (all, some word plain, omega (arith, low)))

-- a word that begins otherwise says none
pub number_not_plain : (word : List ℕ) → has_plain_start word ≡ false → is_group_number word ≡ false
number_not_plain [] plain = refl
number_not_plain (b ∷ bytes) plain = go (begun (b ∷ bytes)) (b == 43) refl refl plain
  where
    plus : (b : ℕ) → b ≡ 43 → is_digit b ≡ false
    plus b is = ap is_digit is

    go : (x y : Bool) → begun (b ∷ bytes) ≡ x → (b == 43) ≡ y → (begun (b ∷ bytes) && not (b == 43)) ≡ false → is_group_number (b ∷ bytes) ≡ false
    go false y begins is not_plain = ap (λ (t : Bool). (t && all_digits (b ∷ bytes)) && not_long (b ∷ bytes)) begins
    go true true begins is not_plain =
        let no_digit : is_digit b ≡ false = plus b (eqb-true b 43 is) in
        let none : all_digits (b ∷ bytes) ≡ false = ap (λ (t : Bool). t && list_all is_digit bytes) no_digit in
        ap₂ (λ (s t : Bool). (s && t) && not_long (b ∷ bytes)) begins none
    go true false begins is not_plain = absurd (let wrong : true ≡ false = sym (ap₂ (λ (s t : Bool). s && not t) begins is) ∙ not_plain in cc)

-- words that aren't operands are no command line
pub no_line : (words : List (List ℕ)) → are_operands words ≡ false → None ≡ command_line words
no_line words none = go (command_line words) refl
  where
    go : (line : Option CommandLine) → command_line words ≡ line → None ≡ command_line words
    go None is = sym is
    go (Some line) is = absurd (let wrong : false ≡ true = sym none ∙ of_line words line is in cc)

-- more words than settings have
pub too_many_settings : {X : Type 0} (text : X → List ℕ) (words : List X) → 5 ≤ length words → None ≡ settings_said (map text words)
too_many_settings text [] many = absurd (omega arith)
too_many_settings text (a ∷ []) many = absurd (omega arith)
too_many_settings text (a ∷ b ∷ []) many = absurd (omega arith)
too_many_settings text (a ∷ b ∷ c ∷ []) many = absurd (omega arith)
too_many_settings text (a ∷ b ∷ c ∷ d ∷ []) many = absurd (omega arith)
too_many_settings text (a ∷ b ∷ c ∷ d ∷ e ∷ words) many = refl

-- more words than a command has
pub too_many_words : {X : Type 0} (text : X → List ℕ) (store command : List ℕ) (words : List X) → 3 ≤ length words → None ≡ command_line_of store command (map text words)
too_many_words text store command [] many = absurd (omega arith)
too_many_words text store command (a ∷ []) many = absurd (omega arith)
too_many_words text store command (a ∷ b ∷ []) many = absurd (omega arith)
too_many_words text store command (a ∷ b ∷ c ∷ words) many = refl
