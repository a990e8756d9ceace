use Rattle.std.proofs.Common.{◌≡◌, rules, refl, ap, sym, ◌∙◌, Some, true, List, ℕ, map, option_map, drop, unwrap_or, []}
use Rattle.std.specs.Prelude.{slice_get}
use Rattle.std.specs.Borrow.{Bor}
use Rattle.nx_words.specs.Operands.{are_operands}
use Rattle.nx_words.proofs.OperandsLemmas.{arguments_found, command_found, store_found, words_are}
use Rattle.nx_words.proofs.operands.operands_of.Goals as goal

pub unwrap-requires : goal.unwrap-requires
unwrap-requires c =
    let operands : are_operands c.as_slice-words.result.now ≡ true = search rules in
    store_found c.as_slice-words.result.now c.get_str.result operands (c.get_str.ensures ∙ c.in_ok-matches.ensures.store)

pub unwrap-requires-2 : goal.unwrap-requires-2
unwrap-requires-2 c =
    let operands : are_operands c.as_slice-words.result.now ≡ true = search rules in
    command_found c.as_slice-words.result.now c.get_str-2.result operands (c.get_str-2.ensures ∙ c.in_ok-matches.ensures.command)

pub returns-clause-found : goal.returns-clause-found
returns-clause-found c =
    let words = c.as_slice-words.result.now in
    let operands : are_operands words ≡ true = search rules in
    let first : Some c.unwrap.result.now ≡ slice_get words 0 =
    ap (option_map (λ (s : Bor (List ℕ)). s.now)) (sym c.unwrap.ensures) ∙ c.get_str.ensures ∙ c.in_ok-matches.ensures.store in
    let second : Some c.unwrap-2.result.now ≡ slice_get words 1 =
    ap (option_map (λ (s : Bor (List ℕ)). s.now)) (sym c.unwrap-2.ensures) ∙ c.get_str-2.ensures ∙ c.in_ok-matches.ensures.command in
    let others : map (λ (s : Bor (List ℕ)). s.now) c.in_ok-from_slice.field-0 ≡ drop 2 words =
    ap (map (λ (s : Bor (List ℕ)). s.now)) (c.in_ok-from_slice.ensures ∙ ap (λ (r : Bor (List (Bor (List ℕ)))). r.now) c.unwrap_or-arguments.ensures)
    ∙ arguments_found c.get_strs.result _ refl ∙ ap (λ o. unwrap_or o []) c.get_strs.ensures ∙ c.in_ok-matches.ensures.arguments in
    (ap are_operands (sym c.as_slice-words.ensures) ∙ operands, sym c.as_slice-words.ensures ∙ words_are words c.unwrap.result c.unwrap-2.result c.in_ok-from_slice.field-0 operands first second others)
