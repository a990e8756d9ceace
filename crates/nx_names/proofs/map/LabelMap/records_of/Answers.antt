use Rattle.std.proofs.Common.{◌≡◌, ℕ, suc, ◌+◌, List, [], ◌∷◌, ◌++◌, take, get_or, sym, ap, ◌∙◌, arith}
use Rattle.std.proofs.lemmas.List.{get_or_default}
use Rattle.nx_names.specs.declared.noted.Noted.{Noted}
use Rattle.nx_names.specs.Serials.{those_noted}
use Rattle.nx_names.proofs.SerialLemmas.{is_in_at}
use Rattle.nx_names.proofs.HolderLemmas.{nobody, those_more}
use Rattle.nx_names.proofs.map.LabelMap.records_of.Goals as goal

pub index-requires : goal.index-requires
index-requires c =
    let at = c.loop-serial.serial-index in
    let low = c.requires (get_or c.args.serials.now at 0) (is_in_at c.args.serials.now at 0 c.loop-serial-test.true) in
    let len = c.args.self.now.noted.ok.0 in omega arith

pub loop-serial-preserved : goal.loop-serial-preserved
loop-serial-preserved c =
    let noted = c.args.self.now.noted.items in
    let serials = c.args.serials.now in
    let at = c.loop-serial.serial-index in
    let serial : ℕ = get_or serials at 0 in
    let low = c.requires serial (is_in_at serials at 0 c.loop-serial-test.true) in
    c.in_ok-push.ensures.items
    ∙ ap (λ (rs : List Noted). rs ++ c.index.result.now ∷ []) c.loop-serial.invariant
    ∙ ap (λ (r : Noted). those_noted noted (take at serials) ++ r ∷ []) (c.index.ensures ∙ get_or_default noted serial c.index.result.now nobody low)
    ∙ sym (those_more noted serials at c.loop-serial-test.true)
    ∙ ap (λ (n : ℕ). those_noted noted (take n serials)) (let e : suc at ≡ at + 1 = omega arith in e)
