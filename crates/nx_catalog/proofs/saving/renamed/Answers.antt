use Rattle.std.proofs.Common.{ℕ, List, ap, sym, subst, ◌∙◌, arith}
use Rattle.std.specs.Prelude.{IsTrue}
use Rattle.std.specs.FinMap.{get, insert, remove}
use Rattle.nx_pyx.specs.DocumentName.{is_document_name}
use Rattle.nx_catalog.specs.NameMap.{map_in}
use Rattle.nx_catalog.specs.Catalog.{Entries}
use Rattle.nx_catalog.proofs.NameMap.{get-map_in, map_in-insert, map_in-remove}
use Rattle.nx_catalog.proofs.InsideLemmas.{less_documents, put_documents, room_again}
use Rattle.nx_catalog.proofs.LengthLemmas.{renamed_there, renamed_absent}
use Rattle.nx_catalog.proofs.saving.renamed.Goals as goal

pub returns-in_default-clause-are : goal.returns-in_default-clause-are
returns-in_default-clause-are c = less_documents c.remove.new.self _ c.in_ok-moved.ensures.are c.remove.ensures.entries c.remove.ensures.ordered (let h = c.remove.ensures.len in omega (arith, h))

pub returns-in_default-clause-moved : goal.returns-in_default-clause-moved
returns-in_default-clause-moved c =
    let are = c.in_ok-moved.ensures.are in
    let same = c.in_ok-moved.ensures.same in
    map_in-remove c.args.old_name.now c.in_ok-moved.moved c.remove.new.self are.ordered c.remove.ensures.ordered c.remove.ensures.updates
    ∙ ap (λ (d : Entries). remove d c.args.old_name.now) same
    ∙ renamed_absent (map_in c.args.documents.now) c.args.old_name.now c.args.new_name.now
    (ap (λ (d : Entries). get d c.args.old_name.now) (sym same) ∙ get-map_in c.in_ok-moved.moved c.args.old_name.now are.ordered ∙ sym c.remove.ensures.value ∙ c.in_default.is)

pub returns-clause-are : goal.returns-clause-are
returns-clause-are c =
    let fit = c.numbers_fit.ensures in
    let left = less_documents c.remove.new.self _ c.in_ok-moved.ensures.are c.remove.ensures.entries c.remove.ensures.ordered (let h = c.remove.ensures.len in omega (arith, h)) in
    put_documents c.insert.new.self c.in_ok-key.key c.in-Some.entry left
    (record { named = subst (λ (n : List ℕ). IsTrue (is_document_name n)) (sym c.in_ok-key.ensures.items) c.requires.named; page = fit.0; slot = fit.1; nodes = fit.2 })
    c.in_ok-insert.ensures.entries c.in_ok-insert.ensures.ordered
    (room_again _ _ _ c.in-Some.entry c.remove.result c.in_ok-insert.field-0 c.in-Some.is c.remove.ensures.len c.in_ok-insert.ensures.len (c.in_ok-moved.ensures.are).few)

pub returns-clause-moved : goal.returns-clause-moved
returns-clause-moved c =
    let are = c.in_ok-moved.ensures.are in
    let same = c.in_ok-moved.ensures.same in
    map_in-insert c.in_ok-key.key.items c.remove.new.self c.insert.new.self c.in-Some.entry c.remove.ensures.ordered c.in_ok-insert.ensures.ordered c.in_ok-insert.ensures.updates
    ∙ ap (λ (d : Entries). insert d c.in_ok-key.key.items c.in-Some.entry) (map_in-remove c.args.old_name.now c.in_ok-moved.moved c.remove.new.self are.ordered c.remove.ensures.ordered c.remove.ensures.updates ∙ ap (λ (d : Entries). remove d c.args.old_name.now) same)
    ∙ ap (λ (n : List ℕ). insert (remove (map_in c.args.documents.now) c.args.old_name.now) n c.in-Some.entry) c.in_ok-key.ensures.items
    ∙ sym (renamed_there (map_in c.args.documents.now) c.args.old_name.now c.args.new_name.now c.in-Some.entry
    (ap (λ (d : Entries). get d c.args.old_name.now) (sym same) ∙ get-map_in c.in_ok-moved.moved c.args.old_name.now are.ordered ∙ sym c.remove.ensures.value ∙ c.in-Some.is))
