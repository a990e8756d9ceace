use Rattle.std.proofs.Common.{List, [], ◌∷◌, ℕ, ◌∙◌, ap}
use Rattle.nx_replay.specs.Log.{over, entry_pages}
use Rattle.nx_wal.specs.Wal.{pending}
use Rattle.nx_records.proofs.FirstLemmas.{first_put}
use Rattle.nx_records.proofs.first.put_first.Goals as goal

pub returns-in_default-put-clause-follows : goal.returns-in_default-put-clause-follows
returns-in_default-put-clause-follows c log follows = c.put-2.ensures.follows log (c.put.ensures.follows log follows)

pub returns-clause-follows : goal.returns-clause-follows
returns-clause-follows c log follows = c.put-2.ensures.follows log (c.put.ensures.follows log follows)

pub returns-clause-ok : goal.returns-clause-ok
returns-clause-ok c =
    first_put c.args.wal.now c.put.new.self c.put-2.new.self c.args.header.now c.requires.none
    (c.in-Ok.ensures.pending ∙ ap (λ (b : List ℕ). over (entry_pages (record { page = 0; bytes = b } ∷ [])) (entry_pages (pending c.args.wal.now))) c.header_page-page.ensures)
    (c.in-Ok-put.ensures.pending ∙ ap (λ (b : List ℕ). over (entry_pages (record { page = 1; bytes = b } ∷ [])) (entry_pages (pending c.put.new.self))) c.chain_page-catalog.ensures)
