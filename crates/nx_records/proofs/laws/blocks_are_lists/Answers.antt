use Rattle.std.proofs.Common.{◌≡◌, ◌∙◌, ℕ, length, sym, subst, arith}
use Rattle.nx_links.specs.Lists.{IsListFrom, IsReadTo}
use Rattle.nx_links.proofs.ListLemmas.{read_whole}
use Rattle.nx_records.proofs.ChainLemmas.{list_read}
use Rattle.nx_records.proofs.laws.blocks_are_lists.Goals as goal

pub returns : goal.returns
returns c pages head reader len bytes read none =
    let long : length bytes ≡ len = let count = read.left in omega (arith, count, none) in
    let from : IsListFrom head.pages pages reader.first bytes = read_whole (subst (λ (p : ℕ). IsReadTo head.pages pages reader.first bytes p) (reader.ends.1 none) read.to) in
    (long, from, λ held by. list_read by reader.first bytes read.begins.1 (λ zero. read.begins.0 (sym long ∙ zero)) from)
