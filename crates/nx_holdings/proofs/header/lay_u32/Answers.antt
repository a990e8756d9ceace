use Rattle.std.proofs.Common.{List, ℕ, ◌+◌, ◌∷◌, [], ◌++◌, subst, sym}
use Rattle.nx_holdings.specs.Header.{IsHeaderLaid}
use Rattle.nx_holdings.proofs.HeaderLemmas.{laid_more}
use Rattle.nx_holdings.proofs.header.lay_u32.Goals as goal

pub returns : goal.returns
returns c fields laid =
    subst (λ (p : List ℕ). IsHeaderLaid p (c.args.at + 4) (fields ++ (4, c.args.number) ∷ [])) (sym c.set_u32_at.ensures)
    (laid_more 4 c.args.at c.args.number c.args.page.now.bytes fields c.requires laid)
