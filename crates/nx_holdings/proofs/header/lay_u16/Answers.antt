use Rattle.std.proofs.Common.{List, ℕ, ◌+◌, ◌∷◌, [], ◌++◌, subst, sym}
use Rattle.nx_holdings.specs.Header.{IsHeaderLaid}
use Rattle.nx_holdings.proofs.HeaderLemmas.{laid_more}
use Rattle.nx_holdings.proofs.header.lay_u16.Goals as goal

pub returns : goal.returns
returns c fields laid =
    subst (λ (p : List ℕ). IsHeaderLaid p (c.args.at + 2) (fields ++ (2, c.args.number) ∷ [])) (sym c.set_u16_at.ensures)
    (laid_more 2 c.args.at c.args.number c.args.page.now.bytes fields c.requires laid)
