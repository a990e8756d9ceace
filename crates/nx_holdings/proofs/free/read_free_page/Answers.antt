use Rattle.std.proofs.Common.{◌≡◌, ap, sym, ◌∙◌}
use Rattle.std.proofs.lemmas.Slice.Eq.{slice_eq-Decides}
use Rattle.std.proofs.lemmas.Bool.Decides.{Decides-eqb, not_from_Decides}
use Rattle.nx_holdings.specs.Holdings.{free_bytes}
use Rattle.nx_holdings.proofs.FreeLemmas.{free_says}
use Rattle.nx_holdings.proofs.free.read_free_page.Goals as goal

pub returns-else-eq : goal.returns-else-eq
returns-else-eq c next is =
    let bytes = c.args.bytes.now.bytes in
    let made : c.free_page-page.result.bytes ≡ bytes = c.free_page-page.ensures ∙ ap free_bytes (c.u32_at-next.ensures ∙ free_says bytes next is) ∙ sym is.are in
    not_from_Decides c.eq.result (slice_eq-Decides Decides-eqb c.free_page-page.result.bytes bytes c.eq.result c.eq.ensures) c.if-eq.false made
