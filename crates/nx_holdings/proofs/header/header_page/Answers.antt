use Rattle.nx_holdings.proofs.HeaderLemmas.{laid_whole}
use Rattle.nx_holdings.proofs.header.header_page.Goals as goal

pub returns : goal.returns
returns c =
    laid_whole c.args.header.now c.lay_u64-2.new.page.bytes
    (c.lay_u64-2.ensures _ (c.lay_u32-5.ensures _ (c.lay_u64.ensures _ (c.lay_u32-4.ensures _ (c.lay_u32-3.ensures _ (c.lay_u32-2.ensures _ (c.lay_u32.ensures _
    (c.lay_u16-4.ensures _ (c.lay_u16-3.ensures _ (c.lay_u16-2.ensures _ (c.lay_u16.ensures _ c.marked-page.ensures)))))))))))
