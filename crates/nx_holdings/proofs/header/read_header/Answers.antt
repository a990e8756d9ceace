use Rattle.std.proofs.Common.{◌≡◌, ap, sym, ◌∙◌, subst}
use Rattle.std.proofs.lemmas.Bool.{false≢true}
use Rattle.std.proofs.lemmas.Slice.Eq.{slice_eq-Decides}
use Rattle.std.proofs.lemmas.Bool.Decides.{Decides-eqb, not_from_Decides}
use Rattle.nx_holdings.specs.Header.{header_bytes, IsInRange}
use Rattle.nx_holdings.proofs.HeaderLemmas.{says_settings, says_fields}
use Rattle.nx_holdings.proofs.header.read_header.Goals as goal

pub returns-then-not-is_in_range : goal.returns-then-not-is_in_range
returns-then-not-is_in_range c h is =
    let bytes = c.args.bytes.now.bytes in
    let same : c.fields_at-header.result ≡ h = c.fields_at-header.ensures.fields ∙ says_fields h bytes is c.fields_at-header.result.settings (c.fields_at-header.ensures.settings ∙ says_settings h bytes is) in
    absurd (false≢true (sym c.if-not-is_in_range.true ∙ c.is_in_range.ensures.no (subst IsInRange (sym same) is.range)))

pub returns-else-eq : goal.returns-else-eq
returns-else-eq c h is =
    let bytes = c.args.bytes.now.bytes in
    let same : c.fields_at-header.result ≡ h = c.fields_at-header.ensures.fields ∙ says_fields h bytes is c.fields_at-header.result.settings (c.fields_at-header.ensures.settings ∙ says_settings h bytes is) in
    let made : c.header_page-page.result.bytes ≡ bytes = c.header_page-page.ensures ∙ ap header_bytes same ∙ sym is.are in
    not_from_Decides c.eq.result (slice_eq-Decides Decides-eqb c.header_page-page.result.bytes bytes c.eq.result c.eq.ensures) c.if-eq.false made
