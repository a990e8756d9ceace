use Rattle.std.proofs.Common.{◌≡◌, ◌≤◌, ℕ, List, length, sym, ap, ◌∙◌, subst}
use Rattle.nx_holdings.specs.Holdings.{chain_count}
use Rattle.nx_records.specs.declared.error.StoreError.{StoreError}
use Rattle.nx_records.specs.Changes.{WritesList}
use Rattle.nx_records.specs.Refusals.{NotStored}
use Rattle.nx_piece.specs.declared.piece.Proxy.{Proxy}
use Rattle.nx_piece.specs.declared.piece.Stored.TheVariants.{Chained}
use Rattle.nx_piece.specs.Encoding.{encoding, proxies_bytes}
use Rattle.nx_piece.specs.Valid.{HaveNumbers, IsValidBody}
use Rattle.nx_piece.proofs.BodyLemmas.{proxies_length}
use Rattle.nx_hold.specs.Changes.{chain_pages}
use Rattle.nx_hold.proofs.PutLemmas.{inline_valid, inline_few, puts_inline, chained_valid, chained_few, chained_some, puts_chained, pages_chained}
use Rattle.nx_hold.proofs.RefusalLemmas.{store_told}
use Rattle.nx_hold.proofs.lists.record_bytes.Goals as goal

pub returns-then-fits_inline-clause-few : goal.returns-then-fits_inline-clause-few
returns-then-fits_inline-clause-few g c =
    inline_few c.args.piece.now c.in-Ok.bytes (inline_valid c.args.piece.now c.requires.valid (sym c.fits_inline.ensures ∙ c.if-fits_inline.true)) c.in-Ok.ensures.bytes

pub returns-then-fits_inline-clause-ok : goal.returns-then-fits_inline-clause-ok
returns-then-fits_inline-clause-ok g c saved now stands = (
  now,
  stands,
  puts_inline c.args.piece.now c.in-Ok.bytes now (inline_valid c.args.piece.now c.requires.valid (sym c.fits_inline.ensures ∙ c.if-fits_inline.true)) c.in-Ok.ensures.numbers c.in-Ok.ensures.bytes,
)

pub write_list-requires : goal.write_list-requires
write_list-requires g c =
    subst (λ (l : List ℕ). 1 ≤ length l) (sym (c.as_slice-2.ensures ∙ c.in-Ok-encode_proxies.ensures.bytes ∙ ap proxies_bytes c.as_slice.ensures))
    (chained_some c.args.piece.now c.requires.valid (sym c.fits_inline.ensures ∙ c.if-fits_inline.false))

pub returns-in-Err-clause-refused : goal.returns-in-Err-clause-refused
returns-in-Err-clause-refused g c =
    let bytes = c.as_slice-2.ensures ∙ c.in-Ok-encode_proxies.ensures.bytes ∙ ap proxies_bytes c.as_slice.ensures in
    let pages : chain_count (length c.as_slice-2.result.now) ≡ chain_pages c.args.piece.now =
    ap (λ (l : List ℕ). chain_count (length l)) bytes ∙ ap chain_count (proxies_length c.args.piece.now.proxies) ∙ sym (pages_chained c.args.piece.now (sym c.fits_inline.ensures ∙ c.if-fits_inline.false)) in
    subst (λ (e : StoreError). NotStored g.D.Disk (λ was. chain_pages c.args.piece.now) (λ was. ⊥) c.args.named e c.args.records.now c.write_list.new.self c.args.disk.now c.write_list.new.disk) (sym c.at_page.ensures)
    (store_told g.D.Disk (λ was. ⊥) (λ was. ⊥) 0 c.args.named c.args.records.now c.write_list.new.self c.args.disk.now c.write_list.new.disk (λ held bad. bad) (λ was. chain_pages c.args.piece.now) c.in-Err.error
    (subst (λ (n : ℕ). NotStored g.D.Disk (λ was. n) (λ was. ⊥) 0 c.in-Err.error c.args.records.now c.write_list.new.self c.args.disk.now c.write_list.new.disk) pages c.in-Err.ensures.refused))

pub returns-clause-few : goal.returns-clause-few
returns-clause-few g c =
    chained_few c.args.piece.now.body c.len.result c.in-Ok-write_list.chain c.in-Ok-encode_chained.bytes (subst (λ (n : ℕ). IsValidBody c.args.piece.now.body.roots n) (sym c.len.ensures) c.requires.valid.body)
    c.in-Ok-encode_chained.ensures.bytes

pub returns-clause-ok : goal.returns-clause-ok
returns-clause-ok g c saved now stands =
    let long = sym c.fits_inline.ensures ∙ c.if-fits_inline.false in
    let written = c.in-Ok-write_list.ensures.ok saved now stands in (
      written.0,
      written.1,
      puts_chained c.args.piece.now c.in-Ok-encode_chained.bytes c.in-Ok-write_list.chain now written.0 (chained_valid c.args.piece.now c.in-Ok-write_list.chain c.requires.valid long) long
          (subst (λ (ps : List Proxy). HaveNumbers ps) c.as_slice.ensures c.in-Ok-encode_proxies.ensures.numbers) c.in-Ok-encode_chained.ensures.numbers
          (c.in-Ok-encode_chained.ensures.bytes ∙ ap (λ (n : ℕ). encoding (Chained c.args.piece.now.body n c.in-Ok-write_list.chain)) c.len.ensures)
          (subst (λ (l : List ℕ). WritesList c.in-Ok-write_list.chain l now written.0) (c.as_slice-2.ensures ∙ c.in-Ok-encode_proxies.ensures.bytes ∙ ap proxies_bytes c.as_slice.ensures) written.2),
    )
