use Rattle.std.proofs.Common.{◌≡◌, ◌∙◌, ◌≤◌, ◌<◌, ◌+◌, ◌*◌, List, ℕ, length, Some, refl, sym, ap, subst, arith}
use Rattle.std.specs.Prelude.{slice_get}
use Rattle.std.proofs.lemmas.Result.{err_from_is_err_and}
use Rattle.nx_records.specs.declared.records.Records.{Records}
use Rattle.nx_records.specs.declared.error.StoreError.{StoreError}
use Rattle.nx_records.specs.Records.{KeepsLog}
use Rattle.nx_records.specs.Chains.{SetsLink}
use Rattle.nx_records.specs.Patching.{NotPatched}
use Rattle.nx_records.proofs.RefusalLemmas.{err_passed, ended_now}
use Rattle.nx_records.proofs.InPlaceLemmas.{set_takes_none}
use Rattle.nx_records.proofs.PatchedLemmas.{patched_length}
use Rattle.nx_records.proofs.PatchingLemmas.{patched_holds, put_at, patch_none, patch_damaged, patch_past, patch_short, patch_unread, set_catalog_stays, some_bytes, no_bytes}
use Rattle.nx_records.proofs.records.Records.patch_link.Goals as goal

pub returns-then-is_empty-clause-ok : goal.returns-then-is_empty-clause-ok
returns-then-is_empty-clause-ok g c =
    patch_none g.D.Disk c.args.self.now c.args.disk.now c.args.self.now.catalog_pages (c.args.index * 8184 + c.args.from) c.args.bytes.now (no_bytes c.args.bytes.now (sym c.is_empty.ensures ∙ c.if-is_empty.true))

pub returns-in_default-clause-refused : goal.returns-in_default-clause-refused
returns-in_default-clause-refused g c =
    let some = some_bytes c.args.bytes.now (sym c.is_empty.ensures ∙ c.if-is_empty.false) in
    let within = c.requires.within some in
    patch_damaged g.D.Disk c.args.self.now c.damaged.new.self c.args.disk.now c.args.disk.now c.args.self.now.catalog_pages c.damaged.result c.damaged.ensures.result
    (ended_now {r0 = c.args.self.now} {r1 = c.args.self.now} {r2 = c.damaged.new.self} c.requires.runs refl c.damaged.ensures.ended)
    (patch_past g.D.Disk c.args.self.now c.damaged.new.self c.args.disk.now c.args.disk.now c.args.self.now.catalog_pages c.args.index (omega (arith, within, some)) (sym c.catalog_page.ensures ∙ c.in_default.is))

pub returns-in_err-next-clause-refused : goal.returns-in_err-next-clause-refused
returns-in_err-next-clause-refused g c =
    err_passed c.from_residual.result (λ (e : StoreError). NotPatched g.D.Disk c.args.self.now.catalog_pages e c.args.self.now c.see_link.new.self c.args.disk.now c.see_link.new.disk) c.in_err-next.field-0.0
    (err_from_is_err_and c.from_residual.result c.from_residual.ensures.1)
    (patch_unread g.D.Disk c.args.self.now c.see_link.new.self c.args.disk.now c.see_link.new.disk c.args.self.now.catalog_pages c.args.index c.in-Some.page c.in_err-next.field-0.0 c.requires.runs (sym c.catalog_page.ensures ∙ c.in-Some.is)
    c.in_err-next.ensures.refused)

pub returns-then-had-from-clause-refused : goal.returns-then-had-from-clause-refused
returns-then-had-from-clause-refused g c =
    let some = some_bytes c.args.bytes.now (sym c.is_empty.ensures ∙ c.if-is_empty.false) in
    let short : length c.in_ok-next.had.now < c.args.from + length c.args.bytes.now = let short = c.if-had-from.true in omega (arith, short) in
    patch_damaged g.D.Disk c.args.self.now c.damaged-then-had-from.new.self c.args.disk.now c.see_link.new.disk c.args.self.now.catalog_pages c.damaged-then-had-from.result c.damaged-then-had-from.ensures.result
    (ended_now {r0 = c.args.self.now} {r1 = c.see_link.new.self} {r2 = c.damaged-then-had-from.new.self} c.requires.runs c.in_ok-next.ensures.ok.0 c.damaged-then-had-from.ensures.ended)
    (patch_short g.D.Disk c.args.self.now c.damaged-then-had-from.new.self c.args.disk.now c.see_link.new.disk c.args.self.now.catalog_pages c.args.index c.args.from (length c.args.bytes.now) (sym c.catalog_page.ensures ∙ c.in-Some.is) c.in_ok-next.ensures.ok.4
    c.requires.few (c.requires.within some) short)

pub returns-clause-keeps : goal.returns-clause-keeps
returns-clause-keeps g c =
    (subst (λ (r : Records). KeepsLog r c.put_over.new.self) c.in_ok-next.ensures.ok.0 c.put_over.ensures.keeps, c.put_over.ensures.known ∙ ap (λ (r : Records). r.catalog_pages) c.in_ok-next.ensures.ok.0)

pub returns-clause-in_place : goal.returns-clause-in_place
returns-clause-in_place g c =
    let sets : SetsLink c.in-Some.page c.in_ok-next.next c.in_ok-next.had.now c.as_slice.result.now c.args.self.now c.put_over.new.self =
    subst (λ (r : Records). SetsLink c.in-Some.page c.in_ok-next.next c.in_ok-next.had.now c.as_slice.result.now r c.put_over.new.self) c.in_ok-next.ensures.ok.0 c.in_ok-put_over.ensures.ok in
    let stays = set_catalog_stays c.in_ok-next.next {r1 = c.args.self.now} {r2 = c.put_over.new.self} sets in
    (set_takes_none c.in_ok-next.next {r1 = c.args.self.now} {r2 = c.put_over.new.self} sets, stays.0, stays.1)

pub returns-clause-ok : goal.returns-clause-ok
returns-clause-ok g c was held step holds on =
    let sets : SetsLink c.in-Some.page c.in_ok-next.next c.in_ok-next.had.now c.as_slice.result.now c.args.self.now c.put_over.new.self =
    subst (λ (r : Records). SetsLink c.in-Some.page c.in_ok-next.next c.in_ok-next.had.now c.as_slice.result.now r c.put_over.new.self) c.in_ok-next.ensures.ok.0 c.in_ok-put_over.ensures.ok in
    let there = sym c.catalog_page.ensures ∙ c.in-Some.is in
    let long : c.args.from + length c.args.bytes.now ≤ length c.in_ok-next.had.now = let long = c.if-had-from.false in omega (arith, long) in
    patched_holds c.args.self.now c.put_over.new.self was c.args.index c.args.from c.args.bytes.now holds (ap (λ (ps : List ℕ). slice_get ps c.args.index) on ∙ there) (c.in_ok-next.ensures.ok.4 was step) sets
    (c.as_slice.ensures ∙ c.in-Ok.ensures) long

pub returns-clause-alone : goal.returns-clause-alone
returns-clause-alone g c was step =
    let sets : SetsLink c.in-Some.page c.in_ok-next.next c.in_ok-next.had.now c.as_slice.result.now c.args.self.now c.put_over.new.self =
    subst (λ (r : Records). SetsLink c.in-Some.page c.in_ok-next.next c.in_ok-next.had.now c.as_slice.result.now r c.put_over.new.self) c.in_ok-next.ensures.ok.0 c.in_ok-put_over.ensures.ok in
    let there = sym c.catalog_page.ensures ∙ c.in-Some.is in
    let long : c.args.from + length c.args.bytes.now ≤ length c.in_ok-next.had.now = let long = c.if-had-from.false in omega (arith, long) in
    let size = ap length (c.as_slice.ensures ∙ c.in-Ok.ensures) ∙ patched_length c.in_ok-next.had.now c.args.bytes.now c.args.from long in
    let some = c.in_ok-next.ensures.ok.2 in
    let few = c.in_ok-next.ensures.few in
    put_at {r1 = c.args.self.now} {r2 = c.put_over.new.self} was c.args.index c.args.self.now.catalog_pages there (c.in_ok-next.ensures.ok.4 was step) sets (omega (arith, size, some)) (omega (arith, size, few))
