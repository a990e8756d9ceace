use Rattle.std.proofs.Common.{◌≡◌, ◌∙◌, ◌≤◌, ◌+◌, ◌*◌, ◌/◌, ◌%◌, ◌++◌, List, ℕ, length, take, drop, sym, ap, ap₂, subst, arith}
use Rattle.std.proofs.lemmas.List.{take-append-drop}
use Rattle.std.specs.Prelude.{min}
use Rattle.nx_host.specs.Disk.{Image}
use Rattle.nx_wal.specs.Wal.{IsInStep}
use Rattle.nx_records.specs.Patching.{PatchesTo, PutsAt, NotPatched}
use Rattle.nx_records.proofs.StandLemmas.{keeps_then, on_ok_then, if_err_then}
use Rattle.nx_records.proofs.PatchingLemmas.{patches_both, alone_both, patch_later}
use Rattle.nx_records.proofs.records.Records.patch_catalog.Goals as goal

pub returns-clause-keeps : goal.returns-clause-keeps
returns-clause-keeps g c =
    let one = c.in_ok-patch_link.ensures.keeps in
    on_ok_then c.patch_link-2.result c.patch_link-2.ensures.keeps (λ two. (keeps_then {r0 = c.args.self.now} {r1 = c.patch_link.new.self} {r2 = c.patch_link-2.new.self} one.0 two.0, two.1 ∙ one.1))

pub returns-clause-ok : goal.returns-clause-ok
returns-clause-ok g c =
    let one = c.in_ok-patch_link.ensures.keeps in
    let cut = c.min.ensures in
    let front = c.split_at.ensures.front_len in
    let few = c.requires.few in
    let left = c.split_at.ensures.back_len in
    on_ok_then c.patch_link-2.result c.patch_link-2.ensures.ok (λ ok.
    patches_both g.D.Disk c.args.self.now c.patch_link.new.self c.patch_link-2.new.self c.args.disk.now c.patch_link.new.disk c.args.self.now.catalog_pages one.0 c.patch_link.ensures.still
    c.args.at (c.args.at / 8184) (c.args.at % 8184) c.split_at.result.0.now c.split_at.result.1.now c.args.bytes.now (omega arith)
    (ap₂ (λ (f r : List ℕ). f ++ r) c.split_at.ensures.front c.split_at.ensures.back ∙ take-append-drop _ c.args.bytes.now)
    (λ more. omega (arith, cut, front, left, few, more)) c.requires.within c.in_ok-patch_link.ensures.ok
    (subst (λ (ps : List ℕ). PatchesTo g.D.Disk c.patch_link.new.self c.patch_link-2.new.self c.patch_link.new.disk ps ((c.args.at / 8184 + 1) * 8184 + 0) c.split_at.result.1.now) one.1 ok))

pub returns-clause-alone : goal.returns-clause-alone
returns-clause-alone g c =
    let one = c.in_ok-patch_link.ensures.keeps in
    on_ok_then c.patch_link-2.result c.patch_link-2.ensures.alone (λ alone.
    alone_both g.D.Disk c.args.self.now c.patch_link.new.self c.patch_link-2.new.self c.args.disk.now c.patch_link.new.disk c.args.self.now.catalog_pages one.0 c.patch_link.ensures.still
    (c.args.at / 8184) c.in_ok-patch_link.ensures.alone
    (subst (λ (ps : List ℕ). (was : Image) → IsInStep g.D.Disk c.patch_link.new.self.wal c.patch_link.new.disk was → PutsAt ps (c.args.at / 8184 + 1) c.patch_link.new.self c.patch_link-2.new.self was) one.1 alone))

pub returns-clause-refused : goal.returns-clause-refused
returns-clause-refused g c =
    let one = c.in_ok-patch_link.ensures.keeps in
    if_err_then c.patch_link-2.result c.patch_link-2.ensures.refused (λ e refused.
    patch_later g.D.Disk c.args.self.now c.patch_link.new.self c.patch_link-2.new.self c.args.disk.now c.patch_link.new.disk c.args.self.now.catalog_pages one.0 c.patch_link.ensures.still
    c.patch_link-2.new.disk (c.args.at / 8184 * 8184 + c.args.at % 8184) c.split_at.result.0.now e c.requires.runs c.in_ok-patch_link.ensures.ok
    (subst (λ (ps : List ℕ). NotPatched g.D.Disk ps e c.patch_link.new.self c.patch_link-2.new.self c.patch_link.new.disk c.patch_link-2.new.disk) one.1 refused))
