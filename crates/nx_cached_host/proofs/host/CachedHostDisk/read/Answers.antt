use Rattle.std.proofs.Common.{◌≡◌, Some, ap, sym, subst, ◌∙◌, arith}
use Rattle.nx_host.specs.Disk.{Image, Keeps}
use Rattle.nx_host.specs.Still.{IsStill}
use Rattle.nx_host.proofs.DiskLemmas.{none_still, keeps_self}
use Rattle.nx_cached_host.proofs.KeptLemmas.{if_told, page_read, whole_read}
use Rattle.nx_cached_host.proofs.host.CachedHostDisk.read.Goals as goal

pub returns-then-copy_kept : goal.returns-then-copy_kept
returns-then-copy_kept g c =
    let d = g.H.Disk in
    let old = c.args.self.now.inner in
    let new = c.copy_kept.new.self.inner in
    let same = c.copy_kept.ensures.inner in
    let room = c.if-into-ne-PAGE_SIZE.false in
    let still : IsStill d old new = subst (IsStill d old) (sym same) none_still in
    let reads = ap d.reads same in
    let read = λ (image : Image) (is : d.contents new ≡ Some image). page_read c.args.area c.args.at c.args.into.now c.copy_kept.new.into image room (c.copy_kept.ensures.copied c.if-copy_kept.true image (sym still.contents_stay ∙ is)) in
    record {
      room = omega (arith, room);
      count = if_told (d.contents new) _ (λ image is. (read image is).0);
      bytes = if_told (d.contents new) _ (λ image is. (read image is).1);
      contents = still.contents_stay;
      images = still.images_stay;
      beside = still.beside_stays;
      time = record { later = still.time.later; nothing_else = still.time.nothing_else; keeps = still.time.keeps };
      reads = (omega (arith, reads), omega (arith, reads));
      renewed = subst (λ (h : _). Keeps (d.renewed old) (d.renewed h)) (sym same) (keeps_self (d.renewed old));
      faults = still.faults_later;
      cause = tt;
    }

pub keep-requires-clause-given : goal.keep-requires-clause-given
keep-requires-clause-given g c =
    let long = c.if-into-ne-PAGE_SIZE.false in
    whole_read c.read-given.result c.in-Ok-eq8192.field-0 (g.H.Disk.contents c.read-given.new.self) c.args.area c.args.at c.copy_kept.new.into c.read-given.new.into c.in-Ok-eq8192.is (sym c.in-Ok-eq8192.field-0-is ∙ c.in-Ok-eq8192.field-0-test)
    (omega (arith, long, c.copy_kept.auto.into)) (omega (arith, long, c.copy_kept.auto.into, c.read-given.auto.into)) c.read-given.ensures.bytes
