use Rattle.std.proofs.Common.{◌≡◌, ℕ, suc, ◌+◌, ◌*◌, ◌<◌, List, [], ◌∷◌, ◌++◌, drop, arith, sym, ap, ◌∙◌}
use Rattle.std.proofs.lemmas.List.{drop-drop, map-append}
use Rattle.nx_host.proofs.DiskLemmas.{still_then}
use Rattle.nx_replay.specs.Log.{Entry, entries_in}
use Rattle.nx_replay.proofs.SettledLemmas.{told_still}
use Rattle.nx_groups.specs.declared.group.GroupPage.{GroupPage}
use Rattle.nx_groups.specs.Groups.{entry, entries}
use Rattle.nx_wal.specs.Reading.{page_at}
use Rattle.nx_wal.proofs.ReadingLemmas.{entries_more}
use Rattle.nx_wal.proofs.reading.read_pages.Goals as goal

pub loop-i-preserved : goal.loop-i-preserved
loop-i-preserved g c =
    let so_far = c.loop-i.invariant in
    let more : c.loop-i.i < c.args.count = c.loop-i-test.true in
    record {
      still = still_then so_far.still c.read_numbered.ensures.still;
      reads = omega (arith, so_far.reads, c.read_numbered.ensures.reads);
      pages = λ was told fits.
          let bytes = drop c.args.at was.log in
          let page : entry c.in-Ok.page ≡ page_at (drop (c.args.at + 8196 * c.loop-i.i) was.log) = c.in-Ok.ensures.page was (told_still was so_far.still told) (omega (arith, more, fits)) in
          ap (λ (ps : List GroupPage). entries ps) c.in-Ok-push.ensures.ok ∙ map-append entry c.loop-i.pages (c.in-Ok.page ∷ [])
          ∙ ap (λ (es : List Entry). es ++ entry c.in-Ok.page ∷ []) (so_far.pages was told fits)
          ∙ ap (λ (e : Entry). entries_in c.loop-i.i bytes ++ e ∷ []) (page ∙ ap (λ (x : List ℕ). page_at x) (sym (drop-drop (8196 * c.loop-i.i) c.args.at was.log)))
          ∙ sym (entries_more c.loop-i.i bytes) ∙ ap (λ (n : ℕ). entries_in n bytes) (let h : suc c.loop-i.i ≡ c.loop-i.i + 1 = omega arith in h);
    }
