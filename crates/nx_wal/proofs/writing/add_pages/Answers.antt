use Rattle.std.proofs.Common.{◌≡◌, ◌+◌, ◌*◌, ◌≤◌, ◌++◌, ◌∷◌, [], arith, rules, length, refl, sym, ap, subst, ◌∙◌, append_assoc, length-append, List, ℕ}
use Rattle.std.specs.Map.Iter.{deref_pair}
use Rattle.std.proofs.lemmas.Map.Iter.{rest_more}
use Rattle.byteorder.specs.Endian.{big_bytes}
use Rattle.nx_replay.specs.Log.{entry_bytes}
use Rattle.nx_slots.specs.declared.page.PageBytes.{PageBytes}
use Rattle.nx_wal.specs.Places.{Kept}
use Rattle.nx_wal.specs.Writing.{entries_of}
use Rattle.nx_wal.specs.Gathering.{AddsBytes}
use Rattle.nx_wal.proofs.WritingLemmas.{page_more}
use Rattle.nx_wal.proofs.ListLemmas.{all_gone}
use Rattle.nx_wal.proofs.GatherLemmas.{adds_then, reaches_then, reaches_wider, kept_adds, kept_reaches}
use Rattle.nx_wal.proofs.writing.add_pages.Goals as goal

pub loop-page-init : goal.loop-page-init
loop-page-init g c = record {
  gone = [];
  split = search rules;
  ends = omega arith;
  adds = kept_adds c.args.block.now c.args.disk.now;
  long = refl;
  faults = omega arith;
}

pub add_page-requires : goal.add_page-requires
add_page-requires g c =
    let so_far = c.loop-page.invariant in
    let more = rest_more deref_pair c.loop-page.page-iterator c.next.new.self c.next.result (c.in-Some.page, c.in-Some.bytes) c.in-Some.is c.next.ensures.steps in
    let few : length so_far.gone + length c.loop-page.page-iterator ≡ length c.args.waiting.now.entries = sym (length-append so_far.gone c.loop-page.page-iterator) ∙ ap length so_far.split in
    let longer : 1 ≤ length c.loop-page.page-iterator = omega (arith, ap length more) in
    omega (arith, few, longer, so_far.ends, c.requires)

pub returns-in_err-add_page-clause-reaches : goal.returns-in_err-add_page-clause-reaches
returns-in_err-add_page-clause-reaches g c =
    let so_far = c.loop-page.invariant in
    let more = rest_more deref_pair c.loop-page.page-iterator c.next.new.self c.next.result (c.in-Some.page, c.in-Some.bytes) c.in-Some.is c.next.ensures.steps in
    let few : length so_far.gone + length c.loop-page.page-iterator ≡ length c.args.waiting.now.entries = sym (length-append so_far.gone c.loop-page.page-iterator) ∙ ap length so_far.split in
    let longer : 1 ≤ length c.loop-page.page-iterator = omega (arith, ap length more) in
    reaches_wider (8196 * length so_far.gone + 8196) (8196 * length c.args.waiting.now.entries) c.args.block.now c.args.disk.now c.add_page.new.disk (omega (arith, few, longer))
    (reaches_then (entry_bytes (entries_of so_far.gone)) 8196 (8196 * length so_far.gone + 8196) (omega (arith, so_far.long)) so_far.adds c.add_page.ensures.reaches)

pub loop-page-preserved : goal.loop-page-preserved
loop-page-preserved g c =
    let so_far = c.loop-page.invariant in
    let item : ℕ × Kept = (c.in-Some.page.now, c.in-Some.bytes.now) in
    let more = rest_more deref_pair c.loop-page.page-iterator c.next.new.self c.next.result (c.in-Some.page, c.in-Some.bytes) c.in-Some.is c.next.ensures.steps in
    let longer : length (so_far.gone ++ item ∷ []) ≡ length so_far.gone + 1 = length-append so_far.gone (item ∷ []) in
    let page = c.as_ref.result.now in
    let bytes : entry_bytes (entries_of (so_far.gone ++ item ∷ [])) ≡ entry_bytes (entries_of so_far.gone) ++ (big_bytes 4 item.0 ++ page.bytes) =
    page_more so_far.gone item ∙ ap (λ (p : PageBytes). entry_bytes (entries_of so_far.gone) ++ (big_bytes 4 item.0 ++ p.bytes)) (sym c.as_ref.ensures) in
    let page_long : length (big_bytes 4 item.0 ++ page.bytes) ≡ 8196 = let long = c.in_ok-add_page.ensures.long in omega (arith, long) in
    record {
      gone = so_far.gone ++ item ∷ [];
      split = append_assoc so_far.gone (item ∷ []) c.next.new.self ∙ ap (λ (es : List (ℕ × Kept)). so_far.gone ++ es) (sym more) ∙ so_far.split;
      ends = omega (arith, so_far.ends, longer, c.in_ok-add_page.ensures.ends);
      adds = subst (λ (x : List ℕ). AddsBytes g.D.Disk x c.args.block.now c.add_page.new.block c.args.disk.now c.add_page.new.disk) (sym bytes) (adds_then so_far.adds c.in_ok-add_page.ensures.adds);
      long = omega (arith, so_far.long, longer, page_long, ap length bytes, length-append (entry_bytes (entries_of so_far.gone)) (big_bytes 4 item.0 ++ page.bytes));
      faults = omega (arith, so_far.faults, c.add_page.ensures.faults);
    }

pub returns-clause-reaches : goal.returns-clause-reaches
returns-clause-reaches g c =
    let so_far = c.loop-page.invariant in
    let all : so_far.gone ≡ c.args.waiting.now.entries = all_gone so_far.gone c.loop-page.page-iterator c.args.waiting.now.entries (c.in-None.ensures.steps).0 so_far.split in
    reaches_wider (8196 * length so_far.gone) (8196 * length c.args.waiting.now.entries) c.args.block.now c.args.disk.now c.loop-page.disk (omega (arith, ap length all))
    (reaches_then (entry_bytes (entries_of so_far.gone)) 0 (8196 * length so_far.gone) (omega (arith, so_far.long)) so_far.adds (kept_reaches 0 c.loop-page.block c.loop-page.disk))
