use Rattle.std.proofs.Common.{◌≡◌, ℕ, ◌+◌, ◌*◌, ◌<◌, List, [], ◌∷◌, ◌++◌, arith, refl, rules, length, sym, ap, subst, ◌∙◌, append_assoc, length-append, cond}
use Rattle.std.specs.Prelude.{Some, IsSome, All}
use Rattle.std.specs.Map.{keys_of}
use Rattle.std.specs.List.{AllByRecursion}
use Rattle.std.specs.Map.Iter.{deref_pair}
use Rattle.std.specs.BTreeMap.{get, is_at}
use Rattle.std.specs.Ordering.{nat_cmp}
use Rattle.std.proofs.lemmas.Map.Iter.{rest_more}
use Rattle.std.proofs.lemmas.Bool.{false≢true}
use Rattle.nx_replay.specs.Log.{entry_bytes, rise}
use Rattle.nx_wal.specs.Places.{Kept, MayWait, IsWholePage}
use Rattle.nx_wal.specs.Writing.{entries_of}
use Rattle.nx_wal.proofs.ReadingLemmas.{within_more}
use Rattle.nx_wal.proofs.ListLemmas.{all_keys, all_values, all_middle}
use Rattle.nx_wal.proofs.WaitingLemmas.{waiting_rise, notes_more, keeps_more}
use Rattle.nx_wal.proofs.places.set_places.Goals as goal

pub loop-page-init : goal.loop-page-init
loop-page-init c = record {
  gone = [];
  split = search rules;
  here = omega arith;
  keeps = λ q some. some;
  notes = λ log rest bytes p. refl;
  within = λ limit fits old. old;
}

pub unreachable-requires : goal.unreachable-requires
unreachable-requires c =
    let so_far = c.loop-page.invariant in
    let item : ℕ × Kept = (c.in-Some.page.now, c.in-Some.field-0-1.now) in
    let more = rest_more deref_pair c.loop-page.page-iterator c.next.new.self c.next.result (c.in-Some.page, c.in-Some.field-0-1) c.in-Some.is c.next.ensures.steps in
    let split : so_far.gone ++ item ∷ c.next.new.self ≡ c.args.waiting.now.entries = ap (λ (es : List (ℕ × Kept)). so_far.gone ++ es) (sym more) ∙ so_far.split in
    let can = λ (e : ℕ × Kept). MayWait c.args.places.now e.0 in
    let may = all_middle can so_far.gone c.next.new.self item
    (subst (λ (es : List (ℕ × Kept)). AllByRecursion can es) (sym split) (all_keys (MayWait c.args.places.now) c.args.waiting.now.entries c.requires.numbers)) in
    false≢true (subst IsSome c.in-Err.ensures.absent (so_far.keeps item.0 may.1))

pub loop-page-preserved : goal.loop-page-preserved
loop-page-preserved c =
    let so_far = c.loop-page.invariant in
    let gone = so_far.gone in
    let item : ℕ × Kept = (c.in-Some.page.now, c.in-Some.field-0-1.now) in
    let left : List (ℕ × Kept) = c.next.new.self in
    let all : List (ℕ × Kept) = c.args.waiting.now.entries in
    let more = rest_more deref_pair c.loop-page.page-iterator c.next.new.self c.next.result (c.in-Some.page, c.in-Some.field-0-1) c.in-Some.is c.next.ensures.steps in
    let split : gone ++ item ∷ left ≡ all = ap (λ (es : List (ℕ × Kept)). gone ++ es) (sym more) ∙ so_far.split in
    let longer : length (gone ++ item ∷ []) ≡ length gone + 1 = length-append gone (item ∷ []) in
    let few : length gone + length (item ∷ left) ≡ length all = sym (length-append gone (item ∷ left)) ∙ ap length split in
    let updates = c.in-Ok.ensures.updates in
    let here : c.loop-page.place + 4 ≡ c.args.at + 8196 * length gone + 4 = omega (arith, so_far.here) in
    let low : All (λ k. k < 16777216) (keys_of all) = λ k d within. (c.requires.numbers k d within).0 in
    record {
      gone = gone ++ item ∷ [];
      split = append_assoc gone (item ∷ []) left ∙ split;
      here = omega (arith, so_far.here, longer);
      keeps = λ q some. keeps_more item.0 (Some (c.loop-page.place + 4)) c.loop-page.places c.insert.new.self updates.0 q (so_far.keeps q some);
      notes = λ log rest bytes.
          notes_more c.args.at gone left item log rest
          (subst (λ (es : List (ℕ × Kept)). AllByRecursion (λ (e : ℕ × Kept). length e.1.value.bytes ≡ 8192) es) (sym split) (all_values IsWholePage all c.requires.whole))
          (bytes ∙ ap (λ (es : List (ℕ × Kept)). entry_bytes (entries_of es) ++ rest) (sym split))
          c.args.places.now c.loop-page.places c.insert.new.self
          (ap (λ (es : List (ℕ × Kept)). rise 0 (entries_of es)) split ∙ waiting_rise all c.iter-page-items.ensures.ordered low)
          (λ q. updates.0 q ∙ ap (λ (k : ℕ). cond (is_at (nat_cmp item.0) q) (Some (Some k)) (get nat_cmp c.loop-page.places q)) here)
          (so_far.notes log rest bytes);
      within = λ limit fits old.
          within_more limit item.0 (c.loop-page.place + 4) c.loop-page.places c.insert.new.self (omega (arith, so_far.here, few, fits)) updates.0 (so_far.within limit fits old);
    }
