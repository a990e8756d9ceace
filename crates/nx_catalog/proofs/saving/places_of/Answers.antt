use Rattle.std.proofs.Common.{◌≡◌, ◌+◌, ℕ, List, length, ap, sym, subst, ◌∙◌, arith, length-append}
use Rattle.nx_pyx.specs.DocumentName.{by_bytes}
use Rattle.nx_catalog.specs.Inside.{IsPlaceOf}
use Rattle.nx_catalog.specs.Catalog.{document_bytes}
use Rattle.nx_catalog.proofs.WritingLemmas.{entries_bytes}
use Rattle.nx_catalog.proofs.LengthLemmas.{document_length}
use Rattle.nx_catalog.proofs.PlaceLemmas.{no_places, entries_more, place_here, places_more, walk_parts, walk_low}
use Rattle.nx_catalog.proofs.saving.places_of.Goals as goal

pub loop-name-init : goal.loop-name-init
loop-name-init c = record { end = omega arith; places = λ name at there. absurd (no_places c.new-places.result c.new-places.ensures.empty name at there) }

pub overflow_add-at : goal.overflow_add-at
overflow_add-at c =
    let low = walk_low c.args.documents.now _ _ _ c.loop-name.yielded _ (c.in-Some.name, c.in-Some.field-0-1) c.into_iter-name-iterator.ensures.into_iter_gives.0 c.loop-name.yielded_by c.in-Some.is c.next.ensures.steps c.requires c.loop-name.end
    c.loop-name.invariant.end in
    let end = low.0 in
    omega (arith, end)

pub overflow_add-at-in-loop-name : goal.overflow_add-at-in-loop-name
overflow_add-at-in-loop-name c =
    let low = walk_low c.args.documents.now _ _ _ c.loop-name.yielded _ (c.in-Some.name, c.in-Some.field-0-1) c.into_iter-name-iterator.ensures.into_iter_gives.0 c.loop-name.yielded_by c.in-Some.is c.next.ensures.steps c.requires c.loop-name.end
    c.loop-name.invariant.end in
    let end = low.0 in
    let short = low.1 in
    let same : length c.as_slice-bytes.result.now ≡ length c.in-Some.name.now.items = ap (λ (l : List ℕ). length l) c.as_slice-bytes.ensures.value in
    omega (arith, end, short, same)

pub overflow_add-end : goal.overflow_add-end
overflow_add-end c =
    let low = walk_low c.args.documents.now _ _ _ c.loop-name.yielded _ (c.in-Some.name, c.in-Some.field-0-1) c.into_iter-name-iterator.ensures.into_iter_gives.0 c.loop-name.yielded_by c.in-Some.is c.next.ensures.steps c.requires c.loop-name.end
    c.loop-name.invariant.end in
    let end = low.0 in
    let short = low.1 in
    let same : length c.as_slice-bytes.result.now ≡ length c.in-Some.name.now.items = ap (λ (l : List ℕ). length l) c.as_slice-bytes.ensures.value in
    omega (arith, end, short, same)

pub loop-name-preserved : goal.loop-name-preserved
loop-name-preserved c =
    let parts = walk_parts c.args.documents.now _ _ _ c.loop-name.yielded _ (c.in-Some.name, c.in-Some.field-0-1) c.into_iter-name-iterator.ensures.into_iter_gives.0 c.loop-name.yielded_by c.in-Some.is c.next.ensures.steps in
    let same : length c.as_slice-bytes.result.now ≡ length c.in-Some.name.now.items = ap (λ (l : List ℕ). length l) c.as_slice-bytes.ensures.value in
    let so_far = c.loop-name.invariant.end in
    let bytes = ap (λ (l : List ℕ). length l) (entries_more c.loop-name.yielded (c.in-Some.name, c.in-Some.field-0-1)) in
    let both = length-append (entries_bytes c.loop-name.yielded) (document_bytes (c.in-Some.name.now.items, c.in-Some.field-0-1.now)) in
    let one = document_length (c.in-Some.name.now.items, c.in-Some.field-0-1.now) in
    let place = place_here c.args.documents.now.entries c.loop-name.yielded (c.in-Some.name, c.in-Some.field-0-1) _ c.loop-name.end parts so_far in
    record {
      end = omega (arith, same, so_far, bytes, both, one);
      places = places_more (by_bytes c.args.documents.now.entries) c.loop-name.places c.insert.new.self c.in_ok-key.key c.in-Some.name.now.items (c.loop-name.end + 2 + length c.as_slice-bytes.result.now) (c.in_ok-key.ensures.items ∙ c.as_slice-bytes.ensures.value)
          c.in_ok-insert.ensures.updates (subst (λ (n : ℕ). IsPlaceOf (by_bytes c.args.documents.now.entries) c.in-Some.name.now.items (c.loop-name.end + 2 + n)) (sym same) place) c.loop-name.invariant.places;
    }
