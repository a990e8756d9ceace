use Rattle.std.proofs.Common.{rules, ◌≡◌, ◌<◌, ℕ, List, length, get_or, sym, ap, ◌∙◌, subst, arith, nat_cmp}
use Rattle.std.specs.List.Sorted.{IsNonDecreasingBy, IsPartitionPoint}
use Rattle.std.specs.Ordering.{ordering_index}
use Rattle.std.specs.declared.cmp.Ordering.TheVariants.{Less, Equal, Greater}
use Rattle.std.proofs.lemmas.List.Sorted.{answers_always}
use Rattle.nx_layouts.specs.Layout.{RecordPlace}
use Rattle.nx_names.specs.declared.noted.Noted.{Noted}
use Rattle.nx_names.specs.Serials.{noted_key}
use Rattle.nx_names.proofs.NotedLemmas.{found_noted, missing_noted, rising_sorted}
use Rattle.nx_names.proofs.map.LabelMap.serial_at.Goals as goal

pub returns-in-Ok : goal.returns-in-Ok
returns-in-Ok c = λ test.
    let map = c.args.self.now in
    let place : RecordPlace = record { page = c.args.page; slot = c.args.slot } in
    let position = c.in-Ok.ensures.position noted_key (answers_always _ _ _ (λ f a r g called. search rules)) in
    let equal = subst (λ (rs : List Noted). (d : Noted) → nat_cmp (noted_key (get_or rs c.in-Ok.index d)) c.key_of-key.result ≡ Equal) c.deref.ensures.value position in
    let bound : c.in-Ok.index < length map.placed.items = subst (λ (rs : List Noted). c.in-Ok.index < length rs) c.deref.ensures.value c.in-Ok.ensures.bound in
    let d = c.index.result.now in
    found_noted map.placed.items map.small (rising_sorted map.placed.items map.rise) place (omega (arith, c.ranges.slot.fits)) map.rise c.in-Ok.index d bound
    (subst (λ (k : ℕ). nat_cmp (noted_key (get_or map.placed.items c.in-Ok.index d)) k ≡ Equal) c.key_of-key.ensures (equal d)) test
    ∙ ap (λ (n : Noted). test n.serial) (sym c.index.ensures)

pub returns-in-Err : goal.returns-in-Err
returns-in-Err c = λ test.
    let map = c.args.self.now in
    let place : RecordPlace = record { page = c.args.page; slot = c.args.slot } in
    let position = c.in-Err.ensures.position noted_key (answers_always _ _ _ (λ f a r g called. search rules)) in
    missing_noted map.placed.items map.small (rising_sorted map.placed.items map.rise) place (omega (arith, c.ranges.slot.fits)) c.in-Err.field-0
    (subst (λ (k : ℕ). IsNonDecreasingBy (λ r. ordering_index (nat_cmp (noted_key r) k)) map.placed.items → IsPartitionPoint (λ r. nat_cmp (noted_key r) k ≡ Less) (λ r. nat_cmp (noted_key r) k ≡ Greater) map.placed.items c.in-Err.field-0) c.key_of-key.ensures
    (subst (λ (rs : List Noted). IsNonDecreasingBy (λ r. ordering_index (nat_cmp (noted_key r) c.key_of-key.result)) rs → IsPartitionPoint (λ r. nat_cmp (noted_key r) c.key_of-key.result ≡ Less) (λ r. nat_cmp (noted_key r) c.key_of-key.result ≡ Greater) rs c.in-Err.field-0) c.deref.ensures.value position)) test
