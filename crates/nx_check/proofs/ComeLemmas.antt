-- What a walk keeps from one page to the next.
use Rattle.std.proofs.Common.{◌≡◌, ℕ, ◌+◌, ◌≤◌, sym, ap, ◌∙◌, subst, arith}
use Rattle.std.specs.Prelude.{Result, Err, IfErr, min, ◌^◌, ◌-◌}
use Rattle.nx_host.specs.Disk.{Rose}
use Rattle.nx_host.specs.declared.disk.Disk.{Ghosts}
use Rattle.nx_rules.specs.declared.verdict.PageRule.{PageRule}
use Rattle.nx_check.specs.declared.error.Stop.{Stop}
use Rattle.nx_check.specs.declared.error.Stop.TheVariants as stop
use Rattle.nx_check.specs.declared.reading.Walk.{Walk}
use Rattle.nx_check.specs.Come.{StopsSo}

-- A call that failed has failed since an earlier moment, too.
pub rose_later : (x y z : ℕ) → x ≤ y → Rose y z → Rose x z
rose_later x y z later rose = let rose : min (y + 1) (2 ^ 64 - 1) ≤ z = rose in omega (arith, later, rose)

-- ... so a walk that stops stops since an earlier moment.
pub stops_later : {D : Type 0} (d : Ghosts D) (start before after : D) (Says Tells : PageRule → ℕ → Type 0) (e : Stop) → d.faults start ≤ d.faults before → ((rule : PageRule) (page : ℕ) → Says rule page → Tells rule page)
    → StopsSo d before after Says e → StopsSo d start after Tells e
stops_later d start before after Says Tells (stop.Broken page rule) later go h = go rule page h
stops_later d start before after Says Tells stop.Disk later go h = rose_later (d.faults start) (d.faults before) (d.faults after) later h
stops_later d start before after Says Tells stop.Memory later go h = tt

-- Two steps that leave all but the marks of pages, and the page that was read last.
pub same_then : (a b c : Walk) → b ≡ record a { uses = b.uses; page = b.page; at = b.at } → c ≡ record b { uses = c.uses; page = c.page; at = c.at } → c ≡ record a { uses = c.uses; page = c.page; at = c.at }
same_then a b c first second = second ∙ ap (λ (w : Walk). record w { uses = c.uses; page = c.page; at = c.at }) first

-- an error that `?` passes on
pub err_passed : {T : Type 0} (r : Result T Stop) (P : Stop → Type 0) (e : Stop) → ((y : Stop) × (r ≡ Err y) × (y ≡ e)) → P e → IfErr r P
err_passed r P e found h = subst (λ (x : Result _ Stop). IfErr x P) (sym found.1) (subst P (sym found.2) h)
