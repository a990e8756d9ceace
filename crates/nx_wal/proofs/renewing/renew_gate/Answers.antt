use Rattle.std.proofs.Common.{◌≡◌, ℕ, List, length, sym, subst, ◌∙◌}
use Rattle.std.specs.Prelude.{Some, slice_get, ◌-◌}
use Rattle.nx_host.specs.Disk.{IsRenewedLast}
use Rattle.nx_host.specs.declared.disk.Area.TheVariants.{Log}
use Rattle.nx_replay.specs.Log.{groups}
use Rattle.nx_replay.proofs.SettledLemmas.{on_ok}
use Rattle.nx_wal.specs.Places.{starts_from}
use Rattle.nx_wal.specs.Renewing.{first_byte}
use Rattle.nx_wal.proofs.ReadingLemmas.{some_same}
use Rattle.nx_wal.proofs.RenewLemmas.{last_is}
use Rattle.nx_wal.proofs.renewing.renew_gate.Goals as goal

pub returns-in-Some-clause-renewed : goal.returns-in-Some-clause-renewed
returns-in-Some-clause-renewed g c = on_ok c.renew_byte.result c.renew_byte.ensures.renewed (λ renewed was at told begins gate.
    let here = c.in-Some.at.now in
    let value : Some here ≡ slice_get (starts_from 0 (groups was.log)) (length (starts_from 0 (groups was.log)) - 1) =
    subst (λ (l : List ℕ). Some here ≡ slice_get l (length l - 1)) begins c.in-Some.ensures.value in
    let same : here ≡ at = some_same (sym (last_is (first_byte was.log) (starts_from 0 (groups was.log)) here value) ∙ gate) in
    subst (λ (n : ℕ). IsRenewedLast Log n (g.D.Disk.renewed c.renew_byte.new.disk)) same renewed)
