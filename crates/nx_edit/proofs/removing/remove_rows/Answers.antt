use Rattle.std.proofs.Common.{◌≡◌, ◌≤◌, List, [], ◌∷◌, ◌++◌, length, rules, refl, sym, ap, ◌∙◌, subst, arith}
use Rattle.std.proofs.lemmas.List.{nil_from_length}
use Rattle.std.proofs.lemmas.Result.{err_from_is_err_and}
use Rattle.nx_host.proofs.DiskLemmas.{still_then}
use Rattle.nx_piece.specs.declared.piece.Proxy.{Proxy}
use Rattle.nx_records.specs.declared.error.StoreError.{StoreError}
use Rattle.nx_records.proofs.RefusalLemmas.{err_passed}
use Rattle.nx_edit.specs.Removing.{NotRemovedRow}
use Rattle.nx_edit.proofs.RemoveLemmas.{IsGoing, going_first, going_then, going_many, going_refused, going_done, going_changed}
use Rattle.nx_edit.proofs.removing.remove_rows.Goals as goal

pub returns-in_default-clause-refused : goal.returns-in_default-clause-refused
returns-in_default-clause-refused g c = (record { before = c.requires; after = c.requires; length_stays = refl; settings_stay = refl }, λ saved has. has)

pub loop-proxy-init : goal.loop-proxy-init
loop-proxy-init g c =
    subst (λ (ps : List Proxy). IsGoing g.D.Disk c.args.proxies.now c.args.limit ps 0 c.args.gone.now.items c.args.gone.now.items c.args.records.now c.args.records.now c.args.disk.now c.args.disk.now)
    (sym (c.in-Ok.ensures.items ∙ ap (λ (ps : List Proxy). ps ++ c.args.proxies.now) c.new-stack.ensures.items))
    (going_first c.requires)

pub returns-in_err-own-clause-refused : goal.returns-in_err-own-clause-refused
returns-in_err-own-clause-refused g c =
    err_passed c.from_residual.result (λ (e : StoreError). NotRemovedRow g.D.Disk c.args.proxies.now c.args.limit e c.args.records.now c.remove_record.new.records c.args.disk.now c.remove_record.new.disk)
    c.in_err-own.field-0.0 (err_from_is_err_and c.from_residual.result c.from_residual.ensures.1)
    (going_refused c.pop.new.self.items c.in-Some.proxy c.loop-proxy.went
    (subst (λ (ps : List Proxy). IsGoing g.D.Disk c.args.proxies.now c.args.limit ps c.loop-proxy.went c.args.gone.now.items c.loop-proxy.gone.items c.args.records.now c.loop-proxy.records c.args.disk.now c.loop-proxy.disk) c.in-Some.ensures.items c.loop-proxy.invariant)
    c.remove_record.new.records c.remove_record.new.disk c.in_err-own.field-0.0 c.in_err-own.ensures.refused)

pub returns-in_err-own-clause-still : goal.returns-in_err-own-clause-still
returns-in_err-own-clause-still g c = still_then c.loop-proxy.invariant.still c.remove_record.ensures.still

pub overflow_sub-room : goal.overflow_sub-room
overflow_sub-room g c = c.loop-proxy.invariant.few

pub returns-then-room-own-clause-still : goal.returns-then-room-own-clause-still
returns-then-room-own-clause-still g c = still_then c.loop-proxy.invariant.still c.remove_record.ensures.still

pub returns-then-room-own-clause-refused : goal.returns-then-room-own-clause-refused
returns-then-room-own-clause-refused g c =
    let goes : IsGoing g.D.Disk c.args.proxies.now c.args.limit (c.pop.new.self.items ++ (c.in-Some.proxy ∷ [])) c.loop-proxy.went c.args.gone.now.items c.loop-proxy.gone.items c.args.records.now c.loop-proxy.records c.args.disk.now c.loop-proxy.disk =
    subst (λ (ps : List Proxy). IsGoing g.D.Disk c.args.proxies.now c.args.limit ps c.loop-proxy.went c.args.gone.now.items c.loop-proxy.gone.items c.args.records.now c.loop-proxy.records c.args.disk.now c.loop-proxy.disk) c.in-Some.ensures.items c.loop-proxy.invariant in
    subst (λ (e : StoreError). NotRemovedRow g.D.Disk c.args.proxies.now c.args.limit e c.args.records.now c.damaged.new.records c.args.disk.now c.remove_record.new.disk) (sym c.damaged.ensures.result)
    (going_many c.pop.new.self.items c.in-Some.proxy c.loop-proxy.went goes c.remove_record.new.records c.remove_record.new.disk c.remove_record.new.stack.items c.in_ok-own.own c.in_ok-own.ensures.ok.0 c.in_ok-own.ensures.keeps.0 c.in_ok-own.ensures.keeps.1 c.in_ok-own.ensures.ok.2
    (let more = c.if-room-own.true in omega (arith, more)) (c.damaged.ensures.ends (c.in_ok-own.ensures.keeps.0).after))

pub overflow_add-went : goal.overflow_add-went
overflow_add-went g c =
    let f : c.loop-proxy.went ≤ c.args.limit = c.loop-proxy.invariant.few in
    let most = c.if-room-own.false in
    search rules

pub loop-proxy-smaller : goal.loop-proxy-smaller
loop-proxy-smaller g c =
    let f : c.loop-proxy.went ≤ c.args.limit = c.loop-proxy.invariant.few in
    let most = c.if-room-own.false in
    let some = c.in_ok-own.ensures.some in
    omega (arith, f, most, some)

pub loop-proxy-preserved : goal.loop-proxy-preserved
loop-proxy-preserved g c =
    let goes : IsGoing g.D.Disk c.args.proxies.now c.args.limit (c.pop.new.self.items ++ (c.in-Some.proxy ∷ [])) c.loop-proxy.went c.args.gone.now.items c.loop-proxy.gone.items c.args.records.now c.loop-proxy.records c.args.disk.now c.loop-proxy.disk =
    subst (λ (ps : List Proxy). IsGoing g.D.Disk c.args.proxies.now c.args.limit ps c.loop-proxy.went c.args.gone.now.items c.loop-proxy.gone.items c.args.records.now c.loop-proxy.records c.args.disk.now c.loop-proxy.disk) c.in-Some.ensures.items c.loop-proxy.invariant in
    going_then c.pop.new.self.items c.in-Some.proxy c.loop-proxy.went goes c.remove_record.new.records c.remove_record.new.disk c.remove_record.new.stack.items c.in_ok-own.own c.in_ok-own.ensures.ok.0 c.in_ok-own.ensures.keeps.0 c.in_ok-own.ensures.keeps.1 c.in_ok-own.ensures.ok.2
    c.remove_record.new.gone.items c.in_ok-own.ensures.ok.1 c.in_ok-own.ensures.keeps.2 c.remove_record.ensures.still c.in_ok-own.ensures.some (let most = c.if-room-own.false in omega (arith, most))

pub returns-clause-still : goal.returns-clause-still
returns-clause-still g c = c.loop-proxy.invariant.still

pub returns-clause-few : goal.returns-clause-few
returns-clause-few g c = c.loop-proxy.invariant.few

pub returns-clause-ok : goal.returns-clause-ok
returns-clause-ok g c =
    let none : length c.loop-proxy.stack.items ≡ 0 = omega (arith, c.in_default-pop.ensures.cases.0, c.loop-proxy.stack.ok.0) in
    going_done c.loop-proxy.stack.items c.loop-proxy.went (nil_from_length c.loop-proxy.stack.items none) c.loop-proxy.invariant

pub returns-clause-keeps : goal.returns-clause-keeps
returns-clause-keeps g c =
    let none : length c.loop-proxy.stack.items ≡ 0 = omega (arith, c.in_default-pop.ensures.cases.0, c.loop-proxy.stack.ok.0) in
    (c.loop-proxy.invariant.runs, c.loop-proxy.invariant.keeps, λ some. going_changed c.loop-proxy.stack.items c.loop-proxy.went (nil_from_length c.loop-proxy.stack.items none) c.loop-proxy.invariant some)
