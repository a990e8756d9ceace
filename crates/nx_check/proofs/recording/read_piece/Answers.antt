use Rattle.std.proofs.Common.{◌*◌, ◌++◌, ◌∷◌, ℕ, List, [], None, Some, refl, sym, ap, subst, arith}
use Rattle.std.specs.Prelude.{Option}
use Rattle.std.proofs.lemmas.Result.{err_from_is_err_and}
use Rattle.nx_replay.specs.Log.{replay}
use Rattle.nx_holdings.specs.Holdings.{pages_of_links}
use Rattle.nx_piece.specs.declared.piece.Far.{Far}
use Rattle.nx_piece.specs.declared.piece.Piece.{Piece}
use Rattle.nx_piece.specs.declared.piece.Stored.{Stored}
use Rattle.nx_piece.specs.declared.piece.Stored.TheVariants.{Inline, Chained}
use Rattle.nx_piece.specs.declared.viewing.StoredView.{StoredView}
use Rattle.nx_piece.specs.Contents.{fars_in}
use Rattle.nx_piece.specs.Decoded.{IsDecoded}
use Rattle.nx_piece.specs.Gapped.{Gapped}
use Rattle.nx_piece.specs.Viewing.{seen_items, seen_stored, viewed}
use Rattle.nx_layouts.specs.Layout.{RecordPlace}
use Rattle.nx_rules.specs.Walked.{named_place, StandOn}
use Rattle.nx_rules.specs.Tour.{all_reached, used_in}
use Rattle.nx_check.specs.declared.error.Stop.{Stop}
use Rattle.nx_check.specs.Come.{HasCome, StopsSo}
use Rattle.nx_check.specs.Lists.{WalksLists, SaysLists}
use Rattle.nx_check.proofs.ChainLemmas.{SaysList}
use Rattle.nx_check.proofs.ComeLemmas.{stops_later, err_passed}
use Rattle.nx_check.proofs.RecordingLemmas.{SaysIn, at_form, lists_at, one_list_walks, one_list_says, front_says, back_says, used_behind, list_alone, chained_count, reads_inline, reads_chained}
use Rattle.nx_check.proofs.recording.read_piece.Goals as goal

pub returns-in-None-clause-refused : goal.returns-in-None-clause-refused
returns-in-None-clause-refused g c =
    let bytes : List ℕ = c.args.bytes.now in
    let none : IsDecoded bytes None = subst (λ (o : Option StoredView). IsDecoded bytes (viewed o)) c.in-None.is c.in_ok-found.ensures in
    subst (λ (e : Stop). StopsSo g.D.Disk c.args.disk.now c.args.disk.now (SaysIn g.D.Disk c.args.walk.now c.args.disk.now c.args.page c.args.slot bytes) e) (sym c.broken.ensures)
    (λ was base tour visit named come here found fresh. at_form (replay was) tour visit named c.args.page c.args.page c.args.slot bytes here found fresh none)

pub returns-in_err-walk_contents-in-Inline-clause-refused : goal.returns-in_err-walk_contents-in-Inline-clause-refused
returns-in_err-walk_contents-in-Inline-clause-refused g c =
    let bytes : List ℕ = c.args.bytes.now in
    let piece : Piece = record { body = c.piece.inside.body; proxies = c.piece.inside.proxies } in
    let is : IsDecoded bytes (Some (Inline piece)) =
    subst (λ (p : Piece). IsDecoded bytes (Some (Inline p))) (sym c.piece.view_is)
    (subst (λ (s : StoredView). IsDecoded bytes (Some (seen_stored s))) c.in-Inline.is (subst (λ (o : Option StoredView). IsDecoded bytes (viewed o)) c.in-Some.is c.in_ok-found.ensures)) in
    let fars : List Far = fars_in (seen_items c.roots.result) in
    err_passed c.from_residual-in_err-walk_contents-in-Inline.result (λ (e : Stop). StopsSo g.D.Disk c.args.disk.now c.walk_contents.new.disk (SaysIn g.D.Disk c.args.walk.now c.args.disk.now c.args.page c.args.slot bytes) e) c.in_err-walk_contents-in-Inline.field-0.0
    (err_from_is_err_and c.from_residual-in_err-walk_contents-in-Inline.result c.from_residual-in_err-walk_contents-in-Inline.ensures.1)
    (stops_later g.D.Disk c.args.disk.now c.args.disk.now c.walk_contents.new.disk (SaysLists g.D.Disk c.args.walk.now c.args.disk.now c.args.page fars) (SaysIn g.D.Disk c.args.walk.now c.args.disk.now c.args.page c.args.slot bytes)
    c.in_err-walk_contents-in-Inline.field-0.0 (omega arith) (lists_at g.D.Disk c.args.walk.now c.args.disk.now c.args.page c.args.slot bytes (Inline piece) fars is (ap fars_in c.roots.ensures)) c.in_err-walk_contents-in-Inline.ensures.refused)

pub read_proxies-requires-clause-some : goal.read_proxies-requires-clause-some
read_proxies-requires-clause-some g c =
    let bytes : List ℕ = c.args.bytes.now in
    let is : IsDecoded bytes (Some (Chained c.in-Chained.body c.in-Chained.count c.in-Chained.chain)) =
    subst (λ (s : StoredView). IsDecoded bytes (Some (seen_stored s))) c.in-Chained.is (subst (λ (o : Option StoredView). IsDecoded bytes (viewed o)) c.in-Some.is c.in_ok-found.ensures) in
    chained_count c.in-Chained.body.roots c.in-Chained.count is.0

pub returns-in_err-proxies-in-Chained-clause-refused : goal.returns-in_err-proxies-in-Chained-clause-refused
returns-in_err-proxies-in-Chained-clause-refused g c =
    let bytes : List ℕ = c.args.bytes.now in
    let stored : Stored = Chained c.in-Chained.body c.in-Chained.count c.in-Chained.chain in
    let is : IsDecoded bytes (Some stored) = subst (λ (s : StoredView). IsDecoded bytes (Some (seen_stored s))) c.in-Chained.is (subst (λ (o : Option StoredView). IsDecoded bytes (viewed o)) c.in-Some.is c.in_ok-found.ensures) in
    let far : Far = record { first = c.in-Chained.chain; length = 8 * c.in-Chained.count } in
    let fars : List Far = fars_in c.in-Chained.body.roots in
    err_passed c.from_residual-in_err-proxies-in-Chained.result (λ (e : Stop). StopsSo g.D.Disk c.args.disk.now c.read_proxies.new.disk (SaysIn g.D.Disk c.args.walk.now c.args.disk.now c.args.page c.args.slot bytes) e) c.in_err-proxies-in-Chained.field-0.0
    (err_from_is_err_and c.from_residual-in_err-proxies-in-Chained.result c.from_residual-in_err-proxies-in-Chained.ensures.1)
    (stops_later g.D.Disk c.args.disk.now c.args.disk.now c.read_proxies.new.disk (SaysList g.D.Disk c.args.walk.now c.args.disk.now c.args.page far.first far.length) (SaysIn g.D.Disk c.args.walk.now c.args.disk.now c.args.page c.args.slot bytes)
    c.in_err-proxies-in-Chained.field-0.0 (omega arith)
    (λ rule page h. lists_at g.D.Disk c.args.walk.now c.args.disk.now c.args.page c.args.slot bytes stored (far ∷ fars) is refl rule page
    (front_says g.D.Disk c.args.walk.now c.args.disk.now c.args.page (far ∷ []) fars rule page (one_list_says g.D.Disk c.args.walk.now c.args.disk.now c.args.page far rule page h)))
    c.in_err-proxies-in-Chained.ensures.refused)

pub returns-in_err-walk_contents-in-Chained-clause-refused : goal.returns-in_err-walk_contents-in-Chained-clause-refused
returns-in_err-walk_contents-in-Chained-clause-refused g c =
    let bytes : List ℕ = c.args.bytes.now in
    let stored : Stored = Chained c.in-Chained.body c.in-Chained.count c.in-Chained.chain in
    let is : IsDecoded bytes (Some stored) = subst (λ (s : StoredView). IsDecoded bytes (Some (seen_stored s))) c.in-Chained.is (subst (λ (o : Option StoredView). IsDecoded bytes (viewed o)) c.in-Some.is c.in_ok-found.ensures) in
    let far : Far = record { first = c.in-Chained.chain; length = 8 * c.in-Chained.count } in
    let fars : List Far = fars_in (seen_items c.roots-in-Chained.result) in
    let walked : WalksLists g.D.Disk c.args.walk.now c.args.disk.now c.read_proxies.new.walk c.read_proxies.new.disk (far ∷ []) =
    one_list_walks g.D.Disk c.args.walk.now c.read_proxies.new.walk c.args.disk.now c.read_proxies.new.disk far
    (λ was base free used reached come. (let h = c.in_ok-proxies-in-Chained.ensures.ok was base free used reached come in (h.0, h.1, h.3))) in
    err_passed c.from_residual-in_err-walk_contents-in-Chained.result (λ (e : Stop). StopsSo g.D.Disk c.args.disk.now c.walk_contents-in-Chained.new.disk (SaysIn g.D.Disk c.args.walk.now c.args.disk.now c.args.page c.args.slot bytes) e) c.in_err-walk_contents-in-Chained.field-0.0
    (err_from_is_err_and c.from_residual-in_err-walk_contents-in-Chained.result c.from_residual-in_err-walk_contents-in-Chained.ensures.1)
    (stops_later g.D.Disk c.args.disk.now c.read_proxies.new.disk c.walk_contents-in-Chained.new.disk (SaysLists g.D.Disk c.read_proxies.new.walk c.read_proxies.new.disk c.args.page fars) (SaysIn g.D.Disk c.args.walk.now c.args.disk.now c.args.page c.args.slot bytes)
    c.in_err-walk_contents-in-Chained.field-0.0 c.read_proxies.ensures.still.faults_later
    (λ rule page h. lists_at g.D.Disk c.args.walk.now c.args.disk.now c.args.page c.args.slot bytes stored (far ∷ fars) is (ap (λ (f : Gapped). far ∷ fars_in f) c.roots-in-Chained.ensures) rule page
    (back_says g.D.Disk c.args.walk.now c.read_proxies.new.walk c.args.disk.now c.read_proxies.new.disk c.args.page (far ∷ []) fars walked rule page h))
    c.in_err-walk_contents-in-Chained.ensures.refused)

pub returns-in_ok-walk_contents-in-Inline-clause-ok : goal.returns-in_ok-walk_contents-in-Inline-clause-ok
returns-in_ok-walk_contents-in-Inline-clause-ok g c = λ was base tour named come here found fresh.
    let bytes : List ℕ = c.args.bytes.now in
    let piece : Piece = record { body = c.piece.inside.body; proxies = c.piece.inside.proxies } in
    let is : IsDecoded bytes (Some (Inline piece)) =
    subst (λ (p : Piece). IsDecoded bytes (Some (Inline p))) (sym c.piece.view_is)
    (subst (λ (s : StoredView). IsDecoded bytes (Some (seen_stored s))) c.in-Inline.is (subst (λ (o : Option StoredView). IsDecoded bytes (viewed o)) c.in-Some.is c.in_ok-found.ensures)) in
    let h = c.in_ok-walk_contents-in-Inline.ensures.ok was base tour.free (used_in tour) (all_reached tour.visits ++ named_place named ∷ []) come in
    let stand = subst (λ (f : Gapped). StandOn (replay was) (fars_in f) h.0) c.roots.ensures h.1 in
    let read = reads_inline (replay was) tour named bytes piece h.0 found fresh is stand h.2.once in
    (h.0, read.0, read.1, read.2, read.3, h.2)

pub returns-in_ok-walk_contents-in-Chained-clause-ok : goal.returns-in_ok-walk_contents-in-Chained-clause-ok
returns-in_ok-walk_contents-in-Chained-clause-ok g c = λ was base tour named come here found fresh.
    let bytes : List ℕ = c.args.bytes.now in
    let is : IsDecoded bytes (Some (Chained c.in-Chained.body c.in-Chained.count c.in-Chained.chain)) =
    subst (λ (s : StoredView). IsDecoded bytes (Some (seen_stored s))) c.in-Chained.is (subst (λ (o : Option StoredView). IsDecoded bytes (viewed o)) c.in-Some.is c.in_ok-found.ensures) in
    let reached : List RecordPlace = all_reached tour.visits ++ named_place named ∷ [] in
    let first = c.in_ok-proxies-in-Chained.ensures.ok was base tour.free (used_in tour) reached come in
    let h = c.in_ok-walk_contents-in-Chained.ensures.ok was base tour.free (used_in tour ++ pages_of_links first.0) reached first.3 in
    let stand = subst (λ (f : Gapped). StandOn (replay was) (fars_in f) h.0) c.roots-in-Chained.ensures h.1 in
    let all = subst (λ (l : List ℕ). HasCome g.D.Disk c.walk_contents-in-Chained.new.walk c.walk_contents-in-Chained.new.disk was base tour.free l reached) (sym (used_behind (used_in tour) first.0 h.0)) h.2 in
    let numbers = c.in_ok-proxies-in-Chained.ensures.numbers in
    let read = reads_chained (replay was) tour named bytes c.in-Chained.body c.in-Chained.count c.in-Chained.chain c.in_ok-proxies-in-Chained.proxies first.0 h.0 found fresh is
    (list_alone (replay was) (used_in tour) c.in-Chained.chain (8 * c.in-Chained.count) first.0 first.1) first.2 c.in_ok-proxies-in-Chained.ensures.many numbers.0 numbers.1 stand all.once in
    (first.0 ∷ h.0, read.0, read.1, read.2, read.3, all)
