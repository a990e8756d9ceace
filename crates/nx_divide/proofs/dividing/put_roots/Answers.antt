use Rattle.std.proofs.Common.{◌≡◌, ◌≤◌, take, drop, List, ap, ◌∙◌, subst, arith}
use Rattle.std.specs.Option.{is_some}
use Rattle.std.specs.Vec.Iter.{into_iter_items}
use Rattle.std.proofs.lemmas.Result.{err_from_is_err_and}
use Rattle.nx_parts.specs.Marks.{holder_by_marks}
use Rattle.nx_records.specs.declared.error.StoreError.{StoreError}
use Rattle.nx_records.proofs.RefusalLemmas.{err_passed}
use Rattle.nx_piece.specs.declared.piece.Item.{Item}
use Rattle.nx_piece.specs.declared.piece.Proxy.{Proxy}
use Rattle.nx_piece.specs.Gapped.{item_count, proxies_in}
use Rattle.nx_piece.specs.Items.{gapped_of}
use Rattle.nx_build.specs.Rows.{with_proxy}
use Rattle.nx_hold.specs.Changes.{place_of}
use Rattle.nx_drafts.specs.Draft.{Draft, Ends, draft_needs}
use Rattle.nx_divide.specs.Marked.{IsMarkedRow, many}
use Rattle.nx_divide.specs.Putting.{PutsRow}
use Rattle.nx_divide.specs.Dividing.{NotPutAt}
use Rattle.nx_divide.proofs.LeftLemmas.{many-take, many-drop, count-take, count-drop}
use Rattle.nx_divide.proofs.CallLemmas.{put_read}
use Rattle.nx_divide.proofs.PlaceLemmas.{not_read, no_memory}
use Rattle.nx_divide.proofs.LastLemmas.{front_can, last_can, front_not, front_room, last_not, update_not, row_put, row_memory}
use Rattle.nx_divide.proofs.dividing.put_roots.Goals as goal

pub returns-in_err-read-clause-refused : goal.returns-in_err-read-clause-refused
returns-in_err-read-clause-refused g c =
    err_passed c.from_residual.result
    (λ (e : StoreError). (drawn : Draft (Unit {0})) → IsMarkedRow (holder_by_marks c.args.marks.now) (gapped_of c.args.roots.items) (into_iter_items c.args.olds.now) drawn → NotPutAt g.D.Disk (place_of c.args.rid) (draft_needs drawn) e c.args.records.now c.read.new.self c.args.disk.now c.read.new.disk)
    c.in_err-read.field-0.0 (err_from_is_err_and c.from_residual.result c.from_residual.ensures.1)
    (λ drawn m. not_read g.D.Disk c.args.records.now c.read.new.self c.args.disk.now c.read.new.disk (place_of c.args.rid) c.args.rid.page (draft_needs drawn) c.read.ensures.still c.in_err-read.field-0.0 c.in_err-read.ensures.refused)

pub returns-in_default-clause-refused : goal.returns-in_default-clause-refused
returns-in_default-clause-refused g c = λ drawn m. no_memory {d = g.D.Disk} (place_of c.args.rid) (draft_needs drawn) Ends (put_read {d = g.D.Disk} c.in_ok-read.ensures.ok.0 c.in_ok-read.ensures.ok.1 c.read.ensures.still)

pub items_of-requires-clause-few : goal.items_of-requires-clause-few
items_of-requires-clause-few g c =
    let e : many (gapped_of c.split_off.new.self.items) ≡ many (gapped_of (take c.last_begin-first.result c.args.roots.items)) = ap (λ (l : List Item). many (gapped_of l)) c.in-Ok.ensures.items in
    let less = many-take c.last_begin-first.result c.args.roots.items in
    let most : many (gapped_of c.args.roots.items) ≤ 524288 = c.requires.few in
    omega (arith, e, less, most)

pub items_of-requires-clause-small : goal.items_of-requires-clause-small
items_of-requires-clause-small g c =
    let e : item_count (gapped_of c.split_off.new.self.items) ≡ item_count (gapped_of (take c.last_begin-first.result c.args.roots.items)) = ap (λ (l : List Item). item_count (gapped_of l)) c.in-Ok.ensures.items in
    let less = count-take c.last_begin-first.result c.args.roots.items in
    let most : item_count (gapped_of c.args.roots.items) ≤ 1048576 = c.requires.small in
    omega (arith, e, less, most)

pub items_of-requires-clause-marked : goal.items_of-requires-clause-marked
items_of-requires-clause-marked g c = front_can c.args.marks.now c.args.roots.items (into_iter_items c.args.olds.now) c.len-len.result c.last_begin-first.result (omega (arith, c.len-len.ensures, c.args.roots.ok.0)) c.last_begin-first.ensures.within c.last_begin-first.ensures.held c.last_begin-first.ensures.begins c.requires.marked.0 c.requires.marked.1 c.split_off.new.self.items c.in-Ok.ensures.items

pub returns-in_err-front-clause-refused : goal.returns-in_err-front-clause-refused
returns-in_err-front-clause-refused g c =
    err_passed c.from_residual-in_err-front.result
    (λ (e : StoreError). (drawn : Draft (Unit {0})) → IsMarkedRow (holder_by_marks c.args.marks.now) (gapped_of c.args.roots.items) (into_iter_items c.args.olds.now) drawn → NotPutAt g.D.Disk (place_of c.args.rid) (draft_needs drawn) e c.args.records.now c.items_of.new.records c.args.disk.now c.items_of.new.disk)
    c.in_err-front.field-0.0 (err_from_is_err_and c.from_residual-in_err-front.result c.from_residual-in_err-front.ensures.1)
    (λ drawn m. front_not c.args.marks.now c.args.roots.items (into_iter_items c.args.olds.now) c.len-len.result c.last_begin-first.result (omega (arith, c.len-len.ensures, c.args.roots.ok.0)) c.last_begin-first.ensures.within c.last_begin-first.ensures.held c.last_begin-first.ensures.begins drawn m {d = g.D.Disk} (place_of c.args.rid) (put_read {d = g.D.Disk} c.in_ok-read.ensures.ok.0 c.in_ok-read.ensures.ok.1 c.read.ensures.still) c.split_off.new.self.items c.in-Ok.ensures.items c.items_of.new.records c.items_of.new.disk c.in_err-front.field-0.0 c.in_err-front.ensures.refused)

pub gather_piece-requires-clause-runs : goal.gather_piece-requires-clause-runs
gather_piece-requires-clause-runs g c =
    let front = front_can c.args.marks.now c.args.roots.items (into_iter_items c.args.olds.now) c.len-len.result c.last_begin-first.result (omega (arith, c.len-len.ensures, c.args.roots.ok.0)) c.last_begin-first.ensures.within c.last_begin-first.ensures.held c.last_begin-first.ensures.begins c.requires.marked.0 c.requires.marked.1 c.split_off.new.self.items c.in-Ok.ensures.items in
    (((c.in_ok-front.ensures.ok front.0 front.1).put).runs).after

pub gather_piece-requires-clause-few : goal.gather_piece-requires-clause-few
gather_piece-requires-clause-few g c =
    let e : many (gapped_of (into_iter_items c.into_iter-left.result)) ≡ many (gapped_of (drop c.last_begin-first.result c.args.roots.items)) = ap (λ (l : List Item). many (gapped_of l)) (c.into_iter-left.ensures.rest ∙ c.in-Ok.ensures.tail) in
    let less = many-drop c.last_begin-first.result c.args.roots.items in
    let most : many (gapped_of c.args.roots.items) ≤ 524288 = c.requires.few in
    omega (arith, e, less, most)

pub gather_piece-requires-clause-small : goal.gather_piece-requires-clause-small
gather_piece-requires-clause-small g c =
    let e : item_count (gapped_of (into_iter_items c.into_iter-left.result)) ≡ item_count (gapped_of (drop c.last_begin-first.result c.args.roots.items)) = ap (λ (l : List Item). item_count (gapped_of l)) (c.into_iter-left.ensures.rest ∙ c.in-Ok.ensures.tail) in
    let less = count-drop c.last_begin-first.result c.args.roots.items in
    let most : item_count (gapped_of c.args.roots.items) ≤ 1048576 = c.requires.small in
    omega (arith, e, less, most)

pub gather_piece-requires-clause-marked : goal.gather_piece-requires-clause-marked
gather_piece-requires-clause-marked g c = last_can c.args.marks.now c.args.roots.items (into_iter_items c.args.olds.now) c.len-len.result c.last_begin-first.result (omega (arith, c.len-len.ensures, c.args.roots.ok.0)) c.last_begin-first.ensures.within c.last_begin-first.ensures.held c.last_begin-first.ensures.begins c.requires.marked.0 c.requires.marked.1 c.split_off.new.self.items (into_iter_items c.into_iter-left.result) (into_iter_items c.items_of.new.olds) c.in-Ok.ensures.items (c.into_iter-left.ensures.rest ∙ c.in-Ok.ensures.tail) c.in_ok-front.ensures.olds

pub returns-in_err-last-clause-refused : goal.returns-in_err-last-clause-refused
returns-in_err-last-clause-refused g c =
    err_passed c.from_residual-in_err-last.result
    (λ (e : StoreError). (drawn : Draft (Unit {0})) → IsMarkedRow (holder_by_marks c.args.marks.now) (gapped_of c.args.roots.items) (into_iter_items c.args.olds.now) drawn → NotPutAt g.D.Disk (place_of c.args.rid) (draft_needs drawn) e c.args.records.now c.gather_piece.new.records c.args.disk.now c.gather_piece.new.disk)
    c.in_err-last.field-0.0 (err_from_is_err_and c.from_residual-in_err-last.result c.from_residual-in_err-last.ensures.1)
    (λ drawn m. last_not c.args.marks.now c.args.roots.items (into_iter_items c.args.olds.now) c.len-len.result c.last_begin-first.result (omega (arith, c.len-len.ensures, c.args.roots.ok.0)) c.last_begin-first.ensures.within c.last_begin-first.ensures.held c.last_begin-first.ensures.begins drawn m {d = g.D.Disk} (place_of c.args.rid) (put_read {d = g.D.Disk} c.in_ok-read.ensures.ok.0 c.in_ok-read.ensures.ok.1 c.read.ensures.still) c.split_off.new.self.items c.in-Ok.ensures.items c.in_ok-front.front c.items_of.new.proxies (λ front marked. subst (λ (l : List Proxy). PutsRow g.D.Disk c.read.new.self c.items_of.new.records c.read.new.disk c.items_of.new.disk front c.in_ok-front.front l c.items_of.new.proxies) c.new-proxies.ensures (c.in_ok-front.ensures.ok front marked)) (into_iter_items c.into_iter-left.result) (into_iter_items c.items_of.new.olds) (c.into_iter-left.ensures.rest ∙ c.in-Ok.ensures.tail) c.in_ok-front.ensures.olds c.gather_piece.new.records c.gather_piece.new.disk c.in_err-last.field-0.0 c.in_err-last.ensures.refused)

pub returns-in_err-proxy-clause-refused : goal.returns-in_err-proxy-clause-refused
returns-in_err-proxy-clause-refused g c =
    err_passed c.from_residual-in_err-proxy.result
    (λ (e : StoreError). (drawn : Draft (Unit {0})) → IsMarkedRow (holder_by_marks c.args.marks.now) (gapped_of c.args.roots.items) (into_iter_items c.args.olds.now) drawn → NotPutAt g.D.Disk (place_of c.args.rid) (draft_needs drawn) e c.args.records.now c.update_piece.new.records c.args.disk.now c.update_piece.new.disk)
    c.in_err-proxy.field-0.0 (err_from_is_err_and c.from_residual-in_err-proxy.result c.from_residual-in_err-proxy.ensures.1)
    (λ drawn m. update_not c.args.marks.now c.args.roots.items (into_iter_items c.args.olds.now) c.len-len.result c.last_begin-first.result (omega (arith, c.len-len.ensures, c.args.roots.ok.0)) c.last_begin-first.ensures.within c.last_begin-first.ensures.held c.last_begin-first.ensures.begins drawn m {d = g.D.Disk} (place_of c.args.rid) (put_read {d = g.D.Disk} c.in_ok-read.ensures.ok.0 c.in_ok-read.ensures.ok.1 c.read.ensures.still) c.split_off.new.self.items c.in-Ok.ensures.items c.in_ok-front.front c.items_of.new.proxies (λ front marked. subst (λ (l : List Proxy). PutsRow g.D.Disk c.read.new.self c.items_of.new.records c.read.new.disk c.items_of.new.disk front c.in_ok-front.front l c.items_of.new.proxies) c.new-proxies.ensures (c.in_ok-front.ensures.ok front marked)) (into_iter_items c.into_iter-left.result) (into_iter_items c.items_of.new.olds) (c.into_iter-left.ensures.rest ∙ c.in-Ok.ensures.tail) c.in_ok-front.ensures.olds c.in_ok-last.last c.in_ok-last.ensures.ok c.update_piece.new.records c.update_piece.new.disk c.args.rid.page c.in_err-proxy.field-0.0 c.in_err-proxy.ensures.refused)

pub add_proxy-requires : goal.add_proxy-requires
add_proxy-requires g c =
    let room = front_room c.args.marks.now c.args.roots.items (into_iter_items c.args.olds.now) c.len-len.result c.last_begin-first.result (omega (arith, c.len-len.ensures, c.args.roots.ok.0)) c.last_begin-first.ensures.within c.last_begin-first.ensures.held c.last_begin-first.ensures.begins c.requires.marked.0 c.requires.marked.1 {d = g.D.Disk} (place_of c.args.rid) (put_read {d = g.D.Disk} c.in_ok-read.ensures.ok.0 c.in_ok-read.ensures.ok.1 c.read.ensures.still) c.split_off.new.self.items c.in-Ok.ensures.items c.in_ok-front.front c.items_of.new.proxies (λ front marked. subst (λ (l : List Proxy). PutsRow g.D.Disk c.read.new.self c.items_of.new.records c.read.new.disk c.items_of.new.disk front c.in_ok-front.front l c.items_of.new.proxies) c.new-proxies.ensures (c.in_ok-front.ensures.ok front marked)) (into_iter_items c.into_iter-left.result) (into_iter_items c.items_of.new.olds) (c.into_iter-left.ensures.rest ∙ c.in-Ok.ensures.tail) c.in_ok-front.ensures.olds c.requires.few in
    let e : proxies_in (gapped_of c.into_vec-items.result.items) ≡ proxies_in c.in_ok-front.front = ap proxies_in c.into_vec-items.ensures in
    omega (arith, room, e)

pub returns-in_default-add_proxy-clause-refused : goal.returns-in_default-add_proxy-clause-refused
returns-in_default-add_proxy-clause-refused g c = λ drawn m. row_memory c.args.marks.now c.args.roots.items (into_iter_items c.args.olds.now) c.len-len.result c.last_begin-first.result (omega (arith, c.len-len.ensures, c.args.roots.ok.0)) c.last_begin-first.ensures.within c.last_begin-first.ensures.held c.last_begin-first.ensures.begins drawn m {d = g.D.Disk} (place_of c.args.rid) (put_read {d = g.D.Disk} c.in_ok-read.ensures.ok.0 c.in_ok-read.ensures.ok.1 c.read.ensures.still) c.split_off.new.self.items c.in-Ok.ensures.items c.in_ok-front.front c.items_of.new.proxies (λ front marked. subst (λ (l : List Proxy). PutsRow g.D.Disk c.read.new.self c.items_of.new.records c.read.new.disk c.items_of.new.disk front c.in_ok-front.front l c.items_of.new.proxies) c.new-proxies.ensures (c.in_ok-front.ensures.ok front marked)) (into_iter_items c.into_iter-left.result) (into_iter_items c.items_of.new.olds) (c.into_iter-left.ensures.rest ∙ c.in-Ok.ensures.tail) c.in_ok-front.ensures.olds c.in_ok-last.last c.in_ok-last.ensures.ok c.in_ok-proxy.proxy (λ saved now stands. ap is_some (c.in_ok-read.ensures.ok.2 saved now stands)) c.in_ok-proxy.ensures.roots c.in_ok-proxy.ensures.keeps.0 c.in_ok-proxy.ensures.keeps.1 c.in_ok-proxy.ensures.keeps.2 c.in_ok-proxy.ensures.ok

pub returns-clause-ok : goal.returns-clause-ok
returns-clause-ok g c = λ drawn m. row_put c.args.marks.now c.args.roots.items (into_iter_items c.args.olds.now) c.len-len.result c.last_begin-first.result (omega (arith, c.len-len.ensures, c.args.roots.ok.0)) c.last_begin-first.ensures.within c.last_begin-first.ensures.held c.last_begin-first.ensures.begins drawn m {d = g.D.Disk} (place_of c.args.rid) (put_read {d = g.D.Disk} c.in_ok-read.ensures.ok.0 c.in_ok-read.ensures.ok.1 c.read.ensures.still) c.split_off.new.self.items c.in-Ok.ensures.items c.in_ok-front.front c.items_of.new.proxies (λ front marked. subst (λ (l : List Proxy). PutsRow g.D.Disk c.read.new.self c.items_of.new.records c.read.new.disk c.items_of.new.disk front c.in_ok-front.front l c.items_of.new.proxies) c.new-proxies.ensures (c.in_ok-front.ensures.ok front marked)) (into_iter_items c.into_iter-left.result) (into_iter_items c.items_of.new.olds) (c.into_iter-left.ensures.rest ∙ c.in-Ok.ensures.tail) c.in_ok-front.ensures.olds c.in_ok-last.last c.in_ok-last.ensures.ok c.in_ok-proxy.proxy (λ saved now stands. ap is_some (c.in_ok-read.ensures.ok.2 saved now stands)) c.in_ok-proxy.ensures.roots c.in_ok-proxy.ensures.keeps.0 c.in_ok-proxy.ensures.keeps.1 c.in_ok-proxy.ensures.keeps.2 c.in_ok-proxy.ensures.ok (record { items = c.from_vec.result; proxies = c.add_proxy.new.proxies })
    (c.from_vec.ensures ∙ c.in-Ok-add_proxy.ensures.items ∙ ap with_proxy c.into_vec-items.ensures) c.in-Ok-add_proxy.ensures.proxies
