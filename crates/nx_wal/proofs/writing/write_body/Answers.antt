use Rattle.std.proofs.Common.{◌≡◌, ◌+◌, ◌*◌, ◌++◌, ◌∷◌, [], arith, length, ap, subst, ◌∙◌, length-append, List, ℕ}
use Rattle.std.proofs.lemmas.List.{append-nil}
use Rattle.nx_replay.specs.Log.{entry_bytes}
use Rattle.nx_replay.proofs.SettledLemmas.{on_ok2}
use Rattle.nx_wal.specs.Writing.{Lays, entries_of, body_of, head_of}
use Rattle.nx_wal.proofs.WritingLemmas.{head_long, body_parts}
use Rattle.nx_wal.proofs.GatherLemmas.{adds_then, reaches_then, reached, gathered, gathers_none}
use Rattle.nx_wal.proofs.writing.write_body.Goals as goal

pub returns-in_err-add_head-clause-writes : goal.returns-in_err-add_head-clause-writes
returns-in_err-add_head-clause-writes g c =
    reached 12 (13 + 8196 * length c.args.waiting.now.entries) c.args.at c.begin.new.block c.begin.ensures (omega arith) c.add_head.ensures.reaches

pub returns-in_err-add_pages-clause-writes : goal.returns-in_err-add_pages-clause-writes
returns-in_err-add_pages-clause-writes g c =
    let n = 8196 * length c.args.waiting.now.entries in
    reached (12 + n) (13 + n) c.args.at c.begin.new.block c.begin.ensures (omega arith)
    (reaches_then (head_of c.args.number c.len.result) n (12 + n) (omega (arith, head_long c.args.number c.len.result)) c.in_ok-add_head.ensures.adds c.add_pages.ensures.reaches)

pub returns-in_err-add-clause-writes : goal.returns-in_err-add-clause-writes
returns-in_err-add-clause-writes g c =
    let n = 8196 * length c.args.waiting.now.entries in
    let head = head_of c.args.number c.len.result in
    let pages = entry_bytes (entries_of c.args.waiting.now.entries) in
    let long : length (head ++ pages) ≡ 12 + n = length-append head pages ∙ omega (arith, head_long c.args.number c.len.result, c.in_ok-add_pages.ensures.long) in
    reached (13 + n) (13 + n) c.args.at c.begin.new.block c.begin.ensures (omega arith)
    (reaches_then (head ++ pages) 1 (13 + n) (omega (arith, long)) (adds_then c.in_ok-add_head.ensures.adds c.in_ok-add_pages.ensures.adds) c.add.ensures.reaches)

pub returns-clause-writes : goal.returns-clause-writes
returns-clause-writes g c =
    let n = 8196 * length c.args.waiting.now.entries in
    let head = head_of c.args.number c.len.result in
    let pages = entry_bytes (entries_of c.args.waiting.now.entries) in
    let long : length (head ++ pages) ≡ 12 + n = length-append head pages ∙ omega (arith, head_long c.args.number c.len.result, c.in_ok-add_pages.ensures.long) in
    let whole : length ((head ++ pages) ++ 0 ∷ []) ≡ 13 + n = length-append (head ++ pages) (0 ∷ []) ∙ omega (arith, long) in
    reached (13 + n) (13 + n) c.args.at c.begin.new.block c.begin.ensures (omega arith)
    (reaches_then ((head ++ pages) ++ 0 ∷ []) 0 (13 + n) (omega (arith, whole)) (adds_then (adds_then c.in_ok-add_head.ensures.adds c.in_ok-add_pages.ensures.adds) c.in_ok-add.ensures.adds) c.flush.ensures.reaches)

pub returns-clause-lays : goal.returns-clause-lays
returns-clause-lays g c = on_ok2 c.flush.result c.flush.ensures.adds c.flush.ensures.empty (λ adds empty.
    let head = head_of c.args.number c.len.result in
    let pages = entry_bytes (entries_of c.args.waiting.now.entries) in
    let body : ((head ++ pages) ++ 0 ∷ []) ++ [] ≡ body_of c.args.number c.args.waiting.now.entries =
    append-nil ((head ++ pages) ++ 0 ∷ []) ∙ ap (λ (n : ℕ). (head_of c.args.number n ++ pages) ++ 0 ∷ []) c.len.ensures.len ∙ body_parts c.args.number c.args.waiting.now.entries in
    let all = adds_then (adds_then (adds_then c.in_ok-add_head.ensures.adds c.in_ok-add_pages.ensures.adds) c.in_ok-add.ensures.adds) adds in
    subst (λ (x : List ℕ). Lays g.D.Disk c.args.at x c.args.disk.now c.flush.new.disk) body
    (gathered c.args.at (((head ++ pages) ++ 0 ∷ []) ++ []) c.flush.new.block c.args.disk.now c.flush.new.disk empty.0
    (all c.args.at [] c.args.disk.now (gathers_none c.begin.new.block c.args.at c.args.disk.now (c.begin.ensures).0 (c.begin.ensures).1))).1)
