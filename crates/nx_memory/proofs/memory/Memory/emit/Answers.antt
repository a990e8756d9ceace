use Rattle.std.proofs.Common.{◌≡◌, List, [], ◌∷◌, ℕ, ◌++◌, ◌∙◌, ap, length, arith}
use Rattle.nx_memory.specs.History.{Present, before}
use Rattle.nx_memory.specs.Memory.{areas_of}
use Rattle.nx_memory.specs.declared.history.Change.TheVariants.{Emit}
use Rattle.nx_memory.proofs.MemoryLemmas.{one_more, history_more, emit_undone}
use Rattle.nx_memory.proofs.memory.Memory.emit.Goals as goal

pub invariant_of-self : goal.invariant_of-self
invariant_of-self c =
    let m = c.args.self.now in
    let output = m.output.bytes.items in
    let change = Emit (length output) in
    let was : c.len-was.result ≡ length output = omega arith in
    let pushed = one_more m.history.changes.items c.add.new.self.changes.items change (c.add.ensures.changes ∙ ap (λ (n : ℕ). m.history.changes.items ++ Emit n ∷ []) was) in
    let with_covered : List ℕ → Present = λ l. before change (record { areas = areas_of m; output = c.append.new.self.bytes.items; covered = l }) in
    let with_output : List ℕ → Present = λ o. before change (record { areas = areas_of m; output = o; covered = m.history.covered.items ++ [] }) in
    let undone = ap with_covered c.add.ensures.covered ∙ ap with_output c.append.ensures.bytes ∙ emit_undone (areas_of m) output c.args.bytes.now m.history.covered.items in
    record { sound = history_more {change = change} _ pushed undone (record { pages = m.pages.are_bytes; log = m.log.are_bytes }) tt m.sound }
