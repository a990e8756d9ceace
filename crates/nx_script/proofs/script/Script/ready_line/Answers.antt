use Rattle.std.proofs.Common.{length, drop, refl, sym, ap, ◌∙◌, arith}
use Rattle.std.proofs.Math.ListN.{drop_of_length-le}
use Rattle.std.proofs.lemmas.List.{take_rest}
use Rattle.nx_host.specs.Input.{block_of}
use Rattle.nx_script.specs.Script.{IsDrained}
use Rattle.nx_script.proofs.CutLemmas.{looks_at, gives_some, gives_none, ends_by, ends_none, none_finished, none_unended}
use Rattle.nx_script.proofs.script.Script.ready_line.Goals as goal
use Rattle.nx_script.proofs.script.Script.ready_line.Goals.{else-self-via-then-self+else-not-self, else-self-via-else-self}

pub returns-then-is_some-clause-given : goal.returns-then-is_some-clause-given
returns-then-is_some-clause-given c =
    let s = c.loop-self.self in
    gives_some c.args.self.now _ c.in_ok-len.line
    (λ taken lines given. looks_at c.in_ok-len.len c.in_ok-len.line (omega (arith, ap length c.block.ensures))
    (take_rest c.block-in-loop-self.result.now s.start ∙ ap (drop s.start) c.block-in-loop-self.ensures) c.in_ok-len.ensures.given taken lines
    (c.loop-self.invariant.given taken lines given))

pub loop-self-preserved : goal.loop-self-preserved
loop-self-preserved c =
    let s = c.loop-self.self in
    record {
      given = gives_none c.args.self.now _ c.in_ok-len.line (sym c.if-is_some.ensures)
          (λ taken lines given. looks_at c.in_ok-len.len c.in_ok-len.line (omega (arith, ap length c.block.ensures))
          (take_rest c.block-in-loop-self.result.now s.start ∙ ap (drop s.start) c.block-in-loop-self.ensures) c.in_ok-len.ensures.given taken lines
          (c.loop-self.invariant.given taken lines given));
      taken = c.loop-self.invariant.taken;
      ended = c.loop-self.invariant.ended;
    }

pub returns-then-not-self-clause-given : goal.returns-then-not-self-clause-given
returns-then-not-self-clause-given c =
    let s = c.loop-self.self in
    let drained : IsDrained s = drop_of_length-le (block_of s.input) (omega (arith, ap length c.block.ensures)) in
    gives_some c.args.self.now _ c.in_ok-last_whole.field-0
    (λ taken lines given. ends_by c.in_ok-last_whole.field-0 drained c.if-not-self.true c.if-self.true c.in_ok-last_whole.ensures taken lines
    (c.loop-self.invariant.given taken lines given))

pub returns-then-not-self-clause-none : goal.returns-then-not-self-clause-none
returns-then-not-self-clause-none c =
    let s = c.loop-self.self in
    let drained : IsDrained s = drop_of_length-le (block_of s.input) (omega (arith, ap length c.block.ensures)) in
    λ none. ends_none c.in_ok-last_whole.field-0 none refl
    (λ taken lines given. ends_by c.in_ok-last_whole.field-0 drained c.if-not-self.true c.if-self.true c.in_ok-last_whole.ensures taken lines
    (c.loop-self.invariant.given taken lines given))

pub returns-clause-none : goal.returns-clause-none
returns-clause-none c =
    let s = c.loop-self.self in
    let drained : IsDrained s = drop_of_length-le (block_of s.input) (omega (arith, ap length c.block.ensures)) in
    λ none taken lines given. elim c.else-self.branch [
      | else-self-via-then-self+else-not-self w ↦ none_finished s w.if-not-self.false taken lines (c.loop-self.invariant.given taken lines given)
      | else-self-via-else-self w ↦ none_unended s w.if-self.false drained taken lines (c.loop-self.invariant.given taken lines given)
    ]
