use Rattle.std.proofs.Common.{ℕ, ◌-◌, ◌++◌, length, take, min, ap, ◌∙◌}
use Rattle.nx_script.specs.Parser.{most_held}
use Rattle.nx_script.proofs.Prefixes.{held_more}
use Rattle.nx_script.proofs.parser.Parser.hold.Goals as goal

pub returns-clause-held : goal.returns-clause-held
returns-clause-held c =
    λ line held. held_more most_held line c.args.bytes.now c.args.self.now.held c.extend_from_slice.new.self held
    (c.in_ok-extend_from_slice.ensures.ok
    ∙ ap (λ (n : ℕ). c.args.self.now.held ++ take n c.args.bytes.now)
    (c.min.ensures ∙ ap (λ (n : ℕ). min n (length c.args.bytes.now)) (c.saturating_sub-room.ensures ∙ ap (λ (n : ℕ). most_held - n) c.len.ensures)))
