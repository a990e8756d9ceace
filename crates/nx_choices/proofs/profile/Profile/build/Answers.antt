use Rattle.std.proofs.Common.{arith}
use Rattle.nx_choices.specs.declared.reach.Form.TheVariants.{Plain}
use Rattle.nx_choices.proofs.ReachLemmas.{reach_some}
use Rattle.nx_choices.proofs.BuildLemmas.{reach_most, plain_most}
use Rattle.nx_choices.proofs.profile.Profile.build.Goals as goal

pub begin-requires-clause-some : goal.begin-requires-clause-some
begin-requires-clause-some c = reach_some c.args.cuts.k Plain c.args.children.now c.args.cuts.plain c.requires.plain.0 c.requires.weighed c.requires.some c.requires.plain.1

pub cut_longer-requires-clause-some : goal.cut_longer-requires-clause-some
cut_longer-requires-clause-some c = reach_some c.args.cuts.k Plain c.args.children.now c.args.cuts.plain c.requires.plain.0 c.requires.weighed c.requires.some c.requires.plain.1

pub cut_longer-requires-clause-longer : goal.cut_longer-requires-clause-longer
cut_longer-requires-clause-longer c = plain_most c.args.cuts.k c.args.children.now c.args.cuts.plain c.requires.plain.0 c.args.cuts.light c.requires.light.0 c.requires.plain.1 c.requires.light.1

pub cut_longer-requires-clause-most : goal.cut_longer-requires-clause-most
cut_longer-requires-clause-most c =
    let most = reach_most c.args.cuts.k c.args.children.now c.args.cuts.light c.requires.light.0 c.requires.weighed c.requires.light.1 in omega arith

pub cut_start-requires : goal.cut_start-requires
cut_start-requires c = let s = c.in_ok-cut_longer.ensures.short in record { end = omega arith }

pub returns : goal.returns
returns c = c.cut_start.ensures c.args.cuts.k c.args.children.now c.in_ok-cut_longer.ensures
