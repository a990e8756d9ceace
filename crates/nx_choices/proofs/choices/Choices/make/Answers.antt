use Rattle.std.proofs.Common.{◌≡◌, ◌-◌, ℕ, List, [], drop, length, take, ap, sym, subst, ◌∙◌, arith}
use Rattle.std.proofs.lemmas.List.{length-drop, take_rest, drop_all}
use Rattle.nx_choices.specs.declared.child.Child.{Child}
use Rattle.nx_choices.specs.declared.reach.Form.TheVariants.{Plain, Light}
use Rattle.nx_choices.specs.Choice.{AreWeighed}
use Rattle.nx_choices.specs.Profile.{AreProfiles, IsProfile, IsReach}
use Rattle.nx_choices.proofs.ReachLemmas.{reach_none}
use Rattle.nx_choices.proofs.ProfileLemmas.{profile_none}
use Rattle.nx_choices.proofs.BuildLemmas.{weighed_drop, rest_next}
use Rattle.nx_choices.proofs.choices.Choices.make.Goals as goal

pub extend-plain-requires-clause-weighed : goal.extend-plain-requires-clause-weighed
extend-plain-requires-clause-weighed c =
    subst (λ (cs : List Child). AreWeighed c.args.k cs) (sym (take_rest c.args.children.now (c.loop-at.at - 1))) (weighed_drop c.args.k c.args.children.now (c.loop-at.at - 1) c.requires.weights)

pub extend-plain-requires-clause-reach : goal.extend-plain-requires-clause-reach
extend-plain-requires-clause-reach c =
    subst (λ (cs : List Child). IsReach c.args.k Plain cs c.loop-at.plain.len c.loop-at.plain.sum) (sym (rest_next c.args.children.now c.loop-at.at (omega arith))) c.loop-at.invariant.plain

pub extend-light-requires-clause-weighed : goal.extend-light-requires-clause-weighed
extend-light-requires-clause-weighed c =
    subst (λ (cs : List Child). AreWeighed c.args.k cs) (sym (take_rest c.args.children.now (c.loop-at.at - 1))) (weighed_drop c.args.k c.args.children.now (c.loop-at.at - 1) c.requires.weights)

pub extend-light-requires-clause-reach : goal.extend-light-requires-clause-reach
extend-light-requires-clause-reach c =
    subst (λ (cs : List Child). IsReach c.args.k Light cs c.loop-at.light.len c.loop-at.light.sum) (sym (rest_next c.args.children.now c.loop-at.at (omega arith))) c.loop-at.invariant.light

pub build-requires-clause-weighed : goal.build-requires-clause-weighed
build-requires-clause-weighed c =
    subst (λ (cs : List Child). AreWeighed c.args.k cs) (sym (take_rest c.args.children.now (c.loop-at.at - 1))) (weighed_drop c.args.k c.args.children.now (c.loop-at.at - 1) c.requires.weights)

pub build-requires-clause-profiles : goal.build-requires-clause-profiles
build-requires-clause-profiles c =
    subst (λ (cs : List Child). AreProfiles c.args.k c.args.room cs c.loop-at.self.profiles) (sym (rest_next c.args.children.now c.loop-at.at (omega arith))) c.loop-at.invariant.profiles

pub loop-at-init : goal.loop-at-init
loop-at-init c =
    let k = c.args.k in let room = c.args.room in let children = c.args.children.now in
    let none : drop (length children) children ≡ [] = drop_all (length children) children (omega arith) in
    let start = reach_none k Plain in let begin = reach_none k Light in
    record {
      plain = subst (λ (cs : List Child). IsReach k Plain cs c.new-plain.result.len c.new-plain.result.sum) (sym none)
          (subst (λ (n : ℕ). IsReach k Plain [] n c.new-plain.result.sum) (sym c.new-plain.ensures.len) (subst (λ (n : ℕ). IsReach k Plain [] 0 n) (sym c.new-plain.ensures.sum) start));
      light = subst (λ (cs : List Child). IsReach k Light cs c.new-light.result.len c.new-light.result.sum) (sym none)
          (subst (λ (n : ℕ). IsReach k Light [] n c.new-light.result.sum) (sym c.new-light.ensures.len) (subst (λ (n : ℕ). IsReach k Light [] 0 n) (sym c.new-light.ensures.sum) begin));
      rows = let e = c.in_ok-reset.ensures.rows in omega arith;
      profile = subst (λ (cs : List Child). IsProfile k room cs c.reset.new.self.base c.reset.new.self.lefts.items) (sym none)
          (subst (λ (n : ℕ). IsProfile k room [] n c.reset.new.self.lefts.items) (sym c.reset.ensures.base) (subst (λ (xs : List ℕ). IsProfile k room [] 0 xs) (sym c.reset.ensures.lefts) (profile_none k room)));
      profiles = subst (λ (cs : List Child). AreProfiles k room cs c.reset-2.new.self) (sym none) (c.in_ok-reset.ensures.profiles k room);
    }

pub loop-at-preserved : goal.loop-at-preserved
loop-at-preserved c =
    let k = c.args.k in let room = c.args.room in let children = c.args.children.now in let at = c.loop-at.at in
    let test = c.loop-at-test.true in
    let rest = take_rest children (at - 1) in let next = rest_next children at (omega arith) in
    let len = ap length rest ∙ length-drop (at - 1) children in
    let built = c.in_ok-build.ensures in
    record {
      plain = subst (λ (cs : List Child). IsReach k Plain cs c.extend-plain.result.len c.extend-plain.result.sum) rest c.extend-plain.ensures;
      light = subst (λ (cs : List Child). IsReach k Light cs c.extend-light.result.len c.extend-light.result.sum) rest c.extend-light.ensures;
      rows = let e = c.in_ok-push.ensures.rows in let was = c.loop-at.invariant.rows in omega arith;
      profile = subst (λ (cs : List Child). IsProfile k room cs c.build.new.self.base c.build.new.self.lefts.items) rest built;
      profiles = subst (λ (cs : List Child). AreProfiles k room cs c.push.new.self) rest
          (c.in_ok-push.ensures.profiles k room (take (length children - (at - 1)) (drop (at - 1) children)) (let was = c.loop-at.invariant.rows in omega arith)
          (subst (λ (cs : List Child). AreProfiles k room cs c.loop-at.self.profiles) (sym next) c.loop-at.invariant.profiles) built);
    }

pub returns-clause-profile : goal.returns-clause-profile
returns-clause-profile c =
    let none : c.loop-at.at ≡ 0 = let t = c.loop-at-test.false in omega arith in
    subst (λ (n : ℕ). IsProfile c.args.k c.args.room (drop n c.args.children.now) c.loop-at.self.profile.base c.loop-at.self.profile.lefts.items) none c.loop-at.invariant.profile

pub returns-clause-profiles : goal.returns-clause-profiles
returns-clause-profiles c =
    let none : c.loop-at.at ≡ 0 = let t = c.loop-at-test.false in omega arith in
    subst (λ (n : ℕ). AreProfiles c.args.k c.args.room (drop n c.args.children.now) c.loop-at.self.profiles) none c.loop-at.invariant.profiles
