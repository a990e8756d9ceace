use Rattle.std.proofs.Common.{◌≡◌, ℕ, Bool, cond, is_eq, nat_cmp, Option, Some, IsSome, BTreeMap, List, Vec, Global, [], refl, ap, ◌∙◌, subst}
use Rattle.std.specs.Option.{option_map_or}
use Rattle.std.proofs.lemmas.Result.{IfOk-weaker}
use Rattle.std.specs.BTreeMap.{get}
use Rattle.nx_hold.specs.Changes.{place_of}
use Rattle.nx_nav.specs.declared.visited.Visited.{Visited}
use Rattle.nx_nav.specs.Visited.{SetsFlag}
use Rattle.nx_nav.proofs.VisitLemmas.{visited_or_new}
use Rattle.nx_nav.proofs.visited.Visited.visit.Goals as goal

-- the flags of a page that was found, or not
abbrev flags_in : Option (Vec Bool Global) → List Bool
flags_in found = option_map_or (λ (flags : Vec Bool Global). flags.items) found []

pub returns-in-Some : goal.returns-in-Some
returns-in-Some c =
    let flags = c.set.new.flags in
    let new : Visited = record { pages = c.get_mut.follows.lender flags; alloc = c.args.self.now.alloc } in
    let found = c.in-Some.ensures.value in
    let written = (c.get_mut.follows.holds flags).3 (subst IsSome found refl) in
    IfOk-weaker c.set.result _ _
    (λ added sets. λ places was.
    visited_or_new c.args.self.now new (place_of c.args.rid) places was flags written.0 added
    (subst (λ (old : List Bool). SetsFlag c.args.rid.slot added old flags.items) (ap flags_in found) sets))
    c.set.ensures

pub returns : goal.returns
returns c = λ places was.
    let flags = c.set-2.new.flags in
    let new : Visited = record { pages = c.insert.new.self; alloc = c.args.self.now.alloc } in
    let added = c.in_ok-new.new in
    visited_or_new c.args.self.now new (place_of c.args.rid) places was flags
    (subst (λ (pages : BTreeMap ℕ (Vec Bool Global)). (page : ℕ) → get nat_cmp c.insert.new.self page ≡ cond (is_eq (nat_cmp c.args.rid.page page)) (Some flags) (get nat_cmp pages page)) c.get_mut.follows.holds-at-none c.in_ok-insert.ensures.updates.0)
    added
    (subst (λ (old : List Bool). SetsFlag c.args.rid.slot added old flags.items) (c.new-flags.ensures.items ∙ ap flags_in c.in_default.ensures.value) c.in_ok-new.ensures)
