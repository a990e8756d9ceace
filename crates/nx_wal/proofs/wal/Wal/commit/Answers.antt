use Rattle.std.proofs.Common.{◌≡◌, ℕ, ◌+◌, ◌*◌, arith, subst, length, ap, sym, ◌∙◌, List, [], ◌∷◌, ◌++◌}
use Rattle.std.proofs.lemmas.List.{length-map}
use Rattle.std.specs.Prelude.{true}
use Rattle.nx_replay.specs.Log.{Group, groups, end_of, group_size, IsLogEnd}
use Rattle.nx_wal.specs.Places.{starts_from}
use Rattle.nx_wal.specs.Writing.{entries_of}
use Rattle.nx_wal.proofs.ReadingLemmas.{starts_more}
use Rattle.nx_wal.specs.Wal.{next_group}
use Rattle.nx_wal.proofs.WaitingLemmas.{entries_stand}
use Rattle.nx_wal.proofs.WalLemmas.{few_wait, next_body, opened_step, commit_goes, leads_more}
use Rattle.nx_wal.proofs.OwnLemmas.{commit_own}
use Rattle.nx_wal.proofs.wal.Wal.commit.Goals as goal

pub write_group-requires-clause-low : goal.write_group-requires-clause-low
write_group-requires-clause-low g c = let few = few_wait c.args.self.now c.len-count.ensures.ordered in omega (arith, few, c.requires.room)

pub write_group-requires-clause-few : goal.write_group-requires-clause-few
write_group-requires-clause-few g c = let few = few_wait c.args.self.now c.len-count.ensures.ordered in omega (arith, few)

pub returns-in_default-clause-goes : goal.returns-in_default-clause-goes
returns-in_default-clause-goes g c =
    commit_goes g.D.Disk c.args.self.now c.args.number c.args.disk.now c.write_group.new.disk c.requires.room
    (next_body c.args.self.now c.len-count.ensures.ordered c.args.number c.ranges.number.fits c.requires.room c.requires.some) c.write_group.ensures.goes

pub set_places-requires-clause-low : goal.set_places-requires-clause-low
set_places-requires-clause-low g c = let few = few_wait c.args.self.now c.len-count.ensures.ordered in omega (arith, few, c.requires.room)

pub overflow_mul-self : goal.overflow_mul-self
overflow_mul-self g c = let few = few_wait c.args.self.now c.len-count.ensures.ordered in omega (arith, few, c.len-count.ensures.len)

pub overflow_add-self-2 : goal.overflow_add-self-2
overflow_add-self-2 g c = let few = few_wait c.args.self.now c.len-count.ensures.ordered in omega (arith, few, c.len-count.ensures.len)

pub overflow_add-self-3 : goal.overflow_add-self-3
overflow_add-self-3 g c = let few = few_wait c.args.self.now c.len-count.ensures.ordered in omega (arith, few, c.len-count.ensures.len, c.requires.room)

pub returns-clause-goes : goal.returns-clause-goes
returns-clause-goes g c =
    commit_goes g.D.Disk c.args.self.now c.args.number c.args.disk.now c.write_group.new.disk c.requires.room
    (next_body c.args.self.now c.len-count.ensures.ordered c.args.number c.ranges.number.fits c.requires.room c.requires.some) c.write_group.ensures.goes

pub returns-clause-ok : goal.returns-clause-ok
returns-clause-ok g c was now step told =
    let wal = c.args.self.now in
    let es = wal.waiting.pages.entries in
    let group = next_group c.args.number wal in
    let body = next_body wal c.len-count.ensures.ordered c.args.number c.ranges.number.fits c.requires.room c.requires.some in
    let done = c.in-Ok.ensures.ok was now group (opened_step c.requires.room step) body told in
    let behind = c.in-Ok.ensures.prefix was now group (opened_step c.requires.room step) body told in
    let stand = entries_stand wal.end c.args.number es was now behind in
    let mapped : length (entries_of es) ≡ length es = simp length-map in
    let count : c.len-count.result ≡ length es = c.len-count.ensures.len in
    let ends : wal.end + group_size (length (entries_of es)) ≡ wal.end + (13 + 8196 * c.len-count.result) = omega (arith, mapped, count) in (
      record {
        settled = (done.1).settled;
        follows = record {
          at = subst (λ (e : ℕ). IsLogEnd e true now.log) ends (done.1).at;
          leads = leads_more c.args.number c.set_places.new.places step.follows done.0 behind.prefix (c.set_places.ensures.notes now.log stand.0 stand.1);
          starts = c.in-Ok-push.ensures.items ∙ ap (λ (ns : List ℕ). ns ++ wal.end ∷ []) (step.follows).starts
              ∙ ap (λ (n : ℕ). starts_from 0 (groups was.log) ++ n ∷ []) (let here = ((step.follows).at).here in let e : wal.end ≡ 0 + end_of (groups was.log) = omega (arith, here) in e)
              ∙ sym (starts_more 0 (groups was.log) group) ∙ ap (λ (gs : List Group). starts_from 0 gs) (sym (done.0).log);
          within = c.set_places.ensures.within (wal.end + (13 + 8196 * c.len-count.result)) (omega (arith, count)) (λ p at is. let low = (step.follows).within p at is in omega (arith, low));
        };
      },
      done.0,
    )

pub returns-clause-length : goal.returns-clause-length
returns-clause-length g c =
    let es = c.args.self.now.waiting.pages.entries in
    let mapped : length (entries_of es) ≡ length es = simp length-map in
    let count : c.len-count.result ≡ length es = c.len-count.ensures.len in
    omega (arith, mapped, count)

pub returns-in_default-clause-own : goal.returns-in_default-clause-own
returns-in_default-clause-own g c =
    commit_own g.D.Disk c.args.self.now c.args.number c.args.disk.now c.write_group.new.disk c.requires.room
    (next_body c.args.self.now c.len-count.ensures.ordered c.args.number c.ranges.number.fits c.requires.room c.requires.some) c.write_group.ensures.goes c.write_group.ensures.longer

pub returns-clause-own : goal.returns-clause-own
returns-clause-own g c =
    commit_own g.D.Disk c.args.self.now c.args.number c.args.disk.now c.write_group.new.disk c.requires.room
    (next_body c.args.self.now c.len-count.ensures.ordered c.args.number c.ranges.number.fits c.requires.room c.requires.some) c.write_group.ensures.goes c.write_group.ensures.longer
