use Rattle.std.proofs.Common.{[], ◌∷◌, ℕ, List, refl, sym, ap, subst, ◌∙◌}
use Rattle.std.specs.Option.{option_or}
use Rattle.nx_slots.specs.declared.page.PageBytes.{PageBytes}
use Rattle.nx_replay.specs.Log.{entry_pages}
use Rattle.nx_wal.specs.Writing.{entries_of}
use Rattle.std.specs.Prelude.{All}
use Rattle.std.specs.Map.{keys_of}
use Rattle.std.specs.Ordering.{nat_cmp}
use Rattle.std.proofs.lemmas.Map.Views.{All-keys-insert_entry}
use Rattle.nx_wal.specs.Places.{Kept, MayWait}
use Rattle.nx_wal.proofs.ListLemmas.{either_way}
use Rattle.nx_wal.proofs.WalLemmas.{follows_same, put_at, some_waits, count_more}
use Rattle.nx_wal.proofs.wal.Wal.put.Goals as goal

pub returns-then-not-make_place-clause-follows : goal.returns-then-not-make_place-clause-follows
returns-then-not-make_place-clause-follows c log = follows_same c.args.self.now _ log refl refl refl c.make_place.ensures.leads c.make_place.ensures.within

pub returns-in_default-clause-follows : goal.returns-in_default-clause-follows
returns-in_default-clause-follows c log = follows_same c.args.self.now _ log refl refl c.reserve.ensures.items c.make_place.ensures.leads c.make_place.ensures.within

pub returns-in_default-put-clause-follows : goal.returns-in_default-put-clause-follows
returns-in_default-put-clause-follows c log = follows_same c.args.self.now _ log refl refl c.reserve.ensures.items c.make_place.ensures.leads c.make_place.ensures.within

pub returns-clause-follows : goal.returns-clause-follows
returns-clause-follows c log = follows_same c.args.self.now _ log refl refl c.reserve.ensures.items c.make_place.ensures.leads c.make_place.ensures.within

pub returns-clause-pending : goal.returns-clause-pending
returns-clause-pending c = λ i p. (
    put_at c.args.self.now.waiting.pages c.put.new.self.pages c.args.page c.in-Ok-put.ensures.ok.0 c.in-Ok-put.ensures.ok.2.0 p
    ∙ ap (λ (b : PageBytes). option_or (entry_pages (record { page = c.args.page; bytes = b.bytes } ∷ []) p) (entry_pages (entries_of c.args.self.now.waiting.pages.entries) p)) c.in-Ok-put.ensures.ok.1
    ) i

pub returns-clause-count : goal.returns-clause-count
returns-clause-count c = count_more c.args.self.now.waiting.pages.entries c.put.new.self.pages.entries c.args.page c.in-Ok-put.ensures.count

pub invariant_of-self-2-clause-numbers : goal.invariant_of-self-2-clause-numbers
invariant_of-self-2-clause-numbers c =
    let can = MayWait c.make_place.new.places in
    let were : All can (keys_of c.args.self.now.waiting.pages.entries) = λ k d within. let was = c.args.self.now.numbers k d within in (was.0, c.make_place.ensures.keeps _ was.1) in
    let stay : All can (keys_of c.put.new.self.pages.entries) =
    either_way c.put.result c.put.ensures.ok c.put.ensures.err
    (λ done. subst (λ (es : List (ℕ × Kept)). All can (keys_of es)) (sym done.3)
    (All-keys-insert_entry nat_cmp c.args.page done.0 can c.args.self.now.waiting.pages.entries were (c.requires, c.make_place.ensures.made c.if-not-make_place.false)))
    (λ same. subst (λ (es : List (ℕ × Kept)). All can (keys_of es)) (sym same) were) in
    stay

pub returns-clause-some : goal.returns-clause-some
returns-clause-some c none = some_waits c.put.new.self.pages.entries c.args.page c.in-Ok-put.ensures.ok.0 c.in-Ok-put.ensures.ok.2.1 none
