-- How many pages are read for a command, and what is held behind one that changes nothing.
use Rattle.std.proofs.Common.{◌≡◌, ◌≤◌, ◌+◌, ◌*◌, ◌-◌, ◌/◌, ℕ, true, false, List, [], ◌∷◌, length, Option, None, Some, Result, Ok, Err, refl, sym, subst, ◌∙◌, arith, inl}
use Rattle.std.specs.Prelude.{IsSome, IfSome, IfErr, OnOk}
use Rattle.std.proofs.lemmas.Bool.{false≢true}
use Rattle.std.specs.FinMap.{get}
use Rattle.nx_host.specs.Disk.{Image}
use Rattle.nx_host.specs.declared.disk.Disk.{Ghosts}
use Rattle.nx_host.specs.Phase.{LeavesAreas}
use Rattle.nx_host.specs.Still.{IsStill, IsSettled}
use Rattle.nx_host.proofs.DiskLemmas.{told_same}
use Rattle.nx_numbers.specs.Sizes.{entry_size}
use Rattle.nx_replay.specs.Log.{replay}
use Rattle.nx_tree.specs.Forest.{OrderedTree}
use Rattle.nx_tree.specs.Edit.{at as at_path}
use Rattle.nx_cuts.specs.Cut.{CutTree, tree_of}
use Rattle.nx_layouts.specs.Layout.{RecordPlace}
use Rattle.nx_holdings.specs.Holdings.{Held, Holds, chain_count}
use Rattle.nx_records.specs.declared.records.Records.{Records}
use Rattle.nx_records.specs.Records.{StandsFor, HasHeader, catalog_length_of}
use Rattle.nx_records.proofs.LeaveLemmas.{leaves_stand}
use Rattle.nx_hold.specs.declared.entry.DocEntry.{DocEntry}
use Rattle.nx_hold.specs.Changes.{place_of}
use Rattle.nx_hold.specs.Documents.{HasDocument}
use Rattle.nx_nav.specs.Along.{ReadsAlong, ReadsShown}
use Rattle.nx_nav.specs.Early.{LeavesOutput}
use Rattle.nx_script.specs.declared.command.Command.{Command}
use Rattle.nx_script.specs.declared.command.Command.TheVariants as command
use Rattle.nx_script.specs.declared.request.Request.TheVariants.{Transaction}
use Rattle.nx_script.specs.declared.reply.Reply.{Reply}
use Rattle.nx_steps.specs.Step.{may_change}
use Rattle.nx_store.specs.Store.{is_ended, HoldsOn, RefusedHolds, GoesOn, NotApplied, LeavesStore}
use Rattle.nx_store.specs.Reads.{ReadsOpening, is_lookup, needs_no_page, needs_no_page_request, GetReads, ReadsWithin, ReadsToFirst}
use Rattle.nx_store.specs.declared.store.Store.{Store}
use Rattle.nx_store.specs.declared.error.EngineError.{EngineError}
use Rattle.nx_store.specs.declared.error.EngineError.TheVariants as error
use Rattle.nx_store.proofs.AtLemmas.{at_runs, at_beside}
use Rattle.nx_store.proofs.FoundLemmas.{at_none, at_stored}
use Rattle.nx_store.proofs.StayingLemmas.{held_on}

-- what holds anyway holds after an Ok
pub on_ok : {T E P : Type 0} (r : Result T E) → P → OnOk r P
on_ok (Ok x) p = p
on_ok (Err e) p = tt

-- a transaction whose answer needs no page has no commands
pub no_commands : (commands : List Command) → needs_no_page_request (Transaction commands) ≡ true → commands ≡ []
no_commands [] none = refl
no_commands (command ∷ commands) none = absurd (false≢true none)

-- as many more as there are more
some_more : (n m : ℕ) → m ≤ n + (m - n)
some_more n m = omega arith

-- the same from no read on
from_none : {held : Held} {root : RecordPlace} {path : List ℕ} {found : Option OrderedTree} {old new : ℕ} → ReadsShown held root path found old new → ReadsShown held root path found 0 (new - old)
from_none {old = old} {new = new} reads = record {
  between = (reads.along).pages;
  along = record {
    places = (reads.along).places;
    lead = (reads.along).lead;
    levels = (reads.along).levels;
    pages = (reads.along).pages;
    are = (reads.along).are;
    few = omega arith;
  };
  content = reads.content;
  shown = reads.shown;
  few = let first : reads.between ≤ old + (reads.along).pages = (reads.along).few in let then : new ≤ reads.between + reads.content = reads.few in omega (arith, first, then);
}

-- none of a content was read
no_content : {held : Held} {root : RecordPlace} {path : List ℕ} {found : Option OrderedTree} {old new : ℕ} → ReadsAlong held root path old new → ReadsShown held root path found old new
no_content {new = new} along = record { between = new; along = along; content = 0; shown = inl refl; few = omega arith }

-- a command that may change something is no lookup
pub no_lookup : (c : Command) → may_change c ≡ true → is_lookup c ≡ false
no_lookup (command.Load name body) may = refl
no_lookup (command.Discard name) may = refl
no_lookup (command.Rename old new) may = refl
no_lookup command.Names may = absurd (false≢true may)
no_lookup (command.Export name) may = absurd (false≢true may)
no_lookup (command.Insert name path said) may = refl
no_lookup (command.Delete name path) may = refl
no_lookup (command.Retext name path said) may = refl
no_lookup (command.Get name path) may = absurd (false≢true may)
no_lookup (command.Layout name) may = absurd (false≢true may)
no_lookup (command.SetRule rule) may = refl
no_lookup command.Rules may = absurd (false≢true may)
no_lookup command.Checkpoint may = absurd (false≢true may)
no_lookup (command.Begin bare) may = absurd (false≢true may)
no_lookup command.Commit may = absurd (false≢true may)
no_lookup command.Bad may = absurd (false≢true may)

-- ... and one that needs no page is one
no_page_lookup : (c : Command) → needs_no_page c ≡ true → is_lookup c ≡ true
no_page_lookup (command.Load name body) none = absurd (false≢true none)
no_page_lookup (command.Discard name) none = absurd (false≢true none)
no_page_lookup (command.Rename old new) none = absurd (false≢true none)
no_page_lookup command.Names none = refl
no_page_lookup (command.Export name) none = absurd (false≢true none)
no_page_lookup (command.Insert name path said) none = absurd (false≢true none)
no_page_lookup (command.Delete name path) none = absurd (false≢true none)
no_page_lookup (command.Retext name path said) none = absurd (false≢true none)
no_page_lookup (command.Get name path) none = absurd (false≢true none)
no_page_lookup (command.Layout name) none = absurd (false≢true none)
no_page_lookup (command.SetRule rule) none = absurd (false≢true none)
no_page_lookup command.Rules none = refl
no_page_lookup command.Checkpoint none = absurd (false≢true none)
no_page_lookup (command.Begin bare) none = refl
no_page_lookup command.Commit none = refl
no_page_lookup command.Bad none = refl

-- so one that may change something needs some
pub changes_unlike : {A : Type 0} (c : Command) → may_change c ≡ true → needs_no_page c ≡ true → A
changes_unlike c may none = absurd (false≢true (sym (no_lookup c may) ∙ no_page_lookup c none))

module _ {D : Type 0} (d : Ghosts D) where
  -- of a command that is no lookup nothing is said
  pub other_reads : (c : Command) (s : Store) (x0 x1 : D) → is_lookup c ≡ false → ReadsWithin d c s x0 x1
  other_reads (command.Load name body) s x0 x1 other state at = (d.reads x1 - d.reads x0, some_more (d.reads x0) (d.reads x1), tt)
  other_reads (command.Discard name) s x0 x1 other state at = (d.reads x1 - d.reads x0, some_more (d.reads x0) (d.reads x1), tt)
  other_reads (command.Rename old new) s x0 x1 other state at = (d.reads x1 - d.reads x0, some_more (d.reads x0) (d.reads x1), tt)
  other_reads command.Names s x0 x1 other state at = absurd (false≢true (sym other))
  other_reads (command.Export name) s x0 x1 other state at = (d.reads x1 - d.reads x0, some_more (d.reads x0) (d.reads x1), tt)
  other_reads (command.Insert name path said) s x0 x1 other state at = (d.reads x1 - d.reads x0, some_more (d.reads x0) (d.reads x1), tt)
  other_reads (command.Delete name path) s x0 x1 other state at = (d.reads x1 - d.reads x0, some_more (d.reads x0) (d.reads x1), tt)
  other_reads (command.Retext name path said) s x0 x1 other state at = (d.reads x1 - d.reads x0, some_more (d.reads x0) (d.reads x1), tt)
  other_reads (command.Get name path) s x0 x1 other state at = absurd (false≢true (sym other))
  other_reads (command.Layout name) s x0 x1 other state at = (d.reads x1 - d.reads x0, some_more (d.reads x0) (d.reads x1), tt)
  other_reads (command.SetRule rule) s x0 x1 other state at = (d.reads x1 - d.reads x0, some_more (d.reads x0) (d.reads x1), tt)
  other_reads command.Rules s x0 x1 other state at = absurd (false≢true (sym other))
  other_reads command.Checkpoint s x0 x1 other state at = (d.reads x1 - d.reads x0, some_more (d.reads x0) (d.reads x1), tt)
  other_reads (command.Begin bare) s x0 x1 other state at = absurd (false≢true (sym other))
  other_reads command.Commit s x0 x1 other state at = absurd (false≢true (sym other))
  other_reads command.Bad s x0 x1 other state at = absurd (false≢true (sym other))

  -- one that needs no page reads none
  pub unread_reads : (c : Command) (s : Store) (x0 x1 : D) → needs_no_page c ≡ true → d.reads x1 ≡ d.reads x0 → ReadsWithin d c s x0 x1
  unread_reads (command.Load name body) s x0 x1 none same state at = absurd (false≢true none)
  unread_reads (command.Discard name) s x0 x1 none same state at = absurd (false≢true none)
  unread_reads (command.Rename old new) s x0 x1 none same state at = absurd (false≢true none)
  unread_reads command.Names s x0 x1 none same state at = (0, omega (arith, same), refl)
  unread_reads (command.Export name) s x0 x1 none same state at = absurd (false≢true none)
  unread_reads (command.Insert name path said) s x0 x1 none same state at = absurd (false≢true none)
  unread_reads (command.Delete name path) s x0 x1 none same state at = absurd (false≢true none)
  unread_reads (command.Retext name path said) s x0 x1 none same state at = absurd (false≢true none)
  unread_reads (command.Get name path) s x0 x1 none same state at = absurd (false≢true none)
  unread_reads (command.Layout name) s x0 x1 none same state at = absurd (false≢true none)
  unread_reads (command.SetRule rule) s x0 x1 none same state at = absurd (false≢true none)
  unread_reads command.Rules s x0 x1 none same state at = (0, omega (arith, same), refl)
  unread_reads command.Checkpoint s x0 x1 none same state at = absurd (false≢true none)
  unread_reads (command.Begin bare) s x0 x1 none same state at = (0, omega (arith, same), refl)
  unread_reads command.Commit s x0 x1 none same state at = (0, omega (arith, same), refl)
  unread_reads command.Bad s x0 x1 none same state at = (0, omega (arith, same), refl)

  -- a store that has ended is at no state
  pub ended_reads : (c : Command) (s : Store) (x0 x1 : D) → is_ended s ≡ true → ReadsWithin d c s x0 x1
  ended_reads c s x0 x1 ended state at = absurd (false≢true (sym (at_runs at) ∙ ended))

  -- what is given behind it reads nothing
  pub given_reads : (c : Command) (s : Store) (x0 x1 x2 : D) → ReadsWithin d c s x0 x1 → d.reads x2 ≡ d.reads x1 → ReadsWithin d c s x0 x2
  given_reads c s x0 x1 x2 reads same state at = let (pages, few, of_it) = reads state at in (pages, omega (arith, few, same), of_it)

  -- no document has the name
  pub absent_reads : (name path : List ℕ) (s : Store) (x : D) → get (s.catalog).documents name ≡ None → ReadsWithin d (command.Get name path) s x x
  absent_reads name path s x none state at = (0, omega arith, subst (λ (o : Option CutTree). GetReads at.held name path o 0) (sym (at_none name at none)) refl)

  -- a document has it
  pub found_reads : (name path seen : List ℕ) (entry : DocEntry) (s : Store) (x0 x1 : D) → get (s.catalog).documents name ≡ Some entry → seen ≡ path
      → ((document : CutTree) (held : HasDocument d s.records x0 (place_of entry.root) document) → ReadsShown held.now (place_of entry.root) seen (at_path (tree_of document) seen) (d.reads x0) (d.reads x1))
      → ReadsWithin d (command.Get name path) s x0 x1
  found_reads name path seen entry s x0 x1 is along reads state at =
      let (one, same, stored, there) = at_stored name entry at is in
      let holds = (at.state_is).holds in
      let shown : ReadsShown at.held (place_of entry.root) seen (at_path (tree_of one.document) seen) (d.reads x0) (d.reads x1) =
      subst (λ (e : DocEntry). ((document : CutTree) (held : HasDocument d s.records x0 (place_of e.root) document) → ReadsShown held.now (place_of e.root) seen (at_path (tree_of document) seen) (d.reads x0) (d.reads x1))
      → ReadsShown at.held (place_of e.root) seen (at_path (tree_of one.document) seen) (d.reads x0) (d.reads x1)) same
      (λ each. each one.document (record { saved = at.held; now = at.held; stands = at.stands; pieces = holds.pieces; laid = record { layout = one.layout; laid = stored.laid } })) reads
      in
      let at_it : ReadsShown at.held (place_of entry.root) path (at_path (tree_of one.document) path) (d.reads x0) (d.reads x1) =
      subst (λ (p : List ℕ). ReadsShown at.held (place_of entry.root) p (at_path (tree_of one.document) p) (d.reads x0) (d.reads x1)) along shown
      in (
        d.reads x1 - d.reads x0,
        some_more (d.reads x0) (d.reads x1),
        subst (λ (o : Option CutTree). GetReads at.held name path o (d.reads x1 - d.reads x0)) (sym there) (entry, (s.catalog, at.catalog, is), from_none at_it),
      )

  -- a first part of it
  pub first_reads : (name : List ℕ) (entry : DocEntry) (s : Store) (x0 x1 : D) → get (s.catalog).documents name ≡ Some entry
      → (LeavesOutput d x0 x1 → (document : CutTree) (held : HasDocument d s.records x0 (place_of entry.root) document) → ReadsAlong held.now (place_of entry.root) (0 ∷ []) (d.reads x0) (d.reads x1))
      → ReadsToFirst d name s x0 x1
  first_reads name entry s x0 x1 is reads left =
      found_reads name (0 ∷ []) (0 ∷ []) entry s x0 x1 is refl (λ document held. no_content (reads left document held))

  -- ---- opening

  -- behind the records, so many pages more
  opened_more : (x0 x1 x2 : D) (was : Image) (pages : ℕ) → IfSome (d.contents x0) (λ w. d.reads x1 ≤ d.reads x0 + (3 * (length w.log / entry_size + 1) + 2)) → d.contents x0 ≡ Some was
      → d.reads x2 ≤ d.reads x1 + pages → d.reads x2 ≤ d.reads x0 + (3 * (length was.log / entry_size + 1) + 2 + pages)
  opened_more x0 x1 x2 was pages opened here more =
      let few : d.reads x1 ≤ d.reads x0 + (3 * (length was.log / entry_size + 1) + 2) =
      subst (λ (o : Option Image). IfSome o (λ w. d.reads x1 ≤ d.reads x0 + (3 * (length w.log / entry_size + 1) + 2))) here opened
      in omega (arith, few, more)

  none_more : (n pages : ℕ) → n ≤ n + pages
  none_more n pages = omega arith

  -- the catalog wasn't come to
  pub unopened_reads : (x0 x1 : D) (was : Image) → IfSome (d.contents x0) (λ w. d.reads x1 ≤ d.reads x0 + (3 * (length w.log / entry_size + 1) + 2)) → IsSettled d x0 was
      → ReadsOpening was (d.reads x0) (d.reads x1)
  unopened_reads x0 x1 was opened settled = record {
    sound = λ held holds. opened_more x0 x1 x1 was (chain_count (length held.catalog.bytes)) opened settled.here (none_more (d.reads x1) (chain_count (length held.catalog.bytes)));
    no_header = λ none. opened_more x0 x1 x1 was (chain_count 0) opened settled.here (none_more (d.reads x1) (chain_count 0));
  }

  -- it was read, as long as the header says
  pub catalog_reads : (r : Records) (x0 x1 x2 : D) (was : Image) → IfSome (d.contents x0) (λ w. d.reads x1 ≤ d.reads x0 + (3 * (length w.log / entry_size + 1) + 2)) → IsSettled d x0 was
      → ((held : Held) → Holds (replay was) held → StandsFor d r x1 held held) → HasHeader was → d.reads x2 ≤ d.reads x1 + chain_count (catalog_length_of r) → ReadsOpening was (d.reads x0) (d.reads x2)
  catalog_reads r x0 x1 x2 was opened settled stands has more = record {
    sound = λ held holds. opened_more x0 x1 x2 was (chain_count (length held.catalog.bytes)) opened settled.here
        (subst (λ (n : ℕ). d.reads x2 ≤ d.reads x1 + chain_count n) (sym (((stands held holds).holds).behind).catalog_length) more);
    no_header = λ none. absurd (none has);
  }

  -- ---- what is held

  -- the store was looked at
  pub looked_holds : (s0 s1 : Store) (x0 x1 : D) → LeavesStore s0 s1 → IsStill d x0 x1 → HoldsOn d s0 s1 x0 x1
  looked_holds s0 s1 x0 x1 left still state at told =
      (leaves_stand {r0 = s0.records} {r1 = s1.records} left.records still at.stands, (left.records).changes_stay ∙ at.none_waits, left.catalog)

  -- nothing was done
  -- ... so one that is refused, or for which there was no memory
  pub looked_kept : (s0 s1 : Store) (x0 x1 : D) (r : Result Reply EngineError) → IsStill d x0 x1 → (is_ended s1 ≡ false → LeavesStore s0 s1) → OnOk r (GoesOn s0 s1) → IfErr r (λ e. NotApplied d e s0 s1 x0 x1) → RefusedHolds d r s0 s1 x0 x1
  looked_kept s0 s1 x0 x1 (Ok reply) still same on refused = λ is. looked_holds s0 s1 x0 x1 (same on.1) still
  looked_kept s0 s1 x0 x1 (Err error.Memory) still same on refused = looked_holds s0 s1 x0 x1 (same refused.1) still
  looked_kept s0 s1 x0 x1 (Err error.Disk) still same on refused = tt
  looked_kept s0 s1 x0 x1 (Err (error.Damaged page)) still same on refused = tt
  looked_kept s0 s1 x0 x1 (Err error.Write) still same on refused = tt
  looked_kept s0 s1 x0 x1 (Err error.Ended) still same on refused = tt
  looked_kept s0 s1 x0 x1 (Err error.Exists) still same on refused = tt
  looked_kept s0 s1 x0 x1 (Err error.NotAStore) still same on refused = tt

  pub unasked_holds : (s : Store) (x : D) → HoldsOn d s s x x
  unasked_holds s x state at told = (at.stands, at.none_waits, refl)

  -- whatever is given behind it
  pub given_holds : (s0 s1 : Store) (x0 x1 x2 : D) (P : Option (List ℕ) → Type 0) → LeavesAreas d x1 x2 P → HoldsOn d s0 s1 x0 x1 → HoldsOn d s0 s1 x0 x2
  given_holds s0 s1 x0 x1 x2 P gives holds state at told =
      let before : IsSome (d.contents x1) = subst (λ o. IsSome o) (told_same (d.contents x1) (d.contents x2) gives.contents_stay told) told in
      let then = at_beside gives told (held_on d s0 s1 x0 x1 holds state at before) in
      (then.stands, then.none_waits, (holds state at before).2)
