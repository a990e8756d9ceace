-- What is looked up in a store of one document: its labels, gathered once, and what steps reach in it.
use Rattle.std.proofs.Common.{◌≡◌, ◌⊎◌, inl, inr, ⊎_elim, ℕ, ◌+◌, ◌<◌, ◌≤◌, true, false, cond, List, [], ◌∷◌, Option, None, Some, Result, Ok, Err, refl, sym, ap, ◌∙◌, subst, arith}
use Rattle.std.specs.Prelude.{IsSome, is_some, Contains, MatchOption, IfOk, IfErr}
use Rattle.std.specs.Borrow.{Bor}
use Rattle.std.specs.Option.{option_copied}
use Rattle.std.specs.Ordering.{is_eq, eq_by_cmp}
use Rattle.std.specs.Cmp.{tied_itself}
use Rattle.std.specs.Cmp.Lexicographic.{nat_list_cmp_total}
use Rattle.std.specs.FinMap.{get, insert, get-insert}
use Rattle.std.proofs.lemmas.Bool.{cases_Bool, cond-true, cond-false, false≢true}
use Rattle.std.proofs.lemmas.List.Elements.{Contains-push_cases}
use Rattle.nx_host.specs.declared.disk.Disk.{Ghosts}
use Rattle.nx_host.specs.Disk.{Image}
use Rattle.nx_host.specs.Still.{IsStill}
use Rattle.nx_host.proofs.DiskLemmas.{untold}
use Rattle.nx_records.specs.Words.{Held}
use Rattle.nx_cuts.specs.Cut.{CutTree}
use Rattle.nx_pyx.specs.DocumentName.{name_order}
use Rattle.nx_script.specs.declared.whole.Line.{Line}
use Rattle.nx_catalog.specs.NameMap.{map_in}
use Rattle.nx_catalog.proofs.NameMap.{same_name}
use Rattle.nx_state.specs.State.{State}
use Rattle.nx_reach.specs.declared.step.Step.{Step}
use Rattle.nx_find.specs.declared.names.Names.{Names}
use Rattle.nx_store.specs.declared.store.Store.{Store}
use Rattle.nx_store.specs.declared.error.EngineError.{EngineError}
use Rattle.nx_store.specs.declared.error.EngineError.TheVariants as engine
use Rattle.nx_store.specs.Store.{IsAt, NotApplied, HoldsOn}
use Rattle.nx_store.specs.Naming.{MapsStored, AreNamesOf, FindsIn, NamesReads, FindReads, ReadsNames, ReadsFinding, NotSearched}
use Rattle.nx_store.proofs.FoundLemmas.{same_some}
use Rattle.nx_store.proofs.StayingLemmas.{held_on}
use Rattle.nx_filters.specs.declared.status.Status.{Status}
use Rattle.nx_filters.specs.declared.status.Status.TheVariants.{NoMemory}
use Rattle.nx_front.specs.declared.gathered.Gathered.{Gathered}
use Rattle.nx_front.specs.declared.find.Answer.TheVariants as answer
use Rattle.nx_front.specs.Conversation.{StopsShort, IsUnanswered, status_of_engine}
use Rattle.nx_front.specs.Gathered.{labels_in, KnowsLabels, KeepsNames, ReadsOnce, ReadsSearch}
use Rattle.nx_front.specs.Finding.{AsksFor, AsksNothing, NoQuestion, NoSuchDocument, Reached, ReadForLine}
use Rattle.nx_front.specs.Searching.{GathersOf, StopsGathering, IsAbsent, SearchesOf, StopsSearching, ReadsBoth, ReachesNodes, ReachesOf, StopsReaching}
use Rattle.nx_front.specs.Questions.{AreNew, ReadsLine, ReadsWholeLine, LooksUpOf, StopsLooking}

-- what a look among references shows
pub shown : {o : Option Names} (result : Option (Bor Names)) → option_copied result ≡ o → MatchOption result (o ≡ None) (λ names. o ≡ Some names.now)
shown None is = sym is
shown (Some names) is = sym is

-- what follows of a result, where there is one and where there is none

pub ok_then : {A E : Type 0} {P Q : A → Type 0} (result : Result A E) → ((x : A) → P x → Q x) → IfOk result P → IfOk result Q
ok_then (Ok x) then is = then x is
ok_then (Err e) then is = tt

pub err_then : {A E : Type 0} {P Q : E → Type 0} (result : Result A E) → ((e : E) → P e → Q e) → IfErr result P → IfErr result Q
err_then (Ok x) then is = tt
err_then (Err e) then is = then e is

-- Something is kept under a name:

module _ (old new : Gathered) (name : List ℕ) (names : Names) (kept : map_in new.names ≡ insert (map_in old.names) name names) where
  kept_get : (other : List ℕ) → labels_in new other ≡ cond (eq_by_cmp name_order other name) (Some names) (labels_in old other)
  kept_get other = ap (λ m. get m other) kept ∙ get-insert nat_list_cmp_total (map_in old.names) name names other

  kept_here : labels_in new name ≡ Some names
  kept_here = kept_get name ∙ ap (λ o. cond (is_eq o) (Some names) (labels_in old name)) (tied_itself nat_list_cmp_total name)

  kept_there : KeepsNames old new
  kept_there other there = ⊎_elim
      (λ same. subst (λ (o : Option Names). IsSome o) (sym (kept_get other ∙ cond-true _ (Some names) (labels_in old other) same)) refl)
      (λ differs. subst (λ (o : Option Names). IsSome o) (sym (kept_get other ∙ cond-false _ (Some names) (labels_in old other) differs)) there)
      (cases_Bool (eq_by_cmp name_order other name))

  -- what holds of what is kept, and of all that was kept before, holds of all
  kept_all : (P : List ℕ → Names → Type 0) → P name names → ((other : List ℕ) (ones : Names) → labels_in old other ≡ Some ones → P other ones) →
      (other : List ℕ) (ones : Names) → labels_in new other ≡ Some ones → P other ones
  kept_all P own others other ones there = ⊎_elim
      (λ same.
      let is : names ≡ ones = same_some (sym (kept_get other ∙ cond-true _ (Some names) (labels_in old other) same) ∙ there) in
      subst (λ (n : List ℕ). P n ones) (sym (same_name other name same)) (subst (λ (ns : Names). P name ns) is own))
      (λ differs. others other ones (sym (kept_get other ∙ cond-false _ (Some names) (labels_in old other) differs) ∙ there))
      (cases_Bool (eq_by_cmp name_order other name))

module _ {D : Type 0} {d : Ghosts D} {held : Held} {state : State} {store : Store} {gathered : Gathered} {a : D} where
  -- A store is asked of which so much is known:

  told_still : {b : D} → IsStill d a b → KnowsLabels d held state store gathered a → IsSome (d.contents b)
  told_still still knows = subst (λ (o : Option Image). IsSome o) (sym (still.contents_stay ∙ (((((knows.at).stands).keeps).step).settled).here)) refl

  -- as much is known of it then
  knows_on : {store' : Store} {b : D} → HoldsOn d store store' a b → IsStill d a b → KnowsLabels d held state store gathered a → KnowsLabels d held state store' gathered b
  knows_on {store' = store'} {b = b} holds still knows = record { at = held_on d store store' a b holds state knows.at (told_still still knows); same = knows.same; names = knows.names }

  -- of what is held
  maps_known : (name : List ℕ) (names : Names) → labels_in gathered name ≡ Some names → (knows : KnowsLabels d held state store gathered a) → MapsStored (knows.at).held state name names
  maps_known name names there knows = subst (λ (h : Held). MapsStored h state name names) (sym knows.same) (knows.names name names there).1

  once_read : (name : List ℕ) (b : D) → ReadsNames d store name a b → KnowsLabels d held state store gathered a → ReadsOnce d held state name a b
  once_read name b reads knows =
      let (pages, few, are) = reads state knows.at in
      (pages, few, subst (λ (h : Held). NamesReads h name (get state.documents name) pages) knows.same are)

  search_read : (name : List ℕ) (steps : List Step) (names : Names) (b : D) → labels_in gathered name ≡ Some names → ReadsFinding d store names name steps a b → KnowsLabels d held state store gathered a →
      ReadsSearch d held state name steps a b
  search_read name steps names b there reads knows =
      let (pages, few, are) = reads state knows.at (maps_known name names there knows) in
      (pages, few, subst (λ (h : Held). FindReads h name steps (get state.documents name) pages) knows.same are)

  -- why it gives up, from such a state
  short_of_names : (store' : Store) (b : D) (e : EngineError) → NotApplied d e store store' a b → IsStill d a b → KnowsLabels d held state store gathered a → StopsShort (status_of_engine e)
  short_of_names store' b engine.Disk why still knows = tt
  short_of_names store' b engine.Memory why still knows = tt
  short_of_names store' b engine.Ended why still knows = tt
  short_of_names store' b (engine.Damaged page) why still knows = absurd (why.1 (told_still still knows) state knows.at)
  short_of_names store' b engine.Write why still knows = absurd why
  short_of_names store' b engine.Exists why still knows = absurd why
  short_of_names store' b engine.NotAStore why still knows = absurd why

  short_of_search : (store' : Store) (name : List ℕ) (b : D) (e : EngineError) (names : Names) → labels_in gathered name ≡ Some names → NotSearched d e name names store store' a b →
      KnowsLabels d held state store gathered a → StopsShort (status_of_engine e)
  short_of_search store' name b engine.Disk names there why knows = tt
  short_of_search store' name b engine.Memory names there why knows = tt
  short_of_search store' name b engine.Ended names there why knows = tt
  short_of_search store' name b (engine.Damaged page) names there why knows = absurd (why.1 state knows.at (maps_known name names there knows))
  short_of_search store' name b engine.Write names there why knows = absurd why
  short_of_search store' name b engine.Exists names there why knows = absurd why
  short_of_search store' name b engine.NotAStore names there why knows = absurd why

module _ {D : Type 0} (d : Ghosts D) (store store' : Store) (name : List ℕ) (a b : D) where
  -- The labels of the document of a name are gathered:

  pub gathers_names : (old new : Gathered) (names : Names) → IsStill d a b → HoldsOn d store store' a b → ReadsNames d store name a b →
      ((state : State) (at : IsAt d store a state) → AreNamesOf at.held state name (Some names)) → map_in new.names ≡ insert (map_in old.names) name names → GathersOf d name store store' old new a b
  gathers_names old new names still holds reads are kept held state knows =
      let then = knows_on holds still knows in
      record {
        knows = record {
          at = then.at;
          same = then.same;
          names = kept_all old new name names kept (λ n ns. AreNamesOf held state n (Some ns)) (subst (λ (h : Held). AreNamesOf h state name (Some names)) knows.same (are state knows.at)) knows.names;
        };
        keeps = kept_there old new name names kept;
        there = λ none. untold names (sym none ∙ kept_here old new name names kept);
        reads = once_read name b reads knows;
      }

  -- there is no such document
  pub gathers_none : (gathered : Gathered) → IsStill d a b → HoldsOn d store store' a b → ReadsNames d store name a b → ((state : State) → IsAt d store a state → get state.documents name ≡ None) →
      GathersOf d name store store' gathered gathered a b
  gathers_none gathered still holds reads none held state knows =
      record { knows = knows_on holds still knows; keeps = λ other there. there; there = λ lacks. none state knows.at; reads = once_read name b reads knows }

  -- there is no memory to keep them
  pub gathers_unkept : (gathered : Gathered) → ReadsNames d store name a b → StopsGathering d name NoMemory store gathered a b
  gathers_unkept gathered reads held state knows = (tt, once_read name b reads knows)

  pub gathers_stopped : (gathered : Gathered) (e : EngineError) → IsStill d a b → NotApplied d e store store' a b → ReadsNames d store name a b → StopsGathering d name (status_of_engine e) store gathered a b
  gathers_stopped gathered e still why reads held state knows = (short_of_names store' b e why still knows, once_read name b reads knows)

module _ {D : Type 0} (d : Ghosts D) (store store' : Store) (gathered : Gathered) (name : List ℕ) (steps : List Step) (a b : D) where
  -- What steps reach in it is looked for:

  pub searches_found : (paths : Option (List (List ℕ))) (names : Names) → labels_in gathered name ≡ Some names → IsStill d a b → HoldsOn d store store' a b → ReadsFinding d store names name steps a b →
      ((state : State) (at : IsAt d store a state) → MapsStored at.held state name names → FindsIn state name steps paths) → SearchesOf d name steps paths store store' gathered a b
  searches_found paths names there still holds reads finds held state knows absent = record {
    knows = knows_on holds still knows;
    finds = finds state knows.at (maps_known name names there knows);
    reads = search_read name steps names b there reads knows;
  }

  pub searches_stopped : (e : EngineError) (names : Names) → labels_in gathered name ≡ Some names → NotSearched d e name names store store' a b → ReadsFinding d store names name steps a b →
      StopsSearching d name steps (status_of_engine e) store gathered a b
  searches_stopped e names there why reads held state knows absent = (short_of_search store' name b e names there why knows, search_read name steps names b there reads knows)

  pub unsearched : (e : EngineError) (names : Names) → NotSearched d e name names store store' a b → IsUnanswered d (status_of_engine e) a b
  unsearched engine.Disk names (rose, ends) = rose
  unsearched (engine.Damaged page) names why = tt
  unsearched engine.Ended names why = tt
  unsearched engine.Memory names why = tt
  unsearched engine.Write names why = absurd why
  unsearched engine.Exists names why = absurd why
  unsearched engine.NotAStore names why = absurd why

-- no page is read for what isn't there

no_names_read : (held : Held) (name : List ℕ) (document : Option CutTree) (pages : ℕ) → document ≡ None → NamesReads held name document pages → pages ≡ 0
no_names_read held name document pages none are = subst (λ (o : Option CutTree). NamesReads held name o pages) none are

module _ {D : Type 0} {d : Ghosts D} {store : Store} {gathered : Gathered} {a : D} where
  -- nothing was gathered of it
  pub searches_absent : (name : List ℕ) (steps : List Step) → labels_in gathered name ≡ None → SearchesOf d name steps None store store gathered a a
  searches_absent name steps lacks held state knows absent =
      let none = absent lacks in
      record { knows = knows; finds = none; reads = (0, omega arith, subst (λ (o : Option CutTree). FindReads held name steps o 0) (sym none) refl) }

-- The labels are gathered where that wasn't done, and the paths looked for:

absent_not : (state : State) (gathered : Gathered) (name : List ℕ) → is_some (labels_in gathered name) ≡ true → IsAbsent state gathered name
absent_not state gathered name there none = absurd (false≢true (subst (λ (o : Option Names). IsSome o) none there))

some_or_none : {A : Type 0} (o : Option A) → (o ≡ None) ⊎ IsSome o
some_or_none None = inl refl
some_or_none (Some x) = inr refl

none_of : {A : Type 0} (o : Option A) → is_some o ≡ false → o ≡ None
none_of None e = refl
none_of (Some x) e = absurd (false≢true (sym e))

read_both : (a b c own rest : ℕ) → b ≤ a + own → c ≤ b + rest → c ≤ a + (own + rest)
read_both a b c own rest first then = omega (arith, first, then)

-- a document that lacks labels isn't there, and nothing was read for them
once_either : (old new : Gathered) (held : Held) (state : State) (name : List ℕ) (pages : ℕ) → labels_in old name ≡ None → (labels_in new name ≡ None → get state.documents name ≡ None) →
    NamesReads held name (get state.documents name) pages → (pages ≡ 0) ⊎ ((labels_in old name ≡ None) × IsSome (labels_in new name) × NamesReads held name (get state.documents name) pages)
once_either old new held state name pages lacks absent are = ⊎_elim
    (λ none. inl (no_names_read held name (get state.documents name) pages (absent none) are))
    (λ some. inr (lacks, some, are))
    (some_or_none (labels_in new name))

module _ {D : Type 0} {d : Ghosts D} {store : Store} {gathered : Gathered} {a b : D} (name : List ℕ) (steps : List Step) where
  pub reaches_gathered : {store' : Store} (paths : Option (List (List ℕ))) → is_some (labels_in gathered name) ≡ true → SearchesOf d name steps paths store store' gathered a b →
      ReachesOf d name steps paths store store' gathered gathered a b
  reaches_gathered paths there searches held state knows =
      let did = searches held state knows (absent_not state gathered name there) in
      let (pages, few, are) = did.reads in
      record { knows = did.knows; keeps = λ other kept. kept; finds = did.finds; own = 0; once = inl refl; rest = pages; sought = are; few = read_both (d.reads a) (d.reads a) (d.reads b) 0 pages (omega arith) few }

  pub unreached_gathered : (status : Status) → is_some (labels_in gathered name) ≡ true → StopsSearching d name steps status store gathered a b → StopsReaching d name steps status store gathered a b
  unreached_gathered status there stops held state knows =
      let (short, read) = stops held state knows (absent_not state gathered name there) in
      let (pages, few, are) = read in
      (short, record { own = 0; once = inl refl; rest = pages; sought = inr are; few = read_both (d.reads a) (d.reads a) (d.reads b) 0 pages (omega arith) few })

  pub unreached_ungathered : (status : Status) → is_some (labels_in gathered name) ≡ false → StopsGathering d name status store gathered a b → StopsReaching d name steps status store gathered a b
  unreached_ungathered status lacks stops held state knows =
      let (short, read) = stops held state knows in
      let (pages, few, are) = read in
      (short, record { own = pages; once = inr (none_of (labels_in gathered name) lacks, are); rest = 0; sought = inl refl; few = read_both (d.reads a) (d.reads b) (d.reads b) pages 0 few (omega arith) })

module _ {D : Type 0} {d : Ghosts D} {store mid : Store} {old new : Gathered} {a b c : D} (name : List ℕ) (steps : List Step) where
  pub reaches_newly : {store' : Store} (paths : Option (List (List ℕ))) → is_some (labels_in old name) ≡ false → GathersOf d name store mid old new a b → SearchesOf d name steps paths mid store' new b c →
      ReachesOf d name steps paths store store' old new a c
  reaches_newly paths lacks gathers searches held state knows =
      let got = gathers held state knows in
      let did = searches held state got.knows got.there in
      let (own, few, of_names) = got.reads in
      let (rest, less, sought) = did.reads in
      record {
        knows = did.knows;
        keeps = got.keeps;
        finds = did.finds;
        own = own;
        once = once_either old new held state name own (none_of (labels_in old name) lacks) got.there of_names;
        rest = rest;
        sought = sought;
        few = read_both (d.reads a) (d.reads b) (d.reads c) own rest few less;
      }

  pub unreached_newly : (status : Status) → is_some (labels_in old name) ≡ false → GathersOf d name store mid old new a b → StopsSearching d name steps status mid new b c → StopsReaching d name steps status store old a c
  unreached_newly status lacks gathers stops held state knows =
      let got = gathers held state knows in
      let (short, read) = stops held state got.knows got.there in
      let (rest, less, sought) = read in
      let (own, few, of_names) = got.reads in (
        short,
        record {
          own = own;
          once = inr (none_of (labels_in old name) lacks, of_names);
          rest = rest;
          sought = inr sought;
          few = read_both (d.reads a) (d.reads b) (d.reads c) own rest few less;
        },
      )

-- What a line asks for is looked up:

none_among : (name : List ℕ) → Contains [] name → ⊥
none_among name there = let low : there.0 < 0 = there.1 in omega (arith, low)

one_among : (own name : List ℕ) → Contains (own ∷ []) name → own ≡ name
one_among own name there = ⊎_elim (λ none. absurd (none_among name none)) (λ is. is) (Contains-push_cases [] own name there)

-- no name is new, or this one
none_new : (gathered : Gathered) (line : Line) → AreNew gathered line []
none_new gathered line = record { once = tt; none = λ name there. absurd (none_among name there); asked = λ name there. absurd (none_among name there) }

one_new : (gathered : Gathered) (line : Line) (own : List ℕ) (steps : List Step) → AsksFor line own steps → labels_in gathered own ≡ None → AreNew gathered line (own ∷ [])
one_new gathered line own steps asks lacks = record {
  once = (none_among own, tt);
  none = λ name there. subst (λ (n : List ℕ). labels_in gathered n ≡ None) (one_among own name there) lacks;
  asked = λ name there. (steps, subst (λ (n : List ℕ). AsksFor line n steps) (one_among own name there) asks);
}

none_own : (a b own rest : ℕ) → own ≡ 0 → b ≤ a + (own + rest) → b ≤ a + (0 + rest)
none_own a b own rest none few = omega (arith, none, few)

module _ {D : Type 0} {d : Ghosts D} (line : Line) where
  -- it asks for nothing
  pub looks_up_nothing : {store : Store} {gathered : Gathered} {a : D} → AsksNothing line → LooksUpOf d line answer.NoQuestion store store gathered gathered a a
  looks_up_nothing {gathered = gathered} {a = a} none held state knows = record {
    is = NoQuestion none;
    knows = knows;
    keeps = λ name there. there;
    reads = record {
      names = [];
      fresh = none_new gathered line;
      kept = λ name there. absurd (none_among name there);
      for_names = 0;
      of_names = refl;
      for_line = 0;
      of_line = inl (none, refl);
      few = omega arith;
    };
  }

  -- there is no memory to read it
  pub unread : {store : Store} {gathered : Gathered} {a : D} → StopsLooking d line NoMemory store gathered a a
  unread {gathered = gathered} {a = a} held state knows = (tt, record { names = []; new = none_new gathered line; for_names = 0; of_names = refl; for_line = 0; of_line = inl refl; few = omega arith })

module _ {D : Type 0} {d : Ghosts D} {old : Gathered} {a b : D} (line : Line) (name : List ℕ) (steps : List Step) (asks : AsksFor line name steps) where
  line_read : {held : Held} {state : State} {paths : Option (List (List ℕ))} {store' : Store} {new : Gathered} → ReachesNodes d held state name steps paths store' old new a b →
      ReadsWholeLine d held state line old new a b
  line_read {new = new} reached = ⊎_elim
      (λ none. record {
        names = [];
        fresh = none_new old line;
        kept = λ other there. absurd (none_among other there);
        for_names = 0;
        of_names = refl;
        for_line = reached.rest;
        of_line = inr (name, steps, asks, reached.sought);
        few = none_own (d.reads a) (d.reads b) reached.own reached.rest none reached.few;
      })
      (λ own. record {
        names = name ∷ [];
        fresh = one_new old line name steps asks own.0;
        kept = λ other there. subst (λ (n : List ℕ). IsSome (labels_in new n)) (one_among name other there) own.1;
        for_names = reached.own;
        of_names = (reached.own, 0, own.2, refl, (let e : reached.own ≡ reached.own + 0 = omega arith in e));
        for_line = reached.rest;
        of_line = inr (name, steps, asks, reached.sought);
        few = reached.few;
      })
      reached.once

  line_sought : {held : Held} {state : State} (begun : ReadsBoth d held state name steps old a b) → (begun.rest ≡ 0) ⊎ ReadForLine held state line begun.rest
  line_sought begun = ⊎_elim (λ none. inl none) (λ are. inr (inr (name, steps, asks, are))) begun.sought

  line_begun : {held : Held} {state : State} → ReadsBoth d held state name steps old a b → ReadsLine d held state line old a b
  line_begun begun = ⊎_elim
      (λ none. record {
        names = [];
        new = none_new old line;
        for_names = 0;
        of_names = refl;
        for_line = begun.rest;
        of_line = line_sought begun;
        few = none_own (d.reads a) (d.reads b) begun.own begun.rest none begun.few;
      })
      (λ own. record {
        names = name ∷ [];
        new = one_new old line name steps asks own.0;
        for_names = begun.own;
        of_names = (begun.own, 0, own.1, refl, (let e : begun.own ≡ begun.own + 0 = omega arith in e));
        for_line = begun.rest;
        of_line = line_sought begun;
        few = begun.few;
      })
      begun.once

  pub looks_up_paths : {store store' : Store} {new : Gathered} (paths : List (List ℕ)) → ReachesOf d name steps (Some paths) store store' old new a b →
      LooksUpOf d line (answer.Reached paths) store store' old new a b
  looks_up_paths paths reaches held state knows =
      let reached = reaches held state knows in
      let (document, there, found) = reached.finds in
      record { is = Reached name steps document paths asks there found; knows = reached.knows; keeps = reached.keeps; reads = line_read reached }

  pub looks_up_none : {store store' : Store} {new : Gathered} → ReachesOf d name steps None store store' old new a b → LooksUpOf d line answer.NoSuchDocument store store' old new a b
  looks_up_none reaches held state knows =
      let reached = reaches held state knows in
      record { is = NoSuchDocument name steps asks reached.finds; knows = reached.knows; keeps = reached.keeps; reads = line_read reached }

  pub unlooked : {store : Store} (status : Status) → StopsReaching d name steps status store old a b → StopsLooking d line status store old a b
  unlooked status stops held state knows = let (short, begun) = stops held state knows in (short, line_begun begun)
