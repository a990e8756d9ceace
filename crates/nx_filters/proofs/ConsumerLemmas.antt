-- What was taken of an input as a consumer reads it, and how the reading stops.
use Rattle.std.proofs.Common.{◌≡◌, inl, ℕ, ◌≤◌, ◌<◌, true, false, Bool, List, [], ◌∷◌, ◌++◌, length, Option, Result, Ok, MatchBool, refl, sym, ap, ◌∙◌, subst, arith, append-nil, append_assoc}
use Rattle.nx_host.specs.Disk.{Beside, Rose}
use Rattle.nx_host.specs.Host.{IsAtEnd}
use Rattle.nx_host.specs.Input.{HasTaken, IsStopped, block_of, most_input}
use Rattle.nx_host.specs.declared.input.Input.{Input}
use Rattle.nx_host.specs.declared.input.InputError.{InputError}
use Rattle.nx_host.specs.declared.input.InputError.TheVariants as input
use Rattle.nx_filters.specs.declared.refusal.Refusal.{Refusal}
use Rattle.nx_filters.specs.declared.take_error.TakeError.{TakeError}
use Rattle.nx_filters.specs.declared.take_error.TakeError.TheVariants.{Refused, ReadFault, TooMuch, NoMemory}
use Rattle.nx_filters.specs.TakeError.{take_error_of_input}
use Rattle.nx_filters.specs.Consumer.{StopsAt, StopsFeeding}
use Rattle.nx_filters.specs.Outcome.{Meaning, TakesFew, EndsWhole, StopsBy}
use Rattle.nx_filters.proofs.OutcomeLemmas.{rose_since}

-- More bytes were taken; a consumer that knew what it had read before knows it now.
pub record Came (old new : Input) (knew knows : List ℕ → Type 0) (was now : Option (List ℕ)) : Type 0 where
  pub goes : (taken : List ℕ) (first : Option (List ℕ)) → HasTaken old taken first was →
      (more : List ℕ) × HasTaken new (taken ++ more) first now × (knew taken → knows (taken ++ more))

-- nothing yet
pub came_none : {i : Input} {now : Option (List ℕ)} {knows : List ℕ → Type 0} → Came i i knows knows now now
came_none {i = i} {now = now} {knows = knows} = record {
  goes = λ taken first had. (
    [],
    subst (λ (l : List ℕ). HasTaken i l first now) (sym (append-nil taken)) had,
    λ knew. subst knows (sym (append-nil taken)) knew,
  );
}

-- a block, which the consumer reads
pub came_more : {old mid new : Input} {was between now : Option (List ℕ)} {knew knows then_ : List ℕ → Type 0} (block : List ℕ) → Came old mid knew knows was between →
    ((taken : List ℕ) (first : Option (List ℕ)) → HasTaken mid taken first between → HasTaken new (taken ++ block) first now) → ((s : List ℕ) → knows s → then_ (s ++ block)) →
    Came old new knew then_ was now
came_more {new = new} {now = now} {then_ = then_} block came fills reads = record {
  goes = λ taken first had.
      let (more, had', knows) = came.goes taken first had in (
        more ++ block,
        subst (λ (l : List ℕ). HasTaken new l first now) (append_assoc taken more block) (fills (taken ++ more) first had'),
        λ knew. subst then_ (append_assoc taken more block) (reads (taken ++ more) (knows knew)),
      );
}

-- no bytes
pub came_still : {old mid new : Input} {was between now : Option (List ℕ)} {knew knows : List ℕ → Type 0} → Came old mid knew knows was between →
    ((taken : List ℕ) (first : Option (List ℕ)) → HasTaken mid taken first between → HasTaken new taken first now) → Came old new knew knows was now
came_still came stays = record { goes = λ taken first had. let (more, had', knows) = came.goes taken first had in (more, stays (taken ++ more) first had', knows) }

-- what was taken alone
pub came_taken : {old new : Input} {was now : Option (List ℕ)} {knew knows : List ℕ → Type 0} → Came old new knew knows was now →
    (taken : List ℕ) (first : Option (List ℕ)) → HasTaken old taken first was → (more : List ℕ) × HasTaken new (taken ++ more) first now
came_taken came taken first had = let (more, had', knows) = came.goes taken first had in (more, had')

nothing : (bytes : List ℕ) → length bytes ≡ 0 → bytes ≡ []
nothing [] h = refl
nothing (b ∷ bytes) h = absurd (omega (arith, h))

short_of : (m k : ℕ) → m ≡ k → m < most_input → k < most_input
short_of m k is less = omega (arith, is, less)

-- an empty block ends it
pub came_end : {old mid new : Input} {was between now : Option (List ℕ)} {knew knows : List ℕ → Type 0} (n : ℕ) → Came old mid knew knows was between →
    ((taken : List ℕ) (first : Option (List ℕ)) → HasTaken mid taken first between → HasTaken new (taken ++ block_of new) first now) → n ≡ 0 → n ≡ length (block_of new) → IsAtEnd now →
    mid.taken < most_input → (taken : List ℕ) (first : Option (List ℕ)) → HasTaken old taken first was → knew taken →
    (more : List ℕ) × HasTaken new (taken ++ more) first now × (IsAtEnd now × (length (taken ++ more) < most_input) × knows (taken ++ more))
came_end {mid = mid} {new = new} {now = now} n came fills none long end below taken first had knew =
    let (more, had', knows) = came.goes taken first had in
    let empty : block_of new ≡ [] = nothing (block_of new) (sym long ∙ none) in (
      more,
      subst (λ (l : List ℕ). HasTaken new l first now) (ap (λ (l : List ℕ). (taken ++ more) ++ l) empty ∙ append-nil (taken ++ more)) (fills (taken ++ more) first had'),
      (end, short_of mid.taken (length (taken ++ more)) had'.counted below, knows knew),
    )

-- the consumer has enough
pub came_enough : {old new : Input} {was now : Option (List ℕ)} {knew knows : List ℕ → Type 0} → Came old new knew knows was now →
    (taken : List ℕ) (first : Option (List ℕ)) → HasTaken old taken first was → knew taken → (more : List ℕ) × HasTaken new (taken ++ more) first now × knows (taken ++ more)
came_enough came taken first had knew = let (more, had', knows) = came.goes taken first had in (more, had', knows knew)

pub few_had : {i : Input} {taken : List ℕ} {first now : Option (List ℕ)} → HasTaken i taken first now → length taken ≤ most_input
few_had {i = i} {taken = taken} had = let counted : i.taken ≡ length taken = had.counted in let few : i.taken ≤ most_input = i.few in omega arith

-- no more bytes were taken than a run takes
pub came_few : {old new : Input} {was now : Option (List ℕ)} → ((taken : List ℕ) (first : Option (List ℕ)) → HasTaken old taken first was → (more : List ℕ) × HasTaken new (taken ++ more) first now) →
    (taken : List ℕ) (first : Option (List ℕ)) → HasTaken old taken first was → TakesFew first now
came_few goes_on taken first had = let (more, had') = goes_on taken first had in record { taken = taken ++ more; few = few_had had'; takes = had'.takes }

-- How the reading stops:

-- the input gives no block
pub stops_input : {old new : Input} {knew knows : List ℕ → Type 0} (shows : List ℕ → Result (List ℕ) Refusal → Type 0) (error : InputError) (was now : Beside) →
    Came old new knew knows was.input now.input → IsStopped error new.taken → (error ≡ input.Read → Rose was.in_faults now.in_faults) → ((s : List ℕ) → knows s → shows s (Ok [])) →
    (taken : List ℕ) (first : Option (List ℕ)) → HasTaken old taken first was.input → knew taken → StopsFeeding shows (take_error_of_input error) first was now
stops_input {new = new} shows input.Read was now came stopped rose none taken first had knew =
    let (more, all, knows) = came.goes taken first had in
    (rose refl, taken ++ more, short_of new.taken (length (taken ++ more)) all.counted stopped, record { takes = all.takes; few = few_had all; shows_so = none (taken ++ more) (knows knew) })
stops_input shows input.TooMuch was now came stopped rose none taken first had knew =
    let (more, all, knows) = came.goes taken first had in
    (taken ++ more, sym all.counted ∙ stopped, record { takes = all.takes; few = few_had all; shows_so = none (taken ++ more) (knows knew) })

-- the consumer stops
pub stops_taking : {old new : Input} {knew : List ℕ → Type 0} (shows : List ℕ → Result (List ℕ) Refusal → Type 0) (stop : TakeError) (was now : Beside) →
    Came old new knew (λ s. StopsAt shows stop s) was.input now.input → (taken : List ℕ) (first : Option (List ℕ)) → HasTaken old taken first was.input → knew taken →
    StopsFeeding shows stop first was now
stops_taking shows (Refused refusal) was now came taken first had knew =
    let (more, all, stops) = came.goes taken first had in (taken ++ more, record { takes = all.takes; few = few_had all; shows_so = stops knew })
stops_taking shows ReadFault was now came taken first had knew = let (more, all, stops) = came.goes taken first had in absurd (stops knew)
stops_taking shows TooMuch was now came taken first had knew = let (more, all, stops) = came.goes taken first had in absurd (stops knew)
stops_taking shows NoMemory was now came taken first had knew = tt

-- so does the run
pub fed_stops : (m : Meaning) (stop : TakeError) (old was now : Beside) → old.in_faults ≤ was.in_faults → StopsFeeding m.shows stop old.input was now → StopsBy m stop old now
fed_stops m (Refused refusal) old was now earlier (taken, shown) = (taken, record { takes = shown.takes; few = shown.few; refused = inl shown.shows_so })
fed_stops m ReadFault old was now earlier (rose, taken, short, shown) =
    (rose_since old.in_faults was.in_faults now.in_faults earlier rose, taken, short, record { takes = shown.takes; few = shown.few; shows = shown.shows_so })
fed_stops m TooMuch old was now earlier (taken, long, shown) = (taken, long, record { takes = shown.takes; few = shown.few; shows = shown.shows_so })
fed_stops m NoMemory old was now earlier stops = tt

-- a consumer that never has enough reads to the end
pub fed_whole : {i : Input} {taken : List ℕ} {first now : Option (List ℕ)} (knows : List ℕ → Type 0) (ended : Bool) → HasTaken i taken first now →
    MatchBool ended (IsAtEnd now × (length taken < most_input) × knows taken) ⊥ → EndsWhole taken first now × knows taken
fed_whole knows true had (end, short, knew) = (record { takes = had.takes; end = end; few = short }, knew)
fed_whole knows false had enough = absurd enough
