-- A batch of questions that is read from a script, request by request.
use Rattle.std.proofs.Common.{◌≡◌, inl, inr, ℕ, ◌<◌, ◌≤◌, List, [], ◌∷◌, ◌++◌, length, Option, None, Some, refl, sym, ◌∙◌, subst, append_assoc, append-nil}
use Rattle.nx_host.specs.declared.disk.Disk.{Ghosts}
use Rattle.nx_host.specs.Disk.{Rose}
use Rattle.nx_host.specs.Host.{Takes}
use Rattle.nx_host.specs.Input.{most_input, HasTaken}
use Rattle.nx_host.specs.Phase.{TakesAlone}
use Rattle.nx_host.proofs.DiskLemmas.{untold}
use Rattle.nx_script.specs.declared.request.Request.{Request}
use Rattle.nx_script.specs.declared.requests.Requests.{Requests}
use Rattle.nx_script.specs.declared.error.ScriptError.{ScriptError}
use Rattle.nx_script.specs.declared.error.ScriptError.TheVariants as scripts
use Rattle.nx_script.specs.Requests.{AreRequests, HasGivenRequestsIn, EndsInRequests, StopsInRequests, StopsRequests}
use Rattle.nx_script.proofs.OneRequestList.{given_requests_prefix}
use Rattle.nx_filters.specs.declared.status.Status.TheVariants.{NoMemory}
use Rattle.nx_filters.specs.TakeError.{status_of_script}
use Rattle.nx_filters.proofs.OutcomeLemmas.{rose_since}
use Rattle.nx_front.specs.Serving.{AreFirst}
use Rattle.nx_front.specs.Asking.{batch_size}
use Rattle.nx_front.specs.Batches.{GivesBesides, GivesBatch, StopsInBatch, StopsBatch}
use Rattle.nx_front.proofs.ConversationLemmas.{first_given, few_given, first_of}

-- the same bytes and requests, in other words
given_as : {script : Requests} {first now : Option (List ℕ)} (taken bytes : List ℕ) (requests same : List Request) → taken ≡ bytes → requests ≡ same → HasGivenRequestsIn script taken requests first now →
    HasGivenRequestsIn script bytes same first now
given_as {script = script} {first = first} {now = now} taken bytes requests same is are given =
    subst (λ (l : List ℕ). HasGivenRequestsIn script l same first now) is (subst (λ (rs : List Request). HasGivenRequestsIn script taken rs first now) are given)

-- Requests that came besides:

-- none yet
pub gives_none : (script : Requests) (input : Option (List ℕ)) → GivesBesides [] script script input input
gives_none script input first taken requests given = ([], given_as taken (taken ++ []) requests (requests ++ []) (sym (append-nil taken)) (sym (append-nil requests)) given)

module _ {batch : List Request} {old mid new : Requests} {before now after : Option (List ℕ)} (was : GivesBesides batch old mid before now) where
  -- one more
  pub gives_more : (request : Request) → ((first : Option (List ℕ)) (taken : List ℕ) (requests : List Request) → HasGivenRequestsIn mid taken requests first now →
      (more : List ℕ) × HasGivenRequestsIn new (taken ++ more) (requests ++ request ∷ []) first after) → GivesBesides (batch ++ request ∷ []) old new before after
  gives_more request next first taken requests given =
      let (more, so_far) = was first taken requests given in
      let (others, then) = next first (taken ++ more) (requests ++ batch) so_far in (
        more ++ others,
        given_as ((taken ++ more) ++ others) (taken ++ (more ++ others)) ((requests ++ batch) ++ request ∷ []) (requests ++ (batch ++ request ∷ [])) (append_assoc taken more others)
            (append_assoc requests batch (request ∷ [])) then,
      )

  -- there are no more
  pub reads_last : length batch < batch_size → ((first : Option (List ℕ)) (taken : List ℕ) (requests : List Request) → HasGivenRequestsIn mid taken requests first now →
      (more : List ℕ) × HasGivenRequestsIn new (taken ++ more) requests first after × EndsInRequests (taken ++ more) requests first after) → GivesBatch batch old new before after
  reads_last fewer none first taken requests given =
      let (more, so_far) = was first taken requests given in
      let (others, then, ends) = none first (taken ++ more) (requests ++ batch) so_far in
      let same : (taken ++ more) ++ others ≡ taken ++ (more ++ others) = append_assoc taken more others in (
        more ++ others,
        subst (λ (l : List ℕ). HasGivenRequestsIn new l (requests ++ batch) first after) same then,
        inr (fewer, subst (λ (l : List ℕ). EndsInRequests l (requests ++ batch) first after) same ends),
      )

  -- the script stops, at so many bytes
  stops_within : (Many : ℕ → Type 0) → length batch < batch_size → ((first : Option (List ℕ)) (taken : List ℕ) (requests : List Request) → HasGivenRequestsIn mid taken requests first now →
      (more : List ℕ) × HasGivenRequestsIn new (taken ++ more) requests first after × Many (length (taken ++ more)) × StopsInRequests (taken ++ more) requests first after) → StopsInBatch Many old new before after
  stops_within Many fewer stops first taken requests given =
      let (more, so_far) = was first taken requests given in
      let (others, then, many, all) = stops first (taken ++ more) (requests ++ batch) so_far in
      let same : (taken ++ more) ++ others ≡ taken ++ (more ++ others) = append_assoc taken more others in (
        more ++ others,
        batch,
        fewer,
        subst (λ (l : List ℕ). Many (length l)) same many,
        subst (λ (l : List ℕ). HasGivenRequestsIn new l (requests ++ batch) first after) same then,
        subst (λ (l : List ℕ). StopsInRequests l (requests ++ batch) first after) same all,
      )

-- a batch is whole
pub reads_whole : {batch : List Request} {old new : Requests} {before after : Option (List ℕ)} → GivesBesides batch old new before after → length batch ≡ batch_size → GivesBatch batch old new before after
reads_whole gives whole first taken requests given = let (more, so_far) = gives first taken requests given in (more, so_far, inl whole)

-- what isn't none is one
one_told : (one other : List ℕ) → ◌≡◌ {A = Option (List ℕ)} (Some one) (Some other) → one ≡ other
one_told one other is = cc is

-- What is told when memory ran out was told before, so no request is another one then.
starved_given : (old new : Requests) (taken more : List ℕ) (requests : List Request) (first now mid : Option (List ℕ)) → HasGivenRequestsIn old taken requests first now → Takes (taken ++ more) first mid →
    ((f : Option (List ℕ)) → HasGivenRequestsIn old taken requests f now → (m : List ℕ) × HasTaken new.script.input (taken ++ m) f mid × (length (taken ++ m) ≤ most_input)) → AreFirst (taken ++ more) requests mid
starved_given old new taken more requests first now None given takes stops = tt
starved_given old new taken more requests first None (Some left) given takes stops =
    let unknown : HasGivenRequestsIn old taken requests None None = record { given = given.given; takes = tt; end = λ ended. (tt, (given.end ended).1) } in
    let (m, has, few) = stops None unknown in
    untold ((taken ++ m) ++ left) has.takes
starved_given old new taken more requests first (Some was) (Some left) given takes stops =
    let same : taken ++ was ≡ (taken ++ more) ++ left = one_told (taken ++ was) ((taken ++ more) ++ left) (sym given.takes ∙ takes) in
    let (rest, are) = given_requests_prefix old taken was requests first given in
    (rest, subst (λ (l : List ℕ). AreRequests l (requests ++ rest)) same are)

-- memory ran out, whatever was given
pub reading_starved : {D : Type 0} (d : Ghosts D) {batch : List Request} {old : Requests} (new : Requests) (before after : D) → GivesBesides batch old new (d.beside before).input (d.beside after).input →
    StopsBatch d NoMemory old new before after
reading_starved d {batch = batch} new before after gives first taken requests given =
    let (more, so_far) = gives first taken requests given in (
      more,
      so_far.takes,
      few_given new (taken ++ more) (requests ++ batch) first (d.beside after).input so_far,
      first_of (taken ++ more) requests batch (requests ++ batch) (d.beside after).input refl (first_given new (taken ++ more) (requests ++ batch) first (d.beside after).input so_far),
    )

module _ {D : Type 0} (d : Ghosts D) {batch : List Request} {old mid : Requests} (new : Requests) {before now : D} (after : D) where
  -- the script stops, where its memory ran out
  stops_starved : GivesBesides batch old mid (d.beside before).input (d.beside now).input →
      ((first : Option (List ℕ)) (taken : List ℕ) (requests : List Request) → HasGivenRequestsIn mid taken requests first (d.beside now).input → StopsRequests scripts.Memory new taken requests first (d.beside after).input) →
      StopsBatch d NoMemory old new before after
  stops_starved was stops first taken requests given =
      let (more, so_far) = was first taken requests given in
      let (others, has, few) = stops first (taken ++ more) (requests ++ batch) so_far in
      let same : (taken ++ more) ++ others ≡ taken ++ (more ++ others) = append_assoc taken more others in
      let are = starved_given mid new (taken ++ more) others (requests ++ batch) first (d.beside now).input (d.beside after).input so_far has.takes (λ f given_so. stops f (taken ++ more) (requests ++ batch) given_so) in (
        more ++ others,
        subst (λ (l : List ℕ). Takes l first (d.beside after).input) same has.takes,
        subst (λ (l : List ℕ). length l ≤ most_input) same few,
        first_of (taken ++ (more ++ others)) requests batch (requests ++ batch) (d.beside after).input refl (subst (λ (l : List ℕ). AreFirst l (requests ++ batch) (d.beside after).input) same are),
      )

  -- the script stops
  pub reading_stops : (error : ScriptError) → GivesBesides batch old mid (d.beside before).input (d.beside now).input → length batch < batch_size → TakesAlone d before now →
      (error ≡ scripts.Read → Rose (d.beside now).in_faults (d.beside after).in_faults) →
      ((first : Option (List ℕ)) (taken : List ℕ) (requests : List Request) → HasGivenRequestsIn mid taken requests first (d.beside now).input → StopsRequests error new taken requests first (d.beside after).input) →
      StopsBatch d (status_of_script error) old new before after
  reading_stops scripts.Read was fewer takes rose stops =
      (rose_since (d.beside before).in_faults (d.beside now).in_faults (d.beside after).in_faults takes.areas.in_faults_later (rose refl), stops_within was (λ n. n < most_input) fewer stops)
  reading_stops scripts.TooMuch was fewer takes rose stops = stops_within was (λ n. n ≡ most_input) fewer stops
  reading_stops scripts.Memory was fewer takes rose stops = stops_starved was stops
