-- Lists of lookups, and the pages that they read.
use Rattle.std.proofs.Common.{◌≡◌, ℕ, ◌+◌, true, false, List, [], ◌∷◌, ◌++◌, refl, sym, ap, ◌∙◌, subst, arith}
use Rattle.std.proofs.lemmas.Bool.{false≢true}
use Rattle.std.proofs.lemmas.List.Elements.{All-nil, All-cons, All-head, All-tail}
use Rattle.nx_records.specs.Words.{Held}
use Rattle.nx_script.specs.declared.command.Command.{Command}
use Rattle.nx_script.specs.declared.request.Request.{Request}
use Rattle.nx_script.specs.declared.request.Request.TheVariants.{Single, Transaction}
use Rattle.nx_state.specs.State.{State}
use Rattle.nx_host.specs.declared.disk.Disk.{Ghosts}
use Rattle.nx_steps.specs.Requests.{may_change_request}
use Rattle.nx_store.specs.Reads.{needs_no_page_request}
use Rattle.nx_store.specs.declared.store.Store.{Store}
use Rattle.nx_front.specs.Lookups.{is_lookup_request, AreLookups, ReadsForRequest, ReadsRequestWithin, ReadForAll}

-- a transaction that is a lookup has no commands
no_commands : (commands : List Command) → is_lookup_request (Transaction commands) ≡ true → commands ≡ []
no_commands [] is = refl
no_commands (command ∷ commands) is = absurd (false≢true is)

pub lookup_stays : (request : Request) (commands : List Command) → request ≡ Transaction commands → is_lookup_request request ≡ true
    → may_change_request (Transaction commands) ≡ false
lookup_stays request commands is lookup =
    ap (λ (ks : List Command). may_change_request (Transaction ks)) (no_commands commands (sym (ap is_lookup_request is) ∙ lookup))

pub lookup_unread : (request : Request) (commands : List Command) → request ≡ Transaction commands → is_lookup_request request ≡ true
    → needs_no_page_request (Transaction commands) ≡ true
lookup_unread request commands is lookup =
    ap (λ (ks : List Command). needs_no_page_request (Transaction ks)) (no_commands commands (sym (ap is_lookup_request is) ∙ lookup))

-- ... and reads no page
pub lookup_reads : {D : Type 0} (d : Ghosts D) (request : Request) (commands : List Command) (store : Store) (before after : D) → request ≡ Transaction commands
    → is_lookup_request request ≡ true → d.reads after ≡ d.reads before → ReadsRequestWithin d request store before after
lookup_reads d request commands store before after is lookup same state at =
    let nothing : request ≡ Transaction [] = is ∙ ap (λ (ks : List Command). Transaction ks) (no_commands commands (sym (ap is_lookup_request is) ∙ lookup)) in
    (0, omega (arith, same), subst (λ (r : Request). ReadsForRequest at.held state r 0) (sym nothing) refl)

-- all but the last, and the last
pub lookups_but_last : (requests : List Request) (request : Request) → AreLookups (requests ++ request ∷ []) → AreLookups requests × (is_lookup_request request ≡ true)
lookups_but_last [] request all = (All-nil (λ (r : Request). is_lookup_request r ≡ true), All-head (λ (r : Request). is_lookup_request r ≡ true) request [] all)
lookups_but_last (first ∷ requests) request all =
    let (some, last) = lookups_but_last requests request (All-tail (λ (r : Request). is_lookup_request r ≡ true) first (requests ++ request ∷ []) all) in
    (All-cons (λ (r : Request). is_lookup_request r ≡ true) first requests (All-head (λ (r : Request). is_lookup_request r ≡ true) first (requests ++ request ∷ []) all) some, last)

-- what one more reads comes behind
pub read_more : (held : Held) (state : State) (requests : List Request) (request : Request) (pages own : ℕ) → ReadForAll held state requests pages → ReadsForRequest held state request own →
    ReadForAll held state (requests ++ request ∷ []) (pages + own)
read_more held state [] request pages own none reads = (own, 0, reads, refl, (let is : pages ≡ 0 = none in omega (arith, is)))
read_more held state (first ∷ requests) request pages own (one, rest, of_it, others, is) reads = (one, rest + own, of_it, read_more held state requests request rest own others reads, omega (arith, is))
