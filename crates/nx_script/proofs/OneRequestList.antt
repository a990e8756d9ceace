-- Each list of bytes is one list of requests, and each request of a script can come.
use Rattle.std.proofs.Common.{◌≡◌, ◌⊎◌, inl, inr, ⊎_elim, ℕ, zero, suc, ◌+◌, ◌≤◌, Bool, true, false, List, [], ◌∷◌, ◌++◌, length, Option, None, Some, refl, sym, ap, ◌∙◌, subst, arith, append_assoc, append-nil, length-append}
use Rattle.std.specs.Prelude.{IsSome, All}
use Rattle.std.proofs.lemmas.Bool.{cases_Bool, or_from, or_parts, or_right}
use Rattle.std.proofs.lemmas.List.Elements.{All-nil, All-cons, All-append, All-head, All-tail}
use Rattle.std.proofs.lemmas.List.Folds.{list_any-append}
use Rattle.nx_script.specs.declared.command.Command.{Command}
use Rattle.nx_script.specs.declared.command.Command.TheVariants.{Begin, Commit, Bad}
use Rattle.nx_script.specs.declared.request.Request.{Request}
use Rattle.nx_script.specs.declared.request.Request.TheVariants.{Single}
use Rattle.nx_script.specs.declared.requests.Requests.{Requests}
use Rattle.nx_script.specs.Commands.{CanCome}
use Rattle.nx_script.specs.Requests.{beginning, is_commit, has_commit, closed, IsWholeRequest, SplitsIntoRequests, IsUncommitted, cut_off_request, AreWholeRequests, AreRequests, CanComeRequest, HasGrouped, HasGivenAll, HasGivenRequests, HasGivenRequestsIn}
use Rattle.nx_script.specs.Law.{HasOneRequestList}
use Rattle.nx_script.proofs.RequestLemmas.{IsRequestBy, requests_longer, single_request, transaction_request}
use Rattle.nx_script.proofs.CanComeLemmas.{commands_can, all_can}
use Rattle.nx_script.proofs.OneList.{one_list, whole_prefix, whole_more, given_prefix}

-- The first group of commands.

-- a command that ends a transaction, and one that begins one
commit_is : (command : Command) → is_commit command ≡ true → command ≡ Commit
commit_is Commit is = refl
commit_is command is = cc

begin_is : (command : Command) (bare : Bool) → beginning command ≡ Some bare → command ≡ Begin bare
begin_is (Begin b) bare is = let same : b ≡ bare = cc in ap (λ (x : Bool). Begin x) same
begin_is command bare is = cc

-- no command is a `commit`, or there is a first one
first_commit : (commands : List Command) → (has_commit commands ≡ false) ⊎ ((body : List Command) × (others : List Command) × (commands ≡ body ++ Commit ∷ others) × (has_commit body ≡ false))
first_commit [] = inl refl
first_commit (command ∷ commands) =
    ⊎_elim
    (λ (commit : is_commit command ≡ true). inr ([], commands, ap (λ (c : Command). c ∷ commands) (commit_is command commit), refl))
    (λ (other : is_commit command ≡ false).
    ⊎_elim
    (λ (none : has_commit commands ≡ false). inl (or_from (is_commit command) (has_commit commands) other none))
    (λ (some : (body : List Command) × (others : List Command) × (commands ≡ body ++ Commit ∷ others) × (has_commit body ≡ false)).
    inr (command ∷ some.0, some.1, ap (λ (l : List Command). command ∷ l) some.2, or_from (is_commit command) (has_commit some.0) other some.3))
    (first_commit commands))
    (cases_Bool (is_commit command))

-- a `commit` is among these commands
commit_among : (body others : List Command) → has_commit (body ++ Commit ∷ others) ≡ true
commit_among body others = list_any-append is_commit body (Commit ∷ others) ∙ or_right (has_commit body) true refl

-- the first `commit` is one
one_commit : (a b x y : List Command) → has_commit a ≡ false → has_commit b ≡ false → a ++ Commit ∷ x ≡ b ++ Commit ∷ y → (a ≡ b) × (x ≡ y)
one_commit [] [] x y p q is = let same : x ≡ y = cc in (refl, same)
one_commit [] (command ∷ b) x y p q is =
    absurd (let first : Commit ≡ command = cc in let no_commit : true ≡ false = ap (λ (c : Command). has_commit (c ∷ b)) first ∙ q in cc)
one_commit (command ∷ a) [] x y p q is =
    absurd (let first : command ≡ Commit = cc in let no_commit : true ≡ false = sym (ap (λ (c : Command). has_commit (c ∷ a)) first) ∙ p in cc)
one_commit (command ∷ a) (other ∷ b) x y p q is =
    let first : command ≡ other = cc in
    let rest : a ++ Commit ∷ x ≡ b ++ Commit ∷ y = cc in
    let (prefix, behind) = one_commit a b x y (or_parts (is_commit command) (has_commit a) p).1 (or_parts (is_commit other) (has_commit b) q).1 rest in
    (ap (λ (c : Command). c ∷ a) first ∙ ap (λ (l : List Command). other ∷ l) prefix, behind)

-- a group is no transaction that isn't ended
uncommitted_whole : (own others : List Command) (request : Request) → IsWholeRequest own request → IsUncommitted (own ++ others) → ⊥
uncommitted_whole [] others request whole left = whole
uncommitted_whole (command ∷ commands) others request whole (begins, none) = by_first (beginning command) begins whole
  where
    by_first : (first : Option Bool) → IsSome first → IsRequestBy first command commands request → ⊥
    by_first None some is = let no : false ≡ true = some in cc
    by_first (Some bare) some (body, is, free, same) =
        let no_commit : true ≡ false =
        sym (commit_among body others) ∙ ap has_commit (sym (append_assoc body (Commit ∷ []) others) ∙ ap (λ (l : List Command). l ++ others) (sym is)) ∙ none in
        cc

-- the first group is one, and its request
one_request : (own other : List Command) {more behind : List Command} {r s : Request} → IsWholeRequest own r → IsWholeRequest other s → own ++ more ≡ other ++ behind → (more ≡ behind) × (r ≡ s)
one_request [] other {more = more} {behind = behind} {r = r} {s = s} p q is = absurd p
one_request (command ∷ a) [] {more = more} {behind = behind} {r = r} {s = s} p q is = absurd q
one_request (command ∷ a) (second ∷ b) {more = more} {behind = behind} {r = r} {s = s} p q is =
    let first : command ≡ second = cc in
    let rest : a ++ more ≡ b ++ behind = cc in
    by_first (beginning command) p (subst (λ (c : Command). IsRequestBy (beginning c) c b s) (sym first) q) rest
  where
    by_first : (begins : Option Bool) → IsRequestBy begins command a r → IsRequestBy begins command b s → a ++ more ≡ b ++ behind → (more ≡ behind) × (r ≡ s)
    by_first None x y rest = (ap (λ (l : List Command). l ++ more) (sym x.0) ∙ rest ∙ ap (λ (l : List Command). l ++ behind) y.0, x.1 ∙ sym y.1)
    by_first (Some bare) (x, x_is, x_none, x_same) (y, y_is, y_none, y_same) rest =
        let both : x ++ Commit ∷ more ≡ y ++ Commit ∷ behind =
        sym (append_assoc x (Commit ∷ []) more) ∙ ap (λ (l : List Command). l ++ more) (sym x_is) ∙ rest
        ∙ ap (λ (l : List Command). l ++ behind) y_is ∙ append_assoc y (Commit ∷ []) behind in
        let (bodies, left) = one_commit x y more behind x_none y_none both in
        (left, x_same ∙ ap (closed bare) bodies ∙ sym y_same)

-- All groups.

-- commands give one list of whole requests, and leave one list of commands
one_splitting : (commands : List Command) (r s : List Request) {x y : List Command} → SplitsIntoRequests commands r x → SplitsIntoRequests commands s y → IsUncommitted x → IsUncommitted y → (r ≡ s) × (x ≡ y)
one_splitting commands [] [] {x = x} {y = y} p q u v = (refl, sym p ∙ q)
one_splitting commands [] (d ∷ ds) {x = x} {y = y} p (own, others, is, whole, gives) u v = absurd (uncommitted_whole own others d whole (subst IsUncommitted (sym p ∙ is) u))
one_splitting commands (c ∷ cs) [] {x = x} {y = y} (own, others, is, whole, gives) q u v = absurd (uncommitted_whole own others c whole (subst IsUncommitted (sym q ∙ is) v))
one_splitting commands (c ∷ cs) (d ∷ ds) {x = x} {y = y} (own, others, is, whole, gives) (own', others', is', whole', gives') u v =
    let (left, first) = one_request own own' whole whole' (sym is ∙ is') in
    let (rest, ends) = one_splitting others cs ds gives (subst (λ (l : List Command). SplitsIntoRequests l ds y) (sym left) gives') u v in
    (ap (λ (h : Request). h ∷ cs) first ∙ ap (λ (t : List Request). d ∷ t) rest, ends)

-- commands give whole requests, and then no command or a transaction that isn't ended
abbrev Splits : List Command → Type 0
Splits commands = (requests : List Request) × (rest : List Command) × SplitsIntoRequests commands requests rest × IsUncommitted rest

splits_single : (command : Command) (commands : List Command) → beginning command ≡ None → Splits commands → Splits (command ∷ commands)
splits_single command commands is (requests, rest, gives, left) = (Single command ∷ requests, rest, (command ∷ [], commands, refl, single_request command is, gives), left)

splits_transaction : (command : Command) (commands : List Command) (bare : Bool) (body others : List Command) → beginning command ≡ Some bare → commands ≡ body ++ Commit ∷ others → has_commit body ≡ false →
    Splits others → Splits (command ∷ commands)
splits_transaction command commands bare body others begins is none (requests, rest, gives, left) = (
  closed bare body ∷ requests,
  rest,
  (
    Begin bare ∷ (body ++ Commit ∷ []),
    others,
    ap (λ (c : Command). c ∷ commands) (begin_is command bare begins) ∙ ap (λ (l : List Command). Begin bare ∷ l) (is ∙ sym (append_assoc body (Commit ∷ []) others)),
    transaction_request bare body none,
    gives,
  ),
  left,
)

-- where fewer commands give some
splits_by : (command : Command) (commands : List Command) → ((others : List Command) → length others ≤ length commands → Splits others) → (begins : Option Bool) → beginning command ≡ begins →
    Splits (command ∷ commands)
splits_by command commands fewer None is = splits_single command commands is (fewer commands (omega arith))
splits_by command commands fewer (Some bare) is =
    ⊎_elim
    (λ (none : has_commit commands ≡ false). ([], command ∷ commands, refl, (subst IsSome (sym is) refl, none)))
    (λ (some : (body : List Command) × (others : List Command) × (commands ≡ body ++ Commit ∷ others) × (has_commit body ≡ false)).
    let size : length commands ≡ length some.0 + length (Commit ∷ some.1) = ap length some.2 ∙ length-append some.0 (Commit ∷ some.1) in
    splits_transaction command commands bare some.0 some.1 is some.2 some.3 (fewer some.1 (omega arith)))
    (first_commit commands)

some_splitting : (n : ℕ) (commands : List Command) → length commands ≤ n → Splits commands
some_splitting n [] few = ([], [], refl, tt)
some_splitting zero (command ∷ commands) few = absurd (omega arith)
some_splitting (suc n) (command ∷ commands) few = splits_by command commands (λ others fewer. some_splitting n others (omega arith)) (beginning command) refl

-- some requests, and more behind them
splits_append : (commands : List Command) (requests others : List Request) (mid rest : List Command) → SplitsIntoRequests commands requests mid → SplitsIntoRequests mid others rest → SplitsIntoRequests commands (requests ++ others) rest
splits_append commands [] others mid rest is gives = subst (λ (l : List Command). SplitsIntoRequests l others rest) (sym is) gives
splits_append commands (request ∷ requests) others mid rest (own, left, is, whole, first) gives = (own, left, is, whole, splits_append left requests others mid rest first gives)

-- each list of bytes is one list of requests
pub one_request_list : (bytes : List ℕ) → HasOneRequestList bytes
one_request_list bytes =
    let all = one_list bytes in
    let (requests, rest, gives, left) = some_splitting (length all.commands) all.commands (omega arith) in
    record {
      requests = requests ++ cut_off_request rest;
      are = (all.commands, requests, rest, all.are, gives, left, refl);
      only = λ others (commands, whole, behind, are, gives', left', is).
          let (same, ends) = one_splitting all.commands whole requests (subst (λ (l : List Command). SplitsIntoRequests l whole behind) (all.only commands are) gives') gives left' left in
          is ∙ ap (λ (l : List Request). l ++ cut_off_request behind) same ∙ ap (λ (l : List Command). requests ++ cut_off_request l) ends;
    }

-- Requests that are whole so far, and more bytes.

-- requests of the first commands begin those of all
splits_more : (commands more : List Command) (requests : List Request) (rest : List Command) → SplitsIntoRequests commands requests rest →
    (others : List Request) × (left : List Command) × SplitsIntoRequests (commands ++ more) (requests ++ others) left × IsUncommitted left
splits_more commands more requests rest gives =
    let (others, left, gives', uncommitted) = some_splitting (length (rest ++ more)) (rest ++ more) (omega arith) in
    (others, left, splits_append (commands ++ more) requests others (rest ++ more) left (requests_longer commands requests rest more gives) gives', uncommitted)

-- what is whole in the bytes so far begins the requests of all bytes
pub requests_prefix : (taken more : List ℕ) (requests : List Request) → AreWholeRequests taken requests → (rest : List Request) × AreRequests (taken ++ more) (requests ++ rest)
requests_prefix taken more requests (commands, rest, whole, gives, _) =
    let (behind, are) = whole_prefix taken more commands whole in
    let (others, left, gives', uncommitted) = splits_more commands behind requests rest gives in
    (others ++ cut_off_request left, (commands ++ behind, requests ++ others, left, are, gives', uncommitted, sym (append_assoc requests others (cut_off_request left))))

-- what is whole in the bytes so far begins what is whole in more bytes
pub requests_more : (taken more : List ℕ) (requests : List Request) → AreWholeRequests taken requests → (rest : List Request) × AreWholeRequests (taken ++ more) (requests ++ rest)
requests_more taken more requests (commands, rest, whole, gives, _) =
    let (behind, are) = whole_more taken more commands whole in
    let (others, left, gives', uncommitted) = splits_more commands behind requests rest gives in
    (others, (commands ++ behind, left, are, gives', uncommitted))

-- the requests that were given of an input begin those of the whole input
pub given_requests_prefix : (requests : Requests) (taken left : List ℕ) (told : List Request) (first : Option (List ℕ)) → HasGivenRequestsIn requests taken told first (Some left) →
    (rest : List Request) × AreRequests (taken ++ left) (told ++ rest)
given_requests_prefix requests taken left told first given = by_given (given.given).grouped
  where
    commands : List Command
    commands = (given.given).commands

    by_given : HasGrouped requests.begun commands told ⊎ HasGivenAll requests taken told → (rest : List Request) × AreRequests (taken ++ left) (told ++ rest)
    by_given (inl grouped) =
        let (behind, are) = given_prefix requests.script taken left commands first (record { given = (given.given).script; takes = given.takes; end = given.end }) in
        let (others, kept, gives, uncommitted) = splits_more commands behind told grouped.rest grouped.gives in
        (others ++ cut_off_request kept, (commands ++ behind, told ++ others, kept, are, gives, uncommitted, sym (append_assoc told others (cut_off_request kept))))
    by_given (inr all) =
        let end : left ≡ [] = (given.end ((given.given).script.ended all.finished)).0 in (
          [],
          subst (λ (l : List ℕ). AreRequests (taken ++ l) (told ++ [])) (sym end)
              (subst (λ (l : List ℕ). AreRequests l (told ++ [])) (sym (append-nil taken)) (subst (λ (l : List Request). AreRequests taken l) (sym (append-nil told)) all.all)),
        )

-- Requests that can come.

-- those of commands that can come
splits_can : (commands : List Command) (requests : List Request) (rest : List Command) → SplitsIntoRequests commands requests rest → All CanCome commands → All CanComeRequest requests
splits_can commands [] rest gives all = All-nil CanComeRequest
splits_can commands (request ∷ requests) rest (own, others, is, whole, gives) all =
    let parts : All CanCome (own ++ others) = subst (λ (l : List Command). All CanCome l) is all in
    All-cons CanComeRequest request requests (whole_can own whole (first_all own others parts)) (splits_can others requests rest gives (last_all own others parts))
  where
    first_all : (xs ys : List Command) → All CanCome (xs ++ ys) → All CanCome xs
    first_all [] ys h = All-nil CanCome
    first_all (x ∷ xs) ys h = All-cons CanCome x xs (All-head CanCome x (xs ++ ys) h) (first_all xs ys (All-tail CanCome x (xs ++ ys) h))

    last_all : (xs ys : List Command) → All CanCome (xs ++ ys) → All CanCome ys
    last_all [] ys h = h
    last_all (x ∷ xs) ys h = last_all xs ys (All-tail CanCome x (xs ++ ys) h)

    closed_can : (bare : Bool) (body : List Command) → All CanCome body → CanComeRequest (closed bare body)
    closed_can true body h = h
    closed_can false body h = tt

    by_first : (begins : Option Bool) (command : Command) (behind : List Command) → IsRequestBy begins command behind request → CanCome command → All CanCome behind → CanComeRequest request
    by_first None command behind (none, same) can h = subst CanComeRequest (sym same) can
    by_first (Some bare) command behind (body, are, free, same) can h =
        subst CanComeRequest (sym same) (closed_can bare body (first_all body (Commit ∷ []) (subst (λ (l : List Command). All CanCome l) are h)))

    whole_can : (own : List Command) → IsWholeRequest own request → All CanCome own → CanComeRequest request
    whole_can [] whole h = absurd whole
    whole_can (command ∷ behind) whole h = by_first (beginning command) command behind whole (All-head CanCome command behind h) (All-tail CanCome command behind h)

pub requests_can : (bytes : List ℕ) (requests : List Request) → AreRequests bytes requests → All CanComeRequest requests
requests_can bytes requests (commands, whole, rest, are, gives, left, is) =
    subst (λ (l : List Request). All CanComeRequest l) (sym is)
    (All-append CanComeRequest whole (cut_off_request rest) (splits_can commands whole rest gives (commands_can bytes commands are)) (cut_can rest))
  where
    cut_can : (behind : List Command) → All CanComeRequest (cut_off_request behind)
    cut_can [] = All-nil CanComeRequest
    cut_can (command ∷ behind) = All-cons CanComeRequest (Single Bad) [] tt (All-nil CanComeRequest)

-- those that were given
pub told_can : (requests : Requests) (taken : List ℕ) (told : List Request) → HasGivenRequests requests taken told → All CanComeRequest told
told_can requests taken told given = elim given.grouped [
  | inl grouped ↦ splits_can given.commands told grouped.rest grouped.gives (all_can requests.script taken given.commands given.script)
  | inr all ↦ requests_can taken told all.all
]

-- a request that was given
pub request_can : (requests : Requests) (taken : List ℕ) (told : List Request) (request : Request) → HasGivenRequests requests taken (told ++ request ∷ []) → CanComeRequest request
request_can requests taken told request given = last_one told (told_can requests taken (told ++ request ∷ []) given)
  where
    last_one : (before : List Request) → All CanComeRequest (before ++ request ∷ []) → CanComeRequest request
    last_one [] all = All-head CanComeRequest request [] all
    last_one (r ∷ before) all = last_one before (All-tail CanComeRequest r (before ++ request ∷ []) all)
