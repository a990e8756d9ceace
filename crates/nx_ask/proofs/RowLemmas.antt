-- Replies in rows, one behind the other.
use Rattle.std.proofs.Common.{◌≡◌, ℕ, ◌+◌, ◌<◌, List, [], ◌∷◌, ◌++◌, length, take, drop, get_or, sym, subst, ◌∙◌, ap, arith, length-append}
use Rattle.std.specs.List.{AllZip}
use Rattle.std.proofs.lemmas.List.{take-append-drop, take_more}
use Rattle.nx_script.specs.declared.command.Command.{Command}
use Rattle.nx_script.specs.declared.reply.Reply.{Reply}
use Rattle.nx_state.specs.State.{State}
use Rattle.nx_ask.specs.declared.error.AskError.{AskError}
use Rattle.nx_ask.specs.declared.error.AskError.TheVariants as error
use Rattle.nx_ask.specs.Asked.{Asked, AreAsked, NotAsked}

-- what holds of two pairs of lists, place by place, holds of them one behind the other
pub zip_joined : {A B : Type 0} (R : A → B → Type 0) (xs xs' : List A) (ys ys' : List B) → AllZip R xs ys → AllZip R xs' ys' → AllZip R (xs ++ xs') (ys ++ ys')
zip_joined R [] xs' [] ys' first second = second
zip_joined R [] xs' (y ∷ ys) ys' first second = absurd first
zip_joined R (x ∷ xs) xs' [] ys' first second = absurd first
zip_joined R (x ∷ xs) xs' (y ∷ ys) ys' first second = (first.0, zip_joined R xs xs' ys ys' first.1 second)

-- ... and of one place more
pub zip_more : {A B : Type 0} (R : A → B → Type 0) (xs : List A) (ys : List B) (i : ℕ) (d : A) (y : B) → AllZip R (take i xs) ys → i < length xs → R (get_or xs i d) y → AllZip R (take (i + 1) xs) (ys ++ y ∷ [])
zip_more R xs ys i d y so_far low here =
    subst (λ l. AllZip R l (ys ++ y ∷ [])) (sym (take_more xs i d low)) (zip_joined R (take i xs) (get_or xs i d ∷ []) ys (y ∷ []) so_far (here, tt))

-- the replies to two rows of questions are those to all
pub rows_joined : (Is : State → Type 0) (questions front back : List Command) (at : ℕ) (low high all : List Reply) → front ≡ take at questions → back ≡ drop at questions
    → AreAsked Is front low → AreAsked Is back high → all ≡ low ++ high → AreAsked Is questions all
rows_joined Is questions front back at low high all first second asked others joined =
    let whole : front ++ back ≡ questions = ap (λ (l : List Command). l ++ back) first ∙ ap (λ (l : List Command). take at questions ++ l) second ∙ take-append-drop at questions in
    let replies : length (low ++ high) ≡ length low + length high = length-append low high in
    let both : length (front ++ back) ≡ length front + length back = length-append front back in
    let each : length low ≡ length front = asked.0 in
    let other : length high ≡ length back = others.0 in (
      ap length joined ∙ (let e : length (low ++ high) ≡ length (front ++ back) = omega (arith, replies, both, each, other) in e) ∙ ap length whole,
      λ state is.
          subst (λ (l : List Command). AllZip (Asked state) l all) whole
          (subst (λ (l : List Reply). AllZip (Asked state) (front ++ back) l) (sym joined) (zip_joined (Asked state) front back low high (asked.1 state is) (others.1 state is))),
    )

-- why no question is answered about states is why none is answered about some of them
pub not_asked_of : (Is Some : State → Type 0) (e : AskError) → ((state : State) → Some state → Is state) → NotAsked Is e → NotAsked Some e
not_asked_of Is Some (error.Damaged page) are refused = λ state is. refused state (are state is)
not_asked_of Is Some error.Memory are refused = tt
not_asked_of Is Some error.NotAStore are refused = refused
not_asked_of Is Some error.Disk are refused = refused
