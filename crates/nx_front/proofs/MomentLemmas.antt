-- The turns of a run, and its moments.
use Rattle.std.proofs.Common.{◌≡◌, ◌⊎◌, inl, inr, ℕ, zero, suc, ◌+◌, ◌<◌, ◌≤◌, List, [], ◌∷◌, ◌++◌, take, drop, length, Some, refl, sym, ap, ◌∙◌, subst, arith, append_assoc, append-nil, length-append}
use Rattle.std.proofs.lemmas.List.{append_cancel_left, take_all, take-append-drop, length-take-le}
use Rattle.std.specs.Prelude.{◌≢◌, codes}
use Rattle.std.specs.List.{flat_map, zip}
use Rattle.nx_host.specs.Disk.{Image}
use Rattle.nx_script.specs.declared.request.Request.{Request}
use Rattle.nx_script.specs.declared.reply.Reply.{Reply}
use Rattle.nx_script.specs.declared.reply.Reply.TheVariants as reply
use Rattle.nx_script.specs.declared.reply.ReplyError.{ReplyError}
use Rattle.nx_script.specs.declared.request.Answer.{Answer}
use Rattle.nx_script.specs.declared.request.Answer.TheVariants as answer
use Rattle.nx_script.specs.Reply.{cause, reply_text, doc_line, interval_line, rule_line, answered_text}
use Rattle.nx_steps.specs.Requests.{RequestStep}
use Rattle.nx_state.specs.State.{State}
use Rattle.nx_state.specs.Stands.{Recovers}
use Rattle.nx_store.specs.Store.{IsOf}
use Rattle.nx_front.specs.Serving.{Turn, IsRun, state_after, requests_of, texts_of, BeginsWith, AreWholeReplies, IsMoment, IsBetween}
use Rattle.nx_front.specs.Conversation.{IsReached, IsReachedBetween}

-- One turn more:

-- it is a step from the state after all others
pub run_more : (state : State) (turns : List Turn) (turn : Turn) → IsRun state turns → RequestStep (state_after state turns) turn.request turn.reply turn.next → IsRun state (turns ++ turn ∷ [])
run_more state [] turn run step = (step, tt)
run_more state (t ∷ ts) turn run step = (run.0, run_more t.next ts turn run.1 step)

pub after_more : (state : State) (turns : List Turn) (turn : Turn) → state_after state (turns ++ turn ∷ []) ≡ turn.next
after_more state [] turn = refl
after_more state (t ∷ ts) turn = after_more t.next ts turn

pub requests_more : (turns : List Turn) (turn : Turn) → requests_of (turns ++ turn ∷ []) ≡ requests_of turns ++ turn.request ∷ []
requests_more [] turn = refl
requests_more (t ∷ ts) turn = ap (λ (rs : List Request). t.request ∷ rs) (requests_more ts turn)

pub texts_more : (turns : List Turn) (turn : Turn) → texts_of (turns ++ turn ∷ []) ≡ texts_of turns ++ answered_text turn.reply
texts_more [] turn = append-nil (answered_text turn.reply)
texts_more (t ∷ ts) turn = ap (λ (l : List ℕ). answered_text t.reply ++ l) (texts_more ts turn) ∙ sym (append_assoc (answered_text t.reply) (texts_of ts) (answered_text turn.reply))

-- A reply has a text:

dot_behind : (text : List ℕ) → 0 < length (text ++ codes ".\n")
dot_behind text = let long : length (text ++ codes ".\n") ≡ length text + 2 = length-append text (codes ".\n") in omega arith

reply_some : (reply : Reply) → 0 < length (reply_text reply)
reply_some reply.Done = omega arith
reply_some (reply.Loaded nodes intervals) = omega arith
reply_some (reply.Shown node children) = omega arith
reply_some (reply.Names docs) = dot_behind (flat_map doc_line docs)
reply_some (reply.Exported text) = dot_behind text
reply_some (reply.Laid parts weights) = dot_behind (flat_map interval_line (zip parts weights))
reply_some (reply.Rules rules) = dot_behind (flat_map rule_line rules)
reply_some (reply.Refused error) = omega arith

number_behind : (number : ℕ) (error : ReplyError) → 0 < length (answered_text (answer.RefusedAt number error))
number_behind number error = omega arith

answer_some : (reply : Answer) → 0 < length (answered_text reply)
answer_some (answer.One reply) = reply_some reply
answer_some (answer.All replies) = dot_behind (flat_map reply_text replies)
answer_some (answer.RefusedAt number error) = number_behind number error

-- Moments:

-- nothing is out
pub reached_none : (state : State) (turns : List Turn) (image : Image) → IsOf state image → IsReached state turns [] image
reached_none state [] image is = (refl, is)
reached_none state (t ∷ ts) image is = inl (refl, is)

-- a moment of a run is one of a longer run
pub longer : (state : State) (turns : List Turn) (turn : Turn) (out : List ℕ) (image : Image) → IsReached state turns out image → IsReached state (turns ++ turn ∷ []) out image
longer state [] turn out image reached = inl reached
longer state (t ∷ ts) turn out image (inl reached) = inl reached
longer state (t ∷ ts) turn out image (inr (inl reached)) = inr (inl reached)
longer state (t ∷ ts) turn out image (inr (inr (more, is, reached))) = inr (inr (more, is, longer t.next ts turn more image reached))

-- a moment of its last turn is one of a run
pub last : (state : State) (turns : List Turn) (turn : Turn) (out : List ℕ) (image : Image) → IsReached (state_after state turns) (turn ∷ []) out image →
    IsReached state (turns ++ turn ∷ []) (texts_of turns ++ out) image
last state [] turn out image reached = reached
last state (t ∷ ts) turn out image reached =
    inr (inr (texts_of ts ++ out, append_assoc (answered_text t.reply) (texts_of ts) out, last t.next ts turn out image reached))

-- Moments between two requests:

-- one before the last byte of the replies is one of a longer run
pub longer_between : (state : State) (turns : List Turn) (turn : Turn) (out : List ℕ) (image : Image) → length out < length (texts_of turns) → IsReachedBetween state turns out image →
    IsReachedBetween state (turns ++ turn ∷ []) out image
longer_between state [] turn out image short reached = absurd (omega (arith, short))
longer_between state (t ∷ ts) turn out image short (inl reached) = inl reached
longer_between state (t ∷ ts) turn out image short (inr (more, is, reached)) =
    let here : length out ≡ length (answered_text t.reply ++ more) = ap length is in
    let mine : length (answered_text t.reply ++ more) ≡ length (answered_text t.reply) + length more = length-append (answered_text t.reply) more in
    let all : length (answered_text t.reply ++ texts_of ts) ≡ length (answered_text t.reply) + length (texts_of ts) = length-append (answered_text t.reply) (texts_of ts) in
    inr (more, is, longer_between t.next ts turn more image (omega (arith, short, here, mine, all)) reached)

-- one of the last turn is one of the run
pub last_between : (state : State) (turns : List Turn) (turn : Turn) (out : List ℕ) (image : Image) → IsReachedBetween (state_after state turns) (turn ∷ []) out image →
    IsReachedBetween state (turns ++ turn ∷ []) (texts_of turns ++ out) image
last_between state [] turn out image reached = reached
last_between state (t ∷ ts) turn out image reached =
    inr (texts_of ts ++ out, append_assoc (answered_text t.reply) (texts_of ts) out, last_between t.next ts turn out image reached)

-- the reply of a turn that changes nothing is out in part or whole
pub part_between : (state : State) (turn : Turn) (n : ℕ) (image : Image) → IsOf state image → IsOf turn.next image → (n < length (answered_text turn.reply)) ⊎ (length (answered_text turn.reply) ≤ n) →
    IsReachedBetween state (turn ∷ []) (take n (answered_text turn.reply)) image
part_between state turn n image before after (inl short) = inl (n, short, refl, before, inr after)
part_between state turn n image before after (inr all) = inr ([], take_all n (answered_text turn.reply) all ∙ sym (append-nil (answered_text turn.reply)), (refl, after))

-- Each moment has a number of whole replies:

pub le_or : (a b : ℕ) → (a < b) ⊎ (b ≤ a)
le_or a b = grind arith

too_long : (turns : List Turn) (turn : Turn) (out : List ℕ) (n : ℕ) → length out < length (answered_text turn.reply) → 0 < n → BeginsWith (texts_of (take n (turn ∷ turns))) out → ⊥
too_long turns turn out zero short some begins = omega arith
too_long turns turn out (suc n) short some (more, is) =
    let x = ap length is in
    let y = length-append (answered_text turn.reply ++ texts_of (take n turns)) more in
    let z = length-append (answered_text turn.reply) (texts_of (take n turns)) in
    omega (arith, x, y, z)

-- none is
none_whole : (turns : List Turn) (turn : Turn) (out : List ℕ) → length out < length (answered_text turn.reply) → AreWholeReplies (turn ∷ turns) out 0
none_whole turns turn out short = record {
  some = omega arith;
  begins = (out, refl);
  no_more = λ n low high begins. too_long turns turn out n short low begins;
}

nothing_whole : (turns : List Turn) → AreWholeReplies turns [] 0
nothing_whole [] = record { some = omega arith; begins = ([], refl); no_more = λ n low high begins. omega arith }
nothing_whole (t ∷ ts) = none_whole ts t [] (answer_some t.reply)

no_more_behind : (turns : List Turn) (turn : Turn) (more : List ℕ) (count : ℕ) → AreWholeReplies turns more count → (n : ℕ) → suc count < n → n ≤ suc (length turns) →
    BeginsWith (texts_of (take n (turn ∷ turns))) (answered_text turn.reply ++ more) → ⊥
no_more_behind turns turn more count whole zero low high begins = omega arith
no_more_behind turns turn more count whole (suc n) low high (rest, is) =
    whole.no_more n (omega arith) (omega arith) (
      rest,
      append_cancel_left (answered_text turn.reply) more (texts_of (take n turns) ++ rest) (is ∙ append_assoc (answered_text turn.reply) (texts_of (take n turns)) rest),
    )

-- the first is, and as many of those behind
one_whole : (turns : List Turn) (turn : Turn) (more : List ℕ) (count : ℕ) → AreWholeReplies turns more count → AreWholeReplies (turn ∷ turns) (answered_text turn.reply ++ more) (suc count)
one_whole turns turn more count whole = record {
  some = let few : count ≤ length turns = whole.some in omega arith;
  begins = let (rest, is) = whole.begins in
      (rest, ap (λ (l : List ℕ). answered_text turn.reply ++ l) is ∙ sym (append_assoc (answered_text turn.reply) (texts_of (take count turns)) rest));
  no_more = no_more_behind turns turn more count whole;
}

-- the image of a moment is that of the state after as many requests as are answered whole, or one more
abbrev Stands : State → List Turn → ℕ → Image → Type 0
Stands state turns count image = Recovers image (Some (state_after state (take count turns))) ⊎ Recovers image (Some (state_after state (take (count + 1) turns)))

-- what stands behind one more
one_behind : (state : State) (turn : Turn) (turns : List Turn) (count : ℕ) (image : Image) → Recovers image (Some (state_after turn.next (take (count + 1) turns))) →
    Recovers image (Some (state_after state (take (suc count + 1) (turn ∷ turns))))
one_behind state turn turns count image is =
    let same : suc (count + 1) ≡ suc count + 1 = omega arith in
    subst (λ (n : ℕ). Recovers image (Some (state_after state (take n (turn ∷ turns))))) same is

-- ... where a part of another reply is out
begun_behind : (state : State) (turn : Turn) (turns : List Turn) (count : ℕ) (more : List ℕ) (image : Image) →
    (more ≢ texts_of (take count turns) → Recovers image (Some (state_after turn.next (take (count + 1) turns)))) → answered_text turn.reply ++ more ≢ answered_text turn.reply ++ texts_of (take count turns) →
    Recovers image (Some (state_after state (take (suc count + 1) (turn ∷ turns))))
begun_behind state turn turns count more image begun other = one_behind state turn turns count image (begun (λ same. other (ap (λ (l : List ℕ). answered_text turn.reply ++ l) same)))

begun_between : (state : State) (turn : Turn) (turns : List Turn) (n : ℕ) (image : Image) → (n ≡ 0) ⊎ IsOf turn.next image → take n (answered_text turn.reply) ≢ [] →
    Recovers image (Some (state_after state (take 1 (turn ∷ turns))))
begun_between state turn turns n image (inl none) other = absurd (other (ap (λ (m : ℕ). take m (answered_text turn.reply)) none))
begun_between state turn turns n image (inr after) other = after

stands_behind : (state : State) (turn : Turn) (turns : List Turn) (count : ℕ) (image : Image) → Stands turn.next turns count image → Stands state (turn ∷ turns) (suc count) image
stands_behind state turn turns count image (inl is) = inl is
stands_behind state turn turns count image (inr is) = inr (one_behind state turn turns count image is)

-- a part of the first reply is out, and not all of it
part_given : (text behind : List ℕ) (n : ℕ) → text ++ behind ≡ take n text ++ (drop n text ++ behind)
part_given text behind n = ap (λ (l : List ℕ). l ++ behind) (sym (take-append-drop n text)) ∙ append_assoc (take n text) (drop n text) behind

part_whole : (turns : List Turn) (turn : Turn) (n : ℕ) → n < length (answered_text turn.reply) → AreWholeReplies (turn ∷ turns) (take n (answered_text turn.reply)) 0
part_whole turns turn n short =
    none_whole turns turn (take n (answered_text turn.reply)) (let long : length (take n (answered_text turn.reply)) ≡ n = length-take-le n (answered_text turn.reply) (omega (arith, short)) in omega (arith, short))

part_out : (state : State) (turns : List Turn) (turn : Turn) (n : ℕ) (image : Image) → IsOf turn.next image → (n < length (answered_text turn.reply)) ⊎ (length (answered_text turn.reply) ≤ n) →
    IsMoment state (turn ∷ turns) (take n (answered_text turn.reply)) image
part_out state turns turn n image is (inl short) = record {
  rest = drop n (answered_text turn.reply) ++ texts_of turns;
  given = part_given (answered_text turn.reply) (texts_of turns) n;
  count = 0;
  whole = part_whole turns turn n short;
  stands = inr is;
  begun = λ other. is;
}
part_out state turns turn n image is (inr all) =
    subst (λ (o : List ℕ). IsMoment state (turn ∷ turns) o image) (sym (take_all n (answered_text turn.reply) all))
    (record {
      rest = texts_of turns;
      given = refl;
      count = 1;
      whole = subst (λ (o : List ℕ). AreWholeReplies (turn ∷ turns) o 1) (append-nil (answered_text turn.reply)) (one_whole turns turn [] 0 (nothing_whole turns));
      stands = inl is;
      begun = λ other. absurd (other (sym (append-nil (answered_text turn.reply))));
    })

pub every_moment : (state : State) (turns : List Turn) (out : List ℕ) (image : Image) → IsReached state turns out image → IsMoment state turns out image
every_moment state [] out image (none, is) =
    subst (λ (o : List ℕ). IsMoment state [] o image) (sym none)
    (record { rest = []; given = refl; count = 0; whole = nothing_whole []; stands = inl is; begun = λ other. absurd (other refl) })
every_moment state (t ∷ ts) out image (inl (none, is)) =
    subst (λ (o : List ℕ). IsMoment state (t ∷ ts) o image) (sym none)
    (record { rest = texts_of (t ∷ ts); given = refl; count = 0; whole = nothing_whole (t ∷ ts); stands = inl is; begun = λ other. absurd (other refl) })
every_moment state (t ∷ ts) out image (inr (inl (n, part, is))) = subst (λ (o : List ℕ). IsMoment state (t ∷ ts) o image) (sym part) (part_out state ts t n image is (le_or n (length (answered_text t.reply))))
every_moment state (t ∷ ts) out image (inr (inr (more, parts, reached))) =
    let m = every_moment t.next ts more image reached in
    subst (λ (o : List ℕ). IsMoment state (t ∷ ts) o image) (sym parts)
    (record {
      rest = m.rest;
      given = ap (λ (l : List ℕ). answered_text t.reply ++ l) m.given ∙ sym (append_assoc (answered_text t.reply) more m.rest);
      count = suc m.count;
      whole = one_whole ts t more m.count m.whole;
      stands = stands_behind state t ts m.count image m.stands;
      begun = begun_behind state t ts m.count more image m.begun;
    })

-- ... and one between two requests has the image of the state after as many
pub every_between : (state : State) (turns : List Turn) (out : List ℕ) (image : Image) → IsReachedBetween state turns out image → IsBetween state turns out image
every_between state [] out image (none, is) =
    subst (λ (o : List ℕ). IsBetween state [] o image) (sym none)
    (record { moment = record { rest = []; given = refl; count = 0; whole = nothing_whole []; stands = inl is; begun = λ other. absurd (other refl) }; stands = is })
every_between state (t ∷ ts) out image (inl (n, short, part, is, next)) =
    subst (λ (o : List ℕ). IsBetween state (t ∷ ts) o image) (sym part)
    (record {
      moment = record {
        rest = drop n (answered_text t.reply) ++ texts_of ts;
        given = part_given (answered_text t.reply) (texts_of ts) n;
        count = 0;
        whole = part_whole ts t n short;
        stands = inl is;
        begun = begun_between state t ts n image next;
      };
      stands = is;
    })
every_between state (t ∷ ts) out image (inr (more, parts, reached)) =
    let b = every_between t.next ts more image reached in
    subst (λ (o : List ℕ). IsBetween state (t ∷ ts) o image) (sym parts)
    (record {
      moment = record {
        rest = (b.moment).rest;
        given = ap (λ (l : List ℕ). answered_text t.reply ++ l) (b.moment).given ∙ sym (append_assoc (answered_text t.reply) more (b.moment).rest);
        count = suc (b.moment).count;
        whole = one_whole ts t more (b.moment).count (b.moment).whole;
        stands = inl b.stands;
        begun = begun_behind state t ts (b.moment).count more image (b.moment).begun;
      };
      stands = b.stands;
    })
