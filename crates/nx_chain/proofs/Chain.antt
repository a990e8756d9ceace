-- A chain page is made of what it says, and says that.
use Rattle.std.proofs.Common.{◌≡◌, ℕ, ◌+◌, ◌-◌, ◌<◌, ◌≤◌, ◌^◌, List, [], ◌∷◌, ◌++◌, length, take, drop, refl, sym, ap, ◌∙◌, arith, length-append}
use Rattle.std.proofs.Math.ListN.{replicate}
use Rattle.std.proofs.lemmas.List.{append_assoc, drop-drop, drop-replicate, drop_at, ext_get_or, get_or-replicate, length-drop, length-replicate, length-take-le, take-append-drop, take_all, take_at}
use Rattle.std.specs.Prelude.{slice_index}
use Rattle.nx_numbers.specs.Numbers.{number_at, number_bytes, with_number}
use Rattle.nx_numbers.proofs.Numbers.{length-number_bytes, number_at-number_bytes, length-with_number, drop-with_number}
use Rattle.nx_chain.specs.Chain.{chain_bytes, chain_head, IsBegun, IsChainPage}

length-head : (next : ℕ) (content : List ℕ) → length (chain_head next (length content)) ≡ 8
unfolding chain_head
length-head next content =
    let two = length-number_bytes 2 (length content) in
    let four = length-number_bytes 4 next in
    length-append (2 ∷ 0 ∷ number_bytes 2 (length content)) (number_bytes 4 next) ∙ omega arith

headed : (next : ℕ) (content : List ℕ) → chain_bytes next content ≡ chain_head next (length content) ++ (content ++ replicate (8184 - length content) 0)
unfolding chain_head chain_bytes
headed next content =
    sym (append_assoc (2 ∷ 0 ∷ number_bytes 2 (length content)) (number_bytes 4 next) (content ++ replicate (8184 - length content) 0))

pub says_length : (bytes : List ℕ) (next : ℕ) (content : List ℕ) → IsChainPage bytes next content → number_at 2 bytes 2 ≡ length content
unfolding chain_bytes
says_length bytes next content is =
    let few : length content ≤ 8184 = is.few in
    ap (λ (r : List ℕ). number_at 2 r 2) is.are
    ∙ number_at-number_bytes 2 (length content) 2 (2 ∷ 0 ∷ []) (number_bytes 4 next ++ (content ++ replicate (8184 - length content) 0)) refl (omega arith)

pub says_next : (bytes : List ℕ) (next : ℕ) (content : List ℕ) → IsChainPage bytes next content → number_at 4 bytes 4 ≡ next
unfolding chain_bytes
says_next bytes next content is =
    let low : next < 2 ^ 32 = is.low in
    let two = length-number_bytes 2 (length content) in
    ap (λ (r : List ℕ). number_at 4 r 4) is.are
    ∙ number_at-number_bytes 4 next 4 (2 ∷ 0 ∷ number_bytes 2 (length content)) (content ++ replicate (8184 - length content) 0) (omega arith) (omega arith)

pub says_content : (bytes : List ℕ) (next : ℕ) (content : List ℕ) → IsChainPage bytes next content → take (length content) (drop 8 bytes) ≡ content
says_content bytes next content is =
    ap (λ (r : List ℕ). take (length content) (drop 8 r)) (is.are ∙ headed next content)
    ∙ ap (λ (r : List ℕ). take (length content) r) (drop_at (chain_head next (length content)) (content ++ replicate (8184 - length content) 0) 8 (length-head next content))
    ∙ take_at content (replicate (8184 - length content) 0) (length content) refl

-- Zero bytes, by what is read of them.
pub zeros_are : (bytes : List ℕ) → ((i : ℕ) → i < length bytes → slice_index bytes i ≡ 0) → bytes ≡ replicate (length bytes) 0
zeros_are bytes zero = ext_get_or 0 bytes (replicate (length bytes) 0) (sym (length-replicate (length bytes) 0)) (λ i low. zero i low ∙ sym (get_or-replicate (length bytes) i 0 0 low))

pub are_zeros : (bytes : List ℕ) → bytes ≡ replicate (length bytes) 0 → (i : ℕ) → i < length bytes → slice_index bytes i ≡ 0
are_zeros bytes are i low = ap (λ (r : List ℕ). slice_index r i) are ∙ get_or-replicate (length bytes) i 0 0 low

as_long : (bytes : List ℕ) (n : ℕ) → bytes ≡ replicate n 0 → bytes ≡ replicate (length bytes) 0
as_long bytes n are = are ∙ ap (λ (k : ℕ). replicate k 0) (sym (ap length are ∙ length-replicate n 0))

pub tail_is : (bytes : List ℕ) (at : ℕ) → length bytes ≡ 8192 → take (8192 - at) (drop at bytes) ≡ drop at bytes
tail_is bytes at long = take_all (8192 - at) (drop at bytes) (let left = length-drop at bytes in omega (arith, left, long))

-- a page is the chain page of what it says, where it has the head of it and zero bytes behind the content
pub is_made : (bytes : List ℕ) (len next : ℕ) → length bytes ≡ 8192 → len ≤ 8184 → take 8 bytes ≡ chain_head next len → drop (8 + len) bytes ≡ replicate (length (drop (8 + len) bytes)) 0
    → (length (take len (drop 8 bytes)) ≡ len) × (bytes ≡ chain_bytes next (take len (drop 8 bytes)))
is_made bytes len next long few head zero =
    let content = take len (drop 8 bytes) in
    let back : length (drop 8 bytes) ≡ 8184 = length-drop 8 bytes ∙ omega (arith, long) in
    let size : length content ≡ len = length-take-le len (drop 8 bytes) (omega (arith, back, few)) in
    let left : length (drop (8 + len) bytes) ≡ 8184 - len = length-drop (8 + len) bytes ∙ omega (arith, long) in (
      size,
      sym (take-append-drop 8 bytes)
          ∙ ap (λ (r : List ℕ). r ++ drop 8 bytes) (head ∙ ap (λ (n : ℕ). chain_head next n) (sym size))
          ∙ ap (λ (r : List ℕ). chain_head next (length content) ++ r)
          (sym (take-append-drop len (drop 8 bytes))
          ∙ ap (λ (r : List ℕ). content ++ r) (drop-drop len 8 bytes ∙ zero ∙ ap (λ (n : ℕ). replicate n 0) (left ∙ ap (λ (n : ℕ). 8184 - n) (sym size))))
          ∙ sym (headed next content),
    )

-- and each chain page has these
pub has_head : (bytes : List ℕ) (len next : ℕ) (content : List ℕ) → IsChainPage bytes next content → len ≡ number_at 2 bytes 2 → take 8 bytes ≡ chain_head (number_at 4 bytes 4) len
has_head bytes len next content is len_is =
    ap (λ (r : List ℕ). take 8 r) (is.are ∙ headed next content)
    ∙ take_at (chain_head next (length content)) (content ++ replicate (8184 - length content) 0) 8 (length-head next content)
    ∙ ap (λ (n : ℕ). chain_head next n) (sym (len_is ∙ says_length bytes next content is))
    ∙ ap (λ (n : ℕ). chain_head n len) (sym (says_next bytes next content is))

pub has_zeros : (bytes : List ℕ) (len next : ℕ) (content : List ℕ) → IsChainPage bytes next content → len ≡ number_at 2 bytes 2 → drop (8 + len) bytes ≡ replicate (length (drop (8 + len) bytes)) 0
has_zeros bytes len next content is len_is =
    let same : len ≡ length content = len_is ∙ says_length bytes next content is in
    let front = chain_head next (length content) ++ content in
    let long : length front ≡ 8 + len = length-append (chain_head next (length content)) content ∙ (let head = length-head next content in omega (arith, head, same)) in
    as_long (drop (8 + len) bytes) (8184 - length content)
    (ap (λ (r : List ℕ). drop (8 + len) r) (is.are ∙ headed next content ∙ sym (append_assoc (chain_head next (length content)) content (replicate (8184 - length content) 0)))
    ∙ drop_at front (replicate (8184 - length content) 0) (8 + len) long)

-- what stands up to the end of a number that was written
take-through : (size at number : ℕ) (bytes : List ℕ) → at + size ≤ length bytes → take (at + size) (with_number size bytes at number) ≡ take at bytes ++ number_bytes size number
take-through size at number bytes room =
    let prefix = length-take-le at bytes (omega arith) in
    let back = length-number_bytes size number in
    let long : length (take at bytes ++ number_bytes size number) ≡ at + size = length-append (take at bytes) (number_bytes size number) ∙ omega arith in
    ap (λ (r : List ℕ). take (at + size) r) (sym (append_assoc (take at bytes) (number_bytes size number) (drop (at + size) bytes)))
    ∙ take_at (take at bytes ++ number_bytes size number) (drop (at + size) bytes) (at + size) long

-- with the numbers written, the head stands, and zero bytes behind it
head_laid : (page : List ℕ) (len next : ℕ) → 8 ≤ length page → take 2 page ≡ 2 ∷ 0 ∷ [] → take 8 (with_number 4 (with_number 2 page 2 len) 4 next) ≡ chain_head next len
unfolding chain_head
head_laid page len next room kind =
    let one = with_number 2 page 2 len in
    let long_one : length one ≡ length page = length-with_number 2 page 2 len (omega (arith, room)) in
    take-through 4 4 next one (omega (arith, long_one, room))
    ∙ ap (λ (r : List ℕ). r ++ number_bytes 4 next) (take-through 2 2 len page (omega (arith, room)) ∙ ap (λ (r : List ℕ). r ++ number_bytes 2 len) kind)

pub head_written : (page content : List ℕ) (next : ℕ) → IsBegun page
    → take 8 (with_number 4 (with_number 2 page 2 (length content)) 4 next) ≡ chain_head next (length content)
head_written page content next begun = let long : length page ≡ 8192 = begun.long in head_laid page (length content) next (omega (arith, long)) begun.head

-- in eight bytes nothing else stands
pub head_alone : (head one two : List ℕ) (len next : ℕ) → length head ≡ 8 → take 2 head ≡ 2 ∷ 0 ∷ [] → one ≡ with_number 2 head 2 len → two ≡ with_number 4 one 4 next → two ≡ chain_head next len
head_alone head one two len next long kind is_one is_two =
    let made = with_number 2 head 2 len in
    let long_made : length made ≡ 8 = length-with_number 2 head 2 len (omega (arith, long)) ∙ long in
    let long_two : length (with_number 4 made 4 next) ≡ 8 = length-with_number 4 made 4 next (omega (arith, long_made)) ∙ long_made in
    is_two ∙ ap (λ (r : List ℕ). with_number 4 r 4 next) is_one
    ∙ sym (take_all 8 (with_number 4 made 4 next) (omega (arith, long_two)))
    ∙ head_laid head len next (omega (arith, long)) kind

pub rest_written : (page content : List ℕ) (next : ℕ) → IsBegun page
    → drop 8 (with_number 4 (with_number 2 page 2 (length content)) 4 next) ≡ replicate 8184 0
rest_written page content next begun =
    let long : length page ≡ 8192 = begun.long in
    let one = with_number 2 page 2 (length content) in
    let long_one : length one ≡ 8192 = length-with_number 2 page 2 (length content) (omega arith) ∙ long in
    drop-with_number 4 one 4 next 8 (omega arith) (omega arith)
    ∙ drop-with_number 2 page 2 (length content) 8 (omega arith) (omega arith)
    ∙ sym (drop-drop 4 4 page)
    ∙ ap (λ (r : List ℕ). drop 4 r) begun.rest
    ∙ drop-replicate 4 8188 0

-- and with the content behind the head it is the chain page
pub page_made : (page two now content : List ℕ) (next : ℕ) → IsBegun page → two ≡ with_number 4 (with_number 2 page 2 (length content)) 4 next → now ≡ content
    → take 8 two ++ (now ++ drop (length content) (drop 8 two)) ≡ chain_bytes next content
page_made page two now content next begun is_two is_now =
    ap (λ (r : List ℕ). take 8 r ++ (now ++ drop (length content) (drop 8 r))) is_two
    ∙ ap (λ (r : List ℕ). r ++ (now ++ drop (length content) (drop 8 (with_number 4 (with_number 2 page 2 (length content)) 4 next)))) (head_written page content next begun)
    ∙ ap (λ (r : List ℕ). chain_head next (length content) ++ (now ++ drop (length content) r)) (rest_written page content next begun)
    ∙ ap (λ (r : List ℕ). chain_head next (length content) ++ (now ++ r)) (drop-replicate (length content) 8184 0)
    ∙ ap (λ (r : List ℕ). chain_head next (length content) ++ (r ++ replicate (8184 - length content) 0)) is_now
    ∙ sym (headed next content)
