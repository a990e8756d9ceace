-- A node item cut into its parts.
use Rattle.std.proofs.Common.{◌≡◌, ℕ, ◌+◌, ◌-◌, ◌*◌, ◌<◌, ◌≤◌, List, ◌++◌, length, take, drop, get_or, refl, sym, ap, ◌∙◌, arith, append_assoc}
use Rattle.std.specs.Int.{w32, from_be_bytes, div_ceil}
use Rattle.std.specs.Prelude.{Option, None, Some}
use Rattle.std.proofs.lemmas.Nat.{from_be_bytes-to_be_bytes_4}
use Rattle.std.proofs.Math.ListN.{replicate}
use Rattle.std.proofs.lemmas.List.{take-append-drop, drop-drop, take_all, length-take-le, length-drop}
use Rattle.std.proofs.lemmas.Grind.{div_ceil_times}
use Rattle.nx_tree.specs.declared.node.Kind.{Kind}
use Rattle.nx_tree.specs.Document.{longest_node}
use Rattle.nx_piece.specs.declared.piece.Far.{Far}
use Rattle.nx_weights.specs.Weight.{longest_near}
use Rattle.nx_piece.specs.PieceNode.{PieceNode, content_with, item_content, item_slots, IsFarWith}
use Rattle.nx_piece.specs.Encoding.{padding, far_byte, content_bytes, node_head_bytes, node_bytes}
use Rattle.nx_piece.specs.Reading.{BeginsNoNode, BeginsNoContent, AreNoContent, IsContent}
use Rattle.nx_piece.proofs.ApartLemmas.{two_unique, content_unique}

-- a list in four parts
four_parts : (bytes : List ℕ) (n m p : ℕ) → ((take n bytes ++ take m (drop n bytes)) ++ take p (drop (n + m) bytes)) ++ drop (n + m + p) bytes ≡ bytes
four_parts bytes n m p =
    append_assoc (take n bytes ++ take m (drop n bytes)) (take p (drop (n + m) bytes)) (drop (n + m + p) bytes)
    ∙ ap (λ (r : List ℕ). (take n bytes ++ take m (drop n bytes)) ++ (take p (drop (n + m) bytes) ++ r)) (sym (drop-drop p (n + m) bytes))
    ∙ ap (λ (r : List ℕ). (take n bytes ++ take m (drop n bytes)) ++ r) (take-append-drop p (drop (n + m) bytes) ∙ sym (drop-drop m n bytes))
    ∙ append_assoc (take n bytes) (take m (drop n bytes)) (drop m (drop n bytes))
    ∙ ap (λ (r : List ℕ). take n bytes ++ r) (take-append-drop m (drop n bytes))
    ∙ take-append-drop n bytes

-- what is cut out of the bytes is a node's name and content
pub content_read : {bytes a b : List ℕ} {n m slots : ℕ} → slots ≡ div_ceil (n + m) 8 → 8 * slots ≤ length bytes → a ≡ take n bytes → b ≡ take (n + m - n) (drop n bytes)
    → take (8 * slots - (n + m)) (drop (n + m) bytes) ≡ replicate (length (take (8 * slots - (n + m)) (drop (n + m) bytes))) 0
    → (bytes ≡ content_bytes a b ++ take (length bytes - 8 * slots) (drop (8 * slots) bytes)) × (length a ≡ n) × (length b ≡ m)
content_read {bytes} {a} {b} {n} {m} {slots} w fits ea eb z =
    let times = div_ceil_times (n + m) 8 (omega arith) in
    let enough : n + m ≤ 8 * slots = omega arith in
    let la : length a ≡ n = ap length ea ∙ length-take-le n bytes (omega arith) in
    let same : n + m - n ≡ m = omega arith in
    let eb2 : b ≡ take m (drop n bytes) = eb ∙ ap (λ (k : ℕ). take k (drop n bytes)) same in
    let lb : length b ≡ m = ap length eb2 ∙ length-take-le m (drop n bytes) (omega (arith, length-drop n bytes)) in
    let lz : length (take (8 * slots - (n + m)) (drop (n + m) bytes)) ≡ 8 * slots - (n + m) = length-take-le (8 * slots - (n + m)) (drop (n + m) bytes) (omega (arith, length-drop (n + m) bytes)) in
    let sum : length a + length b ≡ n + m = omega arith in
    let pad : padding (length a + length b) ≡ 8 * slots - (n + m) = ap padding sum ∙ ap (λ (k : ℕ). 8 * k - (n + m)) (sym w) in
    let ez : replicate (padding (length a + length b)) 0 ≡ take (8 * slots - (n + m)) (drop (n + m) bytes) = ap (λ (k : ℕ). replicate k 0) (pad ∙ sym lz) ∙ sym z in
    let whole : n + m + (8 * slots - (n + m)) ≡ 8 * slots = omega arith in (
      sym (
          ap (λ (r : List ℕ). ((a ++ b) ++ r) ++ take (length bytes - 8 * slots) (drop (8 * slots) bytes)) ez
          ∙ ap (λ (r : List ℕ). ((a ++ b) ++ take (8 * slots - (n + m)) (drop (n + m) bytes)) ++ r) (take_all (length bytes - 8 * slots) (drop (8 * slots) bytes) (omega (arith, length-drop (8 * slots) bytes)) ∙ ap (λ (k : ℕ). drop k bytes) (sym whole))
          ∙ ap (λ (r : List ℕ). ((r ++ b) ++ take (8 * slots - (n + m)) (drop (n + m) bytes)) ++ drop (n + m + (8 * slots - (n + m))) bytes) ea
          ∙ ap (λ (r : List ℕ). ((take n bytes ++ r) ++ take (8 * slots - (n + m)) (drop (n + m) bytes)) ++ drop (n + m + (8 * slots - (n + m))) bytes) eb2
          ∙ four_parts bytes n m (8 * slots - (n + m))),
      la,
      lb,
    )

-- a head whose numbers are those of a node, before the node's name and content's place
heads_alike : {bytes behind : List ℕ} {name content far room : ℕ} (kind : Kind) (items : ℕ) (node : PieceNode) (i : ℕ) (rest : List ℕ) → bytes ≡ node_head_bytes kind far name content items ++ behind → name < 65536 → content < 65536 → room ≤ 256
    → item_slots node ≤ room → bytes ≡ node_bytes node i ++ rest
    → (length node.node.name ≡ name) × (length (item_content node) ≡ content) × (far_byte node.far ≡ far) × (behind ≡ content_bytes node.node.name (item_content node) ++ rest)
heads_alike {bytes} {behind} {name} {content} {far} {room} kind items node i rest head hn hc hr small is =
    let e = sym head ∙ is in (
      sym (two_unique name (length node.node.name) hn (omega arith) (ap (λ (l : List ℕ). take 2 (drop 2 l)) e)),
      sym (two_unique content (length (item_content node)) hc (omega arith) (ap (λ (l : List ℕ). take 2 (drop 4 l)) e)),
      sym (ap (λ (l : List ℕ). get_or l 1 0) e),
      ap (drop 8) e,
    )

-- where no content follows a head there is no node
pub no_node : {bytes behind : List ℕ} {far name content room : ℕ} (kind : Kind) (items : ℕ) → bytes ≡ node_head_bytes kind far name content items ++ behind → name < 65536 → content < 65536 → room ≤ 256
    → BeginsNoContent behind name content → BeginsNoNode bytes room
no_node {bytes} {behind} {far} {name} {content} {room} kind items head hn hc hr none node i rest small may fits is =
    let t = heads_alike kind items node i rest head hn hc hr small is in
    none node.node.name (item_content node) rest t.0 t.1 t.3

-- nor is there one where what follows is no content
pub no_place : {bytes behind place : List ℕ} {far name content room : ℕ} (kind : Kind) (items : ℕ) (own after : List ℕ) → bytes ≡ node_head_bytes kind far name content items ++ behind → name < 65536 → content < 65536 → room ≤ 256
    → behind ≡ content_bytes own place ++ after → length own ≡ name → length place ≡ content → AreNoContent far place → BeginsNoNode bytes room
no_place {bytes} {behind} {place} {far} {name} {content} {room} kind items own after head hn hc hr split names places none node i rest small may fits is =
    let t = heads_alike kind items node i rest head hn hc hr small is in
    let cut = content_unique own place node.node.name (item_content node) after rest (names ∙ sym t.0) (places ∙ sym t.1) (sym split ∙ t.3) in
    none node may t.2 cut.1

-- a head, a name and a content's place that is this node's are the node
pub node_read : {bytes behind : List ℕ} {far name content : ℕ} {own place : List ℕ} (kind : Kind) (node : PieceNode) (items : ℕ) (rest : List ℕ) → bytes ≡ node_head_bytes kind far name content items ++ behind
    → behind ≡ content_bytes own place ++ rest → length own ≡ name → length place ≡ content → IsContent far place node → node.node.kind ≡ kind → node.node.name ≡ own → bytes ≡ node_bytes node items ++ rest
node_read {bytes} {behind} {far} {name} {content} {own} {place} kind node items rest head split names places is kinds same =
    head
    ∙ ap (λ (r : List ℕ). node_head_bytes kind far name content items ++ r) split
    ∙ ap (λ (n : ℕ). node_head_bytes kind far n content items ++ (content_bytes own place ++ rest)) (sym names)
    ∙ ap (λ (n : ℕ). node_head_bytes kind far (length own) n items ++ (content_bytes own place ++ rest)) (sym places)
    ∙ ap (λ (l : List ℕ). node_head_bytes kind far (length l) (length place) items ++ (content_bytes l place ++ rest)) (sym same)
    ∙ ap (λ (l : List ℕ). node_head_bytes kind far (length node.node.name) (length l) items ++ (content_bytes node.node.name l ++ rest)) (sym is.same)
    ∙ ap (λ (n : ℕ). node_head_bytes kind n (length node.node.name) (length (item_content node)) items ++ (content_bytes node.node.name (item_content node) ++ rest)) (sym is.byte)
    ∙ ap (λ (k : Kind). node_head_bytes k (far_byte node.far) (length node.node.name) (length (item_content node)) items ++ (content_bytes node.node.name (item_content node) ++ rest)) (sym kinds)

-- What stands in a far content's place:

far_place : (own : List ℕ) (far : Option Far) → far_byte far ≡ 1 → length (content_with own far) ≡ 8
far_place own None e = absurd (omega arith)
far_place own (Some far) e = refl

-- not eight bytes
pub no_far_place : {far : ℕ} {bytes : List ℕ} → far ≡ 1 → (length bytes ≡ 8 → ⊥) → AreNoContent far bytes
no_far_place {far} {bytes} one bad node may byte is = bad (ap length is ∙ far_place node.node.content node.far (byte ∙ one))

far_told : (bytes own : List ℕ) (far : Option Far) → far_byte far ≡ 1 → IsFarWith own far → bytes ≡ content_with own far → (longest_near < from_be_bytes w32 (take 4 (drop 4 bytes))) × (from_be_bytes w32 (take 4 (drop 4 bytes)) ≤ longest_node)
far_told bytes own None e may is = absurd (omega arith)
far_told bytes own (Some far) e may is =
    let most : far.length ≤ 1048576 = may.2 in
    let least : 1024 < far.length = may.1 in
    let told : from_be_bytes w32 (take 4 (drop 4 bytes)) ≡ far.length = ap (λ (l : List ℕ). from_be_bytes w32 (take 4 (drop 4 l))) is ∙ from_be_bytes-to_be_bytes_4 far.length (omega arith) in
    (omega (arith, told, least), omega (arith, told, most))

-- or a length out of range
pub no_far_length : {far : ℕ} {bytes : List ℕ} → far ≡ 1 → ((longest_near < from_be_bytes w32 (take 4 (drop 4 bytes))) × (from_be_bytes w32 (take 4 (drop 4 bytes)) ≤ longest_node) → ⊥) → AreNoContent far bytes
no_far_length {far} {bytes} one bad node may byte is = bad (far_told bytes node.node.content node.far (byte ∙ one) may is)
