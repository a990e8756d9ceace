-- What is read of the items so far, and what may still come.
use Rattle.std.specs.Prelude.{◌≡◌, ℕ, suc, ◌+◌, ◌<◌, ◌≤◌, Bool, true, false, List, ◌++◌, length, Option}
use Rattle.nx_tree.specs.declared.node.Kind.{Kind}
use Rattle.nx_piece.specs.declared.reading.Head.{Head}
use Rattle.nx_piece.specs.declared.reading.Left.{Left}
use Rattle.nx_piece.specs.declared.piece.Far.{Far}
use Rattle.nx_piece.specs.declared.piece.Proxy.{Proxy}
use Rattle.nx_piece.specs.declared.viewing.Flat.{Flat}
use Rattle.nx_piece.specs.Flat.{Spells}
use Rattle.nx_piece.specs.PieceNode.{PieceNode, item_slots, item_content, MayBeFar, HasFarPage}
use Rattle.nx_piece.specs.Gapped.{Gapped, GappedTree, End, Grow, Gap, item_count, gapped_width, gapped_size, proxies_in}
use Rattle.nx_piece.specs.Encoding.{far_byte, node_head_bytes, content_bytes, node_bytes, run_bytes, items_bytes, proxies_bytes, items_head_bytes, proxies_head_bytes, head_bytes, body_bytes}
use Rattle.nx_piece.specs.Valid.{AreApart, AreFar, AreTrees, HavePages, HaveRoots, IsValidBody, inline_length}

-- one tree, with nothing beside it
abbrev pub alone : GappedTree → Gapped
alone t = Grow t.node t.below End

-- the flat list is the old one, with the items of f behind it
pub record HasPushed (old new : List Flat) (f : Gapped) : Type 0 where
  pub added : List Flat
  pub same : new ≡ old ++ added
  pub spells : Spells added f

-- the bytes begin with the items of f, and what they take of slots, proxies and items is taken
pub record HasReadItems (bytes : List ℕ) (before : Left) (f : Gapped) (behind : List ℕ) (after : Left) : Type 0 where
  pub same : bytes ≡ items_bytes f ++ behind
  pub room : before.room ≡ after.room + gapped_size f
  pub proxies : before.proxies ≡ after.proxies + proxies_in f
  pub items : before.items ≡ after.items + item_count f
  pub apart : AreApart f
  pub far : AreFar f
  pub pages : HavePages f

-- the bytes begin with the items of f, for which enough of slots, proxies and items is left
pub record BeginsWithItems (bytes : List ℕ) (left : Left) (f : Gapped) (behind : List ℕ) : Type 0 where
  pub same : bytes ≡ items_bytes f ++ behind
  pub room : gapped_size f ≤ left.room
  pub proxies : proxies_in f ≤ left.proxies
  pub items : item_count f ≤ left.items
  pub apart : AreApart f
  pub far : AreFar f
  pub pages : HavePages f

-- the bytes begin with no tree
abbrev pub BeginsNoTree : List ℕ → Left → Type 0
BeginsNoTree bytes left = (t : GappedTree) (behind : List ℕ) → BeginsWithItems bytes left (alone t) behind → ⊥

-- the bytes begin with no run that may come, since none may come after a run
abbrev pub BeginsNoRun : List ℕ → Left → Bool → Type 0
BeginsNoRun bytes left after_run = (count : ℕ) (behind : List ℕ) → after_run ≡ false → BeginsWithItems bytes left (Gap count End) behind → ⊥

-- the bytes don't begin with so many items beside each other, which as roots are trees alone
abbrev pub BeginsNoItems : List ℕ → Left → ℕ → (are_roots : Bool) → Type 0
BeginsNoItems bytes left count are_roots =
    (f : Gapped) (behind : List ℕ) → (are_roots ≡ true → AreTrees f) → gapped_width f ≡ count → BeginsWithItems bytes left f behind → ⊥

-- at most as much is left as a piece may have
pub record IsLeft (left : Left) : Type 0 where
  pub room : left.room ≤ 256
  pub proxies : left.proxies ≤ 524288

-- the head of a tree, whose items follow
pub record HasTakenNode (bytes : List ℕ) (before : Left) (node : PieceNode) (count : ℕ) (behind : List ℕ) (left : Left) : Type 0 where
  pub same : bytes ≡ node_bytes node count ++ behind
  pub room : before.room ≡ left.room + item_slots node
  pub proxies : before.proxies ≡ left.proxies
  pub items : before.items ≡ suc left.items
  pub far : MayBeFar node
  pub page : HasFarPage node.far

-- the bytes begin with no numbers of a node
abbrev pub BeginsNoNodeHead : List ℕ → Type 0
BeginsNoNodeHead bytes = (kind : Kind) (far : Option Far) (name content items : ℕ) (rest : List ℕ) → bytes ≡ node_head_bytes kind (far_byte far) name content items ++ rest → ⊥

-- the bytes begin with no name and content's place of so many bytes
abbrev pub BeginsNoContent : List ℕ → ℕ → ℕ → Type 0
BeginsNoContent bytes name content = (own place : List ℕ) (rest : List ℕ) → length own ≡ name → length place ≡ content → bytes ≡ content_bytes own place ++ rest → ⊥

-- these bytes in the content's place are those of no node, where its content is far or near by this byte
abbrev pub AreNoContent : ℕ → List ℕ → Type 0
AreNoContent far bytes = (node : PieceNode) → MayBeFar node → far_byte node.far ≡ far → bytes ≡ item_content node → ⊥

-- they are those of this node, whose content is as far
pub record IsContent (told : ℕ) (bytes : List ℕ) (node : PieceNode) : Type 0 where
  pub byte : far_byte node.far ≡ told
  pub same : item_content node ≡ bytes
  pub far : MayBeFar node
  pub page : HasFarPage node.far

-- the bytes begin with no node whose item takes at most so many slots
abbrev pub BeginsNoNode : List ℕ → ℕ → Type 0
BeginsNoNode bytes room = (node : PieceNode) (items : ℕ) (rest : List ℕ) → item_slots node ≤ room → MayBeFar node → items < 65536 → bytes ≡ node_bytes node items ++ rest → ⊥

-- the bytes begin with no run, whatever it counts
abbrev pub BeginsNoRunItem : List ℕ → Type 0
BeginsNoRunItem bytes = (count : ℕ) (rest : List ℕ) → bytes ≡ run_bytes count ++ rest → ⊥

-- the bytes begin with no head, or not with one of its halves
abbrev pub BeginsNoHead : List ℕ → Type 0
BeginsNoHead bytes = (form roots items proxies chain : ℕ) (rest : List ℕ) → bytes ≡ head_bytes form roots items proxies chain ++ rest → ⊥

abbrev pub BeginsNoItemsHead : List ℕ → Type 0
BeginsNoItemsHead bytes = (form roots items : ℕ) (rest : List ℕ) → bytes ≡ items_head_bytes form roots items ++ rest → ⊥

abbrev pub BeginsNoProxiesHead : List ℕ → Type 0
BeginsNoProxiesHead bytes = (proxies chain : ℕ) (rest : List ℕ) → bytes ≡ proxies_head_bytes proxies chain ++ rest → ⊥

-- the bytes begin with this head, whose numbers fit their fields
abbrev pub IsHeadRead : List ℕ → Head → List ℕ → Type 0
IsHeadRead bytes head rest =
    (bytes ≡ head_bytes head.form head.roots head.items head.proxies head.chain ++ rest) × (head.roots < 65536) × (head.items < 4294967296) × (head.proxies < 4294967296) × (head.chain < 4294967296)

-- the bytes aren't so many proxies of 1 to 256 roots
abbrev pub AreNoProxies : List ℕ → ℕ → Type 0
AreNoProxies bytes count = (proxies : List Proxy) → length proxies ≡ count → HaveRoots proxies → bytes ≡ proxies_bytes proxies → ⊥

-- the bytes begin with no head and items of a valid piece
abbrev pub BeginsNoBody : List ℕ → Type 0
BeginsNoBody bytes = (form : ℕ) (roots : Gapped) (proxies chain : ℕ) (rest : List ℕ) → IsValidBody roots proxies → HavePages roots → bytes ≡ body_bytes form roots proxies chain ++ rest → ⊥

-- the bytes begin with this head and the items of these roots
pub record IsReadBody (bytes : List ℕ) (form : ℕ) (roots : Gapped) (proxies chain : ℕ) (behind : List ℕ) (size : ℕ) : Type 0 where
  pub same : bytes ≡ body_bytes form roots proxies chain ++ behind
  pub valid : IsValidBody roots proxies
  pub pages : HavePages roots
  pub chain_fits : chain < 4294967296
  pub inline_size : size ≡ inline_length roots proxies
