-- A node's content: held, read and freed.
use Rattle.std.proofs.Common.{◌≡◌, ℕ, ◌<◌, ◌≤◌, nat_le, Bool, false, if◌then◌else◌, List, [], length, Option, None, Some, refl, sym, ap, ap₂, subst, arith}
use Rattle.std.specs.Prelude.{MatchOption}
use Rattle.std.specs.Option.{option_map_or}
use Rattle.std.proofs.lemmas.Bool.Decides.{nat_tests}
use Rattle.nx_tree.specs.declared.node.Node.{Node}
use Rattle.nx_host.specs.declared.disk.Disk.{Ghosts}
use Rattle.nx_holdings.specs.Holdings.{Held, chain_count}
use Rattle.nx_records.specs.declared.records.Records.{Records}
use Rattle.nx_records.specs.declared.error.StoreError.{StoreError}
use Rattle.nx_records.specs.Changes.{LacksList, WritesList, FreesList}
use Rattle.nx_records.specs.Refusals.{NotRead, NotChanged}
use Rattle.nx_piece.specs.declared.piece.Far.{Far}
use Rattle.nx_weights.specs.Weight.{longest_near}
use Rattle.nx_piece.specs.PieceNode.{PieceNode}
use Rattle.nx_layouts.specs.Layout.{in_record}
use Rattle.nx_hold.specs.Pieces.{HasContent, IsNamedNowhere}
use Rattle.nx_hold.specs.Contents.{IsNodeHeld, IsContentOf, LacksContent, HasItsContent, IsUnnamed, FreesContent, content_pages, content_page, far_pages}
use Rattle.nx_hold.specs.Changes.{ComesTidyWhere, ComesWhere}
use Rattle.nx_hold.proofs.PieceLemmas.{some_same, no_value}
use Rattle.nx_hold.proofs.RefusalLemmas.{read_fewer, change_fewer}

-- Held:

pub pages_long : (node : Node) → longest_near < length node.content → content_pages node ≡ chain_count (length node.content)
pages_long node over =
    let e : nat_le (length node.content) longest_near ≡ false = grind (arith, nat_tests) in
    subst (λ (b : Bool). (if b then 0 else chain_count (length node.content)) ≡ chain_count (length node.content)) (sym e) refl

-- a node whose content stays with it
pub held_near : (node : Node) (held : Held) → length node.content ≤ longest_near → IsNodeHeld node (record { node = node; far = None }) held held
held_near node held short = record { list = None; made_is = refl; near = λ e. (short, refl); far = λ first e. absurd (no_value (sym e)) }

-- ... and one whose content is in a list
pub far_made : (node : Node) (own : List ℕ) (first count : ℕ) → own ≡ [] → count ≡ length node.content
    → record { node = record { kind = node.kind; name = node.name; content = own }; far = Some (record { first = first; length = count }) } ≡ in_record (record { node = node; list = Some first })
far_made node own first count none long = ap₂ made none long
  where
    made : List ℕ → ℕ → PieceNode
    made content n = record { node = record { kind = node.kind; name = node.name; content = content }; far = Some (record { first = first; length = n }) }

-- ... which was written
pub held_far : (node : Node) (own bytes : List ℕ) (first count : ℕ) (was now : Held) → own ≡ [] → count ≡ length node.content → bytes ≡ node.content → longest_near < length node.content → WritesList first bytes was now
    → IsNodeHeld node (record { node = record { kind = node.kind; name = node.name; content = own }; far = Some (record { first = first; length = count }) }) was now
held_far node own bytes first count was now none long same over writes = record {
  list = Some first;
  made_is = far_made node own first count none long;
  near = λ e. absurd (no_value e);
  far = λ other e. (over, subst (λ (n : ℕ). WritesList n node.content was now) (some_same e) (subst (λ (l : List ℕ). WritesList first l was now) same writes));
}

-- A far content, as that of its node:

module _ (n : PieceNode) (far : Far) (is : n.far ≡ Some far) where
  far_page : content_page n ≡ far.first
  far_page = ap (λ (o : Option Far). option_map_or (λ (f : Far). f.first) o 0) is

  pub far_takes : far_pages n ≡ chain_count far.length
  far_takes = ap (λ (o : Option Far). option_map_or (λ (f : Far). chain_count f.length) o 0) is

  pub far_content_is : (held : Held) (bytes : List ℕ) → IsContentOf held n bytes → held.lists far.first ≡ Some bytes
  far_content_is held bytes content =
      let there : MatchOption (Some far) (bytes ≡ n.node.content) (λ (f : Far). held.lists f.first ≡ Some bytes) =
      subst (λ (o : Option Far). MatchOption o (bytes ≡ n.node.content) (λ (f : Far). held.lists f.first ≡ Some bytes)) is content in
      there

  pub far_not_read : {D : Type 0} (d : Ghosts D) (r0 r1 : Records) (x0 x1 : D) (e : StoreError) → NotRead d (λ now. LacksList now far.first far.length) far.first e r0 r1 x0 x1
      → NotRead d (λ now. LacksContent now n) (content_page n) e r0 r1 x0 x1
  far_not_read d r0 r1 x0 x1 e refused =
      subst (λ (p : ℕ). NotRead d (λ now. LacksContent now n) p e r0 r1 x0 x1) (sym far_page)
      (read_fewer d (λ now. LacksList now far.first far.length) (λ now. LacksContent now n) far.first far.first r0 r1 x0 x1 (λ held lacks. (far, is, lacks)) e refused)

  pub far_not_changed : {D : Type 0} (d : Ghosts D) (r0 r1 : Records) (x0 x1 : D) (e : StoreError) → NotChanged d (λ was. LacksList was far.first far.length) far.first e r0 r1 x0 x1
      → NotChanged d (λ was. LacksContent was n) (content_page n) e r0 r1 x0 x1
  far_not_changed d r0 r1 x0 x1 e refused =
      subst (λ (p : ℕ). NotChanged d (λ was. LacksContent was n) p e r0 r1 x0 x1) (sym far_page)
      (change_fewer d (λ was. LacksList was far.first far.length) (λ was. LacksContent was n) far.first far.first r0 r1 x0 x1 (λ held lacks. (far, is, lacks)) e refused)

  far_went : (was now : Held) → FreesList far.first was now → FreesContent n was now
  far_went was now frees = subst (λ (o : Option Far). MatchOption o (now ≡ was) (λ (f : Far). FreesList f.first was now)) (sym is) frees

  pub far_freed : {D : Type 0} (d : Ghosts D) (r0 r1 : Records) (x0 x1 : D) → ComesTidyWhere d r0 r1 x0 x1 (λ was. HasContent was far × IsNamedNowhere was far.first) (λ was now. FreesList far.first was now)
      → ComesTidyWhere d r0 r1 x0 x1 (λ was. IsUnnamed was n) (λ was now. FreesContent n was now)
  far_freed d r0 r1 x0 x1 comes saved was stands tidy unnamed = let next = comes saved was stands tidy (unnamed far is) in (next.0, next.1, next.2, far_went was next.0 next.3)

  pub far_freed_alone : {D : Type 0} (d : Ghosts D) (r0 r1 : Records) (x0 x1 : D) → ComesWhere d r0 r1 x0 x1 (λ was. HasContent was far) (λ was now. FreesList far.first was now × (was.free ≤ now.free))
      → ComesWhere d r0 r1 x0 x1 (λ was. HasItsContent was n) (λ was now. FreesContent n was now × (was.free ≤ now.free))
  far_freed_alone d r0 r1 x0 x1 comes saved was stands there = let next = comes saved was stands (there far is) in (next.0, next.1, (far_went was next.0 next.2.0, next.2.1))

-- a near content
pub near_content_is : (n : PieceNode) (held : Held) (bytes : List ℕ) → n.far ≡ None → IsContentOf held n bytes → bytes ≡ n.node.content
near_content_is n held bytes is content =
    let own : MatchOption None (bytes ≡ n.node.content) (λ (f : Far). held.lists f.first ≡ Some bytes) =
    subst (λ (o : Option Far). MatchOption o (bytes ≡ n.node.content) (λ (f : Far). held.lists f.first ≡ Some bytes)) is content in
    own
