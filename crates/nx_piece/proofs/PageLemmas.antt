-- Items say of a page what fits its field, so that bytes of a piece are those of one whose pages fit.
use Rattle.std.proofs.Common.{◌≡◌, ℕ, zero, suc, ◌+◌, ◌<◌, List, ◌++◌, length, get_or, refl, ap, arith}
use Rattle.std.specs.Prelude.{Option, None, Some}
use Rattle.std.specs.Int.{w32, from_be_bytes}
use Rattle.std.proofs.lemmas.Nat.{be_bytes_4}
use Rattle.nx_piece.specs.declared.piece.Far.{Far}
use Rattle.nx_piece.specs.PieceNode.{PieceNode, content_with, IsFarWith, HasFarPage}
use Rattle.nx_piece.specs.Gapped.{Gapped, End, Grow, Gap, item_count, gapped_width, gapped_size, proxies_in, slots_in}
use Rattle.nx_piece.specs.Encoding.{four_bytes, far_byte, content_bytes, node_head_bytes, node_bytes, run_bytes, items_bytes, head_bytes, body_bytes}
use Rattle.nx_piece.specs.Valid.{AreApart, AreFar, AreTrees, BeginsNoGap, HavePages, IsValidBody}

-- a page as its field has it
fitting : ℕ → ℕ
fitting page = from_be_bytes w32 (four_bytes page)

fits : (page : ℕ) → fitting page < 4294967296
unfolding fitting
fits page = omega arith

small_bytes : (page i : ℕ) → get_or (four_bytes page) i 0 < 256
small_bytes page zero = omega arith
small_bytes page (suc zero) = omega arith
small_bytes page (suc (suc zero)) = omega arith
small_bytes page (suc (suc (suc zero))) = omega arith
small_bytes page (suc (suc (suc (suc i)))) = omega arith

same_field : (page : ℕ) → four_bytes (fitting page) ≡ four_bytes page
unfolding fitting
same_field page = be_bytes_4 (four_bytes page) (from_be_bytes w32 (four_bytes page)) refl (small_bytes page) refl

-- the same node with a page that fits
record Fitted (own : List ℕ) (far : Option Far) : Type 0 where
  now : Option Far
  byte : far_byte now ≡ far_byte far
  content : content_with own now ≡ content_with own far
  may : IsFarWith own far → IsFarWith own now
  page : HasFarPage now

fit : (own : List ℕ) (far : Option Far) → Fitted own far
fit own None = record { now = None; byte = refl; content = refl; may = λ h. h; page = tt }
fit own (Some far) = record {
  now = Some (record { first = fitting far.first; length = far.length });
  byte = refl;
  content = ap (λ (l : List ℕ). l ++ four_bytes far.length) (same_field far.first);
  may = λ h. h;
  page = fits far.first;
}

-- trees and gaps with the same bytes, whose pages fit
pub record Paged (f : Gapped) : Type 0 where
  pub now : Gapped
  pub bytes : items_bytes now ≡ items_bytes f
  pub width : gapped_width now ≡ gapped_width f
  pub items : item_count now ≡ item_count f
  pub size : gapped_size now ≡ gapped_size f
  pub slots : slots_in now ≡ slots_in f
  pub proxies : proxies_in now ≡ proxies_in f
  pub apart : AreApart f → AreApart now
  pub begins : BeginsNoGap f → BeginsNoGap now
  pub trees : AreTrees f → AreTrees now
  pub far : AreFar f → AreFar now
  pub pages : HavePages now

pub paged : (f : Gapped) → Paged f
paged End = record {
  now = End;
  bytes = refl;
  width = refl;
  items = refl;
  size = refl;
  slots = refl;
  proxies = refl;
  apart = λ h. h;
  begins = λ h. h;
  trees = λ h. h;
  far = λ h. h;
  pages = tt;
}
paged (Gap c s) =
    let r = paged s in
    record {
      now = Gap c r.now;
      bytes = ap (λ (l : List ℕ). run_bytes c ++ l) r.bytes;
      width = ap (λ (k : ℕ). 1 + k) r.width;
      items = ap (λ (k : ℕ). 1 + k) r.items;
      size = r.size;
      slots = ap (λ (k : ℕ). 1 + k) r.slots;
      proxies = ap (λ (k : ℕ). c + k) r.proxies;
      apart = λ h. (h.0, r.begins h.1, r.apart h.2);
      begins = λ h. absurd h;
      trees = λ h. absurd h;
      far = r.far;
      pages = r.pages;
    }
paged (Grow n b s) =
    let own = fit n.node.content n.far in
    let m : PieceNode = record { node = n.node; far = own.now } in
    let p = paged b in
    let r = paged s in
    let long : length (content_with n.node.content own.now) ≡ length (content_with n.node.content n.far) = ap length own.content in
    let same : node_bytes m (gapped_width p.now) ≡ node_bytes n (gapped_width b) =
    (λ i. node_head_bytes n.node.kind (own.byte i) (length n.node.name) (length (own.content i)) (p.width i) ++ content_bytes n.node.name (own.content i)) in
    let pb = p.size in let rb = r.size in
    let ps = p.slots in let rs = r.slots in
    let pp = p.proxies in let rp = r.proxies in
    let pi = p.items in let ri = r.items in
    record {
      now = Grow m p.now r.now;
      bytes = λ i. (same i ++ p.bytes i) ++ r.bytes i;
      width = ap (λ (k : ℕ). 1 + k) r.width;
      items = omega (arith, pi, ri);
      size = omega (arith, long, pb, rb);
      slots = omega (arith, long, ps, rs);
      proxies = omega (arith, pp, rp);
      apart = λ h. (p.apart h.0, r.apart h.1);
      begins = λ h. tt;
      trees = λ h. r.trees h;
      far = λ h. (own.may h.0, p.far h.1, r.far h.2);
      pages = (own.page, p.pages, r.pages);
    }

-- as bodies they have the same bytes, and are as valid
pub paged_bytes : (f : Gapped) (form p c : ℕ) → body_bytes form (paged f).now p c ≡ body_bytes form f p c
paged_bytes f form p c = let h = paged f in λ i. head_bytes form (h.width i) (h.items i) p c ++ h.bytes i

pub paged_valid : {p : ℕ} (f : Gapped) → IsValidBody f p → IsValidBody (paged f).now p
paged_valid {p} f v =
    let h = paged f in
    let width = h.width in let size = h.size in let proxies = h.proxies in
    let some = v.some in let few = v.few in let small = v.small in let counted = v.counted in
    record {
      trees = h.trees v.trees;
      some = omega (arith, width, some);
      few = omega (arith, width, few);
      small = omega (arith, size, small);
      apart = h.apart v.apart;
      far = h.far v.far;
      counted = omega (arith, proxies, counted);
      few_proxies = v.few_proxies;
    }
