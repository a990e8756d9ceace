-- The records that a path passes, kept as it leads on.
use Rattle.std.proofs.Common.{◌≡◌, ℕ, zero, suc, ◌+◌, ◌-◌, ◌≤◌, List, [], ◌∷◌, ◌++◌, Option, None, Some, take, drop, refl, sym, ap, ◌∙◌, subst, arith, append-nil}
use Rattle.std.specs.List.{slice_get}
use Rattle.std.proofs.lemmas.List.{append_assoc}
use Rattle.nx_host.specs.declared.disk.Disk.{Ghosts}
use Rattle.nx_records.specs.declared.records.Records.{Records}
use Rattle.nx_piece.specs.declared.piece.Piece.{Piece}
use Rattle.nx_piece.specs.declared.piece.Proxy.{Proxy}
use Rattle.nx_piece.specs.declared.finding.LocatedView.{LocatedView}
use Rattle.nx_piece.specs.declared.finding.LocatedView.TheVariants.{Away}
use Rattle.nx_piece.specs.Find.{IsLocatedView}
use Rattle.nx_piece.specs.Gapped.{GappedTree}
use Rattle.nx_piece.specs.Valid.{IsValidPiece}
use Rattle.nx_piece.specs.Locate.{PieceChild, Own, Kept, Reached, Inside, Outside, Missing, reached, reached_in, children_of}
use Rattle.nx_cuts.specs.Cut.{CutTree}
use Rattle.nx_layouts.specs.Layout.{RecordPlace}
use Rattle.nx_hold.specs.Changes.{place_named}
use Rattle.nx_hold.specs.Documents.{HasDocument}
use Rattle.nx_nav.specs.declared.routing.PassedRecord.{PassedRecord}
use Rattle.nx_nav.specs.declared.routing.Route.{Route}
use Rattle.nx_nav.specs.Route.{IsPassedRecord, HasRoute, EndsInside, IsRoute}
use Rattle.nx_nav.proofs.ChildLemmas.{path_falls}
use Rattle.nx_nav.proofs.SeekLemmas.{IsSeeking, piece_held}
use Rattle.nx_nav.specs.Parts.{IsPieceAt}

-- a look at the piece told of the proxy
pub located_away : (piece : Piece) (end : Reached) {view : LocatedView} {proxy : Proxy} {index member used : ℕ} → view ≡ Away proxy index member used → IsLocatedView piece end view → (end ≡ Outside index member used) × (slice_get piece.proxies index ≡ Some proxy)
located_away piece end is h = subst (λ v. IsLocatedView piece end v) is h

-- a path that leads out of a piece leads to a tree of it one position before
before_out : (proxies : List Proxy) (used : ℕ) (path : List ℕ) (o : Option PieceChild) (index next : ℕ) (left : ℕ) → reached proxies used path o ≡ Outside index next (used + suc left) → (tree : GappedTree) × (first : ℕ) × (reached proxies used (take left path) o ≡ Inside tree first)
before_out proxies used [] None index next left e = absurd (cc)
before_out proxies used (p ∷ path) None index next left e = absurd (cc)
before_out proxies used path (Some (Kept i m)) index next left e = absurd (out path e)
  where
    kept : (path : List ℕ) → reached proxies used path (Some (Kept i m)) ≡ Outside i m used
    kept [] = refl
    kept (p ∷ path) = refl

    used_of : Reached → ℕ
    used_of (Inside tree first) = 0
    used_of (Outside index member end) = end
    used_of Missing = 0

    out : (path : List ℕ) → reached proxies used path (Some (Kept i m)) ≡ Outside index next (used + suc left) → ⊥
    out path e = let same : used ≡ used + suc left = ap used_of (sym (kept path) ∙ e) in omega (arith, same)
before_out proxies used [] (Some (Own t f)) index next left e = absurd (cc)
before_out proxies used (p ∷ path) (Some (Own t f)) index next zero e = (t, f, refl)
before_out proxies used (p ∷ path) (Some (Own t f)) index next (suc left) e =
    before_out proxies (used + 1) path (slice_get (children_of proxies f t.below) p) index next left
    (e ∙ ap (λ (n : ℕ). Outside index next n) (let same : used + suc (suc left) ≡ used + 1 + suc left = omega arith in same))

pub leads_above : (piece : Piece) (member : ℕ) (path : List ℕ) (index next used : ℕ) → IsValidPiece piece → reached_in piece member path ≡ Outside index next used → (tree : GappedTree) × (first : ℕ) × (reached_in piece member (take (used - 1) path) ≡ Inside tree first)
leads_above piece member path index next used valid e =
    let falls = path_falls piece member path index next used valid e in
    let some : 1 ≤ used = falls.0 in
    before_out piece.proxies 0 path (slice_get (children_of piece.proxies 0 piece.body.roots) member) index next (used - 1)
    (e ∙ ap (λ (n : ℕ). Outside index next n) (let same : used ≡ 0 + suc (used - 1) = omega (arith, some) in same))

-- What was passed until here, with whatever is passed from here on, is passed by the whole path.
pub record HasPassed {D : Type 0} (d : Ghosts D) (records : Records) (disk : D) (root : RecordPlace) (path : List ℕ) (place : RecordPlace) (member : ℕ) (rest : List ℕ) (passed : List PassedRecord) : Type 0 where
  pub ends : (more : List PassedRecord) (last : Piece) → EndsInside member rest more last → EndsInside 0 path (passed ++ more) last
  pub held : (document : CutTree) (h : HasDocument d records disk root document) (more : List PassedRecord) (last : Piece) → HasRoute h.now place member rest more last → HasRoute h.now root 0 path (passed ++ more) last

module _ {D : Type 0} {d : Ghosts D} {r0 : Records} {x0 : D} {root : RecordPlace} {path : List ℕ} where
  pub passed_none : HasPassed d r0 x0 root path root 0 path []
  passed_none = record { ends = λ more last ends. ends; held = λ document h more last held. held }

  module _ {r1 : Records} {x1 : D} {place : RecordPlace} {roots member : ℕ} {rest : List ℕ} (seeking : IsSeeking d r0 r1 x0 x1 root path place roots member rest) (piece : Piece) (is : IsPieceAt d r1 x1 place roots piece)
      {passed : List PassedRecord} (was : HasPassed d r0 x0 root path place member rest passed) where
    passes_on : (now : List PassedRecord) (one : PassedRecord) → now ≡ passed ++ one ∷ [] → IsValidPiece piece → IsPassedRecord piece member rest one
        → HasPassed d r0 x0 root path (place_named one.proxy) one.member (drop one.used rest) now
    passes_on now one same valid passes = record {
      ends = λ more last ends. subst (λ (all : List PassedRecord). EndsInside 0 path all last) (joined more) (was.ends (one ∷ more) last (some, most, (path_falls piece member rest one.index one.member one.used valid passes.leads).1, ends));
      held = λ document h more last held.
          subst (λ (all : List PassedRecord). HasRoute h.now root 0 path all last) (joined more)
          (was.held document h (one ∷ more) last ((piece, piece_held seeking piece is document h, passes), held));
    }
      where
        some : 1 ≤ one.roots
        some = let is = passes.roots_are in let low = valid.body.some in omega (arith, is, low)

        most : one.roots ≤ 256
        most = let is = passes.roots_are in let high = valid.body.few in omega (arith, is, high)

        joined : (more : List PassedRecord) → passed ++ one ∷ more ≡ now ++ more
        joined more = sym (append_assoc passed (one ∷ []) more) ∙ ap (λ (all : List PassedRecord). all ++ more) (sym same)

    pub passes_by : (now : List PassedRecord) (one : PassedRecord) (proxy : Proxy) (next used : ℕ) → now ≡ passed ++ one ∷ [] → one.proxy ≡ proxy → one.member ≡ next → one.used ≡ used → IsValidPiece piece → IsPassedRecord piece member rest one
        → HasPassed d r0 x0 root path (place_named proxy) next (drop used rest) now
    passes_by now one proxy next used same proxy_is member_is used_is valid passes =
        subst (λ (n : ℕ). HasPassed d r0 x0 root path (place_named proxy) next (drop n rest) now) used_is
        (subst (λ (m : ℕ). HasPassed d r0 x0 root path (place_named proxy) m (drop one.used rest) now) member_is
        (subst (λ (p : Proxy). HasPassed d r0 x0 root path (place_named p) one.member (drop one.used rest) now) proxy_is (passes_on now one same valid passes)))

    pub passed_to : (tree : GappedTree) (first : ℕ) → IsValidPiece piece → reached_in piece member rest ≡ Inside tree first
        → EndsInside 0 path passed piece × ((document : CutTree) (h : HasDocument d r0 x0 root document) → HasRoute h.now root 0 path passed piece)
    passed_to tree first valid e = (
      subst (λ (all : List PassedRecord). EndsInside 0 path all piece) (append-nil passed) (was.ends [] piece (valid, (tree, first, e))),
      λ document h. subst (λ (all : List PassedRecord). HasRoute h.now root 0 path all piece) (append-nil passed) (was.held document h [] piece (piece_held seeking piece is document h)),
    )

  -- so the whole route is kept
  pub kept_route : (route : Route) {passed : List PassedRecord} {last : Piece} → route.passed.items ≡ passed → route.last ≡ last → EndsInside 0 path passed last → ((document : CutTree) (h : HasDocument d r0 x0 root document) → HasRoute h.now root 0 path passed last)
      → IsRoute d r0 x0 root path route
  kept_route route {passed} {last} same end ends held = record {
    ends = subst (λ (ps : List PassedRecord). EndsInside 0 path ps route.last) (sym same) (subst (λ (p : Piece). EndsInside 0 path passed p) (sym end) ends);
    held = λ document h. subst (λ (ps : List PassedRecord). HasRoute h.now root 0 path ps route.last) (sym same) (subst (λ (p : Piece). HasRoute h.now root 0 path passed p) (sym end) (held document h));
  }
