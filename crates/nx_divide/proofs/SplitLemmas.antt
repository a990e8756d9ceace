-- A part that is divided in its place in a row: the row is split.
use Rattle.std.proofs.Common.{◌≡◌, ℕ, ◌+◌, ◌<◌, ◌++◌, nat_lt, take, drop, Bool, true, false, length, List, Option, Some, sym, ap, ◌∙◌, subst, arith}
use Rattle.std.specs.Bool.{MatchBool}
use Rattle.std.specs.Prelude.{Result, Ok, Err, IfOk, IfErr, Contains}
use Rattle.std.proofs.lemmas.Bool.Decides.{nat_tests}
use Rattle.nx_host.specs.declared.disk.Disk.{Ghosts}
use Rattle.nx_tree.specs.declared.node.Node.{Node}
use Rattle.nx_cuts.specs.Cut.{CutForest, Bare, Kept}
use Rattle.nx_matrix.specs.declared.rule.Rule.{Rule}
use Rattle.nx_records.specs.Words.{Held, Settings}
use Rattle.nx_records.specs.declared.records.Records.{Records}
use Rattle.nx_records.specs.declared.error.StoreError.{StoreError}
use Rattle.nx_records.specs.declared.error.StoreError.TheVariants as error
use Rattle.nx_records.specs.Records.{settings_of}
use Rattle.nx_piece.specs.declared.piece.Far.{Far}
use Rattle.nx_piece.specs.declared.piece.Piece.{Piece}
use Rattle.nx_piece.specs.declared.piece.Proxy.{Proxy}
use Rattle.nx_piece.specs.Gapped.{gapped_weight}
use Rattle.nx_layouts.specs.Layout.{RecordPlace, Layout, without_places, laid_weight, piece_body, piece_of, proxies_of, AreLaidParts, AreHeld}
use Rattle.nx_layouts.specs.Replace.{replaced_at, kept_at, above_at}
use Rattle.nx_layouts.proofs.ReplaceLemmas.{replaces, held_filled}
use Rattle.nx_layouts.proofs.SizeLemmas.{body_weight}
use Rattle.nx_layouts.proofs.FillLemmas.{parts_filled, row_is_filled}
use Rattle.nx_hold.specs.Pieces.{MayName, held_by}
use Rattle.nx_drawn.specs.Splits.{Divides, SplitsInterval}
use Rattle.nx_drafts.specs.Draft.{layout_before, layout_after, came, draft_needs}
use Rattle.nx_drafts.proofs.RowLemmas.{one_is_split}
use Rattle.nx_divide.specs.Dividing.{DividesMembers, NotPutAt, StandApart, NotSplitAt, SplitsAt}
use Rattle.nx_hold.proofs.MoveLemmas.{may_name_still}
use Rattle.nx_divide.specs.declared.dividing.Row.{Row}
use Rattle.nx_drawn.proofs.RoomLemmas.{raised_has_room}
use Rattle.nx_divide.proofs.WrittenLemmas.{fars_after}
use Rattle.nx_divide.proofs.PutLemmas.{may_fewer}
use Rattle.nx_divide.proofs.PlaceLemmas.{held_apart}
use Rattle.nx_divide.proofs.TopLemmas.{GivesUpAt}

-- a part that is too heavy is divided
divided_interval : (settings : Settings) (rules : List Rule) (room : ℕ) (above : Option Node) (m now : CutForest) (t : Bool) → t ≡ true → Divides settings rules room above m now → MatchBool t (Divides settings rules room above m now) (now ≡ Kept tt m Bare)
divided_interval settings rules room above m now true e d = d
divided_interval settings rules room above m now false e d = cc

heavy_part : (piece : Piece) (members : Layout) (k : ℕ) → piece_of members ≡ piece → k < gapped_weight piece.body.roots → nat_lt k (laid_weight members) ≡ true
heavy_part piece members k e heavy =
    let a : gapped_weight (piece_of members).body.roots ≡ gapped_weight piece.body.roots = ap (λ (p : Piece). gapped_weight p.body.roots) e in
    let b = body_weight members in
    let lt : k < laid_weight members = omega (arith, a, b, heavy) in
    grind (arith, nat_tests)

-- a row names the same lists without one of its intervals
hole_named : (was : Held) (index : ℕ) (whole : Layout) → MayName was (piece_body whole) → MayName was (piece_body (replaced_at index Bare whole))
hole_named was index whole =
    may_fewer was (piece_body (replaced_at index Bare whole)) (piece_body whole) (λ far among. subst (λ (fs : List Far). Contains fs far) (row_is_filled 0 index Bare whole).own among)

module _ {D : Type 0} (d : Ghosts D) (settings : Settings) (rules : List Rule) (room : ℕ) (above : Option Node) (place : RecordPlace) (r0 r1 : Records) (same : settings_of r0 ≡ settings) (x0 x1 : D) (piece : Piece) where
  split_at : (top : Option Node) (index : ℕ) (whole members : Layout) (row : Row) → kept_at index whole ≡ Some members → piece_of members ≡ piece → settings.k < gapped_weight piece.body.roots
      → above_at index top whole ≡ above → AreLaidParts settings.k (replaced_at index Bare whole) → AreLaidParts settings.k members → index < length (proxies_of whole) → DividesMembers d settings rules room above place r0 r1 x0 x1 members row
      → SplitsAt d settings rules room top index place r0 r1 x0 x1 whole members row
  split_at top index whole members row kept is heavy node hole light low made = record {
    draft = made.draft;
    stands = made.stands;
    splits = one_is_split settings rules room top index whole members (layout_after made.draft) kept hole light
        (subst (λ (o : Option Node). SplitsInterval settings rules room o (without_places members) (without_places (layout_after made.draft))) (sym node)
        (divided_interval settings rules room above (without_places members) (without_places (layout_after made.draft)) (nat_lt settings.k (laid_weight members)) (heavy_part piece members settings.k is heavy) made.divides));
    light = parts_filled settings.k index (layout_after made.draft) whole hole made.light;
    fits = raised_has_room settings rules room above (without_places members) (without_places (layout_after made.draft)) settings.k light made.divides;
    items_are = made.items_are;
    proxies_are = made.proxies_are;
    proxies = subst (λ (l : List Proxy). proxies_of (replaced_at index (layout_after made.draft) whole) ≡ take index (proxies_of whole) ++ l ++ drop (index + 1) (proxies_of whole)) (sym made.proxies_are)
        (replaces index whole (layout_after made.draft) low).proxies_are;
    comes = λ saved was stands tidy may.
        let now = (made.put).puts saved was stands tidy (subst (λ (l : Layout). MayName was (piece_body l)) (sym made.stands) may) in
        let puts = now.3 in
        let most : was.settings ≡ settings = ((stands.holds).behind).settings ∙ same in (
          now.0,
          now.1,
          now.2,
          (
            puts.moves,
            puts.once,
            may_name_still (piece_body (layout_after made.draft)) tidy puts.moves (may_fewer was (piece_body (layout_after made.draft)) (piece_body (layout_before made.draft)) (fars_after made.draft) (subst (λ (l : Layout). MayName was (piece_body l)) (sym made.stands) may)),
            λ before after beside_apart below_apart named beside below.
                held_filled (held_by after) index (layout_after made.draft) whole
                (held_apart place (came made.draft) (draft_needs made.draft) was now.0 tidy puts.moves before after (replaced_at index Bare whole) beside_apart (hole_named was index whole named) beside)
                (puts.held before after (subst (λ (s : Settings). AreLaidParts s.k (layout_after made.draft)) (sym most) made.light) (subst (StandApart place) (sym made.stands) below_apart)
                (subst (AreHeld (held_by before)) (sym made.stands) below)),
          ),
        );
  }

  -- what the call answers
  pub splits_ok : settings.k < gapped_weight piece.body.roots → (r : Result Row StoreError)
      → IfOk r (λ row. (members : Layout) → piece_of members ≡ piece → AreLaidParts settings.k members → DividesMembers d settings rules room above place r0 r1 x0 x1 members row)
      → IfOk r (λ row. (top : Option Node) (index : ℕ) (whole members : Layout) → kept_at index whole ≡ Some members → piece_of members ≡ piece → above_at index top whole ≡ above → AreLaidParts settings.k (replaced_at index Bare whole) → AreLaidParts settings.k members
      → index < length (proxies_of whole) → SplitsAt d settings rules room top index place r0 r1 x0 x1 whole members row)
  splits_ok heavy (Ok row) made = λ top index whole members kept is node hole light low. split_at top index whole members row kept is heavy node hole light low (made members is light)
  splits_ok heavy (Err e) made = tt

  -- why it gave up
  split_refused : (e : StoreError) → (needs : ℕ) × NotPutAt d place needs e r0 r1 x0 x1 → ((members : Layout) → piece_of members ≡ piece → AreLaidParts settings.k members → GivesUpAt d settings rules room above place e r0 r1 x0 x1 members)
      → NotSplitAt d settings rules room above place piece e r0 r1 x0 x1
  split_refused error.Disk why each = (why.1).1
  split_refused (error.Damaged page) why each = let w = (why.1).1 in (w.ends, λ saved now stands tidy. w.lacks saved now stands tidy)
  split_refused error.Ended why each = (why.1).1
  split_refused error.Memory why each = (why.1).1
  split_refused error.Full why each =
      let w = (why.1).1 in record {
        runs = w.runs;
        none_free = w.none_free;
        few = λ members is light. let n = each members is light in record { draft = n.draft; stands = n.stands; divides = n.divides; few = λ saved now stands tidy. ((n.refused).1).few saved now stands };
        keeps = w.keeps;
      }
  split_refused error.Exists why each = absurd (why.1).1
  split_refused error.NotAStore why each = absurd (why.1).1

  pub splits_refused : (r : Result Row StoreError) → IfErr r (λ e. (needs : ℕ) × NotPutAt d place needs e r0 r1 x0 x1)
      → IfErr r (λ e. (members : Layout) → piece_of members ≡ piece → AreLaidParts settings.k members → GivesUpAt d settings rules room above place e r0 r1 x0 x1 members) → IfErr r (λ e. NotSplitAt d settings rules room above place piece e r0 r1 x0 x1)
  splits_refused (Ok row) why each = tt
  splits_refused (Err e) why each = split_refused e why each
