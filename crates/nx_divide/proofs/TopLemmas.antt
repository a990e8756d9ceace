-- A part that was put by a draft of its division is divided.
use Rattle.std.proofs.Common.{◌≡◌, ℕ, ◌+◌, ◌*◌, ◌^◌, ◌≤◌, ◌<◌, List, [], ◌∷◌, ◌++◌, length, Option, None, Some, refl, sym, ap, subst, ◌∙◌, arith, append-nil, length-append}
use Rattle.std.specs.Prelude.{Result, Ok, Err, IfOk, IfErr}
use Rattle.std.proofs.lemmas.List.Sorted.{length_permutation}
use Rattle.nx_host.specs.declared.disk.Disk.{Ghosts}
use Rattle.nx_tree.specs.declared.node.Node.{Node}
use Rattle.nx_parts.specs.declared.interval.Interval.{Interval}
use Rattle.nx_parts.specs.Partitioning.{holder}
use Rattle.nx_matrix.specs.declared.rule.Rule.{Rule}
use Rattle.nx_cuts.specs.Cut.{Bare, Grown, Kept, width, intervals, cuts, AreFree, AreParts}
use Rattle.nx_cuts.proofs.FeasibleLemmas.{length-intervals}
use Rattle.nx_records.specs.Words.{Held, Settings}
use Rattle.nx_records.specs.declared.records.Records.{Records}
use Rattle.nx_records.specs.declared.error.StoreError.{StoreError}
use Rattle.nx_records.specs.Records.{HasChanges, KeepsSaved}
use Rattle.nx_records.specs.Refusals.{RunsOn}
use Rattle.nx_piece.specs.declared.piece.Item.{Item}
use Rattle.nx_piece.specs.declared.piece.Piece.{Piece}
use Rattle.nx_piece.specs.declared.piece.Proxy.{Proxy}
use Rattle.nx_piece.specs.Gapped as gapped
use Rattle.nx_piece.specs.PieceNode.{item_slots}
use Rattle.nx_piece.specs.Gapped.{Gapped, End, Grow, Gap, item_count, gapped_size}
use Rattle.nx_piece.specs.Items.{gapped_of}
use Rattle.nx_piece.specs.Valid.{IsPiece, AreApart, AreNear, AreTrees, BeginsNoGap}
use Rattle.nx_parts.specs.declared.marks.Mark.{Mark}
use Rattle.nx_parts.specs.Marks.{marked, marked_in, holder_by_marks}
use Rattle.nx_layouts.specs.Replace.{joined_layout}
use Rattle.nx_layouts.specs.Layout.{RecordPlace, Layout, without_places, laid_forest, AreLaidParts, piece_body, proxies_of, piece_of}
use Rattle.nx_sketch.specs.Split.{IsDivision}
use Rattle.nx_split.specs.Piece.{asked_of_root, placed_of}
use Rattle.nx_divide.specs.declared.dividing.Row.{Row}
use Rattle.nx_drawn.specs.Splits.{part_nodes, part_sketch, Divides}
use Rattle.nx_drafts.specs.Laws.{IsDrafted}
use Rattle.nx_drafts.specs.Draft.{Draft, Ends, Grows, Stands, Comes, drawn_forest, layout_before, layout_after, came, draft_needs, AreHeldBut}
use Rattle.nx_drawn.proofs.DivisionLemmas.{division_light}
use Rattle.nx_drawn.proofs.DividedLemmas.{heavier_parts}
use Rattle.nx_drafts.proofs.DraftLemmas.{division_is_drafted}
use Rattle.nx_drafts.proofs.GatherLemmas.{forest-layout_before}
use Rattle.nx_drawn.proofs.PieceLemmas.{piece_part}
use Rattle.nx_drafts.proofs.PlacesLemmas.{drawn_forest-layout_after}
use Rattle.nx_drafts.proofs.SomeLemmas.{piece_has_members}
use Rattle.nx_divide.specs.Marked.{AreWritten, IsMarkedDivision, IsMarkedDraft, IsMarkedRow, many}
use Rattle.nx_divide.proofs.WrittenLemmas.{written_both, fars_after}
use Rattle.nx_divide.proofs.PutLemmas.{may_fewer}
use Rattle.nx_divide.proofs.MarkedLemmas.{marked_same}
use Rattle.nx_divide.proofs.PartedLemmas.{all_come}
use Rattle.nx_divide.specs.Dividing.{DividesMembers, IsDivisionOf, NotPutAt, PutsRowAt, PutsSome}
use Rattle.nx_hold.specs.Pieces.{MayName}
use Rattle.nx_hold.specs.Changes.{ComesTidyWhere}
use Rattle.nx_hold.proofs.MoveLemmas.{may_name_still}
use Rattle.nx_divide.proofs.RowLemmas.{drawn_forest-unmarked, layout_before-unmarked, many-gap_more, many-joined}
use Rattle.nx_divide.proofs.AgreeLemmas.{plan_agrees}

module _ (settings : Settings) (rules : List Rule) (above : Option Node) (most : settings.k ≤ 256) (piece : Piece) (parts : List Interval) (room : ℕ) (raised : Option ℕ) (division : IsDivision settings.k (placed_of rules above piece) room settings.target settings.tolerance parts raised)
    (written : AreWritten piece.body.roots) (members : Layout) (is : piece_of members ≡ piece) (limit : ℕ) (heavier : settings.k ≤ limit) (few : limit ≤ 256) (light : AreLaidParts limit members) where
  division_part : IsDivision settings.k (part_nodes rules above (without_places members)) room settings.target settings.tolerance parts raised
  division_part = subst (λ l. IsDivision settings.k l room settings.target settings.tolerance parts raised) (ap (placed_of rules above) (sym is) ∙ piece_part rules above members) division

  pub made : IsDrafted limit members parts raised
  made = division_is_drafted settings rules room above limit members parts raised heavier light division_part

  pub made_marked : IsMarkedDraft None (holder parts) 0 piece.body.roots piece.proxies made.draft
  made_marked = record {
    items_are = ap piece_body made.stands ∙ ap (λ (p : Piece). p.body.roots) is;
    written = written;
    behind = [];
    olds_are = ap (λ (p : Piece). p.proxies) (sym is) ∙ ap proxies_of (sym made.stands) ∙ sym (append-nil (proxies_of (layout_before made.draft)));
    light = heavier_parts limit 256 (drawn_forest made.draft) few made.light;
    agrees = plan_agrees rules above limit members parts light settings.k
        (division_light settings.k room settings.target settings.tolerance (part_sketch rules (asked_of_root rules above) 0 (without_places members)) parts raised division_part) raised made;
  }

  pub made_divides : Divides settings rules room above (without_places members) (drawn_forest made.draft)
  made_divides = record {
    parts = parts;
    raised = raised;
    division = division_part;
    same = sym (forest-layout_before made.draft) ∙ ap laid_forest made.stands;
    drawn = made.drawn;
    limit = limit;
    formed = made.light;
  }

-- the roots of a piece that intervals hold are members of intervals that come, but the one that is raised
row_come : (raised : Option ℕ) (h : List ℕ → Option ℕ) (piece : Piece) (c : Draft (Unit {0})) → AreHeldBut raised 0 c → IsPiece piece → IsMarkedDraft None h 0 piece.body.roots piece.proxies c → IsMarkedDivision raised h piece.body.roots piece.proxies c
row_come None h piece c held valid m = record { marked = m; come = all_come 0 c held (subst AreTrees (sym m.items_are) valid.body.trees) }
row_come (Some root) h piece c held valid m = m

-- A call gave up, and this is a division of these members whose records it was to put in the place of one.
pub record GivesUpAt {D : Type 0} (d : Ghosts D) (settings : Settings) (rules : List Rule) (room : ℕ) (above : Option Node) (place : RecordPlace) (e : StoreError) (old new : Records) (before after : D) (members : Layout) : Type 0 where
  pub draft : Draft (Unit {0})
  pub stands : layout_before draft ≡ members
  pub divides : Divides settings rules room above (without_places members) (drawn_forest draft)
  pub refused : NotPutAt d place (draft_needs draft) e old new before after

module _ {D : Type 0} (d : Ghosts D) (settings : Settings) (rules : List Rule) (above : Option Node) (most : settings.k ≤ 256) (piece : Piece) (parts : List Interval) (room : ℕ) (raised : Option ℕ) (division : IsDivision settings.k (placed_of rules above piece) room settings.target settings.tolerance parts raised)
    (written : AreWritten piece.body.roots) (valid : IsPiece piece) (place : RecordPlace) (r0 r1 : Records) (x0 x1 : D) where
  made_row : (members : Layout) (is : piece_of members ≡ piece) (light : AreLaidParts settings.k members)
      → IsMarkedDivision raised (holder parts) piece.body.roots piece.proxies (made settings rules above most piece parts room raised division written members is settings.k (omega arith) most light).draft
  made_row members is light =
      let m = made settings rules above most piece parts room raised division written members is settings.k (omega arith) most light in
      row_come raised (holder parts) piece m.draft m.held valid (made_marked settings rules above most piece parts room raised division written members is settings.k (omega arith) most light)

  pub divides_ok : (r : Result Row StoreError) → IfOk r (λ row. (drawn : Draft (Unit {0})) → IsMarkedDivision raised (holder parts) piece.body.roots piece.proxies drawn → PutsRowAt d place r0 r1 x0 x1 drawn row)
      → IfOk r (λ row. (members : Layout) → piece_of members ≡ piece → AreLaidParts settings.k members → DividesMembers d settings rules room above place r0 r1 x0 x1 members row)
  divides_ok (Err e) h = tt
  divides_ok (Ok row) h = λ members is light.
      let m = made settings rules above most piece parts room raised division written members is settings.k (omega arith) most light in
      let p = h m.draft (made_row members is light) in
      let bare : without_places (layout_after p.draft) ≡ drawn_forest m.draft = drawn_forest-layout_after p.draft ∙ sym (drawn_forest-unmarked p.draft) ∙ ap drawn_forest p.same in
      record {
        draft = p.draft;
        stands = sym (layout_before-unmarked p.draft) ∙ ap layout_before p.same ∙ m.stands;
        divides = subst (Divides settings rules room above (without_places members)) (sym bare) (made_divides settings rules above most piece parts room raised division written members is settings.k (omega arith) most light);
        light = subst (AreParts settings.k) (sym bare) m.light;
        items_are = p.items_are;
        proxies_are = p.proxies_are;
        put = p.put;
      }

  pub gives_up : (r : Result Row StoreError) → IfErr r (λ e. (drawn : Draft (Unit {0})) → IsMarkedDivision raised (holder parts) piece.body.roots piece.proxies drawn → NotPutAt d place (draft_needs drawn) e r0 r1 x0 x1)
      → IfErr r (λ e. (members : Layout) → piece_of members ≡ piece → AreLaidParts settings.k members → GivesUpAt d settings rules room above place e r0 r1 x0 x1 members)
  gives_up (Ok row) h = tt
  gives_up (Err e) h = λ members is light.
      let m = made settings rules above most piece parts room raised division written members is settings.k (omega arith) most light in
      record {
        draft = m.draft;
        stands = m.stands;
        divides = made_divides settings rules above most piece parts room raised division written members is settings.k (omega arith) most light;
        refused = h m.draft (made_row members is light);
      }

-- how many intervals come
abbrev coming : Draft (Unit {0}) → ℕ
coming Ends = 0
coming (Grows n b s) = coming b + coming s
coming (Stands r m s) = coming s
coming (Comes u m s) = 1 + coming m + coming s

bare-joined : (a b : Layout) → cuts (without_places (joined_layout a b)) ≡ cuts (without_places a) + cuts (without_places b)
bare-joined Bare b = omega arith
bare-joined (Grown n d s) b = omega (arith, bare-joined s b)
bare-joined (Kept r m s) b = omega (arith, bare-joined s b)

cuts-coming : (c : Draft (Unit {0})) → cuts (drawn_forest c) ≡ coming c + cuts (without_places (layout_before c))
cuts-coming Ends = refl
cuts-coming (Grows n b s) = omega (arith, cuts-coming b, cuts-coming s)
cuts-coming (Stands r m s) = omega (arith, cuts-coming s)
cuts-coming (Comes u m s) = omega (arith, cuts-coming m, cuts-coming s, bare-joined (layout_before m) (layout_before s))

coming_few : (k : ℕ) (c : Draft (Unit {0})) → AreParts k (drawn_forest c) → (coming c ≤ many (piece_body (layout_before c))) × (AreFree (drawn_forest c) → width (drawn_forest c) + coming c ≤ many (piece_body (layout_before c)))
coming_few k Ends p = (omega arith, λ f. omega arith)
coming_few k (Grows n b s) p =
    let down = (coming_few k b p.0).0 in
    let side = coming_few k s p.1 in
    let along = side.0 in
    (omega (arith, down, along), λ f. let all = side.1 f in omega (arith, down, all))
coming_few k (Stands r m s) p = let along = (coming_few k s p.4).0 in let x = many-gap_more (piece_body (layout_before s)) in (omega (arith, along, x), λ f. absurd f)
coming_few k (Comes u m s) p =
    let some : 1 ≤ width (drawn_forest m) = p.0 in
    let inside = (coming_few k m p.3).1 p.1 in
    let along = (coming_few k s p.4).0 in
    let x = many-joined (layout_before m) (layout_before s) in
    (omega (arith, some, inside, along, x), λ f. absurd f)

parts_are_few : (k : ℕ) (members : Layout) (parts : List Interval) (raised : Option ℕ) (made : IsDrafted k members parts raised) → length parts ≤ many (piece_body members)
parts_are_few k members parts raised made =
    let olds = intervals [] 0 (without_places members) in
    let all = length_permutation (intervals [] 0 (drawn_forest made.draft)) (parts ++ olds) made.drawn in
    let a = length-append parts olds in
    let b = length-intervals [] 0 (drawn_forest made.draft) in
    let c = length-intervals [] 0 (without_places members) in
    let e = cuts-coming made.draft in
    let f : cuts (without_places (layout_before made.draft)) ≡ cuts (without_places members) = ap (λ (l : Layout). cuts (without_places l)) made.stands in
    let g = (coming_few k made.draft made.light).0 in
    let h : many (piece_body (layout_before made.draft)) ≡ many (piece_body members) = ap (λ (l : Layout). many (piece_body l)) made.stands in
    omega (arith, all, a, b, c, e, f, g, h)

-- a piece in memory, with the intervals of a division of it
module _ (settings : Settings) (most : settings.k ≤ 256) (piece : Piece) (parts : List Interval) (raised : Option ℕ) (division : IsDivisionOf settings piece parts raised) (valid : IsPiece piece) (near : AreNear piece.body.roots) where
  pub some_written : AreWritten piece.body.roots
  some_written = written_both piece.body.roots near valid.body.far

  abbrev pub some_draft : IsDrafted 256 (piece_has_members piece valid).members parts raised
  some_draft = made settings division.rules division.above most piece parts division.room raised division.division some_written (piece_has_members piece valid).members (piece_has_members piece valid).is 256 most (omega arith) (piece_has_members piece valid).light

  pub some_marked : IsMarkedDraft None (holder parts) 0 piece.body.roots piece.proxies some_draft.draft
  some_marked = made_marked settings division.rules division.above most piece parts division.room raised division.division some_written (piece_has_members piece valid).members (piece_has_members piece valid).is 256 most (omega arith) (piece_has_members piece valid).light

  pub some_divides : Divides settings division.rules division.room division.above (without_places (piece_has_members piece valid).members) (drawn_forest some_draft.draft)
  some_divides = made_divides settings division.rules division.above most piece parts division.room raised division.division some_written (piece_has_members piece valid).members (piece_has_members piece valid).is 256 most (omega arith) (piece_has_members piece valid).light

  pub some_row : IsMarkedDivision raised (holder parts) piece.body.roots piece.proxies some_draft.draft
  some_row = row_come raised (holder parts) piece some_draft.draft some_draft.held valid some_marked

  pub few_parts : many piece.body.roots ≤ 524288 → length parts < 2 ^ 32
  few_parts few =
      let p = parts_are_few 256 (piece_has_members piece valid).members parts raised some_draft in
      let e : many (piece_body (piece_has_members piece valid).members) ≡ many piece.body.roots = ap (λ (q : Piece). many q.body.roots) (piece_has_members piece valid).is in
      omega (arith, p, e, few)

-- the marks of the roots say which interval of the split holds each node
pub draft_marked : (mark : Mark) (below : List Mark) (parts : List Interval) (roots items : Gapped) (olds left : List Proxy) (c : Draft (Unit {0})) → ((path : List ℕ) → marked mark path ≡ holder parts path) → ((position : ℕ) (path : List ℕ) → marked_in below position path ≡ marked mark (position ∷ path))
    → items ≡ roots → left ≡ olds → IsMarkedDraft None (holder parts) 0 roots olds c → IsMarkedDraft None (holder_by_marks below) 0 items left c
draft_marked mark below parts roots items olds left c holds are items_are left_is m =
    subst (λ (g : Gapped). IsMarkedDraft None (holder_by_marks below) 0 g left c) (sym items_are)
    (marked_same None (holder parts) (holder_by_marks below) 0 roots olds left c (λ p path. sym (holds (p ∷ path)) ∙ sym (are p path)) (sym left_is) m)

pub roots_marked : (mark : Mark) (below : List Mark) (parts : List Interval) (roots items : Gapped) (olds left : List Proxy) (c : Draft (Unit {0})) → ((path : List ℕ) → marked mark path ≡ holder parts path) → ((position : ℕ) (path : List ℕ) → marked_in below position path ≡ marked mark (position ∷ path))
    → items ≡ roots → left ≡ olds → IsMarkedRow (holder parts) roots olds c → IsMarkedRow (holder_by_marks below) items left c
roots_marked mark below parts roots items olds left c holds are items_are left_is m = record {
  marked = draft_marked mark below parts roots items olds left c holds are items_are left_is m.marked;
  come = m.come;
}

-- ... and so of a division
pub division_marked : (raised : Option ℕ) (mark : Mark) (below : List Mark) (parts : List Interval) (roots items : Gapped) (olds left : List Proxy) (c : Draft (Unit {0})) → ((path : List ℕ) → marked mark path ≡ holder parts path)
    → ((position : ℕ) (path : List ℕ) → marked_in below position path ≡ marked mark (position ∷ path)) → items ≡ roots → left ≡ olds → IsMarkedDivision raised (holder parts) roots olds c → IsMarkedDivision raised (holder_by_marks below) items left c
division_marked None mark below parts roots items olds left c holds are items_are left_is m = roots_marked mark below parts roots items olds left c holds are items_are left_is m
division_marked (Some root) mark below parts roots items olds left c holds are items_are left_is m = draft_marked mark below parts roots items olds left c holds are items_are left_is m

no_end : (roots : Gapped) → End ≡ roots → 1 ≤ gapped.gapped_width roots → ⊥
no_end End e some = omega (arith, some)
no_end (Grow n b s) e some = cc
no_end (Gap count s) e some = cc

-- a piece has a root
pub some_roots : (items : List Item) (roots : Gapped) → gapped_of items ≡ roots → 1 ≤ gapped.gapped_width roots → 1 ≤ length items
some_roots [] roots e some = absurd (no_end roots e some)
some_roots (x ∷ items) roots e some = omega arith

-- nodes and gaps of a piece are few
apart_few : (g : Gapped) → AreApart g → (BeginsNoGap g → item_count g ≤ 3 * gapped_size g) × (item_count g ≤ 3 * gapped_size g + 1)
apart_few End a = (λ b. omega arith, omega arith)
apart_few (Grow n b s) a =
    let x = (apart_few b a.0).1 in
    let y = (apart_few s a.1).1 in
    let w : 1 ≤ item_slots n = omega arith in
    (λ none. omega (arith, x, y, w), omega (arith, x, y, w))
apart_few (Gap count s) a = let y = (apart_few s a.2).0 a.1 in (λ none. absurd none, omega (arith, y))

pub items_few : (piece : Piece) → IsPiece piece → item_count piece.body.roots ≤ 1048576
items_few piece p =
    let x = (apart_few piece.body.roots p.body.apart).1 in
    let y = p.body.small in
    omega (arith, x, y)

module _ {D : Type 0} (d : Ghosts D) (settings : Settings) (most : settings.k ≤ 256) (piece : Piece) (parts : List Interval) (raised : Option ℕ) (division : IsDivisionOf settings piece parts raised) (valid : IsPiece piece) (near : AreNear piece.body.roots) (place : RecordPlace) (r0 r1 : Records) (x0 x1 : D) where
  abbrev pub Rows : Row → Type 0
  Rows row = (drawn : Draft (Unit {0})) → IsMarkedDivision raised (holder parts) piece.body.roots piece.proxies drawn → PutsRowAt d place r0 r1 x0 x1 drawn row

  pub row_put : (row : Row) → Rows row → PutsRowAt d place r0 r1 x0 x1 (some_draft settings most piece parts raised division valid near).draft row
  row_put row puts = puts (some_draft settings most piece parts raised division valid near).draft (some_row settings most piece parts raised division valid near)

  -- the items that stood are those of the piece
  pub row_before : (row : Row) (p : PutsRowAt d place r0 r1 x0 x1 (some_draft settings most piece parts raised division valid near).draft row) → piece_body (layout_before p.draft) ≡ piece.body.roots
  row_before row p =
      ap piece_body (sym (layout_before-unmarked p.draft)) ∙ ap (λ (c : Draft (Unit {0})). piece_body (layout_before c)) p.same ∙ (some_marked settings most piece parts raised division valid near).items_are

  -- the lists that the row names are those of the piece
  row_named : (row : Row) (p : PutsRowAt d place r0 r1 x0 x1 (some_draft settings most piece parts raised division valid near).draft row) (was : Held) → MayName was piece.body.roots → MayName was (piece_body (layout_before p.draft))
  row_named row p was may = subst (λ (g : Gapped). MayName was g) (sym (row_before row p)) may

  pub parts_come : (r : Result Row StoreError) → IfOk r Rows → IfOk r (λ row. ComesTidyWhere d r0 r1 x0 x1 (λ was. MayName was piece.body.roots) (PutsSome place row))
  parts_come (Err e) puts = tt
  parts_come (Ok row) puts = λ saved was stands tidy may.
      let p = row_put row puts in
      let named = row_named row p was may in
      let now = (p.put).puts saved was stands tidy named in
      let after : MayName was (piece_body (layout_after p.draft)) = may_fewer was (piece_body (layout_after p.draft)) (piece_body (layout_before p.draft)) (fars_after p.draft) named in (
        now.0,
        now.1,
        now.2,
        (came p.draft, draft_needs p.draft, (now.3).moves, subst (λ (g : Gapped). MayName now.0 g) (sym p.items_are) (may_name_still (piece_body (layout_after p.draft)) tidy (now.3).moves after)),
      )

  pub parts_keep : (r : Result Row StoreError) → IfOk r Rows → IfOk r (λ row. RunsOn r0 r1 × KeepsSaved d r0 r1 x0 x1 × HasChanges r1)
  parts_keep (Err e) puts = tt
  parts_keep (Ok row) puts = let p = row_put row puts in ((p.put).runs, (p.put).keeps, (p.put).changes)

  pub parts_cause : (r : Result Row StoreError) → IfErr r (λ e. (drawn : Draft (Unit {0})) → IsMarkedDivision raised (holder parts) piece.body.roots piece.proxies drawn → NotPutAt d place (draft_needs drawn) e r0 r1 x0 x1)
      → IfErr r (λ e. (needs : ℕ) × NotPutAt d place needs e r0 r1 x0 x1)
  parts_cause (Ok row) refused = tt
  parts_cause (Err e) refused = let m = some_draft settings most piece parts raised division valid near in (draft_needs m.draft, refused m.draft (some_row settings most piece parts raised division valid near))
