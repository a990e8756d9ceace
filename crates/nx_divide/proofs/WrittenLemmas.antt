-- Contents of items that stand where they do when they are written, and the lists that they name.
use Rattle.std.proofs.Common.{◌≡◌, ℕ, zero, suc, List, ◌∷◌, ◌++◌, take, drop, inl, inr, refl, sym, ap, ◌∙◌, subst, append_assoc}
use Rattle.std.specs.Prelude.{[], Contains}
use Rattle.std.specs.Option.{option_to_list}
use Rattle.std.proofs.lemmas.List.Elements.{Contains-append_left, Contains-append_right, Contains-append_cases}
use Rattle.nx_piece.specs.declared.piece.Far.{Far}
use Rattle.nx_piece.specs.declared.piece.Item.{Item}
use Rattle.nx_piece.specs.declared.piece.Item.TheVariants.{Tree, Run}
use Rattle.nx_piece.specs.Gapped.{Gapped, End, Grow, Gap}
use Rattle.nx_piece.specs.Items.{gapped_of}
use Rattle.nx_piece.specs.Contents.{fars_in}
use Rattle.nx_piece.specs.Valid.{AreFar, AreNear}
use Rattle.nx_cuts.specs.Cut.{Bare, Grown, Kept}
use Rattle.nx_layouts.specs.Layout.{RecordPlace, Layout, in_record, gap_more, piece_body}
use Rattle.nx_layouts.specs.Replace.{joined_layout}
use Rattle.nx_layouts.proofs.FillLemmas.{fars-gap_more}
use Rattle.nx_drafts.specs.Draft.{Draft, Ends, Grows, Stands, Comes, layout_before, layout_after}
use Rattle.nx_divide.specs.Marked.{AreWritten}

pub written_both : (g : Gapped) → AreNear g → AreFar g → AreWritten g
written_both End near far = tt
written_both (Grow n b s) near far = ((near.0, far.0), written_both b near.1 far.1, written_both s near.2 far.2)
written_both (Gap count s) near far = written_both s near far

pub written_near : (g : Gapped) → AreWritten g → AreNear g
written_near End w = tt
written_near (Grow n b s) w = ((w.0).0, written_near b w.1, written_near s w.2)
written_near (Gap count s) w = written_near s w

pub written_far : (g : Gapped) → AreWritten g → AreFar g
written_far End w = tt
written_far (Grow n b s) w = ((w.0).1, written_far b w.1, written_far s w.2)
written_far (Gap count s) w = written_far s w

-- some of the items
pub written-take : (n : ℕ) (items : List Item) → AreWritten (gapped_of items) → AreWritten (gapped_of (take n items))
written-take zero items w = tt
written-take (suc n) [] w = tt
written-take (suc n) (Tree t ∷ items) w = (w.0, w.1, written-take n items w.2)
written-take (suc n) (Run count ∷ items) w = written-take n items w

pub written-drop : (n : ℕ) (items : List Item) → AreWritten (gapped_of items) → AreWritten (gapped_of (drop n items))
written-drop zero items w = w
written-drop (suc n) [] w = tt
written-drop (suc n) (Tree t ∷ items) w = written-drop n items w.2
written-drop (suc n) (Run count ∷ items) w = written-drop n items w

pub written-append : (xs ys : List Item) → AreWritten (gapped_of xs) → AreWritten (gapped_of ys) → AreWritten (gapped_of (xs ++ ys))
written-append [] ys v w = w
written-append (Tree t ∷ xs) ys v w = (v.0, v.1, written-append xs ys v.2 w)
written-append (Run count ∷ xs) ys v w = written-append xs ys v w

written-gap_more : (g : Gapped) → AreWritten g → AreWritten (gap_more g)
written-gap_more End w = tt
written-gap_more (Grow n b s) w = w
written-gap_more (Gap count s) w = w

gap_written : (g : Gapped) → AreWritten (gap_more g) → AreWritten g
gap_written End w = tt
gap_written (Grow n b s) w = w
gap_written (Gap count s) w = w

written_behind : (a b : Layout) → AreWritten (piece_body (joined_layout a b)) → AreWritten (piece_body b)
written_behind Bare b w = w
written_behind (Grown n d s) b w = written_behind s b w.2
written_behind (Kept p m s) b w = written_behind s b (gap_written (piece_body (joined_layout s b)) w)

-- what is left of a row where records came is written still
pub written_after : (c : Draft RecordPlace) → AreWritten (piece_body (layout_before c)) → AreWritten (piece_body (layout_after c))
written_after Ends w = tt
written_after (Grows n b s) w = (w.0, written_after b w.1, written_after s w.2)
written_after (Stands r m s) w = written-gap_more (piece_body (layout_after s)) (written_after s (gap_written (piece_body (layout_before s)) w))
written_after (Comes u m s) w = written-gap_more (piece_body (layout_after s)) (written_after s (written_behind (layout_before m) (layout_before s) w))

-- the lists that a row names with another behind it
pub fars-joined : (a b : Layout) → fars_in (piece_body (joined_layout a b)) ≡ fars_in (piece_body a) ++ fars_in (piece_body b)
fars-joined Bare b = refl
fars-joined (Grown n d s) b =
    let own : List Far = option_to_list (in_record n).far in
    ap (λ (fs : List Far). own ++ (fars_in (piece_body d) ++ fs)) (fars-joined s b) ∙ ap (λ (fs : List Far). own ++ fs) (sym (append_assoc (fars_in (piece_body d)) (fars_in (piece_body s)) (fars_in (piece_body b))))
    ∙ sym (append_assoc own (fars_in (piece_body d) ++ fars_in (piece_body s)) (fars_in (piece_body b)))
fars-joined (Kept p m s) b =
    fars-gap_more (piece_body (joined_layout s b)) ∙ fars-joined s b ∙ ap (λ (fs : List Far). fs ++ fars_in (piece_body b)) (sym (fars-gap_more (piece_body s)))

pub fars_first : (a b : Layout) (far : Far) → Contains (fars_in (piece_body a)) far → Contains (fars_in (piece_body (joined_layout a b))) far
fars_first a b far among = subst (λ (fs : List Far). Contains fs far) (sym (fars-joined a b)) (Contains-append_left (fars_in (piece_body a)) (fars_in (piece_body b)) far among)

pub fars_behind : (a b : Layout) (far : Far) → Contains (fars_in (piece_body b)) far → Contains (fars_in (piece_body (joined_layout a b))) far
fars_behind a b far among = subst (λ (fs : List Far). Contains fs far) (sym (fars-joined a b)) (Contains-append_right (fars_in (piece_body a)) (fars_in (piece_body b)) far among)

-- what is left of a row where records came names no other lists
pub fars_after : (c : Draft RecordPlace) (far : Far) → Contains (fars_in (piece_body (layout_after c))) far → Contains (fars_in (piece_body (layout_before c))) far
fars_after Ends far among = among
fars_after (Grows n b s) far among =
    let own : List Far = option_to_list (in_record n).far in
    let below : List Far = fars_in (piece_body (layout_before b)) in
    let beside : List Far = fars_in (piece_body (layout_before s)) in
    elim (Contains-append_cases own (fars_in (piece_body (layout_after b)) ++ fars_in (piece_body (layout_after s))) far among) [
      | inl here ↦ Contains-append_left own (below ++ beside) far here
      | inr deeper ↦ Contains-append_right own (below ++ beside) far (elim (Contains-append_cases (fars_in (piece_body (layout_after b))) (fars_in (piece_body (layout_after s))) far deeper) [
        | inl one ↦ Contains-append_left below beside far (fars_after b far one)
        | inr other ↦ Contains-append_right below beside far (fars_after s far other)
      ])
    ]
fars_after (Stands r m s) far among =
    subst (λ (fs : List Far). Contains fs far) (sym (fars-gap_more (piece_body (layout_before s))))
    (fars_after s far (subst (λ (fs : List Far). Contains fs far) (fars-gap_more (piece_body (layout_after s))) among))
fars_after (Comes u m s) far among =
    fars_behind (layout_before m) (layout_before s) far
    (fars_after s far (subst (λ (fs : List Far). Contains fs far) (fars-gap_more (piece_body (layout_after s))) among))
