-- The records of a row of intervals, taken away one after the other.
use Rattle.std.proofs.Common.{◌≡◌, ℕ, ◌+◌, ◌-◌, ◌<◌, ◌≤◌, List, [], ◌∷◌, ◌++◌, length, map, inl, inr, refl, sym, ap, ap₂, ◌∙◌, subst, arith, append-nil, append_assoc, IsPermutation}
use Rattle.std.specs.Prelude.{◌⊎◌, ◌==◌, true, false, IsSome, Contains}
use Rattle.std.specs.List.{sum_by}
use Rattle.std.proofs.lemmas.Bool.{false≢true}
use Rattle.std.proofs.lemmas.Bool.Decides.{eqb_tells}
use Rattle.std.proofs.lemmas.List.{map-append}
use Rattle.std.proofs.lemmas.List.Elements.{Contains-append_left, Contains-append_right, Contains-append_cases}
use Rattle.std.proofs.lemmas.List.Sums.{sum_by-append}
use Rattle.nx_host.specs.Disk.{Rose}
use Rattle.nx_host.specs.declared.disk.Disk.{Ghosts}
use Rattle.nx_host.specs.Still.{IsStill}
use Rattle.nx_host.proofs.DiskLemmas.{none_still, still_then}
use Rattle.nx_holdings.specs.Holdings.{Held}
use Rattle.nx_records.specs.declared.records.Records.{Records}
use Rattle.nx_records.specs.declared.error.StoreError.{StoreError}
use Rattle.nx_records.specs.declared.error.StoreError.TheVariants as store
use Rattle.nx_records.specs.Records.{has_ended, KeepsSaved, HasChanges}
use Rattle.nx_records.specs.Refusals.{RunsOn, EndNow, NotChanged}
use Rattle.nx_piece.specs.declared.piece.Far.{Far}
use Rattle.nx_piece.specs.declared.piece.Piece.{Piece}
use Rattle.nx_piece.specs.declared.piece.Proxy.{Proxy}
use Rattle.nx_piece.specs.Contents.{fars_in}
use Rattle.nx_piece.specs.Gapped.{Gapped, End, Grow, Gap, gapped_nodes}
use Rattle.nx_cuts.specs.Cut.{CutTree, CutForest, Bare, Grown, Kept, forest}
use Rattle.nx_tree.specs.Forest.{nodes}
use Rattle.nx_layouts.specs.Layout.{RecordPlace, Layout, Stock, IsHeldAt, AreHeld, gap_more, laid_forest, piece_body, places_of, proxies_of, proxy_of, piece_of, nodes_in, ArePlacedOnce, IsLaidOutAs, whole}
use Rattle.nx_layouts.proofs.PlaceLemmas.{no_place, one_place, first_among, later_among, AreDisjoint, between_cases, among_between, out_of_between, once-around, once-apart}
use Rattle.nx_layouts.proofs.HeldLemmas.{held_along}
use Rattle.nx_layouts.proofs.WithoutLemmas.{nodes_joined}
use Rattle.nx_hold.specs.declared.entry.DocEntry.{DocEntry}
use Rattle.nx_hold.specs.Changes.{place_of, place_named, RemovesPiece, ComesTidy}
use Rattle.nx_hold.specs.Pieces.{record_at, HoldsPiece, HoldsNone, IsTidy, PieceMap, held_by}
use Rattle.nx_hold.specs.Documents.{MovesRecords}
use Rattle.nx_hold.proofs.MapLemmas.{piece_map, held_at}
use Rattle.nx_hold.proofs.MoveLemmas.{moves_none, moves_beside, moves_add_up, moves_same, same_self, remove_moves}
use Rattle.nx_hold.proofs.RecordsLemmas.{record_there}
use Rattle.nx_hold.proofs.RefusalLemmas.{runs_then, saved_then}
use Rattle.nx_state.specs.State.{document_size}
use Rattle.nx_state.proofs.StayLemmas.{one_map}
use Rattle.nx_edit.specs.Removing.{kept_nodes, fars_of, kept_fars, IsRow, RemovesRow, OfRow, NotRemovedRow}
use Rattle.nx_edit.proofs.OrderLemmas.{fars_by_sums}
use Rattle.nx_edit.proofs.FarLemmas.{own_and_kept_fars}
use Rattle.nx_edit.proofs.HeldLemmas.{held_through}

-- a record that is still there: its place, and the members of its interval
pub record Left : Type 0 where
  pub place : RecordPlace
  pub members : Layout

abbrev pub place_left : Left → RecordPlace
place_left l = l.place

-- the places of such records and of those below them
abbrev pub left_places : List Left → List RecordPlace
left_places [] = []
left_places (l ∷ ls) = (l.place ∷ places_of l.members) ++ left_places ls

-- the pieces of all of these are there
abbrev pub AreLeft : Stock → List Left → Type 0
AreLeft stock [] = Unit {0}
AreLeft stock (l ∷ ls) = IsHeldAt stock l.place l.members × AreHeld stock l.members × AreLeft stock ls

-- the records that the proxies of a piece name
abbrev pub lefts_of : Layout → List Left
lefts_of Bare = []
lefts_of (Grown node below beside) = lefts_of below ++ lefts_of beside
lefts_of (Kept place members beside) = record { place = place; members = members } ∷ lefts_of beside

left_places-append : (a b : List Left) → left_places (a ++ b) ≡ left_places a ++ left_places b
left_places-append [] b = refl
left_places-append (l ∷ a) b = ap (λ (ps : List RecordPlace). (l.place ∷ places_of l.members) ++ ps) (left_places-append a b) ∙ sym (append_assoc (l.place ∷ places_of l.members) (left_places a) (left_places b))

places-lefts : (a : Layout) → left_places (lefts_of a) ≡ places_of a
places-lefts Bare = refl
places-lefts (Grown node below beside) = left_places-append (lefts_of below) (lefts_of beside) ∙ ap₂ (λ (p q : List RecordPlace). p ++ q) (places-lefts below) (places-lefts beside)
places-lefts (Kept place members beside) = ap (λ (ps : List RecordPlace). (place ∷ places_of members) ++ ps) (places-lefts beside)

tops-lefts : (a : Layout) → map place_left (lefts_of a) ≡ map place_named (proxies_of a)
tops-lefts Bare = refl
tops-lefts (Grown node below beside) =
    map-append place_left (lefts_of below) (lefts_of beside) ∙ ap₂ (λ (p q : List RecordPlace). p ++ q) (tops-lefts below) (tops-lefts beside) ∙ sym (map-append place_named (proxies_of below) (proxies_of beside))
tops-lefts (Kept place members beside) = ap (λ (ps : List RecordPlace). place ∷ ps) (tops-lefts beside)

left_joined : (stock : Stock) (a b : List Left) → AreLeft stock a → AreLeft stock b → AreLeft stock (a ++ b)
left_joined stock [] b h k = k
left_joined stock (l ∷ a) b h k = (h.0, h.1, left_joined stock a b h.2 k)

left_first : (stock : Stock) (a b : List Left) → AreLeft stock (a ++ b) → AreLeft stock a
left_first stock [] b h = tt
left_first stock (l ∷ a) b h = (h.0, h.1, left_first stock a b h.2)

left_last : (stock : Stock) (a b : List Left) → AreLeft stock (a ++ b) → AreLeft stock b
left_last stock [] b h = h
left_last stock (l ∷ a) b h = left_last stock a b h.2

-- how many nodes are in them and below them
abbrev pub left_nodes : List Left → ℕ
left_nodes [] = 0
left_nodes (l ∷ ls) = nodes (laid_forest l.members) + left_nodes ls

left_nodes-append : (a b : List Left) → left_nodes (a ++ b) ≡ left_nodes a + left_nodes b
left_nodes-append [] b = omega arith
left_nodes-append (l ∷ a) b = omega (arith, left_nodes-append a b)

nodes-lefts : (a : Layout) → left_nodes (lefts_of a) ≡ kept_nodes a
nodes-lefts Bare = refl
nodes-lefts (Grown node below beside) = omega (arith, left_nodes-append (lefts_of below) (lefts_of beside), nodes-lefts below, nodes-lefts beside)
nodes-lefts (Kept place members beside) = omega (arith, nodes-lefts beside)

-- the far contents of these
abbrev pub left_fars : List Left → List Far
left_fars [] = []
left_fars (l ∷ ls) = fars_of (nodes_in l.members) ++ left_fars ls

left_fars-append : (f : Far → ℕ) (a b : List Left) → sum_by f (left_fars (a ++ b)) ≡ sum_by f (left_fars a) + sum_by f (left_fars b)
left_fars-append f [] b = omega arith
left_fars-append f (l ∷ a) b =
    let own : List Far = fars_of (nodes_in l.members) in
    let all = sum_by-append f own (left_fars (a ++ b)) in
    let one = sum_by-append f own (left_fars a) in
    let rest = left_fars-append f a b in
    omega (arith, all, one, rest)

fars-lefts : (f : Far → ℕ) (a : Layout) → sum_by f (left_fars (lefts_of a)) ≡ sum_by f (kept_fars a)
fars-lefts f Bare = refl
fars-lefts f (Grown node below beside) = omega (arith, left_fars-append f (lefts_of below) (lefts_of beside), sum_by-append f (kept_fars below) (kept_fars beside), fars-lefts f below, fars-lefts f beside)
fars-lefts f (Kept place members beside) =
    let own : List Far = fars_of (nodes_in members) in
    omega (arith, sum_by-append f own (left_fars (lefts_of beside)), sum_by-append f own (kept_fars beside), fars-lefts f beside)

nodes_more : (x : Gapped) → gapped_nodes (gap_more x) ≡ gapped_nodes x
nodes_more End = refl
nodes_more (Grow n b s) = refl
nodes_more (Gap c s) = refl

-- the nodes of a row are those of its piece, and those in intervals
pub own_and_kept : (a : Layout) → gapped_nodes (piece_body a) + kept_nodes a ≡ nodes (laid_forest a)
own_and_kept Bare = refl
own_and_kept (Grown node below beside) = omega (arith, own_and_kept below, own_and_kept beside)
own_and_kept (Kept place members beside) = omega (arith, nodes_more (piece_body beside), own_and_kept beside, nodes_joined (laid_forest members) (laid_forest beside))

held-lefts : (stock : Stock) (a : Layout) → AreHeld stock a → AreLeft stock (lefts_of a)
held-lefts stock Bare h = tt
held-lefts stock (Grown node below beside) h = left_joined stock (lefts_of below) (lefts_of beside) (held-lefts stock below h.1) (held-lefts stock beside h.2)
held-lefts stock (Kept place members beside) h = (h.0, h.1, held-lefts stock beside h.2)

-- they stay where other records went
left_through : {gone : List RecordPlace} {was now : Held} → IsTidy was → MovesRecords gone [] [] [] 0 was now → (pieces : PieceMap was) (after : PieceMap now) (ls : List Left) → AreDisjoint (left_places ls) gone → AreLeft (held_by pieces) ls
    → AreLeft (held_by after) ls
left_through tidy moves pieces after [] apart h = tt
left_through {gone} {was} {now} tidy moves pieces after (l ∷ ls) apart h =
    let own : List RecordPlace = l.place ∷ places_of l.members in
    let stays : AreHeld (held_by after) (Kept l.place l.members Bare) =
    held_through {gone = gone} {come = []} {brought = []} {needs = 0} {was = was} {now = now} tidy moves pieces after (Kept l.place l.members Bare) (h.0, h.1, tt) (λ far among. absurd (no_place far among))
    (λ place one went. apart place (Contains-append_left own (left_places ls) place (subst (λ (ps : List RecordPlace). Contains (l.place ∷ ps) place) (append-nil (places_of l.members)) one)) went) in
    (stays.0, stays.1, left_through {gone = gone} {was = was} {now = now} tidy moves pieces after ls (λ place one went. apart place (Contains-append_right own (left_places ls) place one) went) h.2)

-- Some records at these places went, with so many nodes and these far contents, and the others are still there; these proxies name the ones on top of them.
pub record IsRemoving (places : List RecordPlace) (total : ℕ) (all_fars : List Far) (stack : List Proxy) (went : ℕ) (fars : List Far) (was now : Held) : Type 0 where
  pub gone : List RecordPlace
  pub lefts : List Left
  pub tops : map place_left lefts ≡ map place_named stack
  pub held : AreLeft (held_by (piece_map now)) lefts
  pub once : ArePlacedOnce (left_places lefts)
  pub apart : AreDisjoint gone (left_places lefts)
  pub all : (place : RecordPlace) → Contains places place → Contains gone place ⊎ Contains (left_places lefts) place
  pub gone_among : (place : RecordPlace) → Contains gone place → Contains places place
  pub left_among : (place : RecordPlace) → Contains (left_places lefts) place → Contains places place
  pub counted : went + left_nodes lefts ≡ total
  pub told : (f : Far → ℕ) → sum_by f fars + sum_by f (left_fars lefts) ≡ sum_by f all_fars
  pub moves : MovesRecords gone [] [] [] 0 was now

-- what one map of the pieces holds the other does
pub held_alike : (held : Held) (pieces other : PieceMap held) (a : Layout) → AreHeld (held_by pieces) a → AreHeld (held_by other) a
held_alike held pieces other a h =
    held_along (held_by pieces) (held_by other) a (record { pieces = λ place piece e. sym (one_map held pieces other place) ∙ e; lists = λ first bytes e. e; most = refl }) h

pub begun : (was : Held) (pieces : PieceMap was) (proxies : List Proxy) (limit : ℕ) (row : Layout) → IsRow was pieces proxies limit row → IsRemoving (places_of row) (kept_nodes row) (kept_fars row) proxies 0 [] was was
begun was pieces proxies limit row is = record {
  gone = [];
  lefts = lefts_of row;
  tops = tops-lefts row ∙ ap (λ (ps : List Proxy). map place_named ps) (sym is.proxies_are);
  held = held-lefts (held_by (piece_map was)) row (held_alike was pieces (piece_map was) row is.held);
  once = subst ArePlacedOnce (sym (places-lefts row)) is.once;
  apart = λ place one other. no_place place one;
  all = λ place among. inr (subst (λ (ps : List RecordPlace). Contains ps place) (sym (places-lefts row)) among);
  gone_among = λ place among. absurd (no_place place among);
  left_among = λ place among. subst (λ (ps : List RecordPlace). Contains ps place) (places-lefts row) among;
  counted = omega (arith, nodes-lefts row);
  told = λ f. let same = fars-lefts f row in omega (arith, same);
  moves = moves_none was;
}

-- One record more went:

-- beside those that went before it
moves_then : (gone : List RecordPlace) (place : RecordPlace) (piece : Piece) (was now next : Held) → MovesRecords gone [] [] [] 0 was now → RemovesPiece place now next → (Contains gone place → ⊥) → HoldsPiece now place piece
    → MovesRecords (place ∷ gone) [] [] [] 0 was next
moves_then gone place piece was now next moves removes apart holds =
    let same : record_at now place ≡ record_at was place = moves.kept place apart (no_place place) in
    let there : IsSome (record_at was place) = subst IsSome same (record_there now place piece holds) in
    let beside : MovesRecords (place ∷ gone) (place ∷ []) [] [] 0 was now =
    moves_beside (place ∷ []) gone [] [] [] 0 was now (λ other among. subst (λ (p : RecordPlace). IsSome (record_at was p)) (sym (one_place place other among)) there)
    (λ other went among. apart (subst (λ (p : RecordPlace). Contains gone p) (one_place place other among) went)) moves in
    moves_add_up (place ∷ gone) (place ∷ []) [] [] [] [] [] 0 0 was now next beside (remove_moves place now next removes)

abbrev head_of : {A : Type 0} → A → List A → A
head_of d [] = d
head_of d (x ∷ xs) = x

abbrev tail_of : {A : Type 0} → List A → List A
tail_of [] = []
tail_of (x ∷ xs) = xs

-- the last of these
split_last : (ls : List Left) (xs : List RecordPlace) (y : RecordPlace) → map place_left ls ≡ xs ++ (y ∷ []) → (before : List Left) × (l : Left) × (ls ≡ before ++ (l ∷ [])) × (map place_left before ≡ xs) × (l.place ≡ y)
split_last [] [] y e = absurd (cc)
split_last [] (x ∷ xs) y e = absurd (cc)
split_last (l ∷ []) [] y e = ([], l, refl, refl, ap (head_of y) e)
split_last (l ∷ m ∷ ls) [] y e = let none : m.place ∷ map place_left ls ≡ [] = ap tail_of e in absurd (cc)
split_last (l ∷ ls) (x ∷ xs) y e =
    let rest = split_last ls xs y (ap tail_of e) in
    (l ∷ rest.0, rest.1, ap (λ (m : List Left). l ∷ m) rest.2, ap₂ (λ (p : RecordPlace) (ps : List RecordPlace). p ∷ ps) (ap (head_of l.place) e) rest.3, rest.4)

-- what is on top
pub record IsNext (places : List RecordPlace) (total : ℕ) (all_fars : List Far) (stack : List Proxy) (proxy : Proxy) (went : ℕ) (fars : List Far) (was now : Held) : Type 0 where
  pub members : Layout
  pub holds : HoldsPiece now (place_named proxy) (piece_of members)
  pub room : went + gapped_nodes (piece_body members) ≤ total
  pub then : (next : Held) → RemovesPiece (place_named proxy) now next → IsRemoving places total all_fars (stack ++ proxies_of members) (went + gapped_nodes (piece_body members)) (fars ++ fars_in (piece_body members)) was next

pub next_one : (places : List RecordPlace) (total : ℕ) (all_fars : List Far) (stack : List Proxy) (proxy : Proxy) (went : ℕ) (fars : List Far) (was now : Held) → IsTidy now → IsRemoving places total all_fars (stack ++ (proxy ∷ [])) went fars was now
    → IsNext places total all_fars stack proxy went fars was now
next_one places total all_fars stack proxy went fars was now tidy r =
    let split = split_last r.lefts (map place_named stack) (place_named proxy) (r.tops ∙ map-append place_named stack (proxy ∷ [])) in
    let before : List Left = split.0 in
    let l : Left = split.1 in
    let a : List RecordPlace = left_places before in
    let b : List RecordPlace = places_of l.members in
    let place : l.place ≡ place_named proxy = split.4 in
    let lefts_are : left_places r.lefts ≡ a ++ (l.place ∷ b) =
    ap left_places split.2 ∙ left_places-append before (l ∷ []) ∙ ap (λ (ps : List RecordPlace). a ++ (l.place ∷ ps)) (append-nil b) in
    let once : ArePlacedOnce (a ++ (l.place ∷ b)) = subst ArePlacedOnce lefts_are r.once in
    let held : AreLeft (held_by (piece_map now)) (before ++ (l ∷ [])) = subst (AreLeft (held_by (piece_map now))) split.2 r.held in
    let top = left_last (held_by (piece_map now)) before (l ∷ []) held in
    let holds : HoldsPiece now l.place (piece_of l.members) = held_at now (piece_map now) l.place (piece_of l.members) (top.0).there in
    let new_are : left_places (before ++ lefts_of l.members) ≡ a ++ b = left_places-append before (lefts_of l.members) ∙ ap (λ (ps : List RecordPlace). a ++ ps) (places-lefts l.members) in
    let gone_apart : Contains r.gone l.place → ⊥ =
    λ gone. r.apart l.place gone (subst (λ (ps : List RecordPlace). Contains ps l.place) (sym lefts_are) (among_between a (l.place ∷ []) b l.place (first_among l.place []))) in
    let apart : AreDisjoint (l.place ∷ []) (a ++ b) = once-apart a (l.place ∷ []) b once in
    let c : went + left_nodes r.lefts ≡ total = r.counted in
    let were : left_nodes r.lefts ≡ left_nodes before + (nodes (laid_forest l.members) + 0) = ap left_nodes split.2 ∙ left_nodes-append before (l ∷ []) in
    let own = own_and_kept l.members in
    record {
      members = l.members;
      room = omega (arith, c, were, own);
      holds = subst (λ (p : RecordPlace). HoldsPiece now p (piece_of l.members)) place holds;
      then = λ next removes.
          let removes_top : RemovesPiece l.place now next = subst (λ (p : RecordPlace). RemovesPiece p now next) (sym place) removes in
          let lefts_held : AreLeft (held_by (piece_map now)) (before ++ lefts_of l.members) =
          left_joined (held_by (piece_map now)) before (lefts_of l.members) (left_first (held_by (piece_map now)) before (l ∷ []) held) (held-lefts (held_by (piece_map now)) l.members top.1) in
          record {
            gone = l.place ∷ r.gone;
            lefts = before ++ lefts_of l.members;
            tops = map-append place_left before (lefts_of l.members) ∙ ap₂ (λ (p q : List RecordPlace). p ++ q) split.3 (tops-lefts l.members) ∙ sym (map-append place_named stack (proxies_of l.members));
            held = left_through {gone = l.place ∷ []} {was = now} {now = next} tidy (remove_moves l.place now next removes_top) (piece_map now) (piece_map next) (before ++ lefts_of l.members)
                (λ q among one. apart q one (subst (λ (ps : List RecordPlace). Contains ps q) new_are among)) lefts_held;
            once = subst ArePlacedOnce (sym new_are) (once-around a (l.place ∷ []) b once);
            apart = λ q one other.
                let among : Contains (a ++ b) q = subst (λ (ps : List RecordPlace). Contains ps q) new_are other in
                elim (Contains-append_cases (l.place ∷ []) r.gone q one) [
                  | inl here ↦ apart q here among
                  | inr later ↦ r.apart q later (subst (λ (ps : List RecordPlace). Contains ps q) (sym lefts_are) (between_cases a (l.place ∷ []) b q among))
                ];
            all = λ q among. elim (r.all q among) [
              | inl gone ↦ inl (later_among l.place r.gone q gone)
              | inr left ↦ elim (out_of_between a (l.place ∷ []) b q (subst (λ (ps : List RecordPlace). Contains ps q) lefts_are left)) [
                | inl here ↦ inl (Contains-append_left (l.place ∷ []) r.gone q here)
                | inr still ↦ inr (subst (λ (ps : List RecordPlace). Contains ps q) (sym new_are) still)
              ]
            ];
            gone_among = λ q among. elim (Contains-append_cases (l.place ∷ []) r.gone q among) [
              | inl here ↦ r.left_among q (subst (λ (ps : List RecordPlace). Contains ps q) (sym lefts_are) (among_between a (l.place ∷ []) b q here))
              | inr later ↦ r.gone_among q later
            ];
            left_among = λ q among. r.left_among q (subst (λ (ps : List RecordPlace). Contains ps q) (sym lefts_are) (between_cases a (l.place ∷ []) b q (subst (λ (ps : List RecordPlace). Contains ps q) new_are among)));
            counted =
                let are = left_nodes-append before (lefts_of l.members) in
                let below = nodes-lefts l.members in
                omega (arith, c, were, own, are, below);
            told = λ f.
                let were = ap (λ (ls : List Left). sum_by f (left_fars ls)) split.2 in
                let apart = left_fars-append f before (l ∷ []) in
                let alone = sum_by-append f (fars_of (nodes_in l.members)) [] in
                let are = left_fars-append f before (lefts_of l.members) in
                let below = fars-lefts f l.members in
                let all = own_and_kept_fars f l.members in
                let more = sum_by-append f fars (fars_in (piece_body l.members)) in
                let told = r.told f in
                omega (arith, were, apart, alone, are, below, all, more, told);
            moves = moves_then r.gone l.place (piece_of l.members) was now next r.moves removes_top gone_apart holds;
          };
    }

-- All went:

none_left : (ls : List Left) → map place_left ls ≡ [] → ls ≡ []
none_left [] e = refl
none_left (l ∷ ls) e = absurd (cc)

pub all_gone : (places : List RecordPlace) (total : ℕ) (all_fars : List Far) (went : ℕ) (fars : List Far) (was now : Held) → IsRemoving places total all_fars [] went fars was now
    → MovesRecords places [] [] [] 0 was now × (went ≡ total) × IsPermutation fars all_fars
all_gone places total all_fars went fars was now r =
    let none = none_left r.lefts r.tops in
    let goes : (place : RecordPlace) → Contains places place → Contains r.gone place =
    λ place among. elim (r.all place among) [ inl gone ↦ gone | inr left ↦ absurd (no_place place (subst (λ (ls : List Left). Contains (left_places ls) place) none left)) ] in
    let c : went + left_nodes r.lefts ≡ total = r.counted in
    let nothing : left_nodes r.lefts ≡ 0 = ap left_nodes none in (
      moves_same r.gone places [] [] [] [] [] [] 0 0 was now (λ place. (r.gone_among place, goes place)) (same_self []) (same_self []) (same_self []) (omega arith) r.moves,
      omega (arith, c, nothing),
      fars_by_sums fars all_fars (λ f. let told = r.told f in let without = ap (λ (ls : List Left). sum_by f (left_fars ls)) none in omega (arith, told, without)),
    )

-- of each such row so much went
abbrev pub RemovesSome : List Proxy → (limit : ℕ) → List Proxy → ℕ → List Far → Held → Held → Type 0
RemovesSome proxies limit stack went fars was now =
    (pieces : PieceMap was) (row : Layout) → IsRow was pieces proxies limit row → IsRemoving (places_of row) (kept_nodes row) (kept_fars row) stack went fars was now

-- How far the loop has come; these far contents were dropped before it, and are with those that it adds.
pub record IsGoing {D : Type 0} (d : Ghosts D) (proxies : List Proxy) (limit : ℕ) (stack : List Proxy) (went : ℕ) (had has : List Far) (old new : Records) (before after : D) : Type 0 where
  pub runs : RunsOn old new
  pub keeps : KeepsSaved d old new before after
  pub still : IsStill d before after
  pub fars : List Far
  pub pushed : has ≡ had ++ fars
  pub comes : ComesTidy d old new before after (RemovesSome proxies limit stack went fars)
  pub few : went ≤ limit
  pub fresh : went ≡ 0 → stack ≡ proxies
  pub changed : 0 < went → HasChanges new

pub later_rose : (n m k : ℕ) → n ≤ m → Rose m k → Rose n k
later_rose n m k later rose = omega (arith, rose, later)

pub ends_behind : {r0 r1 r2 : Records} → RunsOn r0 r1 → EndNow r1 r2 → EndNow r0 r2
ends_behind one two = record {
  before = one.before;
  after = two.after;
  length_stays = two.length_stays ∙ one.length_stays;
  settings_stay = two.settings_stay ∙ one.settings_stay;
}

module _ {D : Type 0} {d : Ghosts D} {proxies : List Proxy} {limit : ℕ} {had : List Far} {r0 : Records} {x0 : D} where
  pub going_first : has_ended r0 ≡ false → IsGoing d proxies limit proxies 0 had had r0 r0 x0 x0
  going_first runs = record {
    runs = record { before = runs; after = runs; length_stays = refl; settings_stay = refl };
    keeps = λ saved has. has;
    still = none_still;
    fars = [];
    pushed = sym (append-nil had);
    comes = λ saved now stands tidy. (now, stands, tidy, λ pieces row is. begun now pieces proxies limit row is);
    few = omega arith;
    fresh = λ none. refl;
    changed = λ some. absurd (omega (arith, some));
  }

module _ {D : Type 0} {d : Ghosts D} {proxies : List Proxy} {limit : ℕ} {had has : List Far} {r0 r1 : Records} {x0 x1 : D} (stack : List Proxy) (proxy : Proxy) (went : ℕ) (g : IsGoing d proxies limit (stack ++ (proxy ∷ [])) went had has r0 r1 x0 x1)
    (r2 : Records) (x2 : D) where
  module _ (after : List Proxy) (own : ℕ) (more : List Far) (runs : RunsOn r1 r2) (keeps : KeepsSaved d r1 r2 x1 x2)
      (removes : ComesTidy d r1 r2 x1 x2 (λ was now. RemovesPiece (place_named proxy) was now
      × ((members : Layout) → HoldsPiece was (place_named proxy) (piece_of members) → (after ≡ stack ++ proxies_of members) × (own ≡ gapped_nodes (piece_body members)) × (more ≡ fars_in (piece_body members))))) where
    pub going_then : (now_has : List Far) → now_has ≡ has ++ more → HasChanges r2 → IsStill d x1 x2 → 1 ≤ own → own ≤ limit - went → IsGoing d proxies limit after (went + own) had now_has r0 r2 x0 x2
    going_then now_has adds changed still some most = record {
      runs = runs_then {r0 = r0} {r1 = r1} {r2 = r2} g.runs runs;
      keeps = saved_then {d = d} {r0 = r0} {r1 = r1} {r2 = r2} {x0 = x0} {x1 = x1} {x2 = x2} g.keeps keeps;
      still = still_then g.still still;
      fars = g.fars ++ more;
      pushed = adds ∙ ap (λ (l : List Far). l ++ more) g.pushed ∙ append_assoc had g.fars more;
      comes = λ saved was stands tidy.
          let mid = g.comes saved was stands tidy in
          let now = removes saved mid.0 mid.1 mid.2 in (
            now.0,
            now.1,
            now.2,
            λ pieces row is.
                let one = next_one (places_of row) (kept_nodes row) (kept_fars row) stack proxy went g.fars was mid.0 mid.2 (mid.3 pieces row is) in
                let told = (now.3).1 one.members one.holds in
                subst (λ (ps : List Proxy). IsRemoving (places_of row) (kept_nodes row) (kept_fars row) ps (went + own) (g.fars ++ more) was now.0) (sym told.0)
                (subst (λ (n : ℕ). IsRemoving (places_of row) (kept_nodes row) (kept_fars row) (stack ++ proxies_of one.members) (went + n) (g.fars ++ more) was now.0) (sym told.1)
                (subst (λ (l : List Far). IsRemoving (places_of row) (kept_nodes row) (kept_fars row) (stack ++ proxies_of one.members) (went + gapped_nodes (piece_body one.members)) (g.fars ++ l) was now.0) (sym told.2)
                (one.then now.0 (now.3).0))),
          );
      few = let f : went ≤ limit = g.few in omega (arith, most, f);
      fresh = λ none. absurd (omega (arith, none, some));
      changed = λ more. changed;
    }

    -- more nodes went than there may be
    pub going_many : {r3 : Records} → limit - went < own → EndNow r2 r3 → EndNow r0 r3 × OfRow d r0 x0 proxies limit (λ now row. ⊥)
    going_many {r3} more ends = (
      ends_behind {r0 = r0} {r1 = r2} {r2 = r3} (runs_then {r0 = r0} {r1 = r1} {r2 = r2} g.runs runs) ends,
      λ saved was pieces row stands tidy is.
          let mid = g.comes saved was stands tidy in
          let now = removes saved mid.0 mid.1 mid.2 in
          let one = next_one (places_of row) (kept_nodes row) (kept_fars row) stack proxy went g.fars was mid.0 mid.2 (mid.3 pieces row is) in
          let told = ((now.3).1 one.members one.holds).1 in
          let room = one.room in
          let few = is.few in
          let f : went ≤ limit = g.few in
          absurd (omega (arith, more, told, room, few, f)),
    )

  -- why the next record wasn't taken away
  pub going_refused : (e : StoreError) → NotChanged d (λ was. HoldsNone was (place_named proxy)) proxy.page e r1 r2 x1 x2 → NotRemovedRow d proxies limit e r0 r2 x0 x2
  going_refused store.Disk refused = (later_rose (d.faults x0) (d.faults x1) (d.faults x2) (g.still).faults_later refused.0, ends_behind {r0 = r0} {r1 = r1} {r2 = r2} g.runs refused.1)
  going_refused (store.Damaged page) refused = (
    ends_behind {r0 = r0} {r1 = r1} {r2 = r2} g.runs refused.ends,
    λ saved was pieces row stands tidy is.
        let mid = g.comes saved was stands tidy in
        let one = next_one (places_of row) (kept_nodes row) (kept_fars row) stack proxy went g.fars was mid.0 mid.2 (mid.3 pieces row is) in
        refused.lacks saved mid.0 mid.1 (piece_of one.members) one.holds,
  )
  going_refused store.Ended refused = absurd (false≢true (sym (g.runs).after ∙ refused.0))
  going_refused store.Memory refused = (
    runs_then {r0 = r0} {r1 = r1} {r2 = r2} g.runs refused.0,
    saved_then {d = d} {r0 = r0} {r1 = r1} {r2 = r2} {x0 = x0} {x1 = x1} {x2 = x2} g.keeps refused.1,
  )
  going_refused store.Exists refused = absurd refused
  going_refused store.NotAStore refused = absurd refused
  going_refused store.Full refused = absurd refused

module _ {D : Type 0} {d : Ghosts D} {proxies : List Proxy} {limit : ℕ} {had has : List Far} {r0 r1 : Records} {x0 x1 : D} (stack : List Proxy) (went : ℕ) (none : stack ≡ []) (g : IsGoing d proxies limit stack went had has r0 r1 x0 x1) where
  -- nothing is left
  pub going_done : (fars : List Far) × (has ≡ had ++ fars) × ComesTidy d r0 r1 x0 x1 (RemovesRow proxies limit went fars)
  going_done = (
    g.fars,
    g.pushed,
    λ saved was stands tidy.
        let now = g.comes saved was stands tidy in (
          now.0,
          now.1,
          now.2,
          λ pieces row is.
              all_gone (places_of row) (kept_nodes row) (kept_fars row) went g.fars was now.0
              (subst (λ (ps : List Proxy). IsRemoving (places_of row) (kept_nodes row) (kept_fars row) ps went g.fars was now.0) none (now.3 pieces row is)),
        ),
  )

  pub going_changed : (length proxies ≡ 0 → ⊥) → HasChanges r1
  going_changed some = elim (eqb_tells went 0) [
    | inl zero ↦ absurd (some (ap (λ (ps : List Proxy). length ps) (sym (g.fresh zero.1) ∙ none)))
    | inr more ↦ g.changed (let not = more.1 in omega (arith, not))
  ]

-- A document, as the row of its root:

module _ (was : Held) (pieces : PieceMap was) (entry : DocEntry) (document : CutTree) (layout : Layout) (proxy : Proxy) (is : proxy ≡ proxy_of (place_of entry.root) 1)
    (laid : IsLaidOutAs (held_by pieces) (place_of entry.root) document layout) (counted : entry.nodes ≡ document_size document) where
  pub document_row : IsRow was pieces (proxy ∷ []) entry.nodes (whole (place_of entry.root) document.node layout)
  document_row = record {
    proxies_are = ap (λ (p : Proxy). p ∷ []) is;
    held = laid.held;
    once = laid.once;
    few = let same = ap (λ (c : CutForest). nodes (forest c)) laid.same in omega (arith, counted, same);
  }

pub tested_none : (n : ℕ) → (n == 0) ≡ true → n ≡ 0
tested_none n e = elim (eqb_tells n 0) [ inl s ↦ s.1 | inr a ↦ absurd (false≢true (sym a.0 ∙ e)) ]

pub tested_some : (n : ℕ) → (n == 0) ≡ false → n ≡ 0 → ⊥
tested_some n e zero = elim (eqb_tells n 0) [ inl s ↦ false≢true (sym e ∙ s.0) | inr a ↦ a.1 zero ]
