-- A document that records hold is one that a walk comes through whole.
use Rattle.std.proofs.Common.{◌≡◌, ◌⊎◌, ℕ, ◌+◌, ◌*◌, ◌<◌, ◌≤◌, Bool, true, false, List, [], ◌∷◌, ◌++◌, length, map, refl, sym, ap, ◌∙◌, subst, arith, inl, inr}
use Rattle.std.specs.Prelude.{◌==◌, if◌then◌else◌, Option, Some, None, IsSome, Contains}
use Rattle.std.specs.Option.{option_to_list}
use Rattle.std.proofs.lemmas.Bool.{false≢true, eq-eqb, cases_lt}
use Rattle.std.proofs.lemmas.List.Elements.{Contains-append_left, Contains-append_right, Contains-append_cases}
use Rattle.nx_tree.specs.declared.node.Node.{Node}
use Rattle.nx_replay.specs.Log.{Pages}
use Rattle.nx_holdings.specs.declared.header.Header.{Header}
use Rattle.nx_holdings.specs.Holdings.{times, record_in, Link, content_of, pages_of_links, Chain, pages_of_chains, list_at, named, HoldsBy, Held}
use Rattle.nx_holdings.proofs.SharedLemmas.{named_parts}
use Rattle.nx_holdings.proofs.HeldLemmas.{named_other, other_record}
use Rattle.nx_holdings.proofs.TimesLemmas.{times_one, times-append, first_or}
use Rattle.nx_piece.specs.declared.piece.Far.{Far}
use Rattle.nx_piece.specs.declared.piece.Piece.{Piece}
use Rattle.nx_piece.specs.declared.piece.Proxy.{Proxy}
use Rattle.nx_piece.specs.declared.piece.Stored.{Stored}
use Rattle.nx_piece.specs.declared.piece.Stored.TheVariants.{Inline, Chained}
use Rattle.nx_piece.specs.Contents.{fars_in}
use Rattle.nx_piece.specs.Encoding.{encoding, proxies_bytes}
use Rattle.nx_piece.specs.Gapped.{Gapped, gapped_size}
use Rattle.nx_piece.specs.Valid.{HaveRoots}
use Rattle.nx_piece.proofs.BodyLemmas.{proxies_length}
use Rattle.nx_cuts.specs.Cut.{Bare, Grown, Kept}
use Rattle.nx_layouts.specs.Layout.{RecordPlace, LaidNode, Layout, Stock, shown_with, in_record, piece_body, proxies_of, piece_of, places_of, ArePlacedOnce, AreHeld}
use Rattle.nx_layouts.proofs.FillLemmas.{fars-gap_more}
use Rattle.nx_layouts.proofs.PlaceLemmas.{no_place, one_place, first_among, later_among, once-left, once-right, once-disjoint}
use Rattle.nx_hold.specs.Pieces.{record_at, roots_stored, IsStored, HoldsPiece, NamesList, NamesContent, IsNoProxies, HasContent, IsTidy, PieceMap, held_by}
use Rattle.nx_hold.proofs.PieceLemmas.{one_at, chain_same, no_both}
use Rattle.nx_hold.proofs.MapLemmas.{held_at}
use Rattle.nx_rules.specs.Listed.{AreUsedOnce, IsListOf}
use Rattle.nx_rules.specs.Walked.{Reached, Walked, layout_of, marks_of, links_behind, links_in, walked_proxies, content_in, contents_apart, IsRecordAt, IsStoredAt, lists_named, StandOn, HaveRootNumbers, SaysPiece, HoldsRecord, AreRead, AreAllLight}
use Rattle.nx_rules.proofs.MeetLemmas.{NoneWait}
use Rattle.nx_rules.proofs.AheadLemmas.{none_both}
use Rattle.nx_rules.proofs.SoundLemmas.{pair_small}
use Rattle.nx_rules.proofs.LaidLemmas.{layout_proxies, two_more}
use Rattle.nx_rules.proofs.DeepLemmas.{firsts_of, deeper}
use Rattle.nx_rules.proofs.TidyLemmas.{there_of, is_some_of, no_record}
use Rattle.nx_rules.proofs.LinksLemmas.{AreLow, list_of_chain, links_at, one_links, two_links, list_is_at}

root_numbers : (ps : List Proxy) → HaveRoots ps → HaveRootNumbers ps
root_numbers [] h = tt
root_numbers (p ∷ ps) h = (let few : p.roots ≤ 256 = h.1 in omega (arith, few), root_numbers ps h.2)

module _ {pages : Pages} {head : Header} {held : Held} (by : HoldsBy pages head held) where
  abbrev pub cs : List Chain
  cs = by.behind.shares.chains

  parts : (p : ℕ) → times p (0 ∷ []) + (times p by.behind.shares.free + (times p (pages_of_chains cs) + 0)) ≤ 1
  parts p = subst (λ (n : ℕ). n ≤ 1) (named_parts p by.behind.shares []) (by.behind.shared.once p)

  pub cs_once : AreUsedOnce (pages_of_chains cs)
  cs_once p = let all = parts p in omega (arith, all)

  pub cs_below : (p : ℕ) → 1 ≤ times p (pages_of_chains cs) → p < head.pages
  cs_below p some = by.behind.shared.below p (let e = named_parts p by.behind.shares [] in omega (arith, e, some))

  pub cs_low : AreLow (pages_of_chains cs)
  cs_low p some =
      let below : p < head.pages = cs_below p some in
      let most : head.pages ≤ head.settings.limit = by.range.pages.1 in
      let limit : head.settings.limit ≤ 16777216 = by.range.settings.limit.1 in
      let all = parts p in
      let apart : p ≡ 0 → ⊥ = λ e. (let one : times p (0 ∷ []) ≡ 1 = subst (λ (q : ℕ). times q (0 ∷ []) ≡ 1) (sym e) (times_one 0 []) in omega (arith, one, all, some)) in
      (omega (arith, apart), omega (arith, below, most, limit))

  known_by : (page : ℕ) (bytes : List ℕ) (b : Bool) → (page == head.catalog) ≡ b → (if b then None else list_at cs page) ≡ Some bytes → (page ≡ head.catalog → ⊥) × (list_at cs page ≡ Some bytes)
  known_by page bytes true test e = absurd (cc)
  known_by page bytes false test e = (λ same. false≢true (sym test ∙ eq-eqb page head.catalog same), e)

  pub list_known : (page : ℕ) (bytes : List ℕ) → held.lists page ≡ Some bytes → (page ≡ head.catalog → ⊥) × (list_at cs page ≡ Some bytes)
  list_known page bytes e = known_by page bytes (page == head.catalog) refl (sym (by.behind.lists page) ∙ e)

  -- a list that chains hold is one that a walk reads
  pub at_list : (page : ℕ) (bytes : List ℕ) → list_at cs page ≡ Some bytes → IsListOf pages [] page (length bytes) (links_at cs page) × (content_of (links_at cs page) ≡ bytes)
  at_list page bytes e =
      let at = list_is_at pages cs page bytes by.behind.shared.chains e in
      let within : (p : ℕ) → times p (pages_of_links (at.first ∷ at.rest)) ≤ times p (pages_of_chains cs) = λ p. subst (λ (l : List Link). times p (pages_of_links l) ≤ times p (pages_of_chains cs)) at.are (one_links cs page p) in
      let low : AreLow (pages_of_links (at.first ∷ at.rest)) = λ p some. cs_low p (let few = within p in omega (arith, few, some)) in
      let once : AreUsedOnce (pages_of_links (at.first ∷ at.rest)) = λ p. (let few = within p in let all = cs_once p in omega (arith, few, all)) in
      let list = list_of_chain pages at.first at.rest (length bytes) at.linked low once (ap length at.content) in
      (subst (λ (l : List Link). IsListOf pages [] page (length bytes) l) (sym at.are) (subst (λ (p : ℕ). IsListOf pages [] p (length bytes) (at.first ∷ at.rest)) at.here list), ap content_of at.are ∙ at.content)

  -- a record that is held stands on a slotted page
  pub found_of : (place : RecordPlace) (bytes : List ℕ) → record_at held place ≡ Some bytes → IsRecordAt pages place bytes
  found_of place bytes e =
      let there : record_in (pages place.page) place.slot ≡ Some bytes = sym (by.behind.records place.page place.slot) ∙ e in
      let some : IsSome (record_in (pages place.page) place.slot) = is_some_of (record_in (pages place.page) place.slot) there in
      let page = there_of (pages place.page) place.slot some in
      let low : place.page < head.pages = elim (cases_lt place.page head.pages) [ inl low ↦ low | inr high ↦ absurd (no_record (pages place.page) (is_some_of (pages place.page) page.1) (by.behind.shared.none_past place.page high)) ] in
      let unnamed : times place.page (named by.behind.shares []) ≡ 0 =
      elim (cases_lt 0 (times place.page (named by.behind.shares []))) [
        | inl among ↦ absurd (elim (named_other head by.here by.behind.shared place.page among) [
          | inl none ↦ absurd (omega (arith, none))
          | inr other ↦ no_record (record_in (pages place.page) place.slot) some (other_record pages place.page place.slot other)
        ])
        | inr none ↦ omega (arith, none)
      ] in
      let used = by.behind.shared.slotted place.page low unnamed in
      record { page = used.bytes; slotted = record { there = used.there; slotted = used.slotted }; there = ap (λ (o : Option (List ℕ)). record_in o place.slot) (sym used.there) ∙ there }

  stored_place : (place : RecordPlace) (stored : Stored) → IsStored held place stored → IsStoredAt pages place stored
  stored_place place stored h = record { found = found_of place (encoding stored) h.bytes; valid = h.valid; numbers = h.numbers }

  -- a page is one of a list that a record at one of these places names for its proxies
  pub record UsesList (places : List RecordPlace) (p : ℕ) : Type 0 where
    pub place : RecordPlace
    pub count : ℕ
    pub chain : ℕ
    pub among : Contains places place
    pub names : NamesList held place count chain
    pub here : 1 ≤ times p (pages_of_links (links_at cs chain))

  -- ... or one of a list that begins at one of these pages
  pub record UsesContent (contents : List ℕ) (p : ℕ) : Type 0 where
    pub first : ℕ
    pub among : 1 ≤ times first contents
    pub here : 1 ≤ times p (pages_of_links (links_at cs first))

  -- a list begins at the page that holds no record's proxies
  abbrev pub IsContentAt : ℕ → Type 0
  IsContentAt first = IsNoProxies held first × ((bytes : List ℕ) × (held.lists first ≡ Some bytes))

  -- these are the chain pages of the lists that records at these places name for their proxies, and of those that begin at these pages
  pub record Part (places : List RecordPlace) (contents : List ℕ) (links : List Link) : Type 0 where
    pub few : AreUsedOnce (pages_of_links links)
    pub uses : (p : ℕ) → 1 ≤ times p (pages_of_links links) → UsesList places p ⊎ UsesContent contents p
    pub covers : (place : RecordPlace) (count chain : ℕ) → Contains places place → NamesList held place count chain → (p : ℕ) → times p (pages_of_links (links_at cs chain)) ≤ times p (pages_of_links links)
    pub holds : (first : ℕ) → 1 ≤ times first contents → (p : ℕ) → times p (pages_of_links (links_at cs first)) ≤ times p (pages_of_links links)
    pub named : (first : ℕ) → 1 ≤ times first contents → IsContentAt first

  either_times : (x : ℕ) (fs bs : List ℕ) → 1 ≤ times x (fs ++ bs) → (1 ≤ times x fs) ⊎ (1 ≤ times x bs)
  either_times x fs bs some =
      let e = times-append x fs bs in
      elim (cases_lt 0 (times x fs)) [ inl a ↦ inl a | inr none ↦ inr (omega (arith, e, none, some)) ]

  left_times : (x : ℕ) (fs bs : List ℕ) → 1 ≤ times x fs → 1 ≤ times x (fs ++ bs)
  left_times x fs bs some = let e = times-append x fs bs in omega (arith, e, some)

  right_times : (x : ℕ) (fs bs : List ℕ) → 1 ≤ times x bs → 1 ≤ times x (fs ++ bs)
  right_times x fs bs some = let e = times-append x fs bs in omega (arith, e, some)

  module _ (tidy : IsTidy held) where
    apart_pages : (first other p : ℕ) → 1 ≤ times p (pages_of_links (links_at cs first)) → 1 ≤ times p (pages_of_links (links_at cs other)) → (first ≡ other → ⊥) → ⊥
    apart_pages first other p x y apart =
        let sum = two_links cs first other p apart in
        let all = cs_once p in
        omega (arith, sum, all, x, y)

    two_uses : (xs ys : List RecordPlace) (fs bs : List ℕ) (p : ℕ) → ArePlacedOnce (xs ++ ys) → AreUsedOnce (fs ++ bs) → ((first : ℕ) → 1 ≤ times first fs → IsContentAt first) → ((first : ℕ) → 1 ≤ times first bs → IsContentAt first)
        → UsesList xs p ⊎ UsesContent fs p → UsesList ys p ⊎ UsesContent bs p → ⊥
    two_uses xs ys fs bs p once few is too (inl a) (inl b) =
        apart_pages a.chain b.chain p a.here b.here (λ e.
        once-disjoint xs ys once a.place a.among (subst (λ (x : RecordPlace). Contains ys x)
        (sym (tidy.once a.place b.place a.count b.count b.chain (subst (λ (c : ℕ). NamesList held a.place a.count c) e a.names) b.names)) b.among))
    two_uses xs ys fs bs p once few is too (inl a) (inr b) =
        apart_pages a.chain b.first p a.here b.here (λ e. (too b.first b.among).0 a.place a.count (subst (λ (c : ℕ). NamesList held a.place a.count c) e a.names))
    two_uses xs ys fs bs p once few is too (inr a) (inl b) =
        apart_pages a.first b.chain p a.here b.here (λ e. (is a.first a.among).0 b.place b.count (subst (λ (c : ℕ). NamesList held b.place b.count c) (sym e) b.names))
    two_uses xs ys fs bs p once few is too (inr a) (inr b) =
        apart_pages a.first b.first p a.here b.here (λ e.
        let there : 1 ≤ times a.first bs = subst (λ (f : ℕ). 1 ≤ times f bs) (sym e) b.among in
        let here : 1 ≤ times a.first fs = a.among in
        let both = times-append a.first fs bs in
        let all = few a.first in
        omega (arith, there, here, both, all))

    left_uses : (xs ys : List RecordPlace) (fs bs : List ℕ) (p : ℕ) → UsesList xs p ⊎ UsesContent fs p → UsesList (xs ++ ys) p ⊎ UsesContent (fs ++ bs) p
    left_uses xs ys fs bs p (inl u) = inl (record { place = u.place; count = u.count; chain = u.chain; among = Contains-append_left xs ys u.place u.among; names = u.names; here = u.here })
    left_uses xs ys fs bs p (inr u) = inr (record { first = u.first; among = left_times u.first fs bs u.among; here = u.here })

    right_uses : (xs ys : List RecordPlace) (fs bs : List ℕ) (p : ℕ) → UsesList ys p ⊎ UsesContent bs p → UsesList (xs ++ ys) p ⊎ UsesContent (fs ++ bs) p
    right_uses xs ys fs bs p (inl u) = inl (record { place = u.place; count = u.count; chain = u.chain; among = Contains-append_right xs ys u.place u.among; names = u.names; here = u.here })
    right_uses xs ys fs bs p (inr u) = inr (record { first = u.first; among = right_times u.first fs bs u.among; here = u.here })

    pub merge : (xs ys : List RecordPlace) (fs bs : List ℕ) (ls ms : List Link) → ArePlacedOnce (xs ++ ys) → AreUsedOnce (fs ++ bs) → Part xs fs ls → Part ys bs ms → Part (xs ++ ys) (fs ++ bs) (ls ++ ms)
    merge xs ys fs bs ls ms once few a b = record {
      few = λ p. subst (λ (n : ℕ). n ≤ 1) (sym (two_more p ls ms)) (pair_small (times p (pages_of_links ls)) (times p (pages_of_links ms)) (a.few p) (b.few p) (λ x y. two_uses xs ys fs bs p once few a.named b.named (a.uses p x) (b.uses p y)));
      uses = λ p some. elim (cases_lt 0 (times p (pages_of_links ls))) [
        | inl x ↦ left_uses xs ys fs bs p (a.uses p x)
        | inr none ↦ right_uses xs ys fs bs p (b.uses p (let e = two_more p ls ms in omega (arith, e, none, some)))
      ];
      covers = λ place count chain among names p.
          let e = two_more p ls ms in
          elim (Contains-append_cases xs ys place among) [
            | inl x ↦ (let c = a.covers place count chain x names p in omega (arith, e, c))
            | inr x ↦ (let c = b.covers place count chain x names p in omega (arith, e, c))
          ];
      holds = λ first among p.
          let e = two_more p ls ms in
          elim (either_times first fs bs among) [
            | inl x ↦ (let c = a.holds first x p in omega (arith, e, c))
            | inr x ↦ (let c = b.holds first x p in omega (arith, e, c))
          ];
      named = λ first among. elim (either_times first fs bs among) [ inl x ↦ a.named first x | inr x ↦ b.named first x ];
    }

    pub no_part : Part [] [] []
    no_part = record {
      few = λ p. omega arith;
      uses = λ p some. absurd (omega (arith, some));
      covers = λ place count chain among names p. absurd (no_place place among);
      holds = λ first among p. absurd (omega (arith, among));
      named = λ first among. absurd (omega (arith, among));
    }

    -- One content.
    content_part : (first : ℕ) → IsContentAt first → Part [] (first ∷ []) (links_at cs first)
    content_part first is = record {
      few = λ p. (let few = one_links cs first p in let all = cs_once p in omega (arith, few, all));
      uses = λ p some. inr (record { first = first; among = (let e = times_one first [] in omega (arith, e)); here = some });
      covers = λ place count chain among names p. absurd (no_place place among);
      holds = λ other among p. subst (λ (f : ℕ). times p (pages_of_links (links_at cs f)) ≤ times p (pages_of_links (links_at cs first))) (sym (only_first other among)) (omega arith);
      named = λ other among. subst (λ (f : ℕ). IsContentAt f) (sym (only_first other among)) is;
    }
      where
        only_first : (other : ℕ) → 1 ≤ times other (first ∷ []) → other ≡ first
        only_first other among = elim (first_or other first [] among) [ inl same ↦ same | inr none ↦ absurd (omega (arith, none)) ]

    -- the chain pages of contents
    abbrev pub chains_at : List Far → List (List Link)
    chains_at [] = []
    chains_at (far ∷ fars) = links_at cs far.first ∷ chains_at fars

    contents_part : (fars : List Far) → AreUsedOnce (firsts_of fars) → ((first : ℕ) → 1 ≤ times first (firsts_of fars) → IsContentAt first) → Part [] (firsts_of fars) (links_behind (chains_at fars))
    contents_part [] once are = no_part
    contents_part (far ∷ fars) once are =
        let split : (x : ℕ) → times x (far.first ∷ firsts_of fars) ≡ times x (far.first ∷ []) + times x (firsts_of fars) = λ x. times-append x (far.first ∷ []) (firsts_of fars) in
        let rest = contents_part fars (λ x. (let e = split x in let all = once x in omega (arith, e, all))) (λ x some. are x (let e = split x in omega (arith, e, some))) in
        let here : 1 ≤ times far.first (far.first ∷ firsts_of fars) = (let e = times_one far.first (firsts_of fars) in omega (arith, e)) in
        merge [] [] (far.first ∷ []) (firsts_of fars) (links_at cs far.first) (links_behind (chains_at fars)) tt once (content_part far.first (are far.first here)) rest

    -- each of these lists is held, with its length
    stand_at : (fars : List Far) → ((far : Far) → Contains fars far → HasContent held far) → StandOn pages fars (chains_at fars)
    stand_at [] all = tt
    stand_at (far ∷ fars) all =
        let there = all far (first_among far fars) in
        let known = list_known far.first there.0 there.1 in
        let at = at_list far.first there.0 known.1 in
        (subst (λ (n : ℕ). IsListOf pages [] far.first n (links_at cs far.first)) there.2 at.0, stand_at fars (λ other among. all other (later_among far fars other among)))

    -- what the nodes of a record have in lists
    abbrev pub laid_contents : Layout → List (List ℕ)
    laid_contents Bare = []
    laid_contents (Grown node below beside) = content_in node.node.content node.list ++ (laid_contents below ++ laid_contents beside)
    laid_contents (Kept place members beside) = laid_contents beside

    pub contents_laid : (w : Walked) → contents_apart w ≡ laid_contents (layout_of w)
    contents_laid Bare = refl
    contents_laid (Grown n b s) =
        let below : contents_apart b ≡ laid_contents (layout_of b) = contents_laid b in
        let beside : contents_apart s ≡ laid_contents (layout_of s) = contents_laid s in
        ap (λ (l : List (List ℕ)). content_in n.node.content n.list ++ (l ++ contents_apart s)) below ∙ ap (λ (l : List (List ℕ)). content_in n.node.content n.list ++ (laid_contents (layout_of b) ++ l)) beside
    contents_laid (Kept mark m s) = contents_laid s

    chains-append : (xs ys : List Far) → map content_of (chains_at (xs ++ ys)) ≡ map content_of (chains_at xs) ++ map content_of (chains_at ys)
    chains-append [] ys = refl
    chains-append (x ∷ xs) ys = ap (λ (l : List (List ℕ)). content_of (links_at cs x.first) ∷ l) (chains-append xs ys)

    one_content : (node : Node) (list : Option ℕ) → ((first : ℕ) → list ≡ Some first → held.lists first ≡ Some node.content) → map content_of (chains_at (option_to_list (shown_with node list).far)) ≡ content_in node.content list
    one_content node None read = refl
    one_content node (Some first) read =
        let known = list_known first node.content (read first refl) in
        ap (λ (c : List ℕ). c ∷ []) (at_list first node.content known.1).1

    pub contents_read : (stock : Stock) (row : Layout) → stock.list_at ≡ held.lists → AreHeld stock row → map content_of (chains_at (fars_in (piece_body row))) ≡ laid_contents row
    contents_read stock Bare same are = refl
    contents_read stock (Grown n b s) same are =
        let own : List Far = option_to_list (in_record n).far in
        let fb = fars_in (piece_body b) in
        let fs = fars_in (piece_body s) in
        let one = one_content n.node n.list (λ first e. subst (λ (l : ℕ → Option (List ℕ)). l first ≡ Some n.node.content) same (are.0 first e)) in
        let below = contents_read stock b same are.1 in
        let beside = contents_read stock s same are.2 in
        chains-append own (fb ++ fs) ∙ ap (λ (l : List (List ℕ)). map content_of (chains_at own) ++ l) (chains-append fb fs)
        ∙ ap (λ (l : List (List ℕ)). l ++ (map content_of (chains_at fb) ++ map content_of (chains_at fs))) one
        ∙ ap (λ (l : List (List ℕ)). content_in n.node.content n.list ++ (l ++ map content_of (chains_at fs))) below
        ∙ ap (λ (l : List (List ℕ)). content_in n.node.content n.list ++ (laid_contents b ++ l)) beside
    contents_read stock (Kept place m s) same are = ap (λ (l : List Far). map content_of (chains_at l)) (fars-gap_more (piece_body s)) ∙ contents_read stock s same are.2

    -- One record.
    pub record Alone (place : RecordPlace) (roots : Gapped) (proxies : List Proxy) : Type 0 where
      pub stored : Stored
      pub there : IsStoredAt pages place stored
      pub same : roots_stored stored ≡ roots
      pub chains : List (List Link)
      pub stand : StandOn pages (lists_named stored) chains
      pub says : (contents : List (List ℕ)) → map content_of (chains_at (fars_in roots)) ≡ contents → SaysPiece stored proxies contents (map content_of chains)
      pub part : Part (place ∷ []) (firsts_of (fars_in roots)) (links_behind chains)

    only : (place other : RecordPlace) → Contains (place ∷ []) other → other ≡ place
    only place other h = one_place place other h

    contains_first : (fars : List Far) (first : ℕ) → 1 ≤ times first (firsts_of fars) → (far : Far) × Contains fars far × (first ≡ far.first)
    contains_first [] first some = absurd (omega (arith, some))
    contains_first (far ∷ fars) first some =
        elim (first_or first far.first (firsts_of fars) some) [
          | inl same ↦ (far, first_among far fars, same)
          | inr there ↦ (let r = contains_first fars first there in (r.0, later_among far fars r.0 r.1, r.2))
        ]

    -- the contents of a record that is stored
    names_contents : (place : RecordPlace) (stored : Stored) → IsStored held place stored → (first : ℕ) → 1 ≤ times first (firsts_of (fars_in (roots_stored stored))) → IsContentAt first
    names_contents place stored is first some =
        let r = contains_first (fars_in (roots_stored stored)) first some in
        let names : NamesContent held place r.0 = (stored, is, r.1) in
        let there = tidy.contents place r.0 names in
        subst (λ (f : ℕ). IsContentAt f) (sym r.2) (tidy.apart place r.0 names, (there.0, there.1))

    has_contents : (place : RecordPlace) (stored : Stored) → IsStored held place stored → (far : Far) → Contains (fars_in (roots_stored stored)) far → HasContent held far
    has_contents place stored is far among = tidy.contents place far (stored, is, among)

    -- the list of its proxies
    no_list_part : (place : RecordPlace) (piece : Piece) → IsStored held place (Inline piece) → Part (place ∷ []) [] []
    no_list_part place piece h = record {
      few = λ p. omega arith;
      uses = λ p some. absurd (omega (arith, some));
      covers = λ other count chain among names p.
          absurd (no_both piece names.0 count chain (one_at held place (Inline piece) (Chained names.0 count chain) h (subst (λ (x : RecordPlace). IsStored held x (Chained names.0 count chain)) (only place other among) names.1)));
      holds = λ first among p. absurd (omega (arith, among));
      named = λ first among. absurd (omega (arith, among));
    }

    list_part : (place : RecordPlace) (count chain : ℕ) → NamesList held place count chain → Part (place ∷ []) [] (links_at cs chain)
    list_part place count chain mine = record {
      few = λ p. (let few = one_links cs chain p in let all = cs_once p in omega (arith, few, all));
      uses = λ p some. inl (record { place = place; count = count; chain = chain; among = first_among place []; names = mine; here = some });
      covers = λ other n more among names p.
          let here = subst (λ (x : RecordPlace). IsStored held x (Chained names.0 n more)) (only place other among) names.1 in
          let same : more ≡ chain = chain_same names.0 mine.0 n count more chain (one_at held place (Chained names.0 n more) (Chained mine.0 count chain) here mine.1) in
          let e : times p (pages_of_links (links_at cs more)) ≡ times p (pages_of_links (links_at cs chain)) = ap (λ (c : ℕ). times p (pages_of_links (links_at cs c))) same in
          omega (arith, e);
      holds = λ first among p. absurd (omega (arith, among));
      named = λ first among. absurd (omega (arith, among));
    }

    pub alone : (place : RecordPlace) (piece : Piece) → HoldsPiece held place piece → AreUsedOnce (firsts_of (fars_in piece.body.roots)) → Alone place piece.body.roots piece.proxies
    alone place piece (inl h) once =
        let fars = fars_in piece.body.roots in
        record {
          stored = Inline piece;
          there = stored_place place (Inline piece) h;
          same = refl;
          chains = chains_at fars;
          stand = stand_at fars (has_contents place (Inline piece) h);
          says = λ contents e. (refl, e);
          part = merge (place ∷ []) [] [] (firsts_of fars) [] (links_behind (chains_at fars)) ((λ among. no_place place among), tt) once (no_list_part place piece h) (contents_part fars once (names_contents place (Inline piece) h));
        }
    alone place piece (inr h) once =
        let count = length piece.proxies in
        let fars = fars_in piece.body.roots in
        let mine : NamesList held place count h.chain = (piece.body, h.stored) in
        let first : Far = record { first = h.chain; length = 8 * count } in
        let known = list_known h.chain (proxies_bytes piece.proxies) h.list in
        let at = at_list h.chain (proxies_bytes piece.proxies) known.1 in
        let long : length (proxies_bytes piece.proxies) ≡ 8 * count = proxies_length piece.proxies in
        let list : IsListOf pages [] h.chain (8 * count) (links_at cs h.chain) = subst (λ (n : ℕ). IsListOf pages [] h.chain n (links_at cs h.chain)) long at.0 in
        record {
          stored = Chained piece.body count h.chain;
          there = stored_place place (Chained piece.body count h.chain) h.stored;
          same = refl;
          chains = links_at cs h.chain ∷ chains_at fars;
          stand = (list, stand_at fars (has_contents place (Chained piece.body count h.chain) h.stored));
          says = λ contents e. (ap (λ (c : List ℕ). c ∷ map content_of (chains_at fars)) at.1 ∙ ap (λ (l : List (List ℕ)). proxies_bytes piece.proxies ∷ l) e, h.numbers, root_numbers piece.proxies h.rooted);
          part = merge (place ∷ []) [] [] (firsts_of fars) (links_at cs h.chain) (links_behind (chains_at fars)) ((λ among. no_place place among), tt) once (list_part place count h.chain mine)
              (contents_part fars once (names_contents place (Chained piece.body count h.chain) h.stored));
        }

    -- Trees that records hold, fs a walk comes through them.
    pub record Rebuilt (k : ℕ) (layout : Layout) : Type 0 where
      pub walked : Walked
      pub none : NoneWait (marks_of walked)
      pub same : layout_of walked ≡ layout
      pub read : AreRead pages walked
      pub light : AreAllLight k walked
      pub part : Part (places_of layout) (deeper layout) (links_in walked)

    abbrev pub rebuilt_none : (k : ℕ) → Rebuilt k Bare
    rebuilt_none k = record { walked = Bare; none = tt; same = refl; read = tt; light = tt; part = no_part }

    front_used : (fs bs : List ℕ) → AreUsedOnce (fs ++ bs) → AreUsedOnce fs
    front_used fs bs once x = let e = times-append x fs bs in let all = once x in omega (arith, e, all)

    back_used : (fs bs : List ℕ) → AreUsedOnce (fs ++ bs) → AreUsedOnce bs
    back_used fs bs once x = let e = times-append x fs bs in let all = once x in omega (arith, e, all)

    -- an interval with its record, before others
    pub kept : (k : ℕ) (stock : Stock) (place : RecordPlace) (members beside : Layout) → stock.list_at ≡ held.lists → HoldsPiece held place (piece_of members) → AreHeld stock members → gapped_size (piece_body members) ≤ k
        → ArePlacedOnce (places_of (Kept place members beside)) → AreUsedOnce (deeper (Kept place members beside)) → (rm : Rebuilt k members) (rs : Rebuilt k beside)
        → (chains : List (List Link)) × (r : Rebuilt k (Kept place members beside)) × (r.walked ≡ Kept (Reached place chains) rm.walked rs.walked)
    kept k stock place members beside lists holds are few once used rm rs =
        let own = firsts_of (fars_in (piece_body members)) in
        let front_once : AreUsedOnce (own ++ deeper members) = front_used (own ++ deeper members) (deeper beside) used in
        let h = alone place (piece_of members) holds (front_used own (deeper members) front_once) in
        let contents : map content_of (chains_at (fars_in (piece_body members))) ≡ contents_apart rm.walked =
        contents_read stock members lists are ∙ ap laid_contents (sym rm.same) ∙ sym (contents_laid rm.walked) in
        let proxies : walked_proxies rm.walked ≡ proxies_of members = sym (layout_proxies rm.walked rm.none) ∙ ap proxies_of rm.same in
        let mine : HoldsRecord pages place rm.walked h.chains = record {
          stored = h.stored;
          there = h.there;
          roots = h.same ∙ ap piece_body (sym rm.same);
          stand = h.stand;
          says = subst (λ (l : List Proxy). SaysPiece h.stored l (contents_apart rm.walked) (map content_of h.chains)) (sym proxies) (h.says (contents_apart rm.walked) contents);
        } in
        let front = merge (place ∷ []) (places_of members) own (deeper members) (links_behind h.chains) (links_in rm.walked) (once-left (place ∷ places_of members) (places_of beside) once) front_once h.part rm.part in (
          h.chains,
          record {
            walked = Kept (Reached place h.chains) rm.walked rs.walked;
            none = none_both (marks_of rm.walked) (marks_of rs.walked) rm.none rs.none;
            same = ap (λ (l : Layout). Kept place l (layout_of rs.walked)) rm.same ∙ ap (λ (l : Layout). Kept place members l) rs.same;
            read = (mine, rm.read, rs.read);
            light = (subst (λ (l : Layout). gapped_size (piece_body l) ≤ k) (sym rm.same) few, rm.light, rs.light);
            part = merge (place ∷ places_of members) (places_of beside) (own ++ deeper members) (deeper beside) (links_behind h.chains ++ links_in rm.walked) (links_in rs.walked) once used front rs.part;
          },
          refl,
        )

    pub grown : (k : ℕ) (n : LaidNode) (b s : Layout) → ArePlacedOnce (places_of b ++ places_of s) → AreUsedOnce (deeper b ++ deeper s) → Rebuilt k b → Rebuilt k s → Rebuilt k (Grown n b s)
    grown k n b s once used rb rs = record {
      walked = Grown n rb.walked rs.walked;
      none = none_both (marks_of rb.walked) (marks_of rs.walked) rb.none rs.none;
      same = ap (λ (l : Layout). Grown n l (layout_of rs.walked)) rb.same ∙ ap (λ (l : Layout). Grown n b l) rs.same;
      read = (rb.read, rs.read);
      light = (rb.light, rs.light);
      part = merge (places_of b) (places_of s) (deeper b) (deeper s) (links_in rb.walked) (links_in rs.walked) once used rb.part rs.part;
    }

    pub rebuilt : (k : ℕ) (pieces : PieceMap held) (layout : Layout) → AreHeld (held_by pieces) layout → (held.settings).k ≡ k → ArePlacedOnce (places_of layout) → AreUsedOnce (deeper layout) → Rebuilt k layout
    rebuilt k pieces Bare are is once used = rebuilt_none k
    rebuilt k pieces (Grown n b s) are is once used =
        let rb = rebuilt k pieces b are.1 is (once-left (places_of b) (places_of s) once) (front_used (deeper b) (deeper s) used) in
        let rs = rebuilt k pieces s are.2 is (once-right (places_of b) (places_of s) once) (back_used (deeper b) (deeper s) used) in
        grown k n b s once used rb rs
    rebuilt k pieces (Kept place members beside) are is once used =
        let own = firsts_of (fars_in (piece_body members)) in
        let inner : AreUsedOnce (deeper members) = back_used own (deeper members) (front_used (own ++ deeper members) (deeper beside) used) in
        let rm = rebuilt k pieces members are.1 is (once-left (places_of members) (places_of beside) (once.1)) inner in
        let rs = rebuilt k pieces beside are.2 is (once-right (places_of members) (places_of beside) once.1) (back_used (own ++ deeper members) (deeper beside) used) in
        (kept k (held_by pieces) place members beside refl (held_at held pieces place (piece_of members) (are.0).there) are.1 (subst (λ (n : ℕ). gapped_size (piece_body members) ≤ n) is (are.0).fits) once used rm rs).1
