-- How a node begins for a teller, and its content told page by page.
use Rattle.std.proofs.Common.{◌≡◌, ◌+◌, ◌*◌, ℕ, suc, ◌≤◌, ◌<◌, Bool, true, false, if◌then◌else◌, List, [], ◌∷◌, ◌++◌, length, map, take, drop, Option, None, Some, refl, sym, ap, ◌∙◌, subst, arith, append_assoc, length-append}
use Rattle.std.proofs.lemmas.List.{append-nil, take_all}
use Rattle.std.specs.Prelude.{◌≢◌, ◌^◌, nat_le, IsSome}
use Rattle.std.proofs.lemmas.Bool.Decides.{nat_tests}
use Rattle.std.proofs.Math.Seq.{take-append_seam, drop-append_seam}
use Rattle.nx_numbers.specs.Sizes.{page_room}
use Rattle.nx_host.specs.Disk.{Image}
use Rattle.nx_host.specs.declared.disk.Disk.{Ghosts}
use Rattle.nx_host.specs.Still.{IsStill}
use Rattle.nx_host.proofs.DiskLemmas.{none_still, settled_kept}
use Rattle.nx_replay.specs.Log.{Entry, over, entry_pages, replay}
use Rattle.nx_wal.specs.Wal.{current}
use Rattle.nx_holdings.specs.declared.header.Header.{Header}
use Rattle.nx_holdings.specs.Holdings.{chain_count}
use Rattle.nx_links.specs.Lists.{IsLinkAt, IsListFrom}
use Rattle.nx_links.proofs.ListLemmas.{lists_from, has_first, list_step}
use Rattle.nx_records.specs.declared.records.Records.{Records}
use Rattle.nx_records.specs.declared.reading.ListReader.{ListReader}
use Rattle.nx_records.specs.declared.error.StoreError.{StoreError}
use Rattle.nx_records.specs.declared.error.StoreError.TheVariants as store
use Rattle.nx_records.specs.Records.{has_ended, IsInStepWith, LeavesRecords, page_count_of, current_pages}
use Rattle.nx_records.specs.Changes.{HasListFrom, LacksList}
use Rattle.nx_records.specs.Refusals.{NotRead}
use Rattle.nx_records.specs.Reading.{Opens, IsBlock}
use Rattle.nx_records.proofs.ChainLemmas.{few_pages}
use Rattle.nx_records.proofs.LeaveLemmas.{leaves_step}
use Rattle.nx_tree.specs.declared.node.Node.{Node}
use Rattle.nx_piece.specs.declared.piece.Far.{Far}
use Rattle.nx_weights.specs.Weight.{longest_near}
use Rattle.nx_piece.specs.PieceNode.{PieceNode, content_length, length_with, IsFarWith, MayBeFar}
use Rattle.nx_layouts.specs.Layout.{shown_with}
use Rattle.nx_layouts.proofs.NodeLemmas.{items_show_nodes}
use Rattle.nx_hold.proofs.PieceLemmas.{some_same}
use Rattle.nx_nav.specs.Parts.{HasNode, HasFarContent}
use Rattle.nx_nav.specs.Steps.{WalkStep, Open, Head, Block, Tail, blocks_within, content_blocks, content_steps, begun_steps}
use Rattle.nx_nav.specs.Walk.{TellsEach, StopsInEach, LacksEach}
use Rattle.nx_nav.specs.declared.error.NavError.{NavError}
use Rattle.nx_nav.specs.declared.error.NavError.TheVariants as error
use Rattle.nx_nav.specs.Refusals.{IsRefused, IsPassedOn}
use Rattle.nx_nav.proofs.RefusalLemmas.{is_unwritten, refused_later, still_runs}
use Rattle.nx_nav.proofs.WayLemmas.{IsTeller, told_earlier}

-- The blocks of a content:

pub no_blocks : (bytes : List ℕ) → length bytes ≡ 0 → map Block (content_blocks bytes) ≡ []
no_blocks bytes none = ap (λ (n : ℕ). map Block (blocks_within n bytes)) (let zero : chain_count (length bytes) ≡ 0 = omega (arith, none) in zero)

-- one that fits a page is one block
pub one_block : (bytes : List ℕ) → 1 ≤ length bytes → length bytes ≤ page_room → map Block (content_blocks bytes) ≡ Block bytes ∷ []
one_block bytes some few =
    let one : chain_count (length bytes) ≡ 1 = omega (arith, some, few) in
    ap (λ (n : ℕ). map Block (blocks_within n bytes)) one ∙ ap (λ (b : List ℕ). Block b ∷ []) (take_all page_room bytes few)

-- bytes in front are the first block, and as long as a page where more comes
pub blocks_split : (block rest : List ℕ) → 1 ≤ length block → length block ≤ page_room → (1 ≤ length rest → length block ≡ page_room) → map Block (content_blocks (block ++ rest)) ≡ Block block ∷ map Block (content_blocks rest)
blocks_split block [] some few full = ap (λ (b : List ℕ). map Block (content_blocks b)) (append-nil block) ∙ one_block block some few ∙ ap (λ s. Block block ∷ s) (sym (no_blocks [] refl))
blocks_split block (x ∷ rest) some few full =
    let whole = block ++ x ∷ rest in
    let is : length block ≡ page_room = full (omega arith) in
    let long = length-append block (x ∷ rest) in
    let more : chain_count (length whole) ≡ suc (chain_count (length (x ∷ rest))) = omega (arith, long, is) in
    let front : take page_room whole ≡ block = ap (λ (n : ℕ). take n whole) (sym is) ∙ take-append_seam block (x ∷ rest) in
    let back : drop page_room whole ≡ x ∷ rest = ap (λ (n : ℕ). drop n whole) (sym is) ∙ drop-append_seam block (x ∷ rest) in
    ap (λ (n : ℕ). map Block (blocks_within n whole)) more
    ∙ ap (λ (b : List ℕ). Block b ∷ map Block (blocks_within (chain_count (length (x ∷ rest))) (drop page_room whole))) front
    ∙ ap (λ (b : List ℕ). Block block ∷ map Block (blocks_within (chain_count (length (x ∷ rest))) b)) back

-- What is left of a list stands from the reader's page on.
pub record IsLeftOf {D : Type 0} (d : Ghosts D) (records : Records) (disk : D) (reader : ListReader) (rest : List ℕ) : Type 0 where
  pub image : Image
  pub step : IsInStepWith d records disk image
  pub from : IsListFrom (page_count_of records) (current_pages records image) reader.next rest
  pub long : length rest ≡ reader.left
  pub few : page_count_of records ≤ 2 ^ 32

module _ {D : Type 0} {d : Ghosts D} {reader : ListReader} {rest : List ℕ} where
  -- also behind calls that only read
  pub left_later : {r0 r1 : Records} {x0 x1 : D} → LeavesRecords r0 r1 → IsStill d x0 x1 → IsLeftOf d r0 x0 reader rest → IsLeftOf d r1 x1 reader rest
  left_later {r0 = r0} {r1 = r1} leaves still left = record {
    image = left.image;
    step = leaves_step {r0 = r0} {r1 = r1} leaves still left.step;
    from = subst (λ (es : List Entry). IsListFrom (page_count_of r1) (over (entry_pages es) (replay left.image)) reader.next rest) (sym leaves.changes_stay)
        (subst (λ (h : Header). IsListFrom h.pages (current r0.wal left.image) reader.next rest) (sym leaves.head_stays) left.from);
    long = left.long;
    few = subst (λ (h : Header). h.pages ≤ 2 ^ 32) (sym leaves.head_stays) left.few;
  }

  -- and behind output
  pub left_kept : {A : Type 0} {Told : A → D → List WalkStep → A → D → Type 0} {Unwritten : D → D → Type 0} (teller : IsTeller d Told Unwritten) {a b : A} {x y : D} {s : List WalkStep} {r : Records} → Told a x s b y → IsSome (d.contents y) → IsLeftOf d r x reader rest → IsLeftOf d r y reader rest
  left_kept teller {a} {b} {x} {y} {s} goes seen left = record {
    image = left.image;
    step = record { settled = settled_kept (teller.keeps a b x y s goes) seen (λ i leave. teller.fewer a b x y s i goes leave) (left.step).settled; follows = (left.step).follows };
    from = left.from;
    long = left.long;
    few = left.few;
  }

-- a block is read, and the rest is left
pub left_behind : {D : Type 0} {d : Ghosts D} {r : Records} {x : D} {rest : List ℕ} (was now : ListReader) (block : List ℕ) (left : IsLeftOf d r x was rest) → was.left ≢ 0 → IsBlock was now block
    → ((image : Image) → IsInStepWith d r x image → IsLinkAt (current_pages r image) was.next now.next block) → (more : List ℕ) × (rest ≡ block ++ more) × IsLeftOf d r x now more
left_behind {r = r} was now block left some is stood =
    let there : was.next ≢ 0 = λ zero. some (was.ends.0 zero) in
    let first = has_first there left.from in
    let step = list_step left.few there first.low (stood left.image left.step) (λ more. is.full (λ none. more (now.ends.1 none))) in
    let back = step.back _ left.from in
    let sum = ap length back.1 ∙ length-append block back.0 in
    let whole = left.long in
    let count = is.left in (
      back.0,
      back.1,
      record { image = left.image; step = left.step; from = back.2; long = omega (arith, sum, whole, count); few = left.few },
    )

-- How far a content is told: these steps are of its first blocks, and the others stand from the reader's page on.
pub record IsTelling {A D : Type 0} (d : Ghosts D) (Told : A → D → List WalkStep → A → D → Type 0) (r0 : Records) (x0 : D) (far : Far) (a : A) (records : Records) (disk : D) (reader : ListReader) (now : A) : Type 0 where
  pub told : List WalkStep
  pub goes : Told a x0 told now disk
  pub left : IsSome (d.contents disk) → (bytes : List ℕ) → HasFarContent d r0 x0 far bytes → (rest : List ℕ) × IsLeftOf d records disk reader rest × (map Block (content_blocks bytes) ≡ told ++ map Block (content_blocks rest))

module _ {A D : Type 0} {d : Ghosts D} {Told : A → D → List WalkStep → A → D → Type 0} {Unwritten : D → D → Type 0} (teller : IsTeller d Told Unwritten) {r0 : Records} {x0 : D} {far : Far} {a : A} where
  -- nothing is told yet
  pub telling_begins : {r1 : Records} (reader : ListReader) → r1 ≡ r0 → Opens reader far.first far.length → IsTelling d Told r0 x0 far a r1 x0 reader a
  telling_begins {r1} reader same opens = subst (λ (r : Records). IsTelling d Told r0 x0 far a r x0 reader a) (sym same) (record {
    told = [];
    goes = teller.asked a x0 x0 none_still;
    left = λ seen bytes h. (
      bytes,
      record {
        image = (h.stands.keeps).image;
        step = (h.stands.keeps).step;
        from = subst (λ (p : ℕ). IsListFrom (page_count_of r0) (current_pages r0 (h.stands.keeps).image) p bytes) (sym opens.next) (lists_from h.stands.holds far.first bytes h.there).0;
        long = h.long ∙ sym opens.left;
        few = few_pages r0.head (h.stands.holds).range;
      },
      refl,
    );
  })

  module _ {r1 : Records} {x1 : D} {reader : ListReader} {b : A} (telling : IsTelling d Told r0 x0 far a r1 x1 reader b) where
    -- the teller paused
    pub telling_pauses : {c : A} {x2 : D} → Told b x1 [] c x2 → IsTelling d Told r0 x0 far a r1 x2 reader c
    telling_pauses {c} {x2} paused = record {
      told = telling.told;
      goes = subst (λ s. Told a x0 s c x2) (append-nil telling.told) (teller.join a b c x0 x1 x2 telling.told [] telling.goes paused);
      left = λ seen bytes h. let was = telling.left (told_earlier teller paused seen) bytes h in (was.0, left_kept teller paused seen was.1, was.2);
    }

    -- the disk was asked
    pub telling_later : {r2 : Records} {x2 : D} → LeavesRecords r1 r2 → IsStill d x1 x2 → IsTelling d Told r0 x0 far a r2 x2 reader b
    telling_later {r2} {x2} leaves still =
        let asked = teller.asked b x1 x2 still in
        record {
          told = telling.told;
          goes = subst (λ s. Told a x0 s b x2) (append-nil telling.told) (teller.join a b b x0 x1 x2 telling.told [] telling.goes asked);
          left = λ seen bytes h. let was = telling.left (told_earlier teller asked seen) bytes h in (was.0, left_later {r0 = r1} {r1 = r2} leaves still was.1, was.2);
        }

    -- it ends
    pub telling_ends : reader.left ≡ 0 → TellsEach d Told (HasFarContent d r0 x0 far) (λ bytes. map Block (content_blocks bytes)) a x0 b x1
    telling_ends none = record {
      told = telling.told;
      goes = telling.goes;
      all = λ seen bytes h.
          let was = telling.left seen bytes h in
          sym (was.2 ∙ ap (λ s. telling.told ++ s) (no_blocks was.0 ((was.1).long ∙ none)) ∙ append-nil telling.told);
    }

    -- or stops
    pub telling_stops : StopsInEach d Told (HasFarContent d r0 x0 far) (λ bytes. map Block (content_blocks bytes)) a x0 x1
    telling_stops = record {
      told = telling.told;
      last = b;
      goes = telling.goes;
      first = λ seen bytes h. let was = telling.left seen bytes h in (map Block (content_blocks was.0), was.2);
    }

    -- where the next block isn't there
    pub telling_lacks : ((image : Image) → IsInStepWith d r1 x1 image → HasListFrom (page_count_of r1) (current_pages r1 image) reader.next reader.left → ⊥) → {x2 : D} → IsStill d x1 x2 → LacksEach d x2 (HasFarContent d r0 x0 far)
    telling_lacks none {x2} still seen bytes h =
        let was = telling.left (told_earlier teller (teller.asked b x1 x2 still) seen) bytes h in
        none (was.1).image (was.1).step (was.0, (was.1).long, (was.1).from)

    pub block_refused : (r2 : Records) (x2 : D) → has_ended r0 ≡ false → LeavesRecords r0 r1 → IsStill d x1 x2 → (e : NavError)
        → IsRefused d ⊥ ⊥ ((image : Image) → IsInStepWith d r1 x1 image → HasListFrom (page_count_of r1) (current_pages r1 image) reader.next reader.left → ⊥) e r1 r2 x1 x2
        → IsRefused d ⊥ (Unwritten x0 x2) (LacksEach d x2 (HasFarContent d r0 x0 far)) e r0 r2 x0 x2
    block_refused r2 x2 runs leaves still e refused =
        refused_later d ⊥ (Unwritten x0 x2) (LacksEach d x2 (HasFarContent d r0 x0 far)) r0 r1 r2 x0 x1 x2 leaves (still_runs r0 runs) (teller.faults a b x0 x1 telling.told telling.goes) (λ bad. bad) absurd
        (λ none. telling_lacks none still) e refused

    -- where the teller's output isn't written
    pub not_written : (x2 : D) → has_ended r0 ≡ false → LeavesRecords r0 r1 → (e : NavError) → e ≡ error.Write → Unwritten x1 x2 → IsRefused d ⊥ (Unwritten x0 x2) (LacksEach d x2 (HasFarContent d r0 x0 far)) e r0 r1 x0 x2
    not_written x2 runs leaves e is unwritten =
        is_unwritten d ⊥ (Unwritten x0 x2) (LacksEach d x2 (HasFarContent d r0 x0 far)) {r0 = r0} {r1 = r1} x0 x2 e is (teller.unwritten a b x0 x1 x2 telling.told telling.goes unwritten) runs leaves

  -- a block more is told
  pub telling_goes_on : {r1 r2 : Records} {x1 x2 : D} {was now : ListReader} {b c : A} (telling : IsTelling d Told r0 x0 far a r1 x1 was b) (block : List ℕ) → was.left ≢ 0 → LeavesRecords r1 r2 → IsStill d x1 x2 → IsBlock was now block
      → ((image : Image) → IsInStepWith d r1 x1 image → IsLinkAt (current_pages r1 image) was.next now.next block) → Told b x2 (Block block ∷ []) c x2 → IsTelling d Told r0 x0 far a r2 x2 now c
  telling_goes_on {r1} {r2} {x1} {x2} {was} {now} {b} {c} telling block some leaves still is stood tells =
      let asked = teller.asked b x1 x2 still in
      record {
        told = telling.told ++ Block block ∷ [];
        goes = teller.join a b c x0 x1 x2 telling.told (Block block ∷ []) telling.goes (teller.join b b c x1 x2 x2 [] (Block block ∷ []) asked tells);
        left = λ seen bytes h.
            let old = telling.left (told_earlier teller asked (told_earlier teller tells seen)) bytes h in
            let more = left_behind was now block old.1 some is stood in
            let long = (more.2).long in
            let split = blocks_split block more.0 is.some is.few (λ some_left. is.full (λ none. absurd (omega (arith, long, none, some_left)))) in (
              more.0,
              left_later {r0 = r1} {r1 = r2} leaves still more.2,
              old.2 ∙ ap (λ s. telling.told ++ s) (ap (λ (b : List ℕ). map Block (content_blocks b)) more.1 ∙ split) ∙ sym (append_assoc telling.told (Block block ∷ []) (map Block (content_blocks more.0))),
            );
      }

-- A call that didn't begin to read a content.
module _ {D : Type 0} (d : Ghosts D) (far : Far) (named : ℕ) (r0 r1 : Records) (x0 x1 : D) where
  abbrev Unread : Type 0 → D → NavError → Type 0
  Unread Unwritten y out = IsRefused d ⊥ Unwritten (LacksEach d y (HasFarContent d r0 x0 far)) out r0 r1 x0 x1

  pub list_refused : (Unwritten : Type 0) (y : D) (e : StoreError) (out : NavError) → IsPassedOn e out → NotRead d (λ now. LacksList now far.first far.length) named e r0 r1 x0 x1
      → IsRefused d ⊥ Unwritten (LacksEach d y (HasFarContent d r0 x0 far)) out r0 r1 x0 x1
  list_refused Unwritten y store.Disk out is refused = subst (Unread Unwritten y) (sym is) refused
  list_refused Unwritten y (store.Damaged page) out is refused = subst (Unread Unwritten y) (sym is) (λ seen bytes h. refused.lacks h.saved h.now h.stands bytes h.there h.long, refused.ends)
  list_refused Unwritten y store.Ended out is refused = subst (Unread Unwritten y) (sym is) refused
  list_refused Unwritten y store.Memory out is refused = subst (Unread Unwritten y) (sym is) refused
  list_refused Unwritten y store.Exists out is refused = absurd refused
  list_refused Unwritten y store.NotAStore out is refused = absurd refused
  list_refused Unwritten y store.Full out is refused = absurd refused

-- A node as its record has it:

far_content_of : (n : Node) (list : Option ℕ) (far : Far) → (shown_with n list).far ≡ Some far → (first : ℕ) × (list ≡ Some first) × (far ≡ record { first = first; length = length n.content })
far_content_of n None far e = absurd (cc)
far_content_of n (Some first) far e = (first, refl, sym (some_same e))

-- a far one is read in its list
pub far_read : {D : Type 0} {d : Ghosts D} {r : Records} {x : D} {shown : PieceNode} {n : Node} {far : Far} → shown.far ≡ Some far → HasNode d r x shown n → HasFarContent d r x far n.content
far_read {n = n} {far = far} named h =
    let is = far_content_of n h.list far (sym (ap (λ (s : PieceNode). s.far) h.same) ∙ named) in
    record {
      saved = h.saved;
      now = h.now;
      stands = h.stands;
      there = ap (λ (f : Far). (h.now).lists f.first) is.2 ∙ h.read is.0 is.1;
      long = ap (λ (f : Far). f.length) (sym is.2);
    }

-- any other stands in the item
near_content_of : (n : Node) (list : Option ℕ) → (shown_with n list).far ≡ None → (shown_with n list).node ≡ n
near_content_of n None e = refl
near_content_of n (Some first) e = absurd (cc)

pub near_read : {D : Type 0} {d : Ghosts D} {r : Records} {x : D} {shown : PieceNode} {n : Node} → shown.far ≡ None → HasNode d r x shown n → shown.node ≡ n
near_read {n = n} none h = ap (λ (s : PieceNode). s.node) h.same ∙ near_content_of n h.list (sym (ap (λ (s : PieceNode). s.far) h.same) ∙ none)

pub long_as : {D : Type 0} {d : Ghosts D} {r : Records} {x : D} {shown : PieceNode} {n : Node} → HasNode d r x shown n → content_length shown ≡ length n.content
long_as {n = n} h = ap content_length h.same ∙ (items_show_nodes (record { node = n; list = h.list })).long

-- a short one does
short_near : (shown : PieceNode) → MayBeFar shown → content_length shown ≤ longest_near → shown.far ≡ None
short_near shown may short = near_if shown.node.content shown.far may short
  where
    near_if : (own : List ℕ) (far : Option Far) → IsFarWith own far → length_with (length own) far ≤ longest_near → far ≡ None
    near_if own None may short = refl
    near_if own (Some far) may short = absurd (let long = may.1 in omega (arith, long, short))

begun_short : (asked : Bool) (n : Node) → length n.content ≤ longest_near → begun_steps asked n ≡ Open n ∷ []
begun_short asked n short = ap (λ (b : Bool). if b then Open n ∷ [] else Head n.kind n.name ∷ (content_steps asked n.content ++ Tail ∷ [])) (let yes : nat_le (length n.content) longest_near ≡ true = grind (arith, nat_tests) in yes)

begun_long : (asked : Bool) (n : Node) → longest_near < length n.content → begun_steps asked n ≡ Head n.kind n.name ∷ (content_steps asked n.content ++ Tail ∷ [])
begun_long asked n long = ap (λ (b : Bool). if b then Open n ∷ [] else Head n.kind n.name ∷ (content_steps asked n.content ++ Tail ∷ [])) (let no : nat_le (length n.content) longest_near ≡ false = grind (arith, nat_tests) in no)

-- It stops before anything is told.
pub node_stops_at_once : {A D T : Type 0} {d : Ghosts D} {Told : A → D → List WalkStep → A → D → Type 0} {Unwritten : D → D → Type 0} (teller : IsTeller d Told Unwritten) {x : D} {a : A} {P : T → Type 0} {steps : T → List WalkStep} → StopsInEach d Told P steps a x x
node_stops_at_once teller {x} {a} {steps = steps} = record { told = []; last = a; goes = teller.asked a x x none_still; first = λ seen n h. (steps n, refl) }

pub far_lacks : {D : Type 0} {d : Ghosts D} {r : Records} {x : D} {shown : PieceNode} {far : Far} (y : D) → shown.far ≡ Some far → LacksEach d y (HasFarContent d r x far) → LacksEach d y (HasNode d r x shown)
far_lacks y named none seen n h = none seen n.content (far_read named h)

module _ {A D : Type 0} {d : Ghosts D} {Told : A → D → List WalkStep → A → D → Type 0} {Unwritten : D → D → Type 0} (asked : Bool) (teller : IsTeller d Told Unwritten) {r : Records} {x : D} {shown : PieceNode} {a : A} where
  -- The node begins in one step.
  pub short_told : {b : A} → MayBeFar shown → content_length shown ≤ longest_near → Told a x (Open shown.node ∷ []) b x → TellsEach d Told (HasNode d r x shown) (begun_steps asked) a x b x
  short_told {b} may short tells = record {
    told = Open shown.node ∷ [];
    goes = tells;
    all = λ seen n h.
        let long = long_as h in
        ap (λ (m : Node). Open m ∷ []) (near_read (short_near shown may short) h) ∙ sym (begun_short asked n (omega (arith, long, short)));
  }

  -- Nothing is told of its content.
  pub unasked_told : asked ≡ false → TellsEach d Told (HasNode d r x shown) (λ n. content_steps asked n.content) a x a x
  unasked_told off = record {
    told = [];
    goes = teller.asked a x x none_still;
    all = λ seen n h. ap (λ (b : Bool). if b then map Block (content_blocks n.content) else []) (sym off);
  }

  -- Its content is one block.
  pub near_told : {b : A} → asked ≡ true → shown.far ≡ None → 1 ≤ content_length shown → length shown.node.content ≤ page_room → Told a x (Block shown.node.content ∷ []) b x → TellsEach d Told (HasNode d r x shown) (λ n. content_steps asked n.content) a x b x
  near_told wanted near some few tells = record {
    told = Block shown.node.content ∷ [];
    goes = tells;
    all = λ seen n h.
        let same = near_read near h in
        let long = long_as h in
        let fits = ap (λ (m : Node). length m.content) same in
        ap (λ (m : Node). Block m.content ∷ []) same ∙ sym (one_block n.content (omega (arith, some, long)) (omega (arith, few, fits)))
        ∙ ap (λ (b : Bool). if b then map Block (content_blocks n.content) else []) (sym wanted);
  }

  -- It is read from its list.
  pub far_told : {b : A} {y : D} {far : Far} → asked ≡ true → shown.far ≡ Some far → TellsEach d Told (HasFarContent d r x far) (λ bytes. map Block (content_blocks bytes)) a x b y
      → TellsEach d Told (HasNode d r x shown) (λ n. content_steps asked n.content) a x b y
  far_told wanted named has = record {
    told = has.told;
    goes = has.goes;
    all = λ seen n h. has.all seen n.content (far_read named h) ∙ ap (λ (b : Bool). if b then map Block (content_blocks n.content) else []) (sym wanted);
  }

  pub far_stops : {y : D} {far : Far} → asked ≡ true → shown.far ≡ Some far → StopsInEach d Told (HasFarContent d r x far) (λ bytes. map Block (content_blocks bytes)) a x y → StopsInEach d Told (HasNode d r x shown) (λ n. content_steps asked n.content) a x y
  far_stops wanted named has = record {
    told = has.told;
    last = has.last;
    goes = has.goes;
    first = λ seen n h. let first = has.first seen n.content (far_read named h) in (first.0, ap (λ (b : Bool). if b then map Block (content_blocks n.content) else []) wanted ∙ first.1);
  }

  -- It begins with its content in blocks:
  module _ {b : A} (long : longest_near < content_length shown) (headed : Told a x (Head shown.node.kind shown.node.name ∷ []) b x) where
    begun_is : (n : Node) → HasNode d r x shown n → begun_steps asked n ≡ Head shown.node.kind shown.node.name ∷ (content_steps asked n.content ++ Tail ∷ [])
    begun_is n h =
        let shows = items_show_nodes (record { node = n; list = h.list }) in
        let same = long_as h in
        let kind : shown.node.kind ≡ n.kind = ap (λ (s : PieceNode). s.node.kind) h.same ∙ shows.kind in
        let name : shown.node.name ≡ n.name = ap (λ (s : PieceNode). s.node.name) h.same ∙ shows.name in
        begun_long asked n (omega (arith, long, same)) ∙ (let e : ◌≡◌ {A = WalkStep} (Head n.kind n.name) (Head shown.node.kind shown.node.name) = cc in ap (λ (w : WalkStep). w ∷ (content_steps asked n.content ++ Tail ∷ [])) e)

    pub long_told : {c e : A} {y : D} → TellsEach d Told (HasNode d r x shown) (λ n. content_steps asked n.content) b x c y → Told c y (Tail ∷ []) e y → TellsEach d Told (HasNode d r x shown) (begun_steps asked) a x e y
    long_told {c} {e} {y} has tailed = record {
      told = Head shown.node.kind shown.node.name ∷ (has.told ++ Tail ∷ []);
      goes = teller.join a b e x x y (Head shown.node.kind shown.node.name ∷ []) (has.told ++ Tail ∷ []) headed (teller.join b c e x y y has.told (Tail ∷ []) has.goes tailed);
      all = λ seen n h. ap (λ s. Head shown.node.kind shown.node.name ∷ (s ++ Tail ∷ [])) (has.all (told_earlier teller tailed seen) n h) ∙ sym (begun_is n h);
    }

    pub long_stops : {y : D} → StopsInEach d Told (HasNode d r x shown) (λ n. content_steps asked n.content) b x y → StopsInEach d Told (HasNode d r x shown) (begun_steps asked) a x y
    long_stops {y} has = record {
      told = Head shown.node.kind shown.node.name ∷ has.told;
      last = has.last;
      goes = teller.join a b has.last x x y (Head shown.node.kind shown.node.name ∷ []) has.told headed has.goes;
      first = λ seen n h.
          let first = has.first seen n h in (
            first.0 ++ Tail ∷ [],
            begun_is n h ∙ ap (λ s. Head shown.node.kind shown.node.name ∷ (s ++ Tail ∷ [])) first.1 ∙ ap (λ s. Head shown.node.kind shown.node.name ∷ s) (append_assoc has.told first.0 (Tail ∷ [])),
          );
    }

    pub long_not_ended : {c : A} {y : D} → TellsEach d Told (HasNode d r x shown) (λ n. content_steps asked n.content) b x c y → StopsInEach d Told (HasNode d r x shown) (begun_steps asked) a x y
    long_not_ended {c} has = long_stops (record { told = has.told; last = c; goes = has.goes; first = λ seen n h. ([], sym (has.all seen n h) ∙ sym (append-nil has.told)) })

-- Pages that are read of a content, each but the last one full:
pub one_page_more : (before now next long left : ℕ) → page_room * now + left ≤ page_room * before + long → (left ≡ 0 → ⊥) → next ≤ now + 1 → next ≤ before + chain_count long
one_page_more before now next long left full some one = omega (arith, full, some, one)

pub full_page_more : (before now next long left more : ℕ) → page_room * now + left ≤ page_room * before + long → next ≤ now + 1 → page_room + more ≡ left → page_room * next + more ≤ page_room * before + long
full_page_more before now next long left more full one whole = omega (arith, full, one, whole)
