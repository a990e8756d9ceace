-- A group of a log, as it is read and sent part by part.
use Rattle.std.proofs.Common.{◌≡◌, ◌⊎◌, ℕ, ◌+◌, ◌-◌, ◌*◌, ◌≤◌, Bool, true, false, List, [], ◌++◌, length, take, drop, Some, refl, sym, ap, subst, ◌∙◌, arith, inl, inr, append_assoc, append-nil}
use Rattle.std.specs.Prelude.{IsSome, ◌==◌, slice_get}
use Rattle.std.proofs.lemmas.Bool.{eq-eqb}
use Rattle.std.proofs.lemmas.List.{take_all, length-take}
use Rattle.std.proofs.Math.Seq.{take-add, take-append_seam}
use Rattle.byteorder.specs.Endian.{big_bytes}
use Rattle.nx_numbers.specs.Sizes.{entry_size}
use Rattle.nx_host.specs.Disk.{Image}
use Rattle.nx_host.specs.Host.{Appends}
use Rattle.nx_host.specs.Still.{IsStill}
use Rattle.nx_host.specs.declared.disk.Disk.{Ghosts}
use Rattle.nx_host.proofs.DiskLemmas.{settled_still}
use Rattle.nx_replay.specs.Log.{Entry, Group, entry_bytes, group_bytes, groups}
use Rattle.nx_wal.specs.Wal.{IsInStep}
use Rattle.nx_wal.specs.Reading.{IsHeadFor, ArePagesOf}
use Rattle.nx_wal.specs.declared.reading.GroupHead.{GroupHead}
use Rattle.nx_wal.specs.declared.wal.Wal.{Wal}
use Rattle.nx_ship.specs.Sending.{Sends}
use Rattle.nx_ship.specs.Sent.{SendsMore, SendsSome, SendsPart, StopsAtPart, SendsGroup, StopsAtGroup, IsWanted, SendsWanted, StopsAtWanted, IsPrefix}
use Rattle.nx_ship.proofs.SendLemmas.{more_then, some_then, more_now, sent_none, asks_more, asks_some, gives_none, gives_block, gives_some, some_nothing, adds_block, step_sent}
use Rattle.nx_ship.proofs.SendingLemmas.{told_before, prefix_all, prefix_none, prefix_behind}
use Rattle.nx_ship.proofs.PageLemmas.{entry_bytes-append, group_parts}

-- the first pages, those behind them, and the others
parts_of : (es : List Entry) (n m count : ℕ) → n + m ≤ count
    → entry_bytes (take n es) ++ (entry_bytes (take m (drop n es)) ++ entry_bytes (take (count - (n + m)) (drop (n + m) es))) ≡ entry_bytes (take count es)
parts_of es n m count fits =
    let rest = take (count - (n + m)) (drop (n + m) es) in
    let all : (n + m) + (count - (n + m)) ≡ count = omega (arith, fits) in
    sym (append_assoc (entry_bytes (take n es)) (entry_bytes (take m (drop n es))) (entry_bytes rest))
    ∙ ap (λ (l : List ℕ). l ++ entry_bytes rest) (sym (entry_bytes-append (take n es) (take m (drop n es))) ∙ ap (λ (l : List Entry). entry_bytes l) (sym (take-add n m es)))
    ∙ sym (entry_bytes-append (take (n + m) es) rest) ∙ ap (λ (l : List Entry). entry_bytes l) (sym (take-add (n + m) (count - (n + m)) es)) ∙ ap (λ (k : ℕ). entry_bytes (take k es)) all

head_bytes : (g : Group) (head : GroupHead) → IsHeadFor g head → (big_bytes 8 head.number ++ big_bytes 4 head.count) ++ entry_bytes (take head.count g.entries) ≡ group_bytes g
head_bytes g head is =
    let whole : take head.count g.entries ≡ g.entries = take_all head.count g.entries (let count = is.count in omega (arith, count)) in
    ap (λ (l : List Entry). (big_bytes 8 head.number ++ big_bytes 4 head.count) ++ entry_bytes l) whole
    ∙ ap (λ (n : ℕ). (big_bytes 8 n ++ big_bytes 4 head.count) ++ entry_bytes g.entries) is.number
    ∙ group_parts g (big_bytes 4 head.count) (ap (λ (n : ℕ). big_bytes 4 n) is.count)

pub wanted_by : (number : ℕ) (found : Bool) (head : GroupHead) → ((found ≡ false) × (head.number ≡ number)) ⊎ (found ≡ true) → (found ≡ true) ⊎ ((head.number == number) ≡ true)
wanted_by number found head (inl (before, here)) = inr (eq-eqb head.number number here)
wanted_by number found head (inr before) = inl before

-- the room for so many pages, and what was read into it
pub room_of : (n : ℕ) (part : List ℕ) → n ≤ 8 → length part ≡ 65568 → length (take (entry_size * n) part) ≡ entry_size * n
room_of n part few room = omega (arith, length-take (entry_size * n) part, few, room)

pub first_read : (n : ℕ) (part into : List ℕ) → n ≤ 8 → length part ≡ 65568 → length into ≡ length (take (entry_size * n) part) → take (entry_size * n) (into ++ drop (entry_size * n) part) ≡ into
first_read n part into few room long =
    let same : length into ≡ entry_size * n = long ∙ room_of n part few room in
    ap (λ (k : ℕ). take k (into ++ drop (entry_size * n) part)) (sym same) ∙ take-append_seam into (drop (entry_size * n) part)

wanted_is : (number : ℕ) (found : Bool) (g : Group) (head : GroupHead) → IsHeadFor g head → (found ≡ true) ⊎ ((head.number == number) ≡ true) → IsWanted number found g
wanted_is number found g head is (inl before) = inl before
wanted_is number found g head is (inr here) = inr (ap (λ (n : ℕ). n == number) (sym is.number) ∙ here)

module _ {D : Type 0} {d : Ghosts D} where
  -- what was told stays so while nothing but the disk is asked
  pub told_still : {a b : D} → IsStill d a b → IsSome (d.contents b) → IsSome (d.contents a)
  told_still still told = subst (λ o. IsSome o) still.contents_stay told

  -- the log stays in step
  pub step_still : {wal : Wal} {was : Image} {a b : D} → IsStill d a b → IsInStep d wal a was → IsInStep d wal b was
  step_still still step = record { settled = settled_still still step.settled; follows = step.follows }

  -- Bytes:

  -- the block was given, and then they were
  pub bytes_behind : (bytes : List ℕ) {p : List ℕ} {a b c : D} → SendsMore d [] p [] a b → Appends bytes (d.beside b).output (d.beside c).output → Sends d bytes b c → SendsMore d bytes p [] a c
  bytes_behind bytes {b = b} {c = c} gives appends sends =
      let behind : SendsMore d (bytes ++ []) [] [] b c = more_then bytes [] (adds_block {d = d} bytes [] {a = b}) (gives_block bytes appends sends) in
      more_then [] bytes gives (subst (λ (l : List ℕ). SendsMore d l [] [] b c) (append-nil bytes) behind)

  -- ... but not all of them
  pub bytes_cut : (bytes : List ℕ) {p : List ℕ} {a b c : D} → SendsMore d [] p [] a b → Sends d bytes b c → SendsSome d bytes p a c
  bytes_cut bytes {b = b} {c = c} gives sends =
      let behind : SendsSome d (bytes ++ []) [] b c = some_then bytes [] (adds_block {d = d} bytes [] {a = b}) (gives_some bytes sends) in
      some_then [] bytes gives (subst (λ (l : List ℕ). SendsSome d l [] b c) (append-nil bytes) behind)

  -- they were added to the block, and it was given where it is full
  pub bytes_added : (bytes : List ℕ) {p q : List ℕ} {a c : D} → SendsMore d [] (p ++ bytes) q a c → SendsMore d bytes p q a c
  bytes_added bytes {p = p} {q = q} {a = a} {c = c} gives = subst (λ (l : List ℕ). SendsMore d l p q a c) (append-nil bytes) (more_then bytes [] (adds_block {d = d} bytes p {a = a}) gives)

  pub bytes_unadded : (bytes : List ℕ) {p : List ℕ} {a c : D} → SendsSome d [] (p ++ bytes) a c → SendsSome d bytes p a c
  bytes_unadded bytes {p = p} {a = a} {c = c} gives = subst (λ (l : List ℕ). SendsSome d l p a c) (append-nil bytes) (some_then bytes [] (adds_block {d = d} bytes p {a = a}) gives)

  -- Pages:

  pub part_none : (index : ℕ) (wal : Wal) (block : List ℕ) (a : D) → SendsPart d index 0 0 wal block block a a
  part_none index wal block a = record { bytes = []; sends = gives_none block; are = λ was step empty told g here within. refl }

  -- they were read, and sent
  pub part_sent : {wal : Wal} {p q : List ℕ} {a m c : D} (index first count : ℕ) (bytes : List ℕ) → IsStill d a m
      → ((was : Image) → IsInStep d wal a was → (g : Group) → slice_get (groups was.log) index ≡ Some g → ArePagesOf g first (entry_size * count) bytes) → SendsMore d bytes p q m c
      → SendsPart d index first count wal p q a c
  part_sent {p = p} index first count bytes still read sends = record {
    bytes = bytes;
    sends = more_then [] bytes (asks_more p still) sends;
    are = λ was step empty told g here within. read was step g here count refl within;
  }

  -- ... but not all of them
  pub part_cut : {wal : Wal} {p : List ℕ} {a m c : D} (index first count : ℕ) (bytes : List ℕ) → IsStill d a m
      → ((was : Image) → IsInStep d wal a was → (g : Group) → slice_get (groups was.log) index ≡ Some g → ArePagesOf g first (entry_size * count) bytes) → SendsSome d bytes p m c
      → StopsAtPart d index first count wal p a c
  part_cut {p = p} index first count bytes still read sends = record {
    bytes = bytes;
    sends = some_then [] bytes (asks_more p still) sends;
    are = λ was step empty told g here within. subst (λ (l : List ℕ). IsPrefix bytes l) (read was step g here count refl within) (prefix_all bytes);
  }

  -- they weren't read
  pub part_unread : {wal : Wal} {p : List ℕ} {a m : D} (index first count : ℕ) → IsStill d a m → StopsAtPart d index first count wal p a m
  part_unread {p = p} index first count still = record { bytes = []; sends = asks_some [] p still; are = λ was step empty told g here within. prefix_none _ }

  -- more pages
  pub parts_then : {wal : Wal} {p q r : List ℕ} {a b c : D} (index n m : ℕ) → SendsPart d index 0 n wal p q a b → SendsPart d index n m wal q r b c → SendsPart d index 0 (n + m) wal p r a c
  parts_then {b = b} {c = c} index n m sent part = record {
    bytes = sent.bytes ++ part.bytes;
    sends = more_then sent.bytes part.bytes sent.sends part.sends;
    are = λ was step empty told g here within.
        let told_b : IsSome (d.contents b) = told_before (d.contents b) (d.contents c) ((more_now part.bytes part.sends).contents_stay) told in
        let es = g.entries in
        let one = sent.are was step empty told_b g here (omega (arith, within)) in
        let two = part.are was (step_sent _ (more_now sent.bytes sent.sends) told_b step) empty told g here (omega (arith, within)) in
        ap (λ (l : List ℕ). l ++ part.bytes) one ∙ ap (λ (l : List ℕ). entry_bytes (take n es) ++ l) two ∙ sym (entry_bytes-append (take n es) (take m (drop n es)))
        ∙ ap (λ (l : List Entry). entry_bytes l) (sym (take-add n m es));
  }

  pub parts_stop : {wal : Wal} {p q : List ℕ} {a b c : D} (index n m count : ℕ) → n + m ≤ count → SendsPart d index 0 n wal p q a b → StopsAtPart d index n m wal q b c → StopsAtPart d index 0 count wal p a c
  parts_stop {q = q} {b = b} {c = c} index n m count fits sent part = record {
    bytes = sent.bytes ++ part.bytes;
    sends = some_then sent.bytes part.bytes sent.sends part.sends;
    are = λ was step empty told g here within.
        let told_b : IsSome (d.contents b) = told_before (d.contents b) (d.contents c) ((part.sends q b (sent_none q b)).contents_stay) told in
        let es = g.entries in
        let one = sent.are was step empty told_b g here (omega (arith, within, fits)) in
        let two = part.are was (step_sent _ (more_now sent.bytes sent.sends) told_b step) empty told g here (omega (arith, within, fits)) in
        let rest = entry_bytes (take (count - (n + m)) (drop (n + m) es)) in
        subst (λ (l : List ℕ). IsPrefix (sent.bytes ++ part.bytes) l) (ap (λ (l : List ℕ). l ++ (entry_bytes (take m (drop n es)) ++ rest)) one ∙ parts_of es n m count fits)
        (prefix_behind sent.bytes part.bytes (entry_bytes (take m (drop n es))) rest two);
  }

  -- A group:

  pub group_sent : {wal : Wal} {p r : List ℕ} {a c : D} (index : ℕ) (head : GroupHead) → SendsPart d index 0 head.count wal (p ++ (big_bytes 8 head.number ++ big_bytes 4 head.count)) r a c
      → SendsGroup d index head wal p r a c
  group_sent {p = p} {a = a} index head part =
      let x = big_bytes 8 head.number ++ big_bytes 4 head.count in
      record {
        bytes = x ++ part.bytes;
        sends = more_then x part.bytes (adds_block {d = d} x p {a = a}) part.sends;
        are = λ was step empty told g here is.
            let count = is.count in
            ap (λ (l : List ℕ). x ++ l) (part.are was step empty told g here (omega (arith, count))) ∙ head_bytes g head is;
      }

  pub group_cut : {wal : Wal} {p : List ℕ} {a c : D} (index : ℕ) (head : GroupHead) → StopsAtPart d index 0 head.count wal (p ++ (big_bytes 8 head.number ++ big_bytes 4 head.count)) a c
      → StopsAtGroup d index head wal p a c
  group_cut {p = p} {a = a} index head part =
      let x = big_bytes 8 head.number ++ big_bytes 4 head.count in
      record {
        bytes = x ++ part.bytes;
        sends = some_then x part.bytes (adds_block {d = d} x p {a = a}) part.sends;
        are = λ was step empty told g here is.
            let count = is.count in
            let pages = entry_bytes (take head.count g.entries) in
            subst (λ (l : List ℕ). IsPrefix (x ++ part.bytes) l) (ap (λ (l : List ℕ). x ++ l) (append-nil pages) ∙ head_bytes g head is)
            (prefix_behind x part.bytes pages [] (part.are was step empty told g here (omega (arith, count))));
      }

  pub group_unbegun : {wal : Wal} {p : List ℕ} {a : D} (index : ℕ) (head : GroupHead) → StopsAtGroup d index head wal p a a
  group_unbegun {p = p} {a = a} index head = record { bytes = []; sends = some_nothing [] p a; are = λ was step empty told g here is. prefix_none _ }

  -- Its head was read:

  -- the group is sent
  pub wanted_sent : {wal : Wal} {p r : List ℕ} {a m c : D} (number index : ℕ) (found : Bool) (head : GroupHead) → IsStill d a m
      → ((was : Image) → IsInStep d wal a was → (g : Group) → slice_get (groups was.log) index ≡ Some g → IsHeadFor g head) → (found ≡ true) ⊎ ((head.number == number) ≡ true)
      → SendsGroup d index head wal p r m c → SendsWanted d number index wal found true p r a c
  wanted_sent {p = p} number index found head still read wanted group = record {
    bytes = group.bytes;
    sends = more_then [] group.bytes (asks_more p still) group.sends;
    are = λ was step empty told g here.
        let is = read was step g here in
        (wanted_is number found g head is wanted, group.are was (step_still still step) empty told g here is);
  }

  -- ... but not all of it
  pub wanted_cut : {wal : Wal} {p : List ℕ} {a m c : D} (number index : ℕ) (found : Bool) (head : GroupHead) → IsStill d a m
      → ((was : Image) → IsInStep d wal a was → (g : Group) → slice_get (groups was.log) index ≡ Some g → IsHeadFor g head) → (found ≡ true) ⊎ ((head.number == number) ≡ true)
      → StopsAtGroup d index head wal p m c → StopsAtWanted d number index wal found p a c
  wanted_cut {p = p} number index found head still read wanted group = record {
    bytes = group.bytes;
    sends = some_then [] group.bytes (asks_more p still) group.sends;
    are = λ was step empty told g here.
        let is = read was step g here in
        inr (wanted_is number found g head is wanted, group.are was (step_still still step) empty told g here is);
  }

  -- ... or it isn't wanted
  pub wanted_passed : {wal : Wal} {p : List ℕ} {a m : D} (number index : ℕ) (found : Bool) (head : GroupHead) → IsStill d a m
      → ((was : Image) → IsInStep d wal a was → (g : Group) → slice_get (groups was.log) index ≡ Some g → IsHeadFor g head) → found ≡ false → (head.number == number) ≡ false
      → SendsWanted d number index wal found false p p a m
  wanted_passed number index found head still read before not_here = (
    before,
    refl,
    still,
    λ was step empty g here. ap (λ (n : ℕ). n == number) (sym (read was step g here).number) ∙ not_here,
  )

  -- ... or there is no head
  pub wanted_unread : {wal : Wal} {p : List ℕ} {a m : D} (number index : ℕ) (found : Bool) → IsStill d a m → StopsAtWanted d number index wal found p a m
  wanted_unread {p = p} number index found still = record { bytes = []; sends = asks_some [] p still; are = λ was step empty told g here. inl refl }
