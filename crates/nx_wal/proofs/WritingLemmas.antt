-- Writes one after the other are one write.
use Rattle.std.proofs.Common.{◌≡◌, ℕ, ◌+◌, ◌-◌, ◌*◌, ◌^◌, ◌<◌, ◌≤◌, List, [], ◌∷◌, ◌++◌, length, take, drop, refl, sym, ap, subst, ◌∙◌, arith, inl, inr, append_assoc, Bool, true}
use Rattle.std.proofs.Common.{length-take, take-append-drop}
use Rattle.std.proofs.lemmas.List.{take-take, drop-drop, drop-take, take_min, take_all}
use Rattle.std.specs.Prelude.{Some, IsSome, min, max}
use Rattle.nx_host.proofs.TornLemmas.{torn_self}
use Rattle.nx_host.specs.declared.disk.Area.TheVariants.{Log}
use Rattle.nx_host.specs.Disk.{Image, Torn, Written, TearsIn, WritesTo, ComesTorn}
use Rattle.nx_host.specs.declared.disk.Disk.{Ghosts}
use Rattle.nx_host.specs.Still.{IsSettled}
use Rattle.nx_host.proofs.DiskLemmas.{written_alone_then, written_alone_weaker, none_written}
use Rattle.nx_replay.proofs.CommitMoments.{Shuts, LaysGroup}
use Rattle.nx_replay.proofs.SettledLemmas.{some_of, is_some, from_settled}
use Rattle.nx_replay.proofs.StepLemmas.{drop_taken}
use Rattle.std.proofs.Common.{length-append}
use Rattle.std.proofs.lemmas.List.{map-append, append-nil, length-map}
use Rattle.std.specs.List.{AllByRecursion}
use Rattle.byteorder.specs.Endian.{big_bytes}
use Rattle.byteorder.specs.Numbers.{length-bytes_high_first}
use Rattle.nx_replay.specs.Log.{Entry, entry_bytes, group_bytes, groups, end_of, IsLogEnd}
use Rattle.nx_replay.proofs.GroupLemmas.{end-within, zero_or_more, prefix-less}
use Rattle.nx_replay.specs.Log.{Group}
use Rattle.nx_replay.specs.Commit.{IsOpened, IsBody, IsGroupLaid}
use Rattle.nx_wal.specs.Places.{Kept}
use Rattle.nx_wal.specs.Writing.{Writes, Lays, StandsBehind, entries_of, body_of, head_of}
use Rattle.nx_wal.proofs.ReadingLemmas.{some_same}

take_self : (xs : List ℕ) → take (length xs) xs ≡ xs
take_self xs = take_all (length xs) xs (omega arith)

take_upto : (n : ℕ) (xs : List ℕ) → take (min n (length xs)) xs ≡ take n xs
take_upto n xs = take_min n xs

take_both : (n m : ℕ) (xs : List ℕ) → take (n + m) xs ≡ take n xs ++ take m (drop n xs)
take_both n m xs =
    sym (take-append-drop n (take (n + m) xs)) ∙ ap (λ (l : List ℕ). l ++ drop n (take (n + m) xs)) (take-take n (n + m) xs (omega arith))
    ∙ ap (λ (l : List ℕ). take n xs ++ l) (drop-take n m xs)

-- A write that a stop cuts short, and one behind it.
pub torn_then : (at n m : ℕ) (old mid new : List ℕ) → Torn at n old mid → Torn (at + n) m mid new → Torn at (n + m) old new
torn_then at n m old mid new first second =
    let longer : length old ≤ length mid = first.no_shorter in
    let longest : length mid ≤ length new = second.no_shorter in
    let k = at + (n + m) in
    let k_is : at + n + m ≡ at + (n + m) = omega arith in
    record {
      before = sym (take-take (min at (length old)) (min (at + n) (length mid)) new (omega (arith, longer)))
          ∙ ap (λ (x : List ℕ). take (min at (length old)) x) second.before ∙ take-take (min at (length old)) (at + n) mid (omega arith) ∙ first.before;
      after = ap (λ (x : List ℕ). drop k x) (sym (take-take (length old) (length mid) new longer)) ∙ drop_taken k (length old) (take (length mid) new)
          ∙ ap (λ (x : List ℕ). take (length old - k) x) (subst (λ (j : ℕ). drop j (take (length mid) new) ≡ drop j mid) k_is second.after)
          ∙ sym (drop_taken k (length old) mid) ∙ ap (λ (j : ℕ). drop j (take (length old) mid)) (sym k_is) ∙ sym (drop-drop m (at + n) (take (length old) mid))
          ∙ ap (λ (x : List ℕ). drop m x) first.after ∙ drop-drop m (at + n) old ∙ ap (λ (j : ℕ). drop j old) k_is;
      no_shorter = omega (arith, longer, longest);
      no_longer = let a = first.no_longer in let b = second.no_longer in omega (arith, a, b);
    }

pub torn_wider : (at n m : ℕ) (old new : List ℕ) → n ≤ m → Torn at n old new → Torn at m old new
torn_wider at n m old new wider torn =
    let m_is : at + n + (m - n) ≡ at + m = omega (arith, wider) in
    record {
      before = torn.before;
      after = ap (λ (j : ℕ). drop j (take (length old) new)) (sym m_is) ∙ sym (drop-drop (m - n) (at + n) (take (length old) new)) ∙ ap (λ (x : List ℕ). drop (m - n) x) torn.after
          ∙ drop-drop (m - n) (at + n) old ∙ ap (λ (j : ℕ). drop j old) m_is;
      no_shorter = torn.no_shorter;
      no_longer = let a = torn.no_longer in omega (arith, a, wider);
    }

-- A write that is done, and one behind it.
pub written_then : (at : ℕ) (x y old mid new : List ℕ) → Written at x old mid → Written (at + length x) y mid new → Written at (x ++ y) old new
written_then at x y old mid new first second =
    let a : length mid ≡ max (length old) (at + length x) = first.long in
    let b : length new ≡ max (length mid) (at + length x + length y) = second.long in
    let least : min (at + length x) (length mid) ≡ at + length x = omega (arith, a) in
    let prefix : take (at + length x) new ≡ take (at + length x) mid = rw least at second.before in
    let both : length (x ++ y) ≡ length x + length y = length-append x y in
    let here : take (length x) (drop at new) ≡ x = sym (drop-take at (length x) new) ∙ ap (λ (l : List ℕ). drop at l) prefix ∙ drop-take at (length x) mid ∙ first.here in
    let there : take (length y) (drop (length x) (drop at new)) ≡ y = ap (λ (l : List ℕ). take (length y) l) (drop-drop (length x) at new) ∙ second.here in
    let k_is : at + length (x ++ y) ≡ at + length x + length y = omega (arith, both) in
    record {
      before = sym (take-take (min at (length old)) (at + length x) new (omega arith)) ∙ ap (λ (l : List ℕ). take (min at (length old)) l) prefix
          ∙ take-take (min at (length old)) (at + length x) mid (omega arith) ∙ first.before;
      here = ap (λ (n : ℕ). take n (drop at new)) both ∙ take_both (length x) (length y) (drop at new) ∙ ap (λ (l : List ℕ). l ++ take (length y) (drop (length x) (drop at new))) here
          ∙ ap (λ (l : List ℕ). x ++ l) there;
      after = ap (λ (n : ℕ). drop n new) k_is ∙ second.after ∙ sym (drop-drop (length y) (at + length x) mid) ∙ ap (λ (l : List ℕ). drop (length y) l) first.after
          ∙ drop-drop (length y) (at + length x) old ∙ ap (λ (n : ℕ). drop n old) (sym k_is);
      long = omega (arith, a, b, both);
    }

comes_wider : {D : Type 0} (d : Ghosts D) (at n m : ℕ) (a : D) (i : Image) → n ≤ m → ComesTorn Log at n (d.may_leave a) i → ComesTorn Log at m (d.may_leave a) i
comes_wider d at n m a i wider torn =
    let t : TearsIn Log at n torn.0 i = torn.2 in
    (torn.0, torn.1, record { here = torn_wider at n m (torn.0).log i.log wider t.here; there = t.there })

module _ {D : Type 0} {d : Ghosts D} where
  comes_then : {at n : ℕ} {a b : D} (m : ℕ) (i : Image) → Writes d at n a b → ComesTorn Log (at + n) m (d.may_leave b) i → ComesTorn Log at (n + m) (d.may_leave a) i
  comes_then {at = at} {n = n} m i writes torn =
      let first = writes.images torn.0 torn.1 in
      let t : TearsIn Log at n first.0 torn.0 = first.2 in
      let u : TearsIn Log (at + n) m torn.0 i = torn.2 in
      (first.0, first.1, record { here = torn_then at n m (first.0).log (torn.0).log i.log t.here u.here; there = u.there ∙ t.there })

  pub writes_then : {at n m : ℕ} {a b c : D} → Writes d at n a b → Writes d (at + n) m b c → Writes d at (n + m) a c
  writes_then {at = at} {n = n} {m = m} {a = a} first second = record {
    goes = written_alone_then (written_alone_weaker first.goes (λ told i torn. comes_wider d at n (n + m) a i (omega arith) torn)) second.goes (λ told i torn. comes_then m i first torn);
    images = λ i left. comes_then m i first (second.images i left);
    reads_stay = second.reads_stay ∙ first.reads_stay;
  }

  pub writes_wider : {at n : ℕ} {a b : D} (m : ℕ) → Writes d at n a b → n ≤ m → Writes d at m a b
  writes_wider {at = at} {n = n} {a = a} m first wider = record {
    goes = written_alone_weaker first.goes (λ told i torn. comes_wider d at n m a i wider torn);
    images = λ i left. comes_wider d at n m a i wider (first.images i left);
    reads_stay = first.reads_stay;
  }

  -- the same where the numbers are equal
  pub writes_more : {at n there m : ℕ} {a b c : D} (k : ℕ) → Writes d at n a b → Writes d there m b c → there ≡ at + n → n + m ≡ k → Writes d at k a c
  writes_more {at = at} {m = m} {a = a} {b = b} {c = c} k first second there_is k_is =
      subst (λ (j : ℕ). Writes d at j a c) k_is (writes_then first (subst (λ (j : ℕ). Writes d j m b c) there_is second))

  pub writes_none : (at : ℕ) (a : D) → Writes d at 0 a a
  writes_none at a = record {
    goes = none_written;
    images = λ i left. (i, left, record { here = torn_self at 0 i.log; there = refl });
    reads_stay = refl;
  }

  pub lays_none : (at : ℕ) (a : D) → Lays d at [] a a
  lays_none at a = record {
    written = λ was now told_was told_now fits.
        subst (λ (i : Image). WritesTo Log at [] was i) (some_same (sym told_was ∙ told_now)) (
        record {
          here = record { before = take_upto at was.log; here = refl; after = refl; long = omega (arith, fits) };
          there = refl;
        }
        );
  }

  pub lays_then : {at there n : ℕ} {x y : List ℕ} {a b c : D} → Lays d at x a b → Writes d there n b c → Lays d there y b c → there ≡ at + length x → Lays d at (x ++ y) a c
  lays_then {at = at} {there = there} {x = x} {y = y} {b = b} {c = c} first goes second there_is = record {
    written = λ was now told_was told_now fits.
        let told = (goes.goes).told (is_some (d.contents c) told_now) in
        let mid = some_of (d.contents b) told in
        let f : WritesTo Log at x was mid.0 = first.written was mid.0 told_was mid.1 fits in
        let w : Written at x was.log (mid.0).log = f.here in
        let long : length (mid.0).log ≡ max (length was.log) (at + length x) = w.long in
        let s : WritesTo Log there y mid.0 now = second.written mid.0 now mid.1 told_now (omega (arith, long, there_is)) in
        let t : WritesTo Log (at + length x) y mid.0 now = subst (λ (j : ℕ). WritesTo Log j y mid.0 now) there_is s in
        record { here = written_then at x y was.log (mid.0).log now.log f.here t.here; there = t.there ∙ f.there };
  }

-- The bytes of one page more.
pub entry_bytes-append : (es fs : List Entry) → entry_bytes (es ++ fs) ≡ entry_bytes es ++ entry_bytes fs
entry_bytes-append [] fs = refl
entry_bytes-append (e ∷ es) fs =
    ap (λ (x : List ℕ). big_bytes 4 e.page ++ (e.bytes ++ x)) (entry_bytes-append es fs)
    ∙ ap (λ (x : List ℕ). big_bytes 4 e.page ++ x) (sym (append_assoc e.bytes (entry_bytes es) (entry_bytes fs)))
    ∙ sym (append_assoc (big_bytes 4 e.page) (e.bytes ++ entry_bytes es) (entry_bytes fs))

pub page_more : (es : List (ℕ × Kept)) (e : ℕ × Kept) → entry_bytes (entries_of (es ++ e ∷ [])) ≡ entry_bytes (entries_of es) ++ (big_bytes 4 e.0 ++ e.1.value.bytes)
page_more es e =
    ap entry_bytes (map-append (λ (e : ℕ × Kept). record { page = e.0; bytes = e.1.value.bytes }) es (e ∷ []))
    ∙ entry_bytes-append (entries_of es) (entries_of (e ∷ []))
    ∙ ap (λ (x : List ℕ). entry_bytes (entries_of es) ++ (big_bytes 4 e.0 ++ x)) (append-nil e.1.value.bytes)

-- so many pages' bytes, each page being whole
pub pages_long : (es : List (ℕ × Kept)) → AllByRecursion (λ (e : ℕ × Kept). length e.1.value.bytes ≡ 8192) es → length (entry_bytes (entries_of es)) ≡ 8196 * length es
pages_long [] are = refl
pages_long (e ∷ es) are =
    let rest = pages_long es are.1 in
    let here : length e.1.value.bytes ≡ 8192 = are.0 in
    omega (arith, rest, here, length-append (big_bytes 4 e.0) (e.1.value.bytes ++ entry_bytes (entries_of es)), length-append e.1.value.bytes (entry_bytes (entries_of es)), length-bytes_high_first 4 e.0)

pub image_same : (a b : Image) → a.pages ≡ b.pages → a.log ≡ b.log → a ≡ b
image_same a b pages log = λ i. record { pages = pages i; log = log i }

-- what was written, once it is durable
pub synced : {D : Type 0} {d : Ghosts D} {at n : ℕ} {bytes : List ℕ} {a b c : D} {was now : Image} → Writes d at n a b → Lays d at bytes a b → ((i : Image) → d.may_leave c i → d.may_leave b i)
    → ((now : Image) → d.contents c ≡ Some now → (d.contents b ≡ Some now) × ((i : Image) → d.may_leave c i → i.log ≡ now.log))
    → IsSettled d a was → at ≤ length was.log → d.contents c ≡ Some now → WritesTo Log at bytes was now × IsSettled d c now
synced {at = at} {n = n} {bytes = bytes} {was = was} {now = now} writes lays images durable settled fits told =
    let done = durable now told in
    let w : WritesTo Log at bytes was now = lays.written was now settled.here done.0 fits in (
      w,
      record {
        here = told;
        only = λ i left.
            let torn : TearsIn Log at n was i = from_settled Log at n settled (writes.images i (images i left)) in
            image_same i now (torn.there ∙ sym w.there) (done.1 i left);
      },
    )

-- the log ends within its bytes
pub end_fits : (end : ℕ) (shut : Bool) (log : List ℕ) → IsLogEnd end shut log → end ≤ length log
end_fits end shut log at =
    let here : end ≡ end_of (groups log) = at.here in
    elim (zero_or_more (end_of (groups log))) [
      | inl none ↦ omega (arith, here, none)
      | inr more ↦ let less = end-within (length (take (2 ^ 63) log)) (take (2 ^ 63) log) (omega arith) more in omega (arith, here, less, length-take (2 ^ 63) log)
    ]

-- Group bytes.
pub body_parts : (number : ℕ) (es : List (ℕ × Kept)) → (head_of number (length es) ++ entry_bytes (entries_of es)) ++ 0 ∷ [] ≡ body_of number es
unfolding group_bytes
body_parts number es =
    let count : length (entries_of es) ≡ length es = simp length-map in
    ap (λ (n : ℕ). (head_of number n ++ entry_bytes (entries_of es)) ++ 0 ∷ []) (sym count)
    ∙ ap (λ (x : List ℕ). x ++ 0 ∷ []) (append_assoc (big_bytes 8 number) (big_bytes 4 (length (entries_of es))) (entry_bytes (entries_of es)))

pub head_long : (number count : ℕ) → length (head_of number count) ≡ 12
head_long number count = omega (arith, length-append (big_bytes 8 number) (big_bytes 4 count), length-bytes_high_first 8 number, length-bytes_high_first 4 count)

-- What stands before a write and behind it.
pub prefix_written : (at : ℕ) (bytes : List ℕ) (was now : Image) → at ≤ length was.log → WritesTo Log at bytes was now → take at now.log ≡ take at was.log
prefix_written at bytes was now fits writes =
    let w : Written at bytes was.log now.log = writes.here in
    let least : min at (length was.log) ≡ at = omega (arith, fits) in
    rw least at w.before

pub stands_behind : (at : ℕ) (bytes : List ℕ) (was now : Image) → at < length was.log → WritesTo Log (at + 1) bytes was now → StandsBehind at bytes was now
stands_behind at bytes was now fits writes =
    let w : Written (at + 1) bytes was.log now.log = writes.here in
    record {
      prefix = prefix-less at (at + 1) now.log was.log (omega arith) (prefix_written (at + 1) bytes was now (omega (arith, fits)) writes);
      behind = w.here;
    }

pub told_once : {D : Type 0} (d : Ghosts D) (a : D) (was now : Image) → IsSettled d a was → d.contents a ≡ Some now → was ≡ now
told_once d a was now settled told = some_same (sym settled.here ∙ told)

-- What the steps of a commit leave of the log's bytes: its beginning, the bytes that were laid, and all but the gate.
abbrev pub KeepsPrefix : {D : Type 0} → Ghosts D → ℕ → Bool → D → D → Type 0
KeepsPrefix d end shut a b = (was now : Image) → IsOpened d end shut a was → d.contents b ≡ Some now → take end now.log ≡ take end was.log

abbrev pub LaysBody : {D : Type 0} → Ghosts D → ℕ → List ℕ → D → D → Type 0
LaysBody d end body b c = (was now : Image) → IsOpened d end true b was → d.contents c ≡ Some now → StandsBehind end body was now

abbrev pub KeepsRest : {D : Type 0} → Ghosts D → ℕ → D → D → Type 0
KeepsRest d end c e = (was now : Image) (g : Group) → IsGroupLaid d g end c was → d.contents e ≡ Some now → (take end now.log ≡ take end was.log) × (drop (end + 1) now.log ≡ drop (end + 1) was.log)

abbrev pub GroupStands : {D : Type 0} → Ghosts D → ℕ → Bool → List ℕ → D → D → Type 0
GroupStands d end shut body a e = (was now : Image) (g : Group) → IsOpened d end shut a was → IsBody g end body → d.contents e ≡ Some now → StandsBehind end body was now

pub group_stands : {D : Type 0} {d : Ghosts D} {a b c e : D} (end : ℕ) (shut : Bool) (body : List ℕ) → Shuts d end shut a b × KeepsPrefix d end shut a b → (IsSome (d.contents c) → IsSome (d.contents b))
    → LaysGroup d end body b c × LaysBody d end body b c → (IsSome (d.contents e) → IsSome (d.contents c)) → KeepsRest d end c e → GroupStands d end shut body a e
group_stands {d = d} {b = b} {c = c} {e = e} end shut body first second_told second third_told third was now g opened is told =
    let far = some_of (d.contents c) (third_told (is_some (d.contents e) told)) in
    let mid = some_of (d.contents b) (second_told (is_some (d.contents c) far.1)) in
    let one = first.0 was mid.0 opened mid.1 in
    let two = second.0 mid.0 far.0 g one.1 is far.1 in
    let laid = second.1 mid.0 far.0 one.1 far.1 in
    let done = third far.0 now g two.1 told in
    record {
      prefix = done.0 ∙ laid.prefix ∙ first.1 was mid.0 opened mid.1;
      behind = ap (λ (x : List ℕ). take (length body) x) done.1 ∙ laid.behind;
    }

pub behind_written : (at gate : ℕ) (was now : Image) → WritesTo Log at (gate ∷ []) was now → drop (at + 1) now.log ≡ drop (at + 1) was.log
behind_written at gate was now writes = let w : Written at (gate ∷ []) was.log now.log = writes.here in w.after
