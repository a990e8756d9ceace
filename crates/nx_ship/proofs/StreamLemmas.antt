-- Streams of groups, by their bytes.
use Rattle.std.proofs.Common.{◌≡◌, ◌⊎◌, ℕ, zero, suc, ◌+◌, ◌<◌, ◌≤◌, List, [], ◌∷◌, ◌++◌, length, drop, refl, sym, ap, subst, ◌∙◌, arith, inl, inr}
use Rattle.std.proofs.Common.{append_assoc, length-append, length-drop}
use Rattle.std.proofs.lemmas.List.{drop_at, append-nil}
use Rattle.std.specs.List.{AllByRecursion}
use Rattle.byteorder.specs.Endian.{big_number}
use Rattle.nx_replay.specs.Log.{Entry, Group, entries_in, rise, group_page_count, entry_bytes, group_bytes, IsWhole}
use Rattle.nx_replay.proofs.GroupLemmas.{length-entries_in, group-begins, length-group_bytes, entries-written}
use Rattle.nx_ship.proofs.ToldLemmas.{good_told}
use Rattle.nx_ship.specs.Stream.{count_in, size_with, group_in, BeginsWithHeader, IsGood, Begins, IsStream, stream_length, stream_of, MaySend, OneStream, SomeStream, HasLength, ReadsBack, StreamEndsWell}

one_from : (gs hs : List Group) (bytes rest tail : List ℕ) → Begins gs bytes rest → (IsGood rest → ⊥) → Begins hs bytes tail → (IsGood tail → ⊥) → (gs ≡ hs) × (rest ≡ tail)
one_from [] [] bytes rest tail a na b nb = (refl, a ∙ sym b)
one_from [] (h ∷ hs) bytes rest tail a na b nb = absurd (na (subst IsGood (sym a) b.0))
one_from (g ∷ gs) [] bytes rest tail a na b nb = absurd (nb (subst IsGood (sym b) a.0))
one_from (g ∷ gs) (h ∷ hs) bytes rest tail a na b nb =
    let more = one_from gs hs (drop (size_with (count_in bytes)) bytes) rest tail a.2 na b.2 nb in
    let first : g ≡ h = a.1 ∙ sym b.1 in
    let same : gs ≡ hs = more.0 in
    (rw (first, same) refl, more.1)

pub one_stream : OneStream
one_stream bytes gs hs rest tail a b = one_from gs hs bytes rest tail a.begins a.ends b.begins b.ends

some_from : ((bytes : List ℕ) → IsGood bytes ⊎ (IsGood bytes → ⊥)) → (fuel : ℕ) (bytes : List ℕ) → length bytes ≤ fuel → (gs : List Group) × (rest : List ℕ) × IsStream bytes gs rest
some_from tell zero bytes fits = ([], bytes, record { begins = refl; ends = λ good. let w = good.whole in omega (arith, w, fits) })
some_from tell (suc fuel) bytes fits =
    elim (tell bytes) [
      | inr not_good ↦ ([], bytes, record { begins = refl; ends = not_good })
      | inl good ↦
          let size = size_with (count_in bytes) in
          let more = some_from tell fuel (drop size bytes) (let w = good.whole in omega (arith, w, fits, length-drop size bytes)) in
          (group_in bytes ∷ more.0, more.1, record { begins = (good, refl, (more.2).begins); ends = (more.2).ends })
    ]

pub some_stream : SomeStream
some_stream bytes = some_from good_told (length bytes) bytes (omega arith)

pub begins_length : (gs : List Group) (bytes rest : List ℕ) → Begins gs bytes rest → length bytes ≡ stream_length gs + length rest
begins_length [] bytes rest a = let same : length rest ≡ length bytes = ap length a in omega (arith, same)
begins_length (g ∷ gs) bytes rest a =
    let count = count_in bytes in
    let more = begins_length gs (drop (size_with count) bytes) rest a.2 in
    let pages : length g.entries ≡ count = ap (λ (x : Group). length x.entries) a.1 ∙ length-entries_in count (drop 12 bytes) in
    let w = (a.0).whole in
    omega (arith, more, pages, w, length-drop (size_with count) bytes)

pub has_length : HasLength
has_length bytes gs rest a = begins_length gs bytes rest a.begins

-- What was written of a group is read.
pub record Written (g : Group) (bytes tail : List ℕ) : Type 0 where
  pub number : big_number 8 bytes ≡ g.number
  pub count : count_in bytes ≡ length g.entries
  pub entries : entries_in (count_in bytes) (drop 12 bytes) ≡ g.entries
  pub behind : drop (size_with (count_in bytes)) bytes ≡ tail
  pub long : length bytes ≡ size_with (length g.entries) + length tail

pub written : (g : Group) (tail : List ℕ) → IsWhole g → Written g (group_bytes g ++ tail) tail
unfolding group_page_count
written g tail whole =
    let bytes = group_bytes g ++ tail in
    let begins = group-begins g 1 tail whole in
    let count : count_in bytes ≡ length g.entries = begins.count in
    let stand : drop 12 bytes ≡ entry_bytes g.entries ++ tail = begins.entries in
    let long = length-group_bytes g whole in
    let entries : entries_in (count_in bytes) (drop 12 bytes) ≡ g.entries =
    ap (λ (n : ℕ). entries_in n (drop 12 bytes)) count ∙ ap (λ (x : List ℕ). entries_in (length g.entries) x) stand ∙ entries-written g.entries tail whole.entries in
    record {
      number = begins.number;
      count = count;
      entries = entries;
      behind = drop_at (group_bytes g) tail (size_with (count_in bytes)) (omega (arith, long, count));
      long = omega (arith, long, length-append (group_bytes g) tail);
    }

group-same : (a b : Group) → a.number ≡ b.number → a.entries ≡ b.entries → a ≡ b
group-same a b number entries = λ i. record { number = number i; entries = entries i }

good_written : (g : Group) (bytes tail : List ℕ) → MaySend g → Written g bytes tail → IsGood bytes
good_written g bytes tail may is =
    let count = is.count in
    let long = is.long in
    let some : 1 ≤ length g.entries = (may.whole).some in
    let few : length g.entries ≤ 16777216 = (may.whole).few in
    record {
      some = omega (arith, count, some);
      few = omega (arith, count, few);
      whole = omega (arith, count, long);
      rises = ap (λ (es : List Entry). rise 0 es) is.entries ∙ (may.whole).rises;
      header = subst (λ (n : ℕ). BeginsWithHeader n (entries_in (count_in bytes) (drop 12 bytes))) (sym is.number)
          (subst (λ (es : List Entry). BeginsWithHeader g.number es) (sym is.entries) may.header);
    }

begins_written : (gs : List Group) (rest : List ℕ) → AllByRecursion MaySend gs → Begins gs (stream_of gs ++ rest) rest
begins_written [] rest may = refl
begins_written (g ∷ gs) rest may =
    let tail = stream_of gs ++ rest in
    let bytes = group_bytes g ++ tail in
    let is = written g tail (may.0).whole in
    let more : Begins gs tail rest = begins_written gs rest may.1 in
    let here : Begins (g ∷ gs) bytes rest = (
      good_written g bytes tail may.0 is,
      group-same g (group_in bytes) (sym is.number) (sym is.entries),
      subst (λ (x : List ℕ). Begins gs x rest) (sym is.behind) more,
    ) in
    subst (λ (x : List ℕ). Begins (g ∷ gs) x rest) (sym (append_assoc (group_bytes g) (stream_of gs) rest)) here

pub reads_back : ReadsBack
reads_back gs rest may ends = record { begins = begins_written gs rest may; ends = ends }

pub none_good : (bytes : List ℕ) → length bytes < 12 → IsGood bytes → ⊥
none_good bytes short good = let w = good.whole in omega (arith, w, short)

pub ends_well : StreamEndsWell
ends_well gs may =
    let all : IsStream (stream_of gs ++ []) gs [] = reads_back gs [] may (none_good [] (omega arith)) in
    subst (λ (x : List ℕ). IsStream x gs []) (append-nil (stream_of gs)) all
