-- Pages that are read one behind the other.
use Rattle.std.proofs.Common.{◌≡◌, ◌⊎◌, inl, inr, ℕ, ◌+◌, ◌*◌, ◌<◌, ◌≤◌, List, [], ◌++◌, length, take, drop, sym, ap, subst, ◌∙◌, arith, length-append, length-drop}
use Rattle.std.specs.Prelude.{Some, Result, Err, IfErr}
use Rattle.std.proofs.lemmas.List.{take-append-le, drop-append-le, take_all}
use Rattle.std.proofs.Math.Seq.{drop-append_seam}
use Rattle.nx_host.specs.Disk.{Image, Rose}
use Rattle.nx_host.specs.declared.disk.Disk.{Ghosts}
use Rattle.nx_host.specs.Still.{IsStill}
use Rattle.nx_host.proofs.DiskLemmas.{settled_still}
use Rattle.nx_replay.specs.Log.{Pages}
use Rattle.nx_wal.specs.Wal.{Follows, IsInStep}
use Rattle.nx_wal.specs.declared.wal.Wal.{Wal}
use Rattle.nx_ask.specs.declared.error.AskError.{AskError}
use Rattle.nx_ask.specs.declared.error.AskError.TheVariants as error
use Rattle.nx_ask.specs.Reading.{AreFirstPages, AddsPage, NotCopied}

-- no page yet
pub no_pages : (bytes : List ℕ) (pages : Pages) → bytes ≡ [] → AreFirstPages bytes 0 pages
no_pages bytes pages none = record {
  long = ap (λ (l : List ℕ). length l) none;
  each = λ p low. absurd (omega (arith, low));
}

last_or_below : (p n : ℕ) → p < n + 1 → (p < n) ⊎ (p ≡ n)
last_or_below p n low = grind arith

-- one page more
pub one_page_more : (bytes new : List ℕ) (n : ℕ) (pages : Pages) → AreFirstPages bytes n pages → AddsPage pages n bytes new → AreFirstPages new (n + 1) pages
one_page_more bytes new n pages first adds =
    let long : length bytes ≡ 8192 * n = first.long in
    let page : length adds.added ≡ 8192 = adds.long in
    let all : length new ≡ length bytes + length adds.added = ap (λ (l : List ℕ). length l) adds.behind ∙ length-append bytes adds.added in
    record {
      long = omega (arith, long, page, all);
      each = λ p low. elim (last_or_below p n low) [
        | inl below ↦
            let fits : 8192 * p ≤ length bytes = omega (arith, below, long) in
            let whole : 8192 ≤ length (drop (8192 * p) bytes) = omega (arith, below, long, length-drop (8192 * p) bytes) in
            first.each p below ∙ ap Some (sym (
            ap (λ (l : List ℕ). take 8192 (drop (8192 * p) l)) adds.behind
            ∙ ap (λ (l : List ℕ). take 8192 l) (drop-append-le (8192 * p) bytes adds.added fits)
            ∙ take-append-le 8192 (drop (8192 * p) bytes) adds.added whole))
        | inr last ↦
            let at : 8192 * p ≡ length bytes = omega (arith, last, long) in
            ap pages last ∙ adds.there ∙ ap Some (sym (
            ap (λ (l : List ℕ). take 8192 (drop (8192 * p) l)) adds.behind
            ∙ ap (λ (k : ℕ). take 8192 (drop k (bytes ++ adds.added))) at
            ∙ ap (λ (l : List ℕ). take 8192 l) (drop-append_seam bytes adds.added)
            ∙ take_all 8192 adds.added (omega (arith, page))))
      ];
    }

-- page 0 alone
pub first_page : (none new page : List ℕ) (pages : Pages) → none ≡ [] → (new ≡ none ++ page) × (length page ≡ 8192) → pages 0 ≡ Some page → AreFirstPages new 1 pages
first_page none new page pages empty added here =
    one_page_more none new 0 pages (no_pages none pages empty) (record { added = page; there = here; long = added.1; behind = added.0 })

-- over a disk that was asked alone the log is followed on
pub in_step_on : {D : Type 0} {d : Ghosts D} {wal now : Wal} {before after : D} {was : Image} → IsStill d before after → now ≡ wal → IsInStep d wal before was → IsInStep d now after was
in_step_on {was = was} still same step = record {
  settled = settled_still still step.settled;
  follows = subst (λ (w : Wal). Follows w was.log) (sym same) step.follows;
}

-- ... and was followed before
pub in_step_back : {D : Type 0} {d : Ghosts D} {wal now : Wal} {before after : D} {was : Image} → IsStill d before after → now ≡ wal → IsInStep d now after was → IsInStep d wal before was
in_step_back {was = was} still same step = record {
  settled = record {
    here = sym still.contents_stay ∙ step.settled.here;
    only = λ i left. step.settled.only i ((still.images_stay i).1 left);
  };
  follows = subst (λ (w : Wal). Follows w was.log) same step.follows;
}

-- a count that rose later rose
pub rose_later : (n m k : ℕ) → n ≤ m → Rose m k → Rose n k
rose_later n m k le rose = omega (arith, le, rose)

-- what wasn't read on the way to a greater number
pub not_copied_on : {D : Type 0} (d : Ghosts D) (e : AskError) (wal now : Wal) (some all : ℕ) (start before after : D) → IsStill d start before → now ≡ wal → some ≤ all
    → NotCopied d e now some before after → NotCopied d e wal all start after
not_copied_on d error.Disk wal now some all start before after still same le refused = rose_later (d.faults start) (d.faults before) (d.faults after) still.faults_later refused
not_copied_on d (error.Damaged page) wal now some all start before after still same le refused = (let low : page < some = refused.0 in omega (arith, low, le), λ was step. refused.1 was (in_step_on still same step))
not_copied_on d error.Memory wal now some all start before after still same le refused = tt
not_copied_on d error.NotAStore wal now some all start before after still same le refused = refused

-- an error that is passed on
pub err_passed : {T : Type 0} (r : Result T AskError) (P : AskError → Type 0) (e : AskError) → ((y : AskError) × (r ≡ Err y) × (y ≡ e)) → P e → IfErr r P
err_passed r P e found h = subst (λ (x : Result _ AskError). IfErr x P) (sym found.1) (subst P (sym found.2) h)
