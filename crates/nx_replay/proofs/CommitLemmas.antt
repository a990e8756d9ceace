-- The three steps of a commit, by the images that each may leave.
use Rattle.std.proofs.Common.{◌≡◌, ◌⊎◌, ℕ, ◌+◌, ◌*◌, ◌^◌, ◌<◌, List, [], ◌∷◌, ◌++◌, length, take, drop, refl, sym, ap, subst, ◌∙◌, arith, true, false, inl, inr, get_or}
use Rattle.std.proofs.Common.{get_or-take, get_or-drop, take-append-drop, length-drop, append_assoc}
use Rattle.std.proofs.lemmas.List.{drop-drop, drop_more, drop_at}
use Rattle.std.proofs.lemmas.Bool.{false≢true}
use Rattle.std.specs.Prelude.{◌==◌, min}
use Rattle.nx_host.proofs.TornLemmas.{written_torn}
use Rattle.nx_host.specs.declared.disk.Area.TheVariants.{Log}
use Rattle.nx_host.specs.Disk.{Image, Torn, Written, TearsIn, WritesTo}
use Rattle.nx_replay.specs.Log.{Group, group_size, groups, end_of, group_bytes, IsWhole, IsLogEnd, HasGroup, HasSame}
use Rattle.nx_replay.proofs.GroupLemmas.{length-group_bytes}
use Rattle.nx_replay.proofs.StepLemmas.{IsStaged, written_behind, written_at_end, gate_written, end_then}

-- where a write ended, a list has its bytes
pub at_written : (at : ℕ) (bytes old new : List ℕ) → Written at bytes old new → drop at new ≡ bytes ++ drop (at + length bytes) new
at_written at bytes old new w =
    sym (take-append-drop (length bytes) (drop at new)) ∙ ap (λ (x : List ℕ). x ++ drop (length bytes) (drop at new)) w.here ∙ ap (λ (x : List ℕ). bytes ++ x) (drop-drop (length bytes) at new)

-- the first byte of a rest
pub first_of_rest : (at b : ℕ) (xs rest : List ℕ) → drop at xs ≡ b ∷ rest → (get_or xs at 0 ≡ b) × (at < length xs)
first_of_rest at b xs rest is = (
  ap (λ (n : ℕ). get_or xs n 0) (let h : at ≡ at + 0 = omega arith in h) ∙ sym (get_or-drop at xs 0 0) ∙ ap (λ (x : List ℕ). get_or x 0 0) is,
  omega (arith, length-drop at xs, ap length is),
)

-- Step 1.
pub shut_torn : (end : ℕ) (was i : Image) → IsLogEnd end false was.log → end < 2 ^ 63 → TearsIn Log end 1 was i → HasSame was i
shut_torn end was i at low tears = record {
  area = tears.there;
  log = written_at_end (2 ^ 63) was.log i.log (let h : end ≡ end_of (groups was.log) = at.here in omega (arith, low, h))
      (λ h. subst (λ (e : ℕ). get_or was.log e 0 ≡ 1) at.here (at.opened refl (let e : end ≡ end_of (groups was.log) = at.here in omega (arith, h, e))))
      (subst (λ (e : ℕ). Torn e 1 was.log i.log) at.here tears.here);
}

pub shut_written : (end : ℕ) (was now : Image) → IsLogEnd end false was.log → end < 2 ^ 63 → WritesTo Log end (0 ∷ []) was now → HasSame was now × IsLogEnd end true now.log
shut_written end was now at low writes =
    let same = shut_torn end was now at low (record { here = written_torn writes.here; there = writes.there }) in
    let first = first_of_rest end 0 now.log _ (at_written end (0 ∷ []) was.log now.log writes.here) in (
      same,
      record {
        here = at.here ∙ ap end_of (sym same.log);
        closed = λ h. (first.1, rw first.0 refl);
        opened = λ h. absurd (false≢true (sym h));
      },
    )

-- Step 2.
pub laid_torn : (end n : ℕ) (was i : Image) → IsLogEnd end true was.log → end < 2 ^ 63 → TearsIn Log (end + 1) n was i → HasSame was i
laid_torn end n was i at low tears =
    let gate = at.closed refl in
    record {
      area = tears.there;
      log = written_behind (2 ^ 63) n was.log i.log (let h : end ≡ end_of (groups was.log) = at.here in omega (arith, low, h))
          (subst (λ (e : ℕ). e < length was.log) at.here gate.0) (subst (λ (e : ℕ). (get_or was.log e 0 == 1) ≡ false) at.here gate.1)
          (subst (λ (e : ℕ). Torn (e + 1) n was.log i.log) at.here tears.here);
    }

pub laid_written : (g : Group) (end : ℕ) (was now : Image) → IsWhole g → IsLogEnd end true was.log → end + group_size (length g.entries) < 2 ^ 63
    → WritesTo Log (end + 1) (group_bytes g ++ 0 ∷ []) was now
    → HasSame was now × ((rest : List ℕ) × IsStaged (2 ^ 63) g now.log rest) × IsLogEnd end true now.log
laid_written g end was now whole at low writes =
    let bytes = group_bytes g ++ 0 ∷ [] in
    let low_end : end < 2 ^ 63 = omega (arith, low) in
    let same = laid_torn end (length bytes) was now at low_end (record { here = written_torn writes.here; there = writes.there }) in
    let gate = at.closed refl in
    let w : Written (end + 1) bytes was.log now.log = writes.here in
    let least : min (end + 1) (length was.log) ≡ end + 1 = let here : end < length was.log = gate.0 in omega (arith, here) in
    let prefix : take (end + 1) now.log ≡ take (end + 1) was.log = rw least at w.before in
    let long : end < length now.log = let here : end < length was.log = gate.0 in let l = w.long in omega (arith, here, l) in
    let byte : get_or now.log end 0 ≡ get_or was.log end 0 =
    sym (get_or-take (end + 1) now.log end 0 (omega arith)) ∙ ap (λ (x : List ℕ). get_or x end 0) prefix ∙ get_or-take (end + 1) was.log end 0 (omega arith) in
    let rest = drop (end + 1 + length bytes) now.log in
    let here_now : end ≡ end_of (groups now.log) = at.here ∙ ap end_of (sym same.log) in
    let split : (group_bytes g ++ 0 ∷ []) ++ rest ≡ group_bytes g ++ 0 ∷ rest = append_assoc (group_bytes g) (0 ∷ []) rest in
    let is : drop end now.log ≡ get_or now.log end 0 ∷ (group_bytes g ++ 0 ∷ rest) =
    drop_more now.log end 0 long ∙ ap (λ (x : List ℕ). get_or now.log end 0 ∷ x) (at_written (end + 1) bytes was.log now.log w ∙ split) in (
      same,
      (
        rest,
        record {
          gate = get_or now.log end 0;
          bytes = subst (λ (e : ℕ). drop e now.log ≡ get_or now.log end 0 ∷ (group_bytes g ++ 0 ∷ rest)) here_now is;
          shut = rw byte gate.1;
          low = subst (λ (e : ℕ). e + group_size (length g.entries) < 2 ^ 63) here_now low;
        },
      ),
      record { here = here_now; closed = λ h. (long, rw byte gate.1); opened = λ h. absurd (false≢true (sym h)) },
    )

-- Step 3.
pub opened_torn : {was i : Image} (g : Group) (end : ℕ) (rest : List ℕ) → IsWhole g → IsLogEnd end true was.log → IsStaged (2 ^ 63) g was.log rest
    → TearsIn Log end 1 was i → HasSame was i ⊎ HasGroup g was i
opened_torn {was = was} {i = i} g end rest whole at staged tears =
    elim (gate_written (2 ^ 63) g rest was.log i.log whole staged (subst (λ (e : ℕ). Torn e 1 was.log i.log) at.here tears.here)) [
      | inl none ↦ inl (record { area = tears.there; log = none.1 })
      | inr more ↦ inr (record { area = tears.there; log = more })
    ]

pub opened_written : {was now : Image} (g : Group) (end : ℕ) (rest : List ℕ) → IsWhole g → IsLogEnd end true was.log → IsStaged (2 ^ 63) g was.log rest
    → WritesTo Log end (1 ∷ []) was now → HasGroup g was now × IsLogEnd (end + group_size (length g.entries)) true now.log
opened_written {was = was} {now = now} g end rest whole at staged writes =
    let w : Written end (1 ∷ []) was.log now.log = writes.here in
    let torn : Torn end 1 was.log now.log = written_torn w in
    let first = first_of_rest end 1 now.log _ (at_written end (1 ∷ []) was.log now.log w) in
    let is : drop end was.log ≡ staged.gate ∷ (group_bytes g ++ 0 ∷ rest) = subst (λ (e : ℕ). drop e was.log ≡ staged.gate ∷ (group_bytes g ++ 0 ∷ rest)) (sym at.here) staged.bytes in
    let size : length (group_bytes g) ≡ 12 + 8196 * length g.entries = length-group_bytes g whole in
    let behind : drop (end + 1) now.log ≡ group_bytes g ++ 0 ∷ rest = w.after ∙ sym (drop-drop 1 end was.log) ∙ ap (λ (x : List ℕ). drop 1 x) is in
    let next : drop (end + group_size (length g.entries)) now.log ≡ 0 ∷ rest =
    ap (λ (n : ℕ). drop n now.log) (let h : end + group_size (length g.entries) ≡ end + 1 + (12 + 8196 * length g.entries) = omega arith in h)
    ∙ sym (drop-drop (12 + 8196 * length g.entries) (end + 1) now.log) ∙ ap (λ (x : List ℕ). drop (12 + 8196 * length g.entries) x) behind
    ∙ drop_at (group_bytes g) (0 ∷ rest) (12 + 8196 * length g.entries) size in
    let gate = first_of_rest (end + group_size (length g.entries)) 0 now.log rest next in
    let log : groups now.log ≡ groups was.log ++ g ∷ [] =
    elim (gate_written (2 ^ 63) g rest was.log now.log whole staged (subst (λ (e : ℕ). Torn e 1 was.log now.log) at.here torn)) [
      | inl none ↦ absurd (
          let shut : (get_or now.log end 0 == 1) ≡ false = subst (λ (e : ℕ). (get_or now.log e 0 == 1) ≡ false) (sym at.here) none.0 in
          let open_now : (get_or now.log end 0 == 1) ≡ true = rw first.0 refl in
          false≢true (sym shut ∙ open_now)
          )
      | inr more ↦ more
    ] in (
      record { area = writes.there; log = log },
      record {
        here = ap (λ (e : ℕ). e + group_size (length g.entries)) at.here ∙ sym (end_then (2 ^ 63) g was.log now.log log);
        closed = λ h. (gate.1, rw gate.0 refl);
        opened = λ h. absurd (false≢true (sym h));
      },
    )
