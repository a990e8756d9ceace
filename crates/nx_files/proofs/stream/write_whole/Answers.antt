use Rattle.std.proofs.Common.{◌≡◌, ℕ, ◌-◌, List, ◌++◌, rules, length, take, drop, sym, ap, ◌∙◌, subst, append_assoc, take-append-drop}
use Rattle.std.proofs.Math.Seq.{take-append_seam}
use Rattle.std.proofs.lemmas.List.{take_rest}
use Rattle.std.specs.Io.KnownBytes.{Appends}
use Rattle.std.proofs.KnownBytes.{Appends-trans, Appends-kept}
use Rattle.nx_files.proofs.stream.write_whole.Goals as goal

moves_prefix : (all done rest : List ℕ) (n : ℕ) → all ≡ done ++ rest → all ≡ (done ++ take n rest) ++ take (length rest - n) (drop n rest)
moves_prefix all done rest n e =
    e ∙ ap (λ l. done ++ l) (sym (take-append-drop n rest)) ∙ sym (append_assoc done (take n rest) (drop n rest)) ∙ ap (λ l. (done ++ take n rest) ++ l) (sym (take_rest rest n))

is_prefix : (all done rest : List ℕ) → all ≡ done ++ rest → done ≡ take (length done) all
is_prefix all done rest e = sym (ap (take (length done)) e ∙ take-append_seam done rest)

pub loop-rest-preserved : goal.loop-rest-preserved
loop-rest-preserved g c =
    let (done, split, appended) = c.loop-rest.invariant in
    let rest = c.loop-rest.rest.now in
    let n = c.in_ok-count.count in
    (done ++ take n rest, moves_prefix _ done rest n split, Appends-trans _ _ _ _ _ appended c.in_ok-count.ensures.prefix)

pub returns-in_err-count-clause-prefix : goal.returns-in_err-count-clause-prefix
returns-in_err-count-clause-prefix g c =
    let (done, split, appended) = c.loop-rest.invariant in
    let prefix : (n : ℕ) × Appends (g.W.Write.contents c.args.writer.now) (g.W.Write.contents c.write_some.new.writer) (take n c.args.bytes.now) =
    (length done, subst (Appends _ _) (is_prefix _ done c.loop-rest.rest.now split) (Appends-kept _ _ _ _ appended c.in_err-count.ensures.nothing)) in
    search rules
