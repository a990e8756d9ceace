use Rattle.std.proofs.Common.{◌≡◌, ◌∙◌, ◌++◌, take, ℕ, List, refl, sym, ap, subst, arith}
use Rattle.std.proofs.lemmas.Bool.{false≢true}
use Rattle.byteorder.specs.Endian.{big_number}
use Rattle.nx_replay.specs.Log.{Entry}
use Rattle.nx_ship.specs.Reading.{MayFollow, page_in, page_of, unit_of}
use Rattle.nx_ship.proofs.ReadingLemmas.{page_in_unit}
use Rattle.nx_ship.proofs.reader.Reader.take_page.Goals as goal

pub returns-then-not-may_follow-clause-taken : goal.returns-then-not-may_follow-clause-taken
returns-then-not-may_follow-clause-taken c follows =
    let r = c.args.self.now in
    let number : c.read_u32-page.result ≡ big_number 4 r.front.items = c.read_u32-page.ensures ∙ ap (λ (x : List ℕ). big_number 4 x) c.deref.ensures.value in
    let same : page_in (unit_of r) ≡ page_of c.read_u32-page.result r = page_in_unit r c.requires.some c.requires.whole ∙ ap (λ (n : ℕ). page_of n r) (sym number) in
    false≢true (sym c.if-not-may_follow.true ∙ c.may_follow.ensures.1 (subst (λ (e : Entry). MayFollow r e) same follows))

pub returns-clause-taken : goal.returns-clause-taken
returns-clause-taken c left =
    let r = c.args.self.now in
    let number : c.read_u32-page.result ≡ big_number 4 r.front.items = c.read_u32-page.ensures ∙ ap (λ (x : List ℕ). big_number 4 x) c.deref.ensures.value in
    let same : page_of c.read_u32-page.result r ≡ page_in (unit_of r) = ap (λ (n : ℕ). page_of n r) number ∙ sym (page_in_unit r c.requires.some c.requires.whole) in
    record {
      is = same;
      next = c.may_follow.ensures.0 c.if-not-may_follow.false;
      taken = let sum = c.saturating_add-self.ensures in let fits = c.fits-self in grind (arith, sum, fits, left);
      least = refl;
      unit = ap (λ (front : List ℕ). front ++ take 0 r.page.bytes) c.clear.ensures.items;
      number = refl;
      count = refl;
    }
