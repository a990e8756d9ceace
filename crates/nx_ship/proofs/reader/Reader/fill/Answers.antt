use Rattle.std.proofs.Common.{◌≡◌, ◌++◌, length, take, refl, arith}
use Rattle.nx_ship.proofs.ReadingLemmas.{rest_long, grown_unit, page_fits, before_page}
use Rattle.nx_ship.proofs.reader.Reader.fill.Goals as goal

pub put_behind-requires : goal.put_behind-requires
put_behind-requires c =
    let r = c.args.self.now in
    let bytes = c.args.bytes.now in
    let k = c.front_of-first.result in
    let fits = page_fits r (length bytes) k c.front_of-first.ensures.number c.front_of-first.ensures.head c.requires in
    let long = rest_long k bytes in
    let whole = r.whole in
    omega (arith, fits, long, whole)

pub returns : goal.returns
returns c =
    let r = c.args.self.now in
    let bytes = c.args.bytes.now in
    let k = c.front_of-first.result in
    let first : c.extend_from_slice.new.self.items ≡ r.front.items ++ take k bytes = grind (arith, c.in_ok-extend_from_slice.ensures.items) in
    record {
      unit = grown_unit r c.extend_from_slice.new.self.items c.put_behind.new.page bytes k first c.put_behind.ensures.first (before_page r (length bytes) k c.front_of-first.ensures.number);
      number = refl;
      count = refl;
      taken = refl;
      least = refl;
    }
