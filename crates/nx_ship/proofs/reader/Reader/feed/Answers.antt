use Rattle.std.proofs.Common.{◌≡◌, ◌∙◌, ◌∷◌, [], ◌<◌, ◌≤◌, refl, arith, ◌+◌, length, length-append, ap}
use Rattle.nx_ship.specs.Reading.{Grows, page_of}
use Rattle.std.specs.Prelude.{take}
use Rattle.nx_ship.proofs.ReadingLemmas.{IsTaken, taken_by, taken_fits, taken_some, fed_more, full_head, full_page, begun, gone_on, between, head_refused, head_long, pages_long, page_refused, page_taken, all_taken, read_on, read_spoilt, read_group, under_way}
use Rattle.nx_ship.proofs.reader.Reader.feed.Goals as goal

pub returns-then-taken-wanted : goal.returns-then-taken-wanted
returns-then-taken-wanted c =
    let old = c.args.self.now in
    let piece = c.args.piece.now in
    let taken = c.min-taken.result in
    let wanted = c.wanted-wanted.result in
    let is : IsTaken old piece wanted taken = taken_by c.min-taken.ensures c.wanted-wanted.ensures.head c.wanted-wanted.ensures.page in
    let grows : Grows (take taken piece) old c.fill.new.self = c.in_ok-fill.ensures in
    (taken_fits is grows, λ bytes groups es was. record { some = taken_some is grows was.holds; read = read_on was (λ held holds. fed_more is grows c.if-taken-wanted.true held es holds); number_stays = λ some. grows.number })

pub returns-then-not-take_head : goal.returns-then-not-take_head
returns-then-not-take_head c =
    let old = c.args.self.now in
    let piece = c.args.piece.now in
    let taken = c.min-taken.result in
    let wanted = c.wanted-wanted.result in
    let is : IsTaken old piece wanted taken = taken_by c.min-taken.ensures c.wanted-wanted.ensures.head c.wanted-wanted.ensures.page in
    let grows : Grows (take taken piece) old c.fill.new.self = c.in_ok-fill.ensures in
    let full : wanted ≤ taken = omega (arith, c.if-taken-wanted.false) in
    let none : old.count ≡ 0 = omega (arith, c.if-self-eq0.true) in (
      taken_fits is grows,
      λ bytes groups es was. read_spoilt was (λ held holds. let head = full_head is grows full none held es holds in head_long head.0 head.1) (λ held more holds.
          let head = full_head is grows full none held es holds in
          head_refused more head.0 head.1 (c.take_head.ensures.no c.if-not-take_head.true)),
    )

pub returns-then-self-eq0 : goal.returns-then-self-eq0
returns-then-self-eq0 c =
    let old = c.args.self.now in
    let piece = c.args.piece.now in
    let taken = c.min-taken.result in
    let wanted = c.wanted-wanted.result in
    let is : IsTaken old piece wanted taken = taken_by c.min-taken.ensures c.wanted-wanted.ensures.head c.wanted-wanted.ensures.page in
    let grows : Grows (take taken piece) old c.fill.new.self = c.in_ok-fill.ensures in
    let full : wanted ≤ taken = omega (arith, c.if-taken-wanted.false) in
    let none : old.count ≡ 0 = omega (arith, c.if-self-eq0.true) in (
      taken_fits is grows,
      λ bytes groups es was. record {
        some = taken_some is grows was.holds;
        read = read_on was (λ held holds. let head = full_head is grows full none held es holds in begun head.0 head.1 (c.take_head.ensures.yes c.if-not-take_head.false));
        number_stays = λ some.
            let head = full_head is grows full none was.held es was.holds in
            absurd (let empty : length es ≡ 0 = ap length (head.0).none in omega (arith, some, empty));
      },
    )

pub returns-in_default : goal.returns-in_default
returns-in_default c =
    let old = c.args.self.now in
    let piece = c.args.piece.now in
    let taken = c.min-taken.result in
    let wanted = c.wanted-wanted.result in
    let is : IsTaken old piece wanted taken = taken_by c.min-taken.ensures c.wanted-wanted.ensures.head c.wanted-wanted.ensures.page in
    let grows : Grows (take taken piece) old c.fill.new.self = c.in_ok-fill.ensures in
    let full : wanted ≤ taken = omega (arith, c.if-taken-wanted.false) in
    let some : 0 < old.count = omega (arith, c.if-self-eq0.false) in (
      taken_fits is grows,
      λ bytes groups es was. read_spoilt was (λ held holds. pages_long (full_page is grows full some held es holds).0) (λ held more holds.
          let page = full_page is grows full some held es holds in
          page_refused page.0 page.1 more page.2 c.in_default.ensures.taken),
    )

pub returns-then-self : goal.returns-then-self
returns-then-self c =
    let old = c.args.self.now in
    let piece = c.args.piece.now in
    let taken = c.min-taken.result in
    let wanted = c.wanted-wanted.result in
    let is : IsTaken old piece wanted taken = taken_by c.min-taken.ensures c.wanted-wanted.ensures.head c.wanted-wanted.ensures.page in
    let grows : Grows (take taken piece) old c.fill.new.self = c.in_ok-fill.ensures in
    let full : wanted ≤ taken = omega (arith, c.if-taken-wanted.false) in
    let some : 0 < old.count = omega (arith, c.if-self-eq0.false) in
    let left : c.take_page.new.self.taken < c.take_page.new.self.count = omega (arith, c.if-self.true) in (
      taken_fits is grows,
      c.in-Some.ensures.low,
      λ bytes groups es was.
          record {
            some = taken_some is grows was.holds;
            read = read_on was (λ held holds.
                let page = full_page is grows full some held es holds in
                let takes = c.in-Some.ensures.taken page.2 in
                gone_on (page_taken page.0 page.1 takes) left takes.unit);
            under_way =
                let page = full_page is grows full some was.held es was.holds in
                let takes = c.in-Some.ensures.taken page.2 in
                under_way (page_taken page.0 page.1 takes) (omega (arith, length-append es (page_of c.in-Some.page c.take_page.new.self ∷ [])));
            number_stays =
                let page = full_page is grows full some was.held es was.holds in
                (c.in-Some.ensures.taken page.2).number ∙ grows.number;
          },
    )

pub returns : goal.returns
returns c =
    let old = c.args.self.now in
    let piece = c.args.piece.now in
    let taken = c.min-taken.result in
    let wanted = c.wanted-wanted.result in
    let is : IsTaken old piece wanted taken = taken_by c.min-taken.ensures c.wanted-wanted.ensures.head c.wanted-wanted.ensures.page in
    let grows : Grows (take taken piece) old c.fill.new.self = c.in_ok-fill.ensures in
    let full : wanted ≤ taken = omega (arith, c.if-taken-wanted.false) in
    let some : 0 < old.count = omega (arith, c.if-self-eq0.false) in
    let enough : c.take_page.new.self.count ≤ c.take_page.new.self.taken = omega (arith, c.if-self.false) in (
      taken_fits is grows,
      c.in-Some.ensures.low,
      λ bytes groups es was.
          let page = full_page is grows full some was.held es was.holds in
          let takes = c.in-Some.ensures.taken page.2 in
          let holds = page_taken page.0 page.1 takes in
          let count : c.take_page.new.self.count ≡ c.fill.new.self.count = takes.count in
          let same : c.fill.new.self.count ≡ old.count = grows.count in
          let more : c.take_page.new.self.taken ≡ c.fill.new.self.taken + 1 = takes.taken in
          record {
            some = taken_some is grows was.holds;
            read = read_group was (λ held now.
                let page = full_page is grows full some held es now in
                let takes = c.in-Some.ensures.taken page.2 in
                let left = page.2 in
                all_taken (page_taken page.0 page.1 takes) (omega (arith, enough, left, more, count)) (omega (arith, count, same, some)) takes.unit)
                (between _ refl takes.unit);
            under_way = under_way holds (omega (arith, length-append es (page_of c.in-Some.page c.take_page.new.self ∷ [])));
            number_stays = takes.number ∙ grows.number;
            many = holds.many;
            few = let f = holds.few in let left = page.2 in omega (arith, f, enough, left, more, count);
          },
    )
