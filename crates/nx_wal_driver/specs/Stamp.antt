-- What the pages of a driven store hold. The words are closed, since an open one fills goals with lists of bytes.
use Rattle.std.specs.Prelude.{ℕ, List, ◌++◌, codes}
use Rattle.std.specs.List.{flat_map, range_with_len}
use Rattle.nx_numbers.specs.Numbers.{number_bytes}
use Rattle.nx_wal_driver.specs.declared.stamps.Stamp.{Stamp}

-- a unit of a page: the mark of a store, the seed, the group, the page, and which unit of the page it is
unfoldable pub unit_bytes : Stamp → ℕ → List ℕ
unit_bytes s i = (((codes "NATIXST1" ++ number_bytes 8 s.seed) ++ number_bytes 8 s.group) ++ number_bytes 4 s.page) ++ number_bytes 4 i

-- the first units behind each other
unfoldable pub units : Stamp → ℕ → List ℕ
units s count = flat_map (unit_bytes s) (range_with_len 0 count)

-- a page with this stamp
abbrev pub stamped_bytes : Stamp → List ℕ
stamped_bytes s = units s 256
