-- The numbers of log groups, and the next commit's header.
use Rattle.std.specs.Prelude.{◌≡◌, ℕ, ◌==◌, ◌+◌, if◌then◌else◌}
use Rattle.nx_holdings.specs.declared.header.Header.{Header}
use Rattle.nx_holdings.specs.Header.{newest_format}

-- the number of the group behind one with this number
abbrev pub number_behind : ℕ → ℕ
number_behind number = if number == 18446744073709551615 then 0 else number + 1

-- the header has the number behind that of the last commit's, and the newest format
abbrev pub IsNextHeader : (saved head : Header) → Type 0
IsNextHeader saved head = (head.number ≡ number_behind saved.number) × (head.format ≡ newest_format)
