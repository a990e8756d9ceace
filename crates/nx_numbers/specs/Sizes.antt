-- The numbers of a store's format.
use Rattle.std.specs.Prelude.{ℕ}

-- the bytes of a page
abbrev pub page_size : ℕ
page_size = 8192

-- a store has at most so many pages
abbrev pub most_pages : ℕ
most_pages = 16777216

-- the bytes of a page behind its head, which says what it is
abbrev pub page_room : ℕ
page_room = 8184

-- the bytes of the longest record
abbrev pub longest_record : ℕ
longest_record = 8176

-- the bytes of a page in a group of the log: its number, and its own
abbrev pub entry_size : ℕ
entry_size = 8196
