-- The laws of records.
use Rattle.std.specs.Prelude.{◌≡◌, ℕ, List, [], length, nat_lt}
use Rattle.nx_host.specs.declared.disk.Disk.{Ghosts}
use Rattle.nx_host.specs.Still.{IsStill}
use Rattle.nx_replay.specs.Log.{Pages}
use Rattle.nx_holdings.specs.declared.header.Header.{Header}
use Rattle.nx_holdings.specs.Holdings.{Held, HoldsBy}
use Rattle.nx_records.specs.Records.{has_ended, has_free_by, HasNoChanges, FollowsOn, LeavesRecords, HasSaved, StandsFor}
use Rattle.nx_links.specs.Lists.{IsListFrom}
use Rattle.nx_records.specs.Changes.{LacksList, HasListFrom, IsListRead}
use Rattle.nx_records.specs.Reading.{AreReadBy}
use Rattle.nx_records.specs.declared.records.Records.{Records}
use Rattle.nx_records.specs.declared.reading.ListReader.{ListReader}

-- Of sound pages the header tells exactly whether a page is free.
abbrev pub HeaderTells : Type 0
HeaderTells = (pages : Pages) (head : Header) (held : Held) → HoldsBy pages head held → has_free_by head ≡ nat_lt 0 held.free

-- What was changed since the last commit was dropped.
pub record IsAbandoned (old new : Records) : Type 0 where
  pub follows : FollowsOn old new
  pub none_left : HasNoChanges new
  pub saved : (new.saved ≡ old.saved) × (new.head ≡ old.saved)
  pub forgets : new.catalog_pages ≡ []
  pub stays : has_ended new ≡ has_ended old

-- Then what the last commit holds is what the records stand for.
abbrev pub AbandonLeadsBack : {D : Type 0} → Ghosts D → Type 0
AbandonLeadsBack {D = D} d = (old new : Records) (disk : D) (saved : Held) → IsAbandoned old new → HasSaved d old disk saved → StandsFor d new disk saved saved

-- What a call leaves that only reads stands for the same, over a disk that was asked alone.
abbrev pub ReadingLeaves : {D : Type 0} → Ghosts D → Type 0
ReadingLeaves {D = D} d =
    (old new : Records) (before after : D) (saved now : Held) → LeavesRecords old new → IsStill d before after → StandsFor d old before saved now → StandsFor d new after saved now

-- The blocks of a list that was read to its end are, one behind the other, what stands from its first page on.
abbrev pub BlocksAreLists : Type 0
BlocksAreLists =
    (pages : Pages) (head : Header) (reader : ListReader) (len : ℕ) (bytes : List ℕ) → AreReadBy head pages reader len bytes → reader.left ≡ 0
    → (length bytes ≡ len) × IsListFrom head.pages pages reader.first bytes × ((held : Held) → HoldsBy pages head held → IsListRead pages held reader.first bytes)

-- Where chain pages from the reader's page on don't hold what is left, no list of that length is at the first page.
abbrev pub ListsGoOn : Type 0
ListsGoOn =
    (pages : Pages) (head : Header) (held : Held) (reader : ListReader) (len : ℕ) (bytes : List ℕ) → HoldsBy pages head held → AreReadBy head pages reader len bytes
    → (HasListFrom head.pages pages reader.next reader.left → ⊥) → LacksList held reader.first len
