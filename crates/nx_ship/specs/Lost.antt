-- What a store shows by which its pages are no state.
use Rattle.std.specs.Prelude.{◌⊎◌, ℕ}
use Rattle.nx_host.specs.Disk.{Image}
use Rattle.nx_replay.specs.Log.{replay}
use Rattle.nx_wal.specs.Lost.{IsFirstLost, LosesNone}
use Rattle.nx_holdings.specs.declared.header.Header.{Header}
use Rattle.nx_ship.specs.Next.{IsHeadedBy}
use Rattle.nx_ship.specs.Sending.{HasWrongHeader}

-- The pages area has no page, and of the pages below the header's number this is the first that no group of the log has.
pub record IsFirstLacked (page : ℕ) (was : Image) : Type 0 where
  pub header : Header
  pub headed : IsHeadedBy (replay was) header
  pub lost : IsFirstLost page header.pages was

-- where the pages area has no page, a group of the log has each page below the header's number
abbrev pub LacksNone : Image → Type 0
LacksNone was = (header : Header) → IsHeadedBy (replay was) header → LosesNone header.pages was

-- page 0 is there, and no header; or the first page that is lost is this one
abbrev pub ShowsNoState : ℕ → Image → Type 0
ShowsNoState page was = HasWrongHeader (replay was) page ⊎ IsFirstLacked page was
