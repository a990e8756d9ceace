-- Words of pages and of the log for the crates above, which name neither.
pub use Rattle.nx_numbers.specs.Sizes.{most_pages}
pub use Rattle.nx_replay.specs.Log.{Pages, replay, HasSame}
pub use Rattle.nx_wal.specs.Renewing.{IsRenewed}
pub use Rattle.nx_holdings.specs.declared.header.Settings.{Settings}
pub use Rattle.nx_holdings.specs.Header.{AreSettings, newest_format}
pub use Rattle.nx_holdings.specs.Holdings.{Held, Holds, chain_count}
