-- Words of pages and of a log's groups for the crates above, which name neither.
pub use Rattle.nx_replay.specs.Log.{Pages, Group, groups, over, entry_pages}
pub use Rattle.nx_replay.specs.Laws.{over_all}
