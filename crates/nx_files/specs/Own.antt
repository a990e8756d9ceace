-- Which two files may be the pages and the log of one store.
use Rattle.std.specs.Prelude.{◌≡◌, ℕ, ◌<◌, ◌≤◌, Option, Some, IsSome, IfSome}

-- A file of so many bytes and a log that begins with this byte, where it has one. A log of a store begins with 0 or
-- 1. Pages that are whole have a log that isn't empty, and of a first page that was cut short the log has a group.
pub record MayBeOwn (pages : ℕ) (first : Option ℕ) : Type 0 where
  pub begins : IfSome first (λ byte. byte ≤ 1)
  pub whole : 8192 ≤ pages → IsSome first
  pub cut_short : 0 < pages → pages < 8192 → first ≡ Some 1
