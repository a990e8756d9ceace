-- What has been read of a document's lines in a script.
use Rattle.std.specs.List.{list_any}
use Rattle.std.specs.Prelude.{◌<◌, ◌≤◌, ◌-◌, length, drop, ◌≡◌, ◌⊎◌, ℕ, Bool, true, false, if◌then◌else◌, List, [], ◌∷◌, ◌++◌, take, Option, None, Some, codes}
use Rattle.std.specs.Bool.{MatchBool}
use Rattle.nx_pyx.specs.declared.error.PyxError.{PyxError}
use Rattle.nx_pyx.specs.declared.error.ReadError.{ReadError}
use Rattle.nx_pyx.specs.declared.error.ReadError.TheVariants.{Pyx}
use Rattle.nx_pyx.specs.declared.reader.Reader.{Reader}
use Rattle.nx_pyx.specs.Lines.{cut, ended_lines, without_cr}
use Rattle.nx_pyx.specs.Fault.{shown_fault, fault_of}
use Rattle.nx_pyx.specs.Reading.{Reads}
use Rattle.nx_pyx.specs.Reader.{HasRead, HasFailed}
use Rattle.nx_script.specs.declared.body.Body.{Body}
use Rattle.nx_pyx.specs.Field.{begins_with}
use Rattle.nx_script.specs.declared.command.LoadBody.{LoadBody}
use Rattle.nx_script.specs.declared.command.LoadBody.TheVariants.{Read, Wrong}
use Rattle.nx_script.specs.Commands.{is_dot, has_dot}
use Rattle.nx_script.specs.BeforeDot.{before_dot, after_dot}

-- The reader has read this stream, or has failed by a fault that the stream shows.
abbrev pub HasReadOrFailed : Reader → List ℕ → Type 0
HasReadOrFailed reader stream =
    HasRead reader stream ⊎ ((error : PyxError) × HasFailed reader (Pyx error) × (shown_fault stream ≡ Some error))

-- The reader has read this stream, all of whose lines have ended.
pub record HasReadLines (reader : Reader) (stream : List ℕ) : Type 0 where
  pub read : HasReadOrFailed reader stream
  pub ended : (cut stream).rest ≡ []

-- The reader has read the stream but for a line that may still be the dot.
abbrev pub HasReadUpToDot : Reader → List ℕ → Type 0
HasReadUpToDot reader stream =
    MatchBool (is_dot (without_cr (cut stream).rest))
    ((prefix : List ℕ) × (stream ≡ prefix ++ (cut stream).rest) × HasReadLines reader prefix)
    (HasReadOrFailed reader stream)

-- These bytes of the document's lines have come, and no dot has ended them yet.
pub record AwaitsDot (body : Body) (stream : List ℕ) : Type 0 where
  pub undotted : has_dot (ended_lines stream) ≡ false
  pub held : body.held ≡ take 3 (cut stream).rest
  pub read : HasReadUpToDot body.reader stream

-- A dot has ended the document's lines: these bytes, and the dot's line. Whatever comes stands behind it.
pub record IsEndedBy (body : Body) (stream : List ℕ) : Type 0 where
  pub prefix : List ℕ
  pub before : (more : List ℕ) → before_dot (stream ++ more) ≡ prefix
  pub after : (more : List ℕ) → after_dot (stream ++ more) ≡ more
  pub lines_are : ended_lines stream ≡ ended_lines prefix ++ codes "." ∷ []
  pub undotted : has_dot (ended_lines prefix) ≡ false
  pub read : HasReadLines body.reader prefix
  pub ended : (cut stream).rest ≡ []

-- the bytes that are held and that the reader hasn't read: those of a line that may still be the dot
abbrev pub unread : List ℕ → List ℕ
unread held = if is_dot (without_cr held) then held else []

-- these bytes say this document, or have this fault
abbrev pub Says : List ℕ → LoadBody → Type 0
Says bytes (Read tree) = Reads bytes tree
Says bytes (Wrong error) = fault_of bytes ≡ Some error

-- the fault among a reader's errors
abbrev pub fault_in : Option ReadError → Option PyxError
fault_in (Some (Pyx error)) = Some error
fault_in _ = None

-- where the document's lines stand after these bytes
abbrev pub AwaitsOrHasDot : Bool → Body → List ℕ → Type 0
AwaitsOrHasDot true body stream = IsEndedBy body stream
AwaitsOrHasDot false body stream = AwaitsDot body stream

-- Of the first n bytes no line begins with a dot, and at the place `last` begins what stands behind their last LF.
pub record IsBeforeDot (bytes : List ℕ) (n last : ℕ) : Type 0 where
  pub within : n ≤ length bytes
  pub here : last ≤ n
  pub undotted : list_any (begins_with 46) (cut (take n bytes)).ended ≡ false
  pub rest : (cut (take n bytes)).rest ≡ take (n - last) (drop last bytes)
  pub rest_undotted : begins_with 46 (take (n - last) (drop last bytes)) ≡ false
  pub some : begins_with 46 bytes ≡ false → 0 < length bytes → 0 < n
