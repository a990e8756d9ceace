-- What may be asked of natix itself.
use Rattle.std.specs.Prelude.{ℕ, if◌then◌else◌, List, [], ◌∷◌, Option, None, Some, codes}
use Rattle.std.specs.Str.{bytes_eq}
use Rattle.nx_program.specs.declared.help.Question.{Question}
use Rattle.nx_program.specs.declared.help.Question.TheVariants.{Help, Version}

-- the question that words are: exactly one of these two words
abbrev pub question_of : List (List ℕ) → Option Question
question_of (word ∷ []) = if bytes_eq word (codes "--help") then Some Help else if bytes_eq word (codes "--version") then Some Version else None
question_of words = None
