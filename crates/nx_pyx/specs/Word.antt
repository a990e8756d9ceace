-- The words that name the faults where they are printed.
use Rattle.std.specs.Prelude.{ℕ, List, codes}
use Rattle.nx_pyx.specs.declared.error.PyxFault.{PyxFault}
use Rattle.nx_pyx.specs.declared.error.PyxFault.TheVariants.{BadCode, BadName, BadNesting, BadAttribute, Twice, Unclosed, Empty, LongLine, TooDeep, TooMany}

abbrev pub word_of : PyxFault → List ℕ
word_of BadCode = codes "bad-code"
word_of BadName = codes "bad-name"
word_of BadNesting = codes "bad-nesting"
word_of BadAttribute = codes "bad-attribute"
word_of Twice = codes "twice"
word_of Unclosed = codes "unclosed"
word_of Empty = codes "empty"
word_of LongLine = codes "long-line"
word_of TooDeep = codes "too-deep"
word_of TooMany = codes "too-many"
