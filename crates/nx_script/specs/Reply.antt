-- The text of a reply.
use Rattle.std.specs.Prelude.{ℕ, List, ◌++◌, codes, decimal}
use Rattle.std.specs.List.{flat_map, zip}
use Rattle.nx_pyx.specs.Path.{path_text}
use Rattle.nx_pyx.specs.Text.{node_line}
use Rattle.nx_pyx.specs.Word.{word_of}
use Rattle.nx_parts.specs.declared.interval.Interval.{Interval}
use Rattle.nx_parts.specs.declared.interval.Interval.TheVariants.{Root, Run}
use Rattle.nx_matrix.specs.declared.rule.Rule.{Rule}
use Rattle.nx_script.specs.declared.reply.ReplyError.{ReplyError}
use Rattle.nx_script.specs.declared.reply.ReplyError.TheVariants.{Syntax, NoDocument, Exists, Pyx, NoNode, BadPlace, Twice, NoContent, TooDeep, TooMany, TooManyRules, TooHeavy, Full}
use Rattle.nx_script.specs.declared.reply.DocLine.{DocLine}
use Rattle.nx_script.specs.declared.reply.Reply.{Reply}
use Rattle.nx_script.specs.declared.reply.Reply.TheVariants.{Done, Loaded, Shown, Names, Exported, Laid, Rules, Refused}
use Rattle.nx_script.specs.declared.request.Answer.{Answer}
use Rattle.nx_script.specs.declared.request.Answer.TheVariants as answer
use Rattle.nx_script.specs.Rule.{entry_word}

-- why a command is refused, in words
abbrev pub cause : ReplyError → List ℕ
cause Syntax = codes "syntax"
cause NoDocument = codes "no-document"
cause Exists = codes "exists"
cause (Pyx error) = codes "pyx " ++ decimal error.line ++ codes " " ++ word_of error.fault
cause NoNode = codes "no-node"
cause BadPlace = codes "bad-place"
cause Twice = codes "twice"
cause NoContent = codes "no-content"
cause TooDeep = codes "too-deep"
cause TooMany = codes "too-many"
cause TooManyRules = codes "too-many-rules"
cause (TooHeavy path weight) = codes "too-heavy " ++ path_text path ++ codes " " ++ decimal weight
cause Full = codes "full"

-- the line of a document in the list of them
abbrev pub doc_line : DocLine → List ℕ
doc_line line = codes "doc " ++ line.name ++ codes " " ++ decimal line.nodes ++ codes "\n"

-- an interval: the root, or children of the node at a path from a first to a last position
abbrev pub interval_text : Interval → List ℕ
interval_text Root = codes "root"
interval_text (Run parent first last) = codes "run " ++ path_text parent ++ codes " " ++ decimal first ++ codes " " ++ decimal last

-- the line of an interval with the weight of its part
abbrev pub interval_line : Interval × ℕ → List ℕ
interval_line part = interval_text part.0 ++ codes " " ++ decimal part.1 ++ codes "\n"

-- the line of a rule
abbrev pub rule_line : Rule → List ℕ
rule_line rule = codes "rule " ++ rule.parent ++ codes " " ++ rule.child ++ codes " " ++ entry_word rule.entry ++ codes "\n"

-- a reply's lines, each with its LF; where there may be several, the last one is a dot
abbrev pub reply_text : Reply → List ℕ
reply_text Done = codes "ok\n"
reply_text (Loaded nodes intervals) = codes "ok " ++ decimal nodes ++ codes " " ++ decimal intervals ++ codes "\n"
reply_text (Shown node children) = codes "node " ++ decimal children ++ codes " " ++ node_line node.kind node.name node.content ++ codes "\n"
reply_text (Names docs) = flat_map doc_line docs ++ codes ".\n"
reply_text (Exported text) = text ++ codes ".\n"
reply_text (Laid parts weights) = flat_map interval_line (zip parts weights) ++ codes ".\n"
reply_text (Rules rules) = flat_map rule_line rules ++ codes ".\n"
reply_text (Refused error) = codes "error " ++ cause error ++ codes "\n"

-- what a request is answered: a transaction that was carried out by the replies to its commands and a dot, one that wasn't by a line
abbrev pub answered_text : Answer → List ℕ
answered_text (answer.One reply) = reply_text reply
answered_text (answer.All replies) = flat_map reply_text replies ++ codes ".\n"
answered_text (answer.RefusedAt number error) = codes "error at " ++ decimal number ++ codes " " ++ cause error ++ codes "\n"
