-- What trees in memory answer requests, each a command, or several that are carried out together.
use Rattle.std.specs.Prelude.{◌≡◌, ℕ, ◌+◌, Bool, true, false, if◌then◌else◌, List, [], ◌∷◌, ◌++◌, length, map, All}
use Rattle.nx_script.specs.declared.command.Command.{Command}
use Rattle.nx_script.specs.declared.command.Command.TheVariants.{SetRule}
use Rattle.nx_script.specs.declared.reply.Reply.{Reply}
use Rattle.nx_script.specs.declared.reply.Reply.TheVariants.{Refused}
use Rattle.nx_script.specs.declared.reply.ReplyError.{ReplyError}
use Rattle.nx_script.specs.declared.reply.ReplyError.TheVariants.{Syntax}
use Rattle.nx_script.specs.declared.request.Request.{Request}
use Rattle.nx_script.specs.declared.request.Request.TheVariants.{Single, Transaction}
use Rattle.nx_script.specs.declared.request.Answer.{Answer}
use Rattle.nx_script.specs.declared.request.Answer.TheVariants.{One, All as Each, RefusedAt}
use Rattle.nx_engine.specs.Documents.{Documents}
use Rattle.nx_engine.specs.Step.{reply_to, documents_after, after_all}
use Rattle.nx_steps.specs.Step.{may_change}
use Rattle.nx_steps.specs.Requests.{is_refused}
use Rattle.nx_steps.specs.Plain.{is_plain, plain_reply, is_limit}

-- trees in memory carry the command of a transaction out, or it is refused as none: they have no rules
abbrev pub is_plain_part : Command → Bool
is_plain_part (SetRule rule) = false
is_plain_part _ = true

-- they carry the request out
abbrev pub IsPlainRequest : Request → Type 0
IsPlainRequest (Single command) = is_plain command ≡ true
IsPlainRequest (Transaction commands) = All (λ command. is_plain_part command ≡ true) commands

-- what they answer a command of a transaction: one that may change nothing is refused as no command
abbrev pub part_reply : Documents → Command → Reply
part_reply documents command = if may_change command then reply_to documents command else Refused Syntax

-- ... and several, one after the other
abbrev pub part_replies : Documents → List Command → List Reply
part_replies documents [] = []
part_replies documents (command ∷ commands) =
    part_reply documents command ∷ part_replies (documents_after documents command) commands

-- none of these replies refuses its command
abbrev pub NoneRefused : List Reply → Type 0
NoneRefused replies = All (λ r. is_refused r ≡ false) replies

-- Over trees in memory the command of this number, counted from 1, is the first that is refused.
pub record IsPlainlyRefusedAt (documents : Documents) (commands : List Command) (number : ℕ)
    (error : ReplyError) : Type 0 where
  pub before : List Command
  pub command : Command
  pub after : List Command
  pub commands_are : commands ≡ before ++ command ∷ after
  pub number_is : number ≡ length before + 1
  pub taken : NoneRefused (part_replies documents before)
  pub refused : part_reply (after_all documents before) command ≡ Refused error

-- The request is answered as over trees in memory, but for the numbers of intervals: a transaction by the replies to all its commands, of which none is
-- refused, or by the number of the first that is, and the reason.
abbrev pub IsAnsweredPlainly : Documents → Request → Answer → Type 0
IsAnsweredPlainly documents (Single command) (One r) = plain_reply r ≡ reply_to documents command
IsAnsweredPlainly documents (Transaction commands) (Each replies) =
    (map plain_reply replies ≡ part_replies documents commands) × NoneRefused replies
IsAnsweredPlainly documents (Transaction commands) (RefusedAt number error) =
    IsPlainlyRefusedAt documents commands number error
IsAnsweredPlainly documents request answer = ⊥

-- the answer refuses what trees in memory take: a node that is too heavy, or for want of room
abbrev pub is_limit_answer : Answer → Bool
is_limit_answer (One r) = is_limit r
is_limit_answer (Each replies) = false
is_limit_answer (RefusedAt number error) = is_limit (Refused error)
