-- What a step has in common with the same command over trees in memory.
use Rattle.std.specs.Prelude.{◌≡◌, Bool, true, false, if◌then◌else◌, List, [], ◌∷◌}
use Rattle.nx_script.specs.declared.command.Command.{Command}
use Rattle.nx_script.specs.declared.command.Command.TheVariants.{Layout, SetRule, Rules, Checkpoint}
use Rattle.nx_script.specs.declared.reply.Reply.{Reply}
use Rattle.nx_script.specs.declared.reply.Reply.TheVariants.{Refused, Loaded}
use Rattle.nx_script.specs.declared.reply.ReplyError.TheVariants.{TooHeavy, Full}
use Rattle.nx_engine.specs.Documents.{Documents}
use Rattle.nx_engine.specs.Step.{reply_to, documents_after}
use Rattle.nx_state.specs.State.{State}
use Rattle.nx_steps.specs.Step.{trees}

-- trees in memory carry the command out: they have no intervals, no rules and no log
abbrev pub is_plain : Command → Bool
is_plain (Layout name) = false
is_plain (SetRule rule) = false
is_plain Rules = false
is_plain Checkpoint = false
is_plain _ = true

-- the reply, without the number of intervals that a `load` tells
abbrev pub plain_reply : Reply → Reply
plain_reply (Loaded nodes intervals) = Loaded nodes 0
plain_reply r = r

-- the reply refuses what trees in memory take: a node that is too heavy, or for want of room
abbrev pub is_limit : Reply → Bool
is_limit (Refused (TooHeavy path weight)) = true
is_limit (Refused Full) = true
is_limit _ = false

-- The command is answered as over trees in memory, where these carry it out, and leaves the same trees.
pub record IsPlainStep (documents : Documents) (command : Command) (r : Reply) (next : State) : Type 0 where
  pub reply_is : is_plain command ≡ true → plain_reply r ≡ reply_to documents command
  pub trees_are : trees next ≡ documents_after documents command

-- the commands that weren't refused for such a limit
abbrev pub taken : List Command → List Reply → List Command
taken (command ∷ commands) (r ∷ replies) = if is_limit r then taken commands replies else command ∷ taken commands replies
taken commands replies = []

-- their replies, without the numbers of intervals
abbrev pub plain_replies : List Reply → List Reply
plain_replies [] = []
plain_replies (r ∷ replies) = if is_limit r then plain_replies replies else plain_reply r ∷ plain_replies replies
