use Rattle.std.proofs.Common.{◌≡◌, ◌++◌, take}
use Rattle.std.specs.List.{flat_map}
use Rattle.nx_script.specs.Reply.{reply_text}
use Rattle.nx_script.proofs.write.push_replies.Given as goal

abbrev pub invariant-loop-reply : goal.invariant-loop-reply
invariant-loop-reply l = l.block ≡ l.initial.block ++ flat_map reply_text (take l.reply-index l.replies)
