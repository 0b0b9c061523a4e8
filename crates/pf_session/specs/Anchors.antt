-- The reply to `show anchors`, by the anchors that a Book listed.
use Rattle.std.specs.Prelude.{ℕ, List, Option, Some, None}
use Rattle.pf_core.specs.declared.{reply.Refusal.TheVariants.Memory, reply.Reply.TheVariants.Refused}
use Rattle.pf_line.specs.{Reply.AnchorTexts.anchors_text, Reply.Replies.reply_text}

-- a line for each, or that there was no memory to list them
abbrev pub listed_text : Option (List (List ℕ)) → List ℕ
listed_text (Some paths) = anchors_text paths
listed_text None = reply_text (Refused Memory)
