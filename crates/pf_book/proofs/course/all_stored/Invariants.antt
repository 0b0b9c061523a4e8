use Rattle.std.proofs.Common.{◌≡◌, ◌++◌, map, take, drop}
use Rattle.pf_core.specs.Worlds.{as_stored}
use Rattle.pf_book.proofs.course.all_stored.Given as goal

abbrev pub invariant-loop-reply : goal.invariant-loop-reply
invariant-loop-reply l = l.replies ≡ map as_stored (take l.reply-index l.initial.replies) ++ drop l.reply-index l.initial.replies
