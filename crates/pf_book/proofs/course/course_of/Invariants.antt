use Rattle.std.proofs.Common.{◌≡◌, ◌≤◌, ◌++◌, true, [], length, drop}
use Rattle.std.specs.{List.{list_all}, Prelude.{◌↔◌, IsTrue}}
use Rattle.pf_core.specs.Worlds.{CurrentOpening, changes_due, replies_due}
use Rattle.pf_store.specs.{Groups.{can_be_wanted, made_all}, Stores.FollowInTurn}
use Rattle.pf_book.specs.Courses.{FindRoomEach, IsCalm, ready_of}
use Rattle.pf_book.proofs.course.course_of.Given as goal

-- what the commands so far came to, followed by what is due to those that are left, is what is due to all
abbrev pub invariant-loop-command : goal.invariant-loop-command
invariant-loop-command g l = record {
  core : l.core ≡ l.fn.core;
  next : l.course.next ≡ ready_of l.fn.core.durable l.course.changes.items;
  replies : (h : CurrentOpening) → IsCalm h l.fn.core l.acked → l.course.replies.items ++ replies_due h l.course.changes.items (drop l.command-index l.commands) ≡ replies_due h [] l.commands;
  changes : (h : CurrentOpening) → IsCalm h l.fn.core l.acked → changes_due h l.course.changes.items (drop l.command-index l.commands) ≡ changes_due h [] l.commands;
  fit : FollowInTurn l.fn.core.durable (made_all l.course.changes.items);
  wanted : list_all can_be_wanted l.course.changes.items ≡ true;
  few : length l.course.changes.items ≤ l.command-index;
  each : IsTrue l.course.each_has_room ↔ FindRoomEach l.store.size l.fn.core.durable l.course.changes.items;
}
