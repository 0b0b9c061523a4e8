use Rattle.std.proofs.Common.{◌≡◌, ◌+◌, ◌≤◌, ◌++◌, length, take, vec_len, vec_capacity}
use Rattle.pf_view.specs.Sharing.{changes_of}
use Rattle.pf_view.proofs.shown.push_shared.Given as goal

abbrev pub invariant-loop-change : goal.invariant-loop-change
invariant-loop-change l = record {
  room : vec_len l.list + length l.changes ≤ vec_capacity l.list + l.change-index;
  all : changes_of l.list.items ≡ changes_of l.initial.list.items ++ changes_of (take l.change-index l.changes);
  old : take l.before l.list.items ≡ l.initial.list.items;
  long : l.before ≤ vec_len l.list;
}
