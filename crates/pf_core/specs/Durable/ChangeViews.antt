-- Changes as contracts see them, from the types that hold memory.
use Rattle.pf_core.specs.{declared.{durable.change.ChangeKind.ChangeKind, durable.change.ChangeKind.TheVariants.Commit, durable.change.ChangeKind.TheVariants.Add, durable.change.ChangeKind.TheVariants.Delete, durable.change.ChangeKind.TheVariants.Set, durable.change.ChangeKind.TheVariants.States, durable.change.ChangeKind.TheVariants.Remove, durable.change.ChangeKind.TheVariants.Expire}, Durable.Changes.{PlainChange, commits, adds, deletes, sets, acts, removes, expires}}

abbrev pub change_of : ChangeKind → PlainChange
change_of (Commit items) = commits items.items
change_of (Add p name xs) = adds p name xs
change_of (Delete p name xs) = deletes p name xs
change_of (Set p name xs) = sets p name xs
change_of (States steps) = acts steps
change_of (Remove name) = removes name
change_of (Expire tick) = expires tick
