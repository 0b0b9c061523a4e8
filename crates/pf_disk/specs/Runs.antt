-- What calls leave of a device. A clause about a device of type `D` names its words together by `D.Disk`.
use Rattle.std.specs.Prelude.{◌≡◌, ℕ, ◌+◌, ◌≤◌, Bool, if◌then◌else◌, List, length}
use Rattle.pf_disk.specs.Disk.{IsImage, AreIn, EachMoment}
use Rattle.pf_disk.specs.declared.disk.Disk.{Ghosts}

-- It may have been written, in so many moments at most: each image of each moment has P, and so has what it reads as now; it is as long as
-- before; and the count of faults rose by one if a call failed.
pub record MayWrite {D : Type 0} (device : Ghosts D) (old new : D) (most : ℕ) (failed : Bool) (P : List ℕ → Type 0) : Type 0 where
  pub any_moment : EachMoment device.moment device.left_since old new P
  pub read : P (device.seen new)
  pub same_size : length (device.seen new) ≡ length (device.seen old)
  pub moments : device.moment new ≤ device.moment old + most
  pub faults : device.fault_count new ≡ device.fault_count old + (if failed then 1 else 0)

-- It was only read: it reads as before, the same places are unsynced, and each image of each moment is one from before.
pub record OnlyReads {D : Type 0} (device : Ghosts D) (old new : D) (most : ℕ) (failed : Bool) : Type 0 where
  pub seen : device.seen new ≡ device.seen old
  pub unsynced : AreIn (device.unsynced new) (device.unsynced old)
  pub still : AreIn (device.unsynced old) (device.unsynced new)
  pub run : MayWrite device old new most failed (IsImage (device.seen old) (device.unsynced old))

-- It was read and synced: the same, but for what is unsynced.
pub record WritesNothing {D : Type 0} (device : Ghosts D) (old new : D) (most : ℕ) (failed : Bool) : Type 0 where
  pub seen : device.seen new ≡ device.seen old
  pub run : MayWrite device old new most failed (IsImage (device.seen old) (device.unsynced old))
