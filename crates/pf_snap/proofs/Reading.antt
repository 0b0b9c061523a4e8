-- Calls that only read, one after the other.
use Rattle.std.proofs.Common.{ℕ, ◌+◌, ◌≤◌, Bool, false, List, ◌∙◌, subst}
use Rattle.pf_disk.specs.{Disk.IsImage, Runs.OnlyReads, declared.disk.Disk.Ghosts}
use Rattle.pf_disk.proofs.Writing.{and_then, weakened}

module _ {D : Type 0} (device : Ghosts D) where
  -- an image of a device that reads as another did, with no more unsynced
  image_before : (old mid : D) (m : ℕ) (failed : Bool) → OnlyReads device old mid m failed → (c : List ℕ)
      → IsImage (device.seen mid) (device.unsynced mid) c → IsImage (device.seen old) (device.unsynced old) c
  image_before old mid m failed reads c image = subst (λ (l : List ℕ). IsImage l (device.unsynced old) c) reads.seen (record {
    same_length = image.same_length;
    agrees = λ i out. image.agrees i (reads.unsynced i out);
  })

  pub reads_on : (old mid new : D) (m n most : ℕ) (failed : Bool) → OnlyReads device old mid m false → OnlyReads device mid new n failed → m + n ≤ most
      → OnlyReads device old new most failed
  reads_on old mid new m n most failed first second few = record {
    seen = second.seen ∙ first.seen;
    unsynced = λ i out. second.unsynced i (first.unsynced i out);
    still = λ i out. first.still i (second.still i out);
    run = and_then first.run (weakened second.run (image_before old mid m false first)) few;
  }
