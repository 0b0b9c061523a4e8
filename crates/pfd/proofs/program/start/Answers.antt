use Rattle.std.proofs.{Common.{ℕ, List, inr}, KnownBytes.Keeps-refl}
use Rattle.pfd.proofs.Running.{ran}
use Rattle.pf_disk.specs.declared.{memory.MemDisk.MemDisk, file.FileDisk.FileDisk}
use Rattle.pfd.proofs.program.start.Goals as goal

abbrev memory : MemDisk → ℕ
memory disk = disk.fault_count

abbrev seen : FileDisk → List ℕ
seen disk = disk.bytes.items

abbrev file : FileDisk → ℕ
file disk = disk.fault_count

pub returns-in-Ok-clause-run : goal.returns-in-Ok-clause-run
returns-in-Ok-clause-run g c = λ words.
    let unread = g.R.Read.remaining c.args.reader.now in
    let still_unread = g.R.Read.remaining c.perform-done.new.reader in
    let held = g.W.Write.contents c.args.writer.now in
    let held' = g.W.Write.contents c.perform-done.new.writer in
    rw c.end_with.ensures (ran memory seen file c.in-Ok.task c.perform-done.result unread still_unread held held' (c.in-Ok.ensures.alone words) c.perform-done.ensures)

pub returns-in-Err-clause-run : goal.returns-in-Err-clause-run
returns-in-Err-clause-run g c = λ words.
    let none = c.explain.ensures.memory (c.in-Err.ensures.run words) in
    inr (none.0, Keeps-refl (g.R.Read.remaining c.args.reader.now), none.1)
