use Rattle.std.proofs.Common.{inl}
use Rattle.pfd_files.proofs.files.show_file.Goals as goal

pub returns : goal.returns
returns g c = inl (c.in_ok-disk.disk, c.show_on.ensures.shown)
