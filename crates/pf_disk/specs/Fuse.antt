-- What a `FuseDisk` shows.
use Rattle.std.specs.Prelude.{ℕ}
use Rattle.pf_disk.specs.declared.{disk.Disk.Ghosts, fuse.Fuse.Fuse, fuse.FuseDisk.FuseDisk}

module _ {D : Type 0} {G : Ghosts D} where
  abbrev pub inner_of : FuseDisk D G → D
  inner_of f = f.inner

  abbrev pub fuse_of : FuseDisk D G → Fuse
  fuse_of f = f.fuse

  -- how many calls it refused
  abbrev pub refused_of : FuseDisk D G → ℕ
  refused_of f = f.refused

  -- how many calls it passed on
  abbrev pub passed_of : FuseDisk D G → ℕ
  passed_of f = f.passed
