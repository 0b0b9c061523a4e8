-- What a configuration owns.
use Rattle.std.specs.{Prelude.{Option, None, Some}, Box.Ownership.box_owns, declared.alloc.Global.Global, contracts.impls.GlobalAllocator.TheImpl.ghosts}
use base.Fml.{Fml, ftrue}
use denote.RawPtr.{Ptr}
use Rattle.pf_core.specs.Durable.Changes.{PlainDurable}
use Rattle.wirdalf_c.specs.contracts.holding.Holding.{the_row}

-- the C library's heap; a value of this type is only the leave to use it
abbrev pub heap : Global
heap = record { memory = record { seal = tt } }

-- what is kept, in a box of its own at this place; or nothing
abbrev pub holds : Ptr → Option PlainDurable → Fml
holds p None = ftrue
holds p (Some d) = box_owns (ghosts.dealloc_token heap) the_row p d
