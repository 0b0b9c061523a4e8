-- What C gets for a fault.
use Rattle.std.specs.Prelude.{ℕ}
use Rattle.wirdalf_c.specs.declared.fault.ReadFault.{ReadFault, TheVariants.{BadSize, NoBank, Corrupt, Memory}}
use Rattle.wirdalf_c.specs.declared.fault.TheConstants.{BAD_SIZE, NO_BANK, CORRUPT, MEMORY, REFUSED, UNFIT}
use Rattle.wirdalf_c.specs.declared.lines.LineRefusal.{LineRefusal}
use Rattle.wirdalf_c.specs.declared.lines.LineRefusal.TheVariants as line

abbrev pub code_of : ReadFault → ℕ
code_of BadSize = BAD_SIZE
code_of NoBank = NO_BANK
code_of (Corrupt at) = CORRUPT
code_of Memory = MEMORY

-- the place that it names, and 0 for each other
abbrev pub place_of : ReadFault → ℕ
place_of BadSize = 0
place_of NoBank = 0
place_of (Corrupt at) = at
place_of Memory = 0

-- for a line that isn't done
abbrev pub line_code : LineRefusal → ℕ
line_code (line.Refused e) = REFUSED
line_code line.Unfit = UNFIT
line_code line.Memory = MEMORY
