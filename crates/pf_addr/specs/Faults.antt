-- The text that is shown for a fault.
use Rattle.std.specs.Prelude.{ℕ, List, ◌++◌, codes, decimal}
use Rattle.pf_addr.specs.declared.{fault.AddrFault.AddrFault, fault.AddrFault.TheVariants.{Empty, BadDigit, TooBig, BadLength, BadGroups}}

abbrev pub fault_text : AddrFault → List ℕ
fault_text (Empty at) = codes "no address at byte " ++ decimal at
fault_text (BadDigit at) = codes "no digit at byte " ++ decimal at
fault_text (TooBig at) = codes "too big a part at byte " ++ decimal at
fault_text (BadLength at) = codes "no prefix length at byte " ++ decimal at
fault_text (BadGroups at) = codes "a wrong number of parts at byte " ++ decimal at
