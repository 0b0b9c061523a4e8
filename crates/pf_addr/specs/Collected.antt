-- What the readers keep of the numbers that they read: the first ones, and how many there are.
use Rattle.std.specs.Prelude.{ℕ, Bool, List, ◌++◌, length, take, replicate, Result, Ok}
use Rattle.pf_addr.specs.{Grammar.four_bytes, Reading.{parts_at, groups_at, end_at}}
use Rattle.pf_form.specs.Form.Forms.{◌>>=◌}
use Rattle.pf_addr.specs.declared.{fault.AddrFault.AddrFault, reading.Parts.Parts, ipv6_text.Groups.Groups, ipv6_text.TheConstants.GROUPS}

abbrev pub parts_of : List ℕ → Parts
parts_of parts = record { bytes = four_bytes parts; count = length parts }

abbrev pub eight_groups : List ℕ → List ℕ
eight_groups groups = take GROUPS (groups ++ replicate GROUPS 0)

abbrev pub groups_of : List ℕ → Groups
groups_of groups = record { numbers = eight_groups groups; count = length groups }

abbrev pub parts_kept : ℕ → List ℕ → Result Parts AddrFault
parts_kept at text = parts_at at text >>= λ parts. Ok (parts_of parts)

abbrev pub groups_kept : Bool → ℕ → List ℕ → Result Groups AddrFault
groups_kept ends at text = groups_at ends at text >>= λ groups. Ok (groups_of groups)

-- of the last piece after these groups
abbrev pub last_kept : List ℕ → Bool → ℕ → List ℕ → Result Groups AddrFault
last_kept before ends at text = end_at ends at text >>= λ last. Ok (groups_of (before ++ last))
