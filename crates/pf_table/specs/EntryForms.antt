-- An entry's form, 20 bytes, as a store and its snapshots have it.
--
--   place width field
--       0     1 family, 4 or 6
--       1     1 how many bits the network's front has
--       2     1 negated, 0 or 1
--       3     1 zero
--       4    16 the network's first address, IPv4 in the first four
use Rattle.std.specs.{Prelude.{◌==◌, Bool, [], ◌∷◌}, Ordering.is_lt}
use Rattle.pf_addr.specs.NetForms.{family, family_byte, address_in, first_number, is_network, network_at}
use Rattle.pf_form.specs.Bytes.{Forms.{Shape, nat, both, Value, ByteForm, number, front, pair, pair_by, that}, Codes.{flag, flag_byte}}
use Rattle.pf_table.specs.Entries.{PlainEntry}
use Rattle.pf_addr.specs.NetOrder.{net_order}

abbrev pub EntryShape : Shape
EntryShape = both nat (both nat (both nat nat))

unfoldable pub entry : ByteForm EntryShape
entry = that (λ e. is_network e.0 e.1.0 e.1.1.1)
    (pair_by family (λ f. pair (number 1) (pair flag (front (0 ∷ []) (address_in f)))))

abbrev pub plain_entry : PlainEntry → Value EntryShape
plain_entry e = (family_byte e.0.family, (e.0.len, (flag_byte e.1, first_number e.0)))

-- the entry of these values
abbrev pub entry_of : Value EntryShape → PlainEntry
entry_of e = (network_at e.0 e.1.0 e.1.1.1, e.1.1.0 == 1)

-- the order of a table's entries, in which no network comes before itself
abbrev pub entry_before : Value EntryShape → Value EntryShape → Bool
entry_before a b = is_lt (net_order (entry_of a).0 (entry_of b).0)
