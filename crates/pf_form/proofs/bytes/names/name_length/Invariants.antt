use Rattle.std.proofs.Common.{◌≡◌, ◌+◌, drop}
use Rattle.std.specs.{Prelude.nat_lt, List.prefix_len}
use Rattle.pf_form.proofs.bytes.names.name_length.Given as goal

abbrev pub invariant-loop-byte : goal.invariant-loop-byte
invariant-loop-byte l = record {
  so_far : l.length ≡ l.byte-index;
  rest : l.length + prefix_len (nat_lt 0) (drop l.byte-index l.field) ≡ prefix_len (nat_lt 0) l.field;
}
