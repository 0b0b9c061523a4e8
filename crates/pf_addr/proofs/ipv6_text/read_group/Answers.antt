use Rattle.std.proofs.Common.{rules}
use Rattle.pf_addr.specs.Laws.Digits.{all_digits}
use Rattle.pf_addr.proofs.ipv6_text.read_group.Goals as goal

pub hex_value-requires-clause-digits : goal.hex_value-requires-clause-digits
hex_value-requires-clause-digits c = all_digits 16 c.args.text.now (search rules)
