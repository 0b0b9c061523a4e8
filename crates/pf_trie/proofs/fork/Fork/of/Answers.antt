use Rattle.std.proofs.Common.{◌/◌, ◌^◌}
use Rattle.pf_trie.proofs.fork.Fork.of.Goals as goal

pub returns-in_ok-one_full_slot-in-Some : goal.returns-in_ok-one_full_slot-in-Some
returns-in_ok-one_full_slot-in-Some g c = λ s are. c.in_ok-one_full_slot-in-Some.ensures.slots s (c.args.address / 2 ^ c.args.at / 16) are
