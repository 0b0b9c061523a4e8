use Rattle.std.proofs.Common.{◌≡◌, Some, arith, true, sym, ◌∙◌}
use Rattle.std.specs.Result.{result_ok, is_ok}
use Rattle.pf_rule.specs.Value.Values.{interface_of}
use Rattle.wirdalf_c.specs.Packets.{name_in}
use Rattle.wirdalf_c.proofs.Interfaces.{is_interface, read_as_given}
use Rattle.wirdalf_c.proofs.packet.packet_in.Goals as goal

pub returns : goal.returns
returns c =
    let got : result_ok (interface_of (name_in c.args.given.now.interface)) ≡ Some c.in_ok-interface.interface = sym c.read.ensures ∙ c.in_ok-interface.was in
    let named : is_ok (interface_of (name_in c.args.given.now.interface)) ≡ true = is_interface (name_in c.args.given.now.interface) c.in_ok-interface.interface got in
    let same : c.in_ok-interface.interface ≡ name_in c.args.given.now.interface = read_as_given (name_in c.args.given.now.interface) c.in_ok-interface.interface got in
    grind (arith, named, same)
