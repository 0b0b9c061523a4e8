-- The two ends of a packet's way, the source and the destination: how they are spelled (pf.conf(5), GRAMMAR), and the words written for
-- them.
use Rattle.std.specs.Prelude.{List, [], ◌∷◌, ◌++◌, Option, None, IfSome, codes}
use Rattle.pf_form.specs.{Form.Words.Word, Form.Forms.{Form, nothing, or, pair, making}}
use Rattle.pf_rule.specs.declared.{value.ports.PortTest.PortTest, host.host.Host.Host, host.host.Host.TheVariants.Any}
use Rattle.pf_rule.specs.{Value.Ports.{IsPortTest, port, port_words}, Host.Hosts.{IsHost, host, host_words}}

-- one end: a host, and a test of its port
abbrev pub End : Type 0
End = Host × Option PortTest

-- what every end maintains
abbrev pub IsEnd : End → Type 0
IsEnd e = IsHost e.0 × IfSome e.1 IsPortTest

abbrev pub anywhere : End
anywhere = (Any, None)

-- host ["port" test]
unfoldable pub end : Form End
end = pair host port

-- ["to" end]
unfoldable pub destination : Form End
destination = or (codes "to") end (nothing anywhere)

abbrev pub to_alone : End → End × End
to_alone e = (anywhere, e)

-- ["all" | "from" end ["to" end] | "to" end], a source and a destination
unfoldable pub ends : Form (End × End)
ends =
    or (codes "all") (nothing (anywhere, anywhere))
    (or (codes "from") (pair end destination) (or (codes "to") (making to_alone end) (nothing (anywhere, anywhere))))

-- ---- how they are written

abbrev pub end_words : End → List Word
end_words e = host_words e.0 ++ port_words e.1

abbrev pub from_to_words : End → End → List Word
from_to_words source destination = codes "from" ∷ (end_words source ++ codes "to" ∷ end_words destination)

-- "all" if both hosts are any and no port is tested
abbrev pub ends_words : End → End → List Word
ends_words (Any, None) (Any, None) = codes "all" ∷ []
ends_words source destination = from_to_words source destination
