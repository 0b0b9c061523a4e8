-- What a rule tests (pf.conf(5), PARAMETERS).
use Rattle.std.specs.Prelude.{List, [], ◌∷◌, map, codes, if◌then◌else◌}
use Rattle.pf_tokens.specs.declared.token.Token.{Token}
use Rattle.pf_tokens.specs.{Places.text_of, Words.is_word}
use Rattle.pf_lists.specs.Hosts.{host_words}
use Rattle.pf_parse.specs.declared.{tree.Tests.Tests, tree.Side.Side, lists.Tested.TheVariants.{Protocol, Port}}
use Rattle.pf_parse.specs.Reading.{Word, Reads, giving, ◌>=>◌, takes_word}
use Rattle.pf_parse.specs.Lists.{looking_at, interfaces, all_tested, hosts}

-- a list of one item that adds no word
abbrev pub nothing : List (List Word)
nothing = [] ∷ []

abbrev pub any_host : List (List Word)
any_host = (codes "any" ∷ []) ∷ []

abbrev pub any_side : Side
any_side = record { hosts = any_host; ports = nothing }

abbrev pub no_tests : Tests
no_tests = record { interfaces = nothing; family = []; protocols = nothing; source = any_side; destination = any_side }

abbrev pub interface_word : Token → List Word
interface_word t = codes "on" ∷ text_of t.text ∷ []

abbrev pub interface_words : List Token → List (List Word)
interface_words ts = map interface_word ts

-- if this word comes next, what follows it; else what holds without it
abbrev pub if_word : {A : Type 0} → Word → Reads A → A → Reads A
if_word w read otherwise = takes_word w >=> λ is. if is then read else giving otherwise

unfoldable pub tested_interfaces : Reads (List (List Word))
tested_interfaces = if_word (codes "on") (interfaces >=> λ is. giving (interface_words is)) nothing

unfoldable pub family : Reads (List Word)
family =
    takes_word (codes "inet") >=> λ is_v4. if is_v4 then giving (codes "inet" ∷ [])
    else if_word (codes "inet6") (giving (codes "inet6" ∷ [])) []

unfoldable pub protocols : Reads (List (List Word))
protocols = if_word (codes "proto") (all_tested Protocol) nothing

unfoldable pub side_hosts : Reads (List (List Word))
side_hosts =
    looking_at >=> λ t. if is_word (codes "port") t then giving any_host
    else (takes_word (codes "any") >=> λ is. if is then giving any_host else (hosts >=> λ hs. giving (map host_words hs)))

unfoldable pub side : Reads Side
side = side_hosts >=> λ hs. if_word (codes "port") (all_tested Port) nothing >=> λ ps. giving (record { hosts = hs; ports = ps })

unfoldable pub sides : Reads (Side × Side)
sides =
    takes_word (codes "all") >=> λ is_all. if is_all then giving (any_side, any_side)
    else (if_word (codes "from") side any_side >=> λ source. if_word (codes "to") side any_side >=> λ destination. giving (source, destination))

unfoldable pub tests : Reads Tests
tests =
    tested_interfaces >=> λ is. family >=> λ f. protocols >=> λ ps. sides
    >=> λ ends. giving (record { interfaces = is; family = f; protocols = ps; source = ends.0; destination = ends.1 })
