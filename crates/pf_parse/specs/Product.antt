-- A rule as it is written: the lists whose product it stands for (pf.conf(5), "Lists").
use Rattle.std.specs.Prelude.{List, [], ◌∷◌, codes}
use Rattle.pf_lists.specs.Product.{Word}
use Rattle.pf_tokens.specs.declared.place.Place.{Place}
use Rattle.pf_parse.specs.declared.{tree.Product.Product, tree.Tests.Tests}

-- what isn't a list is one item
abbrev pub only : List Word → List (List Word)
only ws = ws ∷ []

abbrev pub keyword : Word → List (List Word)
keyword w = only (w ∷ [])

-- In pfctl's order of nesting: interface, protocol, source host, source port, destination host, destination port.
abbrev pub product_of : Place → List Word → Tests → List Word → Product
product_of p opening tests closing =
    record {
      place = p;
      lists = only opening ∷ tests.interfaces ∷ only tests.family ∷ tests.protocols
          ∷ keyword (codes "from") ∷ tests.source.hosts ∷ tests.source.ports
          ∷ keyword (codes "to") ∷ tests.destination.hosts ∷ tests.destination.ports
          ∷ only closing ∷ [];
    }
