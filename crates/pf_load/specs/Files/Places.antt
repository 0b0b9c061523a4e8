-- What laws say of where rules stand.
use Rattle.std.specs.Prelude.{◌≡◌, ◌⊎◌, List, [], ◌∷◌, filter, map}
use Rattle.pf_tokens.specs.declared.{place.Place.Place, token.Token.Token}
use Rattle.pf_parse.specs.declared.tree.Written.{Written}
use Rattle.pf_parse.specs.Laws.{begins_rule}

-- where the words stand with which a rule may begin: pass, block and anchor
abbrev pub beginnings : List Token → List Place
beginnings ts = map (λ (t : Token). t.place) (filter begins_rule ts)

-- where the rules stand that are written
abbrev pub places_of : List Written → List Place
places_of ws = map (λ (w : Written). w.product.place) ws

-- these places are some of those, in their order, each for itself
abbrev pub AreSome : List Place → List Place → Type 0
AreSome all [] = Unit {0}
AreSome [] (p ∷ ps) = ⊥
AreSome (q ∷ all) (p ∷ ps) = ((p ≡ q) × AreSome all ps) ⊎ AreSome all (p ∷ ps)
