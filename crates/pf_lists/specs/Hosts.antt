-- Hosts of a list (pf.conf(5), "Lists" and "host").
use Rattle.std.specs.Prelude.{Bool, true, false, List, [], ◌∷◌, codes}
use Rattle.pf_lists.specs.declared.hosts.Host.{Host}
use Rattle.pf_lists.specs.Product.{Word}

-- behind a "!" if it is negated
abbrev pub signed : Bool → Word → List Word
signed true w = codes "!" ∷ w ∷ []
signed false w = w ∷ []

-- The words that a host adds to a rule: a "!" belongs to its host alone.
abbrev pub host_words : Host → List Word
host_words h = signed h.is_negated h.word
