-- The tokens of a file in which each mention of interfaces is the list of their addresses, as pfctl puts them there (pf.conf(5),
-- PARAMETERS, "from": "interface names .. are translated to the addresses").
use Rattle.std.specs.Prelude.{◌≡◌, ℕ, zero, suc, ◌==◌, Bool, true, false, List, [], ◌∷◌, ◌++◌, map, find, drop, codes, Option, Some, None, if◌then◌else◌}
use Rattle.std.specs.List.{flat_map}
use Rattle.pf_tokens.specs.declared.{place.Place.Place, token.Token.Token, token.Kind.Kind, token.Kind.TheVariants.{Quoted, Symbol}}
use Rattle.pf_tokens.specs.{Places.at, Words.is_word}
use Rattle.pf_values.specs.Numbers.{Word}
use Rattle.pf_values.specs.declared.interfaces.{interface.Interface.Interface, mention.Mention.Mention, hosts.Context.Context, hosts.Within.TheVariants.Table, addresses.Front.Front}
use Rattle.pf_values.specs.Interfaces.{Mentions.mention_in, Hosts.{same_within, beginning, takes_host, context_after, context_after_host}}

-- a token of this kind, all of whose bytes stand at this place
abbrev pub token_at : Place → Kind → Word → Token
token_at p kind text = record { kind = kind; place = p; text = map (λ b. at b p) text }

abbrev pub symbol_at : Place → Word → Token
symbol_at p text = token_at p Symbol text

-- An address is a string in quotes, so that it is no keyword.
abbrev pub host_at : Place → Bool → Word → List Token
host_at p true text = symbol_at p (codes "!") ∷ token_at p Quoted text ∷ []
host_at p false text = token_at p Quoted text ∷ []

abbrev pub hosts_at : Mention → List Token
hosts_at m = flat_map (host_at m.place m.is_negated) m.texts

-- as a list, but where they stand in one
abbrev pub listed : ℕ → Mention → List Token
listed deep m = if deep == 0 then (symbol_at m.place (codes "{") ∷ hosts_at m) ++ symbol_at m.place (codes "}") ∷ [] else hosts_at m

-- what the first of these tokens mention, where a host may stand
abbrev pub mention_at : List Interface → Context → List Token → Option Mention
mention_at is c ts = if takes_host c then mention_in is (same_within c.within Table) ts else None

-- given the first token, and what is mentioned
abbrev pub front_by : Context → Token → Option Mention → Front
front_by c t None = record { tokens = t ∷ []; more = 0; context = context_after t c }
front_by c t (Some m) = record { tokens = listed c.deep m; more = m.more; context = context_after_host c }

unfoldable pub front_of : List Interface → Context → Token → List Token → Front
front_of is c t ts = front_by c t (mention_at is c (t ∷ ts))

-- The tokens, behind so many that belong to what stands before.
unfoldable pub known_from : List Interface → ℕ → Context → List Token → List Token
known_from is more c [] = []
known_from is (suc more) c (t ∷ ts) = known_from is more c ts
known_from is zero c (t ∷ ts) = let f : Front = front_of is c t ts in f.tokens ++ known_from is f.more f.context ts

-- Where no interface is given, the tokens are as they were.
abbrev pub with_addresses : List Interface → List Token → List Token
with_addresses [] ts = ts
with_addresses (i ∷ is) ts = known_from (i ∷ is) 0 beginning ts

-- the first `antispoof`
abbrev pub antispoof_in : List Token → Option Token
antispoof_in ts = find (is_word (codes "antispoof")) ts

-- One token is taken: what comes of those behind it is what was wanted of all.
abbrev pub Goes : List Interface → List Token → List Token → ℕ → Context → List Token → ℕ → Context → Type 0
Goes is ts old more c new left d = old ++ known_from is more c ts ≡ new ++ known_from is left d (drop 1 ts)
