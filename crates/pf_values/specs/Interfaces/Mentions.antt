-- Where a file's tokens mention the addresses of an interface (pf.conf(5), PARAMETERS, "from"): by its name, or by `self` for those of all;
-- `:network` behind it is for its networks. In parentheses pf asks for them as they change.
use Rattle.std.specs.{Prelude.{ℕ, ◌+◌, ◌*◌, ◌==◌, nat_le, ◌&&◌, ◌||◌, not, Bool, true, false, List, [], ◌∷◌, map, take, drop, length, codes, count_by, position, Option, Some, None, if◌then◌else◌}, List.{list_any, flat_map}, Str.bytes_eq}
use Rattle.pf_tokens.specs.declared.{token.Token.Token}
use Rattle.pf_tokens.specs.{Places.text_of, Words.{is_word, is_symbol, is_string}}
use Rattle.pf_values.specs.Numbers.{Word}
use Rattle.pf_values.specs.Interfaces.Interfaces.{address_of}
use Rattle.pf_values.specs.declared.interfaces.{interface.OwnAddress.OwnAddress, interface.Interface.Interface, mention.Mention.Mention}

-- ---- what a text names

-- an interface with this name, or any of them
abbrev pub is_meant : Word → Interface → Bool
is_meant name i = bytes_eq name (codes "self") || bytes_eq i.name name

abbrev pub host_of : Bool → OwnAddress → Word
host_of true h = h.network
host_of false h = address_of h

abbrev pub hosts_of : Word → Bool → Interface → List Word
hosts_of name of_networks i = if is_meant name i then map (host_of of_networks) i.addresses else []

-- the addresses, or the networks, of all interfaces that a name means
abbrev pub all_hosts : List Interface → Word → Bool → List Word
all_hosts is name of_networks = flat_map (hosts_of name of_networks) is

-- given the place of the first colon
abbrev pub named_at : List Interface → Word → Option ℕ → List Word
named_at is text None = all_hosts is text false
named_at is text (Some i) = if bytes_eq (drop i text) (codes ":network") then all_hosts is (take i text) true else []

abbrev pub named_by : List Interface → Word → List Word
named_by is text = named_at is text (position (λ b. b == 58) text)

-- ---- what tokens mention

abbrev pub is_name : Token → Bool
is_name t = is_string t || is_word (codes "self") t

abbrev pub begins_with : Word → List Token → Bool
begins_with symbol [] = false
begins_with symbol (t ∷ ts) = is_symbol symbol t

abbrev pub rest_if : Bool → List Token → List Token
rest_if taken ts = if taken then drop 1 ts else ts

-- What may come behind a name: the parenthesis that was opened before it is closed, and no length follows.
abbrev pub ends : Bool → List Token → Bool
ends is_dynamic ts = (not is_dynamic || begins_with (codes ")") ts) && not (begins_with (codes "/") (rest_if is_dynamic ts))

abbrev pub is_v6 : Word → Bool
is_v6 text = list_any (λ b. b == 58) text

-- of each family one at most
abbrev pub is_one_each : List Word → Bool
is_one_each texts = nat_le (count_by is_v6 texts) 1 && nat_le (count_by (λ text. not (is_v6 text)) texts) 1

-- What changes is in no table. All but several networks of a family aren't each of these alone, which is what a list would say.
abbrev pub can_stand : Bool → Bool → Bool → List Word → Bool
can_stand in_table is_negated is_dynamic texts =
    not (length texts == 0) && (not is_dynamic || (not in_table && (not is_negated || is_one_each texts)))

abbrev pub one_if : Bool → ℕ
one_if true = 1
one_if false = 0

abbrev pub mentioned : Bool → Bool → Bool → Token → List Word → Option Mention
mentioned in_table is_negated is_dynamic name texts =
    if can_stand in_table is_negated is_dynamic texts
    then Some (record { more = one_if is_negated + 2 * one_if is_dynamic; place = name.place; is_negated = is_negated; texts = texts })
    else None

-- given what stands before a name
abbrev pub mention_of_name : List Interface → Bool → Bool → Bool → List Token → Option Mention
mention_of_name is in_table is_negated is_dynamic [] = None
mention_of_name is in_table is_negated is_dynamic (name ∷ ts) =
    if is_name name && ends is_dynamic ts then mentioned in_table is_negated is_dynamic name (named_by is (text_of name.text)) else None

-- what the first of these tokens mention, if they do
unfoldable pub mention_in : List Interface → Bool → List Token → Option Mention
mention_in is in_table ts =
    let is_negated : Bool = begins_with (codes "!") ts in
    let rest : List Token = rest_if is_negated ts in
    let is_dynamic : Bool = begins_with (codes "(") rest in
    mention_of_name is in_table is_negated is_dynamic (rest_if is_dynamic rest)
