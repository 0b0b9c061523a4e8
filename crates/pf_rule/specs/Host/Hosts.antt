-- Hosts: which addresses they take, and how their words are spelled (pf.conf(5), PARAMETERS and TABLES). That a table in its brackets is
-- one word is this project's own.
use Rattle.std.specs.{Prelude.{ℕ, ◌++◌, not, Bool, true, false, List, [], ◌∷◌, drop, codes, Option, Some, None, Result, Ok, if◌then◌else◌}, Option.{option_and_then, option_map_or}}
use Rattle.std.proofs.Common.{◌≡◌, refl}
use Rattle.pf_addr.specs.declared.addr.{Addr.Addr, Family.Family}
use Rattle.pf_form.specs.declared.form.fault.Kind.{Kind}
use Rattle.pf_addr.specs.{Address.{PlainNet, IsNetwork, network_of, contains}, Spelling.net_text, Grammar.SpellsNet, Reading.{part_at, pieces_at, v4_at, address_at, net_at}, Path.{Names.{IsTableName, table_name_of}, References.{rest_after, before}}}
use Rattle.pf_form.specs.Form.{Words.Word, Forms.{Form, nothing, word, or, ◌>>=◌}}
use Rattle.pf_addr.specs.declared.addr.Addr.TheVariants as addr
use Rattle.pf_rule.specs.Value.Values.{begins_with, as_word}
use Rattle.pf_rule.specs.declared.{host.host.Host.Host, host.host.Host.TheVariants.{Any, Net, Table}}

-- ---- which addresses they take

-- what tables say: whether the table of a name matches an address
abbrev pub TableTest : Type 0
TableTest = List ℕ → Addr → Bool

abbrev pub inverted : Bool → Bool → Bool
inverted negated test = if negated then not test else test

-- `!` inverts the test of a network or a table
abbrev pub host_holds : TableTest → Host → Addr → Bool
host_holds says Any a = true
host_holds says (Net n negated) a = inverted negated (contains n a)
host_holds says (Table name negated) a = inverted negated (says name a)

-- the two parts of this: what networks say, and what tables say
abbrev pub network_holds : Host → Addr → Bool
network_holds Any a = true
network_holds (Net n negated) a = inverted negated (contains n a)
network_holds (Table name negated) a = true

abbrev pub table_holds : TableTest → Host → Addr → Bool
table_holds says Any a = true
table_holds says (Net n negated) a = true
table_holds says (Table name negated) a = inverted negated (says name a)

-- what every host maintains
abbrev pub IsHost : Host → Type 0
IsHost Any = Unit {0}
IsHost (Net n negated) = IsNetwork n
IsHost (Table name negated) = IsTableName name

-- the family that a network gives, negated or not; a table gives none
abbrev pub host_family : Host → Option Family
host_family Any = None
host_family (Net n negated) = Some n.family
host_family (Table name negated) = None

-- ---- how their words are spelled

-- a table's name between "<" and ">"
abbrev pub in_brackets : List ℕ → Word
in_brackets name = codes "<" ++ (name ++ codes ">")

-- a table or a network
abbrev pub SpellsUnmarked : Word → Host → Type 0
SpellsUnmarked w Any = ⊥
SpellsUnmarked w (Net n negated) = SpellsNet w n
SpellsUnmarked w (Table name negated) = IsTableName name × (w ≡ in_brackets name)

abbrev pub is_negated : Host → Bool
is_negated Any = false
is_negated (Net n negated) = negated
is_negated (Table name negated) = negated

-- after a "!" (33) if it is negated
abbrev pub SpellsMarked : Bool → Word → Host → Type 0
SpellsMarked true w h = (text : Word) × (w ≡ 33 ∷ text) × SpellsUnmarked text h
SpellsMarked false w h = SpellsUnmarked w h

abbrev pub SpellsHost : Word → Host → Type 0
SpellsHost w h = SpellsMarked (is_negated h) w h

-- ---- how they are read

-- what is between "<" and ">"
abbrev pub bracketed : Word → Option Word
bracketed w = option_and_then (before (codes ">")) (rest_after (codes "<") w)

abbrev pub net_of : Word → Result PlainNet Kind
net_of w = as_word (net_at w)

-- a table, or else a network, negated or not
abbrev pub marked_by : Bool → Word → Option Word → Result Host Kind
marked_by negated w between =
    option_map_or (λ name. table_name_of name >>= λ n. Ok (Table n negated)) between (net_of w >>= λ n. Ok (Net n negated))

abbrev pub marked : Bool → Word → Result Host Kind
marked negated w = marked_by negated w (bracketed w)

pub marked_taken : marked true (codes "0.0.0.0") ≡ Ok (Net (network_of (addr.V4 0)) true)
unfolding part_at pieces_at v4_at address_at
marked_taken = refl

unfoldable pub a_negated_host : Form Host
a_negated_host =
    word (record { of = marked true; sample = codes "0.0.0.0"; value = Net (network_of (addr.V4 0)) true; takes = marked_taken })

-- with or without a "!" joined to it
abbrev pub host_of : Word → Result Host Kind
host_of w = if begins_with (codes "!") w then marked true (drop 1 w) else marked false w

pub host_taken : host_of (codes "0.0.0.0") ≡ Ok (Net (network_of (addr.V4 0)) false)
unfolding part_at pieces_at v4_at address_at
host_taken = refl

unfoldable pub a_host : Form Host
a_host = word (record { of = host_of; sample = codes "0.0.0.0"; value = Net (network_of (addr.V4 0)) false; takes = host_taken })

-- "any" | ["!"] (network | "<" name ">"), where the `!` may also be joined to what follows
unfoldable pub host : Form Host
host = or (codes "any") (nothing Any) (or (codes "!") a_negated_host a_host)

-- ---- how they are written

abbrev pub host_words : Host → List Word
host_words Any = codes "any" ∷ []
host_words (Net n true) = codes "!" ∷ net_text n ∷ []
host_words (Net n false) = net_text n ∷ []
host_words (Table name true) = codes "!" ∷ in_brackets name ∷ []
host_words (Table name false) = in_brackets name ∷ []
