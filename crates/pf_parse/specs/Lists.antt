-- Lists in braces (pf.conf(5), "Lists"): commas are optional, lists of hosts stand in lists of hosts.
use Rattle.std.specs.Prelude.{ℕ, zero, suc, ◌-◌, Bool, true, false, List, [], ◌∷◌, ◌++◌, length, codes, decimal, Option, Some, None, Result, Ok, Err, if◌then◌else◌}
use Rattle.std.specs.{Char.is_ascii_digit, List.slice_get}
use Rattle.pf_form.specs.{Form.Forms.{◌>>=◌}}
use Rattle.pf_form.specs.declared.form.fault.Kind.{Kind}
use Rattle.pf_form.specs.declared.form.fault.Kind.TheVariants.{BadWord, NameTooLong, BadProto}
use Rattle.pf_addr.specs.{Address.PlainNet, Path.Names.{name_of, table_name_of}}
use Rattle.pf_lists.specs.declared.hosts.Host.{Host}
use Rattle.pf_tokens.specs.declared.{place.Place.Place, token.Token.Token}
use Rattle.pf_tokens.specs.{Places.text_of, Words.{is_word, is_symbol, is_newline, is_number}}
use Rattle.pf_parse.specs.declared.{fault.Mistake.Mistake, fault.Stop.Stop, lists.Operator.Operator, lists.Tested.{Tested}, lists.Tested.TheVariants.{Protocol, Port}, lists.TheConstants.{LIST_LIMIT, INTERFACE_BYTES}}
use Rattle.pf_parse.specs.declared.lists.Operator.TheVariants as operators
use Rattle.pf_parse.specs.declared.fault.Mistake.TheVariants as mistakes
use Rattle.pf_parse.specs.declared.fault.Reason.TheVariants as reasons
use Rattle.pf_parse.specs.declared.fault.Remark.TheVariants as remarks
use Rattle.pf_parse.specs.{Stops.fault_at, Values.{protocol_of, protocol_words, operand, port_words, net_at_place}}
use Rattle.pf_parse.specs.Reading.{Word, Reads, giving, ◌>=>◌, refusing, looking, next, token, takes_symbol, expect, expect_symbol, string, value, unexpected, refused_at, newlines, note, repeated}

abbrev pub looking_at : Reads Token
looking_at = looking next

-- a result, without a step
abbrev pub from : {A : Type 0} → Result A Stop → Reads A
from (Ok x) s = Ok (x, s)
from (Err e) s = Err e

-- ---- lists

-- what comes behind an open brace isn't the list's end
unfoldable pub begin_list : Reads (Unit {0})
begin_list = newlines >=> λ _. looking_at >=> λ t. if is_symbol (codes "}") t then refusing t.place mistakes.EmptyList else giving tt

abbrev pub after_comma : Bool → Reads Bool
after_comma false = giving true
after_comma true = looking_at >=> λ t. if is_newline t then refusing t.place mistakes.NewlineAfterComma else giving true

abbrev pub after_item : Bool → Reads Bool
after_item true = giving false
after_item false = takes_symbol (codes ",") >=> after_comma

-- whether another item follows
unfoldable pub list_goes_on : Reads Bool
list_goes_on = newlines >=> λ _. takes_symbol (codes "}") >=> after_item

-- one more item, or several, behind those of a list
abbrev pub item_more : {A : Type 0} → Reads (List A) → List A → Reads (List A × Bool)
item_more item xs = item >=> λ ys. list_goes_on >=> λ more. giving (xs ++ ys, more)

-- what stands behind an open brace
abbrev pub list : {A : Type 0} → Reads (List A) → Reads (List A)
list item = begin_list >=> λ _. repeated (item_more item) []

abbrev pub one : {A : Type 0} → Reads A → Reads (List A)
one item = item >=> λ x. giving (x ∷ [])

unfoldable pub no_list : Reads (Unit {0})
no_list = looking_at >=> λ t. if is_symbol (codes "{") t then refusing t.place mistakes.InnerList else giving tt

abbrev pub listed_item : {A : Type 0} → Reads A → Reads (List A)
listed_item item = no_list >=> λ _. one item

abbrev pub one_or_items : {A : Type 0} → Reads A → Bool → Reads (List A)
one_or_items item true = list (listed_item item)
one_or_items item false = one item

-- one of these, or a list of them
abbrev pub one_or_list : {A : Type 0} → Reads A → Reads (List A)
one_or_list item = takes_symbol (codes "{") >=> one_or_items item

-- ---- names

-- a name of at most so many bytes, in a token
abbrev pub name_checked : Token → Mistake → Mistake → Result Word Kind → Result (Unit {0}) Stop
name_checked t long bad (Ok name) = Ok tt
name_checked t long bad (Err NameTooLong) = Err (fault_at t.place long)
name_checked t long bad (Err BadWord) = Err (fault_at t.place bad)
name_checked t long bad (Err BadProto) = Err (fault_at t.place bad)

abbrev pub table_checked : Token → Result (Unit {0}) Stop
table_checked t = name_checked t mistakes.LongTableName (mistakes.TableName (text_of t.text)) (table_name_of (text_of t.text))

unfoldable pub table_name : Reads Token
table_name = string >=> λ t. from (table_checked t) >=> λ _. giving t

abbrev pub is_digit_at : Option ℕ → Bool
is_digit_at None = false
is_digit_at (Some b) = is_ascii_digit b

abbrev pub ends_in_digit : Word → Bool
ends_in_digit name = is_digit_at (slice_get name (length name - 1))

-- A name without a digit at its end might be a group's.
unfoldable pub noted_group : Token → Reads (Unit {0})
noted_group t = if ends_in_digit (text_of t.text) then giving tt else note t.place (remarks.NoGroup (text_of t.text))

unfoldable pub not_negated : Reads (Unit {0})
not_negated = looking_at >=> λ t. if is_symbol (codes "!") t then (λ s. Err (refused_at reasons.NegatedInterface t)) else giving tt

abbrev pub interface_checked : Token → Result (Unit {0}) Stop
interface_checked t = name_checked t mistakes.LongInterface (mistakes.Interface (text_of t.text)) (name_of INTERFACE_BYTES (text_of t.text))

unfoldable pub interface : Reads Token
interface = not_negated >=> λ _. string >=> λ t. from (interface_checked t) >=> λ _. noted_group t >=> λ _. giving t

unfoldable pub interfaces : Reads (List Token)
interfaces = one_or_list interface

-- ---- what items add to a rule: words that pf_rule reads

unfoldable pub protocol : Reads (List Word)
protocol = value >=> λ t. from (protocol_of t (is_number t) >>= λ n. Ok (protocol_words n))

abbrev pub text_of_operator : Operator → Word
text_of_operator operators.Same = codes "="
text_of_operator operators.Other = codes "!="
text_of_operator operators.Less = codes "<"
text_of_operator operators.LessOrSame = codes "<="
text_of_operator operators.More = codes ">"
text_of_operator operators.MoreOrSame = codes ">="

abbrev pub one_port : Operator → ℕ → List Word
one_port o n = codes "port" ∷ text_of_operator o ∷ decimal n ∷ []

abbrev pub two_ports : ℕ → Word → ℕ → List Word
two_ports m w n = codes "port" ∷ decimal m ∷ w ∷ decimal n ∷ []

abbrev pub or_same : Operator → Operator → Reads (Option Operator)
or_same alone with_same = takes_symbol (codes "=") >=> λ is. giving (Some (if is then with_same else alone))

-- an operator before one port, if one comes next
unfoldable pub operator : Reads (Option Operator)
operator =
    takes_symbol (codes "=") >=> λ equals. if equals then giving (Some operators.Same)
    else (takes_symbol (codes "!") >=> λ differs. if differs then (expect_symbol (codes "=") >=> λ _. giving (Some operators.Other))
    else (takes_symbol (codes "<") >=> λ less. if less then or_same operators.Less operators.LessOrSame
    else (takes_symbol (codes ">") >=> λ more. if more then or_same operators.More operators.MoreOrSame else giving None)))

unfoldable pub compared : Operator → Reads (List Word)
compared o = value >=> λ t. from (operand t >>= λ n. Ok (one_port o n))

unfoldable pub between : Token → Word → Reads (List Word)
between first w =
    from (operand first) >=> λ m. value >=> λ t. from (operand t >>= λ n. Ok (two_ports m w n))

unfoldable pub ranged : Reads (List Word)
ranged =
    value >=> λ t. takes_symbol (codes "><") >=> λ within. if within then between t (codes "><")
    else (takes_symbol (codes "<>") >=> λ without. if without then between t (codes "<>")
    else from (port_words t))

abbrev pub port_by : Option Operator → Reads (List Word)
port_by (Some o) = compared o
port_by None = ranged

unfoldable pub port : Reads (List Word)
port = operator >=> port_by

-- what is tested by one of these or a list of them
unfoldable pub tested : Tested → Reads (List Word)
tested Protocol = protocol
tested Port = port

unfoldable pub all_tested : Tested → Reads (List (List Word))
all_tested what = one_or_list (tested what)

-- ---- hosts

abbrev pub table_word : Token → Word
table_word t = codes "<" ++ (text_of t.text ++ codes ">")

abbrev pub table_host : Token → Bool → Host
table_host t negated = record { place = t.place; word = table_word t; net = None; is_negated = negated }

unfoldable pub named_host : Bool → Reads Host
named_host negated = table_name >=> λ t. expect_symbol (codes ">") >=> λ _. giving (table_host t negated)

abbrev pub with_slash : Token → Token → Word
with_slash t n = text_of t.text ++ (codes "/" ++ text_of n.text)

-- an address, with the length behind a slash if there is one
abbrev pub with_length : Token → Bool → Reads Word
with_length t false = giving (text_of t.text)
with_length t true = expect is_number >=> λ n. giving (with_slash t n)

unfoldable pub address : Token → Reads Word
address t = takes_symbol (codes "/") >=> with_length t

unfoldable pub no_range : Reads (Unit {0})
no_range = looking_at >=> λ t. if is_symbol (codes "-") t then refusing t.place mistakes.AddressRange else giving tt

abbrev pub host_of_net : Place → Bool → Word → PlainNet → Host
host_of_net p negated text n = record { place = p; word = text; net = Some n; is_negated = negated }

unfoldable pub net_host : Bool → Reads Host
net_host negated =
    value >=> λ t. address t >=> λ text. no_range >=> λ _. from (net_at_place t.place text text)
    >=> λ n. giving (host_of_net t.place negated text n)

unfoldable pub other_host : Bool → Reads Host
other_host negated =
    looking_at >=> λ t. if is_symbol (codes "(") t then (λ s. Err (refused_at reasons.InterfaceAddress t))
    else if is_word (codes "self") t then unexpected
    else net_host negated

-- a table or a network, perhaps negated
unfoldable pub host : Reads Host
host = takes_symbol (codes "!") >=> λ negated. takes_symbol (codes "<") >=> λ is_table. if is_table then named_host negated else other_host negated

unfoldable pub not_any : Reads (Unit {0})
not_any = looking_at >=> λ t. if is_word (codes "any") t then refusing t.place mistakes.AnyInList else giving tt

-- a host, or those of a list
abbrev pub listed_hosts : Reads (List Host) → Reads (List Host)
listed_hosts inner = not_any >=> λ _. looking_at >=> λ t. if is_symbol (codes "{") t then inner else one host

-- the hosts of a list whose open brace comes next, in lists that are left to be so deep
unfoldable pub hosts_in : ℕ → Reads (List Host)
hosts_in zero = looking_at >=> λ t. refusing t.place mistakes.DeepList
hosts_in (suc deep) =
    token >=> λ _. list (listed_hosts (hosts_in deep))

abbrev pub host_list : Reads (List Host)
host_list = hosts_in LIST_LIMIT

unfoldable pub hosts : Reads (List Host)
hosts = looking_at >=> λ t. if is_symbol (codes "{") t then host_list else one host
