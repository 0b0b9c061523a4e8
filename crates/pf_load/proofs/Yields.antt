-- What readers give: items whose words pf_rule reads.
use Rattle.std.proofs.Common.{◌≡◌, ℕ, zero, suc, ◌+◌, ◌<◌, ◌≤◌, ◌==◌, ◌&&◌, ◌||◌, not, cond, Bool, true, false, List, [], ◌∷◌, ◌++◌, map, take, drop, length, nat_le, nat_lt, codes, decimal, Option, Some, None, Result, Ok, Err, refl, sym, ap, subst, arith}
use Rattle.std.specs.{Prelude.{if◌then◌else◌, IfSome}, List.{All, list_all, list_any}, Str.bytes_eq, Option.ok_or}
use Rattle.std.proofs.lemmas.{Bool.{and_parts, leb-true}, List.Elements.{All-nil, All-append, All-map, All-push}}
use Rattle.pf_form.specs.Form.Forms.{◌>>=◌}
use Rattle.pf_form.specs.declared.form.fault.Kind.{Kind, TheVariants.{BadWord, NameTooLong, BadProto}}
use Rattle.pf_addr.specs.declared.fault.AddrFault.{AddrFault}
use Rattle.pf_addr.specs.{Address.PlainNet, Path.Names.{IsTableName, name_of, table_name_of}, Path.References.reference_of, Path.Paths.components, Reading.net_at}
use Rattle.pf_addr.specs.declared.path.limits.TheConstants.{TABLE_NAME_LIMIT}
use Rattle.pf_addr.proofs.NamesRead.{name_found}
use Rattle.pf_rule.specs.Value.{Values.IsProtocol, Tests.{interface as on_interface, family as a_family, protocol as a_protocol}, Ports.{operator_word, port as a_port}}
use Rattle.pf_rule.specs.Host.Hosts.{host as a_host}
use Rattle.pf_rule.specs.declared.{value.ports.Comparison.Comparison, value.ports.Comparison.TheVariants.{Equal, NotEqual, Less, AtMost, Greater, AtLeast}, value.ports.PortRange.TheVariants.{Including, Excluding, Except}, value.ports.PortTest.TheVariants.{Compared, Ranged}}
use Rattle.pf_values.specs.declared.{numbers.Mistake.Mistake as NoValue, ports.PortNumbers.PortNumbers, ports.PortNumbers.TheVariants.{One, Range}}
use Rattle.pf_values.specs.declared.numbers.Mistake.TheVariants.{PortNumber, Port as NoPort}
use Rattle.pf_values.specs.{Numbers.{is_digits, has_zeros, kept_between, number_between}, Named.{Row, number_in}, Ports.{port_of, range, colon_in, single_port_by, single_port_of, ports_by, ports_of}, Addresses.{without_zeros, net_of}}
use Rattle.pf_tokens.specs.declared.{place.Place.Place, token.Token.Token}
use Rattle.pf_tokens.specs.{Places.text_of, Words.{is_word, is_symbol, is_number, is_string}}
use Rattle.pf_lists.specs.{declared.hosts.Host.Host, Hosts.host_words}
use Rattle.pf_parse.specs.declared.{fault.Mistake.Mistake, fault.Stop.Stop}
use Rattle.pf_parse.specs.declared.fault.Mistake.TheVariants as mistakes
use Rattle.pf_parse.specs.declared.fault.LeftOut.TheVariants as left_out
use Rattle.pf_parse.specs.declared.fault.Reason.TheVariants.{InterfaceAddress}
use Rattle.pf_parse.specs.States.{State}
use Rattle.pf_parse.specs.Values.{value_at, protocol_by, protocol_of, protocol_words, operand, words_of_ports, port_words, net_at_place}
use Rattle.pf_parse.specs.Reading.{Word, Reads, giving, ◌>=>◌, refusing, next, token, takes_word, takes_symbol, unexpected, leave_out, refused_at, expect_word, expect_symbol, string, value, repeating, repeated}
use Rattle.pf_parse.specs.Lists.{looking_at, from, begin_list, list_goes_on, item_more, list, one, no_list, listed_item, one_or_items, one_or_list, name_checked, table_checked, table_name, not_negated, interface_checked, interface, interfaces, protocol, text_of_operator, one_port, two_ports, or_same, operator, compared, between, ranged, port_by, port, tested, all_tested, table_host, named_host, address, no_range, host_of_net, net_host, other_host, host, not_any, listed_hosts, hosts_in, host_list, hosts}
use Rattle.pf_parse.specs.Criteria.{nothing, any_host, any_side, interface_word, interface_words, if_word, tested_interfaces, family, protocols, side_hosts, side, sides, tests}
use Rattle.pf_parse.specs.Options.{is_anchor, is_ok_name, label_of, label, state, flags, left_out_option, option, is_state, ends_options, options_more, nothing_said, said, state_words, label_words, closing, tests_and_options, once, kept, written_flags}
use Rattle.pf_parse.specs.Anchors.{in_quotes, no_fault, name_fault, fault_checked, path_checked, is_reserved, quoted_path, anchor_name, own_name}
use Rattle.pf_conf.proofs.Kept.{both, if_not}
use Rattle.pf_load.specs.Files.Types.{type_of, Start, Tests, Options, Operator, Named}
use Rattle.pf_load.proofs.Spelled.{Spelled, interface_spelled, no_interface_spelled, v4_spelled, v6_spelled, no_family_spelled, protocol_spelled, no_protocol_spelled, port_spelled, no_port_spelled, any_spelled, table_spelled, net_spelled, negated_net_spelled}

-- what is read is so
pub record Yields {A : Type 0} (P : A → Type 0) (read : Reads A) : Type 0 where
  pub yields : (s : State) (x : A) (t : State) → read s ≡ Ok (x, t) → P x

-- ---- how readers are made

then_yields : {A B : Type 0} → (P : A → Type 0) (Q : B → Type 0) (next_read : A → Reads B) (r : Result (A × State) Stop) → ((x : A) (u : State) → r ≡ Ok (x, u) → P x) → ((x : A) → P x → Yields Q (next_read x)) → (y : B) (t : State) → (r >>= λ (x, u). next_read x u) ≡ Ok (y, t) → Q y
then_yields P Q next_read (Ok (x, u)) first all y t is = (all x (first x u refl)).yields u y t is
then_yields P Q next_read (Err e) first all y t is = absurd (cc)

pub yields_then : {A B : Type 0} → (P : A → Type 0) (Q : B → Type 0) (read : Reads A) (next_read : A → Reads B) → Yields P read → ((x : A) → P x → Yields Q (next_read x)) → Yields Q (read >=> next_read)
yields_then P Q read next_read first all = record { yields = λ s y t is. then_yields P Q next_read (read s) (first.yields s) all y t is }

-- whatever the first gives
pub yields_after : {A B : Type 0} → (Q : B → Type 0) (read : Reads A) (next_read : A → Reads B) → ((x : A) → Yields Q (next_read x)) → Yields Q (read >=> next_read)
yields_after Q read next_read all = yields_then (λ x. Unit {0}) Q read next_read (record { yields = λ s x t is. tt }) (λ x _. all x)

pub yields_giving : {A : Type 0} → (P : A → Type 0) (x : A) → P x → Yields P (giving x)
yields_giving {A} P x so = record { yields = λ s y t is. let pair : (x, s) ≡ (y, t) = cc in subst P (ap (λ (z : A × State). z.0) pair) so }

yields_refusing : {A : Type 0} → (P : A → Type 0) (p : Place) (m : Mistake) → Yields P (refusing p m)
yields_refusing P p m = record { yields = λ s x t is. absurd (cc) }

yields_fault : {A : Type 0} → (P : A → Type 0) (e : State → Stop) → Yields P (λ s. Err (e s))
yields_fault P e = record { yields = λ s x t is. absurd (cc) }

yields_unexpected : {A : Type 0} → (P : A → Type 0) → Yields P unexpected
yields_unexpected P = record { yields = λ s x t is. absurd (cc) }

pub yields_if : {A : Type 0} → (P : A → Type 0) (b : Bool) (r q : Reads A) → (b ≡ true → Yields P r) → (b ≡ false → Yields P q) → Yields P (cond b r q)
yields_if P true r q first other = first refl
yields_if P false r q first other = other refl

pub yields_from : {A : Type 0} → (P : A → Type 0) (r : Result A Stop) → ((x : A) → r ≡ Ok x → P x) → Yields P (from r)
yields_from P (Ok x) so = yields_giving P x (so x refl)
yields_from P (Err e) so = yields_fault P (λ s. e)

pub yields_look : {B : Type 0} → (P : B → Type 0) (next_read : Token → Reads B) → ((t : Token) → Yields P (next_read t)) → Yields P (looking_at >=> next_read)
yields_look P next_read all = record { yields = λ s x t is. (all (next s)).yields s x t is }

yields_repeating : {A : Type 0} → (P : A → Type 0) (again : A → Reads (A × Bool)) → ((x : A) → P x → Yields (λ (y : A × Bool). P y.0) (again x)) → (n : ℕ) (x : A) → P x → Yields P (repeating again n x)
unfolding repeating
yields_repeating P again step zero x so = yields_unexpected P
yields_repeating {A} P again step (suc n) x so =
    yields_then (λ (y : A × Bool). P y.0) P (again x) _ (step x so) (λ y more. yields_if P y.1 _ _ (λ _. yields_repeating P again step n y.0 more) (λ _. yields_giving P y.0 more))

yields_repeated : {A : Type 0} → (P : A → Type 0) (again : A → Reads (A × Bool)) → ((x : A) → P x → Yields (λ (y : A × Bool). P y.0) (again x)) → (x : A) → P x → Yields P (repeated again x)
yields_repeated P again step x so = record { yields = λ s y t is. (yields_repeating P again step (length s.left + 1) x so).yields s y t is }

-- ---- lists

all_one : {A : Type 0} → (P : A → Type 0) (x : A) → P x → All P (x ∷ [])
all_one P x so = All-push P [] x (All-nil P) so

yields_one : {A : Type 0} → (P : A → Type 0) (item : Reads A) → Yields P item → Yields (All P) (one item)
yields_one P item all = yields_then P (All P) item _ all (λ x so. yields_giving (All P) (x ∷ []) (all_one P x so))

yields_list : {A : Type 0} → (P : A → Type 0) (item : Reads (List A)) → Yields (All P) item → Yields (All P) (list item)
yields_list {A} P item all =
    yields_after (All P) begin_list _ (λ _. yields_repeated (All P) (item_more item)
    (λ xs before. yields_then (All P) (λ (y : List A × Bool). All P y.0) item _ all
    (λ ys more. yields_after (λ (y : List A × Bool). All P y.0) list_goes_on _ (λ b. yields_giving (λ (y : List A × Bool). All P y.0) (xs ++ ys, b) (All-append P xs ys before more))))
    [] (All-nil P))

yields_one_or_items : {A : Type 0} → (P : A → Type 0) (item : Reads A) → Yields P item → (b : Bool) → Yields (All P) (one_or_items item b)
yields_one_or_items P item all true = yields_list P (listed_item item) (yields_after (All P) no_list _ (λ _. yields_one P item all))
yields_one_or_items P item all false = yields_one P item all

yields_one_or_list : {A : Type 0} → (P : A → Type 0) (item : Reads A) → Yields P item → Yields (All P) (one_or_list item)
yields_one_or_list P item all = yields_after (All P) (takes_symbol (codes "{")) _ (yields_one_or_items P item all)

yields_after_word : {A : Type 0} → (P : A → Type 0) (w : Word) (read : Reads A) (x : A) → Yields P read → P x → Yields P (if_word w read x)
yields_after_word P w read x all so = yields_after P (takes_word w) _ (λ is. yields_if P is read _ (λ _. all) (λ _. yields_giving P x so))

-- ---- names

checked : (t : Token) (long bad : Mistake) (r : Result Word Kind) (u : Unit {0}) → name_checked t long bad r ≡ Ok u → (n : Word) × (r ≡ Ok n)
checked t long bad (Ok n) u is = (n, refl)
checked t long bad (Err NameTooLong) u is = absurd (cc)
checked t long bad (Err BadWord) u is = absurd (cc)
checked t long bad (Err BadProto) u is = absurd (cc)

abbrev pub OnInterface : Token → Type 0
OnInterface t = Spelled on_interface (interface_word t)

interface_read : (t : Token) (u : Unit {0}) → interface_checked t ≡ Ok u → OnInterface t
interface_read t u is =
    let found = checked t mistakes.LongInterface (mistakes.Interface (text_of t.text)) (name_of 15 (text_of t.text)) u is in
    interface_spelled (text_of t.text) found.0 found.1

yields_interface : Yields OnInterface interface
unfolding interface
yields_interface =
    yields_after OnInterface not_negated _ (λ _. yields_after OnInterface string _
    (λ t. yields_then (λ (u : Unit {0}). OnInterface t) OnInterface (from (interface_checked t)) _ (yields_from (λ (u : Unit {0}). OnInterface t) (interface_checked t) (interface_read t))
    (λ u so. yields_after OnInterface _ _ (λ _. yields_giving OnInterface t so))))

abbrev IsNamedTable : Token → Type 0
IsNamedTable t = IsTableName (text_of t.text)

table_read : (t : Token) (u : Unit {0}) → table_checked t ≡ Ok u → IsNamedTable t
table_read t u is =
    let found = checked t mistakes.LongTableName (mistakes.TableName (text_of t.text)) (table_name_of (text_of t.text)) u is in
    let name = name_found TABLE_NAME_LIMIT (text_of t.text) found.0 found.1 in
    subst IsTableName name.1 name.0

yields_table_name : Yields IsNamedTable table_name
unfolding table_name
yields_table_name =
    yields_after IsNamedTable string _ (λ t. yields_then (λ (u : Unit {0}). IsNamedTable t) IsNamedTable (from (table_checked t)) _ (yields_from (λ (u : Unit {0}). IsNamedTable t) (table_checked t) (table_read t))
    (λ u so. yields_giving IsNamedTable t so))

-- ---- numbers

value_ok : {A : Type 0} → (p : Place) (w : Word) (r : Result A NoValue) (x : A) → value_at p w r ≡ Ok x → r ≡ Ok x
value_ok p w (Ok y) x is = let same : y ≡ x = cc in ap (λ z. Ok z) same
value_ok p w (Err m) x is = absurd (cc)

kept_by : (low high m n : ℕ) (other : NoValue) (b : Bool) → (nat_le low m && nat_le m high) ≡ b → (if b then Ok m else Err other) ≡ Ok n → (low ≤ n) × (n ≤ high)
kept_by low high m n other true is from =
    let same : m ≡ n = cc in
    let parts = and_parts (nat_le low m) (nat_le m high) is in
    subst (λ k. (low ≤ k) × (k ≤ high)) same (leb-true low m parts.0, leb-true m high parts.1)
kept_by low high m n other false is from = absurd (cc)

kept_bounds : (low high : ℕ) (other : NoValue) (o : Option ℕ) (n : ℕ) → kept_between low high other o ≡ Ok n → (low ≤ n) × (n ≤ high)
kept_bounds low high other None n is = absurd (cc)
kept_bounds low high other (Some m) n is = kept_by low high m n other (nat_le low m && nat_le m high) refl is

number_bounds : (low high : ℕ) (w : Word) (other : NoValue) (n : ℕ) → number_between low high w other ≡ Ok n → (low ≤ n) × (n ≤ high)
number_bounds low high w other n is = kept_bounds low high other _ n (if_not (has_zeros w) _ _ n is)

abbrev HasBounds : ℕ → ℕ → List Row → Type 0
HasBounds low high rows = list_all (λ (row : Row). nat_le low row.1 && nat_le row.1 high) rows ≡ true

named_by : (low high : ℕ) (row : Row) (rest : Option ℕ) (n : ℕ) (b : Bool) → (nat_le low row.1 && nat_le row.1 high) ≡ true → (rest ≡ Some n → (low ≤ n) × (n ≤ high)) → (if b then Some row.1 else rest) ≡ Some n → (low ≤ n) × (n ≤ high)
named_by low high row rest n true within others is =
    let same : row.1 ≡ n = cc in
    let parts = and_parts (nat_le low row.1) (nat_le row.1 high) within in
    subst (λ k. (low ≤ k) × (k ≤ high)) same (leb-true low row.1 parts.0, leb-true row.1 high parts.1)
named_by low high row rest n false within others is = others is

named_bounds : (low high : ℕ) (rows : List Row) (w : Word) (n : ℕ) → HasBounds low high rows → number_in rows w ≡ Some n → (low ≤ n) × (n ≤ high)
unfolding number_in
named_bounds low high [] w n within is = absurd (cc)
named_bounds low high (row ∷ rows) w n within is =
    let parts = and_parts (nat_le low row.1 && nat_le row.1 high) (list_all (λ (r : Row). nat_le low r.1 && nat_le r.1 high) rows) within in
    named_by low high row (number_in rows w) n (bytes_eq row.0 w) parts.0 (λ one. named_bounds low high rows w n parts.1 one) is

some_ok : (o : Option ℕ) (e : NoValue) (n : ℕ) → ok_or o e ≡ Ok n → o ≡ Some n
some_ok None e n is = absurd (cc)
some_ok (Some m) e n is = let same : m ≡ n = cc in ap (λ k. Some k) same

-- ---- protocols

protocol_is : (b : Bool) (w : Word) (n : ℕ) → protocol_by b w ≡ Ok n → IsProtocol n
protocol_is true w n is = let bounds = number_bounds 1 255 w _ n is in (omega (arith, bounds.0), omega (arith, bounds.1))
protocol_is false w n is = let bounds = named_bounds 1 255 _ w n refl (some_ok _ _ n is) in (omega (arith, bounds.0), omega (arith, bounds.1))

protocol_read : (t : Token) (b : Bool) (ws : List Word) → (protocol_of t b >>= λ n. Ok (protocol_words n)) ≡ Ok ws → Spelled a_protocol ws
protocol_read t b ws is =
    let found = both (protocol_of t b) (λ (n : ℕ). Ok (protocol_words n)) ws is in
    let same : protocol_words found.0 ≡ ws = cc in
    subst (Spelled a_protocol) same (protocol_spelled found.0 (protocol_is b (text_of t.text) found.0 (value_ok t.place (text_of t.text) (protocol_by b (text_of t.text)) found.0 found.1)))

yields_protocol : Yields (Spelled a_protocol) protocol
unfolding protocol
yields_protocol =
    yields_after (Spelled a_protocol) value _ (λ t. yields_from (Spelled a_protocol) (protocol_of t (is_number t) >>= λ n. Ok (protocol_words n)) (protocol_read t (is_number t)))

-- ---- ports

port_by_kind : (w : Word) (n : ℕ) (b : Bool) (rows : List Row) (other none : NoValue) → (if b then number_between 0 65535 w other else ok_or (number_in rows w) none) ≡ Ok n → HasBounds 0 65535 rows → n < 65536
port_by_kind w n true rows other none is within = let bounds = number_bounds 0 65535 w other n is in omega (arith, bounds.1)
port_by_kind w n false rows other none is within = let bounds = named_bounds 0 65535 rows w n within (some_ok (number_in rows w) none n is) in omega (arith, bounds.1)

port_is : (w : Word) (n : ℕ) → port_of w ≡ Ok n → n < 65536
unfolding port_of
port_is w n is = port_by_kind w n (is_digits w) _ PortNumber NoPort is refl

single_by : (w : Word) (o : Option ℕ) (n : ℕ) → single_port_by w o ≡ Ok n → n < 65536
single_by w None n is = port_is w n is
single_by w (Some i) n is = absurd (cc)

operand_is : (t : Token) (n : ℕ) → operand t ≡ Ok n → n < 65536
operand_is t n is = single_by (text_of t.text) (colon_in (text_of t.text)) n (value_ok t.place (text_of t.text) (single_port_of (text_of t.text)) n is)

abbrev ArePorts : PortNumbers → Type 0
ArePorts (One n) = n < 65536
ArePorts (Range m n) = (m < 65536) × (n < 65536)

range_is : (m n : ℕ) (b : Bool) → m < 65536 → n < 65536 → ArePorts (if b then One m else Range m n)
range_is m n true first last = first
range_is m n false first last = (first, last)

ports_are : (w : Word) (o : Option ℕ) (ports : PortNumbers) → ports_by w o ≡ Ok ports → ArePorts ports
ports_are w None ports is =
    let b = both (port_of w) (λ (n : ℕ). Ok (One n)) ports is in
    let same : One b.0 ≡ ports = cc in
    subst ArePorts same (port_is w b.0 b.1)
ports_are w (Some i) ports is =
    let b = both (port_of (take i w)) (λ (first : ℕ). port_of (drop (i + 1) w) >>= λ last. Ok (range first last)) ports is in
    let c = both (port_of (drop (i + 1) w)) (λ (last : ℕ). Ok (range b.0 last)) ports b.2 in
    let same : range b.0 c.0 ≡ ports = cc in
    subst ArePorts same (range_is b.0 c.0 (b.0 == c.0) (port_is (take i w) b.0 b.1) (port_is (drop (i + 1) w) c.0 c.1))

words_spelled : (ports : PortNumbers) → ArePorts ports → Spelled a_port (words_of_ports ports)
words_spelled (One n) is = port_spelled (Compared Equal n) is
words_spelled (Range m n) is = port_spelled (Ranged Including m n) is

port_read : (t : Token) (ws : List Word) → port_words t ≡ Ok ws → Spelled a_port ws
port_read t ws is =
    let b = both (value_at t.place (text_of t.text) (ports_of (text_of t.text))) (λ (ports : PortNumbers). Ok (words_of_ports ports)) ws is in
    let same : words_of_ports b.0 ≡ ws = cc in
    subst (Spelled a_port) same (words_spelled b.0 (ports_are (text_of t.text) (colon_in (text_of t.text)) b.0 (value_ok t.place (text_of t.text) (ports_of (text_of t.text)) b.0 b.1)))

-- an operator as pf_rule has it
abbrev IsOperator : Operator → Type 0
IsOperator o = (c : Comparison) × (text_of_operator o ≡ operator_word c)

abbrev MayBeOperator : Option Operator → Type 0
MayBeOperator o = IfSome o IsOperator

or_same_by : (alone with_same : Operator) (b : Bool) → IsOperator alone → IsOperator with_same → MayBeOperator (Some (if b then with_same else alone))
or_same_by alone with_same true first other = other
or_same_by alone with_same false first other = first

gives_operator : (o : Operator) (c : Comparison) → text_of_operator o ≡ operator_word c → Yields MayBeOperator (giving (Some o))
gives_operator o c is = yields_giving MayBeOperator (Some o) (c, is)

yields_or_same : (alone with_same : Operator) (c d : Comparison) → text_of_operator alone ≡ operator_word c → text_of_operator with_same ≡ operator_word d → Yields MayBeOperator (or_same alone with_same)
yields_or_same alone with_same c d first other =
    yields_after MayBeOperator (takes_symbol (codes "=")) _ (λ is. yields_giving MayBeOperator (Some (if is then with_same else alone)) (or_same_by alone with_same is (c, first) (d, other)))

yields_operator : Yields MayBeOperator operator
unfolding operator
yields_operator =
    yields_after MayBeOperator (takes_symbol (codes "=")) _ (λ equals. yields_if MayBeOperator equals _ _ (λ _. gives_operator _ Equal refl)
    (λ _. yields_after MayBeOperator (takes_symbol (codes "!")) _ (λ differs. yields_if MayBeOperator differs _ _ (λ _. yields_after MayBeOperator (expect_symbol (codes "=")) _ (λ _. gives_operator _ NotEqual refl))
    (λ _. yields_after MayBeOperator (takes_symbol (codes "<")) _ (λ less. yields_if MayBeOperator less _ _ (λ _. yields_or_same _ _ Less AtMost refl refl)
    (λ _. yields_after MayBeOperator (takes_symbol (codes ">")) _ (λ more. yields_if MayBeOperator more _ _ (λ _. yields_or_same _ _ Greater AtLeast refl refl)
    (λ _. yields_giving MayBeOperator None tt))))))))

one_port_spelled : (o : Operator) (n : ℕ) → IsOperator o → n < 65536 → Spelled a_port (one_port o n)
one_port_spelled o n (c, is) within = subst (λ (w : Word). Spelled a_port (codes "port" ∷ w ∷ decimal n ∷ [])) (sym is) (port_spelled (Compared c n) within)

compared_read : (o : Operator) (t : Token) (ws : List Word) → IsOperator o → (operand t >>= λ n. Ok (one_port o n)) ≡ Ok ws → Spelled a_port ws
compared_read o t ws so is =
    let b = both (operand t) (λ (n : ℕ). Ok (one_port o n)) ws is in
    let same : one_port o b.0 ≡ ws = cc in
    subst (Spelled a_port) same (one_port_spelled o b.0 so (operand_is t b.0 b.1))

yields_compared : (o : Operator) → IsOperator o → Yields (Spelled a_port) (compared o)
unfolding compared
yields_compared o so = yields_after (Spelled a_port) value _ (λ t. yields_from (Spelled a_port) (operand t >>= λ n. Ok (one_port o n)) (λ ws is. compared_read o t ws so is))

-- a word between two ports, as pf_rule has it
abbrev LiesBetween : Word → Type 0
LiesBetween w = (m n : ℕ) → m < 65536 → n < 65536 → Spelled a_port (two_ports m w n)

without : LiesBetween (codes "><")
without m n first last = port_spelled (Ranged Excluding m n) (first, last)

except : LiesBetween (codes "<>")
except m n first last = port_spelled (Ranged Except m n) (first, last)

between_read : (m : ℕ) (w : Word) (t : Token) (ws : List Word) → LiesBetween w → m < 65536 → (operand t >>= λ n. Ok (two_ports m w n)) ≡ Ok ws → Spelled a_port ws
between_read m w t ws so first is =
    let b = both (operand t) (λ (n : ℕ). Ok (two_ports m w n)) ws is in
    let same : two_ports m w b.0 ≡ ws = cc in
    subst (Spelled a_port) same (so m b.0 first (operand_is t b.0 b.1))

yields_between : (t : Token) (w : Word) → LiesBetween w → Yields (Spelled a_port) (between t w)
unfolding between
yields_between t w so =
    yields_then (λ m. m < 65536) (Spelled a_port) (from (operand t)) _ (yields_from (λ m. m < 65536) (operand t) (operand_is t))
    (λ m first. yields_after (Spelled a_port) value _ (λ u. yields_from (Spelled a_port) (operand u >>= λ n. Ok (two_ports m w n)) (λ ws is. between_read m w u ws so first is)))

yields_ranged : Yields (Spelled a_port) ranged
unfolding ranged
yields_ranged =
    yields_after (Spelled a_port) value _ (λ t. yields_after (Spelled a_port) (takes_symbol (codes "><")) _
    (λ within. yields_if (Spelled a_port) within (between t (codes "><")) _ (λ _. yields_between t (codes "><") without)
    (λ _. yields_after (Spelled a_port) (takes_symbol (codes "<>")) _ (λ other. yields_if (Spelled a_port) other (between t (codes "<>")) (from (port_words t)) (λ _. yields_between t (codes "<>") except)
    (λ _. yields_from (Spelled a_port) (port_words t) (port_read t))))))

yields_port_by : (o : Option Operator) → MayBeOperator o → Yields (Spelled a_port) (port_by o)
yields_port_by (Some o) so = yields_compared o so
yields_port_by None so = yields_ranged

yields_port : Yields (Spelled a_port) port
unfolding port
yields_port = yields_then MayBeOperator (Spelled a_port) operator _ yields_operator yields_port_by

-- ---- hosts

abbrev IsHostOf : Host → Type 0
IsHostOf h = Spelled a_host (host_words h)

table_words : (t : Token) (b : Bool) → IsNamedTable t → IsHostOf (table_host t b)
table_words t true is = table_spelled (text_of t.text) true is
table_words t false is = table_spelled (text_of t.text) false is

yields_named_host : (b : Bool) → Yields IsHostOf (named_host b)
unfolding named_host
yields_named_host b =
    yields_then IsNamedTable IsHostOf table_name _ yields_table_name (λ t so. yields_after IsHostOf _ _ (λ _. yields_giving IsHostOf (table_host t b) (table_words t b so)))

unless_zeros : (m n : PlainNet) (b : Bool) (e : NoValue) → (if b then Err e else Ok m) ≡ Ok n → ◌≡◌ {A = Result PlainNet AddrFault} (Ok m) (Ok n)
unless_zeros m n true e is = absurd (cc)
unless_zeros m n false e is = let same : m ≡ n = cc in ap (λ (k : PlainNet). Ok k) same

zeros_ok : (w : Word) (r : Result PlainNet AddrFault) (n : PlainNet) → without_zeros w r ≡ Ok n → r ≡ Ok n
zeros_ok w (Ok m) n is = unless_zeros m n _ _ is
zeros_ok w (Err e) n is = absurd (cc)

net_words : (p : Place) (b : Bool) (w : Word) (n : PlainNet) → net_at_place p w w ≡ Ok n → IsHostOf (host_of_net p b w n)
net_words p true w n is = negated_net_spelled w n (zeros_ok w (net_at w) n (value_ok p w (net_of w) n is))
net_words p false w n is = net_spelled w n (zeros_ok w (net_at w) n (value_ok p w (net_of w) n is))

yields_net_host : (b : Bool) → Yields IsHostOf (net_host b)
unfolding net_host
yields_net_host b =
    yields_after IsHostOf value _ (λ t. yields_after IsHostOf (address t) _ (λ w. yields_after IsHostOf no_range _
    (λ _. yields_then (λ (n : PlainNet). IsHostOf (host_of_net t.place b w n)) IsHostOf (from (net_at_place t.place w w)) _
    (yields_from (λ (n : PlainNet). IsHostOf (host_of_net t.place b w n)) (net_at_place t.place w w) (net_words t.place b w))
    (λ n so. yields_giving IsHostOf (host_of_net t.place b w n) so))))

yields_other_host : (b : Bool) → Yields IsHostOf (other_host b)
unfolding other_host
yields_other_host b =
    yields_look IsHostOf _ (λ t. yields_if IsHostOf (is_symbol (codes "(") t) _ _ (λ _. yields_fault IsHostOf (λ s. refused_at InterfaceAddress t))
    (λ _. yields_if IsHostOf (is_word (codes "self") t) _ _ (λ _. yields_unexpected IsHostOf) (λ _. yields_net_host b)))

yields_host : Yields IsHostOf host
unfolding host
yields_host =
    yields_after IsHostOf (takes_symbol (codes "!")) _ (λ negated. yields_after IsHostOf (takes_symbol (codes "<")) _
    (λ is_table. yields_if IsHostOf is_table (named_host negated) (other_host negated) (λ _. yields_named_host negated) (λ _. yields_other_host negated)))

yields_listed_hosts : (inner : Reads (List Host)) → Yields (All IsHostOf) inner → Yields (All IsHostOf) (listed_hosts inner)
yields_listed_hosts inner all =
    yields_after (All IsHostOf) not_any _ (λ _. yields_look (All IsHostOf) _ (λ t. yields_if (All IsHostOf) (is_symbol (codes "{") t) _ _ (λ _. all) (λ _. yields_one IsHostOf host yields_host)))

yields_hosts_in : (n : ℕ) → Yields (All IsHostOf) (hosts_in n)
unfolding hosts_in
yields_hosts_in zero = yields_look (All IsHostOf) _ (λ t. yields_refusing (All IsHostOf) t.place mistakes.DeepList)
yields_hosts_in (suc n) = yields_after (All IsHostOf) token _ (λ _. yields_list IsHostOf (listed_hosts (hosts_in n)) (yields_listed_hosts (hosts_in n) (yields_hosts_in n)))

yields_hosts : Yields (All IsHostOf) hosts
unfolding hosts
yields_hosts =
    yields_look (All IsHostOf) _ (λ t. yields_if (All IsHostOf) (is_symbol (codes "{") t) host_list (one host) (λ _. yields_hosts_in _) (λ _. yields_one IsHostOf host yields_host))

-- ---- what a rule tests

abbrev AllOn : List (List Word) → Type 0
AllOn = All (Spelled on_interface)

abbrev AllProtocols : List (List Word) → Type 0
AllProtocols = All (Spelled a_protocol)

abbrev AllHosts : List (List Word) → Type 0
AllHosts = All (Spelled a_host)

abbrev AllPorts : List (List Word) → Type 0
AllPorts = All (Spelled a_port)

yields_tested_interfaces : Yields AllOn tested_interfaces
unfolding tested_interfaces interfaces
yields_tested_interfaces =
    yields_after_word AllOn (codes "on") _ nothing
    (yields_then (All OnInterface) AllOn (one_or_list interface) _ (yields_one_or_list OnInterface interface yields_interface)
    (λ ts all. yields_giving AllOn (interface_words ts) (All-map (Spelled on_interface) interface_word ts all)))
    (all_one (Spelled on_interface) [] no_interface_spelled)

yields_family : Yields (Spelled a_family) family
unfolding family
yields_family =
    yields_after (Spelled a_family) _ _ (λ is. yields_if (Spelled a_family) is _ _ (λ _. yields_giving (Spelled a_family) _ v4_spelled)
    (λ _. yields_after_word (Spelled a_family) (codes "inet6") _ [] (yields_giving (Spelled a_family) _ v6_spelled) no_family_spelled))

yields_protocols : Yields AllProtocols protocols
unfolding protocols all_tested tested
yields_protocols =
    yields_after_word AllProtocols (codes "proto") _ nothing (yields_one_or_list (Spelled a_protocol) protocol yields_protocol) (all_one (Spelled a_protocol) [] no_protocol_spelled)

all_any : AllHosts any_host
all_any = all_one (Spelled a_host) (codes "any" ∷ []) any_spelled

yields_side_hosts : Yields AllHosts side_hosts
unfolding side_hosts
yields_side_hosts =
    yields_look AllHosts _ (λ t. yields_if AllHosts (is_word (codes "port") t) (giving any_host) (takes_word (codes "any") >=> λ is. if is then giving any_host else (hosts >=> λ hs. giving (map host_words hs))) (λ _. yields_giving AllHosts any_host all_any)
    (λ _. yields_after AllHosts (takes_word (codes "any")) _ (λ is. yields_if AllHosts is _ _ (λ _. yields_giving AllHosts any_host all_any)
    (λ _. yields_then (All IsHostOf) AllHosts hosts _ yields_hosts (λ hs all. yields_giving AllHosts (map host_words hs) (All-map (Spelled a_host) host_words hs all))))))

abbrev Side : Type 0
Side = type_of any_side

pub record IsSide (x : Side) : Type 0 where
  pub hosts : All (Spelled a_host) x.hosts
  pub ports : All (Spelled a_port) x.ports

pub any_is_side : IsSide any_side
any_is_side = record { hosts = all_any; ports = all_one (Spelled a_port) [] no_port_spelled }

yields_side : Yields IsSide side
unfolding side all_tested tested
yields_side =
    yields_then AllHosts IsSide side_hosts _ yields_side_hosts
    (λ hs all. yields_then AllPorts IsSide (if_word (codes "port") (one_or_list port) nothing) _
    (yields_after_word AllPorts (codes "port") (one_or_list port) nothing (yields_one_or_list (Spelled a_port) port yields_port) (all_one (Spelled a_port) [] no_port_spelled))
    (λ ps more. yields_giving IsSide _ (record { hosts = all; ports = more })))

abbrev AreSides : Side × Side → Type 0
AreSides x = IsSide x.0 × IsSide x.1

yields_sides : Yields AreSides sides
unfolding sides
yields_sides =
    yields_after AreSides _ _ (λ is. yields_if AreSides is _ _ (λ _. yields_giving AreSides _ (any_is_side, any_is_side))
    (λ _. yields_then IsSide AreSides (if_word (codes "from") side any_side) _ (yields_after_word IsSide (codes "from") side any_side yields_side any_is_side)
    (λ x so. yields_then IsSide AreSides (if_word (codes "to") side any_side) _ (yields_after_word IsSide (codes "to") side any_side yields_side any_is_side)
    (λ y too. yields_giving AreSides (x, y) (so, too)))))

-- each item of each list is words that pf_rule reads
pub record AreTests (ts : Tests) : Type 0 where
  pub interfaces : All (Spelled on_interface) ts.interfaces
  pub family : Spelled a_family ts.family
  pub protocols : All (Spelled a_protocol) ts.protocols
  pub source : IsSide ts.source
  pub destination : IsSide ts.destination

yields_tests : Yields AreTests tests
unfolding tests
yields_tests =
    yields_then AllOn AreTests tested_interfaces _ yields_tested_interfaces
    (λ is ons. yields_then (Spelled a_family) AreTests family _ yields_family
    (λ f so. yields_then AllProtocols AreTests protocols _ yields_protocols
    (λ ps all. yields_then AreSides AreTests sides _ yields_sides
    (λ ends both_are. yields_giving AreTests _ (record { interfaces = ons; family = so; protocols = all; source = both_are.0; destination = both_are.1 })))))

-- ---- options

-- A rule that isn't an anchor's may have a label, which is a name.
abbrev pub LabelIs : Start → Option Word → Type 0
LabelIs start None = Unit {0}
LabelIs start (Some l) = (is_anchor start ≡ false) × (n : Word) × (name_of 63 l ≡ Ok n)

abbrev OptionsAre : Start → Options → Type 0
OptionsAre start o = LabelIs start o.label

name_there : (r : Result Word Kind) → is_ok_name r ≡ true → (n : Word) × (r ≡ Ok n)
name_there (Ok n) is = (n, refl)
name_there (Err e) is = absurd (cc)

label_by : (start : Start) (l : Word) (a b : Bool) → is_anchor start ≡ a → is_ok_name (name_of 63 l) ≡ b → (a || not b) ≡ false → LabelIs start (Some l)
label_by start l true b first other is = absurd (cc)
label_by start l false true first other is = let there = name_there (name_of 63 l) other in (first, there.0, there.1)
label_by start l false false first other is = absurd (cc)

yields_label_of : (start : Start) (p : Place) (t : Token) → Yields (LabelIs start) (label_of start p t)
unfolding label_of
yields_label_of start p t =
    let w : Word = text_of t.text in
    yields_if (LabelIs start) (nat_lt 63 (length w)) _ _ (λ _. yields_refusing (LabelIs start) t.place mistakes.LongLabel)
    (λ _. yields_if (LabelIs start) (is_anchor start || not (is_ok_name (name_of 63 w))) _ _
    (λ _. yields_after (LabelIs start) (leave_out p (left_out.Label w)) _ (λ _. yields_giving (LabelIs start) None tt))
    (λ is. yields_giving (LabelIs start) (Some w) (label_by start w (is_anchor start) (is_ok_name (name_of 63 w)) refl refl is)))

yields_label : (start : Start) (before : Options) → Yields (OptionsAre start) (label start before)
unfolding label
yields_label start before =
    yields_after (OptionsAre start) token _ (λ t. yields_after (OptionsAre start) (once before.has_label t.place mistakes.TwoLabels) _
    (λ _. yields_then (LabelIs start) (OptionsAre start) (string >=> label_of start t.place) _
    (yields_after (LabelIs start) string _ (λ u. yields_label_of start t.place u))
    (λ l so. yields_giving (OptionsAre start) (record before { label = l; has_label = true }) so)))

yields_state : (start : Start) (before : Options) → OptionsAre start before → Yields (OptionsAre start) (state start before)
unfolding state
yields_state start before so =
    yields_after (OptionsAre start) token _ (λ t. yields_if (OptionsAre start) (is_anchor start) _ _ (λ _. yields_refusing (OptionsAre start) t.place mistakes.StateOfAnchor)
    (λ _. yields_after (OptionsAre start) (once before.has_state t.place mistakes.TwoStates) _ (λ _. yields_after (OptionsAre start) (expect_word (codes "state")) _
    (λ _. yields_after (OptionsAre start) (kept start t) _ (λ keeps. yields_giving (OptionsAre start) (record before { keeps = keeps; has_state = true }) so)))))

yields_flags : (start : Start) (ts : Tests) (before : Options) → OptionsAre start before → Yields (OptionsAre start) (flags ts before)
unfolding flags
yields_flags start ts before so =
    yields_after (OptionsAre start) token _ (λ t. yields_after (OptionsAre start) (once before.has_flags t.place mistakes.TwoFlags) _
    (λ _. yields_after (OptionsAre start) (takes_word (codes "any")) _ (λ is_any. yields_after (OptionsAre start) (cond is_any (giving tt) (written_flags t.place ts)) _
    (λ _. yields_giving (OptionsAre start) (record before { has_flags = true }) so))))

yields_option : (start : Start) (ts : Tests) (before : Options) → OptionsAre start before → Yields (OptionsAre start) (option start ts before)
unfolding option
yields_option start ts before so =
    yields_look (OptionsAre start) _ (λ t. yields_if (OptionsAre start) (is_state t) _ _ (λ _. yields_state start before so)
    (λ _. yields_if (OptionsAre start) (is_word (codes "label") t) _ _ (λ _. yields_label start before)
    (λ _. yields_if (OptionsAre start) (is_word (codes "flags") t) _ _ (λ _. yields_flags start ts before so)
    (λ _. yields_after (OptionsAre start) left_out_option _ (λ _. yields_giving (OptionsAre start) before so)))))

abbrev MoreAre : Start → Options × Bool → Type 0
MoreAre start y = OptionsAre start y.0

yields_options_more : (start : Start) (ts : Tests) (before : Options) → OptionsAre start before → Yields (MoreAre start) (options_more start ts before)
yields_options_more start ts before so =
    yields_look (MoreAre start) _ (λ t. yields_if (MoreAre start) (ends_options t) _ _ (λ _. yields_giving (MoreAre start) (before, false) so)
    (λ _. yields_then (OptionsAre start) (MoreAre start) (option start ts before) _ (yields_option start ts before so) (λ after all. yields_giving (MoreAre start) (after, true) all)))

yields_said : (start : Start) (ts : Tests) → Yields (OptionsAre start) (said start ts)
unfolding said
yields_said start ts = yields_repeated (OptionsAre start) (options_more start ts) (yields_options_more start ts) nothing_said tt

-- the words that options add to a rule
pub record AreClosing (start : Start) (ws : List Word) : Type 0 where
  pub keeps : Bool
  pub label : Option Word
  pub good : LabelIs start label
  pub words : ws ≡ state_words start keeps ++ label_words label

yields_closing : (start : Start) (ts : Tests) → Yields (AreClosing start) (closing start ts)
unfolding closing
yields_closing start ts =
    yields_then (OptionsAre start) (AreClosing start) (said start ts) _ (yields_said start ts)
    (λ o so. yields_giving (AreClosing start) (state_words start o.keeps ++ label_words o.label) (record { keeps = o.keeps; label = o.label; good = so; words = refl }))

abbrev pub AreBoth : Start → Tests × List Word → Type 0
AreBoth start x = AreTests x.0 × AreClosing start x.1

pub yields_tests_and_options : (start : Start) → Yields (AreBoth start) (tests_and_options start)
unfolding tests_and_options
yields_tests_and_options start =
    yields_then AreTests (AreBoth start) tests _ yields_tests
    (λ ts so. yields_then (AreClosing start) (AreBoth start) (closing start ts) _ (yields_closing start ts) (λ cs too. yields_giving (AreBoth start) (ts, cs) (so, too)))

-- ---- names of anchors

no_fault_there : (o : Option Kind) (t : Token) (u : Unit {0}) → fault_checked t o ≡ Ok u → o ≡ None
no_fault_there None t u is = refl
no_fault_there (Some NameTooLong) t u is = absurd (cc)
no_fault_there (Some BadWord) t u is = absurd (cc)
no_fault_there (Some BadProto) t u is = absurd (cc)

abbrev IsFaultless : Named → Token → Type 0
IsFaultless named t = name_fault named (text_of t.text) ≡ None

path_is_faultless : (named : Named) (t : Token) (u : Unit {0}) → path_checked named t ≡ Ok u → IsFaultless named t
path_is_faultless named t u is = no_fault_there (name_fault named (text_of t.text)) t u (if_not (list_any is_reserved (components (text_of t.text))) _ _ u is)

yields_anchor_name : (named : Named) → Yields (IsFaultless named) (anchor_name named)
unfolding anchor_name
yields_anchor_name named =
    yields_after (IsFaultless named) string _ (λ t. yields_then (λ (u : Unit {0}). IsFaultless named t) (IsFaultless named) (from (path_checked named t)) _
    (yields_from (λ (u : Unit {0}). IsFaultless named t) (path_checked named t) (path_is_faultless named t))
    (λ u so. yields_after (IsFaultless named) quoted_path _ (λ _. yields_giving (IsFaultless named) t so)))

-- the name, in quotes, is a reference
abbrev pub IsNamedAnchor : Word → Type 0
IsNamedAnchor w = no_fault (reference_of (in_quotes w)) ≡ None

abbrev pub MayBeNamed : Option Token → Type 0
MayBeNamed None = Unit {0}
MayBeNamed (Some t) = IsNamedAnchor (text_of t.text)

named_by_own : (named : Named) → ((w : Word) → name_fault named w ≡ None → IsNamedAnchor w) → Yields MayBeNamed (anchor_name named >=> λ n. giving (Some n))
named_by_own named so = yields_then (IsFaultless named) MayBeNamed (anchor_name named) _ (yields_anchor_name named) (λ u is. yields_giving MayBeNamed (Some u) (so (text_of u.text) is))

pub yields_own_name : Yields MayBeNamed own_name
unfolding own_name
yields_own_name = record { yields = λ s. (yields_if MayBeNamed (is_string (next s)) _ _ (λ _. named_by_own _ (λ w is. is)) (λ _. yields_giving MayBeNamed None tt)).yields s }

-- the tokens of interfaces
pub yields_interfaces : Yields (All OnInterface) interfaces
unfolding interfaces
yields_interfaces = yields_one_or_list OnInterface interface yields_interface
