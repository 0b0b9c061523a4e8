-- Types of values that pf_parse and pf_conf keep to themselves, by the definitions that speak of them.
use Rattle.std.specs.Prelude.{List}
use Rattle.pf_conf.specs.{Found.nothing_found, Resolving.main_file}
use Rattle.pf_parse.specs.{Anchors.name_fault, Criteria.no_tests, Lists.text_of_operator, Options.{is_anchor, nothing_said}, Reading.rank_number}

abbrev pub type_of : {A : Type 0} → A → Type 0
type_of {A} x = A

abbrev pub first_of : {A B : Type 0} → (A → B) → Type 0
first_of {A} {B} f = A

abbrev pub second_of : {A B : Type 0} → (A → B) → Type 0
second_of {A} {B} f = B

abbrev pub item_of : {A : Type 0} → List A → Type 0
item_of {A} xs = A

-- ---- pf_parse's: how a rule begins, what it tests, what its options say, ranks of lines, operators, what is named

abbrev pub Start : Type 0
Start = first_of is_anchor

abbrev pub Tests : Type 0
Tests = type_of no_tests

abbrev pub Options : Type 0
Options = type_of nothing_said

abbrev pub Rank : Type 0
Rank = first_of rank_number

abbrev pub Operator : Type 0
Operator = first_of text_of_operator

abbrev pub Named : Type 0
Named = first_of name_fault

-- ---- pf_conf's: what was found so far, files that are named, loads that wait

abbrev pub Found : Type 0
Found = type_of nothing_found

abbrev pub Mention : Type 0
Mention = second_of main_file

abbrev pub Waiting : Type 0
Waiting = item_of nothing_found.waiting
