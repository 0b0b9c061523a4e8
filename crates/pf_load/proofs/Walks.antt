-- What holds between the beginning and the end of all that is read, if it holds of each step.
use Rattle.std.proofs.Common.{ℕ, zero, suc, ◌+◌, ◌||◌, cond, Bool, true, false, List, [], length, codes, Option, Some, None, Result, Ok, Err}
use Rattle.pf_form.specs.Form.Forms.{◌>>=◌}
use Rattle.pf_tokens.specs.declared.{place.Place.Place, token.Token.Token}
use Rattle.pf_tokens.specs.Words.{is_word, is_symbol, is_newline, is_number, is_string}
use Rattle.pf_lists.specs.declared.hosts.Host.{Host}
use Rattle.pf_parse.specs.declared.{fault.LeftOut.LeftOut, fault.Mistake.Mistake, fault.Remark.Remark, fault.Stop.Stop, parser.Mode.Mode, parser.Mode.TheVariants.{Strict, Lenient}, tree.Entries.Entries, tree.Load.Load, tree.Table.Table}
use Rattle.pf_parse.specs.States.{State}
use Rattle.pf_parse.specs.Reading.{Word, Reads, giving, ◌>=>◌, refusing, looking, next, second, after_token, is_at_end, token, takes_word, takes_symbol, unexpected, expect, passing, expect_word, expect_symbol, string, value, end_line, is_empty_list, newlines, note, leave_out, leave_out_in, leave_out_next, after_line, skip_line, to_parenthesis, end_parentheses, skip_parentheses, in_order, repeating, repeated}
use Rattle.pf_parse.specs.Lists.{looking_at, from, begin_list, after_comma, after_item, list_goes_on, item_more, list, one, no_list, listed_item, one_or_items, one_or_list, table_name, noted_group, not_negated, interface, interfaces, protocol, or_same, operator, compared, between, ranged, port_by, port, tested, all_tested, named_host, with_length, address, no_range, net_host, other_host, host, not_any, listed_hosts, hosts_in, host_list, hosts}
use Rattle.pf_parse.specs.Criteria.{if_word, tested_interfaces, family, protocols, side_hosts, side, sides, tests}
use Rattle.pf_parse.specs.Options.{once, state_options, kept, state, label_of, label, letters, flags_of, set_flags, written_flags, flags, skip_string, queue_name, queue, tag, named_priority, priority_value, priority, unexpected_option, left_out_option, option, options_more, said, closing, tests_and_options}
use Rattle.pf_parse.specs.Openings.{skip_drop, block_policy, direction, log, log_and_quick}
use Rattle.pf_parse.specs.Anchors.{quoted_path, anchor_name, own_name, name_alone, newline_after_brace, next_number, enter, open_braces, braces_or_line, shallow, anchor, leave_braces, close_braces}
use Rattle.pf_parse.specs.Lines.{is_rule, rule, listed, table_part, parts_more, table_parts, keep_table, name_in_angles, table, keep_load, loaded_path, loaded_file, load, in_main, skip, order_matters, set_order, require_order, set_option, is_setting, setting, set_line, left_out_line, no_line, rule_or_anchor, filtering, line, line_in_braces, any_line, all_closed, line_more, lines_more, lines}
use Rattle.pf_load.specs.Files.Types.{Start, Tests, Options, Rank, Operator, Named}

-- what may lie between two states
pub record Walk : Type 1 where
  pub Leads : State → State → Type 0

abbrev pub After : {A : Type 0} → Walk → State → Result (A × State) Stop → Type 0
After k s (Ok (x, t)) = k.Leads s t
After k s (Err e) = Unit {0}

-- reading leads from each state to one where it may, unless it stops
pub record Walks {A : Type 0} (k : Walk) (read : Reads A) : Type 0 where
  pub walks : (s : State) → After k s (read s)

-- the steps
pub record Basics (k : Walk) : Type 0 where
  pub stays : (s : State) → k.Leads s s
  pub joins : (s t u : State) → k.Leads s t → k.Leads t u → k.Leads s u
  pub taken : (s : State) → k.Leads s (after_token s)
  pub newlines_taken : Walks k newlines
  pub noted : (p : Place) (r : Remark) → Walks k (note p r)
  pub line_passed : (s : State) → k.Leads s (record s { left = after_line 0 s.left })
  pub parenthesis_passed : (s : State) → k.Leads s (record s { left = to_parenthesis s.left })
  pub ranked : (s : State) (r : Rank) → k.Leads s (record s { rank = r })
  pub order_set : (b : Bool) → Walks k (order_matters b)
  pub entered : (p : Place) (depth : ℕ) (name : Word) → Walks k (enter p depth name)
  pub braces_left : Walks k leave_braces
  pub table_kept : (t : Table) → Walks k (keep_table t)
  pub load_kept : (l : Load) → Walks k (keep_load l)

-- what keeps a rule
pub record Rules (k : Walk) : Type 0 where
  pub rules_read : Walks k rule_or_anchor
  pub skip_read : (option : Token) → Walks k (skip option)

-- ---- how readers are made

pub walks_on : {A : Type 0} → (k : Walk) → Basics k → (s t : State) (r : Result (A × State) Stop) → k.Leads s t → After k t r → After k s r
walks_on k basics s t (Ok (x, u)) first then = basics.joins s t u first then
walks_on k basics s t (Err e) first then = tt

after_then : {A B : Type 0} → (k : Walk) → Basics k → (s : State) (r : Result (A × State) Stop) (then : A → Reads B) → After k s r → ((x : A) → Walks k (then x)) → After k s (r >>= λ (x, t). then x t)
after_then k basics s (Ok (x, t)) then is all = walks_on k basics s t (then x t) is ((all x).walks t)
after_then k basics s (Err e) then is all = tt

pub walks_then : (k : Walk) → Basics k → {A B : Type 0} → (read : Reads A) (then : A → Reads B) → Walks k read → ((x : A) → Walks k (then x)) → Walks k (read >=> then)
walks_then k basics read then first all = record { walks = λ s. after_then k basics s (read s) then (first.walks s) all }

pub walks_giving : (k : Walk) → Basics k → {A : Type 0} → (x : A) → Walks k (giving x)
walks_giving k basics x = record { walks = λ s. basics.stays s }

pub walks_refusing : (k : Walk) → Basics k → {A : Type 0} → (p : Place) (m : Mistake) → Walks k (refusing {A = A} p m)
walks_refusing k basics p m = record { walks = λ s. tt }

pub walks_fault : (k : Walk) → Basics k → {A : Type 0} → (e : State → Stop) → Walks {A = A} k (λ s. Err (e s))
walks_fault k basics e = record { walks = λ s. tt }

pub walks_unexpected : (k : Walk) → Basics k → {A : Type 0} → Walks k (unexpected {A = A})
walks_unexpected k basics = record { walks = λ s. tt }

pub walks_if : (k : Walk) → Basics k → {A : Type 0} → (b : Bool) (r q : Reads A) → Walks k r → Walks k q → Walks k (cond b r q)
walks_if k basics true r q first other = first
walks_if k basics false r q first other = other

pub walks_from : (k : Walk) → Basics k → {A : Type 0} → (r : Result A Stop) → Walks k (from r)
walks_from k basics (Ok x) = record { walks = λ s. basics.stays s }
walks_from k basics (Err e) = record { walks = λ s. tt }

refused_or_not : {A : Type 0} → (k : Walk) → Basics k → (b : Bool) (e : Stop) (x : A) (s t : State) → k.Leads s t → After {A = A} k s (cond b (Err e) (Ok (x, t)))
refused_or_not k basics true e x s t leads = tt
refused_or_not k basics false e x s t leads = leads

known_or_not : {A : Type 0} → (k : Walk) → Basics k → (b : Bool) (e : Stop) (x : A) (s : State) → After {A = A} k s (cond b (Ok (x, s)) (Err e))
known_or_not k basics true e x s = basics.stays s
known_or_not k basics false e x s = tt

-- ---- what is known before a token

pub walks_look : (k : Walk) → Basics k → {B : Type 0} → (then : Token → Reads B) → ((t : Token) → Walks k (then t)) → Walks k (looking_at >=> then)
walks_look k basics then all = record { walks = λ s. (all (next s)).walks s }

pub walks_second : (k : Walk) → Basics k → {B : Type 0} → (then : Token → Reads B) → ((t : Token) → Walks k (then t)) → Walks k (looking second >=> then)
walks_second k basics then all = record { walks = λ s. (all (second s)).walks s }

pub walks_within : (k : Walk) → Basics k → {B : Type 0} → (then : ℕ → Reads B) → ((n : ℕ) → Walks k (then n)) → Walks k (looking (λ s. s.within) >=> then)
walks_within k basics then all = record { walks = λ s. (all s.within).walks s }

pub walks_number : (k : Walk) → Basics k → {B : Type 0} → (then : ℕ → Reads B) → ((n : ℕ) → Walks k (then n)) → Walks k (looking next_number >=> then)
walks_number k basics then all = record { walks = λ s. (all (next_number s)).walks s }

pub walks_empty : (k : Walk) → Basics k → {B : Type 0} → (then : Bool → Reads B) → ((b : Bool) → Walks k (then b)) → Walks k (looking (λ s. is_empty_list s.left) >=> then)
walks_empty k basics then all = record { walks = λ s. (all (is_empty_list s.left)).walks s }

pub walks_end : (k : Walk) → Basics k → {B : Type 0} → (then : Bool → Reads B) → ((b : Bool) → Walks k (then b)) → Walks k (looking is_at_end >=> then)
walks_end k basics then all = record { walks = λ s. (all (is_at_end s)).walks s }

-- ---- tokens

pub walks_token : (k : Walk) → Basics k → Walks k token
unfolding token
walks_token k basics = record { walks = λ s. basics.taken s }

taken_or_not : (k : Walk) → Basics k → (b : Bool) (s : State) → After {A = Bool} k s (cond b (Ok (true, after_token s)) (Ok (false, s)))
taken_or_not k basics true s = basics.taken s
taken_or_not k basics false s = basics.stays s

pub walks_takes_word : (k : Walk) → Basics k → (w : Word) → Walks k (takes_word w)
unfolding takes_word
walks_takes_word k basics w = record { walks = λ s. taken_or_not k basics (is_word w (next s)) s }

pub walks_takes_symbol : (k : Walk) → Basics k → (w : Word) → Walks k (takes_symbol w)
unfolding takes_symbol
walks_takes_symbol k basics w = record { walks = λ s. taken_or_not k basics (is_symbol w (next s)) s }

expected : (k : Walk) → Basics k → (b : Bool) (s : State) → After {A = Token} k s (cond b (token s) (unexpected s))
expected k basics true s = (walks_token k basics).walks s
expected k basics false s = tt

pub walks_expect : (k : Walk) → Basics k → (test : Token → Bool) → Walks k (expect test)
walks_expect k basics test = record { walks = λ s. expected k basics (test (next s)) s }

passed : (k : Walk) → Basics k → (b : Bool) (s : State) → After {A = Unit {0}} k s (cond b (Ok (tt, after_token s)) (unexpected s))
passed k basics true s = basics.taken s
passed k basics false s = tt

walks_passing : (k : Walk) → Basics k → (test : Token → Bool) → Walks k (passing test)
walks_passing k basics test = record { walks = λ s. passed k basics (test (next s)) s }

pub walks_expect_word : (k : Walk) → Basics k → (w : Word) → Walks k (expect_word w)
unfolding expect_word
walks_expect_word k basics w = walks_passing k basics (is_word w)

pub walks_expect_symbol : (k : Walk) → Basics k → (w : Word) → Walks k (expect_symbol w)
unfolding expect_symbol
walks_expect_symbol k basics w = walks_passing k basics (is_symbol w)

pub walks_string : (k : Walk) → Basics k → Walks k string
unfolding string
walks_string k basics = walks_expect k basics is_string

pub walks_value : (k : Walk) → Basics k → Walks k value
unfolding value
walks_value k basics = walks_expect k basics (λ t. is_string t || is_number t)

pub walks_end_line : (k : Walk) → Basics k → Walks k end_line
unfolding end_line
walks_end_line k basics = walks_passing k basics is_newline

pub walks_newlines : (k : Walk) → Basics k → Walks k newlines
walks_newlines k basics = basics.newlines_taken

pub walks_skip_line : (k : Walk) → Basics k → Walks k skip_line
unfolding skip_line
walks_skip_line k basics = record { walks = λ s. walks_on k basics s (record s { left = after_line 0 s.left }) (end_line (record s { left = after_line 0 s.left })) (basics.line_passed s) ((walks_end_line k basics).walks (record s { left = after_line 0 s.left })) }

pub walks_end_parentheses : (k : Walk) → Basics k → (b : Bool) → Walks k (end_parentheses b)
walks_end_parentheses k basics false = walks_giving k basics tt
walks_end_parentheses k basics true = record { walks = λ s. walks_on k basics s (record s { left = to_parenthesis s.left }) (expect_symbol (codes ")") (record s { left = to_parenthesis s.left })) (basics.parenthesis_passed s) ((walks_expect_symbol k basics (codes ")")).walks (record s { left = to_parenthesis s.left })) }

pub walks_skip_parentheses : (k : Walk) → Basics k → Walks k skip_parentheses
unfolding skip_parentheses
walks_skip_parentheses k basics = walks_then k basics _ _ (walks_takes_symbol k basics _) (walks_end_parentheses k basics)

-- ---- what leaves the tokens as they are

pub walks_note : (k : Walk) → Basics k → (p : Place) (r : Remark) → Walks k (note p r)
walks_note k basics p r = basics.noted p r

left_out_by : (k : Walk) → Basics k → (m : Mode) (p : Place) (what : LeftOut) (s : State) → After {A = Unit {0}} k s (leave_out_in m p what s)
left_out_by k basics Strict p what s = tt
left_out_by k basics Lenient p what s = (basics.noted p _).walks s

pub walks_leave_out : (k : Walk) → Basics k → (p : Place) (what : LeftOut) → Walks k (leave_out p what)
unfolding leave_out
walks_leave_out k basics p what = record { walks = λ s. left_out_by k basics s.mode p what s }

pub walks_in_order : (k : Walk) → Basics k → (p : Place) (r : Rank) → Walks k (in_order p r)
unfolding in_order
walks_in_order k basics p r = record { walks = λ s. refused_or_not k basics _ _ tt s (record s { rank = r }) (basics.ranked s r) }

-- ---- again and again

pub walks_repeating : (k : Walk) → Basics k → {A : Type 0} → (again : A → Reads (A × Bool)) → ((x : A) → Walks k (again x)) → (n : ℕ) (x : A) → Walks k (repeating again n x)
unfolding repeating
walks_repeating k basics again same zero x = walks_unexpected k basics
walks_repeating k basics again same (suc n) x =
    walks_then k basics (again x) _ (same x) (λ y. walks_if k basics y.1 _ _ (walks_repeating k basics again same n y.0) (walks_giving k basics y.0))

pub walks_repeated : (k : Walk) → Basics k → {A : Type 0} → (again : A → Reads (A × Bool)) (x : A) → ((y : A) → Walks k (again y)) → Walks k (repeated again x)
walks_repeated k basics again x same =
    record { walks = λ s. (walks_repeating k basics again same (length s.left + 1) x).walks s }

pub ruleset steps = (walks_look, walks_second, walks_within, walks_number, walks_empty, walks_end, walks_then, walks_if, walks_giving, walks_refusing, walks_fault, walks_unexpected, walks_from, walks_token, walks_takes_word, walks_takes_symbol, walks_expect_word, walks_expect_symbol, walks_string, walks_value, walks_end_line, walks_newlines, walks_note, walks_leave_out, walks_skip_line, walks_skip_parentheses, walks_in_order)

pub walks_leave_out_next : (k : Walk) → Basics k → Walks k leave_out_next
unfolding leave_out_next
walks_leave_out_next k basics = search steps

-- ---- lists

pub walks_begin_list : (k : Walk) → Basics k → Walks k begin_list
unfolding begin_list
walks_begin_list k basics = search steps

pub walks_after_comma : (k : Walk) → Basics k → (b : Bool) → Walks k (after_comma b)
walks_after_comma k basics false = search steps
walks_after_comma k basics true = search steps

pub walks_after_item : (k : Walk) → Basics k → (b : Bool) → Walks k (after_item b)
walks_after_item k basics true = search steps
walks_after_item k basics false = walks_then k basics _ _ (walks_takes_symbol k basics _) (walks_after_comma k basics)

pub walks_list_goes_on : (k : Walk) → Basics k → Walks k list_goes_on
unfolding list_goes_on
walks_list_goes_on k basics = search (steps, walks_after_item)

pub walks_item_more : (k : Walk) → Basics k → {A : Type 0} → (item : Reads (List A)) (xs : List A) → Walks k item → Walks k (item_more item xs)
walks_item_more k basics item xs same =
    walks_then k basics item _ same (λ ys. walks_then k basics list_goes_on _ (walks_list_goes_on k basics) (λ more. walks_giving k basics _))

pub walks_list : (k : Walk) → Basics k → {A : Type 0} → (item : Reads (List A)) → Walks k item → Walks k (list item)
walks_list k basics item same =
    walks_then k basics begin_list _ (walks_begin_list k basics) (λ _. walks_repeated k basics (item_more item) [] (λ xs. walks_item_more k basics item xs same))

pub walks_one : (k : Walk) → Basics k → {A : Type 0} → (item : Reads A) → Walks k item → Walks k (one item)
walks_one k basics item same = walks_then k basics item _ same (λ x. walks_giving k basics _)

pub walks_no_list : (k : Walk) → Basics k → Walks k no_list
unfolding no_list
walks_no_list k basics = search steps

pub walks_one_or_items : (k : Walk) → Basics k → {A : Type 0} → (item : Reads A) → Walks k item → (b : Bool) → Walks k (one_or_items item b)
walks_one_or_items k basics item same true =
    walks_list k basics (listed_item item) (walks_then k basics no_list _ (walks_no_list k basics) (λ _. walks_one k basics item same))
walks_one_or_items k basics item same false = walks_one k basics item same

pub walks_one_or_list : (k : Walk) → Basics k → {A : Type 0} → (item : Reads A) → Walks k item → Walks k (one_or_list item)
walks_one_or_list k basics item same = walks_then k basics (takes_symbol (codes "{")) _ (walks_takes_symbol k basics _) (walks_one_or_items k basics item same)

pub walks_table_name : (k : Walk) → Basics k → Walks k table_name
unfolding table_name
walks_table_name k basics = search steps

pub walks_noted_group : (k : Walk) → Basics k → (t : Token) → Walks k (noted_group t)
unfolding noted_group
walks_noted_group k basics t = search steps

pub walks_not_negated : (k : Walk) → Basics k → Walks k not_negated
unfolding not_negated
walks_not_negated k basics = search steps

pub walks_interface : (k : Walk) → Basics k → Walks k interface
unfolding interface
walks_interface k basics = search (steps, walks_not_negated, walks_noted_group)

pub walks_interfaces : (k : Walk) → Basics k → Walks k interfaces
unfolding interfaces
walks_interfaces k basics = walks_one_or_list k basics interface (walks_interface k basics)

-- ---- protocols and ports

pub walks_protocol : (k : Walk) → Basics k → Walks k protocol
unfolding protocol
walks_protocol k basics = search steps

pub walks_or_same : (k : Walk) → Basics k → (o p : Operator) → Walks k (or_same o p)
walks_or_same k basics o p = search steps

pub walks_operator : (k : Walk) → Basics k → Walks k operator
unfolding operator
walks_operator k basics = search (steps, walks_or_same) depth 10

pub walks_compared : (k : Walk) → Basics k → (o : Operator) → Walks k (compared o)
unfolding compared
walks_compared k basics o = search steps

pub walks_between : (k : Walk) → Basics k → (t : Token) (w : Word) → Walks k (between t w)
unfolding between
walks_between k basics t w = search steps

pub walks_ranged : (k : Walk) → Basics k → Walks k ranged
unfolding ranged
walks_ranged k basics = search (steps, walks_between) depth 10

pub walks_port_by : (k : Walk) → Basics k → (o : Option Operator) → Walks k (port_by o)
walks_port_by k basics (Some o) = walks_compared k basics o
walks_port_by k basics None = walks_ranged k basics

pub walks_port : (k : Walk) → Basics k → Walks k port
unfolding port
walks_port k basics = walks_then k basics operator _ (walks_operator k basics) (walks_port_by k basics)

-- ---- hosts

pub walks_named_host : (k : Walk) → Basics k → (b : Bool) → Walks k (named_host b)
unfolding named_host
walks_named_host k basics b = search (steps, walks_table_name)

pub walks_with_length : (k : Walk) → Basics k → (t : Token) (b : Bool) → Walks k (with_length t b)
walks_with_length k basics t false = search steps
walks_with_length k basics t true = search (steps, walks_expect)

pub walks_address : (k : Walk) → Basics k → (t : Token) → Walks k (address t)
unfolding address
walks_address k basics t = walks_then k basics _ _ (walks_takes_symbol k basics _) (walks_with_length k basics t)

pub walks_no_range : (k : Walk) → Basics k → Walks k no_range
unfolding no_range
walks_no_range k basics = search steps

pub walks_net_host : (k : Walk) → Basics k → (b : Bool) → Walks k (net_host b)
unfolding net_host
walks_net_host k basics b = search (steps, walks_address, walks_no_range)

pub walks_other_host : (k : Walk) → Basics k → (b : Bool) → Walks k (other_host b)
unfolding other_host
walks_other_host k basics b = search (steps, walks_net_host)

pub walks_host : (k : Walk) → Basics k → Walks k host
unfolding host
walks_host k basics = search (steps, walks_named_host, walks_other_host)

pub walks_not_any : (k : Walk) → Basics k → Walks k not_any
unfolding not_any
walks_not_any k basics = search steps

pub walks_listed_hosts : (k : Walk) → Basics k → (inner : Reads (List Host)) → Walks k inner → Walks k (listed_hosts inner)
walks_listed_hosts k basics inner same =
    walks_then k basics not_any _ (walks_not_any k basics) (λ _. walks_look k basics _ (λ t. walks_if k basics (is_symbol (codes "{") t) inner (one host) same (walks_one k basics host (walks_host k basics))))

pub walks_hosts_in : (k : Walk) → Basics k → (n : ℕ) → Walks k (hosts_in n)
unfolding hosts_in
walks_hosts_in k basics zero = search steps
walks_hosts_in k basics (suc n) =
    walks_then k basics token _ (walks_token k basics) (λ _. walks_list k basics (listed_hosts (hosts_in n)) (walks_listed_hosts k basics (hosts_in n) (walks_hosts_in k basics n)))

pub walks_hosts : (k : Walk) → Basics k → Walks k hosts
unfolding hosts
walks_hosts k basics = walks_look k basics _ (λ t. walks_if k basics (is_symbol (codes "{") t) host_list (one host) (walks_hosts_in k basics _) (walks_one k basics host (walks_host k basics)))

-- ---- what a rule tests

pub walks_after_word : (k : Walk) → Basics k → {A : Type 0} → (w : Word) (read : Reads A) (x : A) → Walks k read → Walks k (if_word w read x)
walks_after_word k basics w read x same = walks_then k basics (takes_word w) _ (walks_takes_word k basics w) (λ is. walks_if k basics is read _ same (walks_giving k basics x))

pub walks_tested_interfaces : (k : Walk) → Basics k → Walks k tested_interfaces
unfolding tested_interfaces
walks_tested_interfaces k basics = search (steps, walks_after_word, walks_interfaces)

pub walks_family : (k : Walk) → Basics k → Walks k family
unfolding family
walks_family k basics = search (steps, walks_after_word)

pub walks_side_hosts : (k : Walk) → Basics k → Walks k side_hosts
unfolding side_hosts
walks_side_hosts k basics = search (steps, walks_hosts) depth 10

pub walks_protocols : (k : Walk) → Basics k → Walks k protocols
unfolding protocols all_tested tested
walks_protocols k basics = walks_after_word k basics _ _ _ (walks_one_or_list k basics protocol (walks_protocol k basics))

pub walks_side : (k : Walk) → Basics k → Walks k side
unfolding side all_tested tested
walks_side k basics =
    walks_then k basics side_hosts _ (walks_side_hosts k basics)
    (λ hs. walks_then k basics _ _ (walks_after_word k basics _ _ _ (walks_one_or_list k basics port (walks_port k basics))) (λ ps. walks_giving k basics _))

pub walks_sides : (k : Walk) → Basics k → Walks k sides
unfolding sides
walks_sides k basics = search (steps, walks_after_word, walks_side) depth 10

pub walks_tests : (k : Walk) → Basics k → Walks k tests
unfolding tests
walks_tests k basics = search (steps, walks_tested_interfaces, walks_family, walks_protocols, walks_sides)

-- ---- options

pub walks_once : (k : Walk) → Basics k → (b : Bool) (p : Place) (m : Mistake) → Walks k (once b p m)
walks_once k basics b p m = search steps

pub walks_state_options : (k : Walk) → Basics k → Walks k state_options
unfolding state_options
walks_state_options k basics = search steps

pub walks_kept : (k : Walk) → Basics k → (start : Start) (t : Token) → Walks k (kept start t)
unfolding kept
walks_kept k basics start t = search (steps, walks_state_options) depth 10

pub walks_state : (k : Walk) → Basics k → (start : Start) (before : Options) → Walks k (state start before)
unfolding state
walks_state k basics start before = search (steps, walks_once, walks_kept) depth 10

pub walks_label_of : (k : Walk) → Basics k → (start : Start) (p : Place) (t : Token) → Walks k (label_of start p t)
unfolding label_of
walks_label_of k basics start p t = search steps

pub walks_label : (k : Walk) → Basics k → (start : Start) (before : Options) → Walks k (label start before)
unfolding label
walks_label k basics start before = search (steps, walks_once, walks_label_of)

pub walks_letters : (k : Walk) → Basics k → Walks k letters
unfolding letters
walks_letters k basics = search steps

pub walks_flags_of : (k : Walk) → Basics k → (p : Place) (ts : Tests) (set of : Word) → Walks k (flags_of p ts set of)
unfolding flags_of
walks_flags_of k basics p ts set of = search steps

pub walks_set_flags : (k : Walk) → Basics k → Walks k set_flags
unfolding set_flags
walks_set_flags k basics = search (steps, walks_letters)

pub walks_written_flags : (k : Walk) → Basics k → (p : Place) (ts : Tests) → Walks k (written_flags p ts)
unfolding written_flags
walks_written_flags k basics p ts = search (steps, walks_set_flags, walks_letters, walks_flags_of)

pub walks_flags : (k : Walk) → Basics k → (ts : Tests) (before : Options) → Walks k (flags ts before)
unfolding flags
walks_flags k basics ts before = search (steps, walks_once, walks_written_flags) depth 10

pub walks_skip_string : (k : Walk) → Basics k → Walks k skip_string
unfolding skip_string
walks_skip_string k basics = search steps

pub walks_queue_name : (k : Walk) → Basics k → Walks k queue_name
unfolding queue_name
walks_queue_name k basics = search (steps, walks_skip_string)

pub walks_queue : (k : Walk) → Basics k → Walks k queue
unfolding queue
walks_queue k basics = search (steps, walks_leave_out_next, walks_queue_name)

pub walks_tag : (k : Walk) → Basics k → Walks k tag
unfolding tag
walks_tag k basics = search (steps, walks_leave_out_next, walks_skip_string)

pub walks_named_priority : (k : Walk) → Basics k → Walks k named_priority
unfolding named_priority
walks_named_priority k basics = search steps

pub walks_priority_value : (k : Walk) → Basics k → Walks k priority_value
unfolding priority_value
walks_priority_value k basics = search steps

pub walks_priority : (k : Walk) → Basics k → Walks k priority
unfolding priority
walks_priority k basics = search (steps, walks_named_priority, walks_priority_value)

pub walks_unexpected_option : (k : Walk) → Basics k → Walks k unexpected_option
unfolding unexpected_option
walks_unexpected_option k basics = search steps

pub walks_left_out_option : (k : Walk) → Basics k → Walks k left_out_option
unfolding left_out_option
walks_left_out_option k basics = search (steps, walks_leave_out_next, walks_queue, walks_tag, walks_priority, walks_unexpected_option) depth 10

pub walks_option : (k : Walk) → Basics k → (start : Start) (ts : Tests) (before : Options) → Walks k (option start ts before)
unfolding option
walks_option k basics start ts before = search (steps, walks_state, walks_label, walks_flags, walks_left_out_option) depth 10

pub walks_options_more : (k : Walk) → Basics k → (start : Start) (ts : Tests) (before : Options) → Walks k (options_more start ts before)
walks_options_more k basics start ts before = search (steps, walks_option)

pub walks_said : (k : Walk) → Basics k → (start : Start) (ts : Tests) → Walks k (said start ts)
unfolding said
walks_said k basics start ts = walks_repeated k basics (options_more start ts) _ (walks_options_more k basics start ts)

pub walks_closing : (k : Walk) → Basics k → (start : Start) (ts : Tests) → Walks k (closing start ts)
unfolding closing
walks_closing k basics start ts = search (steps, walks_said)

pub walks_tests_and_options : (k : Walk) → Basics k → (start : Start) → Walks k (tests_and_options start)
unfolding tests_and_options
walks_tests_and_options k basics start = search (steps, walks_tests, walks_closing)

-- ---- how rules begin

pub walks_skip_drop : (k : Walk) → Basics k → Walks k skip_drop
unfolding skip_drop
walks_skip_drop k basics = search steps

pub walks_block_policy : (k : Walk) → Basics k → Walks k block_policy
unfolding block_policy
walks_block_policy k basics = search (steps, walks_leave_out_next, walks_skip_drop) depth 10

pub walks_direction : (k : Walk) → Basics k → Walks k direction
unfolding direction
walks_direction k basics = search steps

pub walks_log : (k : Walk) → Basics k → Walks k log
unfolding log
walks_log k basics = search (steps, walks_leave_out_next)

pub walks_log_and_quick : (k : Walk) → Basics k → Walks k log_and_quick
unfolding log_and_quick
walks_log_and_quick k basics = search (steps, walks_log)

-- ---- anchors

pub walks_quoted_path : (k : Walk) → Basics k → Walks k quoted_path
unfolding quoted_path
walks_quoted_path k basics = search steps

pub walks_anchor_name : (k : Walk) → Basics k → (named : Named) → Walks k (anchor_name named)
unfolding anchor_name
walks_anchor_name k basics named = search (steps, walks_quoted_path) depth 10

pub walks_own_name : (k : Walk) → Basics k → Walks k own_name
unfolding own_name
walks_own_name k basics = search (steps, walks_anchor_name)

pub walks_name_alone : (k : Walk) → Basics k → (p : Place) (name : Option Token) → Walks k (name_alone p name)
unfolding name_alone
walks_name_alone k basics p None = search steps
walks_name_alone k basics p (Some t) = search steps

pub walks_newline_after_brace : (k : Walk) → Basics k → Walks k newline_after_brace
unfolding newline_after_brace
walks_newline_after_brace k basics = search steps

pub walks_enter : (k : Walk) → Basics k → (p : Place) (depth : ℕ) (name : Word) → Walks k (enter p depth name)
walks_enter k basics p depth name = basics.entered p depth name

pub walks_open_braces : (k : Walk) → Basics k → (p : Place) (depth : ℕ) (name : Option Token) → Walks k (open_braces p depth name)
unfolding open_braces
walks_open_braces k basics p depth name = search (steps, walks_newline_after_brace, walks_enter)

pub walks_braces_or_line : (k : Walk) → Basics k → (p : Place) (depth : ℕ) (name : Option Token) → Walks k (braces_or_line p depth name)
unfolding braces_or_line
walks_braces_or_line k basics p depth name = search (steps, walks_open_braces, walks_name_alone)

pub walks_shallow : (k : Walk) → Basics k → (p : Place) → Walks k (shallow p)
unfolding shallow
walks_shallow k basics p = record { walks = λ s. known_or_not k basics _ _ s.depth s }

pub walks_leave_braces : (k : Walk) → Basics k → Walks k leave_braces
walks_leave_braces k basics = basics.braces_left

pub walks_close_braces : (k : Walk) → Basics k → Walks k close_braces
unfolding close_braces
walks_close_braces k basics = search (steps, walks_leave_braces)

-- ---- lines

pub walks_listed : (k : Walk) → Basics k → Walks k listed
unfolding listed
walks_listed k basics = search (steps, walks_hosts_in) depth 10

pub walks_table_part : (k : Walk) → Basics k → Walks k table_part
unfolding table_part
walks_table_part k basics = search (steps, walks_leave_out_next, walks_listed) depth 10

pub walks_parts_more : (k : Walk) → Basics k → (before : List Entries) → Walks k (parts_more before)
walks_parts_more k basics before = search (steps, walks_table_part)

pub walks_table_parts : (k : Walk) → Basics k → Walks k table_parts
unfolding table_parts
walks_table_parts k basics = walks_repeated k basics parts_more [] (walks_parts_more k basics)

pub walks_keep_table : (k : Walk) → Basics k → (t : Table) → Walks k (keep_table t)
walks_keep_table k basics t = basics.table_kept t

pub walks_name_in_angles : (k : Walk) → Basics k → Walks k name_in_angles
unfolding name_in_angles
walks_name_in_angles k basics = search (steps, walks_table_name)

pub walks_table : (k : Walk) → Basics k → Walks k table
unfolding table
walks_table k basics = search (steps, walks_name_in_angles, walks_table_parts, walks_keep_table)

pub walks_keep_load : (k : Walk) → Basics k → (l : Load) → Walks k (keep_load l)
walks_keep_load k basics l = basics.load_kept l

pub walks_loaded_path : (k : Walk) → Basics k → Walks k loaded_path
unfolding loaded_path
walks_loaded_path k basics = search (steps, walks_anchor_name)

pub walks_loaded_file : (k : Walk) → Basics k → Walks k loaded_file
unfolding loaded_file
walks_loaded_file k basics = search steps

pub walks_load : (k : Walk) → Basics k → Walks k load
unfolding load
walks_load k basics = search (steps, walks_loaded_path, walks_loaded_file, walks_keep_load)

pub walks_in_main : (k : Walk) → Basics k → (t : Token) → Walks k (in_main t)
unfolding in_main
walks_in_main k basics t = record { walks = λ s. known_or_not k basics s.is_main _ tt s }

pub walks_skip : (k : Walk) → Basics k → Rules k → (option : Token) → Walks k (skip option)
walks_skip k basics rules option = rules.skip_read option

pub walks_order_matters : (k : Walk) → Basics k → (b : Bool) → Walks k (order_matters b)
walks_order_matters k basics b = basics.order_set b

pub walks_set_order : (k : Walk) → Basics k → (b : Bool) → Walks k (set_order b)
unfolding set_order
walks_set_order k basics b = search (steps, walks_order_matters)

pub walks_require_order : (k : Walk) → Basics k → Walks k require_order
unfolding require_order
walks_require_order k basics = search (steps, walks_set_order) depth 10

pub walks_set_option : (k : Walk) → Basics k → Rules k → (t : Token) → Walks k (set_option t)
unfolding set_option
walks_set_option k basics rules t = search (steps, walks_skip, walks_require_order) depth 10

pub walks_setting : (k : Walk) → Basics k → Walks k setting
unfolding setting
walks_setting k basics = walks_expect k basics is_setting

pub walks_set_line : (k : Walk) → Basics k → Rules k → Walks k set_line
unfolding set_line
walks_set_line k basics rules = search (steps, walks_setting, walks_set_option) depth 10

pub walks_left_out_line : (k : Walk) → Basics k → Walks k left_out_line
unfolding left_out_line
walks_left_out_line k basics = search steps

pub walks_no_line : (k : Walk) → Basics k → Walks k no_line
unfolding no_line
walks_no_line k basics = search (steps, walks_left_out_line) depth 10

pub walks_rule_or_anchor : (k : Walk) → Basics k → Rules k → Walks k rule_or_anchor
walks_rule_or_anchor k basics rules = rules.rules_read

-- by each of the two
pub either_walks : (k : Walk) → Basics k → Walks k rule → Walks k anchor → Walks k rule_or_anchor
unfolding rule_or_anchor
either_walks k basics first other =
    walks_look k basics _ (λ t. walks_if k basics (is_rule t) rule (cond (is_word (codes "anchor") t) anchor unexpected) first (walks_if k basics (is_word (codes "anchor") t) anchor unexpected other (walks_unexpected k basics)))

pub walks_filtering : (k : Walk) → Basics k → Walks k filtering
unfolding filtering
walks_filtering k basics = search steps

pub walks_line : (k : Walk) → Basics k → Rules k → Walks k line
unfolding line
walks_line k basics rules = search (steps, walks_set_line, walks_left_out_line, walks_no_line, walks_table, walks_load, walks_filtering, walks_rule_or_anchor) depth 10

pub walks_line_in_braces : (k : Walk) → Basics k → Rules k → Walks k line_in_braces
unfolding line_in_braces
walks_line_in_braces k basics rules = search (steps, walks_close_braces, walks_rule_or_anchor)

pub walks_any_line : (k : Walk) → Basics k → Rules k → Walks k any_line
unfolding any_line
walks_any_line k basics rules = search (steps, walks_line, walks_line_in_braces) depth 10

pub walks_all_closed : (k : Walk) → Basics k → Walks k all_closed
unfolding all_closed
walks_all_closed k basics = search steps

pub walks_line_more : (k : Walk) → Basics k → Rules k → Walks k line_more
walks_line_more k basics rules = search (steps, walks_any_line)

pub walks_lines_more : (k : Walk) → Basics k → Rules k → (done : Unit {0}) → Walks k (lines_more done)
walks_lines_more k basics rules done = walks_then k basics line_more _ (walks_line_more k basics rules) (λ more. walks_giving k basics _)

pub walks_lines : (k : Walk) → Basics k → Rules k → Walks k lines
unfolding lines
walks_lines k basics rules = walks_then k basics (repeated lines_more tt) _ (walks_repeated k basics lines_more tt (walks_lines_more k basics rules)) (λ _. walks_all_closed k basics)
