-- What holds of all that is read if it holds of each step.
use Rattle.std.proofs.Common.{◌≡◌, ℕ, zero, suc, ◌+◌, ◌==◌, cond, Bool, true, false, List, [], ◌∷◌, length, codes, ◌||◌, Option, Some, None, Result, Ok, Err, refl, ap, ◌∙◌}
use Rattle.pf_form.specs.Form.Forms.{◌>>=◌}
use Rattle.pf_tokens.specs.declared.{place.Place.Place, token.Token.Token}
use Rattle.pf_tokens.specs.Words.{is_word, is_symbol, is_newline, is_number, is_string}
use Rattle.pf_lists.specs.declared.hosts.Host.{Host}
use Rattle.pf_parse.specs.declared.{anchors.Named.Named, fault.LeftOut.LeftOut, fault.Mistake.Mistake, fault.Remark.Remark, fault.Stop.Stop, parser.Rank.Rank, lists.Operator.Operator, lists.TheConstants.LIST_LIMIT, lists.Tested.{Tested}, lists.Tested.TheVariants.{Protocol, Port}, tree.Entries.Entries, tree.Load.Load, tree.Product.Product, tree.Start.Start, tree.Start.TheVariants.{Pass, Block}, tree.Table.Table, tree.Tests.Tests, options.Options.Options}
use Rattle.pf_parse.specs.States.{State}
use Rattle.pf_parse.specs.Reading.{Word, Reads, giving, ◌>=>◌, refusing, looking, next, second, after_token, is_at_end, token, takes_word, takes_symbol, unexpected, expect, passing, expect_word, expect_symbol, string, value, end_line, is_empty_list, newlines, note, leave_out, leave_out_next, skip_line, end_parentheses, skip_parentheses, in_order, repeating, repeated}
use Rattle.pf_parse.specs.Lists.{looking_at, from, begin_list, after_comma, after_item, list_goes_on, item_more, list, one, no_list, listed_item, one_or_items, one_or_list, table_name, noted_group, not_negated, interface, interfaces, protocol, or_same, operator, compared, between, ranged, port_by, port, tested, all_tested, named_host, with_length, address, no_range, net_host, other_host, host, not_any, listed_hosts, hosts_in, hosts}
use Rattle.pf_parse.specs.Criteria.{if_word, tested_interfaces, family, protocols, side_hosts, side, sides, tests}
use Rattle.pf_parse.specs.Options.{once, state_options, kept, state, label_of, label, letters, flags_of, set_flags, written_flags, flags, skip_string, queue_name, queue, tag, named_priority, priority_value, priority, unexpected_option, left_out_option, option, options_more, said, closing, tests_and_options}
use Rattle.pf_parse.specs.Openings.{skip_drop, block_policy, direction, log, log_and_quick}
use Rattle.pf_parse.specs.Anchors.{quoted_path, anchor_name, own_name, name_alone, newline_after_brace, next_number, enter, open_braces, braces_or_line, shallow, keep_rule, named_anchor, anchor, leave_braces, close_braces}
use Rattle.pf_parse.specs.Lines.{is_rule, rule_of, rule, listed, table_part, parts_more, table_parts, keep_table, name_in_angles, table, keep_load, loaded_path, loaded_file, load, keep_skip, skip_one, skip_each, in_main, skip, order_matters, set_order, require_order, set_option, is_setting, setting, set_line, left_out_line, no_line, rule_or_anchor, filtering, line, line_in_braces, any_line, all_closed, line_more, lines_more, lines}
use Rattle.pf_parse.specs.Laws.{begins_rule}

-- Two readings that go side by side: what is known in the other one, what holds in the first, and where its rules may begin.
pub record Kept : Type 1 where
  pub other : State → State
  pub Holds : State → Type 0
  pub Begins : Place → Type 0

-- the second is the first, in the other reading
abbrev pub Follows : {A : Type 0} → Kept → Result (A × State) Stop → Result (A × State) Stop → Type 0
Follows k (Ok (x, t)) r = (r ≡ Ok (x, k.other t)) × k.Holds t
Follows k (Err e) r = Unit {0}

-- what one reading takes, the other takes with the same value, and what holds is kept
pub record Keeps {A : Type 0} (k : Kept) (read : Reads A) : Type 0 where
  pub follows : (s : State) → k.Holds s → Follows k (read s) (read (k.other s))

-- the same, if a rule may begin with the next token
pub record KeepsBegun {A : Type 0} (k : Kept) (read : Reads A) : Type 0 where
  pub follows : (s : State) → k.Holds s → k.Begins (next s).place → Follows k (read s) (read (k.other s))

-- the steps that touch more than the next token
pub record Basics (k : Kept) : Type 0 where
  pub looks : (s : State) → next (k.other s) ≡ next s
  pub looks_on : (s : State) → second (k.other s) ≡ second s
  pub within : (s : State) → (k.other s).within ≡ s.within
  pub number : (s : State) → next_number (k.other s) ≡ next_number s
  pub left : (s : State) → (k.other s).left ≡ s.left
  pub taken : (s : State) → k.Holds s → (after_token (k.other s) ≡ k.other (after_token s)) × k.Holds (after_token s)
  pub begins : (s : State) → k.Holds s → begins_rule (next s) ≡ true → k.Begins (next s).place
  pub newlines_taken : Keeps k newlines
  pub noted : (p : Place) (r : Remark) → Keeps k (note p r)
  pub left_out : (p : Place) (what : LeftOut) → Keeps k (leave_out p what)
  pub line_skipped : Keeps k skip_line
  pub parenthesis : Keeps k (end_parentheses true)
  pub ordered : (p : Place) (r : Rank) → Keeps k (in_order p r)
  pub order_set : (b : Bool) → Keeps k (order_matters b)
  pub main_known : (t : Token) → Keeps k (in_main t)
  pub depth_known : (p : Place) → Keeps k (shallow p)
  pub entered : (p : Place) (depth : ℕ) (name : Word) → Keeps k (enter p depth name)
  pub braces_left : Keeps k leave_braces
  pub table_kept : (t : Table) → Keeps k (keep_table t)
  pub load_kept : (l : Load) → Keeps k (keep_load l)
  pub skip_kept : (p : Product) → Keeps k (keep_skip p)
  pub rule_kept : (within : ℕ) (p : Product) → k.Begins p.place → Keeps k (keep_rule within p)

-- ---- how readers are made

then_follows : {A B : Type 0} → (k : Kept) (r q : Result (A × State) Stop) (then : A → Reads B) → Follows k r q → ((x : A) → Keeps k (then x)) → Follows k (r >>= λ (x, t). then x t) (q >>= λ (x, t). then x t)
then_follows k (Ok (x, t)) q then (is, holds) keeps = rw is ((keeps x).follows t holds)
then_follows k (Err e) q then h keeps = tt

keeps_then : (k : Kept) → Basics k → {A B : Type 0} → (read : Reads A) (then : A → Reads B) → Keeps k read → ((x : A) → Keeps k (then x)) → Keeps k (read >=> then)
keeps_then k basics read then first keeps =
    record { follows = λ s holds. then_follows k (read s) (read (k.other s)) then (first.follows s holds) keeps }

keeps_giving : (k : Kept) → Basics k → {A : Type 0} → (x : A) → Keeps k (giving x)
keeps_giving k basics x = record { follows = λ s holds. (refl, holds) }

keeps_refusing : (k : Kept) → Basics k → {A : Type 0} → (p : Place) (m : Mistake) → Keeps k (refusing {A = A} p m)
keeps_refusing k basics p m = record { follows = λ s holds. tt }

keeps_fault : (k : Kept) → Basics k → {A : Type 0} → (e : State → Stop) → Keeps {A = A} k (λ s. Err (e s))
keeps_fault k basics e = record { follows = λ s holds. tt }

keeps_unexpected : (k : Kept) → Basics k → {A : Type 0} → Keeps k (unexpected {A = A})
keeps_unexpected k basics = record { follows = λ s holds. tt }

keeps_if : (k : Kept) → Basics k → {A : Type 0} → (b : Bool) (r q : Reads A) → Keeps k r → Keeps k q → Keeps k (cond b r q)
keeps_if k basics true r q keeps other = keeps
keeps_if k basics false r q keeps other = other

keeps_from : (k : Kept) → Basics k → {A : Type 0} → (r : Result A Stop) → Keeps k (from r)
keeps_from k basics (Ok x) = record { follows = λ s holds. (refl, holds) }
keeps_from k basics (Err e) = record { follows = λ s holds. tt }

-- ---- what is known before a token

looked : {A B : Type 0} → (k : Kept) (then : A → Reads B) (x y : A) (s u : State) → y ≡ x → Follows k (then x s) (then x u) → Follows k (then x s) (then y u)
looked k then x y s u same keeps = rw same keeps

keeps_look : (k : Kept) → Basics k → {B : Type 0} → (then : Token → Reads B) → ((t : Token) → Keeps k (then t)) → Keeps k (looking_at >=> then)
keeps_look k basics then keeps = record { follows = λ s holds. looked k then (next s) (next (k.other s)) s (k.other s) (basics.looks s) ((keeps (next s)).follows s holds) }

keeps_second : (k : Kept) → Basics k → {B : Type 0} → (then : Token → Reads B) → ((t : Token) → Keeps k (then t)) → Keeps k (looking second >=> then)
keeps_second k basics then keeps = record { follows = λ s holds. looked k then (second s) (second (k.other s)) s (k.other s) (basics.looks_on s) ((keeps (second s)).follows s holds) }

keeps_within : (k : Kept) → Basics k → {B : Type 0} → (then : ℕ → Reads B) → ((n : ℕ) → Keeps k (then n)) → Keeps k (looking (λ s. s.within) >=> then)
keeps_within k basics then keeps = record { follows = λ s holds. looked k then s.within (k.other s).within s (k.other s) (basics.within s) ((keeps s.within).follows s holds) }

keeps_number : (k : Kept) → Basics k → {B : Type 0} → (then : ℕ → Reads B) → ((n : ℕ) → Keeps k (then n)) → Keeps k (looking next_number >=> then)
keeps_number k basics then keeps = record { follows = λ s holds. looked k then (next_number s) (next_number (k.other s)) s (k.other s) (basics.number s) ((keeps (next_number s)).follows s holds) }

keeps_empty : (k : Kept) → Basics k → {B : Type 0} → (then : Bool → Reads B) → ((b : Bool) → Keeps k (then b)) → Keeps k (looking (λ s. is_empty_list s.left) >=> then)
keeps_empty k basics then keeps = record { follows = λ s holds. looked k then (is_empty_list s.left) (is_empty_list (k.other s).left) s (k.other s) (ap is_empty_list (basics.left s)) ((keeps (is_empty_list s.left)).follows s holds) }

keeps_end : (k : Kept) → Basics k → {B : Type 0} → (then : Bool → Reads B) → ((b : Bool) → Keeps k (then b)) → Keeps k (looking is_at_end >=> then)
keeps_end k basics then keeps = record { follows = λ s holds. looked k then (is_at_end s) (is_at_end (k.other s)) s (k.other s) (ap (λ (ts : List Token). length ts == 0) (basics.left s)) ((keeps (is_at_end s)).follows s holds) }

-- ---- tokens

token_follows : (k : Kept) → Basics k → (s : State) → k.Holds s → Follows {A = Token} k (Ok (next s, after_token s)) (Ok (next (k.other s), after_token (k.other s)))
token_follows k basics s holds =
    let taken = basics.taken s holds in
    let pair : Token → State → Result (Token × State) Stop = λ t u. Ok (t, u) in
    let is : pair (next (k.other s)) (after_token (k.other s)) ≡ pair (next s) (k.other (after_token s)) =
    ap (λ (t : Token). pair t (after_token (k.other s))) (basics.looks s) ∙ ap (pair (next s)) taken.0 in
    (is, taken.1)

keeps_token : (k : Kept) → Basics k → Keeps k token
unfolding token
keeps_token k basics = record { follows = λ s holds. token_follows k basics s holds }

takes_follows : (k : Kept) → Basics k → (b : Bool) (s : State) → k.Holds s → Follows {A = Bool} k (cond b (Ok (true, after_token s)) (Ok (false, s))) (cond b (Ok (true, after_token (k.other s))) (Ok (false, k.other s)))
takes_follows k basics true s holds =
    let taken = basics.taken s holds in
    let taking : State → Result (Bool × State) Stop = λ t. Ok (true, t) in
    (ap taking taken.0, taken.1)
takes_follows k basics false s holds = (refl, holds)

keeps_takes_word : (k : Kept) → Basics k → (w : Word) → Keeps k (takes_word w)
unfolding takes_word
keeps_takes_word k basics w =
    record { follows = λ s holds. rw (basics.looks s) (takes_follows k basics (is_word w (next s)) s holds) }

keeps_takes_symbol : (k : Kept) → Basics k → (w : Word) → Keeps k (takes_symbol w)
unfolding takes_symbol
keeps_takes_symbol k basics w =
    record { follows = λ s holds. rw (basics.looks s) (takes_follows k basics (is_symbol w (next s)) s holds) }

expect_follows : (k : Kept) → Basics k → (b : Bool) (s : State) → k.Holds s → Follows {A = Token} k (cond b (token s) (unexpected s)) (cond b (token (k.other s)) (unexpected (k.other s)))
expect_follows k basics true s holds = (keeps_token k basics).follows s holds
expect_follows k basics false s holds = tt

keeps_expect : (k : Kept) → Basics k → (test : Token → Bool) → Keeps k (expect test)
keeps_expect k basics test =
    record { follows = λ s holds. rw (ap test (basics.looks s)) (expect_follows k basics (test (next s)) s holds) }

passing_follows : (k : Kept) → Basics k → (b : Bool) (s : State) → k.Holds s → Follows {A = Unit {0}} k (cond b (Ok (tt, after_token s)) (unexpected s)) (cond b (Ok (tt, after_token (k.other s))) (unexpected (k.other s)))
passing_follows k basics true s holds =
    let taken = basics.taken s holds in
    let taking : State → Result (Unit {0} × State) Stop = λ t. Ok (tt, t) in
    (ap taking taken.0, taken.1)
passing_follows k basics false s holds = tt

keeps_passing : (k : Kept) → Basics k → (test : Token → Bool) → Keeps k (passing test)
keeps_passing k basics test =
    record { follows = λ s holds. rw (ap test (basics.looks s)) (passing_follows k basics (test (next s)) s holds) }

keeps_expect_word : (k : Kept) → Basics k → (w : Word) → Keeps k (expect_word w)
unfolding expect_word
keeps_expect_word k basics w = keeps_passing k basics (is_word w)

keeps_expect_symbol : (k : Kept) → Basics k → (w : Word) → Keeps k (expect_symbol w)
unfolding expect_symbol
keeps_expect_symbol k basics w = keeps_passing k basics (is_symbol w)

keeps_string : (k : Kept) → Basics k → Keeps k string
unfolding string
keeps_string k basics = keeps_expect k basics is_string

keeps_value : (k : Kept) → Basics k → Keeps k value
unfolding value
keeps_value k basics = keeps_expect k basics (λ t. is_string t || is_number t)

keeps_end_line : (k : Kept) → Basics k → Keeps k end_line
unfolding end_line
keeps_end_line k basics = keeps_passing k basics is_newline

keeps_newlines : (k : Kept) → Basics k → Keeps k newlines
keeps_newlines k basics = basics.newlines_taken

keeps_note : (k : Kept) → Basics k → (p : Place) (r : Remark) → Keeps k (note p r)
keeps_note k basics p r = basics.noted p r

keeps_leave_out : (k : Kept) → Basics k → (p : Place) (what : LeftOut) → Keeps k (leave_out p what)
keeps_leave_out k basics p what = basics.left_out p what

keeps_skip_line : (k : Kept) → Basics k → Keeps k skip_line
keeps_skip_line k basics = basics.line_skipped

keeps_end_parentheses : (k : Kept) → Basics k → (b : Bool) → Keeps k (end_parentheses b)
keeps_end_parentheses k basics false = keeps_giving k basics tt
keeps_end_parentheses k basics true = basics.parenthesis

keeps_skip_parentheses : (k : Kept) → Basics k → Keeps k skip_parentheses
unfolding skip_parentheses
keeps_skip_parentheses k basics = keeps_then k basics _ _ (keeps_takes_symbol k basics _) (keeps_end_parentheses k basics)

keeps_in_order : (k : Kept) → Basics k → (p : Place) (r : Rank) → Keeps k (in_order p r)
keeps_in_order k basics p r = basics.ordered p r

then_begun : {A : Type 0} → (k : Kept) (t u : Token) (s v : State) (then : Token → Reads A) → u ≡ t → v ≡ k.other s → Follows k (then t s) (then t (k.other s)) → Follows k (then t s) (then u v)
then_begun k t u s v then same on keeps = rw (same, on) keeps

-- a rule may begin with the token that is taken
keeps_begun : (k : Kept) → Basics k → {A : Type 0} → (then : Token → Reads A) → ((t : Token) → k.Begins t.place → Keeps k (then t)) → KeepsBegun k (token >=> then)
unfolding token
keeps_begun k basics then keeps =
    record { follows = λ s holds begins. then_begun k (next s) (next (k.other s)) (after_token s) (after_token (k.other s)) then (basics.looks s) (basics.taken s holds).0 ((keeps (next s) begins).follows (after_token s) (basics.taken s holds).1) }

-- ---- again and again

keeps_repeating : (k : Kept) → Basics k → {A : Type 0} → (again : A → Reads (A × Bool)) → ((x : A) → Keeps k (again x)) → (n : ℕ) (x : A) → Keeps k (repeating again n x)
unfolding repeating
keeps_repeating k basics again same zero x = keeps_unexpected k basics
keeps_repeating k basics again same (suc n) x =
    keeps_then k basics (again x) _ (same x) (λ y. keeps_if k basics y.1 _ _ (keeps_repeating k basics again same n y.0) (keeps_giving k basics y.0))

keeps_repeated : (k : Kept) → Basics k → {A : Type 0} → (again : A → Reads (A × Bool)) (x : A) → ((y : A) → Keeps k (again y)) → Keeps k (repeated again x)
keeps_repeated k basics again x same =
    record { follows = λ s holds. looked k (λ (n : ℕ). repeating again n x) (length s.left + 1) (length (k.other s).left + 1) s (k.other s) (ap (λ (ts : List Token). length ts + 1) (basics.left s)) ((keeps_repeating k basics again same (length s.left + 1) x).follows s holds) }

ruleset steps = (keeps_look, keeps_second, keeps_within, keeps_number, keeps_empty, keeps_end, keeps_then, keeps_if, keeps_giving, keeps_refusing, keeps_fault, keeps_unexpected, keeps_from, keeps_token, keeps_takes_word, keeps_takes_symbol, keeps_expect_word, keeps_expect_symbol, keeps_string, keeps_value, keeps_end_line, keeps_newlines, keeps_note, keeps_leave_out, keeps_skip_line, keeps_skip_parentheses, keeps_in_order)

keeps_leave_out_next : (k : Kept) → Basics k → Keeps k leave_out_next
unfolding leave_out_next
keeps_leave_out_next k basics = search steps

-- ---- lists

keeps_begin_list : (k : Kept) → Basics k → Keeps k begin_list
unfolding begin_list
keeps_begin_list k basics = search steps

keeps_after_comma : (k : Kept) → Basics k → (b : Bool) → Keeps k (after_comma b)
keeps_after_comma k basics false = search steps
keeps_after_comma k basics true = search steps

keeps_after_item : (k : Kept) → Basics k → (b : Bool) → Keeps k (after_item b)
keeps_after_item k basics true = search steps
keeps_after_item k basics false = keeps_then k basics _ _ (keeps_takes_symbol k basics _) (keeps_after_comma k basics)

keeps_list_goes_on : (k : Kept) → Basics k → Keeps k list_goes_on
unfolding list_goes_on
keeps_list_goes_on k basics = search (steps, keeps_after_item)

keeps_item_more : (k : Kept) → Basics k → {A : Type 0} → (item : Reads (List A)) (xs : List A) → Keeps k item → Keeps k (item_more item xs)
keeps_item_more k basics item xs same =
    keeps_then k basics item _ same (λ ys. keeps_then k basics list_goes_on _ (keeps_list_goes_on k basics) (λ more. keeps_giving k basics _))

keeps_list : (k : Kept) → Basics k → {A : Type 0} → (item : Reads (List A)) → Keeps k item → Keeps k (list item)
keeps_list k basics item same =
    keeps_then k basics begin_list _ (keeps_begin_list k basics) (λ _. keeps_repeated k basics (item_more item) [] (λ xs. keeps_item_more k basics item xs same))

keeps_one : (k : Kept) → Basics k → {A : Type 0} → (item : Reads A) → Keeps k item → Keeps k (one item)
keeps_one k basics item same = keeps_then k basics item _ same (λ x. keeps_giving k basics _)

keeps_no_list : (k : Kept) → Basics k → Keeps k no_list
unfolding no_list
keeps_no_list k basics = search steps

keeps_one_or_items : (k : Kept) → Basics k → {A : Type 0} → (item : Reads A) → Keeps k item → (b : Bool) → Keeps k (one_or_items item b)
keeps_one_or_items k basics item same true =
    keeps_list k basics (listed_item item) (keeps_then k basics no_list _ (keeps_no_list k basics) (λ _. keeps_one k basics item same))
keeps_one_or_items k basics item same false = keeps_one k basics item same

keeps_one_or_list : (k : Kept) → Basics k → {A : Type 0} → (item : Reads A) → Keeps k item → Keeps k (one_or_list item)
keeps_one_or_list k basics item same = keeps_then k basics (takes_symbol (codes "{")) _ (keeps_takes_symbol k basics _) (keeps_one_or_items k basics item same)

keeps_table_name : (k : Kept) → Basics k → Keeps k table_name
unfolding table_name
keeps_table_name k basics = search steps

keeps_noted_group : (k : Kept) → Basics k → (t : Token) → Keeps k (noted_group t)
unfolding noted_group
keeps_noted_group k basics t = search steps

keeps_not_negated : (k : Kept) → Basics k → Keeps k not_negated
unfolding not_negated
keeps_not_negated k basics = search steps

keeps_interface : (k : Kept) → Basics k → Keeps k interface
unfolding interface
keeps_interface k basics = search (steps, keeps_not_negated, keeps_noted_group)

keeps_interfaces : (k : Kept) → Basics k → Keeps k interfaces
unfolding interfaces
keeps_interfaces k basics = keeps_one_or_list k basics interface (keeps_interface k basics)

-- ---- protocols and ports

keeps_protocol : (k : Kept) → Basics k → Keeps k protocol
unfolding protocol
keeps_protocol k basics = search steps

keeps_or_same : (k : Kept) → Basics k → (o p : Operator) → Keeps k (or_same o p)
keeps_or_same k basics o p = search steps

keeps_operator : (k : Kept) → Basics k → Keeps k operator
unfolding operator
keeps_operator k basics = search (steps, keeps_or_same) depth 10

keeps_compared : (k : Kept) → Basics k → (o : Operator) → Keeps k (compared o)
unfolding compared
keeps_compared k basics o = search steps

keeps_between : (k : Kept) → Basics k → (t : Token) (w : Word) → Keeps k (between t w)
unfolding between
keeps_between k basics t w = search steps

keeps_ranged : (k : Kept) → Basics k → Keeps k ranged
unfolding ranged
keeps_ranged k basics = search (steps, keeps_between) depth 10

keeps_port_by : (k : Kept) → Basics k → (o : Option Operator) → Keeps k (port_by o)
keeps_port_by k basics (Some o) = keeps_compared k basics o
keeps_port_by k basics None = keeps_ranged k basics

keeps_port : (k : Kept) → Basics k → Keeps k port
unfolding port
keeps_port k basics = keeps_then k basics operator _ (keeps_operator k basics) (keeps_port_by k basics)

keeps_tested : (k : Kept) → Basics k → (what : Tested) → Keeps k (tested what)
unfolding tested
keeps_tested k basics Protocol = keeps_protocol k basics
keeps_tested k basics Port = keeps_port k basics

keeps_all_tested : (k : Kept) → Basics k → (what : Tested) → Keeps k (all_tested what)
unfolding all_tested
keeps_all_tested k basics what = keeps_one_or_list k basics (tested what) (keeps_tested k basics what)

-- ---- hosts

keeps_named_host : (k : Kept) → Basics k → (b : Bool) → Keeps k (named_host b)
unfolding named_host
keeps_named_host k basics b = search (steps, keeps_table_name)

keeps_with_length : (k : Kept) → Basics k → (t : Token) (b : Bool) → Keeps k (with_length t b)
keeps_with_length k basics t false = search steps
keeps_with_length k basics t true = search (steps, keeps_expect)

keeps_address : (k : Kept) → Basics k → (t : Token) → Keeps k (address t)
unfolding address
keeps_address k basics t = keeps_then k basics _ _ (keeps_takes_symbol k basics _) (keeps_with_length k basics t)

keeps_no_range : (k : Kept) → Basics k → Keeps k no_range
unfolding no_range
keeps_no_range k basics = search steps

keeps_net_host : (k : Kept) → Basics k → (b : Bool) → Keeps k (net_host b)
unfolding net_host
keeps_net_host k basics b = search (steps, keeps_address, keeps_no_range)

keeps_other_host : (k : Kept) → Basics k → (b : Bool) → Keeps k (other_host b)
unfolding other_host
keeps_other_host k basics b = search (steps, keeps_net_host)

keeps_host : (k : Kept) → Basics k → Keeps k host
unfolding host
keeps_host k basics = search (steps, keeps_named_host, keeps_other_host)

keeps_not_any : (k : Kept) → Basics k → Keeps k not_any
unfolding not_any
keeps_not_any k basics = search steps

keeps_listed_hosts : (k : Kept) → Basics k → (inner : Reads (List Host)) → Keeps k inner → Keeps k (listed_hosts inner)
keeps_listed_hosts k basics inner same =
    keeps_then k basics not_any _ (keeps_not_any k basics) (λ _. keeps_look k basics _ (λ t. keeps_if k basics (is_symbol (codes "{") t) inner (one host) same (keeps_one k basics host (keeps_host k basics))))

keeps_hosts_in : (k : Kept) → Basics k → (n : ℕ) → Keeps k (hosts_in n)
unfolding hosts_in
keeps_hosts_in k basics zero = search steps
keeps_hosts_in k basics (suc n) =
    keeps_then k basics token _ (keeps_token k basics) (λ _. keeps_list k basics (listed_hosts (hosts_in n)) (keeps_listed_hosts k basics (hosts_in n) (keeps_hosts_in k basics n)))

keeps_hosts : (k : Kept) → Basics k → Keeps k hosts
unfolding hosts
keeps_hosts k basics = keeps_look k basics _ (λ t. keeps_if k basics (is_symbol (codes "{") t) (hosts_in LIST_LIMIT) (one host) (keeps_hosts_in k basics _) (keeps_one k basics host (keeps_host k basics)))

-- ---- what a rule tests

keeps_after_word : (k : Kept) → Basics k → {A : Type 0} → (w : Word) (read : Reads A) (x : A) → Keeps k read → Keeps k (if_word w read x)
keeps_after_word k basics w read x same = keeps_then k basics (takes_word w) _ (keeps_takes_word k basics w) (λ is. keeps_if k basics is read _ same (keeps_giving k basics x))

keeps_tested_interfaces : (k : Kept) → Basics k → Keeps k tested_interfaces
unfolding tested_interfaces
keeps_tested_interfaces k basics = search (steps, keeps_after_word, keeps_interfaces)

keeps_family : (k : Kept) → Basics k → Keeps k family
unfolding family
keeps_family k basics = search (steps, keeps_after_word)

keeps_protocols : (k : Kept) → Basics k → Keeps k protocols
unfolding protocols
keeps_protocols k basics = search (steps, keeps_after_word, keeps_all_tested)

keeps_side_hosts : (k : Kept) → Basics k → Keeps k side_hosts
unfolding side_hosts
keeps_side_hosts k basics = search (steps, keeps_hosts) depth 10

keeps_side : (k : Kept) → Basics k → Keeps k side
unfolding side
keeps_side k basics = search (steps, keeps_side_hosts, keeps_after_word, keeps_all_tested) depth 10

keeps_sides : (k : Kept) → Basics k → Keeps k sides
unfolding sides
keeps_sides k basics = search (steps, keeps_after_word, keeps_side) depth 10

keeps_tests : (k : Kept) → Basics k → Keeps k tests
unfolding tests
keeps_tests k basics = search (steps, keeps_tested_interfaces, keeps_family, keeps_protocols, keeps_sides)

-- ---- options

keeps_once : (k : Kept) → Basics k → (b : Bool) (p : Place) (m : Mistake) → Keeps k (once b p m)
keeps_once k basics b p m = search steps

keeps_state_options : (k : Kept) → Basics k → Keeps k state_options
unfolding state_options
keeps_state_options k basics = search steps

keeps_kept : (k : Kept) → Basics k → (start : Start) (t : Token) → Keeps k (kept start t)
unfolding kept
keeps_kept k basics start t = search (steps, keeps_state_options) depth 10

keeps_state : (k : Kept) → Basics k → (start : Start) (before : Options) → Keeps k (state start before)
unfolding state
keeps_state k basics start before = search (steps, keeps_once, keeps_kept) depth 10

keeps_label_of : (k : Kept) → Basics k → (start : Start) (p : Place) (t : Token) → Keeps k (label_of start p t)
unfolding label_of
keeps_label_of k basics start p t = search steps

keeps_label : (k : Kept) → Basics k → (start : Start) (before : Options) → Keeps k (label start before)
unfolding label
keeps_label k basics start before = search (steps, keeps_once, keeps_label_of)

keeps_letters : (k : Kept) → Basics k → Keeps k letters
unfolding letters
keeps_letters k basics = search steps

keeps_flags_of : (k : Kept) → Basics k → (p : Place) (ts : Tests) (set of : Word) → Keeps k (flags_of p ts set of)
unfolding flags_of
keeps_flags_of k basics p ts set of = search steps

keeps_set_flags : (k : Kept) → Basics k → Keeps k set_flags
unfolding set_flags
keeps_set_flags k basics = search (steps, keeps_letters)

keeps_written_flags : (k : Kept) → Basics k → (p : Place) (ts : Tests) → Keeps k (written_flags p ts)
unfolding written_flags
keeps_written_flags k basics p ts = search (steps, keeps_set_flags, keeps_letters, keeps_flags_of)

keeps_flags : (k : Kept) → Basics k → (ts : Tests) (before : Options) → Keeps k (flags ts before)
unfolding flags
keeps_flags k basics ts before = search (steps, keeps_once, keeps_written_flags) depth 10

keeps_skip_string : (k : Kept) → Basics k → Keeps k skip_string
unfolding skip_string
keeps_skip_string k basics = search steps

keeps_queue_name : (k : Kept) → Basics k → Keeps k queue_name
unfolding queue_name
keeps_queue_name k basics = search (steps, keeps_skip_string)

keeps_queue : (k : Kept) → Basics k → Keeps k queue
unfolding queue
keeps_queue k basics = search (steps, keeps_leave_out_next, keeps_queue_name)

keeps_tag : (k : Kept) → Basics k → Keeps k tag
unfolding tag
keeps_tag k basics = search (steps, keeps_leave_out_next, keeps_skip_string)

keeps_named_priority : (k : Kept) → Basics k → Keeps k named_priority
unfolding named_priority
keeps_named_priority k basics = search steps

keeps_priority_value : (k : Kept) → Basics k → Keeps k priority_value
unfolding priority_value
keeps_priority_value k basics = search steps

keeps_priority : (k : Kept) → Basics k → Keeps k priority
unfolding priority
keeps_priority k basics = search (steps, keeps_named_priority, keeps_priority_value)

keeps_unexpected_option : (k : Kept) → Basics k → Keeps k unexpected_option
unfolding unexpected_option
keeps_unexpected_option k basics = search steps

keeps_left_out_option : (k : Kept) → Basics k → Keeps k left_out_option
unfolding left_out_option
keeps_left_out_option k basics = search (steps, keeps_leave_out_next, keeps_queue, keeps_tag, keeps_priority, keeps_unexpected_option) depth 10

keeps_option : (k : Kept) → Basics k → (start : Start) (ts : Tests) (before : Options) → Keeps k (option start ts before)
unfolding option
keeps_option k basics start ts before = search (steps, keeps_state, keeps_label, keeps_flags, keeps_left_out_option) depth 10

keeps_options_more : (k : Kept) → Basics k → (start : Start) (ts : Tests) (before : Options) → Keeps k (options_more start ts before)
keeps_options_more k basics start ts before = search (steps, keeps_option)

keeps_said : (k : Kept) → Basics k → (start : Start) (ts : Tests) → Keeps k (said start ts)
unfolding said
keeps_said k basics start ts = keeps_repeated k basics (options_more start ts) _ (keeps_options_more k basics start ts)

keeps_closing : (k : Kept) → Basics k → (start : Start) (ts : Tests) → Keeps k (closing start ts)
unfolding closing
keeps_closing k basics start ts = search (steps, keeps_said)

keeps_tests_and_options : (k : Kept) → Basics k → (start : Start) → Keeps k (tests_and_options start)
unfolding tests_and_options
keeps_tests_and_options k basics start = search (steps, keeps_tests, keeps_closing)

-- ---- how rules begin

keeps_skip_drop : (k : Kept) → Basics k → Keeps k skip_drop
unfolding skip_drop
keeps_skip_drop k basics = search steps

keeps_block_policy : (k : Kept) → Basics k → Keeps k block_policy
unfolding block_policy
keeps_block_policy k basics = search (steps, keeps_leave_out_next, keeps_skip_drop) depth 10

keeps_direction : (k : Kept) → Basics k → Keeps k direction
unfolding direction
keeps_direction k basics = search steps

keeps_log : (k : Kept) → Basics k → Keeps k log
unfolding log
keeps_log k basics = search (steps, keeps_leave_out_next)

keeps_log_and_quick : (k : Kept) → Basics k → Keeps k log_and_quick
unfolding log_and_quick
keeps_log_and_quick k basics = search (steps, keeps_log)

-- ---- anchors

keeps_quoted_path : (k : Kept) → Basics k → Keeps k quoted_path
unfolding quoted_path
keeps_quoted_path k basics = search steps

keeps_anchor_name : (k : Kept) → Basics k → (named : Named) → Keeps k (anchor_name named)
unfolding anchor_name
keeps_anchor_name k basics named = search (steps, keeps_quoted_path) depth 10

keeps_own_name : (k : Kept) → Basics k → Keeps k own_name
unfolding own_name
keeps_own_name k basics = search (steps, keeps_anchor_name)

keeps_name_alone : (k : Kept) → Basics k → (p : Place) (name : Option Token) → Keeps k (name_alone p name)
unfolding name_alone
keeps_name_alone k basics p None = search steps
keeps_name_alone k basics p (Some t) = search steps

keeps_newline_after_brace : (k : Kept) → Basics k → Keeps k newline_after_brace
unfolding newline_after_brace
keeps_newline_after_brace k basics = search steps

keeps_enter : (k : Kept) → Basics k → (p : Place) (depth : ℕ) (name : Word) → Keeps k (enter p depth name)
keeps_enter k basics p depth name = basics.entered p depth name

keeps_open_braces : (k : Kept) → Basics k → (p : Place) (depth : ℕ) (name : Option Token) → Keeps k (open_braces p depth name)
unfolding open_braces
keeps_open_braces k basics p depth name = search (steps, keeps_newline_after_brace, keeps_enter)

keeps_braces_or_line : (k : Kept) → Basics k → (p : Place) (depth : ℕ) (name : Option Token) → Keeps k (braces_or_line p depth name)
unfolding braces_or_line
keeps_braces_or_line k basics p depth name = search (steps, keeps_open_braces, keeps_name_alone)

keeps_shallow : (k : Kept) → Basics k → (p : Place) → Keeps k (shallow p)
keeps_shallow k basics p = basics.depth_known p

keeps_keep_rule : (k : Kept) → Basics k → (within : ℕ) (p : Product) → k.Begins p.place → Keeps k (keep_rule within p)
keeps_keep_rule k basics within p begins = basics.rule_kept within p begins

keeps_named_anchor : (k : Kept) → Basics k → (p : Place) (depth : ℕ) (name : Option Token) → k.Begins p → Keeps k (named_anchor p depth name)
unfolding named_anchor
keeps_named_anchor k basics p depth name begins =
    search (steps, keeps_direction, keeps_tests_and_options, keeps_braces_or_line, keeps_keep_rule) depth 12

keeps_anchor_after : (k : Kept) → Basics k → (t : Token) → k.Begins t.place → Keeps k (shallow t.place >=> λ depth. own_name >=> named_anchor t.place depth)
keeps_anchor_after k basics t begins =
    keeps_then k basics _ _ (keeps_shallow k basics t.place) (λ depth. keeps_then k basics own_name _ (keeps_own_name k basics) (λ name. keeps_named_anchor k basics t.place depth name begins))

keeps_anchor : (k : Kept) → Basics k → KeepsBegun k anchor
unfolding anchor
keeps_anchor k basics = keeps_begun k basics _ (keeps_anchor_after k basics)

keeps_leave_braces : (k : Kept) → Basics k → Keeps k leave_braces
keeps_leave_braces k basics = basics.braces_left

keeps_close_braces : (k : Kept) → Basics k → Keeps k close_braces
unfolding close_braces
keeps_close_braces k basics = search (steps, keeps_leave_braces)

-- ---- lines

keeps_rule_of : (k : Kept) → Basics k → (start : Start) (first : Word) (p : Place) → k.Begins p → Keeps k (rule_of start first p)
unfolding rule_of
keeps_rule_of k basics start first p begins =
    search (steps, keeps_direction, keeps_log_and_quick, keeps_tests_and_options, keeps_keep_rule) depth 12

keeps_rule_after : (k : Kept) → Basics k → (t : Token) → k.Begins t.place → Keeps k (cond (is_word (codes "block") t) (block_policy >=> λ _. rule_of Block (codes "block") t.place) (rule_of Pass (codes "pass") t.place))
keeps_rule_after k basics t begins =
    keeps_if k basics (is_word (codes "block") t) _ _
    (keeps_then k basics block_policy _ (keeps_block_policy k basics) (λ _. keeps_rule_of k basics Block (codes "block") t.place begins))
    (keeps_rule_of k basics Pass (codes "pass") t.place begins)

keeps_rule : (k : Kept) → Basics k → KeepsBegun k rule
unfolding rule
keeps_rule k basics = keeps_begun k basics _ (keeps_rule_after k basics)

keeps_listed : (k : Kept) → Basics k → Keeps k listed
unfolding listed
keeps_listed k basics = search (steps, keeps_hosts_in) depth 10

keeps_table_part : (k : Kept) → Basics k → Keeps k table_part
unfolding table_part
keeps_table_part k basics = search (steps, keeps_leave_out_next, keeps_listed) depth 10

keeps_parts_more : (k : Kept) → Basics k → (before : List Entries) → Keeps k (parts_more before)
keeps_parts_more k basics before = search (steps, keeps_table_part)

keeps_table_parts : (k : Kept) → Basics k → Keeps k table_parts
unfolding table_parts
keeps_table_parts k basics = keeps_repeated k basics parts_more [] (keeps_parts_more k basics)

keeps_keep_table : (k : Kept) → Basics k → (t : Table) → Keeps k (keep_table t)
keeps_keep_table k basics t = basics.table_kept t

keeps_name_in_angles : (k : Kept) → Basics k → Keeps k name_in_angles
unfolding name_in_angles
keeps_name_in_angles k basics = search (steps, keeps_table_name)

keeps_table : (k : Kept) → Basics k → Keeps k table
unfolding table
keeps_table k basics = search (steps, keeps_name_in_angles, keeps_table_parts, keeps_keep_table)

keeps_keep_load : (k : Kept) → Basics k → (l : Load) → Keeps k (keep_load l)
keeps_keep_load k basics l = basics.load_kept l

keeps_loaded_path : (k : Kept) → Basics k → Keeps k loaded_path
unfolding loaded_path
keeps_loaded_path k basics = search (steps, keeps_anchor_name)

keeps_loaded_file : (k : Kept) → Basics k → Keeps k loaded_file
unfolding loaded_file
keeps_loaded_file k basics = search steps

keeps_load : (k : Kept) → Basics k → Keeps k load
unfolding load
keeps_load k basics = search (steps, keeps_loaded_path, keeps_loaded_file, keeps_keep_load)

keeps_keep_skip : (k : Kept) → Basics k → (p : Product) → Keeps k (keep_skip p)
keeps_keep_skip k basics p = basics.skip_kept p

keeps_skip_one : (k : Kept) → Basics k → (t : Token) → Keeps k (skip_one t)
unfolding skip_one
keeps_skip_one k basics t = search (steps, keeps_keep_skip)

keeps_skip_each : (k : Kept) → Basics k → (ts : List Token) → Keeps k (skip_each ts)
unfolding skip_each
keeps_skip_each k basics [] = keeps_giving k basics tt
keeps_skip_each k basics (t ∷ ts) = keeps_then k basics (skip_one t) _ (keeps_skip_one k basics t) (λ _. keeps_skip_each k basics ts)

keeps_in_main : (k : Kept) → Basics k → (t : Token) → Keeps k (in_main t)
keeps_in_main k basics t = basics.main_known t

keeps_skip : (k : Kept) → Basics k → (t : Token) → Keeps k (skip t)
unfolding skip
keeps_skip k basics t = search (steps, keeps_in_main, keeps_interfaces, keeps_skip_each)

keeps_order_matters : (k : Kept) → Basics k → (b : Bool) → Keeps k (order_matters b)
keeps_order_matters k basics b = basics.order_set b

keeps_set_order : (k : Kept) → Basics k → (b : Bool) → Keeps k (set_order b)
unfolding set_order
keeps_set_order k basics b = search (steps, keeps_order_matters)

keeps_require_order : (k : Kept) → Basics k → Keeps k require_order
unfolding require_order
keeps_require_order k basics = search (steps, keeps_set_order) depth 10

keeps_set_option : (k : Kept) → Basics k → (t : Token) → Keeps k (set_option t)
unfolding set_option
keeps_set_option k basics t = search (steps, keeps_skip, keeps_require_order) depth 10

keeps_setting : (k : Kept) → Basics k → Keeps k setting
unfolding setting
keeps_setting k basics = keeps_expect k basics is_setting

keeps_set_line : (k : Kept) → Basics k → Keeps k set_line
unfolding set_line
keeps_set_line k basics = search (steps, keeps_setting, keeps_set_option) depth 10

keeps_left_out_line : (k : Kept) → Basics k → Keeps k left_out_line
unfolding left_out_line
keeps_left_out_line k basics = search steps

keeps_no_line : (k : Kept) → Basics k → Keeps k no_line
unfolding no_line
keeps_no_line k basics = search (steps, keeps_left_out_line) depth 10

start_keeps : (k : Kept) → Basics k → (is_pass is_anchor : Bool) (s : State) → k.Holds s → is_rule (next s) ≡ is_pass → is_word (codes "anchor") (next s) ≡ is_anchor → Follows k (cond is_pass rule (cond is_anchor anchor unexpected) s) (cond is_pass rule (cond is_anchor anchor unexpected) (k.other s))
start_keeps k basics true is_anchor s holds pass other =
    (keeps_rule k basics).follows s holds (basics.begins s holds (ap (λ (b : Bool). b || is_word (codes "anchor") (next s)) pass))
start_keeps k basics false true s holds pass is =
    (keeps_anchor k basics).follows s holds (basics.begins s holds (ap (λ (b : Bool). b || is_word (codes "anchor") (next s)) pass ∙ is))
start_keeps k basics false false s holds pass other = tt

keeps_rule_or_anchor : (k : Kept) → Basics k → Keeps k rule_or_anchor
unfolding rule_or_anchor
keeps_rule_or_anchor k basics =
    record { follows = λ s holds. rw (basics.looks s) (start_keeps k basics (is_rule (next s)) (is_word (codes "anchor") (next s)) s holds refl refl) }

keeps_filtering : (k : Kept) → Basics k → Keeps k filtering
unfolding filtering
keeps_filtering k basics = search steps

keeps_line : (k : Kept) → Basics k → Keeps k line
unfolding line
keeps_line k basics = search (steps, keeps_set_line, keeps_left_out_line, keeps_no_line, keeps_table, keeps_load, keeps_filtering, keeps_rule_or_anchor) depth 10

keeps_line_in_braces : (k : Kept) → Basics k → Keeps k line_in_braces
unfolding line_in_braces
keeps_line_in_braces k basics = search (steps, keeps_close_braces, keeps_rule_or_anchor)

keeps_any_line : (k : Kept) → Basics k → Keeps k any_line
unfolding any_line
keeps_any_line k basics = search (steps, keeps_line, keeps_line_in_braces) depth 10

keeps_all_closed : (k : Kept) → Basics k → Keeps k all_closed
unfolding all_closed
keeps_all_closed k basics = search steps

keeps_line_more : (k : Kept) → Basics k → Keeps k line_more
keeps_line_more k basics = search (steps, keeps_any_line)

keeps_lines_more : (k : Kept) → Basics k → (done : Unit {0}) → Keeps k (lines_more done)
keeps_lines_more k basics done = keeps_then k basics line_more _ (keeps_line_more k basics) (λ more. keeps_giving k basics _)

pub keeps_lines : (k : Kept) → Basics k → Keeps k lines
unfolding lines
keeps_lines k basics = keeps_then k basics (repeated lines_more tt) _ (keeps_repeated k basics lines_more tt (keeps_lines_more k basics)) (λ _. keeps_all_closed k basics)
