-- Each turn that goes on takes a token.
use Rattle.std.proofs.Common.{◌≡◌, ℕ, zero, suc, ◌+◌, ◌-◌, ◌<◌, ◌≤◌, ◌==◌, ◌&&◌, ◌||◌, not, cond, Bool, true, false, List, [], ◌∷◌, ◌++◌, length, codes, Option, Some, None, Result, Ok, Err, refl, ap, ◌∙◌, subst, arith}
use Rattle.std.specs.Option.{option_to_list}
use Rattle.pf_form.specs.Form.Forms.{◌>>=◌}
use Rattle.pf_tokens.specs.declared.{place.Place.Place, token.Token.Token, token.Kind.Kind}
use Rattle.pf_tokens.specs.declared.token.Kind.TheVariants as kinds
use Rattle.pf_tokens.specs.{Words.{same_kind, is_word, is_symbol, is_newline, is_number, is_string}, Places.text_of}
use Rattle.pf_tokens.proofs.MacroFree.{or-false_left}
use Rattle.pf_lists.specs.declared.hosts.Host.{Host}
use Rattle.pf_parse.specs.declared.{fault.LeftOut.LeftOut, fault.Mistake.Mistake, fault.Stop.Stop, parser.Mode.Mode, parser.Mode.TheVariants.{Strict, Lenient}, tree.Entries.Entries, tree.Entries.TheVariants.{Listed, File}, tree.Product.Product}
use Rattle.pf_parse.specs.declared.fault.Reason.TheVariants.{InterfaceAddress}
use Rattle.pf_parse.specs.declared.fault.LeftOut.TheVariants as left_out
use Rattle.pf_parse.specs.declared.fault.Mistake.TheVariants as mistakes
use Rattle.pf_parse.specs.States.{State}
use Rattle.pf_parse.specs.Reading.{Word, Reads, giving, ◌>=>◌, refusing, looking, first_or, newline_at, rest_of, next, second, after_token, is_at_end, token, unexpected, refused_at, expect, string, value, end_line, is_empty_list, without_newlines, newlines, note, leave_out, leave_out_in, leave_out_next, after_line, skip_line, to_parenthesis, in_order, repeating}
use Rattle.pf_parse.specs.Lists.{looking_at, begin_list, list_goes_on, item_more, list, one, no_list, listed_item, table_name, not_negated, interface, protocol, operator, compared, ranged, port_by, port, named_host, net_host, other_host, host, not_any, listed_hosts, hosts_in, host_list}
use Rattle.pf_parse.specs.Options.{is_anchor, state, label, flags, queue, tag, priority, unexpected_option, left_out_option, option, is_state, ends_options, options_more}
use Rattle.pf_parse.specs.Openings.{block_policy}
use Rattle.pf_parse.specs.Anchors.{enter, shallow, own_name, keep_rule, named_anchor, anchor, close_braces}
use Rattle.pf_parse.specs.Lines.{is_left_out_of_table, is_rule, rule_of, keep_table, keep_load, keep_skip, skip_one, skip_each, skip, order_matters, rule, listed, table_part, parts_more, table, load, set_line, is_left_out_line, left_out_line, no_line, rule_or_anchor, filtering, line, line_in_braces, any_line, lines_more}
use Rattle.pf_load.specs.Files.{Types.{Start, Tests, Options, Rank, Operator}, Turns.TurnsSuffice}
use Rattle.pf_load.proofs.Walks.{Walk, Walks, After, Basics, Rules, either_walks, steps, walks_address, walks_begin_list, walks_between, walks_block_policy, walks_braces_or_line, walks_direction, walks_end_line, walks_expect_symbol, walks_expect_word, walks_from, walks_giving, walks_if, walks_in_main, walks_interfaces, walks_keep_load, walks_keep_table, walks_kept, walks_label_of, walks_leave_braces, walks_leave_out, walks_left_out_line, walks_list_goes_on, walks_loaded_file, walks_loaded_path, walks_log_and_quick, walks_look, walks_name_in_angles, walks_named_priority, walks_newlines, walks_no_list, walks_no_range, walks_not_any, walks_not_negated, walks_noted_group, walks_once, walks_operator, walks_own_name, walks_priority_value, walks_queue_name, walks_refusing, walks_repeating, walks_set_option, walks_setting, walks_shallow, walks_skip_string, walks_string, walks_table_parts, walks_takes_symbol, walks_takes_word, walks_tests_and_options, walks_then, walks_token, walks_unexpected, walks_written_flags}

-- ---- no token is given back

abbrev shorter : Walk
shorter = record { Leads = λ s t. length t.left ≤ length s.left }

same_left : (n : ℕ) → n ≤ n
same_left n = omega arith

rest_shorter : (ts : List Token) → length (rest_of ts) ≤ length ts
rest_shorter [] = omega arith
rest_shorter (t ∷ ts) = omega arith

shorter_if : (b : Bool) (n : ℕ) (ts us : List Token) → length ts ≤ n → length us ≤ n → length (cond b ts us) ≤ n
shorter_if true n ts us first other = first
shorter_if false n ts us first other = other

newlines_shorter : (ts : List Token) → length (without_newlines ts) ≤ length ts
unfolding without_newlines
newlines_shorter [] = omega arith
newlines_shorter (t ∷ ts) = shorter_if (is_newline t) (length (t ∷ ts)) (without_newlines ts) (t ∷ ts) (omega (arith, newlines_shorter ts)) (same_left (length (t ∷ ts)))

line_shorter : (deep : ℕ) (ts : List Token) → length (after_line deep ts) ≤ length ts
unfolding after_line
line_shorter deep [] = omega arith
line_shorter deep (t ∷ ts) =
    let n : ℕ = length (t ∷ ts) in
    let all : length (t ∷ ts) ≤ n = same_left n in
    shorter_if (is_newline t && (deep == 0)) n _ _ all
    (shorter_if (is_symbol (codes "}") t) n _ _ (shorter_if (deep == 0) n _ _ all (omega (arith, line_shorter (deep - 1) ts)))
    (shorter_if (is_symbol (codes "{") t) n _ _ (omega (arith, line_shorter (deep + 1) ts)) (omega (arith, line_shorter deep ts))))

parenthesis_shorter : (ts : List Token) → length (to_parenthesis ts) ≤ length ts
unfolding to_parenthesis
parenthesis_shorter [] = omega arith
parenthesis_shorter (t ∷ ts) =
    shorter_if (is_newline t || is_symbol (codes ")") t) (length (t ∷ ts)) _ _ (same_left (length (t ∷ ts))) (omega (arith, parenthesis_shorter ts))

basics : Basics shorter
unfolding after_token newlines note enter keep_table keep_load order_matters
basics = record {
  stays = λ s. same_left (length s.left);
  joins = λ s t u first then. omega (arith, first, then);
  taken = λ s. rest_shorter s.left;
  newlines_taken = record { walks = λ s. newlines_shorter s.left };
  noted = λ p r. record { walks = λ s. same_left (length s.left) };
  line_passed = λ s. line_shorter 0 s.left;
  parenthesis_passed = λ s. parenthesis_shorter s.left;
  ranked = λ s r. same_left (length s.left);
  order_set = λ b. record { walks = λ s. same_left (length s.left) };
  entered = λ p depth name. record { walks = λ s. same_left (length s.left) };
  braces_left = record { walks = λ s. same_left (length s.left) };
  table_kept = λ t. record { walks = λ s. same_left (length s.left) };
  load_kept = λ l. record { walks = λ s. same_left (length s.left) };
}

rule_kept : (within : ℕ) (p : Product) → Walks shorter (keep_rule within p)
unfolding keep_rule
rule_kept within p = record { walks = λ s. same_left (length s.left) }

skip_kept : (p : Product) → Walks shorter (keep_skip p)
unfolding keep_skip
skip_kept p = record { walks = λ s. same_left (length s.left) }

rule_of_shorter : (start : Start) (first : Word) (p : Place) → Walks shorter (rule_of start first p)
unfolding rule_of
rule_of_shorter start first p = search (steps, basics, walks_direction, walks_log_and_quick, walks_tests_and_options, rule_kept) depth 12

named_anchor_shorter : (p : Place) (depth : ℕ) (name : Option Token) → Walks shorter (named_anchor p depth name)
unfolding named_anchor
named_anchor_shorter p depth name = search (steps, basics, walks_direction, walks_tests_and_options, walks_braces_or_line, rule_kept) depth 12

on : {A B : Type 0} → (read : Reads A) (then : A → Reads B) → Walks shorter read → ((x : A) → Walks shorter (then x)) → Walks shorter (read >=> then)
on read then first all = walks_then shorter basics read then first all

gives : {A : Type 0} → (x : A) → Walks shorter (giving x)
gives x = walks_giving shorter basics x

rule_shorter : Walks shorter rule
unfolding rule
rule_shorter = on token _ (walks_token shorter basics) (λ t. walks_if shorter basics (is_word (codes "block") t) _ _
    (on block_policy _ (walks_block_policy shorter basics) (λ _. rule_of_shorter _ _ t.place)) (rule_of_shorter _ _ t.place))

after_anchor : (t : Token) → Walks shorter (shallow t.place >=> λ depth. own_name >=> named_anchor t.place depth)
after_anchor t = on _ _ (walks_shallow shorter basics t.place) (λ depth. on own_name _ (walks_own_name shorter basics) (named_anchor_shorter t.place depth))

anchor_shorter : Walks shorter anchor
unfolding anchor
anchor_shorter = on token _ (walks_token shorter basics) after_anchor

skip_one_shorter : (t : Token) → Walks shorter (skip_one t)
unfolding skip_one
skip_one_shorter t = search (steps, basics, skip_kept)

skip_each_shorter : (ts : List Token) → Walks shorter (skip_each ts)
unfolding skip_each
skip_each_shorter [] = gives tt
skip_each_shorter (t ∷ ts) = on (skip_one t) _ (skip_one_shorter t) (λ _. skip_each_shorter ts)

skip_shorter : (t : Token) → Walks shorter (skip t)
unfolding skip
skip_shorter t = search (steps, basics, walks_in_main, walks_interfaces, skip_each_shorter) depth 10

rules : Rules shorter
rules = record { rules_read = either_walks shorter basics rule_shorter anchor_shorter; skip_read = skip_shorter }

-- ---- a token is taken

-- fewer than so many tokens are left, unless reading stops
abbrev Fewer : {A : Type 0} → ℕ → Result (A × State) Stop → Type 0
Fewer n (Ok (x, t)) = length t.left < n
Fewer n (Err e) = Unit {0}

-- Reading takes a token.
record Eats {A : Type 0} (read : Reads A) : Type 0 where
  eats : (s : State) → Fewer (length s.left) (read s)

-- The same, if the next token passes.
record Takes {A : Type 0} (test : Token → Bool) (read : Reads A) : Type 0 where
  takes : (s : State) → test (next s) ≡ true → Fewer (length s.left) (read s)

-- Reading takes no token, and leaves the next one the next one.
abbrev Same : {A : Type 0} → State → Result (A × State) Stop → Type 0
Same s (Ok (x, t)) = (t.left ≡ s.left) × (next t ≡ next s)
Same s (Err e) = Unit {0}

record Still {A : Type 0} (read : Reads A) : Type 0 where
  still : (s : State) → Same s (read s)

-- ---- one reader behind another

fewer_on : {A : Type 0} → (m : ℕ) (s : State) (r : Result (A × State) Stop) → length s.left < m → After shorter s r → Fewer m r
fewer_on m s (Ok (x, t)) less is = omega (arith, less, is)
fewer_on m s (Err e) less is = tt

fewer_of : {A : Type 0} → (n m : ℕ) (r : Result (A × State) Stop) → n ≤ m → Fewer n r → Fewer m r
fewer_of n m (Ok (x, t)) less is = omega (arith, less, is)
fewer_of n m (Err e) less is = tt

shorter_of : {A : Type 0} → (s : State) (r : Result (A × State) Stop) → Fewer (length s.left) r → After shorter s r
shorter_of s (Ok (x, t)) is = omega (arith, is)
shorter_of s (Err e) is = tt

first_fewer : {A B : Type 0} → (n : ℕ) (r : Result (A × State) Stop) (then : A → Reads B) → Fewer n r → ((x : A) → Walks shorter (then x)) → Fewer n (r >>= λ (x, t). then x t)
first_fewer n (Ok (x, t)) then is all = fewer_on n t (then x t) is ((all x).walks t)
first_fewer n (Err e) then is all = tt

then_fewer : {A B : Type 0} → (s : State) (r : Result (A × State) Stop) (then : A → Reads B) → After shorter s r → ((x : A) → Eats (then x)) → Fewer (length s.left) (r >>= λ (x, t). then x t)
then_fewer s (Ok (x, t)) then is all = fewer_of (length t.left) (length s.left) (then x t) is ((all x).eats t)
then_fewer s (Err e) then is all = tt

still_fewer : {A B : Type 0} → (test : Token → Bool) (s : State) (r : Result (A × State) Stop) (then : A → Reads B) → test (next s) ≡ true → Same s r → ((x : A) → Takes test (then x)) → Fewer (length s.left) (r >>= λ (x, t). then x t)
still_fewer test s (Ok (x, t)) then passes same all =
    let few : Fewer (length t.left) (then x t) = (all x).takes t (ap test same.1 ∙ passes) in
    subst (λ (ts : List Token). Fewer (length ts) (then x t)) same.0 few
still_fewer test s (Err e) then passes same all = tt

eats_then : {A B : Type 0} → (read : Reads A) (then : A → Reads B) → Eats read → ((x : A) → Walks shorter (then x)) → Eats (read >=> then)
eats_then read then first all = record { eats = λ s. first_fewer (length s.left) (read s) then (first.eats s) all }

then_eats : {A B : Type 0} → (read : Reads A) (then : A → Reads B) → Walks shorter read → ((x : A) → Eats (then x)) → Eats (read >=> then)
then_eats read then first all = record { eats = λ s. then_fewer s (read s) then (first.walks s) all }

walks_of : {A : Type 0} → (read : Reads A) → Eats read → Walks shorter read
walks_of read all = record { walks = λ s. shorter_of s (read s) (all.eats s) }

takes_then : {A B : Type 0} → (test : Token → Bool) (read : Reads A) (then : A → Reads B) → Takes test read → ((x : A) → Walks shorter (then x)) → Takes test (read >=> then)
takes_then test read then first all = record { takes = λ s passes. first_fewer (length s.left) (read s) then (first.takes s passes) all }

still_takes : {A B : Type 0} → (test : Token → Bool) (read : Reads A) (then : A → Reads B) → Still read → ((x : A) → Takes test (then x)) → Takes test (read >=> then)
still_takes test read then first all = record { takes = λ s passes. still_fewer test s (read s) then passes (first.still s) all }

takes_of : {A : Type 0} → (test : Token → Bool) (read : Reads A) → Eats read → Takes test read
takes_of test read all = record { takes = λ s passes. all.eats s }

-- ---- choices

eats_if : {A : Type 0} → (b : Bool) (r q : Reads A) → Eats r → Eats q → Eats (cond b r q)
eats_if true r q first other = first
eats_if false r q first other = other

takes_if : {A : Type 0} → (test : Token → Bool) (b : Bool) (r q : Reads A) → Takes test r → Takes test q → Takes test (cond b r q)
takes_if test true r q first other = first
takes_if test false r q first other = other

still_if : {A : Type 0} → (b : Bool) (r q : Reads A) → Still r → Still q → Still (cond b r q)
still_if true r q first other = first
still_if false r q first other = other

eats_look : {B : Type 0} → (then : Token → Reads B) → ((t : Token) → Eats (then t)) → Eats (looking_at >=> then)
eats_look then all = record { eats = λ s. (all (next s)).eats s }

takes_look : {B : Type 0} → (test : Token → Bool) (then : Token → Reads B) → ((t : Token) → Takes test (then t)) → Takes test (looking_at >=> then)
takes_look test then all = record { takes = λ s passes. (all (next s)).takes s passes }

still_look : {B : Type 0} → (then : Token → Reads B) → ((t : Token) → Still (then t)) → Still (looking_at >=> then)
still_look then all = record { still = λ s. (all (next s)).still s }

eats_refusing : {A : Type 0} → (p : Place) (m : Mistake) → Eats (refusing {A = A} p m)
eats_refusing p m = record { eats = λ s. tt }

eats_fault : {A : Type 0} → (e : State → Stop) → Eats {A = A} (λ s. Err (e s))
eats_fault e = record { eats = λ s. tt }

eats_unexpected : {A : Type 0} → Eats (unexpected {A = A})
eats_unexpected = record { eats = λ s. tt }

still_giving : {A : Type 0} → (x : A) → Still (giving x)
still_giving x = record { still = λ s. (refl, refl) }

-- ---- tokens

-- a token that isn't the newline behind all tokens is one of those that are left
fewer_after : (test : Token → Bool) (p : Place) (ts : List Token) → test (newline_at p) ≡ false → test (first_or (newline_at p) ts) ≡ true → length (rest_of ts) < length ts
fewer_after test p [] none passes = cc (none, passes)
fewer_after test p (t ∷ ts) none passes = omega arith

one_taken : (test : Token → Bool) (s : State) → test (newline_at s.end_place) ≡ false → test (next s) ≡ true → length (after_token s).left < length s.left
unfolding next after_token
one_taken test s none passes = fewer_after test s.end_place s.left none passes

expected : (test : Token → Bool) (s : State) (b : Bool) → test (newline_at s.end_place) ≡ false → test (next s) ≡ b → Fewer {A = Token} (length s.left) (cond b (token s) (unexpected s))
unfolding token
expected test s true none is = one_taken test s none is
expected test s false none is = tt

eats_expect : (test : Token → Bool) → ((p : Place) → test (newline_at p) ≡ false) → Eats (expect test)
eats_expect test none = record { eats = λ s. expected test s (test (next s)) (none s.end_place) refl }

eats_string : Eats string
unfolding string
eats_string = eats_expect is_string (λ p. refl)

eats_value : Eats value
unfolding value
eats_value = eats_expect (λ t. is_string t || is_number t) (λ p. refl)

-- the line goes on
abbrev goes_on : Token → Bool
goes_on t = not (is_newline t)

takes_token : Takes goes_on token
unfolding token
takes_token = record { takes = λ s passes. one_taken goes_on s refl passes }

takes_first : {B : Type 0} → (then : Token → Reads B) → ((t : Token) → Walks shorter (then t)) → Takes goes_on (token >=> then)
takes_first then all = takes_then goes_on token then takes_token all

takes_leave_out_next : Takes goes_on leave_out_next
unfolding leave_out_next
takes_leave_out_next = takes_first _ (λ t. walks_leave_out shorter basics t.place _)

-- ---- again and again

eats_repeating : {A : Type 0} → (again : A → Reads (A × Bool)) → ((x : A) → Eats (again x)) → (n : ℕ) (x : A) → Eats (repeating again n x)
unfolding repeating
eats_repeating again all zero x = eats_unexpected
eats_repeating again all (suc n) x =
    eats_then (again x) _ (all x) (λ y. walks_if shorter basics y.1 _ _ (walks_repeating shorter basics again (λ z. walks_of (again z) (all z)) n y.0) (walks_giving shorter basics y.0))

-- if a turn goes on, it takes a token
abbrev Progress : {A : Type 0} → (A → Reads (A × Bool)) → Type 0
Progress {A} again = (x : A) (s : State) (y : A) (t : State) → again x s ≡ Ok ((y, true), t) → length t.left < length s.left

same_after : {A : Type 0} → (again : A → Reads (A × Bool)) (n m : ℕ) (r : Result ((A × Bool) × State) Stop) → ((y : A) (t : State) → r ≡ Ok ((y, true), t) → repeating again n y t ≡ repeating again m y t)
    → (r >>= λ (z, t). cond z.1 (repeating again n z.0) (giving z.0) t) ≡ (r >>= λ (z, t). cond z.1 (repeating again m z.0) (giving z.0) t)
same_after again n m (Ok ((y, true), t)) same = same y t refl
same_after again n m (Ok ((y, false), t)) same = refl
same_after again n m (Err e) same = refl

same_turns : {A : Type 0} → (again : A → Reads (A × Bool)) → Progress again → (n m : ℕ) (x : A) (s : State) → length s.left < n → length s.left < m → repeating again n x s ≡ repeating again m x s
unfolding repeating
same_turns again less zero m x s few other = absurd (omega (arith, few))
same_turns again less (suc n) zero x s few other = absurd (omega (arith, other))
same_turns again less (suc n) (suc m) x s few other =
    same_after again n m (again x s) (λ y t is. let step : length t.left < length s.left = less x s y t is in same_turns again less n m y t (omega (arith, step, few)) (omega (arith, step, other)))

suffice : {A : Type 0} → (again : A → Reads (A × Bool)) → Progress again → TurnsSuffice again
suffice again less x s turns few = same_turns again less turns (length s.left + 1) x s few (omega arith)

eats_progress : {A : Type 0} → (again : A → Reads (A × Bool)) → ((x : A) → Eats (again x)) → Progress again
eats_progress {A} again all x s y t is = subst (λ (r : Result ((A × Bool) × State) Stop). Fewer (length s.left) r) is ((all x).eats s)

-- ---- lists

eats_item_more : {A : Type 0} → (item : Reads (List A)) (xs : List A) → Eats item → Eats (item_more item xs)
eats_item_more item xs all = eats_then item _ all (λ ys. walks_then shorter basics list_goes_on _ (walks_list_goes_on shorter basics) (λ more. walks_giving shorter basics _))

eats_list : {A : Type 0} → (item : Reads (List A)) → Eats item → Eats (list item)
eats_list item all =
    then_eats begin_list _ (walks_begin_list shorter basics) (λ _. record { eats = λ s. (eats_repeating (item_more item) (λ xs. eats_item_more item xs all) (length s.left + 1) []).eats s })

eats_one : {A : Type 0} → (item : Reads A) → Eats item → Eats (one item)
eats_one item all = eats_then item _ all (λ x. walks_giving shorter basics _)

eats_listed_item : {A : Type 0} → (item : Reads A) → Eats item → Eats (listed_item item)
eats_listed_item item all = then_eats no_list _ (walks_no_list shorter basics) (λ _. eats_one item all)

eats_table_name : Eats table_name
unfolding table_name
eats_table_name = eats_then string _ eats_string (λ t. on _ _ (walks_from shorter basics _) (λ _. gives t))

eats_interface : Eats interface
unfolding interface
eats_interface = then_eats not_negated _ (walks_not_negated shorter basics) (λ _. eats_then string _ eats_string (λ t. on _ _ (walks_from shorter basics _) (λ _. on _ _ (walks_noted_group shorter basics t) (λ _. gives t))))

eats_protocol : Eats protocol
unfolding protocol
eats_protocol = eats_then value _ eats_value (λ t. walks_from shorter basics _)

eats_compared : (o : Operator) → Eats (compared o)
unfolding compared
eats_compared o = eats_then value _ eats_value (λ t. walks_from shorter basics _)

eats_ranged : Eats ranged
unfolding ranged
eats_ranged = eats_then value _ eats_value (λ t. on _ _ (walks_takes_symbol shorter basics _)
    (λ within. walks_if shorter basics within _ _ (walks_between shorter basics t _)
    (on _ _ (walks_takes_symbol shorter basics _) (λ without. walks_if shorter basics without _ _ (walks_between shorter basics t _) (walks_from shorter basics _)))))

eats_port_by : (o : Option Operator) → Eats (port_by o)
eats_port_by (Some o) = eats_compared o
eats_port_by None = eats_ranged

eats_port : Eats port
unfolding port
eats_port = then_eats operator _ (walks_operator shorter basics) eats_port_by

eats_named_host : (b : Bool) → Eats (named_host b)
unfolding named_host
eats_named_host b = eats_then table_name _ eats_table_name (λ t. on _ _ (walks_expect_symbol shorter basics _) (λ _. gives _))

eats_net_host : (b : Bool) → Eats (net_host b)
unfolding net_host
eats_net_host b = eats_then value _ eats_value (λ t. on _ _ (walks_address shorter basics t)
    (λ text. on _ _ (walks_no_range shorter basics) (λ _. on _ _ (walks_from shorter basics _) (λ n. gives _))))

eats_other_host : (b : Bool) → Eats (other_host b)
unfolding other_host
eats_other_host b = eats_look _ (λ t. eats_if (is_symbol (codes "(") t) _ _ (eats_fault (λ s. refused_at InterfaceAddress t)) (eats_if (is_word (codes "self") t) _ _ eats_unexpected (eats_net_host b)))

eats_host : Eats host
unfolding host
eats_host =
    then_eats _ _ (walks_takes_symbol shorter basics _) (λ negated. then_eats _ _ (walks_takes_symbol shorter basics _) (λ is_table. eats_if is_table _ _ (eats_named_host negated) (eats_other_host negated)))

eats_listed_hosts : (inner : Reads (List Host)) → Eats inner → Eats (listed_hosts inner)
eats_listed_hosts inner all = then_eats not_any _ (walks_not_any shorter basics) (λ _. eats_look _ (λ t. eats_if (is_symbol (codes "{") t) _ _ all (eats_one host eats_host)))

eats_hosts_in : (n : ℕ) → Eats (hosts_in n)
unfolding hosts_in
eats_hosts_in zero = eats_look _ (λ t. eats_refusing t.place mistakes.DeepList)
eats_hosts_in (suc n) = then_eats token _ (walks_token shorter basics) (λ _. eats_list (listed_hosts (hosts_in n)) (eats_listed_hosts (hosts_in n) (eats_hosts_in n)))

-- ---- options

takes_state : (start : Start) (said : Options) → Takes goes_on (state start said)
unfolding state
takes_state start said = takes_first _ (λ t. walks_if shorter basics (is_anchor start) _ _ (walks_refusing shorter basics t.place _)
    (on _ _ (walks_once shorter basics _ t.place _) (λ _. on _ _ (walks_expect_word shorter basics _) (λ _. on _ _ (walks_kept shorter basics start t) (λ keeps. gives _)))))

takes_label : (start : Start) (said : Options) → Takes goes_on (label start said)
unfolding label
takes_label start said = takes_first _ (λ t. on _ _ (walks_once shorter basics _ t.place _)
    (λ _. on _ _ (on _ _ (walks_string shorter basics) (walks_label_of shorter basics start t.place)) (λ l. gives _)))

takes_flags : (ts : Tests) (said : Options) → Takes goes_on (flags ts said)
unfolding flags
takes_flags ts said = takes_first _ (λ t. on _ _ (walks_once shorter basics _ t.place _)
    (λ _. on _ _ (walks_takes_word shorter basics _) (λ is_any. on _ _ (walks_if shorter basics is_any _ _ (gives tt) (walks_written_flags shorter basics t.place ts)) (λ _. gives _))))

takes_queue : Takes goes_on queue
unfolding queue
takes_queue = takes_then goes_on leave_out_next _ takes_leave_out_next (λ _. walks_queue_name shorter basics)

takes_tag : Takes goes_on tag
unfolding tag
takes_tag = takes_then goes_on leave_out_next _ takes_leave_out_next (λ _. walks_skip_string shorter basics)

takes_priority : Takes goes_on priority
unfolding priority
takes_priority = takes_first _ (λ t. on _ _ (walks_named_priority shorter basics)
    (λ _. on _ _ (walks_leave_out shorter basics t.place _) (λ _. walks_priority_value shorter basics)))

eats_unexpected_option : Eats unexpected_option
unfolding unexpected_option
eats_unexpected_option = record {
  eats = λ s. (eats_if (is_symbol (codes "!") (next s) && is_word (codes "tagged") (second s)) (token >=> λ _. unexpected) unexpected (then_eats token _ (walks_token shorter basics) (λ _. eats_unexpected)) eats_unexpected).eats s;
}

takes_left_out_option : Takes goes_on left_out_option
unfolding left_out_option
takes_left_out_option =
    takes_look goes_on _ (λ t. takes_if goes_on (is_word (codes "allow-opts") t) _ _ takes_leave_out_next
    (takes_if goes_on (is_word (codes "queue") t) _ _ takes_queue
    (takes_if goes_on (is_word (codes "tag") t) _ _ takes_tag
    (takes_if goes_on (is_word (codes "set") t) _ _ takes_priority (takes_of goes_on unexpected_option eats_unexpected_option)))))

takes_option : (start : Start) (ts : Tests) (said : Options) → Takes goes_on (option start ts said)
unfolding option
takes_option start ts said =
    takes_look goes_on _ (λ t. takes_if goes_on (is_state t) _ _ (takes_state start said)
    (takes_if goes_on (is_word (codes "label") t) _ _ (takes_label start said)
    (takes_if goes_on (is_word (codes "flags") t) _ _ (takes_flags ts said)
    (takes_then goes_on left_out_option _ takes_left_out_option (λ _. walks_giving shorter basics said)))))

-- whether it is to go on
abbrev more_of : {A : Type 0} → Result ((A × Bool) × State) Stop → Bool
more_of (Ok (z, t)) = z.1
more_of (Err e) = false

-- what ends without taking a token doesn't go on
turn_by : {A B : Type 0} → (test : Token → Bool) (read : Reads B) (x : A) (then : B → A × Bool) (s : State) (b : Bool) → test (next s) ≡ not b → Takes test read → (y : A) (t : State)
    → cond b (giving (x, false)) (read >=> λ z. giving (then z)) s ≡ Ok ((y, true), t) → length t.left < length s.left
turn_by test read x then s true is all y t went = absurd (let no : false ≡ true = ap more_of went in cc (no))
turn_by {A} test read x then s false is all y t went =
    subst (λ (r : Result ((A × Bool) × State) Stop). Fewer (length s.left) r) went ((takes_then test read _ all (λ z. walks_giving shorter basics (then z))).takes s is)

goes_on_options : (t : Token) → ends_options t ≡ false → goes_on t ≡ true
goes_on_options t is = ap not (or-false_left (is_newline t) (is_symbol (codes "{") t) is)

options_turn : (start : Start) (ts : Tests) (x : Options) (s : State) (b : Bool) → ends_options (next s) ≡ b → (y : Options) (t : State)
    → cond b (giving {A = Options × Bool} (x, false)) (option start ts x >=> λ after. giving {A = Options × Bool} (after, true)) s ≡ Ok ((y, true), t) → length t.left < length s.left
options_turn start ts x s true is y t went = absurd (let no : false ≡ true = ap more_of went in cc (no))
options_turn start ts x s false is y t went = turn_by goes_on (option start ts x) x (λ after. (after, true)) s false (goes_on_options (next s) is) (takes_option start ts x) y t went

progress_options : (start : Start) (ts : Tests) → Progress (options_more start ts)
progress_options start ts x s y t went = options_turn start ts x s (ends_options (next s)) refl y t went

-- ---- tables

takes_listed : Takes goes_on listed
unfolding listed
takes_listed = record {
  takes = λ s passes. (takes_if goes_on (is_empty_list s.left) (token >=> λ _. newlines >=> λ _. token >=> λ _. giving []) _ (takes_first _ (λ t. on _ _ (walks_newlines shorter basics) (λ _. on _ _ (walks_token shorter basics) (λ _. gives _))))
      (takes_then goes_on host_list _ (takes_of goes_on host_list (eats_hosts_in _)) (λ hs. walks_from shorter basics _))).takes s passes;
}

takes_table_part : Takes goes_on table_part
unfolding table_part
takes_table_part =
    takes_look goes_on _ (λ t. takes_if goes_on (is_word (codes "persist") t) _ _ (takes_first (λ u. giving None) (λ u. gives None))
    (takes_if goes_on (is_left_out_of_table t) _ _ (takes_then goes_on leave_out_next (λ u. giving None) takes_leave_out_next (λ u. gives None))
    (takes_if goes_on (is_word (codes "file") t) _ _ (takes_first (λ u. string >=> λ f. giving (Some (File f))) (λ u. on _ _ (walks_string shorter basics) (λ f. gives (Some (File f)))))
    (takes_if goes_on (is_symbol (codes "{") t) _ _ (takes_then goes_on listed (λ es. giving (Some (Listed es))) takes_listed (λ es. gives (Some (Listed es)))) (takes_of goes_on unexpected eats_unexpected)))))

abbrev with_source : List Entries → Option Entries → List Entries
with_source before source = before ++ option_to_list source

parts_turn : (x : List Entries) (s : State) (b : Bool) → is_newline (next s) ≡ b → (y : List Entries) (t : State)
    → cond b (giving {A = List Entries × Bool} (x, false)) (table_part >=> λ source. giving {A = List Entries × Bool} (with_source x source, true)) s ≡ Ok ((y, true), t) → length t.left < length s.left
parts_turn x s true is y t went = absurd (let no : false ≡ true = ap more_of went in cc (no))
parts_turn x s false is y t went = turn_by goes_on table_part x (λ source. (with_source x source, true)) s false (ap not is) takes_table_part y t went

progress_parts : Progress parts_more
progress_parts x s y t went = parts_turn x s (is_newline (next s)) refl y t went

-- ---- lines

refused_or_not : (b : Bool) (e : Stop) (s : State) (r : Rank) → Same {A = Unit {0}} s (cond b (Err e) (Ok (tt, record s { rank = r })))
unfolding next
refused_or_not true e s r = tt
refused_or_not false e s r = (refl, refl)

still_in_order : (p : Place) (r : Rank) → Still (in_order p r)
unfolding in_order
still_in_order p r = record { still = λ s. refused_or_not _ _ s r }

left_out_by : (m : Mode) (p : Place) (what : LeftOut) (s : State) → Same {A = Unit {0}} s (leave_out_in m p what s)
unfolding note next
left_out_by Strict p what s = tt
left_out_by Lenient p what s = (refl, refl)

still_leave_out : (p : Place) (what : LeftOut) → Still (leave_out p what)
unfolding leave_out
still_leave_out p what = record { still = λ s. left_out_by s.mode p what s }

still_filtering : Still filtering
unfolding filtering
still_filtering =
    record { still = λ s. (still_if (is_rule (next s) || is_word (codes "anchor") (next s)) (in_order (next s).place _) (giving tt) (still_in_order (next s).place _) (still_giving tt)).still s }

-- a word is neither a newline nor a brace
no_end : (k : Kind) (a b c : Bool) → ((same_kind k kinds.Word && a) || ((same_kind k kinds.Word && b) || (same_kind k kinds.Word && c))) ≡ true → (same_kind k kinds.Newline ≡ false) × (same_kind k kinds.Symbol ≡ false)
no_end kinds.Word a b c is = (refl, refl)
no_end kinds.Quoted a b c is = absurd (cc)
no_end kinds.Symbol a b c is = absurd (cc)
no_end kinds.Macro a b c is = absurd (cc)
no_end kinds.Newline a b c is = absurd (cc)

word_skipped : (ts : List Token) (p : Place) → is_left_out_line (first_or (newline_at p) ts) ≡ true → length (after_line 0 ts) < length ts
unfolding after_line
word_skipped [] p is = absurd (cc)
word_skipped (t ∷ ts) p is =
    let none = no_end t.kind _ _ _ is in
    rw none.0 (rw none.1 (omega (arith, line_shorter 0 ts)))

takes_skip_line : Takes is_left_out_line skip_line
unfolding skip_line next
takes_skip_line = record {
  takes = λ s passes. fewer_on (length s.left) (record s { left = after_line 0 s.left }) (end_line (record s { left = after_line 0 s.left })) (word_skipped s.left s.end_place passes) ((walks_end_line shorter basics).walks (record s { left = after_line 0 s.left }));
}

takes_left_out_line : Takes is_left_out_line left_out_line
unfolding left_out_line
takes_left_out_line = record {
  takes = λ s is. (still_takes is_left_out_line (in_order (next s).place _) _ (still_in_order (next s).place _)
      (λ _. still_takes is_left_out_line (leave_out (next s).place (left_out.Word (text_of (next s).text))) _ (still_leave_out (next s).place (left_out.Word (text_of (next s).text))) (λ _. takes_skip_line))).takes s is;
}

takes_set_line : Takes goes_on set_line
unfolding set_line
takes_set_line = record {
  takes = λ s goes. (still_takes goes_on (in_order (next s).place _) _ (still_in_order (next s).place _)
      (λ _. takes_first _ (λ _. on _ _ (walks_setting shorter basics) (walks_set_option shorter basics rules)))).takes s goes;
}

takes_no_line : Takes goes_on no_line
unfolding no_line
takes_no_line = takes_first _ (λ _. walks_look shorter basics _
    (λ t. walks_if shorter basics (is_word (codes "scrub") t) _ _ (walks_left_out_line shorter basics) (walks_unexpected shorter basics)))

takes_table : Takes goes_on table
unfolding table
takes_table = takes_first _ (λ _. on _ _ (walks_name_in_angles shorter basics)
    (λ name. on _ _ (walks_table_parts shorter basics) (λ es. on _ _ (walks_end_line shorter basics) (λ _. walks_keep_table shorter basics _))))

takes_load : Takes goes_on load
unfolding load
takes_load = takes_first _ (λ t. on _ _ (walks_loaded_path shorter basics)
    (λ path. on _ _ (walks_loaded_file shorter basics) (λ file. walks_keep_load shorter basics _)))

takes_rule : Takes goes_on rule
unfolding rule
takes_rule = takes_first _ (λ t. walks_if shorter basics (is_word (codes "block") t) _ _
    (on block_policy _ (walks_block_policy shorter basics) (λ _. rule_of_shorter _ _ t.place)) (rule_of_shorter _ _ t.place))

takes_anchor : Takes goes_on anchor
unfolding anchor
takes_anchor = takes_first _ after_anchor

takes_rule_or_anchor : Takes goes_on rule_or_anchor
unfolding rule_or_anchor
takes_rule_or_anchor =
    takes_look goes_on _ (λ t. takes_if goes_on (is_rule t) _ _ takes_rule (takes_if goes_on (is_word (codes "anchor") t) _ _ takes_anchor (takes_of goes_on unexpected eats_unexpected)))

takes_close_braces : Takes goes_on close_braces
unfolding close_braces
takes_close_braces = takes_first _ (λ _. on _ _ (walks_leave_braces shorter basics) (λ _. walks_end_line shorter basics))

takes_line_in_braces : Takes goes_on line_in_braces
unfolding line_in_braces
takes_line_in_braces = takes_look goes_on _ (λ t. takes_if goes_on (is_symbol (codes "}") t) _ _ takes_close_braces takes_rule_or_anchor)

line_by : {A : Type 0} → (is_set is_left_out : Bool) (s : State) (set left_out other : Reads A) → goes_on (next s) ≡ true → is_left_out_line (next s) ≡ is_left_out → Takes goes_on set → Takes is_left_out_line left_out → Takes goes_on other
    → Fewer (length s.left) (cond is_set set (cond is_left_out left_out other) s)
line_by true is_left_out s set left_out other on is first second third = first.takes s on
line_by false true s set left_out other on is first second third = second.takes s is
line_by false false s set left_out other on is first second third = third.takes s on

takes_line : Takes goes_on line
unfolding line
takes_line = record {
  takes = λ s on. line_by (is_word (codes "set") (next s)) (is_left_out_line (next s)) s set_line left_out_line _ on refl takes_set_line takes_left_out_line
      (takes_if goes_on (is_word (codes "no") (next s)) _ _ takes_no_line
      (takes_if goes_on (is_word (codes "table") (next s)) _ _ takes_table
      (takes_if goes_on (is_word (codes "load") (next s)) _ _ takes_load (still_takes goes_on filtering _ still_filtering (λ _. takes_rule_or_anchor)))));
}

some_left : (ts : List Token) → (length ts == 0) ≡ false → length (rest_of ts) < length ts
some_left [] is = absurd (cc)
some_left (t ∷ ts) is = omega arith

newline_taken : (s : State) → is_at_end s ≡ false → Fewer {A = Unit {0}} (length s.left) ((token >=> λ _. giving tt) s)
unfolding token after_token
newline_taken s more = some_left s.left more

any_line_by : (s : State) (b : Bool) → is_at_end s ≡ false → is_newline (next s) ≡ b
    → Fewer {A = Unit {0}} (length s.left) (cond b (token >=> λ _. giving tt) (looking (λ s. s.within) >=> λ within. cond (within == 0) line line_in_braces) s)
any_line_by s true more is = newline_taken s more
any_line_by s false more is = (takes_if goes_on (s.within == 0) line line_in_braces takes_line takes_line_in_braces).takes s (ap not is)

line_fewer : (s : State) → is_at_end s ≡ false → Fewer (length s.left) (any_line s)
unfolding any_line
line_fewer s more = any_line_by s (is_newline (next s)) more refl

-- the line, and then that it goes on
and_on : (n : ℕ) (r : Result (Unit {0} × State) Stop) (done : Unit {0}) → Fewer n r → Fewer {A = Unit {0} × Bool} n ((r >>= λ (x, t). giving true t) >>= λ (more, t). giving {A = Unit {0} × Bool} (done, more) t)
and_on n (Ok (x, t)) done is = is
and_on n (Err e) done is = tt

lines_turn : (done : Unit {0}) (s : State) (b : Bool) → is_at_end s ≡ b → (y : Unit {0}) (t : State) → (cond b (giving false) (any_line >=> λ _. giving true) s >>= λ (more, t). giving {A = Unit {0} × Bool} (done, more) t) ≡ Ok ((y, true), t) → length t.left < length s.left
lines_turn done s true is y t went = absurd (let no : false ≡ true = ap more_of went in cc (no))
lines_turn done s false is y t went =
    subst (λ (r : Result ((Unit {0} × Bool) × State) Stop). Fewer (length s.left) r) went (and_on (length s.left) (any_line s) done (line_fewer s is))

progress_lines : Progress lines_more
progress_lines done s y t went = lines_turn done s (is_at_end s) refl y t went

-- ---- the turns suffice

pub lines_suffice : TurnsSuffice lines_more
lines_suffice = suffice lines_more progress_lines

pub parts_suffice : TurnsSuffice parts_more
parts_suffice = suffice parts_more progress_parts

pub options_suffice : (start : Start) (ts : Tests) → TurnsSuffice (options_more start ts)
options_suffice start ts = suffice (options_more start ts) (progress_options start ts)

items_suffice : {A : Type 0} → (item : Reads (List A)) → Eats item → TurnsSuffice (item_more item)
items_suffice item all = suffice (item_more item) (eats_progress (item_more item) (λ xs. eats_item_more item xs all))

pub interfaces_suffice : TurnsSuffice (item_more (listed_item interface))
interfaces_suffice = items_suffice (listed_item interface) (eats_listed_item interface eats_interface)

pub protocols_suffice : TurnsSuffice (item_more (listed_item protocol))
protocols_suffice = items_suffice (listed_item protocol) (eats_listed_item protocol eats_protocol)

pub ports_suffice : TurnsSuffice (item_more (listed_item port))
ports_suffice = items_suffice (listed_item port) (eats_listed_item port eats_port)

pub hosts_suffice : (deep : ℕ) → TurnsSuffice (item_more (listed_hosts (hosts_in deep)))
hosts_suffice deep = items_suffice (listed_hosts (hosts_in deep)) (eats_listed_hosts (hosts_in deep) (eats_hosts_in deep))
