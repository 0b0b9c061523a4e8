-- Each rule stands where its own word stands, and rules come in the order of these words.
use Rattle.std.proofs.Common.{◌≡◌, ℕ, ◌+◌, ◌-◌, ◌==◌, ◌&&◌, ◌||◌, cond, Bool, true, false, List, [], ◌∷◌, ◌++◌, map, filter, codes, Option, Result, Ok, Err, inl, inr, refl, sym, ap, ◌∙◌, subst, append_assoc, append-nil}
use Rattle.std.proofs.lemmas.{List.map-append, List.Elements.filter-append}
use Rattle.pf_form.specs.Form.Forms.{◌>>=◌}
use Rattle.pf_tokens.specs.declared.{place.Place.Place, token.Token.Token}
use Rattle.pf_tokens.specs.Words.{is_word, is_newline, is_symbol}
use Rattle.pf_parse.specs.declared.{fault.Stop.Stop, parser.Mode.Mode, statements.Parsed.Parsed, tree.Product.Product, tree.Written.Written}
use Rattle.pf_parse.specs.{States.State, Beginning.beginning, Laws.begins_rule, Product.product_of}
use Rattle.pf_parse.specs.Reading.{Word, Reads, ◌>=>◌, looking, first_or, newline_at, next, after_token, rest_of, token, takes_word, end_line, without_newlines, newlines, note, after_line, to_parenthesis, unexpected}
use Rattle.pf_parse.specs.Options.{tests_and_options}
use Rattle.pf_parse.specs.Openings.{block_policy, direction, log_and_quick}
use Rattle.pf_parse.specs.Anchors.{enter, shallow, own_name, keep_rule, anchor_opening, braces_or_line, named_anchor, anchor}
use Rattle.pf_parse.specs.Lines.{is_rule, keep_table, keep_load, keep_skip, order_matters, rule_opening, rule_of, rule, rule_or_anchor, skip_one, skip_each, skip, lines, parsed_of, parsed}
use Rattle.pf_load.specs.Files.{Types.{Start}, Places.{beginnings, places_of, AreSome}}
use Rattle.pf_load.proofs.Walks.{Walk, Walks, After, Basics, Rules, steps, walks_giving, walks_then, walks_direction, walks_log_and_quick, walks_tests_and_options, walks_end_line, walks_takes_word, walks_braces_or_line, walks_shallow, walks_own_name, walks_block_policy, walks_in_main, walks_interfaces, walks_lines}

-- ---- places

none : (all : List Place) → AreSome all []
none [] = tt
none (q ∷ all) = tt

later : (q : Place) (all ps : List Place) → AreSome all ps → AreSome (q ∷ all) ps
later q all [] some = tt
later q all (p ∷ ps) some = inr some

-- some behind others
both_some : (a b x y : List Place) → AreSome a x → AreSome b y → AreSome (a ++ b) (x ++ y)
both_some [] b [] y first second = second
both_some [] b (p ∷ ps) y first second = absurd first
both_some (q ∷ qs) b [] y first second = later q (qs ++ b) y (both_some qs b [] y (none qs) second)
both_some (q ∷ qs) b (p ∷ ps) y first second =
    elim first [ inl here ↦ inl (here.0, both_some qs b ps y here.1 second) | inr there ↦ inr (both_some qs b (p ∷ ps) y there second) ]

beginnings-append : (ts us : List Token) → beginnings (ts ++ us) ≡ beginnings ts ++ beginnings us
beginnings-append ts us = ap (map (λ (t : Token). t.place)) (filter-append begins_rule ts us) ∙ map-append (λ (t : Token). t.place) (filter begins_rule ts) (filter begins_rule us)

places-append : (ws vs : List Written) → places_of (ws ++ vs) ≡ places_of ws ++ places_of vs
places-append ws vs = map-append (λ (w : Written). w.product.place) ws vs

-- ---- what is left

-- some tokens, and then these
abbrev EndOf : List Token → List Token → Type 0
EndOf all ts = (front : List Token) × (all ≡ front ++ ts)

whole : (ts : List Token) → EndOf ts ts
whole ts = ([], refl)

end_if : (all ts us : List Token) (b : Bool) → EndOf all ts → EndOf all us → EndOf all (cond b ts us)
end_if all ts us true first other = first
end_if all ts us false first other = other

end_after : (t : Token) (ts us : List Token) → EndOf ts us → EndOf (t ∷ ts) us
end_after t ts us (front, is) = (t ∷ front, ap (λ (vs : List Token). t ∷ vs) is)

end_on : (ts us vs : List Token) → EndOf ts us → EndOf us vs → EndOf ts vs
end_on ts us vs (a, is) (b, too) = (a ++ b, is ∙ ap (λ (ws : List Token). a ++ ws) too ∙ sym (append_assoc a b vs))

rest_end : (ts : List Token) → EndOf ts (rest_of ts)
rest_end [] = ([], refl)
rest_end (t ∷ ts) = (t ∷ [], refl)

newlines_end : (ts : List Token) → EndOf ts (without_newlines ts)
unfolding without_newlines
newlines_end [] = ([], refl)
newlines_end (t ∷ ts) = end_if (t ∷ ts) _ _ (is_newline t) (end_after t ts _ (newlines_end ts)) (whole (t ∷ ts))

parenthesis_end : (ts : List Token) → EndOf ts (to_parenthesis ts)
unfolding to_parenthesis
parenthesis_end [] = ([], refl)
parenthesis_end (t ∷ ts) =
    end_if (t ∷ ts) _ _ (is_newline t || is_symbol (codes ")") t) (whole (t ∷ ts)) (end_after t ts _ (parenthesis_end ts))

line_end : (deep : ℕ) (ts : List Token) → EndOf ts (after_line deep ts)
unfolding after_line
line_end deep [] = ([], refl)
line_end deep (t ∷ ts) =
    end_if (t ∷ ts) _ _ (is_newline t && (deep == 0)) (whole (t ∷ ts))
    (end_if (t ∷ ts) _ _ (is_symbol (codes "}") t)
    (end_if (t ∷ ts) _ _ (deep == 0) (whole (t ∷ ts)) (end_after t ts _ (line_end (deep - 1) ts)))
    (end_if (t ∷ ts) _ _ (is_symbol (codes "{") t) (end_after t ts _ (line_end (deep + 1) ts)) (end_after t ts _ (line_end deep ts))))

-- ---- what keeps no rule

abbrev quiet : Walk
quiet = record { Leads = λ s t. EndOf s.left t.left × (t.tree.rules ≡ s.tree.rules) }

at : (s : State) → quiet.Leads s s
at s = (whole s.left, refl)

silent : Basics quiet
unfolding after_token newlines note enter keep_table keep_load order_matters
silent = record {
  stays = at;
  joins = λ s t u a b. (end_on s.left t.left u.left a.0 b.0, b.1 ∙ a.1);
  taken = λ s. (rest_end s.left, refl);
  newlines_taken = record { walks = λ s. (newlines_end s.left, refl) };
  noted = λ p r. record { walks = λ s. at s };
  line_passed = λ s. (line_end 0 s.left, refl);
  parenthesis_passed = λ s. (parenthesis_end s.left, refl);
  ranked = λ s r. at s;
  order_set = λ b. record { walks = λ s. at s };
  entered = λ p depth name. record { walks = λ s. at s };
  braces_left = record { walks = λ s. at s };
  table_kept = λ t. record { walks = λ s. at s };
  load_kept = λ l. record { walks = λ s. at s };
}

skip_kept : (p : Product) → Walks quiet (keep_skip p)
unfolding keep_skip
skip_kept p = record { walks = λ s. at s }

skip_one_quiet : (t : Token) → Walks quiet (skip_one t)
unfolding skip_one
skip_one_quiet t = search (steps, silent, skip_kept)

skip_each_quiet : (ts : List Token) → Walks quiet (skip_each ts)
unfolding skip_each
skip_each_quiet [] = walks_giving quiet silent tt
skip_each_quiet (t ∷ ts) = walks_then quiet silent (skip_one t) _ (skip_one_quiet t) (λ _. skip_each_quiet ts)

skip_quiet : (t : Token) → Walks quiet (skip t)
unfolding skip
skip_quiet t = search (steps, silent, walks_in_main, walks_interfaces, skip_each_quiet) depth 10

-- ---- what keeps one rule

abbrev One : {A : Type 0} → Place → State → Result (A × State) Stop → Type 0
One p s (Ok (x, t)) = EndOf s.left t.left × (w : Written) × (w.product.place ≡ p) × (t.tree.rules ≡ s.tree.rules ++ w ∷ [])
One p s (Err e) = Unit {0}

record KeepsOne {A : Type 0} (p : Place) (read : Reads A) : Type 0 where
  keeps : (s : State) → One p s (read s)

one_on : {A : Type 0} → (p : Place) (s t : State) (r : Result (A × State) Stop) → quiet.Leads s t → One p t r → One p s r
one_on p s t (Ok (x, u)) before (end, w, here, rules) = (end_on s.left t.left u.left before.0 end, w, here, rules ∙ ap (λ (ws : List Written). ws ++ w ∷ []) before.1)
one_on p s t (Err e) before one = tt

one_by : {A B : Type 0} → (p : Place) (next_read : A → Reads B) (s : State) (r : Result (A × State) Stop) → After quiet s r → ((x : A) → KeepsOne p (next_read x)) → One p s (r >>= λ (x, t). next_read x t)
one_by p next_read s (Ok (x, t)) before all = one_on p s t (next_read x t) before ((all x).keeps t)
one_by p next_read s (Err e) before all = tt

then_one : {A B : Type 0} → (p : Place) (read : Reads A) (next_read : A → Reads B) → Walks quiet read → ((x : A) → KeepsOne p (next_read x)) → KeepsOne p (read >=> next_read)
then_one p read next_read first all = record { keeps = λ s. one_by p next_read s (read s) (first.walks s) all }

within_one : {B : Type 0} → (p : Place) (next_read : ℕ → Reads B) → ((n : ℕ) → KeepsOne p (next_read n)) → KeepsOne p (looking (λ s. s.within) >=> next_read)
within_one p next_read all = record { keeps = λ s. (all s.within).keeps s }

one_if : {A : Type 0} → (p : Place) (b : Bool) (r q : Reads A) → KeepsOne p r → KeepsOne p q → KeepsOne p (cond b r q)
one_if p true r q first other = first
one_if p false r q first other = other

rule_one : (within : ℕ) (w : Product) → KeepsOne w.place (keep_rule within w)
unfolding keep_rule
rule_one within w = record { keeps = λ s. (whole s.left, record { within = within; product = w }, refl, refl) }

rule_of_one : (start : Start) (first : Word) (p : Place) → KeepsOne p (rule_of start first p)
unfolding rule_of
rule_of_one start first p =
    then_one p direction _ (walks_direction quiet silent) (λ d. then_one p log_and_quick _ (walks_log_and_quick quiet silent)
    (λ q. then_one p (tests_and_options start) _ (walks_tests_and_options quiet silent start) (λ x. then_one p end_line _ (walks_end_line quiet silent)
    (λ _. within_one p _ (λ within. rule_one within (product_of p (rule_opening first d q) x.0 x.1))))))

-- an anchor rule is kept behind the brace that it opens, before the rules in it
anchor_by : (p : Place) (s : State) (r : Result (Word × State) Stop) (within : ℕ) (make : Word → Product) → ((n : Word) → (make n).place ≡ p) → After quiet s r → One p s (r >>= λ (n, t). keep_rule within (make n) t)
unfolding keep_rule
anchor_by p s (Ok (n, t)) within make here before = (before.0, record { within = within; product = make n }, here n, ap (λ (ws : List Written). ws ++ record { within = within; product = make n } ∷ []) before.1)
anchor_by p s (Err e) within make here before = tt

named_one : (p : Place) (depth : ℕ) (name : Option Token) → KeepsOne p (named_anchor p depth name)
unfolding named_anchor
named_one p depth name =
    then_one p direction _ (walks_direction quiet silent) (λ d. then_one p (takes_word (codes "quick")) _ (walks_takes_word quiet silent (codes "quick"))
    (λ q. then_one p (tests_and_options _) _ (walks_tests_and_options quiet silent _) (λ x. within_one p _
    (λ within. record { keeps = λ s. anchor_by p s (braces_or_line p depth name s) within (λ n. product_of p (anchor_opening n d q) x.0 x.1) (λ n. refl) ((walks_braces_or_line quiet silent p depth name).walks s) }))))

-- what follows the first word of a rule
rule_after : (s : State) → One (next s).place (after_token s) (rule s)
unfolding rule token
rule_after s =
    (one_if (next s).place (is_word (codes "block") (next s)) _ _
    (then_one (next s).place block_policy _ (walks_block_policy quiet silent) (λ _. rule_of_one _ (codes "block") (next s).place)) (rule_of_one _ (codes "pass") (next s).place)).keeps (after_token s)

anchor_after : (s : State) → One (next s).place (after_token s) (anchor s)
unfolding anchor token
anchor_after s =
    (then_one (next s).place (shallow (next s).place) _ (walks_shallow quiet silent (next s).place)
    (λ depth. then_one (next s).place own_name _ (walks_own_name quiet silent) (named_one (next s).place depth))).keeps (after_token s)

-- ---- rules in order

-- Of the tokens that were read some begin the rules that came.
record Comes (s t : State) : Type 0 where
  front : List Token
  rules : List Written
  left : s.left ≡ front ++ t.left
  kept : t.tree.rules ≡ s.tree.rules ++ rules
  places : AreSome (beginnings front) (places_of rules)

abbrev orderly : Walk
orderly = record { Leads = Comes }

quietly : (s t : State) → quiet.Leads s t → Comes s t
quietly s t (end, same) = record { front = end.0; rules = []; left = end.1; kept = same ∙ sym (append-nil s.tree.rules); places = none (beginnings end.0) }

comes_on : (s t u : State) → Comes s t → Comes t u → Comes s u
comes_on s t u a b = record {
  front = a.front ++ b.front;
  rules = a.rules ++ b.rules;
  left = a.left ∙ ap (λ (ts : List Token). a.front ++ ts) b.left ∙ sym (append_assoc a.front b.front u.left);
  kept = b.kept ∙ ap (λ (ws : List Written). ws ++ b.rules) a.kept ∙ append_assoc s.tree.rules a.rules b.rules;
  places = subst (λ (ps : List Place). AreSome ps (places_of (a.rules ++ b.rules))) (sym (beginnings-append a.front b.front))
      (subst (AreSome (beginnings a.front ++ beginnings b.front)) (sym (places-append a.rules b.rules)) (both_some (beginnings a.front) (beginnings b.front) (places_of a.rules) (places_of b.rules) a.places b.places));
}

after_quiet : {A : Type 0} → (s : State) (r : Result (A × State) Stop) → After quiet s r → After orderly s r
after_quiet s (Ok (x, t)) quiet_one = quietly s t quiet_one
after_quiet s (Err e) quiet_one = tt

from_quiet : {A : Type 0} → (read : Reads A) → Walks quiet read → Walks orderly read
from_quiet read all = record { walks = λ s. after_quiet s (read s) (all.walks s) }

basics : Basics orderly
basics = record {
  stays = λ s. quietly s s (silent.stays s);
  joins = comes_on;
  taken = λ s. quietly s (after_token s) (silent.taken s);
  newlines_taken = from_quiet _ silent.newlines_taken;
  noted = λ p r. from_quiet _ (silent.noted p r);
  line_passed = λ s. quietly s _ (silent.line_passed s);
  parenthesis_passed = λ s. quietly s _ (silent.parenthesis_passed s);
  ranked = λ s r. quietly s _ (silent.ranked s r);
  order_set = λ b. from_quiet _ (silent.order_set b);
  entered = λ p depth name. from_quiet _ (silent.entered p depth name);
  braces_left = from_quiet _ silent.braces_left;
  table_kept = λ t. from_quiet _ (silent.table_kept t);
  load_kept = λ l. from_quiet _ (silent.load_kept l);
}

first_by : (u : Token) (us : List Token) (b : Bool) → begins_rule u ≡ b → b ≡ true → map (λ (t : Token). t.place) (cond b (u ∷ filter begins_rule us) (filter begins_rule us)) ≡ u.place ∷ beginnings us
first_by u us true is begins = refl
first_by u us false is begins = absurd (cc (begins))

first_begins : (u : Token) (us : List Token) → begins_rule u ≡ true → beginnings (u ∷ us) ≡ u.place ∷ beginnings us
first_begins u us begins = first_by u us (begins_rule u) refl begins

-- the first word of a rule, and then its rule
begun_by : {A : Type 0} → (p : Place) (s : State) (ts : List Token) (r : Result (A × State) Stop) → s.left ≡ ts → begins_rule (first_or (newline_at p) ts) ≡ true → (after_token s).left ≡ rest_of ts → (after_token s).tree.rules ≡ s.tree.rules → One (first_or (newline_at p) ts).place (after_token s) r → After orderly s r
begun_by p s [] (Ok (x, t)) is begins rest rules one = absurd (cc)
begun_by p s (u ∷ us) (Ok (x, t)) is begins rest rules ((front, end), w, here, kept) = record {
  front = u ∷ front;
  rules = w ∷ [];
  left = is ∙ ap (λ (ts : List Token). u ∷ ts) (sym rest ∙ end);
  kept = kept ∙ ap (λ (ws : List Written). ws ++ w ∷ []) rules;
  places = subst (λ (ps : List Place). AreSome ps (w.product.place ∷ [])) (sym (first_begins u front begins)) (inl (here, none (beginnings front)));
}
begun_by p s ts (Err e) is begins rest rules one = tt

begun : {A : Type 0} → (s : State) (r : Result (A × State) Stop) → begins_rule (next s) ≡ true → One (next s).place (after_token s) r → After orderly s r
unfolding next after_token
begun s r begins one = begun_by s.end_place s s.left r refl begins refl refl one

start_by : (s : State) (is_pass is_anchor : Bool) → is_rule (next s) ≡ is_pass → is_word (codes "anchor") (next s) ≡ is_anchor → After {A = Unit {0}} orderly s (cond is_pass rule (cond is_anchor anchor unexpected) s)
start_by s true is_anchor pass other = begun s (rule s) (ap (λ (b : Bool). b || is_word (codes "anchor") (next s)) pass) (rule_after s)
start_by s false true pass is = begun s (anchor s) (ap (λ (b : Bool). b || is_word (codes "anchor") (next s)) pass ∙ is) (anchor_after s)
start_by s false false pass other = tt

rules : Rules orderly
unfolding rule_or_anchor
rules = record {
  rules_read = record { walks = λ s. start_by s (is_rule (next s)) (is_word (codes "anchor") (next s)) refl refl };
  skip_read = λ option. from_quiet (skip option) (skip_quiet option);
}

-- ---- a whole file

file_by : (s : State) (r : Result (Unit {0} × State) Stop) (p : Parsed) → s.tree.rules ≡ [] → After orderly s r → (r >>= λ x. Ok (parsed_of x)) ≡ Ok p → AreSome (beginnings s.left) (places_of p.tree.rules)
file_by s (Ok (x, t)) p nothing comes is =
    let same : parsed_of (x, t) ≡ p = cc in
    let kept : comes.rules ≡ p.tree.rules = sym (comes.kept ∙ ap (λ (ws : List Written). ws ++ comes.rules) nothing) ∙ ap (λ (q : Parsed). q.tree.rules) same in
    let all : AreSome (beginnings comes.front ++ beginnings t.left) (places_of comes.rules ++ []) = both_some (beginnings comes.front) (beginnings t.left) (places_of comes.rules) [] comes.places (none (beginnings t.left)) in
    let read : beginnings comes.front ++ beginnings t.left ≡ beginnings s.left = sym (beginnings-append comes.front t.left) ∙ ap beginnings (sym comes.left) in
    let some : AreSome (beginnings s.left) (places_of comes.rules) = subst (AreSome (beginnings s.left)) (append-nil (places_of comes.rules)) (subst (λ (ps : List Place). AreSome ps (places_of comes.rules ++ [])) read all) in
    subst (λ (ws : List Written). AreSome (beginnings s.left) (places_of ws)) kept some
file_by s (Err e) p nothing comes is = absurd (cc)

pub rules_in_order : (ts : List Token) (mode : Mode) (is_main : Bool) (p : Parsed) → parsed ts mode is_main ≡ Ok p → AreSome (beginnings ts) (places_of p.tree.rules)
rules_in_order ts mode is_main p is =
    file_by (beginning ts mode is_main) (lines (beginning ts mode is_main)) p refl ((walks_lines orderly basics rules).walks (beginning ts mode is_main)) is
