-- The words of each way of a rule that is read are a rule's.
use Rattle.std.proofs.Common.{◌≡◌, ℕ, suc, ◌+◌, ◌^◌, ◌<◌, ◌≤◌, cond, Bool, true, false, List, [], ◌∷◌, ◌++◌, length, codes, decimal, Option, Some, None, Result, Ok, Err, inl, inr, refl, sym, ap, ◌∙◌, subst, arith, append-nil, lit≤}
use Rattle.std.specs.{Prelude.{if◌then◌else◌, slice_index_or}, List.{All, list_all}}
use Rattle.std.proofs.lemmas.{Fmt.{decimal_is_IsNumeral, length-decimal-le}, Bool.and_parts, Bool.Decides.nat_tests, List.length_push, List.Elements.{All-nil, All-push}, List.Sums.{AllPass-from_list_all, list_all-from_AllPass}}
use Rattle.pf_form.specs.{Form.{Forms.{◌>>=◌}, Numbers.{is_digit, number_of}}, Laws.Form.Numbers.number_only}
use Rattle.pf_form.specs.declared.form.fault.Kind.{Kind}
use Rattle.pf_addr.specs.Path.{References.{PlainReference, refers, reference_of}, ReferenceGrammar.IsReference, Names.{IsName, is_name_byte}, PathGrammar.{IsComponent, IsNames}}
use Rattle.pf_addr.proofs.ReferencesRead.{spelled_is_read}
use Rattle.pf_rule.specs.declared.value.direction.Direction.TheVariants.{In as Inward, Out as Outward}
use Rattle.pf_rule.specs.{Laws.Value.Labels.label_only, RuleGrammar.{rule as a_rule, state as a_state, label as a_label}, Value.Tests.{interface as on_interface, family as a_family, protocol as a_protocol, direction as a_direction}, Value.Ports.port as a_port, Host.Hosts.host as a_host}
use Rattle.pf_addr.proofs.NamesRead.{name_found}
use Rattle.pf_form.specs.Form.Readers.{if_there}
use Rattle.pf_lists.specs.{Product.{Word}}
use Rattle.pf_tokens.specs.declared.{place.Place.Place, token.Token.Token}
use Rattle.pf_tokens.specs.{Places.text_of, Words.{is_word}}
use Rattle.pf_parse.specs.declared.{fault.Stop.Stop, parser.Mode.Mode, statements.Parsed.Parsed, tree.Product.Product, tree.Written.Written, tree.Tree.Tree}
use Rattle.pf_parse.specs.declared.fault.LeftOut.TheVariants as left_out
use Rattle.pf_parse.specs.{States.State, Beginning.beginning, Product.{only, keyword, product_of}}
use Rattle.pf_parse.specs.Reading.{Reads, giving, ◌>=>◌, looking, after_token, newlines, note, token, takes_word, takes_symbol, expect_word, end_line}
use Rattle.pf_parse.specs.Criteria.{interface_word, interface_words, no_tests}
use Rattle.pf_parse.specs.Options.{is_anchor, state_words, label_words, tests_and_options}
use Rattle.pf_parse.specs.Openings.{block_policy, direction, direction_words, quick_words, log_and_quick}
use Rattle.pf_parse.specs.Lists.{from, interfaces}
use Rattle.pf_parse.specs.Anchors.{in_quotes, has_slash, no_fault, own_name, name_alone, name_in_braces, newline_after_brace, next_number, enter, open_braces, braces_or_line, shallow, keep_rule, anchor_opening, named_anchor, anchor}
use Rattle.pf_parse.specs.Lines.{rule_opening, keep_table, keep_load, order_matters, rule_of, rule, skip_rule, keep_skip, skip_one, skip_each, in_main, skip, lines, parsed_of, parsed}
use Rattle.pf_load.specs.Files.{Types.{first_of, Start, Tests}, Words.HasRulesAlone}
use Rattle.pf_load.proofs.Walks.{Walk, Walks, After, Basics, Rules, either_walks, walks_on, walks_then, walks_if, walks_within, walks_token, walks_end_line, walks_direction, walks_log_and_quick, walks_tests_and_options, walks_block_policy, walks_takes_word, walks_shallow, walks_own_name, walks_braces_or_line, walks_leave_out, walks_giving, walks_in_main, walks_expect_word, walks_interfaces, walks_lines}
use Rattle.pf_load.proofs.Spelled.{ReadsSpelled, lists_are_rules, Spelled, Opens, AllSpelled, rule_spelled, in_front, no_lists, pass_opens, block_opens, anchor_opens, way_spelled, quick_spelled, not_quick_spelled, no_family_spelled, no_protocol_spelled, keep_spelled, no_state_spelled, stateless_spelled, label_spelled, unlabelled_spelled}
use Rattle.pf_load.proofs.Yields.{Yields, yields_after, yields_giving, yields_if, OnInterface, LabelIs, AreTests, any_is_side, AreClosing, AreBoth, IsNamedAnchor, MayBeNamed, yields_tests_and_options, yields_own_name, yields_interfaces}

-- ---- a product

-- a direction, or none
abbrev Way : Type 0
Way = first_of direction_words

-- what comes before the tests of a rule: how it begins, its direction, and quick
record Opening (keeping labelled : Bool) (ws : List Word) : Type 0 where
  start : List Word
  way : List Word
  quick : List Word
  opens : Opens keeping labelled start
  ways : Spelled a_direction way
  quicks : Spelled (if_there (codes "quick")) quick
  words : ws ≡ start ++ (way ++ quick)

-- what comes behind them: state, and a label
record Closing (keeping labelled : Bool) (ws : List Word) : Type 0 where
  state : List Word
  label : List Word
  states : Spelled (a_state keeping) state
  labels : Spelled (a_label labelled) label
  words : ws ≡ state ++ label

abbrev Then : (List Word → Type 0) → (List Word → Type 0) → List Word → Type 0
Then P Q ws = (a b : List Word) × P a × Q b × (ws ≡ a ++ b)

abbrev Is : List Word → List Word → Type 0
Is v ws = ws ≡ v

abbrev OfClosing : Bool → Bool → List Word → Type 0
OfClosing keeping labelled = Then (Closing keeping labelled) (Is [])

abbrev OfDestination : Bool → Bool → List Word → Type 0
OfDestination keeping labelled = Then (Is (codes "to" ∷ [])) (Then (Spelled a_host) (Then (Spelled a_port) (OfClosing keeping labelled)))

abbrev OfSource : Bool → Bool → List Word → Type 0
OfSource keeping labelled = Then (Is (codes "from" ∷ [])) (Then (Spelled a_host) (Then (Spelled a_port) (OfDestination keeping labelled)))

abbrev OfTests : Bool → Bool → List Word → Type 0
OfTests keeping labelled = Then (Spelled on_interface) (Then (Spelled a_family) (Then (Spelled a_protocol) (OfSource keeping labelled)))

abbrev OfAll : Bool → Bool → List Word → Type 0
OfAll keeping labelled = Then (Opening keeping labelled) (OfTests keeping labelled)

way_is : (k l : Bool) (ws : List Word) → OfAll k l ws → Spelled a_rule ws
way_is k l ws (a, b, opening, (i, c, ons, (f, d, families, (p, e, protocols, (w, g, from, (h, m, sources, (sp, n, source_ports, (v, o, to, (dh, q, destinations, (dp, r, destination_ports, (z, y, closing, end, e11), e10), e9), e8), e7), e6), e5), e4), e3), e2), e1) =
    let e12 : y ≡ [] = end in
    rule_spelled ws (record {
      keeping = k;
      labelled = l;
      start = opening.start;
      way = opening.way;
      quick = opening.quick;
      on = i;
      family = f;
      protocol = p;
      source = h;
      source_port = sp;
      destination = dh;
      destination_port = dp;
      state = closing.state;
      label = closing.label;
      opens = opening.opens;
      ways = opening.ways;
      quicks = opening.quicks;
      ons = ons;
      families = families;
      protocols = protocols;
      sources = sources;
      source_ports = source_ports;
      destinations = destinations;
      destination_ports = destination_ports;
      states = closing.states;
      labels = closing.labels;
      whole = e1 ∙ ap (λ (x : List Word). x ++ b) opening.words ∙ rw (e2, e3, e4, e5, e6, e7, e8, e9, e10, e11, from, to, closing.words, e12) refl;
    })

one_of : (P : List Word → Type 0) (ws : List Word) → P ws → All P (only ws)
one_of P ws so = All-push P [] ws (All-nil P) so

product_is : (place : Place) (k l : Bool) (opening : List Word) (ts : Tests) (closing : List Word) → Opening k l opening → AreTests ts → Closing k l closing → AllSpelled (product_of place opening ts closing).lists
product_is place k l opening ts closing opens tests closes i d within =
    let c = in_front (Closing k l) (Is []) (only closing) [] (one_of (Closing k l) closing closes) no_lists in
    let dp = in_front (Spelled a_port) (OfClosing k l) ts.destination.ports (only closing ∷ []) tests.destination.ports c in
    let dh = in_front (Spelled a_host) (Then (Spelled a_port) (OfClosing k l)) ts.destination.hosts (ts.destination.ports ∷ only closing ∷ []) tests.destination.hosts dp in
    let to = in_front (Is (codes "to" ∷ [])) (Then (Spelled a_host) (Then (Spelled a_port) (OfClosing k l))) (keyword (codes "to")) (ts.destination.hosts ∷ ts.destination.ports ∷ only closing ∷ []) (one_of (Is (codes "to" ∷ [])) (codes "to" ∷ []) refl) dh in
    let sp = in_front (Spelled a_port) (OfDestination k l) ts.source.ports (keyword (codes "to") ∷ ts.destination.hosts ∷ ts.destination.ports ∷ only closing ∷ []) tests.source.ports to in
    let sh = in_front (Spelled a_host) (Then (Spelled a_port) (OfDestination k l)) ts.source.hosts (ts.source.ports ∷ keyword (codes "to") ∷ ts.destination.hosts ∷ ts.destination.ports ∷ only closing ∷ []) tests.source.hosts sp in
    let from = in_front (Is (codes "from" ∷ [])) (Then (Spelled a_host) (Then (Spelled a_port) (OfDestination k l))) (keyword (codes "from")) (ts.source.hosts ∷ ts.source.ports ∷ keyword (codes "to") ∷ ts.destination.hosts ∷ ts.destination.ports ∷ only closing ∷ []) (one_of (Is (codes "from" ∷ [])) (codes "from" ∷ []) refl) sh in
    let rest : List (List (List Word)) = keyword (codes "from") ∷ ts.source.hosts ∷ ts.source.ports ∷ keyword (codes "to") ∷ ts.destination.hosts ∷ ts.destination.ports ∷ only closing ∷ [] in
    let ps = in_front (Spelled a_protocol) (OfSource k l) ts.protocols rest tests.protocols from in
    let f = in_front (Spelled a_family) (Then (Spelled a_protocol) (OfSource k l)) (only ts.family) (ts.protocols ∷ rest) (one_of (Spelled a_family) ts.family tests.family) ps in
    let is = in_front (Spelled on_interface) (Then (Spelled a_family) (Then (Spelled a_protocol) (OfSource k l))) ts.interfaces (only ts.family ∷ ts.protocols ∷ rest) tests.interfaces f in
    let all = in_front (Opening k l) (OfTests k l) (only opening) (ts.interfaces ∷ only ts.family ∷ ts.protocols ∷ rest) (one_of (Opening k l) opening opens) is in
    way_is k l _ (all i d within)

-- ---- what is kept

-- each rule so far is words that pf_rule reads
abbrev Well : Tree → Type 0
Well tree = All (λ (w : Written). AllSpelled w.product.lists) tree.rules × All (λ (w : Product). AllSpelled w.lists) tree.skips

abbrev Few : Tree → Type 0
Few tree = length tree.braces < 2 ^ 64

-- Braces come, and none goes; if there are few, each rule that comes is so.
abbrev keeping : Walk
keeping = record { Leads = λ s t. (length s.tree.braces ≤ length t.tree.braces) × (Few t.tree → Well s.tree → Well t.tree) }

same_length : (n : ℕ) → n ≤ n
same_length n = omega arith

below_on : (a b n : ℕ) → a ≤ b → b < n → a < n
below_on a b n less within = omega (arith, less, within)

on_below : (a b n : ℕ) → a < b → b ≤ n → a < n
on_below a b n within less = omega (arith, within, less)

not_more : (a b c : ℕ) → a ≤ b → b ≤ c → a ≤ c
not_more a b c first other = omega (arith, first, other)

one_longer : {A : Type 0} (xs : List A) (x : A) → length xs ≤ length (xs ++ x ∷ [])
one_longer xs x = omega (arith, length_push xs x)

stays : (s : State) → keeping.Leads s s
stays s = (same_length (length s.tree.braces), λ few well. well)

basics : Basics keeping
unfolding after_token newlines note enter keep_table keep_load order_matters
basics = record {
  stays = stays;
  joins = λ s t u a b. (not_more (length s.tree.braces) (length t.tree.braces) (length u.tree.braces) a.0 b.0, λ few well. b.1 few (a.1 (below_on (length t.tree.braces) (length u.tree.braces) (2 ^ 64) b.0 few) well));
  taken = λ s. stays s;
  newlines_taken = record { walks = λ s. stays s };
  noted = λ p r. record { walks = λ s. stays s };
  line_passed = λ s. stays s;
  parenthesis_passed = λ s. stays s;
  ranked = λ s r. stays s;
  order_set = λ b. record { walks = λ s. stays s };
  entered = λ p depth name. record { walks = λ s. (one_longer s.tree.braces _, λ few well. well) };
  braces_left = record { walks = λ s. stays s };
  table_kept = λ t. record { walks = λ s. stays s };
  load_kept = λ l. record { walks = λ s. stays s };
}

rule_kept : (within : ℕ) (p : Product) → AllSpelled p.lists → Walks keeping (keep_rule within p)
unfolding keep_rule
rule_kept within p so = record {
  walks = λ s. (same_length (length s.tree.braces), λ few well. (All-push (λ (w : Written). AllSpelled w.product.lists) s.tree.rules (record { within = within; product = p }) well.0 so, well.1));
}

skip_kept : (p : Product) → AllSpelled p.lists → Walks keeping (keep_skip p)
unfolding keep_skip
skip_kept p so = record {
  walks = λ s. (same_length (length s.tree.braces), λ few well. (well.0, All-push (λ (w : Product). AllSpelled w.lists) s.tree.skips p well.1 so));
}

-- with what the first gives
good_by : {A B : Type 0} → (P : A → Type 0) (next_read : A → Reads B) (s : State) (r : Result (A × State) Stop) → ((x : A) (t : State) → r ≡ Ok (x, t) → P x) → After keeping s r → ((x : A) → P x → Walks keeping (next_read x)) → After keeping s (r >>= λ (x, t). next_read x t)
good_by P next_read s (Ok (x, t)) gives after all = walks_on keeping basics s t (next_read x t) after ((all x (gives x t refl)).walks t)
good_by P next_read s (Err e) gives after all = tt

good_then : {A B : Type 0} → (P : A → Type 0) (read : Reads A) (next_read : A → Reads B) → Yields P read → Walks keeping read → ((x : A) → P x → Walks keeping (next_read x)) → Walks keeping (read >=> next_read)
good_then P read next_read gives first all = record { walks = λ s. good_by P next_read s (read s) (gives.yields s) (first.walks s) all }

on : {A B : Type 0} → (read : Reads A) (next_read : A → Reads B) → Walks keeping read → ((x : A) → Walks keeping (next_read x)) → Walks keeping (read >=> next_read)
on read next_read first all = walks_then keeping basics read next_read first all

-- ---- "pass" and "block"

abbrev IsWay : Way → Type 0
IsWay d = Spelled a_direction (direction_words d)

gives_either : (b : Bool) (d e : Way) → IsWay d → IsWay e → Yields IsWay (giving (if b then d else e))
gives_either true d e first other = yields_giving IsWay d first
gives_either false d e first other = yields_giving IsWay e other

gives_way : (d : Way) → IsWay d → Yields IsWay (giving d)
gives_way d so = yields_giving IsWay d so

yields_direction : Yields IsWay direction
unfolding direction
yields_direction =
    yields_after IsWay (takes_word (codes "in")) _ (λ is_in. yields_if IsWay is_in _ _ (λ _. gives_way _ (way_spelled (Some Inward) _ refl))
    (λ _. yields_after IsWay (takes_word (codes "out")) _ (λ is_out. gives_either is_out _ None (way_spelled (Some Outward) _ refl) (way_spelled None [] refl))))

quick_is : (b : Bool) → Spelled (if_there (codes "quick")) (quick_words b)
quick_is true = quick_spelled
quick_is false = not_quick_spelled

label_is : (start : Start) (l : Option Word) → LabelIs start l → Spelled (a_label true) (label_words l)
label_is start None so = unlabelled_spelled true
label_is start (Some l) (plain, n, read) =
    let found = name_found 63 l n read in
    label_spelled l l (label_only l l (subst (IsName 63) found.1 found.0, inl refl))

closing_is : (k : Bool) (start : Start) (ws : List Word) → ((keeps : Bool) → Spelled (a_state k) (state_words start keeps)) → AreClosing start ws → Closing k true ws
closing_is k start ws states c =
    record { state = state_words start c.keeps; label = label_words c.label; states = states c.keeps; labels = label_is start c.label c.good; words = c.words }

rule_of_kept : (k : Bool) (start : Start) (first : Word) (p : Place) → Opens k true (first ∷ []) → ((keeps : Bool) → Spelled (a_state k) (state_words start keeps)) → Walks keeping (rule_of start first p)
unfolding rule_of
rule_of_kept k start first p opens states =
    good_then IsWay direction _ yields_direction (walks_direction keeping basics)
    (λ d way. on log_and_quick _ (walks_log_and_quick keeping basics)
    (λ q. good_then (AreBoth start) (tests_and_options start) _ (yields_tests_and_options start) (walks_tests_and_options keeping basics start)
    (λ x so. on end_line _ (walks_end_line keeping basics) (λ _. walks_within keeping basics _
    (λ within. rule_kept within (product_of p (rule_opening first d q) x.0 x.1)
    (product_is p k true (rule_opening first d q) x.0 x.1
    (record { start = first ∷ []; way = direction_words d; quick = quick_words q; opens = opens; ways = way; quicks = quick_is q; words = refl })
    so.0 (closing_is k start x.1 states so.1)))))))

pass_states : (start : Start) → state_words start true ≡ codes "keep" ∷ codes "state" ∷ [] → state_words start false ≡ codes "no" ∷ codes "state" ∷ [] → (keeps : Bool) → Spelled (a_state true) (state_words start keeps)
pass_states start keep none true = subst (Spelled (a_state true)) (sym keep) keep_spelled
pass_states start keep none false = subst (Spelled (a_state true)) (sym none) no_state_spelled

pass_kept : (start : Start) (p : Place) → state_words start true ≡ codes "keep" ∷ codes "state" ∷ [] → state_words start false ≡ codes "no" ∷ codes "state" ∷ [] → Walks keeping (rule_of start (codes "pass") p)
pass_kept start p keep none = rule_of_kept true start (codes "pass") p pass_opens (pass_states start keep none)

block_kept : (start : Start) (p : Place) → ((keeps : Bool) → state_words start keeps ≡ []) → Walks keeping (rule_of start (codes "block") p)
block_kept start p none = rule_of_kept false start (codes "block") p block_opens (λ keeps. subst (Spelled (a_state false)) (sym (none keeps)) stateless_spelled)

kept_rule : Walks keeping rule
unfolding rule
kept_rule = on token _ (walks_token keeping basics) (λ t. walks_if keeping basics (is_word (codes "block") t) _ _
    (on block_policy _ (walks_block_policy keeping basics) (λ _. block_kept _ t.place (λ keeps. refl))) (pass_kept _ t.place refl refl))

-- ---- "anchor"

digits_name : (b : ℕ) → is_digit b ≡ true → is_name_byte b ≡ true
digits_name b is = grind (arith, nat_tests)

number_is_name : (w : Word) (n : ℕ) → number_of 20 w ≡ Some n → list_all is_name_byte w ≡ true
number_is_name w n is =
    let digits : list_all is_digit w ≡ true = grind (arith, and_parts) in
    list_all-from_AllPass is_name_byte w (λ k d within. digits_name (slice_index_or w k d) (AllPass-from_list_all is_digit w digits k d within))

abbrev unnamed : ℕ → Word
unnamed n = codes "_" ++ decimal n

unnamed_component : (n : ℕ) → n < 2 ^ 64 → IsComponent (unnamed n)
unnamed_component n few =
    let number = decimal_is_IsNumeral n few in
    let short : length (decimal n) ≤ 20 = length-decimal-le 20 n (omega arith) (on_below n (2 ^ 64) (10 ^ 20) few (lit≤ tt)) few in
    let read : number_of 20 (decimal n) ≡ Some n = number_only 20 (decimal n) n (record { digits = number.0; few = short; value = number.1 }) in
    record {
      some = omega arith;
      short = omega (arith, short);
      bytes = number_is_name (decimal n) n read;
      no_dots = λ same. let head : 95 ≡ 46 = ap (λ (w : Word). slice_index_or w 0 0) same in omega (arith, head);
      no_dash = λ same. let head : 95 ≡ 45 = ap (λ (w : Word). slice_index_or w 0 0) same in omega (arith, head);
    }

unnamed_is : (n : ℕ) → n < 2 ^ 64 → IsNamedAnchor (unnamed n)
unnamed_is n few =
    let w : Word = unnamed n in
    let part : IsComponent w = unnamed_component n few in
    let names : IsNames w = record { parts = w ∷ []; each = (part, tt); some = omega arith; few = omega arith; joined = refl } in
    let whole : w ++ [] ≡ w = append-nil w in
    let is : IsReference (refers w false) = record { names = names; short = omega (arith, ap length whole, part.short) } in
    let read : reference_of (in_quotes w) ≡ Ok (refers w false) = spelled_is_read (in_quotes w) (refers w false) (is, inr (ap in_quotes (sym whole))) in
    ap no_fault read

reference_there : (r : Result PlainReference Kind) → no_fault r ≡ None → (x : PlainReference) × (r ≡ Ok x)
reference_there (Ok x) is = (x, refl)
reference_there (Err e) is = absurd (cc)

-- the name of braces, or of none, is one of an anchor, if braces are few
abbrev Names : Word × State → Type 0
Names y = Few y.1.tree → IsNamedAnchor y.0

record YieldsName (read : Reads Word) : Type 0 where
  named : (s : State) (n : Word) (t : State) → read s ≡ Ok (n, t) → Names (n, t)

name_by : {A : Type 0} → (next_read : A → Reads Word) (r : Result (A × State) Stop) → ((x : A) → YieldsName (next_read x)) → (n : Word) (t : State) → (r >>= λ (x, u). next_read x u) ≡ Ok (n, t) → Names (n, t)
name_by next_read (Ok (x, u)) all n t is = (all x).named u n t is
name_by next_read (Err e) all n t is = absurd (cc)

name_after : {A : Type 0} → (read : Reads A) (next_read : A → Reads Word) → ((x : A) → YieldsName (next_read x)) → YieldsName (read >=> next_read)
name_after read next_read all = record { named = λ s n t is. name_by next_read (read s) all n t is }

gives_name : (w : Word) → IsNamedAnchor w → YieldsName (giving w)
gives_name w so = record { named = λ s n t is few. let pair : (w, s) ≡ (n, t) = cc in subst IsNamedAnchor (ap (λ (y : Word × State). y.0) pair) so }

no_name : (e : State → Stop) → YieldsName (λ s. Err (e s))
no_name e = record { named = λ s n t is. absurd (cc) }

name_if : (b : Bool) (r q : Reads Word) → YieldsName r → YieldsName q → YieldsName (cond b r q)
name_if true r q first other = first
name_if false r q first other = other

abbrev word_of : Result (Word × State) Stop → Result Word Stop
word_of (Ok (w, t)) = Ok w
word_of (Err e) = Err e

abbrev braces_of : Result (Word × State) Stop → ℕ
braces_of (Ok (w, t)) = length t.tree.braces
braces_of (Err e) = 0

-- these braces are opened
opened_by : (p : Place) (depth : ℕ) (u : State) (w n : Word) (t : State) → (enter p depth w >=> λ _. giving w) u ≡ Ok (n, t) → (w ≡ n) × (length t.tree.braces ≡ length u.tree.braces + 1)
unfolding enter
opened_by p depth u w n t is =
    let same : ◌≡◌ {A = Result Word Stop} (Ok w) (Ok n) = ap word_of is in
    let one : w ≡ n = cc in
    (one, sym (ap braces_of is) ∙ length_push u.tree.braces _)

named_by : (p : Place) (depth : ℕ) (b : Bool) (e : Stop) (w : Word) (u : State) (n : Word) (t : State) → IsNamedAnchor w → (from (if b then Err e else Ok w) >=> λ m. enter p depth m >=> λ _. giving m) u ≡ Ok (n, t) → Names (n, t)
named_by p depth true e w u n t so is few = absurd (cc)
named_by p depth false e w u n t so is few = subst IsNamedAnchor (opened_by p depth u w n t is).0 so

number_named : (p : Place) (depth : ℕ) (name : Option Token) (u : State) (n : Word) (t : State) → MayBeNamed name → (from (name_in_braces (next_number u) name) >=> λ m. enter p depth m >=> λ _. giving m) u ≡ Ok (n, t) → Names (n, t)
number_named p depth None u n t so is few =
    let w : Word = unnamed (length u.tree.braces + 1) in
    let opened = opened_by p depth u w n t is in
    subst IsNamedAnchor opened.0 (unnamed_is (length u.tree.braces + 1) (subst (λ (k : ℕ). k < 2 ^ 64) opened.1 few))
number_named p depth (Some x) u n t so is few = named_by p depth (has_slash (text_of x.text)) _ (text_of x.text) u n t so is few

open_named : (p : Place) (depth : ℕ) (name : Option Token) → MayBeNamed name → YieldsName (open_braces p depth name)
unfolding open_braces
open_named p depth name so = name_after newline_after_brace _ (λ _. record { named = λ u n t is. number_named p depth name u n t so is })

alone_named : (p : Place) (name : Option Token) → MayBeNamed name → YieldsName (name_alone p name)
unfolding name_alone
alone_named p None so = no_name _
alone_named p (Some x) so = name_after end_line _ (λ _. gives_name (text_of x.text) so)

braces_named : (p : Place) (depth : ℕ) (name : Option Token) → MayBeNamed name → YieldsName (braces_or_line p depth name)
unfolding braces_or_line
braces_named p depth name so = name_after (takes_symbol (codes "{")) _ (λ has. name_if has (open_braces p depth name) (name_alone p name) (open_named p depth name so) (alone_named p name so))

-- what an anchor rule has for options
anchor_label : (start : Start) (l : Option Word) → is_anchor start ≡ true → LabelIs start l → Spelled (a_label false) (label_words l)
anchor_label start None is so = unlabelled_spelled false
anchor_label start (Some l) is (plain, n, read) = absurd (cc (is, plain))

anchor_closing : (start : Start) (ws : List Word) → is_anchor start ≡ true → ((keeps : Bool) → state_words start keeps ≡ []) → AreClosing start ws → Closing false false ws
anchor_closing start ws is none c =
    record { state = state_words start c.keeps; label = label_words c.label; states = subst (Spelled (a_state false)) (sym (none c.keeps)) stateless_spelled; labels = anchor_label start c.label is c.good; words = c.words }

anchor_opening_is : (n : Word) (d : Way) (q : Bool) → IsNamedAnchor n → IsWay d → Opening false false (anchor_opening n d q)
anchor_opening_is n d q named way =
    let read = reference_there (reference_of (in_quotes n)) named in
    record { start = codes "anchor" ∷ in_quotes n ∷ []; way = direction_words d; quick = quick_words q; opens = anchor_opens (in_quotes n) read.0 read.1; ways = way; quicks = quick_is q; words = refl }

-- the rule of an anchor, behind its name
anchor_by : (p : Place) (within : ℕ) (d : Way) (q : Bool) (ts : Tests) (cs : List Word) (s : State) (r : Result (Word × State) Stop) → IsWay d → AreTests ts → Closing false false cs → ((n : Word) (t : State) → r ≡ Ok (n, t) → Names (n, t)) → After keeping s r
    → After keeping s (r >>= λ (n, t). keep_rule within (product_of p (anchor_opening n d q) ts cs) t)
unfolding keep_rule
anchor_by p within d q ts cs s (Ok (n, t)) way tests closing names after = (
  after.0,
  λ few well. let before = after.1 few well in (
    All-push (λ (w : Written). AllSpelled w.product.lists) t.tree.rules (record { within = within; product = product_of p (anchor_opening n d q) ts cs }) before.0
        (product_is p false false (anchor_opening n d q) ts cs (anchor_opening_is n d q (names n t refl few) way) tests closing),
    before.1,
  ),
)
anchor_by p within d q ts cs s (Err e) way tests closing names after = tt

anchor_after : (p : Place) (depth within : ℕ) (name : Option Token) (d : Way) (q : Bool) (ts : Tests) (cs : List Word) → MayBeNamed name → IsWay d → AreTests ts → Closing false false cs
    → Walks keeping (braces_or_line p depth name >=> λ n. keep_rule within (product_of p (anchor_opening n d q) ts cs))
anchor_after p depth within name d q ts cs named way tests closing = record {
  walks = λ s. anchor_by p within d q ts cs s (braces_or_line p depth name s) way tests closing ((braces_named p depth name named).named s) ((walks_braces_or_line keeping basics p depth name).walks s);
}

anchor_options : (start : Start) (p : Place) (depth : ℕ) (name : Option Token) (d : Way) (q : Bool) → is_anchor start ≡ true → ((keeps : Bool) → state_words start keeps ≡ []) → MayBeNamed name → IsWay d
    → Walks keeping (tests_and_options start >=> λ x. looking (λ s. s.within) >=> λ within. braces_or_line p depth name >=> λ n. keep_rule within (product_of p (anchor_opening n d q) x.0 x.1))
anchor_options start p depth name d q is none named way =
    good_then (AreBoth start) (tests_and_options start) _ (yields_tests_and_options start) (walks_tests_and_options keeping basics start)
    (λ x so. walks_within keeping basics _ (λ within. anchor_after p depth within name d q x.0 x.1 named way so.0 (anchor_closing start x.1 is none so.1)))

named_kept : (p : Place) (depth : ℕ) (name : Option Token) → MayBeNamed name → Walks keeping (named_anchor p depth name)
unfolding named_anchor
named_kept p depth name named =
    good_then IsWay direction _ yields_direction (walks_direction keeping basics)
    (λ d way. on (takes_word (codes "quick")) _ (walks_takes_word keeping basics (codes "quick"))
    (λ q. anchor_options _ p depth name d q refl (λ keeps. refl) named way))

kept_anchor : Walks keeping anchor
unfolding anchor
kept_anchor =
    on token _ (walks_token keeping basics) (λ t. on (shallow t.place) _ (walks_shallow keeping basics t.place)
    (λ depth. good_then MayBeNamed own_name _ yields_own_name (walks_own_name keeping basics) (λ name named. named_kept t.place depth name named)))

-- ---- skipped interfaces

skip_rule_is : (t : Token) → OnInterface t → AllSpelled (skip_rule t).lists
skip_rule_is t so =
    let opening : List Word = codes "pass" ∷ codes "quick" ∷ [] in
    let ts : Tests = record no_tests { interfaces = interface_words (t ∷ []) } in
    let closing : List Word = codes "no" ∷ codes "state" ∷ [] in
    product_is t.place true true opening ts closing
    (record { start = codes "pass" ∷ []; way = []; quick = codes "quick" ∷ []; opens = pass_opens; ways = way_spelled None [] refl; quicks = quick_spelled; words = refl })
    (record {
      interfaces = one_of (Spelled on_interface) (interface_word t) so;
      family = no_family_spelled;
      protocols = one_of (Spelled a_protocol) [] no_protocol_spelled;
      source = any_is_side;
      destination = any_is_side;
    })
    (record { state = closing; label = []; states = no_state_spelled; labels = unlabelled_spelled true; words = refl })

skip_one_kept : (t : Token) → OnInterface t → Walks keeping (skip_one t)
unfolding skip_one
skip_one_kept t so = on _ _ (walks_leave_out keeping basics t.place (left_out.Skip (text_of t.text))) (λ _. skip_kept (skip_rule t) (skip_rule_is t so))

skip_each_kept : (ts : List Token) → All OnInterface ts → Walks keeping (skip_each ts)
unfolding skip_each
skip_each_kept [] all = walks_giving keeping basics tt
skip_each_kept (t ∷ ts) all = on (skip_one t) _ (skip_one_kept t (all 0 t (omega arith))) (λ _. skip_each_kept ts (λ k d within. all (suc k) d (omega (arith, within))))

kept_skip : (option : Token) → Walks keeping (skip option)
unfolding skip
kept_skip option =
    on (in_main option) _ (walks_in_main keeping basics option) (λ _. on (expect_word (codes "on")) _ (walks_expect_word keeping basics (codes "on"))
    (λ _. on (interfaces >=> skip_each) _ (good_then (All OnInterface) interfaces skip_each yields_interfaces (walks_interfaces keeping basics) skip_each_kept) (λ _. walks_end_line keeping basics)))

-- ---- a whole file

rules : Rules keeping
rules = record { rules_read = either_walks keeping basics kept_rule kept_anchor; skip_read = kept_skip }

nothing_kept : (ts : List Token) (mode : Mode) (is_main : Bool) → Well (beginning ts mode is_main).tree
nothing_kept ts mode is_main = (All-nil (λ (w : Written). AllSpelled w.product.lists), All-nil (λ (w : Product). AllSpelled w.lists))

file_by : (s : State) (r : Result (Unit {0} × State) Stop) (p : Parsed) → Well s.tree → After keeping s r → (r >>= λ x. Ok (parsed_of x)) ≡ Ok p → Few p.tree → Well p.tree
file_by s (Ok (x, t)) p before after is few =
    let same : parsed_of (x, t) ≡ p = cc in
    let tree : t.tree ≡ p.tree = ap (λ (q : Parsed). q.tree) same in
    subst Well tree (after.1 (subst Few (sym tree) few) before)
file_by s (Err e) p before after is few = absurd (cc)

file_kept : (ts : List Token) (mode : Mode) (is_main : Bool) (p : Parsed) → parsed ts mode is_main ≡ Ok p → Few p.tree → Well p.tree
file_kept ts mode is_main p is few =
    file_by (beginning ts mode is_main) (lines (beginning ts mode is_main)) p (nothing_kept ts mode is_main) ((walks_lines keeping basics rules).walks (beginning ts mode is_main)) is few

pub rules_alone : ReadsSpelled → (ts : List Token) (mode : Mode) (is_main : Bool) (p : Parsed) → parsed ts mode is_main ≡ Ok p → length p.tree.braces < 2 ^ 64 → HasRulesAlone p.tree
rules_alone law ts mode is_main p is few =
    let all = file_kept ts mode is_main p is few in
    record { rules = λ k d within. lists_are_rules law _ (all.0 k d within); skips = λ k d within. lists_are_rules law _ (all.1 k d within) }
