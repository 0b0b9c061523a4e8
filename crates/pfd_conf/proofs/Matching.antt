-- Rules that match, one after another.
use Rattle.std.proofs.Common.{◌≡◌, ◌≢◌, ℕ, suc, ◌+◌, Bool, true, false, cond, List, [], ◌∷◌, ◌++◌, length, ◌==◌, Some, None, Result, Ok, Err, refl, sym, ap, ◌∙◌, subst, append_assoc, append-nil, add-one, arith, drop, get_or, ◌<◌, ◌≤◌}
use Rattle.std.specs.{Prelude.if◌then◌else◌, Result.IsErrAnd}
use Rattle.std.proofs.{Math.Seq.drop-cons, lemmas.List.drop_all}
use Rattle.std.proofs.lemmas.Bool.Decides.{nat_tests}
use Rattle.pf_addr.specs.declared.path.limits.TheConstants.{DEPTH_LIMIT}
use Rattle.pf_addr.specs.{Path.Paths.main, Path.Nested.path_within, Path.References.PlainReference}
use Rattle.pf_rule.specs.{Rules.PlainRule, Packets.PlainPacket}
use Rattle.pf_anchor.specs.{Rulesets.{PlainPlaced, ruled, rules_at, children, targets, IsMap}, Configurations.PlainConfig, Evaluation.{Tests, matching}, Laws.Evaluation.rulesets_at}
use Rattle.pf_anchor.proofs.Leading.{leads_to_these_alone}
use Rattle.pfd_conf.specs.declared.case.trace.{Matched.Matched, Traced.Traced, Cut.Cut, Came.Came}
use Rattle.pfd_conf.specs.declared.case.trace.Came.TheVariants as came
use Rattle.pfd_conf.specs.Case.Matches.{Part, nothing, unless_ended, and_then, in_turn, settled, rules_part, below, part_below, part_of_rulesets, part_of_rule, part_of_rules, part_of_ruleset, came_then, came_settled, IsTrace, Lists}

-- ---- how an evaluation goes on

then_then : (a b c : Came) → came_then (came_then a b) c ≡ came_then a (came_then b c)
then_then came.Ended b c = refl
then_then came.Nothing b c = refl
then_then came.Decided came.Ended c = refl
then_then came.Decided came.Nothing c = refl
then_then came.Decided came.Decided came.Nothing = refl
then_then came.Decided came.Decided came.Decided = refl
then_then came.Decided came.Decided came.Ended = refl

then_nothing : (a : Came) → came_then a came.Nothing ≡ a
then_nothing came.Ended = refl
then_nothing came.Nothing = refl
then_nothing came.Decided = refl

-- ---- several in turn

-- of the whole part so much is listed and came, and the rest is left
pub record Goes (old : List Matched) (whole : Part) (listed : List Matched) (c : Came) (rest : Part) : Type 0 where
  pub all : old ++ whole.0 ≡ listed ++ rest.0
  pub came_all : whole.1 ≡ came_then c rest.1
  pub going : c ≢ came.Ended

pub begun : (old : List Matched) (whole : Part) → Goes old whole old came.Nothing whole
begun old whole = record { all = refl; came_all = refl; going = λ is. cc (is) }

-- what is left behind one more that didn't end
left_open : (c k : Came) (rest : List Matched) → came_then c k ≢ came.Ended → unless_ended k rest ≡ rest
left_open c came.Nothing rest going = refl
left_open c came.Decided rest going = refl
left_open came.Ended came.Ended rest going = absurd (going refl)
left_open came.Nothing came.Ended rest going = absurd (going refl)
left_open came.Decided came.Ended rest going = absurd (going refl)

-- what is left behind one that ended
left_ended : (c k : Came) (rest : List Matched) → c ≢ came.Ended → came_then c k ≡ came.Ended → unless_ended k rest ≡ []
left_ended c came.Ended rest going is = refl
left_ended came.Ended came.Nothing rest going is = absurd (going refl)
left_ended came.Ended came.Decided rest going is = absurd (going refl)
left_ended came.Nothing came.Nothing rest going is = cc (is)
left_ended came.Nothing came.Decided rest going is = cc (is)
left_ended came.Decided came.Nothing rest going is = cc (is)
left_ended came.Decided came.Decided rest going is = cc (is)

regrouped : (old listed one new : List Matched) (whole rest : List Matched) → old ++ whole ≡ listed ++ (one ++ rest) → listed ++ one ≡ new → old ++ whole ≡ new ++ rest
regrouped old listed one new whole rest is here = is ∙ sym (append_assoc listed one rest) ∙ ap (λ (l : List Matched). l ++ rest) here

came_more : (whole c k d : Came) → whole ≡ came_then c (came_then k d) → whole ≡ came_then (came_then c k) d
came_more whole c k d is = is ∙ sym (then_then c k d)

pub one_more : (old : List Matched) (whole : Part) (listed new : List Matched) (c k : Came) (one rest : Part) →
    Goes old whole listed c (and_then one rest) → Lists (Ok k) listed new one → came_then c k ≢ came.Ended → Goes old whole new (came_then c k) rest
one_more old whole listed new c k one rest g more going = record {
  all = regrouped old listed one.0 new whole.0 (unless_ended one.1 rest.0) g.all more.0
      ∙ ap (λ (l : List Matched). new ++ l) (left_open c one.1 rest.0 (subst (λ (q : Came). came_then c q ≢ came.Ended) more.1 going));
  came_all = came_more whole.1 c one.1 rest.1 g.came_all ∙ ap (λ (q : Came). came_then (came_then c q) rest.1) (sym more.1);
  going = going;
}

ended_then : (c d : Came) → c ≡ came.Ended → came_then c d ≡ c
ended_then c d is = ap (λ (q : Came). came_then q d) is ∙ sym is

pub one_ends : (old : List Matched) (whole : Part) (listed new : List Matched) (c k : Came) (one rest : Part) →
    Goes old whole listed c (and_then one rest) → Lists (Ok k) listed new one → came_then c k ≡ came.Ended → Lists (Ok (came_then c k)) old new whole
one_ends old whole listed new c k one rest g more ended = (
  regrouped old listed one.0 new whole.0 (unless_ended one.1 rest.0) g.all more.0
      ∙ ap (λ (l : List Matched). new ++ l) (left_ended c one.1 rest.0 g.going (ap (came_then c) (sym more.1) ∙ ended)) ∙ append-nil new,
  sym (came_more whole.1 c one.1 rest.1 g.came_all ∙ ap (λ (q : Came). came_then (came_then c q) rest.1) (sym more.1) ∙ ended_then (came_then c k) rest.1 ended),
)

pub one_cut : (old : List Matched) (whole : Part) (listed new : List Matched) (c : Came) (e : Cut) (one rest : Part) →
    Goes old whole listed c (and_then one rest) → Lists (Err e) listed new one → Lists (Err e) old new whole
one_cut old whole listed new c e one rest g more = (
  more.0 ++ unless_ended one.1 rest.0,
  regrouped old listed one.0 (new ++ more.0) whole.0 (unless_ended one.1 rest.0) g.all more.1 ∙ append_assoc new more.0 (unless_ended one.1 rest.0),
)

pub all_done : (old : List Matched) (whole : Part) (listed : List Matched) (c : Came) → Goes old whole listed c nothing → Lists (Ok c) old listed whole
all_done old whole listed c g = (g.all ∙ append-nil listed, sym (g.came_all ∙ then_nothing c))

-- nothing was listed before it was cut off
pub cut_at_once : (old new : List Matched) (e : Cut) (part : Part) → new ≡ old → Lists (Err e) old new part
cut_at_once old new e part is = (part.0, ap (λ (l : List Matched). l ++ part.0) (sym is))

-- the same, where what is left is one more and the others
pub goes_on : (old : List Matched) (whole : Part) (listed new : List Matched) (c k d : Came) (one rest next : Part) → Goes old whole listed c rest →
    rest ≡ and_then one next → Lists (Ok k) listed new one → d ≡ came_then c k → d ≢ came.Ended → Goes old whole new d next
goes_on old whole listed new c k d one rest next g at more is going =
    subst (λ (q : Came). Goes old whole new q next) (sym is)
    (one_more old whole listed new c k one next (subst (Goes old whole listed c) at g) more (λ e. going (is ∙ e)))

pub goes_end : (old : List Matched) (whole : Part) (listed new : List Matched) (c k d : Came) (one rest next : Part) → Goes old whole listed c rest →
    rest ≡ and_then one next → Lists (Ok k) listed new one → d ≡ came_then c k → d ≡ came.Ended → Lists (Ok d) old new whole
goes_end old whole listed new c k d one rest next g at more is ended =
    subst (λ (q : Came). Lists (Ok q) old new whole) (sym is)
    (one_ends old whole listed new c k one next (subst (Goes old whole listed c) at g) more (sym is ∙ ended))

pub goes_cut : (r : Result Came Cut) (why : Cut → Type 0) (old : List Matched) (whole : Part) (listed new : List Matched) (c : Came) (e : Cut) (one rest next : Part) →
    IsErrAnd r why → Goes old whole listed c rest → rest ≡ and_then one next → Lists (Err e) listed new one → Lists r old new whole
goes_cut (Ok k) why old whole listed new c e one rest next is g at more = absurd is
goes_cut (Err f) why old whole listed new c e one rest next is g at more =
    one_cut old whole listed new c e one next (subst (Goes old whole listed c) at g) more

pub none_cut : (r : Result Came Cut) (why : Cut → Type 0) (old new : List Matched) (part : Part) → IsErrAnd r why → new ≡ old → Lists r old new part
none_cut (Ok k) why old new part is same = absurd is
none_cut (Err f) why old new part is same = cut_at_once old new f part same

pub goes_done : (old : List Matched) (whole : Part) (listed : List Matched) (c : Came) (rest : Part) → Goes old whole listed c rest → rest ≡ nothing →
    Lists (Ok c) old listed whole
goes_done old whole listed c rest g none = all_done old whole listed c (subst (Goes old whole listed c) none g)

pub below_one_more : (left : ℕ) (c : List PlainPlaced) (tests : Tests) (e : PlainPlaced) →
    below (left + 1) c tests e ≡ rules_part (below left c tests) c tests e.0 0 e.1
unfolding below
below_one_more left c tests e = rw add-one refl

-- ---- the rules of a ruleset, and rulesets in turn

drop_item : {X : Type 0} → (xs : List X) (i : ℕ) (x : X) → i < length xs → x ≡ get_or xs i x → drop i xs ≡ x ∷ drop (i + 1) xs
drop_item {X} xs i x in_list here =
    drop-cons xs i x in_list ∙ ap (λ (y : X). y ∷ drop (suc i) xs) (sym here) ∙ ap (λ (n : ℕ). x ∷ drop n xs) (sym (add-one i))

pub rules_begun : (old : List Matched) (left : ℕ) (c : PlainConfig) (packet : PlainPacket) (p : List ℕ) (rs : List PlainRule) → rs ≡ rules_at p c.rulesets →
    Goes old (part_of_ruleset left c packet p) old came.Nothing (part_of_rules left c packet p 0 rs)
rules_begun old left c packet p rs is =
    subst (λ (qs : List PlainRule). Goes old (part_of_ruleset left c packet p) old came.Nothing (part_of_rules left c packet p 0 qs)) (sym is)
    (begun old (part_of_ruleset left c packet p))

pub rules_step : (left : ℕ) (c : PlainConfig) (packet : PlainPacket) (p : List ℕ) (rs : List PlainRule) (n : ℕ) (r : PlainRule) → n < length rs →
    r ≡ get_or rs n r → part_of_rules left c packet p n (drop n rs)
    ≡ and_then (part_of_rule left c packet p n r) (part_of_rules left c packet p (n + 1) (drop (n + 1) rs))
rules_step left c packet p rs n r there here = ap (part_of_rules left c packet p n) (drop_item rs n r there here)

pub rules_done : (left : ℕ) (c : PlainConfig) (packet : PlainPacket) (p : List ℕ) (rs : List PlainRule) (n : ℕ) → length rs ≤ n →
    part_of_rules left c packet p n (drop n rs) ≡ nothing
rules_done left c packet p rs n past = ap (part_of_rules left c packet p n) (drop_all n rs past)

pub children_begun : (old : List Matched) (left : ℕ) (c : PlainConfig) (packet : PlainPacket) (qs ps : List (List ℕ)) → qs ≡ ps →
    Goes old (part_of_rulesets left c packet (rulesets_at c.rulesets ps)) old came.Nothing (part_of_rulesets left c packet (rulesets_at c.rulesets qs))
children_begun old left c packet qs ps is =
    subst (λ (xs : List (List ℕ)). Goes old (part_of_rulesets left c packet (rulesets_at c.rulesets ps)) old came.Nothing (part_of_rulesets left c packet (rulesets_at c.rulesets xs)))
    (sym is) (begun old (part_of_rulesets left c packet (rulesets_at c.rulesets ps)))

pub children_step : (left : ℕ) (c : PlainConfig) (packet : PlainPacket) (ps : List (List ℕ)) (n : ℕ) (p : List ℕ) → n < length ps → p ≡ get_or ps n p →
    part_of_rulesets (left + 1) c packet (rulesets_at c.rulesets (drop n ps))
    ≡ and_then (part_of_ruleset left c packet p) (part_of_rulesets (left + 1) c packet (rulesets_at c.rulesets (drop (n + 1) ps)))
children_step left c packet ps n p there here =
    ap (λ (qs : List (List ℕ)). part_of_rulesets (left + 1) c packet (rulesets_at c.rulesets qs)) (drop_item ps n p there here)
    ∙ ap (λ (part : Part). and_then part (part_of_rulesets (left + 1) c packet (rulesets_at c.rulesets (drop (n + 1) ps))))
    (below_one_more left c.rulesets (matching c.tables packet) (ruled p (rules_at p c.rulesets)))

pub children_done : (left : ℕ) (c : PlainConfig) (packet : PlainPacket) (ps : List (List ℕ)) (n : ℕ) → length ps ≤ n →
    part_of_rulesets left c packet (rulesets_at c.rulesets (drop n ps)) ≡ nothing
children_done left c packet ps n past = ap (λ (qs : List (List ℕ)). part_of_rulesets left c packet (rulesets_at c.rulesets qs)) (drop_all n ps past)

-- ---- one rule

pub no_match : (b : Bool) (m : Matched) (old new : List Matched) (part : Part) → false ≡ b → new ≡ old ++ [] →
    Lists (Ok came.Nothing) old new (if b then part else nothing)
no_match true m old new part is here = absurd (cc (is))
no_match false m old new part is here = (sym here, refl)

pub a_match : (b quick : Bool) (m : Matched) (old mid new : List Matched) (within : Part) (c : Came) → true ≡ b → mid ≡ old ++ m ∷ [] →
    Lists (Ok c) mid new within → Lists (Ok (came_settled quick c)) old new (if b then settled m quick within else nothing)
a_match false quick m old mid new within c is here more = absurd (cc (is))
a_match true quick m old mid new within c is here more =
    (sym (append_assoc old (m ∷ []) within.0) ∙ ap (λ (l : List Matched). l ++ within.0) (sym here) ∙ more.0, ap (came_settled quick) more.1)

pub a_match_cut : (b quick : Bool) (m : Matched) (old mid new : List Matched) (within : Part) (e : Cut) → true ≡ b → mid ≡ old ++ m ∷ [] →
    Lists (Err e) mid new within → Lists (Err e) old new (if b then settled m quick within else nothing)
a_match_cut false quick m old mid new within e is here more = absurd (cc (is))
a_match_cut true quick m old mid new within e is here more =
    (more.0, sym (append_assoc old (m ∷ []) within.0) ∙ ap (λ (l : List Matched). l ++ within.0) (sym here) ∙ more.1)

-- ---- levels

-- where no level is left, nothing comes
pub nothing_below : (c : List PlainPlaced) (tests : Tests) (es : List PlainPlaced) → in_turn (below 0 c tests) es ≡ nothing
unfolding below
nothing_below c tests [] = refl
nothing_below c tests (e ∷ es) = nothing_below c tests es

unless_nothing : (c : Came) → unless_ended c [] ≡ []
unless_nothing came.Nothing = refl
unless_nothing came.Decided = refl
unless_nothing came.Ended = refl

and_nothing : (x : Part) → and_then x nothing ≡ x
and_nothing x = λ i. ((ap (λ (l : List Matched). x.0 ++ l) (unless_nothing x.1) ∙ append-nil x.0) i, then_nothing x.1 i)

-- the one ruleset that a reference leads to, which may have no rules
pub one_alone : (part : PlainPlaced → Part) (p : List ℕ) (rs : List PlainRule) → part (ruled p []) ≡ nothing →
    in_turn part (cond (length rs == 0) [] (ruled p rs ∷ [])) ≡ part (ruled p rs)
one_alone part p [] none = sym none
one_alone part p (r ∷ rs) none =
    let filled : (length (r ∷ rs) == 0) ≡ false = grind (arith, nat_tests) in
    ap (λ (b : Bool). in_turn part (cond b [] (ruled p (r ∷ rs) ∷ []))) filled ∙ and_nothing (part (ruled p (r ∷ rs)))

-- what a reference leads to, by wildcard and not
pub one_led : (c : PlainConfig) (packet : PlainPacket) (p base : List ℕ) (s : PlainReference) (left levels : ℕ) → left + 1 ≡ levels → IsMap c.rulesets →
    path_within p s.names ≡ Some base → s.wildcard ≡ false →
    part_of_rulesets levels c packet (targets c.rulesets p s) ≡ part_of_ruleset left c packet base
one_led c packet p base s left levels more is at kind =
    let tests = matching c.tables packet in
    let empty : below (left + 1) c.rulesets tests (ruled base []) ≡ nothing = below_one_more left c.rulesets tests (ruled base []) in
    ap (λ (n : ℕ). in_turn (below n c.rulesets tests) (targets c.rulesets p s)) (sym more)
    ∙ ap (in_turn (below (left + 1) c.rulesets tests)) ((leads_to_these_alone c.rulesets p s is).one base at kind)
    ∙ one_alone (below (left + 1) c.rulesets tests) base (rules_at base c.rulesets) empty
    ∙ below_one_more left c.rulesets tests (ruled base (rules_at base c.rulesets))

pub children_led : (c : PlainConfig) (packet : PlainPacket) (p base : List ℕ) (s : PlainReference) (left levels : ℕ) → left + 1 ≡ levels → IsMap c.rulesets →
    path_within p s.names ≡ Some base → s.wildcard ≡ true →
    part_of_rulesets levels c packet (targets c.rulesets p s) ≡ part_of_rulesets (left + 1) c packet (rulesets_at c.rulesets (children c.rulesets base))
children_led c packet p base s left levels more is at kind =
    ap (λ (n : ℕ). part_of_rulesets n c packet (targets c.rulesets p s)) (sym more)
    ∙ ap (part_of_rulesets (left + 1) c packet) ((leads_to_these_alone c.rulesets p s is).by_wildcard base at kind)

pub none_led : (c : PlainConfig) (packet : PlainPacket) (p : List ℕ) (s : PlainReference) (levels : ℕ) → IsMap c.rulesets →
    path_within p s.names ≡ None → part_of_rulesets levels c packet (targets c.rulesets p s) ≡ nothing
none_led c packet p s levels is at = ap (part_of_rulesets levels c packet) ((leads_to_these_alone c.rulesets p s is).none at)

pub no_level : (c : PlainConfig) (packet : PlainPacket) (p : List ℕ) (s : PlainReference) (levels : ℕ) → levels ≡ 0 →
    part_of_rulesets levels c packet (targets c.rulesets p s) ≡ nothing
no_level c packet p s levels none =
    ap (λ (n : ℕ). part_of_rulesets n c packet (targets c.rulesets p s)) none
    ∙ nothing_below c.rulesets (matching c.tables packet) (targets c.rulesets p s)

-- nothing is listed
pub lists_nothing : (old : List Matched) (part : Part) → part ≡ nothing → Lists (Ok came.Nothing) old old part
lists_nothing old part is = (ap (λ (q : Part). old ++ q.0) is ∙ append-nil old, ap (λ (q : Part). q.1) (sym is))

-- ---- a packet

main_part : (c : PlainConfig) (packet : PlainPacket) →
    part_below (DEPTH_LIMIT + 1) c packet (ruled main (rules_at main c.rulesets)) ≡ part_of_ruleset DEPTH_LIMIT c packet main
main_part c packet = below_one_more DEPTH_LIMIT c.rulesets (matching c.tables packet) (ruled main (rules_at main c.rulesets))

pub whole_trace : (c : PlainConfig) (packet : PlainPacket) (k : Came) (old : List Matched) (t : Traced) → old ≡ [] →
    Lists (Ok k) old t.matched.items (part_of_ruleset DEPTH_LIMIT c packet main) → IsTrace c packet t
whole_trace c packet k old t none listed = record {
  others = [];
  all = ap (λ (q : Part). q.0) (main_part c packet) ∙ ap (λ (l : List Matched). l ++ (part_of_ruleset DEPTH_LIMIT c packet main).0) (sym none) ∙ listed.0
      ∙ sym (append-nil t.matched.items);
  whole = λ is. refl;
}

pub front_trace : (c : PlainConfig) (packet : PlainPacket) (e : Cut) (old : List Matched) (t : Traced) → old ≡ [] → t.is_whole ≡ false →
    Lists (Err e) old t.matched.items (part_of_ruleset DEPTH_LIMIT c packet main) → IsTrace c packet t
front_trace c packet e old t none cut listed = record {
  others = listed.0;
  all = ap (λ (q : Part). q.0) (main_part c packet) ∙ ap (λ (l : List Matched). l ++ (part_of_ruleset DEPTH_LIMIT c packet main).0) (sym none) ∙ listed.1;
  whole = λ is. absurd (cc (cut, is));
}
