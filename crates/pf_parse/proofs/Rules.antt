-- A rule is kept once all of its parts are read.
use Rattle.std.proofs.Common.{◌≡◌, ℕ, Bool, List, codes, Option, Result, Ok, refl, sym, ap, ◌∙◌, subst}
use Rattle.pf_tokens.specs.declared.{place.Place.Place, token.Token.Token}
use Rattle.pf_parse.specs.declared.{fault.Stop.Stop, openings.Direction.Direction, tree.Product.Product, tree.Start.Start, tree.Start.TheVariants.Anchor, tree.Tests.Tests}
use Rattle.pf_parse.specs.{States.State, Product.product_of}
use Rattle.pf_parse.specs.Reading.{Word, Takes, takes_word, end_line}
use Rattle.pf_parse.specs.Options.{tests_and_options}
use Rattle.pf_parse.specs.Openings.{direction, log_and_quick}
use Rattle.pf_parse.specs.Anchors.{anchor_opening, braces_or_line, keep_rule, named_anchor}
use Rattle.pf_parse.specs.Lines.{rule_opening, rule_of}

-- the rule of these parts
product_is : (p : Place) (o opening : List Word) (ts : Tests) (cs : List Word) (product : Product) → opening ≡ o → product ≡ product_of p opening ts cs → product ≡ product_of p o ts cs
product_is p o opening ts cs product same is = is ∙ ap (λ (ws : List Word). product_of p ws ts cs) same

-- what keeps it is what reads it
kept_is : (within here : ℕ) (product rule : Product) (s t : State) (r : Result (Unit {0}) Stop) (read : Result (Unit {0} × State) Stop) → within ≡ here → product ≡ rule → read ≡ keep_rule here rule s → Takes r t (keep_rule within product s) → Takes r t read
kept_is within here product rule s t r read place same is kept =
    let P : Result (Unit {0} × State) Stop → Type 0 = λ q. Takes r t q in
    subst P (ap (λ (n : ℕ). keep_rule n product s) place ∙ ap (λ (q : Product). keep_rule here q s) same ∙ sym is) kept

rule_reads : (start : Start) (first : Word) (p : Place) (s s1 s2 s3 s4 : State) (d : Option Direction) (quick : Bool) (ts : Tests) (cs : List Word) → direction s ≡ Ok (d, s1) → log_and_quick s1 ≡ Ok (quick, s2) → tests_and_options start s2 ≡ Ok ((ts, cs), s3) → end_line s3 ≡ Ok (tt, s4) → rule_of start first p s ≡ keep_rule s4.within (product_of p (rule_opening first d quick) ts cs) s4
unfolding rule_of
rule_reads start first p s s1 s2 s3 s4 d quick ts cs directed begun tested ended = rw (directed, begun, tested, ended) refl

pub rule_kept : (start : Start) (first : Word) (p : Place) (s s1 s2 s3 s4 t : State) (d : Option Direction) (quick : Bool) (ts : Tests) (cs opening : List Word) (product : Product) (within : ℕ) (r : Result (Unit {0}) Stop) → direction s ≡ Ok (d, s1) → log_and_quick s1 ≡ Ok (quick, s2) → tests_and_options start s2 ≡ Ok ((ts, cs), s3) → end_line s3 ≡ Ok (tt, s4) → opening ≡ rule_opening first d quick → product ≡ product_of p opening ts cs → Takes r t (keep_rule within product s4) → within ≡ s4.within → Takes r t (rule_of start first p s)
rule_kept start first p s s1 s2 s3 s4 t d quick ts cs opening product within r directed begun tested ended opened is kept here =
    kept_is within s4.within product _ s4 t r _ here (product_is p (rule_opening first d quick) opening ts cs product opened is) (rule_reads start first p s s1 s2 s3 s4 d quick ts cs directed begun tested ended) kept

anchor_reads : (p : Place) (depth : ℕ) (name : Option Token) (s s1 s2 s3 s4 : State) (d : Option Direction) (quick : Bool) (ts : Tests) (cs : List Word) (n : Word) → direction s ≡ Ok (d, s1) → takes_word (codes "quick") s1 ≡ Ok (quick, s2) → tests_and_options Anchor s2 ≡ Ok ((ts, cs), s3) → braces_or_line p depth name s3 ≡ Ok (n, s4) → named_anchor p depth name s ≡ keep_rule s3.within (product_of p (anchor_opening n d quick) ts cs) s4
unfolding named_anchor
anchor_reads p depth name s s1 s2 s3 s4 d quick ts cs n directed begun tested named = rw (directed, begun, tested, named) refl

pub anchor_kept : (p : Place) (depth : ℕ) (name : Option Token) (s s1 s2 s3 s4 t : State) (d : Option Direction) (quick : Bool) (ts : Tests) (cs opening : List Word) (n text : Word) (product : Product) (within : ℕ) (r : Result (Unit {0}) Stop) → direction s ≡ Ok (d, s1) → takes_word (codes "quick") s1 ≡ Ok (quick, s2) → tests_and_options Anchor s2 ≡ Ok ((ts, cs), s3) → braces_or_line p depth name s3 ≡ Ok (n, s4) → text ≡ n → opening ≡ anchor_opening text d quick → product ≡ product_of p opening ts cs → Takes r t (keep_rule within product s4) → within ≡ s3.within → Takes r t (named_anchor p depth name s)
anchor_kept p depth name s s1 s2 s3 s4 t d quick ts cs opening n text product within r directed begun tested named spelled opened is kept here =
    let opens : opening ≡ anchor_opening n d quick = opened ∙ ap (λ (w : Word). anchor_opening w d quick) spelled in
    kept_is within s3.within product _ s4 t r _ here (product_is p (anchor_opening n d quick) opening ts cs product opens is) (anchor_reads p depth name s s1 s2 s3 s4 d quick ts cs n directed begun tested named) kept
