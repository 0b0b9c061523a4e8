-- Every rule has the place of the word with which it begins.
use Rattle.std.proofs.Common.{◌≡◌, ℕ, zero, suc, ◌+◌, ◌-◌, ◌==◌, ◌&&◌, ◌||◌, cond, Bool, true, false, List, [], ◌∷◌, drop, codes, Result, Ok, Err, refl, sym, ap, subst, ◌∙◌, arith}
use Rattle.std.proofs.lemmas.List.{drop-drop, Elements.All-push}
use Rattle.std.specs.List.{All, Contains}
use Rattle.pf_form.specs.Form.Forms.{◌>>=◌}
use Rattle.pf_tokens.specs.declared.{place.Place.Place, token.Token.Token}
use Rattle.pf_tokens.specs.Words.{is_newline, is_symbol}
use Rattle.pf_parse.specs.declared.{fault.LeftOut.LeftOut, fault.Remark.Remark, fault.Stop.Stop, parser.Mode.Mode, parser.Mode.TheVariants.{Strict, Lenient}, parser.Rank.Rank, statements.Parsed.Parsed, tree.Product.Product, tree.Written.Written}
use Rattle.pf_parse.specs.{States.State, Beginning.beginning, Laws.{begins_rule, BeginsAt}}
use Rattle.pf_parse.specs.Reading.{next, first_or, newline_at, after_token, rest_of, end_line, without_newlines, newlines, note, leave_out, leave_out_in, after_line, skip_line, to_parenthesis, expect_symbol, end_parentheses, in_order, unexpected}
use Rattle.pf_parse.specs.Anchors.{enter, shallow, keep_rule}
use Rattle.pf_parse.specs.Lines.{keep_table, keep_load, keep_skip, in_main, order_matters, lines, parsed_of, parsed}
use Rattle.pf_parse.proofs.Readers.{Kept, Follows, Keeps, Basics, keeps_lines}

-- ---- what is left is the end of a file

abbrev EndOf : List Token → List Token → Type 0
EndOf all ts = (n : ℕ) × (ts ≡ drop n all)

end_if : (all ts us : List Token) (b : Bool) → EndOf all ts → EndOf all us → EndOf all (cond b ts us)
end_if all ts us true first other = first
end_if all ts us false first other = other

end_after : (t : Token) (ts us : List Token) → EndOf ts us → EndOf (t ∷ ts) us
end_after t ts us (n, is) = (suc n, is)

newlines_end : (ts : List Token) → EndOf ts (without_newlines ts)
unfolding without_newlines
newlines_end [] = (0, refl)
newlines_end (t ∷ ts) = end_if (t ∷ ts) _ _ (is_newline t) (end_after t ts _ (newlines_end ts)) (0, refl)

parenthesis_end : (ts : List Token) → EndOf ts (to_parenthesis ts)
unfolding to_parenthesis
parenthesis_end [] = (0, refl)
parenthesis_end (t ∷ ts) =
    end_if (t ∷ ts) _ _ (is_newline t || is_symbol (codes ")") t) (0, refl) (end_after t ts _ (parenthesis_end ts))

line_end : (deep : ℕ) (ts : List Token) → EndOf ts (after_line deep ts)
unfolding after_line
line_end deep [] = (0, refl)
line_end deep (t ∷ ts) =
    end_if (t ∷ ts) _ _ (is_newline t && (deep == 0)) (0, refl)
    (end_if (t ∷ ts) _ _ (is_symbol (codes "}") t)
    (end_if (t ∷ ts) _ _ (deep == 0) (0, refl) (end_after t ts _ (line_end (deep - 1) ts)))
    (end_if (t ∷ ts) _ _ (is_symbol (codes "{") t) (end_after t ts _ (line_end (deep + 1) ts)) (end_after t ts _ (line_end deep ts))))

-- ---- what is known between two tokens

-- what is left is the end of these tokens, and each rule so far has the place of one of them that begins a rule
pub record Stands (all : List Token) (s : State) : Type 0 where
  pub at : ℕ
  pub left : s.left ≡ drop at all
  pub rules : All (λ (w : Written). BeginsAt all (w.product).place) (s.tree).rules

abbrev pub standing : List Token → Kept
standing all = record { other = λ s. s; Holds = Stands all; Begins = BeginsAt all }

on : (all : List Token) (s : State) (ts : List Token) → Stands all s → EndOf s.left ts → Stands all (record s { left = ts })
on all s ts stands (n, is) =
    record {
      at = stands.at + n;
      left = is ∙ ap (drop n) stands.left ∙ drop-drop n stands.at all;
      rules = stands.rules;
    }

first_in : (all : List Token) (n : ℕ) (t : Token) (ts : List Token) → drop n all ≡ t ∷ ts → Contains all t
first_in [] zero t ts is = cc
first_in [] (suc n) t ts is = cc
first_in (u ∷ us) zero t ts is = (0, omega arith, cc)
first_in (u ∷ us) (suc n) t ts is = let rest = first_in us n t ts is in (suc rest.0, omega (arith, rest.1), rest.2)

-- behind the last token there is only a newline, with which no rule begins
begun_at : (all : List Token) (p : Place) (n : ℕ) (ts : List Token) → drop n all ≡ ts → begins_rule (first_or (newline_at p) ts) ≡ true → BeginsAt all (first_or (newline_at p) ts).place
begun_at all p n [] is begins = cc
begun_at all p n (t ∷ ts) is begins = (t, first_in all n t ts is, refl, begins)

rest_end : (ts : List Token) → EndOf ts (rest_of ts)
rest_end [] = (0, refl)
rest_end (t ∷ ts) = (1, refl)

one_on : (all : List Token) (s : State) → Stands all s → Stands all (after_token s)
unfolding after_token
one_on all s stands = on all s (rest_of s.left) stands (rest_end s.left)

-- what touches neither tokens nor rules
beside : (all : List Token) (s t : State) → Stands all s → t.left ≡ s.left → (t.tree).rules ≡ (s.tree).rules → Stands all t
beside all s t stands same rules =
    record {
      at = stands.at;
      left = same ∙ stands.left;
      rules = let P : List Written → Type 0 = λ ws. All (λ (w : Written). BeginsAt all (w.product).place) ws in subst P (sym rules) stands.rules;
    }

-- ---- steps

refused_or_taken : {A : Type 0} → (all : List Token) (b : Bool) (e : Stop) (x : A) (s : State) → Stands all s → Follows {A = A} (standing all) (cond b (Err e) (Ok (x, s))) (cond b (Err e) (Ok (x, s)))
refused_or_taken all true e x s stands = tt
refused_or_taken all false e x s stands = (refl, stands)

taken_or_refused : {A : Type 0} → (all : List Token) (b : Bool) (e : Stop) (x : A) (s : State) → Stands all s → Follows {A = A} (standing all) (cond b (Ok (x, s)) (Err e)) (cond b (Ok (x, s)) (Err e))
taken_or_refused all true e x s stands = (refl, stands)
taken_or_refused all false e x s stands = tt

passed : (all : List Token) (b : Bool) (s : State) → Stands all s → Follows {A = Unit {0}} (standing all) (cond b (Ok (tt, after_token s)) (unexpected s)) (cond b (Ok (tt, after_token s)) (unexpected s))
passed all true s stands = (refl, one_on all s stands)
passed all false s stands = tt

notes : (all : List Token) (p : Place) (r : Remark) → Keeps (standing all) (note p r)
unfolding note
notes all p r = record { follows = λ s stands. (refl, beside all s _ stands refl refl) }

left_out_in : (all : List Token) (m : Mode) (p : Place) (what : LeftOut) (s : State) → Stands all s → Follows {A = Unit {0}} (standing all) (leave_out_in m p what s) (leave_out_in m p what s)
left_out_in all Strict p what s stands = tt
left_out_in all Lenient p what s stands = (notes all p _).follows s stands

leaves_out : (all : List Token) (p : Place) (what : LeftOut) → Keeps (standing all) (leave_out p what)
unfolding leave_out
leaves_out all p what = record { follows = λ s stands. left_out_in all s.mode p what s stands }

skips_line : (all : List Token) → Keeps (standing all) skip_line
unfolding skip_line end_line
skips_line all =
    record { follows = λ s stands. passed all _ (record s { left = after_line 0 s.left }) (on all s _ stands (line_end 0 s.left)) }

skips_parentheses : (all : List Token) → Keeps (standing all) (end_parentheses true)
unfolding expect_symbol
skips_parentheses all =
    record { follows = λ s stands. passed all _ (record s { left = to_parenthesis s.left }) (on all s _ stands (parenthesis_end s.left)) }

skips_newlines : (all : List Token) → Keeps (standing all) newlines
unfolding newlines
skips_newlines all = record { follows = λ s stands. (refl, on all s _ stands (newlines_end s.left)) }

orders : (all : List Token) (p : Place) (r : Rank) → Keeps (standing all) (in_order p r)
unfolding in_order
orders all p r =
    record { follows = λ s stands. refused_or_taken all _ _ tt (record s { rank = r }) (beside all s _ stands refl refl) }

knows_main : (all : List Token) (t : Token) → Keeps (standing all) (in_main t)
unfolding in_main
knows_main all t = record { follows = λ s stands. taken_or_refused all s.is_main _ tt s stands }

knows_depth : (all : List Token) (p : Place) → Keeps (standing all) (shallow p)
unfolding shallow
knows_depth all p = record { follows = λ s stands. taken_or_refused all _ _ s.depth s stands }

keeps_one : (all : List Token) (within : ℕ) (p : Product) → BeginsAt all p.place → Keeps (standing all) (keep_rule within p)
unfolding keep_rule
keeps_one all within p begins =
    record {
      follows = λ s stands. (
        refl,
        record {
          at = stands.at;
          left = stands.left;
          rules = All-push (λ (w : Written). BeginsAt all (w.product).place) (s.tree).rules (record { within = within; product = p }) stands.rules begins;
        },
      );
    }

begins_next : (all : List Token) (s : State) → Stands all s → begins_rule (next s) ≡ true → BeginsAt all (next s).place
unfolding next
begins_next all s stands begins = begun_at all s.end_place stands.at s.left (sym stands.left) begins

basics : (all : List Token) → Basics (standing all)
unfolding enter keep_table keep_load keep_skip order_matters
basics all = record {
  looks = λ s. refl;
  looks_on = λ s. refl;
  within = λ s. refl;
  number = λ s. refl;
  left = λ s. refl;
  taken = λ s stands. (refl, one_on all s stands);
  begins = begins_next all;
  newlines_taken = skips_newlines all;
  noted = notes all;
  left_out = leaves_out all;
  line_skipped = skips_line all;
  parenthesis = skips_parentheses all;
  ordered = orders all;
  order_set = λ b. record { follows = λ s stands. (refl, beside all s _ stands refl refl) };
  main_known = knows_main all;
  depth_known = knows_depth all;
  entered = λ p depth name. record { follows = λ s stands. (refl, beside all s _ stands refl refl) };
  braces_left = record { follows = λ s stands. (refl, beside all s _ stands refl refl) };
  table_kept = λ t. record { follows = λ s stands. (refl, beside all s _ stands refl refl) };
  load_kept = λ l. record { follows = λ s stands. (refl, beside all s _ stands refl refl) };
  skip_kept = λ p. record { follows = λ s stands. (refl, beside all s _ stands refl refl) };
  rule_kept = keeps_one all;
}

-- ---- a whole file

no_rules : (all : List Token) (mode : Mode) (is_main : Bool) → Stands all (beginning all mode is_main)
no_rules all mode is_main = record { at = 0; left = refl; rules = λ k d within. absurd (omega arith) }

rules_of : (all : List Token) (r : Result (Unit {0} × State) Stop) (p : Parsed) → Follows (standing all) r r → (r >>= λ x. Ok (parsed_of x)) ≡ Ok p → All (λ (w : Written). BeginsAt all (w.product).place) (p.tree).rules
rules_of all (Ok (x, t)) p (is, stands) taken =
    let same : (t.tree).rules ≡ (p.tree).rules = cc in
    let P : List Written → Type 0 = λ ws. All (λ (w : Written). BeginsAt all (w.product).place) ws in
    subst P same stands.rules
rules_of all (Err e) p h taken = cc

pub rules_begin : (ts : List Token) (mode : Mode) (is_main : Bool) (p : Parsed) → parsed ts mode is_main ≡ Ok p → All (λ (w : Written). BeginsAt ts (w.product).place) (p.tree).rules
rules_begin ts mode is_main p taken =
    rules_of ts (lines (beginning ts mode is_main)) p
    ((keeps_lines (standing ts) (basics ts)).follows (beginning ts mode is_main) (no_rules ts mode is_main)) taken
