-- What is taken strictly is taken leniently, with the same result.
use Rattle.std.proofs.Common.{◌≡◌, cond, Bool, true, false, List, Result, Ok, Err, refl}
use Rattle.pf_form.specs.Form.Forms.{◌>>=◌}
use Rattle.pf_tokens.specs.declared.{place.Place.Place, token.Token.Token}
use Rattle.pf_parse.specs.declared.{fault.LeftOut.LeftOut, fault.Stop.Stop, parser.Mode.Mode, parser.Mode.TheVariants.{Strict, Lenient}, parser.Rank.Rank, statements.Parsed.Parsed}
use Rattle.pf_parse.specs.States.{State}
use Rattle.pf_parse.specs.Beginning.{beginning}
use Rattle.pf_parse.specs.Reading.{next, second, after_token, end_line, newlines, note, leave_out, leave_out_in, after_line, skip_line, to_parenthesis, expect_symbol, end_parentheses, in_order, unexpected}
use Rattle.pf_parse.specs.Anchors.{enter, shallow, keep_rule}
use Rattle.pf_parse.specs.Lines.{keep_table, keep_load, keep_skip, in_main, order_matters, lines, parsed_of, parsed}
use Rattle.pf_parse.proofs.Readers.{Kept, Follows, Keeps, Basics, keeps_lines}

abbrev pub leniently : State → State
leniently s = record s { mode = Lenient }

abbrev pub lenient : Kept
lenient = record { other = leniently; Holds = λ s. s.mode ≡ Strict; Begins = λ p. Unit {0} }

-- ---- what is refused, or taken

refused_or_taken : {A : Type 0} → (b : Bool) (e : Stop) (x : A) (s : State) → s.mode ≡ Strict → Follows {A = A} lenient (cond b (Err e) (Ok (x, s))) (cond b (Err e) (Ok (x, leniently s)))
refused_or_taken true e x s strict = tt
refused_or_taken false e x s strict = (refl, strict)

taken_or_refused : {A : Type 0} → (b : Bool) (e : Stop) (x : A) (s : State) → s.mode ≡ Strict → Follows {A = A} lenient (cond b (Ok (x, s)) (Err e)) (cond b (Ok (x, leniently s)) (Err e))
taken_or_refused true e x s strict = (refl, strict)
taken_or_refused false e x s strict = tt

passed : (b : Bool) (s : State) → s.mode ≡ Strict → Follows {A = Unit {0}} lenient (cond b (Ok (tt, after_token s)) (unexpected s)) (cond b (Ok (tt, after_token (leniently s))) (unexpected (leniently s)))
unfolding after_token
passed true s strict = (refl, strict)
passed false s strict = tt

left_out_in : (m : Mode) (p : Place) (what : LeftOut) (s : State) → m ≡ Strict → Follows {A = Unit {0}} lenient (leave_out_in m p what s) (leave_out p what (leniently s))
left_out_in Strict p what s is = tt
left_out_in Lenient p what s is = cc

leaves_out : (p : Place) (what : LeftOut) → Keeps lenient (leave_out p what)
unfolding leave_out
leaves_out p what = record { follows = λ s strict. left_out_in s.mode p what s strict }

skips_line : Keeps lenient skip_line
unfolding skip_line end_line next
skips_line = record { follows = λ s strict. passed _ (record s { left = after_line 0 s.left }) strict }

skips_parentheses : Keeps lenient (end_parentheses true)
unfolding expect_symbol next
skips_parentheses = record { follows = λ s strict. passed _ (record s { left = to_parenthesis s.left }) strict }

orders : (p : Place) (r : Rank) → Keeps lenient (in_order p r)
unfolding in_order
orders p r = record { follows = λ s strict. refused_or_taken _ _ tt (record s { rank = r }) strict }

knows_main : (t : Token) → Keeps lenient (in_main t)
unfolding in_main
knows_main t = record { follows = λ s strict. taken_or_refused s.is_main _ tt s strict }

knows_depth : (p : Place) → Keeps lenient (shallow p)
unfolding shallow
knows_depth p = record { follows = λ s strict. taken_or_refused _ _ s.depth s strict }

basics : Basics lenient
unfolding next second after_token newlines note enter keep_rule keep_table keep_load keep_skip order_matters
basics = record {
  looks = λ s. refl;
  looks_on = λ s. refl;
  within = λ s. refl;
  number = λ s. refl;
  left = λ s. refl;
  taken = λ s strict. (refl, strict);
  begins = λ s strict is. tt;
  newlines_taken = record { follows = λ s strict. (refl, strict) };
  noted = λ p r. record { follows = λ s strict. (refl, strict) };
  left_out = leaves_out;
  line_skipped = skips_line;
  parenthesis = skips_parentheses;
  ordered = orders;
  order_set = λ b. record { follows = λ s strict. (refl, strict) };
  main_known = knows_main;
  depth_known = knows_depth;
  entered = λ p depth name. record { follows = λ s strict. (refl, strict) };
  braces_left = record { follows = λ s strict. (refl, strict) };
  table_kept = λ t. record { follows = λ s strict. (refl, strict) };
  load_kept = λ l. record { follows = λ s strict. (refl, strict) };
  skip_kept = λ p. record { follows = λ s strict. (refl, strict) };
  rule_kept = λ within p begins. record { follows = λ s strict. (refl, strict) };
}

-- ---- a whole file

parsed_too : (r q : Result (Unit {0} × State) Stop) (p : Parsed) → Follows lenient r q → (r >>= λ x. Ok (parsed_of x)) ≡ Ok p → (q >>= λ x. Ok (parsed_of x)) ≡ Ok p
parsed_too (Ok (x, t)) q p (is, strict) taken = rw is taken
parsed_too (Err e) q p h taken = cc

pub lenient_as_strict : (ts : List Token) (is_main : Bool) (p : Parsed) → parsed ts Strict is_main ≡ Ok p → parsed ts Lenient is_main ≡ Ok p
lenient_as_strict ts is_main p taken =
    parsed_too (lines (beginning ts Strict is_main)) (lines (beginning ts Lenient is_main)) p
    ((keeps_lines lenient basics).follows (beginning ts Strict is_main) refl) taken
