-- Reading tokens from the front, and the fault where no text can go on.
use Rattle.std.specs.Prelude.{◌≡◌, ℕ, zero, suc, ◌+◌, ◌-◌, ◌==◌, nat_lt, ◌&&◌, ◌||◌, Bool, true, false, List, [], ◌∷◌, ◌++◌, map, length, codes, Option, Some, None, Result, Ok, Err, if◌then◌else◌}
use Rattle.pf_form.specs.Form.Forms.{◌>>=◌}
use denote.Ref.{Bor}
use Rattle.pf_tokens.specs.declared.{place.Place.Place, token.Token.Token}
use Rattle.pf_tokens.specs.declared.token.Kind.TheVariants as kinds
use Rattle.pf_tokens.specs.{Places.text_of, Words.{is_word, is_symbol, is_newline, is_number, is_string}}
use Rattle.pf_parse.specs.declared.{fault.LeftOut.LeftOut, fault.Mistake.Mistake, fault.Reason.Reason, fault.Remark.Remark, fault.Stop.Stop, fault.Stop.TheVariants.{Faulty, Needs, Memory}, parser.Mode.Mode, parser.Mode.TheVariants.{Strict, Lenient}, parser.Rank.Rank, parser.TheConstants.REFUSED}
use Rattle.pf_parse.specs.declared.fault.Mistake.TheVariants as mistakes
use Rattle.pf_parse.specs.declared.fault.Remark.TheVariants as remarks
use Rattle.pf_parse.specs.declared.fault.LeftOut.TheVariants as left_out
use Rattle.pf_parse.specs.declared.parser.Rank.TheVariants as ranks
use Rattle.pf_parse.specs.{States.State, Stops.fault_at}

abbrev pub Word : Type 0
Word = List ℕ

-- ---- reading: a value and what is known behind it, or why the file isn't taken

abbrev pub Reads : Type 0 → Type 0
Reads A = State → Result (A × State) Stop

-- A function that reads gives what is wanted and leaves what is known behind it, unless memory runs out.
abbrev pub Takes : {A : Type 0} → Result A Stop → State → Result (A × State) Stop → Type 0
Takes (Ok x) s wanted = wanted ≡ Ok (x, s)
Takes (Err (Faulty f)) s wanted = wanted ≡ Err (Faulty f)
Takes (Err (Needs name)) s wanted = wanted ≡ Err (Needs name)
Takes (Err Memory) s wanted = Unit {0}

-- The same of one that leaves something else, too.
abbrev pub TakesTo : {A : Type 0} → Result (Unit {0}) Stop → A → State → Result (A × State) Stop → Type 0
TakesTo (Ok done) x s wanted = wanted ≡ Ok (x, s)
TakesTo (Err (Faulty f)) x s wanted = wanted ≡ Err (Faulty f)
TakesTo (Err (Needs name)) x s wanted = wanted ≡ Err (Needs name)
TakesTo (Err Memory) x s wanted = Unit {0}

-- The same of one that says whether it is to be done again.
abbrev pub TakesOn : {A : Type 0} → Result Bool Stop → A → State → Result ((A × Bool) × State) Stop → Type 0
TakesOn (Ok more) x s wanted = wanted ≡ Ok ((x, more), s)
TakesOn (Err (Faulty f)) x s wanted = wanted ≡ Err (Faulty f)
TakesOn (Err (Needs name)) x s wanted = wanted ≡ Err (Needs name)
TakesOn (Err Memory) x s wanted = Unit {0}

abbrev pub giving : {A : Type 0} → A → Reads A
giving x s = Ok (x, s)

infixl 10 ◌>=>◌
abbrev pub ◌>=>◌ : {A B : Type 0} → Reads A → (A → Reads B) → Reads B
(read >=> next) s = read s >>= λ (x, t). next x t

abbrev pub refusing : {A : Type 0} → Place → Mistake → Reads A
refusing p m s = Err (fault_at p m)

-- ---- the next token

abbrev pub newline_at : Place → Token
newline_at p = record { kind = kinds.Newline; place = p; text = [] }

abbrev pub first_or : Token → List Token → Token
first_or t [] = t
first_or t (u ∷ us) = u

abbrev pub rest_of : List Token → List Token
rest_of [] = []
rest_of (t ∷ ts) = ts

unfoldable pub next : State → Token
next s = first_or (newline_at s.end_place) s.left

-- the one behind it
unfoldable pub second : State → Token
second s = first_or (newline_at s.end_place) (rest_of s.left)

unfoldable pub after_token : State → State
after_token s = record s { left = rest_of s.left }

abbrev pub is_at_end : State → Bool
is_at_end s = length s.left == 0

abbrev pub looking : {A : Type 0} → (State → A) → Reads A
looking f s = Ok (f s, s)

-- takes the next token
unfoldable pub token : Reads Token
token s = Ok (next s, after_token s)

-- whether the next token passes; if so, it is taken
abbrev pub takes : (Token → Bool) → Reads Bool
takes test s = if test (next s) then Ok (true, after_token s) else Ok (false, s)

unfoldable pub takes_word : Word → Reads Bool
takes_word w = takes (is_word w)

unfoldable pub takes_symbol : Word → Reads Bool
takes_symbol w = takes (is_symbol w)

-- ---- where no text can go on

-- Words that are refused in any place, with the reason.
abbrev pub Refusal : Type 0
Refusal = Word × Reason

-- those of a table that is a constant
abbrev pub refusals_of : List (record { now : Word } × Reason) → List Refusal
refusals_of = map (λ (r : record { now : Word } × Reason). (r.0.now, r.1))

-- those of one that is passed
abbrev pub refusals_in : List (Bor Word × Reason) → List Refusal
refusals_in = map (λ (r : Bor Word × Reason). (r.0.now, r.1))

unfoldable pub reason_in : List Refusal → Token → Option Reason
reason_in [] t = None
reason_in (r ∷ rs) t = if is_word r.0 t then Some r.1 else reason_in rs t

abbrev pub unexpected_word : Token → Option Reason → Mistake
unexpected_word t None = mistakes.Misplaced (text_of t.text)
unexpected_word t (Some reason) = mistakes.Refused (text_of t.text) reason

unfoldable pub unexpected_at : Token → Stop
unexpected_at t =
    fault_at t.place (if is_newline t then mistakes.LineEnds else unexpected_word t (reason_in (refusals_of REFUSED) t))

unfoldable pub refused_at : Reason → Token → Stop
refused_at reason t = fault_at t.place (mistakes.Refused (text_of t.text) reason)

abbrev pub unexpected : {A : Type 0} → Reads A
unexpected s = Err (unexpected_at (next s))

-- takes the next token, which has to pass
abbrev pub expect : (Token → Bool) → Reads Token
expect test s = if test (next s) then token s else unexpected s

abbrev pub passing : (Token → Bool) → Reads (Unit {0})
passing test s = if test (next s) then Ok (tt, after_token s) else unexpected s

unfoldable pub expect_word : Word → Reads (Unit {0})
expect_word w = passing (is_word w)

unfoldable pub expect_symbol : Word → Reads (Unit {0})
expect_symbol w = passing (is_symbol w)

-- "string" of the grammar; a value may be a number too
unfoldable pub string : Reads Token
string = expect is_string

unfoldable pub value : Reads Token
value = expect (λ t. is_string t || is_number t)

-- ends the line
unfoldable pub end_line : Reads (Unit {0})
end_line = passing is_newline

unfoldable pub without_newlines : List Token → List Token
without_newlines [] = []
without_newlines (t ∷ ts) = if is_newline t then without_newlines ts else t ∷ ts

abbrev pub is_closing : List Token → Bool
is_closing [] = false
is_closing (t ∷ ts) = is_symbol (codes "}") t

-- the list whose open brace comes next has no items
unfoldable pub is_empty_list : List Token → Bool
is_empty_list [] = false
is_empty_list (brace ∷ ts) = is_closing (without_newlines ts)

-- takes the newlines that come next
unfoldable pub newlines : Reads (Unit {0})
newlines s = Ok (tt, record s { left = without_newlines s.left })

-- ---- what is left out, and the rest of its line

unfoldable pub note : Place → Remark → Reads (Unit {0})
note p r s = Ok (tt, record s { notes = s.notes ++ (record { place = p; is = r } ∷ []) })

abbrev pub leave_out_in : Mode → Place → LeftOut → Reads (Unit {0})
leave_out_in Strict p what = refusing p (mistakes.LeftOut what)
leave_out_in Lenient p what = note p (remarks.LeftOut what)

-- What changes no verdict on a connection's first packet is left out if the reading is lenient.
unfoldable pub leave_out : Place → LeftOut → Reads (Unit {0})
leave_out p what s = leave_out_in s.mode p what s

-- the same of the next word, which is taken
unfoldable pub leave_out_next : Reads (Unit {0})
leave_out_next = token >=> λ t. leave_out t.place (left_out.Word (text_of t.text))

-- what is left of a line behind lists that are this deep; none if its end doesn't come
unfoldable pub after_line : ℕ → List Token → List Token
after_line deep [] = []
after_line deep (t ∷ ts) =
    if is_newline t && (deep == 0) then t ∷ ts
    else if is_symbol (codes "}") t then (if deep == 0 then t ∷ ts else after_line (deep - 1) ts)
    else if is_symbol (codes "{") t then after_line (deep + 1) ts
    else after_line deep ts

unfoldable pub skip_line : Reads (Unit {0})
skip_line s = end_line (record s { left = after_line 0 s.left })

-- up to the closing parenthesis on the same line
unfoldable pub to_parenthesis : List Token → List Token
to_parenthesis [] = []
to_parenthesis (t ∷ ts) = if is_newline t || is_symbol (codes ")") t then t ∷ ts else to_parenthesis ts

abbrev pub end_parentheses : Bool → Reads (Unit {0})
end_parentheses false = giving tt
end_parentheses true = λ s. expect_symbol (codes ")") (record s { left = to_parenthesis s.left })

-- what stands in parentheses on one line, if they come next
unfoldable pub skip_parentheses : Reads (Unit {0})
skip_parentheses = takes_symbol (codes "(") >=> end_parentheses

-- ---- the order of lines (pf.conf(5), "require-order")

abbrev pub rank_number : Rank → ℕ
rank_number ranks.Options = 0
rank_number ranks.Normalization = 1
rank_number ranks.Queueing = 2
rank_number ranks.Filtering = 4

unfoldable pub in_order : Place → Rank → Reads (Unit {0})
in_order p r s =
    if s.is_ordered && nat_lt (rank_number r) (rank_number s.rank) then Err (fault_at p mistakes.Order) else Ok (tt, record s { rank = r })

-- ---- again and again

-- at most so often, as long as more follows
unfoldable pub repeating : {A : Type 0} → (A → Reads (A × Bool)) → ℕ → A → Reads A
repeating again zero x = unexpected
repeating again (suc n) x = again x >=> λ (y, more). if more then repeating again n y else giving y

-- Each time but the last takes a token, so that there are enough.
abbrev pub repeated : {A : Type 0} → (A → Reads (A × Bool)) → A → Reads A
repeated again x s = repeating again (length s.left + 1) x s
