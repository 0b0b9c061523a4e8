-- Lines, interfaces and hosts, one after another.
use Rattle.std.proofs.Common.{◌≡◌, ℕ, ◌+◌, ◌-◌, ◌<◌, ◌≤◌, true, false, List, [], ◌∷◌, ◌++◌, length, get_or, drop, Result, Ok, Err, refl, sym, ap, ◌∙◌, append_assoc, append-nil}
use Rattle.std.proofs.lemmas.List.{drop_all}
use Rattle.pf_form.specs.Form.Forms.{◌>>=◌}
use Rattle.pf_tokens.specs.declared.token.Token.{Token}
use Rattle.pf_lists.specs.declared.hosts.Host.{Host}
use Rattle.pf_parse.specs.declared.{fault.Stop.Stop, tree.Entry.Entry}
use Rattle.pf_parse.specs.States.{State}
use Rattle.pf_parse.specs.Reading.{next, unexpected_at, repeating}
use Rattle.pf_parse.specs.Lines.{line_more, lines_more, all_closed, lines, skip_one, skip_each, entry_of, entries_of}
use Rattle.pf_parse.proofs.{Steps.drop_item, Turns.{turn_on, turn_ends, turn_stops, no_turn}}

-- ---- lines

abbrev pub closed : Result (Unit {0} × State) Stop → Result (Unit {0} × State) Stop
closed (Ok x) = all_closed x.1
closed (Err e) = Err e

-- what so many lines give
abbrev pub lines_left : ℕ → State → Result (Unit {0} × State) Stop
lines_left n s = closed (repeating lines_more n tt s)

closed_is : (r : Result (Unit {0} × State) Stop) → closed r ≡ (r >>= λ (done, t). all_closed t)
closed_is (Ok x) = refl
closed_is (Err e) = refl

pub lines_begun : (s : State) → lines_left (length s.left + 1) s ≡ lines s
unfolding lines
lines_begun s = closed_is (repeating lines_more (length s.left + 1) tt s)

pub lines_on : (all i : ℕ) (s t : State) → i < all → line_more s ≡ Ok (true, t) → lines_left (all - (i + 1)) t ≡ lines_left (all - i) s
lines_on all i s t within is =
    let one : lines_more tt s ≡ Ok ((tt, true), t) = rw is refl in
    ap closed (turn_on lines_more all i tt tt s t within one)

pub lines_end : (all i : ℕ) (s t : State) → i < all → line_more s ≡ Ok (false, t) → lines_left (all - i) s ≡ all_closed t
lines_end all i s t within is =
    let one : lines_more tt s ≡ Ok ((tt, false), t) = rw is refl in
    ap closed (turn_ends lines_more all i tt tt s t within one)

pub lines_stop : (all i : ℕ) (s : State) (e : Stop) → i < all → line_more s ≡ Err e → lines_left (all - i) s ≡ Err e
lines_stop all i s e within is =
    let one : lines_more tt s ≡ Err e = rw is refl in
    ap closed (turn_stops lines_more all i tt s e within one)

pub lines_past : (all i : ℕ) (s : State) → all ≤ i → lines_left (all - i) s ≡ Err (unexpected_at (next s))
lines_past all i s past = ap closed (no_turn lines_more all i tt s past)

-- ---- interfaces that are skipped, from one on

pub skips_on : (ts : List Token) (i : ℕ) (t : Token) (s u : State) → i < length ts → t ≡ get_or ts i t → skip_one t s ≡ Ok (tt, u) → skip_each (drop (i + 1) ts) u ≡ skip_each (drop i ts) s
unfolding skip_each
skips_on ts i t s u within here is =
    sym (ap (λ (us : List Token). skip_each us s) (drop_item ts i t within here) ∙ rw is refl)

pub skips_stop : (ts : List Token) (i : ℕ) (t : Token) (s : State) (e : Stop) → i < length ts → t ≡ get_or ts i t → skip_one t s ≡ Err e → skip_each (drop i ts) s ≡ Err e
unfolding skip_each
skips_stop ts i t s e within here is = ap (λ (us : List Token). skip_each us s) (drop_item ts i t within here) ∙ rw is refl

pub skips_end : (ts : List Token) (i : ℕ) (s : State) → length ts ≤ i → skip_each (drop i ts) s ≡ Ok (tt, s)
unfolding skip_each
skips_end ts i s past = ap (λ (us : List Token). skip_each us s) (drop_all i ts past)

-- ---- hosts that are entries, from one on

-- behind these
abbrev pub onto_these : List Entry → Result (List Entry) Stop → Result (List Entry) Stop
onto_these front (Ok es) = Ok (front ++ es)
onto_these front (Err e) = Err e

one_more : (front : List Entry) (e : Entry) (r : Result (List Entry) Stop) → onto_these front (r >>= λ es. Ok (e ∷ es)) ≡ onto_these (front ++ e ∷ []) r
one_more front e (Ok es) = ap (λ (xs : List Entry). Ok xs) (sym (append_assoc front (e ∷ []) es))
one_more front e (Err stop) = refl

pub entries_on : (hs : List Host) (i : ℕ) (h : Host) (e : Entry) (front : List Entry) → i < length hs → h ≡ get_or hs i h → entry_of h h.net ≡ Ok e → onto_these (front ++ e ∷ []) (entries_of (drop (i + 1) hs)) ≡ onto_these front (entries_of (drop i hs))
unfolding entries_of
entries_on hs i h e front within here is =
    sym (ap (λ (all : List Host). onto_these front (entries_of all)) (drop_item hs i h within here) ∙ rw is (one_more front e (entries_of (drop (i + 1) hs))))

pub entries_stop : (hs : List Host) (i : ℕ) (h : Host) (front : List Entry) (stop : Stop) → i < length hs → h ≡ get_or hs i h → entry_of h h.net ≡ Err stop → onto_these front (entries_of (drop i hs)) ≡ Err stop
unfolding entries_of
entries_stop hs i h front stop within here is =
    ap (λ (all : List Host). onto_these front (entries_of all)) (drop_item hs i h within here) ∙ rw is refl

pub entries_end : (hs : List Host) (i : ℕ) (front : List Entry) → length hs ≤ i → onto_these front (entries_of (drop i hs)) ≡ Ok front
unfolding entries_of
entries_end hs i front past =
    ap (λ (all : List Host). onto_these front (entries_of all)) (drop_all i hs past) ∙ ap (λ (es : List Entry). Ok es) (append-nil front)

pub after_none : (r : Result (List Entry) Stop) → onto_these [] r ≡ r
after_none (Ok es) = refl
after_none (Err e) = refl
