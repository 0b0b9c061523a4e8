-- The words of a line, put one after another in place of others.
use Rattle.std.proofs.{Common.{◌≡◌, ℕ, ◌+◌, ◌-◌, ◌<◌, ◌≤◌, Bool, true, false, List, [], ◌∷◌, ◌++◌, length, take, drop, get_or, refl, sym, ap, ◌∙◌, subst, append_assoc, append-nil, arith}, lemmas.Bool.Decides.nat_tests, lemmas.List.{drop_more, take_more, get_or-drop, length-drop, take_all}, lemmas.List.Elements.All-push, lemmas.List.Splits.{slice_split_none, slice_split_at}, lemmas.List.Folds.drop_split}
use Rattle.std.specs.{Prelude.{nat_lt, filter, All}, List.{slice_split, slice_range}}
use Rattle.pf_form.specs.Form.Words.{Word, is_blank, words_of}
use Rattle.pfd_conf.specs.Outcomes.{if_some}

abbrev pub Inked : List ℕ → Type 0
Inked = All (λ b. is_blank b ≡ false)

abbrev some : Word → Bool
some w = nat_lt 0 (length w)

some_is : (b : ℕ) (bs : List ℕ) → some (b ∷ bs) ≡ true
some_is b bs = grind (arith, nat_tests)

some_first : (w : Word) (ws : List Word) → filter some (w ∷ ws) ≡ if_some w ++ filter some ws
some_first [] ws = refl
some_first (b ∷ bs) ws = rw (some_is b bs) refl

-- a word and the blank after it
past_word : (w : Word) (b : ℕ) (rest : List ℕ) → Inked w → is_blank b ≡ true → words_of (w ++ b ∷ rest) ≡ if_some w ++ words_of rest
past_word w b rest is blank = ap (filter some) (slice_split_at is_blank w b rest is blank) ∙ some_first w (slice_split is_blank rest)

last_word : (w : Word) → Inked w → words_of w ≡ if_some w
last_word w is = ap (filter some) (slice_split_none is_blank w is) ∙ some_first w [] ∙ append-nil (if_some w)

-- ---- the byte at a place, after those from the start of its word

range_more : (line : List ℕ) (start at : ℕ) → start ≤ at → at < length line →
    slice_range line start (at + 1) ≡ slice_range line start at ++ get_or line at 0 ∷ []
range_more line start at low high =
    let more : at + 1 - start ≡ (at - start) + 1 = omega (arith, low) in
    let there : start + (at - start) ≡ at = omega (arith, low) in
    ap (λ n. take n (drop start line)) more
    ∙ take_more (drop start line) (at - start) 0 (omega (arith, low, high, length-drop start line))
    ∙ ap (λ (b : ℕ). slice_range line start at ++ b ∷ []) (get_or-drop start line (at - start) 0 ∙ ap (λ n. get_or line n 0) there)

pub word_more : (line : List ℕ) (start at : ℕ) → start ≤ at → at < length line → Inked (slice_range line start at) →
    is_blank (get_or line at 0) ≡ false → Inked (slice_range line start (at + 1))
word_more line start at low high is ink =
    subst Inked (sym (range_more line start at low high))
    (All-push (λ b. is_blank b ≡ false) (slice_range line start at) (get_or line at 0) is ink)

pub no_word : (line : List ℕ) (at : ℕ) → Inked (slice_range line at at)
no_word line at =
    let none : at - at ≡ 0 = omega arith in
    subst (λ (n : ℕ). Inked (take n (drop at line))) (sym none) (λ k d low. absurd (omega (arith, low)))

-- ---- the words so far

-- a blank ends the word that began at start
pub words_more : (line : List ℕ) (start at : ℕ) (before : List Word) → start ≤ at → at < length line →
    Inked (slice_range line start at) → is_blank (get_or line at 0) ≡ true → before ++ words_of (drop start line) ≡ words_of line →
    (before ++ if_some (slice_range line start at)) ++ words_of (drop (at + 1) line) ≡ words_of line
words_more line start at before low high is blank cut =
    let word = slice_range line start at in
    let following = drop (at + 1) line in
    let split : drop start line ≡ word ++ get_or line at 0 ∷ following =
    drop_split line start at low ∙ ap (λ (l : List ℕ). word ++ l) (drop_more line at 0 high) in
    append_assoc before (if_some word) (words_of following)
    ∙ ap (λ (ws : List Word). before ++ ws) (sym (ap words_of split ∙ past_word word (get_or line at 0) following is blank)) ∙ cut

-- and so does the line's end
pub words_all : (line : List ℕ) (start at : ℕ) (before : List Word) → start ≤ at → at ≡ length line →
    Inked (slice_range line start at) → before ++ words_of (drop start line) ≡ words_of line →
    before ++ if_some (slice_range line start (length line)) ≡ words_of line
words_all line start at before low end is cut =
    let word = slice_range line start (length line) in
    let rest : word ≡ drop start line = take_all (length line - start) (drop start line) (omega (arith, length-drop start line)) in
    ap (λ (ws : List Word). before ++ ws)
    (sym (last_word word (subst (λ n. Inked (slice_range line start n)) end is)) ∙ ap words_of rest) ∙ cut
