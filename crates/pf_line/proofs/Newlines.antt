-- What has no newline: digits, paths, and the texts of rules.
use Rattle.std.proofs.{Common.{◌≡◌, inl, inr, ℕ, suc, ◌+◌, ◌^◌, ◌<◌, ◌==◌, Bool, true, false, cond, List, [], ◌∷◌, ◌++◌, length, decimal, refl, ap, subst, ◌∙◌, arith}, lemmas.Bool.{and_parts, ne_eqb}, lemmas.Bool.Decides.nat_tests, lemmas.Fmt.decimal_is_IsNumeral, lemmas.List.Elements.{All-head, All-tail}, lemmas.List.Sums.AllPass-from_list_all}
use Rattle.std.specs.{Prelude.{nat_lt, All}, List.{AllByRecursion, list_all, join_with_byte}, Char.digit_value, Str.Parse.AllDigits}
use Rattle.pf_addr.specs.{Path.Names.is_name_byte, Path.Paths.is_path, Path.PathGrammar.{IsComponent, IsNames}, Laws.Path.Paths.{ReadsWhatIsSpelled, ReadsWhatIsWritten}, Laws.Spelling.{IsNetWord, IsNetByte}}
use Rattle.pf_rule.specs.{Rules.{PlainRule, IsRule}, RuleText.rule_text, Value.Spacing.is_word, Laws.RuleText.rule_text_bytes}
use Rattle.pf_line.specs.Reply.TextLines.{newlines}

pub newlines-append : (a b : List ℕ) → newlines (a ++ b) ≡ newlines a + newlines b
newlines-append [] b = omega arith
newlines-append (x ∷ a) b = by (x == 10) (newlines-append a b) where
  by : (t : Bool) → newlines (a ++ b) ≡ newlines a + newlines b → cond t (suc (newlines (a ++ b))) (newlines (a ++ b)) ≡ cond t (suc (newlines a)) (newlines a) + newlines b
  by true e = omega (arith, e)
  by false e = e

-- bytes none of which is a newline
no_newline : (P : ℕ → Type 0) → (P 10 → ⊥) → (text : List ℕ) → All P text → newlines text ≡ 0
no_newline P never [] all = refl
no_newline P never (b ∷ bs) all =
    let far : (b == 10) ≡ false = ne_eqb b 10 (λ e. never (subst P e (All-head P b bs all))) in
    rw far (no_newline P never bs (All-tail P b bs all))

pub name_plain : (name : List ℕ) → list_all is_name_byte name ≡ true → newlines name ≡ 0
name_plain name h = no_newline (λ b. is_name_byte b ≡ true) (λ e. cc) name (AllPass-from_list_all is_name_byte name h)

no_digit : (b : ℕ) → digit_value b < 10 → (b == 10) ≡ false
no_digit b lt = grind (arith, nat_tests)

digits_plain : (ds : List ℕ) → AllDigits 10 ds → newlines ds ≡ 0
digits_plain [] h = refl
digits_plain (d ∷ ds) h = rw (no_digit d h.0) (digits_plain ds h.1)

pub number_plain : (n : ℕ) → n < 2 ^ 64 → newlines (decimal n) ≡ 0
number_plain n lt = digits_plain (decimal n) (decimal_is_IsNumeral n lt).0.1

-- ---- words

abbrev all_newlines : List (List ℕ) → ℕ
all_newlines [] = 0
all_newlines (w ∷ ws) = newlines w + all_newlines ws

join_plain : (c : ℕ) → (c == 10) ≡ false → (words : List (List ℕ)) → newlines (join_with_byte c words) ≡ all_newlines words
join_plain c h [] = refl
join_plain c h (w ∷ []) = omega arith
join_plain c h (w ∷ v ∷ words) =
    let following : newlines (c ∷ join_with_byte c (v ∷ words)) ≡ all_newlines (v ∷ words) = rw h (join_plain c h (v ∷ words)) in
    omega (arith, newlines-append w (c ∷ join_with_byte c (v ∷ words)), following)

components_plain : (parts : List (List ℕ)) → AllByRecursion IsComponent parts → all_newlines parts ≡ 0
components_plain [] all = refl
components_plain (c ∷ cs) all = omega (arith, name_plain c all.0.bytes, components_plain cs all.1)

-- a path's text has no newline, as the laws of paths say
pub path_plain : ReadsWhatIsSpelled → ReadsWhatIsWritten → (p : List ℕ) → is_path p ≡ true → newlines p ≡ 0
path_plain spelled again [] e = refl
path_plain spelled again (b ∷ bs) e = elim (spelled (b ∷ bs) (b ∷ bs) (again (b ∷ bs) e)) [
  | inl main ↦ absurd (cc (main.1))
  | inr path ↦ let is : IsNames (b ∷ bs) = path.0.names in ap newlines is.joined ∙ join_plain 47 refl is.parts ∙ components_plain is.parts is.each
]

-- ---- rules

pub rule_plain : (r : PlainRule) → IsRule r → newlines (rule_text r) ≡ 0
rule_plain r h = no_newline (λ b. nat_lt 31 b ≡ true) (λ e. cc) (rule_text r) (AllPass-from_list_all (nat_lt 31) (rule_text r) (rule_text_bytes r h))

-- a word of a rule's text
pub word_plain : (w : List ℕ) → is_word w ≡ true → newlines w ≡ 0
word_plain w is =
    no_newline (λ b. nat_lt 32 b ≡ true) (λ e. cc) w (AllPass-from_list_all (nat_lt 32) w (and_parts (nat_lt 0 (length w)) (list_all (nat_lt 32) w) is).1)

-- ---- networks

no_net_byte : IsNetByte 10 → ⊥
no_net_byte (inl h) = omega (arith, h.0)
no_net_byte (inr h) = omega (arith, h.0)

pub network_plain : (text : List ℕ) → IsNetWord 43 text → newlines text ≡ 0
network_plain text is = no_newline IsNetByte no_net_byte text is.bytes
