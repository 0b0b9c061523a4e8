-- Texts that are written one after another.
use Rattle.std.proofs.Common.{◌≡◌, ℕ, ◌+◌, ◌<◌, List, [], ◌∷◌, ◌++◌, length, take, get_or, Option, Result, sym, ap, ◌∙◌, subst, arith, append_assoc, append-nil}
use Rattle.std.proofs.lemmas.List.{length-take}
use Rattle.std.proofs.lemmas.Grind.{flat_map-append}
use Rattle.std.specs.{List.flat_map, declared.io.Error.Error}
use Rattle.pf_addr.specs.Writing.{Wrote, Continues, Continues-then}
use Rattle.pf_table.specs.Entries.{PlainEntry}
use Rattle.pf_conf.specs.{Rulesets.PlacedRule, Tables.{entry_text, entries_text}, Shown.{rule_line, rule_lines}}
use Rattle.pf_conf.proofs.Steps.{take_item}

-- with nothing to write, what was written stays
pub still : (q : Result (Unit {0}) Error) (old : Option (List ℕ)) → Continues {B = Unit {0}} q old q old []
still q old = record { following = λ at front w. subst (λ (t : List ℕ). Wrote q at old t) (sym (append-nil front)) w }

-- ---- a text for each of a list

-- the texts of those before this one
abbrev pub Before : {X : Type 0} → (X → List ℕ) → Result (Unit {0}) Error → Option (List ℕ) → Result (Unit {0}) Error → Option (List ℕ) → List X → ℕ → Type 0
Before text p old q new xs i = Continues p old q new (flat_map text (take i xs))

-- ---- rules

last_rule : (n : ℕ) (rs : List PlacedRule) (r : PlacedRule) → rule_lines n (rs ++ r ∷ []) ≡ rule_lines n rs ++ rule_line (n + length rs) r.is
last_rule n [] r = let e : n + 0 ≡ n = omega arith in rw e (append-nil (rule_line n r.is))
last_rule n (q ∷ rs) r =
    let e : n + 1 + length rs ≡ n + length (q ∷ rs) = omega arith in
    ap (λ (t : List ℕ). rule_line n q.is ++ t) (last_rule (n + 1) rs r ∙ ap (λ (m : ℕ). rule_lines (n + 1) rs ++ rule_line m r.is) e)
    ∙ sym (append_assoc (rule_line n q.is) (rule_lines (n + 1) rs) (rule_line (n + length (q ∷ rs)) r.is))

rules_before : (rs : List PlacedRule) (i : ℕ) (r : PlacedRule) → i < length rs → r ≡ get_or rs i r → rule_lines 0 (take (i + 1) rs) ≡ rule_lines 0 (take i rs) ++ rule_line i r.is
rules_before rs i r within here =
    let at : 0 + length (take i rs) ≡ i = omega (arith, length-take i rs) in
    ap (rule_lines 0) (take_item rs i r within here) ∙ last_rule 0 (take i rs) r ∙ ap (λ (m : ℕ). rule_lines 0 (take i rs) ++ rule_line m r.is) at

pub one_more_rule : (p q t : Result (Unit {0}) Error) (old mid new : Option (List ℕ)) (rs : List PlacedRule) (i : ℕ) (r : PlacedRule) → i < length rs → r ≡ get_or rs i r → Continues p old q mid (rule_lines 0 (take i rs)) → Continues q mid t new (rule_line i r.is) → Continues p old t new (rule_lines 0 (take (i + 1) rs))
one_more_rule p q t old mid new rs i r within here so_far next =
    subst (λ (text : List ℕ). Continues p old t new text) (sym (rules_before rs i r within here)) (Continues-then so_far next)

-- ---- entries

-- what was written so far: some of the entries; the others are left
pub record WroteSome (p : Result (Unit {0}) Error) (old : Option (List ℕ)) (q : Result (Unit {0}) Error) (mid : Option (List ℕ))
    (all left : List PlainEntry) : Type 0 where
  pub some : List PlainEntry
  pub whole : some ++ left ≡ all
  pub written : Continues p old q mid (entries_text some)

-- a space, and one more entry
pub one_more_entry : (p q s t : Result (Unit {0}) Error) (old mid more new : Option (List ℕ)) (all left rest : List PlainEntry) (e : PlainEntry) → left ≡ e ∷ rest → WroteSome p old q mid all left → Continues q mid s more (32 ∷ []) → Continues s more t new (entry_text e) → WroteSome p old t new all rest
one_more_entry p q s t old mid more new all left rest e is so_far space text =
    let last : entries_text (so_far.some ++ e ∷ []) ≡ entries_text so_far.some ++ ((32 ∷ []) ++ entry_text e) =
    flat_map-append (λ (x : PlainEntry). 32 ∷ entry_text x) so_far.some (e ∷ []) ∙ ap (λ (t : List ℕ). entries_text so_far.some ++ t) (append-nil ((32 ∷ []) ++ entry_text e)) in
    record {
      some = so_far.some ++ e ∷ [];
      whole = append_assoc so_far.some (e ∷ []) rest ∙ ap (λ (l : List PlainEntry). so_far.some ++ l) (sym is) ∙ so_far.whole;
      written = subst (λ (text : List ℕ). Continues p old t new text) (sym last) (Continues-then so_far.written (Continues-then space text));
    }

pub all_entries : (p q : Result (Unit {0}) Error) (old new : Option (List ℕ)) (all left : List PlainEntry) → left ≡ [] → WroteSome p old q new all left → Continues p old q new (entries_text all)
all_entries p q old new all left none so_far =
    let whole : so_far.some ≡ all = sym (append-nil so_far.some) ∙ ap (λ (l : List PlainEntry). so_far.some ++ l) (sym none) ∙ so_far.whole in
    subst (λ (es : List PlainEntry). Continues p old q new (entries_text es)) whole so_far.written
