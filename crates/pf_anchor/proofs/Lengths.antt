-- How many bytes rulesets and tables take at their places: a rule 204 and its label, an entry 20, and paths, names and lists come after numbers.
use Rattle.std.proofs.{Common.{◌≡◌, ◌+◌, ◌*◌, ◌<◌, ◌≤◌, ℕ, true, List, [], ◌∷◌, ◌++◌, length, map, take, get_or, refl, sym, ap, subst, ◌∙◌, arith}, lemmas.Bool.and_parts, lemmas.List.{length-append, take_more, take_all, Sums.sum_by-cons, Elements.{All-head, All-tail, All-push}}}
use Rattle.std.specs.{Prelude.{All}, List.sum_by}
use Rattle.pf_addr.specs.Path.{Paths.is_path, PathForms.{path_form, table_name_form}}
use Rattle.pf_form.specs.Bytes.Forms.{length_of}
use Rattle.pf_addr.proofs.PathBytes.{path_fits}
use Rattle.pf_rule.specs.{Rules.{PlainRule, IsRule}, Sum.{Forms.label_bytes, Layouts.{rule_layout, plain_rule, has_labels, allows}}, declared.sum.layout.TheConstants.LABELS_FROM}
use Rattle.pf_rule.proofs.RuleBytes.{layout_long}
use Rattle.pf_table.specs.{Entries.PlainEntry, EntryForms.{entry, plain_entry}, Laws.EntryForms.entry_long}
use Rattle.pf_anchor.specs.{declared.limits.TheConstants.{RULE_LIMIT}, Rulesets.PlainPlaced, Tables.PlainPlacedTable, Forms.{rule_list_form, rules_form, rulesets_form, plain_ruled, entries_form, named_form, plain_named, placed_form, kept_tables_form, plain_tabled, allows_rules, labels_length, ruled_length, tabled_length}}

sum_of-map : {A B : Type 0} (f : B → ℕ) (g : A → B) (xs : List A) → sum_by f (map g xs) ≡ sum_by (λ x. f (g x)) xs
sum_of-map f g [] = refl
sum_of-map f g (x ∷ xs) = omega (arith, sum_by-cons f (g x) (map g xs), sum_by-cons (λ y. f (g y)) x xs, sum_of-map f g xs)

-- the sum of a one for each byte is the length
ones : (bytes : List ℕ) → sum_by (λ b. 1) bytes ≡ length bytes
ones [] = refl
ones (b ∷ bytes) = omega (arith, sum_by-cons (λ b. 1) b bytes, ones bytes)

rules_sum : (version : ℕ) (rs : List PlainRule) → All IsRule rs → allows_rules version rs ≡ true → sum_by (length_of (rule_layout version)) (map plain_rule rs) ≡ 204 * length rs + labels_length rs
rules_sum version [] are all = refl
rules_sum version (r ∷ rs) are all =
    let both = and_parts (allows version r) (allows_rules version rs) all in
    omega (
      arith,
      sum_by-cons (length_of (rule_layout version)) (plain_rule r) (map plain_rule rs),
      sum_by-cons (λ r. length (label_bytes r)) r rs,
      layout_long version r (All-head IsRule r rs are) both.0,
      rules_sum version rs (All-tail IsRule r rs are) both.1,
    )

entries_sum : (es : List PlainEntry) → sum_by (length_of entry) (map plain_entry es) ≡ 20 * length es
entries_sum [] = refl
entries_sum (e ∷ es) = omega (arith, sum_by-cons (length_of entry) (plain_entry e) (map plain_entry es), entry_long e, entries_sum es)

-- ---- a ruleset, and a table

pub ruled_long : (version : ℕ) (r : PlainPlaced) → All IsRule r.1 → allows_rules version r.1 ≡ true → ruled_length version r ≡ 5 + length r.0 + 204 * length r.1 + labels_length r.1
unfolding rules_form rule_list_form path_form
ruled_long version r are all = omega (arith, ones r.0, rules_sum version r.1 are all)

pub named_long : (name : List ℕ) (es : List PlainEntry) → length_of named_form (plain_named (name, es)) ≡ 5 + length name + 20 * length es
unfolding named_form entries_form table_name_form
named_long name es = omega (arith, ones name, entries_sum es)

pub tabled_long : (t : PlainPlacedTable) → tabled_length t ≡ 6 + length t.0.0 + length t.0.1 + 20 * length t.1
unfolding placed_form named_form entries_form path_form table_name_form
tabled_long t = omega (arith, ones t.0.0, ones t.0.1, entries_sum t.1)

-- ---- rules, one more

pub rules_more : (rs new : List PlainRule) (r : PlainRule) → new ≡ rs ++ r ∷ [] → All IsRule rs → IsRule r → All IsRule new
rules_more rs new r more are is = subst (All IsRule) (sym more) (All-push IsRule rs r are is)

pub few_more : (rs new : List PlainRule) (r : PlainRule) → new ≡ rs ++ r ∷ [] → length rs < RULE_LIMIT → length new ≤ RULE_LIMIT
few_more rs new r more few = omega (arith, ap length more, length-append rs (r ∷ []), few)

pub rules_taken : (rs : List PlainRule) (i : ℕ) (r : PlainRule) → i < length rs → r ≡ get_or rs i r → All IsRule (take i rs) → IsRule r
    → All IsRule (take (i + 1) rs)
rules_taken rs i r within here are is =
    rules_more (take i rs) (take (i + 1) rs) r (take_more rs i r within ∙ ap (λ (x : PlainRule). take i rs ++ x ∷ []) (sym here)) are is

pub rules_all : (rs : List PlainRule) (i : ℕ) → length rs ≤ i → All IsRule (take i rs) → All IsRule rs
rules_all rs i end are = subst (All IsRule) (take_all i rs end) are

-- a path is short
pub path_short : (p : List ℕ) → is_path p ≡ true → length p < 256
unfolding path_form
path_short p is = (path_fits p is).0.0

-- ---- all of them

-- versions that have labels have one layout
pub same_layout : (version : ℕ) → has_labels version ≡ true → rule_layout version ≡ rule_layout LABELS_FROM
unfolding rule_layout
same_layout version new = rw new refl

-- so rulesets take as many bytes in each of them
pub rulesets_long : (version : ℕ) (rs : List PlainPlaced) → has_labels version ≡ true → length_of (rulesets_form version) (map plain_ruled rs) ≡ 4 + sum_by (ruled_length LABELS_FROM) rs
unfolding rulesets_form rules_form rule_list_form
rulesets_long version rs new = rw (same_layout version new) (ap (λ (n : ℕ). 4 + n) (sum_of-map (length_of (rules_form LABELS_FROM)) plain_ruled rs))

pub tables_long : (ts : List PlainPlacedTable) → length_of kept_tables_form (map plain_tabled ts) ≡ 4 + sum_by tabled_length ts
unfolding kept_tables_form
tables_long ts = ap (λ (n : ℕ). 4 + n) (sum_of-map (length_of placed_form) plain_tabled ts)
