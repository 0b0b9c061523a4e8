-- Labels of rules: how long they are together, and which versions allow them.
use Rattle.std.proofs.{Common.{◌≡◌, ◌+◌, ◌*◌, ◌<◌, ◌≤◌, ◌||◌, ◌==◌, ℕ, Bool, true, false, List, [], ◌∷◌, ◌++◌, length, take, get_or, Option, Some, None, refl, sym, ap, ◌∙◌, arith}, lemmas.Bool.{and_parts, eqb-true}, lemmas.List.{take_more, Sums.sum_by-cons, Elements.{All-head, All-tail}}}
use Rattle.std.specs.{Prelude.{All, is_none, unwrap_or}}
use Rattle.pf_rule.specs.{declared.rule.Effect.{Effect, TheVariants.Decide, TheVariants.Evaluate}, Rules.{PlainRule, LabelFits, IsRule}, Sum.{Forms.label_bytes, Layouts.{has_labels, allows}}}
use Rattle.pf_anchor.specs.Forms.{allows_rules, labels_length}
use Rattle.std.proofs.Math.Bool.{or-true}

-- ---- how long they are

short : (e : Effect) (l : Option (List ℕ)) → LabelFits e l → length (unwrap_or l []) ≤ 63
short (Decide a) None fits = omega arith
short (Decide a) (Some label) fits = omega (arith, fits.short)
short (Evaluate r) l none = rw none (omega arith)

pub label_short : (r : PlainRule) → IsRule r → length (label_bytes r) ≤ 63
label_short r is = short r.effect r.label is.label

one_more : (r : PlainRule) (rs : List PlainRule) → labels_length (r ∷ rs) ≡ length (label_bytes r) + labels_length rs
one_more r rs = sum_by-cons (λ r. length (label_bytes r)) r rs

pub labels_few : (rs : List PlainRule) → All IsRule rs → labels_length rs ≤ 63 * length rs
labels_few [] are = omega arith
labels_few (r ∷ rs) are = omega (arith, one_more r rs, label_short r (All-head IsRule r rs are), labels_few rs (All-tail IsRule r rs are))

pub labels_pushed : (rs : List PlainRule) (r : PlainRule) → labels_length (rs ++ r ∷ []) ≡ labels_length rs + length (label_bytes r)
labels_pushed [] r = omega (arith, one_more r [])
labels_pushed (q ∷ rs) r = omega (arith, one_more q (rs ++ r ∷ []), one_more q rs, labels_pushed rs r)

pub labels_more : (rs new : List PlainRule) (r : PlainRule) → new ≡ rs ++ r ∷ [] → labels_length new ≡ labels_length rs + length (label_bytes r)
labels_more rs new r more = ap labels_length more ∙ labels_pushed rs r

pub labels_taken : (rs : List PlainRule) (i : ℕ) (r : PlainRule) → i < length rs → r ≡ get_or rs i r
    → labels_length (take (i + 1) rs) ≡ labels_length (take i rs) + length (label_bytes r)
labels_taken rs i r within here =
    labels_more (take i rs) (take (i + 1) rs) r (take_more rs i r within ∙ ap (λ (x : PlainRule). take i rs ++ x ∷ []) (sym here))

-- ---- which versions allow them

pub all_allowed : (version : ℕ) (rs : List PlainRule) → has_labels version ≡ true → allows_rules version rs ≡ true
all_allowed version [] new = refl
all_allowed version (r ∷ rs) new = rw (new, all_allowed version rs new) refl

without : (e : Effect) (l : Option (List ℕ)) → LabelFits e l → length (unwrap_or l []) ≡ 0 → is_none l ≡ true
without (Decide a) None fits none = refl
without (Decide a) (Some label) fits none = absurd (omega (arith, fits.some, none))
without (Evaluate r) l fits none = rw fits refl

none_labelled : (version : ℕ) (rs : List PlainRule) → All IsRule rs → labels_length rs ≡ 0 → allows_rules version rs ≡ true
none_labelled version [] are none = refl
none_labelled version (r ∷ rs) are none =
    let here : length (label_bytes r) ≡ 0 = omega (arith, one_more r rs, none) in
    let rest : labels_length rs ≡ 0 = omega (arith, one_more r rs, none) in
    rw (without r.effect r.label (All-head IsRule r rs are).label here, or-true (has_labels version), none_labelled version rs (All-tail IsRule r rs are) rest) refl

no_bytes : (l : Option (List ℕ)) → is_none l ≡ true → length (unwrap_or l []) ≡ 0
no_bytes None is = refl
no_bytes (Some label) is = absurd cc

allowed_without : (old : Bool) (l : Option (List ℕ)) → old ≡ false → (old || is_none l) ≡ true → is_none l ≡ true
allowed_without true l old allowed = absurd cc
allowed_without false l old allowed = allowed

none_there : (version : ℕ) (rs : List PlainRule) → has_labels version ≡ false → allows_rules version rs ≡ true → labels_length rs ≡ 0
none_there version [] old all = refl
none_there version (r ∷ rs) old all =
    let both = and_parts (allows version r) (allows_rules version rs) all in
    let here = no_bytes r.label (allowed_without (has_labels version) r.label old both.0) in
    omega (arith, one_more r rs, here, none_there version rs old both.1)

-- a version allows rules if it has labels, or they have none
pub allowed_by : (version n : ℕ) (rs : List PlainRule) → All IsRule rs → n ≡ labels_length rs → allows_rules version rs ≡ (has_labels version || n == 0)
allowed_by version n rs are is = by (has_labels version) refl (n == 0) refl (allows_rules version rs) refl where
  by : (l : Bool) → has_labels version ≡ l → (z : Bool) → (n == 0) ≡ z → (b : Bool) → allows_rules version rs ≡ b → b ≡ (l || z)
  by true new z zero b allowed = sym allowed ∙ all_allowed version rs new
  by false old true zero b allowed = sym allowed ∙ none_labelled version rs are (sym is ∙ eqb-true n 0 zero)
  by false old false some true allowed = absurd (cc (some, is ∙ none_there version rs old allowed))
  by false old false some false allowed = refl
