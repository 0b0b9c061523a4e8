-- Whether two names are of one ruleset is an equivalence, and such names are equal.
use Rattle.std.specs.{Prelude.{◌≡◌, ℕ, true, List}, Cmp.IsEquivalence}
use Rattle.std.proofs.{Common.{refl, ap, ◌∙◌}, lemmas.Cmp.{eq_by_cmp_equiv, nat_list_cmp_total, and_equiv, on_equiv}, lemmas.Bool.and_parts}
use Rattle.pf_ticket.specs.{declared.{name.RulesetKind.RulesetKind, name.RulesetKind.TheVariants.Filter, name.RulesetKind.TheVariants.Table, name.RulesetName.RulesetName}, Names.{filter_at, table_ruleset_at, same_kind, same_name}}
use Rattle.pf_addr.specs.Path.Paths.{same_path}
use Rattle.pf_addr.proofs.PathsRead.{same_path_is}

pub paths_alike : IsEquivalence same_path
paths_alike = eq_by_cmp_equiv nat_list_cmp_total

kind-refl : (a : RulesetKind) → same_kind a a ≡ true
kind-refl Filter = refl
kind-refl Table = refl

kind-symm : (a b : RulesetKind) → same_kind a b ≡ same_kind b a
kind-symm Filter Filter = refl
kind-symm Filter Table = refl
kind-symm Table Filter = refl
kind-symm Table Table = refl

kind-congr : (a b c : RulesetKind) → same_kind a b ≡ true → same_kind a c ≡ same_kind b c
kind-congr Filter Filter c h = refl
kind-congr Filter Table c h = absurd (cc (h))
kind-congr Table Filter c h = absurd (cc (h))
kind-congr Table Table c h = refl

pub kinds_alike : IsEquivalence same_kind
kinds_alike = record { refl = kind-refl; symm = kind-symm; congr = kind-congr }

pub names_alike : IsEquivalence same_name
names_alike = and_equiv (on_equiv (λ (n : RulesetName). n.kind) kinds_alike) (on_equiv (λ (n : RulesetName). n.path) paths_alike)

-- such names are equal
kind_is : (a b : RulesetKind) → same_kind a b ≡ true → a ≡ b
kind_is Filter Filter h = refl
kind_is Filter Table h = absurd (cc (h))
kind_is Table Filter h = absurd (cc (h))
kind_is Table Table h = refl

pub name_is : (a b : RulesetName) → same_name a b ≡ true → a ≡ b
name_is a b h =
    let named : RulesetKind → List ℕ → RulesetName = λ k p. record { kind = k; path = p } in
    let each : (same_kind a.kind b.kind ≡ true) × (same_path a.path b.path ≡ true) = and_parts (same_kind a.kind b.kind) (same_path a.path b.path) h in
    ap (λ (k : RulesetKind). named k a.path) (kind_is a.kind b.kind each.0) ∙ ap (λ (p : List ℕ). named b.kind p) (same_path_is a.path b.path each.1)

-- a name is that of its kind at its path
abbrev named_as : RulesetKind → List ℕ → RulesetName
named_as k p = record { kind = k; path = p }

pub filter_is : (n : RulesetName) → Filter ≡ n.kind → filter_at n.path ≡ n
filter_is n h = ap (λ (k : RulesetKind). named_as k n.path) h

pub table_is : (n : RulesetName) → Table ≡ n.kind → table_ruleset_at n.path ≡ n
table_is n h = ap (λ (k : RulesetKind). named_as k n.path) h
