-- Rules that decide no case, by marks.
use Rattle.std.proofs.Common.{◌≡◌, ◌≢◌, ℕ, ◌+◌, ◌<◌, ◌≤◌, ◌==◌, ◌||◌, ◌&&◌, Bool, true, false, List, [], ◌∷◌, ◌++◌, length, take, drop, get_or, set, Option, Some, None, refl, sym, ap, ◌∙◌, subst, arith, append_assoc, append-nil, length-set}
use Rattle.std.proofs.lemmas.{Option.{slice_get-get_or}, List.{get_or-set_same, get_or-set_other, drop_all}, List.Folds.list_any_more, Bool.Decides.nat_tests}
use Rattle.std.specs.{Prelude.{unwrap_or, not, if◌then◌else◌}, List.{slice_get}}
use Rattle.pf_rule.specs.Rules.{PlainRule}
use Rattle.pf_parse.specs.declared.fault.At.{At}
use Rattle.pf_conf.specs.declared.found.Ruleset.{Ruleset}
use Rattle.pf_conf.proofs.Steps.{drop_item}
use Rattle.pfd_conf.specs.declared.{firewall.Decided.Decided, outcomes.Outcome.Outcome, outcomes.Tried.Tried}
use Rattle.pfd_conf.specs.Covering.{is_of, is_deciding, decides_any, decides_some, AreMarks, unless_marked, unmarked_from, uncovered_in, uncovered_from}

-- marks of the same
pub marks_of : (P Q : ℕ → Bool) (count : ℕ) (marks : List Bool) → ((k : ℕ) → P k ≡ Q k) → AreMarks P count marks → AreMarks Q count marks
marks_of P Q count marks same m = record { all = m.all; each = λ k within. m.each k within ∙ ap Some (same k) }

or_false : (b : Bool) → (b || false) ≡ b
or_false true = refl
or_false false = refl

or_true : (b : Bool) → (b || true) ≡ true
or_true true = refl
or_true false = refl

or_or : (a b c : Bool) → ((a || b) || c) ≡ (a || (b || c))
or_or true b c = refl
or_or false b c = refl

-- ---- one more

pub none_marked : (P : ℕ → Bool) (within count : ℕ) (marks : List Bool) → AreMarks P count marks →
    AreMarks (λ k. P k || is_of within k None) count marks
none_marked P within count marks m = marks_of P (λ k. P k || false) count marks (λ k. sym (or_false (P k))) m

-- another ruleset's rule is none of these
pub other_marked : (P : ℕ → Bool) (within count : ℕ) (d : Decided) (marks : List Bool) → (d.within == within) ≡ false →
    AreMarks P count marks →
    AreMarks (λ k. P k || is_of within k (Some d)) count marks
other_marked P within count d marks other m =
    marks_of P (λ k. P k || is_of within k (Some d)) count marks
    (λ k. sym (or_false (P k)) ∙ ap (λ (b : Bool). P k || (b && (d.number == k))) (sym other)) m

-- a number that no rule has marks none
pub past_marked : (P : ℕ → Bool) (within count : ℕ) (d : Decided) (marks : List Bool) → length marks ≤ d.number → AreMarks P count marks →
    AreMarks (λ k. P k || is_of within k (Some d)) count marks
past_marked P within count d marks past m = record {
  all = m.all;
  each = λ k less. m.each k less ∙ ap Some (by k less);
} where
  and_false : (b : Bool) → (b && false) ≡ false
  and_false true = refl
  and_false false = refl

  by : (k : ℕ) → k < count → P k ≡ (P k || is_of within k (Some d))
  by k less =
      let all = m.all in
      let apart : (d.number == k) ≡ false = grind (arith, nat_tests, all) in
      sym (ap (λ (b : Bool). P k || ((d.within == within) && b)) apart ∙ ap (λ (b : Bool). P k || b) (and_false (d.within == within))
      ∙ or_false (P k))

pub one_marked : (P : ℕ → Bool) (within count : ℕ) (d : Decided) (marks : List Bool) → (d.within == within) ≡ true →
    d.number < length marks →
    AreMarks P count marks → AreMarks (λ k. P k || is_of within k (Some d)) count (set marks d.number true)
one_marked P within count d marks same there m = record {
  all = length-set marks d.number true ∙ m.all;
  each = each;
} where
  here : (k : ℕ) (b : Bool) → k < count → (d.number == k) ≡ b →
      slice_get (set marks d.number true) k ≡ Some (P k || ((d.within == within) && b))
  here k true less is =
      let all = m.all in
      let at : d.number ≡ k = grind (arith, nat_tests, is) in
      let long : k < length (set marks d.number true) = omega (arith, length-set marks d.number true, all) in
      slice_get-get_or (set marks d.number true) k false long
      ∙ ap (λ (n : ℕ). Some (get_or (set marks d.number true) n false)) (sym at)
      ∙ ap Some (get_or-set_same marks d.number true false there)
      ∙ ap Some (sym (ap (λ (b : Bool). P k || (b && true)) same ∙ or_true (P k)))
  here k false less is =
      let all = m.all in
      let apart : k ≢ d.number = λ at. absurd (grind (arith, nat_tests, is, at)) in
      let long : k < length (set marks d.number true) = omega (arith, length-set marks d.number true, all) in
      let short : k < length marks = omega (arith, all) in
      slice_get-get_or (set marks d.number true) k false long
      ∙ ap Some (get_or-set_other marks d.number k true false apart)
      ∙ sym (slice_get-get_or marks k false short) ∙ m.each k less
      ∙ ap Some (sym (ap (λ (b : Bool). P k || (b && false)) same ∙ or_false (P k)))

  each : (k : ℕ) → k < count → slice_get (set marks d.number true) k ≡ Some (P k || is_of within k (Some d))
  each k less = here k (d.number == k) less refl

-- ---- several

pub outcomes_begun : (P : ℕ → Bool) (within count : ℕ) (marks : List Bool) → AreMarks P count marks →
    AreMarks (λ k. P k || decides_any within k []) count marks
outcomes_begun P within count marks m = marks_of P (λ k. P k || false) count marks (λ k. sym (or_false (P k))) m

pub one_more_outcome : (P : ℕ → Bool) (within count : ℕ) (os : List Outcome) (i : ℕ) (d : Outcome) (marks : List Bool) → i < length os →
    AreMarks (λ k. (P k || decides_any within k (take i os)) || is_of within k (get_or os i d).decided) count marks →
    AreMarks (λ k. P k || decides_any within k (take (i + 1) os)) count marks
one_more_outcome P within count os i d marks there m =
    marks_of (λ k. (P k || decides_any within k (take i os)) || is_of within k (get_or os i d).decided)
    (λ k. P k || decides_any within k (take (i + 1) os)) count marks
    (λ k. or_or (P k) (decides_any within k (take i os)) (is_of within k (get_or os i d).decided)
    ∙ ap (λ (b : Bool). P k || b) (sym (list_any_more (λ (q : Outcome). is_of within k q.decided) os i d there))) m

pub one_more_file : (within count : ℕ) (ts : List Tried) (i : ℕ) (t : Tried) (marks : List Bool) → i < length ts → t ≡ get_or ts i t →
    AreMarks (λ k. decides_some within k (take i ts) || decides_any within k t.outcomes) count marks →
    AreMarks (λ k. decides_some within k (take (i + 1) ts)) count marks
one_more_file within count ts i t marks there here m =
    marks_of (λ k. decides_some within k (take i ts) || decides_any within k t.outcomes) (λ k. decides_some within k (take (i + 1) ts))
    count marks
    (λ k. ap (λ (q : Tried). decides_some within k (take i ts) || decides_any within k q.outcomes) here
    ∙ sym (list_any_more (λ (q : Tried). decides_any within k q.outcomes) ts i t there)) m

-- ---- rules that aren't marked

pub one_more_rule : (within : ℕ) (marks : List Bool) (rs : List (At PlainRule)) (i : ℕ) (r : At PlainRule) (all before now : List Decided) →
    all ≡ before ++ unmarked_from within i marks (drop i rs) → i < length rs → r ≡ get_or rs i r →
    now ≡ before ++ unless_marked within i (unwrap_or (slice_get marks i) false) r.is →
    all ≡ now ++ unmarked_from within (i + 1) marks (drop (i + 1) rs)
one_more_rule within marks rs i r all before now so_far there here is =
    so_far ∙ ap (λ (l : List (At PlainRule)). before ++ unmarked_from within i marks l) (drop_item rs i r there here)
    ∙ sym (append_assoc before (unless_marked within i (unwrap_or (slice_get marks i) false) r.is)
    (unmarked_from within (i + 1) marks (drop (i + 1) rs)))
    ∙ ap (λ (l : List Decided). l ++ unmarked_from within (i + 1) marks (drop (i + 1) rs)) (sym is)

pub no_more_rules : (within : ℕ) (marks : List Bool) (rs : List (At PlainRule)) (i : ℕ) (all before : List Decided) →
    all ≡ before ++ unmarked_from within i marks (drop i rs) → length rs ≤ i → all ≡ before
no_more_rules within marks rs i all before so_far past =
    so_far ∙ ap (λ (l : List (At PlainRule)). before ++ unmarked_from within i marks l) (drop_all i rs past) ∙ append-nil before

-- rules that aren't marked are those that decide no case
pub by_marks : (ts : List Tried) (within number : ℕ) (marks : List Bool) (rs : List (At PlainRule)) →
    AreMarks (λ k. decides_some within k ts) (number + length rs) marks →
    unmarked_from within number marks rs ≡ uncovered_in ts within number rs
by_marks ts within number marks [] m = refl
by_marks ts within number marks (r ∷ rs) m =
    let shorter : number + length (r ∷ rs) ≡ number + 1 + length rs = omega arith in
    let less : number < number + length (r ∷ rs) = omega arith in
    ap (λ (o : Option Bool). unless_marked within number (unwrap_or o false) r.is ++ unmarked_from within (number + 1) marks rs)
    (m.each number less)
    ∙ ap (λ (l : List Decided). unless_marked within number (decides_some within number ts) r.is ++ l)
    (by_marks ts within (number + 1) marks rs (subst (λ (n : ℕ). AreMarks (λ k. decides_some within k ts) n marks) shorter m))

pub one_more_ruleset : (ts : List Tried) (rs : List Ruleset) (i : ℕ) (r : Ruleset) (marks : List Bool) (all before now : List Decided) →
    all ≡ before ++ uncovered_from ts i (drop i rs) → i < length rs → r ≡ get_or rs i r →
    AreMarks (λ k. decides_some i k ts) (length r.rules) marks →
    now ≡ before ++ unmarked_from i 0 marks r.rules → all ≡ now ++ uncovered_from ts (i + 1) (drop (i + 1) rs)
one_more_ruleset ts rs i r marks all before now so_far there here m is =
    let at : length r.rules ≡ 0 + length r.rules = omega arith in
    so_far ∙ ap (λ (l : List Ruleset). before ++ uncovered_from ts i l) (drop_item rs i r there here)
    ∙ sym (append_assoc before (uncovered_in ts i 0 r.rules) (uncovered_from ts (i + 1) (drop (i + 1) rs)))
    ∙ ap (λ (l : List Decided). (before ++ l) ++ uncovered_from ts (i + 1) (drop (i + 1) rs))
    (sym (by_marks ts i 0 marks r.rules (subst (λ (n : ℕ). AreMarks (λ k. decides_some i k ts) n marks) at m)))
    ∙ ap (λ (l : List Decided). l ++ uncovered_from ts (i + 1) (drop (i + 1) rs)) (sym is)

pub no_more_rulesets : (ts : List Tried) (rs : List Ruleset) (i : ℕ) (all before : List Decided) →
    all ≡ before ++ uncovered_from ts i (drop i rs) →
    length rs ≤ i → before ≡ all
no_more_rulesets ts rs i all before so_far past =
    sym (so_far ∙ ap (λ (l : List Ruleset). before ++ uncovered_from ts i l) (drop_all i rs past) ∙ append-nil before)

-- ---- one rule of several

pub kept_rule : (within i : ℕ) (mark is_marked deciding : Bool) (r : PlainRule) (old now : List Decided) → is_marked ≡ mark →
    deciding ≡ is_deciding r →
    deciding ≡ true → is_marked ≡ false → now ≡ old ++ record { within = within; number = i } ∷ [] →
    now ≡ old ++ unless_marked within i mark r
kept_rule within i mark is_marked deciding r old now m d decides unset is =
    let both : (is_deciding r && not mark) ≡ true = ap (λ (b : Bool). b && not mark) (sym d ∙ decides)
    ∙ ap (λ (b : Bool). true && not b) (sym m ∙ unset) in
    is ∙ ap (λ (b : Bool). old ++ (if b then record { within = within; number = i } ∷ [] else [])) (sym both)

pub anchor_rule : (within i : ℕ) (mark deciding : Bool) (r : PlainRule) (old now : List Decided) → deciding ≡ is_deciding r →
    deciding ≡ false → now ≡ old →
    now ≡ old ++ unless_marked within i mark r
anchor_rule within i mark deciding r old now d leads is =
    let not_both : (is_deciding r && not mark) ≡ false = ap (λ (b : Bool). b && not mark) (sym d ∙ leads) in
    is ∙ sym (append-nil old) ∙ ap (λ (b : Bool). old ++ (if b then record { within = within; number = i } ∷ [] else [])) (sym not_both)

pub marked_rule : (within i : ℕ) (mark is_marked deciding : Bool) (r : PlainRule) (old now : List Decided) → is_marked ≡ mark →
    deciding ≡ is_deciding r →
    deciding ≡ true → is_marked ≡ true → now ≡ old → now ≡ old ++ unless_marked within i mark r
marked_rule within i mark is_marked deciding r old now m d decides marked is =
    let not_both : (is_deciding r && not mark) ≡ false = ap (λ (b : Bool). b && not mark) (sym d ∙ decides)
    ∙ ap (λ (b : Bool). true && not b) (sym m ∙ marked) in
    is ∙ sym (append-nil old) ∙ ap (λ (b : Bool). old ++ (if b then record { within = within; number = i } ∷ [] else [])) (sym not_both)
