-- Rules eight at a time: what a block gives, and what is left after it.
use Rattle.std.proofs.Common.{◌≡◌, ◌<◌, ◌≤◌, ℕ, zero, suc, ◌+◌, ◌-◌, ◌*◌, ◌^◌, Bool, true, false, cond, ◌&&◌, ◌||◌, List, [], ◌∷◌, length, take, drop, get_or, Option, Some, None, refl, sym, ap, ◌∙◌, arith, ⊎_elim, w8}
use Rattle.std.specs.{Prelude.{slice_get, bit_and, nat_eq, MatchOption, IfSome}, Int.div_ceil, Option.option_or}
use Rattle.std.proofs.lemmas.{Bool.{cases_lt, or_parts}, Grind.div_ceil_times, List.drop-drop, Nat.Bits.bit_at-trailing_zeros, Option.slice_get-get_or}
use Rattle.pf_addr.specs.Path.References.{PlainReference}
use Rattle.pf_rule.specs.{Packets.PlainPacket, Rules.PlainRule, declared.{rule.Action.Action, rule.Effect.Effect, rule.Effect.TheVariants.Decide, rule.Effect.TheVariants.Evaluate}}
use Rattle.pf_lanes.specs.{Masks.{is_set, AreEnds}, Answered.{bit_by, block_mark, eight_from, is_anchor, stops}}
use Rattle.pf_lanes.proofs.{Bits.{none_set, is_set-and}, Counted.taken_above, Places.eight_get}
use Rattle.pf_anchor.specs.{Blocks.{AreStops, GivesLast, given_from}, declared.{evaluate.LastBlock.LastBlock, evaluated.Evaluated.Evaluated, evaluated.Evaluated.TheVariants.Open, evaluated.Evaluated.TheVariants.Ended}, Matches.{PlainMatch, found}, Rulesets.PlainPlaced, Configurations.PlainConfig, Evaluation.{and_then, settled, effected, rules_give}}
use Rattle.pf_anchor.proofs.{Evaluations.{none_and_then, and_then_assoc}, Turns.then_open}
use Rattle.pf_map.proofs.Tests.{same_entry}

-- ---- a block, and the rules after it

split : {M : Type 0} (effect : ℕ → PlainRule → Evaluated M) (test : PlainRule → Bool) (k n : ℕ) (rs : List PlainRule) →
    rules_give effect test n rs ≡ and_then (rules_give effect test n (take k rs)) (rules_give effect test (n + k) (drop k rs))
split effect test zero n rs = ap (λ m. rules_give effect test m rs) (let e : n ≡ n + 0 = omega arith in e) ∙ sym (none_and_then (rules_give effect test (n + 0) rs))
split effect test (suc k) n [] = refl
split {M} effect test (suc k) n (r ∷ rs) =
    let here : Evaluated M = cond (test r) (settled r.quick (effect n r)) (Open None) in
    ap (and_then here) (split effect test k (n + 1) rs)
    ∙ sym (and_then_assoc here (rules_give effect test (n + 1) (take k rs)) (rules_give effect test (n + 1 + k) (drop k rs)))
    ∙ ap (λ (m : ℕ). and_then (and_then here (rules_give effect test (n + 1) (take k rs))) (rules_give effect test m (drop k rs))) (let e : n + 1 + k ≡ n + suc k = omega arith in e)

block_apart : {M : Type 0} (effect : ℕ → PlainRule → Evaluated M) (test : PlainRule → Bool) (block : ℕ) (rules : List PlainRule) →
    rules_give effect test (8 * block) (drop (8 * block) rules)
    ≡ and_then (rules_give effect test (8 * block) (eight_from (8 * block) rules)) (rules_give effect test (8 * (block + 1)) (drop (8 * (block + 1)) rules))
block_apart effect test block rules =
    let next : 8 * block + 8 ≡ 8 * (block + 1) = omega arith in
    split effect test 8 (8 * block) (drop (8 * block) rules)
    ∙ ap (λ (rs : List PlainRule). and_then (rules_give effect test (8 * block) (eight_from (8 * block) rules)) (rules_give effect test (8 * block + 8) rs)) (drop-drop 8 (8 * block) rules)
    ∙ ap (λ (k : ℕ). and_then (rules_give effect test (8 * block) (eight_from (8 * block) rules)) (rules_give effect test k (drop k rules))) next

pub block_goes_on : {M : Type 0} (effect : ℕ → PlainRule → Evaluated M) (test : PlainRule → Bool) (last latest : Option M) (block : ℕ) (rules : List PlainRule) →
    Open latest ≡ rules_give effect test (8 * block) (eight_from (8 * block) rules) →
    and_then (Open last) (rules_give effect test (8 * block) (drop (8 * block) rules))
    ≡ and_then (Open (option_or latest last)) (rules_give effect test (8 * (block + 1)) (drop (8 * (block + 1)) rules))
block_goes_on {M} effect test last latest block rules gives =
    let following = rules_give effect test (8 * (block + 1)) (drop (8 * (block + 1)) rules) in
    ap (and_then (Open last)) (block_apart effect test block rules)
    ∙ ap (λ (x : Evaluated M). and_then (Open last) (and_then x following)) (sym gives)
    ∙ then_open last latest following

pub block_ends : {M : Type 0} (effect : ℕ → PlainRule → Evaluated M) (test : PlainRule → Bool) (last : Option M) (m : M) (block : ℕ) (rules : List PlainRule) →
    Ended m ≡ rules_give effect test (8 * block) (eight_from (8 * block) rules) →
    and_then (Open last) (rules_give effect test (8 * block) (drop (8 * block) rules)) ≡ Ended m
block_ends {M} effect test last m block rules gives =
    let following = rules_give effect test (8 * (block + 1)) (drop (8 * (block + 1)) rules) in
    ap (and_then (Open last)) (block_apart effect test block rules)
    ∙ ap (λ (x : Evaluated M). and_then (Open last) (and_then x following)) (sym gives)

-- a rule of a block that ends the evaluation
pub rule_ends : {M : Type 0} (effect : ℕ → PlainRule → Evaluated M) (test : PlainRule → Bool) (last : Option M) (m : M) (n : ℕ) (rules : List PlainRule) (r : PlainRule) (rest : List PlainRule) →
    rules ≡ r ∷ rest → test r ≡ true → Ended m ≡ settled r.quick (effect n r) → and_then (Open last) (rules_give effect test n rules) ≡ Ended m
rule_ends {M} effect test last m n rules r rest left is settles =
    ap (λ (rs : List PlainRule). and_then (Open last) (rules_give effect test n rs)) left
    ∙ ap (λ (b : Bool). and_then (Open last) (and_then (cond b (settled r.quick (effect n r)) (Open None)) (rules_give effect test (n + 1) rest))) is
    ∙ ap (λ (x : Evaluated M). and_then (Open last) (and_then x (rules_give effect test (n + 1) rest))) (sym settles)

-- ---- a block without quick and without anchor rules among those that match

passed : {M : Type 0} (effect : ℕ → PlainRule → Evaluated M) (test : PlainRule → Bool) (n : ℕ) (rs : List PlainRule) →
    ((i : ℕ) → bit_by test (slice_get rs i) ≡ false) → rules_give effect test n rs ≡ Open None
passed effect test n [] none = refl
passed effect test n (r ∷ rs) none =
    let rest = passed effect test (n + 1) rs (λ i. none (suc i)) in
    λ j. and_then (cond (none 0 j) (settled r.quick (effect n r)) (Open None)) (rest j)

-- a rule before the last one that matches doesn't end the evaluation
left_open : (f : PlainPlaced → Evaluated PlainMatch) (c : List PlainPlaced) (p : List ℕ) (n : ℕ) (b q : Bool) (e : Effect) → (b ≡ true → (q || is_anchor e) ≡ false) →
    (o : Option PlainMatch) × (cond b (settled q (effected f c p n e)) (Open None) ≡ Open o)
left_open f c p n false q e free = (None, refl)
left_open f c p n true false (Decide a) free = (Some (found p n a), refl)
left_open f c p n true false (Evaluate s) free = absurd (cc (free refl))
left_open f c p n true true e free = absurd (cc (free refl))

-- if it matches, it decides
decides : (f : PlainPlaced → Evaluated PlainMatch) (c : List PlainPlaced) (p : List ℕ) (n : ℕ) (b q : Bool) (e : Effect) → b ≡ true → (b ≡ true → (q || is_anchor e) ≡ false) →
    (m : PlainMatch) × (cond b (settled q (effected f c p n e)) (Open None) ≡ Open (Some m))
decides f c p n false q e is free = absurd (cc (is))
decides f c p n true false (Decide a) is free = (found p n a, refl)
decides f c p n true false (Evaluate s) is free = absurd (cc (free refl))
decides f c p n true true e is free = absurd (cc (free refl))

both_open : (a b : Option PlainMatch) → and_then (Open a) (Open b) ≡ Open (option_or b a)
both_open a None = refl
both_open a (Some m) = refl

some_stands : (o : Option PlainMatch) (m : PlainMatch) → (k : PlainMatch) × (option_or o (Some m) ≡ Some k)
some_stands None m = (m, refl)
some_stands (Some k) m = (k, refl)

-- rules don't end the evaluation if none that matches is a quick or an anchor rule
stay_open : (f : PlainPlaced → Evaluated PlainMatch) (c : List PlainPlaced) (p : List ℕ) (test : PlainRule → Bool) (n : ℕ) (rs : List PlainRule) →
    ((i : ℕ) → bit_by test (slice_get rs i) ≡ true → bit_by stops (slice_get rs i) ≡ false) →
    (o : Option PlainMatch) × (rules_give (λ k x. effected f c p k x.effect) test n rs ≡ Open o)
stay_open f c p test n [] free = (None, refl)
stay_open f c p test n (x ∷ xs) free =
    let here = left_open f c p n (test x) x.quick x.effect (free 0) in
    let rest = stay_open f c p test (n + 1) xs (λ i. free (suc i)) in
    (option_or rest.0 here.0, (λ j. and_then (here.1 j) (rest.1 j)) ∙ both_open here.0 rest.0)

-- if one of them matches, there is a last match
one_decides : (f : PlainPlaced → Evaluated PlainMatch) (c : List PlainPlaced) (p : List ℕ) (test : PlainRule → Bool) (n : ℕ) (rs : List PlainRule) →
    ((i : ℕ) → bit_by test (slice_get rs i) ≡ true → bit_by stops (slice_get rs i) ≡ false) → (i : ℕ) → bit_by test (slice_get rs i) ≡ true →
    (m : PlainMatch) × (rules_give (λ k x. effected f c p k x.effect) test n rs ≡ Open (Some m))
one_decides f c p test n [] free i is = absurd (cc (is))
one_decides f c p test n (x ∷ xs) free zero is =
    let here = decides f c p n (test x) x.quick x.effect is (free 0) in
    let rest = stay_open f c p test (n + 1) xs (λ i. free (suc i)) in
    let last = some_stands rest.0 here.0 in
    (last.0, (λ j. and_then (here.1 j) (rest.1 j)) ∙ both_open (Some here.0) rest.0 ∙ ap (λ (o : Option PlainMatch). Open o) last.1)
one_decides f c p test n (x ∷ xs) free (suc i) is =
    let here = left_open f c p n (test x) x.quick x.effect (free 0) in
    let rest = one_decides f c p test (n + 1) xs (λ i. free (suc i)) i is in
    (rest.0, (λ j. and_then (here.1 j) (rest.1 j)))

-- the rule at this lane matches, none after it does, and none that matches is a quick or an anchor rule
record IsLast (test : PlainRule → Bool) (rs : List PlainRule) (lane : ℕ) (r : PlainRule) : Type 0 where
  pub there : slice_get rs lane ≡ Some r
  pub matches : test r ≡ true
  pub free : (i : ℕ) → bit_by test (slice_get rs i) ≡ true → bit_by stops (slice_get rs i) ≡ false
  pub none : (i : ℕ) → lane < i → bit_by test (slice_get rs i) ≡ false

last_stands : (f : PlainPlaced → Evaluated PlainMatch) (c : List PlainPlaced) (p : List ℕ) (test : PlainRule → Bool) (n : ℕ) (rs : List PlainRule) (lane : ℕ) (r : PlainRule) (a : Action) →
    IsLast test rs lane r → r.effect ≡ Decide a → rules_give (λ k x. effected f c p k x.effect) test n rs ≡ Open (Some (found p (n + lane) a))
last_stands f c p test n [] lane r a is decides = absurd (cc (is.there))
last_stands f c p test n (x ∷ xs) zero r a is decides =
    let same = same_entry x r is.there in
    let m : test x ≡ true = ap test same ∙ is.matches in
    let q : x.quick ≡ false = (or_parts x.quick (is_anchor x.effect) (is.free 0 m)).0 in
    let e : x.effect ≡ Decide a = ap (λ (y : PlainRule). y.effect) same ∙ decides in
    let rest = passed (λ k x. effected f c p k x.effect) test (n + 1) xs (λ i. is.none (suc i) (omega arith)) in
    (λ j. and_then (cond (m j) (settled (q j) (effected f c p n (e j))) (Open None)) (rest j))
    ∙ ap (λ (k : ℕ). Open (Some (found p k a))) (let z : n ≡ n + 0 = omega arith in z)
last_stands f c p test n (x ∷ xs) (suc lane) r a is decides =
    let rest = last_stands f c p test (n + 1) xs lane r a (record { there = is.there; matches = is.matches; free = λ i. is.free (suc i); none = λ i lt. is.none (suc i) (omega arith) }) decides in
    let here = left_open f c p n (test x) x.quick x.effect (is.free 0) in
    (λ j. and_then (here.1 j) (rest j))
    ∙ ap (λ (k : ℕ). Open (Some (found p k a))) (let z : n + 1 + lane ≡ n + suc lane = omega arith in z)

-- ---- by the bits of a mask

-- a bit says whether its rule passes the test
pub record HasBits (test : PlainRule → Bool) (rules : List PlainRule) (block mask : ℕ) : Type 0 where
  pub each : (i : ℕ) → i < 8 → is_set mask i ≡ block_mark test rules block i

-- bits of the eight rules themselves
eight_bit : (test : PlainRule → Bool) (rules : List PlainRule) (block i : ℕ) → i < 8 → bit_by test (slice_get (eight_from (8 * block) rules) i) ≡ block_mark test rules block i
eight_bit test rules block i lt = ap (bit_by test) (eight_get rules (8 * block) i lt)

no_ninth : (test : PlainRule → Bool) (rules : List PlainRule) (block i : ℕ) → 8 ≤ i → bit_by test (slice_get (eight_from (8 * block) rules) i) ≡ false
no_ninth test rules block i le = ap (bit_by test) (taken_above (drop (8 * block) rules) 8 i le)

-- a mask without bits: nothing matches
pub none_found : {M : Type 0} (effect : ℕ → PlainRule → Evaluated M) (test : PlainRule → Bool) (rules : List PlainRule) (block mask : ℕ) →
    HasBits test rules block mask → mask ≡ 0 → rules_give effect test (8 * block) (eight_from (8 * block) rules) ≡ Open None
none_found effect test rules block mask bits none =
    passed effect test (8 * block) (eight_from (8 * block) rules)
    (λ i. ⊎_elim
    (λ (lt : i < 8). eight_bit test rules block i lt ∙ sym (bits.each i lt) ∙ ap (λ m. is_set m i) none ∙ none_set i)
    (λ (le : 8 ≤ i). no_ninth test rules block i le)
    (cases_lt i 8))

-- the last bit's rule decides
pub last_found : (f : PlainPlaced → Evaluated PlainMatch) (c : List PlainPlaced) (p : List ℕ) (test : PlainRule → Bool) (rules : List PlainRule) (block mask first last : ℕ) (r : PlainRule) (a : Action) →
    HasBits test rules block mask → ((i : ℕ) → i < 8 → is_set mask i ≡ true → block_mark stops rules block i ≡ false) → AreEnds mask first last →
    slice_get rules (8 * block + last) ≡ Some r → r.effect ≡ Decide a →
    rules_give (λ k x. effected f c p k x.effect) test (8 * block) (eight_from (8 * block) rules) ≡ Open (Some (found p (8 * block + last) a))
last_found f c p test rules block mask first last r a bits free ends there decides =
    let within = ends.within in
    last_stands f c p test (8 * block) (eight_from (8 * block) rules) last r a
    (record {
      there = eight_get rules (8 * block) last within ∙ there;
      matches = sym (bits.each last within ∙ ap (bit_by test) there) ∙ ends.last_set;
      free = λ i is. ⊎_elim
          (λ (lt : i < 8). eight_bit stops rules block i lt ∙ free i lt (bits.each i lt ∙ sym (eight_bit test rules block i lt) ∙ is))
          (λ (le : 8 ≤ i). no_ninth stops rules block i le)
          (cases_lt i 8);
      none = λ i above. ⊎_elim
          (λ (lt : i < 8). eight_bit test rules block i lt ∙ sym (bits.each i lt) ∙ ends.none_above i above)
          (λ (le : 8 ≤ i). no_ninth test rules block i le)
          (cases_lt i 8);
    })
    decides

-- a mask with a bit: there is a last match
pub one_found : (f : PlainPlaced → Evaluated PlainMatch) (c : List PlainPlaced) (p : List ℕ) (test : PlainRule → Bool) (rules : List PlainRule) (block mask : ℕ) →
    HasBits test rules block mask → ((i : ℕ) → i < 8 → is_set mask i ≡ true → block_mark stops rules block i ≡ false) → 0 < mask → mask < 2 ^ 8 →
    (m : PlainMatch) × (rules_give (λ k x. effected f c p k x.effect) test (8 * block) (eight_from (8 * block) rules) ≡ Open (Some m))
one_found f c p test rules block mask bits free some fits =
    let low = bit_at-trailing_zeros w8 mask some fits in
    one_decides f c p test (8 * block) (eight_from (8 * block) rules)
    (λ i is. ⊎_elim
    (λ (lt : i < 8). eight_bit stops rules block i lt ∙ free i lt (bits.each i lt ∙ sym (eight_bit test rules block i lt) ∙ is))
    (λ (le : 8 ≤ i). no_ninth stops rules block i le)
    (cases_lt i 8))
    _ (eight_bit test rules block _ low.0 ∙ sym (bits.each _ low.0) ∙ ap (λ b. nat_eq b 1) low.1)

-- ---- the last block with a match, of those passed

-- its match stands, whatever was before it
pub record IsLastBlock (c : PlainConfig) (packet : PlainPacket) (e : PlainPlaced) (from to : ℕ) (before : Option PlainMatch) (block mask : ℕ) : Type 0 where
  pub within : block ≤ length e.1
  pub stands : PlainMatch
  pub is_its : (last : Option PlainMatch) → GivesLast e block mask last → last ≡ Some stands
  pub gives : given_from c packet e from before ≡ given_from c packet e to (Some stands)

-- after the blocks from one up to another the last block's match stands, or the one before if no rule of them matches
abbrev pub Passes : PlainConfig → PlainPacket → PlainPlaced → ℕ → ℕ → Option PlainMatch → Option LastBlock → Type 0
Passes c packet e from to before last_block =
    MatchOption last_block (given_from c packet e from before ≡ given_from c packet e to before) (λ b. IsLastBlock c packet e from to before b.block b.mask)

pub some_last : (c : PlainConfig) (packet : PlainPacket) (e : PlainPlaced) (from to : ℕ) (before : Option PlainMatch) (last_block : Option LastBlock) → Passes c packet e from to before last_block →
    (last : Option PlainMatch) × (given_from c packet e from before ≡ given_from c packet e to last)
some_last c packet e from to before None passes = (before, passes)
some_last c packet e from to before (Some b) passes = (Some passes.stands, passes.gives)

-- further on, past rules that don't match
pub further : (c : PlainConfig) (packet : PlainPacket) (e : PlainPlaced) (from to next : ℕ) (before : Option PlainMatch) (last_block : Option LastBlock) → Passes c packet e from to before last_block →
    ((last : Option PlainMatch) → given_from c packet e to last ≡ given_from c packet e next last) → Passes c packet e from next before last_block
further c packet e from to next before None passes same = passes ∙ same before
further c packet e from to next before (Some b) passes same =
    record { within = passes.within; stands = passes.stands; is_its = passes.is_its; gives = passes.gives ∙ same (Some passes.stands) }

pub last_within : (c : PlainConfig) (packet : PlainPacket) (e : PlainPlaced) (from to : ℕ) (before : Option PlainMatch) (last_block : Option LastBlock) → Passes c packet e from to before last_block →
    IfSome last_block (λ b. b.block ≤ length e.1)
last_within c packet e from to before None passes = tt
last_within c packet e from to before (Some b) passes = passes.within

-- what the last block gives, or what was before
pub at_last : (c : PlainConfig) (packet : PlainPacket) (e : PlainPlaced) (from to : ℕ) (before : Option PlainMatch) (last_block : Option LastBlock) (last : Option PlainMatch) →
    Passes c packet e from to before last_block → MatchOption last_block (last ≡ before) (λ b. GivesLast e b.block b.mask last) → given_from c packet e from before ≡ given_from c packet e to last
at_last c packet e from to before None last passes is = passes ∙ ap (λ (o : Option PlainMatch). given_from c packet e to o) (sym is)
at_last c packet e from to before (Some b) last passes is = passes.gives ∙ ap (λ (o : Option PlainMatch). given_from c packet e to o) (sym (passes.is_its last is))

pub past_all : (rules items : List PlainRule) (k : ℕ) → rules ≡ items → length rules ≤ k → slice_get items k ≡ None
past_all rules items k same le = ap (λ (rs : List PlainRule). slice_get rs k) (sym same) ∙ past rules k le where
  past : (xs : List PlainRule) (n : ℕ) → length xs ≤ n → slice_get xs n ≡ None
  past [] n le = refl
  past (x ∷ xs) zero le = absurd (omega (arith, le))
  past (x ∷ xs) (suc n) le = past xs n (omega (arith, le))

pub there_at : (rules items : List PlainRule) (k : ℕ) (r : PlainRule) → rules ≡ items → k < length rules → r ≡ get_or rules k r → slice_get items k ≡ Some r
there_at rules items k r same lt is = ap (λ (rs : List PlainRule). slice_get rs k) (sym same) ∙ slice_get-get_or rules k r lt ∙ ap (λ x. Some x) (sym is)

-- a set bit has a rule
pub bit_has_rule : (test : PlainRule → Bool) (rules : List PlainRule) (block mask i : ℕ) → HasBits test rules block mask → i < 8 → is_set mask i ≡ true →
    slice_get rules (8 * block + i) ≡ None → {A : Type 0} → A
bit_has_rule test rules block mask i bits lt set none = absurd (cc (sym set ∙ bits.each i lt ∙ ap (bit_by test) none))

-- an anchor rule stops
pub stops_there : (rules : List PlainRule) (block i : ℕ) (r : PlainRule) (s : PlainReference) → slice_get rules (8 * block + i) ≡ Some r → r.effect ≡ Evaluate s →
    block_mark stops rules block i ≡ true
stops_there rules block i r s there leads = ap (bit_by stops) there ∙ ap (λ (e : Effect). r.quick || is_anchor e) leads ∙ any r.quick where
  any : (b : Bool) → (b || true) ≡ true
  any true = refl
  any false = refl

pub no_match : (rules : List PlainRule) (block mask : ℕ) → mask ≡ 0 → AreStops rules block mask 0
no_match rules block mask none = record { unset = λ i lt set un. absurd (cc (sym set ∙ ap (λ m. is_set m i) none ∙ none_set i)) }

pub all_stop : (rules : List PlainRule) (block mask : ℕ) → AreStops rules block mask mask
all_stop rules block mask = record { unset = λ i lt set un. absurd (cc (sym set ∙ un)) }

pub stops_of : (rules : List PlainRule) (block mask bits : ℕ) → ((i : ℕ) → i < 8 → is_set bits i ≡ block_mark stops rules block i) → AreStops rules block mask (bit_and bits mask)
stops_of rules block mask bits reported = record {
  unset = λ i lt set un. sym (reported i lt) ∙ first (is_set bits i) (is_set mask i) set (sym (is_set-and bits mask i) ∙ un);
} where
  first : (a b : Bool) → b ≡ true → (a && b) ≡ false → a ≡ false
  first false b e f = refl
  first true b e f = absurd (cc (sym e ∙ f))

pub none_stops : (rules : List PlainRule) (block mask bits : ℕ) → AreStops rules block mask bits → bits ≡ 0 →
    (i : ℕ) → i < 8 → is_set mask i ≡ true → block_mark stops rules block i ≡ false
none_stops rules block mask bits are none i lt set = are.unset i lt set (ap (λ n. is_set n i) none ∙ none_set i)

-- the rule of a lane, by its bit
pub lane_says : (test : PlainRule → Bool) (rules eight : List PlainRule) (block lane : ℕ) (r : PlainRule) → eight ≡ eight_from (8 * block) rules → lane < length eight → lane < 8 →
    r ≡ get_or eight lane r → block_mark test rules block lane ≡ test r
lane_says test rules eight block lane r same lt small is =
    ap (bit_by test) (sym (eight_get rules (8 * block) lane small) ∙ there_at eight (eight_from (8 * block) rules) lane r same lt is)

-- ---- blocks that are skipped

so_many_passed : {M : Type 0} (effect : ℕ → PlainRule → Evaluated M) (test : PlainRule → Bool) (rules : List PlainRule) (block n : ℕ) →
    ((k i : ℕ) → block ≤ k → k < block + n → i < 8 → block_mark test rules k i ≡ false) →
    rules_give effect test (8 * block) (drop (8 * block) rules) ≡ rules_give effect test (8 * (block + n)) (drop (8 * (block + n)) rules)
so_many_passed effect test rules block zero none =
    ap (λ (k : ℕ). rules_give effect test (8 * k) (drop (8 * k) rules)) (let z : block ≡ block + 0 = omega arith in z)
so_many_passed {M} effect test rules block (suc n) none =
    let following : Evaluated M = rules_give effect test (8 * (block + 1)) (drop (8 * (block + 1)) rules) in
    block_apart effect test block rules
    ∙ ap (λ (x : Evaluated M). and_then x following) (none_found effect test rules block 0 (record { each = λ i lt. none_set i ∙ sym (none block i (omega arith) (omega arith) lt) }) refl)
    ∙ none_and_then following
    ∙ so_many_passed effect test rules (block + 1) n (λ k i le lt. none k i (omega (arith, le)) (omega (arith, lt)))
    ∙ ap (λ (k : ℕ). rules_give effect test (8 * k) (drop (8 * k) rules)) (let z : block + 1 + n ≡ block + suc n = omega arith in z)

pub blocks_passed : {M : Type 0} (effect : ℕ → PlainRule → Evaluated M) (test : PlainRule → Bool) (rules : List PlainRule) (from to : ℕ) → from ≤ to →
    ((k i : ℕ) → from ≤ k → k < to → i < 8 → block_mark test rules k i ≡ false) →
    rules_give effect test (8 * from) (drop (8 * from) rules) ≡ rules_give effect test (8 * to) (drop (8 * to) rules)
blocks_passed effect test rules from to le none =
    so_many_passed effect test rules from (to - from) (λ k i low lt. none k i low (omega (arith, le, lt)))
    ∙ ap (λ (k : ℕ). rules_give effect test (8 * k) (drop (8 * k) rules)) (let z : from + (to - from) ≡ to = omega (arith, le) in z)

-- ---- how many blocks there are

pub block_within : (len blocks block : ℕ) → blocks ≡ div_ceil len 8 → block < blocks → block < len
block_within len blocks block is lt = let times = div_ceil_times len 8 (omega arith) in omega (arith, is, lt, times.1)

pub block_past : (len blocks block : ℕ) → blocks ≡ div_ceil len 8 → blocks ≤ block → len ≤ 8 * block
block_past len blocks block is le = let times = div_ceil_times len 8 (omega arith) in omega (arith, is, le, times.0)
