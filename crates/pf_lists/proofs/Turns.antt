-- The turns of the loops over lists and over ways.
use Rattle.std.proofs.Common.{◌≡◌, ℕ, suc, map, ◌+◌, ◌-◌, ◌*◌, ◌/◌, ◌%◌, ◌^◌, ◌<◌, ◌≤◌, min, leb, Bool, true, false, cond, List, [], ◌∷◌, ◌++◌, length, get_or, take, drop, Option, Result, Ok, Err, sym, ap, ◌∙◌, arith, append_assoc, add-one}
use Rattle.std.proofs.{Math.Seq.drop-cons, lemmas.Bool.Decides.nat_tests, lemmas.List.{append-nil, take_more, map-append, drop_all, at_drop_all, get_or_read}}
use Rattle.std.specs.Option.{option_to_list}
use denote.Ref.{Bor}
use Rattle.pf_form.specs.{Form.Forms.◌>>=◌, Form.Words.texts}
use Rattle.pf_rule.specs.Rules.{PlainRule}
use Rattle.pf_lists.specs.declared.{rules.Mistake.Mistake, rules.Mistake.TheVariants.{ManyCombinations, NoCombination}, rules.ListStop.ListStop, rules.ListStop.TheVariants.{Faulty, Memory}, rules.TheConstants.COMBINATION_LIMIT}
use Rattle.pf_lists.specs.declared.hosts.Host.{Host}
use Rattle.pf_lists.specs.{Hosts.host_words, Product.{Word, spelled, count, numbered}, Multiplied.{Gives, rule_of, rules_of, at_least_one, multiplied}}
use Rattle.pf_lists.proofs.Ways.{spelled_count, spelled_digits, Digit, digit, capped_product, one_way, no_way}

drop_item : {X : Type 0} → (xs : List X) (i : ℕ) (x : X) → i < length xs → x ≡ get_or xs i x → drop i xs ≡ x ∷ drop (i + 1) xs
drop_item {X} xs i x in_list here =
    drop-cons xs i x in_list ∙ ap (λ (y : X). y ∷ drop (suc i) xs) (sym here) ∙ ap (λ (n : ℕ). x ∷ drop n xs) (sym (add-one i))

take_item : {X : Type 0} → (xs : List X) (i : ℕ) (x : X) → i < length xs → x ≡ get_or xs i x → take (i + 1) xs ≡ take i xs ++ x ∷ []
take_item {X} xs i x in_list here = take_more xs i x in_list ∙ ap (λ (y : X). take i xs ++ y ∷ []) (sym here)

-- ---- the words of hosts

pub host_turn : (hosts : List Host) (i : ℕ) (h : Host) → i < length hosts → h ≡ get_or hosts i h → map host_words (take (i + 1) hosts) ≡ map host_words (take i hosts) ++ host_words h ∷ []
host_turn hosts i h in_hosts here =
    ap (map host_words) (take_item hosts i h in_hosts here) ∙ map-append host_words (take i hosts) (h ∷ [])

-- ---- counting

pub capped_turn : (lists : List (List (List Word))) (i n long more m : ℕ) (list : List (List Word)) → i < length lists → list ≡ get_or lists i list → long ≡ length list → more ≡ min (n * long) m → min (more * count (drop (i + 1) lists)) m ≡ min (n * count (drop i lists)) m
unfolding count
capped_turn lists i n long more m list in_lists here len is =
    let rest : ℕ = count (drop (i + 1) lists) in
    let next : count (drop i lists) ≡ length list * rest = ap count (drop_item lists i list in_lists here) in
    let product : n * length list * rest ≡ n * (length list * rest) = omega arith in
    ap (λ k. min (k * rest) m) is
    ∙ ap (λ k. min (min (n * k) m * rest) m) len
    ∙ capped_product (n * length list) rest m
    ∙ ap (λ k. min k m) product
    ∙ ap (λ k. min (n * k) m) (sym next)

pub capped_end : (lists : List (List (List Word))) (i n m all : ℕ) → length lists ≤ i → n ≤ m → min (n * count (drop i lists)) m ≡ all → n ≡ all
unfolding count
capped_end lists i n m all past within known =
    let one : min (n * 1) m ≡ all = sym (at_drop_all (λ (ls : List (List (List Word))). min (n * count ls) m) lists i past) ∙ known in
    omega arith

-- ---- the words of an item

pub word_put : (words : List (Bor Word)) (r : Bor Word) (item : List Word) (i : ℕ) (front : List Word) (w : Word) → i < length item → w ≡ get_or item i w → r.now ≡ w → texts words ≡ front ++ take i item → texts (words ++ r ∷ []) ≡ front ++ take (i + 1) item
word_put words r item i front w in_item here is known =
    map-append (λ (b : Bor Word). b.now) words (r ∷ [])
    ∙ ap (λ (ws : List Word). ws ++ r.now ∷ []) known
    ∙ append_assoc front (take i item) (r.now ∷ [])
    ∙ ap (λ (v : Word). front ++ (take i item ++ v ∷ [])) is
    ∙ ap (λ (ws : List Word). front ++ ws) (sym (take_item item i w in_item here))

-- ---- one digit after another

pub record Turn (lists : List (List (List Word))) (i : ℕ) (list : List (List Word)) (left rest long : ℕ) : Type 0 where
  pub some : 0 < long
  pub others : 0 < rest / long
  pub within : left / (rest / long) < length list
  pub ways : rest / long ≡ count (drop (i + 1) lists)
  pub below : left % (rest / long) < rest / long
  pub words : numbered (drop i lists) left ≡ get_or list (left / (rest / long)) [] ++ numbered (drop (i + 1) lists) (left % (rest / long))

pub turn : (lists : List (List (List Word))) (i : ℕ) (list : List (List Word)) (left rest long : ℕ) → i < length lists → list ≡ get_or lists i list → rest ≡ count (drop i lists) → left < rest → long ≡ length list → Turn lists i list left rest long
turn lists i list left rest long in_lists here ways one len =
    let next : drop i lists ≡ list ∷ drop (i + 1) lists = drop_item lists i list in_lists here in
    let all : rest ≡ count (list ∷ drop (i + 1) lists) = ways ∙ ap count next in
    let d : Digit list (drop (i + 1) lists) left = digit list (drop (i + 1) lists) left (omega arith) in
    let e : rest / long ≡ count (drop (i + 1) lists) =
    ap (λ k. k / long) all ∙ ap (λ k. count (list ∷ drop (i + 1) lists) / k) len ∙ d.rest in
    record {
      some = omega (arith, d.some);
      others = rw e d.others;
      within = rw e d.within;
      ways = e;
      below = rw e d.below;
      words = ap (λ (ls : List (List (List Word))). numbered ls left) next ∙ rw e d.words;
    }

-- what is appended for one list, and what the others still have
pub words_turn : (lists : List (List (List Word))) (i left rest long : ℕ) (list found : List (List Word)) (item before after all : List Word) → Turn lists i list left rest long → found ≡ list → item ≡ get_or found (left / (rest / long)) item → after ≡ before ++ item → before ++ numbered (drop i lists) left ≡ all → after ++ numbered (drop (i + 1) lists) (left % (rest / long)) ≡ all
words_turn lists i left rest long list found item before after all t same here put known =
    let others : List Word = numbered (drop (i + 1) lists) (left % (rest / long)) in
    let within : left / (rest / long) < length found = rw same t.within in
    let is : item ≡ get_or list (left / (rest / long)) [] =
    get_or_read found (left / (rest / long)) item within here [] ∙ ap (λ (xs : List (List Word)). get_or xs (left / (rest / long)) []) same in
    ap (λ (ws : List Word). ws ++ others) put
    ∙ append_assoc before item others
    ∙ ap (λ (ws : List Word). before ++ (ws ++ others)) is
    ∙ ap (λ (ws : List Word). before ++ ws) (sym t.words)
    ∙ known

pub words_end : (lists : List (List (List Word))) (i left : ℕ) (words all : List Word) → length lists ≤ i → words ++ numbered (drop i lists) left ≡ all → words ≡ all
unfolding numbered
words_end lists i left words all past known =
    sym (append-nil words)
    ∙ ap (λ (ws : List Word). words ++ ws) (sym (at_drop_all (λ (ls : List (List (List Word))). numbered ls left) lists i past))
    ∙ known

-- ---- one way after another

next_way : (lists : List (List (List Word))) (i : ℕ) → i < count lists → drop i (spelled lists) ≡ numbered lists i ∷ drop (i + 1) (spelled lists)
next_way lists i below =
    let within : i < length (spelled lists) = omega (arith, spelled_count lists) in
    drop-cons (spelled lists) i [] within
    ∙ ap (λ (ws : List Word). ws ∷ drop (suc i) (spelled lists)) (spelled_digits lists i below)
    ∙ ap (λ (n : ℕ). numbered lists i ∷ drop n (spelled lists)) (sym (add-one i))

-- what the ways from this one on add to these rules
abbrev pub Onward : List (List (List Word)) → ℕ → List PlainRule → Type 0
Onward lists i front = rules_of (spelled lists) ≡ (rules_of (drop i (spelled lists)) >>= λ rs. Ok (front ++ rs))

pub way_taken : (lists : List (List (List Word))) (i : ℕ) (front : List PlainRule) (r : Option PlainRule) → i < count lists → Onward lists i front → rule_of (numbered lists i) ≡ Ok r → Onward lists (i + 1) (front ++ option_to_list r)
way_taken lists i front r below known is =
    known
    ∙ ap (λ (xs : List (List Word)). rules_of xs >>= λ rs. Ok (front ++ rs)) (next_way lists i below)
    ∙ one_way front (numbered lists i) (drop (i + 1) (spelled lists)) r is

way_fails : (lists : List (List (List Word))) (i : ℕ) (front : List PlainRule) (m : Mistake) → i < count lists → Onward lists i front → rule_of (numbered lists i) ≡ Err m → rules_of (spelled lists) ≡ Err m
way_fails lists i front m below known is =
    known
    ∙ ap (λ (xs : List (List Word)). rules_of xs >>= λ rs. Ok (front ++ rs)) (next_way lists i below)
    ∙ no_way front (numbered lists i) (drop (i + 1) (spelled lists)) m is

pub way_stops : (lists : List (List (List Word))) (i : ℕ) (front : List PlainRule) (stop : ListStop) → i < count lists → Onward lists i front → Gives {A = Option PlainRule} (Err stop) (rule_of (numbered lists i)) → Gives {A = List PlainRule} (Err stop) (rules_of (spelled lists))
way_stops lists i front (Faulty m) below known given = way_fails lists i front m below known given
way_stops lists i front Memory below known given = tt

pub ways_end : (lists : List (List (List Word))) (i : ℕ) (front : List PlainRule) → count lists ≤ i → Onward lists i front → rules_of (spelled lists) ≡ Ok front
unfolding rules_of
ways_end lists i front past known =
    let end : length (spelled lists) ≤ i = omega (arith, spelled_count lists) in
    known
    ∙ ap (λ (xs : List (List Word)). rules_of xs >>= λ rs. Ok (front ++ rs)) (drop_all i (spelled lists) end)
    ∙ ap (λ (rs : List PlainRule). Ok rs) (append-nil front)

-- ---- lists as a whole

pub too_many : (lists : List (List (List Word))) (ways : ℕ) → ways ≡ min (count lists) (2 ^ 64 - 1) → COMBINATION_LIMIT < ways → multiplied lists ≡ Err ManyCombinations
too_many lists ways is over =
    let many : COMBINATION_LIMIT < length (spelled lists) = omega (arith, spelled_count lists) in
    let test : leb (length (spelled lists)) COMBINATION_LIMIT ≡ false = grind (arith, nat_tests) in
    ap (λ (b : Bool). cond b (rules_of (spelled lists) >>= at_least_one) (Err ManyCombinations)) test

pub few : (lists : List (List (List Word))) (ways : ℕ) → ways ≡ count lists → ways ≤ COMBINATION_LIMIT → multiplied lists ≡ (rules_of (spelled lists) >>= at_least_one)
few lists ways is within =
    let less : length (spelled lists) ≤ COMBINATION_LIMIT = omega (arith, spelled_count lists) in
    let test : leb (length (spelled lists)) COMBINATION_LIMIT ≡ true = grind (arith, nat_tests) in
    ap (λ (b : Bool). cond b (rules_of (spelled lists) >>= at_least_one) (Err ManyCombinations)) test

pub few_stop : (lists : List (List (List Word))) (ways : ℕ) (stop : ListStop) → ways ≡ count lists → ways ≤ COMBINATION_LIMIT → Gives {A = List PlainRule} (Err stop) (rules_of (spelled lists)) → Gives {A = List PlainRule} (Err stop) (multiplied lists)
few_stop lists ways (Faulty m) is within given =
    few lists ways is within ∙ ap (λ (q : Result (List PlainRule) Mistake). q >>= at_least_one) given
few_stop lists ways Memory is within given = tt

pub none_left : (lists : List (List (List Word))) (ways : ℕ) (rules : List PlainRule) → ways ≡ count lists → ways ≤ COMBINATION_LIMIT → rules_of (spelled lists) ≡ Ok rules → length rules ≡ 0 → multiplied lists ≡ Err NoCombination
none_left lists ways [] is within given none =
    few lists ways is within ∙ ap (λ (q : Result (List PlainRule) Mistake). q >>= at_least_one) given
none_left lists ways (r ∷ rs) is within given none = absurd (omega arith)

pub some_left : (lists : List (List (List Word))) (ways : ℕ) (rules : List PlainRule) → ways ≡ count lists → ways ≤ COMBINATION_LIMIT → rules_of (spelled lists) ≡ Ok rules → 0 < length rules → multiplied lists ≡ Ok rules
some_left lists ways [] is within given some = absurd (omega arith)
some_left lists ways (r ∷ rs) is within given some =
    few lists ways is within ∙ ap (λ (q : Result (List PlainRule) Mistake). q >>= at_least_one) given
