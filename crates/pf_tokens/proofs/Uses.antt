-- How macros, values and lines go on behind the first tokens.
use Rattle.std.proofs.Common.{◌≡◌, ℕ, zero, suc, ◌+◌, ◌-◌, ◌==◌, ◌<◌, ◌≤◌, Bool, true, false, Option, Some, None, List, [], ◌∷◌, ◌++◌, Result, Ok, Err, length, get_or, take, drop, refl, sym, ap, subst, ◌∙◌, append_assoc, arith, if◌then◌else◌}
use Rattle.std.specs.{Prelude.IfSome, Option.{option_or}, Str.{bytes_eq}, List.{flat_map}}
use Rattle.std.proofs.lemmas.List.Concat.{flat_map-append}
use Rattle.std.proofs.lemmas.{List.append-nil, Bool.ne_eqb}
use Rattle.std.specs.{BTreeMap.{BTreeMap, Updates, is_at}, declared.vec.Vec.Vec, Map.{lookup, KeepsOthers}, Ordering.{is_eq, nat_cmp, eq_by_cmp}, Cmp.eq_by_cmp_equiv, Cmp.Lexicographic.{slice_cmp, bytes_decides, nat_list_cmp_total, nat_list_eq_equiv}}
use Rattle.std.proofs.lemmas.Map.Text.{is_eq-slice_cmp}
use Rattle.pf_form.specs.Form.Forms.{◌>>=◌}
use Rattle.pf_tokens.specs.declared.{place.Place.Place, place.Placed.Placed, token.Token.Token, flat.Macro.Macro, fault.TokenStop.TokenStop}
use Rattle.pf_tokens.specs.declared.fault.Mistake.TheVariants.{OpenBrace}
use Rattle.pf_tokens.specs.{Stops.faulty}
use Rattle.pf_tokens.specs.{Latest.{latest, latest_from, number_at}, Flat.{parts_of, with_parts, replaced, part_checked, parts_checked, spaced, has_bytes, value_text, with_part, Left, put, put_each, put_line, last_of, all_closed}}
use Rattle.pf_tokens.proofs.Steps.{drop_item, take_item}

-- ---- the latest definition

more_or : (b : Bool) (later first : Option ℕ) (n m : ℕ) → n ≡ m → option_or (if b then Some n else later) first ≡ (if b then Some m else option_or later first)
more_or true later first n m same = ap (λ (k : ℕ). Some k) same
more_or false later first n m same = refl

first_or : (b : Bool) (n m : ℕ) → n ≡ m → (if b then Some n else None) ≡ (if b then Some m else None)
first_or b n m same = ap (λ (k : ℕ). if b then Some k else None) same

first_found : (b : Bool) (n m : ℕ) (other : Option ℕ) → n ≡ m → (if b then Some n else other) ≡ (if b then Some m else other)
first_found b n m other same = ap (λ (k : ℕ). if b then Some k else other) same

-- one more definition is the latest one of its name
latest_from-more : (n : ℕ) (name : List ℕ) (ms : List Macro) (m : Macro) → latest_from n name (ms ++ m ∷ []) ≡ (if bytes_eq name m.name then Some (n + length ms) else latest_from n name ms)
latest_from-more n name [] m = first_or (bytes_eq name m.name) n (n + 0) (omega arith)
latest_from-more n name (x ∷ xs) m =
    let first : Option ℕ = if bytes_eq name x.name then Some n else None in
    ap (λ (o : Option ℕ). option_or o first) (latest_from-more (n + 1) name xs m)
    ∙ more_or (bytes_eq name m.name) (latest_from (n + 1) name xs) first (n + 1 + length xs) (n + length (x ∷ xs)) (omega arith)

found_below : (b : Bool) (later : Option ℕ) (n k end : ℕ) → n < end → (later ≡ Some k → k < end) → option_or later (if b then Some n else None) ≡ Some k → k < end
found_below b (Some j) n k end here following is = following is
found_below true None n k end here following is = let same : n ≡ k = cc in subst (λ (j : ℕ). j < end) same here
found_below false None n k end here following is = cc

pub latest_from-below : (n : ℕ) (name : List ℕ) (ms : List Macro) (k : ℕ) → latest_from n name ms ≡ Some k → k < n + length ms
latest_from-below n name [] k is = cc
latest_from-below n name (m ∷ ms) k is =
    found_below (bytes_eq name m.name) (latest_from (n + 1) name ms) n k (n + length (m ∷ ms)) (omega arith) (λ following. let below : k < n + 1 + length ms = latest_from-below (n + 1) name ms k following in omega (arith, below)) is

below_of : (o found : Option ℕ) (end : ℕ) → o ≡ found → ((k : ℕ) → found ≡ Some k → k < end) → IfSome o (λ k. k < end)
below_of (Some k) found end is below = below k (sym is)
below_of None found end is below = tt

pub latest-below : (name : List ℕ) (ms : List Macro) (o : Option ℕ) → o ≡ latest name ms → IfSome o (λ k. k < length ms)
latest-below name ms o is = below_of o (latest name ms) (length ms) is (λ k found. let below : k < 0 + length ms = latest_from-below 0 name ms k found in omega (arith, below))

-- ---- numbers by names

apart_names : (bs cs ks : List ℕ) → bytes_eq bs cs ≡ false → is_eq (slice_cmp nat_cmp bs ks) ≡ true → is_eq (slice_cmp nat_cmp cs ks) ≡ false
apart_names bs cs ks differ same =
    is_eq-slice_cmp cs ks ∙ nat_list_eq_equiv.symm cs ks ∙ sym (nat_list_eq_equiv.congr bs ks cs (sym (is_eq-slice_cmp bs ks) ∙ same)) ∙ differ

others_stay : {A : Type 0} (old new : List (Vec ℕ A × ℕ)) (bs cs : List ℕ) → KeepsOthers (eq_by_cmp (λ (x y : Vec ℕ A). slice_cmp nat_cmp x.items y.items)) (is_at (λ (k : Vec ℕ A). slice_cmp nat_cmp bs k.items)) old new → bytes_eq bs cs ≡ false
    → lookup (is_at (λ (k : Vec ℕ A). slice_cmp nat_cmp cs k.items)) new ≡ lookup (is_at (λ (k : Vec ℕ A). slice_cmp nat_cmp cs k.items)) old
unfolding KeepsOthers
others_stay {A} old new bs cs keeps differ =
    keeps (is_at (λ (k : Vec ℕ A). slice_cmp nat_cmp cs k.items)) (λ x y. (eq_by_cmp_equiv nat_list_cmp_total).congr cs x.items y.items) (λ k. apart_names bs cs k.items differ)

number_by : {A : Type 0} (b : Bool) (old new : BTreeMap (Vec ℕ A) ℕ) (bs cs : List ℕ) (n : ℕ) → bytes_eq bs cs ≡ b → number_at new bs ≡ Some n → (bytes_eq bs cs ≡ false → number_at new cs ≡ number_at old cs) → number_at new cs ≡ (if b then Some n else number_at old cs)
number_by true old new bs cs n is here others = subst (λ (ks : List ℕ). number_at new ks ≡ Some n) ((bytes_decides bs cs).0 is) here
number_by false old new bs cs n is here others = others is

pub number_at-more : {A : Type 0} (ms : List Macro) (m : Macro) (old new : BTreeMap (Vec ℕ A) ℕ) (name : Vec ℕ A) (n : ℕ) → name.items ≡ m.name → n ≡ length ms → ((cs : List ℕ) → number_at old cs ≡ latest cs ms)
    → Updates (λ (x y : Vec ℕ A). slice_cmp nat_cmp x.items y.items) old new name (Some n) → (cs : List ℕ) → number_at new cs ≡ latest cs (ms ++ m ∷ [])
number_at-more ms m old new name n is last was updates cs =
    number_by (bytes_eq name.items cs) old new name.items cs n refl updates.1 (λ differ. others_stay old.entries new.entries name.items cs updates.3 differ)
    ∙ ap (λ (o : Option ℕ). if bytes_eq name.items cs then Some n else o) (was cs)
    ∙ ap (λ (b : Bool). if b then Some n else latest cs ms) (ap (λ (ks : List ℕ). bytes_eq ks cs) is ∙ nat_list_eq_equiv.symm m.name cs)
    ∙ sym (latest_from-more 0 cs ms m ∙ first_found (bytes_eq cs m.name) (0 + length ms) n (latest cs ms) (omega (arith, last)))

-- ---- what tokens stand for

pub replaced-cons : (ms : List Macro) (t : Token) (ts : List Token) → replaced ms (t ∷ ts) ≡ (parts_of ms t >>= λ ps. replaced ms ts >>= λ qs. Ok (ps ++ qs))
unfolding replaced
replaced-cons ms t ts = refl

pub replaced-end : (ms : List Macro) → replaced ms [] ≡ Ok []
unfolding replaced
replaced-end ms = refl

-- a token's parts behind none
pub with_parts_first : (ms : List Macro) (t : Token) → with_parts ms t [] ≡ parts_of ms t
unfolding with_parts
with_parts_first ms t = elim (parts_of ms t) as (λ (r : Result (List Token) TokenStop). (r >>= λ ps. Ok ps) ≡ r) [ Ok ps ↦ refl | Err e ↦ refl ]

more_parts : (out out' : List Token) (parts rest : Result (List Token) TokenStop) → (parts >>= λ ps. Ok (out ++ ps)) ≡ Ok out' → ((parts >>= λ ps. rest >>= λ qs. Ok (ps ++ qs)) >>= λ qs. Ok (out ++ qs)) ≡ (rest >>= λ qs. Ok (out' ++ qs))
more_parts out out' (Ok ps) (Ok qs) is = let same : out ++ ps ≡ out' = cc in ap (λ (ts : List Token). Ok ts) (sym (append_assoc out ps qs) ∙ ap (λ (ts : List Token). ts ++ qs) same)
more_parts out out' (Ok ps) (Err e) is = refl
more_parts out out' (Err e) rest is = cc

pub replaced-step : (ms : List Macro) (ts : List Token) (i : ℕ) (t : Token) (out out' : List Token) → i < length ts → t ≡ get_or ts i t → with_parts ms t out ≡ Ok out' → (replaced ms (drop i ts) >>= λ ps. Ok (out ++ ps)) ≡ (replaced ms (drop (i + 1) ts) >>= λ ps. Ok (out' ++ ps))
unfolding with_parts
replaced-step ms ts i t out out' in_list here is =
    ap (λ (us : List Token). replaced ms us >>= λ ps. Ok (out ++ ps)) (drop_item ts i t in_list here)
    ∙ ap (λ (r : Result (List Token) TokenStop). r >>= λ ps. Ok (out ++ ps)) (replaced-cons ms t (drop (i + 1) ts))
    ∙ more_parts out out' (parts_of ms t) (replaced ms (drop (i + 1) ts)) is

failed_parts : (out : List Token) (parts rest : Result (List Token) TokenStop) (e : TokenStop) → (parts >>= λ ps. Ok (out ++ ps)) ≡ Err e → ((parts >>= λ ps. rest >>= λ qs. Ok (ps ++ qs)) >>= λ qs. Ok (out ++ qs)) ≡ Err e
failed_parts out (Ok ps) rest e is = cc
failed_parts out (Err d) rest e is = is

pub replaced-fault : (ms : List Macro) (ts : List Token) (i : ℕ) (t : Token) (out : List Token) (e : TokenStop) → i < length ts → t ≡ get_or ts i t → with_parts ms t out ≡ Err e → (replaced ms (drop i ts) >>= λ ps. Ok (out ++ ps)) ≡ Err e
unfolding with_parts
replaced-fault ms ts i t out e in_list here is =
    ap (λ (us : List Token). replaced ms us >>= λ ps. Ok (out ++ ps)) (drop_item ts i t in_list here)
    ∙ ap (λ (r : Result (List Token) TokenStop). r >>= λ ps. Ok (out ++ ps)) (replaced-cons ms t (drop (i + 1) ts))
    ∙ failed_parts out (parts_of ms t) (replaced ms (drop (i + 1) ts)) e is

-- ---- a macro's value

pub checked-step : (ts : List Token) (i : ℕ) (t : Token) → i < length ts → t ≡ get_or ts i t → parts_checked (drop i ts) ≡ (part_checked t >>= λ _. parts_checked (drop (i + 1) ts))
checked-step ts i t in_list here = ap (λ (us : List Token). parts_checked us) (drop_item ts i t in_list here)

-- a value that has bytes, or has none
with_part-some : (text : List Placed) (c : Placed) (cs : List Placed) (t : Token) → text ≡ c ∷ cs → with_part text t ≡ text ++ spaced t
with_part-some text c cs t is =
    let some : (length text == 0) ≡ false = ap (λ (xs : List Placed). length xs == 0) is ∙ ne_eqb (length (c ∷ cs)) 0 (omega arith) in
    rw some refl

-- a part behind the first one, given the same of the others
value_text-first : (text : List Placed) (us : List Token) (t : Token) → value_text (us ++ t ∷ []) ≡ with_part (value_text us) t → (if has_bytes text then text ++ flat_map spaced (us ++ t ∷ []) else value_text (us ++ t ∷ [])) ≡ with_part (if has_bytes text then text ++ flat_map spaced us else value_text us) t
value_text-first [] us t rest = rest
value_text-first (c ∷ cs) us t rest =
    ap (λ (more : List Placed). (c ∷ cs) ++ more) (flat_map-append spaced us (t ∷ []) ∙ ap (λ (more : List Placed). flat_map spaced us ++ more) (append-nil (spaced t)))
    ∙ sym (append_assoc (c ∷ cs) (flat_map spaced us) (spaced t))
    ∙ sym (with_part-some ((c ∷ cs) ++ flat_map spaced us) c (cs ++ flat_map spaced us) t refl)

value_text-one : (text : List Placed) → (if has_bytes text then text ++ [] else []) ≡ text
value_text-one [] = refl
value_text-one (c ∷ cs) = append-nil (c ∷ cs)

value_text-more : (ts : List Token) (t : Token) → value_text (ts ++ t ∷ []) ≡ with_part (value_text ts) t
value_text-more [] t = value_text-one t.text
value_text-more (u ∷ us) t = value_text-first u.text us t (value_text-more us t)

pub value_step : (ts : List Token) (i : ℕ) (t : Token) → i < length ts → t ≡ get_or ts i t → value_text (take (i + 1) ts) ≡ with_part (value_text (take i ts)) t
value_step ts i t in_list here = ap (λ (us : List Token). value_text us) (take_item ts i t in_list here) ∙ value_text-more (take i ts) t

-- ---- tokens that are left

pub put_each-cons : (t : Token) (ts : List Token) (x : Left) → put_each (t ∷ ts) x ≡ (put t x >>= put_each ts)
unfolding put_each
put_each-cons t ts x = refl

pub put_each-end : (x : Left) → put_each [] x ≡ Ok x
unfolding put_each
put_each-end x = refl

pub put_each-step : (ts : List Token) (i : ℕ) (t : Token) (x y : Left) → i < length ts → t ≡ get_or ts i t → put t x ≡ Ok y → put_each (drop i ts) x ≡ put_each (drop (i + 1) ts) y
put_each-step ts i t x y in_list here is =
    ap (λ (us : List Token). put_each us x) (drop_item ts i t in_list here) ∙ put_each-cons t (drop (i + 1) ts) x
    ∙ ap (λ (r : Result Left TokenStop). r >>= put_each (drop (i + 1) ts)) is

pub put_each-fault : (ts : List Token) (i : ℕ) (t : Token) (x : Left) (e : TokenStop) → i < length ts → t ≡ get_or ts i t → put t x ≡ Err e → put_each (drop i ts) x ≡ Err e
put_each-fault ts i t x e in_list here is =
    ap (λ (us : List Token). put_each us x) (drop_item ts i t in_list here) ∙ put_each-cons t (drop (i + 1) ts) x
    ∙ ap (λ (r : Result Left TokenStop). r >>= put_each (drop (i + 1) ts)) is

pub put_line-cons : (ms : List Macro) (t : Token) (ts : List Token) (x : Left) → put_line ms (t ∷ ts) x ≡ (parts_of ms t >>= λ ps. put_each ps x >>= put_line ms ts)
unfolding put_line
put_line-cons ms t ts x = refl

pub put_line-end : (ms : List Macro) (x : Left) → put_line ms [] x ≡ Ok x
unfolding put_line
put_line-end ms x = refl

-- a token is replaced, and what it stands for is put
pub put_line-step : (ms : List Macro) (ts : List Token) (i : ℕ) (t : Token) (ps : List Token) (x : Left) (r : Result Left TokenStop) → i < length ts → t ≡ get_or ts i t → with_parts ms t [] ≡ Ok ps → put_each ps x ≡ r → put_line ms (drop i ts) x ≡ (r >>= put_line ms (drop (i + 1) ts))
put_line-step ms ts i t ps x r in_list here is put =
    ap (λ (us : List Token). put_line ms us x) (drop_item ts i t in_list here) ∙ put_line-cons ms t (drop (i + 1) ts) x
    ∙ ap (λ (parts : Result (List Token) TokenStop). parts >>= λ qs. put_each qs x >>= put_line ms (drop (i + 1) ts)) (sym (with_parts_first ms t) ∙ is)
    ∙ ap (λ (s : Result Left TokenStop). s >>= put_line ms (drop (i + 1) ts)) put

pub put_line-fault : (ms : List Macro) (ts : List Token) (i : ℕ) (t : Token) (x : Left) (e : TokenStop) → i < length ts → t ≡ get_or ts i t → with_parts ms t [] ≡ Err e → put_line ms (drop i ts) x ≡ Err e
put_line-fault ms ts i t x e in_list here is =
    ap (λ (us : List Token). put_line ms us x) (drop_item ts i t in_list here) ∙ put_line-cons ms t (drop (i + 1) ts) x
    ∙ ap (λ (parts : Result (List Token) TokenStop). parts >>= λ qs. put_each qs x >>= put_line ms (drop (i + 1) ts)) (sym (with_parts_first ms t) ∙ is)

-- ---- braces at a file's end

last_of-at : (q : Place) (qs : List Place) (d : Place) → last_of q qs ≡ get_or (q ∷ qs) (length qs) d
last_of-at q [] d = refl
last_of-at q (r ∷ rs) d = last_of-at r rs d

pub all_closed-open : (ps : List Place) (d : Place) → 1 ≤ length ps → all_closed ps ≡ Err (faulty (get_or ps (length ps - 1) d) OpenBrace)
all_closed-open [] d some = absurd (omega arith)
all_closed-open (q ∷ qs) d some =
    let at_last : length qs ≡ length (q ∷ qs) - 1 = omega arith in
    ap (λ (r : Place). Err (faulty r OpenBrace)) (last_of-at q qs d ∙ ap (λ (n : ℕ). get_or (q ∷ qs) n d) at_last)
