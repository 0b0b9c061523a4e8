-- One more element of a list, and one more token of a file.
use Rattle.std.proofs.{Common.{◌≡◌, ℕ, zero, suc, ◌+◌, ◌-◌, ◌==◌, ◌<◌, ◌≤◌, ◌&&◌, ◌||◌, Bool, true, false, if◌then◌else◌, List, [], ◌∷◌, ◌++◌, length, get_or, take, drop, map, Option, Some, None, refl, sym, ap, ◌∙◌, arith, add-one, append_assoc, append-nil}, Math.Seq.drop-cons, lemmas.List.{take_more, map-append, drop_all, drop-drop}}
use Rattle.std.specs.List.{flat_map}
use Rattle.std.proofs.lemmas.Grind.{flat_map-append}
use denote.Ref.{Bor}
use Rattle.pf_form.specs.Form.Words.{Word, texts}
use Rattle.std.specs.Prelude.{codes}
use Rattle.pf_tokens.specs.declared.token.Token.{Token}
use Rattle.pf_tokens.specs.Words.{is_symbol}
use Rattle.pf_values.specs.declared.interfaces.{interface.OwnAddress.OwnAddress, interface.Interface.Interface, hosts.Context.Context, mention.Mention.Mention, addresses.Front.Front}
use Rattle.pf_values.specs.Interfaces.{Interfaces.{held_of, all_held}, Hosts.{beginning, takes_list, within_after, within_closed, context_after}, Addresses.{mention_at, front_by, front_of, known_from, with_addresses, Goes}}

pub drop_item : {X : Type 0} → (xs : List X) (i : ℕ) (x : X) → i < length xs → x ≡ get_or xs i x → drop i xs ≡ x ∷ drop (i + 1) xs
drop_item {X} xs i x in_list here =
    drop-cons xs i x in_list ∙ ap (λ (y : X). y ∷ drop (suc i) xs) (sym here) ∙ ap (λ (n : ℕ). x ∷ drop n xs) (sym (add-one i))

pub take_item : {X : Type 0} → (xs : List X) (i : ℕ) (x : X) → i < length xs → x ≡ get_or xs i x → take (i + 1) xs ≡ take i xs ++ x ∷ []
take_item {X} xs i x in_list here = take_more xs i x in_list ∙ ap (λ (y : X). take i xs ++ y ∷ []) (sym here)

pub map_item : {X Y : Type 0} → (f : X → Y) (xs : List X) (i : ℕ) (x : X) → i < length xs → x ≡ get_or xs i x
    → map f (take (i + 1) xs) ≡ map f (take i xs) ++ f x ∷ []
map_item {X} f xs i x in_list here = ap (λ (ys : List X). map f ys) (take_item xs i x in_list here) ∙ map-append f (take i xs) (x ∷ [])

pub flat_item : {X Y : Type 0} → (f : X → List Y) (xs : List X) (i : ℕ) (x : X) → i < length xs → x ≡ get_or xs i x
    → flat_map f (take (i + 1) xs) ≡ flat_map f (take i xs) ++ f x
flat_item {X} {Y} f xs i x in_list here =
    ap (λ (ys : List X). flat_map f ys) (take_item xs i x in_list here) ∙ flat_map-append f (take i xs) (x ∷ [])
    ∙ ap (λ (ys : List Y). flat_map f (take i xs) ++ ys) (append-nil (f x))

-- ---- the addresses of an interface

drop_get : {X : Type 0} → (xs : List X) (i : ℕ) (d : X) → i < length xs → drop i xs ≡ get_or xs i d ∷ drop (i + 1) xs
drop_get {X} xs i d in_list = drop-cons xs i d in_list ∙ ap (λ (n : ℕ). get_or xs i d ∷ drop n xs) (sym (add-one i))

pub held_next : (parts : List (Bor Word)) (i : ℕ) (d : Bor Word) (hs : List OwnAddress) (h : OwnAddress) (whole : Option (List OwnAddress))
    → whole ≡ all_held hs (texts (drop i parts)) → i < length parts → held_of (get_or parts i d).now ≡ Some h
    → whole ≡ all_held (hs ++ h ∷ []) (texts (drop (i + 1) parts))
unfolding all_held
held_next parts i d hs h whole known within is =
    known ∙ ap (λ (ps : List (Bor Word)). all_held hs (texts ps)) (drop_get parts i d within) ∙ rw is refl

pub held_none : (parts : List (Bor Word)) (i : ℕ) (d : Bor Word) (hs : List OwnAddress) (whole : Option (List OwnAddress))
    → whole ≡ all_held hs (texts (drop i parts)) → i < length parts → held_of (get_or parts i d).now ≡ None → whole ≡ None
unfolding all_held
held_none parts i d hs whole known within is =
    known ∙ ap (λ (ps : List (Bor Word)). all_held hs (texts ps)) (drop_get parts i d within) ∙ rw is refl

pub held_end : (parts : List (Bor Word)) (i : ℕ) (hs : List OwnAddress) (whole : Option (List OwnAddress)) → whole ≡ all_held hs (texts (drop i parts))
    → length parts ≤ i → whole ≡ Some hs
unfolding all_held
held_end parts i hs whole known past = known ∙ ap (λ (ps : List (Bor Word)). all_held hs (texts ps)) (drop_all i parts past)

-- ---- tokens, one after another

pub token_skipped : (is : List Interface) (more : ℕ) (c : Context) (ts : List Token) → 0 < length ts → 0 < more
    → known_from is more c ts ≡ known_from is (more - 1) c (drop 1 ts)
unfolding known_from
token_skipped is more c [] some left = absurd (omega arith)
token_skipped is zero c (t ∷ ts) some left = absurd (omega arith)
token_skipped is (suc more) c (t ∷ ts) some left =
    let same : more ≡ suc more - 1 = omega arith in
    ap (λ (n : ℕ). known_from is n c ts) same

pub front_taken : (is : List Interface) (c : Context) (ts : List Token) (t d : Token) (m : Option Mention) (f : Front) (old : List Token)
    → 0 < length ts → t ≡ get_or ts 0 d → m ≡ mention_at is c ts → f ≡ front_by c t m
    → old ++ known_from is 0 c ts ≡ (old ++ f.tokens) ++ known_from is f.more f.context (drop 1 ts)
unfolding known_from front_of
front_taken is c [] t d m f old some here mentions means = absurd (omega arith)
front_taken is c (u ∷ us) t d m f old some here mentions means =
    let same : front_by c u (mention_at is c (u ∷ us)) ≡ f = sym (means ∙ ap (λ (v : Token). front_by c v m) here
    ∙ ap (λ (n : Option Mention). front_by c u n) mentions) in
    ap (λ (g : Front). old ++ (g.tokens ++ known_from is g.more g.context us)) same
    ∙ sym (append_assoc old f.tokens (known_from is f.more f.context us))

pub no_token : (is : List Interface) (more : ℕ) (c : Context) (ts : List Token) (i : ℕ) (old : List Token) → length ts ≤ i
    → old ++ known_from is more c (drop i ts) ≡ old
unfolding known_from
no_token is more c ts i old past =
    ap (λ (us : List Token). old ++ known_from is more c us) (drop_all i ts past) ∙ append-nil old

pub some_given : (is : List Interface) (ts : List Token) → 0 < length is → known_from is 0 beginning ts ≡ with_addresses is ts
some_given [] ts some = absurd (omega arith)
some_given (i ∷ is) ts some = refl

-- ---- how deep lists are

abbrev deep_of : Context → ℕ
deep_of c = c.deep

-- of each way in which a context may go on
either_deep : (b : Bool) (x y : Context) (n : ℕ) → deep_of x ≤ n → deep_of y ≤ n → deep_of (if b then x else y) ≤ n
either_deep true x y n first second = first
either_deep false x y n first second = second

pub front_deep : (c : Context) (t : Token) (m : Option Mention) → deep_of (front_by c t m).context ≤ c.deep + 1
unfolding context_after
front_deep c t (Some m) = either_deep (c.deep == 0) beginning c (c.deep + 1) (omega arith) (omega arith)
front_deep c t None =
    let more : Context = record { within = c.within; deep = c.deep + 1; is_bound = false } in
    let none : Context = record { within = within_after c.within t; deep = 0; is_bound = false } in
    let fewer : Context = record { within = within_closed c; deep = c.deep - 1; is_bound = false } in
    let same : Context = record { within = c.within; deep = c.deep; is_bound = is_symbol (codes "<") t || is_symbol (codes "!") t } in
    either_deep (is_symbol (codes "{") t && takes_list c) more _ (c.deep + 1) (omega arith)
    (either_deep (c.deep == 0) none _ (c.deep + 1) (omega arith)
    (either_deep (is_symbol (codes "}") t) fewer same (c.deep + 1) (omega arith) (omega arith)))

-- ---- the next of a file's tokens

pub next_token : (is : List Interface) (ts us : List Token) (i : ℕ) (old new : List Token) (more left : ℕ) (c d : Context)
    (whole : List Token) → us ≡ drop i ts → Goes is us old more c new left d → old ++ known_from is more c (drop i ts) ≡ whole
    → new ++ known_from is left d (drop (i + 1) ts) ≡ whole
next_token is ts us i old new more left c d whole same goes known =
    ap (λ (vs : List Token). new ++ known_from is left d vs) (sym (drop-drop 1 i ts))
    ∙ ap (λ (vs : List Token). new ++ known_from is left d (drop 1 vs)) (sym same)
    ∙ sym goes ∙ ap (λ (vs : List Token). old ++ known_from is more c vs) same ∙ known
