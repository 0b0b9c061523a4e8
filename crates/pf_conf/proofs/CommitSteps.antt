-- Lists of which one item after another is taken.
use Rattle.std.proofs.Common.{◌≡◌, ℕ, suc, ◌+◌, ◌-◌, ◌<◌, List, [], ◌∷◌, ◌++◌, length, get_or, take, drop, map, sym, ap, ◌∙◌, arith, add-one, append_assoc}
use Rattle.std.proofs.{lemmas.List.{take_more, map-append}, Math.Seq.drop-cons}
use Rattle.std.proofs.lemmas.Grind.{fold-append}
use Rattle.pf_form.specs.Form.Words.{Word}
use Rattle.pf_conf.specs.declared.found.FilledTable.{FilledTable}
use Rattle.pf_conf.specs.Commit.Naming.{with_path, table_paths}

pub take_item : {X : Type 0} → (xs : List X) (i : ℕ) (x : X) → i < length xs → x ≡ get_or xs i x → take (i + 1) xs ≡ take i xs ++ x ∷ []
take_item {X} xs i x in_list here = take_more xs i x in_list ∙ ap (λ (y : X). take i xs ++ y ∷ []) (sym here)

pub map_item : {X Y : Type 0} → (f : X → Y) (xs : List X) (i : ℕ) (x : X) → i < length xs → x ≡ get_or xs i x → map f (take (i + 1) xs) ≡ map f (take i xs) ++ f x ∷ []
map_item {X} f xs i x in_list here = ap (λ (ys : List X). map f ys) (take_item xs i x in_list here) ∙ map-append f (take i xs) (x ∷ [])

-- one more of what these become, behind what was there
pub mapped_more : {X Y : Type 0} → (f : X → Y) (before ys new : List Y) (xs : List X) (i : ℕ) (x : X) (y : Y) → i < length xs → x ≡ get_or xs i x → ys ≡ before ++ map f (take i xs) → new ≡ ys ++ y ∷ [] → y ≡ f x → new ≡ before ++ map f (take (i + 1) xs)
mapped_more {X} {Y} f before ys new xs i x y in_list here so_far pushed is =
    pushed ∙ ap (λ (l : List Y). l ++ y ∷ []) so_far ∙ append_assoc before (map f (take i xs)) (y ∷ [])
    ∙ ap (λ (z : Y). before ++ (map f (take i xs) ++ z ∷ [])) is ∙ ap (λ (l : List Y). before ++ l) (sym (map_item f xs i x in_list here))

pub one_more_path : (ts : List FilledTable) (i : ℕ) (t : FilledTable) → i < length ts → t ≡ get_or ts i t → table_paths (take (i + 1) ts) ≡ with_path (table_paths (take i ts)) t
one_more_path ts i t within here = ap table_paths (take_item ts i t within here) ∙ fold-append with_path [] (take i ts) (t ∷ [])

pub drop_item : {X : Type 0} → (xs : List X) (i : ℕ) (x : X) → i < length xs → x ≡ get_or xs i x → drop i xs ≡ x ∷ drop (i + 1) xs
drop_item {X} xs i x in_list here =
    drop-cons xs i x in_list ∙ ap (λ (y : X). y ∷ drop (suc i) xs) (sym here) ∙ ap (λ (n : ℕ). x ∷ drop n xs) (sym (add-one i))

-- ---- what two lists have in common

pub more_in_front : (xs ys : List Word) (i : ℕ) (x y : Word) → i < length xs → i < length ys → x ≡ get_or xs i x → y ≡ get_or ys i y → x ≡ y → take i xs ≡ take i ys → take (i + 1) xs ≡ take (i + 1) ys
more_in_front xs ys i x y in_xs in_ys at_xs at_ys same so_far =
    take_item xs i x in_xs at_xs ∙ ap (λ (l : List Word). l ++ x ∷ []) so_far ∙ ap (λ (z : Word). take i ys ++ z ∷ []) same ∙ sym (take_item ys i y in_ys at_ys)

last_of : (xs : List Word) (k : ℕ) (x : Word) → k < length xs → x ≡ get_or xs (length xs - 1 - k) x → drop (length xs - (k + 1)) xs ≡ x ∷ drop (length xs - k) xs
last_of xs k x within here =
    let first : length xs - (k + 1) ≡ length xs - 1 - k = omega arith in
    let next : length xs - 1 - k + 1 ≡ length xs - k = omega arith in
    ap (λ (n : ℕ). drop n xs) first ∙ drop_item xs (length xs - 1 - k) x (omega arith) here ∙ ap (λ (n : ℕ). x ∷ drop n xs) next

pub more_after : (xs ys : List Word) (k : ℕ) (x y : Word) → k < length xs → k < length ys → x ≡ get_or xs (length xs - 1 - k) x → y ≡ get_or ys (length ys - 1 - k) y → x ≡ y → drop (length xs - k) xs ≡ drop (length ys - k) ys → drop (length xs - (k + 1)) xs ≡ drop (length ys - (k + 1)) ys
more_after xs ys k x y in_xs in_ys at_xs at_ys same so_far =
    last_of xs k x in_xs at_xs ∙ ap (λ (z : Word). z ∷ drop (length xs - k) xs) same ∙ ap (λ (l : List Word). y ∷ l) so_far ∙ sym (last_of ys k y in_ys at_ys)
