-- One more element of a list.
use Rattle.std.proofs.{Common.{◌≡◌, ℕ, suc, ◌+◌, ◌==◌, ◌<◌, ◌≤◌, ◌&&◌, true, List, [], ◌∷◌, ◌++◌, length, get_or, take, drop, map, sym, ap, ◌∙◌, add-one}, Math.Seq.drop-cons, lemmas.List.{take_more, map-append, drop_all}}
use Rattle.std.specs.Str.{bytes_eq}
use Rattle.pf_tokens.specs.declared.place.Placed.{Placed}
use Rattle.pf_tokens.specs.Places.{text_of}

pub drop_item : {X : Type 0} → (xs : List X) (i : ℕ) (x : X) → i < length xs → x ≡ get_or xs i x → drop i xs ≡ x ∷ drop (i + 1) xs
drop_item {X} xs i x in_list here =
    drop-cons xs i x in_list ∙ ap (λ (y : X). y ∷ drop (suc i) xs) (sym here) ∙ ap (λ (n : ℕ). x ∷ drop n xs) (sym (add-one i))

pub take_item : {X : Type 0} → (xs : List X) (i : ℕ) (x : X) → i < length xs → x ≡ get_or xs i x → take (i + 1) xs ≡ take i xs ++ x ∷ []
take_item {X} xs i x in_list here = take_more xs i x in_list ∙ ap (λ (y : X). take i xs ++ y ∷ []) (sym here)

pub map_item : {X Y : Type 0} → (f : X → Y) (xs : List X) (i : ℕ) (x : X) → i < length xs → x ≡ get_or xs i x → map f (take (i + 1) xs) ≡ map f (take i xs) ++ f x ∷ []
map_item {X} f xs i x in_list here = ap (λ (ys : List X). map f ys) (take_item xs i x in_list here) ∙ map-append f (take i xs) (x ∷ [])

pub map_both : {X Y : Type 0} → (f : X → Y) (xs ys : List X) → map f (xs ++ ys) ≡ map f xs ++ map f ys
map_both {X} f xs ys = map-append f xs ys

-- two texts, from a place on
pub texts_step : (text : List Placed) (bytes : List ℕ) (i : ℕ) (c : Placed) → i < length text → i < length bytes → c ≡ get_or text i c → bytes_eq (text_of (drop i text)) (drop i bytes) ≡ ((c.byte == get_or bytes i 0) && bytes_eq (text_of (drop (i + 1) text)) (drop (i + 1) bytes))
texts_step text bytes i c in_text in_bytes here =
    ap (λ (cs : List Placed). bytes_eq (text_of cs) (drop i bytes)) (drop_item text i c in_text here)
    ∙ ap (λ (bs : List ℕ). bytes_eq (c.byte ∷ text_of (drop (i + 1) text)) bs) (drop-cons bytes i 0 in_bytes ∙ ap (λ (n : ℕ). get_or bytes i 0 ∷ drop n bytes) (sym (add-one i)))

pub texts_end : (text : List Placed) (bytes : List ℕ) (i : ℕ) → length text ≤ i → length bytes ≤ i → bytes_eq (text_of (drop i text)) (drop i bytes) ≡ true
texts_end text bytes i no_text no_bytes =
    ap (λ (cs : List Placed). bytes_eq (text_of cs) (drop i bytes)) (drop_all i text no_text) ∙ ap (λ (bs : List ℕ). bytes_eq [] bs) (drop_all i bytes no_bytes)
