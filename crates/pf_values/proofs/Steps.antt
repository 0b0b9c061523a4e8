-- One more element of a list.
use Rattle.std.proofs.{Common.{◌≡◌, ℕ, suc, ◌+◌, ◌<◌, ◌≤◌, cond, true, false, List, ◌∷◌, length, get_or, drop, Some, None, sym, ap, ◌∙◌, add-one}, Math.Seq.drop-cons, lemmas.List.drop_all}
use Rattle.std.specs.Str.{bytes_eq}
use denote.Ref.{Bor}
use Rattle.pf_values.specs.{Numbers.Word, Named.{rows_in, number_in}}

pub drop_item : {X : Type 0} → (xs : List X) (i : ℕ) (x : X) → i < length xs → x ≡ get_or xs i x → drop i xs ≡ x ∷ drop (i + 1) xs
drop_item {X} xs i x in_list here =
    drop-cons xs i x in_list ∙ ap (λ (y : X). y ∷ drop (suc i) xs) (sym here) ∙ ap (λ (n : ℕ). x ∷ drop n xs) (sym (add-one i))

-- ---- a name in a table, from a row on

number_from : (table : List (Bor Word × ℕ)) (i : ℕ) (d : Bor Word × ℕ) (name : Word) → i < length table → number_in (rows_in (drop i table)) name ≡ cond (bytes_eq (get_or table i d).0.now name) (Some (get_or table i d).1) (number_in (rows_in (drop (i + 1) table)) name)
unfolding number_in
number_from table i d name within =
    ap (λ (rest : List (Bor Word × ℕ)). number_in (rows_in rest) name) (drop-cons table i d within)
    ∙ ap (λ (n : ℕ). number_in (rows_in (get_or table i d ∷ drop n table)) name) (sym (add-one i))

pub number_next : (table : List (Bor Word × ℕ)) (i : ℕ) (d : Bor Word × ℕ) (name : Word) → i < length table → bytes_eq (get_or table i d).0.now name ≡ false → number_in (rows_in (drop (i + 1) table)) name ≡ number_in (rows_in (drop i table)) name
number_next table i d name within other =
    sym (number_from table i d name within ∙ ap (λ b. cond b (Some (get_or table i d).1) (number_in (rows_in (drop (i + 1) table)) name)) other)

pub number_here : (table : List (Bor Word × ℕ)) (i : ℕ) (d : Bor Word × ℕ) (name : Word) → i < length table → bytes_eq (get_or table i d).0.now name ≡ true → Some (get_or table i d).1 ≡ number_in (rows_in (drop i table)) name
number_here table i d name within same =
    sym (number_from table i d name within ∙ ap (λ b. cond b (Some (get_or table i d).1) (number_in (rows_in (drop (i + 1) table)) name)) same)

pub number_none : (table : List (Bor Word × ℕ)) (i : ℕ) (name : Word) → length table ≤ i → number_in (rows_in (drop i table)) name ≡ None
unfolding number_in
number_none table i name past = ap (λ (rest : List (Bor Word × ℕ)). number_in (rows_in rest) name) (drop_all i table past)
