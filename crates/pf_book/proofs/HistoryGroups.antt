-- Parts of a history, and its groups.
use Rattle.std.specs.Prelude.{nat_lt, sum, MatchBool}
use Rattle.std.proofs.{lemmas.Bool.Decides.nat_tests, Common.{◌≡◌, ℕ, zero, suc, ◌+◌, ◌-◌, ◌<◌, ◌≤◌, Bool, true, false, List, [], ◌∷◌, ◌++◌, length, map, take, drop, refl, ap, sym, ◌∙◌, subst, arith, append-nil}, Math.Seq.take-add, lemmas.List.{take_all, take-append-le, drop_all, drop-append-le, length-append, length-take-le, length-drop, take-append-drop}, lemmas.List.Sums.{sum_by-cons, sum_by_push}}
use mathlib.Core.List.{IsPrefix}
use Rattle.pf_core.specs.{Durable.Changes.PlainChange, Worlds.{flat, grouped, is_halted}}
use Rattle.pf_core.proofs.Prefixes.{flat-append}
use Rattle.pf_view.proofs.Prefixes.{prefix_self, prefix_trans}
use Rattle.pf_book.specs.Books.{BookParts, cut}
use Rattle.pf_core.proofs.Courses.{flat-grouped}

map-take : {A B : Type 0} (f : A → B) (xs : List A) (n : ℕ) → map f (take n xs) ≡ take n (map f xs)
map-take f xs zero = refl
map-take f [] (suc n) = refl
map-take f (x ∷ xs) (suc n) = ap (λ ys. f x ∷ ys) (map-take f xs n)

-- what was offered and what is offered next, put together
pub seam : {A B : Type 0} (f : A → B) (xs : List A) (o a m : ℕ) → o + m ≡ a → take o (map f xs) ++ map f (take m (drop o xs)) ≡ take a (map f xs)
seam f xs zero a m is = map-take f xs m ∙ ap (λ n. take n (map f xs)) (omega arith)
seam f [] (suc o) zero m is = absurd (omega arith)
seam f [] (suc o) (suc a) zero is = refl
seam f [] (suc o) (suc a) (suc m) is = refl
seam f (x ∷ xs) (suc o) zero m is = absurd (omega arith)
seam f (x ∷ xs) (suc o) (suc a) m is = ap (λ ys. f x ∷ ys) (seam f xs o a m (omega arith))

take_longer : (xs : List PlainChange) (o a : ℕ) → o ≤ a → IsPrefix (take o xs) (take a xs)
take_longer xs zero a le = (take a xs, refl)
take_longer [] (suc o) zero le = absurd (omega arith)
take_longer [] (suc o) (suc a) le = ([], refl)
take_longer (x ∷ xs) (suc o) zero le = absurd (omega arith)
take_longer (x ∷ xs) (suc o) (suc a) le = let r = take_longer xs o a (omega arith) in (r.0, ap (λ ys. x ∷ ys) r.1)

pub take_begins : (xs : List PlainChange) (n : ℕ) → IsPrefix (take n xs) xs
take_begins xs n = (drop n xs, take-append-drop n xs)

-- a front of the first o is one of the first a, where o ≤ a
pub prefix_take : (xs seen : List PlainChange) (o a : ℕ) → o ≤ a → IsPrefix seen (take o xs) → IsPrefix seen (take a xs)
prefix_take xs seen o a le p = prefix_trans seen (take o xs) (take a xs) p (take_longer xs o a le)

-- a front is the first part of its own length
pub prefix_is : (xs ys : List PlainChange) → IsPrefix xs ys → xs ≡ take (length xs) ys
prefix_is [] ys p = refl
prefix_is (x ∷ xs) [] p = absurd (cc (p.1))
prefix_is (x ∷ xs) (y ∷ ys) p = let rest = prefix_is xs ys (p.0, cc (p.1)) in cc (p.1, rest)

-- and is no longer than the list
pub prefix_short : (xs ys : List PlainChange) → IsPrefix xs ys → length xs ≤ length ys
prefix_short xs ys p = omega (arith, length-append xs p.0, ap length p.1)

-- what workers see is a front of what is offered, also if nothing more was shown
pub shown_either : (b : Bool) (s s' o : List PlainChange) → MatchBool b (s' ≡ o) (s' ≡ s) → IsPrefix s o → IsPrefix s' o
shown_either true s s' o is p = subst (λ (z : List PlainChange). IsPrefix z o) (sym is) (prefix_self o)
shown_either false s s' o is p = subst (λ (z : List PlainChange). IsPrefix z o) (sym is) p

-- ---- groups

sum-cons : (n : ℕ) (sizes : List ℕ) → sum (n ∷ sizes) ≡ n + sum sizes
sum-cons n sizes = sum_by-cons (λ x. x) n sizes

-- the groups together are the first changes, as many as their sizes say
pub flat-cut : (sizes : List ℕ) (es : List PlainChange) → flat (cut sizes es) ≡ take (sum sizes) es
flat-cut [] es = refl
flat-cut (n ∷ sizes) es =
    ap (λ (l : List PlainChange). take n es ++ l) (flat-cut sizes (drop n es)) ∙ sym (ap (λ (m : ℕ). take m es) (sum-cons n sizes) ∙ take-add n (sum sizes) es)

-- changes after them leave them as they are
pub cut-still : (sizes : List ℕ) (es more : List PlainChange) → sum sizes ≤ length es → cut sizes (es ++ more) ≡ cut sizes es
cut-still [] es more low = refl
cut-still (n ∷ sizes) es more low =
    let total : sum (n ∷ sizes) ≡ n + sum sizes = sum-cons n sizes in
    let first : n ≤ length es = omega (arith, low, total) in
    let rest : sum sizes ≤ length (drop n es) = omega (arith, low, total, length-drop n es) in
    ap (λ (l : List PlainChange). l ∷ cut sizes (drop n (es ++ more))) (take-append-le n es more first)
    ∙ ap (λ (l : List PlainChange). take n es ∷ cut sizes l) (drop-append-le n es more first) ∙ ap (λ (gs : List (List PlainChange)). take n es ∷ gs) (cut-still sizes (drop n es) more rest)

-- if nothing comes after them, what is appended is the next group
pub cut-more : (sizes : List ℕ) (es group : List PlainChange) → sum sizes ≡ length es → cut (sizes ++ length group ∷ []) (es ++ group) ≡ cut sizes es ++ group ∷ []
cut-more [] [] group all = ap (λ (l : List PlainChange). l ∷ []) (take_all (length group) group (omega arith))
cut-more [] (e ∷ es) group all = absurd (omega (arith, all))
cut-more (n ∷ sizes) es group all =
    let total : sum (n ∷ sizes) ≡ n + sum sizes = sum-cons n sizes in
    let first : n ≤ length es = omega (arith, all, total) in
    let rest : sum sizes ≡ length (drop n es) = omega (arith, all, total, length-drop n es) in
    let more : List ℕ = sizes ++ length group ∷ [] in
    ap (λ (l : List PlainChange). l ∷ cut more (drop n (es ++ group))) (take-append-le n es group first)
    ∙ ap (λ (l : List PlainChange). take n es ∷ cut more l) (drop-append-le n es group first) ∙ ap (λ (gs : List (List PlainChange)). take n es ∷ gs) (cut-more sizes (drop n es) group rest)

-- one group more
pub flat-more : (gs : List (List PlainChange)) (group : List PlainChange) → flat (gs ++ group ∷ []) ≡ flat gs ++ group
flat-more gs group = flat-append gs (group ∷ []) ∙ ap (λ (l : List PlainChange). flat gs ++ l) (append-nil group)

-- changes are one group, if there are any
pub grouped-some : (es : List PlainChange) → 0 < length es → grouped es ≡ es ∷ []
grouped-some [] some = absurd (omega (arith, some))
grouped-some (e ∷ es) some = refl

none-grouped : (es : List PlainChange) → grouped es ≡ [] → es ≡ []
none-grouped [] is = refl
none-grouped (e ∷ es) is = absurd (cc (is))

some-left : (n : ℕ) (xs : List PlainChange) → drop n xs ≡ [] → length xs ≤ n
some-left zero [] is = omega arith
some-left zero (x ∷ xs) is = absurd (cc (is))
some-left (suc n) [] is = omega arith
some-left (suc n) (x ∷ xs) is = let rest = some-left n xs is in omega (arith, rest)

-- if nothing is pending all was acknowledged
pub all-acked : (log : List PlainChange) (acked : ℕ) → acked ≤ length log → grouped (drop acked log) ≡ [] → acked ≡ length log
all-acked log acked low none = let few = some-left acked log (none-grouped (drop acked log) none) in omega (arith, few, low)

pub taken-still : (log group : List PlainChange) (n : ℕ) → n ≤ length log → take n (log ++ group) ≡ take n log
taken-still log group n le = take-append-le n log group le

-- what comes after the acknowledged changes
pub left-group : (log group : List PlainChange) (acked : ℕ) → acked ≡ length log → drop acked (log ++ group) ≡ group
left-group log group acked all = drop-append-le acked log group (omega (arith, all)) ∙ ap (λ (l : List PlainChange). l ++ group) (drop_all acked log (omega (arith, all)))

-- which changes the acknowledged groups have
pub flat-acked : (log : List PlainChange) (sizes : List ℕ) (acked : ℕ) → sum sizes ≡ acked → flat (cut sizes log) ≡ take acked log
flat-acked log sizes acked cuts = flat-cut sizes log ∙ ap (λ (n : ℕ). take n log) cuts

-- the log is what was acknowledged, if nothing is pending
pub acked-is : (log : List PlainChange) (sizes : List ℕ) (acked : ℕ) → sum sizes ≡ acked → acked ≡ length log → flat (cut sizes log) ≡ log
acked-is log sizes acked cuts all = flat-acked log sizes acked cuts ∙ take_all acked log (omega (arith, all))

-- the store isn't halted if all was acknowledged
pub goes-on : (halted : Bool) (log : List PlainChange) (acked : ℕ) → halted ≡ nat_lt acked (length log) → acked ≡ length log → halted ≡ false
goes-on halted log acked is all = is ∙ grind (arith, nat_tests, all)

-- how many changes were acknowledged
pub counted-acked : (log : List PlainChange) (sizes : List ℕ) (acked : ℕ) → sum sizes ≡ acked → acked ≤ length log → acked ≡ length (flat (cut sizes log))
counted-acked log sizes acked cuts low = sym (length-take-le acked log low) ∙ ap length (sym (flat-acked log sizes acked cuts))

-- and what all the groups have
pub whole-log : (log : List PlainChange) (sizes : List ℕ) (acked : ℕ) → sum sizes ≡ acked → flat (cut sizes log ++ grouped (drop acked log)) ≡ log
whole-log log sizes acked cuts =
    flat-append (cut sizes log) (grouped (drop acked log)) ∙ ap (λ (l : List PlainChange). l ++ flat (grouped (drop acked log))) (flat-acked log sizes acked cuts)
    ∙ ap (λ (l : List PlainChange). take acked log ++ l) (flat-grouped (drop acked log)) ∙ take-append-drop acked log

-- something is pending exactly if the log has more than was acknowledged
pub halted-is : (log : List PlainChange) (acked : ℕ) → acked ≤ length log → is_halted (grouped (drop acked log)) ≡ nat_lt acked (length log)
halted-is log acked low = by (drop acked log) (length-drop acked log)
  where
    by : (rest : List PlainChange) → length rest ≡ length log - acked → is_halted (grouped rest) ≡ nat_lt acked (length log)
    by [] is = sym (grind (arith, nat_tests, is, low))
    by (e ∷ es) is = sym (grind (arith, nat_tests, is, low))

-- ---- one group more

-- if all was acknowledged: one group more is too, and its size is noted
pub record IsGrown {D : Type 0} (p : BookParts D) (log : List PlainChange) (sizes : List ℕ) (acked : ℕ) (group : List PlainChange) : Type 0 where
  pub cuts : sum p.sizes ≡ p.acked
  pub all : p.acked ≡ length p.log
  pub some : 0 < length group
  pub logged : log ≡ p.log ++ group
  pub sized : sizes ≡ p.sizes ++ length group ∷ []
  pub counted : acked ≡ p.acked + length group

module _ {D : Type 0} {p : BookParts D} {log : List PlainChange} {sizes : List ℕ} {acked : ℕ} {group : List PlainChange} (g : IsGrown p log sizes acked group) where
  pub grown-cuts : sum sizes ≡ acked
  grown-cuts = ap sum g.sized ∙ sum_by_push (λ (x : ℕ). x) p.sizes (length group) ∙ ap (λ (n : ℕ). n + length group) g.cuts ∙ sym g.counted

  pub grown-length : length log ≡ length p.log + length group
  grown-length = ap length g.logged ∙ length-append p.log group

  pub grown-all : acked ≡ length log
  grown-all = omega (arith, grown-length, g.all, g.counted)

  pub grown-acked : cut sizes log ≡ cut p.sizes p.log ++ group ∷ []
  grown-acked = ap (λ (ns : List ℕ). cut ns log) g.sized ∙ ap (cut (p.sizes ++ length group ∷ [])) g.logged ∙ cut-more p.sizes p.log group (g.cuts ∙ g.all)

  pub grown-flat : flat (cut sizes log) ≡ flat (cut p.sizes p.log) ++ group
  grown-flat = ap flat grown-acked ∙ flat-more (cut p.sizes p.log) group

  pub grown-pending : grouped (drop acked log) ≡ []
  grown-pending = ap grouped (drop_all acked log (omega (arith, grown-all)))
