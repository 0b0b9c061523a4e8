use Rattle.std.proofs.Common.{◌≡◌, ◌+◌, ◌<◌, ◌++◌, ℕ, zero, suc, List, [], ◌∷◌, length, map, take, drop, slice_index_or, slice_set, sym, ap, ◌∙◌, subst, arith}
use Rattle.pf_core.specs.Worlds.{as_stored}
use Rattle.pf_core.specs.declared.reply.Reply.{Reply}
use Rattle.pf_book.proofs.course.all_stored.Goals as goal

set-next : {A : Type 0} (f : A → A) (xs : List A) (i : ℕ) (x : A) → i < length (map f (take i xs) ++ drop i xs) → x ≡ slice_index_or (map f (take i xs) ++ drop i xs) i x → slice_set (map f (take i xs) ++ drop i xs) i (f x) ≡ map f (take (suc i) xs) ++ drop (suc i) xs
set-next f [] zero x low is = absurd (omega (arith, low))
set-next f (y ∷ ys) zero x low is = ap (λ z. f z ∷ ys) is
set-next f [] (suc i) x low is = absurd (omega (arith, low))
set-next f (y ∷ ys) (suc i) x low is = ap (λ zs. f y ∷ zs) (set-next f ys i x (omega (arith, low)) is)

pub loop-reply-preserved : goal.loop-reply-preserved
loop-reply-preserved c =
    let i : ℕ = c.loop-reply.reply-index in
    let xs : List Reply = c.args.replies.now in
    let now = c.loop-reply.invariant in
    let e : c.loop-reply.reply-index + 1 ≡ suc i = omega arith in
    let low : i < length (map as_stored (take i xs) ++ drop i xs) = subst (λ (zs : List Reply). i < length zs) now (omega arith) in
    let x : Reply = c.reply-item.result in
    let reported : c.stored.result ≡ as_stored x = c.stored.ensures ∙ ap as_stored (c.replace-reported.ensures.value ∙ sym c.reply-item.is) in
    let at : x ≡ slice_index_or (map as_stored (take i xs) ++ drop i xs) i x = subst (λ (zs : List Reply). x ≡ slice_index_or zs i x) now c.reply-item.is in
    ap (λ (z : Reply). slice_set c.loop-reply.replies i z) reported ∙ ap (λ (zs : List Reply). slice_set zs i (as_stored x)) now ∙ set-next as_stored xs i x low at
    ∙ ap (λ (n : ℕ). map as_stored (take n xs) ++ drop n xs) (sym e)
