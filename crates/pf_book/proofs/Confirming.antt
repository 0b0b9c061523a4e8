-- What a receipt says of a Book.
use Rattle.std.proofs.Common.{◌≡◌, ℕ, zero, suc, ◌+◌, ◌≤◌, List, [], ◌∷◌, ◌++◌, length, take, Option, None, Some, refl, ap, ◌∙◌, arith, length-append}
use Rattle.std.specs.{Prelude.{IfSome, slice_get}, Option.ForSome}
use mathlib.Core.List.{IsPrefix}
use Rattle.pf_core.specs.Durable.Changes.{PlainChange}
use Rattle.pf_view.specs.Past.Pasts.{PlainFront}
use Rattle.std.proofs.lemmas.List.{length-take-le}
use Rattle.pf_view.proofs.Prefixes.{prefix_length, prefix_get, prefix_trans}
use Rattle.pf_book.specs.{Books.change_in, Receipts.{EndsIn, IsReceipt}}
use Rattle.pf_book.proofs.HistoryGroups.{take_begins}

-- the first changes of a front begin the history too
pub begins-first : (seq : ℕ) (front log : List PlainChange) → IsPrefix front log → IsPrefix (take seq front) log
begins-first seq front log begins = prefix_trans (take seq front) front log (take_begins front seq) begins

-- what was acknowledged at a reply is acknowledged, so the receipt's change is
pub acked-too : (past : PlainFront) (seq : ℕ) (change : Option PlainChange) (showing shown acked : ℕ) → past.acked ≤ acked → IsReceipt past seq change showing shown → ForSome change (λ e. length (take seq past.front) ≤ acked)
acked-too past seq change showing shown acked within receipt = λ e some.
    let here : seq ≤ past.acked = receipt.acked e some in
    omega (arith, here, length-take-le seq past.front receipt.within, within)

get-last : (xs : List PlainChange) (e : PlainChange) (n : ℕ) → n ≡ length xs → slice_get (xs ++ e ∷ []) n ≡ Some e
get-last [] e zero is = refl
get-last [] e (suc n) is = absurd (omega (arith, is))
get-last (x ∷ xs) e zero is = absurd (omega (arith, is))
get-last (x ∷ xs) e (suc n) is = get-last xs e n (omega (arith, is))

in-log : (log : List PlainChange) (number n : ℕ) → number ≡ n + 1 → change_in log number ≡ slice_get log n
in-log log zero n is = absurd (omega (arith, is))
in-log log (suc m) n is = let same : m ≡ n = omega (arith, is) in ap (slice_get log) same

stands-last : (log front : List PlainChange) (e : PlainChange) → IsPrefix front log → EndsIn front e → change_in log (length front) ≡ Some e
stands-last log front e begins ends =
    let long : length front ≡ length ends.0 + 1 = ap length ends.1 ∙ length-append ends.0 (e ∷ []) in
    let there : slice_get front (length ends.0) ≡ Some e = ap (λ (l : List PlainChange). slice_get l (length ends.0)) ends.1 ∙ get-last ends.0 e (length ends.0) refl in
    in-log log (length front) (length ends.0) long ∙ prefix_get front log (length ends.0) e begins there

-- so the history has as many changes as the receipt says, and its change under its number
pub confirmed : (log front : List PlainChange) (change : Option PlainChange) → IsPrefix front log → ForSome change (λ e. EndsIn front e) → (length front ≤ length log) × IfSome change (λ e. change_in log (length front) ≡ Some e)
confirmed log front None begins ends = (prefix_length front log begins, tt)
confirmed log front (Some e) begins ends = (prefix_length front log begins, stands-last log front e begins (ends e refl))
