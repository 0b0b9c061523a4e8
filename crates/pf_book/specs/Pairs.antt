-- Which receipt each reply of a group gets.
use Rattle.std.specs.Prelude.{ℕ, ◌+◌, List, [], ◌∷◌, slice_get, take, drop, Bool, true, false, if◌then◌else◌, Option, None}
use Rattle.pf_core.specs.declared.{reply.Reply.Reply, reply.Reply.TheVariants.{Answer, Applied, Stored, Refused}}
use Rattle.pf_core.specs.Durable.Changes.{PlainChange}
use Rattle.pf_book.specs.{Groups.Answered, Receipts.{PlainReceipt, token_of}}

abbrev pub is_kept : Reply → Bool
is_kept (Answer a) = false
is_kept (Applied seq outcome) = true
is_kept (Stored seq outcome) = true
is_kept (Refused e) = false

-- how many of these kept a change
abbrev pub kept_count : List Reply → ℕ
kept_count [] = 0
kept_count (r ∷ replies) = (if is_kept r then 1 else 0) + kept_count replies

-- how many changes the history has after a reply, if it had `n` of them before it
abbrev pub count_after : Reply → ℕ → ℕ
count_after r n = n + (if is_kept r then 1 else 0)

-- of changes that are given to replies in turn, the one that a reply gets, and what is left to the replies after it
abbrev pub given_to : Reply → List PlainChange → Option PlainChange
given_to r given = if is_kept r then slice_get given 0 else None

abbrev pub given_after : Reply → List PlainChange → List PlainChange
given_after r given = if is_kept r then drop 1 given else given

-- the receipt of a reply after which the history has `n` changes, all of them acknowledged; so many of `log` are `shown`
abbrev pub slip_at : ℕ → List PlainChange → ℕ → Option PlainChange → Reply → PlainReceipt
slip_at shown log n change r = record { front = take n log; acked = n; shown = shown; change = change; token = token_of r log }

-- Replies with their receipts, after `n` changes: each reply that kept a change gets the next of `given`.
abbrev pub paired : ℕ → List PlainChange → ℕ → List Reply → List PlainChange → List Answered
paired shown log n [] given = []
paired shown log n (r ∷ replies) given =
    (r, slip_at shown log (count_after r n) (given_to r given) r) ∷ paired shown log (count_after r n) replies (given_after r given)
