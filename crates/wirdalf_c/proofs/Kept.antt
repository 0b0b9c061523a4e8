-- What was read is kept for C, or the fault told.
use Rattle.std.proofs.Common.{◌≡◌, ◌⊎◌, ℕ, List, Result, Ok, Err, IfOk, IfErr, inl, inr}
use Rattle.pf_core.specs.{Durable.Changes.{PlainDurable}, Laws.Durable.IsWithin}
use Rattle.pf_store.specs.{Openings.IsUnopened, Stores.Holds, declared.store.fault.OpenFault.OpenFault}
use Rattle.pf_store.specs.declared.store.fault.OpenFault.TheVariants as opening
use Rattle.wirdalf_c.specs.{Answers.{IsCopied, IsKept, IsRead}, Images.{IsUnread, unread}}
use Rattle.wirdalf_c.specs.declared.{configuration.Configuration.Configuration, fault.ReadFault.{ReadFault, TheVariants.Memory}}

pub read_answered : (made : Result PlainDurable ReadFault) (bytes : List ℕ) (old new : Configuration) (code place : ℕ)
    → IfOk made (λ d. Holds bytes d) → IfOk made (λ d. IsWithin d) → IfErr made (λ e. IsUnread e bytes)
    → IsKept made old new code place ⊎ IsKept (Err Memory) old new code place → IsRead bytes old new code place
read_answered (Ok d) bytes old new code place holds within unread (inl kept) = inl (d, kept, holds, within)
read_answered (Err e) bytes old new code place holds within unread (inl kept) = inr (e, kept, unread)
read_answered made bytes old new code place holds within unread (inr kept) = inr (Memory, kept, tt)

pub copied_answered : (made : Result PlainDurable ReadFault) (d : PlainDurable) (old new : Configuration) (code place : ℕ)
    → IfOk made (λ x. x ≡ d) → IfErr made (λ e. e ≡ Memory) → IsKept made old new code place ⊎ IsKept (Err Memory) old new code place → IsCopied d old new code
copied_answered (Ok x) d old new code place is out (inl kept) = inl (rw (← is) kept)
copied_answered (Err e) d old new code place is out (inl kept) = let reported : IsKept (Err Memory) old new code place = rw out at kept in inr (reported.0, reported.1)
copied_answered made d old new code place is out (inr kept) = inr (kept.0, kept.1)

pub unread_reported : (e : OpenFault) (bytes : List ℕ) → IsUnopened e bytes → IsUnread (unread e) bytes
unread_reported opening.BadSize bytes is = is
unread_reported opening.NoBank bytes is = is
unread_reported (opening.Corrupt at) bytes is = is
unread_reported opening.Memory bytes is = tt
unread_reported opening.Fault bytes is = tt
unread_reported opening.EpochsExhausted bytes is = tt
unread_reported opening.Full bytes is = tt
unread_reported opening.Places bytes is = tt
