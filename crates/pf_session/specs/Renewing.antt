-- What an opening gives that comes after another in one process.
use Rattle.std.specs.Prelude.{◌≡◌, ℕ, List, ◌++◌, take}
use mathlib.Core.List.{IsPrefix}
use Rattle.pf_core.specs.{Durable.Changes.{PlainChange, PlainDurable, after}, WorldBooks.WorldBook, Worlds.{flat, raised}}
use Rattle.pf_view.specs.Seers.{PlainSeer}

-- what is given is the fold of this front of the history from the base, in the next epoch
abbrev pub Renews : (base : PlainDurable) → (front : List PlainChange) → (given : PlainDurable) → Type 0
Renews base front given = given ≡ raised (after base front)

-- It is what a Book's device gives: the front has all that was acknowledged, and cuts no group.
pub record RenewsBook (b : WorldBook) (front : List PlainChange) (given : PlainDurable) : Type 0 where
  pub kept : ℕ
  pub front_is : front ≡ flat (b.acked ++ take kept b.pending)
  pub renews : Renews b.base front given

-- a seer saw and learnt no more than this
abbrev pub KnowsWithin : List PlainChange → PlainSeer → Type 0
KnowsWithin front known = IsPrefix known.seen front × IsPrefix known.learnt front
