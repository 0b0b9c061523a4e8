-- Which anchors a Book has (pfctl(8), -s Anchors and -a).
use Rattle.std.specs.Prelude.{◌≡◌, ℕ, List, Vec, Option, Some, None, Result, Ok, Err, IfSome}
use Rattle.std.specs.declared.alloc.{AllocError.AllocError, Global.Global}
use Rattle.pf_anchor.specs.Rulesets.{children}
use Rattle.pf_core.specs.{Durable.Changes.PlainDurable, WorldBooks.WorldBook, Worlds.Setting}
use Rattle.pf_book.specs.Receipts.{PlainReceipt, IsReached, TakesUp}

-- the anchors directly below a path: the paths of one component more that have rules, in order
abbrev pub anchors_below : WorldBook → (path : List ℕ) → List (List ℕ)
anchors_below b path = children b.whole.durable.config.rulesets path

-- those that were listed, if there was memory for that
abbrev pub listed_in : Result (Vec (List ℕ) Global) AllocError → Option (List (List ℕ))
listed_in (Ok paths) = Some paths.items
listed_in (Err e) = None

-- Under the lock a Book of this opening had these anchors below a path, or there was no memory to list them. Of its history the receipt that
-- was handed in, if there is one, has a front.
pub record SaysAnchors (base : PlainDurable) (setting : Setting) (path : List ℕ) (listed : Option (List (List ℕ))) (last : Option PlainReceipt) : Type 0 where
  pub book : WorldBook
  pub reached : IsReached base setting book
  pub takes : TakesUp last book
  pub are : IfSome listed (λ paths. paths ≡ anchors_below book path)
