-- Which anchors a Book has, under the lock.
use Rattle.std.proofs.Common.{◌≡◌, ℕ, List, Option, Result, Ok, Err}
use Rattle.std.specs.Prelude.{IfOk, Vec}
use Rattle.std.specs.declared.alloc.{AllocError.AllocError, Global.Global}
use Rattle.pf_core.specs.{Durable.Changes.PlainDurable, WorldBooks.WorldBook, Worlds.Setting}
use Rattle.pf_book.specs.{Anchors.{SaysAnchors, anchors_below, listed_in}, Receipts.{PlainReceipt, IsReached, TakesUp}}

pub listed : (base : PlainDurable) (setting : Setting) (b : WorldBook) (path : List ℕ) (result : Result (Vec (List ℕ) Global) AllocError) (last : Option PlainReceipt)
    → IsReached base setting b → TakesUp last b → IfOk result (λ v. v.items ≡ anchors_below b path) → SaysAnchors base setting path (listed_in result) last
listed base setting b path (Ok v) last reached takes are = record { book = b; reached = reached; takes = takes; are = are }
listed base setting b path (Err e) last reached takes are = record { book = b; reached = reached; takes = takes; are = tt }
