-- What a writer holds after a flush, or after nothing.
use Rattle.std.proofs.Common.{ℕ, List, [], length, arith, append-nil, sym, Option, Some, None, Result, Ok, Err}
use Rattle.std.proofs.lemmas.List.{take_all}
use Rattle.std.specs.Io.KnownBytes.{Appends, Keeps}
use Rattle.std.specs.declared.io.Error.{Error}
use Rattle.pf_addr.specs.Writing.{Appends-kept, Writes, WritesFront}

-- a flush after a text leaves it
pub flushed : (r : Result (Unit {0}) Error) (old mid new : Option (List ℕ)) (text : List ℕ) → Appends old mid text → Keeps mid new → Writes r old new text
flushed (Ok u) old mid new text a k = Appends-kept old mid new text a k
flushed (Err e) old mid new text a k = (length text, rw (take_all (length text) text (omega arith)) (Appends-kept old mid new text a k))

-- nothing is written where there is nothing to say
pub appends_none : (o : Option (List ℕ)) → Appends o o []
appends_none None = tt
appends_none (Some bytes) = sym (append-nil bytes)

-- the whole of a text is a front of it
pub whole_front : (old new : Option (List ℕ)) (text : List ℕ) → Appends old new text → WritesFront old new text
whole_front old new text a = (length text, rw (take_all (length text) text (omega arith)) a)

-- the whole text, whether it is a success or not
pub whole_writes : {A E : Type 0} (r : Result A E) (old new : Option (List ℕ)) (text : List ℕ) → Appends old new text → Writes r old new text
whole_writes (Ok u) old new text a = a
whole_writes (Err e) old new text a = whole_front old new text a
