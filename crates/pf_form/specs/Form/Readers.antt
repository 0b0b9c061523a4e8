-- What the functions that read words return.
use Rattle.std.specs.Prelude.{Bool, true, false, ◌≡◌, ◌<◌, List, length, Result, Ok, Err}
use denote.Ref.{Bor}
use denote.MutBor.{MutBor}
use Rattle.pf_form.specs.declared.{form.fault.Kind.Kind, form.fault.WordFault.WordFault, form.fault.Unread.Unread}
use Rattle.pf_form.specs.declared.form.fault.Unread.TheVariants as unread
use Rattle.pf_form.specs.{Form.Words.{Word, texts}, Form.Forms.{Form, nothing, key, or, Reader, reads, read_all, one_or_more_by, ended, ◌>>=◌}}

-- the kind of the fault, and how many words were left
abbrev pub Fails : {Y : Type 0} → WordFault → Result Y (Kind × List Word) → Type 0
Fails s (Ok y) = ⊥
Fails s (Err e) = (s.kind ≡ e.0) × (s.left ≡ length e.1)

-- The words move on as this reader does: what is returned, and what is left.
abbrev pub MovesBy : {A : Type 0} → Reader A → Result A WordFault → List (Bor Word) → List (Bor Word) → Type 0
MovesBy read (Ok x) before after = read (texts before) ≡ Ok (x, texts after)
MovesBy read (Err s) before after = Fails s (read (texts before))

abbrev pub Moves : {A : Type 0} → Form A → Result A WordFault → List (Bor Word) → List (Bor Word) → Type 0
Moves f = MovesBy (reads f)

-- a keyword that may be left out, and whether it is there
abbrev pub if_there : Word → Form Bool
if_there k = or k (nothing true) (nothing false)

abbrev pub there : Word → Form (Unit {0})
there k = key k (nothing tt)

-- the same for all words
abbrev pub GivesWhole : {X A : Type 0} → (X → A) → Result X WordFault → Result A (Kind × List Word) → Type 0
GivesWhole view (Ok x) read = read ≡ Ok (view x)
GivesWhole view (Err s) read = Fails s read

abbrev pub ReadsWhole : {X A : Type 0} → (X → A) → Form A → Result X WordFault → List (Bor Word) → Type 0
ReadsWhole view f result words = GivesWhole view result (read_all f (texts words))

-- the same for all words, with the value seen by view, unless memory ran out
abbrev pub GivesAll : {X A : Type 0} → (X → A) → Result X Unread → Result A (Kind × List Word) → Type 0
GivesAll view (Ok x) read = read ≡ Ok (view x)
GivesAll view (Err (unread.Stopped s)) read = Fails s read
GivesAll view (Err unread.Memory) read = Unit {0}

abbrev pub ReadsAll : {X A : Type 0} → (X → A) → Form A → Result X Unread → List (Bor Word) → Type 0
ReadsAll view f result words = GivesAll view result (read_all f (texts words))

-- a reader leaves fewer words than there were
abbrev pub Shrinks : {A : Type 0} → Reader A → Type 0
Shrinks {A = A} read = (ws : List Word) (x : A) (rest : List Word) → read ws ≡ Ok (x, rest) → length rest < length ws

-- what a function with a cursor may return, and what it may leave
abbrev pub Returns : Type 0 → Type 1
Returns A = MutBor (Bor (List (Bor Word))) → Result A WordFault → MutBor (Bor (List (Bor Word))) → Type 0

-- where a value is returned, fewer words are left
abbrev pub TakesSome : {A : Type 0} → Returns A → Type 0
TakesSome {A = A} post = (ws vs : MutBor (Bor (List (Bor Word)))) (x : A) → post ws (Ok x) vs → length vs.now.now < length ws.now.now

-- what a function returns and leaves is what reading gives
abbrev pub IsReadBy : {A : Type 0} → Returns A → Reader A → Type 0
IsReadBy {A = A} post read =
    (ws vs : MutBor (Bor (List (Bor Word)))) (r : Result A WordFault) → post ws r vs → MovesBy read r ws.now.now vs.now.now

-- reading each of a part, up to the last word
abbrev pub each_by : {A : Type 0} → Reader A → List Word → Result (List A) (Kind × List Word)
each_by read ws = (one_or_more_by read ws) >>= ended
