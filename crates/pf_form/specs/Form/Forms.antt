-- A grammar as data: a form. Which words spell a value, how words are read, where a text goes wrong and how, and
-- whether one word of look-ahead decides, are each a function of the form.
use Rattle.std.specs.{Prelude.{◌≡◌, ◌≢◌, ℕ, zero, suc, ◌+◌, ◌<◌, ◌≤◌, ◌&&◌, ◌||◌, not, Bool, true, false, List, [], ◌∷◌, ◌++◌, length, take, drop, Result, Ok, Err, ◌⊎◌, if◌then◌else◌}, Str.bytes_eq}
use Rattle.pf_form.specs.declared.{form.fault.Kind.Kind, form.fault.Kind.TheVariants.BadWord}
use Rattle.pf_form.specs.Form.Words.{Word}

-- a test of one word, with a word that it takes
pub record Test (A : Type 0) : Type 0 where
  pub of : Word → Result A Kind
  pub sample : Word
  pub value : A
  pub takes : of sample ≡ Ok value

-- A grammar of texts that spell values of a type.
pub data Form : Type 0 → Type 1 where
  -- no word, for this value
  nothing : {A : Type 0} → A → Form A
  -- one word, which the test takes
  word : {A : Type 0} → Test A → Form A
  -- this word, and what follows it
  key : {A : Type 0} → Word → Form A → Form A
  -- if this word comes first, the word and what follows it; else the other
  or : {A : Type 0} → Word → Form A → Form A → Form A
  -- one, and the next
  pair : {A B : Type 0} → Form A → Form B → Form (A × B)
  -- one, and the next, which depends on this about the first one's value
  pair_by : {A B : Type 0} → Form A → (A → Bool) → (Bool → Form B) → Form (A × B)
  -- one after another, up to the last word
  any_number : {A : Type 0} → Form A → Form (List A)
  -- one, seen as another value
  making : {A B : Type 0} → (A → B) → Form A → Form B

-- ---- the grammar

abbrev pub Grammar : Type 0 → Type 1
Grammar A = A → List Word → Type 0

abbrev pub InOrder : {A : Type 0} → Grammar A → Grammar (List A)
InOrder part [] ws = ws ≡ []
InOrder part (x ∷ xs) ws = (a b : List Word) × part x a × InOrder part xs b × (ws ≡ a ++ b)

-- the words spell the value
abbrev pub Spells : {A : Type 0} → Form A → Grammar A
Spells (nothing none) x ws = (x ≡ none) × (ws ≡ [])
Spells (word test) x ws = (w : Word) × (test.of w ≡ Ok x) × (ws ≡ w ∷ [])
Spells (key k f) x ws = (rest : List Word) × Spells f x rest × (ws ≡ k ∷ rest)
Spells (or k f g) x ws = ((rest : List Word) × Spells f x rest × (ws ≡ k ∷ rest)) ⊎ Spells g x ws
Spells (pair f g) x ws = (a b : List Word) × Spells f x.0 a × Spells g x.1 b × (ws ≡ a ++ b)
Spells (pair_by f flag g) x ws = (a b : List Word) × Spells f x.0 a × Spells (g (flag x.0)) x.1 b × (ws ≡ a ++ b)
Spells (any_number f) xs ws = InOrder (Spells f) xs ws
Spells (making make f) y ws = (x : _) × Spells f x ws × (y ≡ make x)

-- After these words a test may stand, which faults the word with a kind of its own. Where there is no test, a word that
-- isn't allowed there is just a bad word.
abbrev pub Faults : {A : Type 0} → Form A → List Word → Word → Kind → Type 0
Faults (nothing none) front w kind = ⊥
Faults (word test) front w kind = (test.of w ≡ Err kind) × (kind ≢ BadWord) × (front ≡ [])
Faults (key k f) front w kind = (rest : List Word) × Faults f rest w kind × (front ≡ k ∷ rest)
Faults (or k f g) front w kind = ((rest : List Word) × Faults f rest w kind × (front ≡ k ∷ rest)) ⊎ Faults g front w kind
Faults {A = _} (pair f g) front w kind =
    Faults f front w kind ⊎ ((x : _) × (a b : List Word) × Spells f x a × Faults g b w kind × (front ≡ a ++ b))
Faults (pair_by f flag g) front w kind =
    Faults f front w kind ⊎ ((x : _) × (a b : List Word) × Spells f x a × Faults (g (flag x)) b w kind × (front ≡ a ++ b))
Faults (any_number f) front w kind = (xs : List _) × (a b : List Word) × InOrder (Spells f) xs a × Faults f b w kind × (front ≡ a ++ b)
Faults (making make f) front w kind = Faults f front w kind

-- ---- reading: a value and the words after it, or what is wrong and the words from there on

abbrev pub Read : Type 0 → Type 0
Read A = Result (A × List Word) (Kind × List Word)

abbrev pub Reader : Type 0 → Type 0
Reader A = List Word → Read A

infixl 10 ◌>>=◌
abbrev pub ◌>>=◌ : {A B E : Type 0} → Result A E → (A → Result B E) → Result B E
(Ok x) >>= f = f x
(Err e) >>= f = Err e

abbrev pub tested : {A : Type 0} → Result A Kind → Word → Reader A
tested (Ok x) w ws = Ok (x, ws)
tested (Err kind) w ws = Err (kind, w ∷ ws)

abbrev pub one_word : {A : Type 0} → (Word → Result A Kind) → Reader A
one_word test [] = Err (BadWord, [])
one_word test (w ∷ ws) = tested (test w) w ws

abbrev pub if_first : {A : Type 0} → Word → Reader A → Reader A → Reader A
if_first k here other [] = other []
if_first k here other (w ∷ ws) = if bytes_eq w k then here ws else other (w ∷ ws)

abbrev pub misplaced : {A : Type 0} → Reader A
misplaced ws = Err (BadWord, ws)

-- so many at most
abbrev pub at_most : {A : Type 0} → ℕ → Reader A → Reader (List A)
at_most zero read ws = Ok ([], ws)
at_most (suc n) read [] = Ok ([], [])
at_most (suc n) read (w ∷ ws) = read (w ∷ ws) >>= λ x. at_most n read x.1 >>= λ y. Ok (x.0 ∷ y.0, y.1)

-- as many as there are words: an item takes one or more of them
abbrev pub any_by : {A : Type 0} → Reader A → Reader (List A)
any_by read ws = at_most (length ws) read ws

abbrev pub reads : {A : Type 0} → Form A → Reader A
reads (nothing none) ws = Ok (none, ws)
reads (word test) ws = one_word test.of ws
reads (key k f) ws = if_first k (reads f) misplaced ws
reads (or k f g) ws = if_first k (reads f) (reads g) ws
reads (pair f g) ws = reads f ws >>= λ x. reads g x.1 >>= λ y. Ok ((x.0, y.0), y.1)
reads (pair_by f flag g) ws = reads f ws >>= λ x. reads (g (flag x.0)) x.1 >>= λ y. Ok ((x.0, y.0), y.1)
reads (any_number f) ws = any_by (reads f) ws
reads (making make f) ws = reads f ws >>= λ x. Ok (make x.0, x.1)

-- ---- whether one word decides

-- of either flag
abbrev pub either : (Bool → Bool) → Bool
either test = test true || test false

-- whether a text can be empty
abbrev pub empties : {A : Type 0} → Form A → Bool
empties (nothing none) = true
empties (word test) = false
empties (key k f) = false
empties (or k f g) = empties g
empties (pair f g) = empties f && empties g
empties (pair_by f flag g) = empties f && either (λ b. empties (g b))
empties (any_number f) = true
empties (making make f) = empties f

-- whether a test takes the word, or faults it with a kind of its own
abbrev pub knows : {A : Type 0} → Result A Kind → Bool
knows (Ok x) = true
knows (Err BadWord) = false
knows (Err kind) = true

-- whether a text, or a word that a test faults with a kind of its own, can begin so
abbrev pub begins : {A : Type 0} → Form A → Word → Bool
begins (nothing none) w = false
begins (word test) w = knows (test.of w)
begins (key k f) w = bytes_eq w k
begins (or k f g) w = bytes_eq w k || begins g w
begins (pair f g) w = begins f w || (empties f && begins g w)
begins (pair_by f flag g) w = begins f w || (empties f && either (λ b. begins (g b) w))
begins (any_number f) w = begins f w
begins (making make f) w = begins f w

-- what may follow: any word but these, or none at all
pub data Follow : Type 0 where
  but : List Word → Follow
  the_end : Follow

abbrev pub plus : Follow → Follow → Follow
plus (but a) (but b) = but (a ++ b)
plus (but a) the_end = the_end
plus the_end b = the_end

abbrev pub where_empty : Bool → Follow → Follow
where_empty true f = f
where_empty false f = but []

abbrev pub follow : {A : Type 0} → Form A → Follow
follow (nothing none) = but []
follow (word test) = but []
follow (key k f) = follow f
follow (or k f g) = plus (follow f) (plus (follow g) (where_empty (empties g) (but (k ∷ []))))
follow (pair f g) = plus (follow g) (where_empty (empties g) (follow f))
follow (pair_by f flag g) = plus (plus (follow (g true)) (follow (g false))) (where_empty (either (λ b. empties (g b))) (follow f))
follow (any_number f) = the_end
follow (making make f) = follow f

abbrev pub none_of : (Word → Bool) → List Word → Bool
none_of test [] = true
none_of test (w ∷ ws) = not (test w) && none_of test ws

-- whether what begins so may follow
abbrev pub may_follow : Follow → (Word → Bool) → Bool
may_follow (but ws) begin = none_of begin ws
may_follow the_end begin = false

-- One word of look-ahead decides.
abbrev pub is_decided : {A : Type 0} → Form A → Bool
is_decided (nothing none) = true
is_decided (word test) = true
is_decided (key k f) = is_decided f
is_decided (or k f g) = is_decided f && (is_decided g && not (begins g k))
is_decided (pair f g) = is_decided f && (is_decided g && may_follow (follow f) (begins g))
is_decided (pair_by f flag g) =
    is_decided f && ((is_decided (g true) && is_decided (g false)) && may_follow (follow f) (λ w. either (λ b. begins (g b) w)))
is_decided (any_number f) = is_decided f && (not (empties f) && may_follow (follow f) (begins f))
is_decided (making make f) = is_decided f

-- one or more
abbrev pub onto : {A : Type 0} → A × List A → List A
onto x = x.0 ∷ x.1

abbrev pub one_or_more : {A : Type 0} → Form A → Form (List A)
one_or_more f = making onto (pair f (any_number f))

-- how they are read
abbrev first_and_others : {A : Type 0} → Reader A → Reader (A × List A)
first_and_others read ws = read ws >>= λ x. any_by read x.1 >>= λ y. Ok ((x.0, y.0), y.1)

abbrev pub one_or_more_by : {A : Type 0} → Reader A → Reader (List A)
one_or_more_by read ws = first_and_others read ws >>= λ z. Ok (onto z.0, z.1)

-- ---- whole texts

-- Some text of the grammar begins with these words.
abbrev pub Begins : {A : Type 0} → Grammar A → List Word → Type 0
Begins {A = A} spells ws = (x : A) × (more : List Word) × spells x (ws ++ more)

-- The words before this place begin some text of the grammar. With the word at it none does; or, where no
-- word is there, these words are no text.
pub record StopsAt (A : Type 0) (spells : Grammar A) (ws : List Word) (at : ℕ) : Type 0 where
  pub within : at ≤ length ws
  pub before : Begins spells (take at ws)
  pub word_at : at < length ws → Begins spells (take (at + 1) ws) → ⊥
  pub missing : at ≡ length ws → (x : A) → spells x ws → ⊥

-- no word is left
abbrev pub end_at : List Word → Result (Unit {0}) (Kind × List Word)
end_at [] = Ok tt
end_at (w ∷ ws) = Err (BadWord, w ∷ ws)

abbrev pub ended : {A : Type 0} → A × List Word → Result A (Kind × List Word)
ended x = end_at x.1 >>= λ u. Ok x.0

-- all words are read
abbrev pub read_all : {A : Type 0} → Form A → List Word → Result A (Kind × List Word)
read_all f ws = reads f ws >>= ended

-- ---- what a refusal says, by the grammar alone

-- this word is at this place
abbrev pub StandsAt : List Word → ℕ → Word → Type 0
StandsAt ws at w = (tail : List Word) × (drop at ws ≡ w ∷ tail)

-- The words are refused at the place where they stop. Where a test that may stand there faults the word with a kind of its
-- own, this is the kind; else the word is bad, or missing.
pub record RefusedAt (A : Type 0) (f : Form A) (ws : List Word) (at : ℕ) (kind : Kind) : Type 0 where
  pub place : StopsAt A (Spells f) ws at
  pub tested : (w : Word) (k : Kind) → StandsAt ws at w → Faults f (take at ws) w k → kind ≡ k
  pub other : (kind ≡ BadWord) ⊎ ((w : Word) × StandsAt ws at w × Faults f (take at ws) w kind)
