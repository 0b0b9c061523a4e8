-- Commands of several callers at their places in one group.
use Rattle.std.proofs.{Common.{◌≡◌, ◌∙◌, ℕ, zero, suc, List, [], ◌∷◌, ◌++◌, length, Option, Some, None, Ok, Err, inr, refl, sym, ap, subst, arith}, lemmas.{List.length-map, List.Elements.{All-head, All-tail}}}
use Rattle.std.specs.Prelude.{All, map, slice_get}
use Rattle.pf_core.specs.declared.{command.Command.Command, reply.Refusal.TheVariants.Fault}
use Rattle.pf_core.specs.{Durable.Changes.{PlainDurable, PlainChange}, WorldBooks.WorldBook, Worlds.{Setting, CurrentOpening, changes_with, log_of, heard_group}}
use Rattle.pf_book.specs.{Groups.{Answered, AreAnswered, IsAnsweredAsAlone, IsGroupAnswered, replies_of}, Receipts.{PlainReceipt, TakesUp}, Together.{HasFailedAmong, IsAnsweredAmong, IsAnsweredTogether, PlainAsked, PlainGiven}}

-- ---- places of a list

record IsParted {A : Type 0} (xs : List A) (i : ℕ) (x : A) : Type 0 where
  front : List A
  rest : List A
  is : xs ≡ front ++ x ∷ rest
  long : length front ≡ i

parted : {A : Type 0} (xs : List A) (i : ℕ) (x : A) → slice_get xs i ≡ Some x → IsParted xs i x
parted [] i x at = absurd (cc (at))
parted (y ∷ xs) zero x at = record { front = []; rest = xs; is = cc (at); long = refl }
parted (y ∷ xs) (suc i) x at = let p = parted xs i x at in record { front = y ∷ p.front; rest = p.rest; is = ap (λ (l : List _). y ∷ l) p.is; long = ap suc p.long }

-- what stands at a place of what a function makes of a list
unmapped : {A B : Type 0} (f : A → B) (xs : List A) (i : ℕ) (y : B) → slice_get (map f xs) i ≡ Some y → (x : A) × (y ≡ f x) × (slice_get xs i ≡ Some x)
unmapped f [] i y at = absurd (cc (at))
unmapped f (x ∷ xs) zero y at = (x, cc (at), refl)
unmapped f (x ∷ xs) (suc i) y at = unmapped f xs i y at

mapped : {A B : Type 0} (f : A → B) (xs : List A) (i : ℕ) (x : A) → slice_get xs i ≡ Some x → slice_get (map f xs) i ≡ Some (f x)
mapped f [] i x at = absurd (cc (at))
mapped f (y ∷ xs) zero x at = cc (at)
mapped f (y ∷ xs) (suc i) x at = mapped f xs i x at

-- one more of what a function makes of a list
pub one-more : {A B : Type 0} (f : A → B) (xs : List A) (x : A) → map f (xs ++ x ∷ []) ≡ map f xs ++ f x ∷ []
one-more f [] x = refl
one-more f (y ∷ xs) x = ap (λ (l : List _). f y ∷ l) (one-more f xs x)

all-at : {A : Type 0} (P : A → Type 0) (xs : List A) (i : ℕ) (x : A) → All P xs → slice_get xs i ≡ Some x → P x
all-at P [] i x all at = absurd (cc (at))
all-at P (y ∷ xs) zero x all at = subst P (cc (at)) (All-head P y xs all)
all-at P (y ∷ xs) (suc i) x all at = all-at P xs i x (All-tail P y xs all) at

-- ---- what is asked

-- parted and joined again it is the same
pub same-asked : (xs ys : List PlainAsked) → map (λ a. a.command) xs ≡ map (λ a. a.command) ys → map (λ a. a.last) xs ≡ map (λ a. a.last) ys → xs ≡ ys
same-asked [] [] p q = refl
same-asked [] (y ∷ ys) p q = absurd (cc (p))
same-asked (x ∷ xs) [] p q = absurd (cc (p))
same-asked (x ∷ xs) (y ∷ ys) p q =
    let command : x.command ≡ y.command = cc (p) in
    let last : x.last ≡ y.last = cc (q) in
    let one : x ≡ y = λ i. record { command = command i; last = last i } in
    let rest : xs ≡ ys = same-asked xs ys (cc (p)) (cc (q)) in
    cc (one, rest)

-- ---- their places in a group

as-many : (h : CurrentOpening) (shown changes : List PlainChange) (commands : List Command) (answers : List Answered) → AreAnswered h shown changes commands answers → length answers ≡ length commands
as-many h shown changes [] answers are = ap length are
as-many h shown changes (c ∷ commands) [] are = absurd are
as-many h shown changes (c ∷ commands) (a ∷ answers) are = let more = as-many h shown (changes_with h changes c) commands answers are.1 in omega (arith, more)

-- who hands in no receipt asks nothing of the history
none-taken : (w : WorldBook) → TakesUp None w
none-taken w = record { follows = λ l is. absurd (cc (is)); shows = λ l is. absurd (cc (is)) }

module _ (base : PlainDurable) (setting : Setting) (w : WorldBook) (asked : List PlainAsked) (commands : List Command) (lasts : List (Option PlainReceipt))
    (parts : commands ≡ map (λ a. a.command) asked) (handed : lasts ≡ map (λ a. a.last) asked) (taken : All (λ l. TakesUp l w) lasts) where
  command-at : (i : ℕ) (j : PlainAsked) → slice_get asked i ≡ Some j → slice_get commands i ≡ Some j.command
  command-at i j at = subst (λ (l : List Command). slice_get l i ≡ Some j.command) (sym parts) (mapped (λ a. a.command) asked i j at)

  taken-at : (i : ℕ) (j : PlainAsked) → slice_get asked i ≡ Some j → TakesUp j.last w
  taken-at i j at = all-at (λ l. TakesUp l w) lasts i j.last taken (subst (λ (l : List (Option PlainReceipt)). slice_get l i ≡ Some j.last) (sym handed) (mapped (λ a. a.last) asked i j at))

  module _ (answers : List Answered) (group : (last : Option PlainReceipt) → TakesUp last w → IsAnsweredAsAlone base setting commands (Ok answers) last) where
    pub one-each : length answers ≡ length asked
    one-each =
        let g = (group None (none-taken w)).group in
        let many = as-many g.before (log_of (heard_group g.before commands (replies_of (Ok answers)) g.came)) [] commands answers g.receipts in
        many ∙ ap length parts ∙ length-map asked (λ a. a.command)

    among : (i : ℕ) (j : PlainAsked) (a : Answered) → slice_get asked i ≡ Some j → slice_get answers i ≡ Some a → IsAnsweredAmong base setting j.command a.0 a.1 j.last
    among i j a at also =
        let p = parted commands i j.command (command-at i j at) in
        let q = parted answers i a also in
        let whole : IsAnsweredAsAlone base setting (p.front ++ j.command ∷ p.rest) (Ok (q.front ++ a ∷ q.rest)) j.last =
        subst (λ (l : List Answered). IsAnsweredAsAlone base setting (p.front ++ j.command ∷ p.rest) (Ok l) j.last) q.is
        (subst (λ (cs : List Command). IsAnsweredAsAlone base setting cs (Ok answers) j.last) p.is (group j.last (taken-at i j at))) in
        record {
          earlier = p.front;
          later = p.rest;
          reported = q.front;
          others = q.rest;
          group = whole.group;
          in_turn = whole.in_turn;
          place = q.long ∙ sym p.long;
        }

    pub all-answered : (reported : List PlainGiven) → reported ≡ map Ok answers → (i : ℕ) (j : PlainAsked) (a : PlainGiven) → slice_get asked i ≡ Some j → slice_get reported i ≡ Some a → IsAnsweredTogether base setting j a
    all-answered reported is i j a at also =
        let m = unmapped Ok answers i a (subst (λ (l : List PlainGiven). slice_get l i ≡ Some a) is also) in
        subst (λ (t : PlainGiven). IsAnsweredTogether base setting j t) (sym m.1) (inr (among i j m.0 at m.2))

  module _ (group : (last : Option PlainReceipt) → TakesUp last w → IsGroupAnswered base setting commands (Err Fault) last) where
    failed : (i : ℕ) (j : PlainAsked) → slice_get asked i ≡ Some j → HasFailedAmong base setting j.command j.last
    failed i j at =
        let p = parted commands i j.command (command-at i j at) in
        record { earlier = p.front; later = p.rest; group = subst (λ (cs : List Command). IsGroupAnswered base setting cs (Err Fault) j.last) p.is (group j.last (taken-at i j at)) }

    pub all-failed : (reported : List PlainGiven) → reported ≡ map Err lasts → (i : ℕ) (j : PlainAsked) (a : PlainGiven) → slice_get asked i ≡ Some j → slice_get reported i ≡ Some a → IsAnsweredTogether base setting j a
    all-failed reported is i j a at also =
        let m = unmapped Err lasts i a (subst (λ (l : List PlainGiven). slice_get l i ≡ Some a) is also) in
        let own : slice_get lasts i ≡ Some j.last = subst (λ (l : List (Option PlainReceipt)). slice_get l i ≡ Some j.last) (sym handed) (mapped (λ a. a.last) asked i j at) in
        let same : m.0 ≡ j.last = cc (own, m.2) in
        subst (λ (t : PlainGiven). IsAnsweredTogether base setting j t) (sym m.1) (same, failed i j at)
