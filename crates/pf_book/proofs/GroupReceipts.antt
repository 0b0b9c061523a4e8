-- The receipts of a group's replies.
use Rattle.std.proofs.{Common.{◌≡◌, inl, inr, min, Option, ℕ, zero, suc, drop, ◌+◌, ◌≤◌, Bool, true, false, List, [], ◌∷◌, ◌++◌, length, take, Some, Result, Ok, Err, refl, sym, ap, ◌∙◌, subst, arith, append_assoc, append-nil, length-append}, lemmas.List.{map-id, take_all, take-append-le, Elements.{All-nil, All-cons}}}
use Rattle.std.specs.{Prelude.{fold, map, slice_get, All}, List.AllByRecursion}
use Rattle.pf_core.specs.declared.{command.Command.Command, reply.Refusal.Refusal, reply.Outcome.Outcome, reply.Reply.Reply, reply.Reply.TheVariants.{Answer, Applied, Stored, Refused}, step.Step.Step, step.Step.TheVariants.{Done, Wants}}
use Rattle.pf_core.specs.{Durable.Changes.PlainChange, WorldBooks.{WorldBook, LeadsGroup}, Worlds.{Upshot, shown_by, CurrentOpening, flat, log_of, grouped, step_in, reply_to, changes_of, amid, changes_with, changes_due, replies_due}}
use Rattle.pf_core.proofs.{Courses.{flat-with, IsOfGroup, reported, wanted, refused, step-amid, MayBeGrouped, as_due_or_stored, IsAccepted, accepted}, GroupLeads.{IsShownSo, shown-due}}
use Rattle.pf_book.specs.{Groups.{Answered, AreAnswered}, Pairs.{count_after, given_after, kept_count, given_to, slip_at, paired}, Books.log_in, Receipts.{PlainReceipt, EndsIn, ShownFits, receipt_of, token_of}}

same-end : (xs ys zs : List PlainChange) → xs ++ ys ≡ xs ++ zs → ys ≡ zs
same-end [] ys zs is = is
same-end (x ∷ xs) ys zs is = same-end xs ys zs (cc (is))

taken-front : (xs ys zs : List PlainChange) (n : ℕ) → n ≡ length xs + length ys → take n (xs ++ (ys ++ zs)) ≡ xs ++ ys
taken-front xs ys zs n is =
    ap (take n) (sym (append_assoc xs ys zs)) ∙ take-append-le n (xs ++ ys) zs (omega (arith, is, length-append xs ys)) ∙ take_all n (xs ++ ys) (omega (arith, is, length-append xs ys))

-- what a group wants begins with what it wants so far
due-more : (h : CurrentOpening) (changes : List PlainChange) (commands : List Command) → (more : List PlainChange) × (changes_due h changes commands ≡ changes ++ more)
due-more h changes [] = ([], sym (append-nil changes))
due-more h changes (c ∷ cs) =
    let wants : List PlainChange = changes_of (step_in (amid h changes) c) in
    let rest = due-more h (changes ++ wants) cs in
    (wants ++ rest.0, rest.1 ∙ append_assoc changes wants rest.0)

-- the log in the course of a group, if nothing is pending
pub log-so-far : (h : CurrentOpening) (changes : List PlainChange) → h.pending ≡ [] → log_of (amid h changes) ≡ flat h.acked ++ changes
log-so-far h changes none =
    ap (λ (gs : List (List PlainChange)). flat ((h.acked ++ grouped changes) ++ gs)) none ∙ ap flat (append-nil (h.acked ++ grouped changes)) ∙ flat-with h.acked changes

-- what the receipt of the first command is, given its step
abbrev First : CurrentOpening → List PlainChange → List PlainChange → Result Step Refusal → Reply → PlainReceipt → Type 0
First h log changes s r slip = (slip.front ≡ log_of (amid h changes) ++ changes_of s) × ((slip.acked ≡ length slip.front) × ((slip.change ≡ slice_get (changes_of s) 0) × (slip.token ≡ token_of r log)))

-- and the receipts of the commands after it
abbrev AnswersFollow : CurrentOpening → List PlainChange → List PlainChange → List Command → Result Step Refusal → List Answered → Type 0
AnswersFollow h log changes cs s [] = ⊥
AnswersFollow h log changes cs s (a ∷ others) = First h log changes s a.0 a.1 × AreAnswered h log (changes ++ changes_of s) cs others

follow-is : (h : CurrentOpening) (log changes : List PlainChange) (c : Command) (cs : List Command) (answers : List Answered) → AnswersFollow h log changes cs (step_in (amid h changes) c) answers → AreAnswered h log changes (c ∷ cs) answers
follow-is h log changes c cs [] none = absurd none
follow-is h log changes c cs (a ∷ others) both = (record { front = both.0.0; acked = both.0.1.0; change = both.0.1.1.0; token = both.0.1.1.1 }, both.1)

-- so many changes are shown after the group
module _ (many : ℕ) where
  first-of : (h : CurrentOpening) (log changes : List PlainChange) (s : Result Step Refusal) (n : ℕ) (r : Reply) → h.pending ≡ [] → take n log ≡ flat h.acked ++ (changes ++ changes_of s) → n ≡ length (flat h.acked) + length (changes ++ changes_of s)
      → First h log changes s r (slip_at many log n (slice_get (changes_of s) 0) r)
  first-of h log changes s n r none front is =
      let long : n ≡ length (take n log) = is ∙ sym (ap length front ∙ length-append (flat h.acked) (changes ++ changes_of s)) in
      let whole : take n log ≡ log_of (amid h changes) ++ changes_of s =
      front ∙ sym (append_assoc (flat h.acked) changes (changes_of s)) ∙ ap (λ (l : List PlainChange). l ++ changes_of s) (sym (log-so-far h changes none)) in
      (whole, (long, (refl, refl)))

  -- the same of the commands after the first
  abbrev On : CurrentOpening → List PlainChange → List Command → Bool → Type 0
  On h log cs stored = (changes rest : List PlainChange) → changes_due h changes cs ≡ changes ++ rest → log ≡ flat h.acked ++ (changes ++ rest) → (n : ℕ) → n ≡ length (flat h.acked) + length changes
      → AreAnswered h log changes cs (paired many log n (map (as_due_or_stored stored) (replies_due h changes cs)) rest)

  -- if it wants no change
  still : (h : CurrentOpening) (log changes rest : List PlainChange) (cs : List Command) (stored : Bool) → h.pending ≡ [] → log ≡ flat h.acked ++ (changes ++ rest) → (n : ℕ) → n ≡ length (flat h.acked) + length changes → On h log cs stored
      → (s : Result Step Refusal) (x : Reply) → changes_of s ≡ [] → changes_due h (changes ++ changes_of s) cs ≡ changes ++ rest
      → First h log changes s x (slip_at many log (n + 0) (slice_get (changes_of s) 0) x) × AreAnswered h log (changes ++ changes_of s) cs (paired many log (n + 0) (map (as_due_or_stored stored) (replies_due h (changes ++ changes_of s) cs)) rest)
  still h log changes rest cs stored none all n is on s x nothing due =
      let same : changes ++ changes_of s ≡ changes = ap (λ (l : List PlainChange). changes ++ l) nothing ∙ append-nil changes in
      let zero_more : n + 0 ≡ n = omega arith in
      let count : n + 0 ≡ length (flat h.acked) + length (changes ++ changes_of s) = zero_more ∙ is ∙ ap (λ (l : List PlainChange). length (flat h.acked) + length l) (sym same) in
      let front : take (n + 0) log ≡ flat h.acked ++ (changes ++ changes_of s) = ap (λ (m : ℕ). take m log) zero_more ∙ ap (take n) all ∙ taken-front (flat h.acked) changes rest n is ∙ ap (λ (l : List PlainChange). flat h.acked ++ l) (sym same) in (
        first-of h log changes s (n + 0) x none front count,
        on (changes ++ changes_of s) rest (due ∙ ap (λ (l : List PlainChange). l ++ rest) (sym same)) (all ∙ ap (λ (l : List PlainChange). flat h.acked ++ (l ++ rest)) (sym same)) (n + 0) count,
      )

  -- and if it wants one
  wants : (h : CurrentOpening) (log changes rest : List PlainChange) (cs : List Command) (stored : Bool) → h.pending ≡ [] → log ≡ flat h.acked ++ (changes ++ rest) → (n : ℕ) → n ≡ length (flat h.acked) + length changes → On h log cs stored
      → (e : PlainChange) (o : Outcome) (x : Reply) (left : List PlainChange) → rest ≡ e ∷ left → changes_due h (changes ++ e ∷ []) cs ≡ (changes ++ e ∷ []) ++ left
      → First h log changes (Ok (Wants e o)) x (slip_at many log (n + 1) (Some e) x) × AreAnswered h log (changes ++ e ∷ []) cs (paired many log (n + 1) (map (as_due_or_stored stored) (replies_due h (changes ++ e ∷ []) cs)) left)
  wants h log changes rest cs stored none all n is on e o x left here due =
      let more : List PlainChange = changes ++ e ∷ [] in
      let whole : log ≡ flat h.acked ++ (more ++ left) = all ∙ ap (λ (l : List PlainChange). flat h.acked ++ (changes ++ l)) here ∙ ap (λ (l : List PlainChange). flat h.acked ++ l) (sym (append_assoc changes (e ∷ []) left)) in
      let long : length more ≡ length changes + 1 = length-append changes (e ∷ []) in
      let count : n + 1 ≡ length (flat h.acked) + length more = omega (arith, is, long) in
      let front : take (n + 1) log ≡ flat h.acked ++ more = ap (take (n + 1)) whole ∙ taken-front (flat h.acked) more left (n + 1) count in (
        first-of h log changes (Ok (Wants e o)) (n + 1) x none front count,
        on more left due whole (n + 1) count,
      )

  by-step : (h : CurrentOpening) (log changes rest : List PlainChange) (cs : List Command) (stored : Bool) → h.pending ≡ [] → log ≡ flat h.acked ++ (changes ++ rest) → (n : ℕ) → n ≡ length (flat h.acked) + length changes → On h log cs stored
      → (stored' : Bool) (k : Command) (s : Result Step Refusal) → IsOfGroup k s → changes_due h (changes ++ changes_of s) cs ≡ changes ++ rest
      → AnswersFollow h log changes cs s (paired many log n (as_due_or_stored stored' (reply_to (amid h changes) s) ∷ map (as_due_or_stored stored) (replies_due h (changes ++ changes_of s) cs)) rest)
  by-step h log changes rest cs stored none all n is on true _ _ (reported k x unmentioned silent) due = still h log changes rest cs stored none all n is on (Ok (Done x)) (Answer x) refl due
  by-step h log changes rest cs stored none all n is on false _ _ (reported k x unmentioned silent) due = still h log changes rest cs stored none all n is on (Ok (Done x)) (Answer x) refl due
  by-step h log changes rest cs stored none all n is on true _ _ (refused k e) due = still h log changes rest cs stored none all n is on (Err e) (Refused e) refl due
  by-step h log changes rest cs stored none all n is on false _ _ (refused k e) due = still h log changes rest cs stored none all n is on (Err e) (Refused e) refl due
  by-step h log changes rest cs stored none all n is on true _ _ (wanted k e o mentions) due =
      let next = due-more h (changes ++ e ∷ []) cs in
      let here : rest ≡ e ∷ next.0 = same-end changes rest (e ∷ next.0) (sym due ∙ next.1 ∙ append_assoc changes (e ∷ []) next.0) in
      rw here (wants h log changes rest cs stored none all n is on e o (Stored (length (log_of (amid h changes)) + 1) o) next.0 here next.1)
  by-step h log changes rest cs stored none all n is on false _ _ (wanted k e o mentions) due =
      let next = due-more h (changes ++ e ∷ []) cs in
      let here : rest ≡ e ∷ next.0 = same-end changes rest (e ∷ next.0) (sym due ∙ next.1 ∙ append_assoc changes (e ∷ []) next.0) in
      rw here (wants h log changes rest cs stored none all n is on e o (Applied (length (log_of (amid h changes)) + 1) o) next.0 here next.1)

  pub slips : (h : CurrentOpening) (log changes rest : List PlainChange) (commands : List Command) (stored : Bool) → h.pending ≡ [] → MayBeGrouped commands → changes_due h changes commands ≡ changes ++ rest → log ≡ flat h.acked ++ (changes ++ rest)
      → (n : ℕ) → n ≡ length (flat h.acked) + length changes → AreAnswered h log changes commands (paired many log n (map (as_due_or_stored stored) (replies_due h changes commands)) rest)
  slips h log changes rest [] stored none may due all n is = refl
  slips h log changes rest (c ∷ cs) stored none may due all n is =
      follow-is h log changes c cs (paired many log n (as_due_or_stored stored (reply_to (amid h changes) (step_in (amid h changes) c)) ∷ map (as_due_or_stored stored) (replies_due h (changes_with h changes c) cs)) rest)
      (by-step h log changes rest cs stored none all n is (λ more left due' all' m is'. slips h log more left cs stored none may.1 due' all' m is') stored c (step_in (amid h changes) c) (step-amid (amid h changes) c may.0) due)

  -- ---- the replies

  -- pairing with receipts leaves the replies as they are
  pub paired-replies : (log : List PlainChange) (n : ℕ) (replies : List Reply) (given : List PlainChange) → map (λ (a : Answered). a.0) (paired many log n replies given) ≡ replies
  paired-replies log n [] given = refl
  paired-replies log n (r ∷ replies) given = ap (λ (rs : List Reply). r ∷ rs) (paired-replies log (count_after r n) replies (given_after r given))

  -- and each receipt says how many are shown
  pub paired-shown : (log : List PlainChange) (n : ℕ) (replies : List Reply) (given : List PlainChange) → All (λ (a : Answered). a.1.shown ≡ many) (paired many log n replies given)
  paired-shown log n [] given = All-nil (λ (a : Answered). a.1.shown ≡ many)
  paired-shown log n (r ∷ replies) given = All-cons (λ (a : Answered). a.1.shown ≡ many) _ _ refl (paired-shown log (count_after r n) replies (given_after r given))

kept-step : (stored : Bool) (a : CurrentOpening) (s : Result Step Refusal) (rest : List Reply) → kept_count (as_due_or_stored stored (reply_to a s) ∷ rest) ≡ length (changes_of s) + kept_count rest
kept-step true a (Ok (Wants e o)) rest = refl
kept-step false a (Ok (Wants e o)) rest = refl
kept-step true a s rest = refl
kept-step false a s rest = refl

-- as many replies keep a change as there are changes
pub kept-due : (h : CurrentOpening) (changes : List PlainChange) (commands : List Command) (stored : Bool) → length changes + kept_count (map (as_due_or_stored stored) (replies_due h changes commands)) ≡ length (changes_due h changes commands)
kept-due h changes [] stored = omega arith
kept-due h changes (c ∷ cs) stored =
    let a : CurrentOpening = amid h changes in
    let s : Result Step Refusal = step_in a c in
    let rest : List Reply = map (as_due_or_stored stored) (replies_due h (changes ++ changes_of s) cs) in
    let one : kept_count (as_due_or_stored stored (reply_to a s) ∷ rest) ≡ length (changes_of s) + kept_count rest = kept-step stored a s rest in
    let more : length (changes ++ changes_of s) + kept_count rest ≡ length (changes_due h (changes ++ changes_of s) cs) = kept-due h (changes ++ changes_of s) cs stored in
    omega (arith, one, more, length-append changes (changes_of s))

-- there is one reply to each command
pub one-each : (h : CurrentOpening) (changes : List PlainChange) (commands : List Command) → length (replies_due h changes commands) ≡ length commands
one-each h changes [] = refl
one-each h changes (c ∷ cs) = ap (λ (n : ℕ). suc n) (one-each h (changes_with h changes c) cs)

-- ---- one reply after the other

-- where nothing is pending, all is acknowledged that a receipt has
pub calm-log : (b : WorldBook) → b.pending ≡ [] → log_in b ≡ flat b.acked
calm-log b calm = ap (λ (gs : List (List PlainChange)). flat (b.acked ++ gs)) calm ∙ ap flat (append-nil b.acked)

pub calm-receipt : (b : WorldBook) (n : ℕ) (change : Option PlainChange) (r : Reply) → b.pending ≡ [] → n ≤ length (log_in b) → receipt_of b n change r ≡ slip_at b.shown (log_in b) n change r
calm-receipt b n change r calm within =
    let all : min n (length (flat b.acked)) ≡ n = omega (arith, within, ap length (calm-log b calm)) in
    ap (λ (m : ℕ). record (slip_at b.shown (log_in b) n change r) { acked = m }) all

drop-next : (log : List PlainChange) (n : ℕ) (e : PlainChange) (left : List PlainChange) → drop n log ≡ e ∷ left → (drop (suc n) log ≡ left) × ((suc n ≤ length log) × (take (suc n) log ≡ take n log ++ e ∷ []))
drop-next [] zero e left is = absurd (cc (is))
drop-next [] (suc n) e left is = absurd (cc (is))
drop-next (x ∷ xs) zero e left is = let same : x ≡ e = cc (is) in let rest : xs ≡ left = cc (is) in (rest, (omega arith, ap (λ (y : PlainChange). y ∷ []) same))
drop-next (x ∷ xs) (suc n) e left is = let more = drop-next xs n e left is in (more.0, (omega (arith, more.1.0), ap (λ (l : List PlainChange). x ∷ l) more.1.1))

-- what holds after a reply
pub record IsPaired (log : List PlainChange) (n : ℕ) (given : List PlainChange) (rest : List Reply) : Type 0 where
  pub given_is : drop n log ≡ given
  pub within : n ≤ length log
  pub kept : kept_count rest ≡ length given

still-paired : (log : List PlainChange) (n : ℕ) (given : List PlainChange) (rest : List Reply) → drop n log ≡ given → n ≤ length log → 0 + kept_count rest ≡ length given → IsPaired log (n + 0) given rest
still-paired log n given rest is within kept = record { given_is = ap (λ (m : ℕ). drop m log) (let nothing : n + 0 ≡ n = omega arith in nothing) ∙ is; within = omega (arith, within); kept = omega (arith, kept) }

next-paired : (log : List PlainChange) (n : ℕ) (given : List PlainChange) (rest : List Reply) → drop n log ≡ given → 1 + kept_count rest ≡ length given → IsPaired log (n + 1) (drop 1 given) rest × ((e : PlainChange) → slice_get given 0 ≡ Some e → EndsIn (take (n + 1) log) e)
next-paired log n [] rest is kept = absurd (omega (arith, kept))
next-paired log n (e ∷ left) rest is kept =
    let next = drop-next log n e left is in
    let number : n + 1 ≡ suc n = omega arith in (
      record { given_is = ap (λ (m : ℕ). drop m log) number ∙ next.0; within = omega (arith, next.1.0); kept = omega (arith, kept) },
      λ x some. let same : e ≡ x = cc (some) in (take n log, ap (λ (m : ℕ). take m log) number ∙ next.1.1 ∙ ap (λ (y : PlainChange). take n log ++ y ∷ []) same),
    )

pub pair-on : (log : List PlainChange) (n : ℕ) (given : List PlainChange) (r : Reply) (rest : List Reply) → drop n log ≡ given → n ≤ length log → kept_count (r ∷ rest) ≡ length given
    → IsPaired log (count_after r n) (given_after r given) rest × ((e : PlainChange) → given_to r given ≡ Some e → EndsIn (take (count_after r n) log) e)
pair-on log n given (Answer a) rest is within kept = (still-paired log n given rest is within kept, λ e some. absurd (cc (some)))
pair-on log n given (Refused x) rest is within kept = (still-paired log n given rest is within kept, λ e some. absurd (cc (some)))
pair-on log n given (Applied seq o) rest is within kept = next-paired log n given rest is kept
pair-on log n given (Stored seq o) rest is within kept = next-paired log n given rest is kept

pub no-items : {A : Type 0} (xs : List A) → length xs ≡ 0 → xs ≡ []
no-items [] is = refl
no-items (x ∷ xs) is = absurd (omega (arith, is))

-- ---- the result of a group

fits-step : (stored : Bool) (a : CurrentOpening) (s : Result Step Refusal) (shown n : ℕ) → (stored ≡ false → shown ≡ n) → ShownFits (as_due_or_stored stored (reply_to a s)) shown n
fits-step true a (Ok (Wants e o)) shown n all = tt
fits-step false a (Ok (Wants e o)) shown n all = all refl
fits-step true a s shown n all = tt
fits-step false a s shown n all = tt

-- the replies fit what is shown, if all is shown or the changes are stored
fits-due : (h : CurrentOpening) (changes : List PlainChange) (commands : List Command) (stored : Bool) (shown n : ℕ) → (stored ≡ false → shown ≡ n) → AllByRecursion (λ r. ShownFits r shown n) (map (as_due_or_stored stored) (replies_due h changes commands))
fits-due h changes [] stored shown n all = tt
fits-due h changes (c ∷ cs) stored shown n all = (fits-step stored (amid h changes) (step_in (amid h changes) c) shown n all, fits-due h (changes_with h changes c) cs stored shown n all)

silent-fits : (stored : Bool) (a : CurrentOpening) (s : Result Step Refusal) (shown n : ℕ) → length (changes_of s) ≡ 0 → ShownFits (as_due_or_stored stored (reply_to a s)) shown n
silent-fits true a (Ok (Wants e o)) shown n nothing = absurd (omega (arith, nothing))
silent-fits false a (Ok (Wants e o)) shown n nothing = absurd (omega (arith, nothing))
silent-fits true a s shown n nothing = tt
silent-fits false a s shown n nothing = tt

-- or if there are no changes
fits-none : (h : CurrentOpening) (changes : List PlainChange) (commands : List Command) (stored : Bool) (shown n : ℕ) → length (changes_due h changes commands) ≡ length changes → AllByRecursion (λ r. ShownFits r shown n) (map (as_due_or_stored stored) (replies_due h changes commands))
fits-none h changes [] stored shown n nothing = tt
fits-none h changes (c ∷ cs) stored shown n nothing =
    let s : Result Step Refusal = step_in (amid h changes) c in
    let more = due-more h (changes ++ changes_of s) cs in
    let long : length (changes_due h (changes ++ changes_of s) cs) ≡ length (changes ++ changes_of s) + length more.0 = ap length more.1 ∙ length-append (changes ++ changes_of s) more.0 in
    let same : length (changes_due h (changes ++ changes_of s) cs) ≡ length changes = nothing in
    let first : length (changes ++ changes_of s) ≡ length changes + length (changes_of s) = length-append changes (changes_of s) in
    (silent-fits stored (amid h changes) s shown n (omega (arith, long, same, first)), fits-none h (changes ++ changes_of s) cs stored shown n (omega (arith, long, same, first)))

-- what its replies are, and what the history is after it
pub record AreGroupReplies (h : CurrentOpening) (new : WorldBook) (commands : List Command) (replies : List Reply) : Type 0 where
  pub stored : Bool
  pub none : h.pending ≡ []
  pub may : MayBeGrouped commands
  pub replies_are : replies ≡ map (as_due_or_stored stored) (replies_due h [] commands)
  pub calm : new.pending ≡ []
  pub log : log_in new ≡ flat h.acked ++ changes_due h [] commands
  pub fits : AllByRecursion (λ r. ShownFits r new.shown (length (log_in new))) replies

pub reported-by : (h : CurrentOpening) (new : WorldBook) (commands : List Command) (replies : List Reply) (t : Upshot) → LeadsGroup h new commands (Ok replies) t → AreGroupReplies h new commands replies
reported-by h new commands replies t leads = record {
  stored = k.stored;
  none = k.taken.none;
  may = k.taken.may;
  replies_are = k.reported;
  calm = calm;
  log = log;
  fits = subst (λ (rs : List Reply). AllByRecursion (λ r. ShownFits r new.shown (length (log_in new))) rs) (sym k.reported) (by k.stored refl);
} where
  es : List PlainChange
  es = changes_due h [] commands

  k : IsAccepted h commands replies
  k = accepted h commands replies t.failed leads.legal.reply

  calm : new.pending ≡ []
  calm = leads.at.pending ∙ append-nil h.pending ∙ k.taken.none

  log : log_in new ≡ flat h.acked ++ changes_due h [] commands
  log = ap (λ (gs : List (List PlainChange)). flat (new.acked ++ gs)) calm ∙ ap flat (append-nil new.acked) ∙ ap flat (leads.at.acked ∙ ap (λ (gs : List (List PlainChange)). h.acked ++ gs) k.taken.group) ∙ flat-with h.acked (changes_due h [] commands)

  by : (stored : Bool) → k.stored ≡ stored → AllByRecursion (λ r. ShownFits r new.shown (length (log_in new))) (map (as_due_or_stored k.stored) (replies_due h [] commands))
  by true is = fits-due h [] commands k.stored new.shown (length (log_in new)) (λ no. absurd (cc (no, is)))
  by false is = so (shown-due h h.shown [] h.shown commands k.taken.none k.taken.may (inl (refl, refl))) where
    so : IsShownSo h h.shown (changes_due h [] commands) (fold (λ (m : ℕ) (r : Reply). shown_by r m) h.shown (replies_due h [] commands)) → AllByRecursion (λ r. ShownFits r new.shown (length (log_in new))) (map (as_due_or_stored k.stored) (replies_due h [] commands))
    so (inl (nothing, still)) = fits-none h [] commands k.stored new.shown (length (log_in new)) (ap length nothing)
    so (inr all) =
        let as_due : replies ≡ replies_due h [] commands = k.reported ∙ ap (λ (b : Bool). map (as_due_or_stored b) (replies_due h [] commands)) is ∙ map-id (replies_due h [] commands) in
        let shown : new.shown ≡ length (log_in new) =
        leads.at.shown ∙ leads.legal.shown ∙ ap (fold (λ (m : ℕ) (r : Reply). shown_by r m) h.shown) as_due ∙ all ∙ sym (length-append (flat h.acked) (changes_due h [] commands)) ∙ ap length (sym log) in
        fits-due h [] commands k.stored new.shown (length (log_in new)) (λ no. shown)
