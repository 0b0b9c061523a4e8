-- Where a group of commands leads a Book.
use Rattle.std.proofs.Common.{◌≡◌, ℕ, ◌+◌, Bool, true, false, ◌⊎◌, inr, List, [], ◌∷◌, ◌++◌, length, refl, sym, ap, ◌∙◌, subst, append-nil, Result, Ok, Err, arith}
use Rattle.std.proofs.lemmas.List.{length-append}
use Rattle.std.specs.Prelude.{map, fold}
use Rattle.pf_core.specs.{declared.{command.Command.Command, reply.Refusal.Refusal, reply.Refusal.TheVariants.Fault, reply.Reply.Reply, step.Step.Step}, Durable.Changes.{PlainDurable, PlainChange}, WorldBooks.{WorldBook, IsAt, LeadsGroup}, Cores.PlainCore, Worlds.{CurrentOpening, flat, log_of, step_in, reply_to, changes_of, grouped, amid, changes_with, changes_due, replies_due, group_all, upshot, shown_by, as_stored, LegalReplies}}
use Rattle.pf_core.proofs.Courses.{log-amid, IsOfGroup, reported, wanted, refused, step-amid, MayBeGrouped, IsTaken, as_due_or_stored, course, unkept-group}

-- ---- what the replies show

-- nothing yet, or all so far
abbrev pub IsShownSo : CurrentOpening → ℕ → List PlainChange → ℕ → Type 0
IsShownSo h first changes n = ((changes ≡ []) × (n ≡ first)) ⊎ (n ≡ length (flat h.acked) + length changes)

shown-still : (h : CurrentOpening) (first : ℕ) (changes : List PlainChange) (n : ℕ) → IsShownSo h first changes n → IsShownSo h first (changes ++ []) n
shown-still h first changes n old = subst (λ (es : List PlainChange). IsShownSo h first es n) (sym (append-nil changes)) old

shown-step : (h : CurrentOpening) (first : ℕ) (changes : List PlainChange) (n : ℕ) (c : Command) (s : Result Step Refusal) → h.pending ≡ [] → IsOfGroup c s → IsShownSo h first changes n → IsShownSo h first (changes ++ changes_of s) (shown_by (reply_to (amid h changes) s) n)
shown-step h first changes n _ _ none (reported c a unmentioned silent) old = subst (λ (m : ℕ). IsShownSo h first (changes ++ []) m) (sym (silent.shown n)) (shown-still h first changes n old)
shown-step h first changes n _ _ none (wanted c e o mentions) old =
    let log : length (log_of (amid h changes)) ≡ length (flat h.acked) + length changes = log-amid h changes none in
    let long : length (changes ++ e ∷ []) ≡ length changes + 1 = length-append changes (e ∷ []) in
    inr (omega (arith, log, long))
shown-step h first changes n _ _ none (refused c e) old = shown-still h first changes n old

-- the replies that are due show all of a group's changes, if it has any
pub shown-due : (h : CurrentOpening) (first : ℕ) (changes : List PlainChange) (n : ℕ) (commands : List Command) → h.pending ≡ [] → MayBeGrouped commands → IsShownSo h first changes n
    → IsShownSo h first (changes_due h changes commands) (fold (λ (m : ℕ) (r : Reply). shown_by r m) n (replies_due h changes commands))
shown-due h first changes n [] none may old = old
shown-due h first changes n (c ∷ cs) none may old =
    let s : Result Step Refusal = step_in (amid h changes) c in
    shown-due h first (changes_with h changes c) (shown_by (reply_to (amid h changes) s) n) cs none may.1 (shown-step h first changes n c s none (step-amid (amid h changes) c may.0) old)

stored-step : (a : CurrentOpening) (c : Command) (s : Result Step Refusal) (n : ℕ) → IsOfGroup c s → shown_by (as_stored (reply_to a s)) n ≡ n
stored-step a _ _ n (reported c x unmentioned silent) = silent.shown n
stored-step a _ _ n (wanted c e o mentions) = refl
stored-step a _ _ n (refused c e) = refl

-- the same replies stored show nothing
pub shown-stored : (h : CurrentOpening) (changes : List PlainChange) (n : ℕ) (commands : List Command) → MayBeGrouped commands → fold (λ (m : ℕ) (r : Reply). shown_by r m) n (map as_stored (replies_due h changes commands)) ≡ n
shown-stored h changes n [] may = refl
shown-stored h changes n (c ∷ cs) may =
    let s : Result Step Refusal = step_in (amid h changes) c in
    ap (λ (m : ℕ). fold (λ (k : ℕ) (r : Reply). shown_by r k) m (map as_stored (replies_due h (changes_with h changes c) cs))) (stored-step (amid h changes) c s n (step-amid (amid h changes) c may.0))
    ∙ shown-stored h (changes_with h changes c) n cs may.1

-- ---- where it leads

-- a group that is refused whole leads to nothing else, if the device didn't fail
pub refused-group-leads : (h : CurrentOpening) (b new : WorldBook) (commands : List Command) (e : Refusal) → LegalReplies h commands (Err e) false → new ≡ b → IsAt h b → LeadsGroup h new commands (Err e) (upshot new.shown false)
refused-group-leads h b new commands e legal same at =
    subst (λ (p : WorldBook). LeadsGroup h p commands (Err e) (upshot p.shown false)) (sym same) (record {
      legal = record { reply = legal; shown = at.shown };
      at = record {
        base = at.base;
        tickets = at.tickets;
        acked = at.acked ∙ sym (append-nil h.acked);
        pending = at.pending ∙ sym (append-nil h.pending) ∙ ap (λ (gs : List (List PlainChange)). h.pending ++ gs) (sym (unkept-group h commands e legal));
        shown = refl;
        setting = at.setting;
      };
    })

-- a group that the device failed to keep is left unacknowledged
pub fault-group-leads : (h : CurrentOpening) (b : WorldBook) (commands : List Command) → LegalReplies h commands (Err Fault) true → IsAt h b
    → LeadsGroup h (record b { pending = b.pending ++ group_all h commands }) commands (Err Fault) (upshot b.shown true)
fault-group-leads h b commands legal at = record {
  legal = record { reply = legal; shown = at.shown };
  at = record {
    base = at.base;
    tickets = at.tickets;
    acked = at.acked ∙ sym (append-nil h.acked);
    pending = ap (λ (gs : List (List PlainChange)). gs ++ group_all h commands) at.pending;
    shown = refl;
    setting = at.setting;
  };
}

-- one that was kept is acknowledged; its changes are shown, or stored
pub kept-group-leads : (h : CurrentOpening) (b : WorldBook) (w : PlainCore) (copy : PlainDurable) (n : ℕ) (stored : Bool) (commands : List Command) → (taken : IsTaken h commands)
    → LegalReplies h commands (Ok (map (as_due_or_stored stored) (replies_due h [] commands))) false
    → w.tickets ≡ (amid h (changes_due h [] commands)).tickets
    → n ≡ fold (λ (m : ℕ) (r : Reply). shown_by r m) h.shown (map (as_due_or_stored stored) (replies_due h [] commands))
    → IsAt h b
    → LeadsGroup h (record b { whole = w; acked = b.acked ++ grouped (changes_due h [] commands); shown = n; published = copy }) commands (Ok (map (as_due_or_stored stored) (replies_due h [] commands))) (upshot n false)
kept-group-leads h b w copy n stored commands taken legal moved shown at = record {
  legal = record { reply = legal; shown = shown };
  at = record {
    base = at.base;
    tickets = moved ∙ sym (course h [] commands stored taken.none taken.may).mentions;
    acked = ap (λ (gs : List (List PlainChange)). gs ++ grouped (changes_due h [] commands)) at.acked ∙ ap (λ (gs : List (List PlainChange)). h.acked ++ gs) (sym taken.group);
    pending = at.pending ∙ sym (append-nil h.pending);
    shown = refl;
    setting = at.setting;
  };
}
