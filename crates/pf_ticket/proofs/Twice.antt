-- The entry that is found is the first of a ruleset named before it; and numbered tickets are given once each.
use Rattle.std.proofs.{Common.{◌≡◌, ℕ, suc, zero, ◌+◌, ◌<◌, ◌==◌, Bool, false, cond, ◌||◌, List, [], ◌∷◌, ◌++◌, length, map, refl, sym, ap, subst, ◌∙◌, append-nil, append_assoc, Option, Some, None, arith, get_or, take, drop}, Math.Seq.{take-suc, drop-cons}, lemmas.Bool.{eqb-true, or_parts, or_from, and_right, false_from_ne_true, cond_both}, lemmas.List.{get_or-map, length-map, length-take-le, take-map}, lemmas.List.Folds.list_any-append}
use Rattle.std.specs.List.{list_any}
use Rattle.pf_ticket.specs.{declared.{entry.RulesetTicket.RulesetTicket, name.RulesetName.RulesetName, ticket.Ticket.Ticket}, Laws.Tickets.{IsFirstAgain, TwiceIsFirstAgain, OtherwiseOnce, GivesEachOnce}, Names.{same_name, is_named, names_of, ticket, same_ticket, tickets_from, IsDistinct}, Laws.Names.names_alike, Replies.twice_after}

-- ---- one more name

-- whether one of these names the ruleset
any-of : {A : Type 0} (name_of : A → RulesetName) (xs : List A) (q : RulesetName) → is_named (map name_of xs) q ≡ list_any (λ x. same_name (name_of x) q) xs
any-of name_of [] q = refl
any-of name_of (x ∷ xs) q = ap (λ (b : Bool). same_name (name_of x) q || b) (any-of name_of xs q)

pub twice-on : (ns : List RulesetName) (p : ℕ) (n : RulesetName) (b : Bool) → p < length ns → n ≡ get_or ns p n → is_named (take p ns) n ≡ b →
    twice_after (take p ns) (drop p ns) ≡ cond b (Some p) (twice_after (take (p + 1) ns) (drop (p + 1) ns))
twice-on ns p n b l h k =
    let next : suc p ≡ p + 1 = omega arith in
    let rest : List RulesetName = drop (p + 1) ns in
    let here : drop p ns ≡ n ∷ rest = drop-cons ns p n l ∙ ap (λ (x : RulesetName). x ∷ drop (suc p) ns) (sym h) ∙ ap (λ (m : ℕ). n ∷ drop m ns) next in
    let more : take p ns ++ n ∷ [] ≡ take (p + 1) ns = ap (λ (x : RulesetName). take p ns ++ x ∷ []) h ∙ sym (take-suc ns p n l) ∙ ap (λ (m : ℕ). take m ns) next in
    let long : length (take p ns) ≡ p = length-take-le p ns (omega (arith, l)) in
    ap (λ (xs : List RulesetName). twice_after (take p ns) xs) here
    ∙ ap (λ (x : Bool). cond x (Some (length (take p ns))) (twice_after (take p ns ++ n ∷ []) rest)) k
    ∙ ap (λ (m : ℕ). cond b (Some m) (twice_after (take p ns ++ n ∷ []) rest)) long
    ∙ ap (λ (ms : List RulesetName). cond b (Some p) (twice_after ms rest)) more

pub twice-at : (es : List RulesetTicket) (p : ℕ) (e : RulesetTicket) (b : Bool) → p < length es → e ≡ get_or es p e → list_any (λ x. same_name x.name e.name) (take p es) ≡ b →
    twice_after (take p (names_of es)) (drop p (names_of es)) ≡ cond b (Some p) (twice_after (take (p + 1) (names_of es)) (drop (p + 1) (names_of es)))
twice-at es p e b l h k =
    let name : RulesetTicket → RulesetName = λ x. x.name in
    let long : length (names_of es) ≡ length es = length-map es name in
    twice-on (names_of es) p e.name b (omega (arith, l, long)) (ap name h ∙ sym (get_or-map name es p e e.name l))
    (ap (λ (ns : List RulesetName). is_named ns e.name) (take-map name p es) ∙ any-of name (take p es) e.name ∙ k)

-- ---- what is found

distinct-added : (ns : List RulesetName) (p : RulesetName) → IsDistinct ns → is_named ns p ≡ false → IsDistinct (ns ++ p ∷ [])
distinct-added [] p d h = (refl, tt)
distinct-added (n ∷ ns) p d h =
    let other : (same_name n p ≡ false) × (is_named ns p ≡ false) = or_parts (same_name n p) (is_named ns p) h in
    (list_any-append (λ m. same_name m n) ns (p ∷ []) ∙ or_from (is_named ns n) (is_named (p ∷ []) n) d.0 (or_from (same_name p n) false (names_alike.symm p n ∙ other.0) refl), distinct-added ns p d.1 other.1)

-- the place of the first that is named again, or none is
abbrev IsFirstTwice : List RulesetName → Option ℕ → Type 0
IsFirstTwice names None = IsDistinct names
IsFirstTwice names (Some place) = IsFirstAgain names place

found : (front ns : List RulesetName) → IsDistinct front → IsFirstTwice (front ++ ns) (twice_after front ns)
found front [] d = subst IsDistinct (sym (append-nil front)) d
found front (n ∷ ns) d =
    cond_both (is_named front n) (Some (length front)) (twice_after (front ++ n ∷ []) ns) (IsFirstTwice (front ++ n ∷ ns))
    (λ again. record { before = front; name = n; following = ns; all = refl; placed = refl; again = again; once = d })
    (λ new. subst (λ (l : List RulesetName). IsFirstTwice l (twice_after (front ++ n ∷ []) ns)) (append_assoc front (n ∷ []) ns) (found (front ++ n ∷ []) ns (distinct-added front n d new)))

pub twice_is_first_again : TwiceIsFirstAgain
twice_is_first_again entries place h = subst (IsFirstTwice (names_of entries)) h (found [] (names_of entries) tt)

pub otherwise_once : OtherwiseOnce
otherwise_once entries h = subst (IsFirstTwice (names_of entries)) h (found [] (names_of entries) tt)

-- ---- numbered tickets are given once

later-are-others : (epoch count n : ℕ) (t : Ticket) → t.count < count → list_any (λ u. same_ticket u t) (tickets_from epoch count n) ≡ false
later-are-others epoch count zero t h = refl
later-are-others epoch count (suc n) t h =
    let other : same_ticket (ticket epoch count) t ≡ false = and_right (epoch == t.epoch) (count == t.count) (false_from_ne_true (count == t.count) (λ e. let same : count ≡ t.count = eqb-true count t.count e in omega (arith, same, h))) in
    ap (λ (b : Bool). b || list_any (λ u. same_ticket u t) (tickets_from epoch (count + 1) n)) other ∙ later-are-others epoch (count + 1) n t (omega (arith, h))

pub gives_each_once : GivesEachOnce
gives_each_once epoch count zero = tt
gives_each_once epoch count (suc n) = (later-are-others epoch (count + 1) n (ticket epoch count) (omega arith), gives_each_once epoch (count + 1) n)
