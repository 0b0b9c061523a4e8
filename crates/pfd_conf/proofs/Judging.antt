-- Lines and files that are judged one after another.
use Rattle.std.proofs.Common.{◌≡◌, ℕ, ◌+◌, ◌<◌, ◌≤◌, List, [], ◌∷◌, ◌++◌, length, get_or, take, drop, Option, Result, Ok, Err, refl, sym, ap, ◌∙◌, subst, arith}
use Rattle.std.proofs.lemmas.List.{drop_all, length-map, get_or-map}
use Rattle.std.specs.Option.{option_to_list}
use denote.Ref.{Bor}
use Rattle.pf_form.specs.Form.Words.{Word, texts}
use Rattle.pf_conf.proofs.Steps.{drop_item, take_item}
use Rattle.pfd_conf.specs.declared.{fault.Fault.Fault, firewall.Firewall.Firewall, outcomes.Outcome.Outcome, outcomes.Cases.Cases, outcomes.Tried.Tried}
use Rattle.pfd_conf.specs.declared.fault.Fault.TheVariants as faults
use Rattle.pfd_conf.specs.Outcomes.{Gives, outcome_at, outcomes_from, IsTried, AreTried}

line_at : (lines : List (Bor Word)) (i : ℕ) (d : Bor Word) → i < length lines →
    drop i (texts lines) ≡ (get_or lines i d).now ∷ drop (i + 1) (texts lines)
line_at lines i d within =
    let text : Word = (get_or lines i d).now in
    let there : i < length (texts lines) = omega (arith, length-map lines (λ (w : Bor Word). w.now)) in
    drop_item (texts lines) i text there (sym (get_or-map (λ (w : Bor Word). w.now) lines i d text within))

-- the first of the lines that are left is judged
pub judged_on : (f : Firewall) (file : List ℕ) (lines : List (Bor Word)) (i : ℕ) (d : Bor Word) (known now : List Outcome)
    (o : Option Outcome) (whole : Result (List Outcome) Fault) → whole ≡ outcomes_from f file known (i + 1) (drop i (texts lines)) →
    i < length lines → outcome_at f file (i + 1) (get_or lines i d).now ≡ Ok o → now ≡ known ++ option_to_list o →
    whole ≡ outcomes_from f file now (i + 1 + 1) (drop (i + 1) (texts lines))
unfolding outcomes_from
judged_on f file lines i d known now o whole so_far within is more =
    so_far ∙ ap (λ (ls : List Word). outcomes_from f file known (i + 1) ls) (line_at lines i d within) ∙ rw is refl
    ∙ ap (λ (os : List Outcome). outcomes_from f file os (i + 1 + 1) (drop (i + 1) (texts lines))) (sym more)

pub judged_stops : (f : Firewall) (file : List ℕ) (lines : List (Bor Word)) (i : ℕ) (d : Bor Word) (known : List Outcome) (e : Fault)
    (whole : Result (List Outcome) Fault) → whole ≡ outcomes_from f file known (i + 1) (drop i (texts lines)) → i < length lines →
    outcome_at f file (i + 1) (get_or lines i d).now ≡ Err e → whole ≡ Err e
unfolding outcomes_from
judged_stops f file lines i d known e whole so_far within is =
    so_far ∙ ap (λ (ls : List Word). outcomes_from f file known (i + 1) ls) (line_at lines i d within) ∙ rw is refl

pub judged_all : (f : Firewall) (file : List ℕ) (lines : List (Bor Word)) (i : ℕ) (known : List Outcome)
    (whole : Result (List Outcome) Fault) → whole ≡ outcomes_from f file known (i + 1) (drop i (texts lines)) → length lines ≤ i →
    whole ≡ Ok known
unfolding outcomes_from
judged_all f file lines i known whole so_far past =
    let none : length (texts lines) ≤ i = omega (arith, length-map lines (λ (w : Bor Word). w.now)) in
    so_far ∙ ap (λ (ls : List Word). outcomes_from f file known (i + 1) ls) (drop_all i (texts lines) none)

-- where one stops, all does
pub gives_on : {A B : Type 0} → (e : Fault) (p : Result A Fault) (q : Result B Fault) → (p ≡ Err e → q ≡ Err e) → Gives {A = A} (Err e) p →
    Gives {A = B} (Err e) q
gives_on faults.Memory p q on g = tt
gives_on (faults.Conf f) p q on g = on g
gives_on (faults.Unread name) p q on g = on g
gives_on (faults.LongCases name) p q on g = on g
gives_on (faults.Interface text) p q on g = on g
gives_on (faults.Case file line mistake) p q on g = on g
gives_on (faults.Packet mistake) p q on g = on g
gives_on (faults.Anchor text) p q on g = on g
gives_on (faults.Unwritten name) p q on g = on g
gives_on faults.Output p q on g = on g

-- ---- files

pushed : (f : Firewall) (cs : List Cases) (c : Cases) (ts : List Tried) (t : Tried) → AreTried f cs ts → IsTried f c t →
    AreTried f (cs ++ c ∷ []) (ts ++ t ∷ [])
pushed f [] c [] t so_far is = (is, tt)
pushed f (b ∷ bs) c (s ∷ ss) t so_far is = (so_far.0, pushed f bs c ss t so_far.1 is)
pushed f [] c (s ∷ ss) t so_far is = absurd so_far
pushed f (b ∷ bs) c [] t so_far is = absurd so_far

pub one_more_tried : (f : Firewall) (cs : List Cases) (i : ℕ) (c : Cases) (ts now : List Tried) (t : Tried) → AreTried f (take i cs) ts →
    i < length cs → c ≡ get_or cs i c → IsTried f c t → now ≡ ts ++ t ∷ [] → AreTried f (take (i + 1) cs) now
one_more_tried f cs i c ts now t so_far within here is more =
    subst (AreTried f (take (i + 1) cs)) (sym more)
    (subst (λ (bs : List Cases). AreTried f bs (ts ++ t ∷ [])) (sym (take_item cs i c within here)) (pushed f (take i cs) c ts t so_far is))
