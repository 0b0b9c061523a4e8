-- How a line is answered, and why.
use Rattle.std.proofs.{Common.{◌≡◌, ℕ, ◌-◌, ◌<◌, ◌≤◌, ◌==◌, Bool, true, false, cond, List, [], ◌∷◌, length, Option, Some, None, Result, Ok, Err, inl, inr, refl, sym, ap, ◌∙◌, subst, arith}, lemmas.List.length-map, lemmas.Bool.{lt-ltb, Decides.nat_tests}}
use Rattle.std.specs.{Prelude.{IfOk, IfErr, IfSome, not, filter, nat_lt}, List.{slice_split, onto_first, find, list_all}}
use denote.Ref.{Bor}
use Rattle.pf_form.specs.declared.{form.fault.Kind.Kind, form.fault.WordFault.WordFault}
use Rattle.pf_form.specs.declared.form.fault.Kind.TheVariants as kinds
use Rattle.pf_form.specs.{Form.Words.{Word, is_blank, words_of, texts}, Form.Forms.{Form, making, Spells, RefusedAt, empties, begins, Read, reads, ended, ◌>>=◌, read_all}, Laws.Form.Forms.lawful, Laws.Form.Texts.{found, only, refused}}
use Rattle.pf_form.specs.Form.Readers as Readers
use Rattle.pf_rule.specs.declared.fault.Mistake.TheVariants as mistakes
use Rattle.pf_state.specs.declared.{peer.fault.OneFault.OneFault, peer.fault.OneFault.TheVariants.{Fault, Count}, peer.message.Message.Message}
use Rattle.pf_state.specs.Peer.One.{IsOne}
use Rattle.pf_state.proofs.OneMessage.{one_answer}
use Rattle.pf_core.specs.declared.reply.Refusal.{Refusal}
use Rattle.pf_core.specs.declared.reply.Refusal.TheVariants as refusals
use Rattle.pf_line.specs.declared.request.Request.{Request}
use Rattle.pf_line.specs.Grammar as grammar
use Rattle.pf_line.specs.{Grammar.{Spoken, Says, Tells, AsksStatus, AsksAnchors, decided}, Lines.{is_line_byte, is_bad_line, is_comment, no_command, is_silent, refusal_at, said, said_by, line_at, peer_command, Means, SpellsLine, IsRequest, Parses, Speaks, Refused, Answers}}
use Rattle.std.proofs.Math.Bool.{or-true}

-- ---- words that spell a line are no comment

no_hash : (bs : List ℕ) → begins grammar.line (35 ∷ bs) ≡ false
unfolding grammar.overview grammar.question grammar.history_or_question grammar.state_or_question grammar.edit_or_question grammar.command
no_hash bs = refl

some_words : empties grammar.line ≡ false
unfolding grammar.overview grammar.question grammar.history_or_question grammar.state_or_question grammar.edit_or_question grammar.command
some_words = refl

not_both : (t : Bool) → t ≡ false → t ≡ true → ⊥
not_both t e f = cc

no_comment : (w : Word) → begins grammar.line w ≡ true → is_comment w ≡ false
no_comment [] h = refl
no_comment (b ∷ bs) h = by (b == 35) refl where
  by : (t : Bool) → (b == 35) ≡ t → t ≡ false
  by false e = refl
  by true e =
      let is : b ≡ 35 = grind (arith, nat_tests) in
      absurd (not_both (begins grammar.line (35 ∷ bs)) (no_hash bs) (subst (λ (n : ℕ). begins grammar.line (n ∷ bs) ≡ true) is h))

speaks : (x : Spoken) (ws : List Word) → Spells grammar.line x ws → no_command ws ≡ false
speaks x [] h = absurd (not_both (empties grammar.line) some_words ((lawful grammar.line decided).heads x [] h))
speaks x (w ∷ ws) h = no_comment w ((lawful grammar.line decided).heads x (w ∷ ws) h)

-- ---- a line

abbrev Answer : Type 0
Answer = Result (Option Request) Refusal

pub bad_answered : (line : List ℕ) → is_bad_line line ≡ true → Answers line (Err refusals.BadLine)
unfolding line_at
bad_answered line bad = inl (rw bad refl)

pub silence_answered : (line : List ℕ) → is_bad_line line ≡ false → is_silent line ≡ true → Answers line (Ok None)
unfolding line_at
silence_answered line good silent = inl (rw (good, silent) refl)

pub answered : (line : List ℕ) (r : Answer) → is_bad_line line ≡ false → is_silent line ≡ false → Parses r (said_by (words_of line)) → Answers line r
unfolding line_at
answered line r good loud (inl h) = inl (rw (good, loud) h)
answered line r good loud (inr h) = inr (record { good = good; loud = loud }, h)

pub is_exact : (line : List ℕ) (r : Answer) → Answers line r → Parses r (line_at line)
is_exact line r (inl h) = inl h
is_exact line r (inr h) = inr h.1

pub is_bad : (line : List ℕ) (r : Answer) → Answers line r → is_bad_line line ≡ true → r ≡ Err refusals.BadLine
unfolding line_at
is_bad line r (inl h) bad = rw bad at h
is_bad line r (inr h) bad = absurd (not_both (is_bad_line line) h.0.good bad)

pub is_quiet : (line : List ℕ) (r : Answer) → Answers line r → is_bad_line line ≡ false → is_silent line ≡ true → r ≡ Ok None
unfolding line_at
is_quiet line r (inl h) good silent = rw (good, silent) at h
is_quiet line r (inr h) good silent = absurd (not_both (is_silent line) h.0.loud silent)

pub one_meaning : (at : Result (Option Spoken) Refusal) (r s : Answer) → Means at r → Means at s → r ≡ s
one_meaning (Ok None) r s h i = h ∙ sym i
one_meaning (Ok (Some (Says (Ok c)))) r s h i = h ∙ sym i
one_meaning (Ok (Some (Says (Err mistake)))) r s h i = h ∙ sym i
one_meaning (Ok (Some (Tells bytes))) r s (m, is, h) (n, js, i) = h ∙ ap peer_command (one_answer bytes m n is js) ∙ sym i
one_meaning (Ok (Some AsksStatus)) r s h i = h ∙ sym i
one_meaning (Ok (Some (AsksAnchors path))) r s h i = h ∙ sym i
one_meaning (Err e) r s h i = h ∙ sym i

abbrev IsSpelledBy : List Word → Answer → Type 0
IsSpelledBy ws r = IfOk r (λ o. IfSome o (λ c. SpellsLine c ws))

said_found : (ws : List Word) (q : Result Spoken (Kind × List Word)) (r : Answer) → read_all grammar.line ws ≡ q → Means (said (length ws) q) r → IsSpelledBy ws r
said_found ws (Ok (Says (Ok c))) r e h = rw h (Says (Ok c), found Spoken grammar.line decided ws (Says (Ok c)) e, refl)
said_found ws (Ok (Says (Err mistake))) r e h = rw h tt
said_found ws (Ok (Tells bytes)) r e (one, is, h) = rw h (by one is) where
  by : (m : Result Message OneFault) → IsOne bytes m → IsSpelledBy ws (peer_command m)
  by (Ok m) is = (Tells bytes, found Spoken grammar.line decided ws (Tells bytes) e, (Ok m, is, refl))
  by (Err (Fault f)) is = tt
  by (Err Count) is = tt
said_found ws (Ok AsksStatus) r e h = rw h (AsksStatus, found Spoken grammar.line decided ws AsksStatus e, refl)
said_found ws (Ok (AsksAnchors path)) r e h = rw h (AsksAnchors path, found Spoken grammar.line decided ws (AsksAnchors path) e, refl)
said_found ws (Err d) r e h = rw h tt

pub is_found : (line : List ℕ) (r : Answer) → Answers line r → IsSpelledBy (words_of line) r
unfolding line_at
is_found line r (inl h) = by (is_bad_line line) (is_silent line) h where
  by : (b s : Bool) → Means (cond b (Err refusals.BadLine) (cond s (Ok None) (said_by (words_of line)))) r → IsSpelledBy (words_of line) r
  by true s h = rw h tt
  by false true h = rw h tt
  by false false h = said_found (words_of line) (read_all grammar.line (words_of line)) r refl h
is_found line r (inr h) = rw h.1 tt

means_request : (x : Spoken) (r : Answer) (q : Request) → Means (Ok (Some x)) (Ok (Some q)) → Parses r (Ok (Some x)) → IsRequest r q
means_request x r q m (inl h) = inl (one_meaning (Ok (Some x)) r (Ok (Some q)) h m)
means_request x r q m (inr h) = inr h

pub is_only : (line : List ℕ) (r : Answer) → Answers line r → is_bad_line line ≡ false → (q : Request) → SpellsLine q (words_of line) → IsRequest r q
unfolding line_at
is_only line r h good q (x, spells, means) =
    let loud : is_silent line ≡ false = speaks x (words_of line) spells in
    let there : line_at line ≡ Ok (Some x) = rw (good, loud) (ap (said (length (words_of line))) (only Spoken grammar.line decided (words_of line) x spells)) in
    means_request x r q means (rw there at (is_exact line r h))

abbrev Fails : List ℕ → Answer → Type 0
Fails line r = IfErr r (λ e. Refused line e)

at_place : (line : List ℕ) (k : Kind) (at : ℕ) → Speaks line → RefusedAt Spoken grammar.line (words_of line) at k → Refused line (refusal_at k at)
at_place line kinds.BadWord at s h = (s, h)
at_place line kinds.NameTooLong at s h = (s, h)
at_place line kinds.BadProto at s h = (s, h)

said_refused : (line : List ℕ) → Speaks line → (q : Result Spoken (Kind × List Word)) (r : Answer) → read_all grammar.line (words_of line) ≡ q → Means (said (length (words_of line)) q) r → Fails line r
said_refused line s (Ok (Says (Ok c))) r e h = rw h tt
said_refused line s (Ok (Says (Err mistakes.MixedFamily))) r e h = rw h (s, found Spoken grammar.line decided (words_of line) (Says (Err mistakes.MixedFamily)) e)
said_refused line s (Ok (Says (Err mistakes.PortNeedsProto))) r e h = rw h (s, found Spoken grammar.line decided (words_of line) (Says (Err mistakes.PortNeedsProto)) e)
said_refused line s (Ok (Tells bytes)) r e (one, is, h) = rw h (by one is) where
  by : (m : Result Message OneFault) → IsOne bytes m → Fails line (peer_command m)
  by (Ok m) is = tt
  by (Err (Fault f)) is = (s, (bytes, found Spoken grammar.line decided (words_of line) (Tells bytes) e, is))
  by (Err Count) is = (s, (bytes, found Spoken grammar.line decided (words_of line) (Tells bytes) e, is))
said_refused line s (Ok AsksStatus) r e h = rw h tt
said_refused line s (Ok (AsksAnchors path)) r e h = rw h tt
said_refused line s (Err (k, rest)) r e h = rw h (at_place line k (length (words_of line) - length rest) s (refused Spoken grammar.line decided (words_of line) k rest e))

pub is_refused : (line : List ℕ) (r : Answer) → Answers line r → Fails line r
unfolding line_at
is_refused line r (inl h) = by (is_bad_line line) (is_silent line) refl refl h where
  by : (b s : Bool) → is_bad_line line ≡ b → is_silent line ≡ s → Means (cond b (Err refusals.BadLine) (cond s (Ok None) (said_by (words_of line)))) r → Fails line r
  by true s bad e h = rw h bad
  by false true good silent h = rw h tt
  by false false good loud h = said_refused line (record { good = good; loud = loud }) (read_all grammar.line (words_of line)) r refl h
is_refused line r (inr h) = rw h.1 h.0

-- ---- what words are read as, and so say

pub made_ok : {A : Type 0} (make : A → Spoken) (f : Form A) (ws : List Word) (x : A) → read_all f ws ≡ Ok x → read_all (making make f) ws ≡ Ok (make x)
made_ok make f ws x e = by (reads f ws) e where
  by : (r : Read _) → (r >>= ended) ≡ Ok x → (r >>= (λ y. Ok (make y.0, y.1)) >>= ended) ≡ Ok (make x)
  by (Ok (y, [])) e = ap (λ z. Ok (make z)) (let is : y ≡ x = cc in is)
  by (Ok (y, w ∷ ws)) e = absurd cc
  by (Err d) e = absurd cc

pub made_stopped : {A : Type 0} (make : A → Spoken) (f : Form A) (ws : List Word) (s : WordFault) (count : ℕ) → Readers.Fails s (read_all f ws) → said count (read_all (making make f) ws) ≡ Err (refusal_at s.kind (count - s.left))
made_stopped make f ws s count h = by (reads f ws) h where
  by : (r : Read _) → Readers.Fails s (r >>= ended) → said count (r >>= (λ y. Ok (make y.0, y.1)) >>= ended) ≡ Err (refusal_at s.kind (count - s.left))
  by (Ok (y, [])) h = absurd h
  by (Ok (y, w ∷ ws)) h = rw (h.0, h.1) refl
  by (Err d) h = rw (h.0, h.1) refl

-- the words of a line, in a slice of that length
pub said_words : (items seen : List (Bor Word)) (ws : List Word) (n : ℕ) (r : Answer) → texts items ≡ ws → seen ≡ items → n ≡ length seen → Parses r (said n (read_all grammar.line (texts seen))) → Parses r (said_by ws)
said_words items seen ws n r e same l h =
    let count : n ≡ length ws = l ∙ ap length same ∙ sym (length-map items (λ w. w.now)) ∙ ap length e in
    let all : texts seen ≡ ws = ap texts same ∙ e in
    subst (λ (m : ℕ). Parses r (said m (read_all grammar.line ws))) count (subst (λ (vs : List Word). Parses r (said n (read_all grammar.line vs))) all h)

-- ---- a line that was cut

pub not_bad : (line : List ℕ) → length line ≤ 4096 → list_all is_line_byte line ≡ true → is_bad_line line ≡ false
not_bad line short bytes =
    let few : nat_lt 4096 (length line) ≡ false = grind (arith, nat_tests, short) in
    rw (few, bytes) refl

pub bad_bytes : (line : List ℕ) → list_all is_line_byte line ≡ false → Answers line (Err refusals.BadLine)
bad_bytes line bytes = bad_answered line (rw bytes (or-true (nat_lt 4096 (length line))))

pub too_long : (line : List ℕ) → 4096 < length line → Answers line (Err refusals.BadLine)
too_long line long = let t : nat_lt 4096 (length line) ≡ true = lt-ltb 4096 (length line) long in bad_answered line (rw t refl)

-- by its words, in a slice of that length
pub said_cut : (line : List ℕ) (items seen : List (Bor Word)) (n : ℕ) (r : Answer) → is_silent line ≡ false → length line ≤ 4096 → texts items ≡ words_of line → list_all is_line_byte line ≡ true → seen ≡ items → n ≡ length seen →
    Parses r (said n (read_all grammar.line (texts seen))) → Answers line r
said_cut line items seen n r loud short e bytes same l h = answered line r (not_bad line short bytes) loud (said_words items seen (words_of line) n r e same l h)

-- ---- a line is silent by its first byte that is no blank

-- whether there is no such byte, or it begins a comment
abbrev pub quiet : Option ℕ → Bool
quiet None = true
quiet (Some b) = b == 35

abbrev words_in : List Word → List Word
words_in parts = filter (λ w. nat_lt 0 (length w)) parts

-- the first part begins with this byte
begun : (b : ℕ) (parts : List Word) → no_command (words_in (onto_first b parts)) ≡ (b == 35)
begun b [] = refl
begun b (part ∷ parts) = let some : nat_lt 0 (length (b ∷ part)) ≡ true = grind arith in rw some refl

pub silent_by_find : (line : List ℕ) → is_silent line ≡ quiet (find (λ b. not (is_blank b)) line)
silent_by_find [] = refl
silent_by_find (b ∷ bs) = by (is_blank b) refl (silent_by_find bs) where
  by : (t : Bool) → is_blank b ≡ t → is_silent bs ≡ quiet (find (λ b. not (is_blank b)) bs) → is_silent (b ∷ bs) ≡ quiet (find (λ b. not (is_blank b)) (b ∷ bs))
  by true e rest = rw e rest
  by false e rest = rw e (begun b (slice_split is_blank bs))
