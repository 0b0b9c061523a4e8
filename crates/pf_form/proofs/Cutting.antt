-- The words of a line are what is between its blanks, and there are no others.
use Rattle.std.proofs.{Common.{◌≡◌, ℕ, ◌<◌, Bool, true, false, List, [], ◌∷◌, ◌++◌, length, refl, sym, ap, subst, ◌∙◌, append-nil, append_assoc, arith}, lemmas.Bool.lt-ltb, lemmas.List.Elements.{All-nil, All-cons, All-head, All-tail}, lemmas.List.Splits.{slice_split_none, slice_split-cons_yes, slice_split_at}}
use Rattle.std.specs.{Prelude.{nat_lt, filter, All}, List.slice_split}
use Rattle.pf_form.specs.{Form.Words.{Word, is_blank, words_of}, Form.Cuts.{AreBlanks, IsWord, EndsWord, IsFirstWord, IsCut}}

abbrev Blank : ℕ → Type 0
Blank b = is_blank b ≡ true

abbrev Inked : ℕ → Type 0
Inked b = is_blank b ≡ false

-- ---- no others

abbrev some : Word → Bool
some w = nat_lt 0 (length w)

past_blank : (b : ℕ) (line : List ℕ) → is_blank b ≡ true → words_of (b ∷ line) ≡ words_of line
past_blank b line h = ap (filter some) (slice_split-cons_yes is_blank b line h)

past_blanks : (blanks line : List ℕ) → AreBlanks blanks → words_of (blanks ++ line) ≡ words_of line
past_blanks [] line h = refl
past_blanks (b ∷ bs) line h = past_blank b (bs ++ line) (All-head Blank b bs h) ∙ past_blanks bs line (All-tail Blank b bs h)

kept : (w : Word) (parts : List Word) → 0 < length w → filter some (w ∷ parts) ≡ w ∷ filter some parts
kept w parts h = rw (lt-ltb 0 (length w) h) refl

past_word : (w : Word) (following : List ℕ) → IsWord w → EndsWord following → words_of (w ++ following) ≡ w ∷ words_of following
past_word w [] is e = ap words_of (append-nil w) ∙ ap (filter some) (slice_split_none is_blank w is.1) ∙ kept w [] is.0
past_word w (b ∷ bs) is e =
    ap (filter some) (slice_split_at is_blank w b bs is.1 e) ∙ kept w (slice_split is_blank bs) is.0 ∙ ap (λ (ws : List Word). w ∷ ws) (sym (past_blank b bs e))

pub cut_only : (line : List ℕ) (ws : List Word) → IsCut line ws → words_of line ≡ ws
cut_only line [] h = ap words_of (sym (append-nil line)) ∙ past_blanks line [] h
cut_only line (w ∷ ws) h =
    let first : IsFirstWord line w h.0 = h.1 in
    ap words_of first.all ∙ ap words_of (append_assoc first.blanks w h.0) ∙ past_blanks first.blanks (w ++ h.0) first.blank ∙ past_word w h.0 first.word first.ends ∙ ap (λ (vs : List Word). w ∷ vs) (cut_only h.0 ws h.2)

-- ---- a line has words

-- what comes before the first blank, and the words after it
record Parts (line : List ℕ) : Type 0 where
  pub front : List ℕ
  pub following : List ℕ
  pub words : List Word
  pub all : line ≡ front ++ following
  pub word : All Inked front
  pub ends : EndsWord following
  pub cut : IsCut following words

abbrev Cut : List ℕ → Type 0
Cut line = (ws : List Word) × IsCut line ws

-- one blank before
blank_before : (b : ℕ) (line : List ℕ) → is_blank b ≡ true → Cut line → Cut (b ∷ line)
blank_before b line h ([], c) = ([], All-cons Blank b line h c)
blank_before b line h (w ∷ ws, c) =
    let first : IsFirstWord line w c.0 = c.1 in
    (w ∷ ws, (c.0, record { blanks = b ∷ first.blanks; all = ap (λ (l : List ℕ). b ∷ l) first.all; blank = All-cons Blank b first.blanks h first.blank; word = first.word; ends = first.ends }, c.2))

cut_of : (line front following : List ℕ) (ws : List Word) → line ≡ front ++ following → All Inked front → EndsWord following → IsCut following ws → Cut line
cut_of line [] following ws e h ends c = (ws, subst (λ (l : List ℕ). IsCut l ws) (sym e) c)
cut_of line (b ∷ bs) following ws e h ends c = ((b ∷ bs) ∷ ws, (following, record { blanks = []; all = e; blank = All-nil Blank; word = (omega arith, h); ends = ends }, c))

cut_at : (line : List ℕ) → Parts line → Cut line
cut_at line p = cut_of line p.front p.following p.words p.all p.word p.ends p.cut

parts_by : (t : Bool) (b : ℕ) (line : List ℕ) → is_blank b ≡ t → Parts line → Parts (b ∷ line)
parts_by true b line h p =
    let c : Cut (b ∷ line) = blank_before b line h (cut_at line p) in
    record { front = []; following = b ∷ line; words = c.0; all = refl; word = All-nil Inked; ends = h; cut = c.1 }
parts_by false b line h p = record { front = b ∷ p.front; following = p.following; words = p.words; all = ap (λ (l : List ℕ). b ∷ l) p.all; word = All-cons Inked b p.front h p.word; ends = p.ends; cut = p.cut }

parts : (line : List ℕ) → Parts line
parts [] = record { front = []; following = []; words = []; all = refl; word = All-nil Inked; ends = tt; cut = All-nil Blank }
parts (b ∷ line) = parts_by (is_blank b) b line refl (parts line)

pub line_is_cut : (line : List ℕ) → IsCut line (words_of line)
line_is_cut line =
    let c : Cut line = cut_at line (parts line) in
    subst (IsCut line) (sym (cut_only line c.0 c.1)) c.1

each_of : (line : List ℕ) (ws : List Word) → IsCut line ws → All IsWord ws
each_of line [] c = All-nil IsWord
each_of line (w ∷ ws) c = let first : IsFirstWord line w c.0 = c.1 in All-cons IsWord w ws first.word (each_of c.0 ws c.2)

pub each_is_word : (line : List ℕ) → All IsWord (words_of line)
each_is_word line = each_of line (words_of line) (line_is_cut line)
