-- A text that is cut into lines as it comes.
use Rattle.std.proofs.{Common.{◌≡◌, ℕ, List, [], ◌∷◌, ◌++◌, inl, inr, refl, sym, ap, ◌∙◌, append_assoc, append-nil}, lemmas.Bool.{cases_eq, ne_eqb}, lemmas.Grind.flat_map-append, lemmas.List.same_from_push, lemmas.List.Elements.{All-nil, All-push, All-head, All-tail}, lemmas.List.Splits.{slice_split_none, slice_split_at}}
use Rattle.std.specs.{Prelude.{◌==◌, ◌≢◌, All}, List.slice_split}
use Rattle.pf_session.specs.{LineEngine.Lines.{newline, IsLine, ended, IsCut}, Laws.Lines.{IsAlwaysCut, CutsOneWay}}

-- ---- a byte more, and then any text

pub cut-nothing : IsCut [] [] []
cut-nothing = record { joined = refl; whole = All-nil IsLine; unended = All-nil (λ b. b ≢ newline) }

pub cut-newline : {text : List ℕ} {lines : List (List ℕ)} {rest : List ℕ} → IsCut text lines rest → IsCut (text ++ newline ∷ []) (lines ++ rest ∷ []) []
cut-newline {text = text} {lines = lines} {rest = rest} cut = record {
  joined = append-nil (ended (lines ++ rest ∷ [])) ∙ flat_map-append (λ line. line ++ newline ∷ []) lines (rest ∷ [])
      ∙ ap (λ (l : List ℕ). ended lines ++ l) (append-nil (rest ++ newline ∷ [])) ∙ sym (append_assoc (ended lines) rest (newline ∷ [])) ∙ ap (λ (l : List ℕ). l ++ newline ∷ []) cut.joined;
  whole = All-push IsLine lines rest cut.whole cut.unended;
  unended = All-nil (λ b. b ≢ newline);
}

pub cut-byte : {text : List ℕ} {lines : List (List ℕ)} {rest : List ℕ} (b : ℕ) → b ≢ newline → IsCut text lines rest → IsCut (text ++ b ∷ []) lines (rest ++ b ∷ [])
cut-byte {lines = lines} {rest = rest} b other cut = record {
  joined = sym (append_assoc (ended lines) rest (b ∷ [])) ∙ ap (λ (l : List ℕ). l ++ b ∷ []) cut.joined;
  whole = cut.whole;
  unended = All-push (λ b. b ≢ newline) rest b cut.unended other;
}

pub cut-more : (more : List ℕ) {text : List ℕ} {lines : List (List ℕ)} {rest : List ℕ} → IsCut text lines rest → (others : List (List ℕ)) × (rest' : List ℕ) × IsCut (text ++ more) (lines ++ others) rest'
cut-more [] {rest = rest} cut = ([], rest, simp append-nil cut)
cut-more (b ∷ more) {text = text} {lines = lines} {rest = rest} cut = elim (cases_eq b newline) [
  | inl is ↦ let (others, rest', all) = cut-more more (cut-newline cut) in (rest ∷ others, rest', rw is (simp append_assoc at all))
  | inr other ↦ let (others, rest', all) = cut-more more (cut-byte b other cut) in (others, rest', simp append_assoc at all)
]

-- ---- in one way

parts : (lines : List (List ℕ)) (rest : List ℕ) → All IsLine lines → IsLine rest → slice_split (λ b. b == newline) (ended lines ++ rest) ≡ lines ++ rest ∷ []
parts [] rest whole unended = slice_split_none (λ b. b == newline) rest (λ k d low. ne_eqb _ newline (unended k d low))
parts (line ∷ lines) rest whole unended =
    let first : ended (line ∷ lines) ++ rest ≡ line ++ newline ∷ (ended lines ++ rest) = simp append_assoc in
    ap (slice_split (λ b. b == newline)) first ∙ slice_split_at (λ b. b == newline) line newline (ended lines ++ rest) (λ k d low. ne_eqb _ newline (All-head IsLine line lines whole k d low)) refl
    ∙ ap (λ (ls : List (List ℕ)). line ∷ ls) (parts lines rest (All-tail IsLine line lines whole) unended)

pub is-always-cut : IsAlwaysCut
is-always-cut text = cut-more text cut-nothing

pub cuts-one-way : CutsOneWay
cuts-one-way text lines others rest more cut cut' =
    same_from_push lines others rest more
    (sym (parts lines rest cut.whole cut.unended) ∙ ap (slice_split (λ b. b == newline)) (cut.joined ∙ sym cut'.joined) ∙ parts others more cut'.whole cut'.unended)
