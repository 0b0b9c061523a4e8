-- Lines that were answered one by one, where a line may be left.
use Rattle.std.proofs.Common.{◌≡◌, ℕ, List, [], ◌∷◌, ◌++◌, Option, refl, subst, sym}
use Rattle.std.specs.{Prelude.{◌≢◌}, Io.KnownBytes.{Appends, Keeps}}
use Rattle.pf_addr.specs.Writing.{WritesFront}
use Rattle.pf_session.specs.{LineEngine.Chains.Chain, LineEngine.Lines.{newline, seen}, LineEngine.Pieces.{Failed, SessionSoFar}}
use Rattle.pf_session.proofs.{AnsweredLines.{TakesSeen, line-answered, line-cut_off, still-so_far}, Cutting.{cut-newline, cut-byte, cut-more}}

module _ {S : Type 0} (Takes : List ℕ → S → S → List ℕ → Type 0) where
  -- a byte more of a line
  pub byte-onto : {text kept kept' : List ℕ} {a b : S} {h i : Option (List ℕ)} (byte : ℕ) → byte ≢ newline → ((rest : List ℕ) → kept ≡ seen rest → kept' ≡ seen (rest ++ byte ∷ [])) → SessionSoFar (Chain Takes) text kept a b h i → SessionSoFar (Chain Takes) (text ++ byte ∷ []) kept' a b h i
  byte-onto byte other more s = record { lines = s.lines; rest = s.rest ++ byte ∷ []; cut = cut-byte byte other s.cut; kept_is = more s.rest s.kept_is; answered = s.answered }

  -- a line's end, and its reply
  pub line-onto : TakesSeen Takes → {text kept : List ℕ} {a b : S} (c : S) {h i : Option (List ℕ)} (j : Option (List ℕ)) (reported : List ℕ) → Takes kept b c reported → Appends i j reported → SessionSoFar (Chain Takes) text kept a b h i → SessionSoFar (Chain Takes) (text ++ newline ∷ []) [] a c h j
  line-onto law c j reported takes written s = record {
    lines = s.lines ++ s.rest ∷ [];
    rest = [];
    cut = cut-newline s.cut;
    kept_is = refl;
    answered = line-answered Takes law s.rest reported c j s.kept_is s.answered takes written;
  }

  -- a line's end, and a reply that a failed write cut off
  pub line-cut : TakesSeen Takes → {text kept : List ℕ} (more : List ℕ) {a b : S} (c : S) {h i : Option (List ℕ)} (j : Option (List ℕ)) (reported : List ℕ) → Takes kept b c reported → WritesFront i j reported → SessionSoFar (Chain Takes) text kept a b h i → Failed (Chain Takes) ((text ++ newline ∷ []) ++ more) a c h j
  line-cut law more c j reported takes front s =
      let (others, rest, cut) = cut-more more (cut-newline s.cut) in
      record { lines = (s.lines ++ s.rest ∷ []) ++ others; rest = rest; cut = cut; cut_off = line-cut_off Takes law s.rest others reported c j s.kept_is s.answered takes front }

  -- a line that was left
  pub line-left : {text kept : List ℕ} {a b c : S} {h i : Option (List ℕ)} (j : Option (List ℕ)) → c ≡ b → Keeps i j → SessionSoFar (Chain Takes) text kept a b h i → SessionSoFar (Chain Takes) text kept a c h j
  line-left {text} {kept} {a} {b} {c} {h} j same keeps s = subst (λ (x : S). SessionSoFar (Chain Takes) text kept a x h j) (sym same) (still-so_far Takes j keeps s)
