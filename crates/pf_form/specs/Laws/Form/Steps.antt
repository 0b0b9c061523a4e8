-- A reader that takes a word, or finds that it isn't there, goes on as the form's part does.
use Rattle.std.proofs.Common.{◌≡◌, Bool, true, false, List, [], ◌∷◌, Result, Ok, Err, sym, ap, subst, ◌∙◌}
use Rattle.std.specs.{Prelude.if◌then◌else◌, Str.bytes_eq}
use denote.Ref.{Bor}
use Rattle.pf_form.specs.declared.form.fault.WordFault.{WordFault}
use Rattle.pf_form.specs.{Form.Words.{Word, texts}, Form.Forms.{Form, or, Read, reads}, Form.Readers.{Fails, Moves, if_there}, Laws.Form.Decided.ok_is}

module _ {A : Type 0} (k : Word) (f g : Form A) where
  reads_taken : (ws vs : List Word) → reads (if_there k) ws ≡ Ok (true, vs) → reads (or k f g) ws ≡ reads f vs
  reads_taken [] vs e = let no : false ≡ true = (ok_is false true [] vs e).0 in absurd cc
  reads_taken (w ∷ ws) vs e = by (bytes_eq w k) e where
    by : (b : Bool) → if◌then◌else◌ {A = Read Bool} b (Ok (true, ws)) (Ok (false, w ∷ ws)) ≡ Ok (true, vs) → (if b then reads f ws else reads g (w ∷ ws)) ≡ reads f vs
    by true e = ap (reads f) (ok_is true true ws vs e).1
    by false e = let no : false ≡ true = (ok_is false true (w ∷ ws) vs e).0 in absurd cc

  reads_passed : (ws vs : List Word) → reads (if_there k) ws ≡ Ok (false, vs) → reads (or k f g) ws ≡ reads g vs
  reads_passed [] vs e = ap (reads g) (ok_is false false [] vs e).1
  reads_passed (w ∷ ws) vs e = by (bytes_eq w k) e where
    by : (b : Bool) → if◌then◌else◌ {A = Read Bool} b (Ok (true, ws)) (Ok (false, w ∷ ws)) ≡ Ok (false, vs) → (if b then reads f ws else reads g (w ∷ ws)) ≡ reads g vs
    by true e = let no : true ≡ false = (ok_is true false ws vs e).0 in absurd cc
    by false e = ap (reads g) (ok_is false false (w ∷ ws) vs e).1

  moves_so : (h : Form A) (r : Result A WordFault) (ws vs rest : List (Bor Word)) → reads (or k f g) (texts ws) ≡ reads h (texts vs) → Moves h r vs rest → Moves (or k f g) r ws rest
  moves_so h (Ok x) ws vs rest e m = e ∙ m
  moves_so h (Err s) ws vs rest e m = subst (λ (q : Read A). Fails s q) (sym e) m

  -- the word stands there
  pub taken : (r : Result A WordFault) (there : Bool) (ws vs rest : List (Bor Word)) → reads (if_there k) (texts ws) ≡ Ok (there, texts vs) → there ≡ true → Moves f r vs rest → Moves (or k f g) r ws rest
  taken r there ws vs rest e is m = moves_so f r ws vs rest (reads_taken (texts ws) (texts vs) (rw is at e)) m

  -- another word stands there, or none
  pub passed : (r : Result A WordFault) (there : Bool) (ws vs rest : List (Bor Word)) → reads (if_there k) (texts ws) ≡ Ok (there, texts vs) → there ≡ false → Moves g r vs rest → Moves (or k f g) r ws rest
  passed r there ws vs rest e is m = moves_so g r ws vs rest (reads_passed (texts ws) (texts vs) (rw is at e)) m
