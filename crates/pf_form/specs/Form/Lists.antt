-- Lists that are read part by part, up to the last word of a text.
use Rattle.std.proofs.Common.{◌≡◌, true, false, List, [], ◌∷◌, Result, Ok, Err, ap, sym, subst}
use Rattle.std.specs.Prelude.{IsErrAnd}
use Rattle.pf_form.specs.declared.{form.fault.Kind.Kind, form.fault.WordFault.WordFault, form.fault.Unread.Unread}
use Rattle.pf_form.specs.declared.form.fault.Unread.TheVariants as unread
use Rattle.pf_form.specs.{Form.Words.Word, Form.Forms.{Form, making, Read, reads, ended, ◌>>=◌, read_all, is_decided, empties, one_or_more}, Form.Readers.{Fails, GivesAll, Shrinks, each_by}, Laws.Form.Decided.takes_some, Laws.Form.Forms.lawful}

made_ok : {A B : Type 0} (make : A → B) (f : Form A) (ws : List Word) (x : A) → read_all f ws ≡ Ok x →
    read_all (making make f) ws ≡ Ok (make x)
made_ok make f ws x e = by (reads f ws) e where
  by : (r : Read _) → (r >>= ended) ≡ Ok x → (r >>= (λ y. Ok (make y.0, y.1)) >>= ended) ≡ Ok (make x)
  by (Ok (y, [])) e = ap (λ z. Ok (make z)) (let is : y ≡ x = cc in is)
  by (Ok (y, w ∷ ws)) e = absurd cc
  by (Err d) e = absurd cc

made_err : {A B : Type 0} (make : A → B) (f : Form A) (ws : List Word) (s : WordFault) → Fails s (read_all f ws) →
    Fails s (read_all (making make f) ws)
made_err make f ws s h = by (reads f ws) h where
  by : (r : Read _) → Fails s (r >>= ended) → Fails s (r >>= (λ y. Ok (make y.0, y.1)) >>= ended)
  by (Ok (y, [])) h = h
  by (Ok (y, w ∷ ws)) h = h
  by (Err d) h = h

-- A form that is never empty takes a word or more.
pub shrinks : (A : Type 0) (f : Form A) → is_decided f ≡ true → empties f ≡ false → Shrinks (reads f)
shrinks A f decided some = takes_some (lawful f decided) some

-- A list that `each` returned, as another value.
pub listed : {X A B : Type 0} (view : X → List A) (r : Result X Unread) (make : List A → B) (f : Form A) (ws : List Word) →
    GivesAll view r (each_by (reads f) ws) → GivesAll (λ x. make (view x)) r (read_all (making make (one_or_more f)) ws)
listed view (Ok x) make f ws h = made_ok make (one_or_more f) ws (view x) h
listed view (Err (unread.Stopped s)) make f ws h = made_err make (one_or_more f) ws s h
listed view (Err unread.Memory) make f ws h = tt

-- an error that is handed on
pub handed_on : {X Y A : Type 0} (view : X → A) (other : Y → A) (e : Unread) (r : Result Y Unread) (q : Result A (Kind × List Word)) →
    GivesAll view (Err e) q → IsErrAnd r (λ d. d ≡ e) → GivesAll other r q
handed_on view other e (Ok y) q h is = absurd is
handed_on {Y = Y} {A = A} view other e (Err d) q h is = subst (λ (u : Unread). GivesAll {X = Y} {A = A} other (Err u) q) (sym is)
    (same view other e q h) where
      same : {X Y A : Type 0} (view : X → A) (other : Y → A) (e : Unread) (q : Result A (Kind × List Word)) → GivesAll view (Err e) q →
          GivesAll other (Err e) q
      same view other (unread.Stopped s) q h = h
      same view other unread.Memory q h = h
