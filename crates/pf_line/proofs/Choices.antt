-- What words are read as if a choice comes first, by whether its word was taken.
use Rattle.std.proofs.Common.{◌≡◌, Bool, true, false, List, [], ◌∷◌, Ok, Err, sym, ap}
use Rattle.std.specs.{Prelude.if◌then◌else◌, Str.bytes_eq}
use Rattle.pf_form.specs.{Form.Words.Word, Form.Forms.{Form, or, Read, reads, ended, ◌>>=◌, read_all}, Form.Readers.if_there}

abbrev pub flag_of : Read Bool → Bool
flag_of (Ok x) = x.0
flag_of (Err e) = false

abbrev pub rest_of : Read Bool → List Word
rest_of (Ok x) = x.1
rest_of (Err e) = []

abbrev pub as_read : Bool → List Word → Read Bool
as_read t ws = Ok (t, ws)

pub never : (t : Bool) → t ≡ false → t ≡ true → ⊥
never t e f = cc

-- the word was taken
pub here : {A : Type 0} (k : Word) (f g : Form A) (ws rest : List Word) (t : Bool) → reads (if_there k) ws ≡ Ok (t, rest) → t ≡ true → read_all (or k f g) ws ≡ read_all f rest
here k f g [] rest t e is = absurd (never t (sym (ap flag_of e)) is)
here k f g (w ∷ ws) rest t e is = by (bytes_eq w k) e where
  by : (b : Bool) → (if b then as_read true ws else as_read false (w ∷ ws)) ≡ as_read t rest → ((if b then reads f ws else reads g (w ∷ ws)) >>= ended) ≡ (reads f rest >>= ended)
  by true e = ap (λ (vs : List Word). reads f vs >>= ended) (ap rest_of e)
  by false e = absurd (never t (sym (ap flag_of e)) is)

-- the word isn't there
pub elsewhere : {A : Type 0} (k : Word) (f g : Form A) (ws rest : List Word) (t : Bool) → reads (if_there k) ws ≡ Ok (t, rest) → t ≡ false → read_all (or k f g) ws ≡ read_all g rest
elsewhere k f g [] rest t e is = ap (λ (vs : List Word). reads g vs >>= ended) (ap rest_of e)
elsewhere k f g (w ∷ ws) rest t e is = by (bytes_eq w k) e where
  by : (b : Bool) → (if b then as_read true ws else as_read false (w ∷ ws)) ≡ as_read t rest → ((if b then reads f ws else reads g (w ∷ ws)) >>= ended) ≡ (reads g rest >>= ended)
  by true e = absurd (never t is (sym (ap flag_of e)))
  by false e = ap (λ (vs : List Word). reads g vs >>= ended) (ap rest_of e)
