-- The bytes of a table's file, one after another.
use Rattle.std.proofs.Common.{◌≡◌, ℕ, zero, suc, ◌-◌, ◌<◌, ◌≤◌, List, [], ◌∷◌, ◌++◌, length, drop, Result, Ok, Err, refl, sym, ap, ◌∙◌, arith, append_assoc, append-nil}
use Rattle.std.proofs.lemmas.List.{drop_all}
use Rattle.std.specs.{Prelude.slice_index, Option.option_to_list}
use Rattle.pf_form.specs.Form.Forms.{◌>>=◌}
use Rattle.pf_tokens.specs.{declared.place.Place.Place, Places.place_after}
use Rattle.pf_parse.specs.declared.{fault.Stop.Stop, entries.Front.Front, tree.Entry.Entry}
use Rattle.pf_parse.specs.Reading.{Word}
use Rattle.pf_parse.specs.Entries.{front_of, entries_from, onto}

-- a byte that belongs to what stands before
pub byte_skipped : (p : Place) (more : ℕ) (text : Word) → 0 < length text → 0 < more → entries_from more p text ≡ entries_from (more - 1) (place_after (slice_index text 0) p) (drop 1 text)
unfolding entries_from
byte_skipped p more [] some left = absurd (omega arith)
byte_skipped p zero (b ∷ bs) some left = absurd (omega arith)
byte_skipped p (suc more) (b ∷ bs) some left =
    let same : more ≡ suc more - 1 = omega arith in
    ap (λ (n : ℕ). entries_from n (place_after b p) bs) same

onto_both : (before front : List Entry) (r : Result (List Entry) Stop) → onto before (r >>= λ es. Ok (front ++ es)) ≡ onto (before ++ front) r
onto_both before front (Ok es) = ap (λ (xs : List Entry). Ok xs) (sym (append_assoc before front es))
onto_both before front (Err e) = refl

-- what stands at the front
pub front_taken : (p : Place) (text : Word) (f : Front) (before : List Entry) → 0 < length text → front_of p text ≡ Ok f → onto before (entries_from 0 p text) ≡ onto (before ++ option_to_list f.entry) (entries_from f.more (place_after (slice_index text 0) p) (drop 1 text))
unfolding entries_from
front_taken p [] f before some is = absurd (omega arith)
front_taken p (b ∷ bs) f before some is = rw is (onto_both before (option_to_list f.entry) (entries_from f.more (place_after b p) bs))

pub front_stops : (p : Place) (text : Word) (e : Stop) → 0 < length text → front_of p text ≡ Err e → entries_from 0 p text ≡ Err e
unfolding entries_from
front_stops p [] e some is = absurd (omega arith)
front_stops p (b ∷ bs) e some is = rw is refl

pub no_byte : (p : Place) (more : ℕ) (text : Word) (i : ℕ) (before : List Entry) → length text ≤ i → onto before (entries_from more p (drop i text)) ≡ Ok before
unfolding entries_from
no_byte p more text i before past =
    ap (λ (bs : Word). onto before (entries_from more p bs)) (drop_all i text past) ∙ ap (λ (es : List Entry). Ok es) (append-nil before)
