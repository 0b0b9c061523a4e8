-- The pieces of a text, read one after the other.
use Rattle.std.proofs.{Common.{◌≡◌, ℕ, ◌+◌, ◌-◌, ◌<◌, ◌≤◌, ◌==◌, List, [], ◌∷◌, ◌++◌, length, take, drop, set, Some, None, Result, Ok, Err, refl, sym, ap, ◌∙◌, arith, append_assoc}, lemmas.List.{length-take-le, length-drop, length-append, take_rest}, lemmas.List.Splits.length-slice_split}
use Rattle.std.specs.List.{slice_split, position}
use Rattle.pf_addr.specs.{Collected.{parts_of, eight_groups, groups_of}, Grammar.{pieces, four_bytes}, Reading.{One, Last, pieces_at}, Laws.Places.{split_some, split_none}}
use Rattle.pf_form.specs.Form.Forms.{◌>>=◌}
use Rattle.pf_addr.specs.declared.{fault.AddrFault.AddrFault, ipv6_text.Groups.Groups, reading.Parts.Parts}

-- what is read, and stored by `make`, if these numbers come before the rest, which begins at `at`
abbrev pub read_after : {S : Type 0} → One → Last → ℕ → (List ℕ → S) → List ℕ → ℕ → List ℕ → Result S AddrFault
read_after one last c make done at rest = pieces_at one last at (slice_split (λ b. b == c) rest) >>= λ ns. Ok (make (done ++ ns))

regrouped : {S : Type 0} (make : List ℕ → S) (done : List ℕ) (first : Result ℕ AddrFault) (others : Result (List ℕ) AddrFault) → (first >>= (λ n. others >>= λ ns. Ok (n ∷ ns)) >>= λ ns. Ok (make (done ++ ns))) ≡ (first >>= λ n. others >>= λ ns. Ok (make ((done ++ n ∷ []) ++ ns)))
regrouped make done (Err e) others = refl
regrouped make done (Ok n) (Err e) = refl
regrouped make done (Ok n) (Ok ns) = ap (λ (l : List ℕ). Ok (make l)) (sym (append_assoc done (n ∷ []) ns))

step : (one : One) (last : Last) (at : ℕ) (p : List ℕ) (ps : List (List ℕ)) → 0 < length ps → pieces_at one last at (p ∷ ps) ≡ (one at p >>= λ n. pieces_at one last (at + length p + 1) ps >>= λ ns. Ok (n ∷ ns))
unfolding pieces_at
step one last at p [] lt = absurd (omega arith)
step one last at p (q ∷ ps) lt = refl

-- A piece is read, and then the rest after its separator.
pub read_piece_after : {S : Type 0} (one : One) (last : Last) (c : ℕ) (make : List ℕ → S) (done : List ℕ) (at : ℕ) (rest : List ℕ) (i : ℕ) (r : Result ℕ AddrFault) → position (λ b. b == c) rest ≡ Some i → i < length rest → r ≡ one at (take i rest) → read_after one last c make done at rest ≡ (r >>= λ n. read_after one last c make (done ++ n ∷ []) (at + (i + 1)) (drop (i + 1) rest))
read_piece_after one last c make done at rest i r place lt is =
    let next : at + length (take i rest) + 1 ≡ at + (i + 1) = omega (arith, length-take-le i rest (omega arith)) in
    let others : List (List ℕ) = slice_split (λ b. b == c) (drop (i + 1) rest) in
    let some : 0 < length others = omega (arith, length-slice_split (λ b. b == c) (drop (i + 1) rest)) in
    rw (split_some (λ b. b == c) rest i place, step one last at (take i rest) others some, ← is, next) (regrouped make done r (pieces_at one last (at + (i + 1)) others))

pub read_last_after : {S : Type 0} (one : One) (last : Last) (c : ℕ) (make : List ℕ → S) (done : List ℕ) (at : ℕ) (rest : List ℕ) → position (λ b. b == c) rest ≡ None → read_after one last c make done at rest ≡ (last at rest >>= λ ns. Ok (make (done ++ ns)))
unfolding pieces_at
read_last_after one last c make done at rest place = rw (split_none (λ b. b == c) rest place) refl

-- ---- a text whose first numbers have been read

pub record SoFar {S : Type 0} (one : One) (last : Last) (c : ℕ) (make : List ℕ → S) (begin : ℕ) (text : List ℕ) (kept : S) (at : ℕ) (rest : List ℕ) : Type 0 where
  pub done : List ℕ
  pub is : kept ≡ make done
  pub same : (pieces_at one last begin (pieces c text) >>= λ ns. Ok (make ns)) ≡ read_after one last c make done at rest
  pub place : at + length rest ≡ begin + length text
  pub few : length done ≤ at

pub no_text : {S : Type 0} (one : One) (last : Last) (c : ℕ) (make : List ℕ → S) (begin : ℕ) (text : List ℕ) → length text ≡ 0 → Ok (make []) ≡ (pieces_at one last begin (pieces c text) >>= λ ns. Ok (make ns))
unfolding pieces_at
no_text one last c make begin [] e = refl
no_text one last c make begin (b ∷ bs) e = absurd (omega arith)

pub at_start : {S : Type 0} (one : One) (last : Last) (c : ℕ) (make : List ℕ → S) (begin : ℕ) (text : List ℕ) → 0 < length text → SoFar one last c make begin text (make []) begin text
at_start one last c make begin [] lt = absurd (omega arith)
at_start one last c make begin (b ∷ bs) lt = record { done = []; is = refl; same = refl; place = refl; few = omega arith }

pub at_next : {S : Type 0} (one : One) (last : Last) (c : ℕ) (make : List ℕ → S) (begin : ℕ) (text : List ℕ) (kept next : S) (at : ℕ) (rest : List ℕ) (i n : ℕ) (so : SoFar one last c make begin text kept at rest) → position (λ b. b == c) rest ≡ Some i → i < length rest → Ok n ≡ one at (take i rest) → next ≡ make (so.done ++ n ∷ []) → SoFar one last c make begin text next (at + (i + 1)) (take (length rest - (i + 1)) (drop (i + 1) rest))
at_next one last c make begin text kept next at rest i n so place lt read is = rw (take_rest rest (i + 1)) (record {
  done = so.done ++ n ∷ [];
  is = is;
  same = so.same ∙ read_piece_after one last c make so.done at rest i (Ok n) place lt read;
  place = omega (arith, length-drop (i + 1) rest, so.place);
  few = omega (arith, length-append so.done (n ∷ []), so.few);
})

pub at_fault : {S : Type 0} (one : One) (last : Last) (c : ℕ) (make : List ℕ → S) (begin : ℕ) (text : List ℕ) (kept : S) (at : ℕ) (rest : List ℕ) (i : ℕ) (e : AddrFault) (so : SoFar one last c make begin text kept at rest) → position (λ b. b == c) rest ≡ Some i → i < length rest → Err e ≡ one at (take i rest) → Err e ≡ (pieces_at one last begin (pieces c text) >>= λ ns. Ok (make ns))
at_fault one last c make begin text kept at rest i e so place lt read = sym (so.same ∙ read_piece_after one last c make so.done at rest i (Err e) place lt read)

pub at_last : {S : Type 0} (one : One) (last : Last) (c : ℕ) (make : List ℕ → S) (begin : ℕ) (text : List ℕ) (kept : S) (at : ℕ) (rest : List ℕ) (so : SoFar one last c make begin text kept at rest) → position (λ b. b == c) rest ≡ None → (last at rest >>= λ ns. Ok (make (so.done ++ ns))) ≡ (pieces_at one last begin (pieces c text) >>= λ ns. Ok (make ns))
at_last one last c make begin text kept at rest so place = sym (so.same ∙ read_last_after one last c make so.done at rest place)

-- ---- one number more

put_byte : (ns : List ℕ) (n : ℕ) → set (four_bytes ns) (length ns) n ≡ four_bytes (ns ++ n ∷ [])
put_byte [] n = refl
put_byte (a ∷ []) n = refl
put_byte (a ∷ b ∷ []) n = refl
put_byte (a ∷ b ∷ c ∷ []) n = refl
put_byte (a ∷ b ∷ c ∷ d ∷ ns) n = refl

put_group : (ns : List ℕ) (n : ℕ) → set (eight_groups ns) (length ns) n ≡ eight_groups (ns ++ n ∷ [])
put_group [] n = refl
put_group (a ∷ []) n = refl
put_group (a ∷ b ∷ []) n = refl
put_group (a ∷ b ∷ c ∷ []) n = refl
put_group (a ∷ b ∷ c ∷ d ∷ []) n = refl
put_group (a ∷ b ∷ c ∷ d ∷ e ∷ []) n = refl
put_group (a ∷ b ∷ c ∷ d ∷ e ∷ f ∷ []) n = refl
put_group (a ∷ b ∷ c ∷ d ∷ e ∷ f ∷ g ∷ []) n = refl
put_group (a ∷ b ∷ c ∷ d ∷ e ∷ f ∷ g ∷ h ∷ ns) n = refl

abbrev parts_with : ℕ → List ℕ → Parts
parts_with count bytes = record { bytes = bytes; count = count }

abbrev groups_with : ℕ → List ℕ → Groups
groups_with count numbers = record { numbers = numbers; count = count }

pub part_pushed : (done : List ℕ) (n : ℕ) (kept next : Parts) → kept ≡ parts_of done → next.count ≡ kept.count + 1 → next.bytes ≡ set kept.bytes kept.count n → next ≡ parts_of (done ++ n ∷ [])
part_pushed done n kept next is count bytes =
    let size : next.count ≡ length (done ++ n ∷ []) = omega (arith, count, ap (λ (p : Parts). p.count) is, length-append done (n ∷ [])) in
    ap (λ (k : ℕ). parts_with k next.bytes) size ∙ ap (parts_with (length (done ++ n ∷ []))) (bytes ∙ ap (λ (p : Parts). set p.bytes p.count n) is ∙ put_byte done n)

pub group_pushed : (done : List ℕ) (n : ℕ) (kept next : Groups) → kept ≡ groups_of done → next.count ≡ kept.count + 1 → next.numbers ≡ set kept.numbers kept.count n → next ≡ groups_of (done ++ n ∷ [])
group_pushed done n kept next is count numbers =
    let size : next.count ≡ length (done ++ n ∷ []) = omega (arith, count, ap (λ (p : Groups). p.count) is, length-append done (n ∷ [])) in
    ap (λ (k : ℕ). groups_with k next.numbers) size ∙ ap (groups_with (length (done ++ n ∷ []))) (numbers ∙ ap (λ (p : Groups). set p.numbers p.count n) is ∙ put_group done n)
