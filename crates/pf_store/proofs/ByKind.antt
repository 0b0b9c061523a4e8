-- What is recorded, by the byte of its kind.
use Rattle.std.proofs.{Common.{◌≡◌, ◌≢◌, ◌<◌, ◌+◌, ℕ, Bool, true, false, List, [], ◌∷◌, length, Ok, Err, inl, inr, refl, subst, arith}, lemmas.Bool.ne_eqb}
use Rattle.std.specs.Prelude.{if◌then◌else◌}
use Rattle.pf_form.specs.Bytes.{BasicForms.{◌>>=◌, Read, Reader, begins_otherwise, is_next, seen_as}, Forms.{Shape, nat, list, either, Value, ByteForm, number, or, counted, reads, writes}}
use Rattle.pf_form.specs.declared.bytes.fault.{Fault.Fault, Fault.TheVariants.{Short, Bad}}
use Rattle.pf_state.specs.Layouts.{States.{NameShape, name_form, has_expiry}, Steps.{StepShape, step_form}}
use Rattle.pf_store.specs.Groups.{EditShape, ChangeShape, edit_form, expire_form, items_form, change_form, as_commit, as_add, as_delete, as_set, as_steps, as_removal, as_opening, as_tick}

-- ---- a choice by the first byte

here : {a b : Shape} (k : ℕ) (f : ByteForm a) (g : ByteForm b) (before mid : List ℕ) → is_next k before ≡ Ok (true, mid)
    → reads (or k f g) before ≡ seen_as inl (reads f) mid
here k f g before mid is = rw is refl

abbrev seen : {A B : Type 0} → (A → B) → Read A → Read B
seen view r = r >>= λ x. Ok (view x.0, x.1)

-- Another byte comes first, and what is read behind it begins otherwise too.
past : {a b : Shape} {C : Type 0} (k : ℕ) (f : ByteForm a) (g : ByteForm b) (view : C → Value b) (read : Reader C) (before mid end : List ℕ)
    → is_next k before ≡ Ok (false, mid) → ((x : C) (rest : List ℕ) → read end ≡ Ok (x, rest) → begins_otherwise k (writes g (view x)) ≡ true)
    → reads g mid ≡ seen_as view read end → reads (or k f g) before ≡ seen_as {B = Value (either a b)} (λ x. inr (view x)) read end
past {a = a} {b = b} {C = C} k f g view read before mid end is otherwise later = rw (is, later) (by (read end) refl) where
  at : Value b × List ℕ → Read (Value b)
  at y = if begins_otherwise k (writes g y.0) then Ok (y.0, y.1) else Err (Bad (length mid))

  by : (r : Read C) → read end ≡ r → seen {B = Value (either a b)} inr (seen view r >>= at) ≡ seen {B = Value (either a b)} (λ x. inr (view x)) r
  by (Err e) same = refl
  by (Ok x) same = rw (otherwise x.0 x.1 same) refl

refused : {a b : Shape} (k : ℕ) (f : ByteForm a) (g : ByteForm b) (before mid : List ℕ) (e : Fault) → is_next k before ≡ Ok (false, mid) → reads g mid ≡ Err e → reads (or k f g) before ≡ Err e
refused k f g before mid e is later = rw (is, later) refl

itself : {A : Type 0} (r : Read A) → r ≡ seen (λ x. x) r
itself (Err e) = refl
itself (Ok x) = refl

-- ---- the kinds in turn

-- what is read there is written with another first byte than k
abbrev Otherwise : {a : Shape} {C : Type 0} → ℕ → ByteForm a → (C → Value a) → Reader C → List ℕ → Type 0
Otherwise {C = C} k f view read end = (x : C) (rest : List ℕ) → read end ≡ Ok (x, rest) → begins_otherwise k (writes f (view x)) ≡ true

abbrev StepsShape : Shape
StepsShape = either (list StepShape) (either NameShape (either nat nat))

abbrev since_open : Bool → ByteForm (either nat nat)
since_open has = or 7 (number 4) (expire_form has)

abbrev since_removal : Bool → ByteForm (either NameShape (either nat nat))
since_removal has = or 6 name_form (since_open has)

abbrev since_steps : ℕ → Bool → ByteForm StepsShape
since_steps version has = or 5 (counted 4 (step_form version)) (since_removal has)

abbrev since_set : ℕ → Bool → ByteForm (either EditShape StepsShape)
since_set version has = or 4 edit_form (since_steps version has)

abbrev since_delete : ℕ → Bool → ByteForm (either EditShape (either EditShape StepsShape))
since_delete version has = or 3 edit_form (since_set version has)

abbrev since_add : ℕ → Bool → ByteForm (either EditShape (either EditShape (either EditShape StepsShape)))
since_add version has = or 2 edit_form (since_delete version has)

-- the tick of a version that has one is behind its kind
tick_begins : (k : ℕ) (has : Bool) (bytes rest : List ℕ) (tick : ℕ) → begins_otherwise k (8 ∷ []) ≡ true → reads (expire_form has) bytes ≡ Ok (tick, rest)
    → begins_otherwise k (writes (expire_form has) tick) ≡ true
unfolding expire_form
tick_begins k true bytes rest tick other is = other
tick_begins k false bytes rest tick other is = absurd (cc (is))

-- what the bytes are read as, by the kind that comes first
module _ (version : ℕ) where
  abbrev has : Bool
  has = has_expiry version

  commit_read : (b0 b1 : List ℕ) → is_next 1 b0 ≡ Ok (true, b1) → reads (change_form version) b0 ≡ seen_as as_commit (reads (items_form version)) b1
  unfolding change_form
  commit_read b0 b1 one = here 1 (items_form version) (since_add version has) b0 b1 one

  module _ (b0 b1 : List ℕ) (one : is_next 1 b0 ≡ Ok (false, b1)) where
    add_read : (b2 : List ℕ) → is_next 2 b1 ≡ Ok (true, b2) → reads (change_form version) b0 ≡ seen_as as_add (reads edit_form) b2
    unfolding change_form
    add_read b2 two =
        past 1 (items_form version) (since_add version has) inl (reads edit_form) b0 b1 b2 one (λ x rest is. refl) (here 2 edit_form (since_delete version has) b1 b2 two)

    module _ (b2 : List ℕ) (two : is_next 2 b1 ≡ Ok (false, b2)) where
      delete_read : (b3 : List ℕ) → is_next 3 b2 ≡ Ok (true, b3) → reads (change_form version) b0 ≡ seen_as as_delete (reads edit_form) b3
      unfolding change_form
      delete_read b3 three =
          past 1 (items_form version) (since_add version has) (λ x. inr (inl x)) (reads edit_form) b0 b1 b3 one (λ x rest is. refl)
          (past 2 edit_form (since_delete version has) inl (reads edit_form) b1 b2 b3 two (λ x rest is. refl) (here 3 edit_form (since_set version has) b2 b3 three))

      module _ (b3 : List ℕ) (three : is_next 3 b2 ≡ Ok (false, b3)) where
        set_read : (b4 : List ℕ) → is_next 4 b3 ≡ Ok (true, b4) → reads (change_form version) b0 ≡ seen_as as_set (reads edit_form) b4
        unfolding change_form
        set_read b4 four =
            past 1 (items_form version) (since_add version has) (λ x. inr (inr (inl x))) (reads edit_form) b0 b1 b4 one (λ x rest is. refl)
            (past 2 edit_form (since_delete version has) (λ x. inr (inl x)) (reads edit_form) b1 b2 b4 two (λ x rest is. refl)
            (past 3 edit_form (since_set version has) inl (reads edit_form) b2 b3 b4 three (λ x rest is. refl) (here 4 edit_form (since_steps version has) b3 b4 four)))

        module _ (b4 : List ℕ) (four : is_next 4 b3 ≡ Ok (false, b4)) where
          after_edits : {C : Type 0} (view : C → Value StepsShape) (read : Reader C) (end : List ℕ) → Otherwise 1 (since_steps version has) view read end
              → Otherwise 2 (since_steps version has) view read end → Otherwise 3 (since_steps version has) view read end → Otherwise 4 (since_steps version has) view read end
              → reads (since_steps version has) b4 ≡ seen_as view read end → reads (change_form version) b0 ≡ seen_as {B = Value ChangeShape} (λ x. inr (inr (inr (inr (view x))))) read end
          unfolding change_form
          after_edits view read end o1 o2 o3 o4 is =
              past 1 (items_form version) (since_add version has) (λ x. inr (inr (inr (view x)))) read b0 b1 end one o1
              (past 2 edit_form (since_delete version has) (λ x. inr (inr (view x))) read b1 b2 end two o2
              (past 3 edit_form (since_set version has) (λ x. inr (view x)) read b2 b3 end three o3 (past 4 edit_form (since_steps version has) view read b3 b4 end four o4 is)))

          steps_read : (b5 : List ℕ) → is_next 5 b4 ≡ Ok (true, b5) → reads (change_form version) b0 ≡ seen_as as_steps (reads (counted 4 (step_form version))) b5
          steps_read b5 five =
              after_edits inl (reads (counted 4 (step_form version))) b5 (λ x rest is. refl) (λ x rest is. refl) (λ x rest is. refl) (λ x rest is. refl)
              (here 5 (counted 4 (step_form version)) (since_removal has) b4 b5 five)

          module _ (b5 : List ℕ) (five : is_next 5 b4 ≡ Ok (false, b5)) where
            removal_read : (b6 : List ℕ) → is_next 6 b5 ≡ Ok (true, b6) → reads (change_form version) b0 ≡ seen_as as_removal (reads name_form) b6
            removal_read b6 six =
                after_edits (λ x. inr (inl x)) (reads name_form) b6 (λ x rest is. refl) (λ x rest is. refl) (λ x rest is. refl) (λ x rest is. refl)
                (past 5 (counted 4 (step_form version)) (since_removal has) inl (reads name_form) b4 b5 b6 five (λ x rest is. refl) (here 6 name_form (since_open has) b5 b6 six))

            module _ (b6 : List ℕ) (six : is_next 6 b5 ≡ Ok (false, b6)) where
              opening_read : (b7 : List ℕ) → is_next 7 b6 ≡ Ok (true, b7) → reads (change_form version) b0 ≡ seen_as as_opening (reads (number 4)) b7
              opening_read b7 seven =
                  after_edits (λ x. inr (inr (inl x))) (reads (number 4)) b7 (λ x rest is. refl) (λ x rest is. refl) (λ x rest is. refl) (λ x rest is. refl)
                  (past 5 (counted 4 (step_form version)) (since_removal has) (λ x. inr (inl x)) (reads (number 4)) b4 b5 b7 five (λ x rest is. refl)
                  (past 6 name_form (since_open has) inl (reads (number 4)) b5 b6 b7 six (λ x rest is. refl) (here 7 (number 4) (expire_form has) b6 b7 seven)))

              -- the tick's kind is in its form
              tick_read : (b7 : List ℕ) → is_next 7 b6 ≡ Ok (false, b7) → reads (change_form version) b0 ≡ seen_as as_tick (reads (expire_form has)) b7
              tick_read b7 seven =
                  let read : Reader (Value nat) = reads (expire_form has) in
                  let begins : (k : ℕ) → begins_otherwise k (8 ∷ []) ≡ true → (tick : ℕ) (rest : List ℕ) → read b7 ≡ Ok (tick, rest) → begins_otherwise k (writes (expire_form has) tick) ≡ true =
                  λ k other tick rest is. tick_begins k has b7 rest tick other is in
                  after_edits (λ x. inr (inr (inr x))) read b7 (begins 1 refl) (begins 2 refl) (begins 3 refl) (begins 4 refl)
                  (past 5 (counted 4 (step_form version)) (since_removal has) (λ x. inr (inr x)) read b4 b5 b7 five (begins 5 refl)
                  (past 6 name_form (since_open has) inr read b5 b6 b7 six (begins 6 refl)
                  (past 7 (number 4) (expire_form has) (λ x. x) read b6 b7 b7 seven (begins 7 refl) (itself (read b7)))))

-- ---- what the bytes behind a kind are read as

pub nothing_read : (version : ℕ) (bytes : List ℕ) → length bytes < 1 → reads (change_form version) bytes ≡ Err Short
unfolding change_form
nothing_read version [] none = refl
nothing_read version (b ∷ bytes) none = absurd (omega arith)

module _ (version kind : ℕ) (rest : List ℕ) where
  pub commits : kind ≡ 1 → reads (change_form version) (kind ∷ rest) ≡ seen_as as_commit (reads (items_form version)) rest
  commits is = rw is (commit_read version (1 ∷ rest) rest refl)

  pub adds : kind ≡ 2 → reads (change_form version) (kind ∷ rest) ≡ seen_as as_add (reads edit_form) rest
  adds is = rw is (add_read version (2 ∷ rest) (2 ∷ rest) refl rest refl)

  pub deletes : kind ≡ 3 → reads (change_form version) (kind ∷ rest) ≡ seen_as as_delete (reads edit_form) rest
  deletes is = rw is (delete_read version (3 ∷ rest) (3 ∷ rest) refl (3 ∷ rest) refl rest refl)

  pub sets : kind ≡ 4 → reads (change_form version) (kind ∷ rest) ≡ seen_as as_set (reads edit_form) rest
  sets is = rw is (set_read version (4 ∷ rest) (4 ∷ rest) refl (4 ∷ rest) refl (4 ∷ rest) refl rest refl)

  pub acts : kind ≡ 5 → reads (change_form version) (kind ∷ rest) ≡ seen_as as_steps (reads (counted 4 (step_form version))) rest
  acts is = rw is (steps_read version (5 ∷ rest) (5 ∷ rest) refl (5 ∷ rest) refl (5 ∷ rest) refl (5 ∷ rest) refl rest refl)

  pub removes : kind ≡ 6 → reads (change_form version) (kind ∷ rest) ≡ seen_as as_removal (reads name_form) rest
  removes is = rw is (removal_read version (6 ∷ rest) (6 ∷ rest) refl (6 ∷ rest) refl (6 ∷ rest) refl (6 ∷ rest) refl (6 ∷ rest) refl rest refl)

  pub opens : kind ≡ 7 → reads (change_form version) (kind ∷ rest) ≡ seen_as as_opening (reads (number 4)) rest
  opens is = rw is (opening_read version (7 ∷ rest) (7 ∷ rest) refl (7 ∷ rest) refl (7 ∷ rest) refl (7 ∷ rest) refl (7 ∷ rest) refl (7 ∷ rest) refl rest refl)

  pub expires : kind ≡ 8 → reads (change_form version) (kind ∷ rest) ≡ seen_as as_tick (reads (expire_form (has_expiry version))) (8 ∷ rest)
  expires is = rw is (tick_read version (8 ∷ rest) (8 ∷ rest) refl (8 ∷ rest) refl (8 ∷ rest) refl (8 ∷ rest) refl (8 ∷ rest) refl (8 ∷ rest) refl (8 ∷ rest) refl)

  -- another byte than a kind's
  other : (k : ℕ) → kind ≢ k → is_next k (kind ∷ rest) ≡ Ok (false, kind ∷ rest)
  other k isnt = rw (ne_eqb kind k isnt) refl

  no_tick : (has : Bool) → kind ≢ 8 → reads (expire_form has) (kind ∷ rest) ≡ Err (Bad (length (kind ∷ rest)))
  unfolding expire_form
  no_tick true isnt = rw (ne_eqb kind 8 isnt) refl
  no_tick false isnt = refl

  pub none : kind ≢ 1 → kind ≢ 2 → kind ≢ 3 → kind ≢ 4 → kind ≢ 5 → kind ≢ 6 → kind ≢ 7 → kind ≢ 8 → reads (change_form version) (kind ∷ rest) ≡ Err (Bad (length rest + 1))
  unfolding change_form
  none n1 n2 n3 n4 n5 n6 n7 n8 =
      let has = has_expiry version in
      let b = kind ∷ rest in
      let e : Fault = Bad (length b) in
      let one : length b ≡ length rest + 1 = omega arith in
      subst (λ (n : ℕ). reads (change_form version) b ≡ Err (Bad n)) one
      (refused 1 (items_form version) (since_add version has) b b e (other 1 n1)
      (refused 2 edit_form (since_delete version has) b b e (other 2 n2)
      (refused 3 edit_form (since_set version has) b b e (other 3 n3)
      (refused 4 edit_form (since_steps version has) b b e (other 4 n4)
      (refused 5 (counted 4 (step_form version)) (since_removal has) b b e (other 5 n5)
      (refused 6 name_form (since_open has) b b e (other 6 n6)
      (refused 7 (number 4) (expire_form has) b b e (other 7 n7) (no_tick has n8))))))))
