-- Questions, one after another.
use Rattle.std.proofs.Common.{◌≡◌, ℕ, Bool, true, false, List, [], ◌∷◌, ◌++◌, Option, Result, Ok, Err, sym, subst, append-nil}
use Rattle.std.specs.{List.flat_map, Io.KnownBytes.Appends, Result.IsErrAnd}
use Rattle.std.proofs.lemmas.Grind.{flat_map-append}
use Rattle.pf_addr.specs.Writing.{Writes, WritesFront, Writes-then, Appends-none}
use Rattle.pf_form.specs.Form.Words.{Word}
use Rattle.pf_load.specs.Served.{Asked, asked_text, AsksOnly}
use Rattle.pf_conf.proofs.CommitTexts.{no_front}

pub asks_none : {A E : Type 0} (r : Result A E) (old : Option (List ℕ)) → AsksOnly r old old
asks_none (Ok u) old = record { asked = []; sent = Appends-none old }
asks_none (Err e) old = record { asked = []; sent = no_front old [] }

pub asks_one : {A E : Type 0} (r : Result A E) (old new : Option (List ℕ)) (a : Asked) → Writes r old new (asked_text a)
    → AsksOnly r old new
asks_one r old new a sent = record {
  asked = a ∷ [];
  sent = subst (λ (text : List ℕ). Writes r old new text)
      (sym (append-nil (asked_text a))) sent;
}

-- what is sent behind what went through
pub asks_then : {A B D E : Type 0} (u : A) (r : Result B E) (old mid new : Option (List ℕ)) → AsksOnly {A = A} {E = D} (Ok u) old mid
    → AsksOnly r mid new → AsksOnly r old new
asks_then u r old mid new first second = record {
  asked = first.asked ++ second.asked;
  sent = subst (λ (text : List ℕ). Writes r old new text) (sym (flat_map-append asked_text first.asked second.asked))
      (Writes-then r old mid new (flat_map asked_text first.asked) (flat_map asked_text second.asked) first.sent second.sent);
}

-- what was sent doesn't depend on what came of it
pub asks_so : {A B D E : Type 0} (u : A) (v : B) (old new : Option (List ℕ)) → AsksOnly {A = A} {E = D} (Ok u) old new
    → AsksOnly {A = B} {E = E} (Ok v) old new
asks_so u v old new a = record { asked = a.asked; sent = a.sent }

pub asks_failed : {A B D E : Type 0} (e : D) (r : Result B E) (why : E → Type 0) (old new : Option (List ℕ)) → IsErrAnd r why
    → AsksOnly {A = A} {E = D} (Err e) old new → AsksOnly r old new
asks_failed e (Ok u) why old new failed a = absurd failed
asks_failed e (Err f) why old new failed a = record { asked = a.asked; sent = a.sent }
