-- Texts that are written one after another.
use Rattle.std.proofs.Common.{◌≡◌, ℕ, zero, suc, ◌+◌, ◌-◌, ◌<◌, ◌≤◌, List, [], ◌∷◌, ◌++◌, length, take, drop, get_or, Option, Some, Result, Ok, Err, refl, sym, ap, ◌∙◌, subst, arith, append_assoc, append-nil, length-drop, take-append-drop}
use Rattle.std.proofs.{lemmas.List.take_all, lemmas.Grind.flat_map-append}
use Rattle.std.specs.{List.flat_map, Io.KnownBytes.{Appends, Consumes}, Option.option_to_list, Result.IsErrAnd, declared.io.Error.Error}
use Rattle.pf_addr.specs.Writing.{Wrote, Writes, WritesFront, WritesFront-longer, WritesFront-then, Continues, Continues-then, after_nothing, Appends-none, Appends-then}
use Rattle.pf_form.specs.Form.Words.{Word}
use Rattle.pf_table.specs.Entries.{PlainEntry}
use Rattle.pf_conf.specs.declared.commit.lines.TheConstants.{PART}
use Rattle.pf_conf.proofs.CommitSteps.{take_item, drop_item}
use Rattle.pf_conf.specs.Commit.Lines.{parts_within, parts, extend_line, extend_lines}

-- with nothing to write, what was written stays
pub still : (q : Result (Unit {0}) Error) (old : Option (List ℕ)) → Continues {B = Unit {0}} q old q old []
still q old = record { following = λ at front w. subst (λ (t : List ℕ). Wrote q at old t) (sym (append-nil front)) w }

-- a text for each of those before this one
abbrev pub Before : {X : Type 0} → (X → List ℕ) → Result (Unit {0}) Error → Option (List ℕ) → Result (Unit {0}) Error → Option (List ℕ) → List X → ℕ → Type 0
Before text p old q new xs i = Continues p old q new (flat_map text (take i xs))

pub one_more : {X : Type 0} (text : X → List ℕ) (p q r : Result (Unit {0}) Error) (old mid new : Option (List ℕ)) (xs : List X) (i : ℕ) (x : X) → i < length xs → x ≡ get_or xs i x → Before text p old q mid xs i → Continues q mid r new (text x) → Before text p old r new xs (i + 1)
one_more {X} text p q r old mid new xs i x within here so_far next =
    let more : flat_map text (take (i + 1) xs) ≡ flat_map text (take i xs) ++ text x =
    ap (flat_map text) (take_item xs i x within here) ∙ flat_map-append text (take i xs) (x ∷ []) ∙ ap (λ (l : List ℕ). flat_map text (take i xs) ++ l) (append-nil (text x)) in
    subst (λ (t : List ℕ). Continues p old r new t) (sym more) (Continues-then so_far next)

-- what is written to memory is there behind what was there
pub grown : (r : Result (Unit {0}) Error) (done : Unit {0}) (old new text : List ℕ) → Continues {A = Unit {0}} (Ok tt) (Some old) r (Some new) text → r ≡ Ok done → new ≡ old ++ text
grown r done old new text written is =
    let w : Wrote r (Some old) (Some new) text = after_nothing tt written in
    let all : Wrote {A = Unit {0}} (Ok done) (Some old) (Some new) text = subst (λ (q : Result (Unit {0}) Error). Wrote q (Some old) (Some new) text) is w in
    all.0

pub made : (r : Result (Unit {0}) Error) (done : Unit {0}) (old new text : List ℕ) → old ≡ [] → Continues {A = Unit {0}} (Ok tt) (Some old) r (Some new) text → r ≡ Ok done → new ≡ text
made r done old new text none written is = grown r done old new text written is ∙ ap (λ (l : List ℕ). l ++ text) none

-- one more text, behind what was there
pub one_more_after : {X : Type 0} (text : X → List ℕ) (before old new : List ℕ) (xs : List X) (i : ℕ) (x : X) → i < length xs → x ≡ get_or xs i x → old ≡ before ++ flat_map text (take i xs) → new ≡ old ++ text x → new ≡ before ++ flat_map text (take (i + 1) xs)
one_more_after {X} text before old new xs i x within here so_far next =
    let more : flat_map text (take (i + 1) xs) ≡ flat_map text (take i xs) ++ text x =
    ap (flat_map text) (take_item xs i x within here) ∙ flat_map-append text (take i xs) (x ∷ []) ∙ ap (λ (l : List ℕ). flat_map text (take i xs) ++ l) (append-nil (text x)) in
    next ∙ ap (λ (l : List ℕ). l ++ text x) so_far ∙ append_assoc before (flat_map text (take i xs)) (text x) ∙ ap (λ (l : List ℕ). before ++ l) (sym more)

-- ---- parts

-- so many parts are enough
enough : (n m : ℕ) (es : List PlainEntry) → length es ≤ n → length es ≤ m → parts_within n es ≡ parts_within m es
unfolding parts_within
enough zero zero es a b = refl
enough zero (suc m) [] a b = refl
enough zero (suc m) (e ∷ es) a b = absurd (omega arith)
enough (suc n) zero [] a b = refl
enough (suc n) zero (e ∷ es) a b = absurd (omega arith)
enough (suc n) (suc m) [] a b = refl
enough (suc n) (suc m) (e ∷ es) a b =
    let long : length (drop PART (e ∷ es)) ≡ length (e ∷ es) - PART = length-drop PART (e ∷ es) in
    ap (λ (ps : List (List PlainEntry)). take PART (e ∷ es) ∷ ps) (enough n m (drop PART (e ∷ es)) (omega (arith, long)) (omega (arith, long)))

-- the first part of some entries, and those of the others
pub first_part : (es : List PlainEntry) → 0 < length es → parts es ≡ take PART es ∷ parts (drop PART es)
unfolding parts_within
first_part [] some = absurd (omega arith)
first_part (e ∷ es) some =
    let long : length (drop PART (e ∷ es)) ≡ length (e ∷ es) - PART = length-drop PART (e ∷ es) in
    ap (λ (ps : List (List PlainEntry)). take PART (e ∷ es) ∷ ps) (enough (length es) (length (drop PART (e ∷ es))) (drop PART (e ∷ es)) (omega (arith, long)) (omega arith))

pub no_parts : (es : List PlainEntry) → length es ≡ 0 → parts es ≡ []
unfolding parts_within
no_parts [] none = refl
no_parts (e ∷ es) none = absurd (omega arith)

-- What was written so far of these entries' lines, where others are left.
pub record WroteParts (table : Word) (p : Result (Unit {0}) Error) (old : Option (List ℕ)) (q : Result (Unit {0}) Error) (mid : Option (List ℕ))
    (all left : List PlainEntry) : Type 0 where
  pub text : Word
  pub whole : text ++ extend_lines table left ≡ extend_lines table all
  pub written : Continues p old q mid text

pub no_part : (table : Word) (p : Result (Unit {0}) Error) (old : Option (List ℕ)) (all : List PlainEntry) → WroteParts table p old p old all all
no_part table p old all = record { text = []; whole = refl; written = still p old }

pub one_more_part : (table : Word) (p q r : Result (Unit {0}) Error) (old mid new : Option (List ℕ)) (all left part rest : List PlainEntry) → 0 < length left → part ≡ take PART left → rest ≡ drop PART left → WroteParts table p old q mid all left → Continues q mid r new (extend_line table part) → WroteParts table p old r new all rest
one_more_part table p q r old mid new all left part rest some first others so_far next =
    let line : extend_line table part ++ extend_lines table rest ≡ extend_lines table left =
    ap (λ (es : List PlainEntry). extend_line table es ++ extend_lines table rest) first
    ∙ ap (λ (es : List PlainEntry). extend_line table (take PART left) ++ extend_lines table es) others
    ∙ ap (flat_map (extend_line table)) (sym (first_part left some)) in
    record {
      text = so_far.text ++ extend_line table part;
      whole = append_assoc so_far.text (extend_line table part) (extend_lines table rest) ∙ ap (λ (t : Word). so_far.text ++ t) line ∙ so_far.whole;
      written = Continues-then so_far.written next;
    }

pub all_parts : (table : Word) (p q : Result (Unit {0}) Error) (old mid : Option (List ℕ)) (all left : List PlainEntry) → length left ≡ 0 → WroteParts table p old q mid all left → Continues p old q mid (extend_lines table all)
all_parts table p q old mid all left none so_far =
    let nothing : extend_lines table left ≡ [] = ap (flat_map (extend_line table)) (no_parts left none) in
    let whole : so_far.text ≡ extend_lines table all =
    sym (append-nil so_far.text) ∙ ap (λ (t : Word). so_far.text ++ t) (sym nothing) ∙ so_far.whole in
    subst (λ (t : Word). Continues p old q mid t) whole so_far.written

-- ---- what was sent

-- of some lines those before these were sent
pub record SentSome (old mid : Option (List ℕ)) (all left : List ℕ) : Type 0 where
  pub text : List ℕ
  pub whole : text ++ left ≡ all
  pub sent : Appends old mid text

pub sent_nothing : (old : Option (List ℕ)) (all : List ℕ) → SentSome old old all all
sent_nothing old all = record { text = []; whole = refl; sent = Appends-none old }

pub one_more_sent : (old mid new : Option (List ℕ)) (all left some rest : List ℕ) → some ++ rest ≡ left → SentSome old mid all left → Appends mid new some → SentSome old new all rest
one_more_sent old mid new all left some rest cut so_far next = record {
  text = so_far.text ++ some;
  whole = append_assoc so_far.text some rest ∙ ap (λ (l : List ℕ). so_far.text ++ l) cut ∙ so_far.whole;
  sent = Appends-then old mid new so_far.text some so_far.sent next;
}

pub all_sent : (old mid : Option (List ℕ)) (all left : List ℕ) → length left ≡ 0 → SentSome old mid all left → Appends old mid all
all_sent old mid all [] none so_far = subst (Appends old mid) (sym (append-nil so_far.text) ∙ so_far.whole) so_far.sent
all_sent old mid all (b ∷ bs) none so_far = absurd (omega arith)

-- a front of what is left was sent
pub stopped : (old mid new : Option (List ℕ)) (all left : List ℕ) → SentSome old mid all left → WritesFront mid new left → WritesFront old new all
stopped old mid new all left so_far front = subst (WritesFront old new) so_far.whole (WritesFront-then old mid new so_far.text left so_far.sent front)

-- a text is a front of itself
pub whole_front : (old new : Option (List ℕ)) (text : List ℕ) → Appends old new text → WritesFront old new text
whole_front old new text sent = (length text, subst (Appends old new) (sym (take-all-of text)) sent) where
  take-all-of : (xs : List ℕ) → take (length xs) xs ≡ xs
  take-all-of xs = take_all (length xs) xs (omega arith)

-- of a text nothing was sent yet
pub no_front : (old : Option (List ℕ)) (text : List ℕ) → WritesFront old old text
no_front old text = (0, Appends-none old)

-- whatever came of it, a front of a text was sent
pub some_front : {A E : Type 0} (r : Result A E) (old new : Option (List ℕ)) (text : List ℕ) → Writes r old new text → WritesFront old new text
some_front (Ok u) old new text sent = whole_front old new text sent
some_front (Err e) old new text front = front

-- a text that was sent whole, whatever comes of it
pub sent_whole : {A E : Type 0} (r : Result A E) (old new : Option (List ℕ)) (text : List ℕ) → Appends old new text → Writes r old new text
sent_whole (Ok u) old new text sent = sent
sent_whole (Err e) old new text sent = whole_front old new text sent

-- a text of which a front was sent, with a fault
pub sent_front : {A E : Type 0} (r : Result A E) (why : E → Type 0) (old new : Option (List ℕ)) (text : List ℕ) → IsErrAnd r why → WritesFront old new text → Writes r old new text
sent_front (Ok u) why old new text failed front = absurd failed
sent_front (Err e) why old new text failed front = front

-- of what is left a front of the next lines was sent
pub stopped_within : (old mid new : Option (List ℕ)) (all left some rest : List ℕ) → some ++ rest ≡ left → SentSome old mid all left → WritesFront mid new some → WritesFront old new all
stopped_within old mid new all left some rest cut so_far front =
    stopped old mid new all left so_far (subst (WritesFront mid new) cut (WritesFront-longer mid new some rest front))

pub cut_in_two : (left some rest : List ℕ) (n : ℕ) → some ≡ take n left → rest ≡ drop n left → some ++ rest ≡ left
cut_in_two left some rest n front back =
    ap (λ (l : List ℕ). l ++ rest) front ∙ ap (λ (l : List ℕ). take n left ++ l) back ∙ take-append-drop n left

-- ---- one text after another

pub one_more_text : {X : Type 0} (text : X → List ℕ) (old mid new : Option (List ℕ)) (xs : List X) (i : ℕ) (x : X) → i < length xs → x ≡ get_or xs i x → Appends old mid (flat_map text (take i xs)) → Appends mid new (text x) → Appends old new (flat_map text (take (i + 1) xs))
one_more_text {X} text old mid new xs i x within here so_far next =
    let more : flat_map text (take (i + 1) xs) ≡ flat_map text (take i xs) ++ text x =
    ap (flat_map text) (take_item xs i x within here) ∙ flat_map-append text (take i xs) (x ∷ []) ∙ ap (λ (l : List ℕ). flat_map text (take i xs) ++ l) (append-nil (text x)) in
    subst (Appends old new) (sym more) (Appends-then old mid new (flat_map text (take i xs)) (text x) so_far next)

-- of this text a front was sent
pub stopped_at_text : {X : Type 0} (text : X → List ℕ) (old mid new : Option (List ℕ)) (xs : List X) (i : ℕ) (x : X) → i < length xs → x ≡ get_or xs i x → Appends old mid (flat_map text (take i xs)) → WritesFront mid new (text x) → WritesFront old new (flat_map text xs)
stopped_at_text {X} text old mid new xs i x within here so_far front =
    let rest : flat_map text (drop i xs) ≡ text x ++ flat_map text (drop (i + 1) xs) = ap (flat_map text) (drop_item xs i x within here) in
    let all : flat_map text (take i xs) ++ (text x ++ flat_map text (drop (i + 1) xs)) ≡ flat_map text xs =
    ap (λ (l : List ℕ). flat_map text (take i xs) ++ l) (sym rest) ∙ sym (flat_map-append text (take i xs) (drop i xs)) ∙ ap (flat_map text) (take-append-drop i xs) in
    subst (WritesFront old new) all
    (WritesFront-then old mid new (flat_map text (take i xs)) (text x ++ flat_map text (drop (i + 1) xs)) so_far (WritesFront-longer mid new (text x) (flat_map text (drop (i + 1) xs)) front))

-- ---- what was read

-- a line that was read into nothing, and its newline
pub a_line_read : (old new : Option (List ℕ)) (before all line : List ℕ) (last : Option ℕ) → before ≡ [] → all ≡ line ++ option_to_list last → last ≡ Some 10 → Consumes old new (drop (length before) all) → Consumes old new (line ++ 10 ∷ [])
a_line_read old new before all line last none parts is read =
    let following : drop (length before) all ≡ line ++ 10 ∷ [] =
    ap (λ (l : List ℕ). drop (length l) all) none ∙ parts ∙ ap (λ (o : Option ℕ). line ++ option_to_list o) is in
    subst (Consumes old new) following read
