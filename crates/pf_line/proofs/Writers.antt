-- Parts of a line, lines, tickets and entries, that are written one after the other.
use Rattle.std.proofs.{Common.{◌≡◌, ℕ, zero, suc, ◌+◌, ◌<◌, List, [], ◌∷◌, ◌++◌, length, take, get_or, Option, Result, refl, sym, ap, ◌∙◌, subst, arith, append_assoc, append-nil, add-zero}, lemmas.List.{take_more, length-append, length-take}}
use Rattle.std.specs.declared.io.Error.{Error}
use Rattle.pf_addr.specs.Writing.{Wrote, Continues, Continues-then}
use Rattle.pf_rule.specs.Rules.{PlainRule}
use Rattle.pf_table.specs.Entries.{PlainEntry}
use Rattle.pf_ticket.specs.Names.{ticket, tickets_from}
use Rattle.pf_anchor.specs.Tables.{PlainPlacedTable}
use Rattle.pf_line.specs.{Reply.Texts.{ticket_text, tickets_text, entry_text, entries_text}, Reply.TextLines.{newlines, lines_text, HasLines, GoesOn, WroteLines}, Reply.Replies.{rule_line, rule_lines, table_line, table_lines}}
use Rattle.pf_line.proofs.Newlines.{newlines-append}

pub goes_on : {A B C : Type 0} {q : Result A Error} {r : Result B Error} {s : Result C Error} {old mid new : Option (List ℕ)} {a b : List ℕ} → GoesOn q old r mid a → GoesOn r mid s new b → GoesOn q old s new (a ++ b)
goes_on {a = a} {b = b} first second = record { written = Continues-then first.written second.written; one_line = omega (arith, newlines-append a b, first.one_line, second.one_line) }

-- with nothing to write, what was written stays
pub still : (q : Result (Unit {0}) Error) (old : Option (List ℕ)) → GoesOn q old q old []
still q old = record { written = record { following = λ at front w. subst (λ (t : List ℕ). Wrote q at old t) (sym (append-nil front)) w }; one_line = refl }

-- ---- lines

-- lines, and a last one
pub lined : (n : ℕ) (lines last : List ℕ) → newlines lines ≡ n → newlines last ≡ 0 → HasLines (n + 1) (lines ++ (last ++ 10 ∷ []))
lined n lines last e f = record {
  front = lines ++ last;
  ends = sym (append_assoc lines last (10 ∷ []));
  count = omega (arith, newlines-append lines (last ++ 10 ∷ []), newlines-append last (10 ∷ []), e, f);
}

last_added : (ls : List (List ℕ)) (l : List ℕ) → lines_text (ls ++ l ∷ []) ≡ lines_text ls ++ (l ++ 10 ∷ [])
last_added [] l = refl
last_added (k ∷ ls) l = ap (λ (t : List ℕ). k ++ 10 ∷ t) (last_added ls l) ∙ sym (append_assoc k (10 ∷ lines_text ls) (l ++ 10 ∷ []))

pub one_more_line : (q s t : Result (Unit {0}) Error) (old mid more new : Option (List ℕ)) (ls : List (List ℕ)) (l : List ℕ) → WroteLines q old mid ls → GoesOn q mid s more l → Continues s more t new (10 ∷ []) → WroteLines t old new (ls ++ l ∷ [])
one_more_line q s t old mid more new ls l p w e =
    let whole = lined (length ls) (lines_text ls) l p.count w.one_line in
    record {
      text = rw (last_added ls l) ((Continues-then w.written e).following old (lines_text ls) p.text);
      count = rw (last_added ls l) (omega (arith, whole.count, length-append ls (l ∷ [])));
    }

-- ---- paths

pub one_more_path : (q s t : Result (Unit {0}) Error) (old mid more new : Option (List ℕ)) (ps : List (List ℕ)) (i : ℕ) (p : List ℕ) → i < length ps → p ≡ get_or ps i p → WroteLines q old mid (take i ps) → GoesOn q mid s more p → Continues s more t new (10 ∷ []) → WroteLines t old new (take (i + 1) ps)
one_more_path q s t old mid more new ps i p lt is before w e =
    let more_paths : take (i + 1) ps ≡ take i ps ++ p ∷ [] = take_more ps i p lt ∙ ap (λ (x : List ℕ). take i ps ++ x ∷ []) (sym is) in
    subst (WroteLines t old new) (sym more_paths) (one_more_line q s t old mid more new (take i ps) p before w e)

-- ---- rules

last_rule : (n : ℕ) (rs : List PlainRule) (r : PlainRule) → rule_lines n (rs ++ r ∷ []) ≡ rule_lines n rs ++ rule_line (n + length rs) r ∷ []
last_rule n [] r = let e : n + 0 ≡ n = omega arith in rw e refl
last_rule n (q ∷ rs) r =
    let e : n + 1 + length rs ≡ n + length (q ∷ rs) = omega arith in
    ap (λ (ls : List (List ℕ)). rule_line n q ∷ ls) (last_rule (n + 1) rs r ∙ ap (λ (m : ℕ). rule_lines (n + 1) rs ++ rule_line m r ∷ []) e)

rules_before : (rs : List PlainRule) (i : ℕ) (r : PlainRule) → i < length rs → r ≡ get_or rs i r → rule_lines 0 (take (i + 1) rs) ≡ rule_lines 0 (take i rs) ++ rule_line i r ∷ []
rules_before rs i r lt is =
    let at : 0 + length (take i rs) ≡ i = omega (arith, length-take i rs) in
    let more : take (i + 1) rs ≡ take i rs ++ r ∷ [] = take_more rs i r lt ∙ ap (λ (x : PlainRule). take i rs ++ x ∷ []) (sym is) in
    ap (rule_lines 0) more ∙ last_rule 0 (take i rs) r ∙ ap (λ (m : ℕ). rule_lines 0 (take i rs) ++ rule_line m r ∷ []) at

pub one_more_rule : (q s t : Result (Unit {0}) Error) (old mid more new : Option (List ℕ)) (rs : List PlainRule) (i : ℕ) (r : PlainRule) → i < length rs → r ≡ get_or rs i r → WroteLines q old mid (rule_lines 0 (take i rs)) → GoesOn q mid s more (rule_line i r) → Continues s more t new (10 ∷ []) → WroteLines t old new (rule_lines 0 (take (i + 1) rs))
one_more_rule q s t old mid more new rs i r lt is p w e =
    subst (WroteLines t old new) (sym (rules_before rs i r lt is)) (one_more_line q s t old mid more new (rule_lines 0 (take i rs)) (rule_line i r) p w e)

-- ---- tables

last_table : (ts : List PlainPlacedTable) (t : PlainPlacedTable) → table_lines (ts ++ t ∷ []) ≡ table_lines ts ++ table_line t ∷ []
last_table [] t = refl
last_table (u ∷ ts) t = ap (λ (ls : List (List ℕ)). table_line u ∷ ls) (last_table ts t)

tables_before : (ts : List PlainPlacedTable) (i : ℕ) (t : PlainPlacedTable) → i < length ts → t ≡ get_or ts i t → table_lines (take (i + 1) ts) ≡ table_lines (take i ts) ++ table_line t ∷ []
tables_before ts i t lt is =
    let more : take (i + 1) ts ≡ take i ts ++ t ∷ [] = take_more ts i t lt ∙ ap (λ (x : PlainPlacedTable). take i ts ++ x ∷ []) (sym is) in
    ap table_lines more ∙ last_table (take i ts) t

pub one_more_table : (q s r : Result (Unit {0}) Error) (old mid more new : Option (List ℕ)) (ts : List PlainPlacedTable) (i : ℕ) (t : PlainPlacedTable) → i < length ts → t ≡ get_or ts i t → WroteLines q old mid (table_lines (take i ts)) → GoesOn q mid s more (table_line t) → Continues s more r new (10 ∷ []) → WroteLines r old new (table_lines (take (i + 1) ts))
one_more_table q s r old mid more new ts i t lt is p w e =
    subst (WroteLines r old new) (sym (tables_before ts i t lt is)) (one_more_line q s r old mid more new (table_lines (take i ts)) (table_line t) p w e)

-- ---- entries

last_entry : (rows : List PlainEntry) (row : PlainEntry) → entries_text (rows ++ row ∷ []) ≡ entries_text rows ++ (32 ∷ entry_text row)
last_entry [] row = append-nil (32 ∷ entry_text row)
last_entry (first ∷ rows) row = ap (λ (t : List ℕ). 32 ∷ entry_text first ++ t) (last_entry rows row) ∙ sym (append_assoc (32 ∷ entry_text first) (entries_text rows) (32 ∷ entry_text row))

-- what was written so far: some of the entries; the others are left
pub record WroteSome (p : Result (Unit {0}) Error) (old : Option (List ℕ)) (q : Result (Unit {0}) Error) (mid : Option (List ℕ))
    (rows left : List PlainEntry) : Type 0 where
  pub some : List PlainEntry
  pub whole : some ++ left ≡ rows
  pub written : GoesOn p old q mid (entries_text some)

-- a space, and one more entry
pub one_more_entry : (p q s t : Result (Unit {0}) Error) (old mid more new : Option (List ℕ)) (rows left rest : List PlainEntry) (row : PlainEntry) →
    left ≡ row ∷ rest → WroteSome p old q mid rows left → GoesOn q mid s more (32 ∷ []) → GoesOn s more t new (entry_text row) →
    WroteSome p old t new rows rest
one_more_entry p q s t old mid more new rows left rest row is so_far b c = record {
  some = so_far.some ++ row ∷ [];
  whole = append_assoc so_far.some (row ∷ []) rest ∙ ap (λ (l : List PlainEntry). so_far.some ++ l) (sym is) ∙ so_far.whole;
  written = subst (λ (text : List ℕ). GoesOn p old t new text) (sym (last_entry so_far.some row)) (goes_on so_far.written (goes_on b c));
}

pub all_entries : (p q : Result (Unit {0}) Error) (old new : Option (List ℕ)) (rows left : List PlainEntry) → left ≡ [] → WroteSome p old q new rows left → GoesOn p old q new (entries_text rows)
all_entries p q old new rows left none so_far =
    let whole : so_far.some ≡ rows = sym (append-nil so_far.some) ∙ ap (λ (l : List PlainEntry). so_far.some ++ l) (sym none) ∙ so_far.whole in
    subst (λ (r : List PlainEntry). GoesOn p old q new (entries_text r)) whole so_far.written

-- ---- tickets

abbrev pub texts_from : ℕ → ℕ → ℕ → List ℕ
texts_from epoch count n = tickets_text (tickets_from epoch count n)

last_ticket : (epoch count i : ℕ) → texts_from epoch count (i + 1) ≡ texts_from epoch count i ++ (32 ∷ ticket_text (ticket epoch (count + i)))
last_ticket epoch count zero = let e = add-zero count in rw e (append-nil (32 ∷ ticket_text (ticket epoch count)))
last_ticket epoch count (suc i) =
    let first : List ℕ = 32 ∷ ticket_text (ticket epoch count) in
    let len : suc i + 1 ≡ suc (i + 1) = omega arith in
    let at : count + 1 + i ≡ count + suc i = omega arith in
    ap (λ (m : ℕ). texts_from epoch count m) len
    ∙ ap (λ (t : List ℕ). first ++ t) (last_ticket epoch (count + 1) i ∙ ap (λ (m : ℕ). texts_from epoch (count + 1) i ++ (32 ∷ ticket_text (ticket epoch m))) at)
    ∙ sym (append_assoc first (texts_from epoch (count + 1) i) (32 ∷ ticket_text (ticket epoch (count + suc i))))

-- one more is written
pub one_more_ticket : (p q s : Result (Unit {0}) Error) (old mid new : Option (List ℕ)) (epoch count i : ℕ) → GoesOn p old q mid (texts_from epoch count i) → GoesOn q mid s new (32 ∷ ticket_text (ticket epoch (count + i))) → GoesOn p old s new (texts_from epoch count (i + 1))
one_more_ticket p q s old mid new epoch count i a b = subst (λ (t : List ℕ). GoesOn p old s new t) (sym (last_ticket epoch count i)) (goes_on a b)
