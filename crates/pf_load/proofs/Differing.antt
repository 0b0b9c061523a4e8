-- By what two lists differ, and which entries a delete wouldn't find.
use Rattle.std.proofs.Common.{◌≡◌, ℕ, ◌+◌, ◌-◌, ◌<◌, ◌≤◌, List, [], ◌∷◌, ◌++◌, length, map, get_or, take, drop, Option, Result, refl, sym, ap, ◌∙◌, append_assoc, append-nil, take-append-drop}
use Rattle.std.proofs.lemmas.List.{drop_all, map-append}
use Rattle.std.specs.declared.io.Error.{Error}
use Rattle.pf_addr.specs.Writing.{Continues}
use Rattle.pf_form.specs.Form.Words.{Word}
use Rattle.pf_table.specs.Entries.{PlainEntry}
use Rattle.pf_table.specs.declared.answer.Deletion.{Deletion}
use Rattle.pf_conf.specs.Tables.{entry_text}
use Rattle.pf_load.specs.Changes.{changes_text, WritesDifference, if_absent, absent_by}
use Rattle.pf_conf.proofs.CommitSteps.{drop_item}

-- ---- two lists

-- a list's front, the first of the others, and those behind them
parted : (xs rest part : List Word) (n m : ℕ) → rest ≡ drop n xs → part ≡ take m rest → xs ≡ take n xs ++ part ++ drop m rest
parted xs rest part n m following first =
    sym (append_assoc (take n xs) part (drop m rest) ∙ ap (λ (l : List Word). take n xs ++ (l ++ drop m rest)) first ∙ ap (λ (l : List Word). take n xs ++ l) (take-append-drop m rest)
    ∙ ap (λ (l : List Word). take n xs ++ l) following ∙ take-append-drop n xs)

-- two lists with the same front and the same back, given what is behind the front of each
pub differs : (heading : Word) (old new olds news gone come : List Word) (n k : ℕ) (so_far : Result (Unit {0}) Error) (mid : Option (List ℕ)) (r : Result (Unit {0}) Error) (now : Option (List ℕ))
    → take n old ≡ take n new → olds ≡ drop n old → news ≡ drop n new
    → drop (length olds - k) olds ≡ drop (length news - k) news → gone ≡ take (length olds - k) olds → come ≡ take (length news - k) news
    → Continues so_far mid r now (changes_text heading gone come) → WritesDifference heading old new so_far mid r now
differs heading old new olds news gone come n k so_far mid r now front is_olds is_news back is_gone is_come reported = record {
  front = take n old;
  back = drop (length olds - k) olds;
  gone = gone;
  come = come;
  was = parted old olds gone n (length olds - k) is_olds is_gone;
  is = parted new news come n (length news - k) is_news is_come ∙ ap (λ (l : List Word). l ++ come ++ drop (length news - k) news) (sym front)
      ∙ ap (λ (l : List Word). take n old ++ come ++ l) (sym back);
  reported = reported;
}

-- ---- entries

-- one more entry, with the answer for it
pub one_more_absent : (got more all : List Word) (ds : List Deletion) (es : List PlainEntry) (i : ℕ) (d : Deletion) (e : PlainEntry) → i < length ds → i < length es → d ≡ get_or ds i d → e ≡ get_or es i e
    → more ≡ got ++ map entry_text (if_absent d e) → got ++ map entry_text (absent_by (drop i ds) (drop i es)) ≡ all → more ++ map entry_text (absent_by (drop (i + 1) ds) (drop (i + 1) es)) ≡ all
one_more_absent got more all ds es i d e in_ds in_es at_ds at_es pushed so_far =
    let rest : List PlainEntry = absent_by (drop (i + 1) ds) (drop (i + 1) es) in
    let step : absent_by (drop i ds) (drop i es) ≡ if_absent d e ++ rest =
    ap (λ (l : List Deletion). absent_by l (drop i es)) (drop_item ds i d in_ds at_ds) ∙ ap (λ (l : List PlainEntry). absent_by (d ∷ drop (i + 1) ds) l) (drop_item es i e in_es at_es) in
    ap (λ (l : List Word). l ++ map entry_text rest) pushed ∙ append_assoc got (map entry_text (if_absent d e)) (map entry_text rest)
    ∙ ap (λ (l : List Word). got ++ l) (sym (map-append entry_text (if_absent d e) rest)) ∙ ap (λ (l : List PlainEntry). got ++ map entry_text l) (sym step) ∙ so_far

none_left : (ds : List Deletion) → absent_by ds [] ≡ []
none_left [] = refl
none_left (d ∷ ds) = refl

pub all_absent : (got all : List Word) (ds : List Deletion) (es : List PlainEntry) (i : ℕ) → length es ≤ i → got ++ map entry_text (absent_by (drop i ds) (drop i es)) ≡ all → got ≡ all
all_absent got all ds es i past so_far =
    let nothing : absent_by (drop i ds) (drop i es) ≡ [] = ap (absent_by (drop i ds)) (drop_all i es past) ∙ none_left (drop i ds) in
    sym (append-nil got) ∙ ap (λ (l : List PlainEntry). got ++ map entry_text l) (sym nothing) ∙ so_far
