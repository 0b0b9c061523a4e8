-- A host's word is read exactly where it spells a host, and the words written for a host spell it.
use Rattle.std.proofs.{Common.{◌≡◌, ℕ, ◌==◌, Bool, true, false, [], ◌∷◌, ◌++◌, length, drop, Option, Some, None, Result, Ok, Err, inl, inr, refl, sym, ap, ◌∙◌, subst, arith}, lemmas.Bool.lt-ltb, lemmas.List.Elements.All-head, lemmas.List.Folds.list_all-append, lemmas.List.Sums.list_all-from_AllPass}
use Rattle.std.specs.{Prelude.{codes, nat_lt, if◌then◌else◌}, List.slice_index_or, Option.option_and_then}
use Rattle.pf_addr.specs.{Address.{PlainNet, IsNetwork}, Grammar.SpellsNet, Reading.net_at, Laws.{Reading.{net_found, net_only, net_without}, Places.without, Spelling.{IsNetByte, net_text_spells, net_text_is_word}}, Spelling.net_text, Path.{Names.{IsTableName, table_name_of}, References.{rest_after, before}}}
use Rattle.pf_form.specs.{Form.Words.Word, Laws.Form.Decided.bind_ok}
use Rattle.pf_addr.specs.declared.{fault.AddrFault.AddrFault, path.limits.TheConstants.TABLE_NAME_LIMIT}
use Rattle.pf_addr.proofs.{NamesRead.{name_found, name_only, name_bytes}, ReferencesRead.{rest_after_is, before_is, before_end}}
use Rattle.pf_rule.specs.{Value.Values.{begins_with, as_word}, Laws.Value.Reading.front_is, Value.Spacing.is_word, Value.Written.Written, Host.Hosts.{in_brackets, is_negated, SpellsUnmarked, SpellsMarked, SpellsHost, bracketed, net_of, marked_by, marked, a_negated_host, host_of, a_host, IsHost, host, host_words}}
use Rattle.pf_rule.specs.declared.{host.host.Host.Host, host.host.Host.TheVariants.{Any, Net, Table}}

-- ---- a table in its brackets

between_is : (w name : Word) → bracketed w ≡ Some name → w ≡ in_brackets name
between_is w name e = by (rest_after (codes "<") w) refl e where
  by : (o : Option Word) → rest_after (codes "<") w ≡ o → option_and_then (before (codes ">")) o ≡ Some name → w ≡ in_brackets name
  by None front e = absurd cc
  by (Some rest) front e = rest_after_is (codes "<") w rest front ∙ ap (λ (t : Word). codes "<" ++ t) (before_is (codes ">") rest name e)

brackets_taken : (name : Word) → bracketed (in_brackets name) ≡ Some name
brackets_taken name = before_end name (codes ">")

-- ---- a network

net_given : (r : Result PlainNet AddrFault) (n : PlainNet) → as_word r ≡ Ok n → r ≡ Ok n
net_given (Ok m) n e = cc
net_given (Err f) n e = absurd cc

net_found_of : (w : Word) (n : PlainNet) → net_of w ≡ Ok n → SpellsNet w n
net_found_of w n e = net_found w n (net_given (net_at w) n e)

-- no network's text begins with "!" or "<"
net_without_front : (b : ℕ) (w : Word) (n : PlainNet) → without b w → begins_with (b ∷ []) w ≡ false
net_without_front b [] n all = refl
net_without_front b (c ∷ cs) n all = let other : (c == b) ≡ false = All-head (λ c. (c == b) ≡ false) c cs all in rw other refl

net_unmarked : (w : Word) (n : PlainNet) → SpellsNet w n → begins_with (codes "!") w ≡ false
net_unmarked w n is = net_without_front 33 w n (net_without 33 w n (record { digit = omega arith; dot = refl; colon = refl }) refl is)

net_unbracketed : (w : Word) (n : PlainNet) → SpellsNet w n → bracketed w ≡ None
net_unbracketed w n is =
    let other : begins_with (codes "<") w ≡ false = net_without_front 60 w n (net_without 60 w n (record { digit = omega arith; dot = refl; colon = refl }) refl is) in
    rw other refl

-- ---- without its mark

-- the host is negated as given, and the word spells it
abbrev pub Unmarked : Bool → Word → Host → Type 0
Unmarked negated w h = (is_negated h ≡ negated) × SpellsUnmarked w h

pub marked_found : (negated : Bool) (w : Word) (h : Host) → marked negated w ≡ Ok h → Unmarked negated w h
marked_found negated w h e = by (bracketed w) refl e where
  by : (o : Option Word) → bracketed w ≡ o → marked_by negated w o ≡ Ok h → Unmarked negated w h
  by (Some name) between e =
      let (n, read, made) = bind_ok (table_name_of name) (λ n. Ok (Table n negated)) h e in
      let is : Table n negated ≡ h = cc in
      let found = name_found TABLE_NAME_LIMIT name n read in
      subst (Unmarked negated w) is (refl, (found.0, between_is w name between ∙ ap in_brackets (sym found.1)))
  by None between e =
      let (n, read, made) = bind_ok (net_of w) (λ n. Ok (Net n negated)) h e in
      let is : Net n negated ≡ h = cc in
      subst (Unmarked negated w) is (refl, net_found_of w n read)

marked_read : (w : Word) (h : Host) → SpellsUnmarked w h → marked (is_negated h) w ≡ Ok h
marked_read w Any is = absurd is
marked_read w (Net n negated) is = rw (net_unbracketed w n is, net_only w n is) refl
marked_read w (Table name negated) is = rw (is.1, brackets_taken name, name_only TABLE_NAME_LIMIT name is.0) refl

-- ---- a word

pub host_found : (w : Word) (h : Host) → host_of w ≡ Ok h → SpellsHost w h
host_found w h e = by (begins_with (codes "!") w) refl e where
  by : (t : Bool) → begins_with (codes "!") w ≡ t → (if t then marked true (drop 1 w) else marked false w) ≡ Ok h → SpellsHost w h
  by true b e = let found = marked_found true (drop 1 w) h e in rw found.0 (drop 1 w, front_is (codes "!") w b, found.1)
  by false b e = let found = marked_found false w h e in rw found.0 found.1

unmarked : (w : Word) (h : Host) → SpellsUnmarked w h → begins_with (codes "!") w ≡ false
unmarked w Any is = absurd is
unmarked w (Net n negated) is = net_unmarked w n is
unmarked w (Table name negated) is = rw is.1 refl

pub host_only : (w : Word) (h : Host) → SpellsHost w h → host_of w ≡ Ok h
host_only w h is = by (is_negated h) refl is where
  by : (t : Bool) → is_negated h ≡ t → SpellsMarked t w h → host_of w ≡ Ok h
  by true e (text, is, rest) = ap host_of is ∙ ap (λ (t : Bool). marked t text) (sym e) ∙ marked_read text h rest
  by false e is = rw (unmarked w h is) (ap (λ (t : Bool). marked t w) (sym e) ∙ marked_read w h is)

-- ---- as it is written

net_byte : (b : ℕ) → IsNetByte b → nat_lt 32 b ≡ true
net_byte b (inl is) = lt-ltb 32 b (omega (arith, is.0))
net_byte b (inr is) = lt-ltb 32 b (omega (arith, is.0))

net_good : (n : PlainNet) → IsNetwork n → is_word (net_text n) ≡ true
net_good n is = let w = net_text_is_word n is in rw (lt-ltb 0 (length (net_text n)) w.some, list_all-from_AllPass (nat_lt 32) (net_text n) (λ k d lt. net_byte (slice_index_or (net_text n) k d) (w.bytes k d lt))) refl

brackets_good : (name : Word) → IsTableName name → is_word (in_brackets name) ≡ true
brackets_good name is = rw (lt-ltb 0 (length (in_brackets name)) (omega arith), list_all-append (nat_lt 32) name (codes ">"), name_bytes TABLE_NAME_LIMIT name is) refl

pub host_written : (h : Host) → IsHost h → Written host h (host_words h)
unfolding host a_negated_host a_host
host_written Any is = record { spells = inl ([], (refl, refl), refl); words = refl }
host_written (Net n true) is = record { spells = inr (inl (net_text n ∷ [], (net_text n, marked_read (net_text n) (Net n true) (net_text_spells n is), refl), refl)); words = rw (net_good n is) refl }
host_written (Net n false) is = record { spells = inr (inr (net_text n, host_only (net_text n) (Net n false) (net_text_spells n is), refl)); words = rw (net_good n is) refl }
host_written (Table name true) is = record { spells = inr (inl (in_brackets name ∷ [], (in_brackets name, marked_read (in_brackets name) (Table name true) (is, refl), refl), refl)); words = rw (brackets_good name is) refl }
host_written (Table name false) is = record { spells = inr (inr (in_brackets name, host_only (in_brackets name) (Table name false) (is, refl), refl)); words = rw (brackets_good name is) refl }
