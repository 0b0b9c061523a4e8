-- A word is read as a reference exactly where the grammar takes it.
use Rattle.std.proofs.{Common.{◌≡◌, inl, inr, ℕ, ◌-◌, ◌<◌, ◌≤◌, ◌⊎◌, ◌||◌, Bool, true, false, List, [], ◌∷◌, ◌++◌, length, take, drop, Some, None, Option, Ok, Err, refl, sym, ap, subst, ◌∙◌, append-nil, arith}, lemmas.Bool.and_parts, lemmas.Bool.Decides.nat_tests, lemmas.List.{length-append, take_at, take-append-drop}, lemmas.List.Folds.list_all-append, lemmas.List.Sums.{AllPass-from_list_all, list_all-from_AllPass}, lemmas.Slice.Eq.bytes_eq-Decides, Math.Seq.drop-append_seam}
use Rattle.std.specs.{Prelude.{if◌then◌else◌, nat_lt}, List.{AllByRecursion, join_with_byte, list_all, slice_index_or}, Option.{option_and_then, option_map_or}, Str.bytes_eq}
use Rattle.pf_addr.specs.declared.path.limits.TheConstants.{REFERENCE_LIMIT}
use Rattle.pf_form.specs.declared.form.fault.Kind.{Kind}
use Rattle.pf_addr.specs.{Path.{Names.is_name_byte, Paths.is_slash, PathGrammar.{IsComponent, IsNames}, References.{PlainReference, refers, quote, ending, rest_after, before, unquoted, split_wildcard, reference_fault, reference_in, reference_text, quoted}, ReferenceGrammar.{IsReference, SpellsReference}}, Laws.Path.References.{ReferenceIsSpelled, SpelledReferenceIsRead}}
use Rattle.pf_form.specs.Form.Words.{Word}
use Rattle.pf_addr.proofs.PathsRead.{names_only, names_found}

-- ---- fronts and ends

same_bytes : (a b : Word) → bytes_eq a b ≡ true → a ≡ b
same_bytes a b = (bytes_eq-Decides a b).0

pub rest_after_is : (front text rest : Word) → rest_after front text ≡ Some rest → text ≡ front ++ rest
rest_after_is front text rest e = by (bytes_eq (take (length front) text) front) refl e where
  by : (b : Bool) → bytes_eq (take (length front) text) front ≡ b → (if b then Some (drop (length front) text) else None) ≡ Some rest → text ≡ front ++ rest
  by true same e =
      let is : drop (length front) text ≡ rest = cc in
      sym (take-append-drop (length front) text) ∙ ap (λ (t : Word). t ++ drop (length front) text) (same_bytes (take (length front) text) front same) ∙ ap (λ (t : Word). front ++ t) is
  by false same e = absurd (cc)

pub before_is : (end text front : Word) → before end text ≡ Some front → text ≡ front ++ end
before_is end text front e = by (bytes_eq (drop (length text - length end) text) end) refl e where
  by : (b : Bool) → bytes_eq (drop (length text - length end) text) end ≡ b → (if b then Some (take (length text - length end) text) else None) ≡ Some front → text ≡ front ++ end
  by true same e =
      let is : take (length text - length end) text ≡ front = cc in
      sym (take-append-drop (length text - length end) text) ∙ ap (λ (t : Word). take (length text - length end) text ++ t) (same_bytes (drop (length text - length end) text) end same) ∙ ap (λ (t : Word). t ++ end) is
  by false same e = absurd (cc)

pub before_end : (front end : Word) → before end (front ++ end) ≡ Some front
before_end front end =
    let size : length (front ++ end) - length end ≡ length front = omega (arith, length-append front end) in
    rw (size, drop-append_seam front end, (bytes_eq-Decides end end).1 refl, take_at front end (length front) refl) refl

-- ---- the bytes of names

-- a byte of a name, or a slash
abbrev is_path_byte : ℕ → Bool
is_path_byte b = is_name_byte b || is_slash b

of_name : (b : ℕ) → is_name_byte b ≡ true → is_path_byte b ≡ true
of_name b e = rw e refl

component_bytes : (c : List ℕ) → IsComponent c → list_all is_path_byte c ≡ true
component_bytes c is = list_all-from_AllPass is_path_byte c (λ k d lt. of_name (slice_index_or c k d) (AllPass-from_list_all is_name_byte c is.bytes k d lt))

joined_bytes : (cs : List (List ℕ)) → AllByRecursion IsComponent cs → list_all is_path_byte (join_with_byte 47 cs) ≡ true
joined_bytes [] each = refl
joined_bytes (c ∷ []) each = component_bytes c each.0
joined_bytes (c ∷ d ∷ cs) each = rw (list_all-append, component_bytes c each.0, joined_bytes (d ∷ cs) each.1) refl

pub names_bytes : (w : Word) → IsNames w → list_all is_path_byte w ≡ true
names_bytes w is = ap (list_all is_path_byte) is.joined ∙ joined_bytes is.parts is.each

names_some : (w : Word) → IsNames w → 0 < length w
names_some w is = by is.parts is.each is.some is.joined where
  by : (cs : List (List ℕ)) → AllByRecursion IsComponent cs → 0 < length cs → w ≡ join_with_byte 47 cs → 0 < length w
  by [] each some e = absurd (omega (arith, some))
  by (c ∷ []) each some e = rw e each.0.some
  by (c ∷ d ∷ cs) each some e = rw e (omega (arith, each.0.some, length-append c (47 ∷ join_with_byte 47 (d ∷ cs))))

-- ---- the text of a reference

text_of_split : (text : Word) → reference_text (split_wildcard text) ≡ text
text_of_split text = by (before ending text) refl where
  by : (o : Option Word) → before ending text ≡ o → reference_text (option_map_or (λ names. refers names true) o (refers text false)) ≡ text
  by (Some names) is = sym (before_is ending text names is)
  by None is = append-nil text

-- no names end in "/*"
no_ending : (w : Word) → list_all is_path_byte w ≡ true → before ending w ≡ None
no_ending w bytes = by (before ending w) refl where
  by : (o : Option Word) → before ending w ≡ o → o ≡ None
  by None is = refl
  by (Some front) is =
      let whole : list_all is_path_byte (front ++ ending) ≡ true = subst (λ (t : Word). list_all is_path_byte t ≡ true) (before_is ending w front is) bytes in
      let both = rw list_all-append at whole in
      let end = (and_parts (list_all is_path_byte front) (list_all is_path_byte ending) both).1 in
      absurd (cc (end))

split_text : (r : PlainReference) → list_all is_path_byte r.names ≡ true → split_wildcard (reference_text r) ≡ r
split_text r bytes = by r.wildcard refl where
  by : (b : Bool) → r.wildcard ≡ b → split_wildcard (r.names ++ (if b then ending else [])) ≡ refers r.names b
  by true is = rw (before_end r.names ending) refl
  by false is = rw (append-nil r.names, no_ending r.names bytes) refl

-- a text that begins with a byte of a name isn't in quotes
not_quoted : (w more : Word) → 0 < length w → list_all is_path_byte w ≡ true → unquoted (w ++ more) ≡ w ++ more
not_quoted [] more some bytes = absurd (omega (arith, some))
not_quoted (b ∷ bs) more some bytes =
    let byte = (and_parts (is_path_byte b) (list_all is_path_byte bs) bytes).0 in
    let other : bytes_eq (b ∷ []) quote ≡ false = grind (arith, nat_tests) in
    rw other refl

pub in_quotes : (text : Word) → unquoted (quoted text) ≡ text
in_quotes text = rw (before_end text quote) refl

-- ---- reading

pub unquoted_is : (w : Word) → (w ≡ unquoted w) ⊎ (w ≡ quoted (unquoted w))
unquoted_is w = by (rest_after quote w) refl where
  within : (rest : Word) (o : Option Word) → rest_after quote w ≡ Some rest → before quote rest ≡ o → (w ≡ option_map_or (λ text. text) o w) ⊎ (w ≡ quoted (option_map_or (λ text. text) o w))
  within rest None front end = inl refl
  within rest (Some text) front end = inr (rest_after_is quote w rest front ∙ ap (λ (t : Word). quote ++ t) (before_is quote rest text end))

  by : (o : Option Word) → rest_after quote w ≡ o → (w ≡ option_map_or (λ text. text) (option_and_then (before quote) o) w) ⊎ (w ≡ quoted (option_map_or (λ text. text) (option_and_then (before quote) o) w))
  by None front = inl refl
  by (Some rest) front = within rest (before quote rest) front refl

faultless : (text : Word) (r : PlainReference) → reference_in text ≡ Ok r → (reference_fault text ≡ None) × (r ≡ split_wildcard text)
faultless text r e = by (reference_fault text) e where
  by : (o : Option Kind) → option_map_or (λ k. Err k) o (Ok (split_wildcard text)) ≡ Ok r → (o ≡ None) × (r ≡ split_wildcard text)
  by None e = let same : r ≡ split_wildcard text = cc in (refl, same)
  by (Some k) e = absurd (cc)

pub split_is_reference : (text : Word) → reference_fault text ≡ None → IsReference (split_wildcard text)
split_is_reference text none =
    let names = names_only REFERENCE_LIMIT text (split_wildcard text).names none in
    record { names = names.0; short = subst (λ (t : Word). length t ≤ REFERENCE_LIMIT) (sym (text_of_split text)) names.1 }

pub read_is_spelled : ReferenceIsSpelled
read_is_spelled w r e =
    let text : Word = unquoted w in
    let none = faultless text r e in
    let spelled : (w ≡ reference_text (split_wildcard text)) ⊎ (w ≡ quoted (reference_text (split_wildcard text))) = rw (text_of_split text) (unquoted_is w) in
    subst (λ (p : PlainReference). SpellsReference w p) (sym none.1) (split_is_reference text none.0, spelled)

text_is_read : (r : PlainReference) → IsReference r → reference_in (reference_text r) ≡ Ok r
text_is_read r is =
    let same = split_text r (names_bytes r.names is.names) in
    let none : reference_fault (reference_text r) ≡ None = names_found REFERENCE_LIMIT (reference_text r) (split_wildcard (reference_text r)).names (subst (λ (p : PlainReference). IsNames p.names) (sym same) is.names) is.short in
    rw (none, same) refl

pub spelled_is_read : SpelledReferenceIsRead
spelled_is_read w r (is, inl plain) = rw (plain, not_quoted r.names _ (names_some r.names is.names) (names_bytes r.names is.names)) (text_is_read r is)
spelled_is_read w r (is, inr marks) = rw (marks, in_quotes (reference_text r)) (text_is_read r is)

-- ---- a reference in quotes is a word: each of its bytes is above a space

above_space : (b : ℕ) → is_path_byte b ≡ true → nat_lt 32 b ≡ true
above_space b e = grind (arith, nat_tests)

ending_bytes : (wildcard : Bool) → list_all (nat_lt 32) (if wildcard then ending else []) ≡ true
ending_bytes true = refl
ending_bytes false = refl

pub quoted_bytes : (r : PlainReference) → IsReference r → list_all (nat_lt 32) (quoted (reference_text r)) ≡ true
quoted_bytes r is =
    let bytes = names_bytes r.names is.names in
    let names : list_all (nat_lt 32) r.names ≡ true = list_all-from_AllPass (nat_lt 32) r.names (λ k d lt. above_space (slice_index_or r.names k d) (AllPass-from_list_all is_path_byte r.names bytes k d lt)) in
    let text : list_all (nat_lt 32) (reference_text r) ≡ true = rw (list_all-append, names, ending_bytes r.wildcard) refl in
    rw (list_all-append, list_all-append, text) refl
