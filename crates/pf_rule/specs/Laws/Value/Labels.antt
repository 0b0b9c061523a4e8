-- A word is read as a label exactly where it spells it.
use Rattle.std.proofs.{Common.{◌≡◌, ℕ, false, List, [], ◌∷◌, ◌⊎◌, Ok, inl, inr, refl, sym, subst, arith}, lemmas.Bool.and_parts, lemmas.Bool.Decides.nat_tests}
use Rattle.std.specs.{List.list_all, Str.bytes_eq}
use Rattle.pf_addr.specs.Path.{Names.{is_name_byte}, References.{quote, quoted, unquoted}}
use Rattle.pf_addr.proofs.{NamesRead.{name_found, name_only}, ReferencesRead.{in_quotes, unquoted_is}}
use Rattle.pf_form.specs.Form.Words.{Word}
use Rattle.pf_rule.specs.declared.value.label.TheConstants.{LABEL_LIMIT}
use Rattle.pf_rule.specs.Value.Values.{IsLabel, SpellsLabel, label_of}

pub label_found : (w : Word) (l : List ℕ) → label_of w ≡ Ok l → SpellsLabel w l
label_found w l e =
    let found = name_found LABEL_LIMIT (unquoted w) l e in
    (found.0, subst (λ (t : Word). (w ≡ t) ⊎ (w ≡ quoted t)) (sym found.1) (unquoted_is w))

-- a label begins with no quote
bare : (l : List ℕ) → IsLabel l → unquoted l ≡ l
bare [] is = absurd (omega (arith, is.some))
bare (b ∷ bs) is =
    let byte = (and_parts (is_name_byte b) (list_all is_name_byte bs) is.bytes).0 in
    let other : bytes_eq (b ∷ []) quote ≡ false = grind (arith, nat_tests) in
    rw other refl

pub label_only : (w : Word) (l : List ℕ) → SpellsLabel w l → label_of w ≡ Ok l
label_only w l (is, inl same) = rw (same, bare l is) (name_only LABEL_LIMIT l is)
label_only w l (is, inr marks) = rw (marks, in_quotes l) (name_only LABEL_LIMIT l is)
