-- A word is read as an entry exactly if it spells it, and so a written entry is read back.
use Rattle.std.proofs.{Common.{◌≡◌, ℕ, ◌==◌, Bool, true, false, [], ◌∷◌, Result, Ok, Err, refl, sym, ap, subst, ◌∙◌, arith}, lemmas.Bool.Decides.nat_tests, lemmas.List.Elements.All-head}
use Rattle.std.specs.Prelude.{if◌then◌else◌}
use Rattle.pf_addr.specs.{Address.PlainNet, Grammar.SpellsNet, Reading.{address_at, net_at}, Laws.{Reading.{net_found, net_only, net_without}, Spelling.{IsNetwork, net_text_spells}}, Spelling.net_text}
use Rattle.pf_form.specs.Form.Words.{Word}
use Rattle.pf_addr.specs.declared.fault.AddrFault.{AddrFault}
use Rattle.pf_table.specs.Entries.{PlainEntry}
use Rattle.pf_line.specs.{Reply.Texts.entry_text, Entries.{SpellsEntry, signed, entry_of}}

-- ---- an entry's network

signed_found : (negated : Bool) (r : Result PlainNet AddrFault) (row : PlainEntry) → signed negated r ≡ Ok row → (r ≡ Ok row.0) × (row.1 ≡ negated)
signed_found negated (Ok net) row e = let is : (net, negated) ≡ row = cc in (ap (λ (x : PlainEntry). Ok x.0) is, sym (ap (λ (x : PlainEntry). x.1) is))
signed_found negated (Err f) row e = absurd cc

-- no network's text begins with an exclamation mark (33)
unmarked : (b : ℕ) (bs : Word) (net : PlainNet) → SpellsNet (b ∷ bs) net → (b == 33) ≡ false
unmarked b bs net is = All-head (λ c. (c == 33) ≡ false) b bs (net_without 33 (b ∷ bs) net (record { digit = omega arith; dot = refl; colon = refl }) refl is)

-- ---- an entry

plain_spelled : (w : Word) (row : PlainEntry) → row.1 ≡ false → SpellsNet w row.0 → SpellsEntry w row
plain_spelled w (net, false) e is = is
plain_spelled w (net, true) e is = absurd cc

negated_spelled : (text : Word) (row : PlainEntry) → row.1 ≡ true → SpellsNet text row.0 → SpellsEntry (33 ∷ text) row
negated_spelled text (net, true) e is = (text, refl {a = 33 ∷ text}, is)
negated_spelled text (net, false) e is = absurd cc

pub read_is_spelled : (w : Word) (row : PlainEntry) → entry_of w ≡ Ok row → SpellsEntry w row
unfolding entry_of
read_is_spelled [] row e = absurd cc
read_is_spelled (b ∷ bs) row e = by (b == 33) refl e where
  by : (t : Bool) → (b == 33) ≡ t → (if t then signed true (net_at bs) else signed false (net_at (b ∷ bs))) ≡ Ok row → SpellsEntry (b ∷ bs) row
  by true h e =
      let is : b ≡ 33 = grind (arith, nat_tests) in
      let found = signed_found true (net_at bs) row e in
      subst (λ (c : ℕ). SpellsEntry (c ∷ bs) row) (sym is) (negated_spelled bs row found.1 (net_found bs row.0 found.0))
  by false h e =
      let found = signed_found false (net_at (b ∷ bs)) row e in
      plain_spelled (b ∷ bs) row found.1 (net_found (b ∷ bs) row.0 found.0)

plain_read : (w : Word) (net : PlainNet) → SpellsNet w net → entry_of w ≡ Ok (net, false)
unfolding entry_of address_at
plain_read [] net is = let no : net_at [] ≡ Ok net = net_only [] net is in absurd cc
plain_read (b ∷ bs) net is = rw (unmarked b bs net is, net_only (b ∷ bs) net is) refl

negated_read : (text : Word) (net : PlainNet) → SpellsNet text net → entry_of (33 ∷ text) ≡ Ok (net, true)
unfolding entry_of
negated_read text net is = rw (net_only text net is) refl

pub spelled_is_read : (w : Word) (row : PlainEntry) → SpellsEntry w row → entry_of w ≡ Ok row
spelled_is_read w (net, true) is = ap entry_of is.1 ∙ negated_read is.0 net is.2
spelled_is_read w (net, false) is = plain_read w net is

pub entry_again : (row : PlainEntry) → IsNetwork row.0 → entry_of (entry_text row) ≡ Ok row
entry_again (net, true) is = negated_read (net_text net) net (net_text_spells net is)
entry_again (net, false) is = plain_read (net_text net) net (net_text_spells net is)
