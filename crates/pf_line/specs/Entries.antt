-- Words for a table's entries (pf.conf(5), TABLES).
use Rattle.std.specs.Prelude.{◌≡◌, ◌==◌, Bool, true, false, [], ◌∷◌, codes, Result, Ok, Err, if◌then◌else◌}
use Rattle.std.proofs.Common.{refl}
use Rattle.pf_addr.specs.declared.fault.AddrFault.{AddrFault}
use Rattle.pf_form.specs.declared.form.fault.Kind.{Kind, TheVariants.BadWord}
use Rattle.pf_addr.specs.{Address.{PlainNet, network_of}, Grammar.SpellsNet, Reading.{part_at, pieces_at, v4_at, address_at, net_at}}
use Rattle.pf_form.specs.Form.Words.{Word}
use Rattle.pf_addr.specs.declared.addr.Addr.TheVariants as addr
use Rattle.pf_table.specs.Entries.{PlainEntry}

-- A network, with an exclamation mark (33) joined to it if it is negated.
abbrev pub SpellsEntry : Word → PlainEntry → Type 0
SpellsEntry w (net, true) = (text : Word) × (w ≡ 33 ∷ text) × SpellsNet text net
SpellsEntry w (net, false) = SpellsNet w net

-- what is read as its network; any fault of it makes a bad word
abbrev pub signed : Bool → Result PlainNet AddrFault → Result PlainEntry Kind
signed negated (Ok net) = Ok (net, negated)
signed negated (Err e) = Err BadWord

-- the entry that a word spells
unfoldable pub entry_of : Word → Result PlainEntry Kind
entry_of [] = Err BadWord
entry_of (b ∷ bs) = if b == 33 then signed true (net_at bs) else signed false (net_at (b ∷ bs))

pub entry_taken : entry_of (codes "0.0.0.0") ≡ Ok (network_of (addr.V4 0), false)
unfolding entry_of part_at pieces_at v4_at address_at
entry_taken = refl
