-- The texts of tickets and of a table's entries.
use Rattle.std.specs.Prelude.{ℕ, Bool, true, false, List, [], ◌∷◌, ◌++◌, decimal}
use Rattle.pf_addr.specs.Spelling.{net_text}
use Rattle.pf_table.specs.Entries.{PlainEntry}
use Rattle.pf_ticket.specs.declared.ticket.Ticket.{Ticket}

-- A ticket is written without leading zeros: its epoch, a dot (46) and its count.
abbrev pub ticket_text : Ticket → List ℕ
ticket_text t = decimal t.epoch ++ 46 ∷ decimal t.count

-- each ticket after a space (32)
abbrev pub tickets_text : List Ticket → List ℕ
tickets_text [] = []
tickets_text (t ∷ ts) = 32 ∷ ticket_text t ++ tickets_text ts

-- an exclamation mark (33) before what is negated
abbrev pub sign_text : Bool → List ℕ
sign_text true = 33 ∷ []
sign_text false = []

-- an entry of a table, as pfctl(8) shows it: its network, after its sign
abbrev pub entry_text : PlainEntry → List ℕ
entry_text row = sign_text row.1 ++ net_text row.0

-- each entry after a space (32)
abbrev pub entries_text : List PlainEntry → List ℕ
entries_text [] = []
entries_text (row ∷ rows) = 32 ∷ entry_text row ++ entries_text rows
