-- The text of a ticket: its epoch and its count in decimal digits, with a dot between them.
use Rattle.std.specs.{Prelude.{◌≡◌, ℕ, ◌+◌, ◌==◌, Bool, List, ◌∷◌, ◌++◌, take, drop, Option, Some, None}, List.position}
use Rattle.pf_form.specs.{Form.Words.Word, Form.Numbers.{IsNumberIn, number_in}}
use Rattle.pf_ticket.specs.declared.ticket.Ticket.{Ticket}
use Rattle.pf_ticket.specs.Names.{ticket}
use Rattle.pf_line.specs.declared.ticket.TheConstants.{DIGIT_LIMIT}

-- an epoch or a count: 1 to 10 digits of a number of 32 bits
abbrev pub part_of : Word → Option ℕ
part_of w = number_in 32 DIGIT_LIMIT w

abbrev pub ticket_with : Option ℕ → Option ℕ → Option Ticket
ticket_with (Some e) (Some c) = Some (ticket e c)
ticket_with _ _ = None

abbrev pub is_dot : ℕ → Bool
is_dot b = b == 46

-- given the place of its first dot
abbrev pub cut_at : Word → Option ℕ → Option Ticket
cut_at w None = None
cut_at w (Some i) = ticket_with (part_of (take i w)) (part_of (drop (i + 1) w))

-- the ticket that a word spells
unfoldable pub ticket_of : Word → Option Ticket
ticket_of w = cut_at w (position is_dot w)

-- ---- which words spell a ticket, by cases

-- a number of 32 bits in 1 to 10 decimal digits, with leading zeros allowed
abbrev pub IsPart : List ℕ → ℕ → Type 0
IsPart text n = IsNumberIn 32 DIGIT_LIMIT text n

-- the epoch's digits, a dot (46) and the count's digits
pub record SpellsTicket (t : Ticket) (w : Word) : Type 0 where
  pub front : List ℕ
  pub rest : List ℕ
  pub epoch : IsPart front t.epoch
  pub count : IsPart rest t.count
  pub dotted : w ≡ front ++ 46 ∷ rest
