-- A word is read as a ticket exactly if it spells it, and so a written ticket is read back.
use Rattle.std.proofs.{Common.{◌≡◌, ℕ, ◌+◌, ◌^◌, ◌<◌, List, [], ◌∷◌, ◌++◌, length, take, drop, decimal, Some, None, Option, refl, sym, ap, ◌∙◌, arith, append_assoc}, lemmas.Fmt.{decimal_is_IsNumeral, length-decimal-le}, lemmas.List.{take_at, drop_at, length-append}}
use Rattle.std.specs.List.{position}
use Rattle.pf_addr.specs.Laws.Places.{digits_without, place_after, cut_there}
use Rattle.pf_form.specs.{Form.Words.Word, Laws.Form.Numbers.{number_in_found, number_in_only}}
use Rattle.pf_ticket.specs.declared.ticket.Ticket.{Ticket}
use Rattle.pf_line.specs.{Reply.Texts.ticket_text, Tickets.{is_dot, part_of, ticket_with, cut_at, ticket_of, IsPart, SpellsTicket}}

-- ---- an epoch or a count

part_written : (n : ℕ) → n < 2 ^ 32 → IsPart (decimal n) n
part_written n lt =
    let is = decimal_is_IsNumeral n (omega (arith, lt)) in
    record {
      number = record { digits = is.0; few = length-decimal-le 10 n (omega arith) (omega (arith, lt)) (omega (arith, lt)); value = is.1 };
      small = lt;
    }

-- ---- a ticket

after_dot : (xs ys : List ℕ) → drop (length xs + 1) (xs ++ 46 ∷ ys) ≡ ys
after_dot xs ys =
    let joined : xs ++ 46 ∷ ys ≡ (xs ++ 46 ∷ []) ++ ys = sym (append_assoc xs (46 ∷ []) ys) in
    ap (drop (length xs + 1)) joined ∙ drop_at (xs ++ 46 ∷ []) ys (length xs + 1) (length-append xs (46 ∷ []))

pub spelled_is_read : (t : Ticket) (w : Word) → SpellsTicket t w → ticket_of w ≡ Some t
unfolding ticket_of
spelled_is_read t w is =
    rw (is.dotted, place_after 46 is.front is.rest (digits_without 46 is.front (omega arith) is.epoch.number.digits.1), take_at is.front (46 ∷ is.rest) (length is.front) refl, after_dot is.front is.rest, number_in_only 32 10 is.front t.epoch is.epoch, number_in_only 32 10 is.rest t.count is.count) refl

epoch_of : (a b : Option ℕ) (t : Ticket) → ticket_with a b ≡ Some t → a ≡ Some t.epoch
epoch_of a b t e = grind arith

count_of : (a b : Option ℕ) (t : Ticket) → ticket_with a b ≡ Some t → b ≡ Some t.count
count_of a b t e = grind arith

spelled_by : (o : Option ℕ) (t : Ticket) (w : Word) → position is_dot w ≡ o → cut_at w o ≡ Some t → SpellsTicket t w
spelled_by None t w at e = absurd (cc)
spelled_by (Some i) t w at e = record {
  front = take i w;
  rest = drop (i + 1) w;
  epoch = number_in_found 32 10 (take i w) t.epoch (epoch_of (part_of (take i w)) (part_of (drop (i + 1) w)) t e);
  count = number_in_found 32 10 (drop (i + 1) w) t.count (count_of (part_of (take i w)) (part_of (drop (i + 1) w)) t e);
  dotted = cut_there 46 w i at;
}

pub read_is_spelled : (t : Ticket) (w : Word) → ticket_of w ≡ Some t → SpellsTicket t w
unfolding ticket_of
read_is_spelled t w e = spelled_by (position is_dot w) t w refl e

pub ticket_again : (t : Ticket) → t.epoch < 2 ^ 32 → t.count < 2 ^ 32 → ticket_of (ticket_text t) ≡ Some t
ticket_again t e c = spelled_is_read t (ticket_text t) (record { front = decimal t.epoch; rest = decimal t.count; epoch = part_written t.epoch e; count = part_written t.count c; dotted = refl })
