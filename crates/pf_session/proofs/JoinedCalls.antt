-- A command that the Book ran alone or with those of other callers.
use Rattle.std.proofs.Common.{Option, None, Ok, inl, inr, refl}
use Rattle.pf_core.specs.declared.{command.Command.Command}
use Rattle.pf_core.specs.{Durable.Changes.PlainDurable, Worlds.Setting}
use Rattle.pf_line.specs.Reply.Replies.{reply_text}
use Rattle.pf_book.specs.{Groups.{Answered as Receipted}, Receipts.PlainReceipt, Together.IsAnsweredTogether}
use Rattle.pf_session.specs.Server.Sittings.{IsAnsweredInTurn, IsCommandRun, Keeps, RunsBy, Sitting}

module _ (base : PlainDurable) (setting : Setting) (c : Command) where
  in-turn : (last : Option PlainReceipt) (a : Receipted) → IsAnsweredTogether base setting (record { command = c; last = last }) (Ok a) → IsAnsweredInTurn base setting c a.0 a.1 last
  in-turn last a (inl alone) = inl alone
  in-turn last a (inr at) = inr (record { earlier = at.earlier; later = at.later; reported = at.reported; others = at.others; handed = last; group = at.group; in_turn = at.in_turn; place = at.place; last_is = inl refl })

  -- the session handed its receipt in, and keeps the one that it got
  pub joined-replied : (old new : Sitting) (a : Receipted) (left : Option PlainReceipt) → IsAnsweredTogether base setting (record { command = c; last = old.last }) (Ok a)
      → Keeps a.1 (record old { last = left }) new → RunsBy None base setting c old new (reply_text a.0)
  joined-replied old new a left answered keeps =
      let run : IsCommandRun base setting c old new (reply_text a.0) = record {
        reply = a.0;
        slip = a.1;
        answered = in-turn old.last a answered;
        reported = refl;
        keeps = record { kept = keeps.kept; learnt = keeps.learnt; still = keeps.still };
      } in
      inl run
