-- One line, by what it says.
use Rattle.std.proofs.Common.{◌≡◌, ◌≢◌, List, ℕ, Option, Some, None, Result, Ok, Err, IfErr, OnOk, inl, inr, refl, sym, ap}
use Rattle.pf_core.specs.Cores.{PlainCore}
use Rattle.pf_core.specs.declared.reply.Refusal.{Refusal}
use Rattle.pf_core.specs.declared.reply.Refusal.TheVariants as refusals
use Rattle.pf_line.specs.{declared.request.Request.Request, Lines.{Parses, line_at}}
use Rattle.wirdalf_c.specs.declared.lines.{LineRefusal.LineRefusal, LineRefusal.TheVariants.{Refused, Memory}}
use Rattle.wirdalf_c.specs.Lines.{Comes, done_by}

pub silent_comes : (w : PlainCore) (line : List ℕ) (r : Result (Option Request) Refusal) → r ≡ Ok None → Parses r (line_at line) → Comes w line (Ok w)
silent_comes w line r is (inl means) = (r, means, rw is refl)
silent_comes w line r is (inr e) = cc

pub refused_comes : (w : PlainCore) (line : List ℕ) (r : Result (Option Request) Refusal) (e : Refusal) (why : LineRefusal) → r ≡ Err e → Parses r (line_at line)
    → (e ≡ refusals.Memory → why ≡ Memory) → (why ≢ Memory → why ≡ Refused e) → why ≢ Memory → Comes w line (Err why)
refused_comes w line r e why is (inl means) memory refused ne = (r, means, rw is (ap (λ (x : LineRefusal). Err x) (sym (refused ne))))
refused_comes w line r e why is (inr out) memory refused ne = absurd (ne (memory cc))

-- ---- a line that asks something

request_comes : (w : PlainCore) (line : List ℕ) (r : Result (Option Request) Refusal) (q : Request) (to : Result PlainCore LineRefusal) → r ≡ Ok (Some q)
    → Parses r (line_at line) → done_by w (Ok (Some q)) ≡ to → Comes w line to
request_comes w line r q to is (inl means) does = (r, means, rw is does)
request_comes w line r q to is (inr e) does = cc

pub request_done : (w v : PlainCore) (line : List ℕ) (r : Result (Option Request) Refusal) (q : Request) (did : Result (Unit {0}) LineRefusal) → r ≡ Ok (Some q)
    → Parses r (line_at line) → OnOk did (done_by w (Ok (Some q)) ≡ Ok v) → OnOk did (Comes w line (Ok v))
request_done w v line r q (Ok u) is parses does = request_comes w line r q (Ok v) is parses does
request_done w v line r q (Err why) is parses does = does

pub request_refused : (w : PlainCore) (line : List ℕ) (r : Result (Option Request) Refusal) (q : Request) (did : Result (Unit {0}) LineRefusal) → r ≡ Ok (Some q)
    → Parses r (line_at line) → IfErr did (λ why. why ≢ Memory → done_by w (Ok (Some q)) ≡ Err why) → IfErr did (λ why. why ≢ Memory → Comes w line (Err why))
request_refused w line r q (Ok u) is parses does = does
request_refused w line r q (Err why) is parses does = λ ne. request_comes w line r q (Err why) is parses (does ne)
