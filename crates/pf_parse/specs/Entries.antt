-- Files of a table's entries (pf.conf(5), TABLES): words between blanks and newlines; one that begins with "#" begins a comment.
use Rattle.std.specs.Prelude.{◌≡◌, ℕ, zero, suc, ◌-◌, ◌==◌, nat_le, nat_lt, ◌&&◌, ◌||◌, not, Bool, true, false, List, [], ◌∷◌, ◌++◌, length, drop, slice_index, take_while, Some, None, Result, Ok, Err, if◌then◌else◌}
use Rattle.std.specs.Option.{option_to_list}
use Rattle.pf_form.specs.Form.Forms.{◌>>=◌}
use Rattle.pf_tokens.specs.declared.place.Place.{Place}
use Rattle.pf_tokens.specs.Places.{start_of, place_after}
use Rattle.pf_tokens.specs.declared.fault.Mistake.TheVariants as token_mistakes
use Rattle.pf_parse.specs.declared.{fault.Stop.Stop, fault.Stop.TheVariants.{Faulty, Needs, Memory}, entries.Front.Front, tree.Entry.Entry}
use Rattle.pf_parse.specs.declared.fault.Mistake.TheVariants as mistakes
use Rattle.pf_parse.specs.{Stops.fault_at, Reading.Word, Values.net_at_place}

abbrev pub is_space : ℕ → Bool
is_space b = (b == 32) || ((b == 9) || (b == 10))

abbrev pub in_word : ℕ → Bool
in_word b = nat_lt 32 b && nat_le b 126

abbrev pub in_line : ℕ → Bool
in_line b = not (b == 10)

-- an entry that a word is, which may have a "!" joined to it
unfoldable pub entry_of : Place → Word → Result Entry Stop
entry_of p [] = net_at_place p [] [] >>= λ n. Ok (record { place = p; net = n; is_negated = false })
entry_of p (b ∷ bs) =
    if b == 33 then (net_at_place p bs (b ∷ bs) >>= λ n. Ok (record { place = p; net = n; is_negated = true }))
    else (net_at_place p (b ∷ bs) (b ∷ bs) >>= λ n. Ok (record { place = p; net = n; is_negated = false }))

-- what stands at the front of a text: an entry, a blank or a comment
unfoldable pub front_of : Place → Word → Result Front Stop
front_of p [] = Ok (record { entry = None; more = 0 })
front_of p (b ∷ bs) =
    if is_space b then Ok (record { entry = None; more = 0 })
    else if b == 35 then Ok (record { entry = None; more = length (take_while in_line bs) })
    else if not (in_word b) then Err (fault_at p (mistakes.Token (token_mistakes.Byte b)))
    else (entry_of p (take_while in_word (b ∷ bs)) >>= λ e. Ok (record { entry = Some e; more = length (take_while in_word (b ∷ bs)) - 1 }))

-- the entries, behind so many bytes that belong to what stands before
unfoldable pub entries_from : ℕ → Place → Word → Result (List Entry) Stop
entries_from more p [] = Ok []
entries_from (suc more) p (b ∷ bs) = entries_from more (place_after b p) bs
entries_from zero p (b ∷ bs) = front_of p (b ∷ bs) >>= λ f. entries_from f.more (place_after b p) bs >>= λ es. Ok (option_to_list f.entry ++ es)

abbrev pub file_entries : ℕ → Word → Result (List Entry) Stop
file_entries number text = entries_from 0 (start_of number) text

-- behind these
abbrev pub onto : List Entry → Result (List Entry) Stop → Result (List Entry) Stop
onto before (Ok es) = Ok (before ++ es)
onto before (Err e) = Err e

-- A function appends what is wanted, unless memory runs out.
abbrev pub Appends : Result (Unit {0}) Stop → List Entry → List Entry → Result (List Entry) Stop → Type 0
Appends (Ok done) old new wanted = onto old wanted ≡ Ok new
Appends (Err (Faulty f)) old new wanted = wanted ≡ Err (Faulty f)
Appends (Err (Needs name)) old new wanted = wanted ≡ Err (Needs name)
Appends (Err Memory) old new wanted = Unit {0}

-- A function that takes the first byte appends the entry that begins with it, and says how many bytes belong to that.
abbrev pub AppendsFirst : Result ℕ Stop → Place → ℕ → Word → List Entry → List Entry → Type 0
AppendsFirst (Ok left) p more text old new =
    onto old (entries_from more p text) ≡ onto new (entries_from left (place_after (slice_index text 0) p) (drop 1 text))
AppendsFirst (Err (Faulty f)) p more text old new = entries_from more p text ≡ Err (Faulty f)
AppendsFirst (Err (Needs name)) p more text old new = entries_from more p text ≡ Err (Needs name)
AppendsFirst (Err Memory) p more text old new = Unit {0}
