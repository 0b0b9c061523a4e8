-- All bytes have a reading.
use Rattle.std.proofs.{Common.{◌≡◌, ◌≢◌, ◌⊎◌, ◌+◌, ◌-◌, ◌*◌, ◌<◌, ◌≤◌, ◌==◌, ◌&&◌, ℕ, zero, suc, Bool, true, false, List, [], ◌∷◌, ◌++◌, length, take, drop, if◌then◌else◌, Result, Ok, Err, inl, inr, refl, sym, ap, subst, length-drop, arith}, lemmas.Bool.{cases_eq, cases_lt}, lemmas.Bool.Decides.nat_tests, lemmas.List.{take-append-drop, length-take-le}}
use Rattle.std.specs.Prelude.{nat_lt}
use Rattle.pf_state.specs.{declared.{peer.fault.PeerFault.PeerFault, peer.fault.PeerFault.TheVariants.BadVersion, peer.fault.PeerFault.TheVariants.BadLength, peer.fault.PeerFault.TheVariants.BadAction, peer.fault.OneFault.OneFault, peer.message.Group.Group, peer.message.Message.Message, peer.fields.TheConstants.MESSAGE_VERSION, peer.fields.TheConstants.MESSAGE_HEADER, peer.stream.MessageStart.MessageStart, peer.stream.MessageStart.TheVariants.Partial, peer.stream.MessageStart.TheVariants.Whole, peer.stream.MessageStart.TheVariants.Bad}, Peer.Groups.{group_at, content, is_action, size_at, ◌>>=◌, AreGroups, BreakAfterGroups}, Peer.Messages.{IsWhole, IsJudged}, Peer.Streams.{Ending, Unfinished, Faulty, Reads, IsFront}, Peer.One.{IsOne, one_of}}
use Rattle.pf_rule.specs.Bytes.{number_at, byte_at}

-- ---- groups

-- some groups to the bytes' end, or some and then a fault
abbrev Grouped : List ℕ → Type 0
Grouped bytes = ((gs : List Group) × AreGroups bytes gs) ⊎ ((f : PeerFault) × (before : List Group) × BreakAfterGroups before bytes f)

-- what is at the front, by its tests
abbrev by_tests : Bool → Bool → Bool → Result Group PeerFault → List ℕ → Result (Group × List ℕ) PeerFault
by_tests few acts past read following = if few then Err BadLength
    else (if acts then (if past then Err BadLength else (read >>= λ g. Ok (g, following))) else Err BadAction)

-- what follows a group is shorter
shorter : (bytes following : List ℕ) (g : Group) → group_at bytes ≡ Ok (g, following) → length following < length bytes
unfolding group_at
shorter bytes following g is =
    let acts = is_action (byte_at 0 bytes) && (byte_at 1 bytes == 0) in
    let past = nat_lt (length (drop 4 bytes)) (size_at bytes) in
    by (nat_lt (length bytes) 4) refl acts past (content (byte_at 0 bytes) (number_at 2 2 bytes) (drop 4 bytes)) is
  where
    by : (few : Bool) → nat_lt (length bytes) 4 ≡ few → (acts past : Bool) (read : Result Group PeerFault)
        → by_tests few acts past read (drop (size_at bytes) (drop 4 bytes)) ≡ Ok (g, following) → length following < length bytes
    by true few acts past read e = absurd cc
    by false few false past read e = absurd cc
    by false few true true read e = absurd cc
    by false few true false (Err f) e = absurd cc
    by false few true false (Ok h) e =
        let same : ◌≡◌ {A = Group × List ℕ} (h, drop (size_at bytes) (drop 4 bytes)) (g, following) = cc in
        let enough : 4 ≤ length bytes = grind (arith, nat_tests) in
        subst (λ (l : List ℕ). length l < length bytes) (ap (λ (x : Group × List ℕ). x.1) same)
        (omega (arith, length-drop (size_at bytes) (drop 4 bytes), length-drop 4 bytes))

one_more : (bytes following : List ℕ) (g : Group) → bytes ≢ [] → group_at bytes ≡ Ok (g, following) → Grouped following → Grouped bytes
one_more bytes following g some is (inl (gs, are)) = inl (g ∷ gs, (some, following, is, are))
one_more bytes following g some is (inr (f, before, breaks)) = inr (f, g ∷ before, (some, following, is, breaks))

-- by the group at the front, if what follows it is grouped
by_front : (bytes : List ℕ) → bytes ≢ [] → ((following : List ℕ) → length following < length bytes → Grouped following)
    → (r : Result (Group × List ℕ) PeerFault) → group_at bytes ≡ r → Grouped bytes
by_front bytes some rest (Ok (g, following)) is = one_more bytes following g some is (rest following (shorter bytes following g is))
by_front bytes some rest (Err f) is = inr (f, [], (some, is))

grouped_up_to : (n : ℕ) (bytes : List ℕ) → length bytes ≤ n → Grouped bytes
grouped_up_to n [] few = inl ([], refl)
grouped_up_to zero (b ∷ bytes) few = absurd (omega (arith, few))
grouped_up_to (suc n) (b ∷ bytes) few =
    by_front (b ∷ bytes) (λ e. absurd cc) (λ following less. grouped_up_to n following (omega (arith, less, few))) (group_at (b ∷ bytes)) refl

-- ---- one message

judged_by : (bytes : List ℕ) → IsWhole bytes → Grouped (drop MESSAGE_HEADER bytes) → (r : Result Message PeerFault) × IsJudged bytes r
judged_by bytes whole (inl (gs, are)) = (
  Ok (record { checksum = take 16 (drop 4 bytes); groups = gs }),
  record { whole = whole; checksum = refl; groups = are },
)
judged_by bytes whole (inr (f, before, breaks)) = (Err f, record { whole = whole; before = before; breaks = breaks })

judged : (bytes : List ℕ) → IsWhole bytes → (r : Result Message PeerFault) × IsJudged bytes r
judged bytes whole = judged_by bytes whole (grouped_up_to (length (drop MESSAGE_HEADER bytes)) (drop MESSAGE_HEADER bytes) (omega arith))

-- ---- what is at the start of a message

abbrev SomeFront : List ℕ → Type 0
SomeFront bytes = (front : MessageStart) × IsFront bytes front

-- a version and a zero, or not
abbrev IsVersion : ℕ → ℕ → Type 0
IsVersion v z = ((v ≡ MESSAGE_VERSION) × (z ≡ 0)) ⊎ ((v ≢ MESSAGE_VERSION) ⊎ ((v ≡ MESSAGE_VERSION) × (z ≢ 0)))

version_or_not : (v z : ℕ) → IsVersion v z
version_or_not v z = by (cases_eq v MESSAGE_VERSION) (cases_eq z 0) where
  by : (v ≡ MESSAGE_VERSION) ⊎ (v ≢ MESSAGE_VERSION) → (z ≡ 0) ⊎ (z ≢ 0) → IsVersion v z
  by (inr other) t = inr (inl other)
  by (inl is) (inl none) = inl (is, none)
  by (inl is) (inr some) = inr (inr (is, some))

whole_front : (v z a b : ℕ) (bytes : List ℕ) → (v ≡ MESSAGE_VERSION) × (z ≡ 0) → MESSAGE_HEADER ≤ a * 256 + b → a * 256 + b ≤ length bytes + 4
    → IsWhole (take (a * 256 + b) (v ∷ z ∷ a ∷ b ∷ bytes))
unfolding number_at
whole_front v z a b bytes is enough all = by (a * 256 + b - 4) (omega (arith, enough)) where
  by : (k : ℕ) → a * 256 + b ≡ suc (suc (suc (suc k))) → IsWhole (take (a * 256 + b) (v ∷ z ∷ a ∷ b ∷ bytes))
  by k e =
      let long : length (take k bytes) ≡ k = length-take-le k bytes (omega (arith, e, all)) in
      subst (λ (n : ℕ). IsWhole (take n (v ∷ z ∷ a ∷ b ∷ bytes))) (sym e)
      (record { version = is.0; zero = is.1; measured = omega (arith, e, long); enough = omega (arith, e, long, enough) })

some_front : (bytes : List ℕ) → SomeFront bytes
some_front [] = (Partial, tt)
some_front (v ∷ []) = by (cases_eq v MESSAGE_VERSION) where
  by : (v ≡ MESSAGE_VERSION) ⊎ (v ≢ MESSAGE_VERSION) → SomeFront (v ∷ [])
  by (inl is) = (Partial, is)
  by (inr other) = (Bad BadVersion, inl (refl, other))
some_front (v ∷ z ∷ []) = by (version_or_not v z) where
  by : IsVersion v z → SomeFront (v ∷ z ∷ [])
  by (inl is) = (Partial, is)
  by (inr other) = (Bad BadVersion, inl (refl, other))
some_front (v ∷ z ∷ a ∷ []) = by (version_or_not v z) where
  by : IsVersion v z → SomeFront (v ∷ z ∷ a ∷ [])
  by (inl is) = (Partial, is)
  by (inr other) = (Bad BadVersion, inl (refl, other))
some_front (v ∷ z ∷ a ∷ b ∷ bytes) =
    by (version_or_not v z) (cases_lt (a * 256 + b) MESSAGE_HEADER) (cases_lt (length bytes + 4) (a * 256 + b)) where
      by : IsVersion v z → (a * 256 + b < MESSAGE_HEADER) ⊎ (MESSAGE_HEADER ≤ a * 256 + b)
          → (length bytes + 4 < a * 256 + b) ⊎ (a * 256 + b ≤ length bytes + 4) → SomeFront (v ∷ z ∷ a ∷ b ∷ bytes)
      by (inr other) s t = (Bad BadVersion, inl (refl, other))
      by (inl is) (inl short) t = (Bad BadLength, inr (refl, (is.0, is.1, short)))
      by (inl is) (inr enough) (inl more) = (Partial, (is.0, is.1, enough, more))
      by (inl is) (inr enough) (inr all) = (Whole (a * 256 + b), (omega (arith, all), whole_front v z a b bytes is enough all))

-- ---- all of them

abbrev pub SomeReading : List ℕ → Type 0
SomeReading bytes = (ms : List Message) × (e : Ending) × Reads bytes ms e

read_by : (bytes front following : List ℕ) → bytes ≡ front ++ following → (r : Result Message PeerFault) → IsJudged front r
    → SomeReading following → SomeReading bytes
read_by bytes front following split (Ok m) is rest = (m ∷ rest.0, rest.1, (front, following, split, is, rest.2))
read_by bytes front following split (Err f) is rest =
    ([], Faulty f, inr (record { front = front; following = following; split = split; broken = is }))

-- by what is at the front, if what follows a message has a reading
by_message : (bytes : List ℕ) → ((rest : List ℕ) → length rest < length bytes → SomeReading rest) → SomeFront bytes → SomeReading bytes
by_message bytes rest (Partial, is) = ([], Unfinished bytes, (refl, is))
by_message bytes rest (Bad f, is) = ([], Faulty f, inl is)
by_message bytes rest (Whole size, is) =
    let whole = is.1 in
    let one = judged (take size bytes) whole in
    let some = length-take-le size bytes is.0 in
    let less : length (drop size bytes) < length bytes = omega (arith, is.0, whole.enough, some, length-drop size bytes) in
    read_by bytes (take size bytes) (drop size bytes) (sym (take-append-drop size bytes)) one.0 one.1 (rest (drop size bytes) less)

read_up_to : (n : ℕ) (bytes : List ℕ) → length bytes ≤ n → SomeReading bytes
read_up_to zero bytes few = by_message bytes (λ rest less. absurd (omega (arith, less, few))) (some_front bytes)
read_up_to (suc n) bytes few = by_message bytes (λ rest less. read_up_to n rest (omega (arith, less, few))) (some_front bytes)

pub some_reading : (bytes : List ℕ) → SomeReading bytes
some_reading bytes = read_up_to (length bytes) bytes (omega arith)

pub some_answer : (bytes : List ℕ) → (r : Result Message OneFault) × IsOne bytes r
some_answer bytes = let read = some_reading bytes in (one_of read.0 read.1, (read.0, read.1, read.2, refl))
