-- No word without quotes is added.
use Rattle.std.proofs.Common.{◌≡◌, ℕ, zero, suc, Bool, true, false, List, [], ◌∷◌, ◌++◌, Option, Some, None, refl, arith, if◌then◌else◌, ◌==◌}
use Rattle.std.specs.Prelude.{All, Contains, codes}
use Rattle.std.specs.List.{flat_map}
use Rattle.std.proofs.lemmas.List.Elements.{All-nil, All-cons, All-tail, All-append, All-weaker, All-contains, All-contains_itself}
use Rattle.pf_tokens.specs.declared.{place.Place.Place, token.Token.Token, token.Kind.TheVariants.{Word, Quoted}}
use Rattle.pf_tokens.specs.Words.{same_kind}
use Rattle.pf_values.specs.Numbers.{Word as Text}
use Rattle.pf_values.specs.declared.interfaces.{interface.Interface.Interface, mention.Mention.Mention, hosts.Context.Context}
use Rattle.pf_values.specs.Interfaces.{Hosts.beginning, Addresses.{token_at, symbol_at, host_at, hosts_at, listed, mention_at, front_by, front_of, known_from, with_addresses}, Laws.HasTheWordsOf}

-- it is no word without quotes
abbrev IsOther : Token → Type 0
IsOther t = same_kind t.kind Word ≡ false

-- if it is one, it is among these
abbrev IsOf : List Token → Token → Type 0
IsOf all t = same_kind t.kind Word ≡ true → Contains all t

alone : (t : Token) → IsOther t → All IsOther (t ∷ [])
alone t is = All-cons IsOther t [] is (All-nil IsOther)

one_host : (p : Place) (negated : Bool) (text : Text) → All IsOther (host_at p negated text)
one_host p true text = All-cons IsOther (symbol_at p (codes "!")) (token_at p Quoted text ∷ []) refl (alone (token_at p Quoted text) refl)
one_host p false text = alone (token_at p Quoted text) refl

each_host : (p : Place) (negated : Bool) (texts : List Text) → All IsOther (flat_map (host_at p negated) texts)
each_host p negated [] = All-nil IsOther
each_host p negated (text ∷ texts) = All-append IsOther (host_at p negated text) (flat_map (host_at p negated) texts)
    (one_host p negated text) (each_host p negated texts)

as_list : (m : Mention) → All IsOther (symbol_at m.place (codes "{") ∷ hosts_at m ++ symbol_at m.place (codes "}") ∷ [])
as_list m =
    All-append IsOther (symbol_at m.place (codes "{") ∷ hosts_at m) (symbol_at m.place (codes "}") ∷ [])
    (All-cons IsOther (symbol_at m.place (codes "{")) (hosts_at m) refl (each_host m.place m.is_negated m.texts))
    (alone (symbol_at m.place (codes "}")) refl)

in_list : (deep : ℕ) (m : Mention) → All IsOther (listed deep m)
in_list deep m =
    elim (deep == 0) as (λ b. All IsOther
    (if b then (symbol_at m.place (codes "{") ∷ hosts_at m) ++ symbol_at m.place (codes "}") ∷ [] else hosts_at m)) [
      | true ↦ as_list m
      | false ↦ each_host m.place m.is_negated m.texts
    ]

other_of : (all : List Token) (t : Token) → IsOther t → IsOf all t
other_of all t is word = absurd (cc)

in_front : (all : List Token) (c : Context) (t : Token) (m : Option Mention) → Contains all t → All (IsOf all) (front_by c t m).tokens
in_front all c t None among = All-cons (IsOf all) t [] (λ word. among) (All-nil (IsOf all))
in_front all c t (Some m) among = All-weaker IsOther (IsOf all) (other_of all) (listed c.deep m) (in_list c.deep m)

words_from : (all : List Token) (is : List Interface) (more : ℕ) (c : Context) (ts : List Token) → All (Contains all) ts
    → All (IsOf all) (known_from is more c ts)
unfolding known_from front_of
words_from all is more c [] among = All-nil (IsOf all)
words_from all is (suc more) c (t ∷ ts) among = words_from all is more c ts (All-tail (Contains all) t ts among)
words_from all is zero c (t ∷ ts) among =
    let f = front_by c t (mention_at is c (t ∷ ts)) in
    All-append (IsOf all) f.tokens (known_from is f.more f.context ts)
    (in_front all c t (mention_at is c (t ∷ ts)) (among 0 t (omega arith)))
    (words_from all is f.more f.context ts (All-tail (Contains all) t ts among))

pub words_are : (is : List Interface) (ts : List Token) → HasTheWordsOf ts (with_addresses is ts)
words_are [] ts t among word = among
words_are (i ∷ is) ts t among word = All-contains (IsOf ts) (known_from (i ∷ is) 0 beginning ts) t
    (words_from ts (i ∷ is) 0 beginning ts (All-contains_itself ts)) among word
